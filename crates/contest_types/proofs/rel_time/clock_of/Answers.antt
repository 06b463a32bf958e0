use Rattle.std.proofs.Common.{arith}
use Rattle.contest_types.proofs.RelTimeLemmas.{closed, no_seconds, no_minutes, no_hours, no_sixty, one_total}
use Rattle.contest_types.proofs.rel_time.clock_of.Goals as goal

pub returns-in_err-front-clause-none : goal.returns-in_err-front-clause-none
returns-in_err-front-clause-none c = rw c.from_residual.ensures (no_seconds _ _ _ c.fraction_of-thousandths.ensures.split c.in_err-front.ensures.none)

pub returns-in_err-front-2-clause-none : goal.returns-in_err-front-2-clause-none
returns-in_err-front-2-clause-none c = rw c.from_residual-in_err-front-2.ensures (no_minutes _ _ _ _ _ c.fraction_of-thousandths.ensures.split c.in_ok-front.ensures.found c.in_err-front-2.ensures.none)

pub returns-in_err-hours-clause-none : goal.returns-in_err-hours-clause-none
returns-in_err-hours-clause-none c = rw c.from_residual-in_err-hours.ensures (no_hours _ _ _ _ _ _ _ c.fraction_of-thousandths.ensures.split c.in_ok-front.ensures.found c.in_ok-front-2.ensures.found c.in_err-hours.ensures)

pub returns-then-not-are_below_60-clause-none : goal.returns-then-not-are_below_60-clause-none
returns-then-not-are_below_60-clause-none c =
    no_sixty _ _ _ _ _ _ _ c.fraction_of-thousandths.ensures.split c.in_ok-front.ensures.found c.in_ok-front-2.ensures.found (c.are_below_60.ensures.no c.if-not-are_below_60.true)

pub returns-then-n-le-LAST_MOMENT-clause-found : goal.returns-then-n-le-LAST_MOMENT-clause-found
returns-then-n-le-LAST_MOMENT-clause-found c =
    closed _ _ _ _ _ _ _ _ c.fraction_of-thousandths.ensures.split c.in_ok-front.ensures.found c.in_ok-front-2.ensures.found c.in_ok-hours.ensures.0.0 (omega arith) (omega arith) (omega (arith, c.in_ok-hours.ensures.1)) (omega arith)

pub returns-else-n-le-LAST_MOMENT-clause-none : goal.returns-else-n-le-LAST_MOMENT-clause-none
returns-else-n-le-LAST_MOMENT-clause-none c =
    λ n h. omega (arith, one_total _ _ _ _ _ _ _ n c.fraction_of-thousandths.ensures.split c.in_ok-front.ensures.found c.in_ok-front-2.ensures.found h, h.4, c.in_ok-hours.ensures.1)
