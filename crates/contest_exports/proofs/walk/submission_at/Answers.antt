use Rattle.std.proofs.Common.{◌≡◌, ◌∙◌, ◌+◌, ap, rules, sym, arith}
use Rattle.std.specs.Prelude.{slice_get}
use Rattle.contest_types.specs.State.{ContestState, submissions_of}
use Rattle.contest_exports.proofs.WalkRows.{found_at, none_at_zero}
use Rattle.contest_exports.proofs.walk.submission_at.Goals as goal

pub returns-in_err-checked_sub : goal.returns-in_err-checked_sub
returns-in_err-checked_sub c = λ x valid are.
    let zero : c.args.numbers.1 ≡ 0 = omega (arith, c.in_err-checked_sub.ensures) in
    rw (zero, none_at_zero x valid c.args.numbers.0) (search rules)

pub returns : goal.returns
returns c = λ x valid are.
    let place = c.in_ok-checked_sub.field-0 in
    let next : c.args.numbers.1 ≡ 1 + place = omega (arith, c.in_ok-checked_sub.ensures.0, c.in_ok-checked_sub.ensures.1) in
    let loaded = ap (λ (y : ContestState). y.submissions) are in
    rw next (c.submission_of.ensures ∙ (ap (λ rows. slice_get (submissions_of c.args.numbers.0 rows) place) loaded ∙ sym (found_at x valid c.args.numbers.0 place)))
