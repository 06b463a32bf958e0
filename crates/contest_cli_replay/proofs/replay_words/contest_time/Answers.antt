use Rattle.std.proofs.Common.{arith}
use Rattle.std.proofs.lemmas.Int.{ints}
use Rattle.contest_types.proofs.RelTimeLemmas.{one_shown}
use Rattle.contest_cli_replay.proofs.replay_words.contest_time.Goals as goal

pub returns-then-milliseconds-lt0-clause-none : goal.returns-then-milliseconds-lt0-clause-none
returns-then-milliseconds-lt0-clause-none c = λ time h.
    let same = one_shown c.args.text.now time c.in-Some.time h.0 c.in-Some.ensures.found in
    let below = c.if-milliseconds-lt0.true in
    let is = c.milliseconds.ensures.value in
    let least = h.1 in
    omega (arith, ints)

pub returns-in-None-clause-none : goal.returns-in-None-clause-none
returns-in-None-clause-none c = λ time h. c.in-None.ensures.none time h.0
