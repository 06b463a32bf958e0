use Rattle.std.proofs.Common.{map, ap, Err}
use Rattle.contest_cli_replay.proofs.ReplayLemmas.{whole_gives, refusal_stops, fault_stops}
use Rattle.contest_cli_replay.proofs.replay_command.board_text.Goals as goal

pub returns-in-Ok-replay_text-clause-ok : goal.returns-in-Ok-replay_text-clause-ok
returns-in-Ok-replay_text-clause-ok g c =
    let words = map (λ s. s.now) c.args.words.now in
    whole_gives words c.in_ok-asked.asked _ _ _ _ _ c.in_ok-asked.ensures.ok c.in-Ok.ensures.ok
    c.deref.ensures.value c.in-Ok-replay_text.ensures.ok

pub returns-in-Ok-clause-err : goal.returns-in-Ok-clause-err
returns-in-Ok-clause-err g c =
    let words = map (λ s. s.now) c.args.words.now in
    refusal_stops words c.in_ok-asked.asked _ _ _ _ _ c.in_ok-asked.ensures.ok c.in-Ok.ensures.ok
    c.deref.ensures.value c.in-Err-replay_text.ensures.err

pub returns-clause-err : goal.returns-clause-err
returns-clause-err g c =
    let words = map (λ s. s.now) c.args.words.now in
    rw c.from.ensures (fault_stops words c.in_ok-asked.asked _ _ c.in-Err.fault c.in_ok-asked.ensures.ok
    (λ e. c.in-Err.ensures.too_large (ap Err e)) (λ e. c.in-Err.ensures.failed (ap Err e)))
