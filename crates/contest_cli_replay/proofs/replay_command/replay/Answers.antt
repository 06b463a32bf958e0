use Rattle.std.proofs.Common.{map}
use Rattle.contest_cli_replay.proofs.ReplayLemmas.{shown, stopped}
use Rattle.contest_cli_replay.proofs.replay_command.replay.Goals as goal

pub returns-in-Ok : goal.returns-in-Ok
returns-in-Ok g c =
    shown (map (λ s. s.now) c.args.words.now) _ _ _ _ _ _ _ _ _ c.in-Ok.ensures.ok c.as_bytes.ensures.value c.show.ensures

pub returns-in-Err : goal.returns-in-Err
returns-in-Err g c =
    stopped (map (λ s. s.now) c.args.words.now) _ _ _ _ _ c.in-Err.stop _ c.in-Err.ensures.err
    c.refuse.ensures.status c.refuse.ensures.told
