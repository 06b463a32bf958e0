use Rattle.std.proofs.lemmas.Result.{IfOk-weaker, MatchResult-weaker}
use Rattle.sqlite.specs.Held.{state}
use Rattle.contest_streams.specs.Streams.{stream}
use Rattle.contest_cli_commands.proofs.InitLemmas.{contest_stops, file_stops, leaves_file, leaves_same}
use Rattle.contest_cli_commands.proofs.init_command.init.Goals as goal

pub returns-in-Ok-clause-ok : goal.returns-in-Ok-clause-ok
returns-in-Ok-clause-ok g c = IfOk-weaker c.set_up.result _ _ (λ after sets. (c.in-Ok.contest, c.in-Ok.ensures.ok, sets)) c.set_up.ensures.ok

pub returns-in-Ok-clause-err : goal.returns-in-Ok-clause-err
returns-in-Ok-clause-err g c =
    MatchResult-weaker c.set_up.result c.set_up.ensures.err (λ _ is. is)
    (λ e stops. contest_stops (stream g.R.Read.remaining c.args.reader.now) (stream g.R.Read.remaining c.contest_from.new.reader) c.in-Ok.contest _ _ e.0 c.in-Ok.ensures.ok stops)

pub returns-in-Ok-clause-leaves : goal.returns-in-Ok-clause-leaves
returns-in-Ok-clause-leaves g c =
    let input = stream g.R.Read.remaining c.args.reader.now in
    let old = state g.S.Store c.args.conn in
    MatchResult-weaker c.set_up.result c.set_up.ensures.leaves
    (λ after survives. leaves_file input c.in-Ok.contest old _ c.in-Ok.ensures.ok survives)
    (λ e survives. leaves_file input c.in-Ok.contest old _ c.in-Ok.ensures.ok survives)

pub returns-in-Err-clause-err : goal.returns-in-Err-clause-err
returns-in-Err-clause-err g c =
    file_stops (stream g.R.Read.remaining c.args.reader.now) (stream g.R.Read.remaining c.contest_from.new.reader) (state g.S.Store c.args.conn) c.in-Err.stop c.in-Err.ensures.err

pub returns-in-Err-clause-leaves : goal.returns-in-Err-clause-leaves
returns-in-Err-clause-leaves g c = leaves_same (stream g.R.Read.remaining c.args.reader.now) (state g.S.Store c.args.conn)
