use Rattle.std.proofs.Common.{ap, Err}
use Rattle.std.proofs.lemmas.Result.{err_from_is_err_and}
use Rattle.contest_streams.specs.Streams.{stream}
use Rattle.contest_cli_commands.proofs.InitLemmas.{unread_stops, unsaid_stops}
use Rattle.contest_cli_commands.proofs.init_command.contest_from.Goals as goal

pub returns-in_err-bytes-clause-err : goal.returns-in_err-bytes-clause-err
returns-in_err-bytes-clause-err g c =
    let from = c.from_residual in
    let p = err_from_is_err_and from.result from.ensures.1 in
    let e = c.in_err-bytes in
    rw (p.1, p.2) (unread_stops (stream g.R.Read.remaining c.args.reader.now) (stream g.R.Read.remaining c.read_limited.new.reader) _
    (λ is. e.ensures.too_large (ap Err is)) (λ is. e.ensures.failed (ap Err is)))

pub returns-in_err-contest-clause-err : goal.returns-in_err-contest-clause-err
returns-in_err-contest-clause-err g c =
    let from = c.from_residual-in_err-contest in
    let p = err_from_is_err_and from.result from.ensures.1 in
    rw (p.1, p.2) (unsaid_stops (stream g.R.Read.remaining c.args.reader.now) (stream g.R.Read.remaining c.read_limited.new.reader) _ _ _ _
    c.in_ok-bytes.ensures.ok c.deref.ensures.value c.in_err-contest.ensures.err)
