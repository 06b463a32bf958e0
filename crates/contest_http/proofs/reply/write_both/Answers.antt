use Rattle.contest_streams.proofs.StreamLemmas.{front_second}
use Rattle.contest_http.proofs.reply.write_both.Goals as goal

pub returns-in-Err-write_all-clause-err : goal.returns-in-Err-write_all-clause-err
returns-in-Err-write_all-clause-err g c =
    front_second _ _ _ c.args.first.now c.args.second.now c.in-Ok.ensures.ok c.in-Err-write_all.ensures.err
