use Rattle.std.proofs.lemmas.Result.{err_from_is_err_and}
use Rattle.contest_requests.proofs.BodyLemmas.{clarification_to}
use Rattle.contest_requests.proofs.clarification_body.clarification_of.Goals as goal

pub returns-in_err-to-clause-err : goal.returns-in_err-to-clause-err
returns-in_err-to-clause-err c =
    let from = c.from_residual-in_err-to in
    let p = err_from_is_err_and from.result from.ensures.1 in
    rw (p.1, p.2) (clarification_to _ _ _ _ _ _ c.in_ok-text.ensures.ok c.in_ok-problem.ensures.ok c.in_ok-reply.ensures.ok c.in_ok-from_team.ensures.ok c.in_err-to.ensures.err)
