use Rattle.std.proofs.lemmas.Result.{err_from_is_err_and}
use Rattle.contest_requests.proofs.BodyLemmas.{submission_problem, submission_language, submission_entry, submission_team, submission_file, submission_whole}
use Rattle.contest_requests.proofs.submission_body.submission_of.Goals as goal

pub returns-in_err-problem-clause-err : goal.returns-in_err-problem-clause-err
returns-in_err-problem-clause-err c =
    let p = err_from_is_err_and c.from_residual.result c.from_residual.ensures.1 in rw (p.1, p.2) (submission_problem _ _ c.in_err-problem.ensures.err)

pub returns-in_err-language-clause-err : goal.returns-in_err-language-clause-err
returns-in_err-language-clause-err c =
    let from = c.from_residual-in_err-language in
    let p = err_from_is_err_and from.result from.ensures.1 in rw (p.1, p.2) (submission_language _ _ _ c.in_ok-problem.ensures.ok c.in_err-language.ensures.err)

pub returns-in_err-entry_point-clause-err : goal.returns-in_err-entry_point-clause-err
returns-in_err-entry_point-clause-err c =
    let from = c.from_residual-in_err-entry_point in
    let p = err_from_is_err_and from.result from.ensures.1 in rw (p.1, p.2) (submission_entry _ _ _ _ c.in_ok-problem.ensures.ok c.in_ok-language.ensures.ok c.in_err-entry_point.ensures.err)

pub returns-in_err-team-clause-err : goal.returns-in_err-team-clause-err
returns-in_err-team-clause-err c =
    let from = c.from_residual-in_err-team in
    let p = err_from_is_err_and from.result from.ensures.1 in rw (p.1, p.2) (submission_team _ _ _ _ _ c.in_ok-problem.ensures.ok c.in_ok-language.ensures.ok c.in_ok-entry_point.ensures.ok c.in_err-team.ensures.err)

pub returns-in_err-file-clause-err : goal.returns-in_err-file-clause-err
returns-in_err-file-clause-err c =
    let from = c.from_residual-in_err-file in
    let p = err_from_is_err_and from.result from.ensures.1 in rw (p.1, p.2) (submission_file _ _ _ _ _ _ c.in_ok-problem.ensures.ok c.in_ok-language.ensures.ok c.in_ok-entry_point.ensures.ok c.in_ok-team.ensures.ok c.in_err-file.ensures.err)

pub returns-clause-ok : goal.returns-clause-ok
returns-clause-ok c = submission_whole _ _ _ _ _ _ c.in_ok-problem.ensures.ok c.in_ok-language.ensures.ok c.in_ok-entry_point.ensures.ok c.in_ok-team.ensures.ok c.in_ok-file.ensures.ok
