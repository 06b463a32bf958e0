use Rattle.std.proofs.Common.{rules}
use Rattle.contest_http.proofs.RestLemmas.{taken_front}
use Rattle.contest_http.proofs.request.read_plan.Goals as goal

pub returns-in-Err-Read-clause-err : goal.returns-in-Err-Read-clause-err
returns-in-Err-Read-clause-err g c input left p q = taken_front input left (rw (p, q) at c.in-Err-Read.ensures.err)

pub returns-clause-err : goal.returns-clause-err
returns-clause-err g c input left p q = (taken_front input left (rw (p, q) at c.in-Err-Memory.ensures.err), λ h. absurd (search (rules, h)))
