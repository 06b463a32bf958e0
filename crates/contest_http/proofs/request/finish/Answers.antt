use Rattle.std.proofs.Common.{inl, inr}
use Rattle.contest_http.proofs.RestLemmas.{rest_ended, rest_refused, rest_taken}
use Rattle.contest_http.proofs.request.finish.Goals as goal

pub returns-in-Ok-Some-clause-ok : goal.returns-in-Ok-Some-clause-ok
returns-in-Ok-Some-clause-ok g c rest left p q =
    let body = rw c.in-Ok-Some.field-0-is at (c.in-Ok-Some.ensures.ok rest left p q) in
    rw c.from_vec.ensures (inl (rest_taken c.args.expected rest left c.in-Ok-Some.body.items c.is_head-head_only.result body c.is_head-head_only.ensures))

pub returns-in-Ok-None-clause-ok : goal.returns-in-Ok-None-clause-ok
returns-in-Ok-None-clause-ok g c rest left p q =
    let ended = rw c.in-Ok-None.field-0-is at (c.in-Ok-None.ensures.ok rest left p q) in
    inl (rest_ended c.args.expected rest left c.is_head-head_only.result ended c.is_head-head_only.ensures)

pub returns-clause-ok : goal.returns-clause-ok
returns-clause-ok g c rest left p q =
    inr (rest_refused c.args.expected rest left c.is_head-head_only.result (rw (p, q) at c.in-Err-Memory.ensures.err) c.is_head-head_only.ensures)
