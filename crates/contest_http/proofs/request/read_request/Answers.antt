use Rattle.contest_http.proofs.RestLemmas.{is_some_of, join_memory, join_none, join_refused, join_rest}
use Rattle.contest_http.proofs.request.read_request.Goals as goal

pub returns-in-None-clause-bytes : goal.returns-in-None-clause-bytes
returns-in-None-clause-bytes g c input left p q =
    join_none input left _ (rw c.in-None.is at (c.in-Ok.ensures.ok input left p q))

pub returns-in-Refuse-clause-bytes : goal.returns-in-Refuse-clause-bytes
returns-in-Refuse-clause-bytes g c input left p q =
    join_refused input left _ c.in-Refuse.refusal c.in-Refuse.head_only (rw (c.in-Some.is, c.in-Refuse.is) at (c.in-Ok.ensures.ok input left p q))

pub returns-in-Expect-clause-bytes : goal.returns-in-Expect-clause-bytes
returns-in-Expect-clause-bytes g c input left p q =
    join_rest _ input left c.in-Expect.expected _ _ _ (c.in-Ok.ensures.known (is_some_of _ input p))
    (λ rest e. rw (c.in-Some.is, c.in-Expect.is) at (c.in-Ok.ensures.ok input rest p e))
    (λ rest e. c.read_rest.ensures.bytes rest left e q)

pub returns-in-Memory-clause-bytes : goal.returns-in-Memory-clause-bytes
returns-in-Memory-clause-bytes g c input left p q =
    let stops = rw c.in-Memory.is at (c.in-Err.ensures.err input left p q) in
    join_memory input left _ c.in-Memory.head_only stops.0 stops.1
