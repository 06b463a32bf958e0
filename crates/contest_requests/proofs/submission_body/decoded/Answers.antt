use Rattle.base64.specs.Engines.{standard}
use Rattle.contest_requests.proofs.BodyLemmas.{decoded_of_ok, decoding_refused}
use Rattle.contest_requests.proofs.submission_body.decoded.Goals as goal

pub returns-in-Ok-clause-ok : goal.returns-in-Ok-clause-ok
returns-in-Ok-clause-ok c =
    rw c.as_bytes.ensures.value at (decoded_of_ok standard c.as_bytes.result.now c.in-Ok.bytes.items c.in-Ok.ensures.ok)

pub returns-in-Err-clause-err : goal.returns-in-Err-clause-err
returns-in-Err-clause-err c =
    rw c.refusal_of_decoding.ensures (rw c.as_bytes.ensures.value at (decoding_refused standard c.as_bytes.result.now _ c.in-Err.ensures.err))
