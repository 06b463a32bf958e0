use Rattle.std.proofs.Common.{refl}
use Rattle.contest_http.proofs.reply.write_reply.Goals as goal

pub returns-in-Ok-clause-ok : goal.returns-in-Ok-clause-ok
returns-in-Ok-clause-ok g c =
    (_, record { date = c.in-Some.date; seconds = rw c.milliseconds.ensures.value at c.in-Some.ensures.date; spelling = refl }, c.in-Ok.ensures.ok)

pub returns-in-Err-clause-err : goal.returns-in-Err-clause-err
returns-in-Err-clause-err g c =
    (_, record { date = c.in-Some.date; seconds = rw c.milliseconds.ensures.value at c.in-Some.ensures.date; spelling = refl }, c.in-Err.ensures.err)
