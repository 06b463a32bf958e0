use Rattle.std.proofs.Common.{inr, subst}
use Rattle.contest_streams.specs.Streams.{Failed}
use Rattle.contest_http.proofs.ServeLemmas.{answers_alike, serves_asked, serves_failed, serves_nothing, serves_refused}
use Rattle.contest_http.proofs.serving.serve_one.Goals as goal

pub returns-in-Nothing-clause-bytes : goal.returns-in-Nothing-clause-bytes
returns-in-Nothing-clause-bytes g c input left p q =
    serves_nothing g.S.ContestStore.kept input left _ _ c.args.now c.args.desk.now (rw c.in-Nothing.is at (c.in-Ok.ensures.bytes input left p q))

pub returns-in-Refused-clause-bytes : goal.returns-in-Refused-clause-bytes
returns-in-Refused-clause-bytes g c input left p q =
    let read = rw c.in-Refused.is at (c.in-Ok.ensures.bytes input left p q) in
    serves_refused g.S.ContestStore.kept input left _ _ _ c.args.now c.args.desk.now c.in-Refused.refusal c.in-Refused.head_only c.refused-reply.result c.answer.result
    read c.refused-reply.ensures c.answer.ensures.bytes

pub returns-in-Refused-clause-isolated : goal.returns-in-Refused-clause-isolated
returns-in-Refused-clause-isolated g c input left p q clean =
    answers_alike g.S.ContestStore.kept input left _ _ c.args.now c.args.desk.now c.args.desk.now c.answer.result (returns-in-Refused-clause-bytes g c input left p q) clean

pub returns-in-Asked-clause-bytes : goal.returns-in-Asked-clause-bytes
returns-in-Asked-clause-bytes g c input left p q =
    let read = rw c.in-Asked.is at (c.in-Ok.ensures.bytes input left p q) in
    let e = c.handle-reply.ensures in
    serves_asked g.S.ContestStore.kept input left _ _ _ c.args.now c.args.desk.now c.handle-reply.new.self c.in-Asked.credential c.in-Asked.request c.in-Asked.head_only
    c.handle-reply.result c.answer-in-Asked.result read record { answered = e.reply; leaves = e.leaves; isolated = e.isolated; memory = e.memory } c.answer-in-Asked.ensures.bytes

pub returns-in-Asked-clause-handled : goal.returns-in-Asked-clause-handled
returns-in-Asked-clause-handled g c =
    let e = c.handle-reply.ensures in
    inr (
      c.in-Asked.credential,
      c.in-Asked.request,
      c.handle-reply.result,
      record { answered = e.reply; leaves = e.leaves; isolated = e.isolated; memory = e.memory },
    )

pub returns-in-Asked-clause-isolated : goal.returns-in-Asked-clause-isolated
returns-in-Asked-clause-isolated g c input left p q clean =
    answers_alike g.S.ContestStore.kept input left _ _ c.args.now c.args.desk.now c.handle-reply.new.self c.answer-in-Asked.result (returns-in-Asked-clause-bytes g c input left p q) clean

pub returns-in-Err-clause-bytes : goal.returns-in-Err-clause-bytes
returns-in-Err-clause-bytes g c input left p q =
    serves_failed g.S.ContestStore.kept input left _ _ c.args.now c.args.desk.now c.in-Err.fault (c.in-Err.ensures.bytes input left p q)

pub returns-in-Asked-clause-write : goal.returns-in-Asked-clause-write
returns-in-Asked-clause-write g c e = subst (λ faults. Failed faults c.answer-in-Asked.new.writer.faults) c.in-Ok.ensures.calm (c.answer-in-Asked.ensures.write e)
