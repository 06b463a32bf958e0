use Rattle.std.proofs.Common.{◌≡◌, ◌∙◌, ◌+◌, ap, arith, length, map, subst, suc, sym}
use Rattle.std.specs.List.{flat_map}
use Rattle.contest_streams.specs.Streams.{stream}
use Rattle.std.specs.Io.KnownBytes.{Appends}
use Rattle.contest_streams.specs.Streams.{AppendsFront}
use Rattle.contest_exports.specs.Exports.{next_record}
use Rattle.contest_exports.specs.SubmissionsCsv.{record_of}
use Rattle.contest_exports.specs.Walks.{all_in_order, given_by, numbers_of, order_in, stepped}
use Rattle.contest_exports.proofs.ExportWritten.{WrittenSoFar, front_if_err, front_more, stepped_within, written_more}
use Rattle.contest_exports.proofs.export.write_rows.Goals as goal

pub write_next-requires-clause-over : goal.write_next-requires-clause-over
write_next-requires-clause-over g c = λ clean.
    let so_far = c.loop.invariant.written.reads in
    c.loop.invariant.order ∙ (c.requires.over (so_far.clean clean) ∙ ap (λ x. map numbers_of (all_in_order x)) (sym (so_far.ok clean).now_is))

pub returns-in_err-write_next-clause-written : goal.returns-in_err-write_next-clause-written
returns-in_err-write_next-clause-written g c = λ clean.
    let old = g.S.ContestStore.kept c.args.store.now in
    let mid = g.S.ContestStore.kept c.loop.store in
    let o = stream g.W.Write.contents c.args.out.now in
    let m = stream g.W.Write.contents c.loop.out in
    let n = stream g.W.Write.contents c.write_next.new.out in
    front_if_err c.from_residual.result o n (flat_map (record_of old.contest) (all_in_order old.contest)) c.from_residual.ensures.0
    (front_more old mid o m n c.loop.counter (c.in_err-write_next.ensures.leaves.clean clean) c.loop.invariant.written
    (subst (λ k. AppendsFront m.bytes n.bytes (next_record mid.contest k)) c.loop.invariant.given (c.in_err-write_next.ensures.written clean)))

pub loop-preserved : goal.loop-preserved
loop-preserved g c =
    let old = g.S.ContestStore.kept c.args.store.now in
    let mid = g.S.ContestStore.kept c.loop.store in
    let new = g.S.ContestStore.kept c.write_next.new.store in
    let o = stream g.W.Write.contents c.args.out.now in
    let m = stream g.W.Write.contents c.loop.out in
    let n = stream g.W.Write.contents c.write_next.new.out in
    let k = c.loop.counter in
    let next : suc k ≡ k + 1 = omega arith in
    record {
      written = subst (WrittenSoFar old new o n) next
          (written_more old mid new o m n k c.loop.invariant.written (λ clean. subst (λ j. Appends m.bytes n.bytes (next_record mid.contest j)) c.loop.invariant.given (c.in_ok-write_next.ensures.written clean))
          c.in_ok-write_next.ensures.calm c.in_ok-write_next.ensures.leaves);
      order = c.write_next.ensures.order ∙ c.loop.invariant.order;
      given = c.in_ok-write_next.ensures.counts ∙ (ap (λ order. stepped (length order) (given_by c.loop.walk)) c.loop.invariant.order ∙ (ap (stepped (length (order_in c.args.walk.now))) c.loop.invariant.given ∙ stepped_within (length (order_in c.args.walk.now)) k (rw c.len-end.ensures at c.loop-test.true)));
    }
