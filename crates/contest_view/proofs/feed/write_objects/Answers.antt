use Rattle.std.proofs.Common.{◌≡◌, ◌∙◌, ◌+◌, ◌++◌, Err, ap, arith, drop, get_or, map, subst, sym, take}
use Rattle.std.proofs.Math.ListN.{get_or-map}
use Rattle.std.proofs.lemmas.List.{length-map}
use Rattle.std.specs.Io.KnownBytes.{Appends}
use Rattle.std.proofs.KnownBytes.{Appends-trans}
use Rattle.contest_streams.specs.Streams.{stream}
use Rattle.contest_objects.specs.CollectionObjects.{event_of}
use Rattle.contest_objects.specs.EventFeed.{event_line, lines_from}
use Rattle.contest_view.specs.Feeding.{Writes}
use Rattle.contest_view.proofs.FeedLemmas.{lines_in_two, one_more_line, passed_on, writes_front, writes_then}
use Rattle.contest_view.proofs.feed.write_objects.Goals as goal

pub returns-in_err-write_line-clause-written : goal.returns-in_err-write_line-clause-written
returns-in_err-write_line-clause-written g c =
    let o = stream g.W.Write.contents c.args.out.now in
    let m = stream g.W.Write.contents c.loop-place.out in
    let n = stream g.W.Write.contents c.write_line.new.out in
    let k = c.loop-place.place in
    let object = c.index-objects-place.result in
    let events = map event_of c.args.objects.now in
    let fault = c.in_err-write_line.field-0.0 in
    let there : get_or events k (event_of object) ≡ event_of object = get_or-map event_of c.args.objects.now k object ∙ ap event_of (sym c.index-objects-place.is) in
    let number : k + 2 ≡ 2 + k = omega arith in
    let so_far = lines_from 2 (take k events) in
    let line = event_line (2 + k) (get_or events k (event_of object)) in
    let w : Writes (Err fault) m n line = rw (there, ← number) (c.in_err-write_line.ensures.written (event_line (k + 2) (event_of object)) c.event_line.ensures) in
    let more : lines_from 2 (take (k + 1) events) ≡ so_far ++ line = one_more_line 2 events k (event_of object) (rw (length-map c.args.objects.now event_of) c.loop-place-test.true) in
    let rest = lines_from (2 + (k + 1)) (drop (k + 1) events) in
    let whole : lines_from 2 events ≡ (so_far ++ line) ++ rest = lines_in_two 2 events (k + 1) ∙ ap (λ ls. ls ++ rest) more in
    passed_on c.from_residual.result fault o n (lines_from 2 events) c.from_residual.ensures.1
    (subst (Writes (Err fault) o n) (sym whole) (writes_front fault o n (so_far ++ line) rest (writes_then (Err fault) o m n so_far line c.loop-place.invariant.written w)))

pub loop-place-preserved : goal.loop-place-preserved
loop-place-preserved g c =
    let o = g.W.Write.contents c.args.out.now.inner in
    let m = g.W.Write.contents c.loop-place.out.inner in
    let n = g.W.Write.contents c.write_line.new.out.inner in
    let k = c.loop-place.place in
    let object = c.index-objects-place.result in
    let events = map event_of c.args.objects.now in
    let there : get_or events k (event_of object) ≡ event_of object = get_or-map event_of c.args.objects.now k object ∙ ap event_of (sym c.index-objects-place.is) in
    let number : k + 2 ≡ 2 + k = omega arith in
    let one : Appends m n (event_line (2 + k) (get_or events k (event_of object))) =
    rw (there, ← number) (c.in_ok-write_line.ensures.written (event_line (k + 2) (event_of object)) c.event_line.ensures) in
    record {
      written = subst (Appends o n) (sym (one_more_line 2 events k (event_of object) (rw (length-map c.args.objects.now event_of) c.loop-place-test.true)))
          (Appends-trans o m n (lines_from 2 (take k events)) (event_line (2 + k) (get_or events k (event_of object))) c.loop-place.invariant.written one);
      calm = c.in_ok-write_line.ensures.calm ∙ c.loop-place.invariant.calm;
    }
