use Rattle.std.proofs.Common.{◌≡◌, ◌∙◌, ◌+◌, ◌++◌, ◌∷◌, Err, List, [], ap, append-nil, arith, codes, length, map, subst, sym}
use Rattle.std.proofs.lemmas.List.{length-map}
use Rattle.contest_streams.specs.Streams.{stream}
use Rattle.contest_objects.specs.CollectionObjects.{event_of}
use Rattle.contest_objects.specs.ContestObjects.{whole_data}
use Rattle.contest_objects.specs.EventFeed.{FeedEvent, event_line, feed_text, lines_from, whole_event}
use Rattle.contest_objects.specs.declared.contest_objects.ContestEndpoint.TheVariants.{Contest, State}
use Rattle.contest_view.specs.Feeding.{Writes}
use Rattle.contest_view.specs.declared.seen.Seen.{Seen}
use Rattle.contest_view.proofs.FeedLemmas.{lines_of_both, passed_on, writes_front, writes_then}
use Rattle.contest_view.proofs.feed.write_events.Goals as goal

abbrev first : Seen → FeedEvent
first s = whole_event (codes "contest") (whole_data Contest s.lists.now.fixed s.now)

abbrev last : Seen → FeedEvent
last s = whole_event (codes "state") (whole_data State s.lists.now.fixed s.now)

-- the text, by its three parts
parts : (s : Seen) (es : List FeedEvent) → event_line 1 (first s) ++ (lines_from 2 es ++ lines_from (2 + length es) (last s ∷ [])) ≡ feed_text (first s ∷ es ++ last s ∷ [])
parts s es = ap (λ ls. event_line 1 (first s) ++ ls) (sym (lines_of_both 2 es (last s ∷ [])))

pub returns-in_err-write_line-clause-written : goal.returns-in_err-write_line-clause-written
returns-in_err-write_line-clause-written g c =
    let s = c.args.seen.now in
    let es = map event_of c.args.objects.now in
    let o = stream g.W.Write.contents c.args.out.now in
    let n = stream g.W.Write.contents c.write_line.new.out in
    let fault = c.in_err-write_line.field-0.0 in
    let line = event_line 1 (first s) in
    let w : Writes (Err fault) o n line = c.in_err-write_line.ensures.written line c.whole_line-contest.ensures in
    passed_on c.from_residual.result fault o n (feed_text (first s ∷ es ++ last s ∷ [])) c.from_residual.ensures.1
    (writes_front fault o n line (lines_from 2 (es ++ last s ∷ [])) w)

pub returns-in_err-write_objects-clause-written : goal.returns-in_err-write_objects-clause-written
returns-in_err-write_objects-clause-written g c =
    let s = c.args.seen.now in
    let es = map event_of c.args.objects.now in
    let o = stream g.W.Write.contents c.args.out.now in
    let m = stream g.W.Write.contents c.write_line.new.out in
    let n = stream g.W.Write.contents c.write_objects.new.out in
    let fault = c.in_err-write_objects.field-0.0 in
    let line = event_line 1 (first s) in
    let rest = lines_from (2 + length es) (last s ∷ []) in
    let w : Writes (Err fault) m n (lines_from 2 es) = c.in_err-write_objects.ensures.written in
    passed_on c.from_residual-in_err-write_objects.result fault o n (feed_text (first s ∷ es ++ last s ∷ [])) c.from_residual-in_err-write_objects.ensures.1
    (subst (Writes (Err fault) o n) (parts s es)
    (writes_then (Err fault) o m n line (lines_from 2 es ++ rest) (c.in_ok-write_line.ensures.written line c.whole_line-contest.ensures)
    (writes_front fault m n (lines_from 2 es) rest w)))

pub returns-clause-written : goal.returns-clause-written
returns-clause-written g c =
    let s = c.args.seen.now in
    let es = map event_of c.args.objects.now in
    let o = stream g.W.Write.contents c.args.out.now in
    let m = stream g.W.Write.contents c.write_line.new.out in
    let p = stream g.W.Write.contents c.write_objects.new.out in
    let n = stream g.W.Write.contents c.write_line-2.new.out in
    let line = event_line 1 (first s) in
    let number : length c.args.objects.now + 2 ≡ 2 + length es = omega (arith, length-map c.args.objects.now event_of) in
    let ending = event_line (2 + length es) (last s) in
    let w : Writes c.write_line-2.result p n ending = c.write_line-2.ensures.written ending (rw (← number) c.whole_line-state.ensures) in
    let all : Writes c.write_line-2.result o n (line ++ (lines_from 2 es ++ ending)) =
    writes_then c.write_line-2.result o m n line (lines_from 2 es ++ ending) (c.in_ok-write_line.ensures.written line c.whole_line-contest.ensures)
    (writes_then c.write_line-2.result m p n (lines_from 2 es) ending c.in_ok-write_objects.ensures.written w) in
    subst (Writes c.write_line-2.result o n) (ap (λ e. line ++ (lines_from 2 es ++ e)) (sym (append-nil ending)) ∙ parts s es) all
