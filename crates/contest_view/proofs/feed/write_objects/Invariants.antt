use Rattle.std.proofs.Common.{◌≡◌, map, take}
use Rattle.std.specs.Io.KnownBytes.{Appends}
use Rattle.contest_objects.specs.CollectionObjects.{event_of}
use Rattle.contest_objects.specs.EventFeed.{lines_from}
use Rattle.contest_view.proofs.feed.write_objects.Given as goal

-- as many lines are out, and no call failed
abbrev pub invariant-loop-place : goal.invariant-loop-place
invariant-loop-place g l = record {
  written : Appends (g.W.Write.contents l.fn.out.inner) (g.W.Write.contents l.out.inner) (lines_from 2 (take l.place (map event_of l.objects)));
  calm : l.out.faults ≡ l.fn.out.faults;
}
