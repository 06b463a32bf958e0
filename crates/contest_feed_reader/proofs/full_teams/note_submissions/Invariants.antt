use Rattle.std.proofs.Common.{◌≡◌, [], drop, take, List, ℕ}
use Rattle.std.specs.Prelude.{fold}
use Rattle.contest_feed_reader.specs.IdSets.{IsIdSet}
use Rattle.contest_feed_reader.specs.References.{earlier, submission_faults}
use Rattle.contest_feed_reader.specs.TeamCounts.{AreCounted}
use Rattle.contest_feed_reader.proofs.full_teams.note_submissions.Given as goal

-- the faults so far, with how many of each team count
abbrev pub invariant-loop-place : goal.invariant-loop-place
invariant-loop-place l = record {
  counted : AreCounted l.duration l.counted (take l.place l.submissions);
  faults : (ts ps : List (List ℕ)) → IsIdSet l.teams ts → IsIdSet l.problems ps
      → fold earlier l.first (submission_faults l.duration ts ps (take l.place l.submissions) (drop l.place l.submissions))
      ≡ fold earlier l.fn.first (submission_faults l.duration ts ps [] l.submissions);
}
