use Rattle.std.proofs.Common.{◌≡◌, [], drop, take}
use Rattle.std.specs.Prelude.{fold}
use Rattle.contest_feed_reader.specs.References.{earlier, problem_faults}
use Rattle.contest_feed_reader.proofs.first_fault.note_problems.Given as goal

abbrev pub invariant-loop-place : goal.invariant-loop-place
invariant-loop-place l = fold earlier l.first (problem_faults (take l.place l.problems) (drop l.place l.problems)) ≡ fold earlier l.fn.first (problem_faults [] l.problems)
