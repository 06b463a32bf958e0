use Rattle.std.proofs.Common.{nat_eq}
use Rattle.std.specs.HashMap.{get}
use Rattle.std.specs.Map.{count_at}
use Rattle.contest_store_valid.proofs.TimeLemmas.{AreInTime}
use Rattle.contest_store_valid.proofs.times.times_never_fall.Given as goal

abbrev pub invariant-loop-submission : goal.invariant-loop-submission
invariant-loop-submission l = AreInTime l.submissions l.submission-index (count_at (get nat_eq l.last))
