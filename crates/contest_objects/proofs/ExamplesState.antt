-- The state object's moments, computed: five hours from moment 1000, the last of them frozen.
use Rattle.std.proofs.Common.{◌≡◌, refl}
use Rattle.std.specs.Prelude.{ℕ, ◌+◌, Option, Some, None}
use Rattle.contest_types.specs.declared.marks.Marks.{Marks}
use Rattle.contest_types.proofs.ExampleContest.{settings, hours}
use Rattle.contest_objects.specs.StateObject.{state_times}

abbrev from : ℕ
from = 1000

abbrev marks : Option ℕ → Option ℕ → Marks
marks thaw finalized = record { start = Some from; thaw = thaw; finalized = finalized }

abbrev frozen_at : ℕ
frozen_at = from + hours 4

abbrev ended_at : ℕ
ended_at = from + hours 5

-- a millisecond before the start nothing has come
not_begun : state_times settings (marks None None) 999 ≡ record { started = None; frozen = None; ended = None; thawed = None; finalized = None; end_of_updates = None }
not_begun = refl

-- at the freeze moment it is frozen
at_freeze : state_times settings (marks None None) frozen_at ≡ record { started = Some from; frozen = Some frozen_at; ended = None; thawed = None; finalized = None; end_of_updates = None }
at_freeze = refl

-- a mark that stands before its time is told only once the freeze, or the end, has come
early_marks : state_times settings (marks (Some 2000) (Some 3000)) (hours 1) ≡ record { started = Some from; frozen = None; ended = None; thawed = None; finalized = None; end_of_updates = None }
early_marks = refl

-- the last update is the later of the thaw and the final results
all_over : state_times settings (marks (Some (ended_at + 7)) (Some (ended_at + 5))) (ended_at + 7) ≡ record { started = Some from; frozen = Some frozen_at; ended = Some ended_at; thawed = Some (ended_at + 7); finalized = Some (ended_at + 5); end_of_updates = Some (ended_at + 7) }
all_over = refl

-- without a freeze the final results are the last update
without_freeze : (state_times (record settings { head = record settings.head { freeze = None } }) (marks None (Some (ended_at + 5))) (ended_at + 7)).end_of_updates ≡ Some (ended_at + 5)
without_freeze = refl
