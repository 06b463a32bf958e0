-- The moments of the state object (Contest API 2023-06, contest state). A moment is there once it has come,
-- and not before: whether results are final or thawed for awards and boards is another question.
use Rattle.std.specs.Prelude.{ℕ, nat_le, Option, None, Some, if◌then◌else◌}
use Rattle.contest_types.specs.Setup.{Setup}
use Rattle.contest_types.specs.Clock.{reached, end_of, freeze_of}
use Rattle.contest_types.specs.declared.marks.Marks.{Marks}
pub use Rattle.contest_objects.specs.declared.state_object.StateTimes.{StateTimes}

-- a moment that is there and not after now
abbrev pub come : Option ℕ → (now : ℕ) → Option ℕ
come moment now = if reached moment now then moment else None

-- the second moment, where the first is there
abbrev pub once : Option ℕ → Option ℕ → Option ℕ
once None moment = None
once (Some first) moment = moment

abbrev pub later_moment : ℕ → ℕ → ℕ
later_moment a b = if nat_le a b then b else a

-- the later of both, where both are there
abbrev pub both_come : Option ℕ → Option ℕ → Option ℕ
both_come (Some a) (Some b) = Some (later_moment a b)
both_come _ _ = None

-- a thaw follows a freeze, and final results follow the end; nothing changes after the last of them
abbrev pub last_update : (freeze thawed finalized : Option ℕ) → Option ℕ
last_update None thawed finalized = finalized
last_update (Some freeze) thawed finalized = both_come thawed finalized

-- the thaw, once there is something to thaw
abbrev pub thawed_from : Setup → Marks → (now : ℕ) → Option ℕ
thawed_from s marks now = once (come (freeze_of s marks) now) (come marks.thaw now)

-- the final results, once the contest has ended
abbrev pub final_from : Setup → Marks → (now : ℕ) → Option ℕ
final_from s marks now = once (come (end_of s marks) now) (come marks.finalized now)

abbrev pub state_times : Setup → Marks → (now : ℕ) → StateTimes
state_times s marks now = record {
  started = come marks.start now;
  frozen = come (freeze_of s marks) now;
  ended = come (end_of s marks) now;
  thawed = thawed_from s marks now;
  finalized = final_from s marks now;
  end_of_updates = last_update (freeze_of s marks) (thawed_from s marks now) (final_from s marks now);
}
