-- The contest's clock: its end, its freeze, its thaw (Contest API 2023-06, contest and state
-- objects; DOMjudge manual: the freeze goes by submission time). Moments are milliseconds since 1970.
use Rattle.std.specs.Prelude.{ℕ, ◌+◌, ◌-◌, Bool, false, not, ◌&&◌, nat_le, Option, Some, None, if◌then◌else◌}
use Rattle.contest_types.specs.declared.marks.Marks.{Marks}
use Rattle.contest_types.specs.declared.audience.Phase.{Phase}
use Rattle.contest_types.specs.declared.audience.Phase.TheVariants as phase
use Rattle.contest_types.specs.Setup.{Setup}

-- at or after a moment that is there
abbrev pub reached : Option ℕ → ℕ → Bool
reached None time = false
reached (Some moment) time = nat_le moment time

-- so long after a moment, where that is there
abbrev pub moment_after : Option ℕ → ℕ → Option ℕ
moment_after None span = None
moment_after (Some moment) span = Some (moment + span)

-- so long before a moment, where both are there
abbrev pub moment_before : Option ℕ → Option ℕ → Option ℕ
moment_before None span = None
moment_before (Some moment) None = None
moment_before (Some moment) (Some span) = Some (moment - span)

-- the end: the start and the duration
abbrev pub end_of : Setup → Marks → Option ℕ
end_of s marks = moment_after marks.start s.head.duration

-- where the contest stands: running from the start on, up to the end
abbrev pub phase_at : Setup → Marks → ℕ → Phase
phase_at s marks now =
    if not (reached marks.start now) then phase.Before else (if reached (end_of s marks) now then phase.Ended else phase.Running)

-- the freeze moment: so long before the end
abbrev pub freeze_of : Setup → Marks → Option ℕ
freeze_of s marks = moment_before (end_of s marks) s.head.freeze

-- a submission of this time is frozen: at the freeze moment or after it
abbrev pub is_frozen : Setup → Marks → ℕ → Bool
is_frozen s marks time = reached (freeze_of s marks) time

-- frozen verdicts are public now
abbrev pub is_thawed : Marks → ℕ → Bool
is_thawed marks now = reached marks.thaw now

-- the freeze lasts now
abbrev pub is_freezing : Setup → Marks → ℕ → Bool
is_freezing s marks now = is_frozen s marks now && not (is_thawed marks now)

-- the results are final now
abbrev pub is_finalized : Marks → ℕ → Bool
is_finalized marks now = reached marks.finalized now
