-- When results are final (Contest API 2023-06, state; own).
use Rattle.std.specs.Prelude.{ℕ, Bool, ◌&&◌, ◌||◌, is_none}
use Rattle.contest_types.specs.Clock.{freeze_of, is_thawed, is_finalized}
use Rattle.contest_types.specs.Setup.{Setup}
use Rattle.contest_types.specs.declared.marks.Marks.{Marks}

-- no verdict is held back from anybody now: there is no freeze moment, or it is thawed
abbrev pub holds_nothing : Setup → Marks → ℕ → Bool
holds_nothing s marks now = is_none (freeze_of s marks) || is_thawed marks now

-- results are final for everybody: made so, and nothing is held back
abbrev pub is_final : Setup → Marks → ℕ → Bool
is_final s marks now = is_finalized marks now && holds_nothing s marks now
