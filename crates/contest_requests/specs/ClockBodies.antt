-- The body that changes a contest's clock (Contest API 2023-06, contests: PATCH of the start and of the thaw; that it has just
-- one of these members is own).
use Rattle.std.specs.Prelude.{ℕ, ◌/◌, ◌%◌, Bool, true, false, ◌&&◌, ◌==◌, nat_le, ℤ, pos, negsuc, List, Option, Some, None, is_some, Result, Err, codes, if◌then◌else◌}
use Rattle.std.specs.Option.{ok_or, option_map, option_map_or, option_and_then}
use Rattle.std.specs.Result.{result_ok}
use Rattle.std.specs.Str.{bytes_eq}
use Rattle.jiff.specs.Words.{parse_timestamp}
use Rattle.serde_json.specs.Data.{Data}
use Rattle.serde_json.specs.Find.{get, as_null, as_str}
use Rattle.contest_types.specs.MomentText.{latest}
use Rattle.contest_types.specs.declared.refusal.Refusal.{Refusal}
use Rattle.contest_types.specs.declared.refusal.Refusal.TheVariants.{Malformed, RoleForbids}
use Rattle.contest_rules.specs.declared.clock_changes.WantedClock.{WantedClock}
use Rattle.contest_rules.specs.declared.clock_changes.WantedClock.TheVariants.{Start, Thaw}
use Rattle.contest_files.specs.JsonMembers.{data_of}

-- so many nanoseconds since 1970, if they are whole milliseconds up to the last moment
abbrev pub moment_at : ℤ → Option ℕ
moment_at (pos n) = if (n % 1_000_000 == 0) && nat_le (n / 1_000_000) latest then Some (n / 1_000_000) else None
moment_at (negsuc n) = None

-- the moment that a text shows, as jiff reads an instant
abbrev pub moment_of : List ℕ → Option ℕ
moment_of text = option_and_then moment_at (result_ok (parse_timestamp text))

-- a value that is a moment
abbrev pub time_of : Data → Option ℕ
time_of d = option_and_then moment_of (as_str d)

-- a start: a moment, or null where it is unset
abbrev pub start_of : Data → Option (Option ℕ)
start_of d = if is_some (as_null d) then Some None else option_map Some (time_of d)

-- one of the two members is there, and not the other; one that is null is there
abbrev pub wanted_of : (start thaw : Option Data) → Option WantedClock
wanted_of (Some start) None = option_map Start (start_of start)
wanted_of None (Some thaw) = option_map Thaw (time_of thaw)
wanted_of _ _ = None

-- an id that is there is the contest's
abbrev pub is_named : (contest : List ℕ) → Option Data → Bool
is_named contest None = true
is_named contest (Some id) = option_map_or (bytes_eq contest) (as_str id) false

-- what a posted object asks of the clock of the contest with this id
abbrev pub clock_of : (contest : List ℕ) → Data → Option WantedClock
clock_of contest d = if is_named contest (get (codes "id") d) then wanted_of (get (codes "start_time") d) (get (codes "scoreboard_thaw_time") d) else None

-- what a body asks
abbrev pub clock_in : (contest : List ℕ) → (body : List ℕ) → Option WantedClock
clock_in contest body = option_and_then (clock_of contest) (data_of body)

-- only an administrator changes the clock
abbrev pub posted_clock : (is_admin : Bool) → (contest : List ℕ) → (body : List ℕ) → Result WantedClock Refusal
posted_clock is_admin contest body = if is_admin then ok_or (clock_in contest body) Malformed else Err RoleForbids
