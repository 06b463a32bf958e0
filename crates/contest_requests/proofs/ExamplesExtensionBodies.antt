-- Worked examples of bodies that ask for an extension.
use Rattle.std.proofs.Common.{◌≡◌, ◌+◌, ◌*◌, ℕ, Option, Some, None, refl}
use Rattle.std.specs.Prelude.{codes}
use Rattle.std.specs.Str.{chars, is_utf8}
use Rattle.serde_json.proofs.OnLiterals.{serde_json_on_literals}
use Rattle.contest_files.specs.JsonMembers.{data_of}
use Rattle.contest_requests.specs.ExtensionBodies.{extension_in}

abbrev minutes : ℕ → ℕ
minutes n = n * 60_000

-- a duration alone, and with a freeze duration; what isn't asked for is ignored
longer : extension_in (codes "{\"duration\":\"5:20:00\"}") ≡ Some (record { duration = minutes 320; freeze = None })
unfolding chars data_of is_utf8 serde_json_on_literals
longer = refl

with_freeze : extension_in (codes "{\"scoreboard_freeze_duration\":\"0:30:00.000\",\"id\":7,\"duration\":\"5:20:00.000\"}") ≡ Some (record { duration = minutes 320; freeze = Some (minutes 30) })
unfolding chars data_of is_utf8 serde_json_on_literals
with_freeze = refl

-- over zero, and at most 1000 hours
none : extension_in (codes "{\"duration\":\"0:00:00\"}") ≡ None
unfolding chars data_of is_utf8 serde_json_on_literals
none = refl

longest : extension_in (codes "{\"duration\":\"1000:00:00\"}") ≡ Some (record { duration = minutes 60_000; freeze = None })
unfolding chars data_of is_utf8 serde_json_on_literals
longest = refl

too_long : extension_in (codes "{\"duration\":\"1000:00:00.001\"}") ≡ None
unfolding chars data_of is_utf8 serde_json_on_literals
too_long = refl

-- the freeze is no longer than the contest, and one that is null is off the form
all_frozen : extension_in (codes "{\"duration\":\"1:00:00\",\"scoreboard_freeze_duration\":\"1:00:00\"}") ≡ Some (record { duration = minutes 60; freeze = Some (minutes 60) })
unfolding chars data_of is_utf8 serde_json_on_literals
all_frozen = refl

over_frozen : extension_in (codes "{\"duration\":\"1:00:00\",\"scoreboard_freeze_duration\":\"1:00:00.001\"}") ≡ None
unfolding chars data_of is_utf8 serde_json_on_literals
over_frozen = refl

null_freeze : extension_in (codes "{\"duration\":\"1:00:00\",\"scoreboard_freeze_duration\":null}") ≡ None
unfolding chars data_of is_utf8 serde_json_on_literals
null_freeze = refl

no_duration : extension_in (codes "{\"scoreboard_freeze_duration\":\"1:00:00\"}") ≡ None
unfolding chars data_of is_utf8 serde_json_on_literals
no_duration = refl
