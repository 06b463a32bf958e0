-- Worked examples of bodies that change the clock of the contest `demo`.
use Rattle.std.proofs.Common.{◌≡◌, ◌+◌, ◌*◌, ℕ, List, Option, Some, None, refl}
use Rattle.std.specs.Prelude.{codes, pos, negsuc}
use Rattle.std.specs.Str.{chars, is_utf8}
use Rattle.jiff.proofs.OnLiterals.{jiff_on_literals}
use Rattle.serde_json.proofs.OnLiterals.{serde_json_on_literals}
use Rattle.contest_types.specs.MomentText.{latest}
use Rattle.contest_rules.specs.declared.clock_changes.WantedClock.{WantedClock}
use Rattle.contest_rules.specs.declared.clock_changes.WantedClock.TheVariants.{Start, Thaw}
use Rattle.contest_files.specs.JsonMembers.{data_of}
use Rattle.contest_requests.specs.ClockBodies.{clock_in, moment_at}

abbrev asked : (body : List ℕ) → Option WantedClock
asked body = clock_in (codes "demo") body

-- a start that is null is there, and unset; what isn't asked for is ignored
unset : asked (codes "{\"start_time\":null}") ≡ Some (Start None)
unfolding chars data_of is_utf8 serde_json_on_literals
unset = refl

named : asked (codes "{\"id\":\"demo\",\"name\":\"Demo Cup\",\"start_time\":null}") ≡ Some (Start None)
unfolding chars data_of is_utf8 serde_json_on_literals
named = refl

-- an id that is there is the contest's
other_id : asked (codes "{\"id\":\"other\",\"start_time\":null}") ≡ None
unfolding chars data_of is_utf8 serde_json_on_literals
other_id = refl

id_of_null : asked (codes "{\"id\":null,\"start_time\":null}") ≡ None
unfolding chars data_of is_utf8 serde_json_on_literals
id_of_null = refl

-- a thaw can't be unset
thaw_of_null : asked (codes "{\"scoreboard_thaw_time\":null}") ≡ None
unfolding chars data_of is_utf8 serde_json_on_literals
thaw_of_null = refl

-- one of the two is there, and no more
neither : asked (codes "{\"id\":\"demo\"}") ≡ None
unfolding chars data_of is_utf8 serde_json_on_literals
neither = refl

both : asked (codes "{\"start_time\":null,\"scoreboard_thaw_time\":\"2024-03-02T14:00:00Z\"}") ≡ None
unfolding chars data_of is_utf8 serde_json_on_literals
both = refl

both_null : asked (codes "{\"scoreboard_thaw_time\":null,\"start_time\":null}") ≡ None
unfolding chars data_of is_utf8 serde_json_on_literals
both_null = refl

-- a moment is a text that jiff reads
text : asked (codes "{\"scoreboard_thaw_time\":\"2024-03-02T14:00:00.5+01:00\"}") ≡ Some (Thaw 1_709_384_400_500)
unfolding chars data_of is_utf8 serde_json_on_literals jiff_on_literals
text = refl

number : asked (codes "{\"start_time\":0}") ≡ None
unfolding chars data_of is_utf8 serde_json_on_literals
number = refl

-- another value is no such object
no_object : asked (codes "[null]") ≡ None
unfolding chars data_of is_utf8 serde_json_on_literals
no_object = refl

-- whole milliseconds from 1970 on, up to the last
first : moment_at (pos 0) ≡ Some 0
first = refl

last : moment_at (pos (latest * 1_000_000)) ≡ Some latest
last = refl

past : moment_at (pos ((latest + 1) * 1_000_000)) ≡ None
past = refl

before : moment_at (negsuc 999_999) ≡ None
before = refl

between : moment_at (pos 1_500_000) ≡ None
between = refl
