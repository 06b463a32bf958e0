-- The settings, the accounts and the marks of a contest as rows of its tables. Settings of each kind are counted
-- from 1, in the order in which they were added.
use Rattle.std.specs.Prelude.{ℕ, ◌++◌, Bool, List, [], ◌∷◌, map, false, Option, None, Some}
use Rattle.std.specs.List.{join_with_byte}
use Rattle.sqlite.specs.Values.{or_null}
use Rattle.sqlite_value.specs.declared.value.Value.TheVariants.{Text, Blob}
use Rattle.sqlite_value.specs.Order.{Row}
use Rattle.contest_types.specs.Setup.{Setup}
use Rattle.contest_types.specs.SettingsNames.{group_id_at}
use Rattle.contest_types.specs.State.{FixedPart}
use Rattle.contest_types.specs.TeamPlaces.{team_id_at}
use Rattle.contest_types.specs.declared.account.Account.{Account}
use Rattle.contest_types.specs.declared.account.Role.{Role}
use Rattle.contest_types.specs.declared.account.Role.TheVariants as role
use Rattle.contest_types.specs.declared.objects.JudgementType.{JudgementType}
use Rattle.contest_types.specs.declared.objects.Language.{Language}
use Rattle.contest_types.specs.declared.objects.Problem.{Problem}
use Rattle.contest_types.specs.declared.objects.Group.{Group}
use Rattle.contest_types.specs.declared.objects.Team.{Team}
use Rattle.contest_store_rows.specs.Cells.{number, flag, numbered}
use Rattle.contest_store_rows.specs.declared.versions.Version.{Version}
use Rattle.contest_store_rows.specs.declared.versions.Version.TheVariants.{First, Second}

abbrev pub version_number : Version → ℕ
version_number First = 1
version_number Second = 2

-- the only row of its table is number 1; it says the version of the schema
abbrev pub desk_row : Version → Row
desk_row version = number 1 ∷ number (version_number version) ∷ []

abbrev pub contest_row : FixedPart → Row
contest_row f =
    number 1 ∷ Text f.settings.head.id ∷ Text f.settings.head.name ∷ number f.settings.head.duration ∷ or_null number f.settings.head.freeze
    ∷ number f.settings.head.penalty_time ∷ flag f.settings.head.verification
    ∷ number f.settings.head.medals.gold ∷ number f.settings.head.medals.silver ∷ number f.settings.head.medals.bronze
    ∷ or_null number f.marks.start ∷ or_null number f.marks.thaw ∷ or_null number f.marks.finalized ∷ []

-- a row of the settings: its kind, its number among those, its id and its name; what a kind has no use for is 0 or empty
abbrev pub item_row : (kind n : ℕ) → (id name label : List ℕ) → (ordinal : ℕ) → (flag_a flag_b : Bool) → (group_ids : List ℕ) → Row
item_row kind n id name label ordinal flag_a flag_b group_ids =
    number kind ∷ number n ∷ Text id ∷ Text name ∷ Text label ∷ number ordinal ∷ flag flag_a ∷ flag flag_b ∷ Text group_ids ∷ []

abbrev pub type_row : ℕ → JudgementType → Row
type_row n t = item_row 0 n t.id t.name [] 0 t.solved t.penalty []

abbrev pub language_row : ℕ → Language → Row
language_row n l = item_row 1 n l.id l.name [] 0 l.entry_point_required false []

abbrev pub group_row : ℕ → Group → Row
group_row n g = item_row 2 n g.id g.name [] 0 false false []

abbrev pub problem_row : ℕ → Problem → Row
problem_row n p = item_row 3 n p.id p.name p.label p.ordinal false false []

-- the ids of a team's groups, joined by one space
abbrev pub joined_ids : Setup → List ℕ → List ℕ
joined_ids s groups = join_with_byte 32 (map (group_id_at s) groups)

abbrev pub team_row : Setup → ℕ → Team → Row
team_row s n t = item_row 4 n t.id t.name [] 0 t.hidden false (joined_ids s t.groups)

-- the settings, kind by kind
abbrev pub items_rows : Setup → List Row
items_rows s =
    numbered type_row s.types ++ (numbered language_row s.languages ++ (numbered group_row s.groups
    ++ (numbered problem_row s.problems ++ numbered (team_row s) s.teams)))

abbrev pub role_number : Role → ℕ
role_number (role.Team team) = 0
role_number role.Judge = 1
role_number role.Admin = 2
role_number role.Analyst = 3

-- the id of the account's team
abbrev pub role_team : Setup → Role → Option (List ℕ)
role_team s (role.Team team) = Some (team_id_at s team)
role_team s role.Judge = None
role_team s role.Admin = None
role_team s role.Analyst = None

abbrev pub account_row : Setup → Account → Row
account_row s a = Text a.id ∷ number (role_number a.role) ∷ or_null Text (role_team s a.role) ∷ Blob a.digest ∷ []
