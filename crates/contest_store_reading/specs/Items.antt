-- The settings that rows are: each row is added to those before it.
use Rattle.std.specs.Prelude.{ℕ, ◌+◌, ◌^◌, nat_lt, ◌&&◌, ◌||◌, ◌==◌, ◌++◌, Bool, false, List, [], ◌∷◌, length, map, Option, Some, None, Result, Ok, Err, if◌then◌else◌}
use Rattle.std.specs.List.{flat_map}
use Rattle.std.specs.Option.{option_map, option_and_then}
use Rattle.sqlite_value.specs.Order.{Row, column}
use Rattle.sqlite_value.specs.declared.value.Value.TheVariants.{Text}
use Rattle.contest_types.specs.Places.{place_of}
use Rattle.contest_types.specs.Setup.{Setup}
use Rattle.contest_types.specs.SettingsNames.{group_id_at}
use Rattle.contest_types.specs.SetupAdditions.{type_addition, language_addition, group_addition, problem_addition, team_addition}
use Rattle.contest_types.specs.Words.{words}
use Rattle.contest_types.specs.declared.objects.JudgementType.{JudgementType}
use Rattle.contest_types.specs.declared.objects.Language.{Language}
use Rattle.contest_types.specs.declared.objects.Problem.{Problem}
use Rattle.contest_types.specs.declared.objects.Group.{Group}
use Rattle.contest_types.specs.declared.objects.Team.{Team}
use Rattle.contest_types.specs.declared.refusal.Cause.{Cause}
use Rattle.contest_store_rows.specs.Cells.{number, number_of, same_row, text_of}
use Rattle.contest_store_rows.specs.Lists.{each_some}
use Rattle.contest_store_rows.specs.Readings.{id_in, is_set, name_in}
use Rattle.contest_store_rows.specs.FixedRows.{type_row, language_row, group_row, problem_row, team_row}

-- the row may be added, and isn't there yet
abbrev pub is_new : Result Bool Cause → Bool
is_new (Ok added) = added
is_new (Err cause) = false

-- what the cells say, if the texts are some
abbrev pub type_said : Row → Option JudgementType
type_said r =
    option_and_then (λ id. option_map (λ name. record { id = id; name = name; solved = is_set (column r 6); penalty = is_set (column r 7) }) (name_in (column r 3)))
    (id_in (column r 2))

abbrev pub language_said : Row → Option Language
language_said r =
    option_and_then (λ id. option_map (λ name. record { id = id; name = name; entry_point_required = is_set (column r 6) }) (name_in (column r 3))) (id_in (column r 2))

abbrev pub group_said : Row → Option Group
group_said r = option_and_then (λ id. option_map (λ name. record { id = id; name = name }) (name_in (column r 3))) (id_in (column r 2))

-- an ordinal has sixteen bits
abbrev pub problem_said : Row → Option Problem
problem_said r =
    if nat_lt (number_of (column r 5)) (2 ^ 16) then
    option_and_then (λ id. option_and_then (λ name. option_map (λ label. record { id = id; label = label; name = name; ordinal = number_of (column r 5) })
    (name_in (column r 4))) (name_in (column r 3))) (id_in (column r 2))
    else None

-- the settings with what the row is, if it is the next of its kind and may be added
abbrev pub with_type_in : Setup → Row → Option Setup
with_type_in s r =
    option_and_then (λ t. if same_row r (type_row (length s.types + 1) t) && is_new (type_addition s t) then Some (record s { types = s.types ++ t ∷ [] }) else None) (type_said r)

abbrev pub with_language_in : Setup → Row → Option Setup
with_language_in s r =
    option_and_then (λ l. if same_row r (language_row (length s.languages + 1) l) && is_new (language_addition s l) then Some (record s { languages = s.languages ++ l ∷ [] }) else None) (language_said r)

abbrev pub with_group_in : Setup → Row → Option Setup
with_group_in s r =
    option_and_then (λ g. if same_row r (group_row (length s.groups + 1) g) && is_new (group_addition s g) then Some (record s { groups = s.groups ++ g ∷ [] }) else None) (group_said r)

abbrev pub with_problem_in : Setup → Row → Option Setup
with_problem_in s r =
    option_and_then (λ p. if same_row r (problem_row (length s.problems + 1) p) && is_new (problem_addition s p) then Some (record s { problems = s.problems ++ p ∷ [] }) else None) (problem_said r)

-- the places of the groups whose ids are the words
abbrev pub groups_named : Setup → (text : List ℕ) → Option (List ℕ)
groups_named s text = each_some (map (λ id. place_of id (map (λ (g : Group). g.id) s.groups)) (words text))

-- an empty text names none
abbrev pub groups_in : Setup → (text : List ℕ) → Option (List ℕ)
groups_in s [] = Some []
groups_in s text = groups_named s text

-- the ids of groups, each after a space
abbrev pub spaced_ids : Setup → List ℕ → List ℕ
spaced_ids s groups = flat_map (λ g. 32 ∷ group_id_at s g) groups

abbrev pub team_said : Setup → Row → Option Team
team_said s r =
    option_and_then (λ groups. option_and_then (λ id. option_map (λ name. record { id = id; name = name; groups = groups; hidden = is_set (column r 6) })
    (name_in (column r 3))) (id_in (column r 2))) (groups_in s (text_of (column r 8)))

-- a team's name, after the kind and the number of its row
abbrev pub team_name_row : (n : ℕ) → (name : List ℕ) → Row
team_name_row n name = number 4 ∷ number n ∷ Text name ∷ []

abbrev pub with_team_in : Setup → Row → Option Setup
with_team_in s r =
    option_and_then (λ t. if same_row r (team_row s (length s.teams + 1) t) && is_new (team_addition s t) then Some (record s { teams = s.teams ++ t ∷ [] }) else None) (team_said s r)

abbrev pub with_kind_in : (kind : ℕ) → Setup → Row → Option Setup
with_kind_in kind s r =
    if kind == 0 then with_type_in s r else if kind == 1 then with_language_in s r else if kind == 2 then with_group_in s r
    else if kind == 3 then with_problem_in s r else if kind == 4 then with_team_in s r else None

-- nothing of a later kind stands yet: rows come kind by kind
abbrev pub is_in_order : (kind : ℕ) → Setup → Bool
is_in_order kind s =
    (nat_lt 0 kind || length s.languages == 0) && (nat_lt 1 kind || length s.groups == 0)
    && (nat_lt 2 kind || length s.problems == 0) && (nat_lt 3 kind || length s.teams == 0)

-- the settings with what the row is, by its kind
abbrev pub with_item_in : Setup → Row → Option Setup
with_item_in s r = if is_in_order (number_of (column r 0)) s then with_kind_in (number_of (column r 0)) s r else None

-- the settings with what all the rows are, one after the other
abbrev pub items_in : Setup → List Row → Option Setup
items_in s [] = Some s
items_in s (r ∷ rs) = option_and_then (λ next. items_in next rs) (with_item_in s r)
