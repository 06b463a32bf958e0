-- The settings are read of their rows: each is the next of its kind and may be added.
use Rattle.std.proofs.Common.{◌≡◌, ◌∙◌, ℕ, ◌+◌, ◌≤◌, true, List, [], ◌∷◌, ◌++◌, append_assoc, append-nil, length, length-append, Some, refl, sym, ap, arith}
use Rattle.std.specs.Prelude.{map, ◌^◌, Ok}
use Rattle.std.specs.List.{AllByRecursion, list_all}
use Rattle.std.proofs.lemmas.Bool.{lt-ltb}
use Rattle.sqlite_value.specs.Order.{Row}
use Rattle.contest_types.specs.Places.{are_different}
use Rattle.contest_types.specs.Rows.{same_type, same_language, same_group, same_team}
use Rattle.contest_types.specs.Setup.{Setup, IsValid, refers}
use Rattle.contest_types.specs.SetupAdditions.{problem_addition, team_addition}
use Rattle.contest_types.specs.declared.limits.TheConstants.{JUDGEMENT_TYPES, LANGUAGES, PROBLEMS, GROUPS, TEAMS}
use Rattle.contest_types.specs.declared.objects.JudgementType.{JudgementType}
use Rattle.contest_types.specs.declared.objects.Language.{Language}
use Rattle.contest_types.specs.declared.objects.Problem.{Problem}
use Rattle.contest_types.specs.declared.objects.Group.{Group}
use Rattle.contest_types.specs.declared.objects.Team.{Team}
use Rattle.contest_store_rows.specs.FixedRows.{type_row, language_row, group_row, problem_row, team_row, items_rows}
use Rattle.contest_store_rows.proofs.ClarificationLaws.{flag_back}
use Rattle.contest_store_rows.proofs.ListLaws.{rows_from}
use Rattle.contest_store_rows.proofs.RowLemmas.{row_itself}
use Rattle.contest_store_reading.specs.Items.{items_in, with_item_in}
use Rattle.contest_store_reading.specs.Laws.{IsWritableItem, IsWritableProblem, IsWritableSetup}
use Rattle.contest_store_reading.proofs.GroupIds.{groups_back}
use Rattle.contest_store_reading.proofs.NewItems.{has_room, is_next, middle, new_before, not_before}

-- the settings as they stand while each kind is read: those of later kinds aren't there yet
abbrev with_types : Setup → List JudgementType → Setup
with_types s front = record { head = s.head; types = front; languages = []; problems = []; groups = []; teams = [] }

abbrev with_languages : Setup → List Language → Setup
with_languages s front = record { head = s.head; types = s.types; languages = front; problems = []; groups = []; teams = [] }

abbrev with_groups : Setup → List Group → Setup
with_groups s front = record { head = s.head; types = s.types; languages = s.languages; problems = []; groups = front; teams = [] }

abbrev with_problems : Setup → List Problem → Setup
with_problems s front = record { head = s.head; types = s.types; languages = s.languages; problems = front; groups = s.groups; teams = [] }

abbrev with_teams : Setup → List Team → Setup
with_teams s front = record { head = s.head; types = s.types; languages = s.languages; problems = s.problems; groups = s.groups; teams = front }

-- where each next row is added to those before it, all are
all_added : {X : Type 0} (IsWritable : X → Type 0) (row : ℕ → X → Row) (with_front : List X → Setup) (all : List X) →
    ((front : List X) (x : X) (xs : List X) → front ++ x ∷ xs ≡ all → IsWritable x → with_item_in (with_front front) (row (length front + 1) x) ≡ Some (with_front (front ++ x ∷ []))) →
    (later : List Row) (front xs : List X) → front ++ xs ≡ all → AllByRecursion IsWritable xs → items_in (with_front front) (rows_from row (length front + 1) xs ++ later) ≡ items_in (with_front all) later
all_added IsWritable row with_front all step later front [] is w = ap (λ ys. items_in (with_front ys) later) (sym (append-nil front) ∙ is)
all_added IsWritable row with_front all step later front (x ∷ xs) is w =
    let count : length front + 1 + 1 ≡ length (front ++ x ∷ []) + 1 = omega (arith, length-append front (x ∷ [])) in
    rw (step front x xs is w.0)
    (ap (λ n. items_in (with_front (front ++ x ∷ [])) (rows_from row n xs ++ later)) count
    ∙ all_added IsWritable row with_front all step later (front ++ x ∷ []) xs (append_assoc front (x ∷ []) xs ∙ is) w.1)

type_added : (s : Setup) → IsValid s → (front : List JudgementType) (t : JudgementType) (ts : List JudgementType) → front ++ t ∷ ts ≡ s.types → IsWritableItem t.id t.name →
    with_item_in (with_types s front) (type_row (length front + 1) t) ≡ Some (with_types s (front ++ t ∷ []))
type_added s valid front t ts is w =
    let different : are_different (map (λ (x : JudgementType). x.id) (front ++ t ∷ ts)) ≡ true = rw is valid.types in
    let few : length (front ++ t ∷ ts) ≤ JUDGEMENT_TYPES = rw is valid.few_types in
    rw (w.id, w.name, flag_back t.solved, flag_back t.penalty, row_itself (type_row (length front + 1) t) refl, is_next (λ (x : JudgementType). x.id) same_type JUDGEMENT_TYPES front t ts different few) refl

language_added : (s : Setup) → IsValid s → (front : List Language) (l : Language) (ls : List Language) → front ++ l ∷ ls ≡ s.languages → IsWritableItem l.id l.name →
    with_item_in (with_languages s front) (language_row (length front + 1) l) ≡ Some (with_languages s (front ++ l ∷ []))
language_added s valid front l ls is w =
    let different : are_different (map (λ (x : Language). x.id) (front ++ l ∷ ls)) ≡ true = rw is valid.languages in
    let few : length (front ++ l ∷ ls) ≤ LANGUAGES = rw is valid.few_languages in
    rw (w.id, w.name, flag_back l.entry_point_required, row_itself (language_row (length front + 1) l) refl, is_next (λ (x : Language). x.id) same_language LANGUAGES front l ls different few) refl

group_added : (s : Setup) → IsValid s → (front : List Group) (g : Group) (gs : List Group) → front ++ g ∷ gs ≡ s.groups → IsWritableItem g.id g.name →
    with_item_in (with_groups s front) (group_row (length front + 1) g) ≡ Some (with_groups s (front ++ g ∷ []))
group_added s valid front g gs is w =
    let different : are_different (map (λ (x : Group). x.id) (front ++ g ∷ gs)) ≡ true = rw is valid.groups in
    let few : length (front ++ g ∷ gs) ≤ GROUPS = rw is valid.few_groups in
    rw (w.id, w.name, row_itself (group_row (length front + 1) g) refl, is_next (λ (x : Group). x.id) same_group GROUPS front g gs different few) refl

problem_next : (s : Setup) → IsValid s → (front : List Problem) (p : Problem) (ps : List Problem) → front ++ p ∷ ps ≡ s.problems → problem_addition (with_problems s front) p ≡ Ok true
problem_next s valid front p ps is =
    let different : are_different (map (λ (x : Problem). x.id) (front ++ p ∷ ps)) ≡ true = rw is valid.problems in
    let labels : are_different (map (λ (x : Problem). x.label) (front ++ p ∷ ps)) ≡ true = rw is valid.labels in
    let few : length (front ++ p ∷ ps) ≤ PROBLEMS = rw is valid.few_problems in
    rw (new_before (λ (x : Problem). x.id) front p ps different, not_before (λ (x : Problem). x.label) front p ps labels, has_room PROBLEMS front p ps few) refl

problem_added : (s : Setup) → IsValid s → (front : List Problem) (p : Problem) (ps : List Problem) → front ++ p ∷ ps ≡ s.problems → IsWritableProblem p →
    with_item_in (with_problems s front) (problem_row (length front + 1) p) ≡ Some (with_problems s (front ++ p ∷ []))
problem_added s valid front p ps is w =
    rw (lt-ltb p.ordinal (2 ^ 16) w.ordinal, w.id, w.name, w.label, row_itself (problem_row (length front + 1) p) refl, problem_next s valid front p ps is) refl

team_next : (s : Setup) → IsValid s → (front : List Team) (t : Team) (ts : List Team) → front ++ t ∷ ts ≡ s.teams → refers (length s.groups) t ≡ true → team_addition (with_teams s front) t ≡ Ok true
team_next s valid front t ts is there =
    let different : are_different (map (λ (x : Team). x.id) (front ++ t ∷ ts)) ≡ true = rw is valid.teams in
    let few : length (front ++ t ∷ ts) ≤ TEAMS = rw is valid.few_teams in
    rw (there, is_next (λ (x : Team). x.id) same_team TEAMS front t ts different few) refl

team_added : (s : Setup) → IsValid s → IsWritableSetup s → (front : List Team) (t : Team) (ts : List Team) → front ++ t ∷ ts ≡ s.teams → IsWritableItem t.id t.name →
    with_item_in (with_teams s front) (team_row s (length front + 1) t) ≡ Some (with_teams s (front ++ t ∷ []))
team_added s valid writable front t ts is w =
    let all : list_all (refers (length s.groups)) (front ++ t ∷ ts) ≡ true = rw is valid.references in
    let there : refers (length s.groups) t ≡ true = middle (refers (length s.groups)) front t ts all in
    rw (groups_back s valid writable.groups t.groups there, w.id, w.name, flag_back t.hidden, row_itself (team_row s (length front + 1) t) refl, team_next s valid front t ts is there) refl

pub items_read : (s : Setup) → IsValid s → IsWritableSetup s → items_in (with_types s []) (items_rows s) ≡ Some s
items_read s valid w =
    let teams = rows_from (team_row s) 1 s.teams in
    let problems = rows_from problem_row 1 s.problems ++ teams in
    let groups = rows_from group_row 1 s.groups ++ problems in
    let languages = rows_from language_row 1 s.languages ++ groups in
    all_added (λ (t : JudgementType). IsWritableItem t.id t.name) type_row (with_types s) s.types (type_added s valid) languages [] s.types refl w.types
    ∙ all_added (λ (l : Language). IsWritableItem l.id l.name) language_row (with_languages s) s.languages (language_added s valid) groups [] s.languages refl w.languages
    ∙ all_added (λ (g : Group). IsWritableItem g.id g.name) group_row (with_groups s) s.groups (group_added s valid) problems [] s.groups refl w.groups
    ∙ all_added IsWritableProblem problem_row (with_problems s) s.problems (problem_added s valid) teams [] s.problems refl w.problems
    ∙ ap (items_in (with_teams s [])) (sym (append-nil teams))
    ∙ all_added (λ (t : Team). IsWritableItem t.id t.name) (team_row s) (with_teams s) s.teams (team_added s valid w) [] [] s.teams refl w.teams
