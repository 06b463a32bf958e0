-- Rows for which the settings have a place.
use Rattle.std.proofs.Common.{◌≡◌, ◌≤◌, ◌<◌, ◌∙◌, ℕ, Bool, true, false, List, [], ◌∷◌, length, take, get_or, map, None, Ok, refl, sym, ap, ap₂, arith}
use Rattle.std.specs.Prelude.{nat_le}
use Rattle.std.proofs.lemmas.Bool.{lt-leb}
use Rattle.std.proofs.lemmas.List.{length-map, length-take}
use Rattle.contest_types.specs.Additions.{addition, addition_by, id_match_of, keyed_addition}
use Rattle.contest_types.specs.Places.{are_different, is_among, place_of}
use Rattle.contest_types.specs.Rows.{same_problem, same_team, same_type}
use Rattle.contest_types.specs.Setup.{Setup, labels_of}
use Rattle.contest_types.specs.SetupAdditions.{problem_addition, team_addition, type_addition}
use Rattle.contest_types.specs.declared.id_list.IdMatch.TheVariants.{New}
use Rattle.contest_types.specs.declared.limits.TheConstants.{JUDGEMENT_TYPES, PROBLEMS, TEAMS}
use Rattle.contest_types.specs.declared.objects.JudgementType.{JudgementType}
use Rattle.contest_types.specs.declared.objects.Problem.{Problem}
use Rattle.contest_types.specs.declared.objects.Team.{Team}
use Rattle.contest_types.proofs.AdditionLemmas.{stands_new}
use Rattle.contest_types.proofs.CopyLemmas.{new_after}
use Rattle.contest_types.proofs.PlaceLemmas.{not_among}
use Rattle.contest_feed_reader.specs.FeedContests.{problem_of, team_of, type_of}
use Rattle.contest_feed_reader.specs.References.{ids_of}
use Rattle.contest_feed_reader.specs.declared.objects.FeedGroup.{FeedGroup}
use Rattle.contest_feed_reader.specs.declared.objects.FeedProblem.{FeedProblem}
use Rattle.contest_feed_reader.specs.declared.objects.FeedTeam.{FeedTeam}
use Rattle.contest_feed_reader.specs.declared.objects.FeedType.{FeedType}
use Rattle.contest_feed_reader.specs.declared.row.Row.{Row}

-- what is told of rows that are made of others
pub told_by : {R T : Type 0} (key : T → List ℕ) (of : R → T) (rows : List R) → map key (map of rows) ≡ map (λ r. key (of r)) rows
told_by key of [] = refl
told_by key of (r ∷ rows) = ap (λ more. key (of r) ∷ more) (told_by key of rows)

-- no row before one has its key
new_key : {R T : Type 0} (key : T → List ℕ) (of : R → T) (rows : List R) (i : ℕ) (row : R) → are_different (map (λ r. key (of r)) rows) ≡ true → i < length rows → row ≡ get_or rows i row
    → place_of (key (of row)) (map key (map of (take i rows))) ≡ None
new_key key of rows i row d l is = ap (place_of (key (of row))) (told_by key of (take i rows)) ∙ new_after (λ r. key (of r)) rows i row row d l is refl

room : {R T : Type 0} (most : ℕ) (of : R → T) (rows : List R) (i : ℕ) → length rows ≤ most → i < length rows → nat_le most (length (map of (take i rows))) ≡ false
room most of rows i few l = (let short : length (map of (take i rows)) < most = omega (arith, few, l, length-map (take i rows) of, length-take i rows) in lt-leb most (length (map of (take i rows))) short)

is_new : {R T : Type 0} (id : T → List ℕ) (same : T → T → Bool) (of : R → T) (rows : List R) (i : ℕ) (row : R) → are_different (map (λ r. id (of r)) rows) ≡ true → i < length rows → row ≡ get_or rows i row
    → id_match_of id same (map of (take i rows)) (of row) ≡ New
is_new id same of rows i row d l is = sym (stands_new id same (map of (take i rows)) (of row) (new_key id of rows i row d l is))

added : {R T : Type 0} (id : T → List ℕ) (same : T → T → Bool) (most : ℕ) (of : R → T) (rows : List R) (i : ℕ) (row : R) → are_different (map (λ r. id (of r)) rows) ≡ true → length rows ≤ most → i < length rows → row ≡ get_or rows i row
    → addition id same most (map of (take i rows)) (of row) ≡ Ok true
added id same most of rows i row d few l is = ap₂ addition_by (is_new id same of rows i row d l is) (room most of rows i few l)

pub type_fits : (s : Setup) (rows : List (Row FeedType)) (i : ℕ) (row : Row FeedType) → are_different (ids_of rows) ≡ true → length rows ≤ JUDGEMENT_TYPES → i < length rows → row ≡ get_or rows i row → s.types ≡ map type_of (take i rows)
    → type_addition s (type_of row) ≡ Ok true
type_fits s rows i row d few l is at = ap (λ ts. addition (λ (t : JudgementType). t.id) same_type JUDGEMENT_TYPES ts (type_of row)) at ∙ added (λ (t : JudgementType). t.id) same_type JUDGEMENT_TYPES type_of rows i row d few l is

pub team_fits : (s : Setup) (groups : List (Row FeedGroup)) (rows : List (Row FeedTeam)) (i : ℕ) (row : Row FeedTeam) → are_different (ids_of rows) ≡ true → length rows ≤ TEAMS → i < length rows → row ≡ get_or rows i row → s.teams ≡ map (team_of groups) (take i rows)
    → team_addition s (team_of groups row) ≡ Ok true
team_fits s groups rows i row d few l is at = ap (λ ts. addition (λ (t : Team). t.id) same_team TEAMS ts (team_of groups row)) at ∙ added (λ (t : Team). t.id) same_team TEAMS (team_of groups) rows i row d few l is

pub problem_fits : (s : Setup) (rows : List (Row FeedProblem)) (i : ℕ) (row : Row FeedProblem) → are_different (ids_of rows) ≡ true → are_different (map (λ r. r.object.label) rows) ≡ true → length rows ≤ PROBLEMS → i < length rows → row ≡ get_or rows i row → s.problems ≡ map problem_of (take i rows)
    → problem_addition s (problem_of row) ≡ Ok true
problem_fits s rows i row d labels few l is at =
    let ps = map problem_of (take i rows) in
    let own : is_among (labels_of ps) row.object.label ≡ false = not_among row.object.label 0 (labels_of ps) (new_key (λ (p : Problem). p.label) problem_of rows i row labels l is) in
    ap (λ qs. keyed_addition (id_match_of (λ (p : Problem). p.id) same_problem qs (problem_of row)) (is_among (labels_of qs) row.object.label) (nat_le PROBLEMS (length qs))) at
    ∙ rw (is_new (λ (p : Problem). p.id) same_problem problem_of rows i row d l is, own, room PROBLEMS problem_of rows i few l) refl
