-- The text of a comparison is empty exactly where each row and each cell is the same.
use Rattle.std.proofs.Common.{◌≡◌, ◌∙◌, ℕ, Bool, true, false, List, [], ◌∷◌, ◌++◌, map, Option, Some, None, inl, inr, refl, ap, subst}
use Rattle.std.specs.Prelude.{◌==◌, codes, is_some, not, if◌then◌else◌}
use Rattle.std.specs.Fmt.{decimal}
use Rattle.std.specs.List.{flat_map, list_any, zip}
use Rattle.std.specs.Str.{bytes_eq}
use Rattle.std.proofs.Math.Bool.{beq}
use Rattle.std.proofs.lemmas.Bool.{eqb-true, eq-eqb, false≢true, not-false}
use Rattle.contest_types.specs.Order.{Has}
use Rattle.contest_types.specs.Places.{place_of}
use Rattle.contest_types.specs.ProblemPlaces.{label_at, problem_id_at}
use Rattle.contest_types.specs.Setup.{Setup}
use Rattle.contest_types.specs.TeamPlaces.{team_id_at}
use Rattle.contest_types.specs.declared.minute.Minute.{Minute}
use Rattle.contest_types.specs.declared.objects.Problem.{Problem}
use Rattle.contest_files.specs.FieldTexts.{Text, is_empty}
use Rattle.contest_score.specs.declared.cell.Cell.{Cell}
use Rattle.contest_score.specs.declared.row.Row.{Row}
use Rattle.contest_comparison.specs.Differences.{cell_lines, cell_values, differences, lone_cell_line, lone_row_line, number_line, problem_lines, problem_text, row_beside, row_difference, row_lines, row_there, row_values, same_time, solved_line, team_text, time_line, truth_text, value_line, values_there}
use Rattle.contest_comparison.specs.declared.other_row.OtherRow.{OtherRow}
use Rattle.contest_comparison.specs.declared.values.CellValues.{CellValues}
use Rattle.contest_comparison.specs.declared.values.RowValues.{RowValues}
use Rattle.contest_laws.specs.Comparing.{DifferencesAreTold, IsSameRow}

-- ---- texts that are empty

both_empty : (xs ys : Text) → xs ++ ys ≡ [] → (xs ≡ []) × (ys ≡ [])
both_empty [] ys e = (refl, e)
both_empty (x ∷ xs) ys e = absurd (cc e)

joined : (xs ys : Text) → xs ≡ [] → ys ≡ [] → xs ++ ys ≡ []
joined xs ys e k = ap (λ zs. zs ++ ys) e ∙ k

each_empty : {X : Type 0} (f : X → Text) (xs : List X) → flat_map f xs ≡ [] → (x : X) → Has xs x → f x ≡ []
each_empty f [] e x h = absurd h
each_empty f (y ∷ ys) e x (inl same) = ap f same ∙ (both_empty (f y) (flat_map f ys) e).0
each_empty f (y ∷ ys) e x (inr later) = each_empty f ys (both_empty (f y) (flat_map f ys) e).1 x later

all_empty : {X : Type 0} (f : X → Text) (xs : List X) → ((x : X) → Has xs x → f x ≡ []) → flat_map f xs ≡ []
all_empty f [] h = refl
all_empty f (x ∷ xs) h = joined (f x) (flat_map f xs) (h x (inl refl)) (all_empty f xs (λ y k. h y (inr k)))

-- ---- lines

silent : (same : Bool) (of name ours theirs : Text) → value_line same of name ours theirs ≡ [] → same ≡ true
silent true of name ours theirs e = refl
silent false of name ours theirs e = (let end : codes "\n" ≡ [] = (both_empty (of ++ codes ": " ++ name ++ codes " " ++ ours ++ codes ", there " ++ theirs) (codes "\n") e).1 in cc end)

told_none : (same : Bool) (of name ours theirs : Text) → same ≡ true → value_line same of name ours theirs ≡ []
told_none same of name ours theirs is = ap (λ b. value_line b of name ours theirs) is

same_number : (of name : Text) (ours theirs : ℕ) → number_line of name ours theirs ≡ [] → ours ≡ theirs
same_number of name ours theirs e = eqb-true ours theirs (silent (ours == theirs) of name (decimal ours) (decimal theirs) e)

number_told : (of name : Text) (ours theirs : ℕ) → ours ≡ theirs → number_line of name ours theirs ≡ []
number_told of name ours theirs is = told_none (ours == theirs) of name (decimal ours) (decimal theirs) (eq-eqb ours theirs is)

times_same : (ours theirs : Option Minute) → same_time ours theirs ≡ true → ours ≡ theirs
times_same None None e = refl
times_same None (Some theirs) e = absurd (false≢true e)
times_same (Some ours) None e = absurd (false≢true e)
times_same (Some ours) (Some theirs) e = ap (λ (n : ℕ). Some (record { 0 = n })) (eqb-true ours.0 theirs.0 e)

same_itself : (time : Option Minute) → same_time time time ≡ true
same_itself None = refl
same_itself (Some minute) = eq-eqb minute.0 minute.0 refl

truths_same : (ours theirs : Bool) → beq ours theirs ≡ true → ours ≡ theirs
truths_same true true e = refl
truths_same false false e = refl
truths_same true false e = absurd (false≢true e)
truths_same false true e = absurd (false≢true e)

truth_itself : (b : Bool) → beq b b ≡ true
truth_itself true = refl
truth_itself false = refl

-- ---- rows and cells

row_by : (rank solved total : ℕ) → RowValues
row_by rank solved total = record { rank = rank; solved = solved; total = total }

same_row : (of : Text) (ours theirs : RowValues) → row_lines of ours theirs ≡ [] → ours ≡ theirs
unfolding row_by
same_row of ours theirs e =
    let first = both_empty (number_line of (codes "rank") ours.rank theirs.rank ++ number_line of (codes "solved") ours.solved theirs.solved) (number_line of (codes "time") ours.total theirs.total) e in
    let two = both_empty (number_line of (codes "rank") ours.rank theirs.rank) (number_line of (codes "solved") ours.solved theirs.solved) first.0 in
    ap (λ n. row_by n ours.solved ours.total) (same_number of (codes "rank") ours.rank theirs.rank two.0)
    ∙ ap (λ n. row_by theirs.rank n ours.total) (same_number of (codes "solved") ours.solved theirs.solved two.1)
    ∙ ap (row_by theirs.rank theirs.solved) (same_number of (codes "time") ours.total theirs.total first.1)

row_itself : (of : Text) (ours : RowValues) → row_lines of ours ours ≡ []
row_itself of ours =
    joined (number_line of (codes "rank") ours.rank ours.rank ++ number_line of (codes "solved") ours.solved ours.solved) (number_line of (codes "time") ours.total ours.total)
    (joined (number_line of (codes "rank") ours.rank ours.rank) (number_line of (codes "solved") ours.solved ours.solved) (number_told of (codes "rank") ours.rank ours.rank refl) (number_told of (codes "solved") ours.solved ours.solved refl))
    (number_told of (codes "time") ours.total ours.total refl)

cell_by : Bool → Option Minute → (judged pending : ℕ) → CellValues
cell_by solved time judged pending = record { solved = solved; time = time; judged = judged; pending = pending }

same_cell : (of : Text) (ours theirs : CellValues) → cell_lines of ours theirs ≡ [] → ours ≡ theirs
unfolding cell_by
same_cell of ours theirs e =
    let a = solved_line of ours.solved theirs.solved in
    let b = time_line of ours.time theirs.time in
    let c = number_line of (codes "judged") ours.judged theirs.judged in
    let d = number_line of (codes "pending") ours.pending theirs.pending in
    let three = both_empty (a ++ b ++ c) d e in
    let two = both_empty (a ++ b) c three.0 in
    let one = both_empty a b two.0 in
    ap (λ v. cell_by v ours.time ours.judged ours.pending) (truths_same ours.solved theirs.solved (silent (beq ours.solved theirs.solved) of (codes "solved") (truth_text ours.solved) (truth_text theirs.solved) one.0))
    ∙ ap (λ v. cell_by theirs.solved v ours.judged ours.pending) (times_same ours.time theirs.time (silent (same_time ours.time theirs.time) of (codes "time") _ _ one.1))
    ∙ ap (λ v. cell_by theirs.solved theirs.time v ours.pending) (same_number of (codes "judged") ours.judged theirs.judged two.1)
    ∙ ap (cell_by theirs.solved theirs.time theirs.judged) (same_number of (codes "pending") ours.pending theirs.pending three.1)

cell_itself : (of : Text) (ours : CellValues) → cell_lines of ours ours ≡ []
cell_itself of ours =
    let a = solved_line of ours.solved ours.solved in
    let b = time_line of ours.time ours.time in
    let c = number_line of (codes "judged") ours.judged ours.judged in
    let d = number_line of (codes "pending") ours.pending ours.pending in
    joined (a ++ b ++ c) d
    (joined (a ++ b) c
    (joined a b (told_none (beq ours.solved ours.solved) of (codes "solved") _ _ (truth_itself ours.solved)) (told_none (same_time ours.time ours.time) of (codes "time") _ _ (same_itself ours.time)))
    (number_told of (codes "judged") ours.judged ours.judged refl))
    (number_told of (codes "pending") ours.pending ours.pending refl)

-- ---- rows beside rows

placed : (b : Bool) (of : Text) → (if b then [] else of ++ codes ": there alone\n") ≡ [] → b ≡ true
placed true of e = refl
placed false of e = (let end : codes ": there alone\n" ≡ [] = (both_empty of (codes ": there alone\n") e).1 in cc end)

not_alone : (b : Bool) (of : Text) → b ≡ true → (if b then [] else of ++ codes ": there alone\n") ≡ []
not_alone b of is = ap (λ c. if c then [] else of ++ codes ": there alone\n") is

same_found : (s : Setup) (columns : List ℕ) (there : List OtherRow) (row : Row) (o : Option OtherRow) → row_there (team_id_at s row.team) there ≡ o
    → row_beside s columns (team_text (team_id_at s row.team)) row o ≡ [] → IsSameRow s columns there row
same_found s columns there row None found e = absurd (let end : codes ": here alone\n" ≡ [] = (both_empty (team_text (team_id_at s row.team)) (codes ": here alone\n") e).1 in cc end)
same_found s columns there row (Some other) found e =
    let of = team_text (team_id_at s row.team) in
    let lines = λ (p : ℕ × Cell). problem_lines s of other.cells p.0 p.1 in
    let two = both_empty (row_lines of (row_values row) other.values ++ flat_map lines (zip columns row.cells)) (flat_map (lone_cell_line s of) other.cells) e in
    let one = both_empty (row_lines of (row_values row) other.values) (flat_map lines (zip columns row.cells)) two.0 in
    record {
      other = other;
      found = found;
      values = same_row of (row_values row) other.values one.0;
      cells = λ problem cell h. same_cell (problem_text of (label_at s problem)) (cell_values cell) (values_there (problem_id_at s.problems problem) other.cells) (each_empty lines (zip columns row.cells) one.1 (problem, cell) h);
      problems = λ cell h. placed (is_some (place_of cell.problem (map (λ (p : Problem). p.id) s.problems))) (problem_text of cell.problem) (each_empty (lone_cell_line s of) other.cells two.1 cell h);
    }

row_told : (s : Setup) (columns : List ℕ) (there : List OtherRow) (row : Row) → IsSameRow s columns there row → row_difference s columns there row ≡ []
row_told s columns there row same =
    let of = team_text (team_id_at s row.team) in
    let other = same.other in
    let lines = λ (p : ℕ × Cell). problem_lines s of other.cells p.0 p.1 in
    ap (row_beside s columns of row) same.found
    ∙ joined (row_lines of (row_values row) other.values ++ flat_map lines (zip columns row.cells)) (flat_map (lone_cell_line s of) other.cells)
    (joined (row_lines of (row_values row) other.values) (flat_map lines (zip columns row.cells))
    (subst (λ v. row_lines of (row_values row) v ≡ []) same.values (row_itself of (row_values row)))
    (all_empty lines (zip columns row.cells) (λ p h. subst (λ v. cell_lines (problem_text of (label_at s p.0)) (cell_values p.1) v ≡ []) (same.cells p.0 p.1 h) (cell_itself (problem_text of (label_at s p.0)) (cell_values p.1)))))
    (all_empty (lone_cell_line s of) other.cells (λ cell h. not_alone (is_some (place_of cell.problem (map (λ (p : Problem). p.id) s.problems))) (problem_text of cell.problem) (same.problems cell h)))

-- ---- the boards

nothing : (xs : Text) → is_empty xs ≡ true → xs ≡ []
nothing [] e = refl
nothing (x ∷ xs) e = absurd (false≢true e)

pub differences_are_told : DifferencesAreTold
differences_are_told s b there = (
  λ none. (let silence = nothing (differences s b there) (not-false (is_empty (differences s b there)) none) in
      let both = both_empty (flat_map (row_difference s b.columns there) b.rows) (flat_map (lone_row_line s b.rows) there) silence in
      record {
        rows = λ row h. same_found s b.columns there row (row_there (team_id_at s row.team) there) refl (each_empty (row_difference s b.columns there) b.rows both.0 row h);
        teams = λ other h. placed (list_any (λ (row : Row). bytes_eq (team_id_at s row.team) other.team) b.rows) (team_text other.team) (each_empty (lone_row_line s b.rows) there both.1 other h);
      }),
  λ same. ap (λ xs. not (is_empty xs))
      (joined (flat_map (row_difference s b.columns there) b.rows) (flat_map (lone_row_line s b.rows) there)
      (all_empty (row_difference s b.columns there) b.rows (λ row h. row_told s b.columns there row (same.rows row h)))
      (all_empty (lone_row_line s b.rows) there (λ other h. not_alone (list_any (λ (row : Row). bytes_eq (team_id_at s row.team) other.team) b.rows) (team_text other.team) (same.teams other h)))),
)
