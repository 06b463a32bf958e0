-- The cells after a submission and after a release.
use Rattle.std.proofs.Common.{◌≡◌, ◌∙◌, ◌<◌, ◌+◌, ℕ, Bool, true, false, List, [], ◌∷◌, ◌++◌, map, filter, length, slice_get, Option, Some, None, Result, Ok, refl, sym, ap, ap₂, subst, subst₂, length-append, add-zero, take, inl, inr}
use Rattle.std.specs.Prelude.{◌&&◌, ◌==◌, not, if◌then◌else◌}
use Rattle.std.specs.List.{AllByRecursion, list_any}
use Rattle.std.specs.Option.{option_map}
use Rattle.std.proofs.lemmas.Bool.{eq-eqb, ltb-true}
use Rattle.std.proofs.lemmas.Option.{slice_get-map}
use Rattle.std.proofs.lemmas.List.Elements.{filter-append}
use Rattle.sqlite.specs.State.{State}
use Rattle.sqlite_keyed.proofs.ListLemmas.{none_counted}
use Rattle.sqlite_value.specs.Order.{Row}
use Rattle.contest_lists.specs.Lists.{loaded}
use Rattle.contest_types.specs.Addable.{is_addable}
use Rattle.contest_types.specs.Loads.{without_file}
use Rattle.contest_types.specs.Order.{Has}
use Rattle.contest_types.specs.Setup.{Setup}
use Rattle.contest_types.specs.State.{ContestState, add, names, of_release, submissions_of}
use Rattle.contest_types.specs.declared.entry.Entry.{Entry}
use Rattle.contest_types.specs.declared.entry.Entry.TheVariants.{NewSubmission, NewRelease}
use Rattle.contest_types.specs.declared.sight.Mask.{Mask}
use Rattle.contest_types.specs.declared.sight.Mask.TheVariants.{Full, Held}
use Rattle.contest_types.specs.declared.submission.Release.{Release}
use Rattle.contest_types.specs.declared.submission.Submission.{Submission}
use Rattle.contest_types.proofs.PlaceLemmas.{and_left, and_right, both_true}
use Rattle.contest_score.specs.Contest.{contest_cell}
use Rattle.contest_score.specs.ScoringLaws.{is_at}
use Rattle.contest_score.specs.declared.cell.Cell.{Cell}
use Rattle.contest_score.proofs.OwnCells.{taken_next}
use Rattle.contest_store.specs.declared.store_error.StoreError.{StoreError}
use Rattle.contest_store_tables.specs.Steps.{Content, MakesNone, Showing, Step, Within, with_rows}
use Rattle.contest_store_tables.specs.Tables.{TableRows}
use Rattle.contest_store_tables.specs.declared.counts.Counts.{Counts}
use Rattle.contest_store_tables.specs.declared.table_name.TableName.TheVariants.{Cells}
use Rattle.contest_store_tables.proofs.StepLemmas.{no_step}
use Rattle.contest_store_cells.specs.CellRows.{cell_row, cell_rows}
use Rattle.contest_store_cells.specs.CellLaws.{is_on_a_submission}
use Rattle.contest_store_cells.proofs.CellChanges.{new_place, release_keeps, submission_keeps}
use Rattle.contest_store_cells.proofs.CellOrder.{IsPlaced, is_placed, row_at}
use Rattle.contest_store_cells.proofs.CellsKept.{others_keep_cells}
use Rattle.contest_store_cells.proofs.FirstAttempts.{at_place, same_first}
use Rattle.contest_store_changes.specs.CellSteps.{HasScored, HasWrittenBoth, MayWrite, Scores, WritesCells, written}
use Rattle.contest_store_changes.specs.ContestTables.{list_rows, rows_with}
use Rattle.contest_store_changes.specs.Sound.{IsSound}
use Rattle.contest_store_changes.proofs.CellWriting.{narrowed}
use Rattle.contest_store_changes.proofs.CellsPassed.{put_twice}
use Rattle.contest_store_changes.proofs.CellsScored.{Makes, makes_changed, makes_new}
use Rattle.contest_store_changes.proofs.NamedPlace.{named_place}
use Rattle.contest_store_changes.proofs.SameNumbers.{same_after}
use Rattle.contest_types.proofs.OwnLemmas.{own_loaded}

-- what is written makes the cells those of the contest, whichever it shows
pub scored : (r : Result (Unit {0}) StoreError) (old new : State) (b a : Counts) (lists : ContestState) (e : Entry) (is_new : Bool) (held full : Row)
    → ((now kept : Content) (h : Scores lists e old now kept) → Makes is_new held full (cell_rows h.contest) (cell_rows (add h.contest e)))
    → Step r old new b a (MayWrite is_new held full) (HasWrittenBoth is_new held full) (MakesNone old (MayWrite is_new held full))
    → Step r old new b a (Scores lists e) (HasScored e) (MakesNone old (Scores lists e))
scored r old new b a lists e is_new held full makes step =
    let before : ContestState → TableRows = λ x. rows_with (cell_rows x) (add x e) in
    narrowed r old new b a (MayWrite is_new held full) (Scores lists e) (HasWrittenBoth is_new held full) (HasScored e)
    (λ now kept h. (let m = makes now kept h in record { rows = before h.contest; shown = h.shown; within = h.within; first = m.first; second = m.second }))
    (λ now kept h both.
    (let m = makes now kept h in
    let x = h.contest in
    let wrote : Within new (Showing (with_rows Cells (written is_new full (written is_new held (cell_rows x))) (before x))) kept = both (before x) h.shown in
    record {
      contest = x;
      shown = h.shown;
      after = h.after;
      within = subst (λ (rows : TableRows). Within new (Showing rows) kept) (put_twice Cells (cell_rows x) (cell_rows (add x e)) (list_rows (add x e)))
          (subst (λ (cells : List Row). Within new (Showing (with_rows Cells cells (before x))) kept) m.makes wrote);
    }))
    step

-- how many submissions lists have at a place, with their files or without
count_loaded : (team problem : ℕ) (ss : List Submission) → length (filter (λ (s : Submission). s.problem == problem) (submissions_of team (map without_file ss))) ≡ length (filter (is_at team problem) ss)
count_loaded team problem [] = refl
count_loaded team problem (s ∷ ss) =
    let rest = count_loaded team problem ss in
    let own = submissions_of team (map without_file ss) in
    let go : (t p : Bool) → (s.team == team) ≡ t → (s.problem == problem) ≡ p
    → length (filter (λ (u : Submission). u.problem == problem) (if t then without_file s ∷ own else own)) ≡ length (if t && p then s ∷ filter (is_at team problem) ss else filter (is_at team problem) ss) = elim [
      | true ↦ elim [ true ↦ λ t p. (rw (p, rest) refl) | false ↦ λ t p. (rw (p, rest) refl) ]
      | false ↦ λ p t q. rest
    ] in
    go (s.team == team) (s.problem == problem) refl refl

-- a submission's place is new where it is the only one there
pub is_new_place : (x : ContestState) (s : Submission) (lists : ContestState) → loaded (add x (NewSubmission s)) ≡ lists
    → (length (filter (λ (u : Submission). u.problem == s.problem) (submissions_of s.team lists.submissions)) == 1) ≡ not (list_any (at_place s) x.submissions)
is_new_place x s lists held =
    let here : at_place s s ≡ true = rw (eq-eqb s.team s.team refl, eq-eqb s.problem s.problem refl) refl in
    let alone : length (filter (at_place s) (s ∷ [])) ≡ 1 = rw here refl in
    let one_more : length (filter (at_place s) (x.submissions ++ s ∷ [])) ≡ length (filter (at_place s) x.submissions) + 1 =
    ap length (filter-append (at_place s) x.submissions (s ∷ [])) ∙ length-append (filter (at_place s) x.submissions) (filter (at_place s) (s ∷ [])) ∙ ap (λ n. length (filter (at_place s) x.submissions) + n) alone in
    let count : length (filter (λ (u : Submission). u.problem == s.problem) (submissions_of s.team lists.submissions)) ≡ length (filter (at_place s) x.submissions) + 1 =
    ap (λ (l : ContestState). length (filter (λ (u : Submission). u.problem == s.problem) (submissions_of s.team l.submissions))) (sym held) ∙ count_loaded s.team s.problem (x.submissions ++ s ∷ []) ∙ one_more in
    ap (λ n. n == 1) count ∙ same_after (length (filter (at_place s) x.submissions)) 0 ∙ none_counted (at_place s) x.submissions

-- the row of a team's cell at a problem
abbrev its_row : ContestState → Mask → ℕ → ℕ → Row
its_row z mask t p = cell_row z.fixed.settings mask t p (contest_cell mask z t p)

module _ (r : Result (Unit {0}) StoreError) (old new : State) (b a : Counts) (lists : ContestState) where
  -- after a submission
  pub scored_submission : (s : Submission) (is_new : Bool) → is_new ≡ (length (filter (λ (u : Submission). u.problem == s.problem) (submissions_of s.team lists.submissions)) == 1)
      → WritesCells r is_new lists s.team s.problem old new b a
      → Step r old new b a (Scores lists (NewSubmission s)) (HasScored (NewSubmission s)) (MakesNone old (Scores lists (NewSubmission s)))
  scored_submission s is_new is writes =
      scored r old new b a lists (NewSubmission s) is_new writes.0 writes.1 (λ now kept h.
      (let x = h.contest in
      let y = add x (NewSubmission s) in
      let rows = writes.2 y h.after.valid (sym h.held) in
      let place : s.problem < length x.fixed.settings.problems = ltb-true s.problem _ (and_right _ _ (and_left _ _ (and_left _ _ (and_left _ _ (and_left _ _ (and_left _ _ h.may)))))) in
      let go : (b : Bool) → list_any (at_place s) x.submissions ≡ b → Makes (not b) (row_at y Held s) (row_at y Full s) (cell_rows x) (cell_rows y) = elim [
        | true ↦ λ e. makes_changed x y s refl (same_first s x.submissions e) (submission_keeps x s) (is_placed x h.sound.valid) place
        | false ↦ λ e. makes_new x y s (new_place x s e (is_placed y h.after.valid)) (is_placed y h.after.valid)
      ] in
      let own : Makes is_new (row_at y Held s) (row_at y Full s) (cell_rows x) (cell_rows y) =
      subst (λ (n : Bool). Makes n (row_at y Held s) (row_at y Full s) (cell_rows x) (cell_rows y)) (sym (is ∙ is_new_place x s lists h.held)) (go (list_any (at_place s) x.submissions) refl) in
      subst (λ (q : Row). Makes is_new writes.0 q (cell_rows x) (cell_rows y)) (sym rows.1) (subst (λ (q : Row). Makes is_new q (row_at y Full s) (cell_rows x) (cell_rows y)) (sym rows.0) own)))
      writes.3

  -- after a release on the submission at a place of its team
  pub scored_release : (v : Release) (problem : ℕ) → ((k : ℕ) → v.number ≡ k + 1 → Some problem ≡ option_map (λ (s : Submission). s.problem) (slice_get (submissions_of v.team lists.submissions) k))
      → WritesCells r false lists v.team problem old new b a → Step r old new b a (Scores lists (NewRelease v)) (HasScored (NewRelease v)) (MakesNone old (Scores lists (NewRelease v)))
  scored_release v problem is writes =
      scored r old new b a lists (NewRelease v) false writes.0 writes.1 (λ now kept h.
      (let x = h.contest in
      let y = add x (NewRelease v) in
      let rows = writes.2 y h.after.valid (sym h.held) in
      let its = named_place x v.team v.number h.sound.valid (and_left _ _ (and_left _ _ h.may)) in
      let s = its.submission in
      let problem_is : problem ≡ s.problem = its_problem x v problem s its.place h.held (is its.place its.counted) its.at in
      let names_it : names s.team s.number (of_release v) ≡ true = both_true _ _ (eq-eqb v.team s.team (sym its.of_team)) (eq-eqb v.number s.number (sym its.of_number)) in
      let made = makes_changed x y s refl refl (λ u other. release_keeps x v s u h.sound.valid its.there names_it other) (is_placed x h.sound.valid) (there x s (is_placed x h.sound.valid) its.there) in
      let own = subst₂ (λ (t p : ℕ). Makes false (its_row y Held t p) (its_row y Full t p) (cell_rows x) (cell_rows y)) its.of_team (sym problem_is) made in
      subst (λ (q : Row). Makes false writes.0 q (cell_rows x) (cell_rows y)) (sym rows.1) (subst (λ (q : Row). Makes false q (its_row y Full v.team problem) (cell_rows x) (cell_rows y)) (sym rows.0) own)))
      writes.3
    where
      its_problem : (x : ContestState) (v : Release) (problem : ℕ) (s : Submission) (k : ℕ) → loaded (add x (NewRelease v)) ≡ lists
          → Some problem ≡ option_map (λ (u : Submission). u.problem) (slice_get (submissions_of v.team lists.submissions) k) → slice_get (submissions_of v.team x.submissions) k ≡ Some s → problem ≡ s.problem
      its_problem x v problem s k held is at =
          let own : slice_get (submissions_of v.team lists.submissions) k ≡ option_map without_file (slice_get (submissions_of v.team x.submissions) k) =
          ap (λ (l : ContestState). slice_get (submissions_of v.team l.submissions) k) (sym held) ∙ ap (λ rows. slice_get rows k) (own_loaded v.team x.submissions) ∙ slice_get-map without_file (submissions_of v.team x.submissions) k in
          let both : Some problem ≡ Some s.problem = is ∙ ap (option_map (λ (u : Submission). u.problem)) (own ∙ ap (option_map without_file) at) in
          cc both

      there : (x : ContestState) (s : Submission) → IsPlaced x → Has x.submissions s → s.problem < length x.fixed.settings.problems
      there x s placed h = of_all x.submissions placed.within h
        where
          of_all : (ss : List Submission) → AllByRecursion (λ (u : Submission). u.problem < length x.fixed.settings.problems) ss → Has ss s → s.problem < length x.fixed.settings.problems
          of_all [] all h = absurd h
          of_all (u ∷ us) all h = elim h [
            | inl is ↦ subst (λ (t : Submission). t.problem < length x.fixed.settings.problems) (sym is) all.0
            | inr later ↦ of_all us all.1 later
          ]

-- where nothing is written of the cells, since the change bears on none
pub nothing_scored : (s : State) (b : Counts) (lists : ContestState) (e : Entry) → is_on_a_submission e ≡ false → Step {T = Unit {0}} (Ok tt) s s b b (Scores lists e) (HasScored e) (MakesNone s (Scores lists e))
nothing_scored s b lists e apart =
    no_step tt s b (Scores lists e) (HasScored e) (MakesNone s (Scores lists e)) (λ now kept h.
    record {
      contest = h.contest;
      shown = h.shown;
      after = h.after;
      within = subst (λ (c : Content). Within s c kept) (h.shown ∙ ap (λ (cells : List Row). Showing (rows_with cells (add h.contest e))) (sym (others_keep_cells h.contest e h.sound.valid h.may apart))) h.within;
    })

-- or since no contest has such a change
pub never_scored : (s : State) (b : Counts) (lists : ContestState) (e : Entry) → ((x : ContestState) → IsSound x → is_addable x e ≡ true → loaded (add x e) ≡ lists → ⊥)
    → Step {T = Unit {0}} (Ok tt) s s b b (Scores lists e) (HasScored e) (MakesNone s (Scores lists e))
never_scored s b lists e none = no_step tt s b (Scores lists e) (HasScored e) (MakesNone s (Scores lists e)) (λ now kept h. absurd (none h.contest h.sound h.may h.held))

-- a release is on a submission, so its problem is found
pub has_problem : (x : ContestState) (v : Release) (lists : ContestState) → IsSound x → is_addable x (NewRelease v) ≡ true → loaded (add x (NewRelease v)) ≡ lists
    → ((k : ℕ) → v.number ≡ k + 1 → ◌≡◌ {A = Option ℕ} None (option_map (λ (s : Submission). s.problem) (slice_get (submissions_of v.team lists.submissions) k))) → ⊥
has_problem x v lists sound may held none =
    let its = named_place x v.team v.number sound.valid (and_left _ _ (and_left _ _ may)) in
    let own : slice_get (submissions_of v.team lists.submissions) its.place ≡ option_map without_file (slice_get (submissions_of v.team x.submissions) its.place) =
    ap (λ (l : ContestState). slice_get (submissions_of v.team l.submissions) its.place) (sym held) ∙ ap (λ rows. slice_get rows its.place) (own_loaded v.team x.submissions) ∙ slice_get-map without_file (submissions_of v.team x.submissions) its.place in
    let both : ◌≡◌ {A = Option ℕ} None (Some its.submission.problem) = none its.place its.counted ∙ ap (option_map (λ (s : Submission). s.problem)) (own ∙ ap (option_map without_file) its.at) in
    cc both

-- what is neither a submission nor a release
pub on_none : (e : Entry) → ((s : Submission) → e ≡ NewSubmission s → ⊥) → ((v : Release) → e ≡ NewRelease v → ⊥) → is_on_a_submission e ≡ false
on_none (NewSubmission s) submission release = absurd (submission s refl)
on_none (NewRelease v) submission release = absurd (release v refl)
on_none _ submission release = refl

-- the row of a cell that was counted for the contest
pub row_is : (s : Setup) (x : ContestState) (mask : Mask) (team problem : ℕ) (c : Cell) → s ≡ x.fixed.settings → c ≡ contest_cell mask x team problem
    → cell_row s mask team problem c ≡ cell_row x.fixed.settings mask team problem (contest_cell mask x team problem)
row_is s x mask team problem c settings cell = ap₂ (λ (own : Setup) (d : Cell). cell_row own mask team problem d) settings cell

-- how many submissions at a problem there are among the first so many
next_counted : (problem : ℕ) (own : List Submission) (k : ℕ) (row : Submission) → slice_get own k ≡ Some row
    → length (filter (λ (s : Submission). s.problem == problem) (take (k + 1) own)) ≡ length (filter (λ (s : Submission). s.problem == problem) (take k own)) + length (filter (λ (s : Submission). s.problem == problem) (row ∷ []))
next_counted problem own k row at =
    let q : Submission → Bool = λ s. s.problem == problem in
    ap (λ rows. length (filter q rows)) (taken_next own k row at) ∙ ap length (filter-append q (take k own) (row ∷ [])) ∙ length-append (filter q (take k own)) (filter q (row ∷ []))

pub counted_too : (problem : ℕ) (own : List Submission) (k : ℕ) (row : Submission) → slice_get own k ≡ Some row → (row.problem == problem) ≡ true
    → length (filter (λ (s : Submission). s.problem == problem) (take (k + 1) own)) ≡ length (filter (λ (s : Submission). s.problem == problem) (take k own)) + 1
counted_too problem own k row at is =
    let one : length (filter (λ (s : Submission). s.problem == problem) (row ∷ [])) ≡ 1 = rw is refl in
    next_counted problem own k row at ∙ ap (λ n. length (filter (λ (s : Submission). s.problem == problem) (take k own)) + n) one

pub counted_past : (problem : ℕ) (own : List Submission) (k : ℕ) (row : Submission) → slice_get own k ≡ Some row → (row.problem == problem) ≡ false
    → length (filter (λ (s : Submission). s.problem == problem) (take (k + 1) own)) ≡ length (filter (λ (s : Submission). s.problem == problem) (take k own))
counted_past problem own k row at is =
    let none : length (filter (λ (s : Submission). s.problem == problem) (row ∷ [])) ≡ 0 = rw is refl in
    next_counted problem own k row at ∙ ap (λ n. length (filter (λ (s : Submission). s.problem == problem) (take k own)) + n) none ∙ add-zero _

-- what was counted and found in lists that are these
pub attempts_in : (own lists : ContestState) (team problem count : ℕ) → own ≡ lists → count ≡ length (filter (λ (s : Submission). s.problem == problem) (submissions_of team own.submissions))
    → (count == 1) ≡ (length (filter (λ (s : Submission). s.problem == problem) (submissions_of team lists.submissions)) == 1)
attempts_in own lists team problem count same is = ap (λ n. n == 1) (is ∙ ap (λ (l : ContestState). length (filter (λ (s : Submission). s.problem == problem) (submissions_of team l.submissions))) same)

pub problem_in : (own lists : ContestState) (team number : ℕ) (found : Option ℕ) → own ≡ lists
    → ((k : ℕ) → number ≡ k + 1 → found ≡ option_map (λ (s : Submission). s.problem) (slice_get (submissions_of team own.submissions) k))
    → (k : ℕ) → number ≡ k + 1 → found ≡ option_map (λ (s : Submission). s.problem) (slice_get (submissions_of team lists.submissions) k)
problem_in own lists team number found same is k at = is k at ∙ ap (λ (l : ContestState). option_map (λ (s : Submission). s.problem) (slice_get (submissions_of team l.submissions) k)) same
