-- What a change of a contest makes of the rows of its cells.
use Rattle.std.proofs.Common.{◌≡◌, ◌≢◌, ◌⊎◌, ◌∙◌, Bool, true, false, List, [], ◌∷◌, ◌++◌, map, refl, sym, ap, ap₂, inl, inr, Ordering, IsPermutation, append_assoc, append-nil, is_eq, subst}
use Rattle.std.specs.Prelude.{◌&&◌, ◌==◌}
use Rattle.std.specs.List.{AllByRecursion, list_any}
use Rattle.std.proofs.Math.Path.{fun_ext}
use Rattle.std.proofs.lemmas.Bool.{false≢true, eq-eqb}
use Rattle.std.proofs.lemmas.List.{map-append}
use Rattle.std.proofs.lemmas.List.Sorted.{IsPermutation-cons, IsPermutation-middle, IsPermutation-sym, IsPermutation-trans}
use Rattle.sqlite_keyed.specs.Lists.{sort_by}
use Rattle.sqlite_keyed.proofs.ListLemmas.{all_weaker}
use Rattle.sqlite_keyed.proofs.SortLemmas.{IsPermutation-sort_by, sort_by-map}
use Rattle.sqlite_sql.proofs.QueryLemmas.{key_cmp_total}
use Rattle.sqlite_trees.specs.Tree.{IsAscending}
use Rattle.sqlite_value.specs.Keys.{rising}
use Rattle.sqlite_value.specs.Order.{Row}
use Rattle.contest_types.specs.Order.{Has}
use Rattle.contest_types.specs.State.{ContestState, add, names, of_release}
use Rattle.contest_types.specs.Valid.{is_valid}
use Rattle.contest_types.specs.declared.entry.Entry.TheVariants.{NewSubmission, NewRelease}
use Rattle.contest_types.specs.declared.sight.Mask.{Mask}
use Rattle.contest_types.specs.declared.sight.Mask.TheVariants.{Full, Held}
use Rattle.contest_types.specs.declared.submission.Release.{Release}
use Rattle.contest_types.specs.declared.submission.Submission.{Submission}
use Rattle.contest_types.proofs.PlaceLemmas.{and_left, and_right}
use Rattle.contest_types.proofs.SeenWhole.{one_submission}
use Rattle.contest_score.specs.Scoring.{cell_of_attempts}
use Rattle.contest_score.specs.MaskedCells.{start_of}
use Rattle.contest_score.specs.ScoringLaws.{bears_on, is_at}
use Rattle.contest_score.proofs.OneChange.{attempts_but_its, attempts_but_one, named_team, none_passes, named_number}
use Rattle.contest_store_cells.specs.CellRows.{by_place, cell_row, cell_rows, cells_under, first_attempts}
use Rattle.contest_store_cells.proofs.CellOrder.{IsPlaced, cells_apart, row_at}
use Rattle.contest_store_cells.proofs.FirstAttempts.{at_place, elsewhere_first, one_more_first, place_turned}

-- the rows of the cells under both masks, as they come
abbrev pub all_cells : ContestState → List Row
all_cells x = cells_under Held x ++ cells_under Full x

abbrev pub NoTwoTie : List Row → Type 0
NoTwoTie = IsAscending (λ (a b : Row). is_eq (by_place a b) ≡ false)

-- the two contests have the same row for the cell that the submission is at
abbrev pub HasSameRow : (x y : ContestState) → Submission → Type 0
HasSameRow x y s = (mask : Mask) → row_at y mask s ≡ row_at x mask s

same_all : (x y : ContestState) (mask : Mask) (ss : List Submission) → AllByRecursion (HasSameRow x y) ss → map (row_at y mask) ss ≡ map (row_at x mask) ss
same_all x y mask [] all = refl
same_all x y mask (s ∷ ss) all = ap₂ ◌∷◌ (all.0 mask) (same_all x y mask ss all.1)

-- with the same places and rows the cells are the same
pub cells_same : (x y : ContestState) → first_attempts y.submissions ≡ first_attempts x.submissions → AllByRecursion (HasSameRow x y) (first_attempts x.submissions) → cell_rows y ≡ cell_rows x
cells_same x y first all =
    let under : (mask : Mask) → cells_under mask y ≡ cells_under mask x = λ mask. ap (map (row_at y mask)) first ∙ same_all x y mask (first_attempts x.submissions) all in
    ap (sort_by by_place) (ap₂ ◌++◌ (under Held) (under Full))

-- where a change of rows keeps their keys, and makes each cell's row the new one, it makes the cells the new ones
pub cells_changed : (x y : ContestState) (change : Row → Row) → ((a b : Row) → by_place (change a) (change b) ≡ by_place a b) → first_attempts y.submissions ≡ first_attempts x.submissions
    → AllByRecursion (λ s. (mask : Mask) → row_at y mask s ≡ change (row_at x mask s)) (first_attempts x.submissions) → cell_rows y ≡ map change (cell_rows x)
cells_changed x y change keys first all =
    ap (sort_by by_place) (ap₂ ◌++◌ (under Held) (under Full) ∙ sym (map-append change (cells_under Held x) (cells_under Full x)))
    ∙ sort_by-map by_place change (all_cells x)
    ∙ ap (λ (cmp : Row → Row → Ordering). map change (sort_by cmp (all_cells x))) (fun_ext (λ a. fun_ext (keys a)))
  where
    each : (mask : Mask) (ss : List Submission) → AllByRecursion (λ s. (m : Mask) → row_at y m s ≡ change (row_at x m s)) ss → map (row_at y mask) ss ≡ map change (map (row_at x mask) ss)
    each mask [] rows = refl
    each mask (s ∷ ss) rows = ap₂ ◌∷◌ (rows.0 mask) (each mask ss rows.1)

    under : (mask : Mask) → cells_under mask y ≡ map change (cells_under mask x)
    under mask = ap (map (row_at y mask)) first ∙ each mask (first_attempts x.submissions) all

-- two more cells, one under either mask, and how they come one after the other
pub record AreTwoMore (x y : ContestState) (s : Submission) : Type 0 where
  pub between : List Row
  pub first : IsPermutation (row_at y Held s ∷ cell_rows x) (sort_by by_place between)
  pub first_apart : NoTwoTie between
  pub second : IsPermutation (row_at y Full s ∷ sort_by by_place between) (cell_rows y)

prefix_rises : {X : Type 0} (R : X → X → Type 0) (xs ys : List X) → IsAscending R (xs ++ ys) → IsAscending R xs
prefix_rises R [] ys up = tt
prefix_rises {X} R (x ∷ xs) ys up = (front xs up.0, prefix_rises R xs ys up.1)
  where
    front : (zs : List X) → AllByRecursion (R x) (zs ++ ys) → AllByRecursion (R x) zs
    front [] all = tt
    front (z ∷ zs) all = (all.0, front zs all.1)

sorted : (rows : List Row) → IsPermutation (sort_by by_place rows) rows
sorted rows = IsPermutation-sort_by by_place (key_cmp_total (rising 3 []) 0) rows

-- one more among rows, whether they are sorted or not
one_among : (row : Row) (rows more : List Row) → IsPermutation (row ∷ rows) more → IsPermutation (row ∷ sort_by by_place rows) (sort_by by_place more)
one_among row rows more h =
    IsPermutation-trans (row ∷ sort_by by_place rows) more (sort_by by_place more)
    (IsPermutation-trans (row ∷ sort_by by_place rows) (row ∷ rows) more (IsPermutation-cons row (sort_by by_place rows) rows (sorted rows)) h)
    (IsPermutation-sym (sort_by by_place more) more (sorted more))

-- where a row stands among others
pub in_front : (one others : List Row) (r : Row) → IsPermutation (r ∷ (one ++ others)) ((one ++ r ∷ []) ++ others)
in_front one others r = subst (λ rows. IsPermutation (r ∷ (one ++ others)) rows) (sym (append_assoc one (r ∷ []) others)) (IsPermutation-sym _ _ (IsPermutation-middle one r others))

pub at_end : (one : List Row) (r : Row) → IsPermutation (r ∷ one) (one ++ r ∷ [])
at_end one r = subst (λ rows. IsPermutation (r ∷ rows) (one ++ r ∷ [])) (append-nil one) (IsPermutation-sym _ _ (IsPermutation-middle one r []))

module _ (x y : ContestState) (s : Submission) (first : first_attempts y.submissions ≡ first_attempts x.submissions ++ s ∷ []) (all : AllByRecursion (HasSameRow x y) (first_attempts x.submissions)) (placed : IsPlaced y) where
  one_more_under : (mask : Mask) → cells_under mask y ≡ cells_under mask x ++ row_at y mask s ∷ []
  one_more_under mask =
      ap (map (row_at y mask)) first ∙ map-append (row_at y mask) (first_attempts x.submissions) (s ∷ [])
      ∙ ap (λ rows. rows ++ row_at y mask s ∷ []) (same_all x y mask (first_attempts x.submissions) all)

  abbrev held : Row
  held = row_at y Held s

  abbrev full : Row
  full = row_at y Full s

  abbrev with_held : List Row
  with_held = (cells_under Held x ++ held ∷ []) ++ cells_under Full x

  all_are : all_cells y ≡ with_held ++ full ∷ []
  all_are = ap₂ ◌++◌ (one_more_under Held) (one_more_under Full) ∙ sym (append_assoc (cells_under Held x ++ held ∷ []) (cells_under Full x) (full ∷ []))

  pub two_more : AreTwoMore x y s
  two_more = record {
    between = with_held;
    first = one_among held (all_cells x) with_held (in_front (cells_under Held x) (cells_under Full x) held);
    first_apart = prefix_rises _ with_held (full ∷ []) (subst NoTwoTie all_are (cells_apart y placed));
    second = subst (λ rows. IsPermutation (full ∷ sort_by by_place with_held) (sort_by by_place rows)) (sym all_are) (one_among full with_held (with_held ++ full ∷ []) (at_end with_held full));
  }

-- a submission elsewhere has its own place
off_place : (s u : Submission) → at_place s u ≡ false → (u.team ≢ s.team) ⊎ (u.problem ≢ s.problem)
off_place s u h =
    let go : (b c : Bool) → (u.team == s.team) ≡ b → (u.problem == s.problem) ≡ c → (b && c) ≡ false → (u.team ≢ s.team) ⊎ (u.problem ≢ s.problem) = elim [
      | true ↦ elim [ true ↦ λ t p e. absurd (false≢true (sym e)) | false ↦ λ t p e. inr (λ k. false≢true (sym p ∙ eq-eqb u.problem s.problem k)) ]
      | false ↦ λ c t p e. inl (λ k. false≢true (sym t ∙ eq-eqb u.team s.team k))
    ] in
    go (u.team == s.team) (u.problem == s.problem) refl refl h

-- a submission keeps the rows of the cells elsewhere
pub submission_keeps : (x : ContestState) (s u : Submission) → at_place s u ≡ false → HasSameRow x (add x (NewSubmission s)) u
submission_keeps x s u other mask =
    ap (λ attempts. cell_row x.fixed.settings mask u.team u.problem (cell_of_attempts (start_of x.fixed.marks) attempts)) (attempts_but_one mask x s u.team u.problem (off_place s u other))

-- and so does a release on it
pub release_keeps : (x : ContestState) (v : Release) (s u : Submission) → is_valid x ≡ true → Has x.submissions s → names s.team s.number (of_release v) ≡ true → at_place s u ≡ false → HasSameRow x (add x (NewRelease v)) u
release_keeps x v s u valid there is other mask =
    let none : bears_on v x u.team u.problem ≡ false = none_passes (λ t. names t.team t.number (of_release v) && is_at u.team u.problem t) x.submissions
    (λ t h e.
    (let on : names t.team t.number (of_release v) ≡ true = and_left _ _ e in
    let same : t ≡ s = one_submission x t s valid h there (sym (named_team v t on) ∙ named_team v s is) (sym (named_number v t on) ∙ named_number v s is) in
    let at : at_place u s ≡ true = ap (at_place u) (sym same) ∙ and_right (names t.team t.number (of_release v)) _ e in
    false≢true (sym (place_turned u s ∙ other) ∙ at))) in
    ap (λ attempts. cell_row x.fixed.settings mask u.team u.problem (cell_of_attempts (start_of x.fixed.marks) attempts)) (attempts_but_its mask x v u.team u.problem none)

-- the cells after a submission at a new place
pub new_place : (x : ContestState) (s : Submission) → list_any (at_place s) x.submissions ≡ false → IsPlaced (add x (NewSubmission s)) → AreTwoMore x (add x (NewSubmission s)) s
new_place x s none placed =
    two_more x (add x (NewSubmission s)) s (one_more_first s x.submissions none)
    (all_weaker (λ u. at_place s u ≡ false) (HasSameRow x (add x (NewSubmission s))) (submission_keeps x s) (first_attempts x.submissions) (elsewhere_first s x.submissions none)) placed
