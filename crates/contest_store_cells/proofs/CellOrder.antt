-- The rows of a contest's cells have different keys: no two of them tie.
use Rattle.std.proofs.Common.{◌≡◌, ◌∙◌, ◌<◌, ◌+◌, ℕ, Bool, true, false, List, [], ◌∷◌, ◌++◌, map, length, Some, refl, sym, ap, arith, Ordering, Less, Equal, Greater, is_eq}
use Rattle.std.specs.Prelude.{◌&&◌, ◌==◌, pos}
use Rattle.std.specs.List.{AllByRecursion}
use Rattle.std.specs.Ordering.{ordering_then}
use Rattle.std.specs.Str.{bytes_eq}
use Rattle.std.proofs.lemmas.Bool.{false≢true, eq-eqb, ltb-true}
use Rattle.std.proofs.lemmas.Bool.Decides.{nat_tests}
use Rattle.std.proofs.lemmas.Map.Text.{is_eq-slice_cmp}
use Rattle.std.proofs.lemmas.Slice.Eq.{bytes_eq-Decides}
use Rattle.std.proofs.Math.Bool.{and-false}
use Rattle.std.proofs.lemmas.Option.{same_Some}
use Rattle.sqlite_keyed.proofs.ListLemmas.{all_weaker, all_from_test, ascending-append, ascending-map}
use Rattle.sqlite_trees.specs.Tree.{IsAscending}
use Rattle.sqlite_value.specs.declared.value.Value.TheVariants.{Text}
use Rattle.sqlite_value.specs.Order.{Row, value_cmp}
use Rattle.sqlite_value.proofs.OrderLemmas.{value_cmp-Int, value_cmp-Text}
use Rattle.contest_types.specs.Places.{are_different, place_of}
use Rattle.contest_types.specs.ProblemPlaces.{problem_id_at}
use Rattle.contest_types.specs.State.{ContestState}
use Rattle.contest_types.specs.Valid.{is_valid}
use Rattle.contest_types.specs.ValidSubmissions.{is_valid_submission}
use Rattle.contest_types.specs.declared.objects.Problem.{Problem}
use Rattle.contest_types.specs.declared.sight.Mask.{Mask}
use Rattle.contest_types.specs.declared.sight.Mask.TheVariants.{Full, Held}
use Rattle.contest_types.specs.declared.submission.Submission.{Submission}
use Rattle.contest_types.proofs.PlaceLemmas.{and_left, and_right}
use Rattle.contest_types.proofs.SettingsTest.{is_settings}
use Rattle.contest_types.proofs.ValidParts.{parts}
use Rattle.contest_score.specs.Contest.{contest_cell}
use Rattle.contest_store_rows.specs.Cells.{number}
use Rattle.contest_store_rows.proofs.PlaceBack.{place_there}
use Rattle.contest_store_cells.specs.CellRows.{by_place, cell_row, cells_under, first_attempts, mask_number}
use Rattle.contest_store_cells.proofs.FirstAttempts.{all_first, at_place, first_apart}

-- the problems have ids of their own, and each submission is at one of them
pub record IsPlaced (x : ContestState) : Type 0 where
  pub different : are_different (map (λ (p : Problem). p.id) x.fixed.settings.problems) ≡ true
  pub within : AllByRecursion (λ (s : Submission). s.problem < length x.fixed.settings.problems) x.submissions

-- the row of the cell that a submission is at
abbrev pub row_at : ContestState → Mask → Submission → Row
row_at x mask s = cell_row x.fixed.settings mask s.team s.problem (contest_cell mask x s.team s.problem)

then_tied : (o p : Ordering) → is_eq (ordering_then o p) ≡ (is_eq o && is_eq p)
then_tied Less p = refl
then_tied Equal p = refl
then_tied Greater p = refl

apart_numbers : (m n : ℕ) → (m == n) ≡ false → is_eq (value_cmp (number m) (number n)) ≡ false
apart_numbers m n h = ap is_eq (value_cmp-Int (pos m) (pos n)) ∙ grind (arith, nat_tests, h)

apart_texts : (s t : List ℕ) → bytes_eq s t ≡ false → is_eq (value_cmp (Text s) (Text t)) ≡ false
apart_texts s t h = ap is_eq (value_cmp-Text s t) ∙ is_eq-slice_cmp s t ∙ h

-- the keys of two rows tie where their three cells do
keys_tied : (s : ContestState) (m n : Mask) (a b : Submission) →
    is_eq (by_place (row_at s m a) (row_at s n b))
    ≡ (is_eq (value_cmp (number (mask_number m)) (number (mask_number n))) && (is_eq (value_cmp (number (a.team + 1)) (number (b.team + 1)))
    && (is_eq (value_cmp (Text (problem_id_at s.fixed.settings.problems a.problem)) (Text (problem_id_at s.fixed.settings.problems b.problem))) && true)))
keys_tied x m n a b =
    let masks = value_cmp (number (mask_number m)) (number (mask_number n)) in
    let teams = value_cmp (number (a.team + 1)) (number (b.team + 1)) in
    let ids = value_cmp (Text (problem_id_at x.fixed.settings.problems a.problem)) (Text (problem_id_at x.fixed.settings.problems b.problem)) in
    then_tied masks (ordering_then teams (ordering_then ids Equal)) ∙ ap (λ b. is_eq masks && b) (then_tied teams (ordering_then ids Equal) ∙ ap (λ b. is_eq teams && b) (then_tied ids Equal))

-- different problems have different ids
pub apart_ids : (ps : List Problem) (i j : ℕ) → are_different (map (λ (p : Problem). p.id) ps) ≡ true → i < length ps → j < length ps → (j == i) ≡ false → bytes_eq (problem_id_at ps i) (problem_id_at ps j) ≡ false
apart_ids ps i j different here there other =
    let go : (b : Bool) → bytes_eq (problem_id_at ps i) (problem_id_at ps j) ≡ b → b ≡ false = elim [
      | true ↦ λ e.
          (let same = (bytes_eq-Decides (problem_id_at ps i) (problem_id_at ps j)).0 e in
          let places : Some i ≡ Some j = sym (place_there (λ (p : Problem). p.id) ps i different here) ∙ ap (λ id. place_of id (map (λ (p : Problem). p.id) ps)) same ∙ place_there (λ (p : Problem). p.id) ps j different there in
          absurd (false≢true (sym other ∙ eq-eqb j i (sym (same_Some i j places)))))
      | false ↦ λ e. refl
    ] in
    go (bytes_eq (problem_id_at ps i) (problem_id_at ps j)) refl

module _ (x : ContestState) (placed : IsPlaced x) where
  abbrev IsThere : Submission → Type 0
  IsThere s = s.problem < length x.fixed.settings.problems

  abbrev AreApart : Row → Row → Type 0
  AreApart a b = is_eq (by_place a b) ≡ false

  -- cells at different places
  rows_apart : (mask : Mask) (a b : Submission) → IsThere a → IsThere b → at_place a b ≡ false → AreApart (row_at x mask a) (row_at x mask b)
  rows_apart mask a b here there other =
      let masks = is_eq (value_cmp (number (mask_number mask)) (number (mask_number mask))) in
      let teams = is_eq (value_cmp (number (a.team + 1)) (number (b.team + 1))) in
      let ids = is_eq (value_cmp (Text (problem_id_at x.fixed.settings.problems a.problem)) (Text (problem_id_at x.fixed.settings.problems b.problem))) in
      let go : (t p : Bool) → (b.team == a.team) ≡ t → (b.problem == a.problem) ≡ p → (t && p) ≡ false → (teams && (ids && true)) ≡ false = elim [
        | true ↦ elim [
          | true ↦ λ t p h. absurd (false≢true (sym h))
          | false ↦ λ t p h.
              (let text : ids ≡ false = apart_texts _ _ (apart_ids x.fixed.settings.problems a.problem b.problem placed.different here there p) in
              rw text (and-false teams))
        ]
        | false ↦ λ p t q h.
            (let number : teams ≡ false = apart_numbers (a.team + 1) (b.team + 1) (grind (arith, nat_tests, t)) in
            rw number refl)
      ] in
      keys_tied x mask mask a b ∙ ap (λ rest. masks && rest) (go (b.team == a.team) (b.problem == a.problem) refl refl other) ∙ and-false masks

  -- and those under different masks
  masks_apart : (a b : Submission) → AreApart (row_at x Held a) (row_at x Full b)
  masks_apart a b = keys_tied x Held Full a b ∙ (rw (apart_numbers 0 1 refl) refl)

  -- what holds of any two of a list with a property
  each_two : {A : Type 0} (P : A → Type 0) (R S : A → A → Type 0) → ((a b : A) → P a → P b → R a b → S a b) → (xs : List A) → AllByRecursion P xs → IsAscending R xs → IsAscending S xs
  each_two P R S h [] all up = tt
  each_two {A} P R S h (a ∷ xs) all up = (with_all xs all.1 up.0, each_two P R S h xs all.1 up.1)
    where
      with_all : (bs : List A) → AllByRecursion P bs → AllByRecursion (R a) bs → AllByRecursion (S a) bs
      with_all [] ps rs = tt
      with_all (b ∷ bs) ps rs = (h a b all.0 ps.0 rs.0, with_all bs ps.1 rs.1)

  under_apart : (mask : Mask) → IsAscending AreApart (cells_under mask x)
  under_apart mask =
      ascending-map AreApart (row_at x mask) (first_attempts x.submissions)
      (each_two IsThere (λ a b. at_place a b ≡ false) (λ a b. AreApart (row_at x mask a) (row_at x mask b)) (rows_apart mask) (first_attempts x.submissions) (all_first IsThere x.submissions placed.within) (first_apart x.submissions))

  across : (ss bs : List Submission) → AllByRecursion (λ r. AllByRecursion (AreApart r) (map (row_at x Full) bs)) (map (row_at x Held) ss)
  across [] bs = tt
  across (a ∷ ss) bs = (others bs, across ss bs)
    where
      others : (bs : List Submission) → AllByRecursion (AreApart (row_at x Held a)) (map (row_at x Full) bs)
      others [] = tt
      others (b ∷ bs) = (masks_apart a b, others bs)

  pub cells_apart : IsAscending (λ (a b : Row). is_eq (by_place a b) ≡ false) (cells_under Held x ++ cells_under Full x)
  cells_apart = ascending-append AreApart (cells_under Held x) (cells_under Full x) (under_apart Held) (under_apart Full) (across (first_attempts x.submissions) (first_attempts x.submissions))

-- a valid contest is so
pub is_placed : (x : ContestState) → is_valid x ≡ true → IsPlaced x
is_placed x valid =
    let p = parts x valid in
    let there = all_from_test (is_valid_submission x.fixed) x.submissions (and_left _ _ p.submissions) in
    record {
      different = (is_settings x p.settings).problems;
      within = all_weaker (λ s. is_valid_submission x.fixed s ≡ true) (λ (s : Submission). s.problem < length x.fixed.settings.problems)
          (λ s h. ltb-true s.problem _ (and_right _ _ (and_left _ _ (and_left _ _ (and_left _ _ (and_left _ _ h)))))) x.submissions there;
    }
