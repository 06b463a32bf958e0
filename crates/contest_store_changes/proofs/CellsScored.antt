-- What is written of the cells after a submission or a release makes them those of the contest.
use Rattle.std.proofs.Common.{◌≡◌, ◌∙◌, ◌<◌, ◌+◌, ℕ, Bool, true, false, List, [], ◌∷◌, map, length, refl, sym, ap, ap₂, subst, IsPermutation}
use Rattle.std.specs.Prelude.{◌&&◌, ◌==◌, if◌then◌else◌}
use Rattle.std.specs.Str.{bytes_eq}
use Rattle.std.proofs.lemmas.Bool.{eq-eqb, eqb-true, false≢true, and_parts}
use Rattle.std.proofs.lemmas.List.Sorted.{IsPermutation-sym}
use Rattle.std.proofs.lemmas.Slice.Eq.{bytes_eq-Decides}
use Rattle.std.proofs.Math.Bool.{and-false}
use Rattle.sqlite_keyed.specs.Lists.{sort_by}
use Rattle.sqlite_keyed.proofs.ListLemmas.{all_weaker, map-map}
use Rattle.sqlite_keyed.proofs.SortLemmas.{IsPermutation-sort_by}
use Rattle.sqlite_sql.proofs.QueryLemmas.{key_cmp_total}
use Rattle.sqlite_value.specs.Keys.{rising}
use Rattle.sqlite_value.specs.Order.{Row}
use Rattle.contest_types.specs.ProblemPlaces.{problem_id_at}
use Rattle.contest_types.specs.Setup.{Setup}
use Rattle.contest_types.specs.State.{ContestState}
use Rattle.contest_types.specs.declared.sight.Mask.{Mask}
use Rattle.contest_types.specs.declared.sight.Mask.TheVariants.{Full, Held}
use Rattle.contest_types.specs.declared.submission.Submission.{Submission}
use Rattle.contest_score.specs.declared.cell.Cell.{Cell}
use Rattle.contest_score.specs.Contest.{contest_cell}
use Rattle.contest_store_tables.specs.Changes.{change_row, changed_row, is_changed}
use Rattle.contest_store_tables.specs.Steps.{IsWith, Rises}
use Rattle.contest_store_tables.specs.declared.row_change.RowChange.TheVariants as change
use Rattle.contest_store_tables.specs.declared.table_name.TableName.TheVariants.{Cells}
use Rattle.contest_store_tables.proofs.SortedLemmas.{one_order}
use Rattle.contest_store_cells.specs.CellRows.{by_place, cell_row, cell_rows, first_attempts, mask_number}
use Rattle.contest_store_cells.proofs.CellChanges.{AreTwoMore, HasSameRow, cells_changed}
use Rattle.contest_store_cells.proofs.CellOrder.{IsPlaced, apart_ids, row_at}
use Rattle.contest_store_cells.proofs.FirstAttempts.{all_first, at_place}
use Rattle.contest_store_changes.specs.CellSteps.{IsWritable, written}
use Rattle.contest_store_changes.proofs.CellRowsKept.{all_of_cells, by_parts, cell_given, cells_held, cells_rise, changed_of_cells, keys_kept, sorted_rise, still_rise}
use Rattle.contest_store_changes.proofs.SameNumbers.{same_after}
use Rattle.contest_score.proofs.CachedLemmas.{eq_turned}

-- both rows may be written, and make the cells those of the contest
pub record Makes (is_new : Bool) (held full : Row) (cells next : List Row) : Type 0 where
  pub first : IsWritable is_new held cells
  pub second : IsWritable is_new full (written is_new held cells)
  pub makes : written is_new full (written is_new held cells) ≡ next

-- where the place is new
module _ (x y : ContestState) (s : Submission) (more : AreTwoMore x y s) (placed : IsPlaced y) where
  abbrev held : Row
  held = row_at y Held s

  abbrev full : Row
  full = row_at y Full s

  -- one more row among rows, where it makes rows that rise
  with_row : (mask : Mask) (rows want : List Row) → Rises Cells want → IsPermutation (row_at y mask s ∷ rows) want → IsWith Cells (row_at y mask s) rows (sort_by by_place (row_at y mask s ∷ rows))
  with_row mask rows want up among = record {
    as_given = cell_given y.fixed.settings mask s.team s.problem (contest_cell mask y s.team s.problem);
    among = IsPermutation-sym _ _ (IsPermutation-sort_by by_place (key_cmp_total (rising 3 []) 0) (row_at y mask s ∷ rows));
    rises = subst (Rises Cells) (sym (one_order by_place (key_cmp_total (rising 3 []) 0) (row_at y mask s ∷ rows) want up among)) up;
  }

  pub makes_new : Makes true held full (cell_rows x) (cell_rows y)
  makes_new =
      let half : sort_by by_place (held ∷ cell_rows x) ≡ sort_by by_place more.between = one_order by_place (key_cmp_total (rising 3 []) 0) (held ∷ cell_rows x) (sort_by by_place more.between) (sorted_rise more.between more.first_apart) more.first in
      let second : IsPermutation (full ∷ sort_by by_place (held ∷ cell_rows x)) (cell_rows y) = subst (λ (rows : List Row). IsPermutation (full ∷ rows) (cell_rows y)) (sym half) more.second in
      record {
        first = with_row Held (cell_rows x) (sort_by by_place more.between) (sorted_rise more.between more.first_apart) more.first;
        second = with_row Full (sort_by by_place (held ∷ cell_rows x)) (cell_rows y) (cells_rise y placed) second;
        makes = one_order by_place (key_cmp_total (rising 3 []) 0) (full ∷ sort_by by_place (held ∷ cell_rows x)) (cell_rows y) (cells_rise y placed) second;
      }

-- where a cell is there
module _ (x y : ContestState) (s : Submission) (same : y.fixed.settings ≡ x.fixed.settings) (first : first_attempts y.submissions ≡ first_attempts x.submissions)
    (keeps : (u : Submission) → at_place s u ≡ false → HasSameRow x y u) (placed : IsPlaced x) (there : s.problem < length x.fixed.settings.problems) where
  abbrev own : Mask → Row
  own mask = cell_row x.fixed.settings mask s.team s.problem (contest_cell mask y s.team s.problem)

  abbrev changes : Row → Row
  changes r = change_row change.Cell (own Full) (change_row change.Cell (own Held) r)

  -- the key is its own
  own_key : (mask : Mask) (c : Cell) → is_changed change.Cell (own mask) (cell_row x.fixed.settings mask s.team s.problem c) ≡ true
  own_key mask c =
      by_parts x.fixed.settings mask mask s.team s.problem s.team s.problem (contest_cell mask y s.team s.problem) c
      ∙ (rw (eq-eqb (mask_number mask) (mask_number mask) refl, eq-eqb (s.team + 1) (s.team + 1) refl, (bytes_eq-Decides (problem_id_at x.fixed.settings.problems s.problem) (problem_id_at x.fixed.settings.problems s.problem)).1 refl) refl)

  -- or that of the other mask
  other_key : (m n : Mask) → (mask_number n == mask_number m) ≡ false → (c : Cell) → is_changed change.Cell (own m) (cell_row x.fixed.settings n s.team s.problem c) ≡ false
  other_key m n apart c = by_parts x.fixed.settings m n s.team s.problem s.team s.problem (contest_cell m y s.team s.problem) c ∙ (rw apart refl)

  is_put : (m : Mask) (r : Row) → is_changed change.Cell (own m) r ≡ true → change_row change.Cell (own m) r ≡ changed_row change.Cell (own m) r
  is_put m r is = ap (λ b. if b then changed_row change.Cell (own m) r else r) is

  is_left : (m : Mask) (r : Row) → is_changed change.Cell (own m) r ≡ false → change_row change.Cell (own m) r ≡ r
  is_left m r is = ap (λ b. if b then changed_row change.Cell (own m) r else r) is

  -- the row of its cell
  at_it : (mask : Mask) (c : Cell) → changes (cell_row x.fixed.settings mask s.team s.problem c) ≡ own mask
  at_it Held c =
      ap (change_row change.Cell (own Full)) (is_put Held (cell_row x.fixed.settings Held s.team s.problem c) (own_key Held c))
      ∙ is_left Full (own Held) (other_key Full Held refl (contest_cell Held y s.team s.problem))
  at_it Full c =
      ap (change_row change.Cell (own Full)) (is_left Held (cell_row x.fixed.settings Full s.team s.problem c) (other_key Held Full refl c))
      ∙ is_put Full (cell_row x.fixed.settings Full s.team s.problem c) (own_key Full c)

  -- the key of a cell elsewhere
  place_key : (m n : Mask) (u : Submission) (c : Cell) → u.problem < length x.fixed.settings.problems → at_place s u ≡ false → is_changed change.Cell (own m) (cell_row x.fixed.settings n u.team u.problem c) ≡ false
  place_key m n u c here other =
      let go : (t p : Bool) → (u.team == s.team) ≡ t → (u.problem == s.problem) ≡ p → (t && p) ≡ false
      → ((u.team + 1 == s.team + 1) && (bytes_eq (problem_id_at x.fixed.settings.problems u.problem) (problem_id_at x.fixed.settings.problems s.problem) && true)) ≡ false = elim [
        | true ↦ elim [
          | true ↦ λ t p h. absurd (false≢true (sym h))
          | false ↦ λ t p h. (rw (apart_ids x.fixed.settings.problems u.problem s.problem placed.different here there (eq_turned s.problem u.problem ∙ p)) (and-false (u.team + 1 == s.team + 1)))
        ]
        | false ↦ λ p t q h. (rw (same_after u.team s.team ∙ t) refl)
      ] in
      by_parts x.fixed.settings m n s.team s.problem u.team u.problem (contest_cell m y s.team s.problem) c
      ∙ ap (λ rest. (mask_number n == mask_number m) && rest) (go (u.team == s.team) (u.problem == s.problem) refl refl other) ∙ and-false (mask_number n == mask_number m)

  -- every cell's row
  each_row : (u : Submission) → u.problem < length x.fixed.settings.problems → (mask : Mask) → row_at y mask u ≡ changes (row_at x mask u)
  each_row u here mask =
      let go : (b : Bool) → at_place s u ≡ b → row_at y mask u ≡ changes (row_at x mask u) = elim [
        | true ↦ λ e.
            (let parts = and_parts (u.team == s.team) (u.problem == s.problem) e in
            let team : u.team ≡ s.team = eqb-true u.team s.team parts.0 in
            let problem : u.problem ≡ s.problem = eqb-true u.problem s.problem parts.1 in
            let now : row_at y mask u ≡ own mask = ap (λ (f : Setup). cell_row f mask u.team u.problem (contest_cell mask y u.team u.problem)) same ∙ ap₂ (λ (t p : ℕ). cell_row x.fixed.settings mask t p (contest_cell mask y t p)) team problem in
            let before : row_at x mask u ≡ cell_row x.fixed.settings mask s.team s.problem (contest_cell mask x s.team s.problem) = ap₂ (λ (t p : ℕ). cell_row x.fixed.settings mask t p (contest_cell mask x t p)) team problem in
            now ∙ sym (at_it mask (contest_cell mask x s.team s.problem)) ∙ ap changes (sym before))
        | false ↦ λ e.
            (let c = contest_cell mask x u.team u.problem in
            keeps u e mask
            ∙ sym (ap (change_row change.Cell (own Full)) (is_left Held (row_at x mask u) (place_key Held mask u c here e)) ∙ is_left Full (row_at x mask u) (place_key Full mask u c here e)))
      ] in
      go (at_place s u) refl

  pub makes_changed : Makes false (own Held) (own Full) (cell_rows x) (cell_rows y)
  makes_changed =
      let half = map (change_row change.Cell (own Held)) (cell_rows x) in
      let of_half = changed_of_cells x.fixed.settings Held s.team s.problem (contest_cell Held y s.team s.problem) (cell_rows x) (all_of_cells x) in
      let rises = still_rise (own Held) (cell_rows x) (cells_rise x placed) in
      record {
        first = record { is = refl; held = cells_held half of_half; rises = rises };
        second = record {
          is = refl;
          held = cells_held (map (change_row change.Cell (own Full)) half) (changed_of_cells x.fixed.settings Full s.team s.problem (contest_cell Full y s.team s.problem) half of_half);
          rises = still_rise (own Full) half rises;
        };
        makes = map-map (change_row change.Cell (own Full)) (change_row change.Cell (own Held)) (cell_rows x)
            ∙ sym (cells_changed x y changes (keys_kept (own Held) (own Full)) first
            (all_weaker (λ (u : Submission). u.problem < length x.fixed.settings.problems) (λ u. (mask : Mask) → row_at y mask u ≡ changes (row_at x mask u)) each_row (first_attempts x.submissions)
            (all_first (λ (u : Submission). u.problem < length x.fixed.settings.problems) x.submissions placed.within)));
      }
