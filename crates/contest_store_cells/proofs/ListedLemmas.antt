-- The cells of a contest, listed in the order of their table.
use Rattle.std.proofs.Common.{◌≡◌, ◌+◌, ◌<◌, ◌^◌, ◌∙◌, ℕ, Bool, true, false, not, List, [], ◌∷◌, ◌++◌, length, map, filter, get_or, refl, sym, ap, ap₂, subst, arith, All, Ordering, Less, Equal, Greater, nat_cmp, int_cmp, pos, IsPermutation, IsSorted, is_eq, is_lt, Bor}
use Rattle.std.specs.Prelude.{nat_lt}
use Rattle.std.specs.Cmp.{IsTotalOrder}
use Rattle.std.specs.Cmp.Lexicographic.{slice_cmp}
use Rattle.std.specs.Ordering.{ordering_then}
use Rattle.std.proofs.lemmas.Bool.{lt-ltb, ltb-true}
use Rattle.std.proofs.lemmas.Bool.Decides.{nat_tests}
use Rattle.std.specs.Fn.{Called}
use Rattle.std.specs.List.Sorted.{IsSortedByClosure}
use denote.Param.Members.{Mut}
use Rattle.std.proofs.lemmas.Cmp.{on_total}
use Rattle.std.proofs.lemmas.Fn.{always_returns_same}
use Rattle.std.proofs.lemmas.List.{map-append}
use Rattle.std.proofs.lemmas.List.Elements.{All-append, All-from_recursion, All-map, All-weaker, filter_passes, recursion_from_All}
use Rattle.std.proofs.lemmas.List.Sorted.{All-permutation, ranks_by}
use Rattle.sqlite_trees.specs.Tree.{IsAscending}
use Rattle.sqlite_keyed.specs.Lists.{sort_by}
use Rattle.sqlite_keyed.proofs.ListLemmas.{ascending_from_map, filter-map, filter_all, map-map}
use Rattle.sqlite_keyed.proofs.SortLemmas.{sort_by-map, sorted_is-sort_by}
use Rattle.sqlite_sql.proofs.QueryLemmas.{key_cmp_total}
use Rattle.sqlite_value.proofs.OrderLemmas.{then-Equal, value_cmp-Int, value_cmp-Text}
use Rattle.sqlite_value.specs.Keys.{rising}
use Rattle.sqlite_value.specs.Order.{Row}
use Rattle.contest_types.specs.Loads.{without_file}
use Rattle.contest_types.specs.ProblemPlaces.{problem_id_at}
use Rattle.contest_types.specs.Setup.{Setup}
use Rattle.contest_types.specs.State.{ContestState}
use Rattle.contest_types.specs.Valid.{is_valid}
use Rattle.contest_types.specs.declared.objects.Team.{Team}
use Rattle.contest_types.specs.declared.sight.Mask.{Mask}
use Rattle.contest_types.specs.declared.sight.Mask.TheVariants.{Full, Held}
use Rattle.contest_types.specs.declared.submission.Submission.{Submission}
use Rattle.contest_lists.specs.Lists.{loaded}
use Rattle.contest_score.specs.Contest.{contest_cell}
use Rattle.contest_score.specs.ScoringLaws.{is_at}
use Rattle.contest_score.specs.declared.cell.Cell.{Cell}
use Rattle.contest_score.proofs.CachedLemmas.{files_score_nothing}
use Rattle.contest_score.proofs.ValidLists.{valid_can_be_scored}
use Rattle.contest_store_cells.specs.CellRows.{by_place, cell_row, cell_rows, cells_under, first_attempts, mask_number}
use Rattle.contest_store_cells.specs.Listing.{cell_at, cells_at, first_places, of_teams, place_of}
use Rattle.contest_store_cells.specs.PlacedCells.{placed_cmp, placed_row}
use Rattle.contest_store_cells.specs.declared.placed.PlacedCell.{PlacedCell}
use Rattle.contest_store_cells.proofs.CellOrder.{cells_apart, is_placed}
use Rattle.contest_store_cells.proofs.FirstAttempts.{all_first}

attempts_loaded : (ss : List Submission) → first_attempts (map without_file ss) ≡ map without_file (first_attempts ss)
attempts_loaded [] = refl
attempts_loaded (s ∷ ss) =
    let p : Submission → Bool = λ u. not (is_at s.team s.problem u) in
    ap (λ us. without_file s ∷ us) (ap (filter p) (attempts_loaded ss) ∙ filter-map p without_file (first_attempts ss))

-- the rows of these cells at these submissions
abbrev rows_at : Setup → (ℕ → ℕ → Cell) → Mask → List Submission → List Row
rows_at s cell mask = map (λ u. cell_row s mask u.team u.problem (cell u.team u.problem))

under_loaded : (x : ContestState) (mask : Mask) → cells_under mask (loaded x) ≡ cells_under mask x
under_loaded x mask =
    let s = x.fixed.settings in
    ap (rows_at s (contest_cell mask (loaded x)) mask) (attempts_loaded x.submissions)
    ∙ (map-map (λ (u : Submission). cell_row s mask u.team u.problem (contest_cell mask (loaded x) u.team u.problem)) without_file (first_attempts x.submissions)
    ∙ ap (λ (cell : ℕ → ℕ → Cell). rows_at s cell mask (first_attempts x.submissions)) (files_score_nothing x mask))

-- files stand in no row
pub cell_rows_loaded : (x : ContestState) → cell_rows (loaded x) ≡ cell_rows x
cell_rows_loaded x = ap₂ (λ held full. sort_by by_place (held ++ full)) (under_loaded x Held) (under_loaded x Full)

-- the first submissions of a valid contest are by teams that are there
places_loaded : (x : ContestState) → is_valid x ≡ true → first_places (length x.fixed.settings.teams) (map without_file x.submissions) ≡ map place_of (first_attempts x.submissions)
places_loaded x valid =
    let ss = map without_file x.submissions in
    let teams = length x.fixed.settings.teams in
    let within : Submission → Bool = λ s. nat_lt s.team teams in
    let all = recursion_from_All (λ (s : Submission). within s ≡ true) ss (λ i d l. lt-ltb (get_or ss i d).team teams (((valid_can_be_scored x valid).1).countable i d l).team) in
    ap (λ us. map place_of (first_attempts us)) (filter_all within ss all)
    ∙ (ap (map place_of) (attempts_loaded x.submissions) ∙ map-map place_of without_file (first_attempts x.submissions))

rows_placed : (s : Setup) (cell : Mask → ℕ → ℕ → Cell) (mask : Mask) (us : List Submission) → map (placed_row s) (map (cell_at cell mask) (map place_of us)) ≡ rows_at s (cell mask) mask us
rows_placed s cell mask [] = refl
rows_placed s cell mask (u ∷ us) = ap (λ rows. cell_row s mask u.team u.problem (cell mask u.team u.problem) ∷ rows) (rows_placed s cell mask us)

-- the rows of all cells, before they are sorted
rows_listed : (x : ContestState) (cell : Mask → ℕ → ℕ → Cell) → cell ≡ (λ mask. contest_cell mask x)
    → map (placed_row x.fixed.settings) (cells_at cell (map place_of (first_attempts x.submissions))) ≡ cells_under Held x ++ cells_under Full x
rows_listed x cell same =
    let s = x.fixed.settings in
    let us = first_attempts x.submissions in
    map-append (placed_row s) (map (cell_at cell Held) (map place_of us)) (map (cell_at cell Full) (map place_of us))
    ∙ (ap₂ ◌++◌ (rows_placed s cell Held us) (rows_placed s cell Full us)
    ∙ ap (λ (c : Mask → ℕ → ℕ → Cell). rows_at s (c Held) Held us ++ rows_at s (c Full) Full us) same)

int_nat : (m n : ℕ) → int_cmp (pos m) (pos n) ≡ nat_cmp m n
int_nat m n = grind (arith, nat_tests)

nat_next : (m n : ℕ) → nat_cmp (m + 1) (n + 1) ≡ nat_cmp m n
nat_next m n = grind (arith, nat_tests)

thens : (o p q : Ordering) → ordering_then o (ordering_then p (ordering_then q Equal)) ≡ ordering_then (ordering_then o p) q
thens Less p q = refl
thens Greater p q = refl
thens Equal Less q = refl
thens Equal Greater q = refl
thens Equal Equal q = then-Equal q

-- by the number of the mask, the team's place and the problem's id
placed_order : (s : Setup) (a b : PlacedCell)
    → placed_cmp s a b ≡ ordering_then (ordering_then (nat_cmp (mask_number a.mask) (mask_number b.mask)) (nat_cmp a.team b.team)) (slice_cmp nat_cmp (problem_id_at s.problems a.problem) (problem_id_at s.problems b.problem))
placed_order s a b =
    let m = mask_number a.mask in
    let n = mask_number b.mask in
    rw (
      value_cmp-Int (pos m) (pos n) ∙ int_nat m n,
      value_cmp-Int (pos (a.team + 1)) (pos (b.team + 1)) ∙ (int_nat (a.team + 1) (b.team + 1) ∙ nat_next a.team b.team),
      value_cmp-Text (problem_id_at s.problems a.problem) (problem_id_at s.problems b.problem),
    ) (thens (nat_cmp m n) (nat_cmp a.team b.team) (slice_cmp nat_cmp (problem_id_at s.problems a.problem) (problem_id_at s.problems b.problem)))

-- the same once masks and teams are compared
pub order_after : (s : Setup) (a b : PlacedCell) (m n : ℕ) (masks teams front : Ordering) → m ≡ mask_number a.mask → n ≡ mask_number b.mask → masks ≡ nat_cmp m n → teams ≡ nat_cmp a.team b.team
    → front ≡ ordering_then masks teams → (o : Ordering) → front ≡ o → ordering_then o (slice_cmp nat_cmp (problem_id_at s.problems a.problem) (problem_id_at s.problems b.problem)) ≡ placed_cmp s a b
order_after s a b m n masks teams front m_is n_is masks_are teams_are front_is o is =
    let ids = slice_cmp nat_cmp (problem_id_at s.problems a.problem) (problem_id_at s.problems b.problem) in
    ap (λ p. ordering_then p ids) (sym is ∙ (front_is ∙ ap₂ ordering_then (masks_are ∙ ap₂ nat_cmp m_is n_is) teams_are)) ∙ sym (placed_order s a b)

pub placed_total : (s : Setup) → IsTotalOrder (placed_cmp s)
placed_total s = on_total (placed_row s) (key_cmp_total (rising 3 []) 0)

-- cells that are sorted are those of the table, where the lists are a contest's
abbrev pub AreListed : ContestState → ContestState → List PlacedCell → Type 0
AreListed x lists ys =
    (cell : Mask → ℕ → ℕ → Cell) → cell ≡ (λ mask. contest_cell mask x)
    → IsPermutation (cells_at cell (first_places (length lists.fixed.settings.teams) lists.submissions)) ys → IsSorted (placed_cmp lists.fixed.settings) ys
    → map (placed_row lists.fixed.settings) ys ≡ cell_rows x

listed_loaded : (x : ContestState) → is_valid x ≡ true → (ys : List PlacedCell) → AreListed x (loaded x) ys
listed_loaded x valid ys cell same moved sorted =
    let s = x.fixed.settings in
    let zs = cells_at cell (map place_of (first_attempts x.submissions)) in
    let from : IsPermutation zs ys = subst (λ (places : List (ℕ × ℕ)). IsPermutation (cells_at cell places) ys) (places_loaded x valid) moved in
    let rows = rows_listed x cell same in
    let apart = subst (IsAscending (λ a b. is_eq (by_place a b) ≡ false)) (sym rows) (cells_apart x (is_placed x valid)) in
    let is : ys ≡ sort_by (placed_cmp s) zs = sorted_is-sort_by (placed_cmp s) (placed_total s) zs ys (ascending_from_map (λ a b. is_eq (by_place a b) ≡ false) (placed_row s) zs apart) from sorted in
    ap (map (placed_row s)) is ∙ (sym (sort_by-map by_place (placed_row s) zs) ∙ ap (sort_by by_place) rows)

pub listed : (x : ContestState) → is_valid x ≡ true → (lists : ContestState) → loaded x ≡ lists → (ys : List PlacedCell) → AreListed x lists ys
listed x valid lists is ys = subst (λ (l : ContestState). AreListed x l ys) is (listed_loaded x valid ys)

-- the cells that were found are those of the lists
pub found_of : (cell : Mask → ℕ → ℕ → Cell) (lists : ContestState) (cells : List PlacedCell) (places found : List (ℕ × ℕ)) (teams : List Team) (ss : List Submission)
    → cells ≡ cells_at cell places → places ≡ found → found ≡ first_places (length teams) ss → teams ≡ lists.fixed.settings.teams → ss ≡ lists.submissions
    → cells ≡ cells_at cell (first_places (length lists.fixed.settings.teams) lists.submissions)
found_of cell lists cells places found teams ss cells_are places_are found_are teams_are rows_are =
    cells_are ∙ ap (cells_at cell) (places_are ∙ (found_are ∙ ap₂ first_places (ap length teams_are) rows_are))

-- the number of each cell's team fits a cell of the table
pub numbers_fit : (cell : Mask → ℕ → ℕ → Cell) (teams : ℕ) (ss : List Submission) (ys : List PlacedCell) → teams + 1 < 2 ^ 63
    → IsPermutation (cells_at cell (first_places teams ss)) ys → All (λ c. c.team + 1 < 2 ^ 63) ys
numbers_fit cell teams ss ys few moved =
    let within : Submission → Bool = λ s. nat_lt s.team teams in
    let passes = recursion_from_All (λ (s : Submission). within s ≡ true) (of_teams teams ss) (filter_passes within ss) in
    let firsts = All-from_recursion (λ (s : Submission). within s ≡ true) (first_attempts (of_teams teams ss)) (all_first (λ s. within s ≡ true) (of_teams teams ss) passes) in
    let there : All (λ (p : ℕ × ℕ). p.0 < teams) (first_places teams ss) = All-map (λ (p : ℕ × ℕ). p.0 < teams) place_of (first_attempts (of_teams teams ss)) (All-weaker (λ (s : Submission). within s ≡ true) (λ s. s.team < teams) (λ s t. ltb-true s.team teams t) (first_attempts (of_teams teams ss)) firsts) in
    let own = λ (mask : Mask). All-map (λ (c : PlacedCell). c.team + 1 < 2 ^ 63) (cell_at cell mask) (first_places teams ss) (All-weaker (λ (p : ℕ × ℕ). p.0 < teams) (λ p. p.0 + 1 < 2 ^ 63) (λ p l. omega (arith, few, l)) (first_places teams ss) there) in
    let both = All-append (λ (c : PlacedCell). c.team + 1 < 2 ^ 63) (map (cell_at cell Held) (first_places teams ss)) (map (cell_at cell Full) (first_places teams ss)) (own Held) (own Full) in
    All-permutation (λ (c : PlacedCell). c.team + 1 < 2 ^ 63) (cells_at cell (first_places teams ss)) ys moved both

-- what a sort by such comparisons leaves
pub sorted_placed : {F : Type 0} {g : Mut F (Bor PlacedCell × (Bor PlacedCell × Unit {0})) Ordering} {f : F} (s : Setup) (cs : List PlacedCell) → IsSortedByClosure g f cs
    → ((a : Bor PlacedCell × (Bor PlacedCell × Unit {0})) (r : Ordering) (h : F) → Called g f a r h → (r ≡ placed_cmp s a.0.now a.1.0.now) × (h ≡ f)) → IsSorted (placed_cmp s) cs
sorted_placed {g = g} {f = f} s cs up same =
    up (λ x y. is_lt (placed_cmp s x y)) (ranks_by (placed_total s) (λ c. c))
    (always_returns_same g (λ a r. is_lt r ≡ is_lt (placed_cmp s a.0.now a.1.0.now)) f (λ a r h k. (ap is_lt (same a r h k).0, (same a r h k).1)))
