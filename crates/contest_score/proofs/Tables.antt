-- Tables of cells, and how they grow by one submission.
use Rattle.std.proofs.Common.{◌≡◌, ◌≢◌, ◌⊎◌, ℕ, suc, ◌+◌, ◌<◌, ◌≤◌, ◌^◌, Bool, true, false, cond, List, [], ◌∷◌, ◌++◌, length, take, get_or, set, map, filter, slice_get, Some, None, refl, sym, ap, subst, ◌∙◌, append-nil, arith, inl, inr, All, eqb}
use Rattle.std.specs.List.{range_with_len}
use Rattle.std.proofs.Math.Path.{fun_ext}
use Rattle.std.proofs.lemmas.Bool.{cases_eq, eqb-true, eq-eqb, cases_lt}
use Rattle.std.proofs.lemmas.List.{take_more, length-map, length-take, length-set, map-append, get_or-set_same, get_or-set_other}
use Rattle.std.proofs.lemmas.List.Elements.{filter-append}
use Rattle.std.proofs.lemmas.List.Sums.{length-filter, count_by-le-length}
use Rattle.std.proofs.lemmas.List.FromFn.{fill_by_all, get_or-map-range_with_len, length-map-range_with_len}
use Rattle.std.proofs.lemmas.Option.{slice_get-get_or, slice_get_past}
use Rattle.std.proofs.Math.Bool.{and-false}
use Rattle.contest_types.specs.Setup.{Setup}
use Rattle.contest_types.specs.declared.marks.Marks.{Marks}
use Rattle.contest_types.specs.declared.audience.Audience.{Audience}
use Rattle.contest_score.specs.declared.cell.Cell.{Cell}
use Rattle.contest_types.specs.declared.sight.Mask.{Mask}
use Rattle.contest_score.specs.declared.submission.JudgedSubmission.{JudgedSubmission}
use Rattle.contest_score.specs.Counting.{HasRoom, cell_with, cells_table, row_at, with_cell}
use Rattle.contest_score.specs.Table.{no_attempts, cell_in}
use Rattle.contest_score.specs.MaskedCells.{mask_for, is_by, attempt_under, attempts_under, start_of, cell_for, IsAdmitted}
use Rattle.contest_score.proofs.CellSteps.{cell_more, cell_room}

-- one place of a list by places is set
pub set_by_places : {X : Type 0} (f g : ℕ → X) (n i : ℕ) (v : X) → i < n → g i ≡ v → ((k : ℕ) → k ≢ i → g k ≡ f k) → set (map f (range_with_len 0 n)) i v ≡ map g (range_with_len 0 n)
set_by_places {X} f g n i v l same others =
    let whole : length (map f (range_with_len 0 n)) ≡ n = length-map-range_with_len f 0 n in
    let at = λ (k : ℕ) (m : k < n). (let r : get_or (set (map f (range_with_len 0 n)) i v) k v ≡ g k = elim (cases_eq k i) [
      | inl is ↦ rw is (get_or-set_same (map f (range_with_len 0 n)) i v v (omega (arith, l, whole)) ∙ sym same)
      | inr off ↦ get_or-set_other (map f (range_with_len 0 n)) i k v v off ∙ (get_or-map-range_with_len f 0 n k k v m (omega arith) ∙ sym (others k off))
    ] in r) in
    fill_by_all g (set (map f (range_with_len 0 n)) i v) n v (length-set (map f (range_with_len 0 n)) i v ∙ whole) at

at_places : {X : Type 0} (f : ℕ → X) (n i : ℕ) → i < n → slice_get (map f (range_with_len 0 n)) i ≡ Some (f i)
at_places f n i l =
    slice_get-get_or (map f (range_with_len 0 n)) i (f i) (omega (arith, l, length-map-range_with_len f 0 n)) ∙ ap Some (get_or-map-range_with_len f 0 n i i (f i) l (omega arith))

past_places : {X : Type 0} (f : ℕ → X) (n i : ℕ) → n ≤ i → slice_get (map f (range_with_len 0 n)) i ≡ None
past_places f n i l = slice_get_past (map f (range_with_len 0 n)) i (omega (arith, l, length-map-range_with_len f 0 n))

row_in_table : (f : ℕ → ℕ → Cell) (teams problems team : ℕ) → team < teams → row_at (cells_table f teams problems) team ≡ map (f team) (range_with_len 0 problems)
row_in_table f teams problems team l = rw (at_places (λ u. map (f u) (range_with_len 0 problems)) teams team l) refl

cell_in_table : (f : ℕ → ℕ → Cell) (teams problems team problem : ℕ) → team < teams → problem < problems → cell_in (cells_table f teams problems) team problem ≡ f team problem
cell_in_table f teams problems team problem l m = rw (at_places (λ u. map (f u) (range_with_len 0 problems)) teams team l, at_places (f team) problems problem m) refl

-- a table with one cell changed
table_with : (f g : ℕ → ℕ → Cell) (teams problems team problem : ℕ) (c : Cell) → team < teams → problem < problems → g team problem ≡ c
    → ((u p : ℕ) → (u ≢ team) ⊎ (p ≢ problem) → g u p ≡ f u p) → with_cell (cells_table f teams problems) team problem c ≡ cells_table g teams problems
table_with f g teams problems team problem c l m same others =
    let row : set (map (f team) (range_with_len 0 problems)) problem c ≡ map (g team) (range_with_len 0 problems) = set_by_places (f team) (g team) problems problem c m same (λ p off. others team p (inr off)) in
    rw (row_in_table f teams problems team l, row) (set_by_places (λ u. map (f u) (range_with_len 0 problems)) (λ u. map (g u) (range_with_len 0 problems)) teams team _ l refl (λ u off. ap (λ r. map r (range_with_len 0 problems)) (fun_ext (λ p. others u p (inl off)))))

-- one more submission at the end
filter_more : (test : JudgedSubmission → Bool) (us : List JudgedSubmission) (u : JudgedSubmission) (b : Bool) → test u ≡ b → filter test (us ++ u ∷ []) ≡ filter test us ++ cond b (u ∷ []) []
filter_more test us u b h = filter-append test us (u ∷ []) ∙ (rw h refl)

cell_with_own : (who : Audience) (s : Setup) (marks : Marks) (now : ℕ) (us : List JudgedSubmission) (u : JudgedSubmission) (team problem : ℕ) → is_by team problem u ≡ true
    → cell_for who s marks now (us ++ u ∷ []) team problem ≡ cell_with (start_of marks) (cell_for who s marks now us team problem) (attempt_under (mask_for who marks now team) s marks u)
cell_with_own who s marks now us u team problem h =
    rw (filter_more (is_by team problem) us u true h, map-append) (cell_more (start_of marks) (attempts_under (mask_for who marks now team) s marks us team problem) (attempt_under (mask_for who marks now team) s marks u))

cell_with_other : (who : Audience) (s : Setup) (marks : Marks) (now : ℕ) (us : List JudgedSubmission) (u : JudgedSubmission) (team problem : ℕ) → is_by team problem u ≡ false
    → cell_for who s marks now (us ++ u ∷ []) team problem ≡ cell_for who s marks now us team problem
cell_with_other who s marks now us u team problem h =
    rw (filter_more (is_by team problem) us u false h, append-nil) refl

by_itself : (u : JudgedSubmission) → is_by u.team u.problem u ≡ true
by_itself u = rw (eq-eqb u.team u.team refl, eq-eqb u.problem u.problem refl) refl

pub not_equal : (m n : ℕ) → (b : Bool) → eqb m n ≡ b → n ≢ m → b ≡ false
not_equal m n true e off = absurd (off (sym (eqb-true m n e)))
not_equal m n false e off = refl

by_other_team : (u : JudgedSubmission) (team problem : ℕ) → team ≢ u.team → is_by team problem u ≡ false
by_other_team u team problem off = rw (not_equal u.team team (eqb u.team team) refl off) refl

by_other : (u : JudgedSubmission) (team problem : ℕ) → (team ≢ u.team) ⊎ (problem ≢ u.problem) → is_by team problem u ≡ false
by_other u team problem (inl off) = by_other_team u team problem off
by_other u team problem (inr off) = rw (not_equal u.problem problem (eqb u.problem problem) refl off) (and-false (eqb u.team team))

-- what the caller's table is after the first submissions
abbrev pub table_of : Audience → Setup → Marks → ℕ → List JudgedSubmission → List (List Cell)
table_of who s marks now us = cells_table (cell_for who s marks now us) (length s.teams) (length s.problems)

-- and after one more
pub next_table : (who : Audience) (s : Setup) (marks : Marks) (now : ℕ) (us : List JudgedSubmission) (i : ℕ) (u : JudgedSubmission) (mask : Mask) (rows : List (List Cell)) → i < length us → u ≡ get_or us i u → IsAdmitted s marks u → mask ≡ mask_for who marks now u.team
    → rows ≡ table_of who s marks now (take i us) → with_cell rows u.team u.problem (cell_with (start_of marks) (cell_in rows u.team u.problem) (attempt_under mask s marks u)) ≡ table_of who s marks now (take (i + 1) us)
next_table who s marks now us i u mask rows l e a is_mask h =
    let grown : take (i + 1) us ≡ take i us ++ u ∷ [] = rw (← e) at (take_more us i u l) in
    let here : cell_in (table_of who s marks now (take i us)) u.team u.problem ≡ cell_for who s marks now (take i us) u.team u.problem = cell_in_table (cell_for who s marks now (take i us)) (length s.teams) (length s.problems) u.team u.problem a.team a.problem in
    rw (h, is_mask, here, grown) (table_with (cell_for who s marks now (take i us)) (cell_for who s marks now (take i us ++ u ∷ [])) (length s.teams) (length s.problems) u.team u.problem _ a.team a.problem
    (cell_with_own who s marks now (take i us) u u.team u.problem (by_itself u))
    (λ team problem off. cell_with_other who s marks now (take i us) u team problem (by_other u team problem off)))

-- what counting one more needs
pub table_teams : (who : Audience) (s : Setup) (marks : Marks) (now : ℕ) (us : List JudgedSubmission) (team : ℕ) → team < length s.teams → team < length (table_of who s marks now us)
table_teams who s marks now us team l = omega (arith, l, length-map-range_with_len (λ u. map (cell_for who s marks now us u) (range_with_len 0 (length s.problems))) 0 (length s.teams))

pub table_problems : (who : Audience) (s : Setup) (marks : Marks) (now : ℕ) (us : List JudgedSubmission) (team problem : ℕ) → team < length s.teams → problem < length s.problems → problem < length (row_at (table_of who s marks now us) team)
table_problems who s marks now us team problem l m =
    rw (row_in_table (cell_for who s marks now us) (length s.teams) (length s.problems) team l) (omega (arith, m, length-map-range_with_len (cell_for who s marks now us team) 0 (length s.problems)))

attempts_most : (mask : Mask) (s : Setup) (marks : Marks) (us : List JudgedSubmission) (team problem : ℕ) → length (attempts_under mask s marks us team problem) ≤ length us
attempts_most mask s marks us team problem =
    omega (arith, length-map (filter (is_by team problem) us) (attempt_under mask s marks), length-filter (is_by team problem) us, count_by-le-length (is_by team problem) us)

pub table_room : (who : Audience) (s : Setup) (marks : Marks) (now : ℕ) (us : List JudgedSubmission) (i team problem : ℕ) → i < length us → length us < 2 ^ 32 → team < length s.teams → problem < length s.problems → HasRoom (cell_in (table_of who s marks now (take i us)) team problem)
table_room who s marks now us i team problem n few l m =
    let most : length (attempts_under (mask_for who marks now team) s marks (take i us) team problem) ≤ length (take i us) = attempts_most (mask_for who marks now team) s marks (take i us) team problem in
    let fits : length (attempts_under (mask_for who marks now team) s marks (take i us) team problem) + 1 < 2 ^ 32 = omega (arith, most, length-take i us, n, few) in
    rw (cell_in_table (cell_for who s marks now (take i us)) (length s.teams) (length s.problems) team problem l m) (cell_room (start_of marks) (attempts_under (mask_for who marks now team) s marks (take i us) team problem) fits)

-- the mask of a team that is there
pub mask_at : (f : ℕ → Mask) (n : ℕ) (masks : List Mask) (i : ℕ) (mask : Mask) → masks ≡ map f (range_with_len 0 n) → i < n → mask ≡ get_or masks i mask → mask ≡ f i
mask_at f n masks i mask h l e = e ∙ (rw h (get_or-map-range_with_len f 0 n i i mask l (omega arith)))

pub admitted_at : (s : Setup) (marks : Marks) (us : List JudgedSubmission) (i : ℕ) (u : JudgedSubmission) → All (IsAdmitted s marks) us → i < length us → u ≡ get_or us i u → IsAdmitted s marks u
admitted_at s marks us i u h l e = let P : JudgedSubmission → Type 0 = IsAdmitted s marks in subst P (sym e) (h i u l)

pub many_masks : (f : ℕ → Mask) (n : ℕ) (masks : List Mask) → masks ≡ map f (range_with_len 0 n) → length masks ≡ n
many_masks f n masks h = ap length h ∙ length-map-range_with_len f 0 n

none_pass : (test : JudgedSubmission → Bool) (us : List JudgedSubmission) → ((i : ℕ) (d : JudgedSubmission) → i < length us → test (get_or us i d) ≡ false) → filter test us ≡ []
none_pass test [] h = refl
none_pass test (u ∷ us) h = rw (h 0 u (omega arith)) (none_pass test us (λ i d l. h (suc i) d (omega (arith, l))))

-- off the table there are no attempts
no_cell : (who : Audience) (s : Setup) (marks : Marks) (now : ℕ) (us : List JudgedSubmission) (team problem : ℕ) → ((i : ℕ) (d : JudgedSubmission) → i < length us → (team ≢ (get_or us i d).team) ⊎ (problem ≢ (get_or us i d).problem)) → cell_for who s marks now us team problem ≡ no_attempts
no_cell who s marks now us team problem off =
    rw (none_pass (is_by team problem) us (λ i d l. by_other (get_or us i d) team problem (off i d l))) refl

apart_from : (m n bound : ℕ) → n < bound → bound ≤ m → m ≢ n
apart_from m n bound l h e = omega (arith, l, h, e)

off_row : (f : ℕ → ℕ → Cell) (teams problems team problem : ℕ) → team < teams → problems ≤ problem → cell_in (cells_table f teams problems) team problem ≡ no_attempts
off_row f teams problems team problem l h = rw (at_places (λ u. map (f u) (range_with_len 0 problems)) teams team l, past_places (f team) problems problem h) refl

off_table : (f : ℕ → ℕ → Cell) (teams problems team problem : ℕ) → teams ≤ team → cell_in (cells_table f teams problems) team problem ≡ no_attempts
off_table f teams problems team problem h = rw (past_places (λ u. map (f u) (range_with_len 0 problems)) teams team h) refl

cell_anywhere : (who : Audience) (s : Setup) (marks : Marks) (now : ℕ) (us : List JudgedSubmission) → All (IsAdmitted s marks) us → (team problem : ℕ) → cell_in (table_of who s marks now us) team problem ≡ cell_for who s marks now us team problem
cell_anywhere who s marks now us all team problem =
    let f : ℕ → ℕ → Cell = cell_for who s marks now us in
    elim (cases_lt team (length s.teams)) [
      | inl l ↦ elim (cases_lt problem (length s.problems)) [
        | inl m ↦ cell_in_table f (length s.teams) (length s.problems) team problem l m
        | inr h ↦ off_row f (length s.teams) (length s.problems) team problem l h ∙ sym (no_cell who s marks now us team problem (λ i d n. inr (apart_from problem _ (length s.problems) (all i d n).problem h)))
      ]
      | inr h ↦ off_table f (length s.teams) (length s.problems) team problem h ∙ sym (no_cell who s marks now us team problem (λ i d n. inl (apart_from team _ (length s.teams) (all i d n).team h)))
    ]

-- the whole table holds each cell
pub table_cells : (who : Audience) (s : Setup) (marks : Marks) (now : ℕ) (us : List JudgedSubmission) → All (IsAdmitted s marks) us → cell_in (table_of who s marks now us) ≡ cell_for who s marks now us
table_cells who s marks now us all = fun_ext (λ team. fun_ext (λ problem. cell_anywhere who s marks now us all team problem))
