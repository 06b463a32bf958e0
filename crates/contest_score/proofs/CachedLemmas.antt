-- The cells that are kept of a contest stay its cells from one change to the next.
use Rattle.std.proofs.Common.{◌≡◌, ◌<◌, ◌^◌, ℕ, Bool, true, false, List, [], ◌∷◌, ◌++◌, length, map, filter, Option, Some, None, refl, sym, ap, ap₂, ◌∙◌, inl, inr, arith, length-append}
use Rattle.std.specs.Prelude.{◌⊎◌, ◌≢◌, ◌==◌, ◌&&◌, ◌||◌, if◌then◌else◌, is_some}
use Rattle.std.specs.List.{list_any}
use Rattle.std.proofs.Math.Path.{fun_ext}
use Rattle.std.proofs.lemmas.Simd.{map-map}
use Rattle.std.proofs.lemmas.Bool.{cases_Bool, false≢true, eqb-true, eq-eqb, ne_eqb, and_parts}
use Rattle.std.proofs.lemmas.List.Folds.{list_any-append}
use Rattle.std.proofs.Math.Bool.{or-true}
use Rattle.contest_types.specs.Loads.{without_file}
use Rattle.contest_types.specs.State.{ContestState, add, names, of_release, submissions_of}
use Rattle.contest_types.specs.declared.entry.Entry.TheVariants.{NewSubmission, NewRelease}
use Rattle.contest_types.specs.declared.sight.Mask.{Mask}
use Rattle.contest_types.specs.declared.sight.Mask.TheVariants.{Full, Held}
use Rattle.contest_types.specs.declared.submission.Release.{Release}
use Rattle.contest_types.specs.declared.submission.Submission.{Submission}
use Rattle.contest_score.specs.declared.cached_cells.CachedCells.{CachedCells}
use Rattle.contest_score.specs.declared.cached_cells.MaskedCell.{MaskedCell}
use Rattle.contest_score.specs.declared.cell.Cell.{Cell}
use Rattle.contest_score.specs.CachedCells.{AreCellsOf, attempt_at, cached_at, cell_cached, cell_or_none, cell_to_keep, has_number, masked_cell}
use Rattle.contest_score.specs.Contest.{contest_cell, judged_submission}
use Rattle.contest_score.specs.MaskedCells.{cell_under, start_of}
use Rattle.contest_score.specs.Scoring.{cell_of_attempts}
use Rattle.contest_score.specs.ScoringLaws.{bears_on, is_at}
use Rattle.contest_score.specs.Table.{no_attempts}
use Rattle.contest_score.proofs.OneChange.{attempts_are, attempts_but_its, attempts_but_one}

-- where none passes, nothing is kept of the list
pub none_kept : {X : Type 0} (p : X → Bool) (xs : List X) → list_any p xs ≡ false → filter p xs ≡ []
none_kept p [] h = refl
none_kept {X} p (x ∷ xs) h =
    let go : (b : Bool) → (b || list_any p xs) ≡ false → (if b then x ∷ filter p xs else filter p xs) ≡ [] = elim [ true ↦ λ e. absurd (false≢true (sym e)) | false ↦ λ e. none_kept p xs e ] in
    go (p x) h

-- a team without a submission at a problem has the cell of no attempts
no_cell_there : (mask : Mask) (x : ContestState) (team problem : ℕ) → list_any (is_at team problem) x.submissions ≡ false → contest_cell mask x team problem ≡ no_attempts
no_cell_there mask x team problem h =
    ap (cell_of_attempts (start_of x.fixed.marks)) (attempts_are mask x team problem ∙ ap (map (attempt_at mask x)) (none_kept (is_at team problem) x.submissions h))

kept_by : (mask : Mask) (x : ContestState) (team problem : ℕ) (b : Bool) → list_any (is_at team problem) x.submissions ≡ b → cell_or_none mask (if b then Some (masked_cell x team problem) else None) ≡ contest_cell mask x team problem
kept_by Full x team problem true h = refl
kept_by Held x team problem true h = refl
kept_by mask x team problem false h = sym (no_cell_there mask x team problem h)

-- the cells are read back
pub cell_read : (x : ContestState) (c : CachedCells) (mask : Mask) (team problem : ℕ) → AreCellsOf x c → length x.submissions < 2 ^ 32 → cell_cached c mask team problem ≡ contest_cell mask x team problem
cell_read x c mask team problem are few = ap (cell_or_none mask) (are few team problem) ∙ kept_by mask x team problem (list_any (is_at team problem) x.submissions) refl

-- scoring reads the settings, the marks, the submissions and the releases, and nothing else
pub record ScoredAlike (x y : ContestState) : Type 0 where
  pub settings : y.fixed.settings ≡ x.fixed.settings
  pub marks : y.fixed.marks ≡ x.fixed.marks
  pub submissions : y.submissions ≡ x.submissions
  pub releases : y.releases ≡ x.releases

same_cells : (x y : ContestState) (mask : Mask) (team problem : ℕ) → ScoredAlike x y → contest_cell mask y team problem ≡ contest_cell mask x team problem
same_cells x y mask team problem h = rw (h.settings, h.marks, h.submissions, h.releases) refl

same_kept : (x y : ContestState) (team problem : ℕ) → ScoredAlike x y → cell_to_keep y team problem ≡ cell_to_keep x team problem
same_kept x y team problem h = rw (h.settings, h.marks, h.submissions, h.releases) refl

-- so they stay where none of these changes
pub cells_stay : (x y : ContestState) (c : CachedCells) → ScoredAlike x y → AreCellsOf x c → AreCellsOf y c
cells_stay x y c h are = λ few team problem. are (rw h.submissions at few) team problem ∙ sym (same_kept x y team problem h)

-- where a submission stands elsewhere, it is of another team or at another problem
off_it : (s : Submission) (team problem : ℕ) → is_at team problem s ≡ false → (team ≢ s.team) ⊎ (problem ≢ s.problem)
off_it s team problem h =
    let go : (b c : Bool) → (s.team == team) ≡ b → (s.problem == problem) ≡ c → (b && c) ≡ false → (team ≢ s.team) ⊎ (problem ≢ s.problem) = elim [
      | true ↦ elim [ true ↦ λ t p e. absurd (false≢true (sym e)) | false ↦ λ t p e. inr (λ k. false≢true (sym p ∙ eq-eqb s.problem problem (sym k))) ]
      | false ↦ λ c t p e. inl (λ k. false≢true (sym t ∙ eq-eqb s.team team (sym k)))
    ] in
    go (s.team == team) (s.problem == problem) refl refl h

or_not : (b : Bool) → (b || (false || false)) ≡ b
or_not true = refl
or_not false = refl

-- a masked cell is told by its two
same_masked : (x y : ContestState) (team problem : ℕ) → ((mask : Mask) → contest_cell mask y team problem ≡ contest_cell mask x team problem) → masked_cell y team problem ≡ masked_cell x team problem
same_masked x y team problem h =
    let cells : Cell → Cell → MaskedCell = λ held full. record { held = held; full = full } in
    let same : cells (contest_cell Held y team problem) (contest_cell Full y team problem) ≡ cells (contest_cell Held x team problem) (contest_cell Full x team problem) = cc (h Held, h Full) in
    same

-- the contest after a submission has one more cell, or one that changed
pub after_submission : (x y : ContestState) (s : Submission) (c d : CachedCells) → ScoredAlike (add x (NewSubmission s)) y
    → ((t p : ℕ) → cached_at d t p ≡ (if (s.team == t) && (s.problem == p) then Some (masked_cell y s.team s.problem) else cached_at c t p)) → AreCellsOf x c → AreCellsOf y d
after_submission x y s c d alike puts are = λ few team problem.
    (let z = add x (NewSubmission s) in
    let fewer : length x.submissions < 2 ^ 32 = omega (arith, rw alike.submissions at few, length-append x.submissions (s ∷ [])) in
    let any : list_any (is_at team problem) z.submissions ≡ (list_any (is_at team problem) x.submissions || (is_at team problem s || false)) = list_any-append (is_at team problem) x.submissions (s ∷ []) in
    let go : (b : Bool) → is_at team problem s ≡ b → (if b then Some (masked_cell y s.team s.problem) else cached_at c team problem) ≡ cell_to_keep y team problem = elim [
      | true ↦ λ h.
          (let parts = and_parts (s.team == team) (s.problem == problem) h in
          let t : s.team ≡ team = eqb-true s.team team parts.0 in
          let p : s.problem ≡ problem = eqb-true s.problem problem parts.1 in
          let here : list_any (is_at team problem) y.submissions ≡ true = ap (list_any (is_at team problem)) alike.submissions ∙ any ∙ (rw h (or-true (list_any (is_at team problem) x.submissions))) in
          rw (here, t, p) refl)
      | false ↦ λ h.
          (let same : masked_cell z team problem ≡ masked_cell x team problem = same_masked x z team problem (λ mask. ap (cell_of_attempts (start_of x.fixed.marks)) (attempts_but_one mask x s team problem (off_it s team problem h))) in
          let still : list_any (is_at team problem) z.submissions ≡ list_any (is_at team problem) x.submissions = any ∙ (rw h (or_not (list_any (is_at team problem) x.submissions))) in
          let kept : cell_to_keep z team problem ≡ cell_to_keep x team problem = ap₂ (λ (b : Bool) (m : MaskedCell). if b then Some m else None) still same in
          are fewer team problem ∙ sym (same_kept z y team problem alike ∙ kept))
    ] in
    puts team problem ∙ go (is_at team problem s) refl)

pub eq_turned : (m n : ℕ) → (m == n) ≡ (n == m)
eq_turned m n = elim (cases_Bool (m == n)) [
  | inl e ↦ e ∙ sym (eq-eqb n m (sym (eqb-true m n e)))
  | inr e ↦ e ∙ sym (ne_eqb n m (λ k. false≢true (sym e ∙ eq-eqb m n (sym k))))
]

any_if : {X : Type 0} (q : X → Bool) (b : Bool) (x : X) (xs : List X) → list_any q (if b then x ∷ xs else xs) ≡ (if b then (q x || list_any q xs) else list_any q xs)
any_if q true x xs = refl
any_if q false x xs = refl

by_team : (b c d more : Bool) → (((b && c) && d) || more) ≡ (if b then ((c && d) || more) else more)
by_team true c d more = refl
by_team false c d more = refl

-- those are the cells that a release on them bears on
bears_on_them : (v : Release) (t p : ℕ) (ss : List Submission)
    → list_any (λ (s : Submission). names s.team s.number (of_release v) && is_at t p s) ss ≡ list_any (λ (s : Submission). (s.number == v.number) && is_at t p s) (submissions_of v.team ss)
bears_on_them v t p [] = refl
bears_on_them v t p (s ∷ ss) =
    let q : Submission → Bool = λ u. (u.number == v.number) && is_at t p u in
    let named : names s.team s.number (of_release v) ≡ ((s.team == v.team) && (s.number == v.number)) = ap₂ (λ (a b : Bool). a && b) (eq_turned v.team s.team) (eq_turned v.number s.number) in
    ap₂ (λ (a b : Bool). (a && is_at t p s) || b) named (bears_on_them v t p ss)
    ∙ (by_team (s.team == v.team) (s.number == v.number) (is_at t p s) (list_any q (submissions_of v.team ss)) ∙ sym (any_if q (s.team == v.team) s (submissions_of v.team ss)))

any_of_both : {X : Type 0} (p q : X → Bool) (xs : List X) → list_any (λ x. p x && q x) xs ≡ true → list_any q xs ≡ true
any_of_both p q [] h = absurd (false≢true h)
any_of_both {X} p q (x ∷ xs) h =
    let go : (b c : Bool) → ((b && c) || list_any (λ y. p y && q y) xs) ≡ true → (c || list_any q xs) ≡ true = elim [
      | true ↦ elim [ true ↦ λ e. refl | false ↦ λ e. any_of_both p q xs e ]
      | false ↦ elim [ true ↦ λ e. refl | false ↦ λ e. any_of_both p q xs e ]
    ] in
    go (p x) (q x) h

-- the contest after a release has other cells where that is on their submissions
pub after_release : (x y : ContestState) (v : Release) (c d : CachedCells) → ScoredAlike (add x (NewRelease v)) y
    → ((t p : ℕ) → cached_at d t p ≡ (if has_number y v.team v.number t p then Some (masked_cell y t p) else cached_at c t p)) → AreCellsOf x c → AreCellsOf y d
after_release x y v c d alike puts are = λ few team problem.
    (let z = add x (NewRelease v) in
    let fewer : length x.submissions < 2 ^ 32 = rw alike.submissions at few in
    let on : has_number y v.team v.number team problem ≡ bears_on v x team problem =
    ap (λ (ss : List Submission). list_any (λ (s : Submission). (s.number == v.number) && is_at team problem s) (submissions_of v.team ss)) alike.submissions ∙ sym (bears_on_them v team problem x.submissions) in
    let go : (b : Bool) → bears_on v x team problem ≡ b → (if b then Some (masked_cell y team problem) else cached_at c team problem) ≡ cell_to_keep y team problem = elim [
      | true ↦ λ h.
          (let here : list_any (is_at team problem) y.submissions ≡ true = ap (list_any (is_at team problem)) alike.submissions ∙ any_of_both (λ (s : Submission). names s.team s.number (of_release v)) (is_at team problem) x.submissions h in
          rw here refl)
      | false ↦ λ h.
          (let same : masked_cell z team problem ≡ masked_cell x team problem = same_masked x z team problem (λ mask. ap (cell_of_attempts (start_of x.fixed.marks)) (attempts_but_its mask x v team problem h)) in
          let kept : cell_to_keep z team problem ≡ cell_to_keep x team problem = ap (λ (m : MaskedCell). if list_any (is_at team problem) x.submissions then Some m else None) same in
          are fewer team problem ∙ sym (same_kept z y team problem alike ∙ kept))
    ] in
    puts team problem ∙ (ap (λ (b : Bool). if b then Some (masked_cell y team problem) else cached_at c team problem) on ∙ go (bears_on v x team problem) refl))

-- a cell is kept where one of these submissions is at it
abbrev pub kept_so_far : ContestState → List Submission → (team problem : ℕ) → Option MaskedCell
kept_so_far x ss team problem = if list_any (is_at team problem) ss then Some (masked_cell x team problem) else None

-- one more, whose cell is put in
pub kept_more : (x : ContestState) (ss : List Submission) (s : Submission) (c d : CachedCells) → ((t p : ℕ) → cached_at c t p ≡ kept_so_far x ss t p)
    → ((t p : ℕ) → cached_at d t p ≡ (if (s.team == t) && (s.problem == p) then Some (masked_cell x s.team s.problem) else cached_at c t p))
    → (t p : ℕ) → cached_at d t p ≡ kept_so_far x (ss ++ s ∷ []) t p
kept_more x ss s c d are puts t p =
    let any : list_any (is_at t p) (ss ++ s ∷ []) ≡ (list_any (is_at t p) ss || (is_at t p s || false)) = list_any-append (is_at t p) ss (s ∷ []) in
    let go : (b : Bool) → is_at t p s ≡ b → (if b then Some (masked_cell x s.team s.problem) else cached_at c t p) ≡ kept_so_far x (ss ++ s ∷ []) t p = elim [
      | true ↦ λ h.
          (let parts = and_parts (s.team == t) (s.problem == p) h in
          let here : list_any (is_at t p) (ss ++ s ∷ []) ≡ true = any ∙ (rw h (or-true (list_any (is_at t p) ss))) in
          rw (here, eqb-true s.team t parts.0, eqb-true s.problem p parts.1) refl)
      | false ↦ λ h.
          (let still : list_any (is_at t p) (ss ++ s ∷ []) ≡ list_any (is_at t p) ss = any ∙ (rw h (or_not (list_any (is_at t p) ss))) in
          are t p ∙ sym (ap (λ (b : Bool). if b then Some (masked_cell x t p) else None) still))
    ] in
    puts t p ∙ go (is_at t p s) refl

some_where : (b : Bool) (m : MaskedCell) → is_some (if b then Some m else None) ≡ true → b ≡ true
some_where true m h = refl
some_where false m h = absurd (false≢true h)

-- one more, whose cell is there already
pub kept_still : (x : ContestState) (ss : List Submission) (s : Submission) (c : CachedCells) → ((t p : ℕ) → cached_at c t p ≡ kept_so_far x ss t p)
    → is_some (cached_at c s.team s.problem) ≡ true → (t p : ℕ) → cached_at c t p ≡ kept_so_far x (ss ++ s ∷ []) t p
kept_still x ss s c are there t p =
    let any : list_any (is_at t p) (ss ++ s ∷ []) ≡ (list_any (is_at t p) ss || (is_at t p s || false)) = list_any-append (is_at t p) ss (s ∷ []) in
    let own : list_any (is_at s.team s.problem) ss ≡ true = some_where (list_any (is_at s.team s.problem) ss) (masked_cell x s.team s.problem) (ap is_some (sym (are s.team s.problem)) ∙ there) in
    let go : (b : Bool) → is_at t p s ≡ b → list_any (is_at t p) (ss ++ s ∷ []) ≡ list_any (is_at t p) ss = elim [
      | true ↦ λ h.
          (let parts = and_parts (s.team == t) (s.problem == p) h in
          let here : list_any (is_at t p) ss ≡ true = (rw (eqb-true s.team t parts.0, eqb-true s.problem p parts.1) at own) in
          any ∙ (rw (h, here) refl))
      | false ↦ λ h. any ∙ (rw h (or_not (list_any (is_at t p) ss)))
    ] in
    are t p ∙ sym (ap (λ (b : Bool). if b then Some (masked_cell x t p) else None) (go (is_at t p s) refl))

-- of a team's submissions with a number, the cells that were counted again so far
abbrev pub numbered_so_far : ContestState → (number : ℕ) → List Submission → (ℕ → ℕ → Option MaskedCell) → (t p : ℕ) → Option MaskedCell
numbered_so_far x number ss old t p = if list_any (λ (s : Submission). (s.number == number) && is_at t p s) ss then Some (masked_cell x t p) else old t p

pub numbered_more : (x : ContestState) (number : ℕ) (ss : List Submission) (s : Submission) (c d : CachedCells) (old : ℕ → ℕ → Option MaskedCell)
    → ((t p : ℕ) → cached_at c t p ≡ numbered_so_far x number ss old t p) → (s.number == number) ≡ true
    → ((t p : ℕ) → cached_at d t p ≡ (if (s.team == t) && (s.problem == p) then Some (masked_cell x s.team s.problem) else cached_at c t p))
    → (t p : ℕ) → cached_at d t p ≡ numbered_so_far x number (ss ++ s ∷ []) old t p
numbered_more x number ss s c d old are has puts t p =
    let q : Submission → Bool = λ u. (u.number == number) && is_at t p u in
    let any : list_any q (ss ++ s ∷ []) ≡ (list_any q ss || (q s || false)) = list_any-append q ss (s ∷ []) in
    let go : (b : Bool) → is_at t p s ≡ b → (if b then Some (masked_cell x s.team s.problem) else cached_at c t p) ≡ numbered_so_far x number (ss ++ s ∷ []) old t p = elim [
      | true ↦ λ h.
          (let parts = and_parts (s.team == t) (s.problem == p) h in
          let here : list_any q (ss ++ s ∷ []) ≡ true = any ∙ (rw (has, h) (or-true (list_any q ss))) in
          rw (here, eqb-true s.team t parts.0, eqb-true s.problem p parts.1) refl)
      | false ↦ λ h.
          (let still : list_any q (ss ++ s ∷ []) ≡ list_any q ss = any ∙ (rw (has, h) (or_not (list_any q ss))) in
          are t p ∙ sym (ap (λ (b : Bool). if b then Some (masked_cell x t p) else old t p) still))
    ] in
    puts t p ∙ go (is_at t p s) refl

pub numbered_past : (x : ContestState) (number : ℕ) (ss : List Submission) (s : Submission) (c : CachedCells) (old : ℕ → ℕ → Option MaskedCell)
    → ((t p : ℕ) → cached_at c t p ≡ numbered_so_far x number ss old t p) → (s.number == number) ≡ false → (t p : ℕ) → cached_at c t p ≡ numbered_so_far x number (ss ++ s ∷ []) old t p
numbered_past x number ss s c old are not_it t p =
    let q : Submission → Bool = λ u. (u.number == number) && is_at t p u in
    let still : list_any q (ss ++ s ∷ []) ≡ list_any q ss = list_any-append q ss (s ∷ []) ∙ (rw not_it (or_not (list_any q ss))) in
    are t p ∙ sym (ap (λ (b : Bool). if b then Some (masked_cell x t p) else old t p) still)

-- all that the cells of a contest are, as one function
pub cells_read : (x : ContestState) (c : CachedCells) → AreCellsOf x c → length x.submissions < 2 ^ 32 → cell_cached c ≡ (λ mask. contest_cell mask x)
cells_read x c are few = fun_ext (λ mask. fun_ext (λ team. fun_ext (λ problem. cell_read x c mask team problem are few)))

-- files score nothing
pub files_score_nothing : (x : ContestState) (mask : Mask) → contest_cell mask (record x { submissions = map without_file x.submissions }) ≡ contest_cell mask x
files_score_nothing x mask =
    ap (cell_under mask x.fixed.settings x.fixed.marks) (map-map (judged_submission (record x { submissions = map without_file x.submissions })) without_file x.submissions)
