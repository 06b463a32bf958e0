-- A team's cell at a problem, from its own submissions alone, one after another.
use Rattle.std.proofs.Common.{◌≡◌, ◌<◌, ◌+◌, ◌^◌, ℕ, zero, suc, Bool, true, false, List, [], ◌∷◌, ◌++◌, length, map, filter, take, Some, refl, sym, ap, ◌∙◌, arith, append-nil}
use Rattle.std.specs.Prelude.{◌==◌, ◌&&◌, if◌then◌else◌, slice_get}
use Rattle.std.proofs.lemmas.List.{length-map, length-take, map-append}
use Rattle.std.proofs.lemmas.List.Elements.{filter-append}
use Rattle.std.proofs.lemmas.List.Sums.{count_by-le-length, length-filter}
use Rattle.contest_types.specs.State.{ContestState, submissions_of}
use Rattle.contest_types.specs.declared.sight.Mask.{Mask}
use Rattle.contest_types.specs.declared.submission.Submission.{Submission}
use Rattle.contest_score.specs.declared.cell.Cell.{Cell}
use Rattle.contest_score.specs.declared.attempt.Attempt.{Attempt}
use Rattle.contest_score.specs.CachedCells.{attempt_at}
use Rattle.contest_score.specs.Contest.{contest_cell}
use Rattle.contest_score.specs.Counting.{HasRoom, cell_with}
use Rattle.contest_score.specs.MaskedCells.{start_of}
use Rattle.contest_score.specs.Scoring.{cell_of_attempts}
use Rattle.contest_score.specs.ScoringLaws.{is_at}
use Rattle.contest_score.proofs.CellSteps.{cell_more, cell_room}
use Rattle.contest_score.proofs.OneChange.{attempts_are}

-- of some of a team's submissions, those at a problem as attempts, and the cell that they come to
abbrev own_attempts : Mask → ContestState → (problem : ℕ) → List Submission → List Attempt
own_attempts mask x problem ss = map (attempt_at mask x) (filter (λ (s : Submission). s.problem == problem) ss)

abbrev pub own_cell : Mask → ContestState → (problem : ℕ) → List Submission → Cell
own_cell mask x problem ss = cell_of_attempts (start_of x.fixed.marks) (own_attempts mask x problem ss)

filter_if : {X : Type 0} (q : X → Bool) (b : Bool) (x : X) (xs : List X) → filter q (if b then x ∷ xs else xs) ≡ (if b then (if q x then x ∷ filter q xs else filter q xs) else filter q xs)
filter_if q true x xs = refl
filter_if q false x xs = refl

if_both : {X : Type 0} (b c : Bool) (xs ys : X) → (if b && c then xs else ys) ≡ (if b then (if c then xs else ys) else ys)
if_both true c xs ys = refl
if_both false c xs ys = refl

-- first the team's, and of these the problem's
of_team_first : (team problem : ℕ) (ss : List Submission) → filter (is_at team problem) ss ≡ filter (λ (s : Submission). s.problem == problem) (submissions_of team ss)
of_team_first team problem [] = refl
of_team_first team problem (s ∷ ss) =
    let q : Submission → Bool = λ u. u.problem == problem in
    let rest = filter q (submissions_of team ss) in
    ap (λ (us : List Submission). if is_at team problem s then s ∷ us else us) (of_team_first team problem ss)
    ∙ (if_both (s.team == team) (s.problem == problem) (s ∷ rest) rest ∙ sym (filter_if q (s.team == team) s (submissions_of team ss)))

-- all of them come to the contest's cell
pub own_cell_whole : (mask : Mask) (x : ContestState) (team problem : ℕ) → own_cell mask x problem (submissions_of team x.submissions) ≡ contest_cell mask x team problem
own_cell_whole mask x team problem =
    ap (cell_of_attempts (start_of x.fixed.marks)) (ap (map (attempt_at mask x)) (sym (of_team_first team problem x.submissions)) ∙ sym (attempts_are mask x team problem))

take_next : {X : Type 0} (xs : List X) (k : ℕ) (x : X) → slice_get xs k ≡ Some x → take (suc k) xs ≡ take k xs ++ x ∷ []
take_next [] k x at = absurd (cc at)
take_next (y ∷ ys) zero x at = let e : y ≡ x = cc at in rw e refl
take_next (y ∷ ys) (suc k) x at = ap (λ zs. y ∷ zs) (take_next ys k x at)

-- the elements so far and the next
pub taken_next : {X : Type 0} (xs : List X) (k : ℕ) (x : X) → slice_get xs k ≡ Some x → take (k + 1) xs ≡ take k xs ++ x ∷ []
taken_next xs k x at =
    let next : suc k ≡ k + 1 = omega arith in
    rw next at (take_next xs k x at)

own_grown : (mask : Mask) (x : ContestState) (problem : ℕ) (ss : List Submission) (s : Submission)
    → (if s.problem == problem then cell_with (start_of x.fixed.marks) (own_cell mask x problem ss) (attempt_at mask x s) else own_cell mask x problem ss) ≡ own_cell mask x problem (ss ++ s ∷ [])
own_grown mask x problem ss s =
    let q : Submission → Bool = λ u. u.problem == problem in
    let start = start_of x.fixed.marks in
    let attempts = own_attempts mask x problem ss in
    let go : (b : Bool) → q s ≡ b → (if b then cell_with start (own_cell mask x problem ss) (attempt_at mask x s) else own_cell mask x problem ss) ≡ own_cell mask x problem (ss ++ s ∷ []) = elim [
      | true ↦ λ h.
          (let kept : filter q (ss ++ s ∷ []) ≡ filter q ss ++ s ∷ [] = filter-append q ss (s ∷ []) ∙ (rw h refl) in
          let more : own_attempts mask x problem (ss ++ s ∷ []) ≡ attempts ++ attempt_at mask x s ∷ [] = ap (map (attempt_at mask x)) kept ∙ map-append (attempt_at mask x) (filter q ss) (s ∷ []) in
          sym (ap (cell_of_attempts start) more ∙ cell_more start attempts (attempt_at mask x s)))
      | false ↦ λ h.
          (let kept : filter q (ss ++ s ∷ []) ≡ filter q ss = filter-append q ss (s ∷ []) ∙ (rw h (append-nil (filter q ss))) in
          sym (ap (λ (us : List Submission). cell_of_attempts start (map (attempt_at mask x) us)) kept))
    ] in
    go (q s) refl

-- one more of them
pub own_cell_next : (mask : Mask) (x : ContestState) (problem : ℕ) (own : List Submission) (k : ℕ) (s : Submission) → slice_get own k ≡ Some s
    → (if s.problem == problem then cell_with (start_of x.fixed.marks) (own_cell mask x problem (take k own)) (attempt_at mask x s) else own_cell mask x problem (take k own)) ≡ own_cell mask x problem (take (k + 1) own)
own_cell_next mask x problem own k s at = own_grown mask x problem (take k own) s ∙ ap (own_cell mask x problem) (sym (taken_next own k s at))

-- a cell has room for one more of a team's submissions, which are few
pub own_cell_room : (mask : Mask) (x : ContestState) (team problem k : ℕ) → length x.submissions < 2 ^ 32 → k < length (submissions_of team x.submissions) → HasRoom (own_cell mask x problem (take k (submissions_of team x.submissions)))
own_cell_room mask x team problem k few l =
    let own = submissions_of team x.submissions in
    let q : Submission → Bool = λ u. u.problem == problem in
    let those = filter q (take k own) in
    let fits : length (own_attempts mask x problem (take k own)) + 1 < 2 ^ 32 =
    omega (arith, few, l, length-map those (attempt_at mask x), length-filter q (take k own), count_by-le-length q (take k own), length-take k own, length-filter (λ (s : Submission). s.team == team) x.submissions, count_by-le-length (λ (s : Submission). s.team == team) x.submissions) in
    cell_room (start_of x.fixed.marks) (own_attempts mask x problem (take k own)) fits
