-- Where a team's submissions stand: as rows are added, and which rows these are.
use Rattle.std.proofs.Common.{◌≡◌, ℕ, suc, ◌+◌, ◌<◌, ◌≤◌, Bool, true, false, List, [], ◌∷◌, ◌++◌, length, map, take, get_or, Option, Some, None, refl, sym, ap, subst, ◌∙◌, arith, add-zero}
use Rattle.std.specs.Prelude.{◌==◌, All, slice_get, slice_index, if◌then◌else◌}
use Rattle.std.specs.List.{filter, enumerate_from}
use Rattle.std.specs.Option.{option_map}
use Rattle.std.proofs.lemmas.List.{map-append, take_all, take_more, length-map, length-take}
use Rattle.std.proofs.lemmas.List.Elements.{All-filter, All-map, All-weaker, filter-append}
use Rattle.std.proofs.lemmas.List.FromFn.{length-enumerate_from, get_or-enumerate_from}
use Rattle.std.proofs.lemmas.Option.{slice_get-get_or, slice_get-map, slice_get_within}
use Rattle.std.proofs.lemmas.Simd.{map-map}
use Rattle.contest_types.specs.State.{submissions_of}
use Rattle.contest_types.specs.declared.submission.Submission.{Submission}
use Rattle.contest_lists.specs.Lists.{places_of}

enumerate_push : {X : Type 0} (n : ℕ) (xs : List X) (x : X) → enumerate_from n (xs ++ x ∷ []) ≡ enumerate_from n xs ++ (n + length xs, x) ∷ []
enumerate_push n [] x = ap (λ k. (k, x) ∷ []) (sym (add-zero n))
enumerate_push n (y ∷ ys) x =
    let e : (n + 1) + length ys ≡ n + length (y ∷ ys) = omega arith in
    ap (λ ps. (n, y) ∷ ps) (rw e at (enumerate_push (n + 1) ys x))

-- a row that is added stands behind the others
pub places_push : (team : ℕ) (rows : List Submission) (row : Submission) → places_of team (rows ++ row ∷ []) ≡ places_of team rows ++ (if row.team == team then length rows ∷ [] else [])
places_push team rows row =
    let test : ℕ × Submission → Bool = λ p. p.1.team == team in
    let place : ℕ × Submission → ℕ = λ p. p.0 in
    let one : (b : Bool) → map place (if b then (length rows, row) ∷ [] else []) ≡ (if b then length rows ∷ [] else []) = elim [ true ↦ refl | false ↦ refl ] in
    let long : 0 + length rows ≡ length rows = omega arith in
    ap (λ ps. map place (filter test ps)) (rw long at (enumerate_push 0 rows row))
    ∙ (ap (map place) (filter-append test (enumerate_from 0 rows) ((length rows, row) ∷ []))
    ∙ (map-append place (filter test (enumerate_from 0 rows)) (filter test ((length rows, row) ∷ []))
    ∙ ap (λ ps. places_of team rows ++ ps) (one (row.team == team))))

-- each row so far has its place, and so has the next
pub places_more : (team : ℕ) (rows : List Submission) (k : ℕ) (row : Submission) → k < length rows → row ≡ get_or rows k row
    → places_of team (take (k + 1) rows) ≡ places_of team (take k rows) ++ (if row.team == team then k ∷ [] else [])
places_more team rows k row l at =
    let long : length (take k rows) ≡ k = omega (arith, length-take k rows, l) in
    let next : take (k + 1) rows ≡ take k rows ++ row ∷ [] = take_more rows k row l ∙ ap (λ r. take k rows ++ r ∷ []) (sym at) in
    ap (places_of team) next ∙ (rw long at (places_push team (take k rows) row))

-- each row stands at its place
placed : (team : ℕ) (rows : List Submission) → All (λ p. slice_get rows p.0 ≡ Some p.1) (filter (λ (p : ℕ × Submission). p.1.team == team) (enumerate_from 0 rows))
placed team rows =
    let at : All (λ p. slice_get rows p.0 ≡ Some p.1) (enumerate_from 0 rows) = λ i d l.
    (let within : i < length rows = omega (arith, l, length-enumerate_from 0 rows) in
    let e : 0 + i ≡ i = omega arith in
    let here : get_or (enumerate_from 0 rows) i d ≡ (i, get_or rows i d.1) = rw e at (get_or-enumerate_from 0 rows i d within) in
    subst (λ p. slice_get rows p.0 ≡ Some p.1) (sym here) (slice_get-get_or rows i d.1 within)) in
    All-filter (λ p. p.1.team == team) (λ p. slice_get rows p.0 ≡ Some p.1) (enumerate_from 0 rows) at

pub places_within : (team : ℕ) (rows : List Submission) → All (λ place. place < length rows) (places_of team rows)
places_within team rows =
    let ps = filter (λ (p : ℕ × Submission). p.1.team == team) (enumerate_from 0 rows) in
    All-map (λ place. place < length rows) (λ (p : ℕ × Submission). p.0) ps
    (All-weaker (λ p. slice_get rows p.0 ≡ Some p.1) (λ p. p.0 < length rows) (λ p h. slice_get_within rows p.0 p.1 h) ps (placed team rows))

map_agree : {X Y : Type 0} (f g : X → Y) (xs : List X) → All (λ x. f x ≡ g x) xs → map f xs ≡ map g xs
map_agree f g [] h = refl
map_agree f g (x ∷ xs) h =
    let first : f x ≡ g x = h 0 x (omega arith) in
    let rest : map f xs ≡ map g xs = map_agree f g xs (λ i d l. h (suc i) d (omega (arith, l))) in
    rw (first, rest) refl

rows_of : (team n : ℕ) (rows : List Submission) → map (λ (p : ℕ × Submission). Some p.1) (filter (λ (p : ℕ × Submission). p.1.team == team) (enumerate_from n rows)) ≡ map (λ (s : Submission). Some s) (submissions_of team rows)
rows_of team n [] = refl
rows_of team n (row ∷ rows) =
    let ps = filter (λ (p : ℕ × Submission). p.1.team == team) (enumerate_from (n + 1) rows) in
    let ss = submissions_of team rows in
    let go : (b : Bool) → map (λ (p : ℕ × Submission). Some p.1) (if b then (n, row) ∷ ps else ps) ≡ map (λ (s : Submission). Some s) (if b then row ∷ ss else ss) = elim [
      | true ↦ ap (λ os. Some row ∷ os) (rows_of team (n + 1) rows)
      | false ↦ rows_of team (n + 1) rows
    ] in
    go (row.team == team)

-- so that what stands at the places are the team's submissions
pub rows_at_places : (team : ℕ) (rows : List Submission) → map (slice_get rows) (places_of team rows) ≡ map (λ (s : Submission). Some s) (submissions_of team rows)
rows_at_places team rows =
    let ps = filter (λ (p : ℕ × Submission). p.1.team == team) (enumerate_from 0 rows) in
    map-map (slice_get rows) (λ (p : ℕ × Submission). p.0) ps
    ∙ (map_agree (λ (p : ℕ × Submission). slice_get rows p.0) (λ (p : ℕ × Submission). Some p.1) ps (placed team rows) ∙ rows_of team 0 rows)

-- the next of the team's places has the next of its submissions
pub own_row : (team : ℕ) (rows : List Submission) (k : ℕ) → option_map (slice_get rows) (slice_get (places_of team rows) k) ≡ option_map (λ (s : Submission). Some s) (slice_get (submissions_of team rows) k)
own_row team rows k =
    sym (slice_get-map (slice_get rows) (places_of team rows) k) ∙ (ap (λ os. slice_get os k) (rows_at_places team rows) ∙ slice_get-map (λ (s : Submission). Some s) (submissions_of team rows) k)

pub own_at : (team : ℕ) (rows : List Submission) (k place : ℕ) → slice_get (places_of team rows) k ≡ Some place → slice_get rows place ≡ slice_get (submissions_of team rows) k
own_at team rows k place at =
    let go : (o : Option Submission) → option_map (slice_get rows) (Some place) ≡ option_map (λ (s : Submission). Some s) o → slice_get rows place ≡ o = elim [ None ↦ λ e. absurd (cc e) | Some s ↦ λ e. cc e ] in
    go (slice_get (submissions_of team rows) k) (ap (option_map (slice_get rows)) (sym at) ∙ own_row team rows k)

pub own_none : (team : ℕ) (rows : List Submission) (k : ℕ) → slice_get (places_of team rows) k ≡ None → slice_get (submissions_of team rows) k ≡ None
own_none team rows k at =
    let go : (o : Option Submission) → option_map (slice_get rows) None ≡ option_map (λ (s : Submission). Some s) o → o ≡ None = elim [ None ↦ λ e. refl | Some s ↦ λ e. absurd (cc e) ] in
    go (slice_get (submissions_of team rows) k) (ap (option_map (slice_get rows)) (sym at) ∙ own_row team rows k)

-- a team has as many places as submissions
pub as_many : (team : ℕ) (rows : List Submission) → length (places_of team rows) ≡ length (submissions_of team rows)
as_many team rows =
    sym (length-map (places_of team rows) (slice_get rows)) ∙ (ap length (rows_at_places team rows) ∙ length-map (submissions_of team rows) (λ (s : Submission). Some s))

-- the row at the next of a team's places is the next of its rows
pub next_own : (team : ℕ) (rows : List Submission) (places : List ℕ) (k : ℕ) (row : Submission) → places ≡ places_of team rows → All (λ place. place < length rows) places → k < length places
    → row ≡ get_or rows (slice_index places k) row → slice_get (submissions_of team rows) k ≡ Some row
next_own team rows places k row are within l is =
    let place = slice_index places k in
    let here : slice_get (places_of team rows) k ≡ Some place = ap (λ ps. slice_get ps k) (sym are) ∙ slice_get-get_or places k 0 l in
    sym (own_at team rows k place here) ∙ (slice_get-get_or rows place row (within k 0 l) ∙ ap Some (sym is))

-- and past the last place all are
pub taken_all : (team : ℕ) (rows : List Submission) (places : List ℕ) (k : ℕ) → places ≡ places_of team rows → length places ≤ k → take k (submissions_of team rows) ≡ submissions_of team rows
taken_all team rows places k are past = take_all k (submissions_of team rows) (omega (arith, past, ap length are, as_many team rows))
