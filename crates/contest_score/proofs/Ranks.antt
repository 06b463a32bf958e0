-- Ranks along standings that are in order.
use Rattle.std.proofs.Common.{◌≡◌, ℕ, suc, ◌+◌, ◌-◌, ◌<◌, Bool, true, false, cond, if◌then◌else◌, List, [], ◌∷◌, ◌++◌, length, get_or, Some, refl, sym, ap, ◌∙◌, arith, Ordering, map, append_assoc, slice_get}
use Rattle.std.specs.List.{count_by}
use Rattle.std.specs.List.Sorted.{IsSorted}
use Rattle.std.specs.Cmp.{IsTotalOrder}
use Rattle.std.specs.Ordering.{is_lt, is_eq, ordering_reverse}
use Rattle.std.specs.declared.cmp.Ordering.TheVariants.{Less, Equal, Greater}
use Rattle.std.proofs.lemmas.List.{map-append, length-map, length-append, append-nil, get_or_default, get_or_append_left}
use Rattle.std.proofs.lemmas.Option.{slice_get-map, slice_get-get_or}
use Rattle.std.proofs.Math.Seq.{get_or-append_seam}
use Rattle.std.specs.Option.{option_map}
use Rattle.std.proofs.lemmas.List.Sums.{sum_by-cons}
use Rattle.std.proofs.lemmas.Bool.{false≢true}
use Rattle.std.proofs.lemmas.List.Sorted.{sorted_far, ranks_by}
use Rattle.std.proofs.lemmas.Cmp.{nat_cmp_total, then_total, on_total, back_total}
use Rattle.contest_score.specs.declared.score.Score.{Score}
use Rattle.contest_score.specs.declared.standing.Standing.{Standing}
use Rattle.contest_score.specs.Keys.{by_score, rank_in, row_in, row_with, next_rank, ranked}
use Rattle.contest_score.specs.Ranking.{place_in, score_cmp, last_minute}
use Rattle.contest_types.proofs.InOrder.{count_front}
use Rattle.contest_types.proofs.Rising.{place_tied}
use Rattle.contest_types.proofs.InOrderLemmas.{is_equal}

pub score_cmp_total : IsTotalOrder score_cmp
score_cmp_total = then_total (back_total (on_total (λ (a : Score). a.solved) nat_cmp_total)) (then_total (on_total (λ (a : Score). a.total) nat_cmp_total) (on_total last_minute nat_cmp_total))

pub by_score_total : IsTotalOrder by_score
by_score_total = on_total (λ (k : Standing). k.score) score_cmp_total

-- tests that agree at each element count alike
pub count_agree : {X : Type 0} (p q : X → Bool) (xs : List X) → ((i : ℕ) (d : X) → i < length xs → p (get_or xs i d) ≡ q (get_or xs i d)) → count_by p xs ≡ count_by q xs
count_agree p q [] h = refl
count_agree p q (x ∷ xs) h =
    let rest : count_by p xs ≡ count_by q xs = count_agree p q xs (λ i d l. h (suc i) d (omega arith)) in
    sum_by-cons (λ y. cond (p y) 1 0) x xs ∙ ((rw (h 0 x (omega arith), rest) refl) ∙ sym (sum_by-cons (λ y. cond (q y) 1 0) x xs))

-- of two that don't tie, where the second is not less, the first is
less_of : {X : Type 0} {R : X → X → Ordering} (o : IsTotalOrder R) (a b : X) → is_lt (R b a) ≡ false → is_eq (R a b) ≡ false → (v : Ordering) → R a b ≡ v → is_lt (R a b) ≡ true
less_of o a b up apart Less e = rw e refl
less_of o a b up apart Equal e = absurd (false≢true (sym apart ∙ ap is_eq e))
less_of o a b up apart Greater e = absurd (false≢true (sym up ∙ ap is_lt (o.antisymm b a ∙ ap ordering_reverse e)))

before_too : {X : Type 0} {R : X → X → Ordering} (o : IsTotalOrder R) (x y z : X) → is_lt (R y x) ≡ false → is_lt (R y z) ≡ true → (b : Bool) → is_lt (R x z) ≡ b → is_lt (R x z) ≡ true
before_too o x y z up less true e = e
before_too o x y z up less false e = absurd (false≢true (sym ((ranks_by o (λ v. v)).chain y x z up e) ∙ less))

-- where the one before doesn't tie, all before come before
pub place_fresh : {X : Type 0} {R : X → X → Ordering} (o : IsTotalOrder R) (ys : List X) → IsSorted R ys → (i : ℕ) (d : X) → 0 < i → i < length ys → is_eq (R (get_or ys (i - 1) d) (get_or ys i d)) ≡ false → place_in R ys (get_or ys i d) ≡ i
place_fresh {X} {R} o ys up i d p l apart =
    let order = ranks_by o (λ (v : X). v) in
    let less : is_lt (R (get_or ys (i - 1) d) (get_or ys i d)) ≡ true = less_of o (get_or ys (i - 1) d) (get_or ys i d) (sorted_far (λ x y. is_lt (R x y)) order ys up (i - 1) i d (omega arith) l) apart _ refl in
    count_front (λ y. is_lt (R y (get_or ys i d))) ys i (omega arith)
    (λ j e h. let same : get_or ys j e ≡ get_or ys j d = get_or_default ys j e d (omega arith) in
    rw same (before_too o (get_or ys j d) (get_or ys (i - 1) d) (get_or ys i d) (sorted_far (λ x y. is_lt (R x y)) order ys up j (i - 1) d (omega arith) (omega arith)) less _ refl))
    (λ j e h m. let same : get_or ys j e ≡ get_or ys j d = get_or_default ys j e d m in
    rw same (sorted_far (λ x y. is_lt (R x y)) order ys up i j d h m))

pub place_first : {X : Type 0} {R : X → X → Ordering} (o : IsTotalOrder R) (ys : List X) → IsSorted R ys → (d : X) → 0 < length ys → place_in R ys (get_or ys 0 d) ≡ 0
place_first {X} {R} o ys up d l =
    count_front (λ y. is_lt (R y (get_or ys 0 d))) ys 0 (omega arith)
    (λ j e h. absurd (omega (arith, h)))
    (λ j e h m. let same : get_or ys j e ≡ get_or ys j d = get_or_default ys j e d m in
    rw same (sorted_far (λ x y. is_lt (R x y)) (ranks_by o (λ (v : X). v)) ys up 0 j d h m))

-- of two neighbours that tie the ranks are one; else the second counts all before it
rank_by : (ys : List Standing) → IsSorted by_score ys → (n : ℕ) (p k : Standing) → n + 1 < length ys → get_or ys n k ≡ p → get_or ys (n + 1) k ≡ k → (b : Bool) → is_eq (by_score p k) ≡ b → (if b then rank_in ys p else n + 1 + 1) ≡ rank_in ys k
rank_by ys up n p k l before here true e = ap (λ m. 1 + m) (place_tied by_score_total ys p k (is_equal _ e))
rank_by ys up n p k l before here false e =
    let apart : is_eq (by_score (get_or ys (n + 1 - 1) k) (get_or ys (n + 1) k)) ≡ false = (let back : n + 1 - 1 ≡ n = omega arith in rw (here, back, before) e) in
    let place : place_in by_score ys (get_or ys (n + 1) k) ≡ n + 1 = place_fresh by_score_total ys up (n + 1) k (omega arith) l apart in
    omega (arith, rw here at place)

-- below the rows of those before it, the rank of a standing is its rank among all
rank_below_rows : (front back : List Standing) (k : Standing) → IsSorted by_score (front ++ k ∷ back) → next_rank (map (row_in (front ++ k ∷ back)) front) k.score ≡ rank_in (front ++ k ∷ back) k
rank_below_rows [] back k up = ap (λ n. 1 + n) (sym (place_first by_score_total (k ∷ back) up k (omega arith)))
rank_below_rows (y ∷ more) back k up =
    let front : List Standing = y ∷ more in
    let ys : List Standing = front ++ k ∷ back in
    let n : ℕ = length more in
    let p : Standing = get_or front n k in
    let within : n < length front = omega arith in
    let many : length (map (row_in ys) front) ≡ n + 1 = length-map front (row_in ys) ∙ (omega arith) in
    let above : slice_get (map (row_in ys) front) n ≡ Some (row_in ys p) = slice_get-map (row_in ys) front n ∙ ap (option_map (row_in ys)) (slice_get-get_or front n k within) in
    let before : get_or ys n k ≡ p = get_or_append_left front (k ∷ back) k n within in
    let here : get_or ys (n + 1) k ≡ k = (let next : n + 1 ≡ length front = omega arith in rw next (get_or-append_seam front k back k)) in
    let last : n + 1 - 1 ≡ n = omega arith in
    rw (many, last, above) (rank_by ys up n p k (omega (arith, length-append front (k ∷ back))) before here _ refl)

-- the rows of sorted standings have their ranks among all
pub ranked_rows : (ys : List Standing) → IsSorted by_score ys → (front back : List Standing) → front ++ back ≡ ys → ranked (map (row_in ys) front) back ≡ map (row_in ys) ys
ranked_rows ys up front [] e = ap (map (row_in ys)) (sym (append-nil front) ∙ e)
ranked_rows ys up front (k ∷ back) e =
    let rank : next_rank (map (row_in ys) front) k.score ≡ rank_in ys k = rw e at (rank_below_rows front back k (rw e up)) in
    let next : map (row_in ys) front ++ row_with k (next_rank (map (row_in ys) front) k.score) ∷ [] ≡ map (row_in ys) (front ++ k ∷ []) = rw (rank, map-append) refl in
    ap (λ rows. ranked rows back) next ∙ ranked_rows ys up (front ++ k ∷ []) back (append_assoc front (k ∷ []) back ∙ e)
