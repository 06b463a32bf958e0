-- Lists of numbers with no number twice and the same elements count alike.
use Rattle.std.proofs.Common.{◌≡◌, ℕ, zero, suc, ◌+◌, ◌<◌, ◌≤◌, Bool, true, false, cond, not, List, [], ◌∷◌, length, map, filter, refl, sym, ap, ◌∙◌, inl, inr, arith}
use Rattle.std.specs.Prelude.{◌==◌, count_by, if◌then◌else◌}
use Rattle.std.specs.List.{range_with_len}
use Rattle.std.proofs.lemmas.Bool.{false≢true, eqb-true, eq-eqb, ne_eqb, cases_Bool}
use Rattle.contest_types.specs.Order.{Has, IsBefore, IsInOrder}
use Rattle.contest_types.proofs.InOrderLemmas.{count_more, has_filter, filter_has}
use Rattle.contest_types.proofs.Rising.{before_all}
use Rattle.contest_types.proofs.OrderLemmas.{before_each}

-- the second is another number
abbrev pub other : ℕ → ℕ → Bool
other x y = not (y == x)

-- a weaker test leaves them in order
pub weaker_order : {X : Type 0} (before after : X → X → Bool) → ((x y : X) → before x y ≡ true → after x y ≡ true) → (xs : List X) → IsInOrder before xs → IsInOrder after xs
weaker_order before after h [] i = tt
weaker_order before after h (x ∷ xs) i = (before_all after x xs (λ y k. h x y (before_each before x xs y i.0 k)), weaker_order before after h xs i.1)

mapped_before : {X Y : Type 0} (before : Y → Y → Bool) (f : X → Y) (x : X) (ys : List X) → IsBefore (λ y z. before (f y) (f z)) x ys → IsBefore before (f x) (map f ys)
mapped_before before f x [] i = tt
mapped_before before f x (y ∷ ys) i = (i.0, mapped_before before f x ys i.1)

pub mapped_order : {X Y : Type 0} (before : Y → Y → Bool) (f : X → Y) (xs : List X) → IsInOrder (λ x y. before (f x) (f y)) xs → IsInOrder before (map f xs)
mapped_order before f [] i = tt
mapped_order {X} {Y} before f (x ∷ xs) i =
    (mapped_before before f x xs i.0, mapped_order before f xs i.1)

filtered_order : {X : Type 0} (before : X → X → Bool) (p : X → Bool) (xs : List X) → IsInOrder before xs → IsInOrder before (filter p xs)
filtered_order before p [] i = tt
filtered_order {X} before p (x ∷ xs) i =
    let rest = filtered_order before p xs i.1 in
    let go : (b : Bool) → IsInOrder before (if b then x ∷ filter p xs else filter p xs) =
    elim [ true ↦ (before_all before x (filter p xs) (λ y k. before_each before x xs y i.0 (filter_has p xs y k).0), rest) | false ↦ rest ] in
    go (p x)

not_other : (x y : ℕ) → other x y ≡ true → y ≡ x → ⊥
not_other x y h e = (let same : (y == x) ≡ true = eq-eqb y x e in false≢true (ap not (sym same) ∙ h))

is_other : (x y : ℕ) → (y ≡ x → ⊥) → other x y ≡ true
is_other x y h = (let off : (y == x) ≡ false = ne_eqb y x h in rw off refl)

-- taking away what isn't there
none_taken : (x : ℕ) (ys : List ℕ) → IsBefore other x ys → filter (other x) ys ≡ ys
none_taken x [] h = refl
none_taken x (y ∷ ys) h = rw (h.0, none_taken x ys h.1) refl

-- taking one away
one_taken : (p : ℕ → Bool) (x : ℕ) (ys : List ℕ) → IsInOrder other ys → Has ys x → count_by p ys ≡ cond (p x) 1 0 + count_by p (filter (other x) ys)
one_taken p x [] i h = absurd h
one_taken p x (y ∷ ys) i h =
    let here : y ≡ x → count_by p (y ∷ ys) ≡ cond (p x) 1 0 + count_by p (filter (other x) (y ∷ ys)) = λ e.
    (let gone : other x y ≡ false = (let same : (y == x) ≡ true = eq-eqb y x e in rw same refl) in
    let rest : filter (other x) ys ≡ ys = ap (λ z. filter (other z) ys) (sym e) ∙ none_taken y ys i.0 in
    rw (gone, rest) (count_more p y ys ∙ ap (λ z. cond (p z) 1 0 + count_by p ys) e)) in
    let there : (y ≡ x → ⊥) → count_by p (y ∷ ys) ≡ cond (p x) 1 0 + count_by p (filter (other x) (y ∷ ys)) = λ off.
    (let kept : other x y ≡ true = is_other x y off in
    let left : Has ys x = elim h [ inl e ↦ absurd (off (sym e)) | inr t ↦ t ] in
    let rest = one_taken p x ys i.1 left in
    rw (kept, count_more p y ys, count_more p y (filter (other x) ys)) (omega (arith, rest))) in
    elim (cases_Bool (y == x)) [ inl e ↦ here (eqb-true y x e) | inr e ↦ there (λ same. false≢true (sym e ∙ eq-eqb y x same)) ]

pub same_count : (p : ℕ → Bool) (xs ys : List ℕ) → IsInOrder other xs → IsInOrder other ys → ((z : ℕ) → Has xs z → Has ys z) → ((z : ℕ) → Has ys z → Has xs z) → count_by p xs ≡ count_by p ys
same_count p [] [] i j to from = refl
same_count p [] (y ∷ ys) i j to from = absurd (from y (inl refl))
same_count p (x ∷ xs) ys i j to from =
    let left = filter (other x) ys in
    let there = λ (z : ℕ) (h : Has xs z). has_filter (other x) ys z (to z (inr h)) (before_each other x xs z i.0 h) in
    let back : (z : ℕ) → Has left z → Has xs z = λ z h.
    (let f = filter_has (other x) ys z h in
    elim (from z f.0) [ inl e ↦ absurd (not_other x z f.1 e) | inr t ↦ t ]) in
    let rest : count_by p xs ≡ count_by p left = same_count p xs left i.1 (filtered_order other (other x) ys j) there back in
    count_more p x xs ∙ (ap (λ n. cond (p x) 1 0 + n) rest ∙ sym (one_taken p x ys j (to x (inl refl))))

count_any : {X : Type 0} (xs : List X) → count_by (λ x. true) xs ≡ length xs
count_any [] = refl
count_any (x ∷ xs) = count_more (λ y. true) x xs ∙ (rw (count_any xs) (omega arith))

pub same_length : (xs ys : List ℕ) → IsInOrder other xs → IsInOrder other ys → ((z : ℕ) → Has xs z → Has ys z) → ((z : ℕ) → Has ys z → Has xs z) → length xs ≡ length ys
same_length xs ys i j to from = sym (count_any xs) ∙ (same_count (λ z. true) xs ys i j to from ∙ count_any ys)

-- the places from one on
within : (first n k : ℕ) → Has (range_with_len first n) k → (first ≤ k) × (k < first + n)
within first zero k h = absurd h
within first (suc n) k h = elim h [
  | inl e ↦ (omega (arith, e), omega (arith, e))
  | inr t ↦ (let r = within (first + 1) n k t in let low = r.0 in let high = r.1 in (omega (arith, low), omega (arith, high)))
]

pub place_within : (n k : ℕ) → Has (range_with_len 0 n) k → k < n
place_within n k h = (let r = within 0 n k h in let high = r.1 in omega (arith, high))

range_apart : (first n : ℕ) → IsInOrder other (range_with_len first n)
range_apart first zero = tt
range_apart first (suc n) = (
  before_all other first (range_with_len (first + 1) n) (λ k h. is_other first k (λ e. (let r = within (first + 1) n k h in let low = r.0 in omega (arith, low, e)))),
  range_apart (first + 1) n,
)

pub places_apart : (p : ℕ → Bool) (n : ℕ) → IsInOrder other (filter p (range_with_len 0 n))
places_apart p n = filtered_order other p (range_with_len 0 n) (range_apart 0 n)

pub all_apart : (n : ℕ) → IsInOrder other (range_with_len 0 n)
all_apart n = range_apart 0 n

pub differ : (x y : ℕ) → (x ≡ y → ⊥) → other x y ≡ true
differ x y h = is_other x y (λ e. h (sym e))
