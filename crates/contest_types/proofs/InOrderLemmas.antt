-- A list in order has what the list has.
use Rattle.std.proofs.Common.{◌≡◌, ◌⊎◌, ℕ, zero, suc, ◌+◌, ◌<◌, ◌≤◌, Bool, true, false, cond, List, [], ◌∷◌, ◌++◌, length, map, filter, Option, Some, None, refl, sym, ap, subst, ◌∙◌, inl, inr, arith, add-zero}
use Rattle.std.specs.Prelude.{◌==◌, find, count_by, if◌then◌else◌}
use Rattle.std.specs.List.{cons_option, filter_map, flat_map, range_with_len}
use Rattle.std.specs.Cmp.{IsTotalOrder, Equal-is}
use Rattle.std.specs.Ordering.{is_eq, is_lt, ordering_reverse}
use Rattle.std.specs.declared.cmp.Ordering.{Ordering}
use Rattle.std.specs.declared.cmp.Ordering.TheVariants.{Less, Equal, Greater}
use Rattle.std.proofs.lemmas.Bool.{cases_Bool, false≢true, eqb-true, eq-eqb}
use Rattle.std.proofs.lemmas.Cmp.{tied_itself}
use Rattle.std.proofs.lemmas.List.Sums.{sum_by-cons, sum_by-le-sum_by, count_by-le-length}
use Rattle.contest_types.specs.Order.{Has, place_in, in_order}

pub count_more : {X : Type 0} (p : X → Bool) (x : X) (xs : List X) → count_by p (x ∷ xs) ≡ cond (p x) 1 0 + count_by p xs
count_more p x xs = sum_by-cons (λ y. cond (p y) 1 0) x xs

-- one that fails makes the count less than the length
count_short : {X : Type 0} (p : X → Bool) (xs : List X) (x : X) → Has xs x → p x ≡ false → count_by p xs < length xs
count_short p [] x h e = absurd h
count_short {X} p (y ∷ xs) x h e =
    let one : (b : Bool) → cond b 1 0 ≤ 1 = elim [ true ↦ omega arith | false ↦ omega arith ] in
    let here : x ≡ y → count_by p (y ∷ xs) < length (y ∷ xs) = λ i. (let f : p y ≡ false = rw (← i) e in rw (count_more p y xs, f) (omega (arith, count_by-le-length p xs))) in
    let there : Has xs x → count_by p (y ∷ xs) < length (y ∷ xs) = λ k. (let rest = count_short p xs x k e in rw (count_more p y xs) (omega (arith, rest, one (p y)))) in
    elim h [ inl i ↦ here i | inr k ↦ there k ]

one_le : (b c : Bool) → (b ≡ true → c ≡ true) → cond b 1 0 ≤ cond c 1 0
one_le true c h = rw (h refl) (omega arith)
one_le false c h = omega arith

pub count_le : {X : Type 0} (p q : X → Bool) (xs : List X) → ((x : X) → p x ≡ true → q x ≡ true) → count_by p xs ≤ count_by q xs
count_le p q xs weaker = sum_by-le-sum_by (λ x. cond (p x) 1 0) (λ x. cond (q x) 1 0) xs (λ x. one_le (p x) (q x) (weaker x))

-- one that passes only the second test makes its count greater
count_less : {X : Type 0} (p q : X → Bool) (xs : List X) (x : X) → ((z : X) → p z ≡ true → q z ≡ true) → Has xs x → p x ≡ false → q x ≡ true → count_by p xs < count_by q xs
count_less p q [] x weaker h f t = absurd h
count_less {X} p q (y ∷ xs) x weaker h f t =
    let here : x ≡ y → count_by p (y ∷ xs) < count_by q (y ∷ xs) = λ i.
    (let fy : p y ≡ false = rw (← i) f in let ty : q y ≡ true = rw (← i) t in let rest = count_le p q xs weaker in rw (count_more p y xs, count_more q y xs, fy, ty) (omega (arith, rest))) in
    let there : Has xs x → count_by p (y ∷ xs) < count_by q (y ∷ xs) = λ k.
    (let rest = count_less p q xs x weaker k f t in let head = one_le (p y) (q y) (weaker y) in rw (count_more p y xs, count_more q y xs) (omega (arith, rest, head))) in
    elim h [ inl i ↦ here i | inr k ↦ there k ]

pub is_less : (o : Ordering) → is_lt o ≡ true → o ≡ Less
is_less Less h = refl
is_less Equal h = absurd (false≢true h)
is_less Greater h = absurd (false≢true h)

pub is_equal : (o : Ordering) → is_eq o ≡ true → o ≡ Equal
is_equal o h = (Equal-is o).0 h

pub place_less : {X : Type 0} {R : X → X → Ordering} (o : IsTotalOrder R) (xs : List X) (x y : X) → Has xs x → R x y ≡ Less → place_in R xs x < place_in R xs y
place_less {X} {R} o xs x y there e =
    count_less (λ z. is_lt (R z x)) (λ z. is_lt (R z y)) xs x (λ z h. ap is_lt (o.trans z x y (is_less _ h) e)) there (rw (tied_itself o x) refl) (rw e refl)

-- what is found
pub record Found {X : Type 0} (p : X → Bool) (xs : List X) : Type 0 where
  pub item : X
  pub found : find p xs ≡ Some item
  pub passes : p item ≡ true
  pub there : Has xs item

pub found_in : {X : Type 0} (p : X → Bool) (xs : List X) (x : X) → Has xs x → p x ≡ true → Found p xs
found_in p [] x h t = absurd h
found_in {X} p (y ∷ xs) x h t =
    let later : p y ≡ false → Found p (y ∷ xs) = λ f.
    (let k : Has xs x = elim h [ inl i ↦ absurd (false≢true (sym f ∙ (ap p (sym i) ∙ t))) | inr k ↦ k ] in
    let rest = found_in p xs x k t in
    record { item = rest.item; found = rw f rest.found; passes = rest.passes; there = inr rest.there }) in
    elim (cases_Bool (p y)) [ inl e ↦ record { item = y; found = rw e refl; passes = e; there = inl refl } | inr f ↦ later f ]

-- where none is found, none passes
pub none_passes : {X : Type 0} (p : X → Bool) (xs : List X) (x : X) → find p xs ≡ None → Has xs x → p x ≡ true → ⊥
none_passes p xs x e h t = cc (sym e ∙ (found_in p xs x h t).found)

pub find_has : {X : Type 0} (p : X → Bool) (xs : List X) (x : X) → find p xs ≡ Some x → Has xs x
find_has p [] x h = absurd (cc h)
find_has {X} p (y ∷ xs) x h =
    let go : (b : Bool) → (if b then Some y else find p xs) ≡ Some x → Has (y ∷ xs) x =
    elim [ true ↦ λ e. (let same : y ≡ x = cc e in inl (sym same)) | false ↦ λ e. inr (find_has p xs x e) ] in
    go (p y) h

pub has_option : {X : Type 0} (o : Option X) (xs : List X) (x : X) → (o ≡ Some x) ⊎ Has xs x → Has (cons_option o xs) x
has_option None xs x h = elim h [ inl e ↦ absurd (cc e) | inr k ↦ k ]
has_option {X} (Some y) xs x h = elim h [ inl e ↦ (let same : y ≡ x = cc e in inl (sym same)) | inr k ↦ inr k ]

pub option_has : {X : Type 0} (o : Option X) (xs : List X) (x : X) → Has (cons_option o xs) x → (o ≡ Some x) ⊎ Has xs x
option_has None xs x h = inr h
option_has (Some y) xs x h = elim h [ inl e ↦ inl (ap Some (sym e)) | inr k ↦ inr k ]

has_found : {X : Type 0} (F : ℕ → Option X) (x : X) (first n k : ℕ) → k < n → F (first + k) ≡ Some x → Has (filter_map F (range_with_len first n)) x
has_found F x first zero k l e = absurd (omega (arith, l))
has_found F x first (suc n) zero l e = has_option (F first) (filter_map F (range_with_len (first + 1) n)) x (inl (rw (add-zero first) at e))
has_found F x first (suc n) (suc k) l e =
    let same : (first + 1) + k ≡ first + suc k = omega arith in
    has_option (F first) (filter_map F (range_with_len (first + 1) n)) x (inr (has_found F x (first + 1) n k (omega (arith, l)) (rw same e)))

found_has : {X : Type 0} (F : ℕ → Option X) (xs : List X) → ((k : ℕ) (x : X) → F k ≡ Some x → Has xs x) → (ks : List ℕ) (x : X) → Has (filter_map F ks) x → Has xs x
found_has F xs f [] x h = absurd h
found_has F xs f (k ∷ ks) x h = elim (option_has (F k) (filter_map F ks) x h) [ inl e ↦ f k x e | inr t ↦ found_has F xs f ks x t ]

-- ordering adds nothing
pub nothing_added : {X : Type 0} (R : X → X → Ordering) (xs : List X) (x : X) → Has (in_order R xs) x → Has xs x
nothing_added R xs x h =
    found_has (λ k. find (λ y. place_in R xs y == k) xs) xs (λ k z e. find_has (λ y. place_in R xs y == k) xs z e) (range_with_len 0 (length xs)) x h

by_cases : {X : Type 0} {R : X → X → Ordering} (o : IsTotalOrder R) (xs : List X) (x z : X) → Has xs x → Has xs z → place_in R xs z ≡ place_in R xs x → ((y : X) → Has xs y → R y x ≡ Equal → y ≡ x) → (r : Ordering) → R z x ≡ r → z ≡ x
by_cases o xs x z hx hz e exact Less i = absurd (omega (arith, e, place_less o xs z x hz i))
by_cases o xs x z hx hz e exact Equal i = exact z hz i
by_cases o xs x z hx hz e exact Greater i = absurd (omega (arith, e, place_less o xs x z hx (o.antisymm x z ∙ ap ordering_reverse i)))

-- and loses none that ties with no other
pub nothing_lost : {X : Type 0} {R : X → X → Ordering} (o : IsTotalOrder R) (xs : List X) (x : X) → Has xs x → ((y : X) → Has xs y → R y x ≡ Equal → y ≡ x) → Has (in_order R xs) x
nothing_lost {X} {R} o xs x h exact =
    let k = place_in R xs x in
    let test : X → Bool = λ y. place_in R xs y == k in
    let f = found_in test xs x h (eq-eqb k k refl) in
    let same : f.item ≡ x = by_cases o xs x f.item h f.there (eqb-true (place_in R xs f.item) k f.passes) exact (R f.item x) refl in
    let within : k < length xs = count_short (λ y. is_lt (R y x)) xs x h (rw (tied_itself o x) refl) in
    let none : 0 + k ≡ k = omega arith in
    has_found (λ j. find (λ y. place_in R xs y == j) xs) x 0 (length xs) k within (rw none (f.found ∙ ap Some same))

pub has_front : {X : Type 0} (xs ys : List X) (x : X) → Has xs x → Has (xs ++ ys) x
has_front [] ys x h = absurd h
has_front (y ∷ xs) ys x h = elim h [ inl e ↦ inl e | inr t ↦ inr (has_front xs ys x t) ]

pub has_back : {X : Type 0} (xs ys : List X) (x : X) → Has ys x → Has (xs ++ ys) x
has_back [] ys x h = h
has_back (y ∷ xs) ys x h = inr (has_back xs ys x h)

pub has_either : {X : Type 0} (xs ys : List X) (x : X) → Has (xs ++ ys) x → Has xs x ⊎ Has ys x
has_either [] ys x h = inr h
has_either (y ∷ xs) ys x h = elim h [ inl e ↦ inl (inl e) | inr t ↦ elim (has_either xs ys x t) [ inl i ↦ inl (inr i) | inr k ↦ inr k ] ]

-- what a list of lists has, one of them has
pub flat_has : {X Y : Type 0} (f : X → List Y) (xs : List X) (x : X) (y : Y) → Has xs x → Has (f x) y → Has (flat_map f xs) y
flat_has f [] x y h g = absurd h
flat_has f (z ∷ xs) x y h g = elim h [ inl e ↦ has_front (f z) (flat_map f xs) y (subst (λ w. Has (f w) y) e g) | inr t ↦ has_back (f z) (flat_map f xs) y (flat_has f xs x y t g) ]

pub record FromOne {X Y : Type 0} (f : X → List Y) (xs : List X) (y : Y) : Type 0 where
  pub item : X
  pub there : Has xs item
  pub gives : Has (f item) y

pub has_flat : {X Y : Type 0} (f : X → List Y) (xs : List X) (y : Y) → Has (flat_map f xs) y → FromOne f xs y
has_flat f [] y h = absurd h
has_flat f (x ∷ xs) y h =
    let later : FromOne f xs y → FromOne f (x ∷ xs) y = λ r. record { item = r.item; there = inr r.there; gives = r.gives } in
    elim (has_either (f x) (flat_map f xs) y h) [ inl i ↦ record { item = x; there = inl refl; gives = i } | inr t ↦ later (has_flat f xs y t) ]

pub has_map : {X Y : Type 0} (f : X → Y) (xs : List X) (x : X) → Has xs x → Has (map f xs) (f x)
has_map f [] x h = absurd h
has_map f (y ∷ xs) x h = elim h [ inl e ↦ inl (ap f e) | inr t ↦ inr (has_map f xs x t) ]

-- what a map has comes from one of the list
pub record MadeOf {X Y : Type 0} (f : X → Y) (xs : List X) (y : Y) : Type 0 where
  pub item : X
  pub there : Has xs item
  pub is : y ≡ f item

pub map_has : {X Y : Type 0} (f : X → Y) (xs : List X) (y : Y) → Has (map f xs) y → MadeOf f xs y
map_has f [] y h = absurd h
map_has f (x ∷ xs) y h =
    let later : MadeOf f xs y → MadeOf f (x ∷ xs) y = λ r. record { item = r.item; there = inr r.there; is = r.is } in
    elim h [ inl e ↦ record { item = x; there = inl refl; is = e } | inr t ↦ later (map_has f xs y t) ]

pub has_filter : {X : Type 0} (p : X → Bool) (xs : List X) (x : X) → Has xs x → p x ≡ true → Has (filter p xs) x
has_filter p [] x h t = absurd h
has_filter {X} p (y ∷ xs) x h t =
    let go : (b : Bool) → p y ≡ b → Has (if b then y ∷ filter p xs else filter p xs) x = elim [
      | true ↦ λ e. elim h [ inl i ↦ inl i | inr k ↦ inr (has_filter p xs x k t) ]
      | false ↦ λ e. elim h [ inl i ↦ absurd (false≢true (sym e ∙ (ap p (sym i) ∙ t))) | inr k ↦ has_filter p xs x k t ]
    ] in
    go (p y) refl

pub filter_has : {X : Type 0} (p : X → Bool) (xs : List X) (x : X) → Has (filter p xs) x → Has xs x × (p x ≡ true)
filter_has p [] x h = absurd h
filter_has {X} p (y ∷ xs) x h =
    let more : Has xs x × (p x ≡ true) → Has (y ∷ xs) x × (p x ≡ true) = λ r. (inr r.0, r.1) in
    let go : (b : Bool) → p y ≡ b → Has (if b then y ∷ filter p xs else filter p xs) x → Has (y ∷ xs) x × (p x ≡ true) = elim [
      | true ↦ λ e k. elim k [ inl i ↦ (inl i, ap p i ∙ e) | inr t ↦ more (filter_has p xs x t) ]
      | false ↦ λ e k. more (filter_has p xs x k)
    ] in
    go (p y) refl h
