-- Lists in strict order with the same elements are one list.
use Rattle.std.proofs.Common.{◌≡◌, List, [], ◌∷◌, refl, sym, subst, Bool, true, inl, inr}
use Rattle.contest_types.specs.Order.{IsStrict, Has, IsBefore, IsInOrder}

pub before_each : {X : Type 0} (before : X → X → Bool) (x : X) (ys : List X) (y : X) → IsBefore before x ys → Has ys y → before x y ≡ true
before_each before x [] y b h = absurd h
before_each before x (z ∷ zs) y b h = elim h [ inl e ↦ rw e (b.0) | inr t ↦ before_each before x zs y b.1 t ]

-- what is in the tail of the one is in the tail of the other
in_tail : {X : Type 0} (before : X → X → Bool) → IsStrict before → (x : X) (xs ys : List X) → IsBefore before x xs → ((z : X) → Has (x ∷ xs) z → Has (x ∷ ys) z) → (z : X) → Has xs z → Has ys z
in_tail before o x xs ys b f z h =
    let j = before_each before x xs z b h in
    elim (f z (inr h)) [ inl e ↦ absurd (o.never x z j (subst (λ w. before z w ≡ true) e (subst (λ w. before w z ≡ true) (sym e) j))) | inr t ↦ t ]

pub same_order : {X : Type 0} (before : X → X → Bool) → IsStrict before → (xs ys : List X) → IsInOrder before xs → IsInOrder before ys
    → ((z : X) → Has xs z → Has ys z) → ((z : X) → Has ys z → Has xs z) → xs ≡ ys
same_order before o [] [] s t f g = refl
same_order before o [] (y ∷ ys) s t f g = absurd (g y (inl refl))
same_order before o (x ∷ xs) [] s t f g = absurd (f x (inl refl))
same_order before o (x ∷ xs) (y ∷ ys) s t f g =
    let first : x ≡ y = elim (f x (inl refl)) [
      | inl e ↦ e
      | inr h ↦ elim (g y (inl refl)) [ inl e ↦ sym e | inr k ↦ absurd (o.never x y (before_each before x xs y s.0 k) (before_each before y ys x t.0 h)) ]
    ] in
    let f' : (z : _) → Has (x ∷ xs) z → Has (x ∷ ys) z = λ z h. subst (λ w. Has (w ∷ ys) z) (sym first) (f z h) in
    let g' : (z : _) → Has (x ∷ ys) z → Has (x ∷ xs) z = λ z h. g z (subst (λ w. Has (w ∷ ys) z) first h) in
    let t' : IsBefore before x ys = subst (λ w. IsBefore before w ys) (sym first) t.0 in
    rw (first, same_order before o xs ys s.1 t.1 (in_tail before o x xs ys s.0 f') (in_tail before o x ys xs t' g')) refl
