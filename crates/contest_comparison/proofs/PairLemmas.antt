-- What is pushed of two lists, side by side.
use Rattle.std.proofs.Common.{◌≡◌, ◌∙◌, ◌⊎◌, ◌++◌, ℕ, List, [], ◌∷◌, ap, append-nil, drop, inl, inr, refl, sym}
use Rattle.std.specs.List.{flat_map, zip}

-- where one of two lists has ended, nothing is left of both
none_left : {X Y : Type 0} (xs : List X) (ys : List Y) → (xs ≡ []) ⊎ (ys ≡ []) → zip xs ys ≡ []
none_left [] ys e = refl
none_left (x ∷ xs) [] e = refl
none_left (x ∷ xs) (y ∷ ys) (inl e) = absurd (cc e)
none_left (x ∷ xs) (y ∷ ys) (inr e) = absurd (cc e)

-- and all is pushed
pub all_pushed : {X Y : Type 0} (g : X × Y → List ℕ) (xs : List X) (ys : List Y) (n : ℕ) (begun text : List ℕ) (left : List X) (right : List Y) → left ≡ drop n xs → right ≡ drop n ys → (left ≡ []) ⊎ (right ≡ [])
    → begun ++ flat_map g (zip xs ys) ≡ text ++ flat_map g (zip (drop n xs) (drop n ys)) → text ≡ begun ++ flat_map g (zip xs ys)
all_pushed g xs ys n begun text left right is_left is_right none h =
    let gone : zip (drop n xs) (drop n ys) ≡ [] = rw (← is_left, ← is_right) (none_left left right none) in
    sym (h ∙ (ap (λ ps. text ++ flat_map g ps) gone ∙ append-nil text))
