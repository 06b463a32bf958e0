-- Lists that are tested twice.
use Rattle.std.proofs.Common.{◌≡◌, Bool, true, false, List, [], ◌∷◌, refl, ap}
use Rattle.std.specs.Prelude.{◌&&◌, ◌||◌, if◌then◌else◌}
use Rattle.std.specs.List.{filter, list_any}

pub filter_both : {X : Type 0} (p q : X → Bool) (xs : List X) → filter (λ x. p x && q x) xs ≡ filter q (filter p xs)
filter_both p q [] = refl
filter_both p q (x ∷ xs) =
    let rest = filter_both p q xs in
    let go : (b : Bool) → (if b && q x then x ∷ filter (λ y. p y && q y) xs else filter (λ y. p y && q y) xs) ≡ filter q (if b then x ∷ filter p xs else filter p xs) =
    elim [ true ↦ ap (λ found. if q x then x ∷ found else found) rest | false ↦ rest ] in
    go (p x)

pub any_both : {X : Type 0} (p q : X → Bool) (xs : List X) → list_any (λ x. p x && q x) xs ≡ list_any q (filter p xs)
any_both p q [] = refl
any_both {X} p q (x ∷ xs) =
    let go : (b : Bool) → ((b && q x) || list_any (λ y. p y && q y) xs) ≡ list_any q (if b then x ∷ filter p xs else filter p xs) =
    elim [ true ↦ ap (λ more. q x || more) (any_both p q xs) | false ↦ any_both p q xs ] in
    go (p x)

pub filters_swap : {X : Type 0} (p q : X → Bool) (xs : List X) → filter p (filter q xs) ≡ filter q (filter p xs)
filters_swap p q [] = refl
filters_swap p q (x ∷ xs) =
    let rest = filters_swap p q xs in
    let go : (a b : Bool) → p x ≡ a → q x ≡ b → filter p (if b then x ∷ filter q xs else filter q xs) ≡ filter q (if a then x ∷ filter p xs else filter p xs) =
    elim [
      | true ↦ elim [ true ↦ λ e f. rw (e, f) (ap (λ ys. x ∷ ys) rest) | false ↦ λ e f. rw f rest ]
      | false ↦ elim [ true ↦ λ e f. rw e rest | false ↦ λ e f. rest ]
    ] in
    go (p x) (q x) refl refl
