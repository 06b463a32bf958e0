-- What is found in a list, element after element.
use Rattle.std.proofs.Common.{◌≡◌, ◌+◌, ◌∷◌, ℕ, zero, suc, Bool, true, false, List, [], take, Some, None, refl, arith}
use Rattle.std.specs.Prelude.{find, slice_get}

-- where none before passes, the first that does is found
pub find_here : {X : Type 0} (p : X → Bool) (xs : List X) (k : ℕ) (x : X) → find p (take k xs) ≡ None → slice_get xs k ≡ Some x → p x ≡ true → find p xs ≡ Some x
find_here p [] k x none at passes = absurd (cc at)
find_here p (y ∷ ys) zero x none at passes = let e : y ≡ x = cc at in rw (e, passes) refl
find_here {X} p (y ∷ ys) (suc k) x none at passes =
    let go : (b : Bool) → p y ≡ b → find p (y ∷ ys) ≡ Some x = elim [
      | true ↦ λ f. absurd (cc (rw f at none))
      | false ↦ λ f. rw f (find_here p ys k x (rw f at none) at passes)
    ] in
    go (p y) refl

-- what is found has a place
pub found_somewhere : {X : Type 0} (p : X → Bool) (xs : List X) (x : X) → find p xs ≡ Some x → (k : ℕ) × (slice_get xs k ≡ Some x)
found_somewhere p [] x found = absurd (cc found)
found_somewhere {X} p (y ∷ ys) x found =
    let go : (b : Bool) → p y ≡ b → (k : ℕ) × (slice_get (y ∷ ys) k ≡ Some x) = elim [
      | true ↦ λ f. (zero, rw f at found)
      | false ↦ λ f. (let rest = found_somewhere p ys x (rw f at found) in (suc rest.0, rest.1))
    ] in
    go (p y) refl

past_from : {X : Type 0} (p : X → Bool) (xs : List X) (k : ℕ) (x : X) → find p (take k xs) ≡ None → slice_get xs k ≡ Some x → p x ≡ false → find p (take (suc k) xs) ≡ None
past_from p [] k x none at fails = absurd (cc at)
past_from p (y ∷ ys) zero x none at fails = let e : y ≡ x = cc at in rw (e, fails) refl
past_from {X} p (y ∷ ys) (suc k) x none at fails =
    let go : (b : Bool) → p y ≡ b → find p (take (suc (suc k)) (y ∷ ys)) ≡ None = elim [
      | true ↦ λ f. absurd (cc (rw f at none))
      | false ↦ λ f. rw f (past_from p ys k x (rw f at none) at fails)
    ] in
    go (p y) refl

pub find_past : {X : Type 0} (p : X → Bool) (xs : List X) (k : ℕ) (x : X) → find p (take k xs) ≡ None → slice_get xs k ≡ Some x → p x ≡ false → find p (take (k + 1) xs) ≡ None
find_past p xs k x none at fails =
    let next : suc k ≡ k + 1 = omega arith in
    rw next at (past_from p xs k x none at fails)
