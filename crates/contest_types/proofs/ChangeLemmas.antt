-- A row that is changed where it stands.
use Rattle.std.proofs.Common.{◌≡◌, ◌∙◌, ◌+◌, ◌<◌, ◌≤◌, ℕ, zero, suc, Bool, true, false, List, [], ◌∷◌, length, map, Some, refl, sym, ap, inl, inr, arith}
use Rattle.std.specs.Prelude.{◌⊎◌, ◌==◌, slice_get, slice_set, if◌then◌else◌}
use Rattle.std.specs.List.{list_all}
use Rattle.std.specs.Option.{option_map_or}
use Rattle.std.proofs.lemmas.Bool.Decides.{nat_tests}
use Rattle.std.proofs.lemmas.Bool.{ne_eqb}
use Rattle.contest_types.specs.State.{changed_at}
use Rattle.contest_types.proofs.PlaceLemmas.{and_left, and_right, both_true}

-- no row has the number
pub before_all : {X : Type 0} (first at : ℕ) (f : X → X) (xs : List X) → at < first → changed_at first at f xs ≡ xs
before_all first at f [] l = refl
before_all first at f (x ∷ xs) l = rw (ne_eqb first at (λ e. omega (arith, e, l)), before_all (first + 1) at f xs (omega (arith, l))) refl

pub after_all : {X : Type 0} (first at : ℕ) (f : X → X) (xs : List X) → first + length xs ≤ at → changed_at first at f xs ≡ xs
after_all first at f [] l = refl
after_all first at f (x ∷ xs) l = rw (ne_eqb first at (λ e. omega (arith, e, l)), after_all (first + 1) at f xs (omega (arith, l))) refl

-- one has it
pub changed_there : {X : Type 0} (first at i : ℕ) (f : X → X) (xs : List X) (x : X) → at ≡ first + i → slice_get xs i ≡ Some x → changed_at first at f xs ≡ slice_set xs i (f x)
changed_there first at i f [] x is there = absurd (cc there)
changed_there first at zero f (y ∷ xs) x is there =
    let same : y ≡ x = cc there in
    let here : (first == at) ≡ true = grind (arith, nat_tests, is) in
    rw (here, same, before_all (first + 1) at f xs (omega (arith, is))) refl
changed_there first at (suc i) f (y ∷ xs) x is there =
    rw (ne_eqb first at (λ e. omega (arith, e, is)), changed_there (first + 1) at i f xs x (omega (arith, is)) there) refl

row_at : {X : Type 0} (xs : List X) (i : ℕ) → i < length xs → (x : X) × (slice_get xs i ≡ Some x)
row_at [] i l = absurd (omega (arith, l))
row_at (x ∷ xs) zero l = (x, refl)
row_at (x ∷ xs) (suc i) l = row_at xs i (omega (arith, l))

pub changed_by : {X : Type 0} (first at i : ℕ) (f : X → X) (xs ys : List X) → at ≡ first + i → i < length xs → ((x : X) → slice_get xs i ≡ Some x → ys ≡ slice_set xs i (f x)) → ys ≡ changed_at first at f xs
changed_by first at i f xs ys is within puts =
    let row = row_at xs i within in
    puts row.0 row.1 ∙ sym (changed_there first at i f xs row.0 is row.1)

pub unchanged : {X : Type 0} (first at : ℕ) (f : X → X) (xs : List X) → (at < first) ⊎ (first + length xs ≤ at) → xs ≡ changed_at first at f xs
unchanged first at f xs (inl below) = sym (before_all first at f xs below)
unchanged first at f xs (inr above) = sym (after_all first at f xs above)

-- a change that keeps a test, made at one row
pub changed_all : {X : Type 0} (p : X → Bool) (f : X → X) → ((x : X) → p x ≡ true → p (f x) ≡ true) → (first n : ℕ) (xs : List X) → list_all p xs ≡ true → list_all p (changed_at first n f xs) ≡ true
changed_all p f keeps first n [] h = refl
changed_all p f keeps first n (x ∷ xs) h =
    let go : (b : Bool) → p (if b then f x else x) ≡ true = elim [ true ↦ keeps x (and_left _ _ h) | false ↦ and_left _ _ h ] in
    both_true _ _ (go (first == n)) (changed_all p f keeps (first + 1) n xs (and_right (p x) _ h))

pub length-changed : {X : Type 0} (f : X → X) (first n : ℕ) (xs : List X) → length (changed_at first n f xs) ≡ length xs
length-changed f first n [] = refl
length-changed f first n (x ∷ xs) = ap (λ k. suc k) (length-changed f (first + 1) n xs)

-- what a change keeps of each row it keeps of the list
pub map-changed : {X Y : Type 0} (g : X → Y) (f : X → X) → ((x : X) → g (f x) ≡ g x) → (first n : ℕ) (xs : List X) → map g (changed_at first n f xs) ≡ map g xs
map-changed g f keeps first n [] = refl
map-changed g f keeps first n (x ∷ xs) =
    let go : (b : Bool) → g (if b then f x else x) ≡ g x = elim [ true ↦ keeps x | false ↦ refl ] in
    rw (go (first == n), map-changed g f keeps (first + 1) n xs) refl

-- what a change keeps of each row it keeps of the row at a place
pub same_there : {X Y : Type 0} (g : X → Y) (none : Y) (f : X → X) → ((x : X) → g (f x) ≡ g x) → (first n : ℕ) (xs : List X) (i : ℕ)
    → option_map_or g (slice_get (changed_at first n f xs) i) none ≡ option_map_or g (slice_get xs i) none
same_there g none f keeps first n [] i = refl
same_there g none f keeps first n (x ∷ xs) zero =
    let go : (b : Bool) → g (if b then f x else x) ≡ g x = elim [ true ↦ keeps x | false ↦ refl ] in
    go (first == n)
same_there g none f keeps first n (x ∷ xs) (suc i) = same_there g none f keeps (first + 1) n xs i
