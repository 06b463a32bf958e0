-- What is known of what was found.
use Rattle.std.proofs.Common.{◌≡◌, ◌+◌, ℕ, List, [], ◌∷◌, Option, Some, None, refl, sym, subst}
use Rattle.std.specs.List.{AllByRecursion}
use Rattle.std.specs.Option.{option_map}
use Rattle.sqlite_value.specs.Order.{Row}
use Rattle.contest_store_rows.specs.Lists.{list_from}
use Rattle.contest_store_rows.proofs.ListLaws.{parts}

-- what holds of what was found holds of what that is
pub of_found : {X : Type 0} (P : X → Type 0) (y x : X) → Some y ≡ Some x → P y → P x
of_found P y x is p =
    let same : y ≡ x = cc is in
    subst P same p

-- what was found holds, and was made of what was found first
pub record Made {X Y : Type 0} (f : X → Y) (first : Option X) (y : Y) : Type 0 where
  pub x : X
  pub first_is : first ≡ Some x
  pub whole : f x ≡ y

pub made : {X Y : Type 0} (f : X → Y) (first : Option X) (y : Y) → option_map f first ≡ Some y → Made f first y
made f None y is = absurd (cc is)
made f (Some x) y is = record { x = x; first_is = refl; whole = cc is }

-- what holds of each row that is read holds of all
pub each_read : {X : Type 0} (row_in : ℕ → Row → Option X) (P : X → Type 0) → ((n : ℕ) (r : Row) (x : X) → row_in n r ≡ Some x → P x) →
    (n : ℕ) (rows : List Row) (xs : List X) → list_from row_in n rows ≡ Some xs → AllByRecursion P xs
each_read row_in P of n [] xs is =
    let none : xs ≡ [] = cc is in
    rw none tt
each_read row_in P of n (r ∷ rows) xs is =
    let p = parts (row_in n r) (list_from row_in (n + 1) rows) xs is in
    subst (AllByRecursion P) (sym p.whole) (of n r p.x p.first_is, each_read row_in P of (n + 1) rows p.others p.rest_is)
