-- What it takes that a chain of optional values gives one.
use Rattle.std.proofs.Common.{◌≡◌, Bool, true, false, Option, Some, None, refl}
use Rattle.std.specs.Prelude.{if◌then◌else◌}
use Rattle.std.specs.Option.{option_and_then}

pub record Bound {X Y : Type 0} (next : X → Option Y) (first : Option X) (y : Y) : Type 0 where
  pub x : X
  pub first_is : first ≡ Some x
  pub next_is : next x ≡ Some y

pub bound : {X Y : Type 0} (next : X → Option Y) (first : Option X) (y : Y) → option_and_then next first ≡ Some y → Bound next first y
bound next None y is = absurd (cc is)
bound next (Some x) y is = record { x = x; first_is = refl; next_is = is }

pub where_true : {X : Type 0} (b : Bool) (found : Option X) (x : X) → (if b then found else None) ≡ Some x → (b ≡ true) × (found ≡ Some x)
where_true true found x is = (refl, is)
where_true false found x is = absurd (cc is)
