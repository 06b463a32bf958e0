-- How many calls go on after one that did.
use Rattle.std.proofs.Common.{◌≡◌, ℕ, ◌-◌, false, Option, Some, None, refl}
use Rattle.std.specs.Option.{option_map}
use Rattle.contest_store.specs.InMemory.{is_due, left_after}

pub went_on : (o : Option ℕ) → is_due o ≡ false → option_map (λ calls. calls - 1) o ≡ left_after o
went_on None e = refl
went_on (Some calls) e = rw e refl
