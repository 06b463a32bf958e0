-- The length of a body by its digits.
use Rattle.std.proofs.Common.{ℕ, ◌≡◌, ◌≤◌, ◌∷◌, [], Bool, true, false, List, refl}
use Rattle.std.specs.Prelude.{nat_le, Ok, Err}
use Rattle.std.specs.Str.Parse.{IsNumeral, digits_value}
use Rattle.std.proofs.lemmas.Bool.{leb-true, le-leb}
use Rattle.contest_types.specs.RelTimeRead.{are_digits}
use Rattle.contest_types.specs.declared.limits.TheConstants.{REQUEST_BODY}
use Rattle.contest_types.specs.declared.refusal.Refusal.TheVariants.{BodyTooLarge, Malformed}
use Rattle.contest_types.proofs.RelTimeReading.{are_numeral, numeral}
use Rattle.contest_http.specs.Plans.{body_length}

pub length_some : (v : List ℕ) → IsNumeral 10 v → digits_value 10 v ≤ REQUEST_BODY → body_length (v ∷ []) ≡ Ok (digits_value 10 v)
length_some v n most = rw (are_numeral v n, le-leb _ _ most) refl

too_large : (v : List ℕ) (b : Bool) → nat_le (digits_value 10 v) REQUEST_BODY ≡ b → are_digits v ≡ true
    → (IsNumeral 10 v × (digits_value 10 v ≤ REQUEST_BODY) → ⊥) → body_length (v ∷ []) ≡ Err BodyTooLarge
too_large v true e digits none = absurd (none (numeral v digits, leb-true _ _ e))
too_large v false e digits none = rw (digits, e) refl

pub length_over : (v : List ℕ) → are_digits v ≡ true → (IsNumeral 10 v × (digits_value 10 v ≤ REQUEST_BODY) → ⊥) → body_length (v ∷ []) ≡ Err BodyTooLarge
length_over v digits none = too_large v (nat_le (digits_value 10 v) REQUEST_BODY) refl digits none

pub length_off : (v : List ℕ) → are_digits v ≡ false → body_length (v ∷ []) ≡ Err Malformed
length_off v digits = rw digits refl
