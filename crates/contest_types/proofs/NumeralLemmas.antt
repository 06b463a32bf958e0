-- Whether digits write a number up to a limit.
use Rattle.std.proofs.Common.{ℕ, ◌≡◌, ◌≤◌, Bool, List, true, false, refl}
use Rattle.std.specs.Prelude.{◌&&◌, nat_le}
use Rattle.std.specs.Str.Parse.{IsNumeral, digits_value}
use Rattle.std.proofs.lemmas.Bool.{leb-true, le-leb}
use Rattle.contest_types.specs.RelTimeRead.{are_digits}
use Rattle.contest_types.proofs.PlaceLemmas.{both_true}
use Rattle.contest_types.proofs.RelTimeReading.{are_numeral, numeral}

tests_agree : (most : ℕ) (text : List ℕ) (b c : Bool) → are_digits text ≡ b → nat_le (digits_value 10 text) most ≡ c → (IsNumeral 10 text × (digits_value 10 text ≤ most) → ⊥) → (b && c) ≡ false
tests_agree most text true true eb ec h = absurd (h (numeral text eb, leb-true _ _ ec))
tests_agree most text true false eb ec h = refl
tests_agree most text false c eb ec h = refl

pub writes_none : (most : ℕ) (text : List ℕ) → (IsNumeral 10 text × (digits_value 10 text ≤ most) → ⊥) → (are_digits text && nat_le (digits_value 10 text) most) ≡ false
writes_none most text h = tests_agree most text _ _ refl refl h

pub writes_one : (most : ℕ) (text : List ℕ) → IsNumeral 10 text → digits_value 10 text ≤ most → (are_digits text && nat_le (digits_value 10 text) most) ≡ true
writes_one most text n l = both_true _ _ (are_numeral text n) (le-leb _ _ l)
