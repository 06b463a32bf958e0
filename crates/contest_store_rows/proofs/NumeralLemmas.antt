-- Whether a text is a number in decimal digits, as a test.
use Rattle.std.proofs.Common.{◌≡◌, ℕ, true, List, length}
use Rattle.std.specs.Prelude.{nat_lt}
use Rattle.std.specs.Str.Parse.{IsNumeral}
use Rattle.std.proofs.lemmas.Bool.{lt-ltb, ltb-true}
use Rattle.contest_types.proofs.PlaceLemmas.{and_left, and_right, both_true}
use Rattle.contest_store_rows.specs.References.{is_numeral}
use Rattle.contest_types.proofs.RelTimeReading.{all_digits, digits_all}

pub numeral_tested : (text : List ℕ) → IsNumeral 10 text → is_numeral text ≡ true
numeral_tested text is = both_true _ _ (lt-ltb _ _ is.0) (digits_all text is.1)

pub numeral_from_test : (text : List ℕ) → is_numeral text ≡ true → IsNumeral 10 text
numeral_from_test text t = (ltb-true _ _ (and_left _ _ t), all_digits text (and_right (nat_lt 0 (length text)) _ t))
