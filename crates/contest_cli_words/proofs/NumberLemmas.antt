-- The number that the digits of a word write.
use Rattle.std.proofs.Common.{ℕ, ◌≡◌, ◌≤◌, List, Some, None, refl}
use Rattle.std.specs.Str.Parse.{IsNumeral, digits_value}
use Rattle.contest_types.proofs.NumeralLemmas.{writes_none, writes_one}
use Rattle.contest_cli_words.specs.ServeWords.{number_to}

pub number_none : (most : ℕ) (text : List ℕ) → (IsNumeral 10 text × (digits_value 10 text ≤ most) → ⊥) → None ≡ number_to most text
number_none most text h = rw (writes_none most text h) refl

pub number_some : (most : ℕ) (text : List ℕ) → IsNumeral 10 text → digits_value 10 text ≤ most → Some (digits_value 10 text) ≡ number_to most text
number_some most text n l = rw (writes_one most text n l) refl
