-- SQL's equality of the numbers or the texts in two cells.
use Rattle.std.proofs.Common.{◌≡◌, ◌∙◌, ℕ, ◌+◌, pos, Bool, true, false, List, Some, refl, ap, arith}
use Rattle.std.specs.Prelude.{◌==◌}
use Rattle.std.specs.Ordering.{int_cmp, is_eq}
use Rattle.std.specs.Str.{bytes_eq}
use Rattle.std.proofs.lemmas.Bool.Decides.{nat_tests}
use Rattle.std.proofs.lemmas.Int.{ints}
use Rattle.std.proofs.lemmas.Map.Text.{is_eq-slice_cmp}
use Rattle.sqlite.specs.Collation.TheVariants.{Binary}
use Rattle.sqlite_schema.specs.Rules.{equal}
use Rattle.sqlite_sql.specs.Ops.{binary, from_truth, is_true}
use Rattle.sqlite_value.specs.Order.{value_cmp}
use Rattle.sqlite_value.specs.declared.value.Value.TheVariants.{Text}
use Rattle.sqlite_value.proofs.OrderLemmas.{value_cmp-Int, value_cmp-Text}
use Rattle.contest_store_rows.specs.Cells.{number}

-- a truth value is the test that it came from, and the order of whole numbers tells which are the same
pub of_truth : (b : Bool) → is_true (from_truth (Some b)) ≡ b
of_truth true = refl
of_truth false = refl

same_naturals : (m n : ℕ) → is_eq (int_cmp (pos m) (pos n)) ≡ (m == n)
same_naturals m n = grind (arith, ints, nat_tests)

-- numbers are equal in SQL where they are the same
pub same_number : (m n : ℕ) → equal Binary (number m) (number n) ≡ (m == n)
unfolding binary
same_number m n = of_truth (is_eq (value_cmp (number m) (number n))) ∙ ap is_eq (value_cmp-Int (pos m) (pos n)) ∙ same_naturals m n

-- and texts
pub same_text : (s t : List ℕ) → equal Binary (Text s) (Text t) ≡ bytes_eq s t
unfolding binary
same_text s t = of_truth (is_eq (value_cmp (Text s) (Text t))) ∙ ap is_eq (value_cmp-Text s t) ∙ is_eq-slice_cmp s t

-- numbers are the same where those that come after them are
pub same_after : (m n : ℕ) → (m + 1 == n + 1) ≡ (m == n)
same_after m n = grind (arith, nat_tests)
