-- The front of a text by the place where it ends.
use Rattle.std.proofs.Common.{◌≡◌, ◌≤◌, ℕ, Bool, true, false, List, length, Some, None, refl, cond, arith}
use Rattle.std.specs.Prelude.{nat_lt, not}
use Rattle.std.specs.List.{position, position_or_len}
use Rattle.std.proofs.lemmas.Bool.Decides.{nat_tests}
use Rattle.std.proofs.lemmas.List.Sums.{prefix_len-le-length}
use Rattle.contest_files.specs.Tokens.{is_token_byte, token_bytes}

abbrev other : ℕ → Bool
other b = not (is_token_byte b)

pub at_place : (text : List ℕ) (at : ℕ) → Some at ≡ position (λ b. not (is_token_byte b)) text → at ≡ token_bytes text
at_place text at is =
    let go : (b : Bool) → nat_lt (position_or_len other text) (length text) ≡ b → Some at ≡ cond b (Some (position_or_len other text)) None → at ≡ position_or_len other text = elim [
      | true ↦ λ there e. cc e
      | false ↦ λ none e. absurd (cc e)
    ] in
    go (nat_lt (position_or_len other text) (length text)) refl is

pub at_end : (text : List ℕ) → None ≡ position (λ b. not (is_token_byte b)) text → length text ≡ token_bytes text
at_end text is =
    let most : position_or_len other text ≤ length text = prefix_len-le-length (λ b. not (other b)) text in
    let go : (b : Bool) → nat_lt (position_or_len other text) (length text) ≡ b → None ≡ cond b (Some (position_or_len other text)) None → length text ≡ position_or_len other text = elim [
      | true ↦ λ there e. absurd (cc e)
      | false ↦ λ none e. grind (arith, nat_tests, none, most)
    ] in
    go (nat_lt (position_or_len other text) (length text)) refl is
