-- The words of a text, cut off one by one.
use Rattle.std.proofs.Common.{◌≡◌, ◌<◌, ◌∙◌, ◌+◌, ℕ, Bool, true, false, List, [], ◌∷◌, length, take, drop, Some, None, refl, ap, cond, arith}
use Rattle.std.specs.Prelude.{◌==◌, nat_lt}
use Rattle.std.specs.List.{onto_first, position, position_or_len}
use Rattle.std.proofs.lemmas.Bool.Decides.{nat_tests}
use Rattle.std.proofs.lemmas.List.Splits.{slice_split-cons_no, slice_split_first}
use Rattle.contest_types.specs.Words.{words}

abbrev space : ℕ → Bool
space c = c == 32

whole : (text : List ℕ) → nat_lt (position_or_len space text) (length text) ≡ false → words text ≡ text ∷ []
whole [] none = refl
whole (b ∷ bs) none =
    let go : (s : Bool) → space b ≡ s → words (b ∷ bs) ≡ (b ∷ bs) ∷ [] = elim [
      | true ↦ λ is. absurd (grind (arith, nat_tests, none, is))
      | false ↦ λ is. slice_split-cons_no space b bs is ∙ ap (onto_first b) (whole bs (grind (arith, nat_tests, none, is)))
    ] in
    go (space b) refl

-- a space stands there, and it is the first
pub cut_there : (text : List ℕ) (at : ℕ) → Some at ≡ position space text → words text ≡ take at text ∷ words (drop (at + 1) text)
cut_there text at is =
    let go : (b : Bool) → nat_lt (position_or_len space text) (length text) ≡ b → Some at ≡ cond b (Some (position_or_len space text)) None → words text ≡ take at text ∷ words (drop (at + 1) text) = elim [
      | true ↦ λ there e. (let same : at ≡ position_or_len space text = cc e in
          let before : position_or_len space text < length text = grind (arith, nat_tests, there) in
          rw same (slice_split_first space text 0 before))
      | false ↦ λ none e. absurd (cc e)
    ] in
    go (nat_lt (position_or_len space text) (length text)) refl is

-- there is none
pub cut_nowhere : (text : List ℕ) → None ≡ position space text → words text ≡ text ∷ []
cut_nowhere text is =
    let go : (b : Bool) → nat_lt (position_or_len space text) (length text) ≡ b → None ≡ cond b (Some (position_or_len space text)) None → words text ≡ text ∷ [] = elim [
      | true ↦ λ there e. absurd (cc e)
      | false ↦ λ none e. whole text none
    ] in
    go (nat_lt (position_or_len space text) (length text)) refl is
