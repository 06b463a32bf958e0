-- The id of a submission tells its team and its number, and is read so.
use Rattle.std.proofs.Common.{◌≡◌, ℕ, ◌+◌, ◌<◌, ◌≤◌, zero, suc, List, [], ◌∷◌, ◌++◌, length, get_or, Option, sym, ap, ◌∙◌, refl, arith}
use Rattle.std.specs.Prelude.{◌^◌, None, Result, Ok, Err, MatchResult}
use Rattle.std.specs.Char.{digit_value}
use Rattle.std.specs.Fmt.{decimal}
use Rattle.std.specs.Option.{MatchOption}
use Rattle.std.specs.Result.{result_ok}
use Rattle.std.specs.Str.{IsUtf8}
use Rattle.std.specs.Str.Parse.{AllDigits}
use Rattle.std.proofs.lemmas.Fmt.{decimal_is_IsNumeral, IsAscii-decimal}
use Rattle.std.proofs.lemmas.Str.{IsUtf8-append, IsUtf8-from_ascii}
use Rattle.std.proofs.lemmas.Str.Ascii.{IsAscii-cons}
use Rattle.std.proofs.lemmas.Str.Pattern.{IsSplitOnceResult, split_after}
use denote.Ref.{Bor}
use Rattle.contest_types.proofs.DashedNumbers.{dashed}
use Rattle.contest_types.specs.VisibleIds.{submission_id}

pub one_id : (t m u n : ℕ) → t ≤ 1_000 → m ≤ 1_000 → u ≤ 1_000 → n ≤ 1_000 → submission_id t m ≡ submission_id u n → (t ≡ u) × (m ≡ n)
one_id t m u n lt lm lu ln e =
    let tail : decimal (t + 1) ++ 45 ∷ decimal m ≡ decimal (u + 1) ++ 45 ∷ decimal n = cc e in
    let both = dashed (t + 1) m (u + 1) n (omega arith) (omega arith) (omega arith) (omega arith) tail in
    (omega (arith, both.0), both.1)

no_digit : (c : ℕ) → c ≡ 45 → digit_value c < 10 → ⊥
no_digit c e h =
    let dash : digit_value 45 ≡ 36 = refl in
    let same : digit_value c ≡ 36 = ap digit_value e ∙ dash in
    omega (arith, same, h)

no_dash : (ds : List ℕ) → AllDigits 10 ds → (i : ℕ) → i < length ds → get_or ds i 0 ≡ 45 → ⊥
no_dash [] h i l e = omega (arith, l)
no_dash (d ∷ ds) h zero l e = no_digit d e h.0
no_dash (d ∷ ds) h (suc i) l e = no_dash ds h.1 i (omega (arith, l)) e

-- two numbers with a `-` between them are told apart there
pub split_numbers : (text : List ℕ) (first second : ℕ) (r : Option (Bor (List ℕ) × Bor (List ℕ))) → IsSplitOnceResult 45 text r → first < 2 ^ 64 → decimal first ++ 45 ∷ decimal second ≡ text
    → MatchOption r ⊥ (λ x. (x.0.now ≡ decimal first) × (x.1.now ≡ decimal second))
split_numbers text first second r split l e =
    split_after 45 text (decimal first) (decimal second) r split (omega arith) (sym e) (no_dash (decimal first) (decimal_is_IsNumeral first l).0.1)

-- and are UTF-8
pub numbers_utf8 : (first second : ℕ) → first < 2 ^ 64 → second < 2 ^ 64 → IsUtf8 (decimal first ++ 45 ∷ decimal second)
numbers_utf8 first second l k =
    IsUtf8-append (decimal first) (45 ∷ decimal second) (IsUtf8-from_ascii (decimal first) (IsAscii-decimal first l))
    (IsUtf8-from_ascii (45 ∷ decimal second) (IsAscii-cons 45 (decimal second) (omega arith) (IsAscii-decimal second k)))

pub no_text : {E : Type 0} (P : E → Type 0) (bytes : List ℕ) (r : Result (Bor (List ℕ)) E) → MatchResult r (λ s. (s.now ≡ bytes) × IsUtf8 bytes) (λ e. (¬ IsUtf8 bytes) × P e) → result_ok r ≡ None → IsUtf8 bytes → ⊥
no_text P bytes (Ok s) cases e text = cc e
no_text P bytes (Err e) cases f text = cases.0 text
