-- The id of a judgement tells its submission.
use Rattle.std.proofs.Common.{◌≡◌, ◌<◌, ◌+◌, ◌≤◌, ◌∙◌, ℕ, List, [], ◌∷◌, ◌++◌, append_assoc, refl, sym, ap, arith}
use Rattle.std.specs.Char.{digit_value}
use Rattle.std.specs.Fmt.{decimal}
use Rattle.std.specs.Str.Parse.{AllDigits}
use Rattle.std.proofs.lemmas.Fmt.{decimal_injective, decimal_is_IsNumeral}
use Rattle.contest_types.specs.VisibleIds.{judgement_id}

no_digit : (sep c : ℕ) → 10 ≤ digit_value sep → sep ≡ c → digit_value c < 10 → ⊥
no_digit sep c large e h =
    let same : digit_value c ≡ digit_value sep = ap digit_value (sym e) in
    omega (arith, same, h, large)

-- digits end at the first byte that is none
at_separator : (sep : ℕ) → 10 ≤ digit_value sep → (ms ns xs ys : List ℕ) → AllDigits 10 ms → AllDigits 10 ns → ms ++ sep ∷ xs ≡ ns ++ sep ∷ ys → (ms ≡ ns) × (xs ≡ ys)
at_separator sep large [] [] xs ys h k e = (refl, cc e)
at_separator sep large [] (n ∷ ns) xs ys h k e = (let same : sep ≡ n = cc e in absurd (no_digit sep n large same k.0))
at_separator sep large (m ∷ ms) [] xs ys h k e = (let same : m ≡ sep = cc e in absurd (no_digit sep m large (sym same) h.0))
at_separator sep large (m ∷ ms) (n ∷ ns) xs ys h k e =
    let same : m ≡ n = cc e in
    let more : ms ++ sep ∷ xs ≡ ns ++ sep ∷ ys = cc e in
    let rest = at_separator sep large ms ns xs ys h.1 k.1 more in
    (rw (same, rest.0) refl, rest.1)

split : (t m r : ℕ) → judgement_id t m r ≡ 115 ∷ (decimal (t + 1) ++ 45 ∷ (decimal m ++ 46 ∷ decimal r))
split t m r = ap (λ ys. 115 ∷ ys) (append_assoc (decimal (t + 1)) (45 ∷ decimal m) (46 ∷ decimal r))

dash : 10 ≤ digit_value 45
dash = let is : digit_value 45 ≡ 36 = refl in omega (arith, is)

dot : 10 ≤ digit_value 46
dot = let is : digit_value 46 ≡ 36 = refl in omega (arith, is)

pub one_submission_id : (t m r u n q : ℕ) → t ≤ 1_000 → m ≤ 1_000 → u ≤ 1_000 → n ≤ 1_000 → judgement_id t m r ≡ judgement_id u n q → (t ≡ u) × (m ≡ n)
one_submission_id t m r u n q lt lm lu ln e =
    let whole : ◌≡◌ {A = List ℕ} (115 ∷ (decimal (t + 1) ++ 45 ∷ (decimal m ++ 46 ∷ decimal r))) (115 ∷ (decimal (u + 1) ++ 45 ∷ (decimal n ++ 46 ∷ decimal q))) = sym (split t m r) ∙ (e ∙ split u n q) in
    let tail : decimal (t + 1) ++ 45 ∷ (decimal m ++ 46 ∷ decimal r) ≡ decimal (u + 1) ++ 45 ∷ (decimal n ++ 46 ∷ decimal q) = cc whole in
    let teams = at_separator 45 dash (decimal (t + 1)) (decimal (u + 1)) _ _ (decimal_is_IsNumeral (t + 1) (omega (arith, lt))).0.1 (decimal_is_IsNumeral (u + 1) (omega (arith, lu))).0.1 tail in
    let numbers = at_separator 46 dot (decimal m) (decimal n) _ _ (decimal_is_IsNumeral m (omega (arith, lm))).0.1 (decimal_is_IsNumeral n (omega (arith, ln))).0.1 teams.1 in
    let next : t + 1 ≡ u + 1 = decimal_injective (t + 1) (u + 1) (omega (arith, lt)) (omega (arith, lu)) teams.0 in
    (omega (arith, next), decimal_injective m n (omega (arith, lm)) (omega (arith, ln)) numbers.0)
