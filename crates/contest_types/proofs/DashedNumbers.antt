-- Two numbers with a `-` between them tell both.
use Rattle.std.proofs.Common.{◌≡◌, ℕ, ◌<◌, List, [], ◌∷◌, ◌++◌, length, refl, sym, ap, ◌∙◌, arith}
use Rattle.std.specs.Prelude.{◌^◌}
use Rattle.std.specs.Char.{digit_value}
use Rattle.std.specs.Fmt.{decimal}
use Rattle.std.specs.Str.Parse.{AllDigits}
use Rattle.std.proofs.lemmas.Fmt.{decimal_injective, decimal_is_IsNumeral, decimal_nonempty}

no_digit : (c : ℕ) → 45 ≡ c → digit_value c < 10 → ⊥
no_digit c e h =
    let dash : digit_value 45 ≡ 36 = refl in
    let same : digit_value c ≡ 36 = ap digit_value (sym e) ∙ dash in
    omega (arith, same, h)

-- digits end at the first `-`
at_dash : (ms ns xs ys : List ℕ) → AllDigits 10 ms → AllDigits 10 ns → ms ++ 45 ∷ xs ≡ ns ++ 45 ∷ ys → (ms ≡ ns) × (xs ≡ ys)
at_dash [] [] xs ys h k e = (refl, cc e)
at_dash [] (n ∷ ns) xs ys h k e = (let same : 45 ≡ n = cc e in absurd (no_digit n same k.0))
at_dash (m ∷ ms) [] xs ys h k e = (let same : 45 ≡ m = cc e in absurd (no_digit m same h.0))
at_dash (m ∷ ms) (n ∷ ns) xs ys h k e =
    let same : m ≡ n = cc e in
    let more : ms ++ 45 ∷ xs ≡ ns ++ 45 ∷ ys = cc e in
    let rest = at_dash ms ns xs ys h.1 k.1 more in
    (rw (same, rest.0) refl, rest.1)

pub dashed : (t m u n : ℕ) → t < 2 ^ 64 → m < 2 ^ 64 → u < 2 ^ 64 → n < 2 ^ 64 → decimal t ++ 45 ∷ decimal m ≡ decimal u ++ 45 ∷ decimal n → (t ≡ u) × (m ≡ n)
dashed t m u n lt lm lu ln e =
    let both = at_dash (decimal t) (decimal u) (decimal m) (decimal n) (decimal_is_IsNumeral t lt).0.1 (decimal_is_IsNumeral u lu).0.1 e in
    (decimal_injective t u lt lu both.0, decimal_injective m n lm ln both.1)

-- a number has a digit before its `-`
pub undashed : (t : ℕ) (xs ys : List ℕ) → t < 2 ^ 64 → 45 ∷ xs ≡ decimal t ++ 45 ∷ ys → ⊥
undashed t xs ys lt e =
    let both = at_dash [] (decimal t) xs ys tt (decimal_is_IsNumeral t lt).0.1 e in
    omega (arith, ap length both.0, decimal_nonempty t lt)
