-- Rows that are added one by one.
use Rattle.std.proofs.Common.{◌≡◌, ◌∙◌, List, [], ◌∷◌, ap, ap₂, refl}
use Rattle.std.specs.Prelude.{◌++◌}

three_more : {X : Type 0} (xs : List X) (a b c : X) → ((xs ++ a ∷ []) ++ b ∷ []) ++ c ∷ [] ≡ xs ++ a ∷ b ∷ c ∷ []
three_more [] a b c = refl
three_more (x ∷ xs) a b c = ap (λ ys. x ∷ ys) (three_more xs a b c)

-- three rows, each of which is this one
pub three_pushed : {X : Type 0} (before one two all : List X) (a b c a' b' c' : X) → one ≡ before ++ a ∷ [] → two ≡ one ++ b ∷ [] → all ≡ two ++ c ∷ []
    → a ≡ a' → b ≡ b' → c ≡ c' → all ≡ before ++ a' ∷ b' ∷ c' ∷ []
three_pushed {X} before one two all a b c a' b' c' first second third is_a is_b is_c =
    let with : List X → X → List X = λ ys y. ys ++ y ∷ [] in
    third ∙ ap₂ with (second ∙ ap₂ with (first ∙ ap (with before) is_a) is_b) is_c ∙ three_more before a' b' c'
