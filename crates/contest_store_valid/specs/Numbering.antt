-- Which of those equal to it each key of a list is (own).
use Rattle.std.specs.Prelude.{ℕ, ◌+◌, Bool, List, [], ◌∷◌, ◌++◌, count_by}

-- for each key one more than how many of those before it are the same
abbrev pub numbered_after : {K : Type 0} → (K → K → Bool) → (before keys : List K) → List ℕ
numbered_after same before [] = []
numbered_after same before (k ∷ ks) = (count_by (λ j. same j k) before + 1) ∷ numbered_after same (before ++ k ∷ []) ks

-- for each key which of those that are the same it is, counted from 1
abbrev pub numbered : {K : Type 0} → (K → K → Bool) → List K → List ℕ
numbered same keys = numbered_after same [] keys
