-- Numbers one after another.
use Rattle.std.proofs.Common.{◌≡◌, ℕ, suc, ◌+◌, List, ◌∷◌}
use Rattle.std.specs.List.{range_with_len}

pub first_is : (n k m : ℕ) (ns : List ℕ) → n ∷ ns ≡ range_with_len k (suc m) → n ≡ k
first_is n k m ns e = cc e

pub rest_is : (n k m : ℕ) (ns : List ℕ) → n ∷ ns ≡ range_with_len k (suc m) → ns ≡ range_with_len (k + 1) m
rest_is n k m ns e = cc e
