-- Texts pushed one behind the other.
use Rattle.std.proofs.Common.{ℕ, ◌≡◌, List, ◌++◌, append_assoc}

pub joined : (o a b c d e o1 o2 o3 o4 o5 : List ℕ) → o1 ≡ o ++ a → o2 ≡ o1 ++ b → o3 ≡ o2 ++ c → o4 ≡ o3 ++ d → o5 ≡ o4 ++ e → o5 ≡ o ++ (a ++ b ++ c ++ d ++ e)
joined o a b c d e o1 o2 o3 o4 o5 e1 e2 e3 e4 e5 = rw (e5, e4, e3, e2, e1) (simp append_assoc)
