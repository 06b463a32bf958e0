-- Only the last bytes matter for an end that a new byte makes.
use Rattle.std.proofs.Common.{◌≡◌, ◌-◌, ◌++◌, ◌∷◌, [], refl, ℕ, suc, List, length, drop, arith, false}
use Rattle.contest_http.specs.Head.{begins_end, has_end}
use Rattle.contest_types.proofs.PlaceLemmas.{or_left, or_right}

pub has_end-last : (bytes : List ℕ) (x : ℕ) → has_end bytes ≡ false
    → has_end (bytes ++ x ∷ []) ≡ has_end (drop (length bytes - 2) (bytes ++ x ∷ []))
has_end-last [] x e = refl
has_end-last (a ∷ []) x e = refl
has_end-last (a ∷ b ∷ []) x e = refl
has_end-last (a ∷ b ∷ c ∷ t) x e =
    let here : begins_end (a ∷ b ∷ c ∷ t) ≡ false = or_left _ _ e in
    let later : has_end (b ∷ c ∷ t) ≡ false = or_right (begins_end (a ∷ b ∷ c ∷ t)) _ e in
    let more = has_end-last (b ∷ c ∷ t) x later in
    let size : length (a ∷ b ∷ c ∷ t) - 2 ≡ suc (length (b ∷ c ∷ t) - 2) = omega arith in
    rw (size, here) more
