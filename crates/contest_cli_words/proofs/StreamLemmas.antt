-- Streams that were read too far, or not touched.
use Rattle.std.proofs.Common.{◌≡◌, ◌<◌, ◌+◌, ◌++◌, ap, ℕ, List, length, length-append, arith}

pub is_longer : (left taken rest : List ℕ) (m : ℕ) → left ≡ taken ++ rest → length taken ≡ m + 1 → m < length left
is_longer left taken rest m e n = omega (arith, ap length e, length-append taken rest)
