-- A body of a known length (RFC 9112, section 6.2).
use Rattle.std.specs.Prelude.{◌≡◌, ◌≤◌, ◌<◌, ℕ, List, [], Option, Some, None, length, drop, take}
use Rattle.std.specs.Io.KnownBytes.{Consumes}

-- so many of the bytes that were left are the body; none where fewer were left, and then all are taken
abbrev pub TakesBody : List ℕ → List ℕ → ℕ → Option (List ℕ) → Type 0
TakesBody input left size None = (length input < size) × (left ≡ [])
TakesBody input left size (Some body) = (size ≤ length input) × (body ≡ take size input) × (left ≡ drop size input)

-- a front of the body is taken
pub record TakesBodyPart (old new : Option (List ℕ)) (size : ℕ) : Type 0 where
  pub bytes : List ℕ
  pub within : length bytes ≤ size
  pub taken : Consumes old new bytes
