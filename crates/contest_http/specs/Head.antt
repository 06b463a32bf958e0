-- Where the head of a request ends in the bytes that come in (RFC 9112, sections 2.1 and 2.2; a line may end in LF
-- alone).
use Rattle.std.specs.Prelude.{◌≡◌, ◌≤◌, ℕ, zero, suc, Bool, false, ◌||◌, ◌&&◌, ◌==◌, List, [], ◌∷◌, ◌++◌, Option, IfSome, length, if◌then◌else◌}
use Rattle.std.specs.Io.KnownBytes.{Consumes}
use Rattle.contest_types.specs.declared.limits.TheConstants.{REQUEST_HEAD}

-- the bytes begin with an empty line after a line's end: LF LF, or LF CR LF
abbrev pub begins_end : List ℕ → Bool
begins_end (a ∷ b ∷ c ∷ _) = (a == 10) && ((b == 10) || ((b == 13) && (c == 10)))
begins_end (a ∷ b ∷ []) = (a == 10) && (b == 10)
begins_end _ = false

-- the end of a head stands somewhere in the bytes
abbrev pub has_end : List ℕ → Bool
has_end [] = false
has_end (b ∷ bytes) = begins_end (b ∷ bytes) || has_end bytes

-- after `done`, the shortest front of the rest with which the end of a head is there; where there is none, all of the
-- rest, but at most `left` bytes of it
abbrev pub head_from : (left : ℕ) → List ℕ → List ℕ → List ℕ
head_from zero done rest = done
head_from (suc left) done [] = done
head_from (suc left) done (b ∷ rest) =
    if has_end (done ++ b ∷ []) then done ++ b ∷ [] else head_from left (done ++ b ∷ []) rest

-- the front of the input that is taken as its head
abbrev pub head_of : List ℕ → List ℕ
head_of input = head_from REQUEST_HEAD [] input

-- exactly the head of what was left is taken from a reader
pub record TakesHead (old new : Option (List ℕ)) (bytes : List ℕ) : Type 0 where
  pub head : IfSome old (λ left. bytes ≡ head_of left)
  pub taken : Consumes old new bytes

-- a front of that head is taken
pub record TakesHeadPart (old new : Option (List ℕ)) : Type 0 where
  pub bytes : List ℕ
  pub within : IfSome old (λ left. length bytes ≤ length (head_of left))
  pub taken : Consumes old new bytes
