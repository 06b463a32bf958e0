-- Ids are ASCII.
use Rattle.std.proofs.Common.{◌≡◌, ℕ, zero, suc, ◌<◌, true, List, [], ◌∷◌, None, refl, inl, inr, arith}
use Rattle.std.specs.List.{list_all}
use Rattle.std.specs.Str.{IsUtf8, IsAscii}
use Rattle.std.proofs.lemmas.Bool.{cases_Bool}
use Rattle.std.proofs.lemmas.Bool.Decides.{nat_tests}
use Rattle.std.proofs.lemmas.Str.{IsUtf8-from_ascii}
use Rattle.contest_types.specs.IdText.{is_id_byte, is_id, id_of}
use Rattle.contest_types.proofs.PlaceLemmas.{and_left, and_right}

id_byte_ascii : (b : ℕ) → is_id_byte b ≡ true → b < 128
id_byte_ascii b h = grind (arith, nat_tests)

all_ascii : (bs : List ℕ) → list_all is_id_byte bs ≡ true → IsAscii bs
all_ascii [] h i = omega arith
all_ascii (b ∷ bs) h zero = id_byte_ascii b (and_left _ _ h)
all_ascii (b ∷ bs) h (suc k) = all_ascii bs (and_right (is_id_byte b) _ h) k

-- an id is ASCII
pub id_ascii : (bs : List ℕ) → is_id bs ≡ true → IsAscii bs
id_ascii bs h = all_ascii bs (and_right _ _ h)

-- what isn't UTF-8 is no id
pub no_id : (bs : List ℕ) → (IsUtf8 bs → ⊥) → id_of bs ≡ None
no_id bs bad = elim (cases_Bool (is_id bs)) [
  | inl yes_id ↦ absurd (bad (IsUtf8-from_ascii bs (id_ascii bs yes_id)))
  | inr not_id ↦ rw not_id refl
]
