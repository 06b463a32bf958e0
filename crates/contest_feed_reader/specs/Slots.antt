-- The slots in which a collection keeps its rows. Words of private functions: nothing public is said with them.
use Rattle.std.specs.Prelude.{ℕ, ◌≡◌, List, [], ◌∷◌, Option, Some, None, slice_get}
use Rattle.std.specs.Cmp.Lexicographic.{pointwise}
use Rattle.std.specs.Prelude.{nat_eq}
use Rattle.std.specs.Global.{Vec}
use Rattle.std.specs.HashMap.{HashMap, get_by}
use Rattle.contest_feed_reader.specs.declared.row.Row.{Row}

-- what stands in the slots that aren't empty
abbrev pub standing : {A : Type 0} → List (Option A) → List A
standing [] = []
standing (None ∷ slots) = standing slots
standing (Some row ∷ slots) = row ∷ standing slots

-- the slot that a map has for an id
abbrev pub slot_of : {H : Type 0} → List ℕ → HashMap (Vec ℕ) ℕ H → Option ℕ
slot_of id places = get_by (λ k. pointwise nat_eq id k.items) places

-- a row with this id is in the slot
abbrev pub Holds : {A : Type 0} → List ℕ → Option (Option (Row A)) → Type 0
Holds id None = ⊥
Holds id (Some None) = ⊥
Holds id (Some (Some row)) = row.id ≡ id

-- the map has the slot of each row, and nothing else
pub record IsSlotted {A H : Type 0} (slots : List (Option (Row A))) (places : HashMap (Vec ℕ) ℕ H) : Type 0 where
  pub known : (i : ℕ) (row : Row A) → slice_get slots i ≡ Some (Some row) → slot_of row.id places ≡ Some i
  pub held : (id : List ℕ) (i : ℕ) → slot_of id places ≡ Some i → Holds id (slice_get slots i)
