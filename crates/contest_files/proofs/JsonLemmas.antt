-- Readings that give no value.
use Rattle.std.proofs.Common.{◌≡◌, ℕ, List, [], ◌∷◌, length, Bool, true, false, None, IsNone, map, refl}
use Rattle.std.specs.Str.{is_utf8, IsUtf8}
use Rattle.std.proofs.lemmas.Str.{is_utf8-from_IsUtf8, IsUtf8-from_is_utf8}
use Rattle.serde_json.specs.Read.{read}
use Rattle.serde_json.specs.View.{view, items_of}
use Rattle.serde_json.specs.declared.value.Value.{Value}
use Rattle.contest_files.specs.JsonMembers.{data_of, only_item}

-- a text is read
pub data_of_text : (bytes : List ℕ) → IsUtf8 bytes → data_of bytes ≡ read bytes
unfolding data_of
data_of_text bytes text = rw (is_utf8-from_IsUtf8 bytes text) refl

data_of_none_at : (bytes : List ℕ) (b : Bool) → is_utf8 bytes ≡ b → (IsUtf8 bytes → read bytes ≡ None) → IsNone (data_of bytes)
unfolding data_of
data_of_none_at bytes true is none = rw (is, none (IsUtf8-from_is_utf8 bytes is)) refl
data_of_none_at bytes false is none = rw is refl

-- bytes that are no text, or no JSON
pub data_of_none : (bytes : List ℕ) → (IsUtf8 bytes → read bytes ≡ None) → IsNone (data_of bytes)
data_of_none bytes none = data_of_none_at bytes (is_utf8 bytes) refl none

-- no one item
pub only_item-none : (vs : List Value) → (length vs ≡ 1 → ⊥) → only_item (items_of (map view vs)) ≡ None
only_item-none [] other = refl
only_item-none (v ∷ []) other = absurd (other refl)
only_item-none (v ∷ w ∷ vs) other = refl
