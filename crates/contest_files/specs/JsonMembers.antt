-- Reading the members of a JSON object (RFC 8259; an id and a name are own). A member that isn't asked for
-- is ignored.
use Rattle.std.specs.Prelude.{ℕ, Bool, false, List, [], ◌∷◌, Option, Some, None, is_some, nat_le, if◌then◌else◌}
use Rattle.std.specs.Option.{option_map, option_and_then}
use Rattle.std.specs.Str.{is_utf8}
use Rattle.serde_json.specs.Data.{Data, Items, no_items, item}
use Rattle.serde_json.specs.Read.{read}
use Rattle.serde_json.specs.Find.{get, as_array, as_bool, as_null, as_number, as_str, as_u64}
use Rattle.contest_types.specs.IdText.{id_of}
use Rattle.contest_types.specs.NameText.{name_of}

-- the value that bytes are, if they are the text of one
unfoldable pub data_of : List ℕ → Option Data
data_of bytes = if is_utf8 bytes then read bytes else None

-- a member that is a text
abbrev pub text_in : List ℕ → Data → Option (List ℕ)
text_in name d = option_and_then as_str (get name d)

abbrev pub unless_null : Data → Option Data
unless_null d = if is_some (as_null d) then None else Some d

-- a member that is there and not null
abbrev pub present_in : List ℕ → Data → Option Data
present_in name d = option_and_then unless_null (get name d)

-- a member that need not be there
abbrev pub optional : {A : Type 0} → (Data → Option (Option A)) → Option Data → Option (Option A)
optional reads None = Some None
optional reads (Some d) = reads d

-- one that has a usual value where it isn't there
abbrev pub or_usual : {A : Type 0} → A → (Data → Option A) → Option Data → Option A
or_usual usual reads None = Some usual
or_usual usual reads (Some d) = reads d

-- a member that is an id
abbrev pub id_in : List ℕ → Data → Option (List ℕ)
id_in name d = option_and_then id_of (text_in name d)

-- an id that need not be there
abbrev pub optional_id_in : List ℕ → Data → Option (Option (List ℕ))
optional_id_in name d = optional (λ v. option_map Some (option_and_then id_of (as_str v))) (present_in name d)

-- a member that is a name
abbrev pub name_in : List ℕ → Data → Option (List ℕ)
name_in name d = option_and_then name_of (text_in name d)

-- a member that is true or false
abbrev pub flag_in : List ℕ → Data → Option Bool
flag_in name d = option_and_then as_bool (get name d)

-- one that is false where it isn't there
abbrev pub flag_or_false : List ℕ → Data → Option Bool
flag_or_false name d = or_usual false as_bool (present_in name d)

-- a whole number up to a limit: written without sign, point and exponent
abbrev pub number_to : (most : ℕ) → Data → Option ℕ
number_to most d = option_and_then (λ n. if nat_le n most then Some n else None) (option_and_then as_u64 (as_number d))

-- a member that is one
abbrev pub number_in : (most : ℕ) → List ℕ → Data → Option ℕ
number_in most name d = option_and_then (number_to most) (get name d)

-- one that has a usual value where it isn't there
abbrev pub number_or : (usual most : ℕ) → List ℕ → Data → Option ℕ
number_or usual most name d = or_usual usual (number_to most) (present_in name d)

-- the one item of an array
abbrev pub only_item : Items → Option Data
only_item no_items = None
only_item (item d no_items) = Some d
only_item (item d (item e ds)) = None

-- the items of an array, in order
abbrev pub list_of : Items → List Data
list_of no_items = []
list_of (item d ds) = d ∷ list_of ds

-- the items of the array that bytes are the text of
abbrev pub items_in : List ℕ → Option (List Data)
items_in bytes = option_map list_of (option_and_then as_array (data_of bytes))
