-- Reading the ids in a JSON array (RFC 8259; an id is own).
use Rattle.std.specs.Prelude.{ℕ, Bool, List, map, Option}
use Rattle.std.specs.Borrow.{Bor}
use Rattle.std.specs.HashSet.{HashSet, contains}
use Rattle.std.specs.Option.{option_and_then}
use Rattle.std.specs.Str.{bytes_eq}
use Rattle.serde_json.specs.Data.{Data}
use Rattle.serde_json.specs.Find.{as_array, as_str}
use Rattle.contest_types.specs.IdText.{id_of}
use Rattle.contest_types.specs.Options.{all_some}
use Rattle.contest_files.specs.JsonMembers.{list_of}

-- an item that is an id
abbrev pub id_item : Data → Option (List ℕ)
id_item d = option_and_then id_of (as_str d)

-- the ids in an array, in its order, if all its items are ids
abbrev pub ids_in : Data → Option (List (List ℕ))
ids_in d = option_and_then (λ items. all_some (map id_item (list_of items))) (as_array d)

-- an id is one of a set of texts
abbrev pub is_seen : {H : Type 0} → HashSet (Bor (List ℕ)) H → Bor (List ℕ) → Bool
is_seen seen id = contains (λ i j. bytes_eq i.now j.now) seen id
