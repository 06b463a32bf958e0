-- The items of JSON arrays.
use Rattle.std.proofs.Common.{◌≡◌, List, [], ◌∷◌, refl, ap}
use Rattle.serde_json.specs.Data.{Data}
use Rattle.serde_json.specs.View.{items_of}
use Rattle.contest_files.specs.JsonMembers.{list_of}

-- the items of an array are the list that made it
pub items_listed : (ds : List Data) → list_of (items_of ds) ≡ ds
items_listed [] = refl
items_listed (d ∷ ds) = ap (λ more. d ∷ more) (items_listed ds)
