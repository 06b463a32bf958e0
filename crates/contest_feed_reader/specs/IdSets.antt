-- The ids of a collection as a set. Words of private functions: nothing public is said with them.
use Rattle.std.specs.Prelude.{ℕ, ◌≡◌, Bool, List}
use Rattle.std.specs.Borrow.{Bor}
use Rattle.std.specs.HashSet.{HashSet, contains_by}
use Rattle.std.specs.Str.{bytes_eq}
use Rattle.contest_types.specs.Places.{is_among}

-- a text is one of a set
abbrev pub is_in_set : {H : Type 0} → HashSet (Bor (List ℕ)) H → List ℕ → Bool
is_in_set ids text = contains_by (λ id. bytes_eq text id.now) ids

-- the set is of these texts
abbrev pub IsIdSet : {H : Type 0} → HashSet (Bor (List ℕ)) H → List (List ℕ) → Type 0
IsIdSet ids texts = (text : List ℕ) → is_in_set ids text ≡ is_among texts text
