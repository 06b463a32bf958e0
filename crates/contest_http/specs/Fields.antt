-- The fields of a head by their names, which are compared without case (RFC 9110, section 5.1).
use Rattle.std.specs.Prelude.{◌≡◌, ◌&&◌, ℕ, Bool, List, [], ◌∷◌, map, filter}
use Rattle.std.specs.List.{list_any}
use Rattle.std.specs.Str.{str_eq_ignore_ascii_case}
use Rattle.contest_http.specs.declared.fields.Found.{Found}
use Rattle.contest_http.specs.declared.fields.Found.TheVariants.{Nowhere, Once, Often}

-- a field's name, and its value without the white space around it
abbrev pub FieldText : Type 0
FieldText = List ℕ × List ℕ

abbrev pub is_named : List ℕ → FieldText → Bool
is_named name field = str_eq_ignore_ascii_case field.0 name

-- the values of the fields of that name, in order
abbrev pub values : List ℕ → List FieldText → List (List ℕ)
values name fields = map (λ (f : FieldText). f.1) (filter (is_named name) fields)

-- some field of that name has that value, in any case
abbrev pub has_value : List ℕ → List ℕ → List FieldText → Bool
has_value name value fields = list_any (λ (f : FieldText). is_named name f && str_eq_ignore_ascii_case f.1 value) fields

-- how often a name stands, and its value if once
abbrev pub IsFound : List (List ℕ) → Found → Type 0
IsFound all Nowhere = all ≡ []
IsFound all (Once value) = all ≡ value.now ∷ []
IsFound all Often = (a : List ℕ) × (b : List ℕ) × (rest : List (List ℕ)) × (all ≡ a ∷ b ∷ rest)
