-- The five fields of a replay's record.
use Rattle.std.specs.Prelude.{List, [], ◌∷◌, Option, Some, None}
use Rattle.contest_files.specs.FieldTexts.{Text}

-- the five fields of a record, in the order of the header `kind,id,f1,f2,f3`
pub record FiveFields : Type 0 where
  pub kind : Text
  pub id : Text
  pub f1 : Text
  pub f2 : Text
  pub f3 : Text

-- the fields of a record that has five
abbrev pub five_of : List Text → Option FiveFields
five_of (a ∷ b ∷ c ∷ d ∷ e ∷ []) = Some (record { kind = a; id = b; f1 = c; f2 = d; f3 = e })
five_of _ = None
