-- The number that digits write.
use Rattle.std.proofs.Common.{◌≡◌, ◌≤◌, Some, None, refl}
use Rattle.std.specs.Str.Parse.{IsNumeral, digits_value}
use Rattle.contest_types.proofs.NumeralLemmas.{writes_none, writes_one}
use Rattle.contest_files.specs.FieldTexts.{Text, ordinal_of}

-- an ordinal is the number that its digits write
pub ordinal_none : (field : Text) → (IsNumeral 10 field × (digits_value 10 field ≤ 65_535) → ⊥) → None ≡ ordinal_of field
ordinal_none field h = rw (writes_none 65_535 field h) refl

pub ordinal_some : (field : Text) → IsNumeral 10 field → digits_value 10 field ≤ 65_535 → Some (digits_value 10 field) ≡ ordinal_of field
ordinal_some field n l = rw (writes_one 65_535 field n l) refl
