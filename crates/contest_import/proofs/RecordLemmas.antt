-- The fields of a record.
use Rattle.std.proofs.Common.{◌≡◌, List, [], ◌∷◌, Option, Some, None, length, refl, arith}
use Rattle.csv.specs.Records.{field_at}
use Rattle.contest_files.specs.FieldTexts.{Text}
use Rattle.contest_import.specs.CsvFiles.{FourFields, four_of}

pub four_by : (fs : List Text) (a b c d : Text) → length fs ≡ 4 → field_at fs 0 ≡ Some a → field_at fs 1 ≡ Some b → field_at fs 2 ≡ Some c → field_at fs 3 ≡ Some d
    → Some (record { first = a; second = b; third = c; fourth = d }) ≡ four_of fs
unfolding field_at
four_by (v ∷ w ∷ x ∷ y ∷ []) a b c d n f0 f1 f2 f3 =
    let four : Text → Text → Text → Text → Option FourFields = λ a b c d. Some (record { first = a; second = b; third = c; fourth = d }) in
    let same : four a b c d ≡ four v w x y = cc (f0, f1, f2, f3) in
    same
four_by _ a b c d n f0 f1 f2 f3 = absurd (omega arith)

pub not_four : (fs : List Text) → (length fs ≡ 4 → ⊥) → None ≡ four_of fs
not_four (v ∷ w ∷ x ∷ y ∷ []) n = absurd (n refl)
not_four _ n = refl
