-- The fields of a record.
use Rattle.std.proofs.Common.{◌≡◌, List, [], ◌∷◌, Option, Some, None, length, refl, arith}
use Rattle.csv.specs.Records.{field_at}
use Rattle.contest_files.specs.FieldTexts.{Text}
use Rattle.contest_import_verdicts.specs.VerdictFiles.{TwoFields, two_of}

pub two_by : (fs : List Text) (a b : Text) → length fs ≡ 2 → field_at fs 0 ≡ Some a → field_at fs 1 ≡ Some b → Some (record { first = a; second = b }) ≡ two_of fs
unfolding field_at
two_by (v ∷ w ∷ []) a b n f0 f1 =
    let two : Text → Text → Option TwoFields = λ a b. Some (record { first = a; second = b }) in
    let same : two a b ≡ two v w = cc (f0, f1) in
    same
two_by _ a b n f0 f1 = absurd (omega arith)

pub not_two : (fs : List Text) → (length fs ≡ 2 → ⊥) → None ≡ two_of fs
not_two (v ∷ w ∷ []) n = absurd (n refl)
not_two _ n = refl
