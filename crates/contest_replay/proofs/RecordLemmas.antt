-- The fields of a record.
use Rattle.std.proofs.Common.{◌≡◌, List, [], ◌∷◌, Option, Some, None, length, refl, arith}
use Rattle.std.specs.Option.{option_and_then}
use Rattle.csv.specs.Records.{field_at}
use Rattle.contest_files.specs.FieldTexts.{Text}
use Rattle.contest_replay.specs.ReplayRecord.{FiveFields, five_of}

pub five_by : (fs : List Text) (a b c d e : Text) → length fs ≡ 5 → field_at fs 0 ≡ Some a → field_at fs 1 ≡ Some b → field_at fs 2 ≡ Some c → field_at fs 3 ≡ Some d → field_at fs 4 ≡ Some e
    → Some (record { kind = a; id = b; f1 = c; f2 = d; f3 = e }) ≡ five_of fs
unfolding field_at
five_by (v ∷ w ∷ x ∷ y ∷ z ∷ []) a b c d e n f0 f1 f2 f3 f4 =
    let five : Text → Text → Text → Text → Text → Option FiveFields = λ a b c d e. Some (record { kind = a; id = b; f1 = c; f2 = d; f3 = e }) in
    let same : five a b c d e ≡ five v w x y z = cc (f0, f1, f2, f3, f4) in
    same
five_by _ a b c d e n f0 f1 f2 f3 f4 = absurd (omega arith)

pub not_five : (fs : List Text) → (length fs ≡ 5 → ⊥) → None ≡ five_of fs
not_five (v ∷ w ∷ x ∷ y ∷ z ∷ []) n = absurd (n refl)
not_five _ n = refl

-- a record whose last field can't be read says nothing, whatever the three before it are
pub nothing_read : {A B C D : Type 0} (a : Option A) (b : Option B) (c : Option C) → ◌≡◌ {A = Option D} None (option_and_then (λ x. option_and_then (λ y. option_and_then (λ z. None) c) b) a)
nothing_read None b c = refl
nothing_read (Some x) None c = refl
nothing_read (Some x) (Some y) None = refl
nothing_read (Some x) (Some y) (Some z) = refl
