-- The fields of a record.
use Rattle.std.proofs.Common.{ℕ, zero, suc, ◌≡◌, ◌<◌, List, [], ◌∷◌, None, length, arith}
use Rattle.csv.specs.Records.{field_at}
use Rattle.contest_files.specs.FieldTexts.{Text}

-- a field is there at each place up to the last
pub field_there : (fs : List Text) (i : ℕ) → i < length fs → field_at fs i ≡ None → ⊥
unfolding field_at
field_there [] i l e = omega (arith, l)
field_there (f ∷ fs) zero l e = cc e
field_there (f ∷ fs) (suc i) l e = field_there fs i (omega (arith, l)) e
