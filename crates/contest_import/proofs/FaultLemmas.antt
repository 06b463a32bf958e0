-- The fault of a record refuses the file.
use Rattle.std.proofs.Common.{◌≡◌, ℕ, Result, subst}
use Rattle.contest_types.specs.declared.refusal.Cause.{Cause}
use Rattle.contest_types.specs.declared.refusal.Refusal.{Refusal}
use Rattle.contest_files.specs.Refused.{Refuses}
use Rattle.contest_import.specs.RowAdditions.{Additions, rows_or_refusal}

-- what refuses the records to come refuses all of them
pub refused_from : (e : Refusal) (here whole : Result Additions (ℕ × Cause)) → here ≡ whole → Refuses e (rows_or_refusal here) → Refuses e (rows_or_refusal whole)
refused_from e here whole same refused = subst (λ x. Refuses e (rows_or_refusal x)) same refused
