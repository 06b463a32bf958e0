-- How the fault of a record refuses a file.
-- Words of private functions: nothing public is said with them.
use Rattle.std.specs.Prelude.{ℕ}
use Rattle.contest_types.specs.declared.refusal.Refusal.{Refusal}
use Rattle.contest_types.specs.declared.refusal.Refusal.TheVariants.{ImportRow, Memory as no_memory}
use Rattle.contest_types.specs.declared.refusal.RowFault.{RowFault}
use Rattle.contest_types.specs.declared.refusal.RowFault.TheVariants.{Fault, Memory}

-- the refusal of a file whose record with this number is at fault
abbrev pub refusal_at : ℕ → RowFault → Refusal
refusal_at n (Fault cause) = ImportRow n cause
refusal_at n Memory = no_memory
