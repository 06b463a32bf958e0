-- The lines that tell of a refusal.
use Rattle.std.specs.Prelude.{ℕ, List, [], ◌++◌, codes}
use Rattle.std.specs.Fmt.{decimal}
use Rattle.contest_types.specs.Refusals.{number_of, refusal_name, cause_name}
use Rattle.contest_types.specs.declared.refusal.Refusal.{Refusal}
use Rattle.contest_types.specs.declared.refusal.Refusal.TheVariants.{ImportRow}

-- what stands behind the name: a record's number and its cause
abbrev pub detail_of : Refusal → List ℕ
detail_of (ImportRow number cause) = codes " " ++ decimal number ++ codes " " ++ cause_name cause
detail_of _ = []

-- `refused: E<number> <name>`
abbrev pub refusal_line : Refusal → List ℕ
refusal_line r =
    codes "refused: E" ++ decimal (number_of r) ++ codes " " ++ refusal_name r ++ detail_of r ++ codes "\n"
