-- What holds of every walk and every export, in the subject's words. Each is the contract of a function of src/laws.rt.
use Rattle.std.specs.Prelude.{◌≡◌, ◌↔◌, ◌∷◌, true, length, map}
use Rattle.std.specs.Ordering.{is_lt}
use Rattle.csv.specs.Reading.{default_config, records_from}
use Rattle.csv.specs.declared.parser.State.TheVariants as reading
use Rattle.contest_types.specs.Order.{Has, IsInOrder}
use Rattle.contest_types.specs.State.{ContestState}
use Rattle.contest_types.specs.Valid.{is_valid}
use Rattle.contest_types.specs.declared.submission.Submission.{Submission}
use Rattle.contest_view.specs.Rows.{row_cmp}
use Rattle.contest_exports.specs.SubmissionsCsv.{fields_of, header_fields, submissions_csv}
use Rattle.contest_exports.specs.Walks.{all_in_order}

-- each submission of a contest is given, and nothing else; each comes after those before it, so none is given twice
abbrev pub GivesEachOnce : Type 0
GivesEachOnce =
    (x : ContestState) → is_valid x ≡ true
    → ((s : Submission) → Has x.submissions s ↔ Has (all_in_order x) s) × IsInOrder (λ s t. is_lt (row_cmp x.fixed.settings s t)) (all_in_order x)

-- read as CSV, an export is its header and a record for each submission, field by field
abbrev pub ReadsBack : Type 0
ReadsBack =
    (x : ContestState) → records_from default_config (length (header_fields ∷ map (fields_of x) (all_in_order x))) reading.StartRecord (submissions_csv x) ≡ header_fields ∷ map (fields_of x) (all_in_order x)
