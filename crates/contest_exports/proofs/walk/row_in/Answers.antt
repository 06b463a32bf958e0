use Rattle.std.proofs.Common.{◌∙◌, Some, ap, sym}
use Rattle.std.specs.Option.{option_map}
use Rattle.contest_types.specs.declared.submission.Submission.{Submission}
use Rattle.contest_exports.proofs.WalkRows.{no_file, no_row, row_is}
use Rattle.contest_exports.proofs.walk.row_in.Goals as goal
use Rattle.contest_exports.proofs.walk.row_in.Goals.{in_default-via-in-Some+in_default, in_default-via-in_default}

pub returns-in_ok-row-in-Some-Some : goal.returns-in_ok-row-in-Some-Some
returns-in_ok-row-in-Some-Some c = λ x valid are files.
    let row = c.in-Some-Some.submission.now in
    let rows = ap (option_map (λ s. s.now)) (sym c.in-Some-Some.is-0) ∙ c.submission_at.ensures x valid are in
    ap (λ (s : Submission). Some (record s { file = c.in-Some-Some.file })) c.in_ok-row-in-Some-Some.ensures ∙ row_is x c.args.numbers row c.in-Some-Some.file rows (sym c.in-Some-Some.is-1 ∙ files)

pub returns-in_default : goal.returns-in_default
returns-in_default c = λ x valid are files.
    elim c.in_default.branch [
      | in_default-via-in-Some+in_default w ↦ no_file x c.args.numbers (sym w.in_default.is-1 ∙ files)
      | in_default-via-in_default w ↦ no_row x c.args.numbers (ap (option_map (λ s. s.now)) (sym w.in_default.is-0) ∙ c.submission_at.ensures x valid are)
    ]
