-- A submission's value.
use Rattle.std.proofs.Common.{◌≡◌, ◌∙◌, ◌+◌, ℕ, List, true, refl, sym, ap, Some}
use Rattle.std.proofs.lemmas.Bool.{eq-eqb}
use Rattle.std.specs.Prelude.{◌==◌, Bool, Option, None, if◌then◌else◌}
use Rattle.serde_json.specs.Data.{Data}
use Rattle.contest_types.specs.Sight.{Program, program_for, program_of}
use Rattle.contest_types.specs.State.{FixedPart}
use Rattle.contest_types.specs.declared.audience.Audience.TheVariants as audience
use Rattle.contest_types.specs.declared.submission.Submission.{Submission}
use Rattle.contest_objects.specs.Objects.{submission_data}
use Rattle.contest_postings.specs.PostSubmission.{own_submission}

shown : Submission → List ℕ → Bool → Option Program
shown s file b = if b then Some (program_of (record s { file = file })) else None

-- who submitted is shown the program, as the jury is
pub own_as_jury : (f : FixedPart) (s : Submission) → submission_data f s.team s.number s.time s.problem s.language (program_for audience.Jury s) ≡ own_submission f s
unfolding shown
own_as_jury f s = ap (λ (b : Bool). submission_data f s.team s.number s.time s.problem s.language (shown s s.file b)) (sym (eq-eqb (s.team + 1) (s.team + 1) refl))

-- its file isn't in its value
pub own_filed : (f : FixedPart) (s : Submission) (file : List ℕ) → own_submission f (record s { file = file }) ≡ own_submission f s
unfolding shown
own_filed f s file =
    let by : List ℕ → Bool → Data = λ bytes b. submission_data f s.team s.number s.time s.problem s.language (shown s bytes b) in
    let is : (s.team + 1 == s.team + 1) ≡ true = eq-eqb (s.team + 1) (s.team + 1) refl in
    ap (by file) is ∙ sym (ap (by s.file) is)
