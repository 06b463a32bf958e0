-- What a post adds, if it adds anything.
use Rattle.std.proofs.Common.{◌≡◌, ◌∙◌, ◌+◌, ℕ, true, List, [], ◌∷◌, length, Result, Ok, Err, refl, ap, inl, inr}
use Rattle.std.specs.Prelude.{◌⊎◌, ◌&&◌}
use Rattle.contest_types.specs.Addable.{is_addable, are_addable}
use Rattle.contest_types.specs.State.{ContestState, submissions_of}
use Rattle.contest_types.specs.Valid.{is_valid}
use Rattle.contest_types.specs.declared.entry.Entry.{Entry}
use Rattle.contest_types.specs.declared.entry.Entry.TheVariants.{NewSubmission}
use Rattle.contest_types.specs.declared.submission.Submission.{Submission}
use Rattle.contest_rules.specs.Submitting.{so_far, submit}
use Rattle.contest_rules.specs.declared.decision.Decision.{Decision}
use Rattle.contest_rules.specs.declared.decision.Decision.TheVariants.{Add, Stands}
use Rattle.contest_rules.specs.declared.submitting.WantedSubmission.{WantedSubmission}
use Rattle.contest_rules.proofs.TakenLemmas.{taken, submitted_is_addable}
use Rattle.contest_rules.specs.declared.rule_refusal.RuleRefusal.{RuleRefusal}
use Rattle.contest_operations.specs.Outcomes.{done_or_ruled}
use Rattle.contest_operations.specs.PostedSubmissions.{IsSoundSubmission, submission_outcome}
use Rattle.contest_postings.specs.PostSubmission.{decision_entries, decision_object}

-- nothing, or a team's next submission, which may be added
pub record Adds (x : ContestState) (team : ℕ) (es : List Entry) : Type 0 where
  pub submission : Submission
  pub are : es ≡ NewSubmission submission ∷ []
  pub own : submission.team ≡ team
  pub next : submission.number ≡ length (submissions_of team x.submissions) + 1
  pub addable : is_addable x (NewSubmission submission) ≡ true

abbrev pub AddsAtMost : ContestState → ℕ → List Entry → Type 0
AddsAtMost x team es = (es ≡ []) ⊎ Adds x team es

decided_adds : (x : ContestState) (now team : ℕ) (w : WantedSubmission) (r : Result (Decision Submission Submission) RuleRefusal) → is_valid x ≡ true → IsSoundSubmission x.fixed team w
    → submit x.fixed now team (so_far w.key (submissions_of team x.submissions)) w ≡ r → AddsAtMost x team (done_or_ruled (decision_object x.fixed) decision_entries r).entries
decided_adds x now team w (Ok (Add s)) valid sound is =
    let t = taken x.fixed now team (so_far w.key (submissions_of team x.submissions)) w s is in
    inr (record { submission = s; are = refl; own = ap (λ (r : Submission). r.team) t.is; next = ap (λ (r : Submission). r.number) t.is; addable = submitted_is_addable x now team w s valid sound.0 sound.1 is })
decided_adds x now team w (Ok (Stands s)) valid sound is = inl refl
decided_adds x now team w (Err refusal) valid sound is = inl refl

pub deciding_adds : (x : ContestState) (now team : ℕ) (w : WantedSubmission) → is_valid x ≡ true → IsSoundSubmission x.fixed team w → AddsAtMost x team (submission_outcome now team w x).entries
deciding_adds x now team w valid sound = decided_adds x now team w (submit x.fixed now team (so_far w.key (submissions_of team x.submissions)) w) valid sound refl

pub adds_addable : (x : ContestState) (team : ℕ) (es : List Entry) → AddsAtMost x team es → are_addable x es ≡ true
adds_addable x team es (inl none) = ap (are_addable x) none
adds_addable x team es (inr adds) = ap (are_addable x) adds.are ∙ ap (λ b. b && true) adds.addable
