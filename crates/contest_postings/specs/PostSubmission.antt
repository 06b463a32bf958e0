-- A team submits (Contest API 2023-06, submissions). It is a function of the fixed part and of the team's
-- own submissions, and of nothing else.
use Rattle.std.specs.Prelude.{ℕ, List, [], ◌∷◌, Result}
use Rattle.serde_json.specs.Data.{Data}
use Rattle.contest_types.specs.Masks.{audience_at}
use Rattle.contest_types.specs.State.{FixedPart, ContestState, submissions_of}
use Rattle.contest_types.specs.declared.entry.Entry.{Entry}
use Rattle.contest_types.specs.declared.entry.Entry.TheVariants.{NewSubmission}
use Rattle.contest_types.specs.Sight.{program_for}
use Rattle.contest_types.specs.declared.submission.Submission.{Submission}
use Rattle.contest_objects.specs.Objects.{submission_data}
use Rattle.contest_rules.specs.declared.decision.Decision.{Decision}
use Rattle.contest_rules.specs.declared.decision.Decision.TheVariants.{Add, Stands}
use Rattle.contest_rules.specs.declared.rule_refusal.RuleRefusal.{RuleRefusal}
use Rattle.contest_rules.specs.declared.submitting.WantedSubmission.{WantedSubmission}
use Rattle.contest_rules.specs.Submitting.{so_far, submit}
use Rattle.contest_postings.specs.DoneThings.{Done, done_as}

-- a submission as its own team sees it
abbrev pub own_submission : FixedPart → Submission → Data
own_submission f s = submission_data f s.team s.number s.time s.problem s.language (program_for (audience_at s.team) s)

-- one that is added and one that stands are answered alike
abbrev pub decision_object : FixedPart → Decision Submission Submission → Data
decision_object f (Add s) = own_submission f s
decision_object f (Stands s) = own_submission f s

abbrev pub decision_entries : Decision Submission Submission → List Entry
decision_entries (Add s) = NewSubmission s ∷ []
decision_entries (Stands s) = []

-- what becomes of what a team asks for, of its own submissions
abbrev pub done_of_own : FixedPart → (now team : ℕ) → List Submission → WantedSubmission → Result Done RuleRefusal
done_of_own f now team own wanted = done_as (decision_object f) decision_entries (submit f now team (so_far wanted.key own) wanted)

-- what becomes of what the team at a place asks for
abbrev pub submission_done : (now team : ℕ) → WantedSubmission → ContestState → Result Done RuleRefusal
submission_done now team wanted x = done_of_own x.fixed now team (submissions_of team x.submissions) wanted
