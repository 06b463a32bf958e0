-- What becomes of a submission that a team hands in (Contest API 2023-06, submissions; Contest Control
-- System Requirements, "Submissions"; keys, numbers and the order of refusals are own).
use Rattle.std.specs.Prelude.{ℕ, ◌+◌, ◌-◌, Bool, true, false, not, ◌&&◌, ◌==◌, nat_lt, nat_le, List, length, map, find, Option, None, Some, is_none, is_some, slice_get, Result, Ok, Err, if◌then◌else◌}
use Rattle.std.specs.Option.{option_map, option_map_or}
use Rattle.std.specs.Str.{bytes_eq}
use Rattle.contest_types.specs.Places.{place_of}
use Rattle.contest_types.specs.Clock.{phase_at}
use Rattle.contest_types.specs.State.{FixedPart}
use Rattle.contest_types.specs.declared.limits.TheConstants.{TEAM_SUBMISSIONS}
use Rattle.contest_types.specs.declared.audience.Phase.{Phase}
use Rattle.contest_types.specs.declared.audience.Phase.TheVariants as phase
use Rattle.contest_rules.specs.declared.rule_refusal.RuleRefusal.TheVariants.{UnknownReference, EntryPointMissing, KeyReused, NotOpen, TeamLimit}
use Rattle.contest_types.specs.declared.objects.Problem.{Problem}
use Rattle.contest_types.specs.declared.objects.Language.{Language}
use Rattle.contest_types.specs.declared.submission.Submission.{Submission}
use Rattle.contest_rules.specs.declared.decision.Decision.{Decision}
use Rattle.contest_rules.specs.declared.decision.Decision.TheVariants.{Add, Stands}
use Rattle.contest_rules.specs.declared.rule_refusal.RuleRefusal.{RuleRefusal}
use Rattle.contest_rules.specs.declared.submitting.OwnSoFar.{OwnSoFar}
use Rattle.contest_rules.specs.declared.submitting.WantedSubmission.{WantedSubmission}

-- the language at a place requires an entry point, and none is given
abbrev pub lacks_entry_point : FixedPart → ℕ → Option (List ℕ) → Bool
lacks_entry_point f language entry_point =
    option_map_or (λ (l : Language). l.entry_point_required) (slice_get f.settings.languages language) false && is_none entry_point

abbrev pub has_key : List ℕ → Submission → Bool
has_key key s = option_map_or (λ own. bytes_eq own key) s.key false

-- the one with this key, of a team's own
abbrev pub standing_under : Option (List ℕ) → List Submission → Option Submission
standing_under None own = None
standing_under (Some key) own = find (has_key key) own

-- when a team's last one came
abbrev pub last_time : List Submission → Option ℕ
last_time own = option_map (λ (s : Submission). s.time) (slice_get own (length own - 1))

-- a team's submissions, as far as its next one is decided by them: how many there are, when the last came, and the one that
-- has the key which is asked with
abbrev pub so_far : Option (List ℕ) → List Submission → OwnSoFar
so_far key own = record { count = length own; last = last_time own; standing = standing_under key own }

-- both are none, or both are one text
abbrev pub same_text : Option (List ℕ) → Option (List ℕ) → Bool
same_text None None = true
same_text (Some a) (Some b) = bytes_eq a b
same_text _ _ = false

-- a submission that stands is what is asked for: problem, language, entry point and bytes
abbrev pub asks_the_same : Submission → (problem language : ℕ) → WantedSubmission → Bool
asks_the_same s problem language w =
    (s.problem == problem) && (s.language == language) && same_text s.entry_point w.entry_point && bytes_eq s.file w.file

abbrev pub is_running : Phase → Bool
is_running phase.Before = false
is_running phase.Running = true
is_running phase.Ended = false

-- the contest runs, and no moment is set at which its results are final, not even one to come
abbrev pub takes_submissions : FixedPart → ℕ → Bool
takes_submissions f now = is_running (phase_at f.settings f.marks now) && is_none f.marks.finalized

-- the later of a moment and another that is there
abbrev pub later : Option ℕ → ℕ → ℕ
later None now = now
later (Some last) now = if nat_lt now last then last else now

-- the team's next submission
abbrev pub next_submission : (now team : ℕ) → OwnSoFar → (problem language : ℕ) → WantedSubmission → Submission
next_submission now team own problem language w = record {
  team = team;
  number = own.count + 1;
  time = later own.last now;
  problem = problem;
  language = language;
  entry_point = w.entry_point;
  file = w.file;
  key = w.key;
}

-- one under a key that stands: for the same, or for something else
abbrev pub repeated : Submission → (problem language : ℕ) → WantedSubmission → Result (Decision Submission Submission) RuleRefusal
repeated s problem language w = if asks_the_same s problem language w then Ok (Stands s) else Err KeyReused

-- one that is new: the clock first, then the team's limit
abbrev pub fresh : FixedPart → (now team : ℕ) → OwnSoFar → (problem language : ℕ) → WantedSubmission → Result (Decision Submission Submission) RuleRefusal
fresh f now team own problem language w =
    if not (takes_submissions f now) then Err NotOpen
    else (if nat_le TEAM_SUBMISSIONS own.count then Err TeamLimit else Ok (Add (next_submission now team own problem language w)))

abbrev pub submit_to : FixedPart → (now team : ℕ) → OwnSoFar → (problem language : ℕ) → WantedSubmission → Result (Decision Submission Submission) RuleRefusal
submit_to f now team own problem language w = elim own.standing [
  | (Some s) ↦ repeated s problem language w
  | None ↦ fresh f now team own problem language w
]

-- the problem and the language first, then the entry point
abbrev pub submit : FixedPart → (now team : ℕ) → OwnSoFar → WantedSubmission → Result (Decision Submission Submission) RuleRefusal
submit f now team own w = elim (place_of w.problem (map (λ (p : Problem). p.id) f.settings.problems)) [
  | None ↦ Err UnknownReference
  | (Some problem) ↦ elim (place_of w.language (map (λ (l : Language). l.id) f.settings.languages)) [
    | None ↦ Err UnknownReference
    | (Some language) ↦ if lacks_entry_point f language w.entry_point then Err EntryPointMissing else submit_to f now team own problem language w
  ]
]

-- what is asked for is there, and its entry point is given where one is required: its key is looked at
abbrev pub is_complete : FixedPart → WantedSubmission → Bool
is_complete f w =
    is_some (place_of w.problem (map (λ (p : Problem). p.id) f.settings.problems))
    && option_map_or (λ language. not (lacks_entry_point f language w.entry_point)) (place_of w.language (map (λ (l : Language). l.id) f.settings.languages)) false

-- two ask for the same
abbrev pub have_equal_content : WantedSubmission → WantedSubmission → Bool
have_equal_content v w = bytes_eq v.problem w.problem && bytes_eq v.language w.language && same_text v.entry_point w.entry_point && bytes_eq v.file w.file
