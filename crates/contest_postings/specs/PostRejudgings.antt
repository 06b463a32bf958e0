-- The jury opens rejudgings, judges their members, applies them or cancels them (DOMjudge manual, "Rejudging").
use Rattle.std.specs.Prelude.{ℕ, ◌+◌, List, [], ◌∷◌, length, Some, None, Result, Err}
use Rattle.serde_json.specs.Data.{Data}
use Rattle.contest_types.specs.State.{FixedPart, ContestState, with_member_state}
use Rattle.contest_types.specs.declared.entry.Entry.{Entry}
use Rattle.contest_types.specs.declared.entry.Entry.TheVariants.{NewRejudging, SetMember, SetRejudging}
use Rattle.contest_types.specs.declared.rejudging.Rejudging.{Rejudging}
use Rattle.contest_types.specs.declared.rejudging.RejudgingState.TheVariants.{Applied, Cancelled}
use Rattle.contest_types.specs.declared.submission.Release.{Release}
use Rattle.contest_rules.specs.Opening.{open_rejudging}
use Rattle.contest_rules.specs.Rejudging.{applied_entries, apply_on, cancel_on, rejudge_on}
use Rattle.contest_rules.specs.Verdicts.{named_verdict}
use Rattle.contest_rules.specs.declared.opening.WantedRejudging.{WantedRejudging}
use Rattle.contest_rules.specs.declared.rejudging.MemberChange.{MemberChange}
use Rattle.contest_rules.specs.declared.rule_refusal.RuleRefusal.{RuleRefusal}
use Rattle.contest_rules.specs.declared.rule_refusal.RuleRefusal.TheVariants.{NotFound}
use Rattle.contest_objects.specs.RejudgingObjects.{rejudging_data}
use Rattle.contest_requests.specs.JuryVerdicts.{IsSoundVerdict}
use Rattle.contest_view.specs.Rejudgings.{named_rejudging}
use Rattle.contest_postings.specs.DoneThings.{Done, done_as, ruled_with}
use Rattle.contest_postings.specs.declared.opening.OpenedRejudging.{OpenedRejudging}
use Rattle.contest_postings.specs.declared.rejudging.RejudgingChange.{RejudgingChange}
use Rattle.contest_postings.specs.declared.rejudging.RejudgingStep.{RejudgingStep}
use Rattle.contest_postings.specs.declared.rejudging.RejudgingStep.TheVariants.{Judge, Apply, Cancel}

-- one that is opened has the number after those that were opened before
abbrev pub opening : WantedRejudging → ContestState → Result OpenedRejudging RuleRefusal
opening w x =
    ruled_with (λ r. record { number = length x.rejudgings + 1; rejudging = r }) (open_rejudging x.fixed x.submissions x.releases x.rejudgings w)

abbrev pub opening_object : FixedPart → OpenedRejudging → Data
opening_object f o = rejudging_data f.settings o.number o.rejudging

abbrev pub opening_entries : OpenedRejudging → List Entry
opening_entries o = NewRejudging o.rejudging ∷ []

-- what becomes of a rejudging that the jury opens
abbrev pub opening_done : WantedRejudging → ContestState → Result Done RuleRefusal
opening_done w x = done_as (opening_object x.fixed) opening_entries (opening w x)

-- a rejudging with a member in another state
abbrev pub member_change : (number : ℕ) → Rejudging → MemberChange → RejudgingChange
member_change number r c = record { number = number; rejudging = with_member_state c.place c.state r; entries = SetMember number c.place c.state ∷ [] }

-- one that is applied, with its releases
abbrev pub apply_change : (number : ℕ) → Rejudging → List Release → RejudgingChange
apply_change number r releases = record { number = number; rejudging = record r { state = Applied }; entries = applied_entries number releases }

-- one that is cancelled releases nothing
abbrev pub cancel_change : (number : ℕ) → Rejudging → RejudgingChange
cancel_change number r = record { number = number; rejudging = record r { state = Cancelled }; entries = SetRejudging number Cancelled ∷ [] }

-- what is known of a step once it is read: the judge's account is there
abbrev pub IsSoundStep : FixedPart → RejudgingStep → Type 0
IsSoundStep f (Judge v) = IsSoundVerdict f v
IsSoundStep f Apply = Unit {0}
IsSoundStep f Cancel = Unit {0}

-- what a step makes of a rejudging and its number
abbrev pub step_change : (now : ℕ) → RejudgingStep → ContestState → ℕ × Rejudging → Result RejudgingChange RuleRefusal
step_change now (Judge v) x p = ruled_with (member_change p.0 p.1) (rejudge_on x.fixed.settings.head.verification p.1 (named_verdict x.fixed x.submissions v.wanted) v.account)
step_change now Apply x p = ruled_with (apply_change p.0 p.1) (apply_on x.releases now p.1)
step_change now Cancel x p = ruled_with (λ done. cancel_change p.0 p.1) (cancel_on p.1)

-- the rejudging that the path names comes first
abbrev pub rejudging_change : (now : ℕ) → (id : List ℕ) → RejudgingStep → ContestState → Result RejudgingChange RuleRefusal
rejudging_change now id step x = elim (named_rejudging id x.rejudgings) [ None ↦ Err NotFound | (Some p) ↦ step_change now step x p ]

-- it is answered as it is after the change
abbrev pub change_object : FixedPart → RejudgingChange → Data
change_object f c = rejudging_data f.settings c.number c.rejudging

abbrev pub change_entries : RejudgingChange → List Entry
change_entries c = c.entries

-- what becomes of what the jury does with a rejudging
abbrev pub rejudging_done : (now : ℕ) → (id : List ℕ) → RejudgingStep → ContestState → Result Done RuleRefusal
rejudging_done now id step x = done_as (change_object x.fixed) change_entries (rejudging_change now id step x)
