-- A judge proposes a verdict (DOMjudge manual, "Judging": verification).
use Rattle.std.specs.Prelude.{ℕ, Result, is_some}
use Rattle.serde_json.specs.Data.{Data}
use Rattle.contest_types.specs.State.{FixedPart, ContestState}
use Rattle.contest_objects.specs.ProposalObjects.{proposal_data}
use Rattle.contest_rules.specs.Proposing.{entries_of, propose}
use Rattle.contest_rules.specs.declared.proposing.NewVerdict.{NewVerdict}
use Rattle.contest_rules.specs.declared.rule_refusal.RuleRefusal.{RuleRefusal}
use Rattle.contest_postings.specs.DoneThings.{Done, done_as}
use Rattle.contest_requests.specs.declared.jury_verdict.JuryVerdict.{JuryVerdict}

-- the proposal is answered, with whether it is released
abbrev pub proposal_object : FixedPart → NewVerdict → Data
proposal_object f v = proposal_data f.settings v.proposal (is_some v.release)

-- what becomes of the verdict that a judge proposes
abbrev pub proposal_done : (now : ℕ) → JuryVerdict → ContestState → Result Done RuleRefusal
proposal_done now v x = done_as (proposal_object x.fixed) entries_of (propose x.fixed x.submissions x.proposals x.releases now v.account v.wanted)
