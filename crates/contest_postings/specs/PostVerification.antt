-- A judge verifies a verdict that another proposed (DOMjudge manual, "Judging": verification).
use Rattle.std.specs.Prelude.{ℕ, List, [], ◌∷◌, Result}
use Rattle.serde_json.specs.Data.{Data}
use Rattle.contest_types.specs.Sight.{judgement_of}
use Rattle.contest_types.specs.State.{FixedPart, ContestState}
use Rattle.contest_types.specs.declared.entry.Entry.{Entry}
use Rattle.contest_types.specs.declared.entry.Entry.TheVariants.{NewRelease}
use Rattle.contest_types.specs.declared.submission.Release.{Release}
use Rattle.contest_rules.specs.Verifying.{verify}
use Rattle.contest_objects.specs.JudgementObjects.{judgement_data}
use Rattle.contest_rules.specs.declared.rule_refusal.RuleRefusal.{RuleRefusal}
use Rattle.contest_postings.specs.DoneThings.{Done, done_as}
use Rattle.contest_requests.specs.declared.jury_verdict.JuryVerdict.{JuryVerdict}

-- what is released is answered as the judgement that it is
abbrev pub release_object : FixedPart → Release → Data
release_object f r = judgement_data f r.team r.number (judgement_of r)

abbrev pub release_entries : Release → List Entry
release_entries r = NewRelease r ∷ []

-- what becomes of the verdict that a judge verifies
abbrev pub verification_done : (now : ℕ) → JuryVerdict → ContestState → Result Done RuleRefusal
verification_done now v x = done_as (release_object x.fixed) release_entries (verify x.fixed x.submissions x.proposals x.releases now v.account v.wanted)
