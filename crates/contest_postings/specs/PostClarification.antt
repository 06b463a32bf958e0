-- A team asks, and the jury answers or announces (Contest API 2023-06, clarifications).
use Rattle.std.specs.Prelude.{ℕ, List, [], ◌∷◌, Result}
use Rattle.serde_json.specs.Data.{Data}
use Rattle.contest_types.specs.Sight.{seen_clarification}
use Rattle.contest_types.specs.State.{FixedPart, ContestState}
use Rattle.contest_types.specs.declared.audience.Audience.TheVariants as audience
use Rattle.contest_types.specs.declared.clarification.Clarification.{Clarification}
use Rattle.contest_types.specs.declared.entry.Entry.{Entry}
use Rattle.contest_types.specs.declared.entry.Entry.TheVariants.{NewClarification}
use Rattle.contest_objects.specs.ClarificationObjects.{clarification_data}
use Rattle.contest_rules.specs.Clarifying.{clarify}
use Rattle.contest_rules.specs.declared.clarifying.Sender.{Sender}
use Rattle.contest_rules.specs.declared.clarifying.WantedClarification.{WantedClarification}
use Rattle.contest_rules.specs.declared.decision.Decision.{Decision}
use Rattle.contest_rules.specs.declared.decision.Decision.TheVariants.{Add, Stands}
use Rattle.contest_rules.specs.declared.rule_refusal.RuleRefusal.{RuleRefusal}
use Rattle.contest_postings.specs.DoneThings.{Done, done_as}

-- a clarification as who wrote it sees it: whole, for what a team's own answers the team hears
abbrev pub own_clarification : FixedPart → Clarification → Data
own_clarification f c = clarification_data f (seen_clarification audience.Jury f.settings c)

-- one that is added and one that stands are answered alike
abbrev pub said_object : FixedPart → Decision Clarification Clarification → Data
said_object f (Add c) = own_clarification f c
said_object f (Stands c) = own_clarification f c

abbrev pub said_entries : Decision Clarification Clarification → List Entry
said_entries (Add c) = NewClarification c ∷ []
said_entries (Stands c) = []

-- what becomes of what somebody writes by an account
abbrev pub clarification_done : (now : ℕ) → Sender → (account : List ℕ) → WantedClarification → ContestState → Result Done RuleRefusal
clarification_done now s account wanted x = done_as (said_object x.fixed) said_entries (clarify x.fixed now s account x.clarifications wanted)
