-- What a request comes to: a reply, and what is added to the contest.
use Rattle.std.specs.Prelude.{List, [], Result, Ok, Err}
use Rattle.serde_json.specs.Data.{Data}
use Rattle.contest_types.specs.declared.entry.Entry.{Entry}
use Rattle.contest_types.specs.declared.refusal.Refusal.{Refusal}
use Rattle.contest_rules.specs.RuleRefusals.{refusal_of}
use Rattle.contest_rules.specs.declared.rule_refusal.RuleRefusal.{RuleRefusal}
pub use Rattle.contest_operations.specs.declared.outcome.Outcome.{Outcome}
use Rattle.contest_operations.specs.Replies.{refused, answer_with}
use Rattle.contest_operations.specs.declared.reply.Reply.{Reply}
use Rattle.contest_postings.specs.DoneThings.{Done, done_as}

-- a reply that changes nothing
abbrev pub replying : Reply → Outcome
replying reply = record { reply = reply; entries = [] }

abbrev pub refusing : Refusal → Outcome
refusing refusal = replying (refused refusal)

-- what the rules of the contest refuse
abbrev pub ruled : RuleRefusal → Outcome
ruled r = refusing (refusal_of r)

-- what is done, or what the rules of the contest refuse
abbrev pub told : Result Done RuleRefusal → Outcome
told (Err refusal) = ruled refusal
told (Ok d) = record { reply = answer_with d.text; entries = d.entries }

abbrev pub done_or_ruled : {D : Type 0} → (object : D → Data) → (entries : D → List Entry) → Result D RuleRefusal → Outcome
done_or_ruled object entries r = told (done_as object entries r)
