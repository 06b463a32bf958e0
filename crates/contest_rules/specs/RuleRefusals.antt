-- Why a command is refused by the rules of a contest (own).
use Rattle.contest_types.specs.declared.refusal.Refusal.{Refusal}
use Rattle.contest_types.specs.declared.refusal.Refusal.TheVariants as refusal
use Rattle.contest_rules.specs.declared.rule_refusal.RuleRefusal.{RuleRefusal}
use Rattle.contest_rules.specs.declared.rule_refusal.RuleRefusal.TheVariants as rule

-- the refusal that it is
abbrev pub refusal_of : RuleRefusal → Refusal
refusal_of rule.Malformed = refusal.Malformed
refusal_of rule.UnknownReference = refusal.UnknownReference
refusal_of rule.EntryPointMissing = refusal.EntryPointMissing
refusal_of rule.KeyReused = refusal.KeyReused
refusal_of rule.NotOpen = refusal.NotOpen
refusal_of rule.TeamLimit = refusal.TeamLimit
refusal_of rule.AlreadyReleased = refusal.AlreadyReleased
refusal_of rule.NothingToVerify = refusal.NothingToVerify
refusal_of rule.SameJudge = refusal.SameJudge
refusal_of rule.TypeDiffers = refusal.TypeDiffers
refusal_of rule.NotFound = refusal.NotFound
refusal_of rule.InRejudging = refusal.InRejudging
refusal_of rule.RejudgingIncomplete = refusal.RejudgingIncomplete
refusal_of rule.RejudgingClosed = refusal.RejudgingClosed
refusal_of rule.ClockRefused = refusal.ClockRefused
