-- What the rules of a contest refuse is no failure.
use Rattle.std.proofs.Common.{◌≡◌, ◌∙◌, false, refl, sym, ap}
use Rattle.std.specs.Prelude.{◌==◌}
use Rattle.std.proofs.lemmas.Bool.{false≢true}
use Rattle.contest_rules.specs.declared.rule_refusal.RuleRefusal.{RuleRefusal}
use Rattle.contest_rules.specs.declared.rule_refusal.RuleRefusal.TheVariants as rule
use Rattle.contest_operations.specs.Outcomes.{ruled}
use Rattle.contest_operations.specs.Replies.{IsOrdinary}

pub ruled_ordinary : (r : RuleRefusal) → IsOrdinary (ruled r).reply
ruled_ordinary rule.Malformed = refl
ruled_ordinary rule.UnknownReference = refl
ruled_ordinary rule.EntryPointMissing = refl
ruled_ordinary rule.KeyReused = refl
ruled_ordinary rule.NotOpen = refl
ruled_ordinary rule.TeamLimit = refl
ruled_ordinary rule.AlreadyReleased = refl
ruled_ordinary rule.NothingToVerify = refl
ruled_ordinary rule.SameJudge = refl
ruled_ordinary rule.TypeDiffers = refl
ruled_ordinary rule.NotFound = refl
ruled_ordinary rule.InRejudging = refl
ruled_ordinary rule.RejudgingIncomplete = refl
ruled_ordinary rule.RejudgingClosed = refl
ruled_ordinary rule.ClockRefused = refl

-- nor is it answered as done
ruled_status : (r : RuleRefusal) → ((ruled r).reply.status == 200) ≡ false
ruled_status rule.Malformed = refl
ruled_status rule.UnknownReference = refl
ruled_status rule.EntryPointMissing = refl
ruled_status rule.KeyReused = refl
ruled_status rule.NotOpen = refl
ruled_status rule.TeamLimit = refl
ruled_status rule.AlreadyReleased = refl
ruled_status rule.NothingToVerify = refl
ruled_status rule.SameJudge = refl
ruled_status rule.TypeDiffers = refl
ruled_status rule.NotFound = refl
ruled_status rule.InRejudging = refl
ruled_status rule.RejudgingIncomplete = refl
ruled_status rule.RejudgingClosed = refl
ruled_status rule.ClockRefused = refl

pub ruled_refuses : (r : RuleRefusal) → (ruled r).reply.status ≡ 200 → ⊥
ruled_refuses r h = false≢true (sym (ruled_status r) ∙ ap (λ n. n == 200) h)
