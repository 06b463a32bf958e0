-- What only the jury posts, and the verdict that a judge posts: what the body and the caller give.
use Rattle.std.proofs.Common.{◌≡◌, ◌∙◌, ℕ, true, List, Option, Some, None, refl, sym}
use Rattle.std.specs.Prelude.{IfSome, is_some}
use Rattle.contest_types.specs.Accounts.{account_named}
use Rattle.contest_types.specs.State.{FixedPart}
use Rattle.contest_types.specs.declared.audience.Audience.TheVariants.{Jury}
use Rattle.contest_rules.specs.declared.verdicts.WantedVerdict.{WantedVerdict}
use Rattle.contest_operations.specs.Callers.{Caller, judge_of}
use Rattle.contest_operations.specs.Commands.{IsSoundPost, if_judge, posted_as, poster}
use Rattle.contest_requests.specs.JuryVerdicts.{IsSoundVerdict, judged_by, posted_verdict, verdict_in}
use Rattle.contest_operations.specs.declared.command.Posted.{Posted}
use Rattle.contest_requests.specs.declared.jury_verdict.JuryVerdict.{JuryVerdict}
use Rattle.contest_operations.proofs.PostedFacts.{IfKnownPost, OrdinaryRefusal, jury_sight}

verdict_by : (f : FixedPart) (who : Caller) (make : JuryVerdict → Posted) → ((v : JuryVerdict) → IsSoundVerdict f v → IsSoundPost f (make v)) → ((v : JuryVerdict) → poster (make v) ≡ Jury)
    → (account : List ℕ) (o : Option WantedVerdict) → judge_of who ≡ Some account → is_some (account_named f.accounts account) ≡ true → IfKnownPost f who (posted_as make (judged_by account o))
verdict_by f who make sound speaks account None is there = tt
verdict_by f who make sound speaks account (Some wanted) is there =
    let v : JuryVerdict = record { account = account; wanted = wanted } in
    record { sound = sound v there; speaks = speaks v ∙ sym (jury_sight who account is) }

pub verdict_known : (f : FixedPart) (who : Caller) (make : JuryVerdict → Posted) → ((v : JuryVerdict) → IsSoundVerdict f v → IsSoundPost f (make v)) → ((v : JuryVerdict) → poster (make v) ≡ Jury)
    → (o : Option (List ℕ)) (body : List ℕ) → judge_of who ≡ o → IfSome o (λ account. is_some (account_named f.accounts account) ≡ true) → IfKnownPost f who (posted_as make (posted_verdict o body))
verdict_known f who make sound speaks None body is there = tt
verdict_known f who make sound speaks (Some account) body is there = verdict_by f who make sound speaks account (verdict_in body) is there

judged_ordinary : (make : JuryVerdict → Posted) (account : List ℕ) (o : Option WantedVerdict) → OrdinaryRefusal (posted_as make (judged_by account o))
judged_ordinary make account None = refl
judged_ordinary make account (Some wanted) = tt

pub verdict_refusal_ordinary : (make : JuryVerdict → Posted) (o : Option (List ℕ)) (body : List ℕ) → OrdinaryRefusal (posted_as make (posted_verdict o body))
verdict_refusal_ordinary make None body = refl
verdict_refusal_ordinary make (Some account) body = judged_ordinary make account (verdict_in body)

-- what has no body
pub judge_known : (f : FixedPart) (who : Caller) (posted : Posted) → IsSoundPost f posted → poster posted ≡ Jury → (o : Option (List ℕ)) → judge_of who ≡ o → IfKnownPost f who (if_judge o posted)
judge_known f who posted sound speaks None is = tt
judge_known f who posted sound speaks (Some account) is = record { sound = sound; speaks = speaks ∙ sym (jury_sight who account is) }

pub judge_refusal_ordinary : (posted : Posted) (o : Option (List ℕ)) → OrdinaryRefusal (if_judge o posted)
judge_refusal_ordinary posted None = refl
judge_refusal_ordinary posted (Some account) = tt
