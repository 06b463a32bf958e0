-- What is done by a command, or refused by the rules: what every command keeps to.
use Rattle.std.proofs.Common.{◌≡◌, true, List, [], Result, Ok, Err, refl, inl, inr}
use Rattle.std.specs.Prelude.{IfOk}
use Rattle.serde_json.specs.Data.{Data}
use Rattle.contest_types.specs.Addable.{are_addable}
use Rattle.contest_types.specs.State.{ContestState}
use Rattle.contest_types.specs.declared.entry.Entry.{Entry}
use Rattle.contest_rules.specs.declared.rule_refusal.RuleRefusal.{RuleRefusal}
use Rattle.contest_postings.specs.DoneThings.{Done, done_as}
use Rattle.contest_operations.specs.Outcomes.{done_or_ruled, told}
use Rattle.contest_operations.specs.Replies.{IsOrdinary}
use Rattle.contest_operations.proofs.PostedFacts.{IsQuiet}
use Rattle.contest_operations.proofs.RuledLemmas.{ruled_ordinary}

pub told_ordinary : (r : Result Done RuleRefusal) → IsOrdinary (told r).reply
told_ordinary (Err refusal) = ruled_ordinary refusal
told_ordinary (Ok d) = refl

pub told_quiet : (r : Result Done RuleRefusal) → IsQuiet (told r)
told_quiet (Err refusal) = inl refl
told_quiet (Ok d) = inr refl

-- what may be added where it is done may be added
pub done_addable : {D : Type 0} (x : ContestState) (object : D → Data) (entries : D → List Entry) (r : Result D RuleRefusal) → ((d : D) → r ≡ Ok d → are_addable x (entries d) ≡ true)
    → are_addable x (done_or_ruled object entries r).entries ≡ true
done_addable x object entries (Err refusal) h = refl
done_addable x object entries (Ok d) h = h d refl

-- what holds of nothing, and of what each done thing adds, holds of what is added
pub added_holds : {D : Type 0} (P : List Entry → Type 0) (object : D → Data) (entries : D → List Entry) (r : Result D RuleRefusal) → P [] → IfOk r (λ d. P (entries d)) → P (told (done_as object entries r)).entries
added_holds P object entries (Err refusal) none h = none
added_holds P object entries (Ok d) none h = h
