-- A rejudging that the jury opens, and what it does with one: what is posted, and that what is added may be added.
use Rattle.std.proofs.Common.{◌≡◌, ℕ, true, List, Option, Some, None, Result, Ok, Err, refl, sym, subst}
use Rattle.std.specs.Option.{ok_or}
use Rattle.contest_types.specs.Addable.{are_addable}
use Rattle.contest_types.specs.State.{ContestState, FixedPart}
use Rattle.contest_types.specs.Valid.{is_valid}
use Rattle.contest_types.specs.declared.refusal.Refusal.TheVariants.{Malformed}
use Rattle.contest_types.specs.declared.rejudging.Rejudging.{Rejudging}
use Rattle.contest_types.proofs.PlaceLemmas.{both_true}
use Rattle.contest_rules.specs.Opening.{open_rejudging}
use Rattle.contest_rules.specs.Rejudging.{apply_on, cancel_on, rejudge_on}
use Rattle.contest_rules.specs.Verdicts.{named_verdict}
use Rattle.contest_rules.specs.declared.opening.WantedRejudging.{WantedRejudging}
use Rattle.contest_rules.specs.declared.rule_refusal.RuleRefusal.{RuleRefusal}
use Rattle.contest_rules.specs.declared.rule_refusal.RuleRefusal.TheVariants.{NotFound}
use Rattle.contest_rules.proofs.AppliedLemmas.{applied_is_addable}
use Rattle.contest_rules.proofs.OpenedLemmas.{opened_is_addable}
use Rattle.contest_rules.proofs.RejudgedLemmas.{rejudged_is_addable}
use Rattle.contest_requests.specs.RejudgingBodies.{IsSoundRejudging, posted_rejudging, rejudging_in}
use Rattle.contest_requests.proofs.RejudgingLemmas.{rejudging_fits}
use Rattle.contest_view.specs.Rejudgings.{named_rejudging}
use Rattle.contest_view.proofs.RejudgingLemmas.{named_has}
use Rattle.contest_postings.specs.DoneThings.{ruled_with}
use Rattle.contest_postings.specs.PostRejudgings.{IsSoundStep, apply_change, cancel_change, rejudging_change, member_change, opening, opening_entries, step_change}
use Rattle.contest_postings.specs.declared.opening.OpenedRejudging.{OpenedRejudging}
use Rattle.contest_postings.specs.declared.rejudging.RejudgingChange.{RejudgingChange}
use Rattle.contest_postings.specs.declared.rejudging.RejudgingStep.{RejudgingStep}
use Rattle.contest_postings.specs.declared.rejudging.RejudgingStep.TheVariants.{Judge, Apply, Cancel}
use Rattle.contest_operations.specs.Callers.{Caller, judge_of}
use Rattle.contest_operations.specs.Commands.{posted_as}
use Rattle.contest_operations.specs.declared.command.Posted.TheVariants.{Opening}
use Rattle.contest_operations.proofs.PostedFacts.{IfKnownPost, OrdinaryRefusal, jury_sight}

opening_by : (f : FixedPart) (who : Caller) (account : List ℕ) (o : Option WantedRejudging) → judge_of who ≡ Some account → ((w : WantedRejudging) → o ≡ Some w → IsSoundRejudging w)
    → IfKnownPost f who (posted_as Opening (ok_or o Malformed))
opening_by f who account None is fits = tt
opening_by f who account (Some w) is fits = record { sound = fits w refl; speaks = sym (jury_sight who account is) }

pub opening_known : (f : FixedPart) (who : Caller) (o : Option (List ℕ)) (body : List ℕ) → judge_of who ≡ o → IfKnownPost f who (posted_as Opening (posted_rejudging o body))
opening_known f who None body is = tt
opening_known f who (Some account) body is = opening_by f who account (rejudging_in body) is (rejudging_fits body)

opening_ordinary : (o : Option WantedRejudging) → OrdinaryRefusal (posted_as Opening (ok_or o Malformed))
opening_ordinary None = refl
opening_ordinary (Some w) = tt

pub opening_refusal_ordinary : (o : Option (List ℕ)) (body : List ℕ) → OrdinaryRefusal (posted_as Opening (posted_rejudging o body))
opening_refusal_ordinary None body = refl
opening_refusal_ordinary (Some account) body = opening_ordinary (rejudging_in body)

-- what is made of what the rules give was given by them
record IsMade {A B : Type 0} (make : A → B) (r : Result A RuleRefusal) (b : B) : Type 0 where
  pub given : A
  pub is_given : r ≡ Ok given
  pub is : make given ≡ b

made : {A B : Type 0} (make : A → B) (r : Result A RuleRefusal) (b : B) → ruled_with make r ≡ Ok b → IsMade make r b
made make (Err refusal) b h = absurd (cc h)
made make (Ok a) b h = record { given = a; is_given = refl; is = cc h }

pub opened_addable : (x : ContestState) (w : WantedRejudging) (o : OpenedRejudging) → is_valid x ≡ true → IsSoundRejudging w → opening w x ≡ Ok o → are_addable x (opening_entries o) ≡ true
opened_addable x w o valid sound h =
    let m = made _ (open_rejudging x.fixed x.submissions x.releases x.rejudgings w) o h in
    subst (λ (q : OpenedRejudging). are_addable x (opening_entries q) ≡ true) m.is (both_true _ _ (opened_is_addable x w m.given valid sound.0 sound.1 m.is_given) refl)

stepped_addable : (now : ℕ) (step : RejudgingStep) (x : ContestState) (p : ℕ × Rejudging) (id : List ℕ) (c : RejudgingChange) → is_valid x ≡ true → IsSoundStep x.fixed step
    → named_rejudging id x.rejudgings ≡ Some p → step_change now step x p ≡ Ok c → are_addable x c.entries ≡ true
stepped_addable now (Judge v) x p id c valid sound named h =
    let verification = x.fixed.settings.head.verification in
    let m = made (member_change p.0 p.1) (rejudge_on verification p.1 (named_verdict x.fixed x.submissions v.wanted) v.account) c h in
    subst (λ (d : RejudgingChange). are_addable x d.entries ≡ true) m.is
    (both_true _ _ (rejudged_is_addable x verification p.0 p.1 v.wanted v.account m.given sound m.is_given) refl)
stepped_addable now Apply x p id c valid sound named h =
    let m = made (apply_change p.0 p.1) (apply_on x.releases now p.1) c h in
    subst (λ (d : RejudgingChange). are_addable x d.entries ≡ true) m.is (applied_is_addable x now p.0 p.1 m.given valid (named_has id x.rejudgings p named) m.is_given)
stepped_addable now Cancel x p id c valid sound named h =
    let m = made (λ done. cancel_change p.0 p.1) (cancel_on p.1) c h in
    subst (λ (d : RejudgingChange). are_addable x d.entries ≡ true) m.is refl

pub changed_addable : (now : ℕ) (id : List ℕ) (step : RejudgingStep) (x : ContestState) (c : RejudgingChange) → is_valid x ≡ true → IsSoundStep x.fixed step
    → rejudging_change now id step x ≡ Ok c → are_addable x c.entries ≡ true
changed_addable now id step x c valid sound h =
    let go : (o : Option (ℕ × Rejudging)) → named_rejudging id x.rejudgings ≡ o → elim o as (λ _. Result RejudgingChange RuleRefusal) [ None ↦ Err NotFound | (Some p) ↦ step_change now step x p ] ≡ Ok c → are_addable x c.entries ≡ true = elim [
      | None ↦ λ e k. absurd (cc k)
      | (Some p) ↦ λ e k. stepped_addable now step x p id c valid sound e k
    ] in
    go (named_rejudging id x.rejudgings) refl h
