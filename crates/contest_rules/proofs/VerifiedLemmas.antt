-- The release of a verdict that is verified may be added.
use Rattle.std.proofs.Common.{◌≡◌, ℕ, Bool, true, false, List, Option, Some, None, Result, Ok, Err, refl, sym, subst}
use Rattle.std.specs.Prelude.{◌==◌, if◌then◌else◌}
use Rattle.contest_types.specs.Addable.{is_addable}
use Rattle.contest_types.specs.ValidRejudgings.{is_released}
use Rattle.contest_types.specs.declared.entry.Entry.TheVariants.{NewRelease}
use Rattle.contest_types.specs.declared.proposal.Proposal.{Proposal}
use Rattle.contest_rules.specs.declared.rule_refusal.RuleRefusal.{RuleRefusal}
use Rattle.contest_rules.specs.declared.rule_refusal.RuleRefusal.TheVariants.{UnknownReference, AlreadyReleased, NothingToVerify, SameJudge, TypeDiffers}
use Rattle.contest_types.specs.declared.submission.Release.{Release}
use Rattle.contest_rules.specs.Laws.{VerifiedIsAddable}
use Rattle.contest_rules.specs.Verdicts.{first_release, named_verdict}
use Rattle.contest_rules.specs.Verifying.{is_proposer, last_proposal, verify_for, verify_of}
use Rattle.contest_rules.specs.declared.verdicts.NamedVerdict.{NamedVerdict}
use Rattle.contest_rules.proofs.ProposedLemmas.{named_there, release_fits}

repeated : (same_judge same_type : Bool) (r v : Release) → (if same_judge then Err SameJudge else (if same_type then Ok r else Err TypeDiffers)) ≡ Ok v → v ≡ r
repeated true same_type r v e = absurd (cc e)
repeated false true r v e = let same : r ≡ v = cc e in sym same
repeated false false r v e = absurd (cc e)

taken : (now : ℕ) (account : List ℕ) (n : NamedVerdict) (v : Release) (released : Bool) (o : Option Proposal)
    → (if released then Err AlreadyReleased else elim o as (λ _. Result Release RuleRefusal) [ None ↦ Err NothingToVerify | (Some p) ↦ verify_of now account n p ]) ≡ Ok v
    → (released ≡ false) × (v ≡ first_release now n)
taken now account n v true o e = absurd (cc e)
taken now account n v false None e = absurd (cc e)
taken now account n v false (Some p) e = (refl, repeated (is_proposer account p.proposer) (p.verdict == n.verdict) (first_release now n) v e)

pub verified_is_addable : VerifiedIsAddable
verified_is_addable x now account w v h =
    let go : (o : Option NamedVerdict) → named_verdict x.fixed x.submissions w ≡ o
    → elim o as (λ _. Result Release RuleRefusal) [ None ↦ Err UnknownReference | (Some n) ↦ verify_for x.proposals x.releases now account n ] ≡ Ok v → is_addable x (NewRelease v) ≡ true = elim [
      | None ↦ λ e k. absurd (cc k)
      | (Some n) ↦ λ e k. (let t = taken now account n v (is_released n.team n.number x.releases) (last_proposal n.team n.number x.proposals) k in
          let named = named_there x w n e in
          subst (λ u. is_addable x (NewRelease u) ≡ true) (sym t.1) (release_fits x now n.team n.number n.verdict named.there named.is_type t.0))
    ] in
    go (named_verdict x.fixed x.submissions w) refl h
