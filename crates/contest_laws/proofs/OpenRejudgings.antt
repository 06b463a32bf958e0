-- Only an open rejudging is judged, applied or cancelled.
use Rattle.std.proofs.Common.{◌≡◌, ℕ, Bool, true, false, List, Option, Some, None, Result, Ok, Err, refl}
use Rattle.std.specs.Prelude.{not, if◌then◌else◌}
use Rattle.std.specs.List.{filter_map, list_all}
use Rattle.contest_types.specs.ValidRejudgings.{is_open}
use Rattle.contest_types.specs.declared.rejudging.Rejudging.{Rejudging}
use Rattle.contest_types.specs.declared.submission.Release.{Release}
use Rattle.contest_rules.specs.Rejudging.{apply_on, cancel_on, is_ready, member_after, member_at, rejudge_on, release_of, state_at}
use Rattle.contest_rules.specs.declared.rejudging.MemberChange.{MemberChange}
use Rattle.contest_rules.specs.declared.rule_refusal.RuleRefusal.{RuleRefusal}
use Rattle.contest_rules.specs.declared.rule_refusal.RuleRefusal.TheVariants.{RejudgingClosed, RejudgingIncomplete, UnknownReference}
use Rattle.contest_rules.specs.declared.verdicts.NamedVerdict.{NamedVerdict}

pub judged_open : (verification : Bool) (r : Rejudging) (o : Option NamedVerdict) (account : List ℕ) (c : MemberChange) → rejudge_on verification r o account ≡ Ok c → is_open r ≡ true
judged_open verification r None account c is = absurd (cc is)
judged_open verification r (Some v) account c is = at (member_at v.team v.number r.members) is
  where
    go : (p : ℕ) (b : Bool) → is_open r ≡ b → (let d : MemberChange = record { place = p; state = member_after verification account v.verdict (state_at p r.members) } in if b then Ok d else Err RejudgingClosed) ≡ Ok c → is_open r ≡ true
    go p true e k = e
    go p false e k = absurd (cc k)

    at : (o : Option ℕ) → elim o as (λ _. Result MemberChange RuleRefusal) [
      | None ↦ Err UnknownReference
      | (Some p) ↦ (let d : MemberChange = record { place = p; state = member_after verification account v.verdict (state_at p r.members) } in if is_open r then Ok d else Err RejudgingClosed)
    ] ≡ Ok c → is_open r ≡ true
    at None k = absurd (cc k)
    at (Some p) k = go p (is_open r) refl k

pub applied_open : (vs : List Release) (now : ℕ) (r : Rejudging) (us : List Release) → apply_on vs now r ≡ Ok us → is_open r ≡ true
applied_open vs now r us = go (is_open r) (list_all is_ready r.members) refl
  where
    go : (b ready : Bool) → is_open r ≡ b → elim (if not b then Some RejudgingClosed else (if ready then None else Some RejudgingIncomplete)) as (λ _. Result (List Release) RuleRefusal) [ (Some refusal) ↦ Err refusal | None ↦ Ok (filter_map (release_of vs now) r.members) ] ≡ Ok us → is_open r ≡ true
    go true ready e k = e
    go false ready e k = absurd (cc k)

pub cancelled_open : (r : Rejudging) → cancel_on r ≡ Ok tt → is_open r ≡ true
cancelled_open r = go (is_open r) refl
  where
    go : (b : Bool) → is_open r ≡ b → (let done : Result (Unit {0}) RuleRefusal = Ok tt in if b then done else Err RejudgingClosed) ≡ Ok tt → is_open r ≡ true
    go true e k = e
    go false e k = absurd (cc k)
