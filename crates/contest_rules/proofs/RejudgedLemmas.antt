-- The state that a member takes by a verdict may be set.
use Rattle.std.proofs.Common.{◌≡◌, ◌<◌, ℕ, Bool, true, false, List, length, Option, Some, None, Result, Ok, Err, refl, subst}
use Rattle.std.specs.Prelude.{◌||◌, not, is_some, if◌then◌else◌}
use Rattle.std.proofs.lemmas.Bool.{lt-ltb}
use Rattle.contest_types.specs.Accounts.{account_named}
use Rattle.contest_types.specs.State.{ContestState}
use Rattle.contest_types.specs.ValidRejudgings.{is_open, is_valid_state}
use Rattle.contest_types.specs.Addable.{is_addable}
use Rattle.contest_types.specs.declared.entry.Entry.TheVariants.{SetMember}
use Rattle.contest_types.specs.declared.rejudging.MemberState.{MemberState}
use Rattle.contest_types.specs.declared.rejudging.MemberState.TheVariants.{Proposed, Ready}
use Rattle.contest_types.proofs.PlaceLemmas.{both_true}
use Rattle.contest_rules.specs.Laws.{RejudgedIsAddable}
use Rattle.contest_rules.specs.Rejudging.{member_after, member_at, rejudge_on, settles, state_at}
use Rattle.contest_rules.specs.Verdicts.{named_verdict}
use Rattle.contest_rules.specs.declared.rejudging.MemberChange.{MemberChange}
use Rattle.contest_rules.specs.declared.rule_refusal.RuleRefusal.{RuleRefusal}
use Rattle.contest_rules.specs.declared.rule_refusal.RuleRefusal.TheVariants.{RejudgingClosed, UnknownReference}
use Rattle.contest_rules.specs.declared.verdicts.NamedVerdict.{NamedVerdict}
use Rattle.contest_rules.proofs.ProposedLemmas.{named_there}

state_fits : (x : ContestState) (verification : Bool) (account : List ℕ) (verdict : ℕ) (s : MemberState) → is_some (account_named x.fixed.accounts account) ≡ true → verdict < length x.fixed.settings.types
    → is_valid_state x.fixed (member_after verification account verdict s) ≡ true
state_fits x verification account verdict s known typed =
    let go : (b : Bool) → is_valid_state x.fixed (if b then Ready verdict else Proposed verdict account) ≡ true = elim [
      | true ↦ lt-ltb verdict (length x.fixed.settings.types) typed
      | false ↦ both_true _ _ (lt-ltb verdict (length x.fixed.settings.types) typed) known
    ] in
    go (not verification || settles account verdict s)

pub rejudged_is_addable : RejudgedIsAddable
rejudged_is_addable x verification number r w account change known h =
    let open_one : (v : NamedVerdict) → v.verdict < length x.fixed.settings.types → (place : ℕ) (b : Bool) → (if b then Ok (record { place = place; state = member_after verification account v.verdict (state_at place r.members) }) else Err RejudgingClosed) ≡ Ok change
    → is_addable x (SetMember number change.place change.state) ≡ true = λ v typed place. elim [
      | false ↦ λ k. absurd (cc k)
      | true ↦ λ k. (let is : record { place = place; state = member_after verification account v.verdict (state_at place r.members) } ≡ change = cc k in
          subst (λ (c : MemberChange). is_addable x (SetMember number c.place c.state) ≡ true) is (state_fits x verification account v.verdict (state_at place r.members) known typed))
    ] in
    let member : (v : NamedVerdict) → v.verdict < length x.fixed.settings.types → (o : Option ℕ)
    → elim o as (λ _. Result MemberChange RuleRefusal) [ None ↦ Err UnknownReference | (Some place) ↦ if is_open r then Ok (record { place = place; state = member_after verification account v.verdict (state_at place r.members) }) else Err RejudgingClosed ] ≡ Ok change
    → is_addable x (SetMember number change.place change.state) ≡ true = λ v typed. elim [
      | None ↦ λ k. absurd (cc k)
      | (Some place) ↦ λ k. open_one v typed place (is_open r) k
    ] in
    let go : (o : Option NamedVerdict) → named_verdict x.fixed x.submissions w ≡ o → rejudge_on verification r o account ≡ Ok change → is_addable x (SetMember number change.place change.state) ≡ true = elim [
      | None ↦ λ e k. absurd (cc k)
      | (Some v) ↦ λ e k. member v (named_there x w v e).is_type (member_at v.team v.number r.members) k
    ] in
    go (named_verdict x.fixed x.submissions w) refl h
