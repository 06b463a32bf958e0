-- A rejudging is applied whole or not at all, and can't be noticed until then.
use Rattle.std.proofs.Common.{◌≡◌, ◌+◌, ◌∙◌, ℕ, suc, Bool, true, false, List, [], ◌∷◌, ◌++◌, append-nil, length, Option, Some, None, Result, Ok, Err, refl, sym, subst, inl, inr, arith}
use Rattle.std.specs.Prelude.{◌⊎◌, not, if◌then◌else◌}
use Rattle.std.specs.List.{cons_option, filter_map, list_all}
use Rattle.std.specs.Option.{option_map, option_map_or}
use Rattle.std.proofs.lemmas.List.{append_assoc}
use Rattle.contest_types.specs.Order.{Has}
use Rattle.contest_types.specs.State.{ContestState, add, add_all, changed_at, releases_on}
use Rattle.contest_types.specs.ValidRejudgings.{is_open}
use Rattle.contest_types.specs.declared.audience.Audience.{Audience}
use Rattle.contest_types.specs.declared.entry.Entry.{Entry}
use Rattle.contest_types.specs.declared.entry.Entry.TheVariants.{NewRelease}
use Rattle.contest_types.specs.declared.rejudging.Member.{Member}
use Rattle.contest_types.specs.declared.rejudging.Rejudging.{Rejudging}
use Rattle.contest_types.specs.declared.rejudging.RejudgingState.TheVariants.{Applied}
use Rattle.contest_types.specs.declared.submission.Release.{Release}
use Rattle.contest_types.proofs.PlaceLemmas.{and_left, and_right}
use Rattle.contest_rules.specs.Opening.{open_rejudging}
use Rattle.contest_rules.specs.Rejudging.{applied_entries, apply_refusal, cancel_on, is_ready, ready_verdict, rejudge_on, release_of}
use Rattle.contest_rules.specs.Verdicts.{named_verdict}
use Rattle.contest_rules.specs.declared.rejudging.MemberChange.{MemberChange}
use Rattle.contest_rules.specs.declared.rule_refusal.RuleRefusal.{RuleRefusal}
use Rattle.contest_rules.specs.declared.rule_refusal.RuleRefusal.TheVariants.{NotFound, RejudgingClosed, RejudgingIncomplete}
use Rattle.contest_view.specs.Rejudgings.{named_rejudging}
use Rattle.contest_postings.specs.DoneThings.{ruled_with}
use Rattle.contest_postings.specs.PostRejudgings.{apply_change, cancel_change, change_entries, change_object, member_change, opening_entries, opening_object, step_change}
use Rattle.contest_postings.specs.declared.opening.OpenedRejudging.{OpenedRejudging}
use Rattle.contest_postings.specs.declared.rejudging.RejudgingChange.{RejudgingChange}
use Rattle.contest_postings.specs.declared.rejudging.RejudgingStep.TheVariants.{Judge, Apply, Cancel}
use Rattle.contest_operations.specs.Outcomes.{done_or_ruled}
use Rattle.contest_operations.specs.Paths.{jury_piece}
use Rattle.contest_operations.specs.declared.command.Posted.TheVariants.{Submission, Clarification, Proposal, Verification, Opening, Rejudging as OfRejudging, Clock, Final, Change as Changed}
use Rattle.contest_desk.specs.RejudgingLaws.{AppliedIsUnseen, AppliedWhole, IsApplied, UnappliedIsUnseen, member_releases}
use Rattle.contest_desk.specs.Unseen.{AreUnseen, IsUnseenRelease}

-- what is added by one that is applied
releases_added : (x : ContestState) (number : ℕ) (vs : List Release) → (add_all x (applied_entries number vs)).releases ≡ x.releases ++ vs
releases_added x number [] = sym (append-nil x.releases)
releases_added x number (v ∷ vs) = releases_added (add x (NewRelease v)) number vs ∙ append_assoc x.releases (v ∷ []) vs

states_added : (x : ContestState) (number : ℕ) (vs : List Release) → (add_all x (applied_entries number vs)).rejudgings ≡ changed_at 1 number (λ (r : Rejudging). record r { state = Applied }) x.rejudgings
states_added x number [] = refl
states_added x number (v ∷ vs) = states_added (add x (NewRelease v)) number vs

-- where all members are ready each has its release
counted : (o : Option ℕ) (made : ℕ → Release) (more : List Release) (n : ℕ) → length more ≡ n → option_map_or (λ verdict. true) o false ≡ true → length (cons_option (option_map made o) more) ≡ suc n
counted None made more n e k = absurd (cc k)
counted (Some verdict) made more n e k = omega (arith, e)

all_released : (us : List Release) (now : ℕ) (ms : List Member) → list_all is_ready ms ≡ true → length (filter_map (release_of us now) ms) ≡ length ms
all_released us now [] h = refl
all_released us now (m ∷ ms) h =
    let rest = all_released us now ms (and_right (is_ready m) (list_all is_ready ms) h) in
    counted (ready_verdict m.state) (λ verdict. record { team = m.team; number = m.number; round = length (releases_on m.team m.number us) + 1; verdict = verdict; time = now })
    (filter_map (release_of us now) ms) (length ms) rest (and_left (is_ready m) (list_all is_ready ms) h)

-- where nothing refuses it all members are ready
ready : (r : Rejudging) → apply_refusal r ≡ None → list_all is_ready r.members ≡ true
ready r h =
    let go : (a b : Bool) → list_all is_ready r.members ≡ b → (if not a then Some RejudgingClosed else (if b then None else Some RejudgingIncomplete)) ≡ None → b ≡ true = elim [
      | true ↦ elim [ true ↦ λ e k. refl | false ↦ λ e k. absurd (cc k) ]
      | false ↦ λ b e k. absurd (cc k)
    ] in
    go (is_open r) (list_all is_ready r.members) refl h

abbrev told_change : ContestState → Result RejudgingChange RuleRefusal → List Entry
told_change x r = (done_or_ruled (change_object x.fixed) change_entries r).entries

pub applied_whole : AppliedWhole
applied_whole now path x =
    let id = jury_piece path in
    let whole : List Entry → Type 0 = λ es. (es ≡ []) ⊎ IsApplied now id x (add_all x es) in
    let one : (p : ℕ × Rejudging) → named_rejudging id x.rejudgings ≡ Some p → (o : Option RuleRefusal) → apply_refusal p.1 ≡ o
    → whole (told_change x (ruled_with (apply_change p.0 p.1) (elim o as (λ _. Result (List Release) RuleRefusal) [ (Some refusal) ↦ Err refusal | None ↦ Ok (member_releases x now p.1) ]))) = λ p named. elim [
      | (Some refusal) ↦ λ e. inl refl
      | None ↦ λ e. inr (record {
        number = p.0;
        rejudging = p.1;
        named = named;
        releases = releases_added x p.0 (member_releases x now p.1);
        each = all_released x.releases now p.1.members (ready p.1 e);
        states = states_added x p.0 (member_releases x now p.1);
      })
    ] in
    let go : (o : Option (ℕ × Rejudging)) → named_rejudging id x.rejudgings ≡ o → whole (told_change x (elim o as (λ _. Result RejudgingChange RuleRefusal) [ None ↦ Err NotFound | (Some p) ↦ step_change now Apply x p ])) = elim [
      | None ↦ λ e. inl refl
      | (Some p) ↦ λ e. one p e (apply_refusal p.1) refl
    ] in
    go (named_rejudging id x.rejudgings) refl

judged_unseen : (a : Audience) (x : ContestState) (p : ℕ × Rejudging) (r : Result MemberChange RuleRefusal) → AreUnseen a x (told_change x (ruled_with (member_change p.0 p.1) r))
judged_unseen a x p (Err refusal) = tt
judged_unseen a x p (Ok change) = (tt, tt)

cancelled_unseen : (a : Audience) (x : ContestState) (p : ℕ × Rejudging) (r : Result (Unit {0}) RuleRefusal) → AreUnseen a x (told_change x (ruled_with (λ done. cancel_change p.0 p.1) r))
cancelled_unseen a x p (Err refusal) = tt
cancelled_unseen a x p (Ok done) = (tt, tt)

opened_unseen : (a : Audience) (x : ContestState) (r : Result OpenedRejudging RuleRefusal) → AreUnseen a x (done_or_ruled (opening_object x.fixed) opening_entries r).entries
opened_unseen a x (Err refusal) = tt
opened_unseen a x (Ok o) = (tt, tt)

opening_unseen : (a : Audience) (x : ContestState) (make : Rejudging → OpenedRejudging) (r : Result Rejudging RuleRefusal) → AreUnseen a x (done_or_ruled (opening_object x.fixed) opening_entries (ruled_with make r)).entries
opening_unseen a x make r = opened_unseen a x (ruled_with make r)

pub unapplied_is_unseen : UnappliedIsUnseen
unapplied_is_unseen a now (Submission team w) x h = absurd h
unapplied_is_unseen a now (Clarification c) x h = absurd h
unapplied_is_unseen a now (Proposal v) x h = absurd h
unapplied_is_unseen a now (Verification v) x h = absurd h
unapplied_is_unseen a now (Opening w) x h = opening_unseen a x (λ r. record { number = length x.rejudgings + 1; rejudging = r }) (open_rejudging x.fixed x.submissions x.releases x.rejudgings w)
unapplied_is_unseen a now (OfRejudging path (Judge v)) x h =
    let go : (o : Option (ℕ × Rejudging)) → AreUnseen a x (told_change x (elim o as (λ _. Result RejudgingChange RuleRefusal) [ None ↦ Err NotFound | (Some p) ↦ step_change now (Judge v) x p ])) = elim [
      | None ↦ tt
      | (Some p) ↦ judged_unseen a x p (rejudge_on x.fixed.settings.head.verification p.1 (named_verdict x.fixed x.submissions v.wanted) v.account)
    ] in
    go (named_rejudging (jury_piece path) x.rejudgings)
unapplied_is_unseen a now (OfRejudging path Cancel) x h =
    let go : (o : Option (ℕ × Rejudging)) → AreUnseen a x (told_change x (elim o as (λ _. Result RejudgingChange RuleRefusal) [ None ↦ Err NotFound | (Some p) ↦ step_change now Cancel x p ])) = elim [
      | None ↦ tt
      | (Some p) ↦ cancelled_unseen a x p (cancel_on p.1)
    ] in
    go (named_rejudging (jury_piece path) x.rejudgings)
unapplied_is_unseen a now (OfRejudging path Apply) x h = absurd h
unapplied_is_unseen a now (Clock w) x h = absurd h
unapplied_is_unseen a now Final x h = absurd h
unapplied_is_unseen a now (Changed w) x h = absurd h

-- releases that aren't noticed, one after another
unseen_releases : (a : Audience) (x : ContestState) (number : ℕ) (vs : List Release) → ((v : Release) → Has vs v → IsUnseenRelease a x v) → AreUnseen a x (applied_entries number vs)
unseen_releases a x number [] h = (tt, tt)
unseen_releases a x number (v ∷ vs) h =
    (h v (inl refl), unseen_releases a (add x (NewRelease v)) number vs (λ u there. (let k = h u (inr there) in record { other = k.other; held = k.held })))

pub applied_is_unseen : AppliedIsUnseen
applied_is_unseen a now path x number r named unseen =
    let go : (o : Option RuleRefusal)
    → AreUnseen a x (told_change x (ruled_with (apply_change number r) (elim o as (λ _. Result (List Release) RuleRefusal) [ (Some refusal) ↦ Err refusal | None ↦ Ok (member_releases x now r) ]))) = elim [
      | (Some refusal) ↦ tt
      | None ↦ unseen_releases a x number (member_releases x now r) unseen
    ] in
    let step : Option (ℕ × Rejudging) → Result RejudgingChange RuleRefusal = λ o. elim o as (λ _. Result RejudgingChange RuleRefusal) [ None ↦ Err NotFound | (Some p) ↦ step_change now Apply x p ] in
    subst (λ o. AreUnseen a x (told_change x (step o))) (sym named) (go (apply_refusal r))
