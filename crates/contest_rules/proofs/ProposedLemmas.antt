-- A verdict that is proposed may be added, and its release after it.
use Rattle.std.proofs.Common.{◌≡◌, ◌<◌, ◌+◌, ℕ, Bool, true, false, List, [], ◌∷◌, length, Option, Some, None, Result, Ok, Err, refl, sym, subst, arith}
use Rattle.std.specs.Prelude.{◌||◌, ◌==◌, nat_le, nat_lt, filter, find, is_some, if◌then◌else◌}
use Rattle.std.specs.List.{list_any}
use Rattle.std.specs.Option.{option_map, option_and_then}
use Rattle.std.specs.Str.{bytes_eq}
use Rattle.std.proofs.lemmas.Bool.{eq-eqb, lt-ltb, or_right as or_second, or_left as or_first}
use Rattle.std.proofs.lemmas.Bool.Decides.{nat_tests}
use Rattle.std.proofs.lemmas.List.Sums.{length-filter}
use Rattle.contest_types.specs.Accounts.{account_named}
use Rattle.contest_types.specs.Addable.{is_addable, are_addable}
use Rattle.contest_types.specs.State.{ContestState, SubmissionRef, add, names, of_submission, of_proposal, of_release, proposals_for, releases_on}
use Rattle.contest_types.specs.ValidSubmissions.{has_submission}
use Rattle.contest_types.specs.VisibleIds.{submission_id}
use Rattle.contest_types.specs.declared.entry.Entry.{Entry}
use Rattle.contest_types.specs.declared.entry.Entry.TheVariants.{NewProposal, NewRelease}
use Rattle.contest_types.specs.declared.limits.TheConstants.{PROPOSALS}
use Rattle.contest_types.specs.declared.objects.JudgementType.{JudgementType}
use Rattle.contest_types.specs.declared.proposal.Proposal.{Proposal}
use Rattle.contest_rules.specs.declared.rule_refusal.RuleRefusal.{RuleRefusal}
use Rattle.contest_rules.specs.declared.rule_refusal.RuleRefusal.TheVariants.{UnknownReference, AlreadyReleased, TeamLimit}
use Rattle.contest_types.specs.declared.submission.Release.{Release}
use Rattle.contest_types.specs.declared.submission.Submission.{Submission}
use Rattle.contest_types.proofs.PlaceLemmas.{both_true, or_left, or_right, place_within}
use Rattle.contest_rules.specs.Laws.{ProposedIsAddable}
use Rattle.contest_types.specs.ValidRejudgings.{is_released}
use Rattle.contest_rules.specs.Proposing.{entries_of, new_verdict, proposals_made, propose, propose_for}
use Rattle.contest_rules.specs.Verdicts.{first_release, named_verdict, submission_named, type_named}
use Rattle.contest_rules.specs.declared.proposing.NewVerdict.{NewVerdict}
use Rattle.contest_rules.specs.declared.verdicts.NamedVerdict.{NamedVerdict}
use Rattle.contest_rules.specs.declared.verdicts.WantedVerdict.{WantedVerdict}

names_itself : (r : SubmissionRef) → names r.team r.number r ≡ true
names_itself r = both_true (r.team == r.team) (r.number == r.number) (eq-eqb r.team r.team refl) (eq-eqb r.number r.number refl)

-- a submission that is named by its id is there
submission_there : (id : List ℕ) (ss : List Submission) (r : SubmissionRef) → submission_named id ss ≡ Some r → list_any (λ s. names r.team r.number (of_submission s)) ss ≡ true
submission_there id [] r h = absurd (cc h)
submission_there id (s ∷ ss) r h =
    let go : (b : Bool) → option_map of_submission (if b then Some s else find (λ (t : Submission). bytes_eq (submission_id t.team t.number) id) ss) ≡ Some r
    → (names r.team r.number (of_submission s) || list_any (λ t. names r.team r.number (of_submission t)) ss) ≡ true = elim [
      | true ↦ λ e. (let same : of_submission s ≡ r = cc e in or_first (names r.team r.number (of_submission s)) _ (subst (λ q. names r.team r.number q ≡ true) (sym same) (names_itself r)))
      | false ↦ λ e. or_second (names r.team r.number (of_submission s)) _ (submission_there id ss r e)
    ] in
    go (bytes_eq (submission_id s.team s.number) id) h

none_kept : {X : Type 0} (p : X → Bool) (xs : List X) → list_any p xs ≡ false → length (filter p xs) ≡ 0
none_kept p [] h = refl
none_kept {X} p (x ∷ xs) h =
    let go : (b : Bool) → b ≡ false → length (if b then x ∷ filter p xs else filter p xs) ≡ 0 = elim [
      | true ↦ λ e. absurd (cc e)
      | false ↦ λ e. none_kept p xs (or_right (p x) (list_any p xs) h)
    ] in
    go (p x) (or_left (p x) (list_any p xs) h)

mk : SubmissionRef → ℕ → NamedVerdict
mk s verdict = record { team = s.team; number = s.number; verdict = verdict }

-- what a verdict names is there
pub record IsNamed (x : ContestState) (n : NamedVerdict) : Type 0 where
  pub there : has_submission x n.team n.number ≡ true
  pub is_type : n.verdict < length x.fixed.settings.types

typed : (x : ContestState) (id : List ℕ) (s : SubmissionRef) (n : NamedVerdict) (o : Option ℕ) → has_submission x s.team s.number ≡ true → type_named id x.fixed ≡ o
    → option_map (λ (verdict : ℕ). mk s verdict) o ≡ Some n → IsNamed x n
unfolding mk
typed x id s n None there is h = absurd (cc h)
typed x id s n (Some verdict) there is h =
    let same : mk s verdict ≡ n = cc h in
    subst (IsNamed x) same (record { there = there; is_type = place_within (λ (t : JudgementType). t.id) id x.fixed.settings.types verdict is })

pub named_there : (x : ContestState) (w : WantedVerdict) (n : NamedVerdict) → named_verdict x.fixed x.submissions w ≡ Some n → IsNamed x n
unfolding mk
named_there x w n h =
    let go : (o : Option SubmissionRef) → submission_named w.submission x.submissions ≡ o → option_and_then (λ (s : SubmissionRef). option_map (λ verdict. mk s verdict) (type_named w.judgement_type x.fixed)) o ≡ Some n → IsNamed x n = elim [
      | None ↦ λ e k. absurd (cc k)
      | (Some s) ↦ λ e k. typed x w.judgement_type s n (type_named w.judgement_type x.fixed) (submission_there w.submission x.submissions s e) refl k
    ] in
    go (submission_named w.submission x.submissions) refl h

-- what is known of a verdict that may be proposed
pub record MayPropose (x : ContestState) (now : ℕ) (account : List ℕ) (v : NewVerdict) : Type 0 where
  pub named : NamedVerdict
  pub there : IsNamed x named
  pub unreleased : is_released named.team named.number x.releases ≡ false
  pub room : nat_le PROPOSALS (proposals_made named.team named.number x.proposals) ≡ false
  pub is : v ≡ new_verdict x.fixed now account named

for_taken : (released full : Bool) (n v : NewVerdict) → (if released then Err AlreadyReleased else (if full then Err TeamLimit else Ok n)) ≡ Ok v
    → (released ≡ false) × (full ≡ false) × (v ≡ n)
for_taken false false n v e = let same : n ≡ v = cc e in (refl, refl, sym same)
for_taken false true n v e = absurd (cc e)
for_taken true full n v e = absurd (cc e)

pub may_propose : (x : ContestState) (now : ℕ) (account : List ℕ) (w : WantedVerdict) (v : NewVerdict) → propose x.fixed x.submissions x.proposals x.releases now account w ≡ Ok v → MayPropose x now account v
may_propose x now account w v h =
    let go : (o : Option NamedVerdict) → named_verdict x.fixed x.submissions w ≡ o
    → elim o as (λ _. Result NewVerdict RuleRefusal) [ None ↦ Err UnknownReference | (Some n) ↦ propose_for x.fixed x.proposals x.releases now account n ] ≡ Ok v → MayPropose x now account v = elim [
      | None ↦ λ e k. absurd (cc k)
      | (Some n) ↦ λ e k. (let taken = for_taken (is_released n.team n.number x.releases) (nat_le PROPOSALS (proposals_made n.team n.number x.proposals)) (new_verdict x.fixed now account n) v k in
          record { named = n; there = named_there x w n e; unreleased = taken.0; room = taken.1; is = taken.2 })
    ] in
    go (named_verdict x.fixed x.submissions w) refl h

has_room : (n m : ℕ) → nat_le PROPOSALS n ≡ false → m ≡ n → nat_lt m PROPOSALS ≡ true
has_room n m h e = grind (arith, nat_tests)

first_round : (n : ℕ) → n ≡ 0 → (1 == n + 1) ≡ true
first_round n h = rw h refl

-- the release comes after the proposal, which changes no release
pub release_fits : (y : ContestState) (now team number verdict : ℕ) → has_submission y team number ≡ true → verdict < length y.fixed.settings.types → is_released team number y.releases ≡ false
    → is_addable y (NewRelease (record { team = team; number = number; round = 1; verdict = verdict; time = now })) ≡ true
release_fits y now team number verdict there typed unreleased =
    both_true _ _ (both_true _ _ there (lt-ltb verdict (length y.fixed.settings.types) typed))
    (first_round (length (releases_on team number y.releases)) (none_kept (λ (v : Release). names team number (of_release v)) y.releases unreleased))

verdict_fits : (x : ContestState) (now : ℕ) (account : List ℕ) (n : NamedVerdict) → is_some (account_named x.fixed.accounts account) ≡ true → IsNamed x n
    → is_released n.team n.number x.releases ≡ false → nat_le PROPOSALS (proposals_made n.team n.number x.proposals) ≡ false
    → are_addable x (entries_of (new_verdict x.fixed now account n)) ≡ true
verdict_fits x now account n known named unreleased room =
    let p : Proposal = (new_verdict x.fixed now account n).proposal in
    let y : ContestState = add x (NewProposal p) in
    let few : nat_lt (length (proposals_for n.team n.number x.proposals)) PROPOSALS ≡ true =
    has_room (proposals_made n.team n.number x.proposals) (length (proposals_for n.team n.number x.proposals)) room (length-filter (λ (q : Proposal). names n.team n.number (of_proposal q)) x.proposals) in
    let proposed : is_addable x (NewProposal p) ≡ true =
    both_true _ _ (both_true _ _ (both_true _ _ named.there (lt-ltb n.verdict (length x.fixed.settings.types) named.is_type)) known) (both_true _ _ few refl) in
    let go : (b : Bool) → are_addable y (elim (if b then None else Some (first_release now n)) as (λ _. List Entry) [ None ↦ [] | (Some v) ↦ NewRelease v ∷ [] ]) ≡ true = elim [
      | true ↦ refl
      | false ↦ both_true _ _ (release_fits y now n.team n.number n.verdict named.there named.is_type unreleased) refl
    ] in
    both_true _ _ proposed (go x.fixed.settings.head.verification)

pub proposed_is_addable : ProposedIsAddable
proposed_is_addable x now account w v known h =
    let f = may_propose x now account w v h in
    subst (λ u. are_addable x (entries_of u) ≡ true) (sym f.is) (verdict_fits x now account f.named known f.there f.unreleased f.room)
