-- How verdicts come to be released.
use Rattle.std.proofs.Common.{◌≡◌, ◌∙◌, ◌⊎◌, ◌<◌, ◌+◌, ℕ, Bool, true, false, List, [], ◌∷◌, ◌++◌, Option, Some, None, Result, Ok, Err, length, inl, inr, refl, sym, ap, ap₂, subst, arith}
use Rattle.std.specs.Prelude.{◌&&◌, ◌==◌, not, nat_le, if◌then◌else◌}
use Rattle.std.specs.List.{filter_map, list_all}
use Rattle.std.specs.Option.{option_map}
use Rattle.std.specs.Str.{bytes_eq}
use Rattle.std.proofs.lemmas.Bool.{eqb-true, false≢true, ltb-true}
use Rattle.contest_types.specs.Order.{Has}
use Rattle.contest_types.specs.State.{ContestState, FixedPart, names, of_proposal, of_release, proposals_for, releases_on}
use Rattle.contest_types.specs.Valid.{is_valid}
use Rattle.contest_types.specs.ValidRejudgings.{are_different_members, has_release, is_open, is_released, is_valid_member, is_valid_rejudging, is_valid_state, open_members}
use Rattle.contest_types.specs.declared.entry.Entry.TheVariants.{NewRelease, SetMember}
use Rattle.contest_types.specs.declared.limits.TheConstants.{PROPOSALS, REJUDGING_MEMBERS, REJUDGINGS}
use Rattle.contest_types.specs.declared.proposal.Proposal.{Proposal}
use Rattle.contest_types.specs.declared.rejudging.Member.{Member}
use Rattle.contest_types.specs.declared.rejudging.MemberState.{MemberState}
use Rattle.contest_types.specs.declared.rejudging.MemberState.TheVariants.{Empty, Proposed, Ready}
use Rattle.contest_types.specs.declared.rejudging.Rejudging.{Rejudging}
use Rattle.contest_types.specs.declared.submission.Release.{Release}
use Rattle.contest_types.proofs.InOrderLemmas.{has_either, option_has}
use Rattle.contest_types.proofs.PlaceLemmas.{and_left, or_left, or_right}
use Rattle.contest_types.proofs.SeenWhole.{all_has}
use Rattle.contest_types.proofs.ValidParts.{parts}
use Rattle.contest_rules.specs.Proposing.{release_at_once}
use Rattle.contest_rules.specs.Rejudging.{apply_on, apply_refusal, member_after, member_at, ready_verdict, rejudge_on, release_of, state_at}
use Rattle.contest_rules.specs.Verdicts.{first_release, named_verdict}
use Rattle.contest_rules.specs.Verifying.{is_proposer, last_proposal, verify, verify_for, verify_of}
use Rattle.contest_rules.specs.declared.proposing.NewVerdict.{NewVerdict}
use Rattle.contest_rules.specs.declared.rejudging.MemberChange.{MemberChange}
use Rattle.contest_rules.specs.declared.rule_refusal.RuleRefusal.{RuleRefusal}
use Rattle.contest_rules.specs.declared.rule_refusal.RuleRefusal.TheVariants.{AlreadyReleased, NothingToVerify, RejudgingClosed, SameJudge, TypeDiffers, UnknownReference}
use Rattle.contest_rules.specs.declared.verdicts.NamedVerdict.{NamedVerdict}
use Rattle.contest_rules.specs.declared.verdicts.WantedVerdict.{WantedVerdict}
use Rattle.contest_files.specs.FieldTexts.{Text}
use Rattle.contest_rules.proofs.JudgedLemmas.{counted_released}
use Rattle.contest_rules.proofs.ProposedLemmas.{may_propose, named_there}
use Rattle.contest_view.proofs.RejudgingLemmas.{named_has}
use Rattle.contest_import_verdicts.specs.VerdictFiles.{after_record, after_records, if_added, imported_verdict, or_fault_of, record_verdict, verdict_on, verdict_records, verdict_wanted, verdicts_in, wanted_in, with_verdict, with_verdicts}
use Rattle.contest_operations.specs.Paths.{jury_piece}
use Rattle.contest_operations.specs.Step.{wish_or_reply}
use Rattle.contest_operations.specs.declared.command.Posted.TheVariants.{Submission, Clarification, Proposal as ToPropose, Verification, Opening, Rejudging as OfRejudging, Clock, Final, Change as Changed}
use Rattle.contest_operations.specs.declared.reply.Reply.{Reply}
use Rattle.contest_operations.specs.declared.wish.Wish.{Wish}
use Rattle.contest_operations.specs.declared.wish.Wish.TheVariants.{Do, Read}
use Rattle.contest_postings.specs.PostChanges.{made_entry}
use Rattle.contest_postings.specs.declared.changes.FixedChange.{FixedChange}
use Rattle.contest_postings.specs.declared.changes.FixedChange.TheVariants.{Account as OfAccount, Team as OfTeam, Token as OfToken, Name as OfName, Extension as OfExtension}
use Rattle.contest_postings.specs.declared.rejudging.RejudgingStep.TheVariants.{Apply, Cancel, Judge}
use Rattle.contest_requests.specs.declared.jury_verdict.JuryVerdict.{JuryVerdict}
use Rattle.contest_desk.specs.declared.item.Item.{Item}
use Rattle.contest_desk.specs.declared.item.RequestItem.{RequestItem}
use Rattle.contest_desk.specs.declared.item.Item.TheVariants as item
use Rattle.contest_types.specs.VerdictAdditions.{first_addition, imported_for, verdict_addition}
use Rattle.contest_types.specs.ValidSubmissions.{has_submission, is_valid_proposal}
use Rattle.contest_types.specs.declared.refusal.Cause.TheVariants.{AlreadyReleased as CauseReleased, KeyReused, TableFull, UnknownReference as CauseUnknown}
use Rattle.contest_types.specs.declared.import_kind.ImportKind.{ImportKind}
use Rattle.contest_types.specs.declared.import_kind.ImportKind.TheVariants as kind
use Rattle.contest_rules.specs.declared.clock_changes.WantedClock.TheVariants.{Start, Thaw}
use Rattle.contest_types.specs.declared.refusal.Cause.{Cause}
use Rattle.contest_laws.specs.Sources.{FileAdds, IsNamed, ItemAdds, WishAdds}
use Rattle.contest_laws.specs.Verdicts.{Asks, IsSettled, OnlyRejudgingsRevise, TwoJudgesRejudge, TwoJudgesRelease, WasSettled}
use Rattle.contest_laws.proofs.ClockSources.{of_clock, of_final}
use Rattle.contest_laws.proofs.SourceLemmas.{item_adds_so}

-- ---- a release that goes with a proposal is a first one

at_once_first : (f : FixedPart) (now : ℕ) (n : NamedVerdict) (v : Release) → release_at_once f now n ≡ Some v → (v ≡ first_release now n) × (f.settings.head.verification ≡ false)
at_once_first f now n v is = go f.settings.head.verification refl is
  where
    go : (b : Bool) → f.settings.head.verification ≡ b → (if b then None else Some (first_release now n)) ≡ Some v → (v ≡ first_release now n) × (f.settings.head.verification ≡ false)
    go true e k = absurd (cc k)
    go false e k = let same : first_release now n ≡ v = cc k in (sym same, e)

-- a verdict of a file is named, and releases by the same rule
pub record IsImported (x : ContestState) (now : ℕ) (v : NewVerdict) : Type 0 where
  pub named : NamedVerdict
  pub is : v ≡ imported_verdict x.fixed now named
  pub there : has_submission x named.team named.number ≡ true

-- and nothing was released on its submission
pub record IsTaken (x : ContestState) (now : ℕ) (v : NewVerdict) : Type 0 where
  pub imported : IsImported x now v
  pub unreleased : is_released imported.named.team imported.named.number x.releases ≡ false

abbrev pub AllImported : ContestState → ℕ → List NewVerdict → Type 0
AllImported x now vs = (v : NewVerdict) → Has vs v → IsTaken x now v

on_named : (x : ContestState) (now : ℕ) (w : WantedVerdict) (o : Option NamedVerdict) (v : NewVerdict) → named_verdict x.fixed x.submissions w ≡ o → verdict_on x.fixed now o ≡ Ok v → IsImported x now v
on_named x now w None v e is = absurd (cc is)
on_named x now w (Some n) v e is = let same : imported_verdict x.fixed now n ≡ v = cc is in record { named = n; is = sym same; there = (named_there x w n e).there }

of_wanted : (x : ContestState) (now : ℕ) (row : List Text) (v : NewVerdict) → record_verdict x now row ≡ Ok v → IsImported x now v
of_wanted x now row v = go (wanted_in row)
  where
    go : (o : Option WantedVerdict) → verdict_wanted x now o ≡ Ok v → IsImported x now v
    go None is = absurd (cc is)
    go (Some w) is = on_named x now w (named_verdict x.fixed x.submissions w) v refl is

abbrev OkImported : {E : Type 0} → ContestState → ℕ → Result (List NewVerdict) E → Type 0
OkImported x now (Ok vs) = AllImported x now vs
OkImported x now (Err e) = Unit {0}

one_more : (x : ContestState) (now : ℕ) (so_far : List NewVerdict) (v : NewVerdict) → IsTaken x now v → AllImported x now so_far → AllImported x now (so_far ++ v ∷ [])
one_more x now so_far v is all w h = elim (has_either so_far (v ∷ []) w h) [ inl before ↦ all w before | inr new ↦ elim new [ inl same ↦ subst (IsTaken x now) (sym same) is | inr none ↦ absurd none ] ]

-- a verdict that adds something is on a submission without a release
fresh : (x : ContestState) (so_far : List NewVerdict) (p : Proposal) → verdict_addition (with_verdicts x so_far) p ≡ Ok true → is_released p.team p.number x.releases ≡ false
fresh x so_far p is = valid (is_valid_proposal y p) is
  where
    y : ContestState
    y = with_verdicts x so_far

    front : (vs ws : List Release) → is_released p.team p.number (vs ++ ws) ≡ false → is_released p.team p.number vs ≡ false
    front [] ws h = refl
    front (v ∷ vs) ws h = rw (or_left (names p.team p.number (of_release v)) (is_released p.team p.number (vs ++ ws)) h) (front vs ws (or_right (names p.team p.number (of_release v)) (is_released p.team p.number (vs ++ ws)) h))

    released : (full b : Bool) → is_released p.team p.number (with_verdicts x so_far).releases ≡ b → (if full then Err TableFull else (if b then Err CauseReleased else Ok true)) ≡ Ok true → is_released p.team p.number x.releases ≡ false
    released true b e k = absurd (cc k)
    released false true e k = absurd (cc k)
    released false false e k = front x.releases _ e

    imported : (o : Option Proposal) → elim o as (λ _. Result Bool Cause) [ (Some earlier) ↦ if earlier.verdict == p.verdict then Ok false else Err KeyReused | None ↦ first_addition (with_verdicts x so_far) p ] ≡ Ok true → is_released p.team p.number x.releases ≡ false
    imported (Some earlier) k = again (earlier.verdict == p.verdict) k
      where
        again : (b : Bool) → (if b then Ok false else Err KeyReused) ≡ Ok true → is_released p.team p.number x.releases ≡ false
        again true j = absurd (cc j)
        again false j = absurd (cc j)
    imported None k = released (nat_le PROPOSALS (length (proposals_for p.team p.number (with_verdicts x so_far).proposals))) (has_release (with_verdicts x so_far) p.team p.number) refl k

    valid : (b : Bool) → (if not b then Err CauseUnknown else (elim (imported_for (with_verdicts x so_far) (of_proposal p)) as (λ _. Result Bool Cause) [
      | (Some earlier) ↦ if earlier.verdict == p.verdict then Ok false else Err KeyReused
      | None ↦ first_addition (with_verdicts x so_far) p
    ])) ≡ Ok true → is_released p.team p.number x.releases ≡ false
    valid true k = imported (imported_for (with_verdicts x so_far) (of_proposal p)) k
    valid false k = absurd (cc k)

added : (x : ContestState) (now : ℕ) (so_far : List NewVerdict) (v : NewVerdict) (r : Result Bool Cause) → verdict_addition (with_verdicts x so_far) v.proposal ≡ r → IsImported x now v → AllImported x now so_far → OkImported x now (if_added so_far v r)
added x now so_far v (Err c) e is all = tt
added x now so_far v (Ok true) e is all =
    let free : is_released is.named.team is.named.number x.releases ≡ false = ap (λ (u : NewVerdict). is_released u.proposal.team u.proposal.number x.releases) (sym is.is) ∙ fresh x so_far v.proposal e in
    one_more x now so_far v (record { imported = is; unreleased = free }) all
added x now so_far v (Ok false) e is all = all

recorded : (x : ContestState) (now : ℕ) (so_far : List NewVerdict) (row : List Text) → AllImported x now so_far → OkImported x now (after_record x now so_far row)
recorded x now so_far row all = go (record_verdict x now row) refl
  where
    go : (r : Result NewVerdict Cause) → record_verdict x now row ≡ r → OkImported x now (with_verdict x so_far r)
    go (Err c) e = tt
    go (Ok v) e = added x now so_far v (verdict_addition (with_verdicts x so_far) v.proposal) refl (of_wanted x now row v e) all

all_recorded : (x : ContestState) (now : ℕ) (so_far : List NewVerdict) (n : ℕ) (rows : List (List Text)) → AllImported x now so_far → OkImported x now (after_records x now so_far n rows)
all_recorded x now so_far n [] all = all
all_recorded x now so_far n (row ∷ rows) all =
    let go : (r : Result (List NewVerdict) Cause) → OkImported x now r → OkImported x now (or_fault_of n (λ more. after_records x now more (n + 1) rows) r) = elim [
      | (Ok vs) ↦ λ h. all_recorded x now vs (n + 1) rows h
      | (Err c) ↦ λ h. tt
    ] in
    go (after_record x now so_far row) (recorded x now so_far row all)

-- each verdict of a file that is taken
pub imported_all : (x : ContestState) (now : ℕ) (file : List ℕ) (vs : List NewVerdict) → verdicts_in x now (verdict_records file) ≡ Ok vs → AllImported x now vs
imported_all x now file vs = go (verdict_records file)
  where
    go : (o : Option (List (List Text))) → verdicts_in x now o ≡ Ok vs → AllImported x now vs
    go None is = absurd (cc is)
    go (Some rows) is = subst (OkImported x now) is (all_recorded x now [] 1 rows (λ v h. absurd h))

-- ---- what is changed adds none of these

no_change : (c : FixedChange) (v : Release) → NewRelease v ≡ made_entry c → ⊥
no_change (OfAccount a) v e = cc e
no_change (OfTeam t) v e = cc e
no_change (OfToken a digest) v e = cc e
no_change (OfName place t) v e = cc e
no_change (OfExtension duration freeze) v e = cc e

no_member : (c : FixedChange) (n place : ℕ) (s : MemberState) → SetMember n place s ≡ made_entry c → ⊥
no_member (OfAccount a) n place s e = cc e
no_member (OfTeam t) n place s e = cc e
no_member (OfToken a digest) n place s e = cc e
no_member (OfName at t) n place s e = cc e
no_member (OfExtension duration freeze) n place s e = cc e

-- ---- what adds a release

same_release : (r v : Release) → NewRelease v ≡ NewRelease r → r ≡ v
same_release r v e = let same : v ≡ r = cc e in sym same

-- how a release may come: first, at once, where nobody has to verify; by a verification; or by a rejudging
record AtOnce (f : FixedPart) (v : Release) : Type 0 where
  pub round : v.round ≡ 1
  pub unverified : f.settings.head.verification ≡ false

by_verdict : (f : FixedPart) (now : ℕ) (n : NamedVerdict) (o : Option Release) (v : Release) → o ≡ release_at_once f now n → o ≡ Some v → AtOnce f v
by_verdict f now n o v made is =
    let r = at_once_first f now n v (sym made ∙ is) in
    record { round = ap (λ (u : Release). u.round) r.0; unverified = r.1 }

-- a rejudging that is applied
abbrev OfApply : ContestState → (now : ℕ) → Item → Release → Type 0
OfApply x now i v = (path : List ℕ) × Asks x i (OfRejudging path Apply) × (n : ℕ) × (r : Rejudging) × IsNamed x path n r × (vs : List Release) × (apply_on x.releases now r ≡ Ok vs) × Has vs v

-- a judge who verifies
abbrev OfVerify : ContestState → (now : ℕ) → Item → Release → Type 0
OfVerify x now i v = (w : JuryVerdict) × Asks x i (Verification w) × (verify x.fixed x.submissions x.proposals x.releases now w.account w.wanted ≡ Ok v)

abbrev Comes : ContestState → Item → Release → Type 0
Comes x i v = AtOnce x.fixed v ⊎ ((now : ℕ) × (OfApply x now i v ⊎ OfVerify x now i v))

asked_release : (x : ContestState) (i : RequestItem) (r : Result Wish Reply) (v : Release) → wish_or_reply x.fixed i.credential i.request ≡ r → WishAdds x i.now r (NewRelease v) → Comes x (item.Request i) v
asked_release x i (Err reply) v is h = absurd h
asked_release x i (Ok (Read reading a named)) v is h = absurd h
asked_release x i (Ok (Do (Submission team w))) v is (s, sent, e) = absurd (cc e)
asked_release x i (Ok (Do (Clarification c))) v is (d, said, e) = absurd (cc e)
asked_release x i (Ok (Do (ToPropose w))) v is (n, made, inl e) = absurd (cc e)
asked_release x i (Ok (Do (ToPropose w))) v is (n, made, inr (r, at_once, e)) =
    let may = may_propose x i.now w.account w.wanted n made in
    inl (by_verdict x.fixed i.now may.named n.release v (ap (λ (u : NewVerdict). u.release) may.is) (at_once ∙ ap Some (same_release r v e)))
asked_release x i (Ok (Do (Verification w))) v is (r, verified, e) = inr (i.now, inr (w, is, verified ∙ ap Ok (same_release r v e)))
asked_release x i (Ok (Do (Opening w))) v is (r, opened, e) = absurd (cc e)
asked_release x i (Ok (Do (OfRejudging path (Judge w)))) v is (n, r, named, c, judged, e) = absurd (cc e)
asked_release x i (Ok (Do (OfRejudging path Apply))) v is (n, r, named, vs, applied, inl (u, there, e)) = inr (i.now, inl (path, is, n, r, named, vs, applied, subst (Has vs) (same_release u v e) there))
asked_release x i (Ok (Do (OfRejudging path Apply))) v is (n, r, named, vs, applied, inr e) = absurd (cc e)
asked_release x i (Ok (Do (OfRejudging path Cancel))) v is (n, r, named, cancelled, e) = absurd (cc e)
asked_release x i (Ok (Do (Clock (Start start)))) v is (c, set, e) = absurd (cc (e ∙ (of_clock x i.now (Start start) c set).1))
asked_release x i (Ok (Do (Clock (Thaw thaw)))) v is (c, set, e) = absurd (cc (e ∙ (of_clock x i.now (Thaw thaw) c set).1))
asked_release x i (Ok (Do Final)) v is (c, set, e) = absurd (cc (e ∙ (of_final x i.now c set).1))
asked_release x i (Ok (Do (Changed w))) v is (m, made, new, e) = absurd (no_change m.change v e)

release_comes : (x : ContestState) (i : Item) (v : Release) → ItemAdds x i (NewRelease v) → Comes x i v
release_comes x (item.Request i) v h = asked_release x i (wish_or_reply x.fixed i.credential i.request) v refl h
release_comes x (item.Import i) v h = of_file i.kind h
  where
    of_file : (k : ImportKind) → FileAdds x i.now k i.file (NewRelease v) → Comes x (item.Import i) v
    of_file (kind.Fixed k) g = absurd g
    of_file kind.VerdictsCsv (vs, taken, n, there, inl e) = absurd (cc e)
    of_file kind.VerdictsCsv (vs, taken, n, there, inr (r, at_once, e)) =
        let imported = (imported_all x i.now i.file vs taken n there).imported in
        inl (by_verdict x.fixed i.now imported.named n.release v (ap (λ (u : NewVerdict). u.release) imported.is) (at_once ∙ ap Some (same_release r v e)))

-- ---- by a verification

verified_of : (now : ℕ) (account : List ℕ) (n : NamedVerdict) (p : Proposal) (v : Release) → verify_of now account n p ≡ Ok v → (is_proposer account p.proposer ≡ false) × (p.verdict ≡ n.verdict) × (v ≡ first_release now n)
verified_of now account n p v is = go (is_proposer account p.proposer) (p.verdict == n.verdict) refl refl is
  where
    go : (same_judge same_type : Bool) → is_proposer account p.proposer ≡ same_judge → (p.verdict == n.verdict) ≡ same_type → (if same_judge then Err SameJudge else (if same_type then Ok (first_release now n) else Err TypeDiffers)) ≡ Ok v
        → (is_proposer account p.proposer ≡ false) × (p.verdict ≡ n.verdict) × (v ≡ first_release now n)
    go true same_type e f k = absurd (cc k)
    go false false e f k = absurd (cc k)
    go false true e f k = let same : first_release now n ≡ v = cc k in (e, eqb-true p.verdict n.verdict f, sym same)

pub record ByOther (x : ContestState) (now : ℕ) (account : List ℕ) (v : Release) : Type 0 where
  pub named : NamedVerdict
  pub there : has_submission x named.team named.number ≡ true
  pub unreleased : is_released named.team named.number x.releases ≡ false
  pub proposal : Proposal
  pub last : last_proposal v.team v.number x.proposals ≡ Some proposal
  pub other : is_proposer account proposal.proposer ≡ false
  pub same : proposal.verdict ≡ v.verdict
  pub first : v.round ≡ 1

pub by_other : (x : ContestState) (now : ℕ) (account : List ℕ) (w : WantedVerdict) (v : Release) → verify x.fixed x.submissions x.proposals x.releases now account w ≡ Ok v → ByOther x now account v
by_other x now account w v = named (named_verdict x.fixed x.submissions w) refl
  where
    proposed : (n : NamedVerdict) (released : Bool) (o : Option Proposal) → has_submission x n.team n.number ≡ true → is_released n.team n.number x.releases ≡ released → last_proposal n.team n.number x.proposals ≡ o
        → (if released then Err AlreadyReleased else elim o as (λ _. Result Release RuleRefusal) [ None ↦ Err NothingToVerify | (Some p) ↦ verify_of now account n p ]) ≡ Ok v → ByOther x now account v
    proposed n true o t u e k = absurd (cc k)
    proposed n false None t u e k = absurd (cc k)
    proposed n false (Some p) t u e k =
        let r = verified_of now account n p v k in
        record {
          named = n;
          there = t;
          unreleased = u;
          proposal = p;
          last = ap (λ (u : Release). last_proposal u.team u.number x.proposals) r.2 ∙ e;
          other = r.0;
          same = r.1 ∙ ap (λ (u : Release). u.verdict) (sym r.2);
          first = ap (λ (u : Release). u.round) r.2;
        }

    named : (o : Option NamedVerdict) → named_verdict x.fixed x.submissions w ≡ o → elim o as (λ _. Result Release RuleRefusal) [ None ↦ Err UnknownReference | (Some n) ↦ verify_for x.proposals x.releases now account n ] ≡ Ok v → ByOther x now account v
    named None e k = absurd (cc k)
    named (Some n) e k = proposed n (is_released n.team n.number x.releases) (last_proposal n.team n.number x.proposals) (named_there x w n e).there refl refl k

-- ---- by a rejudging, whose rounds count on

applied_is : (x : ContestState) (now : ℕ) (r : Rejudging) (vs : List Release) → apply_on x.releases now r ≡ Ok vs → vs ≡ filter_map (release_of x.releases now) r.members
applied_is x now r vs = go (apply_refusal r)
  where
    go : (o : Option RuleRefusal) → elim o as (λ _. Result (List Release) RuleRefusal) [ (Some refusal) ↦ Err refusal | None ↦ Ok (filter_map (release_of x.releases now) r.members) ] ≡ Ok vs → vs ≡ filter_map (release_of x.releases now) r.members
    go (Some refusal) k = absurd (cc k)
    go None k = let same : filter_map (release_of x.releases now) r.members ≡ vs = cc k in sym same

-- a release of a member
record OfMember (x : ContestState) (now : ℕ) (ms : List Member) (v : Release) : Type 0 where
  pub member : Member
  pub there : Has ms member
  pub made : release_of x.releases now member ≡ Some v

of_member : (x : ContestState) (now : ℕ) (ms : List Member) (v : Release) → Has (filter_map (release_of x.releases now) ms) v → OfMember x now ms v
of_member x now [] v h = absurd h
of_member x now (m ∷ ms) v h = elim (option_has (release_of x.releases now m) (filter_map (release_of x.releases now) ms) v h) [
  | inl here ↦ record { member = m; there = inl refl; made = here }
  | inr more ↦ (let r = of_member x now ms v more in record { member = r.member; there = inr r.there; made = r.made })
]

later_round : (x : ContestState) (now : ℕ) (m : Member) (v : Release) → release_of x.releases now m ≡ Some v → v.round ≡ length (releases_on m.team m.number x.releases) + 1
later_round x now m v = go (ready_verdict m.state)
  where
    make : ℕ → Release
    make verdict = record { team = m.team; number = m.number; round = length (releases_on m.team m.number x.releases) + 1; verdict = verdict; time = now }

    go : (o : Option ℕ) → option_map {U = Release} (λ verdict. record { team = m.team; number = m.number; round = length (releases_on m.team m.number x.releases) + 1; verdict = verdict; time = now }) o ≡ Some v → v.round ≡ length (releases_on m.team m.number x.releases) + 1
    go None k = absurd (cc k)
    go (Some verdict) k = let same : record { team = m.team; number = m.number; round = length (releases_on m.team m.number x.releases) + 1; verdict = verdict; time = now } ≡ v = cc k in ap (λ (u : Release). u.round) (sym same)

member_released : (x : ContestState) (r : Rejudging) → is_valid x ≡ true → Has x.rejudgings r → (m : Member) → Has r.members m → 0 < length (releases_on m.team m.number x.releases)
member_released x r valid there m h =
    let all = and_left (list_all (is_valid_rejudging x) x.rejudgings) (are_different_members (open_members x.rejudgings)) (and_left (list_all (is_valid_rejudging x) x.rejudgings && are_different_members (open_members x.rejudgings)) (nat_le (length x.rejudgings) REJUDGINGS) (parts x valid).rejudgings) in
    let one : is_valid_rejudging x r ≡ true = all_has (is_valid_rejudging x) x.rejudgings r all there in
    let members = and_left (list_all (is_valid_member x) r.members) (are_different_members r.members) (and_left (list_all (is_valid_member x) r.members && are_different_members r.members) (nat_le (length r.members) REJUDGING_MEMBERS) one) in
    let member : is_valid_member x m ≡ true = all_has (is_valid_member x) r.members m members h in
    ltb-true 0 (length (releases_on m.team m.number x.releases)) (counted_released m.team m.number x.releases ∙ and_left (has_release x m.team m.number) (is_valid_state x.fixed m.state) member)

-- ---- the laws

pub only_rejudgings_revise : OnlyRejudgingsRevise
only_rejudgings_revise x i v h late = elim (release_comes x i v (item_adds_so x i (NewRelease v) h)) [
  | inl once ↦ absurd (omega (arith, late, once.round))
  | inr (now, inl (path, asked, n, r, named, vs, applied, there)) ↦ record { path = path; asked = asked; number = n; rejudging = r; named = named; now = now; releases = vs; applied = applied; there = there }
  | inr (now, inr (w, asked, verified)) ↦ absurd (omega (arith, late, (by_other x now w.account w.wanted v verified).first))
]

pub two_judges_release : TwoJudgesRelease
two_judges_release x i v valid verification h first = elim (release_comes x i v (item_adds_so x i (NewRelease v) h)) [
  | inl once ↦ absurd (false≢true (sym once.unverified ∙ verification))
  | inr (now, inl (path, asked, n, r, named, vs, applied, there)) ↦ (let m = of_member x now r.members v (subst (λ us. Has us v) (applied_is x now r vs applied) there) in
      let some = member_released x r valid (named_has (jury_piece path) x.rejudgings (n, r) named) m.member m.there in
      absurd (omega (arith, first, some, later_round x now m.member v m.made)))
  | inr (now, inr (w, asked, verified)) ↦ (let b = by_other x now w.account w.wanted v verified in record { verdict = w; asked = asked; proposal = b.proposal; last = b.last; other = b.other; same = b.same })
]

-- ---- members of rejudgings

settled : (account : List ℕ) (verdict ready : ℕ) (s : MemberState) → member_after true account verdict s ≡ Ready ready → WasSettled account ready s
settled account verdict ready Empty is = absurd (cc is)
settled account verdict ready (Ready was) is = go (was == verdict) refl is
  where
    go : (b : Bool) → (was == verdict) ≡ b → (if b then Ready verdict else Proposed verdict account) ≡ Ready ready → was ≡ ready
    go true e k = let same : verdict ≡ ready = cc k in eqb-true was verdict e ∙ same
    go false e k = absurd (cc k)
settled account verdict ready (Proposed proposed by) is = go (proposed == verdict) (bytes_eq by account) refl refl is
  where
    go : (a b : Bool) → (proposed == verdict) ≡ a → bytes_eq by account ≡ b → (if a && not b then Ready verdict else Proposed verdict account) ≡ Ready ready → (proposed ≡ ready) × (bytes_eq by account ≡ false)
    go true true e f k = absurd (cc k)
    go true false e f k = let same : verdict ≡ ready = cc k in (eqb-true proposed verdict e ∙ same, f)
    go false b e f k = absurd (cc k)

judged_settled : (verification : Bool) (r : Rejudging) (o : Option NamedVerdict) (account : List ℕ) (place ready : ℕ) → verification ≡ true → rejudge_on verification r o account ≡ Ok (record { place = place; state = Ready ready })
    → WasSettled account ready (state_at place r.members)
judged_settled verification r None account place ready v is = absurd (cc is)
judged_settled verification r (Some n) account place ready v is = at (member_at n.team n.number r.members) is
  where
    go : (p : ℕ) (open_now : Bool) → (let c : MemberChange = record { place = p; state = member_after verification account n.verdict (state_at p r.members) } in if open_now then Ok c else Err RejudgingClosed) ≡ Ok (record { place = place; state = Ready ready })
        → WasSettled account ready (state_at place r.members)
    go p false k = absurd (cc k)
    go p true k =
        let changed : record { place = p; state = member_after verification account n.verdict (state_at p r.members) } ≡ record { place = place; state = Ready ready } = cc k in
        let same : p ≡ place = ap (λ (c : MemberChange). c.place) changed in
        let state : member_after verification account n.verdict (state_at p r.members) ≡ Ready ready = ap (λ (c : MemberChange). c.state) changed in
        settled account n.verdict ready (state_at place r.members) (ap (λ b. member_after b account n.verdict (state_at place r.members)) (sym v) ∙ ap (λ q. member_after verification account n.verdict (state_at q r.members)) (sym same) ∙ state)

    at : (o : Option ℕ) → elim o as (λ _. Result MemberChange RuleRefusal) [
      | None ↦ Err UnknownReference
      | (Some p) ↦ (let c : MemberChange = record { place = p; state = member_after verification account n.verdict (state_at p r.members) } in if is_open r then Ok c else Err RejudgingClosed)
    ] ≡ Ok (record { place = place; state = Ready ready }) → WasSettled account ready (state_at place r.members)
    at None k = absurd (cc k)
    at (Some p) k = go p (is_open r) k

asked_member : (x : ContestState) (i : RequestItem) (r : Result Wish Reply) (n place ready : ℕ) → x.fixed.settings.head.verification ≡ true → wish_or_reply x.fixed i.credential i.request ≡ r → WishAdds x i.now r (SetMember n place (Ready ready)) → IsSettled x (item.Request i) n place ready
asked_member x i (Err reply) n place ready v is h = absurd h
asked_member x i (Ok (Read reading a named)) n place ready v is h = absurd h
asked_member x i (Ok (Do (Submission team w))) n place ready v is (s, sent, e) = absurd (cc e)
asked_member x i (Ok (Do (Clarification c))) n place ready v is (d, said, e) = absurd (cc e)
asked_member x i (Ok (Do (ToPropose w))) n place ready v is (made, proposed, inl e) = absurd (cc e)
asked_member x i (Ok (Do (ToPropose w))) n place ready v is (made, proposed, inr (r, at_once, e)) = absurd (cc e)
asked_member x i (Ok (Do (Verification w))) n place ready v is (r, verified, e) = absurd (cc e)
asked_member x i (Ok (Do (Opening w))) n place ready v is (r, opened, e) = absurd (cc e)
asked_member x i (Ok (Do (OfRejudging path (Judge w)))) n place ready v is (m, r, named, c, judged, e) =
    let number : n ≡ m = cc e in
    let at : place ≡ c.place = cc e in
    let state : Ready ready ≡ c.state = cc e in
    let made : c ≡ record { place = place; state = Ready ready } = ap₂ (λ p s. record { place = p; state = s }) (sym at) (sym state) in
    record {
      path = path;
      judged = w;
      asked = is;
      rejudging = r;
      named = named ∙ ap (λ k. Some (k, r)) (sym number);
      settled = judged_settled x.fixed.settings.head.verification r (named_verdict x.fixed x.submissions w.wanted) w.account place ready v (judged ∙ ap Ok made);
    }
asked_member x i (Ok (Do (OfRejudging path Apply))) n place ready v is (m, r, named, vs, applied, inl (u, there, e)) = absurd (cc e)
asked_member x i (Ok (Do (OfRejudging path Apply))) n place ready v is (m, r, named, vs, applied, inr e) = absurd (cc e)
asked_member x i (Ok (Do (OfRejudging path Cancel))) n place ready v is (m, r, named, cancelled, e) = absurd (cc e)
asked_member x i (Ok (Do (Clock (Start start)))) n place ready v is (c, set, e) = absurd (cc (e ∙ (of_clock x i.now (Start start) c set).1))
asked_member x i (Ok (Do (Clock (Thaw thaw)))) n place ready v is (c, set, e) = absurd (cc (e ∙ (of_clock x i.now (Thaw thaw) c set).1))
asked_member x i (Ok (Do Final)) n place ready v is (c, set, e) = absurd (cc (e ∙ (of_final x i.now c set).1))
asked_member x i (Ok (Do (Changed w))) n place ready v is (m, made, new, e) = absurd (no_member m.change n place (Ready ready) e)

pub two_judges_rejudge : TwoJudgesRejudge
two_judges_rejudge x i number place verdict verification h = go i (item_adds_so x i (SetMember number place (Ready verdict)) h)
  where
    of_file : (k : ImportKind) (now : ℕ) (file : List ℕ) → FileAdds x now k file (SetMember number place (Ready verdict)) → ⊥
    of_file (kind.Fixed k) now file g = g
    of_file kind.VerdictsCsv now file (vs, taken, n, there, inl e) = cc e
    of_file kind.VerdictsCsv now file (vs, taken, n, there, inr (r, at_once, e)) = cc e

    go : (j : Item) → ItemAdds x j (SetMember number place (Ready verdict)) → IsSettled x j number place verdict
    go (item.Request j) g = asked_member x j (wish_or_reply x.fixed j.credential j.request) number place verdict verification refl g
    go (item.Import j) g = absurd (of_file j.kind j.now j.file g)
