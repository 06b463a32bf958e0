-- What is written of a sound contest can be read back: its rows are of their kinds, and what they refer to is there.
use Rattle.std.proofs.Common.{◌≡◌, ◌∙◌, ℕ, ◌<◌, ◌≤◌, Bool, true, false, List, [], ◌∷◌, length, Option, None, Some, refl, sym, ap, rules}
use Rattle.std.specs.Prelude.{IfSome, nat_lt, is_some, if◌then◌else◌, codes}
use Rattle.std.specs.List.{AllByRecursion, list_all}
use Rattle.std.specs.Option.{option_map_or}
use Rattle.std.specs.Str.{bytes_eq}
use Rattle.std.proofs.lemmas.Bool.{false≢true, leb-true, not-true, ltb-true}
use Rattle.std.proofs.lemmas.Slice.Eq.{bytes_eq-Decides}
use Rattle.contest_types.specs.Accounts.{account_named, has_valid_role}
use Rattle.contest_types.specs.State.{ContestState, FixedPart}
use Rattle.contest_types.specs.ValidClarifications.{has_clarification, is_valid_clarification}
use Rattle.contest_types.specs.ValidFixed.{is_valid_account}
use Rattle.contest_types.specs.ValidRejudgings.{is_valid_member, is_valid_rejudging, is_valid_state}
use Rattle.contest_types.specs.ValidSubmissions.{is_there, is_valid_proposal, is_valid_release, is_valid_submission}
use Rattle.contest_types.specs.Setup.{Setup}
use Rattle.contest_types.specs.declared.account.Account.{Account}
use Rattle.contest_types.specs.declared.clarification.Clarification.{Clarification}
use Rattle.contest_types.specs.declared.clarification.Reference.{Reference}
use Rattle.contest_types.specs.declared.limits.TheConstants.{POSTED_FILE}
use Rattle.contest_types.specs.declared.proposal.Proposal.{Proposal}
use Rattle.contest_types.specs.declared.proposal.Proposer.{Proposer}
use Rattle.contest_types.specs.declared.proposal.Proposer.TheVariants as proposer
use Rattle.contest_types.specs.declared.rejudging.Member.{Member}
use Rattle.contest_types.specs.declared.rejudging.MemberState.{MemberState}
use Rattle.contest_types.specs.declared.rejudging.MemberState.TheVariants as member
use Rattle.contest_types.specs.declared.rejudging.Rejudging.{Rejudging}
use Rattle.contest_types.specs.declared.submission.Release.{Release}
use Rattle.contest_types.specs.declared.submission.Submission.{Submission}
use Rattle.contest_types.proofs.PlaceLemmas.{and_left, and_right, same_bytes}
use Rattle.contest_types.proofs.SettingsTest.{is_settings}
use Rattle.contest_types.proofs.ValidParts.{parts}
use Rattle.contest_store_rows.specs.Laws.{IsWritableClarification, IsWritableProposal, IsWritableProposer, IsWritableReference, IsWritableRejudging, IsWritableRelease, IsWritableState, IsWritableSubmission}
use Rattle.contest_store_reading.specs.Laws.{IsWritableAccount}
use Rattle.contest_store_reading.specs.SpellingLaws.{IsWritable}
use Rattle.contest_store_changes.specs.Kinds.{HasIdIfAny, IsMoment, IsOfKindsAccount, IsOfKindsClarification, IsOfKindsProposal, IsOfKindsRejudging, IsOfKindsSubmission, IsProposerId}
use Rattle.contest_store_changes.specs.Sound.{IsSound}
use Rattle.contest_store_changes.proofs.NamedReplies.{replies_are_small}

-- what passes a test and is of its kinds is writable, one by one
each_tested : {X : Type 0} (P Q : X → Type 0) (test : X → Bool) → ((x : X) → P x → test x ≡ true → Q x) → (xs : List X) → AllByRecursion P xs → list_all test xs ≡ true → AllByRecursion Q xs
each_tested P Q test of [] all v = tt
each_tested P Q test of (x ∷ xs) all v = (of x all.0 (and_left _ _ v), each_tested P Q test of xs all.1 (and_right (test x) _ v))

account_writable : (s : Setup) (a : Account) → IsOfKindsAccount a → is_valid_account s a ≡ true → IsWritableAccount s a
account_writable s a w v = record { id = w.id; digest = w.digest; role = and_left (has_valid_role s a.role) _ v }

submission_writable : (f : FixedPart) (x : Submission) → IsOfKindsSubmission x → is_valid_submission f x ≡ true → IsWritableSubmission f.settings x
submission_writable f x w v =
    let v5 = and_left _ _ v in
    let v3 = and_left _ _ (and_left _ _ v5) in
    let problem : x.problem < length f.settings.problems = ltb-true _ _ (and_right _ _ (and_left _ _ v3)) in
    let language : x.language < length f.settings.languages = ltb-true _ _ (and_right _ _ v3) in
    let file : length x.file ≤ POSTED_FILE = leb-true _ _ (and_right _ _ v) in
    search (rules, w, problem, language, file)

-- nobody who is named is called `import`
not_import : (s : Setup) (accounts : List Account) (id : List ℕ) → list_all (is_valid_account s) accounts ≡ true → is_some (account_named accounts id) ≡ true → bytes_eq id (codes "import") ≡ false
not_import s [] id all named = absurd (false≢true named)
not_import s (a ∷ accounts) id all named =
    let own : bytes_eq a.id (codes "import") ≡ false = not-true _ (and_right _ _ (and_left (is_valid_account s a) _ all)) in
    let go : (b : Bool) → bytes_eq a.id id ≡ b → is_some (if b then Some a else account_named accounts id) ≡ true → bytes_eq id (codes "import") ≡ false = elim [
      | true ↦ λ e k. ap (λ t. bytes_eq t (codes "import")) (sym (same_bytes a.id id e)) ∙ own
      | false ↦ λ e k. not_import s accounts id (and_right (is_valid_account s a) _ all) k
    ] in
    go (bytes_eq a.id id) refl named

proposer_writable : (f : FixedPart) (p : Proposer) → list_all (is_valid_account f.settings) f.accounts ≡ true → is_there f p ≡ true → IsProposerId p → IsWritableProposer p
proposer_writable f (proposer.Account id) all there is_id =
    (is_id, λ same. absurd (false≢true (sym (not_import f.settings f.accounts id all there) ∙ (bytes_eq-Decides id (codes "import")).1 same)))
proposer_writable f proposer.Import all there is_id = tt

proposal_writable : (x : ContestState) → list_all (is_valid_account x.fixed.settings) x.fixed.accounts ≡ true → (p : Proposal) → IsOfKindsProposal p → is_valid_proposal x p ≡ true → IsWritableProposal x.fixed.settings p
proposal_writable x all p w v = record {
  verdict = ltb-true _ _ (and_right _ _ (and_left _ _ v));
  proposer = proposer_writable x.fixed p.proposer all (and_right _ (is_there x.fixed p.proposer) v) w.proposer;
  time = w.time;
}

release_writable : (x : ContestState) (r : Release) → IsMoment r.time → is_valid_release x r ≡ true → IsWritableRelease x.fixed.settings r
release_writable x r w v = record { verdict = ltb-true _ _ (and_right _ _ v); time = w }

problem_below : (problem : Option ℕ) (n : ℕ) → option_map_or (λ p. nat_lt p n) problem true ≡ true → IfSome problem (λ p. p < n)
problem_below None n v = tt
problem_below (Some p) n v = ltb-true p n v

clarification_writable : (x : ContestState) → ((reply : Option Reference) → option_map_or (has_clarification x) reply true ≡ true → IfSome reply IsWritableReference)
    → (c : Clarification) → IsOfKindsClarification c → is_valid_clarification x c ≡ true → IsWritableClarification x.fixed.settings c
clarification_writable x small c w v =
    let problem : IfSome c.problem (λ p. p < length x.fixed.settings.problems) = problem_below _ _ (and_right _ _ (and_left _ _ (and_left _ _ v))) in
    let reply : IfSome c.reply IsWritableReference = small c.reply (and_right _ _ (and_left _ _ v)) in
    search (rules, w, problem, reply)

state_writable : (f : FixedPart) (state : MemberState) → HasIdIfAny state → is_valid_state f state ≡ true → IsWritableState f.settings state
state_writable f member.Empty w v = tt
state_writable f (member.Proposed verdict account) w v = (ltb-true _ _ (and_left _ _ v), w)
state_writable f (member.Ready verdict) w v = ltb-true _ _ v

rejudging_writable : (x : ContestState) (r : Rejudging) → IsOfKindsRejudging r → is_valid_rejudging x r ≡ true → IsWritableRejudging x.fixed.settings r
rejudging_writable x r w v = record {
  reason = w.reason;
  members = each_tested (λ (m : Member). HasIdIfAny m.state) (λ (m : Member). IsWritableState x.fixed.settings m.state) (is_valid_member x)
      (λ m id valid. state_writable x.fixed m.state id (and_right _ _ valid)) r.members w.members (and_left _ _ (and_left _ _ v));
}

pub writable : (x : ContestState) → IsSound x → IsWritable x
writable x h =
    let s = x.fixed.settings in
    let w = h.kinds in
    let p = parts x h.valid in
    let valid = is_settings x p.settings in
    let all : list_all (is_valid_account s) x.fixed.accounts ≡ true = and_left _ _ (and_left _ _ (and_left _ _ p.accounts)) in
    record {
      valid = valid;
      fixed = record { settings = w.settings; accounts = each_tested IsOfKindsAccount (IsWritableAccount s) (is_valid_account s) (account_writable s) x.fixed.accounts w.accounts all; marks = w.marks };
      submissions = each_tested IsOfKindsSubmission (IsWritableSubmission s) (is_valid_submission x.fixed) (submission_writable x.fixed) x.submissions w.submissions (and_left _ _ p.submissions);
      proposals = each_tested IsOfKindsProposal (IsWritableProposal s) (is_valid_proposal x) (proposal_writable x all) x.proposals w.proposals (and_left _ _ p.proposals);
      releases = each_tested (λ (r : Release). IsMoment r.time) (IsWritableRelease s) (is_valid_release x) (release_writable x) x.releases w.releases (and_left _ _ p.releases);
      clarifications = each_tested IsOfKindsClarification (IsWritableClarification s) (is_valid_clarification x)
          (clarification_writable x (replies_are_small x (record { teams = valid.few_teams; groups = valid.few_groups }) p.clarifications)) x.clarifications w.clarifications (and_left _ _ (and_left _ _ p.clarifications));
      rejudgings = each_tested IsOfKindsRejudging (IsWritableRejudging s) (is_valid_rejudging x) (rejudging_writable x) x.rejudgings w.rejudgings (and_left _ _ (and_left _ _ p.rejudgings));
    }
