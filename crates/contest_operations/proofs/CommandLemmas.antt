-- What every command keeps to: one line of each lemma is a command's.
use Rattle.std.proofs.Common.{◌≡◌, ℕ, true, false, refl, ap, subst}
use Rattle.std.specs.Prelude.{is_some}
use Rattle.std.proofs.lemmas.Bool.{eqb-true}
use Rattle.contest_types.specs.Addable.{are_addable}
use Rattle.contest_types.specs.State.{ContestState, FixedPart, add_all}
use Rattle.contest_types.specs.Valid.{is_valid}
use Rattle.contest_types.proofs.PlaceLemmas.{both_true}
use Rattle.contest_rules.specs.Proposing.{entries_of, propose}
use Rattle.contest_rules.specs.Submitting.{have_equal_content}
use Rattle.contest_rules.specs.Verifying.{verify}
use Rattle.contest_types.specs.declared.refusal.Refusal.TheVariants.{KeyReused}
use Rattle.contest_rules.proofs.ProposedLemmas.{proposed_is_addable}
use Rattle.contest_rules.proofs.VerifiedLemmas.{verified_is_addable}
use Rattle.contest_operations.specs.Callers.{Caller, is_admin, judge_of, team_of}
use Rattle.contest_operations.specs.Commands.{IsSoundPost, are_in_one_scope, ask_for_the_same, key_of, post_done, post_outcome, posted_as, posted_by, reaches_key}
use Rattle.contest_operations.specs.Growing.{Grows}
use Rattle.contest_operations.specs.Outcomes.{refusing, replying}
use Rattle.contest_operations.specs.Paths.{jury_piece}
use Rattle.contest_postings.specs.PostProposal.{proposal_object}
use Rattle.contest_postings.specs.PostChanges.{change_made, made_entries, made_object}
use Rattle.contest_operations.specs.PostedChanges.{change_in}
use Rattle.contest_operations.proofs.ChangeFacts.{change_known, change_refusal_ordinary, change_sound, made_addable}
use Rattle.contest_operations.specs.PostedSubmissions.{submission_outcome}
use Rattle.contest_postings.specs.PostVerification.{release_entries, release_object}
use Rattle.contest_postings.specs.PostRejudgings.{change_entries, change_object, rejudging_change, opening, opening_entries, opening_object}
use Rattle.contest_postings.specs.declared.rejudging.RejudgingStep.TheVariants.{Judge, Apply, Cancel}
use Rattle.contest_operations.specs.Laws.{PostsAlike}
use Rattle.contest_operations.specs.Replies.{IsOrdinary}
use Rattle.contest_operations.specs.declared.command.Command.{Command}
use Rattle.contest_operations.specs.declared.command.Command.TheVariants.{Submit, Clarify, Propose, Verify, OpenRejudging, JudgeRejudging, ApplyRejudging, CancelRejudging, SetClock, Finalize, Change}
use Rattle.contest_operations.specs.declared.command.Posted.{Posted}
use Rattle.contest_operations.specs.declared.command.Posted.TheVariants.{Submission, Clarification, Proposal, Verification, Opening, Rejudging, Clock, Final, Change as Changed}
use Rattle.contest_requests.specs.declared.request.Method.TheVariants.{Get, Head}
use Rattle.contest_requests.specs.declared.request.Request.{Request}
use Rattle.contest_operations.specs.PostedClarifications.{clarification_outcome}
use Rattle.contest_operations.proofs.ClarificationFacts.{clarification_addable, clarification_known, clarification_refusal_ordinary, clarification_unmoved}
use Rattle.contest_operations.proofs.RepeatedClarifications.{clarification_repeats}
use Rattle.contest_operations.proofs.SaidAlike.{said_posts_alike}
use Rattle.contest_rules.specs.ClockChanges.{set_clock}
use Rattle.contest_rules.proofs.ClockLemmas.{clock_is_addable}
use Rattle.contest_postings.specs.PostClock.{clock_entries, contest_after, final_entries, final_results, state_after}
use Rattle.contest_operations.proofs.ClockFacts.{clock_known, clock_refusal_ordinary, final_addable, final_known, final_refusal_ordinary}
use Rattle.contest_operations.proofs.DoneLemmas.{done_addable, told_ordinary, told_quiet}
use Rattle.contest_operations.proofs.PostedFacts.{IfKnownPost, IsQuiet, IsThere, OrdinaryRefusal}
use Rattle.contest_operations.proofs.RejudgingFacts.{changed_addable, opened_addable, opening_known, opening_refusal_ordinary}
use Rattle.contest_operations.proofs.RepeatedSubmissions.{submission_repeats}
use Rattle.contest_operations.proofs.VerdictFacts.{judge_known, judge_refusal_ordinary, verdict_known, verdict_refusal_ordinary}
use Rattle.contest_operations.proofs.SubmitLaws.{submission_known, submission_refusal_ordinary, submission_addable, submissions_alike, submission_unmoved}

pub post_known : (f : FixedPart) (who : Caller) (command : Command) (request : Request) → IsThere f who → IfKnownPost f who (posted_by f who command request)
post_known f who Submit request there = submission_known f who (team_of who) request refl there.team
post_known f who Clarify request there = clarification_known f who request there
post_known f who Propose request there = verdict_known f who Proposal (λ v h. h) (λ v. refl) (judge_of who) request.body refl there.judge
post_known f who Verify request there = verdict_known f who Verification (λ v h. h) (λ v. refl) (judge_of who) request.body refl there.judge
post_known f who OpenRejudging request there = opening_known f who (judge_of who) request.body refl
post_known f who JudgeRejudging request there = verdict_known f who (λ v. Rejudging request.path (Judge v)) (λ v h. h) (λ v. refl) (judge_of who) request.body refl there.judge
post_known f who ApplyRejudging request there = judge_known f who (Rejudging request.path Apply) tt refl (judge_of who) refl
post_known f who CancelRejudging request there = judge_known f who (Rejudging request.path Cancel) tt refl (judge_of who) refl
post_known f who SetClock request there = clock_known f who (is_admin who) f.settings.head.id request.body refl
post_known f who Finalize request there = final_known f who (is_admin who) refl
post_known f who (Change kind) request there = change_known f who (is_admin who) (change_in kind request.body) refl (change_sound kind request.body)

pub post_refusal_ordinary : (f : FixedPart) (who : Caller) (command : Command) (request : Request) → OrdinaryRefusal (posted_by f who command request)
post_refusal_ordinary f who Submit request = submission_refusal_ordinary f (team_of who) request
post_refusal_ordinary f who Clarify request = clarification_refusal_ordinary f who request
post_refusal_ordinary f who Propose request = verdict_refusal_ordinary Proposal (judge_of who) request.body
post_refusal_ordinary f who Verify request = verdict_refusal_ordinary Verification (judge_of who) request.body
post_refusal_ordinary f who OpenRejudging request = opening_refusal_ordinary (judge_of who) request.body
post_refusal_ordinary f who JudgeRejudging request = verdict_refusal_ordinary (λ v. Rejudging request.path (Judge v)) (judge_of who) request.body
post_refusal_ordinary f who ApplyRejudging request = judge_refusal_ordinary (Rejudging request.path Apply) (judge_of who)
post_refusal_ordinary f who CancelRejudging request = judge_refusal_ordinary (Rejudging request.path Cancel) (judge_of who)
post_refusal_ordinary f who SetClock request = clock_refusal_ordinary (is_admin who) f.settings.head.id request.body
post_refusal_ordinary f who Finalize request = final_refusal_ordinary (is_admin who)
post_refusal_ordinary f who (Change kind) request = change_refusal_ordinary (is_admin who) (change_in kind request.body)

pub post_ordinary : (now : ℕ) (posted : Posted) (x : ContestState) → IsOrdinary (post_outcome now posted x).reply
post_ordinary now posted x = told_ordinary (post_done now posted x)

pub post_quiet : (now : ℕ) (posted : Posted) (x : ContestState) → IsQuiet (post_outcome now posted x)
post_quiet now posted x = told_quiet (post_done now posted x)

pub post_addable : (now : ℕ) (posted : Posted) (x : ContestState) → is_valid x ≡ true → IsSoundPost x.fixed posted → are_addable x (post_outcome now posted x).entries ≡ true
post_addable now (Submission team w) x valid sound = submission_addable now team w x valid sound
post_addable now (Clarification c) x valid sound = clarification_addable now c x sound
post_addable now (Proposal v) x valid sound = done_addable x (proposal_object x.fixed) entries_of (propose x.fixed x.submissions x.proposals x.releases now v.account v.wanted) (λ d is. proposed_is_addable x now v.account v.wanted d sound is)
post_addable now (Verification v) x valid sound = done_addable x (release_object x.fixed) release_entries (verify x.fixed x.submissions x.proposals x.releases now v.account v.wanted) (λ r is. both_true _ _ (verified_is_addable x now v.account v.wanted r is) refl)
post_addable now (Opening w) x valid sound = done_addable x (opening_object x.fixed) opening_entries (opening w x) (λ o is. opened_addable x w o valid sound is)
post_addable now (Rejudging path step) x valid sound = done_addable x (change_object x.fixed) change_entries (rejudging_change now (jury_piece path) step x) (λ c is. changed_addable now (jury_piece path) step x c valid sound is)
post_addable now (Clock w) x valid sound = done_addable x (contest_after x.fixed) clock_entries (set_clock x.fixed x.submissions x.clarifications now w) (λ c is. both_true _ _ (clock_is_addable x now w c is).0 refl)
post_addable now Final x valid sound = done_addable x (state_after x.fixed) final_entries (final_results now x) (λ r is. final_addable x now r is)
post_addable now (Changed w) x valid sound = done_addable x (made_object x.fixed) made_entries (change_made now w x) (λ d is. made_addable x now w d valid sound is)

-- a post under a key that is answered as done is repeated by whoever asks for the same, and by no other
pub post_repeats : (x y : ContestState) (now later : ℕ) (first : Posted) → IsSoundPost x.fixed first → is_some (key_of first) ≡ true
    → (post_outcome now first x).reply.status ≡ 200 → Grows (add_all x (post_outcome now first x).entries) y
    → (post_outcome later first y ≡ replying (post_outcome now first x).reply)
    × ((again : Posted) → key_of again ≡ key_of first → are_in_one_scope first again ≡ true → reaches_key y again ≡ true
    → (ask_for_the_same first again ≡ true → post_outcome later again y ≡ replying (post_outcome now first x).reply)
    × (ask_for_the_same first again ≡ false → post_outcome later again y ≡ refusing KeyReused))
post_repeats x y now later (Submission team v) sound some done grows =
    let r = submission_repeats x y now later team v sound some done grows in
    let on : (again : Posted) → key_of again ≡ v.key → are_in_one_scope (Submission team v) again ≡ true → reaches_key y again ≡ true
    → (ask_for_the_same (Submission team v) again ≡ true → post_outcome later again y ≡ replying (submission_outcome now team v x).reply)
    × (ask_for_the_same (Submission team v) again ≡ false → post_outcome later again y ≡ refusing KeyReused) = elim [
      | (Submission other w) ↦ λ same scope reaches. (let e : team ≡ other = eqb-true team other scope in
          subst (λ u. (have_equal_content v w ≡ true → submission_outcome later u w y ≡ replying (submission_outcome now team v x).reply) × (have_equal_content v w ≡ false → submission_outcome later u w y ≡ refusing KeyReused)) e (r.1 w same reaches))
      | (Clarification d) ↦ λ same scope reaches. absurd (cc scope)
      | (Proposal u) ↦ λ same scope reaches. absurd (cc scope)
      | (Verification u) ↦ λ same scope reaches. absurd (cc scope)
      | (Opening u) ↦ λ same scope reaches. absurd (cc scope)
      | (Rejudging path step) ↦ λ same scope reaches. absurd (cc scope)
      | (Clock w) ↦ λ same scope reaches. absurd (cc scope)
      | Final ↦ λ same scope reaches. absurd (cc scope)
      | (Changed w) ↦ λ same scope reaches. absurd (cc scope)
    ] in
    (r.0, on)
post_repeats x y now later (Clarification c) sound some done grows =
    let r = clarification_repeats x y now later c sound some done grows in
    let on : (again : Posted) → key_of again ≡ c.wanted.key → are_in_one_scope (Clarification c) again ≡ true → reaches_key y again ≡ true
    → (ask_for_the_same (Clarification c) again ≡ true → post_outcome later again y ≡ replying (clarification_outcome now c x).reply)
    × (ask_for_the_same (Clarification c) again ≡ false → post_outcome later again y ≡ refusing KeyReused) = elim [
      | (Submission other w) ↦ λ same scope reaches. absurd (cc scope)
      | (Clarification d) ↦ λ same scope reaches. r.1 d same scope reaches
      | (Proposal u) ↦ λ same scope reaches. absurd (cc scope)
      | (Verification u) ↦ λ same scope reaches. absurd (cc scope)
      | (Opening u) ↦ λ same scope reaches. absurd (cc scope)
      | (Rejudging path step) ↦ λ same scope reaches. absurd (cc scope)
      | (Clock w) ↦ λ same scope reaches. absurd (cc scope)
      | Final ↦ λ same scope reaches. absurd (cc scope)
      | (Changed w) ↦ λ same scope reaches. absurd (cc scope)
    ] in
    (r.0, on)
post_repeats x y now later (Proposal v) sound some done grows = absurd (cc some)
post_repeats x y now later (Verification v) sound some done grows = absurd (cc some)
post_repeats x y now later (Opening w) sound some done grows = absurd (cc some)
post_repeats x y now later (Rejudging path step) sound some done grows = absurd (cc some)
post_repeats x y now later (Clock w) sound some done grows = absurd (cc some)
post_repeats x y now later Final sound some done grows = absurd (cc some)
post_repeats x y now later (Changed w) sound some done grows = absurd (cc some)

pub posts_alike : PostsAlike
posts_alike now (Submission team w) x y other valid_x valid_y sound h = submissions_alike now team w x y valid_x valid_y sound h
posts_alike now (Clarification c) x y other valid_x valid_y sound h = said_posts_alike now c x y other valid_x valid_y h
posts_alike now (Proposal v) x y other valid_x valid_y sound h = absurd (other refl)
posts_alike now (Verification v) x y other valid_x valid_y sound h = absurd (other refl)
posts_alike now (Opening w) x y other valid_x valid_y sound h = absurd (other refl)
posts_alike now (Rejudging path step) x y other valid_x valid_y sound h = absurd (other refl)
posts_alike now (Clock w) x y other valid_x valid_y sound h = absurd (other refl)
posts_alike now Final x y other valid_x valid_y sound h = absurd (other refl)
posts_alike now (Changed w) x y other valid_x valid_y sound h = absurd (other refl)

pub post_unmoved : (f : FixedPart) (who : Caller) (command : Command) (request : Request) → posted_by f who command (record request { method = Head }) ≡ posted_by f who command (record request { method = Get })
post_unmoved f who Submit request = submission_unmoved f (team_of who) request
post_unmoved f who Clarify request = ap (posted_as Clarification) (clarification_unmoved f who request)
post_unmoved f who Propose request = refl
post_unmoved f who Verify request = refl
post_unmoved f who OpenRejudging request = refl
post_unmoved f who JudgeRejudging request = refl
post_unmoved f who ApplyRejudging request = refl
post_unmoved f who CancelRejudging request = refl
post_unmoved f who SetClock request = refl
post_unmoved f who Finalize request = refl
post_unmoved f who (Change kind) request = refl
