-- Final results are final: what is added afterwards changes none of them.
use Rattle.std.proofs.Common.{◌≡◌, ◌∙◌, ℕ, Bool, true, false, List, [], Option, Some, None, Result, Ok, Err, length, map, refl, sym, ap, subst}
use Rattle.std.specs.Prelude.{◌&&◌, ◌==◌, is_none, is_some, nat_le, not, if◌then◌else◌}
use Rattle.std.specs.List.{list_any}
use Rattle.std.proofs.lemmas.Bool.{false≢true, not-true}
use Rattle.contest_types.specs.Clock.{moment_after, phase_at, reached}
use Rattle.contest_types.specs.Order.{Has}
use Rattle.contest_types.specs.Setup.{Setup}
use Rattle.contest_types.specs.State.{ContestState, FixedPart, SubmissionRef, add, add_all, submissions_of}
use Rattle.contest_types.specs.ValidRejudgings.{is_open}
use Rattle.contest_types.specs.declared.audience.Audience.TheVariants.{Jury}
use Rattle.contest_types.specs.declared.entry.Entry.{Entry}
use Rattle.contest_types.specs.declared.entry.Entry.TheVariants.{NewSubmission, NewProposal, NewRelease, NewClarification, NewRejudging, SetMember, SetRejudging, SetStart, SetThaw, SetFinalized, SetDuration, SetTeamName, SetDigest, NewType, NewLanguage, NewProblem, NewGroup, NewTeam, NewAccount}
use Rattle.contest_types.specs.declared.import_kind.ImportKind.{ImportKind}
use Rattle.contest_types.specs.declared.import_kind.ImportKind.TheVariants as kind
use Rattle.contest_types.specs.declared.rejudging.Rejudging.{Rejudging}
use Rattle.contest_types.specs.declared.submission.Release.{Release}
use Rattle.contest_types.specs.declared.submission.Submission.{Submission}
use Rattle.contest_types.proofs.PlaceLemmas.{and_left, and_right}
use Rattle.contest_score.specs.Awards.{awards_of}
use Rattle.contest_score.specs.Contest.{board_for, solves_of}
use Rattle.contest_score.specs.declared.row.Row.{Row}
use Rattle.contest_score.specs.declared.solve.Solve.{Solve}
use Rattle.contest_rules.specs.Clarifying.{has_begun, may_write}
use Rattle.contest_rules.specs.ClockChanges.{all_released, final_change, has_end, has_ended, if_may, is_untouched, may_close, may_finalize, may_start}
use Rattle.contest_rules.specs.Opening.{are_released, candidate_of, is_any_rejudged, member_of, open_named, open_over, open_rejudging, submissions_named}
use Rattle.contest_rules.specs.Submitting.{is_running, so_far}
use Rattle.contest_rules.specs.Verdicts.{named_verdict}
use Rattle.contest_rules.specs.declared.opening.WantedRejudging.{WantedRejudging}
use Rattle.contest_rules.specs.declared.clarifying.Sender.{Sender}
use Rattle.contest_rules.specs.declared.clarifying.Sender.TheVariants as sender
use Rattle.contest_rules.specs.declared.clock_changes.WantedClock.TheVariants.{Start, Thaw}
use Rattle.contest_rules.specs.declared.rule_refusal.RuleRefusal.{RuleRefusal}
use Rattle.contest_rules.specs.declared.rule_refusal.RuleRefusal.TheVariants.{InRejudging, NotOpen, RejudgingIncomplete, TeamLimit}
use Rattle.contest_types.specs.declared.limits.TheConstants.{REJUDGINGS}
use Rattle.contest_types.specs.declared.rejudging.RejudgingState.TheVariants.{Open as OpenState}
use Rattle.contest_rules.proofs.ClarifiedLemmas.{decided, IfSaid}
use Rattle.contest_rules.proofs.ProposedLemmas.{may_propose}
use Rattle.contest_rules.proofs.TakenLemmas.{taken}
use Rattle.contest_view.proofs.RejudgingLemmas.{named_has}
use Rattle.contest_postings.specs.DoneThings.{done_as, ruled_with}
use Rattle.contest_postings.specs.PostClock.{final_entries, state_after}
use Rattle.contest_postings.specs.declared.rejudging.RejudgingStep.TheVariants.{Apply, Cancel, Judge}
use Rattle.contest_operations.specs.Outcomes.{told}
use Rattle.contest_operations.specs.declared.outcome.Outcome.{Outcome}
use Rattle.contest_operations.specs.Paths.{jury_piece}
use Rattle.contest_operations.specs.Step.{outcome, outcome_of, step, wish_or_reply}
use Rattle.contest_operations.specs.declared.command.Posted.TheVariants.{Submission as ToSubmit, Clarification, Proposal, Verification, Opening, Rejudging as OfRejudging, Clock, Final, Change as Changed}
use Rattle.contest_operations.specs.declared.reply.Reply.{Reply}
use Rattle.contest_operations.specs.declared.wish.Wish.{Wish}
use Rattle.contest_operations.specs.declared.wish.Wish.TheVariants.{Do, Read}
use Rattle.contest_desk.specs.Items.{item_entries, item_step}
use Rattle.contest_desk.specs.declared.item.Item.{Item}
use Rattle.contest_desk.specs.declared.item.Item.TheVariants as item
use Rattle.contest_desk.specs.declared.item.RequestItem.{RequestItem}
use Rattle.contest_desk.proofs.ItemLemmas.{items_keep_valid}
use Rattle.contest_laws.specs.Finals.{FinalResultsStay, HasSameResults, IsFinal}
use Rattle.contest_laws.specs.Sources.{FileAdds, ItemAdds, WishAdds}
use Rattle.contest_laws.proofs.ClockSources.{of_clock, of_final}
use Rattle.contest_laws.proofs.FinalLemmas.{IsAllowed, IsOver, change_allowed, none_open, none_waits, not_none, row_allowed}
use Rattle.contest_laws.proofs.OpenRejudgings.{applied_open, cancelled_open, judged_open}
use Rattle.contest_laws.proofs.RunKeeps.{item_keeps, run_keeps}
use Rattle.contest_laws.proofs.SourceLemmas.{item_adds_so}
use Rattle.contest_laws.proofs.Touches.{not_yet}
use Rattle.contest_laws.proofs.VerdictLaws.{by_other, imported_all}

-- ---- what is asked for then

not_opened : (z : ContestState) (w : WantedRejudging) (r : Rejudging) → is_some z.fixed.marks.finalized ≡ true → open_rejudging z.fixed z.submissions z.releases z.rejudgings w ≡ Ok r → ⊥
not_opened z w r final is = named (submissions_named w.submissions z.submissions) is
  where
    over : (refs : List SubmissionRef) → open_over z.fixed (length z.rejudgings) w.reason (map (candidate_of z.releases z.rejudgings) refs) ≡ Ok r → ⊥
    over refs k = go (is_some z.fixed.marks.finalized) final k
      where
        go : (b : Bool) → b ≡ true → elim (if b then Some NotOpen else (if not (are_released (map (candidate_of z.releases z.rejudgings) refs)) then Some RejudgingIncomplete else (if is_any_rejudged (map (candidate_of z.releases z.rejudgings) refs) then Some InRejudging else (if nat_le REJUDGINGS (length z.rejudgings) then Some TeamLimit else None)))) as (λ _. Result Rejudging RuleRefusal) [
          | (Some refusal) ↦ Err refusal
          | None ↦ Ok (record { reason = w.reason; state = OpenState; members = map member_of (map (candidate_of z.releases z.rejudgings) refs) })
        ] ≡ Ok r → ⊥
        go true e j = cc j
        go false e j = false≢true e

    named : (o : Option (List SubmissionRef)) → open_named z.fixed o z.releases z.rejudgings w.reason ≡ Ok r → ⊥
    named None k = cc k
    named (Some refs) k = over refs k

said_not : (f : FixedPart) (s : Sender) (now : ℕ) → is_some f.marks.finalized ≡ true → may_write f s now ≡ true → ⊥
said_not f (sender.Team team) now final may = not_none f.marks.finalized final (and_right (is_running (phase_at f.settings f.marks now)) (is_none f.marks.finalized) may)
said_not f sender.Jury now final may = not_none f.marks.finalized final (and_right (has_begun (phase_at f.settings f.marks now)) (is_none f.marks.finalized) may)

-- what a request adds then
asked_allowed : (z : ContestState) (now : ℕ) (r : Result Wish Reply) (e : Entry) → IsOver z → WishAdds z now r e → IsAllowed e
asked_allowed z now (Err reply) e over h = absurd h
asked_allowed z now (Ok (Read reading a named)) e over h = absurd h
asked_allowed z now (Ok (Do (ToSubmit team w))) e over (s, sent, is) =
    let t = taken z.fixed now team (so_far w.key (submissions_of team z.submissions)) w s sent in
    absurd (not_none z.fixed.marks.finalized over.finalized (and_right (is_running (phase_at z.fixed.settings z.fixed.marks now)) (is_none z.fixed.marks.finalized) t.takes))
asked_allowed z now (Ok (Do (Clarification c))) e over (d, written, is) =
    let said = subst (IfSaid z.fixed now c.sender c.account z.clarifications c.wanted) written (decided z.fixed now c.sender c.account z.clarifications c.wanted) in
    absurd (said_not z.fixed c.sender now over.finalized said.may)
asked_allowed z now (Ok (Do (Proposal v))) e over (n, made, of) = (let may = may_propose z now v.account v.wanted n made in absurd (none_waits z over may.named.team may.named.number may.there.there may.unreleased))
asked_allowed z now (Ok (Do (Verification v))) e over (u, verified, is) = (let b = by_other z now v.account v.wanted u verified in absurd (none_waits z over b.named.team b.named.number b.there b.unreleased))
asked_allowed z now (Ok (Do (Opening w))) e over (r, opened, is) = absurd (not_opened z w r over.finalized opened)
asked_allowed z now (Ok (Do (OfRejudging path (Judge v)))) e over (n, r, named, c, judged, is) =
    absurd (none_open z.rejudgings over.closed r (named_has (jury_piece path) z.rejudgings (n, r) named) (judged_open z.fixed.settings.head.verification r (named_verdict z.fixed z.submissions v.wanted) v.account c judged))
asked_allowed z now (Ok (Do (OfRejudging path Apply))) e over (n, r, named, vs, applied, of) =
    absurd (none_open z.rejudgings over.closed r (named_has (jury_piece path) z.rejudgings (n, r) named) (applied_open z.releases now r vs applied))
asked_allowed z now (Ok (Do (OfRejudging path Cancel))) e over (n, r, named, cancelled, is) =
    absurd (none_open z.rejudgings over.closed r (named_has (jury_piece path) z.rejudgings (n, r) named) (cancelled_open r cancelled))
asked_allowed z now (Ok (Do (Clock (Start start)))) e over (c, set, is) =
    let m = of_clock z now (Start start) c set in
    absurd (not_started m.0)
  where
    not_started : may_start z.fixed z.submissions z.clarifications now start ≡ true → ⊥
    not_started may =
        let untouched = is_untouched z.fixed.marks z.submissions z.clarifications in
        let first = not (reached z.fixed.marks.start now) in
        let second = not (reached start now) in
        let none = and_left untouched first (and_left (untouched && first) second (and_left (untouched && first && second) (has_end z.fixed.settings.head.duration start) may)) in
        not_none z.fixed.marks.finalized over.finalized (and_right ((length z.submissions == 0) && (length z.clarifications == 0) && is_none z.fixed.marks.thaw) (is_none z.fixed.marks.finalized) none)
asked_allowed z now (Ok (Do (Clock (Thaw thaw)))) e over (c, set, is) = subst IsAllowed (sym (is ∙ (of_clock z now (Thaw thaw) c set).1)) tt
asked_allowed z now (Ok (Do Final)) e over (c, set, is) = absurd (not_again (of_final z now c set).0)
  where
    not_again : may_finalize z.fixed z.submissions z.releases z.rejudgings now ≡ true → ⊥
    not_again may = not_none z.fixed.marks.finalized over.finalized (not_yet z now may)
asked_allowed z now (Ok (Do (Changed w))) e over (m, made, new, is) = subst IsAllowed (sym is) (change_allowed z now w m over made new)

-- what a file adds then
file_allowed : (z : ContestState) (now : ℕ) (k : ImportKind) (file : List ℕ) (e : Entry) → IsOver z → FileAdds z now k file e → IsAllowed e
file_allowed z now (kind.Fixed k) file e over h = row_allowed e h
file_allowed z now kind.VerdictsCsv file e over (vs, taken_so, v, there, of) =
    let t = imported_all z now file vs taken_so v there in
    absurd (none_waits z over t.imported.named.team t.imported.named.number t.imported.there t.unreleased)

allowed : (z : ContestState) (i : Item) (e : Entry) → IsOver z → Has (item_entries z i) e → IsAllowed e
allowed z i e over h = go i (item_adds_so z i e h)
  where
    go : (j : Item) → ItemAdds z j e → IsAllowed e
    go (item.Request j) k = asked_allowed z j.now (wish_or_reply z.fixed j.credential j.request) e over k
    go (item.Import j) k = file_allowed z j.now j.kind j.file e over k

-- ---- what stays

record Stays (x z : ContestState) : Type 0 where
  pub submissions : z.submissions ≡ x.submissions
  pub releases : z.releases ≡ x.releases
  pub clarifications : z.clarifications ≡ x.clarifications
  pub rejudgings : z.rejudgings ≡ x.rejudgings
  pub start : z.fixed.marks.start ≡ x.fixed.marks.start
  pub finalized : z.fixed.marks.finalized ≡ x.fixed.marks.finalized
  pub duration : z.fixed.settings.head.duration ≡ x.fixed.settings.head.duration

added_stays : (x z : ContestState) (e : Entry) → IsAllowed e → Stays x z → Stays x (add z e)
added_stays x z (SetThaw thaw) may h = record { submissions = h.submissions; releases = h.releases; clarifications = h.clarifications; rejudgings = h.rejudgings; start = h.start; finalized = h.finalized; duration = h.duration }
added_stays x z (SetTeamName team name) may h = record { submissions = h.submissions; releases = h.releases; clarifications = h.clarifications; rejudgings = h.rejudgings; start = h.start; finalized = h.finalized; duration = h.duration }
added_stays x z (SetDigest id digest) may h = record { submissions = h.submissions; releases = h.releases; clarifications = h.clarifications; rejudgings = h.rejudgings; start = h.start; finalized = h.finalized; duration = h.duration }
added_stays x z (NewType t) may h = record { submissions = h.submissions; releases = h.releases; clarifications = h.clarifications; rejudgings = h.rejudgings; start = h.start; finalized = h.finalized; duration = h.duration }
added_stays x z (NewLanguage l) may h = record { submissions = h.submissions; releases = h.releases; clarifications = h.clarifications; rejudgings = h.rejudgings; start = h.start; finalized = h.finalized; duration = h.duration }
added_stays x z (NewProblem p) may h = record { submissions = h.submissions; releases = h.releases; clarifications = h.clarifications; rejudgings = h.rejudgings; start = h.start; finalized = h.finalized; duration = h.duration }
added_stays x z (NewGroup g) may h = record { submissions = h.submissions; releases = h.releases; clarifications = h.clarifications; rejudgings = h.rejudgings; start = h.start; finalized = h.finalized; duration = h.duration }
added_stays x z (NewTeam t) may h = record { submissions = h.submissions; releases = h.releases; clarifications = h.clarifications; rejudgings = h.rejudgings; start = h.start; finalized = h.finalized; duration = h.duration }
added_stays x z (NewAccount a) may h = record { submissions = h.submissions; releases = h.releases; clarifications = h.clarifications; rejudgings = h.rejudgings; start = h.start; finalized = h.finalized; duration = h.duration }
added_stays x z (NewSubmission s) may h = absurd may
added_stays x z (NewProposal p) may h = absurd may
added_stays x z (NewRelease v) may h = absurd may
added_stays x z (NewClarification c) may h = absurd may
added_stays x z (NewRejudging r) may h = absurd may
added_stays x z (SetMember n place state) may h = absurd may
added_stays x z (SetRejudging n state) may h = absurd may
added_stays x z (SetStart start) may h = absurd may
added_stays x z (SetFinalized finalized) may h = absurd may
added_stays x z (SetDuration duration freeze) may h = absurd may

still_over : (x z : ContestState) → IsOver x → Stays x z → IsOver z
still_over x z over h = record {
  finalized = ap is_some h.finalized ∙ over.finalized;
  released = ap (λ vs. all_released vs z.submissions) h.releases ∙ ap (all_released x.releases) h.submissions ∙ over.released;
  closed = ap (list_any is_open) h.rejudgings ∙ over.closed;
}

item_stays : (x : ContestState) → IsOver x → (z : ContestState) (i : Item) → Stays x z → Stays x (item_step z i).1
item_stays x over z i h = item_keeps (Stays x) z i (λ w e there k. added_stays x w e (allowed z i e (still_over x z over h) there) k) h

-- ---- what the jury's boards are made of

made_so : (s : Setup) (start : Option ℕ) (ss : List Submission) (vs : List Release) → ContestState
made_so s start ss vs = record {
  fixed = record { settings = s; accounts = []; marks = record { start = start; thaw = None; finalized = None } };
  submissions = ss;
  proposals = [];
  releases = vs;
  clarifications = [];
  rejudgings = [];
}

jurys_rows : (s : Setup) (start : Option ℕ) (ss : List Submission) (vs : List Release) (group : Option ℕ) → List Row
jurys_rows s start ss vs group = board_for Jury 0 group (made_so s start ss vs)

board_is : (now : ℕ) (group : Option ℕ) (x : ContestState) → board_for Jury now group x ≡ jurys_rows x.fixed.settings x.fixed.marks.start x.submissions x.releases group
unfolding jurys_rows made_so
board_is now group x = refl

board_stays : (x y : ContestState) → Stays x y → y.fixed.settings ≡ x.fixed.settings → (now later : ℕ) (group : Option ℕ) → board_for Jury later group y ≡ board_for Jury now group x
board_stays x y h same now later group =
    board_is later group y
    ∙ ap (λ s. jurys_rows s y.fixed.marks.start y.submissions y.releases group) same
    ∙ ap (λ start. jurys_rows x.fixed.settings start y.submissions y.releases group) h.start
    ∙ ap (λ ss. jurys_rows x.fixed.settings x.fixed.marks.start ss y.releases group) h.submissions
    ∙ ap (λ vs. jurys_rows x.fixed.settings x.fixed.marks.start x.submissions vs group) h.releases
    ∙ sym (board_is now group x)

jurys_solves : (s : Setup) (start : Option ℕ) (ss : List Submission) (vs : List Release) → List Solve
jurys_solves s start ss vs = solves_of (made_so s start ss vs)

solves_are : (x : ContestState) → solves_of x ≡ jurys_solves x.fixed.settings x.fixed.marks.start x.submissions x.releases
unfolding jurys_solves made_so
solves_are x = refl

solves_stay : (x y : ContestState) → Stays x y → y.fixed.settings ≡ x.fixed.settings → solves_of y ≡ solves_of x
solves_stay x y h same =
    solves_are y
    ∙ ap (λ s. jurys_solves s y.fixed.marks.start y.submissions y.releases) same
    ∙ ap (λ start. jurys_solves x.fixed.settings start y.submissions y.releases) h.start
    ∙ ap (λ ss. jurys_solves x.fixed.settings x.fixed.marks.start ss y.releases) h.submissions
    ∙ ap (λ vs. jurys_solves x.fixed.settings x.fixed.marks.start x.submissions vs) h.releases
    ∙ sym (solves_are x)

awards_stay : (x y : ContestState) → Stays x y → y.fixed.settings ≡ x.fixed.settings → (now later : ℕ) → awards_of y.fixed.settings (board_for Jury later None y) (solves_of y) ≡ awards_of x.fixed.settings (board_for Jury now None x) (solves_of x)
awards_stay x y h same now later =
    ap (λ s. awards_of s (board_for Jury later None y) (solves_of y)) same
    ∙ ap (λ rows. awards_of x.fixed.settings rows (solves_of y)) (board_stays x y h same now later None)
    ∙ ap (awards_of x.fixed.settings (board_for Jury now None x)) (solves_stay x y h same)

same_results : (x y : ContestState) → Stays x y → HasSameResults x y
same_results x y h = record {
  submissions = h.submissions;
  releases = h.releases;
  clarifications = h.clarifications;
  rejudgings = h.rejudgings;
  start = h.start;
  end = ap (λ start. moment_after start y.fixed.settings.head.duration) h.start ∙ ap (moment_after x.fixed.marks.start) h.duration;
  finalized = h.finalized;
  boards = board_stays x y h;
  awards = awards_stay x y h;
}

-- ---- what making them final adds

final_outcome : ContestState → (now : ℕ) → (may : Bool) → Outcome
final_outcome x now may = told (done_as (state_after x.fixed) final_entries (ruled_with (λ c. record { now = now; change = c }) (if_may may (final_change x.fixed.marks now))))

accepted_may : (x : ContestState) (now : ℕ) (may : Bool) → (final_outcome x now may).reply.status ≡ 200 → may ≡ true
unfolding final_outcome
accepted_may x now true is = refl
accepted_may x now false is = absurd (false≢true (ap (λ n. n == 200) is))

final_outcome_is : (x : ContestState) (now : ℕ) → outcome_of x now (Ok (Do Final)) ≡ final_outcome x now (may_finalize x.fixed x.submissions x.releases x.rejudgings now)
unfolding final_outcome
final_outcome_is x now = refl

is_over_then : (x : ContestState) (now : ℕ) → may_finalize x.fixed x.submissions x.releases x.rejudgings now ≡ true → IsOver (add x (SetFinalized now))
is_over_then x now may =
    let ended = has_ended (phase_at x.fixed.settings x.fixed.marks now) in
    let close = may_close x.fixed x.rejudgings now in
    let all = all_released x.releases x.submissions in
    record {
      finalized = refl;
      released = and_right close all may;
      closed = not-true (list_any is_open x.rejudgings) (and_right (ended && is_none x.fixed.marks.finalized) (not (list_any is_open x.rejudgings)) (and_left close all may));
    }

step_over : (x : ContestState) (i : RequestItem) → IsFinal x i → IsOver (step x i.now i.credential i.request).1
unfolding final_outcome
step_over x i final =
    let out : outcome x i.now i.credential i.request ≡ final_outcome x i.now (may_finalize x.fixed x.submissions x.releases x.rejudgings i.now) = ap (outcome_of x i.now) final.asked ∙ final_outcome_is x i.now in
    let may = accepted_may x i.now (may_finalize x.fixed x.submissions x.releases x.rejudgings i.now) (sym (ap (λ (o : Outcome). o.reply.status) out) ∙ final.accepted) in
    let added : outcome x i.now i.credential i.request ≡ final_outcome x i.now true = out ∙ ap (final_outcome x i.now) may in
    subst (λ (o : Outcome). IsOver (add_all x o.entries)) (sym added) (is_over_then x i.now may)

-- once results were made final they stay
pub final_results_stay : FinalResultsStay
final_results_stay x y i items answers valid final run =
    let z = (step x i.now i.credential i.request).1 in
    let over = step_over x i final in
    same_results z y (run_keeps (Stays z) (λ j. Unit) (λ w j k u h. item_stays z over w j h) z items answers y (items_keep_valid x (item.Request i) valid) (λ j k. tt) (record { submissions = refl; releases = refl; clarifications = refl; rejudgings = refl; start = refl; finalized = refl; duration = refl }) run)
