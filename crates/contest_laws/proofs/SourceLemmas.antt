-- Each entry comes of what is asked for, by its rule.
use Rattle.std.proofs.Common.{◌≡◌, ◌+◌, ℕ, Bool, true, false, List, [], ◌∷◌, map, Option, Some, None, Result, Ok, Err, inl, inr, refl, sym, subst}
use Rattle.std.specs.Prelude.{◌&&◌, length, nat_lt, if◌then◌else◌}
use Rattle.std.specs.List.{flat_map}
use Rattle.serde_json.specs.Data.{Data}
use Rattle.contest_types.specs.Order.{Has}
use Rattle.contest_types.specs.State.{ContestState, FixedPart, submissions_of}
use Rattle.contest_types.specs.declared.entry.Entry.{Entry}
use Rattle.contest_types.specs.declared.entry.Entry.TheVariants.{NewSubmission, NewProposal, NewRelease, NewClarification, NewRejudging, SetMember, SetRejudging, SetStart, SetThaw, SetFinalized, SetDuration, SetTeamName, SetDigest, NewType, NewLanguage, NewProblem, NewGroup, NewTeam, NewAccount}
use Rattle.contest_types.specs.declared.import_kind.FixedKind.{FixedKind}
use Rattle.contest_types.specs.declared.import_kind.FixedKind.TheVariants as fixed
use Rattle.contest_types.specs.declared.import_kind.ImportKind.{ImportKind}
use Rattle.contest_types.specs.declared.import_kind.ImportKind.TheVariants as kind
use Rattle.contest_types.specs.declared.limits.TheConstants.{IMPORTED_FILE}
use Rattle.contest_types.specs.declared.refusal.Cause.{Cause}
use Rattle.contest_types.specs.declared.refusal.Refusal.{Refusal}
use Rattle.contest_types.specs.declared.refusal.Refusal.TheVariants.{BodyTooLarge}
use Rattle.contest_types.specs.declared.rejudging.Rejudging.{Rejudging}
use Rattle.contest_types.specs.declared.rejudging.RejudgingState.TheVariants.{Applied, Cancelled}
use Rattle.contest_types.specs.declared.submission.Release.{Release}
use Rattle.contest_types.proofs.InOrderLemmas.{has_either, has_flat, map_has}
use Rattle.contest_rules.specs.Clarifying.{clarify}
use Rattle.contest_rules.specs.ClockChanges.{finalize, set_clock}
use Rattle.contest_rules.specs.Opening.{open_rejudging}
use Rattle.contest_rules.specs.Proposing.{entries_of as proposed_entries, propose}
use Rattle.contest_rules.specs.Rejudging.{applied_entries, apply_on, cancel_on, rejudge_on}
use Rattle.contest_rules.specs.Submitting.{so_far, submit}
use Rattle.contest_rules.specs.Verdicts.{named_verdict}
use Rattle.contest_rules.specs.Verifying.{verify}
use Rattle.contest_rules.specs.declared.decision.Decision.TheVariants.{Add, Stands}
use Rattle.contest_rules.specs.declared.proposing.NewVerdict.{NewVerdict}
use Rattle.contest_rules.specs.declared.rule_refusal.RuleRefusal.{RuleRefusal}
use Rattle.contest_rules.specs.declared.rule_refusal.RuleRefusal.TheVariants.{NotFound}
use Rattle.contest_view.specs.Rejudgings.{named_rejudging}
use Rattle.contest_postings.specs.DoneThings.{done_as, ruled_with}
use Rattle.contest_postings.specs.PostChanges.{change_made, made_entries, made_entry, made_object}
use Rattle.contest_postings.specs.PostClarification.{said_entries, said_object}
use Rattle.contest_postings.specs.PostClock.{clock_entries, contest_after, final_entries, final_results, state_after}
use Rattle.contest_postings.specs.PostProposal.{proposal_object}
use Rattle.contest_postings.specs.PostRejudgings.{apply_change, cancel_change, change_entries, change_object, member_change, opening_entries, opening_object, opening, rejudging_change, step_change}
use Rattle.contest_postings.specs.PostSubmission.{decision_entries, decision_object}
use Rattle.contest_postings.specs.PostVerification.{release_entries, release_object}
use Rattle.contest_postings.specs.declared.changes.MadeChange.{MadeChange}
use Rattle.contest_postings.specs.declared.clock.FinalResults.{FinalResults}
use Rattle.contest_postings.specs.declared.opening.OpenedRejudging.{OpenedRejudging}
use Rattle.contest_postings.specs.declared.rejudging.RejudgingChange.{RejudgingChange}
use Rattle.contest_postings.specs.declared.rejudging.RejudgingStep.{RejudgingStep}
use Rattle.contest_postings.specs.declared.rejudging.RejudgingStep.TheVariants.{Judge, Apply, Cancel}
use Rattle.contest_import.specs.Files.{or_off_form}
use Rattle.contest_import.specs.CsvFiles.{account_names, account_record, team_names, team_record}
use Rattle.contest_import.specs.Files.{csv_records, rows_in}
use Rattle.contest_import.specs.RowAdditions.{Additions, after_addition, after_record, after_records, none_yet, or_first_fault, row_addition, rows_of, rows_or_refusal}
use Rattle.contest_import.specs.SettingsObjects.{object_row}
use Rattle.contest_files.specs.JsonMembers.{items_in}
use Rattle.contest_import_verdicts.specs.VerdictFiles.{entries_if, verdict_records, verdicts_in}
use Rattle.contest_operations.specs.Commands.{post_outcome}
use Rattle.contest_operations.specs.Outcomes.{told}
use Rattle.contest_operations.specs.Paths.{jury_piece}
use Rattle.contest_operations.specs.Step.{outcome_of, wish_or_reply}
use Rattle.contest_operations.specs.declared.command.Posted.{Posted}
use Rattle.contest_operations.specs.declared.command.Posted.TheVariants.{Submission, Clarification, Proposal, Verification, Opening, Rejudging as OfRejudging, Clock, Final, Change as Changed}
use Rattle.contest_operations.specs.declared.reply.Reply.{Reply}
use Rattle.contest_operations.specs.declared.wish.Wish.{Wish}
use Rattle.contest_operations.specs.declared.wish.Wish.TheVariants.{Do, Read}
use Rattle.contest_desk.specs.Imports.{are_closed, entries_of, file_rows, imported, is_of_settings, unless_closed}
use Rattle.contest_desk.specs.Items.{item_entries}
use Rattle.contest_desk.specs.declared.item.Item.{Item}
use Rattle.contest_desk.specs.declared.item.Item.TheVariants as item
use Rattle.contest_laws.specs.Sources.{FileAdds, IsFileRow, IsNamed, ItemAdds, OfVerdict, PostAdds, StepAdds, WishAdds}

-- what is done adds what its rule gives
done_adds : {D : Type 0} (P : Entry → Type 0) (object : D → Data) (entries : D → List Entry) (r : Result D RuleRefusal) → ((d : D) → r ≡ Ok d → (e : Entry) → Has (entries d) e → P e)
    → (e : Entry) → Has (told (done_as object entries r)).entries e → P e
done_adds P object entries (Err refusal) h e k = absurd k
done_adds P object entries (Ok d) h e k = h d refl e k

-- what is made of what the rules give comes of it
pub made_of : {C D : Type 0} (make : C → D) (r : Result C RuleRefusal) (d : D) → ruled_with make r ≡ Ok d → (c : C) × (r ≡ Ok c) × (d ≡ make c)
made_of make (Err refusal) d h = absurd (cc h)
made_of make (Ok c) d h = (c, refl, cc h)

only : (f e : Entry) → Has (f ∷ []) e → e ≡ f
only f e k = elim k [ inl same ↦ same | inr none ↦ absurd none ]

one : (P : Entry → Type 0) (f e : Entry) → P f → Has (f ∷ []) e → P e
one P f e h k = elim k [ inl same ↦ subst P (sym same) h | inr none ↦ absurd none ]

-- a verdict's proposal and its release
verdict_adds : (v : NewVerdict) (e : Entry) → Has (proposed_entries v) e → OfVerdict v e
verdict_adds v e h = go v.release refl h
  where
    go : (o : Option Release) → v.release ≡ o → Has (NewProposal v.proposal ∷ elim o [ None ↦ [] | (Some r) ↦ NewRelease r ∷ [] ]) e → OfVerdict v e
    go None is k = elim k [ inl same ↦ inl same | inr none ↦ absurd none ]
    go (Some r) is k = elim k [ inl same ↦ inl same | inr more ↦ elim more [ inl same ↦ inr (r, is, same) | inr none ↦ absurd none ] ]

-- the releases of one that is applied, and that it is
applied_adds : (x : ContestState) (now : ℕ) (path : List ℕ) (n : ℕ) (r : Rejudging) (vs : List Release) → IsNamed x path n r → apply_on x.releases now r ≡ Ok vs
    → (e : Entry) → Has (applied_entries n vs) e → StepAdds x now path Apply e
applied_adds x now path n r vs named is e h = elim (has_either (map NewRelease vs) (SetRejudging n Applied ∷ []) e h) [
  | inl release ↦ (let m = map_has NewRelease vs e release in (n, r, named, vs, is, inl (m.item, m.there, m.is)))
  | inr state ↦ (n, r, named, vs, is, inr (only (SetRejudging n Applied) e state))
]

step_adds : (x : ContestState) (now : ℕ) (path : List ℕ) (step : RejudgingStep) (p : ℕ × Rejudging) → IsNamed x path p.0 p.1
    → (c : RejudgingChange) → step_change now step x p ≡ Ok c → (e : Entry) → Has c.entries e → StepAdds x now path step e
step_adds x now path (Judge v) p named c is e h =
    let m = made_of (member_change p.0 p.1) (rejudge_on x.fixed.settings.head.verification p.1 (named_verdict x.fixed x.submissions v.wanted) v.account) c is in
    (p.0, p.1, named, m.0, m.1, only (SetMember p.0 m.0.place m.0.state) e (subst (λ (d : RejudgingChange). Has d.entries e) m.2 h))
step_adds x now path Apply p named c is e h =
    let m = made_of (apply_change p.0 p.1) (apply_on x.releases now p.1) c is in
    applied_adds x now path p.0 p.1 m.0 named m.1 e (subst (λ (d : RejudgingChange). Has d.entries e) m.2 h)
step_adds x now path Cancel p named c is e h =
    let m = made_of (λ done. cancel_change p.0 p.1) (cancel_on p.1) c is in
    (p.0, p.1, named, m.1, only (SetRejudging p.0 Cancelled) e (subst (λ (d : RejudgingChange). Has d.entries e) m.2 h))

rejudging_adds : (x : ContestState) (now : ℕ) (path : List ℕ) (step : RejudgingStep) (c : RejudgingChange) → rejudging_change now (jury_piece path) step x ≡ Ok c → (e : Entry) → Has c.entries e → StepAdds x now path step e
rejudging_adds x now path step c is e h = go (named_rejudging (jury_piece path) x.rejudgings) refl is
  where
    go : (o : Option (ℕ × Rejudging)) → named_rejudging (jury_piece path) x.rejudgings ≡ o → elim o as (λ _. Result RejudgingChange RuleRefusal) [ None ↦ Err NotFound | (Some p) ↦ step_change now step x p ] ≡ Ok c → StepAdds x now path step e
    go None named k = absurd (cc k)
    go (Some p) named k = step_adds x now path step p named c k e h

-- ---- what is posted

made_adds : (P : Entry → Type 0) (m : MadeChange) → (m.is_new ≡ true → P (made_entry m.change)) → (e : Entry) → Has (made_entries m) e → P e
made_adds P m h e k = go m.is_new refl k
  where
    go : (b : Bool) → m.is_new ≡ b → Has (if b then made_entry m.change ∷ [] else []) e → P e
    go true is j = one P (made_entry m.change) e (h is) j
    go false is j = absurd j

post_adds : (now : ℕ) (x : ContestState) (posted : Posted) (e : Entry) → Has (post_outcome now posted x).entries e → PostAdds x now posted e
post_adds now x (Submission team w) = done_adds (PostAdds x now (Submission team w)) (decision_object x.fixed) decision_entries (submit x.fixed now team (so_far w.key (submissions_of team x.submissions)) w)
    (elim [ (Add s) ↦ λ is e h. (s, is, only (NewSubmission s) e h) | (Stands s) ↦ λ is e h. absurd h ])
post_adds now x (Clarification c) = done_adds (PostAdds x now (Clarification c)) (said_object x.fixed) said_entries (clarify x.fixed now c.sender c.account x.clarifications c.wanted)
    (elim [ (Add d) ↦ λ is e h. (d, is, only (NewClarification d) e h) | (Stands d) ↦ λ is e h. absurd h ])
post_adds now x (Proposal v) = done_adds (PostAdds x now (Proposal v)) (proposal_object x.fixed) proposed_entries (propose x.fixed x.submissions x.proposals x.releases now v.account v.wanted) (λ n is e h. (n, is, verdict_adds n e h))
post_adds now x (Verification v) = done_adds (PostAdds x now (Verification v)) (release_object x.fixed) release_entries (verify x.fixed x.submissions x.proposals x.releases now v.account v.wanted)
    (λ r is e h. (r, is, only (NewRelease r) e h))
post_adds now x (Opening w) = done_adds (PostAdds x now (Opening w)) (opening_object x.fixed) opening_entries (opening w x)
    (λ o is e h. let m = made_of (λ r. record { number = length x.rejudgings + 1; rejudging = r }) (open_rejudging x.fixed x.submissions x.releases x.rejudgings w) o is in
    (m.0, m.1, only (NewRejudging m.0) e (subst (λ (q : OpenedRejudging). Has (opening_entries q) e) m.2 h)))
post_adds now x (OfRejudging path step) = done_adds (PostAdds x now (OfRejudging path step)) (change_object x.fixed) change_entries (rejudging_change now (jury_piece path) step x) (λ c is e h. rejudging_adds x now path step c is e h)
post_adds now x (Clock w) = done_adds (PostAdds x now (Clock w)) (contest_after x.fixed) clock_entries (set_clock x.fixed x.submissions x.clarifications now w) (λ c is e h. (c, is, only c.entry e h))
post_adds now x Final = done_adds (PostAdds x now Final) (state_after x.fixed) final_entries (final_results now x)
    (λ r is e h. let m = made_of (λ c. record { now = now; change = c }) (finalize x.fixed x.submissions x.releases x.rejudgings now) r is in
    (m.0, m.1, only m.0.entry e (subst (λ (q : FinalResults). Has (final_entries q) e) m.2 h)))
post_adds now x (Changed w) = done_adds (PostAdds x now (Changed w)) (made_object x.fixed) made_entries (change_made now w x) (λ m is e h. made_adds (PostAdds x now (Changed w)) m (λ new. (m, is, new, refl)) e h)

wish_adds : (now : ℕ) (x : ContestState) (r : Result Wish Reply) (e : Entry) → Has (outcome_of x now r).entries e → WishAdds x now r e
wish_adds now x (Err reply) e h = absurd h
wish_adds now x (Ok (Read reading a named)) e h = absurd h
wish_adds now x (Ok (Do posted)) e h = post_adds now x posted e h

-- ---- what is imported

abbrev All : List Entry → Type 0
All es = (e : Entry) → Has es e → IsFileRow e

row_is : (f : FixedPart) (e : Entry) → row_addition f e ≡ Ok true → IsFileRow e
row_is f (NewType t) is = tt
row_is f (NewLanguage l) is = tt
row_is f (NewProblem p) is = tt
row_is f (NewGroup g) is = tt
row_is f (NewTeam t) is = tt
row_is f (NewAccount a) is = tt
row_is f (NewSubmission s) is = absurd (cc is)
row_is f (NewProposal p) is = absurd (cc is)
row_is f (NewRelease v) is = absurd (cc is)
row_is f (NewClarification c) is = absurd (cc is)
row_is f (NewRejudging r) is = absurd (cc is)
row_is f (SetMember n place state) is = absurd (cc is)
row_is f (SetRejudging n state) is = absurd (cc is)
row_is f (SetStart start) is = absurd (cc is)
row_is f (SetThaw thaw) is = absurd (cc is)
row_is f (SetFinalized finalized) is = absurd (cc is)
row_is f (SetDuration duration freeze) is = absurd (cc is)
row_is f (SetTeamName team name) is = absurd (cc is)
row_is f (SetDigest id digest) is = absurd (cc is)

abbrev OkRows : {E : Type 0} → Result Additions E → Type 0
OkRows (Ok a) = All a.rows
OkRows (Err e) = Unit {0}

added_rows : (a : Additions) (row : Entry) (r : Result Bool Cause) → row_addition a.fixed row ≡ r → All a.rows → OkRows (after_addition a row r)
added_rows a row (Err c) is h = tt
added_rows a row (Ok false) is h = h
added_rows a row (Ok true) is h = λ e k. elim (has_either a.rows (row ∷ []) e k) [ inl before ↦ h e before | inr new ↦ one IsFileRow row e (row_is a.fixed row is) new ]

record_rows : (a : Additions) (r : Result Entry Cause) → All a.rows → OkRows (after_record a r)
record_rows a (Err c) h = tt
record_rows a (Ok row) h = added_rows a row (row_addition a.fixed row) refl h

records_rows : {A : Type 0} (row_of : FixedPart → A → Result Entry Cause) (a : Additions) (n : ℕ) (rs : List A) → All a.rows → OkRows (after_records row_of a n rs)
records_rows row_of a n [] h = h
records_rows row_of a n (r ∷ rs) h =
    let go : (q : Result Additions Cause) → OkRows q → OkRows (or_first_fault (λ b. after_records row_of b (n + 1) rs) n q) = elim [ (Ok b) ↦ λ k. records_rows row_of b (n + 1) rs k | (Err c) ↦ λ k. tt ] in
    go (after_record a (row_of a.fixed r)) (record_rows a (row_of a.fixed r) h)

abbrev OkAll : Result (List Entry) Refusal → Type 0
OkAll (Ok es) = All es
OkAll (Err refusal) = Unit {0}

rows_all : {A : Type 0} (row_of : FixedPart → A → Result Entry Cause) (f : FixedPart) (rs : List A) → OkAll (rows_of row_of f rs)
rows_all row_of f rs =
    let go : (q : Result Additions (ℕ × Cause)) → OkRows q → OkAll (rows_or_refusal q) = elim [ (Ok b) ↦ λ k. k | (Err fault) ↦ λ k. tt ] in
    go (after_records row_of (none_yet f) 1 rs) (records_rows row_of (none_yet f) 1 rs (λ e k. absurd k))

form_all : {A : Type 0} (row_of : FixedPart → A → Result Entry Cause) (f : FixedPart) (o : Option (List A)) → OkAll (or_off_form (rows_of row_of f) o)
form_all row_of f None = tt
form_all row_of f (Some rs) = rows_all row_of f rs

fixed_all : (k : FixedKind) (f : FixedPart) (file : List ℕ) → OkAll (rows_in k f file)
fixed_all (fixed.Settings s) f file = form_all (object_row s) f (items_in file)
fixed_all fixed.TeamsCsv f file = form_all team_record f (csv_records team_names file)
fixed_all fixed.AccountsCsv f file = form_all account_record f (csv_records account_names file)

ok_all : (r : Result (List Entry) Refusal) (es : List Entry) → OkAll r → r ≡ Ok es → All es
ok_all (Ok fs) es h is = subst (λ (q : Result (List Entry) Refusal). OkAll q) is h
ok_all (Err refusal) es h is = absurd (cc is)

-- what a file that is taken adds is all of its rows
taken_rows : (closed : Bool) (r : Result (List Entry) Refusal) (e : Entry) → Has (entries_of (unless_closed closed r)) e → (es : List Entry) × (r ≡ Ok es) × Has es e
taken_rows closed (Err refusal) e h = absurd h
taken_rows closed (Ok []) e h = absurd h
taken_rows true (Ok (row ∷ rows)) e h = absurd h
taken_rows false (Ok (row ∷ rows)) e h = (row ∷ rows, refl, h)

imported_rows : (x : ContestState) (now : ℕ) (k : ImportKind) (file : List ℕ) (e : Entry) → Has (entries_of (imported x now k file)) e → (es : List Entry) × (file_rows x now k file ≡ Ok es) × Has es e
imported_rows x now k file e = go (nat_lt IMPORTED_FILE (length file))
  where
    go : (b : Bool) → Has (entries_of (if b then Err BodyTooLarge else unless_closed (is_of_settings k && are_closed x now) (file_rows x now k file))) e → (es : List Entry) × (file_rows x now k file ≡ Ok es) × Has es e
    go true h = absurd h
    go false h = taken_rows (is_of_settings k && are_closed x now) (file_rows x now k file) e h

file_adds : (x : ContestState) (now : ℕ) (k : ImportKind) (file : List ℕ) (e : Entry) → Has (entries_of (imported x now k file)) e → FileAdds x now k file e
file_adds x now (kind.Fixed k) file e h = let r = imported_rows x now (kind.Fixed k) file e h in ok_all (file_rows x now (kind.Fixed k) file) r.0 (fixed_all k x.fixed file) r.1 e r.2
file_adds x now kind.VerdictsCsv file e h =
    let r = imported_rows x now kind.VerdictsCsv file e h in
    of (verdicts_in x now (verdict_records file)) refl r.0 r.1 r.2
  where
    of : (q : Result (List NewVerdict) Refusal) → verdicts_in x now (verdict_records file) ≡ q → (es : List Entry) → entries_if q ≡ Ok es → Has es e → FileAdds x now kind.VerdictsCsv file e
    of (Err refusal) is es same k = absurd (cc same)
    of (Ok vs) is es same k =
        let all : flat_map proposed_entries vs ≡ es = cc same in
        let m = has_flat proposed_entries vs e (subst (λ fs. Has fs e) (sym all) k) in
        (vs, is, m.item, m.there, verdict_adds m.item e m.gives)

-- ---- all of it

pub item_adds_so : (x : ContestState) (i : Item) (e : Entry) → Has (item_entries x i) e → ItemAdds x i e
item_adds_so x (item.Request i) e h = wish_adds i.now x (wish_or_reply x.fixed i.credential i.request) e h
item_adds_so x (item.Import i) e h = file_adds x i.now i.kind i.file e h
