-- An account stays, and only a token that is posted for it replaces its own.
use Rattle.std.proofs.Common.{◌≡◌, ◌∙◌, ℕ, ◌+◌, Bool, true, false, List, [], ◌∷◌, map, Option, Some, None, Result, Ok, Err, refl, ap}
use Rattle.std.specs.Prelude.{◌&&◌, not, IfOk, length, nat_lt, if◌then◌else◌}
use Rattle.std.specs.List.{flat_map}
use Rattle.std.specs.Option.{option_map_or}
use Rattle.std.specs.Str.{bytes_eq}
use Rattle.contest_types.specs.State.{ContestState, FixedPart}
use Rattle.contest_types.specs.declared.entry.Entry.{Entry}
use Rattle.contest_types.specs.declared.entry.Entry.TheVariants.{NewSubmission, NewProposal, NewRelease, NewClarification, NewRejudging, SetMember, SetRejudging, SetStart, SetThaw, SetFinalized, SetDuration, SetTeamName, SetDigest, NewType, NewLanguage, NewProblem, NewGroup, NewTeam, NewAccount}
use Rattle.contest_types.specs.declared.import_kind.FixedKind.TheVariants as fixed
use Rattle.contest_types.specs.declared.import_kind.ImportKind.{ImportKind}
use Rattle.contest_types.specs.declared.import_kind.ImportKind.TheVariants as kind
use Rattle.contest_types.specs.declared.limits.TheConstants.{IMPORTED_FILE}
use Rattle.contest_types.specs.declared.refusal.Cause.{Cause}
use Rattle.contest_types.specs.declared.refusal.Refusal.{Refusal}
use Rattle.contest_types.specs.declared.refusal.Refusal.TheVariants.{BodyTooLarge}
use Rattle.contest_types.specs.declared.rejudging.Rejudging.{Rejudging}
use Rattle.contest_types.specs.declared.submission.Release.{Release}
use Rattle.contest_rules.specs.ClockChanges.{if_may}
use Rattle.contest_rules.specs.Proposing.{entries_of as proposed_entries}
use Rattle.contest_rules.specs.declared.clock_changes.ClockChange.{ClockChange}
use Rattle.contest_rules.specs.declared.clock_changes.WantedClock.TheVariants as clock
use Rattle.contest_rules.specs.declared.decision.Decision.TheVariants.{Add, Stands}
use Rattle.contest_rules.specs.declared.proposing.NewVerdict.{NewVerdict}
use Rattle.contest_rules.specs.declared.rule_refusal.RuleRefusal.{RuleRefusal}
use Rattle.contest_import.specs.Files.{or_off_form}
use Rattle.contest_import.specs.RowAdditions.{Additions, after_addition, after_record, after_records, none_yet, or_first_fault, row_addition, rows_of, rows_or_refusal}
use Rattle.contest_import_verdicts.specs.VerdictFiles.{entries_if}
use Rattle.contest_operations.specs.Commands.{post_outcome}
use Rattle.contest_operations.specs.Paths.{jury_piece}
use Rattle.contest_operations.specs.Step.{outcome_of, wish_or_reply}
use Rattle.contest_operations.specs.declared.command.Posted.{Posted}
use Rattle.contest_operations.specs.declared.command.Posted.TheVariants.{Submission, Clarification, Proposal, Verification, Opening, Rejudging as OfRejudging, Clock, Final, Change as Changed}
use Rattle.contest_operations.specs.declared.reply.Reply.{Reply}
use Rattle.contest_operations.specs.declared.wish.Wish.{Wish}
use Rattle.contest_operations.specs.declared.wish.Wish.TheVariants.{Do, Read}
use Rattle.contest_postings.specs.DoneThings.{ruled_with}
use Rattle.contest_postings.specs.PostChanges.{change_made, made_as, made_entries, made_entry}
use Rattle.contest_postings.specs.PostRejudgings.{apply_change, cancel_change, member_change, step_change}
use Rattle.contest_postings.specs.declared.changes.FixedChange.{FixedChange}
use Rattle.contest_postings.specs.declared.changes.WantedChange.TheVariants as wanted
use Rattle.contest_postings.specs.declared.rejudging.RejudgingStep.{RejudgingStep}
use Rattle.contest_postings.specs.declared.rejudging.RejudgingStep.TheVariants.{Judge, Apply, Cancel}
use Rattle.contest_types.specs.Accounts.{account_addition, account_named}
use Rattle.contest_types.specs.SetupAdditions.{team_addition}
use Rattle.contest_types.specs.declared.account.Account.{Account}
use Rattle.contest_types.specs.declared.objects.Team.{Team}
use Rattle.contest_types.proofs.PlaceLemmas.{same_bytes}
use Rattle.contest_rules.specs.ClockChanges.{final_change, may_finalize, may_start, may_thaw, start_change, thaw_change}
use Rattle.contest_rules.specs.Extensions.{extension}
use Rattle.contest_rules.specs.declared.rule_refusal.RuleRefusal.TheVariants.{NotFound}
use Rattle.contest_files.specs.JsonMembers.{items_in}
use Rattle.contest_import.specs.CsvFiles.{account_names, account_of, account_record, team_names, team_record}
use Rattle.contest_import.specs.Files.{csv_records}
use Rattle.contest_import.specs.SettingsObjects.{object_row}
use Rattle.contest_import.specs.Teams.{named_team}
use Rattle.contest_operations.proofs.ChangeFacts.{named_so}
use Rattle.contest_operations.proofs.DoneLemmas.{added_holds}
use Rattle.contest_postings.specs.PostChanges.{account_added, is_over, made_object, name_set, ruled_row, team_added, team_named, token_ruled, token_set}
use Rattle.contest_postings.specs.PostClarification.{said_entries, said_object}
use Rattle.contest_postings.specs.PostClock.{clock_entries, contest_after, final_entries, state_after}
use Rattle.contest_postings.specs.PostProposal.{proposal_object}
use Rattle.contest_postings.specs.PostRejudgings.{change_entries, change_object, opening_entries, opening_object}
use Rattle.contest_view.specs.Rejudgings.{named_rejudging}
use Rattle.contest_postings.specs.PostSubmission.{decision_entries, decision_object}
use Rattle.contest_postings.specs.PostVerification.{release_entries, release_object}
use Rattle.contest_postings.specs.declared.changes.FixedChange.TheVariants.{Account as OfAccount, Team as OfTeam, Token as OfToken, Name as OfName, Extension as OfExtension}
use Rattle.contest_postings.specs.declared.changes.WantedChange.{WantedChange}
use Rattle.contest_desk.specs.Imports.{are_closed, is_of_settings}
use Rattle.contest_desk.specs.AccountLaws.{AccountsStay, OnlyTokensAreReplaced, replaces_token, token_posted, token_wished}
use Rattle.contest_desk.specs.Imports.{entries_of, file_rows, imported, unless_closed}
use Rattle.contest_desk.specs.Items.{item_entries}
use Rattle.contest_desk.specs.declared.item.Item.{Item}
use Rattle.contest_desk.specs.declared.item.Item.TheVariants as item
use Rattle.contest_desk.proofs.ItemLemmas.{item_addable, item_adds}
use Rattle.contest_desk.proofs.RepeatLemmas.{runs_grow}
use Rattle.contest_desk.proofs.TokenLemmas.{AllKeep, both_keep, each_done, each_ruled, entries_keep, keeps_token, releases_keep}

pub accounts_stay : AccountsStay
accounts_stay x items answers y valid run id a named = (runs_grow x items answers y valid run).accounts id a named

module _ (id : List ℕ) where
  -- a proposal comes with its release, or without one
  verdict_keeps : (v : NewVerdict) → AllKeep id (proposed_entries v)
  verdict_keeps v =
      let go : (r : Option Release) → AllKeep id (NewProposal v.proposal ∷ elim r [ None ↦ [] | (Some q) ↦ NewRelease q ∷ [] ]) = elim [ None ↦ refl | (Some q) ↦ refl ] in
      go v.release

  -- a step of a rejudging
  step_keeps : (x : ContestState) (now : ℕ) (step : RejudgingStep) (p : ℕ × Rejudging) → IfOk (step_change now step x p) (λ c. AllKeep id c.entries)
  step_keeps x now (Judge v) p = each_ruled id (λ c. AllKeep id c.entries) (member_change p.0 p.1) _ (λ c. refl)
  step_keeps x now Apply p = each_ruled id (λ c. AllKeep id c.entries) (apply_change p.0 p.1) _ (λ vs. both_keep id (map NewRelease vs) _ (releases_keep id vs) refl)
  step_keeps x now Cancel p = each_ruled id (λ c. AllKeep id c.entries) (λ done. cancel_change p.0 p.1) _ (λ done. refl)

  rejudging_keeps : (x : ContestState) (now : ℕ) (step : RejudgingStep) (o : Option (ℕ × Rejudging)) → IfOk (elim o [ None ↦ Err NotFound | (Some p) ↦ step_change now step x p ]) (λ c. AllKeep id c.entries)
  rejudging_keeps x now step None = tt
  rejudging_keeps x now step (Some p) = step_keeps x now step p

  -- a change of the clock
  clock_keeps : (may : Bool) (c : ClockChange) → keeps_token id c.entry ≡ true → IfOk (if_may may c) (λ d. AllKeep id (d.entry ∷ []))
  clock_keeps true c h = rw h refl
  clock_keeps false c h = tt

  -- a change of the settings or the accounts
  made_keep : (change : FixedChange) (is_new : Bool) → keeps_token id (made_entry change) ≡ true → AllKeep id (if is_new then made_entry change ∷ [] else [])
  made_keep change true h = rw h refl
  made_keep change false h = refl

  as_made : (change : FixedChange) (r : Result Bool RuleRefusal) → keeps_token id (made_entry change) ≡ true → IfOk (made_as change r) (λ d. AllKeep id (made_entries d))
  as_made change (Err refusal) h = tt
  as_made change (Ok is_new) h = made_keep change is_new h

  -- what is posted, unless it is a token for this account
  abbrev pub Other : Option (List ℕ) → Type 0
  Other o = option_map_or (λ other. bytes_eq other id) o false ≡ false

  changes_keep : (now : ℕ) (x : ContestState) (w : WantedChange) → Other (token_posted (Changed w)) → IfOk (change_made now w x) (λ d. AllKeep id (made_entries d))
  changes_keep now x (wanted.Account a) other = account_keeps (account_of x.fixed.settings a)
    where
      account_keeps : (o : Option Account) → IfOk (account_added x.fixed o) (λ d. AllKeep id (made_entries d))
      account_keeps None = tt
      account_keeps (Some b) = as_made (OfAccount b) (ruled_row false (account_addition x.fixed.settings x.fixed.accounts b)) refl
  changes_keep now x (wanted.Team t) other = team_keeps (named_team x.fixed.settings t)
    where
      team_keeps : (o : Option Team) → IfOk (team_added x.fixed now o) (λ d. AllKeep id (made_entries d))
      team_keeps None = tt
      team_keeps (Some u) = as_made (OfTeam u) (ruled_row (is_over x.fixed now) (team_addition x.fixed.settings u)) refl
  changes_keep now x (wanted.Token t) other = token_keeps (account_named x.fixed.accounts t.id) refl
    where
      token_keeps : (o : Option Account) → account_named x.fixed.accounts t.id ≡ o → IfOk (token_set x.fixed t o) (λ d. AllKeep id (made_entries d))
      token_keeps None named = tt
      token_keeps (Some a) named =
          let same : a.id ≡ t.id = same_bytes a.id t.id (named_so x.fixed.accounts t.id a named) in
          as_made (OfToken a t.digest) (token_ruled x.fixed.accounts a t.digest) (ap (λ u. not (bytes_eq u id)) same ∙ ap not other)
  changes_keep now x (wanted.Name n) other = name_keeps (team_named x.fixed.settings n.team)
    where
      name_keeps : (o : Option (ℕ × Team)) → IfOk (name_set n.name o) (λ d. AllKeep id (made_entries d))
      name_keeps None = tt
      name_keeps (Some p) = made_keep (OfName p.0 (record p.1 { name = n.name })) (not (bytes_eq p.1.name n.name)) refl
  changes_keep now x (wanted.Extension w) other = each_ruled id (λ d. AllKeep id (made_entries d)) _ (extension x.fixed x.submissions now w) (λ e. made_keep (OfExtension e.duration e.freeze) e.is_new refl)

  posts_keep : (now : ℕ) (x : ContestState) (posted : Posted) → Other (token_posted posted) → AllKeep id (post_outcome now posted x).entries
  posts_keep now x (Submission team w) other = added_holds (AllKeep id) (decision_object x.fixed) decision_entries _ refl (each_done id (λ d. AllKeep id (decision_entries d)) _ (elim [ (Add s) ↦ refl | (Stands s) ↦ refl ]))
  posts_keep now x (Clarification c) other = added_holds (AllKeep id) (said_object x.fixed) said_entries _ refl (each_done id (λ d. AllKeep id (said_entries d)) _ (elim [ (Add s) ↦ refl | (Stands s) ↦ refl ]))
  posts_keep now x (Proposal v) other = added_holds (AllKeep id) (proposal_object x.fixed) proposed_entries _ refl (each_done id (λ d. AllKeep id (proposed_entries d)) _ verdict_keeps)
  posts_keep now x (Verification v) other = added_holds (AllKeep id) (release_object x.fixed) release_entries _ refl (each_done id (λ d. AllKeep id (release_entries d)) _ (λ r. refl))
  posts_keep now x (Opening w) other = added_holds (AllKeep id) (opening_object x.fixed) opening_entries _ refl (each_done id (λ d. AllKeep id (opening_entries d)) _ (λ o. refl))
  posts_keep now x (OfRejudging path step) other = added_holds (AllKeep id) (change_object x.fixed) change_entries _ refl (rejudging_keeps x now step (named_rejudging (jury_piece path) x.rejudgings))
  posts_keep now x (Clock (clock.Start start)) other = added_holds (AllKeep id) (contest_after x.fixed) clock_entries _ refl (clock_keeps (may_start x.fixed x.submissions x.clarifications now start) (start_change x.fixed.marks start) refl)
  posts_keep now x (Clock (clock.Thaw thaw)) other = added_holds (AllKeep id) (contest_after x.fixed) clock_entries _ refl (clock_keeps (may_thaw x.fixed now thaw) (thaw_change x.fixed.marks thaw) refl)
  posts_keep now x Final other = added_holds (AllKeep id) (state_after x.fixed) final_entries _ refl (final_keeps (may_finalize x.fixed x.submissions x.releases x.rejudgings now))
    where
      final_keeps : (may : Bool) → IfOk (ruled_with (λ c. record { now = now; change = c }) (if_may may (final_change x.fixed.marks now))) (λ r. AllKeep id (final_entries r))
      final_keeps true = refl
      final_keeps false = tt
  posts_keep now x (Changed w) other = added_holds (AllKeep id) (made_object x.fixed) made_entries _ refl (changes_keep now x w other)

  wishes_keep : (now : ℕ) (x : ContestState) (r : Result Wish Reply) → Other (token_wished r) → AllKeep id (outcome_of x now r).entries
  wishes_keep now x (Err reply) other = refl
  wishes_keep now x (Ok (Read reading a named)) other = refl
  wishes_keep now x (Ok (Do posted)) other = posts_keep now x posted other

  -- a row of a file is none of a token
  row_keeps : (f : FixedPart) (e : Entry) → row_addition f e ≡ Ok true → keeps_token id e ≡ true
  row_keeps f (NewType t) is = refl
  row_keeps f (NewLanguage l) is = refl
  row_keeps f (NewProblem p) is = refl
  row_keeps f (NewGroup g) is = refl
  row_keeps f (NewTeam t) is = refl
  row_keeps f (NewAccount a) is = refl
  row_keeps f (NewSubmission s) is = refl
  row_keeps f (NewProposal p) is = refl
  row_keeps f (NewRelease v) is = refl
  row_keeps f (NewClarification c) is = refl
  row_keeps f (NewRejudging r) is = refl
  row_keeps f (SetMember n place state) is = refl
  row_keeps f (SetRejudging n state) is = refl
  row_keeps f (SetStart start) is = refl
  row_keeps f (SetThaw thaw) is = refl
  row_keeps f (SetFinalized finalized) is = refl
  row_keeps f (SetDuration duration freeze) is = refl
  row_keeps f (SetTeamName team name) is = refl
  row_keeps f (SetDigest other digest) is = absurd (cc is)

  added_keep : (a : Additions) (e : Entry) (r : Result Bool Cause) → row_addition a.fixed e ≡ r → AllKeep id a.rows → IfOk (after_addition a e r) (λ b. AllKeep id b.rows)
  added_keep a e (Err c) is h = tt
  added_keep a e (Ok false) is h = h
  added_keep a e (Ok true) is h = both_keep id a.rows (e ∷ []) h (rw (row_keeps a.fixed e is) refl)

  record_keeps : (a : Additions) (r : Result Entry Cause) → AllKeep id a.rows → IfOk (after_record a r) (λ b. AllKeep id b.rows)
  record_keeps a (Err c) h = tt
  record_keeps a (Ok e) h = added_keep a e (row_addition a.fixed e) refl h

  records_keep : {A : Type 0} (row_of : FixedPart → A → Result Entry Cause) (a : Additions) (n : ℕ) (rs : List A) → AllKeep id a.rows → IfOk (after_records row_of a n rs) (λ b. AllKeep id b.rows)
  records_keep row_of a n [] h = h
  records_keep row_of a n (r ∷ rs) h =
      let go : (q : Result Additions Cause) → IfOk q (λ b. AllKeep id b.rows) → IfOk (or_first_fault (λ b. after_records row_of b (n + 1) rs) n q) (λ b. AllKeep id b.rows) = elim [
        | (Ok b) ↦ λ k. records_keep row_of b (n + 1) rs k
        | (Err c) ↦ λ k. tt
      ] in
      go (after_record a (row_of a.fixed r)) (record_keeps a (row_of a.fixed r) h)

  rows_keep : {A : Type 0} (row_of : FixedPart → A → Result Entry Cause) (f : FixedPart) (rs : List A) → IfOk (rows_of row_of f rs) (AllKeep id)
  rows_keep row_of f rs =
      let go : (q : Result Additions (ℕ × Cause)) → IfOk q (λ b. AllKeep id b.rows) → IfOk (rows_or_refusal q) (AllKeep id) = elim [ (Ok b) ↦ λ k. k | (Err fault) ↦ λ k. tt ] in
      go (after_records row_of (none_yet f) 1 rs) (records_keep row_of (none_yet f) 1 rs refl)

  form_keeps : {A : Type 0} (rows : List A → Result (List Entry) Refusal) (o : Option (List A)) → ((found : List A) → IfOk (rows found) (AllKeep id)) → IfOk (or_off_form rows o) (AllKeep id)
  form_keeps rows None h = tt
  form_keeps rows (Some found) h = h found

  verdicts_keep : (vs : List NewVerdict) → AllKeep id (flat_map proposed_entries vs)
  verdicts_keep [] = refl
  verdicts_keep (v ∷ vs) = both_keep id (proposed_entries v) (flat_map proposed_entries vs) (verdict_keeps v) (verdicts_keep vs)

  if_keep : (r : Result (List NewVerdict) Refusal) → IfOk (entries_if r) (AllKeep id)
  if_keep (Err refusal) = tt
  if_keep (Ok vs) = verdicts_keep vs

  file_keeps : (x : ContestState) (now : ℕ) (k : ImportKind) (file : List ℕ) → IfOk (file_rows x now k file) (AllKeep id)
  file_keeps x now (kind.Fixed (fixed.Settings s)) file = form_keeps (rows_of (object_row s) x.fixed) (items_in file) (rows_keep (object_row s) x.fixed)
  file_keeps x now (kind.Fixed fixed.TeamsCsv) file = form_keeps (rows_of team_record x.fixed) (csv_records team_names file) (rows_keep team_record x.fixed)
  file_keeps x now (kind.Fixed fixed.AccountsCsv) file = form_keeps (rows_of account_record x.fixed) (csv_records account_names file) (rows_keep account_record x.fixed)
  file_keeps x now kind.VerdictsCsv file = if_keep _

  closed_keep : (closed : Bool) (r : Result (List Entry) Refusal) → IfOk r (AllKeep id) → AllKeep id (entries_of (unless_closed closed r))
  closed_keep closed (Err refusal) h = refl
  closed_keep closed (Ok []) h = refl
  closed_keep true (Ok (e ∷ es)) h = refl
  closed_keep false (Ok (e ∷ es)) h = h

  imports_keep : (x : ContestState) (now : ℕ) (k : ImportKind) (file : List ℕ) → AllKeep id (entries_of (imported x now k file))
  imports_keep x now k file =
      let go : (b : Bool) → AllKeep id (entries_of (if b then Err BodyTooLarge else unless_closed (is_of_settings k && are_closed x now) (file_rows x now k file))) =
      elim [ true ↦ refl | false ↦ closed_keep (is_of_settings k && are_closed x now) (file_rows x now k file) (file_keeps x now k file) ] in
      go (nat_lt IMPORTED_FILE (length file))

  items_keep : (x : ContestState) (i : Item) → replaces_token x id i ≡ false → AllKeep id (item_entries x i)
  items_keep x (item.Request i) other = wishes_keep i.now x (wish_or_reply x.fixed i.credential i.request) other
  items_keep x (item.Import i) other = imports_keep x i.now i.kind i.file

pub only_tokens_are_replaced : OnlyTokensAreReplaced
only_tokens_are_replaced x i id a valid named other =
    ap (λ (y : ContestState). account_named y.fixed.accounts id) (item_adds x i) ∙ entries_keep id x a (item_entries x i) named (item_addable x i valid) (items_keep id x i other)
