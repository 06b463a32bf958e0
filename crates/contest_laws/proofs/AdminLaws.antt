-- Only an administrator replaces a token; and so an account stays as long as none asks.
use Rattle.std.proofs.Common.{◌≡◌, ◌∙◌, ℕ, Bool, true, false, List, [], ◌∷◌, Option, Some, None, Result, Ok, Err, inl, inr, refl, sym, ap}
use Rattle.std.specs.Prelude.{if◌then◌else◌}
use Rattle.std.specs.Option.{option_map_or}
use Rattle.std.specs.Str.{bytes_eq}
use Rattle.std.proofs.lemmas.Bool.{false≢true}
use Rattle.contest_types.specs.TeamPlaces.{team_id_at}
use Rattle.contest_types.specs.Accounts.{account_named}
use Rattle.contest_types.specs.State.{ContestState, FixedPart}
use Rattle.contest_types.specs.Valid.{is_valid}
use Rattle.contest_types.specs.declared.refusal.Refusal.{Refusal}
use Rattle.contest_rules.specs.declared.submitting.WantedSubmission.{WantedSubmission}
use Rattle.contest_postings.specs.declared.changes.WantedChange.{WantedChange}
use Rattle.contest_postings.specs.declared.rejudging.RejudgingStep.TheVariants.{Apply, Cancel, Judge}
use Rattle.contest_operations.specs.Callers.{Caller, audience_of, caller_of, is_admin, judge_of, team_of}
use Rattle.contest_operations.specs.Commands.{if_admin, if_judge, posted_as, posted_by}
use Rattle.contest_operations.specs.PostedClarifications.{posted_clarification}
use Rattle.contest_operations.specs.PostedChanges.{change_in, posted_change}
use Rattle.contest_operations.specs.PostedSubmissions.{posted_as as submission_as, posted_submission}
use Rattle.contest_operations.specs.Step.{asked, or_refused, wish_or_reply_by}
use Rattle.contest_operations.specs.Wishes.{may_read, named_by, unread_refusal, wish_to_do}
use Rattle.contest_operations.specs.declared.command.Command.{Command}
use Rattle.contest_operations.specs.declared.command.Command.TheVariants.{Submit, Clarify, Propose, Verify, OpenRejudging, JudgeRejudging, ApplyRejudging, CancelRejudging, SetClock, Finalize, Change}
use Rattle.contest_operations.specs.declared.command.Posted.{Posted}
use Rattle.contest_operations.specs.declared.command.Posted.TheVariants.{Clarification, Proposal, Verification, Opening, Rejudging as OfRejudging, Clock, Final, Change as Changed}
use Rattle.contest_operations.specs.declared.operation.Operation.{Operation}
use Rattle.contest_operations.specs.declared.operation.Operation.TheVariants.{Read as ToRead, Do as ToDo}
use Rattle.contest_operations.specs.declared.reply.Reply.{Reply}
use Rattle.contest_operations.specs.declared.wish.Wish.{Wish}
use Rattle.contest_operations.specs.declared.wish.Wish.TheVariants.{Read}
use Rattle.contest_requests.specs.ClockBodies.{posted_clock}
use Rattle.contest_requests.specs.JuryVerdicts.{posted_verdict}
use Rattle.contest_requests.specs.RejudgingBodies.{posted_rejudging}
use Rattle.contest_requests.specs.SubmissionBodies.{wanted_in}
use Rattle.contest_requests.specs.declared.request.Request.{Request}
use Rattle.contest_desk.specs.AccountLaws.{replaces_token, token_posted, token_wished}
use Rattle.contest_desk.specs.declared.item.Item.{Item}
use Rattle.contest_desk.specs.declared.item.Item.TheVariants as item
use Rattle.contest_desk.proofs.AccountFacts.{only_tokens_are_replaced}
use Rattle.contest_desk.proofs.ItemLemmas.{items_keep_valid}
use Rattle.contest_laws.specs.Standing.{AccountsStayWithoutAdmins, OnlyAdminsReplaceTokens, is_of_admin}

abbrev ByAdmin : (id : List ℕ) → Option Caller → Result Wish Reply → Type 0
ByAdmin id who r = option_map_or (λ other. bytes_eq other id) (token_wished r) false ≡ true → option_map_or is_admin who false ≡ true

not_judged : (id : List ℕ) (who : Option Caller) (judge : Option (List ℕ)) (posted : Posted) → token_posted posted ≡ None → ByAdmin id who (or_refused (wish_to_do (if_judge judge posted)))
not_judged id who None posted none is = absurd (false≢true is)
not_judged id who (Some account) posted none is = absurd (false≢true (ap (λ o. option_map_or (λ other. bytes_eq other id) o false) (sym none) ∙ is))

not_posted : {A : Type 0} (id : List ℕ) (who : Option Caller) (make : A → Posted) (r : Result A Refusal) → ((b : A) → token_posted (make b) ≡ None) → ByAdmin id who (or_refused (wish_to_do (posted_as make r)))
not_posted id who make (Err refusal) none is = absurd (false≢true is)
not_posted id who make (Ok b) none is = absurd (false≢true (ap (λ o. option_map_or (λ other. bytes_eq other id) o false) (sym (none b)) ∙ is))

posted_changes : (id : List ℕ) (who : Caller) (o : Option WantedChange) → ByAdmin id (Some who) (or_refused (wish_to_do (posted_as Changed (posted_change (is_admin who) o))))
posted_changes id who o = go (is_admin who) refl
  where
    go : (b : Bool) → is_admin who ≡ b → ByAdmin id (Some who) (or_refused (wish_to_do (posted_as Changed (posted_change b o))))
    go true e is = e
    go false e is = absurd (false≢true is)

submitted : (id : List ℕ) (who : Caller) (f : FixedPart) (team : Option ℕ) (request : Request) → ByAdmin id (Some who) (or_refused (wish_to_do (posted_submission f team request)))
submitted id who f None request is = absurd (false≢true is)
submitted id who f (Some team) request is = go (wanted_in (team_id_at f.settings team) request.key request.body) is
  where
    go : (r : Result WantedSubmission Refusal) → ByAdmin id (Some who) (or_refused (wish_to_do (submission_as team r)))
    go (Err refusal) is = absurd (false≢true is)
    go (Ok wanted) is = absurd (false≢true is)

command_by : (id : List ℕ) (f : FixedPart) (who : Caller) (c : Command) (request : Request) → ByAdmin id (Some who) (or_refused (wish_to_do (posted_by f who c request)))
command_by id f who Submit request = submitted id who f (team_of who) request
command_by id f who Clarify request = not_posted id (Some who) Clarification (posted_clarification f who request) (λ c. refl)
command_by id f who Propose request = not_posted id (Some who) Proposal (posted_verdict (judge_of who) request.body) (λ v. refl)
command_by id f who Verify request = not_posted id (Some who) Verification (posted_verdict (judge_of who) request.body) (λ v. refl)
command_by id f who OpenRejudging request = not_posted id (Some who) Opening (posted_rejudging (judge_of who) request.body) (λ w. refl)
command_by id f who JudgeRejudging request = not_posted id (Some who) (λ v. OfRejudging request.path (Judge v)) (posted_verdict (judge_of who) request.body) (λ v. refl)
command_by id f who ApplyRejudging request = not_judged id (Some who) (judge_of who) (OfRejudging request.path Apply) refl
command_by id f who CancelRejudging request = not_judged id (Some who) (judge_of who) (OfRejudging request.path Cancel) refl
command_by id f who SetClock request = not_posted id (Some who) Clock (posted_clock (is_admin who) f.settings.head.id request.body) (λ w. refl)
command_by id f who Finalize request = go (is_admin who)
  where
    go : (b : Bool) → ByAdmin id (Some who) (or_refused (wish_to_do (if_admin b Final)))
    go true is = absurd (false≢true is)
    go false is = absurd (false≢true is)
command_by id f who (Change kind) request = posted_changes id who (change_in kind request.body)

wish_by : (id : List ℕ) (f : FixedPart) (who : Option Caller) (request : Request) (r : Result Operation Reply) → ByAdmin id who (wish_or_reply_by f who request r)
wish_by id f who request (Err reply) is = absurd (false≢true is)
wish_by id f None request (Ok operation) is = absurd (false≢true is)
wish_by id f (Some who) request (Ok (ToRead reading)) is = go (may_read who reading) is
  where
    go : (b : Bool) → ByAdmin id (Some who) (or_refused (if b then Ok (Read reading (audience_of who) (named_by who reading request.path)) else Err (unread_refusal reading)))
    go true k = absurd (false≢true k)
    go false k = absurd (false≢true k)
wish_by id f (Some who) request (Ok (ToDo command)) is = command_by id f who command request is

pub only_admins_replace_tokens : OnlyAdminsReplaceTokens
only_admins_replace_tokens x i id = go i
  where
    go : (j : Item) → replaces_token x id j ≡ true → is_of_admin x j ≡ true
    go (item.Request j) is = wish_by id x.fixed (caller_of x.fixed j.credential) j.request (asked x.fixed.settings.head.id j.request.path j.request.method) is
    go (item.Import j) is = absurd (false≢true is)

-- whoever isn't an administrator replaces no token
replaces_none : (x : ContestState) (i : Item) (id : List ℕ) → is_of_admin x i ≡ false → replaces_token x id i ≡ false
replaces_none x i id none = go (replaces_token x id i) refl
  where
    go : (b : Bool) → replaces_token x id i ≡ b → b ≡ false
    go true is = absurd (false≢true (sym none ∙ only_admins_replace_tokens x i id is))
    go false is = refl

pub accounts_stay_without_admins : AccountsStayWithoutAdmins
accounts_stay_without_admins x y [] [] valid run id a named = ap (λ (z : ContestState). account_named z.fixed.accounts id) run ∙ named
accounts_stay_without_admins x y [] (r ∷ rs) valid run id a named = absurd run
accounts_stay_without_admins x y (i ∷ is) [] valid run id a named = absurd run
accounts_stay_without_admins x y (i ∷ is) (r ∷ rs) valid (none, mid, inl (said, done), rest) id a named =
    accounts_stay_without_admins mid y is rs (ap is_valid done ∙ items_keep_valid x i valid) rest id a
    (ap (λ (z : ContestState). account_named z.fixed.accounts id) done ∙ only_tokens_are_replaced x i id a valid named (replaces_none x i id none))
accounts_stay_without_admins x y (i ∷ is) (r ∷ rs) valid (none, mid, inr (fails, same), rest) id a named =
    accounts_stay_without_admins mid y is rs (ap is_valid same ∙ valid) rest id a (ap (λ (z : ContestState). account_named z.fixed.accounts id) same ∙ named)
