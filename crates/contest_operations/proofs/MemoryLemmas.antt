-- A request that makes a wish is one that may take memory.
use Rattle.std.proofs.Common.{◌≡◌, Bool, true, false, List, ℕ, Option, Some, None, Result, Ok, Err, refl}
use Rattle.std.specs.Prelude.{is_some, if◌then◌else◌}
use Rattle.contest_types.specs.State.{FixedPart}
use Rattle.contest_types.specs.declared.refusal.Refusal.{Refusal}
use Rattle.contest_operations.specs.Callers.{Caller, audience_of, caller_of, is_admin, judge_of, team_of}
use Rattle.contest_operations.specs.Commands.{if_admin, if_judge, post_takes_memory, posted_as, posted_by}
use Rattle.contest_requests.specs.ClockBodies.{posted_clock}
use Rattle.contest_requests.specs.JuryVerdicts.{posted_verdict}
use Rattle.contest_requests.specs.RejudgingBodies.{posted_rejudging}
use Rattle.contest_operations.specs.PostedClarifications.{clarifying_from, may_write, posted_clarification, sender_for}
use Rattle.contest_rules.specs.declared.clarifying.Sender.{Sender}
use Rattle.contest_operations.specs.PostedChanges.{change_in, posted_change}
use Rattle.contest_operations.specs.PostedSubmissions.{posted_submission}
use Rattle.contest_postings.specs.declared.changes.WantedChange.{WantedChange}
use Rattle.contest_operations.specs.Step.{asked, may_take_memory, or_refused, takes_memory_by, wish_or_reply, wish_or_reply_by}
use Rattle.contest_operations.specs.Wishes.{may_read, named_by, unread_refusal, wish_to_do}
use Rattle.contest_operations.specs.declared.command.Command.{Command}
use Rattle.contest_operations.specs.declared.command.Command.TheVariants.{Submit, Clarify, Propose, Verify, OpenRejudging, JudgeRejudging, ApplyRejudging, CancelRejudging, SetClock, Finalize, Change}
use Rattle.contest_operations.specs.declared.command.Posted.{Posted}
use Rattle.contest_operations.specs.declared.command.Posted.TheVariants.{Change as Changed, Clarification, Clock, Final, Opening}
use Rattle.contest_requests.specs.declared.jury_verdict.JuryVerdict.{JuryVerdict}
use Rattle.contest_operations.specs.declared.operation.Operation.{Operation}
use Rattle.contest_operations.specs.declared.operation.Operation.TheVariants.{Read as ToRead, Do as ToDo}
use Rattle.contest_operations.specs.declared.reply.Reply.{Reply}
use Rattle.contest_requests.specs.declared.request.Credential.{Credential}
use Rattle.contest_requests.specs.declared.request.Request.{Request}
use Rattle.contest_operations.specs.declared.wish.Wish.{Wish}
use Rattle.contest_operations.specs.declared.wish.Wish.TheVariants.{Read}

submission_takes : (f : FixedPart) (request : Request) (wish : Wish) (team : Option ℕ) → or_refused (wish_to_do (posted_submission f team request)) ≡ Ok wish → is_some team ≡ true
submission_takes f request wish None h = absurd (cc h)
submission_takes f request wish (Some team) h = refl

verdict_takes : (make : JuryVerdict → Posted) (body : List ℕ) (wish : Wish) (judge : Option (List ℕ)) → or_refused (wish_to_do (posted_as make (posted_verdict judge body))) ≡ Ok wish → is_some judge ≡ true
verdict_takes make body wish None h = absurd (cc h)
verdict_takes make body wish (Some account) h = refl

opening_takes : (body : List ℕ) (wish : Wish) (judge : Option (List ℕ)) → or_refused (wish_to_do (posted_as Opening (posted_rejudging judge body))) ≡ Ok wish → is_some judge ≡ true
opening_takes body wish None h = absurd (cc h)
opening_takes body wish (Some account) h = refl

judge_takes : (posted : Posted) (wish : Wish) (judge : Option (List ℕ)) → or_refused (wish_to_do (if_judge judge posted)) ≡ Ok wish → is_some judge ≡ true
judge_takes posted wish None h = absurd (cc h)
judge_takes posted wish (Some account) h = refl

clock_takes : (contest body : List ℕ) (wish : Wish) (admin : Bool) → or_refused (wish_to_do (posted_as Clock (posted_clock admin contest body))) ≡ Ok wish → admin ≡ true
clock_takes contest body wish false h = absurd (cc h)
clock_takes contest body wish true h = refl

final_takes : (wish : Wish) (admin : Bool) → or_refused (wish_to_do (if_admin admin Final)) ≡ Ok wish → admin ≡ true
final_takes wish false h = absurd (cc h)
final_takes wish true h = refl

change_takes : (o : Option WantedChange) (wish : Wish) (admin : Bool) → or_refused (wish_to_do (posted_as Changed (posted_change admin o))) ≡ Ok wish → admin ≡ true
change_takes o wish false h = absurd (cc h)
change_takes o wish true h = refl

writing_takes : (f : FixedPart) (account : List ℕ) (request : Request) (wish : Wish) (o : Option Sender) → or_refused (wish_to_do (posted_as Clarification (clarifying_from f account request o))) ≡ Ok wish → is_some o ≡ true
writing_takes f account request wish None h = absurd (cc h)
writing_takes f account request wish (Some s) h = refl

clarification_takes : (f : FixedPart) (request : Request) (wish : Wish) (who : Caller) → or_refused (wish_to_do (posted_as Clarification (posted_clarification f who request))) ≡ Ok wish → may_write who ≡ true
clarification_takes f request wish None h = absurd (cc h)
clarification_takes f request wish (Some account) h = writing_takes f account.id request wish (sender_for account.role) h

-- one line is a command's
post_takes : (f : FixedPart) (who : Caller) (command : Command) (request : Request) (wish : Wish) → or_refused (wish_to_do (posted_by f who command request)) ≡ Ok wish → post_takes_memory who command ≡ true
post_takes f who Submit request wish h = submission_takes f request wish (team_of who) h
post_takes f who Clarify request wish h = clarification_takes f request wish who h
post_takes f who Propose request wish h = verdict_takes _ request.body wish (judge_of who) h
post_takes f who Verify request wish h = verdict_takes _ request.body wish (judge_of who) h
post_takes f who OpenRejudging request wish h = opening_takes request.body wish (judge_of who) h
post_takes f who JudgeRejudging request wish h = verdict_takes _ request.body wish (judge_of who) h
post_takes f who ApplyRejudging request wish h = judge_takes _ wish (judge_of who) h
post_takes f who CancelRejudging request wish h = judge_takes _ wish (judge_of who) h
post_takes f who SetClock request wish h = clock_takes f.settings.head.id request.body wish (is_admin who) h
post_takes f who Finalize request wish h = final_takes wish (is_admin who) h
post_takes f who (Change kind) request wish h = change_takes (change_in kind request.body) wish (is_admin who) h

read_takes : (r wish : Wish) (refusal : Refusal) (b : Bool) → or_refused (if b then Ok r else Err refusal) ≡ Ok wish → b ≡ true
read_takes r wish refusal true h = refl
read_takes r wish refusal false h = absurd (cc h)

by_takes : (f : FixedPart) (o : Option Caller) (request : Request) (r : Result Operation Reply) (wish : Wish) → wish_or_reply_by f o request r ≡ Ok wish → takes_memory_by o r ≡ true
by_takes f o request (Err reply) wish h = absurd (cc h)
by_takes f None request (Ok operation) wish h = absurd (cc h)
by_takes f (Some who) request (Ok (ToRead reading)) wish h = read_takes (Read reading (audience_of who) (named_by who reading request.path)) wish (unread_refusal reading) (may_read who reading) h
by_takes f (Some who) request (Ok (ToDo command)) wish h = post_takes f who command request wish h

pub wished_takes : (f : FixedPart) (credential : Credential) (request : Request) (wish : Wish) → wish_or_reply f credential request ≡ Ok wish → may_take_memory f credential request ≡ true
wished_takes f credential request wish h = by_takes f (caller_of f credential) request (asked f.settings.head.id request.path request.method) wish h
