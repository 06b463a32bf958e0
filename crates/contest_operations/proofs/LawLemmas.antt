-- The laws of the desk's steps.
use Rattle.std.proofs.Common.{◌≡◌, ◌∙◌, ℕ, true, Option, Some, None, Result, Ok, Err, refl, sym, ap, subst}
use Rattle.std.specs.Prelude.{IfSome}
use Rattle.contest_types.specs.Addable.{are_addable}
use Rattle.contest_types.specs.Alike.{Alike, MayBeHeld}
use Rattle.contest_types.specs.State.{FixedPart, ContestState}
use Rattle.contest_types.specs.Valid.{is_valid}
use Rattle.contest_types.specs.declared.audience.Audience.{Audience}
use Rattle.contest_types.proofs.AddEntry.{adding_all}
use Rattle.contest_objects.specs.ContestObjects.{whole_data}
use Rattle.contest_objects.specs.SettingsObjects.{settings_data, setting_found}
use Rattle.contest_view.proofs.BoardLaws.{scoreboard_alike}
use Rattle.contest_view.proofs.JudgementLaws.{judgements_alike, proposals_alike}
use Rattle.contest_objects.specs.EventFeed.{feed_text}
use Rattle.contest_operations.specs.Replies.{lines_answer}
use Rattle.contest_view.proofs.FeedLaws.{feed_alike}
use Rattle.contest_view.proofs.FileReadLemmas.{files_alike}
use Rattle.contest_view.proofs.RejudgingLaws.{only_the_jury}
use Rattle.contest_view.proofs.AwardReads.{read_alike as awards_alike}
use Rattle.contest_view.proofs.ReadLaws.{alike_read, clarifications_alike}
use Rattle.contest_operations.specs.Callers.{Caller, caller_of, audience_of}
use Rattle.contest_operations.specs.Laws.{StayAlike, ReadsAlike, StepAlike, StepsKeepValid}
use Rattle.contest_operations.specs.Outcomes.{replying}
use Rattle.contest_operations.specs.Paths.{jury_piece, object_piece}
use Rattle.contest_operations.specs.Commands.{post_outcome}
use Rattle.contest_operations.specs.Readings.{account_found, file_told, read, told}
use Rattle.contest_operations.specs.Step.{wish_or_reply, outcome_of, outcome}
use Rattle.contest_operations.specs.Wishes.{wish_outcome, IsSound}
use Rattle.contest_operations.specs.declared.operation.Endpoint.TheVariants.{Settings, Submissions, Judgements, Clarifications, Awards}
use Rattle.contest_operations.specs.declared.operation.JuryReading.TheVariants.{Proposals, Rejudgings, Rejudging}
use Rattle.contest_operations.specs.declared.operation.Reading.TheVariants.{Whole, List as AllOf, Object, File, Feed, Scoreboard, GroupScoreboard, Account as OwnAccount, Jury as ForJury}
use Rattle.contest_operations.specs.declared.reply.Reply.{Reply}
use Rattle.contest_requests.specs.declared.request.Credential.{Credential}
use Rattle.contest_requests.specs.declared.request.Request.{Request}
use Rattle.contest_operations.specs.declared.wish.Wish.{Wish}
use Rattle.contest_operations.specs.declared.wish.Wish.TheVariants.{Read, Do}
use Rattle.contest_operations.proofs.CommandLemmas.{post_addable, posts_alike}
use Rattle.contest_operations.proofs.WishLemmas.{speaker, SpeaksFor, IfKnown, wished_known}

pub reads_alike : ReadsAlike
reads_alike a now x y (Whole endpoint) path held h = ap (λ (f : FixedPart). told (Some (whole_data endpoint f now))) h.fixed
reads_alike a now x y (AllOf (Settings endpoint)) path held h = ap (λ (f : FixedPart). told (Some (settings_data endpoint f.settings))) h.fixed
reads_alike a now x y (AllOf Submissions) path held h = ap (λ d. told (Some d)) (alike_read a now x y held h).0
reads_alike a now x y (AllOf Judgements) path held h = ap (λ d. told (Some d)) (judgements_alike a now x y held h).0
reads_alike a now x y (AllOf Clarifications) path held h = ap (λ d. told (Some d)) (clarifications_alike a x y h).0
reads_alike a now x y (AllOf Awards) path held h = ap (λ d. told (Some d)) (awards_alike a now x y held h).0
reads_alike a now x y (Object (Settings endpoint)) path held h = ap (λ (f : FixedPart). told (setting_found endpoint f.settings (object_piece path))) h.fixed
reads_alike a now x y (Object Submissions) path held h = ap told ((alike_read a now x y held h).1 (object_piece path))
reads_alike a now x y (Object Judgements) path held h = ap told ((judgements_alike a now x y held h).1 (object_piece path))
reads_alike a now x y (Object Clarifications) path held h = ap told ((clarifications_alike a x y h).1 (object_piece path))
reads_alike a now x y (Object Awards) path held h = ap told ((awards_alike a now x y held h).1 (object_piece path))
reads_alike a now x y File path held h = ap file_told (files_alike a now x y (object_piece path) held h)
reads_alike a now x y Feed path held h = ap (λ es. lines_answer (feed_text es)) (feed_alike a now x y held h)
reads_alike a now x y Scoreboard path held h = ap (λ d. told (Some d)) ((scoreboard_alike a now x y held h).0 None)
reads_alike a now x y GroupScoreboard path held h = ap told ((scoreboard_alike a now x y held h).1 (object_piece path))
reads_alike a now x y OwnAccount id held h = ap (λ (f : FixedPart). told (account_found f id)) h.fixed
reads_alike a now x y (ForJury Proposals) path held h = ap (λ d. told (Some d)) (proposals_alike a now x y held h)
reads_alike a now x y (ForJury Rejudgings) path held h = ap (λ d. told (Some d)) ((only_the_jury a x held.no_jury).0 ∙ sym (only_the_jury a y held.no_jury).0)
reads_alike a now x y (ForJury Rejudging) path held h = ap told ((only_the_jury a x held.no_jury).1 (jury_piece path) ∙ sym ((only_the_jury a y held.no_jury).1 (jury_piece path)))

come_alike : (a : Audience) (now : ℕ) (wish : Wish) (x y : ContestState) → is_valid x ≡ true → is_valid y ≡ true → IsSound x.fixed wish → speaker wish ≡ a → MayBeHeld a now x → Alike a x y
    → StayAlike a x y (wish_outcome now wish x) (wish_outcome now wish y)
come_alike a now (Read reading b path) x y valid_x valid_y sound speaks held h =
    subst (λ c. StayAlike a x y (replying (read c now x reading path)) (replying (read c now y reading path))) (sym speaks) (reads_alike a now x y reading path held h, h)
come_alike a now (Do posted) x y valid_x valid_y sound speaks held h =
    subst (λ b. StayAlike b x y (post_outcome now posted x) (post_outcome now posted y)) speaks (posts_alike now posted x y (λ is. held.no_jury (sym speaks ∙ is)) valid_x valid_y sound (subst (λ b. Alike b x y) (sym speaks) h))

speaks_as : (a : Audience) (o : Option Caller) (wish : Wish) → SpeaksFor o wish → IfSome o (λ who. audience_of who ≡ a) → speaker wish ≡ a
speaks_as a None wish speaks sight = absurd speaks
speaks_as a (Some who) wish speaks sight = speaks ∙ sight

of_alike : (a : Audience) (now : ℕ) (o : Option Caller) (r : Result Wish Reply) (x y : ContestState) → is_valid x ≡ true → is_valid y ≡ true
    → IfKnown x.fixed o r → IfSome o (λ who. audience_of who ≡ a) → MayBeHeld a now x → Alike a x y → StayAlike a x y (outcome_of x now r) (outcome_of y now r)
of_alike a now o (Err reply) x y valid_x valid_y known sight held h = (refl, h)
of_alike a now o (Ok wish) x y valid_x valid_y known sight held h = come_alike a now wish x y valid_x valid_y known.sound (speaks_as a o wish known.speaks sight) held h

pub step_alike : StepAlike
step_alike a now credential request x y valid_x valid_y sight held h =
    subst (λ q. StayAlike a x y (outcome x now credential request) q) (λ i. outcome_of y now (wish_or_reply (h.fixed i) credential request))
    (of_alike a now (caller_of x.fixed credential) (wish_or_reply x.fixed credential request) x y valid_x valid_y (wished_known x credential request valid_x) sight held h)

-- what a wish adds may be added
pub come_addable : (x : ContestState) (now : ℕ) (wish : Wish) → is_valid x ≡ true → IsSound x.fixed wish → are_addable x (wish_outcome now wish x).entries ≡ true
come_addable x now (Read reading a path) valid sound = refl
come_addable x now (Do posted) valid sound = post_addable now posted x valid sound

of_addable : (x : ContestState) (now : ℕ) (o : Option Caller) (r : Result Wish Reply) → is_valid x ≡ true → IfKnown x.fixed o r → are_addable x (outcome_of x now r).entries ≡ true
of_addable x now o (Err reply) valid known = refl
of_addable x now o (Ok wish) valid known = come_addable x now wish valid known.sound

-- what a request adds may be added
pub outcome_addable : (x : ContestState) (now : ℕ) (credential : Credential) (request : Request) → is_valid x ≡ true → are_addable x (outcome x now credential request).entries ≡ true
outcome_addable x now credential request valid = of_addable x now (caller_of x.fixed credential) (wish_or_reply x.fixed credential request) valid (wished_known x credential request valid)

pub steps_keep_valid : StepsKeepValid
steps_keep_valid now credential request x valid = adding_all x (outcome x now credential request).entries valid (outcome_addable x now credential request valid)
