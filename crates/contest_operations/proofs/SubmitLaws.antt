-- A submission as a command: what its body and its caller give, and what every command keeps to.
use Rattle.std.proofs.Common.{◌≡◌, ◌+◌, ◌<◌, ◌≤◌, ℕ, Bool, true, false, List, length, Option, Some, None, Result, Ok, Err, refl, sym, ap, subst, inl, inr, option_and_then}
use Rattle.std.specs.Prelude.{◌==◌, IfSome, nat_le, if◌then◌else◌}
use Rattle.std.proofs.lemmas.Bool.{leb-true}
use Rattle.contest_types.specs.Addable.{are_addable}
use Rattle.contest_types.specs.Alike.{Alike}
use Rattle.contest_types.specs.Refusals.{status_of}
use Rattle.contest_types.specs.State.{ContestState, FixedPart, add_all}
use Rattle.contest_types.specs.TeamPlaces.{team_id_at}
use Rattle.contest_types.specs.Valid.{is_valid}
use Rattle.contest_types.specs.declared.audience.Audience.TheVariants as audience
use Rattle.contest_types.specs.declared.limits.TheConstants.{POSTED_FILE}
use Rattle.contest_types.specs.declared.refusal.Refusal.{Refusal}
use Rattle.contest_types.specs.declared.refusal.Refusal.TheVariants.{BodyTooLarge}
use Rattle.contest_rules.specs.declared.submitting.WantedSubmission.{WantedSubmission}
use Rattle.contest_rules.proofs.SubmittingLemmas.{own_alike}
use Rattle.contest_operations.specs.Callers.{Caller, team_of}
use Rattle.contest_operations.specs.Laws.{StayAlike}
use Rattle.contest_operations.specs.Outcomes.{Outcome, told}
use Rattle.contest_operations.specs.PostedSubmissions.{IsSoundSubmission, posted_as, posted_submission, submission_outcome}
use Rattle.contest_postings.specs.PostSubmission.{done_of_own}
use Rattle.contest_requests.specs.SubmissionBodies.{submission_in, key_in, wanted_of, within_limit, wanted_in}
use Rattle.contest_requests.specs.declared.request.Method.TheVariants.{Get, Head}
use Rattle.contest_requests.specs.declared.request.Request.{Request}
use Rattle.contest_operations.proofs.AddedAlike.{added_alike}
use Rattle.contest_operations.proofs.PostAdds.{AddsAtMost, adds_addable, deciding_adds}
use Rattle.contest_operations.proofs.PostedFacts.{IfKnownPost, OrdinaryRefusal, team_sight}

-- what is read of a body is within its limit
abbrev IsSmall : Result WantedSubmission Refusal → Type 0
IsSmall (Err e) = (status_of e == 503) ≡ false
IsSmall (Ok wanted) = length wanted.file ≤ POSTED_FILE

small : (o : Option WantedSubmission) → IsSmall (within_limit o)
small None = refl
small (Some w) =
    let go : (b : Bool) → nat_le (length w.file) POSTED_FILE ≡ b → IsSmall (if b then Ok w else Err BodyTooLarge) = elim [ true ↦ λ is. leb-true (length w.file) POSTED_FILE is | false ↦ λ is. refl ] in
    go (nat_le (length w.file) POSTED_FILE) refl

body_small : (team : List ℕ) (request : Request) → IsSmall (wanted_in team request.key request.body)
body_small team request = small (option_and_then (λ k. option_and_then (wanted_of team k) (submission_in request.body)) (key_in request.key))

submit_known : (f : FixedPart) (who : Caller) (team : ℕ) (r : Result WantedSubmission Refusal) → team_of who ≡ Some team → team < length f.settings.teams → IsSmall r → IfKnownPost f who (posted_as team r)
submit_known f who team (Err e) is there h = tt
submit_known f who team (Ok wanted) is there h = record { sound = (there, h); speaks = sym (team_sight who team is) }

pub submission_known : (f : FixedPart) (who : Caller) (o : Option ℕ) (request : Request) → team_of who ≡ o → IfSome o (λ team. team < length f.settings.teams) → IfKnownPost f who (posted_submission f o request)
submission_known f who None request is there = tt
submission_known f who (Some team) request is there = submit_known f who team (wanted_in (team_id_at f.settings team) request.key request.body) is there (body_small (team_id_at f.settings team) request)

posted_ordinary : (team : ℕ) (r : Result WantedSubmission Refusal) → IsSmall r → OrdinaryRefusal (posted_as team r)
posted_ordinary team (Err e) h = h
posted_ordinary team (Ok wanted) h = tt

pub submission_refusal_ordinary : (f : FixedPart) (o : Option ℕ) (request : Request) → OrdinaryRefusal (posted_submission f o request)
submission_refusal_ordinary f None request = refl
submission_refusal_ordinary f (Some team) request = posted_ordinary team (wanted_in (team_id_at f.settings team) request.key request.body) (body_small (team_id_at f.settings team) request)

-- until the thaw, what becomes of a team's own post tells nothing of others
pub submissions_alike : (now team : ℕ) (wanted : WantedSubmission) (x y : ContestState) → is_valid x ≡ true → is_valid y ≡ true → IsSoundSubmission x.fixed team wanted → Alike (audience.Team (team + 1)) x y
    → StayAlike (audience.Team (team + 1)) x y (submission_outcome now team wanted x) (submission_outcome now team wanted y)
submissions_alike now team wanted x y valid_x valid_y sound h =
    let a = audience.Team (team + 1) in
    let p = submission_outcome now team wanted x in
    let q = submission_outcome now team wanted y in
    let same : p ≡ q = (λ i. told (done_of_own (h.fixed i) now team (own_alike x y team h i) wanted)) in
    let go : AddsAtMost x team p.entries → Alike a (add_all x p.entries) (add_all y p.entries) = elim [
      | inl none ↦ subst (λ es. Alike a (add_all x es) (add_all y es)) (sym none) h
      | inr adds ↦ subst (λ es. Alike a (add_all x es) (add_all y es)) (sym adds.are) (added_alike x y team adds.submission valid_x valid_y h adds.own adds.next)
    ] in
    (ap (λ (o : Outcome). o.reply) same, subst (λ (o : Outcome). Alike a (add_all x p.entries) (add_all y o.entries)) same (go (deciding_adds x now team wanted valid_x sound)))

pub submission_addable : (now team : ℕ) (w : WantedSubmission) (x : ContestState) → is_valid x ≡ true → IsSoundSubmission x.fixed team w → are_addable x (submission_outcome now team w x).entries ≡ true
submission_addable now team w x valid sound = adds_addable x team _ (deciding_adds x now team w valid sound)

-- it doesn't go by the method
pub submission_unmoved : (f : FixedPart) (team : Option ℕ) (request : Request) → posted_submission f team (record request { method = Head }) ≡ posted_submission f team (record request { method = Get })
submission_unmoved f None request = refl
submission_unmoved f (Some team) request = refl
