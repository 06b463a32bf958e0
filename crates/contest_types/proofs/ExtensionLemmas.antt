-- What an extension leaves of what is seen and heard.
use Rattle.std.proofs.Common.{◌≡◌, ◌∙◌, ℕ, Bool, true, false, List, [], ◌∷◌, map, filter, Option, refl, sym, ap}
use Rattle.std.specs.Prelude.{not, ◌==◌, if◌then◌else◌}
use Rattle.std.specs.List.{list_all, flat_map}
use Rattle.std.proofs.Math.Path.{fun_ext}
use Rattle.std.proofs.lemmas.Bool.{false≢true}
use Rattle.contest_types.specs.Addable.{freezes_the_same}
use Rattle.contest_types.specs.Clock.{is_frozen, is_thawed}
use Rattle.contest_types.specs.Masks.{knows_all_of}
use Rattle.contest_types.specs.Order.{in_order}
use Rattle.contest_types.specs.Setup.{Setup}
use Rattle.contest_types.specs.Sight.{SeenSubmission, sees_submission, sees_team, last_judgement, seen_judgement, seen_submission, submission_cmp, seen_submissions, program_for}
use Rattle.contest_types.specs.SightLaws.{ExtensionShowsNothing}
use Rattle.contest_types.specs.State.{ContestState, with_duration, add, SetDuration}
use Rattle.contest_types.specs.TeamPlaces.{team_places}
use Rattle.contest_types.specs.declared.audience.Audience.{Audience}
use Rattle.contest_types.specs.declared.submission.Submission.{Submission}
use Rattle.contest_types.proofs.PlaceLemmas.{and_left, and_right}
use Rattle.contest_types.proofs.ReleaseLemmas.{shows_no_clarification}
use Rattle.contest_types.proofs.ShownVerdicts.{shown, is_shown}

-- two tests that are asked to agree do
pub agreed : (b c : Bool) → (if b then c else not c) ≡ true → c ≡ b
agreed true true h = refl
agreed true false h = absurd (false≢true h)
agreed false true h = absurd (false≢true h)
agreed false false h = refl

-- what two functions make of those of a list that pass a test is one where they agree on all of the list
pub same_of_some : {X Y : Type 0} (f g : X → Y) (p q : X → Bool) → ((x : X) → p x ≡ true → f x ≡ g x) → (xs : List X) → list_all p xs ≡ true → map f (filter q xs) ≡ map g (filter q xs)
same_of_some f g p q same [] h = refl
same_of_some {X} {Y} f g p q same (x ∷ xs) h =
    let rest = same_of_some f g p q same xs (and_right (p x) _ h) in
    let go : (b : Bool) → map f (if b then x ∷ filter q xs else filter q xs) ≡ map g (if b then x ∷ filter q xs else filter q xs) = elim [ true ↦ rw (same x (and_left _ _ h), rest) refl | false ↦ rest ] in
    go (q x)

module _ (a : Audience) (now : ℕ) (x : ContestState) (duration : ℕ) (freeze : Option ℕ) where
  abbrev s : Setup
  s = x.fixed.settings

  abbrev t : Setup
  t = with_duration s duration freeze

  abbrev y : ContestState
  y = add x (SetDuration duration freeze)

  abbrev agree : Submission → Bool
  agree u = if is_frozen s x.fixed.marks u.time then is_frozen t x.fixed.marks u.time else not (is_frozen t x.fixed.marks u.time)

  -- of a submission that is as frozen as before the same is seen
  same_verdict : (u : Submission) → agree u ≡ true → seen_judgement a now y u ≡ seen_judgement a now x u
  same_verdict u h =
      is_shown a now y u
      ∙ (ap (λ frozen. shown (sees_submission a x u) (knows_all_of a u.team) (is_thawed x.fixed.marks now) frozen (last_judgement x u)) (agreed (is_frozen s x.fixed.marks u.time) (is_frozen t x.fixed.marks u.time) h)
      ∙ sym (is_shown a now x u))

  same_seen : (u : Submission) → agree u ≡ true → seen_submission a now y u ≡ seen_submission a now x u
  same_seen u h = ap (λ judgement. record { team = u.team; number = u.number; time = u.time; problem = u.problem; language = u.language; program = program_for a u; judgement = judgement }) (same_verdict u h)

  seen_alike : list_all agree x.submissions ≡ true → seen_submissions a now y ≡ seen_submissions a now x
  seen_alike h =
      ap (λ (of_team : ℕ → List SeenSubmission). in_order (submission_cmp s) (flat_map of_team (team_places s)))
      (fun_ext (λ team. ap (λ seen. if sees_team a s team then seen else []) (same_of_some (seen_submission a now y) (seen_submission a now x) agree (λ u. u.team == team) same_seen x.submissions h)))

pub extension_shows_nothing : ExtensionShowsNothing
extension_shows_nothing a now x duration freeze may =
    (seen_alike a now x duration freeze (and_right _ (freezes_the_same x.fixed.settings (with_duration x.fixed.settings duration freeze) x.fixed.marks x.submissions) may), shows_no_clarification a x (SetDuration duration freeze) refl)
