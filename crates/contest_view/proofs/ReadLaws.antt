-- What holds of all that is read.
use Rattle.std.proofs.Common.{◌≡◌, ℕ, Bool, true, false, List, map, Option, Some, None, refl, sym, ap, ◌∙◌}
use Rattle.std.specs.Prelude.{find, if◌then◌else◌}
use Rattle.std.specs.Option.{option_map}
use Rattle.std.proofs.lemmas.Bool.{false≢true}
use Rattle.std.proofs.lemmas.Slice.Eq.{bytes_eq-Decides}
use Rattle.contest_types.specs.Alike.{Alike, MayBeHeld}
use Rattle.contest_types.specs.Order.{Has}
use Rattle.contest_types.specs.State.{ContestState}
use Rattle.contest_types.specs.Sight.{sees_submission, seen_clarifications, seen_submission, seen_submissions}
use Rattle.contest_types.specs.Valid.{is_valid}
use Rattle.contest_types.specs.declared.audience.Audience.{Audience}
use Rattle.contest_types.specs.declared.submission.Submission.{Submission}
use Rattle.contest_types.proofs.InOrderLemmas.{find_has, found_in}
use Rattle.contest_types.proofs.PlaceLemmas.{and_left, and_right, both_true}
use Rattle.contest_types.proofs.Rising.{find_passes}
use Rattle.contest_types.proofs.SightLemmas.{heard_alike, seen_alike}
use Rattle.contest_objects.specs.Items.{array_of, found_in as item_found}
use Rattle.contest_view.specs.Laws.{AlikeReadTheSame, AlikeReadTheSameClarifications, SeenIsFound, NothingElseIsFound}
use Rattle.contest_types.specs.VisibleIds.{submission_id}
use Rattle.contest_objects.specs.Objects.{submission_object}
use Rattle.contest_objects.specs.ClarificationObjects.{clarification_item}
use Rattle.contest_view.specs.Clarifications.{clarification_items}
use Rattle.contest_view.specs.Reads.{submission_item, submission_items}
use Rattle.contest_view.proofs.SeenById.{is_asked, has_this_id, one_with_id, seen_found, seen_none, found_as}

pub same_submissions : (a : Audience) (now : ℕ) (x y : ContestState) → MayBeHeld a now x → Alike a x y → submission_items a now x ≡ submission_items a now y
same_submissions a now x y held alike =
    ap (λ f. map (submission_item f) (seen_submissions a now x)) alike.fixed ∙ ap (map (submission_item y.fixed)) (seen_alike a now x y held alike)

pub alike_read : AlikeReadTheSame
alike_read a now x y held alike =
    let same = same_submissions a now x y held alike in
    (ap array_of same, λ id. ap (λ items. item_found items id) same)

pub same_clarifications : (a : Audience) (x y : ContestState) → Alike a x y → clarification_items a x ≡ clarification_items a y
same_clarifications a x y alike =
    ap (λ f. map (clarification_item f) (seen_clarifications a x)) alike.fixed ∙ ap (map (clarification_item y.fixed)) (heard_alike a x y alike)

pub clarifications_alike : AlikeReadTheSameClarifications
clarifications_alike a x y alike =
    let same = same_clarifications a x y alike in
    (ap array_of same, λ id. ap (λ items. item_found items id) same)

-- the submission that is found among all has the id
has_id : (a : Audience) (x : ContestState) (id : List ℕ) (t : Submission) → find (is_asked a x id) x.submissions ≡ Some t → submission_id t.team t.number ≡ id
has_id a x id t e = (bytes_eq-Decides (submission_id t.team t.number) id).0 (and_right (sees_submission a x t) _ (find_passes (is_asked a x id) x.submissions t e))

none_seen : (a : Audience) (now : ℕ) (x : ContestState) → is_valid x ≡ true → (id : List ℕ) → ((t : Submission) → find (is_asked a x id) x.submissions ≡ Some t → ⊥) → find (has_this_id id) (seen_submissions a now x) ≡ None
none_seen a now x valid id never =
    let go : (o : Option Submission) → find (is_asked a x id) x.submissions ≡ o → find (is_asked a x id) x.submissions ≡ None = elim [ None ↦ λ e. e | Some t ↦ λ e. absurd (never t e) ] in
    seen_none a now x valid id (go (find (is_asked a x id) x.submissions) refl) (find (has_this_id id) (seen_submissions a now x)) refl

-- by its id a submission is found among those that are seen where it is one of them
pub seen_by_id : (a : Audience) (now : ℕ) (x : ContestState) → is_valid x ≡ true → (s : Submission) → Has x.submissions s
    → find (has_this_id (submission_id s.team s.number)) (seen_submissions a now x) ≡ (if sees_submission a x s then Some (seen_submission a now x s) else None)
seen_by_id a now x valid s there =
    let id = submission_id s.team s.number in
    let one : (t : Submission) → find (is_asked a x id) x.submissions ≡ Some t → t ≡ s = λ t e. one_with_id x valid t s (find_has (is_asked a x id) x.submissions t e) there (has_id a x id t e) in
    let go : (b : Bool) → sees_submission a x s ≡ b → find (has_this_id id) (seen_submissions a now x) ≡ (if b then Some (seen_submission a now x s) else None) = elim [
      | true ↦ λ e. (let f = found_in (is_asked a x id) x.submissions s there (both_true _ _ e ((bytes_eq-Decides id id).1 refl)) in
          seen_found a now x valid id s (f.found ∙ ap Some (one f.item f.found)))
      | false ↦ λ e. none_seen a now x valid id (λ t f. (let sees : sees_submission a x t ≡ true = and_left _ _ (find_passes (is_asked a x id) x.submissions t f) in
          false≢true (sym e ∙ (ap (sees_submission a x) (sym (one t f)) ∙ sees))))
    ] in
    go (sees_submission a x s) refl

pub seen_is_found : SeenIsFound
seen_is_found a now x valid s there =
    let id = submission_id s.team s.number in
    let shown : (b : Bool) → option_map (submission_object x.fixed) (if b then Some (seen_submission a now x s) else None) ≡ (if b then Some (submission_object x.fixed (seen_submission a now x s)) else None) =
    elim [ true ↦ refl | false ↦ refl ] in
    found_as a now x id ∙ (ap (option_map (submission_object x.fixed)) (seen_by_id a now x valid s there) ∙ shown (sees_submission a x s))

pub nothing_else : NothingElseIsFound
nothing_else a now x valid id none =
    found_as a now x id ∙ ap (option_map (submission_object x.fixed)) (none_seen a now x valid id (λ t e. none t (find_has (is_asked a x id) x.submissions t e) (has_id a x id t e)))
