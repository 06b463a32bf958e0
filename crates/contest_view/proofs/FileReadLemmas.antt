-- The file that is read is that of the one submission with the id, and it is for its team and the jury alone.
use Rattle.std.proofs.Common.{◌≡◌, ◌∙◌, ℕ, Bool, true, false, List, Option, Some, None, refl, sym, ap}
use Rattle.std.specs.Prelude.{◌==◌, ◌&&◌, find, if◌then◌else◌}
use Rattle.std.specs.Option.{option_map, option_and_then}
use Rattle.std.proofs.lemmas.Bool.{eq-eqb, eqb-true}
use Rattle.contest_types.specs.Loads.{without_file, file_of}
use Rattle.contest_types.specs.Masks.{knows_all_of}
use Rattle.contest_types.specs.Order.{Has}
use Rattle.contest_types.specs.Sight.{Program, program_of, seen_submission, seen_submissions, sees_submission}
use Rattle.contest_types.specs.State.{ContestState}
use Rattle.contest_types.specs.TeamPlaces.{is_public}
use Rattle.contest_types.specs.Valid.{is_valid}
use Rattle.contest_types.specs.VisibleIds.{submission_id}
use Rattle.contest_types.specs.declared.audience.Audience.{Audience}
use Rattle.contest_types.specs.declared.submission.Submission.{Submission}
use Rattle.contest_types.proofs.InOrderLemmas.{find_has, found_in}
use Rattle.contest_types.proofs.PlaceLemmas.{and_left, and_right, both_true, or_left}
use Rattle.contest_types.proofs.SeenWhole.{one_submission}
use Rattle.contest_types.proofs.SightLemmas.{seen_alike}
use Rattle.contest_view.specs.FileReads.{shown_file, file_found, place_for}
use Rattle.contest_view.specs.Laws.{AlikeReadTheSameFiles, FilesAreForTheirTeams, PlacedFileIsFound}
use Rattle.contest_view.proofs.SeenById.{is_asked, has_this_id, found_loaded, seen_found, seen_none}
use Rattle.contest_view.proofs.ReadLaws.{seen_by_id}

pub files_alike : AlikeReadTheSameFiles
files_alike a now x y id held alike = ap (λ vs. option_and_then shown_file (find (has_this_id id) vs)) (seen_alike a now x y held alike)

-- its program is shown to those who know all of the team
pub shown_of : (a : Audience) (now : ℕ) (x : ContestState) (s : Submission) → shown_file (seen_submission a now x s) ≡ (if knows_all_of a s.team then Some s.file else None)
shown_of a now x s =
    let go : (b : Bool) → option_map (λ (p : Program). p.file) (if b then Some (program_of s) else None) ≡ (if b then Some s.file else None) =
    elim [ true ↦ refl | false ↦ refl ] in
    go (knows_all_of a s.team)

-- a submission that stands is the one with its team and its number
pub file_there : (x : ContestState) (s : Submission) → is_valid x ≡ true → Has x.submissions s → file_of x s.team s.number ≡ Some s.file
file_there x s valid there =
    let named : Submission → Bool = λ t. (t.team == s.team) && (t.number == s.number) in
    let f = found_in named x.submissions s there (both_true _ _ (eq-eqb s.team s.team refl) (eq-eqb s.number s.number refl)) in
    let t = f.item in
    let team : t.team ≡ s.team = eqb-true t.team s.team (and_left _ _ f.passes) in
    let number : t.number ≡ s.number = eqb-true t.number s.number (and_right (t.team == s.team) _ f.passes) in
    ap (option_map (λ (r : Submission). r.file)) (f.found ∙ ap Some (one_submission x t s valid f.there there team number))

-- the file at a place, if there is one
abbrev file_at : ContestState → Option (ℕ × ℕ) → Option (List ℕ)
file_at x = option_and_then (λ (p : ℕ × ℕ). file_of x p.0 p.1)

-- what its place gives
placed : (a : Audience) (now : ℕ) (x : ContestState) (s : Submission) → is_valid x ≡ true → Has x.submissions s → file_at x (place_for a (without_file s)) ≡ shown_file (seen_submission a now x s)
placed a now x s valid there =
    let go : (b : Bool) → file_at x (if b then Some (s.team, s.number) else None) ≡ (if b then Some s.file else None) = elim [ true ↦ file_there x s valid there | false ↦ refl ] in
    go (knows_all_of a s.team) ∙ sym (shown_of a now x s)

pub placed_file_is_found : PlacedFileIsFound
placed_file_is_found a now x id valid =
    let at : Option Submission → Option (List ℕ) = λ o. file_at x (option_and_then (place_for a) (option_map without_file o)) in
    let go : (o : Option Submission) → find (is_asked a x id) x.submissions ≡ o → at o ≡ file_found a now x id = elim [
      | None ↦ λ e. sym (ap (option_and_then shown_file) (seen_none a now x valid id e (find (has_this_id id) (seen_submissions a now x)) refl))
      | (Some s) ↦ λ e. placed a now x s valid (find_has (is_asked a x id) x.submissions s e) ∙ sym (ap (option_and_then shown_file) (seen_found a now x valid id s e))
    ] in
    ap (λ o. file_at x (option_and_then (place_for a) o)) (found_loaded a x id) ∙ go (find (is_asked a x id) x.submissions) refl

-- who doesn't see a submission doesn't know all of its team
pub files_are_for_their_teams : FilesAreForTheirTeams
files_are_for_their_teams a now x valid s there =
    let id = submission_id s.team s.number in
    let go : (b : Bool) → sees_submission a x s ≡ b → option_and_then shown_file (if b then Some (seen_submission a now x s) else None) ≡ (if knows_all_of a s.team then Some s.file else None) = elim [
      | true ↦ λ e. shown_of a now x s
      | false ↦ λ e. sym (ap (λ (b : Bool). if b then Some s.file else None) (or_left (knows_all_of a s.team) (is_public x.fixed.settings s.team) e))
    ] in
    ap (option_and_then shown_file) (seen_by_id a now x valid s there) ∙ go (sees_submission a x s) refl
