-- What is found by its id is the one submission that is seen with this id.
use Rattle.std.proofs.Common.{◌≡◌, ℕ, ◌≤◌, Bool, true, false, List, Option, Some, None, refl, sym, ap, subst, ◌∙◌, arith}
use Rattle.std.specs.Prelude.{◌&&◌, bytes_eq, find, length, if◌then◌else◌}
use Rattle.std.proofs.lemmas.Bool.{false≢true}
use Rattle.std.specs.Option.{option_map}
use Rattle.std.proofs.lemmas.Slice.Eq.{bytes_eq-Decides}
use Rattle.contest_types.specs.Loads.{without_file, loaded_submissions}
use Rattle.contest_types.specs.Order.{Has}
use Rattle.contest_types.specs.State.{FixedPart, ContestState}
use Rattle.contest_types.specs.Sight.{SeenSubmission, sees_team, seen_submission, seen_submissions}
use Rattle.contest_types.specs.Valid.{is_valid}
use Rattle.contest_types.specs.declared.audience.Audience.{Audience}
use Rattle.contest_types.specs.declared.limits.TheConstants.{TEAMS}
use Rattle.contest_types.specs.declared.submission.Submission.{Submission}
use Rattle.contest_types.proofs.SettingsTest.{is_settings}
use Rattle.contest_types.proofs.InOrderLemmas.{find_has, found_in, none_passes}
use Rattle.contest_types.proofs.PlaceLemmas.{and_left, and_right, both_true}
use Rattle.contest_types.proofs.Rising.{find_passes}
use Rattle.contest_types.proofs.SeenWhole.{listed_seen, seen_listed, one_submission, team_there}
use Rattle.contest_types.proofs.ValidParts.{parts}
use Rattle.contest_objects.specs.Items.{Item}
use Rattle.contest_types.specs.VisibleIds.{submission_id}
use Rattle.contest_objects.specs.Objects.{submission_object}
use Rattle.contest_view.specs.Rows.{if_seen}
use Rattle.contest_view.specs.Reads.{named_submission, submission_item, submission_found}
use Rattle.contest_objects.proofs.CollectionLemmas.{find_mapped}
use Rattle.contest_view.proofs.SeenApart.{number_small}
use Rattle.contest_objects.proofs.SubmissionIds.{one_id}

-- this one is asked for
abbrev pub is_asked : Audience → ContestState → List ℕ → Submission → Bool
is_asked a x id s = sees_team a x.fixed.settings s.team && bytes_eq (submission_id s.team s.number) id

abbrev pub has_this_id : List ℕ → SeenSubmission → Bool
has_this_id id v = bytes_eq (submission_id v.team v.number) id

-- of a valid contest, one submission has an id
pub one_with_id : (x : ContestState) → is_valid x ≡ true → (s t : Submission) → Has x.submissions s → Has x.submissions t → submission_id s.team s.number ≡ submission_id t.team t.number → s ≡ t
one_with_id x valid s t hs ht e =
    let few : length x.fixed.settings.teams ≤ TEAMS = (is_settings x (parts x valid).settings).few_teams in
    let team_s = team_there x s valid hs in
    let team_t = team_there x t valid ht in
    let number_s = number_small x valid s hs in
    let number_t = number_small x valid t ht in
    let both = one_id s.team s.number t.team t.number (omega (arith, few, team_s)) (omega (arith, number_s)) (omega (arith, few, team_t)) (omega (arith, number_t)) e in
    one_submission x s t valid hs ht both.0 both.1

-- the submission that is found among all is found among those that are seen
pub seen_found : (a : Audience) (now : ℕ) (x : ContestState) → is_valid x ≡ true → (id : List ℕ) (s : Submission) → find (is_asked a x id) x.submissions ≡ Some s → find (has_this_id id) (seen_submissions a now x) ≡ Some (seen_submission a now x s)
seen_found a now x valid id s e =
    let there = find_has (is_asked a x id) x.submissions s e in
    let passes = find_passes (is_asked a x id) x.submissions s e in
    let sees : sees_team a x.fixed.settings s.team ≡ true = and_left _ _ passes in
    let asked : bytes_eq (submission_id s.team s.number) id ≡ true = and_right (sees_team a x.fixed.settings s.team) _ passes in
    let listed : Has (seen_submissions a now x) (seen_submission a now x s) = seen_listed a now x valid (seen_submission a now x s) (record { submission = s; there = there; sees = sees; shown = refl }) in
    let f = found_in (has_this_id id) (seen_submissions a now x) (seen_submission a now x s) listed asked in
    let i = listed_seen a now x f.item f.there in
    let t = i.submission in
    let same_id : submission_id t.team t.number ≡ id = (bytes_eq-Decides (submission_id t.team t.number) id).0 (subst (λ v. has_this_id id v ≡ true) i.shown f.passes) in
    let one : t ≡ s = one_with_id x valid t s i.there there (same_id ∙ sym ((bytes_eq-Decides (submission_id s.team s.number) id).0 asked)) in
    f.found ∙ ap Some (i.shown ∙ ap (seen_submission a now x) one)

-- and none that isn't
pub seen_none : (a : Audience) (now : ℕ) (x : ContestState) → is_valid x ≡ true → (id : List ℕ) → find (is_asked a x id) x.submissions ≡ None → (o : Option SeenSubmission) → find (has_this_id id) (seen_submissions a now x) ≡ o → o ≡ None
seen_none a now x valid id e None h = refl
seen_none a now x valid id e (Some v) h =
    let i = listed_seen a now x v (find_has (has_this_id id) (seen_submissions a now x) v h) in
    let t = i.submission in
    let asked : has_this_id id (seen_submission a now x t) ≡ true = subst (λ w. has_this_id id w ≡ true) i.shown (find_passes (has_this_id id) (seen_submissions a now x) v h) in
    absurd (none_passes (is_asked a x id) x.submissions t e i.there (both_true _ _ i.sees asked))

pub found_as : (a : Audience) (now : ℕ) (x : ContestState) (id : List ℕ) → submission_found a now x id ≡ option_map (submission_object x.fixed) (find (has_this_id id) (seen_submissions a now x))
found_as a now x id =
    let both : (o : Option SeenSubmission) → option_map (λ (i : Item). i.object) (option_map (submission_item x.fixed) o) ≡ option_map (submission_object x.fixed) o = elim [ None ↦ refl | Some v ↦ refl ] in
    ap (option_map (λ (i : Item). i.object)) (find_mapped (λ (i : Item). bytes_eq i.id id) (submission_item x.fixed) (seen_submissions a now x)) ∙ both (find (has_this_id id) (seen_submissions a now x))

-- files don't enter
pub found_loaded : (a : Audience) (x : ContestState) (id : List ℕ) → find (is_asked a x id) (loaded_submissions x) ≡ option_map without_file (find (is_asked a x id) x.submissions)
found_loaded a x id = find_mapped (is_asked a x id) without_file x.submissions

seen_without : (a : Audience) (f : FixedPart) (o : Option Submission) → option_map without_file (if_seen a f o) ≡ if_seen a f (option_map without_file o)
seen_without a f None = refl
seen_without a f (Some s) =
    let go : (b : Bool) → option_map without_file (if b then Some s else None) ≡ (if b then Some (without_file s) else None) = elim [ true ↦ refl | false ↦ refl ] in
    go (sees_team a f.settings s.team)

abbrev is_named : List ℕ → Submission → Bool
is_named id s = bytes_eq (submission_id s.team s.number) id

-- the one that is asked for is the one with the id, if it is seen
asked_seen : (a : Audience) (x : ContestState) → is_valid x ≡ true → (id : List ℕ) (s : Submission) → named_submission id x.submissions ≡ Some s
    → (b : Bool) → sees_team a x.fixed.settings s.team ≡ b → find (is_asked a x id) x.submissions ≡ (if b then Some s else None)
asked_seen a x valid id s named b sees =
    let there = find_has (is_named id) x.submissions s named in
    let same_id : submission_id s.team s.number ≡ id = (bytes_eq-Decides (submission_id s.team s.number) id).0 (find_passes (is_named id) x.submissions s named) in
    let one : (t : Submission) → Has x.submissions t → is_asked a x id t ≡ true → t ≡ s = λ t has asked.
    one_with_id x valid t s has there ((bytes_eq-Decides (submission_id t.team t.number) id).0 (and_right (sees_team a x.fixed.settings t.team) _ asked) ∙ sym same_id) in
    let go : (c : Bool) → sees_team a x.fixed.settings s.team ≡ c → find (is_asked a x id) x.submissions ≡ (if c then Some s else None) = elim [
      | true ↦ λ is.
          let f = found_in (is_asked a x id) x.submissions s there (both_true _ _ is (find_passes (is_named id) x.submissions s named)) in
          f.found ∙ ap Some (one f.item f.there f.passes)
      | false ↦ λ is.
          let none : (o : Option Submission) → find (is_asked a x id) x.submissions ≡ o → o ≡ None = elim [
            | None ↦ λ e. refl
            | (Some t) ↦ λ e.
                let passes = find_passes (is_asked a x id) x.submissions t e in
                let same : t ≡ s = one t (find_has (is_asked a x id) x.submissions t e) passes in
                absurd (false≢true (sym is ∙ (ap (λ (r : Submission). sees_team a x.fixed.settings r.team) (sym same) ∙ and_left _ _ passes)))
          ] in
          none (find (is_asked a x id) x.submissions) refl
    ] in
    go b sees

asked_named : (a : Audience) (x : ContestState) → is_valid x ≡ true → (id : List ℕ) → find (is_asked a x id) x.submissions ≡ if_seen a x.fixed (named_submission id x.submissions)
asked_named a x valid id =
    let go : (o : Option Submission) → named_submission id x.submissions ≡ o → find (is_asked a x id) x.submissions ≡ if_seen a x.fixed o = elim [
      | None ↦ λ e.
          let none : (o : Option Submission) → find (is_asked a x id) x.submissions ≡ o → o ≡ None = elim [
            | None ↦ λ f. refl
            | (Some t) ↦ λ f. absurd (none_passes (is_named id) x.submissions t e (find_has (is_asked a x id) x.submissions t f) (and_right (sees_team a x.fixed.settings t.team) _ (find_passes (is_asked a x id) x.submissions t f)))
          ] in
          none (find (is_asked a x id) x.submissions) refl
      | (Some s) ↦ λ e. asked_seen a x valid id s e (sees_team a x.fixed.settings s.team) refl
    ] in
    go (named_submission id x.submissions) refl

-- files don't enter that either
pub asked_loaded : (a : Audience) (x : ContestState) → is_valid x ≡ true → (id : List ℕ) → find (is_asked a x id) (loaded_submissions x) ≡ if_seen a x.fixed (named_submission id (loaded_submissions x))
asked_loaded a x valid id =
    found_loaded a x id ∙ (ap (option_map without_file) (asked_named a x valid id) ∙ (seen_without a x.fixed (named_submission id x.submissions)
    ∙ ap (if_seen a x.fixed) (sym (find_mapped (is_named id) without_file x.submissions))))
