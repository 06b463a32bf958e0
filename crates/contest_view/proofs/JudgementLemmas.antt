-- What is served of the judgements that an audience sees.
use Rattle.std.proofs.Common.{◌≡◌, ◌∙◌, ◌≤◌, ℕ, Bool, true, false, List, length, map, Option, Some, None, refl, sym, ap, arith}
use Rattle.std.specs.Prelude.{if◌then◌else◌}
use Rattle.std.specs.List.{filter_map, last_or}
use Rattle.std.specs.Option.{option_map, option_and_then}
use Rattle.contest_types.specs.Judging.{judged}
use Rattle.contest_types.specs.Loads.{without_file, loaded_submissions}
use Rattle.contest_types.specs.Masks.{mask_for, verdict_under}
use Rattle.contest_types.specs.Sight.{Judgement, SeenSubmission, judgement_of, last_judgement, seen_judgement, seen_submission, seen_submissions, sees_submission, sees_team}
use Rattle.contest_types.specs.State.{FixedPart, ContestState, of_release, releases_on}
use Rattle.contest_types.specs.Valid.{is_valid}
use Rattle.contest_types.specs.VisibleIds.{judgement_id}
use Rattle.contest_types.specs.declared.audience.Audience.{Audience}
use Rattle.contest_types.specs.declared.limits.TheConstants.{TEAMS}
use Rattle.contest_types.specs.declared.submission.Release.{Release}
use Rattle.contest_types.specs.declared.submission.Submission.{Submission}
use Rattle.contest_types.proofs.SettingsTest.{is_settings}
use Rattle.contest_types.proofs.SeenWhole.{one_submission, team_there}
use Rattle.contest_types.proofs.ValidParts.{parts}
use Rattle.contest_objects.specs.Items.{Item, IsOrderOf, found_in}
use Rattle.contest_view.specs.Rows.{row_cmp}
use Rattle.contest_objects.proofs.ListingLemmas.{mapped_served}
use Rattle.contest_view.proofs.SeenApart.{number_small}
use Rattle.contest_view.proofs.SeenOrder.{HaveOwnIds, ServesSeen, found_is, items_are}
use Rattle.contest_view.specs.Judgements.{item_of, judgement_found, judgement_items, judgement_row, seen_of}
use Rattle.contest_objects.specs.JudgementObjects.{judgement_item}
use Rattle.contest_lists.specs.RowsOn.{last_row}
use Rattle.contest_view.proofs.JudgementIds.{one_submission_id}
use Rattle.contest_types.proofs.LastLemmas.{last_mapped}

-- what is seen by the last releases is what is seen of the contest
seen_is : (a : Audience) (now : ℕ) (x : ContestState) (last : ℕ → ℕ → Option Release) (s : Submission)
    → ((team number : ℕ) → last team number ≡ last_row of_release x.releases team number) → seen_of a now x.fixed last s ≡ seen_judgement a now x s
seen_is a now x last s lasts =
    let on : option_map judgement_of (last s.team s.number) ≡ last_or None (map judgement_of (releases_on s.team s.number x.releases)) =
    ap (option_map judgement_of) (lasts s.team s.number) ∙ last_mapped judgement_of None (releases_on s.team s.number x.releases) in
    ap (λ o. if sees_team a x.fixed.settings s.team then verdict_under (mask_for a x.fixed.marks now s.team) x.fixed.settings x.fixed.marks s.time o else None) on

abbrev of_seen : FixedPart → SeenSubmission → Option Item
of_seen f v = option_map (item_of f) (judged v)

serves : (a : Audience) (now : ℕ) (x : ContestState) (last : ℕ → ℕ → Option Release) → ((team number : ℕ) → last team number ≡ last_row of_release x.releases team number)
    → ServesSeen a now x (judgement_row a now x.fixed last) (of_seen x.fixed)
serves a now x last lasts s =
    let v = verdict_under (mask_for a x.fixed.marks now s.team) x.fixed.settings x.fixed.marks s.time (last_judgement x s) in
    let seen : Bool → SeenSubmission = λ b. record (seen_submission a now x s) { judgement = if b then v else None } in
    let each : (o : Option Judgement) → option_map (judgement_item x.fixed s.team s.number) o ≡ option_map (item_of x.fixed) (option_map (λ (j : Judgement). record { submission = seen true; judgement = j }) o) = elim [ None ↦ refl | (Some j) ↦ refl ] in
    let go : (b : Bool) → option_map (judgement_item x.fixed s.team s.number) (if b then v else None) ≡ option_and_then (of_seen x.fixed) (if b then Some (seen b) else None) = elim [ true ↦ each v | false ↦ refl ] in
    ap (option_map (judgement_item x.fixed s.team s.number)) (seen_is a now x last s lasts) ∙ go (sees_submission a x s)

-- it is served under an id of its submission
own_id : (a : Audience) (now : ℕ) (f : FixedPart) (last : ℕ → ℕ → Option Release) (s : Submission) (i : Item) → judgement_row a now f last s ≡ Some i → (r : ℕ) × (i.id ≡ judgement_id s.team s.number r)
own_id a now f last s i e =
    let go : (o : Option Judgement) → option_map (judgement_item f s.team s.number) o ≡ Some i → (r : ℕ) × (i.id ≡ judgement_id s.team s.number r) = elim [
      | None ↦ λ g. absurd (cc g)
      | (Some j) ↦ λ g. (let same : judgement_item f s.team s.number j ≡ i = cc g in (j.round, ap (λ (k : Item). k.id) (sym same)))
    ] in
    go (seen_of a now f last s) e

own_ids : (a : Audience) (now : ℕ) (x : ContestState) (last : ℕ → ℕ → Option Release) → is_valid x ≡ true → HaveOwnIds x (judgement_row a now x.fixed last)
own_ids a now x last valid s t i j hs ht is it same =
    let few : length x.fixed.settings.teams ≤ TEAMS = (is_settings x (parts x valid).settings).few_teams in
    let team_s = team_there x s valid hs in
    let team_t = team_there x t valid ht in
    let number_s = number_small x valid s hs in
    let number_t = number_small x valid t ht in
    let n = own_id a now x.fixed last (without_file s) i is in
    let m = own_id a now x.fixed last (without_file t) j it in
    let both = one_submission_id s.team s.number n.0 t.team t.number m.0 (omega (arith, few, team_s)) (omega (arith, number_s)) (omega (arith, few, team_t)) (omega (arith, number_t)) (sym n.1 ∙ (same ∙ m.1)) in
    one_submission x s t valid hs ht both.0 both.1

pub judgements_are : (a : Audience) (now : ℕ) (x : ContestState) → is_valid x ≡ true → (last : ℕ → ℕ → Option Release) → ((team number : ℕ) → last team number ≡ last_row of_release x.releases team number)
    → (order : List Submission) → IsOrderOf (row_cmp x.fixed.settings) (loaded_submissions x) order → filter_map (judgement_row a now x.fixed last) order ≡ judgement_items a now x
judgements_are a now x valid last lasts order l =
    items_are a now x valid (judgement_row a now x.fixed last) (of_seen x.fixed) (serves a now x last lasts) order l ∙ mapped_served (item_of x.fixed) judged (seen_submissions a now x)

pub judgement_is : (a : Audience) (now : ℕ) (x : ContestState) → is_valid x ≡ true → (last : ℕ → ℕ → Option Release) → ((team number : ℕ) → last team number ≡ last_row of_release x.releases team number)
    → (id : List ℕ) → found_in (filter_map (judgement_row a now x.fixed last) (loaded_submissions x)) id ≡ judgement_found a now x id
judgement_is a now x valid last lasts id =
    found_is a now x valid (judgement_row a now x.fixed last) (of_seen x.fixed) (serves a now x last lasts) (own_ids a now x last valid) id
    ∙ ap (λ is. found_in is id) (mapped_served (item_of x.fixed) judged (seen_submissions a now x))
