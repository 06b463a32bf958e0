-- A duration, a team's name or a token, set in two contests that are alike, leaves them alike.
use Rattle.std.proofs.Common.{◌≡◌, ◌∙◌, ℕ, Bool, true, List, [], map, Option, refl, sym, ap}
use Rattle.std.specs.Prelude.{◌==◌, not, if◌then◌else◌}
use Rattle.contest_types.specs.Addable.{is_addable, freezes_the_same}
use Rattle.contest_types.specs.Alike.{Alike, Whole, Open, Nothing, own_record, open_record, sight_of}
use Rattle.contest_types.specs.Clock.{is_frozen}
use Rattle.contest_types.specs.Masks.{owns}
use Rattle.contest_types.specs.Setup.{Setup}
use Rattle.contest_types.specs.Sight.{judgements_on}
use Rattle.contest_types.specs.State.{ContestState, add, submissions_of, with_duration, with_team_name}
use Rattle.contest_types.specs.TeamPlaces.{is_public}
use Rattle.contest_types.specs.declared.audience.Audience.{Audience}
use Rattle.contest_types.specs.declared.entry.Entry.TheVariants.{SetDuration, SetTeamName, SetDigest}
use Rattle.contest_types.specs.declared.submission.Submission.{Submission}
use Rattle.contest_types.proofs.ExtensionLemmas.{agreed, same_of_some}
use Rattle.contest_types.proofs.NameLemmas.{hears_with_name, public_stays}
use Rattle.contest_types.proofs.PlaceLemmas.{and_right}
use Rattle.contest_import.proofs.RowLemmas.{fixed_after}
use Rattle.contest_desk.proofs.SettingsAlike.{by_hearing, told_still}

-- where the same submissions are frozen, what is learned of a team is what was
module _ (a : Audience) (x : ContestState) (duration : ℕ) (freeze : Option ℕ) (may : is_addable x (SetDuration duration freeze) ≡ true) where
  abbrev s : Setup
  s = x.fixed.settings

  abbrev t : Setup
  t = with_duration s duration freeze

  abbrev y : ContestState
  y = add x (SetDuration duration freeze)

  abbrev agree : Submission → Bool
  agree u = if is_frozen s x.fixed.marks u.time then is_frozen t x.fixed.marks u.time else not (is_frozen t x.fixed.marks u.time)

  record_stays : (u : Submission) → agree u ≡ true → open_record y u ≡ open_record x u
  record_stays u h =
      ap (λ frozen. record { number = u.number; problem = u.problem; language = u.language; time = u.time; judgements = if frozen then [] else judgements_on x u })
      (agreed (is_frozen s x.fixed.marks u.time) (is_frozen t x.fixed.marks u.time) h)

  pub sight_stays : (team : ℕ) → sight_of a y team ≡ sight_of a x team
  sight_stays team =
      let own = submissions_of team x.submissions in
      ap (λ opened. if owns a team then Whole (map (own_record x) own) else (if is_public s team then Open opened else Nothing))
      (same_of_some (open_record y) (open_record x) agree (λ u. u.team == team) record_stays x.submissions (and_right _ (freezes_the_same s t x.fixed.marks x.submissions) may))

pub duration_alike : (a : Audience) (x y : ContestState) (duration : ℕ) (freeze : Option ℕ) → Alike a x y → is_addable x (SetDuration duration freeze) ≡ true → is_addable y (SetDuration duration freeze) ≡ true
    → Alike a (add x (SetDuration duration freeze)) (add y (SetDuration duration freeze))
duration_alike a x y duration freeze h can can_too = record {
  fixed = fixed_after x y (SetDuration duration freeze) h.fixed;
  teams = λ team. sight_stays a x duration freeze can team ∙ (h.teams team ∙ sym (sight_stays a y duration freeze can_too team));
  told = told_still a x y (with_duration x.fixed.settings duration freeze) (with_duration y.fixed.settings duration freeze) refl refl h;
}

-- nor is anything learned of a team by its name
name_sight : (a : Audience) (x : ContestState) (named : ℕ) (name : List ℕ) (team : ℕ) → sight_of a (add x (SetTeamName named name)) team ≡ sight_of a x team
name_sight a x named name team =
    let own = submissions_of team x.submissions in
    ap (λ public. if owns a team then Whole (map (own_record x) own) else (if public then Open (map (open_record x) own) else Nothing)) (public_stays x.fixed.settings named name team)

pub team_name_alike : (a : Audience) (x y : ContestState) (named : ℕ) (name : List ℕ) → Alike a x y → Alike a (add x (SetTeamName named name)) (add y (SetTeamName named name))
team_name_alike a x y named name h = record {
  fixed = fixed_after x y (SetTeamName named name) h.fixed;
  teams = λ team. name_sight a x named name team ∙ (h.teams team ∙ sym (name_sight a y named name team));
  told = λ to.
      by_hearing a x (with_team_name x.fixed.settings named name) x.fixed.settings (hears_with_name a x.fixed.settings named name) to
      ∙ (h.told to ∙ sym (by_hearing a y (with_team_name y.fixed.settings named name) y.fixed.settings (hears_with_name a y.fixed.settings named name) to));
}

pub digest_alike : (a : Audience) (x y : ContestState) (id digest : List ℕ) → Alike a x y → Alike a (add x (SetDigest id digest)) (add y (SetDigest id digest))
digest_alike a x y id digest h = record { fixed = fixed_after x y (SetDigest id digest) h.fixed; teams = h.teams; told = h.told }
