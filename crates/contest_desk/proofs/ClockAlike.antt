-- One mark of the clock, set in two contests that are alike, leaves them alike.
use Rattle.std.proofs.Common.{◌≡◌, ◌∙◌, ℕ, true, [], length, map, Option, sym, ap}
use Rattle.std.specs.Prelude.{◌&&◌, ◌==◌, if◌then◌else◌}
use Rattle.std.proofs.lemmas.Bool.{eqb-true}
use Rattle.std.proofs.lemmas.List.{nil_from_length}
use Rattle.contest_types.specs.Addable.{is_addable}
use Rattle.contest_types.specs.Alike.{Alike, TeamSight, Whole, Open, Nothing, own_record, open_record, sight_of}
use Rattle.contest_types.specs.Masks.{owns}
use Rattle.contest_types.specs.Setup.{Setup}
use Rattle.contest_types.specs.State.{ContestState, FixedPart, add, submissions_of}
use Rattle.contest_types.specs.TeamPlaces.{is_public}
use Rattle.contest_types.specs.declared.audience.Audience.{Audience}
use Rattle.contest_types.specs.declared.entry.Entry.TheVariants.{SetFinalized, SetStart, SetThaw}
use Rattle.contest_types.proofs.PlaceLemmas.{and_left}
use Rattle.contest_import.proofs.RowLemmas.{fixed_after}

pub thaw_alike : (a : Audience) (x y : ContestState) (thaw : ℕ) → Alike a x y → Alike a (add x (SetThaw thaw)) (add y (SetThaw thaw))
thaw_alike a x y thaw h = record { fixed = fixed_after x y (SetThaw thaw) h.fixed; teams = h.teams; told = h.told }

pub final_alike : (a : Audience) (x y : ContestState) (finalized : ℕ) → Alike a x y → Alike a (add x (SetFinalized finalized)) (add y (SetFinalized finalized))
final_alike a x y finalized h = record { fixed = fixed_after x y (SetFinalized finalized) h.fixed; teams = h.teams; told = h.told }

-- a start is set where no submission stands
none_stands : (x : ContestState) (start : Option ℕ) → is_addable x (SetStart start) ≡ true → x.submissions ≡ []
none_stands x start can =
    nil_from_length x.submissions (eqb-true (length x.submissions) 0 (and_left (length x.submissions == 0) (length x.clarifications == 0) (and_left ((length x.submissions == 0) && (length x.clarifications == 0)) _ can)))

-- what is learned of a team then goes by the settings alone
sight_of_none : Audience → (team : ℕ) → Setup → TeamSight
sight_of_none a team s = if owns a team then Whole [] else (if is_public s team then Open [] else Nothing)

none_seen : (a : Audience) (x : ContestState) (team : ℕ) → x.submissions ≡ [] → sight_of a x team ≡ sight_of_none a team x.fixed.settings
unfolding sight_of_none
none_seen a x team none =
    ap (λ ss. if owns a team then Whole (map (own_record x) (submissions_of team ss)) else (if is_public x.fixed.settings team then Open (map (open_record x) (submissions_of team ss)) else Nothing)) none

pub start_alike : (a : Audience) (x y : ContestState) (start : Option ℕ) → Alike a x y → is_addable x (SetStart start) ≡ true → is_addable y (SetStart start) ≡ true → Alike a (add x (SetStart start)) (add y (SetStart start))
start_alike a x y start h can can_too = record {
  fixed = fixed_after x y (SetStart start) h.fixed;
  teams = λ team. none_seen a (add x (SetStart start)) team (none_stands x start can)
      ∙ (ap (λ (f : FixedPart). sight_of_none a team f.settings) h.fixed ∙ sym (none_seen a (add y (SetStart start)) team (none_stands y start can_too)));
  told = h.told;
}
