-- The group that results name is the first that the team won.
use Rattle.std.proofs.Common.{◌≡◌, ℕ, Bool, true, false, List, [], ◌∷◌, map, filter, Option, Some, None, refl}
use Rattle.std.specs.Prelude.{slice_get, if◌then◌else◌}
use Rattle.std.specs.List.{cons_option, filter_map}
use Rattle.std.specs.Option.{option_map_or}
use Rattle.contest_types.specs.SettingsNames.{group_name_at}
use Rattle.contest_score.specs.AwardLaws.{has_award}
use Rattle.contest_exports.specs.ResultsTsv.{group_of_award, group_text}
use Rattle.contest_laws.specs.GroupsWon.{FirstGroupIsNamed}

abbrev first_of : List (List ℕ) → List ℕ
first_of names = option_map_or (λ name. name) (slice_get names 0) []

pub first_group_is_named : FirstGroupIsNamed
first_group_is_named s [] team = refl
first_group_is_named s (w ∷ ws) team =
    let later = first_group_is_named s ws team in
    let rest = filter (has_award team) ws in
    let named : (o : Option ℕ) → option_map_or (group_name_at s) o (group_text s ws team) ≡ first_of (map (group_name_at s) (cons_option o (filter_map (group_of_award s) rest))) = elim [ None ↦ later | (Some g) ↦ refl ] in
    let won : (b : Bool) → (if b then option_map_or (group_name_at s) (group_of_award s w) (group_text s ws team) else group_text s ws team) ≡ first_of (map (group_name_at s) (filter_map (group_of_award s) (if b then w ∷ rest else rest))) =
    elim [ true ↦ named (group_of_award s w) | false ↦ later ] in
    won (has_award team w)
