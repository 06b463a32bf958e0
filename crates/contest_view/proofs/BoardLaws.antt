-- Until the thaw, alike contests show an audience the same scoreboards.
use Rattle.std.proofs.Common.{◌≡◌, ℕ, List, Option, Some, ap, map, ◌∙◌}
use Rattle.std.specs.Option.{option_map}
use Rattle.std.proofs.Math.Path.{fun_ext}
use Rattle.contest_types.specs.Alike.{Alike, MayBeHeld}
use Rattle.contest_types.specs.Places.{place_of}
use Rattle.contest_types.specs.ProblemPlaces.{problem_order}
use Rattle.contest_types.specs.State.{ContestState, FixedPart}
use Rattle.contest_types.specs.declared.audience.Audience.{Audience}
use Rattle.contest_score.specs.Contest.{board_for}
use Rattle.contest_score.proofs.BoardAlike.{board_alike}
use Rattle.contest_view.specs.Laws.{AlikeShowTheSameScoreboard}
use Rattle.contest_view.specs.Scoreboards.{board_data, group_scoreboard_found, scoreboard_data}

-- of any group, and of none
same_board : (a : Audience) (now : ℕ) (x y : ContestState) → MayBeHeld a now x → Alike a x y → (group : Option ℕ) → scoreboard_data a now group x ≡ scoreboard_data a now group y
same_board a now x y held alike group =
    ap (λ (f : FixedPart). board_data f now (record { columns = problem_order f.settings; rows = board_for a now group x })) alike.fixed
    ∙ ap (λ rows. board_data y.fixed now (record { columns = problem_order y.fixed.settings; rows = rows })) (board_alike a now group x y held alike)

-- by the id of a group
same_found : (a : Audience) (now : ℕ) (x y : ContestState) → MayBeHeld a now x → Alike a x y → (id : List ℕ) → group_scoreboard_found a now x id ≡ group_scoreboard_found a now y id
same_found a now x y held alike id =
    ap (λ f. option_map f (place_of id (map (λ g. g.id) x.fixed.settings.groups))) (fun_ext (λ group. same_board a now x y held alike (Some group)))
    ∙ ap (λ (f : FixedPart). option_map (λ group. scoreboard_data a now (Some group) y) (place_of id (map (λ g. g.id) f.settings.groups))) alike.fixed

pub scoreboard_alike : AlikeShowTheSameScoreboard
scoreboard_alike a now x y held alike = (same_board a now x y held alike, same_found a now x y held alike)
