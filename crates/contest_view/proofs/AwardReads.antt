-- The awards that are read: until the thaw, alike contests show an audience the same, and none where there is a freeze
-- moment.
use Rattle.std.proofs.Common.{◌≡◌, ℕ, List, map, ap, ◌∙◌}
use Rattle.contest_types.specs.Alike.{Alike, MayBeHeld}
use Rattle.contest_types.specs.Setup.{Setup}
use Rattle.contest_types.specs.State.{ContestState}
use Rattle.contest_types.specs.declared.audience.Audience.{Audience}
use Rattle.contest_score.specs.Awards.{awards_of, shown_awards}
use Rattle.contest_score.specs.declared.award.Award.{Award}
use Rattle.contest_score.specs.declared.row.Row.{Row}
use Rattle.contest_score.specs.declared.solve.Solve.{Solve}
use Rattle.contest_score.proofs.AwardsAlike.{awards_alike, none_held}
use Rattle.contest_objects.specs.Items.{array_of, found_in}
use Rattle.contest_view.specs.Awards.{award_items, item_of}
use Rattle.contest_view.specs.Laws.{AlikeReadTheSameAwards, NoAwardIsReadBeforeTheThaw}

-- awards of equal settings, rows and solves
pub same_awards : (ws : List Award) (s t : Setup) (rows others : List Row) (solves those : List Solve) → ws ≡ awards_of s rows solves → s ≡ t → rows ≡ others → solves ≡ those → ws ≡ awards_of t others those
same_awards ws s t rows others solves those made settings board solved =
    made ∙ (ap (λ u. awards_of u rows solves) settings ∙ (ap (λ rs. awards_of t rs solves) board ∙ ap (awards_of t others) solved))

pub same_items : (a : Audience) (now : ℕ) (x y : ContestState) → MayBeHeld a now x → Alike a x y → award_items a now x ≡ award_items a now y
same_items a now x y held alike = ap (map (item_of x.fixed.settings)) (awards_alike a now x y held alike) ∙ ap (λ f. map (item_of f.settings) (shown_awards a now y)) alike.fixed

pub read_alike : AlikeReadTheSameAwards
read_alike a now x y held alike =
    let same = same_items a now x y held alike in
    (ap array_of same, λ id. ap (λ items. found_in items id) same)

pub none_read : NoAwardIsReadBeforeTheThaw
none_read a now freeze x held e =
    let none = ap (map (item_of x.fixed.settings)) (none_held a now x freeze held e) in
    (ap array_of none, λ id. ap (λ items. found_in items id) none)
