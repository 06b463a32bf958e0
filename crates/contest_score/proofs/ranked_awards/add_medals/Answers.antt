use Rattle.std.proofs.Common.{◌≡◌, List, subst}
use Rattle.std.specs.Prelude.{OnOk}
use Rattle.contest_score.specs.Awards.{Award}
use Rattle.contest_score.proofs.AwardLists.{medals_added}
use Rattle.contest_score.proofs.ranked_awards.add_medals.Goals as goal

pub returns : goal.returns
returns c =
    let P : List Award → Type 0 = λ xs. OnOk c.add-3.result (c.add-3.new.awards ≡ xs) in
    let all = medals_added c.args.settings.now c.args.rows.now c.medal_places-places.result c.args.awards.now c.add.new.awards c.add-2.new.awards c.in_ok-medal.field-0 c.in_ok-medal-2.field-0 c.in_ok-medal-3.field-0 c.medal_places-places.ensures.value c.in_ok-medal.ensures c.in_ok-medal-2.ensures c.in_ok-medal-3.ensures c.in_ok-add.ensures c.in_ok-add-2.ensures in
    subst P all c.add-3.ensures
