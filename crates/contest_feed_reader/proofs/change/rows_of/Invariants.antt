use Rattle.std.proofs.Common.{◌≡◌, [], drop, map}
use Rattle.serde_json.specs.View.{view}
use Rattle.contest_types.specs.Options.{all_some}
use Rattle.contest_feed_reader.specs.Collections.{item_in}
use Rattle.contest_feed_reader.specs.PutRows.{put_all}
use Rattle.contest_feed_reader.proofs.change.rows_of.Given as goal

-- the rows so far and the items that are left give what all items do
abbrev pub invariant-loop-item : goal.invariant-loop-item
invariant-loop-item g l =
    put_all l.line [] (all_some (map (item_in g.T.FeedObject.members) (map view l.items)))
    ≡ put_all l.line l.rows (all_some (map (item_in g.T.FeedObject.members) (map view (drop l.item-index l.items))))
