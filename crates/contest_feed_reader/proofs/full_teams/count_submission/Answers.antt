use Rattle.std.proofs.Common.{◌∙◌, sym}
use Rattle.std.specs.HashMap.{get_by}
use Rattle.std.specs.Str.{bytes_eq}
use Rattle.std.proofs.lemmas.Map.Text.{hash_map_updates_str}
use Rattle.contest_feed_reader.proofs.FaultLemmas.{count_step}
use Rattle.contest_feed_reader.proofs.full_teams.count_submission.Goals as goal

pub returns-in_ok-insert : goal.returns-in_ok-insert
returns-in_ok-insert c = λ before are.
    count_step c.args.duration c.args.row.now before (λ team. get_by (λ id. bytes_eq team id.now) c.args.counted.now) (λ team. get_by (λ id. bytes_eq team id.now) c.insert.new.self) c.count_of-count.result (sym c.counts.ensures ∙ c.if-counts.true) c.count_of-count.ensures
    (λ team. rw c.as_str.ensures.text at (hash_map_updates_str c.as_str.result.now c.args.counted.now c.insert.new.self _ c.in_ok-insert.ensures.updates team))
    are
