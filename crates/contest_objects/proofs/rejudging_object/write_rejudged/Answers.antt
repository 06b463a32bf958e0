use Rattle.std.proofs.lemmas.Result.{on_ok_weaker}
use Rattle.contest_objects.specs.RejudgingObjects.{member_data}
use Rattle.contest_objects.proofs.WrittenLemmas.{array_written}
use Rattle.contest_objects.proofs.rejudging_object.write_rejudged.Goals as goal

pub returns : goal.returns
returns c = on_ok_weaker c.end_array.result (array_written (member_data c.args.settings.now) c.args.members.now c.in_ok-begin_array.ensures c.in_ok-write_each.ensures) c.end_array.ensures
