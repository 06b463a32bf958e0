use Rattle.std.proofs.lemmas.Result.{on_ok_weaker}
use Rattle.serde_json.specs.Data.{string}
use Rattle.contest_objects.specs.Members.{id_at}
use Rattle.contest_objects.proofs.WrittenLemmas.{array_written}
use Rattle.contest_objects.proofs.members.write_ids.Goals as goal

pub returns : goal.returns
returns c =
    on_ok_weaker c.end_array.result (array_written (λ place. string (id_at c.args.settings.now c.args.kind place)) c.args.places.now c.in_ok-begin_array.ensures c.in_ok-write_each_id.ensures) c.end_array.ensures
