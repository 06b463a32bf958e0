use Rattle.std.specs.List.{enumerate_from}
use Rattle.std.proofs.lemmas.Result.{on_ok_weaker}
use Rattle.contest_objects.proofs.WrittenLemmas.{array_written}
use Rattle.contest_view.specs.Rejudgings.{numbered_data}
use Rattle.contest_view.proofs.rejudgings.RejudgingsServed.write.Goals as goal

pub returns : goal.returns
returns c =
    on_ok_weaker c.end_array.result
    (array_written (numbered_data c.args.self.now.settings.now) (enumerate_from 1 c.args.self.now.rejudgings.now) c.in_ok-begin_array.ensures c.in_ok-write_numbered.ensures)
    c.end_array.ensures
