use Rattle.std.proofs.lemmas.Result.{on_ok_weaker}
use Rattle.contest_objects.specs.JsonTokens.{data_tokens}
use Rattle.contest_objects.proofs.WrittenLemmas.{behind}
use Rattle.contest_objects.proofs.rejudging_object.RejudgingObjectServed.write.Goals as goal

pub returns : goal.returns
unfolding data_tokens
returns c =
    on_ok_weaker c.end_object.result
    (λ e. behind c.in_ok-begin_object.ensures (behind (rw c.format.ensures.text at c.in_ok-write_member.ensures) (behind c.in_ok-write_name.ensures (behind (rw c.as_slice.ensures at c.in_ok-write_rejudged.ensures)
    (behind (rw c.as_str.ensures.text at c.in_ok-write_member-2.ensures) (behind (rw c.state_name.ensures at c.in_ok-write_member-3.ensures) e))))))
    c.end_object.ensures
