use Rattle.std.proofs.lemmas.Result.{on_ok_weaker}
use Rattle.contest_objects.specs.JsonTokens.{data_tokens}
use Rattle.contest_objects.proofs.WrittenLemmas.{behind}
use Rattle.contest_objects.proofs.event_object.EventObjectServed.write.Goals as goal

pub returns : goal.returns
unfolding data_tokens
returns g c =
    on_ok_weaker c.end_object.result
    (λ e. behind c.in_ok-begin_object.ensures (behind c.in_ok-write_name.ensures (behind c.in_ok-write.ensures (behind c.in_ok-write_member.ensures (behind (rw c.format.ensures.text at c.in_ok-write_member-2.ensures)
    (behind c.in_ok-write_member-3.ensures e))))))
    c.end_object.ensures
