use Rattle.std.proofs.lemmas.Result.{on_ok_weaker}
use Rattle.contest_objects.specs.JsonTokens.{data_tokens}
use Rattle.contest_objects.proofs.WrittenLemmas.{behind}
use Rattle.contest_objects.proofs.members.write_file.Goals as goal

pub returns : goal.returns
unfolding data_tokens
returns c =
    on_ok_weaker c.end_array.result
    (λ e. behind c.in_ok-begin_array.ensures (behind c.in_ok-begin_object.ensures (behind c.in_ok-write_text.ensures (behind c.in_ok-write_text-2.ensures (behind c.in_ok-end_object.ensures e)))))
    c.end_array.ensures
