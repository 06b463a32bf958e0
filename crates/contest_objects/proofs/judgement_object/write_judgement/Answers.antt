use Rattle.std.proofs.lemmas.Result.{on_ok_weaker}
use Rattle.contest_objects.specs.JsonTokens.{data_tokens}
use Rattle.contest_objects.proofs.WrittenLemmas.{behind}
use Rattle.contest_objects.proofs.judgement_object.write_judgement.Goals as goal

pub returns : goal.returns
unfolding data_tokens
returns c =
    on_ok_weaker c.end_object.result
    (λ e. behind c.in_ok-begin_object.ensures (behind c.in_ok-write_member.ensures (behind c.in_ok-write_member-2.ensures (behind c.in_ok-write_member-3.ensures (behind c.in_ok-write_member-4.ensures
    (behind c.in_ok-write_member-5.ensures (behind c.in_ok-write_member-6.ensures (behind c.in_ok-write_member-7.ensures e))))))))
    c.end_object.ensures
