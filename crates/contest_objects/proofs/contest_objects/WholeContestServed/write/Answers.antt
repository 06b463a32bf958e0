use Rattle.std.proofs.lemmas.Result.{on_ok_weaker}
use Rattle.contest_objects.specs.JsonTokens.{data_tokens}
use Rattle.contest_objects.proofs.WrittenLemmas.{behind}
use Rattle.contest_objects.proofs.contest_objects.WholeContestServed.write.Goals as goal

pub returns-in_ok-write-in-Contests : goal.returns-in_ok-write-in-Contests
unfolding data_tokens
returns-in_ok-write-in-Contests c =
    rw c.in-Contests.is (on_ok_weaker c.end_array.result (λ e. behind c.in_ok-begin_array-in-Contests.ensures (behind (rw (c.of-contest.ensures.head, c.of-contest.ensures.duration, c.of-contest.ensures.freeze, c.of-contest.ensures.marks) at c.in_ok-write-in-Contests.ensures) e)) c.end_array.ensures)
