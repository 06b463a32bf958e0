use Rattle.std.proofs.Common.{◌+◌, ◌≤◌, length, vec_len, vec_capacity}
use Rattle.std.specs.Prelude.{◌⊎◌, All, IsTrue}
use Rattle.contest_streams.specs.Streams.{Failed}
use Rattle.contest_desk.specs.Items.{IsStoreAnswer}
use Rattle.contest_desk.specs.Runs.{CountsAnswers}
use Rattle.contest_desk.proofs.RunLemmas.{GoesOn}
use Rattle.contest_desk.proofs.desk.Desk.run.Given as goal

abbrev pub invariant-loop-item : goal.invariant-loop-item
invariant-loop-item g l = record {
  run : (g.S.ContestStore.kept l.self).is_clean → GoesOn (g.S.ContestStore.kept l.fn.self) (g.S.ContestStore.kept l.self) l.fn.items.items l.item-iterator.rest.items l.answers.items;
  opens : (g.S.ContestStore.kept l.self).is_clean → All (λ answer. IsStoreAnswer answer → ⊥) l.answers.items → IsTrue (g.S.ContestStore.kept l.fn.self).is_open → IsTrue (g.S.ContestStore.kept l.self).is_open;
  faults : CountsAnswers l.answers.items (g.S.ContestStore.kept l.fn.self).faults (g.S.ContestStore.kept l.self).faults;
  clean : (g.S.ContestStore.kept l.self).is_clean → (g.S.ContestStore.kept l.fn.self).is_clean;
  up : (g.S.ContestStore.kept l.self).is_clean → IsTrue (g.S.ContestStore.kept l.self).is_open → IsTrue (g.S.ContestStore.kept l.fn.self).is_open;
  shuts : (g.S.ContestStore.kept l.self).is_clean → IsTrue (g.S.ContestStore.kept l.fn.self).is_open → IsTrue (g.S.ContestStore.kept l.self).is_open ⊎ Failed (g.S.ContestStore.kept l.fn.self).troubles (g.S.ContestStore.kept l.self).troubles;
  troubles : (g.S.ContestStore.kept l.fn.self).troubles ≤ (g.S.ContestStore.kept l.self).troubles;
  room : vec_len l.answers + length l.item-iterator.rest.items ≤ vec_capacity l.answers;
}
