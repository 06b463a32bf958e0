use Rattle.std.proofs.Common.{◌≡◌, ◌∙◌, ap, sym}
use Rattle.contest_store.specs.InMemory.{left_after}
use Rattle.contest_store.proofs.CallsLeft.{went_on}
use Rattle.contest_store.proofs.memory.MemoryStoreContestStore.commit.Goals as goal
use Rattle.contest_store.proofs.memory.MemoryStoreContestStore.commit.Goals.{in-Some, in_default}

pub returns-clause-left : goal.returns-clause-left
returns-clause-left c =
    let went : c.self.inside.calls_left ≡ left_after c.args.self.now.calls_left =
    ap (λ s. s.calls_left) c.self.view_is ∙ (ap (λ s. s.calls_left) (c.fails.ensures.goes_on c.if-fails.false) ∙ went_on c.args.self.now.calls_left (sym c.fails.ensures.due ∙ c.if-fails.false)) in
    elim c.match-take.branch [
      | in-Some w ↦ ap (λ s. s.calls_left) w.self-inside-is ∙ went
      | in_default w ↦ ap (λ s. s.calls_left) w.self-inside-is ∙ went
    ]
