use Rattle.std.proofs.Common.{◌≡◌, ap, sym, ◌∙◌}
use Rattle.contest_types.specs.State.{add}
use Rattle.contest_store.specs.InMemory.{contest_of, latest, lists_of}
use Rattle.contest_lists.specs.Lists.{unfiled}
use Rattle.contest_store.proofs.FiledLemmas.{filed_added, still_filed}
use Rattle.contest_store.proofs.memory.MemoryStore.put.Goals as goal

pub invariant_of-self-2 : goal.invariant_of-self-2
invariant_of-self-2 c =
    let was = latest c.self.inside.committed c.self.inside.pending in
    let is : c.in_ok-next.next ≡ add was (unfiled c.args.entry.now) = c.in_ok-next.ensures.lists ∙ ap (λ x. add x (unfiled c.args.entry.now)) (c.requires.latest ∙ ap lists_of (sym c.self.view_is)) in
    still_filed c.self.inside.submissions.items c.changed.new.submissions.items c.self.inside.kept c.self.inside.committed was c.in_ok-next.next c.args.entry.now c.self.invariant c.in_ok-next.ensures.submissions is

pub returns-clause-ok : goal.returns-clause-ok
returns-clause-ok c =
    let was = latest c.self.inside.committed c.self.inside.pending in
    let is : c.in_ok-next.next ≡ add was (unfiled c.args.entry.now) = c.in_ok-next.ensures.lists ∙ ap (λ x. add x (unfiled c.args.entry.now)) (c.requires.latest ∙ ap lists_of (sym c.self.view_is)) in
    filed_added c.self.inside.submissions.items c.changed.new.submissions.items was c.in_ok-next.next c.args.entry.now c.in_ok-next.ensures.submissions is ∙ ap (λ s. add (contest_of s) c.args.entry.now) c.self.view_is
