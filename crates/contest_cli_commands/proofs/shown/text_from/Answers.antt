use Rattle.std.proofs.Common.{inl, inr}
use Rattle.std.proofs.lemmas.Result.{IfErr-weaker}
use Rattle.contest_cli_commands.proofs.ShownLemmas.{shown_now}
use Rattle.contest_cli_commands.proofs.shown.text_from.Goals as goal

pub returns-in-Ok-clause-text : goal.returns-in-Ok-clause-text
returns-in-Ok-clause-text g c clean =
    let old = g.S.ContestStore.kept c.args.store.now in
    let leaves = c.in-Ok.ensures.leaves in
    c.text.ensures.text old.contest
    (shown_now old (g.S.ContestStore.kept c.load.new.self) c.lists.result.now c.cells.result.now c.lists.ensures c.cells.ensures (λ clean. (leaves.ok clean).now_is)
    (λ clean. (c.requires (leaves.clean clean) (leaves.up clean (leaves.ok clean).up)).1) clean)

pub returns-in-Ok-clause-stops : goal.returns-in-Ok-clause-stops
returns-in-Ok-clause-stops g c clean =
    let old = g.S.ContestStore.kept c.args.store.now in
    let leaves = c.in-Ok.ensures.leaves in
    IfErr-weaker c.text.result _ _ (λ stop why. elim why [ inl memory ↦ inl (inr memory) | inr lacks ↦ inr lacks ])
    (c.text.ensures.err old.contest
    (shown_now old (g.S.ContestStore.kept c.load.new.self) c.lists.result.now c.cells.result.now c.lists.ensures c.cells.ensures (λ clean. (leaves.ok clean).now_is)
    (λ clean. (c.requires (leaves.clean clean) (leaves.up clean (leaves.ok clean).up)).1) clean))
