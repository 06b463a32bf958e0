use Rattle.std.proofs.Common.{◌∙◌}
use Rattle.contest_store_cells.proofs.ListedLemmas.{order_after}
use Rattle.contest_store_cells.proofs.placed.compare.Goals as goal

pub returns-in-Equal : goal.returns-in-Equal
returns-in-Equal c =
    c.compare_ids.ensures
    ∙ order_after c.args.settings.now c.args.a.now c.args.b.now _ _ _ _ _ c.mask_number.ensures.value c.mask_number-2.ensures.value c.cmp-masks.ensures c.cmp.ensures c.then.ensures _ c.in-Equal.is

pub returns-in-Less : goal.returns-in-Less
returns-in-Less c = order_after c.args.settings.now c.args.a.now c.args.b.now _ _ _ _ _ c.mask_number.ensures.value c.mask_number-2.ensures.value c.cmp-masks.ensures c.cmp.ensures c.then.ensures _ c.in-Less.is

pub returns-in-Greater : goal.returns-in-Greater
returns-in-Greater c = order_after c.args.settings.now c.args.a.now c.args.b.now _ _ _ _ _ c.mask_number.ensures.value c.mask_number-2.ensures.value c.cmp-masks.ensures c.cmp.ensures c.then.ensures _ c.in-Greater.is
