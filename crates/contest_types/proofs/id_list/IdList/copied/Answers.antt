use Rattle.contest_types.proofs.CopyLemmas.{new_after}
use Rattle.contest_types.proofs.id_list.IdList.copied.Goals as goal

pub push-requires : goal.push-requires
push-requires g c =
    let rows = c.as_slice-row-items.ensures.rows in
    rw c.loop-row.invariant (new_after g.T.Identified.id c.args.self.now c.loop-row.row-index c.row-item.result c.in_ok-copied.field-0 c.as_slice-row-items.ensures.different
    (rw rows at c.loop-row-test.true) (rw rows at c.row-item.is) c.in_ok-copied.ensures)
