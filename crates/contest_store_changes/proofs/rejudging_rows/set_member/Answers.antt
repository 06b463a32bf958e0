use Rattle.std.proofs.Common.{refl}
use Rattle.contest_types.specs.declared.entry.Entry.TheVariants.{SetMember}
use Rattle.contest_store_tables.specs.Connected.{counts_of, shown_by}
use Rattle.contest_store_changes.proofs.AppendLemmas.{adds_nothing, unfit}
use Rattle.contest_store_changes.proofs.FittingNumbers.{no_such_member}
use Rattle.contest_store_changes.proofs.rejudging_rows.set_member.Goals as goal

pub returns : goal.returns
returns g c = c.change_row.ensures c.args.lists.now (SetMember c.args.n c.args.place c.args.state.now) (refl, rw c.fixed.ensures at c.member_state_cells.ensures)

pub returns-then-not-both_fit : goal.returns-then-not-both_fit
returns-then-not-both_fit g c =
    let state = c.args.state.now in
    adds_nothing (shown_by g.S.Store c.args.tables.now) (counts_of c.args.tables.now) c.args.lists.now (SetMember c.args.n c.args.place state)
    (λ x sound. no_such_member x c.args.n c.args.place state sound (λ fit. unfit c.if-not-both_fit.ensures fit))
