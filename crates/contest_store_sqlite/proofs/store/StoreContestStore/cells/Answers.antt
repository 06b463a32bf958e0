use Rattle.std.proofs.Common.{◌∙◌, ap, subst, sym}
use Rattle.sqlite.specs.State.{HasCleanDisk}
use Rattle.contest_lists.specs.Lists.{loaded}
use Rattle.contest_store_sqlite.specs.Contests.{contest_of}
use Rattle.contest_store_sqlite.specs.Value.{shown_in}
use Rattle.contest_store_sqlite.proofs.store.StoreContestStore.cells.Goals as goal

pub returns : goal.returns
returns g c = λ trusted valid.
    (let disk = subst (λ v. HasCleanDisk (shown_in g.S.Store v)) (sym c.self.view_is) trusted.0 in
    let held = rw c.in-Some.is at (c.self.invariant.1 disk) in
    c.cells.ensures (contest_of (shown_in g.S.Store c.args.self.now)) valid (held.1 ∙ ap (λ v. loaded (contest_of (shown_in g.S.Store v))) c.self.view_is))
