use Rattle.contest_demo.proofs.FillLemmas.{then_committed}
use Rattle.contest_demo.proofs.filling.add_all.Goals as goal

pub returns : goal.returns
returns g c =
    then_committed c.in_ok-append_all.field-0 c.commit.result (g.S.ContestStore.kept c.args.store.now) (g.S.ContestStore.kept c.append_all.new.store) (g.S.ContestStore.kept c.commit.new.self)
    c.args.entries.items c.in_ok-append_all.ensures c.commit.ensures
