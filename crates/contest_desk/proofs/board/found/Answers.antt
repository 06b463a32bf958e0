use Rattle.std.proofs.Common.{◌∙◌, ap}
use Rattle.contest_lists.specs.Lists.{loaded}
use Rattle.contest_desk.proofs.ScoredStores.{scored_as}
use Rattle.contest_desk.proofs.board.found.Goals as goal

pub returns-clause-value : goal.returns-clause-value
returns-clause-value g c = λ clean.
    (let x = (g.S.ContestStore.kept c.args.store.now).contest in
    let mid = g.S.ContestStore.kept c.load.new.self in
    let shows = c.in_ok-load.ensures.leaves.ok clean in
    let settled = c.requires (c.load.ensures.leaves.clean clean) (c.load.ensures.leaves.up clean shows.up) in
    c.in_ok-found.ensures x
    (record { valid = settled.1; lists = c.lists.ensures clean ∙ ap loaded shows.now_is; cells = scored_as c.cells.result.now x mid.contest shows.now_is settled.1 (c.cells.ensures clean) }))
