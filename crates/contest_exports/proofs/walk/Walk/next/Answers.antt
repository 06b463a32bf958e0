use Rattle.std.proofs.Common.{◌<◌, ◌∙◌, arith, length, refl}
use Rattle.std.proofs.lemmas.Option.{slice_get_read}
use Rattle.contest_exports.specs.Walks.{given_by, order_in}
use Rattle.contest_exports.proofs.WalkRows.{in_its_turn}
use Rattle.contest_exports.proofs.walk.Walk.next.Goals as goal

pub returns-in-Ok-clause-given : goal.returns-in-Ok-clause-given
returns-in-Ok-clause-given g c = λ clean.
    let x = (g.S.ContestStore.kept c.args.store.now).contest in
    let walk = c.args.self.now in
    let before = c.in-Ok.ensures.leaves.clean clean in
    let within : given_by walk < length (order_in walk) = omega (arith, c.if-self-len.false, c.len.ensures) in
    c.in-Ok.ensures.row clean
    ∙ in_its_turn x (order_in walk) (given_by walk) c.index.result.now (c.requires.ready before).valid (c.requires.over before)
    (slice_get_read (order_in walk) (length (order_in walk)) (given_by walk) c.index.result.now refl within c.index.ensures)
