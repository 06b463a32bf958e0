use Rattle.std.proofs.Common.{◌≡◌, length, take, ap, arith, ◌∙◌}
use Rattle.contest_score.specs.Awards.{first_solves}
use Rattle.contest_score.proofs.FirstSolves.{firsts_at, firsts_more, firsts_same, many_firsts}
use Rattle.contest_score.proofs.first_solves.first_solves.Goals as goal
use Rattle.contest_score.proofs.first_solves.first_solves.Goals.{then-solve-problems+in_ok-take_in, else-solve-problems}

pub index_mut-requires : goal.index_mut-requires
index_mut-requires c =
    omega (arith, c.if-solve-problems.true, many_firsts (take c.loop-solve.solve-index c.args.solves.now) c.args.problems, ap length c.loop-solve.invariant, c.loop-solve.firsts.ok)

pub loop-solve-preserved : goal.loop-solve-preserved
loop-solve-preserved c = elim c.if-solve-problems.branch [
  | then-solve-problems+in_ok-take_in w ↦
      (let before : w.index_mut.result.now ≡ first_solves c.solve-item.result.problem (take c.loop-solve.solve-index c.args.solves.now) =
      w.index_mut.ensures.value ∙ (rw c.loop-solve.invariant (firsts_at (take c.loop-solve.solve-index c.args.solves.now) c.args.problems c.solve-item.result.problem w.index_mut.result.now w.if-solve-problems.true)) in
      rw (w.firsts-is, w.in_ok-take_in.ensures, before, c.loop-solve.invariant) (firsts_more c.args.solves.now c.loop-solve.solve-index c.args.problems c.solve-item.result c.loop-solve-test.true c.solve-item.is w.if-solve-problems.true))
  | else-solve-problems w ↦ rw (w.firsts-is, c.loop-solve.invariant) (firsts_same c.args.solves.now c.loop-solve.solve-index c.args.problems c.solve-item.result c.loop-solve-test.true c.solve-item.is w.if-solve-problems.false)
]
