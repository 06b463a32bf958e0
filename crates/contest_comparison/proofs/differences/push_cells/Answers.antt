use Rattle.std.proofs.Common.{◌≡◌, ℕ, rules}
use Rattle.std.proofs.lemmas.Slice.Zip.{Zip-so_far, either_empty_from_Zip}
use Rattle.std.specs.Iterator.Adapters.{zip_first, zip_second}
use Rattle.std.specs.Slice.Iter.{iter_rest}
use Rattle.contest_score.specs.declared.cell.Cell.{Cell}
use Rattle.contest_comparison.specs.Differences.{problem_lines}
use Rattle.contest_comparison.proofs.PairLemmas.{all_pushed}
use Rattle.contest_comparison.proofs.differences.push_cells.Goals as goal

pub returns : goal.returns
returns c =
    let start = c.into_iter-problem-iterator.result in
    let rest = c.loop-problem.problem-iterator in
    let columns : iter_rest (zip_first start) ≡ c.args.columns.now = search rules in
    let cells : iter_rest (zip_second start) ≡ c.args.cells.now = search rules in
    let far = Zip-so_far c.loop-problem.yielded start rest c.loop-problem.yielded_by in
    let none = either_empty_from_Zip rest c.next.new.self c.next.result c.in-None.is c.next.ensures.steps in
    all_pushed (λ (p : ℕ × Cell). problem_lines c.args.settings.now c.args.of.now c.args.there.now p.0 p.1) _ _ _ _ _ _ _ (rw columns at far.0) (rw cells at far.1) none c.loop-problem.invariant
