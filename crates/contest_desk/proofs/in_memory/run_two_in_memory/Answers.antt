use Rattle.std.proofs.Common.{refl, sym, subst}
use Rattle.contest_types.specs.Alike.{Alike}
use Rattle.contest_store.specs.InMemory.{contest_of}
use Rattle.contest_desk.specs.Runs.{IsRun}
use Rattle.contest_desk.specs.TwoRuns.{first_items, first_answers, second_items, second_answers}
use Rattle.contest_desk.proofs.TwoRunLemmas.{runs_alike}
use Rattle.contest_desk.proofs.in_memory.run_two_in_memory.Goals as goal

pub returns : goal.returns
returns c = record {
  alike = λ a turns other alike asked told asked_too told_too turn.
      let x = contest_of c.args.first.now in
      let y = contest_of c.args.second.now in
      let one = c.in_ok-answers.ensures.run tt in
      let two = c.in_ok-other_answers.ensures.run tt in
      let runs_x : IsRun x (first_items turns) (first_answers turns) one.0 = rw (asked, told) one.1 in
      let runs_y : IsRun y (second_items turns) (second_answers turns) two.0 = rw (asked_too, told_too) two.1 in
      let both = runs_alike a x y turns one.0 two.0 other (c.stays_settled.ensures tt refl).1 (c.stays_settled-2.ensures tt refl).1 alike runs_x runs_y turn in
      (both.0, subst (λ z. Alike a z (contest_of c.run-2.new.self)) (sym (one.2 refl)) (subst (λ z. Alike a one.0 z) (sym (two.2 refl)) both.1));
}
