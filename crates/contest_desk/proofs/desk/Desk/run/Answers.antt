use Rattle.std.proofs.Common.{◌≡◌, [], subst, sym, refl, ◌++◌, ◌∷◌, inl, inr, arith, rules}
use Rattle.contest_store.proofs.LeaveLemmas.{failed_then, then_failed}
use Rattle.contest_desk.proofs.RunLemmas.{Handles, begins, handled, ends, leaves_at_end, open_after, counts_more}
use Rattle.contest_desk.specs.Runs.{CountsAnswers}
use Rattle.contest_desk.proofs.desk.Desk.run.Goals as goal

pub loop-item-init : goal.loop-item-init
loop-item-init g c = record {
  run = λ clean. begins (g.S.ContestStore.kept c.args.self.now) c.args.items.items _ _ (search rules) (search rules);
  opens = λ clean all opened. opened;
  faults = subst (λ rs. CountsAnswers rs (g.S.ContestStore.kept c.args.self.now).faults (g.S.ContestStore.kept c.args.self.now).faults) (let e : c.in_ok-answers.answers.items ≡ [] = search rules in sym e) refl;
  clean = λ clean. clean;
  up = λ clean opened. opened;
  shuts = λ clean opened. inl opened;
  troubles = omega arith;
  room = search rules;
}

pub loop-item-preserved : goal.loop-item-preserved
loop-item-preserved g c =
    let handles : (g.S.ContestStore.kept c.perform-answer.new.self).is_clean → Handles (g.S.ContestStore.kept c.loop-item.self) (g.S.ContestStore.kept c.perform-answer.new.self) c.in-Some.item c.perform-answer.result = λ clean. record {
      clean = clean;
      answers = c.perform-answer.ensures.answer clean;
      leaves = c.perform-answer.ensures.leaves;
    } in
    let more : c.push.new.self.items ≡ c.loop-item.answers.items ++ c.perform-answer.result ∷ [] = search rules in
    record {
      run = λ clean. handled (g.S.ContestStore.kept c.args.self.now) (g.S.ContestStore.kept c.loop-item.self) (g.S.ContestStore.kept c.perform-answer.new.self) c.args.items.items c.loop-item.item-iterator.rest.items c.next.new.self.rest.items
          c.loop-item.answers.items c.push.new.self.items c.in-Some.item c.perform-answer.result c.in-Some.ensures.steps.0 more (handles clean) (c.loop-item.invariant.run (c.perform-answer.ensures.leaves.clean clean));
      opens = λ clean all opened. open_after (g.S.ContestStore.kept c.loop-item.self) (g.S.ContestStore.kept c.perform-answer.new.self) c.in-Some.item c.loop-item.answers.items c.push.new.self.items c.perform-answer.result more (handles clean) all;
      faults = subst (λ rs. CountsAnswers rs (g.S.ContestStore.kept c.args.self.now).faults (g.S.ContestStore.kept c.perform-answer.new.self).faults) (sym more)
          (counts_more c.loop-item.answers.items c.perform-answer.result _ _ _ c.loop-item.invariant.faults (c.perform-answer.ensures.leaves.fault, c.perform-answer.ensures.leaves.no_fault));
      clean = λ clean. c.loop-item.invariant.clean (c.perform-answer.ensures.leaves.clean clean);
      up = λ clean opened. c.loop-item.invariant.up (c.perform-answer.ensures.leaves.clean clean) (c.perform-answer.ensures.leaves.up clean opened);
      shuts = λ clean opened. elim (c.loop-item.invariant.shuts (c.perform-answer.ensures.leaves.clean clean) opened) [
        | inl still ↦ elim (c.perform-answer.ensures.leaves.shuts clean still) [ inl now_open ↦ inl now_open | inr failed ↦ inr (then_failed _ _ _ c.loop-item.invariant.troubles failed) ]
        | inr failed ↦ inr (failed_then _ _ _ failed c.perform-answer.ensures.leaves.troubles)
      ];
      troubles = let a = c.loop-item.invariant.troubles in let b = c.perform-answer.ensures.leaves.troubles in omega (arith, a, b);
      room = search rules;
    }

pub returns-clause-run : goal.returns-clause-run
returns-clause-run g c = λ clean. ends (g.S.ContestStore.kept c.args.self.now) (g.S.ContestStore.kept c.loop-item.self) c.args.items.items c.loop-item.item-iterator.rest.items c.loop-item.answers.items (search rules) (c.loop-item.invariant.run clean)

pub returns-clause-crash : goal.returns-clause-crash
returns-clause-crash g c = λ clean. leaves_at_end (g.S.ContestStore.kept c.args.self.now) (g.S.ContestStore.kept c.loop-item.self) c.args.items.items c.loop-item.item-iterator.rest.items c.loop-item.answers.items (search rules) (c.loop-item.invariant.run clean)
