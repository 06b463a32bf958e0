use Rattle.std.proofs.Common.{◌≡◌, ◌∙◌, true, sym, subst, ap, inl, inr}
use Rattle.std.specs.Prelude.{◌⊎◌}
use Rattle.contest_types.specs.Alike.{Alike, MayBeHeld}
use Rattle.contest_types.specs.State.{add_all}
use Rattle.contest_types.specs.declared.refusal.Refusal.TheVariants.{StoreFault}
use Rattle.contest_streams.specs.Streams.{Failed}
use Rattle.contest_operations.specs.Laws.{HasSight}
use Rattle.contest_operations.specs.Replies.{IsStoreReply, refused}
use Rattle.contest_operations.specs.Step.{may_take_memory, outcome, step}
use Rattle.contest_operations.specs.declared.reply.Reply.{Reply}
use Rattle.contest_operations.proofs.LawLemmas.{step_alike, steps_keep_valid}
use Rattle.contest_desk.specs.Doing.{DoesOrFails}
use Rattle.contest_desk.proofs.DoingLemmas.{does, fails}
use Rattle.contest_desk.proofs.FaultLemmas.{memory_counted, ordinary_apart, reply_fault, store_reply}
use Rattle.contest_desk.proofs.ServingLemmas.{stays_settled}
use Rattle.contest_desk.proofs.desk.Desk.handle.Goals as goal

pub invariant_of-self : goal.invariant_of-self
invariant_of-self g c = (
  stays_settled (g.S.ContestStore.kept c.self.inside.store) (g.S.ContestStore.kept c.serve.new.store) (outcome (g.S.ContestStore.kept c.self.inside.store).contest c.args.now c.args.credential c.args.request).entries _ c.serve.result
      (steps_keep_valid c.args.now c.args.credential c.args.request (g.S.ContestStore.kept c.self.inside.store).contest) c.self.invariant.0 c.serve.ensures.leaves,
  c.self.invariant.1,
)

pub returns-in-Ok-clause-isolated : goal.returns-in-Ok-clause-isolated
returns-in-Ok-clause-isolated g c = λ clean other a y sight held valid h.
    let before = sym c.self.view_is in
    let old = g.S.ContestStore.kept c.self.inside.store in
    let s = c.in-Ok.ensures.leaves.ok clean in
    let settled = c.self.invariant.0 (c.serve.ensures.leaves.clean clean) (c.serve.ensures.leaves.up clean s.up) in
    let alike = step_alike a c.args.now c.args.credential c.args.request old.contest y settled.1 valid
    (subst (λ r. HasSight (g.S.ContestStore.kept r).contest.fixed c.args.credential a) before sight) (subst (λ r. MayBeHeld a c.args.now (g.S.ContestStore.kept r).contest) before held) (subst (λ r. Alike a (g.S.ContestStore.kept r).contest y) before h) in
    (c.in-Ok.ensures.reply clean ∙ alike.0, subst (λ z. Alike a z (add_all y (outcome y c.args.now c.args.credential c.args.request).entries)) (sym s.now_is) alike.1)

pub returns-in-Ok-clause-leaves : goal.returns-in-Ok-clause-leaves
returns-in-Ok-clause-leaves g c =
    let old = g.S.ContestStore.kept c.self.inside.store in
    let new = g.S.ContestStore.kept c.serve.new.store in
    let entries = (outcome old.contest c.args.now c.args.credential c.args.request).entries in
    let settled = stays_settled old new entries _ c.serve.result (steps_keep_valid c.args.now c.args.credential c.args.request old.contest) c.self.invariant.0 c.serve.ensures.leaves in
    subst (λ r. DoesOrFails (g.S.ContestStore.kept r) new (step (g.S.ContestStore.kept r).contest c.args.now c.args.credential c.args.request).1
    (outcome (g.S.ContestStore.kept r).contest c.args.now c.args.credential c.args.request).entries (IsStoreReply c.in-Ok.reply) (c.in-Ok.reply ≡ refused StoreFault)) c.self.view_is
    (does c.in-Ok.reply old new entries _ _ _ (ordinary_apart c.in-Ok.reply c.in-Ok.ensures.ordinary) (λ told. inl told) settled (g.met.S.ContestStore.settled c.serve.new.store) c.in-Ok.ensures.leaves)

pub returns-in-Ok-clause-memory : goal.returns-in-Ok-clause-memory
returns-in-Ok-clause-memory g c = λ clean is. absurd (ordinary_apart c.in-Ok.reply c.in-Ok.ensures.ordinary (inr is))

pub returns-clause-isolated : goal.returns-clause-isolated
returns-clause-isolated g c = λ clean other. absurd (other (store_reply c.in-Err.error c.refused.result (c.refused.ensures ∙ ap refused c.refusal.ensures)))

pub returns-clause-leaves : goal.returns-clause-leaves
returns-clause-leaves g c =
    let old = g.S.ContestStore.kept c.self.inside.store in
    let new = g.S.ContestStore.kept c.serve.new.store in
    let entries = (outcome old.contest c.args.now c.args.credential c.args.request).entries in
    let settled = stays_settled old new entries _ c.serve.result (steps_keep_valid c.args.now c.args.credential c.args.request old.contest) c.self.invariant.0 c.serve.ensures.leaves in
    let is : c.refused.result ≡ refused _ = c.refused.ensures ∙ ap refused c.refusal.ensures in
    subst (λ r. DoesOrFails (g.S.ContestStore.kept r) new (step (g.S.ContestStore.kept r).contest c.args.now c.args.credential c.args.request).1
    (outcome (g.S.ContestStore.kept r).contest c.args.now c.args.credential c.args.request).entries (IsStoreReply c.refused.result) (c.refused.result ≡ refused StoreFault)) c.self.view_is
    (fails {T = Reply} c.in-Err.error old new entries _ _ _ (store_reply c.in-Err.error c.refused.result is) (reply_fault c.in-Err.error c.refused.result is) c.self.invariant.0 settled
    (g.met.S.ContestStore.settled c.serve.new.store) c.in-Err.ensures.leaves)

pub returns-clause-memory : goal.returns-clause-memory
returns-clause-memory g c = λ clean told.
    let new = g.S.ContestStore.kept c.serve.new.store in
    subst (λ r. Failed (g.S.ContestStore.kept r).refusals new.refusals ⊎ (may_take_memory (g.S.ContestStore.kept r).contest.fixed c.args.credential c.args.request ≡ true)) c.self.view_is
    (elim (memory_counted _ Reply c.in-Err.error _ _ c.refused.result c.in-Err.ensures.leaves.refusals (c.refused.ensures ∙ ap refused c.refusal.ensures) told) [ inl more ↦ inl more | inr may ↦ inr (may clean) ])
