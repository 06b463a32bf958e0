use Rattle.std.proofs.Common.{◌≡◌, ◌∙◌, ℕ, Result, Err, ap, inl, subst, sym}
use Rattle.contest_types.specs.declared.refusal.Refusal.{Refusal}
use Rattle.contest_types.specs.declared.refusal.Refusal.TheVariants.{StoreFault}
use Rattle.contest_desk.specs.Doing.{DoesOrFails}
use Rattle.contest_desk.specs.Imports.{entries_of, import_step, imported}
use Rattle.contest_desk.specs.Items.{HasStoreError}
use Rattle.contest_desk.proofs.DoingLemmas.{does, fails}
use Rattle.contest_desk.proofs.FaultLemmas.{answer_failed, answer_fault}
use Rattle.contest_desk.proofs.ImportLemmas.{imports_keep_valid}
use Rattle.contest_desk.proofs.ServingLemmas.{stays_settled}
use Rattle.contest_desk.proofs.desk.Desk.import.Goals as goal
use Rattle.contest_desk.proofs.desk.Desk.import.Goals.{in-Ok, in-Err}

pub invariant_of-self : goal.invariant_of-self
invariant_of-self g c =
    let old = g.S.ContestStore.kept c.self.inside.store in (
      stays_settled old (g.S.ContestStore.kept c.serve_import.new.store) (entries_of (imported old.contest c.args.now c.args.kind c.args.file.now)) _ c.serve_import.result
          (imports_keep_valid old.contest c.args.now c.args.kind c.args.file.now) c.self.invariant.0 c.serve_import.ensures.leaves,
      c.self.invariant.1,
    )

pub returns-clause-leaves : goal.returns-clause-leaves
returns-clause-leaves g c =
    let old = g.S.ContestStore.kept c.self.inside.store in
    let new = g.S.ContestStore.kept c.serve_import.new.store in
    let entries = entries_of (imported old.contest c.args.now c.args.kind c.args.file.now) in
    let settled = stays_settled old new entries _ c.serve_import.result (imports_keep_valid old.contest c.args.now c.args.kind c.args.file.now) c.self.invariant.0 c.serve_import.ensures.leaves in
    let law = g.met.S.ContestStore.settled c.serve_import.new.store in
    let Left : Result ℕ Refusal → Type 0 = λ r. DoesOrFails old new (import_step old.contest c.args.now c.args.kind c.args.file.now).1 entries (HasStoreError r) (r ≡ Err StoreFault) in
    let left : Left c.before.match-serve_import.result = elim c.match-serve_import.branch [
      | in-Ok w ↦ subst Left (sym w.result-is) (does w.in-Ok.answer old new entries _ _ _ w.in-Ok.ensures.ordinary (λ told. inl told) settled law w.in-Ok.ensures.leaves)
      | in-Err w ↦ (let is = w.result-is ∙ ap Err w.refusal.ensures in
          fails {T = Result ℕ Refusal} w.in-Err.error old new entries _ _ _ (answer_failed w.in-Err.error c.before.match-serve_import.result is) (answer_fault w.in-Err.error c.before.match-serve_import.result is) c.self.invariant.0 settled law w.in-Err.ensures.leaves)
    ] in
    subst (λ r. DoesOrFails (g.S.ContestStore.kept r) new (import_step (g.S.ContestStore.kept r).contest c.args.now c.args.kind c.args.file.now).1
    (entries_of (imported (g.S.ContestStore.kept r).contest c.args.now c.args.kind c.args.file.now)) (HasStoreError c.before.match-serve_import.result) (c.before.match-serve_import.result ≡ Err StoreFault)) c.self.view_is left
