-- What an UPDATE does to its table, whichever table it is.
use Rattle.std.proofs.Common.{◌≡◌, ◌≢◌, ℕ, List, [], slice_get, cond, rules, IsTrue, inl, inr, true, Some, None, Ok, sym, ap, subst, ◌∙◌}
use Rattle.std.specs.List.{AllByRecursion}
use Rattle.sqlite.specs.Order.{Row}
use Rattle.sqlite.specs.Table.{Table}
use Rattle.sqlite.specs.Schema.{Schema}
use Rattle.sqlite_schema.specs.declared.program.Program.{Program}
use Rattle.sqlite.specs.Command.TheVariants.{Update}
use Rattle.sqlite_schema.specs.declared.schema.Keys.TheVariants.{Enforced}
use Rattle.sqlite_trees.specs.Tree.{Trees}
use Rattle.sqlite.specs.Edit.{edit_of, edited, taken_by, left_by, are_fresh, have_rowids}
use Rattle.sqlite_rules.specs.Calls.{ids_of}
use Rattle.sqlite_rules.specs.Action.{works}
use Rattle.sqlite.specs.Rowids.TheVariants.{Given}
use Rattle.sqlite.specs.Does.{Tally, Does}
use Rattle.sqlite.specs.Rows.{Written}
use Rattle.sqlite.specs.Listing.{understood}
use Rattle.sqlite.specs.Effect.{Database, Answers}
use Rattle.sqlite.specs.State.{State, mode_of, Executes, Shows, CommitsBy}
use Rattle.sqlite_resolve.specs.declared.compiled.Compiled.{Compiled}
use Rattle.sqlite.proofs.Callers.{IsPlain, command_of, statement_of, runs_as, one_step}
use Rattle.contest_store_tables.proofs.InsertLemmas.{went, same_value}

-- the rows that the statement's query gives, each an old rowid and then a new row, take the place of the old ones
pub record Replaces (schema : Schema) (table : Table) (q : Program) (params : Row) (old next : Database) : Type 0 where
  pub rows : List Row
  pub answer : Answers (record { schema = schema; trees = old.trees }) q params rows
  pub schema_is : next.schema ≡ schema
  pub is : next.trees table.tree ≡ edited old.trees (edit_of old.trees table (ids_of rows) Given 1 rows)
  pub fresh : are_fresh (left_by old.trees (edit_of old.trees table (ids_of rows) Given 1 rows)) (edit_of old.trees table (ids_of rows) Given 1 rows).news ≡ true
  pub keyed : have_rowids (edit_of old.trees table (ids_of rows) Given 1 rows).news ≡ true
  pub others : AllByRecursion (λ t. t.tree ≢ table.tree → next.trees t.tree ≡ old.trees t.tree) schema.tables

module _ (sql : List ℕ) (params : Row) (schema : Schema) (at : ℕ) (table : Table) (q : Program)
    (is : command_of (understood schema sql) ≡ Update at q) (plain : IsPlain (understood schema sql))
    (found : slice_get schema.tables at ≡ Some table) (keyless : (olds news : List Row) → works schema Enforced 0 table.tree olds news ≡ []) where
  pub updates : (old next : State) (count : ℕ) → old.now.schema ≡ schema → Executes sql params old next (Ok count) → Replaces schema table q params old.now next.now
  updates old next count has h =
      let command = Update at q in
      let w = runs_as sql params old next schema has command is plain count h in
      let text = statement_of sql (understood schema sql) in
      let done = went (rw (found) at (subst (λ s. Does old.step_limit (mode_of old) params (record old.now { schema = s }) text None command (Ok (w.tally, next.now))) has w.changed)) in
      let now = ap (λ (p : Tally × Database). p.1) (same_value (went (went done.2).2).2) in
      let asked = went done.1 in
      let written = went asked.2 in
      let trees : done.0.trees ≡ written.0 = ap (λ (it : Written). it.trees) (same_value written.2) in
      let edit = edit_of old.now.trees table (ids_of asked.0) Given 1 asked.0 in
      let step = one_step schema Enforced old.now.trees written.0 edit (keyless (taken_by old.now.trees edit) edit.news) written.1 in
      record {
        rows = asked.0;
        answer = asked.1;
        schema_is = ap (λ (d : Database). d.schema) now;
        is = ap (λ (d : Database). d.trees table.tree) now ∙ ap (λ (t : Trees). t table.tree) trees ∙ step.rows;
        fresh = step.fresh;
        keyed = step.keyed;
        others = subst (λ (d : Database). AllByRecursion (λ t. t.tree ≢ table.tree → d.trees t.tree ≡ old.now.trees t.tree) schema.tables) (sym now)
            (subst (λ ts. AllByRecursion (λ t. t.tree ≢ table.tree → ts t.tree ≡ old.now.trees t.tree) schema.tables) (sym trees) step.tables);
      }

  command_is : (old : State) (c : Compiled) → old.now.schema ≡ schema → understood old.now.schema sql ≡ Ok c → c.command ≡ Update at q
  command_is old c has same = ap command_of (sym same ∙ ap (λ s. understood s sql) has) ∙ is

  -- inside a transaction it shows nothing to the last commit, and a crash cannot leave it
  pub update_shows : (old next : State) (count : ℕ) → old.now.schema ≡ schema → IsTrue old.in_transaction → Executes sql params old next (Ok count) → Shows old next next.now old.committed true
  update_shows old next count has inside h =
      let w = runs_as sql params old next schema has (Update at q) is plain count h in
      let on : old.in_transaction ≡ true = search rules in
      subst (λ b. Shows old next next.now (cond b old.committed next.now) b) on w.shown

  pub update_keeps : (old : State) (db : Trees) → old.now.schema ≡ schema → IsTrue old.in_transaction → CommitsBy sql params old db → ⊥
  unfolding CommitsBy
  update_keeps old db has inside h = let same = command_is old h.0 has h.1.is in elim h.2 [
    | inl ends ↦ elim ends.0 [ inl commit ↦ (let x = sym same ∙ commit in cc) | inr release ↦ (let x = sym same ∙ release.2 in cc) ]
    | inr write ↦ (let on : old.in_transaction ≡ true = search rules in let x = sym write.0 ∙ on in cc)
  ]
