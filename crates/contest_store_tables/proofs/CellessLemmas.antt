-- A desk whose table of the cells was taken out: what its notices are, and what stands once their table is taken out too.
use Rattle.std.proofs.Common.{◌≡◌, ◌≢◌, ◌==◌, ◌∙◌, inl, inr, ℕ, Bool, true, false, cond, List, [], ◌∷◌, length, map, None, Ok, IsTrue, refl, sym, ap, subst, rules, arith}
use Rattle.sqlite.specs.declared.types.Value.TheVariants.{Null}
use Rattle.sqlite.specs.Command.TheVariants.{DropTable}
use Rattle.sqlite.specs.Does.{Does, Tally}
use Rattle.sqlite.specs.Effect.{Database}
use Rattle.sqlite.specs.Listing.{understood}
use Rattle.sqlite.specs.Order.{Row}
use Rattle.sqlite.specs.Program.{overlay}
use Rattle.sqlite.specs.Query.{IsAnswer}
use Rattle.sqlite.specs.Schema.{Schema}
use Rattle.sqlite.specs.State.{State, mode_of, CommitsBy, Executes, Shown, Shows}
use Rattle.sqlite.specs.Tree.{Trees}
use Rattle.sqlite.proofs.Callers.{command_of, reads_as, runs_as, statement_of}
use Rattle.sqlite_catalog.specs.Change.{KeepsRows, without_table}
use Rattle.sqlite_resolve.specs.declared.compiled.Compiled.{Compiled}
use Rattle.sqlite_trees.specs.Tree.{with_tree}
use Rattle.contest_store_tables.specs.Celless.{DropsMoved, FullCelless, HasDropped, LoadsMoved, moved_query}
use Rattle.contest_store_tables.specs.Schema.{celless_schema, desk_schema, form_of, moved_notices, schema_before}
use Rattle.contest_store_tables.specs.Statements.{load_query, loaded_row}
use Rattle.contest_store_tables.specs.Steps.{AreNumbered, Celless, Content, HasContent, Lacking, Rises, Within, with_rows}
use Rattle.contest_store_tables.specs.Tables.{TableRows, lacking, rows_in, with_cells_back}
use Rattle.contest_store_tables.specs.declared.later_table.LaterTable.{LaterTable}
use Rattle.contest_store_tables.specs.declared.later_table.LaterTable.TheVariants as later
use Rattle.contest_store_tables.specs.declared.table_name.TableName.{TableName}
use Rattle.contest_store_tables.specs.declared.table_name.TableName.TheVariants.{Notices}
use Rattle.contest_store_tables.proofs.InsertLemmas.{went, same_value}
use Rattle.contest_store_tables.proofs.LaterLemmas.{one_less, same_rows, still_numbered}
use Rattle.contest_store_tables.proofs.LoadLemmas.{loads_all}
use Rattle.contest_store_tables.proofs.RowLemmas.{IsNumbered, at_lacking}
use Rattle.contest_store_tables.proofs.StepLemmas.{celless_full}

-- a desk that lacks that table alone is no other
pub lacks_no_cells : (place : LaterTable) (s : Schema) → s ≡ desk_schema → s ≢ celless_schema place
lacks_no_cells place s desk is = let tables : 12 ≡ 11 = ap (λ (it : Schema). length it.tables) (sym desk ∙ is) in omega (arith, tables)

-- what is read where they stand is what would be read in their place
moved_answer : (place : LaterTable) (db : Trees) (rows : List Row) → IsAnswer (moved_query place) (overlay db []) [] rows → IsAnswer (load_query Notices) (overlay (with_cells_back place db) []) [] rows
moved_answer later.Cells db rows a =
    record { staged = a.staged; grouped = a.grouped; kept = a.kept; distinct = a.distinct; ordered = a.ordered; same = a.same; sorted = a.sorted; shown = a.shown }
moved_answer later.Notices db rows a =
    record { staged = a.staged; grouped = a.grouped; kept = a.kept; distinct = a.distinct; ordered = a.ordered; same = a.same; sorted = a.sorted; shown = a.shown }

as_they_are : (rows : List Row) → map (loaded_row Notices) rows ≡ rows
as_they_are [] = refl
as_they_are (r ∷ rows) = ap (λ l. r ∷ l) (as_they_are rows)

pub moved_loads : (place : LaterTable) (sql : List ℕ) (means : LoadsMoved place sql) (old new : State) (rows : List Row) → old.now.schema ≡ celless_schema place → Rises Notices (rows_in (with_cells_back place old.now.trees) Notices)
    → Shown sql [] old new rows → rows ≡ rows_in (with_cells_back place old.now.trees) Notices
moved_loads place sql means old new rows has up h =
    let read = reads_as sql [] old new (celless_schema place) has _ means.is means.plain means.unlisted rows h in
    loads_all Notices (with_cells_back place old.now.trees) rows (moved_answer place old.now.trees rows (read.answer Null)) up ∙ as_they_are _

-- what is left once the table of the notices is taken out
left_tables : (place : LaterTable) → without_table (celless_schema place) (moved_notices place).tree ≡ schema_before later.Cells
left_tables later.Cells = refl
left_tables later.Notices = refl

-- trees in their order without a row of the notices
no_notices : (db : Trees) → AreNumbered db → AreNumbered (with_tree db (form_of Notices).tree [])
no_notices db was name = go ((form_of name).tree == (form_of Notices).tree)
  where
    go : (b : Bool) → IsNumbered (cond b [] (db (form_of name).tree))
    go true = (tt, tt)
    go false = was name

module _ (place : LaterTable) (sql : List ℕ) (means : DropsMoved place sql) (old : State) where
  -- the table is gone, and the rows of the others stay
  record Gone (next : Database) : Type 0 where
    schema_is : next.schema ≡ schema_before later.Cells
    others : KeepsRows (schema_before later.Cells).tables old.now.trees next.trees

  gone : (next : State) (count : ℕ) → old.now.schema ≡ celless_schema place → Executes sql [] old next (Ok count) → Gone next.now
  gone next count has h =
      let w = runs_as sql [] old next (celless_schema place) has (DropTable 10) means.is means.plain count h in
      let text = statement_of sql (understood (celless_schema place) sql) in
      let emptied = went (subst (λ s. Does old.step_limit (mode_of old) [] (record old.now { schema = s }) text None (DropTable 10) (Ok (w.tally, next.now))) has w.changed) in
      let uncounted = went emptied.2 in
      let tested = went uncounted.2 in
      let left = went tested.2 in
      let same : uncounted.0 ≡ old.now.trees = same_value uncounted.1 ∙ same_value emptied.1 in
      let now : next.now ≡ left.0 = ap (λ (p : Tally × Database). p.1) (same_value left.2) in
      record {
        schema_is = ap (λ (d : Database). d.schema) now ∙ left.1.0 ∙ left_tables place;
        others = subst (λ (d : Database). KeepsRows (schema_before later.Cells).tables old.now.trees d.trees) (sym now)
            (subst (λ (db : Trees). KeepsRows (schema_before later.Cells).tables db left.0.trees) same (subst (λ (t : Schema). KeepsRows t.tables uncounted.0 left.0.trees) (left_tables place) left.1.1));
      }

  shown : (next : State) (count : ℕ) → old.now.schema ≡ celless_schema place → IsTrue old.in_transaction → Executes sql [] old next (Ok count) → Shows old next next.now old.committed true
  shown next count has inside h =
      let w = runs_as sql [] old next (celless_schema place) has (DropTable 10) means.is means.plain count h in
      let on : old.in_transaction ≡ true = search rules in
      subst (λ b. Shows old next next.now (cond b old.committed next.now) b) on w.shown

  command_is : (c : Compiled) → old.now.schema ≡ celless_schema place → understood old.now.schema sql ≡ Ok c → c.command ≡ DropTable 10
  command_is c has same = ap command_of (sym same ∙ ap (λ s. understood s sql) has) ∙ means.is

  drop_keeps : (db : Trees) → old.now.schema ≡ celless_schema place → IsTrue old.in_transaction → CommitsBy sql [] old db → ⊥
  unfolding CommitsBy
  drop_keeps db has inside h = let same = command_is h.0 has h.1.is in elim h.2 [
    | inl ends ↦ elim ends.0 [ inl commit ↦ (let x = sym same ∙ commit in cc) | inr release ↦ (let x = sym same ∙ release.2 in cc) ]
    | inr write ↦ (let on : old.in_transaction ≡ true = search rules in let x = sym write.0 ∙ on in cc)
  ]

  -- each tree as before, but for that of the notices, which has no row
  same_trees : (next : Trees) → KeepsRows (schema_before later.Cells).tables old.now.trees next → (name : TableName)
      → lacking later.Cells next (form_of name).tree ≡ with_tree (with_cells_back place old.now.trees) (form_of Notices).tree [] (form_of name).tree
  same_trees next others name =
      at_lacking (λ t. lacking later.Cells next t.tree ≡ with_tree (with_cells_back place old.now.trees) (form_of Notices).tree [] t.tree) later.Cells name others (refl, (refl, tt))

  dropped : (now kept : Content) (rows : TableRows) → now ≡ Celless rows → (old.now.schema ≡ celless_schema place) × (rows_in (with_cells_back place old.now.trees) ≡ rows) × AreNumbered (with_cells_back place old.now.trees)
      → (new : State) (count : ℕ) → Within old now kept → Executes sql [] old new (Ok count) → Within new (Lacking later.Cells (with_rows Notices [] rows)) kept
  dropped now kept rows is was new count within ran =
      let g = gone new count was.0 ran in
      let s = shown new count was.0 within.1 ran in
      let back = with_cells_back place old.now.trees in
      let same = same_trees new.now.trees g.others in (
        record {
          is_open = s.is_open;
          shows = (
            g.schema_is,
            same_rows (with_tree back (form_of Notices).tree []) (lacking later.Cells new.now.trees) (with_rows Notices [] rows) same (one_less Notices back ∙ ap (with_rows Notices []) was.1),
            still_numbered (with_tree back (form_of Notices).tree []) (lacking later.Cells new.now.trees) same (no_notices back was.2),
          );
          keeps = subst (λ d. HasContent d kept) (sym s.committed_is) within.0.keeps;
        },
        s.mode,
      )

-- wherever they stood
module _ (sql : List ℕ) (means : (place : LaterTable) → DropsMoved place sql) (old : State) where
  pub has_dropped : (now kept : Content) (new : State) (count : ℕ) → Within old now kept → Executes sql [] old new (Ok count) → HasDropped new now kept
  has_dropped now kept new count within ran rows is =
      let was = subst (HasContent old.now) is within.0.shows in
      dropped was.0 sql (means was.0) old now kept rows is (was.1, was.2, was.3) new count within ran

  pub drop_makes_none : (now kept : Content) (db : Trees) → FullCelless old now kept → CommitsBy sql [] old db → ⊥
  drop_makes_none now kept db h may = let is = celless_full old now kept h in drop_keeps is.0 sql (means is.0) old db is.1 h.0.1 may
