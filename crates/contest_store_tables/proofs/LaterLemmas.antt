-- What the tables of a desk show that lacks some, and what they show where the next one is made.
use Rattle.std.proofs.Common.{◌≡◌, ◌≢◌, ◌==◌, ◌∙◌, ℕ, Bool, true, false, cond, List, [], length, map, Ok, refl, sym, ap, subst, arith}
use Rattle.sqlite.specs.Change.{next_tree}
use Rattle.sqlite.specs.Effect.{Database}
use Rattle.sqlite.specs.Schema.{Schema}
use Rattle.sqlite.specs.State.{State, CommitsBy, Executes}
use Rattle.sqlite.specs.Tree.{Trees}
use Rattle.sqlite_catalog.specs.Change.{KeepsRows}
use Rattle.sqlite_keyed.specs.Lists.{sort_by}
use Rattle.sqlite_trees.specs.Tree.{with_tree}
use Rattle.contest_store_tables.specs.Making.{Creates, up_to}
use Rattle.contest_store_tables.specs.Schema.{form_of, desk_schema, later_name, schema_before}
use Rattle.contest_store_tables.specs.Steps.{AreNumbered, Content, HasContent, FullLacking, HasLater, Within, with_later, with_rows}
use Rattle.contest_store_tables.specs.Tables.{TableRows, rows_in, show, by_key, lacking}
use Rattle.contest_store_tables.specs.declared.later_table.LaterTable.{LaterTable}
use Rattle.contest_store_tables.specs.declared.later_table.LaterTable.TheVariants as later
use Rattle.contest_store_tables.specs.declared.table_name.TableName.{TableName}
use Rattle.contest_store_tables.specs.declared.table_name.TableName.TheVariants.{Cells, Notices}
use Rattle.contest_store_tables.proofs.MakingLemmas.{all_made, is_made, making_keeps, made_before}
use Rattle.contest_store_tables.proofs.RowLemmas.{IsNumbered, at_lacking}

-- a desk lacks none of its tables
pub lacks_none : (table : LaterTable) (s : Schema) → s ≡ desk_schema → s ≢ schema_before table
lacks_none later.Cells s desk is = let tables : 12 ≡ 10 = ap (λ (it : Schema). length it.tables) (sym desk ∙ is) in omega (arith, tables)
lacks_none later.Notices s desk is = let tables : 12 ≡ 11 = ap (λ (it : Schema). length it.tables) (sym desk ∙ is) in omega (arith, tables)

-- where one table has no row those of the other tables are as they were
pub one_less : (gone : TableName) (db : Trees) → rows_in (with_tree db (form_of gone).tree []) ≡ with_rows gone [] (rows_in db)
one_less gone db i name = go ((form_of name).tree == (form_of gone).tree) i
  where
    go : (b : Bool) → sort_by (by_key (form_of name)) (map (show (form_of name)) (cond b [] (db (form_of name).tree))) ≡ cond b [] (rows_in db name)
    go true = refl
    go false = refl

-- the rows of a desk that lacks this table
abbrev pub rows_lacking : LaterTable → TableRows → TableRows
rows_lacking later.Cells rows = with_rows Cells [] (with_rows Notices [] rows)
rows_lacking later.Notices rows = with_rows Notices [] rows

pub lacking_rows : (table : LaterTable) (db : Trees) → rows_in (lacking table db) ≡ rows_lacking table (rows_in db)
lacking_rows later.Cells db = one_less Cells (with_tree db (form_of Notices).tree []) ∙ ap (with_rows Cells []) (one_less Notices db)
lacking_rows later.Notices db = one_less Notices db

-- trees once the table is made
abbrev after : LaterTable → Trees → Trees
after later.Cells db = lacking later.Notices db
after later.Notices db = db

module _ (old new : Trees) where
  same_trees : (table : LaterTable) → KeepsRows (schema_before table).tables old new → new (next_tree (schema_before table)) ≡ [] → (name : TableName) → after table new (form_of name).tree ≡ lacking table old (form_of name).tree
  same_trees later.Cells others empty name = at_lacking (λ t. lacking later.Notices new t.tree ≡ lacking later.Cells old t.tree) later.Cells name others (empty, (refl, tt))
  same_trees later.Notices others empty name = at_lacking (λ t. new t.tree ≡ lacking later.Notices old t.tree) later.Notices name others (empty, tt)

cells_made : up_to Cells ≡ schema_before later.Notices
cells_made = made_before later.Notices

pub same_rows : (old new : Trees) (rows : TableRows) → ((name : TableName) → new (form_of name).tree ≡ old (form_of name).tree) → rows_in old ≡ rows → rows_in new ≡ rows
same_rows old new rows same was = (λ i name. sort_by (by_key (form_of name)) (map (show (form_of name)) (same name i))) ∙ was

pub still_numbered : (old new : Trees) → ((name : TableName) → new (form_of name).tree ≡ old (form_of name).tree) → AreNumbered old → AreNumbered new
still_numbered old new same was name = subst IsNumbered (sym (same name)) (was name)

has_later : (table : LaterTable) (d : Database) (old : Trees) (rows : TableRows) → d.schema ≡ up_to (later_name table) → ((name : TableName) → after table d.trees (form_of name).tree ≡ lacking table old (form_of name).tree)
    → rows_in (lacking table old) ≡ rows → AreNumbered (lacking table old) → HasContent d (with_later table rows)
has_later later.Cells d old rows is same was numbered = (is ∙ cells_made, same_rows (lacking later.Cells old) (lacking later.Notices d.trees) rows same was, still_numbered (lacking later.Cells old) (lacking later.Notices d.trees) same numbered)
has_later later.Notices d old rows is same was numbered = (is ∙ all_made, same_rows (lacking later.Notices old) d.trees rows same was, still_numbered (lacking later.Notices old) d.trees same numbered)

module _ (table : LaterTable) (sql : List ℕ) (means : Creates (later_name table) sql) (old : State) (now kept : Content) where
  pub later_created : (new : State) (count : ℕ) → Within old now kept → Executes sql [] old new (Ok count) → HasLater table new now kept
  later_created new count within ran rows is =
      let was = subst (HasContent old.now) is within.0.shows in
      let it = is_made (later_name table) sql means old new count (was.0 ∙ sym (made_before table)) within.1 ran in
      let others = subst (λ (s : Schema). KeepsRows s.tables old.now.trees new.now.trees) (made_before table) it.others in
      let empty = subst (λ s. new.now.trees (next_tree s) ≡ []) (made_before table) it.empty in
      let same = same_trees old.now.trees new.now.trees table others empty in (
        record {
          is_open = it.shown.is_open;
          shows = has_later table new.now old.now.trees rows it.schema_is same was.1 was.2;
          keeps = subst (λ d. HasContent d kept) (sym it.shown.committed_is) within.0.keeps;
        },
        it.shown.mode,
      )

  pub later_makes_none : (db : Trees) → FullLacking table old now kept → CommitsBy sql [] old db → ⊥
  later_makes_none db h may = making_keeps (later_name table) sql means old db ((subst (HasContent old.now) h.1.1 h.0.0.shows).0 ∙ sym (made_before table)) h.0.1 may
