-- The rows of each table rise by their numbers in a sound database whose trees are in order, and so do those of a desk. That a
-- database is sound doesn't say by itself that they do: two rows of `desk` with one number would be sound.
use Rattle.std.proofs.Common.{◌≡◌, inl, inr, ℕ, List, [], ◌∷◌, filter, sym, ap, subst, IsTrue}
use Rattle.std.proofs.Math.Logic.{∥∥₁_elim}
use Rattle.std.specs.List.{AllByRecursion, AllZip}
use Rattle.sqlite.specs.Schema.{Schema}
use Rattle.sqlite.specs.Table.{Table}
use Rattle.sqlite.specs.Tree.{Trees}
use Rattle.sqlite.specs.State.{HasCleanDisk, State}
use Rattle.sqlite.specs.Effect.{Database, IsDatabase}
use Rattle.sqlite.specs.Recovery.{Image}
use Rattle.sqlite.specs.Files.{AreFoundIn}
use Rattle.sqlite.specs.Start.{FindsIn}
use Rattle.sqlite_catalog.specs.Listing.{IsSound, IsTableRow, is_table_row}
use Rattle.sqlite_catalog.proofs.LayoutLemmas.{laid_out}
use Rattle.sqlite_keyed.proofs.ListLemmas.{all_weaker}
use Rattle.sqlite_store.specs.Listed.{catalog_rows, is_listed}
use Rattle.sqlite_store.specs.Listing.{all_shapes, all_reals, file_trees}
use Rattle.sqlite_store.proofs.ListingLemmas.{all_ordered}
use Rattle.sqlite_trees.specs.declared.store.Shape.{Shape}
use Rattle.sqlite_trees.specs.declared.store.Shape.TheVariants as shape
use Rattle.sqlite_trees.specs.Objects.{catalog_tree, IsListed}
use Rattle.sqlite_trees.specs.Props.{IsOrdered-prop}
use Rattle.sqlite_trees.specs.View.{View, IsShaped, IsOrdered}
use Rattle.contest_store_tables.specs.Connected.{IsAtRest, IsCelless, IsOfDesk, IsLacking, IsBare}
use Rattle.contest_store_tables.specs.Numbered.{IsNumbered}
use Rattle.contest_store_tables.specs.Steps.{AreNumbered}
use Rattle.contest_store_tables.specs.Schema.{celless_schema, moved_notices, schema_before}
use Rattle.contest_store_tables.specs.Tables.{lacking, with_cells_back}
use Rattle.contest_store_tables.specs.declared.later_table.LaterTable.{LaterTable}
use Rattle.contest_store_tables.specs.declared.later_table.LaterTable.TheVariants as later
use Rattle.contest_store_tables.proofs.RowLemmas.{at_lacking, at_table}

-- the rows of each table rise by their numbers
abbrev pub AllNumbered : Schema → Trees → Type 0
AllNumbered schema db = AllByRecursion (λ (t : Table). IsShaped shape.Table (db t.tree)) schema.tables

module _ (shapes : ℕ → Shape) (reals : ℕ → ℕ) (db : Trees) (ordered : IsOrdered shapes db) (listed : IsListed (db catalog_tree) shapes reals) where
  numbered : (schema : Schema) → IsSound schema db → AllNumbered schema db
  numbered schema sound =
      let objects : IsShaped shape.Table (db catalog_tree) = subst (λ s. IsShaped s (db catalog_tree)) listed.itself.0 (ordered catalog_tree) in
      let laid = laid_out listed objects sound.lists.listed in
      all_weaker (λ (t : Table). shapes t.tree ≡ shape.Table) (λ t. IsShaped shape.Table (db t.tree)) (λ t is. subst (λ s. IsShaped s (db t.tree)) is (ordered t.tree)) schema.tables laid.tables

-- where no table is listed there is none
none_listed : (P : Table → Type 0) (tables : List Table) → AllZip IsTableRow [] tables → AllByRecursion P tables
none_listed P [] none = tt
none_listed P (t ∷ ts) none = absurd none

-- so they do in what an open finds in files
pub found_numbered : (image : Image) (s : State) → IsAtRest s → IsDatabase s.now → FindsIn image s → AllNumbered s.now.schema s.now.trees
found_numbered image s rest sound found =
    let same : s.committed.trees ≡ s.now.trees = ap (λ (d : Database). d.trees) (sym rest.1) in
    go (subst (λ (db : Trees). AreFoundIn image db) same found.reads)
  where
    go : AreFoundIn image s.now.trees → AllNumbered s.now.schema s.now.trees
    go (inl file) =
        let read : file_trees file.0 file.2 file.1 ≡ s.now.trees = sym file.5 in
        let ordered : IsOrdered (all_shapes file.2) (file_trees file.0 file.2 file.1) = ∥∥₁_elim file.4 (IsOrdered-prop _ _) (λ ours. all_ordered ours.file.db _) in
        let listed : IsListed (file_trees file.0 file.2 file.1 catalog_tree) (all_shapes file.2) (all_reals file.2) = subst (λ rows. IsListed rows (all_shapes file.2) (all_reals file.2)) (sym (catalog_rows _ file.2 _)) (is_listed file.2) in
        numbered (all_shapes file.2) (all_reals file.2) s.now.trees (subst (IsOrdered (all_shapes file.2)) read ordered)
        (subst (λ (db : Trees). IsListed (db catalog_tree) (all_shapes file.2) (all_reals file.2)) read listed) s.now.schema sound
    go (inr nothing) =
        none_listed (λ t. IsShaped shape.Table (s.now.trees t.tree)) s.now.schema.tables
        (subst (λ rows. AllZip IsTableRow (filter is_table_row rows) s.now.schema.tables) nothing.1.1 sound.lists.listed.tables)

-- and in what a connection shows that was made over a store in order
pub over_numbered : (v : View) (s : State) → IsOrdered v.shape v.trees → IsListed (v.trees catalog_tree) v.shape v.reals → s.now.trees ≡ v.trees → IsDatabase s.now → AllNumbered s.now.schema s.now.trees
over_numbered v s ordered listed same sound =
    subst (AllNumbered s.now.schema) (sym same) (numbered v.shape v.reals v.trees ordered listed s.now.schema (subst (IsSound s.now.schema) same sound))

-- and in a database without a table
pub bare_numbered : (s : State) → IsBare s → AllNumbered s.now.schema s.now.trees
bare_numbered s bare = subst (λ (schema : Schema). AllNumbered schema s.now.trees) (sym bare) tt

-- those of a desk, also if it lacks some
desk_numbered : (s : State) → AllNumbered s.now.schema s.now.trees → IsOfDesk s → AreNumbered s.now.trees
desk_numbered s all desk name = at_table (λ t. IsShaped shape.Table (s.now.trees t.tree)) name (subst (λ (schema : Schema). AllNumbered schema s.now.trees) desk all)

-- those that stand without the table of the cells are the first ones, and that of the notices
first_numbered : (place : LaterTable) (db : Trees) → AllNumbered (celless_schema place) db → AllByRecursion (λ t. IsShaped shape.Table (with_cells_back place db t.tree)) (schema_before later.Cells).tables
first_numbered place db h = (h.0, (h.1.0, (h.1.1.0, (h.1.1.1.0, (h.1.1.1.1.0, (h.1.1.1.1.1.0, (h.1.1.1.1.1.1.0, (h.1.1.1.1.1.1.1.0, (h.1.1.1.1.1.1.1.1.0, (h.1.1.1.1.1.1.1.1.1.0, tt))))))))))

last_numbered : (place : LaterTable) (db : Trees) → AllNumbered (celless_schema place) db → IsShaped shape.Table (db (moved_notices place).tree)
last_numbered place db h = h.1.1.1.1.1.1.1.1.1.1.0

lacking_numbered : (table : LaterTable) (s : State) → AllNumbered s.now.schema s.now.trees → IsLacking table s → AreNumbered (lacking table s.now.trees)
lacking_numbered later.Cells s all is name =
    at_lacking (λ t. IsShaped shape.Table (lacking later.Cells s.now.trees t.tree)) later.Cells name (subst (λ (schema : Schema). AllNumbered schema s.now.trees) is all) ((tt, tt), ((tt, tt), tt))
lacking_numbered later.Notices s all is name =
    at_lacking (λ t. IsShaped shape.Table (lacking later.Notices s.now.trees t.tree)) later.Notices name (subst (λ (schema : Schema). AllNumbered schema s.now.trees) is all) ((tt, tt), tt)

-- or where the table of the cells was taken out
celless_numbered : (place : LaterTable) (s : State) → AllNumbered s.now.schema s.now.trees → IsCelless place s → AreNumbered (with_cells_back place s.now.trees)
celless_numbered place s all is name =
    let these = subst (λ (schema : Schema). AllNumbered schema s.now.trees) is all in
    at_lacking (λ t. IsShaped shape.Table (with_cells_back place s.now.trees t.tree)) later.Cells name (first_numbered place s.now.trees these) ((tt, tt), (last_numbered place s.now.trees these, tt))

pub all_numbered : (s : State) → (HasCleanDisk s → IsTrue s.is_open → AllNumbered s.now.schema s.now.trees) → IsNumbered s
all_numbered s all = record {
  desk = λ clean up desk. desk_numbered s (all clean up) desk;
  lacking = λ table clean up is. lacking_numbered table s (all clean up) is;
  celless = λ place clean up is. celless_numbered place s (all clean up) is;
}
