-- What an INSERT makes of the rows that the tables show.
use Rattle.std.proofs.Common.{◌≡◌, ◌≢◌, ◌==◌, ◌/◌, ℕ, List, [], ◌∷◌, length, map, slice_get, Bool, true, false, Some, Ok, IsPermutation, refl, sym, ap, subst, ◌∙◌, cond, append-nil, IsTrue}
use Rattle.std.specs.Prelude.{find, unwrap_or}
use Rattle.std.specs.List.{AllByRecursion}
use Rattle.std.proofs.lemmas.Bool.{eqb-true, eq-eqb}
use Rattle.std.proofs.lemmas.List.Sorted.{IsPermutation-cons, IsPermutation-trans, IsPermutation-sym, IsPermutation-map}
use Rattle.sqlite.specs.Order.{Row}
use Rattle.sqlite.specs.Table.{Table}
use Rattle.sqlite.specs.Tree.{Trees}
use Rattle.sqlite.specs.Term.{Env, eval_all}
use Rattle.sqlite.specs.Effect.{value_rows}
use Rattle.sqlite.specs.State.{State, Executes, CommitsBy}
use Rattle.sqlite.specs.Rowids.TheVariants.{Chosen}
use Rattle.sqlite_rules.specs.Action.{works}
use Rattle.sqlite_rules.specs.Cast.{cast_row}
use Rattle.sqlite_rules.specs.Edit.{with_rowid}
use Rattle.sqlite_schema.specs.declared.schema.Keys.TheVariants.{Enforced}
use Rattle.sqlite_trees.specs.Tree.{IsTable, rowid, put_row}
use Rattle.sqlite_trees.specs.View.{is_int}
use Rattle.sqlite_trees.proofs.TreeLemmas.{IsTable-put_row, all-put_row}
use Rattle.sqlite_keyed.specs.Lists.{sort_by}
use Rattle.sqlite_keyed.proofs.ListLemmas.{all-append}
use Rattle.sqlite_sql.proofs.QueryLemmas.{key_cmp_total}
use Rattle.contest_store_tables.specs.Schema.{form_of, index_of, all_tables, desk_schema, schema_before}
use Rattle.contest_store_tables.specs.Tables.{TableRows, rows_in, show, by_key}
use Rattle.contest_store_tables.specs.Statements.{given_terms, Inserts}
use Rattle.contest_store_tables.specs.Steps.{Within, with_rows, HasInserted, Content, HasContent, Full, AreNumbered}
use Rattle.contest_store_tables.specs.declared.later_table.LaterTable.{LaterTable}
use Rattle.contest_store_tables.specs.declared.later_table.LaterTable.TheVariants as later
use Rattle.contest_store_tables.specs.declared.table_name.TableName.{TableName}
use Rattle.contest_store_tables.specs.declared.table_name.TableName.TheVariants.{Desk, Contest, Items, Accounts, Submissions, Proposals, Releases, Rejudgings, Members, Clarifications, Cells, Notices}
use Rattle.contest_store_tables.proofs.InsertLemmas.{Puts, put_permutes, inserts, insert_shows, insert_keeps}
use Rattle.contest_store_tables.proofs.LoadLemmas.{sorted_rows}
use Rattle.contest_store_tables.proofs.SortedLemmas.{one_order}
use Rattle.contest_store_tables.proofs.StepLemmas.{full_schema}

-- what holds of each table of the schema holds of this one
pub at_table : (P : Table → Type 0) (name : TableName) → AllByRecursion P desk_schema.tables → P (form_of name)
at_table P Desk all = all.0
at_table P Contest all = all.1.0
at_table P Items all = all.1.1.0
at_table P Accounts all = all.1.1.1.0
at_table P Submissions all = all.1.1.1.1.0
at_table P Proposals all = all.1.1.1.1.1.0
at_table P Releases all = all.1.1.1.1.1.1.0
at_table P Rejudgings all = all.1.1.1.1.1.1.1.0
at_table P Members all = all.1.1.1.1.1.1.1.1.0
at_table P Clarifications all = all.1.1.1.1.1.1.1.1.1.0
at_table P Cells all = all.1.1.1.1.1.1.1.1.1.1.0
at_table P Notices all = all.1.1.1.1.1.1.1.1.1.1.1.0

-- the tables from this one on
abbrev pub tables_from : LaterTable → List Table
tables_from later.Cells = form_of Cells ∷ form_of Notices ∷ []
tables_from later.Notices = form_of Notices ∷ []

-- and so does what holds of each table before this one, and of those from it on
pub at_lacking : (P : Table → Type 0) (table : LaterTable) (name : TableName) → AllByRecursion P (schema_before table).tables → AllByRecursion P (tables_from table) → P (form_of name)
at_lacking P later.Cells name all more = at_table P name (all-append P (schema_before later.Cells).tables (tables_from later.Cells) all more)
at_lacking P later.Notices name all more = at_table P name (all-append P (schema_before later.Notices).tables (tables_from later.Notices) all more)

-- the table with a tree
abbrev table_at : ℕ → TableName
table_at tree = unwrap_or (find (λ name. (form_of name).tree == tree) all_tables) Desk

has_own_tree : (name : TableName) → table_at (form_of name).tree ≡ name
has_own_tree Desk = refl
has_own_tree Contest = refl
has_own_tree Items = refl
has_own_tree Accounts = refl
has_own_tree Submissions = refl
has_own_tree Proposals = refl
has_own_tree Releases = refl
has_own_tree Rejudgings = refl
has_own_tree Members = refl
has_own_tree Clarifications = refl
has_own_tree Cells = refl
has_own_tree Notices = refl

one_tree : (a b : TableName) → (form_of a).tree ≡ (form_of b).tree → a ≡ b
one_tree a b same = sym (has_own_tree a) ∙ ap table_at same ∙ has_own_tree b

-- one table has other rows, and the other tables are as they were
pub one_changed : (name : TableName) (next : List Row) (old new : Trees) (now : TableRows) → rows_in old ≡ now → rows_in new name ≡ next
    → AllByRecursion (λ t. t.tree ≢ (form_of name).tree → new t.tree ≡ old t.tree) desk_schema.tables → rows_in new ≡ with_rows name next now
one_changed name next old new now was changed others i other = each other i
  where
    each : (other : TableName) → rows_in new other ≡ with_rows name next now other
    each other = go ((form_of other).tree == (form_of name).tree) refl
      where
        go : (b : Bool) → ((form_of other).tree == (form_of name).tree) ≡ b → rows_in new other ≡ cond b next (now other)
        go true e = ap (rows_in new) (one_tree other name (eqb-true _ _ e)) ∙ changed
        go false e =
            let apart : (form_of other).tree ≢ (form_of name).tree = λ same. (let x : true ≡ false = sym (eq-eqb _ _ same) ∙ e in cc) in
            let tree = at_table (λ t. t.tree ≢ (form_of name).tree → new t.tree ≡ old t.tree) other others apart in
            ap (λ rows. sort_by (by_key (form_of other)) (map (show (form_of other)) rows)) tree ∙ ap (λ all. all other) was

abbrev pub IsNumbered : List Row → Type 0
IsNumbered rows = IsTable rows × AllByRecursion (λ r. IsTrue (is_int (rowid r))) rows

-- what is asked of a table for an INSERT to be one put
record IsPlainTable (name : TableName) : Type 0 where
  found : slice_get desk_schema.tables (index_of name) ≡ Some (form_of name)
  uncounted : (form_of name).is_counted ≡ false
  keyless : (olds news : List Row) → works desk_schema Enforced 0 (form_of name).tree olds news ≡ []
  values : (params : Row) → value_rows params (length (given_terms (form_of name))) (length (given_terms (form_of name)) / length (given_terms (form_of name))) (given_terms (form_of name))
      ≡ eval_all (given_terms (form_of name)) (params ∷ []) ∷ []
  stamps : (ps : Env) → eval_all (form_of name).stamps.terms ps ≡ []

is_plain_table : (name : TableName) → IsPlainTable name
is_plain_table Desk = record { found = refl; uncounted = refl; keyless = λ _ _. refl; values = λ _. refl; stamps = λ _. refl }
is_plain_table Contest = record { found = refl; uncounted = refl; keyless = λ _ _. refl; values = λ _. refl; stamps = λ _. refl }
is_plain_table Items = record { found = refl; uncounted = refl; keyless = λ _ _. refl; values = λ _. refl; stamps = λ _. refl }
is_plain_table Accounts = record { found = refl; uncounted = refl; keyless = λ _ _. refl; values = λ _. refl; stamps = λ _. refl }
is_plain_table Submissions = record { found = refl; uncounted = refl; keyless = λ _ _. refl; values = λ _. refl; stamps = λ _. refl }
is_plain_table Proposals = record { found = refl; uncounted = refl; keyless = λ _ _. refl; values = λ _. refl; stamps = λ _. refl }
is_plain_table Releases = record { found = refl; uncounted = refl; keyless = λ _ _. refl; values = λ _. refl; stamps = λ _. refl }
is_plain_table Rejudgings = record { found = refl; uncounted = refl; keyless = λ _ _. refl; values = λ _. refl; stamps = λ _. refl }
is_plain_table Members = record { found = refl; uncounted = refl; keyless = λ _ _. refl; values = λ _. refl; stamps = λ _. refl }
is_plain_table Clarifications = record { found = refl; uncounted = refl; keyless = λ _ _. refl; values = λ _. refl; stamps = λ _. refl }
is_plain_table Cells = record { found = refl; uncounted = refl; keyless = λ _ _. refl; values = λ _. refl; stamps = λ _. refl }
is_plain_table Notices = record { found = refl; uncounted = refl; keyless = λ _ _. refl; values = λ _. refl; stamps = λ _. refl }

-- the row that the tree takes
abbrev put_for : TableName → Row → List Row → Row
put_for name row rows = with_rowid Chosen rows (cast_row (form_of name) (eval_all (given_terms (form_of name)) (row ∷ [])))

puts : (name : TableName) (row : Row) (sql : List ℕ) → Inserts name sql → (old next : State) (count : ℕ) → old.now.schema ≡ desk_schema → Executes sql row old next (Ok count)
    → Puts desk_schema (form_of name) (put_for name row (old.now.trees (form_of name).tree)) old.now next.now
puts name row sql means =
    let p = is_plain_table name in
    inserts sql row desk_schema (index_of name) (form_of name) (given_terms (form_of name)) (length (given_terms (form_of name))) (eval_all (given_terms (form_of name)) (row ∷ []))
    means.is means.plain p.found p.uncounted p.keyless (ap (λ ps. value_rows ps _ _ _) (append-nil row) ∙ p.values row) p.stamps

-- the trees are numbered where this one is, and the others are as they were
pub others_numbered : (name : TableName) (old new : Trees) → AreNumbered old → IsNumbered (new (form_of name).tree)
    → AllByRecursion (λ t. t.tree ≢ (form_of name).tree → new t.tree ≡ old t.tree) desk_schema.tables → AreNumbered new
others_numbered name old new was this others other = go ((form_of other).tree == (form_of name).tree) refl
  where
    go : (b : Bool) → ((form_of other).tree == (form_of name).tree) ≡ b → IsNumbered (new (form_of other).tree)
    go true e = subst (λ (t : ℕ). IsNumbered (new t)) (sym (eqb-true _ _ e)) this
    go false e =
        let apart : (form_of other).tree ≢ (form_of name).tree = λ same. (let x : true ≡ false = sym (eq-eqb _ _ same) ∙ e in cc) in
        subst IsNumbered (sym (at_table (λ t. t.tree ≢ (form_of name).tree → new t.tree ≡ old t.tree) other others apart)) (was other)

-- and so they are where one takes a row
still_numbered : (name : TableName) (old new : Trees) (row : Row) → AreNumbered old → IsTrue (is_int (rowid row)) → new (form_of name).tree ≡ put_row row (old (form_of name).tree)
    → AllByRecursion (λ t. t.tree ≢ (form_of name).tree → new t.tree ≡ old t.tree) desk_schema.tables → AreNumbered new
still_numbered name old new row was keyed rows others = others_numbered name old new was
    (subst IsNumbered (sym rows) (IsTable-put_row row _ (was name).0, all-put_row (λ r. IsTrue (is_int (rowid r))) row _ keyed (was name).1)) others

pub inserted : (name : TableName) (row : Row) (sql : List ℕ) → Inserts name sql → (old new : State) (now kept : Content) (count : ℕ) → Within old now kept → Executes sql row old new (Ok count) → HasInserted name row new now kept
inserted name row sql means old new now kept count within ran before next is with =
    let shows = subst (HasContent old.now) is within.0.shows in
    let t = form_of name in
    let rows = old.now.trees t.tree in
    let put = puts name row sql means old new count shows.0 ran in
    let shown = insert_shows sql row desk_schema (index_of name) _ means.is means.plain old new shows.0 within.1 count ran in
    let more : IsPermutation (row ∷ map (show t) rows) (map (show t) (put_row (put_for name row rows) rows)) =
    subst (λ y. IsPermutation (y ∷ map (show t) rows) (map (show t) (put_row (put_for name row rows) rows))) (with.as_given rows) (IsPermutation-map (show t) _ _ (put_permutes (put_for name row rows) rows put.free)) in
    let was : IsPermutation (map (show t) rows) (before name) = subst (IsPermutation (map (show t) rows)) (ap (λ all. all name) shows.1) (IsPermutation-sym _ _ (sorted_rows name old.now.trees)) in
    let same : IsPermutation (map (show t) (new.now.trees t.tree)) next =
    subst (λ rs. IsPermutation (map (show t) rs) next) (sym put.rows) (IsPermutation-trans _ _ _ (IsPermutation-sym _ _ more) (IsPermutation-trans _ _ _ (IsPermutation-cons row _ _ was) with.among)) in
    let changed : rows_in new.now.trees name ≡ next = one_order (by_key t) (key_cmp_total _ _) _ next with.rises same in (
      record {
        is_open = shown.is_open;
        shows = (put.schema_is, one_changed name next old.now.trees new.now.trees before shows.1 changed put.others, still_numbered name old.now.trees new.now.trees (put_for name row rows) shows.2 put.keyed put.rows put.others);
        keeps = subst (λ d. HasContent d kept) (sym shown.committed_is) within.0.keeps;
      },
      shown.mode,
    )

pub insert_makes_none : (name : TableName) (row : Row) (sql : List ℕ) → Inserts name sql → (old new : State) (now kept : Content) (db : Trees) → Full old now kept → CommitsBy sql row old db → ⊥
insert_makes_none name row sql means old new now kept db h may = insert_keeps sql row desk_schema (index_of name) _ means.is means.plain old new (full_schema old now kept h) h.0.1 db may
