-- What the tables of a sound database show rises by the keys of the tables.
use Rattle.std.proofs.Common.{◌≡◌, ℕ, Bool, true, false, not, ◌&&◌, ◌||◌, List, [], ◌∷◌, refl, ap, ◌∙◌, IsTrue, Ordering, Less, Equal, Greater, is_eq}
use Rattle.std.specs.List.{AllByRecursion, list_all}
use Rattle.std.specs.Ordering.{ordering_then}
use Rattle.std.proofs.lemmas.Bool.{and_from, or_parts, both_ways, false_from_ne_true}
use Rattle.sqlite.specs.Order.{Row, column}
use Rattle.sqlite.specs.Tree.{Trees}
use Rattle.sqlite_value.specs.declared.value.Value.{Value}
use Rattle.sqlite_value.specs.declared.value.Value.TheVariants.{Null, Int, Real, Text, Blob}
use Rattle.sqlite_value.specs.declared.keys.Collation.TheVariants.{Binary}
use Rattle.sqlite_value.specs.Keys.{plain}
use Rattle.sqlite_value.specs.Order.{value_cmp}
use Rattle.sqlite_value.proofs.KeyLemmas.{first_key-plain, then_tied}
use Rattle.sqlite_sql.specs.Ops.{binary, is_null}
use Rattle.sqlite_sql.proofs.QueryLemmas.{key_cmp_total}
use Rattle.sqlite_trees.specs.Tree.{IsAscending, IsTable, rowid}
use Rattle.sqlite_trees.specs.View.{is_int}
use Rattle.sqlite_schema.specs.declared.schema.Constraint.{Constraint}
use Rattle.sqlite_schema.specs.declared.schema.Constraint.TheVariants.{NotNull, Unique}
use Rattle.sqlite_schema.specs.declared.schema.Index.{Index}
use Rattle.sqlite_schema.specs.declared.schema.Table.{Table}
use Rattle.sqlite_schema.specs.Rules.{Keeps, equal, differ, agree, clashes, guards, has_null, passes}
use Rattle.sqlite_rules.proofs.KeyLemmas.{agree_back, differ_back}
use Rattle.sqlite_catalog.specs.Listing.{IsSound}
use Rattle.sqlite_keyed.proofs.ListLemmas.{all-append, all_weaker, all_both, all_from_test, ascending-map, ascending_weaker, none_from_any}
use Rattle.contest_store_tables.specs.Schema.{celless_schema, form_of, desk_schema, desk_indexes, schema_before}
use Rattle.contest_store_tables.specs.Tables.{rows_in, show, by_key, lacking, with_cells_back}
use Rattle.contest_store_tables.specs.Steps.{AreNumbered, Rises}
use Rattle.contest_store_tables.specs.declared.later_table.LaterTable.{LaterTable}
use Rattle.contest_store_tables.specs.declared.later_table.LaterTable.TheVariants as later
use Rattle.contest_store_tables.specs.declared.table_name.TableName.{TableName}
use Rattle.contest_store_tables.specs.declared.table_name.TableName.TheVariants.{Desk, Contest, Items, Accounts, Submissions, Proposals, Releases, Rejudgings, Members, Clarifications, Cells, Notices}
use Rattle.contest_store_tables.proofs.RowLemmas.{at_table, tables_from}
use Rattle.contest_store_tables.proofs.StrictSort.{rises_sorted}

-- two rows of a tree, by their values at these places
abbrev place_cmp : List ℕ → Row → Row → Ordering
place_cmp [] a b = Equal
place_cmp (p ∷ ps) a b = ordering_then (value_cmp (column a p) (column b p)) (place_cmp ps a b)

-- SQL's = where neither value is NULL
equals : (v w : Value) → is_null v ≡ false → is_null w ≡ false → value_cmp v w ≡ Equal → equal Binary v w ≡ true
unfolding binary
equals v w p q same = rw (p, q, same) refl

-- and its <>
differs : (v w : Value) → is_null v ≡ false → is_null w ≡ false → value_cmp v w ≡ Less → differ v w ≡ true
unfolding binary
differs v w p q below = rw (p, q, below) refl

no_null : (v : Value) → IsTrue (is_int v) → is_null v ≡ false
no_null Null i = absurd (cc i)
no_null (Int n) i = refl
no_null (Real x) i = refl
no_null (Text t) i = refl
no_null (Blob b) i = refl

-- rows that tie agree, where none of these values is NULL
ties_agree : (ps : List ℕ) (a b : Row) → has_null ps a ≡ false → has_null ps b ≡ false → place_cmp ps a b ≡ Equal → agree plain ps a ps b ≡ true
ties_agree [] a b p q tie = refl
ties_agree (at ∷ ps) a b p q tie =
    let left = or_parts _ _ p in
    let right = or_parts _ _ q in
    let parts = then_tied _ _ tie in
    rw first_key-plain (and_from _ _ (equals _ _ left.0 right.0 parts.0) (ties_agree ps a b left.1 right.1 parts.1))

tied : (o : Ordering) → is_eq o ≡ true → o ≡ Equal
tied Less h = absurd (cc)
tied Equal h = refl
tied Greater h = absurd (cc)

-- a row doesn't tie with another that lacks its values
untied : (ps : List ℕ) (a b : Row) → has_null ps a ≡ false → has_null ps b ≡ false → differ (rowid a) (rowid b) ≡ true
    → (agree plain ps b ps a && differ (rowid b) (rowid a)) ≡ false → is_eq (place_cmp ps a b) ≡ false
untied ps a b p q other none = false_from_ne_true _ clash
  where
    clash : is_eq (place_cmp ps a b) ≡ true → ⊥
    clash tie = both_ways _ none (and_from _ _ (agree_back plain ps ps a b (ties_agree ps a b p q (tied _ tie))) (differ_back (rowid a) (rowid b) other))

-- a row above this one, with no NULL at these places
record Follows (ps : List ℕ) (x y : Row) : Type 0 where
  above : value_cmp (rowid x) (rowid y) ≡ Less
  numbered : IsTrue (is_int (rowid y))
  full : has_null ps y ≡ false

follow : (ps : List ℕ) (x : Row) (ys : List Row) → AllByRecursion (λ y. value_cmp (rowid x) (rowid y) ≡ Less) ys → AllByRecursion (λ y. IsTrue (is_int (rowid y))) ys
    → AllByRecursion (λ y. has_null ps y ≡ false) ys → AllByRecursion (Follows ps x) ys
follow ps x [] up ints full = tt
follow ps x (y ∷ ys) up ints full = (record { above = up.0; numbered = ints.0; full = full.0 }, follow ps x ys up.1 ints.1 full.1)

-- no two rows of a tree tie where none has the values of another, and none has a NULL among them
apart_rows : (ps : List ℕ) (rows : List Row) → IsTable rows → AllByRecursion (λ r. IsTrue (is_int (rowid r))) rows → AllByRecursion (λ r. has_null ps r ≡ false) rows
    → AllByRecursion (λ r. clashes plain ps rows r ≡ false) rows → IsAscending (λ a b. is_eq (place_cmp ps a b) ≡ false) rows
apart_rows ps [] up ints full alone = tt
apart_rows ps (x ∷ xs) up ints full alone =
    let others = (none_from_any _ (x ∷ xs) alone.0).1 in
    let fewer = all_weaker (λ r. clashes plain ps (x ∷ xs) r ≡ false) (λ r. clashes plain ps xs r ≡ false) (λ r h. (or_parts _ _ h).1) xs alone.1 in (
      all_both (Follows ps x) (λ y. (agree plain ps y ps x && differ (rowid y) (rowid x)) ≡ false) (λ y. is_eq (place_cmp ps x y) ≡ false)
          (λ y f. untied ps x y full.0 f.full (differs _ _ (no_null _ ints.0) (no_null _ f.numbered) f.above)) xs (follow ps x xs up.0 ints.1 full.1) others,
      apart_rows ps xs up.1 ints.1 full.1 fewer,
    )

-- nor do they by their rowids
apart_numbers : (rows : List Row) → IsTable rows → IsAscending (λ a b. is_eq (place_cmp (0 ∷ []) a b) ≡ false) rows
apart_numbers rows up = ascending_weaker (λ a b. value_cmp (rowid a) (rowid b) ≡ Less) (λ a b. is_eq (place_cmp (0 ∷ []) a b) ≡ false) (λ a b below. rw below refl) rows up

-- the columns of a key are NOT NULL
one_full : (p rest : Bool) → (not p && rest) ≡ true → (p || false) ≡ false
one_full true rest h = absurd (cc)
one_full false rest h = refl

two_full : (p q rest : Bool) → (not p && (not q && rest)) ≡ true → (p || (q || false)) ≡ false
two_full true q rest h = absurd (cc)
two_full false q rest h = one_full q rest h

three_full : (p q r rest : Bool) → (not p && (not q && (not r && rest))) ≡ true → (p || (q || (r || false))) ≡ false
three_full true q r rest h = absurd (cc)
three_full false q r rest h = two_full q r rest h

-- a unique index holds no second row with its values
abbrev is_free : Trees → Table → Row → Index → Bool
is_free db t row i = not (guards i t && clashes i.order i.columns (db t.tree) row)

no_clash : (b : Bool) → not (true && b) ≡ true → b ≡ false
no_clash true h = absurd (cc)
no_clash false h = refl

module _ (db : Trees) (full_columns : Keeps NotNull desk_schema db) (once : Keeps Unique desk_schema db) (numbered : AreNumbered db) where
  -- no two rows of a tree have one key
  abbrev AreApart : TableName → Type 0
  AreApart name = IsAscending (λ a b. is_eq (place_cmp (form_of name).primary a b) ≡ false) (db (form_of name).tree)

  abbrev IsFull : TableName → Row → Type 0
  IsFull name row = has_null (form_of name).primary row ≡ false

  abbrev IsAlone : TableName → Row → Type 0
  IsAlone name row = clashes plain (form_of name).primary (db (form_of name).tree) row ≡ false

  -- as the rules NOT NULL and UNIQUE have it of a key that is not the rowid
  apart_keys : (name : TableName) → ((row : Row) → passes NotNull desk_schema db (form_of name) row ≡ true → IsFull name row)
      → ((row : Row) → AllByRecursion (λ i. is_free db (form_of name) row i ≡ true) desk_indexes → IsAlone name row) → AreApart name
  apart_keys name full alone =
      let rows = db (form_of name).tree in
      let Present = λ (t : Table) (row : Row). passes NotNull desk_schema db t row ≡ true in
      let Passing = λ (t : Table) (row : Row). list_all (is_free db t row) desk_indexes ≡ true in
      let present = at_table (λ t. AllByRecursion (Present t) (db t.tree)) name full_columns in
      let passing = at_table (λ t. AllByRecursion (Passing t) (db t.tree)) name once in
      apart_rows (form_of name).primary rows (numbered name).0 (numbered name).1 (all_weaker (Present (form_of name)) (IsFull name) full rows present)
      (all_weaker (Passing (form_of name)) (IsAlone name) (λ row h. alone row (all_from_test (is_free db (form_of name) row) desk_indexes h)) rows passing)

  apart : (name : TableName) → AreApart name
  apart Items = apart_keys Items (λ row h. two_full _ _ _ h) (λ row h. no_clash _ h.0)
  apart Accounts = apart_keys Accounts (λ row h. one_full _ _ h) (λ row h. no_clash _ h.1.1.0)
  apart Members = apart_keys Members (λ row h. two_full _ _ _ h) (λ row h. no_clash _ h.1.1.1.1.1.1.1.0)
  apart Cells = apart_keys Cells (λ r h. three_full (is_null (column r 1)) (is_null (column r 2)) (is_null (column r 3)) _ h) (λ row h. no_clash _ h.1.1.1.1.1.1.1.1.1.0)
  apart Desk = apart_numbers _ (numbered Desk).0
  apart Contest = apart_numbers _ (numbered Contest).0
  apart Submissions = apart_numbers _ (numbered Submissions).0
  apart Proposals = apart_numbers _ (numbered Proposals).0
  apart Releases = apart_numbers _ (numbered Releases).0
  apart Rejudgings = apart_numbers _ (numbered Rejudgings).0
  apart Clarifications = apart_numbers _ (numbered Clarifications).0
  apart Notices = apart_numbers _ (numbered Notices).0

-- the order of the shown rows is that of the rows by their key's places
shown_cmp : (name : TableName) (a b : Row) → by_key (form_of name) (show (form_of name) a) (show (form_of name) b) ≡ place_cmp (form_of name).primary a b
shown_cmp Desk a b = refl
shown_cmp Contest a b = refl
shown_cmp Items a b = refl
shown_cmp Accounts a b = refl
shown_cmp Submissions a b = refl
shown_cmp Proposals a b = refl
shown_cmp Releases a b = refl
shown_cmp Rejudgings a b = refl
shown_cmp Members a b = refl
shown_cmp Clarifications a b = refl
shown_cmp Cells a b = refl
shown_cmp Notices a b = refl

-- what each table shows rises by its key
rises : (db : Trees) → Keeps NotNull desk_schema db → Keeps Unique desk_schema db → AreNumbered db → (name : TableName) → Rises name (rows_in db name)
rises db full once numbered name =
    let t = form_of name in
    let AreUntied = λ (a b : Row). is_eq (by_key t a b) ≡ false in
    let trees = apart db full once numbered name in
    let rows = ascending_weaker (λ a b. is_eq (place_cmp t.primary a b) ≡ false) (λ a b. AreUntied (show t a) (show t b)) (λ a b h. ap is_eq (shown_cmp name a b) ∙ h) _ trees in
    rises_sorted (by_key t) (key_cmp_total _ 0) _ (ascending-map AreUntied (show t) _ rows)

pub rises_in : (db : Trees) → IsSound desk_schema db → AreNumbered db → (name : TableName) → Rises name (rows_in db name)
rises_in db sound numbered name = rises db (sound.obeys.rules NotNull) (sound.obeys.rules Unique) numbered name

-- what the tables before this one keep is kept by those of a desk whose other tables have no row
all_keep : (rule : Constraint) (table : LaterTable) (db : Trees) → AllByRecursion (λ t. AllByRecursion (λ row. passes rule desk_schema (lacking table db) t row ≡ true) (lacking table db t.tree)) (schema_before table).tables
    → Keeps rule desk_schema (lacking table db)
all_keep rule later.Cells db kept =
    all-append (λ t. AllByRecursion (λ row. passes rule desk_schema (lacking later.Cells db) t row ≡ true) (lacking later.Cells db t.tree)) (schema_before later.Cells).tables (tables_from later.Cells) kept (tt, (tt, tt))
all_keep rule later.Notices db kept =
    all-append (λ t. AllByRecursion (λ row. passes rule desk_schema (lacking later.Notices db) t row ≡ true) (lacking later.Notices db t.tree)) (schema_before later.Notices).tables (tables_from later.Notices) kept (tt, tt)

-- so what they show rises by their keys
pub lacking_rises_in : (table : LaterTable) (db : Trees) → IsSound (schema_before table) db → AreNumbered (lacking table db) → (name : TableName) → Rises name (rows_in (lacking table db) name)
lacking_rises_in later.Cells db sound numbered name =
    rises (lacking later.Cells db) (all_keep NotNull later.Cells db (sound.obeys.rules NotNull)) (all_keep Unique later.Cells db (sound.obeys.rules Unique)) numbered name
lacking_rises_in later.Notices db sound numbered name =
    rises (lacking later.Notices db) (all_keep NotNull later.Notices db (sound.obeys.rules NotNull)) (all_keep Unique later.Notices db (sound.obeys.rules Unique)) numbered name

-- the same where the table of the cells was taken out
celless_full : (place : LaterTable) (db : Trees) → Keeps NotNull (celless_schema place) db → Keeps NotNull desk_schema (with_cells_back place db)
celless_full later.Cells db h = (h.0, (h.1.0, (h.1.1.0, (h.1.1.1.0, (h.1.1.1.1.0, (h.1.1.1.1.1.0, (h.1.1.1.1.1.1.0, (h.1.1.1.1.1.1.1.0, (h.1.1.1.1.1.1.1.1.0, (h.1.1.1.1.1.1.1.1.1.0, (tt, (h.1.1.1.1.1.1.1.1.1.1.0, tt))))))))))))
celless_full later.Notices db h = (h.0, (h.1.0, (h.1.1.0, (h.1.1.1.0, (h.1.1.1.1.0, (h.1.1.1.1.1.0, (h.1.1.1.1.1.1.0, (h.1.1.1.1.1.1.1.0, (h.1.1.1.1.1.1.1.1.0, (h.1.1.1.1.1.1.1.1.1.0, (tt, (h.1.1.1.1.1.1.1.1.1.1.0, tt))))))))))))

celless_once : (place : LaterTable) (db : Trees) → Keeps Unique (celless_schema place) db → Keeps Unique desk_schema (with_cells_back place db)
celless_once later.Cells db h = (h.0, (h.1.0, (h.1.1.0, (h.1.1.1.0, (h.1.1.1.1.0, (h.1.1.1.1.1.0, (h.1.1.1.1.1.1.0, (h.1.1.1.1.1.1.1.0, (h.1.1.1.1.1.1.1.1.0, (h.1.1.1.1.1.1.1.1.1.0, (tt, (h.1.1.1.1.1.1.1.1.1.1.0, tt))))))))))))
celless_once later.Notices db h = (h.0, (h.1.0, (h.1.1.0, (h.1.1.1.0, (h.1.1.1.1.0, (h.1.1.1.1.1.0, (h.1.1.1.1.1.1.0, (h.1.1.1.1.1.1.1.0, (h.1.1.1.1.1.1.1.1.0, (h.1.1.1.1.1.1.1.1.1.0, (tt, (h.1.1.1.1.1.1.1.1.1.1.0, tt))))))))))))

pub celless_rises_in : (place : LaterTable) (db : Trees) → IsSound (celless_schema place) db → AreNumbered (with_cells_back place db) → (name : TableName) → Rises name (rows_in (with_cells_back place db) name)
celless_rises_in place db sound numbered name =
    rises (with_cells_back place db) (celless_full place db (sound.obeys.rules NotNull)) (celless_once place db (sound.obeys.rules Unique)) numbered name
