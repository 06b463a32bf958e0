-- What a CREATE TABLE does.
use Rattle.std.proofs.Common.{◌≡◌, ◌+◌, ◌∙◌, inl, inr, ℕ, List, [], ◌∷◌, take, true, false, cond, map, Ok, IsTrue, refl, sym, ap, subst, subst₂, rules, zero, suc, get_or, length, ◌<◌, ◌≤◌, arith, Result}
use Rattle.std.specs.List.{AllByRecursion}
use Rattle.sqlite.specs.Tree.{Trees}
use Rattle.sqlite.specs.Table.{Table}
use Rattle.sqlite.specs.Schema.{Schema}
use Rattle.sqlite.specs.Compile.{table_defined_by}
use Rattle.sqlite.specs.Change.{created, next_tree}
use Rattle.sqlite.specs.Command.TheVariants.{CreateTable}
use Rattle.sqlite.specs.Does.{Tally, lacks_sequence}
use Rattle.sqlite.specs.Effect.{Database}
use Rattle.sqlite.specs.Listing.{understood}
use Rattle.sqlite.specs.State.{State, Executes, Shows, CommitsBy}
use Rattle.sqlite.proofs.Callers.{command_of, runs_as}
use Rattle.sqlite_resolve.specs.declared.compiled.Compiled.{Compiled}
use Rattle.sqlite_tied.specs.Compute.{everything}
use Rattle.sqlite_catalog.specs.Change.{KeepsRows}
use Rattle.sqlite_keyed.proofs.ListLemmas.{all-append}
use Rattle.sqlite_keyed.specs.Lists.{sort_by}
use Rattle.sqlite_trees.specs.Tree.{IsTable, rowid}
use Rattle.sqlite_trees.specs.View.{is_int}
use Rattle.contest_store_tables.specs.Making.{Creates, before, up_to}
use Rattle.contest_store_tables.specs.Schema.{form_of, index_of, all_tables, desk_schema, later_name, schema_before}
use Rattle.contest_store_tables.specs.Steps.{Content, OnlyMade, Showing, HasContent, HasFirst, HasCreated, schema_with, Within, HasMade, Step, MakesNone}
use Rattle.contest_store_tables.specs.Tables.{show, by_key}
use Rattle.contest_store_tables.specs.declared.later_table.LaterTable.{LaterTable}
use Rattle.contest_store_tables.specs.declared.later_table.LaterTable.TheVariants as later
use Rattle.contest_store_tables.specs.declared.table_name.TableName.{TableName}
use Rattle.contest_store_tables.proofs.InsertLemmas.{went, same_value}
use Rattle.contest_store_tables.proofs.RowLemmas.{at_table}
use Rattle.contest_store_tables.proofs.StepLemmas.{in_turn}
use Rattle.contest_store_tables.specs.declared.counts.Counts.{Counts}
use Rattle.contest_store.specs.declared.store_error.StoreError.{StoreError}
use Rattle.std.proofs.lemmas.List.{take_all}

still_empty : (old new : Trees) (ts : List Table) → AllByRecursion (λ t. new t.tree ≡ old t.tree) ts → AllByRecursion (λ t. old t.tree ≡ []) ts → AllByRecursion (λ t. new t.tree ≡ []) ts
still_empty old new [] same none = tt
still_empty old new (t ∷ ts) same none = (same.0 ∙ none.0, still_empty old new ts same.1 none.1)

-- where the tables before it stood this one was made, which is empty
pub record IsMade (name : TableName) (old new : State) : Type 0 where
  pub schema_is : new.now.schema ≡ up_to name
  pub empty : new.now.trees (next_tree (before name)) ≡ []
  pub others : KeepsRows (before name).tables old.now.trees new.now.trees
  pub shown : Shows old new new.now old.committed true

module _ (name : TableName) (sql : List ℕ) (means : Creates name sql) where
  pub is_made : (old new : State) (count : ℕ) → old.now.schema ≡ before name → IsTrue old.in_transaction → Executes sql [] old new (Ok count) → IsMade name old new
  is_made old new count has inside ran =
      let w = runs_as sql [] old new (before name) has CreateTable means.is means.plain count ran in
      let all = went w.changed in
      let first_step = went all.1 in
      let made = first_step.1 in
      let both : Ok made.table ≡ Ok means.table = sym made.defined ∙ (ap table_defined_by means.whole ∙ means.defined) in
      let same : made.table ≡ means.table = same_value both in
      let schema_is : first_step.0.schema ≡ up_to name = made.is ∙ ap (λ s. created s made.table) has ∙ ap (created (before name)) same ∙ means.made in
      let no_more : lacks_sequence first_step.0.schema ≡ false = ap lacks_sequence schema_is ∙ means.uncounted in
      let now_is : new.now ≡ first_step.0 = ap (λ (p : Tally × Database). p.1) (same_value all.2) ∙ same_value (rw no_more at first_step.2) in
      let on : old.in_transaction ≡ true = search rules in
      record {
        schema_is = ap (λ (d : Database). d.schema) now_is ∙ schema_is;
        empty = ap (λ (d : Database). d.trees (next_tree (before name))) now_is ∙ subst (λ s. first_step.0.trees (next_tree s) ≡ []) has made.empty;
        others = subst₂ (λ (s : Schema) (d : Database). KeepsRows s.tables old.now.trees d.trees) has (sym now_is) made.others;
        shown = subst (λ b. Shows old new new.now (cond b old.committed new.now) b) on w.shown;
      }

  pub table_created : (old new : State) (now kept : Content) (count : ℕ) → HasFirst (index_of name) old now kept → Executes sql [] old new (Ok count) → HasCreated (index_of name + 1) new now kept
  table_created old new now kept count first ran =
      let within = first.0 in
      let has = subst (HasContent old.now) first.1 within.0.shows in
      let it = is_made old new count has.0 within.1 ran in
      let Empty = λ (t : Table). new.now.trees t.tree ≡ [] in
      let was = subst (λ (s : Schema). AllByRecursion (λ (t : Table). old.now.trees t.tree ≡ []) s.tables) has.0 has.1 in
      let none = still_empty old.now.trees new.now.trees (before name).tables it.others was in
      let tables = all-append Empty (before name).tables (record means.table { tree = next_tree (before name) } ∷ []) none (it.empty, tt) in (
        record {
          is_open = it.shown.is_open;
          shows = (it.schema_is, subst (λ (s : Schema). AllByRecursion Empty s.tables) (means.made ∙ sym it.schema_is) tables);
          keeps = subst (λ d. HasContent d kept) (sym it.shown.committed_is) within.0.keeps;
        },
        it.shown.mode,
      )

  command_is : (old : State) (c : Compiled) → old.now.schema ≡ before name → understood old.now.schema sql ≡ Ok c → c.command ≡ CreateTable
  command_is old c has same = ap command_of (sym same ∙ ap (λ s. understood s sql) has) ∙ means.is

  -- inside a transaction nothing is committed
  pub making_keeps : (old : State) (db : Trees) → old.now.schema ≡ before name → IsTrue old.in_transaction → CommitsBy sql [] old db → ⊥
  unfolding CommitsBy
  making_keeps old db has inside h = let same = command_is old h.0 has h.1.is in elim h.2 [
    | inl ends ↦ elim ends.0 [ inl commit ↦ (let x = sym same ∙ commit in cc) | inr release ↦ (let x = sym same ∙ release.2 in cc) ]
    | inr write ↦ (let on : old.in_transaction ≡ true = search rules in let x = sym write.0 ∙ on in cc)
  ]

  pub create_makes_none : (old : State) (now kept : Content) (db : Trees) → HasFirst (index_of name) old now kept → CommitsBy sql [] old db → ⊥
  create_makes_none old now kept db first h = making_keeps old db (subst (HasContent old.now) first.1 first.0.0.shows).0 first.0.1 h

-- where all tables are made the schema is that of a desk
pub all_made : schema_with all_tables ≡ desk_schema
unfolding understood everything
all_made = refl

-- and where those before this one are, it is that of a desk that lacks it
pub made_before : (table : LaterTable) → before (later_name table) ≡ schema_before table
unfolding understood everything
made_before later.Cells = refl
made_before later.Notices = refl

-- and the tables show no rows
pub made_shows : (d : Database) → HasContent d (OnlyMade all_tables) → HasContent d (Showing (λ _. []))
made_shows d h =
    let has : d.schema ≡ desk_schema = h.0 ∙ all_made in
    let none : (name : TableName) → d.trees (form_of name).tree ≡ [] = λ name. at_table (λ t. d.trees t.tree ≡ []) name (subst (λ (s : Schema). AllByRecursion (λ (t : Table). d.trees t.tree ≡ []) s.tables) has h.1) in (
      has,
      (λ i name. ap (λ rows. sort_by (by_key (form_of name)) (map (show (form_of name)) rows)) (none name) i),
      λ name. subst (λ rows. IsTable rows × AllByRecursion (λ r. IsTrue (is_int (rowid r))) rows) (sym (none name)) (tt, tt),
    )

-- each table stands at its place
pub at_index : (i : ℕ) (d : TableName) → i < 12 → index_of (get_or all_tables i d) ≡ i
at_index zero d h = refl
at_index (suc zero) d h = refl
at_index (suc (suc zero)) d h = refl
at_index (suc (suc (suc zero))) d h = refl
at_index (suc (suc (suc (suc zero)))) d h = refl
at_index (suc (suc (suc (suc (suc zero))))) d h = refl
at_index (suc (suc (suc (suc (suc (suc zero)))))) d h = refl
at_index (suc (suc (suc (suc (suc (suc (suc zero))))))) d h = refl
at_index (suc (suc (suc (suc (suc (suc (suc (suc zero)))))))) d h = refl
at_index (suc (suc (suc (suc (suc (suc (suc (suc (suc zero))))))))) d h = refl
at_index (suc (suc (suc (suc (suc (suc (suc (suc (suc (suc zero)))))))))) d h = refl
at_index (suc (suc (suc (suc (suc (suc (suc (suc (suc (suc (suc zero))))))))))) d h = refl
at_index (suc (suc (suc (suc (suc (suc (suc (suc (suc (suc (suc (suc i)))))))))))) d h = absurd (omega (arith, h))

-- the tables made so far, and then the next
module _ {T : Type 0} (old mid new : State) (b m a : Counts) (i : ℕ) (name : TableName) (place : index_of name ≡ i)
    (one : Step {T = Unit {0}} (Ok tt) old mid b m (HasFirst 0) (HasCreated i) (MakesNone old (HasFirst 0))) where
  pub next_made : (r : Result T StoreError) → Step r mid new m a (HasFirst (index_of name)) (HasCreated (index_of name + 1)) (MakesNone mid (HasFirst (index_of name)))
      → Step r old new b a (HasFirst 0) (HasCreated (i + 1)) (MakesNone old (HasFirst 0))
  next_made r two =
      let next = subst (λ n. Step r mid new m a (HasFirst n) (HasCreated (n + 1)) (MakesNone mid (HasFirst n))) place two in
      in_turn tt r old mid new b m a (HasFirst 0) (HasCreated i) (HasFirst i) (HasCreated (i + 1)) (HasCreated (i + 1)) (MakesNone old (HasFirst 0)) (MakesNone mid (HasFirst i)) one next
      (λ now kept from made. (OnlyMade (take i all_tables), (made, refl), λ to. to)) (λ db made none now kept from. none (OnlyMade (take i all_tables)) kept (made now kept from, refl)) (λ db none. none)

pub first_made : (s : State) (now kept : Content) → HasFirst 0 s now kept → HasCreated 0 s now kept
first_made s now kept h = subst (λ x. Within s x kept) h.1 h.0

-- all of them
pub all_made_hold : (s : State) (i : ℕ) (now kept : Content) → length all_tables ≤ i → HasCreated i s now kept → HasMade s now kept
all_made_hold s i now kept past h =
    let within = subst (λ made. Within s (OnlyMade made) kept) (take_all i all_tables past) h in
    (record { is_open = within.0.is_open; shows = made_shows s.now within.0.shows; keeps = within.0.keeps }, within.1)
