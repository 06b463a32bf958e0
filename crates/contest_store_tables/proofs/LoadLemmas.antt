-- What a load in the order of the key gives, whichever table it reads.
use Rattle.std.proofs.Common.{◌≡◌, ℕ, List, [], ◌∷◌, map, flat_map, refl, sym, ap, subst, ◌∙◌, Less, IsPermutation}
use Rattle.std.proofs.lemmas.List.Sorted.{IsPermutation-trans, IsPermutation-map}
use Rattle.sqlite.specs.declared.types.Value.TheVariants.{Null}
use Rattle.sqlite.specs.Order.{Row, column}
use Rattle.sqlite.specs.Query.{Query, IsAnswer, output, output_cmp, page, Output}
use Rattle.sqlite.specs.Program.{overlay}
use Rattle.sqlite.specs.State.{State, Shown}
use Rattle.sqlite.proofs.Callers.{reads_as}
use Rattle.sqlite_sql.specs.Ops.{unary}
use Rattle.sqlite_trees.specs.Tree.{Trees}
use Rattle.sqlite_sql.proofs.QueryLemmas.{output_cmp_total, key_cmp_total}
use Rattle.sqlite_keyed.proofs.SortLemmas.{sorted_unique, IsPermutation-sort_by}
use Rattle.sqlite_keyed.proofs.ListLemmas.{map-map, ascending_weaker, ascending-map}
use Rattle.contest_store_tables.specs.Schema.{form_of, desk_schema}
use Rattle.contest_store_tables.specs.Tables.{show, by_key, rows_in}
use Rattle.contest_store_tables.specs.Statements.{load_query, loaded_row, Loads}
use Rattle.contest_store_tables.specs.Steps.{Rises}
use Rattle.contest_store_tables.specs.declared.table_name.TableName.{TableName}
use Rattle.contest_store_tables.specs.declared.table_name.TableName.TheVariants.{Desk, Contest, Items, Accounts, Submissions, Proposals, Releases, Rejudgings, Members, Clarifications, Cells, Notices}

ones : {A B : Type 0} (f : A → B) (xs : List A) → flat_map (λ x. f x ∷ []) xs ≡ map f xs
ones f [] = refl
ones f (x ∷ xs) = ap (λ l. f x ∷ l) (ones f xs)

-- what a row that is shown is sorted by
abbrev key_of : TableName → Row → Row
key_of Items r = column r 0 ∷ column r 1 ∷ []
key_of Members r = column r 0 ∷ column r 1 ∷ []
key_of Cells r = column r 0 ∷ column r 1 ∷ column r 2 ∷ []
key_of name r = column r 0 ∷ []

-- a row that is shown, as the load gives it
abbrev given : TableName → Row → Output
given name r = (key_of name r, loaded_row name r)

-- the load reads what the table shows, and sorts by its key
record IsRead (name : TableName) : Type 0 where
  gives : (r : Row) → output (load_query name) ([] ∷ r ∷ []) ≡ given name (show (form_of name) r)
  sorts : (a b : Row) → output_cmp (load_query name) (given name a) (given name b) ≡ by_key (form_of name) a b
  whole : (os : List Row) → page (load_query name) [] os ≡ os
  over : (db : Trees) → overlay db [] (form_of name).tree ≡ db (form_of name).tree

is_read : (name : TableName) → IsRead name
unfolding unary
is_read Desk = record { gives = λ r. refl; sorts = λ a b. refl; whole = λ os. refl; over = λ db. refl }
is_read Contest = record { gives = λ r. refl; sorts = λ a b. refl; whole = λ os. refl; over = λ db. refl }
is_read Items = record { gives = λ r. refl; sorts = λ a b. refl; whole = λ os. refl; over = λ db. refl }
is_read Accounts = record { gives = λ r. refl; sorts = λ a b. refl; whole = λ os. refl; over = λ db. refl }
is_read Submissions = record { gives = λ r. refl; sorts = λ a b. refl; whole = λ os. refl; over = λ db. refl }
is_read Proposals = record { gives = λ r. refl; sorts = λ a b. refl; whole = λ os. refl; over = λ db. refl }
is_read Releases = record { gives = λ r. refl; sorts = λ a b. refl; whole = λ os. refl; over = λ db. refl }
is_read Rejudgings = record { gives = λ r. refl; sorts = λ a b. refl; whole = λ os. refl; over = λ db. refl }
is_read Members = record { gives = λ r. refl; sorts = λ a b. refl; whole = λ os. refl; over = λ db. refl }
is_read Clarifications = record { gives = λ r. refl; sorts = λ a b. refl; whole = λ os. refl; over = λ db. refl }
is_read Cells = record { gives = λ r. refl; sorts = λ a b. refl; whole = λ os. refl; over = λ db. refl }
is_read Notices = record { gives = λ r. refl; sorts = λ a b. refl; whole = λ os. refl; over = λ db. refl }

module _ (name : TableName) (db : Trees) where
  abbrev q : Query
  q = load_query name

  abbrev shown : List Row
  shown = map (show (form_of name)) (db (form_of name).tree)

  arranged : (rows : List Row) (a : IsAnswer q (overlay db []) [] rows) → IsPermutation (map (given name) shown) a.ordered
  arranged rows a =
      let r = is_read name in
      let staged : a.staged ≡ map (λ r. [] ∷ r ∷ []) (db (form_of name).tree) = a.grouped ∙ ones (λ r. [] ∷ r ∷ []) (overlay db [] (form_of name).tree) ∙ ap (map (λ r. [] ∷ r ∷ [])) (r.over db) in
      let kept : a.kept ≡ map (given name) shown = a.distinct ∙ ap (map (output q)) staged ∙ map-map (output q) _ (db (form_of name).tree)
      ∙ (λ i. map (λ x. r.gives x i) (db (form_of name).tree)) ∙ sym (map-map (given name) (show (form_of name)) (db (form_of name).tree)) in
      subst (λ k. IsPermutation k a.ordered) kept a.same

  pub sorted_rows : IsPermutation (rows_in db name) shown
  sorted_rows = IsPermutation-sort_by (by_key (form_of name)) (key_cmp_total _ _) shown

  -- where the rows rise strictly the load gives them
  pub loads_all : (rows : List Row) → IsAnswer q (overlay db []) [] rows → Rises name (rows_in db name) → rows ≡ map (loaded_row name) (rows_in db name)
  loads_all rows a up =
      let r = is_read name in
      let same : IsPermutation (map (given name) (rows_in db name)) a.ordered = IsPermutation-trans _ _ _ (IsPermutation-map (given name) _ _ sorted_rows) (arranged rows a) in
      let rises = ascending-map (λ x y. output_cmp q x y ≡ Less) (given name) _ (ascending_weaker _ (λ a b. output_cmp q (given name a) (given name b) ≡ Less) (λ a b h. r.sorts a b ∙ h) _ up) in
      let ordered : a.ordered ≡ map (given name) (rows_in db name) = sorted_unique (output_cmp q) (output_cmp_total q) _ a.ordered rises same a.sorted in
      a.shown ∙ r.whole _ ∙ ap (map (λ (p : Output). p.1)) ordered ∙ map-map (λ (p : Output). p.1) (given name) _

pub loads : (name : TableName) (sql : List ℕ) (means : Loads name sql) (old new : State) (rows : List Row) → old.now.schema ≡ desk_schema → Rises name (rows_in old.now.trees name) → Shown sql [] old new rows
    → rows ≡ map (loaded_row name) (rows_in old.now.trees name)
loads name sql means old new rows has up h =
    let read = reads_as sql [] old new desk_schema has _ means.is means.plain means.unlisted rows h in
    loads_all name old.now.trees rows (read.answer Null) up
