-- What the change of a row makes of the rows that the tables show.
use Rattle.std.proofs.Common.{◌≡◌, ◌∙◌, ◌++◌, ℕ, suc, Bool, true, false, not, cond, List, [], ◌∷◌, map, filter, drop, slice_get, Some, Ok, IsTrue, All, IsPermutation, refl, sym, ap, ap₂, subst, subst₂, arith}
use Rattle.std.specs.List.{list_all}
use Rattle.std.proofs.lemmas.Bool.{and_parts}
use Rattle.std.proofs.lemmas.List.{map-append}
use Rattle.std.proofs.lemmas.List.Sorted.{IsPermutation-trans, IsPermutation-sym, IsPermutation-map, IsPermutation-append_left, All-permutation}
use Rattle.sqlite.specs.declared.types.Value.TheVariants.{Null}
use Rattle.sqlite.specs.Order.{Row}
use Rattle.sqlite.specs.Table.{Table}
use Rattle.sqlite.specs.Tree.{Trees}
use Rattle.sqlite.specs.Rowids.TheVariants.{Given}
use Rattle.sqlite.specs.Edit.{edit_of, put_all, without_all, are_fresh, have_rowids}
use Rattle.sqlite.specs.Program.{overlay}
use Rattle.sqlite.specs.State.{State, Executes, CommitsBy}
use Rattle.sqlite.specs.Term.{eval_all}
use Rattle.sqlite_sql.specs.Term.{holds}
use Rattle.sqlite_rules.specs.Action.{works}
use Rattle.sqlite_rules.specs.Calls.{ids_of}
use Rattle.sqlite_rules.specs.Cast.{cast_row}
use Rattle.sqlite_rules.specs.Edit.{id_in}
use Rattle.sqlite_schema.specs.declared.schema.Keys.TheVariants.{Enforced}
use Rattle.sqlite_trees.specs.Tree.{rowid, put_row}
use Rattle.sqlite_trees.specs.View.{is_int}
use Rattle.sqlite_trees.proofs.TreeLemmas.{IsTable-put_row, all-put_row}
use Rattle.sqlite_sql.proofs.QueryLemmas.{key_cmp_total}
use Rattle.sqlite_keyed.proofs.ListLemmas.{map-map, ascending-filter, all-filter}
use Rattle.contest_store_tables.specs.Changes.{table_of_change, is_changed, changed_row, change_row, change_terms, row_terms, Changes, IsHeld, HasChanged}
use Rattle.contest_store_tables.specs.Schema.{form_of, index_of, desk_schema}
use Rattle.contest_store_tables.specs.Statements.{given_terms}
use Rattle.contest_store_tables.specs.Steps.{Content, HasContent, Within, Full}
use Rattle.contest_store_tables.specs.Tables.{rows_in, show, by_key}
use Rattle.contest_store_tables.specs.declared.row_change.RowChange.{RowChange}
use Rattle.contest_store_tables.specs.declared.row_change.RowChange.TheVariants.{Version, Marks, Duration, ItemName, Digest, RejudgingState, MemberState, Cell}
use Rattle.contest_store_tables.specs.declared.table_name.TableName.{TableName}
use Rattle.contest_store_tables.proofs.LoadLemmas.{sorted_rows}
use Rattle.contest_store_tables.proofs.PlaceLemmas.{put_all_permutes, given_stay, left_over, changed_parts}
use Rattle.contest_store_tables.proofs.PlainQueryLemmas.{plain_answer}
use Rattle.contest_store_tables.proofs.RowLemmas.{IsNumbered, one_changed, others_numbered}
use Rattle.contest_store_tables.proofs.SortedLemmas.{one_order}
use Rattle.contest_store_tables.proofs.StepLemmas.{full_schema}
use Rattle.contest_store_tables.proofs.UpdateLemmas.{updates, update_shows, update_keeps}

-- what the statement's query gives for a row of the tree
abbrev source : RowChange → Row → Row → Row
source change given r = eval_all (row_terms change) (given ∷ r ∷ [])

-- the query chooses and changes the rows that are shown
record IsChange (change : RowChange) : Type 0 where
  passes : (given r : Row) → list_all (holds (given ∷ r ∷ [])) (change_terms change) ≡ is_changed change given (show (form_of (table_of_change change)) r)
  numbers : (given r : Row) → rowid (source change given r) ≡ rowid r
  puts : (given r : Row) → show (form_of (table_of_change change)) (cast_row (form_of (table_of_change change)) (drop 1 (source change given r)))
      ≡ show (form_of (table_of_change change)) (cast_row (form_of (table_of_change change)) (eval_all (given_terms (form_of (table_of_change change))) (changed_row change given (show (form_of (table_of_change change)) r) ∷ [])))
  over : (db : Trees) → overlay db [] (form_of (table_of_change change)).tree ≡ db (form_of (table_of_change change)).tree
  found : slice_get desk_schema.tables (index_of (table_of_change change)) ≡ Some (form_of (table_of_change change))
  keyless : (olds news : List Row) → works desk_schema Enforced 0 (form_of (table_of_change change)).tree olds news ≡ []

is_change : (change : RowChange) → IsChange change
is_change Version = record { passes = λ _ _. refl; numbers = λ _ _. refl; puts = λ _ _. refl; over = λ _. refl; found = refl; keyless = λ _ _. refl }
is_change Marks = record { passes = λ _ _. refl; numbers = λ _ _. refl; puts = λ _ _. refl; over = λ _. refl; found = refl; keyless = λ _ _. refl }
is_change Duration = record { passes = λ _ _. refl; numbers = λ _ _. refl; puts = λ _ _. refl; over = λ _. refl; found = refl; keyless = λ _ _. refl }
is_change ItemName = record { passes = λ _ _. refl; numbers = λ _ _. refl; puts = λ _ _. refl; over = λ _. refl; found = refl; keyless = λ _ _. refl }
is_change Digest = record { passes = λ _ _. refl; numbers = λ _ _. refl; puts = λ _ _. refl; over = λ _. refl; found = refl; keyless = λ _ _. refl }
is_change RejudgingState = record { passes = λ _ _. refl; numbers = λ _ _. refl; puts = λ _ _. refl; over = λ _. refl; found = refl; keyless = λ _ _. refl }
is_change MemberState = record { passes = λ _ _. refl; numbers = λ _ _. refl; puts = λ _ _. refl; over = λ _. refl; found = refl; keyless = λ _ _. refl }
is_change Cell = record { passes = λ _ _. refl; numbers = λ _ _. refl; puts = λ _ _. refl; over = λ _. refl; found = refl; keyless = λ _ _. refl }

numbered_all : (rows news : List Row) → IsNumbered rows → have_rowids news ≡ true → IsNumbered (put_all rows news)
numbered_all rows [] was keyed = was
numbered_all rows (r ∷ news) was keyed =
    let both = and_parts _ _ keyed in
    numbered_all (put_row r rows) news (IsTable-put_row r rows was.0, all-put_row (λ x. IsTrue (is_int (rowid x))) r rows both.0 was.1) both.1

module _ (change : RowChange) (given : Row) where
  abbrev name : TableName
  name = table_of_change change

  abbrev t : Table
  t = form_of name

  abbrev chosen : Row → Bool
  chosen r = is_changed change given (show t r)

  -- the row of the tree that takes a row's place
  abbrev put : Row → Row
  put s = cast_row t (drop 1 s)

  -- what is put shows the change
  put_shows : (xs : List Row) → All (IsHeld t) (map (λ r. change_row change given (show t r)) xs) → map (λ r. show t (put (source change given r))) (filter chosen xs) ≡ map (λ r. changed_row change given (show t r)) (filter chosen xs)
  put_shows [] held = refl
  put_shows (x ∷ xs) held = go (chosen x) refl (put_shows xs (λ k d low. held (suc k) d (omega (arith, low))))
    where
      go : (b : Bool) → chosen x ≡ b → map (λ r. show t (put (source change given r))) (filter chosen xs) ≡ map (λ r. changed_row change given (show t r)) (filter chosen xs)
          → map (λ r. show t (put (source change given r))) (cond b (x ∷ filter chosen xs) (filter chosen xs)) ≡ map (λ r. changed_row change given (show t r)) (cond b (x ∷ filter chosen xs) (filter chosen xs))
      go true e more =
          let first : IsHeld t (change_row change given (show t x)) = held 0 [] (omega arith) in
          ap₂ ◌∷◌ ((is_change change).puts given x ∙ rw e at first) more
      go false e more = more

  module _ (tree sources next : List Row) (was : IsNumbered tree) (gives : IsPermutation (map (source change given) (filter chosen tree)) sources)
      (fresh : are_fresh (without_all tree (ids_of sources)) (map put sources) ≡ true) (held : All (IsHeld t) (map (λ r. change_row change given (show t r)) tree)) where
    leave : IsPermutation (map (λ r. id_in (rowid r)) (filter chosen tree)) (ids_of sources)
    leave =
        let same = IsPermutation-map (λ (r : Row). id_in (rowid r)) _ _ gives in
        let ids : map (λ (r : Row). id_in (rowid r)) (map (source change given) (filter chosen tree)) ≡ map (λ r. id_in (rowid r)) (filter chosen tree) =
        map-map (λ (r : Row). id_in (rowid r)) (source change given) _ ∙ (λ i. map (λ r. id_in ((is_change change).numbers given r i)) (filter chosen tree)) in
        subst (λ l. IsPermutation l (ids_of sources)) ids same

    left : without_all tree (ids_of sources) ≡ filter (λ r. not (chosen r)) tree
    left = left_over chosen tree (ids_of sources) was.0 was.1 leave

    -- the tree shows the rows with the change
    pub tree_changed : IsPermutation (map (show t) (put_all (without_all tree (ids_of sources)) (map put sources))) (map (λ r. change_row change given (show t r)) tree)
    tree_changed =
        let rest = without_all tree (ids_of sources) in
        let news : IsPermutation (map (show t) (map put sources)) (map (λ r. changed_row change given (show t r)) (filter chosen tree)) =
        subst₂ IsPermutation (sym (map-map (show t) put sources)) (map-map (λ s. show t (put s)) (source change given) (filter chosen tree) ∙ put_shows tree held)
        (IsPermutation-sym _ _ (IsPermutation-map (λ s. show t (put s)) _ _ gives)) in
        let shown : IsPermutation (map (show t) (put_all rest (map put sources))) (map (show t) (map put sources) ++ map (show t) rest) =
        subst (IsPermutation (map (show t) (put_all rest (map put sources)))) (map-append (show t) (map put sources) rest) (IsPermutation-sym _ _ (IsPermutation-map (show t) _ _ (put_all_permutes rest (map put sources) fresh))) in
        let parts = IsPermutation-append_left (map (show t) rest) _ _ news in
        let others : map (show t) rest ≡ map (show t) (filter (λ r. not (chosen r)) tree) = ap (map (show t)) left in
        let last = changed_parts chosen (λ r. changed_row change given (show t r)) (show t) tree in
        IsPermutation-trans _ _ _ shown (IsPermutation-trans _ _ _ parts (subst (λ l. IsPermutation (map (λ r. changed_row change given (show t r)) (filter chosen tree) ++ l) (map (λ r. change_row change given (show t r)) tree)) (sym others) last))

  module _ (sql : List ℕ) (means : Changes change sql) (old new : State) (now kept : Content) where
    pub changed : (count : ℕ) → Within old now kept → Executes sql given old new (Ok count) → HasChanged change given new now kept
    changed count within ran rows next is to =
        let f = is_change change in
        let shows = subst (HasContent old.now) is within.0.shows in
        let tree = old.now.trees t.tree in
        let r = updates sql given desk_schema (index_of name) t _ means.is means.plain f.found f.keyless old new count shows.0 ran in
        let shown = update_shows sql given desk_schema (index_of name) t _ means.is means.plain f.found f.keyless old new count shows.0 within.1 ran in
        let asked = plain_answer t.tree (change_terms change) (row_terms change) given old.now.trees r.rows (f.over old.now.trees) (r.answer.answer Null) in
        let gives : IsPermutation (map (source change given) (filter chosen tree)) r.rows = subst (λ l. IsPermutation (map (source change given) l) r.rows) (λ i. filter (λ x. f.passes given x i) tree) asked in
        let sorted : IsPermutation (rows name) (map (show t) tree) = subst (λ l. IsPermutation l (map (show t) tree)) (ap (λ all. all name) shows.1) (sorted_rows name old.now.trees) in
        let after : IsPermutation next (map (λ x. change_row change given (show t x)) tree) =
        subst₂ IsPermutation (sym to.is) (map-map (change_row change given) (show t) tree) (IsPermutation-map (change_row change given) _ _ sorted) in
        let held = All-permutation (IsHeld t) _ _ after to.held in
        let news : (edit_of old.now.trees t (ids_of r.rows) Given 1 r.rows).news ≡ map put r.rows = given_stay put (without_all tree (ids_of r.rows)) r.rows in
        let fresh : are_fresh (without_all tree (ids_of r.rows)) (map put r.rows) ≡ true = subst (λ l. are_fresh (without_all tree (ids_of r.rows)) l ≡ true) news r.fresh in
        let became : new.now.trees t.tree ≡ put_all (without_all tree (ids_of r.rows)) (map put r.rows) = r.is ∙ ap (put_all (without_all tree (ids_of r.rows))) news in
        let same : IsPermutation (map (show t) (new.now.trees t.tree)) next =
        subst (λ l. IsPermutation (map (show t) l) next) (sym became) (IsPermutation-trans _ _ _ (tree_changed tree r.rows next (shows.2 name) gives fresh held) (IsPermutation-sym _ _ after)) in
        let this : rows_in new.now.trees name ≡ next = one_order (by_key t) (key_cmp_total _ _) _ next to.rises same in
        let was : IsNumbered (without_all tree (ids_of r.rows)) = subst IsNumbered (sym (left tree r.rows next (shows.2 name) gives fresh held)) (ascending-filter _ (λ x. not (chosen x)) tree (shows.2 name).0, all-filter _ (λ x. not (chosen x)) tree (shows.2 name).1) in
        let numbered : IsNumbered (new.now.trees t.tree) = subst IsNumbered (sym became) (numbered_all _ (map put r.rows) was (subst (λ l. have_rowids l ≡ true) news r.keyed)) in (
          record {
            is_open = shown.is_open;
            shows = (r.schema_is, one_changed name next old.now.trees new.now.trees rows shows.1 this r.others, others_numbered name old.now.trees new.now.trees shows.2 numbered r.others);
            keeps = subst (λ d. HasContent d kept) (sym shown.committed_is) within.0.keeps;
          },
          shown.mode,
        )

    pub change_makes_none : (db : Trees) → Full old now kept → CommitsBy sql given old db → ⊥
    change_makes_none db h may = let f = is_change change in update_keeps sql given desk_schema (index_of name) t _ means.is means.plain f.found f.keyless old db (full_schema old now kept h) h.0.1 may
