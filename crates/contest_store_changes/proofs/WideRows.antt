-- The rows that tables show have a cell for each column.
use Rattle.std.proofs.Common.{true, false, cond, List, [], ◌∷◌, Ordering, is_gt, refl}
use Rattle.std.specs.List.{AllByRecursion}
use Rattle.sqlite.specs.Tree.{Trees}
use Rattle.sqlite_keyed.proofs.ListLemmas.{all-map}
use Rattle.sqlite_keyed.specs.Lists.{insert_sorted, sort_by}
use Rattle.sqlite_value.specs.Order.{Row}
use Rattle.contest_store_tables.specs.Schema.{form_of}
use Rattle.contest_store_tables.specs.Tables.{by_key, rows_in, show}
use Rattle.contest_store_tables.specs.declared.table_name.TableName.{TableName}
use Rattle.contest_store_tables.specs.declared.table_name.TableName.TheVariants.{Desk, Contest, Items, Accounts, Submissions, Proposals, Releases, Rejudgings, Members, Clarifications, Cells, Notices}
use Rattle.contest_store_changes.specs.Laws.{IsWide}

-- what holds of all rows holds of them in order
all_inserted : {X : Type 0} (cmp : X → X → Ordering) (P : X → Type 0) (new : X) (xs : List X) → P new → AllByRecursion P xs → AllByRecursion P (insert_sorted cmp new xs)
all_inserted cmp P new [] first all = (first, tt)
all_inserted cmp P new (x ∷ xs) first all =
    elim (is_gt (cmp new x)) as (λ b. AllByRecursion P (cond b (x ∷ insert_sorted cmp new xs) (new ∷ x ∷ xs))) [ true ↦ (all.0, all_inserted cmp P new xs first all.1) | false ↦ (first, all) ]

pub all_sorted : {X : Type 0} (cmp : X → X → Ordering) (P : X → Type 0) (xs : List X) → AllByRecursion P xs → AllByRecursion P (sort_by cmp xs)
all_sorted cmp P [] all = tt
all_sorted cmp P (x ∷ xs) all = all_inserted cmp P x (sort_by cmp xs) all.0 (all_sorted cmp P xs all.1)

shown_is_wide : (name : TableName) (r : Row) → IsWide name (show (form_of name) r)
shown_is_wide Desk r = refl
shown_is_wide Contest r = refl
shown_is_wide Items r = refl
shown_is_wide Accounts r = refl
shown_is_wide Submissions r = refl
shown_is_wide Proposals r = refl
shown_is_wide Releases r = refl
shown_is_wide Rejudgings r = refl
shown_is_wide Members r = refl
shown_is_wide Clarifications r = refl
shown_is_wide Cells r = refl
shown_is_wide Notices r = refl

pub shown_are_wide : (db : Trees) (name : TableName) → AllByRecursion (IsWide name) (rows_in db name)
shown_are_wide db name = all_sorted (by_key (form_of name)) (IsWide name) _ (all-map (IsWide name) (show (form_of name)) (shown_is_wide name) (db (form_of name).tree))
