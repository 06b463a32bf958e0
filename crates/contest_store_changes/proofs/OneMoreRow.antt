-- Contests whose lists are the same but for one row of their tables.
use Rattle.std.proofs.Common.{◌≡◌, List, [], ◌∷◌, ◌++◌, IsPermutation, sym, subst}
use Rattle.std.proofs.Math.Path.{fun_ext}
use Rattle.std.proofs.lemmas.List.Sorted.{IsPermutation-sym, IsPermutation-to_front}
use Rattle.sqlite_value.specs.Order.{Row}
use Rattle.contest_types.specs.State.{ContestState}
use Rattle.contest_store_tables.specs.Schema.{form_of}
use Rattle.contest_store_tables.specs.Steps.{IsHeldAsGiven, Rises, with_rows}
use Rattle.contest_store_tables.specs.Tables.{TableRows}
use Rattle.contest_store_tables.specs.declared.table_name.TableName.{TableName}
use Rattle.contest_store_tables.specs.declared.table_name.TableName.TheVariants.{Desk, Contest, Items, Accounts, Submissions, Proposals, Releases, Rejudgings, Members, Clarifications, Cells, Notices}
use Rattle.contest_store_changes.specs.ContestTables.{list_rows}
use Rattle.contest_store_changes.specs.OneRow.{IsOfLists, IsOneRow}

-- the rows are the same if they are in each table
pub same_tables : (f g : TableRows) → f Desk ≡ g Desk → f Contest ≡ g Contest → f Items ≡ g Items → f Accounts ≡ g Accounts → f Submissions ≡ g Submissions → f Proposals ≡ g Proposals
    → f Releases ≡ g Releases → f Rejudgings ≡ g Rejudgings → f Members ≡ g Members → f Clarifications ≡ g Clarifications → f Cells ≡ g Cells → f Notices ≡ g Notices → f ≡ g
same_tables f g desk contest items accounts submissions proposals releases rejudgings members clarifications cells notices = fun_ext at
  where
    at : (name : TableName) → f name ≡ g name
    at Desk = desk
    at Contest = contest
    at Items = items
    at Accounts = accounts
    at Submissions = submissions
    at Proposals = proposals
    at Releases = releases
    at Rejudgings = rejudgings
    at Members = members
    at Clarifications = clarifications
    at Cells = cells
    at Notices = notices

pub at_end : (row : Row) (rows next : List Row) → next ≡ rows ++ row ∷ [] → IsPermutation (row ∷ rows) next
at_end row rows next is = subst (IsPermutation (row ∷ rows)) (sym is) (IsPermutation-sym (rows ++ row ∷ []) (row ∷ rows) (IsPermutation-to_front rows row))

-- one more row at the end of a table
pub one_row_at_end : (name : TableName) (row : Row) (x y : ContestState) → IsOfLists name → IsHeldAsGiven (form_of name) row → list_rows y name ≡ list_rows x name ++ row ∷ [] → Rises name (list_rows y name)
    → with_rows name (list_rows y name) (list_rows x) ≡ list_rows y → IsOneRow name row x y
one_row_at_end name row x y of_lists given is up others = record {
  of_lists = of_lists;
  with_it = record { as_given = given; among = at_end row (list_rows x name) (list_rows y name) is; rises = up };
  others = others;
}
