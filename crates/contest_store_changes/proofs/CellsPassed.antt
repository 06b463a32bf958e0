-- Changes of the lists leave the rows of the cells, whatever they are.
use Rattle.std.proofs.Common.{◌≡◌, ◌∙◌, Bool, true, false, List, refl, sym, ap}
use Rattle.std.specs.Prelude.{◌==◌, if◌then◌else◌}
use Rattle.std.proofs.Math.Path.{fun_ext}
use Rattle.std.proofs.lemmas.Bool.{eq-eqb, eqb-true, false≢true}
use Rattle.sqlite_value.specs.Order.{Row}
use Rattle.contest_types.specs.State.{ContestState}
use Rattle.contest_store_tables.specs.Schema.{form_of}
use Rattle.contest_store_tables.specs.Steps.{with_rows}
use Rattle.contest_store_tables.specs.Tables.{TableRows}
use Rattle.contest_store_tables.specs.declared.table_name.TableName.{TableName}
use Rattle.contest_store_tables.specs.declared.table_name.TableName.TheVariants.{Desk, Contest, Items, Accounts, Submissions, Proposals, Releases, Rejudgings, Members, Clarifications, Cells, Notices}
use Rattle.contest_store_changes.specs.ContestTables.{list_rows, rows_with}
use Rattle.contest_store_changes.specs.OneRow.{IsOfLists}

-- the rows of two tables, put in either order
pub in_either_order : (a b : TableName) (rows more : List Row) (all : TableRows) → ((form_of a).tree == (form_of b).tree) ≡ false → with_rows a rows (with_rows b more all) ≡ with_rows b more (with_rows a rows all)
in_either_order a b rows more all apart = fun_ext (λ other. go other ((form_of other).tree == (form_of a).tree) ((form_of other).tree == (form_of b).tree) refl refl)
  where
    go : (other : TableName) (c d : Bool) → ((form_of other).tree == (form_of a).tree) ≡ c → ((form_of other).tree == (form_of b).tree) ≡ d
        → (if c then rows else (if d then more else all other)) ≡ (if d then more else (if c then rows else all other))
    go other true true first second =
        let same = sym (eqb-true (form_of other).tree (form_of a).tree first) ∙ eqb-true (form_of other).tree (form_of b).tree second in
        absurd (false≢true (sym apart ∙ eq-eqb (form_of a).tree (form_of b).tree same))
    go other true false first second = refl
    go other false true first second = refl
    go other false false first second = refl

-- the rows of one table, put twice
pub put_twice : (a : TableName) (rows more : List Row) (all : TableRows) → with_rows a more (with_rows a rows all) ≡ with_rows a more all
put_twice a rows more all = fun_ext (λ other. go other ((form_of other).tree == (form_of a).tree) refl)
  where
    go : (other : TableName) (c : Bool) → ((form_of other).tree == (form_of a).tree) ≡ c → (if c then more else (if c then rows else all other)) ≡ (if c then more else all other)
    go other true is = refl
    go other false is = refl

-- the rows that the table of the cells has, put into it
pub put_same : (cells : List Row) (all : TableRows) → all Cells ≡ cells → with_rows Cells cells all ≡ all
put_same cells all is = fun_ext at
  where
    at : (name : TableName) → with_rows Cells cells all name ≡ all name
    at Desk = refl
    at Contest = refl
    at Items = refl
    at Accounts = refl
    at Submissions = refl
    at Proposals = refl
    at Releases = refl
    at Rejudgings = refl
    at Members = refl
    at Clarifications = refl
    at Cells = sym is
    at Notices = refl

-- a list's table is as it is without the cells
pub of_its_list : (name : TableName) (cells : List Row) (x : ContestState) → IsOfLists name → rows_with cells x name ≡ list_rows x name
of_its_list name cells x apart = ap (λ b. if b then cells else list_rows x name) apart

-- a change of a list, with the cells passed through
pub passes_cells : (name : TableName) (next cells : List Row) (x y : ContestState) → IsOfLists name → with_rows name next (list_rows x) ≡ list_rows y → with_rows name next (rows_with cells x) ≡ rows_with cells y
passes_cells name next cells x y apart others = in_either_order name Cells next cells (list_rows x) apart ∙ ap (with_rows Cells cells) others
