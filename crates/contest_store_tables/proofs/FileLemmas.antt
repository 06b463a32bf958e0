-- What a look for a submission's file gives.
use Rattle.std.proofs.Common.{◌≡◌, ℕ, List, [], ◌∷◌, map, filter, refl, sym, ap, subst, ◌∙◌, IsPermutation}
use Rattle.std.proofs.lemmas.List.Sorted.{IsPermutation-trans, IsPermutation-map}
use Rattle.sqlite.specs.declared.types.Value.{Value}
use Rattle.sqlite.specs.declared.types.Value.TheVariants.{Null}
use Rattle.sqlite.specs.Order.{Row, column}
use Rattle.sqlite.specs.Query.{IsAnswer}
use Rattle.sqlite.specs.Program.{overlay}
use Rattle.sqlite.specs.State.{State, Shown}
use Rattle.sqlite.proofs.Callers.{reads_as}
use Rattle.sqlite_trees.specs.Tree.{Trees}
use Rattle.sqlite_keyed.proofs.ListLemmas.{map-map, filter-map, IsPermutation-filter}
use Rattle.contest_store_tables.specs.Schema.{form_of, desk_schema}
use Rattle.contest_store_tables.specs.Tables.{show, rows_in}
use Rattle.contest_store_tables.specs.Statements.{is_submission, files_of, file_query, FindsFile}
use Rattle.contest_store_tables.specs.declared.table_name.TableName.TheVariants.{Submissions}
use Rattle.contest_store_tables.proofs.PlainQueryLemmas.{plain_answer}
use Rattle.contest_store_tables.proofs.LoadLemmas.{sorted_rows}

-- it gives the files of the rows that the table shows
pub files_found : (team number : Value) (db : Trees) (rows : List Row) → IsAnswer file_query (overlay db []) (team ∷ number ∷ []) rows → IsPermutation (files_of team number (rows_in db Submissions)) rows
files_found team number db rows a =
    let all = show (form_of Submissions) in
    let found = λ (r : Row). is_submission team number (all r) in
    let file = λ (r : Row). column r 7 ∷ [] in
    let sorted = IsPermutation-map file _ _ (IsPermutation-filter (is_submission team number) _ _ (sorted_rows Submissions db)) in
    let same : files_of team number (map all (db 8)) ≡ map (λ r. column r 8 ∷ []) (filter found (db 8)) =
    ap (map file) (filter-map (is_submission team number) all (db 8)) ∙ map-map file all (filter found (db 8)) in
    IsPermutation-trans _ _ _ sorted (subst (λ l. IsPermutation l rows) (sym same) (plain_answer 8 file_query.filter file_query.project (team ∷ number ∷ []) db rows refl a))

pub finds : (team number : Value) (sql : List ℕ) (means : FindsFile sql) (old new : State) (rows : List Row) → old.now.schema ≡ desk_schema → Shown sql (team ∷ number ∷ []) old new rows
    → IsPermutation (files_of team number (rows_in old.now.trees Submissions)) rows
finds team number sql means old new rows has h =
    let read = reads_as sql (team ∷ number ∷ []) old new desk_schema has _ means.is means.plain means.unlisted rows h in
    files_found team number old.now.trees rows (read.answer Null)
