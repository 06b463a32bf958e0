-- A new setting is one more row of its table, and the other tables stay as they are.
use Rattle.std.proofs.Common.{◌≡◌, ◌∙◌, ℕ, ◌+◌, false, List, [], ◌∷◌, ◌++◌, length, refl, sym, ap, subst, IsPermutation}
use Rattle.std.proofs.Math.Path.{fun_ext}
use Rattle.std.proofs.lemmas.List.Sorted.{IsPermutation-append_right, IsPermutation-middle, IsPermutation-sym, IsPermutation-trans}
use Rattle.sqlite_value.specs.Order.{Row}
use Rattle.contest_types.specs.State.{ContestState, add}
use Rattle.contest_types.specs.declared.entry.Entry.TheVariants.{NewType, NewLanguage, NewProblem, NewGroup, NewTeam}
use Rattle.contest_store_rows.specs.FixedRows.{group_row, items_rows, language_row, problem_row, team_row, type_row}
use Rattle.contest_store_rows.specs.Tables.{Tables, rows_of}
use Rattle.contest_store_rows.proofs.ListLaws.{one_more, rows_from}
use Rattle.contest_store_tables.specs.Schema.{form_of}
use Rattle.contest_store_tables.specs.Steps.{IsHeldAsGiven, with_rows}
use Rattle.contest_store_tables.specs.declared.table_name.TableName.{TableName}
use Rattle.contest_store_tables.specs.declared.table_name.TableName.TheVariants.{Desk, Contest, Items, Accounts, Submissions, Proposals, Releases, Rejudgings, Members, Clarifications, Cells, Notices}
use Rattle.contest_store_changes.specs.ContestTables.{by_name}
use Rattle.contest_store_changes.specs.Laws.{TypeIsAdded, LanguageIsAdded, GroupIsAdded, ProblemIsAdded, TeamIsAdded}
use Rattle.contest_store_changes.specs.OneRow.{IsOneRow}
use Rattle.contest_store_changes.proofs.HeldRows.{item_given}
use Rattle.contest_types.proofs.GrownSettings.{one_type, one_language, one_group, one_problem, one_team}
use Rattle.contest_store_changes.proofs.NamesKept.{others_kept, teams_kept}
use Rattle.contest_store_changes.proofs.RisingRows.{rises_but_accounts}
use Rattle.contest_store_cells.proofs.CellChanges.{in_front, at_end}
use Rattle.contest_store_changes.proofs.Writable.{writable}

-- where the row stands among those of its table
behind : (front rows next : List Row) (r : Row) → IsPermutation (r ∷ rows) next → IsPermutation (r ∷ (front ++ rows)) (front ++ next)
behind front rows next r h = IsPermutation-trans _ _ _ (IsPermutation-sym _ _ (IsPermutation-middle front r rows)) (IsPermutation-append_right front _ _ h)

-- the rows of one list with one more, before all that follow
grown : {X : Type 0} (row_of : ℕ → X → Row) (xs : List X) (x : X) (others : List Row) → IsPermutation (row_of (length xs + 1) x ∷ (rows_from row_of 1 xs ++ others)) (rows_from row_of 1 (xs ++ x ∷ []) ++ others)
grown row_of xs x others = subst (λ rows. IsPermutation (row_of (length xs + 1) x ∷ (rows_from row_of 1 xs ++ others)) (rows ++ others)) (sym (one_more row_of 1 xs x)) (in_front (rows_from row_of 1 xs) others (row_of (length xs + 1) x))

last_grown : {X : Type 0} (row_of : ℕ → X → Row) (xs : List X) (x : X) → IsPermutation (row_of (length xs + 1) x ∷ rows_from row_of 1 xs) (rows_from row_of 1 (xs ++ x ∷ []))
last_grown row_of xs x = subst (λ rows. IsPermutation (row_of (length xs + 1) x ∷ rows_from row_of 1 xs) rows) (sym (one_more row_of 1 xs x)) (at_end (rows_from row_of 1 xs) (row_of (length xs + 1) x))

-- no other table
other_tables : (t : Tables) (items : List Row) (name : TableName) → with_rows Items items (by_name t) name ≡ by_name (record t { items = items }) name
other_tables t items Desk = refl
other_tables t items Contest = refl
other_tables t items Items = refl
other_tables t items Accounts = refl
other_tables t items Submissions = refl
other_tables t items Proposals = refl
other_tables t items Releases = refl
other_tables t items Rejudgings = refl
other_tables t items Members = refl
other_tables t items Clarifications = refl
other_tables t items Cells = refl
other_tables t items Notices = refl

one_row : (row : Row) (x y : ContestState) → IsHeldAsGiven (form_of Items) row → IsPermutation (row ∷ items_rows x.fixed.settings) (items_rows y.fixed.settings) → rows_of y ≡ record (rows_of x) { items = items_rows y.fixed.settings } → IsOneRow Items row x y
one_row row x y given among same = record {
  of_lists = refl;
  with_it = record { as_given = given; among = among; rises = rises_but_accounts y Items (λ is. absurd (cc is)) };
  others = fun_ext (other_tables (rows_of x) (items_rows y.fixed.settings)) ∙ ap by_name (sym same);
}

pub type_added : TypeIsAdded
type_added x t sound =
    let s = x.fixed.settings in
    one_row (type_row (length s.types + 1) t) x (add x (NewType t)) (item_given 0 _ _ _ [] 0 _ _ [])
    (grown type_row s.types t _)
    (others_kept x _ (one_type s t) refl (writable x sound))

pub language_added : LanguageIsAdded
language_added x l sound =
    let s = x.fixed.settings in
    one_row (language_row (length s.languages + 1) l) x (add x (NewLanguage l)) (item_given 1 _ _ _ [] 0 _ false [])
    (behind (rows_from type_row 1 s.types) _ _ _ (grown language_row s.languages l _))
    (others_kept x _ (one_language s l) refl (writable x sound))

pub group_added : GroupIsAdded
group_added x g sound =
    let s = x.fixed.settings in
    one_row (group_row (length s.groups + 1) g) x (add x (NewGroup g)) (item_given 2 _ _ _ [] 0 false false [])
    (subst (λ (teams : List Row). IsPermutation (group_row (length s.groups + 1) g ∷ items_rows s) (rows_from type_row 1 s.types ++ (rows_from language_row 1 s.languages ++ (rows_from group_row 1 (s.groups ++ g ∷ []) ++ (rows_from problem_row 1 s.problems ++ teams)))))
    (sym (teams_kept s _ (one_group s g) 1 s.teams (writable x sound).valid.references))
    (behind (rows_from type_row 1 s.types) _ _ _ (behind (rows_from language_row 1 s.languages) _ _ _ (grown group_row s.groups g _))))
    refl

pub problem_added : ProblemIsAdded
problem_added x p sound =
    let s = x.fixed.settings in
    one_row (problem_row (length s.problems + 1) p) x (add x (NewProblem p)) (item_given 3 _ _ _ _ _ false false [])
    (behind (rows_from type_row 1 s.types) _ _ _ (behind (rows_from language_row 1 s.languages) _ _ _ (behind (rows_from group_row 1 s.groups) _ _ _ (grown problem_row s.problems p _))))
    (others_kept x _ (one_problem s p) refl (writable x sound))

pub team_added : TeamIsAdded
team_added x t sound =
    let s = x.fixed.settings in
    one_row (team_row s (length s.teams + 1) t) x (add x (NewTeam t)) (item_given 4 _ _ _ [] 0 _ false _)
    (behind (rows_from type_row 1 s.types) _ _ _ (behind (rows_from language_row 1 s.languages) _ _ _ (behind (rows_from group_row 1 s.groups) _ _ _ (behind (rows_from problem_row 1 s.problems) _ _ _ (last_grown (team_row s) s.teams t)))))
    (others_kept x _ (one_team s t) refl (writable x sound))
