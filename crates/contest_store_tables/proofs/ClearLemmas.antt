-- What a DELETE of all rows makes of the rows that the tables show.
use Rattle.std.proofs.Common.{◌≡◌, ◌≢◌, ◌∙◌, ℕ, true, false, cond, List, [], ◌∷◌, map, filter, rules, IsTrue, IsPermutation, inl, inr, None, Ok, refl, sym, ap, subst}
use Rattle.std.specs.List.{AllByRecursion}
use Rattle.std.proofs.lemmas.List.Sorted.{IsPermutation-map}
use Rattle.sqlite.specs.declared.types.Value.TheVariants.{Null}
use Rattle.sqlite.specs.Command.TheVariants.{Delete}
use Rattle.sqlite.specs.Does.{Tally, Does}
use Rattle.sqlite.specs.Edit.{edit_of, taken_by, without_all}
use Rattle.sqlite.specs.Effect.{Answers, Database}
use Rattle.sqlite.specs.Listing.{understood}
use Rattle.sqlite.specs.Order.{Row}
use Rattle.sqlite.specs.Program.{overlay}
use Rattle.sqlite.specs.Rowids.TheVariants.{Given}
use Rattle.sqlite.specs.Rows.{Written}
use Rattle.sqlite.specs.State.{State, mode_of, Executes, Shows, CommitsBy}
use Rattle.sqlite.specs.Table.{Table}
use Rattle.sqlite.specs.Term.{col, eval_all}
use Rattle.sqlite.specs.Tree.{Trees}
use Rattle.sqlite.proofs.Callers.{command_of, statement_of, runs_as, one_step}
use Rattle.sqlite_keyed.proofs.ListLemmas.{map-map}
use Rattle.sqlite_resolve.specs.declared.compiled.Compiled.{Compiled}
use Rattle.sqlite_rules.specs.Action.{works}
use Rattle.sqlite_rules.specs.Calls.{ids_of}
use Rattle.sqlite_rules.specs.Edit.{id_in}
use Rattle.sqlite_schema.specs.declared.program.Program.{Program}
use Rattle.sqlite_schema.specs.declared.schema.Keys.TheVariants.{Enforced}
use Rattle.sqlite_trees.specs.Tree.{rowid}
use Rattle.contest_store_tables.specs.Clearing.{all_query, Clears, HasCleared}
use Rattle.contest_store_tables.specs.Schema.{form_of, index_of, desk_schema}
use Rattle.contest_store_tables.specs.Steps.{Content, HasContent, Within, Full}
use Rattle.contest_store_tables.specs.Tables.{rows_in}
use Rattle.contest_store_tables.specs.declared.table_name.TableName.TheVariants.{Clarifications}
use Rattle.contest_store_tables.proofs.InsertLemmas.{went, same_value}
use Rattle.contest_store_tables.proofs.PlaceLemmas.{left_over}
use Rattle.contest_store_tables.proofs.PlainQueryLemmas.{plain_answer}
use Rattle.contest_store_tables.proofs.RowLemmas.{IsNumbered, one_changed, others_numbered}
use Rattle.contest_store_tables.proofs.StepLemmas.{full_schema}

abbrev table : Table
table = form_of Clarifications

abbrev at : ℕ
at = index_of Clarifications

abbrev query : Program
query = record { lets = []; body = all_query Clarifications }

keyless : (olds news : List Row) → works desk_schema Enforced 0 table.tree olds news ≡ []
keyless olds news = refl

over : (db : Trees) → overlay db [] table.tree ≡ db table.tree
over db = refl

none_left : (rows : List Row) → filter (λ _. false) rows ≡ []
none_left [] = refl
none_left (r ∷ rows) = none_left rows

all_chosen : (rows : List Row) → filter (λ _. true) rows ≡ rows
all_chosen [] = refl
all_chosen (r ∷ rows) = ap (λ l. r ∷ l) (all_chosen rows)

-- the rows whose numbers the query gives are gone
record Takes (old next : Database) : Type 0 where
  rows : List Row
  answer : Answers (record { schema = desk_schema; trees = old.trees }) query [] rows
  schema_is : next.schema ≡ desk_schema
  is : next.trees table.tree ≡ without_all (old.trees table.tree) (ids_of rows)
  others : AllByRecursion (λ t. t.tree ≢ table.tree → next.trees t.tree ≡ old.trees t.tree) desk_schema.tables

module _ (sql : List ℕ) (means : Clears Clarifications sql) (old : State) where
  takes : (next : State) (count : ℕ) → old.now.schema ≡ desk_schema → Executes sql [] old next (Ok count) → Takes old.now next.now
  takes next count has h =
      let command = Delete at query in
      let w = runs_as sql [] old next desk_schema has command means.is means.plain count h in
      let text = statement_of sql (understood desk_schema sql) in
      let done = went (subst (λ s. Does old.step_limit (mode_of old) [] (record old.now { schema = s }) text None command (Ok (w.tally, next.now))) has w.changed) in
      let now = ap (λ (p : Tally × Database). p.1) (same_value (went (went done.2).2).2) in
      let asked = went done.1 in
      let written = went asked.2 in
      let trees : done.0.trees ≡ written.0 = ap (λ (it : Written). it.trees) (same_value written.2) in
      let edit = edit_of old.now.trees table (ids_of asked.0) Given 0 [] in
      let step = one_step desk_schema Enforced old.now.trees written.0 edit (keyless (taken_by old.now.trees edit) edit.news) written.1 in
      record {
        rows = asked.0;
        answer = asked.1;
        schema_is = ap (λ (d : Database). d.schema) now;
        is = ap (λ (d : Database). d.trees table.tree) now ∙ ap (λ (t : Trees). t table.tree) trees ∙ step.rows;
        others = subst (λ (d : Database). AllByRecursion (λ t. t.tree ≢ table.tree → d.trees t.tree ≡ old.now.trees t.tree) desk_schema.tables) (sym now)
            (subst (λ ts. AllByRecursion (λ t. t.tree ≢ table.tree → ts t.tree ≡ old.now.trees t.tree) desk_schema.tables) (sym trees) step.tables);
      }

  -- inside a transaction it shows nothing to the last commit, and a crash cannot leave it
  clear_shows : (next : State) (count : ℕ) → old.now.schema ≡ desk_schema → IsTrue old.in_transaction → Executes sql [] old next (Ok count) → Shows old next next.now old.committed true
  clear_shows next count has inside h =
      let w = runs_as sql [] old next desk_schema has (Delete at query) means.is means.plain count h in
      let on : old.in_transaction ≡ true = search rules in
      subst (λ b. Shows old next next.now (cond b old.committed next.now) b) on w.shown

  command_is : (c : Compiled) → old.now.schema ≡ desk_schema → understood old.now.schema sql ≡ Ok c → c.command ≡ Delete at query
  command_is c has same = ap command_of (sym same ∙ ap (λ s. understood s sql) has) ∙ means.is

  clear_keeps : (db : Trees) → old.now.schema ≡ desk_schema → IsTrue old.in_transaction → CommitsBy sql [] old db → ⊥
  unfolding CommitsBy
  clear_keeps db has inside h = let same = command_is h.0 has h.1.is in elim h.2 [
    | inl ends ↦ elim ends.0 [ inl commit ↦ (let x = sym same ∙ commit in cc) | inr release ↦ (let x = sym same ∙ release.2 in cc) ]
    | inr write ↦ (let on : old.in_transaction ≡ true = search rules in let x = sym write.0 ∙ on in cc)
  ]

  pub cleared : (now kept : Content) (new : State) (count : ℕ) → Within old now kept → Executes sql [] old new (Ok count) → HasCleared Clarifications new now kept
  cleared now kept new count within ran rows is =
      let shows = subst (HasContent old.now) is within.0.shows in
      let tree = old.now.trees table.tree in
      let r = takes new count shows.0 ran in
      let shown = clear_shows new count shows.0 within.1 ran in
      let asked = plain_answer table.tree [] (col 1 0 ∷ []) [] old.now.trees r.rows (over old.now.trees) (r.answer.answer Null) in
      let gives : IsPermutation (map (λ r. eval_all (col 1 0 ∷ []) ([] ∷ r ∷ [])) tree) r.rows = subst (λ l. IsPermutation (map (λ r. eval_all (col 1 0 ∷ []) ([] ∷ r ∷ [])) l) r.rows) (all_chosen tree) asked in
      let leave : IsPermutation (map (λ r. id_in (rowid r)) (filter (λ _. true) tree)) (ids_of r.rows) =
      subst (λ l. IsPermutation l (ids_of r.rows)) (map-map (λ (r : Row). id_in (rowid r)) (λ r. eval_all (col 1 0 ∷ []) ([] ∷ r ∷ [])) tree ∙ ap (map (λ (r : Row). id_in (rowid r))) (sym (all_chosen tree)))
      (IsPermutation-map (λ (r : Row). id_in (rowid r)) _ _ gives) in
      let empty : new.now.trees table.tree ≡ [] = r.is ∙ left_over (λ _. true) tree (ids_of r.rows) (shows.2 Clarifications).0 (shows.2 Clarifications).1 leave ∙ none_left tree in
      let this : rows_in new.now.trees Clarifications ≡ [] = ap (λ l. rows_in (λ _. l) Clarifications) empty in
      let numbered : IsNumbered (new.now.trees table.tree) = subst IsNumbered (sym empty) (tt, tt) in (
        record {
          is_open = shown.is_open;
          shows = (r.schema_is, one_changed Clarifications [] old.now.trees new.now.trees rows shows.1 this r.others, others_numbered Clarifications old.now.trees new.now.trees shows.2 numbered r.others);
          keeps = subst (λ d. HasContent d kept) (sym shown.committed_is) within.0.keeps;
        },
        shown.mode,
      )

  pub clear_makes_none : (now kept : Content) (db : Trees) → Full old now kept → CommitsBy sql [] old db → ⊥
  clear_makes_none now kept db h may = clear_keeps db (full_schema old now kept h) h.0.1 may
