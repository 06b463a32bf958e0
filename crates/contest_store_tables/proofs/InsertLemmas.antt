-- What an INSERT of one row does to its table, whichever table it is.
use Rattle.std.proofs.Common.{◌≡◌, ◌≢◌, ◌⊎◌, ◌/◌, inl, inr, ℕ, ℤ, List, [], ◌∷◌, ◌++◌, length, slice_get, Bool, true, false, not, cond, MatchBool, Some, None, Ok, Err, Result, refl, sym, ap, subst, ◌∙◌, Ordering, Less, Equal, Greater, IsPermutation, IsTrue, rules, is_eq, ◌&&◌, ◌||◌}
use Rattle.std.specs.List.{AllByRecursion}
use Rattle.std.proofs.lemmas.List.Sorted.{IsPermutation-refl, IsPermutation-cons, IsPermutation-trans, IsPermutation-middle, IsPermutation-sym}
use Rattle.sqlite.specs.Order.{Row}
use Rattle.sqlite_value.specs.Order.{value_cmp}
use Rattle.sqlite.specs.Term.{Term, Env, eval_all}
use Rattle.sqlite.specs.Table.{Table}
use Rattle.sqlite.specs.Schema.{Schema}
use Rattle.sqlite.specs.Source.{Source}
use Rattle.sqlite.specs.Source.TheVariants.{Values}
use Rattle.sqlite_resolve.specs.declared.compiled.Compiled.{Compiled}
use Rattle.sqlite.specs.Command.TheVariants.{Insert}
use Rattle.sqlite_schema.specs.declared.schema.Keys.TheVariants.{Enforced}
use Rattle.sqlite_trees.specs.Tree.{Trees, rowid, put_row}
use Rattle.sqlite.specs.Edit.{edit_of, put_all, taken_by, is_taken, are_fresh, have_rowids}
use Rattle.sqlite_trees.specs.View.{is_int}
use Rattle.sqlite_rules.specs.Edit.{with_rowid}
use Rattle.sqlite_rules.specs.Action.{works}
use Rattle.sqlite_rules.specs.Action as rules
use Rattle.sqlite_rules.specs.Cast.{cast_row}
use Rattle.sqlite.specs.Rowids.TheVariants.{Chosen, Above}
use Rattle.sqlite.specs.Does.{Tally, Does}
use Rattle.sqlite.specs.Rows.{Written, rowids_for, count_of}
use Rattle.sqlite.specs.Listing.{understood}
use Rattle.sqlite.specs.Effect.{Database, value_rows}
use Rattle.sqlite.specs.State.{State, mode_of, Executes, Shows, CommitsBy}
use Rattle.sqlite.proofs.Callers.{IsPlain, command_of, statement_of, runs_as, one_step}

pub put_permutes : (new : Row) (rows : List Row) → is_taken rows new ≡ false → IsPermutation (new ∷ rows) (put_row new rows)
put_permutes new [] free = IsPermutation-refl _
put_permutes new (r ∷ rs) free = go (value_cmp (rowid r) (rowid new)) refl free (put_permutes new rs)
  where
    go : (o : Ordering) → value_cmp (rowid r) (rowid new) ≡ o → (is_eq (value_cmp (rowid r) (rowid new)) || is_taken rs new) ≡ false → (is_taken rs new ≡ false → IsPermutation (new ∷ rs) (put_row new rs))
        → IsPermutation (new ∷ r ∷ rs) (put_row new (r ∷ rs))
    go Less e f more = rw e (IsPermutation-trans _ _ _ (IsPermutation-sym _ _ (IsPermutation-middle (r ∷ []) new rs)) (IsPermutation-cons r _ _ (more (rw e at f))))
    go Equal e f more = absurd (let t = rw e at f in cc)
    go Greater e f more = rw e (IsPermutation-refl _)

-- the row is put into its table, whose rowid no other row had, and the other tables stay
pub record Puts (schema : Schema) (table : Table) (new : Row) (old next : Database) : Type 0 where
  pub schema_is : next.schema ≡ schema
  pub rows : next.trees table.tree ≡ put_row new (old.trees table.tree)
  pub free : is_taken (old.trees table.tree) new ≡ false
  pub keyed : IsTrue (is_int (rowid new))
  pub others : AllByRecursion (λ t. t.tree ≢ table.tree → next.trees t.tree ≡ old.trees t.tree) schema.tables

-- a part that gave a value did not stop on the way
pub went : {B E R : Type 0} {b : B} {Stops : E → Type 0} → ((stop : E) × Stops stop × (Ok b ≡ Err stop)) ⊎ R → R
went (inl stopped) = absurd (let e = stopped.2 in cc)
went (inr on) = on

pub same_value : {B E : Type 0} {a b : B} → ◌≡◌ {A = Result B E} (Ok a) (Ok b) → a ≡ b
same_value e = cc

not_counted : (b c : Bool) (P Q : Type 0) → b ≡ false → MatchBool (cond b c false) P Q → Q
not_counted true c P Q e h = absurd (cc)
not_counted false c P Q e h = h

chosen : (table : Table) (top : ℤ) → table.is_counted ≡ false → rowids_for table top ≡ Chosen
chosen table top e = ap (λ b. cond b (Above top) Chosen) e

not_taken : (b : Bool) → (not b && true) ≡ true → b ≡ false
not_taken true h = cc
not_taken false h = refl

is_keyed : (r : Row) → have_rowids (r ∷ []) ≡ true → IsTrue (is_int (rowid r))
is_keyed r h = search rules

-- an INSERT of one row of values, into a table with no AUTOINCREMENT, no default that reads the time and no foreign key about
module _ (sql : List ℕ) (params : Row) (schema : Schema) (at : ℕ) (table : Table) (terms : List Term) (width : ℕ) (source : Row)
    (is : command_of (understood schema sql) ≡ Insert at (Values terms width)) (plain : IsPlain (understood schema sql))
    (found : slice_get schema.tables at ≡ Some table) (uncounted : table.is_counted ≡ false)
    (keyless : (olds news : List Row) → works schema Enforced 0 table.tree olds news ≡ [])
    (values : value_rows (params ++ []) width (length terms / width) terms ≡ source ∷ [])
    (stamps : (ps : Env) → eval_all table.stamps.terms ps ≡ []) where
  abbrev new : List Row → Row
  new rows = with_rowid Chosen rows (cast_row table source)

  pub inserts : (old next : State) (count : ℕ) → old.now.schema ≡ schema → Executes sql params old next (Ok count) → Puts schema table (new (old.now.trees table.tree)) old.now next.now
  inserts old next count has h =
      let command = Insert at (Values terms width) in
      let w = runs_as sql params old next schema has command is plain count h in
      let text = statement_of sql (understood schema sql) in
      let done = went (rw (found) at (subst (λ s. Does old.step_limit (mode_of old) params (record old.now { schema = s }) text None command (Ok (w.tally, next.now))) has w.changed)) in
      let now = ap (λ (p : Tally × Database). p.1) (same_value (went (went done.2).2).2) in
      let given = went done.1 in
      let counter = went given.2 in
      let written = went counter.2 in
      let counted = went written.2 in
      let trees : done.0.trees ≡ written.0 = ap (λ (it : Written). it.trees) (same_value counted.2) ∙ same_value (not_counted table.is_counted _ _ _ uncounted counted.1) in
      let write : rules.Writes schema Enforced old.now.trees (edit_of old.now.trees table [] Chosen 0 given.0) (Ok written.0) =
      subst (λ how. rules.Writes schema Enforced old.now.trees (edit_of old.now.trees table [] how 0 given.0) (Ok written.0)) (chosen table (count_of counter.0) uncounted) written.1 in
      let edit = edit_of old.now.trees table [] Chosen 0 given.0 in
      let step = one_step schema Enforced old.now.trees written.0 edit (keyless (taken_by old.now.trees edit) edit.news) write in
      let source_is : given.0 ≡ source ∷ [] = given.1.1 ∙ (ap (λ ps. value_rows (params ++ ps) width (length terms / width) terms) (stamps _) ∙ values) in
      let news : edit.news ≡ new (old.now.trees table.tree) ∷ [] = ap (λ rows. (edit_of old.now.trees table [] Chosen 0 rows).news) source_is in
      record {
        schema_is = ap (λ (d : Database). d.schema) now;
        rows = ap (λ (d : Database). d.trees table.tree) now ∙ ap (λ (t : Trees). t table.tree) trees ∙ step.rows ∙ ap (λ rs. put_all (old.now.trees table.tree) rs) news;
        keyed = is_keyed (new (old.now.trees table.tree)) (subst (λ rs. have_rowids rs ≡ true) news step.keyed);
        free = not_taken _ (subst (λ rs. are_fresh (old.now.trees table.tree) rs ≡ true) news step.fresh);
        others = subst (λ (d : Database). AllByRecursion (λ t. t.tree ≢ table.tree → d.trees t.tree ≡ old.now.trees t.tree) schema.tables) (sym now)
            (subst (λ ts. AllByRecursion (λ t. t.tree ≢ table.tree → ts t.tree ≡ old.now.trees t.tree) schema.tables) (sym trees) step.tables);
      }

-- inside a transaction an INSERT shows nothing to the last commit, and a crash cannot leave it
module _ (sql : List ℕ) (params : Row) (schema : Schema) (at : ℕ) (from : Source) (is : command_of (understood schema sql) ≡ Insert at from) (plain : IsPlain (understood schema sql)) (old next : State)
    (has : old.now.schema ≡ schema) (inside : IsTrue old.in_transaction) where
  pub insert_shows : (count : ℕ) → Executes sql params old next (Ok count) → Shows old next next.now old.committed true
  insert_shows count h =
      let w = runs_as sql params old next schema has (Insert at from) is plain count h in
      let on : old.in_transaction ≡ true = search rules in
      subst (λ b. Shows old next next.now (cond b old.committed next.now) b) on w.shown

  command_is : (c : Compiled) → understood old.now.schema sql ≡ Ok c → c.command ≡ Insert at from
  command_is c same = ap command_of (sym same ∙ ap (λ s. understood s sql) has) ∙ is

  pub insert_keeps : (db : Trees) → CommitsBy sql params old db → ⊥
  unfolding CommitsBy
  insert_keeps db h = let same = command_is h.0 h.1.is in elim h.2 [
    | inl ends ↦ elim ends.0 [ inl commit ↦ (let x = sym same ∙ commit in cc) | inr release ↦ (let x = sym same ∙ release.2 in cc) ]
    | inr write ↦ (let on : old.in_transaction ≡ true = search rules in let x = sym write.0 ∙ on in cc)
  ]
