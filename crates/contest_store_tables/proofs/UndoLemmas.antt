-- What a statement leaves that failed, and what BEGIN, COMMIT and ROLLBACK leave.
use Rattle.std.proofs.Common.{◌≡◌, ◌⊎◌, inl, inr, ℕ, ◌≤◌, List, [], length, slice_range, codes, Bool, true, false, Option, Some, None, Ok, Err, Result, IsTrue, sym, ap, subst, ◌∙◌, arith}
use Rattle.std.proofs.lemmas.Bool.{cases_Bool}
use Rattle.sqlite.specs.Order.{Row}
use Rattle.sqlite.specs.Tree.{Trees}
use Rattle.sqlite.specs.Schema.{Schema}
use Rattle.sqlite.specs.Command.{Command}
use Rattle.sqlite.specs.Command.TheVariants.{Rollback}
use Rattle.sqlite_resolve.specs.declared.compiled.Compiled.{Compiled}
use Rattle.sqlite.specs.declared.error.Error.{Error}
use Rattle.sqlite.specs.Listing.{understood}
use Rattle.sqlite.specs.Clock.{timed}
use Rattle.sqlite.specs.State.{State, IsNoStatement, IsNotRun, ExecutesIn, Executes, shows_rows, RunsAlone, MayCommit, text_of, IsUnchanged, IsRolledBack, CommitsBy, FailsToShow, FailsToQuery}
use Rattle.sqlite_schema.specs.declared.command.Returning.{Returning}
use Rattle.contest_store_tables.specs.Connected.{IsUndone}
use Rattle.contest_store_tables.proofs.OneWordTexts.{word, rollback_is}

not_run : (old new : State) (sql : List ℕ) (params : Row) (e : Error) → IsNotRun old new sql params e → IsUnchanged old new ⊎ IsRolledBack old new
unfolding IsNotRun
not_run old new sql params e (inl h) = inl h.1
not_run old new sql params e (inr h) = inr h.3

-- a statement that fails changes nothing, or the transaction is undone
pub failed : (sql : List ℕ) (params : Row) (old new : State) (e : Error) → Executes sql params old new (Err e) → IsUnchanged old new ⊎ IsRolledBack old new
unfolding ExecutesIn
failed sql params old new e (inl h) = not_run old new sql params e h
failed sql params old new e (inr h) = elim (cases_Bool (shows_rows false h.0)) [
  | inl shows ↦ inl (rw shows at h.2).1
  | inr runs ↦ elim (rw runs at h.2) [ inl refused ↦ inl refused.1 | inr fails ↦ inr fails.3 ]
]

undone_of : (old new : State) → IsRolledBack old new → IsUndone old new
undone_of old new h = record { was_open = h.was_open; undone = h.undone; autocommit = h.autocommit }

same_ok : {A E : Type 0} {a b : A} → ◌≡◌ {A = Result A E} (Ok a) (Ok b) → a ≡ b
same_ok e = cc

-- a text of one word, which each schema understands alike, is a statement
module _ (sql : List ℕ) (command : Command) (n : ℕ) (known : (s : Schema) → understood s sql ≡ Ok (word command n)) (short : length sql ≤ n) where
  it_is : (s : State) (c : Compiled) → understood s.now.schema sql ≡ Ok c → c ≡ word command n
  it_is s c is = same_ok (sym is ∙ known s.now.schema)

  is_statement : (s : State) (e : Error) → ¬ IsNoStatement s sql [] e
  is_statement s e (inl h) = absurd (let both = sym (known s.now.schema) ∙ h.1 in cc)
  is_statement s e (inr h) =
      let same = it_is s h.0 h.1 in elim h.2 [
        | inl long ↦ long.0 (subst (λ (c : Compiled). length sql ≤ c.tail) (sym same) short)
        | inr other ↦ elim other [
          | inl wrong ↦ wrong.0 (ap (λ (c : Compiled). length c.names) (sym same))
          | inr timed ↦ timed.0 (ap (λ (c : Compiled). c.formats) same)
        ]
      ]

  -- what such a statement does
  pub runs_word : (old new : State) (count : ℕ) → Executes sql [] old new (Ok count) → RunsAlone false old new sql (word command n) [] (Ok count)
  unfolding ExecutesIn
  runs_word old new count h =
      let same = it_is old h.0 h.1.is in
      subst (λ (c : Compiled). RunsAlone false old new sql c (timed [] c.formats h.1.now) (Ok count)) same h.2

  stops_word : (old new : State) (e : Error) → IsNotRun old new sql [] e → IsRolledBack old new
  unfolding IsNotRun
  stops_word old new e (inl h) = absurd (is_statement old e h.0)
  stops_word old new e (inr h) = h.3

  pub fails_word : (old new : State) (e : Error) → Executes sql [] old new (Err e) → IsRolledBack old new ⊎ RunsAlone false old new sql (word command n) [] (Err e)
  unfolding ExecutesIn
  fails_word old new e (inl h) = inl (stops_word old new e h)
  fails_word old new e (inr h) =
      let same = it_is old h.0 h.1.is in
      inr (subst (λ (c : Compiled). RunsAlone false old new sql c (timed [] c.formats h.1.now) (Err e)) same h.2)

  pub commits_word : (s : State) (db : Trees) → CommitsBy sql [] s db → MayCommit s None command (slice_range sql 0 n) [] db
  unfolding CommitsBy
  commits_word s db h =
      let same = it_is s h.0 h.1.is in
      subst (λ (c : Compiled). MayCommit s c.returning c.command (text_of sql c) (timed [] c.formats h.1.now) db) same h.2

abbrev rollback : List ℕ
rollback = codes "ROLLBACK"

true_false : (b : Bool) → IsTrue b → b ≡ false → ⊥
true_false true t f = cc
true_false false t f = cc

-- after ROLLBACK in a transaction nothing of it stands, whatever it answers
pub rolled_back : (old new : State) (r : Result ℕ Error) → IsTrue old.in_transaction → Executes rollback [] old new r → IsUndone old new
rolled_back old new (Ok count) inside h = undone_of old new (runs_word rollback Rollback 8 rollback_is (omega arith) old new count h).1
rolled_back old new (Err e) inside h = elim (fails_word rollback Rollback 8 rollback_is (omega arith) old new e h) [
  | inl undone ↦ undone_of old new undone
  | inr other ↦ elim other [
    | inl refused ↦ elim refused.0 [
      | inl misplaced ↦ elim misplaced [
        | inl mode ↦ elim mode.1 [ inl begin ↦ absurd (let x = begin.0 in cc) | inr outside ↦ absurd (true_false _ inside outside.1) ]
        | inr named ↦ elim named.2 [ inl release ↦ absurd (let x = release in cc) | inr to ↦ absurd (let x = to in cc) ]
      ]
      | inr write ↦ elim write.0 [ inl never ↦ absurd never | inr never ↦ absurd (let x = never in cc) ]
    ]
    | inr fails ↦ undone_of old new fails.3
  ]
]

-- and it commits nothing
pub rollback_keeps : (s : State) (db : Trees) → CommitsBy rollback [] s db → ⊥
rollback_keeps s db h = elim (commits_word rollback Rollback 8 rollback_is (omega arith) s db h) [
  | inl ends ↦ elim ends.0 [ inl commit ↦ (let x = commit in cc) | inr release ↦ (let x = release.2 in cc) ]
  | inr write ↦ (let x = write.3 in cc)
]

-- what failed, and was then rolled back where a transaction was still open
pub undone_after : (old mid new : State) → IsUnchanged old mid ⊎ IsRolledBack old mid → IsUndone mid new → IsUndone old new
undone_after old mid new (inl same) h = record {
  was_open = λ is. same.0.was_open;
  undone = λ is. ((h.undone is).0 ∙ same.0.committed_is, (h.undone is).1 ∙ same.0.committed_is);
  autocommit = h.autocommit;
}
undone_after old mid new (inr back) h = record {
  was_open = λ is. back.was_open (h.was_open is);
  undone = λ is. let b = (back.undone (h.was_open is)).1 in ((h.undone is).0 ∙ b, (h.undone is).1 ∙ b);
  autocommit = h.autocommit;
}

fails_to_show : (sql : List ℕ) (params : Row) (old new : State) (c : Compiled) (given : Row) (e : Error) (o : Option Returning) → FailsToShow old new sql c given e o → IsUnchanged old new ⊎ IsRolledBack old new
fails_to_show sql params old new c given e None h = inl h.3
fails_to_show sql params old new c given e (Some what) (inl refused) = inl refused.1
fails_to_show sql params old new c given e (Some what) (inr fails) = inr fails.3

pub query_failed : (sql : List ℕ) (params : Row) (old new : State) (e : Error) → FailsToQuery sql params old new e → IsUnchanged old new ⊎ IsRolledBack old new
unfolding FailsToQuery
query_failed sql params old new e (inl h) = not_run old new sql params e h
query_failed sql params old new e (inr h) = fails_to_show sql params old new h.0 _ e h.0.returning h.2
