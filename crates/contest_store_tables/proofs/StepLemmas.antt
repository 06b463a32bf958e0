-- Steps of the connection, one after the other.
use Rattle.std.proofs.Common.{◌≡◌, ℕ, List, Result, Ok, Err, IsTrue, IfOk, OnOk, OnErr, refl, inl, subst, arith, sym}
use Rattle.sqlite.specs.Tree.{Trees}
use Rattle.sqlite.specs.Order.{Row}
use Rattle.sqlite.specs.Schema.{Schema}
use Rattle.sqlite.specs.Listing.{understood}
use Rattle.sqlite.specs.State.{State, HasCleanDisk, Survives, Shown, CommitsShowing}
use Rattle.sqlite.proofs.Callers.{IsPlain, never_commits}
use Rattle.sqlite.proofs.StateLemmas.{survives_then, survives_weaker}
use Rattle.contest_store.specs.declared.store_error.StoreError.{StoreError}
use Rattle.contest_store_tables.specs.Counts.{counted, CountsCall}
use Rattle.contest_store_tables.specs.declared.counts.Counts.{Counts}
use Rattle.contest_store_tables.specs.declared.later_table.LaterTable.{LaterTable}
use Rattle.contest_store_tables.specs.Connected.{IsUndone}
use Rattle.contest_store_tables.specs.Celless.{FullCelless}
use Rattle.contest_store_tables.specs.Schema.{celless_schema, desk_schema}
use Rattle.contest_store_tables.specs.Steps.{Content, HasContent, Holds, Holding, Within, Full, IsLive, Undoes, Step, Call, MakesNone}
use Rattle.contest_store_tables.proofs.HoldLemmas.{on_ok, on_err, undone_holds, shown_within}

undoes : (old new : State) (From : Holding) → ((now kept : Content) → From old now kept → Holds old now kept) → IsUndone old new → Undoes old new From
undoes old new From f u = record { autocommit = u.autocommit; holds = λ is now kept from. undone_holds old new now kept (f now kept from) is u }

ok_of : {T E Q : Type 0} {P : T → Type 0} (r : Result T E) → IfOk r P → ((x : T) → P x → Q) → OnOk r Q
ok_of (Ok x) h f = f x h
ok_of (Err e) h f = tt

-- one statement
pub ran : {T : Type 0} (r : Result T StoreError) (old new : State) (b a : Counts) (From To : Holding) (P Made : Trees → Type 0) → ((now kept : Content) → From old now kept → Holds old now kept)
    → (HasCleanDisk new → OnErr r (IsUndone old new)) → CountsCall r b a → Survives old new P
    → (HasCleanDisk new → (now kept : Content) → From old now kept → OnOk r (To new now kept)) → ((db : Trees) → P db → Made db) → Step r old new b a From To Made
ran r old new b a From To P Made f err counts survives ok made = record {
  ok = ok;
  err = λ clean. on_err r (undoes old new From f) (err clean);
  counts = counts;
  survives = survives_weaker old new P Made (λ _ db. made db) survives;
}

-- one query over the tables of a desk
plain_at : (sql : List ℕ) (s : State) (schema : Schema) → s.now.schema ≡ schema → IsPlain (understood schema sql) → IsPlain (understood s.now.schema sql)
plain_at sql s schema has plain = subst (λ t. IsPlain (understood t sql)) (sym has) plain

pub full_schema : (s : State) (now kept : Content) → Full s now kept → s.now.schema ≡ desk_schema
full_schema s now kept h = (subst (HasContent s.now) h.1.1 h.0.0.shows).0

pub queried : {T : Type 0} (r : Result T StoreError) (rows : T → List Row) (sql : List ℕ) (params : Row) (old new : State) (b a : Counts) → IsPlain (understood desk_schema sql)
    → (HasCleanDisk new → IfOk r (λ x. Shown sql params old new (rows x))) → (HasCleanDisk new → OnErr r (IsUndone old new)) → CountsCall r b a → Survives old new (CommitsShowing sql params old)
    → Step r old new b a Full Full (MakesNone old Full)
queried r rows sql params old new b a plain shown err counts survives = ran r old new b a Full Full (CommitsShowing sql params old) (MakesNone old Full) (λ now kept h. h.0.0) err counts survives
    (λ clean now kept h. ok_of r (shown clean) (λ x s. (shown_within sql params old new now kept (rows x) h.0 (plain_at sql old desk_schema (full_schema old now kept h) plain) s, h.1)))
    (λ db may now kept h. never_commits sql params old db (plain_at sql old desk_schema (full_schema old now kept h) plain) may)

-- the same where the table of the cells was taken out
pub celless_full : (s : State) (now kept : Content) → FullCelless s now kept → (place : LaterTable) × (s.now.schema ≡ celless_schema place)
celless_full s now kept h = let was = subst (HasContent s.now) h.1.1 h.0.0.shows in (was.0, was.1)

celless_plain : (sql : List ℕ) (s : State) (now kept : Content) → FullCelless s now kept → ((place : LaterTable) → IsPlain (understood (celless_schema place) sql)) → IsPlain (understood s.now.schema sql)
celless_plain sql s now kept h plain = let is = celless_full s now kept h in plain_at sql s (celless_schema is.0) is.1 (plain is.0)

pub queried_celless : {T : Type 0} (r : Result T StoreError) (rows : T → List Row) (sql : List ℕ) (params : Row) (old new : State) (b a : Counts) → ((place : LaterTable) → IsPlain (understood (celless_schema place) sql))
    → (HasCleanDisk new → IfOk r (λ x. Shown sql params old new (rows x))) → (HasCleanDisk new → OnErr r (IsUndone old new)) → CountsCall r b a → Survives old new (CommitsShowing sql params old)
    → Step r old new b a FullCelless FullCelless (MakesNone old FullCelless)
queried_celless r rows sql params old new b a plain shown err counts survives = ran r old new b a FullCelless FullCelless (CommitsShowing sql params old) (MakesNone old FullCelless) (λ now kept h. h.0.0) err counts survives
    (λ clean now kept h. ok_of r (shown clean) (λ x s. (shown_within sql params old new now kept (rows x) h.0 (celless_plain sql old now kept h plain) s, h.1)))
    (λ db may now kept h. never_commits sql params old db (celless_plain sql old now kept h plain) may)

-- what was given up after steps that were answered
pub given_up : {T : Type 0} (e : StoreError) (old new : State) (b a : Counts) → (HasCleanDisk new → IsUndone old new) → a ≡ counted e b → Survives old new (λ _. ⊥) → Step {T = T} (Err e) old new b a Within Within (λ _. ⊥)
given_up e old new b a undone counts survives = ran (Err e) old new b a Within Within (λ _. ⊥) (λ _. ⊥) (λ now kept h. h.0) undone counts survives (λ _ _ _ _. tt) (λ db none. none)

-- a step, and then another that starts from what the first leaves
module _ {T U : Type 0} (x : U) (r : Result T StoreError) (old mid new : State) (b m a : Counts) (From Mid Next To2 To : Holding) (Made Made2 : Trees → Type 0)
    (one : Step (Ok x) old mid b m From Mid (MakesNone old From)) (two : Step r mid new m a Next To2 Made2)
    (leads : (now kept : Content) → From old now kept → Mid mid now kept → (between : Content) × Next mid between kept × (To2 new between kept → To new now kept))
    (made : (db : Trees) → ((now kept : Content) → From old now kept → Mid mid now kept) → Made2 db → Made db) where
  early : HasCleanDisk new → HasCleanDisk mid
  early clean = omega (arith, two.survives.clean)

  pub in_turn : ((db : Trees) → MakesNone old From db → Made db) → Step r old new b a From To Made
  in_turn none = record {
    ok = λ clean now kept from. (let on = leads now kept from (one.ok (early clean) now kept from) in on_ok r on.2 (two.ok clean on.0 kept on.1));
    err = λ clean. on_err r (λ (u : Undoes mid new Next). record { autocommit = u.autocommit; holds = λ is now kept from. (let on = leads now kept from (one.ok (early clean) now kept from) in u.holds is on.0 kept on.1) }) (two.err clean);
    counts = subst (λ n. CountsCall r n a) one.counts two.counts;
    survives = survives_then old mid new _ Made2 Made (λ _ db h. none db h)
        (λ clean db h. made db (λ now kept from. one.ok (omega (arith, clean, two.survives.clean)) now kept from) h) one.survives two.survives;
  }

-- nothing was done yet
pub no_step : {T : Type 0} (x : T) (s : State) (b : Counts) (From To : Holding) (Made : Trees → Type 0) → ((now kept : Content) → From s now kept → To s now kept) → Step (Ok x) s s b b From To Made
no_step x s b From To Made f = record {
  ok = λ clean now kept from. f now kept from;
  err = λ clean. tt;
  counts = refl;
  survives = record { clean = omega arith; shield = λ h. h; counts = omega arith; limit = refl; closes = λ clean is. inl is; crash = λ clean db may. inl may };
}

-- what holds after it, said otherwise
pub leaves : {T : Type 0} (r : Result T StoreError) (old new : State) (b a : Counts) (From To To2 : Holding) (Made : Trees → Type 0) → ((now kept : Content) → To new now kept → To2 new now kept)
    → Step r old new b a From To Made → Step r old new b a From To2 Made
leaves r old new b a From To To2 Made f s = record { ok = λ clean now kept from. on_ok r (f now kept) (s.ok clean now kept from); err = s.err; counts = s.counts; survives = s.survives }

pub beginning : {T : Type 0} (r : Result T StoreError) (old new : State) (b a : Counts) → Step r old new b a Holds Within (λ _. ⊥) → (HasCleanDisk new → IsLive old → OnOk r (IsTrue old.is_open)) → (HasCleanDisk new → OnErr r (IsUndone old new))
    → Call r old new b a Holds Within (λ _. ⊥)
beginning r old new b a s up undone = record {
  step = record { ok = s.ok; err = s.err; counts = s.counts; survives = survives_weaker old new _ _ (λ _ db none. absurd none) s.survives };
  up = up;
  back = λ clean _. on_err r (λ (u : IsUndone old new). u.was_open) (undone clean);
}

-- a refusal is one whatever would have been answered
pub refuses : {T U : Type 0} (e : StoreError) (old new : State) (b a : Counts) (From To To2 : Holding) (Made : Trees → Type 0) → Step {T = T} (Err e) old new b a From To Made → Step {T = U} (Err e) old new b a From To2 Made
refuses e old new b a From To To2 Made s = record { ok = λ _ _ _ _. tt; err = s.err; counts = s.counts; survives = s.survives }

-- another answer of the same kind
pub answers : {T U : Type 0} (x : T) (y : U) (old new : State) (b a : Counts) (From To : Holding) (Made : Trees → Type 0) → Step (Ok x) old new b a From To Made → Step (Ok y) old new b a From To Made
answers x y old new b a From To Made s = record { ok = s.ok; err = λ _. tt; counts = s.counts; survives = s.survives }

any_ok : {T E P : Type 0} (r : Result T E) → P → OnOk r P
any_ok (Ok x) p = p
any_ok (Err e) p = tt

any_err : {T E P : Type 0} (r : Result T E) → P → OnErr r P
any_err (Ok x) p = tt
any_err (Err e) p = p

-- a transaction that was begun, and then a step
pub then : {T U : Type 0} (x : U) (r : Result T StoreError) (old mid new : State) (b m a : Counts) (To : Holding) (Made Made2 : Trees → Type 0) → Call (Ok x) old mid b m Holds Within (λ _. ⊥) → Step r mid new m a Within To Made2
    → ((db : Trees) → ((now kept : Content) → Holds old now kept → Within mid now kept) → Made2 db → Made db) → Call r old new b a Holds To Made
then x r old mid new b m a To Made Made2 one two made = record {
  step = record {
    ok = λ clean now kept from. two.ok clean now kept (one.step.ok (omega (arith, two.survives.clean)) now kept from);
    err = λ clean. on_err r (λ (u : Undoes mid new Within). record { autocommit = u.autocommit; holds = λ is now kept from. u.holds is now kept (one.step.ok (omega (arith, two.survives.clean)) now kept from) }) (two.err clean);
    counts = subst (λ n. CountsCall r n a) one.step.counts two.counts;
    survives = survives_then old mid new _ Made2 _ (λ _ db none. absurd none.1) (λ clean db h.
        let early : HasCleanDisk mid = omega (arith, clean, two.survives.clean) in (one.up early, made db (λ now kept. one.step.ok early now kept) h)) one.step.survives two.survives;
  };
  up = λ clean live. any_ok r (one.up (omega (arith, two.survives.clean)) live);
  back = λ clean live. any_err r (λ _. one.up (omega (arith, two.survives.clean)) live);
}

-- where none was begun
pub stop : {T U : Type 0} (e : StoreError) (old new : State) (b a : Counts) (To : Holding) (Made : Trees → Type 0) → Call {T = U} (Err e) old new b a Holds Within (λ _. ⊥) → Call {T = T} (Err e) old new b a Holds To Made
stop e old new b a To Made one = record {
  step = record { ok = λ _ _ _ _. tt; err = one.step.err; counts = one.step.counts; survives = survives_weaker old new _ _ (λ _ db none. absurd none.1) one.step.survives };
  up = λ _ _. tt;
  back = one.back;
}
