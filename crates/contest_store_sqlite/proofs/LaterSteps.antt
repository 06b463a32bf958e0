-- Steps after one that was answered.
use Rattle.std.proofs.Common.{◌≡◌, Result, Ok, Err, refl, subst, sym, arith}
use Rattle.sqlite.specs.State.{HasCleanDisk, State, Survives}
use Rattle.sqlite.proofs.StateLemmas.{survives_then}
use Rattle.contest_store.specs.declared.store_error.StoreError.{StoreError}
use Rattle.contest_store_tables.specs.Connected.{IsUndone}
use Rattle.contest_store_tables.specs.Counts.{counted, CountsCall}
use Rattle.contest_store_tables.specs.Steps.{Call, Content, Full, Holding, MakesNone, Showing, Step, Within}
use Rattle.contest_store_tables.specs.Tables.{TableRows}
use Rattle.contest_store_tables.specs.declared.counts.Counts.{Counts}
use Rattle.contest_store_tables.proofs.StepLemmas.{given_up, in_turn, refuses}

-- a step over the tables of a desk
abbrev pub Reads : {T : Type 0} → Result T StoreError → (old new : State) (b a : Counts) → Type 0
Reads r old new b a = Step r old new b a Full Full (MakesNone old Full)

-- what it leaves as it was
pub still_within : {T : Type 0} (x : T) (old new : State) (b a : Counts) (now : TableRows) (kept : Content) → Reads (Ok x) old new b a → HasCleanDisk new
    → Within old (Showing now) kept → Within new (Showing now) kept
still_within x old new b a now kept s clean within = (s.ok clean (Showing now) kept (within, (now, refl))).0

-- one such step, and then another
pub full_then : {T U : Type 0} (x : U) (r : Result T StoreError) (old mid new : State) (b m a : Counts) → Reads (Ok x) old mid b m → Reads r mid new m a → Reads r old new b a
full_then x r old mid new b m a one two =
    in_turn x r old mid new b m a Full Full Full Full Full (MakesNone old Full) (MakesNone mid Full) one two (λ now kept from full. (now, full, λ to. to))
    (λ db on none now kept from. none now kept (on now kept from)) (λ db none. none)

-- nothing is said of what an error leaves
abbrev NoOther : Holding
NoOther s now kept = ⊥

module _ {T U : Type 0} (x : U) (e given : StoreError) (old mid new : State) (b m a : Counts) (From Mid To : Holding)
    (leads : (now kept : Content) → From old now kept → Mid mid now kept → (between : Content) × Within mid between kept)
    (one : Step (Ok x) old mid b m From Mid (MakesNone old From)) where
  -- what is given up after a step
  pub given_up_then : e ≡ given → (HasCleanDisk new → IsUndone mid new) → a ≡ counted given m → Survives mid new (λ _. ⊥)
      → Step {T = T} (Err e) old new b a From To (MakesNone old From)
  given_up_then same undone counts survives =
      let told = subst (λ (g : StoreError). a ≡ counted g m) (sym same) counts in
      let two = refuses e mid new m a Within Within NoOther (λ _. ⊥) (given_up {T = T} e mid new m a undone told survives) in
      in_turn x (Err e) old mid new b m a From Mid Within NoOther To (MakesNone old From) (λ _. ⊥) one two
      (λ now kept from held. (let on = leads now kept from held in (on.0, on.1, λ none. absurd none))) (λ db on none. absurd none) (λ db none. none)

early : (mid new : State) → Survives mid new (λ _. ⊥) → HasCleanDisk new → HasCleanDisk mid
early mid new survives clean = omega (arith, survives.clean)

-- what is given up after a call that began a transaction
module _ {T U : Type 0} (x : U) (e given : StoreError) (old mid new : State) (b m a : Counts) (From Mid To : Holding)
    (leads : (now kept : Content) → From old now kept → Mid mid now kept → (between : Content) × Within mid between kept)
    (one : Call (Ok x) old mid b m From Mid (MakesNone old From)) where
  pub call_given_up : e ≡ given → (HasCleanDisk new → IsUndone mid new) → a ≡ counted given m → Survives mid new (λ _. ⊥)
      → Call {T = T} (Err e) old new b a From To (MakesNone old From)
  call_given_up same undone counts survives =
      let told = subst (λ (g : StoreError). a ≡ counted g m) (sym same) counts in
      let two = given_up {T = T} e mid new m a undone told survives in
      record {
        step = record {
          ok = λ _ _ _ _. tt;
          err = λ clean. (let u = two.err clean in record {
            autocommit = u.autocommit;
            holds = λ is now kept from.
                (let on = leads now kept from (one.step.ok (early mid new survives clean) now kept from) in u.holds is on.0 kept on.1);
          });
          counts = subst (λ n. CountsCall {T = T} (Err e) n a) one.step.counts two.counts;
          survives = survives_then old mid new _ (λ _. ⊥) _ (λ _ db made. made) (λ clean db none. absurd none) one.step.survives two.survives;
        };
        up = λ _ _. tt;
        back = λ clean live is. one.up (early mid new survives clean) live;
      }
