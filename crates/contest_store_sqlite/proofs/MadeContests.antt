-- A contest that is made where no table stood, and committed.
use Rattle.std.proofs.Common.{◌≡◌, ◌∙◌, ◌∷◌, ◌⊎◌, inl, inr, false, [], List, Result, Ok, Err, IsTrue, ap, refl, subst, sym, arith}
use Rattle.sqlite.specs.Schema.{Schema}
use Rattle.sqlite.specs.State.{HasCleanDisk, State}
use Rattle.sqlite.proofs.StateLemmas.{survives_then, survives_weaker}
use Rattle.contest_types.specs.State.{ContestState, FixedPart}
use Rattle.contest_types.specs.declared.contest.ContestHead.{ContestHead}
use Rattle.contest_store.specs.declared.store_error.StoreError.{StoreError}
use Rattle.contest_store_reading.specs.Spelling.{without_rows}
use Rattle.contest_store_tables.specs.Connected.{IsAtRest, IsBare, IsCelless, IsLacking, IsOfDesk}
use Rattle.contest_store_tables.specs.Counts.{CountsCall}
use Rattle.contest_store_tables.specs.Steps.{Call, Content, Ended, HasFirst, Holds, MakesNone, MakesNow, OnlyMade, Showing, Undoes, Within}
use Rattle.contest_store_tables.specs.declared.counts.Counts.{Counts}
use Rattle.contest_store_tables.specs.declared.later_table.LaterTable.{LaterTable}
use Rattle.contest_store_tables.specs.declared.later_table.LaterTable.TheVariants.{Cells, Notices}
use Rattle.contest_store_tables.specs.declared.standing.Standing.{Standing}
use Rattle.contest_store_tables.specs.declared.standing.Standing.TheVariants as standings
use Rattle.contest_store_tables.proofs.HoldLemmas.{bare_holds, on_err}
use Rattle.contest_store_sqlite.proofs.CallLemmas.{any_err, any_ok}
use Rattle.contest_store_changes.specs.ContestTables.{table_rows}
use Rattle.contest_store_changes.specs.Sound.{IsSound}
use Rattle.contest_store_sqlite.specs.Creation.{HasContest, HoldsNone, IsMade, IsReadEqual, KeepsContest, KeepsLists, LeavesEither, LeavesWhole, MakesContest}
use Rattle.contest_store_sqlite.specs.Opening.{IsRead}
use Rattle.contest_store_sqlite.proofs.LeaveLemmas.{not_inside}
use Rattle.contest_store_sqlite.proofs.ShownContests.{shown_is}

pub none_holds : (s : State) (now kept : Content) → HoldsNone s now kept → Holds s now kept
none_holds s now kept h = h.0

pub has_none : (old mid : State) (now kept : Content) → HoldsNone old now kept → Within mid now kept → HasFirst 0 mid now kept
has_none old mid now kept h within = (within, h.1)

-- its tables were made, and then they are committed
module _ {T U : Type 0} (x : U) (r : Result T StoreError) (old mid new : State) (b m a : Counts) (y : ContestState)
    (one : Call (Ok x) old mid b m HoldsNone (HasContest y) (MakesNone old HoldsNone)) (two : Call r mid new m a Holds Ended (MakesNow mid Holds)) where
  early : HasCleanDisk new → HasCleanDisk mid
  early clean = omega (arith, two.step.survives.clean)

  starts : HasCleanDisk mid → (now kept : Content) → HoldsNone old now kept → Holds mid (Showing (table_rows y)) kept
  starts clean now kept from = (one.step.ok clean now kept from).0

  pub then_committed : Call r old new b a HoldsNone (KeepsContest y) (MakesContest y old)
  then_committed = record {
    step = record {
      ok = λ clean now kept from. two.step.ok clean (Showing (table_rows y)) kept (starts (early clean) now kept from);
      err = λ clean. on_err r (λ (u : Undoes mid new Holds). record {
        autocommit = u.autocommit;
        holds = λ is now kept from. u.holds is (Showing (table_rows y)) kept (starts (early clean) now kept from);
      }) (two.step.err clean);
      counts = subst (λ n. CountsCall r n a) one.step.counts two.step.counts;
      survives = survives_then old mid new _ _ _ (λ _ db none. (none.0, λ now kept from. absurd (none.1 now kept from)))
          (λ clean db made.
          let before : HasCleanDisk mid = omega (arith, clean, two.step.survives.clean) in
          (one.up before, λ now kept from. made.1 (Showing (table_rows y)) kept (starts before now kept from)))
          one.step.survives two.step.survives;
    };
    up = λ clean live. any_ok r (one.up (early clean) live);
    back = λ clean live. any_err r (λ _. one.up (early clean) live);
  }

-- where they weren't made
pub not_made : {T U : Type 0} (e : StoreError) (old new : State) (b a : Counts) (y : ContestState)
    → Call {T = U} (Err e) old new b a HoldsNone (HasContest y) (MakesNone old HoldsNone)
    → Call {T = T} (Err e) old new b a HoldsNone (KeepsContest y) (MakesContest y old)
not_made e old new b a y one = record {
  step = record {
    ok = λ _ _ _ _. tt;
    err = one.step.err;
    counts = one.step.counts;
    survives = survives_weaker old new _ _ (λ _ db none. (none.0, λ now kept from. absurd (none.1 now kept from))) one.step.survives;
  };
  up = λ _ _. tt;
  back = one.back;
}

-- what was made outside of a transaction
module _ (old new : State) (b a : Counts) (f value : FixedPart) (same : f ≡ value) (sound : IsSound (without_rows value)) (outside : old.in_transaction ≡ false)
    (rests : IsTrue old.is_open → IsAtRest old) (bare : IsBare old) where
  stood : IsTrue old.is_open → HoldsNone old (OnlyMade []) (OnlyMade [])
  stood up = (bare_holds old (rests up) bare, refl)

  -- of the shared part
  shared : {T : Type 0} (r : Result T StoreError) → Call r old new b a HoldsNone (KeepsContest (without_rows f)) (MakesContest (without_rows f) old)
      → Call r old new b a HoldsNone (KeepsContest (without_rows value)) (MakesContest (without_rows value) old)
  shared r = subst (λ g. Call r old new b a HoldsNone (KeepsContest (without_rows g)) (MakesContest (without_rows g) old)) same

  -- a crash leaves no other contest
  pub only_this : {T : Type 0} (r : Result T StoreError) → Call r old new b a HoldsNone (KeepsContest (without_rows f)) (MakesContest (without_rows f) old)
      → LeavesWhole (without_rows value) old new
  only_this r one = survives_weaker old new _ _ (λ _ db made. (
      let up = made.0 (not_inside old.in_transaction outside) in
      shown_is db (without_rows value) sound (made.1 (OnlyMade []) (OnlyMade []) (stood up))
      )) (shared r one).step.survives

  -- and the tables show it then
  pub is_made : {T : Type 0} (x : T) (lists : ContestState) → lists ≡ without_rows value
      → Call (Ok x) old new b a HoldsNone (KeepsContest (without_rows f)) (MakesContest (without_rows f) old)
      → HasCleanDisk new → IsMade (without_rows value) old new lists
  is_made x lists is one clean =
      let up = one.up clean (not_inside old.in_transaction outside) in
      record {
        bare = bare;
        held = is;
        holds = record { sound = sound; was_sound = sound; holds = (shared (Ok x) one).step.ok clean (OnlyMade []) (OnlyMade []) (stood up) };
      }

-- what leaves no other contest than this leaves it, or else the one whose lists stood
pub either_whole : (x : ContestState) (old new : State) → LeavesWhole x old new → LeavesEither x old new
either_whole x old new = survives_weaker old new _ _ (λ _ db whole. inl whole)

pub either_filled : (x : ContestState) (old new : State) → KeepsLists old new → LeavesEither x old new
either_filled x old new = survives_weaker old new _ _ (λ _ db filled. inr filled)

-- a contest that stood, whose lists have this head
pub is_equal : (old new : State) (head : ContestHead) (lists : ContestState) → ¬ IsBare old → IsRead old new lists → lists.fixed.settings.head ≡ head → KeepsLists old new
    → IsReadEqual head old new lists
is_equal old new head lists stood read same survives = record {
  stood = stood;
  read = read;
  equal = ap (λ (x : ContestState). x.fixed.settings.head) (sym read.held) ∙ same;
  survives = survives;
}

no_table : {T : Type 0} (one : T) (more : List T) → one ∷ more ≡ [] → ⊥
no_table one more is = cc

-- where the tables of a desk, all or some, or others stand there are some
pub not_bare : (s : State) (standing : Standing) → (standing ≡ standings.Desk → IsOfDesk s) → ((table : LaterTable) → standing ≡ standings.Lacking table → IsLacking table s)
    → (standing ≡ standings.Celless → (place : LaterTable) × IsCelless place s)
    → (standing ≡ standings.Foreign → (¬ IsOfDesk s) × ((table : LaterTable) → ¬ IsLacking table s) × ((place : LaterTable) → ¬ IsCelless place s) × (¬ IsBare s))
    → (standing ≡ standings.Desk) ⊎ (((table : LaterTable) × standing ≡ standings.Lacking table) ⊎ ((standing ≡ standings.Celless) ⊎ (standing ≡ standings.Foreign))) → ¬ IsBare s
not_bare s standing desk lacking celless foreign (inl is) bare = no_table _ _ (sym (ap (λ (x : Schema). x.tables) (desk is)) ∙ ap (λ (x : Schema). x.tables) bare)
not_bare s standing desk lacking celless foreign (inr (inl (Cells, is))) bare = no_table _ _ (sym (ap (λ (x : Schema). x.tables) (lacking Cells is)) ∙ ap (λ (x : Schema). x.tables) bare)
not_bare s standing desk lacking celless foreign (inr (inl (Notices, is))) bare = no_table _ _ (sym (ap (λ (x : Schema). x.tables) (lacking Notices is)) ∙ ap (λ (x : Schema). x.tables) bare)
not_bare s standing desk lacking celless foreign (inr (inr (inl is))) bare = no_table _ _ (sym (ap (λ (x : Schema). x.tables) (celless is).1) ∙ ap (λ (x : Schema). x.tables) bare)
not_bare s standing desk lacking celless foreign (inr (inr (inr is))) bare = (foreign is).3 bare
