-- What is made where a store is created, and what is found there.
use Rattle.std.specs.Prelude.{◌≡◌, ◌≢◌, ◌⊎◌, false, [], IfSome, Some}
use Rattle.sqlite.specs.State.{State, Survives}
use Rattle.sqlite.specs.Tree.{Trees}
use Rattle.contest_types.specs.SetupAdditions.{IsNew}
use Rattle.contest_types.specs.State.{ContestState, FixedPart, new_contest}
use Rattle.contest_types.specs.declared.contest.Contest.{Contest}
use Rattle.contest_types.specs.declared.contest.ContestHead.{ContestHead}
use Rattle.contest_types.specs.declared.refusal.Refusal.{Refusal}
use Rattle.contest_types.specs.declared.refusal.Refusal.TheVariants as refusal
use Rattle.contest_store.specs.Keeping.{Kept, LeavesOr, Shows}
use Rattle.contest_lists.specs.Lists.{loaded}
use Rattle.contest_store.specs.StoreErrors.{refusal_of}
use Rattle.contest_store.specs.declared.store_error.StoreError.{StoreError}
use Rattle.contest_store_reading.specs.Laws.{IsWritableItem}
use Rattle.contest_store_tables.specs.Connected.{IsBare}
use Rattle.contest_store_tables.specs.Steps.{Content, Holding, Holds, OnlyMade, Showing, Within}
use Rattle.contest_store_tables.specs.Tables.{rows_in}
use Rattle.contest_store_changes.specs.ContestTables.{table_rows}
use Rattle.contest_store_changes.specs.Kinds.{IsMoment}
use Rattle.contest_store_sqlite.specs.Contests.{contest_in_trees, HoldsContests, may_leave_of}
use Rattle.contest_store_sqlite.specs.Opening.{FindsContest, IsRead, Opened}
use Rattle.contest_store_sqlite.specs.declared.open_error.OpenError.{OpenError}
use Rattle.contest_store_sqlite.specs.declared.open_error.OpenError.TheVariants as open_error

-- a store shows the contest that was given, as it was committed, and a crash leaves what it could leave before or that
-- contest, whole
pub record Created (c : Contest) (s : State) (kept : Kept) : Type 0 where
  pub shows : Shows kept (new_contest c) (new_contest c)
  pub crash : LeavesOr (may_leave_of s) kept.may_leave (new_contest c)

-- a store shows the valid contest that stood, whose head is the one that was given
pub record StoodEqual (c : Contest) (s : State) (kept : Kept) : Type 0 where
  pub opened : Opened s kept
  pub equal : opened.contest.fixed.settings.head ≡ c.head

-- trees show the valid contest whose lists stood, with its cells
abbrev pub IsFilled : State → Trees → Type 0
IsFilled s db = (x : ContestState) × FindsContest s x × (contest_in_trees db ≡ Some x)

-- the lists of a valid contest stood with another head, and no transaction is left
pub record StoodOther (head : ContestHead) (s after : State) : Type 0 where
  pub contest : ContestState
  pub found : FindsContest s contest
  pub other : contest.fixed.settings.head ≢ head
  pub autocommit : after.in_transaction ≡ false

-- a crash leaves what it could leave before, or the contest whose lists stood, with its cells: nothing else is committed
abbrev pub KeepsLists : (old new : State) → Type 0
KeepsLists old new = Survives old new (IsFilled old)

-- a crash leaves what it could leave before, or this contest, whole
abbrev pub LeavesWhole : ContestState → (old new : State) → Type 0
LeavesWhole x old new = Survives old new (λ db. contest_in_trees db ≡ Some x)

-- or else the one whose lists stood, with its cells
abbrev pub LeavesEither : ContestState → (old new : State) → Type 0
LeavesEither x old new = Survives old new (λ db. (contest_in_trees db ≡ Some x) ⊎ IsFilled old db)

-- the texts and the start of a contest are of their kinds
pub record IsOfKindsContest (c : Contest) : Type 0 where
  pub head : IsWritableItem c.head.id c.head.name
  pub start : IfSome c.start IsMoment

-- but for a head and marks nothing is set up
pub record HasHeadAlone (f : FixedPart) : Type 0 where
  pub settings : IsNew f.settings.head f.settings
  pub accounts : f.accounts ≡ []

-- no table stands
abbrev pub HoldsNone : Holding
HoldsNone s now kept = Holds s now kept × (now ≡ OnlyMade [])

-- within a transaction the tables of a desk stand, and have no row
abbrev pub HasNoRow : Holding
HasNoRow s now kept = Within s now kept × (now ≡ Showing (λ _. []))

-- within a transaction the tables show this contest
abbrev pub HasContest : ContestState → Holding
HasContest x s now kept = Within s (Showing (table_rows x)) kept

-- they show it, and it is committed
abbrev pub KeepsContest : ContestState → Holding
KeepsContest x s now kept = Holds s (Showing (table_rows x)) (Showing (table_rows x))

-- a commit makes its rows where no table stood
abbrev pub MakesContest : ContestState → State → Trees → Type 0
MakesContest x old db = (now kept : Content) → HoldsNone old now kept → rows_in db ≡ table_rows x

-- the tables of this contest were made where no table stood, and these are its lists
pub record IsMade (x : ContestState) (old new : State) (lists : ContestState) : Type 0 where
  pub bare : IsBare old
  pub held : lists ≡ loaded x
  pub holds : HoldsContests new x x

-- the lists are those of the valid contest that stood, which has this head
pub record IsReadEqual (head : ContestHead) (old new : State) (lists : ContestState) : Type 0 where
  pub stood : ¬ IsBare old
  pub read : IsRead old new lists
  pub equal : read.contest.fixed.settings.head ≡ head
  pub survives : KeepsLists old new

-- what the store failed with
abbrev pub IsOfStore : Refusal → Type 0
IsOfStore refusal = (e : StoreError) × (refusal ≡ refusal_of e)

-- how it is refused that no contest is opened
abbrev pub open_refusal : OpenError → Refusal
open_refusal (open_error.Store e) = refusal_of e
open_refusal open_error.OldSchema = refusal.OldSchema

-- what an open can be refused with
abbrev pub IsOfOpen : Refusal → Type 0
IsOfOpen refusal = (e : OpenError) × (refusal ≡ open_refusal e)
