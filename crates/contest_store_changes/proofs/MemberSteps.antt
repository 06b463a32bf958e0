-- A rejudging is appended with one member after the other.
use Rattle.std.proofs.Common.{◌≡◌, ◌∙◌, true, ℕ, ◌+◌, ◌<◌, ◌≤◌, List, [], ◌∷◌, ◌++◌, length, take, slice_index_or, Result, Ok, refl, sym, ap, subst, arith}
use Rattle.std.proofs.lemmas.List.{length-take-le, take_all, take_more}
use Rattle.sqlite.specs.State.{State}
use Rattle.contest_store.specs.declared.store_error.StoreError.{StoreError}
use Rattle.contest_types.specs.State.{ContestState, add}
use Rattle.contest_types.specs.declared.entry.Entry.{Entry}
use Rattle.contest_types.specs.declared.entry.Entry.TheVariants.{NewRejudging}
use Rattle.contest_types.specs.declared.rejudging.Member.{Member}
use Rattle.contest_types.specs.declared.rejudging.Rejudging.{Rejudging}
use Rattle.contest_store_rows.specs.ListRows.{member_row}
use Rattle.contest_store_tables.specs.Steps.{Content, Full, HasInserted, MakesNone, Showing, Step, Within}
use Rattle.contest_store_tables.specs.Tables.{TableRows}
use Rattle.contest_store_tables.specs.declared.counts.Counts.{Counts}
use Rattle.contest_store_tables.specs.declared.table_name.TableName.TheVariants.{Members}
use Rattle.contest_store_tables.proofs.StepLemmas.{in_turn}
use Rattle.contest_store_changes.specs.Additions.{Admits, HasListed, HasMember}
use Rattle.contest_store_cells.specs.CellRows.{cell_rows}
use Rattle.contest_store_changes.specs.ContestTables.{list_rows, rows_with}
use Rattle.contest_store_changes.specs.Laws.{with_members}
use Rattle.contest_store_changes.specs.OneRow.{IsOneRow}
use Rattle.contest_types.specs.Addable.{is_addable}
use Rattle.contest_store_changes.specs.Sound.{IsSound}
use Rattle.contest_store_changes.proofs.CellsPassed.{passes_cells}
use Rattle.contest_store_changes.proofs.FittingNumbers.{Fit}
use Rattle.contest_store_changes.proofs.ListAdditions.{member_is_added}

-- the rejudging with so many of its members
abbrev pub with_front : Rejudging → List Member → Entry
with_front row members = NewRejudging (with_members row members)

module _ (r : Result (Unit {0}) StoreError) (old mid new : State) (b m a : Counts) (lists : ContestState) (row : Rejudging) (front : List Member) (one_more : Member)
    (one : Step {T = Unit {0}} (Ok tt) old mid b m (Admits lists (NewRejudging row)) (HasListed lists (with_front row front)) (MakesNone old (Admits lists (NewRejudging row))))
    (two : Step r mid new m a Full (HasMember lists (length front) one_more) (MakesNone mid Full))
    (fits : (x : ContestState) → IsSound x → is_addable x (NewRejudging row) ≡ true → Fit one_more.team one_more.number) where
  abbrev after : List Member
  after = front ++ one_more ∷ []

  -- what the tables show in between
  abbrev between : ContestState → Content
  between x = Showing (rows_with (cell_rows x) (add x (with_front row front)))

  fully : (now kept : Content) → (h : HasListed lists (with_front row front) mid now kept) → Full mid (between h.contest) kept
  fully now kept h = (h.within, (rows_with (cell_rows h.contest) (add h.contest (with_front row front)), refl))

  member_row_added : (now kept : Content) → (h : HasListed lists (with_front row front) mid now kept)
      → IsOneRow Members (member_row lists.fixed.settings (length lists.rejudgings + 1) (length front + 1) one_more) (add h.contest (with_front row front)) (add h.contest (with_front row after))
  member_row_added now kept h =
      subst (λ (l : ContestState). IsOneRow Members (member_row l.fixed.settings (length l.rejudgings + 1) (length front + 1) one_more) (add h.contest (with_front row front)) (add h.contest (with_front row after)))
      h.held (member_is_added h.contest row front one_more h.sound)

  next_added : (now kept : Content) → (h : HasListed lists (with_front row front) mid now kept)
      → HasInserted Members (member_row lists.fixed.settings (length lists.rejudgings + 1) (length front + 1) one_more) new (between h.contest) kept → HasListed lists (with_front row after) new now kept
  next_added now kept h inserted =
      let o = member_row_added now kept h in
      record {
        contest = h.contest;
        shown = h.shown;
        sound = h.sound;
        held = h.held;
        within = subst (λ (rows : TableRows). Within new (Showing rows) kept)
            (passes_cells Members (list_rows (add h.contest (with_front row after)) Members) (cell_rows h.contest) (add h.contest (with_front row front)) (add h.contest (with_front row after)) refl o.others)
            (inserted (rows_with (cell_rows h.contest) (add h.contest (with_front row front))) (list_rows (add h.contest (with_front row after)) Members) refl o.with_it);
      }

  pub next_member : Step r old new b a (Admits lists (NewRejudging row)) (HasListed lists (with_front row after)) (MakesNone old (Admits lists (NewRejudging row)))
  next_member =
      in_turn tt r old mid new b m a (Admits lists (NewRejudging row)) (HasListed lists (with_front row front)) Full (HasMember lists (length front) one_more)
      (HasListed lists (with_front row after)) (MakesNone old (Admits lists (NewRejudging row))) (MakesNone mid Full) one two
      (λ now kept from h. (between h.contest, fully now kept h, λ stands. next_added now kept h (stands (fits from.contest from.sound from.may))))
      (λ db on none now kept from. none (between (on now kept from).contest) kept (fully now kept (on now kept from)))
      (λ db none. none)

-- one member more in front
pub one_further : (ms slice : List Member) (place : ℕ) (m : Member) → slice ≡ ms → place < length slice → m ≡ slice_index_or slice place m → take place ms ++ m ∷ [] ≡ take (place + 1) ms
one_further ms slice place m same within is = rw (← same) (ap (λ (x : Member). take place slice ++ x ∷ []) is ∙ sym (take_more slice place m within))

pub so_many : (ms slice : List Member) (place : ℕ) → slice ≡ ms → place < length slice → length (take place ms) ≡ place
so_many ms slice place same within = rw (← same) (length-take-le place slice (omega (arith, within)))

pub all_members : (ms slice : List Member) (place : ℕ) → slice ≡ ms → length slice ≤ place → take place ms ≡ ms
all_members ms slice place same past = take_all place ms (rw same at past)
