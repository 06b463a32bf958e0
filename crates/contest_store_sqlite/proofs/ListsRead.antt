-- The lists that are read of the tables of a sound contest.
use Rattle.std.proofs.Common.{◌≡◌, ◌∙◌, Option, None, Some, sym, ap}
use Rattle.sqlite.specs.State.{State}
use Rattle.contest_lists.specs.Lists.{loaded}
use Rattle.contest_types.specs.State.{ContestState}
use Rattle.contest_store_reading.specs.Spelling.{lists_in}
use Rattle.contest_store_reading.proofs.SpellingLaws.{contests_read_back}
use Rattle.contest_store_cells.specs.CellRows.{cell_rows}
use Rattle.contest_store_cells.proofs.CellOrder.{is_placed}
use Rattle.contest_store_tables.specs.Steps.{Content, Holds, Showing}
use Rattle.contest_store_tables.specs.Tables.{TableRows}
use Rattle.contest_store_tables.specs.declared.table_name.TableName.TheVariants.{Desk, Contest, Items, Accounts, Submissions, Proposals, Releases, Rejudgings, Members, Clarifications, Cells, Notices}
use Rattle.contest_store_changes.specs.ContestTables.{loaded_tables, table_rows}
use Rattle.contest_store_changes.specs.Sound.{IsSound}
use Rattle.contest_store_changes.proofs.CellRowsKept.{cells_rise}
use Rattle.contest_store_changes.proofs.RisingRows.{rises}
use Rattle.contest_store_changes.proofs.SoundReadings.{tables_loaded}
use Rattle.contest_store_sqlite.specs.Loading.{AllRise}
use Rattle.contest_store_changes.proofs.Writable.{writable}

pub sound_rises : (x : ContestState) → IsSound x → AllRise (table_rows x)
sound_rises x h Desk = rises x h.by_id Desk
sound_rises x h Contest = rises x h.by_id Contest
sound_rises x h Items = rises x h.by_id Items
sound_rises x h Accounts = rises x h.by_id Accounts
sound_rises x h Submissions = rises x h.by_id Submissions
sound_rises x h Proposals = rises x h.by_id Proposals
sound_rises x h Releases = rises x h.by_id Releases
sound_rises x h Rejudgings = rises x h.by_id Rejudgings
sound_rises x h Members = rises x h.by_id Members
sound_rises x h Clarifications = rises x h.by_id Clarifications
sound_rises x h Cells = cells_rise x (is_placed x h.valid)
sound_rises x h Notices = rises x h.by_id Notices

pub sound_is_read : (x : ContestState) → IsSound x → lists_in (loaded_tables (table_rows x)) ≡ Some (loaded x)
sound_is_read x h = ap lists_in (tables_loaded (cell_rows x) x) ∙ contests_read_back x (writable x h)

-- and no others are
pub read_sound : (s : State) (lists : ContestState) → ((now : TableRows) (kept : Content) → Holds s (Showing now) kept → AllRise now → lists_in (loaded_tables now) ≡ Some lists)
    → (x : ContestState) (kept : Content) → IsSound x → Holds s (Showing (table_rows x)) kept → lists ≡ loaded x
read_sound s lists are x kept sound holds =
    let both : Some lists ≡ Some (loaded x) = sym (are (table_rows x) kept holds (sound_rises x sound)) ∙ sound_is_read x sound in
    cc both

-- so some are
pub some_read : (found : Option ContestState) (x : ContestState) → IsSound x → found ≡ lists_in (loaded_tables (table_rows x)) → found ≡ None → ⊥
some_read found x sound is none =
    let some : found ≡ Some (loaded x) = is ∙ sound_is_read x sound in
    absurd (let both = sym none ∙ some in cc)
