-- The fixed part of a contest and the rows of its four tables are one to one.
use Rattle.std.proofs.Common.{◌≡◌, ◌∙◌, true, List, [], ◌∷◌, ◌++◌, Some, refl, sym, ap}
use Rattle.std.specs.List.{list_all}
use Rattle.std.specs.Option.{option_and_then}
use Rattle.sqlite_value.specs.Order.{Row}
use Rattle.contest_types.specs.Setup.{Setup, IsValid, is_valid_head}
use Rattle.contest_types.specs.State.{FixedPart}
use Rattle.contest_store_rows.specs.Cells.{same_row}
use Rattle.contest_store_rows.specs.FixedRows.{contest_row, desk_row, items_rows}
use Rattle.contest_store_rows.specs.declared.versions.Version.{Version}
use Rattle.contest_store_rows.proofs.RowLemmas.{is_no_real, row_itself, same_rows, no_real_number}
use Rattle.contest_store_reading.specs.AccountRows.{accounts_in}
use Rattle.contest_store_reading.specs.FixedParts.{fixed_if, fixed_of_row, fixed_said, is_desk, only, settings_in, setup_of}
use Rattle.contest_store_reading.specs.Heads.{head_in, marks_in}
use Rattle.contest_store_reading.specs.Items.{items_in}
use Rattle.contest_store_reading.specs.Laws.{FixedReadsBack, FixedWritesBack, IsWritableSetup}
use Rattle.contest_store_reading.proofs.AccountLaws.{accounts_read, accounts_written}
use Rattle.contest_store_reading.proofs.HeadLaws.{head_read, marks_read}
use Rattle.contest_store_reading.proofs.ItemLaws.{items_read}
use Rattle.contest_store_reading.proofs.ItemsWritten.{items_written}
use Rattle.contest_store_reading.proofs.OptionSteps.{bound, where_true}

contest_plain : (f : FixedPart) → list_all is_no_real (contest_row f) ≡ true
contest_plain f = rw (no_real_number f.settings.head.freeze, no_real_number f.marks.start, no_real_number f.marks.thaw, no_real_number f.marks.finalized) refl

settings_read : (f : FixedPart) → IsValid f.settings → IsWritableSetup f.settings → settings_in (contest_row f) (items_rows f.settings) ≡ Some f.settings
settings_read f valid w = rw (head_read f valid.head w.head, valid.head) (items_read f.settings valid w)

pub fixed_reads_back : FixedReadsBack
fixed_reads_back version f valid w =
    rw (row_itself (desk_row version) refl, marks_read f w.marks, settings_read f valid w.settings, accounts_read f.settings valid f.accounts w.accounts, row_itself (contest_row f) (contest_plain f)) refl

desk_written : (version : Version) (rows : List Row) → is_desk version rows ≡ true → rows ≡ desk_row version ∷ []
desk_written version [] is = absurd (cc is)
desk_written version (r ∷ []) is = ap (λ x. x ∷ []) (same_rows r (desk_row version) is)
desk_written version (r ∷ q ∷ rows) is = absurd (cc is)

only_one : (rows : List Row) (r : Row) → only rows ≡ Some r → rows ≡ r ∷ []
only_one [] r is = absurd (cc is)
only_one (x ∷ []) r is = let same : x ≡ r = cc is in ap (λ y. y ∷ []) same
only_one (x ∷ y ∷ rows) r is = absurd (cc is)

settings_written : (contest : Row) (items : List Row) (s : Setup) → settings_in contest items ≡ Some s → items ≡ items_rows s
settings_written contest items s is =
    let h = bound (λ h. option_and_then (λ s. items_in s items) (setup_of h)) (head_in contest) s is in
    let e = bound (λ s. items_in s items) (setup_of h.x) s h.next_is in
    let made = where_true (is_valid_head h.x) (Some (record { head = h.x; types = []; languages = []; problems = []; groups = []; teams = [] })) e.x e.first_is in
    let empty : e.x ≡ record { head = h.x; types = []; languages = []; problems = []; groups = []; teams = [] } = cc (sym made.1) in
    sym (items_written e.x s items e.next_is ∙ ap (λ x. items_rows x ++ items) empty)

-- what the cells said
record Said (c : Row) (i a : List Row) (f : FixedPart) : Type 0 where
  pub settings : settings_in c i ≡ Some f.settings
  pub accounts : accounts_in f.settings a ≡ Some f.accounts

said : (contest : Row) (items accounts : List Row) (f : FixedPart) → fixed_said contest items accounts ≡ Some f → Said contest items accounts f
said contest items accounts f is =
    let m = bound _ (marks_in contest) f is in
    let s = bound _ (settings_in contest items) f m.next_is in
    let a = bound _ (accounts_in s.x accounts) f s.next_is in
    let whole : f ≡ record { settings = s.x; accounts = a.x; marks = m.x } = cc (sym a.next_is) in
    rw whole (record { settings = s.first_is; accounts = a.first_is })

row_written : (contest : Row) (items accounts : List Row) (f : FixedPart) → fixed_of_row contest items accounts ≡ Some f → (contest ≡ contest_row f) × Said contest items accounts f
row_written contest items accounts f is =
    let b = bound (fixed_if contest) (fixed_said contest items accounts) f is in
    let own = where_true (same_row contest (contest_row b.x)) (Some b.x) f b.next_is in
    let same : b.x ≡ f = cc own.1 in
    rw (← same) (same_rows contest (contest_row b.x) own.0, said contest items accounts b.x b.first_is)

pub fixed_writes_back : FixedWritesBack
fixed_writes_back version desk contest items accounts f is =
    let d = where_true (is_desk version desk) _ f is in
    let c = bound (λ r. fixed_of_row r items accounts) (only contest) f d.1 in
    let r = row_written c.x items accounts f c.next_is in
    record {
      desk = desk_written version desk d.0;
      contest = only_one contest c.x c.first_is ∙ ap (λ x. x ∷ []) r.0;
      items = settings_written c.x items f.settings r.1.settings;
      accounts = accounts_written f.settings accounts f.accounts r.1.accounts;
    }
