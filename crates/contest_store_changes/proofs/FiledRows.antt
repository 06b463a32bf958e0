-- Rows that submissions are read of are the rows of these, files and all.
use Rattle.std.proofs.Common.{◌≡◌, ◌∙◌, ℕ, ◌+◌, List, [], ◌∷◌, map, zip, refl, sym, ap, ap₂, arith}
use Rattle.std.specs.Prelude.{Bool, codes}
use Rattle.std.specs.List.{AllByRecursion}
use Rattle.std.specs.Str.{bytes_eq}
use Rattle.std.proofs.lemmas.Bool.{false≢true}
use Rattle.sqlite_sql.specs.Text.{type_of}
use Rattle.sqlite_value.specs.declared.value.Value.{Value}
use Rattle.sqlite_value.specs.declared.value.Value.TheVariants.{Null, Int, Real, Text, Blob}
use Rattle.sqlite_value.specs.Order.{Row, column}
use Rattle.contest_types.specs.Setup.{Setup}
use Rattle.contest_types.specs.declared.submission.Submission.{Submission}
use Rattle.contest_store_rows.specs.Cells.{text_of}
use Rattle.contest_store_rows.specs.ListRows.{loaded_submission_row, submission_row}
use Rattle.contest_store_rows.proofs.ListLaws.{rows_from}
use Rattle.contest_store_reading.specs.SpellingLaws.{AreSubmissionRows}
use Rattle.contest_store_tables.specs.Statements.{loaded_row}
use Rattle.contest_store_tables.specs.declared.table_name.TableName.TheVariants.{Submissions}
use Rattle.contest_store_changes.specs.ContestTables.{bytes_of, with_file}
use Rattle.contest_store_changes.specs.Laws.{IsWide}

abbrev is_blob : Value → Bool
is_blob v = bytes_eq (text_of v) (codes "blob")

pub blob_is : (v : Value) → type_of v ≡ Text (codes "blob") → v ≡ Blob (bytes_of v)
blob_is Null is = absurd (false≢true (ap is_blob is))
blob_is (Int n) is = absurd (false≢true (ap is_blob is))
blob_is (Real x) is = absurd (false≢true (ap is_blob is))
blob_is (Text t) is = absurd (false≢true (ap is_blob is))
blob_is (Blob b) is = refl

-- a row of nine cells
cells : (r : Row) → IsWide Submissions r →
    r ≡ column r 0 ∷ column r 1 ∷ column r 2 ∷ column r 3 ∷ column r 4 ∷ column r 5 ∷ column r 6 ∷ column r 7 ∷ column r 8 ∷ []
cells [] wide = absurd (omega (arith, wide))
cells (a ∷ []) wide = absurd (omega (arith, wide))
cells (a ∷ b ∷ []) wide = absurd (omega (arith, wide))
cells (a ∷ b ∷ c ∷ []) wide = absurd (omega (arith, wide))
cells (a ∷ b ∷ c ∷ d ∷ []) wide = absurd (omega (arith, wide))
cells (a ∷ b ∷ c ∷ d ∷ e ∷ []) wide = absurd (omega (arith, wide))
cells (a ∷ b ∷ c ∷ d ∷ e ∷ f ∷ []) wide = absurd (omega (arith, wide))
cells (a ∷ b ∷ c ∷ d ∷ e ∷ f ∷ g ∷ []) wide = absurd (omega (arith, wide))
cells (a ∷ b ∷ c ∷ d ∷ e ∷ f ∷ g ∷ h ∷ []) wide = absurd (omega (arith, wide))
cells (a ∷ b ∷ c ∷ d ∷ e ∷ f ∷ g ∷ h ∷ i ∷ []) wide = refl
cells (a ∷ b ∷ c ∷ d ∷ e ∷ f ∷ g ∷ h ∷ i ∷ j ∷ more) wide = absurd (omega (arith, wide))

row_is : (s : Setup) (n size : ℕ) (x : Submission) (r : Row) → IsWide Submissions r → loaded_row Submissions r ≡ loaded_submission_row s n size x → r ≡ submission_row s n (with_file x r)
row_is s n size x r wide is =
    let same : (k : ℕ) → column (loaded_row Submissions r) k ≡ column (loaded_submission_row s n size x) k = λ k. ap (λ q. column q k) is in
    cells r wide
    ∙ ap₂ ◌∷◌ (same 0) (ap₂ ◌∷◌ (same 1) (ap₂ ◌∷◌ (same 2) (ap₂ ◌∷◌ (same 3) (ap₂ ◌∷◌ (same 4) (ap₂ ◌∷◌ (same 5) (ap₂ ◌∷◌ (same 6)
    (ap₂ ◌∷◌ (blob_is (column r 7) (same 7)) (ap₂ ◌∷◌ (same 9) refl))))))))

-- whole lists of them, counted from a number
pub filed_rows : (s : Setup) (n : ℕ) (xs : List Submission) (rows : List Row) → AllByRecursion (IsWide Submissions) rows → AreSubmissionRows s n xs (map (loaded_row Submissions) rows) →
    rows_from (submission_row s) n (map (λ p. with_file p.0 p.1) (zip xs rows)) ≡ rows
filed_rows s n [] [] wide are = refl
filed_rows s n [] (r ∷ rows) wide are = absurd are
filed_rows s n (x ∷ xs) [] wide are = absurd are
filed_rows s n (x ∷ xs) (r ∷ rows) wide are = ap₂ ◌∷◌ (sym (row_is s n are.0.0 x r wide.0 are.0.2)) (filed_rows s (n + 1) xs rows wide.1 are.1)
