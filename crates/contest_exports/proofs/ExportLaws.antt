-- A walk gives each submission once, and an export is read back.
use Rattle.std.proofs.Common.{◌≡◌, ◌∙◌, ◌++◌, List, [], ◌∷◌, length, map, refl, ap}
use Rattle.std.specs.List.{flat_map}
use Rattle.csv.specs.Writing.{default_writer, read_back, row_text}
use Rattle.csv.specs.Reading.{default_config, records_from}
use Rattle.csv.specs.declared.parser.State.TheVariants as reading
use Rattle.csv.proofs.RoundTrip.{read-write-all, rows_text}
use Rattle.contest_types.proofs.InOrderLemmas.{nothing_added, nothing_lost}
use Rattle.contest_types.proofs.Rising.{rising}
use Rattle.contest_types.specs.State.{ContestState}
use Rattle.contest_types.specs.declared.submission.Submission.{Submission}
use Rattle.contest_view.specs.Rows.{row_cmp, row_total}
use Rattle.contest_exports.specs.Laws.{GivesEachOnce, ReadsBack}
use Rattle.contest_exports.specs.SubmissionsCsv.{fields_of, header_fields, record_of, submissions_csv}
use Rattle.contest_exports.specs.Walks.{all_in_order}
use Rattle.contest_exports.proofs.ExportOrder.{no_ties}

pub gives_each_once : GivesEachOnce
gives_each_once x valid =
    let R = row_cmp x.fixed.settings in
    let total = row_total x.fixed.settings in
    (λ s. (λ there. nothing_lost total x.submissions s there (λ t k e. no_ties x valid s t there k e), λ given. nothing_added R x.submissions s given), rising total x.submissions)

-- the records one after the other are what the writer writes
texts : (x : ContestState) (ss : List Submission) → flat_map (record_of x) ss ≡ rows_text (map (fields_of x) ss)
unfolding rows_text
texts x [] = refl
texts x (s ∷ ss) = ap (λ text. record_of x s ++ text) (texts x ss)

-- a record with a field is read back as it was
same_back : (x : ContestState) (ss : List Submission) → map read_back (map (fields_of x) ss) ≡ map (fields_of x) ss
same_back x [] = refl
same_back x (s ∷ ss) = ap (λ rows. fields_of x s ∷ rows) (same_back x ss)

whole : (x : ContestState) → submissions_csv x ≡ rows_text (header_fields ∷ map (fields_of x) (all_in_order x))
unfolding rows_text
whole x = ap (λ text. row_text default_writer header_fields ++ text) (texts x (all_in_order x))

pub reads_back : ReadsBack
reads_back x =
    let rows = header_fields ∷ map (fields_of x) (all_in_order x) in
    ap (records_from default_config (length rows) reading.StartRecord) (whole x) ∙ (read-write-all rows ∙ ap (λ back. header_fields ∷ back) (same_back x (all_in_order x)))
