-- What the records of two files add, one after the other, and what they add in one file.
use Rattle.std.proofs.Common.{◌≡◌, ◌∙◌, ◌+◌, ℕ, Bool, true, false, List, [], ◌∷◌, ◌++◌, length, map, append-nil, add-zero, Option, Some, None, Result, Ok, Err, refl, sym, ap, arith}
use Rattle.std.specs.Prelude.{IfOk}
use Rattle.std.specs.List.{filter_map, flat_map}
use Rattle.std.proofs.lemmas.Grind.{flat_map-append}
use Rattle.std.proofs.lemmas.List.{append_assoc, map-append}
use Rattle.std.proofs.lemmas.List.Elements.{filter_map-append}
use Rattle.contest_types.specs.State.{ContestState, FixedPart, add_all}
use Rattle.contest_types.specs.VerdictAdditions.{verdict_addition}
use Rattle.contest_types.specs.declared.entry.Entry.{Entry}
use Rattle.contest_types.specs.declared.proposal.Proposal.{Proposal}
use Rattle.contest_types.specs.declared.refusal.Cause.{Cause}
use Rattle.contest_types.specs.declared.refusal.Refusal.{Refusal}
use Rattle.contest_types.specs.declared.refusal.Refusal.TheVariants.{ImportRow}
use Rattle.contest_types.specs.declared.submission.Release.{Release}
use Rattle.contest_rules.specs.Proposing.{entries_of}
use Rattle.contest_rules.specs.declared.proposing.NewVerdict.{NewVerdict}
use Rattle.contest_rules.specs.declared.verdicts.WantedVerdict.{WantedVerdict}
use Rattle.contest_files.specs.FieldTexts.{Text}
use Rattle.contest_import.specs.RowAdditions.{Additions, after_addition, after_record, after_records, none_yet, or_first_fault, row_addition, rows_of, rows_or_refusal, with_row}
use Rattle.contest_import.proofs.RowLemmas.{Fits, IsSoundRow, records_fit}
use Rattle.contest_import_verdicts.specs.VerdictFiles as verdicts
use Rattle.contest_import_verdicts.specs.VerdictFiles.{entries_if, if_added, or_fault_of, record_verdict, verdict_wanted, verdicts_in, wanted_in, with_verdict, with_verdicts}
use Rattle.contest_import_verdicts.proofs.AddableLemmas.{add_verdicts}

-- the fault of a record that stands behind so many others
abbrev pub behind : ℕ → Refusal → Refusal
behind k (ImportRow n cause) = ImportRow (k + n) cause
behind k refusal = refusal

-- what comes of records behind so many others, which add these rows
abbrev pub rows_behind : {X : Type 0} → ℕ → List X → Result (List X) Refusal → Result (List X) Refusal
rows_behind k es (Ok fs) = Ok (es ++ fs)
rows_behind k es (Err refusal) = Err (behind k refusal)

-- ---- settings, teams and accounts

abbrev with_earlier : List Entry → Additions → Additions
with_earlier es a = record { fixed = a.fixed; rows = es ++ a.rows }

abbrev earlier_too : List Entry → Result Additions Cause → Result Additions Cause
earlier_too es (Ok a) = Ok (with_earlier es a)
earlier_too es (Err c) = Err c

abbrev later : ℕ → List Entry → Result Additions (ℕ × Cause) → Result Additions (ℕ × Cause)
later k es (Ok a) = Ok (with_earlier es a)
later k es (Err fault) = Err (k + fault.0, fault.1)

-- earlier rows change nothing of what a record adds
addition_behind : (es : List Entry) (a : Additions) (row : Entry) (r : Result Bool Cause) → after_addition (with_earlier es a) row r ≡ earlier_too es (after_addition a row r)
addition_behind es a row (Err c) = refl
addition_behind es a row (Ok false) = refl
addition_behind es a row (Ok true) = ap (λ rows. Ok (record { fixed = with_row a.fixed row; rows = rows })) (append_assoc es a.rows (row ∷ []))

record_behind : (es : List Entry) (a : Additions) (r : Result Entry Cause) → after_record (with_earlier es a) r ≡ earlier_too es (after_record a r)
record_behind es a (Err c) = refl
record_behind es a (Ok row) = addition_behind es a row (row_addition a.fixed row)

records_behind : {A : Type 0} (row_of : FixedPart → A → Result Entry Cause) (es : List Entry) (a : Additions) (k n : ℕ) (rs : List A) → after_records row_of (with_earlier es a) (k + n) rs ≡ later k es (after_records row_of a n rs)
records_behind row_of es a k n [] = refl
records_behind row_of es a k n (r ∷ rs) =
    let next : (k + n) + 1 ≡ k + (n + 1) = omega arith in
    let go : (q : Result Additions Cause) → or_first_fault (λ b. after_records row_of b ((k + n) + 1) rs) (k + n) (earlier_too es q) ≡ later k es (or_first_fault (λ b. after_records row_of b (n + 1) rs) n q) = elim [
      | (Ok b) ↦ ap (λ m. after_records row_of (with_earlier es b) m rs) next ∙ records_behind row_of es b k (n + 1) rs
      | (Err c) ↦ refl
    ] in
    ap (or_first_fault (λ b. after_records row_of b ((k + n) + 1) rs) (k + n)) (record_behind es a (row_of a.fixed r)) ∙ go (after_record a (row_of a.fixed r))

abbrev and_then : Result Additions (ℕ × Cause) → (Additions → Result Additions (ℕ × Cause)) → Result Additions (ℕ × Cause)
and_then (Ok a) more = more a
and_then (Err fault) more = Err fault

-- records after others go on from what those come to
records_then : {A : Type 0} (row_of : FixedPart → A → Result Entry Cause) (a : Additions) (n : ℕ) (rs qs : List A)
    → after_records row_of a n (rs ++ qs) ≡ and_then (after_records row_of a n rs) (λ b. after_records row_of b (n + length rs) qs)
records_then row_of a n [] qs = ap (λ m. after_records row_of a m qs) (sym (add-zero n))
records_then row_of a n (r ∷ rs) qs =
    let next : (n + 1) + length rs ≡ n + length (r ∷ rs) = omega arith in
    let go : (q : Result Additions Cause)
    → or_first_fault (λ b. after_records row_of b (n + 1) (rs ++ qs)) n q ≡ and_then (or_first_fault (λ b. after_records row_of b (n + 1) rs) n q) (λ b. after_records row_of b (n + length (r ∷ rs)) qs) = elim [
      | (Ok b) ↦ records_then row_of b (n + 1) rs qs ∙ ap (λ m. and_then (after_records row_of b (n + 1) rs) (λ c. after_records row_of c m qs)) next
      | (Err c) ↦ refl
    ] in
    go (after_record a (row_of a.fixed r))

-- what the records of two files add in one, by what the second add to the contest with the rows of the first
pub rows_joined : {A : Type 0} (row_of : FixedPart → A → Result Entry Cause) → ((f : FixedPart) (r : A) → IfOk (row_of f r) IsSoundRow) → (x : ContestState) (rs qs : List A) (es : List Entry)
    → rows_of row_of x.fixed rs ≡ Ok es → rows_of row_of x.fixed (rs ++ qs) ≡ rows_behind (length rs) es (rows_of row_of (add_all x es).fixed qs)
rows_joined row_of sound x rs qs es h =
    let k = length rs in
    let moved : (es : List Entry) (q : Result Additions (ℕ × Cause)) → rows_or_refusal (later k es q) ≡ rows_behind k es (rows_or_refusal q) = λ es. elim [ (Ok a) ↦ refl | (Err fault) ↦ refl ] in
    let go : (q : Result Additions (ℕ × Cause)) → IfOk q (Fits x) → rows_or_refusal q ≡ Ok es
    → rows_or_refusal (and_then q (λ b. after_records row_of b (1 + k) qs)) ≡ rows_behind k es (rows_of row_of (add_all x es).fixed qs) = elim [
      | (Ok b) ↦ λ fits is. (let same : b.rows ≡ es = cc is in
          let order : 1 + k ≡ k + 1 = omega arith in
          let fixed : b.fixed ≡ (add_all x es).fixed = sym fits.fixed ∙ ap (λ fs. (add_all x fs).fixed) same in
          let split : b ≡ with_earlier es (none_yet (add_all x es).fixed) = λ i. record { fixed = fixed i; rows = (same ∙ sym (append-nil es)) i } in
          ap (λ q. rows_or_refusal q) ((λ i. after_records row_of (split i) (order i) qs) ∙ records_behind row_of es (none_yet (add_all x es).fixed) k 1 qs)
          ∙ moved es (after_records row_of (none_yet (add_all x es).fixed) 1 qs))
      | (Err fault) ↦ λ fits is. absurd (cc is)
    ] in
    ap rows_or_refusal (records_then row_of (none_yet x.fixed) 1 rs qs) ∙ go (after_records row_of (none_yet x.fixed) 1 rs) (records_fit row_of sound x (none_yet x.fixed) 1 rs (record { fixed = refl; addable = refl })) h

-- a fault of the first stays the first
pub rows_at_fault : {A : Type 0} (row_of : FixedPart → A → Result Entry Cause) (f : FixedPart) (rs qs : List A) (refusal : Refusal) → rows_of row_of f rs ≡ Err refusal → rows_of row_of f (rs ++ qs) ≡ Err refusal
rows_at_fault row_of f rs qs refusal h =
    let go : (q : Result Additions (ℕ × Cause)) → rows_or_refusal q ≡ Err refusal → rows_or_refusal (and_then q (λ b. after_records row_of b (1 + length rs) qs)) ≡ Err refusal = elim [
      | (Ok b) ↦ λ is. absurd (cc is)
      | (Err fault) ↦ λ is. is
    ] in
    ap rows_or_refusal (records_then row_of (none_yet f) 1 rs qs) ∙ go (after_records row_of (none_yet f) 1 rs) h

-- ---- verdicts

-- a contest with verdicts, and with more of them
with_both : (x : ContestState) (vs ws : List NewVerdict) → with_verdicts (with_verdicts x vs) ws ≡ with_verdicts x (vs ++ ws)
with_both x vs ws =
    let proposal : NewVerdict → Proposal = λ v. v.proposal in
    let release : NewVerdict → Option Release = λ v. v.release in
    let proposals = append_assoc x.proposals (map proposal vs) (map proposal ws) ∙ ap (λ ps. x.proposals ++ ps) (sym (map-append proposal vs ws)) in
    let releases = append_assoc x.releases (filter_map release vs) (filter_map release ws) ∙ ap (λ rs. x.releases ++ rs) (sym (filter_map-append release vs ws)) in
    λ i. record x { proposals = proposals i; releases = releases i }

abbrev verdicts_too : List NewVerdict → Result (List NewVerdict) Cause → Result (List NewVerdict) Cause
verdicts_too vs (Ok ws) = Ok (vs ++ ws)
verdicts_too vs (Err c) = Err c

added_behind : (vs ws : List NewVerdict) (v : NewVerdict) (r : Result Bool Cause) → if_added (vs ++ ws) v r ≡ verdicts_too vs (if_added ws v r)
added_behind vs ws v (Err c) = refl
added_behind vs ws v (Ok false) = refl
added_behind vs ws v (Ok true) = ap Ok (append_assoc vs ws (v ∷ []))

verdict_behind : (x : ContestState) (vs ws : List NewVerdict) (r : Result NewVerdict Cause) → with_verdict x (vs ++ ws) r ≡ verdicts_too vs (with_verdict (with_verdicts x vs) ws r)
verdict_behind x vs ws (Err c) = refl
verdict_behind x vs ws (Ok v) =
    ap (λ (y : ContestState). if_added (vs ++ ws) v (verdict_addition y v.proposal)) (sym (with_both x vs ws)) ∙ added_behind vs ws v (verdict_addition (with_verdicts (with_verdicts x vs) ws) v.proposal)

-- what a record says goes by no verdict
said_alike : (x : ContestState) (vs : List NewVerdict) (now : ℕ) (row : List Text) → record_verdict x now row ≡ record_verdict (with_verdicts x vs) now row
said_alike x vs now row = go (wanted_in row)
  where
    go : (o : Option WantedVerdict) → verdict_wanted x now o ≡ verdict_wanted (with_verdicts x vs) now o
    go None = refl
    go (Some w) = refl

verdicts_behind : (x : ContestState) (now : ℕ) (vs ws : List NewVerdict) (k n : ℕ) (rows : List (List Text))
    → verdicts.after_records x now (vs ++ ws) (k + n) rows ≡ rows_behind k vs (verdicts.after_records (with_verdicts x vs) now ws n rows)
verdicts_behind x now vs ws k n [] = refl
verdicts_behind x now vs ws k n (row ∷ rows) =
    let y = with_verdicts x vs in
    let next : (k + n) + 1 ≡ k + (n + 1) = omega arith in
    let go : (q : Result (List NewVerdict) Cause)
    → or_fault_of (k + n) (λ more. verdicts.after_records x now more ((k + n) + 1) rows) (verdicts_too vs q) ≡ rows_behind k vs (or_fault_of n (λ more. verdicts.after_records y now more (n + 1) rows) q) = elim [
      | (Ok us) ↦ ap (λ m. verdicts.after_records x now (vs ++ us) m rows) next ∙ verdicts_behind x now vs us k (n + 1) rows
      | (Err c) ↦ refl
    ] in
    ap (or_fault_of (k + n) (λ more. verdicts.after_records x now more ((k + n) + 1) rows)) (ap (with_verdict x (vs ++ ws)) (said_alike x vs now row) ∙ verdict_behind x vs ws (record_verdict y now row))
    ∙ go (with_verdict y ws (record_verdict y now row))

abbrev verdicts_then : Result (List NewVerdict) Refusal → (List NewVerdict → Result (List NewVerdict) Refusal) → Result (List NewVerdict) Refusal
verdicts_then (Ok vs) more = more vs
verdicts_then (Err refusal) more = Err refusal

verdict_records_then : (x : ContestState) (now : ℕ) (so_far : List NewVerdict) (n : ℕ) (rows others : List (List Text))
    → verdicts.after_records x now so_far n (rows ++ others) ≡ verdicts_then (verdicts.after_records x now so_far n rows) (λ vs. verdicts.after_records x now vs (n + length rows) others)
verdict_records_then x now so_far n [] others = ap (λ m. verdicts.after_records x now so_far m others) (sym (add-zero n))
verdict_records_then x now so_far n (row ∷ rows) others =
    let next : (n + 1) + length rows ≡ n + length (row ∷ rows) = omega arith in
    let go : (q : Result (List NewVerdict) Cause)
    → or_fault_of n (λ more. verdicts.after_records x now more (n + 1) (rows ++ others)) q
    ≡ verdicts_then (or_fault_of n (λ more. verdicts.after_records x now more (n + 1) rows) q) (λ vs. verdicts.after_records x now vs (n + length (row ∷ rows)) others) = elim [
      | (Ok vs) ↦ verdict_records_then x now vs (n + 1) rows others ∙ ap (λ m. verdicts_then (verdicts.after_records x now vs (n + 1) rows) (λ us. verdicts.after_records x now us m others)) next
      | (Err c) ↦ refl
    ] in
    go (verdicts.after_record x now so_far row)

pub verdicts_joined : (x : ContestState) (now : ℕ) (rows others : List (List Text)) (es : List Entry) → entries_if (verdicts_in x now (Some rows)) ≡ Ok es
    → entries_if (verdicts_in x now (Some (rows ++ others))) ≡ rows_behind (length rows) es (entries_if (verdicts_in (add_all x es) now (Some others)))
verdicts_joined x now rows others es h =
    let k = length rows in
    let moved : (vs : List NewVerdict) (q : Result (List NewVerdict) Refusal) → entries_if (rows_behind k vs q) ≡ rows_behind k (flat_map entries_of vs) (entries_if q) =
    λ vs. elim [ (Ok ws) ↦ ap Ok (flat_map-append entries_of vs ws) | (Err refusal) ↦ refl ] in
    let go : (q : Result (List NewVerdict) Refusal) → entries_if q ≡ Ok es
    → entries_if (verdicts_then q (λ vs. verdicts.after_records x now vs (1 + k) others)) ≡ rows_behind k es (entries_if (verdicts.after_records (add_all x es) now [] 1 others)) = elim [
      | (Ok vs) ↦ λ is. (let same : flat_map entries_of vs ≡ es = cc is in
          let order : 1 + k ≡ k + 1 = omega arith in
          let stands : with_verdicts x vs ≡ add_all x es = sym (add_verdicts x vs) ∙ ap (add_all x) same in
          ap entries_if ((λ i. verdicts.after_records x now (sym (append-nil vs) i) (order i) others) ∙ verdicts_behind x now vs [] k 1 others)
          ∙ moved vs (verdicts.after_records (with_verdicts x vs) now [] 1 others)
          ∙ (λ i. rows_behind k (same i) (entries_if (verdicts.after_records (stands i) now [] 1 others))))
      | (Err refusal) ↦ λ is. absurd (cc is)
    ] in
    ap entries_if (verdict_records_then x now [] 1 rows others) ∙ go (verdicts.after_records x now [] 1 rows) h

pub verdicts_at_fault : (x : ContestState) (now : ℕ) (rows others : List (List Text)) (refusal : Refusal) → entries_if (verdicts_in x now (Some rows)) ≡ Err refusal → entries_if (verdicts_in x now (Some (rows ++ others))) ≡ Err refusal
verdicts_at_fault x now rows others refusal h =
    let go : (q : Result (List NewVerdict) Refusal) → entries_if q ≡ Err refusal → entries_if (verdicts_then q (λ vs. verdicts.after_records x now vs (1 + length rows) others)) ≡ Err refusal = elim [
      | (Ok vs) ↦ λ is. absurd (cc is)
      | (Err fault) ↦ λ is. is
    ] in
    ap entries_if (verdict_records_then x now [] 1 rows others) ∙ go (verdicts.after_records x now [] 1 rows) h
