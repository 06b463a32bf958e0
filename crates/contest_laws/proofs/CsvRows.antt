-- The records of a CSV file below its header are those of its rows, one row after the other.
use Rattle.std.proofs.Common.{◌≡◌, ◌∙◌, ◌≤◌, ◌<◌, ◌+◌, ◌++◌, ℕ, zero, suc, Bool, true, false, List, [], ◌∷◌, length, length-append, Option, Some, None, inl, inr, refl, sym, ap, subst, arith}
use Rattle.std.specs.Prelude.{◌==◌, ◌||◌, codes, if◌then◌else◌}
use Rattle.std.proofs.lemmas.Bool.{false≢true}
use Rattle.std.proofs.lemmas.List.{append_cancel_left}
use Rattle.csv.specs.Machine.{ends_at_end, field_after, fields_after, in_field, is_end, next_record, start_field, start_record, step}
use Rattle.csv.specs.Reading.{default_config, records, records_from, records_next, strip_bom}
use Rattle.csv.specs.declared.parser.Action.{Action}
use Rattle.csv.specs.declared.parser.Action.TheVariants as act
use Rattle.csv.specs.declared.parser.State.{State}
use Rattle.csv.specs.declared.parser.State.TheVariants as st
use Rattle.contest_import.specs.CsvFiles.{account_names, team_names}
use Rattle.contest_import.specs.Files.{csv_records, records_under}
use Rattle.contest_import_verdicts.specs.VerdictFiles.{below_header, verdict_records}
use Rattle.contest_laws.specs.JoinedFiles.{CsvRowsJoin, EndsLine, RowsJoin}

abbrev Fields : Type 0
Fields = List (List ℕ)

-- the records of a text, byte by byte: from a state, with the fields and the field at hand
abbrev pub all_from : State → Fields → List ℕ → List ℕ → List Fields
all_from s fields field [] = if ends_at_end s then (fields ++ field ∷ []) ∷ [] else []
all_from s fields field (c ∷ rest) =
    if is_end (step default_config s c).1 then fields_after (step default_config s c).1 fields field ∷ all_from (step default_config s c).0 [] [] rest
    else all_from (step default_config s c).0 (fields_after (step default_config s c).1 fields field) (field_after (step default_config s c).1 c field) rest

none_left : (n : ℕ) → records_from default_config n st.StartRecord [] ≡ []
unfolding next_record records_from
none_left zero = refl
none_left (suc n) = refl

next_all : (n : ℕ) (s : State) (fields : Fields) (field xs : List ℕ) → ((t : State) (ys : List ℕ) → length ys < n → records_from default_config n t ys ≡ all_from t [] [] ys) → length xs ≤ n
    → records_next (records_from default_config n) (next_record default_config s fields field xs) ≡ all_from s fields field xs
unfolding next_record
next_all n s fields field [] more few = go (ends_at_end s)
  where
    go : (b : Bool) → records_next (records_from default_config n) (if b then Some (fields ++ field ∷ [], st.StartRecord, []) else None) ≡ (if b then (fields ++ field ∷ []) ∷ [] else [])
    go true = ap (λ rs. (fields ++ field ∷ []) ∷ rs) (none_left n)
    go false = refl
next_all n s fields field (c ∷ rest) more few =
    let t = (step default_config s c).0 in
    let a = (step default_config s c).1 in
    let on = next_all n t (fields_after a fields field) (field_after a c field) rest more (omega (arith, few)) in
    let ended = more t rest (omega (arith, few)) in
    let go : (b : Bool) → records_next (records_from default_config n) (if b then Some (fields_after a fields field, t, rest) else next_record default_config t (fields_after a fields field) (field_after a c field) rest)
    ≡ (if b then fields_after a fields field ∷ all_from t [] [] rest else all_from t (fields_after a fields field) (field_after a c field) rest) = elim [ true ↦ ap (λ rs. fields_after a fields field ∷ rs) ended | false ↦ on ] in
    go (is_end a)

all_records : (n : ℕ) (s : State) (xs : List ℕ) → length xs < n → records_from default_config n s xs ≡ all_from s [] [] xs
unfolding records_from
all_records zero s xs few = absurd (omega (arith, few))
all_records (suc n) s xs few = next_all n s [] [] xs (λ t ys l. all_records n t ys l) (omega (arith, few))

-- ---- one text after another

abbrev pub state_after : State → List ℕ → State
state_after s [] = s
state_after s (c ∷ rest) = state_after (step default_config s c).0 rest

-- no record is begun
abbrev Between : State → Type 0
Between st.StartRecord = Unit {0}
Between st.AfterCr = Unit {0}
Between _ = ⊥

-- where no field is begun none is at hand
abbrev Clean : State → Fields → List ℕ → Type 0
Clean st.StartRecord fields field = (fields ≡ []) × (field ≡ [])
Clean st.AfterCr fields field = (fields ≡ []) × (field ≡ [])
Clean st.InComment fields field = (fields ≡ []) × (field ≡ [])
Clean _ fields field = Unit {0}

-- a step from a state to another, which keeps this
abbrev Keeps : Fields → List ℕ → ℕ → State × Action → Type 0
Keeps fields field c p = is_end p.1 ≡ false → Clean p.0 (fields_after p.1 fields field) (field_after p.1 c field)

keeps_in : (fields : Fields) (field : List ℕ) (c : ℕ) → Keeps fields field c (in_field default_config c)
keeps_in fields field c = go (c == 44) ((c == 13) || (c == 10))
  where
    go : (comma ends : Bool) → Keeps fields field c (if comma then (st.StartField, act.EndField) else if ends then ((if c == 13 then st.AfterCr else st.StartRecord), act.EndRecord) else (st.InField, act.Copy))
    go true ends h = tt
    go false true h = absurd (false≢true (sym h))
    go false false h = tt

keeps_start : (fields : Fields) (field : List ℕ) (c : ℕ) → (fields ≡ []) × (field ≡ []) → Keeps fields field c (start_record default_config c)
keeps_start fields field c clean = go ((c == 13) || (c == 10)) (c == 34)
  where
    go : (ends quote : Bool) → Keeps fields field c (if ends then (st.StartRecord, act.Skip) else if quote then (st.InQuoted, act.Skip) else in_field default_config c)
    go true quote h = clean
    go false true h = tt
    go false false h = keeps_in fields field c h

clean_step : (s : State) (fields : Fields) (field : List ℕ) (c : ℕ) → Clean s fields field → Keeps fields field c (step default_config s c)
clean_step st.StartRecord fields field c clean = keeps_start fields field c clean
clean_step st.StartField fields field c clean = go (c == 34)
  where
    go : (quote : Bool) → Keeps fields field c (if quote then (st.InQuoted, act.Skip) else in_field default_config c)
    go true h = tt
    go false h = keeps_in fields field c h
clean_step st.InField fields field c clean = keeps_in fields field c
clean_step st.InQuoted fields field c clean = go (c == 34)
  where
    go : (quote : Bool) → Keeps fields field c (if quote then (st.AfterQuote, act.Skip) else (st.InQuoted, act.Copy))
    go true h = tt
    go false h = tt
clean_step st.AfterQuote fields field c clean = go (c == 34)
  where
    go : (quote : Bool) → Keeps fields field c (if quote then (st.InQuoted, act.Copy) else in_field default_config c)
    go true h = tt
    go false h = keeps_in fields field c h
clean_step st.InEscape fields field c clean = λ h. tt
clean_step st.InComment fields field c clean = go (c == 10)
  where
    go : (ends : Bool) → Keeps fields field c (if ends then (st.StartRecord, act.Skip) else (st.InComment, act.Skip))
    go true h = clean
    go false h = clean
clean_step st.AfterCr fields field c clean = go (c == 10)
  where
    go : (ends : Bool) → Keeps fields field c (if ends then (st.StartRecord, act.Skip) else start_record default_config c)
    go true h = clean
    go false h = keeps_start fields field c clean h

-- behind the first byte of a line's end a record begins as at its start
after_cr : (ys : List ℕ) → all_from st.AfterCr [] [] ys ≡ all_from st.StartRecord [] [] ys
after_cr [] = refl
after_cr (c ∷ rest) = go (c == 13) (c == 10)
  where
    of : State × Action → List Fields
    of p = if is_end p.1 then fields_after p.1 [] [] ∷ all_from p.0 [] [] rest else all_from p.0 (fields_after p.1 [] []) (field_after p.1 c []) rest

    go : (cr lf : Bool) → of (if lf then (st.StartRecord, act.Skip) else if cr || lf then (st.StartRecord, act.Skip) else start_field default_config c) ≡ of (if cr || lf then (st.StartRecord, act.Skip) else start_field default_config c)
    go true true = refl
    go false true = refl
    go cr false = refl

-- what stands behind a text at whose end no record is begun is read as if it stood alone
from_between : (s : State) (fields : Fields) (field ys : List ℕ) → Between s → Clean s fields field → all_from s fields field ys ≡ all_from s fields field [] ++ all_from st.StartRecord [] [] ys
from_between st.StartRecord fields field ys h clean = λ i. all_from st.StartRecord (clean.0 i) (clean.1 i) ys
from_between st.AfterCr fields field ys h clean = (λ i. all_from st.AfterCr (clean.0 i) (clean.1 i) ys) ∙ after_cr ys
from_between st.StartField fields field ys h clean = absurd h
from_between st.InField fields field ys h clean = absurd h
from_between st.InQuoted fields field ys h clean = absurd h
from_between st.AfterQuote fields field ys h clean = absurd h
from_between st.InEscape fields field ys h clean = absurd h
from_between st.InComment fields field ys h clean = absurd h

joined_from : (s : State) (fields : Fields) (field xs ys : List ℕ) → Clean s fields field → Between (state_after s xs) → all_from s fields field (xs ++ ys) ≡ all_from s fields field xs ++ all_from st.StartRecord [] [] ys
joined_from s fields field [] ys clean h = from_between s fields field ys h clean
joined_from s fields field (c ∷ xs) ys clean h =
    let t = (step default_config s c).0 in
    let a = (step default_config s c).1 in
    let behind = all_from st.StartRecord [] [] ys in
    let anew = joined_from t [] [] xs ys (nothing t) h in
    let on = λ (e : is_end a ≡ false). joined_from t (fields_after a fields field) (field_after a c field) xs ys (clean_step s fields field c clean e) h in
    let go : (b : Bool) → is_end a ≡ b
    → (if b then fields_after a fields field ∷ all_from t [] [] (xs ++ ys) else all_from t (fields_after a fields field) (field_after a c field) (xs ++ ys))
    ≡ (if b then fields_after a fields field ∷ all_from t [] [] xs else all_from t (fields_after a fields field) (field_after a c field) xs) ++ behind = elim [
      | true ↦ λ e. ap (λ rs. fields_after a fields field ∷ rs) anew
      | false ↦ λ e. on e
    ] in
    go (is_end a) refl
  where
    nothing : (t : State) → Clean t [] []
    nothing st.StartRecord = (refl, refl)
    nothing st.AfterCr = (refl, refl)
    nothing st.InComment = (refl, refl)
    nothing st.StartField = tt
    nothing st.InField = tt
    nothing st.InQuoted = tt
    nothing st.AfterQuote = tt
    nothing st.InEscape = tt

-- a byte more in the last field is another record
longer : (fields : Fields) (field : List ℕ) → (fields ++ (field ++ 10 ∷ []) ∷ []) ∷ [] ≡ (fields ++ field ∷ []) ∷ [] → ⊥
longer fields field e =
    let row : fields ++ (field ++ 10 ∷ []) ∷ [] ≡ fields ++ field ∷ [] = cc e in
    let last = append_cancel_left fields ((field ++ 10 ∷ []) ∷ []) (field ∷ []) row in
    let same : field ++ 10 ∷ [] ≡ field = cc last in
    omega (arith, length-append field (10 ∷ []), ap length same)

-- if a line's end behind a text adds nothing to what is read, no record is begun then
line_ends : (s : State) (fields : Fields) (field xs : List ℕ) → all_from s fields field (xs ++ 10 ∷ []) ≡ all_from s fields field xs → Between (state_after s (xs ++ 10 ∷ []))
line_ends st.StartRecord fields field [] e = tt
line_ends st.StartField fields field [] e = tt
line_ends st.InField fields field [] e = tt
line_ends st.InQuoted fields field [] e = longer fields field e
line_ends st.AfterQuote fields field [] e = tt
line_ends st.InEscape fields field [] e = longer fields field e
line_ends st.InComment fields field [] e = tt
line_ends st.AfterCr fields field [] e = tt
line_ends s fields field (c ∷ xs) e =
    let t = (step default_config s c).0 in
    let a = (step default_config s c).1 in
    let go : (b : Bool)
    → (if b then fields_after a fields field ∷ all_from t [] [] (xs ++ 10 ∷ []) else all_from t (fields_after a fields field) (field_after a c field) (xs ++ 10 ∷ []))
    ≡ (if b then fields_after a fields field ∷ all_from t [] [] xs else all_from t (fields_after a fields field) (field_after a c field) xs)
    → Between (state_after t (xs ++ 10 ∷ [])) = elim [
      | true ↦ λ k. (let rest : all_from t [] [] (xs ++ 10 ∷ []) ≡ all_from t [] [] xs = cc k in line_ends t [] [] xs rest)
      | false ↦ λ k. line_ends t (fields_after a fields field) (field_after a c field) xs k
    ] in
    go (is_end a) e

-- ---- below one header line

rows_join : (read : List ℕ → Option (List Fields)) (header : List ℕ) → ((rows : List ℕ) → read (header ++ rows) ≡ Some (all_from st.StartRecord [] [] rows)) → RowsJoin read header
rows_join read header is rows others ends = record {
  front = all_from st.StartRecord [] [] rows;
  back = all_from st.StartRecord [] [] others;
  of_first = is rows;
  of_second = is others;
  of_joined = is (rows ++ others) ∙ ap Some (joined_from st.StartRecord [] [] rows others (refl, refl) (between ends));
}
  where
    between : EndsLine read header rows → Between (state_after st.StartRecord rows)
    between (inl none) = subst (λ r. Between (state_after st.StartRecord r)) (sym none) tt
    between (inr (text, ends, same)) =
        let both : Some (all_from st.StartRecord [] [] rows) ≡ Some (all_from st.StartRecord [] [] text) = sym (is rows) ∙ sym same ∙ is text in
        let read_same : all_from st.StartRecord [] [] rows ≡ all_from st.StartRecord [] [] text = cc both in
        subst (λ r. Between (state_after st.StartRecord r)) (sym ends) (line_ends st.StartRecord [] [] text (ap (all_from st.StartRecord [] []) (sym ends) ∙ read_same))

whole : (bytes : List ℕ) → records default_config bytes ≡ all_from st.StartRecord [] [] bytes
whole bytes = all_records (length bytes + 1) st.StartRecord bytes (omega arith)

teams_read : (rows : List ℕ) → csv_records team_names (codes "id,name,group_ids,hidden\n" ++ rows) ≡ Some (all_from st.StartRecord [] [] rows)
unfolding strip_bom
teams_read rows = ap (records_under team_names) (whole (codes "id,name,group_ids,hidden\n" ++ rows))

accounts_read : (rows : List ℕ) → csv_records account_names (codes "id,role,team_id,token\n" ++ rows) ≡ Some (all_from st.StartRecord [] [] rows)
unfolding strip_bom
accounts_read rows = ap (records_under account_names) (whole (codes "id,role,team_id,token\n" ++ rows))

verdicts_read : (rows : List ℕ) → verdict_records (codes "submission_id,judgement_type_id\n" ++ rows) ≡ Some (all_from st.StartRecord [] [] rows)
unfolding strip_bom
verdicts_read rows = ap below_header (whole (codes "submission_id,judgement_type_id\n" ++ rows))

pub csv_rows_join : CsvRowsJoin
csv_rows_join = record {
  teams = rows_join (csv_records team_names) (codes "id,name,group_ids,hidden\n") teams_read;
  accounts = rows_join (csv_records account_names) (codes "id,role,team_id,token\n") accounts_read;
  verdicts = rows_join verdict_records (codes "submission_id,judgement_type_id\n") verdicts_read;
}
