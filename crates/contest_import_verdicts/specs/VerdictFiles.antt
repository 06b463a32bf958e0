-- What a CSV file of verdicts adds (own): its records are judged in order, each against what stands and the records before it.
use Rattle.std.specs.Prelude.{ℕ, ◌+◌, ◌&&◌, Bool, false, List, [], ◌∷◌, ◌++◌, map, Option, Some, None, Result, Ok, Err, codes, if◌then◌else◌}
use Rattle.std.specs.List.{filter_map, flat_map}
use Rattle.std.specs.Option.{option_and_then, option_map, option_map_or}
use Rattle.std.specs.Str.{bytes_eq}
use Rattle.csv.specs.Reading.{default_config, records, strip_bom}
use Rattle.contest_files.specs.FieldTexts.{Text}
use Rattle.contest_types.specs.IdText.{id_of}
use Rattle.contest_types.specs.State.{ContestState, FixedPart}
use Rattle.contest_types.specs.VerdictAdditions.{verdict_addition}
use Rattle.contest_types.specs.declared.entry.Entry.{Entry}
use Rattle.contest_types.specs.declared.proposal.Proposer.TheVariants.{Import}
use Rattle.contest_types.specs.declared.refusal.Cause.{Cause}
use Rattle.contest_types.specs.declared.refusal.Cause.TheVariants as cause
use Rattle.contest_types.specs.declared.refusal.Refusal.{Refusal}
use Rattle.contest_types.specs.declared.refusal.Refusal.TheVariants.{ImportRow, Malformed}
use Rattle.contest_rules.specs.Proposing.{entries_of, release_at_once}
use Rattle.contest_rules.specs.Verdicts.{named_verdict}
use Rattle.contest_rules.specs.declared.proposing.NewVerdict.{NewVerdict}
use Rattle.contest_rules.specs.declared.verdicts.NamedVerdict.{NamedVerdict}
use Rattle.contest_rules.specs.declared.verdicts.WantedVerdict.{WantedVerdict}

-- the fields of a record that has two
pub record TwoFields : Type 0 where
  pub first : Text
  pub second : Text

abbrev pub two_of : List Text → Option TwoFields
two_of (a ∷ b ∷ []) = Some (record { first = a; second = b })
two_of _ = None

-- `submission_id,judgement_type_id`
abbrev pub are_names : TwoFields → Bool
are_names f = bytes_eq f.first (codes "submission_id") && bytes_eq f.second (codes "judgement_type_id")

abbrev pub is_header : List Text → Bool
is_header row = option_map_or are_names (two_of row) false

-- the verdict that a record says: two ids
abbrev pub wanted_by : TwoFields → Option WantedVerdict
wanted_by f =
    option_and_then (λ submission. option_map (λ judgement_type. record { submission = submission; judgement_type = judgement_type }) (id_of f.second)) (id_of f.first)

abbrev pub wanted_in : List Text → Option WantedVerdict
wanted_in row = option_and_then wanted_by (two_of row)

-- it is proposed by the reserved account `import`, and released at once where nobody has to verify it
abbrev pub imported_verdict : FixedPart → (now : ℕ) → NamedVerdict → NewVerdict
imported_verdict f now n = record {
  proposal = record { team = n.team; number = n.number; verdict = n.verdict; proposer = Import; time = now };
  release = release_at_once f now n;
}

abbrev pub verdict_on : FixedPart → (now : ℕ) → Option NamedVerdict → Result NewVerdict Cause
verdict_on f now None = Err cause.UnknownReference
verdict_on f now (Some n) = Ok (imported_verdict f now n)

abbrev pub verdict_wanted : ContestState → (now : ℕ) → Option WantedVerdict → Result NewVerdict Cause
verdict_wanted x now None = Err cause.Malformed
verdict_wanted x now (Some w) = verdict_on x.fixed now (named_verdict x.fixed x.submissions w)

-- the verdict of a record
abbrev pub record_verdict : ContestState → (now : ℕ) → List Text → Result NewVerdict Cause
record_verdict x now row = verdict_wanted x now (wanted_in row)

-- a contest with these verdicts too
abbrev pub with_verdicts : ContestState → List NewVerdict → ContestState
with_verdicts x so_far = record x { proposals = x.proposals ++ map (λ (v : NewVerdict). v.proposal) so_far; releases = x.releases ++ filter_map (λ (v : NewVerdict). v.release) so_far }

abbrev pub if_added : List NewVerdict → NewVerdict → Result Bool Cause → Result (List NewVerdict) Cause
if_added so_far v (Err c) = Err c
if_added so_far v (Ok added) = Ok (if added then so_far ++ v ∷ [] else so_far)

abbrev pub with_verdict : ContestState → List NewVerdict → Result NewVerdict Cause → Result (List NewVerdict) Cause
with_verdict x so_far (Err c) = Err c
with_verdict x so_far (Ok v) = if_added so_far v (verdict_addition (with_verdicts x so_far) v.proposal)

-- the verdicts so far with that of one record more; an equal one that stands adds nothing
abbrev pub after_record : ContestState → (now : ℕ) → List NewVerdict → List Text → Result (List NewVerdict) Cause
after_record x now so_far row = with_verdict x so_far (record_verdict x now row)

abbrev pub or_fault_of : (n : ℕ) → (List NewVerdict → Result (List NewVerdict) Refusal) → Result (List NewVerdict) Cause → Result (List NewVerdict) Refusal
or_fault_of n more (Err c) = Err (ImportRow n c)
or_fault_of n more (Ok so_far) = more so_far

-- with those of records n, n + 1 and so on, or the first of them at fault
abbrev pub after_records : ContestState → (now : ℕ) → List NewVerdict → (n : ℕ) → List (List Text) → Result (List NewVerdict) Refusal
after_records x now so_far n [] = Ok so_far
after_records x now so_far n (row ∷ rows) = or_fault_of n (λ more. after_records x now more (n + 1) rows) (after_record x now so_far row)

-- the records below the header, which are numbered from 1; none where the header isn't there
abbrev pub below_header : List (List Text) → Option (List (List Text))
below_header [] = None
below_header (header ∷ rows) = if is_header header then Some rows else None

abbrev pub verdict_records : (bytes : List ℕ) → Option (List (List Text))
verdict_records bytes = below_header (records default_config (strip_bom bytes))

abbrev pub verdicts_in : ContestState → (now : ℕ) → Option (List (List Text)) → Result (List NewVerdict) Refusal
verdicts_in x now None = Err Malformed
verdicts_in x now (Some rows) = after_records x now [] 1 rows

abbrev pub entries_if : Result (List NewVerdict) Refusal → Result (List Entry) Refusal
entries_if (Err refusal) = Err refusal
entries_if (Ok verdicts) = Ok (flat_map entries_of verdicts)

-- what a file adds, or why it is refused
abbrev pub verdict_rows : ContestState → (now : ℕ) → (bytes : List ℕ) → Result (List Entry) Refusal
verdict_rows x now bytes = entries_if (verdicts_in x now (verdict_records bytes))

-- Words of private functions, from here on: nothing public is said with them.

abbrev pub names : TwoFields
names = record { first = codes "submission_id"; second = codes "judgement_type_id" }
