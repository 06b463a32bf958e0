-- Rows and what is read of them, one to one.
use Rattle.std.proofs.Common.{◌≡◌, ℕ, ◌+◌, ◌-◌, Bool, true, false, cond, List, length, Option, Some, None, refl, subst, arith, inl, inr}
use Rattle.std.specs.Prelude.{nat_le, ◌==◌, ◌≢◌, IfSome, codes}
use Rattle.std.specs.List.{list_all}
use Rattle.std.specs.Option.{option_and_then}
use Rattle.std.specs.Str.{bytes_eq}
use Rattle.std.proofs.lemmas.Bool.{cases_Bool, le-leb, leb-true}
use Rattle.std.proofs.lemmas.Bool.Decides.{nat_tests}
use Rattle.std.proofs.lemmas.Slice.Eq.{bytes_eq-Decides}
use Rattle.sqlite.specs.Values.{or_null}
use Rattle.sqlite_value.specs.declared.value.Value.TheVariants.{Text}
use Rattle.sqlite_value.specs.Order.{Row, column}
use Rattle.contest_types.specs.IdText.{IsId}
use Rattle.contest_types.specs.NameText.{name_from}
use Rattle.contest_types.specs.Loads.{without_file}
use Rattle.contest_types.specs.Setup.{Setup, IsValid}
use Rattle.contest_types.specs.declared.limits.TheConstants.{LAST_MOMENT, POSTED_FILE}
use Rattle.contest_types.specs.declared.objects.JudgementType.{JudgementType}
use Rattle.contest_types.specs.declared.objects.Language.{Language}
use Rattle.contest_types.specs.declared.objects.Problem.{Problem}
use Rattle.contest_types.specs.declared.proposal.Proposal.{Proposal}
use Rattle.contest_types.specs.declared.proposal.Proposer.{Proposer}
use Rattle.contest_types.specs.declared.proposal.Proposer.TheVariants as proposer
use Rattle.contest_types.specs.declared.submission.Release.{Release}
use Rattle.contest_types.specs.declared.submission.Submission.{Submission}
use Rattle.contest_types.proofs.PlaceLemmas.{and_left, and_right}
use Rattle.contest_store_rows.specs.Cells.{number_of}
use Rattle.contest_store_rows.specs.Readings.{id_if_any, name_if_any}
use Rattle.contest_store_rows.specs.ListRows.{loaded_submission_row, proposal_row, proposer_id, release_row}
use Rattle.contest_store_rows.specs.Proposals.{proposal_in, proposal_said, proposer_of}
use Rattle.contest_store_rows.specs.Releases.{release_in, release_said}
use Rattle.contest_store_rows.specs.Submissions.{is_submission_row, submission_if, submission_said}
use Rattle.contest_store_rows.specs.Laws.{ReadsBack, WritesBack, IsWritableProposal, IsWritableProposer, IsWritableRelease, IsWritableSubmission, SubmissionsReadBack, SubmissionsWriteBack}
use Rattle.contest_store_rows.proofs.RowLemmas.{is_no_real, no_real_text, reads_back, row_itself, same_rows, writes_back}
use Rattle.contest_store_rows.proofs.PlaceBack.{place_back}

pub less_one : (n : ℕ) → n + 1 - 1 ≡ n
less_one n = omega arith

pub after_all : (n : ℕ) → (n + 1 == 0) ≡ false
after_all n = grind (arith, nat_tests)

release_is_said : (s : Setup) → IsValid s → (n : ℕ) (v : Release) → IsWritableRelease s v → release_said s (release_row s n v) ≡ Some v
release_is_said s valid n v w =
    rw (le-leb v.time LAST_MOMENT w.time, place_back (λ (t : JudgementType). t.id) s.types v.verdict valid.types w.verdict, less_one v.team) refl

pub releases_read_back : ReadsBack IsWritableRelease release_row release_in
releases_read_back s valid n v w = reads_back (release_row s n) (release_said s (release_row s n v)) v (release_is_said s valid n v w) refl

pub releases_write_back : WritesBack release_row release_in
releases_write_back s n r v is = writes_back (release_row s n) r (release_said s r) v is

other_id : (id : List ℕ) → id ≢ codes "import" → bytes_eq id (codes "import") ≡ false
other_id id other = elim (cases_Bool (bytes_eq id (codes "import"))) [
  | inl t ↦ absurd (other ((bytes_eq-Decides id (codes "import")).0 t))
  | inr f ↦ f
]

proposer_back : (p : Proposer) → IsWritableProposer p → proposer_of (proposer_id p) ≡ Some p
proposer_back (proposer.Account id) w = rw (other_id id w.1, w.0) refl
proposer_back proposer.Import w = refl

proposal_is_said : (s : Setup) → IsValid s → (n : ℕ) (p : Proposal) → IsWritableProposal s p → proposal_said s (proposal_row s n p) ≡ Some p
proposal_is_said s valid n p w =
    rw (proposer_back p.proposer w.proposer, le-leb p.time LAST_MOMENT w.time, place_back (λ (t : JudgementType). t.id) s.types p.verdict valid.types w.verdict, less_one p.team) refl

pub proposals_read_back : ReadsBack IsWritableProposal proposal_row proposal_in
proposals_read_back s valid n p w = reads_back (proposal_row s n) (proposal_said s (proposal_row s n p)) p (proposal_is_said s valid n p w) refl

pub proposals_write_back : WritesBack proposal_row proposal_in
proposals_write_back s n r p is = writes_back (proposal_row s n) r (proposal_said s r) p is

pub id_back : (id : Option (List ℕ)) → IfSome id IsId → id_if_any (or_null Text id) ≡ Some id
id_back None w = refl
id_back (Some id) w = rw w refl

pub name_back : (name : Option (List ℕ)) → IfSome name (λ t. name_from t ≡ Some t) → name_if_any (or_null Text name) ≡ Some name
name_back None w = refl
name_back (Some name) w = rw w refl

submission_is_said : (s : Setup) → IsValid s → (n : ℕ) (x : Submission) → IsWritableSubmission s x → submission_said s (loaded_submission_row s n (length x.file) x) ≡ Some (without_file x)
submission_is_said s valid n x w =
    rw (
      name_back x.entry_point w.entry_point,
      id_back x.key w.key,
      le-leb x.time LAST_MOMENT w.time,
      place_back (λ (p : Problem). p.id) s.problems x.problem valid.problems w.problem,
      place_back (λ (l : Language). l.id) s.languages x.language valid.languages w.language,
      less_one x.team,
    ) refl

pub submissions_read_back : SubmissionsReadBack
submissions_read_back s valid n x w =
    let r = loaded_submission_row s n (length x.file) x in
    let no_real : list_all is_no_real r ≡ true = rw (no_real_text x.entry_point, no_real_text x.key) refl in
    rw (submission_is_said s valid n x w, le-leb (length x.file) POSTED_FILE w.file, row_itself r no_real) refl

kept_submission : (s : Setup) (n : ℕ) (r : Row) (x y : Submission) (b : Bool) → is_submission_row s n r x ≡ b → cond b (Some x) None ≡ Some y → is_submission_row s n r y ≡ true
kept_submission s n r x y true own is =
    let same : x ≡ y = cc is in
    subst (λ z. is_submission_row s n r z ≡ true) same own
kept_submission s n r x y false own is = absurd (cc is)

said_submission : (s : Setup) (n : ℕ) (r : Row) (said : Option Submission) (x : Submission) → option_and_then (submission_if s n r) said ≡ Some x → is_submission_row s n r x ≡ true
said_submission s n r None x is = absurd (cc is)
said_submission s n r (Some y) x is = kept_submission s n r y x (is_submission_row s n r y) refl is

pub submissions_write_back : SubmissionsWriteBack
submissions_write_back s n r x is =
    let size = number_of (column r 8) in
    let own = said_submission s n r (submission_said s r) x is in
    (size, leb-true size POSTED_FILE (and_left _ _ own), same_rows r (loaded_submission_row s n size x) (and_right (nat_le size POSTED_FILE) _ own))
