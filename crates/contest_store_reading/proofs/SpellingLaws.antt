-- A contest and what its tables spell are one to one.
use Rattle.std.proofs.Common.{◌≡◌, ◌∙◌, ◌≤◌, ℕ, ◌+◌, List, [], ◌∷◌, length, map, Option, Some, None, refl, sym, ap}
use Rattle.std.specs.List.{AllByRecursion}
use Rattle.std.specs.Option.{option_map}
use Rattle.sqlite_value.specs.Order.{Row}
use Rattle.contest_types.specs.Loads.{without_file}
use Rattle.contest_types.specs.Setup.{Setup, IsValid}
use Rattle.contest_types.specs.State.{ContestState, FixedPart}
use Rattle.contest_types.specs.declared.limits.TheConstants.{POSTED_FILE}
use Rattle.contest_types.specs.declared.clarification.Clarification.{Clarification}
use Rattle.contest_types.specs.declared.proposal.Proposal.{Proposal}
use Rattle.contest_types.specs.declared.rejudging.Rejudging.{Rejudging}
use Rattle.contest_types.specs.declared.submission.Release.{Release}
use Rattle.contest_types.specs.declared.submission.Submission.{Submission}
use Rattle.contest_store_rows.specs.Clarifications.{clarification_in, clarifications_in}
use Rattle.contest_store_rows.specs.Laws.{IsWritableClarification, IsWritableProposal, IsWritableRelease, IsWritableSubmission}
use Rattle.contest_store_rows.specs.ListRows.{clarification_row, loaded_submission_row, proposal_row, release_row}
use Rattle.contest_store_rows.specs.Lists.{list_from, list_in}
use Rattle.contest_store_rows.specs.Proposals.{proposal_in}
use Rattle.contest_store_rows.specs.Rejudgings.{rejudgings_in}
use Rattle.contest_store_rows.specs.Releases.{release_in}
use Rattle.contest_store_rows.specs.Submissions.{submission_in}
use Rattle.contest_store_rows.specs.Tables.{Tables}
use Rattle.contest_store_rows.specs.declared.versions.TheConstants.{VERSION}
use Rattle.contest_store_rows.specs.declared.versions.Version.{Version}
use Rattle.contest_store_rows.specs.declared.versions.Version.TheVariants.{First, Second}
use Rattle.contest_store_rows.proofs.ClarificationLaws.{clarifications_read_back, clarifications_write_back}
use Rattle.contest_store_rows.proofs.ListLaws.{list_back, list_written, parts, rows_from}
use Rattle.contest_store_rows.proofs.RejudgingLaws.{rejudgings_read_back, rejudgings_write_back}
use Rattle.contest_store_rows.proofs.RowLaws.{proposals_read_back, proposals_write_back, releases_read_back, releases_write_back, submissions_read_back, submissions_write_back}
use Rattle.contest_store_reading.specs.FixedParts.{fixed_in}
use Rattle.contest_store_reading.proofs.FixedLaws.{fixed_reads_back, fixed_writes_back}
use Rattle.contest_store_reading.proofs.OptionSteps.{bound}
use Rattle.contest_store_reading.specs.SpellingLaws.{AreClarificationRows, AreSubmissionRows, ContestsReadBack, ContestsWriteBack, FirstContestsReadBack}
use Rattle.contest_store_reading.specs.Spelling.{lists_in_version, with_clarifications_in, with_lists_in, with_proposals_in, with_rejudgings_in, with_releases_in, with_submissions_in, without_rows}

-- submissions are read without their files
submissions_from : (s : Setup) → IsValid s → (n : ℕ) (xs : List Submission) → AllByRecursion (IsWritableSubmission s) xs →
    list_from (submission_in s) n (rows_from (λ m x. loaded_submission_row s m (length x.file) x) n xs) ≡ Some (map without_file xs)
submissions_from s valid n [] all = refl
submissions_from s valid n (x ∷ xs) all = rw (submissions_read_back s valid n x all.0, submissions_from s valid (n + 1) xs all.1) refl

next_submission : (s : Setup) (n : ℕ) (r : Row) (rows : List Row) (xs : List Submission) (x : Submission) (others : List Submission) → xs ≡ x ∷ others →
    (size : ℕ) × (size ≤ POSTED_FILE) × (r ≡ loaded_submission_row s n size x) → AreSubmissionRows s (n + 1) others rows → AreSubmissionRows s n xs (r ∷ rows)
next_submission s n r rows xs x others whole first rest = rw whole (first, rest)

submissions_written : (s : Setup) (n : ℕ) (rows : List Row) (xs : List Submission) → list_from (submission_in s) n rows ≡ Some xs → AreSubmissionRows s n xs rows
submissions_written s n [] xs is =
    let none : xs ≡ [] = cc is in
    rw none tt
submissions_written s n (r ∷ rows) xs is =
    let p = parts (submission_in s n r) (list_from (submission_in s) (n + 1) rows) xs is in
    next_submission s n r rows xs p.x p.others p.whole (submissions_write_back s n r p.x p.first_is) (submissions_written s (n + 1) rows p.others p.rest_is)

pub contests_read_back : ContestsReadBack
contests_read_back x w =
    let s = x.fixed.settings in
    rw (
      fixed_reads_back VERSION x.fixed w.valid w.fixed,
      submissions_from s w.valid 1 x.submissions w.submissions,
      list_back (IsWritableProposal s) (proposal_row s) (proposal_in s) (proposals_read_back s w.valid) 1 x.proposals w.proposals,
      list_back (IsWritableRelease s) (release_row s) (release_in s) (releases_read_back s w.valid) 1 x.releases w.releases,
      list_back (IsWritableClarification s) (clarification_row s) (clarification_in s) (clarifications_read_back s w.valid) 1 x.clarifications w.clarifications,
      rejudgings_read_back s w.valid x.rejudgings w.rejudgings,
    ) refl

pub first_contests_read_back : FirstContestsReadBack
first_contests_read_back x w =
    let s = x.fixed.settings in
    rw (
      fixed_reads_back First x.fixed w.valid w.fixed,
      submissions_from s w.valid 1 x.submissions w.submissions,
      list_back (IsWritableProposal s) (proposal_row s) (proposal_in s) (proposals_read_back s w.valid) 1 x.proposals w.proposals,
      list_back (IsWritableRelease s) (release_row s) (release_in s) (releases_read_back s w.valid) 1 x.releases w.releases,
      list_back (IsWritableClarification s) (clarification_row s) (clarification_in s) (clarifications_read_back s w.valid) 1 x.clarifications w.clarifications,
      rejudgings_read_back s w.valid x.rejudgings w.rejudgings,
    ) refl

-- what one list more was read of
record Mapped {X Y : Type 0} (f : X → Y) (first : Option X) (y : Y) : Type 0 where
  pub x : X
  pub first_is : first ≡ Some x
  pub whole : y ≡ f x

mapped : {X Y : Type 0} (f : X → Y) (first : Option X) (y : Y) → option_map f first ≡ Some y → Mapped f first y
mapped f None y is = absurd (cc is)
mapped f (Some x) y is = record { x = x; first_is = refl; whole = cc (sym is) }

-- the parts that were read of all tables
record Read (version : Version) (t : Tables) (x : ContestState) : Type 0 where
  pub fixed : fixed_in version t.desk t.contest t.items t.accounts ≡ Some x.fixed
  pub submissions : list_in (submission_in x.fixed.settings) t.submissions ≡ Some x.submissions
  pub proposals : list_in (proposal_in x.fixed.settings) t.proposals ≡ Some x.proposals
  pub releases : list_in (release_in x.fixed.settings) t.releases ≡ Some x.releases
  pub clarifications : clarifications_in version x.fixed.settings t.clarifications t.notices ≡ Some x.clarifications
  pub rejudgings : rejudgings_in x.fixed.settings t.rejudgings t.members ≡ Some x.rejudgings

-- what was read of each list stays while the others are read
steps_read : (version : Version) (t : Tables) (f : FixedPart) (b c d e x : ContestState) (ss : List Submission) (ps : List Proposal) (vs : List Release) (cs : List Clarification) (js : List Rejudging) →
    b ≡ record (without_rows f) { submissions = ss } → c ≡ record b { proposals = ps } → d ≡ record c { releases = vs } → e ≡ record d { clarifications = cs } → x ≡ record e { rejudgings = js } →
    fixed_in version t.desk t.contest t.items t.accounts ≡ Some f → list_in (submission_in f.settings) t.submissions ≡ Some ss → list_in (proposal_in b.fixed.settings) t.proposals ≡ Some ps → list_in (release_in c.fixed.settings) t.releases ≡ Some vs →
    clarifications_in version d.fixed.settings t.clarifications t.notices ≡ Some cs → rejudgings_in e.fixed.settings t.rejudgings t.members ≡ Some js → Read version t x
steps_read version t f b c d e x ss ps vs cs js to_b to_c to_d to_e to_x fixed submissions proposals releases clarifications rejudgings =
    let from_e : x.fixed ≡ e.fixed = ap (λ (y : ContestState). y.fixed) to_x in
    let from_d : x.fixed ≡ d.fixed = from_e ∙ ap (λ (y : ContestState). y.fixed) to_e in
    let from_c : x.fixed ≡ c.fixed = from_d ∙ ap (λ (y : ContestState). y.fixed) to_d in
    let from_b : x.fixed ≡ b.fixed = from_c ∙ ap (λ (y : ContestState). y.fixed) to_c in
    let from_f : x.fixed ≡ f = from_b ∙ ap (λ (y : ContestState). y.fixed) to_b in
    let last_cs : x.clarifications ≡ cs = ap (λ (y : ContestState). y.clarifications) to_x ∙ ap (λ (y : ContestState). y.clarifications) to_e in
    let last_vs : x.releases ≡ vs = ap (λ (y : ContestState). y.releases) to_x ∙ ap (λ (y : ContestState). y.releases) to_e ∙ ap (λ (y : ContestState). y.releases) to_d in
    let last_ps : x.proposals ≡ ps = ap (λ (y : ContestState). y.proposals) to_x ∙ ap (λ (y : ContestState). y.proposals) to_e ∙ ap (λ (y : ContestState). y.proposals) to_d ∙ ap (λ (y : ContestState). y.proposals) to_c in
    let last_ss : x.submissions ≡ ss = ap (λ (y : ContestState). y.submissions) to_x ∙ ap (λ (y : ContestState). y.submissions) to_e ∙ ap (λ (y : ContestState). y.submissions) to_d ∙ ap (λ (y : ContestState). y.submissions) to_c ∙ ap (λ (y : ContestState). y.submissions) to_b in
    record {
      fixed = fixed ∙ ap Some (sym from_f);
      submissions = ap (λ (g : FixedPart). list_in (submission_in g.settings) t.submissions) from_f ∙ submissions ∙ ap Some (sym last_ss);
      proposals = ap (λ (g : FixedPart). list_in (proposal_in g.settings) t.proposals) from_b ∙ proposals ∙ ap Some (sym last_ps);
      releases = ap (λ (g : FixedPart). list_in (release_in g.settings) t.releases) from_c ∙ releases ∙ ap Some (sym last_vs);
      clarifications = ap (λ (g : FixedPart). clarifications_in version g.settings t.clarifications t.notices) from_d ∙ clarifications ∙ ap Some (sym last_cs);
      rejudgings = ap (λ (g : FixedPart). rejudgings_in g.settings t.rejudgings t.members) from_e ∙ rejudgings ∙ ap Some (sym (ap (λ (y : ContestState). y.rejudgings) to_x));
    }

all_read : (version : Version) (t : Tables) (x : ContestState) → lists_in_version version t ≡ Some x → Read version t x
all_read version t x is =
    let f = bound (λ f. with_lists_in version t (without_rows f)) (fixed_in version t.desk t.contest t.items t.accounts) x is in
    let e = bound (with_rejudgings_in t) _ x f.next_is in
    let d = bound (with_clarifications_in version t) _ e.x e.first_is in
    let c = bound (with_releases_in t) _ d.x d.first_is in
    let b = bound (with_proposals_in t) (with_submissions_in t (without_rows f.x)) c.x c.first_is in
    let to_b = mapped (λ rows. record (without_rows f.x) { submissions = rows }) _ b.x b.first_is in
    let to_c = mapped (λ rows. record b.x { proposals = rows }) _ c.x b.next_is in
    let to_d = mapped (λ rows. record c.x { releases = rows }) _ d.x c.next_is in
    let to_e = mapped (λ rows. record d.x { clarifications = rows }) _ e.x d.next_is in
    let to_x = mapped (λ rows. record e.x { rejudgings = rows }) _ x e.next_is in
    steps_read version t f.x b.x c.x d.x e.x x to_b.x to_c.x to_d.x to_e.x to_x.x to_b.whole to_c.whole to_d.whole to_e.whole to_x.whole
    f.first_is to_b.first_is to_c.first_is to_d.first_is to_e.first_is to_x.first_is

clarifications_written : (version : Version) (s : Setup) (first today : List Row) (cs : List Clarification) → clarifications_in version s first today ≡ Some cs → AreClarificationRows version s cs first today
clarifications_written First s first [] cs is = (list_written (clarification_row s) (clarification_in s) (clarifications_write_back s) 1 first cs is, refl)
clarifications_written First s first (r ∷ rest) cs is = absurd (cc is)
clarifications_written Second s [] today cs is = (refl, list_written (clarification_row s) (clarification_in s) (clarifications_write_back s) 1 today cs is)
clarifications_written Second s (r ∷ rest) today cs is = absurd (cc is)

pub contests_write_back : ContestsWriteBack
contests_write_back version t x is =
    let r = all_read version t x is in
    let s = x.fixed.settings in
    let members = rejudgings_write_back s t.rejudgings t.members x.rejudgings r.rejudgings in
    record {
      fixed = fixed_writes_back version t.desk t.contest t.items t.accounts x.fixed r.fixed;
      submissions = submissions_written s 1 t.submissions x.submissions r.submissions;
      proposals = list_written (proposal_row s) (proposal_in s) (proposals_write_back s) 1 t.proposals x.proposals r.proposals;
      releases = list_written (release_row s) (release_in s) (releases_write_back s) 1 t.releases x.releases r.releases;
      clarifications = clarifications_written version s t.clarifications t.notices x.clarifications r.clarifications;
      rejudgings = members.0;
      members = members.1;
    }
