-- The lists that are read of loaded rows have no file in them.
use Rattle.std.proofs.Common.{◌≡◌, ◌∙◌, ℕ, [], Some, refl, subst}
use Rattle.std.specs.Prelude.{nat_le}
use Rattle.std.specs.List.{AllByRecursion}
use Rattle.sqlite_value.specs.Order.{Row, column}
use Rattle.contest_types.specs.Setup.{Setup}
use Rattle.contest_types.specs.State.{ContestState}
use Rattle.contest_types.specs.declared.limits.TheConstants.{LAST_MOMENT}
use Rattle.contest_types.specs.declared.submission.Submission.{Submission}
use Rattle.contest_store_rows.specs.Cells.{number_of}
use Rattle.contest_store_rows.specs.Clarifications.{clarifications_in}
use Rattle.contest_store_rows.specs.declared.versions.Version.{Version}
use Rattle.contest_store_rows.specs.Lists.{list_in}
use Rattle.contest_store_rows.specs.Proposals.{proposal_in}
use Rattle.contest_store_rows.specs.Readings.{id_if_any, name_if_any}
use Rattle.contest_store_rows.specs.Rejudgings.{rejudgings_in}
use Rattle.contest_store_rows.specs.Releases.{release_in}
use Rattle.contest_store_rows.specs.Submissions.{is_submission_row, submission_if, submission_in, submission_said}
use Rattle.contest_store_rows.specs.Tables.{Tables}
use Rattle.contest_store_reading.specs.FixedParts.{fixed_in}
use Rattle.contest_store_reading.proofs.OptionSteps.{bound, where_true}
use Rattle.contest_store_reading.specs.Spelling.{lists_in_version, with_clarifications_in, with_lists_in, with_proposals_in, with_rejudgings_in, with_releases_in, with_submissions_in, without_rows}
use Rattle.contest_store_changes.proofs.FoundSteps.{each_read, made, of_found}

abbrev pub HasNoFile : Submission → Type 0
HasNoFile x = x.file ≡ []

row_fileless : (s : Setup) (n : ℕ) (r : Row) (x : Submission) → submission_in s n r ≡ Some x → HasNoFile x
row_fileless s n r x is =
    let row = bound (submission_if s n r) (submission_said s r) x is in
    let said : submission_said s r ≡ Some x = row.first_is ∙ (where_true (is_submission_row s n r row.x) (Some row.x) x row.next_is).1 in
    let entry = bound _ (name_if_any (column r 6)) x said in
    let key = bound _ (id_if_any (column r 9)) x entry.next_is in
    let time = where_true (nat_le (number_of (column r 3)) LAST_MOMENT) _ x key.next_is in
    of_found HasNoFile _ x time.1 refl

abbrev AreFileless : ContestState → Type 0
AreFileless x = AllByRecursion HasNoFile x.submissions

-- list after list
with_submissions : (t : Tables) (x y : ContestState) → with_submissions_in t x ≡ Some y → AreFileless y
with_submissions t x y is =
    let m = made (λ rows. record x { submissions = rows }) (list_in (submission_in x.fixed.settings) t.submissions) y is in
    subst AreFileless m.whole (each_read (submission_in x.fixed.settings) HasNoFile (row_fileless x.fixed.settings) 1 t.submissions m.x m.first_is)

with_proposals : (t : Tables) (x y : ContestState) → AreFileless x → with_proposals_in t x ≡ Some y → AreFileless y
with_proposals t x y all is = (let m = made (λ rows. record x { proposals = rows }) (list_in (proposal_in x.fixed.settings) t.proposals) y is in subst AreFileless m.whole all)

with_releases : (t : Tables) (x y : ContestState) → AreFileless x → with_releases_in t x ≡ Some y → AreFileless y
with_releases t x y all is = (let m = made (λ rows. record x { releases = rows }) (list_in (release_in x.fixed.settings) t.releases) y is in subst AreFileless m.whole all)

with_clarifications : (version : Version) (t : Tables) (x y : ContestState) → AreFileless x → with_clarifications_in version t x ≡ Some y → AreFileless y
with_clarifications version t x y all is =
    (let m = made (λ rows. record x { clarifications = rows }) (clarifications_in version x.fixed.settings t.clarifications t.notices) y is in subst AreFileless m.whole all)

with_rejudgings : (t : Tables) (x y : ContestState) → AreFileless x → with_rejudgings_in t x ≡ Some y → AreFileless y
with_rejudgings t x y all is = (let m = made (λ rows. record x { rejudgings = rows }) (rejudgings_in x.fixed.settings t.rejudgings t.members) y is in subst AreFileless m.whole all)

pub lists_fileless : (version : Version) (t : Tables) (x : ContestState) → lists_in_version version t ≡ Some x → AllByRecursion HasNoFile x.submissions
lists_fileless version t x is =
    let f = bound (λ f. with_lists_in version t (without_rows f)) (fixed_in version t.desk t.contest t.items t.accounts) x is in
    let e = bound (with_rejudgings_in t) _ x f.next_is in
    let d = bound (with_clarifications_in version t) _ e.x e.first_is in
    let c = bound (with_releases_in t) _ d.x d.first_is in
    let b = bound (with_proposals_in t) (with_submissions_in t (without_rows f.x)) c.x c.first_is in
    with_rejudgings t e.x x (with_clarifications version t d.x e.x (with_releases t c.x d.x (with_proposals t b.x c.x (with_submissions t (without_rows f.x) b.x b.first_is) b.next_is) c.next_is) d.next_is) e.next_is
