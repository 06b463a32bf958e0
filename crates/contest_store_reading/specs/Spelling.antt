-- The contest that the rows of all tables spell in a version of the schema, or none: the fixed part, and then list after list. A submission's
-- file isn't loaded, and stays empty.
use Rattle.std.specs.Prelude.{[], Option}
use Rattle.std.specs.Option.{option_and_then, option_map}
use Rattle.contest_types.specs.State.{ContestState, FixedPart}
use Rattle.contest_store_rows.specs.Clarifications.{clarifications_in}
use Rattle.contest_store_rows.specs.Lists.{list_in}
use Rattle.contest_store_rows.specs.Proposals.{proposal_in}
use Rattle.contest_store_rows.specs.Rejudgings.{rejudgings_in}
use Rattle.contest_store_rows.specs.Releases.{release_in}
use Rattle.contest_store_rows.specs.Submissions.{submission_in}
use Rattle.contest_store_rows.specs.Tables.{Tables}
use Rattle.contest_store_rows.specs.declared.versions.TheConstants.{VERSION}
use Rattle.contest_store_rows.specs.declared.versions.Version.{Version}
use Rattle.contest_store_reading.specs.FixedParts.{fixed_in}
use Rattle.contest_store_reading.specs.declared.loaded_rows.LoadedRows.{LoadedRows}

abbrev pub tables_of : LoadedRows → Tables
tables_of r = record {
  desk = r.desk.items;
  contest = r.contest.items;
  items = r.items.items;
  accounts = r.accounts.items;
  submissions = r.submissions.items;
  proposals = r.proposals.items;
  releases = r.releases.items;
  rejudgings = r.rejudgings.items;
  members = r.members.items;
  clarifications = r.clarifications.items;
  notices = r.notices.items;
}

abbrev pub without_rows : FixedPart → ContestState
without_rows f = record { fixed = f; submissions = []; proposals = []; releases = []; clarifications = []; rejudgings = [] }

abbrev pub with_submissions_in : Tables → ContestState → Option ContestState
with_submissions_in t x = option_map (λ rows. record x { submissions = rows }) (list_in (submission_in x.fixed.settings) t.submissions)

abbrev pub with_proposals_in : Tables → ContestState → Option ContestState
with_proposals_in t x = option_map (λ rows. record x { proposals = rows }) (list_in (proposal_in x.fixed.settings) t.proposals)

abbrev pub with_releases_in : Tables → ContestState → Option ContestState
with_releases_in t x = option_map (λ rows. record x { releases = rows }) (list_in (release_in x.fixed.settings) t.releases)

abbrev pub with_clarifications_in : Version → Tables → ContestState → Option ContestState
with_clarifications_in version t x = option_map (λ rows. record x { clarifications = rows }) (clarifications_in version x.fixed.settings t.clarifications t.notices)

abbrev pub with_rejudgings_in : Tables → ContestState → Option ContestState
with_rejudgings_in t x = option_map (λ rows. record x { rejudgings = rows }) (rejudgings_in x.fixed.settings t.rejudgings t.members)

abbrev pub with_lists_in : Version → Tables → ContestState → Option ContestState
with_lists_in version t x =
    option_and_then (with_rejudgings_in t) (option_and_then (with_clarifications_in version t) (option_and_then (with_releases_in t)
    (option_and_then (with_proposals_in t) (with_submissions_in t x))))

abbrev pub lists_in_version : Version → Tables → Option ContestState
lists_in_version version t = option_and_then (λ f. with_lists_in version t (without_rows f)) (fixed_in version t.desk t.contest t.items t.accounts)

-- and in the version of today
abbrev pub lists_in : Tables → Option ContestState
lists_in = lists_in_version VERSION
