-- The event feed that the jury is given of a contest, read as that of another system (Contest API 2023-06, event feed;
-- that both halves fit is own).
use Rattle.std.specs.Prelude.{◌≡◌, ◌⊎◌, ℕ, Bool, true, List, None, Result, Ok, Err}
use Rattle.contest_types.specs.State.{ContestState}
use Rattle.contest_types.specs.Valid.{is_valid}
use Rattle.contest_types.specs.declared.audience.Audience.TheVariants.{Jury}
use Rattle.contest_types.specs.declared.refusal.Refusal.{Refusal}
use Rattle.contest_types.specs.declared.refusal.Refusal.TheVariants.{BodyTooLarge}
use Rattle.contest_score.specs.Contest.{board_for, seen_board}
use Rattle.contest_score.specs.declared.row.Row.{Row}
use Rattle.contest_objects.specs.EventFeed.{feed_text}
use Rattle.contest_view.specs.Feeds.{feed_events}
use Rattle.contest_replay.specs.ReplayContest.{marks_for, replay_contest, up_to}
use Rattle.contest_feed_reader.specs.FeedContests.{contest_in_feed}
use Rattle.contest_feed_reader.specs.declared.feed_contest.FeedContest.{FeedContest}
use Rattle.contest_round_trip.specs.Forms.{HasForms}

-- the bytes of the feed that the jury is given at a moment
abbrev pub jurys_feed : (now : ℕ) → ContestState → List ℕ
jurys_feed now x = feed_text (feed_events Jury now x)

-- the rows of the jury's board of the contest that was read of a feed, at its end, thawed or not
abbrev pub audited_rows : (thawed : Bool) → FeedContest → List Row
audited_rows thawed feed =
    let s = feed.contest.settings in
    let end = s.head.duration in
    (seen_board Jury end None (replay_contest s (marks_for s thawed) (up_to end feed.contest.submissions))).rows

-- the feed is larger than one may be, or its contest has these rows, and all of it counts
abbrev pub IsAuditedTo : (thawed : Bool) → List Row → Result FeedContest Refusal → Type 0
IsAuditedTo thawed rows found =
    (found ≡ Err BodyTooLarge)
    ⊎ ((feed : FeedContest) × (found ≡ Ok feed) × (audited_rows thawed feed ≡ rows) × (feed.left_out ≡ record { submissions = 0; judgements = 0 }))

-- at any moment the jury's feed of a valid contest is audited to the rows of the jury's board
abbrev pub JurysFeedIsAudited : Type 0
JurysFeedIsAudited =
    (now : ℕ) (thawed : Bool) (x : ContestState) → is_valid x ≡ true → HasForms x
    → IsAuditedTo thawed (board_for Jury now None x) (contest_in_feed (jurys_feed now x))
