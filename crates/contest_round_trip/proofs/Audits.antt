-- The jury's feed is audited to the rows of the jury's board.
use Rattle.std.proofs.Common.{◌≡◌, ◌∙◌, ◌<◌, ◌-◌, ℕ, Bool, true, false, List, [], ◌∷◌, None, Ok, length, map, filter, inl, inr, refl, ap, arith, le-leb, lt-ltb}
use Rattle.std.specs.Prelude.{◌||◌, is_some, nat_le, not}
use Rattle.std.specs.Option.{option_map_or}
use Rattle.std.specs.Str.{bytes_eq}
use Rattle.contest_types.specs.Judging.{SeenJudgement, seen_judgements}
use Rattle.contest_types.specs.Order.{Has}
use Rattle.contest_types.specs.Places.{is_among}
use Rattle.contest_types.specs.Setup.{IsValid, Setup}
use Rattle.contest_types.specs.Sight.{SeenSubmission, seen_submissions}
use Rattle.contest_types.specs.State.{ContestState}
use Rattle.contest_types.specs.TeamPlaces.{is_public}
use Rattle.contest_types.specs.Valid.{is_valid}
use Rattle.contest_types.specs.declared.audience.Audience.TheVariants.{Jury}
use Rattle.contest_types.proofs.InOrderLemmas.{has_map, map_has}
use Rattle.contest_types.proofs.PlaceLemmas.{bytes_same}
use Rattle.contest_types.proofs.SettingsTest.{is_settings}
use Rattle.contest_types.proofs.ValidParts.{parts}
use Rattle.std.proofs.lemmas.Simd.{map-map}
use Rattle.contest_score.specs.Contest.{board_for}
use Rattle.contest_score.specs.MaskedCells.{cell_for, start_of}
use Rattle.contest_score.specs.Ranking.{board_rows}
use Rattle.contest_score.specs.declared.submission.JudgedSubmission.{JudgedSubmission}
use Rattle.contest_view.specs.Feeds.{feed_events}
use Rattle.contest_replay.specs.ReplayContest.{marks_for, up_to}
use Rattle.contest_replay.specs.ReplayLists.{within}
use Rattle.contest_replay.proofs.ReplayContestLemmas.{replayed_board}
use Rattle.contest_feed_reader.specs.FeedContests.{attempts_of, contest_by, contest_if, contest_in_feed, contest_of, left_out_of, settings_of}
use Rattle.contest_feed_reader.specs.FeedTypes.{JudgementRead, RowRead, SubmissionRead, TablesRead}
use Rattle.contest_feed_reader.specs.Objects.{ContestMembers}
use Rattle.contest_feed_reader.specs.References.{counts, ids_of}
use Rattle.contest_feed_reader.specs.Tables.{no_tables}
use Rattle.contest_feed_reader.specs.declared.feed_contest.FeedContest.{FeedContest}
use Rattle.contest_round_trip.specs.Audited.{audited_attempt, audited_attempts, listed_problems}
use Rattle.contest_round_trip.specs.Forms.{HasForms}
use Rattle.contest_round_trip.specs.JurysFeeds.{IsAuditedTo, audited_rows, jurys_feed}
use Rattle.contest_round_trip.proofs.AllMade.{are_made, judgement_of_seen}
use Rattle.contest_round_trip.proofs.AllRead.{all_read}
use Rattle.contest_round_trip.proofs.AttemptsBack.{attempts_back, none_kept}
use Rattle.contest_round_trip.proofs.EventLines.{lines_back}
use Rattle.contest_round_trip.proofs.FaultlessBack.{ids_rows, row_of}
use Rattle.contest_round_trip.proofs.OwnIds.{of_seen, seen_id}
use Rattle.contest_round_trip.proofs.SameRows.{same_rows}
use Rattle.contest_round_trip.proofs.SeenBack.{submission_made}
use Rattle.contest_round_trip.proofs.SeenFacts.{seen_facts}
use Rattle.contest_round_trip.proofs.SettingsBack.{no_fault, problems_back, same_teams, teams_back, types_back}
use Rattle.contest_round_trip.proofs.TablesBack.{line_groups, line_judgements, line_problems, line_submissions, line_teams, line_types, made_contest, made_judgement, made_judgements, made_submissions, tables_at, tables_back}

all_kept : {X : Type 0} (p : X → Bool) (xs : List X) → ((x : X) → Has xs x → p x ≡ true) → filter p xs ≡ xs
all_kept p [] h = refl
all_kept p (x ∷ xs) h = rw (h x (inl refl)) (ap (λ ys. x ∷ ys) (all_kept p xs (λ y k. h y (inr k))))

among_here : {X : Type 0} (id : X → List ℕ) (xs : List X) (x : X) → Has xs x → is_among (map id xs) (id x) ≡ true
among_here id [] x h = absurd h
among_here {X} id (y ∷ xs) x h = elim h [
  | inl same ↦ (let yes : bytes_eq (id y) (id x) ≡ true = ap (λ z. bytes_eq (id y) (id z)) same ∙ bytes_same (id y) in rw yes refl)
  | inr behind ↦ or_true (bytes_eq (id y) (id x)) (is_among (map id xs) (id x)) (among_here id xs x behind)
]
  where
    or_true : (b c : Bool) → c ≡ true → (b || c) ≡ true
    or_true true c f = refl
    or_true false c f = f

module _ (now : ℕ) (x : ContestState) (valid : is_valid x ≡ true) (settings : IsValid x.fixed.settings) (forms : HasForms x) where
  abbrev s : Setup
  s = x.fixed.settings

  abbrev all : List SeenSubmission
  all = seen_submissions Jury now x

  typed : (w : SeenJudgement) → Has (seen_judgements Jury now x) w → w.judgement.verdict < length s.types
  typed w h = (judgement_of_seen now x valid settings forms w h).1.type

  module _ (a b c d e f : ℕ) where
    abbrev t : TablesRead
    t = tables_at now x a b c d e f

    abbrev contest : RowRead ContestMembers
    contest = record { id = (made_contest x).item.id; line = 1; object = (made_contest x).object }

    abbrev heard : Setup
    heard = settings_of contest t

    -- what is read of a submission is before the end
    attempt_early : (u : JudgedSubmission) → Has (audited_attempts now x) u → u.time < s.head.duration
    attempt_early u h =
        let m = map_has (audited_attempt x) all u h in
        let g = seen_facts now x valid settings m.item m.there in
        let start : start_of x.fixed.marks ≡ g.start = ap (λ o. option_map_or (λ k. k) o 0) g.started in
        let time : m.item.time ≡ g.submission.time = ap (λ (v : SeenSubmission). v.time) g.shown in
        let is : u.time ≡ m.item.time - start_of x.fixed.marks = ap (λ (w : JudgedSubmission). w.time) m.is in
        omega (arith, is, start, time, g.early, g.since)

    all_up_to : up_to s.head.duration (audited_attempts now x) ≡ audited_attempts now x
    all_up_to = all_kept (λ u. nat_le u.time s.head.duration) (audited_attempts now x) (λ u h. let early = attempt_early u h in le-leb u.time s.head.duration (omega (arith, early)))

    -- nothing is left out
    all_count : (r : RowRead SubmissionRead) → Has t.submissions r → not (counts s.head.duration r) ≡ false
    all_count r h =
        let m = row_of e (made_submissions now x) r h in
        let v = map_has (submission_made x) all m.0 m.1 in
        let object : r.object ≡ (submission_made x v.item).object = m.3 ∙ ap (λ q. q.object) v.is in
        let early = attempt_early (audited_attempt x v.item) (has_map (audited_attempt x) all v.item v.there) in
        ap (λ (o : SubmissionRead). not (is_some (within s.head.duration o.time))) object ∙ rw (lt-ltb (v.item.time - start_of x.fixed.marks) s.head.duration early) refl

    submission_ids : ids_of t.submissions ≡ map seen_id all
    submission_ids = ids_rows e (made_submissions now x) ∙ map-map (λ m. m.item.id) (submission_made x) all

    all_stand : (r : RowRead JudgementRead) → Has t.judgements r → not (is_among (ids_of t.submissions) r.object.submission) ≡ false
    all_stand r h =
        let m = row_of f (made_judgements now x) r h in
        let w = map_has (made_judgement x) (seen_judgements Jury now x) m.0 m.1 in
        let object : r.object ≡ (made_judgement x w.item).object = m.3 ∙ ap (λ q. q.object) w.is in
        let here = among_here seen_id all w.item.submission (of_seen now x valid settings w.item w.there) in
        ap (λ (o : JudgementRead). not (is_among (ids_of t.submissions) o.submission)) object ∙ rw (submission_ids, here) refl

    none_left : left_out_of s.head.duration t ≡ record { submissions = 0; judgements = 0 }
    none_left = rw (none_kept (λ row. not (counts s.head.duration row)) t.submissions all_count, none_kept (λ row. not (is_among (ids_of t.submissions) row.object.submission)) t.judgements all_stand) refl

    -- the contest that is read
    abbrev found : FeedContest
    found = record { contest = record { settings = heard; submissions = attempts_of s.head.duration t }; left_out = left_out_of s.head.duration t }

    contest_found : contest_of t ≡ Ok found
    contest_found = ap (contest_by contest t) (no_fault now x valid settings typed a b c d e f)

    rows_found : (thawed : Bool) → audited_rows thawed found ≡ board_for Jury now None x
    rows_found thawed =
        let marks = marks_for heard thawed in
        let end = heard.head.duration in
        let us = attempts_back now x valid settings typed a b c d e f in
        let teams = same_teams s heard (teams_back s c d s.groups s.teams) refl in
        ap (λ (board : _). board.rows) (replayed_board Jury heard marks end (up_to end (attempts_of s.head.duration t)))
        ∙ ap (λ vs. board_rows heard (is_public heard) (cell_for Jury heard marks end (up_to end vs))) us
        ∙ ap (λ vs. board_rows heard (is_public heard) (cell_for Jury heard marks end vs)) all_up_to
        ∙ same_rows now end x valid settings heard marks (types_back a s.types) (problems_back b (listed_problems s)) teams refl

  pub audits : (thawed : Bool) → IsAuditedTo thawed (board_for Jury now None x) (contest_in_feed (jurys_feed now x))
  audits thawed =
      let m = are_made now x valid settings forms in
      let a = line_types now x m in
      let b = line_problems now x m in
      let c = line_groups now x m in
      let d = line_teams now x m in
      let e = line_submissions now x m in
      let f = line_judgements now x m in
      let tables = tables_back now x m in
      elim (lines_back (feed_events Jury now x) no_tables 1 0 (omega arith) (omega arith) (all_read now x valid settings forms)) [
        | inl large ↦ inl (ap contest_if large)
        | inr read ↦ inr (found a b c d e f, ap contest_if (read ∙ tables) ∙ contest_found a b c d e f, rows_found a b c d e f thawed, none_left a b c d e f)
      ]

pub is_audited : (now : ℕ) (thawed : Bool) (x : ContestState) → is_valid x ≡ true → HasForms x → IsAuditedTo thawed (board_for Jury now None x) (contest_in_feed (jurys_feed now x))
is_audited now thawed x valid forms = audits now x valid (is_settings x (parts x valid).settings) forms thawed
