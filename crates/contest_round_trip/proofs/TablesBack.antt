-- The jury's feed is read back as rows of what it was made of.
use Rattle.std.proofs.Common.{◌≡◌, ◌∙◌, ◌+◌, ℕ, true, List, [], ◌∷◌, ◌++◌, None, Ok, length, map, refl, sym, ap, append_assoc, codes}
use Rattle.std.specs.Prelude.{All}
use Rattle.contest_types.specs.Judging.{SeenJudgement, seen_judgements}
use Rattle.contest_types.specs.Places.{are_different}
use Rattle.contest_types.specs.Setup.{Setup}
use Rattle.contest_types.specs.Sight.{seen_submissions}
use Rattle.contest_types.specs.State.{ContestState}
use Rattle.contest_types.specs.declared.audience.Audience.TheVariants.{Jury}
use Rattle.contest_objects.specs.ContestObjects.{whole_data}
use Rattle.contest_objects.specs.EventFeed.{FeedEvent, item_event, whole_event}
use Rattle.contest_objects.specs.Items.{Item}
use Rattle.contest_objects.specs.SettingsObjects.{group_item, language_item, problem_item, team_item, type_item}
use Rattle.contest_objects.specs.declared.contest_objects.ContestEndpoint.TheVariants.{Contest, State}
use Rattle.contest_view.specs.Awards.{award_items}
use Rattle.contest_view.specs.Clarifications.{clarification_items}
use Rattle.contest_view.specs.Feeds.{events, feed_events}
use Rattle.contest_view.specs.Judgements as view
use Rattle.contest_view.specs.Reads.{submission_item}
use Rattle.contest_feed_reader.specs.Collections.{rows_after}
use Rattle.contest_feed_reader.specs.FeedTypes.{GroupRead, JudgementRead, ProblemRead, SubmissionRead, TablesRead, TeamRead, TypeRead}
use Rattle.contest_feed_reader.specs.Objects.{ContestMembers, contest_members, group_members, judgement_members, problem_members, submission_members, team_members, type_members}
use Rattle.contest_feed_reader.specs.Tables.{no_tables, or_fault_at, with_rows}
use Rattle.contest_round_trip.specs.Audited.{listed_problems}
use Rattle.contest_round_trip.proofs.CollectionsBack.{collection_back, events_of, made_ids, puts, unused_back}
use Rattle.contest_round_trip.proofs.HeardEvents.{IsMade, Made, after_events, rows_from}
use Rattle.contest_round_trip.proofs.ObjectsBack.{contest_made, group_made, problem_made, team_made, type_made}
use Rattle.contest_round_trip.proofs.SeenBack.{judgement_made, submission_made}

-- ---- what is made of each list

abbrev pub made_types : ContestState → List (Made TypeRead)
made_types x = map type_made x.fixed.settings.types

abbrev pub made_problems : ContestState → List (Made ProblemRead)
made_problems x = map problem_made (listed_problems x.fixed.settings)

abbrev pub made_groups : ContestState → List (Made GroupRead)
made_groups x = map group_made x.fixed.settings.groups

abbrev pub made_teams : ContestState → List (Made TeamRead)
made_teams x = map (team_made x.fixed.settings) x.fixed.settings.teams

abbrev pub made_submissions : (now : ℕ) → ContestState → List (Made SubmissionRead)
made_submissions now x = map (submission_made x) (seen_submissions Jury now x)

abbrev pub made_judgement : ContestState → SeenJudgement → Made JudgementRead
made_judgement x w = judgement_made x w.submission w.judgement

abbrev pub made_judgements : (now : ℕ) → ContestState → List (Made JudgementRead)
made_judgements now x = map (made_judgement x) (seen_judgements Jury now x)

abbrev pub made_contest : ContestState → Made ContestMembers
made_contest x = contest_made x.fixed.settings.head x.fixed.marks

-- the rows of all of it, each collection's from a line on
abbrev pub tables_at : (now : ℕ) → ContestState → (types problems groups teams submissions judgements : ℕ) → TablesRead
tables_at now x a b c d e f = record {
  contests = rows_from 1 (made_contest x ∷ []);
  types = rows_from a (made_types x);
  problems = rows_from b (made_problems x);
  groups = rows_from c (made_groups x);
  teams = rows_from d (made_teams x);
  submissions = rows_from e (made_submissions now x);
  judgements = rows_from f (made_judgements now x);
}

-- they are read so, and no two of a collection have one id
pub record AreMade (now : ℕ) (x : ContestState) : Type 0 where
  pub contest : IsMade contest_members (made_contest x)
  pub types : All (IsMade type_members) (made_types x)
  pub problems : All (IsMade problem_members) (made_problems x)
  pub groups : All (IsMade group_members) (made_groups x)
  pub teams : All (IsMade team_members) (made_teams x)
  pub submissions : All (IsMade submission_members) (made_submissions now x)
  pub judgements : All (IsMade judgement_members) (made_judgements now x)
  pub type_ids : are_different (made_ids (made_types x)) ≡ true
  pub problem_ids : are_different (made_ids (made_problems x)) ≡ true
  pub group_ids : are_different (made_ids (made_groups x)) ≡ true
  pub team_ids : are_different (made_ids (made_teams x)) ≡ true
  pub submission_ids : are_different (made_ids (made_submissions now x)) ≡ true
  pub judgement_ids : are_different (made_ids (made_judgements now x)) ≡ true

made_events : {X A : Type 0} (collection : List ℕ) (serve : X → Item) (made : X → Made A) → ((y : X) → (made y).item ≡ serve y) → (xs : List X) → events collection (map serve xs) ≡ events_of collection (map made xs)
made_events collection serve made same [] = refl
made_events {X} {A} collection serve made same (y ∷ xs) =
    ap (λ i. item_event collection i ∷ events collection (map serve xs)) (sym (same y)) ∙ ap (λ es. item_event collection (made y).item ∷ es) (made_events collection serve made same xs)

-- ---- all events in turn

module _ (now : ℕ) (x : ContestState) (m : AreMade now x) where
  abbrev s : Setup
  s = x.fixed.settings

  abbrev last : List FeedEvent
  last = whole_event (codes "state") (whole_data State x.fixed now) ∷ []

  abbrev awards : List FeedEvent
  awards = events (codes "awards") (award_items Jury now x) ++ last

  abbrev talk : List FeedEvent
  talk = events (codes "clarifications") (clarification_items Jury x) ++ awards

  abbrev verdicts : List FeedEvent
  verdicts = events_of (codes "judgements") (made_judgements now x) ++ talk

  abbrev attempts : List FeedEvent
  attempts = events_of (codes "submissions") (made_submissions now x) ++ verdicts

  abbrev of_teams : List FeedEvent
  of_teams = events_of (codes "teams") (made_teams x) ++ attempts

  abbrev of_groups : List FeedEvent
  of_groups = events_of (codes "groups") (made_groups x) ++ of_teams

  abbrev of_problems : List FeedEvent
  of_problems = events_of (codes "problems") (made_problems x) ++ of_groups

  abbrev of_languages : List FeedEvent
  of_languages = events (codes "languages") (map language_item s.languages) ++ of_problems

  abbrev of_types : List FeedEvent
  of_types = events_of (codes "judgement-types") (made_types x) ++ of_languages

  flat : (a b c d e f g h i j : List FeedEvent) → ((a ++ (b ++ (c ++ (d ++ e)))) ++ (f ++ (g ++ (h ++ i)))) ++ j ≡ a ++ (b ++ (c ++ (d ++ (e ++ (f ++ (g ++ (h ++ (i ++ j))))))))
  flat a b c d e f g h i j = simp append_assoc

  in_turn : feed_events Jury now x ≡ whole_event (codes "contest") (whole_data Contest x.fixed now) ∷ of_types
  in_turn =
      let t = made_events (codes "judgement-types") type_item type_made (λ y. refl) s.types in
      let p = made_events (codes "problems") problem_item problem_made (λ y. refl) (listed_problems s) in
      let g = made_events (codes "groups") group_item group_made (λ y. refl) s.groups in
      let u = made_events (codes "teams") (team_item s) (team_made s) (λ y. refl) s.teams in
      let v = made_events (codes "submissions") (submission_item x.fixed) (submission_made x) (λ y. refl) (seen_submissions Jury now x) in
      let w = made_events (codes "judgements") (view.item_of x.fixed) (made_judgement x) (λ y. refl) (seen_judgements Jury now x) in
      let l = events (codes "languages") (map language_item s.languages) in
      let k = events (codes "clarifications") (clarification_items Jury x) in
      let a = events (codes "awards") (award_items Jury now x) in
      let first = whole_event (codes "contest") (whole_data Contest x.fixed now) in
      ap (λ es. first ∷ es) (rw (t, p, g, u, v, w) (flat (events_of (codes "judgement-types") (made_types x)) l (events_of (codes "problems") (made_problems x)) (events_of (codes "groups") (made_groups x)) (events_of (codes "teams") (made_teams x))
      (events_of (codes "submissions") (made_submissions now x)) (events_of (codes "judgements") (made_judgements now x)) k a last))

  -- the lines from which on each collection stands
  abbrev pub line_types : ℕ
  line_types = 2

  abbrev pub line_languages : ℕ
  line_languages = line_types + length (made_types x)

  abbrev pub line_problems : ℕ
  line_problems = line_languages + length (map language_item s.languages)

  abbrev pub line_groups : ℕ
  line_groups = line_problems + length (made_problems x)

  abbrev pub line_teams : ℕ
  line_teams = line_groups + length (made_groups x)

  abbrev pub line_submissions : ℕ
  line_submissions = line_teams + length (made_teams x)

  abbrev pub line_judgements : ℕ
  line_judgements = line_submissions + length (made_submissions now x)

  abbrev line_talk : ℕ
  line_talk = line_judgements + length (made_judgements now x)

  abbrev line_awards : ℕ
  line_awards = line_talk + length (clarification_items Jury x)

  abbrev line_state : ℕ
  line_state = line_awards + length (award_items Jury now x)

  -- tables that have no rows yet
  abbrev t1 : TablesRead
  t1 = record no_tables { contests = rows_from 1 (made_contest x ∷ []) }

  abbrev t2 : TablesRead
  t2 = record t1 { types = rows_from line_types (made_types x) }

  abbrev t3 : TablesRead
  t3 = record t2 { problems = rows_from line_problems (made_problems x) }

  abbrev t4 : TablesRead
  t4 = record t3 { groups = rows_from line_groups (made_groups x) }

  abbrev t5 : TablesRead
  t5 = record t4 { teams = rows_from line_teams (made_teams x) }

  abbrev t6 : TablesRead
  t6 = record t5 { submissions = rows_from line_submissions (made_submissions now x) }

  abbrev t7 : TablesRead
  t7 = record t6 { judgements = rows_from line_judgements (made_judgements now x) }

  contest_first : after_events no_tables 1 (whole_event (codes "contest") (whole_data Contest x.fixed now) ∷ of_types) ≡ after_events t1 line_types of_types
  contest_first =
      ap (λ c. or_fault_at (λ u. after_events u 2 of_types) 1 (with_rows (λ rows. record no_tables { contests = rows }) (rows_after 1 [] c))) (puts contest_members (made_contest x) m.contest (codes "contest") None)

  pub tables_back : after_events no_tables 1 (feed_events Jury now x) ≡ Ok (tables_at now x line_types line_problems line_groups line_teams line_submissions line_judgements)
  tables_back =
      ap (after_events no_tables 1) in_turn
      ∙ contest_first
      ∙ collection_back type_members (codes "judgement-types") (λ t. t.types) (λ t rows. record t { types = rows }) (λ t n e. refl) (λ t rows. refl) (λ t rows others. refl) (λ t. refl) (made_types x) t1 line_types of_languages m.types m.type_ids
      ∙ unused_back (codes "languages") refl (map language_item s.languages) t2 line_languages of_problems
      ∙ collection_back problem_members (codes "problems") (λ t. t.problems) (λ t rows. record t { problems = rows }) (λ t n e. refl) (λ t rows. refl) (λ t rows others. refl) (λ t. refl) (made_problems x) t2 line_problems of_groups m.problems m.problem_ids
      ∙ collection_back group_members (codes "groups") (λ t. t.groups) (λ t rows. record t { groups = rows }) (λ t n e. refl) (λ t rows. refl) (λ t rows others. refl) (λ t. refl) (made_groups x) t3 line_groups of_teams m.groups m.group_ids
      ∙ collection_back team_members (codes "teams") (λ t. t.teams) (λ t rows. record t { teams = rows }) (λ t n e. refl) (λ t rows. refl) (λ t rows others. refl) (λ t. refl) (made_teams x) t4 line_teams attempts m.teams m.team_ids
      ∙ collection_back submission_members (codes "submissions") (λ t. t.submissions) (λ t rows. record t { submissions = rows }) (λ t n e. refl) (λ t rows. refl) (λ t rows others. refl) (λ t. refl) (made_submissions now x) t5 line_submissions verdicts m.submissions m.submission_ids
      ∙ collection_back judgement_members (codes "judgements") (λ t. t.judgements) (λ t rows. record t { judgements = rows }) (λ t n e. refl) (λ t rows. refl) (λ t rows others. refl) (λ t. refl) (made_judgements now x) t6 line_judgements talk m.judgements m.judgement_ids
      ∙ unused_back (codes "clarifications") refl (clarification_items Jury x) t7 line_talk awards
      ∙ unused_back (codes "awards") refl (award_items Jury now x) t7 line_awards last
