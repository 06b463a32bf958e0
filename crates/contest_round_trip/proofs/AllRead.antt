-- Each event of the jury's feed is one whose line is read back.
use Rattle.std.proofs.Common.{◌≡◌, ◌∙◌, ◌≤◌, ◌<◌, ℕ, Bool, true, false, List, [], ◌∷◌, ◌++◌, Option, Some, None, length, map, inl, inr, refl, sym, ap, subst, arith, codes}
use Rattle.std.specs.Prelude.{All, IfSome, if◌then◌else◌, is_some, nat_lt}
use Rattle.std.specs.Str.{IsUtf8}
use Rattle.std.proofs.lemmas.Str.{IsUtf8-append}
use Rattle.json.proofs.Printed.Utf8.{IsUtf8-are_ascii, are_ascii}
use Rattle.serde_json.specs.Data.{Data}
use Rattle.serde_json.specs.Find.{as_object}
use Rattle.contest_types.specs.Clock.{end_of, moment_after}
use Rattle.contest_types.specs.Judging.{SeenJudgement, seen_judgements}
use Rattle.contest_types.specs.Order.{Has}
use Rattle.contest_types.specs.ProblemPlaces.{label_at, problem_id_at, problem_order}
use Rattle.contest_types.specs.SettingsNames.{group_id_at, group_name_at}
use Rattle.contest_types.specs.Setup.{IsValid, Setup}
use Rattle.contest_types.specs.Sight.{Judgement, SeenSubmission, program_for, seen_clarification, seen_clarifications, seen_submission, seen_submissions}
use Rattle.contest_types.specs.State.{ContestState}
use Rattle.contest_types.specs.Valid.{is_valid}
use Rattle.contest_types.specs.declared.audience.Audience.TheVariants.{Jury}
use Rattle.contest_types.specs.declared.submission.Submission.{Submission}
use Rattle.contest_types.proofs.HeardWhole.{listed_heard}
use Rattle.contest_types.proofs.InOrderLemmas.{filter_has, has_either, map_has}
use Rattle.contest_score.specs.Awards.{awards_of, first_to_solve, group_order, group_winner, medals, shown_awards, shows_awards, winner}
use Rattle.contest_score.specs.Contest.{board_for, solves_of}
use Rattle.contest_score.specs.declared.award.Award.{Award}
use Rattle.contest_score.specs.declared.row.Row.{Row}
use Rattle.contest_score.specs.declared.solve.Solve.{Solve}
use Rattle.contest_objects.specs.ContestObjects.{whole_data}
use Rattle.contest_objects.specs.EventFeed.{FeedEvent, item_event, whole_event}
use Rattle.contest_objects.specs.Items.{Item}
use Rattle.contest_objects.specs.ClarificationObjects.{clarification_item}
use Rattle.contest_objects.specs.SettingsObjects.{group_item, language_item, problem_item, team_item, type_item}
use Rattle.contest_objects.specs.declared.contest_objects.ContestEndpoint.TheVariants.{Contest, State}
use Rattle.contest_view.specs.Awards.{award_items, item_of}
use Rattle.contest_view.specs.Clarifications.{clarification_items}
use Rattle.contest_view.specs.Feeds.{events, feed_events, seen_events, settings_events}
use Rattle.contest_view.specs.Judgements as view
use Rattle.contest_view.specs.Reads.{submission_item}
use Rattle.contest_round_trip.specs.Audited.{listed_problems}
use Rattle.contest_round_trip.specs.Forms.{HasForms, HasNames, IsMoment, IsRelease, IsTold}
use Rattle.contest_round_trip.proofs.AllMade.{all_of, judgement_of_seen, listed_there}
use Rattle.contest_round_trip.proofs.HeardEvents.{IsRead}
use Rattle.contest_round_trip.proofs.PlainObjects.{IsPlain, id_utf8, of_all}
use Rattle.contest_round_trip.proofs.PlainRows.{award_plain, contest_plain, group_called, group_id_utf8, group_name_utf8, group_plain, label_utf8, language_called, language_plain, problem_id_utf8, problem_is, problem_plain, team_called, team_plain, type_called, type_plain}
use Rattle.contest_round_trip.proofs.PlainSeen.{judgement_id_utf8, judgement_plain, state_plain, submission_id_utf8, submission_plain}
use Rattle.contest_round_trip.proofs.PlainTalk.{clarification_plain}
use Rattle.contest_round_trip.proofs.SeenFacts.{clock_end, seen_facts}

-- ---- one event

deeper : (m n : ℕ) (d : Data) → m ≤ n → IsPlain m d → IsPlain n d
deeper m n d h p = record { fits = p.fits; ordered = p.ordered; shallow = omega (arith, h, p.shallow) }

item_read : (collection : List ℕ) (i : Item) (n : ℕ) → are_ascii collection ≡ true → IsUtf8 i.id → n ≤ 3 → IsPlain n i.object → is_some (as_object i.object) ≡ true → IsRead (item_event collection i)
item_read collection i n ascii id h p body = record { id = id; collection = ascii; plain = deeper n 3 i.object h p; object = body }

-- ---- awards

record IsNamed (w : Award) : Type 0 where
  pub id : IsUtf8 w.id
  pub citation : IsUtf8 w.citation

ascii : (text : List ℕ) → are_ascii text ≡ true → IsUtf8 text
ascii text e = IsUtf8-are_ascii text e

module _ (s : Setup) (names : HasNames s) (rows : List Row) (solves : List Solve) where
  medal_named : (w : Award) → Has (medals s rows) w → IsNamed w
  medal_named w h = elim h [
    | inl gold ↦ subst IsNamed (sym gold) (record { id = ascii (codes "gold-medal") refl; citation = ascii (codes "Gold medal") refl })
    | inr more ↦ elim more [
      | inl silver ↦ subst IsNamed (sym silver) (record { id = ascii (codes "silver-medal") refl; citation = ascii (codes "Silver medal") refl })
      | inr last ↦ elim last [
        | inl bronze ↦ subst IsNamed (sym bronze) (record { id = ascii (codes "bronze-medal") refl; citation = ascii (codes "Bronze medal") refl })
        | inr none ↦ absurd none
      ]
    ]
  ]

  first_named : (problem : ℕ) → IsNamed (first_to_solve s rows solves problem)
  first_named problem = record {
    id = IsUtf8-append (codes "first-to-solve-") (problem_id_at s.problems problem) (ascii (codes "first-to-solve-") refl) (problem_id_utf8 s names problem);
    citation = IsUtf8-append (codes "First to solve problem ") (label_at s problem) (ascii (codes "First to solve problem ") refl) (label_utf8 s names problem);
  }

  group_named : (group : ℕ) → IsNamed (group_winner s rows group)
  group_named group = record {
    id = IsUtf8-append (codes "group-winner-") (group_id_at s group) (ascii (codes "group-winner-") refl) (group_id_utf8 s names group);
    citation = IsUtf8-append (codes "Winner of group ") (group_name_at s group) (ascii (codes "Winner of group ") refl) (group_name_utf8 s names group);
  }

  award_named : (w : Award) → Has (awards_of s rows solves) w → IsNamed w
  award_named w h =
      let all = winner rows ∷ (medals s rows ++ map (first_to_solve s rows solves) (problem_order s) ++ map (group_winner s rows) (group_order s)) in
      let there : Has all w = (filter_has (λ (a : Award). nat_lt 0 (length a.teams)) all w h).0 in
      elim there [
        | inl first ↦ subst IsNamed (sym first) (record { id = ascii (codes "winner") refl; citation = ascii (codes "Contest winner") refl })
        | inr more ↦ elim (has_either (medals s rows ++ map (first_to_solve s rows solves) (problem_order s)) (map (group_winner s rows) (group_order s)) w more) [
          | inl early ↦ elim (has_either (medals s rows) (map (first_to_solve s rows solves) (problem_order s)) w early) [
            | inl medal ↦ medal_named w medal
            | inr solve ↦ (let m = map_has (first_to_solve s rows solves) (problem_order s) w solve in subst IsNamed (sym m.is) (first_named m.item))
          ]
          | inr group ↦ (let m = map_has (group_winner s rows) (group_order s) w group in subst IsNamed (sym m.is) (group_named m.item))
        ]
      ]

-- ---- all events

module _ (now : ℕ) (x : ContestState) (valid : is_valid x ≡ true) (settings : IsValid x.fixed.settings) (forms : HasForms x) where
  abbrev s : Setup
  s = x.fixed.settings

  abbrev names : HasNames s
  names = forms.settings

  shown_named : (w : Award) → Has (shown_awards Jury now x) w → IsNamed w
  shown_named w h = go (shows_awards Jury now x) h
    where
      go : (b : Bool) → Has (if b then awards_of s (board_for Jury now None x) (solves_of x) else []) w → IsNamed w
      go true k = award_named s names (board_for Jury now None x) (solves_of x) w k
      go false k = absurd k

  end_moment : IfSome (end_of s x.fixed.marks) IsMoment
  end_moment = go x.fixed.marks.start refl
    where
      go : (start : Option ℕ) → x.fixed.marks.start ≡ start → IfSome (moment_after start s.head.duration) IsMoment
      go None e = tt
      go (Some start) e = clock_end x valid start e

  type_read : (e : FeedEvent) → Has (events (codes "judgement-types") (map type_item s.types)) e → IsRead e
  type_read e h =
      let m = map_has (item_event (codes "judgement-types")) (map type_item s.types) e h in
      let r = map_has type_item s.types m.item m.there in
      let c = type_called s names r.item r.there in
      subst IsRead (sym (m.is ∙ ap (item_event (codes "judgement-types")) r.is)) (item_read (codes "judgement-types") (type_item r.item) 1 refl (id_utf8 r.item.id c.has_id) (omega arith) (type_plain r.item c) refl)

  language_read : (e : FeedEvent) → Has (events (codes "languages") (map language_item s.languages)) e → IsRead e
  language_read e h =
      let m = map_has (item_event (codes "languages")) (map language_item s.languages) e h in
      let r = map_has language_item s.languages m.item m.there in
      let c = language_called s names r.item r.there in
      subst IsRead (sym (m.is ∙ ap (item_event (codes "languages")) r.is)) (item_read (codes "languages") (language_item r.item) 1 refl (id_utf8 r.item.id c.has_id) (omega arith) (language_plain r.item c) refl)

  problem_read : (e : FeedEvent) → Has (events (codes "problems") (map problem_item (listed_problems s))) e → IsRead e
  problem_read e h =
      let m = map_has (item_event (codes "problems")) (map problem_item (listed_problems s)) e h in
      let r = map_has problem_item (listed_problems s) m.item m.there in
      let c = problem_is s names r.item (listed_there s.problems (problem_order s) r.item r.there) in
      subst IsRead (sym (m.is ∙ ap (item_event (codes "problems")) r.is)) (item_read (codes "problems") (problem_item r.item) 1 refl (id_utf8 r.item.id c.called.has_id) (omega arith) (problem_plain r.item c) refl)

  group_read : (e : FeedEvent) → Has (events (codes "groups") (map group_item s.groups)) e → IsRead e
  group_read e h =
      let m = map_has (item_event (codes "groups")) (map group_item s.groups) e h in
      let r = map_has group_item s.groups m.item m.there in
      let c = group_called s names r.item r.there in
      subst IsRead (sym (m.is ∙ ap (item_event (codes "groups")) r.is)) (item_read (codes "groups") (group_item r.item) 1 refl (id_utf8 r.item.id c.has_id) (omega arith) (group_plain r.item c) refl)

  team_read : (e : FeedEvent) → Has (events (codes "teams") (map (team_item s) s.teams)) e → IsRead e
  team_read e h =
      let m = map_has (item_event (codes "teams")) (map (team_item s) s.teams) e h in
      let r = map_has (team_item s) s.teams m.item m.there in
      let c = team_called s names r.item r.there in
      subst IsRead (sym (m.is ∙ ap (item_event (codes "teams")) r.is)) (item_read (codes "teams") (team_item s r.item) 2 refl (id_utf8 r.item.id c.has_id) (omega arith) (team_plain s names r.item c) refl)

  submission_read : (e : FeedEvent) → Has (events (codes "submissions") (map (submission_item x.fixed) (seen_submissions Jury now x))) e → IsRead e
  submission_read e h =
      let m = map_has (item_event (codes "submissions")) (map (submission_item x.fixed) (seen_submissions Jury now x)) e h in
      let r = map_has (submission_item x.fixed) (seen_submissions Jury now x) m.item m.there in
      let f = seen_facts now x valid settings r.item r.there in
      let u = f.submission in
      let entry = of_all (λ (t : Submission). IfSome t.entry_point IsUtf8) x.submissions u forms.entry_points f.there in
      let plain = submission_plain x.fixed names u.team u.number u.time u.problem u.language f.team f.number forms.marks.start f.moment (program_for Jury u) entry in
      subst IsRead (sym (m.is ∙ ap (item_event (codes "submissions")) (r.is ∙ ap (submission_item x.fixed) f.shown)))
      (item_read (codes "submissions") (submission_item x.fixed (seen_submission Jury now x u)) 3 refl (submission_id_utf8 u.team u.number f.team f.number) (omega arith) plain refl)

  judgement_read : (e : FeedEvent) → Has (events (codes "judgements") (map (view.item_of x.fixed) (seen_judgements Jury now x))) e → IsRead e
  judgement_read e h =
      let m = map_has (item_event (codes "judgements")) (map (view.item_of x.fixed) (seen_judgements Jury now x)) e h in
      let r = map_has (view.item_of x.fixed) (seen_judgements Jury now x) m.item m.there in
      let w : SeenJudgement = r.item in
      let both = judgement_of_seen now x valid settings forms w r.there in
      let f = both.0 in
      let j = both.1 in
      let release = of_all IsRelease x.releases j.release forms.releases j.there in
      let team : w.submission.team ≤ 1_000 = subst (λ (u : SeenSubmission). u.team ≤ 1_000) (sym f.shown) f.team in
      let number : w.submission.number ≤ 1_000 = subst (λ (u : SeenSubmission). u.number ≤ 1_000) (sym f.shown) f.number in
      let round = subst (λ (u : Judgement). u.round < 18_446_744_073_709_551_616) (sym j.is) release.round in
      let time : IsMoment w.judgement.time = subst (λ (u : Judgement). IsMoment u.time) (sym j.is) release.time in
      subst IsRead (sym (m.is ∙ ap (item_event (codes "judgements")) r.is))
      (item_read (codes "judgements") (view.item_of x.fixed w) 1 refl (judgement_id_utf8 w.submission.team w.submission.number w.judgement.round team number round) (omega arith)
      (judgement_plain x.fixed names w.submission.team w.submission.number team number forms.marks.start w.judgement round time) refl)

  clarification_read : (e : FeedEvent) → Has (events (codes "clarifications") (clarification_items Jury x)) e → IsRead e
  clarification_read e h =
      let m = map_has (item_event (codes "clarifications")) (clarification_items Jury x) e h in
      let r = map_has (clarification_item x.fixed) (seen_clarifications Jury x) m.item m.there in
      let i = listed_heard Jury x r.item r.there in
      let told = of_all IsTold x.clarifications i.clarification forms.clarifications i.there in
      let c = clarification_plain Jury x valid settings names forms.marks.start i.clarification i.there told in
      subst IsRead (sym (m.is ∙ ap (item_event (codes "clarifications")) (r.is ∙ ap (clarification_item x.fixed) i.told)))
      (item_read (codes "clarifications") (clarification_item x.fixed (seen_clarification Jury s i.clarification)) 1 refl c.id (omega arith) c.plain refl)

  award_read : (e : FeedEvent) → Has (events (codes "awards") (award_items Jury now x)) e → IsRead e
  award_read e h =
      let m = map_has (item_event (codes "awards")) (award_items Jury now x) e h in
      let r = map_has (item_of s) (shown_awards Jury now x) m.item m.there in
      let w = r.item in
      let n = shown_named w r.there in
      subst IsRead (sym (m.is ∙ ap (item_event (codes "awards")) r.is)) (item_read (codes "awards") (item_of s w) 2 refl n.id (omega arith) (award_plain s names w.id w.citation w.teams n.id n.citation) refl)

  contest_read : IsRead (whole_event (codes "contest") (whole_data Contest x.fixed now))
  contest_read = record { id = tt; collection = refl; plain = deeper 1 3 (whole_data Contest x.fixed now) (omega arith) (contest_plain s names x.fixed.marks forms.marks settings.head); object = refl }

  state_read : IsRead (whole_event (codes "state") (whole_data State x.fixed now))
  state_read = record { id = tt; collection = refl; plain = deeper 1 3 (whole_data State x.fixed now) (omega arith) (state_plain s x.fixed.marks now forms.marks end_moment); object = refl }

  settings_read : (e : FeedEvent) → Has (settings_events s) e → IsRead e
  settings_read e h =
      let ts = events (codes "judgement-types") (map type_item s.types) in
      let ls = events (codes "languages") (map language_item s.languages) in
      let ps = events (codes "problems") (map problem_item (listed_problems s)) in
      let gs = events (codes "groups") (map group_item s.groups) in
      let us = events (codes "teams") (map (team_item s) s.teams) in
      elim (has_either ts (ls ++ (ps ++ (gs ++ us))) e h) [
        | inl type ↦ type_read e type
        | inr a ↦ elim (has_either ls (ps ++ (gs ++ us)) e a) [
          | inl language ↦ language_read e language
          | inr b ↦ elim (has_either ps (gs ++ us) e b) [
            | inl problem ↦ problem_read e problem
            | inr c ↦ elim (has_either gs us e c) [ inl group ↦ group_read e group | inr team ↦ team_read e team ]
          ]
        ]
      ]

  seen_read : (e : FeedEvent) → Has (seen_events Jury now x) e → IsRead e
  seen_read e h =
      let vs = events (codes "submissions") (map (submission_item x.fixed) (seen_submissions Jury now x)) in
      let ws = events (codes "judgements") (map (view.item_of x.fixed) (seen_judgements Jury now x)) in
      let cs = events (codes "clarifications") (clarification_items Jury x) in
      let aws = events (codes "awards") (award_items Jury now x) in
      elim (has_either vs (ws ++ (cs ++ aws)) e h) [
        | inl submission ↦ submission_read e submission
        | inr a ↦ elim (has_either ws (cs ++ aws) e a) [
          | inl judgement ↦ judgement_read e judgement
          | inr b ↦ elim (has_either cs aws e b) [ inl clarification ↦ clarification_read e clarification | inr award ↦ award_read e award ]
        ]
      ]

  event_read : (e : FeedEvent) → Has (feed_events Jury now x) e → IsRead e
  event_read e h = elim h [
    | inl first ↦ subst IsRead (sym first) contest_read
    | inr more ↦ elim (has_either (settings_events s ++ seen_events Jury now x) (whole_event (codes "state") (whole_data State x.fixed now) ∷ []) e more) [
      | inl inner ↦ elim (has_either (settings_events s) (seen_events Jury now x) e inner) [ inl set ↦ settings_read e set | inr seen ↦ seen_read e seen ]
      | inr end ↦ elim end [ inl last ↦ subst IsRead (sym last) state_read | inr none ↦ absurd none ]
    ]
  ]

  pub all_read : All IsRead (feed_events Jury now x)
  all_read = all_of IsRead (feed_events Jury now x) event_read
