-- The settings of the audited contest, and that nothing of it is at fault.
use Rattle.std.proofs.Common.{◌≡◌, ◌∙◌, ◌≤◌, ◌<◌, ◌+◌, ℕ, zero, suc, Bool, true, false, List, [], ◌∷◌, Option, Some, None, length, map, filter, slice_get, inl, inr, refl, sym, ap, subst, arith, eq-eqb, ne_eqb}
use Rattle.std.specs.Prelude.{◌&&◌, ◌||◌, ◌==◌, find, nat_le, not, if◌then◌else◌}
use Rattle.std.specs.List.{cons_option, filter_map, list_all, list_any, range_with_len}
use Rattle.std.specs.Option.{option_map_or}
use Rattle.std.specs.Str.{bytes_eq}
use Rattle.std.proofs.lemmas.Bool.{cases_Bool, cases_eq, leb-true}
use Rattle.std.proofs.lemmas.List.{length-map}
use Rattle.std.proofs.lemmas.List.FromFn.{length-range_with_len}
use Rattle.std.proofs.lemmas.Simd.{map-map}
use Rattle.contest_types.specs.Judging.{SeenJudgement, seen_judgements}
use Rattle.contest_types.specs.Order.{Has, place_in}
use Rattle.contest_types.specs.Places.{are_different, is_among}
use Rattle.contest_types.specs.PlainRows.{plain_submission, plain_team}
use Rattle.contest_types.specs.ProblemPlaces.{problem_cmp, problem_order}
use Rattle.contest_types.specs.Series.{count_up, have_own_keys, never_fall}
use Rattle.contest_types.specs.SettingsNames.{group_id_at, type_id_at}
use Rattle.contest_types.specs.Setup.{IsValid, Setup}
use Rattle.contest_types.specs.Sight.{SeenSubmission, seen_submission, seen_submissions}
use Rattle.contest_types.specs.State.{ContestState, submissions_of}
use Rattle.contest_types.specs.TeamPlaces.{team_id_at}
use Rattle.contest_types.specs.Valid.{is_valid}
use Rattle.contest_types.specs.ValidSubmissions.{are_valid_submissions, is_valid_submission, of_one_team}
use Rattle.contest_types.specs.declared.audience.Audience.TheVariants.{Jury}
use Rattle.contest_types.specs.declared.limits.TheConstants.{TEAM_SUBMISSIONS}
use Rattle.contest_types.specs.declared.objects.Group.{Group}
use Rattle.contest_types.specs.declared.objects.JudgementType.{JudgementType}
use Rattle.contest_types.specs.declared.objects.Problem.{Problem}
use Rattle.contest_types.specs.declared.objects.Team.{Team}
use Rattle.contest_types.specs.declared.submission.Submission.{Submission}
use Rattle.contest_types.proofs.AddLemmas.{one_team}
use Rattle.contest_types.proofs.Different.{one_place}
use Rattle.contest_types.proofs.InOrderLemmas.{map_has}
use Rattle.contest_types.proofs.PlaceLemmas.{and_right, bytes_same, same_bytes}
use Rattle.contest_types.proofs.SeriesLemmas.{in_any}
use Rattle.contest_types.proofs.ValidParts.{four, parts}
use Rattle.contest_feed_reader.specs.FeedContests.{hides, is_hidden, problem_of, team_of, type_of}
use Rattle.contest_feed_reader.specs.FeedTypes.{JudgementRead, ProblemRead, RowRead, SubmissionRead, TablesRead}
use Rattle.contest_feed_reader.specs.References.{first_fault, ids_of, verdict_fault}
use Rattle.contest_round_trip.specs.Audited.{listed_problems, spot_of}
use Rattle.contest_round_trip.proofs.FaultlessBack.{IsSound, faultless, ids_rows, length_rows, placed_among, row_of}
use Rattle.contest_round_trip.proofs.HeardEvents.{rows_from}
use Rattle.contest_round_trip.proofs.IdPlaces.{listed_different, listed_place, row_place}
use Rattle.contest_round_trip.proofs.ObjectsBack.{group_made, problem_made, team_made, type_made}
use Rattle.contest_round_trip.proofs.SameBoards.{SameTeams}
use Rattle.contest_round_trip.proofs.SameRows.{filter_same}
use Rattle.contest_round_trip.proofs.SeenBack.{submission_made}
use Rattle.contest_round_trip.proofs.SeenFacts.{seen_facts}
use Rattle.contest_round_trip.proofs.TablesBack.{made_groups, made_judgement, made_judgements, made_problems, made_submissions, made_teams, made_types, tables_at}
use Rattle.contest_round_trip.proofs.TeamOrder.{one_team_of_all}

-- ---- the settings

pub types_back : (n : ℕ) (ts : List JudgementType) → map type_of (rows_from n (map type_made ts)) ≡ ts
types_back n [] = refl
types_back n (t ∷ ts) = ap (λ rest. t ∷ rest) (types_back (n + 1) ts)

pub problems_back : (n : ℕ) (ps : List Problem) → map problem_of (rows_from n (map problem_made ps)) ≡ ps
problems_back n [] = refl
problems_back n (p ∷ ps) = ap (λ rest. p ∷ rest) (problems_back (n + 1) ps)

-- a team without its groups
abbrev pub bare : Team → Team
bare t = record (plain_team t.id t.name) { hidden = t.hidden }

none_hides : (n : ℕ) (gs : List Group) (id : List ℕ) → hides (rows_from n (map group_made gs)) id ≡ false
none_hides n [] id = refl
none_hides n (g ∷ gs) id = let no : (b : Bool) → (b && false) ≡ false = elim [ true ↦ refl | false ↦ refl ] in rw (no (bytes_eq g.id id)) (none_hides (n + 1) gs id)

not_hidden : (n : ℕ) (gs : List Group) (ids : List (List ℕ)) → list_any (hides (rows_from n (map group_made gs))) ids ≡ false
not_hidden n gs [] = refl
not_hidden n gs (id ∷ ids) = rw (none_hides n gs id) (not_hidden n gs ids)

pub teams_back : (s : Setup) (c n : ℕ) (gs : List Group) (ts : List Team) → map (team_of (rows_from c (map group_made gs))) (rows_from n (map (team_made s) ts)) ≡ map bare ts
teams_back s c n gs [] = refl
teams_back s c n gs (t ∷ ts) =
    let or_false : (b : Bool) → (b || false) ≡ b = elim [ true ↦ refl | false ↦ refl ] in
    let hidden : is_hidden (rows_from c (map group_made gs)) (team_made s t).object ≡ t.hidden = ap (λ b. t.hidden || b) (not_hidden c gs (map (group_id_at s) t.groups)) ∙ or_false t.hidden in
    ap (λ h. record (plain_team t.id t.name) { hidden = h } ∷ map (team_of (rows_from c (map group_made gs))) (rows_from (n + 1) (map (team_made s) ts))) hidden
    ∙ ap (λ rest. bare t ∷ rest) (teams_back s c (n + 1) gs ts)

at_bare : {B : Type 0} (f : Team → B) (d : B) → ((t : Team) → f (bare t) ≡ f t) → (ts : List Team) (u : ℕ) → option_map_or f (slice_get (map bare ts) u) d ≡ option_map_or f (slice_get ts u) d
at_bare f d same [] u = refl
at_bare f d same (t ∷ ts) zero = same t
at_bare f d same (t ∷ ts) (suc u) = at_bare f d same ts u

pub same_teams : (s t : Setup) → t.teams ≡ map bare s.teams → t.head.penalty_time ≡ s.head.penalty_time → SameTeams t s
same_teams s t teams penalty = record {
  many = ap length teams ∙ length-map s.teams bare;
  shown = λ u. ap (λ ts. option_map_or (λ (v : Team). not v.hidden) (slice_get ts u) false) teams ∙ at_bare (λ (v : Team). not v.hidden) false (λ v. refl) s.teams u;
  names = λ u. ap (λ ts. option_map_or (λ (v : Team). v.name) (slice_get ts u) []) teams ∙ at_bare (λ (v : Team). v.name) [] (λ v. refl) s.teams u;
  ids = λ u. ap (λ ts. option_map_or (λ (v : Team). v.id) (slice_get ts u) []) teams ∙ at_bare (λ (v : Team). v.id) [] (λ v. refl) s.teams u;
  penalty = penalty;
}

-- ---- what refers to what

found_few : {X Y : Type 0} (f : X → Option Y) (xs : List X) → length (filter_map f xs) ≤ length xs
found_few f [] = omega arith
found_few {X} {Y} f (x ∷ xs) =
    let rest = found_few f xs in
    go (f x) (filter_map f xs) rest
  where
    go : (o : Option Y) (ys : List Y) → length ys ≤ length xs → length (cons_option o ys) ≤ length (x ∷ xs)
    go None ys h = omega (arith, h)
    go (Some y) ys h = omega (arith, h)

few_listed : (s : Setup) → length (listed_problems s) ≤ length s.problems
few_listed s =
    let places = range_with_len 0 (length s.problems) in
    let all = found_few (slice_get s.problems) (problem_order s) in
    let order = found_few (λ k. find (λ p. place_in (problem_cmp s.problems) places p == k) places) (range_with_len 0 (length places)) in
    omega (arith, all, order, length-range_with_len 0 (length places), length-range_with_len 0 (length s.problems))

module _ (now : ℕ) (x : ContestState) (valid : is_valid x ≡ true) (settings : IsValid x.fixed.settings) where
  abbrev s : Setup
  s = x.fixed.settings

  abbrev all : List SeenSubmission
  all = seen_submissions Jury now x

  -- a team's submissions are few
  own_few : (team : ℕ) → length (submissions_of team x.submissions) ≤ TEAM_SUBMISSIONS
  own_few team =
      let own = submissions_of team x.submissions in
      let any : Submission = plain_submission team 0 0 0 0 in
      let series : are_valid_submissions own ≡ true = in_any of_one_team are_valid_submissions one_team refl x.submissions any (and_right (list_all (is_valid_submission x.fixed) x.submissions) _ (parts x valid).submissions) in
      let tests = four (count_up (map (λ (r : Submission). r.number) own)) (never_fall (map (λ (r : Submission). r.time) own)) (have_own_keys (map (λ (r : Submission). r.key) own)) (nat_le (length own) TEAM_SUBMISSIONS) series in
      leb-true (length own) TEAM_SUBMISSIONS tests.fourth

  one_id : (a b : ℕ) → a < length s.teams → b < length s.teams → bytes_eq (team_id_at s a) (team_id_at s b) ≡ (a == b)
  one_id a b l m = elim (cases_eq a b) [
    | inl same ↦ ap (λ c. bytes_eq (team_id_at s a) (team_id_at s c)) (sym same) ∙ bytes_same (team_id_at s a) ∙ sym (eq-eqb a b same)
    | inr other ↦ (let off : bytes_eq (team_id_at s a) (team_id_at s b) ≡ false = elim (cases_Bool (bytes_eq (team_id_at s a) (team_id_at s b))) [
      | inl e ↦ absurd (other (one_place (λ (t : Team). t.id) s.teams settings.teams a b l m (same_bytes (team_id_at s a) (team_id_at s b) e)))
      | inr e ↦ e
    ] in off ∙ sym (ne_eqb a b other))
  ]

  team_there : (v : SeenSubmission) → Has all v → v.team < length s.teams
  team_there v h = let f = seen_facts now x valid settings v h in subst (λ (u : SeenSubmission). u.team < length s.teams) (sym f.shown) f.names.team

  problem_there : (v : SeenSubmission) → Has all v → v.problem < length s.problems
  problem_there v h = let f = seen_facts now x valid settings v h in subst (λ (u : SeenSubmission). u.problem < length s.problems) (sym f.shown) f.names.problem

  kept_rows : (id : List ℕ) (n : ℕ) (vs : List SeenSubmission) → length (filter (λ (r : RowRead SubmissionRead). bytes_eq r.object.team id) (rows_from n (map (submission_made x) vs))) ≡ length (filter (λ (v : SeenSubmission). bytes_eq (team_id_at s v.team) id) vs)
  kept_rows id n [] = refl
  kept_rows id n (v ∷ vs) = go (bytes_eq (team_id_at s v.team) id) (filter (λ (r : RowRead SubmissionRead). bytes_eq r.object.team id) (rows_from (n + 1) (map (submission_made x) vs))) (filter (λ (w : SeenSubmission). bytes_eq (team_id_at s w.team) id) vs) (kept_rows id (n + 1) vs)
    where
      go : (b : Bool) (rows : List (RowRead SubmissionRead)) (ws : List SeenSubmission) → length rows ≡ length ws
          → length (if b then record { id = (submission_made x v).item.id; line = n; object = (submission_made x v).object } ∷ rows else rows) ≡ length (if b then v ∷ ws else ws)
      go true rows ws e = ap suc e
      go false rows ws e = e

  few_rows : (n : ℕ) (v : SeenSubmission) → Has all v → length (filter (λ (r : RowRead SubmissionRead). bytes_eq r.object.team (team_id_at s v.team)) (rows_from n (made_submissions now x))) ≤ TEAM_SUBMISSIONS
  few_rows n v h =
      let id = team_id_at s v.team in
      let one = kept_rows id n all in
      let two = ap length (filter_same (λ (w : SeenSubmission). bytes_eq (team_id_at s w.team) id) (λ w. w.team == v.team) all (λ w k. one_id w.team v.team (team_there w k) (team_there v h))) in
      let three = ap length (one_team_of_all now x v.team valid) ∙ length-map (submissions_of v.team x.submissions) (seen_submission Jury now x) in
      omega (arith, one, two, three, own_few v.team)

  module _ (typed : (w : SeenJudgement) → Has (seen_judgements Jury now x) w → w.judgement.verdict < length s.types) (a b c d e f : ℕ) where
    abbrev t : TablesRead
    t = tables_at now x a b c d e f

    team_ids : ids_of t.teams ≡ map (λ (u : Team). u.id) s.teams
    team_ids = ids_rows d (made_teams x) ∙ map-map (λ m. m.item.id) (team_made s) s.teams

    problem_ids : ids_of t.problems ≡ map (λ (p : Problem). p.id) (listed_problems s)
    problem_ids = ids_rows b (made_problems x) ∙ map-map (λ m. m.item.id) problem_made (listed_problems s)

    type_ids : ids_of t.types ≡ map (λ (k : JudgementType). k.id) s.types
    type_ids = ids_rows a (made_types x) ∙ map-map (λ m. m.item.id) type_made s.types

    labels_back : (n : ℕ) (ps : List Problem) → map (λ (r : RowRead ProblemRead). r.object.label) (rows_from n (map problem_made ps)) ≡ map (λ (p : Problem). p.label) ps
    labels_back n [] = refl
    labels_back n (p ∷ ps) = ap (λ rest. p.label ∷ rest) (labels_back (n + 1) ps)

    sound : (r : RowRead SubmissionRead) → Has t.submissions r → IsSound (ids_of t.teams) (ids_of t.problems) t.submissions r
    sound r h =
        let m = row_of e (made_submissions now x) r h in
        let v = map_has (submission_made x) all m.0 m.1 in
        let object : r.object ≡ (submission_made x v.item).object = m.3 ∙ ap (λ q. q.object) v.is in
        let team = placed_among (team_id_at s v.item.team) 0 (map (λ (u : Team). u.id) s.teams) v.item.team (row_place (λ (u : Team). u.id) s.teams settings.teams v.item.team (team_there v.item v.there)) in
        let problem = placed_among (submission_made x v.item).object.problem 0 (map (λ (p : Problem). p.id) (listed_problems s)) (spot_of s v.item.problem) (listed_place s settings v.item.problem (problem_there v.item v.there)) in
        record {
          team = ap (λ ids. is_among ids r.object.team) team_ids ∙ ap (λ o. is_among (map (λ (u : Team). u.id) s.teams) o.team) object ∙ team;
          problem = ap (λ ids. is_among ids r.object.problem) problem_ids ∙ ap (λ o. is_among (map (λ (p : Problem). p.id) (listed_problems s)) o.problem) object ∙ problem;
          few = subst (λ (o : SubmissionRead). length (filter (λ (q : RowRead SubmissionRead). bytes_eq q.object.team o.team) t.submissions) ≤ TEAM_SUBMISSIONS) (sym object) (few_rows e v.item v.there);
        }

    verdicts : (r : RowRead JudgementRead) → Has t.judgements r → verdict_fault (ids_of t.types) r.object.verdict ≡ None
    verdicts r h =
        let m = row_of f (made_judgements now x) r h in
        let w = map_has (made_judgement x) (seen_judgements Jury now x) m.0 m.1 in
        let object : r.object ≡ (made_judgement x w.item).object = m.3 ∙ ap (λ q. q.object) w.is in
        let among = placed_among (type_id_at s w.item.judgement.verdict) 0 (map (λ (k : JudgementType). k.id) s.types) w.item.judgement.verdict (row_place (λ (k : JudgementType). k.id) s.types settings.types w.item.judgement.verdict (typed w.item w.there)) in
        ap (λ o. verdict_fault (ids_of t.types) o.verdict) object ∙ rw (type_ids, among) refl

    pub no_fault : first_fault s.head.duration t ≡ None
    no_fault = faultless s.head.duration t (record {
      types = omega (arith, settings.few_types, length_rows a (made_types x), length-map s.types type_made);
      labels = ap are_different (labels_back b (listed_problems s)) ∙ listed_different s settings (λ (p : Problem). p.label) settings.labels;
      problems = omega (arith, settings.few_problems, length_rows b (made_problems x), length-map (listed_problems s) problem_made, few_listed s);
      groups = omega (arith, settings.few_groups, length_rows c (made_groups x), length-map s.groups group_made);
      teams = omega (arith, settings.few_teams, length_rows d (made_teams x), length-map s.teams (team_made s));
      submissions = sound;
      judgements = verdicts;
    })
