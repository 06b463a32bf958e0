-- The submissions of the jury's feed are read back as attempts of the audited contest.
use Rattle.std.proofs.Common.{◌≡◌, ◌∙◌, ◌≤◌, ◌<◌, ◌+◌, ◌-◌, ℕ, Bool, true, false, List, [], ◌∷◌, Option, Some, None, Greater, length, map, filter, inl, inr, refl, sym, ap, subst, arith, lt-ltb, le-leb}
use Rattle.std.specs.Prelude.{◌&&◌, fold, nat_le}
use Rattle.std.specs.List.{cons_option, filter_map}
use Rattle.std.specs.Option.{option_and_then, option_map, option_map_or}
use Rattle.std.specs.Ordering.{is_lt, nat_cmp}
use Rattle.std.specs.Str.{bytes_eq}
use Rattle.std.specs.Cmp.{nat_cmp_is}
use Rattle.std.proofs.lemmas.Bool.{cases_Bool, cases_lt, false≢true}
use Rattle.std.proofs.lemmas.Simd.{map-map}
use Rattle.contest_types.specs.Judging.{SeenJudgement, judged, seen_judgements}
use Rattle.contest_types.specs.Order.{Has, IsBefore, IsInOrder}
use Rattle.contest_types.specs.Setup.{IsValid, Setup}
use Rattle.contest_types.specs.Sight.{Judgement, SeenSubmission, seen_submissions, submission_cmp, type_of}
use Rattle.contest_types.specs.State.{ContestState}
use Rattle.contest_types.specs.Valid.{is_valid}
use Rattle.contest_types.specs.declared.audience.Audience.TheVariants.{Jury}
use Rattle.contest_types.specs.declared.objects.JudgementType.{JudgementType}
use Rattle.contest_types.specs.declared.objects.Problem.{Problem}
use Rattle.contest_types.specs.declared.objects.Team.{Team}
use Rattle.contest_types.proofs.InOrderLemmas.{option_has}
use Rattle.contest_types.proofs.JudgementLemmas.{some_from}
use Rattle.contest_types.proofs.OrderLemmas.{before_each}
use Rattle.contest_types.proofs.PlaceLemmas.{bytes_same, same_bytes}
use Rattle.contest_types.proofs.SeenWhole.{seen_rises}
use Rattle.contest_score.specs.MaskedCells.{start_of}
use Rattle.contest_score.specs.declared.submission.JudgedSubmission.{JudgedSubmission}
use Rattle.contest_score.proofs.MaskLemmas.{filter_mapped}
use Rattle.contest_feed_reader.specs.FeedContests.{attempt_by, attempts_of, by_time, put_by_time}
use Rattle.contest_feed_reader.specs.FeedTypes.{JudgementRead}
use Rattle.contest_feed_reader.specs.References.{ids_of}
use Rattle.contest_feed_reader.specs.Verdicts.{judges, last_judgement, later, place_by, verdict_in, verdict_of}
use Rattle.contest_round_trip.specs.Audited.{audited_attempt, audited_attempts, listed_problems}
use Rattle.contest_round_trip.proofs.FaultlessBack.{ids_rows, objects_rows}
use Rattle.contest_round_trip.proofs.HeardEvents.{Made, rows_from}
use Rattle.contest_round_trip.proofs.IdPlaces.{listed_place, row_place}
use Rattle.contest_round_trip.proofs.ObjectsBack.{problem_made, team_made, type_made}
use Rattle.contest_round_trip.proofs.OwnIds.{apart, judged_is, seen_id}
use Rattle.contest_round_trip.proofs.SeenBack.{submission_made}
use Rattle.contest_round_trip.proofs.SeenFacts.{seen_facts}
use Rattle.contest_round_trip.proofs.TablesBack.{made_judgement, made_judgements, made_problems, made_teams, made_types, tables_at}
use Rattle.contest_round_trip.proofs.TeamOrder.{mapped_in_order}

-- ---- attempts in order of time stay so

in_place : (u : JudgedSubmission) (us : List JudgedSubmission) → IsBefore (λ a b. nat_le a.time b.time) u us → put_by_time u us ≡ u ∷ us
in_place u [] h = refl
in_place u (v ∷ us) h = rw (h.0) refl

pub by_time_same : (us : List JudgedSubmission) → IsInOrder (λ a b. nat_le a.time b.time) us → by_time us ≡ us
by_time_same [] h = refl
by_time_same (u ∷ us) h = ap (put_by_time u) (by_time_same us h.1) ∙ in_place u us h.0

-- what is read of each is all that is read
pub all_found : {X Y : Type 0} (f : X → Option Y) (g : X → Y) (xs : List X) → ((x : X) → Has xs x → f x ≡ Some (g x)) → filter_map f xs ≡ map g xs
all_found f g [] h = refl
all_found f g (x ∷ xs) h = rw (h x (inl refl), all_found f g xs (λ y k. h y (inr k))) refl

pub none_kept : {X : Type 0} (p : X → Bool) (xs : List X) → ((x : X) → Has xs x → p x ≡ false) → filter p xs ≡ []
none_kept p [] h = refl
none_kept p (x ∷ xs) h = rw (h x (inl refl)) (none_kept p xs (λ y k. h y (inr k)))

-- ---- the verdict of a submission

module _ (now : ℕ) (x : ContestState) (valid : is_valid x ≡ true) (settings : IsValid x.fixed.settings) where
  abbrev s : Setup
  s = x.fixed.settings

  abbrev all : List SeenSubmission
  all = seen_submissions Jury now x

  abbrev before : SeenSubmission → SeenSubmission → Bool
  before v w = is_lt (submission_cmp s v w)

  -- the judgement is on the submission with this id
  abbrev is_on : List ℕ → SeenJudgement → Bool
  is_on id w = bytes_eq (seen_id w.submission) id

  differs : (v w : SeenSubmission) → (seen_id v ≡ seen_id w → ⊥) → bytes_eq (seen_id v) (seen_id w) ≡ false
  differs v w h = elim (cases_Bool (bytes_eq (seen_id v) (seen_id w))) [ inl e ↦ absurd (h (same_bytes (seen_id v) (seen_id w) e)) | inr e ↦ e ]

  -- judgements come of submissions
  comes_of : (vs : List SeenSubmission) (w : SeenJudgement) → Has (filter_map judged vs) w → (v : SeenSubmission) × Has vs v × (w.submission ≡ v)
  comes_of [] w h = absurd h
  comes_of (v ∷ vs) w h = elim (option_has (judged v) (filter_map judged vs) w h) [
    | inl here ↦ (v, inl refl, judged_is now x valid settings v w here)
    | inr more ↦ (let found = comes_of vs w more in (found.0, inr found.1, found.2))
  ]

  only_own : (vs : List SeenSubmission) → ((v : SeenSubmission) → Has vs v → Has all v) → IsInOrder before vs → (v : SeenSubmission) → Has vs v
      → filter (is_on (seen_id v)) (filter_map judged vs) ≡ cons_option (judged v) []
  only_own [] there up v h = absurd h
  only_own (u ∷ vs) there up v h = elim h [
    | inl here ↦ (let rest = none_kept (is_on (seen_id v)) (filter_map judged vs) (λ w k. off v here w (comes_of vs w k)) in
        head_own v here (judged u) refl rest)
    | inr behind ↦ head_off v (before_each before u vs v up.0 behind) (there v (inr behind)) (judged u) refl (only_own vs (λ w k. there w (inr k)) up.1 v behind)
  ]
    where
      off : (t : SeenSubmission) → t ≡ u → (w : SeenJudgement) → (r : SeenSubmission) × Has vs r × (w.submission ≡ r) → bytes_eq (seen_id w.submission) (seen_id t) ≡ false
      off t same w r =
          let apart_ids : seen_id u ≡ seen_id r.0 → ⊥ = apart now x valid settings u r.0 (there u (inl refl)) (there r.0 (inr r.1)) (before_each before u vs r.0 up.0 r.1) in
          differs w.submission t (λ e. apart_ids (ap seen_id (sym same) ∙ sym e ∙ ap seen_id r.2))

      head_own : (t : SeenSubmission) → t ≡ u → (o : Option SeenJudgement) → judged u ≡ o → filter (is_on (seen_id t)) (filter_map judged vs) ≡ []
          → filter (is_on (seen_id t)) (cons_option o (filter_map judged vs)) ≡ cons_option (judged t) []
      head_own t same None e rest = rest ∙ sym (ap (λ k. cons_option (judged k) []) same ∙ ap (λ k. cons_option k []) e)
      head_own t same (Some w) e rest =
          let own : seen_id w.submission ≡ seen_id t = ap seen_id (judged_is now x valid settings u w e ∙ sym same) in
          let yes : bytes_eq (seen_id w.submission) (seen_id t) ≡ true = ap (λ i. bytes_eq i (seen_id t)) own ∙ bytes_same (seen_id t) in
          rw (yes, rest) (sym (ap (λ k. cons_option (judged k) []) same ∙ ap (λ k. cons_option k []) e))

      head_off : (t : SeenSubmission) → before u t ≡ true → Has all t → (o : Option SeenJudgement) → judged u ≡ o → filter (is_on (seen_id t)) (filter_map judged vs) ≡ cons_option (judged t) []
          → filter (is_on (seen_id t)) (cons_option o (filter_map judged vs)) ≡ cons_option (judged t) []
      head_off t b k None e rest = rest
      head_off t b k (Some w) e rest =
          let no : bytes_eq (seen_id w.submission) (seen_id t) ≡ false = differs w.submission t (λ f. apart now x valid settings u t (there u (inl refl)) k b (sym (ap seen_id (judged_is now x valid settings u w e)) ∙ f)) in
          rw no rest

  abbrev types : List (List ℕ)
  types = map (λ (t : JudgementType). t.id) s.types

  and_true : (b : Bool) → (b && (true && true)) ≡ b
  and_true true = refl
  and_true false = refl

  -- the judgement that counts for a submission that is seen is its own
  last_is_own : (v : SeenSubmission) → Has all v → last_judgement (seen_id v) (map (λ m. m.object) (made_judgements now x)) ≡ option_map (λ w. (made_judgement x w).object) (judged v)
  last_is_own v h =
      let said : SeenJudgement → JudgementRead = λ w. (made_judgement x w).object in
      let kept : filter (judges (seen_id v)) (map said (seen_judgements Jury now x)) ≡ map said (cons_option (judged v) []) =
      filter_mapped (judges (seen_id v)) (is_on (seen_id v)) said (λ w. and_true (is_on (seen_id v) w)) (seen_judgements Jury now x)
      ∙ ap (map said) (only_own all (λ u k. k) (seen_rises Jury now x) v h) in
      ap (λ js. fold later None (filter (judges (seen_id v)) js)) (map-map (λ (m : Made JudgementRead). m.object) (made_judgement x) (seen_judgements Jury now x))
      ∙ ap (fold later None) kept ∙ one (judged v)
    where
      one : (o : Option SeenJudgement) → fold later None (map (λ w. (made_judgement x w).object) (cons_option o [])) ≡ option_map (λ w. (made_judgement x w).object) o
      one None = refl
      one (Some w) = refl

  verdict_back : (typed : (w : SeenJudgement) → Has (seen_judgements Jury now x) w → w.judgement.verdict < length s.types) → (v : SeenSubmission) → Has all v
      → verdict_in types (map (λ m. m.object) (made_judgements now x)) (seen_id v) ≡ type_of v.judgement
  verdict_back typed v h = ap (option_and_then (place_by types)) (last_is_own v h) ∙ go v.judgement refl
    where
      go : (o : Option Judgement) → v.judgement ≡ o → option_and_then (place_by types) (option_map (λ w. (made_judgement x w).object) (judged v)) ≡ type_of v.judgement
      go None e =
          ap (λ k. option_and_then (place_by types) (option_map (λ w. (made_judgement x w).object) (option_map (λ (j : Judgement). record { submission = v; judgement = j }) k))) e ∙ sym (ap type_of e)
      go (Some j) e =
          let w : SeenJudgement = record { submission = v; judgement = j } in
          let judged_so : judged v ≡ Some w = ap (option_map (λ (k : Judgement). record { submission = v; judgement = k })) e in
          let typed_so : j.verdict < length s.types = typed w (some_from judged all v w h judged_so) in
          ap (λ o. option_and_then (place_by types) (option_map (λ u. (made_judgement x u).object) o)) judged_so
          ∙ row_place (λ (t : JudgementType). t.id) s.types settings.types j.verdict typed_so ∙ sym (ap type_of e)

  -- ---- attempts

  abbrev team_ids : List (List ℕ)
  team_ids = map (λ t. t.id) s.teams

  abbrev problem_ids : List (List ℕ)
  problem_ids = map (λ (p : Problem). p.id) (listed_problems s)

  attempt_back : (typed : (w : SeenJudgement) → Has (seen_judgements Jury now x) w → w.judgement.verdict < length s.types) → (v : SeenSubmission) → Has all v → (line : ℕ)
      → attempt_by s.head.duration team_ids problem_ids (verdict_in types (map (λ m. m.object) (made_judgements now x))) (record { id = seen_id v; line = line; object = (submission_made x v).object }) ≡ Some (audited_attempt x v)
  attempt_back typed v h line =
      let f = seen_facts now x valid settings v h in
      let start : start_of x.fixed.marks ≡ f.start = ap (λ o. option_map_or (λ m. m) o 0) f.started in
      let time : v.time ≡ f.submission.time = ap (λ (u : SeenSubmission). u.time) f.shown in
      let early : v.time - start_of x.fixed.marks < s.head.duration = rw (time, start) (omega (arith, f.early, f.since)) in
      let team_there : v.team < length s.teams = subst (λ (u : SeenSubmission). u.team < length s.teams) (sym f.shown) f.names.team in
      let problem_there : v.problem < length s.problems = subst (λ (u : SeenSubmission). u.problem < length s.problems) (sym f.shown) f.names.problem in
      let team = row_place (λ (t : Team). t.id) s.teams settings.teams v.team team_there in
      let problem = listed_place s settings v.problem problem_there in
      let verdict = verdict_back typed v h in
      rw (lt-ltb (v.time - start_of x.fixed.marks) s.head.duration early, team, problem, verdict) refl

  rows_found : (typed : (w : SeenJudgement) → Has (seen_judgements Jury now x) w → w.judgement.verdict < length s.types) → (vs : List SeenSubmission) → ((v : SeenSubmission) → Has vs v → Has all v) → (line : ℕ)
      → filter_map (attempt_by s.head.duration team_ids problem_ids (verdict_in types (map (λ m. m.object) (made_judgements now x)))) (rows_from line (map (submission_made x) vs)) ≡ map (audited_attempt x) vs
  rows_found typed [] there line = refl
  rows_found typed (v ∷ vs) there line = rw (attempt_back typed v (there v (inl refl)) line) (ap (λ us. audited_attempt x v ∷ us) (rows_found typed vs (λ w k. there w (inr k)) (line + 1)))

  -- ---- in order of time

  not_later : (v w : SeenSubmission) → before v w ≡ true → v.time ≤ w.time
  not_later v w b = elim (cases_lt w.time v.time) [
    | inl past ↦ (let after : nat_cmp v.time w.time ≡ Greater = sym (nat_cmp_is v.time w.time Greater past) in absurd (false≢true (rw after at b)))
    | inr ok ↦ omega (arith, ok)
  ]

  audited_in_time : IsInOrder (λ a b. nat_le a.time b.time) (audited_attempts now x)
  audited_in_time =
      mapped_in_order before (λ a b. nat_le a.time b.time) (audited_attempt x) all
      (λ v w h k b. let early = not_later v w b in le-leb (v.time - start_of x.fixed.marks) (w.time - start_of x.fixed.marks) (omega (arith, early))) (seen_rises Jury now x)

  pub attempts_back : (typed : (w : SeenJudgement) → Has (seen_judgements Jury now x) w → w.judgement.verdict < length s.types) → (a b c d e f : ℕ)
      → attempts_of s.head.duration (tables_at now x a b c d e f) ≡ audited_attempts now x
  attempts_back typed a b c d e f =
      let t = tables_at now x a b c d e f in
      let teams : ids_of t.teams ≡ team_ids = ids_rows d (made_teams x) ∙ map-map (λ m. m.item.id) (team_made s) s.teams in
      let problems : ids_of t.problems ≡ problem_ids = ids_rows b (made_problems x) ∙ map-map (λ m. m.item.id) problem_made (listed_problems s) in
      let kinds : ids_of t.types ≡ types = ids_rows a (made_types x) ∙ map-map (λ m. m.item.id) type_made s.types in
      let said = objects_rows f (made_judgements now x) in
      ap (λ ts. by_time (filter_map (attempt_by s.head.duration ts (ids_of t.problems) (verdict_of (ids_of t.types) t.judgements)) t.submissions)) teams
      ∙ ap (λ ps. by_time (filter_map (attempt_by s.head.duration team_ids ps (verdict_of (ids_of t.types) t.judgements)) t.submissions)) problems
      ∙ ap (λ ks. by_time (filter_map (attempt_by s.head.duration team_ids problem_ids (verdict_of ks t.judgements)) t.submissions)) kinds
      ∙ ap (λ js. by_time (filter_map (attempt_by s.head.duration team_ids problem_ids (verdict_in types js)) t.submissions)) said
      ∙ ap by_time (rows_found typed all (λ v h. h) e)
      ∙ by_time_same (audited_attempts now x) audited_in_time
