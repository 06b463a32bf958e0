-- All that the jury's feed says of a contest is read as it was made.
use Rattle.std.proofs.Common.{◌≡◌, ◌∙◌, ◌≤◌, ◌<◌, ◌^◌, ℕ, zero, suc, true, List, [], ◌∷◌, Option, Some, None, length, map, get_or, inl, inr, refl, sym, ap, subst}
use Rattle.std.specs.Prelude.{All, slice_get}
use Rattle.std.specs.List.{filter_map}
use Rattle.std.specs.Option.{option_map}
use Rattle.std.proofs.lemmas.Simd.{map-map}
use Rattle.contest_types.specs.Judging.{SeenJudgement, judged, seen_judgements}
use Rattle.contest_types.specs.Order.{Has}
use Rattle.contest_types.specs.Places.{are_different}
use Rattle.contest_types.specs.ProblemPlaces.{problem_order}
use Rattle.contest_types.specs.Setup.{IsValid, Setup, refers}
use Rattle.contest_types.specs.Sight.{Judgement, SeenSubmission, seen_submission, seen_submissions}
use Rattle.contest_types.specs.State.{ContestState}
use Rattle.contest_types.specs.Valid.{is_valid}
use Rattle.contest_types.specs.declared.audience.Audience.TheVariants.{Jury}
use Rattle.contest_types.specs.declared.objects.Problem.{Problem}
use Rattle.contest_types.proofs.InOrderLemmas.{map_has, option_has}
use Rattle.contest_types.proofs.JudgementLemmas.{listed_judgements}
use Rattle.contest_types.proofs.SeenWhole.{all_has}
use Rattle.contest_feed_reader.specs.FeedTypes.{GroupRead, JudgementRead, ProblemRead, SubmissionRead, TeamRead, TypeRead}
use Rattle.contest_feed_reader.specs.Objects.{group_members, judgement_members, problem_members, submission_members, team_members, type_members}
use Rattle.contest_round_trip.specs.Audited.{listed_problems}
use Rattle.contest_round_trip.specs.Forms.{HasForms, IsMoment, IsRelease}
use Rattle.contest_round_trip.proofs.HeardEvents.{IsMade, Made}
use Rattle.contest_round_trip.proofs.IdPlaces.{listed_different}
use Rattle.contest_round_trip.proofs.ListPlaces.{has_at}
use Rattle.contest_round_trip.proofs.ObjectsBack.{contest_is_made, group_is_made, group_made, problem_is_made, problem_made, team_is_made, team_made, type_is_made, type_made}
use Rattle.contest_round_trip.proofs.OwnIds.{judged_ids_differ, seen_ids_differ}
use Rattle.contest_round_trip.proofs.PlainObjects.{of_all}
use Rattle.contest_round_trip.proofs.PlainRows.{group_called, problem_is, team_called, type_called}
use Rattle.contest_round_trip.proofs.SeenBack.{judgement_is_made, submission_is_made, submission_made}
use Rattle.contest_round_trip.proofs.SeenFacts.{JudgementFacts, SeenFacts, judgement_facts, seen_facts}
use Rattle.contest_round_trip.proofs.TablesBack.{AreMade, made_judgement}

-- what holds of each that there is holds of all
pub all_of : {X : Type 0} (P : X → Type 0) (xs : List X) → ((x : X) → Has xs x → P x) → All P xs
all_of P xs h i d l = h (get_or xs i d) (has_at xs i d l)

-- the same, of what is made of each
pub all_made : {X Y : Type 0} (P : Y → Type 0) (f : X → Y) (xs : List X) → ((x : X) → Has xs x → P (f x)) → All P (map f xs)
all_made P f xs h = all_of P (map f xs) (λ y k. let m = map_has f xs y k in subst P (sym m.is) (h m.item m.there))

-- a problem that is listed is one of the settings
pub listed_there : (ps : List Problem) (places : List ℕ) (p : Problem) → Has (filter_map (slice_get ps) places) p → Has ps p
listed_there ps places p h = found places h
  where
    at : (qs : List Problem) (i : ℕ) (q : Problem) → slice_get qs i ≡ Some q → Has qs q
    at [] i q e = absurd (cc e)
    at (r ∷ qs) zero q e = (let same : r ≡ q = cc e in inl (sym same))
    at (r ∷ qs) (suc i) q e = inr (at qs i q e)

    found : (ks : List ℕ) → Has (filter_map (slice_get ps) ks) p → Has ps p
    found [] k = absurd k
    found (i ∷ ks) k = elim (option_has (slice_get ps i) (filter_map (slice_get ps) ks) p k) [
      | inl here ↦ at ps i p here
      | inr later ↦ found ks later
    ]

module _ (now : ℕ) (x : ContestState) (valid : is_valid x ≡ true) (settings : IsValid x.fixed.settings) (forms : HasForms x) where
  abbrev s : Setup
  s = x.fixed.settings

  submission_of : (v : SeenSubmission) → Has (seen_submissions Jury now x) v → IsMade submission_members (submission_made x v)
  submission_of v h = submission_is_made now x forms.settings v (seen_facts now x valid settings v h)

  pub judgement_of_seen : (w : SeenJudgement) → Has (seen_judgements Jury now x) w → (f : SeenFacts now x w.submission) × JudgementFacts x w.judgement
  judgement_of_seen w h =
      let i = (listed_judgements Jury now x w).0 h in
      let f = seen_facts now x valid settings i.submission i.there in
      let same = said i.submission i.submission.judgement refl w i.has in
      let told : (seen_submission Jury now x f.submission).judgement ≡ Some w.judgement = ap (λ (v : SeenSubmission). v.judgement) (sym f.shown) ∙ same.1 in
      (subst (SeenFacts now x) (sym same.0) f, judgement_facts now x valid f.submission w.judgement told)
    where
      said : (v : SeenSubmission) (o : Option Judgement) → v.judgement ≡ o → (u : SeenJudgement) → judged v ≡ Some u → (u.submission ≡ v) × (v.judgement ≡ Some u.judgement)
      said v None e u k = absurd (cc (sym (ap (option_map (λ (j : Judgement). record { submission = v; judgement = j })) e) ∙ k))
      said v (Some j) e u k =
          let same : record { submission = v; judgement = j } ≡ u = cc (sym (ap (option_map (λ (j : Judgement). record { submission = v; judgement = j })) e) ∙ k) in
          (ap (λ (t : SeenJudgement). t.submission) (sym same), e ∙ ap Some (ap (λ (t : SeenJudgement). t.judgement) same))

  judgement_of : (w : SeenJudgement) → Has (seen_judgements Jury now x) w → IsMade judgement_members (made_judgement x w)
  judgement_of w h =
      let both = judgement_of_seen w h in
      let f = both.0 in
      let j = both.1 in
      let release = of_all IsRelease x.releases j.release forms.releases j.there in
      let team : w.submission.team ≤ 1_000 = subst (λ (u : SeenSubmission). u.team ≤ 1_000) (sym f.shown) f.team in
      let number : w.submission.number ≤ 1_000 = subst (λ (u : SeenSubmission). u.number ≤ 1_000) (sym f.shown) f.number in
      let round : w.judgement.round < 2 ^ 64 = subst (λ (u : Judgement). u.round < 2 ^ 64) (sym j.is) release.round in
      let time = subst (λ (u : Judgement). IsMoment u.time) (sym j.is) release.time in
      judgement_is_made x forms.settings forms.marks.start w.submission team number w.judgement round time j.type

  pub are_made : AreMade now x
  are_made = record {
    contest = contest_is_made s x.fixed.marks forms.settings.contest settings.head;
    types = all_made (IsMade type_members) type_made s.types (λ t h. type_is_made t (type_called s forms.settings t h));
    problems = all_made (IsMade problem_members) problem_made (listed_problems s) (λ p h. problem_is_made p (problem_is s forms.settings p (listed_there s.problems (problem_order s) p h)));
    groups = all_made (IsMade group_members) group_made s.groups (λ g h. group_is_made g (group_called s forms.settings g h));
    teams = all_made (IsMade team_members) (team_made s) s.teams (λ t h. team_is_made s forms.settings t (team_called s forms.settings t h) (all_has (refers (length s.groups)) s.teams t settings.references h));
    submissions = all_made (IsMade submission_members) (submission_made x) (seen_submissions Jury now x) submission_of;
    judgements = all_made (IsMade judgement_members) (made_judgement x) (seen_judgements Jury now x) judgement_of;
    type_ids = ap are_different (map-map (λ (m : Made TypeRead). m.item.id) type_made s.types) ∙ settings.types;
    problem_ids = ap are_different (map-map (λ (m : Made ProblemRead). m.item.id) problem_made (listed_problems s)) ∙ listed_different s settings (λ (p : Problem). p.id) settings.problems;
    group_ids = ap are_different (map-map (λ (m : Made GroupRead). m.item.id) group_made s.groups) ∙ settings.groups;
    team_ids = ap are_different (map-map (λ (m : Made TeamRead). m.item.id) (team_made s) s.teams) ∙ settings.teams;
    submission_ids = ap are_different (map-map (λ (m : Made SubmissionRead). m.item.id) (submission_made x) (seen_submissions Jury now x)) ∙ seen_ids_differ now x valid settings;
    judgement_ids = ap are_different (map-map (λ (m : Made JudgementRead). m.item.id) (made_judgement x) (seen_judgements Jury now x)) ∙ judged_ids_differ now x valid settings;
  }
