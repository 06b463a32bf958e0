-- No two submissions that the jury sees have one id, and no two judgements.
use Rattle.std.proofs.Common.{◌≡◌, ◌∙◌, ◌≤◌, ◌<◌, ℕ, Bool, true, List, [], ◌∷◌, Option, Some, None, length, map, get_or, refl, sym, ap, subst, inl, inr, arith}
use Rattle.std.specs.List.{cons_option, filter_map}
use Rattle.std.specs.Option.{option_map}
use Rattle.std.specs.Ordering.{is_lt}
use Rattle.std.proofs.lemmas.List.{get_or-map, length-map}
use Rattle.contest_types.specs.Judging.{SeenJudgement, judged, seen_judgements}
use Rattle.contest_types.specs.Order.{Has, IsBefore, IsInOrder}
use Rattle.contest_types.specs.Places.{are_different}
use Rattle.contest_types.specs.Setup.{IsValid}
use Rattle.contest_types.specs.Sight.{Judgement, SeenSubmission, seen_submission, seen_submissions, submission_cmp}
use Rattle.contest_types.specs.State.{ContestState}
use Rattle.contest_types.specs.Valid.{is_valid}
use Rattle.contest_types.specs.VisibleIds.{judgement_id, submission_id}
use Rattle.contest_types.specs.declared.audience.Audience.TheVariants.{Jury}
use Rattle.contest_types.proofs.InOrderLemmas.{option_has}
use Rattle.contest_types.proofs.JudgementLemmas.{listed_judgements}
use Rattle.contest_types.proofs.Rising.{before_all, strict}
use Rattle.contest_types.proofs.SeenWhole.{seen_rises, submission_order}
use Rattle.contest_view.proofs.JudgementIds.{one_submission_id}
use Rattle.contest_view.proofs.SeenById.{one_with_id}
use Rattle.contest_round_trip.proofs.IdPlaces.{different_if}
use Rattle.contest_round_trip.proofs.ListPlaces.{before_at, has_at}
use Rattle.contest_round_trip.proofs.SeenFacts.{seen_facts}

abbrev pub seen_id : SeenSubmission → List ℕ
seen_id v = submission_id v.team v.number

module _ (now : ℕ) (x : ContestState) (valid : is_valid x ≡ true) (settings : IsValid x.fixed.settings) where
  abbrev all : List SeenSubmission
  all = seen_submissions Jury now x

  -- an id tells a submission that is seen
  pub same_seen : (v w : SeenSubmission) → Has all v → Has all w → seen_id v ≡ seen_id w → v ≡ w
  same_seen v w h k e =
      let f = seen_facts now x valid settings v h in
      let g = seen_facts now x valid settings w k in
      let ids : submission_id f.submission.team f.submission.number ≡ submission_id g.submission.team g.submission.number = ap seen_id (sym f.shown) ∙ e ∙ ap seen_id g.shown in
      let one = one_with_id x valid f.submission g.submission f.there g.there ids in
      f.shown ∙ ap (seen_submission Jury now x) one ∙ sym g.shown

  abbrev before : SeenSubmission → SeenSubmission → Bool
  before v w = is_lt (submission_cmp x.fixed.settings v w)

  -- one that stands before another isn't that
  pub apart : (v w : SeenSubmission) → Has all v → Has all w → before v w ≡ true → seen_id v ≡ seen_id w → ⊥
  apart v w h k b e =
      let same = same_seen v w h k e in
      let own : before w w ≡ true = subst (λ u. before u w ≡ true) same b in
      (strict (submission_order x.fixed.settings)).never w w own own

  pub seen_ids_differ : are_different (map seen_id all) ≡ true
  seen_ids_differ = different_if (map seen_id all) (λ i j l m e.
      let many = length-map all seen_id in
      let n : j < length all = omega (arith, m, many) in
      let k : i < length all = omega (arith, l, n) in
      at_two i j l k n e)
    where
      text_at : (vs : List SeenSubmission) (i : ℕ) (d : SeenSubmission) → i < length vs → get_or (map seen_id vs) i [] ≡ seen_id (get_or vs i d)
      text_at vs i d l = get_or-map seen_id vs i d [] l

      some : (vs : List SeenSubmission) (i : ℕ) → i < length vs → SeenSubmission
      some [] i l = absurd (omega (arith, l))
      some (v ∷ vs) i l = v

      at_two : (i j : ℕ) → i < j → i < length all → j < length all → get_or (map seen_id all) i [] ≡ get_or (map seen_id all) j [] → ⊥
      at_two i j l k n e =
          let d = some all i k in
          apart (get_or all i d) (get_or all j d) (has_at all i d k) (has_at all j d n) (before_at before all (seen_rises Jury now x) i j d l n) (sym (text_at all i d k) ∙ e ∙ text_at all j d n)

  -- ---- judgements stand in the order of their submissions

  abbrev listed : List SeenJudgement
  listed = seen_judgements Jury now x

  pub judged_is : (v : SeenSubmission) (w : SeenJudgement) → judged v ≡ Some w → w.submission ≡ v
  judged_is v w e = of v.judgement e
    where
      of : (o : Option Judgement) → option_map (λ (j : Judgement). record { submission = v; judgement = j }) o ≡ Some w → w.submission ≡ v
      of None f = absurd (cc f)
      of (Some j) f = let same : record { submission = v; judgement = j } ≡ w = cc f in ap (λ (u : SeenJudgement). u.submission) (sym same)

  pub of_seen : (w : SeenJudgement) → Has listed w → Has all w.submission
  of_seen w h =
      let i = (listed_judgements Jury now x w).0 h in
      subst (Has all) (sym (judged_is i.submission w i.has)) i.there

  in_turn : (vs : List SeenSubmission) → IsInOrder before vs → IsInOrder (λ a b. before a.submission b.submission) (filter_map judged vs)
  in_turn [] h = tt
  in_turn (v ∷ vs) h = with_first (in_turn vs h.1) (judged v) refl
    where
      later : (ws : List SeenSubmission) → IsBefore before v ws → (b : SeenJudgement) → Has (filter_map judged ws) b → before v b.submission ≡ true
      later [] k b n = absurd n
      later (w ∷ ws) k b n = elim (option_has (judged w) (filter_map judged ws) b n) [
        | inl here ↦ subst (λ u. before v u ≡ true) (sym (judged_is w b here)) k.0
        | inr more ↦ later ws k.1 b more
      ]

      with_first : IsInOrder (λ a b. before a.submission b.submission) (filter_map judged vs) → (o : Option SeenJudgement) → judged v ≡ o → IsInOrder (λ a b. before a.submission b.submission) (cons_option o (filter_map judged vs))
      with_first rest None e = rest
      with_first rest (Some a) e = (before_all (λ c b. before c.submission b.submission) a (filter_map judged vs) (λ b n. subst (λ u. before u b.submission ≡ true) (sym (judged_is v a e)) (later vs h.0 b n)), rest)

  abbrev pub judged_id : SeenJudgement → List ℕ
  judged_id w = judgement_id w.submission.team w.submission.number w.judgement.round

  pub judged_ids_differ : are_different (map judged_id listed) ≡ true
  judged_ids_differ = different_if (map judged_id listed) (λ i j l m e.
      let many = length-map listed judged_id in
      let n : j < length listed = omega (arith, m, many) in
      let k : i < length listed = omega (arith, l, n) in
      at_two i j l k n e)
    where
      some : (ws : List SeenJudgement) (i : ℕ) → i < length ws → SeenJudgement
      some [] i l = absurd (omega (arith, l))
      some (w ∷ ws) i l = w

      at_two : (i j : ℕ) → i < j → i < length listed → j < length listed → get_or (map judged_id listed) i [] ≡ get_or (map judged_id listed) j [] → ⊥
      at_two i j l k n e =
          let d = some listed i k in
          let a = get_or listed i d in
          let b = get_or listed j d in
          let f = seen_facts now x valid settings a.submission (of_seen a (has_at listed i d k)) in
          let g = seen_facts now x valid settings b.submission (of_seen b (has_at listed j d n)) in
          let team_a : a.submission.team ≤ 1_000 = subst (λ (u : SeenSubmission). u.team ≤ 1_000) (sym f.shown) f.team in
          let number_a : a.submission.number ≤ 1_000 = subst (λ (u : SeenSubmission). u.number ≤ 1_000) (sym f.shown) f.number in
          let team_b : b.submission.team ≤ 1_000 = subst (λ (u : SeenSubmission). u.team ≤ 1_000) (sym g.shown) g.team in
          let number_b : b.submission.number ≤ 1_000 = subst (λ (u : SeenSubmission). u.number ≤ 1_000) (sym g.shown) g.number in
          let texts : judged_id a ≡ judged_id b = sym (get_or-map judged_id listed i d [] k) ∙ e ∙ get_or-map judged_id listed j d [] n in
          let one = one_submission_id a.submission.team a.submission.number a.judgement.round b.submission.team b.submission.number b.judgement.round team_a number_a team_b number_b texts in
          let ids : seen_id a.submission ≡ seen_id b.submission = ap (λ t. submission_id t a.submission.number) one.0 ∙ ap (submission_id b.submission.team) one.1 in
          apart a.submission b.submission (of_seen a (has_at listed i d k)) (of_seen b (has_at listed j d n)) (before_at (λ c u. before c.submission u.submission) listed (in_turn all (seen_rises Jury now x)) i j d l n) ids
