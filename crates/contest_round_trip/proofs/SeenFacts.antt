-- What is known of a submission that the jury sees, and of its judgement.
use Rattle.std.proofs.Common.{◌≡◌, ◌∙◌, ◌⊎◌, ◌≤◌, ◌<◌, ◌+◌, ℕ, true, false, List, [], ◌∷◌, Option, Some, None, map, length, refl, sym, ap, subst, inl, inr, arith}
use Rattle.std.specs.Prelude.{◌&&◌, ◌==◌, ◌||◌, not, nat_le, nat_lt, is_some}
use Rattle.std.specs.List.{last_or, list_all}
use Rattle.std.specs.Option.{option_map_or}
use Rattle.std.proofs.lemmas.Bool.{false≢true, leb-false, leb-true, ltb-true, not-true}
use Rattle.contest_types.specs.Clock.{end_of, moment_after, reached}
use Rattle.contest_types.specs.MomentText.{latest}
use Rattle.contest_types.specs.Order.{Has}
use Rattle.contest_types.specs.Series.{in_each}
use Rattle.contest_types.specs.Setup.{IsValid}
use Rattle.contest_types.specs.Sight.{Judgement, SeenSubmission, judgement_of, seen_submission, seen_submissions}
use Rattle.contest_types.specs.State.{ContestState, names, of_release, releases_on}
use Rattle.contest_types.specs.Valid.{is_valid}
use Rattle.contest_types.specs.ValidSubmissions.{are_valid_releases, has_submission, is_valid_release, on_one_submission}
use Rattle.contest_types.specs.declared.audience.Audience.TheVariants.{Jury}
use Rattle.contest_types.specs.declared.submission.Release.{Release}
use Rattle.contest_types.specs.declared.submission.Submission.{Submission}
use Rattle.contest_types.proofs.InOrderLemmas.{filter_has, map_has}
use Rattle.contest_types.proofs.PlaceLemmas.{and_left, and_right}
use Rattle.contest_types.proofs.SeenWhole.{all_has, listed_seen}
use Rattle.contest_types.proofs.ValidParts.{parts}
use Rattle.contest_view.proofs.SeenApart.{number_small}
use Rattle.contest_round_trip.proofs.SubmissionParts.{SubmissionParts, parts_of}

-- a submission that the jury sees: one that stands, of a contest that has begun and not ended
pub record SeenFacts (now : ℕ) (x : ContestState) (v : SeenSubmission) : Type 0 where
  pub submission : Submission
  pub there : Has x.submissions submission
  pub shown : v ≡ seen_submission Jury now x submission
  pub names : SubmissionParts x.fixed submission
  pub team : submission.team ≤ 1_000
  pub number : submission.number ≤ 1_000
  pub start : ℕ
  pub started : x.fixed.marks.start ≡ Some start
  pub since : start ≤ submission.time
  pub early : submission.time < start + x.fixed.settings.head.duration
  pub moment : submission.time ≤ latest

at_or_past : (start : Option ℕ) (time duration : ℕ) → reached start time ≡ true → not (reached (moment_after start duration) time) ≡ true
    → (s : ℕ) × (start ≡ Some s) × (s ≤ time) × (time < s + duration)
at_or_past None time duration e f = absurd (false≢true e)
at_or_past (Some s) time duration e f =
    let low : s ≤ time = leb-true s time e in
    let high : nat_le (s + duration) time ≡ false = not-true (nat_le (s + duration) time) f in
    (s, refl, low, leb-false (s + duration) time high)

pub clock_end : (x : ContestState) → is_valid x ≡ true → (start : ℕ) → x.fixed.marks.start ≡ Some start → start + x.fixed.settings.head.duration ≤ latest
clock_end x valid start started =
    let first = option_map_or (λ end. nat_le end latest) (end_of x.fixed.settings x.fixed.marks) true in
    let bound : first ≡ true = and_left first (is_some x.fixed.marks.start || (length x.submissions == 0) && (length x.clarifications == 0)) (parts x valid).clock in
    leb-true (start + x.fixed.settings.head.duration) latest (ap (λ o. option_map_or (λ end. nat_le end latest) (moment_after o x.fixed.settings.head.duration) true) (sym started) ∙ bound)

pub seen_facts : (now : ℕ) (x : ContestState) → is_valid x ≡ true → IsValid x.fixed.settings → (v : SeenSubmission) → Has (seen_submissions Jury now x) v → SeenFacts now x v
seen_facts now x valid settings v h =
    let i = listed_seen Jury now x v h in
    let s = i.submission in
    let p = parts_of x valid s i.there in
    let t = at_or_past x.fixed.marks.start s.time x.fixed.settings.head.duration p.started p.open_then in
    let end = clock_end x valid t.0 t.1 in
    record {
      submission = s;
      there = i.there;
      shown = i.shown;
      names = p;
      team = omega (arith, settings.few_teams, p.team);
      number = omega (arith, number_small x valid s i.there);
      start = t.0;
      started = t.1;
      since = t.2;
      early = t.3;
      moment = omega (arith, t.3, end);
    }

-- ---- its judgement

last_is : {X : Type 0} (o : Option X) (xs : List X) (y : X) → last_or o xs ≡ Some y → (o ≡ Some y) ⊎ Has xs y
last_is o [] y e = inl e
last_is {X} o (x ∷ xs) y e = elim (last_is (Some x) xs y e) [ inl same ↦ (let is : x ≡ y = cc same in inr (inl (sym is))) | inr later ↦ inr (inr later) ]

-- a judgement that the jury sees is one that was released
pub record JudgementFacts (x : ContestState) (j : Judgement) : Type 0 where
  pub release : Release
  pub is : j ≡ judgement_of release
  pub there : Has x.releases release
  pub type : j.verdict < length x.fixed.settings.types

pub judgement_facts : (now : ℕ) (x : ContestState) → is_valid x ≡ true → (s : Submission) (j : Judgement) → (seen_submission Jury now x s).judgement ≡ Some j → JudgementFacts x j
judgement_facts now x valid s j e =
    let on = releases_on s.team s.number x.releases in
    let found : Has (map judgement_of on) j = elim (last_is None (map judgement_of on) j e) [ inl none ↦ absurd (cc none) | inr has ↦ has ] in
    let m = map_has judgement_of on j found in
    let there = (filter_has (λ v. names s.team s.number (of_release v)) x.releases m.item m.there).0 in
    let all = list_all (is_valid_release x) x.releases in
    let row = all_has (is_valid_release x) x.releases m.item (and_left all (in_each on_one_submission are_valid_releases x.releases) (parts x valid).releases) there in
    let type : m.item.verdict < length x.fixed.settings.types = ltb-true m.item.verdict (length x.fixed.settings.types) (and_right (has_submission x m.item.team m.item.number) (nat_lt m.item.verdict (length x.fixed.settings.types)) row) in
    record { release = m.item; is = m.is; there = there; type = subst (λ (k : Judgement). k.verdict < length x.fixed.settings.types) (sym m.is) type }
