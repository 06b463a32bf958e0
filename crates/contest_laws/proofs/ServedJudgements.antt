-- What an audience is served by the id of a judgement.
use Rattle.std.proofs.Common.{◌≡◌, ◌∙◌, ◌≤◌, ◌<◌, ◌^◌, ℕ, Bool, true, false, List, [], ◌∷◌, ◌++◌, Option, Some, None, map, filter, length, inl, inr, refl, sym, ap, subst, arith}
use Rattle.std.specs.Prelude.{◌==◌, ◌⊎◌, bytes_eq, codes, find, nat_lt, if◌then◌else◌}
use Rattle.std.specs.Fmt.{decimal}
use Rattle.std.specs.List.{last_or, list_all, range_with_len}
use Rattle.std.specs.Option.{option_map}
use Rattle.std.proofs.lemmas.Bool.{eqb-true, ltb-true}
use Rattle.std.proofs.lemmas.Fmt.{decimal_injective}
use Rattle.std.proofs.lemmas.List.{append_cancel_left, length-map}
use Rattle.std.proofs.lemmas.Slice.Eq.{bytes_eq-Decides}
use Rattle.serde_json.specs.Data.{Data}
use Rattle.contest_types.specs.Judging.{SeenJudgement, judged, seen_judgements}
use Rattle.contest_types.specs.Masks.{mask_for, verdict_under}
use Rattle.contest_types.specs.Order.{Has}
use Rattle.contest_types.specs.Series.{in_each}
use Rattle.contest_types.specs.Sight.{Judgement, judgement_of, last_judgement, seen_judgement, seen_submission, sees_submission}
use Rattle.contest_types.specs.State.{ContestState, FixedPart, names, of_release, releases_on}
use Rattle.contest_types.specs.Valid.{is_valid}
use Rattle.contest_types.specs.ValidSubmissions.{are_valid_releases, has_submission, is_valid_release, on_one_submission}
use Rattle.contest_types.specs.VisibleIds.{judgement_id, submission_id}
use Rattle.contest_types.specs.declared.audience.Audience.{Audience}
use Rattle.contest_types.specs.declared.audience.Audience.TheVariants.{Jury}
use Rattle.contest_types.specs.declared.limits.TheConstants.{TEAMS}
use Rattle.contest_types.specs.declared.submission.Release.{Release}
use Rattle.contest_types.specs.declared.submission.Submission.{Submission}
use Rattle.contest_types.proofs.InOrderLemmas.{filter_has, find_has, found_in, map_has}
use Rattle.contest_types.proofs.JudgementLemmas.{listed_judgements}
use Rattle.contest_types.proofs.PlaceLemmas.{and_left, and_right}
use Rattle.contest_types.proofs.Rising.{find_passes}
use Rattle.contest_types.proofs.RoleLemmas.{keeps_verdicts}
use Rattle.contest_types.proofs.SeenWhole.{all_has, listed_seen, one_submission, seen_listed, team_there}
use Rattle.contest_types.proofs.SettingsTest.{is_settings}
use Rattle.contest_types.proofs.ValidParts.{parts}
use Rattle.contest_objects.specs.Items.{Item}
use Rattle.contest_objects.specs.JudgementObjects.{judgement_data}
use Rattle.contest_objects.proofs.CollectionLemmas.{find_mapped}
use Rattle.contest_view.specs.Judgements.{item_of, judgement_found}
use Rattle.contest_view.proofs.JudgementIds.{one_submission_id}
use Rattle.contest_view.proofs.SeenApart.{number_small}

-- ---- ids

-- in a valid contest the id of a judgement tells its submission
pub one_judged : (x : ContestState) (s t : Submission) (r q : ℕ) → is_valid x ≡ true → Has x.submissions s → Has x.submissions t → judgement_id s.team s.number r ≡ judgement_id t.team t.number q → s ≡ t
one_judged x s t r q valid hs ht e =
    let few : length x.fixed.settings.teams ≤ TEAMS = (is_settings x (parts x valid).settings).few_teams in
    let team_s = team_there x s valid hs in
    let team_t = team_there x t valid ht in
    let number_s = number_small x valid s hs in
    let number_t = number_small x valid t ht in
    let both = one_submission_id s.team s.number r t.team t.number q (omega (arith, few, team_s)) (omega (arith, number_s)) (omega (arith, few, team_t)) (omega (arith, number_t)) e in
    one_submission x s t valid hs ht both.0 both.1

-- and of the judgements on one submission it tells which
pub one_round : (team number r q : ℕ) → r < 2 ^ 64 → q < 2 ^ 64 → judgement_id team number r ≡ judgement_id team number q → r ≡ q
one_round team number r q small few e =
    let ends = append_cancel_left (submission_id team number) (codes "." ++ decimal r) (codes "." ++ decimal q) e in
    decimal_injective r q small few (append_cancel_left (codes ".") (decimal r) (decimal q) ends)

-- ---- what is served

-- the judgement that is served: that of a submission that stands, as the audience sees it
pub record IsServed (a : Audience) (now : ℕ) (x : ContestState) (id : List ℕ) (served : Data) : Type 0 where
  pub submission : Submission
  pub judgement : Judgement
  pub there : Has x.submissions submission
  pub seen : seen_judgement a now x submission ≡ Some judgement
  pub named : judgement_id submission.team submission.number judgement.round ≡ id
  pub is : served ≡ judgement_data x.fixed submission.team submission.number judgement

abbrev has_id : FixedPart → List ℕ → SeenJudgement → Bool
has_id f id w = bytes_eq (item_of f w).id id

abbrev object_of : FixedPart → SeenJudgement → Data
object_of f w = (item_of f w).object

found_by : (a : Audience) (now : ℕ) (x : ContestState) (id : List ℕ) → judgement_found a now x id ≡ option_map (object_of x.fixed) (find (has_id x.fixed id) (seen_judgements a now x))
found_by a now x id =
    let both : (o : Option SeenJudgement) → option_map (λ (i : Item). i.object) (option_map (item_of x.fixed) o) ≡ option_map (object_of x.fixed) o = elim [ None ↦ refl | (Some w) ↦ refl ] in
    ap (option_map (λ (i : Item). i.object)) (find_mapped (λ (i : Item). bytes_eq i.id id) (item_of x.fixed) (seen_judgements a now x)) ∙ both (find (has_id x.fixed id) (seen_judgements a now x))

-- the judgement of a submission as it is seen
of_seen : (a : Audience) (now : ℕ) (x : ContestState) (s : Submission) (w : SeenJudgement) → judged (seen_submission a now x s) ≡ Some w
    → (j : Judgement) × (seen_judgement a now x s ≡ Some j) × (w ≡ record { submission = seen_submission a now x s; judgement = j })
of_seen a now x s w e = go (seen_judgement a now x s) refl e
  where
    go : (o : Option Judgement) → seen_judgement a now x s ≡ o → option_map (λ (j : Judgement). record { submission = seen_submission a now x s; judgement = j }) o ≡ Some w
        → (j : Judgement) × (seen_judgement a now x s ≡ Some j) × (w ≡ record { submission = seen_submission a now x s; judgement = j })
    go None h k = absurd (cc k)
    go (Some j) h k = let same : record { submission = seen_submission a now x s; judgement = j } ≡ w = cc k in (j, h, sym same)

pub served_judgement : (a : Audience) (now : ℕ) (x : ContestState) (id : List ℕ) (d : Data) → judgement_found a now x id ≡ Some d → IsServed a now x id d
served_judgement a now x id d h = go (find (has_id x.fixed id) (seen_judgements a now x)) refl (sym (found_by a now x id) ∙ h)
  where
    go : (o : Option SeenJudgement) → find (has_id x.fixed id) (seen_judgements a now x) ≡ o → option_map (object_of x.fixed) o ≡ Some d → IsServed a now x id d
    go None e k = absurd (cc k)
    go (Some w) e k =
        let object : object_of x.fixed w ≡ d = cc k in
        let on = (listed_judgements a now x w).0 (find_has (has_id x.fixed id) (seen_judgements a now x) w e) in
        let seen = listed_seen a now x on.submission on.there in
        let of = of_seen a now x seen.submission w (ap judged (sym seen.shown) ∙ on.has) in
        let named = (bytes_eq-Decides (item_of x.fixed w).id id).0 (find_passes (has_id x.fixed id) (seen_judgements a now x) w e) in
        record {
          submission = seen.submission;
          judgement = of.0;
          there = seen.there;
          seen = of.1;
          named = ap (λ (u : SeenJudgement). (item_of x.fixed u).id) (sym of.2) ∙ named;
          is = sym object ∙ ap (object_of x.fixed) of.2;
        }

sees_it : (a : Audience) (now : ℕ) (x : ContestState) (s : Submission) (j : Judgement) → seen_judgement a now x s ≡ Some j → sees_submission a x s ≡ true
sees_it a now x s j = go (sees_submission a x s) refl
  where
    under : Option Judgement
    under = verdict_under (mask_for a x.fixed.marks now s.team) x.fixed.settings x.fixed.marks s.time (last_judgement x s)

    go : (b : Bool) → sees_submission a x s ≡ b → (if b then under else None) ≡ Some j → sees_submission a x s ≡ true
    go true e h = e
    go false e h = absurd (cc h)

-- the judgement that is seen of a submission is served by its id
pub judgement_served : (a : Audience) (now : ℕ) (x : ContestState) (s : Submission) (j : Judgement) → is_valid x ≡ true → Has x.submissions s → seen_judgement a now x s ≡ Some j
    → judgement_found a now x (judgement_id s.team s.number j.round) ≡ Some (judgement_data x.fixed s.team s.number j)
judgement_served a now x s j valid there seen =
    let id = judgement_id s.team s.number j.round in
    let v = seen_submission a now x s in
    let w : SeenJudgement = record { submission = v; judgement = j } in
    let has : judged v ≡ Some w = ap (option_map (λ (k : Judgement). record { submission = v; judgement = k })) seen in
    let shown = seen_listed a now x valid v (record { submission = s; there = there; sees = sees_it a now x s j seen; shown = refl }) in
    let listed = (listed_judgements a now x w).1 (record { submission = v; there = shown; has = has }) in
    let f = found_in (has_id x.fixed id) (seen_judgements a now x) w listed ((bytes_eq-Decides id id).1 refl) in
    let found : judgement_found a now x id ≡ Some (object_of x.fixed f.item) = found_by a now x id ∙ ap (option_map (object_of x.fixed)) f.found in
    let r = served_judgement a now x id (object_of x.fixed f.item) found in
    let t = r.submission in
    let one : t ≡ s = one_judged x t s r.judgement.round j.round valid r.there there r.named in
    let both : Some r.judgement ≡ Some j = sym r.seen ∙ ap (seen_judgement a now x) one ∙ seen in
    let same : r.judgement ≡ j = cc both in
    found ∙ ap Some (r.is ∙ (λ i. judgement_data x.fixed (one i).team (one i).number (same i)))

-- ---- the release that is told

last_is : {X : Type 0} (o : Option X) (xs : List X) (y : X) → last_or o xs ≡ Some y → (o ≡ Some y) ⊎ Has xs y
last_is o [] y e = inl e
last_is {X} o (x ∷ xs) y e = elim (last_is (Some x) xs y e) [ inl same ↦ (let is : x ≡ y = cc same in inr (inl (sym is))) | inr later ↦ inr (inr later) ]

-- a judgement that is seen tells of one of the releases on its submission, which is that of a type that is there
pub record IsTold (x : ContestState) (s : Submission) (j : Judgement) : Type 0 where
  pub release : Release
  pub on : Has (releases_on s.team s.number x.releases) release
  pub there : Has x.releases release
  pub team : release.team ≡ s.team
  pub number : release.number ≡ s.number
  pub is : j ≡ judgement_of release
  pub type : j.verdict < length x.fixed.settings.types

pub last_of_seen : (a : Audience) (now : ℕ) (x : ContestState) (s : Submission) (j : Judgement) → seen_judgement a now x s ≡ Some j → last_judgement x s ≡ Some j
last_of_seen a now x s j seen = keeps_verdicts a Jury (inr (inl refl)) now x s j seen

pub told_judgement : (a : Audience) (now : ℕ) (x : ContestState) (s : Submission) (j : Judgement) → is_valid x ≡ true → seen_judgement a now x s ≡ Some j → IsTold x s j
told_judgement a now x s j valid seen =
    let on = releases_on s.team s.number x.releases in
    let last : last_or None (map judgement_of on) ≡ Some j = last_of_seen a now x s j seen in
    let found : Has (map judgement_of on) j = elim (last_is None (map judgement_of on) j last) [ inl none ↦ absurd (cc none) | inr has ↦ has ] in
    let m = map_has judgement_of on j found in
    let v = m.item in
    let f = filter_has (λ w. names s.team s.number (of_release w)) x.releases v m.there in
    let all = list_all (is_valid_release x) x.releases in
    let row = all_has (is_valid_release x) x.releases v (and_left all (in_each on_one_submission are_valid_releases x.releases) (parts x valid).releases) f.0 in
    let type : v.verdict < length x.fixed.settings.types = ltb-true v.verdict (length x.fixed.settings.types) (and_right (has_submission x v.team v.number) (nat_lt v.verdict (length x.fixed.settings.types)) row) in
    record {
      release = v;
      on = m.there;
      there = f.0;
      team = eqb-true v.team s.team (and_left (v.team == s.team) (v.number == s.number) f.1);
      number = eqb-true v.number s.number (and_right (v.team == s.team) (v.number == s.number) f.1);
      is = m.is;
      type = subst (λ (k : Judgement). k.verdict < length x.fixed.settings.types) (sym m.is) type;
    }

-- the rounds of the releases on a submission count up
pub rounds_count : (x : ContestState) (v : Release) → is_valid x ≡ true → Has x.releases v
    → map (λ (w : Release). w.round) (releases_on v.team v.number x.releases) ≡ range_with_len 1 (length (releases_on v.team v.number x.releases))
rounds_count x v valid there =
    let on = releases_on v.team v.number x.releases in
    let rounds : List ℕ = map (λ (w : Release). w.round) on in
    let all = list_all (is_valid_release x) x.releases in
    let up = all_has (λ w. are_valid_releases (filter (on_one_submission w) x.releases)) x.releases v (and_right all (in_each on_one_submission are_valid_releases x.releases) (parts x valid).releases) there in
    (bytes_eq-Decides rounds (range_with_len 1 (length rounds))).0 up ∙ ap (range_with_len 1) (length-map on (λ (w : Release). w.round))
