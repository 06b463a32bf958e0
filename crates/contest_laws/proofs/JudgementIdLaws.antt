-- What the id of a judgement names stays.
use Rattle.std.proofs.Common.{◌≡◌, ◌∙◌, ◌≤◌, ◌<◌, ◌+◌, ◌⊎◌, ℕ, Bool, true, false, List, [], ◌∷◌, ◌++◌, Option, Some, None, map, filter, length, inl, inr, refl, sym, ap, subst, arith}
use Rattle.std.specs.Prelude.{◌==◌, ◌&&◌, nat_lt}
use Rattle.std.specs.List.{last_or, list_all, list_any, range_with_len}
use Rattle.std.specs.Option.{option_map_or}
use Rattle.std.proofs.lemmas.Bool.{cases_Bool, eq-eqb, eqb-true, false≢true}
use Rattle.std.proofs.lemmas.List.{append-nil}
use Rattle.std.proofs.lemmas.List.Elements.{filter-append}
use Rattle.std.proofs.lemmas.List.Sums.{count_by-le-length, length-filter}
use Rattle.serde_json.specs.Data.{Data, object}
use Rattle.contest_types.specs.Clock.{is_frozen, is_thawed}
use Rattle.contest_types.specs.Masks.{knows_all_of}
use Rattle.contest_types.specs.Order.{Has}
use Rattle.contest_types.specs.SettingsNames.{type_id_at}
use Rattle.contest_types.specs.Sight.{Judgement, judgement_of, last_judgement, seen_judgement, sees_submission}
use Rattle.contest_types.specs.State.{ContestState, names, of_release, of_submission, releases_on}
use Rattle.contest_types.specs.Valid.{is_valid}
use Rattle.contest_types.specs.VisibleIds.{judgement_id, submission_id}
use Rattle.contest_types.specs.declared.objects.JudgementType.{JudgementType}
use Rattle.contest_types.specs.declared.submission.Release.{Release}
use Rattle.contest_types.specs.declared.submission.Submission.{Submission}
use Rattle.contest_types.specs.Series.{in_each}
use Rattle.contest_types.specs.ValidSubmissions.{are_valid_releases, has_submission, is_valid_release, on_one_submission}
use Rattle.contest_types.proofs.GrownSettings.{at_front}
use Rattle.contest_types.proofs.InOrderLemmas.{filter_has, has_back, has_filter, has_front}
use Rattle.contest_types.proofs.PlaceLemmas.{and_left, and_right}
use Rattle.contest_types.proofs.SeenWhole.{all_has, not_greater, one_row}
use Rattle.contest_types.proofs.ValidParts.{parts}
use Rattle.contest_types.proofs.ShownVerdicts.{is_shown, shown, thaw_adds}
use Rattle.contest_objects.specs.JudgementObjects.{judgement_data, judgement_members}
use Rattle.contest_view.specs.Judgements.{judgement_found}
use Rattle.contest_operations.specs.Growing.{Grows, IsFront}
use Rattle.contest_operations.proofs.Fronts.{extends}
use Rattle.contest_desk.proofs.RepeatLemmas.{runs_grow}
use Rattle.contest_laws.specs.Ids.{IsHeldAgain, IsRevised, JudgementIdsStay, RevisedJudgementsGo, ServedJudgementsStay}
use Rattle.contest_laws.proofs.FreezeKeeps.{freeze_stays}
use Rattle.contest_laws.proofs.IdLaws.{sight_stays, some_stand, still_valid, within}
use Rattle.contest_laws.proofs.ServedJudgements.{IsServed, IsTold, judgement_served, last_of_seen, one_judged, one_round, rounds_count, served_judgement, told_judgement}

-- what stands in front stands still
stands_still : {X : Type 0} (xs ys : List X) (x : X) → IsFront xs ys → Has xs x → Has ys x
stands_still xs ys x front there = subst (λ zs. Has zs x) (sym front.1) (has_front xs front.0 x there)

-- the object of a judgement stays
object_stays : (x y : ContestState) (s : Submission) (j : Judgement) → Grows x y → Has x.submissions s → j.verdict < length x.fixed.settings.types
    → judgement_data y.fixed s.team s.number j ≡ judgement_data x.fixed s.team s.number j
object_stays x y s j grows there type =
    let started = grows.start (inl (some_stand x.submissions s there)) in
    let named : type_id_at y.fixed.settings j.verdict ≡ type_id_at x.fixed.settings j.verdict =
    ap (λ o. option_map_or (λ (t : JudgementType). t.id) o []) (at_front x.fixed.settings.types y.fixed.settings.types j.verdict grows.types type) in
    λ i. object (judgement_members (judgement_id s.team s.number j.round) (named i) (started i) (submission_id s.team s.number) j.time)

-- ---- one judgement for one id

-- on one submission the round tells the release
one_release : (x : ContestState) (v w : Release) → is_valid x ≡ true → Has x.releases v → Has x.releases w → w.team ≡ v.team → w.number ≡ v.number → w.round ≡ v.round → w ≡ v
one_release x v w valid hv hw team number round =
    let on = releases_on v.team v.number x.releases in
    one_row (λ (u : Release). u.round) 1 on w v (rounds_count x v valid hv) (on_it w hw team number) (on_it v hv refl refl) round
  where
    on_it : (u : Release) → Has x.releases u → u.team ≡ v.team → u.number ≡ v.number → Has (releases_on v.team v.number x.releases) u
    on_it u h t n = has_filter (λ r. names v.team v.number (of_release r)) x.releases u h (λ i. eq-eqb u.team v.team t i && eq-eqb u.number v.number n i)

-- a round is no larger than the releases are many
round_small : (x : ContestState) (v : Release) → is_valid x ≡ true → Has x.releases v → v.round ≤ length x.releases
round_small x v valid there =
    let p = λ (r : Release). names v.team v.number (of_release r) in
    let on : Has (releases_on v.team v.number x.releases) v = has_filter p x.releases v there (λ i. eq-eqb v.team v.team refl i && eq-eqb v.number v.number refl i) in
    omega (arith, not_greater (λ (u : Release). u.round) 1 (releases_on v.team v.number x.releases) v (rounds_count x v valid there) on, length-filter p x.releases, count_by-le-length p x.releases)

pub judgement_ids_stay : JudgementIdsStay
judgement_ids_stay a b x y items answers now later valid run few id served other found again =
    let grows : Grows x y = runs_grow x items answers y valid run in
    let still = still_valid x y items answers valid run in
    let one = served_judgement a now x id served found in
    let two = served_judgement b later y id other again in
    let s = one.submission in
    let t = two.submission in
    let stands = stands_still x.submissions y.submissions s grows.submissions one.there in
    let same : s ≡ t = one_judged y s t one.judgement.round two.judgement.round still stands two.there (one.named ∙ sym two.named) in
    let first = told_judgement a now x s one.judgement valid one.seen in
    let second = told_judgement b later y t two.judgement still two.seen in
    let v = first.release in
    let w = second.release in
    let here = stands_still x.releases y.releases v grows.releases first.there in
    let ids : judgement_id s.team s.number one.judgement.round ≡ judgement_id s.team s.number two.judgement.round =
    one.named ∙ sym two.named ∙ ap (λ (u : Submission). judgement_id u.team u.number two.judgement.round) (sym same) in
    let round_v : one.judgement.round ≡ v.round = ap (λ (j : Judgement). j.round) first.is in
    let round_w : two.judgement.round ≡ w.round = ap (λ (j : Judgement). j.round) second.is in
    let rounds = one_round s.team s.number one.judgement.round two.judgement.round (omega (arith, few, round_v, round_small y v still here)) (omega (arith, few, round_w, round_small y w still second.there)) ids in
    let release : w ≡ v = one_release y v w still here second.there
    (second.team ∙ ap (λ (u : Submission). u.team) (sym same) ∙ sym first.team) (second.number ∙ ap (λ (u : Submission). u.number) (sym same) ∙ sym first.number)
    (sym round_w ∙ sym rounds ∙ round_v) in
    let judgement : two.judgement ≡ one.judgement = second.is ∙ ap judgement_of release ∙ sym first.is in
    two.is ∙ (λ i. judgement_data y.fixed (sym same i).team (sym same i).number (judgement i)) ∙ object_stays x y s one.judgement grows one.there first.type ∙ sym one.is

-- ---- until another verdict is released

-- what was shown is shown at another moment, unless the thaw alone showed it and hasn't come then
shown_or_held : {V : Type 0} (seen known thawed later frozen : Bool) (last : Option V) (v : V) → shown seen known thawed frozen last ≡ Some v
    → (shown seen known later frozen last ≡ Some v) ⊎ ((known ≡ false) × (frozen ≡ true) × (thawed ≡ true) × (later ≡ false))
shown_or_held seen true thawed later frozen last v h = inl h
shown_or_held seen false thawed true frozen last v h = inl (thaw_adds seen false thawed frozen last v h)
shown_or_held seen false false false frozen last v h = inl h
shown_or_held seen false true false false last v h = inl h
shown_or_held seen false true false true last v h = inr (refl, refl, refl, refl)

-- of rows that count up, one behind others has the number after theirs
behind : {X : Type 0} (number : X → ℕ) (first : ℕ) (xs : List X) (w : X) (more : List X) → map number (xs ++ w ∷ more) ≡ range_with_len first (length (xs ++ w ∷ more)) → number w ≡ first + length xs
behind number first [] w more e = let is : number w ≡ first = cc e in omega (arith, is)
behind number first (x ∷ xs) w more e =
    let tail : map number (xs ++ w ∷ more) ≡ range_with_len (first + 1) (length (xs ++ w ∷ more)) = cc e in
    omega (arith, behind number (first + 1) xs w more tail)

pub served_judgements_stay : ServedJudgementsStay
served_judgements_stay a x y items answers now later valid run id served found =
    let grows : Grows x y = runs_grow x items answers y valid run in
    let one = served_judgement a now x id served found in
    let s = one.submission in
    let front : IsFront x.releases y.releases = grows.releases in
    let p = λ (r : Release). names s.team s.number (of_release r) in
    go grows (still_valid x y items answers valid run) one (told_judgement a now x s one.judgement valid one.seen) (stands_still x.submissions y.submissions s grows.submissions one.there)
    (releases_on s.team s.number front.0) (ap (filter p) front.1 ∙ filter-append p x.releases front.0)
  where
    go : Grows x y → is_valid y ≡ true → (one : IsServed a now x id served) → IsTold x one.submission one.judgement → Has y.submissions one.submission
        → (more : List Release) → releases_on one.submission.team one.submission.number y.releases ≡ releases_on one.submission.team one.submission.number x.releases ++ more
        → (judgement_found a later y id ≡ Some served) ⊎ (IsRevised x y id ⊎ IsHeldAgain a now later x y id)
    go grows still one told stands [] split =
        let s = one.submission in
        let j = one.judgement in
        let on : releases_on s.team s.number y.releases ≡ releases_on s.team s.number x.releases = split ∙ append-nil (releases_on s.team s.number x.releases) in
        let last : last_judgement y s ≡ last_judgement x s = ap (λ vs. last_or None (map judgement_of vs)) on in
        let sees = sight_stays a x y s (extends x y grows (inl (some_stand x.submissions s one.there))) (within x s valid one.there) in
        let frozen = freeze_stays x y items answers s valid run one.there in
        let thawed = is_thawed x.fixed.marks now in
        let thaws = is_thawed y.fixed.marks later in
        let same : judgement_data y.fixed s.team s.number j ≡ served = object_stays x y s j grows one.there told.type ∙ sym one.is in
        elim (shown_or_held (sees_submission a x s) (knows_all_of a s.team) thawed thaws (is_frozen x.fixed.settings x.fixed.marks s.time) (last_judgement x s) j (sym (is_shown a now x s) ∙ one.seen)) [
          | inl seen ↦ (let shows : seen_judgement a later y s ≡ Some j = is_shown a later y s ∙ (λ i. shown (sees i) (knows_all_of a s.team) thaws (frozen i) (last i)) ∙ seen in
              inl (ap (judgement_found a later y) (sym one.named) ∙ judgement_served a later y s j still stands shows ∙ ap Some same))
          | inr held ↦ inr (inr (record { submission = s; stood = one.there; round = j.round; named = one.named; foreign = held.0; frozen = held.1; thawed = held.2; held = held.3 }))
        ]
    go grows still one told stands (w ∷ more) split =
        let s = one.submission in
        let v = told.release in
        let round : Release → ℕ = λ r. r.round in
        let old = releases_on s.team s.number x.releases in
        let f = filter_has (λ (r : Release). names s.team s.number (of_release r)) y.releases w (subst (λ ws. Has ws w) (sym split) (has_back old (w ∷ more) w (inl refl))) in
        let team = eqb-true w.team s.team (and_left (w.team == s.team) (w.number == s.number) f.1) in
        let number = eqb-true w.number s.number (and_right (w.team == s.team) (w.number == s.number) f.1) in
        let counted : map round (old ++ w ∷ more) ≡ range_with_len 1 (length (old ++ w ∷ more)) =
        subst (λ ws. map round ws ≡ range_with_len 1 (length ws)) ((λ i. releases_on (team i) (number i) y.releases) ∙ split) (rounds_count y w still f.0) in
        let own : map round old ≡ range_with_len 1 (length old) =
        subst (λ ws. map round ws ≡ range_with_len 1 (length ws)) (λ i. releases_on (told.team i) (told.number i) x.releases) (rounds_count x v valid told.there) in
        let next = behind round 1 old w more counted in
        inr (inl (record {
          revised = v;
          stood = told.there;
          named = (λ i. judgement_id (told.team i) (told.number i) (sym told.is i).round) ∙ one.named;
          release = w;
          stands = f.0;
          since = λ h. omega (arith, next, not_greater round 1 old w own (has_filter (λ (r : Release). names s.team s.number (of_release r)) x.releases w h f.1));
          same_team = team ∙ sym told.team;
          same_number = number ∙ sym told.number;
          later = omega (arith, not_greater round 1 old v own told.on, next);
        }))

-- ---- one that was revised

-- of releases whose rounds count up the last has the largest
last_round : (first : ℕ) (v : Release) (vs : List Release) (o : Option Judgement) (j : Judgement) → map (λ (r : Release). r.round) (v ∷ vs) ≡ range_with_len first (length (v ∷ vs)) → last_or o (map judgement_of (v ∷ vs)) ≡ Some j
    → j.round ≡ first + length vs
last_round first v [] o j e last =
    let is : v.round ≡ first = cc e in
    let same : judgement_of v ≡ j = cc last in
    omega (arith, is, ap (λ (k : Judgement). k.round) same)
last_round first v (w ∷ vs) o j e last =
    let tail : map (λ (r : Release). r.round) (w ∷ vs) ≡ range_with_len (first + 1) (length (w ∷ vs)) = cc e in
    omega (arith, last_round (first + 1) w vs (Some (judgement_of v)) j tail last)

-- so none is larger than the last
none_later : (vs : List Release) (j : Judgement) (w : Release) → map (λ (r : Release). r.round) vs ≡ range_with_len 1 (length vs) → last_or None (map judgement_of vs) ≡ Some j → Has vs w → w.round ≤ j.round
none_later [] j w e last there = absurd there
none_later (v ∷ vs) j w e last there = omega (arith, not_greater (λ (r : Release). r.round) 1 (v ∷ vs) w e there, last_round 1 v vs None j e last)

-- the submission that a release is on
record IsOn (x : ContestState) (v : Release) : Type 0 where
  pub submission : Submission
  pub there : Has x.submissions submission
  pub team : submission.team ≡ v.team
  pub number : submission.number ≡ v.number

any_has : {X : Type 0} (p : X → Bool) (xs : List X) → list_any p xs ≡ true → (x : X) × Has xs x × (p x ≡ true)
any_has p [] h = absurd (false≢true h)
any_has p (x ∷ xs) h = elim (cases_Bool (p x)) [ inl passes ↦ (x, inl refl, passes) | inr fails ↦ (let later = any_has p xs (rw fails at h) in (later.0, inr later.1, later.2)) ]

is_on : (x : ContestState) (v : Release) → is_valid x ≡ true → Has x.releases v → IsOn x v
is_on x v valid there =
    let all = list_all (is_valid_release x) x.releases in
    let row = all_has (is_valid_release x) x.releases v (and_left all (in_each on_one_submission are_valid_releases x.releases) (parts x valid).releases) there in
    let n = any_has (λ (s : Submission). names v.team v.number (of_submission s)) x.submissions (and_left (has_submission x v.team v.number) (nat_lt v.verdict (length x.fixed.settings.types)) row) in
    let s = n.0 in
    record { submission = s; there = n.1; team = eqb-true s.team v.team (and_left (s.team == v.team) (s.number == v.number) n.2); number = eqb-true s.number v.number (and_right (s.team == v.team) (s.number == v.number) n.2) }

pub revised_judgements_go : RevisedJudgementsGo
revised_judgements_go a now x v w valid few hv hw team number later = go (judgement_found a now x (judgement_id v.team v.number v.round)) refl
  where
    go : (o : Option Data) → judgement_found a now x (judgement_id v.team v.number v.round) ≡ o → judgement_found a now x (judgement_id v.team v.number v.round) ≡ None
    go None e = e
    go (Some d) e =
        let r = served_judgement a now x (judgement_id v.team v.number v.round) d e in
        let s = r.submission in
        let j = r.judgement in
        let own = is_on x v valid hv in
        let t = own.submission in
        let ids : judgement_id s.team s.number j.round ≡ judgement_id t.team t.number v.round = r.named ∙ (λ i. judgement_id (sym own.team i) (sym own.number i) v.round) in
        let same : s ≡ t = one_judged x s t j.round v.round valid r.there own.there ids in
        let told = told_judgement a now x s j valid r.seen in
        let u = told.release in
        let round_u : j.round ≡ u.round = ap (λ (k : Judgement). k.round) told.is in
        let rounds = one_round s.team s.number j.round v.round (omega (arith, few, round_u, round_small x u valid told.there)) (omega (arith, few, round_small x v valid hv)) (ids ∙ ap (λ (k : Submission). judgement_id k.team k.number v.round) (sym same)) in
        let last : last_or None (map judgement_of (releases_on v.team v.number x.releases)) ≡ Some j =
        sym (λ i. last_or None (map judgement_of (releases_on ((ap (λ (k : Submission). k.team) same ∙ own.team) i) ((ap (λ (k : Submission). k.number) same ∙ own.number) i) x.releases))) ∙ last_of_seen a now x s j r.seen in
        let on : Has (releases_on v.team v.number x.releases) w = has_filter (λ k. names v.team v.number (of_release k)) x.releases w hw (λ i. eq-eqb w.team v.team team i && eq-eqb w.number v.number number i) in
        absurd (omega (arith, later, rounds, none_later (releases_on v.team v.number x.releases) j w (rounds_count x v valid hv) last on))
