-- In a valid contest all that an audience may see of submissions is listed, and nothing else.
use Rattle.std.proofs.Common.{◌≡◌, ℕ, zero, suc, ◌+◌, ◌<◌, ◌≤◌, Bool, true, false, List, [], ◌∷◌, length, map, refl, sym, ap, subst, ◌∙◌, inl, inr, arith, add-zero}
use Rattle.std.specs.Prelude.{◌↔◌, ◌==◌, not, nat_lt, nat_le, if◌then◌else◌}
use Rattle.std.specs.List.{list_all, flat_map, range_with_len}
use Rattle.std.specs.Cmp.{IsTotalOrder}
use Rattle.std.specs.Ordering.{ordering_then, is_lt}
use Rattle.std.specs.declared.cmp.Ordering.{Ordering}
use Rattle.std.specs.declared.cmp.Ordering.TheVariants.{Less, Equal, Greater}
use Rattle.std.proofs.lemmas.Bool.{false≢true, eqb-true, eq-eqb, ltb-true}
use Rattle.std.proofs.lemmas.Cmp.{nat_cmp_total, nat_list_cmp_total, then_total, on_total}
use Rattle.std.proofs.lemmas.Map.Lookups.{exact_bytes, exact_unsigned}
use Rattle.std.proofs.lemmas.Slice.Eq.{bytes_eq-Decides}
use Rattle.std.proofs.lemmas.List.{length-map}
use Rattle.contest_types.specs.Clock.{reached, end_of}
use Rattle.contest_types.specs.declared.limits.TheConstants.{POSTED_FILE}
use Rattle.contest_types.specs.Setup.{Setup}
use Rattle.contest_types.specs.Series.{count_up}
use Rattle.contest_types.specs.TeamPlaces.{team_places, team_id_at}
use Rattle.contest_types.specs.Order.{Has, IsInOrder}
use Rattle.contest_types.specs.State.{ContestState, submissions_of}
use Rattle.contest_types.specs.VisibleIds.{clarification_id}
use Rattle.contest_types.specs.Sight.{SeenSubmission, sees_team, seen_submission, seen_of_team, submission_cmp, seen_submissions, SeenClarification, clarification_cmp, heard_of, addressees, seen_clarifications}
use Rattle.contest_types.specs.ValidSubmissions.{is_valid_submission, of_one_team, are_valid_submissions}
use Rattle.contest_types.specs.Valid.{is_valid}
use Rattle.contest_types.specs.Laws.{IsSeen}
use Rattle.contest_types.specs.declared.audience.Audience.{Audience}
use Rattle.contest_types.specs.declared.objects.Team.{Team}
use Rattle.contest_types.specs.declared.submission.Submission.{Submission}
use Rattle.contest_types.proofs.PlaceLemmas.{and_left, and_right}
use Rattle.contest_types.proofs.Different.{one_place}
use Rattle.contest_types.proofs.SeriesLemmas.{in_any}
use Rattle.contest_types.proofs.ValidParts.{parts}
use Rattle.contest_types.proofs.AddLemmas.{one_team}
use Rattle.contest_types.proofs.SettingsTest.{is_settings}
use Rattle.contest_types.proofs.Tests.{each_of}
use Rattle.contest_types.proofs.OrderLemmas.{same_order}
use Rattle.contest_types.proofs.Rising.{rising, strict}
use Rattle.contest_types.proofs.InOrderLemmas.{nothing_added, nothing_lost, flat_has, has_flat, has_map, map_has, has_filter, filter_has}

pub submission_order : (s : Setup) → IsTotalOrder (submission_cmp s)
submission_order s = then_total (on_total (λ (v : SeenSubmission). v.time) nat_cmp_total) (then_total (on_total (λ (v : SeenSubmission). team_id_at s v.team) nat_list_cmp_total) (on_total (λ (v : SeenSubmission). v.number) nat_cmp_total))

pub both_equal : (a b : Ordering) → ordering_then a b ≡ Equal → (a ≡ Equal) × (b ≡ Equal)
both_equal Less b h = absurd (cc h)
both_equal Equal b h = (refl, h)
both_equal Greater b h = absurd (cc h)

-- each place is listed
pub has_place : (first n k : ℕ) → k < n → Has (range_with_len first n) (first + k)
has_place first zero k l = absurd (omega (arith, l))
has_place first (suc n) zero l = inl (add-zero first)
has_place first (suc n) (suc k) l =
    let e : (first + 1) + k ≡ first + suc k = omega arith in
    inr (subst (λ m. Has (range_with_len (first + 1) n) m) e (has_place (first + 1) n k (omega (arith, l))))

-- the places of n rows have each place below n
pub has_below : (n place : ℕ) → place < n → Has (range_with_len 0 n) place
has_below n place l = let e : 0 + place ≡ place = omega arith in subst (λ m. Has (range_with_len 0 n) m) e (has_place 0 n place l)

pub has_team : (s : Setup) (team : ℕ) → team < length s.teams → Has (team_places s) team
has_team s team l = has_below (length s.teams) team l

pub all_has : {X : Type 0} (p : X → Bool) (xs : List X) (x : X) → list_all p xs ≡ true → Has xs x → p x ≡ true
all_has p [] x a h = absurd h
all_has p (y ∷ xs) x a h = elim h [ inl e ↦ ap p e ∙ and_left _ _ a | inr t ↦ all_has p xs x (and_right (p y) _ a) t ]

-- of rows that count up from a first number, none has a smaller one
pub not_smaller : {X : Type 0} (number : X → ℕ) (first : ℕ) (xs : List X) (x : X) → map number xs ≡ range_with_len first (length xs) → Has xs x → first ≤ number x
not_smaller number first [] x e h = absurd h
not_smaller {X} number first (y ∷ xs) x e h =
    let head : number y ≡ first = cc e in
    let tail : map number xs ≡ range_with_len (first + 1) (length xs) = cc e in
    elim h [ inl i ↦ (let same : number x ≡ number y = ap number i in omega (arith, same, head)) | inr t ↦ omega (arith, not_smaller number (first + 1) xs x tail t) ]

-- nor a number past as many as they are
pub not_greater : {X : Type 0} (number : X → ℕ) (first : ℕ) (xs : List X) (x : X) → map number xs ≡ range_with_len first (length xs) → Has xs x → number x < first + length xs
not_greater number first [] x e h = absurd h
not_greater {X} number first (y ∷ xs) x e h =
    let head : number y ≡ first = cc e in
    let tail : map number xs ≡ range_with_len (first + 1) (length xs) = cc e in
    elim h [ inl i ↦ (let same : number x ≡ number y = ap number i in omega (arith, same, head)) | inr t ↦ (let rest = not_greater number (first + 1) xs x tail t in omega (arith, rest)) ]

-- the number tells the row
pub one_row : {X : Type 0} (number : X → ℕ) (first : ℕ) (xs : List X) (x y : X) → map number xs ≡ range_with_len first (length xs) → Has xs x → Has xs y → number x ≡ number y → x ≡ y
one_row number first [] x y e h k n = absurd h
one_row {X} number first (z ∷ xs) x y e h k n =
    let head : number z ≡ first = cc e in
    let tail : map number xs ≡ range_with_len (first + 1) (length xs) = cc e in
    let both : x ≡ z → y ≡ z → x ≡ y = λ i j. i ∙ sym j in
    let first_x : x ≡ z → Has xs y → x ≡ y = λ i t. (let same : number x ≡ number z = ap number i in absurd (omega (arith, same, head, n, not_smaller number (first + 1) xs y tail t))) in
    let first_y : y ≡ z → Has xs x → x ≡ y = λ j t. (let same : number y ≡ number z = ap number j in absurd (omega (arith, same, head, n, not_smaller number (first + 1) xs x tail t))) in
    elim h [
      | inl i ↦ elim k [ inl j ↦ both i j | inr t ↦ first_x i t ]
      | inr s ↦ elim k [ inl j ↦ first_y j s | inr t ↦ one_row number (first + 1) xs x y tail s t n ]
    ]

-- what is gathered of a team is what is seen of its submissions
of_team : (a : Audience) (now : ℕ) (x : ContestState) (team : ℕ) (v : SeenSubmission) → Has (seen_of_team a now x team) v → IsSeen a now x v
of_team a now x team v h =
    let go : (b : Bool) → sees_team a x.fixed.settings team ≡ b → Has (if b then map (seen_submission a now x) (submissions_of team x.submissions) else []) v → IsSeen a now x v = elim [
      | true ↦ λ e k. (let m = map_has (seen_submission a now x) (submissions_of team x.submissions) v k in
          let f = filter_has (λ (s : Submission). s.team == team) x.submissions m.item m.there in
          record { submission = m.item; there = f.0; sees = rw (eqb-true m.item.team team f.1) e; shown = m.is })
      | false ↦ λ e k. absurd k
    ] in
    go (sees_team a x.fixed.settings team) refl h

abbrev gathered : Audience → ℕ → ContestState → List SeenSubmission
gathered a now x = flat_map (seen_of_team a now x) (team_places x.fixed.settings)

from_gathered : (a : Audience) (now : ℕ) (x : ContestState) (v : SeenSubmission) → Has (gathered a now x) v → IsSeen a now x v
from_gathered a now x v h = let r = has_flat (seen_of_team a now x) (team_places x.fixed.settings) v h in of_team a now x r.item v r.gives

pub listed_seen : (a : Audience) (now : ℕ) (x : ContestState) (v : SeenSubmission) → Has (seen_submissions a now x) v → IsSeen a now x v
listed_seen a now x v h = from_gathered a now x v (nothing_added (submission_cmp x.fixed.settings) (gathered a now x) v h)

pub team_there : (x : ContestState) (s : Submission) → is_valid x ≡ true → Has x.submissions s → s.team < length x.fixed.settings.teams
team_there x s v h =
    let alone = all_has (is_valid_submission x.fixed) x.submissions s (and_left _ _ (parts x v).submissions) h in
    ltb-true s.team (length x.fixed.settings.teams) (each_of (nat_lt s.team (length x.fixed.settings.teams)) (nat_lt s.problem (length x.fixed.settings.problems) ∷ nat_lt s.language (length x.fixed.settings.languages) ∷ reached x.fixed.marks.start s.time ∷ not (reached (end_of x.fixed.settings x.fixed.marks) s.time) ∷ nat_le (length s.file) POSTED_FILE ∷ []) alone 0)

-- one team has one submission with a number
pub one_submission : (x : ContestState) (s t : Submission) → is_valid x ≡ true → Has x.submissions s → Has x.submissions t → s.team ≡ t.team → s.number ≡ t.number → s ≡ t
one_submission x s t v hs ht team number =
    let own = submissions_of t.team x.submissions in
    let numbers : List ℕ = map (λ (r : Submission). r.number) own in
    let series : are_valid_submissions own ≡ true = in_any of_one_team are_valid_submissions one_team refl x.submissions t (and_right (list_all (is_valid_submission x.fixed) x.submissions) _ (parts x v).submissions) in
    let up : count_up numbers ≡ true = and_left _ _ (and_left _ _ (and_left _ _ series)) in
    let all : numbers ≡ range_with_len 1 (length numbers) = (bytes_eq-Decides numbers (range_with_len 1 (length numbers))).0 up in
    let ranged : numbers ≡ range_with_len 1 (length own) = all ∙ ap (range_with_len 1) (length-map own (λ (r : Submission). r.number)) in
    one_row (λ (r : Submission). r.number) 1 own s t ranged (has_filter (λ (r : Submission). r.team == t.team) x.submissions s hs (eq-eqb s.team t.team team)) (has_filter (λ (r : Submission). r.team == t.team) x.submissions t ht (eq-eqb t.team t.team refl)) number

-- what ties with a submission that is seen is that submission
no_ties : (a : Audience) (now : ℕ) (x : ContestState) → is_valid x ≡ true → (v w : SeenSubmission) → IsSeen a now x v → IsSeen a now x w → submission_cmp x.fixed.settings w v ≡ Equal → w ≡ v
no_ties a now x valid v w iv iw e =
    let s = x.fixed.settings in
    let e' : submission_cmp s (seen_submission a now x iw.submission) (seen_submission a now x iv.submission) ≡ Equal =
    ap (λ z. submission_cmp s z (seen_submission a now x iv.submission)) (sym iw.shown) ∙ (ap (submission_cmp s w) (sym iv.shown) ∙ e) in
    let rest = (both_equal _ _ e').1 in
    let ids = exact_bytes _ _ (both_equal _ _ rest).0 in
    let number = exact_unsigned _ _ (both_equal _ _ rest).1 in
    let team : iw.submission.team ≡ iv.submission.team = one_place (λ (t : Team). t.id) s.teams (is_settings x (parts x valid).settings).teams iw.submission.team iv.submission.team (team_there x iw.submission valid iw.there) (team_there x iv.submission valid iv.there) ids in
    iw.shown ∙ (ap (seen_submission a now x) (one_submission x iw.submission iv.submission valid iw.there iv.there team number) ∙ sym iv.shown)

pub seen_listed : (a : Audience) (now : ℕ) (x : ContestState) → is_valid x ≡ true → (v : SeenSubmission) → IsSeen a now x v → Has (seen_submissions a now x) v
seen_listed a now x valid v i =
    let team = i.submission.team in
    let rows = map (seen_submission a now x) (submissions_of team x.submissions) in
    let row : Has rows (seen_submission a now x i.submission) =
    has_map (seen_submission a now x) (submissions_of team x.submissions) i.submission (has_filter (λ (s : Submission). s.team == team) x.submissions i.submission i.there (eq-eqb team team refl)) in
    let go : (b : Bool) → b ≡ true → Has (if b then rows else []) (seen_submission a now x i.submission) = elim [ true ↦ λ e. row | false ↦ λ e. absurd (false≢true e) ] in
    let shown : Has (seen_of_team a now x team) (seen_submission a now x i.submission) = go (sees_team a x.fixed.settings team) i.sees in
    let here : Has (gathered a now x) v = subst (λ w. Has (gathered a now x) w) (sym i.shown) (flat_has (seen_of_team a now x) (team_places x.fixed.settings) team (seen_submission a now x i.submission) (has_team x.fixed.settings team (team_there x i.submission valid i.there)) shown) in
    nothing_lost (submission_order x.fixed.settings) (gathered a now x) v here (λ w h e. no_ties a now x valid v w i (from_gathered a now x w h) e)

pub clarification_order : IsTotalOrder clarification_cmp
clarification_order = then_total (on_total (λ (c : SeenClarification). c.time) nat_cmp_total) (on_total (λ (c : SeenClarification). clarification_id c.addressee c.number) nat_list_cmp_total)

pub seen_rises : (a : Audience) (now : ℕ) (x : ContestState) → IsInOrder (λ v w. is_lt (submission_cmp x.fixed.settings v w)) (seen_submissions a now x)
seen_rises a now x = rising (submission_order x.fixed.settings) (gathered a now x)

pub heard_rises : (a : Audience) (x : ContestState) → IsInOrder (λ c d. is_lt (clarification_cmp c d)) (seen_clarifications a x)
heard_rises a x = rising clarification_order (flat_map (heard_of a x) (addressees x.fixed.settings))

-- whoever lists in order just what is seen has the same list
pub one_list : (a : Audience) (now : ℕ) (x : ContestState) → is_valid x ≡ true → (vs : List SeenSubmission) → IsInOrder (λ v w. is_lt (submission_cmp x.fixed.settings v w)) vs
    → ((v : SeenSubmission) → Has vs v ↔ IsSeen a now x v) → vs ≡ seen_submissions a now x
one_list a now x valid vs up same =
    same_order (λ v w. is_lt (submission_cmp x.fixed.settings v w)) (strict (submission_order x.fixed.settings)) vs (seen_submissions a now x) up (seen_rises a now x)
    (λ v h. seen_listed a now x valid v ((same v).0 h)) (λ v h. (same v).1 (listed_seen a now x v h))
