-- What is known of the attempts of a feed in which nothing is at fault.
use Rattle.std.proofs.Common.{◌≡◌, ◌≤◌, ◌<◌, ◌+◌, ◌*◌, ◌∙◌, ℕ, zero, suc, Bool, true, false, cond, List, [], ◌∷◌, length, get_or, map, Option, Some, None, refl, sym, ap, subst, inl, inr, arith, All}
use Rattle.std.specs.Prelude.{◌&&◌, ◌==◌, ℤ, pos, negsuc, filter, is_some, nat_eq, nat_le, nat_lt, IfSome, if◌then◌else◌}
use Rattle.std.specs.List.{cons_option, filter_map, list_all, position_from}
use Rattle.std.specs.Option.{option_and_then, option_map}
use Rattle.std.specs.Str.{bytes_eq}
use Rattle.std.proofs.lemmas.Bool.{cases_Bool, eqb-true, eq-eqb, le-leb, ltb-true, ltb-false}
use Rattle.std.proofs.lemmas.List.{length-map}
use Rattle.std.proofs.lemmas.List.Elements.{All-tail}
use Rattle.contest_types.specs.Places.{place_of}
use Rattle.contest_types.specs.Series.{never_fall}
use Rattle.contest_types.specs.Setup.{Setup, IsValid}
use Rattle.contest_types.specs.declared.limits.TheConstants.{TEAMS, TEAM_SUBMISSIONS}
use Rattle.contest_types.specs.declared.objects.JudgementType.{JudgementType}
use Rattle.contest_types.specs.declared.objects.Problem.{Problem}
use Rattle.contest_types.specs.declared.objects.Team.{Team}
use Rattle.contest_types.proofs.PlaceLemmas.{and_left, and_right, both_true, bytes_same, place_bound, same_bytes}
use Rattle.contest_score.specs.MaskedCells.{IsAdmitted}
use Rattle.contest_score.specs.declared.submission.JudgedSubmission.{JudgedSubmission}
use Rattle.contest_replay.specs.ReplayLists.{within}
use Rattle.contest_replay.specs.ReplayState.{IsReplay, ReadsValid, reading_marks}
use Rattle.contest_feed_reader.specs.FeedContests.{attempt_by, attempts_of, by_time, put_by_time, settings_of, team_of, problem_of, type_of}
use Rattle.contest_feed_reader.specs.Objects.{ContestMembers}
use Rattle.contest_feed_reader.specs.References.{counts, first_fault, ids_of}
use Rattle.contest_feed_reader.specs.Verdicts.{last_judgement, place_by, verdict_in, verdict_of}
use Rattle.contest_feed_reader.specs.declared.row.Row.{Row}
use Rattle.contest_feed_reader.specs.declared.submissions.FeedJudgement.{FeedJudgement}
use Rattle.contest_feed_reader.specs.declared.submissions.FeedSubmission.{FeedSubmission}
use Rattle.contest_feed_reader.specs.declared.tables.Tables.{Tables}
use Rattle.contest_feed_reader.proofs.FaultlessLemmas.{NoFault, few_rows, nothing_at_fault, team_few}
use Rattle.contest_feed_reader.proofs.SetupLemmas.{told_by}
use Rattle.contest_feed_reader.proofs.TimeOrder.{rising}

-- what holds of each is kept by what is kept, and in the order of time
all_cons : {X : Type 0} (P : X → Type 0) (x : X) (xs : List X) → P x → All P xs → All P (x ∷ xs)
all_cons P x xs p h zero d l = p
all_cons P x xs p h (suc i) d l = h i d (omega (arith, l))

kept_all : {A B : Type 0} (f : A → Option B) (P : B → Type 0) → ((x : A) (y : B) → f x ≡ Some y → P y) → (xs : List A) → All P (filter_map f xs)
kept_all f P h [] = λ i d l. absurd (omega (arith, l))
kept_all {A} {B} f P h (x ∷ xs) =
    let go : (o : Option B) → f x ≡ o → All P (cons_option o (filter_map f xs)) = elim [
      | None ↦ λ e. kept_all f P h xs
      | (Some y) ↦ λ e. all_cons P y (filter_map f xs) (h x y e) (kept_all f P h xs)
    ] in
    go (f x) refl

put_all : (P : JudgedSubmission → Type 0) (u : JudgedSubmission) (vs : List JudgedSubmission) → P u → All P vs → All P (put_by_time u vs)
put_all P u [] p h = all_cons P u [] p h
put_all P u (v ∷ vs) p h = elim (cases_Bool (nat_le u.time v.time)) [
  | inl l ↦ rw l (all_cons P u (v ∷ vs) p h)
  | inr l ↦ rw l (all_cons P v (put_by_time u vs) (h 0 v (omega arith)) (put_all P u vs p (All-tail P v vs h)))
]

ordered_all : (P : JudgedSubmission → Type 0) (us : List JudgedSubmission) → All P us → All P (by_time us)
ordered_all P [] h = h
ordered_all P (u ∷ us) h = put_all P u (by_time us) (h 0 u (omega arith)) (ordered_all P us (All-tail P u us h))

-- as many pass a test in the order of time
put_count : (p : JudgedSubmission → Bool) (u : JudgedSubmission) (vs : List JudgedSubmission) → length (filter p (put_by_time u vs)) ≡ length (filter p (u ∷ vs))
put_count p u [] = refl
put_count p u (v ∷ vs) = elim (cases_Bool (nat_le u.time v.time)) [
  | inl l ↦ rw l refl
  | inr l ↦ rw l (swapped (p v) (p u) (filter p (put_by_time u vs)) (filter p vs) (put_count p u vs))
]
  where
    swapped : (b c : Bool) (xs ys : List JudgedSubmission) → length xs ≡ length (cond c (u ∷ ys) ys) → length (cond b (v ∷ xs) xs) ≡ length (cond c (u ∷ cond b (v ∷ ys) ys) (cond b (v ∷ ys) ys))
    swapped true true xs ys h = omega (arith, h)
    swapped true false xs ys h = omega (arith, h)
    swapped false true xs ys h = h
    swapped false false xs ys h = h

ordered_count : (p : JudgedSubmission → Bool) (us : List JudgedSubmission) → length (filter p (by_time us)) ≡ length (filter p us)
ordered_count p [] = refl
ordered_count p (u ∷ us) =
    let rest = ordered_count p us in
    let go : (b : Bool) → p u ≡ b → length (cond b (u ∷ filter p (by_time us)) (filter p (by_time us))) ≡ length (cond b (u ∷ filter p us) (filter p us)) = elim [ true ↦ λ e. omega (arith, rest) | false ↦ λ e. rest ] in
    put_count p u (by_time us) ∙ go (p u) refl

-- no more are kept than pass a test that all kept ones pass
fewer_kept : {A B : Type 0} (f : A → Option B) (p : B → Bool) (q : A → Bool) → ((x : A) (y : B) → f x ≡ Some y → p y ≡ true → q x ≡ true) → (xs : List A) → length (filter p (filter_map f xs)) ≤ length (filter q xs)
fewer_kept f p q h [] = omega arith
fewer_kept {A} {B} f p q h (x ∷ xs) =
    let rest = fewer_kept f p q h xs in
    let at_least : (b : Bool) → length (filter q xs) ≤ length (cond b (x ∷ filter q xs) (filter q xs)) = elim [ true ↦ omega arith | false ↦ omega arith ] in
    let go : (o : Option B) → f x ≡ o → length (filter p (cons_option o (filter_map f xs))) ≤ length (cond (q x) (x ∷ filter q xs) (filter q xs)) = elim [
      | None ↦ λ e. (let more = at_least (q x) in omega (arith, rest, more))
      | (Some y) ↦ λ e. elim (cases_Bool (p y)) [
        | inl t ↦ rw (t, h x y e t) (omega (arith, rest))
        | inr n ↦ rw n (let more = at_least (q x) in omega (arith, rest, more))
      ]
    ] in
    go (f x) refl

-- the id at a place that is found
from_place : (x : List ℕ) (n k : ℕ) (ids : List (List ℕ)) → position_from (bytes_eq x) n ids ≡ Some k → n ≤ k
from_place x n k [] h = absurd (cc h)
from_place x n k (y ∷ ids) h =
    let go : (b : Bool) → (if b then Some n else position_from (bytes_eq x) (n + 1) ids) ≡ Some k → n ≤ k = elim [
      | true ↦ λ e. (let same : n ≡ k = cc e in omega (arith, same))
      | false ↦ λ e. (let more = from_place x (n + 1) k ids e in omega (arith, more))
    ] in
    go (bytes_eq x y) h

at_place : (x : List ℕ) (n k j : ℕ) (ids : List (List ℕ)) → position_from (bytes_eq x) n ids ≡ Some k → k ≡ n + j → x ≡ get_or ids j []
at_place x n k j [] h e = absurd (cc h)
at_place x n k zero (y ∷ ids) h e =
    let go : (b : Bool) → bytes_eq x y ≡ b → (if b then Some n else position_from (bytes_eq x) (n + 1) ids) ≡ Some k → x ≡ y = elim [
      | true ↦ λ t f. same_bytes x y t
      | false ↦ λ t f. (let more = from_place x (n + 1) k ids f in absurd (omega (arith, more, e)))
    ] in
    go (bytes_eq x y) refl h
at_place x n k (suc j) (y ∷ ids) h e =
    let go : (b : Bool) → (if b then Some n else position_from (bytes_eq x) (n + 1) ids) ≡ Some k → x ≡ get_or ids j [] = elim [
      | true ↦ λ f. (let same : n ≡ k = cc f in absurd (omega (arith, same, e)))
      | false ↦ λ f. at_place x (n + 1) k j ids f (omega (arith, e))
    ] in
    go (bytes_eq x y) h

-- what an attempt is made of
pub record IsMade (duration : ℕ) (teams problems : List (List ℕ)) (verdict : List ℕ → Option ℕ) (row : Row FeedSubmission) (u : JudgedSubmission) : Type 0 where
  pub time : within duration row.object.time ≡ Some u.time
  pub team : place_of row.object.team teams ≡ Some u.team
  pub problem : place_of row.object.problem problems ≡ Some u.problem
  pub told : u.verdict ≡ verdict row.id

made : (duration : ℕ) (teams problems : List (List ℕ)) (verdict : List ℕ → Option ℕ) (row : Row FeedSubmission) (u : JudgedSubmission) → attempt_by duration teams problems verdict row ≡ Some u → IsMade duration teams problems verdict row u
made duration teams problems verdict row u h =
    let p = go (within duration row.object.time) (place_of row.object.team teams) (place_of row.object.problem problems) h in
    record { time = p.0; team = p.1; problem = p.2; told = p.3 }
  where
    go : (a b c : Option ℕ) → option_and_then (λ time. option_and_then (λ team. option_map (λ problem. record { team = team; problem = problem; time = time; verdict = verdict row.id }) c) b) a ≡ Some u
        → (a ≡ Some u.time) × (b ≡ Some u.team) × (c ≡ Some u.problem) × (u.verdict ≡ verdict row.id)
    go None b c e = absurd (cc e)
    go (Some time) None c e = absurd (cc e)
    go (Some time) (Some team) None e = absurd (cc e)
    go (Some time) (Some team) (Some problem) e =
        let same : record { team = team; problem = problem; time = time; verdict = verdict row.id } ≡ u = cc e in
        (λ i. Some (same i).time, λ i. Some (same i).team, λ i. Some (same i).problem, λ i. (sym same i).verdict)

early : (duration : ℕ) (time : ℤ) (n : ℕ) → within duration time ≡ Some n → n < duration
early duration (pos t) n h =
    let go : (b : Bool) → nat_lt t duration ≡ b → (if b then Some t else None) ≡ Some n → n < duration = elim [
      | true ↦ λ e f. (let same : t ≡ n = cc f in subst (λ k. k < duration) same (ltb-true t duration e))
      | false ↦ λ e f. absurd (cc f)
    ] in
    go (nat_lt t duration) refl h
early duration (negsuc t) n h = absurd (cc h)

-- a verdict's type is there
verdict_bound : {T : Type 0} (id : T → List ℕ) (rows : List T) (o : Option FeedJudgement) → IfSome (option_and_then (place_by (map id rows)) o) (λ place. place < length rows)
verdict_bound id rows None = tt
verdict_bound id rows (Some j) = by_type j.verdict
  where
    by_type : (v : Option (List ℕ)) → IfSome (option_and_then (λ i. place_of i (map id rows)) v) (λ place. place < length rows)
    by_type None = tt
    by_type (Some i) = place_bound id i rows (place_of i (map id rows)) refl

-- times that never fall don't where some are left out
all_kept : (q : ℕ → Bool) (p : JudgedSubmission → Bool) (us : List JudgedSubmission) → list_all q (map (λ u. u.time) us) ≡ true → list_all q (map (λ u. u.time) (filter p us)) ≡ true
all_kept q p [] h = refl
all_kept q p (u ∷ us) h =
    let rest = all_kept q p us (and_right (q u.time) _ h) in
    elim (cases_Bool (p u)) [
      | inl t ↦ rw t (both_true (q u.time) _ (and_left (q u.time) (list_all q (map (λ u. u.time) us)) h) rest)
      | inr e ↦ rw e rest
    ]

rising_kept : (p : JudgedSubmission → Bool) (us : List JudgedSubmission) → never_fall (map (λ u. u.time) us) ≡ true → never_fall (map (λ u. u.time) (filter p us)) ≡ true
rising_kept p [] h = refl
rising_kept p (u ∷ us) h =
    let rest = rising_kept p us (and_right (list_all (nat_le u.time) (map (λ u. u.time) us)) _ h) in
    let first = all_kept (nat_le u.time) p us (and_left _ (never_fall (map (λ u. u.time) us)) h) in
    elim (cases_Bool (p u)) [
      | inl t ↦ rw t (both_true _ _ first rest)
      | inr e ↦ rw e rest
    ]

-- with so many of each team there are no more of all
below : (n : ℕ) (us : List JudgedSubmission) → All (λ u. u.team < suc n) us → length us ≤ length (filter (λ u. nat_lt u.team n) us) + length (filter (λ u. u.team == n) us)
below n [] h = omega arith
below n (u ∷ us) h =
    let rest = below n us (All-tail (λ v. v.team < suc n) u us h) in
    let here : u.team < suc n = h 0 u (omega arith) in
    elim (cases_Bool (nat_lt u.team n)) [
      | inl l ↦ (let other : nat_eq u.team n ≡ false = (let less : u.team < n = ltb-true u.team n l in not_same u.team n less) in rw (l, other) (omega (arith, rest)))
      | inr l ↦ (let most = ltb-false u.team n l in let same : nat_eq u.team n ≡ true = eq-eqb u.team n (omega (arith, here, most)) in rw (l, same) (omega (arith, rest)))
    ]
  where
    not_same : (a b : ℕ) → a < b → nat_eq a b ≡ false
    not_same a b l = elim (cases_Bool (nat_eq a b)) [ inl e ↦ (let s = eqb-true a b e in absurd (omega (arith, l, s))) | inr f ↦ f ]

all_below : (n : ℕ) (us : List JudgedSubmission) → All (λ u. u.team < n) (filter (λ u. nat_lt u.team n) us)
all_below n [] = λ i d l. absurd (omega (arith, l))
all_below n (u ∷ us) = elim (cases_Bool (nat_lt u.team n)) [
  | inl l ↦ rw l (all_cons (λ v. v.team < n) u (filter (λ v. nat_lt v.team n) us) (ltb-true u.team n l) (all_below n us))
  | inr l ↦ rw l (all_below n us)
]

fewer_both : (p q : JudgedSubmission → Bool) (us : List JudgedSubmission) → length (filter p (filter q us)) ≤ length (filter p us)
fewer_both p q [] = omega arith
fewer_both p q (u ∷ us) =
    let rest = fewer_both p q us in
    let at_least : (b : Bool) → length (filter p us) ≤ length (cond b (u ∷ filter p us) (filter p us)) = elim [ true ↦ omega arith | false ↦ omega arith ] in
    elim (cases_Bool (q u)) [
      | inl t ↦ rw t (elim (cases_Bool (p u)) [ inl s ↦ rw s (omega (arith, rest)) | inr s ↦ rw s rest ])
      | inr f ↦ rw f (let more = at_least (p u) in omega (arith, rest, more))
    ]

total_few : (n : ℕ) (us : List JudgedSubmission) → All (λ u. u.team < n) us → ((k : ℕ) → length (filter (λ u. u.team == k) us) ≤ TEAM_SUBMISSIONS) → length us ≤ n * TEAM_SUBMISSIONS
total_few zero [] h few = omega arith
total_few zero (u ∷ us) h few = (let bad = h 0 u (omega arith) in absurd (omega (arith, bad)))
total_few (suc n) us h few =
    let fewer = filter (λ u. nat_lt u.team n) us in
    let rest = total_few n fewer (all_below n us) (λ k. (let less = fewer_both (λ u. u.team == k) (λ u. nat_lt u.team n) us in omega (arith, less, few k))) in
    let split = below n us h in
    let one = few n in
    omega (arith, rest, split, one)

-- the attempts of a feed in which nothing is at fault are those of a valid contest
abbrev own_place : ℕ → JudgedSubmission → Bool
own_place place u = u.team == place

few_of_team : (duration : ℕ) (t : Tables) → NoFault duration t → (verdict : List ℕ → Option ℕ) → (place : ℕ)
    → length (filter (own_place place) (by_time (filter_map (attempt_by duration (ids_of t.teams) (ids_of t.problems) verdict) t.submissions))) ≤ TEAM_SUBMISSIONS
few_of_team duration t n verdict place =
    let made_of = attempt_by duration (ids_of t.teams) (ids_of t.problems) verdict in
    let id = get_or (ids_of t.teams) place [] in
    let own : Row FeedSubmission → Bool = λ row. counts duration row && bytes_eq row.object.team id in
    let is_own : (row : Row FeedSubmission) (u : JudgedSubmission) → made_of row ≡ Some u → own_place place u ≡ true → own row ≡ true = λ row u e s.
    (let m = made duration (ids_of t.teams) (ids_of t.problems) verdict row u e in
    let there : u.team ≡ place = eqb-true u.team place s in
    let same : row.object.team ≡ id = at_place row.object.team 0 u.team place (ids_of t.teams) m.team (omega (arith, there)) in
    both_true _ _ (ap is_some m.time) (subst (λ text. bytes_eq row.object.team text ≡ true) same (bytes_same row.object.team))) in
    let fewer = fewer_kept made_of (own_place place) own is_own t.submissions in
    let few = team_few duration t n id in
    omega (arith, ordered_count (own_place place) (filter_map made_of t.submissions), fewer, few)

pub reads_attempts : (contest : Row ContestMembers) (t : Tables) → NoFault contest.object.duration t → ReadsValid (settings_of contest t) (attempts_of contest.object.duration t)
reads_attempts contest t n =
    let duration = contest.object.duration in
    let s = settings_of contest t in
    let verdict = verdict_of (ids_of t.types) t.judgements in
    let made_of = attempt_by duration (ids_of t.teams) (ids_of t.problems) verdict in
    let teams : length s.teams ≡ length t.teams = length-map t.teams (team_of t.groups) in
    let problems : length s.problems ≡ length t.problems = length-map t.problems problem_of in
    let types : length s.types ≡ length t.types = length-map t.types type_of in
    let admitted : (row : Row FeedSubmission) (u : JudgedSubmission) → made_of row ≡ Some u → IsAdmitted s reading_marks u = λ row u e.
    (let m = made duration (ids_of t.teams) (ids_of t.problems) verdict row u e in
    let team : u.team < length t.teams = place_bound (λ (r : Row _). r.id) row.object.team t.teams (Some u.team) (sym m.team) in
    let problem : u.problem < length t.problems = place_bound (λ (r : Row _). r.id) row.object.problem t.problems (Some u.problem) (sym m.problem) in
    let type : IfSome u.verdict (λ place. place < length s.types) = rw (m.told, types) (verdict_bound (λ (r : Row _). r.id) t.types (last_judgement row.id (map (λ r. r.object) t.judgements))) in
    record { team = omega (arith, team, teams); problem = omega (arith, problem, problems); verdict = type; started = le-leb 0 u.time (omega arith) }) in
    record {
      spoken = omega arith;
      admitted = ordered_all (IsAdmitted s reading_marks) (filter_map made_of t.submissions) (kept_all made_of (IsAdmitted s reading_marks) admitted t.submissions);
      within = ordered_all (λ u. u.time < duration) (filter_map made_of t.submissions) (kept_all made_of (λ u. u.time < duration) (λ row u e. early duration row.object.time u.time (made duration (ids_of t.teams) (ids_of t.problems) verdict row u e).time) t.submissions);
      few = λ place l. few_of_team duration t n verdict place;
      rising = λ place. rising_kept (λ u. u.team == place) (attempts_of duration t) (rising (filter_map made_of t.submissions));
    }

-- so its contest can be replayed
pub is_replay : (contest : Row ContestMembers) (t : Tables) → first_fault contest.object.duration t ≡ None → IsValid (settings_of contest t) → IsReplay (settings_of contest t) (attempts_of contest.object.duration t)
is_replay contest t none valid =
    let duration = contest.object.duration in
    let n = nothing_at_fault duration t none in
    let reads = reads_attempts contest t n in
    let s = settings_of contest t in
    let teams : length s.teams ≡ length t.teams = length-map t.teams (team_of t.groups) in
    let most = few_rows TEAMS t.teams n.teams in
    let all = total_few (length s.teams) (attempts_of duration t) (λ i d l. (reads.admitted i d l).team) (few_of_team duration t n (verdict_of (ids_of t.types) t.judgements)) in
    record { settings = valid; reads = reads; few = omega (arith, all, most, teams) }

-- attempts by the places in the settings are those by the places in the feed
pub attempts_are : (s : Setup) (contest : Row ContestMembers) (t : Tables) (us : List JudgedSubmission) → s ≡ settings_of contest t
    → us ≡ by_time (filter_map (attempt_by s.head.duration (map (λ t. t.id) s.teams) (map (λ p. p.id) s.problems) (verdict_in (map (λ t. t.id) s.types) (map (λ row. row.object) t.judgements))) t.submissions)
    → us ≡ attempts_of contest.object.duration t
attempts_are s contest t us is h =
    let teams = told_by (λ (x : Team). x.id) (team_of t.groups) t.teams in
    let problems = told_by (λ (x : Problem). x.id) problem_of t.problems in
    let types = told_by (λ (x : JudgementType). x.id) type_of t.types in
    let js = map (λ (row : Row FeedJudgement). row.object) t.judgements in
    h
    ∙ (ap (λ (z : Setup). by_time (filter_map (attempt_by z.head.duration (map (λ t. t.id) z.teams) (map (λ p. p.id) z.problems) (verdict_in (map (λ t. t.id) z.types) js)) t.submissions)) is
    ∙ (λ i. by_time (filter_map (attempt_by contest.object.duration (teams i) (problems i) (verdict_in (types i) js)) t.submissions)))
