-- A replayed contest is valid: it is valid with no submission, and each one may follow those before it.
use Rattle.std.proofs.Common.{ℕ, ◌≡◌, ◌+◌, ◌<◌, inl, inr, Bool, true, false, List, [], ◌∷◌, ◌++◌, length, map, get_or, Option, Some, None, refl, sym, ap, subst, ◌∙◌, arith, append-nil, append_assoc}
use Rattle.std.specs.Prelude.{◌==◌, ◌&&◌, not, nat_eq, nat_le, nat_lt, IfSome}
use Rattle.std.specs.List.{list_all, list_any}
use Rattle.std.proofs.Math.Seq.{get_or-append_seam}
use Rattle.std.proofs.lemmas.Bool.{cases_Bool, eq-eqb, lt-ltb, or_right}
use Rattle.std.proofs.lemmas.Bool.Decides.{nat_tests}
use Rattle.std.proofs.lemmas.Grind.{flat_map-append}
use Rattle.std.proofs.lemmas.List.{length-append, length-map, map-append}
use Rattle.std.proofs.lemmas.List.Elements.{filter-append}
use Rattle.std.proofs.lemmas.List.Folds.{list_all-append, list_all-map}
use Rattle.contest_types.specs.Setup.{Setup, IsValid, is_valid_head, has_valid_freeze, has_valid_medals}
use Rattle.contest_types.specs.MomentText.{latest}
use Rattle.contest_types.specs.Series.{never_fall}
use Rattle.contest_types.specs.State.{add, releases_on, submissions_of as rows_of}
use Rattle.contest_types.specs.declared.entry.Entry.TheVariants.{NewSubmission}
use Rattle.contest_types.specs.ValidSubmissions.{is_valid_submission, has_submission}
use Rattle.contest_types.specs.Valid.{is_valid}
use Rattle.contest_types.specs.Addable.{is_addable, is_next_submission}
use Rattle.contest_types.specs.declared.contest.ContestHead.{ContestHead}
use Rattle.contest_types.specs.declared.limits.TheConstants.{TEAM_SUBMISSIONS, LONGEST_CONTEST, PENALTY_MINUTES}
use Rattle.contest_types.specs.declared.submission.Submission.{Submission}
use Rattle.contest_types.specs.declared.submission.Release.{Release}
use Rattle.contest_types.proofs.PlaceLemmas.{and_left, and_right, both_true}
use Rattle.contest_types.proofs.SettingsTest.{has_settings}
use Rattle.contest_types.proofs.ValidParts.{Parts, whole, all_four, all_six}
use Rattle.contest_types.proofs.AddLemmas.{adding_submission, adding_release}
use Rattle.contest_score.specs.MaskedCells.{IsAdmitted}
use Rattle.contest_score.specs.declared.submission.JudgedSubmission.{JudgedSubmission}
use Rattle.contest_replay.specs.ReplayLists.{team_submissions}
use Rattle.contest_replay.specs.ReplayContest.{Numbered, numbered_after, submission_of, released, releases_of, replay_marks, replay_contest}
use Rattle.contest_replay.specs.ReplayState.{reading_marks, ReadsValid}
use Rattle.contest_replay.proofs.ReplayContestLemmas.{count, IsBefore, is_before_more}

-- what is before the end isn't at it
not_yet : (duration time : ℕ) → time < duration → not (nat_le (0 + duration) time) ≡ true
not_yet duration time h = let f : nat_le (0 + duration) time ≡ false = grind (arith, nat_tests) in rw f refl

-- the submission may follow these
record Follows (s : Setup) (us : List JudgedSubmission) (u : JudgedSubmission) : Type 0 where
  pub spoken : 0 < length s.languages
  pub admitted : IsAdmitted s reading_marks u
  pub early : u.time < s.head.duration
  pub room : count u.team us < TEAM_SUBMISSIONS
  pub last : list_all (λ t. nat_le t u.time) (map (λ v. v.time) (team_submissions u.team us)) ≡ true

-- none of the times before one is past it
none_before : (xs ys : List ℕ) (y : ℕ) → never_fall (xs ++ y ∷ ys) ≡ true → list_all (λ t. nat_le t y) xs ≡ true
none_before [] ys y h = refl
none_before (x ∷ xs) ys y h =
    let first : list_all (nat_le x) (xs ++ y ∷ ys) ≡ true = and_left _ (never_fall (xs ++ y ∷ ys)) h in
    let both : (list_all (nat_le x) xs && list_all (nat_le x) (y ∷ ys)) ≡ true = sym (list_all-append (nat_le x) xs (y ∷ ys)) ∙ first in
    let here : nat_le x y ≡ true = and_left (nat_le x y) (list_all (nat_le x) ys) (and_right (list_all (nat_le x) xs) (list_all (nat_le x) (y ∷ ys)) both) in
    both_true (nat_le x y) _ here (none_before xs ys y (and_right (list_all (nat_le x) (xs ++ y ∷ ys)) (never_fall (xs ++ y ∷ ys)) h))

-- a submission among others, in its team's
own_among : (earlier us : List JudgedSubmission) (u : JudgedSubmission) → team_submissions u.team (earlier ++ u ∷ us) ≡ team_submissions u.team earlier ++ u ∷ team_submissions u.team us
own_among earlier us u = filter-append (λ v. v.team == u.team) earlier (u ∷ us) ∙ rw (eq-eqb u.team u.team refl) refl

follows : (s : Setup) (earlier us : List JudgedSubmission) (u : JudgedSubmission) → ReadsValid s (earlier ++ u ∷ us) → Follows s earlier u
follows s earlier us u r =
    let all = earlier ++ u ∷ us in
    let time : JudgedSubmission → ℕ = λ v. v.time in
    let there : length earlier < length all = omega (arith, length-append earlier (u ∷ us)) in
    let seam : get_or all (length earlier) u ≡ u = get_or-append_seam earlier u us u in
    let admitted : IsAdmitted s reading_marks u = subst (IsAdmitted s reading_marks) seam (r.admitted (length earlier) u there) in
    let long : length (team_submissions u.team all) ≡ count u.team earlier + length (u ∷ team_submissions u.team us) = ap length (own_among earlier us u) ∙ length-append (team_submissions u.team earlier) (u ∷ team_submissions u.team us) in
    let times : map time (team_submissions u.team all) ≡ map time (team_submissions u.team earlier) ++ u.time ∷ map time (team_submissions u.team us) =
    ap (map time) (own_among earlier us u) ∙ map-append time (team_submissions u.team earlier) (u ∷ team_submissions u.team us) in
    let few = r.few u.team admitted.team in
    record {
      spoken = r.spoken;
      admitted = admitted;
      early = subst (λ v. v.time < s.head.duration) seam (r.within (length earlier) u there);
      room = omega (arith, few, long);
      last = none_before (map time (team_submissions u.team earlier)) (map time (team_submissions u.team us)) u.time (subst (λ ts. never_fall ts ≡ true) times (r.rising u.team));
    }

-- one more is numbered after the others
numbered_more : (earlier us : List JudgedSubmission) (u : JudgedSubmission) → numbered_after earlier (us ++ u ∷ []) ≡ numbered_after earlier us ++ record { number = count u.team (earlier ++ us) + 1; row = u } ∷ []
numbered_more earlier [] u = rw (append-nil earlier) refl
numbered_more earlier (v ∷ us) u =
    let n : Numbered = record { number = count v.team earlier + 1; row = v } in
    ap (λ ns. n ∷ ns) (numbered_more (earlier ++ v ∷ []) us u ∙ rw (append_assoc earlier (v ∷ []) us) refl)

-- the times of a team's rows are those of its submissions
times_told : (team : ℕ) (earlier us : List JudgedSubmission) → map (λ (t : Submission). t.time) (rows_of team (map submission_of (numbered_after earlier us))) ≡ map (λ u. u.time) (team_submissions team us)
times_told team earlier [] = refl
times_told team earlier (u ∷ us) =
    let rest = times_told team (earlier ++ u ∷ []) us in
    elim (cases_Bool (nat_eq u.team team)) [
      | inl t ↦ rw t (ap (λ ts. u.time ∷ ts) rest)
      | inr f ↦ rw f rest
    ]

last_among : {X : Type 0} (p : X → Bool) (xs : List X) (x : X) → p x ≡ true → list_any p (xs ++ x ∷ []) ≡ true
last_among p [] x h = rw h refl
last_among p (y ∷ xs) x h = or_right (p y) _ (last_among p xs x h)

-- the contest is valid, and nothing is released on submissions to come
abbrev Stands : Setup → Option ℕ → List JudgedSubmission → Type 0
Stands s thaw us = (is_valid (replay_contest s (replay_marks thaw) us) ≡ true) × IsBefore us (releases_of (numbered_after [] us))

next_submission : (s : Setup) (thaw : Option ℕ) (us : List JudgedSubmission) (u : JudgedSubmission) → Follows s us u
    → is_addable (replay_contest s (replay_marks thaw) us) (NewSubmission (submission_of (record { number = count u.team us + 1; row = u }))) ≡ true
next_submission s thaw us u f =
    let x = replay_contest s (replay_marks thaw) us in
    let row = submission_of (record { number = count u.team us + 1; row = u }) in
    let own = rows_of u.team x.submissions in
    let time : Submission → ℕ = λ t. t.time in
    let told = times_told u.team [] us in
    let long : length own ≡ count u.team us = omega (arith, length-map own time, ap length told, length-map (team_submissions u.team us) (λ v. v.time)) in
    let number : nat_eq row.number (length own + 1) ≡ true = eq-eqb row.number (length own + 1) (omega (arith, long)) in
    let last : list_all (λ t. nat_le t.time row.time) own ≡ true = sym (list_all-map (λ k. nat_le k u.time) time own) ∙ (rw told f.last) in
    both_true (is_valid_submission x.fixed row) (is_next_submission own row)
    (all_six _ _ _ _ _ _ (lt-ltb _ _ f.admitted.team) (lt-ltb _ _ f.admitted.problem) (lt-ltb 0 (length s.languages) f.spoken) f.admitted.started (not_yet s.head.duration u.time f.early) refl)
    (all_four _ _ _ _ number last refl (lt-ltb _ _ (omega (arith, long, f.room))))

-- the next submission, with its verdict if it has one
next : (s : Setup) (thaw : Option ℕ) (us : List JudgedSubmission) (u : JudgedSubmission) (verdict : Option ℕ) → IfSome verdict (λ place. place < length s.types) → Follows s us u → Stands s thaw us
    → is_valid (record (replay_contest s (replay_marks thaw) us) {
      submissions = map submission_of (numbered_after [] us) ++ submission_of (record { number = count u.team us + 1; row = u }) ∷ [];
      releases = releases_of (numbered_after [] us) ++ released (record { number = count u.team us + 1; row = u }) verdict;
    }) ≡ true
next s thaw us u None there f h =
    rw (append-nil (releases_of (numbered_after [] us))) (adding_submission (replay_contest s (replay_marks thaw) us) (submission_of (record { number = count u.team us + 1; row = u })) h.0 (next_submission s thaw us u f))
next s thaw us u (Some verdict) there f h =
    let n : Numbered = record { number = count u.team us + 1; row = u } in
    let x = replay_contest s (replay_marks thaw) us in
    let y = add x (NewSubmission (submission_of n)) in
    let v : Release = record { team = u.team; number = n.number; round = 1; verdict = verdict; time = u.time } in
    let valid : is_valid y ≡ true = adding_submission x (submission_of n) h.0 (next_submission s thaw us u f) in
    let none : releases_on u.team n.number y.releases ≡ [] = h.1 u.team n.number (omega arith) in
    let round : nat_eq 1 (length (releases_on u.team n.number y.releases) + 1) ≡ true = eq-eqb 1 _ (ap (λ vs. length vs + 1) (sym none)) in
    let stands : has_submission y u.team n.number ≡ true = last_among (λ t. (t.team == u.team) && (t.number == n.number)) x.submissions (submission_of n) (both_true _ _ (eq-eqb u.team u.team refl) (eq-eqb n.number n.number refl)) in
    adding_release y v valid (both_true _ _ (both_true _ _ stands (lt-ltb verdict (length s.types) there)) round)

one_more : (s : Setup) (thaw : Option ℕ) (us : List JudgedSubmission) (u : JudgedSubmission) → Follows s us u → Stands s thaw us → Stands s thaw (us ++ u ∷ [])
one_more s thaw us u f h =
    let n : Numbered = record { number = count u.team us + 1; row = u } in
    let more : numbered_after [] (us ++ u ∷ []) ≡ numbered_after [] us ++ n ∷ [] = numbered_more [] us u in
    let rows : map submission_of (numbered_after [] (us ++ u ∷ [])) ≡ map submission_of (numbered_after [] us) ++ submission_of n ∷ [] = ap (map submission_of) more ∙ map-append submission_of (numbered_after [] us) (n ∷ []) in
    let vs : releases_of (numbered_after [] (us ++ u ∷ [])) ≡ releases_of (numbered_after [] us) ++ released n u.verdict =
    ap releases_of more ∙ (flat_map-append (λ m. released m m.row.verdict) (numbered_after [] us) (n ∷ []) ∙ ap (λ ws. releases_of (numbered_after [] us) ++ ws) (append-nil (released n u.verdict))) in
    (rw (rows, vs) (next s thaw us u u.verdict f.admitted.verdict f h), rw vs (is_before_more us (releases_of (numbered_after [] us)) u h.1))

all_more : (s : Setup) (thaw : Option ℕ) (earlier us : List JudgedSubmission) → ReadsValid s (earlier ++ us) → Stands s thaw earlier → Stands s thaw (earlier ++ us)
all_more s thaw earlier [] r h = subst (Stands s thaw) (sym (append-nil earlier)) h
all_more s thaw earlier (u ∷ us) r h =
    let regrouped : (earlier ++ u ∷ []) ++ us ≡ earlier ++ u ∷ us = append_assoc earlier (u ∷ []) us in
    subst (Stands s thaw) regrouped (all_more s thaw (earlier ++ u ∷ []) us (subst (ReadsValid s) (sym regrouped) r) (one_more s thaw earlier u (follows s earlier us u r) h))

-- no contest is longer than what fits before the last moment
not_long : (h : ContestHead) → is_valid_head h ≡ true → nat_le h.duration LONGEST_CONTEST ≡ true
not_long h v =
    let v3 = and_left _ (has_valid_medals h.medals) v in
    let v2 = and_left _ (nat_le h.penalty_time PENALTY_MINUTES) v3 in
    and_right (nat_lt 0 h.duration) _ (and_left _ (has_valid_freeze h.freeze h.duration) v2)

ends : (duration : ℕ) → nat_le duration LONGEST_CONTEST ≡ true → nat_le (0 + duration) latest ≡ true
ends duration h = grind (arith, nat_tests)

empty_stands : (s : Setup) (thaw : Option ℕ) → IsValid s → Stands s thaw []
empty_stands s thaw v =
    let x = replay_contest s (replay_marks thaw) [] in
    let result : Parts x = record {
      settings = has_settings x v;
      clock = both_true _ _ (ends s.head.duration (not_long s.head v.head)) refl;
      accounts = refl;
      submissions = refl;
      proposals = refl;
      releases = refl;
      clarifications = refl;
      rejudgings = refl;
    } in
    (whole x result, λ team number l. refl)

-- the contest of what a replay's records spell is valid
pub contest_store_valid : (s : Setup) (thaw : Option ℕ) (us : List JudgedSubmission) → IsValid s → ReadsValid s us → is_valid (replay_contest s (replay_marks thaw) us) ≡ true
contest_store_valid s thaw us v r = (all_more s thaw [] us r (empty_stands s thaw v)).0
