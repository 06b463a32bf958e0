-- What a replay's state keeps of its submissions, as it grows.
use Rattle.std.proofs.Common.{ℕ, ◌≡◌, ◌≢◌, ◌+◌, ◌<◌, ◌≤◌, ◌⊎◌, inl, inr, Bool, true, false, cond, List, [], ◌∷◌, ◌++◌, length, map, get_or, Option, Some, None, refl, sym, ap, subst, ◌∙◌, arith, All, append-nil, add-zero}
use Rattle.std.specs.Prelude.{◌==◌, nat_eq, nat_le, filter, fold, max, IfSome, slice_set, sum_by}
use Rattle.std.specs.List.{list_all}
use Rattle.std.proofs.lemmas.Bool.{cases_Bool, false≢true, eqb-true, eq-eqb, le-leb, ne_eqb}
use Rattle.std.proofs.lemmas.Bool.Decides.{nat_tests}
use Rattle.std.proofs.Math.Seq.{get_or-append_seam}
use Rattle.std.proofs.lemmas.List.{length-append, map-append, get_or_append_left, get_or-set_same, get_or-set_other, length-set}
use Rattle.std.proofs.lemmas.List.Sums.{fold-append, sum_by_push, sum_by-set, sum_by-le, length-filter, count_by-le-length}
use Rattle.std.proofs.lemmas.List.Elements.{filter-append, All-push, All-tail}
use Rattle.std.specs.Str.{chars}
use Rattle.contest_types.specs.Series.{never_fall}
use Rattle.contest_types.specs.Setup.{Setup}
use Rattle.contest_types.specs.NameText.{name_of}
use Rattle.contest_types.specs.declared.limits.TheConstants.{TEAMS, TEAM_SUBMISSIONS}
use Rattle.contest_types.proofs.PlaceLemmas.{both_true}
use Rattle.contest_types.proofs.SeriesLemmas.{never_fall_push}
use Rattle.contest_score.specs.MaskedCells.{IsAdmitted}
use Rattle.contest_score.specs.declared.submission.JudgedSubmission.{JudgedSubmission}
use Rattle.contest_replay.specs.declared.replay.team_progress.TeamProgress.{TeamProgress}
use Rattle.contest_replay.specs.declared.replay.submission_row.SubmissionRefs.{SubmissionRefs}
use Rattle.contest_replay.specs.ReplayLists.{team_submissions, last_time}
use Rattle.contest_replay.specs.ReplayState.{reading_marks, TellsProgress, IsReplayed, AreThere}

pub any_name : name_of (97 ∷ 110 ∷ 121 ∷ []) ≡ Some (97 ∷ 110 ∷ 121 ∷ [])
unfolding chars
any_name = refl

kept : (team : ℕ) (u : JudgedSubmission) (us : List JudgedSubmission) (b : Bool) → nat_eq u.team team ≡ b → team_submissions team (us ++ u ∷ []) ≡ team_submissions team us ++ cond b (u ∷ []) []
kept team u us b h = filter-append (λ v. v.team == team) us (u ∷ []) ∙ (rw h refl)

pub apart : (a b : ℕ) → a < b → nat_eq a b ≡ false
apart a b h = grind (arith, nat_tests)

-- a team that isn't there has no submission
none_of : (team : ℕ) (us : List JudgedSubmission) → All (λ u. u.team < team) us → team_submissions team us ≡ []
none_of team [] h = refl
none_of team (u ∷ us) h = let f : nat_eq u.team team ≡ false = apart u.team team (h 0 u (omega arith)) in rw f (none_of team us (All-tail (λ u. u.team < team) u us h))

-- one more submission of the team, or of another
pub pushed_same : (team : ℕ) (u : JudgedSubmission) (us : List JudgedSubmission) → nat_eq u.team team ≡ true → (last_time team (us ++ u ∷ []) ≡ max (last_time team us) u.time) × (length (team_submissions team (us ++ u ∷ [])) ≡ length (team_submissions team us) + 1)
pushed_same team u us h =
    let more = kept team u us true h in
    let time : JudgedSubmission → ℕ = λ v. v.time in
    (ap (λ vs. fold max 0 (map time vs)) more ∙ ap (fold max 0) (map-append time (team_submissions team us) (u ∷ [])) ∙ fold-append max 0 (map time (team_submissions team us)) (u.time ∷ []), ap length more ∙ length-append (team_submissions team us) (u ∷ []))

pub pushed_other : (team : ℕ) (u : JudgedSubmission) (us : List JudgedSubmission) → nat_eq u.team team ≡ false → team_submissions team (us ++ u ∷ []) ≡ team_submissions team us
pushed_other team u us h = kept team u us false h ∙ append-nil _

is_within : (s : Setup) (us : List JudgedSubmission) → All (IsAdmitted s reading_marks) us → All (λ u. u.team < length s.teams) us
is_within s us h i d l = (h i d l).team

placed : (found : Option ℕ) (m n : ℕ) → m ≤ n → IfSome found (λ place. place < m) → IfSome found (λ place. place < n)
placed None m n l h = tt
placed (Some place) m n l h = omega arith

-- what is there stays there as the settings grow
admitted_wider : (s t : Setup) (us : List JudgedSubmission) → length s.teams ≤ length t.teams → length s.problems ≤ length t.problems → length s.types ≤ length t.types → All (IsAdmitted s reading_marks) us → All (IsAdmitted t reading_marks) us
admitted_wider s t us teams problems types h i d l =
    let a = h i d l in
    record { team = omega (arith, a.team); problem = omega (arith, a.problem); verdict = placed (get_or us i d).verdict (length s.types) (length t.types) types a.verdict; started = a.started }

-- more judgement types or problems
pub IsReplayed-wider : (s t : Setup) (us : List JudgedSubmission) (teams : List TeamProgress) → t.head ≡ s.head → length t.teams ≡ length s.teams → length s.problems ≤ length t.problems → length s.types ≤ length t.types → length s.languages ≤ length t.languages → IsReplayed s us teams → IsReplayed t us teams
IsReplayed-wider s t us teams head same problems types languages r =
    let duration : t.head.duration ≡ s.head.duration = ap (λ h. h.duration) head in
    record {
      all = r.all ∙ sym same;
      told = r.told;
      early = λ i d l. rw duration (r.early i d l);
      few = r.few;
      total = r.total;
      lasting = rw duration r.lasting;
      spoken = omega (arith, r.spoken);
      admitted = admitted_wider s t us (omega arith) problems types r.admitted;
      within = rw duration r.within;
      rising = r.rising;
    }

at_end : (i n : ℕ) → i < n + 1 → (i < n) ⊎ (i ≡ n)
at_end i n h = grind arith

abbrev pub count_in : TeamProgress → ℕ
count_in t = t.count

abbrev pub no_submissions : TeamProgress
no_submissions = record { last = 0; count = 0 }

-- one more team
pub IsReplayed-team : (s t : Setup) (us : List JudgedSubmission) (teams : List TeamProgress) → t.head ≡ s.head → length t.teams ≡ length s.teams + 1 → length s.problems ≤ length t.problems → length s.types ≤ length t.types → length s.languages ≤ length t.languages → IsReplayed s us teams → IsReplayed t us (teams ++ no_submissions ∷ [])
IsReplayed-team s t us teams head more problems types languages r =
    let duration : t.head.duration ≡ s.head.duration = ap (λ h. h.duration) head in
    let all = r.all in
    let longer : length (teams ++ no_submissions ∷ []) ≡ length teams + 1 = length-append teams (no_submissions ∷ []) in
    let none : team_submissions (length teams) us ≡ [] = none_of (length teams) us (rw all (is_within s us r.admitted)) in
    let new : TellsProgress us (length teams) no_submissions = record { last = sym (rw none refl); count = sym (rw none refl) } in
    record {
      all = longer ∙ (omega arith);
      told = λ i d l. elim (at_end i (length teams) (omega arith)) [
        | inl low ↦ rw (get_or_append_left teams (no_submissions ∷ []) d i low) (r.told i d low)
        | inr e ↦ rw (e, get_or-append_seam teams no_submissions [] d) new
      ];
      early = λ i d l. elim (at_end i (length teams) (omega arith)) [
        | inl low ↦ rw (get_or_append_left teams (no_submissions ∷ []) d i low, duration) (r.early i d low)
        | inr e ↦ rw (e, get_or-append_seam teams no_submissions [] d, duration) r.lasting
      ];
      few = λ i d l. elim (at_end i (length teams) (omega arith)) [
        | inl low ↦ rw (get_or_append_left teams (no_submissions ∷ []) d i low) (r.few i d low)
        | inr e ↦ rw (e, get_or-append_seam teams no_submissions [] d) (omega arith)
      ];
      total = r.total ∙ sym (sum_by_push count_in teams no_submissions ∙ add-zero _);
      lasting = rw duration r.lasting;
      spoken = omega (arith, r.spoken);
      admitted = admitted_wider s t us (omega arith) problems types r.admitted;
      within = rw duration r.within;
      rising = r.rising;
    }

from_zero : (n : ℕ) → nat_le 0 n ≡ true
from_zero n = grind (arith, nat_tests)

latest : (last time : ℕ) → max last (max time last) ≡ max time last
latest last time = omega arith

at_least : (a : ℕ) (ts : List ℕ) → a ≤ fold max a ts
at_least a [] = omega arith
at_least a (t ∷ ts) = omega (arith, at_least (max a t) ts)

-- no time is past the latest
none_past : (a : ℕ) (ts : List ℕ) (m : ℕ) → fold max a ts ≤ m → list_all (λ t. nat_le t m) ts ≡ true
none_past a [] m h = refl
none_past a (t ∷ ts) m h = both_true _ _ (le-leb t m (omega (arith, at_least (max a t) ts, h))) (none_past (max a t) ts m h)

abbrev times_of : ℕ → List JudgedSubmission → List ℕ
times_of team us = map (λ u. u.time) (team_submissions team us)

-- a team's times still don't fall after one that isn't before its last
rising_more : (us : List JudgedSubmission) (u : JudgedSubmission) → last_time u.team us ≤ u.time → (team : ℕ) → never_fall (times_of team us) ≡ true → never_fall (times_of team (us ++ u ∷ [])) ≡ true
rising_more us u late team h =
    let time : JudgedSubmission → ℕ = λ v. v.time in
    let own : nat_eq u.team team ≡ true → never_fall (times_of team (us ++ u ∷ [])) ≡ true = λ t.
    (let e : last_time team us ≤ u.time = subst (λ k. last_time k us ≤ u.time) (eqb-true u.team team t) late in
    let grown : times_of team (us ++ u ∷ []) ≡ times_of team us ++ u.time ∷ [] = ap (map time) (kept team u us true t) ∙ map-append time (team_submissions team us) (u ∷ []) in
    rw grown (never_fall_push (times_of team us) u.time h (none_past 0 (times_of team us) u.time e))) in
    elim (cases_Bool (nat_eq u.team team)) [
      | inl t ↦ own t
      | inr f ↦ rw (pushed_other team u us f) h
    ]

-- one more submission
pub IsReplayed-submission : (s : Setup) (us : List JudgedSubmission) (teams : List TeamProgress) (p : SubmissionRefs) (old : TeamProgress) (time : ℕ) → IsReplayed s us teams → AreThere s p → old ≡ get_or teams p.team old → old.count < TEAM_SUBMISSIONS → time < s.head.duration
    → IsReplayed s (us ++ record { team = p.team; problem = p.problem; time = max time old.last; verdict = p.verdict } ∷ []) (slice_set teams p.team (record { last = max time old.last; count = old.count + 1 }))
IsReplayed-submission s us teams p old time r there at room short =
    let u : JudgedSubmission = record { team = p.team; problem = p.problem; time = max time old.last; verdict = p.verdict } in
    let new : TeamProgress = record { last = max time old.last; count = old.count + 1 } in
    let all = r.all in
    let team = there.team in
    let low : p.team < length teams = omega arith in
    let self : nat_eq p.team p.team ≡ true = eq-eqb p.team p.team refl in
    let old_told : TellsProgress us p.team old = rw (← at) at (r.told p.team old low) in
    let old_early : old.last < s.head.duration = rw (← at) at (r.early p.team old low) in
    let more = pushed_same p.team u us self in
    let new_told : TellsProgress (us ++ u ∷ []) p.team new = record {
      last = sym (more.0 ∙ (rw (← old_told.last) (latest old.last time)));
      count = sym (more.1 ∙ ap (λ n. n + 1) (sym old_told.count));
    } in
    let other_told = λ (i : ℕ) (t : TeamProgress) (e : i ≢ p.team) (o : TellsProgress us i t). (let same = pushed_other i u us (ne_eqb p.team i (λ f. e (sym f))) in let r : TellsProgress (us ++ u ∷ []) i t = record { last = o.last ∙ sym (ap (λ vs. fold max 0 (map (λ (v : JudgedSubmission). v.time) vs)) same); count = o.count ∙ sym (ap length same) } in r) in
    let long = length-set teams p.team new in
    let swapped : sum_by count_in (slice_set teams p.team new) + old.count ≡ sum_by count_in teams + (old.count + 1) = rw (← at) at (sum_by-set count_in teams p.team new old low) in
    record {
      all = long ∙ all;
      told = λ i d l. elim (cases_Bool (nat_eq i p.team)) [
        | inl t ↦ rw (eqb-true i p.team t, get_or-set_same teams p.team new d low) new_told
        | inr f ↦ (let e : i ≢ p.team = λ h. false≢true (sym f ∙ eq-eqb i p.team h) in rw (get_or-set_other teams p.team i new d e) (other_told i _ e (r.told i d (omega arith))))
      ];
      early = λ i d l. elim (cases_Bool (nat_eq i p.team)) [
        | inl t ↦ rw (eqb-true i p.team t, get_or-set_same teams p.team new d low) (omega arith)
        | inr f ↦ (let e : i ≢ p.team = λ h. false≢true (sym f ∙ eq-eqb i p.team h) in rw (get_or-set_other teams p.team i new d e) (r.early i d (omega arith)))
      ];
      few = λ i d l. elim (cases_Bool (nat_eq i p.team)) [
        | inl t ↦ rw (eqb-true i p.team t, get_or-set_same teams p.team new d low) (omega arith)
        | inr f ↦ (let e : i ≢ p.team = λ h. false≢true (sym f ∙ eq-eqb i p.team h) in rw (get_or-set_other teams p.team i new d e) (r.few i d (omega arith)))
      ];
      total = omega (arith, length-append us (u ∷ []), r.total, swapped);
      lasting = r.lasting;
      spoken = r.spoken;
      within = All-push (λ v. v.time < s.head.duration) us u r.within (omega arith);
      rising = λ i. rising_more us u (omega (arith, old_told.last)) i (r.rising i);
      admitted = All-push (IsAdmitted s reading_marks) us u r.admitted (record { team = there.team; problem = there.problem; verdict = there.verdict; started = from_zero (max time old.last) });
    }

-- a replay has few submissions
pub few_submissions : (s : Setup) (us : List JudgedSubmission) (teams : List TeamProgress) → IsReplayed s us teams → length s.teams ≤ TEAMS → length us ≤ 250_000
few_submissions s us teams r few =
    let most = sum_by-le count_in TEAM_SUBMISSIONS teams r.few in
    omega (arith, most, r.total, r.all)

-- some of them are no more
pub fewer : (p : JudgedSubmission → Bool) (us : List JudgedSubmission) → length (filter p us) ≤ length us
fewer p us = omega (arith, length-filter p us, count_by-le-length p us)
