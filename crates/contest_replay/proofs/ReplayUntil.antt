-- What a replay keeps of its submissions makes its contest valid, also up to a moment.
use Rattle.std.proofs.Common.{ℕ, ◌≡◌, ◌<◌, ◌≤◌, inl, inr, Bool, true, List, [], ◌∷◌, length, map, refl, ap, arith, All, Some, None}
use Rattle.std.specs.Prelude.{◌==◌, nat_le, filter, if◌then◌else◌}
use Rattle.std.specs.List.{list_all}
use Rattle.std.proofs.lemmas.Bool.{cases_Bool}
use Rattle.std.proofs.lemmas.List.Elements.{All-filter}
use Rattle.contest_types.specs.Series.{never_fall}
use Rattle.contest_types.specs.Setup.{Setup, IsValid}
use Rattle.contest_types.specs.Valid.{is_valid}
use Rattle.contest_types.proofs.PlaceLemmas.{and_left, and_right, both_true}
use Rattle.contest_types.specs.declared.limits.TheConstants.{TEAM_SUBMISSIONS}
use Rattle.contest_score.specs.MaskedCells.{IsAdmitted}
use Rattle.contest_score.specs.declared.submission.JudgedSubmission.{JudgedSubmission}
use Rattle.contest_replay.specs.declared.replay.team_progress.TeamProgress.{TeamProgress}
use Rattle.contest_replay.specs.ReplayLists.{team_submissions}
use Rattle.contest_replay.specs.ReplayContest.{replay_contest, marks_for, up_to}
use Rattle.contest_replay.specs.ReplayState.{reading_marks, IsReplay, IsReplayed, ReadsValid}
use Rattle.contest_replay.proofs.ReplayStateLemmas.{no_submissions, fewer}
use Rattle.contest_replay.proofs.ReplayValid.{contest_store_valid}
use Rattle.contest_types.proofs.Filters.{filters_swap}

-- what the state keeps says that its submissions are those of a valid contest
pub reads_valid : (s : Setup) (us : List JudgedSubmission) (teams : List TeamProgress) → IsReplayed s us teams → ReadsValid s us
reads_valid s us teams r =
    let few : (team : ℕ) → team < length s.teams → length (team_submissions team us) ≤ TEAM_SUBMISSIONS = λ team l.
    (let low : team < length teams = omega (arith, r.all, l) in
    let told = r.told team no_submissions low in
    let most = r.few team no_submissions low in
    omega (arith, told.count, most)) in
    record { spoken = r.spoken; admitted = r.admitted; within = r.within; few = few; rising = r.rising }

all_kept : {X : Type 0} (f : X → ℕ) (q : ℕ → Bool) (p : X → Bool) (xs : List X) → list_all q (map f xs) ≡ true → list_all q (map f (filter p xs)) ≡ true
all_kept f q p [] h = refl
all_kept f q p (x ∷ xs) h =
    let rest = all_kept f q p xs (and_right (q (f x)) _ h) in
    elim (cases_Bool (p x)) [
      | inl t ↦ rw t (both_true (q (f x)) _ (and_left (q (f x)) (list_all q (map f xs)) h) rest)
      | inr e ↦ rw e rest
    ]

-- times that never fall don't fall where some are left out
rising_kept : {X : Type 0} (f : X → ℕ) (p : X → Bool) (xs : List X) → never_fall (map f xs) ≡ true → never_fall (map f (filter p xs)) ≡ true
rising_kept f p [] h = refl
rising_kept f p (x ∷ xs) h =
    let rest = rising_kept f p xs (and_right (list_all (nat_le (f x)) (map f xs)) _ h) in
    let first = all_kept f (nat_le (f x)) p xs (and_left _ (never_fall (map f xs)) h) in
    elim (cases_Bool (p x)) [
      | inl t ↦ rw t (both_true _ _ first rest)
      | inr e ↦ rw e rest
    ]

-- what is left of the submissions makes a valid contest too
pub reads_valid_kept : (s : Setup) (p : JudgedSubmission → Bool) (us : List JudgedSubmission) → ReadsValid s us → ReadsValid s (filter p us)
reads_valid_kept s p us r =
    let same = λ (team : ℕ). filters_swap (λ (u : JudgedSubmission). u.team == team) p us in
    record {
      spoken = r.spoken;
      admitted = All-filter p (IsAdmitted s reading_marks) us r.admitted;
      within = All-filter p (λ u. u.time < s.head.duration) us r.within;
      few = λ team l. omega (arith, ap length (same team), fewer p (team_submissions team us), r.few team l);
      rising = λ team. rw (same team) (rising_kept (λ (u : JudgedSubmission). u.time) p (team_submissions team us) (r.rising team));
    }

-- a replay's contest is valid, thawed or not
pub replay_valid : (s : Setup) (us : List JudgedSubmission) (thawed : Bool) → IsValid s → ReadsValid s us → is_valid (replay_contest s (marks_for s thawed) us) ≡ true
replay_valid s us thawed v r = contest_store_valid s (if thawed then Some s.head.duration else None) us v r

-- its submissions can be scored, thawed or not
pub replay_admitted : (s : Setup) (us : List JudgedSubmission) (thawed : Bool) → ReadsValid s us → All (IsAdmitted s (marks_for s thawed)) us
replay_admitted s us thawed r i d l =
    let a = r.admitted i d l in
    record { team = a.team; problem = a.problem; verdict = a.verdict; started = a.started }

-- a replay up to a moment is one too
pub replay_until : (s : Setup) (us : List JudgedSubmission) (now : ℕ) → IsReplay s us → IsReplay s (up_to now us)
replay_until s us now r =
    let p = λ (u : JudgedSubmission). nat_le u.time now in
    let less = fewer p us in
    record { settings = r.settings; reads = reads_valid_kept s p us r.reads; few = omega (arith, r.few, less) }
