-- Times that never fall, by the last one of each team.
use Rattle.std.proofs.Common.{◌≡◌, ℕ, ◌+◌, ◌<◌, ◌≤◌, get_or, take, drop, length, Bool, true, false, List, [], ◌∷◌, ◌++◌, map, refl, sym, ◌∙◌, ap, subst, arith, append-nil}
use Rattle.std.specs.Prelude.{◌&&◌, nat_le, nat_eq, if◌then◌else◌}
use Rattle.std.specs.List.{list_all}
use Rattle.std.proofs.lemmas.Bool.{and_parts, eqb-true}
use Rattle.std.proofs.lemmas.Bool.Decides.{nat_tests}
use Rattle.std.proofs.lemmas.List.{map-append, take_more, drop_all}
use Rattle.std.proofs.lemmas.List.Elements.{filter-append}
use Rattle.std.proofs.lemmas.List.Folds.{list_all-append}
use Rattle.contest_types.specs.Series.{in_each, never_fall}
use Rattle.contest_types.specs.State.{submissions_of}
use Rattle.contest_types.specs.ValidSubmissions.{of_one_team}
use Rattle.contest_types.specs.declared.submission.Submission.{Submission}
use Rattle.contest_types.proofs.AddLemmas.{one_team}
use Rattle.contest_store_valid.proofs.StepLemmas.{Grows, and_true, both_of_both, steps, by_steps, step_at, in_each_grows}

-- the greatest of the times, or 0
abbrev pub greatest : List ℕ → ℕ
greatest [] = 0
greatest (t ∷ ts) = if nat_le (greatest ts) t then t else greatest ts

greater : (g t u : ℕ) (b : Bool) → nat_le g t ≡ b → nat_le (if b then t else g) u ≡ (nat_le t u && nat_le g u)
greater g t u true h = grind (arith, nat_tests, h)
greater g t u false h = grind (arith, nat_tests, h)

all_before : (ts : List ℕ) (u : ℕ) → list_all (λ t. nat_le t u) ts ≡ nat_le (greatest ts) u
all_before [] u = grind (arith, nat_tests)
all_before (t ∷ ts) u = ap (λ b. nat_le t u && b) (all_before ts u) ∙ sym (greater (greatest ts) t u (nat_le (greatest ts) t) refl)

fall_more : (ts : List ℕ) (u : ℕ) → never_fall (ts ++ u ∷ []) ≡ (never_fall ts && list_all (λ t. nat_le t u) ts)
fall_more [] u = refl
fall_more (t ∷ ts) u =
    let A = list_all (nat_le t) ts in
    ap (λ b. b && never_fall (ts ++ u ∷ [])) (list_all-append (nat_le t) ts (u ∷ []) ∙ ap (λ b. A && b) (sym (and_true (nat_le t u))))
    ∙ (ap (λ b. (A && nat_le t u) && b) (fall_more ts u) ∙ both_of_both A (nat_le t u) (never_fall ts) (list_all (λ s. nat_le s u) ts))

never_fall_grows : {X : Type 0} (time : X → ℕ) → Grows (λ xs. never_fall (map time xs)) (λ ys y. nat_le (greatest (map time ys)) (time y))
never_fall_grows time = record {
  none = refl;
  more = λ xs x.
      ap never_fall (map-append time xs (x ∷ [])) ∙ (fall_more (map time xs) (time x) ∙ ap (λ b. never_fall (map time xs) && b) (all_before (map time xs) (time x)));
}

-- the last time of a team, among these submissions
abbrev pub last_time : List Submission → ℕ → ℕ
last_time submissions team = greatest (map (λ (s : Submission). s.time) (submissions_of team submissions))

abbrev pub is_in_time : List Submission → Submission → Bool
is_in_time before s = nat_le (last_time before s.team) s.time

-- no team's times fall where each submission is in time
pub each_in_time : (submissions : List Submission) → in_each of_one_team (λ own. never_fall (map (λ (s : Submission). s.time) own)) submissions ≡ steps is_in_time [] submissions
each_in_time submissions = by_steps (in_each_grows of_one_team one_team (never_fall_grows (λ (s : Submission). s.time))) submissions

latest_more : (ts : List ℕ) (u : ℕ) → nat_le (greatest ts) u ≡ true → greatest (ts ++ u ∷ []) ≡ u
latest_more [] u h = let go : (b : Bool) → nat_le 0 u ≡ b → (if b then u else 0) ≡ u = elim [ true ↦ λ e. refl | false ↦ λ e. grind (arith, nat_tests, e) ] in go (nat_le 0 u) refl
latest_more (t ∷ ts) u h =
    let both : (nat_le t u ≡ true) × (nat_le (greatest ts) u ≡ true) = and_parts _ _ (sym (greater (greatest ts) t u (nat_le (greatest ts) t) refl) ∙ h) in
    let first : nat_le t u ≡ true = both.0 in
    let rest : greatest (ts ++ u ∷ []) ≡ u = latest_more ts u both.1 in
    let go : (b : Bool) → nat_le u t ≡ b → (if b then t else u) ≡ u = elim [ true ↦ λ e. grind (arith, nat_tests, e, first) | false ↦ λ e. refl ] in
    rw rest (go (nat_le u t) refl)

-- what a submission that is in time leaves as the last times
pub last_more : (before : List Submission) (s : Submission) (team : ℕ) → is_in_time before s ≡ true → last_time (before ++ s ∷ []) team ≡ (if nat_eq s.team team then s.time else last_time before team)
last_more before s team h =
    let own = λ (xs : List Submission). greatest (map (λ (s : Submission). s.time) xs) in
    let go : (b : Bool) → nat_eq s.team team ≡ b → own (submissions_of team before ++ (if b then s ∷ [] else [])) ≡ (if b then s.time else last_time before team) = elim [
      | true ↦ λ e. ap greatest (map-append (λ (s : Submission). s.time) (submissions_of team before) (s ∷ [])) ∙ latest_more (map (λ (s : Submission). s.time) (submissions_of team before)) s.time (subst (λ t. nat_le (last_time before t) s.time ≡ true) (eqb-true s.team team e) h)
      | false ↦ λ e. ap own (append-nil (submissions_of team before))
    ] in
    ap own (filter-append (λ (s : Submission). nat_eq s.team team) before (s ∷ [])) ∙ go (nat_eq s.team team) refl

-- a loop over the submissions that keeps the last times: what it knows at a place
pub record AreInTime (submissions : List Submission) (i : ℕ) (last : ℕ → ℕ) : Type 0 where
  pub left : steps is_in_time [] submissions ≡ steps is_in_time (take i submissions) (drop i submissions)
  pub times : (team : ℕ) → last team ≡ last_time (take i submissions) team

here_in_time : (xs : List Submission) (i : ℕ) (s : Submission) (last : ℕ → ℕ) (b : Bool) → AreInTime xs i last → b ≡ nat_le (last s.team) s.time → is_in_time (take i xs) s ≡ b
here_in_time xs i s last b known e = ap (λ t. nat_le t s.time) (sym (known.times s.team)) ∙ sym e

pub falls_here : (xs : List Submission) (i : ℕ) (s : Submission) (last : ℕ → ℕ) (b : Bool) → i < length xs → s ≡ get_or xs i s → AreInTime xs i last → b ≡ nat_le (last s.team) s.time → b ≡ false
    → false ≡ in_each of_one_team (λ own. never_fall (map (λ (s : Submission). s.time) own)) xs
falls_here xs i s last b l e known is early =
    let here = here_in_time xs i s last b known is ∙ early in
    sym (each_in_time xs ∙ (known.left ∙ (step_at is_in_time xs i s l e ∙ ap (λ c. c && steps is_in_time (take (i + 1) xs) (drop (i + 1) xs)) here)))

pub next_in_time : (xs : List Submission) (i : ℕ) (s : Submission) (last next : ℕ → ℕ) (b : Bool) → i < length xs → s ≡ get_or xs i s → AreInTime xs i last → b ≡ nat_le (last s.team) s.time → b ≡ true
    → ((team : ℕ) → next team ≡ (if nat_eq s.team team then s.time else last team)) → AreInTime xs (i + 1) next
next_in_time xs i s last next b l e known is on put =
    let here = here_in_time xs i s last b known is ∙ on in
    let grown : take (i + 1) xs ≡ take i xs ++ s ∷ [] = rw (← e) at (take_more xs i s l) in
    record {
      left = known.left ∙ (step_at is_in_time xs i s l e ∙ ap (λ c. c && steps is_in_time (take (i + 1) xs) (drop (i + 1) xs)) here);
      times = λ team. put team ∙ (ap (λ t. if nat_eq s.team team then s.time else t) (known.times team) ∙ (sym (last_more (take i xs) s team here) ∙ ap (λ ys. last_time ys team) (sym grown)));
    }

pub none_falls : (xs : List Submission) (i : ℕ) (last : ℕ → ℕ) → length xs ≤ i → AreInTime xs i last → true ≡ in_each of_one_team (λ own. never_fall (map (λ (s : Submission). s.time) own)) xs
none_falls xs i last l known =
    let done : drop i xs ≡ [] = drop_all i xs l in
    sym (each_in_time xs ∙ (known.left ∙ ap (steps is_in_time (take i xs)) done))
