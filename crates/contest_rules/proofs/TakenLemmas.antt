-- A submission that is taken may be added.
use Rattle.std.proofs.Common.{cond, ◌≡◌, ◌∙◌, ◌<◌, ◌≤◌, ◌+◌, ◌-◌, ℕ, suc, Bool, true, false, List, [], ◌∷◌, length, map, Option, Some, None, Result, Ok, Err, refl, sym, ap, subst, arith}
use Rattle.std.specs.Prelude.{◌&&◌, ◌==◌, not, nat_le, nat_lt, find, slice_get, if◌then◌else◌, IfSome}
use Rattle.std.specs.List.{list_all, filter_map}
use Rattle.std.specs.Option.{option_map}
use Rattle.std.specs.Str.{bytes_eq}
use Rattle.std.proofs.lemmas.Bool.{false≢true, eq-eqb, le-leb, lt-ltb}
use Rattle.std.proofs.lemmas.Bool.Decides.{nat_tests}
use Rattle.std.proofs.lemmas.List.{length-map}
use Rattle.std.proofs.lemmas.List.Folds.{list_all-map}
use Rattle.std.proofs.lemmas.Option.{slice_get-map}
use Rattle.contest_types.specs.Clock.{reached, end_of}
use Rattle.contest_types.specs.Places.{place_of, is_among}
use Rattle.contest_types.specs.Series.{count_up, never_fall, is_new_key}
use Rattle.contest_types.specs.State.{FixedPart, ContestState, submissions_of}
use Rattle.contest_types.specs.declared.entry.Entry.TheVariants.{NewSubmission}
use Rattle.contest_types.specs.Valid.{is_valid}
use Rattle.contest_types.specs.ValidSubmissions.{is_valid_submission, of_one_team, are_valid_submissions}
use Rattle.contest_types.specs.Addable.{is_addable, is_next_submission}
use Rattle.contest_types.specs.declared.audience.Phase.TheVariants as phase
use Rattle.contest_types.specs.declared.limits.TheConstants.{TEAM_SUBMISSIONS, POSTED_FILE}
use Rattle.contest_types.specs.declared.objects.Problem.{Problem}
use Rattle.contest_types.specs.declared.objects.Language.{Language}
use Rattle.contest_rules.specs.declared.rule_refusal.RuleRefusal.TheVariants.{NotOpen, TeamLimit, EntryPointMissing, KeyReused, UnknownReference}
use Rattle.contest_types.specs.declared.submission.Submission.{Submission}
use Rattle.contest_types.proofs.PlaceLemmas.{and_left, and_right, both_true, place_within}
use Rattle.contest_types.proofs.SetupLemmas.{all_wider}
use Rattle.contest_types.proofs.ValidParts.{parts, four, all_four, all_six}
use Rattle.contest_types.proofs.SeriesLemmas.{in_any}
use Rattle.contest_types.proofs.AddLemmas.{one_team}
use Rattle.contest_rules.specs.declared.decision.Decision.{Decision}
use Rattle.contest_rules.specs.declared.decision.Decision.TheVariants.{Add, Stands}
use Rattle.contest_rules.specs.declared.rule_refusal.RuleRefusal.{RuleRefusal}
use Rattle.contest_rules.specs.declared.submitting.OwnSoFar.{OwnSoFar}
use Rattle.contest_rules.specs.declared.submitting.WantedSubmission.{WantedSubmission}
use Rattle.contest_rules.specs.Submitting.{asks_the_same, lacks_entry_point, has_key, repeated, is_running, takes_submissions, later, next_submission, fresh, so_far, standing_under, submit_to, submit}
use Rattle.contest_types.proofs.AccountLemmas.{all_filtered}

abbrev problem_ids : FixedPart → List (List ℕ)
problem_ids f = map (λ (p : Problem). p.id) f.settings.problems

abbrev language_ids : FixedPart → List (List ℕ)
language_ids f = map (λ (l : Language). l.id) f.settings.languages

-- what comes of it
abbrev pub Decided : Type 0
Decided = Result (Decision Submission Submission) RuleRefusal

-- what is known of a submission that is taken
pub record Taken (f : FixedPart) (now team : ℕ) (own : OwnSoFar) (w : WantedSubmission) (s : Submission) : Type 0 where
  pub problem : ℕ
  pub language : ℕ
  pub is_problem : place_of w.problem (problem_ids f) ≡ Some problem
  pub is_language : place_of w.language (language_ids f) ≡ Some language
  pub complete : lacks_entry_point f language w.entry_point ≡ false
  pub new_key : own.standing ≡ None
  pub takes : takes_submissions f now ≡ true
  pub room : nat_le TEAM_SUBMISSIONS own.count ≡ false
  pub is : s ≡ next_submission now team own problem language w

-- and of one that stands
pub record Stood (f : FixedPart) (own : OwnSoFar) (w : WantedSubmission) (s : Submission) : Type 0 where
  pub problem : ℕ
  pub language : ℕ
  pub is_problem : place_of w.problem (problem_ids f) ≡ Some problem
  pub is_language : place_of w.language (language_ids f) ≡ Some language
  pub complete : lacks_entry_point f language w.entry_point ≡ false
  pub stands : own.standing ≡ Some s
  pub same : asks_the_same s problem language w ≡ true

abbrev pub IfTaken : FixedPart → (now team : ℕ) → OwnSoFar → WantedSubmission → Decided → Type 0
IfTaken f now team own w (Err refusal) = Unit {0}
IfTaken f now team own w (Ok (Add s)) = Taken f now team own w s
IfTaken f now team own w (Ok (Stands s)) = Stood f own w s

taken_to : (f : FixedPart) (now team : ℕ) (own : OwnSoFar) (w : WantedSubmission) (problem language : ℕ)
    → place_of w.problem (problem_ids f) ≡ Some problem → place_of w.language (language_ids f) ≡ Some language → lacks_entry_point f language w.entry_point ≡ false
    → IfTaken f now team own w (submit_to f now team own problem language w)
taken_to f now team own w problem language p l complete =
    let on : (s : Submission) → own.standing ≡ Some s → (same : Bool) → asks_the_same s problem language w ≡ same → IfTaken f now team own w (if same then Ok (Stands s) else Err KeyReused) = λ s k. elim [
      | true ↦ λ e. record { problem = problem; language = language; is_problem = p; is_language = l; complete = complete; stands = k; same = e }
      | false ↦ λ e. tt
    ] in
    let room : own.standing ≡ None → takes_submissions f now ≡ true → (full : Bool) → nat_le TEAM_SUBMISSIONS own.count ≡ full
    → IfTaken f now team own w (if full then Err TeamLimit else Ok (Add (next_submission now team own problem language w))) = λ k t. elim [
      | true ↦ λ e. tt
      | false ↦ λ e. record { problem = problem; language = language; is_problem = p; is_language = l; complete = complete; new_key = k; takes = t; room = e; is = refl }
    ] in
    let new : own.standing ≡ None → (takes : Bool) → takes_submissions f now ≡ takes
    → IfTaken f now team own w (if not takes then Err NotOpen else (if nat_le TEAM_SUBMISSIONS own.count then Err TeamLimit else Ok (Add (next_submission now team own problem language w)))) = λ k. elim [
      | true ↦ λ t. room k t (nat_le TEAM_SUBMISSIONS own.count) refl
      | false ↦ λ t. tt
    ] in
    let go : (o : Option Submission) → own.standing ≡ o → IfTaken f now team own w (elim o as (λ _. Decided) [ (Some s) ↦ repeated s problem language w | None ↦ fresh f now team own problem language w ]) = elim [
      | (Some s) ↦ λ k. on s k (asks_the_same s problem language w) refl
      | None ↦ λ k. new k (takes_submissions f now) refl
    ] in
    go own.standing refl

-- what is decided says where it comes from
pub decided : (f : FixedPart) (now team : ℕ) (own : OwnSoFar) (w : WantedSubmission) → IfTaken f now team own w (submit f now team own w)
decided f now team own w =
    let complete : (problem language : ℕ) → place_of w.problem (problem_ids f) ≡ Some problem → place_of w.language (language_ids f) ≡ Some language → (lacks : Bool) → lacks_entry_point f language w.entry_point ≡ lacks
    → IfTaken f now team own w (if lacks then Err EntryPointMissing else submit_to f now team own problem language w) =
    λ problem language p l. elim [ true ↦ λ e. tt | false ↦ λ e. taken_to f now team own w problem language p l e ] in
    let spoken : (problem : ℕ) → place_of w.problem (problem_ids f) ≡ Some problem → (o : Option ℕ) → place_of w.language (language_ids f) ≡ o
    → IfTaken f now team own w (elim o as (λ _. Decided) [ None ↦ Err UnknownReference | (Some language) ↦ if lacks_entry_point f language w.entry_point then Err EntryPointMissing else submit_to f now team own problem language w ]) =
    λ problem p. elim [ None ↦ λ l. tt | (Some language) ↦ λ l. complete problem language p l (lacks_entry_point f language w.entry_point) refl ] in
    let go : (o : Option ℕ) → place_of w.problem (problem_ids f) ≡ o
    → IfTaken f now team own w (elim o as (λ _. Decided) [ None ↦ Err UnknownReference | (Some problem) ↦ elim (place_of w.language (language_ids f)) as (λ _. Decided) [ None ↦ Err UnknownReference | (Some language) ↦ if lacks_entry_point f language w.entry_point then Err EntryPointMissing else submit_to f now team own problem language w ] ]) =
    elim [ None ↦ λ p. tt | (Some problem) ↦ λ p. spoken problem p (place_of w.language (language_ids f)) refl ] in
    go (place_of w.problem (problem_ids f)) refl

pub taken : (f : FixedPart) (now team : ℕ) (own : OwnSoFar) (w : WantedSubmission) (s : Submission) → submit f now team own w ≡ Ok (Add s) → Taken f now team own w s
taken f now team own w s is = subst (IfTaken f now team own w) is (decided f now team own w)

-- the contest has begun, and it hasn't ended
running : (started ended none : Bool) → (is_running (if not started then phase.Before else (if ended then phase.Ended else phase.Running)) && none) ≡ true
    → (started ≡ true) × (ended ≡ false)
running true false none h = (refl, refl)
running true true none h = absurd (false≢true h)
running false ended none h = absurd (false≢true h)

reached_on : (moment : Option ℕ) (a b : ℕ) → a ≤ b → reached moment a ≡ true → reached moment b ≡ true
reached_on None a b l h = h
reached_on (Some m) a b l h = grind (arith, nat_tests, l, h)

-- the later of the two is one of them, and not before now
from_now : (last : Option ℕ) (now : ℕ) → now ≤ later last now
from_now None now = omega arith
from_now (Some last) now =
    let go : (b : Bool) → nat_lt now last ≡ b → now ≤ (if b then last else now) = elim [ true ↦ λ e. grind (arith, nat_tests, e) | false ↦ λ e. omega arith ] in
    go (nat_lt now last) refl

later_passes : (test : ℕ → Bool) (last : Option ℕ) (now : ℕ) → test now ≡ true → IfSome last (λ t. test t ≡ true) → test (later last now) ≡ true
later_passes test None now h l = h
later_passes test (Some last) now h l =
    let go : (b : Bool) → test (if b then last else now) ≡ true = elim [ true ↦ l | false ↦ h ] in
    go (nat_lt now last)

-- the last of a list
abbrev last_of : {X : Type 0} → List X → Option X
last_of xs = slice_get xs (length xs - 1)

last_more : {X : Type 0} (x y : X) (ys : List X) → last_of (x ∷ y ∷ ys) ≡ last_of (y ∷ ys)
last_more x y ys = let e : length (x ∷ y ∷ ys) - 1 ≡ suc (length (y ∷ ys) - 1) = omega arith in rw e refl

last_passes : {X : Type 0} (p : X → Bool) (xs : List X) → list_all p xs ≡ true → IfSome (last_of xs) (λ x. p x ≡ true)
last_passes p [] h = tt
last_passes p (x ∷ []) h = and_left (p x) _ h
last_passes p (x ∷ y ∷ ys) h = rw (last_more x y ys) (last_passes p (y ∷ ys) (and_right (p x) _ h))

some_map : {X Y : Type 0} (f : X → Y) (P : Y → Type 0) (o : Option X) → IfSome o (λ x. P (f x)) → IfSome (option_map f o) P
some_map f P None h = h
some_map f P (Some x) h = h

-- none of times that never fall is past the last
none_past : (ts : List ℕ) (t : ℕ) → never_fall ts ≡ true → IfSome (last_of ts) (λ u. u ≤ t) → list_all (λ u. nat_le u t) ts ≡ true
none_past [] t h l = refl
none_past (u ∷ []) t h l = both_true _ _ (le-leb u t l) refl
none_past (u ∷ v ∷ ts) t h l =
    let rest = none_past (v ∷ ts) t (and_right (list_all (nat_le u) (v ∷ ts)) _ h) (rw (last_more u v ts) at l) in
    let first : nat_le u v ≡ true = and_left (nat_le u v) _ (and_left (list_all (nat_le u) (v ∷ ts)) _ h) in
    let second : nat_le v t ≡ true = and_left (nat_le v t) _ rest in
    both_true _ _ (grind (arith, nat_tests, first, second)) rest

not_after : (last : Option ℕ) (now : ℕ) → IfSome last (λ t. t ≤ later last now)
not_after None now = tt
not_after (Some last) now =
    let go : (b : Bool) → nat_lt now last ≡ b → last ≤ (if b then last else now) = elim [ true ↦ λ e. omega arith | false ↦ λ e. grind (arith, nat_tests, e) ] in
    go (nat_lt now last) refl

-- a key that stands nowhere is new
keyless : (key : List ℕ) (own : List Submission) → find (has_key key) own ≡ None → is_among (filter_map (λ k. k) (map (λ (s : Submission). s.key) own)) key ≡ false
keyless key [] h = refl
keyless key (s ∷ own) h =
    let go : (k : Option (List ℕ)) → s.key ≡ k → is_among (filter_map (λ k. k) (k ∷ map (λ (t : Submission). t.key) own)) key ≡ false =
    elim [
      | None ↦ λ e. keyless key own (rw e at h)
      | (Some k) ↦ λ e. (let with : (r : Submission) (b : Bool) → bytes_eq k key ≡ b → cond b (Some r) (find (has_key key) own) ≡ None → is_among (k ∷ filter_map (λ k. k) (map (λ (t : Submission). t.key) own)) key ≡ false =
          λ r. elim [ true ↦ λ same none. absurd (cc none) | false ↦ λ other none. (rw other (keyless key own none)) ] in
          with _ (bytes_eq k key) refl (rw e at h))
    ] in
    go s.key refl

new_key : (key : Option (List ℕ)) (own : List Submission) → standing_under key own ≡ None → is_new_key (map (λ (s : Submission). s.key) own) key ≡ true
new_key None own h = refl
new_key (Some key) own h = let none = keyless key own h in rw none refl

not_full : (n : ℕ) → nat_le TEAM_SUBMISSIONS n ≡ false → nat_lt n TEAM_SUBMISSIONS ≡ true
not_full n h = grind (arith, nat_tests, h)

-- no valid submission is at the end
early : (f : FixedPart) (s : Submission) → is_valid_submission f s ≡ true → not (reached (end_of f.settings f.marks) s.time) ≡ true
early f s h =
    and_right (nat_lt s.team (length f.settings.teams) && nat_lt s.problem (length f.settings.problems) && nat_lt s.language (length f.settings.languages) && reached f.marks.start s.time)
    (not (reached (end_of f.settings f.marks) s.time)) (and_left _ (nat_le (length s.file) POSTED_FILE) h)

-- the last time is the time of the last
last_time : (own : List Submission) → last_of (map (λ (s : Submission). s.time) own) ≡ option_map (λ (s : Submission). s.time) (last_of own)
last_time own =
    ap (λ n. slice_get (map (λ (s : Submission). s.time) own) (n - 1)) (length-map own (λ (s : Submission). s.time))
    ∙ slice_get-map (λ (s : Submission). s.time) own (length own - 1)

next_is_valid : (f : FixedPart) (now team problem language : ℕ) (own : List Submission) (w : WantedSubmission)
    → team < length f.settings.teams → problem < length f.settings.problems → language < length f.settings.languages
    → length w.file ≤ POSTED_FILE → takes_submissions f now ≡ true → list_all (is_valid_submission f) own ≡ true
    → is_valid_submission f (next_submission now team (so_far w.key own) problem language w) ≡ true
next_is_valid f now team problem language own w t p l small takes valid =
    let end = end_of f.settings f.marks in
    let last = option_map (λ (s : Submission). s.time) (last_of own) in
    let r = running (reached f.marks.start now) (reached end now) _ takes in
    let before : not (reached end now) ≡ true = rw r.1 refl in
    let all : list_all (λ (s : Submission). not (reached end s.time)) own ≡ true = all_wider (is_valid_submission f) (λ (s : Submission). not (reached end s.time)) (early f) own valid in
    let lasts : IfSome last (λ u. not (reached end u) ≡ true) = some_map (λ (s : Submission). s.time) (λ u. not (reached end u) ≡ true) (last_of own) (last_passes (λ (s : Submission). not (reached end s.time)) own all) in
    all_six _ _ _ _ _ _ (lt-ltb _ _ t) (lt-ltb _ _ p) (lt-ltb _ _ l) (reached_on f.marks.start now (later last now) (from_now last now) r.0)
    (later_passes (λ u. not (reached end u)) last now before lasts) (le-leb _ _ small)

next_follows : (now team problem language : ℕ) (own : List Submission) (w : WantedSubmission)
    → never_fall (map (λ (s : Submission). s.time) own) ≡ true → standing_under w.key own ≡ None → nat_le TEAM_SUBMISSIONS (length own) ≡ false
    → is_next_submission own (next_submission now team (so_far w.key own) problem language w) ≡ true
next_follows now team problem language own w falls new room =
    let times = map (λ (s : Submission). s.time) own in
    let last = option_map (λ (s : Submission). s.time) (last_of own) in
    let past : IfSome (last_of times) (λ u. u ≤ later last now) = subst (λ o. IfSome o (λ u. u ≤ later last now)) (sym (last_time own)) (not_after last now) in
    let none : list_all (λ u. nat_le u (later last now)) times ≡ true = none_past times (later last now) falls past in
    let each : list_all (λ (s : Submission). nat_le s.time (later last now)) own ≡ true = sym (list_all-map (λ u. nat_le u (later last now)) (λ (s : Submission). s.time) own) ∙ none in
    all_four _ _ _ _ (eq-eqb (length own + 1) (length own + 1) refl) each (new_key w.key own new) (not_full (length own) room)

pub submitted_is_addable : (x : ContestState) (now team : ℕ) (w : WantedSubmission) (s : Submission) → is_valid x ≡ true
    → team < length x.fixed.settings.teams → length w.file ≤ POSTED_FILE
    → submit x.fixed now team (so_far w.key (submissions_of team x.submissions)) w ≡ Ok (Add s) → is_addable x (NewSubmission s) ≡ true
submitted_is_addable x now team w s valid there small e =
    let f = x.fixed in
    let own = submissions_of team x.submissions in
    let t = taken f now team (so_far w.key own) w s e in
    let n = next_submission now team (so_far w.key own) t.problem t.language w in
    let lists = (parts x valid).submissions in
    let rows = all_filtered (is_valid_submission f) (λ (r : Submission). r.team == team) x.submissions (and_left (list_all (is_valid_submission f) x.submissions) _ lists) in
    let series : are_valid_submissions own ≡ true = in_any of_one_team are_valid_submissions one_team refl x.submissions n (and_right (list_all (is_valid_submission f) x.submissions) _ lists) in
    let falls = (four (count_up (map (λ (r : Submission). r.number) own)) (never_fall (map (λ (r : Submission). r.time) own)) _ _ series).second in
    let problem : t.problem < length f.settings.problems = place_within (λ (p : Problem). p.id) w.problem f.settings.problems t.problem t.is_problem in
    let language : t.language < length f.settings.languages = place_within (λ (l : Language). l.id) w.language f.settings.languages t.language t.is_language in
    let stands : is_addable x (NewSubmission n) ≡ true =
    both_true _ _ (next_is_valid f now team t.problem t.language own w there problem language small t.takes rows) (next_follows now team t.problem t.language own w falls t.new_key t.room) in
    subst (λ r. is_addable x (NewSubmission r) ≡ true) (sym t.is) stands
