-- What is known of a feed in which nothing is at fault.
use Rattle.std.proofs.Common.{◌≡◌, ◌≤◌, ◌<◌, ◌+◌, ◌∙◌, ℕ, zero, suc, Bool, true, false, cond, List, [], ◌∷◌, ◌++◌, length, map, Option, Some, None, refl, sym, ap, subst, inl, inr, arith, length-append, append_assoc, append-nil}
use Rattle.std.specs.Prelude.{◌&&◌, fold, nat_le, nat_lt, not, if◌then◌else◌}
use Rattle.std.specs.List.{list_any}
use Rattle.std.specs.Str.{bytes_eq}
use Rattle.std.proofs.lemmas.Bool.{cases_Bool, false≢true, leb-false, le-leb, ltb-false}
use Rattle.contest_types.specs.Places.{are_different, is_among}
use Rattle.contest_types.specs.declared.limits.TheConstants.{JUDGEMENT_TYPES, PROBLEMS, GROUPS, TEAMS, TEAM_SUBMISSIONS}
use Rattle.contest_types.specs.declared.refusal.Cause.{Cause}
use Rattle.contest_types.specs.declared.refusal.Cause.TheVariants.{UnknownReference, KeyReused, TableFull}
use Rattle.contest_types.proofs.PlaceLemmas.{and_left, and_right, both_true, both_false, bytes_same, same_bytes, or_left, or_right}
use Rattle.contest_feed_reader.specs.EndedFeeds.{AreDifferent, Fits, tables_of}
use Rattle.contest_feed_reader.specs.References.{Fault, counted, counts, earlier, fault_by, faults_at, faults_in, first_fault, full_faults, ids_of, is_reused, judgement_faults, problem_fault, problem_faults, submission_fault, submission_faults}
use Rattle.contest_feed_reader.specs.declared.feed_rows.FeedRows.{FeedRows}
use Rattle.contest_feed_reader.specs.declared.objects.FeedProblem.{FeedProblem}
use Rattle.contest_feed_reader.specs.declared.row.Row.{Row}
use Rattle.contest_feed_reader.specs.declared.submissions.FeedSubmission.{FeedSubmission}
use Rattle.contest_feed_reader.specs.declared.tables.Tables.{Tables}
use Rattle.contest_feed_reader.proofs.FaultLemmas.{counted_more}

-- a first fault stays one
some_first : (first : Fault) (faults : List Fault) → fold earlier (Some first) faults ≡ None → ⊥
some_first first [] h = cc h
some_first first (f ∷ faults) h = some_first (if nat_lt f.0 first.0 then f else first) faults h

none_first : (faults : List Fault) → fold earlier None faults ≡ None → faults ≡ []
none_first [] h = refl
none_first (f ∷ faults) h = absurd (some_first f faults h)

left_nil : {A : Type 0} (xs ys : List A) → xs ++ ys ≡ [] → xs ≡ []
left_nil [] ys h = refl
left_nil (x ∷ xs) ys h = absurd (cc h)

right_nil : {A : Type 0} (xs ys : List A) → xs ++ ys ≡ [] → ys ≡ []
right_nil [] ys h = h
right_nil (x ∷ xs) ys h = absurd (cc h)

no_fault : (line : ℕ) (o : Option Cause) → faults_at line o ≡ [] → o ≡ None
no_fault line None h = refl
no_fault line (Some cause) h = absurd (cc h)

-- nothing of these collections is at fault
pub record NoFault (duration : ℕ) (t : Tables) : Type 0 where
  pub types : full_faults JUDGEMENT_TYPES t.types ≡ []
  pub problems : problem_faults [] t.problems ≡ []
  pub groups : full_faults GROUPS t.groups ≡ []
  pub teams : full_faults TEAMS t.teams ≡ []
  pub submissions : submission_faults duration (ids_of t.teams) (ids_of t.problems) [] t.submissions ≡ []
  pub judgements : judgement_faults (ids_of t.types) t.judgements ≡ []

pub nothing_at_fault : (duration : ℕ) (t : Tables) → first_fault duration t ≡ None → NoFault duration t
nothing_at_fault duration t h =
    let a = full_faults JUDGEMENT_TYPES t.types in
    let b = problem_faults [] t.problems in
    let c = full_faults GROUPS t.groups in
    let d = full_faults TEAMS t.teams in
    let e = submission_faults duration (ids_of t.teams) (ids_of t.problems) [] t.submissions in
    let f = judgement_faults (ids_of t.types) t.judgements in
    let all : a ++ b ++ c ++ d ++ e ++ f ≡ [] = none_first (faults_in duration t) h in
    let to_e = left_nil (a ++ b ++ c ++ d ++ e) f all in
    let to_d = left_nil (a ++ b ++ c ++ d) e to_e in
    let to_c = left_nil (a ++ b ++ c) d to_d in
    let to_b = left_nil (a ++ b) c to_c in
    record {
      types = left_nil a b to_b;
      problems = right_nil a b to_b;
      groups = right_nil (a ++ b) c to_c;
      teams = right_nil (a ++ b ++ c) d to_d;
      submissions = right_nil (a ++ b ++ c ++ d) e to_e;
      judgements = right_nil (a ++ b ++ c ++ d ++ e) f all;
    }

pub few_rows : {A : Type 0} (most : ℕ) (rows : List (Row A)) → full_faults most rows ≡ [] → length rows ≤ most
few_rows zero [] h = omega arith
few_rows zero (r ∷ rows) h = absurd (cc h)
few_rows (suc most) [] h = omega arith
few_rows (suc most) (r ∷ rows) h = let rest = few_rows most rows h in omega (arith, rest)

-- a problem that isn't at fault has a label of its own, and a place
no_reuse : (before : List (Row FeedProblem)) (row : Row FeedProblem) (after : List (Row FeedProblem)) → problem_fault before row after ≡ None → is_reused before row after ≡ false
no_reuse before row after h =
    let go : (b : Bool) (o : Option Cause) → (if b then Some KeyReused else o) ≡ None → b ≡ false = elim [ true ↦ λ o e. absurd (cc e) | false ↦ λ o e. refl ] in
    go (is_reused before row after) _ h

has_place : (before : List (Row FeedProblem)) (row : Row FeedProblem) (after : List (Row FeedProblem)) → problem_fault before row after ≡ None → length before < PROBLEMS
has_place before row after h =
    let go : (b c : Bool) → nat_le PROBLEMS (length before) ≡ c → (if b then Some KeyReused else (if c then Some TableFull else None)) ≡ None → length before < PROBLEMS = elim [
      | true ↦ λ c e k. absurd (cc k)
      | false ↦ elim [ true ↦ λ e k. absurd (cc k) | false ↦ λ e k. leb-false PROBLEMS (length before) e ]
    ] in
    go (is_reused before row after) (nat_le PROBLEMS (length before)) refl h

few_problems : (before rows : List (Row FeedProblem)) → problem_faults before rows ≡ [] → length before ≤ PROBLEMS → length before + length rows ≤ PROBLEMS
few_problems before [] h l = omega (arith, l)
few_problems before (row ∷ after) h l =
    let here = no_fault row.line (problem_fault before row after) (left_nil _ (problem_faults (before ++ row ∷ []) after) h) in
    let room = has_place before row after here in
    let more = length-append before (row ∷ []) in
    let rest = few_problems (before ++ row ∷ []) after (right_nil (faults_at row.line (problem_fault before row after)) _ h) (omega (arith, room, more)) in
    omega (arith, rest, more)

any_among : {A : Type 0} (p : A → Bool) (xs ys : List A) (x : A) → list_any p (xs ++ x ∷ ys) ≡ false → p x ≡ false
any_among p [] ys x h = or_left (p x) (list_any p ys) h
any_among p (y ∷ xs) ys x h = any_among p xs ys x (or_right (p y) _ h)

-- no problem after one has its label
later_differ : (xs ys : List (Row FeedProblem)) (row : Row FeedProblem) (after : List (Row FeedProblem)) → problem_faults (xs ++ row ∷ ys) after ≡ []
    → list_any (λ other. bytes_eq other.object.label row.object.label && nat_lt other.line row.line) after ≡ false → is_among (map (λ r. r.object.label) after) row.object.label ≡ false
later_differ xs ys row [] h k = refl
later_differ xs ys row (q ∷ after) h k =
    let before = xs ++ row ∷ ys in
    let here = no_fault q.line (problem_fault before q after) (left_nil _ (problem_faults (before ++ q ∷ []) after) h) in
    let reuse : is_reused before q after ≡ false = no_reuse before q after here in
    let at_row : (bytes_eq row.object.label q.object.label && nat_le row.line q.line) ≡ false = any_among (λ other. bytes_eq other.object.label q.object.label && nat_le other.line q.line) xs ys row (or_left _ _ reuse) in
    let first : (bytes_eq q.object.label row.object.label && nat_lt q.line row.line) ≡ false = or_left _ _ k in
    let regroup : before ++ q ∷ [] ≡ xs ++ row ∷ (ys ++ q ∷ []) = append_assoc xs (row ∷ ys) (q ∷ []) in
    let rest = later_differ xs (ys ++ q ∷ []) row after (subst (λ bs. problem_faults bs after ≡ []) regroup (right_nil (faults_at q.line (problem_fault before q after)) _ h)) (or_right (bytes_eq q.object.label row.object.label && nat_lt q.line row.line) _ k) in
    both_false _ _ (apart q.object.label row.object.label q.line row.line at_row first) rest
  where
    apart : (a b : List ℕ) (i j : ℕ) → (bytes_eq b a && nat_le j i) ≡ false → (bytes_eq a b && nat_lt i j) ≡ false → bytes_eq a b ≡ false
    apart a b i j e f = elim (cases_Bool (bytes_eq a b)) [
      | inl t ↦ (let same : bytes_eq b a ≡ true = subst (λ x. bytes_eq b x ≡ true) (sym (same_bytes a b t)) (bytes_same b) in
          let up : nat_lt i j ≡ false = sym (ap (λ x. x && nat_lt i j) t) ∙ f in
          let less : nat_le j i ≡ true = le-leb j i (ltb-false i j up) in
          absurd (false≢true (sym e ∙ both_true _ _ same less)))
      | inr g ↦ g
    ]

labels_differ : (before rows : List (Row FeedProblem)) → problem_faults before rows ≡ [] → are_different (map (λ r. r.object.label) rows) ≡ true
labels_differ before [] h = refl
labels_differ before (row ∷ after) h =
    let here = no_fault row.line (problem_fault before row after) (left_nil _ (problem_faults (before ++ row ∷ []) after) h) in
    let more = right_nil (faults_at row.line (problem_fault before row after)) _ h in
    let none = later_differ before [] row after more (or_right _ _ (no_reuse before row after here)) in
    both_true _ _ (ap not none) (labels_differ (before ++ row ∷ []) after more)

-- the settings have a place for each row
pub rows_fit : (duration : ℕ) (r : FeedRows) → AreDifferent r → first_fault duration (tables_of r) ≡ None → Fits r
rows_fit duration r d h =
    let n = nothing_at_fault duration (tables_of r) h in
    let problems = few_problems [] r.problems.items n.problems (omega arith) in
    record {
      different = d;
      labels = labels_differ [] r.problems.items n.problems;
      few_types = few_rows JUDGEMENT_TYPES r.types.items n.types;
      few_problems = omega (arith, problems);
      few_teams = few_rows TEAMS r.teams.items n.teams;
    }

-- a submission that isn't at fault has a place if it counts
not_full : (stand counts : Bool) (count : ℕ) → fault_by stand counts count ≡ None → counts ≡ true → count < TEAM_SUBMISSIONS
not_full stand counts count h on =
    let go : (s c f : Bool) → nat_le TEAM_SUBMISSIONS count ≡ f → c ≡ true → (if s then (if c && f then Some TableFull else None) else Some UnknownReference) ≡ None → count < TEAM_SUBMISSIONS = elim [
      | true ↦ elim [
        | true ↦ elim [ true ↦ λ e k m. absurd (cc m) | false ↦ λ e k m. leb-false TEAM_SUBMISSIONS count e ]
        | false ↦ λ f e k m. absurd (false≢true k)
      ]
      | false ↦ λ c f e k m. absurd (cc m)
    ] in
    go stand counts (nat_le TEAM_SUBMISSIONS count) refl on h

few_next : (duration : ℕ) (team : List ℕ) (before : List (Row FeedSubmission)) (row : Row FeedSubmission) → (counts duration row ≡ true → counted duration row.object.team before < TEAM_SUBMISSIONS) → counted duration team before ≤ TEAM_SUBMISSIONS
    → counted duration team (before ++ row ∷ []) ≤ TEAM_SUBMISSIONS
few_next duration team before row room few =
    let go : (b : Bool) → (counts duration row && bytes_eq row.object.team team) ≡ b → counted duration team before + cond b 1 0 ≤ TEAM_SUBMISSIONS = elim [
      | true ↦ λ e. (let here = room (and_left (counts duration row) _ e) in
          let same : row.object.team ≡ team = same_bytes row.object.team team (and_right (counts duration row) _ e) in
          let less = subst (λ t. counted duration t before < TEAM_SUBMISSIONS) same here in
          omega (arith, less))
      | false ↦ λ e. omega (arith, few)
    ] in
    rw (counted_more duration team before row) (go (counts duration row && bytes_eq row.object.team team) refl)

few_counted : (duration : ℕ) (teams problems : List (List ℕ)) (team : List ℕ) (before rows : List (Row FeedSubmission)) → submission_faults duration teams problems before rows ≡ [] → counted duration team before ≤ TEAM_SUBMISSIONS
    → counted duration team (before ++ rows) ≤ TEAM_SUBMISSIONS
few_counted duration teams problems team before [] h few = subst (λ rs. counted duration team rs ≤ TEAM_SUBMISSIONS) (sym (append-nil before)) few
few_counted duration teams problems team before (row ∷ rows) h few =
    let here = no_fault row.line (submission_fault duration teams problems before row) (left_nil _ (submission_faults duration teams problems (before ++ row ∷ []) rows) h) in
    let more = right_nil (faults_at row.line (submission_fault duration teams problems before row)) _ h in
    let next = few_next duration team before row (not_full (is_among teams row.object.team && is_among problems row.object.problem) (counts duration row) (counted duration row.object.team before) here) few in
    subst (λ rs. counted duration team rs ≤ TEAM_SUBMISSIONS) (append_assoc before (row ∷ []) rows) (few_counted duration teams problems team (before ++ row ∷ []) rows more next)

-- no team has too many submissions that count
pub team_few : (duration : ℕ) (t : Tables) → NoFault duration t → (team : List ℕ) → counted duration team t.submissions ≤ TEAM_SUBMISSIONS
team_few duration t n team = few_counted duration (ids_of t.teams) (ids_of t.problems) team [] t.submissions n.submissions (omega arith)
