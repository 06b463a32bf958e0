-- Nothing that is read of the jury's feed is at fault.
use Rattle.std.proofs.Common.{◌≡◌, ◌∙◌, ◌≤◌, ◌<◌, ◌+◌, ℕ, suc, Bool, true, false, List, [], ◌∷◌, ◌++◌, Some, None, length, map, filter, inl, inr, refl, sym, ap, subst, arith, append_assoc, length-append}
use Rattle.std.specs.Prelude.{◌&&◌, ◌||◌, nat_le, nat_lt, not, if◌then◌else◌}
use Rattle.std.specs.List.{list_any, position_from}
use Rattle.std.specs.Str.{bytes_eq}
use Rattle.std.proofs.Math.ListN.{drop_of_length-le}
use Rattle.std.proofs.lemmas.Bool.{and_parts, cases_Bool, not-true}
use Rattle.std.proofs.lemmas.Bool.Decides.{nat_tests}
use Rattle.std.proofs.lemmas.List.{map-append}
use Rattle.contest_types.specs.Order.{Has}
use Rattle.contest_types.specs.Places.{are_different, is_among}
use Rattle.contest_types.specs.declared.limits.TheConstants.{GROUPS, JUDGEMENT_TYPES, PROBLEMS, TEAMS, TEAM_SUBMISSIONS}
use Rattle.contest_types.specs.declared.refusal.Cause.TheVariants.{TableFull}
use Rattle.contest_types.proofs.PlaceLemmas.{bytes_same, differs, or_left, or_right, same_bytes}
use Rattle.contest_feed_reader.specs.FeedTypes.{JudgementRead, ProblemRead, RowRead, SubmissionRead, TablesRead}
use Rattle.contest_feed_reader.specs.References.{counted, counts, first_fault, full_faults, ids_of, judgement_faults, problem_faults, submission_fault, submission_faults, verdict_fault}
use Rattle.contest_round_trip.proofs.CollectionsBack.{made_ids}
use Rattle.contest_round_trip.proofs.HeardEvents.{Made, rows_from}

-- ---- rows of what was made

pub ids_rows : {A : Type 0} (n : ℕ) (ms : List (Made A)) → ids_of (rows_from n ms) ≡ made_ids ms
ids_rows n [] = refl
ids_rows n (m ∷ ms) = ap (λ is. m.item.id ∷ is) (ids_rows (n + 1) ms)

pub objects_rows : {A : Type 0} (n : ℕ) (ms : List (Made A)) → map (λ (r : RowRead A). r.object) (rows_from n ms) ≡ map (λ m. m.object) ms
objects_rows n [] = refl
objects_rows n (m ∷ ms) = ap (λ os. m.object ∷ os) (objects_rows (n + 1) ms)

pub length_rows : {A : Type 0} (n : ℕ) (ms : List (Made A)) → length (rows_from n ms) ≡ length ms
length_rows n [] = refl
length_rows n (m ∷ ms) = ap suc (length_rows (n + 1) ms)

-- each row is of one that was made
pub row_of : {A : Type 0} (n : ℕ) (ms : List (Made A)) (r : RowRead A) → Has (rows_from n ms) r → (m : Made A) × Has ms m × (r.id ≡ m.item.id) × (r.object ≡ m.object)
row_of n [] r h = absurd h
row_of {A} n (m ∷ ms) r h = elim h [
  | inl here ↦ (m, inl refl, ap (λ (q : RowRead A). q.id) here, ap (λ (q : RowRead A). q.object) here)
  | inr later ↦ (let found = row_of (n + 1) ms r later in (found.0, inr found.1, found.2, found.3))
]

-- a text that has a place is one of these
pub placed_among : (text : List ℕ) (a : ℕ) (texts : List (List ℕ)) (k : ℕ) → position_from (bytes_eq text) a texts ≡ Some k → is_among texts text ≡ true
placed_among text a [] k e = absurd (cc e)
placed_among text a (t ∷ texts) k e = elim (cases_Bool (bytes_eq text t)) [
  | inl here ↦ (let same : bytes_eq t text ≡ true = ap (bytes_eq t) (same_bytes text t here) ∙ bytes_same t in rw same refl)
  | inr other ↦ (let rest = placed_among text (a + 1) texts k (rw other at e) in or_true (bytes_eq t text) (is_among texts text) rest)
]
  where
    or_true : (b c : Bool) → c ≡ true → (b || c) ≡ true
    or_true true c f = refl
    or_true false c f = f

-- ---- tables that aren't too long

full_none : {A : Type 0} (most : ℕ) (rows : List (RowRead A)) → length rows ≤ most → full_faults most rows ≡ []
full_none most rows h = ap (map (λ row. (row.line, TableFull))) (drop_of_length-le rows h)

-- ---- labels

abbrev labels : List (RowRead ProblemRead) → List (List ℕ)
labels rows = map (λ row. row.object.label) rows

none_among : (q : RowRead ProblemRead → Bool) (rows : List (RowRead ProblemRead)) (label : List ℕ) → is_among (labels rows) label ≡ false → list_any (λ other. bytes_eq other.object.label label && q other) rows ≡ false
none_among q [] label e = refl
none_among q (r ∷ rows) label e =
    rw (or_left (bytes_eq r.object.label label) (is_among (labels rows) label) e) (none_among q rows label (or_right (bytes_eq r.object.label label) (is_among (labels rows) label) e))

-- of texts that differ none stands before or behind itself
differ_at : (before : List (List ℕ)) (x : List ℕ) (after : List (List ℕ)) → are_different (before ++ x ∷ after) ≡ true → (is_among before x ≡ false) × (is_among after x ≡ false)
differ_at [] x after e = (refl, not-true (is_among after x) (and_parts (not (is_among after x)) (are_different after) e).0)
differ_at (y ∷ before) x after e =
    let parts = and_parts (not (is_among (before ++ x ∷ after) y)) (are_different (before ++ x ∷ after)) e in
    let rest = differ_at before x after parts.1 in
    let off : bytes_eq y x ≡ false = unlike before (not-true (is_among (before ++ x ∷ after) y) parts.0) in
    (rw off rest.0, rest.1)
  where
    flip : (a b : List ℕ) → bytes_eq a b ≡ false → bytes_eq b a ≡ false
    flip a b f = differs a b f

    unlike : (xs : List (List ℕ)) → is_among (xs ++ x ∷ after) y ≡ false → bytes_eq y x ≡ false
    unlike [] f = flip x y (or_left (bytes_eq x y) (is_among after y) f)
    unlike (z ∷ xs) f = unlike xs (or_right (bytes_eq z y) (is_among (xs ++ x ∷ after) y) f)

no_problem_fault : (before rows : List (RowRead ProblemRead)) → are_different (labels (before ++ rows)) ≡ true → length (before ++ rows) ≤ PROBLEMS → problem_faults before rows ≡ []
no_problem_fault before [] e few = refl
no_problem_fault before (row ∷ rows) e few =
    let apart = differ_at (labels before) row.object.label (labels rows) (ap are_different (sym (map-append (λ (r : RowRead ProblemRead). r.object.label) before (row ∷ rows))) ∙ e) in
    let front = none_among (λ other. nat_le other.line row.line) before row.object.label apart.0 in
    let back = none_among (λ other. nat_lt other.line row.line) rows row.object.label apart.1 in
    let long = length-append before (row ∷ rows) in
    let short : length before < PROBLEMS = omega (arith, few, long) in
    let room : nat_le PROBLEMS (length before) ≡ false = grind (arith, nat_tests, short) in
    let shift = append_assoc before (row ∷ []) rows in
    let rest = no_problem_fault (before ++ row ∷ []) rows (ap (λ rs. are_different (labels rs)) shift ∙ e) (omega (arith, few, ap length shift)) in
    rw (front, back, room) rest

-- ---- submissions

abbrev of_team : (team : List ℕ) → RowRead SubmissionRead → Bool
of_team team row = bytes_eq row.object.team team

counted_few : (duration : ℕ) (team : List ℕ) (rows : List (RowRead SubmissionRead)) → counted duration team rows ≤ length (filter (of_team team) rows)
counted_few duration team [] = omega arith
counted_few duration team (r ∷ rows) =
    let rest = counted_few duration team rows in
    let kept = filter (λ (row : RowRead SubmissionRead). counts duration row && bytes_eq row.object.team team) rows in
    let own = filter (of_team team) rows in
    let go : (a b : Bool) → length (if a && b then r ∷ kept else kept) ≤ length (if b then r ∷ own else own) = λ a b. two a b kept own rest in
    go (counts duration r) (of_team team r)
  where
    two : (a b : Bool) (kept own : List (RowRead SubmissionRead)) → length kept ≤ length own → length (if a && b then r ∷ kept else kept) ≤ length (if b then r ∷ own else own)
    two true true kept own h = omega (arith, h)
    two true false kept own h = h
    two false true kept own h = omega (arith, h)
    two false false kept own h = h

filter_parts : (team : List ℕ) (before : List (RowRead SubmissionRead)) (row : RowRead SubmissionRead) (rows : List (RowRead SubmissionRead)) → of_team team row ≡ true
    → length (filter (of_team team) before) < length (filter (of_team team) (before ++ row ∷ rows))
filter_parts team [] row rows e = rw e (omega arith)
filter_parts team (b ∷ before) row rows e =
    let rest = filter_parts team before row rows e in
    go (of_team team b) (filter (of_team team) before) (filter (of_team team) (before ++ row ∷ rows)) rest
  where
    go : (t : Bool) (xs ys : List (RowRead SubmissionRead)) → length xs < length ys → length (if t then b ∷ xs else xs) < length (if t then b ∷ ys else ys)
    go true xs ys h = omega (arith, h)
    go false xs ys h = h

-- a submission refers to what stands, and its team has few
pub record IsSound (teams problems : List (List ℕ)) (all : List (RowRead SubmissionRead)) (row : RowRead SubmissionRead) : Type 0 where
  pub team : is_among teams row.object.team ≡ true
  pub problem : is_among problems row.object.problem ≡ true
  pub few : length (filter (λ r. bytes_eq r.object.team row.object.team) all) ≤ TEAM_SUBMISSIONS

no_submission_fault : (duration : ℕ) (teams problems : List (List ℕ)) (all before rows : List (RowRead SubmissionRead)) → before ++ rows ≡ all → ((r : RowRead SubmissionRead) → Has rows r → IsSound teams problems all r)
    → submission_faults duration teams problems before rows ≡ []
no_submission_fault duration teams problems all before [] whole sound = refl
no_submission_fault duration teams problems all before (row ∷ rows) whole sound =
    let r = sound row (inl refl) in
    let team = row.object.team in
    let less = filter_parts team before row rows (bytes_same team) in
    let total : length (filter (of_team team) (before ++ row ∷ rows)) ≤ TEAM_SUBMISSIONS = subst (λ rs. length (filter (of_team team) rs) ≤ TEAM_SUBMISSIONS) (sym whole) r.few in
    let short : counted duration team before < TEAM_SUBMISSIONS = omega (arith, less, total, counted_few duration team before) in
    let room : nat_le TEAM_SUBMISSIONS (counted duration team before) ≡ false = grind (arith, nat_tests, short) in
    let none : submission_fault duration teams problems before row ≡ None = rw (r.team, r.problem, room) (never (counts duration row)) in
    let rest = no_submission_fault duration teams problems all (before ++ row ∷ []) rows (append_assoc before (row ∷ []) rows ∙ whole) (λ q k. sound q (inr k)) in
    rw none rest
  where
    never : (b : Bool) → (if b && false then Some TableFull else None) ≡ None
    never true = refl
    never false = refl

-- ---- judgements

no_judgement_fault : (types : List (List ℕ)) (rows : List (RowRead JudgementRead)) → ((r : RowRead JudgementRead) → Has rows r → verdict_fault types r.object.verdict ≡ None) → judgement_faults types rows ≡ []
no_judgement_fault types [] h = refl
no_judgement_fault types (r ∷ rows) h = rw (h r (inl refl)) (no_judgement_fault types rows (λ q k. h q (inr k)))

-- ---- all collections

pub record IsFaultless (duration : ℕ) (t : TablesRead) : Type 0 where
  pub types : length t.types ≤ JUDGEMENT_TYPES
  pub labels : are_different (map (λ row. row.object.label) t.problems) ≡ true
  pub problems : length t.problems ≤ PROBLEMS
  pub groups : length t.groups ≤ GROUPS
  pub teams : length t.teams ≤ TEAMS
  pub submissions : (r : RowRead SubmissionRead) → Has t.submissions r → IsSound (ids_of t.teams) (ids_of t.problems) t.submissions r
  pub judgements : (r : RowRead JudgementRead) → Has t.judgements r → verdict_fault (ids_of t.types) r.object.verdict ≡ None

pub faultless : (duration : ℕ) (t : TablesRead) → IsFaultless duration t → first_fault duration t ≡ None
faultless duration t h =
    rw (
      full_none JUDGEMENT_TYPES t.types h.types,
      no_problem_fault [] t.problems h.labels h.problems,
      full_none GROUPS t.groups h.groups,
      full_none TEAMS t.teams h.teams,
      no_submission_fault duration (ids_of t.teams) (ids_of t.problems) t.submissions [] t.submissions refl h.submissions,
      no_judgement_fault (ids_of t.types) t.judgements h.judgements,
    ) refl
