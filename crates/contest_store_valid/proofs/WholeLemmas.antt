-- A contest beside its parts: the fixed part beside the rows, and the lists beside the files.
use Rattle.std.proofs.Common.{◌≡◌, ℕ, Bool, true, false, List, [], ◌∷◌, length, map, filter, refl, sym, ◌∙◌, ap}
use Rattle.std.specs.Prelude.{◌&&◌, ◌||◌, ◌==◌, nat_le, nat_lt, not, is_some, IfOk, Result, Ok, Err, if◌then◌else◌}
use Rattle.std.specs.List.{list_all}
use Rattle.std.specs.Option.{option_map_or}
use Rattle.std.proofs.lemmas.List.{length-map}
use Rattle.std.proofs.lemmas.List.Folds.{list_all-map}
use Rattle.std.proofs.Math.Bool.{and-false}
use Rattle.contest_lists.specs.Lists.{loaded, with_submissions}
use Rattle.contest_types.specs.Clock.{reached, end_of}
use Rattle.contest_types.specs.Loads.{without_file}
use Rattle.contest_types.specs.MomentText.{latest}
use Rattle.contest_types.specs.Series.{in_each}
use Rattle.contest_types.specs.State.{FixedPart, ContestState, names, of_submission}
use Rattle.contest_types.specs.Valid.{is_valid}
use Rattle.contest_types.specs.ValidFixed.{has_valid_settings, has_valid_clock, has_valid_accounts}
use Rattle.contest_types.specs.ValidSubmissions.{is_valid_submission, of_one_team, are_valid_submissions, has_valid_submissions, has_submission, is_there, for_one_submission, are_valid_proposals, on_one_submission, are_valid_releases, is_valid_proposal, has_valid_proposals, is_valid_release, has_valid_releases}
use Rattle.contest_types.specs.ValidClarifications.{has_valid_clarifications}
use Rattle.contest_types.specs.ValidRejudgings.{has_valid_rejudgings}
use Rattle.contest_types.specs.declared.limits.TheConstants.{POSTED_FILE}
use Rattle.contest_types.specs.declared.submission.Submission.{Submission}
use Rattle.contest_store_valid.specs.Files.{has_small_files}
use Rattle.contest_store_valid.proofs.StepLemmas.{and_true, all_both}
use Rattle.contest_store_valid.proofs.PairLemmas.{all_same, any_mapped}

-- without rows a start isn't needed
start_needed : (settings end accounts start none : Bool) → ((settings && (end && (start || true)) && accounts && true && true && true && true && true) && (start || none)) ≡ (settings && (end && (start || none)) && accounts)
start_needed true true true true none = refl
start_needed true true true false none = and_true none
start_needed true true false true none = refl
start_needed true true false false none = sym (and-false none)
start_needed true false accounts start none = refl
start_needed false end accounts start none = refl

abbrev pub may_have_rows : ContestState → Bool
may_have_rows x = is_some x.fixed.marks.start || (length x.submissions == 0) && (length x.clarifications == 0)

pub fixed_beside_rows : (x : ContestState) (fixed : FixedPart) (bare rows : Bool) → fixed ≡ x.fixed → bare ≡ is_valid (with_submissions fixed []) → rows ≡ may_have_rows x
    → (bare && rows) ≡ (has_valid_settings x && has_valid_clock x && has_valid_accounts x)
fixed_beside_rows x fixed bare rows f b r =
    rw (b, r, f)
    (start_needed (has_valid_settings x) (option_map_or (λ end. nat_le end latest) (end_of x.fixed.settings x.fixed.marks) true) (has_valid_accounts x) (is_some x.fixed.marks.start) ((length x.submissions == 0) && (length x.clarifications == 0)))

mapped_filter : {X Y : Type 0} (p : Y → Bool) (f : X → Y) (xs : List X) → filter p (map f xs) ≡ map f (filter (λ x. p (f x)) xs)
mapped_filter p f [] = refl
mapped_filter {X} {Y} p f (x ∷ xs) =
    let rest = mapped_filter p f xs in
    let go : (b : Bool) → (if b then f x ∷ filter p (map f xs) else filter p (map f xs)) ≡ map f (if b then x ∷ filter (λ y. p (f y)) xs else filter (λ y. p (f y)) xs) =
    elim [ true ↦ ap (λ ys. f x ∷ ys) rest | false ↦ rest ] in
    go (p (f x))

mapped_twice : {X Y Z : Type 0} (f : X → Y) (g : Y → Z) (xs : List X) → map g (map f xs) ≡ map (λ x. g (f x)) xs
mapped_twice f g [] = refl
mapped_twice f g (x ∷ xs) = ap (λ ys. g (f x) ∷ ys) (mapped_twice f g xs)

-- a team's submissions are tested without their files
series_unfiled : (own : List Submission) → are_valid_submissions (map without_file own) ≡ are_valid_submissions own
series_unfiled own =
    rw (mapped_twice without_file (λ (s : Submission). s.number) own, mapped_twice without_file (λ (s : Submission). s.time) own, mapped_twice without_file (λ (s : Submission). s.key) own, length-map own without_file) refl

each_unfiled : (ss : List Submission) → in_each of_one_team are_valid_submissions (map without_file ss) ≡ in_each of_one_team are_valid_submissions ss
each_unfiled ss =
    let own : (s : Submission) → are_valid_submissions (filter (of_one_team (without_file s)) (map without_file ss)) ≡ are_valid_submissions (filter (of_one_team s) ss) =
    λ s. ap are_valid_submissions (mapped_filter (of_one_team (without_file s)) without_file ss) ∙ series_unfiled (filter (of_one_team s) ss) in
    list_all-map (λ s. are_valid_submissions (filter (of_one_team s) (map without_file ss))) without_file ss
    ∙ all_same (λ s. are_valid_submissions (filter (of_one_team (without_file s)) (map without_file ss))) (λ s. are_valid_submissions (filter (of_one_team s) ss)) own ss

-- what a submission names, whatever its file
abbrev is_named : FixedPart → Submission → Bool
is_named f s =
    nat_lt s.team (length f.settings.teams) && nat_lt s.problem (length f.settings.problems) && nat_lt s.language (length f.settings.languages)
    && reached f.marks.start s.time && not (reached (end_of f.settings f.marks) s.time)

alone_unfiled : (f : FixedPart) (ss : List Submission)
    → list_all (is_valid_submission f) ss ≡ (list_all (is_valid_submission f) (map without_file ss) && list_all (λ (s : Submission). nat_le (length s.file) POSTED_FILE) ss)
alone_unfiled f ss =
    let small : Submission → Bool = λ s. nat_le (length s.file) POSTED_FILE in
    let bare : list_all (is_valid_submission f) (map without_file ss) ≡ list_all (is_named f) ss =
    list_all-map (is_valid_submission f) without_file ss ∙ all_same (λ s. is_valid_submission f (without_file s)) (is_named f) (λ s. sym (and_true (is_named f s))) ss in
    all_both (is_named f) small ss ∙ ap (λ b. b && list_all small ss) (sym bare)

swap_last : (a b c : Bool) → ((a && b) && c) ≡ ((a && c) && b)
swap_last true true true = refl
swap_last true true false = refl
swap_last true false true = refl
swap_last true false false = refl
swap_last false b c = refl

submissions_unfiled : (x : ContestState) → has_valid_submissions x ≡ (has_valid_submissions (loaded x) && has_small_files x)
submissions_unfiled x =
    let alone = list_all (is_valid_submission x.fixed) (map without_file x.submissions) in
    let each = in_each of_one_team are_valid_submissions x.submissions in
    ap (λ b. b && each) (alone_unfiled x.fixed x.submissions)
    ∙ (swap_last alone (has_small_files x) each
    ∙ ap (λ b. (alone && b) && has_small_files x) (sym (each_unfiled x.submissions)))

there_unfiled : (x : ContestState) (team number : ℕ) → has_submission (loaded x) team number ≡ has_submission x team number
there_unfiled x team number = any_mapped (λ s. names team number (of_submission s)) without_file x.submissions

proposals_unfiled : (x : ContestState) → has_valid_proposals (loaded x) ≡ has_valid_proposals x
proposals_unfiled x =
    ap (λ b. b && in_each for_one_submission are_valid_proposals x.proposals)
    (all_same (is_valid_proposal (loaded x)) (is_valid_proposal x) (λ p. ap (λ b. b && nat_lt p.verdict (length x.fixed.settings.types) && is_there x.fixed p.proposer) (there_unfiled x p.team p.number)) x.proposals)

releases_unfiled : (x : ContestState) → has_valid_releases (loaded x) ≡ has_valid_releases x
releases_unfiled x =
    ap (λ b. b && in_each on_one_submission are_valid_releases x.releases)
    (all_same (is_valid_release (loaded x)) (is_valid_release x) (λ v. ap (λ b. b && nat_lt v.verdict (length x.fixed.settings.types)) (there_unfiled x v.team v.number)) x.releases)

clock_unfiled : (x : ContestState) → has_valid_clock (loaded x) ≡ has_valid_clock x
clock_unfiled x =
    ap (λ n. option_map_or (λ end. nat_le end latest) (end_of x.fixed.settings x.fixed.marks) true && (is_some x.fixed.marks.start || (n == 0) && (length x.clarifications == 0)))
    (length-map x.submissions without_file)

test_last : (t u small p r c j : Bool) → (t && (u && small) && p && r && c && j) ≡ ((t && u && p && r && c && j) && small)
test_last true true true p r c j = and_true (p && r && c && j)
test_last true true false p r c j = sym (and-false (p && r && c && j))
test_last true false small p r c j = refl
test_last false u small p r c j = refl

-- a contest is valid where its lists are, and none of its files is too large
pub valid_with_files : (x : ContestState) → is_valid x ≡ (is_valid (loaded x) && has_small_files x)
valid_with_files x =
    let y = loaded x in
    let fixed = has_valid_settings x && has_valid_clock x && has_valid_accounts x in
    let lists : (fixed && has_valid_submissions y && has_valid_proposals x && has_valid_releases x && has_valid_clarifications x && has_valid_rejudgings x) ≡ is_valid y =
    rw (sym (clock_unfiled x), sym (proposals_unfiled x), sym (releases_unfiled x)) refl in
    ap (λ b. fixed && b && has_valid_proposals x && has_valid_releases x && has_valid_clarifications x && has_valid_rejudgings x) (submissions_unfiled x)
    ∙ (test_last fixed (has_valid_submissions y) (has_small_files x) (has_valid_proposals x) (has_valid_releases x) (has_valid_clarifications x) (has_valid_rejudgings x)
    ∙ ap (λ b. b && has_small_files x) lists)

pub on_ok : {T E : Type 0} (P Q : T → Type 0) → ((v : T) → P v → Q v) → (r : Result T E) → IfOk r P → IfOk r Q
on_ok P Q f (Ok v) h = f v h
on_ok P Q f (Err e) h = tt

-- what is told of the lists, told of a contest with files
pub told_of_contest : (lists x : ContestState) (answer : Bool) → answer ≡ is_valid lists → loaded x ≡ lists → (answer && has_small_files x) ≡ is_valid x
told_of_contest lists x answer h e = ap (λ b. b && has_small_files x) (h ∙ ap is_valid (sym e)) ∙ sym (valid_with_files x)
