-- A rejudging that is opened may be added.
use Rattle.std.proofs.Common.{◌≡◌, ◌∙◌, ◌≤◌, ℕ, Bool, true, false, List, [], ◌∷◌, ◌++◌, length, map, Option, Some, None, Result, Ok, Err, refl, sym, ap, subst, arith}
use Rattle.std.specs.Prelude.{◌&&◌, ◌||◌, ◌==◌, not, nat_le, nat_lt, find, is_some, if◌then◌else◌}
use Rattle.std.specs.List.{list_all, list_any}
use Rattle.std.specs.Option.{option_map, option_and_then}
use Rattle.std.specs.Str.{bytes_eq}
use Rattle.std.proofs.lemmas.Bool.{false≢true, eqb-true, not-true}
use Rattle.std.proofs.lemmas.Bool.Decides.{nat_tests}
use Rattle.std.proofs.lemmas.List.{length-map}
use Rattle.std.proofs.lemmas.Slice.Eq.{bytes_eq-Decides}
use Rattle.contest_types.specs.Addable.{is_addable}
use Rattle.contest_types.specs.Places.{are_different, is_among}
use Rattle.contest_types.specs.State.{ContestState, FixedPart, SubmissionRef, names, of_member, of_submission}
use Rattle.contest_types.specs.Valid.{is_valid}
use Rattle.contest_types.specs.ValidRejudgings.{are_different_members, is_released, is_same_member, is_valid_member, is_valid_rejudging, open_members}
use Rattle.contest_types.specs.VisibleIds.{submission_id}
use Rattle.contest_types.specs.declared.entry.Entry.TheVariants.{NewRejudging}
use Rattle.contest_types.specs.declared.limits.TheConstants.{REJUDGINGS, REJUDGING_MEMBERS}
use Rattle.contest_types.specs.declared.rejudging.Member.{Member}
use Rattle.contest_types.specs.declared.rejudging.Rejudging.{Rejudging}
use Rattle.contest_types.specs.declared.rejudging.RejudgingState.TheVariants.{Open}
use Rattle.contest_types.specs.declared.submission.Release.{Release}
use Rattle.contest_types.specs.declared.submission.Submission.{Submission}
use Rattle.contest_types.proofs.PlaceLemmas.{and_left, and_right, both_true, or_left, or_right, same_bytes}
use Rattle.contest_types.proofs.Rising.{find_passes}
use Rattle.contest_types.proofs.ValidParts.{parts}
use Rattle.contest_rules.specs.Laws.{OpenedIsAddable}
use Rattle.contest_types.specs.Options.{all_some}
use Rattle.contest_rules.specs.Opening.{are_released, candidate_of, is_any_rejudged, is_rejudged, member_of, open_named, opening_refusal}
use Rattle.contest_rules.specs.Verdicts.{submission_named}
use Rattle.contest_rules.specs.declared.candidates.Candidate.{Candidate}
use Rattle.contest_rules.specs.declared.opening.WantedRejudging.{WantedRejudging}
use Rattle.contest_rules.specs.declared.rule_refusal.RuleRefusal.{RuleRefusal}
use Rattle.contest_rules.specs.declared.rule_refusal.RuleRefusal.TheVariants.{InRejudging, NotOpen, RejudgingIncomplete, TeamLimit}

abbrev id_of : SubmissionRef → List ℕ
id_of s = submission_id s.team s.number

-- the submission that an id names has that id
named_id : (id : List ℕ) (ss : List Submission) (s : SubmissionRef) → submission_named id ss ≡ Some s → id_of s ≡ id
named_id id ss s h =
    let test : Submission → Bool = λ t. bytes_eq (submission_id t.team t.number) id in
    let go : (o : Option Submission) → find test ss ≡ o → option_map of_submission o ≡ Some s → id_of s ≡ id = elim [
      | None ↦ λ e k. absurd (cc k)
      | (Some t) ↦ λ e k. (let is : of_submission t ≡ s = cc k in
          subst (λ (r : SubmissionRef). id_of r ≡ id) is (same_bytes (submission_id t.team t.number) id (find_passes test ss t e)))
    ] in
    go (find test ss) refl h

-- so they have these ids, if all are there
all_named : (ids : List (List ℕ)) (ss : List Submission) (refs : List SubmissionRef) → all_some (map (λ id. submission_named id ss) ids) ≡ Some refs → map id_of refs ≡ ids
all_named [] ss refs h = let is : [] ≡ refs = cc h in ap (map id_of) (sym is)
all_named (id ∷ ids) ss refs h =
    let rest : Option (List SubmissionRef) = all_some (map (λ other. submission_named other ss) ids) in
    let second : (s : SubmissionRef) → submission_named id ss ≡ Some s → (p : Option (List SubmissionRef)) → rest ≡ p → option_map (λ more. s ∷ more) p ≡ Some refs → map id_of refs ≡ id ∷ ids = λ s named. elim [
      | None ↦ λ e k. absurd (cc k)
      | (Some more) ↦ λ e k. (let is : s ∷ more ≡ refs = cc k in
          ap (map id_of) (sym is) ∙ (ap (λ i. i ∷ map id_of more) (named_id id ss s named) ∙ ap (λ is. id ∷ is) (all_named ids ss more e)))
    ] in
    let go : (o : Option SubmissionRef) → submission_named id ss ≡ o → option_and_then (λ s. option_map (λ more. s ∷ more) rest) o ≡ Some refs → map id_of refs ≡ id ∷ ids = elim [
      | None ↦ λ e k. absurd (cc k)
      | (Some s) ↦ λ e k. second s e rest refl k
    ] in
    go (submission_named id ss) refl h

-- members of different submissions are different

one_of : (vs : List Release) (rs : List Rejudging) (s : SubmissionRef) (refs : List SubmissionRef) → is_among (map id_of refs) (id_of s) ≡ false
    → list_any (is_same_member (member_of (candidate_of vs rs s))) (map member_of (map (candidate_of vs rs) refs)) ≡ false
one_of vs rs s [] h = refl
one_of vs rs s (r ∷ refs) h =
    let first : bytes_eq (id_of r) (id_of s) ≡ false = or_left _ _ h in
    let rest = one_of vs rs s refs (or_right (bytes_eq (id_of r) (id_of s)) _ h) in
    let go : (b d : Bool) → (s.team == r.team) ≡ b → (s.number == r.number) ≡ d → ((b && d) || list_any (is_same_member (member_of (candidate_of vs rs s))) (map member_of (map (candidate_of vs rs) refs))) ≡ false = elim [
      | true ↦ elim [
        | true ↦ λ e k. (let team = eqb-true s.team r.team e in let number = eqb-true s.number r.number k in
            let ids : id_of r ≡ id_of s = λ i. submission_id (sym team i) (sym number i) in
            absurd (false≢true (sym first ∙ same_as ids)))
        | false ↦ λ e k. rest
      ]
      | false ↦ elim [ true ↦ λ e k. rest | false ↦ λ e k. rest ]
    ] in
    go (s.team == r.team) (s.number == r.number) refl refl
  where
    same_as : {a b : List ℕ} → a ≡ b → bytes_eq a b ≡ true
    same_as {a} {b} e = ap (bytes_eq a) (sym e) ∙ (bytes_eq-Decides a a).1 refl

different_members : (vs : List Release) (rs : List Rejudging) (refs : List SubmissionRef) → are_different (map id_of refs) ≡ true → are_different_members (map member_of (map (candidate_of vs rs) refs)) ≡ true
different_members vs rs [] h = refl
different_members vs rs (s ∷ refs) h =
    let new = not-true (is_among (map id_of refs) (id_of s)) (and_left (not (is_among (map id_of refs) (id_of s))) _ h) in
    both_true _ _ (ap not (one_of vs rs s refs new)) (different_members vs rs refs (and_right (not (is_among (map id_of refs) (id_of s))) _ h))

-- and each of them has a release
released_members : (x : ContestState) (refs : List SubmissionRef) → are_released (map (candidate_of x.releases x.rejudgings) refs) ≡ true
    → list_all (is_valid_member x) (map member_of (map (candidate_of x.releases x.rejudgings) refs)) ≡ true
released_members x [] h = refl
released_members x (s ∷ refs) h =
    both_true _ _ (both_true _ _ (and_left (is_released s.team s.number x.releases) _ h) refl) (released_members x refs (and_right (is_released s.team s.number x.releases) _ h))

-- those of an open rejudging are none of them

apart_from : (vs : List Release) (rs : List Rejudging) (m : Member) (refs : List SubmissionRef)
    → list_any (λ (s : SubmissionRef). names s.team s.number (of_member m)) refs ≡ false → list_any (is_same_member m) (map member_of (map (candidate_of vs rs) refs)) ≡ false
apart_from vs rs m [] h = refl
apart_from vs rs m (s ∷ refs) h = rw (or_left (names s.team s.number (of_member m)) _ h) (apart_from vs rs m refs (or_right (names s.team s.number (of_member m)) _ h))

-- none of the named is one of these members
abbrev NoneOf : List Member → List SubmissionRef → Type 0
NoneOf ms refs = list_any (λ (s : SubmissionRef). list_any (λ m. names s.team s.number (of_member m)) ms) refs ≡ false

none_first : (m : Member) (ms : List Member) (refs : List SubmissionRef) → NoneOf (m ∷ ms) refs → list_any (λ (s : SubmissionRef). names s.team s.number (of_member m)) refs ≡ false
none_first m ms [] h = refl
none_first m ms (s ∷ refs) h =
    let here = or_left (names s.team s.number (of_member m) || list_any (λ n. names s.team s.number (of_member n)) ms) _ h in
    rw (or_left (names s.team s.number (of_member m)) _ here) (none_first m ms refs (or_right (names s.team s.number (of_member m) || list_any (λ n. names s.team s.number (of_member n)) ms) _ h))

none_rest : (m : Member) (ms : List Member) (refs : List SubmissionRef) → NoneOf (m ∷ ms) refs → NoneOf ms refs
none_rest m ms [] h = refl
none_rest m ms (s ∷ refs) h =
    let here = or_left (names s.team s.number (of_member m) || list_any (λ n. names s.team s.number (of_member n)) ms) _ h in
    rw (or_right (names s.team s.number (of_member m)) _ here) (none_rest m ms refs (or_right (names s.team s.number (of_member m) || list_any (λ n. names s.team s.number (of_member n)) ms) _ h))

any_append : (p : Member → Bool) (xs ys : List Member) → list_any p xs ≡ false → list_any p ys ≡ false → list_any p (xs ++ ys) ≡ false
any_append p [] ys h k = k
any_append p (x ∷ xs) ys h k = rw (or_left (p x) _ h) (any_append p xs ys (or_right (p x) _ h) k)

joined : (vs : List Release) (rs : List Rejudging) (ms : List Member) (refs : List SubmissionRef) → are_different_members ms ≡ true → are_different_members (map member_of (map (candidate_of vs rs) refs)) ≡ true → NoneOf ms refs
    → are_different_members (ms ++ map member_of (map (candidate_of vs rs) refs)) ≡ true
joined vs rs [] refs old new none = new
joined vs rs (m ∷ ms) refs old new none =
    let alone = not-true (list_any (is_same_member m) ms) (and_left (not (list_any (is_same_member m) ms)) _ old) in
    let others = apart_from vs rs m refs (none_first m ms refs none) in
    both_true _ _ (ap not (any_append (is_same_member m) ms (map member_of (map (candidate_of vs rs) refs)) alone others))
    (joined vs rs ms refs (and_right (not (list_any (is_same_member m) ms)) _ old) new (none_rest m ms refs none))

unrejudged : (vs : List Release) (rs : List Rejudging) (refs : List SubmissionRef) → is_any_rejudged (map (candidate_of vs rs) refs) ≡ false → NoneOf (open_members rs) refs
unrejudged vs rs [] h = refl
unrejudged vs rs (s ∷ refs) h = rw (or_left (is_rejudged s.team s.number rs) _ h) (unrejudged vs rs refs (or_right (is_rejudged s.team s.number rs) _ h))

-- what is known where none refuses it
record IsFree (f : FixedPart) (opened : ℕ) (cs : List Candidate) : Type 0 where
  pub released : are_released cs ≡ true
  pub alone : is_any_rejudged cs ≡ false
  pub room : nat_le REJUDGINGS opened ≡ false

is_free : (f : FixedPart) (opened : ℕ) (cs : List Candidate) → opening_refusal f opened cs ≡ None → IsFree f opened cs
is_free f opened cs h =
    let go : (a b c d : Bool) → are_released cs ≡ b → is_any_rejudged cs ≡ c → nat_le REJUDGINGS opened ≡ d
    → (if a then Some NotOpen else (if not b then Some RejudgingIncomplete else (if c then Some InRejudging else (if d then Some TeamLimit else None)))) ≡ None → IsFree f opened cs = elim [
      | true ↦ λ b c d e g k n. absurd (cc n)
      | false ↦ elim [
        | false ↦ λ c d e g k n. absurd (cc n)
        | true ↦ elim [
          | true ↦ λ d e g k n. absurd (cc n)
          | false ↦ elim [
            | true ↦ λ e g k n. absurd (cc n)
            | false ↦ λ e g k n. record { released = e; alone = g; room = k }
          ]
        ]
      ]
    ] in
    go (is_some f.marks.finalized) (are_released cs) (is_any_rejudged cs) (nat_le REJUDGINGS opened) refl refl refl h

room_left : (opened : ℕ) → nat_le REJUDGINGS opened ≡ false → nat_lt opened REJUDGINGS ≡ true
room_left opened h = grind (arith, nat_tests, h)

few_enough : (n m : ℕ) → n ≡ m → m ≤ REJUDGING_MEMBERS → nat_le n REJUDGING_MEMBERS ≡ true
few_enough n m e h = grind (arith, nat_tests, e, h)

fits : (x : ContestState) (w : WantedRejudging) (refs : List SubmissionRef) → is_valid x ≡ true → are_different w.submissions ≡ true → length w.submissions ≤ REJUDGING_MEMBERS → map id_of refs ≡ w.submissions
    → IsFree x.fixed (length x.rejudgings) (map (candidate_of x.releases x.rejudgings) refs)
    → is_addable x (NewRejudging (record { reason = w.reason; state = Open; members = map member_of (map (candidate_of x.releases x.rejudgings) refs) })) ≡ true
fits x w refs valid different few ids free =
    let vs = x.releases in
    let rs = x.rejudgings in
    let ms : List Member = map member_of (map (candidate_of vs rs) refs) in
    let apart : are_different_members ms ≡ true = different_members vs rs refs (subst (λ is. are_different is ≡ true) (sym ids) different) in
    let count : length ms ≡ length w.submissions =
    length-map (map (candidate_of vs rs) refs) member_of ∙ (length-map refs (candidate_of vs rs) ∙ (sym (length-map refs id_of) ∙ ap (λ (is : List (List ℕ)). length is) ids)) in
    let old : are_different_members (open_members rs) ≡ true = and_right (list_all (is_valid_rejudging x) rs) (are_different_members (open_members rs)) (and_left (list_all (is_valid_rejudging x) rs && are_different_members (open_members rs)) (nat_le (length rs) REJUDGINGS) (parts x valid).rejudgings) in
    both_true _ _ (both_true _ _ (both_true _ _ (released_members x refs free.released) apart) (few_enough (length ms) (length w.submissions) count few))
    (both_true _ _ (room_left (length rs) free.room) (joined vs rs (open_members rs) refs old apart (unrejudged vs rs refs free.alone)))

pub opened_is_addable : OpenedIsAddable
opened_is_addable x w r valid different few h =
    let vs = x.releases in
    let rs = x.rejudgings in
    let made : List SubmissionRef → Rejudging = λ refs. record { reason = w.reason; state = Open; members = map member_of (map (candidate_of vs rs) refs) } in
    let over : (refs : List SubmissionRef) → map id_of refs ≡ w.submissions → (o : Option RuleRefusal) → opening_refusal x.fixed (length rs) (map (candidate_of vs rs) refs) ≡ o
    → elim o as (λ _. Result Rejudging RuleRefusal) [ (Some refusal) ↦ Err refusal | None ↦ Ok (made refs) ] ≡ Ok r → is_addable x (NewRejudging r) ≡ true = λ refs ids. elim [
      | (Some refusal) ↦ λ e k. absurd (cc k)
      | None ↦ λ e k. (let is : made refs ≡ r = cc k in
          subst (λ q. is_addable x (NewRejudging q) ≡ true) is (fits x w refs valid different few ids (is_free x.fixed (length rs) (map (candidate_of vs rs) refs) e)))
    ] in
    let go : (o : Option (List SubmissionRef)) → all_some (map (λ id. submission_named id x.submissions) w.submissions) ≡ o → open_named x.fixed o vs rs w.reason ≡ Ok r → is_addable x (NewRejudging r) ≡ true = elim [
      | None ↦ λ e k. absurd (cc k)
      | (Some refs) ↦ λ e k. over refs (all_named w.submissions x.submissions refs e) (opening_refusal x.fixed (length rs) (map (candidate_of vs rs) refs)) refl k
    ] in
    go (all_some (map (λ id. submission_named id x.submissions) w.submissions)) refl h
