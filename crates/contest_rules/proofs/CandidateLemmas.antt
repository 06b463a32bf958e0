-- The members of open rejudgings, put into a set one after another.
use Rattle.std.proofs.Common.{◌≡◌, ◌<◌, ◌+◌, ◌∙◌, ℕ, Bool, true, false, cond, List, [], ◌∷◌, ◌++◌, append-nil, length, take, get_or, refl, sym, ap}
use Rattle.std.specs.Prelude.{◌||◌, filter, if◌then◌else◌}
use Rattle.std.specs.List.{flat_map, list_any}
use Rattle.std.proofs.lemmas.Grind.{flat_map-append}
use Rattle.std.proofs.lemmas.List.{take_more}
use Rattle.std.proofs.lemmas.List.Elements.{filter-append}
use Rattle.std.proofs.lemmas.List.Folds.{list_any-append}
use Rattle.contest_types.specs.State.{SubmissionRef, names, of_member}
use Rattle.contest_types.specs.ValidRejudgings.{is_open}
use Rattle.contest_types.specs.declared.rejudging.Member.{Member}
use Rattle.contest_types.specs.declared.rejudging.Rejudging.{Rejudging}
use Rattle.contest_rules.specs.Candidates.{members_if_open}
use Rattle.contest_rules.specs.declared.candidates.Candidate.{Candidate}
use Rattle.contest_rules.specs.Opening.{is_rejudged}

abbrev is_it : (team number : ℕ) → Member → Bool
is_it team number m = names team number (of_member m)

found_last : (b start before had : Bool) → had ≡ (start || before) → cond b true had ≡ (start || (before || (b || false)))
found_last true true true had e = refl
found_last true true false had e = refl
found_last true false true had e = refl
found_last true false false had e = refl
found_last false true true had e = e
found_last false true false had e = e
found_last false false true had e = e
found_last false false false had e = e

-- one member more
pub member_more : (ms : List Member) (i : ℕ) (m : Member) (team number : ℕ) (start had has : Bool) → i < length ms → m ≡ get_or ms i m
    → had ≡ (start || list_any (is_it team number) (take i ms)) → has ≡ cond (is_it team number m) true had → has ≡ (start || list_any (is_it team number) (take (i + 1) ms))
member_more ms i m team number start had has l at before put =
    let grown : take (i + 1) ms ≡ take i ms ++ m ∷ [] = rw (← at) at (take_more ms i m l) in
    put ∙ (found_last (is_it team number m) start (list_any (is_it team number) (take i ms)) had before
    ∙ ap (λ b. start || b) (sym (list_any-append (is_it team number) (take i ms) (m ∷ [])) ∙ ap (list_any (is_it team number)) (sym grown)))

-- the members of one rejudging more
one_more : (team number : ℕ) (rs : List Rejudging) (r : Rejudging) → is_rejudged team number (rs ++ r ∷ []) ≡ (is_rejudged team number rs || list_any (is_it team number) (members_if_open r))
one_more team number rs r =
    let members : Rejudging → List Member = λ q. q.members in
    let were = filter is_open rs in
    let go : (b : Bool) → (list_any (is_it team number) (flat_map members were) || list_any (is_it team number) (flat_map members (cond b (r ∷ []) [])))
    ≡ (list_any (is_it team number) (flat_map members were) || list_any (is_it team number) (if b then r.members else [])) = elim [
      | true ↦ ap (λ ms. list_any (is_it team number) (flat_map members were) || list_any (is_it team number) ms) (append-nil r.members)
      | false ↦ refl
    ] in
    ap (λ qs. list_any (is_it team number) (flat_map members qs)) (filter-append is_open rs (r ∷ []))
    ∙ (ap (list_any (is_it team number)) (flat_map-append members were (filter is_open (r ∷ [])))
    ∙ (list_any-append (is_it team number) (flat_map members were) (flat_map members (filter is_open (r ∷ []))) ∙ go (is_open r)))

pub rejudging_more : (rs : List Rejudging) (i : ℕ) (r : Rejudging) (team number : ℕ) (had has : Bool) → i < length rs → r ≡ get_or rs i r
    → had ≡ is_rejudged team number (take i rs) → has ≡ (had || list_any (is_it team number) (members_if_open r)) → has ≡ is_rejudged team number (take (i + 1) rs)
rejudging_more rs i r team number had has l at before put =
    let grown : take (i + 1) rs ≡ take i rs ++ r ∷ [] = rw (← at) at (take_more rs i r l) in
    put ∙ (ap (λ b. b || list_any (is_it team number) (members_if_open r)) before
    ∙ sym (ap (is_rejudged team number) grown ∙ one_more team number (take i rs) r))

abbrev candidate : SubmissionRef → Bool → Bool → Candidate
candidate s released rejudged = record { team = s.team; number = s.number; is_released = released; is_rejudged = rejudged }

pub known_as : (s : SubmissionRef) {a b c d : Bool} → a ≡ b → c ≡ d → candidate s a c ≡ candidate s b d
known_as s e f = λ i. candidate s (e i) (f i)
