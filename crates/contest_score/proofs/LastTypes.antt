-- The last of the releases on a submission.
use Rattle.std.proofs.Common.{◌≡◌, ℕ, suc, ◌+◌, ◌<◌, Bool, true, false, cond, List, [], ◌∷◌, ◌++◌, length, take, get_or, map, Option, Some, None, sym, ap, ◌∙◌, append-nil, arith, All}
use Rattle.std.specs.List.{last_or}
use Rattle.std.specs.Prelude.{◌==◌, ◌&&◌, if◌then◌else◌, IfSome}
use Rattle.std.proofs.lemmas.List.{take_more, map-append}
use Rattle.std.proofs.lemmas.List.Elements.{filter-append, All-filter}
use Rattle.contest_types.specs.State.{releases_on}
use Rattle.contest_types.specs.Sight.{Judgement, judgement_of, type_of}
use Rattle.contest_types.specs.declared.submission.Release.{Release}
use Rattle.contest_types.proofs.LastLemmas.{last_more}
use Rattle.contest_score.specs.LastVerdicts.{last_type, released_with}

-- one more release
pub last_type_more : (vs : List Release) (v : Release) (team number : ℕ) → last_type (vs ++ v ∷ []) team number ≡ released_with (last_type vs) v team number
last_type_more vs v team number =
    let last : List Release → Option ℕ = λ ws. type_of (last_or None (map judgement_of ws)) in
    let own = releases_on team number vs in
    let go : (b : Bool) → last (own ++ cond b (v ∷ []) []) ≡ (if b then Some v.verdict else last own) = elim [
      | true ↦ ap type_of (ap (last_or None) (map-append judgement_of own (v ∷ [])) ∙ last_more None (map judgement_of own) (judgement_of v))
      | false ↦ ap last (append-nil own)
    ] in
    ap last (filter-append (λ (w : Release). (w.team == team) && (w.number == number)) vs (v ∷ [])) ∙ go ((v.team == team) && (v.number == number))

released_same : (f g : ℕ → ℕ → Option ℕ) (v : Release) (team number : ℕ) → f team number ≡ g team number → released_with f v team number ≡ released_with g v team number
released_same f g v team number h = ap (λ o. if (v.team == team) && (v.number == number) then Some v.verdict else o) h

-- and the next of a list
pub next_last : (f g : ℕ → ℕ → Option ℕ) (vs : List Release) (i : ℕ) (v : Release) → i < length vs → v ≡ get_or vs i v
    → ((team number : ℕ) → f team number ≡ last_type (take i vs) team number) → ((team number : ℕ) → g team number ≡ released_with f v team number)
    → (team number : ℕ) → g team number ≡ last_type (take (i + 1) vs) team number
next_last f g vs i v l e before after team number =
    let grown : take (i + 1) vs ≡ take i vs ++ v ∷ [] = rw (← e) at (take_more vs i v l) in
    after team number ∙ released_same f (last_type (take i vs)) v team number (before team number)
    ∙ rw grown (sym (last_type_more (take i vs) v team number))

-- what is last is one of the types
types_within : (n : ℕ) (o : Option Judgement) (vs : List Release) → IfSome (type_of o) (λ p. p < n) → All (λ v. v.verdict < n) vs → IfSome (type_of (last_or o (map judgement_of vs))) (λ p. p < n)
types_within n o [] h all = h
types_within n o (v ∷ vs) h all = types_within n (Some (judgement_of v)) vs (all 0 v (omega arith)) (λ i d l. all (suc i) d (omega (arith, l)))

pub last_within : (n : ℕ) (vs : List Release) (team number : ℕ) → All (λ v. v.verdict < n) vs → IfSome (last_type vs team number) (λ p. p < n)
last_within n vs team number all =
    types_within n None (releases_on team number vs) tt (All-filter (λ (w : Release). (w.team == team) && (w.number == number)) (λ w. w.verdict < n) vs all)
