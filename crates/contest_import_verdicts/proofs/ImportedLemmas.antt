-- The verdicts that were imported, after one more proposal.
use Rattle.std.proofs.Common.{◌≡◌, ◌∙◌, ℕ, Bool, true, false, cond, List, [], ◌∷◌, ◌++◌, append-nil, Option, Some, None, refl, sym, ap}
use Rattle.std.specs.Prelude.{◌&&◌, ◌==◌, not, find, is_some, if◌then◌else◌}
use Rattle.std.specs.Option.{option_or}
use Rattle.std.proofs.lemmas.Bool.{eqb-true}
use Rattle.std.proofs.lemmas.List.Elements.{filter-append}
use Rattle.std.proofs.lemmas.List.Folds.{find-append}
use Rattle.contest_types.specs.State.{names, of_proposal, proposals_for}
use Rattle.contest_types.specs.ValidSubmissions.{is_imported}
use Rattle.contest_types.specs.declared.proposal.Proposal.{Proposal}
use Rattle.contest_types.proofs.PlaceLemmas.{and_left, and_right}
use Rattle.contest_import_verdicts.specs.ImportedVerdicts.{is_first, verdict_of}

abbrev is_own : (team number : ℕ) → Proposal → Bool
is_own team number p = names team number (of_proposal p)

pub own_more : (team number : ℕ) (ps : List Proposal) (p : Proposal) → proposals_for team number (ps ++ p ∷ []) ≡ proposals_for team number ps ++ cond (is_own team number p) (p ∷ []) []
own_more team number ps p = filter-append (λ (q : Proposal). is_own team number q) ps (p ∷ [])

-- a value of the proposal's own submission
at_own : {A : Type 0} (p : Proposal) (team number : ℕ) (f : ℕ → ℕ → A) → is_own team number p ≡ true → f p.team p.number ≡ f team number
at_own p team number f own =
    let t : p.team ≡ team = eqb-true p.team team (and_left (p.team == team) (p.number == number) own) in
    let n : p.number ≡ number = eqb-true p.number number (and_right (p.team == team) (p.number == number) own) in
    λ i. f (t i) (n i)

abbrev imported_in : List Proposal → Option ℕ
imported_in ps = verdict_of (find is_imported ps)

-- one stands if it is the first
imported_more : (ps : List Proposal) (p : Proposal) → imported_in (ps ++ p ∷ []) ≡ (if is_first (imported_in ps) p then Some p.verdict else imported_in ps)
imported_more ps p =
    let go : (o : Option Proposal) (b : Bool) → verdict_of (option_or o (if b then Some p else None)) ≡ (if b && not (is_some (verdict_of o)) then Some p.verdict else verdict_of o) = elim [
      | None ↦ elim [ true ↦ refl | false ↦ refl ]
      | (Some q) ↦ elim [ true ↦ refl | false ↦ refl ]
    ] in
    ap verdict_of (find-append is_imported ps (p ∷ [])) ∙ go (find is_imported ps) (is_imported p)

pub one_more : (ps : List Proposal) (p : Proposal) (old new : ℕ → ℕ → Option ℕ) (first : Bool) → is_first (old p.team p.number) p ≡ first
    → ((team number : ℕ) → old team number ≡ imported_in (proposals_for team number ps))
    → ((team number : ℕ) → new team number ≡ (if (p.team == team) && (p.number == number) then (if first then Some p.verdict else old team number) else old team number))
    → (team number : ℕ) → new team number ≡ imported_in (proposals_for team number (ps ++ p ∷ []))
one_more ps p old new first is before after team number =
    let own = proposals_for team number ps in
    let go : (b : Bool) → is_own team number p ≡ b → (if b then (if first then Some p.verdict else old team number) else old team number) ≡ imported_in (own ++ cond b (p ∷ []) []) = elim [
      | true ↦ λ e. (let here : first ≡ is_first (imported_in own) p = sym is ∙ ap (λ o. is_first o p) (at_own p team number old e ∙ before team number) in
          (λ i. if here i then Some p.verdict else before team number i) ∙ sym (imported_more own p))
      | false ↦ λ e. before team number ∙ ap imported_in (sym (append-nil own))
    ] in
    after team number ∙ (go (is_own team number p) refl ∙ ap imported_in (sym (own_more team number ps p)))

pub same : (b : Bool) {X : Type 0} (x : X) → x ≡ (if b then x else x)
same true x = refl
same false x = refl
