-- The first submission of each team at each problem: no two at one place, and one more where a place is new.
use Rattle.std.proofs.Common.{◌≡◌, ◌∙◌, Bool, true, false, List, [], ◌∷◌, ◌++◌, filter, refl, sym, ap, append-nil}
use Rattle.std.specs.Prelude.{not, ◌||◌, if◌then◌else◌}
use Rattle.std.specs.List.{AllByRecursion, list_any}
use Rattle.std.proofs.lemmas.Bool.{false≢true}
use Rattle.std.proofs.lemmas.List.Elements.{filter-append}
use Rattle.sqlite_keyed.proofs.ListLemmas.{all-filter, ascending-filter, none_from_any}
use Rattle.sqlite_trees.specs.Tree.{IsAscending}
use Rattle.contest_types.specs.declared.submission.Submission.{Submission}
use Rattle.contest_score.specs.ScoringLaws.{is_at}
use Rattle.contest_store_cells.specs.CellRows.{first_attempts}
use Rattle.contest_score.proofs.CachedLemmas.{eq_turned}

-- the second is at the place of the first
abbrev pub at_place : Submission → Submission → Bool
at_place s = is_at s.team s.problem

-- what a filter leaves doesn't pass the test that is turned
passed : {X : Type 0} (p : X → Bool) (xs : List X) → AllByRecursion (λ x. p x ≡ false) (filter (λ x. not (p x)) xs)
passed p [] = tt
passed {X} p (x ∷ xs) =
    let go : (b : Bool) → p x ≡ b → AllByRecursion (λ y. p y ≡ false) (if not b then x ∷ filter (λ y. not (p y)) xs else filter (λ y. not (p y)) xs) = elim [
      | true ↦ λ e. passed p xs
      | false ↦ λ e. (e, passed p xs)
    ] in
    go (p x) refl

-- no two are at one place
pub first_apart : (ss : List Submission) → IsAscending (λ a b. at_place a b ≡ false) (first_attempts ss)
first_apart [] = tt
first_apart (s ∷ ss) = (passed (at_place s) (first_attempts ss), ascending-filter (λ a b. at_place a b ≡ false) (λ u. not (at_place s u)) (first_attempts ss) (first_apart ss))

-- what holds of all submissions holds of these
pub all_first : (P : Submission → Type 0) (ss : List Submission) → AllByRecursion P ss → AllByRecursion P (first_attempts ss)
all_first P [] all = tt
all_first P (s ∷ ss) all = (all.0, all-filter P (λ u. not (at_place s u)) (first_attempts ss) (all_first P ss all.1))

pub place_turned : (s u : Submission) → at_place s u ≡ at_place u s
place_turned s u = rw (eq_turned u.team s.team, eq_turned u.problem s.problem) refl

-- a submission at a new place is one more
module _ (s : Submission) where
  abbrev here : List Submission → Bool
  here = list_any (at_place s)

  either : (b c : Bool) → (b || c) ≡ false → (b ≡ false) × (c ≡ false)
  either true c h = absurd (false≢true (sym h))
  either false c h = (refl, h)

  pub one_more_first : (ss : List Submission) → here ss ≡ false → first_attempts (ss ++ s ∷ []) ≡ first_attempts ss ++ s ∷ []
  one_more_first [] h = refl
  one_more_first (u ∷ us) h =
      let parts = either (at_place s u) (here us) h in
      let kept : Submission → Bool = λ v. not (at_place u v) in
      let other : at_place u s ≡ false = place_turned u s ∙ parts.0 in
      let alone : filter kept (s ∷ []) ≡ s ∷ [] = rw other refl in
      ap (λ vs. u ∷ filter kept vs) (one_more_first us parts.1)
      ∙ ap (λ vs. u ∷ vs) (filter-append kept (first_attempts us) (s ∷ []) ∙ ap (λ vs. filter kept (first_attempts us) ++ vs) alone)

  -- one at a place that is there is none
  pub same_first : (ss : List Submission) → here ss ≡ true → first_attempts (ss ++ s ∷ []) ≡ first_attempts ss
  same_first [] h = absurd (false≢true h)
  same_first (u ∷ us) h =
      let kept : Submission → Bool = λ v. not (at_place u v) in
      let later : (b : Bool) → here us ≡ b → (at_place s u || b) ≡ true → filter kept (first_attempts (us ++ s ∷ [])) ≡ filter kept (first_attempts us) = elim [
        | true ↦ λ e k. ap (filter kept) (same_first us e)
        | false ↦ λ e k.
            (let there : at_place u s ≡ true = place_turned u s ∙ first (at_place s u) k in
            let none : filter kept (s ∷ []) ≡ [] = rw there refl in
            ap (filter kept) (one_more_first us e) ∙ filter-append kept (first_attempts us) (s ∷ []) ∙ ap (λ vs. filter kept (first_attempts us) ++ vs) none ∙ append-nil (filter kept (first_attempts us)))
      ] in
      ap (λ vs. u ∷ vs) (later (here us) refl h)
    where
      first : (b : Bool) → (b || false) ≡ true → b ≡ true
      first true k = refl
      first false k = absurd (false≢true k)

  -- those that stood are elsewhere
  pub elsewhere_first : (ss : List Submission) → here ss ≡ false → AllByRecursion (λ u. at_place s u ≡ false) (first_attempts ss)
  elsewhere_first ss h = all_first (λ u. at_place s u ≡ false) ss (none_from_any (at_place s) ss h)
