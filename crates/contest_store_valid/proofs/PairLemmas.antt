-- Submissions by the places of their teams and their numbers.
use Rattle.std.proofs.Common.{◌≡◌, ℕ, Bool, List, [], ◌∷◌, map, refl, ◌∙◌, ap}
use Rattle.std.specs.Prelude.{◌&&◌, ◌||◌, nat_eq}
use Rattle.std.specs.List.{list_all, list_any}
use Rattle.std.specs.Cmp.{IsEquivalence, nat_eq_equiv, on_equiv, and_equiv}
use Rattle.contest_types.specs.State.{ContestState, of_submission}
use Rattle.contest_types.specs.ValidSubmissions.{has_submission}
use Rattle.contest_types.specs.declared.submission.Submission.{Submission}
use Rattle.contest_store_valid.specs.Keys.{pair_of, same_pair, same_numbers}

pub all_same : {X : Type 0} (p q : X → Bool) → ((x : X) → p x ≡ q x) → (xs : List X) → list_all p xs ≡ list_all q xs
all_same p q h [] = refl
all_same p q h (x ∷ xs) = ap (λ b. b && list_all p xs) (h x) ∙ ap (λ b. q x && b) (all_same p q h xs)

pub any_mapped : {X Y : Type 0} (p : Y → Bool) (f : X → Y) (xs : List X) → list_any p (map f xs) ≡ list_any (λ x. p (f x)) xs
any_mapped p f [] = refl
any_mapped p f (x ∷ xs) = ap (λ b. p (f x) || b) (any_mapped p f xs)

pub same_pair_equiv : {A B : Type 0} (e : A → A → Bool) (f : B → B → Bool) → IsEquivalence e → IsEquivalence f → IsEquivalence (same_pair e f)
same_pair_equiv e f a b = and_equiv (on_equiv (λ p. p.0) a) (on_equiv (λ p. p.1) b)

pub same_numbers_equiv : IsEquivalence same_numbers
same_numbers_equiv = same_pair_equiv nat_eq nat_eq nat_eq_equiv nat_eq_equiv

-- the submissions that are named stand where each is one of those
pub named_stand : (x : ContestState) (standing named : List (ℕ × ℕ)) → standing ≡ map (λ (s : Submission). pair_of (of_submission s)) x.submissions
    → list_all (λ k. list_any (λ j. nat_eq j.0 k.0 && nat_eq j.1 k.1) standing) named ≡ list_all (λ k. has_submission x k.0 k.1) named
named_stand x standing named h =
    let here : (k : ℕ × ℕ) → list_any (λ j. nat_eq j.0 k.0 && nat_eq j.1 k.1) standing ≡ has_submission x k.0 k.1 =
    λ k. ap (list_any (λ j. nat_eq j.0 k.0 && nat_eq j.1 k.1)) h ∙ any_mapped (λ j. nat_eq j.0 k.0 && nat_eq j.1 k.1) (λ (s : Submission). pair_of (of_submission s)) x.submissions in
    all_same (λ k. list_any (λ j. nat_eq j.0 k.0 && nat_eq j.1 k.1) standing) (λ k. has_submission x k.0 k.1) here named
