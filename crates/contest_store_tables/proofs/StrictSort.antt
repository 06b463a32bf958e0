-- A list in which no two elements tie is sorted into one that rises strictly.
use Rattle.std.proofs.Common.{◌≡◌, true, false, cond, List, [], ◌∷◌, refl, sym, ap, ◌∙◌, true≢false, Ordering, Less, Equal, Greater, is_eq, is_gt}
use Rattle.std.specs.Cmp.{IsTotalOrder}
use Rattle.std.specs.List.{AllByRecursion}
use Rattle.std.specs.Ordering.{ordering_reverse}
use Rattle.sqlite_keyed.specs.Lists.{insert_sorted, sort_by}
use Rattle.sqlite_keyed.proofs.ListLemmas.{all_weaker}
use Rattle.sqlite_trees.specs.Tree.{IsAscending}

module _ {X : Type 0} (cmp : X → X → Ordering) (total : IsTotalOrder cmp) where
  abbrev IsBelow : X → X → Type 0
  IsBelow a b = cmp a b ≡ Less

  abbrev AreApart : X → X → Type 0
  AreApart a b = is_eq (cmp a b) ≡ false

  -- what holds of the new element and of all others holds of all where it has its place
  all_placed : (P : X → Type 0) (new : X) (xs : List X) → P new → AllByRecursion P xs → AllByRecursion P (insert_sorted cmp new xs)
  all_placed P new [] here all = (here, tt)
  all_placed P new (x ∷ xs) here all = elim (is_gt (cmp new x)) as (λ b. AllByRecursion P (cond b (x ∷ insert_sorted cmp new xs) (new ∷ x ∷ xs))) [
    | true ↦ (all.0, all_placed P new xs here all.1)
    | false ↦ (here, all)
  ]

  all_sorted : (P : X → Type 0) (xs : List X) → AllByRecursion P xs → AllByRecursion P (sort_by cmp xs)
  all_sorted P [] all = tt
  all_sorted P (x ∷ xs) all = all_placed P x _ all.0 (all_sorted P xs all.1)

  rises_placed : (new : X) (xs : List X) → AllByRecursion (AreApart new) xs → IsAscending IsBelow xs → IsAscending IsBelow (insert_sorted cmp new xs)
  rises_placed new [] apart up = (tt, tt)
  rises_placed new (x ∷ xs) apart up = go (cmp new x) refl (rises_placed new xs apart.1 up.1)
    where
      go : (o : Ordering) → cmp new x ≡ o → IsAscending IsBelow (insert_sorted cmp new xs) → IsAscending IsBelow (cond (is_gt o) (x ∷ insert_sorted cmp new xs) (new ∷ x ∷ xs))
      go Less e more = ((e, all_weaker (IsBelow x) (IsBelow new) (λ y. total.trans new x y e) xs up.0), up)
      go Equal e more = absurd (true≢false (sym (ap is_eq e) ∙ apart.0))
      go Greater e more = (all_placed (IsBelow x) new xs (total.antisymm x new ∙ ap ordering_reverse e) up.0, more)

  pub rises_sorted : (xs : List X) → IsAscending AreApart xs → IsAscending IsBelow (sort_by cmp xs)
  rises_sorted [] apart = tt
  rises_sorted (x ∷ xs) apart = rises_placed x _ (all_sorted (AreApart x) xs apart.0) (rises_sorted xs apart.1)
