-- What a sort by insertion gives is sorted.
use Rattle.std.proofs.Common.{◌≡◌, suc, ◌+◌, Bool, true, false, cond, List, [], ◌∷◌, refl, sym, ap, ◌∙◌, subst, arith, Ordering, Less, Equal, Greater, is_lt, is_gt, IsSorted, zero, IsPermutation}
use Rattle.std.specs.Bool.{⊤}
use Rattle.std.specs.Cmp.{IsTotalOrder}
use Rattle.std.specs.Ordering.{ordering_reverse}
use Rattle.std.proofs.lemmas.List.Sorted.{IsPermutation-trans, IsPermutation-sym}
use Rattle.sqlite_trees.specs.Tree.{IsAscending}
use Rattle.sqlite_keyed.proofs.SortLemmas.{sorted_unique, IsPermutation-sort_by}
use Rattle.sqlite_keyed.specs.Lists.{insert_sorted, sort_by}

module _ {X : Type 0} (cmp : X → X → Ordering) (total : IsTotalOrder cmp) where
  abbrev Rises : List X → Type 0
  Rises [] = ⊤
  Rises (x ∷ []) = ⊤
  Rises (x ∷ y ∷ ys) = (is_lt (cmp y x) ≡ false) × Rises (y ∷ ys)

  above : (o : Ordering) → is_gt o ≡ true → is_lt o ≡ false
  above Less h = absurd (cc)
  above Equal h = refl
  above Greater h = refl

  turned : (o : Ordering) → is_gt o ≡ false → is_lt (ordering_reverse o) ≡ false
  turned Less h = refl
  turned Equal h = refl
  turned Greater h = absurd (cc)

  after : (new x : X) → is_gt (cmp new x) ≡ false → is_lt (cmp x new) ≡ false
  after new x h = ap is_lt (total.antisymm x new) ∙ turned _ h

  inserts : (new : X) (xs : List X) → Rises xs → Rises (insert_sorted cmp new xs)
  inserts new [] up = tt
  inserts new (x ∷ []) up = go (is_gt (cmp new x)) refl
    where
      go : (b : Bool) → is_gt (cmp new x) ≡ b → Rises (cond b (x ∷ new ∷ []) (new ∷ x ∷ []))
      go true e = (above _ e, tt)
      go false e = (after new x e, tt)
  inserts new (x ∷ y ∷ ys) up = go (is_gt (cmp new x)) (is_gt (cmp new y)) refl refl (inserts new (y ∷ ys) up.1)
    where
      go : (b c : Bool) → is_gt (cmp new x) ≡ b → is_gt (cmp new y) ≡ c → Rises (cond c (y ∷ insert_sorted cmp new ys) (new ∷ y ∷ ys))
          → Rises (cond b (x ∷ cond c (y ∷ insert_sorted cmp new ys) (new ∷ y ∷ ys)) (new ∷ x ∷ y ∷ ys))
      go true true e f more = (up.0, more)
      go true false e f more = (above _ e, more)
      go false c e f more = (after new x e, up)

  rises : (xs : List X) → Rises (sort_by cmp xs)
  rises [] = tt
  rises (x ∷ xs) = inserts x _ (rises xs)

  sorted : (xs : List X) → Rises xs → IsSorted cmp xs
  sorted [] up = λ k d p q. absurd (omega (arith, q))
  sorted (x ∷ []) up = λ k d p q. absurd (omega (arith, q))
  sorted (x ∷ y ∷ ys) up = elim [
    | zero ↦ λ d p q. up.0
    | (suc k) ↦ λ d p q. rw Rattle.std.proofs.Common.add-one (rw Rattle.std.proofs.Common.add-one at (sorted (y ∷ ys) up.1 k d (omega arith) (omega (arith, q))))
  ]

  pub IsSorted-sort_by : (xs : List X) → IsSorted cmp (sort_by cmp xs)
  IsSorted-sort_by xs = sorted _ (rises xs)

-- rows that rise strictly by some order, whichever key it reads: a table that shows them in any order has them as its sorted list
pub one_order : {X : Type 0} (cmp : X → X → Ordering) (total : IsTotalOrder cmp) (rows want : List X) → IsAscending (λ a b. cmp a b ≡ Less) want → IsPermutation rows want → sort_by cmp rows ≡ want
one_order cmp total rows want up same = sorted_unique cmp total want (sort_by cmp rows) up
    (IsPermutation-trans _ _ _ (IsPermutation-sym _ _ same) (IsPermutation-sym _ _ (IsPermutation-sort_by cmp total rows))) (IsSorted-sort_by cmp total rows)
