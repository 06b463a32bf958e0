-- The accounts that come before one, and those that come after it.
use Rattle.std.proofs.Common.{◌≡◌, Bool, true, false, List, [], ◌∷◌, ◌++◌, filter, refl, sym, ap, ◌∙◌}
use Rattle.std.specs.Prelude.{if◌then◌else◌}
use Rattle.std.specs.Ordering.{nat_cmp}
use Rattle.std.specs.Cmp.Lexicographic.{slice_cmp}
use Rattle.std.proofs.lemmas.Bool.{false≢true}
use Rattle.std.proofs.lemmas.List.{append_assoc, append-nil}
use Rattle.contest_types.specs.Accounts.{comes_before}
use Rattle.contest_types.specs.declared.account.Account.{Account}
use Rattle.contest_types.proofs.AccountLemmas.{not_both}

kept_out : {T : Type 0} (x : T) (xs : List T) (b : Bool) → b ≡ false → xs ≡ xs ++ (if b then x ∷ [] else [])
kept_out x xs true h = absurd (false≢true (sym h))
kept_out x xs false h = sym (append-nil xs)

pub not_after : (a b : Account) (xs : List Account) → comes_before b a ≡ true → xs ≡ xs ++ filter (λ c. comes_before a c) (b ∷ [])
not_after a b xs h = kept_out b xs (comes_before a b) (not_both b.id a.id (slice_cmp nat_cmp b.id a.id) refl h)

-- those so far and those of the rest, after one more of the rest
pub one_more_part : {T : Type 0} (p : T → Bool) (now next left rest whole : List T) (x : T) → now ++ filter p left ≡ whole → left ≡ x ∷ rest → next ≡ now ++ filter p (x ∷ []) → next ++ filter p rest ≡ whole
one_more_part {T} p now next left rest whole x before is grown =
    let go : (b : Bool) → (now ++ (if b then x ∷ [] else [])) ++ filter p rest ≡ now ++ (if b then x ∷ filter p rest else filter p rest) = elim [
      | true ↦ append_assoc now (x ∷ []) (filter p rest)
      | false ↦ ap (λ (xs : List T). xs ++ filter p rest) (append-nil now)
    ] in
    rw grown (go (p x) ∙ (ap (λ xs. now ++ filter p xs) (sym is) ∙ before))

pub around : {T : Type 0} (lower higher xs ys all : List T) (x : T) → lower ≡ xs → higher ≡ ys → all ≡ (lower ++ x ∷ []) ++ higher → all ≡ xs ++ x ∷ ys
around lower higher xs ys all x low high is = is ∙ rw (low, high) (append_assoc xs (x ∷ []) ys)
