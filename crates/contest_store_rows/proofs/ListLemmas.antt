-- Tables that are read row by row.
use Rattle.std.proofs.Common.{◌≡◌, ◌∙◌, ◌+◌, ◌<◌, ℕ, List, [], ◌∷◌, ◌++◌, length, take, drop, get_or, Bool, true, false, cond, Option, Some, None, refl, sym, ap, append_assoc, drop-cons, add-one}
use Rattle.std.specs.List.{take_while}
use Rattle.std.specs.Option.{option_map}
use Rattle.std.proofs.lemmas.List.Sums.{take_while-cons}
use Rattle.std.specs.Prelude.{◌==◌}
use Rattle.sqlite_value.specs.Order.{Row, column}
use Rattle.contest_types.specs.Setup.{Setup}
use Rattle.contest_types.specs.declared.rejudging.Rejudging.{Rejudging}
use Rattle.contest_store_rows.specs.Cells.{number_of}
use Rattle.contest_store_rows.specs.Lists.{list_from}
use Rattle.contest_store_rows.specs.Rejudgings.{rejudgings_from, rejudging_in, own_rows}

-- what was read, and then the rest
abbrev pub with_front : {X : Type 0} → List X → Option (List X) → Option (List X)
with_front front rest = option_map (λ xs. front ++ xs) rest

pub joined : {X : Type 0} (front : List X) (x : X) (rest : Option (List X)) → with_front front (option_map (λ xs. x ∷ xs) rest) ≡ with_front (front ++ x ∷ []) rest
joined front x None = refl
joined front x (Some xs) = ap Some (sym (append_assoc front (x ∷ []) xs))

next_rows : {X : Type 0} (rows : List X) (at : ℕ) (row : X) → at < length rows → row ≡ get_or rows at row → drop at rows ≡ row ∷ drop (at + 1) rows
next_rows rows at row within there = rw (drop-cons rows at row within, sym there, add-one at) refl

row_read : {X : Type 0} (f : ℕ → Row → Option X) (n : ℕ) (row : Row) (rows : List Row) (front : List X) (x : X) → f n row ≡ Some x →
    with_front front (list_from f n (row ∷ rows)) ≡ with_front (front ++ x ∷ []) (list_from f (n + 1) rows)
row_read f n row rows front x is = rw is (joined front x (list_from f (n + 1) rows))

-- one row more was read
pub read_more : {X : Type 0} (f : ℕ → Row → Option X) (rows : List Row) (at : ℕ) (front : List X) (row : Row) (x : X) →
    at < length rows → row ≡ get_or rows at row → f (at + 1) row ≡ Some x →
    with_front front (list_from f (at + 1) (drop at rows)) ≡ with_front (front ++ x ∷ []) (list_from f (at + 1 + 1) (drop (at + 1) rows))
read_more f rows at front row x within there is = rw (next_rows rows at row within there) (row_read f (at + 1) row (drop (at + 1) rows) front x is)

rejudging_read : (s : Setup) (n : ℕ) (row : Row) (rows members : List Row) (front : List Rejudging) (j : Rejudging) → rejudging_in s n row (own_rows n members) ≡ Some j →
    with_front front (rejudgings_from s n (row ∷ rows) members) ≡ with_front (front ++ j ∷ []) (rejudgings_from s (n + 1) rows (drop (length (own_rows n members)) members))
rejudging_read s n row rows members front j is = rw is (joined front j (rejudgings_from s (n + 1) rows (drop (length (own_rows n members)) members)))

taken_next : {X : Type 0} (x : X) (xs front : List X) (b : Bool) → take (length front) xs ≡ front → take (length (cond b (x ∷ front) [])) (x ∷ xs) ≡ cond b (x ∷ front) []
taken_next x xs front true is = ap (λ ys. x ∷ ys) is
taken_next x xs front false is = refl

-- what a test takes from the front is the front
pub taken : {X : Type 0} (p : X → Bool) (xs : List X) → take (length (take_while p xs)) xs ≡ take_while p xs
taken p [] = refl
taken p (x ∷ xs) = rw (take_while-cons p x xs) (taken_next x xs (take_while p xs) (p x) (taken p xs))

read_own : (s : Setup) (n count : ℕ) (row : Row) (rows : List Row) (found : Option Rejudging) → found ≡ rejudging_in s n row (take count rows) → count ≡ length (own_rows n rows) → rejudging_in s n row (own_rows n rows) ≡ found
read_own s n count row rows found is counted =
    let own : take count rows ≡ own_rows n rows = rw counted (taken (λ r. number_of (column r 0) == n) rows) in
    sym (is ∙ rw own refl)

-- one rejudging more was read, from its own row and the next rows of members
pub rejudging_more : (s : Setup) (rows left : List Row) (at count : ℕ) (front : List Rejudging) (row : Row) (found : Option Rejudging) (j : Rejudging) →
    at < length rows → row ≡ get_or rows at row → count ≡ length (own_rows (at + 1) left) → found ≡ rejudging_in s (at + 1) row (take count left) → found ≡ Some j →
    with_front front (rejudgings_from s (at + 1) (drop at rows) left) ≡ with_front (front ++ j ∷ []) (rejudgings_from s (at + 1 + 1) (drop (at + 1) rows) (drop count left))
rejudging_more s rows left at count front row found j within there counted found_is is =
    rw (next_rows rows at row within there, counted) (rejudging_read s (at + 1) row (drop (at + 1) rows) left front j (read_own s (at + 1) count row left found found_is counted ∙ is))

pub rejudging_none : (s : Setup) (rows left : List Row) (at count : ℕ) (front : List Rejudging) (row : Row) (found : Option Rejudging) →
    at < length rows → row ≡ get_or rows at row → count ≡ length (own_rows (at + 1) left) → found ≡ rejudging_in s (at + 1) row (take count left) → found ≡ None →
    with_front front (rejudgings_from s (at + 1) (drop at rows) left) ≡ None
rejudging_none s rows left at count front row found within there counted found_is is =
    rw (next_rows rows at row within there, read_own s (at + 1) count row left found found_is counted, is) refl

-- rows of members are left over
pub left_over : (s : Setup) (n : ℕ) (row : Row) (rows left : List Row) (front : List Rejudging) → rows ≡ [] → (left ≡ [] → ⊥) → with_front front (rejudgings_from s n rows left) ≡ None
left_over s n row rows [] front none more = absurd (more refl)
left_over s n row rows (l ∷ left) front none more = rw none refl
