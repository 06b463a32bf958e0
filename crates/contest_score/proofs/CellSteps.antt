-- A cell grows by one attempt at a time.
use Rattle.std.proofs.Common.{◌≡◌, ℕ, ◌+◌, ◌<◌, ◌≤◌, ◌^◌, Bool, true, false, cond, ◌&&◌, List, [], ◌∷◌, ◌++◌, length, take, get_or, Option, Some, None, refl, sym, ap, ◌∙◌, add-zero, arith, inl, inr}
use Rattle.std.proofs.lemmas.List.{take_more, length-take}
use Rattle.std.specs.Prelude.{not, is_some}
use Rattle.std.specs.Option.{option_map}
use Rattle.std.specs.List.{list_any, count_by, find}
use Rattle.std.proofs.lemmas.List.Folds.{find-append}
use Rattle.std.proofs.lemmas.List.Sums.{sum_by_push, count_by-le-length}
use Rattle.std.proofs.lemmas.Bool.{cases_Bool}
use Rattle.contest_types.specs.declared.minute.Minute.{Minute}
use Rattle.contest_score.specs.declared.attempt.Attempt.{Attempt}
use Rattle.contest_score.specs.declared.attempt.Verdict.{Verdict}
use Rattle.contest_score.specs.declared.cell.Cell.{Cell}
use Rattle.contest_score.specs.Scoring.{is_solving, is_judged, is_pending, is_penalised, counted, cell_of_attempts, minute_of, is_solved}
use Rattle.contest_score.specs.Counting.{cell_with, attempted_with, HasRoom}
use Rattle.contest_score.proofs.Counted.{counted_open, counted_past, counted_more, length-counted, find_none, found_counted}

same_cell : (a b : Cell) → a.judged ≡ b.judged → a.pending ≡ b.pending → a.solved ≡ b.solved → a.penalties ≡ b.penalties → a ≡ b
same_cell a b j p s n =
    let cell : ℕ → ℕ → Option Minute → ℕ → Cell = λ j p s n. record { judged = j; pending = p; solved = s; penalties = n } in
    let same : cell a.judged a.pending a.solved a.penalties ≡ cell b.judged b.pending b.solved b.penalties = cc (j, p, s, n) in
    same

count_push : (p : Attempt → Bool) (xs : List Attempt) (x : Attempt) (b : Bool) → p x ≡ b → count_by p (xs ++ x ∷ []) ≡ count_by p xs + cond b 1 0
count_push p xs x b h = sum_by_push (λ y. cond (p y) 1 0) xs x ∙ ap (λ v. count_by p xs + cond v 1 0) h

one_more : (b : Bool) (n : ℕ) → n + cond b 1 0 ≡ cond b (n + 1) n
one_more true n = refl
one_more false n = add-zero n

minute_if : (start : ℕ) (x : Attempt) (b : Bool) → option_map (λ (a : Attempt). minute_of start a.time) (cond b (Some x) None) ≡ cond b (Some (minute_of start x.time)) None
minute_if start x true = refl
minute_if start x false = refl

-- one more where nothing solves yet
pending_more : (start : ℕ) (xs : List Attempt) (x : Attempt) → list_any is_solving xs ≡ false → x.verdict ≡ None → cell_of_attempts start (xs ++ x ∷ []) ≡ attempted_with start (cell_of_attempts start xs) x.time None
pending_more start xs x h e =
    let those : counted (xs ++ x ∷ []) ≡ xs ++ x ∷ [] = counted_more xs x h in
    let these : counted xs ≡ xs = counted_open xs h in
    same_cell _ _
    (rw (those, these, count_push is_judged xs x false (rw e refl)) (add-zero _))
    (rw (those, these, count_push is_pending xs x true (rw e refl)) refl)
    (rw (those, these, find-append, find_none is_solving xs h, e) refl)
    (rw (those, these, count_push is_penalised xs x false (rw e refl)) (add-zero _))

judged_more : (start : ℕ) (xs : List Attempt) (x : Attempt) (v : Verdict) → list_any is_solving xs ≡ false → x.verdict ≡ Some v → cell_of_attempts start (xs ++ x ∷ []) ≡ attempted_with start (cell_of_attempts start xs) x.time (Some v)
judged_more start xs x v h e =
    let those : counted (xs ++ x ∷ []) ≡ xs ++ x ∷ [] = counted_more xs x h in
    let these : counted xs ≡ xs = counted_open xs h in
    same_cell _ _
    (rw (those, these, count_push is_judged xs x true (rw e refl)) refl)
    (rw (those, these, count_push is_pending xs x false (rw e refl)) (add-zero _))
    (rw (those, these, find-append, find_none is_solving xs h, e) (minute_if start (record { time = x.time; verdict = Some v }) v.solving))
    (rw (those, these, count_push is_penalised xs x (v.penalised && not v.solving) (rw e refl)) (one_more (v.penalised && not v.solving) (count_by is_penalised xs)))

seen_more : (start : ℕ) (xs : List Attempt) (x : Attempt) (o : Option Verdict) → x.verdict ≡ o → list_any is_solving xs ≡ false → cell_of_attempts start (xs ++ x ∷ []) ≡ attempted_with start (cell_of_attempts start xs) x.time o
seen_more start xs x None e h = pending_more start xs x h e
seen_more start xs x (Some v) e h = judged_more start xs x v h e

is_some-map : {X Y : Type 0} (f : X → Y) (o : Option X) → is_some (option_map f o) ≡ is_some o
is_some-map f None = refl
is_some-map f (Some x) = refl

pub solved_cell : (start : ℕ) (xs : List Attempt) → list_any is_solving xs ≡ true → is_solved (cell_of_attempts start xs) ≡ true
solved_cell start xs h = is_some-map _ (find is_solving (counted xs)) ∙ found_counted xs h

open_cell : (start : ℕ) (xs : List Attempt) → list_any is_solving xs ≡ false → is_solved (cell_of_attempts start xs) ≡ false
open_cell start xs h = rw (counted_open xs h, find_none is_solving xs h) refl

with_solved : (start : ℕ) (c : Cell) (x : Attempt) → is_solved c ≡ true → cell_with start c x ≡ c
with_solved start c x h = rw h refl

with_open : (start : ℕ) (c : Cell) (x : Attempt) → is_solved c ≡ false → cell_with start c x ≡ attempted_with start c x.time x.verdict
with_open start c x h = rw h refl

-- past one that solves the cell stays
pub cell_past : (start : ℕ) (xs ys : List Attempt) → list_any is_solving xs ≡ true → cell_of_attempts start (xs ++ ys) ≡ cell_of_attempts start xs
cell_past start xs ys yet =
    let cell : List Attempt → Cell = λ counts. record { judged = count_by is_judged counts; pending = count_by is_pending counts; solved = option_map (λ (a : Attempt). minute_of start a.time) (find is_solving counts); penalties = count_by is_penalised counts } in
    let same : cell (counted (xs ++ ys)) ≡ cell (counted xs) = ap cell (counted_past xs ys yet) in
    same

-- the cell of attempts with one more at the end
pub cell_more : (start : ℕ) (xs : List Attempt) (x : Attempt) → cell_of_attempts start (xs ++ x ∷ []) ≡ cell_with start (cell_of_attempts start xs) x
cell_more start xs x = elim (cases_Bool (list_any is_solving xs)) [
  | inl yet ↦ cell_past start xs (x ∷ []) yet ∙ sym (with_solved start (cell_of_attempts start xs) x (solved_cell start xs yet))
  | inr not_yet ↦ seen_more start xs x x.verdict refl not_yet ∙ sym (with_open start (cell_of_attempts start xs) x (open_cell start xs not_yet))
]

-- a cell counts no more than there are attempts
count_most : (p : Attempt → Bool) (xs : List Attempt) → count_by p (counted xs) ≤ length xs
count_most p xs = omega (arith, count_by-le-length p (counted xs), length-counted xs)

pub cell_room : (start : ℕ) (xs : List Attempt) → length xs + 1 < 2 ^ 32 → HasRoom (cell_of_attempts start xs)
cell_room start xs l = record {
  judged = omega (arith, count_most is_judged xs, l);
  pending = omega (arith, count_most is_pending xs, l);
  penalties = omega (arith, count_most is_penalised xs, l);
}

-- of the first attempts the cell has room, and one more takes it to the next
pub room_at : (start : ℕ) (xs : List Attempt) (n : ℕ) → length xs ≤ 500 → HasRoom (cell_of_attempts start (take n xs))
room_at start xs n l =
    let few : length (take n xs) ≤ 500 = omega (arith, length-take n xs, l) in
    let fits : length (take n xs) + 1 < 2 ^ 32 = omega (arith, few) in
    cell_room start (take n xs) fits

pub next_cell : (start : ℕ) (xs : List Attempt) (i : ℕ) (x : Attempt) (c : Cell) → i < length xs → x ≡ get_or xs i x → c ≡ cell_of_attempts start (take i xs) → cell_with start c x ≡ cell_of_attempts start (take (i + 1) xs)
next_cell start xs i x c l e h =
    let grown : take (i + 1) xs ≡ take i xs ++ x ∷ [] = rw (← e) at (take_more xs i x l) in
    rw (h, grown) (sym (cell_more start (take i xs) x))
