-- A score grows cell by cell.
use Rattle.std.proofs.Common.{◌≡◌, ℕ, ◌+◌, ◌*◌, ◌<◌, ◌≤◌, ◌^◌, cond, List, [], ◌∷◌, ◌++◌, length, take, get_or, Option, Some, None, refl, sym, ap, ◌∙◌, add-zero, arith}
use Rattle.std.specs.List.{count_by, sum_by, fold, filter_map}
use Rattle.std.proofs.lemmas.List.{take_more, take_all}
use Rattle.std.proofs.lemmas.List.Sums.{sum_by_more, fold-append}
use Rattle.std.proofs.lemmas.List.Elements.{filter_map-append}
use Rattle.contest_score.specs.declared.cell.Cell.{Cell}
use Rattle.contest_types.specs.declared.minute.Minute.{Minute}
use Rattle.contest_score.specs.Scoring.{is_solved, points, last_of, later_of, score_of_cells}
use Rattle.contest_score.specs.declared.score.Score.{Score}

-- what the first n cells come to, within a bound for each
pub record Sums (penalty_time : ℕ) (cs : List Cell) (n solved total : ℕ) (last : Option Minute) : Type 0 where
  pub count : solved ≡ count_by is_solved (take n cs)
  pub few : solved ≤ n
  pub sum : total ≡ sum_by (points penalty_time) (take n cs)
  pub bound : total ≤ n * (1001 * 2 ^ 32)
  pub latest : last ≡ last_of (take n cs)

last_of-append : (xs : List Cell) (x : Cell) → last_of (xs ++ x ∷ []) ≡ fold later_of (last_of xs) (filter_map (λ c. c.solved) (x ∷ []))
last_of-append xs x = ap (fold later_of None) (filter_map-append (λ c. c.solved) xs (x ∷ [])) ∙ fold-append later_of None (filter_map (λ c. c.solved) xs) (filter_map (λ c. c.solved) (x ∷ []))

points_more : (penalty_time : ℕ) (cs : List Cell) (n solved total : ℕ) (last : Option Minute) (d : Cell) (p : ℕ) → Sums penalty_time cs n solved total last → n < length cs → p ≡ points penalty_time (get_or cs n d) → total + p ≡ sum_by (points penalty_time) (take (n + 1) cs)
points_more penalty_time cs n solved total last d p s l is_p =
    ap (λ k. k + p) s.sum ∙ (ap (λ k. sum_by (points penalty_time) (take n cs) + k) is_p ∙ sym (sum_by_more (points penalty_time) cs n d l))

-- an unsolved problem
pub Sums-unsolved : (penalty_time : ℕ) (cs : List Cell) (n solved total : ℕ) (last : Option Minute) (d : Cell) (p : ℕ) → Sums penalty_time cs n solved total last → n < length cs → (get_or cs n d).solved ≡ None → p ≡ points penalty_time (get_or cs n d) → p ≤ 1001 * 2 ^ 32 → Sums penalty_time cs (n + 1) solved (total + p) last
Sums-unsolved penalty_time cs n solved total last d p s l h is_p b = record {
  count = s.count ∙ sym (sum_by_more (λ c. cond (is_solved c) 1 0) cs n d l ∙ (rw h (add-zero (count_by is_solved (take n cs)))));
  few = omega (arith, s.few);
  sum = points_more penalty_time cs n solved total last d p s l is_p;
  bound = omega (arith, s.bound, b);
  latest = s.latest ∙ sym (rw (take_more cs n d l, last_of-append, h) refl);
}

-- and a solved one
pub Sums-solved : (penalty_time : ℕ) (cs : List Cell) (n solved total : ℕ) (last : Option Minute) (d : Cell) (m : Minute) (p : ℕ) → Sums penalty_time cs n solved total last → n < length cs → (get_or cs n d).solved ≡ Some m → p ≡ points penalty_time (get_or cs n d) → p ≤ 1001 * 2 ^ 32 → Sums penalty_time cs (n + 1) (solved + 1) (total + p) (later_of last m)
Sums-solved penalty_time cs n solved total last d m p s l h is_p b = record {
  count = ap (λ k. k + 1) s.count ∙ sym (sum_by_more (λ c. cond (is_solved c) 1 0) cs n d l ∙ (rw h refl));
  few = omega (arith, s.few);
  sum = points_more penalty_time cs n solved total last d p s l is_p;
  bound = omega (arith, s.bound, b);
  latest = ap (λ o. later_of o m) s.latest ∙ sym (rw (take_more cs n d l, last_of-append, h) refl);
}

pub score_at_end : (penalty_time : ℕ) (cs : List Cell) (n solved total : ℕ) (last : Option Minute) → length cs ≤ n → Sums penalty_time cs n solved total last → record { solved = solved; total = total; last = last } ≡ score_of_cells penalty_time cs
score_at_end penalty_time cs n solved total last l s =
    let whole : take n cs ≡ cs = take_all n cs l in
    let score : ℕ → ℕ → Option Minute → Score = λ a b c. record { solved = a; total = b; last = c } in
    let same : score solved total last ≡ score (count_by is_solved cs) (sum_by (points penalty_time) cs) (last_of cs) = cc (rw whole at s.count, rw whole at s.sum, rw whole at s.latest) in
    same
