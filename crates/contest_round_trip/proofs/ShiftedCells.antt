-- A cell is the same if its contest starts at moment 0 and each attempt is that much earlier.
use Rattle.std.proofs.Common.{◌≡◌, ◌∙◌, ◌-◌, ◌/◌, ℕ, Bool, true, false, List, [], ◌∷◌, Option, Some, map, refl, sym, ap, arith}
use Rattle.std.specs.Prelude.{count_by, cond, if◌then◌else◌}
use Rattle.std.specs.List.{find}
use Rattle.std.specs.Option.{option_map}
use Rattle.contest_types.specs.declared.minute.Minute.{Minute}
use Rattle.contest_types.proofs.InOrderLemmas.{count_more}
use Rattle.contest_score.specs.declared.attempt.Attempt.{Attempt}
use Rattle.contest_score.specs.declared.cell.Cell.{Cell}
use Rattle.contest_score.specs.Scoring.{cell_of_attempts, counted, is_judged, is_pending, is_penalised, is_solving, minute_of}
use Rattle.contest_score.proofs.Counted.{counted-until, until_solved}

abbrev pub earlier_by : (start : ℕ) → Attempt → Attempt
earlier_by start a = record { time = a.time - start; verdict = a.verdict }

until_shifted : (start : ℕ) (xs : List Attempt) → until_solved (map (earlier_by start) xs) ≡ map (earlier_by start) (until_solved xs)
until_shifted start [] = refl
until_shifted start (x ∷ xs) =
    let go : (b : Bool) → cond b [] (until_solved (map (earlier_by start) xs)) ≡ map (earlier_by start) (cond b [] (until_solved xs)) =
    elim [ true ↦ refl | false ↦ until_shifted start xs ] in
    ap (λ rest. earlier_by start x ∷ rest) (go (is_solving x))

counted_shifted : (start : ℕ) (xs : List Attempt) → counted (map (earlier_by start) xs) ≡ map (earlier_by start) (counted xs)
counted_shifted start xs = counted-until _ ∙ until_shifted start xs ∙ ap (map (earlier_by start)) (sym (counted-until xs))

count_shifted : (start : ℕ) (p : Attempt → Bool) → ((a : Attempt) → p (earlier_by start a) ≡ p a) → (xs : List Attempt) → count_by p (map (earlier_by start) xs) ≡ count_by p xs
count_shifted start p same [] = refl
count_shifted start p same (x ∷ xs) =
    count_more p (earlier_by start x) (map (earlier_by start) xs) ∙ rw (same x, count_shifted start p same xs) (sym (count_more p x xs))

minute_shifted : (start time : ℕ) → minute_of 0 (time - start) ≡ minute_of start time
minute_shifted start time = let none : (time - start) - 0 ≡ time - start = omega arith in ap (λ n. record { 0 = n / 60_000 }) none

solved_shifted : (start : ℕ) (xs : List Attempt) → option_map (λ a. minute_of 0 a.time) (find is_solving (map (earlier_by start) xs)) ≡ option_map (λ a. minute_of start a.time) (find is_solving xs)
solved_shifted start [] = refl
solved_shifted start (x ∷ xs) =
    let go : (b : Bool) → option_map (λ (a : Attempt). minute_of 0 a.time) (if b then Some (earlier_by start x) else find is_solving (map (earlier_by start) xs)) ≡ option_map (λ a. minute_of start a.time) (if b then Some x else find is_solving xs) =
    elim [ true ↦ ap Some (minute_shifted start x.time) | false ↦ solved_shifted start xs ] in
    go (is_solving x)

pub cell_shifted : (start : ℕ) (xs : List Attempt) → cell_of_attempts 0 (map (earlier_by start) xs) ≡ cell_of_attempts start xs
cell_shifted start xs =
    let ys : List Attempt = counted xs in
    let make : ℕ → ℕ → Option Minute → ℕ → Cell = λ j p m n. record { judged = j; pending = p; solved = m; penalties = n } in
    let of : List Attempt → Cell = λ zs. make (count_by is_judged zs) (count_by is_pending zs) (option_map (λ (a : Attempt). minute_of 0 a.time) (find is_solving zs)) (count_by is_penalised zs) in
    ap of (counted_shifted start xs)
    ∙ rw (count_shifted start is_judged (λ a. refl) ys, count_shifted start is_pending (λ a. refl) ys, count_shifted start is_penalised (λ a. refl) ys, solved_shifted start ys) refl
