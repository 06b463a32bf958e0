-- What tells which rows belong together (own).
use Rattle.std.specs.Prelude.{ℕ, Bool, ◌&&◌, List, nat_eq, Option}
use Rattle.std.specs.List.{filter_map}
use Rattle.std.specs.Option.{option_map}
use Rattle.std.specs.Str.{bytes_eq}
use Rattle.std.specs.Borrow.{Bor}
use Rattle.contest_types.specs.State.{SubmissionRef}

-- both parts are the same
abbrev pub same_pair : {A B : Type 0} → (A → A → Bool) → (B → B → Bool) → A × B → A × B → Bool
same_pair same_first same_second p q = same_first p.0 q.0 && same_second p.1 q.1

-- the place of a submission's team, and its number
abbrev pub pair_of : SubmissionRef → ℕ × ℕ
pair_of r = (r.team, r.number)

abbrev pub same_numbers : ℕ × ℕ → ℕ × ℕ → Bool
same_numbers = same_pair nat_eq nat_eq

-- the idempotency keys, each with whose it is
abbrev pub keyed : {X S : Type 0} → (X → S) → (X → Option (List ℕ)) → List X → List (S × List ℕ)
keyed whose key = filter_map (λ x. option_map (λ k. (whose x, k)) (key x))

abbrev pub same_keyed : {S : Type 0} → (S → S → Bool) → S × List ℕ → S × List ℕ → Bool
same_keyed same = same_pair same bytes_eq

-- a key that is borrowed
abbrev pub read : {S : Type 0} → S × Bor (List ℕ) → S × List ℕ
read k = (k.0, k.1.now)
