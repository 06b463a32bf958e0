-- Rows that belong together, and what is asked of them.
use Rattle.std.specs.Prelude.{ℕ, Bool, true, not, ◌&&◌, nat_le, nat_eq, List, [], ◌∷◌, length, filter, Option, None, Some}
use Rattle.std.specs.List.{list_all, filter_map, range_with_len}
use Rattle.std.specs.Cmp.Lexicographic.{pointwise}
use Rattle.contest_types.specs.Places.{is_among, are_different}

-- of the rows that belong together with each row, the test holds
abbrev pub in_each : {X : Type 0} → (X → X → Bool) → (List X → Bool) → List X → Bool
in_each together test xs = list_all (λ x. test (filter (together x) xs)) xs

-- the numbers are 1, 2, 3 and so on, without a gap
abbrev pub count_up : List ℕ → Bool
count_up ns = pointwise nat_eq ns (range_with_len 1 (length ns))

-- no time is later than one after it
abbrev pub never_fall : List ℕ → Bool
never_fall [] = true
never_fall (t ∷ ts) = list_all (nat_le t) ts && never_fall ts

-- no key stands twice
abbrev pub have_own_keys : List (Option (List ℕ)) → Bool
have_own_keys keys = are_different (filter_map (λ key. key) keys)

-- the key, if there is one, is none of these
abbrev pub is_new_key : List (Option (List ℕ)) → Option (List ℕ) → Bool
is_new_key keys None = true
is_new_key keys (Some key) = not (is_among (filter_map (λ k. k) keys) key)
