-- The phrases of statuses are short.
use Rattle.std.proofs.Common.{◌≡◌, ◌∙◌, ◌<◌, ◌≤◌, ℕ, zero, suc, Bool, true, false, List, [], length, Option, Some, None, Bor, refl, ap, arith}
use Rattle.std.specs.Prelude.{◌&&◌, nat_le, nat_lt, unwrap_or, if◌then◌else◌}
use Rattle.std.specs.Option.{option_map}
use Rattle.std.proofs.lemmas.Bool.Decides.{Decides-below_and, nat_tests}
use Rattle.std.proofs.lemmas.Bool.{leb-true}
use Rattle.http.specs.StatusCode.{reason_phrase}
use Rattle.contest_types.proofs.PlaceLemmas.{and_right, both_true}
use Rattle.contest_http.specs.Spelling.{phrase_of}

abbrev is_short : ℕ → Bool
is_short n = nat_le (length (unwrap_or (reason_phrase n) [])) 40

abbrev short_below : ℕ → Bool
short_below zero = true
short_below (suc n) = is_short n && short_below n

short : (n : ℕ) → n < 1000 → is_short n ≡ true
short n below = (Decides-below_and is_short (λ k. is_short k ≡ true) short_below (λ k. (λ x. x, λ x. x)) refl (λ _. refl) 1000).0 refl n below

below_thousand : (n : ℕ) → (nat_le 100 n && nat_lt n 1000) ≡ true → n < 1000
below_thousand n h = let e = and_right (nat_le 100 n) (nat_lt n 1000) h in grind (arith, nat_tests, e)

pub phrase_is_short : (n : ℕ) → length (phrase_of n) ≤ 40
phrase_is_short n =
    let go : (b : Bool) → (nat_le 100 n && nat_lt n 1000) ≡ b → length (if b then unwrap_or (reason_phrase n) [] else []) ≤ 40 = elim [
      | true ↦ λ e. leb-true (length (unwrap_or (reason_phrase n) [])) 40 (short n (below_thousand n e))
      | false ↦ λ e. omega arith
    ] in
    go (nat_le 100 n && nat_lt n 1000) refl

-- the phrase that crate http gives, or none
unwrapped : (found : Option (Bor (List ℕ))) (none : Bor (List ℕ)) → none.now ≡ [] → (unwrap_or found none).now ≡ unwrap_or (option_map (λ s. s.now) found) []
unwrapped None none e = e
unwrapped (Some s) none e = refl

within_range : (n : ℕ) → 100 ≤ n → n < 1000 → (nat_le 100 n && nat_lt n 1000) ≡ true
within_range n low high = both_true (nat_le 100 n) (nat_lt n 1000) (grind (arith, nat_tests, low)) (grind (arith, nat_tests, high))

pub phrase_given : (n : ℕ) (found : Option (Bor (List ℕ))) (ptr : _) → option_map (λ s. s.now) found ≡ reason_phrase n → 100 ≤ n → n < 1000
    → (unwrap_or found record { ref_ptr = ptr; now = [] }).now ≡ phrase_of n
phrase_given n found ptr value low high =
    let range = within_range n low high in
    unwrapped found record { ref_ptr = ptr; now = [] } refl ∙ (ap (λ o. unwrap_or o []) value ∙ rw range refl)
