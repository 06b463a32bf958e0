-- What is read as a moment is what the text shows.
use Rattle.std.proofs.Common.{◌≡◌, ◌*◌, ◌/◌, ◌%◌, ◌≤◌, ℕ, Bool, true, false, List, Option, Some, None, Result, Ok, Err, refl, ap, arith}
use Rattle.std.specs.Prelude.{ℤ, pos, negsuc, ◌&&◌, ◌==◌, nat_le, IfSome, IfNone, if◌then◌else◌}
use Rattle.std.specs.Option.{option_and_then}
use Rattle.std.specs.Result.{result_ok}
use Rattle.std.proofs.lemmas.Bool.{eqb-true, le-leb, leb-true}
use Rattle.jiff.specs.Words.{parse_timestamp}
use Rattle.contest_types.specs.MomentText.{IsMomentText, latest}
use Rattle.contest_types.proofs.PlaceLemmas.{and_left, and_right}
use Rattle.contest_requests.specs.ClockBodies.{moment_at, moment_of}

-- whole milliseconds are that moment
whole : (m : ℕ) → m ≤ latest → Some m ≡ moment_at (pos (m * 1_000_000))
whole m within =
    let rest : m * 1_000_000 % 1_000_000 ≡ 0 = omega arith in
    let quotient : m * 1_000_000 / 1_000_000 ≡ m = omega arith in
    rw (rest, quotient, le-leb m latest within) refl

-- what isn't a moment is none
unread : {E : Type 0} (r : Result ℤ E) → ((m : ℕ) → r ≡ Ok (pos (m * 1_000_000)) → m ≤ latest → ⊥) → None ≡ option_and_then moment_at (result_ok r)
unread (Err e) none = refl
unread (Ok (negsuc n)) none = refl
unread (Ok (pos n)) none =
    let go : (b : Bool) → ((n % 1_000_000 == 0) && nat_le (n / 1_000_000) latest) ≡ b → None ≡ (if b then Some (n / 1_000_000) else None) = elim [
      | false ↦ λ e. refl
      | true ↦ λ e. (let rest : n % 1_000_000 ≡ 0 = eqb-true (n % 1_000_000) 0 (and_left (n % 1_000_000 == 0) (nat_le (n / 1_000_000) latest) e) in
          let same : n ≡ n / 1_000_000 * 1_000_000 = omega (arith, rest) in
          absurd (none (n / 1_000_000) (ap (λ k. Ok (pos k)) same) (leb-true (n / 1_000_000) latest (and_right (n % 1_000_000 == 0) (nat_le (n / 1_000_000) latest) e))))
    ] in
    go ((n % 1_000_000 == 0) && nat_le (n / 1_000_000) latest) refl

pub read_moment : (text : List ℕ) (o : Option ℕ) → IfSome o (λ m. IsMomentText text m) → IfNone o ((m : ℕ) → IsMomentText text m → ⊥) → o ≡ moment_of text
read_moment text (Some m) found none = rw found.0 (whole m found.1)
read_moment text None found none = unread (parse_timestamp text) (λ m is within. none m (is, within))
