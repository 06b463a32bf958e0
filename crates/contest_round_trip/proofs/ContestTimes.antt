-- The time since the start.
use Rattle.std.proofs.Common.{◌≡◌, ◌∙◌, ◌≤◌, ◌-◌, ◌-ℤ◌, ℕ, ℤ, Some, pos, negsuc, refl, sym, ap, arith}
use Rattle.std.specs.Prelude.{unsigned_abs}
use Rattle.std.specs.Str.{IsUtf8}
use Rattle.std.proofs.lemmas.Str.{IsUtf8-from_ascii}
use Rattle.jiff_core.proofs.SignedLemmas.{signed_arith}
use Rattle.contest_types.specs.MomentText.{latest}
use Rattle.contest_types.specs.RelTimeRead.{reltime_of}
use Rattle.contest_types.specs.RelTimeText.{farthest, rel_time_text}
use Rattle.contest_types.proofs.Printed.{printed, printed_ascii}
use Rattle.contest_types.proofs.RelTimeReading.{found_at}

pub near : (t s : ℕ) → t ≤ latest → s ≤ latest → unsigned_abs (pos t -ℤ pos s) ≤ farthest
near t s h k = by_sign (pos t -ℤ pos s) refl
  where
    by_sign : (z : ℤ) → z ≡ pos t -ℤ pos s → unsigned_abs z ≤ farthest
    by_sign (pos n) e = omega (arith, signed_arith, e, h)
    by_sign (negsuc n) e = omega (arith, signed_arith, e, k)

pub since : (t s : ℕ) → s ≤ t → pos t -ℤ pos s ≡ pos (t - s)
since t s h = omega (arith, signed_arith, h)

pub span_utf8 : (z : ℤ) → unsigned_abs z ≤ farthest → IsUtf8 (rel_time_text z)
span_utf8 z h = IsUtf8-from_ascii (rel_time_text z) (printed_ascii z h)

pub since_utf8 : (t s : ℕ) → t ≤ latest → s ≤ latest → IsUtf8 (rel_time_text (pos t -ℤ pos s))
since_utf8 t s h k = span_utf8 (pos t -ℤ pos s) (near t s h k)

-- a relative time is read back
pub span_back : (z : ℤ) → unsigned_abs z ≤ farthest → reltime_of (rel_time_text z) ≡ Some z
span_back z h = sym (found_at (rel_time_text z) z (reltime_of (rel_time_text z)) refl (printed z h))

pub since_back : (t s : ℕ) → t ≤ latest → s ≤ t → reltime_of (rel_time_text (pos t -ℤ pos s)) ≡ Some (pos (t - s))
since_back t s h k = span_back (pos t -ℤ pos s) (near t s h (omega (arith, h, k))) ∙ ap Some (since t s k)
