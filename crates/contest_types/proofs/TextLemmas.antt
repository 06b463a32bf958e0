-- Texts that bytes spell: names, and what clarifications say.
use Rattle.std.proofs.Common.{◌≡◌, ◌∙◌, ℕ, List, Option, Some, None, Ok, Err, refl, sym, ap, inl, inr}
use Rattle.std.specs.Prelude.{Bool, Result, OnErr, IsTrue, IsSome, if◌then◌else◌}
use Rattle.std.specs.Str.{is_utf8, IsUtf8}
use Rattle.std.proofs.lemmas.Bool.{cases_Bool}
use Rattle.std.proofs.lemmas.Str.{is_utf8-from_IsUtf8, IsUtf8-from_is_utf8}

pub of_text : (read : List ℕ → Option (List ℕ)) (bytes text : List ℕ) (found : Option (List ℕ))
    → text ≡ bytes → IsUtf8 bytes → found ≡ read text → found ≡ (if is_utf8 bytes then read bytes else None)
of_text read bytes text found same utf8 h = h ∙ ap read same ∙ sym (rw (is_utf8-from_IsUtf8 bytes utf8) refl)

pub no_text : (read : List ℕ → Option (List ℕ)) (bytes : List ℕ)
    → (IsUtf8 bytes → ⊥) → (if is_utf8 bytes then read bytes else None) ≡ None
no_text read bytes bad = elim (cases_Bool (is_utf8 bytes)) [
  | inl good ↦ absurd (bad (IsUtf8-from_is_utf8 bytes good))
  | inr not_utf8 ↦ rw not_utf8 refl
]

-- memory is wanted only for a text that passes the test
pub wanted : {A E : Type 0} (test : List ℕ → Bool) (bytes text : List ℕ) (r : Result A E)
    → text ≡ bytes → IsUtf8 bytes → OnErr r (IsTrue (test text))
    → OnErr r (IsSome (if is_utf8 bytes then (if test bytes then Some bytes else None) else None))
wanted test bytes text (Ok x) same utf8 h = tt
wanted test bytes text (Err e) same utf8 h = rw (is_utf8-from_IsUtf8 bytes utf8, ← same, h) refl

-- a text that passes the test is read of its own bytes
pub read_back : (test : List ℕ → Bool) (bytes inside text : List ℕ) → inside ≡ bytes → text ≡ inside → IsUtf8 text → IsTrue (test inside)
    → (if is_utf8 bytes then (if test bytes then Some bytes else None) else None) ≡ Some bytes
read_back test bytes inside text view same utf8 h = rw (← view, ← same, is_utf8-from_IsUtf8 text utf8, rw (← same) at h) refl
