-- A walk over a slice whose items are read by a function.
use Rattle.std.proofs.Common.{List, [], ◌∷◌, map, Option, ap}
use Rattle.std.specs.Iterator.{AlwaysYields}
use Rattle.std.proofs.lemmas.Iterator.{YieldsList}

module _ {S A B C : Type 0} (steps : S → Option A → S → Type 0) (v : A → B) (f : B → C) where
  always_read : (ys : List B) (s : S) → AlwaysYields steps v s ys → AlwaysYields steps (λ x. f (v x)) s (map f ys)
  always_read [] s h = h
  always_read (y ∷ ys) s h = (h.0, λ x j step. let next = h.1 x j step in (ap f next.0, always_read ys j next.1))

pub read_by : {S A B C : Type 0} {steps : S → Option A → S → Type 0} {v : A → B} {s : S} {ys : List B} (f : B → C) → YieldsList steps v s ys → YieldsList steps (λ x. f (v x)) s (map f ys)
read_by {steps = steps} {v = v} {s = s} {ys = ys} f h = record { runs = always_read steps v f ys s h.runs }
