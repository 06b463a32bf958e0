-- The last solved minute is the greatest.
use Rattle.std.proofs.Common.{◌≡◌, ℕ, ◌≤◌, Bool, true, false, ltb, List, [], ◌∷◌, Option, Some, None, refl, sym, ap, subst, ◌∙◌, inl, inr, arith}
use Rattle.std.specs.Prelude.{nat_lt, fold, if◌then◌else◌}
use Rattle.std.proofs.lemmas.Bool.Decides.{nat_tests}
use Rattle.std.proofs.lemmas.Bool.{ltb-false}
use Rattle.contest_types.specs.Order.{Has}
use Rattle.contest_types.specs.declared.minute.Minute.{Minute}
use Rattle.contest_score.specs.declared.cell.Cell.{Cell}
use Rattle.contest_score.specs.Scoring.{later_of, solved_minutes, last_of}

-- what is found is one of these minutes, and none is later
record Latest (ms : List Minute) (o : Option Minute) : Type 0 where
  minute : Minute
  is : o ≡ Some minute
  there : Has ms minute
  last : (n : Minute) → Has ms n → n.0 ≤ minute.0

is_less : (m n : ℕ) → ltb m n ≡ true → m ≤ n
is_less m n h = grind (arith, nat_tests)

latest : (n : Minute) (ms : List Minute) → Latest (n ∷ ms) (fold later_of (Some n) ms)
latest n [] = record { minute = n; is = refl; there = inl refl; last = λ k h. elim h [ inl e ↦ (let t : k.0 ≡ n.0 = ap (λ (u : Minute). u.0) e in omega (arith, t)) | inr t ↦ absurd t ] }
latest n (m ∷ ms) =
    let one : (b k : Minute) → k.0 ≤ b.0 → (r : Latest (b ∷ ms) (fold later_of (Some b) ms)) → (u : Minute) → u ≡ k → u.0 ≤ r.minute.0 = λ b k low r u e.
    (let t : u.0 ≡ k.0 = ap (λ (w : Minute). w.0) e in let top = r.last b (inl refl) in omega (arith, t, low, top)) in
    let go : (c : Bool) → nat_lt n.0 m.0 ≡ c → Latest (n ∷ m ∷ ms) (fold later_of (Some (if c then m else n)) ms) = elim [
      | true ↦ λ e. (let r = latest m ms in record {
        minute = r.minute;
        is = r.is;
        there = inr r.there;
        last = λ k h. elim h [ inl i ↦ one m n (is_less n.0 m.0 e) r k i | inr t ↦ r.last k t ];
      })
      | false ↦ λ e. (let r = latest n ms in record {
        minute = r.minute;
        is = r.is;
        there = elim r.there [ inl i ↦ inl i | inr t ↦ inr (inr t) ];
        last = λ k h. elim h [ inl i ↦ r.last k (inl i) | inr t ↦ elim t [ inl i ↦ one n m (ltb-false n.0 m.0 e) r k i | inr u ↦ r.last k (inr u) ] ];
      })
    ] in
    go (nat_lt n.0 m.0) refl

abbrev IsLast : List Minute → Option Minute → Type 0
IsLast ms o = ((m : Minute) → o ≡ Some m → Has ms m × ((n : Minute) → Has ms n → n.0 ≤ m.0)) × (o ≡ None → ms ≡ [])

last_of_minutes : (ms : List Minute) → IsLast ms (fold later_of None ms)
last_of_minutes [] = ((λ m e. absurd (cc e)), (λ e. refl))
last_of_minutes (n ∷ ms) =
    let r = latest n ms in
    let some : (m : Minute) → fold later_of (Some n) ms ≡ Some m → Has (n ∷ ms) m × ((k : Minute) → Has (n ∷ ms) k → k.0 ≤ m.0) = λ m e.
    (let both : Some r.minute ≡ Some m = sym r.is ∙ e in let same : r.minute ≡ m = cc both in
    (subst (λ u. Has (n ∷ ms) u) same r.there, (λ k h. (let t : r.minute.0 ≡ m.0 = ap (λ (u : Minute). u.0) same in let low = r.last k h in omega (arith, t, low))))) in
    let none : fold later_of (Some n) ms ≡ None → n ∷ ms ≡ [] = λ e. (let both : Some r.minute ≡ None = sym r.is ∙ e in absurd (cc both)) in
    (some, none)

pub last_is_the_latest : (cells : List Cell) → IsLast (solved_minutes cells) (last_of cells)
last_is_the_latest cells = last_of_minutes (solved_minutes cells)
