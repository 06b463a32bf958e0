-- An input has one frame, which takes its head at least.
use Rattle.std.proofs.Common.{rules, ◌≡◌, ◌≤◌, ◌<◌, ◌∙◌, sym, ap, refl, [], ◌∷◌, List, ℕ, Bool, true, false, Option, Some, None, drop, length, arith, if◌then◌else◌, nat_lt}
use Rattle.httparse.specs.Grammar.{RequestHead}
use Rattle.httparse.proofs.GrammarLemmas.{request_unique}
use Rattle.contest_http.specs.Head.{has_end, head_of}
use Rattle.contest_http.specs.Frames.{Frame, IsFrame, IsHeadOf, IsPlanOf, frame_by, framed_by, plan_found}
use Rattle.contest_http.specs.declared.plan.Plan.{Plan}
use Rattle.contest_http.specs.declared.plan.Plan.TheVariants.{Expect, Refuse}

head_unique : (bytes : List ℕ) (o p : Option RequestHead) → IsHeadOf bytes o → IsHeadOf bytes p → o ≡ p
head_unique bytes None None a b = refl
head_unique bytes None (Some k) a b = absurd (a k b)
head_unique bytes (Some h) None a b = absurd (b h a)
head_unique bytes (Some h) (Some k) a b = ap Some (request_unique bytes h k [] [] a b).0

unique : (head : List ℕ) (b : Bool) (p q : Option Plan) → has_end head ≡ b → IsPlanOf head p → IsPlanOf head q → p ≡ q
unique head true p q e a c =
    let f = a.ended e in
    let g = c.ended e in
    f.2 ∙ ap (λ found. Some (plan_found found)) (head_unique head f.0 g.0 f.1 g.1) ∙ sym g.2
unique [] false p q e a c = a.none refl ∙ sym (c.none refl)
unique (x ∷ xs) false p q e a c =
    let some : 0 < length (x ∷ xs) = omega arith in
    a.unended some e ∙ sym (c.unended some e)

pub plan_unique : (head : List ℕ) (p q : Option Plan) → IsPlanOf head p → IsPlanOf head q → p ≡ q
plan_unique head p q a c = unique head (has_end head) p q refl a c

pub frame_unique : (input : List ℕ) (f g : Frame) → IsFrame input f → IsFrame input g → f ≡ g
frame_unique input f g (p, a, e) (q, b, d) =
    let head = head_of input in
    e ∙ ap (λ plan. frame_by plan head (drop (length head) input)) (plan_unique head p q a b) ∙ sym d

-- where nothing is asked there is no byte
none_at : (head : List ℕ) (b : Bool) → has_end head ≡ b → IsPlanOf head None → length head ≡ 0
none_at head true e a = let f = a.ended e in absurd (search (rules, f.2))
none_at [] false e a = refl
none_at (x ∷ xs) false e a =
    let some : 0 < length (x ∷ xs) = omega arith in
    let f = a.unended some e in
    absurd (search (rules, f))

pub none_is_empty : (head : List ℕ) → IsPlanOf head None → length head ≡ 0
none_is_empty head a = none_at head (has_end head) refl a

pick : (n : ℕ) (t : Bool) (a b : Frame) → n ≤ a.front → n ≤ b.front → n ≤ (if t then a else b).front
pick n true a b p q = p
pick n false a b p q = q

plan_front : (p : Plan) (n : ℕ) (rest : List ℕ) → n ≤ (framed_by p n rest).front
plan_front (Refuse refusal h) n rest = omega arith
plan_front (Expect e) n rest = pick n (nat_lt (length rest) e.size) _ _ (omega arith) (omega arith)

some_front : (plan : Option Plan) (head rest : List ℕ) → (plan ≡ None → length head ≡ 0) → length head ≤ (frame_by plan head rest).front
some_front None head rest e = omega (arith, e refl)
some_front (Some p) head rest e = plan_front p (length head) rest

empty_none : (head : List ℕ) (plan : Option Plan) → IsPlanOf head plan → plan ≡ None → length head ≡ 0
empty_none head None a e = none_is_empty head a
empty_none head (Some p) a e = absurd (search (rules, e))

pub head_front : (input : List ℕ) (f : Frame) → IsFrame input f → length (head_of input) ≤ f.front
head_front input f (plan, a, e) =
    let head = head_of input in
    rw e (some_front plan head (drop (length head) input) (empty_none head plan a))
