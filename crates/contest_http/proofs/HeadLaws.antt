-- A head is the shortest front of its input with an end.
use Rattle.std.proofs.Common.{rules, ◌≡◌, ◌≤◌, ◌<◌, ◌+◌, ◌++◌, ◌∷◌, [], ◌∙◌, sym, ap, refl, ℕ, zero, suc, List, Bool, true, false, length, take, length-append, append_assoc, arith, if◌then◌else◌}
use Rattle.std.specs.Prelude.{nat_lt}
use Rattle.std.proofs.lemmas.Bool.Decides.{nat_tests}
use Rattle.std.proofs.lemmas.List.{append-nil}
use Rattle.contest_types.specs.declared.limits.TheConstants.{REQUEST_HEAD}
use Rattle.contest_http.specs.Head.{has_end, head_from, head_of}

-- a head without an end is all that there is, up to the limit
unended_step : (m : ℕ) (done rest : List ℕ) (b : ℕ) (t : Bool) → has_end (done ++ b ∷ []) ≡ t
    → ((has_end (head_from m (done ++ b ∷ []) rest) ≡ false) → head_from m (done ++ b ∷ []) rest ≡ (done ++ b ∷ []) ++ take m rest)
    → has_end (if t then done ++ b ∷ [] else head_from m (done ++ b ∷ []) rest) ≡ false
    → (if t then done ++ b ∷ [] else head_from m (done ++ b ∷ []) rest) ≡ done ++ b ∷ take m rest
unended_step m done rest b true e more none = absurd (search (rules, e, none))
unended_step m done rest b false e more none = more none ∙ append_assoc done (b ∷ []) (take m rest)

unended_from : (m : ℕ) (done rest : List ℕ) → has_end (head_from m done rest) ≡ false → head_from m done rest ≡ done ++ take m rest
unended_from zero done rest none = sym (append-nil done)
unended_from (suc m) done [] none = sym (append-nil done)
unended_from (suc m) done (b ∷ rest) none =
    unended_step m done rest b (has_end (done ++ b ∷ [])) refl (unended_from m (done ++ b ∷ []) rest) none

pub unended : (input : List ℕ) → has_end (head_of input) ≡ false → head_of input ≡ take REQUEST_HEAD input
unended input none = unended_from REQUEST_HEAD [] input none

-- it is a front of its input
front_step : (m : ℕ) (done rest : List ℕ) (b : ℕ) (t : Bool)
    → (k : ℕ) × (k ≤ m) × (head_from m (done ++ b ∷ []) rest ≡ (done ++ b ∷ []) ++ take k rest)
    → (k : ℕ) × (k ≤ suc m) × ((if t then done ++ b ∷ [] else head_from m (done ++ b ∷ []) rest) ≡ done ++ take k (b ∷ rest))
front_step m done rest b true more = (1, omega arith, refl)
front_step m done rest b false (k, within, e) = (suc k, omega (arith, within), e ∙ append_assoc done (b ∷ []) (take k rest))

front_from : (m : ℕ) (done rest : List ℕ) → (k : ℕ) × (k ≤ m) × (head_from m done rest ≡ done ++ take k rest)
front_from zero done rest = (0, omega arith, sym (append-nil done))
front_from (suc m) done [] = (0, omega arith, sym (append-nil done))
front_from (suc m) done (b ∷ rest) = front_step m done rest b (has_end (done ++ b ∷ [])) (front_from m (done ++ b ∷ []) rest)

take_len : (k : ℕ) (xs : List ℕ) → take (length (take k xs)) xs ≡ take k xs
take_len zero xs = refl
take_len (suc k) [] = refl
take_len (suc k) (x ∷ xs) = ap (λ t. x ∷ t) (take_len k xs)

take_most : (k : ℕ) (xs : List ℕ) → length (take k xs) ≤ k
take_most zero xs = omega arith
take_most (suc k) [] = omega arith
take_most (suc k) (x ∷ xs) = let more = take_most k xs in omega (arith, more)

front_at : (input head : List ℕ) (k : ℕ) → k ≤ REQUEST_HEAD → head ≡ take k input → (head ≡ take (length head) input) × (length head ≤ REQUEST_HEAD)
front_at input head k within e = rw e (sym (take_len k input), (let most = take_most k input in omega (arith, most, within)))

pub front : (input : List ℕ) → (head_of input ≡ take (length (head_of input)) input) × (length (head_of input) ≤ REQUEST_HEAD)
front input = let f = front_from REQUEST_HEAD [] input in front_at input (head_of input) f.0 f.1 f.2

-- no shorter front has an end
take_done : (done rest : List ℕ) (n : ℕ) → n ≡ length done → take n (done ++ rest) ≡ done
take_done [] rest n e = rw e refl
take_done (d ∷ done) rest n e = rw e (ap (λ t. d ∷ t) (take_done done rest (length done) refl))

shortest_step : (m n : ℕ) (done rest : List ℕ) (b : ℕ) (t : Bool) → has_end (done ++ b ∷ []) ≡ t → length done + 1 ≤ n
    → (has_end (done ++ b ∷ []) ≡ false → n < length (head_from m (done ++ b ∷ []) rest) → has_end (take n ((done ++ b ∷ []) ++ rest)) ≡ false)
    → n < length (if t then done ++ b ∷ [] else head_from m (done ++ b ∷ []) rest)
    → has_end (take n (done ++ b ∷ rest)) ≡ false
shortest_step m n done rest b true e past more within =
    let one : length (done ++ b ∷ []) ≡ length done + 1 = length-append done (b ∷ []) in
    absurd (omega (arith, one, past, within))
shortest_step m n done rest b false e past more within =
    let same : (done ++ b ∷ []) ++ rest ≡ done ++ b ∷ rest = append_assoc done (b ∷ []) rest in
    rw same at (more e within)

shortest_from : (m : ℕ) (done rest : List ℕ) (n : ℕ) → has_end done ≡ false → length done ≤ n → n < length (head_from m done rest) → has_end (take n (done ++ rest)) ≡ false
shortest_from zero done rest n none from within = absurd (omega (arith, from, within))
shortest_from (suc m) done [] n none from within = absurd (omega (arith, from, within))
shortest_from (suc m) done (b ∷ rest) n none from within =
    let go : (t : Bool) → nat_lt (length done) n ≡ t → has_end (take n (done ++ b ∷ rest)) ≡ false = elim [
      | true ↦ λ e. shortest_step m n done rest b (has_end (done ++ b ∷ [])) refl (grind (arith, nat_tests, e))
          (λ off inside. shortest_from m (done ++ b ∷ []) rest n off (let one : length (done ++ b ∷ []) ≡ length done + 1 = length-append done (b ∷ []) in grind (arith, nat_tests, e, one)) inside) within
      | false ↦ λ e. let same : n ≡ length done = grind (arith, nat_tests, e, from) in rw (take_done done (b ∷ rest) n same) none
    ] in go (nat_lt (length done) n) refl

pub shortest : (input : List ℕ) (n : ℕ) → n < length (head_of input) → has_end (take n input) ≡ false
shortest input n within = shortest_from REQUEST_HEAD [] input n refl (omega arith) within
