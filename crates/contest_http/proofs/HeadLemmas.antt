-- The head of what a reader had, with some of its bytes taken.
use Rattle.std.proofs.Common.{◌≡◌, ◌≤◌, ◌<◌, ◌+◌, ◌-◌, ◌++◌, ◌∷◌, [], ◌∙◌, sym, ap, refl, ℕ, zero, suc, List, Option, Some, None, length, length-drop, Bool, arith, length-append, append_assoc, true, false, if◌then◌else◌, IfSome, drop, add-one}
use Rattle.std.specs.Prelude.{⊤}
use Rattle.std.specs.Io.KnownBytes.{Consumes, IsAtEnd, Keeps}
use Rattle.contest_types.specs.declared.limits.TheConstants.{REQUEST_HEAD}
use Rattle.contest_http.specs.Head.{begins_end, has_end, head_from, head_of, TakesHead, TakesHeadPart}

-- the head of what was there is found by going on after the bytes
abbrev pub StillHead : Option (List ℕ) → Option (List ℕ) → List ℕ → Type 0
StillHead None new bytes = ⊤
StillHead (Some xs) None bytes = ⊥
StillHead (Some xs) (Some ys) bytes = head_of xs ≡ head_from (REQUEST_HEAD - length bytes) bytes ys

-- one step
pub head-step : (n m : ℕ) (done rest : List ℕ) (b : ℕ) → n ≡ suc m
    → head_from n done (b ∷ rest) ≡ (if has_end (done ++ b ∷ []) then done ++ b ∷ [] else head_from m (done ++ b ∷ []) rest)
head-step n m done rest b e = rw e refl

pub head-full : (n : ℕ) (done rest : List ℕ) → n ≡ 0 → head_from n done rest ≡ done
head-full n done rest e = rw e refl

pub head-end : (n : ℕ) (done : List ℕ) → head_from n done [] ≡ done
head-end zero done = refl
head-end (suc n) done = refl

-- what is done stands at the front of the head
pub head-longer : (n : ℕ) (done rest : List ℕ) → length done ≤ length (head_from n done rest)
head-longer zero done rest = omega arith
head-longer (suc n) done [] = omega arith
head-longer (suc n) done (b ∷ rest) =
    let more = head-longer n (done ++ b ∷ []) rest in
    let one : length (done ++ b ∷ []) ≡ length done + 1 = length-append done (b ∷ []) in
    grind (arith, more, one)

first_off : (ys : List ℕ) → 0 < length ys → begins_end ys ≡ false → has_end ys ≡ has_end (drop 1 ys)
first_off [] some e = absurd (omega (arith, some))
first_off (y ∷ t) some e = rw e refl

drop_one : (xs : List ℕ) (i : ℕ) → drop 1 (drop i xs) ≡ drop (suc i) xs
drop_one xs zero = refl
drop_one [] (suc i) = refl
drop_one (x ∷ xs) (suc i) = drop_one xs i

-- no end begins at i
pub has_end-later : (xs : List ℕ) (i : ℕ) → i < length xs → begins_end (drop i xs) ≡ false
    → has_end (drop i xs) ≡ has_end (drop (i + 1) xs)
has_end-later xs i inside e =
    let some : 0 < length (drop i xs) = grind (arith, length-drop) in
    rw add-one (first_off (drop i xs) some e ∙ ap has_end (drop_one xs i))

pub still_init : (a : Option (List ℕ)) → StillHead a a []
still_init None = tt
still_init (Some xs) = refl

pub takes_more : (a b c : Option (List ℕ)) (bytes : List ℕ) (x : ℕ)
    → Consumes a b bytes → Consumes b c (x ∷ []) → Consumes a c (bytes ++ x ∷ [])
takes_more None b c bytes x p q = tt
takes_more (Some xs) None c bytes x p q = absurd p
takes_more (Some xs) (Some ys) None bytes x p q = absurd q
takes_more (Some xs) (Some ys) (Some zs) bytes x p q =
    p ∙ ap (λ t. bytes ++ t) q ∙ sym (append_assoc bytes (x ∷ []) zs)

room : (bytes : List ℕ) (x : ℕ) → length bytes < REQUEST_HEAD
    → REQUEST_HEAD - length bytes ≡ suc (REQUEST_HEAD - length (bytes ++ x ∷ []))
room bytes x within = let one : length (bytes ++ x ∷ []) ≡ length bytes + 1 = length-append bytes (x ∷ []) in rw one (omega (arith, within))

-- what one more byte makes of the head
next_head : (a b c : Option (List ℕ)) (bytes : List ℕ) (x : ℕ) → length bytes < REQUEST_HEAD
    → StillHead a b bytes → Consumes b c (x ∷ []) → Consumes a b bytes → IfSome a (λ xs. IfSome c (λ zs.
    head_of xs ≡ (if has_end (bytes ++ x ∷ []) then bytes ++ x ∷ [] else head_from (REQUEST_HEAD - length (bytes ++ x ∷ [])) (bytes ++ x ∷ []) zs)))
next_head None b c bytes x within s q p = tt
next_head (Some xs) None c bytes x within s q p = absurd p
next_head (Some xs) (Some ys) None bytes x within s q p = absurd q
next_head (Some xs) (Some ys) (Some zs) bytes x within s q p =
    s ∙ ap (head_from (REQUEST_HEAD - length bytes) bytes) q ∙ head-step _ _ bytes zs x (room bytes x within)

pub still_more : (a b c : Option (List ℕ)) (bytes : List ℕ) (x : ℕ) → length bytes < REQUEST_HEAD
    → StillHead a b bytes → Consumes b c (x ∷ []) → Consumes a b bytes → has_end (bytes ++ x ∷ []) ≡ false
    → StillHead a c (bytes ++ x ∷ [])
still_more None b c bytes x within s q p e = tt
still_more (Some xs) None c bytes x within s q p e = absurd p
still_more (Some xs) (Some ys) None bytes x within s q p e = absurd q
still_more (Some xs) (Some ys) (Some zs) bytes x within s q p e =
    rw e at (next_head (Some xs) (Some ys) (Some zs) bytes x within s q p)

pub head_whole : (a b c : Option (List ℕ)) (bytes : List ℕ) (x : ℕ) → length bytes < REQUEST_HEAD
    → StillHead a b bytes → Consumes b c (x ∷ []) → Consumes a b bytes → has_end (bytes ++ x ∷ []) ≡ true
    → TakesHead a c (bytes ++ x ∷ [])
head_whole None b c bytes x within s q p e = record { head = tt; taken = tt }
head_whole (Some xs) None c bytes x within s q p e = absurd p
head_whole (Some xs) (Some ys) None bytes x within s q p e = absurd q
head_whole (Some xs) (Some ys) (Some zs) bytes x within s q p e = record {
  head = sym (rw e at (next_head (Some xs) (Some ys) (Some zs) bytes x within s q p));
  taken = takes_more (Some xs) (Some ys) (Some zs) bytes x p q;
}

pub head_cut : (a b c : Option (List ℕ)) (bytes : List ℕ)
    → StillHead a b bytes → Consumes b c [] → IsAtEnd c → Consumes a b bytes → TakesHead a c bytes
head_cut None b c bytes s q end p = record { head = tt; taken = tt }
head_cut (Some xs) None c bytes s q end p = absurd p
head_cut (Some xs) (Some ys) None bytes s q end p = absurd q
head_cut (Some xs) (Some ys) (Some zs) bytes s q end p = record {
  head = sym (s ∙ ap (head_from (REQUEST_HEAD - length bytes) bytes) (q ∙ end) ∙ head-end (REQUEST_HEAD - length bytes) bytes);
  taken = p ∙ ap (λ t. bytes ++ t) q;
}

pub head_most : (a b : Option (List ℕ)) (bytes : List ℕ) → REQUEST_HEAD ≤ length bytes
    → StillHead a b bytes → Consumes a b bytes → TakesHead a b bytes
head_most None b bytes full s p = record { head = tt; taken = tt }
head_most (Some xs) None bytes full s p = absurd p
head_most (Some xs) (Some ys) bytes full s p =
    let none : REQUEST_HEAD - length bytes ≡ 0 = omega (arith, full) in
    record { head = sym (s ∙ head-full (REQUEST_HEAD - length bytes) bytes ys none); taken = p }

-- the bytes, and then a call that kept what was left
pub part_kept : (a b c : Option (List ℕ)) (bytes : List ℕ)
    → StillHead a b bytes → Keeps b c → Consumes a b bytes → TakesHeadPart a c
part_kept None b c bytes s q p = record { bytes = []; within = tt; taken = tt }
part_kept (Some xs) None c bytes s q p = absurd p
part_kept (Some xs) (Some ys) None bytes s q p = absurd q
part_kept (Some xs) (Some ys) (Some zs) bytes s q p =
    let longer = head-longer (REQUEST_HEAD - length bytes) bytes ys in
    record { bytes = bytes; within = rw s longer; taken = p ∙ ap (λ t. bytes ++ t) (sym q) }

longer-if : (m : ℕ) (bytes zs : List ℕ) (x : ℕ) (t : Bool)
    → length (bytes ++ x ∷ []) ≤ length (if t then bytes ++ x ∷ [] else head_from m (bytes ++ x ∷ []) zs)
longer-if m bytes zs x true = omega arith
longer-if m bytes zs x false = head-longer m (bytes ++ x ∷ []) zs

step-longer : (n m : ℕ) (bytes zs : List ℕ) (x : ℕ) → n ≡ suc m → length (bytes ++ x ∷ []) ≤ length (head_from n bytes (x ∷ zs))
step-longer n m bytes zs x e = rw e (longer-if m bytes zs x (has_end (bytes ++ x ∷ [])))

-- the bytes, and one more
pub part_more : (a b c : Option (List ℕ)) (bytes : List ℕ) (x : ℕ) → length bytes < REQUEST_HEAD
    → StillHead a b bytes → Consumes b c (x ∷ []) → Consumes a b bytes → TakesHeadPart a c
part_more None b c bytes x within s q p = record { bytes = []; within = tt; taken = tt }
part_more (Some xs) None c bytes x within s q p = absurd p
part_more (Some xs) (Some ys) None bytes x within s q p = absurd q
part_more (Some xs) (Some ys) (Some zs) bytes x within s q p =
    let longer = step-longer _ _ bytes zs x (room bytes x within) in
    let e : head_of xs ≡ head_from (REQUEST_HEAD - length bytes) bytes (x ∷ zs) = s ∙ ap (head_from (REQUEST_HEAD - length bytes) bytes) q in
    record { bytes = bytes ++ x ∷ []; within = rw e longer; taken = takes_more (Some xs) (Some ys) (Some zs) bytes x p q }
