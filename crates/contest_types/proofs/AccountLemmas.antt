-- One more account keeps ids and tokens apart, and every account that is named is still found.
use Rattle.std.proofs.Common.{◌≡◌, ℕ, ◌+◌, ◌≤◌, Bool, true, false, List, [], ◌∷◌, ◌++◌, length, map, filter, Some, None, refl, sym, ap, ◌∙◌, arith}
use Rattle.std.specs.Prelude.{not, find, if◌then◌else◌}
use Rattle.std.specs.List.{list_all}
use Rattle.std.specs.Ordering.{nat_cmp, is_lt, ordering_reverse}
use Rattle.std.specs.Cmp.Lexicographic.{slice_cmp}
use Rattle.std.specs.Str.{bytes_eq}
use Rattle.std.specs.declared.cmp.Ordering.{Ordering}
use Rattle.std.specs.declared.cmp.Ordering.TheVariants.{Less, Equal, Greater}
use Rattle.std.proofs.lemmas.Bool.{false≢true, not-true}
use Rattle.std.proofs.lemmas.Cmp.{nat_list_cmp_total}
use Rattle.std.proofs.lemmas.List.{map-append, length-append}
use Rattle.std.proofs.lemmas.Map.Lookups.{exact_bytes}
use Rattle.std.proofs.lemmas.Slice.Eq.{bytes_eq-Decides}
use Rattle.contest_types.specs.Places.{is_among, are_different}
use Rattle.contest_types.specs.Accounts.{comes_before, with_account, account_named}
use Rattle.contest_types.specs.declared.account.Account.{Account}
use Rattle.contest_types.proofs.PlaceLemmas.{and_left, and_right, both_true, or_left, or_right, both_false, differs, same_bytes}

-- what stands nowhere among the rows stands nowhere among some of them
none_filtered : {T : Type 0} (text : T → List ℕ) (p : T → Bool) (xs : List T) (z : List ℕ) → is_among (map text xs) z ≡ false → is_among (map text (filter p xs)) z ≡ false
none_filtered text p [] z h = refl
none_filtered text p (x ∷ xs) z h =
    let rest = none_filtered text p xs z (or_right (bytes_eq (text x) z) _ h) in
    let go : (b : Bool) → is_among (map text (if b then x ∷ filter p xs else filter p xs)) z ≡ false = elim [ true ↦ both_false _ _ (or_left _ _ h) rest | false ↦ rest ] in
    go (p x)

none_in_both : (xs ys : List (List ℕ)) (z : List ℕ) → is_among xs z ≡ false → is_among ys z ≡ false → is_among (xs ++ ys) z ≡ false
none_in_both [] ys z h k = k
none_in_both (x ∷ xs) ys z h k = both_false _ _ (or_left _ _ h) (none_in_both xs ys z (or_right (bytes_eq x z) _ h) k)

none_inserted : (xs ys : List (List ℕ)) (y z : List ℕ) → is_among (xs ++ ys) z ≡ false → bytes_eq y z ≡ false → is_among (xs ++ y ∷ ys) z ≡ false
none_inserted [] ys y z h e = both_false _ _ e h
none_inserted (x ∷ xs) ys y z h e = both_false _ _ (or_left _ _ h) (none_inserted xs ys y z (or_right (bytes_eq x z) _ h) e)

different_inserted : (xs ys : List (List ℕ)) (y : List ℕ) → are_different (xs ++ ys) ≡ true → is_among (xs ++ ys) y ≡ false → are_different (xs ++ y ∷ ys) ≡ true
different_inserted [] ys y d n = both_true _ _ (ap not n) d
different_inserted (x ∷ xs) ys y d n =
    let apart = none_inserted xs ys y x (not-true _ (and_left _ _ d)) (differs x y (or_left _ _ n)) in
    both_true _ _ (ap not apart) (different_inserted xs ys y (and_right (not (is_among (xs ++ ys) x)) _ d) (or_right (bytes_eq x y) _ n))

-- rows that are told apart, taken out by two tests that none passes both
parts_different : {T : Type 0} (text : T → List ℕ) (p q : T → Bool) → ((x : T) → p x ≡ true → q x ≡ false) → (xs : List T)
    → are_different (map text xs) ≡ true → are_different (map text (filter p xs) ++ map text (filter q xs)) ≡ true
parts_different text p q apart [] d = refl
parts_different {T} text p q apart (x ∷ xs) d =
    let rest = parts_different text p q apart xs (and_right (not (is_among (map text xs) (text x))) _ d) in
    let alone : is_among (map text xs) (text x) ≡ false = not-true _ (and_left _ _ d) in
    let none : is_among (map text (filter p xs) ++ map text (filter q xs)) (text x) ≡ false = none_in_both (map text (filter p xs)) (map text (filter q xs)) (text x) (none_filtered text p xs (text x) alone) (none_filtered text q xs (text x) alone) in
    let go : (b c : Bool) → p x ≡ b → q x ≡ c → are_different (map text (if b then x ∷ filter p xs else filter p xs) ++ map text (if c then x ∷ filter q xs else filter q xs)) ≡ true = elim [
      | true ↦ elim [
        | true ↦ λ e f. absurd (false≢true (sym (apart x e) ∙ f))
        | false ↦ λ e f. both_true _ _ (ap not none) rest
      ]
      | false ↦ elim [
        | true ↦ λ e f. different_inserted (map text (filter p xs)) (map text (filter q xs)) (text x) rest none
        | false ↦ λ e f. rest
      ]
    ] in
    go (p x) (q x) refl refl

-- one that is not among them may stand between the two parts
pub around_different : {T : Type 0} (text : T → List ℕ) (p q : T → Bool) → ((x : T) → p x ≡ true → q x ≡ false) → (xs : List T) (y : T)
    → are_different (map text xs) ≡ true → is_among (map text xs) (text y) ≡ false → are_different (map text (filter p xs ++ y ∷ filter q xs)) ≡ true
around_different text p q apart xs y d n =
    rw map-append (different_inserted (map text (filter p xs)) (map text (filter q xs)) (text y) (parts_different text p q apart xs d)
    (none_in_both (map text (filter p xs)) (map text (filter q xs)) (text y) (none_filtered text p xs (text y) n) (none_filtered text q xs (text y) n)))

parts_short : {T : Type 0} (p q : T → Bool) → ((x : T) → p x ≡ true → q x ≡ false) → (xs : List T) → length (filter p xs) + length (filter q xs) ≤ length xs
parts_short p q apart [] = omega arith
parts_short {T} p q apart (x ∷ xs) =
    let rest = parts_short p q apart xs in
    let go : (b c : Bool) → p x ≡ b → q x ≡ c → length (if b then x ∷ filter p xs else filter p xs) + length (if c then x ∷ filter q xs else filter q xs) ≤ length (x ∷ xs) = elim [
      | true ↦ elim [ true ↦ λ e f. absurd (false≢true (sym (apart x e) ∙ f)) | false ↦ λ e f. omega (arith, rest) ]
      | false ↦ elim [ true ↦ λ e f. omega (arith, rest) | false ↦ λ e f. omega (arith, rest) ]
    ] in
    go (p x) (q x) refl refl

pub all_filtered : {T : Type 0} (t p : T → Bool) (xs : List T) → list_all t xs ≡ true → list_all t (filter p xs) ≡ true
all_filtered t p [] h = refl
all_filtered t p (x ∷ xs) h =
    let rest = all_filtered t p xs (and_right (t x) _ h) in
    let go : (b : Bool) → list_all t (if b then x ∷ filter p xs else filter p xs) ≡ true = elim [ true ↦ both_true _ _ (and_left _ _ h) rest | false ↦ rest ] in
    go (p x)

all_joined : {T : Type 0} (t : T → Bool) (xs ys : List T) → list_all t xs ≡ true → list_all t ys ≡ true → list_all t (xs ++ ys) ≡ true
all_joined t [] ys h k = k
all_joined t (x ∷ xs) ys h k = both_true _ _ (and_left _ _ h) (all_joined t xs ys (and_right (t x) _ h) k)

-- no account stands on both sides of another
pub not_both : (x y : List ℕ) (r : Ordering) → slice_cmp nat_cmp x y ≡ r → is_lt r ≡ true → is_lt (slice_cmp nat_cmp y x) ≡ false
not_both x y Less e h = rw (nat_list_cmp_total.antisymm y x, e) refl
not_both x y Equal e h = absurd (false≢true h)
not_both x y Greater e h = absurd (false≢true h)

one_side : (a b : Account) → comes_before b a ≡ true → comes_before a b ≡ false
one_side a b h = not_both b.id a.id (slice_cmp nat_cmp b.id a.id) refl h

pub accounts_different : (text : Account → List ℕ) (accounts : List Account) (a : Account) → are_different (map text accounts) ≡ true → is_among (map text accounts) (text a) ≡ false → are_different (map text (with_account accounts a)) ≡ true
accounts_different text accounts a d n = around_different text (λ b. comes_before b a) (λ b. comes_before a b) (one_side a) accounts a d n

pub all_accounts : (t : Account → Bool) (accounts : List Account) (a : Account) → list_all t accounts ≡ true → t a ≡ true → list_all t (with_account accounts a) ≡ true
all_accounts t accounts a h e =
    all_joined t (filter (λ b. comes_before b a) accounts) (a ∷ filter (λ b. comes_before a b) accounts) (all_filtered t (λ b. comes_before b a) accounts h)
    (both_true _ _ e (all_filtered t (λ b. comes_before a b) accounts h))

pub one_longer : (accounts : List Account) (a : Account) → length (with_account accounts a) ≤ length accounts + 1
one_longer accounts a =
    let short = parts_short (λ b. comes_before b a) (λ b. comes_before a b) (one_side a) accounts in
    omega (arith, short, length-append (filter (λ b. comes_before b a) accounts) (a ∷ filter (λ b. comes_before a b) accounts))

find_front : {T : Type 0} (p : T → Bool) (xs ys : List T) (x : T) → find p xs ≡ Some x → find p (xs ++ ys) ≡ Some x
find_front p [] ys x h = absurd (cc h)
find_front {T} p (y ∷ xs) ys x h =
    let go : (b : Bool) → (if b then Some y else find p xs) ≡ Some x → (if b then Some y else find p (xs ++ ys)) ≡ Some x = elim [ true ↦ λ e. e | false ↦ λ e. find_front p xs ys x e ] in
    go (p y) h

find_back : {T : Type 0} (p : T → Bool) (xs ys : List T) → find p xs ≡ None → find p (xs ++ ys) ≡ find p ys
find_back p [] ys h = refl
find_back {T} p (y ∷ xs) ys h =
    let go : (b : Bool) → (if b then Some y else find p xs) ≡ None → (if b then Some y else find p (xs ++ ys)) ≡ find p ys = elim [ true ↦ λ e. absurd (cc e) | false ↦ λ e. find_back p xs ys e ] in
    go (p y) h

-- what is looked for is found among those that pass a test which it passes
find_kept : {T : Type 0} (p q : T → Bool) → ((x : T) → p x ≡ true → q x ≡ true) → (xs : List T) → find p (filter q xs) ≡ find p xs
find_kept p q weaker [] = refl
find_kept {T} p q weaker (x ∷ xs) =
    let rest = find_kept p q weaker xs in
    let go : (b c : Bool) → p x ≡ b → q x ≡ c → find p (if c then x ∷ filter q xs else filter q xs) ≡ (if b then Some x else find p xs) = elim [
      | true ↦ elim [ true ↦ λ e f. rw e refl | false ↦ λ e f. absurd (false≢true (sym f ∙ weaker x e)) ]
      | false ↦ elim [ true ↦ λ e f. rw e rest | false ↦ λ e f. rest ]
    ] in
    go (p x) (q x) refl refl

find_left_out : {T : Type 0} (p q : T → Bool) → ((x : T) → p x ≡ true → q x ≡ false) → (xs : List T) → find p (filter q xs) ≡ None
find_left_out p q out [] = refl
find_left_out {T} p q out (x ∷ xs) =
    let rest = find_left_out p q out xs in
    let go : (b c : Bool) → p x ≡ b → q x ≡ c → find p (if c then x ∷ filter q xs else filter q xs) ≡ None = elim [
      | true ↦ elim [ true ↦ λ e f. absurd (false≢true (sym (out x e) ∙ f)) | false ↦ λ e f. rest ]
      | false ↦ elim [ true ↦ λ e f. rw e rest | false ↦ λ e f. rest ]
    ] in
    go (p x) (q x) refl refl

-- an account with an id that no account has isn't the one that is named
other_id : (accounts : List Account) (id other : List ℕ) (b : Account) → account_named accounts id ≡ Some b → is_among (map (λ (c : Account). c.id) accounts) other ≡ false → bytes_eq other id ≡ false
other_id [] id other b h n = absurd (cc h)
other_id (c ∷ accounts) id other b h n =
    let go : (t : Bool) → bytes_eq c.id id ≡ t → (if t then Some c else account_named accounts id) ≡ Some b → bytes_eq other id ≡ false = elim [
      | true ↦ λ e k. (let same : c.id ≡ id = same_bytes c.id id e in differs id other (rw (← same) (or_left _ _ n)))
      | false ↦ λ e k. other_id accounts id other b k (or_right (bytes_eq c.id other) _ n)
    ] in
    go (bytes_eq c.id id) refl h

named_before : (accounts : List Account) (a : Account) (id : List ℕ) (b : Account) → slice_cmp nat_cmp id a.id ≡ Less → account_named accounts id ≡ Some b → account_named (with_account accounts a) id ≡ Some b
named_before accounts a id b e h =
    let low : (c : Account) → bytes_eq c.id id ≡ true → comes_before c a ≡ true = λ c t. ap (λ u. is_lt (slice_cmp nat_cmp u a.id)) (same_bytes c.id id t) ∙ ap is_lt e in
    find_front (λ (c : Account). bytes_eq c.id id) (filter (λ c. comes_before c a) accounts) (a ∷ filter (λ c. comes_before a c) accounts) b
    (find_kept (λ (c : Account). bytes_eq c.id id) (λ c. comes_before c a) low accounts ∙ h)

named_after : (accounts : List Account) (a : Account) (id : List ℕ) (b : Account) → slice_cmp nat_cmp id a.id ≡ Greater → bytes_eq a.id id ≡ false → account_named accounts id ≡ Some b → account_named (with_account accounts a) id ≡ Some b
named_after accounts a id b e n h =
    let high : (c : Account) → bytes_eq c.id id ≡ true → comes_before c a ≡ false = λ c t. ap (λ u. is_lt (slice_cmp nat_cmp u a.id)) (same_bytes c.id id t) ∙ ap is_lt e in
    let turned : slice_cmp nat_cmp a.id id ≡ Less = nat_list_cmp_total.antisymm a.id id ∙ ap ordering_reverse e in
    let past : (c : Account) → bytes_eq c.id id ≡ true → comes_before a c ≡ true = λ c t. ap (λ u. is_lt (slice_cmp nat_cmp a.id u)) (same_bytes c.id id t) ∙ ap is_lt turned in
    let test : Account → Bool = λ c. bytes_eq c.id id in
    let rest : find test (a ∷ filter (λ c. comes_before a c) accounts) ≡ Some b = rw n (find_kept test (λ c. comes_before a c) past accounts ∙ h) in
    find_back test (filter (λ c. comes_before c a) accounts) (a ∷ filter (λ c. comes_before a c) accounts) (find_left_out test (λ c. comes_before c a) high accounts) ∙ rest

-- one more account hides none that stood
pub named_still : (accounts : List Account) (a : Account) → is_among (map (λ (c : Account). c.id) accounts) a.id ≡ false
    → (id : List ℕ) (b : Account) → account_named accounts id ≡ Some b → account_named (with_account accounts a) id ≡ Some b
named_still accounts a new id b h =
    let n = other_id accounts id a.id b h new in
    let go : (r : Ordering) → slice_cmp nat_cmp id a.id ≡ r → account_named (with_account accounts a) id ≡ Some b = elim [
      | Less ↦ λ e. named_before accounts a id b e h
      | Equal ↦ λ e. absurd (false≢true (sym n ∙ (bytes_eq-Decides a.id id).1 (sym (exact_bytes id a.id e))))
      | Greater ↦ λ e. named_after accounts a id b e n h
    ] in
    go (slice_cmp nat_cmp id a.id) refl
