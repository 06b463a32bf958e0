-- Accounts that are told apart by their ids and their tokens.
use Rattle.std.proofs.Common.{◌≡◌, Bool, true, false, not, ◌&&◌, ◌||◌, List, ◌∷◌, map, refl, sym}
use Rattle.std.proofs.lemmas.Bool.{false≢true}
use Rattle.contest_types.specs.Places.{is_among, are_different}
use Rattle.contest_types.specs.declared.account.Account.{Account}

abbrev pub told_apart : List Account → Bool
told_apart accounts = are_different (map (λ (a : Account). a.id) accounts) && are_different (map (λ (a : Account). a.digest) accounts)

abbrev pub shares : Account → List Account → Bool
shares a others = is_among (map (λ (b : Account). b.id) others) a.id || is_among (map (λ (b : Account). b.digest) others) a.digest

neither : (p q a b : Bool) → (p || q) ≡ false → ((not p && a) && (not q && b)) ≡ (a && b)
neither true q a b h = absurd (false≢true (sym h))
neither false true a b h = absurd (false≢true (sym h))
neither false false a b h = refl

either : (p q a b : Bool) → (p || q) ≡ true → ((not p && a) && (not q && b)) ≡ false
either true q a b h = refl
either false true true b h = refl
either false true false b h = refl
either false false a b h = absurd (false≢true h)

-- the first account shares nothing with the others
pub alone : (a : Account) (others : List Account) → shares a others ≡ false → told_apart (a ∷ others) ≡ told_apart others
alone a others h =
    neither (is_among (map (λ (b : Account). b.id) others) a.id) (is_among (map (λ (b : Account). b.digest) others) a.digest)
    (are_different (map (λ (b : Account). b.id) others)) (are_different (map (λ (b : Account). b.digest) others)) h

-- it shares its id or its token with one of them
pub shared : (a : Account) (others : List Account) → shares a others ≡ true → told_apart (a ∷ others) ≡ false
shared a others h =
    either (is_among (map (λ (b : Account). b.id) others) a.id) (is_among (map (λ (b : Account). b.digest) others) a.digest)
    (are_different (map (λ (b : Account). b.id) others)) (are_different (map (λ (b : Account). b.digest) others)) h
