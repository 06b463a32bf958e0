-- The entries of the demo contest may be added to any contest that was just set up.
use Rattle.std.proofs.Common.{◌≡◌, ℕ, zero, suc, true, List, [], ◌∷◌, codes, refl, subst, sym}
use Rattle.std.specs.Prelude.{◌++◌, take}
use Rattle.contest_types.specs.Addable.{are_addable}
use Rattle.contest_types.specs.State.{new_contest}
use Rattle.contest_types.specs.declared.account.Role.{Role}
use Rattle.contest_types.specs.declared.account.Role.TheVariants as role
use Rattle.contest_types.specs.declared.contest.Contest.{Contest}
use Rattle.contest_types.specs.declared.entry.Entry.{Entry}
use Rattle.contest_types.specs.declared.entry.Entry.TheVariants.{NewAccount}
use Rattle.contest_demo.specs.Demo.{demo_entries, judgement_types, languages, problems, teams}
use Rattle.contest_demo.proofs.Digests.{digest_a1, digest_a2, digest_a3, digest_a9, digest_adm, digest_j1, digest_j2, hash_a1, hash_a2, hash_a3, hash_a9, hash_adm, hash_j1, hash_j2}

-- the accounts by the digests of their tokens
abbrev hashed : (id : List ℕ) → Role → (hash : List ℕ) → Entry
hashed id role hash = NewAccount (record { id = id; role = role; digest = hash })

abbrev of_teams : List Entry
of_teams =
    hashed (codes "a1") (role.Team 0) hash_a1 ∷ hashed (codes "a2") (role.Team 1) hash_a2 ∷ hashed (codes "a3") (role.Team 2) hash_a3
    ∷ hashed (codes "a9") (role.Team 3) hash_a9 ∷ []

abbrev of_jury : List Entry
of_jury = hashed (codes "j1") role.Judge hash_j1 ∷ hashed (codes "j2") role.Judge hash_j2 ∷ hashed (codes "adm") role.Admin hash_adm ∷ []

-- the entries with these problems, teams and accounts
abbrev with_rows : List Entry → List Entry → List Entry → List Entry
with_rows of_problems for_teams for_accounts = judgement_types ++ languages ++ of_problems ++ for_teams ++ for_accounts ++ of_jury

entries_are : (n m : ℕ) → demo_entries n m ≡ with_rows (take m problems) (take n teams) (take n of_teams)
entries_are n m = rw (digest_a1, digest_a2, digest_a3, digest_a9, digest_j1, digest_j2, digest_adm) refl

none : (n : ℕ) → ◌≡◌ {A = List Entry} (take n []) []
none zero = refl
none (suc n) = refl

-- what holds of the first none, one, two, and of all
of_problems : (P : List Entry → Type 0) → P [] → P (take 1 problems) → P problems → (m : ℕ) → P (take m problems)
of_problems P p0 p1 p2 zero = p0
of_problems P p0 p1 p2 (suc zero) = p1
of_problems P p0 p1 p2 (suc (suc m)) = rw (none m) p2

of_teams_too : (P : List Entry → List Entry → Type 0) → P [] [] → P (take 1 teams) (take 1 of_teams) → P (take 2 teams) (take 2 of_teams) → P (take 3 teams) (take 3 of_teams) → P teams of_teams
    → (n : ℕ) → P (take n teams) (take n of_teams)
of_teams_too P p0 p1 p2 p3 p4 zero = p0
of_teams_too P p0 p1 p2 p3 p4 (suc zero) = p1
of_teams_too P p0 p1 p2 p3 p4 (suc (suc zero)) = p2
of_teams_too P p0 p1 p2 p3 p4 (suc (suc (suc zero))) = p3
of_teams_too P p0 p1 p2 p3 p4 (suc (suc (suc (suc n)))) = rw (none n) p4

abbrev MayAdd : Contest → List Entry → List Entry → List Entry → Type 0
MayAdd c of_problems for_teams for_accounts = are_addable (new_contest c) (with_rows of_problems for_teams for_accounts) ≡ true

pub demo_addable : (c : Contest) (n m : ℕ) → are_addable (new_contest c) (demo_entries n m) ≡ true
demo_addable c n m =
    subst (λ entries. are_addable (new_contest c) entries ≡ true) (sym (entries_are n m))
    (of_problems (λ ps. MayAdd c ps (take n teams) (take n of_teams))
    (of_teams_too (MayAdd c []) refl refl refl refl refl n)
    (of_teams_too (MayAdd c (take 1 problems)) refl refl refl refl refl n)
    (of_teams_too (MayAdd c problems) refl refl refl refl refl n)
    m)
