-- Accounts by their ids, as one more comes to them.
use Rattle.std.proofs.Common.{Option, None, ◌≡◌, ℕ, ◌+◌, ◌<◌, get_or, take, length, Bool, true, false, List, [], ◌∷◌, ◌++◌, Some, refl, sym, ◌∙◌, ap}
use Rattle.std.specs.Prelude.{unwrap_or, if◌then◌else◌, is_some}
use Rattle.std.specs.Option.{option_map, option_map_or}
use Rattle.std.specs.Str.{bytes_eq}
use Rattle.std.proofs.lemmas.List.{take_more}
use Rattle.contest_types.specs.Accounts.{account_named}
use Rattle.contest_types.specs.declared.account.Account.{Account}
use Rattle.contest_types.specs.declared.account.Role.{Role}
use Rattle.contest_types.proofs.PlaceLemmas.{same_bytes}
use Rattle.contest_store_valid.specs.Accounts.{role_named, with_role}

kept : (r s : Role) (b : Bool) → Some r ≡ (if b then Some (unwrap_or (Some r) s) else Some r)
kept r s true = refl
kept r s false = refl

-- the account with an id, or else the one that comes to them, if it has that
found_more : (accounts : List Account) (a : Account) (id : List ℕ) (b : Bool) → bytes_eq a.id id ≡ b
    → role_named (accounts ++ a ∷ []) id ≡ (if b then Some (unwrap_or (role_named accounts id) a.role) else role_named accounts id)
found_more [] a id true e = rw e refl
found_more [] a id false e = rw e refl
found_more (c ∷ cs) a id b e =
    let rest = found_more cs a id b e in
    let go : (t : Bool) → bytes_eq c.id id ≡ t → role_named (c ∷ cs ++ a ∷ []) id ≡ (if b then Some (unwrap_or (role_named (c ∷ cs) id) a.role) else role_named (c ∷ cs) id) =
    elim [ true ↦ λ f. rw f (kept c.role a.role b) | false ↦ λ f. rw f rest ] in
    go (bytes_eq c.id id) refl

pub role_more : (accounts : List Account) (a : Account) (id : List ℕ) → with_role (role_named accounts) a id ≡ role_named (accounts ++ a ∷ []) id
role_more accounts a id =
    let own : bytes_eq a.id id ≡ true → Some (unwrap_or (role_named accounts a.id) a.role) ≡ Some (unwrap_or (role_named accounts id) a.role) =
    λ e. ap (λ i. Some (unwrap_or (role_named accounts i) a.role)) (same_bytes a.id id e) in
    let go : (b : Bool) → bytes_eq a.id id ≡ b → (if b then Some (unwrap_or (role_named accounts a.id) a.role) else role_named accounts id) ≡ (if b then Some (unwrap_or (role_named accounts id) a.role) else role_named accounts id) =
    elim [ true ↦ own | false ↦ λ e. refl ] in
    go (bytes_eq a.id id) refl ∙ sym (found_more accounts a id (bytes_eq a.id id) refl)

-- the roles after one more place
pub next_role : (accounts : List Account) (i : ℕ) (a : Account) (id : List ℕ) → i < length accounts → a ≡ get_or accounts i a → with_role (role_named (take i accounts)) a id ≡ role_named (take (i + 1) accounts) id
next_role accounts i a id l e =
    let grown : take (i + 1) accounts ≡ take i accounts ++ a ∷ [] = rw (← e) at (take_more accounts i a l) in
    role_more (take i accounts) a id ∙ ap (λ as'. role_named as' id) (sym grown)

pub has_role : (accounts : List Account) (id : List ℕ) → is_some (account_named accounts id) ≡ is_some (role_named accounts id)
has_role accounts id =
    let go : (o : Option Account) → is_some o ≡ is_some (option_map (λ (a : Account). a.role) o) = elim [ None ↦ refl | Some a ↦ refl ] in
    go (account_named accounts id)

-- what an account may do goes by its role
pub by_role : (accounts : List Account) (id : List ℕ) (may : Role → Bool) → option_map_or (λ (a : Account). may a.role) (account_named accounts id) false ≡ option_map_or may (role_named accounts id) false
by_role accounts id may =
    let go : (o : Option Account) → option_map_or (λ (a : Account). may a.role) o false ≡ option_map_or may (option_map (λ (a : Account). a.role) o) false = elim [ None ↦ refl | Some a ↦ refl ] in
    go (account_named accounts id)
