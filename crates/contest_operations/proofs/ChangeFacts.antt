-- What an administrator posts of the settings and the accounts, and that what is changed may be.
use Rattle.std.proofs.Common.{◌≡◌, ◌∙◌, ℕ, zero, suc, Bool, true, false, List, [], ◌∷◌, length, map, Option, Some, None, Result, Ok, Err, refl, sym, ap, subst, arith}
use Rattle.std.specs.Prelude.{IfSome, codes, ◌&&◌, not, is_some, nat_le, nat_lt, slice_get, if◌then◌else◌}
use Rattle.std.specs.Option.{ok_or, option_and_then, option_map}
use Rattle.std.specs.Str.{bytes_eq}
use Rattle.std.proofs.lemmas.Bool.Decides.{nat_tests}
use Rattle.contest_types.specs.Accounts.{account_addition, account_named}
use Rattle.contest_types.specs.Addable.{are_addable, is_addable}
use Rattle.contest_types.specs.Places.{is_among, place_of}
use Rattle.contest_types.specs.Setup.{has_valid_freeze}
use Rattle.contest_types.specs.SetupAdditions.{team_addition}
use Rattle.contest_types.specs.Valid.{is_valid}
use Rattle.contest_types.specs.declared.limits.TheConstants.{LONGEST_CONTEST}
use Rattle.contest_types.specs.State.{ContestState, FixedPart}
use Rattle.contest_types.specs.declared.account.Account.{Account}
use Rattle.contest_types.specs.declared.account.Role.{Role}
use Rattle.contest_types.specs.declared.entry.Entry.TheVariants.{NewAccount, NewTeam, SetDuration}
use Rattle.contest_types.specs.declared.objects.Team.{Team}
use Rattle.contest_types.specs.declared.refusal.Cause.{Cause}
use Rattle.contest_types.specs.declared.refusal.Cause.TheVariants as cause
use Rattle.contest_types.specs.declared.refusal.Refusal.TheVariants.{Malformed}
use Rattle.contest_types.proofs.PlaceLemmas.{and_left, and_right, both_true, same_bytes}
use Rattle.contest_import.specs.CsvFiles.{role_of}
use Rattle.contest_import.specs.PostedRows.{account_posted, name_posted, team_posted, token_posted}
use Rattle.contest_import.specs.declared.posted_changes.TokenRow.{TokenRow}
use Rattle.contest_requests.specs.ExtensionBodies.{extension_in, has_limits}
use Rattle.contest_requests.proofs.ExtensionLemmas.{within_its_limits}
use Rattle.contest_import.specs.Teams.{named_team}
use Rattle.contest_import.specs.declared.account_row.AccountRow.{AccountRow}
use Rattle.contest_import.proofs.RowLemmas.{row_addable}
use Rattle.contest_import.proofs.SoundRows.{sound_posted}
use Rattle.contest_rules.specs.declared.rule_refusal.RuleRefusal.{RuleRefusal}
use Rattle.contest_rules.specs.declared.rule_refusal.RuleRefusal.TheVariants.{KeyReused, NotOpen}
use Rattle.contest_rules.specs.Extensions.{extension}
use Rattle.contest_rules.specs.declared.extensions.Extension.{Extension}
use Rattle.contest_rules.specs.declared.extensions.WantedExtension.{WantedExtension}
use Rattle.contest_rules.proofs.ExtensionLemmas.{extension_is_addable}
use Rattle.contest_postings.specs.DoneThings.{ruled_with}
use Rattle.contest_postings.specs.PostChanges.{IsSoundChange, account_added, change_made, is_over, made_as, made_entries, made_entry, name_set, ruled_row, team_added, token_set}
use Rattle.contest_postings.specs.declared.changes.MadeChange.{MadeChange}
use Rattle.contest_postings.specs.declared.changes.FixedChange.{FixedChange}
use Rattle.contest_postings.specs.declared.changes.FixedChange.TheVariants.{Account as OfAccount, Team as OfTeam, Token as OfToken, Name as OfName, Extension as OfExtension}
use Rattle.contest_postings.specs.declared.changes.WantedChange.{WantedChange}
use Rattle.contest_postings.specs.declared.changes.WantedChange.TheVariants as wanted
use Rattle.contest_operations.specs.Callers.{Caller, is_admin}
use Rattle.contest_operations.specs.Commands.{posted_as}
use Rattle.contest_operations.specs.PostedChanges.{change_in, posted_change}
use Rattle.contest_operations.specs.declared.post_change.ChangeKind.{ChangeKind}
use Rattle.contest_operations.specs.declared.post_change.ChangeKind.TheVariants as kind
use Rattle.contest_operations.specs.declared.command.Posted.TheVariants.{Change as Changed}
use Rattle.contest_operations.proofs.PostedFacts.{IfKnownPost, OrdinaryRefusal, admin_sight}

change_by : (f : FixedPart) (who : Caller) (o : Option WantedChange) → is_admin who ≡ true → IfSome o IsSoundChange → IfKnownPost f who (posted_as Changed (ok_or o Malformed))
change_by f who None is sound = tt
change_by f who (Some w) is sound = record { sound = sound; speaks = sym (admin_sight who is) }

pub change_known : (f : FixedPart) (who : Caller) (admin : Bool) (o : Option WantedChange) → is_admin who ≡ admin → IfSome o IsSoundChange → IfKnownPost f who (posted_as Changed (posted_change admin o))
change_known f who false o is sound = tt
change_known f who true o is sound = change_by f who o is sound

-- what is known of what a body says is known of the change
sound_mapped : {A : Type 0} (make : A → WantedChange) (o : Option A) → IfSome o (λ a. IsSoundChange (make a)) → IfSome (option_map make o) IsSoundChange
sound_mapped make None sound = tt
sound_mapped make (Some a) sound = sound

always : {A : Type 0} (make : A → WantedChange) → ((a : A) → IsSoundChange (make a)) → (o : Option A) → IfSome (option_map make o) IsSoundChange
always make sound None = tt
always make sound (Some a) = sound a

pub change_sound : (kind : ChangeKind) (body : List ℕ) → IfSome (change_in kind body) IsSoundChange
change_sound kind.Account body = sound_mapped wanted.Account (account_posted body) (sound_posted body)
change_sound kind.Team body = always wanted.Team (λ t. tt) (team_posted body)
change_sound kind.Token body = always wanted.Token (λ t. tt) (token_posted body)
change_sound kind.Name body = always wanted.Name (λ n. tt) (name_posted body)
change_sound kind.Extension body = sound_mapped wanted.Extension (extension_in body) (within_its_limits body)

change_ordinary : (o : Option WantedChange) → OrdinaryRefusal (posted_as Changed (ok_or o Malformed))
change_ordinary None = refl
change_ordinary (Some w) = tt

pub change_refusal_ordinary : (admin : Bool) (o : Option WantedChange) → OrdinaryRefusal (posted_as Changed (posted_change admin o))
change_refusal_ordinary false o = refl
change_refusal_ordinary true o = change_ordinary o

abbrev made : FixedChange → Bool → MadeChange
made change is_new = record { change = change; is_new = is_new }

if_made : (x : ContestState) (row : FixedChange) (is_new over : Bool) (d : MadeChange) → made_as row (if is_new && over then Err NotOpen else Ok is_new) ≡ Ok d
    → (is_new ≡ true → is_addable x (made_entry row) ≡ true) → are_addable x (made_entries d) ≡ true
if_made x row true true d is may = absurd (cc is)
if_made x row true false d is may =
    let same : made row true ≡ d = cc is in
    subst (λ (e : MadeChange). are_addable x (made_entries e) ≡ true) same (both_true _ _ (may refl) refl)
if_made x row false over d is may =
    let same : made row false ≡ d = cc is in
    subst (λ (e : MadeChange). are_addable x (made_entries e) ≡ true) same refl

full_refused : (x : ContestState) (row : FixedChange) (over : Bool) (d : MadeChange) → made_as row (ruled_row over (Err cause.TableFull)) ≡ Ok d → are_addable x (made_entries d) ≡ true
full_refused x row true d is = absurd (cc is)
full_refused x row false d is = absurd (cc is)

-- what comes to be added was found to be addable
ruled_addable : (x : ContestState) (row : FixedChange) (over : Bool) (r : Result Bool Cause) (d : MadeChange) → made_as row (ruled_row over r) ≡ Ok d
    → (r ≡ Ok true → is_addable x (made_entry row) ≡ true) → are_addable x (made_entries d) ≡ true
ruled_addable x row over (Ok is_new) d is may = if_made x row is_new over d is (λ new. may (ap Ok new))
ruled_addable x row over (Err cause.KeyReused) d is may = absurd (cc is)
ruled_addable x row over (Err cause.TableFull) d is may = full_refused x row over d is
ruled_addable x row over (Err cause.UnknownReference) d is may = absurd (cc is)
ruled_addable x row over (Err cause.Malformed) d is may = absurd (cc is)
ruled_addable x row over (Err cause.AlreadyReleased) d is may = absurd (cc is)
ruled_addable x row over (Err cause.NotOpen) d is may = absurd (cc is)

of_account : (x : ContestState) (w : AccountRow) (o : Option Role) (d : MadeChange) → bytes_eq w.id (codes "import") ≡ false
    → account_added x.fixed (option_map (λ role. record { id = w.id; role = role; digest = w.digest }) o) ≡ Ok d → are_addable x (made_entries d) ≡ true
of_account x w None d sound is = absurd (cc is)
of_account x w (Some role) d sound is =
    let a : Account = record { id = w.id; role = role; digest = w.digest } in
    ruled_addable x (OfAccount a) false (account_addition x.fixed.settings x.fixed.accounts a) d is (row_addable x (NewAccount a) sound)

of_team : (x : ContestState) (now : ℕ) (o : Option Team) (d : MadeChange) → team_added x.fixed now o ≡ Ok d → are_addable x (made_entries d) ≡ true
of_team x now None d is = absurd (cc is)
of_team x now (Some t) d is = ruled_addable x (OfTeam t) (is_over x.fixed now) (team_addition x.fixed.settings t) d is (row_addable x (NewTeam t) tt)

-- an account that is found by an id has it
pub named_so : (accounts : List Account) (id : List ℕ) (a : Account) → account_named accounts id ≡ Some a → bytes_eq a.id id ≡ true
named_so [] id a is = absurd (cc is)
named_so (b ∷ accounts) id a is =
    let go : (t : Bool) → bytes_eq b.id id ≡ t → (if t then Some b else account_named accounts id) ≡ Some a → bytes_eq a.id id ≡ true = elim [
      | true ↦ λ e k. (let same : b ≡ a = cc k in ap (λ (c : Account). bytes_eq c.id id) (sym same) ∙ e)
      | false ↦ λ e k. named_so accounts id a k
    ] in
    go (bytes_eq b.id id) refl is

-- a token that is replaced is another's of nobody
token_addable : (x : ContestState) (t : TokenRow) (a : Account) → account_named x.fixed.accounts t.id ≡ Some a
    → (own held : Bool) → is_among (map (λ (b : Account). b.digest) x.fixed.accounts) t.digest ≡ held
    → (d : MadeChange) → made_as (OfToken a t.digest) (if own then Ok false else (if held then Err KeyReused else Ok true)) ≡ Ok d → are_addable x (made_entries d) ≡ true
token_addable x t a named true held new d is =
    let same : made (OfToken a t.digest) false ≡ d = cc is in
    subst (λ (e : MadeChange). are_addable x (made_entries e) ≡ true) same refl
token_addable x t a named false true new d is = absurd (cc is)
token_addable x t a named false false new d is =
    let same : made (OfToken a t.digest) true ≡ d = cc is in
    let there : is_some (account_named x.fixed.accounts a.id) ≡ true = ap (λ id. is_some (account_named x.fixed.accounts id)) (same_bytes a.id t.id (named_so x.fixed.accounts t.id a named)) ∙ ap is_some named in
    subst (λ (e : MadeChange). are_addable x (made_entries e) ≡ true) same (both_true _ _ (both_true _ _ there (ap not new)) refl)

of_token : (x : ContestState) (t : TokenRow) (o : Option Account) (d : MadeChange) → account_named x.fixed.accounts t.id ≡ o → token_set x.fixed t o ≡ Ok d → are_addable x (made_entries d) ≡ true
of_token x t None d named is = absurd (cc is)
of_token x t (Some a) d named is = token_addable x t a named (bytes_eq a.digest t.digest) (is_among (map (λ (b : Account). b.digest) x.fixed.accounts) t.digest) refl d is

-- what stands at a place stands below the length
below : {X : Type 0} (xs : List X) (i : ℕ) (x : X) → slice_get xs i ≡ Some x → nat_lt i (length xs) ≡ true
below [] i x is = absurd (cc is)
below (y ∷ xs) zero x is = grind (arith, nat_tests)
below (y ∷ xs) (suc i) x is =
    let further = below xs i x is in
    grind (arith, nat_tests)

name_addable : (x : ContestState) (name : List ℕ) (place : ℕ) (t : Team) → slice_get x.fixed.settings.teams place ≡ Some t
    → (same : Bool) (d : MadeChange) → ◌≡◌ {A = Result MadeChange RuleRefusal} (Ok (made (OfName place (record t { name = name })) (not same))) (Ok d) → are_addable x (made_entries d) ≡ true
name_addable x name place t at true d is =
    let k : made (OfName place (record t { name = name })) false ≡ d = cc is in
    subst (λ (e : MadeChange). are_addable x (made_entries e) ≡ true) k refl
name_addable x name place t at false d is =
    let k : made (OfName place (record t { name = name })) true ≡ d = cc is in
    subst (λ (e : MadeChange). are_addable x (made_entries e) ≡ true) k (both_true _ _ (below x.fixed.settings.teams place t at) refl)

of_team_at : (x : ContestState) (name : List ℕ) (place : ℕ) (o : Option Team) (d : MadeChange) → slice_get x.fixed.settings.teams place ≡ o
    → name_set name (option_map (λ t. (place, t)) o) ≡ Ok d → are_addable x (made_entries d) ≡ true
of_team_at x name place None d at is = absurd (cc is)
of_team_at x name place (Some t) d at is = name_addable x name place t at (bytes_eq t.name name) d is

of_name : (x : ContestState) (name : List ℕ) (o : Option ℕ) (d : MadeChange)
    → name_set name (option_and_then (λ place. option_map (λ t. (place, t)) (slice_get x.fixed.settings.teams place)) o) ≡ Ok d → are_addable x (made_entries d) ≡ true
of_name x name None d is = absurd (cc is)
of_name x name (Some place) d is = of_team_at x name place (slice_get x.fixed.settings.teams place) d refl is

-- an extension lasts within the limits of a contest
of_extension : (x : ContestState) (now : ℕ) (w : WantedExtension) (r : Result Extension RuleRefusal) (d : MadeChange) → is_valid x ≡ true → has_limits w ≡ true
    → extension x.fixed x.submissions now w ≡ r → ruled_with (λ (e : Extension). made (OfExtension e.duration e.freeze) e.is_new) r ≡ Ok d → are_addable x (made_entries d) ≡ true
of_extension x now w (Err refusal) d valid limits decided is = absurd (cc is)
of_extension x now w (Ok e) d valid limits decided is =
    let same : made (OfExtension e.duration e.freeze) e.is_new ≡ d = cc is in
    let both = and_left (nat_lt 0 w.duration && nat_le w.duration LONGEST_CONTEST) (has_valid_freeze w.freeze w.duration) limits in
    let may : (b : Bool) → e.is_new ≡ b → are_addable x (if b then SetDuration e.duration e.freeze ∷ [] else []) ≡ true = elim [
      | true ↦ λ new. both_true _ _ (extension_is_addable x now w e valid (and_left (nat_lt 0 w.duration) _ both) (and_right (nat_lt 0 w.duration) _ both)
          (and_right (nat_lt 0 w.duration && nat_le w.duration LONGEST_CONTEST) _ limits) decided new) refl
      | false ↦ λ new. refl
    ] in
    subst (λ (c : MadeChange). are_addable x (made_entries c) ≡ true) same (may e.is_new refl)

pub made_addable : (x : ContestState) (now : ℕ) (w : WantedChange) (d : MadeChange) → is_valid x ≡ true → IsSoundChange w → change_made now w x ≡ Ok d → are_addable x (made_entries d) ≡ true
made_addable x now (wanted.Account w) d valid sound is = of_account x w (role_of x.fixed.settings w.role) d sound is
made_addable x now (wanted.Team t) d valid sound is = of_team x now (named_team x.fixed.settings t) d is
made_addable x now (wanted.Token t) d valid sound is = of_token x t (account_named x.fixed.accounts t.id) d refl is
made_addable x now (wanted.Name n) d valid sound is = of_name x n.name (place_of n.team (map (λ (t : Team). t.id) x.fixed.settings.teams)) d is
made_addable x now (wanted.Extension w) d valid sound is = of_extension x now w (extension x.fixed x.submissions now w) d valid sound refl is
