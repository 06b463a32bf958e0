-- What is posted and imported leaves the token of an account, but for a token that is posted.
use Rattle.std.proofs.Common.{◌≡◌, ◌∙◌, ℕ, Bool, true, false, List, [], ◌∷◌, ◌++◌, map, Some, Result, Ok, Err, refl, sym, ap}
use Rattle.std.specs.Prelude.{not, IfOk, if◌then◌else◌}
use Rattle.std.specs.List.{list_all}
use Rattle.std.specs.Str.{bytes_eq}
use Rattle.std.proofs.lemmas.Bool.{false≢true}
use Rattle.contest_types.specs.Accounts.{account_named}
use Rattle.contest_types.specs.Addable.{are_addable, is_addable}
use Rattle.contest_types.specs.State.{ContestState, add, add_all, with_digest}
use Rattle.contest_types.specs.declared.account.Account.{Account}
use Rattle.contest_types.specs.declared.entry.Entry.{Entry}
use Rattle.contest_types.specs.declared.entry.Entry.TheVariants.{NewSubmission, NewProposal, NewRelease, NewClarification, NewRejudging, SetMember, SetRejudging, SetStart, SetThaw, SetFinalized, SetDuration, SetTeamName, SetDigest, NewType, NewLanguage, NewProblem, NewGroup, NewTeam, NewAccount}
use Rattle.contest_types.specs.declared.submission.Release.{Release}
use Rattle.contest_types.proofs.AccountLemmas.{named_still}
use Rattle.contest_types.proofs.PlaceLemmas.{and_left, and_right, both_true, same_bytes}
use Rattle.contest_rules.specs.declared.rule_refusal.RuleRefusal.{RuleRefusal}
use Rattle.contest_operations.proofs.GrowLemmas.{new_apart}
use Rattle.contest_postings.specs.DoneThings.{ruled_with}

-- the entry leaves the account's token
abbrev pub keeps_token : (id : List ℕ) → Entry → Bool
keeps_token id (SetDigest other digest) = not (bytes_eq other id)
keeps_token id _ = true

module _ (id : List ℕ) where
  -- the account with the id stays as it is where another gets a token
  others_stay : (other digest : List ℕ) → bytes_eq other id ≡ false → (accounts : List Account) (a : Account) → account_named accounts id ≡ Some a → account_named (with_digest accounts other digest) id ≡ Some a
  others_stay other digest apart [] a is = is
  others_stay other digest apart (b ∷ accounts) a is =
      let rest = others_stay other digest apart accounts a in
      let go : (p q : Bool) → bytes_eq b.id id ≡ p → bytes_eq b.id other ≡ q → (if p then Some b else account_named accounts id) ≡ Some a
      → account_named ((if q then record b { digest = digest } else b) ∷ with_digest accounts other digest) id ≡ Some a = elim [
        | true ↦ elim [
          | true ↦ λ e f k. absurd (false≢true (sym apart ∙ (sym (ap (λ c. bytes_eq c id) (same_bytes b.id other f)) ∙ e)))
          | false ↦ λ e f k. rw e k
        ]
        | false ↦ elim [ true ↦ λ e f k. rw e (rest k) | false ↦ λ e f k. rw e (rest k) ]
      ] in
      go (bytes_eq b.id id) (bytes_eq b.id other) refl refl is

  not_so : (b : Bool) → not b ≡ true → b ≡ false
  not_so true h = absurd (false≢true h)
  not_so false h = refl

  entry_keeps : (x : ContestState) (a : Account) (e : Entry) → account_named x.fixed.accounts id ≡ Some a → is_addable x e ≡ true → keeps_token id e ≡ true → account_named (add x e).fixed.accounts id ≡ Some a
  entry_keeps x a (SetDigest other digest) is may keeps = others_stay other digest (not_so (bytes_eq other id) keeps) x.fixed.accounts a is
  entry_keeps x a (NewAccount b) is may keeps = named_still x.fixed.accounts b (new_apart x b may) id a is
  entry_keeps x a (NewSubmission s) is may keeps = is
  entry_keeps x a (NewProposal p) is may keeps = is
  entry_keeps x a (NewRelease v) is may keeps = is
  entry_keeps x a (NewClarification c) is may keeps = is
  entry_keeps x a (NewRejudging r) is may keeps = is
  entry_keeps x a (SetMember n place state) is may keeps = is
  entry_keeps x a (SetRejudging n state) is may keeps = is
  entry_keeps x a (SetStart start) is may keeps = is
  entry_keeps x a (SetThaw thaw) is may keeps = is
  entry_keeps x a (SetFinalized finalized) is may keeps = is
  entry_keeps x a (SetDuration duration freeze) is may keeps = is
  entry_keeps x a (SetTeamName team name) is may keeps = is
  entry_keeps x a (NewType t) is may keeps = is
  entry_keeps x a (NewLanguage l) is may keeps = is
  entry_keeps x a (NewProblem p) is may keeps = is
  entry_keeps x a (NewGroup g) is may keeps = is
  entry_keeps x a (NewTeam t) is may keeps = is

  pub entries_keep : (x : ContestState) (a : Account) (es : List Entry) → account_named x.fixed.accounts id ≡ Some a → are_addable x es ≡ true → list_all (keeps_token id) es ≡ true → account_named (add_all x es).fixed.accounts id ≡ Some a
  entries_keep x a [] is may keep = is
  entries_keep x a (e ∷ es) is may keep =
      entries_keep (add x e) a es (entry_keeps x a e is (and_left (is_addable x e) _ may) (and_left (keeps_token id e) _ keep)) (and_right (is_addable x e) _ may) (and_right (keeps_token id e) _ keep)

  abbrev pub AllKeep : List Entry → Type 0
  AllKeep es = list_all (keeps_token id) es ≡ true

  pub each_done : {D : Type 0} (P : D → Type 0) (r : Result D RuleRefusal) → ((d : D) → P d) → IfOk r P
  each_done P (Err refusal) h = tt
  each_done P (Ok d) h = h d

  pub each_ruled : {C D : Type 0} (P : D → Type 0) (make : C → D) (r : Result C RuleRefusal) → ((c : C) → P (make c)) → IfOk (ruled_with make r) P
  each_ruled P make (Err refusal) h = tt
  each_ruled P make (Ok c) h = h c

  pub both_keep : (es fs : List Entry) → AllKeep es → AllKeep fs → AllKeep (es ++ fs)
  both_keep [] fs h k = k
  both_keep (e ∷ es) fs h k = both_true _ _ (and_left (keeps_token id e) _ h) (both_keep es fs (and_right (keeps_token id e) _ h) k)

  pub releases_keep : (vs : List Release) → AllKeep (map (λ v. NewRelease v) vs)
  releases_keep [] = refl
  releases_keep (v ∷ vs) = releases_keep vs
