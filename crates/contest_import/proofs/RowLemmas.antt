-- The rows of a file may be added one after the other.
use Rattle.std.proofs.Common.{◌≡◌, ◌∙◌, ℕ, ◌+◌, Bool, true, false, List, [], ◌∷◌, ◌++◌, Result, Ok, Err, refl, ap}
use Rattle.std.specs.Prelude.{◌&&◌, IfOk, codes, not}
use Rattle.std.specs.Str.{bytes_eq}
use Rattle.contest_types.specs.Accounts.{account_addition, has_valid_role}
use Rattle.contest_types.specs.Addable.{are_addable, is_addable, is_added}
use Rattle.contest_types.specs.Setup.{Setup}
use Rattle.contest_types.specs.State.{FixedPart, ContestState, add, add_all}
use Rattle.contest_types.specs.declared.entry.Entry.{Entry}
use Rattle.contest_types.specs.declared.entry.Entry.TheVariants.{NewSubmission, NewProposal, NewRelease, NewClarification, NewRejudging, SetMember, SetRejudging, SetStart, SetThaw, SetFinalized, SetDuration, SetTeamName, SetDigest, NewType, NewLanguage, NewProblem, NewGroup, NewTeam, NewAccount}
use Rattle.contest_types.specs.declared.account.Account.{Account}
use Rattle.contest_types.specs.declared.refusal.Cause.{Cause}
use Rattle.contest_import.specs.RowAdditions.{Additions, after_addition, after_record, after_records, bare, grown_by, none_yet, or_first_fault, row_addition, rows_of, rows_or_refusal}

-- no account is called `import`
abbrev pub IsSoundRow : Entry → Type 0
IsSoundRow (NewAccount a) = bytes_eq a.id (codes "import") ≡ false
IsSoundRow _ = Unit {0}

-- what was read stands on the contest's own fixed part, and may be added
pub record Fits (x : ContestState) (a : Additions) : Type 0 where
  pub fixed : (add_all x a.rows).fixed ≡ a.fixed
  pub addable : are_addable x a.rows ≡ true

-- what an entry makes of the fixed part depends on that alone
pub fixed_after : (x y : ContestState) (e : Entry) → x.fixed ≡ y.fixed → (add x e).fixed ≡ (add y e).fixed
fixed_after x y (NewSubmission s) h = h
fixed_after x y (NewProposal p) h = h
fixed_after x y (NewRelease v) h = h
fixed_after x y (NewClarification c) h = h
fixed_after x y (NewRejudging r) h = h
fixed_after x y (SetMember n place state) h = h
fixed_after x y (SetRejudging n state) h = h
fixed_after x y (SetStart start) h = ap (λ (f : FixedPart). (add (bare f) (SetStart start)).fixed) h
fixed_after x y (SetThaw thaw) h = ap (λ (f : FixedPart). (add (bare f) (SetThaw thaw)).fixed) h
fixed_after x y (SetFinalized finalized) h = ap (λ (f : FixedPart). (add (bare f) (SetFinalized finalized)).fixed) h
fixed_after x y (SetDuration duration freeze) h = ap (λ (f : FixedPart). (add (bare f) (SetDuration duration freeze)).fixed) h
fixed_after x y (SetTeamName team name) h = ap (λ (f : FixedPart). (add (bare f) (SetTeamName team name)).fixed) h
fixed_after x y (SetDigest id digest) h = ap (λ (f : FixedPart). (add (bare f) (SetDigest id digest)).fixed) h
fixed_after x y (NewType t) h = ap (λ (f : FixedPart). (add (bare f) (NewType t)).fixed) h
fixed_after x y (NewLanguage l) h = ap (λ (f : FixedPart). (add (bare f) (NewLanguage l)).fixed) h
fixed_after x y (NewProblem p) h = ap (λ (f : FixedPart). (add (bare f) (NewProblem p)).fixed) h
fixed_after x y (NewGroup g) h = ap (λ (f : FixedPart). (add (bare f) (NewGroup g)).fixed) h
fixed_after x y (NewTeam t) h = ap (λ (f : FixedPart). (add (bare f) (NewTeam t)).fixed) h
fixed_after x y (NewAccount a) h = ap (λ (f : FixedPart). (add (bare f) (NewAccount a)).fixed) h

pub add_all_last : (x : ContestState) (es : List Entry) (e : Entry) → add_all x (es ++ e ∷ []) ≡ add (add_all x es) e
add_all_last x [] e = refl
add_all_last x (d ∷ es) e = add_all_last (add x d) es e

pub addable_last : (x : ContestState) (es : List Entry) (e : Entry) → are_addable x es ≡ true → is_addable (add_all x es) e ≡ true → are_addable x (es ++ e ∷ []) ≡ true
addable_last x [] e all last = rw last refl
addable_last x (d ∷ es) e all last =
    let go : (b : Bool) → is_addable x d ≡ b → (b && are_addable (add x d) es) ≡ true → (is_addable x d && are_addable (add x d) (es ++ e ∷ [])) ≡ true = elim [
      | true ↦ λ is rest. rw is (addable_last (add x d) es e rest last)
      | false ↦ λ is rest. absurd (cc rest)
    ] in
    go (is_addable x d) refl all

role_fits : (s : Setup) (accounts : List Account) (a : Account) → account_addition s accounts a ≡ Ok true → has_valid_role s a.role ≡ true
role_fits s accounts a is =
    let go : (b : Bool) → has_valid_role s a.role ≡ b → has_valid_role s a.role ≡ true = elim [
      | true ↦ λ e. e
      | false ↦ λ e. absurd (let no : ◌≡◌ {A = Result Bool Cause} (Err _) (Ok true) = rw e at is in cc no)
    ] in
    go (has_valid_role s a.role) refl

-- a row that is added to the fixed part may be added to its contest
pub row_addable : (x : ContestState) (e : Entry) → IsSoundRow e → row_addition x.fixed e ≡ Ok true → is_addable x e ≡ true
row_addable x (NewType t) sound is = ap is_added is
row_addable x (NewLanguage l) sound is = ap is_added is
row_addable x (NewProblem p) sound is = ap is_added is
row_addable x (NewGroup g) sound is = ap is_added is
row_addable x (NewTeam t) sound is = ap is_added is
row_addable x (NewAccount a) sound is = λ i. (role_fits x.fixed.settings x.fixed.accounts a is i && not (sound i)) && is_added (is i)
row_addable x (NewSubmission s) sound is = absurd (cc is)
row_addable x (NewProposal p) sound is = absurd (cc is)
row_addable x (NewRelease v) sound is = absurd (cc is)
row_addable x (NewClarification c) sound is = absurd (cc is)
row_addable x (NewRejudging r) sound is = absurd (cc is)
row_addable x (SetMember n place state) sound is = absurd (cc is)
row_addable x (SetRejudging n state) sound is = absurd (cc is)
row_addable x (SetStart start) sound is = absurd (cc is)
row_addable x (SetThaw thaw) sound is = absurd (cc is)
row_addable x (SetFinalized finalized) sound is = absurd (cc is)
row_addable x (SetDuration duration freeze) sound is = absurd (cc is)
row_addable x (SetTeamName team name) sound is = absurd (cc is)
row_addable x (SetDigest id digest) sound is = absurd (cc is)

-- one more row
grown_fits : (x : ContestState) (a : Additions) (e : Entry) (added : Bool) → IsSoundRow e → row_addition a.fixed e ≡ Ok added → Fits x a → Fits x (grown_by a e added)
grown_fits x a e false sound is h = h
grown_fits x a e true sound is h =
    let here : is_addable (add_all x a.rows) e ≡ true = row_addable (add_all x a.rows) e sound (ap (λ f. row_addition f e) h.fixed ∙ is) in
    record {
      fixed = ap (λ (y : ContestState). y.fixed) (add_all_last x a.rows e) ∙ fixed_after (add_all x a.rows) (bare a.fixed) e h.fixed;
      addable = addable_last x a.rows e h.addable here;
    }

addition_fits : (x : ContestState) (a : Additions) (e : Entry) (r : Result Bool Cause) → IsSoundRow e → row_addition a.fixed e ≡ r → Fits x a → IfOk (after_addition a e r) (Fits x)
addition_fits x a e (Ok added) sound is h = grown_fits x a e added sound is h
addition_fits x a e (Err c) sound is h = tt

record_fits : (x : ContestState) (a : Additions) (r : Result Entry Cause) → IfOk r IsSoundRow → Fits x a → IfOk (after_record a r) (Fits x)
record_fits x a (Ok e) sound h = addition_fits x a e (row_addition a.fixed e) sound refl h
record_fits x a (Err c) sound h = tt

pub records_fit : {A : Type 0} (row_of : FixedPart → A → Result Entry Cause) → ((f : FixedPart) (r : A) → IfOk (row_of f r) IsSoundRow) → (x : ContestState) (a : Additions) (n : ℕ) (rs : List A) → Fits x a → IfOk (after_records row_of a n rs) (Fits x)
records_fit row_of sound x a n [] h = h
records_fit row_of sound x a n (r ∷ rs) h =
    let go : (q : Result Additions Cause) → IfOk q (Fits x) → IfOk (or_first_fault (λ b. after_records row_of b (n + 1) rs) n q) (Fits x) = elim [
      | (Ok b) ↦ λ k. records_fit row_of sound x b (n + 1) rs k
      | (Err c) ↦ λ k. tt
    ] in
    go (after_record a (row_of a.fixed r)) (record_fits x a (row_of a.fixed r) (sound a.fixed r) h)

-- the rows that records add may be added
pub rows_addable : {A : Type 0} (row_of : FixedPart → A → Result Entry Cause) → ((f : FixedPart) (r : A) → IfOk (row_of f r) IsSoundRow) → (x : ContestState) (rs : List A) → IfOk (rows_of row_of x.fixed rs) (λ rows. are_addable x rows ≡ true)
rows_addable row_of sound x rs =
    let go : (q : Result Additions (ℕ × Cause)) → IfOk q (Fits x) → IfOk (rows_or_refusal q) (λ rows. are_addable x rows ≡ true) = elim [
      | (Ok b) ↦ λ k. k.addable
      | (Err fault) ↦ λ k. tt
    ] in
    go (after_records row_of (none_yet x.fixed) 1 rs) (records_fit row_of sound x (none_yet x.fixed) 1 rs (record { fixed = refl; addable = refl }))
