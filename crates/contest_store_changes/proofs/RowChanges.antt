-- What a change of a rejudging or of a member makes of the rows of whole lists.
use Rattle.std.proofs.Common.{◌≡◌, ◌∙◌, ℕ, ◌+◌, Bool, true, false, List, [], ◌∷◌, ◌++◌, map, refl, ap, ap₂, sym}
use Rattle.std.specs.Prelude.{◌==◌, ◌&&◌, if◌then◌else◌}
use Rattle.std.specs.Option.{option_map}
use Rattle.std.specs.List.{enumerate_from, flat_map}
use Rattle.std.proofs.lemmas.List.{map-append}
use Rattle.sqlite.specs.Collation.TheVariants.{Binary}
use Rattle.sqlite.specs.Values.{or_null}
use Rattle.sqlite_schema.specs.Rules.{equal}
use Rattle.sqlite_value.specs.Order.{Row}
use Rattle.sqlite_value.specs.declared.value.Value.TheVariants.{Text}
use Rattle.contest_types.specs.SettingsNames.{type_id_at}
use Rattle.contest_types.specs.Setup.{Setup}
use Rattle.contest_types.specs.State.{changed_at, with_member_state}
use Rattle.contest_types.specs.declared.rejudging.Member.{Member}
use Rattle.contest_types.specs.declared.rejudging.MemberState.{MemberState}
use Rattle.contest_types.specs.declared.rejudging.Rejudging.{Rejudging}
use Rattle.contest_types.specs.declared.rejudging.RejudgingState.{RejudgingState}
use Rattle.contest_store_rows.specs.Cells.{flag, number}
use Rattle.contest_store_rows.specs.ListRows.{is_ready, member_account, member_row, member_type, rejudging_row, state_number}
use Rattle.contest_store_rows.proofs.ListLaws.{rows_from}
use Rattle.contest_store_tables.specs.Changes.{change_row, changed_row}
use Rattle.contest_store_tables.specs.declared.row_change.RowChange.TheVariants as row_change
use Rattle.contest_store_changes.proofs.SameNumbers.{same_after, same_number}

-- the members of rejudgings that are counted from a number
abbrev pub members_from : Setup → ℕ → List Rejudging → List Row
members_from s n rs = flat_map (λ r. rows_from (member_row s r.0) 1 (r.1).members) (enumerate_from n rs)

-- what a change of a rejudging's state gives
abbrev in_state : RejudgingState → Rejudging → Rejudging
in_state st r = record r { state = st }

abbrev state_given : ℕ → RejudgingState → Row
state_given n st = number n ∷ number (state_number st) ∷ []

-- the row of one rejudging, changed or not
one_state : (first n : ℕ) (st : RejudgingState) (r : Rejudging) (b : Bool) →
    rejudging_row first (if b then in_state st r else r)
    ≡ (if b && true then changed_row row_change.RejudgingState (state_given n st) (rejudging_row first r) else rejudging_row first r)
one_state first n st r true = refl
one_state first n st r false = refl

-- the rows of rejudgings of which one has another state
pub states_changed : (first n : ℕ) (st : RejudgingState) (rs : List Rejudging) →
    rows_from rejudging_row first (changed_at first n (in_state st) rs) ≡ map (change_row row_change.RejudgingState (state_given n st)) (rows_from rejudging_row first rs)
states_changed first n st [] = refl
states_changed first n st (r ∷ rs) =
    let one = one_state first n st r (first == n)
    ∙ ap (λ b. if b && true then changed_row row_change.RejudgingState (state_given n st) (rejudging_row first r) else rejudging_row first r) (sym (same_number first n)) in
    ap₂ ◌∷◌ one (states_changed (first + 1) n st rs)

module _ (s : Setup) (n place : ℕ) (st : MemberState) where
  -- what a change of a member's state gives
  abbrev in_it : Member → Member
  in_it m = record m { state = st }

  abbrev given : Row
  given = number n ∷ number (place + 1) ∷ or_null Text (option_map (type_id_at s) (member_type st)) ∷ or_null Text (member_account st) ∷ flag (is_ready st) ∷ []

  abbrev change : Row → Row
  change = change_row row_change.MemberState given

  -- a row by what the two tests of its key say
  abbrev by_tests : Row → Bool → Bool → Row
  by_tests r rejudging member = if rejudging && (member && true) then changed_row row_change.MemberState given r else r

  -- the row of one member of that rejudging, changed or not
  one_member : (k p : ℕ) (m : Member) (b : Bool) → member_row s k p (if b then in_it m else m) ≡ by_tests (member_row s k p m) true b
  one_member k p m true = refl
  one_member k p m false = refl

  -- the rows of the members of the rejudging with the number
  members_changed : (k : ℕ) → (k == n) ≡ true → (p : ℕ) (ms : List Member) → rows_from (member_row s k) (p + 1) (changed_at p place in_it ms) ≡ map change (rows_from (member_row s k) (p + 1) ms)
  members_changed k is p [] = refl
  members_changed k is p (m ∷ ms) =
      let first = same_number k n ∙ is in
      let second = same_number (p + 1) (place + 1) ∙ same_after p place in
      ap₂ ◌∷◌ (one_member k (p + 1) m (p == place) ∙ ap₂ (by_tests (member_row s k (p + 1) m)) (sym first) (sym second)) (members_changed k is (p + 1) ms)

  -- the rows of the members of another
  members_kept : (k : ℕ) → (k == n) ≡ false → (p : ℕ) (ms : List Member) → rows_from (member_row s k) p ms ≡ map change (rows_from (member_row s k) p ms)
  members_kept k is p [] = refl
  members_kept k is p (m ∷ ms) =
      let r = member_row s k p m in
      ap₂ ◌∷◌ (ap (λ b. by_tests r b (equal Binary (number p) (number (place + 1)))) (sym (same_number k n ∙ is))) (members_kept k is (p + 1) ms)

  -- the rows of the members of any one
  of_one : (k : ℕ) (r : Rejudging) (b : Bool) → (k == n) ≡ b → rows_from (member_row s k) 1 (if b then with_member_state place st r else r).members ≡ map change (rows_from (member_row s k) 1 r.members)
  of_one k r true is = members_changed k is 0 r.members
  of_one k r false is = members_kept k is 1 r.members

  -- the rows of the members of all rejudgings, where one of them has another state
  pub members_are_changed : (first : ℕ) (rs : List Rejudging) → members_from s first (changed_at first n (with_member_state place st) rs) ≡ map change (members_from s first rs)
  members_are_changed first [] = refl
  members_are_changed first (r ∷ rs) =
      ap₂ ◌++◌ (of_one first r (first == n) refl) (members_are_changed (first + 1) rs)
      ∙ sym (map-append change (rows_from (member_row s first) 1 r.members) (members_from s (first + 1) rs))

  -- the rows of the rejudgings say nothing of the states of members
  same_rejudging : (k : ℕ) (r : Rejudging) (b : Bool) → rejudging_row k (if b then with_member_state place st r else r) ≡ rejudging_row k r
  same_rejudging k r true = refl
  same_rejudging k r false = refl

  pub rejudgings_stay : (first : ℕ) (rs : List Rejudging) → rows_from rejudging_row first (changed_at first n (with_member_state place st) rs) ≡ rows_from rejudging_row first rs
  rejudgings_stay first [] = refl
  rejudgings_stay first (r ∷ rs) = ap₂ ◌∷◌ (same_rejudging first r (first == n)) (rejudgings_stay (first + 1) rs)
