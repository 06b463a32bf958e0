-- Rejudgings, with their members, and the rows of their two tables, one to one.
use Rattle.std.proofs.Common.{◌≡◌, ◌∙◌, ℕ, ◌+◌, ◌<◌, Bool, true, false, List, [], ◌∷◌, ◌++◌, length, drop, Option, Some, None, refl, sym, ap, append-nil, arith}
use Rattle.std.specs.Prelude.{◌==◌, IfSome}
use Rattle.std.specs.List.{AllByRecursion, enumerate_from, flat_map, list_all}
use Rattle.std.specs.Option.{option_and_then, option_map}
use Rattle.std.proofs.lemmas.Bool.Decides.{nat_tests}
use Rattle.std.proofs.lemmas.List.{take-append-drop}
use Rattle.std.proofs.lemmas.List.Sums.{take_while-cons}
use Rattle.sqlite_value.specs.Order.{Row, column}
use Rattle.contest_types.specs.SettingsNames.{type_id_at}
use Rattle.contest_types.specs.IdText.{IsId}
use Rattle.contest_types.specs.NameText.{name_from}
use Rattle.contest_types.specs.Setup.{Setup, IsValid}
use Rattle.contest_types.specs.declared.objects.JudgementType.{JudgementType}
use Rattle.contest_types.specs.declared.rejudging.Member.{Member}
use Rattle.contest_types.specs.declared.rejudging.MemberState.{MemberState}
use Rattle.contest_types.specs.declared.rejudging.MemberState.TheVariants as member
use Rattle.contest_types.specs.declared.rejudging.Rejudging.{Rejudging}
use Rattle.contest_types.specs.declared.rejudging.RejudgingState.{RejudgingState}
use Rattle.contest_types.specs.declared.rejudging.RejudgingState.TheVariants as state
use Rattle.contest_store_rows.specs.Cells.{number_of}
use Rattle.contest_store_rows.specs.Laws.{IsWritableRejudging, IsWritableState, RejudgingsReadBack, RejudgingsWriteBack}
use Rattle.contest_store_rows.specs.Lists.{list_in}
use Rattle.contest_store_rows.specs.ListRows.{member_account, member_row, member_type, rejudging_row, state_number}
use Rattle.contest_store_rows.specs.Rejudgings.{head_in, member_in, member_said, member_state_by, own_rows, rejudging_in, rejudging_said, rejudgings_from, state_of}
use Rattle.contest_store_rows.proofs.ClarificationLaws.{place_if_back}
use Rattle.contest_store_rows.proofs.ListLaws.{list_back, list_written, next_written, parts, rows_from}
use Rattle.contest_store_rows.proofs.ListLemmas.{taken}
use Rattle.contest_store_rows.proofs.RowLaws.{id_back, less_one}
use Rattle.contest_store_rows.proofs.RowLemmas.{is_no_real, no_real_text, reads_back, writes_back}

-- the type and the account of a state are some, and tell it
typed : (s : Setup) (m : MemberState) → IsWritableState s m → IfSome (member_type m) (λ v. v < length s.types)
typed s member.Empty w = w
typed s (member.Proposed verdict account) w = w.0
typed s (member.Ready verdict) w = w

named : (s : Setup) (m : MemberState) → IsWritableState s m → IfSome (member_account m) IsId
named s member.Empty w = w
named s (member.Proposed verdict account) w = w.1
named s (member.Ready verdict) w = tt

told : (m : MemberState) → member_state_by (member_type m) (member_account m) ≡ m
told member.Empty = refl
told (member.Proposed verdict account) = refl
told (member.Ready verdict) = refl

member_is_said : (s : Setup) → IsValid s → (j n : ℕ) (m : Member) → IsWritableState s m.state → member_said s (member_row s j n m) ≡ Some m
member_is_said s valid j n m w =
    rw (id_back (member_account m.state) (named s m.state w), place_if_back (λ (t : JudgementType). t.id) s.types (member_type m.state) valid.types (typed s m.state w), told m.state, less_one m.team) refl

member_back : (s : Setup) → IsValid s → (j n : ℕ) (m : Member) → IsWritableState s m.state → member_in s j n (member_row s j n m) ≡ Some m
member_back s valid j n m w =
    let no_real : list_all is_no_real (member_row s j n m) ≡ true = rw (no_real_text (option_map (type_id_at s) (member_type m.state)), no_real_text (member_account m.state)) refl in
    reads_back (member_row s j n) (member_said s (member_row s j n m)) m (member_is_said s valid j n m w) no_real

member_written : (s : Setup) (j n : ℕ) (r : Row) (m : Member) → member_in s j n r ≡ Some m → r ≡ member_row s j n m
member_written s j n r m is = writes_back (member_row s j n) r (member_said s r) m is

state_back : (st : RejudgingState) → state_of (state_number st) ≡ st
state_back state.Open = refl
state_back state.Applied = refl
state_back state.Cancelled = refl

abbrev pub without_members : Rejudging → Rejudging
without_members r = record r { members = [] }

head_back : (n : ℕ) (r : Rejudging) → name_from r.reason ≡ Some r.reason → head_in n (rejudging_row n r) ≡ Some (without_members r)
head_back n r w =
    let said : rejudging_said (rejudging_row n r) ≡ Some (without_members r) = rw (w, state_back r.state) refl in
    reads_back (rejudging_row n) (rejudging_said (rejudging_row n r)) (without_members r) said refl

-- the rows of members, rejudging by rejudging, counted from a number
abbrev members_of : Setup → ℕ → Rejudging → List Row
members_of s n r = rows_from (member_row s n) 1 r.members

abbrev members_from : Setup → ℕ → List Rejudging → List Row
members_from s n rs = flat_map (λ r. members_of s r.0 r.1) (enumerate_from n rs)

rejudging_back : (s : Setup) → IsValid s → (n : ℕ) (r : Rejudging) → IsWritableRejudging s r → rejudging_in s n (rejudging_row n r) (members_of s n r) ≡ Some r
rejudging_back s valid n r w =
    rw (head_back n r w.reason, list_back (λ (m : Member). IsWritableState s m.state) (member_row s n) (member_in s n) (member_back s valid n) 1 r.members w.members) refl

same_number : (n : ℕ) → (n == n) ≡ true
same_number n = grind (arith, nat_tests)

other_number : (m n : ℕ) → n < m → (m == n) ≡ false
other_number m n l = grind (arith, nat_tests, l)

abbrev names : ℕ → Row → Bool
names n r = number_of (column r 0) == n

-- its own rows are taken, and then those in front of the rest that name it
own_front : (s : Setup) (n at : ℕ) (ms : List Member) (rest : List Row) → own_rows n (rows_from (member_row s n) at ms ++ rest) ≡ rows_from (member_row s n) at ms ++ own_rows n rest
own_front s n at [] rest = refl
own_front s n at (m ∷ ms) rest =
    take_while-cons (names n) (member_row s n at m) (rows_from (member_row s n) (at + 1) ms ++ rest)
    ∙ rw (same_number n) (ap (λ rows. member_row s n at m ∷ rows) (own_front s n (at + 1) ms rest))

none_first : (s : Setup) (n k at : ℕ) (ms : List Member) (rest : List Row) → n < k → own_rows n rest ≡ [] → own_rows n (rows_from (member_row s k) at ms ++ rest) ≡ []
none_first s n k at [] rest l none = none
none_first s n k at (m ∷ ms) rest l none =
    take_while-cons (names n) (member_row s k at m) (rows_from (member_row s k) (at + 1) ms ++ rest) ∙ rw (other_number k n l) refl

-- no row of a later rejudging names it
none_later : (s : Setup) (n k : ℕ) (rs : List Rejudging) → n < k → own_rows n (members_from s k rs) ≡ []
none_later s n k [] l = refl
none_later s n k (r ∷ rs) l = none_first s n k 1 r.members (members_from s (k + 1) rs) l (none_later s n (k + 1) rs (omega (arith, l)))

own_is : (s : Setup) (n : ℕ) (r : Rejudging) (rs : List Rejudging) → own_rows n (members_of s n r ++ members_from s (n + 1) rs) ≡ members_of s n r
own_is s n r rs =
    own_front s n 1 r.members (members_from s (n + 1) rs)
    ∙ (ap (λ rows. members_of s n r ++ rows) (none_later s n (n + 1) rs (omega arith)) ∙ append-nil (members_of s n r))

joined : {X : Type 0} (first : Option X) (rest : Option (List X)) (x : X) (xs : List X) → first ≡ Some x → rest ≡ Some xs → option_and_then (λ y. option_map (λ ys. y ∷ ys) rest) first ≡ Some (x ∷ xs)
joined first rest x xs first_is rest_is = rw (first_is, rest_is) refl

dropped : (xs ys : List Row) → drop (length xs) (xs ++ ys) ≡ ys
dropped [] ys = refl
dropped (x ∷ xs) ys = dropped xs ys

read_first : (s : Setup) (n : ℕ) (r : Rejudging) (rs : List Rejudging) (row : Row) (rows own rest : List Row) → own_rows n (own ++ rest) ≡ own → rejudging_in s n row own ≡ Some r → rejudgings_from s (n + 1) rows rest ≡ Some rs
    → rejudgings_from s n (row ∷ rows) (own ++ rest) ≡ Some (r ∷ rs)
read_first s n r rs row rows own rest own_is first others =
    let left : drop (length (own_rows n (own ++ rest))) (own ++ rest) ≡ rest = ap (λ o. drop (length o) (own ++ rest)) own_is ∙ dropped own rest in
    joined (rejudging_in s n row (own_rows n (own ++ rest))) (rejudgings_from s (n + 1) rows (drop (length (own_rows n (own ++ rest))) (own ++ rest))) r rs
    (ap (rejudging_in s n row) own_is ∙ first) (ap (rejudgings_from s (n + 1) rows) left ∙ others)

rejudgings_back : (s : Setup) → IsValid s → (n : ℕ) (rs : List Rejudging) → AllByRecursion (IsWritableRejudging s) rs → rejudgings_from s n (rows_from rejudging_row n rs) (members_from s n rs) ≡ Some rs
rejudgings_back s valid n [] all = refl
rejudgings_back s valid n (r ∷ rs) all =
    read_first s n r rs (rejudging_row n r) (rows_from rejudging_row (n + 1) rs) (members_of s n r) (members_from s (n + 1) rs) (own_is s n r rs) (rejudging_back s valid n r all.0) (rejudgings_back s valid (n + 1) rs all.1)

pub rejudgings_read_back : RejudgingsReadBack
rejudgings_read_back s valid rs all = rejudgings_back s valid 1 rs all

-- what was read of a rejudging's own row, and of those of its members
record Whole (n : ℕ) (head : Option Rejudging) (members : Option (List Member)) (j : Rejudging) : Type 0 where
  first : Rejudging
  head_is : head ≡ Some first
  row_is : rejudging_row n first ≡ rejudging_row n j
  members_are : members ≡ Some j.members

wholly : (n : ℕ) (head : Option Rejudging) (members : Option (List Member)) (j : Rejudging) → option_and_then (λ (h : Rejudging). option_map (λ ms. record h { members = ms }) members) head ≡ Some j → Whole n head members j
wholly n None members j is = absurd (cc is)
wholly n (Some h) None j is = absurd (cc is)
wholly n (Some h) (Some ms) j is =
    let same : record h { members = ms } ≡ j = cc is in
    record { first = h; head_is = refl; row_is = ap (rejudging_row n) same; members_are = ap (λ (r : Rejudging). Some r.members) same }

rejudging_written : (s : Setup) (n : ℕ) (r : Row) (own : List Row) (j : Rejudging) → rejudging_in s n r own ≡ Some j → (r ≡ rejudging_row n j) × (own ≡ members_of s n j)
rejudging_written s n r own j is =
    let w = wholly n (head_in n r) (list_in (member_in s n) own) j is in
    (writes_back (rejudging_row n) r (rejudging_said r) w.first w.head_is ∙ w.row_is, list_written (member_row s n) (member_in s n) (member_written s n) 1 own j.members w.members_are)

whole_members : (s : Setup) (n : ℕ) (members : List Row) (j : Rejudging) (js rs : List Rejudging) → rs ≡ j ∷ js → own_rows n members ≡ members_of s n j → drop (length (own_rows n members)) members ≡ members_from s (n + 1) js → members ≡ members_from s n rs
whole_members s n members j js rs whole own rest =
    let split = sym (take-append-drop (length (own_rows n members)) members) ∙ ap (λ front. front ++ drop (length (own_rows n members)) members) (taken (names n) members) in
    split ∙ (ap (λ left. own_rows n members ++ left) rest ∙ (ap (λ front. front ++ members_from s (n + 1) js) own ∙ ap (members_from s n) (sym whole)))

written_from : (s : Setup) (n : ℕ) (rows members : List Row) (rs : List Rejudging) → rejudgings_from s n rows members ≡ Some rs → (rows ≡ rows_from rejudging_row n rs) × (members ≡ members_from s n rs)
written_from s n [] [] rs is =
    let none : rs ≡ [] = cc is in
    (rw none refl, rw none refl)
written_from s n [] (m ∷ ms) rs is = absurd (cc is)
written_from s n (r ∷ rows) members rs is =
    let p = parts (rejudging_in s n r (own_rows n members)) (rejudgings_from s (n + 1) rows (drop (length (own_rows n members)) members)) rs is in
    let first = rejudging_written s n r (own_rows n members) p.x p.first_is in
    let rest = written_from s (n + 1) rows (drop (length (own_rows n members)) members) p.others p.rest_is in
    (next_written rejudging_row n r rows rs p.x p.others p.whole first.0 rest.0, whole_members s n members p.x p.others rs p.whole first.1 rest.1)

pub rejudgings_write_back : RejudgingsWriteBack
rejudgings_write_back s rows members rs is = written_from s 1 rows members rs is
