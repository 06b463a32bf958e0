-- What has come stays.
use Rattle.std.proofs.Common.{inr, ◌≡◌, ◌∙◌, ◌+◌, ◌≤◌, ◌++◌, ℕ, suc, Bool, true, false, List, [], ◌∷◌, Some, refl, sym, ap, subst, arith}
use Rattle.std.specs.Prelude.{◌==◌, ◌&&◌, find, is_some, not, slice_get, if◌then◌else◌}
use Rattle.std.specs.Fmt.{decimal}
use Rattle.std.specs.List.{enumerate_from}
use Rattle.std.specs.Str.{bytes_eq}
use Rattle.std.proofs.lemmas.Bool.{false≢true, le-leb, ne_eqb}
use Rattle.contest_types.specs.Clock.{end_of, freeze_of, reached}
use Rattle.contest_types.specs.State.{ContestState, add, changed_at, with_member_state}
use Rattle.contest_types.specs.ValidRejudgings.{is_open}
use Rattle.contest_types.specs.declared.entry.Entry.{Entry}
use Rattle.contest_types.specs.declared.entry.Entry.TheVariants.{NewSubmission, NewProposal, NewRelease, NewClarification, NewRejudging, SetMember, SetRejudging, SetStart, SetThaw, SetFinalized, SetDuration, SetTeamName, SetDigest, NewType, NewLanguage, NewProblem, NewGroup, NewTeam, NewAccount}
use Rattle.contest_types.specs.declared.rejudging.Rejudging.{Rejudging}
use Rattle.contest_types.specs.declared.rejudging.RejudgingState.{RejudgingState}
use Rattle.contest_types.proofs.PlaceLemmas.{and_left, and_right}
use Rattle.contest_score.proofs.BoardAlike.{board_alike}
use Rattle.contest_rules.specs.ClockChanges.{may_thaw}
use Rattle.contest_view.specs.Rejudgings.{named_rejudging}
use Rattle.contest_desk.specs.Items.{item_step}
use Rattle.contest_desk.specs.declared.item.Item.{Item}
use Rattle.contest_desk.proofs.UnseenLemmas.{unseen_entry}
use Rattle.contest_laws.specs.Standing.{ClosedRejudgingsStay, ComeThawStays, HeldReleasesMoveNoBoard, moment_of}
use Rattle.contest_laws.proofs.RunKeeps.{item_keeps, run_keeps}
use Rattle.contest_laws.proofs.Touches.{May, Touches, closing_of, item_may}

-- ---- a thaw that has come

no_second_thaw : (x : ContestState) (thaw now other : ℕ) → x.fixed.marks.thaw ≡ Some thaw → thaw ≤ now → may_thaw x.fixed now other ≡ true → ⊥
no_second_thaw x thaw now other set late may =
    let frozen = is_some (freeze_of x.fixed.settings x.fixed.marks) in
    let coming = not (reached x.fixed.marks.thaw now) in
    let still : not (reached x.fixed.marks.thaw now) ≡ true = and_right frozen coming (and_left (frozen && coming) (reached (end_of x.fixed.settings x.fixed.marks) other) may) in
    let come : reached x.fixed.marks.thaw now ≡ true = ap (λ t. reached t now) set ∙ le-leb thaw now late in
    false≢true (sym (ap not come) ∙ still)

thaw_kept : (x : ContestState) (thaw now : ℕ) (e : Entry) → thaw ≤ now → ((other : ℕ) → e ≡ SetThaw other → ⊥) → x.fixed.marks.thaw ≡ Some thaw → (add x e).fixed.marks.thaw ≡ Some thaw
thaw_kept x thaw now (NewSubmission s) late never h = h
thaw_kept x thaw now (NewProposal p) late never h = h
thaw_kept x thaw now (NewRelease v) late never h = h
thaw_kept x thaw now (NewClarification c) late never h = h
thaw_kept x thaw now (NewRejudging r) late never h = h
thaw_kept x thaw now (SetMember n place state) late never h = h
thaw_kept x thaw now (SetRejudging n state) late never h = h
thaw_kept x thaw now (SetStart start) late never h = h
thaw_kept x thaw now (SetThaw other) late never h = absurd (never other refl)
thaw_kept x thaw now (SetFinalized finalized) late never h = h
thaw_kept x thaw now (SetDuration duration freeze) late never h = h
thaw_kept x thaw now (SetTeamName team name) late never h = h
thaw_kept x thaw now (SetDigest id digest) late never h = h
thaw_kept x thaw now (NewType t) late never h = h
thaw_kept x thaw now (NewLanguage l) late never h = h
thaw_kept x thaw now (NewProblem p) late never h = h
thaw_kept x thaw now (NewGroup g) late never h = h
thaw_kept x thaw now (NewTeam t) late never h = h
thaw_kept x thaw now (NewAccount a) late never h = h

-- each entry of an item is added by what is known of the contest before the item
thaw_stays_by : (x : ContestState) (thaw : ℕ) (i : Item) → thaw ≤ moment_of i → x.fixed.marks.thaw ≡ Some thaw → (item_step x i).1.fixed.marks.thaw ≡ Some thaw
thaw_stays_by x thaw i late h =
    item_keeps (λ z. z.fixed.marks.thaw ≡ Some thaw) x i
    (λ z e there k. thaw_kept z thaw (moment_of i) e late (λ other is. no_second_thaw x thaw (moment_of i) other h late (subst (May x (moment_of i) (closing_of x i)) is (item_may x i e there))) k)
    h

pub come_thaw_stays : ComeThawStays
come_thaw_stays x y items answers thaw valid set late run =
    run_keeps (λ z. z.fixed.marks.thaw ≡ Some thaw) (λ i. thaw ≤ moment_of i) (λ z i k l h. thaw_stays_by z thaw i l h) x items answers y valid late set run

-- ---- rejudgings that are closed

abbrev pub has_number : (id : List ℕ) → ℕ × Rejudging → Bool
has_number id p = bytes_eq (decimal p.0) id

-- the one that is found stands at its place
found_at : (id : List ℕ) (first n : ℕ) (rs : List Rejudging) (r : Rejudging) → find (has_number id) (enumerate_from first rs) ≡ Some (n, r) → (i : ℕ) × (n ≡ first + i) × (slice_get rs i ≡ Some r)
found_at id first n [] r is = absurd (cc is)
found_at id first n (q ∷ rs) r is = go (bytes_eq (decimal first) id) is (λ k. found_at id (first + 1) n rs r k)
  where
    go : (b : Bool) → (if b then Some (first, q) else find (has_number id) (enumerate_from (first + 1) rs)) ≡ Some (n, r) → (find (has_number id) (enumerate_from (first + 1) rs) ≡ Some (n, r) → (i : ℕ) × (n ≡ (first + 1) + i) × (slice_get rs i ≡ Some r)) → (i : ℕ) × (n ≡ first + i) × (slice_get (q ∷ rs) i ≡ Some r)
    go true k later = let one : ◌≡◌ {A = ℕ × Rejudging} (first, q) (n, r) = cc k in (0, omega (arith, ap (λ p. p.0) one), ap (λ p. Some p.1) one)
    go false k later = let l = later k in (suc l.0, omega (arith, l.1), l.2)

pub found_behind : (id : List ℕ) (first n : ℕ) (rs more : List Rejudging) (r : Rejudging) → find (has_number id) (enumerate_from first rs) ≡ Some (n, r) → find (has_number id) (enumerate_from first (rs ++ more)) ≡ Some (n, r)
found_behind id first n [] more r is = absurd (cc is)
found_behind id first n (q ∷ rs) more r is = go (bytes_eq (decimal first) id) is (λ k. found_behind id (first + 1) n rs more r k)
  where
    go : (b : Bool) → (if b then Some (first, q) else find (has_number id) (enumerate_from (first + 1) rs)) ≡ Some (n, r)
        → (find (has_number id) (enumerate_from (first + 1) rs) ≡ Some (n, r) → find (has_number id) (enumerate_from (first + 1) (rs ++ more)) ≡ Some (n, r))
        → (if b then Some (first, q) else find (has_number id) (enumerate_from (first + 1) (rs ++ more))) ≡ Some (n, r)
    go true k later = k
    go false k later = later k

-- a change at its place changes it, and one at another leaves it
pub found_changed : (id : List ℕ) (f : Rejudging → Rejudging) (first at n : ℕ) (rs : List Rejudging) (r : Rejudging) → find (has_number id) (enumerate_from first rs) ≡ Some (n, r)
    → find (has_number id) (enumerate_from first (changed_at first at f rs)) ≡ Some (n, if n == at then f r else r)
found_changed id f first at n [] r is = absurd (cc is)
found_changed id f first at n (q ∷ rs) r is = go (bytes_eq (decimal first) id) is (λ k. found_changed id f (first + 1) at n rs r k)
  where
    changed : ℕ × Rejudging → ℕ × Rejudging
    changed p = (p.0, if p.0 == at then f p.1 else p.1)

    go : (b : Bool) → (if b then Some (first, q) else find (has_number id) (enumerate_from (first + 1) rs)) ≡ Some (n, r)
        → (find (has_number id) (enumerate_from (first + 1) rs) ≡ Some (n, r) → find (has_number id) (enumerate_from (first + 1) (changed_at (first + 1) at f rs)) ≡ Some (n, if n == at then f r else r))
        → (if b then Some (first, (if first == at then f q else q)) else find (has_number id) (enumerate_from (first + 1) (changed_at (first + 1) at f rs))) ≡ Some (n, if n == at then f r else r)
    go true k later = let one : ◌≡◌ {A = ℕ × Rejudging} (first, q) (n, r) = cc k in ap (λ p. Some (changed p)) one
    go false k later = later k

found_beside : (id : List ℕ) (f : Rejudging → Rejudging) (at n : ℕ) (rs : List Rejudging) (r : Rejudging) → (n ≡ at → ⊥) → named_rejudging id rs ≡ Some (n, r) → named_rejudging id (changed_at 1 at f rs) ≡ Some (n, r)
found_beside id f at n rs r other is = found_changed id f 1 at n rs r is ∙ ap (λ b. Some (n, if b then f r else r)) (ne_eqb n at other)

-- two names of one number name one rejudging: so the open one that is changed is another
other_number : (x : ContestState) (id : List ℕ) (n m : ℕ) (r : Rejudging) → named_rejudging id x.rejudgings ≡ Some (n, r) → is_open r ≡ false → Touches x m → n ≡ m → ⊥
other_number x id n m r named closed touched same =
    let one = found_at id 1 n x.rejudgings r named in
    let two = found_at touched.id 1 m x.rejudgings touched.rejudging touched.named in
    let at : one.0 ≡ two.0 = omega (arith, one.1, two.1, same) in
    let here : Some r ≡ Some touched.rejudging = sym one.2 ∙ ap (slice_get x.rejudgings) at ∙ two.2 in
    let is : r ≡ touched.rejudging = cc here in
    false≢true (sym closed ∙ ap is_open is ∙ touched.opened)

closed_kept : (x z : ContestState) (id : List ℕ) (n : ℕ) (r : Rejudging) (now : ℕ) (closing : RejudgingState) (e : Entry) → named_rejudging id x.rejudgings ≡ Some (n, r) → is_open r ≡ false → May x now closing e → named_rejudging id z.rejudgings ≡ Some (n, r)
    → named_rejudging id (add z e).rejudgings ≡ Some (n, r)
closed_kept x z id n r now closing (NewSubmission s) named closed may h = h
closed_kept x z id n r now closing (NewProposal p) named closed may h = h
closed_kept x z id n r now closing (NewRelease v) named closed may h = h
closed_kept x z id n r now closing (NewClarification c) named closed may h = h
closed_kept x z id n r now closing (NewRejudging q) named closed may h = found_behind id 1 n z.rejudgings (q ∷ []) r h
closed_kept x z id n r now closing (SetMember m place state) named closed may h = found_beside id (with_member_state place state) m n z.rejudgings r (other_number x id n m r named closed may) h
closed_kept x z id n r now closing (SetRejudging m state) named closed may h = found_beside id (λ (q : Rejudging). record q { state = state }) m n z.rejudgings r (other_number x id n m r named closed may.0) h
closed_kept x z id n r now closing (SetStart start) named closed may h = h
closed_kept x z id n r now closing (SetThaw other) named closed may h = h
closed_kept x z id n r now closing (SetFinalized finalized) named closed may h = h
closed_kept x z id n r now closing (SetDuration duration freeze) named closed may h = h
closed_kept x z id n r now closing (SetTeamName team name) named closed may h = h
closed_kept x z id n r now closing (SetDigest account digest) named closed may h = h
closed_kept x z id n r now closing (NewType t) named closed may h = h
closed_kept x z id n r now closing (NewLanguage l) named closed may h = h
closed_kept x z id n r now closing (NewProblem p) named closed may h = h
closed_kept x z id n r now closing (NewGroup g) named closed may h = h
closed_kept x z id n r now closing (NewTeam t) named closed may h = h
closed_kept x z id n r now closing (NewAccount a) named closed may h = h

pub closed_rejudgings_stay : ClosedRejudgingsStay
closed_rejudgings_stay x y items answers valid run id number r named closed =
    run_keeps (λ z. named_rejudging id z.rejudgings ≡ Some (number, r)) (λ i. Unit)
    (λ z i v u h. item_keeps (λ w. named_rejudging id w.rejudgings ≡ Some (number, r)) z i (λ w e there k. closed_kept z w id number r (moment_of i) (closing_of z i) e h closed (item_may z i e there) k) h)
    x items answers y valid (λ i k. tt) named run

-- ---- a board without the verdicts that are held

pub held_releases_move_no_board : HeldReleasesMoveNoBoard
held_releases_move_no_board a now group x v other foreign held frozen =
    board_alike a now group (add x (NewRelease v)) x (record { no_jury = other; held = held }) (unseen_entry a x (NewRelease v) (record { other = foreign; held = inr frozen }))
