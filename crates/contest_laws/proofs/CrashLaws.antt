-- What was answered as done is in the lists that the last opening reads.
use Rattle.std.proofs.Common.{◌≡◌, ◌∙◌, ◌++◌, ℕ, Bool, true, false, List, [], ◌∷◌, map, Option, Some, None, inl, inr, refl, sym, ap, subst}
use Rattle.std.specs.Prelude.{◌==◌, ◌⊎◌, bytes_eq, filter, find, is_none, if◌then◌else◌}
use Rattle.std.specs.Cmp.Lexicographic.{slice_cmp}
use Rattle.std.specs.Ordering.{is_lt, nat_cmp, ordering_reverse}
use Rattle.std.specs.Option.{option_or}
use Rattle.std.specs.declared.cmp.Ordering.{Ordering}
use Rattle.std.specs.declared.cmp.Ordering.TheVariants.{Less, Equal, Greater}
use Rattle.std.proofs.lemmas.Cmp.{nat_list_cmp_total}
use Rattle.std.proofs.lemmas.List.Folds.{find-append}
use Rattle.std.proofs.lemmas.Bool.{eq-eqb, false≢true, not-true}
use Rattle.std.proofs.lemmas.List.{map-append}
use Rattle.contest_types.specs.Accounts.{account_named, comes_before, with_account}
use Rattle.contest_types.specs.Addable.{are_addable, is_addable}
use Rattle.contest_types.specs.Order.{Has}
use Rattle.contest_types.specs.State.{ContestState, add, add_all, changed_at, with_member_state}
use Rattle.contest_types.specs.Valid.{is_valid}
use Rattle.contest_types.specs.ValidRejudgings.{is_open_by}
use Rattle.contest_types.specs.declared.account.Account.{Account}
use Rattle.contest_types.specs.declared.entry.Entry.{Entry}
use Rattle.contest_types.specs.declared.entry.Entry.TheVariants.{NewSubmission, NewProposal, NewRelease, NewClarification, NewRejudging, SetMember, SetRejudging, SetStart, SetThaw, SetFinalized, SetDuration, SetTeamName, SetDigest, NewType, NewLanguage, NewProblem, NewGroup, NewTeam, NewAccount}
use Rattle.contest_types.specs.declared.rejudging.Member.{Member}
use Rattle.contest_types.specs.declared.rejudging.MemberState.{MemberState}
use Rattle.contest_types.specs.declared.rejudging.MemberState.TheVariants.{Empty}
use Rattle.contest_types.specs.declared.rejudging.Rejudging.{Rejudging}
use Rattle.contest_types.specs.declared.rejudging.RejudgingState.{RejudgingState}
use Rattle.contest_types.specs.declared.rejudging.RejudgingState.TheVariants.{Open}
use Rattle.contest_types.proofs.ChangeLemmas.{map-changed}
use Rattle.contest_types.proofs.InOrderLemmas.{has_back, has_front, has_map}
use Rattle.contest_types.proofs.PlaceLemmas.{and_left, and_right, bytes_same, same_bytes}
use Rattle.contest_view.specs.Rejudgings.{named_rejudging}
use Rattle.contest_operations.specs.Growing.{Grows, IsFront, unnamed}
use Rattle.contest_operations.proofs.GrowLemmas.{entries_grow}
use Rattle.contest_desk.specs.Items.{item_entries, item_step}
use Rattle.contest_desk.specs.Runs.{LeavesAfter}
use Rattle.contest_desk.specs.declared.item.Answer.{Answer}
use Rattle.contest_desk.specs.declared.item.Item.{Item}
use Rattle.contest_desk.proofs.ItemLemmas.{item_addable, item_adds, items_keep_valid}
use Rattle.contest_desk.proofs.RepeatLemmas.{runs_grow}
use Rattle.contest_laws.specs.Crashes.{IsDay, IsDone, NothingIsLost, Stands, Stretch, next_opened, unjudged}
use Rattle.contest_laws.specs.Standing.{moment_of}
use Rattle.contest_laws.proofs.RunKeeps.{entries_keep, item_keeps}
use Rattle.contest_laws.proofs.StandingLaws.{closed_rejudgings_stay, found_behind, found_changed}
use Rattle.contest_laws.proofs.Touches.{Finalizes, May, Touches, closing_of, item_may}

-- ---- an account that is put among others

not_before_itself : (t : List ℕ) → is_lt (slice_cmp nat_cmp t t) ≡ false
not_before_itself t =
    let turns : slice_cmp nat_cmp t t ≡ ordering_reverse (slice_cmp nat_cmp t t) = nat_list_cmp_total.antisymm t t in
    let go : (r : Ordering) → r ≡ ordering_reverse r → is_lt r ≡ false = elim [ Less ↦ λ e. absurd (cc e) | Equal ↦ λ e. refl | Greater ↦ λ e. refl ] in
    go (slice_cmp nat_cmp t t) turns

none_before : (accounts : List Account) (a : Account) → account_named (filter (λ b. comes_before b a) accounts) a.id ≡ None
none_before [] a = refl
none_before (b ∷ accounts) a =
    let go : (p q : Bool) → comes_before b a ≡ p → bytes_eq b.id a.id ≡ q → account_named (if p then b ∷ filter (λ c. comes_before c a) accounts else filter (λ c. comes_before c a) accounts) a.id ≡ None = elim [
      | true ↦ elim [
        | true ↦ λ e f. absurd (false≢true (sym (not_before_itself a.id) ∙ (ap (λ t. is_lt (slice_cmp nat_cmp t a.id)) (sym (same_bytes b.id a.id f)) ∙ e)))
        | false ↦ λ e f. rw f (none_before accounts a)
      ]
      | false ↦ λ q e f. none_before accounts a
    ] in
    go (comes_before b a) (bytes_eq b.id a.id) refl refl

named_itself : (accounts : List Account) (a : Account) → account_named (with_account accounts a) a.id ≡ Some a
named_itself accounts a =
    let test : Account → Bool = λ b. bytes_eq b.id a.id in
    let before = filter (λ b. comes_before b a) accounts in
    let after = filter (λ b. comes_before a b) accounts in
    find-append test before (a ∷ after) ∙ (ap (λ o. option_or o (find test (a ∷ after))) (none_before accounts a) ∙ ap (λ b. if b then Some a else find test after) (bytes_same a.id))

-- ---- lists that only grow

at_end : {X : Type 0} (xs : List X) (x : X) → Has (xs ++ x ∷ []) x
at_end xs x = has_back xs (x ∷ []) x (inl refl)

in_front : {X : Type 0} (xs ys : List X) (x : X) → IsFront xs ys → Has xs x → Has ys x
in_front xs ys x (more, is) h = subst (λ zs. Has zs x) (sym is) (has_front xs more x h)

-- what is added to such a list, or may be set again
abbrev IsListed : Entry → Type 0
IsListed (NewRejudging r) = ⊥
IsListed (SetRejudging n state) = ⊥
IsListed (SetFinalized moment) = ⊥
IsListed _ = Unit {0}

grown_stands : (x y : ContestState) (e : Entry) → IsListed e → Grows x y → Stands x e → Stands y e
grown_stands x y (NewSubmission s) l g h = in_front x.submissions y.submissions s g.submissions h
grown_stands x y (NewProposal p) l g h = in_front x.proposals y.proposals p g.proposals h
grown_stands x y (NewRelease v) l g h = in_front x.releases y.releases v g.releases h
grown_stands x y (NewClarification c) l g h = in_front x.clarifications y.clarifications c g.clarifications h
grown_stands x y (NewType t) l g h = in_front x.fixed.settings.types y.fixed.settings.types t g.types h
grown_stands x y (NewLanguage k) l g h = in_front x.fixed.settings.languages y.fixed.settings.languages k g.languages h
grown_stands x y (NewProblem p) l g h = in_front x.fixed.settings.problems y.fixed.settings.problems p g.problems h
grown_stands x y (NewGroup p) l g h = in_front x.fixed.settings.groups y.fixed.settings.groups p g.groups h
grown_stands x y (NewTeam t) l g h = in_front (map unnamed x.fixed.settings.teams) (map unnamed y.fixed.settings.teams) (unnamed t) g.teams h
grown_stands x y (NewAccount a) l g h = let stays = g.accounts a.id h.account h.named in record { account = stays.account; named = stays.named; role = stays.role ∙ h.role }
grown_stands x y (NewRejudging r) l g h = absurd l
grown_stands x y (SetRejudging n state) l g h = absurd l
grown_stands x y (SetFinalized moment) l g h = absurd l
grown_stands x y (SetMember n place state) l g h = tt
grown_stands x y (SetStart start) l g h = tt
grown_stands x y (SetThaw thaw) l g h = tt
grown_stands x y (SetDuration duration freeze) l g h = tt
grown_stands x y (SetTeamName team name) l g h = tt
grown_stands x y (SetDigest id digest) l g h = tt

added_stands : (x : ContestState) (e : Entry) → IsListed e → Stands (add x e) e
added_stands x (NewSubmission s) l = at_end x.submissions s
added_stands x (NewProposal p) l = at_end x.proposals p
added_stands x (NewRelease v) l = at_end x.releases v
added_stands x (NewClarification c) l = at_end x.clarifications c
added_stands x (NewType t) l = at_end x.fixed.settings.types t
added_stands x (NewLanguage k) l = at_end x.fixed.settings.languages k
added_stands x (NewProblem p) l = at_end x.fixed.settings.problems p
added_stands x (NewGroup g) l = at_end x.fixed.settings.groups g
added_stands x (NewTeam t) l = has_map unnamed (x.fixed.settings.teams ++ t ∷ []) t (at_end x.fixed.settings.teams t)
added_stands x (NewAccount a) l = record { account = a; named = named_itself x.fixed.accounts a; role = refl }
added_stands x (NewRejudging r) l = absurd l
added_stands x (SetRejudging n state) l = absurd l
added_stands x (SetFinalized moment) l = absurd l
added_stands x (SetMember n place state) l = tt
added_stands x (SetStart start) l = tt
added_stands x (SetThaw thaw) l = tt
added_stands x (SetDuration duration freeze) l = tt
added_stands x (SetTeamName team name) l = tt
added_stands x (SetDigest id digest) l = tt

all_stand : (x : ContestState) (es : List Entry) (e : Entry) → IsListed e → are_addable x es ≡ true → Has es e → Stands (add_all x es) e
all_stand x [] e l may h = absurd h
all_stand x (f ∷ es) e l may (inl is) =
    let rest : are_addable (add x f) es ≡ true = and_right (is_addable x f) _ may in
    grown_stands (add x f) (add_all (add x f) es) e l (entries_grow (add x f) es rest) (subst (Stands (add x f)) (sym is) (added_stands x f (subst IsListed is l)))
all_stand x (f ∷ es) e l may (inr h) = all_stand (add x f) es e l (and_right (is_addable x f) _ may) h

-- ---- what is set

-- what one entry brings about stands after all, if the others keep it and what it needs
all_set : (Q P : ContestState → Type 0) (x : ContestState) (es : List Entry) (e : Entry) → Has es e → ((z : ContestState) (f : Entry) → Has es f → Q z → Q (add z f)) → ((z : ContestState) → Q z → P (add z e))
    → ((z : ContestState) (f : Entry) → Has es f → P z → P (add z f)) → Q x → P (add_all x es)
all_set Q P x [] e h needs sets keeps q = absurd h
all_set Q P x (f ∷ es) e (inl is) needs sets keeps q = entries_keep P es (add x f) (λ z g k. keeps z g (inr k)) (subst (λ g. P (add x g)) is (sets x q))
all_set Q P x (f ∷ es) e (inr h) needs sets keeps q = all_set Q P (add x f) es e h (λ z g k. needs z g (inr k)) sets (λ z g k. keeps z g (inr k)) (needs x f (inl refl) q)

-- ---- the mark of final results

abbrev IsMarked : (moment : ℕ) → ContestState → Type 0
IsMarked moment z = z.fixed.marks.finalized ≡ Some moment

mark_kept : (moment : ℕ) (z : ContestState) (f : Entry) → ((other : ℕ) → f ≡ SetFinalized other → other ≡ moment) → IsMarked moment z → IsMarked moment (add z f)
mark_kept moment z (SetFinalized other) same h = ap Some (same other refl)
mark_kept moment z (NewSubmission s) same h = h
mark_kept moment z (NewProposal p) same h = h
mark_kept moment z (NewRelease v) same h = h
mark_kept moment z (NewClarification c) same h = h
mark_kept moment z (NewRejudging r) same h = h
mark_kept moment z (SetMember n place state) same h = h
mark_kept moment z (SetRejudging n state) same h = h
mark_kept moment z (SetStart start) same h = h
mark_kept moment z (SetThaw thaw) same h = h
mark_kept moment z (SetDuration duration freeze) same h = h
mark_kept moment z (SetTeamName team name) same h = h
mark_kept moment z (SetDigest id digest) same h = h
mark_kept moment z (NewType t) same h = h
mark_kept moment z (NewLanguage l) same h = h
mark_kept moment z (NewProblem p) same h = h
mark_kept moment z (NewGroup g) same h = h
mark_kept moment z (NewTeam t) same h = h
mark_kept moment z (NewAccount a) same h = h

finalizes : (x : ContestState) (i : Item) (f : Entry) (moment : ℕ) → Has (item_entries x i) f → f ≡ SetFinalized moment → Finalizes x (moment_of i) moment
finalizes x i f moment there is = subst (May x (moment_of i) (closing_of x i)) is (item_may x i f there)

marked : (x : ContestState) (i : Item) (moment : ℕ) → Has (item_entries x i) (SetFinalized moment) → IsMarked moment (add_all x (item_entries x i))
marked x i moment there =
    all_set (λ z. Unit) (IsMarked moment) x (item_entries x i) (SetFinalized moment) there (λ z f k q. tt) (λ z q. refl)
    (λ z f k h. mark_kept moment z f (λ other is. (finalizes x i f other k is).at ∙ sym (finalizes x i (SetFinalized moment) moment there refl).at) h)
    tt

mark_stays : (moment : ℕ) (x : ContestState) (i : Item) → IsMarked moment x → IsMarked moment (item_step x i).1
mark_stays moment x i h =
    item_keeps (IsMarked moment) x i (λ z f k marks. mark_kept moment z f (λ other is. absurd (false≢true (sym (ap is_none h) ∙ (finalizes x i f other k is).first))) marks) h

-- ---- rejudgings that were opened

abbrev IsOpened : Rejudging → ContestState → Type 0
IsOpened r z = Has (map unjudged z.rejudgings) (unjudged r)

member_unjudged : (place : ℕ) (state : MemberState) (q : Rejudging) → unjudged (with_member_state place state q) ≡ unjudged q
member_unjudged place state q =
    ap (λ (ms : List Member). record { reason = q.reason; state = Open; members = ms })
    (map-changed (λ (m : Member). record m { state = Empty }) (λ (m : Member). record m { state = state }) (λ m. refl) 0 place q.members)

changed_opened : (r : Rejudging) (f : Rejudging → Rejudging) (n : ℕ) (rs : List Rejudging) → ((q : Rejudging) → unjudged (f q) ≡ unjudged q) → Has (map unjudged rs) (unjudged r) → Has (map unjudged (changed_at 1 n f rs)) (unjudged r)
changed_opened r f n rs same h = subst (λ qs. Has qs (unjudged r)) (sym (map-changed unjudged f same 1 n rs)) h

opened_kept : (r : Rejudging) (z : ContestState) (f : Entry) → IsOpened r z → IsOpened r (add z f)
opened_kept r z (NewRejudging q) h = subst (λ qs. Has qs (unjudged r)) (sym (map-append unjudged z.rejudgings (q ∷ []))) (has_front (map unjudged z.rejudgings) (unjudged q ∷ []) (unjudged r) h)
opened_kept r z (SetMember n place state) h = changed_opened r (with_member_state place state) n z.rejudgings (member_unjudged place state) h
opened_kept r z (SetRejudging n state) h = changed_opened r (λ (q : Rejudging). record q { state = state }) n z.rejudgings (λ q. refl) h
opened_kept r z (NewSubmission s) h = h
opened_kept r z (NewProposal p) h = h
opened_kept r z (NewRelease v) h = h
opened_kept r z (NewClarification c) h = h
opened_kept r z (SetStart start) h = h
opened_kept r z (SetThaw thaw) h = h
opened_kept r z (SetFinalized moment) h = h
opened_kept r z (SetDuration duration freeze) h = h
opened_kept r z (SetTeamName team name) h = h
opened_kept r z (SetDigest id digest) h = h
opened_kept r z (NewType t) h = h
opened_kept r z (NewLanguage l) h = h
opened_kept r z (NewProblem p) h = h
opened_kept r z (NewGroup g) h = h
opened_kept r z (NewTeam t) h = h
opened_kept r z (NewAccount a) h = h

opened : (x : ContestState) (es : List Entry) (r : Rejudging) → Has es (NewRejudging r) → IsOpened r (add_all x es)
opened x es r there =
    all_set (λ z. Unit) (IsOpened r) x es (NewRejudging r) there (λ z f k q. tt) (λ z q. has_map unjudged (z.rejudgings ++ r ∷ []) r (at_end z.rejudgings r)) (λ z f k h. opened_kept r z f h) tt

-- ---- rejudgings that were closed

-- the rejudging of a number is there by this id
abbrev IsThere : (id : List ℕ) → ℕ → ContestState → Type 0
IsThere id n z = (r : Rejudging) × (named_rejudging id z.rejudgings ≡ Some (n, r))

-- and is in this state
abbrev IsInState : (id : List ℕ) → ℕ → RejudgingState → ContestState → Type 0
IsInState id n state z = (r : Rejudging) × (named_rejudging id z.rejudgings ≡ Some (n, r)) × (r.state ≡ state)

there_kept : (id : List ℕ) (n : ℕ) (z : ContestState) (f : Entry) → IsThere id n z → IsThere id n (add z f)
there_kept id n z (NewRejudging q) (r, is) = (r, found_behind id 1 n z.rejudgings (q ∷ []) r is)
there_kept id n z (SetMember m place state) (r, is) = (_, found_changed id (with_member_state place state) 1 m n z.rejudgings r is)
there_kept id n z (SetRejudging m state) (r, is) = (_, found_changed id (λ (q : Rejudging). record q { state = state }) 1 m n z.rejudgings r is)
there_kept id n z (NewSubmission s) h = h
there_kept id n z (NewProposal p) h = h
there_kept id n z (NewRelease v) h = h
there_kept id n z (NewClarification c) h = h
there_kept id n z (SetStart start) h = h
there_kept id n z (SetThaw thaw) h = h
there_kept id n z (SetFinalized moment) h = h
there_kept id n z (SetDuration duration freeze) h = h
there_kept id n z (SetTeamName team name) h = h
there_kept id n z (SetDigest account digest) h = h
there_kept id n z (NewType t) h = h
there_kept id n z (NewLanguage l) h = h
there_kept id n z (NewProblem p) h = h
there_kept id n z (NewGroup g) h = h
there_kept id n z (NewTeam t) h = h
there_kept id n z (NewAccount a) h = h

-- a state that is set here, or the one that it has
same_state : (b : Bool) (state : RejudgingState) (r : Rejudging) → r.state ≡ state → (if b then record r { state = state } else r).state ≡ state
same_state true state r h = refl
same_state false state r h = h

member_state : (b : Bool) (place : ℕ) (s : MemberState) (state : RejudgingState) (r : Rejudging) → r.state ≡ state → (if b then with_member_state place s r else r).state ≡ state
member_state true place s state r h = h
member_state false place s state r h = h

state_kept : (id : List ℕ) (n : ℕ) (state : RejudgingState) (z : ContestState) (f : Entry) → ((m : ℕ) (other : RejudgingState) → f ≡ SetRejudging m other → other ≡ state) → IsInState id n state z → IsInState id n state (add z f)
state_kept id n state z (NewRejudging q) same (r, is, h) = (r, found_behind id 1 n z.rejudgings (q ∷ []) r is, h)
state_kept id n state z (SetMember m place s) same (r, is, h) = (_, found_changed id (with_member_state place s) 1 m n z.rejudgings r is, member_state (n == m) place s state r h)
state_kept id n state z (SetRejudging m other) same (r, is, h) =
    subst (λ s. IsInState id n state (add z (SetRejudging m s))) (sym (same m other refl)) (_, found_changed id (λ (q : Rejudging). record q { state = state }) 1 m n z.rejudgings r is, same_state (n == m) state r h)
state_kept id n state z (NewSubmission s) same h = h
state_kept id n state z (NewProposal p) same h = h
state_kept id n state z (NewRelease v) same h = h
state_kept id n state z (NewClarification c) same h = h
state_kept id n state z (SetStart start) same h = h
state_kept id n state z (SetThaw thaw) same h = h
state_kept id n state z (SetFinalized moment) same h = h
state_kept id n state z (SetDuration duration freeze) same h = h
state_kept id n state z (SetTeamName team name) same h = h
state_kept id n state z (SetDigest account digest) same h = h
state_kept id n state z (NewType t) same h = h
state_kept id n state z (NewLanguage l) same h = h
state_kept id n state z (NewProblem p) same h = h
state_kept id n state z (NewGroup g) same h = h
state_kept id n state z (NewTeam t) same h = h
state_kept id n state z (NewAccount a) same h = h

-- the rejudging that is named gets the state that is set at its number
set_there : (id : List ℕ) (n : ℕ) (state : RejudgingState) (z : ContestState) → IsThere id n z → IsInState id n state (add z (SetRejudging n state))
set_there id n state z (r, is) =
    (record r { state = state }, found_changed id (λ (q : Rejudging). record q { state = state }) 1 n n z.rejudgings r is ∙ ap (λ b. Some (n, if b then record r { state = state } else r)) (eq-eqb n n refl), refl)

closes : (x : ContestState) (i : Item) (f : Entry) (m : ℕ) (other : RejudgingState) → Has (item_entries x i) f → f ≡ SetRejudging m other → Touches x m × (other ≡ closing_of x i)
closes x i f m other there is = subst (May x (moment_of i) (closing_of x i)) is (item_may x i f there)

closed : (x : ContestState) (i : Item) (n : ℕ) (state : RejudgingState) → Has (item_entries x i) (SetRejudging n state) → Stands (add_all x (item_entries x i)) (SetRejudging n state)
closed x i n state there =
    let here = closes x i (SetRejudging n state) n state there refl in
    let id = here.0.id in
    let set : IsInState id n state (add_all x (item_entries x i)) =
    all_set (IsThere id n) (IsInState id n state) x (item_entries x i) (SetRejudging n state) there (λ z f k q. there_kept id n z f q) (λ z q. set_there id n state z q)
    (λ z f k h. state_kept id n state z f (λ m other is. (closes x i f m other k is).1 ∙ sym here.1) h)
    (here.0.rejudging, here.0.named) in
    (id, set.0, set.1, set.2)

-- a state that is set is none of an open one
set_closed : (x : ContestState) (es : List Entry) (n : ℕ) (state : RejudgingState) → are_addable x es ≡ true → Has es (SetRejudging n state) → is_open_by state ≡ false
set_closed x [] n state may h = absurd h
set_closed x (f ∷ es) n state may (inl is) = not-true (is_open_by state) (subst (λ e. is_addable x e ≡ true) (sym is) (and_left (is_addable x f) _ may))
set_closed x (f ∷ es) n state may (inr h) = set_closed (add x f) es n state (and_right (is_addable x f) _ may) h

closed_stays : (x : ContestState) (i : Item) (n : ℕ) (state : RejudgingState) → is_valid x ≡ true → is_open_by state ≡ false → Stands x (SetRejudging n state) → Stands (item_step x i).1 (SetRejudging n state)
closed_stays x i n state valid shut (id, r, named, is) =
    (id, r, closed_rejudgings_stay x (item_step x i).1 (i ∷ []) ((item_step x i).0 ∷ []) valid ((item_step x i).1, inl (refl, refl), refl) id n r named (ap is_open_by is ∙ shut), is)

-- ---- what an item adds

-- by whether an entry is listed, or sets something of which there is one
by_kind : (P : Entry → Type 0) → ((e : Entry) → IsListed e → P e) → ((r : Rejudging) → P (NewRejudging r)) → ((n : ℕ) (state : RejudgingState) → P (SetRejudging n state)) → ((moment : ℕ) → P (SetFinalized moment)) → (e : Entry) → P e
by_kind P listed opens closing marks (NewRejudging r) = opens r
by_kind P listed opens closing marks (SetRejudging n state) = closing n state
by_kind P listed opens closing marks (SetFinalized moment) = marks moment
by_kind P listed opens closing marks (NewSubmission s) = listed (NewSubmission s) tt
by_kind P listed opens closing marks (NewProposal p) = listed (NewProposal p) tt
by_kind P listed opens closing marks (NewRelease v) = listed (NewRelease v) tt
by_kind P listed opens closing marks (NewClarification c) = listed (NewClarification c) tt
by_kind P listed opens closing marks (SetMember n place state) = listed (SetMember n place state) tt
by_kind P listed opens closing marks (SetStart start) = listed (SetStart start) tt
by_kind P listed opens closing marks (SetThaw thaw) = listed (SetThaw thaw) tt
by_kind P listed opens closing marks (SetDuration duration freeze) = listed (SetDuration duration freeze) tt
by_kind P listed opens closing marks (SetTeamName team name) = listed (SetTeamName team name) tt
by_kind P listed opens closing marks (SetDigest id digest) = listed (SetDigest id digest) tt
by_kind P listed opens closing marks (NewType t) = listed (NewType t) tt
by_kind P listed opens closing marks (NewLanguage l) = listed (NewLanguage l) tt
by_kind P listed opens closing marks (NewProblem p) = listed (NewProblem p) tt
by_kind P listed opens closing marks (NewGroup g) = listed (NewGroup g) tt
by_kind P listed opens closing marks (NewTeam t) = listed (NewTeam t) tt
by_kind P listed opens closing marks (NewAccount a) = listed (NewAccount a) tt

item_stands : (x : ContestState) (i : Item) → is_valid x ≡ true → (e : Entry) → Has (item_entries x i) e → Stands (item_step x i).1 e
item_stands x i valid =
    by_kind (λ e. Has (item_entries x i) e → Stands (item_step x i).1 e)
    (λ e l h. subst (λ y. Stands y e) (sym (item_adds x i)) (all_stand x (item_entries x i) e l (item_addable x i valid) h))
    (λ r h. subst (IsOpened r) (sym (item_adds x i)) (opened x (item_entries x i) r h))
    (λ n state h. subst (λ y. Stands y (SetRejudging n state)) (sym (item_adds x i)) (closed x i n state h))
    (λ moment h. subst (IsMarked moment) (sym (item_adds x i)) (marked x i moment h))

-- a state that it sets is none of an open rejudging
abbrev Shuts : Entry → Type 0
Shuts e = (n : ℕ) (state : RejudgingState) → e ≡ SetRejudging n state → is_open_by state ≡ false

item_shuts : (x : ContestState) (i : Item) → is_valid x ≡ true → (e : Entry) → Has (item_entries x i) e → Shuts e
item_shuts x i valid e h n state is = set_closed x (item_entries x i) n state (item_addable x i valid) (subst (Has (item_entries x i)) is h)

item_stays : (x : ContestState) (i : Item) → is_valid x ≡ true → (e : Entry) → Shuts e → Stands x e → Stands (item_step x i).1 e
item_stays x i valid =
    by_kind (λ e. Shuts e → Stands x e → Stands (item_step x i).1 e)
    (λ e l shuts h. grown_stands x (item_step x i).1 e l (runs_grow x (i ∷ []) ((item_step x i).0 ∷ []) (item_step x i).1 valid ((item_step x i).1, inl (refl, refl), refl)) h)
    (λ r shuts h. item_keeps (IsOpened r) x i (λ z f k o. opened_kept r z f o) h)
    (λ n state shuts h. closed_stays x i n state valid (shuts n state refl) h)
    (λ moment shuts h. mark_stays moment x i h)

-- ---- a day with crashes

-- it stands in a valid contest, and will
record IsKept (e : Entry) (z : ContestState) : Type 0 where
  pub valid : is_valid z ≡ true
  pub shuts : Shuts e
  pub stands : Stands z e

item_kept : (e : Entry) (z : ContestState) (i : Item) → IsKept e z → IsKept e (item_step z i).1
item_kept e z i h = record { valid = items_keep_valid z i h.valid; shuts = h.shuts; stands = item_stays z i h.valid e h.shuts h.stands }

item_done : (e : Entry) (x : ContestState) (i : Item) → is_valid x ≡ true → Has (item_entries x i) e → IsKept e (item_step x i).1
item_done e x i valid h = record { valid = items_keep_valid x i valid; shuts = item_shuts x i valid e h; stands = item_stands x i valid e h }

-- what each item keeps holds of what a crash leaves, if it held of all that a crash might have left before
leaves_keep : (P : ContestState → Type 0) → ((z : ContestState) (i : Item) → P z → P (item_step z i).1)
    → (before : Option ContestState → Type 0) (x : ContestState) (items : List Item) (answers : List Answer) (y : ContestState) → ((c : ContestState) → before (Some c) → P c) → P x → LeavesAfter before x items answers (Some y) → P y
leaves_keep P keeps before x [] [] y was h left = was y left
leaves_keep P keeps before x [] (a ∷ more) y was h left = absurd left
leaves_keep P keeps before x (i ∷ is) [] y was h left = absurd left
leaves_keep P keeps before x (i ∷ is) (a ∷ more) y was h (inl (answered, left)) =
    leaves_keep P keeps (λ d. d ≡ Some (item_step x i).1) (item_step x i).1 is more y (λ c same. let is_it : c ≡ (item_step x i).1 = cc same in subst P (sym is_it) (keeps x i h)) (keeps x i h) left
leaves_keep P keeps before x (i ∷ is) (a ∷ more) y was h (inr (fails, left)) =
    leaves_keep P keeps (λ d. before d ⊎ (d ≡ Some (item_step x i).1)) x is more y
    (λ c either. elim either [ inl b ↦ was c b | inr same ↦ (let is_it : c ≡ (item_step x i).1 = cc same in subst P (sym is_it) (keeps x i h)) ]) h left

-- what was done in a stretch stands in what a crash leaves of it
done_left : (e : Entry) (before : Option ContestState → Type 0) (x : ContestState) (items : List Item) (answers : List Answer) (y : ContestState) → is_valid x ≡ true → LeavesAfter before x items answers (Some y) → IsDone x items answers e → IsKept e y
done_left e before x [] answers y valid left done = absurd done
done_left e before x (i ∷ is) [] y valid left done = absurd done
done_left e before x (i ∷ is) (a ∷ more) y valid (inl (answered, left)) (inl (done, inl there)) =
    let kept = item_done e x i valid there in
    leaves_keep (IsKept e) (item_kept e) (λ d. d ≡ Some (item_step x i).1) (item_step x i).1 is more y (λ c same. let is_it : c ≡ (item_step x i).1 = cc same in subst (IsKept e) (sym is_it) kept) kept left
done_left e before x (i ∷ is) (a ∷ more) y valid (inl (answered, left)) (inl (done, inr later)) =
    done_left e (λ d. d ≡ Some (item_step x i).1) (item_step x i).1 is more y (items_keep_valid x i valid) left later
done_left e before x (i ∷ is) (a ∷ more) y valid (inl (answered, left)) (inr (failed, later)) = absurd (answered failed)
done_left e before x (i ∷ is) (a ∷ more) y valid (inr (fails, left)) (inl (done, k)) = absurd (done fails)
done_left e before x (i ∷ is) (a ∷ more) y valid (inr (fails, left)) (inr (failed, later)) = done_left e (λ d. before d ⊎ (d ≡ Some (item_step x i).1)) x is more y valid left later

-- what each item keeps holds of what the next opening reads
next_keeps : (P : ContestState → Type 0) → ((z : ContestState) (i : Item) → P z → P (item_step z i).1) → (s : Stretch) (next : ContestState) → P s.opened → LeavesAfter (λ c. c ≡ Some s.opened) s.opened s.items s.answers (Some next) → P next
next_keeps P keeps s next h left =
    leaves_keep P keeps (λ c. c ≡ Some s.opened) s.opened s.items s.answers next (λ c same. let is_it : c ≡ s.opened = cc same in subst P (sym is_it) h) h left

day_keeps : (P : ContestState → Type 0) → ((z : ContestState) (i : Item) → P z → P (item_step z i).1) → (ss : List Stretch) (last : ContestState) → P (next_opened ss last) → IsDay ss last → P last
day_keeps P keeps [] last h day = h
day_keeps P keeps (s ∷ ss) last h day = day_keeps P keeps ss last (next_keeps P keeps s (next_opened ss last) h day.0) day.1

pub nothing_is_lost : NothingIsLost
nothing_is_lost s ss last valid day t (inl is) e done =
    let here : IsDone s.opened s.items s.answers e = subst (λ (u : Stretch). IsDone u.opened u.items u.answers e) is done in
    (day_keeps (IsKept e) (item_kept e) ss last (done_left e (λ c. c ≡ Some s.opened) s.opened s.items s.answers (next_opened ss last) valid day.0 here) day.1).stands
nothing_is_lost s [] last valid day t (inr there) e done = absurd there
nothing_is_lost s (u ∷ us) last valid day t (inr there) e done =
    nothing_is_lost u us last (next_keeps (λ z. is_valid z ≡ true) (λ z i v. items_keep_valid z i v) s u.opened valid day.0) day.1 t there e done
