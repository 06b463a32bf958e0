-- Adding what may be added keeps a contest valid: rejudgings, their members and their states.
use Rattle.std.proofs.Common.{◌≡◌, ℕ, ◌+◌, Bool, true, false, List, [], ◌∷◌, ◌++◌, length, map, filter, refl, sym, ◌∙◌, ap, subst, append-nil, rules}
use Rattle.std.specs.Prelude.{◌&&◌, ◌||◌, ◌==◌, not, nat_le, nat_lt, if◌then◌else◌}
use Rattle.std.specs.List.{list_all, list_any, flat_map}
use Rattle.std.proofs.lemmas.Bool.{false≢true, not-true}
use Rattle.std.proofs.lemmas.Grind.{flat_map-append}
use Rattle.std.proofs.lemmas.List.{map-append}
use Rattle.std.proofs.lemmas.List.Elements.{filter-append}
use Rattle.contest_types.specs.State.{ContestState, changed_at, with_member_state, add, NewRejudging, SetMember, SetRejudging}
use Rattle.contest_types.specs.ValidRejudgings.{is_valid_rejudging, is_valid_member, is_valid_state, has_release, is_same_member, are_different_members, is_open, is_open_by, open_members, has_valid_rejudgings}
use Rattle.contest_types.specs.Valid.{is_valid}
use Rattle.contest_types.specs.Addable.{is_addable, is_next_rejudging}
use Rattle.contest_types.specs.declared.limits.TheConstants.{REJUDGINGS, REJUDGING_MEMBERS}
use Rattle.contest_types.specs.declared.rejudging.Rejudging.{Rejudging}
use Rattle.contest_types.specs.declared.rejudging.RejudgingState.{RejudgingState}
use Rattle.contest_types.specs.declared.rejudging.Member.{Member}
use Rattle.contest_types.specs.declared.rejudging.MemberState.{MemberState}
use Rattle.contest_types.specs.declared.rejudging.MemberState.TheVariants as member
use Rattle.contest_types.proofs.PlaceLemmas.{and_left, and_right, both_true, all_push}
use Rattle.contest_types.proofs.ChangeLemmas.{changed_all, length-changed, map-changed}
use Rattle.contest_types.proofs.ValidParts.{parts, whole}
use Rattle.contest_types.proofs.AddLemmas.{next_room}

three_parts : (a b c : Bool) → (a && b && c) ≡ true → (a ≡ true) × (b ≡ true) × (c ≡ true)
three_parts a b c h = (and_left a b (and_left (a && b) c h), and_right a b (and_left (a && b) c h), and_right (a && b) c h)

all_three : (a b c : Bool) → a ≡ true → b ≡ true → c ≡ true → (a && b && c) ≡ true
all_three a b c ta tb tc = rw (ta, tb, tc) refl

open_push : (rs : List Rejudging) (r : Rejudging) (b : Bool) → is_open r ≡ b → are_different_members (open_members rs) ≡ true → (not b || are_different_members (open_members rs ++ r.members)) ≡ true → are_different_members (open_members (rs ++ r ∷ [])) ≡ true
open_push rs r true e h n =
    rw (filter-append is_open rs (r ∷ []), e, flat_map-append (λ (j : Rejudging). j.members) (filter is_open rs) (r ∷ []), append-nil r.members) n
open_push rs r false e h n = rw (filter-append is_open rs (r ∷ []), e, append-nil (filter is_open rs)) h

pub adding_rejudging : (x : ContestState) (r : Rejudging) → is_valid x ≡ true → is_addable x (NewRejudging r) ≡ true → is_valid (add x (NewRejudging r)) ≡ true
adding_rejudging x r h a =
    let v = parts x h in
    let y = add x (NewRejudging r) in
    let rs = x.rejudgings in
    let was = three_parts (list_all (is_valid_rejudging x) rs) (are_different_members (open_members rs)) (nat_le (length rs) REJUDGINGS) v.rejudgings in
    let next : is_next_rejudging rs r ≡ true = and_right (is_valid_rejudging x r) _ a in
    let rejudgings : has_valid_rejudgings y ≡ true =
    all_three _ _ _ (all_push (is_valid_rejudging x) rs r was.0 (and_left _ _ a)) (open_push rs r (is_open r) refl was.1 (and_right (nat_lt (length rs) REJUDGINGS) _ next)) (next_room rs r REJUDGINGS (and_left _ _ next)) in
    whole y (search (rules, v, rejudgings))

-- a member without its state
abbrev bare : Member → Member
bare m = record m { state = member.Empty }

same_bare : (m : Member) (ms : List Member) → list_any (is_same_member (bare m)) (map bare ms) ≡ list_any (is_same_member m) ms
same_bare m [] = refl
same_bare m (n ∷ ms) = ap (λ b. is_same_member m n || b) (same_bare m ms)

different_bare : (ms : List Member) → are_different_members (map bare ms) ≡ are_different_members ms
different_bare [] = refl
different_bare (m ∷ ms) = rw (same_bare m ms, different_bare ms) refl

-- members that are the same but for their states are as different
as_different : (ms ns : List Member) → map bare ms ≡ map bare ns → are_different_members ms ≡ true → are_different_members ns ≡ true
as_different ms ns e h = sym (different_bare ns) ∙ (ap are_different_members (sym e) ∙ (different_bare ms ∙ h))

members_bare : (place : ℕ) (state : MemberState) (ms : List Member) → map bare (changed_at 0 place (λ (m : Member). record m { state = state }) ms) ≡ map bare ms
members_bare place state ms = map-changed bare (λ (m : Member). record m { state = state }) (λ m. refl) 0 place ms

member_valid : (x : ContestState) (state : MemberState) → is_valid_state x.fixed state ≡ true → (m : Member) → is_valid_member x m ≡ true → is_valid_member x (record m { state = state }) ≡ true
member_valid x state s m h = both_true _ _ (and_left (has_release x m.team m.number) _ h) s

judged_valid : (x : ContestState) (place : ℕ) (state : MemberState) → is_valid_state x.fixed state ≡ true → (r : Rejudging) → is_valid_rejudging x r ≡ true → is_valid_rejudging x (with_member_state place state r) ≡ true
judged_valid x place state s r h =
    let was = three_parts (list_all (is_valid_member x) r.members) (are_different_members r.members) (nat_le (length r.members) REJUDGING_MEMBERS) h in
    let change : Member → Member = λ m. record m { state = state } in
    all_three _ _ _ (changed_all (is_valid_member x) change (member_valid x state s) 0 place r.members was.0)
    (as_different r.members (changed_at 0 place change r.members) (sym (members_bare place state r.members)) was.1)
    (rw (length-changed change 0 place r.members) was.2)

-- the members of the open ones, where it is known whether the first is
abbrev open_members_of : Bool → Rejudging → List Rejudging → List Member
open_members_of b j js = flat_map (λ (r : Rejudging). r.members) (if b then j ∷ filter is_open js else filter is_open js)

opens : (j : Rejudging) (js : List Rejudging) → map bare (open_members (j ∷ js)) ≡ map bare (open_members_of (is_open j) j js)
opens j js = refl

-- the members of the open ones are the same but for a state
open_bare : (f : Rejudging → Rejudging) → ((r : Rejudging) → is_open (f r) ≡ is_open r) → ((r : Rejudging) → map bare (f r).members ≡ map bare r.members) → (first n : ℕ) (rs : List Rejudging) → map bare (open_members (changed_at first n f rs)) ≡ map bare (open_members rs)
open_bare f o m first n [] = refl
open_bare f o m first n (r ∷ rs) =
    let rest = open_bare f o m (first + 1) n rs in
    let later = changed_at (first + 1) n f rs in
    let part : Bool → Rejudging → List Rejudging → List Member = λ b j js. open_members_of b j js in
    let go : (j : Rejudging) → is_open j ≡ is_open r → map bare j.members ≡ map bare r.members → (b : Bool) → is_open r ≡ b → map bare (part b j later) ≡ map bare (part b r rs) =
    λ j e s. elim [
      | true ↦ λ i. map-append bare j.members (open_members later) ∙ (rw (s, rest) (sym (map-append bare r.members (open_members rs))))
      | false ↦ λ i. rest
    ] in
    let at : (c : Bool) → (is_open (if c then f r else r) ≡ is_open r) × (map bare (if c then f r else r).members ≡ map bare r.members) =
    elim [ true ↦ (o r, m r) | false ↦ (refl, refl) ] in
    let here = if first == n then f r else r in
    let both = at (first == n) in
    opens here later ∙ (ap (λ b. map bare (part b here later)) both.0 ∙ (go here both.0 both.1 (is_open r) refl ∙ sym (opens r rs)))

pub setting_member : (x : ContestState) (n place : ℕ) (state : MemberState) → is_valid x ≡ true → is_addable x (SetMember n place state) ≡ true → is_valid (add x (SetMember n place state)) ≡ true
setting_member x n place state h a =
    let v = parts x h in
    let y = add x (SetMember n place state) in
    let rs = x.rejudgings in
    let change : Rejudging → Rejudging = with_member_state place state in
    let was = three_parts (list_all (is_valid_rejudging x) rs) (are_different_members (open_members rs)) (nat_le (length rs) REJUDGINGS) v.rejudgings in
    let rejudgings : has_valid_rejudgings y ≡ true =
    all_three _ _ _ (changed_all (is_valid_rejudging x) change (judged_valid x place state a) 1 n rs was.0)
    (as_different (open_members rs) (open_members (changed_at 1 n change rs)) (sym (open_bare change (λ r. refl) (λ r. members_bare place state r.members) 1 n rs)) was.1)
    (rw (length-changed change 1 n rs) was.2) in
    whole y (search (rules, v, rejudgings))

-- fewer members that come later are as different
none_less : (ms ys zs : List Member) (m : Member) → (list_any (is_same_member m) ys ≡ false → list_any (is_same_member m) zs ≡ false) → list_any (is_same_member m) (ms ++ ys) ≡ false → list_any (is_same_member m) (ms ++ zs) ≡ false
none_less [] ys zs m less h = less h
none_less (n ∷ ms) ys zs m less h =
    let go : (b : Bool) → (b || list_any (is_same_member m) (ms ++ ys)) ≡ false → (b || list_any (is_same_member m) (ms ++ zs)) ≡ false =
    elim [ true ↦ λ k. k | false ↦ λ k. none_less ms ys zs m less k ] in
    go (is_same_member m n) h

different_less : (ms ys zs : List Member) → ((m : Member) → list_any (is_same_member m) ys ≡ false → list_any (is_same_member m) zs ≡ false) → are_different_members zs ≡ true → are_different_members (ms ++ ys) ≡ true → are_different_members (ms ++ zs) ≡ true
different_less [] ys zs less d h = d
different_less (m ∷ ms) ys zs less d h =
    both_true _ _ (ap not (none_less ms ys zs m (less m) (not-true _ (and_left _ _ h)))) (different_less ms ys zs less d (and_right (not (list_any (is_same_member m) (ms ++ ys))) _ h))

different_later : (ms ys : List Member) → are_different_members (ms ++ ys) ≡ true → are_different_members ys ≡ true
different_later [] ys h = h
different_later (m ∷ ms) ys h = different_later ms ys (and_right (not (list_any (is_same_member m) (ms ++ ys))) _ h)

none_later : (ms ys : List Member) (m : Member) → list_any (is_same_member m) (ms ++ ys) ≡ false → list_any (is_same_member m) ys ≡ false
none_later [] ys m h = h
none_later (n ∷ ms) ys m h =
    let go : (b : Bool) → (b || list_any (is_same_member m) (ms ++ ys)) ≡ false → list_any (is_same_member m) ys ≡ false =
    elim [ true ↦ λ k. absurd (false≢true (sym k)) | false ↦ λ k. none_later ms ys m k ] in
    go (is_same_member m n) h

-- a rejudging that is closed leaves fewer members open
pub record Fewer (ys zs : List Member) : Type 0 where
  pub none : (m : Member) → list_any (is_same_member m) ys ≡ false → list_any (is_same_member m) zs ≡ false
  pub different : are_different_members ys ≡ true → are_different_members zs ≡ true

fewer_after : (ms ys zs : List Member) → Fewer ys zs → Fewer (ms ++ ys) (ms ++ zs)
fewer_after ms ys zs f = record {
  none = λ m h. none_less ms ys zs m (f.none m) h;
  different = λ h. different_less ms ys zs f.none (f.different (different_later ms ys h)) h;
}

fewer_without : (ms ys zs : List Member) → Fewer ys zs → Fewer (ms ++ ys) zs
fewer_without ms ys zs f = record { none = λ m h. f.none m (none_later ms ys m h); different = λ h. f.different (different_later ms ys h) }

closing : (f : Rejudging → Rejudging) → ((r : Rejudging) → is_open (f r) ≡ false) → (first n : ℕ) (rs : List Rejudging) → Fewer (open_members rs) (open_members (changed_at first n f rs))
closing f c first n [] = record { none = λ m h. h; different = λ h. h }
closing f c first n (r ∷ rs) =
    let rest = closing f c (first + 1) n rs in
    let later = changed_at (first + 1) n f rs in
    let kept : (b : Bool) → Fewer (open_members_of b r rs) (open_members_of b r later) = elim [ true ↦ fewer_after r.members (open_members rs) (open_members later) rest | false ↦ rest ] in
    let closed : (b : Bool) → Fewer (open_members_of b r rs) (open_members later) = elim [ true ↦ fewer_without r.members (open_members rs) (open_members later) rest | false ↦ rest ] in
    let shut : open_members_of (is_open (f r)) (f r) later ≡ open_members later = rw (c r) refl in
    let go : (b : Bool) → Fewer (open_members (r ∷ rs)) (open_members ((if b then f r else r) ∷ later)) =
    elim [ true ↦ subst (λ zs. Fewer (open_members (r ∷ rs)) zs) (sym shut) (closed (is_open r)) | false ↦ kept (is_open r) ] in
    go (first == n)

pub setting_rejudging : (x : ContestState) (n : ℕ) (state : RejudgingState) → is_valid x ≡ true → is_addable x (SetRejudging n state) ≡ true → is_valid (add x (SetRejudging n state)) ≡ true
setting_rejudging x n state h a =
    let v = parts x h in
    let y = add x (SetRejudging n state) in
    let rs = x.rejudgings in
    let change : Rejudging → Rejudging = λ r. record r { state = state } in
    let was = three_parts (list_all (is_valid_rejudging x) rs) (are_different_members (open_members rs)) (nat_le (length rs) REJUDGINGS) v.rejudgings in
    let fewer : Fewer (open_members rs) (open_members (changed_at 1 n change rs)) = closing change (λ r. not-true (is_open_by state) a) 1 n rs in
    let rejudgings : has_valid_rejudgings y ≡ true =
    all_three _ _ _ (changed_all (is_valid_rejudging x) change (λ r k. k) 1 n rs was.0) (fewer.different was.1) (rw (length-changed change 1 n rs) was.2) in
    whole y (search (rules, v, rejudgings))
