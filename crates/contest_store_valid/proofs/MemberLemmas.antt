-- The members of rejudgings, by the submissions that they are.
use Rattle.std.proofs.Common.{◌≡◌, ℕ, ◌+◌, ◌<◌, get_or, take, Bool, List, [], ◌∷◌, ◌++◌, length, map, filter, refl, sym, ◌∙◌, ap, append-nil}
use Rattle.std.specs.Prelude.{◌&&◌, not, nat_eq, nat_le}
use Rattle.std.specs.List.{list_all, list_any, flat_map}
use Rattle.std.proofs.Math.Bool.{and_assoc}
use Rattle.std.proofs.lemmas.List.{map-append, take_more}
use Rattle.std.proofs.lemmas.List.Folds.{list_all-append, list_all-map}
use Rattle.std.proofs.lemmas.List.Elements.{filter-append}
use Rattle.std.proofs.lemmas.Grind.{flat_map-append}
use Rattle.contest_types.specs.State.{ContestState, of_release}
use Rattle.contest_types.specs.ValidRejudgings.{has_release, is_valid_member, is_valid_state, is_valid_rejudging, are_different_members, is_open, open_members, has_valid_rejudgings}
use Rattle.contest_types.specs.declared.limits.TheConstants.{REJUDGINGS, REJUDGING_MEMBERS}
use Rattle.contest_types.specs.declared.submission.Release.{Release}
use Rattle.contest_types.specs.declared.rejudging.Member.{Member}
use Rattle.contest_types.specs.declared.rejudging.Rejudging.{Rejudging}
use Rattle.contest_store_valid.specs.Numbering.{numbered}
use Rattle.contest_store_valid.specs.Keys.{pair_of, same_numbers}
use Rattle.contest_store_valid.specs.Members.{pair_of_member, all_members, is_whole}
use Rattle.contest_store_valid.proofs.StepLemmas.{all_both}
use Rattle.contest_store_valid.proofs.KeyLemmas.{different, different_numbered}
use Rattle.contest_store_valid.proofs.PairLemmas.{all_same, any_mapped}

members_differ : (ms : List Member) → are_different_members ms ≡ different same_numbers (map pair_of_member ms)
members_differ [] = refl
members_differ (m ∷ ms) =
    ap (λ b. not b && are_different_members ms) (sym (any_mapped (same_numbers (pair_of_member m)) pair_of_member ms))
    ∙ ap (λ b. not (list_any (same_numbers (pair_of_member m)) (map pair_of_member ms)) && b) (members_differ ms)

pub different_by_submission : (ms : List Member) (pairs : List (ℕ × ℕ)) → pairs ≡ map pair_of_member ms
    → list_all (λ n. nat_le n 1) (numbered (λ j k. nat_eq j.0 k.0 && nat_eq j.1 k.1) pairs) ≡ are_different_members ms
different_by_submission ms pairs h = rw h (sym (members_differ ms ∙ different_numbered same_numbers (map pair_of_member ms)))

flat_all : {X Y : Type 0} (p : Y → Bool) (f : X → List Y) (xs : List X) → list_all p (flat_map f xs) ≡ list_all (λ x. list_all p (f x)) xs
flat_all p f [] = refl
flat_all p f (x ∷ xs) = list_all-append p (f x) (flat_map f xs) ∙ ap (λ b. list_all p (f x) && b) (flat_all p f xs)

-- each member has a release where it is among the submissions of those
pub members_released : (x : ContestState) (standing named : List (ℕ × ℕ)) → standing ≡ map (λ (v : Release). pair_of (of_release v)) x.releases → named ≡ map pair_of_member (all_members x.rejudgings)
    → list_all (λ k. list_any (λ j. nat_eq j.0 k.0 && nat_eq j.1 k.1) standing) named ≡ list_all (λ (r : Rejudging). list_all (λ (m : Member). has_release x m.team m.number) r.members) x.rejudgings
members_released x standing named s n =
    let among : ℕ × ℕ → Bool = λ k. list_any (λ j. nat_eq j.0 k.0 && nat_eq j.1 k.1) standing in
    let here : (m : Member) → among (pair_of_member m) ≡ has_release x m.team m.number =
    λ m. ap (list_any (λ j. nat_eq j.0 m.team && nat_eq j.1 m.number)) s ∙ any_mapped (λ j. nat_eq j.0 m.team && nat_eq j.1 m.number) (λ (v : Release). pair_of (of_release v)) x.releases in
    ap (list_all among) n
    ∙ (list_all-map among pair_of_member (all_members x.rejudgings)
    ∙ (all_same (λ m. among (pair_of_member m)) (λ (m : Member). has_release x m.team m.number) here (all_members x.rejudgings)
    ∙ flat_all (λ (m : Member). has_release x m.team m.number) (λ (r : Rejudging). r.members) x.rejudgings))

pub valid_members : (x : ContestState) (released stated : Bool) → released ≡ list_all (λ (r : Rejudging). list_all (λ (m : Member). has_release x m.team m.number) r.members) x.rejudgings
    → stated ≡ list_all (λ (r : Rejudging). list_all (λ (m : Member). is_valid_state x.fixed m.state) r.members) x.rejudgings
    → (released && stated) ≡ list_all (λ (r : Rejudging). list_all (is_valid_member x) r.members) x.rejudgings
valid_members x a b h g =
    let released : Rejudging → Bool = λ r. list_all (λ (m : Member). has_release x m.team m.number) r.members in
    let stated : Rejudging → Bool = λ r. list_all (λ (m : Member). is_valid_state x.fixed m.state) r.members in
    rw (h, g) (sym (all_same (λ (r : Rejudging). list_all (is_valid_member x) r.members) (λ r. released r && stated r)
    (λ r. all_both (λ (m : Member). has_release x m.team m.number) (λ m. is_valid_state x.fixed m.state) r.members) x.rejudgings
    ∙ all_both released stated x.rejudgings))

pub valid_rejudgings : (x : ContestState)
    → has_valid_rejudgings x
    ≡ (list_all (λ (r : Rejudging). list_all (is_valid_member x) r.members) x.rejudgings && list_all is_whole x.rejudgings && are_different_members (open_members x.rejudgings) && nat_le (length x.rejudgings) REJUDGINGS)
valid_rejudgings x =
    let named : Rejudging → Bool = λ r. list_all (is_valid_member x) r.members in
    ap (λ b. b && are_different_members (open_members x.rejudgings) && nat_le (length x.rejudgings) REJUDGINGS)
    (all_same (is_valid_rejudging x) (λ r. named r && is_whole r) (λ r. and_assoc (named r) (are_different_members r.members) (nat_le (length r.members) REJUDGING_MEMBERS)) x.rejudgings
    ∙ all_both named is_whole x.rejudgings)

-- the members of one rejudging more
pub members_more : (rs : List Rejudging) (i : ℕ) (r : Rejudging) (pairs more : List (ℕ × ℕ)) → i < length rs → r ≡ get_or rs i r
    → pairs ≡ map pair_of_member (all_members (take i rs)) → more ≡ pairs ++ map pair_of_member r.members → more ≡ map pair_of_member (all_members (take (i + 1) rs))
members_more rs i r pairs more l e is grown =
    let longer : take (i + 1) rs ≡ take i rs ++ r ∷ [] = rw (← e) at (take_more rs i r l) in
    let split : all_members (take i rs ++ r ∷ []) ≡ all_members (take i rs) ++ r.members =
    flat_map-append (λ (s : Rejudging). s.members) (take i rs) (r ∷ []) ∙ ap (λ ms. all_members (take i rs) ++ ms) (append-nil r.members) in
    grown
    ∙ (ap (λ ps. ps ++ map pair_of_member r.members) is
    ∙ (sym (map-append pair_of_member (all_members (take i rs)) r.members)
    ∙ ap (map pair_of_member) (sym split ∙ ap all_members (sym longer))))

-- the members of one rejudging more, if that is open
pub open_more : (rs : List Rejudging) (i : ℕ) (r : Rejudging) (pairs more : List (ℕ × ℕ)) → i < length rs → r ≡ get_or rs i r
    → pairs ≡ map pair_of_member (open_members (take i rs)) → more ≡ pairs ++ map pair_of_member (open_members (r ∷ [])) → more ≡ map pair_of_member (open_members (take (i + 1) rs))
open_more rs i r pairs more l e is grown =
    let longer : take (i + 1) rs ≡ take i rs ++ r ∷ [] = rw (← e) at (take_more rs i r l) in
    let split : open_members (take i rs ++ r ∷ []) ≡ open_members (take i rs) ++ open_members (r ∷ []) =
    ap (flat_map (λ (s : Rejudging). s.members)) (filter-append is_open (take i rs) (r ∷ [])) ∙ flat_map-append (λ (s : Rejudging). s.members) (filter is_open (take i rs)) (filter is_open (r ∷ [])) in
    grown
    ∙ (ap (λ ps. ps ++ map pair_of_member (open_members (r ∷ []))) is
    ∙ (sym (map-append pair_of_member (open_members (take i rs)) (open_members (r ∷ [])))
    ∙ ap (map pair_of_member) (sym split ∙ ap open_members (sym longer))))
