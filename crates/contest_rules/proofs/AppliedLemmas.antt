-- What a rejudging adds that is applied may be added: the releases of its members, one after another, and its state.
use Rattle.std.proofs.Common.{◌≡◌, ◌∙◌, ◌+◌, ℕ, Bool, true, false, List, [], ◌∷◌, ◌++◌, append-nil, length, map, Option, Some, None, Result, Ok, Err, refl, sym, ap, subst, inl, inr}
use Rattle.std.specs.Prelude.{◌&&◌, ◌||◌, ◌==◌, IfSome, nat_lt, not}
use Rattle.std.specs.List.{cons_option, filter_map, list_all, list_any}
use Rattle.std.specs.Option.{option_map}
use Rattle.std.proofs.lemmas.Bool.{eq-eqb, eqb-true, false≢true, not-true}
use Rattle.std.proofs.lemmas.List.Elements.{filter-append}
use Rattle.contest_types.specs.Addable.{are_addable, is_addable}
use Rattle.contest_types.specs.Order.{Has}
use Rattle.contest_types.specs.State.{ContestState, add, names, of_member, of_release, releases_on}
use Rattle.contest_types.specs.Valid.{is_valid}
use Rattle.contest_types.specs.ValidRejudgings.{are_different_members, has_release, is_released, is_same_member, is_valid_member, is_valid_rejudging, is_valid_state, open_members}
use Rattle.contest_types.specs.ValidSubmissions.{has_submission, is_valid_release}
use Rattle.contest_types.specs.declared.entry.Entry.TheVariants.{NewRelease, SetRejudging}
use Rattle.contest_types.specs.declared.rejudging.Member.{Member}
use Rattle.contest_types.specs.declared.rejudging.MemberState.{MemberState}
use Rattle.contest_types.specs.declared.rejudging.MemberState.TheVariants.{Empty, Proposed, Ready}
use Rattle.contest_types.specs.declared.rejudging.Rejudging.{Rejudging}
use Rattle.contest_types.specs.declared.rejudging.RejudgingState.TheVariants.{Applied}
use Rattle.contest_types.specs.declared.submission.Release.{Release}
use Rattle.contest_types.proofs.PlaceLemmas.{and_left, and_right, both_true, or_left, or_right}
use Rattle.contest_types.proofs.SeenWhole.{all_has}
use Rattle.contest_types.proofs.ValidParts.{parts}
use Rattle.contest_rules.specs.Laws.{AppliedIsAddable}
use Rattle.contest_rules.specs.Rejudging.{applied_entries, apply_refusal, ready_verdict, release_of}
use Rattle.contest_rules.specs.declared.rule_refusal.RuleRefusal.{RuleRefusal}

-- a submission with a release is there
released_there : (x : ContestState) (team number : ℕ) (vs : List Release) → list_all (is_valid_release x) vs ≡ true → is_released team number vs ≡ true → has_submission x team number ≡ true
released_there x team number [] all h = absurd (false≢true h)
released_there x team number (v ∷ vs) all h =
    let named : has_submission x v.team v.number ≡ true = and_left (has_submission x v.team v.number) _ (and_left (is_valid_release x v) _ all) in
    let rest = released_there x team number vs (and_right (is_valid_release x v) _ all) in
    let go : (b d : Bool) → (v.team == team) ≡ b → (v.number == number) ≡ d → ((b && d) || is_released team number vs) ≡ true → has_submission x team number ≡ true = elim [
      | true ↦ elim [
        | true ↦ λ e k n. (let t = eqb-true v.team team e in let m = eqb-true v.number number k in (λ i. has_submission x (sym t i) (sym m i)) ∙ named)
        | false ↦ λ e k n. rest n
      ]
      | false ↦ elim [ true ↦ λ e k n. rest n | false ↦ λ e k n. rest n ]
    ] in
    go (v.team == team) (v.number == number) refl refl h

-- what a member's next release rests on
record IsNext (y : ContestState) (vs : List Release) (m : Member) : Type 0 where
  pub there : has_submission y m.team m.number ≡ true
  pub typed : IfSome (ready_verdict m.state) (λ verdict. nat_lt verdict (length y.fixed.settings.types) ≡ true)
  pub same : releases_on m.team m.number y.releases ≡ releases_on m.team m.number vs

-- a release of another submission changes nothing of it
others_stay : (vs : List Release) (v : Release) (m : Member) → names m.team m.number (of_release v) ≡ false → releases_on m.team m.number (vs ++ v ∷ []) ≡ releases_on m.team m.number vs
others_stay vs v m other = filter-append (λ (u : Release). names m.team m.number (of_release u)) vs (v ∷ []) ∙ rw other (append-nil (releases_on m.team m.number vs))

-- no later member is the same
later_other : (m n : Member) (ms : List Member) → list_any (is_same_member m) ms ≡ false → Has ms n → names n.team n.number (of_member m) ≡ false
later_other m n [] none h = absurd h
later_other m n (k ∷ ms) none (inl e) = subst (λ (l : Member). names l.team l.number (of_member m) ≡ false) (sym e) (or_left (is_same_member m k) _ none)
later_other m n (k ∷ ms) none (inr h) = later_other m n ms (or_right (is_same_member m k) _ none) h

released_one : (y : ContestState) (vs : List Release) (now : ℕ) (m : Member) (verdict : ℕ) → IsNext y vs m → ready_verdict m.state ≡ Some verdict
    → is_addable y (NewRelease (record { team = m.team; number = m.number; round = length (releases_on m.team m.number vs) + 1; verdict = verdict; time = now })) ≡ true
released_one y vs now m verdict next is =
    let typed : nat_lt verdict (length y.fixed.settings.types) ≡ true = subst (λ o. IfSome o (λ u. nat_lt u (length y.fixed.settings.types) ≡ true)) is next.typed in
    both_true _ _ (both_true _ _ next.there typed) (eq-eqb _ _ (ap (λ (us : List Release). length us + 1) (sym next.same)))

released_all : (y : ContestState) (vs : List Release) (now number : ℕ) (ms : List Member) → are_different_members ms ≡ true → ((m : Member) → Has ms m → IsNext y vs m)
    → are_addable y (map NewRelease (filter_map (release_of vs now) ms) ++ SetRejudging number Applied ∷ []) ≡ true
released_all y vs now number [] apart next = refl
released_all y vs now number (m ∷ ms) apart next =
    let alone = not-true (list_any (is_same_member m) ms) (and_left (not (list_any (is_same_member m) ms)) _ apart) in
    let rest = and_right (not (list_any (is_same_member m) ms)) _ apart in
    let go : (o : Option ℕ) → ready_verdict m.state ≡ o
    → are_addable y (map NewRelease (cons_option (option_map {U = Release} (λ verdict. record { team = m.team; number = m.number; round = length (releases_on m.team m.number vs) + 1; verdict = verdict; time = now }) o) (filter_map (release_of vs now) ms)) ++ SetRejudging number Applied ∷ []) ≡ true = elim [
      | None ↦ λ e. released_all y vs now number ms rest (λ n h. next n (inr h))
      | (Some verdict) ↦ λ e. (let v : Release = record { team = m.team; number = m.number; round = length (releases_on m.team m.number vs) + 1; verdict = verdict; time = now } in
          both_true _ _ (released_one y vs now m verdict (next m (inl refl)) e)
          (released_all (add y (NewRelease v)) vs now number ms rest (λ n h. (let was = next n (inr h) in
          record { there = was.there; typed = was.typed; same = others_stay y.releases v n (later_other m n ms alone h) ∙ was.same }))))
    ] in
    go (ready_verdict m.state) refl

ready_typed : (x : ContestState) (s : MemberState) → is_valid_state x.fixed s ≡ true → IfSome (ready_verdict s) (λ verdict. nat_lt verdict (length x.fixed.settings.types) ≡ true)
ready_typed x Empty h = tt
ready_typed x (Proposed verdict account) h = tt
ready_typed x (Ready verdict) h = h

members_next : (x : ContestState) (r : Rejudging) → is_valid x ≡ true → Has x.rejudgings r → (m : Member) → Has r.members m → IsNext x x.releases m
members_next x r valid there m h =
    let all = and_left (list_all (is_valid_rejudging x) x.rejudgings) (are_different_members (open_members x.rejudgings)) (and_left (list_all (is_valid_rejudging x) x.rejudgings && are_different_members (open_members x.rejudgings)) _ (parts x valid).rejudgings) in
    let one : is_valid_rejudging x r ≡ true = all_has (is_valid_rejudging x) x.rejudgings r all there in
    let members = and_left (list_all (is_valid_member x) r.members) (are_different_members r.members) (and_left (list_all (is_valid_member x) r.members && are_different_members r.members) _ one) in
    let member : is_valid_member x m ≡ true = all_has (is_valid_member x) r.members m members h in
    record {
      there = released_there x m.team m.number x.releases (and_left (list_all (is_valid_release x) x.releases) _ (parts x valid).releases) (and_left (has_release x m.team m.number) (is_valid_state x.fixed m.state) member);
      typed = ready_typed x m.state (and_right (has_release x m.team m.number) (is_valid_state x.fixed m.state) member);
      same = refl;
    }

pub applied_is_addable : AppliedIsAddable
applied_is_addable x now number r releases valid there h =
    let all = and_left (list_all (is_valid_rejudging x) x.rejudgings) (are_different_members (open_members x.rejudgings)) (and_left (list_all (is_valid_rejudging x) x.rejudgings && are_different_members (open_members x.rejudgings)) _ (parts x valid).rejudgings) in
    let one : is_valid_rejudging x r ≡ true = all_has (is_valid_rejudging x) x.rejudgings r all there in
    let apart : are_different_members r.members ≡ true = and_right (list_all (is_valid_member x) r.members) (are_different_members r.members) (and_left (list_all (is_valid_member x) r.members && are_different_members r.members) _ one) in
    let go : (o : Option RuleRefusal) → elim o as (λ _. Result (List Release) RuleRefusal) [ (Some refusal) ↦ Err refusal | None ↦ Ok (filter_map (release_of x.releases now) r.members) ] ≡ Ok releases → are_addable x (applied_entries number releases) ≡ true = elim [
      | (Some refusal) ↦ λ k. absurd (cc k)
      | None ↦ λ k. (let is : filter_map (release_of x.releases now) r.members ≡ releases = cc k in
          subst (λ vs. are_addable x (applied_entries number vs) ≡ true) is (released_all x x.releases now number r.members apart (members_next x r valid there)))
    ] in
    go (apply_refusal r) h
