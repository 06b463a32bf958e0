-- Clarifications by their addressees, by who sent them, and by what they answer.
use Rattle.std.proofs.Common.{◌≡◌, ℕ, ◌+◌, ◌-◌, ◌<◌, get_or, take, Bool, true, false, List, [], ◌∷◌, ◌++◌, length, map, filter, Option, Some, None, refl, sym, ◌∙◌, ap, arith}
use Rattle.std.proofs.Math.Path.{fun_ext}
use Rattle.std.specs.Prelude.{◌&&◌, nat_eq, nat_le, nat_lt, count_by, is_some, if◌then◌else◌}
use Rattle.std.specs.Borrow.{Bor}
use Rattle.std.specs.List.{list_all, list_any, filter_map, cons_option}
use Rattle.std.specs.Option.{option_eq, option_map_or}
use Rattle.std.specs.Str.{bytes_eq}
use Rattle.std.specs.Cmp.{IsEquivalence}
use Rattle.std.specs.Cmp.Lexicographic.{pointwise, options_equiv}
use Rattle.std.proofs.lemmas.Bool.Decides.{nat_tests}
use Rattle.std.proofs.lemmas.Cmp.{nat_list_eq_equiv}
use Rattle.std.proofs.lemmas.List.{take_more}
use Rattle.std.proofs.lemmas.List.Elements.{filter_map-append}
use Rattle.contest_types.specs.Accounts.{account_named}
use Rattle.contest_types.specs.Masks.{audience_at}
use Rattle.contest_types.specs.Series.{in_each, count_up}
use Rattle.contest_types.specs.Setup.{Setup}
use Rattle.contest_types.specs.Sight.{hears}
use Rattle.contest_types.specs.TeamPlaces.{is_of_group}
use Rattle.contest_types.specs.State.{ContestState, same_addressee}
use Rattle.contest_types.specs.ValidClarifications.{is_an_addressee, is_well_sent, is_valid_clarification, to_one_addressee, are_valid_clarifications, OfTeam, OfAccount, same_scope, in_one_scope, keys_are_own}
use Rattle.contest_types.specs.declared.limits.TheConstants.{TEAM_REQUESTS, JURY_CLARIFICATIONS}
use Rattle.contest_types.specs.declared.clarification.Clarification.{Clarification}
use Rattle.contest_types.specs.declared.clarification.Addressee.{Addressee}
use Rattle.contest_types.specs.declared.clarification.Addressee.TheVariants as addressee
use Rattle.contest_types.specs.declared.clarification.Reference.{Reference}
use Rattle.contest_types.specs.contracts.clarification.AddresseeEq.TheImpl.Laws.{laws-law}
use Rattle.contest_types.specs.contracts.clarification.AddresseePartialEq.TheImpl.{ghosts as addressee_eq}
use Rattle.contest_types.specs.contracts.clarification.ReferencePartialEq.TheImpl.{ghosts as reference_eq}
use Rattle.contest_store_valid.specs.Numbering.{numbered}
use Rattle.contest_store_valid.specs.Keys.{same_keyed, keyed}
use Rattle.contest_store_valid.specs.Talk.{addressee_of, reference_to, same_reference, has_one, whose, same_sender, read_sent, is_of, is_sent}
use Rattle.contest_store_valid.proofs.StepLemmas.{and_true, all_both, in_each_both}
use Rattle.contest_store_valid.proofs.NumberLemmas.{Tells, tells, each_counts_up, numbered_read}
use Rattle.contest_store_valid.proofs.KeyLemmas.{own_keys_numbered, any_same}
use Rattle.contest_store_valid.proofs.CountLemmas.{each_counts_few}
use Rattle.contest_store_valid.proofs.PairLemmas.{all_same, any_mapped, same_pair_equiv}

same_key : (a b : Addressee) → addressee_eq.eq a b ≡ same_addressee a b
same_key addressee.All addressee.All = refl
same_key addressee.All (addressee.Group h) = refl
same_key addressee.All (addressee.Team u) = refl
same_key (addressee.Group g) addressee.All = refl
same_key (addressee.Group g) (addressee.Group h) = refl
same_key (addressee.Group g) (addressee.Team u) = refl
same_key (addressee.Team t) addressee.All = refl
same_key (addressee.Team t) (addressee.Group h) = refl
same_key (addressee.Team t) (addressee.Team u) = refl

-- equal as keys of a map is the same
same_keys : addressee_eq.eq ≡ same_addressee
same_keys = fun_ext (λ a. fun_ext (λ b. same_key a b))

same_addressee_equiv : IsEquivalence same_addressee
same_addressee_equiv = rw (← same_keys) laws-law

addressee_tells : Tells to_one_addressee same_addressee addressee_of
addressee_tells = tells to_one_addressee same_addressee addressee_of same_addressee_equiv (λ c d. refl)

abbrev counts : List Clarification → Bool
counts cs = count_up (map (λ (c : Clarification). c.number) cs)

abbrev few_of : Bool → ℕ → List Clarification → Bool
few_of from_jury most cs = nat_le (count_by (is_of from_jury) cs) most

pub numbered_by_addressee : (cs : List Clarification) (addressees : List Addressee) (numbers : List ℕ) → addressees ≡ map addressee_of cs → numbers ≡ map (λ (c : Clarification). c.number) cs
    → pointwise nat_eq numbers (numbered addressee_eq.eq addressees) ≡ in_each to_one_addressee counts cs
numbered_by_addressee cs addressees numbers a n = rw (a, n, same_keys) (sym (each_counts_up (λ c. c.number) addressee_tells cs))

pub few_by_addressee : (from_jury : Bool) (most : ℕ) (cs : List Clarification) (addressees : List Addressee) → addressees ≡ map addressee_of (filter (is_of from_jury) cs)
    → list_all (λ n. nat_le n most) (numbered addressee_eq.eq addressees) ≡ in_each to_one_addressee (few_of from_jury most) cs
few_by_addressee from_jury most cs addressees h = rw (h, same_keys) (sym (each_counts_few (is_of from_jury) most addressee_tells cs))

pub by_addressee : (cs : List Clarification)
    → in_each to_one_addressee are_valid_clarifications cs
    ≡ (in_each to_one_addressee counts cs && in_each to_one_addressee (few_of false TEAM_REQUESTS) cs && in_each to_one_addressee (few_of true JURY_CLARIFICATIONS) cs)
by_addressee cs =
    in_each_both to_one_addressee (λ cs. counts cs && few_of false TEAM_REQUESTS cs) (few_of true JURY_CLARIFICATIONS) cs
    ∙ ap (λ b. b && in_each to_one_addressee (few_of true JURY_CLARIFICATIONS) cs) (in_each_both to_one_addressee counts (few_of false TEAM_REQUESTS) cs)

sent_alike : (i j : Bool) (a b : List ℕ) (to other : Addressee)
    → same_scope (if i then OfAccount a else OfTeam to) (if j then OfAccount b else OfTeam other) ≡ same_sender (if j then (None, b) else (Some other, [])) (if i then (None, a) else (Some to, []))
sent_alike true true a b to other = refl
sent_alike true false a b to other = refl
sent_alike false true a b to other = refl
sent_alike false false a b to other = and_true (same_addressee other to)

sender_tells : Tells in_one_scope same_sender whose
sender_tells = tells in_one_scope same_sender whose (same_pair_equiv (option_eq same_addressee) bytes_eq (options_equiv same_addressee_equiv) nat_list_eq_equiv) (λ c d. sent_alike c.from_jury d.from_jury c.account d.account c.addressee d.addressee)

abbrev pub Sent : Type 0
Sent = (Option Addressee × Bor (List ℕ)) × Bor (List ℕ)

abbrev sent_same : (Addressee → Addressee → Bool) → Sent → Sent → Bool
sent_same same j k = (option_eq same j.0.0 k.0.0 && pointwise nat_eq j.0.1.now k.0.1.now) && pointwise nat_eq j.1.now k.1.now

pub keys_by_sender : (cs : List Clarification) (ks : List Sent) → map read_sent ks ≡ keyed whose (λ (c : Clarification). c.key) cs
    → list_all (λ n. nat_le n 1) (numbered (sent_same addressee_eq.eq) ks) ≡ in_each in_one_scope keys_are_own cs
keys_by_sender cs ks h =
    ap (list_all (λ n. nat_le n 1)) (ap (λ same. numbered (sent_same same) ks) same_keys ∙ (numbered_read read_sent (same_keyed same_sender) (sent_same same_addressee) (λ j k. refl) ks ∙ ap (numbered (same_keyed same_sender)) h))
    ∙ sym (own_keys_numbered (λ c. c.key) sender_tells cs)

all_there : {X Y : Type 0} (p : Y → Bool) (h : X → Option Y) (xs : List X) → list_all p (filter_map h xs) ≡ list_all (λ x. option_map_or p (h x) true) xs
all_there p h [] = refl
all_there {X} {Y} p h (x ∷ xs) =
    let rest = all_there p h xs in
    let go : (o : Option Y) → list_all p (cons_option o (filter_map h xs)) ≡ (option_map_or p o true && list_all (λ x. option_map_or p (h x) true) xs) =
    elim [ None ↦ rest | Some y ↦ ap (λ b. p y && b) rest ] in
    go (h x)

same_name : (q r : Reference) → reference_eq.eq q r ≡ same_reference q r
same_name q r = ap (λ b. b && nat_eq q.number r.number) (same_key q.addressee r.addressee)

-- what is answered stands where each reference is one of those
pub answered_stand : (cs : List Clarification) (standing named : List Reference) → standing ≡ map reference_to cs → named ≡ filter_map (λ (c : Clarification). c.reply) cs
    → list_all (λ r. list_any (λ q. reference_eq.eq q r) standing) named ≡ list_all (λ (c : Clarification). option_map_or (has_one cs) c.reply true) cs
answered_stand cs standing named s n =
    let among : Reference → Bool = λ r. list_any (λ q. reference_eq.eq q r) standing in
    let one : (r : Reference) → among r ≡ has_one cs r =
    λ r. ap (list_any (λ q. reference_eq.eq q r)) s
    ∙ (any_mapped (λ q. reference_eq.eq q r) reference_to cs
    ∙ any_same (λ c. reference_eq.eq (reference_to c) r) (λ c. same_reference (reference_to c) r) (λ c. same_name (reference_to c) r) cs) in
    let go : (o : Option Reference) → option_map_or among o true ≡ option_map_or (has_one cs) o true = elim [ None ↦ refl | Some r ↦ one r ] in
    ap (list_all among) n
    ∙ (all_there among (λ (c : Clarification). c.reply) cs
    ∙ all_same (λ (c : Clarification). option_map_or among c.reply true) (λ c. option_map_or (has_one cs) c.reply true) (λ c. go c.reply) cs)

last_two : (t d e : Bool) → (t && d && e) ≡ ((t && e) && d)
last_two true true true = refl
last_two true true false = refl
last_two true false true = refl
last_two true false false = refl
last_two false d e = refl

pub valid_alone : (x : ContestState)
    → list_all (is_valid_clarification x) x.clarifications
    ≡ (list_all (is_sent x.fixed) x.clarifications && list_all (λ (c : Clarification). option_map_or (has_one x.clarifications) c.reply true) x.clarifications)
valid_alone x =
    let answers : Clarification → Bool = λ c. option_map_or (has_one x.clarifications) c.reply true in
    all_same (is_valid_clarification x) (λ c. is_sent x.fixed c && answers c)
    (λ c. last_two (is_an_addressee x.fixed c.addressee && is_some (account_named x.fixed.accounts c.account) && option_map_or (λ problem. nat_lt problem (length x.fixed.settings.problems)) c.problem true) (answers c) (is_well_sent x.fixed c))
    x.clarifications
    ∙ all_both (is_sent x.fixed) answers x.clarifications

-- a team hears what goes to the groups that it is in
pub own_groups : (s : Setup) (group team : ℕ) → hears (audience_at team) s (addressee.Group group) ≡ is_of_group s group team
own_groups s group team =
    let above : nat_lt 0 (team + 1) ≡ true = grind (arith, nat_tests) in
    let same : team + 1 - 1 ≡ team = omega arith in
    ap (λ b. b && is_of_group s group (team + 1 - 1)) above ∙ ap (is_of_group s group) same

-- one more row, if it gives something
pub given_more : {X Y : Type 0} (h : X → Option Y) (xs : List X) (i : ℕ) (x : X) (ys more : List Y) → i < length xs → x ≡ get_or xs i x
    → ys ≡ filter_map h (take i xs) → more ≡ ys ++ filter_map h (x ∷ []) → more ≡ filter_map h (take (i + 1) xs)
given_more h xs i x ys more l e is grown =
    let longer : take (i + 1) xs ≡ take i xs ++ x ∷ [] = rw (← e) at (take_more xs i x l) in
    grown ∙ (ap (λ js. js ++ filter_map h (x ∷ [])) is ∙ (sym (filter_map-append h (take i xs) (x ∷ [])) ∙ ap (filter_map h) (sym longer)))
