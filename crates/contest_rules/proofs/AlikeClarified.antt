-- Contests that are alike for a team decide its clarifications alike.
use Rattle.std.proofs.Common.{◌≡◌, ◌∙◌, ◌<◌, ◌+◌, ℕ, suc, Bool, true, false, List, [], ◌∷◌, length, map, Option, Some, None, Result, Ok, Err, refl, sym, ap, subst, arith}
use Rattle.std.specs.Prelude.{◌&&◌, ◌||◌, ◌==◌, ◌^◌, not, nat_le, filter, find, if◌then◌else◌}
use Rattle.std.specs.Option.{option_map, option_map_or, option_and_then}
use Rattle.std.specs.Str.{bytes_eq}
use Rattle.std.proofs.lemmas.Bool.{false≢true, eq-eqb, eqb-true}
use Rattle.std.proofs.lemmas.List.{length-map}
use Rattle.std.proofs.lemmas.List.Sums.{length-filter}
use Rattle.std.proofs.lemmas.Slice.Eq.{bytes_eq-Decides}
use Rattle.contest_types.specs.Accounts.{account_named}
use Rattle.contest_types.specs.Alike.{OpenClarification, open_clarification}
use Rattle.contest_types.specs.Masks.{audience_at}
use Rattle.contest_types.specs.Order.{Has}
use Rattle.contest_types.specs.Setup.{Setup}
use Rattle.contest_types.specs.Sight.{SeenClarification, heard_reference, hears, seen_clarification, sees_clarification}
use Rattle.contest_types.specs.State.{ContestState, FixedPart, clarifications_to, same_addressee}
use Rattle.contest_types.specs.Valid.{is_valid}
use Rattle.contest_types.specs.ValidClarifications.{OfTeam, OfAccount, is_an_addressee, is_request, is_valid_clarification, is_well_sent, may_send, same_scope, scope_of}
use Rattle.contest_types.specs.VisibleIds.{clarification_id}
use Rattle.contest_types.specs.declared.account.Account.{Account}
use Rattle.contest_types.specs.declared.account.Role.{Role}
use Rattle.contest_types.specs.declared.account.Role.TheVariants as role
use Rattle.contest_types.specs.declared.audience.Audience.{Audience}
use Rattle.contest_types.specs.declared.audience.Audience.TheVariants as audience
use Rattle.contest_types.specs.declared.clarification.Addressee.{Addressee}
use Rattle.contest_types.specs.declared.clarification.Addressee.TheVariants as addressee
use Rattle.contest_types.specs.declared.clarification.Clarification.{Clarification}
use Rattle.contest_types.specs.declared.clarification.Reference.{Reference}
use Rattle.contest_types.proofs.AddClarification.{addressed_itself}
use Rattle.contest_types.proofs.HeardWhole.{HasFew, goes_to, has_few, one_id, own_number, tests}
use Rattle.contest_types.proofs.InOrderLemmas.{find_has, filter_has, has_filter, has_map, map_has, none_passes}
use Rattle.contest_types.proofs.PlaceLemmas.{and_left, and_right, both_true}
use Rattle.contest_types.proofs.Rising.{find_passes}
use Rattle.contest_types.proofs.SeenWhole.{all_has}
use Rattle.contest_types.proofs.SightLemmas.{same_is_one}
use Rattle.contest_rules.specs.declared.clarifying.NamedClarification.{NamedClarification}
use Rattle.contest_rules.specs.declared.clarifying.Sender.TheVariants as sender
use Rattle.contest_rules.specs.declared.clarifying.WantedClarification.{WantedClarification}
use Rattle.contest_rules.specs.declared.decision.Decision.{Decision}
use Rattle.contest_rules.specs.declared.decision.Decision.TheVariants.{Add, Stands}
use Rattle.contest_rules.specs.declared.rule_refusal.RuleRefusal.{RuleRefusal}
use Rattle.contest_rules.specs.declared.rule_refusal.RuleRefusal.TheVariants.{KeyReused, NotOpen, TeamLimit}
use Rattle.contest_rules.specs.Clarifying.{clarification_on, clarify, clarify_named, clarify_on, has_this_key, heard_clarification, may_write, most_by, named_clarification, reference_of, said_again, said_anew, same_place, same_reply, says_the_same, written_by, written_under}
use Rattle.contest_rules.specs.Laws.{AlikeClarifyAlike, told_decision}
use Rattle.contest_rules.proofs.ClarifiedLemmas.{counted, named_on, of_team}

-- what is known of the clarifications of a valid contest
record Kept (f : FixedPart) (cs : List Clarification) : Type 0 where
  pub few : HasFew f
  pub there : (c : Clarification) → Has cs c → is_an_addressee f c.addressee ≡ true
  pub small : (c : Clarification) → Has cs c → c.number < 2 ^ 64
  pub sent : (c : Clarification) → Has cs c → is_well_sent f c ≡ true

kept : (x : ContestState) → is_valid x ≡ true → Kept x.fixed x.clarifications
kept x valid = record {
  few = has_few x valid;
  there = λ c h. goes_to x c valid h;
  small = λ c h. (let n = own_number x c valid h in omega (arith, n));
  sent = λ c h. and_right _ (is_well_sent x.fixed c) (all_has (is_valid_clarification x) x.clarifications c (tests x valid).alone h);
}

-- what an audience is told of an addressee's
abbrev told : Audience → FixedPart → List Clarification → Addressee → List OpenClarification
told a f cs to = if hears a f.settings to then map (open_clarification a f.settings) (clarifications_to to cs) else []

-- whatever is heard of the one is heard of the other
record Twin (f : FixedPart) (a : Audience) (ds : List Clarification) (c : Clarification) : Type 0 where
  pub twin : Clarification
  pub there : Has ds twin
  pub opened : open_clarification a f.settings c ≡ open_clarification a f.settings twin
  pub one : twin.addressee ≡ c.addressee

twin_of : (f : FixedPart) (a : Audience) (cs ds : List Clarification) → ((to : Addressee) → told a f cs to ≡ told a f ds to) → (c : Clarification) → Has cs c → hears a f.settings c.addressee ≡ true → Twin f a ds c
twin_of f a cs ds alike c has heard =
    let o = open_clarification a f.settings c in
    let mine : Has (map (open_clarification a f.settings) (clarifications_to c.addressee cs)) o = has_map (open_clarification a f.settings) (clarifications_to c.addressee cs) c
    (has_filter (λ (d : Clarification). same_addressee d.addressee c.addressee) cs c has (addressed_itself c.addressee)) in
    let lists : map (open_clarification a f.settings) (clarifications_to c.addressee cs) ≡ map (open_clarification a f.settings) (clarifications_to c.addressee ds) = rw heard at (alike c.addressee) in
    let m = map_has (open_clarification a f.settings) (clarifications_to c.addressee ds) o (subst (λ os. Has os o) lists mine) in
    let g = filter_has (λ (d : Clarification). same_addressee d.addressee c.addressee) ds m.item m.there in
    record { twin = m.item; there = g.0; opened = m.is; one = same_is_one m.item.addressee c.addressee g.1 }

abbrev record_of : Addressee → ℕ → Reference
record_of to number = record { addressee = to; number = number }

module _ (f : FixedPart) (a : Audience) (cs ds : List Clarification) (kc : Kept f cs) (kd : Kept f ds) (alike : (to : Addressee) → told a f cs to ≡ told a f ds to) (id : List ℕ) where
  abbrev is_it : Clarification → Bool
  is_it c = sees_clarification a f.settings c && bytes_eq (clarification_id c.addressee c.number) id

  one_reference : (c d : Clarification) → Has cs c → Has ds d → is_it c ≡ true → is_it d ≡ true → reference_of c ≡ reference_of d
  one_reference c d hc hd ic id_ =
      let same : clarification_id c.addressee c.number ≡ clarification_id d.addressee d.number =
      (bytes_eq-Decides (clarification_id c.addressee c.number) id).0 (and_right (sees_clarification a f.settings c) _ ic) ∙ sym ((bytes_eq-Decides (clarification_id d.addressee d.number) id).0 (and_right (sees_clarification a f.settings d) _ id_)) in
      let one = one_id f c.addressee d.addressee c.number d.number kc.few (kc.there c hc) (kd.there d hd) (kc.small c hc) (kd.small d hd) same in
      made c.addressee d.addressee c.number d.number (same_is_one c.addressee d.addressee one.0) one.1
    where
      made : (p q : Addressee) (m n : ℕ) → p ≡ q → m ≡ n → record_of p m ≡ record_of q n
      made p q m n e g = ap (λ z. record_of z m) e ∙ ap (record_of q) g

  -- where the one has it the other has it too
  found_too : (c : Clarification) → Has cs c → is_it c ≡ true → find is_it ds ≡ None → ⊥
  found_too c hc ic none =
      let t = twin_of f a cs ds alike c hc (and_left (sees_clarification a f.settings c) _ ic) in
      let number : c.number ≡ t.twin.number = ap (λ (o : OpenClarification). o.number) t.opened in
      let so : is_it t.twin ≡ true = both_true (hears a f.settings t.twin.addressee) (bytes_eq (clarification_id t.twin.addressee t.twin.number) id)
      (subst (λ to. hears a f.settings to ≡ true) (sym t.one) (and_left (sees_clarification a f.settings c) _ ic))
      (subst (λ to. bytes_eq (clarification_id to t.twin.number) id ≡ true) (sym t.one) (subst (λ n. bytes_eq (clarification_id c.addressee n) id ≡ true) number (and_right (sees_clarification a f.settings c) _ ic))) in
      none_passes is_it ds t.twin none t.there so

-- what its reply names is the same one, or none of both
heard_same : (f : FixedPart) (team : ℕ) (cs ds : List Clarification) → Kept f cs → Kept f ds → ((to : Addressee) → told (audience_at team) f cs to ≡ told (audience_at team) f ds to) → (id : List ℕ)
    → heard_clarification f (sender.Team team) cs id ≡ heard_clarification f (sender.Team team) ds id
heard_same f team cs ds kc kd alike id =
    let a = audience_at team in
    let test = is_it f a cs ds kc kd alike id in
    let back : (to : Addressee) → told a f ds to ≡ told a f cs to = λ to. sym (alike to) in
    let go : (o p : Option Clarification) → find test cs ≡ o → find test ds ≡ p → option_map reference_of o ≡ option_map reference_of p = elim [
      | None ↦ elim [
        | None ↦ λ e g. refl
        | (Some d) ↦ λ e g. absurd (found_too f a ds cs kd kc back id d (find_has test ds d g) (find_passes test ds d g) e)
      ]
      | (Some c) ↦ elim [
        | None ↦ λ e g. absurd (found_too f a cs ds kc kd alike id c (find_has test cs c e) (find_passes test cs c e) g)
        | (Some d) ↦ λ e g. ap (λ r. Some r) (one_reference f a cs ds kc kd alike id c d (find_has test cs c e) (find_has test ds d g) (find_passes test cs c e) (find_passes test ds d g))
      ]
    ] in
    go (find test cs) (find test ds) refl refl

named_same : (f : FixedPart) (team : ℕ) (cs ds : List Clarification) → Kept f cs → Kept f ds → ((to : Addressee) → told (audience_at team) f cs to ≡ told (audience_at team) f ds to) → (w : WantedClarification)
    → named_clarification f (sender.Team team) cs w ≡ named_clarification f (sender.Team team) ds w
named_same f team cs ds kc kd alike w =
    let go : (asked : Option (List ℕ)) → option_and_then (heard_clarification f (sender.Team team) cs) asked ≡ option_and_then (heard_clarification f (sender.Team team) ds) asked = elim [
      | None ↦ refl
      | (Some id) ↦ heard_same f team cs ds kc kd alike id
    ] in
    ap (λ heard. clarification_on f (sender.Team team) heard w) (go w.reply)

-- the one under a key is told by what the team is told

abbrev is_mine : (team : ℕ) → (key : List ℕ) → Clarification → Bool
is_mine team key c = same_scope (OfTeam (addressee.Team team)) (scope_of c) && has_this_key key c

abbrev has_open_key : (key : List ℕ) → OpenClarification → Bool
has_open_key key o = not o.from_jury && option_map_or (λ own. bytes_eq own key) o.key false

mine_opened : (a : Audience) (s : Setup) (team : ℕ) (key : List ℕ) (c : Clarification) → same_addressee c.addressee (addressee.Team team) ≡ true → is_mine team key c ≡ has_open_key key (open_clarification a s c)
mine_opened a s team key c to =
    let go : (b : Bool) → c.from_jury ≡ b → (same_scope (OfTeam (addressee.Team team)) (if b then OfAccount c.account else OfTeam c.addressee) && has_this_key key c)
    ≡ (not b && option_map_or (λ own. bytes_eq own key) (if b then None else c.key) false) = elim [
      | true ↦ λ e. refl
      | false ↦ λ e. rw to refl
    ] in
    go c.from_jury refl

mine_goes : (team : ℕ) (key : List ℕ) (c : Clarification) → is_mine team key c ≡ true → (c.from_jury ≡ false) × (same_addressee c.addressee (addressee.Team team) ≡ true)
mine_goes team key c h =
    let go : (b : Bool) → (same_scope (OfTeam (addressee.Team team)) (if b then OfAccount c.account else OfTeam c.addressee) && has_this_key key c) ≡ true
    → (b ≡ false) × (same_addressee c.addressee (addressee.Team team) ≡ true) = elim [
      | true ↦ λ g. absurd (false≢true g)
      | false ↦ λ g. (refl, and_left (same_addressee c.addressee (addressee.Team team)) (has_this_key key c) g)
    ] in
    go c.from_jury h

find_within : (p q : Clarification → Bool) → ((c : Clarification) → p c ≡ true → q c ≡ true) → (cs : List Clarification) → find p cs ≡ find p (filter q cs)
find_within p q wider [] = refl
find_within p q wider (c ∷ cs) =
    let rest = find_within p q wider cs in
    let go : (b d : Bool) → p c ≡ b → q c ≡ d → (if b then Some c else find p cs) ≡ find p (if d then c ∷ filter q cs else filter q cs) = elim [
      | true ↦ elim [ true ↦ λ e g. rw e refl | false ↦ λ e g. absurd (false≢true (sym g ∙ wider c e)) ]
      | false ↦ elim [ true ↦ λ e g. rw e rest | false ↦ λ e g. rest ]
    ] in
    go (p c) (q c) refl refl

find_opened : {Y : Type 0} (p q : Clarification → Bool) (g : Clarification → Y) (r : Y → Bool) → ((c : Clarification) → q c ≡ true → p c ≡ r (g c)) → (cs : List Clarification)
    → option_map g (find p (filter q cs)) ≡ find r (map g (filter q cs))
find_opened p q g r same [] = refl
find_opened {Y} p q g r same (c ∷ cs) =
    let rest = find_opened p q g r same cs in
    let here : q c ≡ true → (b : Bool) → p c ≡ b → option_map g (if b then Some c else find p (filter q cs)) ≡ (if r (g c) then Some (g c) else find r (map g (filter q cs))) = λ kept. elim [
      | true ↦ λ e. rw (sym (same c kept) ∙ e) refl
      | false ↦ λ e. rw (sym (same c kept) ∙ e) rest
    ] in
    let go : (d : Bool) → q c ≡ d → option_map g (find p (if d then c ∷ filter q cs else filter q cs)) ≡ find r (map g (if d then c ∷ filter q cs else filter q cs)) = elim [
      | true ↦ λ e. here e (p c) refl
      | false ↦ λ e. rest
    ] in
    go (q c) refl

hears_own : (s : Setup) (team : ℕ) → hears (audience_at team) s (addressee.Team team) ≡ true
hears_own s team = rw (eq-eqb (team + 1) (team + 1) refl) refl

abbrev opened_under : Option (List ℕ) → List OpenClarification → Option OpenClarification
opened_under None os = None
opened_under (Some key) os = find (has_open_key key) os

theirs : (f : FixedPart) (team : ℕ) (cs : List Clarification) → told (audience_at team) f cs (addressee.Team team) ≡ map (open_clarification (audience_at team) f.settings) (clarifications_to (addressee.Team team) cs)
theirs f team cs = rw (hears_own f.settings team) refl

standing_opened : (f : FixedPart) (team : ℕ) (key : Option (List ℕ)) (cs : List Clarification)
    → option_map (open_clarification (audience_at team) f.settings) (written_under (OfTeam (addressee.Team team)) key cs) ≡ opened_under key (told (audience_at team) f cs (addressee.Team team))
standing_opened f team None cs = refl
standing_opened f team (Some key) cs =
    let open_it = open_clarification (audience_at team) f.settings in
    let to_team : Clarification → Bool = λ c. same_addressee c.addressee (addressee.Team team) in
    ap (option_map open_it) (find_within (is_mine team key) to_team (λ c h. (mine_goes team key c h).1) cs)
    ∙ (find_opened (is_mine team key) to_team open_it (has_open_key key) (λ c h. mine_opened (audience_at team) f.settings team key c h) cs ∙ ap (find (has_open_key key)) (sym (theirs f team cs)))

-- what a team's own request answers the team hears

sender_team : (s : Setup) (r : Role) (c : Clarification) → may_send s r c ≡ true → (t : ℕ) × (r ≡ role.Team t)
sender_team s (role.Team t) c h = (t, refl)
sender_team s role.Judge c h = absurd (false≢true h)
sender_team s role.Admin c h = absurd (false≢true h)
sender_team s role.Analyst c h = absurd (false≢true h)

sent_by : (f : FixedPart) (c : Clarification) → is_well_sent f c ≡ true → c.from_jury ≡ false → (t : ℕ) × (may_send f.settings (role.Team t) c ≡ true)
sent_by f c sent mine =
    let go : (o : Option Account) → option_map_or (λ (a : Account). may_send f.settings a.role c) o false ≡ true → (t : ℕ) × (may_send f.settings (role.Team t) c ≡ true) = elim [
      | None ↦ λ e. absurd (false≢true e)
      | (Some a) ↦ λ e. (let r = sender_team f.settings a.role c e in (r.0, subst (λ q. may_send f.settings q c ≡ true) r.1 e))
    ] in
    go (account_named f.accounts c.account) (other c.from_jury _ sent mine)
  where
    other : (a b : Bool) → (a || b) ≡ true → a ≡ false → b ≡ true
    other true b h e = absurd (false≢true (sym e))
    other false b h e = h

heard_own : (f : FixedPart) (team : ℕ) (c : Clarification) → is_well_sent f c ≡ true → c.from_jury ≡ false → same_addressee c.addressee (addressee.Team team) ≡ true
    → option_and_then (heard_reference (audience_at team) f.settings) c.reply ≡ c.reply
heard_own f team c sent mine to =
    let by = sent_by f c sent mine in
    let t = by.0 in
    let is : c.addressee ≡ addressee.Team team = same_is_one c.addressee (addressee.Team team) to in
    let same : (t == team) ≡ true = subst (λ q. same_addressee (addressee.Team t) q ≡ true) is (and_left (same_addressee (addressee.Team t) c.addressee) _ by.1) in
    let hears_it : option_map_or (λ (r : Reference). hears (audience_at team) f.settings r.addressee) c.reply true ≡ true =
    subst (λ n. option_map_or (λ (r : Reference). hears (audience_at n) f.settings r.addressee) c.reply true ≡ true) (eqb-true t team same) (and_right (same_addressee (addressee.Team t) c.addressee) _ by.1) in
    let go : (o : Option Reference) → option_map_or (λ (r : Reference). hears (audience_at team) f.settings r.addressee) o true ≡ true → option_and_then (heard_reference (audience_at team) f.settings) o ≡ o = elim [
      | None ↦ λ e. refl
      | (Some r) ↦ λ e. rw e refl
    ] in
    go c.reply hears_it

-- the jury hears every one
jury_hears : (s : Setup) (r : Option Reference) → option_and_then (heard_reference audience.Jury s) r ≡ r
jury_hears s None = refl
jury_hears s (Some r) =
    let go : (to : Addressee) → hears audience.Jury s to ≡ true = elim [ addressee.All ↦ refl | (addressee.Group group) ↦ refl | (addressee.Team team) ↦ refl ] in
    rw (go r.addressee) refl

-- what is answered to one that stands is told by what the team is told

abbrev seen_own : (team : ℕ) → OpenClarification → SeenClarification
seen_own team o = record { addressee = addressee.Team team; number = o.number; from_jury = o.from_jury; problem = o.problem; reply = o.reply; text = o.text; time = o.time }

abbrev opened_again : (team : ℕ) → OpenClarification → NamedClarification → (text : List ℕ) → Result (Decision Clarification SeenClarification) RuleRefusal
opened_again team o n text =
    if same_place o.problem n.problem && same_addressee (addressee.Team team) n.addressee && same_reply o.reply n.reply && bytes_eq o.text text then Ok (Stands (seen_own team o)) else Err KeyReused

again_opened : (f : FixedPart) (team : ℕ) (c : Clarification) (n : NamedClarification) (text : List ℕ) → is_well_sent f c ≡ true → c.from_jury ≡ false → same_addressee c.addressee (addressee.Team team) ≡ true
    → told_decision f.settings (said_again c n text) ≡ opened_again team (open_clarification (audience_at team) f.settings c) n text
again_opened f team c n text sent mine to =
    let a = audience_at team in
    let o = open_clarification a f.settings c in
    let is : c.addressee ≡ addressee.Team team = same_is_one c.addressee (addressee.Team team) to in
    let reply : o.reply ≡ c.reply = heard_own f team c sent mine to in
    let same : says_the_same c n text ≡ (same_place o.problem n.problem && same_addressee (addressee.Team team) n.addressee && same_reply o.reply n.reply && bytes_eq o.text text) =
    ap (λ q. same_place c.problem n.problem && same_addressee q n.addressee && same_reply c.reply n.reply && bytes_eq c.text text) is
    ∙ ap (λ r. same_place c.problem n.problem && same_addressee (addressee.Team team) n.addressee && same_reply r n.reply && bytes_eq c.text text) (sym reply) in
    let shown : seen_clarification audience.Jury f.settings c ≡ seen_own team o = ap (λ r. seen_to c.addressee r o) (jury_hears f.settings c.reply ∙ sym reply) ∙ ap (λ q. seen_to q o.reply o) is in
    let go : (b : Bool) → told_decision f.settings (if b then Ok (Stands c) else Err KeyReused) ≡ (if b then Ok (Stands (seen_own team o)) else Err KeyReused) = elim [
      | true ↦ ap (λ v. Ok (Stands v)) shown
      | false ↦ refl
    ] in
    go (says_the_same c n text) ∙ ap (λ b. if b then Ok (Stands (seen_own team o)) else Err KeyReused) same
  where
    seen_to : Addressee → Option Reference → OpenClarification → SeenClarification
    seen_to q r o = record { addressee = q; number = o.number; from_jury = o.from_jury; problem = o.problem; reply = r; text = o.text; time = o.time }

-- as many stand

count_opened : (a : Audience) (s : Setup) (cs : List Clarification) → length (filter is_request cs) ≡ length (filter (λ (o : OpenClarification). not o.from_jury) (map (open_clarification a s) cs))
count_opened a s [] = refl
count_opened a s (c ∷ cs) =
    let rest = count_opened a s cs in
    let go : (b : Bool) → length (if b then c ∷ filter is_request cs else filter is_request cs)
    ≡ length (if b then open_clarification a s c ∷ filter (λ (o : OpenClarification). not o.from_jury) (map (open_clarification a s) cs) else filter (λ (o : OpenClarification). not o.from_jury) (map (open_clarification a s) cs)) = elim [
      | true ↦ ap suc rest
      | false ↦ rest
    ] in
    go (not c.from_jury)

module _ (f : FixedPart) (team : ℕ) (cs ds : List Clarification) (kc : Kept f cs) (kd : Kept f ds) (alike : (to : Addressee) → told (audience_at team) f cs to ≡ told (audience_at team) f ds to) where
  abbrev to : Addressee
  to = addressee.Team team

  lists_opened : map (open_clarification (audience_at team) f.settings) (clarifications_to to cs) ≡ map (open_clarification (audience_at team) f.settings) (clarifications_to to ds)
  lists_opened = sym (theirs f team cs) ∙ (alike to ∙ theirs f team ds)

  as_many : length (clarifications_to to cs) ≡ length (clarifications_to to ds)
  as_many =
      sym (length-map (clarifications_to to cs) (open_clarification (audience_at team) f.settings))
      ∙ (ap (λ (os : List OpenClarification). length os) lists_opened ∙ length-map (clarifications_to to ds) (open_clarification (audience_at team) f.settings))

  requests : (es : List Clarification) → written_by (sender.Team team) to es ≡ length (filter (λ (o : OpenClarification). not o.from_jury) (map (open_clarification (audience_at team) f.settings) (clarifications_to to es)))
  requests es =
      counted (λ (c : Clarification). same_addressee c.addressee to) is_request es
      ∙ (sym (length-filter is_request (clarifications_to to es)) ∙ count_opened (audience_at team) f.settings (clarifications_to to es))

  as_many_asked : written_by (sender.Team team) to cs ≡ written_by (sender.Team team) to ds
  as_many_asked = requests cs ∙ (ap (λ (os : List OpenClarification). length (filter (λ (o : OpenClarification). not o.from_jury) os)) lists_opened ∙ sym (requests ds))

  anew_same : (now : ℕ) (account : List ℕ) (n : NamedClarification) (w : WantedClarification) → to ≡ n.addressee → said_anew f now (sender.Team team) account cs n w ≡ said_anew f now (sender.Team team) account ds n w
  anew_same now account n w is =
      let count : length (clarifications_to n.addressee cs) ≡ length (clarifications_to n.addressee ds) = subst (λ q. length (clarifications_to q cs) ≡ length (clarifications_to q ds)) is as_many in
      let asked : written_by (sender.Team team) n.addressee cs ≡ written_by (sender.Team team) n.addressee ds = subst (λ q. written_by (sender.Team team) q cs ≡ written_by (sender.Team team) q ds) is as_many_asked in
      ap (λ k. by_counts k (length (clarifications_to n.addressee cs))) asked ∙ ap (by_counts (written_by (sender.Team team) n.addressee ds)) count
    where
      by_counts : (asked count : ℕ) → Result (Decision Clarification Clarification) RuleRefusal
      by_counts asked count =
          if not (may_write f (sender.Team team) now) then Err NotOpen
          else (if nat_le (most_by (sender.Team team)) asked then Err TeamLimit
          else Ok (Add (record { addressee = n.addressee; number = count + 1; from_jury = false; account = account; problem = n.problem; reply = n.reply; text = w.text; time = now; key = w.key })))

  -- one that stands under the team's key is the team's own request
  own : (key : Option (List ℕ)) (es : List Clarification) (c : Clarification) → written_under (OfTeam to) key es ≡ Some c → Has es c × ((c.from_jury ≡ false) × (same_addressee c.addressee to ≡ true))
  own None es c e = absurd (cc e)
  own (Some key) es c e = (find_has (is_mine team key) es c e, mine_goes team key c (find_passes (is_mine team key) es c e))

  decided_same : (now : ℕ) (account : List ℕ) (n : NamedClarification) (w : WantedClarification) → to ≡ n.addressee
      → told_decision f.settings (clarify_named f now (sender.Team team) account cs n w) ≡ told_decision f.settings (clarify_named f now (sender.Team team) account ds n w)
  decided_same now account n w is =
      let a = audience_at team in
      let opened : option_map (open_clarification a f.settings) (written_under (OfTeam to) w.key cs) ≡ option_map (open_clarification a f.settings) (written_under (OfTeam to) w.key ds) =
      standing_opened f team w.key cs ∙ (ap (opened_under w.key) (alike to) ∙ sym (standing_opened f team w.key ds)) in
      let go : (o p : Option Clarification) → written_under (OfTeam to) w.key cs ≡ o → written_under (OfTeam to) w.key ds ≡ p → option_map (open_clarification a f.settings) o ≡ option_map (open_clarification a f.settings) p
      → told_decision f.settings (elim o as (λ _. Result (Decision Clarification Clarification) RuleRefusal) [ (Some c) ↦ said_again c n w.text | None ↦ said_anew f now (sender.Team team) account cs n w ])
      ≡ told_decision f.settings (elim p as (λ _. Result (Decision Clarification Clarification) RuleRefusal) [ (Some c) ↦ said_again c n w.text | None ↦ said_anew f now (sender.Team team) account ds n w ]) = elim [
        | None ↦ elim [
          | None ↦ λ e g same. ap (told_decision f.settings) (anew_same now account n w is)
          | (Some d) ↦ λ e g same. absurd (cc same)
        ]
        | (Some c) ↦ elim [
          | None ↦ λ e g same. absurd (cc same)
          | (Some d) ↦ λ e g same. (let one : open_clarification a f.settings c ≡ open_clarification a f.settings d = cc same in
              let oc = own w.key cs c e in
              let od = own w.key ds d g in
              again_opened f team c n w.text (kc.sent c oc.0) oc.1.0 oc.1.1 ∙ (ap (λ o. opened_again team o n w.text) one ∙ sym (again_opened f team d n w.text (kd.sent d od.0) od.1.0 od.1.1)))
        ]
      ] in
      go (written_under (OfTeam to) w.key cs) (written_under (OfTeam to) w.key ds) refl refl opened

  clarified_same : (now : ℕ) (account : List ℕ) (w : WantedClarification)
      → told_decision f.settings (clarify f now (sender.Team team) account cs w) ≡ told_decision f.settings (clarify f now (sender.Team team) account ds w)
  clarified_same now account w =
      let a = audience_at team in
      let named = named_same f team cs ds kc kd alike w in
      let go : (o : Option NamedClarification) → named_clarification f (sender.Team team) cs w ≡ o
      → told_decision f.settings (clarify_on f o now (sender.Team team) account cs w) ≡ told_decision f.settings (clarify_on f o now (sender.Team team) account ds w) = elim [
        | None ↦ λ e. refl
        | (Some n) ↦ λ e. (let on = named_on f (sender.Team team) (option_and_then (heard_clarification f (sender.Team team) cs) w.reply) w n e in
            decided_same now account n w (of_team f team w.to n.addressee on.to))
      ] in
      go (named_clarification f (sender.Team team) cs w) refl ∙ ap (λ o. told_decision f.settings (clarify_on f o now (sender.Team team) account ds w)) named

pub alike_clarify_alike : AlikeClarifyAlike
alike_clarify_alike x y now team account w valid_x valid_y h =
    let a = audience_at team in
    let alike : (to : Addressee) → told a x.fixed x.clarifications to ≡ told a x.fixed y.clarifications to = λ to. h.told to ∙ ap (λ f. told a f y.clarifications to) (sym h.fixed) in
    let kept_y : Kept x.fixed y.clarifications = subst (λ f. Kept f y.clarifications) (sym h.fixed) (kept y valid_y) in
    clarified_same x.fixed team x.clarifications y.clarifications (kept x valid_x) kept_y alike now account w
    ∙ ap (λ (f : FixedPart). told_decision f.settings (clarify f now (sender.Team team) account y.clarifications w)) h.fixed
