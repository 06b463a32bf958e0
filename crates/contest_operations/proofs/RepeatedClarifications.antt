-- A clarification that is repeated in a contest that has grown.
use Rattle.std.proofs.Common.{◌≡◌, ◌∙◌, ◌+◌, ◌-◌, ◌<◌, ℕ, Bool, true, false, List, [], ◌∷◌, ◌++◌, length, map, Option, Some, None, Ok, Err, refl, sym, ap, subst, inr, arith}
use Rattle.std.specs.Prelude.{◌==◌, ◌&&◌, find, is_some, nat_lt, if◌then◌else◌}
use Rattle.std.specs.List.{list_any}
use Rattle.std.specs.Option.{option_map, option_map_or, option_and_then, option_or}
use Rattle.std.specs.Str.{bytes_eq}
use Rattle.std.proofs.lemmas.Bool.{eq-eqb, eqb-true, false≢true, ltb-true}
use Rattle.std.proofs.lemmas.List.Folds.{find-append}
use Rattle.std.proofs.lemmas.Slice.Eq.{bytes_eq-Decides}
use Rattle.serde_json.specs.Data.{Data, object}
use Rattle.contest_types.specs.Places.{place_of}
use Rattle.contest_types.specs.ProblemPlaces.{problem_id_at}
use Rattle.contest_types.specs.Setup.{Setup}
use Rattle.contest_types.specs.Sight.{hears, heard_reference, sees_clarification}
use Rattle.contest_types.specs.State.{ContestState, FixedPart, add, add_all, same_addressee}
use Rattle.contest_types.specs.ValidClarifications.{Scope, OfTeam, OfAccount, is_an_addressee, same_scope, scope_of}
use Rattle.contest_types.specs.VisibleIds.{clarification_id}
use Rattle.contest_types.specs.declared.audience.Audience.TheVariants as audience
use Rattle.contest_types.specs.declared.clarification.Addressee.{Addressee}
use Rattle.contest_types.specs.declared.clarification.Addressee.TheVariants as addressee
use Rattle.contest_types.specs.declared.clarification.Clarification.{Clarification}
use Rattle.contest_types.specs.declared.clarification.Reference.{Reference}
use Rattle.contest_types.specs.declared.entry.Entry.TheVariants.{NewClarification}
use Rattle.contest_types.specs.declared.objects.Group.{Group}
use Rattle.contest_types.specs.declared.objects.Problem.{Problem}
use Rattle.contest_types.specs.declared.objects.Team.{Team}
use Rattle.contest_types.specs.declared.refusal.Refusal.TheVariants.{KeyReused as TheKeyReused}
use Rattle.contest_types.proofs.AddClarification.{addressed_itself}
use Rattle.contest_types.proofs.PlaceLemmas.{and_right, both_true, same_bytes, and_left, bytes_same}
use Rattle.contest_types.proofs.Rising.{find_passes}
use Rattle.contest_types.proofs.SightLemmas.{same_is_one}
use Rattle.contest_types.proofs.ValidParts.{four}
use Rattle.contest_objects.specs.ClarificationObjects.{clarification_members, group_of, reference_id, team_of}
use Rattle.contest_rules.specs.Clarifying.{addressee_for, audience_of, clarify, clarify_on, go_to_the_same, has_this_key, heard_clarification, if_asked, named_clarification, next_clarification, problem_for, reference_of, said_again, said_anew, same_place, same_reply, says_the_same, scope_for, want_the_same, written_under}
use Rattle.contest_rules.specs.Laws.{IsWriter}
use Rattle.contest_rules.specs.Submitting.{same_text}
use Rattle.contest_rules.specs.declared.clarifying.NamedClarification.{NamedClarification}
use Rattle.contest_rules.specs.declared.clarifying.Sender.{Sender}
use Rattle.contest_rules.specs.declared.clarifying.Sender.TheVariants as sender
use Rattle.contest_rules.specs.declared.clarifying.WantedAddressee.{WantedAddressee}
use Rattle.contest_rules.specs.declared.clarifying.WantedAddressee.TheVariants.{All as WantsAll, Group as WantsGroup, Team as WantsTeam}
use Rattle.contest_rules.specs.declared.clarifying.WantedClarification.{WantedClarification}
use Rattle.contest_rules.specs.declared.decision.Decision.TheVariants.{Add, Stands}
use Rattle.contest_rules.specs.declared.rule_refusal.RuleRefusal.TheVariants.{KeyReused}
use Rattle.contest_rules.proofs.ClarifiedLemmas.{Decided, IfSaid, decided, in_scope, named_on, problem_there, to_there}
use Rattle.contest_postings.specs.PostClarification.{own_clarification, said_entries, said_object}
use Rattle.contest_postings.specs.declared.clarification.Clarifying.{Clarifying}
use Rattle.contest_operations.specs.Growing.{Grows, IsFront}
use Rattle.contest_operations.specs.Outcomes.{Outcome, done_or_ruled, refusing, replying}
use Rattle.contest_operations.specs.PostedClarifications.{clarification_outcome}
use Rattle.contest_operations.specs.Replies.{answer}
use Rattle.contest_operations.specs.declared.reply.Reply.{Reply}
use Rattle.contest_operations.proofs.Fronts.{Extends, extends, find_front, place_front, same_as_itself, same_place_from, some_found, team_place_stays, team_stays}
use Rattle.contest_operations.proofs.GrowLemmas.{front_onward}
use Rattle.contest_operations.proofs.RuledLemmas.{ruled_refuses}
use Rattle.contest_types.proofs.GrownSettings.{at_front, front_more}

-- what a clarification names is still there

-- who writes hears the same of what is there, and the jury whatever there is
hears_still : (f g : FixedPart) (s : Sender) (account : List ℕ) → Extends f g → IsWriter f s account → (to : Addressee) → hears (audience_of s) f.settings to ≡ hears (audience_of s) g.settings to
hears_still f g s account h writer addressee.All = refl
hears_still f g (sender.Team team) account h writer (addressee.Group group) =
    let there : team + 1 - 1 < length f.settings.teams = omega (arith, writer.0) in
    ap (λ b. nat_lt 0 (team + 1) && b) (sym (team_stays (λ (t : Team). list_any (λ g. g == group) t.groups) false (λ t. refl) f g (team + 1 - 1) h there))
hears_still f g sender.Jury account h writer (addressee.Group group) = refl
hears_still f g s account h writer (addressee.Team team) = refl

jury_hears_still : (s t : Setup) (to : Addressee) → hears audience.Jury s to ≡ hears audience.Jury t to
jury_hears_still s t addressee.All = refl
jury_hears_still s t (addressee.Group group) = refl
jury_hears_still s t (addressee.Team team) = refl

heard_front : (f g : FixedPart) (s : Sender) (account : List ℕ) (cs ds : List Clarification) (id : List ℕ) (r : Reference) → Extends f g → IsWriter f s account → IsFront cs ds
    → heard_clarification f s cs id ≡ Some r → heard_clarification g s ds id ≡ Some r
heard_front f g s account cs ds id r extends writer front h =
    let test : Clarification → Bool = λ c. sees_clarification (audience_of s) f.settings c && bytes_eq (clarification_id c.addressee c.number) id in
    let same : heard_clarification f s ds id ≡ heard_clarification g s ds id =
    λ i. option_map reference_of (find (λ (c : Clarification). hears_still f g s account extends writer c.addressee i && bytes_eq (clarification_id c.addressee c.number) id) ds) in
    let go : (o : Option Clarification) → find test cs ≡ o → option_map reference_of o ≡ Some r → heard_clarification f s ds id ≡ Some r = elim [
      | None ↦ λ e k. absurd (cc k)
      | (Some c) ↦ λ e k. ap (option_map reference_of) (find_front test cs ds c front e) ∙ k
    ] in
    sym same ∙ go (find test cs) refl h

-- what is found is found still
asked_still : {B : Type 0} (asked : Option (List ℕ)) (p q : List ℕ → Option B) (found : Option B) → ((id : List ℕ) (b : B) → p id ≡ Some b → q id ≡ Some b)
    → if_asked asked (option_and_then p asked) ≡ Some found → if_asked asked (option_and_then q asked) ≡ Some found
asked_still None p q found still h = h
asked_still {B} (Some id) p q found still h =
    let go : (o : Option B) → p id ≡ o → option_map (λ (b : B). Some b) o ≡ Some found → option_map (λ (b : B). Some b) (q id) ≡ Some found = elim [
      | None ↦ λ e k. absurd (cc k)
      | (Some b) ↦ λ e k. ap (option_map (λ (c : B). Some c)) (still id b e) ∙ k
    ] in
    go (p id) refl h

-- the place that an id gives is that of an addressee
record PlacedBy (make : ℕ → Addressee) (ids : List (List ℕ)) (id : List ℕ) (to : Addressee) : Type 0 where
  pub place : ℕ
  pub at : place_of id ids ≡ Some place
  pub is : make place ≡ to

placed_by : (make : ℕ → Addressee) (ids : List (List ℕ)) (id : List ℕ) (to : Addressee) → option_map make (place_of id ids) ≡ Some to → PlacedBy make ids id to
placed_by make ids id to h =
    let go : (o : Option ℕ) → place_of id ids ≡ o → option_map make o ≡ Some to → PlacedBy make ids id to = elim [
      | None ↦ λ p k. absurd (cc k)
      | (Some place) ↦ λ p k. record { place = place; at = p; is = cc k }
    ] in
    go (place_of id ids) refl h

abbrev group_ids : FixedPart → List (List ℕ)
group_ids f = map (λ (g : Group). g.id) f.settings.groups

abbrev team_ids : FixedPart → List (List ℕ)
team_ids f = map (λ (t : Team). t.id) f.settings.teams

abbrev to_group : ℕ → Addressee
to_group place = addressee.Group place

abbrev to_team : ℕ → Addressee
to_team place = addressee.Team place

addressee_still : (f g : FixedPart) (s : Sender) (to : WantedAddressee) (a : Addressee) → Extends f g → addressee_for f s to ≡ Some a → addressee_for g s to ≡ Some a
addressee_still f g (sender.Team team) to a h e = e
addressee_still f g sender.Jury WantsAll a h e = e
addressee_still f g sender.Jury (WantsGroup id) a h e =
    let p = placed_by to_group (group_ids f) id a e in
    ap (option_map to_group) (place_front (λ (r : Group). r.id) id f.settings.groups g.settings.groups p.place h.groups p.at) ∙ ap Some p.is
addressee_still f g sender.Jury (WantsTeam id) a h e =
    let p = placed_by to_team (team_ids f) id a e in
    ap (option_map to_team) (team_place_stays f g id p.place h p.at) ∙ ap Some p.is

named_still : (f g : FixedPart) (s : Sender) (account : List ℕ) (cs ds : List Clarification) (w : WantedClarification) (n : NamedClarification) → Extends f g → IsWriter f s account → IsFront cs ds
    → named_clarification f s cs w ≡ Some n → named_clarification g s ds w ≡ Some n
named_still f g s account cs ds w n h writer front named =
    let n_on = named_on f s (option_and_then (heard_clarification f s cs) w.reply) w n named in
    let to = addressee_still f g s w.to n.addressee h n_on.to in
    let problem : problem_for g w.problem ≡ Some n.problem = asked_still w.problem (λ id. place_of id (map (λ (p : Problem). p.id) f.settings.problems)) (λ id. place_of id (map (λ (p : Problem). p.id) g.settings.problems)) n.problem
    (λ id at. place_front (λ (p : Problem). p.id) id f.settings.problems g.settings.problems at h.problems) n_on.problem in
    let reply : if_asked w.reply (option_and_then (heard_clarification g s ds) w.reply) ≡ Some n.reply = asked_still w.reply (heard_clarification f s cs) (heard_clarification g s ds) n.reply
    (λ id r. heard_front f g s account cs ds id r h writer front) n_on.reply in
    λ i. option_and_then (λ (t : Addressee). option_and_then (λ (p : Option ℕ). option_map (λ (r : Option Reference). made t p r) (reply i)) (problem i)) (to i)
  where
    made : Addressee → Option ℕ → Option Reference → NamedClarification
    made t p r = record { addressee = t; problem = p; reply = r }

-- what two ask for is one thing where their words are the same

same_places : (ids : List (List ℕ)) (a b : Option (List ℕ)) (i j : Option ℕ) → if_asked a (option_and_then (λ id. place_of id ids) a) ≡ Some i → if_asked b (option_and_then (λ id. place_of id ids) b) ≡ Some j
    → same_place i j ≡ same_text a b
same_places ids None None i j h k = let ei : None ≡ i = cc h in let ej : None ≡ j = cc k in λ z. same_place (sym ei z) (sym ej z)
same_places ids None (Some b) i j h k =
    let ei : None ≡ i = cc h in
    let go : (o : Option ℕ) → option_map (λ at. Some at) o ≡ Some j → same_place None j ≡ false = elim [
      | None ↦ λ e. absurd (cc e)
      | (Some m) ↦ λ e. (let ej : Some m ≡ j = cc e in ap (same_place None) (sym ej))
    ] in
    ap (λ o. same_place o j) (sym ei) ∙ go (place_of b ids) k
same_places ids (Some a) None i j h k =
    let ej : None ≡ j = cc k in
    let go : (o : Option ℕ) → option_map (λ at. Some at) o ≡ Some i → same_place i None ≡ false = elim [
      | None ↦ λ e. absurd (cc e)
      | (Some m) ↦ λ e. (let ei : Some m ≡ i = cc e in ap (λ o. same_place o None) (sym ei))
    ] in
    ap (same_place i) (sym ej) ∙ go (place_of a ids) h
same_places ids (Some a) (Some b) i j h k =
    let go : (o q : Option ℕ) → place_of a ids ≡ o → place_of b ids ≡ q → option_map (λ at. Some at) o ≡ Some i → option_map (λ at. Some at) q ≡ Some j → same_place i j ≡ bytes_eq a b = elim [
      | None ↦ λ q p r e g. absurd (cc e)
      | (Some m) ↦ elim [
        | None ↦ λ p r e g. absurd (cc g)
        | (Some n) ↦ λ p r e g. (let ei : Some m ≡ i = cc e in let ej : Some n ≡ j = cc g in (λ z. same_place (sym ei z) (sym ej z)) ∙ same_place_from a b 0 ids m n p r)
      ]
    ] in
    go (place_of a ids) (place_of b ids) refl refl h k

same_addressees : (f : FixedPart) (s : Sender) (a b : WantedAddressee) (to other : Addressee) → addressee_for f s a ≡ Some to → addressee_for f s b ≡ Some other → same_addressee to other ≡ go_to_the_same s a b
same_addressees f (sender.Team team) a b to other h k =
    let is : addressee.Team team ≡ to = cc h in
    let goes : addressee.Team team ≡ other = cc k in
    (λ z. same_addressee (sym is z) (sym goes z)) ∙ eq-eqb team team refl
same_addressees f sender.Jury WantsAll WantsAll to other h k = let is : addressee.All ≡ to = cc h in let goes : addressee.All ≡ other = cc k in λ z. same_addressee (sym is z) (sym goes z)
same_addressees f sender.Jury WantsAll (WantsGroup b) to other h k =
    let is : addressee.All ≡ to = cc h in
    let q = placed_by to_group (group_ids f) b other k in
    λ z. same_addressee (sym is z) (sym q.is z)
same_addressees f sender.Jury WantsAll (WantsTeam b) to other h k =
    let is : addressee.All ≡ to = cc h in
    let q = placed_by to_team (team_ids f) b other k in
    λ z. same_addressee (sym is z) (sym q.is z)
same_addressees f sender.Jury (WantsGroup a) WantsAll to other h k =
    let p = placed_by to_group (group_ids f) a to h in
    let goes : addressee.All ≡ other = cc k in
    λ z. same_addressee (sym p.is z) (sym goes z)
same_addressees f sender.Jury (WantsGroup a) (WantsGroup b) to other h k =
    let p = placed_by to_group (group_ids f) a to h in
    let q = placed_by to_group (group_ids f) b other k in
    (λ z. same_addressee (sym p.is z) (sym q.is z)) ∙ same_place_from a b 0 (group_ids f) p.place q.place p.at q.at
same_addressees f sender.Jury (WantsGroup a) (WantsTeam b) to other h k =
    let p = placed_by to_group (group_ids f) a to h in
    let q = placed_by to_team (team_ids f) b other k in
    λ z. same_addressee (sym p.is z) (sym q.is z)
same_addressees f sender.Jury (WantsTeam a) WantsAll to other h k =
    let p = placed_by to_team (team_ids f) a to h in
    let goes : addressee.All ≡ other = cc k in
    λ z. same_addressee (sym p.is z) (sym goes z)
same_addressees f sender.Jury (WantsTeam a) (WantsGroup b) to other h k =
    let p = placed_by to_team (team_ids f) a to h in
    let q = placed_by to_group (group_ids f) b other k in
    λ z. same_addressee (sym p.is z) (sym q.is z)
same_addressees f sender.Jury (WantsTeam a) (WantsTeam b) to other h k =
    let p = placed_by to_team (team_ids f) a to h in
    let q = placed_by to_team (team_ids f) b other k in
    (λ z. same_addressee (sym p.is z) (sym q.is z)) ∙ same_place_from a b 0 (team_ids f) p.place q.place p.at q.at

-- the reference that an id gives has that id
heard_id : (f : FixedPart) (s : Sender) (cs : List Clarification) (id : List ℕ) (r : Reference) → heard_clarification f s cs id ≡ Some r → clarification_id r.addressee r.number ≡ id
heard_id f s cs id r h =
    let test : Clarification → Bool = λ c. sees_clarification (audience_of s) f.settings c && bytes_eq (clarification_id c.addressee c.number) id in
    let go : (o : Option Clarification) → find test cs ≡ o → option_map reference_of o ≡ Some r → clarification_id r.addressee r.number ≡ id = elim [
      | None ↦ λ e k. absurd (cc k)
      | (Some c) ↦ λ e k. (let is : reference_of c ≡ r = cc k in
          let own : clarification_id c.addressee c.number ≡ id = same_bytes (clarification_id c.addressee c.number) id (and_right (sees_clarification (audience_of s) f.settings c) _ (find_passes test cs c e)) in
          subst (λ (q : Reference). clarification_id q.addressee q.number ≡ id) is own)
    ] in
    go (find test cs) refl h

same_heard : (f : FixedPart) (s : Sender) (cs : List Clarification) (a b : List ℕ) (r q : Reference) → heard_clarification f s cs a ≡ Some r → heard_clarification f s cs b ≡ Some q
    → (same_addressee r.addressee q.addressee && (r.number == q.number)) ≡ bytes_eq a b
same_heard f s cs a b r q h k =
    let here = heard_id f s cs a r h in
    let there = heard_id f s cs b q k in
    let equal : bytes_eq a b ≡ true → (same_addressee r.addressee q.addressee && (r.number == q.number)) ≡ true = λ e. (
    let texts : a ≡ b = same_bytes a b e in
    let found : Some r ≡ Some q = sym h ∙ (ap (heard_clarification f s cs) texts ∙ k) in
    let one : r ≡ q = cc found in
    subst (λ (p : Reference). (same_addressee r.addressee p.addressee && (r.number == p.number)) ≡ true) one (both_true _ _ (addressed_itself r.addressee) (eq-eqb r.number r.number refl))) in
    let other : bytes_eq a b ≡ false → (t u : Bool) → same_addressee r.addressee q.addressee ≡ t → (r.number == q.number) ≡ u → (t && u) ≡ false = λ e. elim [
      | false ↦ λ u p g. refl
      | true ↦ elim [
        | false ↦ λ p g. refl
        | true ↦ λ p g. (let to = same_is_one r.addressee q.addressee p in let number = eqb-true r.number q.number g in
            let ids : clarification_id r.addressee r.number ≡ clarification_id q.addressee q.number = λ i. clarification_id (to i) (number i) in
            let texts : a ≡ b = sym here ∙ (ids ∙ there) in
            absurd (false≢true (sym e ∙ (bytes_eq-Decides a b).1 texts)))
      ]
    ] in
    let go : (e : Bool) → bytes_eq a b ≡ e → (same_addressee r.addressee q.addressee && (r.number == q.number)) ≡ e = elim [
      | true ↦ equal
      | false ↦ λ e. other e (same_addressee r.addressee q.addressee) (r.number == q.number) refl refl
    ] in
    go (bytes_eq a b) refl

same_replies : (f : FixedPart) (s : Sender) (cs : List Clarification) (a b : Option (List ℕ)) (r q : Option Reference)
    → if_asked a (option_and_then (heard_clarification f s cs) a) ≡ Some r → if_asked b (option_and_then (heard_clarification f s cs) b) ≡ Some q → same_reply r q ≡ same_text a b
same_replies f s cs None None r q h k = let is : None ≡ r = cc h in let goes : None ≡ q = cc k in λ z. same_reply (sym is z) (sym goes z)
same_replies f s cs None (Some b) r q h k =
    let is : None ≡ r = cc h in
    let go : (o : Option Reference) → option_map (λ (p : Reference). Some p) o ≡ Some q → same_reply None q ≡ false = elim [
      | None ↦ λ e. absurd (cc e)
      | (Some p) ↦ λ e. (let goes : Some p ≡ q = cc e in ap (same_reply None) (sym goes))
    ] in
    ap (λ o. same_reply o q) (sym is) ∙ go (heard_clarification f s cs b) k
same_replies f s cs (Some a) None r q h k =
    let goes : None ≡ q = cc k in
    let go : (o : Option Reference) → option_map (λ (p : Reference). Some p) o ≡ Some r → same_reply r None ≡ false = elim [
      | None ↦ λ e. absurd (cc e)
      | (Some p) ↦ λ e. (let is : Some p ≡ r = cc e in ap (λ o. same_reply o None) (sym is))
    ] in
    ap (same_reply r) (sym goes) ∙ go (heard_clarification f s cs a) h
same_replies f s cs (Some a) (Some b) r q h k =
    let go : (o p : Option Reference) → heard_clarification f s cs a ≡ o → heard_clarification f s cs b ≡ p → option_map (λ (t : Reference). Some t) o ≡ Some r → option_map (λ (t : Reference). Some t) p ≡ Some q
    → same_reply r q ≡ bytes_eq a b = elim [
      | None ↦ λ p u v e g. absurd (cc e)
      | (Some m) ↦ elim [
        | None ↦ λ u v e g. absurd (cc g)
        | (Some n) ↦ λ u v e g. (let is : Some m ≡ r = cc e in let goes : Some n ≡ q = cc g in (λ z. same_reply (sym is z) (sym goes z)) ∙ same_heard f s cs a b m n u v)
      ]
    ] in
    go (heard_clarification f s cs a) (heard_clarification f s cs b) refl refl h k

equal_places : (i j : Option ℕ) → same_place i j ≡ true → i ≡ j
equal_places None None h = refl
equal_places (Some i) (Some j) h = ap Some (eqb-true i j h)
equal_places None (Some j) h = absurd (cc h)
equal_places (Some i) None h = absurd (cc h)

equal_replies : (r q : Option Reference) → same_reply r q ≡ true → r ≡ q
equal_replies None None h = refl
equal_replies (Some r) (Some q) h =
    let to = same_is_one r.addressee q.addressee (and_left (same_addressee r.addressee q.addressee) (r.number == q.number) h) in
    let number = eqb-true r.number q.number (and_right (same_addressee r.addressee q.addressee) (r.number == q.number) h) in
    λ i. Some (made (to i) (number i))
  where
    made : Addressee → ℕ → Reference
    made to number = record { addressee = to; number = number }
equal_replies None (Some q) h = absurd (cc h)
equal_replies (Some r) None h = absurd (cc h)

-- what was asked for is asked for again by who asks for the same
says_as : (g : FixedPart) (s : Sender) (ds : List Clarification) (c : Clarification) (v w : WantedClarification) (n m : NamedClarification) → says_the_same c n v.text ≡ true
    → named_clarification g s ds v ≡ Some n → named_clarification g s ds w ≡ Some m → says_the_same c m w.text ≡ want_the_same s v w
says_as g s ds c v w n m says named other =
    let t = named_on g s (option_and_then (heard_clarification g s ds) v.reply) v n named in
    let u = named_on g s (option_and_then (heard_clarification g s ds) w.reply) w m other in
    let all = four (same_place c.problem n.problem) (same_addressee c.addressee n.addressee) (same_reply c.reply n.reply) (bytes_eq c.text v.text) says in
    let problem = equal_places c.problem n.problem all.first in
    let to = same_is_one c.addressee n.addressee all.second in
    let reply = equal_replies c.reply n.reply all.third in
    let text = same_bytes c.text v.text all.fourth in
    let one = same_places (map (λ (p : Problem). p.id) g.settings.problems) v.problem w.problem n.problem m.problem t.problem u.problem in
    let two = same_addressees g s v.to w.to n.addressee m.addressee t.to u.to in
    let three = same_replies g s ds v.reply w.reply n.reply m.reply t.reply u.reply in
    (λ i. same_place (problem i) m.problem && same_addressee (to i) m.addressee && same_reply (reply i) m.reply && bytes_eq (text i) w.text)
    ∙ (λ i. one i && two i && three i && bytes_eq v.text w.text)

-- the value of one that stands stays

abbrev data_by : Clarification → (start : Option ℕ) → (whose group problem reply : Option (List ℕ)) → Data
data_by c start whose group problem reply =
    object (clarification_members start (if c.from_jury then None else whose) (clarification_id c.addressee c.number) problem reply c.text c.time group (if c.from_jury then whose else None))

whose_stays : (f g : FixedPart) (to : Addressee) → Extends f g → is_an_addressee f to ≡ true → team_of g.settings to ≡ team_of f.settings to
whose_stays f g addressee.All h there = refl
whose_stays f g (addressee.Group group) h there = refl
whose_stays f g (addressee.Team team) h there =
    ap Some (team_stays (λ (u : Team). u.id) [] (λ u. refl) f g team h (ltb-true team (length f.settings.teams) there))

group_stays : (f g : FixedPart) (to : Addressee) → Extends f g → is_an_addressee f to ≡ true → group_of g.settings to ≡ group_of f.settings to
group_stays f g addressee.All h there = refl
group_stays f g (addressee.Group group) h there =
    ap (λ o. Some (option_map_or (λ (r : Group). r.id) o [])) (at_front f.settings.groups g.settings.groups group h.groups (ltb-true group (length f.settings.groups) there))
group_stays f g (addressee.Team team) h there = refl

problem_stays : (f g : FixedPart) (problem : Option ℕ) → Extends f g → option_map_or (λ place. nat_lt place (length f.settings.problems)) problem true ≡ true
    → option_map (problem_id_at g.settings.problems) problem ≡ option_map (problem_id_at f.settings.problems) problem
problem_stays f g None h there = refl
problem_stays f g (Some at) h there =
    ap (λ o. Some (option_map_or (λ (q : Problem). q.id) o [])) (at_front f.settings.problems g.settings.problems at h.problems (ltb-true at (length f.settings.problems) there))

reply_stays : (s t : Setup) (reply : Option Reference) → option_and_then (heard_reference audience.Jury t) reply ≡ option_and_then (heard_reference audience.Jury s) reply
reply_stays s t None = refl
reply_stays s t (Some r) = ap (λ b. if b then Some r else None) (jury_hears_still t s r.addressee)

said_stays : (f g : FixedPart) (c : Clarification) → Extends f g → is_an_addressee f c.addressee ≡ true → option_map_or (λ place. nat_lt place (length f.settings.problems)) c.problem true ≡ true
    → own_clarification g c ≡ own_clarification f c
said_stays f g c h to problem =
    let whose = whose_stays f g c.addressee h to in
    let group = group_stays f g c.addressee h to in
    let about = problem_stays f g c.problem h problem in
    let reply = reply_stays f.settings g.settings c.reply in
    λ i. data_by c (h.start i) (whose i) (group i) (about i) (option_map reference_id (reply i))

-- one scope is one sender's

record OneSender (s t : Sender) (account other : List ℕ) : Type 0 where
  pub one : s ≡ t
  pub scope : scope_for s account ≡ scope_for t other

one_sender : (s t : Sender) (account other : List ℕ) → same_scope (scope_for s account) (scope_for t other) ≡ true → OneSender s t account other
one_sender (sender.Team team) (sender.Team same) account other h = let e : same ≡ team = eqb-true same team h in record { one = ap (λ u. sender.Team u) (sym e); scope = ap (λ u. OfTeam (addressee.Team u)) (sym e) }
one_sender sender.Jury sender.Jury account other h = let e : other ≡ account = same_bytes other account h in record { one = refl; scope = ap OfAccount (sym e) }
one_sender (sender.Team team) sender.Jury account other h = absurd (cc h)
one_sender sender.Jury (sender.Team team) account other h = absurd (cc h)

scope_itself : (s : Sender) (account : List ℕ) → same_scope (scope_for s account) (scope_for s account) ≡ true
scope_itself (sender.Team team) account = eq-eqb team team refl
scope_itself sender.Jury account = bytes_same account

-- what names what is there is decided by its key
at_key : (f : FixedPart) (now : ℕ) (s : Sender) (account : List ℕ) (cs : List Clarification) (w : WantedClarification) (n : NamedClarification) (c : Clarification) → named_clarification f s cs w ≡ Some n
    → written_under (scope_for s account) w.key cs ≡ Some c → clarify f now s account cs w ≡ said_again c n w.text
at_key f now s account cs w n c named stands =
    ap (λ o. clarify_on f o now s account cs w) named
    ∙ ap (λ o. elim o as (λ _. Decided) [ (Some d) ↦ said_again d n w.text | None ↦ said_anew f now s account cs n w ]) stands

-- what is said of a clarification that is repeated
abbrev pub Repeats : (later : ℕ) → Clarifying → ContestState → Reply → Type 0
Repeats later v y reply =
    (clarification_outcome later v y ≡ replying reply)
    × ((w : Clarifying) → w.wanted.key ≡ v.wanted.key → same_scope (scope_for v.sender v.account) (scope_for w.sender w.account) ≡ true
    → is_some (named_clarification y.fixed w.sender y.clarifications w.wanted) ≡ true
    → (want_the_same v.sender v.wanted w.wanted ≡ true → clarification_outcome later w y ≡ replying reply)
    × (want_the_same v.sender v.wanted w.wanted ≡ false → clarification_outcome later w y ≡ refusing TheKeyReused))

-- what is known of one that stands under its key
record IsSaid (f : FixedPart) (cs : List Clarification) (v : Clarifying) (c : Clarification) : Type 0 where
  pub n : NamedClarification
  pub named : named_clarification f v.sender cs v.wanted ≡ Some n
  pub says : says_the_same c n v.wanted.text ≡ true

same_wish : (s : Sender) (v : WantedClarification) → want_the_same s v v ≡ true
same_wish s v = rw (same_as_itself v.problem, to_itself s v.to, same_as_itself v.reply, bytes_same v.text) refl
  where
    to_itself : (r : Sender) (to : WantedAddressee) → go_to_the_same r to to ≡ true
    to_itself (sender.Team team) to = refl
    to_itself sender.Jury WantsAll = refl
    to_itself sender.Jury (WantsGroup id) = bytes_same id
    to_itself sender.Jury (WantsTeam id) = bytes_same id

stood_repeats : (f : FixedPart) (cs : List Clarification) (y : ContestState) (later : ℕ) (v : Clarifying) (c : Clarification) → Extends f y.fixed → IsFront cs y.clarifications → IsWriter f v.sender v.account
    → IsSaid f cs v c → written_under (scope_for v.sender v.account) v.wanted.key y.clarifications ≡ Some c → Repeats later v y (answer (own_clarification f c))
stood_repeats f cs y later v c h front writer t stands =
    let g = y.fixed in
    let ds = y.clarifications in
    let s = v.sender in
    let all = four (same_place c.problem t.n.problem) (same_addressee c.addressee t.n.addressee) (same_reply c.reply t.n.reply) (bytes_eq c.text v.wanted.text) t.says in
    let on = named_on f s (option_and_then (heard_clarification f s cs) v.wanted.reply) v.wanted t.n t.named in
    let to : is_an_addressee f c.addressee ≡ true = subst (λ a. is_an_addressee f a ≡ true) (sym (same_is_one c.addressee t.n.addressee all.second)) (to_there f s v.account v.wanted.to t.n.addressee writer on.to) in
    let problem : option_map_or (λ place. nat_lt place (length f.settings.problems)) c.problem true ≡ true =
    subst (λ o. option_map_or (λ place. nat_lt place (length f.settings.problems)) o true ≡ true) (sym (equal_places c.problem t.n.problem all.first)) (problem_there f v.wanted.problem t.n.problem on.problem) in
    let stays : own_clarification g c ≡ own_clarification f c = said_stays f g c h to problem in
    let named : named_clarification g s ds v.wanted ≡ Some t.n = named_still f g s v.account cs ds v.wanted t.n h writer front t.named in
    let by : Bool → Decided = λ b. if b then Ok (Stands c) else Err KeyReused in
    let said : Decided → Outcome = done_or_ruled (said_object g) said_entries in
    let repeats : said (Ok (Stands c)) ≡ replying (answer (own_clarification f c)) = ap (λ d. replying (answer d)) stays in
    let is : (account : List ℕ) (w : WantedClarification) → scope_for s v.account ≡ scope_for s account → w.key ≡ v.wanted.key → (m : NamedClarification) → named_clarification g s ds w ≡ Some m → (b : Bool) → want_the_same s v.wanted w ≡ b
    → said (clarify g later s account ds w) ≡ said (by b) = λ account w scope same m other b e. (
    let under : written_under (scope_for s account) w.key ds ≡ Some c = (λ i. written_under (sym scope i) (same i) ds) ∙ stands in
    ap said (at_key g later s account ds w m c other under ∙ ap by (says_as g s ds c v.wanted w t.n m t.says named other ∙ e))) in
    let some : (o : Option NamedClarification) → is_some o ≡ true → (m : NamedClarification) × (o ≡ Some m) = elim [ None ↦ λ e. absurd (cc e) | (Some m) ↦ λ e. (m, refl) ] in
    let for : (r : Sender) (account : List ℕ) (w : WantedClarification) → s ≡ r → scope_for s v.account ≡ scope_for r account → w.key ≡ v.wanted.key → is_some (named_clarification g r ds w) ≡ true
    → (want_the_same s v.wanted w ≡ true → said (clarify g later r account ds w) ≡ replying (answer (own_clarification f c))) × (want_the_same s v.wanted w ≡ false → said (clarify g later r account ds w) ≡ refusing TheKeyReused) =
    λ r account w one. subst (λ q. scope_for s v.account ≡ scope_for q account → w.key ≡ v.wanted.key → is_some (named_clarification g q ds w) ≡ true
    → (want_the_same s v.wanted w ≡ true → said (clarify g later q account ds w) ≡ replying (answer (own_clarification f c))) × (want_the_same s v.wanted w ≡ false → said (clarify g later q account ds w) ≡ refusing TheKeyReused)) one
    (λ scope same there. (let m = some (named_clarification g s ds w) there in (λ e. is account w scope same m.0 m.1 true e ∙ repeats, λ e. is account w scope same m.0 m.1 false e))) in (
      is v.account v.wanted refl refl t.n named true (same_wish s v.wanted) ∙ repeats,
      λ w same scope there. (let o = one_sender s w.sender v.account w.account scope in for w.sender w.account w.wanted o.one o.scope same there),
    )

-- what was taken says what it was asked for
says_itself : (now : ℕ) (s : Sender) (account : List ℕ) (cs : List Clarification) (n : NamedClarification) (w : WantedClarification) → says_the_same (next_clarification now s account cs n w) n w.text ≡ true
says_itself now s account cs n w = rw (place_itself n.problem, addressed_itself n.addressee, reply_itself n.reply, bytes_same w.text) refl
  where
    place_itself : (o : Option ℕ) → same_place o o ≡ true
    place_itself None = refl
    place_itself (Some at) = eq-eqb at at refl

    reply_itself : (o : Option Reference) → same_reply o o ≡ true
    reply_itself None = refl
    reply_itself (Some r) = both_true _ _ (addressed_itself r.addressee) (eq-eqb r.number r.number refl)

written_added : (scope : Scope) (key : Option (List ℕ)) (cs : List Clarification) (c : Clarification) → is_some key ≡ true → c.key ≡ key → scope_of c ≡ scope → same_scope scope scope ≡ true → written_under scope key cs ≡ None
    → written_under scope key (cs ++ c ∷ []) ≡ Some c
written_added scope None cs c some is own itself none = absurd (cc some)
written_added scope (Some key) cs c some is own itself none =
    let test : Clarification → Bool = λ d. same_scope scope (scope_of d) && has_this_key key d in
    let mine : same_scope scope (scope_of c) ≡ true = ap (same_scope scope) own ∙ itself in
    let has : has_this_key key c ≡ true = rw is (bytes_same key) in
    find-append test cs (c ∷ []) ∙ (ap (λ o. option_or o (find test (c ∷ []))) none ∙ ap (λ b. if b then Some c else None) (both_true _ _ mine has))

written_front : (scope : Scope) (key : Option (List ℕ)) (cs ds : List Clarification) (c : Clarification) → IsFront cs ds → written_under scope key cs ≡ Some c → written_under scope key ds ≡ Some c
written_front scope None cs ds c front is = absurd (cc is)
written_front scope (Some key) cs ds c front is = find_front (λ (d : Clarification). same_scope scope (scope_of d) && has_this_key key d) cs ds c front is

some_written : (scope : Scope) (key : Option (List ℕ)) (cs : List Clarification) (c : Clarification) → written_under scope key cs ≡ Some c → 0 < length cs
some_written scope None cs c is = absurd (cc is)
some_written scope (Some key) cs c is = some_found (λ (d : Clarification). same_scope scope (scope_of d) && has_this_key key d) cs c is

pub clarification_repeats : (x y : ContestState) (now later : ℕ) (v : Clarifying) → IsWriter x.fixed v.sender v.account → is_some v.wanted.key ≡ true
    → (clarification_outcome now v x).reply.status ≡ 200 → Grows (add_all x (clarification_outcome now v x).entries) y → Repeats later v y (clarification_outcome now v x).reply
clarification_repeats x y now later v writer some =
    let f = x.fixed in
    let s = v.sender in
    let cs = x.clarifications in
    let scope = scope_for s v.account in
    let said : Decided → Outcome = done_or_ruled (said_object f) said_entries in
    let go : (r : Decided) → IfSaid f now s v.account cs v.wanted r → (said r).reply.status ≡ 200 → Grows (add_all x (said r).entries) y → Repeats later v y (said r).reply = elim [
      | (Err refusal) ↦ λ t done h. absurd (ruled_refuses refusal done)
      | (Ok (Add c)) ↦ λ t done h. (let z = add x (NewClarification c) in
          let on = named_on f s (option_and_then (heard_clarification f s cs) v.wanted.reply) v.wanted t.n t.named in
          let key : c.key ≡ v.wanted.key = ap (λ (d : Clarification). d.key) t.is in
          let own : scope_of c ≡ scope = ap scope_of t.is ∙ in_scope x now v.account v.wanted t.n s on.to in
          let stands : written_under scope v.wanted.key z.clarifications ≡ Some c = written_added scope v.wanted.key cs c some key own (scope_itself s v.account) t.new_key in
          let says : says_the_same c t.n v.wanted.text ≡ true = subst (λ (d : Clarification). says_the_same d t.n v.wanted.text ≡ true) (sym t.is) (says_itself now s v.account cs t.n v.wanted) in
          stood_repeats f cs y later v c (extends z y h (inr (some_written scope v.wanted.key z.clarifications c stands))) (front_onward cs z.clarifications y.clarifications (front_more cs c) h.clarifications) writer
          (record { n = t.n; named = t.named; says = says }) (written_front scope v.wanted.key z.clarifications y.clarifications c h.clarifications stands))
      | (Ok (Stands c)) ↦ λ t done h. stood_repeats f cs y later v c (extends x y h (inr (some_written scope v.wanted.key cs c t.stands))) h.clarifications writer
          (record { n = t.n; named = t.named; says = t.same }) (written_front scope v.wanted.key cs y.clarifications c h.clarifications t.stands)
    ] in
    go (clarify f now s v.account cs v.wanted) (decided f now s v.account cs v.wanted)
