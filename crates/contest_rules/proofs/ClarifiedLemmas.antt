-- A clarification that is taken may be added.
use Rattle.std.proofs.Common.{◌≡◌, ◌∙◌, ◌+◌, ℕ, Bool, true, false, List, [], ◌∷◌, length, map, Option, Some, None, Result, Ok, Err, refl, sym, ap, subst, arith}
use Rattle.std.specs.Prelude.{◌&&◌, ◌==◌, not, nat_le, nat_lt, filter, find, is_none, is_some, if◌then◌else◌}
use Rattle.std.specs.List.{count_by, list_any, filter_map}
use Rattle.std.specs.Option.{option_map, option_map_or, option_and_then}
use Rattle.std.specs.Str.{bytes_eq}
use Rattle.std.proofs.lemmas.Bool.{false≢true, eq-eqb, lt-ltb, or_right, or_left}
use Rattle.std.proofs.lemmas.Bool.Decides.{nat_tests}
use Rattle.std.proofs.lemmas.List.Sums.{length-filter}
use Rattle.contest_types.specs.Accounts.{account_named}
use Rattle.contest_types.specs.Addable.{is_addable, is_next_clarification}
use Rattle.contest_types.specs.Clock.{reached, end_of}
use Rattle.contest_types.specs.Places.{place_of, is_among}
use Rattle.contest_types.specs.Series.{is_new_key}
use Rattle.contest_types.specs.Sight.{hears, sees_clarification}
use Rattle.contest_types.specs.State.{FixedPart, ContestState, clarifications_to, same_addressee}
use Rattle.contest_types.specs.ValidClarifications.{Scope, OfTeam, has_clarification, in_one_scope, is_an_addressee, is_request, is_valid_clarification, is_well_sent, same_scope, scope_of}
use Rattle.contest_types.specs.VisibleIds.{clarification_id}
use Rattle.contest_types.specs.declared.audience.Phase.TheVariants as phase
use Rattle.contest_types.specs.declared.clarification.Addressee.{Addressee}
use Rattle.contest_types.specs.declared.clarification.Addressee.TheVariants as addressee
use Rattle.contest_types.specs.declared.clarification.Clarification.{Clarification}
use Rattle.contest_types.specs.declared.clarification.Reference.{Reference}
use Rattle.contest_types.specs.declared.entry.Entry.TheVariants.{NewClarification}
use Rattle.contest_types.specs.declared.limits.TheConstants.{JURY_CLARIFICATIONS, TEAM_REQUESTS}
use Rattle.contest_types.specs.declared.objects.Group.{Group}
use Rattle.contest_types.specs.declared.objects.Problem.{Problem}
use Rattle.contest_types.specs.declared.objects.Team.{Team}
use Rattle.contest_types.proofs.AddClarification.{addressed_itself}
use Rattle.contest_types.proofs.PlaceLemmas.{and_left, both_true, place_within}
use Rattle.contest_rules.specs.declared.clarifying.NamedClarification.{NamedClarification}
use Rattle.contest_rules.specs.declared.clarifying.Sender.{Sender}
use Rattle.contest_rules.specs.declared.clarifying.Sender.TheVariants as sender
use Rattle.contest_rules.specs.declared.clarifying.WantedAddressee.{WantedAddressee}
use Rattle.contest_rules.specs.declared.clarifying.WantedAddressee.TheVariants.{All as WantsAll, Group as WantsGroup, Team as WantsTeam}
use Rattle.contest_rules.specs.declared.clarifying.WantedClarification.{WantedClarification}
use Rattle.contest_rules.specs.declared.decision.Decision.{Decision}
use Rattle.contest_rules.specs.declared.decision.Decision.TheVariants.{Add, Stands}
use Rattle.contest_rules.specs.declared.rule_refusal.RuleRefusal.{RuleRefusal}
use Rattle.contest_rules.specs.declared.rule_refusal.RuleRefusal.TheVariants.{KeyReused, NotOpen, TeamLimit}
use Rattle.contest_rules.specs.Clarifying.{addressee_for, audience_of, clarification_on, clarify, clarify_on, has_begun, has_this_key, heard_clarification, if_asked, may_write, most_by, named_clarification, next_clarification, problem_for, reference_of, said_again, said_anew, says_the_same, scope_for, written_by, written_under}
use Rattle.contest_rules.specs.Laws.{IsWriter}
use Rattle.contest_rules.specs.Submitting.{is_running}
use Rattle.contest_types.proofs.AddLemmas.{has_start}
use Rattle.contest_types.proofs.ValidParts.{all_four}

abbrev pub Decided : Type 0
Decided = Result (Decision Clarification Clarification) RuleRefusal

-- what is known of a clarification that is taken
pub record Said (f : FixedPart) (now : ℕ) (s : Sender) (account : List ℕ) (cs : List Clarification) (w : WantedClarification) (c : Clarification) : Type 0 where
  pub n : NamedClarification
  pub named : named_clarification f s cs w ≡ Some n
  pub new_key : written_under (scope_for s account) w.key cs ≡ None
  pub may : may_write f s now ≡ true
  pub room : nat_le (most_by s) (written_by s n.addressee cs) ≡ false
  pub is : c ≡ next_clarification now s account cs n w

-- and of one that stands
pub record Stood (f : FixedPart) (s : Sender) (account : List ℕ) (cs : List Clarification) (w : WantedClarification) (c : Clarification) : Type 0 where
  pub n : NamedClarification
  pub named : named_clarification f s cs w ≡ Some n
  pub stands : written_under (scope_for s account) w.key cs ≡ Some c
  pub same : says_the_same c n w.text ≡ true

abbrev pub IfSaid : FixedPart → ℕ → Sender → List ℕ → List Clarification → WantedClarification → Decided → Type 0
IfSaid f now s account cs w (Err refusal) = Unit {0}
IfSaid f now s account cs w (Ok (Add c)) = Said f now s account cs w c
IfSaid f now s account cs w (Ok (Stands c)) = Stood f s account cs w c

module _ (f : FixedPart) (now : ℕ) (s : Sender) (account : List ℕ) (cs : List Clarification) (w : WantedClarification) where
  anew : (n : NamedClarification) → named_clarification f s cs w ≡ Some n → written_under (scope_for s account) w.key cs ≡ None → IfSaid f now s account cs w (said_anew f now s account cs n w)
  anew n named new =
      let room : may_write f s now ≡ true → (full : Bool) → nat_le (most_by s) (written_by s n.addressee cs) ≡ full
      → IfSaid f now s account cs w (if full then Err TeamLimit else Ok (Add (next_clarification now s account cs n w))) = λ may. elim [
        | true ↦ λ e. tt
        | false ↦ λ e. record { n = n; named = named; new_key = new; may = may; room = e; is = refl }
      ] in
      let go : (may : Bool) → may_write f s now ≡ may
      → IfSaid f now s account cs w (if not may then Err NotOpen else (if nat_le (most_by s) (written_by s n.addressee cs) then Err TeamLimit else Ok (Add (next_clarification now s account cs n w)))) = elim [
        | true ↦ λ e. room e (nat_le (most_by s) (written_by s n.addressee cs)) refl
        | false ↦ λ e. tt
      ] in
      go (may_write f s now) refl

  again : (c : Clarification) (n : NamedClarification) → named_clarification f s cs w ≡ Some n → written_under (scope_for s account) w.key cs ≡ Some c → IfSaid f now s account cs w (said_again c n w.text)
  again c n named stands =
      let go : (same : Bool) → says_the_same c n w.text ≡ same → IfSaid f now s account cs w (if same then Ok (Stands c) else Err KeyReused) = elim [
        | true ↦ λ e. record { n = n; named = named; stands = stands; same = e }
        | false ↦ λ e. tt
      ] in
      go (says_the_same c n w.text) refl

  pub decided : IfSaid f now s account cs w (clarify f now s account cs w)
  decided =
      let keyed : (n : NamedClarification) → named_clarification f s cs w ≡ Some n → (o : Option Clarification) → written_under (scope_for s account) w.key cs ≡ o
      → IfSaid f now s account cs w (elim o as (λ _. Decided) [ (Some c) ↦ said_again c n w.text | None ↦ said_anew f now s account cs n w ]) = λ n named. elim [
        | (Some c) ↦ λ e. again c n named e
        | None ↦ λ e. anew n named e
      ] in
      let go : (o : Option NamedClarification) → named_clarification f s cs w ≡ o → IfSaid f now s account cs w (clarify_on f o now s account cs w) = elim [
        | None ↦ λ e. tt
        | (Some n) ↦ λ e. keyed n e (written_under (scope_for s account) w.key cs) refl
      ] in
      go (named_clarification f s cs w) refl

  said : (c : Clarification) → clarify f now s account cs w ≡ Ok (Add c) → Said f now s account cs w c
  said c is = subst (IfSaid f now s account cs w) is decided

-- what is named is there

pub record Named (f : FixedPart) (s : Sender) (heard : Option Reference) (w : WantedClarification) (n : NamedClarification) : Type 0 where
  pub to : addressee_for f s w.to ≡ Some n.addressee
  pub problem : problem_for f w.problem ≡ Some n.problem
  pub reply : if_asked w.reply heard ≡ Some n.reply

abbrev made : Addressee → Option ℕ → Option Reference → NamedClarification
made to problem reply = record { addressee = to; problem = problem; reply = reply }

pub named_on : (f : FixedPart) (s : Sender) (heard : Option Reference) (w : WantedClarification) (n : NamedClarification) → clarification_on f s heard w ≡ Some n → Named f s heard w n
named_on f s heard w n h =
    let third : (to : Addressee) (problem : Option ℕ) (o : Option (Option Reference)) → addressee_for f s w.to ≡ Some to → problem_for f w.problem ≡ Some problem → if_asked w.reply heard ≡ o
    → option_map (λ (reply : Option Reference). made to problem reply) o ≡ Some n → Named f s heard w n = λ to problem. elim [
      | None ↦ λ a b c e. absurd (cc e)
      | (Some reply) ↦ λ a b c e. (let same : made to problem reply ≡ n = cc e in subst (Named f s heard w) same (record { to = a; problem = b; reply = c }))
    ] in
    let second : (to : Addressee) (o : Option (Option ℕ)) → addressee_for f s w.to ≡ Some to → problem_for f w.problem ≡ o
    → option_and_then (λ problem. option_map (λ reply. made to problem reply) (if_asked w.reply heard)) o ≡ Some n → Named f s heard w n = λ to. elim [
      | None ↦ λ a b e. absurd (cc e)
      | (Some problem) ↦ λ a b e. third to problem (if_asked w.reply heard) a b refl e
    ] in
    let go : (o : Option Addressee) → addressee_for f s w.to ≡ o
    → option_and_then (λ to. option_and_then (λ problem. option_map (λ reply. made to problem reply) (if_asked w.reply heard)) (problem_for f w.problem)) o ≡ Some n → Named f s heard w n = elim [
      | None ↦ λ a e. absurd (cc e)
      | (Some to) ↦ λ a e. second to (problem_for f w.problem) a refl e
    ] in
    go (addressee_for f s w.to) refl h

pub to_there : (f : FixedPart) (s : Sender) (account : List ℕ) (to : WantedAddressee) (a : Addressee) → IsWriter f s account → addressee_for f s to ≡ Some a → is_an_addressee f a ≡ true
to_there f (sender.Team team) account to a writer e =
    let there : nat_lt team (length f.settings.teams) ≡ true = lt-ltb team (length f.settings.teams) writer.0 in
    subst (λ o. option_map_or (is_an_addressee f) o false ≡ true) e there
to_there f sender.Jury account WantsAll a writer e = subst (λ o. option_map_or (is_an_addressee f) o false ≡ true) e refl
to_there f sender.Jury account (WantsGroup id) a writer e =
    let go : (o : Option ℕ) → place_of id (map (λ (g : Group). g.id) f.settings.groups) ≡ o → option_map (λ group. addressee.Group group) o ≡ Some a → is_an_addressee f a ≡ true = elim [
      | None ↦ λ p k. absurd (cc k)
      | (Some group) ↦ λ p k. (let there = lt-ltb group (length f.settings.groups) (place_within (λ (g : Group). g.id) id f.settings.groups group p) in
          subst (λ o. option_map_or (is_an_addressee f) o false ≡ true) k there)
    ] in
    go (place_of id (map (λ (g : Group). g.id) f.settings.groups)) refl e
to_there f sender.Jury account (WantsTeam id) a writer e =
    let go : (o : Option ℕ) → place_of id (map (λ (t : Team). t.id) f.settings.teams) ≡ o → option_map (λ team. addressee.Team team) o ≡ Some a → is_an_addressee f a ≡ true = elim [
      | None ↦ λ p k. absurd (cc k)
      | (Some team) ↦ λ p k. (let there = lt-ltb team (length f.settings.teams) (place_within (λ (t : Team). t.id) id f.settings.teams team p) in
          subst (λ o. option_map_or (is_an_addressee f) o false ≡ true) k there)
    ] in
    go (place_of id (map (λ (t : Team). t.id) f.settings.teams)) refl e

pub problem_there : (f : FixedPart) (problem : Option (List ℕ)) (found : Option ℕ) → problem_for f problem ≡ Some found → option_map_or (λ place. nat_lt place (length f.settings.problems)) found true ≡ true
problem_there f None found e = subst (λ o. option_map_or (λ (p : Option ℕ). option_map_or (λ place. nat_lt place (length f.settings.problems)) p true) o true ≡ true) e refl
problem_there f (Some id) found e =
    let go : (o : Option ℕ) → place_of id (map (λ (p : Problem). p.id) f.settings.problems) ≡ o → option_map (λ place. Some place) o ≡ Some found
    → option_map_or (λ place. nat_lt place (length f.settings.problems)) found true ≡ true = elim [
      | None ↦ λ p k. absurd (cc k)
      | (Some place) ↦ λ p k. (let there : nat_lt place (length f.settings.problems) ≡ true = lt-ltb place (length f.settings.problems) (place_within (λ (q : Problem). q.id) id f.settings.problems place p) in
          subst (λ o. option_map_or (λ (q : Option ℕ). option_map_or (λ at. nat_lt at (length f.settings.problems)) q true) o true ≡ true) k there)
    ] in
    go (place_of id (map (λ (p : Problem). p.id) f.settings.problems)) refl e

-- the clarification that is answered stands, and the sender hears it
abbrev is_here : Reference → Clarification → Bool
is_here r c = same_addressee c.addressee r.addressee && (c.number == r.number)

here_itself : (c : Clarification) → is_here (reference_of c) c ≡ true
here_itself c = both_true (same_addressee c.addressee c.addressee) (c.number == c.number) (addressed_itself c.addressee) (eq-eqb c.number c.number refl)

heard_there : (f : FixedPart) (s : Sender) (cs : List Clarification) (id : List ℕ) (r : Reference) → heard_clarification f s cs id ≡ Some r
    → (list_any (is_here r) cs ≡ true) × (hears (audience_of s) f.settings r.addressee ≡ true)
heard_there f s [] id r h = absurd (cc h)
heard_there f s (c ∷ cs) id r h =
    let test = sees_clarification (audience_of s) f.settings c && bytes_eq (clarification_id c.addressee c.number) id in
    let go : (b : Bool) → test ≡ b
    → option_map reference_of (if b then Some c else find (λ (d : Clarification). sees_clarification (audience_of s) f.settings d && bytes_eq (clarification_id d.addressee d.number) id) cs) ≡ Some r
    → (list_any (is_here r) (c ∷ cs) ≡ true) × (hears (audience_of s) f.settings r.addressee ≡ true) = elim [
      | true ↦ λ t e. (let same : reference_of c ≡ r = cc e in (
        or_left (is_here r c) (list_any (is_here r) cs) (subst (λ q. is_here q c ≡ true) same (here_itself c)),
        subst (λ (q : Reference). hears (audience_of s) f.settings q.addressee ≡ true) same (and_left (sees_clarification (audience_of s) f.settings c) _ t),
      ))
      | false ↦ λ t e. (let rest = heard_there f s cs id r e in (or_right (is_here r c) (list_any (is_here r) cs) rest.0, rest.1))
    ] in
    go test refl h

reply_there : (x : ContestState) (s : Sender) (w : WantedClarification) (reply : Option Reference) → if_asked w.reply (option_and_then (heard_clarification x.fixed s x.clarifications) w.reply) ≡ Some reply
    → (option_map_or (has_clarification x) reply true ≡ true) × (option_map_or (λ (r : Reference). hears (audience_of s) x.fixed.settings r.addressee) reply true ≡ true)
reply_there x s w reply e =
    let go : (asked : Option (List ℕ)) → if_asked asked (option_and_then (heard_clarification x.fixed s x.clarifications) asked) ≡ Some reply
    → (option_map_or (has_clarification x) reply true ≡ true) × (option_map_or (λ (r : Reference). hears (audience_of s) x.fixed.settings r.addressee) reply true ≡ true) = elim [
      | None ↦ λ k. (let same : None ≡ reply = cc k in
          (subst (λ (o : Option Reference). option_map_or (has_clarification x) o true ≡ true) same refl, subst (λ (o : Option Reference). option_map_or (λ (r : Reference). hears (audience_of s) x.fixed.settings r.addressee) o true ≡ true) same refl))
      | (Some id) ↦ λ k. found id (heard_clarification x.fixed s x.clarifications id) refl k
    ] in
    go w.reply e
  where
    found : (id : List ℕ) (o : Option Reference) → heard_clarification x.fixed s x.clarifications id ≡ o → option_map (λ (r : Reference). Some r) o ≡ Some reply
        → (option_map_or (has_clarification x) reply true ≡ true) × (option_map_or (λ (r : Reference). hears (audience_of s) x.fixed.settings r.addressee) reply true ≡ true)
    found id None h k = absurd (cc k)
    found id (Some r) h k =
        let same : Some r ≡ reply = cc k in
        let there = heard_there x.fixed s x.clarifications id r h in
        (subst (λ (o : Option Reference). option_map_or (has_clarification x) o true ≡ true) same there.0, subst (λ (o : Option Reference). option_map_or (λ (q : Reference). hears (audience_of s) x.fixed.settings q.addressee) o true ≡ true) same there.1)

-- a key that stands nowhere in its scope is new there
keyless : (scope : Scope) (key : List ℕ) (cs : List Clarification) → find (λ c. same_scope scope (scope_of c) && has_this_key key c) cs ≡ None
    → is_among (filter_map (λ k. k) (map (λ (c : Clarification). c.key) (filter (λ c. same_scope scope (scope_of c)) cs))) key ≡ false
keyless scope key [] h = refl
keyless scope key (c ∷ cs) h =
    let rest = keyless scope key cs in
    let own : (k : Option (List ℕ)) → c.key ≡ k → (if option_map_or (λ mine. bytes_eq mine key) k false then Some c else find (λ d. same_scope scope (scope_of d) && has_this_key key d) cs) ≡ None
    → is_among (filter_map (λ j. j) (k ∷ map (λ (d : Clarification). d.key) (filter (λ d. same_scope scope (scope_of d)) cs))) key ≡ false = elim [
      | None ↦ λ e g. rest g
      | (Some mine) ↦ λ e g. (let with : (b : Bool) → bytes_eq mine key ≡ b → (if b then Some c else find (λ d. same_scope scope (scope_of d) && has_this_key key d) cs) ≡ None
          → is_among (mine ∷ filter_map (λ j. j) (map (λ (d : Clarification). d.key) (filter (λ d. same_scope scope (scope_of d)) cs))) key ≡ false =
          elim [ true ↦ λ same none. absurd (cc none) | false ↦ λ other none. rw other (rest none) ] in
          with (bytes_eq mine key) refl g)
    ] in
    let go : (b : Bool) → same_scope scope (scope_of c) ≡ b → (if b && has_this_key key c then Some c else find (λ d. same_scope scope (scope_of d) && has_this_key key d) cs) ≡ None
    → is_among (filter_map (λ k. k) (map (λ (d : Clarification). d.key) (if b then c ∷ filter (λ d. same_scope scope (scope_of d)) cs else filter (λ d. same_scope scope (scope_of d)) cs))) key ≡ false = elim [
      | true ↦ λ e g. own c.key refl g
      | false ↦ λ e g. rest g
    ] in
    go (same_scope scope (scope_of c)) refl h

new_key : (scope : Scope) (key : Option (List ℕ)) (cs : List Clarification) → written_under scope key cs ≡ None
    → is_new_key (map (λ (c : Clarification). c.key) (filter (λ c. same_scope scope (scope_of c)) cs)) key ≡ true
new_key scope None cs h = refl
new_key scope (Some key) cs h = let none = keyless scope key cs h in rw none refl

-- what is counted among an addressee's
kept_both : (p q : Clarification → Bool) (cs : List Clarification) → filter (λ c. p c && q c) cs ≡ filter q (filter p cs)
kept_both p q [] = refl
kept_both p q (c ∷ cs) =
    let rest = kept_both p q cs in
    let go : (b : Bool) → (if b && q c then c ∷ filter (λ d. p d && q d) cs else filter (λ d. p d && q d) cs) ≡ filter q (if b then c ∷ filter p cs else filter p cs) = elim [
      | true ↦ ap (λ ds. if q c then c ∷ ds else ds) rest
      | false ↦ rest
    ] in
    go (p c)

pub counted : (p q : Clarification → Bool) (cs : List Clarification) → count_by (λ c. p c && q c) cs ≡ count_by q (filter p cs)
counted p q cs = sym (length-filter (λ c. p c && q c) cs) ∙ (ap (λ (ds : List Clarification). length ds) (kept_both p q cs) ∙ length-filter q (filter p cs))

begun : (started ended none : Bool) → (has_begun (if not started then phase.Before else (if ended then phase.Ended else phase.Running)) && none) ≡ true → started ≡ true
begun true ended none h = refl
begun false ended none h = absurd (false≢true h)

runs : (started ended none : Bool) → (is_running (if not started then phase.Before else (if ended then phase.Ended else phase.Running)) && none) ≡ true → started ≡ true
runs true ended none h = refl
runs false ended none h = absurd (false≢true h)

started : (f : FixedPart) (s : Sender) (now : ℕ) → may_write f s now ≡ true → is_some f.marks.start ≡ true
started f (sender.Team team) now h = has_start f.marks.start now (runs (reached f.marks.start now) (reached (end_of f.settings f.marks) now) (is_none f.marks.finalized) h)
started f sender.Jury now h = has_start f.marks.start now (begun (reached f.marks.start now) (reached (end_of f.settings f.marks) now) (is_none f.marks.finalized) h)

five : (a b c d e : Bool) → a ≡ true → b ≡ true → c ≡ true → d ≡ true → e ≡ true → (a && b && c && d && e) ≡ true
five a b c d e ta tb tc td te = rw (ta, tb, tc, td, te) refl

not_full : (m n : ℕ) → nat_le m n ≡ false → nat_lt n m ≡ true
not_full m n h = grind (arith, nat_tests, h)

writer_there : (f : FixedPart) (s : Sender) (account : List ℕ) → IsWriter f s account → is_some (account_named f.accounts account) ≡ true
writer_there f (sender.Team team) account writer = rw (writer.1.1) refl
writer_there f sender.Jury account writer = writer

-- whose a team's are
pub of_team : (f : FixedPart) (team : ℕ) (to : WantedAddressee) (a : Addressee) → addressee_for f (sender.Team team) to ≡ Some a → addressee.Team team ≡ a
of_team f team to a e = cc e

module _ (x : ContestState) (now : ℕ) (account : List ℕ) (w : WantedClarification) (n : NamedClarification) where
  well_sent : (s : Sender) → IsWriter x.fixed s account → addressee_for x.fixed s w.to ≡ Some n.addressee
      → option_map_or (λ (r : Reference). hears (audience_of s) x.fixed.settings r.addressee) n.reply true ≡ true
      → is_well_sent x.fixed (next_clarification now s account x.clarifications n w) ≡ true
  well_sent sender.Jury writer to heard = refl
  well_sent (sender.Team team) writer to heard =
      let mine : same_addressee (addressee.Team team) n.addressee ≡ true = subst (λ a. same_addressee (addressee.Team team) a ≡ true) (of_team x.fixed team w.to n.addressee to) (addressed_itself (addressee.Team team)) in
      rw (writer.1.1, writer.1.2) (both_true (same_addressee (addressee.Team team) n.addressee) _ mine heard)

  pub in_scope : (s : Sender) → addressee_for x.fixed s w.to ≡ Some n.addressee → scope_of (next_clarification now s account x.clarifications n w) ≡ scope_for s account
  in_scope sender.Jury to = refl
  in_scope (sender.Team team) to = ap OfTeam (sym (of_team x.fixed team w.to n.addressee to))

  is_next : (s : Sender) → nat_le (most_by s) (written_by s n.addressee x.clarifications) ≡ false
      → is_next_clarification (clarifications_to n.addressee x.clarifications) (next_clarification now s account x.clarifications n w) ≡ true
  is_next sender.Jury room =
      let count = length (clarifications_to n.addressee x.clarifications) + 1 in
      let same = counted (λ (c : Clarification). same_addressee c.addressee n.addressee) (λ (c : Clarification). c.from_jury) x.clarifications in
      both_true (count == count) _ (eq-eqb count count refl) (subst (λ k. nat_lt k JURY_CLARIFICATIONS ≡ true) same (not_full JURY_CLARIFICATIONS _ room))
  is_next (sender.Team team) room =
      let count = length (clarifications_to n.addressee x.clarifications) + 1 in
      let same = counted (λ (c : Clarification). same_addressee c.addressee n.addressee) is_request x.clarifications in
      both_true (count == count) _ (eq-eqb count count refl) (subst (λ k. nat_lt k TEAM_REQUESTS ≡ true) same (not_full TEAM_REQUESTS _ room))

  own_key : (s : Sender) → addressee_for x.fixed s w.to ≡ Some n.addressee → written_under (scope_for s account) w.key x.clarifications ≡ None
      → is_new_key (map (λ (d : Clarification). d.key) (filter (in_one_scope (next_clarification now s account x.clarifications n w)) x.clarifications)) w.key ≡ true
  own_key s to new =
      subst (λ scope. is_new_key (map (λ (d : Clarification). d.key) (filter (λ d. same_scope scope (scope_of d)) x.clarifications)) w.key ≡ true) (sym (in_scope s to)) (new_key (scope_for s account) w.key x.clarifications new)

pub clarified_is_addable : (x : ContestState) (now : ℕ) (s : Sender) (account : List ℕ) (w : WantedClarification) (c : Clarification) → IsWriter x.fixed s account
    → clarify x.fixed now s account x.clarifications w ≡ Ok (Add c) → is_addable x (NewClarification c) ≡ true
clarified_is_addable x now s account w c writer e =
    let f = x.fixed in
    let t = said f now s account x.clarifications w c e in
    let named = named_on f s (option_and_then (heard_clarification f s x.clarifications) w.reply) w t.n t.named in
    let reply = reply_there x s w t.n.reply named.reply in
    let next = next_clarification now s account x.clarifications t.n w in
    let valid : is_valid_clarification x next ≡ true = five (is_an_addressee f t.n.addressee) (is_some (account_named f.accounts account)) _ _ (is_well_sent f next)
    (to_there f s account w.to t.n.addressee writer named.to) (writer_there f s account writer) (problem_there f w.problem t.n.problem named.problem) reply.0 (well_sent x now account w t.n s writer named.to reply.1) in
    let addable : is_addable x (NewClarification next) ≡ true = all_four (is_some f.marks.start) (is_valid_clarification x next) _ _ (started f s now t.may) valid
    (is_next x now account w t.n s t.room) (own_key x now account w t.n s named.to t.new_key) in
    subst (λ r. is_addable x (NewClarification r) ≡ true) (sym t.is) addable
