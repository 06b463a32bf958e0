-- What becomes of a clarification of a team's is the same in contests that are alike for it, and leaves them alike.
use Rattle.std.proofs.Common.{◌≡◌, ◌≢◌, ◌∙◌, ℕ, Bool, true, false, List, [], ◌∷◌, ◌++◌, map, Result, Ok, Err, refl, sym, ap, subst}
use Rattle.std.specs.Prelude.{if◌then◌else◌}
use Rattle.std.proofs.lemmas.List.{map-append}
use Rattle.std.proofs.lemmas.List.Elements.{filter-append}
use Rattle.contest_types.specs.Alike.{Alike, OpenClarification, open_clarification, told_of}
use Rattle.contest_types.specs.Masks.{audience_at}
use Rattle.contest_types.specs.Sight.{SeenClarification, hears}
use Rattle.contest_types.specs.State.{ContestState, FixedPart, add, add_all, clarifications_to, same_addressee}
use Rattle.contest_types.specs.Valid.{is_valid}
use Rattle.contest_types.specs.declared.audience.Audience.{Audience}
use Rattle.contest_types.specs.declared.audience.Audience.TheVariants.{Jury}
use Rattle.contest_types.specs.declared.clarification.Addressee.{Addressee}
use Rattle.contest_types.specs.declared.clarification.Clarification.{Clarification}
use Rattle.contest_types.specs.declared.entry.Entry.{Entry}
use Rattle.contest_types.specs.declared.entry.Entry.TheVariants.{NewClarification}
use Rattle.serde_json.specs.Data.{Data}
use Rattle.contest_objects.specs.ClarificationObjects.{clarification_data}
use Rattle.contest_rules.specs.Clarifying.{audience_of, clarify}
use Rattle.contest_rules.specs.Laws.{told_decision}
use Rattle.contest_rules.specs.declared.clarifying.Sender.{Sender}
use Rattle.contest_rules.specs.declared.clarifying.Sender.TheVariants as sender
use Rattle.contest_rules.specs.declared.clarifying.WantedClarification.{WantedClarification}
use Rattle.contest_rules.specs.declared.decision.Decision.{Decision}
use Rattle.contest_rules.specs.declared.decision.Decision.TheVariants.{Add, Stands}
use Rattle.contest_rules.specs.declared.rule_refusal.RuleRefusal.{RuleRefusal}
use Rattle.contest_rules.proofs.AlikeClarified.{alike_clarify_alike}
use Rattle.contest_postings.specs.PostClarification.{own_clarification, said_entries, said_object}
use Rattle.contest_postings.specs.declared.clarification.Clarifying.{Clarifying}
use Rattle.contest_operations.specs.Laws.{StayAlike}
use Rattle.contest_operations.specs.Outcomes.{Outcome, done_or_ruled}
use Rattle.contest_operations.specs.PostedClarifications.{clarification_outcome}

-- one more of an addressee's is told to whom its addressee is heard
abbrev told_last : Audience → FixedPart → Clarification → Addressee → List OpenClarification
told_last a f c to = if hears a f.settings to then map (open_clarification a f.settings) (clarifications_to to (c ∷ [])) else []

told_more : (a : Audience) (x : ContestState) (c : Clarification) (to : Addressee) → told_of a (add x (NewClarification c)) to ≡ told_of a x to ++ told_last a x.fixed c to
told_more a x c to =
    let open_it = open_clarification a x.fixed.settings in
    let one : List Clarification = clarifications_to to (c ∷ []) in
    let more : map open_it (clarifications_to to (x.clarifications ++ c ∷ [])) ≡ map open_it (clarifications_to to x.clarifications) ++ map open_it one =
    ap (map open_it) (filter-append (λ (d : Clarification). same_addressee d.addressee to) x.clarifications (c ∷ [])) ∙ map-append open_it (clarifications_to to x.clarifications) one in
    let go : (b : Bool) → (if b then map open_it (clarifications_to to (x.clarifications ++ c ∷ [])) else []) ≡ (if b then map open_it (clarifications_to to x.clarifications) else []) ++ (if b then map open_it one else []) = elim [
      | true ↦ more
      | false ↦ refl
    ] in
    go (hears a x.fixed.settings to)

last_same : (a : Audience) (f : FixedPart) (c d : Clarification) (to : Addressee) → c.addressee ≡ d.addressee → open_clarification a f.settings c ≡ open_clarification a f.settings d → told_last a f c to ≡ told_last a f d to
last_same a f c d to one same =
    let open_it = open_clarification a f.settings in
    let go : (e : Bool) → map open_it (if e then c ∷ [] else []) ≡ map open_it (if e then d ∷ [] else []) = elim [ true ↦ ap (λ o. o ∷ []) same | false ↦ refl ] in
    ap (λ os. if hears a f.settings to then os else []) (go (same_addressee c.addressee to) ∙ ap (λ t. map open_it (if same_addressee t to then d ∷ [] else [])) one)

-- two of one addressee that tell whoever hears them the same
pub said_alike : (a : Audience) (x y : ContestState) (c d : Clarification) → Alike a x y → c.addressee ≡ d.addressee
    → open_clarification a x.fixed.settings c ≡ open_clarification a x.fixed.settings d → Alike a (add x (NewClarification c)) (add y (NewClarification d))
said_alike a x y c d h one same = record {
  fixed = h.fixed;
  teams = h.teams;
  told = λ to. told_more a x c to ∙ (ap (λ os. os ++ told_last a x.fixed c to) (h.told to)
      ∙ (ap (λ os. told_of a y to ++ os) (last_same a x.fixed c d to one same) ∙ (ap (λ f. told_of a y to ++ told_last a f d to) h.fixed ∙ sym (told_more a y d to))));
}

-- what becomes of a team's request
abbrev said_outcome : (now team : ℕ) → (account : List ℕ) → WantedClarification → ContestState → Outcome
said_outcome now team account wanted x = clarification_outcome now (record { sender = sender.Team team; account = account; wanted = wanted }) x

-- what is answered and added is told by what the team is told of the decision

abbrev told_object : FixedPart → Decision Clarification SeenClarification → Data
told_object f (Add c) = own_clarification f c
told_object f (Stands v) = clarification_data f v

abbrev told_entries : Decision Clarification SeenClarification → List Entry
told_entries (Add c) = NewClarification c ∷ []
told_entries (Stands v) = []

abbrev by_told : FixedPart → Result (Decision Clarification SeenClarification) RuleRefusal → Outcome
by_told f r = done_or_ruled (told_object f) told_entries r

is_by_told : (f : FixedPart) (r : Result (Decision Clarification Clarification) RuleRefusal) → done_or_ruled (said_object f) said_entries r ≡ by_told f (told_decision f.settings r)
is_by_told f (Err refusal) = refl
is_by_told f (Ok (Add c)) = refl
is_by_told f (Ok (Stands c)) = refl

stays_alike : (a : Audience) (x y : ContestState) (r : Result (Decision Clarification Clarification) RuleRefusal) → Alike a x y
    → Alike a (add_all x (done_or_ruled (said_object x.fixed) said_entries r).entries) (add_all y (done_or_ruled (said_object x.fixed) said_entries r).entries)
stays_alike a x y (Err refusal) h = h
stays_alike a x y (Ok (Add c)) h = said_alike a x y c c h refl refl
stays_alike a x y (Ok (Stands c)) h = h

pub clarifications_alike : (now team : ℕ) (account : List ℕ) (wanted : WantedClarification) (x y : ContestState) → is_valid x ≡ true → is_valid y ≡ true → Alike (audience_at team) x y
    → StayAlike (audience_at team) x y (said_outcome now team account wanted x) (said_outcome now team account wanted y)
clarifications_alike now team account wanted x y valid_x valid_y h =
    let a = audience_at team in
    let r = clarify x.fixed now (sender.Team team) account x.clarifications wanted in
    let q = clarify y.fixed now (sender.Team team) account y.clarifications wanted in
    let same : said_outcome now team account wanted x ≡ said_outcome now team account wanted y =
    is_by_told x.fixed r ∙ ((λ i. by_told (h.fixed i) (alike_clarify_alike x y now team account wanted valid_x valid_y h i)) ∙ sym (is_by_told y.fixed q)) in (
      ap (λ (o : Outcome). o.reply) same,
      subst (λ (o : Outcome). Alike a (add_all x (said_outcome now team account wanted x).entries) (add_all y o.entries)) same (stays_alike a x y r h),
    )

-- a team's request, for the jury sees more than is compared
pub said_posts_alike : (now : ℕ) (c : Clarifying) (x y : ContestState) → audience_of c.sender ≢ Jury → is_valid x ≡ true → is_valid y ≡ true → Alike (audience_of c.sender) x y
    → StayAlike (audience_of c.sender) x y (clarification_outcome now c x) (clarification_outcome now c y)
said_posts_alike now c x y other valid_x valid_y h =
    let go : (s : Sender) → audience_of s ≢ Jury → Alike (audience_of s) x y → StayAlike (audience_of s) x y (clarification_outcome now (written_as c s) x) (clarification_outcome now (written_as c s) y) = elim [
      | (sender.Team team) ↦ λ no_jury alike. clarifications_alike now team c.account c.wanted x y valid_x valid_y alike
      | sender.Jury ↦ λ no_jury alike. absurd (no_jury refl)
    ] in
    go c.sender other h
  where
    written_as : Clarifying → Sender → Clarifying
    written_as d s = record { sender = s; account = d.account; wanted = d.wanted }
