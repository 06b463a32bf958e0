-- A submission that stands stays frozen or open, whatever is asked and imported.
use Rattle.std.proofs.Common.{◌≡◌, ◌∙◌, ℕ, Bool, true, List, [], ◌∷◌, Option, length, refl, sym, subst, arith}
use Rattle.std.specs.Prelude.{◌&&◌, ◌==◌, not, nat_le, if◌then◌else◌}
use Rattle.std.specs.Option.{option_map_or}
use Rattle.std.proofs.lemmas.Bool.{eqb-true}
use Rattle.contest_types.specs.Addable.{are_addable, freezes_the_same, is_addable}
use Rattle.contest_types.specs.Clock.{is_frozen, moment_after}
use Rattle.contest_types.specs.MomentText.{latest}
use Rattle.contest_types.specs.Order.{Has}
use Rattle.contest_types.specs.State.{ContestState, add, add_all, with_duration}
use Rattle.contest_types.specs.Valid.{is_valid}
use Rattle.contest_types.specs.declared.entry.Entry.{Entry}
use Rattle.contest_types.specs.declared.entry.Entry.TheVariants.{NewSubmission, NewProposal, NewRelease, NewClarification, NewRejudging, SetMember, SetRejudging, SetStart, SetThaw, SetFinalized, SetDuration, SetTeamName, SetDigest, NewType, NewLanguage, NewProblem, NewGroup, NewTeam, NewAccount}
use Rattle.contest_types.specs.declared.submission.Submission.{Submission}
use Rattle.contest_types.proofs.ExtensionLemmas.{agreed}
use Rattle.contest_types.proofs.InOrderLemmas.{has_front}
use Rattle.contest_types.proofs.PlaceLemmas.{and_left, and_right}
use Rattle.contest_types.proofs.SeenWhole.{all_has}
use Rattle.contest_desk.specs.Items.{item_entries, item_step}
use Rattle.contest_desk.specs.Runs.{IsRun}
use Rattle.contest_desk.specs.declared.item.Answer.{Answer}
use Rattle.contest_desk.specs.declared.item.Item.{Item}
use Rattle.contest_desk.proofs.ItemLemmas.{item_addable, item_adds}
use Rattle.contest_laws.proofs.IdLaws.{some_stand}
use Rattle.contest_laws.proofs.RunKeeps.{run_keeps}

-- entries that may be added, of which each keeps it
addable_keep : (P : ContestState → Type 0) → ((z : ContestState) (e : Entry) → is_addable z e ≡ true → P z → P (add z e))
    → (es : List Entry) (x : ContestState) → are_addable x es ≡ true → P x → P (add_all x es)
addable_keep P keeps [] x may h = h
addable_keep P keeps (e ∷ es) x may h = addable_keep P keeps es (add x e) (and_right (is_addable x e) (are_addable (add x e) es) may) (keeps x e (and_left (is_addable x e) (are_addable (add x e) es) may) h)

-- the submission stands, and is as frozen as this
record StandsAs (frozen : Bool) (s : Submission) (z : ContestState) : Type 0 where
  pub there : Has z.submissions s
  pub freeze : is_frozen z.fixed.settings z.fixed.marks s.time ≡ frozen

-- with a submission no start is set
no_start : (z : ContestState) (s : Submission) (start : Option ℕ) → Has z.submissions s → is_addable z (SetStart start) ≡ true → ⊥
no_start z s start there may =
    let none = length z.submissions == 0 in
    let unheard = length z.clarifications == 0 in
    let ends = option_map_or (λ end. nat_le end latest) (moment_after start z.fixed.settings.head.duration) true in
    absurd (omega (arith, some_stand z.submissions s there, eqb-true (length z.submissions) 0 (and_left none unheard (and_left (none && unheard) ends may))))

as_frozen : (frozen : Bool) (s : Submission) (z : ContestState) (e : Entry) → is_addable z e ≡ true → StandsAs frozen s z → StandsAs frozen s (add z e)
as_frozen frozen s z (NewSubmission t) may h = record { there = has_front z.submissions (t ∷ []) s h.there; freeze = h.freeze }
as_frozen frozen s z (NewProposal p) may h = record { there = h.there; freeze = h.freeze }
as_frozen frozen s z (NewRelease v) may h = record { there = h.there; freeze = h.freeze }
as_frozen frozen s z (NewClarification c) may h = record { there = h.there; freeze = h.freeze }
as_frozen frozen s z (NewRejudging r) may h = record { there = h.there; freeze = h.freeze }
as_frozen frozen s z (SetMember n place state) may h = record { there = h.there; freeze = h.freeze }
as_frozen frozen s z (SetRejudging n state) may h = record { there = h.there; freeze = h.freeze }
as_frozen frozen s z (SetStart start) may h = absurd (no_start z s start h.there may)
as_frozen frozen s z (SetThaw thaw) may h = record { there = h.there; freeze = h.freeze }
as_frozen frozen s z (SetFinalized finalized) may h = record { there = h.there; freeze = h.freeze }
as_frozen frozen s z (SetDuration duration freeze) may h =
    let old = z.fixed.settings in
    let new = with_duration old duration freeze in
    let same = and_right _ (freezes_the_same old new z.fixed.marks z.submissions) may in
    let one = all_has (λ (u : Submission). if is_frozen old z.fixed.marks u.time then is_frozen new z.fixed.marks u.time else not (is_frozen new z.fixed.marks u.time)) z.submissions s same h.there in
    record { there = h.there; freeze = agreed (is_frozen old z.fixed.marks s.time) (is_frozen new z.fixed.marks s.time) one ∙ h.freeze }
as_frozen frozen s z (SetTeamName team name) may h = record { there = h.there; freeze = h.freeze }
as_frozen frozen s z (SetDigest id digest) may h = record { there = h.there; freeze = h.freeze }
as_frozen frozen s z (NewType t) may h = record { there = h.there; freeze = h.freeze }
as_frozen frozen s z (NewLanguage l) may h = record { there = h.there; freeze = h.freeze }
as_frozen frozen s z (NewProblem p) may h = record { there = h.there; freeze = h.freeze }
as_frozen frozen s z (NewGroup g) may h = record { there = h.there; freeze = h.freeze }
as_frozen frozen s z (NewTeam t) may h = record { there = h.there; freeze = h.freeze }
as_frozen frozen s z (NewAccount a) may h = record { there = h.there; freeze = h.freeze }

item_freezes_none : (frozen : Bool) (s : Submission) (z : ContestState) (i : Item) → is_valid z ≡ true → StandsAs frozen s z → StandsAs frozen s (item_step z i).1
item_freezes_none frozen s z i valid h =
    subst (StandsAs frozen s) (sym (item_adds z i)) (addable_keep (StandsAs frozen s) (as_frozen frozen s) (item_entries z i) z (item_addable z i valid) h)

pub freeze_stays : (x y : ContestState) (items : List Item) (answers : List Answer) (s : Submission) → is_valid x ≡ true → IsRun x items answers y → Has x.submissions s
    → is_frozen y.fixed.settings y.fixed.marks s.time ≡ is_frozen x.fixed.settings x.fixed.marks s.time
freeze_stays x y items answers s valid run there =
    let frozen = is_frozen x.fixed.settings x.fixed.marks s.time in
    (run_keeps (StandsAs frozen s) (λ i. Unit) (λ z i v u h. item_freezes_none frozen s z i v h) x items answers y valid (λ i k. tt) (record { there = there; freeze = refl }) run).freeze
