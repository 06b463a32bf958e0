-- An extension that is decided may be made.
use Rattle.std.proofs.Common.{◌≡◌, ◌∙◌, ℕ, ◌+◌, ◌-◌, Bool, true, false, List, [], ◌∷◌, Option, Some, None, Ok, Err, refl, ap, subst, arith}
use Rattle.std.specs.Prelude.{not, ◌&&◌, ◌||◌, nat_le, nat_lt, is_none, if◌then◌else◌}
use Rattle.std.specs.List.{list_all, list_any}
use Rattle.std.proofs.lemmas.Bool.{false≢true, not-true}
use Rattle.std.proofs.lemmas.Bool.Decides.{nat_tests}
use Rattle.contest_types.specs.Addable.{freezes_the_same, is_addable}
use Rattle.contest_types.specs.Clock.{end_of, freeze_of, is_frozen, moment_after, moment_before, reached}
use Rattle.contest_types.specs.Setup.{Setup, has_valid_freeze, has_valid_medals, is_valid_head}
use Rattle.contest_types.specs.State.{ContestState, with_duration}
use Rattle.contest_types.specs.Valid.{is_valid}
use Rattle.contest_types.specs.declared.contest.ContestHead.{ContestHead}
use Rattle.contest_types.specs.declared.entry.Entry.TheVariants.{SetDuration}
use Rattle.contest_types.specs.declared.limits.TheConstants.{LONGEST_CONTEST, PENALTY_MINUTES}
use Rattle.contest_types.specs.declared.submission.Submission.{Submission}
use Rattle.contest_types.proofs.PlaceLemmas.{and_left, and_right, both_true, or_left, or_right}
use Rattle.contest_types.proofs.SettingsTest.{is_settings}
use Rattle.contest_types.proofs.ValidParts.{all_four, parts}
use Rattle.contest_rules.specs.ClockChanges.{has_end}
use Rattle.contest_rules.specs.Extensions.{extended, extension, freeze_after, freeze_then, has_frozen, is_come, may_extend, may_freeze, moved_freeze, stands_so}
use Rattle.contest_rules.specs.declared.extensions.Extension.{Extension}
use Rattle.contest_rules.specs.declared.extensions.WantedExtension.{WantedExtension}
use Rattle.contest_rules.specs.declared.rule_refusal.RuleRefusal.TheVariants.{ClockRefused, Malformed}

-- the freeze duration is at most the new duration
grown_within : (freeze old new : ℕ) → nat_le old new ≡ true → nat_le freeze old ≡ true → nat_le (freeze + (new - old)) new ≡ true
grown_within freeze old new l h = grind (arith, nat_tests)

still_within : (freeze old new : ℕ) → nat_le old new ≡ true → nat_le freeze old ≡ true → nat_le freeze new ≡ true
still_within freeze old new l h = grind (arith, nat_tests)

freeze_fits : (given : Option ℕ) (come : Bool) (old new : ℕ) (freeze : Option ℕ) → nat_le old new ≡ true → has_valid_freeze freeze old ≡ true → has_valid_freeze given new ≡ true
    → has_valid_freeze (freeze_then given (moved_freeze come (new - old) freeze)) new ≡ true
freeze_fits (Some given) come old new freeze l was fits = fits
freeze_fits None come old new None l was fits = refl
freeze_fits None true old new (Some freeze) l was fits = grown_within freeze old new l was
freeze_fits None false old new (Some freeze) l was fits = still_within freeze old new l was

-- a submission of a time is frozen by these durations
abbrev frozen_by : Option ℕ → (duration : ℕ) → (freeze : Option ℕ) → (time : ℕ) → Bool
frozen_by start duration freeze time = reached (moment_before (moment_after start duration) freeze) time

one_moment : (start old new freeze : ℕ) → nat_le old new ≡ true → nat_le freeze old ≡ true → (start + new) - (freeze + (new - old)) ≡ (start + old) - freeze
one_moment start old new freeze l h = grind (arith, nat_tests)

later_moment : (start old new freeze time : ℕ) → nat_le old new ≡ true → nat_le ((start + old) - freeze) time ≡ false → nat_le ((start + new) - freeze) time ≡ false
later_moment start old new freeze time l h = grind (arith, nat_tests)

-- once the freeze has come, its moment stays
same_by_growth : (start : Option ℕ) (old new : ℕ) (freeze : Option ℕ) (time : ℕ) → nat_le old new ≡ true → has_valid_freeze freeze old ≡ true
    → frozen_by start new (moved_freeze true (new - old) freeze) time ≡ frozen_by start old freeze time
same_by_growth None old new None time l h = refl
same_by_growth None old new (Some freeze) time l h = refl
same_by_growth (Some start) old new None time l h = refl
same_by_growth (Some start) old new (Some freeze) time l h = ap (λ moment. nat_le moment time) (one_moment start old new freeze l h)

-- and before that it isn't earlier
none_by_moving : (start : Option ℕ) (old new : ℕ) (freeze : Option ℕ) (time : ℕ) → nat_le old new ≡ true
    → frozen_by start old freeze time ≡ false → frozen_by start new (moved_freeze false (new - old) freeze) time ≡ false
none_by_moving None old new None time l h = refl
none_by_moving None old new (Some freeze) time l h = refl
none_by_moving (Some start) old new None time l h = refl
none_by_moving (Some start) old new (Some freeze) time l h = later_moment start old new freeze time l h

module _ (p q : Submission → Bool) where
  abbrev agree : Submission → Bool
  agree u = if p u then q u else not (q u)

  agree_same : (u : Submission) (b : Bool) → p u ≡ b → q u ≡ p u → agree u ≡ true
  agree_same u true is same = rw (same, is) refl
  agree_same u false is same = rw (same, is) refl

  agree_none : (u : Submission) → p u ≡ false → q u ≡ false → agree u ≡ true
  agree_none u is none = rw (is, none) refl

  all_same : ((u : Submission) → q u ≡ p u) → (ss : List Submission) → list_all agree ss ≡ true
  all_same same [] = refl
  all_same same (u ∷ ss) = both_true _ _ (agree_same u (p u) refl (same u)) (all_same same ss)

  all_none : ((u : Submission) → p u ≡ false → q u ≡ false) → (ss : List Submission) → list_any p ss ≡ false → list_all agree ss ≡ true
  all_none after [] none = refl
  all_none after (u ∷ ss) none =
      let here = or_left (p u) _ none in
      both_true _ _ (agree_none u here (after u here)) (all_none after ss (or_right (p u) _ none))

  none_of_both : (ss : List Submission) → list_any p ss ≡ false → list_any q ss ≡ false → list_all agree ss ≡ true
  none_of_both [] none too = refl
  none_of_both (u ∷ ss) none too = both_true _ _ (agree_none u (or_left (p u) _ none) (or_left (q u) _ too)) (none_of_both ss (or_right (p u) _ none) (or_right (q u) _ too))

-- the tests of an extension, one by one
pub record MayExtend (longer ends may : Bool) : Type 0 where
  pub is_longer : longer ≡ true
  pub ends_later : ends ≡ true
  pub freezes : may ≡ true

four_last : (a b c d e : Bool) → (a && b && c && d && e) ≡ true → MayExtend c d e
four_last a b c d e h =
    let four = and_left (a && b && c && d) e h in
    record { is_longer = and_right (a && b) c (and_left (a && b && c) d four); ends_later = and_right (a && b && c) d four; freezes = and_right (a && b && c && d) e h }

module _ (x : ContestState) (now : ℕ) (given : Option ℕ) (new : ℕ) where
  abbrev w : WantedExtension
  w = record { duration = new; freeze = given }

  abbrev h : ContestHead
  h = x.fixed.settings.head

  abbrev s : Setup
  s = x.fixed.settings

  abbrev come : Bool
  come = is_come x.fixed x.submissions now

  abbrev before : Submission → Bool
  before u = is_frozen s x.fixed.marks u.time

  -- the same submissions are frozen, by what the freeze duration is then
  frozen_alike : (o : Option ℕ) (b : Bool) → come ≡ b → nat_le h.duration new ≡ true → has_valid_freeze h.freeze h.duration ≡ true
      → (is_none o || (not b && not (has_frozen (freeze_of (with_duration s new (freeze_then o (moved_freeze b (new - h.duration) h.freeze))) x.fixed.marks) x.submissions now))) ≡ true
      → freezes_the_same s (with_duration s new (freeze_then o (moved_freeze b (new - h.duration) h.freeze))) x.fixed.marks x.submissions ≡ true
  frozen_alike None true is longer was may =
      all_same before (λ u. frozen_by x.fixed.marks.start new (moved_freeze true (new - h.duration) h.freeze) u.time) (λ u. same_by_growth x.fixed.marks.start h.duration new h.freeze u.time longer was) x.submissions
  frozen_alike None false is longer was may =
      all_none before (λ u. frozen_by x.fixed.marks.start new (moved_freeze false (new - h.duration) h.freeze) u.time) (λ u none. none_by_moving x.fixed.marks.start h.duration new h.freeze u.time longer none) x.submissions
      (or_right (reached (freeze_of s x.fixed.marks) now) _ is)
  frozen_alike (Some freeze) true is longer was may = absurd (false≢true may)
  frozen_alike (Some freeze) false is longer was may =
      none_of_both before (λ u. frozen_by x.fixed.marks.start new (Some freeze) u.time) x.submissions
      (or_right (reached (freeze_of s x.fixed.marks) now) _ is)
      (or_right (reached (freeze_of (with_duration s new (Some freeze)) x.fixed.marks) now) _ (not-true _ may))

  -- what is decided may be made
  pub decided_addable : is_valid x ≡ true → nat_lt 0 new ≡ true → nat_le new LONGEST_CONTEST ≡ true → has_valid_freeze given new ≡ true
      → has_end new x.fixed.marks.start ≡ true → may_extend x.fixed x.submissions now w ≡ true
      → is_addable x (SetDuration new (freeze_after x.fixed x.submissions now w)) ≡ true
  decided_addable valid some within fits ends may =
      let head = (is_settings x (parts x valid).settings).head in
      let medals = and_right (nat_lt 0 h.duration && nat_le h.duration LONGEST_CONTEST && has_valid_freeze h.freeze h.duration && nat_le h.penalty_time PENALTY_MINUTES) (has_valid_medals h.medals) head in
      let others = and_left (nat_lt 0 h.duration && nat_le h.duration LONGEST_CONTEST && has_valid_freeze h.freeze h.duration && nat_le h.penalty_time PENALTY_MINUTES) (has_valid_medals h.medals) head in
      let penalty = and_right (nat_lt 0 h.duration && nat_le h.duration LONGEST_CONTEST && has_valid_freeze h.freeze h.duration) (nat_le h.penalty_time PENALTY_MINUTES) others in
      let was = and_right (nat_lt 0 h.duration && nat_le h.duration LONGEST_CONTEST) (has_valid_freeze h.freeze h.duration) (and_left (nat_lt 0 h.duration && nat_le h.duration LONGEST_CONTEST && has_valid_freeze h.freeze h.duration) (nat_le h.penalty_time PENALTY_MINUTES) others) in
      let tests = four_last (is_none x.fixed.marks.finalized) (is_none x.fixed.marks.thaw) (nat_le h.duration new) (not (reached (end_of (extended x.fixed x.submissions now w) x.fixed.marks) now)) (may_freeze x.fixed x.submissions now w) may in
      let new_head : is_valid_head (with_duration s new (freeze_after x.fixed x.submissions now w)).head ≡ true =
      both_true _ _ (both_true _ _ (both_true _ _ (both_true _ _ some within) (freeze_fits given come h.duration new h.freeze tests.is_longer was fits)) penalty) medals in
      all_four _ _ _ _ new_head tests.is_longer ends (frozen_alike given come refl tests.is_longer was tests.freezes)

pub extension_is_addable : (x : ContestState) (now : ℕ) (w : WantedExtension) (e : Extension) → is_valid x ≡ true
    → nat_lt 0 w.duration ≡ true → nat_le w.duration LONGEST_CONTEST ≡ true → has_valid_freeze w.freeze w.duration ≡ true
    → extension x.fixed x.submissions now w ≡ Ok e → e.is_new ≡ true → is_addable x (SetDuration e.duration e.freeze) ≡ true
extension_is_addable x now w e valid some within fits is new =
    let h = x.fixed.settings.head in
    let stood : Extension = record { duration = h.duration; freeze = h.freeze; is_new = false } in
    let made : Extension = record { duration = w.duration; freeze = freeze_after x.fixed x.submissions now w; is_new = true } in
    let go : (stands ends may : Bool) → has_end w.duration x.fixed.marks.start ≡ ends → may_extend x.fixed x.submissions now w ≡ may
    → (if stands then Ok stood else (if not ends then Err Malformed else (if may then Ok made else Err ClockRefused))) ≡ Ok e → is_addable x (SetDuration e.duration e.freeze) ≡ true = elim [
      | true ↦ λ ends may ended mayed k. (
          let same : stood ≡ e = cc k in
          absurd (false≢true (ap (λ (d : Extension). d.is_new) same ∙ new)))
      | false ↦ elim [
        | true ↦ elim [
          | true ↦ λ ended mayed k. (
              let same : made ≡ e = cc k in
              subst (λ (d : Extension). is_addable x (SetDuration d.duration d.freeze) ≡ true) same (decided_addable x now w.freeze w.duration valid some within fits ended mayed))
          | false ↦ λ ended mayed k. absurd (cc k)
        ]
        | false ↦ λ may ended mayed k. absurd (cc k)
      ]
    ] in
    go (stands_so h w) (has_end w.duration x.fixed.marks.start) (may_extend x.fixed x.submissions now w) refl refl is
