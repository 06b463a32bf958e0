-- The clock goes by how many submissions there are, by their times, and by which have a release: not by their files.
use Rattle.std.proofs.Common.{◌≡◌, ◌∙◌, ℕ, ◌-◌, Bool, true, false, List, [], ◌∷◌, Option, Result, Ok, Err, refl, ap, map}
use Rattle.std.specs.Prelude.{◌&&◌, ◌||◌, not, nat_le, is_none, if◌then◌else◌}
use Rattle.std.specs.List.{list_any}
use Rattle.std.proofs.lemmas.List.{length-map}
use Rattle.std.proofs.lemmas.List.Folds.{list_all-map}
use Rattle.contest_types.specs.Clock.{end_of, freeze_of, reached}
use Rattle.contest_types.specs.Loads.{without_file}
use Rattle.contest_types.specs.State.{ContestState, FixedPart, with_duration}
use Rattle.contest_lists.specs.Lists.{loaded}
use Rattle.contest_types.specs.ValidRejudgings.{is_released}
use Rattle.contest_types.specs.declared.clarification.Clarification.{Clarification}
use Rattle.contest_types.specs.declared.rejudging.Rejudging.{Rejudging}
use Rattle.contest_types.specs.declared.submission.Release.{Release}
use Rattle.contest_types.specs.declared.submission.Submission.{Submission}
use Rattle.contest_rules.specs.ClockChanges.{final_change, finalize, has_end, if_may, may_close, set_clock}
use Rattle.contest_rules.specs.Extensions.{extension, freeze_then, has_frozen, moved_freeze, stands_so}
use Rattle.contest_rules.specs.declared.extensions.Extension.{Extension}
use Rattle.contest_rules.specs.declared.extensions.WantedExtension.{WantedExtension}
use Rattle.contest_rules.specs.declared.rule_refusal.RuleRefusal.{RuleRefusal}
use Rattle.contest_rules.specs.declared.rule_refusal.RuleRefusal.TheVariants.{ClockRefused, Malformed}
use Rattle.contest_rules.specs.declared.clock_changes.WantedClock.{WantedClock}
use Rattle.contest_rules.specs.declared.clock_changes.WantedClock.TheVariants.{Start, Thaw}

pub set_by_loaded : (f : FixedPart) (ss : List Submission) (cs : List Clarification) (now : ℕ) (w : WantedClock) → set_clock f (map without_file ss) cs now w ≡ set_clock f ss cs now w
set_by_loaded f ss cs now (Start start) = rw (length-map ss without_file) refl
set_by_loaded f ss cs now (Thaw thaw) = refl

pub final_by_loaded : (f : FixedPart) (ss : List Submission) (vs : List Release) (rs : List Rejudging) (now : ℕ) → finalize f (map without_file ss) vs rs now ≡ finalize f ss vs rs now
final_by_loaded f ss vs rs now =
    ap (λ b. if_may (may_close f rs now && b) (final_change f.marks now)) (list_all-map (λ (s : Submission). is_released s.team s.number vs) without_file ss)

-- the same of what the lists lend
pub set_over : (x l : ContestState) (now : ℕ) (w : WantedClock) {f : FixedPart} {ss : List Submission} {cs : List Clarification} → l ≡ loaded x → f ≡ l.fixed → ss ≡ l.submissions → cs ≡ l.clarifications
    → set_clock f ss cs now w ≡ set_clock x.fixed x.submissions x.clarifications now w
set_over x l now w are fixed submissions clarifications =
    (λ i. set_clock (fixed i) (submissions i) (clarifications i) now w)
    ∙ (ap (λ (y : ContestState). set_clock y.fixed y.submissions y.clarifications now w) are ∙ set_by_loaded x.fixed x.submissions x.clarifications now w)

pub final_over : (x l : ContestState) (now : ℕ) {f : FixedPart} {ss : List Submission} {rs : List Rejudging} → l ≡ loaded x → f ≡ l.fixed → ss ≡ l.submissions → rs ≡ l.rejudgings
    → finalize f ss l.releases rs now ≡ finalize x.fixed x.submissions x.releases x.rejudgings now
final_over x l now are fixed submissions rejudgings =
    (λ i. finalize (fixed i) (submissions i) l.releases (rejudgings i) now)
    ∙ (ap (λ (y : ContestState). finalize y.fixed y.submissions y.releases y.rejudgings now) are ∙ final_by_loaded x.fixed x.submissions x.releases x.rejudgings now)

-- an extension goes by the times of submissions
frozen_by_loaded : (moment : Option ℕ) (ss : List Submission) (now : ℕ) → has_frozen moment (map without_file ss) now ≡ has_frozen moment ss now
frozen_by_loaded moment ss now = ap (λ b. reached moment now || b) (any_loaded ss)
  where
    any_loaded : (us : List Submission) → list_any (λ (u : Submission). reached moment u.time) (map without_file us) ≡ list_any (λ (u : Submission). reached moment u.time) us
    any_loaded [] = refl
    any_loaded (u ∷ us) = ap (λ b. reached moment u.time || b) (any_loaded us)

-- an extension, by whether the freeze has come and whether a given one has
abbrev by_freezes : FixedPart → (now : ℕ) → WantedExtension → (come : Bool) → ((moment : Option ℕ) → Bool) → Result Extension RuleRefusal
by_freezes f now w come has_come =
    let h = f.settings.head in
    let freeze = freeze_then w.freeze (moved_freeze come (w.duration - h.duration) h.freeze) in
    let t = with_duration f.settings w.duration freeze in
    if stands_so h w then Ok (record { duration = h.duration; freeze = h.freeze; is_new = false })
    else (if not (has_end w.duration f.marks.start) then Err Malformed
    else (if is_none f.marks.finalized && is_none f.marks.thaw && nat_le h.duration w.duration && not (reached (end_of t f.marks) now) && (is_none w.freeze || (not come && not (has_come (freeze_of t f.marks))))
    then Ok (record { duration = w.duration; freeze = freeze; is_new = true }) else Err ClockRefused))

pub extended_by_loaded : (f : FixedPart) (ss : List Submission) (now : ℕ) (w : WantedExtension) → extension f (map without_file ss) now w ≡ extension f ss now w
extended_by_loaded f ss now w =
    (λ i. by_freezes f now w (frozen_by_loaded (freeze_of f.settings f.marks) ss now i) (λ moment. frozen_by_loaded moment ss now i))

-- the same of what the lists lend
pub extended_over : (x l : ContestState) (now : ℕ) (w : WantedExtension) {f : FixedPart} {ss : List Submission} → l ≡ loaded x → f ≡ l.fixed → ss ≡ l.submissions
    → extension f ss now w ≡ extension x.fixed x.submissions now w
extended_over x l now w are fixed submissions =
    (λ i. extension (fixed i) (submissions i) now w)
    ∙ (ap (λ (y : ContestState). extension y.fixed y.submissions now w) are ∙ extended_by_loaded x.fixed x.submissions now w)
