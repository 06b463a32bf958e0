-- What is seen of a submission's verdicts, by four tests: whether it is seen, whether all of its team
-- is known, whether it is thawed, and whether it is frozen.
use Rattle.std.proofs.Common.{◌≡◌, ◌⊎◌, ℕ, Bool, true, false, Option, Some, None, refl, sym, inl, inr}
use Rattle.std.specs.Prelude.{◌||◌, if◌then◌else◌}
use Rattle.std.specs.Option.{option_map}
use Rattle.std.proofs.lemmas.Bool.{false≢true}
use Rattle.contest_types.specs.Clock.{is_frozen, is_thawed}
use Rattle.contest_types.specs.Masks.{knows_all_of, verdict_under}
use Rattle.contest_types.specs.State.{ContestState}
use Rattle.contest_types.specs.Sight.{sees_submission, last_judgement, seen_judgement}
use Rattle.contest_types.specs.declared.audience.Audience.{Audience}
use Rattle.contest_types.specs.declared.sight.Mask.TheVariants.{Full, Held}
use Rattle.contest_types.specs.declared.submission.Submission.{Submission}

abbrev pub shown : {V : Type 0} → (seen known thawed frozen : Bool) → Option V → Option V
shown seen known thawed frozen last = if seen then (if known || thawed then last else (if frozen then None else last)) else None

-- this is what is seen of them
pub is_shown : (a : Audience) (now : ℕ) (x : ContestState) (s : Submission)
    → seen_judgement a now x s ≡ shown (sees_submission a x s) (knows_all_of a s.team) (is_thawed x.fixed.marks now) (is_frozen x.fixed.settings x.fixed.marks s.time) (last_judgement x s)
is_shown a now x s =
    let under : (b : Bool) → verdict_under (if b then Full else Held) x.fixed.settings x.fixed.marks s.time (last_judgement x s) ≡ (if b then last_judgement x s else (if is_frozen x.fixed.settings x.fixed.marks s.time then None else last_judgement x s)) =
    elim [ true ↦ refl | false ↦ refl ] in
    rw (under (knows_all_of a s.team || is_thawed x.fixed.marks now)) refl

-- who sees no less and knows no less is shown no less
pub shown_more : {V : Type 0} (seen seen' known known' thawed frozen : Bool) (last : Option V) (v : V) → (seen ≡ true → seen' ≡ true) → (known ≡ true → known' ≡ true)
    → shown seen known thawed frozen last ≡ Some v → shown seen' known' thawed frozen last ≡ Some v
shown_more false seen' known known' thawed frozen last v s k h = absurd (cc h)
shown_more true seen' true known' thawed frozen last v s k h = rw (s refl, k refl) h
shown_more true seen' false true true frozen last v s k h = rw (s refl) h
shown_more true seen' false false true frozen last v s k h = rw (s refl) h
shown_more true seen' false known' false true last v s k h = absurd (cc h)
shown_more true seen' false true false false last v s k h = rw (s refl) h
shown_more true seen' false false false false last v s k h = rw (s refl) h

-- the thaw takes nothing away
pub thaw_adds : {V : Type 0} (seen known thawed frozen : Bool) (last : Option V) (v : V) → shown seen known thawed frozen last ≡ Some v → shown seen known true frozen last ≡ Some v
thaw_adds false known thawed frozen last v h = absurd (cc h)
thaw_adds true true thawed frozen last v h = h
thaw_adds true false true frozen last v h = h
thaw_adds true false false true last v h = absurd (cc h)
thaw_adds true false false false last v h = h

-- where nothing is held back, whoever sees the submission is shown the last
pub shown_whole : {V : Type 0} (seen known thawed frozen : Bool) (last : Option V) → seen ≡ true → (thawed ≡ true) ⊎ (frozen ≡ false) → shown seen known thawed frozen last ≡ last
shown_whole false known thawed frozen last s h = absurd (false≢true s)
shown_whole true true thawed frozen last s h = refl
shown_whole true false true frozen last s h = refl
shown_whole true false false true last s h = elim h [ inl e ↦ absurd (false≢true e) | inr e ↦ absurd (false≢true (sym e)) ]
shown_whole true false false false last s h = refl

-- a function of what is shown is shown
pub shown_of : {V W : Type 0} (f : V → W) (seen known thawed frozen : Bool) (last : Option V) → option_map f (shown seen known thawed frozen last) ≡ shown seen known thawed frozen (option_map f last)
shown_of f false known thawed frozen last = refl
shown_of f true true thawed frozen last = refl
shown_of f true false true frozen last = refl
shown_of f true false false true last = refl
shown_of f true false false false last = refl
