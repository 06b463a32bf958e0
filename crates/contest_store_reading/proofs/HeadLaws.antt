-- The head and the marks of a contest are read of its row.
use Rattle.std.proofs.Common.{◌≡◌, ℕ, ◌≤◌, true, Option, Some, None, refl, arith}
use Rattle.std.specs.Prelude.{nat_le, nat_lt, IfSome, ◌^◌, ◌&&◌}
use Rattle.std.proofs.lemmas.Bool.Decides.{nat_tests}
use Rattle.std.proofs.lemmas.Bool.{le-leb}
use Rattle.sqlite.specs.Values.{or_null}
use Rattle.contest_types.specs.Setup.{is_valid_head, has_valid_freeze, has_valid_medals}
use Rattle.contest_types.specs.State.{FixedPart}
use Rattle.contest_types.specs.declared.contest.ContestHead.{ContestHead}
use Rattle.contest_types.specs.declared.limits.TheConstants.{LAST_MOMENT, LONGEST_CONTEST, PENALTY_MINUTES, MEDAL_PLACES}
use Rattle.contest_types.proofs.PlaceLemmas.{and_left, and_right}
use Rattle.contest_store_rows.specs.Cells.{number}
use Rattle.contest_store_rows.specs.FixedRows.{contest_row}
use Rattle.contest_store_rows.proofs.ClarificationLaws.{flag_back}
use Rattle.contest_store_reading.specs.Heads.{head_in, marks_in, time_if_any}
use Rattle.contest_store_reading.specs.Laws.{IsWritableItem, IsWritableMarks}

time_back : (t : Option ℕ) → IfSome t (λ n. n ≤ LAST_MOMENT) → time_if_any (or_null number t) ≡ Some t
time_back None w = refl
time_back (Some n) w = rw (le-leb n LAST_MOMENT w) refl

pub marks_read : (f : FixedPart) → IsWritableMarks f.marks → marks_in (contest_row f) ≡ Some f.marks
marks_read f w = rw (time_back f.marks.start w.start, time_back f.marks.thaw w.thaw, time_back f.marks.finalized w.finalized) refl

-- the numbers of a valid head fit their cells
record Fits (h : ContestHead) : Type 0 where
  pub duration : h.duration ≤ LAST_MOMENT
  pub freeze : IfSome h.freeze (λ n. n ≤ LAST_MOMENT)
  pub penalty : nat_lt h.penalty_time (2 ^ 32) ≡ true
  pub gold : nat_lt h.medals.gold (2 ^ 32) ≡ true
  pub silver : nat_lt h.medals.silver (2 ^ 32) ≡ true
  pub bronze : nat_lt h.medals.bronze (2 ^ 32) ≡ true

freeze_fits : (freeze : Option ℕ) (duration : ℕ) → has_valid_freeze freeze duration ≡ true → duration ≤ LAST_MOMENT → IfSome freeze (λ n. n ≤ LAST_MOMENT)
freeze_fits None duration v l = tt
freeze_fits (Some n) duration v l = grind (arith, nat_tests, v, l)

few : (n : ℕ) → nat_le n MEDAL_PLACES ≡ true → nat_lt n (2 ^ 32) ≡ true
few n l = grind (arith, nat_tests, l)

short : (n : ℕ) → nat_le n PENALTY_MINUTES ≡ true → nat_lt n (2 ^ 32) ≡ true
short n l = grind (arith, nat_tests, l)

no_longer : (n : ℕ) → nat_le n LONGEST_CONTEST ≡ true → n ≤ LAST_MOMENT
no_longer n l = grind (arith, nat_tests, l)

fits : (h : ContestHead) → is_valid_head h ≡ true → Fits h
fits h v =
    let medals = and_right (nat_lt 0 h.duration && nat_le h.duration LONGEST_CONTEST && has_valid_freeze h.freeze h.duration && nat_le h.penalty_time PENALTY_MINUTES) _ v in
    let v3 = and_left _ (has_valid_medals h.medals) v in
    let v2 = and_left _ (nat_le h.penalty_time PENALTY_MINUTES) v3 in
    let duration = no_longer h.duration (and_right (nat_lt 0 h.duration) _ (and_left _ (has_valid_freeze h.freeze h.duration) v2)) in
    let two = and_left _ (nat_le h.medals.bronze MEDAL_PLACES) medals in
    record {
      duration = duration;
      freeze = freeze_fits h.freeze h.duration (and_right (nat_lt 0 h.duration && nat_le h.duration LONGEST_CONTEST) _ v2) duration;
      penalty = short h.penalty_time (and_right (nat_lt 0 h.duration && nat_le h.duration LONGEST_CONTEST && has_valid_freeze h.freeze h.duration) _ v3);
      gold = few h.medals.gold (and_left _ (nat_le h.medals.silver MEDAL_PLACES) two);
      silver = few h.medals.silver (and_right (nat_le h.medals.gold MEDAL_PLACES) _ two);
      bronze = few h.medals.bronze (and_right (nat_le h.medals.gold MEDAL_PLACES && nat_le h.medals.silver MEDAL_PLACES) _ medals);
    }

pub head_read : (f : FixedPart) → is_valid_head f.settings.head ≡ true → IsWritableItem f.settings.head.id f.settings.head.name → head_in (contest_row f) ≡ Some f.settings.head
head_read f v w =
    let h = f.settings.head in
    let b = fits h v in
    rw (b.gold, b.silver, b.bronze, b.penalty, le-leb h.duration LAST_MOMENT b.duration, time_back h.freeze b.freeze, w.id, w.name, flag_back h.verification) refl
