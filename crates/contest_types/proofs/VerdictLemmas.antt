-- An imported verdict that is added may be added.
use Rattle.std.proofs.Common.{◌≡◌, ℕ, ◌+◌, Bool, true, false, cond, ltb, leb, List, [], ◌∷◌, length, Option, Some, None, refl, ◌∙◌, arith}
use Rattle.std.specs.Prelude.{◌==◌, ◌&&◌, ◌||◌, not, nat_le, nat_lt, find, count_by, Ok, Err, if◌then◌else◌}
use Rattle.std.proofs.lemmas.Bool.Decides.{nat_tests}
use Rattle.std.proofs.lemmas.Bool.{or_right}
use Rattle.contest_types.specs.State.{ContestState, of_proposal, proposals_for, NewProposal}
use Rattle.contest_types.specs.ValidSubmissions.{is_valid_proposal, is_imported}
use Rattle.contest_types.specs.ValidRejudgings.{has_release}
use Rattle.contest_types.specs.VerdictAdditions.{imported_for, verdict_addition}
use Rattle.contest_types.specs.Addable.{is_addable}
use Rattle.contest_types.specs.declared.limits.TheConstants.{PROPOSALS}
use Rattle.contest_types.specs.declared.proposal.Proposal.{Proposal}
use Rattle.contest_types.specs.declared.refusal.Cause.TheVariants.{UnknownReference, KeyReused, TableFull, AlreadyReleased}
use Rattle.contest_types.proofs.InOrderLemmas.{count_more}

none_counted : (ps : List Proposal) → find is_imported ps ≡ None → count_by is_imported ps ≡ 0
none_counted [] h = refl
none_counted (q ∷ ps) h =
    let go : (b : Bool) → (if b then Some q else find is_imported ps) ≡ None → cond b 1 0 + count_by is_imported ps ≡ 0 =
    elim [ true ↦ λ e. absurd (cc e) | false ↦ λ e. (let rest = none_counted ps e in omega (arith, rest)) ] in
    count_more is_imported q ps ∙ go (is_imported q) h

-- what was tested of a verdict that is added
record IsTaken (valid : Bool) (earlier : Option Proposal) (full : Bool) : Type 0 where
  valid_is : valid ≡ true
  none : earlier ≡ None
  room : full ≡ false

pub same_or_other : (b : Bool) → (if b then Ok false else Err KeyReused) ≡ Ok true → ⊥
same_or_other true h = cc h
same_or_other false h = cc h

taken : (p : Proposal) (valid : Bool) (earlier : Option Proposal) (full released : Bool)
    → (if not valid then Err UnknownReference else (elim earlier [
      | (Some q) ↦ if q.verdict == p.verdict then Ok false else Err KeyReused
      | None ↦ if full then Err TableFull else (if released then Err AlreadyReleased else Ok true)
    ])) ≡ Ok true → IsTaken valid earlier full
taken p false earlier full released h = absurd (cc h)
taken p true (Some q) full released h = absurd (same_or_other (q.verdict == p.verdict) h)
taken p true None true released h = absurd (cc h)
taken p true None false released h = record { valid_is = refl; none = refl; room = refl }

has_room : (m n : ℕ) → leb m n ≡ false → ltb n m ≡ true
has_room m n h = grind (arith, nat_tests)

both : (b c d : Bool) → b ≡ true → c ≡ true → d ≡ true → (b && (c && d)) ≡ true
both b c d i j k = rw (i, j, k) refl

pub imported_is_addable : (x : ContestState) (p : Proposal) → verdict_addition x p ≡ Ok true → is_addable x (NewProposal p) ≡ true
imported_is_addable x p h =
    let ps = proposals_for p.team p.number x.proposals in
    let t = taken p (is_valid_proposal x p) (imported_for x (of_proposal p)) (nat_le PROPOSALS (length ps)) (has_release x p.team p.number) h in
    let none : (count_by is_imported ps == 0) ≡ true = rw (none_counted ps t.none) refl in
    both (is_valid_proposal x p) (nat_lt (length ps) PROPOSALS) (not (is_imported p) || (count_by is_imported ps == 0)) t.valid_is (has_room PROPOSALS (length ps) t.room) (or_right (not (is_imported p)) (count_by is_imported ps == 0) none)
