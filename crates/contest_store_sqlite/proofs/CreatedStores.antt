-- What contracts see of a store that was created.
use Rattle.std.proofs.Common.{◌≡◌, ◌∙◌, ◌⊎◌, inl, inr, ℕ, Bool, false, Some, IsTrue, ap, refl, subst, sym}
use Rattle.sqlite.specs.State.{HasCleanDisk, State}
use Rattle.contest_types.specs.State.{ContestState, new_contest}
use Rattle.contest_types.specs.declared.contest.Contest.{Contest}
use Rattle.contest_types.specs.declared.contest.ContestHead.{ContestHead}
use Rattle.contest_types.specs.declared.refusal.Refusal.{Refusal}
use Rattle.contest_types.specs.declared.refusal.Refusal.TheVariants as refusal
use Rattle.contest_types.specs.declared.refusal.Refusal.TheVariants.{KeyReused}
use Rattle.contest_store.specs.Keeping.{Shows}
use Rattle.contest_lists.specs.Lists.{loaded}
use Rattle.contest_store.specs.StoreErrors.{refusal_of}
use Rattle.contest_store.specs.declared.store_error.StoreError.{StoreError}
use Rattle.contest_store.specs.declared.store_error.StoreError.TheVariants.{Fault, Memory}
use Rattle.contest_store_tables.specs.Connected.{IsBare}
use Rattle.contest_store_tables.specs.declared.counts.Counts.{Counts}
use Rattle.contest_store_sqlite.specs.Contests.{contest_of, HoldsContests}
use Rattle.contest_store_sqlite.specs.Creation.{Created, IsMade, IsOfOpen, IsReadEqual, KeepsLists, LeavesWhole, StoodEqual, StoodOther, open_refusal}
use Rattle.contest_store_sqlite.specs.declared.open_error.OpenError.{OpenError}
use Rattle.contest_store_sqlite.specs.declared.open_error.OpenError.TheVariants as open_error
use Rattle.contest_store_sqlite.specs.Keeping.{kept_of, StaysCommitted, StaysHeld, StaysKept}
use Rattle.contest_store_sqlite.specs.Opening.{HasDesk, ShowsValid}
use Rattle.contest_store_sqlite.proofs.ShownContests.{both_are, contest_is, has_desk, keeps, shows}

-- the contest was made, or stood with the head
abbrev pub IsEither : (x : ContestState) → ContestHead → (old new : State) → (lists : ContestState) → Type 0
IsEither x head old new lists = IsMade x old new lists ⊎ IsReadEqual head old new lists

-- in either way the tables show the contest of the lists, as it was committed
record ShowsTheirs (new : State) (lists : ContestState) : Type 0 where
  contest : ContestState
  held : lists ≡ loaded contest
  holds : HoldsContests new contest contest

shows_theirs : (x : ContestState) (head : ContestHead) (old new : State) (lists : ContestState) → IsEither x head old new lists → ShowsTheirs new lists
shows_theirs x head old new lists (inl made) = record { contest = x; held = made.held; holds = made.holds }
shows_theirs x head old new lists (inr equal) = record { contest = equal.read.contest; held = equal.read.held; holds = equal.read.holds }

stays_held : (new : State) (lists : ContestState) → ShowsTheirs new lists → IsTrue new.is_open × (lists ≡ loaded (contest_of new))
stays_held new lists t = (t.holds.holds.is_open, t.held ∙ ap loaded (sym (contest_is new t.contest t.contest t.holds)))

module _ (x : ContestState) (head : ContestHead) (old new : State) (lists : ContestState) where
  pub created_whole : (HasCleanDisk new → IsEither x head old new lists) → StaysKept new × StaysHeld new (Some lists) × StaysCommitted new false
  created_whole either = (
    λ clean. (let t = shows_theirs x head old new lists (either clean) in keeps new t.contest t.contest t.holds),
    λ clean. stays_held new lists (shows_theirs x head old new lists (either clean)),
    λ clean none is. (let t = shows_theirs x head old new lists (either clean) in both_are new t.contest t.holds),
  )

  module _ (c : Contest) (counts : Counts) (commits : ℕ) (is_loaded : Bool) (clean : HasCleanDisk new) where
    pub created : x ≡ new_contest c → IsEither x head old new lists → LeavesWhole x old new → IsBare old
        → Created c old (kept_of new counts commits is_loaded)
    created is (inl made) survives bare = record {
      shows = subst (λ y. Shows (kept_of new counts commits is_loaded) y y) is (shows new x x made.holds counts commits is_loaded);
      crash = λ d left. elim (survives.crash clean left.0 left.1) [ inl before ↦ inl (left.0, before, left.2) | inr it ↦ inr (sym left.2 ∙ it ∙ ap Some is) ];
    }
    created is (inr equal) survives bare = absurd (equal.stood bare)

    pub stood_equal : head ≡ c.head → IsEither x head old new lists → ¬ IsBare old → StoodEqual c old (kept_of new counts commits is_loaded)
    stood_equal is (inl made) other = absurd (other made.bare)
    stood_equal is (inr equal) other =
        let read = equal.read in
        record {
          opened = record {
            contest = read.contest;
            found = read.found;
            shows = shows new read.contest read.contest read.holds counts commits is_loaded;
            crash = λ c left. elim (equal.survives.crash clean left.0 left.1) [ inl before ↦ inl (left.0, before, left.2) | inr filled ↦ inr (filled.0, filled.1, sym left.2 ∙ filled.2) ];
          };
          equal = equal.equal ∙ is;
        }

-- a store that was created shows a valid contest
pub either_valid : (x : ContestState) (head : ContestHead) (old new : State) (lists : ContestState) (counts : Counts) (commits : ℕ) (is_loaded : Bool) → IsEither x head old new lists → ShowsValid (kept_of new counts commits is_loaded)
either_valid x head old new lists counts commits is_loaded either =
    let t = shows_theirs x head old new lists either in
    record { contest = t.contest; shows = shows new t.contest t.contest t.holds counts commits is_loaded; valid = t.holds.sound.valid }

-- whose tables are those of a desk
pub either_desk : (x : ContestState) (head : ContestHead) (old new : State) (lists : ContestState) → IsEither x head old new lists → HasDesk new
either_desk x head old new lists either = let t = shows_theirs x head old new lists either in has_desk new t.contest t.contest t.holds

-- what the store failed with isn't told as another contest
not_reused : (e : OpenError) → open_refusal e ≡ KeyReused → ⊥
not_reused (open_error.Store Fault) is = cc
not_reused (open_error.Store Memory) is = cc
not_reused open_error.OldSchema is = cc

-- nor as a contest that can't be set up
not_malformed : (e : OpenError) → open_refusal e ≡ refusal.Malformed → ⊥
not_malformed (open_error.Store Fault) is = cc
not_malformed (open_error.Store Memory) is = cc
not_malformed open_error.OldSchema is = cc

-- nor as the first schema
not_old : (e : StoreError) → refusal_of e ≡ refusal.OldSchema → ⊥
not_old Fault is = cc
not_old Memory is = cc

-- what is refused as the first schema was found to be that
pub is_old : (e : OpenError) → open_refusal e ≡ refusal.OldSchema → e ≡ open_error.OldSchema
is_old (open_error.Store e) is = absurd (not_old e is)
is_old open_error.OldSchema is = refl

-- what stood wasn't changed where another contest stood, and nothing was touched where the given one can't be set up
pub keeps_lists : (old new : State) (given : Refusal) → IsOfOpen given ⊎ (given ≡ KeyReused) → (given ≡ KeyReused → KeepsLists old new)
    → (given ≡ KeyReused) ⊎ (given ≡ refusal.Malformed) → KeepsLists old new
keeps_lists old new given kind stood (inl reused) = stood reused
keeps_lists old new given (inl failed) stood (inr malformed) = absurd (not_malformed failed.0 (sym failed.1 ∙ malformed))
keeps_lists old new given (inr reused) stood (inr malformed) = stood reused

-- what is told of a contest that wasn't made
pub told : (given : Refusal) → IsOfOpen given ⊎ (given ≡ KeyReused) → (given ≡ refusal.Malformed) ⊎ ((given ≡ KeyReused) ⊎ IsOfOpen given)
told given (inl failed) = inr (inr failed)
told given (inr reused) = inr (inl reused)

-- what isn't set up is malformed, or wants memory
pub not_set_up : (given : Refusal) (P : Type 0) → (given ≡ refusal.Memory) ⊎ ((given ≡ refusal.Malformed) × P)
    → (given ≡ refusal.Malformed) ⊎ ((given ≡ KeyReused) ⊎ IsOfOpen given)
not_set_up given P (inl is) = inr (inr (open_error.Store Memory, is))
not_set_up given P (inr is) = inl is.0

pub stood_other : (head given : ContestHead) (old new : State) (refusal : Refusal) → head ≡ given
    → IsOfOpen refusal ⊎ ((refusal ≡ KeyReused) × StoodOther head old new) → refusal ≡ KeyReused → StoodOther given old new
stood_other head given old new refusal same (inl failed) is = absurd (not_reused failed.0 (sym failed.1 ∙ is))
stood_other head given old new refusal same (inr other) is = subst (λ h. StoodOther h old new) same other.1
