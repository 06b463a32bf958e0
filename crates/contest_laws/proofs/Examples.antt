-- Worked examples: the laws say something of these contests.
use Rattle.std.proofs.Common.{◌≡◌, ◌⊎◌, ◌+◌, ◌^◌, ◌≤◌, ◌++◌, sym, subst, inr, [], ◌∷◌, true, false, Some, None, refl, inl}
use Rattle.std.specs.Prelude.{codes}
use Rattle.std.specs.Fmt.{decimal, digits}
use Rattle.std.specs.Str.{bytes_eq}
use Rattle.std.proofs.lemmas.Bool.{leb-true, ltb-true}
use Rattle.serde_json.specs.Data.{Data}
use Rattle.contest_types.specs.Order.{Has}
use Rattle.std.proofs.lemmas.Slice.Eq.{bytes_eq-Decides}
use Rattle.contest_types.specs.Accounts.{account_named}
use Rattle.contest_types.specs.Sight.{judgement_of, seen_judgement}
use Rattle.contest_types.specs.State.{ContestState, add}
use Rattle.contest_types.specs.declared.account.Role.TheVariants as role
use Rattle.contest_types.specs.Valid.{is_valid}
use Rattle.contest_types.specs.declared.audience.Audience.TheVariants as audience
use Rattle.contest_types.specs.declared.entry.Entry.TheVariants.{NewRelease}
use Rattle.contest_types.specs.declared.import_kind.ImportKind.TheVariants as kind
use Rattle.contest_types.specs.declared.import_kind.FixedKind.TheVariants as fixed
use Rattle.contest_types.specs.declared.objects.Team.{Team}
use Rattle.contest_types.specs.declared.rejudging.Rejudging.{Rejudging}
use Rattle.contest_types.specs.declared.rejudging.RejudgingState.TheVariants.{Applied}
use Rattle.contest_types.proofs.ExampleContest.{account_for, hours, minutes, rejudged, released, team_named, thawed_at, wrong}
use Rattle.contest_types.proofs.ExampleTalk.{base, frozen_release, frozen_submission, other_release, other_submission}
use Rattle.contest_score.specs.BoardLaws.{teams_of}
use Rattle.contest_score.specs.Contest.{board_for}
use Rattle.contest_types.specs.VisibleIds.{judgement_id, submission_id}
use Rattle.contest_objects.specs.JudgementObjects.{judgement_data}
use Rattle.contest_view.specs.Judgements.{judgement_found}
use Rattle.contest_view.specs.Reads.{submission_found}
use Rattle.contest_view.specs.Rejudgings.{named_rejudging}
use Rattle.contest_desk.specs.Items.{item_step}
use Rattle.contest_desk.specs.Runs.{IsRun}
use Rattle.contest_desk.specs.declared.item.Item.{Item}
use Rattle.contest_desk.specs.declared.item.Item.TheVariants as item
use Rattle.contest_desk.proofs.UnseenLemmas.{frozen_where}
use Rattle.contest_laws.specs.Ids.{IsHeldAgain, IsRevised}
use Rattle.contest_laws.specs.Standing.{moment_of}
use Rattle.contest_laws.proofs.AdminLaws.{accounts_stay_without_admins}
use Rattle.contest_laws.proofs.IdLaws.{submission_ids_stay}
use Rattle.contest_laws.proofs.JudgementIdLaws.{judgement_ids_stay, revised_judgements_go, served_judgements_stay}
use Rattle.contest_laws.proofs.ServedJudgements.{judgement_served}
use Rattle.contest_laws.proofs.StandingLaws.{closed_rejudgings_stay, come_thaw_stays, held_releases_move_no_board}

-- the first and the third team are in a group
abbrev in_north : Team → Team
in_north t = record t { groups = 0 ∷ [] }

abbrev grouped : ContestState
grouped = record base {
  fixed = record base.fixed {
    settings = record base.fixed.settings {
      groups = record { id = codes "north"; name = codes "North" } ∷ [];
      teams =
          in_north (team_named (codes "t1") (codes "Alpha") false) ∷ team_named (codes "t2") (codes "Beta") false
          ∷ in_north (team_named (codes "t3") (codes "Gamma") false) ∷ team_named (codes "t9") (codes "Staff") true ∷ [];
    };
  };
}

whole_board : teams_of (board_for audience.Public (hours 3) None grouped) ≡ 1 ∷ 0 ∷ 2 ∷ []
whole_board = refl

board_of_north : teams_of (board_for audience.Public (hours 3) (Some 0) grouped) ≡ 0 ∷ 2 ∷ []
board_of_north = refl

-- the verdict on the second team's submission in the freeze moves no board of the public, but that of the jury
moves_none : board_for audience.Public (hours 5) None (add base (NewRelease frozen_release)) ≡ board_for audience.Public (hours 5) None base
moves_none = held_releases_move_no_board audience.Public (hours 5) None base frozen_release (λ e. cc e) refl refl (frozen_where base frozen_release refl)

-- a rejudging that was applied
abbrev closed : Rejudging
closed = rejudged 1 1 wrong Applied

abbrev after_one : ContestState
after_one = record base { releases = base.releases ++ released 1 1 2 wrong (hours 4 + minutes 20) ∷ []; rejudgings = closed ∷ [] }

is_after_one_valid : is_valid after_one ≡ true
is_after_one_valid = refl

is_named : named_rejudging (decimal 1) after_one.rejudgings ≡ Some (1, closed)
is_named = (let own : bytes_eq (decimal 1) (decimal 1) ≡ true = (bytes_eq-Decides (decimal 1) (decimal 1)).1 refl in rw own refl)

-- accounts are imported later, and then nothing is left to import
abbrev pub late : Item
late = item.Import (record { now = hours 6; kind = kind.Fixed fixed.AccountsCsv; file = codes "id,role,team_id,token" })

runs_once : (x : ContestState) → IsRun x (late ∷ []) ((item_step x late).0 ∷ []) (item_step x late).1
runs_once x = ((item_step x late).1, inl (refl, refl), refl)

still_closed : named_rejudging (decimal 1) (item_step after_one late).1.rejudgings ≡ Some (1, closed)
still_closed = closed_rejudgings_stay after_one (item_step after_one late).1 (late ∷ []) ((item_step after_one late).0 ∷ []) refl (runs_once after_one) (decimal 1) 1 closed is_named refl

-- an hour after its end it is thawed, and the accounts come at that moment
abbrev thawed : ContestState
thawed = thawed_at base (hours 6)

still_thawed : (item_step thawed late).1.fixed.marks.thaw ≡ Some (hours 6)
still_thawed = come_thaw_stays thawed (item_step thawed late).1 (late ∷ []) ((item_step thawed late).0 ∷ []) (hours 6) refl refl not_before (runs_once thawed)
  where
    not_before : (i : Item) → Has (late ∷ []) i → hours 6 ≤ moment_of i
    not_before i (inl is) = subst (λ j. hours 6 ≤ moment_of j) (sym is) (leb-true (hours 6) (hours 6) refl)
    not_before i (inr none) = absurd none

-- the second team's submission is found by its id as before, by the public too
found_still : submission_found audience.Public (hours 6) (item_step base late).1 (submission_id 1 1) ≡ submission_found audience.Public (hours 3) base (submission_id 1 1)
found_still = submission_ids_stay audience.Public base (item_step base late).1 (late ∷ []) ((item_step base late).0 ∷ []) (hours 3) (hours 6) refl (runs_once base) other_submission (inr (inl refl))

-- its judgement is served to the public, and served still
is_served : judgement_found audience.Public (hours 5) base (judgement_id 1 1 1) ≡ Some (judgement_data base.fixed 1 1 (judgement_of other_release))
is_served = judgement_served audience.Public (hours 5) base other_submission (judgement_of other_release) refl (inr (inl refl)) refl

served_still :
    (judgement_found audience.Public (hours 6) (item_step base late).1 (judgement_id 1 1 1) ≡ Some (judgement_data base.fixed 1 1 (judgement_of other_release)))
    ⊎ (IsRevised base (item_step base late).1 (judgement_id 1 1 1) ⊎ IsHeldAgain audience.Public (hours 5) (hours 6) base (item_step base late).1 (judgement_id 1 1 1))
served_still = served_judgements_stay audience.Public base (item_step base late).1 (late ∷ []) ((item_step base late).0 ∷ []) (hours 5) (hours 6) refl (runs_once base) (judgement_id 1 1 1) (judgement_data base.fixed 1 1 (judgement_of other_release)) is_served

-- to the jury at another moment nothing else is served by its id
one_for_all : (other : Data) → judgement_found audience.Jury (hours 1) base (judgement_id 1 1 1) ≡ Some other → other ≡ judgement_data base.fixed 1 1 (judgement_of other_release)
one_for_all other found = judgement_ids_stay audience.Public audience.Jury base base [] [] (hours 5) (hours 1) refl refl (ltb-true 2 (2 ^ 64) refl) (judgement_id 1 1 1) (judgement_data base.fixed 1 1 (judgement_of other_release)) other is_served found

-- once it was revised it is served to nobody, not even the jury
served_no_more : judgement_found audience.Jury (hours 5) after_one (judgement_id 1 1 1) ≡ None
served_no_more = revised_judgements_go audience.Jury (hours 5) after_one other_release (released 1 1 2 wrong (hours 4 + minutes 20)) refl (ltb-true 3 (2 ^ 64) refl) (inr (inl refl)) (inr (inr (inl refl))) refl refl (ltb-true 1 2 refl)

-- and what the thaw showed isn't served before it
shown_at_thaw : seen_judgement audience.Public (hours 6) (add thawed (NewRelease frozen_release)) frozen_submission ≡ Some (judgement_of frozen_release)
shown_at_thaw = refl

held_before : judgement_found audience.Public (hours 5) (add thawed (NewRelease frozen_release)) (judgement_id 1 2 1) ≡ None
unfolding digits
held_before = refl

-- an account that stands keeps its token over the import, which no administrator asks for
keeps_its_token : account_named (item_step base late).1.fixed.accounts (codes "a1") ≡ Some (account_for (codes "a1") (role.Team 0))
keeps_its_token = accounts_stay_without_admins base (item_step base late).1 (late ∷ []) ((item_step base late).0 ∷ []) refl (refl, (item_step base late).1, inl (refl, refl), refl) (codes "a1") (account_for (codes "a1") (role.Team 0)) refl
