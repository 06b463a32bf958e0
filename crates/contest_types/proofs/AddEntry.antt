-- Adding whatever may be added keeps a contest valid.
use Rattle.std.proofs.Common.{◌≡◌, true, List, [], ◌∷◌}
use Rattle.contest_types.specs.State.{ContestState, Entry, add, add_all, NewSubmission, NewProposal, NewRelease, NewClarification, NewRejudging, SetMember, SetRejudging, SetStart, SetThaw, SetFinalized, SetDuration, SetTeamName, SetDigest, NewType, NewLanguage, NewProblem, NewGroup, NewTeam, NewAccount}
use Rattle.contest_types.specs.Valid.{is_valid}
use Rattle.contest_types.specs.Addable.{is_addable, are_addable}
use Rattle.contest_types.proofs.PlaceLemmas.{and_left, and_right}
use Rattle.contest_types.proofs.AddLemmas.{adding_submission, adding_proposal, adding_release}
use Rattle.contest_types.proofs.AddClarification.{adding_clarification, adding_start, adding_thaw, adding_finalized}
use Rattle.contest_types.proofs.AddRejudging.{adding_rejudging, setting_member, setting_rejudging}
use Rattle.contest_types.proofs.AddChanges.{adding_duration, adding_team_name, adding_digest}
use Rattle.contest_types.proofs.AddRows.{adding_type, adding_language, adding_problem, adding_group, adding_team, adding_account}

pub adding : (x : ContestState) (e : Entry) → is_valid x ≡ true → is_addable x e ≡ true → is_valid (add x e) ≡ true
adding x (NewSubmission s) h a = adding_submission x s h a
adding x (NewProposal p) h a = adding_proposal x p h a
adding x (NewRelease v) h a = adding_release x v h a
adding x (NewClarification c) h a = adding_clarification x c h a
adding x (NewRejudging r) h a = adding_rejudging x r h a
adding x (SetMember n place state) h a = setting_member x n place state h a
adding x (SetRejudging n state) h a = setting_rejudging x n state h a
adding x (SetStart start) h a = adding_start x start h a
adding x (SetThaw thaw) h a = adding_thaw x thaw h
adding x (SetFinalized finalized) h a = adding_finalized x finalized h
adding x (SetDuration duration freeze) h a = adding_duration x duration freeze h a
adding x (SetTeamName team name) h a = adding_team_name x team name h
adding x (SetDigest id digest) h a = adding_digest x id digest h a
adding x (NewType t) h a = adding_type x t h a
adding x (NewLanguage l) h a = adding_language x l h a
adding x (NewProblem p) h a = adding_problem x p h a
adding x (NewGroup g) h a = adding_group x g h a
adding x (NewTeam t) h a = adding_team x t h a
adding x (NewAccount b) h a = adding_account x b h a

-- and one after another
pub adding_all : (x : ContestState) (es : List Entry) → is_valid x ≡ true → are_addable x es ≡ true → is_valid (add_all x es) ≡ true
adding_all x [] h a = h
adding_all x (e ∷ es) h a = adding_all (add x e) es (adding x e h (and_left (is_addable x e) _ a)) (and_right (is_addable x e) _ a)
