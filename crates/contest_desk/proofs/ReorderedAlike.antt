-- The same rows, added in another order, leave a contest alike for everybody.
use Rattle.std.proofs.Common.{◌≡◌, ◌∙◌, ◌++◌, ℕ, Bool, true, List, [], ◌∷◌, map, refl, sym, ap, subst, inl, inr}
use Rattle.std.specs.Prelude.{filter, if◌then◌else◌}
use Rattle.std.proofs.lemmas.List.{append-nil, append_assoc}
use Rattle.std.proofs.lemmas.List.Elements.{filter-append}
use Rattle.contest_types.specs.Addable.{are_addable}
use Rattle.contest_types.specs.Alike.{Alike, own_record, open_record, sight_of, Whole, Open, Nothing}
use Rattle.contest_types.specs.Clock.{is_frozen}
use Rattle.contest_types.specs.Masks.{owns}
use Rattle.contest_types.specs.Sight.{judgement_of, judgements_on}
use Rattle.contest_types.specs.State.{ContestState, add, add_all, names, of_release, releases_on, submissions_of}
use Rattle.contest_types.specs.TeamPlaces.{is_public}
use Rattle.contest_types.specs.declared.account.Account.{Account}
use Rattle.contest_types.specs.declared.audience.Audience.{Audience}
use Rattle.contest_types.specs.declared.entry.Entry.{Entry}
use Rattle.contest_types.specs.declared.entry.Entry.TheVariants.{NewAccount, NewClarification, NewGroup, NewLanguage, NewProblem, NewProposal, NewRejudging, NewRelease, NewSubmission, NewTeam, NewType, SetFinalized, SetDuration, SetTeamName, SetDigest, SetMember, SetRejudging, SetStart, SetThaw}
use Rattle.contest_types.specs.declared.submission.Release.{Release}
use Rattle.contest_types.specs.declared.submission.Submission.{Submission}
use Rattle.contest_desk.specs.Reordering.{AreAddedAs, IsReordered, accounts_after, others_in, releases_in}

-- a contest with other releases and accounts
abbrev with_both : ContestState → List Release → List Account → ContestState
with_both x vs accounts = record x { releases = vs; fixed = record x.fixed { accounts = accounts } }

-- what is added adds to the releases and to the accounts, and else what the other rows add
apart : (x : ContestState) (vs : List Release) (accounts : List Account) (es : List Entry)
    → add_all (with_both x vs accounts) es ≡ with_both (add_all x (others_in es)) (vs ++ releases_in es) (accounts_after accounts es)
apart x vs accounts [] = ap (λ ws. with_both x ws accounts) (sym (append-nil vs))
apart x vs accounts (NewRelease v ∷ es) =
    apart x (vs ++ v ∷ []) accounts es ∙ ap (λ ws. with_both (add_all x (others_in es)) ws (accounts_after accounts es)) (append_assoc vs (v ∷ []) (releases_in es))
apart x vs accounts (NewAccount a ∷ es) = apart x vs _ es
apart x vs accounts (NewSubmission s ∷ es) = apart (add x (NewSubmission s)) vs accounts es
apart x vs accounts (NewProposal p ∷ es) = apart (add x (NewProposal p)) vs accounts es
apart x vs accounts (NewClarification c ∷ es) = apart (add x (NewClarification c)) vs accounts es
apart x vs accounts (NewRejudging r ∷ es) = apart (add x (NewRejudging r)) vs accounts es
apart x vs accounts (SetMember n place state ∷ es) = apart (add x (SetMember n place state)) vs accounts es
apart x vs accounts (SetRejudging n state ∷ es) = apart (add x (SetRejudging n state)) vs accounts es
apart x vs accounts (SetStart start ∷ es) = apart (add x (SetStart start)) vs accounts es
apart x vs accounts (SetThaw thaw ∷ es) = apart (add x (SetThaw thaw)) vs accounts es
apart x vs accounts (SetFinalized finalized ∷ es) = apart (add x (SetFinalized finalized)) vs accounts es
apart x vs accounts (SetDuration duration freeze ∷ es) = apart (add x (SetDuration duration freeze)) vs accounts es
apart x vs accounts (SetTeamName team name ∷ es) = apart (add x (SetTeamName team name)) vs accounts es
apart x vs accounts (SetDigest id digest ∷ es) = apart x vs _ es
apart x vs accounts (NewType t ∷ es) = apart (add x (NewType t)) vs accounts es
apart x vs accounts (NewLanguage l ∷ es) = apart (add x (NewLanguage l)) vs accounts es
apart x vs accounts (NewProblem p ∷ es) = apart (add x (NewProblem p)) vs accounts es
apart x vs accounts (NewGroup g ∷ es) = apart (add x (NewGroup g)) vs accounts es
apart x vs accounts (NewTeam t ∷ es) = apart (add x (NewTeam t)) vs accounts es

module _ (a : Audience) (z : ContestState) (vs ws : List Release) (accounts : List Account) (same : (team number : ℕ) → releases_on team number vs ≡ releases_on team number ws) where
  x : ContestState
  x = with_both z vs accounts

  y : ContestState
  y = with_both z ws accounts

  judged : (s : Submission) → judgements_on x s ≡ judgements_on y s
  unfolding x y
  judged s = ap (map judgement_of) (same s.team s.number)

  owned : own_record x ≡ own_record y
  unfolding x y
  owned = λ i s. record { submission = s; judgements = judged s i }

  opened : open_record x ≡ open_record y
  unfolding x y
  opened = λ i s. record { number = s.number; problem = s.problem; language = s.language; time = s.time; judgements = if is_frozen z.fixed.settings z.fixed.marks s.time then [] else judged s i }

  seen : (team : ℕ) → sight_of a x team ≡ sight_of a y team
  unfolding x y
  seen team = λ i. if owns a team then Whole (map (owned i) (submissions_of team z.submissions))
      else (if is_public z.fixed.settings team then Open (map (opened i) (submissions_of team z.submissions)) else Nothing)

  alike_releases : Alike a (with_both z vs accounts) (with_both z ws accounts)
  unfolding x y
  alike_releases = record { fixed = refl; teams = seen; told = λ to. refl }

-- of each submission the releases that stood, and then those that are added
grown : (team number : ℕ) (vs added more : List Release) → releases_on team number added ≡ releases_on team number more → releases_on team number (vs ++ added) ≡ releases_on team number (vs ++ more)
grown team number vs added more same =
    let on : Release → Bool = λ v. names team number (of_release v) in
    filter-append on vs added ∙ ap (λ rs. filter on vs ++ rs) same ∙ sym (filter-append on vs more)

reordered_alike : (a : Audience) (x : ContestState) (es fs : List Entry) → IsReordered x es fs → Alike a (add_all x es) (add_all x fs)
reordered_alike a x es fs r =
    let left = apart x x.releases x.fixed.accounts es in
    let right = apart x x.releases x.fixed.accounts fs in
    let here : ContestState = add_all x (others_in fs) in
    let moved : add_all x es ≡ with_both here (x.releases ++ releases_in es) (accounts_after x.fixed.accounts fs) =
    left ∙ (λ i. with_both (add_all x (r.others i)) (x.releases ++ releases_in es) (r.accounts i)) in
    subst (λ z. Alike a z (add_all x fs)) (sym moved) (subst (λ z. Alike a (with_both here (x.releases ++ releases_in es) (accounts_after x.fixed.accounts fs)) z) (sym right)
    (alike_releases a here (x.releases ++ releases_in es) (x.releases ++ releases_in fs) (accounts_after x.fixed.accounts fs)
    (λ team number. grown team number x.releases (releases_in es) (releases_in fs) (r.releases team number))))

module _ (a : Audience) (x : ContestState) (es fs : List Entry) where
  -- what is added in another order may be added, and leaves a contest that is alike
  pub added_alike : AreAddedAs x es fs → Alike a (add_all x es) (add_all x fs)
  added_alike (inl same) = subst (λ gs. Alike a (add_all x es) (add_all x gs)) same (record { fixed = refl; teams = λ team. refl; told = λ to. refl })
  added_alike (inr other) = reordered_alike a x es fs other.0

  pub added_may : are_addable x es ≡ true → AreAddedAs x es fs → are_addable x fs ≡ true
  added_may can (inl same) = sym (ap (are_addable x) same) ∙ can
  added_may can (inr other) = other.1
