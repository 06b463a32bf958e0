-- How many rows a contest has of each kind.
use Rattle.std.specs.Prelude.{ℕ, List, [], ◌∷◌, length}
use Rattle.contest_types.specs.State.{ContestState}

abbrev pub counts_of : ContestState → List ℕ
counts_of x =
    let s = x.fixed.settings in
    length s.types ∷ length s.languages ∷ length s.groups ∷ length s.problems ∷ length s.teams ∷ length x.fixed.accounts
    ∷ length x.submissions ∷ length x.proposals ∷ length x.releases ∷ length x.rejudgings ∷ length x.clarifications ∷ []
