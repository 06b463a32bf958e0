-- Worked examples of the results that ICPC's systems take.
use Rattle.std.proofs.Common.{◌≡◌, List, [], ◌∷◌, Some, None, refl}
use Rattle.std.specs.Prelude.{codes}
use Rattle.std.specs.Fmt.{digits}
use Rattle.contest_score.specs.declared.award.Award.{Award}
use Rattle.contest_score.specs.declared.row.Row.{Row}
use Rattle.contest_types.specs.Setup.{Setup}
use Rattle.contest_types.proofs.ExampleContest.{settings}
use Rattle.contest_exports.specs.ResultsTsv.{medal_text, results_tsv, text_after}

-- the rows of two teams, of which the second solved nothing
abbrev rows : List Row
rows =
    record { team = 0; rank = 1; score = record { solved = 1; total = 30; last = Some (record { 0 = 10 }) }; cells = [] }
    ∷ record { team = 1; rank = 2; score = record { solved = 0; total = 0; last = None }; cells = [] } ∷ []

-- their results: gold for the first team, which won both groups and has the first; the other solved nothing
abbrev with_groups : Setup
with_groups = record settings { groups = record { id = codes "south"; name = codes "South" } ∷ record { id = codes "north"; name = codes "North" } ∷ [] }

abbrev won : List Award
won =
    record { id = codes "winner"; citation = codes "Contest winner"; teams = 0 ∷ [] }
    ∷ record { id = codes "gold-medal"; citation = codes "Gold medal"; teams = 0 ∷ [] }
    ∷ record { id = codes "group-winner-north"; citation = codes "Winner of group North"; teams = 0 ∷ [] }
    ∷ record { id = codes "group-winner-south"; citation = codes "Winner of group South"; teams = 0 ∷ [] } ∷ []

two_results : results_tsv with_groups rows won ≡ codes "results\t1\nt1\t1\tGold Medal\t1\t30\t10\tNorth\nt2\t2\tRanked\t0\t0\t-1\t\n"
unfolding digits
two_results = refl

no_results : results_tsv settings [] [] ≡ codes "results\t1\n"
no_results = refl

-- one medal after the other, and none
abbrev medals : List Award
medals =
    record { id = codes "gold-medal"; citation = codes "Gold medal"; teams = 2 ∷ [] }
    ∷ record { id = codes "silver-medal"; citation = codes "Silver medal"; teams = 0 ∷ [] }
    ∷ record { id = codes "bronze-medal"; citation = codes "Bronze medal"; teams = 3 ∷ 1 ∷ [] } ∷ []

silver : medal_text medals 0 ≡ codes "Silver Medal"
silver = refl

bronze : medal_text medals 1 ≡ codes "Bronze Medal"
bronze = refl

gold : medal_text medals 2 ≡ codes "Gold Medal"
gold = refl

none : medal_text medals 4 ≡ codes "Ranked"
none = refl

-- a text that is shorter than what it should begin with doesn't
too_short : text_after (codes "group-winner-") (codes "group") ≡ None
too_short = refl
