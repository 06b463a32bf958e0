-- Worked examples: awards, and when they are shown.
use Rattle.std.proofs.Common.{◌≡◌, ℕ, ◌+◌, List, [], ◌∷◌, ◌++◌, refl, Some, None, true, false, map}
use Rattle.std.specs.Prelude.{codes}
use Rattle.contest_types.specs.State.{ContestState}
use Rattle.contest_types.specs.declared.audience.Audience.TheVariants as audience
use Rattle.contest_types.specs.declared.objects.Team.{Team}
use Rattle.contest_types.proofs.ExampleContest.{minutes, hours, empty, team_named, accepted, wrong, submitted, released}
use Rattle.contest_score.specs.Awards.{Award, shown_awards}

abbrev in_group : (place : ℕ) → Team → Team
in_group place t = record t { groups = place ∷ [] }

-- one gold, one silver and one bronze medal; Alpha and Gamma are of group north, Beta of group south
abbrev with_medals : ContestState → ContestState
with_medals x = record x {
  fixed = record x.fixed {
    settings = record x.fixed.settings {
      head = record x.fixed.settings.head { medals = record { gold = 1; silver = 1; bronze = 1 } };
      groups = record { id = codes "north"; name = codes "North" } ∷ record { id = codes "south"; name = codes "South" } ∷ [];
      teams = in_group 0 (team_named (codes "t1") (codes "Alpha") false) ∷ in_group 1 (team_named (codes "t2") (codes "Beta") false) ∷ in_group 0 (team_named (codes "t3") (codes "Gamma") false) ∷ [];
    };
  };
}

-- Alpha and Beta tie, Alpha by 30 seconds the earlier; Gamma solves nothing
abbrev tie_for_gold : ContestState
tie_for_gold = with_medals (record empty {
  submissions = submitted 0 1 (minutes 30) 0 ∷ submitted 1 1 (minutes 30 + 30000) 0 ∷ submitted 2 1 (minutes 40) 0 ∷ [];
  releases = released 0 1 1 accepted (hours 1) ∷ released 1 1 1 accepted (hours 1) ∷ released 2 1 1 wrong (hours 1) ∷ [];
})

abbrev finalized_at : ContestState → ℕ → ContestState
finalized_at x time = record x { fixed = record x.fixed { marks = record x.fixed.marks { finalized = Some time } } }

abbrev thawed_too : ContestState → ℕ → ContestState
thawed_too x time = record x { fixed = record x.fixed { marks = record x.fixed.marks { thaw = Some time } } }

-- gold for both of rank 1, so there is no silver, and none is of rank 3 with a problem solved
abbrev awards : List Award
awards =
    record { id = codes "winner"; citation = codes "Contest winner"; teams = 0 ∷ 1 ∷ [] }
    ∷ record { id = codes "gold-medal"; citation = codes "Gold medal"; teams = 0 ∷ 1 ∷ [] }
    ∷ record { id = codes "first-to-solve-a"; citation = codes "First to solve problem A"; teams = 0 ∷ [] }
    ∷ record { id = codes "group-winner-north"; citation = codes "Winner of group North"; teams = 0 ∷ [] }
    ∷ record { id = codes "group-winner-south"; citation = codes "Winner of group South"; teams = 1 ∷ [] }
    ∷ []

jury_reads : shown_awards audience.Jury (hours 6) (finalized_at tie_for_gold (hours 6)) ≡ awards
jury_reads = refl

-- nothing before the contest is finalized, and for others nothing before the thaw
not_finalized : shown_awards audience.Jury (hours 6) (thawed_too tie_for_gold (hours 5)) ≡ []
not_finalized = refl

not_thawed : shown_awards (audience.Team 1) (hours 6) (finalized_at tie_for_gold (hours 6)) ≡ []
not_thawed = refl

thawed : shown_awards audience.Public (hours 7) (thawed_too (finalized_at tie_for_gold (hours 6)) (hours 7)) ≡ awards
thawed = refl

-- a contest that never freezes needs no thaw
abbrev without_freeze : ContestState → ContestState
without_freeze x = record x { fixed = record x.fixed { settings = record x.fixed.settings { head = record x.fixed.settings.head { freeze = None } } } }

never_frozen : shown_awards audience.Public (hours 6) (without_freeze (finalized_at tie_for_gold (hours 6))) ≡ awards
never_frozen = refl

-- to the millisecond, both may be the first to solve
abbrev first_together : ContestState
first_together = record tie_for_gold { submissions = submitted 0 1 (minutes 30) 0 ∷ submitted 1 1 (minutes 30) 0 ∷ submitted 2 1 (minutes 40) 0 ∷ [] }

both_first : map (λ (w : Award). w.teams) (shown_awards audience.Jury (hours 6) (finalized_at first_together (hours 6))) ≡ (0 ∷ 1 ∷ []) ∷ (0 ∷ 1 ∷ []) ∷ (0 ∷ 1 ∷ []) ∷ (0 ∷ []) ∷ (1 ∷ []) ∷ []
both_first = refl

-- a medal for the second rank, and no award where no team solved anything
abbrev silver_too : ContestState
silver_too = record tie_for_gold { releases = released 0 1 1 accepted (hours 1) ∷ released 1 1 1 wrong (hours 1) ∷ released 2 1 1 accepted (hours 1) ∷ [] }

abbrev id_and_teams : Award → List ℕ × List ℕ
id_and_teams w = (w.id, w.teams)

silver : map id_and_teams (shown_awards audience.Jury (hours 6) (finalized_at silver_too (hours 6)))
    ≡ (codes "winner", 0 ∷ []) ∷ (codes "gold-medal", 0 ∷ []) ∷ (codes "silver-medal", 2 ∷ []) ∷ (codes "first-to-solve-a", 0 ∷ []) ∷ (codes "group-winner-north", 0 ∷ []) ∷ []
silver = refl

nobody_solved : shown_awards audience.Jury (hours 6) (finalized_at (record tie_for_gold { releases = [] }) (hours 6)) ≡ []
nobody_solved = refl

-- three ranks take gold, silver and bronze
abbrev three_ranks : ContestState
three_ranks = record tie_for_gold {
  submissions = submitted 0 1 (minutes 30) 0 ∷ submitted 1 1 (minutes 31) 0 ∷ submitted 2 1 (minutes 40) 0 ∷ [];
  releases = released 0 1 1 accepted (hours 1) ∷ released 1 1 1 accepted (hours 1) ∷ released 2 1 1 accepted (hours 1) ∷ [];
}

bronze : map id_and_teams (shown_awards audience.Jury (hours 6) (finalized_at three_ranks (hours 6)))
    ≡ (codes "winner", 0 ∷ []) ∷ (codes "gold-medal", 0 ∷ []) ∷ (codes "silver-medal", 1 ∷ []) ∷ (codes "bronze-medal", 2 ∷ [])
    ∷ (codes "first-to-solve-a", 0 ∷ []) ∷ (codes "group-winner-north", 0 ∷ []) ∷ (codes "group-winner-south", 1 ∷ []) ∷ []
bronze = refl

-- a hidden team that solves first takes no award, and leaves each to the team that it would go to without it
abbrev with_hidden_solver : ContestState
with_hidden_solver = record three_ranks {
  fixed = record three_ranks.fixed { settings = record three_ranks.fixed.settings { teams = three_ranks.fixed.settings.teams ++ in_group 1 (team_named (codes "t9") (codes "Staff") true) ∷ [] } };
  submissions = submitted 3 1 (minutes 5) 0 ∷ three_ranks.submissions;
  releases = released 3 1 1 accepted (minutes 6) ∷ three_ranks.releases;
}

hidden_solves_first : shown_awards audience.Jury (hours 6) (finalized_at with_hidden_solver (hours 6)) ≡ shown_awards audience.Jury (hours 6) (finalized_at three_ranks (hours 6))
hidden_solves_first = refl

-- groups stand by id, whichever came first
abbrev south_first : ContestState
south_first = record three_ranks { fixed = record three_ranks.fixed { settings = record three_ranks.fixed.settings { groups = record { id = codes "south"; name = codes "South" } ∷ record { id = codes "north"; name = codes "North" } ∷ [] } } }

groups_by_id : map id_and_teams (shown_awards audience.Jury (hours 6) (finalized_at south_first (hours 6)))
    ≡ (codes "winner", 0 ∷ []) ∷ (codes "gold-medal", 0 ∷ []) ∷ (codes "silver-medal", 1 ∷ []) ∷ (codes "bronze-medal", 2 ∷ [])
    ∷ (codes "first-to-solve-a", 0 ∷ []) ∷ (codes "group-winner-north", 1 ∷ []) ∷ (codes "group-winner-south", 0 ∷ []) ∷ []
groups_by_id = refl
