-- Worked examples: boards and cells for each caller.
use Rattle.std.proofs.Common.{◌≡◌, ℕ, ◌+◌, ◌-◌, List, [], ◌∷◌, refl, Option, Some, None, map}
use Rattle.std.specs.Prelude.{◌++◌, drop, take}
use Rattle.contest_types.specs.State.{ContestState}
use Rattle.contest_types.specs.declared.audience.Audience.{Audience}
use Rattle.contest_types.specs.declared.audience.Audience.TheVariants as audience
use Rattle.contest_types.specs.declared.sight.Mask.TheVariants.{Full, Held}
use Rattle.contest_types.specs.declared.minute.Minute.{Minute}
use Rattle.contest_types.specs.declared.objects.Team.{Team}
use Rattle.contest_types.proofs.ExampleContest.{minutes, hours, empty, thawed_at, accepted, wrong, compile_error, submitted, released, proposed}
use Rattle.contest_score.specs.declared.cell.Cell.{Cell}
use Rattle.contest_score.specs.declared.row.Row.{Row}
use Rattle.contest_score.specs.Contest.{contest_cell, seen_cell, board_for}
use Rattle.contest_score.specs.Table.{no_attempts}

-- the first teams and the first problem alone
abbrev only_first : (teams problems : ℕ) → ContestState → ContestState
only_first teams problems x = record x { fixed = record x.fixed { settings = record x.fixed.settings { teams = take teams x.fixed.settings.teams; problems = take problems x.fixed.settings.problems } } }

abbrev solved_cell : (judged minute penalties : ℕ) → Cell
solved_cell judged minute penalties = record { judged = judged; pending = 0; solved = Some (record { 0 = minute }); penalties = penalties }

abbrev open_cell : (judged pending penalties : ℕ) → Cell
open_cell judged pending penalties = record { judged = judged; pending = pending; solved = None; penalties = penalties }

abbrev row_for : (team rank solved total : ℕ) → Option Minute → List Cell → Row
row_for team rank solved total last cells = record { team = team; rank = rank; score = record { solved = solved; total = total; last = last }; cells = cells }

-- each row's team and rank; and its team, problems solved and total
abbrev ranks_of : List Row → List (ℕ × ℕ)
ranks_of = map (λ (r : Row). (let both : ℕ × ℕ = (r.team, r.rank) in both))

abbrev totals_of : List Row → List (List ℕ)
totals_of = map (λ (r : Row). r.team ∷ r.score.solved ∷ r.score.total ∷ [])

-- Alpha: wrong, compile error, accepted in minute 10; Beta: accepted in minute 30
abbrev two_teams : (beta_at : ℕ) → ContestState
two_teams beta_at = only_first 2 1 (record empty {
  submissions = submitted 0 1 (minutes 5) 0 ∷ submitted 0 2 (minutes 7) 0 ∷ submitted 0 3 (minutes 11 - 1) 0 ∷ submitted 1 1 beta_at 0 ∷ [];
  releases = released 0 1 1 wrong (minutes 5) ∷ released 0 2 1 compile_error (minutes 7) ∷ released 0 3 1 accepted (minutes 11 - 1) ∷ released 1 1 1 accepted beta_at ∷ [];
})

abbrev alpha : Row
alpha = row_for 0 1 1 30 (Some (record { 0 = 10 })) (solved_cell 3 10 1 ∷ [])

-- both have a total of 30, and the smaller last minute stands first
first_board : board_for audience.Public (hours 5) None (two_teams (minutes 30)) ≡ alpha ∷ row_for 1 2 1 30 (Some (record { 0 = 30 })) (solved_cell 1 30 0 ∷ []) ∷ []
first_board = refl

-- Beta's submission at the freeze is pending for the public, and for the first team
frozen_board : board_for audience.Public (hours 5) None (two_teams (hours 4)) ≡ alpha ∷ row_for 1 2 0 0 None (open_cell 0 1 0 ∷ []) ∷ []
frozen_board = refl

frozen_for_other : board_for (audience.Team 1) (hours 5) None (two_teams (hours 4)) ≡ alpha ∷ row_for 1 2 0 0 None (open_cell 0 1 0 ∷ []) ∷ []
frozen_for_other = refl

-- and accepted for the jury, for Beta itself, and for all once it is thawed
abbrev open_board : List Row
open_board = alpha ∷ row_for 1 2 1 240 (Some (record { 0 = 240 })) (solved_cell 1 240 0 ∷ []) ∷ []

jury_board : board_for audience.Jury (hours 5) None (two_teams (hours 4)) ≡ open_board
jury_board = refl

own_board : board_for (audience.Team 2) (hours 5) None (two_teams (hours 4)) ≡ open_board
own_board = refl

thawed_board : board_for audience.Public (hours 6) None (thawed_at (two_teams (hours 4)) (hours 6)) ≡ open_board
thawed_board = refl

-- two that tie, and a third: ranks 1, 1 and 3, the tie in the order of the names
abbrev three_teams : ContestState
three_teams = only_first 3 1 (record empty {
  submissions = submitted 1 1 (minutes 30 + 15000) 0 ∷ submitted 2 1 (minutes 31) 0 ∷ submitted 0 1 (minutes 30 + 45000) 0 ∷ [];
  releases = released 1 1 1 accepted (hours 1) ∷ released 2 1 1 accepted (hours 1) ∷ released 0 1 1 accepted (hours 1) ∷ [];
})

shared_rank : ranks_of (board_for audience.Public (hours 2) None three_teams) ≡ (0, 1) ∷ (1, 1) ∷ (2, 3) ∷ []
shared_rank = refl

-- Beta submits a a millisecond before the freeze and b exactly at it; both are accepted at 4:10
abbrev around_freeze : ContestState
around_freeze = record empty {
  submissions = submitted 1 1 (hours 4 - 1) 0 ∷ submitted 1 2 (hours 4) 1 ∷ [];
  releases = released 1 1 1 accepted (hours 4 + minutes 10) ∷ released 1 2 1 accepted (hours 4 + minutes 10) ∷ [];
}

abbrev cells_of : Audience → ContestState → ℕ → List Cell
cells_of a x team = seen_cell a (hours 4 + minutes 20) x team 0 ∷ seen_cell a (hours 4 + minutes 20) x team 1 ∷ []

public_cells : cells_of audience.Public around_freeze 1 ≡ solved_cell 1 239 0 ∷ open_cell 0 1 0 ∷ []
public_cells = refl

other_cells : cells_of (audience.Team 1) around_freeze 1 ≡ solved_cell 1 239 0 ∷ open_cell 0 1 0 ∷ []
other_cells = refl

own_cells : cells_of (audience.Team 2) around_freeze 1 ≡ solved_cell 1 239 0 ∷ solved_cell 1 240 0 ∷ []
own_cells = refl

jury_cells : cells_of audience.Jury around_freeze 1 ≡ solved_cell 1 239 0 ∷ solved_cell 1 240 0 ∷ []
jury_cells = refl

-- to itself Beta has 479 minutes, to the public 239
own_totals : totals_of (board_for (audience.Team 2) (hours 5) None around_freeze) ≡ (1 ∷ 2 ∷ 479 ∷ []) ∷ (0 ∷ 0 ∷ 0 ∷ []) ∷ (2 ∷ 0 ∷ 0 ∷ []) ∷ []
own_totals = refl

public_totals : totals_of (board_for audience.Public (hours 5) None around_freeze) ≡ (1 ∷ 1 ∷ 239 ∷ []) ∷ (0 ∷ 0 ∷ 0 ∷ []) ∷ (2 ∷ 0 ∷ 0 ∷ []) ∷ []
public_totals = refl

-- submitted before the freeze and judged in it: shown
abbrev judged_late : ContestState
judged_late = record empty { submissions = submitted 1 1 (hours 3 + minutes 50) 0 ∷ []; releases = released 1 1 1 accepted (hours 4 + minutes 30) ∷ [] }

judged_late_shows : contest_cell Held judged_late 1 0 ≡ solved_cell 1 230 0
judged_late_shows = refl

-- submitted in the freeze and, by a clock that ran slow, judged before it: held
abbrev judged_early : ContestState
judged_early = record empty { submissions = submitted 1 1 (hours 4 + minutes 1) 0 ∷ []; releases = released 1 1 1 accepted (hours 3) ∷ [] }

judged_early_held : contest_cell Held judged_early 1 0 ≡ open_cell 0 1 0
judged_early_held = refl

-- a proposal that isn't released counts as pending on every board
abbrev only_proposed : ContestState
only_proposed = record empty { submissions = submitted 0 1 (minutes 5) 0 ∷ []; proposals = proposed 0 1 accepted (minutes 6) ∷ [] }

proposed_pends : contest_cell Full only_proposed 0 0 ≡ open_cell 0 1 0
proposed_pends = refl

-- a compile error is judged and costs nothing
abbrev no_compile : ContestState
no_compile = record empty { submissions = submitted 0 1 (minutes 5) 0 ∷ submitted 0 2 (minutes 8) 0 ∷ []; releases = released 0 1 1 compile_error (minutes 6) ∷ released 0 2 1 accepted (minutes 9) ∷ [] }

compile_error_free : contest_cell Full no_compile 0 0 ≡ solved_cell 2 8 0
compile_error_free = refl

-- accepted at 10, wrong at 20: the later one doesn't count, until the first is judged wrong again
abbrev two_tries : ContestState
two_tries = record empty {
  submissions = submitted 0 1 (minutes 10) 0 ∷ submitted 0 2 (minutes 20) 0 ∷ [];
  releases = released 0 1 1 accepted (minutes 11) ∷ released 0 2 1 wrong (minutes 21) ∷ [];
}

first_try_counts : contest_cell Full two_tries 0 0 ≡ solved_cell 1 10 0
first_try_counts = refl

abbrev taken_back : ContestState
taken_back = record two_tries { releases = released 0 1 1 accepted (minutes 11) ∷ released 0 2 1 wrong (minutes 21) ∷ released 0 1 2 wrong (hours 2) ∷ [] }

both_tries_count : contest_cell Full taken_back 0 0 ≡ open_cell 2 0 2
both_tries_count = refl

-- a pending try before an accepted one stays counted; once it is accepted, the later ones don't count
abbrev first_pends : ContestState
first_pends = record empty {
  submissions = submitted 0 1 (minutes 10) 0 ∷ submitted 0 2 (minutes 20) 0 ∷ submitted 0 3 (minutes 25) 0 ∷ [];
  releases = released 0 2 1 wrong (minutes 21) ∷ released 0 3 1 accepted (minutes 26) ∷ [];
}

pends_beside_solved : contest_cell Full first_pends 0 0 ≡ record { judged = 2; pending = 1; solved = Some (record { 0 = 25 }); penalties = 1 }
pends_beside_solved = refl

abbrev first_accepted : ContestState
first_accepted = record first_pends { releases = released 0 2 1 wrong (minutes 21) ∷ released 0 3 1 accepted (minutes 26) ∷ released 0 1 1 accepted (minutes 30) ∷ [] }

later_uncounted : contest_cell Full first_accepted 0 0 ≡ solved_cell 1 10 0
later_uncounted = refl

-- the hidden team solves a problem: it is on no board, not its own either, and moves no rank
abbrev hidden_solves : ContestState
hidden_solves = record empty {
  submissions = submitted 3 1 (minutes 1) 0 ∷ submitted 0 1 (minutes 9) 0 ∷ [];
  releases = released 3 1 1 accepted (minutes 2) ∷ released 0 1 1 accepted (minutes 9) ∷ [];
}

abbrev ranks_for : Audience → ContestState → List (ℕ × ℕ)
ranks_for a x = ranks_of (board_for a (hours 1) None x)

hidden_from_public : ranks_for audience.Public hidden_solves ≡ (0, 1) ∷ (1, 2) ∷ (2, 2) ∷ []
hidden_from_public = refl

hidden_from_jury : ranks_for audience.Jury hidden_solves ≡ (0, 1) ∷ (1, 2) ∷ (2, 2) ∷ []
hidden_from_jury = refl

hidden_from_itself : ranks_for (audience.Team 4) hidden_solves ≡ (0, 1) ∷ (1, 2) ∷ (2, 2) ∷ []
hidden_from_itself = refl

-- an empty contest: all share the first rank, in the order of the names; with no team there is no row
empty_board : board_for audience.Public 0 None (only_first 1 2 empty) ≡ row_for 0 1 0 0 None (no_attempts ∷ no_attempts ∷ []) ∷ []
empty_board = refl

no_teams : board_for audience.Public 0 None (only_first 0 2 empty) ≡ []
no_teams = refl

-- a group of all teams but Alpha, the hidden one too: Alpha and Beta solve after half an hour, Gamma a minute later
abbrev all_but_first : List Team → List Team
all_but_first teams = take 1 teams ++ map (λ (t : Team). record t { groups = 0 ∷ [] }) (drop 1 teams)

abbrev grouped : ContestState → ContestState
grouped x = record x { fixed = record x.fixed { settings = record x.fixed.settings { teams = all_but_first x.fixed.settings.teams } } }

abbrev three_solve : ContestState
three_solve = grouped (record empty {
  submissions = submitted 0 1 (minutes 30) 0 ∷ submitted 1 1 (minutes 30) 0 ∷ submitted 2 1 (minutes 31) 0 ∷ [];
  releases = released 0 1 1 accepted (minutes 31) ∷ released 1 1 1 accepted (minutes 31) ∷ released 2 1 1 accepted (minutes 32) ∷ [];
})

-- on the whole board two share the first rank, and Gamma has the third
whole_ranks : ranks_of (board_for audience.Public (hours 1) None three_solve) ≡ (0, 1) ∷ (1, 1) ∷ (2, 3) ∷ []
whole_ranks = refl

-- on the group's board Gamma has the second
group_ranks : ranks_of (board_for audience.Public (hours 1) (Some 0) three_solve) ≡ (1, 1) ∷ (2, 2) ∷ []
group_ranks = refl

-- a group without teams has a board without rows
no_group_teams : board_for audience.Jury (hours 1) (Some 1) three_solve ≡ []
no_group_teams = refl
