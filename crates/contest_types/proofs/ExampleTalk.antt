-- The contest that the examples of alike contests vary.
use Rattle.std.specs.Prelude.{◌+◌, List, [], ◌∷◌, None}
use Rattle.contest_types.specs.State.{ContestState}
use Rattle.contest_types.specs.declared.submission.Submission.{Submission}
use Rattle.contest_types.specs.declared.submission.Release.{Release}
use Rattle.contest_types.specs.declared.clarification.Clarification.{Clarification}
use Rattle.contest_types.proofs.ExampleContest.{minutes, hours, empty, accepted, wrong, submitted, released, asked, answered, announced}

-- the first team's submission, the second team's before the freeze and in it, the hidden team's
abbrev pub own_submission : Submission
own_submission = submitted 0 1 (minutes 10) 0

abbrev pub other_submission : Submission
other_submission = submitted 1 1 (minutes 20) 0

abbrev pub frozen_submission : Submission
frozen_submission = submitted 1 2 (hours 4 + minutes 5) 1

abbrev pub hidden_submission : Submission
hidden_submission = submitted 3 1 (minutes 30) 0

abbrev pub own_release : Release
own_release = released 0 1 1 wrong (minutes 11)

abbrev pub other_release : Release
other_release = released 1 1 1 accepted (hours 4 + minutes 7)

abbrev pub frozen_release : Release
frozen_release = released 1 2 1 accepted (hours 4 + minutes 10)

abbrev pub submissions : List Submission
submissions = own_submission ∷ other_submission ∷ frozen_submission ∷ hidden_submission ∷ []

abbrev pub releases : List Release
releases = own_release ∷ other_release ∷ []

-- the first team asks and is answered, and the jury tells all
abbrev pub clarifications : List Clarification
clarifications = asked 0 1 (minutes 40) ∷ answered 0 2 (minutes 50) ∷ announced 1 (minutes 60) None ∷ []

abbrev pub base : ContestState
base = record empty { submissions = submissions; releases = releases; clarifications = clarifications }
