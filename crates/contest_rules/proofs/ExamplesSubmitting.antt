-- Worked examples: what becomes of a submission that the first team hands in.
use Rattle.std.proofs.Common.{◌≡◌, ℕ, ◌-◌, zero, suc, List, [], ◌∷◌, refl, Some, None, Result, Ok, Err}
use Rattle.std.specs.Prelude.{codes}
use Rattle.contest_types.specs.declared.marks.Marks.{Marks}
use Rattle.contest_rules.specs.declared.rule_refusal.RuleRefusal.TheVariants.{UnknownReference, EntryPointMissing, KeyReused, NotOpen, TeamLimit}
use Rattle.contest_types.specs.declared.submission.Submission.{Submission}
use Rattle.contest_types.proofs.ExampleContest.{minutes, hours, empty, started, submitted}
use Rattle.contest_rules.specs.declared.decision.Decision.{Decision}
use Rattle.contest_rules.specs.declared.rule_refusal.RuleRefusal.{RuleRefusal}
use Rattle.contest_rules.specs.declared.decision.Decision.TheVariants.{Add, Stands}
use Rattle.contest_rules.specs.declared.submitting.WantedSubmission.{WantedSubmission}
use Rattle.contest_rules.specs.Submitting.{so_far, submit}

-- problem a in C++, under the key k1
abbrev wanted : WantedSubmission
wanted = record { problem = codes "a"; language = codes "cpp"; entry_point = None; file = 80 ∷ 75 ∷ []; key = Some (codes "k1") }

-- the first submission of a team that asks for it at a moment
abbrev first_at : (time : ℕ) → Submission
first_at time = record (submitted 0 1 time 0) { file = 80 ∷ 75 ∷ []; key = Some (codes "k1") }

-- what becomes of it, of the team's own submissions so far
abbrev decided : Marks → (now : ℕ) → List Submission → WantedSubmission → Result (Decision Submission Submission) RuleRefusal
decided marks now own w = submit (record empty.fixed { marks = marks }) now 0 (so_far w.key own) w

taken : decided started (minutes 10) [] wanted ≡ Ok (Add (first_at (minutes 10)))
taken = refl

-- it is taken at the start and until the last millisecond
at_start : decided started 0 [] wanted ≡ Ok (Add (first_at 0))
at_start = refl

last_millisecond : decided started (hours 5 - 1) [] wanted ≡ Ok (Add (first_at (hours 5 - 1)))
last_millisecond = refl

-- the next one counts up, and where the clock went back it counts as of the team's last
abbrev one : List Submission
one = first_at (minutes 10) ∷ []

abbrev under : (key : List ℕ) → WantedSubmission
under key = record wanted { key = Some key }

second : decided started (minutes 9) one (under (codes "k2")) ≡ Ok (Add (record (first_at (minutes 10)) { number = 2; key = Some (codes "k2") }))
second = refl

-- with no key it is never a repeat
no_key : decided started (minutes 11) one (record wanted { key = None }) ≡ Ok (Add (record (first_at (minutes 11)) { number = 2; key = None }))
no_key = refl

-- under a key that stands equal content is a repeat, after the end too
repeated : decided started (minutes 20) one wanted ≡ Ok (Stands (first_at (minutes 10)))
repeated = refl

repeated_late : decided started (hours 9) one wanted ≡ Ok (Stands (first_at (minutes 10)))
repeated_late = refl

-- and other content is refused: another problem, another language, an entry point, other bytes
other_problem : decided started (minutes 20) one (record wanted { problem = codes "b" }) ≡ Err KeyReused
other_problem = refl

other_language : decided started (minutes 20) one (record wanted { language = codes "java"; entry_point = Some (codes "Main") }) ≡ Err KeyReused
other_language = refl

other_entry_point : decided started (minutes 20) one (record wanted { entry_point = Some (codes "Main") }) ≡ Err KeyReused
other_entry_point = refl

other_bytes : decided started (minutes 20) one (record wanted { file = 80 ∷ [] }) ≡ Err KeyReused
other_bytes = refl

-- a problem or a language that isn't there, an entry point that is missing
unknown_problem : decided started (minutes 20) [] (record wanted { problem = codes "c" }) ≡ Err UnknownReference
unknown_problem = refl

unknown_language : decided started (minutes 20) [] (record wanted { language = codes "c" }) ≡ Err UnknownReference
unknown_language = refl

no_entry_point : decided started (minutes 20) [] (record wanted { language = codes "java" }) ≡ Err EntryPointMissing
no_entry_point = refl

with_entry_point : decided started (minutes 20) [] (record wanted { language = codes "java"; entry_point = Some (codes "Main") }) ≡ Ok (Add (record (first_at (minutes 20)) { language = 1; entry_point = Some (codes "Main") }))
with_entry_point = refl

-- the contest doesn't run: before the start, with none, from the end on, once a finalized mark is set
before_start : decided (record started { start = Some 10 }) 9 [] wanted ≡ Err NotOpen
before_start = refl

unset_start : decided (record started { start = None }) (hours 1) [] wanted ≡ Err NotOpen
unset_start = refl

at_end : decided started (hours 5) [] wanted ≡ Err NotOpen
at_end = refl

to_be_final : decided (record started { finalized = Some (hours 4) }) (hours 1) [] wanted ≡ Err NotOpen
to_be_final = refl

-- a team's limit is 500
abbrev so_many : ℕ → List Submission
so_many zero = []
so_many (suc n) = submitted 0 1 0 0 ∷ so_many n

last_one : decided started 5 (so_many 499) wanted ≡ Ok (Add (record (first_at 5) { number = 500 }))
last_one = refl

too_many : decided started 5 (so_many 500) wanted ≡ Err TeamLimit
too_many = refl

-- of several reasons the first is told: what isn't there, the entry point, the key, the clock, the limit
abbrev in_java : WantedSubmission
in_java = record wanted { language = codes "java" }

reference_first : decided started (minutes 20) one (record in_java { problem = codes "c" }) ≡ Err UnknownReference
reference_first = refl

entry_point_first : decided started (hours 9) one in_java ≡ Err EntryPointMissing
entry_point_first = refl

key_first : decided started (hours 9) one (record wanted { problem = codes "b" }) ≡ Err KeyReused
key_first = refl

clock_first : decided started (hours 9) (so_many 500) wanted ≡ Err NotOpen
clock_first = refl
