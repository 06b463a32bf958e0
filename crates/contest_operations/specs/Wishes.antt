-- What a known caller wishes, and what it comes to (own). What is off its form, or isn't for the caller's
-- role, is refused before anything but the fixed part is read.
use Rattle.std.specs.Prelude.{ℕ, Bool, true, List, Option, Result, Ok, Err, is_some, if◌then◌else◌}
use Rattle.std.specs.Option.{option_map_or}
use Rattle.contest_types.specs.declared.account.Account.{Account}
use Rattle.contest_types.specs.State.{FixedPart, ContestState}
use Rattle.contest_types.specs.declared.refusal.Refusal.{Refusal}
use Rattle.contest_types.specs.declared.refusal.Refusal.TheVariants.{NotFound, RoleForbids}
use Rattle.contest_lists.specs.Lists.{loaded}
use Rattle.contest_operations.specs.Callers.{Caller, audience_of, reads_all}
use Rattle.contest_operations.specs.Commands.{IsSoundPost, post_file, post_outcome, post_takes_memory, posted_by}
use Rattle.contest_postings.specs.OwnSubmissions.{file_at}
use Rattle.contest_operations.specs.Outcomes.{Outcome, replying}
use Rattle.contest_operations.specs.Readings.{read, read_file}
use Rattle.contest_operations.specs.declared.command.Posted.{Posted}
use Rattle.contest_operations.specs.declared.operation.Operation.{Operation}
use Rattle.contest_operations.specs.declared.operation.Operation.TheVariants.{Read as ToRead, Do as ToDo}
use Rattle.contest_operations.specs.declared.operation.Reading.{Reading}
use Rattle.contest_operations.specs.declared.operation.Reading.TheVariants.{Account as OwnAccount, Jury as ForJury}
use Rattle.contest_requests.specs.declared.request.Request.{Request}
use Rattle.contest_operations.specs.declared.wish.Wish.{Wish}
use Rattle.contest_operations.specs.declared.wish.Wish.TheVariants.{Read, Do}

abbrev pub wish_to_do : Result Posted Refusal → Result Wish Refusal
wish_to_do (Err refusal) = Err refusal
wish_to_do (Ok posted) = Ok (Do posted)

-- some of it is for the jury alone, and only who holds an account is told of it
abbrev pub may_read : Caller → Reading → Bool
may_read who OwnAccount = is_some who
may_read who (ForJury reading) = reads_all who
may_read who _ = true

-- why it isn't read: the public has no account to be found
abbrev pub unread_refusal : Reading → Refusal
unread_refusal OwnAccount = NotFound
unread_refusal _ = RoleForbids

-- what is named: by the path, or, of the caller's own account, by its id
abbrev pub named_by : Caller → Reading → (path : List ℕ) → List ℕ
named_by who OwnAccount path = option_map_or (λ (a : Account). a.id) who path
named_by who _ path = path

-- what a caller wishes that reads
abbrev pub wish_to_read : Caller → Reading → (path : List ℕ) → Result Wish Refusal
wish_to_read who reading path = if may_read who reading then Ok (Read reading (audience_of who) (named_by who reading path)) else Err (unread_refusal reading)

-- what a caller wishes by an operation
abbrev pub wish_of : FixedPart → Caller → Operation → Request → Result Wish Refusal
wish_of f who (ToRead reading) request = wish_to_read who reading request.path
wish_of f who (ToDo command) request = wish_to_do (posted_by f who command request)

-- what a wish comes to at a moment
abbrev pub wish_outcome : (now : ℕ) → Wish → ContestState → Outcome
wish_outcome now (Read reading a named) x = replying (read a now x reading named)
wish_outcome now (Do posted) x = post_outcome now posted x

-- what is known of a wish once it is read
abbrev pub IsSound : FixedPart → Wish → Type 0
IsSound f (Read reading a named) = Unit {0}
IsSound f (Do posted) = IsSoundPost f posted

-- reading the body, or building the reply, may take memory: not where the caller's role forbids it
abbrev pub takes_memory : Caller → Operation → Bool
takes_memory who (ToRead reading) = may_read who reading
takes_memory who (ToDo command) = post_takes_memory who command

-- whose file is looked at, by its team and its number
abbrev pub file_needed : Wish → ContestState → Option (ℕ × ℕ)
file_needed (Read reading a named) x = read_file a reading named x
file_needed (Do posted) x = post_file posted x

-- that file, if there is one
abbrev pub file_for : Wish → ContestState → Option (List ℕ)
file_for wish x = file_at x (file_needed wish (loaded x))
