-- The commands: who may give each, what its body says, and what becomes of it (own). One line of each
-- definition is a command's.
use Rattle.std.specs.Prelude.{ℕ, Bool, false, ◌==◌, List, Option, Some, None, Result, Ok, Err, is_some, if◌then◌else◌}
use Rattle.contest_types.specs.Masks.{audience_at}
use Rattle.contest_types.specs.State.{FixedPart, ContestState}
use Rattle.contest_types.specs.declared.audience.Audience.{Audience}
use Rattle.contest_types.specs.declared.audience.Audience.TheVariants.{Jury}
use Rattle.contest_types.specs.declared.refusal.Refusal.{Refusal}
use Rattle.contest_types.specs.declared.refusal.Refusal.TheVariants.{RoleForbids}
use Rattle.contest_types.specs.ValidClarifications.{same_scope}
use Rattle.contest_rules.specs.Clarifying.{audience_of, named_clarification, scope_for, want_the_same}
use Rattle.contest_rules.specs.Laws.{IsWriter}
use Rattle.contest_rules.specs.Submitting.{have_equal_content, is_complete}
use Rattle.contest_rules.specs.declared.rule_refusal.RuleRefusal.{RuleRefusal}
use Rattle.contest_operations.specs.Callers.{Caller, is_admin, judge_of, team_of}
use Rattle.contest_postings.specs.DoneThings.{Done}
use Rattle.contest_operations.specs.Outcomes.{Outcome, told}
use Rattle.contest_operations.specs.Paths.{jury_piece}
use Rattle.contest_requests.specs.ClockBodies.{posted_clock}
use Rattle.contest_requests.specs.JuryVerdicts.{IsSoundVerdict, posted_verdict}
use Rattle.contest_requests.specs.RejudgingBodies.{IsSoundRejudging, posted_rejudging}
use Rattle.contest_operations.specs.PostedClarifications.{may_write, posted_clarification}
use Rattle.contest_postings.specs.PostClarification.{clarification_done}
use Rattle.contest_postings.specs.PostClock.{clock_done, final_done}
use Rattle.contest_postings.specs.PostProposal.{proposal_done}
use Rattle.contest_postings.specs.PostChanges.{IsSoundChange, change_done}
use Rattle.contest_operations.specs.PostedChanges.{change_in, posted_change}
use Rattle.contest_postings.specs.PostRejudgings.{IsSoundStep, opening_done, rejudging_done}
use Rattle.contest_postings.specs.declared.rejudging.RejudgingStep.TheVariants.{Judge, Apply, Cancel}
use Rattle.contest_operations.specs.PostedSubmissions.{IsSoundSubmission, posted_submission}
use Rattle.contest_postings.specs.PostSubmission.{submission_done}
use Rattle.contest_postings.specs.PostVerification.{verification_done}
use Rattle.contest_operations.specs.declared.command.Command.{Command}
use Rattle.contest_operations.specs.declared.command.Command.TheVariants.{Submit, Clarify, Propose, Verify, OpenRejudging, JudgeRejudging, ApplyRejudging, CancelRejudging, SetClock, Finalize, Change}
use Rattle.contest_operations.specs.declared.command.Posted.{Posted}
use Rattle.contest_operations.specs.declared.command.Posted.TheVariants.{Submission, Clarification, Proposal, Verification, Opening, Rejudging, Clock, Final, Change as Changed}
use Rattle.contest_requests.specs.declared.request.Request.{Request}
use Rattle.contest_postings.specs.OwnSubmissions.{keyed_row}

abbrev pub posted_as : {A : Type 0} → (A → Posted) → Result A Refusal → Result Posted Refusal
posted_as make (Err refusal) = Err refusal
posted_as make (Ok a) = Ok (make a)

-- what only the jury posts
abbrev pub if_judge : (judge : Option (List ℕ)) → Posted → Result Posted Refusal
if_judge None posted = Err RoleForbids
if_judge (Some account) posted = Ok posted

-- what only an administrator posts
abbrev pub if_admin : (is_admin : Bool) → Posted → Result Posted Refusal
if_admin is_admin posted = if is_admin then Ok posted else Err RoleForbids

-- what a caller posts by a command: its role first, then its body
abbrev pub posted_by : FixedPart → Caller → Command → Request → Result Posted Refusal
posted_by f who Submit request = posted_submission f (team_of who) request
posted_by f who Clarify request = posted_as Clarification (posted_clarification f who request)
posted_by f who Propose request = posted_as Proposal (posted_verdict (judge_of who) request.body)
posted_by f who Verify request = posted_as Verification (posted_verdict (judge_of who) request.body)
posted_by f who OpenRejudging request = posted_as Opening (posted_rejudging (judge_of who) request.body)
posted_by f who JudgeRejudging request = posted_as (λ v. Rejudging request.path (Judge v)) (posted_verdict (judge_of who) request.body)
posted_by f who ApplyRejudging request = if_judge (judge_of who) (Rejudging request.path Apply)
posted_by f who CancelRejudging request = if_judge (judge_of who) (Rejudging request.path Cancel)
posted_by f who SetClock request = posted_as Clock (posted_clock (is_admin who) f.settings.head.id request.body)
posted_by f who Finalize request = if_admin (is_admin who) Final
posted_by f who (Change kind) request = posted_as Changed (posted_change (is_admin who) (change_in kind request.body))

-- what is known of it once it is read
abbrev pub IsSoundPost : FixedPart → Posted → Type 0
IsSoundPost f (Submission team wanted) = IsSoundSubmission f team wanted
IsSoundPost f (Clarification c) = IsWriter f c.sender c.account
IsSoundPost f (Proposal v) = IsSoundVerdict f v
IsSoundPost f (Verification v) = IsSoundVerdict f v
IsSoundPost f (Opening w) = IsSoundRejudging w
IsSoundPost f (Rejudging path step) = IsSoundStep f step
IsSoundPost f (Clock w) = Unit {0}
IsSoundPost f Final = Unit {0}
IsSoundPost f (Changed w) = IsSoundChange w

-- who posts it
abbrev pub poster : Posted → Audience
poster (Submission team wanted) = audience_at team
poster (Clarification c) = audience_of c.sender
poster (Proposal v) = Jury
poster (Verification v) = Jury
poster (Opening w) = Jury
poster (Rejudging path step) = Jury
poster (Clock w) = Jury
poster Final = Jury
poster (Changed w) = Jury

-- what is done at a moment, or why not
abbrev pub post_done : (now : ℕ) → Posted → ContestState → Result Done RuleRefusal
post_done now (Submission team wanted) x = submission_done now team wanted x
post_done now (Clarification c) x = clarification_done now c.sender c.account c.wanted x
post_done now (Proposal v) x = proposal_done now v x
post_done now (Verification v) x = verification_done now v x
post_done now (Opening w) x = opening_done w x
post_done now (Rejudging path step) x = rejudging_done now (jury_piece path) step x
post_done now (Clock w) x = clock_done now w x
post_done now Final x = final_done now x
post_done now (Changed w) x = change_done now w x

-- what becomes of it
abbrev pub post_outcome : (now : ℕ) → Posted → ContestState → Outcome
post_outcome now posted x = told (post_done now posted x)

-- reading the body, or building the reply, may take memory: not where the caller's role forbids it
abbrev pub post_takes_memory : Caller → Command → Bool
post_takes_memory who Submit = is_some (team_of who)
post_takes_memory who Clarify = may_write who
post_takes_memory who Propose = is_some (judge_of who)
post_takes_memory who Verify = is_some (judge_of who)
post_takes_memory who OpenRejudging = is_some (judge_of who)
post_takes_memory who JudgeRejudging = is_some (judge_of who)
post_takes_memory who ApplyRejudging = is_some (judge_of who)
post_takes_memory who CancelRejudging = is_some (judge_of who)
post_takes_memory who SetClock = is_admin who
post_takes_memory who Finalize = is_admin who
post_takes_memory who (Change kind) = is_admin who

-- whose file is looked at, by its team and its number: files are large, and no more than one is
abbrev pub post_file : Posted → ContestState → Option (ℕ × ℕ)
post_file (Submission team wanted) x = keyed_row team wanted.key x.submissions
post_file (Clarification c) x = None
post_file (Proposal v) x = None
post_file (Verification v) x = None
post_file (Opening w) x = None
post_file (Rejudging path step) x = None
post_file (Clock w) x = None
post_file Final x = None
post_file (Changed w) x = None

-- the idempotency key that it comes with, if there is one
abbrev pub key_of : Posted → Option (List ℕ)
key_of (Submission team wanted) = wanted.key
key_of (Clarification c) = c.wanted.key
key_of (Proposal v) = None
key_of (Verification v) = None
key_of (Opening w) = None
key_of (Rejudging path step) = None
key_of (Clock w) = None
key_of Final = None
key_of (Changed w) = None

-- two are of one sender, and ask for rows of one kind
abbrev pub are_in_one_scope : Posted → Posted → Bool
are_in_one_scope (Submission team v) (Submission other w) = team == other
are_in_one_scope (Clarification c) (Clarification d) = same_scope (scope_for c.sender c.account) (scope_for d.sender d.account)
are_in_one_scope _ _ = false

-- and for the same
abbrev pub ask_for_the_same : Posted → Posted → Bool
ask_for_the_same (Submission team v) (Submission other w) = have_equal_content v w
ask_for_the_same (Clarification c) (Clarification d) = want_the_same c.sender c.wanted d.wanted
ask_for_the_same _ _ = false

-- what it names is there, so that its key is looked at
abbrev pub reaches_key : ContestState → Posted → Bool
reaches_key x (Submission team wanted) = is_complete x.fixed wanted
reaches_key x (Clarification c) = is_some (named_clarification x.fixed c.sender x.clarifications c.wanted)
reaches_key x (Proposal v) = false
reaches_key x (Verification v) = false
reaches_key x (Opening w) = false
reaches_key x (Rejudging path step) = false
reaches_key x (Clock w) = false
reaches_key x Final = false
reaches_key x (Changed w) = false
