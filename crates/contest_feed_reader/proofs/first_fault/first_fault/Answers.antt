use Rattle.std.proofs.Common.{[]}
use Rattle.contest_types.specs.declared.limits.TheConstants.{JUDGEMENT_TYPES, GROUPS, TEAMS}
use Rattle.contest_feed_reader.specs.References.{full_faults, ids_of, judgement_faults, problem_faults, submission_faults}
use Rattle.contest_feed_reader.proofs.FaultLemmas.{all_faults}
use Rattle.contest_feed_reader.proofs.first_fault.first_fault.Goals as goal

pub returns : goal.returns
returns c =
    let r = c.args.rows.now in
    let types = rw c.deref.ensures.value at c.in_ok-types.ensures in
    let problems = rw c.deref-2.ensures.value at c.in_ok-problems.ensures in
    let teams = rw c.deref-3.ensures.value at c.in_ok-teams.ensures in
    all_faults (full_faults JUDGEMENT_TYPES r.types.items) (problem_faults [] r.problems.items) (full_faults GROUPS r.groups.items) (full_faults TEAMS r.teams.items)
    (submission_faults c.args.duration (ids_of r.teams.items) (ids_of r.problems.items) [] r.submissions.items) (judgement_faults (ids_of r.types.items) r.judgements.items)
    _ _ _ _ _ _
    (rw c.deref-4.ensures.value at c.note_full.ensures)
    (rw c.deref-5.ensures.value at c.note_problems.ensures)
    (rw c.deref-6.ensures.value at c.note_full-2.ensures)
    (rw c.deref-7.ensures.value at c.note_full-3.ensures)
    (rw c.deref-8.ensures.value at (c.in_ok-note_submissions.ensures (ids_of r.teams.items) (ids_of r.problems.items) teams problems))
    (rw c.deref-9.ensures.value at (c.note_judgements.ensures (ids_of r.types.items) types))
