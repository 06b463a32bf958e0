use Rattle.contest_types.specs.contracts.objects.ProblemPartialEq.TheImpl.{ghosts}
use Rattle.std.proofs.Common.{sym, ◌∙◌}
use Rattle.contest_types.proofs.AdditionLemmas.{place_of_new}
use Rattle.contest_types.specs.declared.objects.Problem.{Problem}
use Rattle.contest_types.proofs.SetupLemmas.{labels_push, room_for}
use Rattle.contest_types.proofs.settings.Settings.add_problem.Goals as goal

pub push_within-requires : goal.push_within-requires
push_within-requires c = place_of_new (λ (p : Problem). p.id) ghosts.eq c.self.inside.problems c.args.problem (sym c.in-New.ensures)

pub invariant_of-self-in-New : goal.invariant_of-self-in-New
invariant_of-self-in-New c = record {
  head = c.self.invariant.head;
  types = c.self.invariant.types;
  languages = c.self.invariant.languages;
  problems = c.in_ok-push_within-in-New.ensures.different;
  labels = rw c.in_ok-push_within-in-New.ensures.ok (labels_push c.self.inside.problems c.args.problem c.self.invariant.labels (rw (← c.as_slice.ensures.rows) (sym c.has_label.ensures ∙ c.if-has_label.false)));
  groups = c.self.invariant.groups;
  teams = c.self.invariant.teams;
  references = c.self.invariant.references;
  few_types = c.self.invariant.few_types;
  few_languages = c.self.invariant.few_languages;
  few_problems = rw c.in_ok-push_within-in-New.ensures.ok (room_for _ c.self.inside.problems c.args.problem c.in_ok-push_within-in-New.ensures.room);
  few_groups = c.self.invariant.few_groups;
  few_teams = c.self.invariant.few_teams;
}
