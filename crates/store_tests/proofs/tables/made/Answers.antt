use Rattle.std.proofs.Common.{◌∙◌, refl, sym}
use Rattle.contest_types.specs.State.{new_contest}
use Rattle.store_tests.proofs.tables.made.Goals as goal

pub returns-in-Ok-clause-bare : goal.returns-in-Ok-clause-bare
returns-in-Ok-clause-bare c clean =
    let created = c.in-Ok.ensures.created clean c.in_ok-no_tables.ensures in (
      (new_contest c.in_ok-contest.field-0).fixed,
      (record { types = refl; languages = refl; problems = refl; groups = refl; teams = refl; accounts = refl }, created.shows.now_is),
    )

pub returns-in-Ok-clause-kept : goal.returns-in-Ok-clause-kept
returns-in-Ok-clause-kept c clean =
    let created = c.in-Ok.ensures.created clean c.in_ok-no_tables.ensures in
    created.shows.now_is ∙ sym created.shows.kept_is
