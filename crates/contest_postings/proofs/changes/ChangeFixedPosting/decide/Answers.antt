use Rattle.std.proofs.Common.{◌∙◌, ap}
use Rattle.contest_rules.specs.declared.extensions.Extension.{Extension}
use Rattle.contest_postings.specs.DoneThings.{ruled_with}
use Rattle.contest_postings.specs.PostChanges.{extension_made}
use Rattle.contest_postings.specs.declared.changes.FixedChange.TheVariants.{Extension as OfExtension}
use Rattle.contest_postings.specs.declared.changes.MadeChange.{MadeChange}
use Rattle.contest_postings.proofs.LoadedClock.{extended_over}
use Rattle.contest_postings.proofs.changes.ChangeFixedPosting.decide.Goals as goal

abbrev made : Extension → MadeChange
made e = record { change = OfExtension e.duration e.freeze; is_new = e.is_new }

pub returns-in-Extension : goal.returns-in-Extension
returns-in-Extension c = λ x valid are fits.
    rw c.in-Extension.is (c.extend.ensures ∙ (ap (extension_made c.fixed-fixed.result.now c.submissions.result.now c.args.now) c.in-Extension.wanted-is ∙ ap (ruled_with made) (extended_over x c.args.lists.now c.args.now c.in-Extension.wanted are c.fixed-fixed.ensures c.submissions.ensures)))
