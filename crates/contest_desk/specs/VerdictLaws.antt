-- Imported verdicts, in the subject's words. Each law is the contract of a function of src/laws/verdicts.rt.
use Rattle.std.specs.Prelude.{◌≡◌, ℕ, true, List}
use Rattle.contest_types.specs.Order.{Has}
use Rattle.contest_types.specs.State.{ContestState}
use Rattle.contest_types.specs.declared.audience.Audience.{Audience}
use Rattle.contest_types.specs.declared.entry.Entry.TheVariants.{NewRelease}
use Rattle.contest_types.specs.declared.import_kind.ImportKind.TheVariants.{VerdictsCsv}
use Rattle.contest_types.specs.declared.submission.Release.{Release}
use Rattle.contest_desk.specs.Imports.{entries_of, imported}
use Rattle.contest_desk.specs.Unseen.{AreUnseen, IsUnseenRelease}

-- an audience can't notice that verdicts are imported, if it can't notice any of their releases: each is on another team's
-- submission, which is frozen, or whose team is hidden
abbrev pub ImportedVerdictsAreUnseen : Type 0
ImportedVerdictsAreUnseen =
    (a : Audience) (x : ContestState) (now : ℕ) (file : List ℕ)
    → ((v : Release) → Has (entries_of (imported x now VerdictsCsv file)) (NewRelease v) → IsUnseenRelease a x v)
    → AreUnseen a x (entries_of (imported x now VerdictsCsv file))

-- nor where somebody has to verify them first, whatever they are on
abbrev pub PendingVerdictsAreUnseen : Type 0
PendingVerdictsAreUnseen =
    (a : Audience) (x : ContestState) (now : ℕ) (file : List ℕ) → x.fixed.settings.head.verification ≡ true
    → AreUnseen a x (entries_of (imported x now VerdictsCsv file))
