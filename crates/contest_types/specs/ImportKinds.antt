-- The kinds of files that are imported, by the words that name them (own).
use Rattle.std.specs.Prelude.{ℕ, List, Option, Some, None, codes, if◌then◌else◌}
use Rattle.std.specs.Str.{bytes_eq}
use Rattle.contest_types.specs.declared.import_kind.ImportKind.{ImportKind}
use Rattle.contest_types.specs.declared.import_kind.ImportKind.TheVariants.{Fixed, VerdictsCsv}
use Rattle.contest_types.specs.declared.import_kind.FixedKind.TheVariants.{Settings, TeamsCsv, AccountsCsv}
use Rattle.contest_types.specs.declared.import_kind.SettingsKind.TheVariants.{JudgementTypes, Languages, Problems, Groups, Teams}

-- the kind of file that a word names
abbrev pub kind_named : List ℕ → Option ImportKind
kind_named name =
    if bytes_eq name (codes "judgement-types") then Some (Fixed (Settings JudgementTypes))
    else (if bytes_eq name (codes "languages") then Some (Fixed (Settings Languages))
    else (if bytes_eq name (codes "problems") then Some (Fixed (Settings Problems))
    else (if bytes_eq name (codes "groups") then Some (Fixed (Settings Groups))
    else (if bytes_eq name (codes "teams") then Some (Fixed (Settings Teams))
    else (if bytes_eq name (codes "teams-csv") then Some (Fixed TeamsCsv)
    else (if bytes_eq name (codes "accounts-csv") then Some (Fixed AccountsCsv)
    else (if bytes_eq name (codes "verdicts-csv") then Some VerdictsCsv
    else None)))))))
