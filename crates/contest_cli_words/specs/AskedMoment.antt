-- The moment that a command is asked for.
use Rattle.std.specs.Prelude.{◌++◌, ℕ, List, Option, Some, None, codes}
use Rattle.clap.specs.Walk.{Text}
use Rattle.contest_types.specs.MomentText.{IsMomentText}

-- the moment that is named, if one is
abbrev pub NamesMoment : Option Text → Option ℕ → Type 0
NamesMoment None None = Unit {0}
NamesMoment None (Some moment) = ⊥
NamesMoment (Some text) None = ⊥
NamesMoment (Some text) (Some moment) = IsMomentText text moment

-- none is named rightly
abbrev pub NamesNoMoment : Option Text → Type 0
NamesNoMoment text = (at : Option ℕ) → NamesMoment text at → ⊥

-- what is said of a text that shows no moment
abbrev pub no_moment : Text → List ℕ
no_moment text = codes "error: '" ++ text ++ codes "' of '--at' is no moment, as 2024-03-02T10:30:00Z\n"
