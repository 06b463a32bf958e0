use Rattle.std.proofs.Common.{◌≡◌, ◌∙◌, sym, ap, ℕ, List, Bor, Bool, true, false, map}
use Rattle.std.specs.Prelude.{if◌then◌else◌}
use Rattle.std.specs.List.{list_any}
use Rattle.clap.proofs.WalkLemmas.{list_any-map}
use Rattle.contest_cli_words.specs.Help.{is_help}
use Rattle.contest_cli.specs.declared.invocation.CommandName.{CommandName}
use Rattle.contest_cli.specs.declared.invocation.Invocation.{Invocation}
use Rattle.contest_cli.specs.declared.invocation.Invocation.TheVariants.{To, HelpOf}
use Rattle.contest_cli.proofs.invocation.asked_of.Goals as goal

asks : (options : List (Bor (List ℕ))) (b : Bool) → list_any (λ s. is_help s.now) options ≡ b → list_any is_help (map (λ s. s.now) options) ≡ b
asks options b is = sym (list_any-map is_help (λ (s : Bor (List ℕ)). s.now) options) ∙ is

abbrev by : CommandName → Bool → Invocation
by command b = if b then HelpOf command else To command

pub returns-then-asks_help : goal.returns-then-asks_help
returns-then-asks_help c = sym (ap (by c.args.command) (asks c.args.options.now true (sym c.asks_help.ensures ∙ c.if-asks_help.true)))

pub returns-else-asks_help : goal.returns-else-asks_help
returns-else-asks_help c = sym (ap (by c.args.command) (asks c.args.options.now false (sym c.asks_help.ensures ∙ c.if-asks_help.false)))
