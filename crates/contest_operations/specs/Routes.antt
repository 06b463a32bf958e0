-- The one table of routes (paths are the Contest API 2023-06's; a group's scoreboard and those under `/jury/`
-- are own), and the same as matchit keeps it.
use Rattle.std.specs.Prelude.{ℕ, Bool, true, false, List, [], ◌∷◌, Result, Ok, Err, Option, Some, None, is_none, codes, if◌then◌else◌}
use Rattle.std.specs.Option.{option_map}
use Rattle.std.specs.Str.{is_utf8}
use Rattle.matchit.specs.Order.{placed}
use Rattle.matchit.specs.Rows.{RowsOf}
use Rattle.matchit.specs.Route.{Scan, parse_route}
use Rattle.matchit.specs.Router.{RouteOf, route_from, nearest}
use Rattle.matchit.specs.Seek.{first}
use Rattle.matchit.specs.declared.error.InsertError.{InsertError}
use Rattle.contest_objects.specs.declared.contest_objects.ContestEndpoint.TheVariants.{Contests, Contest, State}
use Rattle.contest_objects.specs.declared.settings_objects.SettingsEndpoint.TheVariants.{Groups, JudgementTypes, Languages, Problems, Teams}
use Rattle.contest_operations.specs.Offers.{nothing, reads}
use Rattle.contest_operations.specs.declared.offer.Offer.{Offer}
use Rattle.contest_operations.specs.declared.command.Command.TheVariants.{Submit, Clarify, Propose, Verify, OpenRejudging, JudgeRejudging, ApplyRejudging, CancelRejudging, SetClock, Finalize, Change}
use Rattle.contest_operations.specs.declared.post_change.ChangeKind.TheVariants as kind
use Rattle.contest_operations.specs.declared.operation.Endpoint.TheVariants.{Settings, Submissions, Judgements, Clarifications, Awards}
use Rattle.contest_operations.specs.declared.operation.JuryReading.TheVariants.{Proposals, Rejudgings, Rejudging}
use Rattle.contest_operations.specs.declared.operation.Reading.TheVariants.{Whole, List as AllOf, Object, File, Feed, Scoreboard, GroupScoreboard, Account as OwnAccount, Jury as ForJury}

-- each route's text, and what is offered there
abbrev pub route_rows : List (List ℕ × Offer)
route_rows =
    (codes "/contests", reads (Whole Contests))
    ∷ (codes "/contests/{contest}", record (reads (Whole Contest)) { patch = Some SetClock })
    ∷ (codes "/contests/{contest}/state", reads (Whole State))
    ∷ (codes "/contests/{contest}/account", reads OwnAccount)
    ∷ (codes "/contests/{contest}/scoreboard", reads Scoreboard)
    ∷ (codes "/contests/{contest}/event-feed", reads Feed)
    ∷ (codes "/contests/{contest}/judgement-types", reads (AllOf (Settings JudgementTypes)))
    ∷ (codes "/contests/{contest}/judgement-types/{id}", reads (Object (Settings JudgementTypes)))
    ∷ (codes "/contests/{contest}/languages", reads (AllOf (Settings Languages)))
    ∷ (codes "/contests/{contest}/languages/{id}", reads (Object (Settings Languages)))
    ∷ (codes "/contests/{contest}/problems", reads (AllOf (Settings Problems)))
    ∷ (codes "/contests/{contest}/problems/{id}", reads (Object (Settings Problems)))
    ∷ (codes "/contests/{contest}/groups", reads (AllOf (Settings Groups)))
    ∷ (codes "/contests/{contest}/groups/{id}", reads (Object (Settings Groups)))
    ∷ (codes "/contests/{contest}/groups/{id}/scoreboard", reads GroupScoreboard)
    ∷ (codes "/contests/{contest}/teams", reads (AllOf (Settings Teams)))
    ∷ (codes "/contests/{contest}/teams/{id}", reads (Object (Settings Teams)))
    ∷ (codes "/contests/{contest}/judgements", reads (AllOf Judgements))
    ∷ (codes "/contests/{contest}/judgements/{id}", reads (Object Judgements))
    ∷ (codes "/contests/{contest}/awards", reads (AllOf Awards))
    ∷ (codes "/contests/{contest}/awards/{id}", reads (Object Awards))
    ∷ (codes "/contests/{contest}/submissions", record (reads (AllOf Submissions)) { post = Some Submit })
    ∷ (codes "/contests/{contest}/submissions/{id}", reads (Object Submissions))
    ∷ (codes "/contests/{contest}/submissions/{id}/files", reads File)
    ∷ (codes "/contests/{contest}/clarifications", record (reads (AllOf Clarifications)) { post = Some Clarify })
    ∷ (codes "/contests/{contest}/clarifications/{id}", reads (Object Clarifications))
    ∷ (codes "/jury/proposals", record (reads (ForJury Proposals)) { post = Some Propose })
    ∷ (codes "/jury/verifications", record nothing { post = Some Verify })
    ∷ (codes "/jury/finalize", record nothing { post = Some Finalize })
    ∷ (codes "/jury/accounts", record nothing { post = Some (Change kind.Account) })
    ∷ (codes "/jury/teams", record nothing { post = Some (Change kind.Team) })
    ∷ (codes "/jury/tokens", record nothing { post = Some (Change kind.Token) })
    ∷ (codes "/jury/names", record nothing { post = Some (Change kind.Name) })
    ∷ (codes "/jury/extension", record nothing { post = Some (Change kind.Extension) })
    ∷ (codes "/jury/rejudgings", record (reads (ForJury Rejudgings)) { post = Some OpenRejudging })
    ∷ (codes "/jury/rejudgings/{n}", reads (ForJury Rejudging))
    ∷ (codes "/jury/rejudgings/{n}/verdicts", record nothing { post = Some JudgeRejudging })
    ∷ (codes "/jury/rejudgings/{n}/apply", record nothing { post = Some ApplyRejudging })
    ∷ (codes "/jury/rejudgings/{n}/cancel", record nothing { post = Some CancelRejudging })
    ∷ []

abbrev pub Routes : Type 0
Routes = RowsOf (RouteOf Offer)

abbrev pub with_scan : Result Scan InsertError → Offer → Routes → Routes
with_scan (Ok s) offer table = placed (s.pattern, route_from s offer) table
with_scan (Err e) offer table = table

-- the table with one more route, by its text
unfoldable pub with_route : List ℕ → Offer → Routes → Routes
with_route text offer table = with_scan (parse_route text) offer table

-- with all of these, in their order
abbrev pub with_routes : List (List ℕ × Offer) → Routes → Routes
with_routes [] table = table
with_routes (row ∷ rows) table = with_routes rows (with_route row.0 row.1 table)

unfoldable pub routes : Routes
routes = with_routes route_rows []

-- what is offered on a path in a table, if it has a route; a path that is no text has none
abbrev pub offer_in : Routes → List ℕ → Option Offer
offer_in table path = if is_utf8 path then option_map (λ found. found.value) (first table path) else None

abbrev pub offer_at : List ℕ → Option Offer
offer_at path = offer_in routes path

-- Words of private functions, from here on: nothing public is said with them.

abbrev pub is_free : Routes → Result Scan InsertError → Bool
is_free table (Ok s) = is_none (nearest s.pattern table)
is_free table (Err e) = false

-- the text is a route's, and none of the table's routes conflicts with it
unfoldable pub takes_route : Routes → List ℕ → Bool
takes_route table text = is_free table (parse_route text)

-- so are all of these, one after another
abbrev pub takes_routes : Routes → List (List ℕ × Offer) → Bool
takes_routes table [] = true
takes_routes table (row ∷ rows) = if takes_route table row.0 then takes_routes (with_route row.0 row.1 table) rows else false
