-- The route of a path that is a text, and of one that is none.
use Rattle.std.proofs.Common.{◌≡◌, ◌∙◌, ℕ, List, [], Bool, true, false, None, Result, Ok, Err, refl, sym, ap}
use Rattle.std.specs.Prelude.{OnOk, is_none}
use Rattle.std.proofs.lemmas.Bool.{false≢true}
use Rattle.std.specs.Option.{option_map}
use Rattle.std.specs.Str.{is_utf8, IsUtf8}
use Rattle.std.proofs.lemmas.Str.{is_utf8-from_IsUtf8, IsUtf8-from_is_utf8}
use Rattle.matchit.specs.Route.{Scan, parse_route}
use Rattle.matchit.specs.Router.{InsertsRead, nearest}
use Rattle.matchit.specs.Seek.{first}
use Rattle.matchit.specs.declared.error.InsertError.{InsertError}
use Rattle.matchit.proofs.OnLiterals.{matchit_on_literals}
use Rattle.matchit.specs.declared.error.InsertError.TheVariants.{Conflict, InvalidParam, InvalidParamSegment, InvalidCatchAll, OutOfMemory}
use Rattle.contest_operations.specs.Routes.{Routes, route_rows, routes, with_scan, with_route, with_routes, is_free, takes_route, takes_routes, offer_in}
use Rattle.contest_operations.specs.declared.offer.Offer.{Offer}

pub offer_of_text : (table : Routes) (path : List ℕ) → IsUtf8 path → offer_in table path ≡ option_map (λ found. found.value) (first table path)
offer_of_text table path text = rw (is_utf8-from_IsUtf8 path text) refl

no_route_at : (table : Routes) (path : List ℕ) (b : Bool) → is_utf8 path ≡ b → (IsUtf8 path → ⊥) → offer_in table path ≡ None
no_route_at table path true is none = absurd (none (IsUtf8-from_is_utf8 path is))
no_route_at table path false is none = rw is refl

pub no_route : (table : Routes) (path : List ℕ) → (IsUtf8 path → ⊥) → offer_in table path ≡ None
no_route table path none = no_route_at table path (is_utf8 path) refl none

-- where a route conflicts with none, only memory can be wanting
only_memory_read : (s : Result Scan InsertError) (offer : Offer) (old new : Routes) (e : InsertError) → is_free old s ≡ true → InsertsRead s offer old new (Err e) → e ≡ OutOfMemory
only_memory_read (Ok s) offer old new OutOfMemory free h = refl
only_memory_read (Ok s) offer old new InvalidParamSegment free h = absurd h.1
only_memory_read (Ok s) offer old new InvalidParam free h = absurd h.1
only_memory_read (Ok s) offer old new InvalidCatchAll free h = absurd h.1
only_memory_read (Ok s) offer old new (Conflict with) free h = let none : is_none (nearest s.pattern old) ≡ false = ap is_none h.1.1 in absurd (false≢true (sym none ∙ free))
only_memory_read (Err f) offer old new e free h = absurd (false≢true free)

pub only_memory : (text : List ℕ) (offer : Offer) (old new : Routes) (e : InsertError) → takes_route old text ≡ true → InsertsRead (parse_route text) offer old new (Err e) → e ≡ OutOfMemory
unfolding takes_route
only_memory text offer old new e free h = only_memory_read (parse_route text) offer old new e free h

taken_read : (s : Result Scan InsertError) (offer : Offer) (old new : Routes) (r : Result (Unit {0}) InsertError) → InsertsRead s offer old new r → OnOk r (new ≡ with_scan s offer old)
taken_read (Ok s) offer old new (Ok u) h = h.1
taken_read (Ok s) offer old new (Err e) h = tt
taken_read (Err e) offer old new (Ok u) h = h.0
taken_read (Err e) offer old new (Err f) h = tt

-- what a route's insert makes of the table
pub taken : (text : List ℕ) (offer : Offer) (old new : Routes) (r : Result (Unit {0}) InsertError) → InsertsRead (parse_route text) offer old new r → OnOk r (new ≡ with_route text offer old)
unfolding with_route
taken text offer old new r h = taken_read (parse_route text) offer old new r h

-- no route of the table conflicts with one before it
pub all_taken : takes_routes [] route_rows ≡ true
unfolding matchit_on_literals takes_route with_route
all_taken = refl

pub all_made : with_routes route_rows [] ≡ routes
unfolding routes
all_made = refl
