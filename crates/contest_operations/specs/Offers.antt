-- What is offered on a route (Contest API 2023-06). HEAD asks for what GET asks for (RFC 9110, section 9.3.2).
use Rattle.std.specs.Prelude.{ℕ, Bool, true, false, ◌||◌, List, Option, Some, None, codes, is_some}
use Rattle.std.specs.Option.{option_map}
use Rattle.contest_operations.specs.declared.offer.AllowedMethods.{AllowedMethods}
use Rattle.contest_operations.specs.declared.offer.Offer.{Offer}
use Rattle.contest_operations.specs.declared.operation.Operation.{Operation}
use Rattle.contest_operations.specs.declared.operation.Operation.TheVariants.{Read, Do}
use Rattle.contest_operations.specs.declared.operation.Reading.{Reading}
use Rattle.contest_requests.specs.declared.request.Method.{Method}
use Rattle.contest_requests.specs.declared.request.Method.TheVariants as method

-- a route on which nothing is served yet
abbrev pub nothing : Offer
nothing = record { get = None; post = None; patch = None }

-- a route that is only read
abbrev pub reads : Reading → Offer
reads reading = record nothing { get = Some reading }

abbrev pub is_served : Offer → Bool
is_served o = is_some o.get || is_some o.post || is_some o.patch

abbrev pub methods_of : Offer → AllowedMethods
methods_of o = record { get = is_some o.get; post = is_some o.post; patch = is_some o.patch }

abbrev pub text_of_methods : (get post patch : Bool) → List ℕ
text_of_methods true true true = codes "GET, HEAD, POST, PATCH"
text_of_methods true true false = codes "GET, HEAD, POST"
text_of_methods true false true = codes "GET, HEAD, PATCH"
text_of_methods true false false = codes "GET, HEAD"
text_of_methods false true true = codes "POST, PATCH"
text_of_methods false true false = codes "POST"
text_of_methods false false true = codes "PATCH"
text_of_methods false false false = codes ""

-- as an `Allow` field lists them
abbrev pub methods_text : AllowedMethods → List ℕ
methods_text m = text_of_methods m.get m.post m.patch

-- the method reads, and adds nothing
abbrev pub is_read : Method → Bool
is_read method.Get = true
is_read method.Head = true
is_read _ = false

-- what a method asks for there
abbrev pub operation_of : Offer → Method → Option Operation
operation_of o method.Get = option_map Read o.get
operation_of o method.Head = option_map Read o.get
operation_of o method.Post = option_map Do o.post
operation_of o method.Patch = option_map Do o.patch
operation_of o method.Other = None
