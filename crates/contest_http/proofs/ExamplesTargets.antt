-- Worked examples: the path of a target.
use Rattle.std.proofs.Common.{◌≡◌, [], refl, Some, None}
use Rattle.std.specs.Prelude.{codes}
use Rattle.contest_http.specs.Targets.{path_of}

-- a path, as most clients send it
origin : path_of (codes "/contests/demo/teams") ≡ Some (codes "/contests/demo/teams")
origin = refl

root : path_of (codes "/") ≡ Some (codes "/")
root = refl

-- without its query, from the first question mark on
query : path_of (codes "/contests/demo/teams?a=/b?c") ≡ Some (codes "/contests/demo/teams")
query = refl

empty_query : path_of (codes "/a?") ≡ Some (codes "/a")
empty_query = refl

-- nothing is decoded, and no piece is left out
encoded : path_of (codes "/a%2Fb//c/../d#e") ≡ Some (codes "/a%2Fb//c/../d#e")
encoded = refl

-- a URI of HTTP, as it goes to a proxy
absolute : path_of (codes "http://desk.example:8080/contests/demo?x") ≡ Some (codes "/contests/demo")
absolute = refl

no_path : path_of (codes "http://desk.example") ≡ Some (codes "/")
no_path = refl

-- its path begins at the first slash, though that stands in a query
slash_in_query : path_of (codes "http://host?x=/y") ≡ Some (codes "/y")
slash_in_query = refl

query_alone : path_of (codes "http://host?x") ≡ Some (codes "/")
query_alone = refl

-- a path may begin with two slashes
two_slashes : path_of (codes "//host/a") ≡ Some (codes "//host/a")
two_slashes = refl

-- all other targets have none; the scheme has a case
other_scheme : path_of (codes "https://host/a") ≡ None
other_scheme = refl

capitals : path_of (codes "HTTP://host/a") ≡ None
capitals = refl

authority : path_of (codes "host:80") ≡ None
authority = refl

asterisk : path_of (codes "*") ≡ None
asterisk = refl

empty : path_of [] ≡ None
empty = refl
