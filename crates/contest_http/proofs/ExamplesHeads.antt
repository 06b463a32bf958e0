-- Worked examples: where a head ends.
use Rattle.std.proofs.Common.{◌≡◌, true, false, [], refl}
use Rattle.std.specs.Prelude.{codes}
use Rattle.contest_types.specs.declared.limits.TheConstants.{REQUEST_HEAD}
use Rattle.contest_types.specs.declared.refusal.Refusal.TheVariants.{HeadTooLarge, Malformed}
use Rattle.contest_http.specs.Frames.{unended}
use Rattle.contest_http.specs.Head.{has_end, head_of}

-- an empty line ends a head, whichever way its lines end
empty_line : has_end (codes "GET / HTTP/1.1\r\n\r\n") ≡ true
empty_line = refl

line_feeds : has_end (codes "GET / HTTP/1.1\n\n") ≡ true
line_feeds = refl

mixed : has_end (codes "a\r\n\n") ≡ true
mixed = refl

-- one line's end doesn't, nor do two carriage returns
one_line : has_end (codes "GET / HTTP/1.1\r\n") ≡ false
one_line = refl

carriage_returns : has_end (codes "a\r\r\r\r") ≡ false
carriage_returns = refl

half_a_line : has_end (codes "a\n\r") ≡ false
half_a_line = refl

two_returns : has_end (codes "a\n\r\r\n") ≡ false
two_returns = refl

-- the head is the shortest front with an end; what follows isn't looked at
body_follows : head_of (codes "a: b\r\n\r\nbody\n\n") ≡ codes "a: b\r\n\r\n"
body_follows = refl

two_requests : head_of (codes "a\n\nb\n\n") ≡ codes "a\n\n"
two_requests = refl

-- empty lines alone are a head with an end
only_lines : head_of (codes "\r\n\r\nGET / HTTP/1.1\r\n\r\n") ≡ codes "\r\n\r\n"
only_lines = refl

-- without an end it is all that there is
no_end : head_of (codes "GET / HTTP/1.1\r\n") ≡ codes "GET / HTTP/1.1\r\n"
no_end = refl

no_byte : head_of [] ≡ []
no_byte = refl

-- what is refused then goes by how many bytes there are
full : unended REQUEST_HEAD ≡ HeadTooLarge
full = refl

one_less : unended 16_383 ≡ Malformed
one_less = refl
