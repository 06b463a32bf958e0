use Rattle.std.proofs.Common.{◌≡◌, ◌≤◌, ◌∙◌, ap, sym, [], length, arith}
use Rattle.std.proofs.lemmas.List.{append-nil}
use Rattle.httparse.specs.Grammar.{print_request}
use Rattle.contest_http.proofs.HeadFields.{head_fields}
use Rattle.contest_http.proofs.parsing.parse_head.Goals as goal

pub returns-else-spans-bytes-clause-none : goal.returns-else-spans-bytes-clause-none
returns-else-spans-bytes-clause-none c _ h r =
    let fits : length h.fields ≤ length c.args.room.now = let f = head_fields c.args.bytes.now h r in omega (arith, c.requires, f) in
    let found = rw (c.in-Ok-Complete.is, c.in-Ok-Complete.field-0-is) at (c.parse_request.ensures.found h [] r fits) in
    let whole : c.args.bytes.now ≡ print_request h = r.1 ∙ append-nil (print_request h) in
    c.if-spans-bytes.false (found.len ∙ sym (ap length whole))

pub returns-in-Err-clause-none : goal.returns-in-Err-clause-none
returns-in-Err-clause-none c _ h r =
    let fits : length h.fields ≤ length c.args.room.now = let f = head_fields c.args.bytes.now h r in omega (arith, c.requires, f) in
    rw c.in-Err.is at (c.parse_request.ensures.found h [] r fits)
