-- A head of some bytes has at most a third as many fields.
use Rattle.std.proofs.Common.{◌≡◌, ◌≤◌, ◌*◌, ◌+◌, ℕ, List, [], ◌∷◌, ◌++◌, length, arith, length-append, rules, ◌∙◌}
use Rattle.std.proofs.lemmas.List.{append-nil}
use Rattle.std.specs.Prelude.{All}
use Rattle.std.specs.List.{flat_map}
use Rattle.std.proofs.lemmas.List.Elements.{All-head, All-tail}
use Rattle.httparse.specs.Grammar.{Field, IsField, print_field, print_end, print_blank, print_version, print_request, LineEnd, crlf, lf, RequestHead, ReadsRequest}

end_some : (e : LineEnd) → 1 ≤ length (print_end e)
end_some crlf = search rules
end_some lf = search rules

append3 : (n c r e : List ℕ) (x : ℕ) → length (n ++ x ∷ r ++ e) ≡ length n + 1 + length r + length e
append3 n c r e x = grind (arith, length-append)

field_some : (f : Field) → IsField f → 3 ≤ length (print_field f)
field_some f ok =
    let n = ok.name.0 in
    let e = end_some f.end in
    let all = append3 f.name [] f.raw (print_end f.end) 58 in
    rw all (omega arith)

pub fields_fit : (fs : List Field) → All IsField fs → 3 * length fs ≤ length (flat_map print_field fs)
fields_fit [] ok = search rules
fields_fit (f ∷ fs) ok =
    let one = field_some f (All-head IsField f fs ok) in
    let more = fields_fit fs (All-tail IsField f fs ok) in
    let both : length (print_field f ++ flat_map print_field fs) ≡ length (print_field f) + length (flat_map print_field fs) = length-append _ _ in
    rw both (omega arith)

tail_len : (a b c d e f g : List ℕ) (x y : ℕ) → length g ≤ length (a ++ b ++ x ∷ c ++ y ∷ d ++ e ++ (g ++ f))
tail_len a b c d e f g x y = grind (arith, length-append)

print_len : (h : RequestHead) → length (flat_map print_field h.fields) ≤ length (print_request h)
unfolding print_request
print_len h = tail_len (print_blank h.blank) h.method h.target (print_version h.minor) (print_end h.line_end) (print_end h.last) (flat_map print_field h.fields) 32 32

pub head_fields : (buf : List ℕ) (h : RequestHead) → ReadsRequest buf h [] → 3 * length h.fields ≤ length buf
head_fields buf h r =
    let fit = fields_fit h.fields r.0.fields in
    let len = print_len h in
    let whole : buf ≡ print_request h = r.1 ∙ append-nil (print_request h) in
    rw whole (omega (arith, fit, len))
