use Rattle.std.proofs.Common.{◌++◌, ◌+◌, ◌-◌, ◌∙◌, sym, ap, ℕ, List, Option, Some, None, take, drop, arith, append_assoc, take-add, length-drop}
use Rattle.std.proofs.lemmas.List.{take_all, take_rest}
use Rattle.std.specs.Io.KnownBytes.{Appends}
use Rattle.contest_streams.proofs.StreamLemmas.{some_taken}
use Rattle.contest_streams.proofs.output.write_all.Goals as goal

joins : (a b c : Option (List ℕ)) (xs : List ℕ) (i n : ℕ) → Appends a b (take i xs) → Appends b c (take n (drop i xs)) → Appends a c (take (i + n) xs)
joins None b c xs i n p q = tt
joins (Some x) None c xs i n p q = absurd p
joins (Some x) (Some y) None xs i n p q = absurd q
joins (Some x) (Some y) (Some z) xs i n p q =
    q ∙ ap (λ t. t ++ take n (drop i xs)) p ∙ append_assoc x (take i xs) (take n (drop i xs)) ∙ ap (λ t. x ++ t) (sym (take-add i n xs))

pub loop-sent-preserved : goal.loop-sent-preserved
loop-sent-preserved g c =
    let r = take_rest c.args.bytes.now c.loop-sent.sent in
    let e = c.in-Ok.ensures in
    let b = e.bytes in
    let n = e.bound in
    record {
      calm = some_taken c.in-Ok.count _ _ _ c.if-count-eq0.false e.counted ∙ c.loop-sent.invariant.calm;
      within = grind (arith, length-drop, take_all, r, n, c.loop-sent-test.true);
      out = joins _ _ _ c.args.bytes.now c.loop-sent.sent c.in-Ok.count c.loop-sent.invariant.out (rw r at b);
    }
