use Rattle.std.proofs.Common.{arith, sym, refl, ◌∙◌, ◌≡◌, ◌+◌, ◌++◌, ◌∷◌, [], length, length-append, Result, Ok, Err, OnErr}
use Rattle.std.proofs.KnownBytes.{Consumes-nil}
use Rattle.contest_http.proofs.HeadLemmas.{still_init, takes_more, still_more, head_whole, head_cut, head_most, part_kept, part_more}
use Rattle.contest_http.proofs.head.read_head.Goals as goal

on_err_always : {T E P : Type 0} (r : Result T E) → P → OnErr r P
on_err_always (Ok v) p = tt
on_err_always (Err e) p = p

pub loop-reader-init : goal.loop-reader-init
loop-reader-init g c = record {
  count = omega arith;
  within = rw c.new-bytes.ensures.items (omega arith);
  taken = rw c.new-bytes.ensures.items (Consumes-nil _);
  none = rw c.new-bytes.ensures.items refl;
  still = rw c.new-bytes.ensures.items (still_init _);
}

pub returns-in_err-next_byte-clause-err : goal.returns-in_err-next_byte-clause-err
returns-in_err-next_byte-clause-err g c =
    let i = c.loop-reader.invariant in
    on_err_always _ (part_kept _ _ _ c.loop-reader.bytes.items i.still c.in_err-next_byte.ensures.kept i.taken)

pub returns-in_err-add_byte-in-Some-clause-err : goal.returns-in_err-add_byte-in-Some-clause-err
returns-in_err-add_byte-in-Some-clause-err g c =
    let i = c.loop-reader.invariant in
    let some = rw c.in-Some.is at c.in_ok-next_byte.ensures.some in
    on_err_always _ (part_more _ _ _ c.loop-reader.bytes.items c.in-Some.byte (omega (arith, c.loop-reader-test.true, c.len.ensures)) i.still some i.taken)

pub returns-then-branch-clause-ok : goal.returns-then-branch-clause-ok
returns-then-branch-clause-ok g c =
    let i = c.loop-reader.invariant in
    let e = c.in_ok-add_byte-in-Some.ensures in
    let some = rw c.in-Some.is at c.in_ok-next_byte.ensures.some in
    rw e.bytes (head_whole _ _ _ c.loop-reader.bytes.items c.in-Some.byte (omega (arith, c.loop-reader-test.true, c.len.ensures)) i.still some i.taken (sym e.end ∙ c.if-branch.true))

pub loop-reader-preserved : goal.loop-reader-preserved
loop-reader-preserved g c =
    let i = c.loop-reader.invariant in
    let e = c.in_ok-add_byte-in-Some.ensures in
    let bytes = c.loop-reader.bytes.items in
    let some = rw c.in-Some.is at c.in_ok-next_byte.ensures.some in
    let one : length (bytes ++ c.in-Some.byte ∷ []) ≡ length bytes + 1 = length-append bytes (c.in-Some.byte ∷ []) in
    record {
      count = omega (arith, i.count, c.next_byte.ensures.count);
      within = rw e.bytes (rw one (omega (arith, c.loop-reader-test.true)));
      taken = rw e.bytes (takes_more _ _ _ bytes c.in-Some.byte i.taken some);
      none = rw e.bytes (sym e.end ∙ c.if-branch.false);
      still = rw e.bytes (still_more _ _ _ bytes c.in-Some.byte (omega (arith, c.loop-reader-test.true, c.len.ensures)) i.still some i.taken (sym e.end ∙ c.if-branch.false));
    }

pub returns-in-None-clause-ok : goal.returns-in-None-clause-ok
returns-in-None-clause-ok g c =
    let some = rw c.in-None.is at c.in_ok-next_byte.ensures.some in
    head_cut _ _ _ c.loop-reader.bytes.items c.loop-reader.invariant.still some.1 some.0 c.loop-reader.invariant.taken

pub returns-clause-ok : goal.returns-clause-ok
returns-clause-ok g c =
    head_most _ _ c.loop-reader.bytes.items (omega (arith, c.loop-reader-test.false, c.len.ensures)) c.loop-reader.invariant.still c.loop-reader.invariant.taken
