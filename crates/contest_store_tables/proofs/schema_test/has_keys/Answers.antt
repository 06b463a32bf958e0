use Rattle.std.proofs.Common.{rules, tests, map, arith, Bor, List, ℕ}
use Rattle.std.proofs.lemmas.Iterator.{YieldsList-from_slice, YieldsList-from_zip, same_from_all}
use Rattle.std.proofs.lemmas.List.{length-map}
use Rattle.contest_store_tables.proofs.ZipLemmas.{read_by}
use Rattle.contest_store_tables.proofs.schema_test.has_keys.Goals as goal

pub returns-then-len-keys : goal.returns-then-len-keys
returns-then-len-keys c =
    let key = λ (places : Bor (List ℕ)). places.now in
    same_from_all c.all.new.self _ _ _ (map key c.args.keys.now) c.all.ensures.ran
    (YieldsList-from_zip (YieldsList-from_slice c.args.table.now.uniques cc) (read_by key (YieldsList-from_slice c.args.keys.now cc)))
    (omega (arith, length-map c.args.keys.now key)) (λ x q k. search (rules, tests)) (λ x q k. search (rules, tests))
