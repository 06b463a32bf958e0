use Rattle.std.proofs.Common.{rules, tests, map, arith, Bor, List, ℕ}
use Rattle.std.proofs.lemmas.Iterator.{YieldsList-from_slice, YieldsList-from_zip, same_from_all}
use Rattle.std.proofs.lemmas.List.{length-map}
use Rattle.sqlite_value.specs.Keys.{plain}
use Rattle.contest_store_tables.proofs.ZipLemmas.{read_by}
use Rattle.contest_store_tables.proofs.schema_test.are_plain.Goals as goal

pub returns-then-orders-keys : goal.returns-then-orders-keys
returns-then-orders-keys c =
    same_from_all c.all.new.self _ _ _ (map (λ (_ : Bor (List ℕ)). plain) c.args.keys.now) c.all.ensures.ran
    (YieldsList-from_zip (YieldsList-from_slice c.args.orders.now cc) (read_by (λ _. plain) (YieldsList-from_slice c.args.keys.now cc)))
    (omega (arith, length-map c.args.keys.now (λ (_ : Bor (List ℕ)). plain))) (λ x q k. search (rules, tests)) (λ x q k. search (rules, tests))
