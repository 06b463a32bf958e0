use Rattle.std.proofs.Common.{◌≡◌, ◌&&◌, Bool}
use Rattle.contest_lists.specs.Lists.{loaded}
use Rattle.contest_types.specs.State.{ContestState}
use Rattle.contest_types.specs.Valid.{is_valid}
use Rattle.contest_store_valid.specs.Files.{has_small_files}
use Rattle.contest_store_valid.proofs.WholeLemmas.{on_ok, told_of_contest}
use Rattle.contest_store_valid.proofs.valid.is_valid.Goals as goal

pub returns : goal.returns
returns c =
    let lists = c.args.lists.now in
    record {
      lists = c.are_all_valid.ensures;
      contest = on_ok (λ (answer : Bool). answer ≡ is_valid lists) (λ answer. (x : ContestState) → loaded x ≡ lists → (answer && has_small_files x) ≡ is_valid x)
          (λ answer is x e. told_of_contest lists x answer is e) c.are_all_valid.result c.are_all_valid.ensures;
    }
