-- How much of the demo contest is asked for.
use Rattle.std.proofs.Common.{◌≡◌, length, refl}
use Rattle.contest_demo.specs.Demo.{demo_entries}

-- three types, two languages, two problems, four teams with an account each, and three accounts of the jury
pub all_of_it : length (demo_entries 4 2) ≡ 18
all_of_it = refl

pub one_of_each : length (demo_entries 1 1) ≡ 11
one_of_each = refl

-- there are no more
pub no_more : demo_entries 9 9 ≡ demo_entries 4 2
no_more = refl
