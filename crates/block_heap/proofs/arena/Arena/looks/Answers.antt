use Rattle.std.proofs.Common.{◌<◌, refl, arith}
use Rattle.heap_model.specs.Sizes.{largest_small}
use Rattle.size_table.proofs.ClassLemmas.{least_small}
use Rattle.block_heap.proofs.arena.Arena.looks.Goals as goal

pub returns-in-None : goal.returns-in-None
returns-in-None g c =
    let large : largest_small < c.args.bytes = c.in-None.ensures.none.0 refl in
    record {
      used = refl;
      class = λ class least. absurd (let small = least_small c.args.bytes class least in omega arith);
      free = λ small. absurd (omega arith);
      large = λ large. (refl, refl);
    }
