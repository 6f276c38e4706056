use Rattle.std.proofs.Common.{◌+◌, get_or, length, nat_eq, ap, ◌∙◌, arith}
use Rattle.heap_model.specs.Counting.{one_if}
use Rattle.seat_index.proofs.OwnedOpening.{gathered}
use Rattle.seat_index.proofs.owned_opening.owned_by.Goals as goal

pub returns : goal.returns
returns c = gathered c.args.heap.now c.args.owners.now c.requires.owners.0 c.args.seat c.args.superblocks.now _ c.in_ok-held_by.ensures.ready
    c.requires.owners.1 c.requires.owners.2 c.requires.superblocks (record {
      words_long = c.in_ok-held_by.ensures.long;
      blocks_are = c.in_ok-held_by.ensures.each;
      classes_long = c.in_ok-infos.ensures.long;
      classes_are = c.in_ok-infos.ensures.each;
      ownerships_long = c.in_ok-ownerships_of.ensures.long;
      ownerships_are = c.in_ok-ownerships_of.ensures.each;
      roots_long = c.in_ok-roots_of.ensures.long ∙ ap length c.roots.ensures;
      roots_are = λ n. c.in_ok-roots_of.ensures.each n ∙ ap (λ l. one_if (nat_eq (get_or l n (c.args.seat + 1)) c.args.seat)) c.roots.ensures;
      batch = c.in_ok-with_capacity.ensures.items;
      room = (let k = c.in_ok-with_capacity.ensures.capacity in omega arith);
      stacks = c.in_ok-empty_stacks.ensures;
    })
