use Rattle.parcel_tests.proofs.exchange.deal.Goals as goal

pub a_pass_to_each-requires : goal.a_pass_to_each-requires
a_pass_to_each-requires g c = record {
  owners = c.each_pass_of_a_row_is_to_its_queue.ensures.fewer 1 c.args.queues.now c.args.owners.now.items
      c.requires;
}
