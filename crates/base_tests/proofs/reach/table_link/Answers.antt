use Rattle.std.proofs.Common.{◌<◌, length, sym, ◌∙◌, ap, arith, Some}
use Rattle.std.proofs.lemmas.Option.{slice_get-get_or, slice_get_past}
use Rattle.std.proofs.lemmas.List.FromFn.{length-map-range_with_len, get_or-map-range_with_len}
use Rattle.base_tests.specs.Tables.{each_link, to_node}
use Rattle.base_tests.proofs.reach.table_link.Goals as goal

pub returns-then-at-block : goal.returns-then-at-block
returns-then-at-block c =
    let long = length-map-range_with_len to_node 0 (length c.args.block.now) in
    let below : c.args.at < length (each_link c.args.block.now) = omega arith in
    sym (slice_get-get_or (each_link c.args.block.now) c.args.at (to_node 0) below
    ∙ ap Some (get_or-map-range_with_len to_node 0 (length c.args.block.now) c.args.at c.args.at (to_node 0) (omega arith) (omega arith)))

pub returns-else-at-block : goal.returns-else-at-block
returns-else-at-block c =
    let long = length-map-range_with_len to_node 0 (length c.args.block.now) in
    sym (slice_get_past (each_link c.args.block.now) c.args.at (omega arith))
