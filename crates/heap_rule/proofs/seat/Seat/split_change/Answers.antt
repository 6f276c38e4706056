use Rattle.std.proofs.Common.{◌-◌, ◌/◌, ap, ◌∙◌}
use Rattle.heap_model.specs.Geometry.{start_word}
use Rattle.heap_rule.specs.Seated.{SeatView}
use Rattle.heap_rule.proofs.ChangeLemmas.{split_change}
use Rattle.heap_rule.proofs.NoteLemmas.{split_notes}
use Rattle.heap_rule.proofs.seat.Seat.split_change.Goals as goal

pub returns-clause-notes : goal.returns-clause-notes
returns-clause-notes c =
    let cap = c.self.invariant.seat.capacity_is ∙ ap (λ (s : SeatView). s.view.setup.capacity) c.self.view_is in
    split_notes c.args.self.now.view c.args.block c.superblock_of-d.result c.span_length-n.result
    (c.superblock_of-d.ensures ∙ ap (λ n. (c.args.block - start_word n 0) / 8192) cap) c.span_length-n.ensures

pub returns-clause-change : goal.returns-clause-change
returns-clause-change c =
    let cap = c.self.invariant.seat.capacity_is ∙ ap (λ (s : SeatView). s.view.setup.capacity) c.self.view_is in
    split_change c.args.self.now.view c.args.block c.superblock_of-d.result c.span_length-n.result c.requires.may
    (c.superblock_of-d.ensures ∙ ap (λ n. (c.args.block - start_word n 0) / 8192) cap) c.span_length-n.ensures
