use Rattle.std.proofs.Common.{◌≡◌, ◌≤◌, ◌+◌, ◌-◌, ◌*◌}
use Rattle.heap_model.specs.Geometry.{start_word}
use Rattle.heap_model.specs.Sizes.{blocks_of, words_of_class}
use Rattle.heap_rule.specs.Seated.{IsSeatOf}
use Rattle.seat_costs.specs.Asked.{HasAsked}
use Rattle.seat_costs.specs.Rows.{KeepsMarks}
use Rattle.seat_costs.specs.Words.{IsHeldWord}
use Rattle.cache_fill.proofs.LinkLemmas.{Linking}
use Rattle.cache_fill.proofs.cuts.link_blocks.Given as goal

abbrev pub invariant-loop-i : goal.invariant-loop-i
invariant-loop-i g l = record {
  linking : Linking l.d l.fn.class.number (l._i - 1) l.fn.seat.view l.seat.view;
  place : l.block ≡ start_word l.fn.seat.view.setup.capacity l.d + (l._i - 1) * words_of_class l.fn.class.number;
  few : l._i ≤ blocks_of l.fn.class.number;
  marks : KeepsMarks (IsHeldWord l.fn.seat.view) l.fn.seat l.seat;
  asked : HasAsked g.C.Chance.draw_gives l.fn.seat.view l.seat.view l.fn.chance l.chance;
  is_of : IsSeatOf l.shared l.seat;
}
