use Rattle.std.proofs.Common.{ℕ, ◌∷◌, ◌++◌, ap, sym, ◌∙◌}
use Rattle.atomic_table.specs.Table.{Me}
use Rattle.heap_table.specs.AtTable.{SharedView}
use Rattle.heap_table.specs.Rule.{setup_for}
use Rattle.heap_table.specs.SeatViews.{SeatViews, view_in}
use Rattle.heap_table.proofs.pairs.read_both.Goals as goal

pub read_both_as-requires-clause-both : goal.read_both_as-requires-clause-both
read_both_as-requires-clause-both c = (
  view_in c.args.one.now.me.0,
  view_in c.args.other.me.0,
  ap (λ (m : Me ℕ SeatViews). m.0) c.join.ensures.views ∙ ap (λ (vs : SeatViews). vs ++ c.args.one.now.me.0) c.requires.other_at.single
      ∙ ap (λ (vs : SeatViews). view_in c.args.other.me.0 ∷ vs) c.requires.at.single,
  c.requires.at.setup ∙ sym (ap (λ (s : SharedView). setup_for s.opening) c.shared.view_is),
)
