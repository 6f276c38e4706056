use Rattle.std.proofs.Common.{ap, sym, slice_index, ◌∙◌}
use Rattle.heap_model.specs.Blocks.{layout_of}
use Rattle.super_block.proofs.DivisionLemmas.{nothing_begins, class_begins}
use Rattle.super_block.proofs.division.division_at.Goals as goal

pub returns-in-Nothing : goal.returns-in-Nothing
returns-in-Nothing c =
    nothing_begins (layout_of (slice_index c.args.words.now)) c.args.d (slice_index c.args.words.now c.info_index.result)
    (ap (slice_index c.args.words.now) (sym c.info_index.ensures)) c.in-Nothing.ensures

pub returns-in-Class : goal.returns-in-Class
returns-in-Class c =
    class_begins (layout_of (slice_index c.args.words.now)) c.args.d c.in-Class.class.number c.class_division.result.words c.class_division.result.count
    (ap (slice_index c.args.words.now) (sym c.info_index.ensures) ∙ c.in-Class.ensures.0)
    c.in-Class.ensures.1 c.class_division.ensures.words c.class_division.ensures.count
