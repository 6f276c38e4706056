use Rattle.std.proofs.Common.{◌++◌, slice_index, sym, ap, ◌∙◌, subst}
use Rattle.std.proofs.lemmas.Result.{on_ok_weaker}
use Rattle.std.specs.String.{string_bytes}
use Rattle.super_block.specs.declared.info.Info.TheVariants.{Nothing}
use Rattle.super_block.specs.Info.{Says}
use Rattle.trace_text.specs.HeapMap.{inside_use, use_if, line_of, first_of}
use Rattle.trace_text.proofs.MapLemmas.{use_if-inside}
use Rattle.trace_text.proofs.map.write_superblock_line.Goals as goal

pub returns-in-Nothing : goal.returns-in-Nothing
returns-in-Nothing c =
    let image = slice_index c.args.words.now in
    let says = subst (λ w. Says (image w) Nothing) c.info.ensures c.in-Nothing.ensures in
    let inside = ap (λ is_free. use_if is_free image c.args.held.now c.args.d) c.if-is_free.false ∙ use_if-inside image c.args.held.now c.args.d says in
    let first = c.first_superblock-first.ensures ∙ ap (λ capacity. first_of capacity c.args.d c.args.held.now) c.new-geometry.ensures in
    let shown = ap inside_use first ∙ sym inside in
    record {
      ok = on_ok_weaker c.write_inside_line.result (λ e. e ∙ ap (λ words. string_bytes c.args.text.now ++ line_of c.args.d words) shown)
          c.write_inside_line.ensures.ok;
    }
