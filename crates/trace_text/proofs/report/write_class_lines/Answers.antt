use Rattle.std.proofs.Common.{◌≡◌, ◌-◌, ◌+◌, ◌++◌, ap, ◌∙◌, arith}
use Rattle.heap_model.specs.Sizes.{last_class}
use Rattle.std.specs.List.{flat_map, range_with_len}
use Rattle.std.specs.String.{string_bytes}
use Rattle.trace_text.specs.Report.{classes, class_line}
use Rattle.trace_text.proofs.TextLemmas.{line_more}
use Rattle.trace_text.proofs.report.write_class_lines.Goals as goal

pub loop-class-preserved : goal.loop-class-preserved
loop-class-preserved c =
    line_more (class_line c.args.held.now) 1 (c.loop-class.class - 1) (c.loop-class.class + 1 - 1) c.loop-class.class _ _ _
    (omega arith) (omega arith) c.loop-class.invariant
    (c.in_ok-write_class_line.ensures.ok ∙ ap (λ n. string_bytes c.loop-class.text ++ class_line c.args.held.now n) c.new.ensures)

pub returns : goal.returns
unfolding classes
returns c =
    let all : c.loop-class.class - 1 ≡ last_class = omega arith in
    record { ok = c.loop-class.invariant ∙ ap (λ n. string_bytes c.args.text.now ++ flat_map (class_line c.args.held.now) (range_with_len 1 n)) all }
