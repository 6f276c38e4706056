use Rattle.std.proofs.Common.{◌≡◌, ◌-◌, ◌+◌, ◌++◌, ap, ◌∙◌, arith}
use Rattle.std.specs.List.{flat_map, range_with_len}
use Rattle.std.specs.String.{string_bytes}
use Rattle.trace_text.specs.Report.{large_line}
use Rattle.trace_text.proofs.TextLemmas.{line_more, large_lines-filter}
use Rattle.trace_text.proofs.report.write_large_lines.Goals as goal

pub loop-superblocks-preserved : goal.loop-superblocks-preserved
loop-superblocks-preserved c =
    line_more (large_line c.in_ok-large.large.items) 1 (c.loop-superblocks.superblocks - 1)
    (c.loop-superblocks.superblocks + 1 - 1) c.loop-superblocks.superblocks _ _ _
    (omega arith) (omega arith) c.loop-superblocks.invariant
    (c.in_ok-write_large_line.ensures.ok ∙ ap (λ large. string_bytes c.loop-superblocks.text ++ large_line large c.loop-superblocks.superblocks)
    c.deref.ensures.value)

pub returns : goal.returns
returns c =
    let all : c.loop-superblocks.superblocks - 1 ≡ c.args.capacity = omega arith in
    record {
      ok = c.loop-superblocks.invariant
          ∙ ap (λ n. string_bytes c.args.text.now ++ flat_map (large_line c.in_ok-large.large.items) (range_with_len 1 n)) all
          ∙ ap (λ large. string_bytes c.args.text.now ++ flat_map (large_line large) (range_with_len 1 c.args.capacity)) c.in_ok-large.ensures.ok
          ∙ ap (λ lines. string_bytes c.args.text.now ++ lines) (large_lines-filter c.args.held.now c.args.capacity);
    }
