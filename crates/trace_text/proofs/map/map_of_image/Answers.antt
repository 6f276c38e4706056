use Rattle.std.proofs.Common.{◌+◌, ◌∙◌, ◌++◌, Bool, slice_index, refl, sym, subst, ap, arith}
use Rattle.std.specs.String.{string_bytes}
use Rattle.trace_text.specs.HeapMap.{used_line, superblock_line, line_of, use_if}
use Rattle.trace_text.proofs.TextLemmas.{line_more}
use Rattle.trace_text.proofs.WalkLemmas.{IsWalkedTo, TellsNext, tells_number, tells_end, walked_on, walked_past, is_listed}
use Rattle.trace_text.proofs.map.map_of_image.Goals.{then-next-free, else-next-free, then-is_free, else-is_free}
use Rattle.trace_text.proofs.map.map_of_image.Goals as goal

pub loop-d-preserved : goal.loop-d-preserved
loop-d-preserved c =
    let image = slice_index c.args.words.now in
    let held = c.args.held.now in
    let free = c.args.free.now in
    let next = c.loop-d.next in
    let d = c.loop-d.d in
    let is_free = c.if-next-free.is_free in
    let walked = c.loop-d.invariant.walked in
    let tells : TellsNext free next d is_free = elim c.if-next-free.branch [
      | then-next-free w ↦ tells_number free next d w.from.result is_free w.if-next-free.true w.from.ensures w.is_free-is
      | else-next-free w ↦ tells_end free next d is_free w.if-next-free.false w.is_free-is
    ] in
    record {
      walked = elim c.if-is_free.branch [
        | then-is_free w ↦ subst (λ n. IsWalkedTo free n (d + 1)) (sym w.next-is)
            (walked_on free next d is_free c.requires.ascending walked tells w.if-is_free.true)
        | else-is_free w ↦ subst (λ n. IsWalkedTo free n (d + 1)) (sym w.next-is)
            (walked_past free next d is_free c.requires.ascending walked tells w.if-is_free.false)
      ];
      written = line_more (superblock_line image held free) 0 d (d + 1) d
          (used_line image free) _ _
          (omega arith) refl c.loop-d.invariant.written
          (c.in_ok-write_superblock_line.ensures.ok
          ∙ ap (λ (is : Bool). string_bytes c.loop-d.text ++ line_of d (use_if is image held d))
          (is_listed free next d is_free c.requires.ascending walked tells));
    }
