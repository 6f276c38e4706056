use Rattle.std.proofs.Common.{refl}
use Rattle.line_memory.proofs.MarkLemmas.{completed_last}
use Rattle.line_memory.proofs.pending.Pending.take_elsewhere.Goals as goal

pub loop-page-preserved : goal.loop-page-preserved
loop-page-preserved c =
    let h = c.loop-page.invariant.listed in
    let p = c.in-Some.ensures in
    let marks = c.loop-page.self-inside.marks in
    record {
      covered = c.in_default-first_marked.ensures.covers;
      listed = completed_last marks marks marks _ _ _ _ _ c.in-Some.page h p.items p.capacity refl refl
          (c.in_default-first_marked.ensures.none refl) (λ k other. refl);
      marks = c.loop-page.invariant.marks;
    }
