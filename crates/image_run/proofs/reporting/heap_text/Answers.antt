use Rattle.image_run.proofs.TextLemmas.{if_answer, tells_heap}
use Rattle.image_run.proofs.reporting.heap_text.Goals as goal

pub returns : goal.returns
returns c =
    if_answer _ _ c.report_text.result c.report_text.ensures.ok (λ text told image is. tells_heap image c.args.recovered.now text is told)
