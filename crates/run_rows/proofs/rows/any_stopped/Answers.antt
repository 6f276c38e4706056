use Rattle.std.proofs.Common.{rules, tests, ◌≡◌, sym, ◌∙◌}
use Rattle.std.specs.List.{list_any}
use Rattle.std.proofs.lemmas.Iterator.{YieldsList-from_slice}
use Rattle.std.proofs.lemmas.Iterator.Search.{any_from_yields_List}
use Rattle.worker_parts.specs.declared.beginning.Begun.{Begun}
use Rattle.run_rows.proofs.RowLemmas.{passes_at}
use Rattle.run_rows.proofs.rows.any_stopped.Goals as goal

pub returns-clause-some : goal.returns-clause-some
returns-clause-some g c = λ is.
    let answered : c.any.result ≡ list_any (λ (one : Begun g.row.C.Denot). one.stopped) c.args.all.now =
    any_from_yields_List (λ (one : Begun g.row.C.Denot). one.stopped) _ _ c.any.result c.any.ensures.ran
    (YieldsList-from_slice c.args.all.now cc) (λ x b q k. search (rules, tests)) in
    passes_at (λ (one : Begun g.row.C.Denot). one.stopped) c.args.all.now (sym answered ∙ is)
