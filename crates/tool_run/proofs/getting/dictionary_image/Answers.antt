use Rattle.std.proofs.Common.{ℕ, List, IfOk, Some, subst}
use Rattle.dict_model.specs.Links.{kind_count}
use Rattle.tool_run.specs.Recovering.{IsCurrentImage}
use Rattle.tool_run.proofs.getting.dictionary_image.Goals as goal

pub returns-clause-ok : goal.returns-clause-ok
returns-clause-ok g c =
    subst (λ (ks : List ℕ). IfOk c.current_image.result
    (IsCurrentImage (Some kind_count) ks (g.I.ImageStore.contents c.args.images.now) c.args.name.now))
    c.root_kinds.ensures.list c.current_image.ensures.ok
