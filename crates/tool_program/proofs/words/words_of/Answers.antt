use Rattle.std.proofs.Common.{◌≡◌, drop, ap, sym, ◌∙◌, rules}
use Rattle.std.proofs.lemmas.Result.{IfOk-weaker}
use Rattle.std.proofs.lemmas.Iterator.Adapters.{YieldsList-from_skip, YieldsList-from_vec}
use Rattle.std.proofs.lemmas.Iterator.{items_from_collect}
use Rattle.std.specs.Vec.{vec_items}
use Rattle.std.specs.Vec.Iter.{into_iter_items}
use Rattle.tool_command.specs.Command.{texts}
use Rattle.tool_program.specs.Words.{words_behind}
use Rattle.tool_program.proofs.words.words_of.Goals as goal

pub returns-in-Ok-clause-ok : goal.returns-in-Ok-clause-ok
returns-in-Ok-clause-ok c =
    let all = into_iter_items c.in-Ok.args in
    let left = YieldsList-from_vec all (ap (λ it. into_iter_items it) c.skip.ensures.source) (search rules) in
    IfOk-weaker c.collect.result (λ words. vec_items words ≡ drop 1 all) (λ words. texts words.items ≡ words_behind c.args.args)
    (λ words is. ap texts is ∙ sym (ap (λ r. words_behind r) c.in-Ok.is))
    (items_from_collect c.collect.result c.collect.ensures.ran (YieldsList-from_skip 1 left c.skip.ensures.count))
