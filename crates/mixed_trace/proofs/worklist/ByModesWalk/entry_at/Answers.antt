use Rattle.std.proofs.Common.{◌<◌, sym, subst}
use Rattle.std.proofs.lemmas.Option.{slice_get_read}
use Rattle.mixed_trace.proofs.worklist.ByModesWalk.entry_at.Goals as goal

pub returns : goal.returns
returns g c =
    let pairs = c.args.found.now.pairs in
    slice_get_read pairs.items pairs.len c.args.at c.index.result.now pairs.ok.0
    (subst (λ n. c.args.at < n) (sym pairs.ok.0) c.requires) c.index.ensures
