use Rattle.std.proofs.Common.{◌<◌, sym, subst}
use Rattle.std.proofs.lemmas.Option.{slice_get_read}
use Rattle.root_reach.proofs.worklist.ByOriginsWalk.entry_at.Goals as goal

pub returns : goal.returns
returns g c =
    let list = c.args.found.now.list in
    slice_get_read list.items list.len c.args.at c.index.result.now list.ok.0
    (subst (λ n. c.args.at < n) (sym list.ok.0) c.requires) c.index.ensures
