use Rattle.seat_parcels.proofs.SortLemmas.{is_laid}
use Rattle.seat_parcels.proofs.sorting.lay.Goals as goal

pub returns : goal.returns
returns c = is_laid c.args.pieces.now.items c.args.to c.index_mut.result.now c.push.new.self c.args.parcel c.requires c.index_mut.ensures.value
    c.in_ok-push.ensures.items
