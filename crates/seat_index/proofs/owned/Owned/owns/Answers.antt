use Rattle.std.proofs.Common.{arith}
use Rattle.seat_index.proofs.OwnedReads.{own_word, no_own_word, root_own, info_own, link_own}
use Rattle.seat_index.proofs.owned.Owned.owns.Goals as goal

pub returns-in-Shared : goal.returns-in-Shared
returns-in-Shared c = λ v index. no_own_word v c.args.geometry.capacity c.args.word index.capacity_is c.in-Shared.ensures

pub returns-in-Root : goal.returns-in-Root
returns-in-Root c = λ v index. own_word v c.args.geometry.capacity c.args.word _ c.index.result.now index.capacity_is c.in-Root.ensures.0
    (root_own v index.has c.args.self.now index.own c.in-Root.i c.index.result.now c.in-Root.ensures.1 c.index.ensures)

pub returns-in-Info : goal.returns-in-Info
returns-in-Info c = λ v index. own_word v c.args.geometry.capacity c.args.word _ c.is_unclassed.result index.capacity_is c.in-Info.ensures.0
    (info_own v index.has c.args.self.now index.own c.in-Info.d c.index-in-Info.result.now c.is_unclassed.result
    (let l = c.in-Info.ensures.1 in let e = index.capacity_is in omega arith) c.index-in-Info.ensures c.is_unclassed.ensures)

pub returns-in-Anchor : goal.returns-in-Anchor
returns-in-Anchor c = λ v index. own_word v c.args.geometry.capacity c.args.word _ c.is_unclassed-in-Anchor.result index.capacity_is
    c.in-Anchor.ensures.0 (info_own v index.has c.args.self.now index.own c.in-Anchor.d c.index-in-Anchor.result.now
    c.is_unclassed-in-Anchor.result (let l = c.in-Anchor.ensures.1 in let e = index.capacity_is in omega arith) c.index-in-Anchor.ensures
    c.is_unclassed-in-Anchor.ensures)

pub returns-in-Link : goal.returns-in-Link
returns-in-Link c = λ v index. own_word v c.args.geometry.capacity c.args.word _ c.is_claimed.result index.capacity_is c.in-Link.ensures.0
    (link_own v index.has c.args.self.now index.own c.in-Link.d c.index-in-Link.result.now c.is_claimed.result
    (let l = c.in-Link.ensures.1 in let e = index.capacity_is in omega arith) c.index-in-Link.ensures c.is_claimed.ensures)

pub returns-in-Data : goal.returns-in-Data
returns-in-Data c = λ v index. own_word v c.args.geometry.capacity c.args.word _ c.owns_data.result index.capacity_is c.in-Data.ensures.0
    (c.owns_data.ensures v index)
