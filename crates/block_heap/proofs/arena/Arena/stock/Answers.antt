use Rattle.std.proofs.Common.{◌≡◌, ap, inl, refl, arith}
use Rattle.block_heap.specs.Order.{in_stock, is_filled}
use Rattle.block_heap.specs.declared.cache.Cache.{Cache}
use Rattle.block_heap.specs.Parts.{parts_of, cache_at}
use Rattle.block_heap.specs.Steps.{IsRefilling}
use Rattle.block_heap.proofs.AllocLemmas.{both_ok}
use Rattle.block_heap.proofs.SmallLemmas.{read_cache}
use Rattle.block_heap.proofs.SpendLemmas.{spends_none}
use Rattle.block_heap.proofs.arena.Arena.stock.Goals as goal

pub returns-clause-left : goal.returns-clause-left
returns-clause-left g c =
    let p = parts_of c.args.self.now in
    inl (spends_none c.args.class.number p p refl refl, omega arith)

pub returns-clause-order : goal.returns-clause-order
returns-clause-order g c = λ is.
    let p = parts_of c.args.self.now in
    let read = read_cache p c.args.class.number c.index.result.now c.args.class.is c.requires c.index.ensures in
    let count : c.index.result.now.count ≡ (cache_at p.caches c.args.class.number).count = ap (λ (x : Cache). x.count) read in
    in_stock (omega arith) refl

pub returns-then-index-eq0-clause-order : goal.returns-then-index-eq0-clause-order
returns-then-index-eq0-clause-order g c =
    let p = parts_of c.args.self.now in
    let read = read_cache p c.args.class.number c.index.result.now c.args.class.is c.requires c.index.ensures in
    let count : c.index.result.now.count ≡ (cache_at p.caches c.args.class.number).count = ap (λ (x : Cache). x.count) read in
    both_ok c.refill.result _ _ (IsRefilling c.args.class.number p (parts_of c.refill.new.self))
    (λ some refills kept is. is_filled (omega arith) c.refill.ensures.held
    (record { caches = kept.caches; heads = kept.heads; lists = kept.lists }) (refills is))
    c.refill.ensures.order
    c.refill.ensures.refilling
