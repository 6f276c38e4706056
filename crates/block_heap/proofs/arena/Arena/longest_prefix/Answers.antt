use Rattle.std.proofs.Common.{◌≡◌, ℕ, ◌-◌, ◌/◌, ◌≤◌, inl, inr, List, get_or, refl, sym, ◌∙◌, ap, subst, arith}
use Rattle.heap_model.specs.Geometry.{start_word}
use Rattle.block_heap.specs.Parts.{parts_of, held_in}
use Rattle.block_heap.proofs.SmallLemmas.{read_cache, leaves_held_of}
use Rattle.block_heap.proofs.CachedBlockLemmas.{first_from, first_below}
use Rattle.block_heap.proofs.PrefixLemmas.{cache_first, walked_one, next_placed, walked_more, first_behind, walked_prefix, loaded_run, loaded_keeps, loaded_leaves_held, stopped_leaves_held, loaded_prefix, loaded_more, loaded_capacity}
use Rattle.block_heap.specs.MediumView.{medium_view}
use Rattle.block_heap.proofs.arena.Arena.longest_prefix.Goals.{then-loop-count-test+else-superblock_of-d, else-loop-count-test}
use Rattle.block_heap.proofs.arena.Arena.longest_prefix.Goals as goal

pub superblock_of-d-requires : goal.superblock_of-d-requires
superblock_of-d-requires g c =
    let p = parts_of c.args.self.now in
    let is = read_cache p c.args.class.number c.index-cache.result.now c.args.class.is c.requires.running c.index-cache.ensures in
    let at = cache_first p c.args.class.number c.args.class.is c.requires.running c.index-cache.result.now is c.requires.some in
    first_from p c.args.class.number at.d c.index-cache.result.now.first c.args.class.is c.requires.running at.within at.first

pub load-requires-clause-within : goal.load-requires-clause-within
load-requires-clause-within g c =
    let p = parts_of c.args.self.now in
    let is = read_cache p c.args.class.number c.index-cache.result.now c.args.class.is c.requires.running c.index-cache.ensures in
    let at = cache_first p c.args.class.number c.args.class.is c.requires.running c.index-cache.result.now is c.requires.some in
    let below = first_below p c.args.class.number at.d c.index-cache.result.now.first c.args.class.is c.requires.running at.within at.first in
    let words = c.requires.running.words_open.long in
    omega arith

pub loop-count-init : goal.loop-count-init
loop-count-init g c =
    let p = parts_of c.args.self.now in
    let is = read_cache p c.args.class.number c.index-cache.result.now c.args.class.is c.requires.running c.index-cache.ensures in
    record {
      loaded = record {
        same = refl;
        runs_within = c.in_ok-next.ensures.ok.runs_within;
        volatile = c.in_ok-next.ensures.ok.volatile;
        stores = c.load.ensures.unchanged;
      };
      walked = walked_one p c.args.class.number c.args.class.is c.requires.running c.index-cache.result.now is c.requires.some c.superblock_of-d.result
          c.in_ok-next.next c.superblock_of-d.ensures c.in_ok-next.ensures.ok.seen;
      cache_is = is;
    }

pub superblock_of-requires : goal.superblock_of-requires
superblock_of-requires g c =
    let p = parts_of c.args.self.now in
    let inv = c.loop-count.invariant in
    let at = next_placed p c.args.class.number c.args.class.is c.requires.running c.index-cache.result.now inv.cache_is c.superblock_of-d.result
    c.loop-count.last
    c.loop-count.next c.loop-count.count inv.walked c.loop-count-test.true in
    let capacity : c.loop-count.self.geometry.capacity ≡ c.args.self.now.geometry.capacity = loaded_capacity (parts_of c.args.self.now)
    (parts_of c.loop-count.self) c.loop-count.count inv.loaded in
    subst (λ n. start_word n 0 ≤ c.loop-count.next) (sym capacity)
    (first_from p c.args.class.number at.d c.loop-count.next c.args.class.is c.requires.running at.within at.first)

pub load-requires-in-loop-count-clause-within : goal.load-requires-in-loop-count-clause-within
load-requires-in-loop-count-clause-within g c =
    let p = parts_of c.args.self.now in
    let inv = c.loop-count.invariant in
    let at = next_placed p c.args.class.number c.args.class.is c.requires.running c.index-cache.result.now inv.cache_is c.superblock_of-d.result
    c.loop-count.last
    c.loop-count.next c.loop-count.count inv.walked c.loop-count-test.true in
    let below = first_below p c.args.class.number at.d c.loop-count.next c.args.class.is c.requires.running at.within at.first in
    let long = c.requires.running.words_open.long in
    let words = inv.loaded.stores.words in
    omega arith

pub returns-in_err-next-2-clause-leaves_held : goal.returns-in_err-next-2-clause-leaves_held
returns-in_err-next-2-clause-leaves_held g c =
    stopped_leaves_held (parts_of c.args.self.now) (parts_of c.loop-count.self)
    c.loop-count.count c.requires.running c.loop-count.invariant.loaded _ refl
    c.load-in-loop-count.ensures.unchanged

pub loop-count-preserved : goal.loop-count-preserved
loop-count-preserved g c =
    let p = parts_of c.args.self.now in
    let q = parts_of c.loop-count.self in
    let inv = c.loop-count.invariant in
    let capacity : c.loop-count.self.geometry.capacity ≡ c.args.self.now.geometry.capacity = loaded_capacity (parts_of c.args.self.now)
    (parts_of c.loop-count.self) c.loop-count.count inv.loaded in
    let at : (c.loop-count.next - start_word p.capacity 0) / 8192 ≡ c.superblock_of-d.result =
    ap (λ n. (c.loop-count.next - start_word n 0) / 8192) (sym capacity) ∙ sym c.superblock_of.ensures ∙ c.if-superblock_of-d.true in
    record {
      loaded = loaded_more p q _ c.loop-count.count c.loop-count.next c.in_ok-next-2.next inv.loaded refl c.in_ok-next-2.ensures.ok
          c.load-in-loop-count.ensures.unchanged;
      walked = walked_more p c.args.class.number c.args.class.is c.requires.running c.index-cache.result.now inv.cache_is
          c.superblock_of-d.result c.loop-count.last
          c.loop-count.next c.loop-count.count inv.walked
          c.in_ok-next-2.next c.loop-count-test.true at
          (c.in_ok-next-2.ensures.ok.seen ∙ ap (λ (xs : List ℕ). get_or xs c.loop-count.next 0) inv.loaded.volatile);
      cache_is = inv.cache_is;
    }

pub overflow_sub-result : goal.overflow_sub-result
overflow_sub-result g c =
    let p = parts_of c.args.self.now in
    let inv = c.loop-count.invariant in
    let capacity : c.loop-count.self.geometry.capacity ≡ c.args.self.now.geometry.capacity = loaded_capacity (parts_of c.args.self.now)
    (parts_of c.loop-count.self) c.loop-count.count inv.loaded in
    let behind = first_behind p c.args.class.number c.args.class.is c.requires.running c.index-cache.result.now inv.cache_is c.superblock_of-d.result
    c.loop-count.last c.loop-count.next c.loop-count.count inv.walked in
    let start = c.start.ensures in
    omega arith

pub nonzero_div-result : goal.nonzero_div-result
nonzero_div-result g c =
    let some = c.block_words-words.ensures.some in
    omega arith

pub returns-clause-ok : goal.returns-clause-ok
returns-clause-ok g c =
    let p = parts_of c.args.self.now in
    let q = parts_of c.loop-count.self in
    let inv = c.loop-count.invariant in
    let capacity : c.loop-count.self.geometry.capacity ≡ c.args.self.now.geometry.capacity = loaded_capacity (parts_of c.args.self.now)
    (parts_of c.loop-count.self) c.loop-count.count inv.loaded in
    loaded_prefix p q c.loop-count.count c.requires.running inv.loaded c.args.class.number _
    (walked_prefix p c.args.class.number c.args.class.is c.requires.running c.index-cache.result.now inv.cache_is c.superblock_of-d.result
    c.loop-count.last
    c.loop-count.next c.loop-count.count inv.walked
    c.start.result c.block_words-words.result (c.start.ensures ∙ ap (λ n. start_word n c.superblock_of-d.result) capacity)
    c.block_words-words.ensures.words)

pub returns-clause-running : goal.returns-clause-running
returns-clause-running g c = loaded_run (parts_of c.args.self.now) (parts_of c.loop-count.self) c.loop-count.count c.requires.running
    c.loop-count.invariant.loaded

pub returns-clause-leaves_held : goal.returns-clause-leaves_held
returns-clause-leaves_held g c = loaded_leaves_held (parts_of c.args.self.now) (parts_of c.loop-count.self) c.loop-count.count c.requires.running
    c.loop-count.invariant.loaded

pub returns-clause-keeps : goal.returns-clause-keeps
returns-clause-keeps g c = loaded_keeps (parts_of c.args.self.now) (parts_of c.loop-count.self) c.loop-count.count c.requires.running
    c.loop-count.invariant.loaded c.args.class.number

pub returns-in_err-next-clause-leaves_held : goal.returns-in_err-next-clause-leaves_held
returns-in_err-next-clause-leaves_held g c =
    let p = parts_of c.args.self.now in
    leaves_held_of p (record p { words = medium_view c.load.new.self }) (held_in p) (λ _. ⊥) c.requires.running refl refl refl
    (λ word out. absurd out) (λ out. out)
    c.load.ensures.unchanged

pub returns-clause-longest : goal.returns-clause-longest
returns-clause-longest g c = elim c.loop-count-test.branch [
  | then-loop-count-test+else-superblock_of-d w ↦ inr (λ inside.
      let from = inside.from in
      let until = inside.until in
      let at = w.superblock_of.ensures in
      w.if-superblock_of-d.false (omega arith))
  | else-loop-count-test w ↦ inl (let past = w.loop-count-test.false in omega arith)
]
