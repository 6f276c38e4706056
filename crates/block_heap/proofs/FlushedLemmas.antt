-- What giving back one prefix of a cache after another has done so far.
use Rattle.std.proofs.Common.{◌≡◌, ℕ, ◌+◌, ◌-◌, ◌*◌, ◌<◌, ◌≤◌, List, [], ◌∷◌, refl, ap, subst, ◌∙◌, arith, length-append}
use Rattle.heap_model.specs.Sizes.{IsClass, blocks_of}
use Rattle.heap_model.proofs.SizeLemmas.{few_blocks}
use Rattle.line_memory.specs.View.{View}
use Rattle.block_heap.specs.declared.cache.Cache.{Cache}
use Rattle.block_heap.specs.declared.small.CachePrefix.{CachePrefix}
use Rattle.block_heap.specs.Flush.{IsCachePrefix, KeepsAll, GivesBack}
use Rattle.block_heap.specs.Medium.{RunsWithin, StopsWithin}
use Rattle.block_heap.specs.Parts.{Parts, held_in, cache_at}
use Rattle.block_heap.specs.Running.{IsRunning, LeavesHeld}
use Rattle.block_heap.proofs.SmallLemmas.{leaves_held_none, leaves_held_then}
use Rattle.block_heap.specs.Returns.{IsLongest, GivesPrefix, GivesTo}
use Rattle.block_heap.proofs.ReturnedLemmas.{FlushesSoFar, flushes_none, flushes_more}
use Rattle.block_heap.specs.Draws.{most_flush_draws}

-- a part of the cache was given back, with at most nine tickets a block
pub record IsFlushed (class : ℕ) (p q : Parts) : Type 0 where
  pub running : IsRunning q
  pub keeps : KeepsAll class p q
  pub more : p.words.drawn ≤ q.words.drawn
  pub few : q.words.drawn + 9 * (cache_at q.caches class).count ≤ p.words.drawn + 9 * (cache_at p.caches class).count
  pub held : held_in q ≡ held_in p
  pub leaves_held : LeavesHeld (held_in p) p q
  pub taken : q.taken ≡ p.taken
  pub order : FlushesSoFar class p q

-- none was yet
pub flushed_none : (class : ℕ) (p : Parts) → IsRunning p → IsFlushed class p p
flushed_none class p run = record {
  running = run;
  keeps = record { caches = λ c is other. refl; used_look = refl; head_looks = refl; accounted = λ before. before };
  more = omega arith;
  few = omega arith;
  held = refl;
  leaves_held = leaves_held_none p (held_in p);
  taken = refl;
  order = flushes_none class p;
}

keeps_then : (class : ℕ) (p q r : Parts) → KeepsAll class p q → KeepsAll class q r → KeepsAll class p r
keeps_then class p q r a b = record {
  caches = λ c is other. b.caches c is other ∙ a.caches c is other;
  used_look = b.used_look ∙ a.used_look;
  head_looks = b.head_looks ∙ a.head_looks;
  accounted = λ before. b.accounted (a.accounted before);
}

pub flushed_leaves_held : (class : ℕ) (p q r : Parts) → IsFlushed class p q → LeavesHeld (held_in q) q r → LeavesHeld (held_in p) p r
flushed_leaves_held class p q r before leaves_held = leaves_held_then p q r (held_in p) before.leaves_held
    (subst (λ held. LeavesHeld held q r) before.held leaves_held)

-- a prefix was found
module _ (class : ℕ) (p q r : Parts) (prefix : CachePrefix) (before : IsFlushed class p q) (is_prefix : IsCachePrefix class prefix r)
    (run : IsRunning r)
    (keeps : KeepsAll class q r) (caches : r.caches ≡ q.caches)
    (runs_within : RunsWithin prefix.batch.count q.words r.words) (held : held_in r ≡ held_in q) (leaves_held : LeavesHeld (held_in q) q r)
    (taken : r.taken ≡ q.taken) where
  some_given : 1 ≤ prefix.batch.count
  some_given = let count = is_prefix.count in let both = length-append is_prefix.before (prefix.batch.last ∷ []) in omega arith

  same_count : (cache_at r.caches class).count ≡ (cache_at q.caches class).count
  same_count = ap (λ (xs : List Cache). (cache_at xs class).count) caches

  pub prefix_few : r.words.drawn + 8 * prefix.batch.count + 9 * prefix.rest.count ≤ p.words.drawn + 9 * (cache_at p.caches class).count
  prefix_few =
      let few = before.few in
      let count = is_prefix.rest in
      let same = same_count in
      let drew = runs_within.few in
      omega arith

  pub prefix_held : held_in r ≡ held_in p
  prefix_held = held ∙ before.held

  pub prefix_leaves_held : LeavesHeld (held_in p) p r
  prefix_leaves_held = flushed_leaves_held class p q r before leaves_held

  -- and given back
  module _ (t : Parts) (gave_run : IsRunning t) (gives : GivesBack class prefix r t) (gave : RunsWithin 6 r.words t.words)
      (gave_held : held_in t ≡ held_in r)
      (gave_serve : LeavesHeld (held_in r) r t) (gave_taken : t.taken ≡ r.taken) (is : IsClass class) (first : IsRunning p)
      (volatile : r.words.volatile ≡ q.words.volatile) (longest : IsLongest prefix r) (to : GivesTo class prefix r t)
      (in_front : GivesPrefix class prefix r t) where
    pub flushed_more : IsFlushed class p t
    flushed_more = record {
      running = gave_run;
      keeps = keeps_then class p q t before.keeps (keeps_then class q r t keeps gives.keeps);
      more = let a = before.more in let b = runs_within.drew in let c = gave.drew in omega arith;
      few =
          let a = prefix_few in
          let some = some_given in
          let b = gave.few in
          let rest : (cache_at t.caches class).count ≡ prefix.rest.count = ap (λ (x : Cache). x.count) gives.cache in
          omega arith;
      held = gave_held ∙ prefix_held;
      leaves_held = leaves_held_then p r t (held_in p) prefix_leaves_held (subst (λ h. LeavesHeld h r t) prefix_held gave_serve);
      taken = gave_taken ∙ taken ∙ before.taken;
      order = flushes_more class p q r t is (first.caches class is).most before.order leaves_held.capacity volatile
          (ap (λ (xs : List Cache). cache_at xs class) caches)
          run prefix is_prefix longest some_given to in_front gave_serve.capacity gives.cache;
    }

    pub flushed_less : (cache_at t.caches class).count < (cache_at q.caches class).count
    flushed_less =
        let count = is_prefix.rest in
        let same = same_count in
        let some = some_given in
        let rest : (cache_at t.caches class).count ≡ prefix.rest.count = ap (λ (x : Cache). x.count) gives.cache in
        omega arith

  -- giving it leaves the held blocks, however far it goes
  pub give_leaves_held : (x : Parts) → LeavesHeld (held_in r) r x → LeavesHeld (held_in p) p x
  give_leaves_held x gave = leaves_held_then p r x (held_in p) prefix_leaves_held (subst (λ h. LeavesHeld h r x) prefix_held gave)

  -- how far it went where giving it stopped
  pub give_stops_within : (w : View) (ticket : ℕ) → IsClass class → IsRunning p → StopsWithin ticket 6 r.words w
      → StopsWithin ticket most_flush_draws p.words w
  give_stops_within w ticket is first stops_within = record {
    stopped = stops_within.stopped;
    above = stops_within.above;
    from = let a = before.more in let b = runs_within.drew in let c = stops_within.from in omega arith;
    until = stops_within.until;
    last = stops_within.last;
    few =
        let a = prefix_few in
        let some = some_given in
        let b = stops_within.few in
        let of = first.caches class is in
        let most : (cache_at p.caches class).count ≤ blocks_of class = of.most in
        let few = few_blocks class is in
        omega arith;
  }

-- and where finding it did
pub prefix_stops_within : (class : ℕ) (p q : Parts) (w : View) (ticket : ℕ) → IsFlushed class p q → IsClass class → IsRunning p
    → StopsWithin ticket (cache_at q.caches class).count q.words w → StopsWithin ticket most_flush_draws p.words w
prefix_stops_within class p q w ticket before is first stops_within = record {
  stopped = stops_within.stopped;
  above = stops_within.above;
  from = let a = before.more in let c = stops_within.from in omega arith;
  until = stops_within.until;
  last = stops_within.last;
  few =
      let a = before.few in
      let b = stops_within.few in
      let of = first.caches class is in
      let most : (cache_at p.caches class).count ≤ blocks_of class = of.most in
      let few = few_blocks class is in
      omega arith;
}
