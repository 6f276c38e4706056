-- Worked examples by computation: all caches of a seat that are given back.
use Rattle.std.proofs.Common.{◌≤◌, ◌≡◌, ◌<◌, [], ◌∷◌, length, refl, ap, ◌∙◌, arith}
use Rattle.core_model.specs.View.{Parts, View}
use Rattle.seat_costs.proofs.IdleLemmas.{none_cached}
use Rattle.cache_flush.specs.All.{GivesCaches, HasFlushedAll, cached, gave_cache, gave_no_cache}
use Rattle.cache_examples.specs.Runs.{all_given, full_cache, gives_both, gives_the_one, no_run, one_cached, one_listed, without_tickets}
use Rattle.cache_examples.specs.Seats.{before, later, with_cached}

-- nothing is given where no cache has a block
pub flushes_none : HasFlushedAll before before
flushes_none = record {
  going = refl;
  more = λ some. omega (arith, some);
  gave = λ some. omega (arith, some);
  gives = refl;
  by = gave_no_cache before refl;
  parts_are = refl;
  empty = λ class is. none_cached 21 class;
}

-- two runs by two batches
pub flushes_both : HasFlushedAll full_cache all_given
flushes_both = record {
  going = refl;
  more = λ some. omega arith;
  gave = λ some. omega arith;
  gives = refl;
  by = gave_cache 20 full_cache all_given (gave_no_cache full_cache refl) gives_both;
  parts_are = refl;
  empty = flushes_none.empty;
}

-- and one block of a superblock that had none free
pub flushes_one : HasFlushedAll one_cached one_listed
flushes_one = record {
  going = refl;
  more = λ some. omega arith;
  gave = λ some. omega arith;
  gives = refl;
  by = gave_cache 20 one_cached one_listed (gave_no_cache one_cached refl) gives_the_one;
  parts_are = refl;
  empty = flushes_none.empty;
}

-- two runs by one, or by three
pub by_one_batch : HasFlushedAll full_cache (record all_given { gives = 1 }) → ⊥
by_one_batch flushed = let e : 1 ≡ 2 = flushed.gives in omega (arith, e)

pub by_three_batches : HasFlushedAll full_cache (record all_given { gives = 3 }) → ⊥
by_three_batches flushed = let e : 3 ≡ 2 = flushed.gives in omega (arith, e)

-- one cached block, and nothing given, or no ticket drawn
one_is_some : 1 ≤ cached one_cached
one_is_some = omega arith

pub one_block_not_given : HasFlushedAll one_cached (later 8 1 0 before) → ⊥
one_block_not_given flushed = let less : 0 < 0 = flushed.gave one_is_some in omega (arith, less)

pub one_block_without_a_draw : HasFlushedAll one_cached (record (later 8 1 1 before) { draws = 4 }) → ⊥
one_block_without_a_draw flushed = let less : 4 < 4 = flushed.more one_is_some in omega (arith, less)

-- a block that stays in its cache
pub one_block_stays : HasFlushedAll full_cache (with_cached (11064 ∷ []) all_given) → ⊥
one_block_stays flushed = let e : 1 ≡ 0 = ap length (flushed.empty 20 (record { some = omega arith; last = omega arith })) in omega (arith, e)

-- a claim that stays
pub one_claim_stays : HasFlushedAll full_cache (record all_given { raw = 0 ∷ [] }) → ⊥
one_claim_stays flushed = let e = ap (λ (p : Parts). p.raw) flushed.parts_are in absurd (cc)

-- not run by run: a seat without a ticket left gives none
pub without_a_run : HasFlushedAll (record one_cached { setup = without_tickets.setup }) (record one_listed { setup = without_tickets.setup }) → ⊥
without_a_run flushed = let e : 1 ≡ 0 = ap (λ (u : View). u.gives)
    (no_cache (record one_cached { setup = without_tickets.setup }) (record one_listed { setup = without_tickets.setup }) refl flushed.by) in
    omega (arith, e) where
      no_cache : (v w : View) → w.setup.budget ≡ 0 → GivesCaches v w → w ≡ v
      no_cache v _ none (gave_no_cache w same) = same
      no_cache v _ none (gave_cache class t w caches runs) =
          let same = no_run class t w none runs in
          let budget : w.setup.budget ≡ t.setup.budget = ap (λ (u : View). u.setup.budget) same in
          same ∙ no_cache v t (omega (arith, none, budget)) caches
