-- The superblocks that the core keeps for a seat after it claims one, or gives one up.
use Rattle.std.proofs.Common.{◌≡◌, ℕ, zero, suc, ◌+◌, ◌<◌, nat_eq, List, ◌∷◌, get_or, set, length, refl, sym, subst, ◌∙◌, eq-eqb, arith}
use Rattle.heap_model.specs.Counting.{times, without}
use Rattle.seat_state.specs.declared.superblocks.SuperblockUsage.{SuperblockUsage}
use Rattle.seat_state.specs.declared.superblocks.SuperblockUsage.TheVariants as usage
use Rattle.seat_state.specs.declared.superblocks.SuperblockOwner.{SuperblockOwner}
use Rattle.seat_state.specs.declared.notes.SeatNotes.{SeatNotes}
use Rattle.crash_core.specs.declared.state.CoreState.{CoreState}
use Rattle.core_model.specs.View.{View, Claim, Span, times_classed}
use Rattle.core_model.specs.Effects.{claimed, claim_class, without_claim}
use Rattle.seat_state.specs.Superblocks.{usage_for, no_superblock, listed, IsUsage, HasSuperblocks}
use Rattle.seat_state.specs.Notes.{HasNotes, HasCaches, HasBatch}
use Rattle.crash_core.specs.Standing.{HasBlocksOf, HasRoots, IsKept}
use Rattle.core_model.proofs.TotalLemmas.{eq-eqb-one, ne-eqb-none}
use Rattle.core_model.proofs.CountLemmas.{times_without_claim, class_without}
use Rattle.core_model.proofs.PlaceLemmas.{pick, skip, not-eq}
use Rattle.seat_state.proofs.UsageLemmas.{usages_mine}
pub use Rattle.heap_model.proofs.ListLemmas.{without_at}
use Rattle.seat_state.proofs.CountLemmas.{without_off, class_absent}

-- a claim of a superblock that was not the seat's
pub claimed_kept : (c : CoreState) (i : ℕ) (t : SeatNotes) (base : View) (owners : List SuperblockOwner) (d list : ℕ) (x : SuperblockUsage)
    → x ≡ listed list
    → c.superblocks.items ≡ set owners d (record { seat = i; usage = x }) → d < length owners
    → usage_for i (get_or owners d no_superblock) ≡ usage.Nothing
    → HasSuperblocks owners i base.raw base.split base.cutting base.classed base.large
    → HasNotes t base → HasCaches t.caches base.caches → HasBatch t.batch base.batch
    → HasBlocksOf c.blocks.items i base.small base.caches base.batch.blocks → HasRoots c.roots.items i base.roots
    → IsKept c i t (claimed base d list)
claimed_kept c i t base owners d zero x is items less none old notes caches batch blocks roots = record {
  notes = record {
    ticket = notes.ticket;
    stopped = notes.stopped;
    seen_used = notes.seen_used;
    seen_head = notes.seen_head;
    seen_link = notes.seen_link;
    seen_anchor = notes.seen_anchor;
  };
  caches = caches;
  batch = batch;
  blocks = blocks;
  superblocks = subst (λ l. HasSuperblocks l i (d ∷ base.raw) base.split base.cutting base.classed base.large) (sym items)
      (usages_mine owners i d x (λ e y. IsUsage e y (d ∷ base.raw) base.split base.cutting base.classed base.large) less
      (subst (λ y. IsUsage d y (d ∷ base.raw) base.split base.cutting base.classed base.large) (sym is)
      (let o = subst (λ y. IsUsage d y base.raw base.split base.cutting base.classed base.large) none (old d) in record {
        is_raw = (let n = o.is_raw in let one = eq-eqb-one d d refl in omega arith);
        is_split = o.is_split;
        is_cutting = o.is_cutting;
        is_classed = o.is_classed;
        class = o.class;
        is_large = o.is_large;
        count = o.count;
      }))
      (λ e other. let o = old e in record {
        is_raw = (let n = o.is_raw in let zero_here = ne-eqb-none d e (λ h. other (sym h)) in omega arith);
        is_split = o.is_split;
        is_cutting = o.is_cutting;
        is_classed = o.is_classed;
        class = o.class;
        is_large = o.is_large;
        count = o.count;
      }));
  roots = roots;
}
claimed_kept c i t base owners d (suc class) x is items less none old notes caches batch blocks roots = record {
  notes = record {
    ticket = notes.ticket;
    stopped = notes.stopped;
    seen_used = notes.seen_used;
    seen_head = notes.seen_head;
    seen_link = notes.seen_link;
    seen_anchor = notes.seen_anchor;
  };
  caches = caches;
  batch = batch;
  blocks = blocks;
  superblocks = subst (λ l. HasSuperblocks l i base.raw base.split base.cutting more base.large) (sym items)
      (usages_mine owners i d x (λ e y. IsUsage e y base.raw base.split base.cutting more base.large) less
      (subst (λ y. IsUsage d y base.raw base.split base.cutting more base.large) (sym is)
      (let o = subst (λ y. IsUsage d y base.raw base.split base.cutting base.classed base.large) none (old d) in record {
        is_raw = o.is_raw;
        is_split = o.is_split;
        is_cutting = o.is_cutting;
        is_classed = (let n = o.is_classed in let one = eq-eqb-one d d refl in omega arith);
        class = pick (nat_eq d d) (suc class) (claim_class d base.classed) (eq-eqb d d refl);
        is_large = o.is_large;
        count = o.count;
      }))
      (λ e other. let o = old e in record {
        is_raw = o.is_raw;
        is_split = o.is_split;
        is_cutting = o.is_cutting;
        is_classed = (let n = o.is_classed in let zero_here = ne-eqb-none d e (λ h. other (sym h)) in omega arith);
        class = skip (nat_eq d e) (suc class) (claim_class e base.classed) (not-eq d e (λ h. other (sym h))) ∙ o.class;
        is_large = o.is_large;
        count = o.count;
      }));
  roots = roots;
} where
  more : List Claim
  more = record { descriptor = d; class = suc class } ∷ base.classed

-- a claim without a class, or since a split, that is given up
pub raw_given_up : (owners : List SuperblockOwner) (i d : ℕ) (raw split cutting : List ℕ) (classed : List Claim) (large : List Span)
    → d < length owners → 0 < times d raw + times d split
    → HasSuperblocks owners i raw split cutting classed large
    → HasSuperblocks (set owners d (record { seat = i; usage = usage.Nothing })) i (without d raw) (without d split) cutting classed large
raw_given_up owners i d raw split cutting classed large less some old =
    usages_mine owners i d usage.Nothing (λ e y. IsUsage e y (without d raw) (without d split) cutting classed large) less
    (gone (usage_for i (get_or owners d no_superblock)) (old d))
    (λ e other. let o = old e in record {
      is_raw = without_off e d raw other ∙ o.is_raw;
      is_split = without_off e d split other ∙ o.is_split;
      is_cutting = o.is_cutting;
      is_classed = o.is_classed;
      class = o.class;
      is_large = o.is_large;
      count = o.count;
    }) where
      gone : (x : SuperblockUsage) → IsUsage d x raw split cutting classed large
          → IsUsage d usage.Nothing (without d raw) (without d split) cutting classed large
      gone usage.Nothing o = absurd (let a = o.is_raw in let b = o.is_split in omega arith)
      gone usage.Raw o = record {
        is_raw = without_at d raw (let a = o.is_raw in omega arith);
        is_split = without_at d split (let a = o.is_split in omega arith);
        is_cutting = o.is_cutting;
        is_classed = o.is_classed;
        class = o.class;
        is_large = o.is_large;
        count = o.count;
      }
      gone usage.Split o = record {
        is_raw = without_at d raw (let a = o.is_raw in omega arith);
        is_split = without_at d split (let a = o.is_split in omega arith);
        is_cutting = o.is_cutting;
        is_classed = o.is_classed;
        class = o.class;
        is_large = o.is_large;
        count = o.count;
      }
      gone usage.Cutting o = absurd (let a = o.is_raw in let b = o.is_split in omega arith)
      gone (usage.Classed class) o = absurd (let a = o.is_raw in let b = o.is_split in omega arith)
      gone (usage.Large count) o = absurd (let a = o.is_raw in let b = o.is_split in omega arith)

-- a claim with a class that is given up
pub class_given_up : (owners : List SuperblockOwner) (i d : ℕ) (raw split cutting : List ℕ) (classed : List Claim) (large : List Span)
    → d < length owners → 0 < times_classed d classed
    → HasSuperblocks owners i raw split cutting classed large
    → HasSuperblocks (set owners d (record { seat = i; usage = usage.Nothing })) i raw split cutting (without_claim d classed) large
class_given_up owners i d raw split cutting classed large less some old =
    usages_mine owners i d usage.Nothing (λ e y. IsUsage e y raw split cutting (without_claim d classed) large) less
    (gone (usage_for i (get_or owners d no_superblock)) (old d))
    (λ e other. let o = old e in record {
      is_raw = o.is_raw;
      is_split = o.is_split;
      is_cutting = o.is_cutting;
      is_classed = (let n = times_without_claim e d classed some in let zero_here = ne-eqb-none d e (λ h. other (sym h)) in
          let a = o.is_classed in omega arith);
      class = class_without e d classed (λ h. other (sym h)) ∙ o.class;
      is_large = o.is_large;
      count = o.count;
    }) where
      gone : (x : SuperblockUsage) → IsUsage d x raw split cutting classed large
          → IsUsage d usage.Nothing raw split cutting (without_claim d classed) large
      gone usage.Nothing o = absurd (let a = o.is_classed in omega arith)
      gone usage.Raw o = absurd (let a = o.is_classed in omega arith)
      gone usage.Split o = absurd (let a = o.is_classed in omega arith)
      gone usage.Cutting o = absurd (let a = o.is_classed in omega arith)
      gone (usage.Large count) o = absurd (let a = o.is_classed in omega arith)
      gone (usage.Classed class) o = record {
        is_raw = o.is_raw;
        is_split = o.is_split;
        is_cutting = o.is_cutting;
        is_classed = none;
        class = class_absent d (without_claim d classed) none;
        is_large = o.is_large;
        count = o.count;
      } where
        none : times_classed d (without_claim d classed) ≡ 0
        none = let n = times_without_claim d d classed some in let one = eq-eqb-one d d refl in let a = o.is_classed in omega arith
