-- The core when the first block of a cache goes behind the batch.
use Rattle.std.proofs.Common.{◌≡◌, ◌≢◌, ℕ, ◌+◌, ◌-◌, ◌<◌, ◌≤◌, ◌↔◌, true, false, cond, nat_eq, List, [], ◌∷◌, ◌++◌, get_or, set, length, refl, ap, ap₂, sym, subst, ◌∙◌, length-set, eq-eqb, eqb-true, true≢false, arith}
use Rattle.std.specs.Vec.{with_item}
use Rattle.heap_model.specs.Geometry.{start_word, superblocks_end, superblock_of}
use Rattle.crash_core.specs.declared.owners.BlockPlace.TheVariants as place
use Rattle.seat_state.specs.declared.notes.Cache.{Cache}
use Rattle.seat_state.specs.declared.notes.SeatNotes.{SeatNotes}
use Rattle.crash_core.specs.declared.state.CoreState.{CoreState}
use Rattle.core_model.specs.Memory.{next, memory_of}
use Rattle.core_model.specs.View.{Setup, View, of_class}
use Rattle.core_model.specs.Effects.{first_of, last_of, rest_of}
use Rattle.core_model.specs.ViewAfter.{after_lift}
use Rattle.core_model.specs.Guards.{MayAlloc, MayLift}
use Rattle.core_model.specs.Sound.{Good}
use Rattle.crash_core.specs.Standing.{IsSeatAt, no_block, IsPlace, IsKept, KeepsViews, IsMoved, Decides, memory_at}
use Rattle.core_model.proofs.TotalLemmas.{eq-eqb-one, ne-eqb-none}
use Rattle.heap_model.proofs.ListLemmas.{times_append}
use Rattle.core_model.proofs.BlockLemmas.{total_lists}
use Rattle.crash_core.proofs.StandingLemmas.{memory_in, seat_capacity}
use Rattle.crash_core.proofs.BlockPlaces.{places_mine, places_theirs, place_alone}
use Rattle.seat_state.proofs.CountLemmas.{short}
use Rattle.crash_core.proofs.FreeSteps.{once}
use Rattle.crash_core.proofs.MoveSteps as moves
use Rattle.seat_state.proofs.EndLemmas.{first_append, last_append, length_append, last_there}

module _ (c : CoreState) (k : Setup) (views : List View) (i : ℕ) (v : View) (t : SeatNotes) (keeps : KeepsViews c k views)
    (below : i < length views) (at : get_or views i v ≡ v)
    (at_t : IsSeatAt c i t) where
  kept : IsKept c i t v
  kept = keeps.each i t v below at_t at

  good : Good k (memory_in c k) views
  good = keeps.sound.good

  pub last_range : t.batch.count ≢ 0 → (start_word c.geometry.capacity 0 ≤ t.batch.last) × (t.batch.last < superblocks_end c.geometry.capacity)
  last_range some = subst (λ b. (start_word c.geometry.capacity 0 ≤ b) × (b < superblocks_end c.geometry.capacity)) kept.batch.last
      (moves.block_range c k views i v t keeps below at at_t (last_of v.batch.blocks) (let n = kept.batch.count in
      let l = last_there v.batch.blocks (omega arith) in omega arith))

  pub batch_short : t.batch.count ≤ superblocks_end c.geometry.capacity
  batch_short = let n = kept.batch.count in let s = short (superblocks_end c.geometry.capacity) v.batch.blocks
      (λ b some. (moves.block_range c k views i v t keeps below at at_t b (omega arith)).1)
      (λ b. let o = once c k views i v t keeps below at at_t b in omega arith) in omega arith

  pub lift_alloc : (class : ℕ) → MayLift (memory_in c k) v class → MayAlloc v class
  lift_alloc class may = record { is_class = may.is_class; cached = may.cached }

  module _ (class : ℕ) (may : MayAlloc v class) where
    abbrev e : Cache
    e = get_or t.caches class (record { first = 0; count = 0 })

    first_is : first_of (of_class v.caches class) ≡ e.first
    first_is = moves.first_is c k views i v t keeps below at at_t class may

    pub lift_empty : t.batch.count ≡ 0 → MayLift (memory_in c k) v class
    lift_empty none = record { is_class = may.is_class; cached = may.cached; behind = λ some. absurd (let n = kept.batch.count in omega arith) }

    pub lift_unlinked : t.batch.count ≢ 0 → t.batch.linked ≡ false → MayLift (memory_in c k) v class → ⊥
    lift_unlinked some not lifts = true≢false (sym (lifts.behind (let n = kept.batch.count in omega arith)).unchanged ∙ kept.batch.linked ∙ not)

    pub lift_apart : t.batch.count ≢ 0 → (d : ℕ) → d ≡ superblock_of c.geometry.capacity e.first → t.batch.descriptor ≢ d
        → MayLift (memory_in c k) v class → ⊥
    lift_apart some d d_is apart lifts = apart (sym kept.batch.descriptor ∙ (lifts.behind (let n = kept.batch.count in omega arith)).same
        ∙ ap₂ superblock_of (seat_capacity c k views i v keeps below at) first_is ∙ sym d_is)

    pub lift_behind : t.batch.count ≢ 0 → t.batch.linked ≡ true → (d : ℕ) → d ≡ superblock_of c.geometry.capacity e.first
        → t.batch.descriptor ≡ d → (to : ℕ) → to ≡ next (memory_at c) t.batch.last → (nat_eq to e.first ≡ true) ↔ MayLift (memory_in c k) v class
    lift_behind some linked d d_is same to to_is = (
      λ h. record {
        is_class = may.is_class;
        cached = may.cached;
        behind = λ more. record {
          same = kept.batch.descriptor ∙ same ∙ d_is ∙ sym (ap₂ superblock_of (seat_capacity c k views i v keeps below at) first_is);
          unchanged = kept.batch.linked ∙ linked;
          linked = now ∙ eqb-true to e.first h ∙ sym first_is;
        };
      },
      λ lifts. eq-eqb to e.first (sym now ∙ (lifts.behind (let n = kept.batch.count in omega arith)).linked ∙ first_is),
    ) where
      now : next (memory_in c k) (last_of v.batch.blocks) ≡ to
      now = ap (next (memory_in c k)) kept.batch.last ∙ ap (λ n. next (memory_of n c.words.items) t.batch.last) keeps.capacity ∙ sym to_is

    pub lift : (first d head : ℕ) → first ≡ next (memory_at c) e.first → d ≡ superblock_of c.geometry.capacity e.first
        → head ≡ cond (nat_eq t.batch.count 0) e.first t.batch.first
        → IsMoved c (record c {
          blocks = with_item c.blocks e.first (record { seat = i; place = place.Batched });
          seats = with_item c.seats i (record t {
            caches = set t.caches class (record { first = first; count = e.count - 1 });
            batch = record { descriptor = d; class = class; first = head; last = e.first; count = t.batch.count + 1; linked = true };
          });
        }) views i t (after_lift v class)
    lift first d head next_is d_is head_is = record {
      after = record t {
        caches = set t.caches class (record { first = first; count = e.count - 1 });
        batch = record { descriptor = d; class = class; first = head; last = e.first; count = t.batch.count + 1; linked = true };
      };
      seats = refl;
      ticket = refl;
      stopped = refl;
      words = refl;
      geometry = refl;
      budget = refl;
      carriers = refl;
      blocks = length-set c.blocks.items e.first (record { seat = i; place = place.Batched });
      superblocks = refl;
      roots = refl;
      mine = record {
        notes = (let n = kept.notes in record {
          ticket = n.ticket;
          stopped = n.stopped;
          seen_used = n.seen_used;
          seen_head = n.seen_head;
          seen_link = n.seen_link;
          seen_anchor = n.seen_anchor;
        });
        caches = moves.caches_after c k views i v t keeps below at at_t class may first next_is;
        batch = record {
          descriptor = ap₂ superblock_of (seat_capacity c k views i v keeps below at) first_is ∙ sym d_is;
          class = refl;
          first = first_append v.batch.blocks b ∙ ap₂ (λ n x. cond (nat_eq n 0) x (first_of v.batch.blocks)) kept.batch.count first_is
              ∙ ap (λ x. cond (nat_eq t.batch.count 0) e.first x) kept.batch.first ∙ sym head_is;
          last = last_append v.batch.blocks b ∙ first_is;
          count = (let l = length_append v.batch.blocks b in let n = kept.batch.count in omega arith);
          linked = refl;
        };
        blocks = places_mine c.blocks.items i e.first place.Batched (λ y p. IsPlace y p v.small
            (set v.caches class (rest_of (of_class v.caches class))) (v.batch.blocks ++ first_of (of_class v.caches class) ∷ [])) long
            (let o = moves.old c k views i v t keeps below at at_t class may in
            let w = moves.was c k views i v t keeps below at at_t class may in let w0 = w.0 in let w1 = w.1 in let w2 = w.2 in record {
              held = (let h = o.held in omega arith);
              cached = (let l = total_lists e.first v.caches class (rest_of (of_class v.caches class)) long_caches in
                  let one = eq-eqb-one (first_of (of_class v.caches class)) e.first first_is in
                  let p = moves.parts_at c k views i v t keeps below at at_t class may e.first in let h = o.cached in omega arith);
              batched = (let a = times_append e.first v.batch.blocks (first_of (of_class v.caches class) ∷ []) in
                  let one = eq-eqb-one (first_of (of_class v.caches class)) e.first first_is in let h = o.batched in omega arith);
            })
            (λ y other. let o = kept.blocks y in let none = ne-eqb-none (first_of (of_class v.caches class)) y
            (λ h. other (sym h ∙ first_is)) in record {
              held = o.held;
              cached = (let l = total_lists y v.caches class (rest_of (of_class v.caches class)) long_caches in
                  let p = moves.parts_at c k views i v t keeps below at at_t class may y in let h = o.cached in omega arith);
              batched = (let a = times_append y v.batch.blocks (first_of (of_class v.caches class) ∷ []) in let h = o.batched in omega arith);
            });
        superblocks = kept.superblocks;
        roots = kept.roots;
      };
      others = λ j s u other most h. record {
        notes = h.notes;
        caches = h.caches;
        batch = h.batch;
        blocks = places_theirs c.blocks.items i j e.first place.Batched (λ y p. IsPlace y p u.small u.caches u.batch.blocks) long other
            (place_alone i j (get_or c.blocks.items e.first no_block) other (moves.there c k views i v t keeps below at at_t class may)) h.blocks;
        superblocks = h.superblocks;
        roots = h.roots;
      };
    } where
      b : ℕ
      b = first_of (of_class v.caches class)

      long : e.first < length c.blocks.items
      long = moves.first_long c k views i v t keeps below at at_t class may

      long_caches : class < length v.caches
      long_caches = moves.long_caches c k views i v t keeps below at at_t class may

pub lift_allocs : (c : CoreState) (i class : ℕ) (t : SeatNotes) → i < length c.seats.items → IsSeatAt c i t
    → Decides c i (λ m v. MayLift m v class) true → Decides c i (λ m v. MayAlloc v class) true
lift_allocs c i class t less at_t may = λ k views v keeps below at.
    (λ e. lift_alloc c k views i v t keeps below at at_t class ((may k views v keeps below at).0 refl), λ a. refl)
