-- The core when claimed superblocks become a held large block.
use Rattle.std.proofs.Common.{◌≡◌, ◌≢◌, ℕ, ◌+◌, ◌<◌, ◌≤◌, inl, inr, true, nat_eq, List, ◌∷◌, get_or, length, refl, ap, sym, subst, ◌∙◌, length-set, eq-eqb, arith}
use Rattle.std.specs.Prelude.{Vec, Option}
use Rattle.std.specs.declared.alloc.Global.{Global}
use Rattle.std.specs.Vec.{with_item}
use Rattle.seat_state.specs.declared.notes.SeatNotes.{SeatNotes}
use Rattle.seat_state.specs.declared.notes.Seen.{Seen}
use Rattle.seat_state.specs.declared.superblocks.SuperblockUsage.{SuperblockUsage}
use Rattle.seat_state.specs.declared.superblocks.SuperblockUsage.TheVariants as usage
use Rattle.seat_state.specs.declared.superblocks.SuperblockOwner.{SuperblockOwner}
use Rattle.crash_core.specs.declared.state.CoreState.{CoreState}
use Rattle.core_model.specs.View.{Setup, View, Span}
use Rattle.core_model.specs.Effects.{cleared, span_count, without_range}
use Rattle.core_model.specs.ViewAfter.{after_large}
use Rattle.core_model.specs.Guards.{MayHoldLarge}
use Rattle.core_model.specs.Sound.{Good}
use Rattle.seat_state.specs.Superblocks.{usage_for, no_superblock, raw_in, split_in, cutting_in, classed_in, class_in, large_in, count_in, IsUsage, IsRange}
use Rattle.crash_core.specs.Standing.{IsSeatAt, IsKept, IsCore, KeepsViews, IsMoved, Decides}
use Rattle.seat_state.specs.Notes.{snapshot}
use Rattle.core_model.proofs.PlaceLemmas.{pick, skip, not-eq}
use Rattle.core_model.proofs.RangeLemmas.{range_is, range_not, without_range_in, without_range_out, cases_range}
use Rattle.crash_core.proofs.StandingLemmas.{among, memory_in}
use Rattle.seat_state.proofs.UsageLemmas.{usage_own, usage_theirs, usage_alone, usages_mine, usages_theirs}
use Rattle.seat_state.proofs.RangeLemmas.{range_theirs}
use Rattle.seat_state.proofs.WordLemmas.{entry_there}

claimed_only : (x : SuperblockUsage) → 0 < raw_in x + split_in x → (cutting_in x ≡ 0) × (classed_in x ≡ 0) × (class_in x ≡ 0) × (large_in x ≡ 0)
    × (count_in x ≡ 0)
claimed_only usage.Nothing some = absurd (omega arith)
claimed_only usage.Raw some = (refl, refl, refl, refl, refl)
claimed_only usage.Split some = (refl, refl, refl, refl, refl)
claimed_only usage.Cutting some = absurd (omega arith)
claimed_only (usage.Classed class) some = absurd (omega arith)
claimed_only (usage.Large count) some = absurd (omega arith)

module _ (c : CoreState) (k : Setup) (views : List View) (i : ℕ) (v : View) (t : SeatNotes) (keeps : KeepsViews c k views)
    (below_i : i < length views) (at : get_or views i v ≡ v)
    (at_t : IsSeatAt c i t) (d n : ℕ) (may : MayHoldLarge (memory_in c k) v d n) where
  kept : IsKept c i t v
  kept = keeps.each i t v below_i at_t at

  good : Good k (memory_in c k) views
  good = keeps.sound.good

  pub large_fits : (1 ≤ n) × (d + n ≤ length c.superblocks.items)
  large_fits = let s = may.some in let u = may.durable in let q = good.shaped.durable.behind in let r = good.shaped.durable.room in
      let l = keeps.superblocks in (omega arith, omega arith)

  mine_before : (e : ℕ) → d ≤ e → e < d + n → 0 < raw_in (usage_for i (get_or c.superblocks.items e no_superblock)) + split_in
      (usage_for i (get_or c.superblocks.items e no_superblock))
  mine_before e low high = let o = kept.superblocks e in let a = o.is_raw in let b = o.is_split in let g = may.claimed e low high in omega arith

  abbrev span : Span
  span = record { first = d; count = n }

  -- a superblock of the block, with the count that is kept for it
  inside : (e count : ℕ) → d ≤ e → e < d + n → span_count e (span ∷ v.large) ≡ count
      → IsUsage e (usage.Large count) (without_range d n v.raw) (without_range d n v.split) v.cutting v.classed (span ∷ v.large)
  inside e count low high is = let o = kept.superblocks e in let z =
      claimed_only (usage_for i (get_or c.superblocks.items e no_superblock)) (mine_before e low high) in record {
        is_raw = without_range_in e d n v.raw low high;
        is_split = without_range_in e d n v.split low high;
        is_cutting = o.is_cutting ∙ z.0;
        is_classed = o.is_classed ∙ z.1;
        class = o.class ∙ z.2;
        is_large = (let r = range_is d n e low high in let l = o.is_large in let z3 = z.3 in omega arith);
        count = is;
      }

  pub hold_large : (owners : Vec SuperblockOwner Global) (anchor : Option Seen)
      → IsRange c.superblocks.items owners.items d n (record { seat = i; usage = usage.Large 0 })
      → snapshot anchor ≡ cleared d n (snapshot t.seen_anchor)
      → IsMoved c (record c {
        superblocks = with_item owners d (record { seat = i; usage = usage.Large n });
        seats = with_item c.seats i (record t { seen_anchor = anchor });
      }) views i t (after_large v d n)
  hold_large owners anchor range anchor_is = record {
    after = record t { seen_anchor = anchor };
    seats = refl;
    ticket = refl;
    stopped = refl;
    words = refl;
    geometry = refl;
    budget = refl;
    carriers = refl;
    blocks = refl;
    superblocks = length-set owners.items d (record { seat = i; usage = usage.Large n }) ∙ range.long;
    roots = refl;
    mine = record {
      notes = (let o = kept.notes in record {
        ticket = o.ticket;
        stopped = o.stopped;
        seen_used = o.seen_used;
        seen_head = o.seen_head;
        seen_link = o.seen_link;
        seen_anchor = ap (cleared d n) o.seen_anchor ∙ sym anchor_is;
      });
      caches = kept.caches;
      batch = kept.batch;
      blocks = kept.blocks;
      superblocks = usages_mine owners.items i d (usage.Large n) (λ e y. IsUsage e y (without_range d n v.raw)
          (without_range d n v.split) v.cutting v.classed (span ∷ v.large)) long
          (inside d n (omega arith) (let s = may.some in omega arith) (pick (nat_eq d d) n (span_count d v.large) (eq-eqb d d refl)))
          rest;
      roots = kept.roots;
    };
    others = λ j s u other most h. record {
      notes = h.notes;
      caches = h.caches;
      batch = h.batch;
      blocks = h.blocks;
      superblocks = usages_theirs owners.items i j d (usage.Large n) (λ e y. IsUsage e y u.raw u.split u.cutting u.classed u.large) long other
          (ap (usage_for j) (range.inside d (omega arith) (let s = may.some in omega arith)) ∙ usage_theirs i j (usage.Large 0) other)
          (range_theirs c.superblocks.items owners.items i j d n (usage.Large 0)
          (λ e y. IsUsage e y u.raw u.split u.cutting u.classed u.large) other range
          (λ e low high. usage_alone i j (get_or c.superblocks.items e no_superblock) other (λ none. let m = mine_before e low high in
          let z = ap (λ x. raw_in x + split_in x) none in omega arith)) h.superblocks);
      roots = h.roots;
    };
  } where
    long : d < length owners.items
    long = let l = range.long in let f = large_fits.1 in let s = may.some in omega arith

    apart : (e : ℕ) → e ≢ d → span_count e (span ∷ v.large) ≡ span_count e v.large
    apart e other = skip (nat_eq d e) n (span_count e v.large) (not-eq d e (λ h. other (sym h)))

    rest : (e : ℕ) → e ≢ d → IsUsage e (usage_for i (get_or owners.items e no_superblock)) (without_range d n v.raw)
        (without_range d n v.split) v.cutting v.classed (span ∷ v.large)
    rest e other = elim (cases_range d n e) [
      | inl here ↦ subst (λ y. IsUsage e y (without_range d n v.raw) (without_range d n v.split) v.cutting v.classed (span ∷ v.large))
          (sym (ap (usage_for i) (range.inside e here.0 here.1) ∙ usage_own i (usage.Large 0)))
          (inside e 0 here.0 here.1 (apart e other ∙ (kept.superblocks e).count
          ∙ (claimed_only (usage_for i (get_or c.superblocks.items e no_superblock)) (mine_before e here.0 here.1)).4))
      | inr out ↦ subst (λ y. IsUsage e y (without_range d n v.raw) (without_range d n v.split) v.cutting v.classed (span ∷ v.large))
          (sym (ap (usage_for i) (range.outside e out)))
          (let o = kept.superblocks e in record {
            is_raw = without_range_out e d n v.raw out ∙ o.is_raw;
            is_split = without_range_out e d n v.split out ∙ o.is_split;
            is_cutting = o.is_cutting;
            is_classed = o.is_classed;
            class = o.class;
            is_large = (let r = range_not d n e out in let l = o.is_large in omega arith);
            count = apart e other ∙ o.count;
          })
    ]

pub large_all_fits : (c : CoreState) (i d n : ℕ) (t : SeatNotes) → IsCore c → i < length c.seats.items → IsSeatAt c i t
    → Decides c i (λ m v. MayHoldLarge m v d n) true → (1 ≤ n) × (d + n ≤ length c.superblocks.items)
large_all_fits c i d n t core less at_t may =
    let below_i : i < length core.views = among core.keeps less in
    let here = entry_there core.views i below_i in
    large_fits c core.setup core.views i here.0 t core.keeps below_i here.1 at_t d n
    ((may core.setup core.views here.0 core.keeps below_i here.1).0 refl)
