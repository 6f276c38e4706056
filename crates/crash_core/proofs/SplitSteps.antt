-- The core when the superblocks of a held large block are claimed.
use Rattle.std.proofs.Common.{◌≡◌, ◌≢◌, ℕ, ◌+◌, ◌-◌, ◌%◌, ◌<◌, ◌≤◌, ◌↔◌, inl, inr, true, nat_lt, List, ◌++◌, get_or, length, refl, ap, ap₂, sym, subst, ◌∙◌, lt-ltb, ltb-true, arith}
use Rattle.std.proofs.lemmas.Bool.{cases_lt}
use Rattle.std.specs.Prelude.{Vec, Option}
use Rattle.std.specs.declared.alloc.Global.{Global}
use Rattle.std.specs.Vec.{with_item}
use Rattle.heap_model.specs.Geometry.{start_word, superblock_of}
use Rattle.seat_state.specs.declared.notes.SeatNotes.{SeatNotes}
use Rattle.seat_state.specs.declared.notes.Seen.{Seen}
use Rattle.seat_state.specs.declared.superblocks.SuperblockUsage.{SuperblockUsage}
use Rattle.seat_state.specs.declared.superblocks.SuperblockUsage.TheVariants as usage
use Rattle.seat_state.specs.declared.superblocks.SuperblockOwner.{SuperblockOwner}
use Rattle.crash_core.specs.declared.state.CoreState.{CoreState}
use Rattle.core_model.specs.Memory.{used}
use Rattle.core_model.specs.View.{Setup, View, times_large}
use Rattle.core_model.specs.Effects.{steps, cleared, span_count, without_span}
use Rattle.core_model.specs.ViewAfter.{after_split}
use Rattle.core_model.specs.Guards.{MaySplit}
use Rattle.core_model.specs.Sound.{Good}
use Rattle.seat_state.specs.Superblocks.{usage_for, no_superblock, raw_in, split_in, cutting_in, classed_in, class_in, large_in, count_in, IsUsage, IsRange}
use Rattle.crash_core.specs.Standing.{IsSeatAt, IsKept, IsCore, KeepsViews, IsMoved, Decides}
use Rattle.seat_state.specs.Notes.{snapshot}
use Rattle.core_model.proofs.TotalLemmas.{total_at}
use Rattle.core_model.proofs.FrameLemmas.{below_not}
use Rattle.heap_model.proofs.ListLemmas.{times_append}
use Rattle.core_model.proofs.LinkFrameLemmas.{span_covers}
use Rattle.core_model.proofs.RangeLemmas.{range_is, range_not, times_range, without_span_is, span_other}
use Rattle.crash_core.proofs.StandingLemmas.{among, memory_in, seat_capacity}
use Rattle.seat_state.proofs.UsageLemmas.{usage_alone}
use Rattle.seat_state.proofs.RangeLemmas.{range_mine, range_theirs}
use Rattle.seat_state.proofs.WordLemmas.{entry_there}
use Rattle.seat_state.proofs.CountLemmas.{no_span}

pub large_only : (x : SuperblockUsage) → 0 < large_in x → (raw_in x ≡ 0) × (split_in x ≡ 0) × (cutting_in x ≡ 0) × (classed_in x ≡ 0)
    × (class_in x ≡ 0) × (large_in x ≡ 1)
large_only usage.Nothing some = absurd (omega arith)
large_only usage.Raw some = absurd (omega arith)
large_only usage.Split some = absurd (omega arith)
large_only usage.Cutting some = absurd (omega arith)
large_only (usage.Classed class) some = absurd (omega arith)
large_only (usage.Large count) some = (refl, refl, refl, refl, refl, refl)

module _ (c : CoreState) (k : Setup) (views : List View) (i : ℕ) (v : View) (t : SeatNotes) (keeps : KeepsViews c k views)
    (below_i : i < length views) (at : get_or views i v ≡ v)
    (at_t : IsSeatAt c i t) (block : ℕ) where
  kept : IsKept c i t v
  kept = keeps.each i t v below_i at_t at

  good : Good k (memory_in c k) views
  good = keeps.sound.good

  abbrev d : ℕ
  d = superblock_of c.geometry.capacity block

  d_v : superblock_of v.setup.capacity block ≡ d
  d_v = ap (λ n. superblock_of n block) (seat_capacity c k views i v keeps below_i at)

  pub split_first : MaySplit v block → block ≡ start_word c.geometry.capacity d
  split_first may = subst (λ n. block ≡ start_word n (superblock_of n block)) (seat_capacity c k views i v keeps below_i at) may.first

  count_is : span_count d v.large ≡ count_in (usage_for i (get_or c.superblocks.items d no_superblock))
  count_is = (kept.superblocks d).count

  pub split_before : block < start_word c.geometry.capacity 0 → MaySplit v block → ⊥
  split_before less may = let f = split_first may in omega arith

  pub split_inside : (block - start_word c.geometry.capacity 0) % 8192 ≢ 0 → MaySplit v block → ⊥
  split_inside apart may = apart (at_start d (split_first may)) where
    at_start : (n : ℕ) → block ≡ start_word c.geometry.capacity n → (block - start_word c.geometry.capacity 0) % 8192 ≡ 0
    at_start n is = omega arith

  pub split_there : start_word c.geometry.capacity 0 ≤ block → (block - start_word c.geometry.capacity 0) % 8192 ≡ 0
      → (x : SuperblockUsage) (n : ℕ) → x ≡ usage_for i (get_or c.superblocks.items d no_superblock) → n ≡ count_in x
      → (nat_lt 0 n ≡ true) ↔ MaySplit v block
  split_there from whole x n x_is n_is = (
    λ h. record {
      held = subst (λ m. 1 ≤ span_count m v.large) (sym d_v) (let e = count_is in let f = ap count_in x_is in let more = ltb-true 0 n h in omega arith);
      first = subst (λ m. block ≡ start_word m (superblock_of m block)) (sym (seat_capacity c k views i v keeps below_i at)) (omega arith);
    },
    λ may. lt-ltb 0 n (let h = subst (λ m. 1 ≤ span_count m v.large) d_v may.held in let e = count_is in let f = ap count_in x_is in omega arith),
  )

  module _ (may : MaySplit v block) where
    abbrev n : ℕ
    n = span_count d v.large

    some : 0 < n
    some = subst (λ m. 0 < span_count m v.large) d_v may.held

    pub covered : (e : ℕ) → d ≤ e → e < d + n → 0 < large_in (usage_for i (get_or c.superblocks.items e no_superblock))
    covered e low high = let o = (kept.superblocks e).is_large in let h = span_covers d e v.large some low high in omega arith

    large_low : (e : ℕ) → d ≤ e → e < d + n → e < k.capacity
    large_low e low high = elim (cases_lt e (used (memory_in c k))) [
      | inl less ↦ let r = good.shaped.durable.room in omega arith
      | inr past ↦ absurd (let h = span_covers d e v.large some low high in
          let large = total_at (λ (x : View). times_large e x.large) views i v below_i at in
          let p = good.shaped.placed.one_place e in let z = below_not e (used (memory_in c k)) past in omega arith)
    ]

    pub range_fits : d + n ≤ length c.superblocks.items
    range_fits = let s = some in let l = large_low (d + n - 1) (omega arith) (omega arith) in let f = keeps.superblocks in omega arith

    pub split_count : n ≡ count_in (usage_for i (get_or c.superblocks.items d no_superblock))
    split_count = count_is

    pub split : (count : ℕ) → count ≡ n → (owners : Vec SuperblockOwner Global) (anchor : Option Seen)
        → IsRange c.superblocks.items owners.items d count (record { seat = i; usage = usage.Split })
        → snapshot anchor ≡ cleared d count (snapshot t.seen_anchor)
        → IsMoved c (record c { superblocks = owners; seats = with_item c.seats i (record t { seen_anchor = anchor }) }) views i t
        (after_split v (superblock_of v.setup.capacity block))
    split count count_n owners anchor range_count anchor_is = subst
        (λ m. IsMoved c (record c { superblocks = owners; seats = with_item c.seats i (record t { seen_anchor = anchor }) }) views i t
        (after_split v m)) (sym d_v) (record {
          after = record t { seen_anchor = anchor };
          seats = refl;
          ticket = refl;
          stopped = refl;
          words = refl;
          geometry = refl;
          budget = refl;
          carriers = refl;
          blocks = refl;
          superblocks = range.long;
          roots = refl;
          mine = record {
            notes = (let o = kept.notes in record {
              ticket = o.ticket;
              stopped = o.stopped;
              seen_used = o.seen_used;
              seen_head = o.seen_head;
              seen_link = o.seen_link;
              seen_anchor = ap₂ (λ m a. cleared d m a) (sym count_n) o.seen_anchor ∙ sym anchor_is;
            });
            caches = kept.caches;
            batch = kept.batch;
            blocks = kept.blocks;
            superblocks = range_mine c.superblocks.items owners.items i d n usage.Split
                (λ e y. IsUsage e y v.raw (v.split ++ steps d 1 n) v.cutting v.classed (without_span d v.large)) range
                (λ e low high. let o = kept.superblocks e in let z = large_only (usage_for i (get_or c.superblocks.items e no_superblock))
                (covered e low high) in
                let w = without_span_is e d v.large some in let r = range_is d n e low high in let l = o.is_large in let z5 = z.5 in
                let gone : times_large e (without_span d v.large) ≡ 0 = omega arith in record {
                  is_raw = o.is_raw ∙ z.0;
                  is_split = (let a = times_append e v.split (steps d 1 n) in let b = times_range e d n in let s = o.is_split in let z1 = z.1 in
                      omega arith);
                  is_cutting = o.is_cutting ∙ z.2;
                  is_classed = o.is_classed ∙ z.3;
                  class = o.class ∙ z.4;
                  is_large = gone;
                  count = no_span e (without_span d v.large) gone;
                })
                (λ e out. let o = kept.superblocks e in let w = without_span_is e d v.large some in let r = range_not d n e out in record {
                  is_raw = o.is_raw;
                  is_split = (let a = times_append e v.split (steps d 1 n) in let b = times_range e d n in let s = o.is_split in omega arith);
                  is_cutting = o.is_cutting;
                  is_classed = o.is_classed;
                  class = o.class;
                  is_large = (let l = o.is_large in omega arith);
                  count = span_other e d v.large (λ same. out (omega (arith, same)) (let s = some in omega (arith, same, s))) ∙ o.count;
                });
            roots = kept.roots;
          };
          others = λ j s u other most h. record {
            notes = h.notes;
            caches = h.caches;
            batch = h.batch;
            blocks = h.blocks;
            superblocks = range_theirs c.superblocks.items owners.items i j d n usage.Split
                (λ e y. IsUsage e y u.raw u.split u.cutting u.classed u.large) other range
                (λ e low high. usage_alone i j (get_or c.superblocks.items e no_superblock) other (λ none. let l = covered e low high in
                let z = ap large_in none in omega arith)) h.superblocks;
            roots = h.roots;
          };
        }) where
          range : IsRange c.superblocks.items owners.items d n (record { seat = i; usage = usage.Split })
          range = subst (λ m. IsRange c.superblocks.items owners.items d m (record { seat = i; usage = usage.Split })) count_n range_count

-- what fits when a large block may be split
pub record SplitFits (c : CoreState) (i block : ℕ) : Type 0 where
  pub from : start_word c.geometry.capacity 0 ≤ block
  pub range : superblock_of c.geometry.capacity block + count_in (usage_for i
      (get_or c.superblocks.items (superblock_of c.geometry.capacity block) no_superblock)) ≤ length c.superblocks.items

pub split_fits : (c : CoreState) (i block : ℕ) (t : SeatNotes) → IsCore c → i < length c.seats.items → IsSeatAt c i t
    → Decides c i (λ m v. MaySplit v block) true → SplitFits c i block
split_fits c i block t core less at_t may =
    let below_i : i < length core.views = among core.keeps less in
    let here = entry_there core.views i below_i in
    let holds = (may core.setup core.views here.0 core.keeps below_i here.1).0 refl in
    let f = split_first c core.setup core.views i here.0 t core.keeps below_i here.1 at_t block holds in
    let r = range_fits c core.setup core.views i here.0 t core.keeps below_i here.1 at_t block holds in
    let n = split_count c core.setup core.views i here.0 t core.keeps below_i here.1 at_t block holds in
    record { from = omega arith; range = omega arith }
