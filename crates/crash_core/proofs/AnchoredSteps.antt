-- What the core keeps of a superblock after a store to its anchor.
use Rattle.std.proofs.Common.{◌≡◌, ℕ, zero, suc, ◌+◌, ◌<◌, ◌≤◌, List, ◌∷◌, get_or, set, length, refl, ap, sym, subst, ◌∙◌, arith}
use Rattle.heap_model.specs.Counting.{times, without}
use Rattle.seat_state.specs.declared.superblocks.SuperblockUsage.{SuperblockUsage}
use Rattle.seat_state.specs.declared.superblocks.SuperblockUsage.TheVariants as usage
use Rattle.seat_state.specs.declared.superblocks.SuperblockOwner.{SuperblockOwner}
use Rattle.core_model.specs.Cells.{Cell, used_cell, head_cell, info_cell, anchor_cell, link_cell, root_cell, data_cell, no_cell}
use Rattle.core_model.specs.Memory.{Memory}
use Rattle.core_model.specs.View.{View, Claim, Span, times_classed, times_large}
use Rattle.core_model.specs.Effects.{claim_class, span_count, stored, stored_anchor}
use Rattle.core_model.specs.Guards.{MayStore}
use Rattle.crash_core.specs.OwnWords.{IsPlain}
use Rattle.seat_state.specs.Superblocks.{usage_for, no_superblock, anchored, classed_in, class_in, large_in, count_in, IsUsage, HasSuperblocks}
use Rattle.core_model.proofs.TotalLemmas.{eq-eqb-one, ne-eqb-none}
use Rattle.seat_state.proofs.UsageLemmas.{usages_mine}
use Rattle.seat_state.proofs.CountLemmas.{without_off}
use Rattle.heap_model.proofs.ListLemmas.{without_at}

-- the superblocks of a seat after a store to the anchor of one
pub anchored_kept : (owners : List SuperblockOwner) (i d value : ℕ) (raw split cutting : List ℕ) (classed : List Claim) (large : List Span)
    (base : View) → base.raw ≡ raw → base.split ≡ split → base.cutting ≡ cutting → base.classed ≡ classed → base.large ≡ large
    → d < length owners → 0 < times d raw + times d split + times d cutting → HasSuperblocks owners i raw split cutting classed large
    → HasSuperblocks (set owners d (record { seat = i; usage = anchored value })) i (stored_anchor base d value).raw
    (stored_anchor base d value).split (stored_anchor base d value).cutting (stored_anchor base d value).classed (stored_anchor base d value).large
anchored_kept owners i d zero raw split cutting classed large base a b e f g less some old =
    usages_mine owners i d usage.Raw (λ n y. IsUsage n y (d ∷ without d base.raw) (without d base.split)
    (without d base.cutting) base.classed base.large) less
    (now (usage_for i (get_or owners d no_superblock)) (old d)) (λ n other. let o = old n in record {
      is_raw = (let z = ne-eqb-none d n (λ h. other (sym h)) in let w = without_off n d base.raw other in let r = o.is_raw in
          let q = ap (times n) a in omega arith);
      is_split = without_off n d base.split other ∙ ap (times n) b ∙ o.is_split;
      is_cutting = without_off n d base.cutting other ∙ ap (times n) e ∙ o.is_cutting;
      is_classed = subst (λ l. times_classed n l ≡ classed_in (usage_for i (get_or owners n no_superblock))) (sym f) o.is_classed;
      class = subst (λ l. claim_class n l ≡ class_in (usage_for i (get_or owners n no_superblock))) (sym f) o.class;
      is_large = subst (λ l. times_large n l ≡ large_in (usage_for i (get_or owners n no_superblock))) (sym g) o.is_large;
      count = subst (λ l. span_count n l ≡ count_in (usage_for i (get_or owners n no_superblock))) (sym g) o.count;
    }) where
      now : (x : SuperblockUsage) → IsUsage d x raw split cutting classed large
          → IsUsage d usage.Raw (d ∷ without d base.raw) (without d base.split) (without d base.cutting) base.classed base.large
      now x o = let z = zeros x o in record {
        is_raw = (let one = eq-eqb-one d d refl in let w = without_at d base.raw (let q = ap (times d) a in let r = z.0 in omega arith) in omega arith);
        is_split = without_at d base.split (let q = ap (times d) b in let r = z.1 in omega arith);
        is_cutting = without_at d base.cutting (let q = ap (times d) e in let r = z.2 in omega arith);
        is_classed = ap (times_classed d) f ∙ z.3;
        class = ap (claim_class d) f ∙ z.4;
        is_large = ap (times_large d) g ∙ z.5;
        count = ap (span_count d) g ∙ z.6;
      } where
        zeros : (x : SuperblockUsage) → IsUsage d x raw split cutting classed large → (times d raw ≤ 1) × (times d split ≤ 1)
            × (times d cutting ≤ 1) × (times_classed d classed ≡ 0) × (claim_class d classed ≡ 0) × (times_large d large ≡ 0) × (span_count d large ≡ 0)
        zeros usage.Nothing o = absurd (let p = o.is_raw in let q = o.is_split in let r = o.is_cutting in omega arith)
        zeros usage.Raw o = let p = o.is_raw in let q = o.is_split in let r = o.is_cutting in
            (omega arith, omega arith, omega arith, o.is_classed, o.class, o.is_large, o.count)
        zeros usage.Split o = let p = o.is_raw in let q = o.is_split in let r = o.is_cutting in
            (omega arith, omega arith, omega arith, o.is_classed, o.class, o.is_large, o.count)
        zeros usage.Cutting o = let p = o.is_raw in let q = o.is_split in let r = o.is_cutting in
            (omega arith, omega arith, omega arith, o.is_classed, o.class, o.is_large, o.count)
        zeros (usage.Classed class) o = absurd (let p = o.is_raw in let q = o.is_split in let r = o.is_cutting in omega arith)
        zeros (usage.Large count) o = absurd (let p = o.is_raw in let q = o.is_split in let r = o.is_cutting in omega arith)
anchored_kept owners i d (suc value) raw split cutting classed large base a b e f g less some old =
    usages_mine owners i d usage.Cutting (λ n y. IsUsage n y (without d base.raw) (without d base.split)
    (d ∷ without d base.cutting) base.classed base.large) less
    (now (usage_for i (get_or owners d no_superblock)) (old d)) (λ n other. let o = old n in record {
      is_raw = without_off n d base.raw other ∙ ap (times n) a ∙ o.is_raw;
      is_split = without_off n d base.split other ∙ ap (times n) b ∙ o.is_split;
      is_cutting = (let z = ne-eqb-none d n (λ h. other (sym h)) in let w = without_off n d base.cutting other in let r = o.is_cutting in
          let q = ap (times n) e in omega arith);
      is_classed = subst (λ l. times_classed n l ≡ classed_in (usage_for i (get_or owners n no_superblock))) (sym f) o.is_classed;
      class = subst (λ l. claim_class n l ≡ class_in (usage_for i (get_or owners n no_superblock))) (sym f) o.class;
      is_large = subst (λ l. times_large n l ≡ large_in (usage_for i (get_or owners n no_superblock))) (sym g) o.is_large;
      count = subst (λ l. span_count n l ≡ count_in (usage_for i (get_or owners n no_superblock))) (sym g) o.count;
    }) where
      now : (x : SuperblockUsage) → IsUsage d x raw split cutting classed large
          → IsUsage d usage.Cutting (without d base.raw) (without d base.split) (d ∷ without d base.cutting) base.classed base.large
      now x o = let z = zeros x o in record {
        is_raw = without_at d base.raw (let q = ap (times d) a in let r = z.0 in omega arith);
        is_split = without_at d base.split (let q = ap (times d) b in let r = z.1 in omega arith);
        is_cutting = (let one = eq-eqb-one d d refl in let w = without_at d base.cutting (let q = ap (times d) e in let r = z.2 in
            omega arith) in omega arith);
        is_classed = ap (times_classed d) f ∙ z.3;
        class = ap (claim_class d) f ∙ z.4;
        is_large = ap (times_large d) g ∙ z.5;
        count = ap (span_count d) g ∙ z.6;
      } where
        zeros : (x : SuperblockUsage) → IsUsage d x raw split cutting classed large → (times d raw ≤ 1) × (times d split ≤ 1)
            × (times d cutting ≤ 1) × (times_classed d classed ≡ 0) × (claim_class d classed ≡ 0) × (times_large d large ≡ 0) × (span_count d large ≡ 0)
        zeros usage.Nothing o = absurd (let p = o.is_raw in let q = o.is_split in let r = o.is_cutting in omega arith)
        zeros usage.Raw o = let p = o.is_raw in let q = o.is_split in let r = o.is_cutting in
            (omega arith, omega arith, omega arith, o.is_classed, o.class, o.is_large, o.count)
        zeros usage.Split o = let p = o.is_raw in let q = o.is_split in let r = o.is_cutting in
            (omega arith, omega arith, omega arith, o.is_classed, o.class, o.is_large, o.count)
        zeros usage.Cutting o = let p = o.is_raw in let q = o.is_split in let r = o.is_cutting in
            (omega arith, omega arith, omega arith, o.is_classed, o.class, o.is_large, o.count)
        zeros (usage.Classed class) o = absurd (let p = o.is_raw in let q = o.is_split in let r = o.is_cutting in omega arith)
        zeros (usage.Large count) o = absurd (let p = o.is_raw in let q = o.is_split in let r = o.is_cutting in omega arith)

pub plain_may : (m : Memory) (v : View) (cell : Cell) (value : ℕ) → IsPlain cell → MayStore m v cell value
plain_may m v used_cell value is = absurd is
plain_may m v (head_cell list) value is = absurd is
plain_may m v (info_cell d) value is = tt
plain_may m v (anchor_cell d) value is = absurd is
plain_may m v (link_cell d) value is = absurd is
plain_may m v (root_cell n) value is = tt
plain_may m v (data_cell word) value is = absurd is
plain_may m v no_cell value is = absurd is

pub plain_same : (base : View) (cell : Cell) (value : ℕ) → IsPlain cell → stored base cell value ≡ base
plain_same base used_cell value is = absurd is
plain_same base (head_cell list) value is = absurd is
plain_same base (info_cell d) value is = refl
plain_same base (anchor_cell d) value is = absurd is
plain_same base (link_cell d) value is = absurd is
plain_same base (root_cell n) value is = refl
plain_same base (data_cell word) value is = absurd is
plain_same base no_cell value is = absurd is

pub anchored_going : (base : View) (d value : ℕ) → (stored_anchor base d value).stopped ≡ base.stopped
anchored_going base d zero = refl
anchored_going base d (suc value) = refl
