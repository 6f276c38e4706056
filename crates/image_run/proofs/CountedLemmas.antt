-- Where the anchors hold what is reached, what is told of an image that was opened by them is what is told of the recovered one.
use Rattle.std.proofs.Common.{◌≡◌, ◌↔◌, ◌++◌, ℕ, zero, suc, ◌+◌, ◌*◌, ◌<◌, ◌≤◌, Bool, false, Some, List, [], length, slice_index, refl, ap, sym, subst, ◌∙◌, arith}
use Rattle.std.specs.Prelude.{◌==◌, ◌-◌, if◌then◌else◌, codes, decimal, nat_eq}
use Rattle.std.specs.List.{flat_map, range_with_len, list_any}
use Rattle.heap_model.specs.declared.block.Block.{Block}
use Rattle.heap_model.specs.Geometry.{clean, info_word}
use Rattle.heap_model.specs.Header.{capacity_of, state_of, used_of, first_kinds}
use Rattle.heap_model.specs.Image.{Image}
use Rattle.heap_model.specs.Blocks.{layout_of}
use Rattle.heap_model.specs.Recovered.{IsFreeSuperblock, AreAscending}
use Rattle.heap_model.specs.Recovery.{HoldsKept, IsPartial, IsFullyKept, IsInLarge, IsRecovered}
use Rattle.heap_model.specs.Words.{large_count, is_large_info}
use Rattle.heap_at_rest.proofs.RecoveredLemmas.{same_capacity, same_used}
use Rattle.heap_at_rest.proofs.StandingLemmas.{Standing, is_untaken, is_free, is_partial, is_fully_kept, is_in_large, cases_superblock}
use Rattle.heap_at_rest.specs.Orderly.{IsOrderly, IsHeldByAnchors}
use Rattle.heap_recover.proofs.AscendingLemmas.{ascending_one}
use Rattle.region_header.specs.Migration.{current_words}
use Rattle.region_header.proofs.MigrationLemmas.{current_of_new}
use Rattle.quick_recover.specs.declared.open.Path.TheVariants.{Quick as ByAnchors}
use Rattle.quick_recover.specs.Reopened.{IsReopened}
use Rattle.dict_model.specs.Links.{kind_count}
use Rattle.dict_model.specs.Requests.{Request}
use Rattle.run_model.specs.Opened.{HasMaps}
use Rattle.trace_text.specs.Report.{line_feed, report_of}
use Rattle.trace_text.specs.HeapMap.{class_use, first_of, inside_use, is_class, large_use, line_of, map_of, superblock_line, used_line}
use Rattle.image_run.specs.Reporting.{IsKept, Recovers, image_in, shown_text, words_in_bytes}
use Rattle.image_run.specs.Running.{Options, RunsRequests}
use Rattle.image_run.proofs.PutLemmas.{left_again, put_orderly, words_are_in}
use Rattle.image_run.specs.Counting.{IsOrderlyImage, TellsOpened, by_anchors, traced, way_line}

-- lines of numbers that are the same each are the same together
same_lines : (f g : ℕ → List ℕ) (from count : ℕ) → ((d : ℕ) → from ≤ d → d < from + count → f d ≡ g d)
    → flat_map f (range_with_len from count) ≡ flat_map g (range_with_len from count)
same_lines f g from zero same = refl
same_lines f g from (suc count) same =
    ap (λ line. line ++ flat_map f (range_with_len (from + 1) count)) (same from (omega arith) (omega arith))
    ∙ ap (λ rest. g from ++ rest) (same_lines f g (from + 1) count (λ d low high. same d (omega arith) (omega arith)))

module _ (old new left : Image) (kept other : Block → Type 0) (same : (b : Block) → kept b ↔ other b)
    (opened : IsReopened old new kept) (recovered : IsRecovered old left other) where
  -- how a superblock stands, of the other blocks
  holds_other : (d : ℕ) → HoldsKept (layout_of old) kept d → HoldsKept (layout_of old) other d
  holds_other d holds = record { block = holds.block; is_kept = (same holds.block).0 holds.is_kept; part = holds.part }

  free_other : (d : ℕ) → IsFreeSuperblock (layout_of old) kept d → IsFreeSuperblock (layout_of old) other d
  free_other d free = record { taken = free.taken; empty = λ b is part. free.empty b ((same b).1 is) part }

  partial_other : (class d : ℕ) → IsPartial (layout_of old) kept class d → IsPartial (layout_of old) other class d
  partial_other class d part = record {
    taken = part.taken;
    info_is = part.info_is;
    holds = holds_other d part.holds;
    spare = let spare = part.spare.1 in (
      part.spare.0,
      record {
        index = spare.index;
        block = spare.block;
        is_block = spare.is_block;
        first = spare.first;
        unkept = λ is. spare.unkept
            ((same spare.block).1 is);
      },
    );
  }

  full_other : (class d : ℕ) → IsFullyKept (layout_of old) kept class d → IsFullyKept (layout_of old) other class d
  full_other class d full = record { taken = full.taken; info_is = full.info_is; all = λ index b of. (same b).0 (full.all index b of) }

  large_other : (d : ℕ) → IsInLarge (layout_of old) kept d → IsInLarge (layout_of old) other d
  large_other d large = record { taken = large.taken; holds = holds_other d large.holds; no_class = large.no_class }

  capacity_same : capacity_of new ≡ capacity_of left
  capacity_same = same_capacity old new opened.same ∙ sym (same_capacity old left recovered.same)

  used_same : used_of new ≡ used_of left
  used_same = same_used old new opened.same ∙ sym (same_used old left recovered.same)

  -- so both ways leave the same info
  info_by : (d : ℕ) → d < used_of old → Standing (layout_of old) kept d → new (info_word d) ≡ left (info_word d)
  info_by d taken (is_untaken past) = absurd (omega arith)
  info_by d taken (is_free free) = (opened.free d free).info_is ∙ sym (recovered.free d (free_other d free)).info_is
  info_by d taken (is_partial class is part) = (opened.partial class d is part).info_is
      ∙ sym (recovered.partial class d is (partial_other class d part)).words.info_is
  info_by d taken (is_fully_kept class is full) = (opened.full class d is full).info_is
      ∙ sym (recovered.full class d is (full_other class d full)).info_is
  info_by d taken (is_in_large large) = (opened.in_large d large).info_is ∙ sym (recovered.in_large d (large_other d large)).info_is

  module _ (held : List Block) (are : AreAscending (λ (b : Block). b.first_word) kept held) (free : List ℕ) where
    -- the line of a superblock, by its info
    abbrev line_by : ℕ → ℕ → ℕ → List ℕ
    line_by capacity d info = line_of d (
        if list_any (λ f. f == d) free then codes "free"
        else if is_class info then class_use capacity info held d
        else if is_large_info info then large_use (large_count info)
        else inside_use (first_of capacity d held)
        )

    line_same : (d : ℕ) → d < used_of old → superblock_line new held free d ≡ superblock_line left held free d
    line_same d taken =
        ap (line_by (capacity_of new) d) (info_by d taken (cases_superblock (layout_of old) kept held d are))
        ∙ ap (λ capacity. line_by capacity d (left (info_word d))) capacity_same

    abbrev first_by : ℕ → ℕ → List ℕ
    first_by used capacity = codes "used " ++ decimal used ++ codes " free " ++ decimal (length free) ++ codes " fresh "
        ++ decimal (capacity - used) ++ line_feed

    first_line : used_line new free ≡ used_line left free
    first_line = ap (λ used. first_by used (capacity_of new)) used_same ∙ ap (λ capacity. first_by (used_of left) capacity) capacity_same

    map_same : map_of new held free ≡ map_of left held free
    map_same =
        let used : used_of new ≡ used_of old = same_used old new opened.same in
        ap (λ line. line ++ flat_map (superblock_line new held free) (range_with_len 0 (used_of new))) first_line
        ∙ ap (λ rest. used_line left free ++ rest)
        (same_lines (superblock_line new held free) (superblock_line left held free) 0 (used_of new) (λ d low high. line_same d (omega arith)))
        ∙ ap (λ count. used_line left free ++ flat_map (superblock_line left held free) (range_with_len 0 count)) used_same

-- so what is told of an image by its anchors is told of the recovered one
module _ (words : List ℕ) (with_map : Bool) (text : List ℕ) (orderly : IsOrderlyImage words)
    (same : (b : Block) → IsHeldByAnchors (slice_index words) b ↔ IsKept (slice_index words) b)
    (held : List Block) (free : List ℕ) (left : Image) (recovers : Recovers (slice_index words) held free left) where
  abbrev image : Image
  image = slice_index words

  one_text : (held' : List Block) (free' : List ℕ) (new : Image) → held' ≡ held → free' ≡ free
      → AreAscending (λ (b : Block). b.first_word) (IsHeldByAnchors (slice_index words)) held
      → IsReopened (slice_index words) new (IsHeldByAnchors (slice_index words))
      → shown_text (slice_index words) with_map [] held' free' new ≡ shown_text (slice_index words) with_map [] held free left
  one_text held' free' new same_held same_free are opened =
      ap (λ bs. shown_text image with_map [] bs free' new) same_held
      ∙ ap (λ ds. shown_text image with_map [] held ds new) same_free
      ∙ ap (λ map. report_of (capacity_of image) (nat_eq (state_of image) clean) [] held ++ (if with_map then map else []))
      (map_same image new left (IsHeldByAnchors image) (IsKept image) same opened recovers.words_are held are free)

  pub told_as_recovered : TellsOpened words with_map text → text ≡ way_line ByAnchors ++ shown_text (slice_index words) with_map [] held free left
  told_as_recovered (by_anchors is told) =
      let one_held = ascending_one (λ (b : Block). b.first_word) (IsHeldByAnchors image) (IsKept image) told.held held (λ b. (same b).0)
      (λ b. (same b).1) told.held_are recovers.held_are in
      let one_free = ascending_one (λ d. d) (IsFreeSuperblock (layout_of image) (IsHeldByAnchors image))
      (IsFreeSuperblock (layout_of image) (IsKept image)) told.free free
      (λ d is. record { taken = is.taken; empty = λ b k part. is.empty b ((same b).1 k) part })
      (λ d is. record { taken = is.taken; empty = λ b h part. is.empty b ((same b).0 h) part })
      told.free_are recovers.free_are in
      let are = subst (AreAscending (λ (b : Block). b.first_word) (IsHeldByAnchors image)) one_held told.held_are in
      told.text_is ∙ ap (λ report. way_line ByAnchors ++ report) (one_text told.held told.free told.words one_held one_free are told.words_are)
  told_as_recovered (traced not_orderly inside told) = absurd (not_orderly orderly)

-- and so it is of what a run closes
module _ (image : Image) (requests : List Request) (options : Options) (put told : List ℕ) (have : HasMaps image)
    (run : RunsRequests image requests options put told)
    (closed : run.stopped ≡ false) where
  abbrev words : List ℕ
  words = current_words (words_in_bytes put) first_kinds

  closed_orderly : IsOrderlyImage (current_words (words_in_bytes put) first_kinds)
  closed_orderly =
      let is_left : words ≡ run.left = ap (λ ws. current_words ws first_kinds) (words_are_in run.left put run.words_are)
      ∙ current_of_new run.left first_kinds (left_again image requests options put told have run).version_is in
      let long : length put ≡ 8 * length words = let count = run.words_are.count in let same = ap length is_left in omega arith in
      subst (λ n. IsOrderly (Some kind_count) n (image_in put)) long (put_orderly image requests options put told have run closed).0

  pub told_of_run : (with_map : Bool) (text : List ℕ) → TellsOpened (current_words (words_in_bytes put) first_kinds) with_map text
      → (held : List Block) (free : List ℕ) (left : Image) → Recovers (image_in put) held free left
      → text ≡ way_line ByAnchors ++ shown_text (image_in put) with_map [] held free left
  told_of_run with_map text tells held free left recovers =
      told_as_recovered words with_map text closed_orderly (put_orderly image requests options put told have run closed).1 held free left recovers tells
