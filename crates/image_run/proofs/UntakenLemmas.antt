-- A superblock that a run never took is left as the image before had it.
use Rattle.std.proofs.Common.{◌≡◌, ℕ, ◌<◌, ◌≤◌, ◌++◌, false, List, slice_index, refl, sym, subst, inl, inr, ◌∙◌, arith}
use Rattle.heap_model.specs.declared.block.Block.{Block}
use Rattle.heap_model.specs.Blocks.{layout_of, of_class}
use Rattle.heap_model.specs.Durability.{IsClosedImage}
use Rattle.heap_model.specs.Geometry.{capacity_word, used_word, start_word, superblocks_end}
use Rattle.heap_model.specs.Header.{capacity_of, used_of}
use Rattle.heap_model.specs.Image.{Image}
use Rattle.heap_model.specs.Reach.{IsReachedIn}
use Rattle.heap_model.specs.Recovery.{IsRecovered, in_header}
use Rattle.heap_model.specs.Sizes.{words_of_class, blocks_of}
use Rattle.heap_model.proofs.BlockLemmas.{block_begins}
use Rattle.heap_recover.proofs.SuperblockLemmas.{but_last_in}
use Rattle.heap_table.proofs.UntakenLemmas.{never_taken}
use Rattle.dict_model.specs.Links.{dict_links}
use Rattle.dict_model.specs.Requests.{Request}
use Rattle.run_outcome.specs.Together.{IsLeftOf, opening_for}
use Rattle.image_run.specs.Reporting.{image_in}
use Rattle.image_run.specs.Running.{Options, AreOpened, as_they_are, by_recovery, RunsRequests}
use Rattle.image_run.proofs.PutLemmas.{image_in_words}

-- recovery changes no word of a superblock that was never taken: the words that it links are those of blocks
past_recovery : (old new : Image) (kept : Block → Type 0) → IsRecovered old new kept → (word : ℕ)
    → start_word (capacity_of old) (used_of old) ≤ word → new word ≡ old word
past_recovery old new kept is word from = is.inside word (omega (arith, from)) (λ class d is_class partial linked.
    let spare = (is.chained class d is_class partial).sound word (but_last_in (is.chains d) word linked) in
    let begins = block_begins (layout_of old) spare.block d spare.index (words_of_class class) (blocks_of class)
    (record {
      taken = partial.taken;
      begins = of_class class partial.info_is is_class;
      below = spare.is_block.below;
      at = spare.is_block.at;
      size = spare.is_block.size;
    }) in
    let first = spare.first in
    let taken = partial.taken in
    omega (arith, from, first, begins.1, taken))

-- so the words that a run was opened with have of such a superblock what the image has
opened_past : (words : List ℕ) (image : Image) → AreOpened words image
    → (capacity_of (slice_index words) ≡ capacity_of image) × (used_of (slice_index words) ≡ used_of image)
    × ((word : ℕ) → start_word (capacity_of image) (used_of image) ≤ word → slice_index words word ≡ image word)
opened_past words _ as_they_are = (refl, refl, λ word from. refl)
opened_past words _ (by_recovery image next to opened) =
    let next_is = opened_past words next opened in
    let capacity = to.recovered.same capacity_word (in_header capacity_word (inr (inr (inl refl)))) in
    let used = to.recovered.same used_word (in_header used_word (inr (inr (inr refl)))) in (
      next_is.0 ∙ capacity,
      next_is.1 ∙ used,
      λ word from. next_is.2 word (omega (arith, from, capacity, used))
          ∙ past_recovery image next (IsReachedIn image dict_links) to.recovered word from,
    )

module _ (image : Image) (requests : List Request) (options : Options) (put text : List ℕ) (run : RunsRequests image requests options put text)
    (ended : run.stopped ≡ false) where
  left_past : (word : ℕ) → start_word (capacity_of image) (used_of (slice_index run.left)) ≤ word → word < superblocks_end (capacity_of image)
      → slice_index run.left word ≡ image word
  left_past word from until =
      let over = run.leaves.worked in
      let worked = over.worked in
      let closed : IsClosedImage (slice_index over.now) (slice_index run.left) =
      subst (λ b. IsLeftOf b over.now over.kept run.left) ended worked.left_is in
      let used = closed.others used_word (λ e. omega arith) in
      let opened = opened_past over.words image over.opened in
      let capacity = opened.0 in
      let least = run.leaves.used.least in
      let stays = never_taken (opening_for over.words over.held worked.owners options.workers options.budget) over.now over.kept
      (worked.views ++ worked.carriers) worked.ready worked.by_root.fits worked.reached
      word (omega (arith, from, used, capacity)) (omega (arith, until, capacity)) in
      closed.others word (λ e. omega (arith, from, e)) ∙ stays.0 ∙ opened.2 word (omega (arith, from, least))

  pub never_taken_put : (word : ℕ) → start_word (capacity_of image) (used_of (image_in put)) ≤ word → word < superblocks_end (capacity_of image)
      → image_in put word ≡ image word
  never_taken_put =
      subst (λ (left : Image). (word : ℕ) → start_word (capacity_of image) (used_of left) ≤ word → word < superblocks_end (capacity_of image)
      → left word ≡ image word)
      (sym (image_in_words run.left put run.words_are run.leaves.header.version_is)) left_past
