-- In the image that is left nothing is outside, and what belongs to no shard is as it was.
use Rattle.std.proofs.Common.{◌≡◌, ℕ, ◌<◌, List, slice_index, refl}
use Rattle.std.specs.Prelude.{Bool}
use Rattle.heap_model.specs.declared.block.Block.{Block}
use Rattle.heap_model.specs.Geometry.{roots, root_word}
use Rattle.heap_model.specs.Blocks.{IsIn}
use Rattle.heap_seat.specs.View.{View}
use Rattle.heap_seat.specs.Words.{in_root, in_block, MixesOwn}
use Rattle.dict_requests.proofs.TrailLemmas.{settled_in}
use Rattle.heap_model.specs.Image.{Image}
use Rattle.heap_model.specs.Header.{kinds_of}
use Rattle.heap_model.specs.Reach.{ReachFrom}
use Rattle.heap_model.proofs.ReachLemmas.{closure_included}
use Rattle.seat_model.specs.CacheState.{heap_view}
use Rattle.dict_model.specs.Links.{dict_links}
use Rattle.dict_model.specs.Requests.{Request}
use Rattle.dict_requests.proofs.SeatsLemmas.{nothing_outside}
use Rattle.run_model.specs.Workers.{Replies}
use Rattle.run_model.specs.Runs.{IsOtherRoot, LeavesOthers}
use Rattle.run_model.specs.Stands.{IsOwnOther, HasOthers}
use Rattle.run_outcome.specs.Together.{HaveWorked}
use Rattle.run_model.proofs.StandsLemmas.{reached_left}
use Rattle.run_outcome.proofs.ShareLemmas.{share, mixes, stands_last, owns_other}

-- each image that may be left has the seat's other roots, and what the image that was opened reaches from them
module _ (image : Image) (v : View) (has : HasOthers image v) (left : Image) (mixes : MixesOwn v left) where
  pub root_left : (root : ℕ) → IsOwnOther v root → left (root_word root) ≡ image (root_word root)
  root_left root other = settled_in v left mixes (root_word root) (image (root_word root)) (in_root root (root_word root) other.1 refl)
      (has.root_words root other)

  pub block_left : (b : Block) (kind word : ℕ) → ReachFrom image (IsOwnOther v) (kinds_of image) dict_links b kind → IsIn b word
      → left word ≡ image word
  block_left b kind word reach inside = settled_in v left mixes word (image word) (in_block b word (has.blocks b kind reach) inside)
      (has.words b kind word reach inside)

-- chosen roots reach what those of them reach that there are
there_are_roots : {chosen chosen' : ℕ → Type 0} (image : Image) (kinds : ℕ → ℕ) → ((root : ℕ) → root < roots → chosen root → chosen' root)
    → (b : Block) (kind : ℕ) → ReachFrom image chosen kinds dict_links b kind → ReachFrom image chosen' kinds dict_links b kind
there_are_roots image kinds more = closure_included
    (λ b kind start. record {
      root = start.root;
      below = start.below;
      is_chosen = more start.root start.below start.is_chosen;
      kind_is = start.kind_is;
      leads = start.leads;
    })
    (λ a b from kind reached link. link)

module _ (words : List ℕ) (held : List Block) (workers budget : ℕ) (requests : List Request) (replies : Replies) (stopped : Bool)
    (now kept left : List ℕ)
    (h : HaveWorked words held workers budget requests replies stopped now kept left) where
  pub leaves_others : LeavesOthers (slice_index words) (slice_index left)
  leaves_others =
      let mixed = mixes words held workers budget requests replies stopped now kept left h in
      let first = heap_view (h.last 0) in
      let stands = stands_last words held workers budget requests replies stopped now kept left h 0 h.some in
      let others = stands.others in
      let owns = owns_other words held workers budget requests replies stopped now kept left h in
      record {
        nothing_outside = nothing_outside workers (λ i. heap_view (h.last i)) (slice_index left)
            (share words held workers budget requests replies stopped now kept left h) mixed;
        roots_are = λ root other below. root_left (slice_index words) first others (slice_index left) (mixed.mixes 0 h.some) root
            (other, owns root other below);
        blocks_are = λ b kind word reach inside. block_left (slice_index words) first others (slice_index left) (mixed.mixes 0 h.some) b kind word
            (there_are_roots {chosen = IsOtherRoot} {chosen' = IsOwnOther first} (slice_index words) (kinds_of (slice_index words))
            (λ root below other. (other, owns root other below)) b kind reach) inside;
        still_reached = λ b kind reach. reached_left (slice_index words) first stands.kinds others (slice_index left) (mixed.mixes 0 h.some)
            (mixed.names 0 h.some) (record { each = mixed.kinds 0 h.some }) b kind
            (there_are_roots {chosen = IsOtherRoot} {chosen' = IsOwnOther first} (slice_index words) (kinds_of (slice_index words))
            (λ root below other. (other, owns root other below)) b kind reach);
      }
