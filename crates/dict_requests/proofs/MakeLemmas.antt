-- A block that was just allocated: its room, that none of its words was own, and what stores to it and a fence leave.
use Rattle.std.proofs.Common.{ℕ, ◌+◌, ◌*◌, ◌<◌, ◌≤◌, inl, inr, List, length, Contains, subst, sym, ◌∙◌, arith}
use Rattle.heap_model.specs.declared.block.Block.{Block}
use Rattle.heap_model.specs.Blocks.{IsIn}
use Rattle.heap_model.specs.Image.{image_of_bytes}
use Rattle.heap_model.specs.Sizes.{span_of}
use Rattle.heap_seat.specs.View.{View}
use Rattle.heap_seat.specs.Words.{IsOwn, in_block, KeepsOwn, IsDurable}
use Rattle.heap_seat.specs.Alloc.{Allocates, IsSizeFor, of_class, of_superblocks}
use Rattle.heap_seat.specs.Calls.{Fences, SameRefusals, IsLargeCall}
use Rattle.heap_seat.specs.Rows.{IsRow, Settles}
use Rattle.heap_seat.specs.Sound.{IsSeat}
use Rattle.heap_seat.proofs.CallerLemmas.{own_same, durable_then, keeps_word_then}
use Rattle.heap_seat.proofs.RowLemmas.{row_then, row_more, row_large, runs_then, same_refusals_then}
use Rattle.dict_model.specs.Nodes.{value_words}
use Rattle.dict_requests.specs.Quiet.{Grown}
use Rattle.dict_requests.specs.Trails.{IsDurableAt, IsSettling}
use Rattle.dict_requests.specs.Nodes.{StoresWithin, KeepsPendingBut, WritesNode, MakesNode}
use Rattle.dict_requests.proofs.GrownLemmas.{stays_held, grown_allocates, own_grown, new_block_outside}
use Rattle.dict_requests.proofs.TrailLemmas.{settles}

-- a block for so many words has them
pub room_for : (bytes words : ℕ) → IsSizeFor bytes (8 * words) → bytes ≤ 8 * words
room_for bytes words size = by_case (8 * words) size where
  by_case : (n : ℕ) → IsSizeFor bytes n → bytes ≤ n
  by_case _ (of_class c least) = least.holds
  by_case _ (of_superblocks large) = omega arith

module _ (bytes : ℕ) (b : Block) (v u t : View) (seat : IsSeat u) (allocates : Allocates bytes b v u) (small : ℕ)
    (within : StoresWithin b small u t) where
  grown_first : Grown v u
  grown_first = grown_allocates bytes b v u allocates

  new_outside : (word : ℕ) → IsOwn v.held v.roots word → IsIn b word → ⊥
  new_outside = new_block_outside v u b seat grown_first allocates.blocks.has allocates.blocks.new

  pub grown_within : Grown v t
  grown_within = record {
    keeps = λ a h. stays_held u t within.held a (grown_first.keeps a h);
    roots = within.roots ∙ grown_first.roots;
    words = λ word own. keeps_word_then v u t word (grown_first.words word own)
        (within.outside word (own_grown v u word grown_first own) (new_outside word own));
  }

  pub refusals_within : SameRefusals v t
  refusals_within = same_refusals_then v u t allocates.refusals within.refusals

  -- a fence after the stores settles the words that were pending
  pub settles_all : KeepsPendingBut b u t → (w : View) → KeepsOwn t w → Fences t w → Settles v w
  settles_all keeps w quiet fences = record {
    each = λ word own pending.
        let own_u = own_grown v u word grown_first own in
        let out = new_outside word own in
        let own_t = own_same u t word within.held within.roots own_u in
        elim (allocates.pending word own pending) as (λ _. IsDurable w word) [
          | inl still ↦ fences.durable word own_t (keeps.pending word out still)
          | inr durable ↦ durable_then t w word (quiet.words word own_t) (durable_then u t word (within.outside word own_u out) durable)
        ];
  }

  -- and the node is made
  pub made : (key next : ℕ) (value : List ℕ) (w : View) → 3 + value_words (length value) ≤ b.words → WritesNode b key next value u t
      → KeepsOwn t w → Fences t w → SameRefusals t w
      → MakesNode b key next value v w
  made key next value w room writes quiet fences refusals = record {
    runs = runs_then v t w (runs_then v u t allocates.runs writes.done.runs) fences.runs;
    new = allocates.blocks.new;
    held = subst (λ (bs : List Block). Contains bs b) (sym quiet.held) held_t;
    only = λ a h. allocates.blocks.only a (subst (λ (bs : List Block). Contains bs a) (within.held)
        (subst (λ (bs : List Block). Contains bs a) quiet.held h));
    room = room;
    settles = settles_all writes.done w quiet fences;
    written = record {
      next_is = settled 0 next (omega arith) writes.written.next_is;
      key_is = settled 1 key (omega arith) writes.written.key_is;
      length_is = settled 2 (length value) (omega arith) writes.written.length_is;
      words = λ i less. settled (3 + i) (image_of_bytes value i) (omega arith) (writes.written.words i less);
    };
    refusals = same_refusals_then v t w refusals_within refusals;
  } where
    held_t : Contains t.held b
    held_t = subst (λ (bs : List Block). Contains bs b) (sym within.held) allocates.blocks.has

    settled : (i x : ℕ) → i < 3 + value_words (length value) → IsSettling t (b.first_word + i) x → IsDurableAt w (b.first_word + i) x
    settled i x less settling =
        let own : IsOwn t.held t.roots (b.first_word + i) = in_block b (b.first_word + i) held_t (record { from = omega arith; until = omega arith }) in
        settles t w (b.first_word + i) x own (quiet.words (b.first_word + i) own) (record { each = fences.durable }) settling

-- the calls of a request for a node, and of what is done behind it
pub made_row : (bytes small few : ℕ) (v u w : View) → small ≤ few → IsLargeCall (span_of bytes) v u → IsRow small 0 0 u w
    → IsRow few 1 (span_of bytes) v w
made_row bytes small few v u w less large row =
    row_more (0 + small) (1 + 0) (span_of bytes + 0) few 1 (span_of bytes) v w (omega arith) (omega arith) (omega arith)
    (row_then 0 1 (span_of bytes) small 0 0 v u w (row_large (span_of bytes) v u large) row)
