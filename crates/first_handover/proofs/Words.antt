-- The first word of a block on its way from one seat to the other.
use Rattle.std.proofs.Common.{◌≡◌, ◌≢◌, ◌≤◌, ◌+◌, ℕ, Option, None, Some, Result, Ok, Err, inl, inr, arith, subst, sym, ◌∙◌}
use Rattle.std.specs.Prelude.{Contains, IfSome, OnErr}
use Rattle.heap_model.specs.declared.block.Block.{Block}
use Rattle.heap_model.specs.Blocks.{IsIn}
use Rattle.core_model.specs.Held.{AreApart}
use Rattle.heap_seat.specs.Alloc.{Adds}
use Rattle.heap_seat.specs.Calls.{Loads}
use Rattle.heap_seat.specs.Handing.{ComesWith, Offers}
use Rattle.heap_seat.specs.Sound.{IsSeat}
use Rattle.heap_seat.specs.View.{View}
use Rattle.heap_seat.specs.Words.{KeepsOwn, in_block}
use Rattle.heap_seat.proofs.CallerLemmas.{held_in, not_new, stays_durable}
use Rattle.heap_rule.specs.Carried.{CarrierView}
use Rattle.seat_model.specs.CacheState.{CacheState, heap_view}
use Rattle.thread_cache.specs.Handing.{IsSent, contents_of}
use Rattle.first_handover.specs.Handover.{Brings, HasReceived, HasValue}

-- a block with words has its first one
first_in : (b : Block) → 1 ≤ b.words → IsIn b b.first_word
first_in b some = record { from = omega arith; until = omega arith }

-- an index of 0 tells the first word
pub at_first : (known : ℕ → Option ℕ) (b : Block) (value : ℕ) → known (b.first_word + 0) ≡ Some value → known b.first_word ≡ Some value
at_first known b value = subst (λ n. known n ≡ Some value) (let same : b.first_word + 0 ≡ b.first_word = omega arith in same)

-- another block is held still where one is offered
pub left_beside : (a b : Block) (v w : View) → Offers b v w → Contains v.held a → a ≢ b → Contains w.held a
left_beside a b v w offers held differs = elim (offers.blocks.only a held) [
  | inl same ↦ absurd (differs same)
  | inr there ↦ there
]

pub on_err : {A B : Type 0} (P : Type 0) (r : Result A B) → P → OnErr r P
on_err P (Ok a) p = tt
on_err P (Err e) p = p

-- what is so of a value, if there is one, is so of it in other words
pub if_some : {A : Type 0} (P Q : A → Type 0) (o : Option A) → ((a : A) → P a → Q a) → IfSome o P → IfSome o Q
if_some P Q None f p = tt
if_some P Q (Some a) f p = f a p

-- a block that is new is apart from those that were held
pub apart_from_new : (a b : Block) (v w : View) → IsSeat w → Adds b v w → Contains v.held a → AreApart a b
apart_from_new a b v w seat adds held = elim (seat.apart a b (adds.keeps a held) adds.has) [
  | inl same ↦ absurd (not_new v a b held adds.new same)
  | inr apart ↦ apart
]

-- the carrier brings what the seat knew of the word
pub brings_of : (b : Block) (value : ℕ) (c : CarrierView) (s : CacheState) → 1 ≤ b.words → IsSent b c s → HasValue value b (heap_view s)
    → Brings value c
brings_of b value c s some sent has =
    let keeps = sent.contents.words b.first_word (first_in b some) in
    let contents = contents_of c in record {
      seen = subst (λ (x : Block). contents.volatile x.first_word ≡ Some value) (sym sent.block) (keeps.volatile value has.seen);
      left = subst (λ (x : Block). contents.durable x.first_word ≡ Some value) (sym sent.block)
          (stays_durable (heap_view s) (record (heap_view s) { volatile = contents.volatile; durable = contents.durable })
          b.first_word value keeps has.seen has.left);
    }

-- and the seat that accepted it knows that
pub comes_with : (value : ℕ) (c : CarrierView) (w : View) → 1 ≤ c.block.words → ComesWith c.block (contents_of c) w → Brings value c
    → HasValue value c.block w
comes_with value c w some comes brings = record {
  seen = comes.volatile c.block.first_word (first_in c.block some) ∙ brings.seen;
  left = comes.durable c.block.first_word (first_in c.block some) ∙ brings.left;
}

-- what is loaded of it is that value, and it stays
pub loads_it : (value read : ℕ) (b : Block) (v w : View) → 1 ≤ b.words → Contains v.held b → KeepsOwn v w → Loads (b.first_word + 0) read v w
    → HasValue value b v
    → HasReceived value w (record { block = b; value = read })
loads_it value read b v w some held keeps loads has =
    let own = in_block b b.first_word held (first_in b some) in
    let stays = keeps.words b.first_word own in
    let seen = stays.volatile value has.seen in record {
      held = held_in v w b keeps.held held;
      read = let at = at_first w.volatile b read loads.seen in let same : Some read ≡ Some value = cc in cc;
      has = record { seen = seen; left = stays_durable v w b.first_word value stays has.seen has.left };
    }
