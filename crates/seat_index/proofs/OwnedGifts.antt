-- What a seat keeps to tell its own words, after it gave its batch to a superblock.
use Rattle.std.proofs.Common.{◌≡◌, ◌≢◌, ℕ, ◌+◌, ◌<◌, inl, inr, Bool, false, None, List, [], set, refl, ap, sym, subst, ◌∙◌, Vec, Global, arith}
use Rattle.std.specs.Vec.{vec_capacity}
use Rattle.std.proofs.lemmas.Bool.{cases_lt}
use Rattle.heap_model.specs.Words.{anchor_state, full_anchor}
use Rattle.core_model.specs.declared.event.Event.TheVariants.{Give}
use Rattle.core_model.specs.Memory.{Memory, memory_of}
use Rattle.core_model.specs.View.{View, no_batch, times_raw, times_classed, times_large}
use Rattle.core_model.specs.Effects.{seen_word, claimed, given, won, trimmed}
use Rattle.core_model.specs.Sound.{Good, tally_of, times_cut}
use Rattle.core_model.proofs.AnchorLemmas as on_anchor
use Rattle.core_model.proofs.GivenLemmas as gives
use Rattle.core_model.proofs.SoundLemmas.{batched}
use Rattle.seat_index.specs.declared.owned.Ownership.{Ownership}
use Rattle.seat_index.specs.declared.owned.Owned.{Owned}
use Rattle.seat_index.specs.Owned.{listed, parts_of, IsMarking, HasOwned, times_had}
use Rattle.heap_table.specs.Plays.{IsEvent}
use Rattle.seat_index.proofs.BlockMarks.{marked_less}
use Rattle.seat_index.proofs.ExchangeLemmas.{hit, missed}
use Rattle.seat_index.proofs.ViewBlocks.{block_once}
use Rattle.seat_index.proofs.OwnedClaims.{claim_owned, claimed_parts}

-- the batch is given back
module _ (v w : View) (d found : ℕ) (event : IsEvent (Give d) v found w) (same : found ≡ seen_word v.seen_anchor) where
  abbrev m1 : Memory
  m1 = memory_of v.setup.capacity event.before.words

  abbrev good1 : Good v.setup m1 event.before.views
  good1 = event.before.sound.good

  abbrev base : View
  base = record (won v) { batch = no_batch; seen_anchor = None; gives = v.gives + 1 }

  gave : w ≡ given v d
  gave = event.after ∙ hit found (seen_word v.seen_anchor) (given v d) _ same

  base_owned : (o : Owned) (blocks : List Bool) (batch : Vec ℕ Global) → HasOwned o (parts_of v)
      → IsMarking o.blocks blocks v.batch.blocks false → batch.items ≡ [] → vec_capacity batch ≡ vec_capacity o.batch
      → HasOwned (record o { blocks = blocks; batch = batch }) (parts_of base)
  base_owned o blocks batch own marking none room = record {
    words_long = marking.long ∙ own.words_long;
    classes_long = own.classes_long;
    ownerships_long = own.ownerships_long;
    roots_long = own.roots_long;
    blocks = marked_less o.blocks blocks (λ b. times_had b (parts_of v)) (λ b. times_had b (parts_of base)) v.batch.blocks marking
        (λ b. omega arith) (block_once v event.before) own.blocks;
    classes = record { held = own.classes.held; cached = own.classes.cached; batched = λ b some. absurd (omega arith) };
    ownerships = λ e. let b = own.ownerships e in record {
      unclassed = b.unclassed;
      is_classed = b.is_classed;
      class = b.class;
      is_large = b.is_large;
      count = b.count;
    };
    roots_are = own.roots_are;
    batch = none;
    room = (let r = own.room in omega arith);
    stacks = own.stacks;
  }

  -- its superblock keeps its place, where it had free blocks
  pub give_kept : (o : Owned) (blocks : List Bool) (batch : Vec ℕ Global) → HasOwned o (parts_of v)
      → IsMarking o.blocks blocks v.batch.blocks false → batch.items ≡ [] → vec_capacity batch ≡ vec_capacity o.batch
      → found ≢ full_anchor → HasOwned (record o { blocks = blocks; batch = batch }) (parts_of w)
  give_kept o blocks batch own marking none room part = subst (HasOwned (record o { blocks = blocks; batch = batch }))
      (sym (ap parts_of (gave ∙ ap trimmed (missed (seen_word v.seen_anchor) full_anchor (claimed base d v.batch.class) base (λ e. part (same ∙ e))))))
      (base_owned o blocks batch own marking none room)

  -- one that was full comes into the hand
  pub give_full : (o : Owned) (blocks : List Bool) (batch : Vec ℕ Global) (ownerships : Vec Ownership Global) (x : Ownership)
      → HasOwned o (parts_of v) → IsMarking o.blocks blocks v.batch.blocks false → batch.items ≡ [] → vec_capacity batch ≡ vec_capacity o.batch
      → found ≡ full_anchor → x ≡ listed v.batch.class → ownerships.items ≡ set o.ownerships.items d x
      → HasOwned (record o { blocks = blocks; batch = batch; ownerships = ownerships }) (parts_of w)
  give_full o blocks batch ownerships x own marking none room full x_is items =
      subst (HasOwned (record o { blocks = blocks; batch = batch; ownerships = ownerships }))
      (sym (ap parts_of (gave ∙ ap trimmed (hit (seen_word v.seen_anchor) full_anchor (claimed base d v.batch.class) base (sym same ∙ full)))
      ∙ claimed_parts base d v.batch.class))
      (claim_owned (record o { blocks = blocks; batch = batch }) ownerships (parts_of base) d v.batch.class x
      (base_owned o blocks batch own marking none room) x_is items
      (batched v.setup m1 event.before.views event.before.seat v event.before.below event.before.at good1 d event.may.ready.batch
      event.may.ready.some) alone) where
        cut_d1 : 0 < times_cut good1.shape (tally_of event.before.views) d
        cut_d1 = gives.cut_d v.setup m1 event.before.views event.before.seat v event.before.below event.before.at good1 event.may.ticket d
            event.may.ready (sym event.found_is ∙ same)

        not_here : (times_raw d v ≡ 0) × (times_large d v.large ≡ 0)
        not_here = on_anchor.not_here v.setup m1 event.before.views event.before.seat v event.before.below event.before.at good1 d 0 cut_d1
            event.before.seat v event.before.below event.before.at

        alone : (times_raw d v ≡ 0) × (times_classed d v.classed ≡ 0) × (times_large d v.large ≡ 0)
        alone = (
          not_here.0,
          elim (cases_lt 0 (times_classed d v.classed)) [
            | inl claimed_it ↦ absurd (let l = ((good1.claims event.before.seat v event.before.below event.before.at).is_classed d
                claimed_it).2 in let e = ap anchor_state (sym event.found_is ∙ full) in let two : anchor_state 2 ≡ 2 = refl in omega arith)
            | inr not_claimed ↦ omega arith
          ],
          not_here.1,
        )
