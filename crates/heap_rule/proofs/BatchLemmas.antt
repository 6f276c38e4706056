-- The batch of a seat, the anchor that it is given to, and what is kept of the seat after that.
use Rattle.std.proofs.Common.{◌≡◌, ◌≢◌, ℕ, ◌+◌, ◌-◌, ◌*◌, ◌/◌, ◌<◌, ◌≤◌, ◌⊎◌, inl, inr, Bool, true, false, None, cond, nat_eq, length, refl, ap, sym, subst, ◌∙◌, mul-div_cancel, arith}
use Rattle.std.proofs.lemmas.Bool.{cases_eq}
use Rattle.heap_model.specs.Counting.{times}
use Rattle.heap_model.specs.Geometry.{start_word, superblock_of}
use Rattle.heap_model.specs.Sizes.{IsClass, words_of_class, blocks_of}
use Rattle.heap_model.specs.Words.{anchor_state, anchor_count, full_anchor}
use Rattle.heap_model.proofs.SizeLemmas.{two_words, few_blocks}
use Rattle.core_model.specs.declared.event.Event.TheVariants.{Give}
use Rattle.core_model.specs.Memory.{Memory, memory_of, anchor, info}
use Rattle.core_model.specs.View.{View, no_batch, times_block}
use Rattle.core_model.specs.Effects.{seen_word, first_of, batch_anchor, given_anchor, claimed, given, trimmed, won}
use Rattle.core_model.specs.Guards.{IsThere}
use Rattle.core_model.specs.Sound.{IsCutBlock}
use Rattle.core_model.proofs.BlockLemmas.{first_there}
use Rattle.core_model.proofs.SoundLemmas.{batched}
use Rattle.seat_state.specs.declared.notes.SeatNotes.{SeatNotes}
use Rattle.seat_state.proofs.NewSeat.{empty_batch}
use Rattle.heap_table.specs.Plays.{HasSoundState, IsEvent}
use Rattle.heap_rule.specs.Seated.{Fits, IsKeptOf}
use Rattle.heap_table.specs.AtTable.{IsExchange}
use Rattle.heap_rule.specs.Shown.{CanGive}
use Rattle.seat_index.proofs.ExchangeLemmas.{hit, missed}
use Rattle.heap_rule.proofs.GuardLemmas.{give_may}
use Rattle.heap_rule.proofs.HeadLemmas.{claims}
use Rattle.heap_rule.proofs.SeatLemmas.{keep_fits}
use Rattle.seat_index.proofs.ViewBlocks.{block_class, block_cut}
use Rattle.core_model.proofs.GivenLemmas

-- the index of a block in its superblock
pub block_index : (capacity class d b : ℕ) → IsClass class → IsCutBlock capacity class d b
    → (b - start_word capacity d) / words_of_class class < 2147483648
block_index capacity class d b is cut =
    let e : b - start_word capacity d ≡ cut.index * words_of_class class = (let z = cut.at in omega arith) in
    let two = two_words class is in
    let index_is : (b - start_word capacity d) / words_of_class class ≡ cut.index = ap (λ n. n / words_of_class class) e
    ∙ mul-div_cancel cut.index {n = words_of_class class} (omega arith) in
    let l = cut.below in let few = few_blocks class is in omega arith

module _ (v : View) (s : HasSoundState v) (d : ℕ) (of_d : v.batch.descriptor ≡ d) (some : 1 ≤ length v.batch.blocks) where
  abbrev m : Memory
  m = memory_of v.setup.capacity s.words

  abbrev first : ℕ
  first = first_of v.batch.blocks

  there : 0 < times first v.batch.blocks
  there = first_there v.batch.blocks some

  of : (superblock_of v.setup.capacity first ≡ d) × (info m d ≡ v.batch.class)
  of = let b = (s.sound.good.blocks s.seat v s.below s.at).batched first there in (b.0 ∙ of_d, ap (info m) (sym of_d) ∙ b.1)

  own : 0 < times_block first v
  own = let t = there in omega arith

  info_is : info m (superblock_of v.setup.capacity first) ≡ v.batch.class
  info_is = ap (info m) of.0 ∙ of.1

  pub batch_class : IsClass v.batch.class
  batch_class = subst IsClass info_is (block_class v s first own)

  pub batch_first : IsCutBlock v.setup.capacity v.batch.class d first
  batch_first = subst (λ e. IsCutBlock v.setup.capacity v.batch.class e first) of.0
      (subst (λ n. IsCutBlock v.setup.capacity n (superblock_of v.setup.capacity first) first) info_is (block_cut v s first own).1)

  pub batch_below : d < v.setup.capacity
  batch_below = batched v.setup m s.views s.seat v s.below s.at s.sound.good d of_d some

-- where the anchor is as it was seen it has room for the batch, and becomes what is said
pub give_exchange : (notes : SeatNotes) (v : View) (d word new : ℕ) → IsKeptOf notes v → CanGive v d → IsThere v.ticket → seen_word v.seen_anchor ≡ word
    → (anchor_state word ≢ 3 → notes.batch.count + anchor_count word ≤ blocks_of notes.batch.class
    → new ≡ given_anchor word ((notes.batch.first - start_word v.setup.capacity d) / words_of_class notes.batch.class) notes.batch.count
    (blocks_of notes.batch.class))
    → IsExchange (Give d) v word new
give_exchange notes v d word new kept can ticket is new_is s found found_is = by_case (cases_eq found word) where
  m : Memory
  m = memory_of v.setup.capacity s.words

  start : ℕ
  start = start_word v.setup.capacity d

  becomes : anchor m d ≡ seen_word v.seen_anchor → new ≡ batch_anchor v d
  becomes as_seen =
      let state = GivenLemmas.state_fits v.setup m s.views s.seat v s.below s.at s.sound.good ticket d (give_may v s d can) as_seen in
      let room = GivenLemmas.count_fits v.setup m s.views s.seat v s.below s.at s.sound.good ticket d (give_may v s d can) as_seen in
      let all = GivenLemmas.count_is v.setup m s.views s.seat v s.below s.at s.sound.good ticket d (give_may v s d can) as_seen in
      let state_is = ap anchor_state (as_seen ∙ is) in let count_is = ap anchor_count is in let blocks_is = ap blocks_of kept.batch.class in
      let n = kept.batch.count in
      new_is (λ three. omega (arith, three)) (omega arith)
      ∙ ap (λ x. given_anchor x ((notes.batch.first - start) / words_of_class notes.batch.class) notes.batch.count
      (blocks_of notes.batch.class)) (sym is)
      ∙ ap (λ x. given_anchor (seen_word v.seen_anchor) ((x - start) / words_of_class notes.batch.class) notes.batch.count
      (blocks_of notes.batch.class)) (sym kept.batch.first)
      ∙ ap (λ x. given_anchor (seen_word v.seen_anchor) ((first_of v.batch.blocks - start) / words_of_class x) notes.batch.count (blocks_of x))
      (sym kept.batch.class)
      ∙ ap (λ x. given_anchor (seen_word v.seen_anchor) ((first_of v.batch.blocks - start) / words_of_class v.batch.class) x
      (blocks_of v.batch.class)) (sym kept.batch.count)

  by_case : (found ≡ word) ⊎ (found ≢ word) → cond (nat_eq found (seen_word v.seen_anchor)) (batch_anchor v d) found ≡ cond
      (nat_eq found word) new found
  by_case (inl same) = hit found (seen_word v.seen_anchor) (batch_anchor v d) found (same ∙ sym is)
      ∙ sym (becomes (sym found_is ∙ same ∙ sym is)) ∙ sym (hit found word new found same)
  by_case (inr other) = missed found (seen_word v.seen_anchor) (batch_anchor v d) found (λ e. other (e ∙ is)) ∙ sym (missed found word new found other)

-- what is kept of a seat that knows less of words
pub trims : (notes : SeatNotes) (v : View) → Fits notes v → Fits notes (trimmed v)
trims notes v f = record {
  notes_are = record {
    ticket = f.notes_are.ticket;
    stopped = f.notes_are.stopped;
    seen_used = f.notes_are.seen_used;
    seen_head = f.notes_are.seen_head;
    seen_link = f.notes_are.seen_link;
    seen_anchor = f.notes_are.seen_anchor;
  };
  caches = f.caches;
  batch = f.batch;
}

pub batch_given : (notes : SeatNotes) (v w : View) (d found word : ℕ) → IsKeptOf notes v → IsEvent (Give d) v found w → HasSoundState w
    → seen_word v.seen_anchor ≡ word → found ≡ word
    → IsKeptOf (record notes { ticket = None; seen_anchor = None; batch = empty_batch }) w
batch_given notes v w d found word kept event has is same =
    keep_fits _ _ w (event.after ∙ hit found (seen_word v.seen_anchor) (given v d) _ (same ∙ sym is)) has
    (trims _ _ (by_state (nat_eq (seen_word v.seen_anchor) full_anchor))) where
      x : View
      x = record (won v) { batch = no_batch; seen_anchor = None; gives = v.gives + 1 }

      fits : Fits (record notes { ticket = None; seen_anchor = None; batch = empty_batch }) x
      fits = record {
        notes_are = record {
          ticket = refl;
          stopped = kept.notes_are.stopped;
          seen_used = kept.notes_are.seen_used;
          seen_head = kept.notes_are.seen_head;
          seen_link = kept.notes_are.seen_link;
          seen_anchor = refl;
        };
        caches = kept.caches;
        batch = record { descriptor = refl; class = refl; first = refl; last = refl; count = refl; linked = refl };
      }

      by_state : (full : Bool) → Fits (record notes { ticket = None; seen_anchor = None; batch = empty_batch })
          (cond full (claimed x d v.batch.class) x)
      by_state true = claims _ x d v.batch.class fits
      by_state false = fits

pub give_lost : (notes : SeatNotes) (v w : View) (d found word : ℕ) → IsKeptOf notes v → IsEvent (Give d) v found w → HasSoundState w
    → seen_word v.seen_anchor ≡ word → found ≢ word
    → IsKeptOf (record notes { ticket = None; seen_anchor = None }) w
give_lost notes v w d found word kept event has is other = keep_fits _ _ w (event.after
    ∙ missed found (seen_word v.seen_anchor) (given v d) _ (λ e. other (e ∙ is))) has (record {
      notes_are = record {
        ticket = refl;
        stopped = kept.notes_are.stopped;
        seen_used = kept.notes_are.seen_used;
        seen_head = kept.notes_are.seen_head;
        seen_link = kept.notes_are.seen_link;
        seen_anchor = refl;
      };
      caches = kept.caches;
      batch = kept.batch;
    })
