-- What is kept of a seat after an exchange of an anchor.
use Rattle.std.proofs.Common.{◌≡◌, ◌≢◌, ℕ, ◌+◌, ◌*◌, ◌<◌, None, List, get_or, set, length, refl, ap, sym, subst, ◌∙◌, lt-ltb, arith}
use Rattle.heap_model.specs.Geometry.{lists, start_word, info_word}
use Rattle.heap_model.specs.Sizes.{IsClass, words_of_class}
use Rattle.heap_model.specs.Words.{anchor_first, anchor_count}
use Rattle.core_model.specs.declared.event.Event.TheVariants.{TakeAll}
use Rattle.core_model.specs.Cells.{info_cell}
use Rattle.core_model.specs.Memory.{Memory, memory_of, volatile_at, info, next}
use Rattle.core_model.specs.View.{View, times_classed}
use Rattle.core_model.specs.Effects.{seen_word, claim_class, anchored_blocks, taken_all}
use Rattle.core_model.proofs.SoundLemmas.{taken}
use Rattle.seat_state.specs.declared.notes.Cache.{Cache}
use Rattle.seat_state.specs.declared.notes.SeatNotes.{SeatNotes}
use Rattle.seat_state.specs.Notes.{HasCaches}
use Rattle.seat_state.proofs.CacheLemmas.{cache_set}
use Rattle.seat_state.proofs.WordLemmas.{read_is}
use Rattle.heap_table.specs.Plays.{HasSoundState, IsEvent}
use Rattle.heap_rule.specs.Seated.{IsKeptOf}
use Rattle.heap_rule.proofs.SeatLemmas.{keep_fits}
use Rattle.seat_index.proofs.ExchangeLemmas.{hit, missed, chain_length, chain_first}

-- the info that is read
pub info_read : (v : View) (s : HasSoundState v) (d place found : ℕ) → d < v.setup.capacity → place ≡ info_word d
    → found ≡ get_or s.words place 0 → found ≡ info (memory_of v.setup.capacity s.words) d
info_read v s d place found less place_is found_is = found_is ∙ ap (λ n. get_or s.words n 0) place_is
    ∙ sym (read_is v.setup.capacity s.words (volatile_at (info_cell d)) (lt-ltb d v.setup.capacity less))

-- that of a claimed superblock is the claim's class
pub class_read : (v : View) (s : HasSoundState v) (d place found : ℕ) → 0 < times_classed d v.classed → place ≡ info_word d
    → found ≡ get_or s.words place 0 → (found ≡ claim_class d v.classed) × IsClass (claim_class d v.classed)
class_read v s d place found claimed place_is found_is =
    let claim = (s.sound.good.claims s.seat v s.below s.at).is_classed d claimed in
    let less = taken v.setup (memory_of v.setup.capacity s.words) s.views s.seat v s.below s.at s.sound.good d (omega arith) in
    (info_read v s d place found less place_is found_is ∙ claim.1, claim.0)

pub all_taken : (notes : SeatNotes) (v w : View) (d found anchor class : ℕ) (cache : Cache) → IsKeptOf notes v → IsEvent (TakeAll d) v found w
    → HasSoundState w → seen_word v.seen_anchor ≡ anchor → found ≡ anchor
    → class ≡ claim_class d v.classed → IsClass class → cache.first ≡ start_word v.setup.capacity d + anchor_first anchor * words_of_class class
    → cache.count ≡ anchor_count anchor
    → IsKeptOf (record notes { ticket = None; seen_anchor = None; caches = set notes.caches class cache }) w
all_taken notes v w d found anchor class cache kept event has is same class_is is_class first_is count_is =
    keep_fits _ _ w (event.after ∙ hit found (seen_word v.seen_anchor) (taken_all m v d) _ (same ∙ sym is)) has (record {
      notes_are = record {
        ticket = refl;
        stopped = kept.notes_are.stopped;
        seen_used = kept.notes_are.seen_used;
        seen_head = kept.notes_are.seen_head;
        seen_link = kept.notes_are.seen_link;
        seen_anchor = refl;
      };
      caches = subst (λ n. HasCaches (set notes.caches class cache) (set v.caches n (blocks n))) class_is
          (cache_set notes.caches v.caches class (blocks class) cache kept.caches less long
          (λ some. chain_first (next m) (from class) (anchor_count (seen_word v.seen_anchor)) some
          ∙ ap (λ a. start_word v.setup.capacity d + anchor_first a * words_of_class class) is ∙ sym first_is)
          (chain_length (next m) (from class) (anchor_count (seen_word v.seen_anchor)) ∙ ap anchor_count is ∙ sym count_is));
      batch = kept.batch;
    }) where
      m : Memory
      m = memory_of v.setup.capacity event.before.words

      from : ℕ → ℕ
      from n = start_word v.setup.capacity d + anchor_first (seen_word v.seen_anchor) * words_of_class n

      blocks : ℕ → List ℕ
      blocks n = anchored_blocks m v.setup.capacity n d (seen_word v.seen_anchor)

      less : class < lists
      less = let l = is_class.last in omega arith

      long : class < length v.caches
      long = let l = (kept.has.sound.good.set_up kept.has.seat v kept.has.below kept.has.at).caches in let b = less in omega arith

pub take_all_lost : (notes : SeatNotes) (v w : View) (d found anchor : ℕ) → IsKeptOf notes v → IsEvent (TakeAll d) v found w → HasSoundState w
    → seen_word v.seen_anchor ≡ anchor → found ≢ anchor
    → IsKeptOf (record notes { ticket = None; seen_anchor = None }) w
take_all_lost notes v w d found anchor kept event has is other =
    keep_fits _ _ w (event.after ∙ missed found (seen_word v.seen_anchor) (taken_all (memory_of v.setup.capacity event.before.words) v d) _
    (λ e. other (e ∙ is))) has (record {
      notes_are = record {
        ticket = refl;
        stopped = kept.notes_are.stopped;
        seen_used = kept.notes_are.seen_used;
        seen_head = kept.notes_are.seen_head;
        seen_link = kept.notes_are.seen_link;
        seen_anchor = refl;
      };
      caches = kept.caches;
      batch = kept.batch;
    })
