-- Whose each small block is, as the held blocks of a heap at rest get their seats one after the other.
use Rattle.std.proofs.Common.{◌≡◌, ℕ, suc, ◌+◌, ◌<◌, ◌≤◌, inl, inr, true, false, List, get_or, set, length, slice_index, refl, sym, subst, ◌∙◌, length-set, add-one, arith}
use Rattle.std.proofs.lemmas.Bool.{cases_eq}
use Rattle.heap_model.specs.declared.block.Block.{Block}
use Rattle.heap_model.specs.Geometry.{lists, image_words}
use Rattle.heap_model.specs.Rest.{IsReady}
use Rattle.core_model.specs.Opening.{is_small}
use Rattle.crash_core.specs.declared.owners.BlockPlace.{BlockPlace}
use Rattle.crash_core.specs.declared.owners.BlockPlace.TheVariants as place
use Rattle.crash_core.specs.declared.owners.BlockOwner.{BlockOwner}
use Rattle.crash_core.specs.OpenedOwners.{AreBlockOwners}
use Rattle.crash_core.specs.Standing.{place_for, held_in, cached_in, batched_in, no_block}
use Rattle.crash_core.proofs.BlockPlaces.{places_mine, places_theirs}
use Rattle.seat_state.proofs.HeldSoFar.{none_cached, held_so_far, block_there, within, more_theirs, large_more, mine_here, mine_elsewhere, none_yet, all_held}

-- a seat holds the block so often, and has it nowhere else
pub record IsHeldOnly (n : ℕ) (x : BlockPlace) : Type 0 where
  pub held : n ≡ held_in x
  pub cached : 0 ≡ cached_in x
  pub batched : 0 ≡ batched_in x

held_nowhere : (n : ℕ) (x : BlockPlace) → IsHeldOnly n x → n ≡ 0 → x ≡ place.Nowhere
held_nowhere n place.Nowhere is none = refl
held_nowhere n place.Held is none = absurd (let h = is.held in omega arith)
held_nowhere n place.Cached is none = absurd (let h = is.cached in omega arith)
held_nowhere n place.Batched is none = absurd (let h = is.batched in omega arith)

-- the first held blocks have got their seats
pub record HaveSeats (held : List Block) (owners : List ℕ) (i words : ℕ) (blocks : List BlockOwner) : Type 0 where
  pub long : length blocks ≡ words
  pub each : (j b : ℕ) → IsHeldOnly (held_so_far held owners i j b) (place_for j (get_or blocks b no_block))

module _ (words : List ℕ) (held : List Block) (owners : List ℕ) (ready : IsReady words held) (long : length owners ≡ length held) where
  abbrev c : ℕ
  c = slice_index words 2

  module _ (i : ℕ) (p : Block) (o : ℕ) (below : i < length held) (at : get_or held i p ≡ p) (at_o : get_or owners i o ≡ o)
      (blocks : List BlockOwner) (before : HaveSeats held owners i (image_words c) blocks) where
    pub large_seated : is_small p ≡ false → HaveSeats held owners (i + 1) (image_words c) blocks
    large_seated large = subst (λ n. HaveSeats held owners n (image_words c) blocks) (sym (add-one i)) (record {
      long = before.long;
      each = λ j b. subst (λ n. IsHeldOnly n (place_for j (get_or blocks b no_block)))
          (sym (large_more words held owners ready long i p o below at at_o large j b)) (before.each j b);
    })

    pub small_seated : is_small p ≡ true → HaveSeats held owners (i + 1) (image_words c)
        (set blocks p.first_word (record { seat = o; place = place.Held }))
    small_seated small = subst (λ n. HaveSeats held owners n (image_words c)
        (set blocks p.first_word (record { seat = o; place = place.Held }))) (sym (add-one i)) (record {
          long = length-set blocks p.first_word (record { seat = o; place = place.Held }) ∙ before.long;
          each = λ j b. elim (cases_eq j o) as (λ _. IsHeldOnly (held_so_far held owners (suc i) j b)
              (place_for j (get_or (set blocks p.first_word (record { seat = o; place = place.Held })) b no_block))) [
                | inl mine ↦ subst (λ n. IsHeldOnly (held_so_far held owners (suc i) n b)
                    (place_for n (get_or (set blocks p.first_word (record { seat = o; place = place.Held })) b no_block))) (sym mine)
                    (places_mine blocks o p.first_word place.Held (λ e x. IsHeldOnly (held_so_far held owners (suc i) o e) x) less
                    (record { held = mine_here words held owners ready long i p o below at at_o small; cached = refl; batched = refl })
                    (λ e apart. subst (λ n. IsHeldOnly n (place_for o (get_or blocks e no_block)))
                    (sym (mine_elsewhere words held owners ready long i p o below at at_o small e apart)) (before.each o e)) b)
                | inr other ↦ places_theirs blocks o j p.first_word place.Held (λ e x. IsHeldOnly (held_so_far held owners (suc i) j e) x) less other
                    (held_nowhere (held_so_far held owners i j p.first_word) (place_for j (get_or blocks p.first_word no_block))
                    (before.each j p.first_word) (none_yet words held owners ready long i p o below at at_o small j))
                    (λ e. subst (λ n. IsHeldOnly n (place_for j (get_or blocks e no_block)))
                    (sym (more_theirs words held owners ready long i p o below at at_o j e other)) (before.each j e)) b
              ];
        }) where
          less : p.first_word < length blocks
          less = let w = within words held owners ready long p (block_there held i p below at) small in let l = before.long in omega arith

  -- all have their seats
  pub all_seated : (i : ℕ) (blocks : List BlockOwner) → HaveSeats held owners i (image_words c) blocks → length held ≤ i
      → AreBlockOwners words held owners blocks
  all_seated i blocks seated past = record {
    long = seated.long;
    each = λ j b. let s = seated.each j b in record {
      held = all_held words held owners ready long i past j b ∙ s.held;
      cached = none_cached lists b ∙ s.cached;
      batched = s.batched;
    };
  }
