-- An image that was recovered, with its words beside it, can be rebuilt, and what that gives is said of its bytes.
use Rattle.std.proofs.Common.{◌≡◌, ℕ, ◌*◌, List, length, Option, Some, None, IsSomeAnd, slice_index, inl, inr, refl, sym, ap, subst, ◌∙◌, arith}
use Rattle.heap_model.specs.declared.block.Block.{Block}
use Rattle.heap_model.specs.Geometry.{image_words, kind_word, capacity_word}
use Rattle.heap_model.specs.Header.{IsWellFormed, HasKindsBelow, capacity_of}
use Rattle.heap_model.specs.Image.{Image}
use Rattle.heap_model.specs.Recovered.{AreAscending}
use Rattle.heap_model.specs.Recovery.{IsRecovered as HasWords, in_header}
use Rattle.heap_recover.specs.InPlace.{IsRecoveryOf}
use Rattle.heap_recover.proofs.UnchangedLemmas.{kinds_unchanged}
use Rattle.heap_recover.specs.declared.answer.Recovered.{Recovered}
use Rattle.dict_model.specs.Links.{dict_links, kind_count}
use Rattle.tool_ports.specs.Contents.{Contents}
use Rattle.image_run.specs.Rebuilding.{RebuildAsks}
use Rattle.tool_run.specs.Asking.{NamedRebuildAsks}
use Rattle.tool_run.specs.Making.{image_in, IsKept, PointsOutside, Rebuilds, RebuildsNamed}
use Rattle.tool_run.specs.Recovering.{IsRecoveredFrom}

module _ (contents : Contents) (name words : List ℕ) (recovered : Recovered) (is : IsRecoveredFrom contents name words recovered) where
  same : image_in is.image.bytes ≡ slice_index words
  same = ap (λ (ws : List ℕ). slice_index ws) (sym is.words_are)

  count : length words ≡ image_words (capacity_of (image_in is.image.bytes))
  count =
      let whole = is.image.formed.length_is in
      let same_length = ap (λ (ws : List ℕ). length ws) is.words_are in omega arith

  formed : IsWellFormed (8 * length words) (slice_index words)
  formed = subst (λ (ws : List ℕ). IsWellFormed (8 * length ws) (slice_index ws)) (sym is.words_are) is.image.formed

  words_are : HasWords (slice_index words) (slice_index recovered.heap.words) (IsKept (slice_index words))
  words_are = subst (λ (image : Image). HasWords image (slice_index recovered.heap.words) (IsKept image)) same is.image.is.recovers.words_are

  -- recovery leaves the kinds, and finds them below the limit
  kinds : HasKindsBelow (Some kind_count) (slice_index words)
  kinds root below =
      let new = slice_index recovered.heap.words in
      let stays = kinds_unchanged (slice_index words) new (IsKept (slice_index words)) words_are root below in
      let place = ap (λ n. new (kind_word n root)) (words_are.same capacity_word (in_header capacity_word (inr (inr (inl refl))))) in
      let few = is.image.is.kinds root below in
      omega arith

  pub recovery_of_words : IsRecoveryOf (Some kind_count) words dict_links recovered.heap.words recovered.heap.held
  recovery_of_words = record {
    formed = formed;
    below = kinds;
    none_outside = subst (λ (image : Image). (at : ℕ) → PointsOutside image at → ⊥) same is.image.inside;
    held_are = subst (λ (image : Image). AreAscending (λ (b : Block). b.first_word) (IsKept image) recovered.heap.held)
        same is.image.is.recovers.held_are;
    long = is.image.long ∙ sym (ap (λ (ws : List ℕ). length ws) is.words_are);
    words_are = words_are;
  }

  pub rebuilds_named : (budget : ℕ) (put : Option (List ℕ)) (text : List ℕ)
      → IsSomeAnd put (λ image. Rebuilds (slice_index words) (length words) budget image text)
      → RebuildsNamed contents name budget put text
  rebuilds_named budget None text rebuilds = absurd rebuilds
  rebuilds_named budget (Some image) text rebuilds = record {
    bytes = is.image.bytes;
    is_there = is.image.is_there;
    good = is.image.good;
    inside = is.image.inside;
    image = image;
    put_is = refl;
    rebuilds = subst (λ n. Rebuilds (image_in is.image.bytes) n budget image text) count
        (subst (λ (i : Image). Rebuilds i (length words) budget image text) (sym same) rebuilds);
  }

  pub rebuild_asks : {C One : Type 0} (seed_gives : C → ℕ → C → Type 0) (chance_gives : C → ℕ → One → C → Type 0) (draw_gives : One → ℕ → One
      → Type 0) (word_gives : C → ℕ → C → Type 0)
      (budget seed : ℕ) (old new : C) (put : Option (List ℕ)) (text : List ℕ)
      → IsSomeAnd put (λ image. RebuildAsks seed_gives chance_gives draw_gives word_gives (slice_index words) budget seed image text old new)
      → NamedRebuildAsks seed_gives chance_gives draw_gives word_gives contents name budget seed old new put text
  rebuild_asks seed_gives chance_gives draw_gives word_gives budget seed old new None text asks = absurd asks
  rebuild_asks seed_gives chance_gives draw_gives word_gives budget seed old new (Some image) text asks = record {
    bytes = is.image.bytes;
    is_there = is.image.is_there;
    image = image;
    put_is = refl;
    asks = subst (λ (i : Image). RebuildAsks seed_gives chance_gives draw_gives word_gives i budget seed image text old new) (sym same) asks;
  }
