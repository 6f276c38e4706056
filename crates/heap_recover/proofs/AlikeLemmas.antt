-- An image between one and what recovery makes of it is recovered to the same: each word has the one value or the
-- other, but the state and those that a crash leaves with any value.
use Rattle.std.proofs.Common.{◌≡◌, ◌≢◌, ℕ, zero, suc, ◌+◌, ◌*◌, ◌<◌, ◌≤◌, ◌⊎◌, inl, inr, List, ◌∷◌, length, slice_index, Contains, Option, None, Some, refl, sym, ap, subst, ◌∙◌, arith}
use Rattle.heap_model.specs.declared.block.Block.{Block}
use Rattle.heap_model.specs.Geometry.{magic_word, version_word, capacity_word, used_word, state_word, clean, dirty, info_word, root_word, start_word, kind_word, roots}
use Rattle.heap_model.specs.Header.{IsWellFormed, HasKindsBelow, capacity_of, used_of, kinds_of}
use Rattle.heap_model.specs.Image.{Image, words_from}
use Rattle.heap_model.specs.Blocks.{IsBlock, IsIn, layout_of}
use Rattle.heap_model.specs.Pointers.{Leads, LeadsOutside}
use Rattle.heap_model.specs.Reach.{Links, AreInside, AnyRoot, Reach, ReachIn, IsReached, IsReachedIn, IsOutsideIn, IsTraced, is_root, is_linked, TracesAlike, words_in, by_start, by_link}
use Rattle.heap_model.specs.Recovered.{HasPartIn, IsFreeSuperblock, AreAscending}
use Rattle.heap_model.specs.Recovery.{IsRecovered, in_header}
use Rattle.heap_model.specs.Durability.{Mixes, IsCrashImage, IsTransient, is_head, is_anchor, is_link}
use Rattle.heap_model.proofs.BlockLemmas.{block_inside}
use Rattle.heap_model.proofs.ImageLemmas.{length-words_from}
use Rattle.heap_model.proofs.ReachLemmas.{reached_block, reach_kept, nothing_more, reach_by_kinds, traced_by_kinds}
use Rattle.heap_at_rest.proofs.RecoveryLeftLemmas.{IsLeft}
use Rattle.heap_at_rest.proofs.LayoutLemmas.{same_there}
use Rattle.heap_at_rest.proofs.RecoveredLemmas.{info_left, heap_left}
use Rattle.heap_recover.proofs.UnchangedLemmas.{words_unchanged, roots_unchanged, kinds_unchanged}
use Rattle.line_memory.specs.View.{View}
use Rattle.heap_recover.specs.InPlace.{IsRecoveryOf, RecoversAlike, IsBetween, IsPartlyRecovered}

-- no word of the header, no root, no info and no word of a superblock is transient
stays : (capacity word : ℕ) → (word < 16) ⊎ (((root_word 0 ≤ word) × (word < info_word 0)) ⊎
    (((d : ℕ) × (word ≡ info_word d)) ⊎ (start_word capacity 0 ≤ word)))
    → IsTransient capacity word → ⊥
stays capacity _ (inl few) (is_head list word below e) = omega arith
stays capacity _ (inl few) (is_anchor d word below e) = omega arith
stays capacity _ (inl few) (is_link d word below e) = omega arith
stays capacity _ (inr (inl root)) (is_head list word below e) = omega (arith, root.0)
stays capacity _ (inr (inl root)) (is_anchor d word below e) = omega (arith, root.1)
stays capacity _ (inr (inl root)) (is_link d word below e) = omega (arith, root.1)
stays capacity _ (inr (inr (inl info))) (is_head list word below e) = let at = info.1 in omega arith
stays capacity _ (inr (inr (inl info))) (is_anchor d word below e) = let at = info.1 in omega arith
stays capacity _ (inr (inr (inl info))) (is_link d word below e) = let at = info.1 in omega arith
stays capacity _ (inr (inr (inr inside))) (is_head list word below e) = omega arith
stays capacity _ (inr (inr (inr inside))) (is_anchor d word below e) = omega arith
stays capacity _ (inr (inr (inr inside))) (is_link d word below e) = omega arith

module _ (old new : Image) (links : Links) (bytes limit : ℕ) (kind_limit : Option ℕ) (held : List Block)
    (formed : IsWellFormed bytes old) (kinds_below : HasKindsBelow kind_limit old) (none : (at : ℕ) → IsOutsideIn old links at → ⊥)
    (within : AreInside limit links)
    (held_are : AreAscending (λ (b : Block). b.first_word) (IsReachedIn old links) held)
    (recovered : IsRecovered old new (IsReachedIn old links)) (image : Image) (partly : IsPartlyRecovered old new image) where
  abbrev kinds : ℕ → ℕ
  kinds = kinds_of old

  -- a word that recovery keeps, and that a crash keeps
  same_as_old : (word : ℕ) → word ≢ state_word → (IsTransient (capacity_of old) word → ⊥) → new word ≡ old word → image word ≡ old word
  same_as_old word other lasts kept = elim (partly.others word other lasts) as (λ _. image word ≡ old word) [ inl e ↦ e | inr e ↦ e ∙ kept ]

  header_same : (word : ℕ) → (word ≡ magic_word) ⊎ ((word ≡ version_word) ⊎ ((word ≡ capacity_word) ⊎ (word ≡ used_word))) → image word ≡ old word
  header_same word which = same_as_old word (other which) (stays (capacity_of old) word (inl (low which)))
      (recovered.same word (in_header word which)) where
        low : (word ≡ magic_word) ⊎ ((word ≡ version_word) ⊎ ((word ≡ capacity_word) ⊎ (word ≡ used_word))) → word < 16
        low (inl e) = omega arith
        low (inr (inl e)) = omega arith
        low (inr (inr (inl e))) = omega arith
        low (inr (inr (inr e))) = omega arith

        other : (word ≡ magic_word) ⊎ ((word ≡ version_word) ⊎ ((word ≡ capacity_word) ⊎ (word ≡ used_word))) → word ≢ state_word
        other (inl e) = λ f. omega (arith, f)
        other (inr (inl e)) = λ f. omega (arith, f)
        other (inr (inr (inl e))) = λ f. omega (arith, f)
        other (inr (inr (inr e))) = λ f. omega (arith, f)

  capacity_same : capacity_of image ≡ capacity_of old
  capacity_same = header_same capacity_word (inr (inr (inl refl)))

  used_same : used_of image ≡ used_of old
  used_same = header_same used_word (inr (inr (inr refl)))

  formed_same : IsWellFormed bytes image
  formed_same = record {
    magic_is = header_same magic_word (inl refl) ∙ formed.magic_is;
    version_is = header_same version_word (inr (inl refl)) ∙ formed.version_is;
    some = let same = capacity_same in let some = formed.some in omega arith;
    small = let same = capacity_same in let small = formed.small in omega arith;
    length_is = let same = capacity_same in let long = formed.length_is in omega arith;
    state = partly.state;
    used = let same = capacity_same in let more = used_same in let used = formed.used in omega arith;
  }

  -- roots and words of reached blocks
  roots_same : (root : ℕ) → root < roots → image (root_word root) ≡ old (root_word root)
  roots_same root below =
      same_as_old (root_word root) (λ e. omega (arith, e)) (stays (capacity_of old) (root_word root) (inr (inl (omega arith, omega arith))))
      (roots_unchanged old new kinds links recovered root below)

  words_same : (b : Block) (word : ℕ) → IsReached old kinds links b → IsIn b word → image word ≡ old word
  words_same b word reached inside =
      let lies = block_inside (layout_of old) b (reached_block old kinds links b reached.kind reached.reach) in
      let from = inside.from in
      same_as_old word (λ e. omega (arith, e, lies.0)) (stays (capacity_of old) word (inr (inr (inr (omega (arith, lies.0))))))
      (words_unchanged old new kinds links recovered b word reached inside)

  reached_is_block : (b : Block) → IsReached old kinds links b → IsBlock (layout_of old) b
  reached_is_block b reached = reached_block old kinds links b reached.kind reached.reach

  left : IsLeft old new (IsReached old kinds links) held
  left = record { heap = heap_left old new (IsReached old kinds links) reached_is_block recovered; named = reached_is_block; are_held = held_are }

  -- a reached block is a block of the image
  blocks_same : (b : Block) → IsReached old kinds links b → IsBlock (layout_of image) b
  blocks_same b reached = same_there (layout_of old) (layout_of image) b capacity_same used_same
      (λ d part. same_as_old (info_word d) (λ e. omega (arith, e)) (stays (capacity_of old) (info_word d) (inr (inr (inl (d, refl)))))
      (info_left old new (IsReached old kinds links) held left b d reached part))
      (reached_block old kinds links b reached.kind reached.reach)

  run_same : (from count : ℕ) → ((w : ℕ) → from ≤ w → w < from + count → image w ≡ old w) → words_from image from count ≡ words_from old from count
  run_same from zero same = refl
  run_same from (suc count) same =
      ap (λ w. w ∷ words_from image (from + 1) count) (same from (omega arith) (omega arith))
      ∙ ap (λ ws. old from ∷ ws) (run_same (from + 1) count (λ w low high. same w (omega arith) (omega arith)))

  traced_same : (at : ℕ) → IsTraced old kinds links at → image at ≡ old at
  traced_same _ (is_root root at below chosen is) = subst (λ w. image w ≡ old w) (sym is) (roots_same root below)
  traced_same _ (is_linked a from position kind at reached listed is) =
      let long = length-words_from old a.first_word a.words in
      let inside = within.position from (words_in old a) position kind listed in
      subst (λ w. image w ≡ old w) (sym is) (words_same a (a.first_word + position) (record { kind = from; reach = reached })
      (record { from = omega arith; until = omega arith }))

  alike : TracesAlike old image AnyRoot kinds links
  alike = record {
    same_words = traced_same;
    are_blocks = λ b kind reached. blocks_same b (record { kind = kind; reach = reached });
    same_links = λ b kind reached. ap (λ ws. links kind ws)
        (run_same b.first_word b.words (λ w low high. words_same b w (record { kind = kind; reach = reached }) (record { from = low; until = high })));
  }

  inside : (at : ℕ) → IsTraced old kinds links at → LeadsOutside old (old at) → ⊥
  inside at traced outside = none at (record { traced = traced; outside = outside })

  to_image : (b : Block) (kind : ℕ) → Reach old kinds links b kind → Reach image kinds links b kind
  to_image = reach_kept old image AnyRoot kinds links alike

  from_image : (b : Block) (kind : ℕ) → Reach image kinds links b kind → Reach old kinds links b kind
  from_image = nothing_more old image AnyRoot kinds links alike inside

  -- a word that a trace of the old image looks at leads outside in the other no more than there
  not_outside : (at : ℕ) → IsTraced old kinds links at → ((b : Block) → Leads old (old at) b → IsReached old kinds links b)
      → LeadsOutside image (image at) → ⊥
  not_outside at traced reaches out =
      let same = traced_same at traced in
      inside at traced (record {
        not_null = λ e. out.not_null (same ∙ e);
        nowhere = λ b leads. out.nowhere b (record {
          pointer = record { tagged = same ∙ leads.pointer.tagged; short = leads.pointer.short };
          names = record { begins_at = refl; block = blocks_same b (reaches b leads) };
        });
      })

  none_there : (at : ℕ) → IsTraced image kinds links at → LeadsOutside image (image at) → ⊥
  none_there _ (is_root root at below chosen same) out =
      not_outside at (is_root root at below chosen same) (λ b leads. record {
        kind = kinds root;
        reach = by_start b (kinds root) (record {
          root = root;
          below = below;
          is_chosen = chosen;
          kind_is = refl;
          leads = subst (λ x. Leads old (old x) b) same leads;
        });
      }) out
  none_there _ (is_linked a from position kind at reached listed same) out =
      let before = from_image a from reached in
      let there : Contains (links from (words_in old a)) (position, kind) =
      subst (λ (ls : List (ℕ × ℕ)). Contains ls (position, kind)) (alike.same_links a from before) listed in
      not_outside at (is_linked a from position kind at before there same) (λ b leads. record {
        kind = kind;
        reach = by_link a b from kind before (record { position = position; listed = there; leads = subst (λ x. Leads old (old x) b) same leads });
      }) out

  -- the kinds that the image stores
  kinds_same : (root : ℕ) → root < roots → kinds_of image root ≡ kinds root
  kinds_same root below =
      let kind = kind_word (capacity_of old) root in
      ap (λ c. image (kind_word c root)) capacity_same
      ∙ same_as_old kind (λ e. omega (arith, e)) (stays (capacity_of old) kind (inr (inr (inr (omega arith)))))
      (kinds_unchanged old new (IsReachedIn old links) recovered root below)

  to_stored : (b : Block) (kind : ℕ) → Reach image kinds links b kind → ReachIn image links b kind
  to_stored = reach_by_kinds image kinds (kinds_of image) links (λ root below. sym (kinds_same root below))

  from_stored : (b : Block) (kind : ℕ) → ReachIn image links b kind → Reach image kinds links b kind
  from_stored = reach_by_kinds image (kinds_of image) kinds links kinds_same

  -- a superblock without a part of a reached block
  free_same : (d : ℕ) → IsFreeSuperblock (layout_of old) (IsReached old kinds links) d → IsFreeSuperblock (layout_of image) (IsReachedIn image links) d
  free_same d free = record {
    taken = let same = used_same in let taken = free.taken in omega arith;
    empty = λ b reached part. free.empty b (record {
      kind = reached.kind;
      reach = from_image b reached.kind (from_stored b reached.kind reached.reach);
    })
        (subst (λ c. HasPartIn c b d) capacity_same part);
  }

  free_back : (d : ℕ) → IsFreeSuperblock (layout_of image) (IsReachedIn image links) d → IsFreeSuperblock (layout_of old) (IsReached old kinds links) d
  free_back d free = record {
    taken = let same = used_same in let taken = free.taken in omega arith;
    empty = λ b reached part. free.empty b (record { kind = reached.kind; reach = to_stored b reached.kind (to_image b reached.kind reached.reach) })
        (subst (λ c. HasPartIn c b d) (sym capacity_same) part);
  }

  below_same : (most : Option ℕ) → HasKindsBelow most old → HasKindsBelow most image
  below_same None below = tt
  below_same (Some most) below = λ root less. let same = kinds_same root less in let few = below root less in omega arith

  pub recovers_alike : RecoversAlike kind_limit bytes old image links
  recovers_alike = record {
    formed = formed_same;
    below = below_same kind_limit kinds_below;
    none_outside = λ at out. none_there at (traced_by_kinds image (kinds_of image) kinds links kinds_same at out.traced) out.outside;
    reach = λ b kind. (λ reached. to_stored b kind (to_image b kind reached), λ reached. from_image b kind (from_stored b kind reached));
    words = words_same;
    roots_are = roots_same;
    kinds_are = kinds_same;
    free = λ d. (free_same d, free_back d);
  }

module _ (old new : List ℕ) (links : Links) (recovered : IsRecovered (slice_index old) (slice_index new) (IsReachedIn (slice_index old) links))
    (formed : IsWellFormed (8 * length old) (slice_index old)) (v : View) (between : IsBetween old new v) where
  -- whatever a crash leaves of such words
  pub crash_partly : (image : Image) → IsCrashImage (slice_index v.durable) image → IsPartlyRecovered (slice_index old) (slice_index new) image
  crash_partly image crash = record {
    state = inr crash.state;
    others = λ word other lasts.
        let same = crash.others word other (λ lost. lasts (subst (λ c. IsTransient c word) capacity lost)) in
        elim (between.durable word) as (λ _. (image word ≡ slice_index old word) ⊎ (image word ≡ slice_index new word))
        [ inl e ↦ inl (same ∙ e) | inr e ↦ inr (same ∙ e) ];
  } where
    capacity : capacity_of (slice_index v.durable) ≡ capacity_of (slice_index old)
    capacity = elim (between.durable capacity_word) as (λ _. capacity_of (slice_index v.durable) ≡ capacity_of (slice_index old)) [
      | inl e ↦ e
      | inr e ↦ e ∙ recovered.same capacity_word (in_header capacity_word (inr (inr (inl refl))))
    ]

  -- and each mixture of them
  pub mixed_partly : (image : Image) → Mixes (slice_index v.volatile) (slice_index v.durable) image
      → IsPartlyRecovered (slice_index old) (slice_index new) image
  mixed_partly image mixes = record {
    state = elim (each state_word) as (λ _. (image state_word ≡ clean) ⊎ (image state_word ≡ dirty)) [
      | inl e ↦ elim formed.state as (λ _. (image state_word ≡ clean) ⊎ (image state_word ≡ dirty)) [ inl is ↦ inl (e ∙ is) | inr is ↦ inr (e ∙ is) ]
      | inr e ↦ inr (e ∙ recovered.state)
    ];
    others = λ word other lasts. each word;
  } where
    each : (word : ℕ) → (image word ≡ slice_index old word) ⊎ (image word ≡ slice_index new word)
    each word = elim (mixes.each word) as (λ _. (image word ≡ slice_index old word) ⊎ (image word ≡ slice_index new word)) [
      | inl e ↦ elim (between.volatile word) as (λ _. (image word ≡ slice_index old word) ⊎ (image word ≡ slice_index new word))
          [ inl o ↦ inl (e ∙ o) | inr n ↦ inr (e ∙ n) ]
      | inr e ↦ elim (between.durable word) as (λ _. (image word ≡ slice_index old word) ⊎ (image word ≡ slice_index new word))
          [ inl o ↦ inl (e ∙ o) | inr n ↦ inr (e ∙ n) ]
    ]

-- so recovery of what is left keeps the same
module _ (old new : List ℕ) (links : Links) (held : List Block) (limit : ℕ) (kind_limit : Option ℕ) (within : AreInside limit links)
    (is : IsRecoveryOf kind_limit old links new held) (v : View) (between : IsBetween old new v) where
  alike_by : (image : Image) → IsPartlyRecovered (slice_index old) (slice_index new) image
      → RecoversAlike kind_limit (8 * length old) (slice_index old) image links
  alike_by = recovers_alike (slice_index old) (slice_index new) links
      (8 * length old) limit kind_limit held is.formed is.below is.none_outside within is.held_are is.words_are

  pub crash_alike : (image : Image) → IsCrashImage (slice_index v.durable) image
      → RecoversAlike kind_limit (8 * length old) (slice_index old) image links
  crash_alike image crash = alike_by image (crash_partly old new links is.words_are is.formed v between image crash)

  pub mixed_alike : (image : Image) → Mixes (slice_index v.volatile) (slice_index v.durable) image
      → RecoversAlike kind_limit (8 * length old) (slice_index old) image links
  mixed_alike image mixes = alike_by image (mixed_partly old new links is.words_are is.formed v between image mixes)
