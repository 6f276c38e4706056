-- What a crash, a close or a mixture leaves of a heap for one thread.
use Rattle.std.proofs.Common.{◌≡◌, ℕ, inl, inr, List, Contains, sym, subst}
use Rattle.std.specs.Prelude.{true, false, slice_index}
use Rattle.heap_model.specs.Durability.{Mixes, IsTransient, IsCrashImage, IsClosedImage, NamesAreDurable}
use Rattle.heap_model.specs.Header.{capacity_of}
use Rattle.heap_model.specs.Image.{Image}
use Rattle.line_memory.specs.Crash.{IsValueOf}
use Rattle.heap_seat.specs.Words.{HasPicked}
use Rattle.block_heap.specs.Laws.{named_law, durable_capacity, own_law}
use Rattle.block_heap.specs.Parts.{held_in}
use Rattle.block_heap.specs.SeqState.{SeqState, seat_of, MayLeave}

module _ (s : SeqState) where
  pub mixture_left : (image : Image) → Mixes (slice_index s.parts.words.volatile) (slice_index s.parts.words.durable) image → MayLeave s image
  mixture_left image mixes = record {
    others = λ word not_state kept.
        elim (mixes.each word) as (λ _. IsValueOf s.parts.words word (image word)) [ inl seen ↦ inr seen | inr left ↦ inl left ];
  }

  kept_by : (word : ℕ) → (IsTransient s.parts.capacity word → ⊥) → IsTransient (capacity_of (slice_index s.parts.words.durable)) word → ⊥
  kept_by word kept lost = kept (subst (λ n. IsTransient n word) (durable_capacity s) lost)

  pub crash_left : (image : Image) → IsCrashImage (slice_index s.parts.words.durable) image → MayLeave s image
  crash_left image crash = record { others = λ word not_state kept. inl (crash.others word not_state (kept_by word kept)) }

  pub closed_left : (image : Image) → IsClosedImage (slice_index s.parts.words.volatile) image → MayLeave s image
  closed_left image closed = record { others = λ word not_state kept. inr (closed.others word not_state) }

  -- own words are not lost
  pub crash_own : (image : Image) → IsCrashImage (slice_index s.parts.words.durable) image → HasPicked (seat_of s) (λ _. false) image
  crash_own image crash = record {
    each = λ word value own known. let lasts = own_law s word own in let kept = crash.others word lasts.0 (kept_by word lasts.1) in cc;
  }

  pub closed_own : (image : Image) → IsClosedImage (slice_index s.parts.words.volatile) image → HasPicked (seat_of s) (λ _. true) image
  closed_own image closed = record { each = λ word value own known. let seen = closed.others word (own_law s word own).0 in cc }

  pub names_last : NamesAreDurable (slice_index s.parts.words.volatile) (slice_index s.parts.words.durable) (Contains (held_in s.parts))
  names_last = record { each = λ image mixes b holds. named_law s image (mixture_left image mixes) b holds }

  -- what a closed heap leaves is what it was
  module _ (volatile durable : List ℕ) (seen : volatile ≡ s.parts.words.volatile) (left : durable ≡ s.parts.words.durable) where
    pub finished_names : NamesAreDurable (slice_index volatile) (slice_index durable) (Contains (held_in s.parts))
    finished_names = subst (λ (xs : List ℕ). NamesAreDurable (slice_index xs) (slice_index durable) (Contains (held_in s.parts))) (sym seen)
        (subst (λ (xs : List ℕ). NamesAreDurable (slice_index s.parts.words.volatile) (slice_index xs) (Contains (held_in s.parts)))
        (sym left) names_last)

    pub finished_crash : (image : Image) → IsCrashImage (slice_index durable) image → MayLeave s image
    finished_crash image crash = crash_left image (subst (λ (xs : List ℕ). IsCrashImage (slice_index xs) image) left crash)

    pub finished_closed : (image : Image) → IsClosedImage (slice_index volatile) image → MayLeave s image
    finished_closed image closed = closed_left image (subst (λ (xs : List ℕ). IsClosedImage (slice_index xs) image) seen closed)
