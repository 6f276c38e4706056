-- A request for memory that is refused: what it looked at had no room.
use Rattle.std.proofs.Common.{◌≡◌, ℕ, zero, suc, ◌+◌, ◌-◌, ◌<◌, ◌≤◌, ◌⊎◌, inl, inr, Option, None, Some, Contains, refl, ap, sym, subst, ◌∙◌, arith}
use Rattle.std.proofs.lemmas.Bool.{cases_lt}
use Rattle.heap_model.specs.declared.block.Block.{Block}
use Rattle.heap_model.specs.Geometry.{roots, used_word}
use Rattle.heap_model.specs.Sizes.{IsClass, IsLeastClassFor, class_sizes, size_of, largest_small, span_of, last_class}
use Rattle.heap_model.specs.Words.{head_first}
use Rattle.heap_seat.specs.declared.fault.Looks.{Looks}
use Rattle.heap_seat.specs.declared.look.Look.{Look}
use Rattle.heap_seat.specs.Alloc.{Refuses}
use Rattle.heap_seat.specs.Looks.{IsLastSeen, FoundEmpty, FoundNoRoom}
use Rattle.block_heap.specs.Parts.{Parts, image_of, held_in}
use Rattle.block_heap.specs.Serving.{Answers, Misses, IsLooksOf, RefusesAs}
use Rattle.heap_seat.specs.declared.fault.AllocFault.{AllocFault}
use Rattle.heap_seat.specs.declared.fault.AllocFault.TheVariants.{Full, Stopped as StoppedFault}
use Rattle.block_heap.specs.Steps.{look_at, IsLook}
use Rattle.heap_seat.specs.Tickets.{Runs}
use Rattle.block_heap.specs.Lists.{IsEmptyList, head_at}
use Rattle.block_heap.specs.AllocatorWords.{IsLasting}
use Rattle.block_heap.specs.SeqState.{SeqState, IsSeqHeap, seat_of}
use Rattle.heap_seat.specs.Words.{IsDurable, KeepsOwn}
use Rattle.block_heap.specs.Requests.{KeepsWords}
use Rattle.heap_seat.specs.View.{View}
use Rattle.block_heap.proofs.SeatLemmas.{drew}
use Rattle.size_table.proofs.ClassLemmas.{least_of_size}
use Rattle.heap_model.proofs.SizeLemmas.{few_words, size_of-words}
use Rattle.size_table.specs.declared.size_class.SizeClass.{SizeClass}

-- the least class, from `from` on, whose blocks hold so many bytes
least_from : (bytes from more : ℕ) → 1 ≤ from → from + more ≡ last_class → bytes ≤ size_of last_class
    → ((other : ℕ) → IsClass other → other < from → bytes ≤ size_of other → ⊥)
    → (c : ℕ) × IsLeastClassFor bytes c
least_from bytes from zero some end fits none =
    let last : last_class ≡ from = omega arith in (
      from,
      record {
        is_class = record { some = some; last = omega arith };
        holds = subst (λ c. bytes ≤ size_of c) last fits;
        least = λ other is holds. elim (cases_lt other from) as (λ _. from ≤ other)
            [ inl less ↦ absurd (none other is less holds) | inr not ↦ omega arith ];
      },
    )
least_from bytes from (suc more) some end fits none = elim (cases_lt (size_of from) bytes) as (λ _. (c : ℕ) × IsLeastClassFor bytes c) [
  | inl short ↦ least_from bytes (from + 1) more (omega arith) (omega arith) fits (λ other is less holds. elim (cases_lt other from) as (λ _. ⊥) [
    | inl before ↦ none other is before holds
    | inr not ↦ let same : other ≡ from = omega arith in let here : bytes ≤ size_of from = subst (λ c. bytes ≤ size_of c) same holds in omega arith
  ])
  | inr holds ↦ (
    from,
    record {
      is_class = record { some = some; last = omega arith };
      holds = omega arith;
      least = λ other is fitting. elim (cases_lt other from) as (λ _. from ≤ other)
          [ inl less ↦ absurd (none other is less fitting) | inr not ↦ omega arith ];
    },
  )
]

last_size : (bytes : ℕ) → bytes ≤ largest_small → bytes ≤ size_of last_class
unfolding size_of class_sizes
last_size bytes small = small

least_class : (bytes : ℕ) → bytes ≤ largest_small → (c : ℕ) × IsLeastClassFor bytes c
least_class bytes small = least_from bytes 1 (last_class - 1) (omega arith) (omega arith) (last_size bytes small)
    (λ other is less holds. let some = is.some in omega arith)

-- a class serves a request of as many bytes as its blocks have
pub size_served : (class bytes : ℕ) (a b : SizeClass) → IsClass class → bytes ≡ size_of class → a.number ≡ class → Some a ≡ Some b
    → IsLeastClassFor bytes b.number
size_served class bytes a b is same number one =
    let few = few_words class is in
    let words = size_of-words class is in
    let found = least_class bytes (omega arith) in
    let at : class ≡ found.0 = least_of_size bytes found.0 class found.1 is same in
    let equal : a ≡ b = cc in
    subst (λ n. IsLeastClassFor bytes n) (sym at ∙ sym number ∙ ap (λ (x : SizeClass). x.number) equal) found.1

module _ (bytes : ℕ) (looks : Looks) (s t : SeqState) (misses : Misses bytes s.parts t.parts) (are : IsLooksOf bytes looks t.parts) where
  -- what contracts see after the refusal is counted
  abbrev refused_view : View
  refused_view = record (seat_of t) { refusals = t.refusals + 1; refused_bytes = bytes; refused_looks = looks }

  seen : (look : Look) (value now : ℕ) → IsLook s.parts.words.drawn t.parts look value → now ≡ look.seen → IsLastSeen (seat_of s) refused_view look now
  seen look value now is same = record {
    is = sym same;
    ticket = is.ticket;
    by = is.by;
    drawn = record { from = is.since; until = is.until };
    taken = is.taken_is;
  }

  found_empty : (list now : ℕ) → IsLook s.parts.words.drawn t.parts (look_at t.parts list) (head_at t.parts list) → IsEmptyList t.parts list
      → now ≡ (look_at t.parts list).seen → FoundEmpty (seat_of s) refused_view list now
  found_empty list now is empty same = record {
    last = seen (look_at t.parts list) (head_at t.parts list) now is same;
    empty = ap head_first (same ∙ is.seen_is) ∙ empty;
  }

  -- why it found no room
  found : FoundNoRoom bytes looks (seat_of s) refused_view
  found = record {
    used = used.0;
    past = used.1;
    class = λ c least. let looked = misses.in_class c least in found_empty c looks.class_head looked.class_look looked.class_empty (are.class c least);
    free = λ small.
        let looked = misses.in_class (least_class bytes small).0 (least_class bytes small).1 in
        found_empty 0 looks.free_head looked.free_look looked.free_empty (are.free small);
    large = are.large;
  } where
    used : IsLastSeen (seat_of s) refused_view t.parts.used_look looks.used × (t.parts.capacity < looks.used + span_of bytes)
    used = elim (cases_lt largest_small bytes) as (λ _. IsLastSeen (seat_of s) refused_view t.parts.used_look looks.used
        × (t.parts.capacity < looks.used + span_of bytes)) [
          | inl large ↦
              let looked = misses.at_used large in
              let e : looks.used ≡ image_of t.parts used_word = are.used ∙ looked.used_look.seen_is in
              let past = looked.past in (
                seen t.parts.used_look (image_of t.parts used_word) looks.used looked.used_look are.used,
                subst (λ n. t.parts.capacity < n + span_of bytes) (sym e) past,
              )
          | inr not ↦
              let least = least_class bytes (omega arith) in
              let looked = misses.in_class least.0 least.1 in
              let e : looks.used ≡ image_of t.parts used_word = are.used ∙ looked.used_look.seen_is in
              let past = looked.past in
              (seen t.parts.used_look (image_of t.parts used_word) looks.used looked.used_look are.used, omega arith)
        ]

  -- a request that found no room is refused
  pub refuses : Runs (seat_of s) (seat_of t) → KeepsWords (seat_of s) (seat_of t) → Refuses bytes looks (seat_of s) refused_view
  refuses runs keeps = record {
    runs = record { ran = runs.ran; running = runs.running; drew = runs.drew; below = runs.below };
    found = found;
    taken = misses.taken;
    count = ap (λ n. n + 1) keeps.refusals.count;
    bytes_are = refl;
    looks_are = refl;
    pending = λ word own was. elim (keeps.pending word own was) as (λ _. Contains t.parts.words.pending word ⊎ IsDurable refused_view word) [
      | inl still ↦ inl still
      | inr durable ↦ inr (record { value = durable.value; seen = durable.seen; left = durable.left })
    ];
  }

abbrev looks_in : AllocFault → Looks
looks_in (Full looks) = looks
looks_in (StoppedFault stopped) = record { class_head = 0; free_head = 0; used = 0 }

-- its looks are the words as they are
pub refused_as : (bytes : ℕ) (looks : Looks) (p q : Parts) → Misses bytes p q → IsLooksOf bytes looks q → RefusesAs bytes looks p q
refused_as bytes looks p q misses are = record {
  none = misses.none;
  used = elim (cases_lt largest_small bytes) as (λ _. looks.used ≡ image_of q used_word) [
    | inl large ↦ are.used ∙ (misses.at_used large).used_look.seen_is
    | inr not ↦ let least = least_class bytes (omega arith) in are.used ∙ (misses.in_class least.0 least.1).used_look.seen_is
  ];
  class = λ c least. are.class c least ∙ (misses.in_class c least).class_look.seen_is;
  free = λ small. let least = least_class bytes small in are.free small ∙ (misses.in_class least.0 least.1).free_look.seen_is;
  three_looks = misses.three_looks;
  one_look = misses.one_look;
}

pub refused_by_as : (bytes : ℕ) (looks given : Looks) (answer : Option Block) (p q r : Parts) → r ≡ q → answer ≡ None → Answers bytes answer p q
    → IsLooksOf bytes looks r
    → Full looks ≡ Full given → RefusesAs bytes given p r
refused_by_as bytes looks given answer p q r same none answers are one =
    let e : looks ≡ given = ap looks_in one in
    subst (λ l. RefusesAs bytes l p r) e
    (refused_as bytes looks p r (subst (λ m. Misses bytes p m) (sym same) (subst (λ a. Answers bytes a p q) none answers)) are)

-- the refusal is counted
pub refused_heap : (s : SeqState) (bytes : ℕ) (looks : Looks) (l : ∥ IsLasting s.parts.capacity s.parts.words (held_in s.parts) s.stopped ∥₁)
    → IsSeqHeap s
    → s.refusals < s.large_calls
    → IsSeqHeap (record {
      parts = s.parts;
      stopped = s.stopped;
      small_calls = s.small_calls;
      large_calls = s.large_calls;
      refusals = s.refusals + 1;
      refused_bytes = bytes;
      refused_looks = looks;
      lasts = l;
    })
refused_heap s bytes looks l heap room = record { lasts = heap.lasts; running = heap.running; calls = heap.calls; refused = omega arith }

-- a request that found no room, as its caller sees it
pub refused_by : (bytes : ℕ) (looks : Looks) (answer : Option Block) (s seen t : SeqState) → t ≡ seen → answer ≡ None
    → Answers bytes answer s.parts seen.parts
    → Runs (seat_of s) (seat_of seen) → KeepsWords (seat_of s) (seat_of seen)
    → IsLooksOf bytes looks t.parts
    → Refuses bytes looks (seat_of s) (record (seat_of t) { refusals = t.refusals + 1; refused_bytes = bytes; refused_looks = looks })
refused_by bytes looks answer s seen t same none answers runs keeps are =
    refuses bytes looks s t (subst (λ m. Misses bytes s.parts m.parts) (sym same) (subst (λ a. Answers bytes a s.parts seen.parts) none answers)) are
    (subst (λ m. Runs (seat_of s) (seat_of m)) (sym same) runs) (subst (λ m. KeepsWords (seat_of s) (seat_of m)) (sym same) keeps)

-- and no own word is stored to
pub refused_keeps : (bytes : ℕ) (looks : Looks) (answer : Option Block) (s seen t : SeqState) → t ≡ seen → answer ≡ None
    → Answers bytes answer s.parts seen.parts → KeepsWords (seat_of s) (seat_of seen)
    → KeepsOwn (seat_of s) (record (seat_of t) { refusals = t.refusals + 1; refused_bytes = bytes; refused_looks = looks })
refused_keeps bytes looks answer s seen t same none answers keeps =
    let misses : Misses bytes s.parts t.parts =
    subst (λ m. Misses bytes s.parts m.parts) (sym same) (subst (λ a. Answers bytes a s.parts seen.parts) none answers) in
    let kept : KeepsWords (seat_of s) (seat_of t) = subst (λ m. KeepsWords (seat_of s) (seat_of m)) (sym same) keeps in
    record {
      held = misses.held;
      roots = kept.roots;
      words = λ word own. let stays = kept.words word own in record { volatile = stays.volatile; durable = stays.durable };
    }
