-- What a drain leaves of a heap: the blocks held before, their words, and what it may stop at.
use Rattle.std.proofs.Common.{◌≡◌, ℕ, ◌*◌, ◌<◌, ◌≤◌, ◌⊎◌, inl, inr, Option, None, Some, List, [], ◌∷◌, ◌++◌, Contains, refl, ap, sym, subst, ◌∙◌, arith}
use Rattle.std.proofs.lemmas.List.Elements.{Contains-append_left, Contains-append_right, Contains-append_cases}
use Rattle.heap_model.specs.declared.block.Block.{Block}
use Rattle.heap_model.specs.Sizes.{IsClass, size_of}
use Rattle.heap_model.proofs.MemberLemmas.{in_none, in_head, head_or_rest}
use Rattle.line_memory.specs.declared.memory.Stopped.{Stopped}
use Rattle.block_heap.specs.declared.seq_heap.DrainFault.TheVariants.{Stopped as StoppedFault}
use Rattle.block_heap.specs.Parts.{held_in}
use Rattle.block_heap.specs.Requests.{KeepsWords, KeepsHeld, IsNewAt, HoldsDrained, StopsDrain}
use Rattle.block_heap.specs.SeqState.{SeqState, all_roots, seat_of}
use Rattle.block_heap.specs.Serving.{GetsBlock, Answers, Misses}
use Rattle.heap_seat.specs.Tickets.{Runs, Stops}
use Rattle.heap_seat.specs.Words.{IsOwn, in_block, in_root}
use Rattle.heap_seat.proofs.CallerLemmas.{keeps_word_then, pending_then}
use Rattle.block_heap.proofs.DrawnLemmas.{step_of, class_of}

-- more blocks have more own words
own_more : (held more : List Block) (roots : List ℕ) (word : ℕ) → ((b : Block) → Contains held b → Contains more b) → IsOwn held roots word
    → IsOwn more roots word
own_more held more roots _ keeps (in_block b word holds inside) = in_block b word (keeps b holds) inside
own_more held more roots _ keeps (in_root i word has at) = in_root i word has at

-- rows of requests go together
pub held_then : (s t u : SeqState) → KeepsHeld s t → KeepsHeld t u → KeepsHeld s u
held_then s t u a b = record {
  held = λ c holds. b.held c (a.held c holds);
  words = record {
    roots = b.words.roots ∙ a.words.roots;
    words = λ word own. keeps_word_then (seat_of s) (seat_of t) (seat_of u) word (a.words.words word own) (b.words.words word (more word own));
    pending = λ word own.
        pending_then (seat_of s) (seat_of t) (seat_of u) word (a.words.pending word own) (b.words.words word (more word own))
        (b.words.pending word (more word own));
    refusals = record {
      count = b.words.refusals.count ∙ a.words.refusals.count;
      bytes = b.words.refusals.bytes ∙ a.words.refusals.bytes;
      looks = b.words.refusals.looks ∙ a.words.refusals.looks;
    };
  };
} where
  more : (word : ℕ) → IsOwn (held_in s.parts) all_roots word → IsOwn (held_in t.parts) all_roots word
  more word own = own_more (held_in s.parts) (held_in t.parts) all_roots word a.held own

pub held_same : (s : SeqState) → KeepsHeld s s
held_same s = record {
  held = λ b holds. holds;
  words = record {
    roots = refl;
    words = λ word own. record { volatile = λ value at. at; durable = λ value may. inr may };
    pending = λ word own p. inl p;
    refusals = record { count = refl; bytes = refl; looks = refl };
  };
}

-- what the loop of a drain keeps of the heap
pub record HasKept (class : ℕ) (s t : SeqState) (offsets : List ℕ) : Type 0 where
  pub keeps : KeepsHeld s t
  pub each : (offset : ℕ) → Contains offsets offset → IsNewAt class offset s t
  pub only : (b : Block) → Contains (held_in t.parts) b → Contains (held_in s.parts) b ⊎ Contains offsets (8 * b.first_word)
  pub tickets : s.parts.words.drawn ≤ t.parts.words.drawn
  pub runs : s.stopped ≡ None → t.stopped ≡ None
  pub idle : (at : ℕ) → s.stopped ≡ Some at → t ≡ s

pub kept_first : (class : ℕ) (s : SeqState) (offsets : List ℕ) → offsets ≡ [] → HasKept class s s offsets
kept_first class s offsets empty = subst (λ xs. HasKept class s s xs) (sym empty) (record {
  keeps = held_same s;
  each = λ offset p. absurd (in_none offset p);
  only = λ b holds. inl holds;
  tickets = omega arith;
  runs = λ running. running;
  idle = λ at stopped. refl;
})

-- a heap that ran had not stopped before
had_run : (s t : SeqState) (before : Option ℕ) → before ≡ s.stopped → ((at : ℕ) → s.stopped ≡ Some at → t ≡ s) → t.stopped ≡ None → s.stopped ≡ None
had_run s t None same idle ran = sym same
had_run s t (Some at) same idle ran = sym (ap (λ (m : SeqState). m.stopped) (idle at (sym same))) ∙ ran

module _ (class : ℕ) (s t u : SeqState) (offsets : List ℕ) (has : HasKept class s t offsets) (words : KeepsWords (seat_of t) (seat_of u)) where
  -- the next request may give no block
  pub kept_last : held_in u.parts ≡ held_in t.parts → KeepsHeld s u
  kept_last same = held_then s t u has.keeps (record { held = λ b holds. subst (λ blocks. Contains blocks b) (sym same) holds; words = words })

  -- all were given
  pub kept_all : (bytes : ℕ) → Misses bytes t.parts u.parts → Runs (seat_of t) (seat_of u) → HoldsDrained class offsets s u
  kept_all bytes misses runs = record {
    ran = had_run s t s.stopped refl has.idle runs.ran;
    running = runs.running;
    each = λ offset p.
        let found = has.each offset p in
        record {
          block = found.block;
          at = found.at;
          size = found.size;
          holds = subst (λ blocks. Contains blocks found.block) (sym misses.held) found.holds;
          new = found.new;
        };
    only = λ b holds. has.only b (subst (λ blocks. Contains blocks b) misses.held holds);
  }

  -- or it gives one
  module _ (bytes : ℕ) (b : Block) (gets : GetsBlock bytes b t.parts u.parts) where
    pub kept_one : KeepsHeld s u
    kept_one = held_then s t u has.keeps (record { held = gets.adds.keeps; words = words })

    module _ (is : IsClass class) (at : bytes ≡ size_of class) (runs : Runs (seat_of t) (seat_of u)) where
      abbrev more : List ℕ
      more = offsets ++ 8 * b.first_word ∷ []

      all_new : (x : ℕ) → Contains more x → IsNewAt class x s u
      all_new x p = elim (Contains-append_cases offsets (8 * b.first_word ∷ []) x p) as (λ _. IsNewAt class x s u) [
        | inl old ↦ let found = has.each x old in
            record { block = found.block; at = found.at; size = found.size; holds = gets.adds.keeps found.block found.holds; new = found.new }
        | inr last ↦ elim (head_or_rest (8 * b.first_word) x [] last) as (λ _. IsNewAt class x s u) [
          | inl same ↦ record {
            block = b;
            at = sym same;
            size = let size = class_of class bytes (8 * b.words) is at gets.size in omega arith;
            holds = gets.adds.has;
            new = λ holds. gets.new (has.keeps.held b holds);
          }
          | inr none ↦ absurd (in_none x none)
        ]
      ]

      all_only : (a : Block) → Contains (held_in u.parts) a → Contains (held_in s.parts) a ⊎ Contains more (8 * a.first_word)
      all_only a holds = elim (gets.adds.only a holds) as (λ _. Contains (held_in s.parts) a ⊎ Contains more (8 * a.first_word)) [
        | inl same ↦ inr (subst (λ (z : Block). Contains more (8 * z.first_word)) (sym same)
            (Contains-append_right offsets (8 * b.first_word ∷ []) (8 * b.first_word) (in_head (8 * b.first_word) [])))
        | inr before ↦ elim (has.only a before) as (λ _. Contains (held_in s.parts) a ⊎ Contains more (8 * a.first_word)) [
          | inl old ↦ inl old
          | inr given ↦ inr (Contains-append_left offsets (8 * b.first_word ∷ []) (8 * a.first_word) given)
        ]
      ]

      kept_more : HasKept class s u more
      kept_more = record {
        keeps = kept_one;
        each = all_new;
        only = all_only;
        tickets = let before = has.tickets in let drew : t.parts.words.drawn < u.parts.words.drawn = runs.drew in omega arith;
        runs = λ ran. runs.running;
        idle = λ at stopped.
            let ran : s.stopped ≡ None = had_run s t s.stopped refl has.idle runs.ran in
            absurd (cc);
      }

-- the same in terms of answers
pub kept_pushed : (class bytes : ℕ) (s t u : SeqState) (offsets now : List ℕ) (answer : Option Block) (b : Block)
    → now ≡ offsets ++ 8 * b.first_word ∷ []
    → HasKept class s t offsets → answer ≡ Some b → Answers bytes answer t.parts u.parts → KeepsWords (seat_of t) (seat_of u)
    → IsClass class → bytes ≡ size_of class → Runs (seat_of t) (seat_of u) → HasKept class s u now
kept_pushed class bytes s t u offsets now answer b pushed has is answers words is_class at runs =
    let gets : GetsBlock bytes b t.parts u.parts = subst (λ (o : Option Block). Answers bytes o t.parts u.parts) is answers in
    subst (λ xs. HasKept class s u xs) (sym pushed) (kept_more class s t u offsets has words bytes b gets is_class at runs)

pub kept_unpushed : (class bytes : ℕ) (s t u : SeqState) (offsets : List ℕ) (answer : Option Block) (b : Block)
    → HasKept class s t offsets → answer ≡ Some b → Answers bytes answer t.parts u.parts → KeepsWords (seat_of t) (seat_of u) → KeepsHeld s u
kept_unpushed class bytes s t u offsets answer b has is answers words =
    kept_one class s t u offsets has words bytes b (subst (λ (o : Option Block). Answers bytes o t.parts u.parts) is answers)

pub kept_done : (class bytes : ℕ) (s t u : SeqState) (offsets : List ℕ) (answer : Option Block)
    → HasKept class s t offsets → answer ≡ None → Answers bytes answer t.parts u.parts → KeepsWords (seat_of t) (seat_of u)
    → Runs (seat_of t) (seat_of u)
    → KeepsHeld s u × HoldsDrained class offsets s u
kept_done class bytes s t u offsets answer has is answers words runs =
    let misses : Misses bytes t.parts u.parts = subst (λ (o : Option Block). Answers bytes o t.parts u.parts) is answers in
    (kept_last class s t u offsets has words misses.held, kept_all class s t u offsets has words bytes misses runs)

-- a request stopped
pub kept_stops : (class : ℕ) (stopped e : Stopped) (s t u : SeqState) (offsets : List ℕ) → HasKept class s t offsets
    → Stops stopped.step (seat_of t) (seat_of u) → ((at : ℕ) → t.stopped ≡ Some at → u ≡ t)
    → StoppedFault stopped ≡ StoppedFault e → StopsDrain e.step s u
kept_stops class stopped e s t u offsets has stops idle one = subst (λ n. StopsDrain n s u) (ap step_of one) (record {
  stops = record {
    stopped = stops.stopped;
    above = stops.above;
    last = stops.last;
    now = λ ran.
        let drawn = stops.now (has.runs ran) in
        let from : t.parts.words.drawn ≤ stopped.step = drawn.from in
        let tickets = has.tickets in
        record { from = omega arith; until = drawn.until };
    before = λ at was.
        let same = has.idle at was in
        let before = stops.before at (ap (λ (m : SeqState). m.stopped) same ∙ was) in
        (before.0, before.1 ∙ ap seat_of same);
  };
  idle = λ at was. let same = has.idle at was in idle at (ap (λ (m : SeqState). m.stopped) same ∙ was) ∙ same;
})
