-- What giving the prefix of a cache back to its superblock makes of the parts of a heap.
use Rattle.std.proofs.Common.{◌≡◌, ◌≢◌, ℕ, ◌+◌, ◌*◌, ◌≤◌, ◌⊎◌, inl, inr, cond, nat_eq, eq-eqb, ne_eqb, List, [], ◌∷◌, ◌++◌, length, get_or, set, refl, ap, sym, ◌∙◌, arith, get_or-set_same, get_or-set_other, length-set}
use Rattle.std.proofs.lemmas.Bool.{cases_eq, cond-true, cond-false}
use Rattle.heap_model.specs.Geometry.{head_word, info_word, anchor_word, used_word, start_word}
use Rattle.heap_model.specs.Sizes.{IsClass, words_of_class, blocks_of}
use Rattle.heap_model.specs.Words.{head_pops, anchor_of, anchor_state, anchor_first, empty_state, partial_state}
use Rattle.heap_shape.specs.Shape.{Shape, in_list, is_full, with_at}
use Rattle.heap_shape.specs.Standing.{first_of}
use Rattle.heap_shape.specs.Whole.{IsShape}
use Rattle.heap_shape.specs.Effects.{IsGivenBack}
use Rattle.heap_shape.specs.Moves.{after_give}
use Rattle.heap_shape.proofs.AccountLemmas.{accounted_kept}
use Rattle.heap_shape.proofs.GivenLemmas.{give}
use Rattle.line_memory.specs.View.{View, volatile_at, word_count}
use Rattle.anchor_word.specs.declared.anchor.Anchor.{Anchor}
use Rattle.anchor_word.specs.declared.anchor.State.TheVariants.{Full}
use Rattle.anchor_word.specs.Anchor.{state_number}
use Rattle.block_heap.specs.declared.small.CachePrefix.{CachePrefix}
use Rattle.block_heap.specs.Accounts.{AreAccounted}
use Rattle.block_heap.specs.Batches.{IsGiven, IsGiveWord, linked_words, given_to}
use Rattle.block_heap.specs.Flush.{IsCachePrefix}
use Rattle.block_heap.specs.Medium.{StoresOnly}
use Rattle.block_heap.specs.Parts.{Parts, image_of, held_in, cache_at}
use Rattle.block_heap.specs.Running.{IsRunning, IsCacheOf}
use Rattle.block_heap.proofs.SmallLemmas.{changed, KeepsFixed, keeps_fixed, running_after, caches_set}
use Rattle.std.proofs.lemmas.List.{nil_from_length}
use Rattle.block_heap.proofs.PrefixPlaceLemmas.{full_number, split, cache_of, rest_long, last_inside, prefix_class, prefix_state, prefix_last, few_rest, give_low}

module _ (p : Parts) (class : ℕ) (is : IsClass class) (run : IsRunning p) (prefix : CachePrefix) (is_prefix : IsCachePrefix class prefix p)
    (w : View) (anchor : Anchor) (given : IsGiven p.capacity class prefix.d prefix.batch anchor p.words w)
    (stores : StoresOnly (IsGiveWord prefix.d prefix.batch) p.words w) where
  abbrev blocks : List ℕ
  blocks = is_prefix.before ++ prefix.batch.last ∷ []

  abbrev rest : List ℕ
  rest = (split p class is run prefix is_prefix).0

  abbrev next_word : ℕ
  next_word = start_word p.capacity prefix.d + anchor.first * words_of_class class

  abbrev linked : List ℕ
  linked = linked_words p.capacity class prefix.d prefix.batch anchor p.words.volatile

  linked_is : ((anchor.count ≡ 0) × (linked ≡ p.words.volatile)) ⊎ (linked ≡ set p.words.volatile prefix.batch.last next_word)
  linked_is = elim (cases_eq anchor.count 0) as (λ _. ((anchor.count ≡ 0) × (linked ≡ p.words.volatile))
      ⊎ (linked ≡ set p.words.volatile prefix.batch.last next_word)) [
        | inl none ↦ inl (
          none,
          cond-true (nat_eq anchor.count 0) p.words.volatile (set p.words.volatile prefix.batch.last next_word)
              (eq-eqb anchor.count 0 none),
        )
        | inr some ↦ inr (cond-false (nat_eq anchor.count 0) p.words.volatile (set p.words.volatile prefix.batch.last next_word)
            (ne_eqb anchor.count 0 some))
      ]

  pub linked_long : length linked ≡ word_count p.words
  linked_long = elim linked_is as (λ _. length linked ≡ word_count p.words) [
    | inl none ↦ ap (λ (xs : List ℕ). length xs) none.1
    | inr some ↦ ap (λ (xs : List ℕ). length xs) some ∙ length-set p.words.volatile prefix.batch.last next_word
  ]

  linked_other : (word : ℕ) → word ≢ prefix.batch.last → get_or linked word 0 ≡ image_of p word
  linked_other word other = elim linked_is as (λ _. get_or linked word 0 ≡ image_of p word) [
    | inl none ↦ ap (λ (xs : List ℕ). get_or xs word 0) none.1
    | inr some ↦ ap (λ (xs : List ℕ). get_or xs word 0) some ∙ get_or-set_other p.words.volatile prefix.batch.last word next_word 0 other
  ]

  chain_count : anchor.count ≡ length (run.shape.chain prefix.d)
  chain_count = given.parts.count ∙ (prefix_class p class is run prefix is_prefix).count

  total_is : prefix.batch.count + anchor.count ≡ length blocks + length (run.shape.chain prefix.d)
  total_is = let count = is_prefix.count in let chain = chain_count in omega arith

  abbrev pub state_now : ℕ
  state_now = cond (nat_eq (length blocks + length (run.shape.chain prefix.d)) (blocks_of class)) empty_state partial_state

  pub new_other : (word : ℕ) → word ≢ anchor_word prefix.d → volatile_at w word ≡ get_or linked word 0
  new_other word other = ap (λ (xs : List ℕ). get_or xs word 0) given.words ∙ get_or-set_other linked (anchor_word prefix.d) word
      (given_to anchor prefix.batch (blocks_of class)) 0 other

  last_high : start_word p.capacity 0 ≤ prefix.batch.last
  last_high = let from = (last_inside p class is run prefix is_prefix).from in omega arith

  pub given_back : IsGivenBack p.capacity (image_of p) (λ word. volatile_at w word) run.shape class prefix.d is_prefix.before
      prefix.batch.last state_now
  given_back =
      let long = run.words_open.long in
      let within = is_prefix.within in
      let high = last_high in
      record {
        first = prefix.batch.first;
        begins = sym (cache_of p class is run prefix is_prefix).first ∙ is_prefix.first;
        linked = linked_now;
        anchor = ap (λ (xs : List ℕ). get_or xs (anchor_word prefix.d) 0) given.words
            ∙ get_or-set_same linked (anchor_word prefix.d) (given_to anchor prefix.batch (blocks_of class)) 0 (let e = linked_long in omega arith)
            ∙ ap (λ n. anchor_of (cond (nat_eq n (blocks_of class)) empty_state partial_state) prefix.batch.first n) total_is;
        others = λ word not_anchor not_last. new_other word not_anchor ∙ linked_other word not_last;
      }
    where
      linked_now : (run.shape.chain prefix.d ≡ []) ⊎ (volatile_at w prefix.batch.last ≡ first_of p.capacity class prefix.d
          (anchor_first (image_of p (anchor_word prefix.d))))
      linked_now =
          let high = last_high in
          let last = prefix_last p class is run prefix is_prefix in
          let long = run.words_open.long in
          let within = is_prefix.within in
          let seen = new_other prefix.batch.last (omega arith) in
          let first = given.parts.first in
          elim linked_is as (λ _. (run.shape.chain prefix.d ≡ []) ⊎ (volatile_at w prefix.batch.last ≡ first_of p.capacity class prefix.d
          (anchor_first (image_of p (anchor_word prefix.d))))) [
            | inl none ↦ inl (nil_from_length (run.shape.chain prefix.d) (sym chain_count ∙ none.0))
            | inr some ↦ inr (seen ∙ ap (λ (xs : List ℕ). get_or xs prefix.batch.last 0) some
                ∙ get_or-set_same p.words.volatile prefix.batch.last next_word 0
                (omega arith)
                ∙ ap (λ n. first_of p.capacity class prefix.d n) first)
          ]

  -- it stands in its class list where its anchor wasn't full
  pub gave_listed : anchor.state ≢ Full → run.shape.place prefix.d ≡ in_list class
  gave_listed other = elim (prefix_state p class is run prefix is_prefix) as (λ _. run.shape.place prefix.d ≡ in_list class) [
    | inl listed ↦ listed.0
    | inr full ↦ absurd (other (full_number anchor.state (given.parts.state ∙ full.2)))
  ]

  pub gave_full : anchor.state ≡ Full → (run.shape.place prefix.d ≡ is_full) × (image_of p (info_word prefix.d) ≡ class)
      × (anchor_state (image_of p (anchor_word prefix.d)) ≡ 2) × (run.shape.chain prefix.d ≡ [])
  gave_full same = elim (prefix_state p class is run prefix is_prefix) as
      (λ _. (run.shape.place prefix.d ≡ is_full) × (image_of p (info_word prefix.d) ≡ class)
      × (anchor_state (image_of p (anchor_word prefix.d)) ≡ 2) × (run.shape.chain prefix.d ≡ [])) [
        | inl listed ↦ absurd (listed.1 (sym given.parts.state ∙ ap state_number same))
        | inr full ↦ full
      ]

  pub caches_now : (t : Shape) → ((c : ℕ) → t.cached c ≡ with_at run.shape.cached class rest c)
      → ((c : ℕ) → t.start c ≡ with_at run.shape.start class (image_of p prefix.batch.last) c)
      → (c : ℕ) → IsClass c → IsCacheOf t c (cache_at (set p.caches class prefix.rest) c)
  caches_now t cached start = caches_set p run class t (image_of p prefix.batch.last) rest prefix.rest is is_prefix.next
      (sym (rest_long p class is run prefix is_prefix)) (few_rest p class is run prefix is_prefix) cached start

  -- infos and `used` stay, the shape is kept, and no superblock is lost
  pub gave_fixed : KeepsFixed p w
  gave_fixed =
      let within = is_prefix.within in
      keeps_fixed p w (IsGiveWord prefix.d prefix.batch) run stores given.runs_within.running given.runs_within.below
      (λ e below. give_low p class is run prefix is_prefix (info_word e) (omega arith) (omega arith))
      (give_low p class is run prefix is_prefix used_word (omega arith) (omega arith))
      (λ list below. ap head_pops (stores.volatile (head_word list)
      (give_low p class is run prefix is_prefix (head_word list) (omega arith) (omega arith))))

  pub gave_shape : anchor.state ≢ Full → IsShape p.capacity (λ word. volatile_at w word) (held_in p)
      (after_give run.shape class prefix.d blocks rest (image_of p prefix.batch.last))
  gave_shape other =
      give p.capacity class prefix.d (image_of p) (λ word. volatile_at w word) (held_in p) run.shape is_prefix.before rest prefix.batch.last is run.is
      is_prefix.within (split p class is run prefix is_prefix).1 is_prefix.firsts (gave_listed other) given_back

  pub gave_accounted : anchor.state ≢ Full → AreAccounted p → AreAccounted (changed p w (set p.caches class prefix.rest) p.blocks)
  gave_accounted other = accounted_kept p.capacity (image_of p) (λ word. volatile_at w word) (held_in p) run.shape
      (after_give run.shape class prefix.d blocks rest (image_of p prefix.batch.last)) (held_in p) run.is
      (gave_shape other) gave_fixed.used gave_fixed.infos
      (λ e p. p)

  pub gave_running : anchor.state ≢ Full → IsRunning (changed p w (set p.caches class prefix.rest) p.blocks)
  gave_running other =
      running_after p w (set p.caches class prefix.rest) p.blocks (after_give run.shape class prefix.d blocks rest (image_of p prefix.batch.last)) run
      gave_fixed (length-set p.caches class prefix.rest ∙ run.caches_long) refl refl (gave_shape other)
      (caches_now (after_give run.shape class prefix.d blocks rest (image_of p prefix.batch.last)) (λ c. refl) (λ c. refl))
      (λ e below is_class place. place)
