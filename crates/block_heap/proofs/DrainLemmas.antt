-- How a drain comes to the offsets of all blocks that it is to give.
use Rattle.std.proofs.Common.{◌≡◌, ◌≢◌, ℕ, ◌+◌, ◌*◌, ◌<◌, ◌⊎◌, inl, inr, List, [], ◌∷◌, ◌++◌, length, length-append, get_or, Contains, refl, ap, sym, subst, ◌∙◌, arith}
use Rattle.std.specs.Prelude.{AllPairs}
use Rattle.std.proofs.lemmas.Bool.{cases_eq}
use Rattle.std.proofs.lemmas.List.Elements.{Contains-append_left, Contains-append_right, Contains-append_cases, Contains-get_or}
use Rattle.std.proofs.Math.ListN.{get_or-append}
use Rattle.std.proofs.Math.Seq.{get_or-append_seam}
use Rattle.heap_model.specs.declared.block.Block.{Block}
use Rattle.heap_model.specs.Blocks.{Layout}
use Rattle.heap_model.specs.Recovered.{IsDrained, beside, freed, fresh}
use Rattle.heap_model.specs.Sizes.{words_of_class}
use Rattle.heap_model.proofs.MemberLemmas.{in_none, in_head, head_or_rest}
use Rattle.heap_model.proofs.PartLemmas.{same_fields}
use Rattle.heap_at_rest.specs.Draining.{IsDrainable, IsToDrain}
use Rattle.block_heap.specs.Parts.{image_of, held_in}
use Rattle.block_heap.specs.Requests.{IsDrainableFor, IsDrainedOf, Drains}
use Rattle.block_heap.specs.SeqState.{SeqState}
use Rattle.block_heap.specs.Serving.{DrainsTo, DrainsNone}

-- these are offsets of some of the blocks that were to be drained, each once; the others are still to be drained
pub record HasDrained (class : ℕ) (s t : SeqState) (offsets : List ℕ) : Type 0 where
  pub capacity : t.parts.capacity ≡ s.parts.capacity
  pub drainable : IsDrainableFor class t
  pub was : (a : Block) → IsDrainedOf class t a → IsDrainedOf class s a
  pub sound : (offset : ℕ) → Contains offsets offset → (b : Block) × (offset ≡ 8 * b.first_word) × IsDrainedOf class s b × (IsDrainedOf class t b → ⊥)
  pub rest : (b : Block) → IsDrainedOf class s b → Contains offsets (8 * b.first_word) ⊎ IsDrainedOf class t b
  pub once : AllPairs (λ x y. x ≢ y) offsets

-- at first there is none
pub drains_first : (class : ℕ) (s : SeqState) (offsets : List ℕ) → offsets ≡ [] → IsDrainableFor class s → HasDrained class s s offsets
drains_first class s offsets empty drainable = subst (λ xs. HasDrained class s s xs) (sym empty) (record {
  capacity = refl;
  drainable = drainable;
  was = λ a d. d;
  sound = λ offset p. absurd (in_none offset p);
  rest = λ b d. inr d;
  once = λ i j d less within. absurd (omega arith);
})

-- a block that is to be drained has the size of the class
drained_size : (l : Layout) (kept : Block → Type 0) (class : ℕ) (b : Block) → IsDrained l kept class b → b.words ≡ words_of_class class
drained_size l kept class _ (beside b d index is taken info of_class unkept not_free) = of_class.size
drained_size l kept class _ (freed b d index is free of_class) = of_class.size
drained_size l kept class _ (fresh b d index is past below of_class) = of_class.size

-- so that two of them with one offset are one
one_block : (class : ℕ) (s : SeqState) (a b : Block) → IsDrainedOf class s a → IsDrainedOf class s b → 8 * a.first_word ≡ 8 * b.first_word → a ≡ b
one_block class s a b in_a in_b same = same_fields a b (omega arith) (drained_size _ _ class a in_a ∙ sym (drained_size _ _ class b in_b))

-- a list with one more at its end, to which all others stand in the relation
pairs_push : (R : ℕ → ℕ → Type 0) (xs : List ℕ) (x : ℕ) → AllPairs R xs → ((y : ℕ) → Contains xs y → R y x) → AllPairs R (xs ++ x ∷ [])
pairs_push R xs x pairs last = λ i j d less within.
    let long : length (xs ++ x ∷ []) ≡ length xs + 1 = length-append xs (x ∷ []) in
    let i_in : i < length xs = omega arith in
    let at_i : get_or (xs ++ x ∷ []) i d ≡ get_or xs i d = get_or-append xs (x ∷ []) d i i_in in
    elim (cases_eq j (length xs)) as (λ _. R (get_or (xs ++ x ∷ []) i d) (get_or (xs ++ x ∷ []) j d)) [
      | inl end ↦
          let at_j : get_or (xs ++ x ∷ []) j d ≡ x = ap (λ k. get_or (xs ++ x ∷ []) k d) end ∙ get_or-append_seam xs x [] d in
          subst (λ z. R z (get_or (xs ++ x ∷ []) j d)) (sym at_i) (subst (λ z. R (get_or xs i d) z) (sym at_j)
          (last (get_or xs i d) (Contains-get_or xs i d i_in)))
      | inr before ↦
          let j_in : j < length xs = omega arith in
          let at_j : get_or (xs ++ x ∷ []) j d ≡ get_or xs j d = get_or-append xs (x ∷ []) d j j_in in
          subst (λ z. R z (get_or (xs ++ x ∷ []) j d)) (sym at_i) (subst (λ z. R (get_or xs i d) z) (sym at_j) (pairs i j d less j_in))
    ]

-- a request of the class gave a block: its offset comes to the others
pub drains_more : (class : ℕ) (s t u : SeqState) (offsets : List ℕ) (b : Block) → HasDrained class s t offsets → u.parts.capacity ≡ t.parts.capacity
    → DrainsTo class b t.parts u.parts
    → HasDrained class s u (offsets ++ 8 * b.first_word ∷ [])
drains_more class s t u offsets b has capacity drains = record {
  capacity = capacity ∙ has.capacity;
  drainable = subst (λ n. IsDrainable n (image_of u.parts) (held_in u.parts) class) (sym capacity) step.0;
  was = λ a d. has.was a (before a d);
  sound = λ offset p. elim (Contains-append_cases offsets (8 * b.first_word ∷ []) offset p) [
    | inl old ↦ let found = has.sound offset old in (found.0, found.1, found.2, λ d. found.3 (before found.0 d))
    | inr new ↦ (b, is_new offset new, has.was b step.1, λ d. step.2 (here b d))
  ];
  rest = λ a d. elim (has.rest a d) [
    | inl old ↦ inl (Contains-append_left offsets (8 * b.first_word ∷ []) (8 * a.first_word) old)
    | inr left ↦ elim (step.3 a left) [
      | inl same ↦ inl (subst (λ (z : Block). Contains (offsets ++ 8 * b.first_word ∷ []) (8 * z.first_word)) (sym same)
          (Contains-append_right offsets (8 * b.first_word ∷ []) (8 * b.first_word) (in_head (8 * b.first_word) [])))
      | inr still ↦ inr (subst (λ n. IsToDrain n (image_of u.parts) (held_in u.parts) class a) (sym capacity) still)
    ]
  ];
  once = pairs_push (λ x y. x ≢ y) offsets (8 * b.first_word) has.once (λ y p e.
      let found = has.sound y p in
      let same : found.0 ≡ b = one_block class s found.0 b found.2 (has.was b step.1) (sym found.1 ∙ e) in
      found.3 (subst (λ z. IsDrainedOf class t z) (sym same) step.1));
} where
  step : IsDrainable t.parts.capacity (image_of u.parts) (held_in u.parts) class × IsDrainedOf class t b
      × (IsToDrain t.parts.capacity (image_of u.parts) (held_in u.parts) class b → ⊥)
      × ((a : Block) → IsDrainedOf class t a → (a ≡ b) ⊎ IsToDrain t.parts.capacity (image_of u.parts) (held_in u.parts) class a)
      × ((a : Block) → IsToDrain t.parts.capacity (image_of u.parts) (held_in u.parts) class a → IsDrainedOf class t a)
  step = drains has.drainable

  here : (a : Block) → IsDrainedOf class u a → IsToDrain t.parts.capacity (image_of u.parts) (held_in u.parts) class a
  here a d = subst (λ n. IsToDrain n (image_of u.parts) (held_in u.parts) class a) capacity d

  before : (a : Block) → IsDrainedOf class u a → IsDrainedOf class t a
  before a d = step.4 a (here a d)

  is_new : (offset : ℕ) → Contains (8 * b.first_word ∷ []) offset → offset ≡ 8 * b.first_word
  is_new offset p = elim (head_or_rest (8 * b.first_word) offset [] p) as
      (λ _. offset ≡ 8 * b.first_word) [ inl same ↦ sym same | inr none ↦ absurd (in_none offset none) ]

-- a request of the class gave none: all were given
pub drains_last : (class : ℕ) (s t : SeqState) (offsets : List ℕ) → HasDrained class s t offsets → DrainsNone class t.parts → Drains class offsets s
drains_last class s t offsets has none = record {
  sound = λ offset p. let found = has.sound offset p in (found.0, found.1, found.2);
  complete = λ b d. elim (has.rest b d) as (λ _. Contains offsets (8 * b.first_word))
      [ inl given ↦ given | inr left ↦ absurd (none has.drainable b left) ];
  once = has.once;
}
