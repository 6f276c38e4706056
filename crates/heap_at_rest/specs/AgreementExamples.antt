-- Worked examples of images that differ in a word: where it may differ, and where not.
use Rattle.std.specs.Prelude.{◌≡◌, ◌≢◌, ℕ, zero, suc, ◌+◌, ◌*◌, ◌<◌, ◌≤◌, nat_eq, refl}
use Rattle.std.proofs.Common.{ap, arith, ◌∙◌}
use Rattle.std.proofs.lemmas.Bool.{cond-false, ne_eqb}
use Rattle.heap_model.specs.Counting.{put}
use Rattle.heap_at_rest.specs.Agreement.{IsPartlyFree, AgreeButFull}
use Rattle.heap_at_rest.specs.OrderlyExamples.{with_chain, large_with}

-- the superblock with the chain is partly free, that of a large block is not
chain_is_partly_free : IsPartlyFree with_chain 0
unfolding with_chain
chain_is_partly_free = record { taken = omega arith; of_class = record { some = omega arith; last = omega arith }; state = refl }

large_is_not_partly_free : IsPartlyFree (large_with 0 0) 0 → ⊥
unfolding large_with
large_is_not_partly_free is = let last = is.of_class.last in omega arith

-- a root may differ, a word without a meaning, and a word of a large block
differs_at : (at : ℕ) → 40 ≤ at → at < 17464 → ((d : ℕ) → d < 2 → (1064 + 8 * d ≢ at) × (1065 + 8 * d ≢ at) × (1066 + 8 * d ≢ at))
    → AgreeButFull (large_with 0 0) (put (large_with 0 0) at 5)
unfolding large_with
differs_at at low high apart = record {
  header = λ word below. stays word (λ same. omega arith);
  descriptors = λ d below. let here = apart d below in (stays (1064 + 8 * d) here.0, stays (1065 + 8 * d) here.1, stays (1066 + 8 * d) here.2);
  kinds = λ root less. ap (λ c. put (large_with 0 0) at 5 (1064 + 8200 * c + root)) (stays 2 (λ same. omega arith))
      ∙ stays (17464 + root) (λ same. omega arith);
  inside = λ d word free low' high'. absurd (no_class_there d free);
} where
  stays : (word : ℕ) → word ≢ at → put (large_with 0 0) at 5 word ≡ large_with 0 0 word
  stays word other = cond-false (nat_eq word at) 5 (large_with 0 0 word) (ne_eqb word at other)

  no_class_there : (d : ℕ) → IsPartlyFree (large_with 0 0) d → ⊥
  no_class_there zero free = let last = free.of_class.last in omega arith
  no_class_there (suc zero) free = let some = free.of_class.some in omega arith
  no_class_there (suc (suc d)) free = let taken = free.taken in omega arith

root_differs : AgreeButFull (large_with 0 0) (put (large_with 0 0) 40 5)
root_differs = differs_at 40 (omega arith) (omega arith) (λ d below. ((λ same. omega arith), (λ same. omega arith), (λ same. omega arith)))

large_block_differs : AgreeButFull (large_with 0 0) (put (large_with 0 0) 1080 5)
large_block_differs = differs_at 1080 (omega arith) (omega arith) (λ d below. ((λ same. omega arith), (λ same. omega arith), (λ same. omega arith)))

-- a word of a chain may not, nor an anchor, nor the kind of a root
chain_differs : AgreeButFull with_chain (put with_chain 2864 1) → ⊥
unfolding with_chain
chain_differs agree = let word : ◌≡◌ {A = ℕ} 1 6448 = agree.inside 0 2864 chain_is_partly_free (omega arith) (omega arith) in omega arith

anchor_differs : AgreeButFull with_chain (put with_chain 1065 2) → ⊥
unfolding with_chain
anchor_differs agree = let word : ◌≡◌ {A = ℕ} 2 17179869189 = (agree.descriptors 0 (omega arith)).1 in omega arith

kind_differs : AgreeButFull with_chain (put with_chain 9264 1) → ⊥
unfolding with_chain
kind_differs agree = let word : ◌≡◌ {A = ℕ} 1 0 = agree.kinds 0 (omega arith) in omega arith
