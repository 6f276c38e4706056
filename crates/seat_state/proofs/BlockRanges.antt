-- Where the words of a block lie.
use Rattle.std.proofs.Common.{◌≡◌, ℕ, ◌+◌, ◌<◌, ◌≤◌, List, [], ◌∷◌, get_or, le-leb, lt-ltb, arith, zero, suc, inl, inr, ◌&&◌, nat_lt, nat_le, subst}
use Rattle.heap_model.specs.Geometry.{lists, start_word, superblocks_end}
use Rattle.heap_model.specs.Sizes.{IsClass, words_of_class}
use Rattle.heap_model.specs.Counting.{times, one_if}
use Rattle.heap_model.proofs.SizeLemmas.{two_words}
use Rattle.core_model.specs.View.{times_within, times_in_classes}
use Rattle.core_model.specs.Sound.{IsCutBlock}
use Rattle.core_model.proofs.TotalLemmas.{ne-eqb-none}
use Rattle.core_model.proofs.PlaceLemmas.{and_is}
use Rattle.core_model.proofs.BlockLemmas.{inside_of}
use Rattle.std.proofs.lemmas.Bool.{cases_eq}
use Rattle.heap_model.proofs.CountingLemmas.{one_if_true}

within : (n d b words : ℕ) → start_word n d ≤ b → b + words ≤ start_word n (d + 1) → 2 ≤ words → d < n → (start_word n 0 ≤ b) × (b < superblocks_end n)
within n d b words low high two less = (omega arith, omega arith)

-- a block of a cut superblock lies in the image
pub cut_range : (n class d b : ℕ) → IsClass class → d < n → IsCutBlock n class d b → (start_word n 0 ≤ b) × (b < superblocks_end n)
cut_range n class d b is less cut = let ends = inside_of n class d b is cut in
    within n d b (words_of_class class) ends.0 ends.1 (two_words class is) less

-- an entry that has the word counts
pub within_word : (words word b : ℕ) (bs : List ℕ) → 0 < times b bs → b ≤ word → word < b + words → 0 < times_within words word bs
within_word words word b [] there from until = absurd (omega arith)
within_word words word b (x ∷ bs) there from until = elim (cases_eq x b) as
    (λ _. 0 < one_if (nat_le x word && nat_lt word (x + words)) + times_within words word bs) [
      | inl same ↦ let one : one_if (nat_le x word && nat_lt word (x + words)) ≡ 1 =
          one_if_true (nat_le x word && nat_lt word (x + words)) (and_is (nat_le x word) (nat_lt word (x + words))
          (le-leb x word (omega (arith, same))) (lt-ltb word (x + words) (omega (arith, same)))) in omega arith
      | inr other ↦ let none = ne-eqb-none x b other in let rest = within_word words word b bs (omega arith) from until in omega arith
    ]

pub in_classes_word : (word b class n : ℕ) (lists : List (List ℕ)) → b ≤ word → word < b + words_of_class (class + n)
    → 0 < times b (get_or lists n []) → 0 < times_in_classes word class lists
in_classes_word word b class n [] from until there = absurd (omega arith)
in_classes_word word b class zero (bs ∷ lists) from until there = let here =
    within_word (words_of_class class) word b bs there from (subst (λ c. word < b + words_of_class c)
    (let e : class + 0 ≡ class = omega arith in e) until) in omega arith
in_classes_word word b class (suc n) (bs ∷ lists) from until there = let rest =
    in_classes_word word b (class + 1) n lists from (subst (λ c. word < b + words_of_class c)
    (let e : class + suc n ≡ class + 1 + n = omega arith in e) until) there in omega arith
