-- Which class serves a request: the least one that holds it, which is the only one.
use Rattle.std.proofs.Common.{◌≡◌, ℕ, ◌+◌, ◌*◌, ◌≤◌, true, cond, nat_le, refl, sym, ◌∙◌, arith}
use Rattle.std.proofs.lemmas.Bool.{agree_below, cond-true, le-leb, leb-true}
use Rattle.heap_model.specs.Sizes.{IsClass, IsLeastClassFor, class_sizes, last_class, largest_small, size_of}
use Rattle.heap_model.proofs.SizeLemmas.{at_class, few_words, size_of-words}

-- a request that a class serves is small
pub least_small : (bytes class : ℕ) → IsLeastClassFor bytes class → bytes ≤ largest_small
least_small bytes class least =
    let same = size_of-words class least.is_class in
    let few = few_words class least.is_class in
    let holds = least.holds in
    omega arith

-- one class is the least for a request
pub one_least : (bytes class other : ℕ) → IsLeastClassFor bytes class → IsLeastClassFor bytes other → class ≡ other
one_least bytes class other a b =
    let first = a.least other b.is_class b.holds in
    let second = b.least class a.is_class a.holds in
    omega arith

-- a class of no larger blocks is no later one
pub no_later : (c class : ℕ) → IsClass c → IsClass class → size_of c ≤ size_of class → c ≤ class
unfolding size_of class_sizes
no_later c class is_c is less =
    leb-true c class (sym (cond-true (nat_le (size_of c) (size_of class)) (nat_le c class) true (le-leb (size_of c) (size_of class) less)) ∙ row)
  where
    row : cond (nat_le (size_of c) (size_of class)) (nat_le c class) true ≡ true
    row = at_class (λ k. cond (nat_le (size_of c) (size_of k)) (nat_le c k) true)
        (at_class (λ j. agree_below (λ k. cond (nat_le (size_of j) (size_of (k + 1))) (nat_le j (k + 1)) true) (λ _. true) last_class)
        refl c is_c) class is

-- the least class for the size of a class is that class
pub least_of_size : (bytes class other : ℕ) → IsLeastClassFor bytes class → IsClass other → bytes ≡ size_of other → other ≡ class
least_of_size bytes class other least is same =
    let first = least.least other is (omega arith) in
    let holds = least.holds in
    let second = no_later other class is least.is_class (omega arith) in
    omega arith
