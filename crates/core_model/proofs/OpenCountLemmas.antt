-- Links that agree, and sums over what is dealt out, for a heap that is opened.

use Rattle.heap_model.proofs.MemberLemmas.{in_none, head_or_rest}
use Rattle.std.proofs.Common.{◌≡◌, ℕ, zero, suc, get_or, replicate, ◌+◌, ◌*◌, ◌<◌, ◌≤◌, inl, inr, ◌⊎◌, Bool, nat_eq, nat_lt, List, [], ◌∷◌, map, Contains, length, refl, ap, sym, subst, ◌∙◌, arith}
use Rattle.heap_model.specs.declared.block.Block.{Block}
use Rattle.heap_model.specs.Geometry.{superblock_words}
use Rattle.heap_model.specs.Sizes.{IsClass, words_of_class, blocks_of}
use Rattle.heap_model.specs.Words.{large_info}
use Rattle.heap_model.specs.Counting.{times, total, one_if, below}
use Rattle.heap_model.specs.Blocks.{Layout, Begins, of_class, as_large}
use Rattle.heap_model.specs.Chains.{Follows, Walks}
use Rattle.core_model.specs.Effects.{steps, first_of}
use Rattle.core_model.specs.Opening.{picked}
use Rattle.core_model.proofs.TotalLemmas.{eq-eqb-one}
use Rattle.core_model.proofs.FrameLemmas.{times_steps}
use Rattle.heap_model.proofs.ListLemmas.{one_at_most}
use Rattle.core_model.proofs.CountLemmas.{length_steps}
use Rattle.core_model.proofs.OpenLemmas.{picked_sum, total_in}

-- links that agree on the superblocks of the heap
pub follows_alike : (f g : ℕ → ℕ) (c from : ℕ) (ds : List ℕ) → ((d : ℕ) → d < c → g d ≡ f d) → Follows f c from ds → Follows g c from ds
follows_alike f g c from [] same w = w
follows_alike f g c from (d ∷ ds) same w = (w.0, w.1, subst (λ n. Follows g c n ds) (sym (same d w.1)) (follows_alike f g c (f d) ds same w.2))

pub walks_alike : (f g : ℕ → ℕ) (from : ℕ) (bs : List ℕ) → ((b : ℕ) → 0 < times b bs → g b ≡ f b) → Walks f from bs → Walks g from bs
walks_alike f g from [] same w = tt
walks_alike f g from (b ∷ bs) same w = (
  w.0,
  subst (λ n. Walks g n bs) (sym (same b (let one = eq-eqb-one b b refl in omega arith)))
      (walks_alike f g (f b) bs (λ x some. same x (omega arith)) w.1),
)

pub times_map : (b : ℕ) (ps : List Block) → times b (map (λ (p : Block). p.first_word) ps) ≡ total (λ (p : Block). one_if (nat_eq p.first_word b)) ps
times_map b [] = refl
times_map b (p ∷ ps) = ap (λ n. one_if (nat_eq p.first_word b) + n) (times_map b ps)

pub times_total : (n : ℕ) (xs : List ℕ) → times n xs ≡ total (λ x. one_if (nat_eq x n)) xs
times_total n [] = refl
times_total n (x ∷ xs) = ap (λ y. one_if (nat_eq x n) + y) (times_total n xs)

pub ones_most : (f : ℕ → Bool) (xs : List ℕ) → total (λ x. one_if (f x)) xs ≤ length xs
ones_most f [] = omega arith
ones_most f (x ∷ xs) = let one = one_at_most (f x) in let rest = ones_most f xs in omega arith

-- how a superblock is divided
pub begins_cases : (l : Layout) (d w n : ℕ) → Begins l d w n
    → ((class : ℕ) × (l.info d ≡ class) × IsClass class × (w ≡ words_of_class class) × (n ≡ blocks_of class)) ⊎ ((count : ℕ) × (1 ≤ count)
    × (l.info d ≡ large_info count) × (d + count ≤ l.used) × ((i : ℕ) → d < i → i < d + count → l.info i ≡ 0)
    × (w ≡ superblock_words * count) × (n ≡ 1))
begins_cases l d w n (of_class class is is_class) = inl (class, is, is_class, refl, refl)
begins_cases l d w n (as_large count some is fits others) = inr (count, some, is, fits, others, refl, refl)

-- numbers that are dealt out to seats belong to one each
pub dealt_once : (n count : ℕ) (dealers : List ℕ) (seats : ℕ) → length dealers ≡ count → ((owner : ℕ) → Contains dealers owner → owner < seats)
    → total (λ j. times n (picked j (steps 0 1 count) dealers)) (steps 0 1 seats) ≤ 1
dealt_once n count dealers seats long below =
    let counted = total_in (λ j. times n (picked j (steps 0 1 count) dealers))
    (λ j. total (λ x. one_if (nat_eq x n)) (picked j (steps 0 1 count) dealers)) (steps 0 1 seats)
    (λ j _. times_total n (picked j (steps 0 1 count) dealers)) in
    let all = picked_sum (λ x. one_if (nat_eq x n)) (steps 0 1 count) dealers seats (long ∙ sym (length_steps 0 1 count)) below in
    let back = times_total n (steps 0 1 count) in let t = times_steps n 0 count in let most = one_at_most (nat_lt n (0 + count)) in omega arith

-- lists beyond their end, and of nothing
pub beyond : (xs : List (List ℕ)) (class b : ℕ) → length xs ≤ class → times b (get_or xs class []) ≡ 0
beyond [] class b past = refl
beyond (x ∷ xs) zero b past = absurd (omega arith)
beyond (x ∷ xs) (suc class) b past = beyond xs class b (omega arith)

pub empty_at : (n class b : ℕ) → times b (get_or (replicate n []) class []) ≡ 0
empty_at zero class b = refl
empty_at (suc n) zero b = refl
empty_at (suc n) (suc class) b = empty_at n class b

-- one member's share of a sum
pub member_at : (f : Block → ℕ) (ps : List Block) (p : Block) → Contains ps p → f p ≤ total f ps
member_at f [] p there = absurd (in_none p there)
member_at f (q ∷ ps) p there = elim (head_or_rest q p ps there) [
  | inl same ↦ let e = ap f same in
      omega arith
  | inr later ↦ let r = member_at f ps p later in omega arith
]

-- a list without members is walked
pub no_walk : (next : ℕ → ℕ) (bs : List ℕ) → ((b : ℕ) → times b bs ≡ 0) → Walks next (first_of bs) bs
no_walk next [] none = tt
no_walk next (b ∷ bs) none = absurd (let n = none b in let one = eq-eqb-one b b refl in omega arith)
