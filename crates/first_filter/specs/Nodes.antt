-- The links of the list's nodes: the first word of a node (kind 1) leads to a node, and no other block has links.
use Rattle.std.specs.Prelude.{◌≡◌, refl, ℕ, zero, suc, ◌<◌, ◌≤◌, ◌^◌, List, [], ◌∷◌, Bool, true, false, cond, nat_eq, length, Contains}
use Rattle.std.proofs.Common.{arith, ap}
use Rattle.heap_model.specs.Reach.{Links, AreInside}

-- the first word of a block, as a link to a node
abbrev pub first_word_to_node : List ℕ → List (ℕ × ℕ)
first_word_to_node [] = []
first_word_to_node (x ∷ xs) = (0, 1) ∷ []

-- the filter: a node links its first word to the next node, and a block of another kind has no links
abbrev pub node_links : Links
node_links kind words = cond (nat_eq kind 1) (first_word_to_node words) []

-- worked examples: a node of two words, and the same block as one of the other kind
link_of_node : node_links 1 (7 ∷ 30 ∷ []) ≡ (0, 1) ∷ []
link_of_node = refl

links_of_other : node_links 0 (7 ∷ 30 ∷ []) ≡ []
links_of_other = refl

-- the position lies in the block, and the kind is below 2
link_inside : (test : Bool) (words : List ℕ) (at to : ℕ) → Contains {X = ℕ × ℕ} (cond test (first_word_to_node words) []) (at, to)
    → (at < length words) × (to < 2)
link_inside false words at to here = let none = here.1 in absurd (omega arith)
link_inside true [] at to here = let none = here.1 in absurd (omega arith)
link_inside true (x ∷ xs) at to (zero, below, is) =
    let position = ap (λ (l : ℕ × ℕ). l.0) is in
    let kind = ap (λ (l : ℕ × ℕ). l.1) is in
    (omega arith, omega arith)
link_inside true (x ∷ xs) at to (suc k, below, is) = absurd (omega arith)

pub node_links-inside : AreInside 2 node_links
node_links-inside = record {
  position = λ kind words at to here. (link_inside (nat_eq kind 1) words at to here).0;
  kind = λ kind words at to here. (link_inside (nat_eq kind 1) words at to here).1;
}

-- there is at most one
one_at_most : (test : Bool) (words : List ℕ) → length {A = ℕ × ℕ} (cond test (first_word_to_node words) []) ≤ 1
one_at_most false words = omega arith
one_at_most true [] = omega arith
one_at_most true (x ∷ xs) = omega arith

pub node_links-few : (kind : ℕ) (words : List ℕ) → length words < 2 ^ 32 → length (node_links kind words) < 2 ^ 64
node_links-few kind words short = let few = one_at_most (nat_eq kind 1) words in omega arith
