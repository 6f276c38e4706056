-- The links of the dictionary lie in their block, lead to kinds that there are, and are few.
use Rattle.std.specs.Prelude.{◌≡◌, ℕ, zero, suc, ◌+◌, ◌<◌, ◌≤◌, ◌^◌, List, [], ◌∷◌, length, slice_index_or, cond, nat_eq, refl}
use Rattle.std.proofs.Common.{arith, ap}
use Rattle.std.proofs.lemmas.Bool.{cond_both}
use Rattle.heap_model.specs.Reach.{AreInside}
use Rattle.dict_model.specs.Links.{all_to_nodes, first_to_node, dict_links}

-- a link of all words is a position behind the start, and to a node
all_inside : (from : ℕ) (words : List ℕ) (k : ℕ) (d : ℕ × ℕ) → k < length (all_to_nodes from words)
    → ((slice_index_or (all_to_nodes from words) k d).0 < from + length words) × ((slice_index_or (all_to_nodes from words) k d).1 ≡ 2)
all_inside from [] k d below = absurd (omega arith)
all_inside from (w ∷ words) zero d below = (omega arith, refl)
all_inside from (w ∷ words) (suc k) d below = let rest = all_inside (from + 1) words k d (omega arith) in (omega (arith, rest.0), rest.1)

first_inside : (words : List ℕ) (k : ℕ) (d : ℕ × ℕ) → k < length (first_to_node words)
    → ((slice_index_or (first_to_node words) k d).0 < length words) × ((slice_index_or (first_to_node words) k d).1 ≡ 2)
first_inside [] k d below = absurd (omega arith)
first_inside (w ∷ words) zero d below = (omega arith, refl)
first_inside (w ∷ words) (suc k) d below = absurd (omega arith)

-- each link lies in the block, and leads to a node
link_inside : (kind : ℕ) (words : List ℕ) (k : ℕ) (d : ℕ × ℕ) → k < length (dict_links kind words)
    → ((slice_index_or (dict_links kind words) k d).0 < length words) × ((slice_index_or (dict_links kind words) k d).1 ≡ 2)
link_inside kind words k d =
    cond_both (nat_eq kind 1) (all_to_nodes 0 words) (cond (nat_eq kind 2) (first_to_node words) [])
    (λ links. k < length links → ((slice_index_or links k d).0 < length words) × ((slice_index_or links k d).1 ≡ 2))
    (λ _ below. let h = all_inside 0 words k d below in (omega (arith, h.0), h.1))
    (λ _. cond_both (nat_eq kind 2) (first_to_node words) []
    (λ links. k < length links → ((slice_index_or links k d).0 < length words) × ((slice_index_or links k d).1 ≡ 2))
    (λ _ below. first_inside words k d below)
    (λ _ below. absurd (omega arith)))

pub are_inside : AreInside 3 dict_links
are_inside = record {
  position = λ kind words at to listed.
      let h = link_inside kind words listed.0 (at, to) listed.1 in
      let same = ap (λ (l : ℕ × ℕ). l.0) listed.2 in omega (arith, h.0);
  kind = λ kind words at to listed.
      let h = link_inside kind words listed.0 (at, to) listed.1 in
      let same = ap (λ (l : ℕ × ℕ). l.1) listed.2 in omega (arith, h.1);
}

length-all_to_nodes : (from : ℕ) (words : List ℕ) → length (all_to_nodes from words) ≡ length words
length-all_to_nodes from [] = refl
length-all_to_nodes from (w ∷ words) = ap suc (length-all_to_nodes (from + 1) words)

few_first : (words : List ℕ) → length (first_to_node words) ≤ 1
few_first [] = omega arith
few_first (w ∷ words) = omega arith

pub are_few : (kind : ℕ) (words : List ℕ) → length words < 2 ^ 32 → length (dict_links kind words) < 2 ^ 64
are_few kind words below =
    cond_both (nat_eq kind 1) (all_to_nodes 0 words) (cond (nat_eq kind 2) (first_to_node words) []) (λ links. length links < 2 ^ 64)
    (λ _. omega (arith, length-all_to_nodes 0 words))
    (λ _. cond_both (nat_eq kind 2) (first_to_node words) [] (λ links. length links < 2 ^ 64)
    (λ _. omega (arith, few_first words)) (λ _. omega arith))
