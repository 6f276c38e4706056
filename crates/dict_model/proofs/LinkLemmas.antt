-- The links that the dictionary's filter lists are those of tables and nodes.
use Rattle.std.proofs.Common.{◌≡◌, ℕ, suc, ◌+◌, ◌<◌, ◌≤◌, inl, inr, List, [], ◌∷◌, length, Contains, cond, refl, subst, sym, ap, arith}
use Rattle.std.specs.Prelude.{nat_eq}
use Rattle.std.proofs.lemmas.Bool.{cases_eq, cond-true, cond-false, ne_eqb, eq-eqb}
use Rattle.heap_model.specs.declared.block.Block.{Block}
use Rattle.heap_model.specs.Image.{Image}
use Rattle.heap_model.specs.Reach.{words_in}
use Rattle.heap_model.proofs.ImageLemmas.{length-words_from}
use Rattle.heap_model.proofs.MemberLemmas.{in_none, in_head, in_rest, head_or_rest}
use Rattle.dict_model.specs.Links.{table_kind, node_kind, dict_links, all_to_nodes, first_to_node, IsLink, in_table, in_node}

-- a listed link of a table lies among its words, and leads to a node
pub record IsAmong (from count at to : ℕ) : Type 0 where
  pub low : from ≤ at
  pub high : at < from + count
  pub kind : to ≡ node_kind

among : (from : ℕ) (words : List ℕ) (at to : ℕ) → Contains (all_to_nodes from words) (at, to) → IsAmong from (length words) at to
among from [] at to h = absurd (in_none (at, to) h)
among from (w ∷ words) at to h = elim (head_or_rest (from, node_kind) (at, to) (all_to_nodes (from + 1) words) h) as
    (λ _. IsAmong from (length (w ∷ words)) at to) [
      | inl same ↦
          let first : from ≡ at = ap (λ (p : ℕ × ℕ). p.0) same in
          let second : node_kind ≡ to = ap (λ (p : ℕ × ℕ). p.1) same in
          let long : length (w ∷ words) ≡ suc (length words) = refl in
          record { low = omega arith; high = omega arith; kind = sym second }
      | inr rest ↦
          let there = among (from + 1) words at to rest in
          let low = there.low in
          let high = there.high in
          let long : length (w ∷ words) ≡ suc (length words) = refl in
          record { low = omega arith; high = omega arith; kind = there.kind }
    ]

first_among : (words : List ℕ) (at to : ℕ) → Contains (first_to_node words) (at, to) → (at ≡ 0) × (to ≡ node_kind) × (0 < length words)
first_among [] at to h = absurd (in_none (at, to) h)
first_among (w ∷ words) at to h = elim (head_or_rest (0, node_kind) (at, to) [] h) as (λ _. (at ≡ 0) × (to ≡ node_kind) × (0 < length (w ∷ words))) [
  | inl same ↦
      let first : 0 ≡ at = ap (λ (p : ℕ × ℕ). p.0) same in
      let second : node_kind ≡ to = ap (λ (p : ℕ × ℕ). p.1) same in
      let long : length (w ∷ words) ≡ suc (length words) = refl in
      (sym first, sym second, omega arith)
  | inr rest ↦ absurd (in_none (at, to) rest)
]

-- what the filter lists is a link of the kind
pub listed_link : (kind : ℕ) (words : List ℕ) (at to : ℕ) → Contains (dict_links kind words) (at, to) → IsLink kind (length words) at to
listed_link kind words at to h = elim (cases_eq kind table_kind) as (λ _. IsLink kind (length words) at to) [
  | inl table ↦
      let e = cond-true (nat_eq kind table_kind) (all_to_nodes 0 words) (cond (nat_eq kind node_kind) (first_to_node words) [])
      (eq-eqb kind table_kind table) in
      let there = among 0 words at to (subst (λ (xs : List (ℕ × ℕ)). Contains xs (at, to)) e h) in
      let high = there.high in
      let is : IsLink table_kind (length words) at node_kind = in_table (length words) at (omega arith) in
      subst (λ k. IsLink k (length words) at to) (sym table) (subst (λ t. IsLink table_kind (length words) at t) (sym there.kind) is)
  | inr other ↦
      let e = cond-false (nat_eq kind table_kind) (all_to_nodes 0 words) (cond (nat_eq kind node_kind) (first_to_node words) [])
      (ne_eqb kind table_kind other) in
      let h2 = subst (λ (xs : List (ℕ × ℕ)). Contains xs (at, to)) e h in
      elim (cases_eq kind node_kind) as (λ _. IsLink kind (length words) at to) [
        | inl node ↦
            let e2 = cond-true (nat_eq kind node_kind) (first_to_node words) [] (eq-eqb kind node_kind node) in
            let there = first_among words at to (subst (λ (xs : List (ℕ × ℕ)). Contains xs (at, to)) e2 h2) in
            let is : IsLink node_kind (length words) 0 node_kind = in_node (length words) there.2 in
            subst (λ k. IsLink k (length words) at to) (sym node)
            (subst (λ t. IsLink node_kind (length words) at t) (sym there.1)
            (subst (λ a. IsLink node_kind (length words) a node_kind) (sym there.0) is))
        | inr neither ↦
            let e2 = cond-false (nat_eq kind node_kind) (first_to_node words) [] (ne_eqb kind node_kind neither) in
            absurd (in_none (at, to) (subst (λ (xs : List (ℕ × ℕ)). Contains xs (at, to)) e2 h2))
      ]
]

-- and so is what it lists in a block of an image
pub link_in_block : (image : Image) (a : Block) (from position kind : ℕ) → Contains (dict_links from (words_in image a)) (position, kind)
    → IsLink from a.words position kind
link_in_block image a from position kind listed =
    subst (λ n. IsLink from n position kind) (length-words_from image a.first_word a.words) (listed_link from (words_in image a) position kind listed)

all_listed : (from : ℕ) (words : List ℕ) (at : ℕ) → from ≤ at → at < from + length words → Contains (all_to_nodes from words) (at, node_kind)
all_listed from [] at low high = let none : length {A = ℕ} [] ≡ 0 = refl in absurd (omega arith)
all_listed from (w ∷ words) at low high = elim (cases_eq from at) as (λ _. Contains (all_to_nodes from (w ∷ words)) (at, node_kind)) [
  | inl same ↦ subst (λ x. Contains (all_to_nodes from (w ∷ words)) (x, node_kind)) same (in_head (from, node_kind) (all_to_nodes (from + 1) words))
  | inr other ↦
      let long : length (w ∷ words) ≡ suc (length words) = refl in
      in_rest (from, node_kind) (at, node_kind) (all_to_nodes (from + 1) words) (all_listed (from + 1) words at (omega arith) (omega arith))
]

first_listed : (words : List ℕ) → 0 < length words → Contains (first_to_node words) (0, node_kind)
first_listed [] some = let none : length {A = ℕ} [] ≡ 0 = refl in absurd (omega arith)
first_listed (w ∷ words) some = in_head (0, node_kind) []

-- and each link of the kind is listed
pub link_listed : (kind n at to : ℕ) → IsLink kind n at to → (words : List ℕ) → length words ≡ n → Contains (dict_links kind words) (at, to)
link_listed _ _ _ _ (in_table n at inside) words long = all_listed 0 words at (omega arith) (omega arith)
link_listed _ _ _ _ (in_node n some) words long = first_listed words (omega arith)

-- a node has one link
pub at_first : (from words position kind : ℕ) → IsLink from words position kind → from ≡ node_kind → position ≡ 0
at_first _ _ _ _ (in_node words some) is = refl
at_first _ _ _ _ (in_table words position inside) is = absurd (omega arith)
