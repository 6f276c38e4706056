-- The links of the tests' filter, as those of a table of chains: a table (1) links each word to a node (2), and a node its first word.
use Rattle.std.specs.Prelude.{◌≡◌, ℕ, zero, suc, ◌+◌, ◌<◌, ◌^◌, List, [], ◌∷◌, Bool, true, false, cond, nat_eq, map, length, Contains}
use Rattle.std.specs.List.{range_with_len}
use Rattle.std.proofs.Common.{arith, ap, sym, ◌∙◌}
use Rattle.std.proofs.lemmas.List.FromFn.{length-map-range_with_len, get_or-map-range_with_len}
use Rattle.heap_model.specs.Reach.{Links, AreInside}

-- the first word
abbrev pub node_links : List ℕ → List (ℕ × ℕ)
node_links [] = []
node_links (x ∷ xs) = (0, 2) ∷ []

-- the word at the index
abbrev pub to_node : ℕ → ℕ × ℕ
to_node at = (at, 2)

-- every word
abbrev pub each_link : List ℕ → List (ℕ × ℕ)
each_link words = map to_node (range_with_len 0 (length words))

-- the links of a block of the kind: a table has one in each word, a node those of a node, and others have none
abbrev pub table_links : Links
table_links kind words = cond (nat_eq kind 1) (each_link words) (cond (nat_eq kind 2) (node_links words) [])

-- in each list of links the positions lie in the block, and the kinds are below 3
node_inside : (words : List ℕ) (at to : ℕ) → Contains (node_links words) (at, to) → (at < length words) × (to < 3)
node_inside [] at to here = let none = here.1 in absurd (omega arith)
node_inside (x ∷ xs) at to (zero, below, is) =
    let position = ap (λ (l : ℕ × ℕ). l.0) is in
    let kind = ap (λ (l : ℕ × ℕ). l.1) is in
    (omega arith, omega arith)
node_inside (x ∷ xs) at to (suc k, below, is) = absurd (omega arith)

each_inside : (words : List ℕ) (at to : ℕ) → Contains (each_link words) (at, to) → (at < length words) × (to < 3)
each_inside words at to here =
    let long = length-map-range_with_len to_node 0 (length words) in
    let below = here.1 in
    let read = get_or-map-range_with_len to_node 0 (length words) here.0 here.0 (at, to) (omega arith) (omega arith) in
    let is : to_node here.0 ≡ (at, to) = sym read ∙ here.2 in
    let position = ap (λ (l : ℕ × ℕ). l.0) is in
    let kind = ap (λ (l : ℕ × ℕ). l.1) is in
    (omega arith, omega arith)

pub none_inside : (words : List ℕ) (at to : ℕ) → Contains {X = ℕ × ℕ} [] (at, to) → (at < length words) × (to < 3)
none_inside words at to here = let none = here.1 in absurd (omega arith)

cases_inside : (table node : Bool) (words : List ℕ) (at to : ℕ)
    → Contains (cond table (each_link words) (cond node (node_links words) [])) (at, to) → (at < length words) × (to < 3)
cases_inside true node words at to here = each_inside words at to here
cases_inside false true words at to here = node_inside words at to here
cases_inside false false words at to here = none_inside words at to here

pub table_links-inside : AreInside 3 table_links
table_links-inside = record {
  position = λ kind words at to here. (cases_inside (nat_eq kind 1) (nat_eq kind 2) words at to here).0;
  kind = λ kind words at to here. (cases_inside (nat_eq kind 1) (nat_eq kind 2) words at to here).1;
}

-- there are at most as many links as words
node_few : (words : List ℕ) → length (node_links words) < length words + 1
node_few [] = omega arith
node_few (x ∷ xs) = omega arith

cases_few : (table node : Bool) (words : List ℕ)
    → length (cond table (each_link words) (cond node (node_links words) [])) < length words + 1
cases_few true node words = let long = length-map-range_with_len to_node 0 (length words) in omega arith
cases_few false true words = node_few words
cases_few false false words = omega arith

pub table_links-few : (kind : ℕ) (words : List ℕ) → length words < 2 ^ 32 → length (table_links kind words) < 2 ^ 64
table_links-few kind words short = let few = cases_few (nat_eq kind 1) (nat_eq kind 2) words in omega arith
