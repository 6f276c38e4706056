-- The nodes of a list in an image are exactly what its roots reach.
use Rattle.std.proofs.Common.{◌≡◌, ℕ, ◌+◌, ◌≤◌, ◌↔◌, inl, inr, List, [], ◌∷◌, length, Contains, Bool, true, false, cond, nat_eq, sym, ap, subst, arith}
use Rattle.std.proofs.lemmas.Bool.{cases_eq}
use Rattle.heap_model.specs.declared.block.Block.{Block}
use Rattle.heap_model.specs.Geometry.{root_word}
use Rattle.heap_model.specs.Image.{Image}
use Rattle.heap_model.specs.Blocks.{layout_of}
use Rattle.heap_model.specs.Pointers.{Leads}
use Rattle.heap_model.specs.Reach.{words_in, ReachIn, IsReachedIn, by_start, by_link}
use Rattle.heap_model.proofs.BlockLemmas.{block_words}
use Rattle.heap_model.proofs.ImageLemmas.{length-words_from}
use Rattle.heap_model.proofs.MemberLemmas.{in_none, in_head, in_rest, head_or_rest}
use Rattle.heap_model.proofs.ReachLemmas.{one_block, closure_least}
use Rattle.first_filter.specs.Nodes.{first_word_to_node, node_links}
use Rattle.first_filter.specs.Lists.{IsList, HasList}

-- a node has its first word for a link, and nothing else is one
is_link : (words : List ℕ) → 1 ≤ length words → Contains (node_links 1 words) (0, 1)
is_link [] some = absurd (omega arith)
is_link (x ∷ xs) some = in_head (0, 1) []

only_link : (test : Bool) (words : List ℕ) (at to : ℕ) → Contains {X = ℕ × ℕ} (cond test (first_word_to_node words) []) (at, to) → at ≡ 0
only_link false words at to here = absurd (in_none (at, to) here)
only_link true [] at to here = absurd (in_none (at, to) here)
only_link true (x ∷ xs) at to here = elim (head_or_rest (0, 1) (at, to) [] here) [
  | inl same ↦ sym (ap (λ (l : ℕ × ℕ). l.0) same)
  | inr later ↦ absurd (in_none (at, to) later)
]

module _ (image : Image) where
  no_pointer : (word : ℕ) (b : Block) → word ≡ 0 → Leads image word b → ⊥
  no_pointer word b null leads = let tagged = leads.pointer.tagged in absurd (omega arith)

  -- what the word of a list leads to is its first node, and what a node leads to is a node
  first_in : (nodes : List Block) (word : ℕ) (b : Block) → IsList image word nodes → Leads image word b → Contains nodes b
  first_in [] word b null leads = absurd (no_pointer word b null leads)
  first_in (n ∷ ns) word b list leads = subst (λ (x : Block). Contains (n ∷ ns) x) (one_block image word n b list.0 leads) (in_head n ns)

  next_in : (nodes : List Block) (word : ℕ) (a b : Block) → IsList image word nodes → Contains nodes a
      → Leads image (image a.first_word) b → Contains nodes b
  next_in [] word a b null here leads = absurd (in_none a here)
  next_in (n ∷ ns) word a b list here leads = elim (head_or_rest n a ns here) [
    | inl same ↦ in_rest n b ns
        (first_in ns (image n.first_word) b list.1 (subst (λ (x : Block). Leads image (image x.first_word) b) (sym same) leads))
    | inr later ↦ in_rest n b ns (next_in ns (image n.first_word) a b list.1 later leads)
  ]

  -- what is reached is a node
  only_nodes : (nodes : List Block) → HasList image nodes → (b : Block) (kind : ℕ) → ReachIn image node_links b kind → Contains nodes b
  only_nodes nodes has = closure_least (λ b kind. Contains nodes b)
      (λ b kind start. elim (cases_eq start.root 0) [
        | inl same ↦ first_in nodes (image (root_word 0)) b has.list (subst (λ r. Leads image (image (root_word r)) b) same start.leads)
        | inr other ↦ absurd (no_pointer (image (root_word start.root)) b (has.others start.root start.below other) start.leads)
      ])
      (λ a b from kind reached here link.
      let at = only_link (nat_eq from 1) (words_in image a) link.position kind link.listed in
      let place : a.first_word + link.position ≡ a.first_word = omega arith in
      next_in nodes (image (root_word 0)) a b has.list here (subst (λ w. Leads image (image w) b) place link.leads))

  -- and each node is reached, where the word of the list leads to what is
  each_node : (nodes : List Block) (word : ℕ) → IsList image word nodes → ((b : Block) → Leads image word b → ReachIn image node_links b 1)
      → (b : Block) → Contains nodes b → ReachIn image node_links b 1
  each_node [] word null from b here = absurd (in_none b here)
  each_node (n ∷ ns) word list from b here =
      let reached = from n list.0 in
      let long = length-words_from image n.first_word n.words in
      let some = block_words (layout_of image) n list.0.names.block in
      let place : n.first_word ≡ n.first_word + 0 = omega arith in
      elim (head_or_rest n b ns here) [
        | inl same ↦ subst (λ (x : Block). ReachIn image node_links x 1) same reached
        | inr later ↦ each_node ns (image n.first_word) list.1
            (λ c leads. by_link n c 1 1 reached (record {
              position = 0;
              listed = is_link (words_in image n) (omega arith);
              leads = subst (λ w. Leads image (image w) c) place leads;
            })) b later
      ]

  pub exactly_nodes : (nodes : List Block) → HasList image nodes → (b : Block) → IsReachedIn image node_links b ↔ Contains nodes b
  exactly_nodes nodes has b = (
    λ r. only_nodes nodes has b r.kind r.reach,
    λ here. record {
      kind = 1;
      reach = each_node nodes (image (root_word 0)) has.list
          (λ c leads. by_start c 1 (record { root = 0; below = omega arith; is_chosen = tt; kind_is = sym has.kind; leads = leads })) b here;
    },
  )
