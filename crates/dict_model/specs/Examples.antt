-- Worked examples: a shard of one key, and what the kinds of roots and other roots make of it.
use Rattle.std.specs.Prelude.{◌≡◌, ◌≢◌, ℕ, zero, suc, ◌+◌, ◌*◌, ◌<◌, List, [], ◌∷◌, None, Some, Contains, cond, nat_eq, refl}
use Rattle.std.proofs.Common.{arith, ap, subst, sym, inl, inr, ◌∙◌}
use Rattle.std.proofs.lemmas.Bool.{cond-false, ne_eqb, cases_eq, cond_both}
use Rattle.heap_model.specs.declared.block.Block.{Block}
use Rattle.heap_model.specs.Image.{Image}
use Rattle.heap_model.specs.Header.{kinds_of}
use Rattle.heap_model.specs.Sizes.{class_sizes, words_of_class, blocks_of}
use Rattle.heap_model.specs.Blocks.{of_class}
use Rattle.heap_model.specs.Pointers.{Leads}
use Rattle.heap_model.specs.Counting.{put}
use Rattle.heap_model.specs.Geometry.{magic, root_word}
use Rattle.heap_model.specs.Examples.{formatted, image_with}
use Rattle.heap_model.specs.Reach.{ReachFrom, by_start, words_in}
use Rattle.dict_model.specs.Links.{dict_links}
use Rattle.heap_model.proofs.ReachLemmas.{one_block, not_null, closure_least}
use Rattle.dict_model.specs.Nodes.{shard_of, bucket_of, IsNode, find}
use Rattle.dict_model.specs.Shards.{Map, is_empty, has_table, at_root, at_link, BadShard, at_kind, in_table, HasTable, HasChains, map_of, MapOf, LeadsAlone}

-- a pointer to word 1080, the first of the table
abbrev pub to_table : ℕ
to_table = 0x52500000000021c0

-- a pointer to word 9272, the first of the node
abbrev pub to_node : ℕ
to_node = 0x52500000000121c0

-- Two superblocks, cut into blocks of 128 words and of four: what root 0 holds, what word 1080 holds, and these words
-- besides. Word 17464 has the kind of root 0.
unfoldable pub shard_with : ℕ → ℕ → List (ℕ × ℕ) → Image
shard_with root first words = formatted 2 ((8, 2) ∷ (1064, 12) ∷ (1072, 2) ∷ (40, root) ∷ (1080, first) ∷ (17464, 1) ∷ words)

-- the first block of the one superblock
abbrev pub table : Block
table = record { first_word = 1080; words = 128 }

-- and of the other
abbrev pub node : Block
node = record { first_word = 9272; words = 4 }

module _ (root first : ℕ) (words : List (ℕ × ℕ)) where
  pub table_leads : Leads (shard_with root first words) to_table table
  unfolding shard_with words_of_class blocks_of class_sizes
  table_leads = record {
    pointer = record { tagged = refl; short = omega arith };
    names = record {
      begins_at = refl;
      block = record {
        superblock = 0;
        index = 0;
        words = 128;
        count = 64;
        is_of = record {
          taken = omega arith;
          begins = of_class 12 refl (record { some = omega arith; last = omega arith });
          below = omega arith;
          at = refl;
          size = refl;
        };
      };
    };
  }

  pub node_leads : Leads (shard_with root first words) to_node node
  unfolding shard_with words_of_class blocks_of class_sizes
  node_leads = record {
    pointer = record { tagged = refl; short = omega arith };
    names = record {
      begins_at = refl;
      block = record {
        superblock = 1;
        index = 0;
        words = 4;
        count = 2048;
        is_of = record {
          taken = omega arith;
          begins = of_class 2 refl (record { some = omega arith; last = omega arith });
          below = omega arith;
          at = refl;
          size = refl;
        };
      };
    };
  }

  -- no other block has these pointers
  pub only_node : (b : Block) → Leads (shard_with root first words) to_node b → b ≡ node
  only_node b leads = one_block (shard_with root first words) to_node b node leads node_leads

pub apart : ◌≢◌ {A = Block} node table
apart same = let firsts : ◌≡◌ {A = ℕ} 9272 1080 = ap (λ (b : Block). b.first_word) same in omega arith

-- the shard's root leads to the table
pub table_there : (first : ℕ) (words : List (ℕ × ℕ))
    → HasTable (Leads (shard_with to_table first words)) (shard_with to_table first words) 0 table
unfolding shard_with
table_there first words = record { leads_there = table_leads to_table first words; size = refl }

-- the node of the key 0, with an empty value
good_node : IsNode (shard_with to_table to_node []) 0 0 node
unfolding shard_with
good_node = record { in_shard = refl; in_bucket = refl; short = omega arith; fits = omega arith }

elsewhere : (f : Image) (at value w : ℕ) → w ≢ at → f w ≡ 0 → put f at value w ≡ 0
elsewhere f at value w other null = cond-false (nat_eq w at) value (f w) (ne_eqb w at other) ∙ null

-- all other words are null, where these words are
null_word : (root first : ℕ) (words : List (ℕ × ℕ)) (w : ℕ) → image_with words w ≡ 0 → 8 < w → w ≢ 40 → w ≢ 1064 → w ≢ 1072 → w ≢ 1080 → w ≢ 17464
    → shard_with root first words w ≡ 0
unfolding shard_with
null_word root first words w null behind a b c d e =
    let f0 : Image = image_with words in
    let e0 = elsewhere f0 17464 1 w e null in
    let e1 = elsewhere (put f0 17464 1) 1080 first w d e0 in
    let e2 = elsewhere (put (put f0 17464 1) 1080 first) 40 root w a e1 in
    let e3 = elsewhere (put (put (put f0 17464 1) 1080 first) 40 root) 1072 2 w c e2 in
    let e4 = elsewhere (put (put (put (put f0 17464 1) 1080 first) 40 root) 1072 2) 1064 12 w b e3 in
    let all : List (ℕ × ℕ) = (8, 2) ∷ (1064, 12) ∷ (1072, 2) ∷ (40, root) ∷ (1080, first) ∷ (17464, 1) ∷ words in
    let e5 = elsewhere (put (put (put (put (put f0 17464 1) 1080 first) 40 root) 1072 2) 1064 12) 8 2 w (λ e. omega arith) e4 in
    let e6 = elsewhere (image_with all) 3 1 w (λ e. omega arith) e5 in
    let e7 = elsewhere (put (image_with all) 3 1) 2 2 w (λ e. omega arith) e6 in
    let e8 = elsewhere (put (put (image_with all) 3 1) 2 2) 1 2 w (λ e. omega arith) e7 in
    elsewhere (put (put (put (image_with all) 3 1) 2 2) 1 2) 0 magic w (λ e. omega arith) e8

-- so no other root leads anywhere
alone : (root first : ℕ) (b : Block) (kind : ℕ) → ReachFrom (shard_with root first []) (λ i. i ≢ 0)
    (kinds_of (shard_with root first [])) dict_links b kind → ⊥
alone root first = closure_least (λ b kind. ⊥)
    (λ b kind start.
    not_null (shard_with root first [] (root_word start.root)) (8 * b.first_word) start.leads.pointer
    (null_word root first [] (root_word start.root) refl (omega (arith, start.below)) (λ e. start.is_chosen (omega arith))
    (λ e. omega (arith, start.below))
    (λ e. omega (arith, start.below)) (λ e. omega (arith, start.below)) (λ e. omega (arith, start.below))))
    (λ a b from kind reached none leads. none)

-- the shard of the key 0 with an empty value
abbrev pub one_key : Map
one_key key = cond (nat_eq 0 key) (Some []) None

-- the chains of a table with one node, in bucket 0
abbrev one_node : ℕ → List Block
one_node zero = node ∷ []
one_node (suc k) = []

good_chains : HasChains (LeadsAlone (shard_with to_table to_node []) 0) (shard_with to_table to_node []) 0 table 128 one_node
unfolding shard_with
good_chains zero below = record {
  path = (((node_leads to_table to_node [], alone to_table to_node node), apart), good_node, refl, tt);
  ends = refl;
}
good_chains (suc k) below = record {
  path = tt;
  ends = null_word to_table to_node [] (1080 + suc k) refl (omega arith)
      (λ e. omega arith) (λ e. omega arith) (λ e. omega arith) (λ e. omega arith) (λ e. omega (arith, below));
}

-- a key of bucket 0 of the shard is looked for in the node
not_there : (k n : ℕ) → find (shard_with to_table to_node []) (suc n) (one_node k) ≡ None
unfolding shard_with
not_there zero n = cond-false (nat_eq 0 (suc n)) (Some []) None (ne_eqb 0 (suc n) (λ e. omega arith))
not_there (suc k) n = refl

good_map : (key : ℕ) → one_key key ≡ map_of (shard_with to_table to_node []) 0 one_node key
unfolding shard_with
good_map zero = refl
good_map (suc n) = cond-false (nat_eq 0 (suc n)) (Some []) None (ne_eqb 0 (suc n) (λ e. omega arith))
    ∙ cond_both (nat_eq (shard_of (suc n)) 0)
    (find (shard_with to_table to_node []) (suc n) (one_node (bucket_of (suc n)))) None (λ found. None ≡ found)
    (λ _. sym (not_there (bucket_of (suc n)) n)) (λ _. refl)

base : MapOf (shard_with to_table to_node []) 0 one_key
unfolding shard_with
base = record {
  kind_is = refl;
  is_map = has_table table one_node
      (record { leads_there = (table_leads to_table to_node [], alone to_table to_node table); size = refl }) good_chains good_map;
}

-- the shard of a root of another kind is bad at that kind, though its root is null or leads to a table
other_kind_null : BadShard (formatted 2 []) 0 17464
other_kind_null = at_kind (λ e. omega arith)

other_kind_table : (first : ℕ) (words : List (ℕ × ℕ)) → BadShard (put (shard_with to_table first words) 17464 2) 0 17464
unfolding shard_with
other_kind_table first words = at_kind (λ e. omega arith)

-- and with the kind of a table a null root is an empty shard
empty_shard : MapOf (formatted 2 ((17471, 1) ∷ [])) 7 (λ key. None)
empty_shard = record { kind_is = refl; is_map = is_empty refl (λ key. refl) }

-- another root that leads to the table
shared_table : BadShard (shard_with to_table to_node ((41, to_table) ∷ [])) 0 40
unfolding shard_with
shared_table = in_table 40 refl (at_root (record {
  not_null = λ null. omega arith;
  nowhere = λ b leads size.
      leads.1 0 (by_start b 0 (record { root = 1; below = omega arith; is_chosen = λ e. omega arith; kind_is = refl; leads = leads.0 }));
}))

-- Root 8 leads to the node too, and by its kind the node has no links: so the table is the shard's alone.
abbrev node_words : List (ℕ × ℕ)
node_words = (48, to_node) ∷ []

-- the shard of the table, beside that root
abbrev with_node : Image
with_node = shard_with to_table to_node node_words

beside_node : (b : Block) (kind : ℕ) → ReachFrom with_node (λ i. i ≢ 0) (kinds_of with_node) dict_links b kind → (b ≡ node) × (kind ≡ 0)
unfolding shard_with
beside_node = closure_least (λ b kind. (b ≡ node) × (kind ≡ 0))
    (λ b kind start. elim (cases_eq start.root 8) [
      | inl is ↦ (
        only_node to_table to_node node_words b (subst (λ r. Leads with_node (with_node (root_word r)) b) is start.leads),
        start.kind_is ∙ ap (kinds_of with_node) is,
      )
      | inr other ↦ absurd (not_null (with_node (root_word start.root)) (8 * b.first_word) start.leads.pointer
          (null_word to_table to_node node_words (root_word start.root)
          (elsewhere (λ _. 0) 48 to_node (root_word start.root) (λ e. other (omega arith)) refl)
          (omega (arith, start.below)) (λ e. start.is_chosen (omega arith))
          (λ e. omega (arith, start.below)) (λ e. omega (arith, start.below)) (λ e. omega (arith, start.below)) (λ e. omega (arith, start.below))))
    ])
    (λ a b from kind reached was link.
    let listed : Contains (dict_links 0 (words_in with_node a)) (link.position, kind) =
    subst (λ k. Contains (dict_links k (words_in with_node a)) (link.position, kind)) was.1 link.listed in
    absurd (omega (arith, listed.1)))

-- and the first link of bucket 0 leads astray, where this root leads to its node
shared_node : BadShard with_node 0 1080
unfolding shard_with
shared_node = in_table 1080 refl (at_link table (λ _. []) 0 1080 []
    (record {
      leads_there = (table_leads to_table to_node node_words, λ kind reached. apart (sym (beside_node table kind reached).0));
      size = refl;
    }) (omega arith) (λ k less. absurd (omega arith)) tt refl
    (record {
      not_null = λ null. omega arith;
      nowhere = λ b leads next.
          leads.0.1 0 (by_start b 0 (record { root = 8; below = omega arith; is_chosen = λ e. omega arith; kind_is = refl; leads = leads.0.0 }));
    }))
