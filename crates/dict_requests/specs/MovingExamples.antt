-- Worked examples by computation: which value a block is a node of, which blocks are loose, and what is reached but for one.
use Rattle.std.specs.Prelude.{◌≡◌, ℕ, ◌+◌, ◌*◌, ◌⊎◌, List, [], ◌∷◌, None, Some, Contains, cond, nat_eq, length, slice_index, take, refl}
use Rattle.std.proofs.Common.{arith, ap, sym, subst, inl, inr, ◌∙◌}
use Rattle.heap_model.specs.declared.block.Block.{Block}
use Rattle.heap_model.specs.Geometry.{root_word}
use Rattle.heap_model.specs.Image.{Image, words_from, bytes_of_words}
use Rattle.heap_model.specs.Reach.{by_start}
use Rattle.heap_model.proofs.MemberLemmas.{head_or_rest, in_head, in_none, in_rest}
use Rattle.heap_model.proofs.ReachLemmas.{closure_least, not_null}
use Rattle.heap_seat.specs.Examples.{look_with, seat_with}
use Rattle.heap_seat.specs.View.{View, kind_of}
use Rattle.heap_seat.specs.Words.{MayRead}
use Rattle.dict_model.specs.Links.{IsLink, in_node, in_table}
use Rattle.dict_model.specs.Nodes.{value_in, value_words}
use Rattle.dict_model.specs.Shards.{LeadsTo}
use Rattle.dict_requests.specs.Moving.{IsNodeOf}
use Rattle.dict_requests.specs.Reached.{LinkReaches, Reading, ReachesAllHeld, ReachesAllHeldBut, ReachesBy, RootReaches, Sees}
use Rattle.dict_requests.specs.Removal.{IsLoose}
use Rattle.dict_requests.specs.Trails.{pointer_to}

-- a node of five words with the value "ab"
abbrev pub node : Block
node = record { first_word = 1100; words = 5 }

-- a block that is held beside it
abbrev pub other : Block
other = record { first_word = 1105; words = 2 }

-- and one that is not
abbrev third : Block
third = record { first_word = 1107; words = 2 }

-- the words: root 2, and of the node its length and its value, which has such bytes behind it
abbrev pub stored : ℕ → ℕ → ℕ → ℕ
stored root behind word = cond (nat_eq word 42) root (cond (nat_eq word 1102) 2 (cond (nat_eq word 1103) (25185 + 65536 * behind) 0))

-- a seat with root 2, whose kind has no links; loads see the one of root and bytes, and a crash leaves the other
abbrev pub seeing : ℕ → ℕ → ℕ → ℕ → View
seeing root root_left behind behind_left = record (seat_with (look_with 0 0) 7) {
  held = node ∷ other ∷ [];
  roots = 2 ∷ [];
  volatile = λ word. Some (stored root behind word);
  durable = λ word. Some (stored root_left behind_left word);
}

-- what an image has in the value's word is its value
value_of : (image : Image) (word : ℕ) → image 1102 ≡ 2 → image 1103 ≡ word → value_in image node ≡ take 2 (bytes_of_words (word ∷ []))
value_of image word two is =
    ap (λ n. take n (bytes_of_words (words_from image 1103 (value_words n)))) two ∙ ap (λ w. take 2 (bytes_of_words (w ∷ []))) is

pub one_of : {x y : ℕ} → (x ≡ y) ⊎ (x ≡ y) → x ≡ y
one_of (inl e) = e
one_of (inr e) = e

-- a node of "ab": where loads and crashes agree, and where the bytes behind the value don't
pub is_node : IsNodeOf (seeing 0 0 0 0) node (97 ∷ 98 ∷ []) × IsNodeOf (seeing 0 0 0 7) node (97 ∷ 98 ∷ [])
is_node = (
  record {
    short = omega arith;
    fits = omega arith;
    each = λ image mixes.
        value_of image 25185 (one_of (mixes 1102 (record { from = omega arith; until = omega arith })))
        (one_of (mixes 1103 (record { from = omega arith; until = omega arith })));
  },
  record {
    short = omega arith;
    fits = omega arith;
    each = λ image mixes.
        let two = one_of (mixes 1102 (record { from = omega arith; until = omega arith })) in
        elim (mixes 1103 (record { from = omega arith; until = omega arith })) as (λ _. value_in image node ≡ 97 ∷ 98 ∷ []) [
          | inl seen ↦ value_of image 25185 two seen
          | inr left ↦ value_of image 483937 two left
        ];
  },
)

-- no node of another value, nor of a shorter or a longer one; nor a block without room; nor one of whose words loads
-- may see any, or a crash leave any
is_no_node : (IsNodeOf (seeing 0 0 0 0) node (97 ∷ 99 ∷ []) → ⊥) × (IsNodeOf (seeing 0 0 0 0) node (97 ∷ []) → ⊥)
    × (IsNodeOf (seeing 0 0 0 0) node (97 ∷ 98 ∷ 0 ∷ []) → ⊥)
    × (IsNodeOf (seeing 0 0 0 0) (record { first_word = 1100; words = 3 }) (97 ∷ 98 ∷ []) → ⊥)
    × (IsNodeOf (record (seeing 0 0 0 0) { volatile = λ word. None }) node (97 ∷ 98 ∷ []) → ⊥)
    × (IsNodeOf (record (seeing 0 0 0 0) { durable = λ word. None }) node (97 ∷ 98 ∷ []) → ⊥)
is_no_node = (
  λ is. let e : 98 ≡ 99 = ap (λ (l : List ℕ). slice_index l 1) (is.each (stored 0 0) (λ word inside. inl refl)) in omega arith,
  λ is. let e : 2 ≡ 1 = ap length (is.each (stored 0 0) (λ word inside. inl refl)) in omega arith,
  λ is. let e : 2 ≡ 3 = ap length (is.each (stored 0 0) (λ word inside. inl refl)) in omega arith,
  λ is. let fits = is.fits in omega arith,
  λ is. let e : 0 ≡ 2 = ap length (is.each (λ word. 0) (λ word inside. inl tt)) in omega arith,
  λ is. let e : 0 ≡ 2 = ap length (is.each (λ word. 0) (λ word inside. inr tt)) in omega arith,
)

-- the only root is root 2
pub root_is : (root : ℕ) → Contains (2 ∷ []) root → root ≡ 2
root_is root c = elim (head_or_rest 2 root [] c) as (λ _. root ≡ 2) [ inl same ↦ sym same | inr none ↦ absurd (in_none root none) ]

root_reads : (seen left root value : ℕ) → Contains (2 ∷ []) root → MayRead (seeing seen left 0 0) (root_word root) value
    → (value ≡ seen) ⊎ (value ≡ left)
root_reads seen left root value c read = subst (λ r. MayRead (seeing seen left 0 0) (root_word r) value) (root_is root c) read

-- both blocks are loose where the root is null; none is that a crash leaves the root leading to, or that loads see it
-- leading to, nor one that is not held
loose : IsLoose node (seeing 0 0 0 0) × IsLoose other (seeing 0 0 0 0)
loose = (
  record {
    held = in_head node (other ∷ []);
    unreached = λ root kind. closure_least (λ b k. ⊥) (none root)
        (λ a b from k reached has link. has) node kind;
  },
  record {
    held = in_rest node other (other ∷ []) (in_head other []);
    unreached = λ root kind. closure_least (λ b k. ⊥) (none root) (λ a b from k reached has link. has) other kind;
  },
) where
  none : (root : ℕ) (b : Block) (kind : ℕ) → RootReaches (MayRead (seeing 0 0 0 0)) (seeing 0 0 0 0) root b kind → ⊥
  none root b kind start = not_null start.value (8 * b.first_word) start.leads.1 (one_of (root_reads 0 0 root start.value start.owned start.read))

not_loose : (IsLoose node (seeing 0 (pointer_to node) 0 0) → ⊥) × (IsLoose node (seeing (pointer_to node) 0 0 0) → ⊥)
    × (IsLoose third (seeing 0 0 0 0) → ⊥)
not_loose = (
  λ is. is.unreached 2 0 (by_start node 0 (record {
    owned = in_head 2 [];
    kind_is = refl;
    value = pointer_to node;
    read = inr refl;
    leads = (in_head node (other ∷ []), record { tagged = refl; short = omega arith });
  })),
  λ is. is.unreached 2 0 (by_start node 0 (record {
    owned = in_head 2 [];
    kind_is = refl;
    value = pointer_to node;
    read = inl refl;
    leads = (in_head node (other ∷ []), record { tagged = refl; short = omega arith });
  })),
  λ is. elim (head_or_rest node third (other ∷ []) is.held) as (λ _. ⊥) [
    | inl same ↦ let e = ap (λ (b : Block). b.first_word) same in omega arith
    | inr rest ↦ elim (head_or_rest other third [] rest) as (λ _. ⊥) [
      | inl same ↦ let e = ap (λ (b : Block). b.first_word) same in omega arith
      | inr none ↦ in_none third none
    ]
  ],
)

-- where the root leads to the other block, that alone is reached
abbrev leading : View
leading = seeing (pointer_to other) (pointer_to other) 0 0

is_other : (b : Block) → LeadsTo (Contains leading.held) (pointer_to other) b → b ≡ other
is_other b leads = elim (head_or_rest node b (other ∷ []) leads.0) as (λ _. b ≡ other) [
  | inl same ↦ let e = ap (λ (x : Block). x.first_word) same in let tagged = leads.1.tagged in absurd (omega arith)
  | inr rest ↦ elim (head_or_rest other b [] rest) as (λ _. b ≡ other) [ inl same ↦ sym same | inr none ↦ absurd (in_none b none) ]
]

leads_to_other : LeadsTo (Contains leading.held) (pointer_to other) other
leads_to_other = (in_rest node other (other ∷ []) (in_head other []), record { tagged = refl; short = omega arith })

no_links : (from words position kind : ℕ) → IsLink from words position kind → from ≡ 0 → ⊥
no_links _ _ _ _ (in_table words position below) zero = omega (arith, zero)
no_links _ _ _ _ (in_node words some) zero = omega (arith, zero)

reached_is : (reads : View → Reading) → ((word value : ℕ) → reads leading word value → MayRead leading word value)
    → (root : ℕ) (b : Block) (kind : ℕ) → ReachesBy reads leading root b kind
    → (root ≡ 2) × (b ≡ other) × (kind ≡ 0)
reached_is reads may root = closure_least (λ b kind. (root ≡ 2) × (b ≡ other) × (kind ≡ 0)) from_root from_link where
  from_root : (b : Block) (kind : ℕ) → RootReaches (reads leading) leading root b kind → (root ≡ 2) × (b ≡ other) × (kind ≡ 0)
  from_root b kind start =
      let two = root_is root start.owned in
      let value = one_of (root_reads (pointer_to other) (pointer_to other) root start.value start.owned
      (may (root_word root) start.value start.read)) in
      (two, is_other b (subst (λ x. LeadsTo (Contains leading.held) x b) value start.leads), start.kind_is ∙ ap (kind_of leading) two)

  from_link : (a b : Block) (from kind : ℕ) → ReachesBy reads leading root a from → (root ≡ 2) × (a ≡ other) × (from ≡ 0)
      → LinkReaches (reads leading) leading a from b kind
      → (root ≡ 2) × (b ≡ other) × (kind ≡ 0)
  from_link a b from kind reached has link = absurd (no_links from a.words link.position kind link.is_link has.2)

sees : (word value : ℕ) → Sees leading word value → MayRead leading word value
sees word value seen = let e : value ≡ stored (pointer_to other) 0 word = cc in inl e

-- so all is reached but the node; not all but the other block, and not all
all_but : ReachesAllHeldBut node leading
all_but = record {
  only = record {
    roots = λ root value owned read.
        inr (
          other,
          subst (λ x. LeadsTo (Contains leading.held) x other)
              (sym (one_of (root_reads (pointer_to other) (pointer_to other) root value owned read))) leads_to_other,
        );
    links = λ root a from position kind value reached link read.
        absurd (no_links from a.words position kind link (reached_is MayRead (λ word x r. r) root a from reached).2);
    alone = λ shard root b kind last below differs one two.
        differs ((reached_is MayRead (λ word x r. r) shard b kind one).0 ∙ sym (reached_is MayRead (λ word x r. r) root b last two).0);
  };
  all = λ b h differs. elim (head_or_rest node b (other ∷ []) h) as (λ _. (root : ℕ) × (kind : ℕ) × ReachesBy Sees leading root b kind) [
    | inl same ↦ absurd (differs (sym same))
    | inr rest ↦ elim (head_or_rest other b [] rest) as (λ _. (root : ℕ) × (kind : ℕ) × ReachesBy Sees leading root b kind) [
      | inl same ↦ (
        2,
        0,
        subst (λ (x : Block). ReachesBy Sees leading 2 x 0) same
            (by_start other 0 (record { owned = in_head 2 []; kind_is = refl; value = pointer_to other; read = refl; leads = leads_to_other })),
      )
      | inr none ↦ absurd (in_none b none)
    ]
  ];
}

not_all : (ReachesAllHeldBut other leading → ⊥) × (ReachesAllHeld leading → ⊥)
not_all = (
  λ is. unreached (is.all node (in_head node (other ∷ [])) (λ same. let e = ap (λ (b : Block). b.first_word) same in omega arith)),
  λ is. unreached (is.all node (in_head node (other ∷ []))),
) where
  unreached : (root : ℕ) × (kind : ℕ) × ReachesBy Sees leading root node kind → ⊥
  unreached r = let e = ap (λ (b : Block). b.first_word) (reached_is Sees sees r.0 node r.1 r.2).1 in omega arith
