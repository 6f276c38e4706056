-- Blocks that lie apart: a word has one of them, and a path of them stays where their words do.
use Rattle.std.proofs.Common.{◌≡◌, ◌≢◌, ℕ, ◌+◌, ◌*◌, ◌<◌, ◌≤◌, inl, inr, List, [], ◌∷◌, None, Contains, refl, ap, subst, sym, ◌∙◌, arith}
use Rattle.heap_model.specs.declared.block.Block.{Block}
use Rattle.heap_model.specs.Image.{Image}
use Rattle.heap_model.specs.Geometry.{fixed_words}
use Rattle.heap_model.specs.Blocks.{IsIn, AreOneOrApart}
use Rattle.heap_model.proofs.ReachLemmas.{one_offset, not_null}
use Rattle.heap_model.proofs.MemberLemmas.{in_none, in_head, in_rest, head_or_rest}
use Rattle.dict_model.specs.Nodes.{key_in, IsNode, find}
use Rattle.dict_model.specs.Shards.{Leading, LeadsOnce, LeadsTo, link_behind, IsPath}
use Rattle.dict_model.proofs.ChainLemmas.{SameBut, SameNode, node_same, find_same, not_of, behind_is, in_path}

-- what is asked of blocks: two are one or apart, and each lies behind the roots and has words
pub record ArePlaced (held : Block → Type 0) : Type 0 where
  pub apart : (a b : Block) → held a → held b → AreOneOrApart a b
  pub behind : (b : Block) → held b → fixed_words ≤ b.first_word
  pub some : (b : Block) → held b → 1 ≤ b.words

module _ (held : Block → Type 0) (placed : ArePlaced held) where
  -- a word has one block
  pub one_holder : (a b : Block) (word : ℕ) → held a → held b → IsIn a word → IsIn b word → a ≡ b
  one_holder a b word ha hb p q = elim (placed.apart a b ha hb) as (λ _. a ≡ b) [
    | inl same ↦ same
    | inr far ↦
        let f = p.from in
        let u = p.until in
        let g = q.from in
        let v = q.until in
        absurd (elim far as (λ _. ⊥) [ inl l ↦ omega arith | inr l ↦ omega arith ])
  ]

  pub first_in : (b : Block) → held b → IsIn b b.first_word
  first_in b h = record { from = omega arith; until = omega (arith, placed.some b h) }

  pub held_once : LeadsOnce (LeadsTo held)
  held_once = record {
    one = λ word a b p q.
        let same : a.first_word ≡ b.first_word = let e = one_offset word (8 * a.first_word) (8 * b.first_word) p.1 q.1 in omega arith in
        one_holder a b a.first_word p.0 q.0 (first_in a p.0) (record { from = omega arith; until = omega (arith, placed.some b q.0) });
    null = λ b p. not_null 0 (8 * b.first_word) p.1 refl;
  }

  -- a path whose nodes have the same words, hung behind another link
  pub path_same : (limit : Leading) → ((word : ℕ) (b : Block) → limit word b → held b)
      → (image other : Image) (shard k at to : ℕ) (bs : List Block) → other to ≡ image at
      → ((c : Block) → Contains bs c → (word : ℕ) → IsIn c word → other word ≡ image word) → IsPath limit image shard k at bs
      → IsPath limit other shard k to bs × ((b : Block) → Contains bs b → SameNode image other b)
      × (other (link_behind to bs) ≡ image (link_behind at bs))
  path_same limit into image other shard k at to [] same alike path = (tt, (λ b h. absurd (in_none b h)), same)
  path_same limit into image other shard k at to (b ∷ bs) same alike path =
      let hb = into (image at) b path.0 in
      let node = node_same image other shard k b (λ word low high. alike b (in_head b bs) word (record { from = omega arith; until = high })) path.1 in
      let link : other b.first_word ≡ image b.first_word = alike b (in_head b bs) b.first_word (first_in b hb) in
      let rest = path_same limit into image other shard k b.first_word b.first_word bs link (λ c h. alike c (in_rest b c bs h)) path.3 in
      let none : find other (key_in other b) bs ≡ None = ap (λ n. find other n bs) node.1.key ∙ find_same image other (key_in image b) bs rest.1
      ∙ path.2 in (
        (subst (λ w. limit w b) (sym same) path.0, node.0, none, rest.0),
        (λ c h. elim (head_or_rest b c bs h) as (λ _. SameNode image other c)
            [ inl e ↦ subst (λ (x : Block). SameNode image other x) e node.1 | inr r ↦ rest.1 c r ]),
        rest.2,
      )

  module _ (limit : Leading) (into : (word : ℕ) (b : Block) → limit word b → held b) (image other : Image) (p shard k : ℕ)
      (but_p : SameBut p image other) where
    held_in_path : (at : ℕ) (bs : List Block) (b : Block) → IsPath limit image shard k at bs → Contains bs b → held b
    held_in_path at bs b path h = let found = in_path limit image shard k at bs b path h in into found.0.0 b found.0.1

    -- a node with the word p in no body
    node_kept : (b : Block) → IsNode image shard k b → ((word : ℕ) → b.first_word < word → word < b.first_word + b.words → word ≢ p)
        → IsNode other shard k b × SameNode image other b
    node_kept b is free = node_same image other shard k b (λ word low high. but_p.each word (free word low high)) is

    -- a path whose last link is the one that changes
    pub path_kept : (at : ℕ) (bs : List Block) → p ≡ link_behind at bs → ((c : Block) → Contains bs c → at ≢ c.first_word)
        → IsPath limit image shard k at bs
        → IsPath limit other shard k at bs × ((b : Block) → Contains bs b → SameNode image other b)
    path_kept at [] is apart path = (tt, λ b h. absurd (in_none b h))
    path_kept at (b ∷ bs) is apart path =
        let hb = into (image at) b path.0 in
        let last : (c : Block) × Contains (b ∷ bs) c × (p ≡ c.first_word) =
        elim (behind_is b.first_word bs) as (λ _. (c : Block) × Contains (b ∷ bs) c × (p ≡ c.first_word)) [
          | inl only ↦ (b, in_head b bs, is ∙ only.1)
          | inr l ↦ (l.0, in_rest b l.0 bs l.1, is ∙ l.2)
        ] in
        let hl = held_in_path at (b ∷ bs) last.0 path last.1 in
        let start : at ≢ p = λ e. apart last.0 last.1 (e ∙ last.2) in
        let node = node_kept b path.1 (λ word low high e.
        let at_last : word ≡ last.0.first_word = e ∙ last.2 in
        let same = one_holder b last.0 word hb hl (record { from = omega arith; until = high })
        (record { from = omega arith; until = omega (arith, placed.some last.0 hl) }) in
        let first : b.first_word ≡ last.0.first_word = ap (λ (x : Block). x.first_word) same in omega arith) in
        let rest = path_kept b.first_word bs is (λ c h e. not_of image (key_in image b) bs c path.2 h (sym (ap (λ w. image (w + 1)) e))) path.3 in
        let none : find other (key_in other b) bs ≡ None = ap (λ n. find other n bs) node.1.key
        ∙ find_same image other (key_in image b) bs rest.1 ∙ path.2 in (
          (subst (λ w. limit w b) (sym (but_p.each at start)) path.0, node.0, none, rest.0),
          λ c h. elim (head_or_rest b c bs h) as (λ _. SameNode image other c)
              [ inl e ↦ subst (λ (x : Block). SameNode image other x) e node.1 | inr r ↦ rest.1 c r ],
        )

    -- a path apart from that link, hung behind another one
    pub path_moved : (at to : ℕ) (bs : List Block) → other to ≡ image at → ((c : Block) → Contains bs c → IsIn c p → ⊥)
        → IsPath limit image shard k at bs
        → IsPath limit other shard k to bs × ((b : Block) → Contains bs b → SameNode image other b)
        × (other (link_behind to bs) ≡ image (link_behind at bs))
    path_moved at to bs same free path = path_same limit into image other shard k at to bs same
        (λ c h word inside. but_p.each word (λ e. free c h (subst (IsIn c) e inside))) path
