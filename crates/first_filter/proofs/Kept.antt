-- What calls of a heap make of a list that it holds.
use Rattle.std.proofs.Common.{◌≡◌, ◌≢◌, Some, ℕ, ◌*◌, ◌<◌, inl, inr, List, ◌∷◌, slice_index, Contains, refl, sym, subst, ◌∙◌, arith}
use Rattle.heap_model.specs.declared.block.Block.{Block}
use Rattle.heap_model.specs.Blocks.{IsIn}
use Rattle.heap_model.specs.Geometry.{roots, root_word}
use Rattle.heap_model.specs.Image.{Image}
use Rattle.heap_model.specs.Pointers.{IsPointerTo}
use Rattle.heap_seat.specs.Alloc.{Adds, Allocates, IsSizeFor, of_class, of_superblocks}
use Rattle.heap_seat.specs.Sound.{IsSeat}
use Rattle.heap_seat.specs.View.{View}
use Rattle.heap_seat.specs.Words.{IsOwn, in_block, in_root, KeepsWord, KeepsOwn, MayHaveStored, MayRead, MixesOwn, NamesAll, StoresKinds}
use Rattle.heap_seat.proofs.CallerLemmas.{held_in, keeps_word_then, may_be_known, not_new, own_added, own_same, stays_durable, durable_in}
use Rattle.first_filter.specs.Lists.{KeepsOthers, IsList, HasList, HasListOrMore, as_it_was, one_more, IsKept, IsKeptList, ends, leads, HoldsList}

pub kept_stays : (v w : View) (word value : ℕ) → KeepsWord v w word → IsKept v word value → IsKept w word value
kept_stays v w word value keeps kept = record {
  seen = keeps.volatile value kept.seen;
  left = stays_durable v w word value keeps kept.seen kept.left;
}

-- the first word of a held block is own
first_own : (v : View) (b : Block) → IsSeat v → Contains v.held b → IsOwn v.held v.roots b.first_word
first_own v b seat has = let some = (seat.placed b has).some in in_block b b.first_word has (record { from = omega arith; until = omega arith })

-- a value that may be read of a word that is kept
read_known : (v : View) (word value read : ℕ) → IsKept v word value → MayRead v word read → read ≡ value
read_known v word value read kept may = elim may [
  | inl seen ↦ may_be_known (v.volatile word) value read kept.seen seen
  | inr left ↦ may_be_known (v.durable word) value read kept.left left
]

-- what is left of a list
list_left : (v : View) (image : Image) → IsSeat v → MixesOwn v image → NamesAll image v.held → (word : ℕ) (nodes : List Block)
    → IsKeptList v word nodes → IsList image word nodes
list_left v image seat mixes names _ _ ends = refl
list_left v image seat mixes names _ _ (leads b word next bs pointer has kept list) = (
  record { pointer = pointer; names = names b has },
  subst (λ w. IsList image w bs) (sym (durable_in v b.first_word next image (first_own v b seat has) kept.seen kept.left mixes))
      (list_left v image seat mixes names next bs list),
)

pub image_has : (v : View) (image : Image) (nodes : List Block) → IsSeat v → MixesOwn v image → NamesAll image v.held → StoresKinds v image
    → HoldsList v nodes → HasList image nodes
image_has v image nodes seat mixes names kinds holds = record {
  list = subst (λ w. IsList image w nodes) (sym (root_is 0 holds.first (omega arith) holds.root))
      (list_left v image seat mixes names holds.first nodes holds.list);
  kind = kinds.each 0 (omega arith) ∙ holds.kind;
  others = λ i less other. root_is i 0 less (holds.others i less other);
} where
  root_is : (i value : ℕ) → i < roots → IsKept v (root_word i) value → image (root_word i) ≡ value
  root_is i value less kept = durable_in v (root_word i) value image (in_root i (root_word i) (holds.own i less) refl) kept.seen kept.left mixes

-- such calls leave a list
list_stays : (v w : View) (word : ℕ) (nodes : List Block) → IsSeat v → KeepsOthers v w → IsKeptList v word nodes → IsKeptList w word nodes
list_stays v w _ _ seat keeps ends = ends
list_stays v w _ _ seat keeps (leads b word next bs pointer has kept list) =
    leads b word next bs pointer (keeps.held b has) (kept_stays v w b.first_word next (keeps.words b.first_word (first_own v b seat has)) kept)
    (list_stays v w next bs seat keeps list)

pub holds_then : (v w : View) (nodes : List Block) → IsSeat v → KeepsOthers v w → HoldsList v nodes → HoldsList w nodes
holds_then v w nodes seat keeps holds = record {
  first = holds.first;
  root = root_stays 0 holds.first (omega arith) holds.root;
  list = list_stays v w holds.first nodes seat keeps holds.list;
  kind = subst (λ (ks : List ℕ). slice_index ks 0 ≡ 1) (sym keeps.kinds) holds.kind;
  own = λ i less. subst (λ (rs : List ℕ). Contains rs i) (sym keeps.roots) (holds.own i less);
  others = λ i less other. root_stays i 0 less (holds.others i less other);
} where
  root_stays : (i value : ℕ) → i < roots → IsKept v (root_word i) value → IsKept w (root_word i) value
  root_stays i value less kept = kept_stays v w (root_word i) value (keeps.words (root_word i) (in_root i (root_word i) (holds.own i less) refl)) kept

-- an image that is left after such a call has the list
pub as_before : (v w : View) (image : Image) (nodes : List Block) → IsSeat v → IsSeat w → KeepsOthers v w → MixesOwn w image
    → NamesAll image w.held → StoresKinds w image → HoldsList v nodes → HasListOrMore image nodes
as_before v w image nodes seat after keeps mixes names stores holds =
    as_it_was (image_has w image nodes after mixes names stores (holds_then v w nodes seat keeps holds))

-- a request for a block does
pub alloc_keeps : (bytes : ℕ) (b : Block) (v w : View) → Allocates bytes b v w → w.kinds ≡ v.kinds → KeepsOthers v w
alloc_keeps bytes b v w added kinds = record { held = added.blocks.keeps; roots = added.blocks.roots; kinds = kinds; words = added.words }

pub others_then : (v u w : View) → KeepsOthers v u → KeepsOthers u w → ((word : ℕ) → IsOwn v.held v.roots word → IsOwn u.held u.roots word)
    → KeepsOthers v w
others_then v u w a b own_still = record {
  held = λ x has. b.held x (a.held x has);
  roots = b.roots ∙ a.roots;
  kinds = b.kinds ∙ a.kinds;
  words = λ word own. keeps_word_then v u w word (a.words word own) (b.words word (own_still word own));
}

pub own_others : (v w : View) → KeepsOwn v w → w.kinds ≡ v.kinds → KeepsOthers v w
own_others v w keeps kinds = record { held = λ b has. held_in v w b keeps.held has; roots = keeps.roots; kinds = kinds; words = keeps.words }

-- a block of a request for sixteen bytes has two words
pub two_words : (n size : ℕ) → IsSizeFor 16 size → size ≡ 8 * n → 1 < n
two_words n _ (of_class c least) is = let holds = least.holds in omega arith
two_words n _ (of_superblocks large) is = absurd (omega arith)

-- a word of the seat is none of a block that it did not hold
beside : (v u : View) (x : Block) (word : ℕ) → IsSeat v → IsSeat u → Adds x v u → IsOwn v.held v.roots word → IsIn x word → ⊥
beside v u x _ before seat adds (in_block a word has inside) in_x =
    elim (seat.apart a x (adds.keeps a has) adds.has) as (λ _. ⊥) [
      | inl same ↦ not_new v a x has adds.new same
      | inr far ↦
          let from = inside.from in
          let until = inside.until in
          let from_x = in_x.from in
          let until_x = in_x.until in
          elim far as (λ _. ⊥) [ inl l ↦ absurd (omega arith) | inr l ↦ absurd (omega arith) ]
    ]
beside v u x _ before seat adds (in_root i word has at) in_x =
    let behind = (seat.placed x adds.has).behind in
    let less = before.roots_are i has in
    let from_x = in_x.from in absurd (omega arith)

-- a call that stores to no own word but those of the block
pub record KeepsBeside (x : Block) (v w : View) : Type 0 where
  pub held : w.held ≡ v.held
  pub roots : w.roots ≡ v.roots
  pub kinds : w.kinds ≡ v.kinds
  pub words : (word : ℕ) → IsOwn v.held v.roots word → (IsIn x word → ⊥) → KeepsWord v w word

pub beside_own : (x : Block) (v w : View) → KeepsOwn v w → w.kinds ≡ v.kinds → KeepsBeside x v w
beside_own x v w keeps kinds = record { held = keeps.held; roots = keeps.roots; kinds = kinds; words = λ word own apart. keeps.words word own }

pub beside_store : (x : Block) (at value : ℕ) (v w : View) → IsIn x at → MayHaveStored at value v w → w.kinds ≡ v.kinds → KeepsBeside x v w
beside_store x at value v w inside stored kinds = record {
  held = stored.held;
  roots = stored.roots;
  kinds = kinds;
  words = λ word own apart. stored.others word own (λ same. apart (subst (IsIn x) (sym same) inside));
}

pub beside_then : (x : Block) (v u w : View) → KeepsBeside x v u → KeepsBeside x u w → KeepsBeside x v w
beside_then x v u w a b = record {
  held = b.held ∙ a.held;
  roots = b.roots ∙ a.roots;
  kinds = b.kinds ∙ a.kinds;
  words = λ word own apart. keeps_word_then v u w word (a.words word own apart) (b.words word (own_same v u word a.held a.roots own) apart);
}

-- so a new block, and then such calls, store to no word that was the seat's
pub new_then : (bytes : ℕ) (x : Block) (v u w : View) → IsSeat v → IsSeat u → Allocates bytes x v u → u.kinds ≡ v.kinds
    → KeepsBeside x u w → KeepsOthers v w
new_then bytes x v u w before seat added kinds keeps = record {
  held = λ b has. held_in u w b keeps.held (added.blocks.keeps b has);
  roots = keeps.roots ∙ added.blocks.roots;
  kinds = keeps.kinds ∙ kinds;
  words = λ word own. keeps_word_then v u w word (added.words word own)
      (keeps.words word (own_added x v u word added.blocks own) (beside v u x word before seat added.blocks own));
}

-- a load of the root, and then calls that leave it
pub load_then : (v t r : View) → KeepsOwn v t → t.kinds ≡ v.kinds → KeepsOthers t r → KeepsOthers v r
load_then v t r load kinds keeps =
    others_then v t r (own_others v t load kinds) keeps (λ word own. own_same v t word load.held load.roots own)

pub led_then : (v t r : View) (nodes : List Block) (next : ℕ) → KeepsOwn v t → t.volatile (root_word 0) ≡ Some next → KeepsOthers v r
    → HoldsList v nodes → IsKept r (root_word 0) next
led_then v t r nodes next load loaded keeps holds =
    let own = in_root 0 (root_word 0) (holds.own 0 (omega arith)) refl in
    let seen : t.volatile (root_word 0) ≡ Some holds.first = (load.words (root_word 0) own).volatile holds.first holds.root.seen in
    let same : holds.first ≡ next = cc in
    subst (IsKept r (root_word 0)) same (kept_stays v r (root_word 0) holds.first (keeps.words (root_word 0) own) holds.root)

-- the root may be set to a new node, which leads where the root led
module _ (v w : View) (x : Block) (next word : ℕ) (nodes : List Block) (seat : IsSeat v) (holds : HoldsList v nodes) (has : Contains v.held x)
    (led : IsKept v (root_word 0) next) (link : IsKept v x.first_word next) (pointer : IsPointerTo word (8 * x.first_word))
    (stored : MayHaveStored (root_word 0) word v w) (kinds : w.kinds ≡ v.kinds) where
  stays : (b : Block) → Contains v.held b → (value : ℕ) → IsKept v b.first_word value → IsKept w b.first_word value
  stays b here value kept =
      let behind = (seat.placed b here).behind in
      kept_stays v w b.first_word value (stored.others b.first_word (first_own v b seat here) (λ same. omega arith)) kept

  all : (first : ℕ) (bs : List Block) → IsKeptList v first bs → IsKeptList w first bs
  all _ _ ends = ends
  all _ _ (leads b first then bs to here kept list) =
      leads b first then bs to (held_in v w b stored.held here) (stays b here then kept) (all then bs list)

  -- the list from the second node on
  rest : IsKeptList w next nodes
  rest =
      let seen = holds.root.seen in
      let also = led.seen in
      let same : holds.first ≡ next = cc in
      all next nodes (subst (λ n. IsKeptList v n nodes) same holds.list)

  others : (i : ℕ) → i < roots → i ≢ 0 → IsKept w (root_word i) 0
  others i less other = kept_stays v w (root_word i) 0
      (stored.others (root_word i) (in_root i (root_word i) (holds.own i less) refl) (λ same. other (omega arith))) (holds.others i less other)

  -- both lists, as the heap holds them once the root has a known value
  pub with_node : IsKept w (root_word 0) word → HoldsList w (x ∷ nodes)
  with_node root = record {
    first = word;
    root = root;
    list = leads x word next nodes pointer (held_in v w x stored.held has) (stays x has next link) rest;
    kind = subst (λ (ks : List ℕ). slice_index ks 0 ≡ 1) (sym kinds) holds.kind;
    own = λ i less. subst (λ (rs : List ℕ). Contains rs i) (sym stored.roots) (holds.own i less);
    others = others;
  }

  -- an image that is left has the one or the other
  pub one_or_other : (image : Image) → IsSeat w → MixesOwn w image → NamesAll image w.held → StoresKinds w image → HasListOrMore image nodes
  one_or_other image after mixes names stores =
      let own : IsOwn w.held w.roots (root_word 0) = own_same v w (root_word 0) stored.held stored.roots
      (in_root 0 (root_word 0) (holds.own 0 (omega arith)) refl) in
      let kind = stores.each 0 (omega arith) ∙ subst (λ (ks : List ℕ). slice_index ks 0 ≡ 1) (sym kinds) holds.kind in
      let behind = list_left w image after mixes names next nodes rest in
      let nulls : (i : ℕ) → i < roots → i ≢ 0 → image (root_word i) ≡ 0 = λ i less other. durable_in w (root_word i) 0 image
      (own_same v w (root_word i) stored.held stored.roots (in_root i (root_word i) (holds.own i less) refl))
      (others i less other).seen (others i less other).left mixes in
      elim (stored.stored (image (root_word 0)) (mixes.each (root_word 0) own)) [
        | inl new ↦ one_more x (record {
          list = (
            record { pointer = subst (λ p. IsPointerTo p (8 * x.first_word)) (sym new) pointer; names = names x (held_in v w x stored.held has) },
            subst (λ p. IsList image p nodes)
                (sym (durable_in w x.first_word next image (first_own w x after (held_in v w x stored.held has))
                (stays x has next link).seen (stays x has next link).left mixes))
                behind,
          );
          kind = kind;
          others = nulls;
        })
        | inr old ↦ as_it_was (record {
          list = subst (λ p. IsList image p nodes) (sym (read_known v (root_word 0) next (image (root_word 0)) led old)) behind;
          kind = kind;
          others = nulls;
        })
      ]
