-- What calls leave that store to no word that was the seat's: maps, what is reached, and all else.
use Rattle.std.proofs.Common.{◌≡◌, ℕ, ◌+◌, ◌*◌, ◌<◌, inl, inr, List, Contains, slice_index, refl, ap, subst, sym, ◌∙◌, arith}
use Rattle.heap_model.specs.declared.block.Block.{Block}
use Rattle.heap_model.specs.Image.{Image}
use Rattle.heap_model.specs.Geometry.{root_word}
use Rattle.heap_model.specs.Blocks.{IsIn}
use Rattle.heap_model.specs.Reach.{by_start, by_link}
use Rattle.heap_model.proofs.ReachLemmas.{closure_least, not_null}
use Rattle.heap_seat.specs.View.{View, kind_of}
use Rattle.heap_seat.specs.Words.{IsOwn, in_block, in_root, MayRead, MixesOwn, KeepsWord, KeepsOwn, MayHaveStored}
use Rattle.heap_seat.specs.Alloc.{Allocates}
use Rattle.heap_seat.specs.Sound.{IsSeat}
use Rattle.heap_seat.proofs.CallerLemmas.{read_before, keeps_word_then}
use Rattle.dict_model.specs.Links.{node_kind, IsLink, in_table, in_node}
use Rattle.dict_model.specs.Shards.{Map, LeadsTo}
use Rattle.dict_model.proofs.PlacedLemmas.{ArePlaced, held_once, one_holder}
use Rattle.dict_model.proofs.MapLemmas.{map_wider}
use Rattle.dict_requests.specs.Reached.{MayReach, IsNullOrHeld, ReachesOnlyHeld}
pub use Rattle.dict_requests.specs.Quiet.{Grown}
use Rattle.dict_requests.specs.Maps.{IsMapIn, GivesMap, KeepsOtherShards}
use Rattle.dict_requests.specs.Removal.{IsShard}

-- the blocks of a seat are apart, lie behind the roots and have words
pub are_placed : (v : View) → IsSeat v → ArePlaced (Contains v.held)
are_placed v seat = record { apart = seat.apart; behind = λ b h. (seat.placed b h).behind; some = λ b h. (seat.placed b h).some }

-- a block that is held stays so where the list of them does
pub stays_held : (v w : View) → w.held ≡ v.held → (b : Block) → Contains v.held b → Contains w.held b
stays_held v w same b h = subst (λ (bs : List Block). Contains bs b) (sym same) h

-- a link lies in its block, and leads to a node
pub link_inside : (from words position to : ℕ) → IsLink from words position to → position < words
link_inside _ _ _ _ (in_table words position below) = below
link_inside _ _ _ _ (in_node words some) = some

pub link_to : (from words position to : ℕ) → IsLink from words position to → to ≡ node_kind
link_to _ _ _ _ (in_table words position below) = refl
link_to _ _ _ _ (in_node words some) = refl

-- the word of a link is the seat's own
pub link_own : (v : View) (a : Block) (from position to : ℕ) → Contains v.held a → IsLink from a.words position to
    → IsOwn v.held v.roots (a.first_word + position)
link_own v a from position to h is =
    in_block a (a.first_word + position) h (record { from = omega arith; until = let i = link_inside from a.words position to is in omega arith })

pub link_in : (a : Block) (from position to : ℕ) → IsLink from a.words position to → IsIn a (a.first_word + position)
link_in a from position to is = record { from = omega arith; until = let i = link_inside from a.words position to is in omega arith }

-- what is reached is held
pub reached_held : (v : View) (root : ℕ) (b : Block) (kind : ℕ) → MayReach v root b kind → Contains v.held b
reached_held v root = closure_least (λ b kind. Contains v.held b) (λ b kind start. start.leads.0) (λ a b from kind reached h leads. leads.leads.0)

-- where the kinds stay, the kind of each root does
pub kind_kept : (v w : View) (root : ℕ) → w.kinds ≡ v.kinds → kind_of w root ≡ kind_of v root
kind_kept v w root kinds = ap (λ (ks : List ℕ). slice_index ks root) kinds

-- what a root, and a link, may lead to may be reached
pub root_reach : (v : View) (root : ℕ) (b : Block) (kind value : ℕ) → Contains v.roots root → kind ≡ kind_of v root → MayRead v (root_word root) value
    → LeadsTo (Contains v.held) value b → MayReach v root b kind
root_reach v root b kind value owned is read leads = by_start b kind (record { owned = owned; kind_is = is; value = value; read = read; leads = leads })

pub link_reach : (v : View) (root : ℕ) (a b : Block) (from position kind value : ℕ) → MayReach v root a from → IsLink from a.words position kind
    → MayRead v (a.first_word + position) value → LeadsTo (Contains v.held) value b → MayReach v root b kind
link_reach v root a b from position kind value reached is read leads =
    by_link a b from kind reached (record { position = position; is_link = is; value = value; read = read; leads = leads })

pub own_grown : (v w : View) (word : ℕ) → Grown v w → IsOwn v.held v.roots word → IsOwn w.held w.roots word
own_grown v w word grown (in_block b _ h inside) = in_block b word (grown.keeps b h) inside
own_grown v w word grown (in_root i _ h is) = in_root i word (subst (λ (rs : List ℕ). Contains rs i) (sym grown.roots) h) is

pub keeps_none : (v : View) (word : ℕ) → KeepsWord v v word
keeps_none v word = record { volatile = λ value e. e; durable = λ value may. inr may }

pub grown_none : (v : View) → Grown v v
grown_none v = record { keeps = λ b h. h; roots = refl; words = λ word own. keeps_none v word }

pub grown_then : (v u w : View) → Grown v u → Grown u w → Grown v w
grown_then v u w a b = record {
  keeps = λ c h. b.keeps c (a.keeps c h);
  roots = b.roots ∙ a.roots;
  words = λ word own. keeps_word_then v u w word (a.words word own) (b.words word (own_grown v u word a own));
}

pub grown_keeps : (v w : View) → KeepsOwn v w → Grown v w
grown_keeps v w keeps = record { keeps = stays_held v w keeps.held; roots = keeps.roots; words = keeps.words }

pub grown_allocates : (bytes : ℕ) (b : Block) (v w : View) → Allocates bytes b v w → Grown v w
grown_allocates bytes b v w allocates = record { keeps = allocates.blocks.keeps; roots = allocates.blocks.roots; words = allocates.words }

-- a store to a word that wasn't the seat's
pub grown_store : (word value : ℕ) (v u w : View) → Grown v u → MayHaveStored word value u w → (IsOwn v.held v.roots word → ⊥) → Grown v w
grown_store word value v u w a may new = record {
  keeps = λ c h. stays_held u w may.held c (a.keeps c h);
  roots = may.roots ∙ a.roots;
  words = λ other own. keeps_word_then v u w other (a.words other own)
      (may.others other (own_grown v u other a own) (λ e. new (subst (IsOwn v.held v.roots) e own)));
}

-- a block that wasn't held has no word that was own
pub new_block_outside : (v u : View) (b : Block) → IsSeat u → Grown v u → Contains u.held b → (Contains v.held b → ⊥) → (word : ℕ)
    → IsOwn v.held v.roots word → IsIn b word → ⊥
new_block_outside v u b seat grown h fresh word (in_block a _ own inside) in_b =
    fresh (subst (Contains v.held) (one_holder (Contains u.held) (are_placed u seat) a b word (grown.keeps a own) h inside in_b) own)
new_block_outside v u b seat grown h fresh word (in_root i _ own is) in_b =
    let behind = (seat.placed b h).behind in
    let below = seat.roots_are i (subst (λ (rs : List ℕ). Contains rs i) (sym grown.roots) own) in
    let from = in_b.from in omega arith

module _ (v w : View) (grown : Grown v w) where
  pub read_grown : (word value : ℕ) → IsOwn v.held v.roots word → MayRead w word value → MayRead v word value
  read_grown word value own may = read_before v w word value (grown.words word own) may

  pub mixes_grown : (image : Image) → MixesOwn w image → MixesOwn v image
  mixes_grown image mixes = record { each = λ word own. read_grown word (image word) own (mixes.each word (own_grown v w word grown own)) }

  pub map_grown : (image : Image) (shard : ℕ) (map : Map) → IsMapIn v image shard map → IsMapIn w image shard map
  map_grown image shard map is = map_wider (LeadsTo (Contains v.held)) (LeadsTo (Contains w.held)) image shard map
      (λ word b used leads. (grown.keeps b leads.0, leads.1)) is

  pub gives_grown : (shard : ℕ) (map : Map) → GivesMap v shard map → GivesMap w shard map
  gives_grown shard map gives = record { each = λ image mixes. map_grown image shard map (gives.each image (mixes_grown image mixes)) }

  pub null_or_held : (value : ℕ) → IsNullOrHeld v value → IsNullOrHeld w value
  null_or_held value (inl null) = inl null
  null_or_held value (inr leads) = inr (leads.0, (grown.keeps leads.0 leads.1.0, leads.1.1))

  module _ (kinds : w.kinds ≡ v.kinds) (seat : IsSeat w) (only : ReachesOnlyHeld v) where
    -- a pointer that led to a block still leads to that alone
    pub led_before : (value : ℕ) (b : Block) → IsNullOrHeld v value → LeadsTo (Contains w.held) value b → LeadsTo (Contains v.held) value b
    led_before value b (inl null) leads = absurd (not_null value (8 * b.first_word) leads.1 null)
    led_before value b (inr c) leads =
        let same = (held_once (Contains w.held) (are_placed w seat)).one value c.0 b (grown.keeps c.0 c.1.0, c.1.1) leads in
        (subst (Contains v.held) same c.1.0, leads.1)

    pub reached_before : (root : ℕ) (b : Block) (kind : ℕ) → MayReach w root b kind → MayReach v root b kind
    reached_before root = closure_least (MayReach v root)
        (λ b kind start.
        let owned = subst (λ (rs : List ℕ). Contains rs root) grown.roots start.owned in
        let read = read_grown (root_word root) start.value (in_root root (root_word root) owned refl) start.read in
        by_start b kind (record {
          owned = owned;
          kind_is = start.kind_is ∙ kind_kept v w root kinds;
          value = start.value;
          read = read;
          leads = led_before start.value b (only.roots root start.value owned read) start.leads;
        }))
        (λ a b from kind reached has link.
        let read = read_grown (a.first_word + link.position) link.value
        (link_own v a from link.position kind (reached_held v root a from has) link.is_link) link.read in
        by_link a b from kind has (record {
          position = link.position;
          is_link = link.is_link;
          value = link.value;
          read = read;
          leads = led_before link.value b (only.links root a from link.position kind link.value has link.is_link read) link.leads;
        }))

    pub only_grown : ReachesOnlyHeld w
    only_grown = record {
      roots = λ root value owned may.
          let was = subst (λ (rs : List ℕ). Contains rs root) grown.roots owned in
          null_or_held value (only.roots root value was (read_grown (root_word root) value (in_root root (root_word root) was refl) may));
      links = λ root a from position kind value reached is_link may.
          let has = reached_before root a from reached in
          null_or_held value (only.links root a from position kind value has is_link
          (read_grown (a.first_word + position) value (link_own v a from position kind (reached_held v root a from has) is_link) may));
      alone = λ shard root b kind other small differs p q. only.alone shard root b kind other small differs (reached_before shard b kind p)
          (reached_before root b other q);
    }

  pub others_grown : w.kinds ≡ v.kinds → (shard : ℕ) → KeepsOtherShards shard v w
  others_grown kinds shard = record {
    roots = grown.roots;
    kinds = kinds;
    root_words = λ root owned differs. grown.words (root_word root) (in_root root (root_word root) owned refl);
    blocks = λ b h unreached. (grown.keeps b h, λ word inside. grown.words word (in_block b word h inside));
  }

-- the shard is a map still, and all that the requests rely on
pub shard_grown : (v u : View) (shard : ℕ) → IsSeat u → Grown v u → u.kinds ≡ v.kinds → IsShard v shard → IsShard u shard
shard_grown v u shard seat grown kinds is = record {
  owned = subst (λ (rs : List ℕ). Contains rs shard) (sym grown.roots) is.owned;
  kind_is = kind_kept v u shard kinds ∙ is.kind_is;
  only = only_grown v u grown kinds seat is.only;
  map = is.map;
  gives = gives_grown v u grown shard is.map is.gives;
}
