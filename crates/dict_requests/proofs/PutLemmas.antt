-- What publishing a node leaves.
use Rattle.std.proofs.Common.{◌≡◌, ◌≢◌, ℕ, ◌+◌, ◌<◌, ◌≤◌, ◌⊎◌, inl, inr, List, [], ◌∷◌, ◌++◌, length, get_or, take, Option, None, Contains, refl, ap, subst, sym, ◌∙◌, arith}
use Rattle.heap_model.specs.declared.block.Block.{Block}
use Rattle.heap_model.specs.Image.{Image, image_of_bytes, words_from, bytes_of_words}
use Rattle.heap_model.specs.Blocks.{IsIn}
use Rattle.heap_seat.specs.View.{View, kind_of}
use Rattle.heap_seat.specs.Words.{IsOwn, in_block, MayBe, MayRead, MixesOwn, MayHaveStored}
use Rattle.heap_seat.specs.Sound.{IsSeat}
use Rattle.dict_model.specs.Links.{table_kind, node_kind, IsLink, in_node, in_table}
use Rattle.dict_model.specs.Nodes.{largest_value, shard_of, bucket_of, value_words, key_in, length_in, value_in}
use Rattle.dict_model.specs.Requests.{with_key}
use Rattle.dict_model.specs.Shards.{Map, LeadsTo, link_behind}
use Rattle.dict_requests.specs.Maps.{IsMapIn, GivesMap}
use Rattle.dict_requests.specs.Reached.{MayReach, ReachesOnlyHeld}
use Rattle.dict_requests.specs.Trails.{pointer_to, IsDurableAt, HasCome}
use Rattle.dict_requests.specs.Quiet.{Grown}
use Rattle.dict_requests.specs.Moving.{MixesBlock, IsNodeOf, known_of}
use Rattle.dict_requests.specs.Nodes.{IsWrittenNode, MakesNode, HasNode}
use Rattle.dict_requests.specs.Changes.{MayChange, Changes}
use Rattle.dict_requests.proofs.GrownLemmas.{new_block_outside, reached_before, reached_held}
use Rattle.dict_requests.proofs.ChangeLemmas.{table_stored}
use Rattle.dict_requests.proofs.PublishLemmas.{IsLinkOf, MayPublish, new, IsFresh, only_after, others_after}
use Rattle.dict_requests.proofs.TrailLemmas.{settled_in, leads_held}
use Rattle.dict_requests.proofs.MapPublishLemmas.{HoldsNode, either, exactly, put_new, put_over}
use Rattle.dict_requests.proofs.ComeLemmas.{link_followed, link_behind_roots}
use Rattle.dict_requests.proofs.ValueLemmas.{value_of_words}
use Rattle.dict_requests.proofs.ReadLemmas.{value_length}
use Rattle.dict_requests.proofs.DeleteLemmas.{shard_below}

-- a crash leaves the map of the key's shard as it was, or with the value set
abbrev pub MaySet : ℕ → List ℕ → View → View → Type 0
MaySet key value = MayChange (shard_of key) (λ map. with_key map key value)

-- a settled word is read as one value
pub one_reading : (u : View) (word value read : ℕ) → IsDurableAt u word value → MayRead u word read → read ≡ value
one_reading u word value read settled (inl may) = subst (λ (known : Option ℕ). MayBe known read) settled.seen may
one_reading u word value read settled (inr may) = subst (λ (known : Option ℕ). MayBe known read) settled.left may

-- a node that was written has its value in every mixture of its words
pub written_value : (u : View) (n : Block) (key next : ℕ) (value : List ℕ) → 3 + value_words (length value) ≤ n.words → length value ≤ largest_value
    → ((k : ℕ) → k < length value → get_or value k 0 < 256) → IsWrittenNode (IsDurableAt u) n key next value → IsNodeOf u n value
written_value u n key next value room short small written = record { short = short; fits = room; each = by_image } where
  by_image : (image : Image) → MixesBlock (known_of u) n image → value_in image n ≡ value
  by_image image mixes =
      let word : (i x : ℕ) → i < 3 + value_words (length value) → IsDurableAt u (n.first_word + i) x
      → image (n.first_word + i) ≡ x = λ i x less settled.
      one_reading u (n.first_word + i) x (image (n.first_word + i)) settled
      (mixes (n.first_word + i) (record { from = omega arith; until = omega arith })) in
      let length_is : length_in image n ≡ length value = word 2 (length value) (omega arith) written.length_is in
      ap (λ k. take k (bytes_of_words (words_from image (n.first_word + 3) (value_words k)))) length_is
      ∙ value_of_words image (n.first_word + 3) value small
      (λ i less. let e : n.first_word + 3 + i ≡ n.first_word + (3 + i) = omega arith in
      ap image e ∙ word (3 + i) (image_of_bytes value i) (omega arith) (written.words i less))

pub has_node : (v u : View) (n : Block) (key next : ℕ) (value : List ℕ) → length value ≤ largest_value
    → ((k : ℕ) → k < length value → get_or value k 0 < 256)
    → MakesNode n key next value v u → HasNode n key next value v u
has_node v u n key next value short small makes = record {
  new = makes.new;
  held = makes.held;
  only = makes.only;
  settles = makes.settles;
  node = written_value u n key next value makes.room short small makes.written;
  next_is = makes.written.next_is;
  key_is = makes.written.key_is;
}

-- a node of the value, of this key and with this link, is one in every mixture
pub node_in : (u : View) (image : Image) (n : Block) (key next : ℕ) (value : List ℕ) → MixesOwn u image → Contains u.held n → IsNodeOf u n value
    → IsDurableAt u (n.first_word + 1) key
    → IsDurableAt u (n.first_word + 0) next → HoldsNode image (shard_of key) key value next n
node_in u image n key next value mixes held node key_there next_there = record {
  node = record {
    in_shard = ap shard_of key_is;
    in_bucket = ap bucket_of key_is;
    short = subst (λ k. k ≤ largest_value) (sym length_is) node.short;
    fits = subst (λ k. 3 + value_words k ≤ n.words) (sym length_is) node.fits;
  };
  key_is = key_is;
  value_is = value_is;
  next_is = let e : n.first_word ≡ n.first_word + 0 = omega arith in ap image e ∙ word 0 next (omega arith) next_there;
} where
  room : 3 ≤ n.words
  room = let fits = node.fits in omega arith

  word : (i x : ℕ) → i < 3 → IsDurableAt u (n.first_word + i) x → image (n.first_word + i) ≡ x
  word i x less settled = settled_in u image mixes (n.first_word + i) x
      (in_block n (n.first_word + i) held (record { from = omega arith; until = let r = room in omega arith })) settled

  key_is : key_in image n ≡ key
  key_is = word 1 key (omega arith) key_there

  value_is : value_in image n ≡ value
  value_is = node.each image (λ at inside. mixes.each at (in_block n at held inside))

  length_is : length_in image n ≡ length value
  length_is = sym (value_length image n) ∙ ap length value_is

module _ (v u : View) (seat : IsSeat u) (grown : Grown v u) (kinds : u.kinds ≡ v.kinds) (only_v : ReachesOnlyHeld v) (key next : ℕ)
    (value : List ℕ) (n : Block) (held : Contains u.held n) (fresh : Contains v.held n → ⊥)
    (node : IsNodeOf u n value) (key_is : IsDurableAt u (n.first_word + 1) key) (next_is : IsDurableAt u (n.first_word + 0) next)
    (leads_on : (next ≡ 0) ⊎ ((f : Block) × LeadsTo (Contains u.held) next f × MayReach u (shard_of key) f node_kind)) where
  -- nothing reaches it yet
  pub is_fresh : IsFresh u (shard_of key) n node_kind
  is_fresh = record {
    unreached = λ root other reached. fresh (reached_held v root n other (reached_before v u grown kinds seat only_v root n other reached));
    links = λ position to read is may. by_link node_kind position to read is refl may;
  } where
    by_link : (from position to read : ℕ) → IsLink from n.words position to → from ≡ node_kind → MayRead u (n.first_word + position) read
        → (read ≡ 0) ⊎ ((f : Block) × LeadsTo (Contains u.held) read f × MayReach u (shard_of key) f to)
    by_link _ _ _ read (in_node words some) is may =
        let one = one_reading u (n.first_word + 0) next read next_is may in
        subst (λ x. (x ≡ 0) ⊎ ((f : Block) × LeadsTo (Contains u.held) x f × MayReach u (shard_of key) f node_kind)) (sym one) leads_on
    by_link _ _ _ read (in_table words position below) is may = absurd (omega arith)

  module _ (w : View) (only : ReachesOnlyHeld u) (table : Block) (before drop : List Block)
      (come : HasCome IsDurableAt u (shard_of key) key table (before ++ drop)) (come_to : HasCome IsDurableAt u (shard_of key) key table before)
      (p x y : ℕ) (at : p ≡ link_behind (table.first_word + bucket_of key) before) (was : IsDurableAt u p y) (may : MayHaveStored p x u w)
      (points : x ≡ pointer_to n) (own_v : IsOwn v.held v.roots p)
      (table_v : Contains v.held table) (behind : IsDurableAt u (link_behind p drop) next) (behind_own : IsOwn u.held u.roots (link_behind p drop))
      (root_is : kind_of u (shard_of key) ≡ table_kind) (kinds_w : w.kinds ≡ u.kinds) where
    not_table : n ≢ table
    not_table same = fresh (subst (Contains v.held) (sym same) table_v)

    free : IsIn n p → ⊥
    free inside = new_block_outside v u n seat grown held fresh p own_v inside

    outside : (word : ℕ) → IsIn n word → word ≢ p
    outside word inside same = free (subst (IsIn n) same inside)

    link : IsLinkOf u (shard_of key) p node_kind
    link = subst (λ q. IsLinkOf u (shard_of key) q node_kind) (sym at) (link_followed u seat key (shard_below key) table before come_to root_is)

    pub publish : MayPublish u (shard_of key) x node_kind
    publish = new n (subst (λ q. LeadsTo (Contains u.held) q n) (sym points) (leads_held u n seat held)) is_fresh

    pub put_left : ((map : Map) → GivesMap u (shard_of key) map → (image : Image) → MixesOwn w image → image p ≡ x
        → IsMapIn w image (shard_of key) (with_key map key value))
        → MayChange (shard_of key) (λ map. with_key map key value) u w
    put_left new_map = record {
      either = λ map gives. either u w seat (shard_of key) key (shard_below key) map gives table before drop come p x y at was may
          (with_key map key value) (new_map map gives);
      only = only_after u w (shard_of key) p x node_kind seat (shard_below key) may kinds_w only link publish;
      table = table_stored (shard_of key) p x u w (λ owned e. link_behind_roots u key table before (shard_of key) seat owned come_to (e ∙ at)) may;
      others = others_after u w (shard_of key) p x node_kind seat (shard_below key) may kinds_w only link publish;
    }

    pub put_done : ((map : Map) → GivesMap u (shard_of key) map → (image : Image) → MixesOwn w image → image p ≡ x
        → IsMapIn w image (shard_of key) (with_key map key value)) → IsDurableAt w p x
        → Changes (shard_of key) (λ map. with_key map key value) u w
    put_done new_map settled = record {
      gives = λ map gives. exactly u w seat (shard_of key) key (shard_below key) map gives table before drop come p x y at was may
          (with_key map key value) (new_map map gives) settled;
    }

    -- a key that wasn't there
    pub new_key : drop ≡ [] → ((map : Map) → GivesMap u (shard_of key) map → map key ≡ None) → (map : Map) → GivesMap u (shard_of key) map
        → (image : Image) → MixesOwn w image → image p ≡ x → IsMapIn w image (shard_of key) (with_key map key value)
    new_key empty none map gives = put_new u w seat (shard_of key) key
        (shard_below key) map gives table before drop come p x y at was may n value next held not_table free outside
        (λ image mixes. node_in u image n key next value mixes held node key_is next_is) points behind behind_own empty (none map gives)

    -- a key whose node is replaced
    pub old_key : (b : Block) → drop ≡ b ∷ [] → IsDurableAt u (b.first_word + 1) key → IsOwn u.held u.roots (b.first_word + 1) → (map : Map)
        → GivesMap u (shard_of key) map
        → (image : Image) → MixesOwn w image → image p ≡ x → IsMapIn w image (shard_of key) (with_key map key value)
    old_key b one key_there own map gives = put_over u w seat (shard_of key) key
        (shard_below key) map gives table before drop come p x y at was may n value next held not_table free outside
        (λ image mixes. node_in u image n key next value mixes held node key_is next_is) points behind behind_own b one key_there own
