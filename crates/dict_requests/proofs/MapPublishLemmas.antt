-- The map of the shard after a store to one of its links: a node put in, put in another's place, or taken out.
use Rattle.std.proofs.Common.{◌≡◌, ◌≢◌, ℕ, ◌+◌, ◌<◌, ◌⊎◌, inl, inr, List, [], ◌∷◌, ◌++◌, append_assoc, append-nil, Option, None, Some, Contains, refl, ap, subst, sym, ◌∙◌, arith}
use Rattle.std.proofs.lemmas.Bool.{cases_eq}
use Rattle.heap_model.specs.declared.block.Block.{Block}
use Rattle.heap_model.specs.Image.{Image}
use Rattle.heap_model.specs.Counting.{put}
use Rattle.heap_model.specs.Blocks.{IsIn}
use Rattle.heap_model.proofs.MemberLemmas.{in_none, in_head, head_or_rest}
use Rattle.heap_seat.specs.View.{View}
use Rattle.heap_seat.specs.Words.{IsOwn, MayBe, MayRead, MixesOwn, MayHaveStored}
use Rattle.heap_seat.specs.Sound.{IsSeat}
use Rattle.heap_seat.proofs.CallerLemmas.{read_before, own_same}
use Rattle.dict_model.specs.Links.{shards}
use Rattle.dict_model.specs.Nodes.{bucket_of, key_in, value_in, IsNode, find}
use Rattle.dict_model.specs.Requests.{with_key, without_key}
use Rattle.dict_model.specs.Shards.{Map, LeadsTo, IsMap, IsPath, but, link_behind}
use Rattle.dict_model.proofs.ChainLemmas.{node_same, behind_is, none_of, not_of, path_cross, path_right, find_in_none}
use Rattle.dict_model.proofs.SpliceLemmas.{put_node, take_node}
use Rattle.dict_model.proofs.PlacedLemmas.{first_in}
use Rattle.dict_requests.specs.Maps.{IsMapIn, GivesMap, GivesEither}
use Rattle.dict_requests.specs.Reached.{Reading}
use Rattle.dict_requests.specs.Trails.{pointer_to, IsDurableAt, Trail, HasCome}
use Rattle.dict_requests.proofs.GrownLemmas.{are_placed}
use Rattle.dict_requests.proofs.PublishLemmas.{put_same, put_other, same_but_put}
use Rattle.dict_requests.proofs.TrailLemmas.{first_own, bucket_own, bucket_below, leads_held, settled_in, IsAlong, is_along, found_at}

-- what loads see may be read
pub seen_read : (v : View) (word value : ℕ) → v.volatile word ≡ Some value → MayRead v word value
seen_read v word value seen = inl (by_case (v.volatile word) seen) where
  by_case : (known : Option ℕ) → known ≡ Some value → MayBe known value
  by_case None e = tt
  by_case (Some x) e = cc

-- the blocks of a trail are held
pub trail_held : (reads : Reading) (held : List Block) (at : ℕ) (bs : List Block) (b : Block) → Trail reads held at bs → Contains bs b → Contains held b
trail_held reads held at [] b trail h = absurd (in_none b h)
trail_held reads held at (c ∷ bs) b trail h = elim (head_or_rest c b bs h) as (λ _. Contains held b) [
  | inl same ↦ subst (Contains held) same trail.0
  | inr rest ↦ trail_held reads held c.first_word bs b trail.2 rest
]

-- the link behind a trail is the seat's own
pub behind_own : (reads : View → Reading) (v : View) (shard key : ℕ) (table : Block) (before : List Block) → IsSeat v
    → HasCome reads v shard key table before
    → IsOwn v.held v.roots (link_behind (table.first_word + bucket_of key) before)
behind_own reads v shard key table before seat come =
    elim (behind_is (table.first_word + bucket_of key) before) as (λ _. IsOwn v.held v.roots (link_behind (table.first_word + bucket_of key) before)) [
      | inl only ↦ subst (IsOwn v.held v.roots) (sym only.1) (bucket_own v table (bucket_of key) come.held_table come.size (bucket_below key))
      | inr last ↦ subst (IsOwn v.held v.roots) (sym last.2) (first_own v last.0 seat
          (trail_held (reads v) v.held (table.first_word + bucket_of key) before last.0 come.trail last.1))
    ]

-- the first part of a trail is one
pub trail_left : (reads : Reading) (held : List Block) (at : ℕ) (xs ys : List Block) → Trail reads held at (xs ++ ys) → Trail reads held at xs
trail_left reads held at [] ys trail = tt
trail_left reads held at (x ∷ xs) ys trail = (trail.0, trail.1, trail_left reads held x.first_word xs ys trail.2)

pub come_left : (reads : View → Reading) (v : View) (shard key : ℕ) (table : Block) (xs ys : List Block)
    → HasCome reads v shard key table (xs ++ ys) → HasCome reads v shard key table xs
come_left reads v shard key table xs ys come = record {
  owned = come.owned;
  in_shard = come.in_shard;
  held_table = come.held_table;
  size = come.size;
  root = come.root;
  trail = trail_left (reads v) v.held (table.first_word + bucket_of key) xs ys come.trail;
}

-- what a node that is to be put in holds
pub record HoldsNode (image : Image) (shard key : ℕ) (value : List ℕ) (next : ℕ) (n : Block) : Type 0 where
  pub node : IsNode image shard (bucket_of key) n
  pub key_is : key_in image n ≡ key
  pub value_is : value_in image n ≡ value
  pub next_is : image n.first_word ≡ next

module _ (u w : View) (seat : IsSeat u) (shard key : ℕ) (small : shard < shards) (map : Map) (gives : GivesMap u shard map) (table : Block)
    (before drop : List Block)
    (come : HasCome IsDurableAt u shard key table (before ++ drop)) (p x y : ℕ) (at : p ≡ link_behind (table.first_word + bucket_of key) before)
    (was : IsDurableAt u p y)
    (may : MayHaveStored p x u w) where
  own_p : IsOwn u.held u.roots p
  own_p = subst (IsOwn u.held u.roots) (sym at) (behind_own IsDurableAt u shard key table before seat
      (come_left IsDurableAt u shard key table before drop come))

  -- a mixture afterwards, with the old value in the link, is one before
  pub old_mixes : (image : Image) → MixesOwn w image → MixesOwn u (put image p y)
  old_mixes image mixes = record {
    each = λ word own. elim (cases_eq word p) as (λ _. MayRead u word (put image p y word)) [
      | inl same ↦ subst (λ q. MayRead u q (put image p y q)) (sym same) (subst (MayRead u p) (sym (put_same image p y)) (seen_read u p y was.seen))
      | inr other ↦ subst (MayRead u word) (sym (put_other image p y word other))
          (read_before u w word (image word) (may.others word own other) (mixes.each word (own_same u w word may.held may.roots own)))
    ];
  }

  old_along : (image : Image) → MixesOwn w image → IsAlong u (put image p y) shard key map table (before ++ drop)
  old_along image mixes =
      let old = old_mixes image mixes in
      is_along IsDurableAt u (put image p y) seat shard key map table (before ++ drop) (settled_in u (put image p y) old) come
      (gives.each (put image p y) old)

  in_w : (image : Image) (other : Map) → IsMapIn u image shard other → IsMapIn w image shard other
  in_w image other is = subst (λ (held : List Block). IsMap (LeadsTo (Contains held)) image shard other) (sym may.held) is

  -- a mixture in which the link has a value from before is one before
  pub gives_old : (image : Image) → MixesOwn w image → MayRead u p (image p) → IsMapIn w image shard map
  gives_old image mixes read = in_w image map (gives.each image (record {
    each = λ word own. elim (cases_eq word p) as (λ _. MayRead u word (image word)) [
      | inl same ↦ subst (λ q. MayRead u q (image q)) (sym same) read
      | inr other ↦ read_before u w word (image word) (may.others word own other) (mixes.each word (own_same u w word may.held may.roots own))
    ];
  }))

  -- so each mixture gives the one map or the other, and where the link is settled the other
  pub either : (other : Map) → ((image : Image) → MixesOwn w image → image p ≡ x → IsMapIn w image shard other) → GivesEither w shard map other
  either other new = record {
    each = λ image mixes. elim (may.stored (image p) (mixes.each p (own_same u w p may.held may.roots own_p))) as
        (λ _. IsMapIn w image shard map ⊎ IsMapIn w image shard other) [
          | inl stored ↦ inr (new image mixes stored)
          | inr read ↦ inl (gives_old image mixes read)
        ];
  }

  pub exactly : (other : Map) → ((image : Image) → MixesOwn w image → image p ≡ x → IsMapIn w image shard other) → IsDurableAt w p x
      → GivesMap w shard other
  exactly other new settled = record {
    each = λ image mixes. new image mixes
        (settled_in w image mixes p x (own_same u w p may.held may.roots own_p) settled);
  }

  module _ (n : Block) (value : List ℕ) (next : ℕ) (n_held : Contains u.held n) (apart : n ≢ table) (free : IsIn n p → ⊥) (outside : (word : ℕ)
      → IsIn n word → word ≢ p)
      (is_node : (image : Image) → MixesOwn u image → HoldsNode image shard key value next n) (points : x ≡ pointer_to n)
      (link : IsDurableAt u (link_behind p drop) next)
      (own_next : IsOwn u.held u.roots (link_behind p drop)) where
    put_in : (image : Image) (mixes : MixesOwn w image) (along : IsAlong u (put image p y) shard key map table (before ++ drop)) → image p ≡ x
        → find (put image p y) key (before ++ along.rest) ≡ None → ((b : Block) → Contains drop b → key_in (put image p y) b ≡ key)
        → IsMapIn w image shard (with_key map key value)
    put_in image mixes along stored none dropped =
        let old = old_mixes image mixes in
        let is = is_node (put image p y) old in
        let moved = node_same (put image p y) image shard (bucket_of key) n
        (λ word low high. (same_but_put image p y).each word (outside word (record { from = omega arith; until = high }))) is.node in
        let first : image n.first_word ≡ next =
        (same_but_put image p y).each n.first_word (outside n.first_word (first_in (Contains u.held) (are_placed u seat) n n_held)) ∙ is.next_is in
        in_w image (with_key map key value)
        (put_node (Contains u.held) (are_placed u seat) (put image p y) image p shard (bucket_of key) small
        (same_but_put image p y) table along.nodes before drop along.rest (n ∷ [])
        along.there along.chains (bucket_below key) (along.is ∙ append_assoc before drop along.rest) at n key value n_held apart
        (subst (λ v. LeadsTo (Contains u.held) v n) (sym (stored ∙ points)) (leads_held u n seat n_held))
        (first ∙ sym (settled_in u (put image p y) old (link_behind p drop) next own_next link)) moved.0 (moved.1.key ∙ is.key_is)
        (moved.1.value ∙ is.value_is) refl none dropped map along.means)

    -- a key that wasn't there
    pub put_new : drop ≡ [] → map key ≡ None → (image : Image) → MixesOwn w image → image p ≡ x → IsMapIn w image shard (with_key map key value)
    put_new empty missing image mixes stored =
        let along = old_along image mixes in
        let all : along.nodes (bucket_of key) ≡ before ++ along.rest =
        along.is ∙ ap (λ (ds : List Block). (before ++ ds) ++ along.rest) empty ∙ ap (λ (bs : List Block). bs ++ along.rest) (append-nil before) in
        put_in image mixes along stored
        (ap (find (put image p y) key) (sym all) ∙ sym (found_at map (put image p y) shard key along.nodes along.means come.in_shard) ∙ missing)
        (λ b h. absurd (in_none b (subst (λ (bs : List Block). Contains bs b) empty h)))

    -- a node of the key in whose place it is put
    pub put_over : (b : Block) → drop ≡ b ∷ [] → IsDurableAt u (b.first_word + 1) key → IsOwn u.held u.roots (b.first_word + 1)
        → (image : Image) → MixesOwn w image → image p ≡ x → IsMapIn w image shard (with_key map key value)
    put_over b one key_there own image mixes stored =
        let along = old_along image mixes in
        let k = bucket_of key in
        let key_is : key_in (put image p y) b ≡ key = settled_in u (put image p y) (old_mixes image mixes) (b.first_word + 1) key own key_there in
        let all : along.nodes k ≡ before ++ (b ∷ along.rest) = along.is ∙ ap (λ (ds : List Block). (before ++ ds) ++ along.rest) one
        ∙ append_assoc before (b ∷ []) along.rest in
        let path : IsPath (but table (LeadsTo (Contains u.held))) (put image p y) shard k (table.first_word + k) (before ++ (b ∷ along.rest)) =
        subst (λ (bs : List Block). IsPath (but table (LeadsTo (Contains u.held))) (put image p y) shard k (table.first_word + k) bs) all
        (along.chains k (bucket_below key)).path in
        let behind = (path_right (but table (LeadsTo (Contains u.held))) (put image p y) shard k (table.first_word + k) before
        (b ∷ along.rest) path).2 in
        let ahead = none_of (put image p y) key before (λ c h e.
        not_of (put image p y) (key_in (put image p y) c) (b ∷ along.rest) b
        (path_cross (but table (LeadsTo (Contains u.held))) (put image p y) shard k (table.first_word + k) before (b ∷ along.rest) c path h)
        (in_head b along.rest) (key_is ∙ sym e)) in
        put_in image mixes along stored
        (find_in_none (put image p y) key before along.rest ahead (ap (λ q. find (put image p y) q along.rest) (sym key_is) ∙ behind))
        (λ c h. elim (head_or_rest b c [] (subst (λ (bs : List Block). Contains bs c) one h)) as (λ _. key_in (put image p y) c ≡ key) [
          | inl e ↦ ap (key_in (put image p y)) (sym e) ∙ key_is
          | inr none_left ↦ absurd (in_none c none_left)
        ])

  -- a node of the key that is taken out
  pub take_out : (b : Block) → drop ≡ b ∷ [] → IsDurableAt u (b.first_word + 1) key → IsOwn u.held u.roots (b.first_word + 1)
      → IsDurableAt u b.first_word x → IsOwn u.held u.roots b.first_word
      → (image : Image) → MixesOwn w image → image p ≡ x → IsMapIn w image shard (without_key map key)
  take_out b one key_there own next own_first image mixes stored =
      let along = old_along image mixes in
      let old = old_mixes image mixes in
      let key_is : key_in (put image p y) b ≡ key = settled_in u (put image p y) old (b.first_word + 1) key own key_there in
      in_w image (without_key map key)
      (subst (λ q. IsMap (LeadsTo (Contains u.held)) image shard (without_key map q)) key_is
      (take_node (Contains u.held) (are_placed u seat) (put image p y) image p shard (bucket_of key) small
      (same_but_put image p y) table along.nodes before drop along.rest []
      along.there along.chains (bucket_below key) (along.is ∙ append_assoc before drop along.rest) at b
      (stored ∙ sym (settled_in u (put image p y) old b.first_word x own_first next)) one refl map along.means))
