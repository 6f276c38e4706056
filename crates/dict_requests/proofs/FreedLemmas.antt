-- What freeing a block leaves that nothing reaches.
use Rattle.std.proofs.Common.{◌≡◌, ◌≢◌, ℕ, ◌+◌, ◌⊎◌, inl, inr, List, [], ◌∷◌, Contains, refl, subst, sym, ◌∙◌, arith}
use Rattle.std.proofs.lemmas.Bool.{cases_lt}
use Rattle.heap_model.specs.declared.block.Block.{Block}
use Rattle.heap_model.specs.Image.{Image}
use Rattle.heap_model.specs.Geometry.{root_word}
use Rattle.heap_model.specs.Blocks.{IsIn}
use Rattle.heap_model.proofs.ReachLemmas.{closure_least}
use Rattle.heap_model.proofs.MemberLemmas.{in_none, head_or_rest}
use Rattle.heap_seat.specs.View.{View, kind_of}
use Rattle.heap_seat.specs.Words.{IsOwn, in_block, in_root, MayRead, MixesOwn}
use Rattle.heap_seat.specs.Free.{MayHaveFreed}
use Rattle.heap_seat.specs.Sound.{IsSeat}
use Rattle.heap_seat.proofs.CallerLemmas.{read_before, keeps_word_then}
use Rattle.dict_model.specs.Links.{table_kind, node_kind, IsLink, in_table, in_node}
use Rattle.dict_model.specs.Shards.{Map, LeadsTo, IsMap, HasTable, IsPath, but}
use Rattle.dict_model.proofs.PlacedLemmas.{ArePlaced, one_holder}
use Rattle.dict_model.proofs.MapLemmas.{IsUsed, as_table, as_node, map_wider, map_stays}
use Rattle.dict_requests.specs.Reached.{MayReach, IsNullOrHeld, ReachesOnlyHeld}
use Rattle.dict_requests.specs.Maps.{IsMapIn, GivesMap, KeepsOtherShards}
use Rattle.dict_requests.proofs.GrownLemmas.{are_placed, kind_kept, link_own, link_in, reached_held, root_reach, link_reach}
use Rattle.dict_requests.proofs.TrailLemmas.{now_image, now_completes, first_own}

-- the word is one of the block's, or it isn't
in_or_out : (b : Block) (word : ℕ) → IsIn b word ⊎ (IsIn b word → ⊥)
in_or_out b word = elim (cases_lt word b.first_word) as (λ _. IsIn b word ⊎ (IsIn b word → ⊥)) [
  | inl before ↦ inr (λ inside. let from = inside.from in omega arith)
  | inr from ↦ elim (cases_lt word (b.first_word + b.words)) as (λ _. IsIn b word ⊎ (IsIn b word → ⊥)) [
    | inl until ↦ inl (record { from = from; until = until })
    | inr behind ↦ inr (λ inside. let until = inside.until in omega arith)
  ]
]

choose : {A B C : Type 0} → A ⊎ B → C → C → C
choose (inl a) x y = x
choose (inr b) x y = y

-- the one image in the block's words, and the other in all others
within : Block → Image → Image → Image
within b inside outside word = choose (in_or_out b word) (inside word) (outside word)

choose_in : {A B C : Type 0} (either : A ⊎ B) (x y : C) → (B → ⊥) → choose either x y ≡ x
unfolding choose
choose_in (inl a) x y none = refl
choose_in (inr b) x y none = absurd (none b)

choose_out : {A B C : Type 0} (either : A ⊎ B) (x y : C) → (A → ⊥) → choose either x y ≡ y
unfolding choose
choose_out (inl a) x y none = absurd (none a)
choose_out (inr b) x y none = refl

within_out : (b : Block) (inside outside : Image) (word : ℕ) → (IsIn b word → ⊥) → within b inside outside word ≡ outside word
unfolding within
within_out b inside outside word out = choose_out (in_or_out b word) (inside word) (outside word) out

within_mixes : (u : View) (b : Block) (inside outside : Image) → MixesOwn u inside
    → ((word : ℕ) → IsOwn u.held u.roots word → (IsIn b word → ⊥) → MayRead u word (outside word))
    → MixesOwn u (within b inside outside)
unfolding within choose
within_mixes u b inside outside mixes others = record { each = λ word own. by_case word own (in_or_out b word) } where
  by_case : (word : ℕ) → IsOwn u.held u.roots word → (either : IsIn b word ⊎ (IsIn b word → ⊥))
      → MayRead u word (choose either (inside word) (outside word))
  by_case word own (inl is) = mixes.each word own
  by_case word own (inr out) = others word own out

module _ (u : View) (shard : ℕ) (root_is : kind_of u shard ≡ table_kind) (owned : Contains u.roots shard) where
  -- what a map of a mixture stands on may be reached
  path_reached : (image : Image) → MixesOwn u image → (table : Block) (k at : ℕ) (bs : List Block)
      → IsPath (but table (LeadsTo (Contains u.held))) image shard k at bs
      → ((c : Block) → LeadsTo (Contains u.held) (image at) c → MayReach u shard c node_kind) → (seat : IsSeat u) → (b : Block) → Contains bs b
      → MayReach u shard b node_kind
  path_reached image mixes table k at [] path start seat b h = absurd (in_none b h)
  path_reached image mixes table k at (c ∷ bs) path start seat b h =
      let first = start c path.0.0 in
      elim (head_or_rest c b bs h) as (λ _. MayReach u shard b node_kind) [
        | inl same ↦ subst (λ (x : Block). MayReach u shard x node_kind) same first
        | inr rest ↦ path_reached image mixes table k c.first_word bs path.3 (λ d leads.
            let some = (seat.placed c path.0.0.0).some in
            let at_zero : c.first_word ≡ c.first_word + 0 = omega arith in
            let is : IsLink node_kind c.words 0 node_kind = in_node c.words some in
            link_reach u shard c d node_kind 0 node_kind (image c.first_word) first is
            (subst (λ w. MayRead u w (image c.first_word)) at_zero (mixes.each c.first_word (first_own u c seat path.0.0.0))) leads) seat b rest
      ]

  table_reached : (image : Image) → MixesOwn u image → (table : Block) → HasTable (LeadsTo (Contains u.held)) image shard table
      → MayReach u shard table (kind_of u shard)
  table_reached image mixes table there =
      root_reach u shard table (kind_of u shard) (image (root_word shard)) owned refl
      (mixes.each (root_word shard) (in_root shard (root_word shard) owned refl)) there.leads_there

  pub used_reached : (seat : IsSeat u) (image : Image) → MixesOwn u image → (b : Block) → IsUsed (LeadsTo (Contains u.held)) image shard b
      → (kind : ℕ) × MayReach u shard b kind
  used_reached seat image mixes b (as_table there) = (kind_of u shard, table_reached image mixes b there)
  used_reached seat image mixes b (as_node table nodes k there chains below h) = (
    node_kind,
    path_reached image mixes table k (table.first_word + k) (nodes k) (chains k below).path
        (λ c leads.
        let is : IsLink (kind_of u shard) table.words k node_kind = subst (λ kind. IsLink kind table.words k node_kind) (sym root_is)
        (in_table table.words k (omega (arith, there.size))) in
        link_reach u shard table c (kind_of u shard) k node_kind (image (table.first_word + k)) (table_reached image mixes table there) is
        (mixes.each (table.first_word + k) (link_own u table (kind_of u shard) k node_kind there.leads_there.0 is)) leads) seat b h,
  )

module _ (u w : View) (b : Block) (seat : IsSeat u) (may : MayHaveFreed b u w) (kinds : w.kinds ≡ u.kinds) (only : ReachesOnlyHeld u)
    (h : Contains u.held b)
    (unreached : (root kind : ℕ) → MayReach u root b kind → ⊥) where
  roots_back : (root : ℕ) → Contains w.roots root → Contains u.roots root
  roots_back root owned = subst (λ (rs : List ℕ). Contains rs root) may.roots owned

  root_out : (root : ℕ) → Contains u.roots root → IsIn b (root_word root) → ⊥
  root_out root owned inside =
      let behind = (seat.placed b h).behind in
      let below = seat.roots_are root owned in
      let from = inside.from in omega arith

  -- a reached block is another, so its words are outside
  other_block : (root : ℕ) (a : Block) (kind : ℕ) → MayReach u root a kind → a ≢ b
  other_block root a kind reached same = unreached root kind (subst (λ (x : Block). MayReach u root x kind) same reached)

  link_out : (root : ℕ) (a : Block) (from position kind : ℕ) → MayReach u root a from → IsLink from a.words position kind
      → IsIn b (a.first_word + position) → ⊥
  link_out root a from position kind reached is inside =
      other_block root a from reached
      (one_holder (Contains u.held) (are_placed u seat) a b (a.first_word + position) (reached_held u root a from reached) h
      (link_in a from position kind is) inside)

  own_back : (word : ℕ) → IsOwn w.held w.roots word → IsOwn u.held u.roots word
  own_back _ (in_block a word ha inside) = in_block a word (may.only a ha) inside
  own_back _ (in_root i word hi is) = in_root i word (roots_back i hi) is

  own_on : (word : ℕ) → IsOwn u.held u.roots word → (IsIn b word → ⊥) → IsOwn w.held w.roots word
  own_on _ (in_block a word ha inside) out = in_block a word (may.keeps a ha (λ same. out (subst (λ (x : Block). IsIn x word) same inside))) inside
  own_on _ (in_root i word hi is) out = in_root i word (subst (λ (rs : List ℕ). Contains rs i) (sym may.roots) hi) is

  pub reached_freed : (root : ℕ) (a : Block) (kind : ℕ) → MayReach w root a kind → MayReach u root a kind
  reached_freed root = closure_least (MayReach u root)
      (λ a kind start.
      let owned = roots_back root start.owned in
      root_reach u root a kind start.value owned (start.kind_is ∙ kind_kept u w root kinds)
      (read_before u w (root_word root) start.value (may.words (root_word root) (in_root root (root_word root) owned refl)
      (root_out root owned)) start.read)
      (may.only a start.leads.0, start.leads.1))
      (λ a c from kind reached has link.
      link_reach u root a c from link.position kind link.value has link.is_link
      (read_before u w (a.first_word + link.position) link.value
      (may.words (a.first_word + link.position) (link_own u a from link.position kind (reached_held u root a from has) link.is_link)
      (link_out root a from link.position kind has link.is_link)) link.read)
      (may.only c link.leads.0, link.leads.1))

  pub only_freed : ReachesOnlyHeld w
  only_freed = record {
    roots = λ root value owned read.
        let was = roots_back root owned in
        let before = read_before u w (root_word root) value (may.words (root_word root) (in_root root (root_word root) was refl)
        (root_out root was)) read in
        elim (only.roots root value was before) as (λ _. IsNullOrHeld w value) [
          | inl null ↦ inl null
          | inr c ↦ inr (
            c.0,
            (
              may.keeps c.0 c.1.0 (other_block root c.0 (kind_of u root)
                  (root_reach u root c.0 (kind_of u root) value was refl before c.1)),
              c.1.1,
            ),
          )
        ];
    links = λ root a from position kind value reached is read.
        let has = reached_freed root a from reached in
        let before = read_before u w (a.first_word + position) value
        (may.words (a.first_word + position) (link_own u a from position kind (reached_held u root a from has) is)
        (link_out root a from position kind has is)) read in
        elim (only.links root a from position kind value has is before) as (λ _. IsNullOrHeld w value) [
          | inl null ↦ inl null
          | inr c ↦ inr (
            c.0,
            (
              may.keeps c.0 c.1.0 (other_block root c.0 kind
                  (link_reach u root a c.0 from position kind value has is before c.1)),
              c.1.1,
            ),
          )
        ];
    alone = λ shard root a kind other small differs p q. only.alone shard root a kind other small differs (reached_freed shard a kind p)
        (reached_freed root a other q);
  }

  -- the map stays: it stands on other blocks
  pub gives_freed : (shard : ℕ) (map : Map) → kind_of u shard ≡ table_kind → Contains u.roots shard → GivesMap u shard map → GivesMap w shard map
  gives_freed shard map root_is owned gives = record { each = λ image mixes. by_image image mixes } where
    kept : Block → Type 0
    kept c = Contains u.held c × (c ≢ b)

    limit : ℕ → Block → Type 0
    limit word c = LeadsTo (Contains u.held) word c × (c ≢ b)

    kept_placed : ArePlaced kept
    kept_placed = record {
      apart = λ a c ha hc. seat.apart a c ha.0 hc.0;
      behind = λ a ha. (seat.placed a ha.0).behind;
      some = λ a ha. (seat.placed a ha.0).some;
    }

    by_image : (image : Image) → MixesOwn w image → IsMapIn w image shard map
    by_image image mixes =
        let old = within b (now_image u) image in
        let now = now_completes u in
        let old_mixes : MixesOwn u old = within_mixes u b (now_image u) image now.mixes
        (λ word own out. read_before u w word (image word) (may.words word own out) (mixes.each word (own_on word own out))) in
        let first : IsMap limit old shard map = map_wider (LeadsTo (Contains u.held)) limit old shard map
        (λ word c used leads. let reached = used_reached u shard root_is owned seat old old_mixes c used in
        (leads, other_block shard c reached.0 reached.1)) (gives.each old old_mixes) in
        let root_same : image (root_word shard) ≡ old (root_word shard) =
        sym (within_out b (now_image u) image (root_word shard) (root_out shard owned)) in
        let second : IsMap limit image shard map = map_stays kept kept_placed limit (λ word c leads. (leads.0.0, leads.1)) old image shard root_same
        (λ c hc word inside. sym (within_out b (now_image u) image word
        (λ in_b. hc.1 (one_holder (Contains u.held) (are_placed u seat) c b word hc.0 h inside in_b)))) map first in
        map_wider limit (LeadsTo (Contains w.held)) image shard map (λ word c used leads. (may.keeps c leads.0.0 leads.1, leads.0.1)) second

-- all else stays where the freed block was one that the shard's root reached
pub others_freed : (shard kind : ℕ) (v u w : View) (b : Block) → IsSeat u → Contains u.held b → MayReach v shard b kind
    → KeepsOtherShards shard v u → MayHaveFreed b u w → w.kinds ≡ u.kinds → KeepsOtherShards shard v w
others_freed shard kind v u w b seat h reached keeps may kinds = record {
  roots = may.roots ∙ keeps.roots;
  kinds = kinds ∙ keeps.kinds;
  root_words = λ root owned differs.
      let here = subst (λ (rs : List ℕ). Contains rs root) (sym keeps.roots) owned in
      keeps_word_then v u w (root_word root) (keeps.root_words root owned differs)
      (may.words (root_word root) (in_root root (root_word root) here refl) (λ inside.
      let behind = (seat.placed b h).behind in
      let below = seat.roots_are root here in
      let from = inside.from in omega arith));
  blocks = λ c hc unreached.
      let before = keeps.blocks c hc unreached in
      let differs : c ≢ b = λ same. unreached kind (subst (λ (x : Block). MayReach v shard x kind) (sym same) reached) in (
        may.keeps c before.0 differs,
        λ word inside. keeps_word_then v u w word (before.1 word inside)
            (may.words word (in_block c word before.0 inside) (λ in_b. differs
            (one_holder (Contains u.held) (are_placed u seat) c b word before.0 h inside in_b))),
      );
}
