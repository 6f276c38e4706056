-- What a store to a link leaves that may come or not: what is reached, and all else.
use Rattle.std.proofs.Common.{◌≡◌, ◌≢◌, ℕ, ◌+◌, ◌*◌, ◌<◌, ◌⊎◌, inl, inr, List, Contains, refl, ap, subst, sym, ◌∙◌, arith}
use Rattle.std.specs.Prelude.{nat_eq}
use Rattle.std.proofs.lemmas.Bool.{cases_eq, cond-true, cond-false, ne_eqb, eq-eqb}
use Rattle.heap_model.specs.declared.block.Block.{Block}
use Rattle.heap_model.specs.Image.{Image}
use Rattle.heap_model.specs.Counting.{put}
use Rattle.heap_model.specs.Geometry.{root_word}
use Rattle.heap_model.specs.Blocks.{IsIn}
use Rattle.heap_model.proofs.ReachLemmas.{closure_least, not_null}
use Rattle.heap_seat.specs.View.{View, kind_of}
use Rattle.heap_seat.specs.Words.{IsOwn, in_block, in_root, MayRead, MixesOwn, MayHaveStored}
use Rattle.heap_seat.specs.Sound.{IsSeat}
use Rattle.heap_seat.proofs.CallerLemmas.{read_before, keeps_word_then}
use Rattle.dict_model.specs.Links.{shards, IsLink}
use Rattle.dict_model.specs.Shards.{LeadsTo}
use Rattle.dict_model.proofs.PlacedLemmas.{one_holder, held_once}
use Rattle.dict_model.proofs.ChainLemmas.{SameBut}
use Rattle.dict_requests.specs.Reached.{RootReaches, LinkReaches, MayReach, IsNullOrHeld, ReachesOnlyHeld}
use Rattle.dict_requests.specs.Maps.{KeepsOtherShards}
use Rattle.dict_requests.proofs.GrownLemmas.{are_placed, stays_held, kind_kept, link_to, link_own, link_in, reached_held, root_reach, link_reach}

-- the word is a link that the root may be followed to, and what it leads to is of the kind
pub data IsLinkOf (u : View) (shard : ℕ) (p : ℕ) : ℕ → Type 0 where
  is_root : Contains u.roots shard → p ≡ root_word shard → IsLinkOf u shard p (kind_of u shard)
  is_link : (a : Block) (from position kind : ℕ) → MayReach u shard a from → IsLink from a.words position kind → p ≡ a.first_word + position
      → IsLinkOf u shard p kind

-- a block that nothing reaches yet, and whose links are null or lead to what the root may reach
pub record IsFresh (u : View) (shard : ℕ) (n : Block) (kind : ℕ) : Type 0 where
  pub unreached : (root other : ℕ) → MayReach u root n other → ⊥
  pub links : (position to value : ℕ) → IsLink kind n.words position to → MayRead u (n.first_word + position) value
      → (value ≡ 0) ⊎ ((f : Block) × LeadsTo (Contains u.held) value f × MayReach u shard f to)

-- what may be stored to a link: null, or a pointer to a block that the root may reach or that is fresh
pub data MayPublish (u : View) (shard : ℕ) (value kind : ℕ) : Type 0 where
  no_block : value ≡ 0 → MayPublish u shard value kind
  old : (f : Block) → LeadsTo (Contains u.held) value f → MayReach u shard f kind → MayPublish u shard value kind
  new : (n : Block) → LeadsTo (Contains u.held) value n → IsFresh u shard n kind → MayPublish u shard value kind

-- another value in one word
pub put_same : (image : Image) (p y : ℕ) → put image p y p ≡ y
put_same image p y = cond-true (nat_eq p p) y (image p) (eq-eqb p p refl)

pub put_other : (image : Image) (p y word : ℕ) → word ≢ p → put image p y word ≡ image word
put_other image p y word other = cond-false (nat_eq word p) y (image word) (ne_eqb word p other)

pub same_but_put : (image : Image) (p y : ℕ) → SameBut p (put image p y) image
same_but_put image p y = record { each = λ word other. sym (put_other image p y word other) }

-- a mixture with another value that the word may have is one
pub put_mixes : (u : View) (image : Image) (p y : ℕ) → MayRead u p y → MixesOwn u image → MixesOwn u (put image p y)
put_mixes u image p y may mixes = record {
  each = λ word own. elim (cases_eq word p) as (λ _. MayRead u word (put image p y word)) [
    | inl same ↦ subst (λ w. MayRead u w (put image p y w)) (sym same) (subst (MayRead u p) (sym (put_same image p y)) may)
    | inr other ↦ subst (MayRead u word) (sym (put_other image p y word other)) (mixes.each word own)
  ];
}

module _ (u w : View) (shard p x kind : ℕ) (seat : IsSeat u) (small : shard < shards) (may : MayHaveStored p x u w) (kinds : w.kinds ≡ u.kinds)
    (only : ReachesOnlyHeld u)
    (link : IsLinkOf u shard p kind) (publish : MayPublish u shard x kind) where
  -- the link is the seat's own
  own_link : IsOwn u.held u.roots p
  own_link = by_case kind link where
    by_case : (k : ℕ) → IsLinkOf u shard p k → IsOwn u.held u.roots p
    by_case _ (is_root owned at) = in_root shard p owned at
    by_case _ (is_link a from position k reached is at) = subst (IsOwn u.held u.roots) (sym at)
        (link_own u a from position k (reached_held u shard a from reached) is)

  held_back : (b : Block) → Contains w.held b → Contains u.held b
  held_back b h = subst (λ (bs : List Block). Contains bs b) may.held h

  -- a root at this word is the shard's, and a link there is one of what it reaches
  root_at_link : (root : ℕ) → Contains u.roots root → root_word root ≡ p → (root ≡ shard) × (kind_of u root ≡ kind)
  root_at_link root owned at = by_case kind link where
    by_case : (k : ℕ) → IsLinkOf u shard p k → (root ≡ shard) × (kind_of u root ≡ k)
    by_case _ (is_root owned' at') = let same : root ≡ shard = omega arith in (same, ap (kind_of u) same)
    by_case _ (is_link a from position k reached is at') =
        let behind = (seat.placed a (reached_held u shard a from reached)).behind in
        let below = seat.roots_are root owned in absurd (omega arith)

  pub link_at_link : (root : ℕ) (a : Block) (from position to : ℕ) → MayReach u root a from → IsLink from a.words position to
      → a.first_word + position ≡ p → (root ≡ shard) × (to ≡ kind)
  link_at_link root a from position to reached is at = by_case kind link where
    by_case : (k : ℕ) → IsLinkOf u shard p k → (root ≡ shard) × (to ≡ k)
    by_case _ (is_root owned at') =
        let behind = (seat.placed a (reached_held u root a from reached)).behind in absurd (omega arith)
    by_case _ (is_link h from' position' k reached' is' at') =
        let same = one_holder (Contains u.held) (are_placed u seat) a h p (reached_held u root a from reached) (reached_held u shard h from' reached')
        (subst (IsIn a) at (link_in a from position to is)) (subst (IsIn h) (sym at') (link_in h from' position' k is')) in
        let one : root ≡ shard = elim (cases_eq root shard) as (λ _. root ≡ shard) [
          | inl e ↦ e
          | inr differs ↦ absurd (only.alone shard root h from' from small (λ e. differs (sym e)) reached'
              (subst (λ (b : Block). MayReach u root b from) same reached))
        ] in
        (one, link_to from a.words position to is ∙ sym (link_to from' h.words position' k is'))

  -- the block that is newly reached
  pub record IsNew (b : Block) (k : ℕ) : Type 0 where
    pub leads : LeadsTo (Contains u.held) x b
    pub kind_is : k ≡ kind
    pub fresh : IsFresh u shard b kind

  -- its words are none of the link
  not_new_link : (b : Block) (k position to : ℕ) → IsNew b k → IsLink k b.words position to → b.first_word + position ≢ p
  not_new_link b k position to is_new is at = by_case kind link where
    by_case : (k : ℕ) → IsLinkOf u shard p k → ⊥
    by_case _ (is_root owned at') = let behind = (seat.placed b is_new.leads.0).behind in omega arith
    by_case _ (is_link h from' position' j reached' is' at') =
        let same = one_holder (Contains u.held) (are_placed u seat) b h p is_new.leads.0 (reached_held u shard h from' reached')
        (subst (IsIn b) at (link_in b k position to is)) (subst (IsIn h) (sym at') (link_in h from' position' j is')) in
        is_new.fresh.unreached shard from' (subst (λ (c : Block). MayReach u shard c from') (sym same) reached')

  -- what the stored value leads to
  by_value : (b : Block) (k root : ℕ) → root ≡ shard → k ≡ kind → LeadsTo (Contains u.held) x b → MayReach u root b k ⊎ ((root ≡ shard) × IsNew b k)
  by_value b k root is_shard is_kind leads = by_case publish where
    by_case : MayPublish u shard x kind → MayReach u root b k ⊎ ((root ≡ shard) × IsNew b k)
    by_case (no_block e) = absurd (not_null x (8 * b.first_word) leads.1 e)
    by_case (old f to_f reached) =
        let same = (held_once (Contains u.held) (are_placed u seat)).one x f b to_f leads in
        inl (subst (λ r. MayReach u r b k) (sym is_shard) (subst (λ j. MayReach u shard b j) (sym is_kind)
        (subst (λ (c : Block). MayReach u shard c kind) same reached)))
    by_case (new n to_n fresh) =
        let same = (held_once (Contains u.held) (are_placed u seat)).one x n b to_n leads in
        inr (is_shard, record { leads = leads; kind_is = is_kind; fresh = subst (λ (c : Block). IsFresh u shard c kind) same fresh })

  -- what is reached afterwards was reached before, or is new
  pub reached_after : (root : ℕ) (b : Block) (k : ℕ) → MayReach w root b k → MayReach u root b k ⊎ ((root ≡ shard) × IsNew b k)
  reached_after root = closure_least (λ b k. MayReach u root b k ⊎ ((root ≡ shard) × IsNew b k)) from_root from_link where
    from_root : (b : Block) (k : ℕ) → RootReaches (MayRead w) w root b k → MayReach u root b k ⊎ ((root ≡ shard) × IsNew b k)
    from_root b k start =
        let owned = subst (λ (rs : List ℕ). Contains rs root) may.roots start.owned in
        let leads : LeadsTo (Contains u.held) start.value b = (held_back b start.leads.0, start.leads.1) in
        let kind_is = start.kind_is ∙ kind_kept u w root kinds in
        let before = λ (read : MayRead u (root_word root) start.value). root_reach u root b k start.value owned kind_is read leads in
        elim (cases_eq (root_word root) p) as (λ _. MayReach u root b k ⊎ ((root ≡ shard) × IsNew b k)) [
          | inl at ↦ elim (may.stored start.value (subst (λ q. MayRead w q start.value) at start.read)) as
              (λ _. MayReach u root b k ⊎ ((root ≡ shard) × IsNew b k)) [
                | inl stored ↦
                    let is = root_at_link root owned at in
                    by_value b k root is.0 (kind_is ∙ is.1) (subst (λ v. LeadsTo (Contains u.held) v b) stored leads)
                | inr read ↦ inl (before (subst (λ q. MayRead u q start.value) (sym at) read))
              ]
          | inr other ↦ inl (before (read_before u w (root_word root) start.value
              (may.others (root_word root) (in_root root (root_word root) owned refl) other) start.read))
        ]

    from_link : (a b : Block) (from k : ℕ) → MayReach w root a from → MayReach u root a from ⊎ ((root ≡ shard) × IsNew a from)
        → LinkReaches (MayRead w) w a from b k
        → MayReach u root b k ⊎ ((root ≡ shard) × IsNew b k)
    from_link a b from k reached (inl has) l =
        let leads : LeadsTo (Contains u.held) l.value b = (held_back b l.leads.0, l.leads.1) in
        let before = λ (read : MayRead u (a.first_word + l.position) l.value).
        link_reach u root a b from l.position k l.value has l.is_link read leads in
        elim (cases_eq (a.first_word + l.position) p) as (λ _. MayReach u root b k ⊎ ((root ≡ shard) × IsNew b k)) [
          | inl at ↦ elim (may.stored l.value (subst (λ q. MayRead w q l.value) at l.read)) as
              (λ _. MayReach u root b k ⊎ ((root ≡ shard) × IsNew b k)) [
                | inl stored ↦
                    let is = link_at_link root a from l.position k has l.is_link at in
                    by_value b k root is.0 is.1 (subst (λ v. LeadsTo (Contains u.held) v b) stored leads)
                | inr read ↦ inl (before (subst (λ q. MayRead u q l.value) (sym at) read))
              ]
          | inr other ↦ inl (before (read_before u w (a.first_word + l.position) l.value
              (may.others (a.first_word + l.position) (link_own u a from l.position k (reached_held u root a from has) l.is_link) other) l.read))
        ]
    from_link a b from k reached (inr has) l =
        let is_link : IsLink kind a.words l.position k = subst (λ j. IsLink j a.words l.position k) has.1.kind_is l.is_link in
        let read = read_before u w (a.first_word + l.position) l.value
        (may.others (a.first_word + l.position) (link_own u a from l.position k has.1.leads.0 l.is_link)
        (not_new_link a from l.position k has.1 l.is_link)) l.read in
        elim (has.1.fresh.links l.position k l.value is_link read) as (λ _. MayReach u root b k ⊎ ((root ≡ shard) × IsNew b k)) [
          | inl null ↦ absurd (not_null l.value (8 * b.first_word) l.leads.1 null)
          | inr f ↦
              let same = (held_once (Contains u.held) (are_placed u seat)).one l.value f.0 b f.1 (held_back b l.leads.0, l.leads.1) in
              inl (subst (λ r. MayReach u r b k) (sym has.0) (subst (λ (c : Block). MayReach u shard c k) same f.2))
        ]

  null_or_held_on : (value : ℕ) → IsNullOrHeld u value → IsNullOrHeld w value
  null_or_held_on value (inl null) = inl null
  null_or_held_on value (inr leads) = inr (leads.0, (stays_held u w may.held leads.0 leads.1.0, leads.1.1))

  published_value : IsNullOrHeld w x
  published_value = by_case publish where
    by_case : MayPublish u shard x kind → IsNullOrHeld w x
    by_case (no_block e) = inl e
    by_case (old f to_f reached) = inr (f, (stays_held u w may.held f to_f.0, to_f.1))
    by_case (new n to_n fresh) = inr (n, (stays_held u w may.held n to_n.0, to_n.1))

  -- what any of the seat's own words holds afterwards, where it held null or a pointer before
  value_after : (word value : ℕ) → IsOwn u.held u.roots word → MayRead w word value → (MayRead u word value → IsNullOrHeld u value)
      → IsNullOrHeld w value
  value_after word value own read before = elim (cases_eq word p) as (λ _. IsNullOrHeld w value) [
    | inl at ↦ elim (may.stored value (subst (λ q. MayRead w q value) at read)) as (λ _. IsNullOrHeld w value) [
      | inl stored ↦ subst (IsNullOrHeld w) (sym stored) published_value
      | inr was ↦ null_or_held_on value (before (subst (λ q. MayRead u q value) (sym at) was))
    ]
    | inr other ↦ null_or_held_on value (before (read_before u w word value (may.others word own other) read))
  ]

  -- still only held blocks are reached, and each from one root
  pub only_after : ReachesOnlyHeld w
  only_after = record {
    roots = λ root value owned read.
        let was = subst (λ (rs : List ℕ). Contains rs root) may.roots owned in
        value_after (root_word root) value (in_root root (root_word root) was refl) read (only.roots root value was);
    links = λ root a from position to value reached is read.
        elim (reached_after root a from reached) as (λ _. IsNullOrHeld w value) [
          | inl has ↦ value_after (a.first_word + position) value (link_own u a from position to (reached_held u root a from has) is) read
              (only.links root a from position to value has is)
          | inr has ↦
              let is_link : IsLink kind a.words position to = subst (λ j. IsLink j a.words position to) has.1.kind_is is in
              let was = read_before u w (a.first_word + position) value
              (may.others (a.first_word + position) (link_own u a from position to has.1.leads.0 is) (not_new_link a from position to has.1 is)) read in
              elim (has.1.fresh.links position to value is_link was) as (λ _. IsNullOrHeld w value) [
                | inl null ↦ inl null
                | inr f ↦ inr (f.0, (stays_held u w may.held f.0 f.1.0, f.1.1))
              ]
        ];
    alone = λ one root b k other small_one differs reached_one reached_root.
        elim (reached_after one b k reached_one) as (λ _. ⊥) [
          | inl a ↦ elim (reached_after root b other reached_root) as (λ _. ⊥) [
            | inl c ↦ only.alone one root b k other small_one differs a c
            | inr c ↦ c.1.fresh.unreached one k a
          ]
          | inr a ↦ elim (reached_after root b other reached_root) as (λ _. ⊥) [
            | inl c ↦ a.1.fresh.unreached root other c
            | inr c ↦ differs (a.0 ∙ sym c.0)
          ]
        ];
  }

  -- all that the shard's root may not reach stays as it is
  pub others_after : KeepsOtherShards shard u w
  others_after = record {
    roots = may.roots;
    kinds = kinds;
    root_words = λ root owned differs. may.others (root_word root) (in_root root (root_word root) owned refl)
        (λ at. differs (root_at_link root owned at).0);
    blocks = λ b h unreached. (
      stays_held u w may.held b h,
      λ word inside. may.others word (in_block b word h inside)
          (λ at. elsewhere b h unreached word inside at),
    );
  } where
    elsewhere : (b : Block) → Contains u.held b → ((k : ℕ) → MayReach u shard b k → ⊥) → (word : ℕ) → IsIn b word → word ≡ p → ⊥
    elsewhere b h unreached word inside at = by_case kind link where
      by_case : (k : ℕ) → IsLinkOf u shard p k → ⊥
      by_case _ (is_root owned at') =
          let behind = (seat.placed b h).behind in
          let from = inside.from in omega arith
      by_case _ (is_link a from position j reached is at') =
          let same = one_holder (Contains u.held) (are_placed u seat) b a p h (reached_held u shard a from reached)
          (subst (IsIn b) at inside) (subst (IsIn a) (sym at') (link_in a from position j is)) in
          unreached from (subst (λ (c : Block). MayReach u shard c from) (sym same) reached)

-- what stays of what others have over two calls
pub others_then : (shard : ℕ) (v u w : View) → ((b : Block) (kind : ℕ) → Contains v.held b → MayReach u shard b kind → MayReach v shard b kind)
    → KeepsOtherShards shard v u → KeepsOtherShards shard u w → KeepsOtherShards shard v w
others_then shard v u w before a b = record {
  roots = b.roots ∙ a.roots;
  kinds = b.kinds ∙ a.kinds;
  root_words = λ root owned differs. keeps_word_then v u w (root_word root) (a.root_words root owned differs)
      (b.root_words root (subst (λ (rs : List ℕ). Contains rs root) (sym a.roots) owned) differs);
  blocks = λ c h unreached.
      let first = a.blocks c h unreached in
      let second = b.blocks c first.0 (λ kind reached. unreached kind (before c kind h reached)) in
      (second.0, λ word inside. keeps_word_then v u w word (first.1 word inside) (second.1 word inside));
}
