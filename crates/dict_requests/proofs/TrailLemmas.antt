-- What the links of a trail tell of the chain of its bucket, in every mixture and as loads see it.
use Rattle.std.proofs.Common.{◌≡◌, ℕ, ◌+◌, ◌*◌, ◌<◌, ◌⊎◌, inl, inr, List, [], ◌∷◌, ◌++◌, Option, None, Some, Contains, refl, subst, sym, ◌∙◌, arith}
use Rattle.std.specs.Prelude.{nat_eq, ◌/◌}
use Rattle.std.proofs.Math.Nat.{mod-lt}
use Rattle.std.proofs.lemmas.Bool.{cond-true, eq-eqb}
use Rattle.heap_model.specs.declared.block.Block.{Block}
use Rattle.heap_model.specs.Image.{Image}
use Rattle.heap_model.specs.Geometry.{root_word}
use Rattle.heap_model.proofs.ReachLemmas.{not_null}
use Rattle.heap_seat.specs.View.{View}
use Rattle.heap_seat.specs.Words.{IsOwn, in_block, in_root, MayBe, MayRead, MixesOwn, KeepsWord, IsDurable}
use Rattle.heap_seat.specs.Rows.{Settles}
use Rattle.heap_seat.specs.Sound.{IsSeat}
use Rattle.heap_seat.proofs.CallerLemmas.{durable_in, stays_durable}
use Rattle.dict_model.specs.Nodes.{buckets, shard_of, bucket_of, find}
use Rattle.dict_model.specs.Shards.{Map, LeadsTo, is_empty, has_table, HasTable, HasChains, but, link_behind, map_of}
use Rattle.dict_model.proofs.ShardLemmas.{one_map}
use Rattle.dict_model.proofs.PlacedLemmas.{held_once}
use Rattle.dict_model.proofs.ChainLemmas.{Leads_along, extends, behind_both}
use Rattle.dict_requests.specs.Reached.{Reading}
use Rattle.dict_requests.specs.Maps.{IsMapIn, GivesMap}
use Rattle.dict_requests.specs.Trails.{pointer_to, IsDurableAt, IsSettling, Trail, Completes, HasCome}
use Rattle.dict_requests.proofs.GrownLemmas.{Grown, are_placed, own_grown, mixes_grown}

-- what loads see of each word, and 0 where that is not known
abbrev or_null : Option ℕ → ℕ
or_null None = 0
or_null (Some value) = value

pub now_image : View → Image
now_image v word = or_null (v.volatile word)

or_null_may : (known : Option ℕ) → MayBe known (or_null known)
or_null_may None = tt
or_null_may (Some value) = refl

or_null_is : (known : Option ℕ) (value : ℕ) → known ≡ Some value → or_null known ≡ value
or_null_is None value e = absurd (cc)
or_null_is (Some x) value e = cc

pub now_completes : (v : View) → Completes v (now_image v)
unfolding now_image
now_completes v = record {
  mixes = record { each = λ word own. inl (or_null_may (v.volatile word)) };
  seen = λ word value own e. or_null_is (v.volatile word) value e;
}

pub now_may : (v : View) (word : ℕ) → MayRead v word (now_image v word)
unfolding now_image
now_may v word = inl (or_null_may (v.volatile word))

-- an image that has what is seen later has what was seen before
pub completes_before : (v w : View) (image : Image) → Grown v w → Completes w image → Completes v image
completes_before v w image grown completes = record {
  mixes = mixes_grown v w grown image completes.mixes;
  seen = λ word value own e. completes.seen word value (own_grown v w word grown own) ((grown.words word own).volatile value e);
}

-- the first words of held blocks, and the buckets of a held table, are own
pub first_own : (v : View) (b : Block) → IsSeat v → Contains v.held b → IsOwn v.held v.roots b.first_word
first_own v b seat h = in_block b b.first_word h (record { from = omega arith; until = let some = (seat.placed b h).some in omega arith })

pub bucket_own : (v : View) (table : Block) (k : ℕ) → Contains v.held table → table.words ≡ buckets → k < buckets
    → IsOwn v.held v.roots (table.first_word + k)
bucket_own v table k h size below = in_block table (table.first_word + k) h (record { from = omega arith; until = omega arith })

pub bucket_below : (key : ℕ) → bucket_of key < buckets
bucket_below key = mod-lt (key / 8) (omega arith)

-- a trail stays where its words do
pub trail_stays : (reads other : Reading) (v : View) (held : List Block) → IsSeat v → ((b : Block) → Contains v.held b → Contains held b)
    → ((word value : ℕ) → IsOwn v.held v.roots word → reads word value → other word value) → (at : ℕ) (bs : List Block) → IsOwn v.held v.roots at
    → Trail reads v.held at bs → Trail other held at bs
trail_stays reads other v held seat keeps stays at [] own trail = tt
trail_stays reads other v held seat keeps stays at (b ∷ bs) own trail = (
  keeps b trail.0,
  stays at (pointer_to b) own trail.1,
  trail_stays reads other v held seat keeps stays b.first_word bs
      (first_own v b seat trail.0) trail.2,
)

-- one more block
pub trail_more : (reads : Reading) (held : List Block) (at : ℕ) (bs : List Block) (b : Block) → Trail reads held at bs → Contains held b
    → reads (link_behind at bs) (pointer_to b)
    → Trail reads held at (bs ++ (b ∷ []))
trail_more reads held at [] b trail h read = (h, read, tt)
trail_more reads held at (c ∷ bs) b trail h read = (trail.0, trail.1, trail_more reads held c.first_word bs b trail.2 h read)

pub behind_more : (at : ℕ) (bs : List Block) (b : Block) → link_behind at (bs ++ (b ∷ [])) ≡ b.first_word
behind_more at bs b = behind_both at bs (b ∷ [])

-- a pointer to a held block leads to it
pub leads_held : (v : View) (b : Block) → IsSeat v → Contains v.held b → LeadsTo (Contains v.held) (pointer_to b) b
leads_held v b seat h = (h, record { tagged = refl; short = let s = (seat.placed b h).short in omega arith })

-- in an image with the values of its links, a trail leads along its blocks
pub along : (reads : Reading) (v : View) (image : Image) → IsSeat v
    → ((word value : ℕ) → IsOwn v.held v.roots word → reads word value → image word ≡ value)
    → (at : ℕ) (bs : List Block) → IsOwn v.held v.roots at → Trail reads v.held at bs → Leads_along (LeadsTo (Contains v.held)) image at bs
along reads v image seat is at [] own trail = tt
along reads v image seat is at (b ∷ bs) own trail = (
  subst (λ w. LeadsTo (Contains v.held) w b) (sym (is at (pointer_to b) own trail.1)) (leads_held v b seat trail.0),
  along reads v image seat is b.first_word bs (first_own v b seat trail.0) trail.2,
)

pub settled_in : (v : View) (image : Image) → MixesOwn v image → (word value : ℕ) → IsOwn v.held v.roots word → IsDurableAt v word value
    → image word ≡ value
settled_in v image mixes word value own settled = durable_in v word value image own settled.seen settled.left mixes

pub settling_in : (v : View) (image : Image) → Completes v image → (word value : ℕ) → IsOwn v.held v.roots word → IsSettling v word value
    → image word ≡ value
settling_in v image completes word value own settling = completes.seen word value own settling.seen

-- what is known of the shard in an image that has the values of a trail: the chain of the bucket begins with its blocks
pub record IsAlong (v : View) (image : Image) (shard key : ℕ) (map : Map) (table : Block) (before : List Block) : Type 0 where
  pub nodes : ℕ → List Block
  pub there : HasTable (LeadsTo (Contains v.held)) image shard table
  pub chains : HasChains (LeadsTo (Contains v.held)) image shard table buckets nodes
  pub means : (q : ℕ) → map q ≡ map_of image shard nodes q
  pub rest : List Block
  pub is : nodes (bucket_of key) ≡ before ++ rest

module _ (reads : View → Reading) (v : View) (image : Image) (seat : IsSeat v) (shard key : ℕ) (map : Map) (table : Block) (before : List Block)
    (is : (word value : ℕ) → IsOwn v.held v.roots word → reads v word value → image word ≡ value) (come : HasCome reads v shard key table before) where
  root_leads : LeadsTo (Contains v.held) (image (root_word shard)) table
  root_leads = subst (λ w. LeadsTo (Contains v.held) w table) (sym
      (is (root_word shard) (pointer_to table) (in_root shard (root_word shard) come.owned refl) come.root)) (leads_held v table seat come.held_table)

  pub is_along : IsMapIn v image shard map → IsAlong v image shard key map table before
  is_along (is_empty null none) = absurd (not_null (image (root_word shard)) (8 * table.first_word) root_leads.1 null)
  is_along (has_table t nodes there chains means) =
      let once = held_once (Contains v.held) (are_placed v seat) in
      let same : t ≡ table = once.one (image (root_word shard)) t table there.leads_there root_leads in
      let own = bucket_own v table (bucket_of key) come.held_table come.size (bucket_below key) in
      let chains' = subst (λ (b : Block). HasChains (LeadsTo (Contains v.held)) image shard b buckets nodes) same chains in
      let more = extends (LeadsTo (Contains v.held)) (but table (LeadsTo (Contains v.held))) once (λ word b leads. leads.0) image shard
      (bucket_of key) (table.first_word + bucket_of key) before
      (nodes (bucket_of key)) (along (reads v) v image seat is (table.first_word + bucket_of key) before own come.trail)
      (chains' (bucket_of key) (bucket_below key)) in
      record {
        nodes = nodes;
        there = subst (λ (b : Block). HasTable (LeadsTo (Contains v.held)) image shard b) same there;
        chains = chains';
        means = means;
        rest = more.0;
        is = more.1;
      }

-- a map at its key is what is found in the bucket
pub found_at : (map : Map) (image : Image) (shard key : ℕ) (nodes : ℕ → List Block) → ((q : ℕ) → map q ≡ map_of image shard nodes q)
    → shard_of key ≡ shard
    → map key ≡ find image key (nodes (bucket_of key))
found_at map image shard key nodes means in_shard =
    means key ∙ cond-true (nat_eq (shard_of key) shard) (find image key (nodes (bucket_of key))) None (eq-eqb (shard_of key) shard in_shard)

-- two maps of one seat are one
pub same_map : (v : View) → IsSeat v → (shard : ℕ) (a b : Map) → GivesMap v shard a → GivesMap v shard b → (q : ℕ) → a q ≡ b q
same_map v seat shard a b p q =
    let now = now_completes v in
    one_map (LeadsTo (Contains v.held)) (held_once (Contains v.held) (are_placed v seat)) (now_image v) shard a b
    (p.each (now_image v) now.mixes) (q.each (now_image v) now.mixes)

-- settled and settling words over calls that don't store to them
pub settled_stays : (v w : View) (word value : ℕ) → KeepsWord v w word → IsDurableAt v word value → IsDurableAt w word value
settled_stays v w word value keeps settled = record {
  seen = keeps.volatile value settled.seen;
  left = stays_durable v w word value keeps settled.seen settled.left;
}

pub settling_stays : (v w : View) (word value : ℕ) → KeepsWord v w word → (Contains v.pending word → Contains w.pending word ⊎ IsDurable w word)
    → IsSettling v word value → IsSettling w word value
settling_stays v w word value keeps pending settling = record {
  seen = keeps.volatile value settling.seen;
  coming = elim settling.coming as (λ _. Contains w.pending word ⊎ (w.durable word ≡ Some value)) [
    | inl p ↦ elim (pending p) as (λ _. Contains w.pending word ⊎ (w.durable word ≡ Some value)) [
      | inl still ↦ inl still
      | inr durable ↦
          let seen = keeps.volatile value settling.seen in
          let known = durable.seen in
          let left = durable.left in
          inr (cc)
    ]
    | inr left ↦ inr (stays_durable v w word value keeps settling.seen left)
  ];
}

-- a fence settles them
pub settles : (v w : View) (word value : ℕ) → IsOwn v.held v.roots word → KeepsWord v w word → Settles v w → IsSettling v word value
    → IsDurableAt w word value
settles v w word value own keeps all settling = record {
  seen = keeps.volatile value settling.seen;
  left = elim settling.coming as (λ _. w.durable word ≡ Some value) [
    | inl p ↦
        let durable = all.each word own p in
        let seen = keeps.volatile value settling.seen in
        let known = durable.seen in
        let left = durable.left in
        cc
    | inr left ↦ stays_durable v w word value keeps settling.seen left
  ];
}

-- a place on the way stays one
pub come_stays : (reads other : View → Reading) (v w : View) (shard key : ℕ) (table : Block) (before : List Block) → IsSeat v → Grown v w
    → ((word value : ℕ) → IsOwn v.held v.roots word → reads v word value → other w word value) → HasCome reads v shard key table before
    → HasCome other w shard key table before
come_stays reads other v w shard key table before seat grown stays come = record {
  owned = subst (λ (rs : List ℕ). Contains rs shard) (sym grown.roots) come.owned;
  in_shard = come.in_shard;
  held_table = grown.keeps table come.held_table;
  size = come.size;
  root = stays (root_word shard) (pointer_to table) (in_root shard (root_word shard) come.owned refl) come.root;
  trail = trail_stays (reads v) (other w) v w.held seat grown.keeps stays (table.first_word + bucket_of key) before
      (bucket_own v table (bucket_of key) come.held_table come.size (bucket_below key)) come.trail;
}
