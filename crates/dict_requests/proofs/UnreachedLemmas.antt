-- What a shard's root may reach hangs on a chain of some mixture: so a node whose key has gone, or stands in another node, is reached no more.
use Rattle.std.proofs.Common.{◌≡◌, ◌≢◌, ℕ, ◌+◌, ◌*◌, ◌<◌, List, [], ◌∷◌, ◌++◌, None, Some, Contains, refl, ap, subst, sym, ◌∙◌, arith}
use Rattle.std.proofs.lemmas.List.Elements.{Contains-append_left, Contains-append_right}
use Rattle.heap_model.specs.declared.block.Block.{Block}
use Rattle.heap_model.specs.Image.{Image}
use Rattle.heap_model.specs.Counting.{put}
use Rattle.heap_model.specs.Geometry.{root_word}
use Rattle.heap_model.specs.Blocks.{IsIn}
use Rattle.heap_model.proofs.ReachLemmas.{closure_least, not_null}
use Rattle.heap_model.proofs.MemberLemmas.{in_head}
use Rattle.heap_seat.specs.View.{View}
use Rattle.heap_seat.specs.Words.{IsOwn, in_root, MayRead, MixesOwn}
use Rattle.heap_seat.specs.Sound.{IsSeat}
use Rattle.dict_model.specs.Links.{node_kind}
use Rattle.dict_model.specs.Nodes.{buckets, shard_of, bucket_of, key_in, value_in, find}
use Rattle.dict_model.specs.Shards.{Map, Leading, LeadsTo, is_empty, has_table, HasTable, HasChains, IsPath, but, link_behind, map_of}
use Rattle.dict_model.proofs.LinkLemmas.{at_first}
use Rattle.dict_model.proofs.ChainLemmas.{Leads_along, extends, path_left, in_path, found_in, own_key}
use Rattle.dict_model.proofs.PlacedLemmas.{held_once, one_holder, first_in, path_kept}
use Rattle.dict_requests.specs.Maps.{IsMapIn, GivesMap}
use Rattle.dict_requests.specs.Reached.{RootReaches, LinkReaches, MayReach}
use Rattle.dict_requests.specs.Trails.{pointer_to, IsDurableAt, HasCome}
use Rattle.dict_requests.proofs.GrownLemmas.{are_placed, link_inside, link_to}
use Rattle.dict_requests.proofs.PublishLemmas.{put_same, put_other, put_mixes}
use Rattle.dict_requests.proofs.TrailLemmas.{now_image, now_completes, leads_held, settled_in, is_along, found_at, behind_more}

-- a path leads along its nodes
path_along : (table : Block) (leads : Leading) (image : Image) (shard k at : ℕ) (bs : List Block) → IsPath (but table leads) image shard k at bs
    → Leads_along leads image at bs
path_along table leads image shard k at [] path = tt
path_along table leads image shard k at (b ∷ bs) path = (path.0.0, path_along table leads image shard k b.first_word bs path.3)

along_more : (leads : Leading) (image : Image) (at : ℕ) (bs : List Block) (c : Block) → Leads_along leads image at bs
    → leads (image (link_behind at bs)) c → Leads_along leads image at (bs ++ (c ∷ []))
along_more leads image at [] c along there = (there, tt)
along_more leads image at (b ∷ bs) c along there = (along.0, along_more leads image b.first_word bs c along.1 there)

module _ (u : View) (seat : IsSeat u) (shard : ℕ) (map : Map) (gives : GivesMap u shard map) (table : Block) (owned : Contains u.roots shard)
    (table_held : Contains u.held table)
    (size : table.words ≡ buckets) (root : IsDurableAt u (root_word shard) (pointer_to table)) where
  -- the table and the chains of a mixture
  record HasNodes (image : Image) : Type 0 where
    nodes : ℕ → List Block
    there : HasTable (LeadsTo (Contains u.held)) image shard table
    chains : HasChains (LeadsTo (Contains u.held)) image shard table buckets nodes
    means : (q : ℕ) → map q ≡ map_of image shard nodes q

  nodes_of : (image : Image) → MixesOwn u image → HasNodes image
  nodes_of image mixes = by_case (gives.each image mixes) where
    leads : LeadsTo (Contains u.held) (image (root_word shard)) table
    leads = subst (λ w. LeadsTo (Contains u.held) w table) (sym (settled_in u image mixes (root_word shard) (pointer_to table)
        (in_root shard (root_word shard) owned refl) root))
        (leads_held u table seat table_held)

    by_case : IsMapIn u image shard map → HasNodes image
    by_case (is_empty null none) = absurd (not_null (image (root_word shard)) (8 * table.first_word) leads.1 null)
    by_case (has_table t nodes there chains means) =
        let same = (held_once (Contains u.held) (are_placed u seat)).one (image (root_word shard)) t table there.leads_there leads in
        record {
          nodes = nodes;
          there = subst (λ (b : Block). HasTable (LeadsTo (Contains u.held)) image shard b) same there;
          chains = subst (λ (b : Block). HasChains (LeadsTo (Contains u.held)) image shard b buckets nodes) same chains;
          means = means;
        }

  -- a block is the table, or the last node of the begin of a chain of some mixture
  data HangsOn (b : Block) (kind : ℕ) : Type 0 where
    is_table : b ≡ table → HangsOn b kind
    on_chain : kind ≡ node_kind → (k : ℕ) (image : Image) (before : List Block) → k < buckets → MixesOwn u image
        → IsPath (but table (LeadsTo (Contains u.held))) image shard k (table.first_word + k) (before ++ (b ∷ [])) → HangsOn b kind

  -- a mixture whose links lead along the blocks has them at the begin of a chain
  begins : (k : ℕ) (image : Image) (bs : List Block) → k < buckets → MixesOwn u image
      → Leads_along (LeadsTo (Contains u.held)) image (table.first_word + k) bs
      → IsPath (but table (LeadsTo (Contains u.held))) image shard k (table.first_word + k) bs
  begins k image bs below mixes along =
      let has = nodes_of image mixes in
      let more = extends (LeadsTo (Contains u.held)) (but table (LeadsTo (Contains u.held))) (held_once (Contains u.held) (are_placed u seat))
      (λ word b leads. leads.0) image shard k (table.first_word + k) bs
      (has.nodes k) along (has.chains k below) in
      path_left (but table (LeadsTo (Contains u.held))) image shard k (table.first_word + k) bs more.0
      (subst (λ (ys : List Block). IsPath (but table (LeadsTo (Contains u.held))) image shard k (table.first_word + k) ys) more.1
      (has.chains k below).path)

  hangs : (b : Block) (kind : ℕ) → MayReach u shard b kind → HangsOn b kind
  hangs = closure_least HangsOn from_root from_link where
    from_root : (b : Block) (kind : ℕ) → RootReaches (MayRead u) u shard b kind → HangsOn b kind
    from_root b kind start =
        let now = now_completes u in
        let image = put (now_image u) (root_word shard) start.value in
        let mixes : MixesOwn u image = put_mixes u (now_image u) (root_word shard) start.value start.read now.mixes in
        let is : start.value ≡ pointer_to table = sym (put_same (now_image u) (root_word shard) start.value)
        ∙ settled_in u image mixes (root_word shard) (pointer_to table) (in_root shard (root_word shard) owned refl) root in
        is_table ((held_once (Contains u.held) (are_placed u seat)).one (pointer_to table) b table
        (subst (λ w. LeadsTo (Contains u.held) w b) is start.leads) (leads_held u table seat table_held))

    from_link : (a b : Block) (from kind : ℕ) → MayReach u shard a from → HangsOn a from → LinkReaches (MayRead u) u a from b kind → HangsOn b kind
    from_link a b from kind reached (is_table same) link =
        let k = link.position in
        let inside : k < a.words = link_inside from a.words k kind link.is_link in
        let below : k < buckets = subst (λ n. k < n) (ap (λ (t : Block). t.words) same ∙ size) inside in
        let at : a.first_word + k ≡ table.first_word + k = ap (λ (t : Block). t.first_word + k) same in
        let now = now_completes u in
        let image = put (now_image u) (table.first_word + k) link.value in
        let mixes : MixesOwn u image = put_mixes u (now_image u) (table.first_word + k) link.value
        (subst (λ w. MayRead u w link.value) at link.read) now.mixes in
        let leads : LeadsTo (Contains u.held) (image (table.first_word + k)) b =
        subst (λ w. LeadsTo (Contains u.held) w b) (sym (put_same (now_image u) (table.first_word + k) link.value)) link.leads in
        on_chain (link_to from a.words k kind link.is_link) k image [] below mixes (begins k image (b ∷ []) below mixes (leads, tt))
    from_link a b from kind reached (on_chain is_node k old before below mixes path) link =
        let a_is = in_path (but table (LeadsTo (Contains u.held))) old shard k (table.first_word + k) (before ++ (a ∷ [])) a path
        (Contains-append_right before (a ∷ []) a (in_head a [])) in
        let a_held = a_is.0.1.0.0 in
        let first = at_first from a.words link.position kind link.is_link is_node in
        let at : a.first_word + link.position ≡ a.first_word = omega arith in
        let image = put old a.first_word link.value in
        let new : MixesOwn u image = put_mixes u old a.first_word link.value (subst (λ w. MayRead u w link.value) at link.read) mixes in
        let kept = path_kept (Contains u.held) (are_placed u seat) (but table (LeadsTo (Contains u.held)))
        (λ word c leads. leads.0.0) old image a.first_word shard k
        (record { each = λ word other. put_other old a.first_word link.value word other }) (table.first_word + k) (before ++ (a ∷ []))
        (sym (behind_more (table.first_word + k) before a))
        (λ c h e.
        let c_is = (in_path (but table (LeadsTo (Contains u.held))) old shard k (table.first_word + k) (before ++ (a ∷ [])) c path h).0.1 in
        c_is.1 (one_holder (Contains u.held) (are_placed u seat) c table (table.first_word + k) c_is.0.0 table_held
        (subst (IsIn c) (sym e) (first_in (Contains u.held) (are_placed u seat) c c_is.0.0)) (record { from = omega arith; until = omega arith })))
        path in
        let leads : LeadsTo (Contains u.held) (image (link_behind (table.first_word + k) (before ++ (a ∷ [])))) b =
        subst (λ w. LeadsTo (Contains u.held) (image w) b) (sym (behind_more (table.first_word + k) before a))
        (subst (λ w. LeadsTo (Contains u.held) w b) (sym (put_same old a.first_word link.value)) link.leads) in
        on_chain (link_to from a.words link.position kind link.is_link) k image (before ++ (a ∷ [])) below new
        (begins k image ((before ++ (a ∷ [])) ++ (b ∷ [])) below new
        (along_more (LeadsTo (Contains u.held)) image (table.first_word + k) (before ++ (a ∷ [])) b
        (path_along table (LeadsTo (Contains u.held)) image shard k (table.first_word + k) (before ++ (a ∷ [])) kept.0) leads))

  -- what is reached and isn't the table is a node
  pub only_node : (b : Block) (kind : ℕ) → b ≢ table → MayReach u shard b kind → kind ≡ node_kind
  only_node b kind apart reached = by_case (hangs b kind reached) where
    by_case : HangsOn b kind → kind ≡ node_kind
    by_case (is_table same) = absurd (apart same)
    by_case (on_chain is_node k image before below mixes path) = is_node

  -- a node of a key that the map hasn't is reached no more
  pub gone : (b : Block) (key kind : ℕ) → b ≢ table → IsDurableAt u (b.first_word + 1) key → IsOwn u.held u.roots (b.first_word + 1)
      → map key ≡ None → MayReach u shard b kind → ⊥
  gone b key kind apart key_there own none reached = by_case (hangs b kind reached) where
    by_case : HangsOn b kind → ⊥
    by_case (is_table same) = apart same
    by_case (on_chain is_node k image before below mixes path) =
        let has = nodes_of image mixes in
        let leads = but table (LeadsTo (Contains u.held)) in
        let more = extends (LeadsTo (Contains u.held)) (but table (LeadsTo (Contains u.held))) (held_once (Contains u.held) (are_placed u seat))
        (λ word b leads. leads.0) image shard k (table.first_word + k) (before ++ (b ∷ []))
        (has.nodes k) (path_along table (LeadsTo (Contains u.held)) image shard k (table.first_word + k) (before ++ (b ∷ [])) path)
        (has.chains k below) in
        let b_in : Contains (has.nodes k) b = subst (λ (ys : List Block). Contains ys b) (sym more.1)
        (Contains-append_left (before ++ (b ∷ [])) more.0 b (Contains-append_right before (b ∷ []) b (in_head b []))) in
        let is = (in_path (but table (LeadsTo (Contains u.held))) image shard k (table.first_word + k) (has.nodes k) b
        (has.chains k below).path b_in).1 in
        let key_is : key_in image b ≡ key = settled_in u image mixes (b.first_word + 1) key own key_there in
        let found = found_in (but table (LeadsTo (Contains u.held))) image shard k (table.first_word + k) (has.nodes k) b
        (has.chains k below).path b_in in
        let there : map key ≡ Some (value_in image b) =
        found_at map image shard key has.nodes has.means (ap shard_of (sym key_is) ∙ is.in_shard)
        ∙ ap (λ j. find image key (has.nodes j)) (ap bucket_of (sym key_is) ∙ is.in_bucket) ∙ ap (λ q. find image q (has.nodes k)) (sym key_is)
        ∙ found in
        let clash : Some (value_in image b) ≡ None = sym there ∙ none in
        absurd (cc)

  -- a node whose key stands in another one is reached no more
  pub replaced : (b n : Block) (key kind : ℕ) (before : List Block) → b ≢ table → b ≢ n → IsDurableAt u (b.first_word + 1) key
      → IsOwn u.held u.roots (b.first_word + 1)
      → IsDurableAt u (n.first_word + 1) key → IsOwn u.held u.roots (n.first_word + 1)
      → HasCome IsDurableAt u shard key table (before ++ (n ∷ [])) → MayReach u shard b kind → ⊥
  replaced b n key kind ahead apart differs key_there own n_there n_own come reached = by_case (hangs b kind reached) where
    by_case : HangsOn b kind → ⊥
    by_case (is_table same) = apart same
    by_case (on_chain is_node k image before below mixes path) =
        let along = is_along IsDurableAt u image seat shard key map table (ahead ++ (n ∷ [])) (settled_in u image mixes) come
        (gives.each image mixes) in
        let more = extends (LeadsTo (Contains u.held)) (but table (LeadsTo (Contains u.held))) (held_once (Contains u.held) (are_placed u seat))
        (λ word b leads. leads.0) image shard k (table.first_word + k) (before ++ (b ∷ []))
        (along.nodes k) (path_along table (LeadsTo (Contains u.held)) image shard k (table.first_word + k) (before ++ (b ∷ [])) path)
        (along.chains k below) in
        let b_in : Contains (along.nodes k) b = subst (λ (ys : List Block). Contains ys b) (sym more.1)
        (Contains-append_left (before ++ (b ∷ [])) more.0 b (Contains-append_right before (b ∷ []) b (in_head b []))) in
        let is = (in_path (but table (LeadsTo (Contains u.held))) image shard k (table.first_word + k) (along.nodes k) b
        (along.chains k below).path b_in).1 in
        let key_is : key_in image b ≡ key = settled_in u image mixes (b.first_word + 1) key own key_there in
        let n_is : key_in image n ≡ key = settled_in u image mixes (n.first_word + 1) key n_own n_there in
        let bucket : bucket_of key ≡ k = ap bucket_of (sym key_is) ∙ is.in_bucket in
        let n_in_own : Contains (along.nodes (bucket_of key)) n = subst (λ (ys : List Block). Contains ys n) (sym along.is)
        (Contains-append_left (ahead ++ (n ∷ [])) along.rest n (Contains-append_right ahead (n ∷ []) n (in_head n []))) in
        let n_in : Contains (along.nodes k) n = subst (λ j. Contains (along.nodes j) n) bucket n_in_own in
        differs (own_key (but table (LeadsTo (Contains u.held))) image shard k (table.first_word + k) (along.nodes k) b n
        (along.chains k below).path b_in n_in (key_is ∙ sym n_is))
