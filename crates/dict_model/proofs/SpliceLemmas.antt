-- A shard in two images that differ in one link: what hangs behind the link is another chain, and the map has another value for one key.
use Rattle.std.proofs.Common.{◌≡◌, ◌≢◌, ℕ, ◌+◌, ◌<◌, ◌⊎◌, inl, inr, List, [], ◌∷◌, ◌++◌, Option, None, Some, Contains, cond, ap, subst, sym, ◌∙◌, arith}
use Rattle.std.specs.Prelude.{nat_eq, ◌/◌}
use Rattle.std.proofs.Math.Nat.{mod-lt}
use Rattle.std.proofs.lemmas.Bool.{cases_eq, cond-true, cond-false, ne_eqb, eq-eqb}
use Rattle.std.proofs.lemmas.List.Elements.{Contains-append_left, Contains-append_right, Contains-append_cases}
use Rattle.heap_model.specs.declared.block.Block.{Block}
use Rattle.heap_model.specs.Image.{Image}
use Rattle.heap_model.specs.Geometry.{root_word}
use Rattle.heap_model.specs.Blocks.{IsIn}
use Rattle.heap_model.proofs.MemberLemmas.{in_none, in_head, head_or_rest}
use Rattle.dict_model.specs.Links.{shards}
use Rattle.dict_model.specs.Nodes.{buckets, shard_of, bucket_of, key_in, value_in, IsNode, find}
use Rattle.dict_model.specs.Shards.{Map, Leading, LeadsTo, link_behind, IsPath, IsBucketChain, HasTable, HasChains, but, map_of, IsMap, has_table}
use Rattle.dict_model.proofs.ShardLemmas.{find_first}
use Rattle.dict_model.proofs.ChainLemmas.{SameBut, SameNode, find_same, not_of, none_of, find_in_none, none_before, none_after, behind_both, behind_is, in_path, path_left, path_right, path_cross, path_both}
use Rattle.dict_model.proofs.PlacedLemmas.{ArePlaced, one_holder, first_in, path_kept, path_moved}
use Rattle.dict_model.proofs.FoundLemmas.{found_alike, chains_with, with_same, with_other}

module _ (held : Block → Type 0) (placed : ArePlaced held) (image other : Image) (p shard k : ℕ) (small : shard < shards)
    (but_p : SameBut p image other) (table : Block)
    (nodes : ℕ → List Block) (before drop rest put : List Block) (there : HasTable (LeadsTo held) image shard table)
    (chains : HasChains (LeadsTo held) image shard table buckets nodes)
    (below : k < buckets) (is : nodes k ≡ before ++ (drop ++ rest)) (at : p ≡ link_behind (table.first_word + k) before) where
  ahead : Leading
  ahead = but table (LeadsTo held)

  into : (word : ℕ) (b : Block) → ahead word b → held b
  unfolding ahead
  into word b leads = leads.0.0

  chain_k : IsBucketChain ahead image shard k (table.first_word + k) (before ++ (drop ++ rest))
  unfolding ahead
  chain_k = subst (λ (bs : List Block). IsBucketChain (but table (LeadsTo held)) image shard k (table.first_word + k) bs) is (chains k below)

  table_held : held table
  table_held = there.leads_there.0

  in_table : (j : ℕ) → j < buckets → IsIn table (table.first_word + j)
  in_table j less = record { from = omega arith; until = omega (arith, there.size) }

  -- a node is held, is not the table, and is one of its bucket
  node_facts : (j : ℕ) (c : Block) → j < buckets → Contains (nodes j) c → held c × (c ≢ table) × IsNode image shard j c
  node_facts j c less h =
      let found = in_path (but table (LeadsTo held)) image shard j (table.first_word + j) (nodes j) c (chains j less).path h in
      (found.0.1.0.0, found.0.1.1, found.1)

  in_k : (c : Block) → Contains (before ++ (drop ++ rest)) c → Contains (nodes k) c
  in_k c h = subst (λ (bs : List Block). Contains bs c) (sym is) h

  -- the changed link is in the table, or it is the last of the nodes before
  holder : ((before ≡ []) × (p ≡ table.first_word + k)) ⊎ ((b : Block) × Contains before b × (p ≡ b.first_word))
  holder = elim (behind_is (table.first_word + k) before) as (λ _. ((before ≡ []) × (p ≡ table.first_word + k)) ⊎ ((b : Block)
      × Contains before b × (p ≡ b.first_word))) [
        | inl only ↦ inl (only.0, at ∙ only.1)
        | inr last ↦ inr (last.0, last.1, at ∙ last.2)
      ]

  -- it is in no node but that
  free : (j : ℕ) (c : Block) → j < buckets → Contains (nodes j) c → ((b : Block) → Contains before b → c ≢ b) → IsIn c p → ⊥
  free j c less h differs inside =
      let c_is = node_facts j c less h in
      elim holder as (λ _. ⊥) [
        | inl first ↦ c_is.1 (one_holder held placed c table p c_is.0 table_held inside (subst (IsIn table) (sym first.1) (in_table k below)))
        | inr last ↦
            let l_is = node_facts k last.0 below (in_k last.0 (Contains-append_left before (drop ++ rest) last.0 last.1)) in
            differs last.0 last.1 (one_holder held placed c last.0 p c_is.0 l_is.0 inside
            (subst (IsIn last.0) (sym last.2) (first_in held placed last.0 l_is.0)))
      ]

  -- nor in another bucket
  free_elsewhere : (j : ℕ) (c : Block) → j < buckets → j ≢ k → Contains (nodes j) c → IsIn c p → ⊥
  free_elsewhere j c less differs h = free j c less h (λ b hb same.
      let c_is = node_facts j c less h in
      let b_is = node_facts k b below (in_k b (Contains-append_left before (drop ++ rest) b hb)) in
      let c_as_b = subst (λ (x : Block). IsNode image shard j x) same c_is.2 in
      differs (sym c_as_b.in_bucket ∙ b_is.2.in_bucket))

  -- nor behind it
  free_behind : (c : Block) → Contains rest c → IsIn c p → ⊥
  free_behind c h =
      let later = Contains-append_right drop rest c h in
      free k c below (in_k c (Contains-append_right before (drop ++ rest) c later)) (λ b hb same.
      not_of image (key_in image b) (drop ++ rest) c (path_cross ahead image shard k (table.first_word + k) before
      (drop ++ rest) b chain_k.path hb) later (ap (key_in image) same))

  root_stays : other (root_word shard) ≡ image (root_word shard)
  root_stays = but_p.each (root_word shard) (λ e. elim holder as (λ _. ⊥) [
    | inl first ↦ omega (arith, placed.behind table table_held, first.1, small)
    | inr last ↦ omega (
      arith,
      placed.behind last.0 (node_facts k last.0 below
          (in_k last.0 (Contains-append_left before (drop ++ rest) last.0 last.1))).0,
      last.2,
      small,
    )
  ])

  there_still : HasTable (LeadsTo held) other shard table
  there_still = record { leads_there = subst (λ w. LeadsTo held w table) (sym root_stays) there.leads_there; size = there.size }

  -- what stays of the nodes before
  before_stays : IsPath ahead other shard k (table.first_word + k) before × ((b : Block) → Contains before b → SameNode image other b)
  before_stays = path_kept held placed ahead into image other p shard k but_p (table.first_word + k) before at
      (λ c h e.
      let c_is = node_facts k c below (in_k c (Contains-append_left before (drop ++ rest) c h)) in
      c_is.1 (one_holder held placed c table (table.first_word + k) c_is.0 table_held (subst (IsIn c) (sym e) (first_in held placed c c_is.0))
      (in_table k below)))
      (path_left ahead image shard k (table.first_word + k) before (drop ++ rest) chain_k.path)

  -- and of those behind, wherever they are hung
  rest_stays : (to : ℕ) → other to ≡ image (link_behind p drop)
      → IsBucketChain ahead other shard k to rest × ((b : Block) → Contains rest b → SameNode image other b)
  rest_stays to same =
      let path_p : IsPath ahead image shard k p (drop ++ rest) = subst (λ w. IsPath ahead image shard k w (drop ++ rest)) (sym at)
      (path_right ahead image shard k (table.first_word + k) before (drop ++ rest) chain_k.path) in
      let path = path_right ahead image shard k p drop rest path_p in
      let moved = path_moved held placed ahead into image other p shard k but_p (link_behind p drop) to rest same free_behind path in
      let ends : image (link_behind (link_behind p drop) rest) ≡ 0 =
      ap image (sym (behind_both p drop rest)) ∙ ap (λ w. image (link_behind w (drop ++ rest))) at
      ∙ ap image (sym (behind_both (table.first_word + k) before (drop ++ rest))) ∙ chain_k.ends in
      (record { path = moved.0; ends = moved.2 ∙ ends }, moved.1)

  -- the chains of the other buckets
  others_stay : (j : ℕ) → j < buckets → j ≢ k → IsBucketChain ahead other shard j (table.first_word + j) (nodes j)
      × ((b : Block) → Contains (nodes j) b → SameNode image other b)
  unfolding ahead
  others_stay j less differs =
      let link : other (table.first_word + j) ≡ image (table.first_word + j) = but_p.each (table.first_word + j) (λ e.
      elim holder as (λ _. ⊥) [
        | inl first ↦ differs (omega (arith, first.1, e))
        | inr last ↦
            let l_is = node_facts k last.0 below (in_k last.0 (Contains-append_left before (drop ++ rest) last.0 last.1)) in
            l_is.1 (one_holder held placed last.0 table (table.first_word + j) l_is.0 table_held
            (subst (IsIn last.0) (sym (e ∙ last.2)) (first_in held placed last.0 l_is.0)) (in_table j less))
      ]) in
      let moved = path_moved held placed ahead into image other p shard j but_p (table.first_word + j) (table.first_word + j) (nodes j) link
      (λ c h. free_elsewhere j c less differs h) (chains j less).path in
      (record { path = moved.0; ends = moved.2 ∙ (chains j less).ends }, moved.1)

  -- with another chain behind the link, and another value for one key
  module _ (hung : IsBucketChain ahead other shard k p (put ++ rest)) (same_rest : (b : Block) → Contains rest b → SameNode image other b)
      (key : ℕ) (new : Option (List ℕ)) (in_shard : shard_of key ≡ shard) (in_bucket : bucket_of key ≡ k)
      (none : find image key (before ++ rest) ≡ None) (dropped : (b : Block) → Contains drop b → key_in image b ≡ key) (added : (b : Block)
      → Contains put b → key_in other b ≡ key)
      (value : find other key (put ++ rest) ≡ new) where
    kept : (b : Block) → Contains (before ++ rest) b → SameNode image other b
    kept b h = elim (Contains-append_cases before rest b h) as (λ _. SameNode image other b) [
      | inl early ↦ before_stays.1 b early
      | inr late ↦ same_rest b late
    ]

    spliced_chain : IsBucketChain ahead other shard k (table.first_word + k) (before ++ (put ++ rest))
    spliced_chain = record {
      path = path_both ahead other shard k (table.first_word + k) before (put ++ rest) before_stays.0
          (subst (λ w. IsPath ahead other shard k w (put ++ rest)) at hung.path)
          (λ b h.
          let own : key_in image b ≢ key = not_of image key before b (none_before image key before rest none) h in
          let late : find image (key_in image b) rest ≡ None =
          none_after image (key_in image b) drop rest (path_cross ahead image shard k (table.first_word + k) before (drop ++ rest) b chain_k.path h) in
          ap (λ n. find other n (put ++ rest)) (before_stays.1 b h).key
          ∙ find_in_none other (key_in image b) put rest (none_of other (key_in image b) put (λ c hc e. own (sym e ∙ added c hc)))
          (find_same image other (key_in image b) rest same_rest ∙ late));
      ends = ap other (behind_both (table.first_word + k) before (put ++ rest)) ∙ ap (λ w. other (link_behind w (put ++ rest))) (sym at) ∙ hung.ends;
    }

    spliced_nodes : ℕ → List Block
    spliced_nodes = chains_with nodes k (before ++ (put ++ rest))

    spliced_chains : HasChains (LeadsTo held) other shard table buckets spliced_nodes
    unfolding spliced_nodes ahead
    spliced_chains j less = elim (cases_eq j k) as (λ _. IsBucketChain (but table (LeadsTo held)) other shard j (table.first_word + j)
        (chains_with nodes k (before ++ (put ++ rest)) j)) [
          | inl same ↦ subst (λ i. IsBucketChain (but table (LeadsTo held)) other shard i (table.first_word + i)
              (chains_with nodes k (before ++ (put ++ rest)) i)) (sym same)
              (subst (λ (bs : List Block). IsBucketChain (but table (LeadsTo held)) other shard k (table.first_word + k) bs)
              (sym (with_same nodes k (before ++ (put ++ rest)))) spliced_chain)
          | inr differs ↦ subst (λ (bs : List Block). IsBucketChain (but table (LeadsTo held)) other shard j (table.first_word + j) bs)
              (sym (with_other nodes k (before ++ (put ++ rest)) j differs)) (others_stay j less differs).0
        ]

    in_bucket_k : (q : ℕ) → bucket_of q ≡ k → find other q (spliced_nodes (bucket_of q)) ≡ cond (nat_eq key q) new (find image q (nodes (bucket_of q)))
    unfolding spliced_nodes
    in_bucket_k q same =
        let one = ap (chains_with nodes k (before ++ (put ++ rest))) same ∙ with_same nodes k (before ++ (put ++ rest)) in
        let two : nodes (bucket_of q) ≡ before ++ (drop ++ rest) = ap nodes same ∙ is in
        ap (λ (bs : List Block). find other q bs) one ∙ found_alike image other key new before drop rest put kept none dropped added value q
        ∙ ap (λ (bs : List Block). cond (nat_eq key q) new (find image q bs)) (sym two)

    in_bucket_j : (q : ℕ) → bucket_of q ≢ k → find other q (spliced_nodes (bucket_of q)) ≡ cond (nat_eq key q) new (find image q (nodes (bucket_of q)))
    unfolding spliced_nodes
    in_bucket_j q differs =
        let one = with_other nodes k (before ++ (put ++ rest)) (bucket_of q) differs in
        let below_j : bucket_of q < buckets = mod-lt (q / 8) (omega arith) in
        ap (λ (bs : List Block). find other q bs) one ∙ find_same image other q (nodes (bucket_of q)) (others_stay (bucket_of q) below_j differs).1
        ∙ sym (cond-false (nat_eq key q) new (find image q (nodes (bucket_of q))) (ne_eqb key q (λ e. differs (ap bucket_of (sym e) ∙ in_bucket))))

    -- the map has the new value for the key
    spliced_means : (map : Map) → ((q : ℕ) → map q ≡ map_of image shard nodes q) → (q : ℕ)
        → cond (nat_eq key q) new (map q) ≡ map_of other shard spliced_nodes q
    spliced_means map means q = elim (cases_eq (shard_of q) shard) as (λ _. cond (nat_eq key q) new (map q) ≡ map_of other shard spliced_nodes q) [
      | inl same ↦
          let was : map q ≡ find image q (nodes (bucket_of q)) = means q
          ∙ cond-true (nat_eq (shard_of q) shard) (find image q (nodes (bucket_of q))) None (eq-eqb (shard_of q) shard same) in
          let now : find other q (spliced_nodes (bucket_of q)) ≡ cond (nat_eq key q) new (find image q (nodes (bucket_of q))) =
          elim (cases_eq (bucket_of q) k) as (λ _. find other q (spliced_nodes (bucket_of q)) ≡ cond (nat_eq key q) new
          (find image q (nodes (bucket_of q)))) [
            | inl one ↦ in_bucket_k q one
            | inr differs ↦ in_bucket_j q differs
          ] in
          ap (λ f. cond (nat_eq key q) new f) was ∙ sym now ∙ sym (cond-true (nat_eq (shard_of q) shard)
          (find other q (spliced_nodes (bucket_of q))) None (eq-eqb (shard_of q) shard same))
      | inr differs ↦
          let was : map q ≡ None = means q ∙ cond-false (nat_eq (shard_of q) shard) (find image q (nodes (bucket_of q))) None
          (ne_eqb (shard_of q) shard differs) in
          cond-false (nat_eq key q) new (map q) (ne_eqb key q (λ e. differs (ap shard_of (sym e) ∙ in_shard)))
          ∙ was ∙ sym (cond-false (nat_eq (shard_of q) shard) (find other q (spliced_nodes (bucket_of q))) None (ne_eqb (shard_of q) shard differs))
    ]

    spliced : (map : Map) → ((q : ℕ) → map q ≡ map_of image shard nodes q) → IsMap (LeadsTo held) other shard (λ q. cond (nat_eq key q) new (map q))
    spliced map means = has_table table spliced_nodes there_still spliced_chains (spliced_means map means)

  -- a node put into the chain, in place of what is dropped
  pub put_node : (n : Block) (key : ℕ) (value : List ℕ) → held n → n ≢ table → LeadsTo held (other p) n
      → other n.first_word ≡ image (link_behind p drop)
      → IsNode other shard k n → key_in other n ≡ key → value_in other n ≡ value → put ≡ n ∷ []
      → find image key (before ++ rest) ≡ None → ((b : Block) → Contains drop b → key_in image b ≡ key)
      → (map : Map) → ((q : ℕ) → map q ≡ map_of image shard nodes q) → IsMap (LeadsTo held) other shard (λ q. cond (nat_eq key q) (Some value) (map q))
  unfolding ahead
  put_node n key value n_held n_other leads linked is_node key_is value_is put_is none dropped map means =
      let behind = rest_stays n.first_word linked in
      let fresh : find other (key_in other n) rest ≡ None =
      ap (λ q. find other q rest) key_is ∙ find_same image other key rest behind.1 ∙ none_after image key before rest none in
      let hung : IsBucketChain (but table (LeadsTo held)) other shard k p (n ∷ rest) =
      record { path = ((leads, n_other), is_node, fresh, behind.0.path); ends = behind.0.ends } in
      let value_there : find other key (n ∷ rest) ≡ Some value = find_first other key n rest key_is ∙ ap (λ v. Some v) value_is in
      let mine = λ (b : Block) (h : Contains put b).
      elim (head_or_rest n b [] (subst (λ (bs : List Block). Contains bs b) put_is h)) as (λ _. key_in other b ≡ key) [
        | inl e ↦ ap (key_in other) (sym e) ∙ key_is
        | inr none_left ↦ absurd (in_none b none_left)
      ] in
      spliced (subst (λ (bs : List Block). IsBucketChain (but table (LeadsTo held)) other shard k p (bs ++ rest)) (sym put_is) hung)
      behind.1 key (Some value)
      (ap shard_of (sym key_is) ∙ is_node.in_shard) (ap bucket_of (sym key_is) ∙ is_node.in_bucket) none dropped mine
      (subst (λ (bs : List Block). find other key (bs ++ rest) ≡ Some value) (sym put_is) value_there) map means

  -- a node taken out of the chain
  pub take_node : (b : Block) → other p ≡ image b.first_word → drop ≡ b ∷ [] → put ≡ []
      → (map : Map) → ((q : ℕ) → map q ≡ map_of image shard nodes q)
      → IsMap (LeadsTo held) other shard (λ q. cond (nat_eq (key_in image b) q) None (map q))
  unfolding ahead
  take_node b linked drop_is put_is map means =
      let behind = rest_stays p (linked ∙ ap (λ (bs : List Block). image (link_behind p bs)) (sym drop_is)) in
      let in_drop : Contains drop b = subst (λ (bs : List Block). Contains bs b) (sym drop_is) (in_head b []) in
      let in_all = Contains-append_right before (drop ++ rest) b (Contains-append_left drop rest b in_drop) in
      let b_is = node_facts k b below (in_k b in_all) in
      let none_behind : find image (key_in image b) rest ≡ None =
      path_cross (but table (LeadsTo held)) image shard k p drop rest b
      (subst (λ w. IsPath (but table (LeadsTo held)) image shard k w (drop ++ rest)) (sym at)
      (path_right (but table (LeadsTo held)) image shard k (table.first_word + k) before (drop ++ rest) chain_k.path)) in_drop in
      let none_ahead : find image (key_in image b) before ≡ None = none_of image (key_in image b) before (λ c h e.
      not_of image (key_in image c) (drop ++ rest) b (path_cross (but table (LeadsTo held)) image shard k (table.first_word + k) before
      (drop ++ rest) c chain_k.path h)
      (Contains-append_left drop rest b in_drop) (sym e)) in
      let none = find_in_none image (key_in image b) before rest none_ahead none_behind in
      let dropped = λ (c : Block) (h : Contains drop c).
      elim (head_or_rest b c [] (subst (λ (bs : List Block). Contains bs c) drop_is h)) as (λ _. key_in image c ≡ key_in image b) [
        | inl e ↦ ap (key_in image) (sym e)
        | inr none_left ↦ absurd (in_none c none_left)
      ] in
      spliced (subst (λ (bs : List Block). IsBucketChain (but table (LeadsTo held)) other shard k p (bs ++ rest)) (sym put_is) behind.0)
      behind.1 (key_in image b) None
      b_is.2.in_shard b_is.2.in_bucket none dropped (λ c h. absurd (in_none c (subst (λ (bs : List Block). Contains bs c) put_is h)))
      (subst (λ (bs : List Block). find other (key_in image b) (bs ++ rest) ≡ None) (sym put_is)
      (find_same image other (key_in image b) rest behind.1 ∙ none_behind)) map means
