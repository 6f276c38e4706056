-- A seat as it is without a block that no root reaches: what it gives and reaches, and the block as one that came then.
use Rattle.std.proofs.Common.{◌≡◌, ◌≢◌, ℕ, ◌+◌, inl, inr, List, [], ◌∷◌, ◌++◌, Contains, refl, ap, subst, sym, ◌∙◌, arith}
use Rattle.std.proofs.lemmas.List.Elements.{Contains-append_left}
use Rattle.heap_model.specs.declared.block.Block.{Block}
use Rattle.heap_model.specs.Geometry.{root_word}
use Rattle.heap_model.specs.Blocks.{IsIn}
use Rattle.heap_seat.specs.declared.spot.Spot.{Spot}
use Rattle.heap_seat.specs.declared.spot.Spot.TheVariants.{InBlock, Root}
use Rattle.heap_seat.specs.View.{View, kind_of, word_of}
use Rattle.heap_seat.specs.Words.{IsOwn, IsOwnSpot, in_block, in_root, MayRead, KeepsWord, KeepsOwn}
use Rattle.heap_seat.specs.Free.{MayHaveFreed}
use Rattle.heap_seat.specs.Sound.{IsSeat}
use Rattle.dict_model.specs.Links.{table_kind, node_kind, IsLink, in_table}
use Rattle.dict_model.specs.Nodes.{shard_of, bucket_of}
use Rattle.dict_model.specs.Shards.{Map}
use Rattle.dict_model.proofs.ChainLemmas.{behind_is}
use Rattle.dict_model.proofs.PlacedLemmas.{one_holder, first_in}
use Rattle.dict_requests.specs.declared.walk.Place.{Place}
use Rattle.dict_requests.specs.Maps.{GivesMap}
use Rattle.dict_requests.specs.Reached.{MayReach, ReachesOnlyHeld, ReachesAllHeld, ReachesAllHeldBut}
use Rattle.dict_requests.specs.Trails.{pointer_to, IsSettling, Trail, HasCome}
use Rattle.dict_requests.specs.Quiet.{Grown, FollowsLink}
use Rattle.dict_requests.specs.Changes.{MayChange, Changes, IsReadPlace}
use Rattle.dict_requests.specs.Removal.{IsShard}
use Rattle.dict_requests.specs.Moving.{MayBring, head_of}
use Rattle.dict_requests.specs.Puts.{IsMissing}
use Rattle.dict_requests.proofs.GrownLemmas.{are_placed, root_reach, link_reach, keeps_none, gives_grown, reached_before}
use Rattle.dict_requests.proofs.FreedLemmas.{only_freed, gives_freed, reached_freed}
use Rattle.dict_requests.proofs.TrailLemmas.{leads_held, bucket_below, same_map}
use Rattle.dict_requests.proofs.MapPublishLemmas.{seen_read, trail_held}
use Rattle.dict_requests.proofs.ComeLemmas.{IsFollowed, own_link_followed}
use Rattle.dict_requests.proofs.ExactLemmas.{all_freed}
use Rattle.dict_requests.proofs.DeleteLemmas.{shard_below}
use Rattle.dict_requests.proofs.WithoutLemmas.{but_at, but_only, but_keeps, without}

-- it has no other values of words
keeps_on : (n : Block) (v w : View) (word : ℕ) → KeepsWord v w word → KeepsWord (without n v) w word
keeps_on n v w word keeps = record { volatile = keeps.volatile; durable = keeps.durable }

keeps_back : (n : Block) (v w : View) (word : ℕ) → KeepsWord (without n v) w word → KeepsWord v w word
keeps_back n v w word keeps = record { volatile = keeps.volatile; durable = keeps.durable }

settling_less : (n : Block) (v : View) (word value : ℕ) → IsSettling v word value → IsSettling (without n v) word value
settling_less n v word value settling = record { seen = settling.seen; coming = settling.coming }

module _ (n : Block) (v : View) (seat : IsSeat v) (held : Contains v.held n) where
  -- a block that begins where it does is the block
  pub same_first : (c : Block) → Contains v.held c → c.first_word ≡ n.first_word → c ≡ n
  same_first c h e = one_holder (Contains v.held) (are_placed v seat) c n c.first_word h held (first_in (Contains v.held) (are_placed v seat) c h)
      (subst (IsIn n) (sym e) (first_in (Contains v.held) (are_placed v seat) n held))

  pub less_held : (c : Block) → Contains v.held c → c ≢ n → Contains (without n v).held c
  less_held c h differs = but_keeps n.first_word v.held c h (λ e. differs (same_first c h e))

  pub less_gone : Contains (without n v).held n → ⊥
  less_gone h = (but_only n.first_word v.held n h).1 refl

  pub less_was : (c : Block) → Contains (without n v).held c → Contains v.held c
  less_was c h = (but_only n.first_word v.held c h).0

  pub less_own : (word : ℕ) → IsOwn (without n v).held v.roots word → IsOwn v.held v.roots word
  less_own _ (in_block a word h inside) = in_block a word (less_was a h) inside
  less_own _ (in_root i word h is) = in_root i word h is

  -- none of its words is own without it
  pub less_outside : (word : ℕ) → IsOwn (without n v).held v.roots word → IsIn n word → ⊥
  less_outside _ (in_block a word h inside) in_n =
      less_gone (subst (Contains (without n v).held) (one_holder (Contains v.held) (are_placed v seat) a n word (less_was a h) held inside in_n) h)
  less_outside _ (in_root i word h is) in_n =
      let behind = (seat.placed n held).behind in
      let below = seat.roots_are i h in
      let from = in_n.from in omega arith

  pub less_freed : MayHaveFreed n v (without n v)
  less_freed = record {
    only = less_was;
    keeps = less_held;
    roots = refl;
    words = λ word own out. record { volatile = λ value e. e; durable = λ value may. inr may };
    refusals = record { count = refl; bytes = refl; looks = refl };
  }

  pub less_seat : IsSeat (without n v)
  less_seat = record {
    placed = λ b h. seat.placed b (less_was b h);
    apart = λ a b ha hb. seat.apart a b (less_was a ha) (less_was b hb);
    roots_are = seat.roots_are;
    stopping = seat.stopping;
  }

  -- what stores to the block alone leaves of it
  pub less_grown : (w : View) → ((c : Block) → Contains v.held c → Contains w.held c) → w.roots ≡ v.roots
      → ((word : ℕ) → IsOwn v.held v.roots word → (IsIn n word → ⊥) → KeepsWord v w word) → Grown (without n v) w
  less_grown w keeps roots words = record {
    keeps = λ c h. keeps c (less_was c h);
    roots = roots;
    words = λ word own. keeps_on n v w word (words word (less_own word own) (less_outside word own));
  }

  pub less_keeps : (w : View) → KeepsOwn v w → KeepsOwn (without n v) (without n w)
  less_keeps w keeps = record {
    held = ap (but_at n.first_word) keeps.held;
    roots = keeps.roots;
    words = λ word own. let k = keeps.words word (less_own word own) in record { volatile = k.volatile; durable = k.durable };
  }

  pub less_follows : (w : View) (at word : ℕ) → FollowsLink at word v w → FollowsLink at word (without n v) (without n w)
  less_follows w at word follows = record {
    goes = record {
      runs = record {
        ran = follows.goes.runs.ran;
        running = follows.goes.runs.running;
        drew = follows.goes.runs.drew;
        below = follows.goes.runs.below;
      };
      pending = follows.goes.pending;
    };
    settling = settling_less n w at word follows.settling;
  }

  module _ (unreached : (root kind : ℕ) → MayReach v root n kind → ⊥) (only : ReachesOnlyHeld v) where
    pub less_only : ReachesOnlyHeld (without n v)
    less_only = only_freed v (without n v) n seat less_freed refl only held unreached

    module _ (shard : ℕ) (owned : Contains v.roots shard) (root_is : kind_of v shard ≡ table_kind) where
      pub less_gives : (map : Map) → GivesMap v shard map → GivesMap (without n v) shard map
      less_gives map gives = gives_freed v (without n v) n seat less_freed refl only held unreached shard map root_is owned gives

    pub less_shard : (shard : ℕ) → IsShard v shard → IsShard (without n v) shard
    less_shard shard is = record {
      owned = is.owned;
      kind_is = is.kind_is;
      only = less_only;
      map = is.map;
      gives = less_gives shard is.owned is.kind_is is.map is.gives;
    }

    pub less_all : ReachesAllHeldBut n v → ReachesAllHeld (without n v)
    less_all all = all_freed v (without n v) n seat less_freed refl held unreached less_gone all

    -- what a request leaves of the seat without the block, it leaves of the seat with it, but for the block's words
    pub bring_left : (shard : ℕ) (after : Map → Map) (w : View) → IsShard v shard → MayChange shard after (without n v) w
        → Contains w.held n → ((word : ℕ) → IsIn n word → (IsIn (head_of n) word → ⊥) → KeepsWord v w word) → MayBring n shard after v w
    bring_left shard after w is change stays value = record {
      either = λ map gives. change.either map (less_gives shard is.owned is.kind_is map gives);
      only = change.only;
      table = record { root = change.table.root };
      others = record {
        roots = change.others.roots;
        kinds = change.others.kinds;
        root_words = λ root owned differs. keeps_back n v w (root_word root) (change.others.root_words root owned differs);
        blocks = λ a h differs none.
            let r = change.others.blocks a (less_held a h differs) (λ kind reached. none kind
            (reached_freed v (without n v) n seat less_freed refl only held unreached shard a kind reached)) in
            (r.0, λ word inside. keeps_back n v w word (r.1 word inside));
      };
      stays = stays;
      value = value;
    }

    pub brought : (shard : ℕ) (after : Map → Map) (w : View) → IsShard v shard → Changes shard after (without n v) w → Changes shard after v w
    brought shard after w is changes = record { gives = λ map gives. changes.gives map (less_gives shard is.owned is.kind_is map gives) }

    -- and what a bring leaves of the seat with it, it leaves of the seat without it
    less_grows : Grown (without n v) v
    less_grows = less_grown v (λ c h. h) refl (λ word own out. keeps_none v word)

    pub bring_change : (shard : ℕ) (after : Map → Map) (w : View) → MayBring n shard after v w → MayChange shard after (without n v) w
    bring_change shard after w change = record {
      either = λ map gives. change.either map (gives_grown (without n v) v less_grows shard map gives);
      only = change.only;
      table = record { root = change.table.root };
      others = record {
        roots = change.others.roots;
        kinds = change.others.kinds;
        root_words = λ root owned differs. keeps_on n v w (root_word root) (change.others.root_words root owned differs);
        blocks = λ a h none.
            let r = change.others.blocks a (less_was a h) (λ same. less_gone (subst (Contains (without n v).held) same h))
            (λ kind reached. none kind (reached_before (without n v) v less_grows refl seat less_only shard a kind reached)) in
            (r.0, λ word inside. keeps_on n v w word (r.1 word inside));
      };
    }

    pub change_less : (shard : ℕ) (after : Map → Map) (w : View) → Changes shard after v w → Changes shard after (without n v) w
    change_less shard after w changes = record { gives = λ map gives. changes.gives map (gives_grown (without n v) v less_grows shard map gives) }

    -- the way to a bucket doesn't pass the block
    module _ (key : ℕ) (root_is : kind_of v (shard_of key) ≡ table_kind) where
      not_it : (c : Block) (kind : ℕ) → MayReach v (shard_of key) c kind → c ≢ n
      not_it c kind reached same = unreached (shard_of key) kind (subst (λ (x : Block). MayReach v (shard_of key) x kind) same reached)

      less_trail : (at : ℕ) (bs : List Block) → IsFollowed v (shard_of key) at → Trail (IsSettling v) v.held at bs
          → Trail (IsSettling (without n v)) (without n v).held at bs
      less_trail at [] followed trail = tt
      less_trail at (b ∷ bs) followed trail =
          let reached : MayReach v (shard_of key) b node_kind =
          link_reach v (shard_of key) followed.holder b followed.from followed.position node_kind (pointer_to b) followed.reached followed.is_link
          (subst (λ w. MayRead v w (pointer_to b)) followed.at_is (seen_read v at (pointer_to b) trail.1.seen)) (leads_held v b seat trail.0) in (
            less_held b trail.0 (not_it b node_kind reached),
            settling_less n v at (pointer_to b) trail.1,
            less_trail b.first_word bs (own_link_followed v seat (shard_of key) (shard_below key) b trail.0 reached) trail.2,
          )

      pub less_come : (table : Block) (before : List Block) → HasCome IsSettling v (shard_of key) key table before
          → HasCome IsSettling (without n v) (shard_of key) key table before
      less_come table before come =
          let reached : MayReach v (shard_of key) table (kind_of v (shard_of key)) =
          root_reach v (shard_of key) table (kind_of v (shard_of key)) (pointer_to table) come.owned refl
          (seen_read v (root_word (shard_of key)) (pointer_to table) come.root.seen) (leads_held v table seat come.held_table) in
          record {
            owned = come.owned;
            in_shard = come.in_shard;
            held_table = less_held table come.held_table (not_it table (kind_of v (shard_of key)) reached);
            size = come.size;
            root = settling_less n v (root_word (shard_of key)) (pointer_to table) come.root;
            trail = less_trail (table.first_word + bucket_of key) before (record {
              holder = table;
              from = kind_of v (shard_of key);
              position = bucket_of key;
              reached = reached;
              is_link = subst (λ kind. IsLink kind table.words (bucket_of key) node_kind) (sym root_is)
                  (in_table table.words (bucket_of key) (let below = bucket_below key in let size = come.size in omega arith));
              at_is = refl;
            }) come.trail;
          }

      pub less_missing : (table : Block) → IsShard v (shard_of key) → IsMissing v key table → IsMissing (without n v) key table
      less_missing table is missing =
          record {
            come = less_come table [] missing.come;
            none = λ map gives. same_map (without n v) less_seat (shard_of key) map is.map gives
                (less_gives (shard_of key) is.owned is.kind_is is.map is.gives) key ∙ missing.none is.map is.gives;
          }

      less_spot : (s : Spot) → (IsIn n (word_of s) → ⊥) → IsOwnSpot v s → IsOwnSpot (without n v) s
      less_spot (InBlock b index) out own = (
        less_held b own.0 (λ same. out (subst (λ (x : Block). IsIn x (b.first_word + index)) same
            (record { from = omega arith; until = let below = own.1 in omega arith }))),
        own.1,
      )
      less_spot (Root i) out own = own

      pub less_place : (place : Place) (next : ℕ) → IsReadPlace IsSettling v key place next → IsReadPlace IsSettling (without n v) key place next
      less_place place next taken = record {
        table = taken.table;
        before = taken.before;
        come = come;
        at_is = taken.at_is;
        own = less_spot place.link out taken.own;
        room = taken.room;
        next_is = settling_less n v place.node.first_word next taken.next_is;
        key_is = settling_less n v (place.node.first_word + 1) key taken.key_is;
      } where
        come : HasCome IsSettling (without n v) (shard_of key) key taken.table (taken.before ++ (place.node ∷ []))
        come = less_come taken.table (taken.before ++ (place.node ∷ [])) taken.come

        is_it : (c : Block) (word : ℕ) → Contains (without n v).held c → IsIn c word → IsIn n word → ⊥
        is_it c word h inside in_n = less_outside word (in_block c word h inside) in_n

        out : IsIn n (word_of place.link) → ⊥
        out inside = elim (behind_is (taken.table.first_word + bucket_of key) taken.before) as (λ _. ⊥) [
          | inl only ↦
              is_it taken.table (word_of place.link) come.held_table
              (subst (IsIn taken.table) (sym (taken.at_is ∙ only.1)) (record {
                from = omega arith;
                until = let below = bucket_below key in
                    let size = taken.come.size in omega arith;
              })) inside
          | inr last ↦
              let h = trail_held (IsSettling (without n v)) (without n v).held (taken.table.first_word + bucket_of key)
              (taken.before ++ (place.node ∷ [])) last.0 come.trail
              (Contains-append_left taken.before (place.node ∷ []) last.0 last.1) in
              is_it last.0 (word_of place.link) h
              (subst (IsIn last.0) (sym (taken.at_is ∙ last.2)) (first_in (Contains v.held) (are_placed v seat) last.0 (less_was last.0 h))) inside
        ]
