-- A seat that was opened over a dictionary reaches exactly the held blocks, and has the maps of the image.
use Rattle.std.proofs.Common.{◌≡◌, ◌≢◌, ℕ, ◌+◌, ◌*◌, ◌^◌, ◌<◌, ◌⊎◌, inl, inr, List, [], ◌∷◌, Option, Contains, refl, subst, sym, ◌∙◌, arith}
use Rattle.std.proofs.lemmas.Bool.{cases_eq}
use Rattle.heap_model.specs.declared.block.Block.{Block}
use Rattle.heap_model.specs.Geometry.{root_word}
use Rattle.heap_model.specs.Image.{Image}
use Rattle.heap_model.specs.Header.{kinds_of}
use Rattle.heap_model.specs.Pointers.{pointer_tag, IsPointerTo, Leads}
use Rattle.heap_model.specs.Reach.{AnyRoot, ReachFrom, ReachIn, by_start, by_link, IsTraced, is_root, is_linked}
use Rattle.heap_model.proofs.DecisionLemmas.{both, at_most}
use Rattle.heap_model.proofs.MemberLemmas.{in_none, in_head, in_rest, head_or_rest}
use Rattle.heap_model.proofs.ReachLemmas.{closure_least, more_roots, reached_block}
use Rattle.heap_seat.specs.View.{View}
use Rattle.heap_seat.specs.Words.{IsOwn, in_root, in_block, MayBe, MayRead, MixesOwn}
use Rattle.heap_seat.specs.Sound.{IsSeat}
use Rattle.dict_model.specs.Links.{shards, dict_links}
use Rattle.dict_model.specs.Shards.{Map, LeadsTo, LeadsAlone, MapOf, IsMap}
use Rattle.dict_model.proofs.MapLemmas.{IsUsed, map_wider, map_stays}
use Rattle.dict_requests.specs.Maps.{IsMapIn, GivesMap}
use Rattle.dict_requests.specs.Reached.{MayReach, IsNullOrHeld, Reaches, ReachesAllHeld, ReachesOnlyHeld}
use Rattle.dict_model.proofs.LinkLemmas.{link_in_block}
use Rattle.dict_requests.proofs.ExactLemmas.{link_sees, root_sees, sees_held}
use Rattle.dict_requests.proofs.GrownLemmas.{are_placed, reached_held, link_own}
use Rattle.dict_requests.proofs.TrailLemmas.{settled_in}
use Rattle.run_model.specs.Opened.{IsOpenedOver, IsReachedFrom}
use Rattle.run_model.specs.Stands.{IsOwnOther, HasOthers}
use Rattle.dict_requests.proofs.ShardReachLemmas.{block_lists, used_in_image, reached_alone}

-- a word is a pointer to one of the blocks, or to none
led_or_not : (word : ℕ) (bs : List Block) → ((b : Block) × Contains bs b × IsPointerTo word (8 * b.first_word)) ⊎ ((b : Block) → Contains bs b
    → IsPointerTo word (8 * b.first_word) → ⊥)
led_or_not word [] = inr (λ b h to. in_none b h)
led_or_not word (c ∷ bs) = elim (both (cases_eq word (pointer_tag + 8 * c.first_word)) (at_most (8 * c.first_word + 1) (2 ^ 48)))
    as (λ _. ((b : Block) × Contains (c ∷ bs) b × IsPointerTo word (8 * b.first_word)) ⊎ ((b : Block) → Contains (c ∷ bs) b
    → IsPointerTo word (8 * b.first_word) → ⊥)) [
      | inl first ↦ inl (c, in_head c bs, record { tagged = first.0; short = omega (arith, first.1) })
      | inr other ↦ elim (led_or_not word bs) as (λ _. ((b : Block) × Contains (c ∷ bs) b × IsPointerTo word (8 * b.first_word)) ⊎ ((b : Block)
          → Contains (c ∷ bs) b → IsPointerTo word (8 * b.first_word) → ⊥)) [
            | inl led ↦ inl (led.0, in_rest c led.0 bs led.1, led.2)
            | inr none ↦ inr (λ b h to. elim (head_or_rest c b bs h) as (λ _. ⊥) [
              | inl same ↦
                  let here : IsPointerTo word (8 * c.first_word) = subst (λ (x : Block). IsPointerTo word (8 * x.first_word)) (sym same) to in
                  let short = here.short in
                  other (here.tagged, omega arith)
              | inr rest ↦ none b rest to
            ])
          ]
    ]

-- each root from which a block may be reached is the seat's
own_root : (v : View) (root : ℕ) (b : Block) (kind : ℕ) → MayReach v root b kind → Contains v.roots root
own_root v root = closure_least (λ b kind. Contains v.roots root) (λ b kind start. start.owned) (λ a b from kind reached has link. has)

module _ (image : Image) (v : View) (seat : IsSeat v) (opened : IsOpenedOver image v) where
  -- what the seat's roots reach in the image
  abbrev FromOwn : Block → ℕ → Type 0
  FromOwn b kind = ReachFrom image (Contains v.roots) (kinds_of image) dict_links b kind

  read_is : (word value : ℕ) → IsOwn v.held v.roots word → MayRead v word value → value ≡ image word
  read_is word value own may = elim may as (λ _. value ≡ image word) [
    | inl seen ↦ subst (λ (k : Option ℕ). MayBe k value) (opened.words word own).seen seen
    | inr left ↦ subst (λ (k : Option ℕ). MayBe k value) (opened.words word own).left left
  ]

  -- what leads to a held block leads to it in the image
  leads_in : (at value : ℕ) (b : Block) → IsOwn v.held v.roots at → MayRead v at value → LeadsTo (Contains v.held) value b → Leads image (image at) b
  leads_in at value b own may leads =
      let reached = (opened.exact b).0 leads.0 in
      subst (λ w. Leads image w b) (read_is at value own may)
      (record {
        pointer = leads.1;
        names = record {
          begins_at = refl;
          block = reached_block image (kinds_of image) dict_links b reached.kind reached.reach;
        };
      })

  reach_back : (root : ℕ) (b : Block) (kind : ℕ) → MayReach v root b kind → ReachFrom image (λ r. r ≡ root) (kinds_of image) dict_links b kind
  reach_back root = closure_least (ReachFrom image (λ r. r ≡ root) (kinds_of image) dict_links)
      (λ b kind start. by_start b kind (record {
        root = root;
        below = seat.roots_are root start.owned;
        is_chosen = refl;
        kind_is = start.kind_is ∙ sym (opened.kinds.each root (seat.roots_are root start.owned));
        leads = leads_in (root_word root) start.value b (in_root root (root_word root) start.owned refl) start.read start.leads;
      }))
      (λ a b from kind reached has link. by_link a b from kind has (record {
        position = link.position;
        listed = block_lists image a from link.position kind link.is_link;
        leads = leads_in (a.first_word + link.position) link.value b (link_own v a from link.position kind
            (reached_held v root a from reached) link.is_link) link.read link.leads;
      }))

  -- what the image has where a trace from the seat's roots looks is null or leads to a held block
  good : (at : ℕ) → IsTraced image (kinds_of image) dict_links at
      → ((b : Block) → Leads image (image at) b → IsReachedFrom image (Contains v.roots) b) → IsNullOrHeld v (image at)
  good at traced reached = elim (cases_eq (image at) 0) as (λ _. IsNullOrHeld v (image at)) [
    | inl null ↦ inl null
    | inr some ↦ elim (led_or_not (image at) v.held) as (λ _. IsNullOrHeld v (image at)) [
      | inl led ↦ inr (led.0, (led.1, led.2))
      | inr none ↦ absurd (opened.nothing_outside at (record {
        traced = traced;
        outside = record { not_null = some; nowhere = λ b leads. none b ((opened.exact b).1 (reached b leads)) leads.pointer };
      }))
    ]
  ]

  own_reach : (root : ℕ) (b : Block) (kind : ℕ) → MayReach v root b kind → FromOwn b kind
  own_reach root b kind reached =
      let owned = own_root v root b kind reached in
      more_roots {chosen = λ r. r ≡ root} {chosen' = Contains v.roots} image (kinds_of image) dict_links
      (λ r e. subst (Contains v.roots) (sym e) owned) b kind (reach_back root b kind reached)

  any_reach : (b : Block) (kind : ℕ) → FromOwn b kind → ReachIn image dict_links b kind
  any_reach b kind reached = more_roots {chosen = Contains v.roots} {chosen' = AnyRoot} image (kinds_of image) dict_links (λ r e. tt) b kind reached

  pub only_opened : ReachesOnlyHeld v
  only_opened = record {
    roots = λ root value owned may.
        let below = seat.roots_are root owned in
        subst (IsNullOrHeld v) (sym (read_is (root_word root) value (in_root root (root_word root) owned refl) may))
        (good (root_word root) (is_root root (root_word root) below tt refl) (λ b leads. record {
          kind = kinds_of image root;
          reach = by_start b (kinds_of image root) (record { root = root; below = below; is_chosen = owned; kind_is = refl; leads = leads });
        }));
    links = λ root a from position kind value reached is may.
        let there = own_reach root a from reached in
        let listed = block_lists image a from position kind is in
        subst (IsNullOrHeld v) (sym (read_is (a.first_word + position) value
        (link_own v a from position kind (reached_held v root a from reached) is) may))
        (good (a.first_word + position) (is_linked a from position kind (a.first_word + position) (any_reach a from there) listed refl)
        (λ b leads. record {
          kind = kind;
          reach = by_link a b from kind there (record { position = position; listed = listed; leads = leads });
        }));
    alone = λ shard root b kind other small differs p q.
        let map = opened.maps.each shard small in
        reached_alone image shard small map.1.kind_is map.0 map.1 b kind other (reach_back shard b kind p)
        (more_roots {chosen = λ r. r ≡ root} {chosen' = λ r. r ≢ shard} image (kinds_of image) dict_links
        (λ r e same. differs (sym same ∙ e)) b other (reach_back root b other q));
  }

  -- what the seat's roots reach in the image, loads see reached
  sees_reach : (b : Block) (kind : ℕ) → FromOwn b kind → (root : ℕ) × Reaches v root b kind
  sees_reach = closure_least (λ b kind. (root : ℕ) × Reaches v root b kind)
      (λ b kind start. (
        start.root,
        root_sees v start.root b kind (image (root_word start.root)) start.is_chosen (start.kind_is ∙ opened.kinds.each start.root start.below)
            (opened.words (root_word start.root) (in_root start.root (root_word start.root) start.is_chosen refl)).seen
            ((opened.exact b).1 (record { kind = kind; reach = by_start b kind start }), start.leads.pointer),
      ))
      (λ a b from kind reached has link.
      let is = link_in_block image a from link.position kind link.listed in
      let held = sees_held v has.0 a from has.1 in (
        has.0,
        link_sees v has.0 a b from link.position kind (image (a.first_word + link.position)) has.1 is
            (opened.words (a.first_word + link.position) (link_own v a from link.position kind held is)).seen
            ((opened.exact b).1 (record { kind = kind; reach = by_link a b from kind reached link }), link.leads.pointer),
      ))

  pub all_opened : ReachesAllHeld v
  all_opened = record {
    only = only_opened;
    all = λ b there. let reached = (opened.exact b).0 there in let sees = sees_reach b reached.kind reached.reach in (sees.0, reached.kind, sees.1);
  }

  pub gives_opened : (shard : ℕ) (map : Map) → shard < shards → Contains v.roots shard → MapOf image shard map → GivesMap v shard map
  gives_opened shard map small owned is = record { each = λ mixed mixes. by_image mixed mixes } where
    used_held : (b : Block) → IsUsed (LeadsAlone image shard) image shard b → Contains v.held b
    used_held b used =
        let reached = used_in_image image shard small is.kind_is b used in
        (opened.exact b).1 (record {
          kind = reached.0;
          reach = more_roots {chosen = λ r. r ≡ shard} {chosen' = Contains v.roots} image (kinds_of image) dict_links
              (λ r e. subst (Contains v.roots) (sym e) owned) b reached.0 reached.1;
        })

    by_image : (mixed : Image) → MixesOwn v mixed → IsMapIn v mixed shard map
    by_image mixed mixes =
        let first : IsMap (LeadsTo (Contains v.held)) image shard map = map_wider (LeadsAlone image shard) (LeadsTo (Contains v.held)) image shard map
        (λ word b used leads. (used_held b used, leads.0.pointer)) is.is_map in
        let own = in_root shard (root_word shard) owned refl in
        map_stays (Contains v.held) (are_placed v seat) (LeadsTo (Contains v.held)) (λ word b leads. leads.0) image mixed shard
        (settled_in v mixed mixes (root_word shard) (image (root_word shard)) own (opened.words (root_word shard) own))
        (λ b h word inside. settled_in v mixed mixes word (image word) (in_block b word h inside)
        (opened.words word (in_block b word h inside))) map first

  pub others_opened : HasOthers image v
  others_opened = record {
    root_words = λ root own. opened.words (root_word root) (in_root root (root_word root) own.1 refl);
    blocks = held_other;
    words = λ b kind word reach inside. opened.words word (in_block b word (held_other b kind reach) inside);
  } where
    held_other : (b : Block) (kind : ℕ) → ReachFrom image (IsOwnOther v) (kinds_of image) dict_links b kind → Contains v.held b
    held_other b kind reach = (opened.exact b).1 (record {
      kind = kind;
      reach = more_roots {chosen = IsOwnOther v} {chosen' = Contains v.roots} image (kinds_of image) dict_links (λ r own. own.1) b kind reach;
    })
