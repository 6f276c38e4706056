-- What belongs to no shard stays over requests to shards.
use Rattle.std.proofs.Common.{◌≡◌, ◌≢◌, ℕ, ◌+◌, ◌*◌, ◌<◌, inl, List, Option, Contains, refl, subst, sym, ◌∙◌, arith}
use Rattle.heap_model.specs.declared.block.Block.{Block}
use Rattle.heap_model.specs.Geometry.{roots, root_word}
use Rattle.heap_model.specs.Image.{Image}
use Rattle.heap_model.specs.Header.{kinds_of}
use Rattle.heap_model.specs.Blocks.{IsIn}
use Rattle.heap_model.specs.Pointers.{IsPointerTo, Leads}
use Rattle.heap_model.specs.Reach.{ReachFrom, by_start, by_link, words_in}
use Rattle.heap_model.proofs.ImageLemmas.{length-words_from}
use Rattle.heap_model.proofs.ReachLemmas.{closure_least, closure_included, more_roots}
use Rattle.heap_seat.specs.View.{View}
use Rattle.heap_seat.specs.Words.{in_root, in_block, MayBe, MayRead, MixesOwn, NamesAll, KeepsWord, KeepsOwn, StoresKinds}
use Rattle.dict_model.specs.Links.{shards, dict_links}
use Rattle.dict_model.proofs.LinkLemmas.{link_in_block, link_listed}
use Rattle.dict_requests.specs.Maps.{KeepsOtherShards}
use Rattle.dict_requests.specs.Reached.{MayReach, ReachesOnlyHeld}
use Rattle.dict_requests.specs.Trails.{IsDurableAt}
use Rattle.dict_requests.proofs.GrownLemmas.{root_reach, link_reach, link_in}
use Rattle.dict_requests.proofs.TrailLemmas.{settled_in, settled_stays}
use Rattle.run_model.specs.Opened.{HasAllRoots}
use Rattle.run_model.specs.Runs.{IsOtherRoot}
use Rattle.run_model.specs.Stands.{IsOwnOther, HasOthers}

-- the block is reached from one of the chosen roots
record IsReachedBy (v : View) (chosen : ℕ → Type 0) (b : Block) (kind : ℕ) : Type 0 where
  pub root : ℕ
  pub is_chosen : chosen root
  pub reached : MayReach v root b kind

read_settled : (v : View) (word value : ℕ) → IsDurableAt v word value → MayRead v word value
read_settled v word value settled = inl (subst (λ (known : Option ℕ). MayBe known value) (sym settled.seen) refl)

module _ (image : Image) (v : View) (kinds : StoresKinds v image) (has : HasOthers image v) where
  -- a block that the image reaches from another root of the seat, with its kind
  abbrev IsOthers : Block → ℕ → Type 0
  IsOthers b kind = ReachFrom image (IsOwnOther v) (kinds_of image) dict_links b kind × IsReachedBy v IsOtherRoot b kind

  -- what the image reaches from other roots may be reached from one of them
  others_both : (b : Block) (kind : ℕ) → ReachFrom image (IsOwnOther v) (kinds_of image) dict_links b kind → IsOthers b kind
  others_both = closure_least IsOthers
      (λ b kind start.
      let there = by_start b kind start in (
        there,
        record {
          root = start.root;
          is_chosen = start.is_chosen.0;
          reached = root_reach v start.root b kind (image (root_word start.root)) start.is_chosen.1 (start.kind_is ∙ kinds.each start.root start.below)
              (read_settled v (root_word start.root) (image (root_word start.root)) (has.root_words start.root start.is_chosen))
              (has.blocks b kind there, start.leads.pointer);
        },
      ))
      (λ a b from kind reached both link.
      let there = by_link a b from kind both.0 link in
      let is = link_in_block image a from link.position kind link.listed in (
        there,
        record {
          root = both.1.root;
          is_chosen = both.1.is_chosen;
          reached = link_reach v both.1.root a b from link.position kind (image (a.first_word + link.position)) both.1.reached is
              (read_settled v (a.first_word + link.position) (image (a.first_word + link.position))
              (has.words a from (a.first_word + link.position) both.0 (link_in a from link.position kind is)))
              (has.blocks b kind there, link.leads.pointer);
        },
      ))

  -- a seat with the same roots that keeps their blocks and words has them
  others_kept : (w : View) → w.roots ≡ v.roots → ((root : ℕ) → IsOwnOther v root → KeepsWord v w (root_word root))
      → ((b : Block) (kind : ℕ) → ReachFrom image (IsOwnOther v) (kinds_of image) dict_links b kind → Contains w.held b
      × ((word : ℕ) → IsIn b word → KeepsWord v w word))
      → HasOthers image w
  others_kept w same root_words blocks = record {
    root_words = λ root own. settled_stays v w (root_word root) (image (root_word root)) (root_words root (before root own))
        (has.root_words root (before root own));
    blocks = λ b kind reach. (blocks b kind (reach_before b kind reach)).0;
    words = λ b kind word reach inside.
        let was = reach_before b kind reach in
        settled_stays v w word (image word) ((blocks b kind was).1 word inside) (has.words b kind word was inside);
  } where
    before : (root : ℕ) → IsOwnOther w root → IsOwnOther v root
    before root own = (own.0, subst (λ (ns : List ℕ). Contains ns root) same own.1)

    reach_before : (b : Block) (kind : ℕ) → ReachFrom image (IsOwnOther w) (kinds_of image) dict_links b kind
        → ReachFrom image (IsOwnOther v) (kinds_of image) dict_links b kind
    reach_before = more_roots {chosen = IsOwnOther w} {chosen' = IsOwnOther v} image (kinds_of image) dict_links before

  -- a request to a shard leaves them
  pub others_stay : (w : View) (shard : ℕ) → shard < shards → ReachesOnlyHeld v → KeepsOtherShards shard v w → HasOthers image w
  others_stay w shard small only keeps = others_kept w keeps.roots (λ root own. keeps.root_words root own.1 (differs root own.0))
      (λ b kind reach. keeps.blocks b (has.blocks b kind reach) (unreached b kind reach)) where
        differs : (root : ℕ) → IsOtherRoot root → root ≢ shard
        differs root other e = omega arith

        unreached : (b : Block) (kind : ℕ) → ReachFrom image (IsOwnOther v) (kinds_of image) dict_links b kind → (other : ℕ) → MayReach v shard b other → ⊥
        unreached b kind reach other reached =
            let both = others_both b kind reach in
            let chosen = both.1.is_chosen in
            only.alone shard both.1.root b other kind small (λ e. omega arith) reached both.1.reached

  -- and so does what stores to no own word
  pub others_still : (w : View) → KeepsOwn v w → HasOthers image w
  others_still w keeps = others_kept w keeps.roots (λ root own. keeps.words (root_word root) (in_root root (root_word root) own.1 refl))
      (λ b kind reach.
      let h = has.blocks b kind reach in
      (subst (λ (bs : List Block). Contains bs b) (sym keeps.held) h, λ word inside. keeps.words word (in_block b word h inside)))

  -- each image that may be left reaches from other roots what the image reaches from those of the seat: the blocks are
  -- named there, and the words that lead to them are the same
  module _ (left : Image) (mixes : MixesOwn v left) (named : NamesAll left v.held) (stored : StoresKinds v left) where
    leads_left : (word : ℕ) (b : Block) → left word ≡ image word → Contains v.held b → Leads image (image word) b → Leads left (left word) b
    leads_left word b same held leads = record {
      pointer = subst (λ x. IsPointerTo x (8 * b.first_word)) (sym same) leads.pointer;
      names = named b held;
    }

    pub reached_left : (b : Block) (kind : ℕ) → ReachFrom image (IsOwnOther v) (kinds_of image) dict_links b kind
        → ReachFrom left IsOtherRoot (kinds_of left) dict_links b kind
    reached_left = closure_included
        (λ b kind start.
        let at = root_word start.root in
        let same = settled_in v left mixes at (image at) (in_root start.root at start.is_chosen.1 refl) (has.root_words start.root start.is_chosen) in
        record {
          root = start.root;
          below = start.below;
          is_chosen = start.is_chosen.0;
          kind_is = start.kind_is ∙ kinds.each start.root start.below ∙ sym (stored.each start.root start.below);
          leads = leads_left at b same (has.blocks b kind (by_start b kind start)) start.leads;
        })
        (λ a b from kind reached link.
        let is = link_in_block image a from link.position kind link.listed in
        let inside = link_in a from link.position kind is in
        let at = a.first_word + link.position in
        let same = settled_in v left mixes at (image at) (in_block a at (has.blocks a from reached) inside) (has.words a from at reached inside) in
        record {
          position = link.position;
          listed = link_listed from a.words link.position kind is (words_in left a) (length-words_from left a.first_word a.words);
          leads = leads_left at b same (has.blocks b kind (by_link a b from kind reached link)) link.leads;
        })

  -- where the seat has all roots, each image that may be left has them
  module _ (all : HasAllRoots v) (left : Image) (mixes : MixesOwn v left) where
    own_other : (b : Block) (kind : ℕ) → ReachFrom image IsOtherRoot (kinds_of image) dict_links b kind
        → ReachFrom image (IsOwnOther v) (kinds_of image) dict_links b kind
    own_other = closure_included
        (λ b kind start. record {
          root = start.root;
          below = start.below;
          is_chosen = (start.is_chosen, all.each start.root start.below);
          kind_is = start.kind_is;
          leads = start.leads;
        })
        (λ a b from kind reached link. link)

    pub root_in_left : (root : ℕ) → IsOtherRoot root → root < roots → left (root_word root) ≡ image (root_word root)
    root_in_left root other below =
        settled_in v left mixes (root_word root) (image (root_word root)) (in_root root (root_word root) (all.each root below) refl)
        (has.root_words root (other, all.each root below))

    pub block_in_left : (b : Block) (kind word : ℕ) → ReachFrom image IsOtherRoot (kinds_of image) dict_links b kind → IsIn b word
        → left word ≡ image word
    block_in_left b kind word reach inside =
        let own = own_other b kind reach in
        settled_in v left mixes word (image word) (in_block b word (has.blocks b kind own) inside) (has.words b kind word own inside)

    pub reach_in_left : NamesAll left v.held → StoresKinds v left → (b : Block) (kind : ℕ)
        → ReachFrom image IsOtherRoot (kinds_of image) dict_links b kind
        → ReachFrom left IsOtherRoot (kinds_of left) dict_links b kind
    reach_in_left named stored b kind reach = reached_left left mixes named stored b kind (own_other b kind reach)
