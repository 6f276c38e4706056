-- Whose a block is, by what is told of the roots that reach it.
use Rattle.std.proofs.Common.{◌≡◌, ℕ, ◌+◌, ◌%◌, ◌<◌, ◌≤◌, inl, inr, cond, List, length, get_or, set, replicate, Contains, refl, ap, sym, subst, ◌∙◌, lt-ltb, arith}
use Rattle.std.proofs.lemmas.Bool.{cases_lt, cases_eq, le-ltb}
use Rattle.std.proofs.lemmas.Grind.{get_or-set_at, same_number_lists}
use Rattle.std.proofs.lemmas.List.{get_or_default, get_or-replicate, get_or-set_other, length-replicate, length-set}
use Rattle.heap_model.specs.declared.block.Block.{Block}
use Rattle.heap_model.specs.Geometry.{roots}
use Rattle.heap_model.specs.Header.{kinds_of}
use Rattle.heap_model.specs.Image.{Image, words_from}
use Rattle.heap_model.specs.Reach.{Links, ReachFrom, by_start, by_link}
use Rattle.heap_model.proofs.ImageLemmas.{length-words_from, get_or-words_from}
use Rattle.heap_model.proofs.ReachLemmas.{closure_least, more_roots}
use Rattle.root_reach.specs.Reaching.{IsReachedBeside}
use Rattle.dict_model.specs.Links.{shards, dict_links}
use Rattle.dict_requests.proofs.ShardReachLemmas.{reached_alone}
use Rattle.run_model.specs.Opened.{HasMaps}
use Rattle.run_model.specs.Workers.{root_owner}
use Rattle.seat_owners.specs.Owning.{AreOwnedUpTo, AreOwnersByRoot, IsOwnedBy}

-- a root that there is, one of those chosen, which reaches the block by itself
pub record IsReachedByOne (image : Image) (chosen : ℕ → Type 0) (kinds : ℕ → ℕ) (links : Links) (b : Block) (kind : ℕ) : Type 0 where
  pub root : ℕ
  pub below : root < roots
  pub is_chosen : chosen root
  pub reach : ReachFrom image (λ r. r ≡ root) kinds links b kind

-- what some roots reach, one of them does
pub reached_by_one : {chosen : ℕ → Type 0} (image : Image) (kinds : ℕ → ℕ) (links : Links) (b : Block) (kind : ℕ)
    → ReachFrom image chosen kinds links b kind
    → IsReachedByOne image chosen kinds links b kind
reached_by_one {chosen} image kinds links = closure_least (IsReachedByOne image chosen kinds links)
    (λ b kind start. record {
      root = start.root;
      below = start.below;
      is_chosen = start.is_chosen;
      reach = by_start b kind (record { root = start.root; below = start.below; is_chosen = refl; kind_is = start.kind_is; leads = start.leads });
    })
    (λ a b from kind reached one link. record {
      root = one.root;
      below = one.below;
      is_chosen = one.is_chosen;
      reach = by_link a b from kind one.reach link;
    })

-- a shard's root has the worker of the shard, and any other root the first one
pub shard_owner : (workers root : ℕ) → root < shards → root_owner workers root ≡ root % workers
shard_owner workers root below = ap (λ t. cond t (root % workers) 0) (lt-ltb root shards below)

pub other_owner : (workers root : ℕ) → shards ≤ root → root_owner workers root ≡ 0
other_owner workers root past = ap (λ t. cond t (root % workers) 0) (le-ltb root shards past)

-- the list of the roots' owners, when the first shards have theirs
pub record HasOwnersBelow (workers upto : ℕ) (owners : List ℕ) : Type 0 where
  pub long : length owners ≡ roots
  pub few : upto ≤ shards
  pub shard : (root : ℕ) → root < upto → get_or owners root 0 ≡ root % workers
  pub others : (root : ℕ) → upto ≤ root → root < roots → get_or owners root 0 ≡ 0

pub owners_none : (workers : ℕ) (owners : List ℕ) → owners ≡ replicate roots 0 → HasOwnersBelow workers 0 owners
owners_none workers owners is = record {
  long = ap length is ∙ length-replicate {A = ℕ} roots 0;
  few = omega arith;
  shard = λ root less. absurd (omega arith);
  others = λ root least less. ap (λ os. get_or os root 0) is ∙ get_or-replicate roots root 0 0 less;
}

pub owners_next : (workers shard : ℕ) (owners : List ℕ) → shard < shards → HasOwnersBelow workers shard owners
    → HasOwnersBelow workers (shard + 1) (set owners shard (shard % workers))
owners_next workers shard owners small has = record {
  long = length-set owners shard (shard % workers) ∙ has.long;
  few = omega arith;
  shard = λ root less. elim (cases_eq root shard) as (λ _. get_or (set owners shard (shard % workers)) root 0 ≡ root % workers) [
    | inl same ↦ get_or-set_at owners shard root (shard % workers) 0 same (let l = has.long in omega arith) ∙ ap (λ n. n % workers) (sym same)
    | inr other ↦ get_or-set_other owners shard root (shard % workers) 0 other ∙ has.shard root (omega arith)
  ];
  others = λ root least less. get_or-set_other owners shard root (shard % workers) 0 (λ same. omega (arith, same)) ∙ has.others root (omega arith) less;
}

pub owners_all : (workers : ℕ) (owners : List ℕ) → HasOwnersBelow workers shards owners → owners ≡ words_from (root_owner workers) 0 roots
owners_all workers owners has = same_number_lists owners (words_from (root_owner workers) 0 roots) (has.long
    ∙ sym (length-words_from (root_owner workers) 0 roots))
    (λ root less. at root (let l = has.long in omega arith) ∙ sym (get_or-words_from (root_owner workers) 0 roots root 0 (let l = has.long in
    omega arith) ∙ ap (root_owner workers) (let e : 0 + root ≡ root = omega arith in e))) where
      at : (root : ℕ) → root < roots → get_or owners root 0 ≡ root_owner workers root
      at root inside = elim (cases_lt root shards) as (λ _. get_or owners root 0 ≡ root_owner workers root) [
        | inl small ↦ has.shard root small ∙ sym (shard_owner workers root small)
        | inr past ↦ has.others root past inside ∙ sym (other_owner workers root past)
      ]

module _ (image : Image) (workers : ℕ) (b : Block) where
  -- beside the root of the shard no other one reaches the block
  pub owned_alone : (shard : ℕ) → shard < shards → shard % workers < workers → (IsReachedBeside image (kinds_of image) dict_links shard b → ⊥)
      → IsOwnedBy image workers b (shard % workers)
  owned_alone shard small below alone = record {
    below = below;
    each = λ root kind inside reach. elim (cases_eq root shard) as (λ _. shard % workers ≡ root_owner workers root) [
      | inl same ↦ sym (ap (root_owner workers) same ∙ shard_owner workers shard small)
      | inr other ↦ absurd (alone (record {
        kind = kind;
        reached = more_roots image (kinds_of image) dict_links (λ r is shard_is. other (sym is ∙ shard_is)) b kind reach;
      }))
    ];
  }

  -- beside the root of each shard another one does: then no shard's root reaches it
  pub owned_beside : HasMaps image → 1 ≤ workers → ((shard : ℕ) → shard < shards → IsReachedBeside image (kinds_of image) dict_links shard b)
      → IsOwnedBy image workers b 0
  owned_beside maps some beside = record {
    below = some;
    each = λ root kind inside reach. elim (cases_lt root shards) as (λ _. 0 ≡ root_owner workers root) [
      | inl small ↦ absurd (let map = maps.each root small in let other = beside root small in
          reached_alone image root small map.1.kind_is map.0 map.1 b kind other.kind reach other.reached)
      | inr past ↦ sym (other_owner workers root past)
    ];
  }

module _ (image : Image) (workers : ℕ) (blocks : List Block) where
  -- one block more has its owner
  pub owned_next : (i owner : ℕ) (b : Block) (owners : List ℕ) → i < length blocks → get_or blocks i b ≡ b → IsOwnedBy image workers b owner
      → AreOwnedUpTo image workers blocks i owners
      → AreOwnedUpTo image workers blocks (i + 1) (set owners i owner)
  owned_next i owner b owners inside is owned has = record {
    long = length-set owners i owner ∙ has.long;
    each = λ at a less at_is. elim (cases_eq at i) as (λ _. IsOwnedBy image workers a (get_or (set owners i owner) at workers)) [
      | inl same ↦
          let one : b ≡ a = sym is ∙ get_or_default blocks i b a inside ∙ subst (λ n. get_or blocks n a ≡ a) same at_is in
          subst (IsOwnedBy image workers a) (sym (get_or-set_at owners i at owner workers same (let l = has.long in omega arith)))
          (subst (λ (x : Block). IsOwnedBy image workers x owner) one owned)
      | inr other ↦ subst (IsOwnedBy image workers a) (sym (get_or-set_other owners i at owner workers other)) (has.each at a (omega arith) at_is)
    ];
  }

  -- where all have, and the roots have theirs, they are owners by root
  pub owned_by_root : (block_owners root_owners : List ℕ) → 1 ≤ workers → AreOwnedUpTo image workers blocks (length blocks) block_owners
      → root_owners ≡ words_from (root_owner workers) 0 roots
      → AreOwnersByRoot image blocks workers block_owners root_owners
  owned_by_root block_owners root_owners some owned are = record {
    fits = record {
      blocks = owned.long;
      roots_all = ap length are ∙ length-words_from (root_owner workers) 0 roots;
      block_seats = λ owner there. block_seat owner there.0 there.1 there.2;
      root_seats = λ owner there. root_seat owner (subst (λ os. Contains os owner) are there);
    };
    roots_are = are;
    blocks = λ at root kind b inside is small reach. (owned.each at b inside is).each root kind small reach;
  } where
    block_seat : (owner at : ℕ) → at < length block_owners → get_or block_owners at owner ≡ owner → owner < workers
    block_seat owner at inside is =
        let b = get_or blocks at (record { first_word = 0; words = 0 }) in
        let within : at < length blocks = let l = owned.long in omega arith in
        subst (λ n. n < workers) (get_or_default block_owners at workers owner inside ∙ is)
        (owned.each at b within (get_or_default blocks at b (record { first_word = 0; words = 0 }) within)).below

    root_seat : (owner : ℕ) → Contains (words_from (root_owner workers) 0 roots) owner → owner < workers
    root_seat owner there = subst (λ n. n < workers)
        (sym (get_or-words_from (root_owner workers) 0 roots there.0 owner (let l = length-words_from (root_owner workers) 0 roots in
        let t = there.1 in omega arith)) ∙ there.2) (below_workers (0 + there.0)) where
          below_workers : (root : ℕ) → root_owner workers root < workers
          below_workers root = elim (cases_lt root shards) as (λ _. root_owner workers root < workers) [
            | inl small ↦ subst (λ n. n < workers) (sym (shard_owner workers root small)) (omega arith)
            | inr past ↦ subst (λ n. n < workers) (sym (other_owner workers root past)) some
          ]
