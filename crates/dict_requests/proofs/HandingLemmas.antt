-- A block that goes to another seat, and one that comes from one: what the seat's shards are without it and beside it.
use Rattle.std.proofs.Common.{◌≡◌, ◌≢◌, ℕ, ◌<◌, ◌⊎◌, inl, inr, List, Contains, Some, refl, subst, sym, ◌∙◌}
use Rattle.std.proofs.lemmas.Bool.{cases_eq}
use Rattle.heap_model.specs.declared.block.Block.{Block}
use Rattle.heap_model.specs.Blocks.{IsIn}
use Rattle.heap_model.specs.Geometry.{root_word}
use Rattle.heap_seat.specs.View.{View}
use Rattle.heap_seat.specs.Words.{IsOwn, in_block, in_root, MayBe, KeepsWord}
use Rattle.heap_seat.specs.Calls.{IsSmallCall}
use Rattle.heap_seat.specs.Free.{MayHaveFreed}
use Rattle.heap_seat.specs.Handing.{Accepts, ComesWith, Contents, GoesWith, Offers}
use Rattle.heap_seat.specs.Sound.{IsSeat}
use Rattle.dict_model.specs.Links.{shards}
use Rattle.dict_model.specs.Shards.{Map}
use Rattle.dict_requests.specs.Maps.{GivesMap}
use Rattle.dict_requests.specs.Reached.{Reaches, ReachesAllHeld, ReachesAllHeldBut, ReachesOnlyHeld}
use Rattle.dict_requests.specs.Quiet.{Grown}
use Rattle.dict_requests.specs.Changes.{MayChange}
use Rattle.dict_requests.specs.Removal.{IsLoose, IsShard}
use Rattle.dict_requests.specs.Moving.{IsNodeIn, IsNodeOf, MayBring}
use Rattle.dict_requests.specs.Puts.{RootIsSet}
use Rattle.dict_requests.specs.Shards.{HasShards}
use Rattle.dict_requests.proofs.GrownLemmas.{kind_kept, only_grown, reached_before, reached_held, shard_grown}
use Rattle.dict_requests.proofs.FreedLemmas.{only_freed, gives_freed}
use Rattle.dict_requests.proofs.ExactLemmas.{sees_grown, all_freed}
use Rattle.dict_requests.proofs.MovedLemmas.{node_kept}
use Rattle.dict_requests.proofs.LooseLemmas.{less_seat, less_shard, less_gives, bring_change, change_less}
use Rattle.dict_requests.proofs.WithoutLemmas.{without}
use Rattle.dict_requests.proofs.OthersLemmas.{GivesOthers, LeavesShards, others_give, shards_on}

-- an offered block is gone, as a freed one is
module _ (b : Block) (v w : View) (seat : IsSeat v) (loose : IsLoose b v) (offers : Offers b v w) (call : IsSmallCall v w) where
  stays_but : (a : Block) → Contains v.held a → a ≢ b → Contains w.held a
  stays_but a h differs = elim (offers.blocks.only a h) as (λ _. Contains w.held a) [ inl same ↦ absurd (differs same) | inr left ↦ left ]

  own_left : (word : ℕ) → IsOwn v.held v.roots word → (IsIn b word → ⊥) → IsOwn w.held w.roots word
  own_left _ (in_block a word h inside) out = in_block a word (stays_but a h (λ same. out (subst (λ (x : Block). IsIn x word) same inside))) inside
  own_left _ (in_root i word h is) out = in_root i word (subst (λ (rs : List ℕ). Contains rs i) offers.blocks.roots h) is

  pub offered : MayHaveFreed b v w
  offered = record {
    only = offers.blocks.keeps;
    keeps = stays_but;
    roots = sym offers.blocks.roots;
    words = λ word own out. offers.words word (own_left word own out);
    refusals = call.refusals;
  }

  pub offered_only : ReachesOnlyHeld v → ReachesOnlyHeld w
  offered_only only = only_freed v w b seat offered call.goes_on.kinds only loose.held loose.unreached

  pub offered_gives : (shard : ℕ) (map : Map) → IsShard v shard → GivesMap v shard map → GivesMap w shard map
  offered_gives shard map is gives = gives_freed v w b seat offered call.goes_on.kinds is.only loose.held loose.unreached shard map is.kind_is
      is.owned gives

  pub offered_all : ReachesAllHeldBut b v → ReachesAllHeld w
  offered_all all = all_freed v w b seat offered call.goes_on.kinds loose.held loose.unreached offers.blocks.new all

  pub offered_shards : HasShards v → HasShards w
  offered_shards has = record {
    each = λ shard below.
        let is = has.each shard below in
        record {
          owned = subst (λ (rs : List ℕ). Contains rs shard) offers.blocks.roots is.owned;
          kind_is = kind_kept v w shard call.goes_on.kinds ∙ is.kind_is;
          only = offered_only is.only;
          map = is.map;
          gives = offered_gives shard is.map is is.gives;
        };
  }

-- an accepted one is new, as one is that was allocated
pub accepts_grown : (b : Block) (v w : View) → Accepts b v w → Grown v w
accepts_grown b v w accepts = record { keeps = accepts.blocks.keeps; roots = accepts.blocks.roots; words = accepts.words }

module _ (b : Block) (v w : View) (seat : IsSeat w) (accepts : Accepts b v w) (call : IsSmallCall v w) where
  pub accepted_loose : ReachesOnlyHeld v → IsLoose b w
  accepted_loose only = record {
    held = accepts.blocks.has;
    unreached = λ root kind reached.
        accepts.blocks.new (reached_held v root b kind (reached_before v w
        (accepts_grown b v w accepts) call.goes_on.kinds seat only root b kind reached));
  }

  pub accepted_all : ReachesAllHeld v → ReachesAllHeldBut b w
  accepted_all all = record {
    only = only_grown v w (accepts_grown b v w accepts) call.goes_on.kinds seat all.only;
    all = λ c h differs. elim (accepts.blocks.only c h) as (λ _. (root : ℕ) × (kind : ℕ) × Reaches w root c kind) [
      | inl same ↦ absurd (differs same)
      | inr was ↦ let r = all.all c was in (r.0, r.1, sees_grown v w (accepts_grown b v w accepts) call.goes_on.kinds r.0 c r.1 r.2)
    ];
  }

pub grown_shards : (v w : View) → IsSeat w → Grown v w → w.kinds ≡ v.kinds → HasShards v → HasShards w
grown_shards v w seat grown kinds has = record { each = λ shard below. shard_grown v w shard seat grown kinds (has.each shard below) }

-- the value goes with the block, and comes with it
pub node_goes : (v : View) (b : Block) (c : Contents) (value : List ℕ) → GoesWith b c v → IsNodeOf v b value → IsNodeIn c b value
node_goes v b c value goes node =
    let there : IsNodeOf (record v { volatile = c.volatile; durable = c.durable }) b value =
    node_kept v (record v { volatile = c.volatile; durable = c.durable }) b value (λ word inside behind. goes.words word inside) node in
    record { short = there.short; fits = there.fits; each = there.each }

pub node_comes : (w : View) (b : Block) (c : Contents) (value : List ℕ) → ComesWith b c w → IsNodeIn c b value → IsNodeOf w b value
node_comes w b c value comes node = record {
  short = node.short;
  fits = node.fits;
  each = λ image mixes. node.each image (λ word inside.
      elim (mixes word inside) as (λ _. MayBe (c.volatile word) (image word) ⊎ MayBe (c.durable word) (image word)) [
        | inl seen ↦ inl (subst (λ known. MayBe known (image word)) (comes.volatile word inside) seen)
        | inr left ↦ inr (subst (λ known. MayBe known (image word)) (comes.durable word inside) left)
      ]);
}

-- what a bring leaves of other shards
module _ (v w : View) (b : Block) (shard : ℕ) (may : Map → Map) (seat : IsSeat v) (loose : IsLoose b v) (change : MayBring b shard may v w)
    (small : shard < shards) where
  pub bring_others : GivesOthers shard v w
  bring_others = λ other map differs is gives.
      others_give (without b v) w shard may (less_seat b v seat loose.held) small
      (bring_change b v seat loose.held loose.unreached is.only shard may w change) other map differs
      (less_shard b v seat loose.held loose.unreached is.only other is)
      (less_gives b v seat loose.held loose.unreached is.only other is.owned is.kind_is map gives)

  pub bring_shards : LeavesShards shard v w
  bring_shards = λ after has changes.
      let only = (has.each shard small).only in
      shards_on (without b v) w shard may (less_seat b v seat loose.held) small
      (bring_change b v seat loose.held loose.unreached only shard may w change) after
      (record { each = λ other below. less_shard b v seat loose.held loose.unreached only other (has.each other below) })
      (change_less b v seat loose.held loose.unreached only shard after w changes)

-- a root that is set is so still where it is not stored to
pub set_kept : (v w : View) (shard : ℕ) → KeepsWord v w (root_word shard) → RootIsSet v shard → RootIsSet w shard
set_kept v w shard keeps set = record { value = set.value; seen = keeps.volatile set.value set.seen; some = set.some }

pub set_grown : (v w : View) (shard : ℕ) → Grown v w → Contains v.roots shard → RootIsSet v shard → RootIsSet w shard
set_grown v w shard grown owned = set_kept v w shard (grown.words (root_word shard) (in_root shard (root_word shard) owned refl))

pub set_offered : (v w : View) (b : Block) (shard : ℕ) → Offers b v w → Contains v.roots shard → RootIsSet v shard → RootIsSet w shard
set_offered v w b shard offers owned =
    set_kept v w shard (offers.words (root_word shard) (in_root shard (root_word shard)
    (subst (λ (rs : List ℕ). Contains rs shard) offers.blocks.roots owned) refl))

pub set_changed : (v w : View) (shard other : ℕ) (may : Map → Map) → MayChange shard may v w → Contains v.roots other → RootIsSet v other
    → RootIsSet w other
set_changed v w shard other may change owned set = elim (cases_eq other shard) as (λ _. RootIsSet w other) [
  | inl same ↦ subst (RootIsSet w) (sym same) (record {
    value = set.value;
    seen = change.table.root set.value (subst (Contains v.roots) same owned)
        (subst (λ n. v.volatile (root_word n) ≡ Some set.value) same set.seen) set.some;
    some = set.some;
  })
  | inr differs ↦ set_kept v w other (change.others.root_words other owned differs) set
]

pub set_brought : (v w : View) (b : Block) (shard other : ℕ) (may : Map → Map) → MayBring b shard may v w → Contains v.roots other
    → RootIsSet v other → RootIsSet w other
set_brought v w b shard other may change owned set = elim (cases_eq other shard) as (λ _. RootIsSet w other) [
  | inl same ↦ subst (RootIsSet w) (sym same) (record {
    value = set.value;
    seen = change.table.root set.value (subst (Contains v.roots) same owned)
        (subst (λ n. v.volatile (root_word n) ≡ Some set.value) same set.seen) set.some;
    some = set.some;
  })
  | inr differs ↦ set_kept v w other (change.others.root_words other owned differs) set
]
