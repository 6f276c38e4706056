-- How what calls leave of a shard goes together.
use Rattle.std.proofs.Common.{◌≡◌, ℕ, ◌<◌, List, inl, inr, Contains, refl, subst, sym, arith}
use Rattle.heap_model.specs.declared.block.Block.{Block}
use Rattle.heap_model.specs.Geometry.{root_word}
use Rattle.heap_model.specs.Blocks.{IsIn}
use Rattle.heap_seat.specs.View.{View, kind_of}
use Rattle.heap_seat.specs.Words.{in_root, MayHaveStored}
use Rattle.heap_seat.specs.Free.{MayHaveFreed}
use Rattle.heap_seat.specs.Sound.{IsSeat}
use Rattle.dict_model.specs.Links.{shards, table_kind}
use Rattle.dict_model.specs.Shards.{Map}
use Rattle.dict_requests.specs.Maps.{GivesMap, KeepsTable, KeepsOtherShards}
use Rattle.dict_requests.specs.Reached.{MayReach, ReachesOnlyHeld}
use Rattle.dict_requests.specs.Changes.{MayChange, Changes}
use Rattle.dict_requests.proofs.GrownLemmas.{Grown, gives_grown, only_grown, others_grown, reached_before}
use Rattle.dict_requests.proofs.PublishLemmas.{others_then}
use Rattle.dict_requests.proofs.FreedLemmas.{gives_freed, only_freed, others_freed}

-- a shard keeps its table where nothing that was own is stored to
pub table_grown : (shard : ℕ) (v w : View) → Grown v w → KeepsTable shard v w
table_grown shard v w grown = record {
  root = λ x owned seen some.
      (grown.words (root_word shard) (in_root shard (root_word shard) owned refl)).volatile x seen;
}

-- over one call and another
pub table_then : (shard : ℕ) (v u w : View) → (Contains v.roots shard → Contains u.roots shard) → KeepsTable shard v u → KeepsTable shard u w
    → KeepsTable shard v w
table_then shard v u w still a b = record { root = λ x owned seen some. b.root x (still owned) (a.root x owned seen some) some }

-- where another word is stored to
pub table_stored : (shard p x : ℕ) (u w : View) → (Contains u.roots shard → root_word shard ≡ p → ⊥) → MayHaveStored p x u w → KeepsTable shard u w
table_stored shard p x u w other may = record {
  root = λ y owned seen some. (may.others (root_word shard) (in_root shard (root_word shard) owned refl) (other owned)).volatile y seen;
}

-- where a block is freed
pub table_freed : (shard : ℕ) (w x : View) (b : Block) → shard < shards → IsSeat w → Contains w.held b → MayHaveFreed b w x → KeepsTable shard w x
table_freed shard w x b small seat h may = record {
  root = λ y owned seen some. (may.words (root_word shard) (in_root shard (root_word shard) owned refl) outside).volatile y seen;
} where
  outside : IsIn b (root_word shard) → ⊥
  outside inside = let behind = (seat.placed b h).behind in let from = inside.from in omega arith

module _ (shard : ℕ) (after : Map → Map) where
  -- nothing was changed
  pub change_none : (v w : View) → Grown v w → w.kinds ≡ v.kinds → IsSeat w → ReachesOnlyHeld v → MayChange shard after v w
  change_none v w grown kinds seat only = record {
    either = λ map gives. record { each = λ image mixes. inl ((gives_grown v w grown shard map gives).each image mixes) };
    only = only_grown v w grown kinds seat only;
    table = table_grown shard v w grown;
    others = others_grown v w grown kinds shard;
  }

  -- a change, and what calls before it left
  pub change_after : (v u w : View) → Grown v u → u.kinds ≡ v.kinds → IsSeat u → ReachesOnlyHeld v → MayChange shard after u w
      → MayChange shard after v w
  change_after v u w grown kinds seat only change = record {
    either = λ map gives. change.either map (gives_grown v u grown shard map gives);
    only = change.only;
    table = table_then shard v u w (subst (λ (rs : List ℕ). Contains rs shard) (sym grown.roots)) (table_grown shard v u grown) change.table;
    others = others_then shard v u w (λ b kind h reached. reached_before v u grown kinds seat only shard b kind reached)
        (others_grown v u grown kinds shard) change.others;
  }

  pub changes_after : (v u w : View) → Grown v u → Changes shard after u w → Changes shard after v w
  changes_after v u w grown changes = record { gives = λ map gives. changes.gives map (gives_grown v u grown shard map gives) }

  -- a block that is freed after the change, when nothing reaches it any more
  pub freed : (u w x : View) (b : Block) (kind : ℕ) → shard < shards → kind_of w shard ≡ table_kind → IsSeat w → Contains w.roots shard
      → Contains w.held b → Changes shard after u w → ReachesOnlyHeld w → KeepsTable shard u w → KeepsOtherShards shard u w
      → MayReach u shard b kind → ((root other : ℕ) → MayReach w root b other → ⊥) → MayHaveFreed b w x → x.kinds ≡ w.kinds
      → Changes shard after u x × MayChange shard after u x
  freed u w x b kind small root_is seat owned h changes only table others reached unreached may kinds =
      let done : (map : Map) → GivesMap u shard map → GivesMap x shard (after map) =
      λ map gives. gives_freed w x b seat may kinds only h unreached shard (after map) root_is owned (changes.gives map gives) in (
        record { gives = done },
        record {
          either = λ map gives. record { each = λ image mixes. inr ((done map gives).each image mixes) };
          only = only_freed w x b seat may kinds only h unreached;
          table = table_then shard u w x (λ _. owned) table (table_freed shard w x b small seat h may);
          others = others_freed shard kind u w x b seat h reached others may kinds;
        },
      )
