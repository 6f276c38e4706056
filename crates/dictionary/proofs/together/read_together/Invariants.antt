use Rattle.std.proofs.Common.{◌≡◌, ℕ, ◌+◌, ◌-◌, ◌<◌, ◌≤◌, ◌^◌, [], length, slice_index, Contains, All}
use Rattle.std.specs.BTreeMap.{get, IsOrdered, btree_map_len}
use Rattle.std.specs.Ordering.{nat_cmp}
use Rattle.std.specs.VecDeque.{deque_len, deque_capacity}
use Rattle.dict_model.specs.Nodes.{buckets}
use Rattle.dict_model.specs.Shards.{LeadsAlone}
use Rattle.dictionary.proofs.TogetherLemmas.{IsMapAlong}
use Rattle.dictionary.proofs.together.read_together.Given as goal

abbrev pub invariant-loop-bucket : goal.invariant-loop-bucket
invariant-loop-bucket l = record {
  empty : l.map.entries ≡ [];
  first : (k : ℕ) → k < l.bucket → slice_index l.links k ≡ l.table.first_word + k;
  all : (k : ℕ) → k < l.bucket → Contains l.unread.items k;
  ordered : IsOrdered nat_cmp l.map;
  few : All (λ k. k < buckets) l.unread.items;
  long : length l.links ≡ buckets;
  count : deque_len l.unread ≡ l.bucket;
  room : buckets ≤ deque_capacity l.unread;
}

abbrev pub invariant-loop-bucket-2 : goal.invariant-loop-bucket-2
invariant-loop-bucket-2 l = record {
  along : IsMapAlong (LeadsAlone (slice_index l.walk.scan.words.now) l.walk.shard)
      (slice_index l.walk.scan.words.now) l.walk.shard l.table l.links l.unread.items (get nat_cmp l.map);
  ordered : IsOrdered nat_cmp l.map;
  few : All (λ k. k < buckets) l.unread.items;
  inside : (k : ℕ) → k < buckets → slice_index l.links k < length l.walk.scan.words.now;
  long : length l.links ≡ buckets;
  count : deque_len l.unread ≤ buckets;
  room : buckets ≤ deque_capacity l.unread;
}

abbrev pub decreases-loop-bucket-2 : goal.decreases-loop-bucket-2
decreases-loop-bucket-2 l = 2 ^ 63 - btree_map_len l.map + deque_len l.unread
