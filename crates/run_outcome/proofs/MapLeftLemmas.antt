-- The maps that the image that is left has: each shard's is that after its answered requests and what its worker has
-- brought in or, where that was stopped in a request to it, the one after that too.
use Rattle.std.proofs.Common.{◌≡◌, ℕ, ◌<◌, ◌≤◌, ◌⊎◌, inl, inr, List, ◌++◌, length, take, slice_index, Contains, subst, sym, ap, ◌∙◌, arith}
use Rattle.std.specs.Prelude.{Bool}
use Rattle.std.proofs.lemmas.Bool.{cases_eq, cases_lt}
use Rattle.std.proofs.lemmas.List.{length-map}
use Rattle.std.proofs.lemmas.List.Elements.{filter-append}
use Rattle.heap_model.specs.declared.block.Block.{Block}
use Rattle.seat_model.specs.CacheState.{heap_view}
use Rattle.dict_model.specs.Links.{shards, table_kind}
use Rattle.dict_model.specs.Requests.{Request, after}
use Rattle.dict_model.specs.Shards.{Map, MapOf}
use Rattle.dict_requests.specs.Maps.{IsMapIn}
use Rattle.dict_requests.proofs.ImageLemmas.{walk_of}
use Rattle.dict_requests.proofs.SeatsLemmas.{walk_alone, image_kind}
use Rattle.run_model.specs.Arrivals.{IsWholeMap, worker_arrivals, arrived_for}
use Rattle.run_model.specs.Needs.{is_to}
use Rattle.run_model.specs.Runs.{answered, of_shard, worker_answered, worker_unanswered, IsMapLeft, LeavesMaps}
use Rattle.run_model.specs.Sending.{put_of, puts_of}
use Rattle.run_model.specs.Workers.{Replies, worker_of, root_owner, worker_requests, worker_replies}
use Rattle.run_model.proofs.SendingLemmas.{all_come}
use Rattle.run_outcome.specs.Together.{HaveWorked}
use Rattle.run_outcome.proofs.CameLemmas.{HaveCome, have_come}
use Rattle.run_outcome.proofs.ReplyLemmas.{owned_before, ended_answered, ended_left}
use Rattle.run_outcome.proofs.ShardLemmas.{of_its_worker}
use Rattle.run_outcome.proofs.ShareLemmas.{share, mixes, stands_last, worker_below, owns_shard}

-- where each number below a count has one that fits it, a function gives these
module _ (Fits : ℕ → ℕ → Type 0) (count : ℕ) (each : (i : ℕ) → i < count → (n : ℕ) × Fits i n) where
  abbrev fitting : (i : ℕ) → (i < count) ⊎ (count ≤ i) → ℕ
  fitting i (inl below) = (each i below).0
  fitting i (inr over) = 0

  fits : (i : ℕ) → i < count → (d : (i < count) ⊎ (count ≤ i)) → Fits i (fitting i d)
  fits i below (inl less) = (each i less).1
  fits i below (inr over) = absurd (omega arith)

  one_function : (f : ℕ → ℕ) × ((i : ℕ) → i < count → Fits i (f i))
  one_function = (λ i. fitting i (cases_lt i count), λ i below. fits i below (cases_lt i count))

module _ (words : List ℕ) (held : List Block) (workers budget : ℕ) (requests : List Request) (replies : Replies) (stopped : Bool)
    (now kept left : List ℕ)
    (h : HaveWorked words held workers budget requests replies stopped now kept left) where
  -- a map in the words of a worker's seat is the shard's map
  map_left : (i shard : ℕ) (m : Map) → i < workers → shard < shards → IsMapIn (heap_view (h.last i)) (slice_index left) shard m
      → MapOf (slice_index left) shard m
  map_left i shard m below small has =
      let seats = λ (i : ℕ). heap_view (h.last i) in
      let shared = share words held workers budget requests replies stopped now kept left h in
      let mixed = mixes words held workers budget requests replies stopped now kept left h in
      let stands = stands_last words held workers budget requests replies stopped now kept left h i below in
      let root_is = sym (stands.kinds.each shard (omega arith)) ∙ (h.dictionary.maps.each shard small).1.kind_is in
      walk_alone workers seats (slice_index left) shared mixed shard m small
      (image_kind workers seats (slice_index left) shared mixed i shard table_kind below small root_is)
      (walk_of (seats i) (slice_index left) shard m (mixed.names i below) has)

  -- a worker has a shard or not
  owns : (i : ℕ) → i < workers → (shard : ℕ) → shard < shards → Contains (h.last i).view.roots shard ⊎ (Contains (h.last i).view.roots shard → ⊥)
  owns i below shard small =
      let has = (h.parts i below).roots_own shard (omega arith) in
      elim (cases_eq (root_owner workers shard) i) as (λ _. Contains (h.last i).view.roots shard ⊎ (Contains (h.last i).view.roots shard → ⊥)) [
        | inl same ↦ inl (has.1 same)
        | inr other ↦ inr (λ there. other (has.0 there))
      ]

  -- so many have arrived of what came to the worker
  abbrev HasCome : ℕ → ℕ → Type 0
  HasCome i = HaveCome (slice_index words) (slice_index left) (worker_answered workers i requests replies)
      (worker_unanswered workers i requests replies)
      (h.came i) stopped (heap_view (h.last i))

  has_come : (i : ℕ) → i < workers → (n : ℕ) × HasCome i n
  has_come i below =
      let part = h.parts i below in
      let mine = worker_requests workers i requests in
      let final = worker_replies workers i requests replies in
      let image = slice_index words in
      let last = heap_view (h.last i) in
      let come = have_come image mine (h.told i) (h.came i) (h.brought i) h.halted (h.stops i) stopped last part.ended
      (λ stop. h.stopped_by.1 (i, below, stop)) h.halts h.dictionary.maps
      (owned_before image mine (h.told i) final (h.padded i below) (h.came i) (h.brought i) h.halted (h.stops i) last part.ended) (owns i below)
      (slice_index left)
      ((mixes words held workers budget requests replies stopped now kept left h).mixes i below) (λ shard m small. map_left i shard m below small) in (
        come.0,
        subst (λ rs. HaveCome image (slice_index left) rs (worker_unanswered workers i requests replies) (h.came i) stopped last come.0)
            (sym (ended_answered image mine (h.told i) final (h.padded i below) (h.came i) (h.brought i) h.halted (h.stops i) last part.ended))
            (subst (λ rest. HaveCome image (slice_index left) part.ended.rs rest (h.came i) stopped last come.0)
            (sym (ended_left image mine (h.told i) final (h.padded i below) (h.came i) (h.brought i) h.halted (h.stops i) last part.ended)) come.1),
      )

  -- and by worker
  have_arrived : (arrived : ℕ → ℕ) × ((i : ℕ) → i < workers → HasCome i (arrived i))
  have_arrived = one_function HasCome workers has_come

  -- what came to a worker is what arrives there
  came_arrive : (i : ℕ) → i < workers → (whole : Map) → IsWholeMap (slice_index words) whole
      → puts_of (h.came i) ≡ worker_arrivals workers i whole (answered requests replies)
  came_arrive i below whole is = ap puts_of (h.came_are whole is i below) ∙ all_come workers i whole requests replies

  -- what is left of each shard
  pub leaves_maps : LeavesMaps (slice_index words) workers requests replies stopped (slice_index left)
  leaves_maps = record {
    arrived = have_arrived.0;
    have_arrived = record {
      all = λ going whole is shard small.
          let i = worker_of workers shard in
          let below = worker_below words held workers budget requests replies stopped now kept left h shard in
          (have_arrived.1 i below).every going ∙ sym (length-map (h.came i) put_of) ∙ ap length (came_arrive i below whole is);
      none = λ shard small some. (have_arrived.1 (worker_of workers shard)
          (worker_below words held workers budget requests replies stopped now kept left h shard)).none some;
    };
    each = λ whole is_whole shard map small of.
        let i = worker_of workers shard in
        let below = worker_below words held workers budget requests replies stopped now kept left h shard in
        let mine = worker_answered workers i requests replies in
        let rs = answered requests replies in
        let came = arrived_for workers shard whole rs have_arrived.0 in
        subst (λ xs. IsMapLeft (slice_index left) shard (after map xs) stopped (worker_unanswered workers i requests replies))
        (filter-append (λ r. is_to shard r.0) mine came ∙ ap (λ xs. xs ++ of_shard shard came) (sym (of_its_worker workers shard requests replies))
        ∙ sym (filter-append (λ r. is_to shard r.0) rs came))
        (subst (λ xs. IsMapLeft (slice_index left) shard (after map (of_shard shard (mine ++ take (have_arrived.0 i) xs))) stopped
        (worker_unanswered workers i requests replies))
        (came_arrive i below whole is_whole)
        ((have_arrived.1 i below).each shard map small (owns_shard words held workers budget requests replies stopped now kept left h shard small) of));
  }
