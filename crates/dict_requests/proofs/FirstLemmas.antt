-- Putting a new key in front of its bucket, and why a put was refused.
use Rattle.std.proofs.Common.{◌≡◌, ℕ, ◌+◌, ◌≤◌, List, [], None, refl, ◌∙◌, arith, Some, inl, inr, ◌⊎◌, Contains, subst, sym}
use Rattle.heap_model.specs.declared.block.Block.{Block}
use Rattle.heap_model.specs.Image.{Image}
use Rattle.heap_seat.specs.declared.fault.AllocFault.{AllocFault}
use Rattle.heap_seat.specs.declared.fault.AllocFault.TheVariants.{Full, Stopped}
use Rattle.heap_seat.specs.declared.look.Look.{Look}
use Rattle.heap_seat.specs.declared.fault.Looks.{Looks}
use Rattle.heap_seat.specs.View.{View}
use Rattle.heap_seat.specs.Words.{IsOwn, KeepsOwn, MixesOwn, MayHaveStored, in_block}
use Rattle.heap_seat.specs.Tickets.{Runs}
use Rattle.heap_seat.specs.Calls.{SameRefusals}
use Rattle.heap_seat.specs.Alloc.{FailsBy}
use Rattle.heap_seat.specs.Looks.{IsLastSeen, FoundEmpty}
use Rattle.heap_seat.specs.Sound.{IsSeat}
use Rattle.heap_seat.proofs.CallerLemmas.{keeps_own_then}
use Rattle.heap_seat.proofs.RowLemmas.{runs_then, stops_then, same_refusals_then}
use Rattle.dict_model.specs.Nodes.{shard_of, bucket_of}
use Rattle.dict_model.specs.Requests.{with_key}
use Rattle.dict_model.specs.Shards.{Map, LeadsTo}
use Rattle.dict_requests.specs.Maps.{IsMapIn, GivesMap}
use Rattle.dict_requests.specs.Reached.{ReachesOnlyHeld, Reaches, ReachesAllHeld}
use Rattle.dict_requests.specs.Trails.{pointer_to, IsDurableAt, IsSettling, HasCome}
use Rattle.dict_requests.specs.Quiet.{Grown, FollowsLink}
use Rattle.dict_requests.specs.Nodes.{HasNode}
use Rattle.dict_requests.specs.Changes.{Changes}
use Rattle.dict_requests.specs.Removal.{IsShard}
use Rattle.dict_requests.specs.Puts.{IsMissing, IsRefused, PutFails}
use Rattle.dict_requests.proofs.GrownLemmas.{stays_held, kind_kept, grown_keeps, grown_then, own_grown, new_block_outside, gives_grown, only_grown, shard_grown}
use Rattle.dict_requests.proofs.TrailLemmas.{settles, come_stays, bucket_own, bucket_below, same_map, leads_held}
use Rattle.dict_requests.proofs.QuietLemmas.{still_settling}
use Rattle.dict_requests.proofs.ComeLemmas.{followed_leads, bucket_followed, link_followed, link_behind_roots}
use Rattle.dict_requests.proofs.PutLemmas.{MaySet, put_left, put_done, new_key, publish}
use Rattle.heap_model.specs.Blocks.{IsIn}
use Rattle.dict_requests.proofs.ExactLemmas.{target_sees, come_sees, node_link, sees_grown, sees_after}
use Rattle.dict_requests.proofs.ExactCallLemmas.{come_kept}
use Rattle.dict_model.specs.Links.{node_kind}
use Rattle.dict_requests.proofs.ChangeLemmas.{change_after, changes_after}
use Rattle.dict_requests.proofs.DeleteLemmas.{shard_below}

-- a look by a later call is one by the whole row
seen_before : (v u w : View) (look : Look) (seen : ℕ) → v.next ≤ u.next → IsLastSeen u w look seen → IsLastSeen v w look seen
seen_before v u w look seen later last = record {
  is = last.is;
  ticket = last.ticket;
  by = last.by;
  drawn = record { from = let from = last.drawn.from in omega arith; until = last.drawn.until };
  taken = last.taken;
}

empty_before : (v u w : View) (list head : ℕ) → v.next ≤ u.next → FoundEmpty u w list head → FoundEmpty v w list head
empty_before v u w list head later found = record { last = seen_before v u w (w.head_look list) head later found.last; empty = found.empty }

-- a refusal in a later call
pub refused_before : (bytes before behind most : ℕ) (looks : Looks) (v u w : View) → Runs v u → SameRefusals v u → u.taken ≤ v.taken + before
    → before + behind ≤ most
    → IsRefused bytes behind looks u w → IsRefused bytes most looks v w
refused_before bytes before behind most looks v u w runs same taken sum refused =
    let later : v.next ≤ u.next = let drew = runs.drew in omega arith in
    record {
      runs = runs_then v u w runs refused.runs;
      found = record {
        used = seen_before v u w w.used_look looks.used later refused.found.used;
        past = refused.found.past;
        class = λ c least. empty_before v u w c looks.class_head later (refused.found.class c least);
        free = λ small. empty_before v u w 0 looks.free_head later (refused.found.free small);
        large = refused.found.large;
      };
      count = let a = same.count in let b = refused.count in omega arith;
      bytes_are = refused.bytes_are;
      looks_are = refused.looks_are;
      taken = let t = refused.taken in omega arith;
    }

-- the cause of a refusal, and of a stop, over calls before
pub put_fails : (bytes : ℕ) (fault : AllocFault) (v u w : View) → Runs v u → KeepsOwn v u → SameRefusals v u → u.taken ≤ v.taken + 0
    → ((looks : Looks) → fault ≡ Full looks → KeepsOwn u w) → FailsBy bytes fault u w
    → PutFails bytes fault v w
put_fails bytes (Full looks) v u w runs before same taken after fails = (
  refused_before bytes 0 0 0 looks v u w runs same taken (omega arith) (record {
    runs = fails.runs;
    found = fails.found;
    count = fails.count;
    bytes_are = fails.bytes_are;
    looks_are = fails.looks_are;
    taken = let t = fails.taken in omega arith;
  }),
  keeps_own_then v u w before (after looks refl),
)
put_fails bytes (Stopped stopped) v u w runs before same taken after fails =
    (stops_then stopped.step v u w runs fails.0, same_refusals_then v u w same fails.1)

module _ (v t u w : View) (seat_t : IsSeat t) (seat : IsSeat u) (key first x : ℕ) (value : List ℕ) (table n : Block)
    (shard : IsShard v (shard_of key)) (missing : IsMissing v key table)
    (seat_v : IsSeat v) (keeps : KeepsOwn v t) (follows : FollowsLink (table.first_word + bucket_of key) first v t) (grown_u : Grown t u)
    (makes : HasNode n key first value t u)
    (points : x ≡ pointer_to n) (may : MayHaveStored (table.first_word + bucket_of key) x u w)
    (kinds_t : t.kinds ≡ v.kinds) (kinds_u : u.kinds ≡ t.kinds) (kinds_w : w.kinds ≡ u.kinds) where
  settle : (word y : ℕ) → IsOwn t.held t.roots word → IsSettling t word y → IsDurableAt u word y
  settle word y own settling = settles t u word y own (grown_u.words word own) makes.settles settling

  come_t : HasCome IsSettling t (shard_of key) key table []
  come_t = come_stays IsSettling IsSettling v t (shard_of key) key table [] seat_v (grown_keeps v t keeps)
      (λ word y own settling. still_settling v t word y own keeps follows.goes settling) missing.come

  come_u : HasCome IsDurableAt u (shard_of key) key table []
  come_u = come_stays IsSettling IsDurableAt t u (shard_of key) key table [] seat_t grown_u settle come_t

  own_t : IsOwn t.held t.roots (table.first_word + bucket_of key)
  own_t = bucket_own t table (bucket_of key) come_t.held_table come_t.size (bucket_below key)

  grown_all : Grown v u
  grown_all = grown_then v t u (grown_keeps v t keeps) grown_u

  grown_t : Grown v t
  grown_t = grown_keeps v t keeps

  kinds_all : u.kinds ≡ v.kinds
  kinds_all = kinds_u ∙ kinds_t

  still : IsShard u (shard_of key)
  still = shard_grown v u (shard_of key) seat grown_all kinds_all shard

  only_t : ReachesOnlyHeld t
  only_t = only_grown v t grown_t kinds_t seat_t shard.only

  was : IsDurableAt u (table.first_word + bucket_of key) first
  was = settle (table.first_word + bucket_of key) first own_t follows.settling

  none_u : (map : Map) → GivesMap u (shard_of key) map → map key ≡ None
  none_u map gives = same_map u seat (shard_of key) map shard.map gives (gives_grown v u grown_all (shard_of key) shard.map shard.gives) key
      ∙ missing.none shard.map shard.gives

  new_map : (map : Map) → GivesMap u (shard_of key) map → (image : Image) → MixesOwn w image → image (table.first_word + bucket_of key) ≡ x
      → IsMapIn w image (shard_of key) (with_key map key value)
  new_map = new_key t u seat grown_u kinds_u only_t key first value n makes.held makes.new makes.node makes.key_is makes.next_is
      (followed_leads u seat (shard_of key) (shard_below key) (table.first_word + bucket_of key) first
      (bucket_followed u seat key (shard_below key) table [] come_u still.kind_is) was still.only)
      w still.only table [] [] come_u come_u (table.first_word + bucket_of key) x first refl was may points own_t come_t.held_table was
      (own_grown t u (table.first_word + bucket_of key) grown_u own_t) still.kind_is kinds_w refl none_u

  pub first_left : MaySet key value v w
  first_left = change_after (shard_of key) (λ map. with_key map key value) v u w grown_all kinds_all seat shard.only
      (put_left t u seat grown_u kinds_u only_t key first value n makes.held makes.new makes.node makes.key_is makes.next_is
      (followed_leads u seat (shard_of key) (shard_below key) (table.first_word + bucket_of key) first
      (bucket_followed u seat key (shard_below key) table [] come_u still.kind_is) was still.only)
      w still.only table [] [] come_u come_u (table.first_word + bucket_of key) x first refl was may points own_t come_t.held_table was
      (own_grown t u (table.first_word + bucket_of key) grown_u own_t) still.kind_is kinds_w new_map)

  pub first_done : IsDurableAt w (table.first_word + bucket_of key) x → Changes (shard_of key) (λ map. with_key map key value) v w
  first_done settled = changes_after (shard_of key) (λ map. with_key map key value) v u w grown_all
      (put_done t u seat grown_u kinds_u only_t key first value n makes.held makes.new makes.node makes.key_is makes.next_is
      (followed_leads u seat (shard_of key) (shard_below key) (table.first_word + bucket_of key) first
      (bucket_followed u seat key (shard_below key) table [] come_u still.kind_is) was still.only)
      w still.only table [] [] come_u come_u (table.first_word + bucket_of key) x first refl was may points own_t come_t.held_table was
      (own_grown t u (table.first_word + bucket_of key) grown_u own_t) still.kind_is kinds_w new_map settled)

  -- all that is held is reached still, the new node in front of the bucket's others
  pub all_first : IsSeat w → IsDurableAt w (table.first_word + bucket_of key) x → ReachesAllHeld v → ReachesAllHeld w
  all_first seat_w settled all = record {
    only = first_left.only;
    all = λ c h. elim (makes.only c (subst (λ (bs : List Block). Contains bs c) may.held h)) as (λ _. (root : ℕ) × (kind : ℕ) × Reaches w root c kind) [
      | inl same ↦ (shard_of key, node_kind, subst (λ (d : Block). Reaches w (shard_of key) d node_kind) (sym same) n_reached)
      | inr before ↦
          let r = all.all c (subst (λ (bs : List Block). Contains bs c) keeps.held before) in
          elim (past r.0 c r.1 (sees_grown v u grown_all kinds_all r.0 c r.1 r.2)) as (λ _. (root : ℕ) × (kind : ℕ)
          × Reaches w root c kind) [ inl on ↦ (r.0, r.1, on) | inr none ↦ absurd none ]
    ];
  } where
    n_reached : Reaches w (shard_of key) n node_kind
    n_reached = target_sees w (shard_of key) (table.first_word + bucket_of key) x n
        (come_sees w key table [] seat_w (come_kept u w key (table.first_word + bucket_of key)
        x table [] still.map seat still.gives come_u refl may) (kind_kept u w (shard_of key) kinds_w ∙ still.kind_is))
        settled.seen (subst (λ q. LeadsTo (Contains w.held) q n) (sym points) (leads_held w n seat_w (stays_held u w may.held n makes.held)))

    n_next : w.volatile n.first_word ≡ Some first
    n_next =
        let room = makes.node.fits in
        let zero_more : n.first_word + 0 ≡ n.first_word = omega arith in
        let inside : IsIn n (n.first_word + 0) = record { from = omega arith; until = omega arith } in
        subst (λ q. w.volatile q ≡ Some first) zero_more
        ((may.others (n.first_word + 0) (in_block n (n.first_word + 0) makes.held inside)
        (λ e. new_block_outside t u n seat grown_u makes.held makes.new (table.first_word + bucket_of key) own_t
        (subst (IsIn n) e inside))).volatile first makes.next_is.seen)

    past : (root : ℕ) (c : Block) (k : ℕ) → Reaches u root c k → Reaches w root c k ⊎ ⊥
    past = sees_after u w seat (shard_of key) (table.first_word + bucket_of key) x first (shard_below key) may kinds_w still.only
        (link_followed u seat key (shard_below key) table [] come_u still.kind_is)
        (publish t u seat grown_u kinds_u only_t key first value n makes.held makes.new makes.node makes.key_is makes.next_is
        (followed_leads u seat (shard_of key) (shard_below key) (table.first_word + bucket_of key) first
        (bucket_followed u seat key (shard_below key) table [] come_u still.kind_is) was still.only)
        w still.only table [] [] come_u come_u (table.first_word + bucket_of key) x first refl was may points own_t come_t.held_table was
        (own_grown t u (table.first_word + bucket_of key) grown_u own_t) still.kind_is kinds_w)
        was (λ root owned e. link_behind_roots u key table [] root seat owned come_u e) (λ d. ⊥)
        (λ d leads. inr (target_sees w (shard_of key) n.first_word first d (node_link w (shard_of key) n seat_w n_reached) n_next
        (stays_held u w may.held d leads.0, leads.1)))
        (λ a d read none seen leads. absurd none) (λ root a kind none reached. absurd none)
