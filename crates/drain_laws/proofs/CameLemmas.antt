-- Where a seat is alone and gives no batch, no superblock comes to the list of a class.
use Rattle.std.proofs.Common.{◌≡◌, ◌≢◌, ℕ, zero, suc, ◌+◌, ◌<◌, ◌≤◌, inl, inr, Bool, true, false, cond, nat_eq, nat_lt, List, [], ◌∷◌, ◌++◌, Contains, Option, None, Some, get_or, set, length, length-append, length-set, refl, ap, sym, subst, ◌∙◌, eq-eqb, eqb-true, ne_eqb, arith}
use Rattle.std.proofs.lemmas.Bool.{cases_eq}
use Rattle.heap_model.specs.Chains.{Follows}
use Rattle.heap_model.specs.Counting.{times, one_if, total}
use Rattle.heap_model.specs.Geometry.{lists, largest_capacity_fits}
use Rattle.heap_model.specs.Sizes.{IsClass}
use Rattle.heap_model.specs.Words.{head_first, head_pops, full_anchor}
use Rattle.heap_model.proofs.ListLemmas.{follows_small, one_at_most}
use Rattle.heap_at_rest.proofs.ListLemmas.{follows_same, one_following, times_of}
use Rattle.core_model.specs.declared.event.Event.{Event}
use Rattle.core_model.specs.declared.event.Event.TheVariants.{Tick, Load, Store, Settle, LookUsed, TakeFresh, KeepUsed, LookHead, LookLink, Pop, Push, LookAnchor, TakeAll, Give}
use Rattle.core_model.specs.declared.event.Shift.{Shift}
use Rattle.core_model.specs.declared.event.Shift.TheVariants.{Cut, Alloc, Free, Lift, Large, Split}
use Rattle.core_model.specs.Cells.{Cell, used_cell, head_cell, info_cell, anchor_cell, link_cell, root_cell, data_cell, no_cell, cell_at}
use Rattle.core_model.specs.Effects.{batch_anchor, before, claim_class, claimed, cleared, drew, given, lost, place_of, popped, popped_head, pushed, pushed_head, pushed_raw, pushed_classed, seen, seen_of, seen_word, stopped, stored, taken_all, taken_fresh, trimmed, used_up, learn, without_claim, won}
use Rattle.core_model.specs.ViewAfter.{shifted}
use Rattle.core_model.specs.Guards.{IsOwn, MayStep, MayPop, MayPush, MayList, as_free, of_its_class}
use Rattle.core_model.specs.Memory.{Memory, StepPlace, used, head, link, memory_of, read, write, volatile_at}
use Rattle.core_model.specs.Orders.{AreReordered}
use Rattle.core_model.specs.Sound.{CoreShape, Good, KnowsHead, Sound}
use Rattle.core_model.specs.Steps.{TableState, found_by, memory_after, seat_after, words_after}
use Rattle.core_model.specs.View.{Claim, Setup, View, no_batch, times_classed, times_claimed, times_own}
use Rattle.core_model.proofs.CountLemmas.{class_without, times_without_claim}
use Rattle.core_model.proofs.FrameLemmas.{with_other}
use Rattle.core_model.proofs.ListLemmas.{IsFirst, first_is, head_parts, in_lists_at}
use Rattle.core_model.proofs.MemoryLemmas.{write_read}
use Rattle.core_model.proofs.SoundLemmas.{in_table}
use Rattle.core_model.proofs.TableLemmas.{memory_set}
use Rattle.core_model.proofs.TotalLemmas.{eq-eqb-one, ne-eqb-none}
use Rattle.core_model.specs.Carriers.{accepted, AreOneLess, AreSeatsAndCarriers, carrier_of, IsCarrier, offered, one_if_carrier}
use Rattle.core_model.proofs.RoleLemmas.{Role, role_after}
use Rattle.core_model.proofs.TotalLemmas.{total_at}
use Rattle.heap_table.specs.Reached.{IsReached, at_opening, by_event, by_record, by_offer, by_accept, in_another_order, learned}
use Rattle.heap_table.proofs.ReachedLemmas.{reached_counted, reached_sound}
use Rattle.heap_table.proofs.DealLemmas.{length_total}
use Rattle.heap_model.proofs.MemberLemmas.{in_head}
use Rattle.seat_costs.specs.Idle.{IsIdle}
use Rattle.seat_costs.proofs.AloneLemmas.{one_at, one_of, one_set}
use Rattle.drain_laws.specs.Gains.{CameFrom, IsListed, NoneCame}

-- what a listed superblock is in, by another account of the list
listed_in : (capacity : ℕ) (m : Memory) (list d : ℕ) (ds : List ℕ) → Follows (link m) capacity (head_first (head m list)) ds
    → IsListed capacity m list d → 0 < times d ds
listed_in capacity m list d ds leads l = subst (λ xs. 0 < times d xs) (one_following (link m) capacity
    (head_first (head m list)) l.descriptors ds l.leads leads) l.has

-- a step that claims nothing with a class, by the lists after it
same_claims : (capacity : ℕ) (start m n : Memory) (v w : View) → w.classed ≡ v.classed → CameFrom capacity start m v → NoneCame capacity start n
    → CameFrom capacity start n w
same_claims capacity start m n v w same came listed = record {
  listed = listed;
  claimed = λ d. subst (λ (claims : List Claim). 0 < times_classed d claims → IsClass (claim_class d claims)
      → IsListed capacity start (claim_class d claims) d) (sym same) (came.claimed d);
}

-- no claim comes where one is given up
fewer : (d e : ℕ) (claims : List Claim) → times_classed e (without_claim d claims) ≤ times_classed e claims
fewer d e [] = omega arith
fewer d e (claim ∷ claims) = by_test (nat_eq claim.descriptor d) (fewer d e claims) where
  by_test : (t : Bool) → times_classed e (without_claim d claims) ≤ times_classed e claims
      → times_classed e (cond t claims (claim ∷ without_claim d claims)) ≤ times_classed e (claim ∷ claims)
  by_test true rest = omega arith
  by_test false rest = omega arith

-- a claim is given up
fewer_claims : (capacity : ℕ) (start m n : Memory) (v w : View) (d : ℕ) → w.classed ≡ without_claim d v.classed → times_classed d v.classed ≤ 1
    → CameFrom capacity start m v → NoneCame capacity start n
    → CameFrom capacity start n w
fewer_claims capacity start m n v w d same once came listed = record {
  listed = listed;
  claimed = λ e. subst (λ (claims : List Claim). 0 < times_classed e claims → IsClass (claim_class e claims)
      → IsListed capacity start (claim_class e claims) e) (sym same) (by_claim e);
} where
  by_claim : (e : ℕ) → 0 < times_classed e (without_claim d v.classed) → IsClass (claim_class e (without_claim d v.classed))
      → IsListed capacity start (claim_class e (without_claim d v.classed)) e
  by_claim e some = elim (cases_eq d e) as (λ _. IsClass (claim_class e (without_claim d v.classed))
      → IsListed capacity start (claim_class e (without_claim d v.classed)) e) [
        | inl same_one ↦ absurd (let there = fewer d e v.classed in let now = times_without_claim e d v.classed
            (let s = ap (λ x. times_classed x v.classed) same_one in omega arith) in let one = eq-eqb-one d e same_one in
            let s = ap (λ x. times_classed x v.classed) same_one in omega arith)
        | inr other ↦ subst (λ c. IsClass c → IsListed capacity start c e) (sym (class_without e d v.classed other))
            (came.claimed e (let there = fewer d e v.classed in omega arith))
      ]

module _ (k : Setup) (start m : Memory) (v : View) (good : Good k m (v ∷ [])) (came : CameFrom k.capacity start m v) where
  abbrev g : CoreShape
  g = good.shape

  -- words that heads and links are not of
  frame : (n : Memory) → ((list : ℕ) → head n list ≡ head m list) → ((d : ℕ) → times_claimed d v ≡ 0 → link n d ≡ link m d)
      → NoneCame k.capacity start n
  frame n heads links list d is l = came.listed list d is (record {
    descriptors = g.lists list;
    leads = good.shaped.lists.follows list less;
    has = listed_in k.capacity n list d (g.lists list)
        (subst (λ h. Follows (link n) k.capacity (head_first h) (g.lists list)) (sym (heads list))
        (follows_same (link m) (link n) k.capacity (head_first (head m list)) (g.lists list)
        (λ e there. links e (not_claimed e (times_of e (g.lists list) there))) (good.shaped.lists.follows list less))) l;
  }) where
    less : list < lists
    less = let last = is.last in omega arith

    not_claimed : (e : ℕ) → 0 < times e (g.lists list) → times_claimed e v ≡ 0
    not_claimed e there =
        let one = good.shaped.placed.one_place e in
        let some = in_lists_at e g.lists list less (let first = is.some in omega arith) in
        let most = one_at_most (nat_lt e (used m)) in omega arith

  -- a step that leaves all words as they are
  rest : (p : StepPlace) (w : View) → w.classed ≡ v.classed → CameFrom k.capacity start (write m p (read m p)) w
  rest p w same = subst (λ n. CameFrom k.capacity start n w) (sym (write_read m p)) (same_claims k.capacity start m m v w same came came.listed)

  once : (d : ℕ) → times_classed d v.classed ≤ 1
  once d = let one = good.shaped.placed.one_place d in let most = one_at_most (nat_lt d (used m)) in omega arith

  -- no list changes
  same_lists : (n : Memory) (w : View) → ((list : ℕ) → head n list ≡ head m list) → ((d : ℕ) → link n d ≡ link m d) → w.classed ≡ v.classed
      → CameFrom k.capacity start n w
  same_lists n w heads links same = same_claims k.capacity start m n v w same came (frame n heads (λ d none. links d))

  -- the first of a list is claimed
  module _ (may : MayPop v) (as_seen : head m (seen_of v.seen_head) ≡ seen_word v.seen_head) where
    abbrev l : ℕ
    l = seen_of v.seen_head

    abbrev word : ℕ
    word = seen_word v.seen_head

    abbrev d : ℕ
    d = before (head_first word)

    abbrev m' : Memory
    m' = write m (volatile_at (head_cell l)) (popped_head v)

    known_head : KnowsHead k.capacity (head m) (link m) g.lists l word v.seen_link
    known_head = (good.knows 0 v (omega arith) refl).seen_head may.is_seen

    first : IsFirst (link m) k.capacity (head_first word) (g.lists l)
    first = first_is (link m) k.capacity (head_first word) (g.lists l) (subst (λ x. Follows (link m) k.capacity (head_first x) (g.lists l)) as_seen
        (good.shaped.lists.follows l known_head.is_list)) (known_head.linked may.link).0

    follows : Follows (link m) k.capacity (head_first (popped_head v)) first.rest
    follows =
        let small : link m d ≤ k.capacity = follows_small (link m) k.capacity (link m d) first.rest first.follows in
        let fits = good.small in
        let limit = largest_capacity_fits in
        let link_is = (known_head.linked may.link).1 (ap head_pops (sym as_seen)) in
        let next_first : head_first (seen v.seen_link) ≡ link m d = (let e = link_is in omega arith) in
        let p = head_parts (head_first (seen v.seen_link)) (head_pops word + 1) (omega arith) in
        subst (λ x. Follows (link m) k.capacity x first.rest) (sym (p.0 ∙ next_first)) first.follows

    head_now : (list : ℕ) → list ≡ l → head m' list ≡ popped_head v
    head_now list same = ap (λ t. cond t (popped_head v) (head m list)) (eq-eqb list l same)

    head_other : (list : ℕ) → list ≢ l → head m' list ≡ head m list
    head_other list other = ap (λ t. cond t (popped_head v) (head m list)) (ne_eqb list l other)

    pop_listed : NoneCame k.capacity start m'
    pop_listed list e is at = came.listed list e is (record {
      descriptors = g.lists list;
      leads = good.shaped.lists.follows list (let last = is.last in omega arith);
      has = elim (cases_eq list l) as (λ _. 0 < times e (g.lists list)) [
        | inl same ↦
            let there = listed_in k.capacity m' list e first.rest (subst (λ h. Follows (link m) k.capacity (head_first h) first.rest)
            (sym (head_now list same)) follows) at in
            let all = ap (times e) (ap g.lists same ∙ first.is) in omega arith
        | inr other ↦ listed_in k.capacity m' list e (g.lists list) (subst (λ h. Follows (link m) k.capacity (head_first h) (g.lists list))
            (sym (head_other list other)) (good.shaped.lists.follows list (let last = is.last in omega arith))) at
      ];
    })

    -- it was in the list of the class
    first_listed : IsClass l → IsListed k.capacity start l d
    first_listed is = came.listed l d is (record {
      descriptors = g.lists l;
      leads = good.shaped.lists.follows l known_head.is_list;
      has = let all = ap (times d) first.is in let one = eq-eqb-one d d refl in omega arith;
    })

    pop_came : (base : View) → base.classed ≡ v.classed → CameFrom k.capacity start m' (claimed base d l)
    pop_came base same = by_list l refl where
      by_list : (list : ℕ) → l ≡ list → CameFrom k.capacity start m' (claimed base d list)
      by_list zero is = same_claims k.capacity start m m' v (claimed base d zero) same came pop_listed
      by_list (suc class) is = record {
        listed = pop_listed;
        claimed = λ e some. by_claim e (nat_eq d e) refl some;
      } where
        by_claim : (e : ℕ) (t : Bool) → nat_eq d e ≡ t → 0 < one_if (nat_eq d e) + times_classed e base.classed
            → IsClass (cond (nat_eq d e) (suc class) (claim_class e base.classed))
            → IsListed k.capacity start (cond (nat_eq d e) (suc class) (claim_class e base.classed)) e
        by_claim e true eq some = subst (λ t. IsClass (cond t (suc class) (claim_class e base.classed))
            → IsListed k.capacity start (cond t (suc class) (claim_class e base.classed)) e) (sym eq)
            (λ is_class. subst (λ x. IsListed k.capacity start (suc class) x) (eqb-true d e eq)
            (subst (λ x. IsListed k.capacity start x d) is (first_listed (subst IsClass (sym is) is_class))))
        by_claim e false eq some = subst (λ t. IsClass (cond t (suc class) (claim_class e base.classed))
            → IsListed k.capacity start (cond t (suc class) (claim_class e base.classed)) e) (sym eq)
            (subst (λ (claims : List Claim). IsClass (claim_class e claims) → IsListed k.capacity start (claim_class e claims) e) (sym same)
            (came.claimed e (let none = ap one_if eq in let s = ap (times_classed e) same in omega arith)))

  -- a claimed superblock comes to the front of a list
  module _ (d : ℕ) (may : MayPush m v d) (as_seen : head m (seen_of v.seen_head) ≡ seen_word v.seen_head) where
    abbrev pl : ℕ
    pl = seen_of v.seen_head

    abbrev pm : Memory
    pm = write m (volatile_at (head_cell pl)) (pushed_head v d)

    is_list : pl < lists
    is_list = ((good.knows 0 v (omega arith) refl).seen_head may.is_seen).is_list

    small_d : d < k.capacity
    small_d = let a = may.durable in let b = good.shaped.durable.behind in let c = good.shaped.durable.room in omega arith

    push_follows : Follows (link m) k.capacity (head_first (pushed_head v d)) (d ∷ g.lists pl)
    push_follows =
        let fits = good.small in
        let limit = largest_capacity_fits in
        let less = small_d in
        let p = head_parts (d + 1) (head_pops (seen_word v.seen_head)) (omega arith) in (
          p.0,
          small_d,
          subst (λ x. Follows (link m) k.capacity x (g.lists pl)) (ap head_first as_seen ∙ sym may.linked)
              (good.shaped.lists.follows pl is_list),
        )

    push_now : (list : ℕ) → list ≡ pl → head pm list ≡ pushed_head v d
    push_now list same = ap (λ t. cond t (pushed_head v d) (head m list)) (eq-eqb list pl same)

    push_other : (list : ℕ) → list ≢ pl → head pm list ≡ head m list
    push_other list other = ap (λ t. cond t (pushed_head v d) (head m list)) (ne_eqb list pl other)

    -- it was claimed with the class of the list
    its_class : (list : ℕ) → MayList m v d list → IsClass list → IsListed k.capacity start list d
    its_class list (as_free _ none claimed_it empty) is = absurd (let some = is.some in omega (arith, none, some))
    its_class list (of_its_class _ some there now state) is =
        let c = (good.claims 0 v (omega arith) refl).is_classed d there in
        let same : claim_class d v.classed ≡ list = sym c.1 ∙ now in
        subst (λ x. IsListed k.capacity start x d) same (came.claimed d there c.0)

    push_listed : NoneCame k.capacity start pm
    push_listed list e is at = elim (cases_eq list pl) as (λ _. IsListed k.capacity start list e) [
      | inl same ↦
          let there = listed_in k.capacity pm list e (d ∷ g.lists pl) (subst (λ h. Follows (link m) k.capacity (head_first h) (d ∷ g.lists pl))
          (sym (push_now list same)) push_follows) at in
          elim (cases_eq d e) as (λ _. IsListed k.capacity start list e) [
            | inl one ↦ subst (λ x. IsListed k.capacity start list x) one
                (subst (λ x. IsListed k.capacity start x d) (sym same) (its_class pl may.listed (subst IsClass same is)))
            | inr other ↦ came.listed list e is (record {
              descriptors = g.lists list;
              leads = good.shaped.lists.follows list (let last = is.last in omega arith);
              has = let none = ne-eqb-none d e other in let s = ap (λ x. times e (g.lists x)) same in omega arith;
            })
          ]
      | inr other ↦ came.listed list e is (record {
        descriptors = g.lists list;
        leads = good.shaped.lists.follows list (let last = is.last in omega arith);
        has = listed_in k.capacity pm list e (g.lists list) (subst (λ h. Follows (link m) k.capacity (head_first h) (g.lists list))
            (sym (push_other list other)) (good.shaped.lists.follows list (let last = is.last in omega arith))) at;
      })
    ]

    push_came : CameFrom k.capacity start pm (pushed v d)
    push_came = by_test (nat_lt 0 (times d v.raw + times d v.split)) where
      by_test : (t : Bool) → CameFrom k.capacity start pm (cond t (pushed_raw v d) (pushed_classed v d))
      by_test true = same_claims k.capacity start m pm v (pushed_raw v d) refl came push_listed
      by_test false = fewer_claims k.capacity start m pm v (pushed_classed v d) d refl (once d) came push_listed

  -- an exchange, by whether it is won
  either : (a b : ℕ) (P : Bool → Type 0) → (a ≡ b → P true) → P false → P (nat_eq a b)
  either a b P win lose = elim (cases_eq a b) as (λ _. P (nat_eq a b)) [
    | inl same ↦ subst P (sym (eq-eqb a b same)) (win same)
    | inr other ↦ subst P (sym (ne_eqb a b other)) lose
  ]

  shift_classed : (u : View) (shift : Option Shift) → (shifted m u shift).classed ≡ u.classed
  shift_classed u None = refl
  shift_classed u (Some (Cut d)) = refl
  shift_classed u (Some (Alloc class)) = refl
  shift_classed u (Some (Free block)) = refl
  shift_classed u (Some (Lift class)) = refl
  shift_classed u (Some (Large d n)) = refl
  shift_classed u (Some (Split block)) = refl

  draw_classed : (t : Bool) (shift : Option Shift) (found : ℕ) → (cond t (shifted m (drew v found) shift) (stopped v found)).classed ≡ v.classed
  draw_classed true shift found = shift_classed (drew v found) shift
  draw_classed false shift found = refl

  store_classed : (u : View) (cell : Cell) (value : ℕ) → (stored u cell value).classed ≡ u.classed
  store_classed u used_cell value = refl
  store_classed u (head_cell list) value = refl
  store_classed u (info_cell d) value = refl
  store_classed u (anchor_cell d) zero = refl
  store_classed u (anchor_cell d) (suc n) = refl
  store_classed u (link_cell d) value = refl
  store_classed u (root_cell i) value = refl
  store_classed u (data_cell n) value = refl
  store_classed u no_cell value = refl

  own_other : (at : Cell) → IsOwn v at → (cell : Cell) → times_own v cell ≡ 0 → cell ≡ at → ⊥
  own_other at own cell none same = let e = ap (times_own v) same in omega arith

  -- a batch that is given counts
  given_counts : (d : ℕ) → (given v d).gives ≡ v.gives + 1
  given_counts d = by_test (nat_eq (seen_word v.seen_anchor) full_anchor) v.batch.class where
    after_give : View
    after_give = record (won v) { batch = no_batch; seen_anchor = None; gives = v.gives + 1 }

    by_test : (t : Bool) (class : ℕ) → (trimmed (cond t (claimed after_give d class) after_give)).gives ≡ v.gives + 1
    by_test true zero = refl
    by_test true (suc class) = refl
    by_test false class = refl

pub came_event : (k : Setup) (start m : Memory) (v : View) (event : Event) → Good k m (v ∷ []) → MayStep m v event
    → (seat_after m v event).gives ≡ v.gives → CameFrom k.capacity start m v
    → CameFrom k.capacity start (memory_after m v event) (seat_after m v event)
came_event k start m v (Tick shift) good may gives came = same_lists k start m v good came (memory_after m v (Tick shift))
    (seat_after m v (Tick shift)) (λ list. refl) (λ d. refl)
    (draw_classed k start m v good came (nat_lt m.drawn v.setup.budget) shift m.drawn)
came_event k start m v (Load word) good may gives came = rest k start m v good came (place_of v (Load word)) (seat_after m v (Load word)) refl
came_event k start m v (Store word value) good may gives came = same_claims k.capacity start m (memory_after m v (Store word value)) v
    (seat_after m v (Store word value))
    (store_classed k start m v good came _ (cell_at v.setup.capacity word) value) came
    (frame k start m v good came (memory_after m v (Store word value))
    (λ list. with_other m.volatile (cell_at v.setup.capacity word) value (head_cell list)
    (own_other k start m v good came (cell_at v.setup.capacity word) may.ready.0 (head_cell list) refl))
    (λ d none. with_other m.volatile (cell_at v.setup.capacity word) value (link_cell d)
    (own_other k start m v good came (cell_at v.setup.capacity word) may.ready.0 (link_cell d) none)))
came_event k start m v (Settle word) good may gives came = same_lists k start m v good came (memory_after m v (Settle word))
    (seat_after m v (Settle word)) (λ list. refl) (λ d. refl) refl
came_event k start m v LookUsed good may gives came = rest k start m v good came (place_of v LookUsed) (seat_after m v LookUsed) refl
came_event k start m v (TakeFresh n) good may gives came = same_lists k start m v good came (memory_after m v (TakeFresh n))
    (seat_after m v (TakeFresh n)) (λ list. refl) (λ d. refl)
    (either k start m v good came (used m) (seen v.seen_used)
    (λ t. (cond t (taken_fresh v n) (record (lost v (used m)) { seen_used = None })).classed ≡ v.classed) (λ same. refl) refl)
came_event k start m v KeepUsed good may gives came = same_lists k start m v good came (memory_after m v KeepUsed) (seat_after m v KeepUsed)
    (λ list. refl) (λ d. refl) refl
came_event k start m v (LookHead list) good may gives came = rest k start m v good came (place_of v (LookHead list))
    (seat_after m v (LookHead list)) refl
came_event k start m v LookLink good may gives came = rest k start m v good came (place_of v LookLink) (seat_after m v LookLink) refl
came_event k start m v Pop good may gives came = either k start m v good came (head m (seen_of v.seen_head)) (seen_word v.seen_head)
    (λ t. CameFrom k.capacity start (write m (place_of v Pop) (cond t (popped_head v) (head m (seen_of v.seen_head))))
    (cond t (popped v (before (head_first (seen_word v.seen_head)))) (record (lost v (head m (seen_of v.seen_head))) { seen_head = None })))
    (λ same. pop_came k start m v good came may.ready same
    (record (won v) {
      seen_head = None;
      seen_link = None;
      seen_anchor = cleared
          (before (head_first (seen_word v.seen_head))) 1 v.seen_anchor;
    }) refl)
    (rest k start m v good came (place_of v Pop) (record (lost v (head m (seen_of v.seen_head))) { seen_head = None }) refl)
came_event k start m v (Push d) good may gives came = either k start m v good came (head m (seen_of v.seen_head)) (seen_word v.seen_head)
    (λ t. CameFrom k.capacity start (write m (place_of v (Push d)) (cond t (pushed_head v d) (head m (seen_of v.seen_head))))
    (cond t (pushed v d) (record (lost v (head m (seen_of v.seen_head))) { seen_head = None })))
    (λ same. push_came k start m v good came d may.ready same)
    (rest k start m v good came (place_of v (Push d)) (record (lost v (head m (seen_of v.seen_head))) { seen_head = None }) refl)
came_event k start m v (LookAnchor d) good may gives came = rest k start m v good came (place_of v (LookAnchor d))
    (seat_after m v (LookAnchor d)) refl
came_event k start m v (TakeAll d) good may gives came = either k start m v good came (m.volatile (anchor_cell d)) (seen_word v.seen_anchor)
    (λ t. CameFrom k.capacity start (write m (place_of v (TakeAll d)) (cond t full_anchor (m.volatile (anchor_cell d))))
    (cond t (taken_all m v d) (record (lost v (m.volatile (anchor_cell d))) { seen_anchor = None })))
    (λ same. fewer_claims k.capacity start m (write m (place_of v (TakeAll d)) full_anchor) v (taken_all m v d) d refl
    (once k start m v good came d) came
    (frame k start m v good came (write m (place_of v (TakeAll d)) full_anchor) (λ list. refl) (λ e none. refl)))
    (rest k start m v good came (place_of v (TakeAll d)) (record (lost v (m.volatile (anchor_cell d))) { seen_anchor = None }) refl)
came_event k start m v (Give d) good may gives came = either k start m v good came (m.volatile (anchor_cell d)) (seen_word v.seen_anchor)
    (λ t. (cond t (given v d) (record (lost v (m.volatile (anchor_cell d))) { seen_anchor = None })).gives ≡ v.gives
    → CameFrom k.capacity start (write m (place_of v (Give d)) (cond t (batch_anchor v d) (m.volatile (anchor_cell d))))
    (cond t (given v d) (record (lost v (m.volatile (anchor_cell d))) { seen_anchor = None })))
    (λ same now. absurd (let counted = given_counts k start m v good came d in omega (arith, now, counted)))
    (λ now. rest k start m v good came (place_of v (Give d)) (record (lost v (m.volatile (anchor_cell d))) { seen_anchor = None }) refl) gives

-- no step gives a batch back
gives_rise : (k : Setup) (start m : Memory) (v : View) (event : Event) → v.gives ≤ (seat_after m v event).gives
gives_rise k start m v event = by_event_kind event where
  shift_gives : (u : View) (shift : Option Shift) → (shifted m u shift).gives ≡ u.gives
  shift_gives u None = refl
  shift_gives u (Some (Cut d)) = refl
  shift_gives u (Some (Alloc class)) = refl
  shift_gives u (Some (Free block)) = refl
  shift_gives u (Some (Lift class)) = refl
  shift_gives u (Some (Large d n)) = refl
  shift_gives u (Some (Split block)) = refl

  store_gives : (u : View) (cell : Cell) (value : ℕ) → (stored u cell value).gives ≡ u.gives
  store_gives u used_cell value = refl
  store_gives u (head_cell list) value = refl
  store_gives u (info_cell d) value = refl
  store_gives u (anchor_cell d) zero = refl
  store_gives u (anchor_cell d) (suc n) = refl
  store_gives u (link_cell d) value = refl
  store_gives u (root_cell i) value = refl
  store_gives u (data_cell word) value = refl
  store_gives u no_cell value = refl

  claim_gives : (u : View) (d list : ℕ) → (claimed u d list).gives ≡ u.gives
  claim_gives u d zero = refl
  claim_gives u d (suc class) = refl

  one_of_two : (t : Bool) (a b : View) → v.gives ≤ a.gives → v.gives ≤ b.gives → v.gives ≤ (cond t a b).gives
  one_of_two true a b x y = x
  one_of_two false a b x y = y

  by_event_kind : (e : Event) → v.gives ≤ (seat_after m v e).gives
  by_event_kind (Tick shift) = one_of_two (nat_lt m.drawn v.setup.budget) (shifted m (drew v m.drawn) shift) (stopped v m.drawn)
      (let s = shift_gives (drew v m.drawn) shift in omega arith) (omega arith)
  by_event_kind (Load word) = omega arith
  by_event_kind (Store word value) = let s = store_gives (record (used_up v) { volatile = learn v.volatile word value })
      (cell_at v.setup.capacity word) value in omega (arith, s)
  by_event_kind (Settle word) = omega arith
  by_event_kind LookUsed = omega arith
  by_event_kind (TakeFresh n) = one_of_two (nat_eq (used m) (seen v.seen_used)) _ _ (omega arith) (omega arith)
  by_event_kind KeepUsed = omega arith
  by_event_kind (LookHead list) = omega arith
  by_event_kind LookLink = omega arith
  by_event_kind Pop = one_of_two (nat_eq (head m (seen_of v.seen_head)) (seen_word v.seen_head))
      (popped v (before (head_first (seen_word v.seen_head)))) _
      (let s = claim_gives (record (won v) {
        seen_head = None;
        seen_link = None;
        seen_anchor = cleared
            (before (head_first (seen_word v.seen_head))) 1 v.seen_anchor;
      }) (before (head_first (seen_word v.seen_head))) (seen_of v.seen_head) in
      omega arith) (omega arith)
  by_event_kind (Push d) = one_of_two (nat_eq (head m (seen_of v.seen_head)) (seen_word v.seen_head)) (pushed v d) _
      (one_of_two (nat_lt 0 (times d v.raw + times d v.split)) (pushed_raw v d) (pushed_classed v d) (omega arith) (omega arith)) (omega arith)
  by_event_kind (LookAnchor d) = omega arith
  by_event_kind (TakeAll d) = one_of_two (nat_eq (m.volatile (anchor_cell d)) (seen_word v.seen_anchor)) _ _ (omega arith) (omega arith)
  by_event_kind (Give d) = one_of_two (nat_eq (m.volatile (anchor_cell d)) (seen_word v.seen_anchor)) (given v d) _
      (by_test (nat_eq (seen_word v.seen_anchor) full_anchor) v.batch.class) (omega arith) where
        after_give : View
        after_give = record (won v) { batch = no_batch; seen_anchor = None; gives = v.gives + 1 }

        by_test : (t : Bool) (class : ℕ) → v.gives ≤ (trimmed (cond t (claimed after_give d class) after_give)).gives
        by_test true zero = omega arith
        by_test true (suc class) = omega arith
        by_test false class = omega arith

-- the views of a heap with one seat have no other order
reorder_one : (old new : List View) (v : View) → AreReordered old new → new ≡ v ∷ [] → old ≡ v ∷ []
reorder_one old new v same only = one_of old v (length_total old ∙ sym (same.sums (λ (u : View). 1)) ∙ sym (length_total new) ∙ ap length only)
    (same.members v (subst (λ l. Contains l v) (sym only) (in_head v [])))

module _ (k : Setup) (start : TableState) (v : View) (sound : Sound k start.words start.views) (counted : AreSeatsAndCarriers k start.views)
    (only : start.views ≡ v ∷ []) (idle : IsIdle v) where
  abbrev begin : Memory
  begin = memory_of k.capacity start.words

  at_start : (w : View) → start.views ≡ w ∷ [] → w ≡ v
  at_start w is = ap (λ (l : List View). get_or l 0 v) (sym is ∙ only)

  -- a seat that is alone and has offered nothing came there by no block that went between seats
  no_offer : {A : Type 0} (words : List ℕ) (views : List View) (i : ℕ) (u : View) (b : ℕ) → i < length views → (w : View)
      → set views i (offered u b) ++ carrier_of u b ∷ [] ≡ w ∷ [] → A
  no_offer words views i u b below w is = absurd (let l = ap length is in let a = length-append (set views i (offered u b)) (carrier_of u b ∷ []) in
      let n = length-set views i (offered u b) in omega (arith, l, a, n, below))

  no_accept : {A : Type 0} (words : List ℕ) (old new : List View) (u c : View) → IsReached k start words old → Contains old c → IsCarrier c
      → AreOneLess old new u c (accepted u c) → (w : View) → new ≡ w ∷ [] → w.offers ≡ 0 → A
  no_accept words old new u c before has carries less w is none = absurd
      (let s = less.sums (λ (x : View). x.offers) in let t = ap (total (λ (x : View). x.offers)) is in
      let are = reached_counted k start counted words old before in
      let held = are.carriers in let one = total_at one_if_carrier old has.0 c has.1 has.2 in
      let mine = ap (λ n. one_if (nat_eq n 1)) carries.is_one in let h = carries.handed.0 in omega (arith, s, t, held, one, mine, h, none))

  -- what it offered before an event
  offers_before : (words : List ℕ) (views : List View) (i : ℕ) (u : View) (event : Event) → i < length views → (w : View)
      → set views i (seat_after (memory_of k.capacity words) u event) ≡ w ∷ [] → w.offers ≡ 0 → u.offers ≡ 0
  offers_before words views i u event below w is none = let m = memory_of k.capacity words in
      ap (λ (r : Role). r.offers) (sym (role_after m u event (found_by m u event)))
      ∙ ap (λ (x : View). x.offers) (one_set views i (seat_after m u event) w below is) ∙ none

  gives_since : (words : List ℕ) (views : List View) → IsReached k start words views → (w : View) → views ≡ w ∷ [] → w.offers ≡ 0
      → v.gives ≤ w.gives
  gives_since _ _ at_opening w is none = let same = ap (λ (u : View). u.gives) (at_start w is) in omega (arith, same)
  gives_since _ _ (by_event words views i u event before below at seat may) w is none =
      let m = memory_of k.capacity words in
      let alone : views ≡ u ∷ [] = one_at views i u (sym (length-set views i (seat_after m u event)) ∙ ap length is) below at in
      let old = gives_since words views before u alone (offers_before words views i u event below w is none) in
      let rise = gives_rise k begin m u event in
      let same = ap (λ (x : View). x.gives) (one_set views i (seat_after m u event) w below is) in omega (arith, old, rise, same)
  gives_since _ _ (by_record words views i u word before below at own) w is none =
      let left = one_set views i (learned u word (get_or words word 0)) w below is in
      let alone : views ≡ u ∷ [] = one_at views i u (sym (length-set views i (learned u word (get_or words word 0))) ∙ ap length is) below at in
      let old = gives_since words views before u alone (ap (λ (x : View). x.offers) left ∙ none) in
      let same = ap (λ (x : View). x.gives) left in omega (arith, old, same)
  gives_since _ _ (by_offer words views i u b before below at may held) w is none = no_offer words views i u b.first_word below w is
  gives_since _ _ (by_accept words old new u c before has_u has_c may carries less) w is none =
      no_accept words old new u c before has_c carries less w is none
  gives_since _ _ (in_another_order words old new before same) w is none = gives_since words old before w (reorder_one old new w same is) none

  -- what it was in at the start
  came_first : CameFrom k.capacity begin begin v
  came_first = record {
    listed = λ list d is l. l;
    claimed = λ d some is. absurd (let none = ap (times_classed d) idle.classed in omega arith);
  }

  pub reached_came : (words : List ℕ) (views : List View) → IsReached k start words views → (w : View) → views ≡ w ∷ [] → w.offers ≡ 0
      → w.gives ≡ v.gives → CameFrom k.capacity begin (memory_of k.capacity words) w
  reached_came _ _ at_opening w is none same = subst (CameFrom k.capacity begin begin) (sym (at_start w is)) came_first
  reached_came _ _ (by_event words views i u event before below at seat may) w is none same =
      let m = memory_of k.capacity words in
      let alone : views ≡ u ∷ [] = one_at views i u (sym (length-set views i (seat_after m u event)) ∙ ap length is) below at in
      let so_far : Sound k words views = reached_sound k start sound words views before in
      let offers = offers_before words views i u event below w is none in
      let since = gives_since words views before u alone offers in
      let rise = gives_rise k begin m u event in
      let left = one_set views i (seat_after m u event) w below is in
      let now = ap (λ (x : View). x.gives) left in
      subst (CameFrom k.capacity begin (memory_of k.capacity (words_after k words u event))) left
      (subst (λ n. CameFrom k.capacity begin n (seat_after m u event)) (sym (memory_set k.capacity words (place_of u event) _ so_far.long
      (in_table k m views i u below at so_far.good event may)))
      (came_event k begin m u event (subst (Good k m) alone so_far.good) may (omega (arith, since, rise, now, same))
      (reached_came words views before u alone offers (omega (arith, since, rise, now, same)))))
  reached_came _ _ (by_record words views i u word before below at own) w is none same =
      let m = memory_of k.capacity words in
      let alone : views ≡ u ∷ [] = one_at views i u (sym (length-set views i (learned u word (get_or words word 0))) ∙ ap length is) below at in
      let left = one_set views i (learned u word (get_or words word 0)) w below is in
      let now = ap (λ (x : View). x.gives) left in
      let came = reached_came words views before u alone (ap (λ (x : View). x.offers) left ∙ none) (omega (arith, now, same)) in
      subst (CameFrom k.capacity begin m) left
      (same_claims k.capacity begin m m u (learned u word (get_or words word 0)) refl came came.listed)
  reached_came _ _ (by_offer words views i u b before below at may held) w is none same = no_offer words views i u b.first_word below w is
  reached_came _ _ (by_accept words old new u c before has_u has_c may carries less) w is none same =
      no_accept words old new u c before has_c carries less w is none
  reached_came _ _ (in_another_order words old new before same_views) w is none same =
      reached_came words old before w (reorder_one old new w same_views is) none same
