-- What is kept of a seat, and of a carrier, after an offer or an accept.
use Rattle.std.proofs.Common.{◌≡◌, ℕ, ◌+◌, ◌*◌, ◌<◌, true, false, None, Some, Option, Bool, cond, nat_lt, ltb-true, List, [], ◌∷◌, get_or, refl, ap, sym, subst, ◌∙◌, arith}
use Rattle.std.specs.Prelude.{slice_set}
use Rattle.heap_model.specs.declared.block.Block.{Block}
use Rattle.heap_model.specs.Geometry.{start_word, superblock_words, superblock_of}
use Rattle.heap_model.specs.Sizes.{words_of_class}
use Rattle.core_model.specs.Carriers.{accepted, carrier_of, offered}
use Rattle.core_model.specs.Cells.{cell_at}
use Rattle.core_model.specs.Effects.{only_own, span_count}
use Rattle.core_model.specs.Held.{IsHeld, a_small, a_large}
use Rattle.core_model.specs.Memory.{table_length}
use Rattle.core_model.specs.View.{View, times_own}
use Rattle.core_model.proofs.OfferLemmas.{carries_block}
use Rattle.core_model.proofs.OwnLemmas.{only_at}
use Rattle.atomic_table.specs.Seated.{TableId}
use Rattle.atomic_table.specs.Table.{Me}
use Rattle.seat_state.specs.declared.notes.SeatNotes.{SeatNotes}
use Rattle.seat_state.specs.Notes.{HasBatch, HasCaches}
use Rattle.heap_table.specs.AtTable.{IsAt, SharedView}
use Rattle.heap_table.specs.Plays.{HasSoundState}
use Rattle.heap_table.specs.SeatViews.{SeatViews, view_in}
use Rattle.heap_rule.specs.Carried.{Carries, IsWholeCarrier, KnowsItsOwn}
use Rattle.heap_rule.specs.Fences.{Owns}
use Rattle.seat_index.specs.declared.owned.Holding.{Holding}
use Rattle.seat_index.specs.declared.owned.Owned.{Owned}
use Rattle.seat_index.specs.Holdings.{CanGain, CanLose, HasGained, HasLost, Holds, HoldsAlone, HoldsLarge, HoldsSmall}
use Rattle.seat_index.specs.declared.owned.Ownership.{Ownership}
use Rattle.seat_index.specs.Owned.{HasOwned, IsMarking, count_in, parts_of}
use Rattle.heap_rule.specs.Seated.{IsKeptOf, IsWholeSeat}
use Rattle.seat_index.proofs.LargeCarriers.{gain_large, gained_below, large_alone, large_below, lose_large}
use Rattle.seat_index.proofs.OwnedCarriers.{accept_owned, alone_own, block_there, carrier_alone, offer_owned, one_marked, small_own}
use Rattle.seat_index.proofs.OwnedReads.{block_there as held_there, small_held, span_of}
use Rattle.seat_index.specs.declared.owned.Holding.TheVariants as holding

-- a held block that the seat keeps no span of is small, of the class that it keeps; another is large
pub is_small : (v : View) (s : HasSoundState v) (o : Owned) (own : HasOwned o (parts_of v)) (b : Block) (d n class : ℕ) (x : Ownership)
    → IsHeld v b → d ≡ superblock_of v.setup.capacity b.first_word → (d < v.setup.capacity → x ≡ get_or o.ownerships.items d x)
    → n ≡ count_in x → n ≡ 0 → (d < v.setup.capacity → class ≡ get_or o.classes.items d 0) → HoldsSmall v b class
is_small v s o own b d n class x (a_small of first there) d_is x_is n_is none class_is =
    let less = (held_there v s o own b d n x (a_small of first there) d_is x_is n_is).below in
    let h = small_held v s o own of first d x there d_is (x_is less) in
    subst (λ k. HoldsSmall v (record { first_word = first; words = words_of_class of }) k) (sym h.3 ∙ sym (class_is less))
    (record { is = record { is_class = h.1; words = refl }; held = there })
is_small v s o own b d n class x (a_large e m some m_is) d_is x_is n_is none class_is =
    absurd (let h = held_there v s o own b d n x (a_large e m some m_is) d_is x_is n_is in
    let here : d ≡ e = (let q = d_is in omega arith) in
    let same : n ≡ m = span_of v s o own d n x h.below (x_is h.below) n_is ∙ ap (λ k. span_count k v.large) here ∙ m_is in omega arith)

pub is_large : (v : View) (s : HasSoundState v) (o : Owned) (own : HasOwned o (parts_of v)) (b : Block) (d n : ℕ) (x : Ownership) → IsHeld v b
    → d ≡ superblock_of v.setup.capacity b.first_word → (d < v.setup.capacity → x ≡ get_or o.ownerships.items d x)
    → n ≡ count_in x → 0 < n → HoldsLarge v b d n
is_large v s o own b d n x (a_small of first there) d_is x_is n_is more =
    absurd (let less = (held_there v s o own b d n x (a_small of first there) d_is x_is n_is).below in
    let z = (small_held v s o own of first d x there d_is (x_is less)).2 in omega arith)
is_large v s o own b d n x (a_large e m some m_is) d_is x_is n_is more =
    let h = held_there v s o own b d n x (a_large e m some m_is) d_is x_is n_is in
    let here : d ≡ e = (let q = d_is in omega arith) in
    let span : span_count d v.large ≡ m = ap (λ k. span_count k v.large) here ∙ m_is in
    let same : n ≡ m = span_of v s o own d n x h.below (x_is h.below) n_is ∙ span in
    record {
      is = record {
        some = more;
        first = ap (start_word v.setup.capacity) (sym here);
        words = ap (λ k. superblock_words * k) (sym same);
      };
      held = span ∙ sym same;
    }

-- what the seat keeps, as a held block goes
pub can_lose : (v : View) (s : HasSoundState v) (o : Owned) → HasOwned o (parts_of v) → (b : Block) (h : Holding) → Holds v b h → CanLose b h o
can_lose v s o own b (holding.Small class) held = let there = block_there v s b.first_word (small_own v b class held) in let t = there.1 in
    let l = own.words_long in omega arith
can_lose v s o own b (holding.Large d n) held = let t = large_below v s b d n held in let l = own.ownerships_long in omega arith

pub lost_owned : (v : View) (s : HasSoundState v) (b : Block) (h : Holding) → Holds v b h → (o o' : Owned) → HasOwned o (parts_of v)
    → HasLost b h o o' → HasOwned o' (parts_of (offered v b.first_word))
lost_owned v s b (holding.Small class) held o o' own lost = subst (λ x. HasOwned x (parts_of (offered v b.first_word))) (sym lost)
    (offer_owned v s b class held o (slice_set o.blocks b.first_word false) own
    (one_marked o.blocks b.first_word false (can_lose v s o own b (holding.Small class) held)))
lost_owned v s b (holding.Large d n) held o o' own lost = lose_large v s b d n held o o' own lost

pub carried_alone : (v : View) (s : HasSoundState v) (b : Block) (h : Holding) → Holds v b h → HoldsAlone (carrier_of v b.first_word) b h
carried_alone v s b (holding.Small class) held = carrier_alone v s b class held
carried_alone v s b (holding.Large d n) held = large_alone v s b d n held

-- and as one comes
pub can_gain : (v u : View) (b : Block) (h : Holding) → HoldsAlone u b h → HasSoundState (accepted v u) → (o : Owned) → HasOwned o (parts_of v)
    → CanGain b h v.setup.capacity o
can_gain v u b (holding.Small class) alone s o own = let there = block_there (accepted v u) s b.first_word (alone_own v u b class alone) in record {
  from = there.0;
  word = (let t = there.1 in let l = own.words_long in omega arith);
  superblock = (let t = there.2 in let l = own.classes_long in omega arith);
}
can_gain v u b (holding.Large d n) alone s o own = (alone.is.some, let t = gained_below v u b d n alone s in let l = own.ownerships_long in omega arith)

pub gained_owned : (v u : View) (b : Block) (h : Holding) → HoldsAlone u b h → HasSoundState (accepted v u) → (o o' : Owned)
    → HasOwned o (parts_of v) → HasGained b h v.setup.capacity o o' → HasOwned o' (parts_of (accepted v u))
gained_owned v u b (holding.Small class) alone s o o' own gained = let can = can_gain v u b (holding.Small class) alone s o own in
    subst (λ x. HasOwned x (parts_of (accepted v u))) (sym gained.others)
    (accept_owned v u b class alone s o o'.blocks o'.classes own can.superblock
    (subst (λ l. IsMarking o.blocks l (b.first_word ∷ []) true) (sym gained.blocks) (one_marked o.blocks b.first_word true can.word))
    gained.classes)
gained_owned v u b (holding.Large d n) alone s o o' own gained = gain_large v u b d n alone s o o' own gained

-- what is kept of a seat whose ticket is used up, where its notes, caches and batch stay
keeps_on : (notes : SeatNotes) (v w : View) → w.setup ≡ v.setup → w.ticket ≡ None → (w.stopped ≡ v.stopped) × (w.seen_used ≡ v.seen_used)
    × (w.seen_head ≡ v.seen_head) × (w.seen_link ≡ v.seen_link) × (w.seen_anchor ≡ v.seen_anchor)
    → w.caches ≡ v.caches → w.batch ≡ v.batch → HasSoundState w → IsKeptOf notes v → IsKeptOf (record notes { ticket = None }) w
keeps_on notes v w setup ticket same caches batch has kept = let n = kept.notes_are in record {
  has = has;
  notes_are = record {
    ticket = ticket;
    stopped = same.0 ∙ n.stopped;
    seen_used = same.1 ∙ n.seen_used;
    seen_head = same.2 ∙ n.seen_head;
    seen_link = same.3 ∙ n.seen_link;
    seen_anchor = same.4 ∙ n.seen_anchor;
  };
  caches = subst (HasCaches notes.caches) (sym caches) kept.caches;
  batch = subst (HasBatch notes.batch) (sym batch) kept.batch;
}

-- a whole seat after an offer
pub offered_seat : (shared : SharedView) (table : TableId) (me me' : Me ℕ SeatViews) (notes : SeatNotes) (owned owned' : Owned)
    (marks : List Bool) (capacity budget : ℕ) (b : Block) (h : Holding) → Holds (view_in me.0) b h
    → IsWholeSeat me notes owned marks capacity budget → IsAt shared table me' (view_in me'.0)
    → view_in me'.0 ≡ offered (view_in me.0) b.first_word → HasLost b h owned owned'
    → IsWholeSeat me' (record notes { ticket = None }) owned' marks capacity budget
offered_seat shared table me me' notes owned owned' marks capacity budget b h held whole at view_is lost =
    let v = view_in me.0 in let old = whole.seat in record {
      seat = record {
        single = at.single;
        no_slots = at.no_slots;
        kept = subst (IsKeptOf (record notes { ticket = None })) (sym view_is)
            (keeps_on notes v (offered v b.first_word) refl refl (refl, refl, refl, refl, refl) refl refl
            (subst HasSoundState view_is at.has) old.kept);
        capacity_is = old.capacity_is ∙ sym (ap (λ (x : View). x.setup.capacity) view_is);
        budget_is = old.budget_is ∙ sym (ap (λ (x : View). x.setup.budget) view_is);
        low = subst (λ (x : View). x.setup.budget < 1099511627776) (sym view_is) old.low;
      };
      marks_long = whole.marks_long;
      own = subst (λ (x : View). HasOwned owned' (parts_of x)) (sym view_is) (lost_owned v old.kept.has b h held owned owned' whole.own lost);
    }

-- a whole seat after it accepted
pub accepted_seat : (shared : SharedView) (table : TableId) (me me' : Me ℕ SeatViews) (notes : SeatNotes) (owned owned' : Owned)
    (marks : List Bool) (capacity budget : ℕ) (u : View) (b : Block) (h : Holding) → HoldsAlone u b h
    → IsWholeSeat me notes owned marks capacity budget → IsAt shared table me' (view_in me'.0) → view_in me'.0 ≡ accepted (view_in me.0) u
    → HasGained b h (view_in me.0).setup.capacity owned owned'
    → IsWholeSeat me' (record notes { ticket = None }) owned' marks capacity budget
accepted_seat shared table me me' notes owned owned' marks capacity budget u b h alone whole at view_is gained =
    let v = view_in me.0 in let old = whole.seat in let has = subst HasSoundState view_is at.has in record {
      seat = record {
        single = at.single;
        no_slots = at.no_slots;
        kept = subst (IsKeptOf (record notes { ticket = None })) (sym view_is)
            (keeps_on notes v (accepted v u) refl refl (refl, refl, refl, refl, refl) refl refl has old.kept);
        capacity_is = old.capacity_is ∙ sym (ap (λ (x : View). x.setup.capacity) view_is);
        budget_is = old.budget_is ∙ sym (ap (λ (x : View). x.setup.budget) view_is);
        low = subst (λ (x : View). x.setup.budget < 1099511627776) (sym view_is) old.low;
      };
      marks_long = whole.marks_long;
      own = subst (λ (x : View). HasOwned owned' (parts_of x)) (sym view_is) (gained_owned v u b h alone has owned owned' whole.own gained);
    }

-- a carrier knows of its own words alone
known_own : (u : View) (values : List (Option ℕ)) (word value : ℕ) → get_or (only_own u 0 values) word None ≡ Some value → Owns u word
known_own u values word value is = by_test (nat_lt 0 (times_own u (cell_at u.setup.capacity (0 + word)))) refl where
  by_test : (t : Bool) → nat_lt 0 (times_own u (cell_at u.setup.capacity (0 + word))) ≡ t → Owns u word
  by_test true own = subst (λ n. 0 < times_own u (cell_at u.setup.capacity n)) (let e : 0 + word ≡ word = omega arith in
      e) (ltb-true 0 (times_own u (cell_at u.setup.capacity (0 + word))) own)
  by_test false other = absurd (let none : None ≡ Some value = ap (λ t. cond t (get_or values word None) None) (sym other)
      ∙ sym (only_at u 0 word values) ∙ is in cc)

carrier_knows : (v : View) (block : ℕ) → KnowsItsOwn (carrier_of v block)
carrier_knows v block = record {
  volatile = λ word value is. known_own (carrier_of v block) v.volatile word value is;
  durable = λ word value is. known_own (carrier_of v block) v.durable word value is;
}

-- the carrier
pub whole_carrier : (v : View) (s : HasSoundState v) (b : Block) (h : Holding) → Holds v b h → (table : TableId)
    → table.words ≡ table_length v.setup.capacity → (me : Me ℕ SeatViews) → me ≡ (carrier_of v b.first_word ∷ [], [])
    → IsWholeCarrier table me b h
whole_carrier v s b h held table long me me_is = subst (λ m. IsWholeCarrier table m b h) (sym me_is)
    (record {
      me_is = refl;
      long = long;
      carrier = carries_block v b.first_word;
      alone = carried_alone v s b h held;
      knows = carrier_knows v b.first_word;
    })

-- what it is for a seat of its heap
pub whole_carries : (table : TableId) (me : Me ℕ SeatViews) (b : Block) (h : Holding) → IsWholeCarrier table me b h → (capacity : ℕ)
    → table.words ≡ table_length capacity → Carries capacity (view_in me.0) b
whole_carries table me b h whole capacity long = record {
  capacity_is = let mine = whole.long in omega arith;
  carrier = whole.carrier;
  holding = h;
  alone = whole.alone;
  knows = whole.knows;
}
