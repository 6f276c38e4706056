-- The batch goes back to its superblock.
use Rattle.std.proofs.Common.{◌≡◌, ◌≢◌, ℕ, zero, suc, ◌+◌, ◌<◌, ◌≤◌, max, inl, inr, cond, nat_eq, List, ◌∷◌, get_or, set, length, refl, ap, sym, subst, ◌∙◌, eq-eqb, ne_eqb, arith}
use Rattle.std.proofs.lemmas.Bool.{cases_eq, cases_lt}
use Rattle.heap_model.specs.Sizes.{IsClass}
use Rattle.heap_model.specs.Words.{anchor_state, full_state, full_anchor}
use Rattle.heap_model.specs.Counting.{times, total, one_if}
use Rattle.core_model.specs.Memory.{Memory, anchor, info, next}
use Rattle.core_model.specs.View.{Setup, View, no_batch, times_raw, times_classed, times_large, times_block}
use Rattle.core_model.specs.Effects.{seen_word, trimmed, claim_class, claimed, given}
use Rattle.core_model.specs.Guards.{IsThere, MayGive}
use Rattle.core_model.specs.Sound.{CoreShape, Tally, tally_of, IsInShape, AreChained, ClaimsOf, class_numbers, times_in_lists, times_parked, times_cut, empties, Good}
use Rattle.core_model.proofs.TotalLemmas.{total_set, total_same, total_where, eq-eqb-one, ne-eqb-none}
use Rattle.core_model.proofs.EventStepLemmas.{IsSeat, good_step, set_up_kept}
use Rattle.core_model.proofs.OwnLemmas.{won_tickets, length_only}
use Rattle.core_model.proofs.QuietLemmas.{not_there}
use Rattle.core_model.proofs.ListLemmas.{class_of}
use Rattle.core_model.proofs.BlockLemmas.{at_one, at_other}
use Rattle.core_model.proofs.AnchorLemmas as on_anchor
use Rattle.core_model.proofs.GivenLemmas

module _ (k : Setup) (m : Memory) (views : List View) (i : ℕ) (v : View) (below_i : i < length views) (at : get_or views i v ≡ v)
    (good : Good k m views)
    (ticket : IsThere v.ticket) (d : ℕ) (may : MayGive m v d) (as_seen : anchor m d ≡ seen_word v.seen_anchor) where
  abbrev seat : IsSeat k m good.shape v
  seat = GivenLemmas.seat k m views i v below_i at good ticket d may as_seen

  abbrev class : ℕ
  class = GivenLemmas.class k m views i v below_i at good ticket d may as_seen

  abbrev word : ℕ
  word = GivenLemmas.word k m views i v below_i at good ticket d may as_seen

  abbrev x : ℕ
  x = GivenLemmas.x k m views i v below_i at good ticket d may as_seen

  abbrev m' : Memory
  m' = GivenLemmas.m' k m views i v below_i at good ticket d may as_seen

  abbrev info_is : info m d ≡ class
  info_is = GivenLemmas.info_is k m views i v below_i at good ticket d may as_seen

  abbrev cut_d : 0 < times_cut good.shape (tally_of views) d
  cut_d = GivenLemmas.cut_d k m views i v below_i at good ticket d may as_seen

  abbrev is_class : IsClass class
  is_class = GivenLemmas.is_class k m views i v below_i at good ticket d may as_seen

  abbrev chain' : List ℕ
  chain' = GivenLemmas.chain' k m views i v below_i at good ticket d may as_seen

  abbrev state_x : anchor_state x < full_state
  state_x = GivenLemmas.state_x k m views i v below_i at good ticket d may as_seen

  abbrev blocks_less : (b : ℕ) (w : View) → w.small ≡ v.small → w.caches ≡ v.caches → w.batch ≡ no_batch
      → times_block b w + times b (GivenLemmas.bs k m views i v below_i at good ticket d may as_seen) ≡ times_block b v
  blocks_less = GivenLemmas.blocks_less k m views i v below_i at good ticket d may as_seen

  abbrev chained : (cut' blocks' : ℕ → ℕ) → ((e : ℕ) → cut' e ≡ times_cut good.shape (tally_of views) e)
      → ((b : ℕ) → blocks' b + times b (GivenLemmas.bs k m views i v below_i at good ticket d may as_seen) ≡ (tally_of views).blocks b)
      → AreChained k.capacity (info m) (anchor m') (next m) (λ e. cond (nat_eq e d) chain' (good.shape.chains e)) cut' blocks'
  chained = GivenLemmas.chained k m views i v below_i at good ticket d may as_seen

  abbrev w0 : View
  w0 = GivenLemmas.w0 k m views i v below_i at good ticket d may as_seen

  abbrev claims_now : ClaimsOf m' v
  claims_now = GivenLemmas.claims_now k m views i v below_i at good ticket d may as_seen

  abbrev empties_most : (parked' : ℕ → ℕ) → ((e : ℕ) → e ≢ d → parked' e ≡ times_parked good.shape (tally_of views) e)
      → empties k.capacity (anchor m') parked' ≤ empties k.capacity (anchor m) (times_parked good.shape (tally_of views)) + 1
  empties_most = GivenLemmas.empties_most k m views i v below_i at good ticket d may as_seen

  -- a superblock that had free blocks keeps its place
  give_kept : word ≢ full_anchor → Good k m' (set views i (trimmed w0))
  give_kept not_full = good_step k m m' views i v w good g' below_i at
      (subst (IsInShape k.capacity m' g') (sym tally) (let s = good.shaped in record {
        lists = s.lists;
        placed = record { one_place = s.placed.one_place };
        untaken = on_anchor.untaken k m views i v below_i at good d x cut_d;
        listed = on_anchor.listed k m views i v below_i at good d x cut_d good.shape.full (λ some. state_x) (λ e other some. some)
            (λ some. absurd (not_full (sym as_seen ∙ s.listed.is_full d some)));
        chained = chained (times_cut good.shape (tally_of views)) blocks' (λ e. refl) blocks_are;
        durable = s.durable;
      }))
      (record {
        set_up = set_up_kept k v w seat.set_up refl refl refl refl refl (length_only w0 0 v.volatile) (length_only w0 0 v.durable);
        claims = claims_now;
        blocks = (GivenLemmas.blocks_now k m views i v below_i at good ticket d may as_seen);
        knows = (let n = seat.knows in record {
          seen_head = n.seen_head;
          seen_used = n.seen_used;
          looked = n.looked;
          seen_anchor = λ e. absurd (not_there e);
          seen_empty = λ e. absurd (not_there e);
          floor = n.floor;
        });
        words = on_anchor.words_after k m views i v below_i at good d x cut_d w0 refl refl refl;
        tickets = won_tickets k.budget m.drawn v w seat.tickets ticket refl refl (omega arith) refl refl refl refl refl refl refl (omega arith);
      })
      (λ j u other b a h. GivenLemmas.others k m views i v below_i at good ticket d may as_seen g' refl j u b a h)
      (on_anchor.adds_after k m views i v below_i at good d x cut_d w refl refl refl refl refl)
      (record { mine = omega arith; more = omega arith })
      (λ j u other b a. on_anchor.theirs k m views i v below_i at good d x cut_d u)
      (let old = good.moves in let gives = total_set (λ (y : View). y.gives) views i v w below_i at in
      let moves = total_same (λ (y : View). y.moves) views i v w below_i at refl in
      let now = ap (λ (t : Tally). empties k.capacity (anchor m') (times_parked g' t)) tally in
      let most = empties_most (times_parked g' t') (λ e other. refl) in omega arith) where
        w : View
        w = trimmed w0

        g' : CoreShape
        g' = record good.shape { chains = λ e. cond (nat_eq e d) chain' (good.shape.chains e) }

        blocks' : ℕ → ℕ
        blocks' b = total (times_block b) (set views i w)

        t' : Tally
        t' = record (tally_of views) { blocks = blocks' }

        tally : tally_of (set views i w) ≡ t'
        tally = λ j. record {
          raw = λ e. (total_same (times_raw e) views i v w below_i at refl) j;
          classed = λ e. (total_same (λ (y : View). times_classed e y.classed) views i v w below_i at refl) j;
          large = λ e. (total_same (λ (y : View). times_large e y.large) views i v w below_i at refl) j;
          blocks = blocks';
        }

        blocks_are : (b : ℕ) → blocks' b + times b (GivenLemmas.bs k m views i v below_i at good ticket d may as_seen) ≡ total (times_block b) views
        blocks_are b = let s = total_set (times_block b) views i v w below_i at in let z = blocks_less b w refl refl refl in omega arith

  -- one that was full comes into the hand
  abbrev w1 : View
  w1 = record w0 { classed = record { descriptor = d; class = class } ∷ v.classed; floor = max v.floor (d + 1) }

  give_full : word ≡ full_anchor → Good k m' (set views i (trimmed w1))
  give_full is_full = good_step k m m' views i v w good g' below_i at
      (subst (IsInShape k.capacity m' g') (sym tally) (let s = good.shaped in record {
        lists = s.lists;
        placed = record { one_place = λ e. let old = s.placed.one_place e in let z = cut_same e in omega arith };
        untaken = on_anchor.untaken k m views i v below_i at good d x cut_d;
        listed = on_anchor.listed k m views i v below_i at good d x cut_d g'.full (λ some. state_x)
            (λ e other some. let z = at_other good.shape.full d 0 e other in
            omega arith) (λ some. absurd (let z = at_one good.shape.full d 0 d refl in omega arith));
        chained = chained (times_cut g' t') blocks' cut_same blocks_are;
        durable = (let y = s.durable in record {
          behind = y.behind;
          room = y.room;
          below = λ e some. y.below e (let z = cut_same e in omega arith);
          infos = λ e some. y.infos e (let z = cut_same e in omega arith);
        });
      }))
      (record {
        set_up = set_up_kept k v w seat.set_up refl refl refl refl refl (length_only w1 0 v.volatile) (length_only w1 0 v.durable);
        claims = (let c = claims_now in record {
          is_raw = c.is_raw;
          is_split = c.is_split;
          is_cutting = c.is_cutting;
          is_classed = is_classed;
          is_large = c.is_large;
          is_part = c.is_part;
          some = c.some;
        });
        blocks = (GivenLemmas.blocks_now k m views i v below_i at good ticket d may as_seen);
        knows = (let n = seat.knows in record {
          seen_head = n.seen_head;
          seen_used = n.seen_used;
          looked = n.looked;
          seen_anchor = λ e. absurd (not_there e);
          seen_empty = λ e. absurd (not_there e);
          floor = let f = n.floor in let less = good.shaped.durable.below d (let c = cut_d in omega arith) in omega arith;
        });
        words = on_anchor.words_after k m views i v below_i at good d x cut_d w1 refl refl refl;
        tickets = won_tickets k.budget m.drawn v w seat.tickets ticket refl refl (omega arith) refl refl refl refl refl refl refl (omega arith);
      })
      (λ j u other b a h. GivenLemmas.others k m views i v below_i at good ticket d may as_seen g' refl j u b a h)
      (on_anchor.adds_after k m views i v below_i at good d x cut_d w refl refl refl refl refl)
      (record { mine = omega arith; more = omega arith })
      (λ j u other b a. on_anchor.theirs k m views i v below_i at good d x cut_d u)
      (let old = good.moves in let gives = total_set (λ (y : View). y.gives) views i v w below_i at in
      let moves = total_same (λ (y : View). y.moves) views i v w below_i at refl in
      let now = ap (λ (t : Tally). empties k.capacity (anchor m') (times_parked g' t)) tally in
      let most = empties_most (times_parked g' t') (λ e other. let z : times_parked g' t' e ≡ times_parked good.shape (tally_of views) e =
      (let c = classed_are e in let n = ne-eqb-none d e (λ q. other (sym q)) in omega arith) in z) in omega arith) where
        w : View
        w = trimmed w1

        g' : CoreShape
        g' = record good.shape { full = λ e. cond (nat_eq e d) 0 (good.shape.full e); chains = λ e. cond (nat_eq e d) chain' (good.shape.chains e) }

        blocks' : ℕ → ℕ
        blocks' b = total (times_block b) (set views i w)

        classed' : ℕ → ℕ
        classed' e = total (λ (y : View). times_classed e y.classed) (set views i w)

        t' : Tally
        t' = record (tally_of views) { classed = classed'; blocks = blocks' }

        tally : tally_of (set views i w) ≡ t'
        tally = λ j. record {
          raw = λ e. (total_same (times_raw e) views i v w below_i at refl) j;
          classed = classed';
          large = λ e. (total_same (λ (y : View). times_large e y.large) views i v w below_i at refl) j;
          blocks = blocks';
        }

        blocks_are : (b : ℕ) → blocks' b + times b (GivenLemmas.bs k m views i v below_i at good ticket d may as_seen) ≡ total (times_block b) views
        blocks_are b = let s = total_set (times_block b) views i v w below_i at in let z = blocks_less b w refl refl refl in omega arith

        classed_are : (e : ℕ) → classed' e ≡ total (λ (y : View). times_classed e y.classed) views + one_if (nat_eq d e)
        classed_are e = let s = total_set (λ (y : View). times_classed e y.classed) views i v w below_i at in omega arith

        was_full : anchor_state (anchor m d) < full_state → ⊥
        was_full less = let z : anchor_state (anchor m d) ≡ anchor_state 2 = ap anchor_state (as_seen ∙ is_full) in omega (arith, less, z)

        full_one : good.shape.full d ≡ 1
        full_one = let p = (on_anchor.alone k m views i v below_i at good d x cut_d).0 in
            elim (cases_lt 0 (times_in_lists good.shape d)) as (λ _. good.shape.full d ≡ 1) [
              | inl in_list ↦ absurd (let n = total_where (λ c. times d (good.shape.lists c)) class_numbers in_list in
                  was_full (good.shaped.listed.in_class n.1 d (class_of n.0 n.1 n.2 n.3) n.4).1)
              | inr no_list ↦ elim (cases_lt 0 ((tally_of views).classed d)) as (λ _. good.shape.full d ≡ 1) [
                | inl classed ↦ absurd (let u = total_where (λ (y : View). times_classed d y.classed) views classed in
                    was_full ((good.claims u.0 u.1 u.2 u.3).is_classed d u.4).2)
                | inr not_classed ↦ omega arith
              ]
            ]

        cut_same : (e : ℕ) → times_cut g' t' e ≡ times_cut good.shape (tally_of views) e
        cut_same e = let c = classed_are e in elim (cases_eq e d) as (λ _. times_cut g' t' e ≡ times_cut good.shape (tally_of views) e) [
          | inl same ↦ let z = at_one good.shape.full d 0 e same in let o = eq-eqb-one d e (sym same) in let f = ap good.shape.full same in
              let one = full_one in omega arith
          | inr other ↦ let z = at_other good.shape.full d 0 e other in let n = ne-eqb-none d e (λ q. other (sym q)) in omega arith
        ]

        is_classed : (e : ℕ) → 0 < times_classed e w.classed → IsClass (claim_class e w.classed) × (info m e ≡ claim_class e w.classed)
            × (anchor_state (anchor m' e) < full_state)
        is_classed e some = elim (cases_eq d e) [
          | inl same ↦ subst (λ t. IsClass (cond t class (claim_class e v.classed)) × (info m e ≡ cond t class (claim_class e v.classed))
              × (anchor_state (anchor m' e) < full_state)) (sym (eq-eqb d e same))
              (is_class, ap (info m) (sym same) ∙ info_is, subst (λ a. anchor_state a < full_state) (sym (at_one (anchor m) d x e (sym same))) state_x)
          | inr other ↦ subst (λ t. IsClass (cond t class (claim_class e v.classed)) × (info m e ≡ cond t class (claim_class e v.classed))
              × (anchor_state (anchor m' e) < full_state)) (sym (ne_eqb d e other))
              (claims_now.is_classed e (let n = ne-eqb-none d e other in omega arith))
        ]

  pub give : Good k m' (set views i (given v d))
  give = elim (cases_eq word full_anchor) [
    | inl full ↦ subst (λ t. Good k m' (set views i (trimmed (cond t (claimed w0 d class) w0)))) (sym (eq-eqb word full_anchor full))
        (by_class class is_class (give_full full))
    | inr part ↦ subst (λ t. Good k m' (set views i (trimmed (cond t (claimed w0 d class) w0)))) (sym (ne_eqb word full_anchor part)) (give_kept part)
  ] where
    by_class : (n : ℕ) → IsClass n → Good k m' (set views i (trimmed
        (record w0 { classed = record { descriptor = d; class = n } ∷ v.classed; floor = max v.floor (d + 1) })))
        → Good k m' (set views i (trimmed (claimed w0 d n)))
    by_class zero is kept = absurd (let s = is.some in omega arith)
    by_class (suc c) is kept = kept
