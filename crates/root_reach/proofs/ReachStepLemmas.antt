-- Facts on the steps of the trace: what adding an origin and following a word leave.
use Rattle.std.proofs.Common.{◌≡◌, ◌≢◌, ℕ, ◌+◌, ◌<◌, List, [], ◌∷◌, ◌++◌, Some, length, slice_index, set, sym, subst, ◌∙◌, ap, arith, inl, inr, length-set, length-append, get_or-set_same, get_or-set_other}
use Rattle.std.specs.Prelude.{Contains}
use Rattle.std.proofs.lemmas.Bool.{cases_eq}
use Rattle.std.proofs.lemmas.List.Sums.{sum_by-set}
use Rattle.std.proofs.lemmas.List.Elements.{Contains-push, Contains-push_cases, Contains-append_left}
use Rattle.heap_model.specs.declared.block.Block.{Block}
use Rattle.heap_model.specs.Image.{Image}
use Rattle.heap_model.specs.Blocks.{layout_of, IsBlock}
use Rattle.heap_model.specs.Pointers.{Leads}
use Rattle.heap_model.specs.Reach.{Links}
use Rattle.heap_model.proofs.ReachLemmas.{one_block}
use Rattle.filter_trace.specs.Pairs.{mark_of}
use Rattle.filter_trace.proofs.PairLemmas.{one_mark}
use Rattle.filter_trace.proofs.WalkLemmas.{no_more, more_and_more}
use Rattle.root_reach.specs.declared.origin.Origin.{Origin}
use Rattle.root_reach.specs.declared.origin.Origin.TheVariants.{One, Several}
use Rattle.root_reach.specs.declared.labels.Finding.{Finding}
use Rattle.root_reach.specs.Origins.{Covers, Joins, first, both, origin_in, origin_at, label_of, rank}
use Rattle.root_reach.specs.Reaching.{Tells, HasLabels, IsShared}
use Rattle.root_reach.specs.Steps.{AddsOrigin, present, added, Propagates, nowhere, lead, IsPropagated, ArePropagated, AreFindings, Grows}
use Rattle.root_reach.proofs.OriginLemmas.{origin_in-label_of, joins_covers, joins_still, rank_up}

-- nothing new
pub nothing_new : (found found' : List Finding) (labels labels' : List ℕ) → found' ≡ found → labels' ≡ labels → Grows found found' labels labels'
nothing_new found found' labels labels' same_found same_labels = record {
  more = no_more found found' same_found;
  still = λ i o was. subst (λ (ls : List ℕ). Covers (origin_in (slice_index ls i)) o) (sym same_labels) was;
  long = ap (λ (ls : List ℕ). length ls) same_labels;
}

pub grows_on : (found found' found'' : List Finding) (labels labels' labels'' : List ℕ) → Grows found found' labels labels'
    → Grows found' found'' labels' labels''
    → Grows found found'' labels labels''
grows_on found found' found'' labels labels' labels'' one two = record {
  more = more_and_more found found' found'' one.more two.more;
  still = λ i o was. two.still i o (one.still i o was);
  long = two.long ∙ one.long;
}

module _ (image : Image) (kinds : ℕ → ℕ) (links : Links) (count : ℕ) where
  -- what was followed is still
  pub still_followed : (found found' : List Finding) (labels labels' : List ℕ) (at kind : ℕ) (o : Origin) → Grows found found' labels labels'
      → IsPropagated image count labels at kind o → IsPropagated image count labels' at kind o
  still_followed found found' labels labels' at kind o grown was = record {
    here = λ b leads. ((was.here b leads).0, grown.still (mark_of count b kind) o (was.here b leads).1);
  }

  pub all_still : (found found' : List Finding) (labels labels' : List ℕ) (a : Block) (o : Origin) (upto : List (ℕ × ℕ))
      → Grows found found' labels labels'
      → ArePropagated image count labels a o upto → ArePropagated image count labels' a o upto
  all_still found found' labels labels' a o upto grown was = record {
    each = λ position kind here. still_followed found found' labels labels' (a.first_word + position) kind o grown (was.each position kind here);
  }

  -- a label is there
  label_inside : (found : List Finding) (labels : List ℕ) (b : Block) (kind : ℕ) → HasLabels (layout_of image) count labels
      → IsBlock (layout_of image) b → kind < count
      → mark_of count b kind < length labels
  label_inside found labels b kind room is below = let each = room.each b is in omega arith

  -- two different roots reach what one reached before and another does now
  two_roots : (b : Block) (kind root : ℕ) (o : Origin) → o ≢ One root → Tells image kinds links b kind (One root) → Tells image kinds links b kind o
      → IsShared image kinds links b kind
  two_roots b kind root (One other) apart was now = record {
    one = root;
    other = other;
    apart = λ e. apart (ap (λ r. One r) (sym e));
    from_one = was.1;
    from_other = now.1;
  }
  two_roots b kind root Several apart was now = now

  -- what is told where an origin joins is so
  tells_joined : (found : List Finding) (labels : List ℕ) (b : Block) (kind : ℕ) (o joined : Origin) → AreFindings image kinds links count found labels
      → IsBlock (layout_of image) b → kind < count → Tells image kinds links b kind o → Joins (origin_at count labels b kind) o joined
      → Tells image kinds links b kind joined
  tells_joined found labels b kind o joined so_far is below tells (first none are) = subst (λ x. Tells image kinds links b kind x) (sym are) tells
  tells_joined found labels b kind o joined so_far is below tells (both root one apart are) =
      subst (λ x. Tells image kinds links b kind x) (sym are)
      (two_roots b kind root o apart (so_far.sound (record { block = b; kind = kind; origin = One root })
      (so_far.told b kind (One root) is below one)).1 tells)

  -- the label of a pair after it was set, and that of another pair
  set_label : (labels : List ℕ) (b : Block) (kind : ℕ) (o : Origin) → mark_of count b kind < length labels
      → origin_at count (set labels (mark_of count b kind) (label_of o)) b kind ≡ Some o
  set_label labels b kind o inside = ap origin_in (get_or-set_same labels (mark_of count b kind) (label_of o) 0 inside) ∙ origin_in-label_of o

  other_label : (labels : List ℕ) (at i : ℕ) (label : ℕ) → i ≢ at → origin_in (slice_index (set labels at label) i) ≡ origin_in (slice_index labels i)
  other_label labels at i label apart = ap origin_in (get_or-set_other labels at i label 0 apart)

  told_more : (found : List Finding) (labels : List ℕ) (b : Block) (kind : ℕ) (joined : Origin) → AreFindings image kinds links count found labels
      → IsBlock (layout_of image) b → kind < count → (c : Block) (j : ℕ) (o : Origin) → IsBlock (layout_of image) c → j < count
      → origin_at count (set labels (mark_of count b kind) (label_of joined)) c j ≡ Some o
      → Contains (found ++ record { block = b; kind = kind; origin = joined } ∷ []) (record { block = c; kind = j; origin = o })
  told_more found labels b kind joined so_far is below c j o is_c j_below tells =
      let new : Finding = record { block = b; kind = kind; origin = joined } in
      elim (cases_eq (mark_of count c j) (mark_of count b kind)) as (λ _. Contains (found ++ new ∷ []) (record { block = c; kind = j; origin = o })) [
        | inl one ↦
            let pair = one_mark (layout_of image) count b c kind j is is_c below j_below (sym one) in
            let inside = label_inside found labels b kind so_far.room is below in
            let now : Some joined ≡ Some o =
            sym (set_label labels b kind joined inside)
            ∙ ap (λ (m : ℕ). origin_in (slice_index (set labels (mark_of count b kind) (label_of joined)) m)) (sym one) ∙ tells in
            let origin : joined ≡ o = cc in
            let at_c : Contains (found ++ new ∷ []) (record { block = c; kind = kind; origin = joined }) =
            subst (λ (x : Block). Contains (found ++ new ∷ []) (record { block = x; kind = kind; origin = joined })) pair.0 (Contains-push found new) in
            let at_j : Contains (found ++ new ∷ []) (record { block = c; kind = j; origin = joined }) =
            subst (λ (x : ℕ). Contains (found ++ new ∷ []) (record { block = c; kind = x; origin = joined })) pair.1 at_c in
            subst (λ (x : Origin). Contains (found ++ new ∷ []) (record { block = c; kind = j; origin = x })) origin at_j
        | inr other ↦ Contains-append_left found (new ∷ []) (record { block = c; kind = j; origin = o })
            (so_far.told c j o is_c j_below (sym (other_label labels (mark_of count b kind) (mark_of count c j) (label_of joined) other) ∙ tells))
      ]

  sound_more : (found : List Finding) (labels : List ℕ) (new : Finding) → AreFindings image kinds links count found labels → new.kind < count
      → Tells image kinds links new.block new.kind new.origin → (f : Finding) → Contains (found ++ new ∷ []) f
      → (f.kind < count) × Tells image kinds links f.block f.kind f.origin
  sound_more found labels new so_far below tells f here =
      elim (Contains-push_cases found new f here) as (λ _. (f.kind < count) × Tells image kinds links f.block f.kind f.origin) [
        | inl old ↦ so_far.sound f old
        | inr one ↦ subst (λ (x : Finding). (x.kind < count) × Tells image kinds links x.block x.kind x.origin) one (below, tells)
      ]

  added_found : (found : List Finding) (labels : List ℕ) (b : Block) (kind : ℕ) (o joined : Origin) → AreFindings image kinds links count found labels
      → IsBlock (layout_of image) b → kind < count → Tells image kinds links b kind o → Joins (origin_at count labels b kind) o joined
      → AreFindings image kinds links count (found ++ record { block = b; kind = kind; origin = joined } ∷ [])
      (set labels (mark_of count b kind) (label_of joined))
  added_found found labels b kind o joined so_far is below tells joins =
      let inside = label_inside found labels b kind so_far.room is below in
      let long : length (set labels (mark_of count b kind) (label_of joined)) ≡ length labels =
      length-set labels (mark_of count b kind) (label_of joined) in
      record {
        room = record { each = λ c is_c. let each = so_far.room.each c is_c in omega arith };
        sound = sound_more found labels (record { block = b; kind = kind; origin = joined }) so_far below
            (tells_joined found labels b kind o joined so_far is below tells joins);
        told = told_more found labels b kind joined so_far is below;
        few = let few = so_far.few in
            let up = rank_up (slice_index labels (mark_of count b kind)) o joined joins in
            let sums = sum_by-set rank labels (mark_of count b kind) (label_of joined) 0 inside in
            let one = length-append found (record { block = b; kind = kind; origin = joined } ∷ []) in
            omega arith;
      }

  -- what adding an origin leaves
  pub add_found : (found found' : List Finding) (labels labels' : List ℕ) (b : Block) (kind : ℕ) (o : Origin)
      → AreFindings image kinds links count found labels
      → IsBlock (layout_of image) b → kind < count → Tells image kinds links b kind o → AddsOrigin count b kind o found found' labels labels'
      → AreFindings image kinds links count found' labels'
  add_found found found' labels labels' b kind o so_far is below tells (present covers same_found same_labels) =
      subst (λ fs. AreFindings image kinds links count fs labels') (sym same_found)
      (subst (λ ls. AreFindings image kinds links count found ls) (sym same_labels) so_far)
  add_found found found' labels labels' b kind o so_far is below tells (added joined joins new_found new_labels) =
      subst (λ fs. AreFindings image kinds links count fs labels') (sym new_found)
      (subst (λ ls. AreFindings image kinds links count (found ++ record { block = b; kind = kind; origin = joined } ∷ []) ls) (sym new_labels)
      (added_found found labels b kind o joined so_far is below tells joins))

  added_still : (labels : List ℕ) (b : Block) (kind : ℕ) (o joined : Origin) → mark_of count b kind < length labels
      → Joins (origin_at count labels b kind) o joined
      → (i : ℕ) (p : Origin) → Covers (origin_in (slice_index labels i)) p
      → Covers (origin_in (slice_index (set labels (mark_of count b kind) (label_of joined)) i)) p
  added_still labels b kind o joined inside joins i p was =
      elim (cases_eq i (mark_of count b kind)) as (λ _. Covers (origin_in (slice_index (set labels (mark_of count b kind) (label_of joined)) i)) p) [
        | inl one ↦ subst (λ (j : ℕ). Covers (origin_in (slice_index (set labels (mark_of count b kind) (label_of joined)) j)) p) (sym one)
            (subst (λ x. Covers x p) (sym (set_label labels b kind joined inside))
            (joins_still (origin_at count labels b kind) o joined p joins (subst (λ (j : ℕ). Covers (origin_in (slice_index labels j)) p) one was)))
        | inr other ↦ subst (λ x. Covers x p) (sym (other_label labels (mark_of count b kind) i (label_of joined) other)) was
      ]

  pub add_grows : (found found' : List Finding) (labels labels' : List ℕ) (b : Block) (kind : ℕ) (o : Origin) → mark_of count b kind < length labels
      → AddsOrigin count b kind o found found' labels labels' → Grows found found' labels labels'
  add_grows found found' labels labels' b kind o inside (present covers same_found same_labels) =
      nothing_new found found' labels labels' same_found same_labels
  add_grows found found' labels labels' b kind o inside (added joined joins new_found new_labels) = record {
    more = record { more = record { block = b; kind = kind; origin = joined } ∷ []; is = new_found };
    still = λ i p was. subst (λ (ls : List ℕ). Covers (origin_in (slice_index ls i)) p) (sym new_labels)
        (added_still labels b kind o joined inside joins i p was);
    long = ap (λ (ls : List ℕ). length ls) new_labels ∙ length-set labels (mark_of count b kind) (label_of joined);
  }

  add_covers : (found found' : List Finding) (labels labels' : List ℕ) (b : Block) (kind : ℕ) (o : Origin) → mark_of count b kind < length labels
      → AddsOrigin count b kind o found found' labels labels' → Covers (origin_at count labels' b kind) o
  add_covers found found' labels labels' b kind o inside (present covers same_found same_labels) =
      subst (λ (ls : List ℕ). Covers (origin_at count ls b kind) o) (sym same_labels) covers
  add_covers found found' labels labels' b kind o inside (added joined joins new_found new_labels) =
      subst (λ (ls : List ℕ). Covers (origin_at count ls b kind) o) (sym new_labels)
      (subst (λ x. Covers x o) (sym (set_label labels b kind joined inside)) (joins_covers (origin_at count labels b kind) o joined joins))

  -- what following a word leaves
  pub follow_found : (found found' : List Finding) (labels labels' : List ℕ) (at kind : ℕ) (o : Origin)
      → AreFindings image kinds links count found labels → kind < count
      → ((b : Block) → Leads image (image at) b → Tells image kinds links b kind o) → Propagates image count at kind o found found' labels labels'
      → AreFindings image kinds links count found' labels'
  follow_found found found' labels labels' at kind o so_far below tells (nowhere none same_found same_labels) =
      subst (λ fs. AreFindings image kinds links count fs labels') (sym same_found)
      (subst (λ ls. AreFindings image kinds links count found ls) (sym same_labels) so_far)
  follow_found found found' labels labels' at kind o so_far below tells (lead b leads adds) =
      add_found found found' labels labels' b kind o so_far leads.names.block below (tells b leads) adds

  pub follow_grows : (found found' : List Finding) (labels labels' : List ℕ) (at kind : ℕ) (o : Origin)
      → HasLabels (layout_of image) count labels → kind < count
      → Propagates image count at kind o found found' labels labels' → Grows found found' labels labels'
  follow_grows found found' labels labels' at kind o room below (nowhere none same_found same_labels) =
      nothing_new found found' labels labels' same_found same_labels
  follow_grows found found' labels labels' at kind o room below (lead b leads adds) =
      add_grows found found' labels labels' b kind o (label_inside found labels b kind room leads.names.block below) adds

  pub follow_followed : (found found' : List Finding) (labels labels' : List ℕ) (at kind : ℕ) (o : Origin)
      → HasLabels (layout_of image) count labels → kind < count
      → Propagates image count at kind o found found' labels labels' → IsPropagated image count labels' at kind o
  follow_followed found found' labels labels' at kind o room below (nowhere none same_found same_labels) =
      record { here = λ b leads. absurd (none b leads) }
  follow_followed found found' labels labels' at kind o room below (lead b leads adds) = record {
    here = λ c to_c. (
      below,
      subst (λ (x : Block). Covers (origin_at count labels' x kind) o) (one_block image (image at) b c leads to_c)
          (add_covers found found' labels labels' b kind o (label_inside found labels b kind room leads.names.block below) adds),
    );
  }
