-- Worked examples: two blocks that roots lead to, shown by the anchors. In two more images the anchors tell as much,
-- and wrongly: a block that a root leads to is freed, and one that no root leads to is held.
use Rattle.std.specs.Prelude.{◌≡◌, ℕ, ◌+◌, ◌*◌, ◌<◌, ◌⊎◌, List, [], ◌∷◌, Contains, Some, refl}
use Rattle.std.proofs.Common.{ap, arith, inl, inr, subst, sym, ◌∙◌}
use Rattle.heap_model.specs.declared.block.Block.{Block}
use Rattle.heap_model.specs.Geometry.{roots}
use Rattle.heap_model.specs.Header.{kinds_of}
use Rattle.heap_model.specs.Image.{Image}
use Rattle.heap_model.specs.Sizes.{class_sizes, words_of_class, blocks_of}
use Rattle.heap_model.specs.Words.{anchor_of, partial_state}
use Rattle.heap_model.specs.Blocks.{of_class as begins_class}
use Rattle.heap_model.specs.Pointers.{Leads, LeadsOutside}
use Rattle.heap_model.specs.Reach.{words_in, ReachIn, IsReachedIn, IsTraced, is_root, is_linked, by_start}
use Rattle.heap_model.proofs.MemberLemmas.{in_none}
use Rattle.heap_model.proofs.ReachLemmas.{closure_least, one_block}
use Rattle.heap_at_rest.specs.Orderly.{IsOrderly, IsHeldByAnchors}
use Rattle.heap_at_rest.specs.OrderlyExamples.{quarter}
use Rattle.dict_model.specs.Links.{dict_links, kind_count}
use Rattle.quick_dictionary.specs.OrderlyDictionary.{IsOrderlyDictionary}
use Rattle.quick_dictionary.specs.FourBlocks.{four_blocks, to_first, to_second, to_third, set_each, set_words, formed, kinds_fit, maps_are, is_orderly, first_held, third_held, held_cases}

-- What the roots reach.
module _ (eighth ninth : ℕ) where
  -- a root is the eighth, or the ninth, or null
  data IsRootWord (root word : ℕ) : Type 0 where
    is_eighth : root ≡ 8 → word ≡ eighth → IsRootWord root word
    is_ninth : root ≡ 9 → word ≡ ninth → IsRootWord root word
    is_null : word ≡ 0 → IsRootWord root word

  root_is : (root : ℕ) → root < roots → IsRootWord root (four_blocks eighth ninth (40 + root))
  unfolding four_blocks
  root_is root below = set_each (IsRootWord root)
      (set_words ((8, 1) ∷ (1064, 20) ∷ (1065, anchor_of partial_state 1 2) ∷ (2864, 6448) ∷ (48, eighth) ∷ (49, ninth) ∷ [])) (40 + root) (
        λ e. absurd (omega arith),
        (
          λ e. absurd (omega arith),
          (
            λ e. absurd (omega arith),
            (
              λ e. absurd (omega arith),
              (
                λ e. absurd (omega arith),
                (
                  λ e. absurd (omega arith),
                  (
                    λ e. absurd (omega arith),
                    (
                      λ e. absurd (omega arith),
                      (
                        λ e. absurd (omega arith),
                        (
                          λ e. absurd (omega arith),
                          (
                            λ e. absurd (omega arith),
                            (
                              λ e. absurd (omega arith),
                              (
                                λ e. absurd (omega arith),
                                (
                                  λ e. absurd (omega arith),
                                  (
                                    λ e. absurd (omega arith),
                                    (
                                      λ e. absurd (omega arith),
                                      (λ e. is_eighth (omega arith) refl, (λ e. is_ninth (omega arith) refl, tt)),
                                    ),
                                  ),
                                ),
                              ),
                            ),
                          ),
                        ),
                      ),
                    ),
                  ),
                ),
              ),
            ),
          ),
        ),
      ) (is_null refl)

  -- so what is reached has kind 0, and one of the two roots leads there
  record IsLedTo (b : Block) (kind : ℕ) : Type 0 where
    no_links : kind ≡ 0
    leads : Leads (four_blocks eighth ninth) eighth b ⊎ Leads (four_blocks eighth ninth) ninth b

  led_from : (root word kind : ℕ) (b : Block) → IsRootWord root word → kind ≡ kinds_of (four_blocks eighth ninth) root
      → Leads (four_blocks eighth ninth) word b → IsLedTo b kind
  unfolding four_blocks
  led_from root word kind b (is_eighth at is) kind_is leads = record {
    no_links = kind_is ∙ subst (λ r. kinds_of (four_blocks eighth ninth) r ≡ 0) (sym at) refl;
    leads = inl (subst (λ w. Leads (four_blocks eighth ninth) w b) is leads);
  }
  led_from root word kind b (is_ninth at is) kind_is leads = record {
    no_links = kind_is ∙ subst (λ r. kinds_of (four_blocks eighth ninth) r ≡ 0) (sym at) refl;
    leads = inr (subst (λ w. Leads (four_blocks eighth ninth) w b) is leads);
  }
  led_from root word kind b (is_null is) kind_is leads = absurd (let tagged = leads.pointer.tagged in omega arith)

  no_link : (from position kind : ℕ) (words : List ℕ) → from ≡ 0 → Contains (dict_links from words) (position, kind) → ⊥
  no_link from position kind words none listed = in_none (position, kind) (subst (λ k. Contains (dict_links k words) (position, kind)) none listed)

  led_to : (b : Block) (kind : ℕ) → ReachIn (four_blocks eighth ninth) dict_links b kind → IsLedTo b kind
  led_to = closure_least IsLedTo
      (λ b kind start. led_from start.root (four_blocks eighth ninth (40 + start.root)) kind b
      (root_is start.root start.below) start.kind_is start.leads)
      (λ a b from kind reached led link. absurd (no_link from link.position kind (words_in (four_blocks eighth ninth) a) led.no_links link.listed))

-- Roots lead to the blocks 0 and 2: it is a dictionary that its anchors show.
leads_to : (eighth ninth index word : ℕ) → index < 4 → word ≡ 0x5250000000000000 + 8 * (1072 + index * 1792)
    → Leads (four_blocks eighth ninth) word (quarter index)
unfolding four_blocks words_of_class blocks_of class_sizes
leads_to eighth ninth index word below is = record {
  pointer = record { tagged = is; short = omega arith };
  names = record {
    begins_at = refl;
    block = record {
      superblock = 0;
      index = index;
      words = 1792;
      count = 4;
      is_of = record {
        taken = omega arith;
        begins = begins_class 20 refl (record { some = omega arith; last = omega arith });
        below = below;
        at =
            refl;
        size = refl;
      };
    };
  };
}

-- roots lead to the first block and to the third
abbrev pub shown : Image
shown = four_blocks to_first to_third

first_led : Leads shown to_first (quarter 0)
first_led = leads_to to_first to_third 0 to_first (omega arith) refl

third_led : Leads shown to_third (quarter 2)
third_led = leads_to to_first to_third 2 to_third (omega arith) refl

first_reached : ReachIn shown dict_links (quarter 0) 0
unfolding four_blocks
first_reached = by_start (quarter 0) 0 (record { root = 8; below = omega arith; is_chosen = tt; kind_is = refl; leads = first_led })

third_reached : ReachIn shown dict_links (quarter 2) 0
unfolding four_blocks
third_reached = by_start (quarter 2) 0 (record { root = 9; below = omega arith; is_chosen = tt; kind_is = refl; leads = third_led })

led_held : (b : Block) → Leads shown to_first b ⊎ Leads shown to_third b → IsHeldByAnchors shown b
led_held b (inl leads) = subst (λ x. IsHeldByAnchors shown x) (one_block shown to_first (quarter 0) b first_led leads) (first_held to_first to_third)
led_held b (inr leads) = subst (λ x. IsHeldByAnchors shown x) (one_block shown to_third (quarter 2) b third_led leads) (third_held to_first to_third)

held_reached : (b : Block) → (quarter 0 ≡ b) ⊎ (quarter 2 ≡ b) → IsReachedIn shown dict_links b
held_reached b (inl same) = subst (λ x. IsReachedIn shown dict_links x) same (record { kind = 0; reach = first_reached })
held_reached b (inr same) = subst (λ x. IsReachedIn shown dict_links x) same (record { kind = 0; reach = third_reached })

root_inside : (root word : ℕ) → IsRootWord to_first to_third root word → LeadsOutside shown word → ⊥
root_inside root word (is_eighth at is) out = out.nowhere (quarter 0) (subst (λ w. Leads shown w (quarter 0)) (sym is) first_led)
root_inside root word (is_ninth at is) out = out.nowhere (quarter 2) (subst (λ w. Leads shown w (quarter 2)) (sym is) third_led)
root_inside root word (is_null is) out = out.not_null is

none_outside : (at : ℕ) → IsTraced shown (kinds_of shown) dict_links at → LeadsOutside shown (shown at) → ⊥
none_outside _ (is_root root at below chosen is) out = root_inside root (shown (40 + root)) (root_is to_first to_third root below)
    (subst (λ w. LeadsOutside shown (shown w)) is out)
none_outside _ (is_linked a from position kind at reached listed is) out = no_link to_first to_third from position kind (words_in shown a)
    (led_to to_first to_third a from reached).no_links listed

shown_is_orderly : IsOrderlyDictionary 82304 shown
shown_is_orderly = record {
  formed = formed to_first to_third;
  orderly = is_orderly to_first to_third;
  dictionary = record {
    nothing_outside = λ at out. none_outside at out.traced out.outside;
    maps = record { kinds = kinds_fit to_first to_third; each = maps_are to_first to_third };
    exact = λ b. (
      λ held. held_reached b (held_cases to_first to_third b held),
      λ reached. led_held b
          (led_to to_first to_third b reached.kind reached.reach).leads,
    );
  };
}

-- A root leads to block 1, which the chain has: the image is orderly too, but a reached block is not held.
abbrev pub freed : Image
freed = four_blocks to_first to_second

freed_is_orderly : IsOrderly (Some kind_count) 82304 freed
freed_is_orderly = is_orderly to_first to_second

second_reached : ReachIn freed dict_links (quarter 1) 0
unfolding four_blocks
second_reached = by_start (quarter 1) 0
    (record { root = 9; below = omega arith; is_chosen = tt; kind_is = refl; leads = leads_to to_first to_second 1 to_second (omega arith) refl })

freed_is_none : IsOrderlyDictionary 82304 freed → ⊥
freed_is_none is = elim (held_cases to_first to_second (quarter 1)
    ((is.dictionary.exact (quarter 1)).1 (record { kind = 0; reach = second_reached }))) as (λ _. ⊥) [
      | inl same ↦ let firsts : ◌≡◌ {A = ℕ} 1072 2864 = ap (λ (b : Block). b.first_word) same in omega arith
      | inr same ↦ let firsts : ◌≡◌ {A = ℕ} 4656 2864 = ap (λ (b : Block). b.first_word) same in omega arith
    ]

-- No root leads to block 2, which is held.
abbrev pub lost : Image
lost = four_blocks to_first 0

lost_is_none : IsOrderlyDictionary 82304 lost → ⊥
lost_is_none is =
    let reached = (is.dictionary.exact (quarter 2)).0 (third_held to_first 0) in
    elim (led_to to_first 0 (quarter 2) reached.kind reached.reach).leads as (λ _. ⊥) [
      | inl leads ↦ let tagged = leads.pointer.tagged in omega arith
      | inr leads ↦ let tagged = leads.pointer.tagged in omega arith
    ]
