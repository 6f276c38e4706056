-- Worked examples of modes, and of what roots reach by them.
use Rattle.std.specs.Prelude.{◌≡◌, [], ◌∷◌, refl}
use Rattle.std.proofs.Common.{arith}
use Rattle.heap_model.specs.Image.{Image}
use Rattle.heap_model.specs.Sizes.{class_sizes, words_of_class, blocks_of}
use Rattle.heap_model.specs.Blocks.{of_class}
use Rattle.heap_model.specs.Pointers.{Leads, LeadsOutside}
use Rattle.heap_model.specs.Reach.{Links, by_start, by_link}
use Rattle.heap_model.specs.Examples.{formatted}
use Rattle.heap_model.specs.BlockExamples.{one_table, table_block, root_leads}
use Rattle.heap_model.specs.ReachExamples.{table_and_node, table_links, table, node}
use Rattle.mixed_trace.specs.declared.mode.Mode.{Mode}
use Rattle.mixed_trace.specs.declared.mode.Mode.TheVariants.{Kind, All}
use Rattle.mixed_trace.specs.Reach.{modes_of, FitsBelow, CountsAs, ReachMixed, is_root, IsOutsideMixed}
use Rattle.mixed_trace.specs.Codes.{code, HasMode}
use Rattle.mixed_trace.specs.Recovery.{words_by_modes}
use Rattle.mixed_trace.specs.Conservative.{IsReachedByWords}

-- modes of roots, and the numbers that stand for them below three kinds
second_mode : modes_of (Kind 2 ∷ All ∷ []) 1 ≡ All
second_mode = refl

kind_by_itself : code 3 (Kind 2) ≡ 2
kind_by_itself = refl

all_above : code 3 All ≡ 3
all_above = refl

no_fourth_kind : FitsBelow 3 (Kind 3) → ⊥
no_fourth_kind fits = omega arith

-- the mark with the number above the kinds is one of no filter, and none of a kind
marked_all : HasMode 3 ((table, 3) ∷ []) table All
marked_all = record { fits = tt; pair = (0, omega arith, refl) }

not_marked_kind : HasMode 3 ((table, 3) ∷ []) table (Kind 3) → ⊥
not_marked_kind has = let fits = has.fits in omega arith

-- an image of the old version is migrated with the kinds, and 0 where there is none
migrated_by_modes : words_by_modes (7 ∷ 1 ∷ 4 ∷ 1 ∷ 9 ∷ []) (Kind 1 ∷ All ∷ []) ≡ 7 ∷ 2 ∷ 4 ∷ 1 ∷ 9 ∷ 1 ∷ 0 ∷ []
migrated_by_modes = refl

-- a table links its word 0 alone; without its filter each of its 128 words counts, and no other
first_links : CountsAs table_and_node table_links table (Kind 1) 0 (Kind 2)
first_links = (0, omega arith, refl)

last_counts : CountsAs table_and_node table_links table All 127 All
last_counts = omega arith

no_word_behind : CountsAs table_and_node table_links table All 128 All → ⊥
no_word_behind counts = omega arith

-- what a root leads to is reached as one of the root's mode, whatever the filter
reached_as : (mode : Mode) (links : Links) → ReachMixed one_table (λ _. mode) links (table_block 0) mode
unfolding one_table
reached_as mode links = by_start (table_block 0) mode (record { root = 0; below = omega arith; mode_is = refl; leads = root_leads })

-- a table whose word 1 leads to a node: the filter does not list it
unfoldable pub node_beside : Image
node_beside = formatted 2 ((8, 2) ∷ (1064, 12) ∷ (1072, 2) ∷ (40, 0x52500000000021c0) ∷ (1081, 0x52500000000121c0) ∷ [])

table_leads : Leads node_beside (node_beside 40) table
unfolding node_beside words_of_class blocks_of class_sizes
table_leads = record {
  pointer = record { tagged = refl; short = omega arith };
  names = record {
    begins_at = refl;
    block = record {
      superblock = 0;
      index = 0;
      words = 128;
      count = 64;
      is_of = record {
        taken = omega arith;
        begins = of_class 12 refl (record { some = omega arith; last = omega arith });
        below = omega arith;
        at = refl;
        size = refl;
      };
    };
  };
}

node_leads : Leads node_beside (node_beside 1081) node
unfolding node_beside words_of_class blocks_of class_sizes
node_leads = record {
  pointer = record { tagged = refl; short = omega arith };
  names = record {
    begins_at = refl;
    block = record {
      superblock = 1;
      index = 0;
      words = 4;
      count = 2048;
      is_of = record {
        taken = omega arith;
        begins = of_class 2 refl (record { some = omega arith; last = omega arith });
        below = omega arith;
        at = refl;
        size = refl;
      };
    };
  };
}

-- without the filter the node is reached
node_reached : ReachMixed node_beside (λ _. All) table_links node All
node_reached =
    by_link table node All All (by_start table All (record { root = 0; below = omega arith; mode_is = refl; leads = table_leads }))
    (record { position = 1; counts = omega arith; leads = node_leads })

-- Root 0 of an empty heap has the offset of no block: as one of a kind it is refused, as one of no filter it is not.
unfoldable pub stray_root : Image
stray_root = formatted 1 ((40, 0x5250000000002188) ∷ [])

leads_nowhere : LeadsOutside stray_root (stray_root 40)
unfolding stray_root
leads_nowhere = record {
  not_null = λ e. omega (arith, e);
  nowhere = λ b leads. let taken = leads.names.block.is_of.taken in omega arith;
}

refused_as_kind : IsOutsideMixed stray_root (λ _. Kind 1) table_links 40
refused_as_kind = record { traced = is_root 0 1 40 (omega arith) refl refl; outside = leads_nowhere }

-- with no filter at all the node is reached too
node_by_words : IsReachedByWords node_beside node
node_by_words = record {
  mode = All;
  reach = by_link table node All All (by_start table All (record { root = 0; below = omega arith; mode_is = refl; leads = table_leads }))
      (record { position = 1; counts = omega arith; leads = node_leads });
}
