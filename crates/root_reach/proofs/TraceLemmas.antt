-- Facts on the loops of the trace: over the roots, over the links of a block, and over what was found.
use Rattle.std.proofs.Common.{◌≡◌, ◌≢◌, ℕ, Option, ◌+◌, ◌*◌, ◌<◌, ◌≤◌, List, [], ◌∷◌, ◌++◌, Some, None, length, refl, sym, subst, ◌∙◌, ap, arith, inl, inr, below_more}
use Rattle.std.specs.Prelude.{Contains}
use Rattle.std.specs.List.{All}
use Rattle.std.proofs.lemmas.Bool.{cases_eq}
use Rattle.std.proofs.lemmas.List.Elements.{All-contains, Contains-push_cases}
use Rattle.std.proofs.lemmas.Nat.{row_fits}
use Rattle.heap_model.specs.declared.block.Block.{Block}
use Rattle.heap_model.specs.Geometry.{roots, root_word, start_word}
use Rattle.heap_model.specs.Image.{Image}
use Rattle.heap_model.specs.Header.{capacity_of, used_of}
use Rattle.heap_model.specs.Blocks.{layout_of, IsBlock}
use Rattle.heap_model.specs.Pointers.{Leads}
use Rattle.heap_model.specs.Reach.{Links, words_in, by_start, by_link, ReachFrom}
use Rattle.heap_model.proofs.BlockLemmas.{block_words, block_inside}
use Rattle.heap_model.proofs.ReachLemmas.{closure_least, reached_block, more_roots, reach_by_kinds}
use Rattle.root_reach.specs.declared.origin.Origin.{Origin}
use Rattle.root_reach.specs.declared.origin.Origin.TheVariants.{One, Several}
use Rattle.root_reach.specs.declared.labels.Finding.{Finding}
use Rattle.root_reach.specs.declared.labels.Labelling.{Labelling}
use Rattle.root_reach.specs.declared.labels.Origins.{Origins}
use Rattle.root_reach.specs.Origins.{Covers, same, several, origin_in, origin_at}
use Rattle.root_reach.specs.Reaching.{Tells, ReachesFrom, HasLabels, AreOrigins, IsReachedBeside}
use Rattle.root_reach.specs.Steps.{Propagates, IsPropagated, HasPropagated, AreFindings, PropagatesRoots, PropagatesLinks, HasRootOrigins}
use Rattle.root_reach.proofs.OriginLemmas.{one_root}
use Rattle.root_reach.proofs.ReachStepLemmas.{nothing_new, grows_on, still_followed, follow_found, follow_grows, follow_followed}

module _ (image : Image) (kinds : ℕ → ℕ) (links : Links) (count : ℕ) where
  -- nothing has been found, and no label tells anything
  pub nothing_found : (n : ℕ) (labels : List ℕ) → n ≡ start_word (capacity_of image) (used_of image) → length labels ≡ n * count
      → All (λ label. label ≡ 0) labels
      → AreFindings image kinds links count [] labels
  nothing_found n labels end long clear =
      let fits : (b : Block) → IsBlock (layout_of image) b → b.first_word * count + count ≤ length labels =
      λ b is.
      let within = block_inside (layout_of image) b is in
      let some = block_words (layout_of image) b is in
      let row = row_fits b.first_word count n count (omega arith) (omega arith) in omega arith
      in record {
        room = record { each = fits };
        sound = λ f here. let none = here.1 in absurd (omega arith);
        told = λ b kind o is below tells.
            let inside : b.first_word * count + kind < length labels = let fit = fits b is in omega arith in
            let none : None ≡ Some o = sym (ap origin_in (clear (b.first_word * count + kind) 0 inside)) ∙ tells in absurd (cc);
        few = omega arith;
      }

  -- what a root leads to, and what the links of a told block lead to, is reached
  pub tells_root : (root : ℕ) → root < roots → (b : Block) → Leads image (image (root_word root)) b → Tells image kinds links b (kinds root) (One root)
  tells_root root below b leads = (
    below,
    by_start b (kinds root)
        (record { root = root; below = below; is_chosen = refl; kind_is = refl; leads = leads }),
  )

  pub tells_link : (a : Block) (from position kind : ℕ) (o : Origin) → Tells image kinds links a from o
      → Contains (links from (words_in image a)) (position, kind)
      → (b : Block) → Leads image (image (a.first_word + position)) b → Tells image kinds links b kind o
  tells_link a from position kind (One root) tells listed b leads =
      (tells.0, by_link a b from kind tells.1 (record { position = position; listed = listed; leads = leads }))
  tells_link a from position kind Several tells listed b leads = record {
    one = tells.one;
    other = tells.other;
    apart = tells.apart;
    from_one = by_link a b from kind tells.from_one (record { position = position; listed = listed; leads = leads });
    from_other = by_link a b from kind tells.from_other (record { position = position; listed = listed; leads = leads });
  }

  pub tells_block : (b : Block) (kind : ℕ) (o : Origin) → Tells image kinds links b kind o → IsBlock (layout_of image) b
  tells_block b kind (One root) tells = reached_block image kinds links b kind tells.1
  tells_block b kind Several tells = reached_block image kinds links b kind tells.from_one

  -- one more root
  pub roots_step : (n : ℕ) (found found' : List Finding) (labels labels' : List ℕ) → PropagatesRoots image kinds links count n found labels
      → n < roots → kinds n < count
      → Propagates image count (root_word n) (kinds n) (One n) found found' labels labels'
      → PropagatesRoots image kinds links count (n + 1) found' labels'
  roots_step n found found' labels labels' was below kind follows =
      let grown = follow_grows image kinds links count found found' labels labels' (root_word n) (kinds n) (One n) was.so_far.room kind follows in
      record {
        so_far = follow_found image kinds links count found found' labels labels' (root_word n) (kinds n) (One n) was.so_far kind
            (tells_root n below) follows;
        followed = below_more (λ i. IsPropagated image count labels' (root_word i) (kinds i) (One i)) n
            (λ i low. still_followed image kinds links count found found' labels labels' (root_word i) (kinds i) (One i) grown (was.followed i low))
            (follow_followed image kinds links count found found' labels labels' (root_word n) (kinds n) (One n) was.so_far.room kind follows);
      }

  pub links_begin : (found : List Finding) (labels : List ℕ) (a : Block) (o : Origin) → AreFindings image kinds links count found labels
      → PropagatesLinks image kinds links count a o [] found found labels labels
  links_begin found labels a o so_far = record {
    so_far = so_far;
    grown = nothing_new found found labels labels refl refl;
    followed = record { each = λ position kind here. let none = here.1 in absurd (omega arith) };
  }

  -- one more link
  pub links_step : (a : Block) (from : ℕ) (o : Origin) (upto : List (ℕ × ℕ)) (position kind : ℕ) (found found' found'' : List Finding)
      (labels labels' labels'' : List ℕ)
      → PropagatesLinks image kinds links count a o upto found found' labels labels' → Tells image kinds links a from o
      → Contains (links from (words_in image a)) (position, kind) → kind < count
      → Propagates image count (a.first_word + position) kind o found' found'' labels' labels''
      → PropagatesLinks image kinds links count a o (upto ++ (position, kind) ∷ []) found found'' labels labels''
  links_step a from o upto position kind found found' found'' labels labels' labels'' was tells listed below follows =
      let at : ℕ = a.first_word + position in
      let grown = follow_grows image kinds links count found' found'' labels' labels'' at kind o was.so_far.room below follows in
      let here = follow_followed image kinds links count found' found'' labels' labels'' at kind o was.so_far.room below follows in
      record {
        so_far = follow_found image kinds links count found' found'' labels' labels'' at kind o was.so_far below
            (tells_link a from position kind o tells listed) follows;
        grown = grows_on found found' found'' labels labels' labels'' was.grown grown;
        followed = record {
          each = λ p k in_upto. elim (Contains-push_cases upto (position, kind) (p, k) in_upto) as
              (λ _. IsPropagated image count labels'' (a.first_word + p) k o) [
                | inl old ↦ still_followed image kinds links count found' found'' labels' labels'' (a.first_word + p) k o grown (was.followed.each p k old)
                | inr one ↦ subst (λ (l : ℕ × ℕ). IsPropagated image count labels'' (a.first_word + l.0) l.1 o) one here
              ];
        };
      }

  -- when the roots have been followed, what they lead to is told of
  pub roots_end : (found : List Finding) (labels : List ℕ) → PropagatesRoots image kinds links count roots found labels
      → HasRootOrigins image kinds links count found labels
  roots_end found labels done = record { so_far = done.so_far; roots_followed = done.followed }

  -- and it stays so, as what links lead to is told of
  pub roots_kept : (a : Block) (o : Origin) (upto : List (ℕ × ℕ)) (found found' : List Finding) (labels labels' : List ℕ)
      → HasRootOrigins image kinds links count found labels → PropagatesLinks image kinds links count a o upto found found' labels labels'
      → HasRootOrigins image kinds links count found' labels'
  roots_kept a o upto found found' labels labels' was follows = record {
    so_far = follows.so_far;
    roots_followed = λ i low. still_followed image kinds links count found found' labels labels' (root_word i) (kinds i) (One i) follows.grown
        (was.roots_followed i low);
  }

  -- what is told of a block covers the root, where it covers it of what leads there
  handed_on : (told : Option Origin) (root : ℕ) (P : Type 0) → Covers told (One root)
      → ((o : Origin) → told ≡ Some o → Covers (Some o) (One root) → P) → P
  handed_on told root P (same is) use_it = use_it (One root) is (same refl)
  handed_on told root P (several is) use_it = use_it Several is (several refl)

  covers_on : (told : Option Origin) (o : Origin) (root : ℕ) → Covers told o → Covers (Some o) (One root) → Covers told (One root)
  covers_on told o root (same is) covers = subst (λ x. Covers x (One root)) (sym is) covers
  covers_on told o root (several is) covers = several is

  complete : (found : List Finding) (labels : List ℕ) → AreFindings image kinds links count found labels
      → ((i : ℕ) → i < roots → IsPropagated image count labels (root_word i) (kinds i) (One i))
      → ((f : Finding) → Contains found f → HasPropagated image links count labels f)
      → (root : ℕ) (b : Block) (kind : ℕ) → ReachesFrom image kinds links root b kind → (kind < count)
      × Covers (origin_at count labels b kind) (One root)
  complete found labels so_far from_roots from_links root = closure_least (λ b kind. (kind < count) × Covers (origin_at count labels b kind) (One root))
      (λ b kind start. subst (λ k. (k < count) × Covers (origin_at count labels b k) (One root)) (sym start.kind_is)
      (subst (λ r. (kinds start.root < count) × Covers (origin_at count labels b (kinds start.root)) (One r)) start.is_chosen
      ((from_roots start.root start.below).here b start.leads)))
      (λ a b from kind reached told link.
      handed_on (origin_at count labels a from) root ((kind < count) × Covers (origin_at count labels b kind) (One root)) told.1
      (λ o is covers.
      let here = so_far.told a from o (reached_block image kinds links a from reached) told.0 is in
      let followed = ((from_links (record { block = a; kind = from; origin = o }) here).each link.position kind link.listed).here b link.leads in
      (followed.0, covers_on (origin_at count labels b kind) o root followed.1 covers)))

  -- when all that was found has been followed, the labels tell which roots reach each block
  pub trace_ends : (found : Labelling) → found.origins.kinds ≡ count
      → HasRootOrigins image kinds links count found.list.items found.origins.labels.items
      → All (HasPropagated image links count found.origins.labels.items) found.list.items → AreOrigins image kinds links found.origins
  trace_ends found is work all =
      let labels : List ℕ = found.origins.labels.items in
      record {
        room = subst (λ n. HasLabels (layout_of image) n labels) (sym is) work.so_far.room;
        sound = subst (λ n. (b : Block) (kind : ℕ) (o : Origin) → IsBlock (layout_of image) b → kind < n → origin_at n labels b kind ≡ Some o
            → Tells image kinds links b kind o) (sym is)
            (λ b kind o block below tells. (work.so_far.sound (record { block = b; kind = kind; origin = o })
            (work.so_far.told b kind o block below tells)).1);
        complete = subst (λ n. (b : Block) (kind root : ℕ) → ReachesFrom image kinds links root b kind → (kind < n)
            × Covers (origin_at n labels b kind) (One root)) (sym is)
            (λ b kind root reached. complete found.list.items labels work.so_far work.roots_followed
            (λ f here. All-contains (HasPropagated image links count labels) found.list.items f all here) root b kind reached);
      }

-- a root that reaches, of the chosen ones
one_of_many : (image : Image) (chosen : ℕ → Type 0) (kinds : ℕ → ℕ) (links : Links) (b : Block) (kind : ℕ) → ReachFrom image chosen kinds links b kind
    → (root : ℕ) × chosen root × ReachesFrom image kinds links root b kind
one_of_many image chosen kinds links = closure_least (λ b kind. (root : ℕ) × chosen root × ReachesFrom image kinds links root b kind)
    (λ b kind start. (
      start.root,
      start.is_chosen,
      by_start b kind
          (record { root = start.root; below = start.below; is_chosen = refl; kind_is = start.kind_is; leads = start.leads }),
    ))
    (λ a b from kind reached was link. (was.0, was.1, by_link a b from kind was.2 link))

-- what is told of a block beside a root
beside_reached : (image : Image) (kinds : ℕ → ℕ) (links : Links) (b : Block) (kind root : ℕ) (o : Origin) → Tells image kinds links b kind o
    → o ≢ One root
    → IsReachedBeside image kinds links root b
beside_reached image kinds links b kind root (One other) tells apart = record {
  kind = kind;
  reached = more_roots image kinds links (λ i e i_is_root. apart (ap (λ r. One r) (sym e ∙ i_is_root))) b kind tells.1;
}
beside_reached image kinds links b kind root Several tells apart = elim (cases_eq tells.one root) as (λ _. IsReachedBeside image kinds links root b) [
  | inl is ↦ record {
    kind = kind;
    reached = more_roots image kinds links (λ i e i_is_root. tells.apart (is ∙ sym i_is_root ∙ e)) b kind tells.from_other;
  }
  | inr other ↦ record { kind = kind; reached = more_roots image kinds links (λ i e i_is_root. other (sym e ∙ i_is_root)) b kind tells.from_one }
]

pub beside_yes : (image : Image) (kinds : ℕ → ℕ) (links : Links) (origins : Origins) (b : Block) (kind root : ℕ) (o : Origin)
    → AreOrigins image kinds links origins
    → IsBlock (layout_of image) b → kind < origins.kinds → origin_at origins.kinds origins.labels.items b kind ≡ Some o → o ≢ One root
    → IsReachedBeside image kinds links root b
beside_yes image kinds links origins b kind root o are is below told apart =
    beside_reached image kinds links b kind root o (are.sound b kind o is below told) apart

covers_one : (told : Option Origin) (root other : ℕ) → ((o : Origin) → told ≡ Some o → o ≡ One root) → Covers told (One other) → other ≡ root
covers_one told root other only (same is) = one_root other root (only (One other) is)
covers_one told root other only (several is) = let e : Several ≡ One root = only Several is in absurd (cc)

pub beside_no : (image : Image) (kinds : ℕ → ℕ) (links : Links) (origins : Origins) (b : Block) (root : ℕ) → AreOrigins image kinds links origins
    → ((kind : ℕ) → kind < origins.kinds → (o : Origin) → origin_at origins.kinds origins.labels.items b kind ≡ Some o → o ≡ One root)
    → IsReachedBeside image kinds links root b → ⊥
beside_no image kinds links origins b root are only reached =
    let from = one_of_many image (λ i. i ≢ root) kinds links b reached.kind reached.reached in
    let told = are.complete b reached.kind from.0 from.2 in
    from.1 (covers_one (origin_at origins.kinds origins.labels.items b reached.kind) root from.0 (only reached.kind told.0) told.1)

tells_same : (image : Image) (kinds kinds' : ℕ → ℕ) (links : Links) (b : Block) (kind : ℕ) (o : Origin) → ((i : ℕ) → i < roots → kinds' i ≡ kinds i)
    → Tells image kinds links b kind o → Tells image kinds' links b kind o
tells_same image kinds kinds' links b kind (One root) alike tells =
    (tells.0, reach_by_kinds {chosen = λ i. i ≡ root} image kinds kinds' links (λ i below. sym (alike i below)) b kind tells.1)
tells_same image kinds kinds' links b kind Several alike tells = record {
  one = tells.one;
  other = tells.other;
  apart = tells.apart;
  from_one = reach_by_kinds {chosen = λ i. i ≡ tells.one} image kinds kinds' links (λ i below. sym (alike i below)) b kind tells.from_one;
  from_other = reach_by_kinds {chosen = λ i. i ≡ tells.other} image kinds kinds' links (λ i below. sym (alike i below)) b kind tells.from_other;
}

pub origins_same : (image : Image) (kinds kinds' : ℕ → ℕ) (links : Links) (origins : Origins) → ((i : ℕ) → i < roots → kinds' i ≡ kinds i)
    → AreOrigins image kinds links origins → AreOrigins image kinds' links origins
origins_same image kinds kinds' links origins alike are = record {
  room = are.room;
  sound = λ b kind o is below told. tells_same image kinds kinds' links b kind o alike (are.sound b kind o is below told);
  complete = λ b kind root reached. are.complete b kind root (reach_by_kinds {chosen = λ i. i ≡ root} image kinds' kinds links alike b kind reached);
}
