-- Facts on pointers and reach: a word leads to one block, and reach is the least closed set.
use Rattle.std.proofs.Common.{◌≡◌, ◌≢◌, ℕ, ◌+◌, ◌*◌, ◌<◌, List, Contains, inl, inr, refl, sym, subst, ◌∙◌, arith, Bool, IsTrue, ◌↔◌}
use Rattle.heap_model.specs.declared.block.Block.{Block}
use Rattle.heap_model.specs.Image.{Image}
use Rattle.heap_model.specs.Blocks.{layout_of, Names, IsBlock}
use Rattle.heap_model.specs.Pointers.{IsPointerTo, Leads, LeadsOutside}
use Rattle.heap_model.specs.Geometry.{roots, root_word}
use Rattle.heap_model.specs.Reach.{Links, words_in, Closure, by_start, by_link, ReachFrom, Reach, is_root, is_linked, IsTracedFrom, IsTraced, TracesAlike, IsClosed}
use Rattle.heap_model.proofs.BlockLemmas.{same_first}
use Rattle.heap_model.proofs.DecisionLemmas.{is_block}

-- a word is a pointer to one offset
pub one_offset : (word p q : ℕ) → IsPointerTo word p → IsPointerTo word q → p ≡ q
one_offset word p q to_p to_q = omega arith

-- a pointer is not null
pub not_null : (word p : ℕ) → IsPointerTo word p → word ≢ 0
not_null word p to = λ null. omega arith

-- a word leads to one block
pub one_block : (image : Image) (word : ℕ) (a b : Block) → Leads image word a → Leads image word b → a ≡ b
one_block image word a b to_a to_b =
    let first : a.first_word ≡ b.first_word = let same = one_offset word (8 * a.first_word) (8 * b.first_word) to_a.pointer to_b.pointer in
    omega arith in
    same_first (layout_of image) a b to_a.names.block to_b.names.block first

-- an offset names one block
pub one_name : (image : Image) (offset : ℕ) (a b : Block) → Names image offset a → Names image offset b → a ≡ b
one_name image offset a b is_a is_b = same_first (layout_of image) a b is_a.block is_b.block (let at_a = is_a.begins_at in
    let at_b = is_b.begins_at in omega arith)

-- what a closure has is in each set that has its starts and is closed under its links
pub closure_least : {Kind : Type 0} {starts : Block → Kind → Type 0} {leads : Block → Kind → Block → Kind → Type 0} (has : Block → Kind → Type 0)
    → ((b : Block) (kind : Kind) → starts b kind → has b kind)
    → ((a b : Block) (from kind : Kind) → Closure starts leads a from → has a from → leads a from b kind → has b kind)
    → (b : Block) (kind : Kind) → Closure starts leads b kind → has b kind
closure_least has from_starts from_links _ _ (by_start b kind start) = from_starts b kind start
closure_least has from_starts from_links _ _ (by_link a b from kind reached leads) =
    from_links a b from kind reached (closure_least has from_starts from_links a from reached) leads

-- starts and links that are included in others give a closure that is included in the others'
pub closure_included : {Kind : Type 0} {starts starts' : Block → Kind → Type 0} {leads leads' : Block → Kind → Block → Kind → Type 0}
    → ((b : Block) (kind : Kind) → starts b kind → starts' b kind)
    → ((a b : Block) (from kind : Kind) → Closure starts leads a from → leads a from b kind → leads' a from b kind)
    → (b : Block) (kind : Kind) → Closure starts leads b kind → Closure starts' leads' b kind
closure_included {starts'} {leads'} of_starts of_links = closure_least (Closure starts' leads')
    (λ b kind start. by_start b kind (of_starts b kind start))
    (λ a b from kind reached has leads. by_link a b from kind has (of_links a b from kind reached leads))

-- what is reached is closed
pub closed_reach : (image : Image) (kinds : ℕ → ℕ) (links : Links) (has : Block → ℕ → Bool)
    → ((b : Block) (kind : ℕ) → IsTrue (has b kind) ↔ Reach image kinds links b kind) → IsClosed image kinds links has
closed_reach image kinds links has same = record {
  roots_in = λ i b below leads. (same b (kinds i)).1 (by_start b (kinds i)
      (record { root = i; below = below; is_chosen = tt; kind_is = refl; leads = leads }));
  links_in = λ a b from position kind here listed leads.
      (same b kind).1 (by_link a b from kind ((same a from).0 here) (record { position = position; listed = listed; leads = leads }));
}

-- a reached block is in each closed set
pub in_closed : (image : Image) (kinds : ℕ → ℕ) (links : Links) (has : Block → ℕ → Bool) → IsClosed image kinds links has
    → (b : Block) (kind : ℕ) → Reach image kinds links b kind → IsTrue (has b kind)
in_closed image kinds links has closed = closure_least (λ b kind. IsTrue (has b kind))
    (λ b kind start. subst (λ k. IsTrue (has b k)) (sym start.kind_is) (closed.roots_in start.root b start.below start.leads))
    (λ a b from kind reached here link. closed.links_in a b from link.position kind here link.listed link.leads)

-- a reached pair names a block
pub reached_block : {chosen : ℕ → Type 0} (image : Image) (kinds : ℕ → ℕ) (links : Links) (b : Block) (kind : ℕ)
    → ReachFrom image chosen kinds links b kind
    → IsBlock (layout_of image) b
reached_block image kinds links _ _ (by_start b kind start) = start.leads.names.block
reached_block image kinds links _ _ (by_link a b from kind reached link) = link.leads.names.block

-- more roots reach more
pub more_roots : {chosen chosen' : ℕ → Type 0} (image : Image) (kinds : ℕ → ℕ) (links : Links) → ((root : ℕ) → chosen root → chosen' root)
    → (b : Block) (kind : ℕ) → ReachFrom image chosen kinds links b kind → ReachFrom image chosen' kinds links b kind
more_roots image kinds links more = closure_included
    (λ b kind start. record {
      root = start.root;
      below = start.below;
      is_chosen = more start.root start.is_chosen;
      kind_is = start.kind_is;
      leads = start.leads;
    })
    (λ a b from kind reached link. link)

-- a word that leads to a block leads there in an image that has it as a block and the same word
leads_there : (image other : Image) (w v : ℕ) (b : Block) → v ≡ w → IsBlock (layout_of other) b → Leads image w b → Leads other v b
leads_there image other w v b same is leads = record {
  pointer = record { tagged = same ∙ leads.pointer.tagged; short = leads.pointer.short };
  names = record { begins_at = refl; block = is };
}

module _ (image other : Image) (chosen : ℕ → Type 0) (kinds : ℕ → ℕ) (links : Links) (alike : TracesAlike image other chosen kinds links) where
  root_same : (root : ℕ) → root < roots → chosen root → other (root_word root) ≡ image (root_word root)
  root_same root below is_chosen = alike.same_words (root_word root) (is_root root (root_word root) below is_chosen refl)

  link_same : (a : Block) (from position kind : ℕ) → ReachFrom image chosen kinds links a from
      → Contains (links from (words_in image a)) (position, kind)
      → other (a.first_word + position) ≡ image (a.first_word + position)
  link_same a from position kind reached listed =
      alike.same_words (a.first_word + position) (is_linked a from position kind (a.first_word + position) reached listed refl)

  -- the other image reaches what the one reaches
  pub reach_kept : (b : Block) (kind : ℕ) → ReachFrom image chosen kinds links b kind → ReachFrom other chosen kinds links b kind
  reach_kept _ _ (by_start b kind start) = by_start b kind (record {
    root = start.root;
    below = start.below;
    is_chosen = start.is_chosen;
    kind_is = start.kind_is;
    leads = leads_there image other _ _ b (root_same start.root start.below start.is_chosen)
        (alike.are_blocks b kind (by_start b kind start)) start.leads;
  })
  reach_kept _ _ (by_link a b from kind reached link) = by_link a b from kind (reach_kept a from reached) (record {
    position = link.position;
    listed = subst (λ (ls : List (ℕ × ℕ)). Contains ls (link.position, kind)) (sym (alike.same_links a from reached)) link.listed;
    leads = leads_there image other _ _ b (link_same a from link.position kind reached link.listed)
        (alike.are_blocks b kind (by_link a b from kind reached link)) link.leads;
  })

  -- what a trace of the one looks at, a trace of the other does
  pub traced_kept : (at : ℕ) → IsTracedFrom image chosen kinds links at → IsTracedFrom other chosen kinds links at
  traced_kept _ (is_root root at below is_chosen is) = is_root root at below is_chosen is
  traced_kept _ (is_linked a from position kind at reached listed is) = is_linked a from position kind at (reach_kept a from reached)
      (subst (λ (ls : List (ℕ × ℕ)). Contains ls (position, kind)) (sym (alike.same_links a from reached)) listed) is

  -- where the other has no more blocks, a traced word that leads outside does so in the other
  pub outside_kept : (at : ℕ) → ((b : Block) → IsBlock (layout_of other) b → IsBlock (layout_of image) b)
      → IsTracedFrom image chosen kinds links at → LeadsOutside image (image at) → LeadsOutside other (other at)
  outside_kept at back traced outside =
      let there : image at ≡ other at = sym (alike.same_words at traced) in
      record {
        not_null = λ e. outside.not_null (there ∙ e);
        nowhere = λ b leads. outside.nowhere b (leads_there other image (other at) (image at) b there (back b leads.names.block) leads);
      }

  module _ (inside : (at : ℕ) → IsTracedFrom image chosen kinds links at → LeadsOutside image (image at) → ⊥) where
    -- where a traced word leads to a block in the other image it does in the one: it leads to some block there, which is one in the other too
    leads_here : (at kind : ℕ) (b : Block) → IsTracedFrom image chosen kinds links at
        → ((a : Block) → Leads image (image at) a → ReachFrom image chosen kinds links a kind) → Leads other (other at) b → Leads image (image at) b
    leads_here at kind b traced reaches leads = elim (is_block (layout_of image) b) [
      | inl is ↦ leads_there other image (other at) (image at) b (sym (alike.same_words at traced)) is leads
      | inr not ↦ absurd (inside at traced (record {
        not_null = not_null (image at) (8 * b.first_word) (record {
          tagged = sym (alike.same_words at traced) ∙ leads.pointer.tagged;
          short = leads.pointer.short;
        });
        nowhere = λ a to_a. not (subst (λ x. IsBlock (layout_of image) x)
            (one_block other (other at) a b (leads_there image other (image at) (other at) a (alike.same_words at traced)
            (alike.are_blocks a kind (reaches a to_a)) to_a) leads)
            to_a.names.block);
      }))
    ]

    -- so where a trace of the one image meets no word that leads outside, the other reaches nothing else
    pub nothing_more : (b : Block) (kind : ℕ) → ReachFrom other chosen kinds links b kind → ReachFrom image chosen kinds links b kind
    nothing_more _ _ (by_start b kind start) =
        let traced : IsTracedFrom image chosen kinds links (root_word start.root) =
        is_root start.root (root_word start.root) start.below start.is_chosen refl in
        let reaches : (a : Block) → Leads image (image (root_word start.root)) a → ReachFrom image chosen kinds links a kind =
        λ a leads. by_start a kind (record {
          root = start.root;
          below = start.below;
          is_chosen = start.is_chosen;
          kind_is = start.kind_is;
          leads = leads;
        }) in
        reaches b (leads_here (root_word start.root) kind b traced reaches start.leads)
    nothing_more _ _ (by_link a b from kind reached link) =
        let before = nothing_more a from reached in
        let listed : Contains (links from (words_in image a)) (link.position, kind) =
        subst (λ (ls : List (ℕ × ℕ)). Contains ls (link.position, kind)) (alike.same_links a from before) link.listed in
        let traced : IsTracedFrom image chosen kinds links (a.first_word + link.position) =
        is_linked a from link.position kind (a.first_word + link.position) before listed refl in
        let reaches : (c : Block) → Leads image (image (a.first_word + link.position)) c → ReachFrom image chosen kinds links c kind =
        λ c leads. by_link a c from kind before (record { position = link.position; listed = listed; leads = leads }) in
        reaches b (leads_here (a.first_word + link.position) kind b traced reaches link.leads)

-- what is reached, and what a trace looks at, depends only on the kinds of the roots that there are
pub reach_by_kinds : {chosen : ℕ → Type 0} (image : Image) (kinds other : ℕ → ℕ) (links : Links) → ((i : ℕ) → i < roots → kinds i ≡ other i)
    → (b : Block) (kind : ℕ) → ReachFrom image chosen kinds links b kind → ReachFrom image chosen other links b kind
reach_by_kinds image kinds other links same = closure_included
    (λ b kind start. record {
      root = start.root;
      below = start.below;
      is_chosen = start.is_chosen;
      kind_is = start.kind_is ∙ same start.root start.below;
      leads = start.leads;
    })
    (λ a b from kind reached link. link)

pub traced_by_kinds : (image : Image) (kinds other : ℕ → ℕ) (links : Links) → ((i : ℕ) → i < roots → kinds i ≡ other i)
    → (at : ℕ) → IsTraced image kinds links at → IsTraced image other links at
traced_by_kinds image kinds other links same _ (is_root root at below chosen is) = is_root root at below chosen is
traced_by_kinds image kinds other links same _ (is_linked a from position kind at reached listed is) =
    is_linked a from position kind at (reach_by_kinds image kinds other links same a from reached) listed is
