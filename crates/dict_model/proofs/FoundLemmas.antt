-- What is found along a chain of which some nodes were dropped or put, and along the chains with another one in a bucket.
use Rattle.std.proofs.Common.{◌≡◌, ◌≢◌, ℕ, ◌+◌, inl, inr, List, [], ◌∷◌, ◌++◌, Option, None, Some, Contains, cond, refl, ap, subst, sym, ◌∙◌}
use Rattle.std.specs.Prelude.{nat_eq}
use Rattle.std.proofs.lemmas.Bool.{cases_eq, cond-true, cond-false, ne_eqb, eq-eqb}
use Rattle.std.proofs.lemmas.List.Elements.{Contains-append_left}
use Rattle.heap_model.specs.declared.block.Block.{Block}
use Rattle.heap_model.specs.Image.{Image}
use Rattle.dict_model.specs.Nodes.{key_in, value_in, find}
use Rattle.dict_model.proofs.ChainLemmas.{SameNode, find_same, none_of, find_past, none_before}

-- a key that none of the nodes between has
pub find_without : (image : Image) (key : ℕ) (xs ds ys : List Block) → find image key ds ≡ None
    → find image key (xs ++ (ds ++ ys)) ≡ find image key (xs ++ ys)
find_without image key [] ds ys none = find_past image key ds ys none
find_without image key (x ∷ xs) ds ys none =
    ap (λ f. cond (nat_eq (key_in image x) key) (Some (value_in image x)) f) (find_without image key xs ds ys none)

-- where a link's two chains differ only in nodes of one key, all other keys are found alike
module _ (image other : Image) (key : ℕ) (new : Option (List ℕ)) (before drop rest put : List Block)
    (same : (b : Block) → Contains (before ++ rest) b → SameNode image other b) (none : find image key (before ++ rest) ≡ None)
    (dropped : (b : Block) → Contains drop b → key_in image b ≡ key) (added : (b : Block) → Contains put b → key_in other b ≡ key)
    (value : find other key (put ++ rest) ≡ new) where
  pub found_alike : (q : ℕ) → find other q (before ++ (put ++ rest)) ≡ cond (nat_eq key q) new (find image q (before ++ (drop ++ rest)))
  found_alike q = elim (cases_eq key q) as (λ _. find other q (before ++ (put ++ rest)) ≡ cond (nat_eq key q) new
      (find image q (before ++ (drop ++ rest)))) [
        | inl is ↦
            let before_same = find_same image other key before (λ b h. same b (Contains-append_left before rest b h)) in
            let there : find other key (before ++ (put ++ rest)) ≡ new = find_past other key before (put ++ rest) (before_same
            ∙ none_before image key before rest none) ∙ value in
            subst (λ k. find other k (before ++ (put ++ rest)) ≡ new) is there
            ∙ sym (cond-true (nat_eq key q) new (find image q (before ++ (drop ++ rest))) (eq-eqb key q is))
        | inr differs ↦
            let no_put = none_of other q put (λ b h e. differs (sym (added b h) ∙ e)) in
            let no_drop = none_of image q drop (λ b h e. differs (sym (dropped b h) ∙ e)) in
            find_without other q before put rest no_put ∙ find_same image other q (before ++ rest) same
            ∙ sym (find_without image q before drop rest no_drop)
            ∙ sym (cond-false (nat_eq key q) new (find image q (before ++ (drop ++ rest))) (ne_eqb key q differs))
      ]

-- the chains with another one in bucket k
abbrev pub chains_with : (ℕ → List Block) → ℕ → List Block → ℕ → List Block
chains_with nodes k bs j = cond (nat_eq j k) bs (nodes j)

pub with_same : (nodes : ℕ → List Block) (k : ℕ) (bs : List Block) → chains_with nodes k bs k ≡ bs
with_same nodes k bs = cond-true (nat_eq k k) bs (nodes k) (eq-eqb k k refl)

pub with_other : (nodes : ℕ → List Block) (k : ℕ) (bs : List Block) (j : ℕ) → j ≢ k → chains_with nodes k bs j ≡ nodes j
with_other nodes k bs j other = cond-false (nat_eq j k) bs (nodes j) (ne_eqb j k other)
