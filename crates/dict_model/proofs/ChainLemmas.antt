-- Paths and chains of nodes: their parts, and what stays of them where one word changes.
use Rattle.std.proofs.Common.{◌≡◌, ◌≢◌, ℕ, ◌+◌, ◌<◌, ◌≤◌, ◌⊎◌, inl, inr, List, [], ◌∷◌, ◌++◌, None, Some, Contains, take, cond, refl, ap, subst, sym, ◌∙◌, arith, zero, suc}
use Rattle.std.specs.Prelude.{nat_eq}
use Rattle.heap_model.specs.declared.block.Block.{Block}
use Rattle.heap_model.specs.Image.{Image, words_from, bytes_of_words}
use Rattle.heap_model.proofs.MemberLemmas.{in_none, in_head, in_rest, head_or_rest}
use Rattle.dict_model.specs.Nodes.{largest_value, shard_of, bucket_of, key_in, length_in, value_in, value_words, IsNode, find}
use Rattle.dict_model.specs.Shards.{Leading, LeadsOnce, link_behind, IsPath, IsBucketChain}
use Rattle.dict_model.proofs.ShardLemmas.{find_first, find_behind, not_first, not_behind}

-- the other image differs from the one in the word at p alone
pub record SameBut (p : ℕ) (image other : Image) : Type 0 where
  pub each : (word : ℕ) → word ≢ p → other word ≡ image word

pub words_same : (image other : Image) (from count : ℕ) → ((word : ℕ) → from ≤ word → word < from + count → other word ≡ image word)
    → words_from other from count ≡ words_from image from count
words_same image other from zero same = refl
words_same image other from (suc count) same =
    let first : other from ≡ image from = same from (omega arith) (omega arith) in
    let rest : words_from other (from + 1) count ≡ words_from image (from + 1) count =
    words_same image other (from + 1) count (λ word low high. same word (omega arith) (omega arith)) in
    cc

-- what stands in a node is what stands behind its first word
pub record SameNode (image other : Image) (b : Block) : Type 0 where
  pub key : key_in other b ≡ key_in image b
  pub value : value_in other b ≡ value_in image b

pub node_same : (image other : Image) (shard bucket : ℕ) (b : Block)
    → ((word : ℕ) → b.first_word < word → word < b.first_word + b.words → other word ≡ image word)
    → IsNode image shard bucket b → IsNode other shard bucket b × SameNode image other b
node_same image other shard bucket b same is =
    let fits = is.fits in
    let key : key_in other b ≡ key_in image b = same (b.first_word + 1) (omega arith) (omega arith) in
    let len : length_in other b ≡ length_in image b = same (b.first_word + 2) (omega arith) (omega arith) in
    let words = words_same image other (b.first_word + 3) (value_words (length_in image b)) (λ word low high. same word (omega arith) (omega arith)) in
    let value : value_in other b ≡ value_in image b =
    ap (λ n. take n (bytes_of_words (words_from other (b.first_word + 3) (value_words n)))) len
    ∙ ap (λ (ws : List ℕ). take (length_in image b) (bytes_of_words ws)) words in (
      record {
        in_shard = ap shard_of key ∙ is.in_shard;
        in_bucket = ap bucket_of key ∙ is.in_bucket;
        short = subst (λ n. n ≤ largest_value) (sym len) is.short;
        fits = subst (λ n. 3 + value_words n ≤ b.words) (sym len) is.fits;
      },
      record { key = key; value = value },
    )

-- a key is found in nodes of the same keys and values alike
pub find_same : (image other : Image) (key : ℕ) (bs : List Block) → ((b : Block) → Contains bs b → SameNode image other b)
    → find other key bs ≡ find image key bs
find_same image other key [] same = refl
find_same image other key (b ∷ bs) same =
    let first = same b (in_head b bs) in
    let rest = find_same image other key bs (λ c h. same c (in_rest b c bs h)) in
    ap (λ n. cond (nat_eq n key) (Some (value_in other b)) (find other key bs)) first.key
    ∙ ap (λ v. cond (nat_eq (key_in image b) key) (Some v) (find other key bs)) first.value
    ∙ ap (λ f. cond (nat_eq (key_in image b) key) (Some (value_in image b)) f) rest

-- a node has no key that isn't found
pub not_of : (image : Image) (key : ℕ) (bs : List Block) (b : Block) → find image key bs ≡ None → Contains bs b → key_in image b ≢ key
not_of image key [] b none h = absurd (in_none b h)
not_of image key (c ∷ bs) b none h = elim (head_or_rest c b bs h) as (λ _. key_in image b ≢ key) [
  | inl same ↦ subst (λ (x : Block). key_in image x ≢ key) same (not_first image key c bs none)
  | inr rest ↦ not_of image key bs b (not_behind image key c bs none) rest
]

-- and where no node has it, it isn't found
pub none_of : (image : Image) (key : ℕ) (bs : List Block) → ((b : Block) → Contains bs b → key_in image b ≢ key) → find image key bs ≡ None
none_of image key [] other = refl
none_of image key (b ∷ bs) other = find_behind image key b bs (other b (in_head b bs)) ∙ none_of image key bs (λ c h. other c (in_rest b c bs h))

-- a key that is not in the first nodes is looked for in the others
pub find_past : (image : Image) (key : ℕ) (xs ys : List Block) → find image key xs ≡ None → find image key (xs ++ ys) ≡ find image key ys
find_past image key [] ys none = refl
find_past image key (x ∷ xs) ys none = find_behind image key x (xs ++ ys) (not_first image key x xs none)
    ∙ find_past image key xs ys (not_behind image key x xs none)

-- one that is in neither part is in neither of both
pub find_in_none : (image : Image) (key : ℕ) (xs ys : List Block) → find image key xs ≡ None → find image key ys ≡ None
    → find image key (xs ++ ys) ≡ None
find_in_none image key xs ys a b = find_past image key xs ys a ∙ b

pub none_before : (image : Image) (key : ℕ) (xs ys : List Block) → find image key (xs ++ ys) ≡ None → find image key xs ≡ None
none_before image key [] ys none = refl
none_before image key (x ∷ xs) ys none = find_behind image key x xs (not_first image key x (xs ++ ys) none)
    ∙ none_before image key xs ys (not_behind image key x (xs ++ ys) none)

pub none_after : (image : Image) (key : ℕ) (xs ys : List Block) → find image key (xs ++ ys) ≡ None → find image key ys ≡ None
none_after image key [] ys none = none
none_after image key (x ∷ xs) ys none = none_after image key xs ys (not_behind image key x (xs ++ ys) none)

-- the link behind both parts
pub behind_both : (at : ℕ) (xs ys : List Block) → link_behind at (xs ++ ys) ≡ link_behind (link_behind at xs) ys
behind_both at [] ys = refl
behind_both at (x ∷ xs) ys = behind_both x.first_word xs ys

-- it is the first link, or the last node's
pub behind_is : (at : ℕ) (bs : List Block) → ((bs ≡ []) × (link_behind at bs ≡ at)) ⊎ ((b : Block) × Contains bs b × (link_behind at bs ≡ b.first_word))
behind_is at [] = inl (refl, refl)
behind_is at (b ∷ bs) = elim (behind_is b.first_word bs) as (λ _. (((b ∷ bs) ≡ []) × (link_behind at (b ∷ bs) ≡ at)) ⊎ ((c : Block)
    × Contains (b ∷ bs) c × (link_behind at (b ∷ bs) ≡ c.first_word))) [
      | inl only ↦ inr (b, in_head b bs, only.1)
      | inr last ↦ inr (last.0, in_rest b last.0 bs last.1, last.2)
    ]

module _ (leads : Leading) (image : Image) (shard bucket : ℕ) where
  -- what is so of a node of a path
  pub in_path : (at : ℕ) (bs : List Block) (b : Block) → IsPath leads image shard bucket at bs → Contains bs b → ((word : ℕ) × leads word b)
      × IsNode image shard bucket b
  in_path at [] b path h = absurd (in_none b h)
  in_path at (c ∷ bs) b path h = elim (head_or_rest c b bs h) as (λ _. ((word : ℕ) × leads word b) × IsNode image shard bucket b) [
    | inl same ↦ subst (λ (x : Block). ((word : ℕ) × leads word x) × IsNode image shard bucket x) same ((image at, path.0), path.1)
    | inr rest ↦ in_path c.first_word bs b path.3 rest
  ]

  -- the parts of a path
  pub path_left : (at : ℕ) (xs ys : List Block) → IsPath leads image shard bucket at (xs ++ ys) → IsPath leads image shard bucket at xs
  path_left at [] ys path = tt
  path_left at (x ∷ xs) ys path = (path.0, path.1, none_before image (key_in image x) xs ys path.2, path_left x.first_word xs ys path.3)

  pub path_right : (at : ℕ) (xs ys : List Block) → IsPath leads image shard bucket at (xs ++ ys)
      → IsPath leads image shard bucket (link_behind at xs) ys
  path_right at [] ys path = path
  path_right at (x ∷ xs) ys path = path_right x.first_word xs ys path.3

  -- no key of the first part is in the second
  pub path_cross : (at : ℕ) (xs ys : List Block) (b : Block) → IsPath leads image shard bucket at (xs ++ ys) → Contains xs b
      → find image (key_in image b) ys ≡ None
  path_cross at [] ys b path h = absurd (in_none b h)
  path_cross at (x ∷ xs) ys b path h = elim (head_or_rest x b xs h) as (λ _. find image (key_in image b) ys ≡ None) [
    | inl same ↦ subst (λ (c : Block). find image (key_in image c) ys ≡ None) same (none_after image (key_in image x) xs ys path.2)
    | inr rest ↦ path_cross x.first_word xs ys b path.3 rest
  ]

  -- two paths, the one behind the other, whose keys are apart
  pub path_both : (at : ℕ) (xs ys : List Block) → IsPath leads image shard bucket at xs → IsPath leads image shard bucket (link_behind at xs) ys
      → ((b : Block) → Contains xs b → find image (key_in image b) ys ≡ None) → IsPath leads image shard bucket at (xs ++ ys)
  path_both at [] ys p q cross = q
  path_both at (x ∷ xs) ys p q cross = (
    p.0,
    p.1,
    find_in_none image (key_in image x) xs ys p.2 (cross x (in_head x xs)),
    path_both x.first_word xs ys p.3 q (λ b h. cross b (in_rest x b xs h)),
  )

  -- a node has its key alone
  pub own_key : (at : ℕ) (bs : List Block) (b c : Block) → IsPath leads image shard bucket at bs → Contains bs b → Contains bs c
      → key_in image b ≡ key_in image c → b ≡ c
  own_key at [] b c path h k same = absurd (in_none b h)
  own_key at (x ∷ bs) b c path h k same = elim (head_or_rest x b bs h) as (λ _. b ≡ c) [
    | inl is_b ↦ elim (head_or_rest x c bs k) as (λ _. b ≡ c) [
      | inl is_c ↦ sym is_b ∙ is_c
      | inr in_c ↦ absurd (not_of image (key_in image x) bs c path.2 in_c (sym same ∙ sym (ap (key_in image) is_b)))
    ]
    | inr in_b ↦ elim (head_or_rest x c bs k) as (λ _. b ≡ c) [
      | inl is_c ↦ absurd (not_of image (key_in image x) bs b path.2 in_b (same ∙ sym (ap (key_in image) is_c)))
      | inr in_c ↦ own_key x.first_word bs b c path.3 in_b in_c same
    ]
  ]

  -- the value of a node's key
  pub found_in : (at : ℕ) (bs : List Block) (b : Block) → IsPath leads image shard bucket at bs → Contains bs b
      → find image (key_in image b) bs ≡ Some (value_in image b)
  found_in at [] b path h = absurd (in_none b h)
  found_in at (x ∷ bs) b path h = elim (head_or_rest x b bs h) as (λ _. find image (key_in image b) (x ∷ bs) ≡ Some (value_in image b)) [
    | inl is ↦ subst (λ (c : Block). find image (key_in image c) (x ∷ bs) ≡ Some (value_in image c)) is (find_first image (key_in image x) x bs refl)
    | inr rest ↦ find_behind image (key_in image b) x bs (λ e. not_of image (key_in image x) bs b path.2 rest (sym e))
        ∙ found_in x.first_word bs b path.3 rest
  ]

-- links from `at` on that lead along the blocks, whatever these hold
abbrev pub Leads_along : Leading → Image → ℕ → List Block → Type 0
Leads_along leads image at [] = Unit {0}
Leads_along leads image at (b ∷ bs) = leads (image at) b × Leads_along leads image b.first_word bs

-- a chain begins with the blocks along which its links lead
pub extends : (leads limit : Leading) → LeadsOnce leads → ((word : ℕ) (b : Block) → limit word b → leads word b)
    → (image : Image) (shard bucket at : ℕ) (xs ys : List Block)
    → Leads_along leads image at xs → IsBucketChain limit image shard bucket at ys → (zs : List Block) × (ys ≡ xs ++ zs)
extends leads limit once into image shard bucket at [] ys along chain = (ys, refl)
extends leads limit once into image shard bucket at (x ∷ xs) [] along chain = absurd (once.null x (subst (λ w. leads w x) chain.ends along.0))
extends leads limit once into image shard bucket at (x ∷ xs) (y ∷ ys) along chain =
    let same : x ≡ y = once.one (image at) x y along.0 (into (image at) y chain.path.0) in
    let rest = extends leads limit once into image shard bucket x.first_word xs ys along.1
    (subst (λ (b : Block). IsBucketChain limit image shard bucket b.first_word ys) (sym same) (record { path = chain.path.3; ends = chain.ends })) in
    (rest.0, let e = rest.1 in cc)
