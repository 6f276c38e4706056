-- What recovery and an opening by anchors write alike, which is all but the anchors of partial superblocks and the words
-- of superblocks: two images that are left so from one are one wherever those are.
use Rattle.std.proofs.Common.{◌≡◌, ℕ, ◌+◌, ◌-◌, ◌/◌, ◌%◌, ◌<◌, ◌≤◌, inl, inr, List, [], ◌∷◌, Contains, ap, sym, subst, ◌∙◌, arith}
use Rattle.std.proofs.lemmas.Bool.{cases_eq, cases_lt}
use Rattle.heap_model.specs.declared.block.Block.{Block}
use Rattle.heap_model.specs.Geometry.{lists, head_word, info_word, anchor_word, link_word, start_word, magic_word, version_word, capacity_word, state_word, used_word, dirty, IsReserved, in_header, in_descriptor}
use Rattle.heap_model.specs.Image.{Image}
use Rattle.heap_model.specs.Header.{capacity_of}
use Rattle.heap_model.specs.Sizes.{IsClass}
use Rattle.heap_model.specs.Words.{full_anchor}
use Rattle.heap_model.specs.Blocks.{Layout, layout_of}
use Rattle.heap_model.specs.Chains.{Follows}
use Rattle.heap_model.specs.Recovered.{AreAscending, IsFreeSuperblock}
use Rattle.heap_model.specs.Recovery.{IsListed, IsPartial, IsFullyKept, IsInLarge, HasInfoAndAnchor, IsKeptWord, in_header as of_header, is_root, is_reserved, first_number}
use Rattle.heap_model.proofs.MemberLemmas.{in_none, head_or_rest}
use Rattle.heap_at_rest.proofs.StandingLemmas.{Standing, is_untaken, is_free, is_partial, is_fully_kept, is_in_large, cases_superblock}
use Rattle.heap_at_rest.proofs.RecoveryLeftLemmas.{listed_cases, partial_listed, full_not_partial, large_not_partial, full_holds}
use Rattle.heap_recover.proofs.AscendingLemmas.{ascending_one}

-- the lists, and the infos and anchors that the kept blocks tell
pub record IsRelisted (old new : Image) (kept : Block → Type 0) : Type 0 where
  pub descriptors : ℕ → List ℕ
  pub listed : (list : ℕ) → list < lists → AreAscending (λ d. d) (IsListed (layout_of old) kept list) (descriptors list)
  pub state : new state_word ≡ dirty
  pub same : (word : ℕ) → IsKeptWord (capacity_of old) word → new word ≡ old word
  pub heads : (list : ℕ) → list < lists → new (head_word list) ≡ first_number (descriptors list)
  pub links : (list : ℕ) → list < lists
      → Follows (λ d. new (link_word d)) (capacity_of old) (first_number (descriptors list)) (descriptors list)
  pub unlisted : (d : ℕ) → d < capacity_of old → ((list : ℕ) → list < lists → Contains (descriptors list) d → ⊥) → new (link_word d) ≡ 0
  pub free : (d : ℕ) → IsFreeSuperblock (layout_of old) kept d → HasInfoAndAnchor new d 0 0
  pub full : (class d : ℕ) → IsClass class → IsFullyKept (layout_of old) kept class d → HasInfoAndAnchor new d class full_anchor
  pub in_large : (d : ℕ) → IsInLarge (layout_of old) kept d → HasInfoAndAnchor new d (old (info_word d)) full_anchor
  pub untaken : (d : ℕ) → (layout_of old).used ≤ d → d < capacity_of old → HasInfoAndAnchor new d 0 0

-- the info and the anchor of a superblock are the same in both
pub record IsDescribedAlike (new other : Image) (d : ℕ) : Type 0 where
  pub info : other (info_word d) ≡ new (info_word d)
  pub anchor : other (anchor_word d) ≡ new (anchor_word d)

pub described_alike : (new other : Image) (d info anchor : ℕ) → HasInfoAndAnchor other d info anchor → HasInfoAndAnchor new d info anchor
    → IsDescribedAlike new other d
described_alike new other d info anchor there here =
    record { info = there.info_is ∙ sym here.info_is; anchor = there.anchor_is ∙ sym here.anchor_is }

-- links along one list begin alike, and are the same at its members
one_start : (link link' : ℕ → ℕ) (capacity from from' : ℕ) (ds : List ℕ) → Follows link capacity from ds → Follows link' capacity from' ds
    → from ≡ from'
one_start link link' capacity from from' [] along along' = along ∙ sym along'
one_start link link' capacity from from' (d ∷ ds) along along' = along.0 ∙ sym along'.0

one_link : (link link' : ℕ → ℕ) (capacity from from' : ℕ) (ds : List ℕ) (d : ℕ) → Follows link capacity from ds
    → Follows link' capacity from' ds → Contains ds d → link d ≡ link' d
one_link link link' capacity from from' [] d along along' has = absurd (in_none d has)
one_link link link' capacity from from' (e ∷ ds) d along along' has = elim (head_or_rest e d ds has) as (λ _. link d ≡ link' d) [
  | inl same ↦ subst (λ x. link x ≡ link' x) same (one_start link link' capacity (link e) (link' e) ds along.2 along'.2)
  | inr later ↦ one_link link link' capacity (link e) (link' e) ds d along.2 along'.2 later
]

module _ (old new other : Image) (kept : Block → Type 0) (held : List Block) (are : AreAscending (λ (b : Block). b.first_word) kept held)
    (is : IsRelisted old new kept) (again : IsRelisted old other kept)
    (partials : (class d : ℕ) → IsClass class → IsPartial (layout_of old) kept class d → IsDescribedAlike new other d)
    (insides : (word : ℕ) → start_word (capacity_of old) 0 ≤ word → other word ≡ new word) where
  abbrev l : Layout
  l = layout_of old

  standing : (d : ℕ) → Standing l kept d
  standing d = cases_superblock l kept held d are

  -- lists and their links
  one_list : (list : ℕ) → list < lists → again.descriptors list ≡ is.descriptors list
  one_list list less =
      ascending_one (λ d. d) (IsListed l kept list) (IsListed l kept list) (again.descriptors list) (is.descriptors list) (λ d h. h) (λ d h. h)
      (again.listed list less) (is.listed list less)

  listed_link : (list d : ℕ) → list < lists → IsListed l kept list d → other (link_word d) ≡ new (link_word d)
  listed_link list d less listed =
      let along = subst (λ ds. Follows (λ e. other (link_word e)) (capacity_of old) (first_number ds) ds) (one_list list less)
      (again.links list less) in
      one_link (λ e. other (link_word e)) (λ e. new (link_word e)) (capacity_of old) _ _ (is.descriptors list) d along (is.links list less)
      ((is.listed list less).complete d listed)

  unlisted_link : (d : ℕ) → d < capacity_of old → ((list : ℕ) → list < lists → IsListed l kept list d → ⊥) → other (link_word d) ≡ new (link_word d)
  unlisted_link d less none =
      again.unlisted d less (λ list few has. none list few ((again.listed list few).sound d has))
      ∙ sym (is.unlisted d less (λ list few has. none list few ((is.listed list few).sound d has)))

  -- a superblock that was never taken is in no list
  in_no_list : (d : ℕ) → (d < l.used → ⊥) → (list : ℕ) → list < lists → IsListed l kept list d → ⊥
  in_no_list d untaken list few listed = elim (listed_cases l kept list d few listed) as
      (λ _. ⊥) [ inl free ↦ untaken free.taken | inr part ↦ untaken part.1.taken ]

  one_link_word : (d : ℕ) → d < capacity_of old → Standing l kept d → other (link_word d) ≡ new (link_word d)
  one_link_word d less (is_untaken past) = unlisted_link d less (in_no_list d (λ taken. omega arith))
  one_link_word d less (is_free free) = listed_link 0 d (omega arith) free
  one_link_word d less (is_partial class is_class part) = listed_link class d (let last = is_class.last in
      omega arith) (partial_listed l kept class d is_class part)
  one_link_word d less (is_fully_kept class is_class full) = unlisted_link d less
      (λ list few listed. elim (listed_cases l kept list d few listed) as (λ _. ⊥) [
        | inl free ↦ let holds = full_holds l kept class d is_class full in free.empty holds.block holds.is_kept holds.part
        | inr part ↦ full_not_partial l kept class list d full part.1
      ])
  one_link_word d less (is_in_large large) = unlisted_link d less (λ list few listed. elim (listed_cases l kept list d few listed) as (λ _. ⊥) [
    | inl free ↦ free.empty large.holds.block large.holds.is_kept large.holds.part
    | inr part ↦ large_not_partial l kept list d part.0 large part.1
  ])

  -- infos and anchors
  described : (d : ℕ) → d < capacity_of old → Standing l kept d → IsDescribedAlike new other d
  described d less (is_untaken past) = described_alike new other d 0 0 (again.untaken d past less) (is.untaken d past less)
  described d less (is_free free) = described_alike new other d 0 0 (again.free d free) (is.free d free)
  described d less (is_partial class is_class part) = partials class d is_class part
  described d less (is_fully_kept class is_class full) =
      described_alike new other d _ _ (again.full class d is_class full) (is.full class d is_class full)
  described d less (is_in_large large) = described_alike new other d _ _ (again.in_large d large) (is.in_large d large)

  -- words that are left alone
  one_kept : (word : ℕ) → IsKeptWord (capacity_of old) word → other word ≡ new word
  one_kept word stays = again.same word stays ∙ sym (is.same word stays)

  one_reserved : (word : ℕ) → IsReserved (capacity_of old) word → other word ≡ new word
  one_reserved word reserved = one_kept word (is_reserved word reserved)

  one_head : (word : ℕ) → 16 ≤ word → word < head_word lists → other word ≡ new word
  one_head word low high =
      let at : word ≡ head_word (word - 16) = omega arith in
      let few : word - 16 < lists = omega arith in
      subst (λ w. other w ≡ new w) (sym at)
      (again.heads (word - 16) few ∙ ap first_number (one_list (word - 16) few) ∙ sym (is.heads (word - 16) few))

  one_header : (word : ℕ) → word < 16 → other word ≡ new word
  one_header word low = elim (cases_eq word magic_word) as (λ _. other word ≡ new word) [
    | inl at ↦ one_kept word (of_header word (inl at))
    | inr not_magic ↦ elim (cases_eq word version_word) as (λ _. other word ≡ new word) [
      | inl at ↦ one_kept word (of_header word (inr (inl at)))
      | inr not_version ↦ elim (cases_eq word capacity_word) as (λ _. other word ≡ new word) [
        | inl at ↦ one_kept word (of_header word (inr (inr (inl at))))
        | inr not_capacity ↦ elim (cases_eq word state_word) as (λ _. other word ≡ new word) [
          | inl at ↦ subst (λ w. other w ≡ new w) (sym at) (again.state ∙ sym is.state)
          | inr not_state ↦ elim (cases_eq word used_word) as (λ _. other word ≡ new word) [
            | inl at ↦ one_kept word (of_header word (inr (inr (inr at))))
            | inr not_used ↦ one_reserved word (in_header word (omega arith) (omega arith) not_used (inl (omega arith)))
          ]
        ]
      ]
    ]
  ]

  one_fixed : (word : ℕ) → word < 1064 → other word ≡ new word
  one_fixed word low = elim (cases_lt word 16) as (λ _. other word ≡ new word) [
    | inl less ↦ one_header word less
    | inr from ↦ elim (cases_lt word (head_word lists)) as (λ _. other word ≡ new word) [
      | inl less ↦ one_head word from less
      | inr past ↦ elim (cases_lt word 40) as (λ _. other word ≡ new word) [
        | inl less ↦ one_reserved word (in_header word (omega arith) less (λ e. omega arith) (inr (omega arith)))
        | inr at_roots ↦ one_kept word (is_root (word - 40) word (omega arith) (omega arith))
      ]
    ]
  ]

  one_descriptor : (word d at : ℕ) → word ≡ info_word d + at → at < 8 → d < capacity_of old → other word ≡ new word
  one_descriptor word d at is_at few less = elim (cases_lt 2 at) as (λ _. other word ≡ new word) [
    | inl past ↦ one_reserved word (in_descriptor d at word less (omega arith) few is_at)
    | inr first ↦ elim (cases_eq at 0) as (λ _. other word ≡ new word) [
      | inl e ↦ let here : word ≡ info_word d = omega arith in subst (λ w. other w ≡ new w) (sym here) (described d less (standing d)).info
      | inr some ↦ elim (cases_eq at 1) as (λ _. other word ≡ new word) [
        | inl e ↦ let here : word ≡ anchor_word d = omega arith in subst (λ w. other w ≡ new w) (sym here) (described d less (standing d)).anchor
        | inr more ↦ let here : word ≡ link_word d = omega arith in subst (λ w. other w ≡ new w) (sym here) (one_link_word d less (standing d))
      ]
    ]
  ]

  -- each word
  pub relisted_word : (word : ℕ) → other word ≡ new word
  relisted_word word = elim (cases_lt word 1064) as (λ _. other word ≡ new word) [
    | inl fixed ↦ one_fixed word fixed
    | inr from ↦ elim (cases_lt word (start_word (capacity_of old) 0)) as (λ _. other word ≡ new word) [
      | inl before ↦ one_descriptor word ((word - 1064) / 8) ((word - 1064) % 8) (omega arith) (omega arith) (omega arith)
      | inr inside ↦ insides word inside
    ]
  ]
