-- The durable words of the shared table, taken out.
use Rattle.std.proofs.Math.ListN.{get_or-eq_default}
use Rattle.std.proofs.Common.{◌≡◌, ℕ, ◌+◌, ◌-◌, ◌*◌, ◌<◌, ◌≤◌, inl, inr, ◌⊎◌, nat_lt, List, [], ◌++◌, length, slice_index, get_or, take, drop, ap, sym, ◌∙◌, length-take, length-drop, get_or-take, get_or-drop, lt-ltb, arith}
use Rattle.std.proofs.lemmas.Bool.{cases_lt}
use Rattle.heap_model.specs.Geometry.{image_words}
use Rattle.core_model.specs.Memory.{table_length}
use Rattle.core_model.specs.Held.{durable_image}
use Rattle.core_model.proofs.PlaceLemmas.{pick, skip, not-lt}

-- the second half of the words of a table is its durable image
module _ (c n : ℕ) (table base items : List ℕ) (none : base ≡ []) (same : n ≡ image_words c) (long : length table ≡ table_length c)
    (is : items ≡ base ++ take (2 * n - n) (drop n table)) where
  plain : items ≡ take (2 * n - n) (drop n table)
  plain = is ∙ ap (λ xs. xs ++ take (2 * n - n) (drop n table)) none

  pub copied_long : length items ≡ image_words c
  copied_long = ap length plain ∙ length-take (2 * n - n) (drop n table) ∙ (let e = length-drop n table in omega arith)

  copied : (i : ℕ) → i < image_words c → get_or items i 0 ≡ get_or table (image_words c + i) 0
  copied i less =
      ap (λ xs. get_or xs i 0) plain ∙ get_or-take (2 * n - n) (drop n table) i 0 (omega arith) ∙ get_or-drop n table i 0
      ∙ ap (λ x. get_or table (x + i) 0) same

  by_place : (word : ℕ) → (word < image_words c) ⊎ (image_words c ≤ word) → get_or items word 0 ≡ durable_image c table word
  by_place word (inl inside) = copied word inside ∙ sym (pick (nat_lt word (image_words c)) _ _ (lt-ltb word (image_words c) inside))
  by_place word (inr past) =
      get_or-eq_default items 0 {n = word} (let e = copied_long in omega arith)
      ∙ sym (skip (nat_lt word (image_words c)) _ _ (not-lt word (image_words c) past))

  pub copied_image : slice_index items ≡ durable_image c table
  copied_image = λ k word. by_place word (cases_lt word (image_words c)) k
