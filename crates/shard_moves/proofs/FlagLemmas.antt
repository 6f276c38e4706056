-- How many of the flags of shards are set, and which tables that were made were missing.
use Rattle.std.proofs.Common.{◌≡◌, ℕ, suc, ◌+◌, ◌-◌, ◌<◌, ◌≤◌, Bool, true, false, not, cond, List, subst, sym, ap, ◌∙◌, arith}
use Rattle.std.specs.Prelude.{count_by, ◌&&◌}
use Rattle.std.proofs.lemmas.Bool.{and_parts, and_from}
use Rattle.std.proofs.lemmas.List.Sums.{sum_by-cons}
use Rattle.heap_model.specs.Image.{words_from}
use Rattle.heap_seat.specs.View.{View}
use Rattle.dict_model.specs.Links.{shards}
use Rattle.run_model.specs.Spending.{sees_table, tables_made, tables_missing}
use Rattle.run_model.proofs.CountLemmas.{count_rises}
use Rattle.shard_moves.specs.Tables.{is_flagged}

-- the first of the numbers that are left
count_first : (f : ℕ → Bool) (n : ℕ) → n < shards → count_by f (words_from (λ i. i) n (shards - n)) ≡ cond (f n) 1 0 + count_by f
    (words_from (λ i. i) (n + 1) (shards - (n + 1)))
count_first f n below =
    let e : shards - n ≡ suc (shards - (n + 1)) = omega arith in
    subst (λ k. count_by f (words_from (λ i. i) n k) ≡ cond (f n) 1 0 + count_by f (words_from (λ i. i) (n + 1) (shards - (n + 1)))) (sym e)
    (sum_by-cons (λ y. cond (f y) 1 0) n (words_from (λ i. i) (n + 1) (shards - (n + 1))))

pub count_set : (f : ℕ → Bool) (n : ℕ) → n < shards → f n ≡ true → count_by f (words_from (λ i. i) n (shards - n)) ≡ 1 + count_by f
    (words_from (λ i. i) (n + 1) (shards - (n + 1)))
count_set f n below is = count_first f n below ∙ ap (λ b. cond b 1 0 + count_by f (words_from (λ i. i) (n + 1) (shards - (n + 1)))) is

pub count_unset : (f : ℕ → Bool) (n : ℕ) → n < shards → f n ≡ false → count_by f (words_from (λ i. i) n (shards - n)) ≡ 0 + count_by f
    (words_from (λ i. i) (n + 1) (shards - (n + 1)))
count_unset f n below is = count_first f n below ∙ ap (λ b. cond b 1 0 + count_by f (words_from (λ i. i) (n + 1) (shards - (n + 1)))) is

-- a table that was made was missing
pub made_missing : (flags : List Bool) (v w : View) → tables_made (is_flagged flags) v w ≤ tables_missing (is_flagged flags) v
made_missing flags v w =
    count_rises (λ k. is_flagged flags k && (sees_table w k && not (sees_table v k))) (λ k. is_flagged flags k && not (sees_table v k))
    (words_from (λ i. i) 0 shards)
    (λ k h both.
    let parts = and_parts (is_flagged flags k) (sees_table w k && not (sees_table v k)) both in
    and_from (is_flagged flags k) (not (sees_table v k)) parts.0 (and_parts (sees_table w k) (not (sees_table v k)) parts.1).1)
