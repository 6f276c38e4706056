-- Flags of shards: those that moves bring values to, and a worker's own of them.
use Rattle.std.proofs.Common.{◌≡◌, ℕ, zero, suc, ◌+◌, ◌<◌, inl, inr, List, [], ◌∷◌, ◌++◌, Bool, true, false, length, set, refl, subst, sym, ap, ◌∙◌, arith}
use Rattle.std.specs.Prelude.{nat_eq, replicate, ◌||◌, ◌&&◌}
use Rattle.std.proofs.lemmas.Bool.{cases_eq, eq-eqb, ne_eqb}
use Rattle.dict_model.specs.Links.{shards}
use Rattle.dict_model.specs.Nodes.{shard_of}
use Rattle.dict_model.specs.Requests.{Request, put, get, del, move}
use Rattle.run_model.specs.Needs.{is_moved_to, is_target_of}
use Rattle.run_model.specs.Workers.{worker_of}
use Rattle.shard_moves.specs.Tables.{is_flagged}
use Rattle.shard_moves.proofs.TableLemmas.{flag_set, flag_stays}
use Rattle.trace_text.specs.declared.request.Request.TheVariants.{Put, Get, Del, Move}
use Rattle.worker_run.specs.Said.{Line, request_of}

-- the flags are those of the shards that these requests move values to
pub record AreTargets (requests : List Request) (flags : List Bool) : Type 0 where
  pub long : length flags ≡ shards
  pub each : (shard : ℕ) → shard < shards → is_flagged flags shard ≡ is_moved_to requests shard

-- one request more
moved_push : (qs : List Request) (q : Request) (shard : ℕ) → is_moved_to (qs ++ (q ∷ [])) shard ≡ (is_moved_to (q ∷ []) shard || is_moved_to qs shard)
moved_push [] q shard = by_or (is_moved_to (q ∷ []) shard) where
  by_or : (b : Bool) → b ≡ (b || false)
  by_or true = refl
  by_or false = refl
moved_push (put key value ∷ qs) q shard = moved_push qs q shard
moved_push (get key ∷ qs) q shard = moved_push qs q shard
moved_push (del key ∷ qs) q shard = moved_push qs q shard
moved_push (move key to ∷ qs) q shard = ap (λ b. nat_eq (shard_of to) shard || b) (moved_push qs q shard)
    ∙ swaps (nat_eq (shard_of to) shard) (is_moved_to (q ∷ []) shard) (is_moved_to qs shard) where
      swaps : (a b c : Bool) → (a || (b || c)) ≡ (b || (a || c))
      swaps true true c = refl
      swaps true false c = refl
      swaps false b c = refl

-- a line that is no move
pub not_moved : (line : Line) → ((key to : ℕ) → line ≡ Move key to → ⊥) → (shard : ℕ) → is_moved_to (request_of line ∷ []) shard ≡ false
not_moved (Put key value) not shard = refl
not_moved (Get key) not shard = refl
not_moved (Del key) not shard = refl
not_moved (Move key to) not shard = absurd (not key to refl)

pub targets_same : (qs : List Request) (q : Request) (flags : List Bool) → ((shard : ℕ) → is_moved_to (q ∷ []) shard ≡ false)
    → AreTargets qs flags → AreTargets (qs ++ (q ∷ [])) flags
targets_same qs q flags none are = record {
  long = are.long;
  each = λ shard small. are.each shard small ∙ sym (moved_push qs q shard ∙ ap (λ b. b || is_moved_to qs shard) (none shard));
}

pub targets_next : (qs : List Request) (key to at : ℕ) (flags now : List Bool) → at ≡ shard_of to → at < shards → now ≡ set flags at true
    → length now ≡ shards → AreTargets qs flags
    → AreTargets (qs ++ (move key to ∷ [])) now
targets_next qs key to at flags now at_is small_at now_is long are = record {
  long = long;
  each = λ shard small. elim (cases_eq shard at) as (λ _. is_flagged now shard ≡ is_moved_to (qs ++ (move key to ∷ [])) shard) [
    | inl same ↦
        ap (λ n. is_flagged now n) same ∙ ap (λ fs. is_flagged fs at) now_is ∙ flag_set flags at true (let l = are.long in omega arith)
        ∙ sym (moved_push qs (move key to) shard ∙ ap (λ b. (b || false) || is_moved_to qs shard) (eq-eqb (shard_of to) shard (sym at_is ∙ sym same)))
    | inr other ↦
        ap (λ fs. is_flagged fs shard) now_is ∙ flag_stays flags at shard true other ∙ are.each shard small
        ∙ sym (moved_push qs (move key to) shard ∙ ap (λ b. (b || false) || is_moved_to qs shard)
        (ne_eqb (shard_of to) shard (λ e. other (sym (at_is ∙ e)))))
  ];
}

-- none at first
pub targets_none : AreTargets [] (false ∷ false ∷ false ∷ false ∷ false ∷ false ∷ false ∷ false ∷ [])
targets_none = record { long = refl; each = λ shard small. no_flag shards shard } where
  no_flag : (n shard : ℕ) → is_flagged (replicate n false) shard ≡ false
  no_flag zero shard = refl
  no_flag (suc n) zero = refl
  no_flag (suc n) (suc shard) = no_flag n shard

-- the first of a worker's own flags are told
pub record AreOwn (workers worker : ℕ) (targets flags : List Bool) (number : ℕ) : Type 0 where
  pub long : length flags ≡ shards
  pub each : (shard : ℕ) → shard < number → is_flagged flags shard ≡ (nat_eq (worker_of workers shard) worker && is_flagged targets shard)

pub own_none : (workers worker : ℕ) (targets flags : List Bool) → length flags ≡ shards → AreOwn workers worker targets flags 0
own_none workers worker targets flags long = record { long = long; each = λ shard below. absurd (omega arith) }

pub own_next : (workers worker number : ℕ) (targets flags now : List Bool) (has : Bool) → number < shards → now ≡ set flags number has
    → length now ≡ shards
    → has ≡ (nat_eq (worker_of workers number) worker && is_flagged targets number) → AreOwn workers worker targets flags number
    → AreOwn workers worker targets now (number + 1)
own_next workers worker number targets flags now has small is long has_is own = record {
  long = long;
  each = λ shard below. elim (cases_eq shard number) as (λ _. is_flagged now shard ≡
      (nat_eq (worker_of workers shard) worker && is_flagged targets shard)) [
        | inl same ↦ subst (λ n. is_flagged now n ≡ (nat_eq (worker_of workers n) worker && is_flagged targets n)) (sym same)
            (ap (λ fs. is_flagged fs number) is ∙ flag_set flags number has (let l = own.long in omega arith) ∙ has_is)
        | inr other ↦ ap (λ fs. is_flagged fs shard) is ∙ flag_stays flags number shard has other ∙ own.each shard (omega arith)
      ];
}

pub own_all : (workers worker : ℕ) (targets flags : List Bool) (requests : List Request)
    → ((shard : ℕ) → shard < shards → is_flagged targets shard ≡ is_moved_to requests shard)
    → AreOwn workers worker targets flags shards → (shard : ℕ) → shard < shards → is_flagged flags shard ≡ is_target_of workers worker requests shard
own_all workers worker targets flags requests are own shard small = own.each shard small
    ∙ ap (λ b. nat_eq (worker_of workers shard) worker && b) (are shard small)
