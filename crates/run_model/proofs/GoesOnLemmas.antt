-- A run goes on by one request.
use Rattle.std.proofs.Common.{◌≡◌, ◌≢◌, ℕ, ◌<◌, inl, inr, List, [], ◌∷◌, ◌++◌, Contains, cond, slice_index, refl, subst, sym, ap, ◌∙◌, arith}
use Rattle.std.proofs.lemmas.Bool.{cases_eq, cond-true, cond-false, ne_eqb, eq-eqb}
use Rattle.std.proofs.lemmas.List.Elements.{filter-append}
use Rattle.heap_model.specs.Image.{Image}
use Rattle.heap_seat.specs.View.{View}
use Rattle.heap_seat.specs.Sound.{IsSeat}
use Rattle.dict_model.specs.Links.{shards}
use Rattle.dict_model.specs.Requests.{Request, Reply, done, after, after_one, IsReply, AreReplies}
use Rattle.dict_model.specs.Shards.{Map, MapOf}
use Rattle.dict_requests.specs.Changes.{MayChange, Changes}
use Rattle.dict_requests.specs.Maps.{GivesMap}
use Rattle.dict_requests.specs.Removal.{IsShard}
use Rattle.run_model.specs.Needs.{is_to}
use Rattle.run_model.specs.Opened.{HasMaps}
use Rattle.run_model.specs.Progress.{Answers, MayAnswer, HasAnswered}
use Rattle.run_model.specs.Runs.{of_shard}
use Rattle.run_model.specs.Stands.{StandsOver}
use Rattle.run_model.specs.Workers.{shard_asked}
use Rattle.run_model.specs.Working.{TakesRequest, TakesRequests}
use Rattle.heap_seat.specs.declared.fault.Looks.{Looks}
use Rattle.run_model.proofs.OneMapLemmas.{small_shard}
use Rattle.run_model.proofs.StandsLemmas.{others_stay}
use Rattle.dict_requests.proofs.OthersLemmas.{gives_others}

-- the map after one request more
pub after_push : (map : Map) (xs : List (Request × Reply)) (x : Request × Reply) → after map (xs ++ (x ∷ [])) ≡ after_one (after map xs) x.0 x.1
after_push map [] x = refl
after_push map (y ∷ ys) x = after_push (after_one map y.0 y.1) ys x

right_push : (map : Map) (xs : List (Request × Reply)) (x : Request × Reply) → AreReplies map xs → IsReply (after map xs) x.0 x.1
    → AreReplies map (xs ++ (x ∷ []))
right_push map [] x all is = (is, tt)
right_push map (y ∷ ys) x all is = (all.0, right_push (after_one map y.0 y.1) ys x all.1 is)

-- the requests to a shard, with one more of it or of another
pub push_same : (shard : ℕ) (xs : List (Request × Reply)) (x : Request × Reply) → shard_asked x.0 ≡ shard
    → of_shard shard (xs ++ (x ∷ [])) ≡ of_shard shard xs ++ (x ∷ [])
push_same shard xs x same = filter-append (λ r. is_to shard r.0) xs (x ∷ [])
    ∙ ap (λ zs. of_shard shard xs ++ zs) (cond-true (is_to shard x.0) (x ∷ []) [] (eq-eqb (shard_asked x.0) shard same))

pub push_other : (shard : ℕ) (xs : List (Request × Reply)) (x : Request × Reply) → shard_asked x.0 ≢ shard
    → of_shard shard (xs ++ (x ∷ [])) ≡ of_shard shard xs
push_other shard [] x other = cond-false (is_to shard x.0) (x ∷ []) [] (ne_eqb (shard_asked x.0) shard other)
push_other shard (y ∷ ys) x other = ap (λ zs. cond (is_to shard y.0) (y ∷ zs) zs) (push_other shard ys x other)

-- what belongs to no shard stands over a change of one, and over a request, wherever it ends
pub stands_over : (image : Image) (shard : ℕ) (after : Map → Map) (v w : View) → shard < shards → StandsOver image v → MayChange shard after v w
    → StandsOver image w
stands_over image shard after v w small stands may = record {
  kinds = record { each = λ root below. stands.kinds.each root below ∙ sym (ap (λ (ks : List ℕ). slice_index ks root) may.others.kinds) };
  only = may.only;
  others = others_stay image v stands.kinds stands.others w shard small stands.only may.others;
}

pub stands_on : (image : Image) (v w : View) (request : Request) → StandsOver image v → MayAnswer request v w → StandsOver image w
stands_on image v w request stands may = stands_over image (shard_asked request) (λ map. after_one map request done) v w
    (small_shard request) stands may

-- other shards have their maps over a change of one
module _ (image : Image) (rs : List (Request × Reply)) (v w : View) (at : ℕ) (after_it : Map → Map) (small_at : at < shards) (seat : IsSeat v)
    (has : HasAnswered image rs v) (may : MayChange at after_it v w) where
  others_give : (shard : ℕ) (map : Map) → shard < shards → Contains v.roots shard → shard ≢ at → MapOf image shard map
      → GivesMap w shard (after map (of_shard shard rs))
  others_give shard map small owned differs is =
      gives_others v w at shard seat has.stands.only may.others small_at (sym (has.stands.kinds.each shard (omega arith))
      ∙ is.kind_is) differs owned (after map (of_shard shard rs))
      (has.gives shard map small owned is)

  -- a run stands as it was where the shard keeps its map too
  pub stays_on : Changes at (λ map. map) v w → HasAnswered image rs w
  stays_on same = record {
    stands = stands_over image at after_it v w small_at has.stands may;
    right = λ shard map small now_owned is. has.right shard map small (subst (λ (ns : List ℕ). Contains ns shard) may.others.roots now_owned) is;
    gives = λ shard map small now_owned is.
        let owned = subst (λ (ns : List ℕ). Contains ns shard) may.others.roots now_owned in
        elim (cases_eq at shard) as (λ _. GivesMap w shard (after map (of_shard shard rs))) [
          | inl e ↦ subst (λ n. GivesMap w n (after map (of_shard shard rs))) e
              (same.gives (after map (of_shard shard rs)) (subst (λ n. GivesMap v n (after map (of_shard shard rs))) (sym e)
              (has.gives shard map small owned is)))
          | inr other ↦ others_give shard map small owned (λ e. other (sym e)) is
        ];
  }

module _ (image : Image) (rs : List (Request × Reply)) (v w : View) (request : Request) (seat : IsSeat v) (has : HasAnswered image rs v)
    (may : MayAnswer request v w) where
  -- the seat has the roots that it had
  owned_before : (shard : ℕ) → Contains w.roots shard → Contains v.roots shard
  owned_before shard owned = subst (λ (ns : List ℕ). Contains ns shard) may.others.roots owned

  -- other shards have their maps
  pub other_gives : (shard : ℕ) (map : Map) → shard < shards → Contains v.roots shard → shard ≢ shard_asked request → MapOf image shard map
      → GivesMap w shard (after map (of_shard shard rs))
  other_gives shard map small owned differs is =
      others_give image rs v w (shard_asked request) (λ m. after_one m request done) (small_shard request) seat has may shard map small owned differs is

  pub goes_on : (reply : Reply) → Answers request reply v w → HasAnswered image (rs ++ ((request, reply) ∷ [])) w
  goes_on reply answers = record {
    stands = stands_on image v w request has.stands may;
    right = λ shard map small now_owned is.
        let owned = owned_before shard now_owned in
        elim (cases_eq (shard_asked request) shard) as (λ _. AreReplies map (of_shard shard (rs ++ ((request, reply) ∷ [])))) [
          | inl same ↦ subst (AreReplies map) (sym (push_same shard rs (request, reply) same))
              (right_push map (of_shard shard rs) (request, reply) (has.right shard map small owned is)
              (answers.right (after map (of_shard shard rs)) (subst (λ n. GivesMap v n (after map (of_shard shard rs))) (sym same)
              (has.gives shard map small owned is))))
          | inr other ↦ subst (AreReplies map) (sym (push_other shard rs (request, reply) other)) (has.right shard map small owned is)
        ];
    gives = λ shard map small now_owned is.
        let owned = owned_before shard now_owned in
        elim (cases_eq (shard_asked request) shard) as (λ _. GivesMap w shard (after map (of_shard shard (rs ++ ((request, reply) ∷ []))))) [
          | inl same ↦
              let before = after map (of_shard shard rs) in
              let now = answers.gives before (subst (λ n. GivesMap v n before) (sym same) (has.gives shard map small owned is)) in
              subst (λ zs. GivesMap w shard (after map zs)) (sym (push_same shard rs (request, reply) same))
              (subst (λ (m : Map). GivesMap w shard m) (sym (after_push map (of_shard shard rs) (request, reply)))
              (subst (λ n. GivesMap w n (after_one before request reply)) same now))
          | inr other ↦ subst (λ zs. GivesMap w shard (after map zs)) (sym (push_other shard rs (request, reply) other))
              (other_gives shard map small owned (λ e. other (sym e)) is)
        ];
  }

-- a request to a shard of the seat may be made
pub asked_shard : (image : Image) (rs : List (Request × Reply)) (v : View) (shard : ℕ) → HasMaps image → shard < shards → Contains v.roots shard
    → HasAnswered image rs v → IsShard v shard
asked_shard image rs v shard maps small owned has =
    let first = maps.each shard small in
    record {
      owned = owned;
      kind_is = sym (has.stands.kinds.each shard (omega arith)) ∙ first.1.kind_is;
      only = has.stands.only;
      map = after first.0 (of_shard shard rs);
      gives = has.gives shard first.0 small owned first.1;
    }

-- the states that a seat went through, with one more
pub takes_push : {S : Type 0} (view : S → View) (keeps : S → S → Type 0) (has_none : S → S → ℕ → Looks → Type 0) (rs : List (Request × Reply))
    (q : Request) (r : Reply) (s t u : S)
    → TakesRequests view keeps has_none rs s t → TakesRequest view keeps has_none q r t u → TakesRequests view keeps has_none (rs ++ ((q, r) ∷ [])) s u
takes_push view keeps has_none [] q r s t u so_far more = (u, subst (λ x. TakesRequest view keeps has_none q r x u) so_far more, refl)
takes_push view keeps has_none (x ∷ rs) q r s t u so_far more = (so_far.0, so_far.1, takes_push view keeps has_none rs q r so_far.0 t u so_far.2 more)
