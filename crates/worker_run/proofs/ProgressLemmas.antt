-- What a run leaves that has come so far, and where the next request is stopped.
use Rattle.std.proofs.Common.{◌≡◌, ℕ, ◌<◌, inl, inr, List, [], ◌∷◌, Contains, slice_index, refl, subst, sym, ap, ◌∙◌, arith}
use Rattle.std.specs.Prelude.{true}
use Rattle.std.proofs.lemmas.Bool.{cases_eq, eq-eqb}
use Rattle.heap_model.specs.Image.{Image}
use Rattle.heap_seat.specs.View.{View}
use Rattle.heap_seat.specs.Words.{KeepsOwn, MixesOwn, NamesAll, StoresKinds}
use Rattle.heap_seat.specs.Sound.{IsSeat}
use Rattle.dict_model.specs.Links.{shards}
use Rattle.dict_model.specs.Requests.{Request, Reply, done, after, after_one}
use Rattle.dict_model.specs.Shards.{Map, MapOf}
use Rattle.dict_requests.specs.Maps.{IsMapIn, GivesMap}
use Rattle.run_model.specs.Opened.{IsOpenedOver, HasAllRoots}
use Rattle.run_model.specs.Progress.{MayAnswer, HasAnswered}
use Rattle.run_model.specs.Runs.{of_shard, IsMapLeft, LeavesOthers}
use Rattle.run_model.specs.Stands.{StandsOver}
use Rattle.run_model.specs.Workers.{shard_asked}
use Rattle.worker_run.proofs.ImageLeftLemmas.{nothing_outside, map_left}
use Rattle.worker_run.proofs.OpenLemmas.{only_opened, gives_opened, others_opened}
use Rattle.dict_requests.proofs.GrownLemmas.{grown_keeps, gives_grown, only_grown}
use Rattle.run_model.proofs.GoesOnLemmas.{other_gives, stands_on}
use Rattle.run_model.proofs.StandsLemmas.{others_still, root_in_left, block_in_left, reach_in_left}

roots_still : (v w : View) → w.roots ≡ v.roots → HasAllRoots v → HasAllRoots w
roots_still v w same all = record { each = λ root below. subst (λ (ns : List ℕ). Contains ns root) (sym same) (all.each root below) }

module _ (image : Image) (rs : List (Request × Reply)) (v w : View) (request : Request) (seat : IsSeat v) (has : HasAnswered image rs v)
    (may : MayAnswer request v w) where
  -- where the request was stopped, what is left of each shard is its map, or of the one shard the map after the request too
  pub left_stopped : (left : Image) (others : List Request) → HasAllRoots v → IsSeat w → MixesOwn w left → NamesAll left w.held
      → StoresKinds w left → (shard : ℕ) (map : Map) → shard < shards
      → MapOf image shard map → IsMapLeft left shard (after map (of_shard shard rs)) true (request ∷ others)
  left_stopped left others all seat_w mixes named kinds shard map small is = elim (cases_eq (shard_asked request) shard)
      as (λ _. IsMapLeft left shard (after map (of_shard shard rs)) true (request ∷ others)) [
        | inl same ↦
            let before = after map (of_shard shard rs) in
            let either = (may.either before (subst (λ n. GivesMap v n before) (sym same) (has.gives shard map small owned is))).each left mixes in
            elim either as (λ _. IsMapLeft left shard before true (request ∷ others)) [
              | inl one ↦ inl (on_left before (subst (λ n. IsMapIn w left n before) same one))
              | inr two ↦ inr (
                refl,
                record {
                  request = request;
                  others = others;
                  first = refl;
                  to_shard = eq-eqb (shard_asked request) shard same;
                  map_is = on_left (after_one before request done) (subst (λ n. IsMapIn w left n (after_one before request done)) same two);
                },
              )
            ]
        | inr other ↦ inl (on_left (after map (of_shard shard rs)) ((other_gives image rs v w request seat has may shard map small owned
            (λ e. other (sym e)) is).each left mixes))
      ] where
        owned : Contains v.roots shard
        owned = all.each shard (omega arith)

        on_left : (m : Map) → IsMapIn w left shard m → MapOf left shard m
        on_left m is_map =
            let stands = stands_on image v w request has.stands may in
            let all_now : HasAllRoots w = roots_still v w may.others.roots all in
            map_left w left seat_w stands.only mixes named kinds all_now shard m small (sym (stands.kinds.each shard (omega arith)) ∙ is.kind_is) is_map

-- what a run leaves that has come so far
pub left_answered : (image : Image) (rs : List (Request × Reply)) (v : View) (left : Image) → IsSeat v → HasAllRoots v → HasAnswered image rs v
    → MixesOwn v left → NamesAll left v.held → StoresKinds v left
    → (shard : ℕ) (map : Map) → shard < shards → MapOf image shard map → MapOf left shard (after map (of_shard shard rs))
left_answered image rs v left seat all has mixes named kinds shard map small is =
    map_left v left seat has.stands.only mixes named kinds all shard (after map (of_shard shard rs)) small
    (sym (has.stands.kinds.each shard (omega arith)) ∙ is.kind_is) ((has.gives shard map small (all.each shard (omega arith)) is).each left mixes)

pub left_others : (image : Image) (v : View) (left : Image) → IsSeat v → HasAllRoots v → StandsOver image v → MixesOwn v left
    → NamesAll left v.held → StoresKinds v left → LeavesOthers image left
left_others image v left seat all stands mixes named kinds = record {
  nothing_outside = nothing_outside v left seat stands.only mixes named kinds all;
  roots_are = root_in_left image v stands.kinds stands.others all left mixes;
  blocks_are = block_in_left image v stands.kinds stands.others all left mixes;
  still_reached = reach_in_left image v stands.kinds stands.others all left mixes named kinds;
}

-- a run that begins
pub begins : (image : Image) (v : View) → IsSeat v → IsOpenedOver image v → HasAnswered image [] v
begins image v seat opened = record {
  stands = record { kinds = opened.kinds; only = only_opened image v seat opened; others = others_opened image v seat opened };
  right = λ shard map small owned is. tt;
  gives = λ shard map small owned is. gives_opened image v seat opened shard map small owned is;
}

-- a run stands as it was where no own word is stored to
pub still : (image : Image) (rs : List (Request × Reply)) (v w : View) → IsSeat v → IsSeat w → KeepsOwn v w → w.kinds ≡ v.kinds
    → HasAnswered image rs v → HasAnswered image rs w
still image rs v w seat seat_w keeps kinds has =
    let grown = grown_keeps v w keeps in
    let before : (shard : ℕ) → Contains w.roots shard → Contains v.roots shard =
    λ shard owned. subst (λ (ns : List ℕ). Contains ns shard) keeps.roots owned in
    record {
      stands = record {
        kinds = record { each = λ root below. has.stands.kinds.each root below ∙ sym (ap (λ (ks : List ℕ). slice_index ks root) kinds) };
        only = only_grown v w grown kinds seat_w has.stands.only;
        others = others_still image v has.stands.kinds has.stands.others w keeps;
      };
      right = λ shard map small owned is. has.right shard map small (before shard owned) is;
      gives = λ shard map small owned is. gives_grown v w grown shard (after map (of_shard shard rs))
          (has.gives shard map small (before shard owned) is);
    }
