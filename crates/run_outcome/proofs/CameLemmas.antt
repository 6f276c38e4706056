-- How many of the values that came to a worker have arrived in the image that is left: those that it brought in, and
-- the next one where it was stopped in that and the image has the map after it.
use Rattle.std.proofs.Common.{◌≡◌, ◌≢◌, ℕ, ◌+◌, ◌<◌, ◌⊎◌, inl, inr, List, [], ◌∷◌, ◌++◌, length, take, append-nil, append_assoc, Contains, refl, subst, sym, ap, ◌∙◌, eq-eqb}
use Rattle.std.specs.Prelude.{Bool, true, false}
use Rattle.std.proofs.Math.Path.{fun_ext}
use Rattle.std.proofs.Math.Seq.{take-append_seam, take-append-add}
use Rattle.std.proofs.lemmas.Bool.{cases_eq}
use Rattle.std.proofs.lemmas.List.{length-map, map-append}
use Rattle.heap_model.specs.Image.{Image}
use Rattle.heap_seat.specs.View.{View}
use Rattle.heap_seat.specs.Words.{MixesOwn}
use Rattle.dict_model.specs.Links.{shards}
use Rattle.dict_model.specs.Requests.{Request, put, Reply, done, after, after_one}
use Rattle.dict_model.specs.Shards.{Map, MapOf}
use Rattle.dict_model.proofs.ShardLemmas.{one_map_of}
use Rattle.dict_requests.specs.Maps.{IsMapIn, GivesMap}
use Rattle.run_model.specs.Opened.{HasMaps}
use Rattle.run_model.specs.Progress.{MayAnswer}
use Rattle.run_model.specs.Runs.{of_shard, IsMapLeft}
use Rattle.run_model.specs.Sending.{Sent, put_of, puts_of}
use Rattle.run_model.specs.Workers.{Replies, shard_asked}
use Rattle.run_model.proofs.GoesOnLemmas.{after_push, other_gives, push_other, push_same}
use Rattle.run_model.proofs.OneMapLemmas.{small_shard}
use Rattle.worker_parts.specs.Ending.{HasEnded, EndsIn, at_rest, not_begun, in_request, in_arrival}

-- So many of what came to a seat have arrived, the first ones: each of its shards is left as the answered requests and
-- these make it. All have where the run wasn't
-- stopped, and none where a request is unanswered.
pub record HaveCome (image left : Image) (rs : List (Request × Reply)) (rest : List Request) (came : List Sent) (stopped : Bool) (v : View)
    (n : ℕ) : Type 0 where
  pub every : stopped ≡ false → n ≡ length came
  pub none : rest ≢ [] → n ≡ 0
  pub each : (shard : ℕ) (map : Map) → shard < shards → Contains v.roots shard → MapOf image shard map
      → IsMapLeft left shard (after map (of_shard shard (rs ++ take n (puts_of came)))) stopped rest

-- a run is stopped or not
not_both : {A : Type 0} (b : Bool) → b ≡ true → b ≡ false → A
not_both b is not = let e : true ≡ false = sym is ∙ not in absurd (cc)

-- the first of the values that came, and one more
take_first : (came first later : List Sent) → came ≡ first ++ later → take (length first) (puts_of came) ≡ puts_of first
take_first came first later is =
    ap (λ xs. take (length first) (puts_of xs)) is ∙ ap (take (length first)) (map-append put_of first later)
    ∙ ap (λ n. take n (puts_of first ++ puts_of later)) (sym (length-map first put_of)) ∙ take-append_seam (puts_of first) (puts_of later)

take_next : (came first others : List Sent) (next : Sent) → came ≡ first ++ (next ∷ others)
    → take (length first + 1) (puts_of came) ≡ puts_of first ++ (put_of next ∷ [])
take_next came first others next is =
    ap (λ xs. take (length first + 1) (puts_of xs)) is ∙ ap (take (length first + 1)) (map-append put_of first (next ∷ others))
    ∙ ap (λ n. take (n + 1) (puts_of first ++ puts_of (next ∷ others))) (sym (length-map first put_of))
    ∙ take-append-add (puts_of first) (puts_of (next ∷ others)) 1

-- one request more to a shard
one_more : (shard : ℕ) (map : Map) (xs : List (Request × Reply)) (x : Request × Reply) → shard_asked x.0 ≡ shard
    → after map (of_shard shard (xs ++ (x ∷ []))) ≡ after_one (after map (of_shard shard xs)) x.0 x.1
one_more shard map xs x same =
    ap (after map) (push_same shard xs x same) ∙ after_push map (of_shard shard xs) x

-- one worker's part, where a map in its seat's words is the shard's map in the image that is left
module _ (image : Image) (requests : List Request) (told : Replies) (came brought : List Sent) (halted stops stopped : Bool) (v : View)
    (ended : HasEnded image requests told came brought halted stops v)
    (so : stops ≡ true → stopped ≡ true) (halts : halted ≡ true → stopped ≡ true) (maps : HasMaps image) (had : (shard : ℕ)
    → Contains v.roots shard → Contains ended.before.roots shard)
    (owns : (shard : ℕ) → shard < shards → Contains v.roots shard ⊎ (Contains v.roots shard → ⊥)) (left : Image) (mixed : MixesOwn v left)
    (to_left : (shard : ℕ) (m : Map) → shard < shards → IsMapIn v left shard m → MapOf left shard m) where
  -- what the seat has done
  abbrev asked : List (Request × Reply)
  asked = ended.rs ++ puts_of brought

  -- what is left of a shard after such requests, and of each shard of the seat
  abbrev IsLeft : List (Request × Reply) → ℕ → Map → Type 0
  IsLeft rs shard map = IsMapLeft left shard (after map (of_shard shard rs)) stopped ended.left

  abbrev AreLeft : List (Request × Reply) → Type 0
  AreLeft rs = (shard : ℕ) (map : Map) → shard < shards → Contains v.roots shard → MapOf image shard map → IsLeft rs shard map

  -- where it was stopped in no value that came
  first_come : AreLeft asked → AreLeft (ended.rs ++ take (length brought) (puts_of came))
  first_come are = subst (λ xs. AreLeft (ended.rs ++ xs)) (sym (take_first came brought ended.later ended.came_are)) are

  as_before : v ≡ ended.before → AreLeft asked
  as_before same shard map small owned of =
      inl (to_left shard (after map (of_shard shard asked)) small
      ((subst (λ (w : View). GivesMap w shard (after map (of_shard shard asked))) (sym same)
      (ended.answered.gives shard map small (had shard owned) of)).each left mixed))

  -- over a request that may have been done: shards beside it, and its own
  module _ (request : Request) (may : MayAnswer request ended.before v) where
    beside : (shard : ℕ) (map : Map) → shard < shards → Contains v.roots shard → MapOf image shard map → shard_asked request ≢ shard
        → IsMapIn v left shard (after map (of_shard shard asked))
    beside shard map small owned of other =
        (other_gives image asked ended.before v request ended.seat ended.answered may shard map small (had shard owned)
        (λ e. other (sym e)) of).each left mixed

    either : (shard : ℕ) (map : Map) → shard < shards → Contains v.roots shard → MapOf image shard map → shard_asked request ≡ shard
        → IsMapIn v left shard (after map (of_shard shard asked)) ⊎ IsMapIn v left shard (after_one (after map (of_shard shard asked)) request done)
    either shard map small owned of same =
        let before = after map (of_shard shard asked) in
        subst (λ n. IsMapIn v left n before ⊎ IsMapIn v left n (after_one before request done)) same
        ((may.either before (subst (λ n. GivesMap ended.before n before) (sym same)
        (ended.answered.gives shard map small (had shard owned) of))).each left mixed)

    -- stopped in the first request that is left
    in_first : (others : List Request) → ended.left ≡ request ∷ others → stopped ≡ true → AreLeft asked
    in_first others is stop shard map small owned of = elim (cases_eq (shard_asked request) shard) as (λ _. IsLeft asked shard map) [
      | inl same ↦ elim (either shard map small owned of same) as (λ _. IsLeft asked shard map) [
        | inl before ↦ inl (to_left shard (after map (of_shard shard asked)) small before)
        | inr behind ↦ inr (
          stop,
          record {
            request = request;
            others = others;
            first = is;
            to_shard = eq-eqb (shard_asked request) shard same;
            map_is = to_left shard (after_one (after map (of_shard shard asked)) request done) small behind;
          },
        )
      ]
      | inr other ↦ inl (to_left shard (after map (of_shard shard asked)) small (beside shard map small owned of other))
    ]

    -- the map of its own shard is one
    own_is : (rs : List (Request × Reply)) (first : Map) → MapOf image (shard_asked request) first
        → IsMapIn v left (shard_asked request) (after first (of_shard (shard_asked request) rs))
        → (shard : ℕ) → shard_asked request ≡ shard → (map : Map) → MapOf image shard map → IsMapIn v left shard (after map (of_shard shard rs))
    own_is rs first of_first has shard same =
        subst (λ n. (map : Map) → MapOf image n map → IsMapIn v left n (after map (of_shard n rs))) same
        (λ map of. subst (λ (m : Map). IsMapIn v left (shard_asked request) (after m (of_shard (shard_asked request) rs)))
        (fun_ext (λ key. one_map_of image (shard_asked request) first map of_first of key)) has)

    -- the request was not done, was done, or is one to a shard of another seat
    not_done : (first : Map) → MapOf image (shard_asked request) first
        → IsMapIn v left (shard_asked request) (after first (of_shard (shard_asked request) asked)) → AreLeft asked
    not_done first of_first has shard map small owned of = elim (cases_eq (shard_asked request) shard) as (λ _. IsLeft asked shard map) [
      | inl same ↦ inl (to_left shard (after map (of_shard shard asked)) small (own_is asked first of_first has shard same map of))
      | inr other ↦ inl (to_left shard (after map (of_shard shard asked)) small (beside shard map small owned of other))
    ]

    is_done : (first : Map) → MapOf image (shard_asked request) first
        → IsMapIn v left (shard_asked request) (after_one (after first (of_shard (shard_asked request) asked)) request done)
        → AreLeft (asked ++ ((request, done) ∷ []))
    is_done first of_first has shard map small owned of = elim (cases_eq (shard_asked request) shard) as
        (λ _. IsLeft (asked ++ ((request, done) ∷ [])) shard map) [
          | inl same ↦ inl (to_left shard (after map (of_shard shard (asked ++ ((request, done) ∷ [])))) small
              (own_is (asked ++ ((request, done) ∷ [])) first of_first
              (subst (λ (m : Map). IsMapIn v left (shard_asked request) m)
              (sym (one_more (shard_asked request) first asked (request, done) refl)) has) shard same map of))
          | inr other ↦ subst (λ xs. IsMapLeft left shard (after map xs) stopped ended.left) (sym (push_other shard asked (request, done) other))
              (inl (to_left shard (after map (of_shard shard asked)) small (beside shard map small owned of other)))
        ]

    not_asked : (Contains v.roots (shard_asked request) → ⊥) → AreLeft asked
    not_asked not_own shard map small owned of =
        inl (to_left shard (after map (of_shard shard asked)) small (beside shard map small owned of
        (λ e. not_own (subst (Contains v.roots) (sym e) owned))))

  abbrev Come : ℕ → Type 0
  Come = HaveCome image left ended.rs ended.left came stopped v

  -- stopped in the first value that is left: it has arrived where the image has the map after it
  module _ (next : Sent) (others : List Sent) (later_is : ended.later ≡ next ∷ others) (none_left : ended.left ≡ []) (stop : stopped ≡ true)
      (may : MayAnswer (put next.key next.value) ended.before v) where
    came_before : AreLeft asked → Come (length brought)
    came_before are = record {
      every = λ going. not_both stopped stop going;
      none = λ some. absurd (some none_left);
      each = first_come are;
    }

    came_behind : AreLeft (asked ++ (put_of next ∷ [])) → Come (length brought + 1)
    came_behind are = record {
      every = λ going. not_both stopped stop going;
      none = λ some. absurd (some none_left);
      each = subst AreLeft (append_assoc ended.rs (puts_of brought) (put_of next ∷ [])
          ∙ ap (λ xs. ended.rs ++ xs) (sym (take_next came brought others next (ended.came_are ∙ ap (λ xs. brought ++ xs) later_is)))) are;
    }

    have_come_by : (n : ℕ) × Come n
    have_come_by =
        let request = put next.key next.value in
        let small = small_shard request in
        let first = maps.each (shard_asked request) small in
        elim (owns (shard_asked request) small) as (λ _. (n : ℕ) × Come n) [
          | inl owned ↦ elim (either request may (shard_asked request) first.0 small owned first.1 refl) as (λ _. (n : ℕ) × Come n) [
            | inl before ↦ (length brought, came_before (not_done request may first.0 first.1 before))
            | inr behind ↦ (length brought + 1, came_behind (is_done request may first.0 first.1 behind))
          ]
          | inr not_own ↦ (length brought, came_before (not_asked request may not_own))
        ]

  -- so, however it ended
  pub have_come : (n : ℕ) × Come n
  have_come = by_end ended.ends where
    by_end : EndsIn ended.left brought ended.later halted stops ended.before v → (n : ℕ) × Come n
    by_end (at_rest begun none_left none_later same) = (
      length brought,
      record {
        every = λ going. sym (ap length (ended.came_are ∙ ap (λ xs. brought ++ xs) none_later ∙ append-nil brought));
        none = λ some. absurd (some none_left);
        each = first_come (as_before same);
      },
    )
    by_end (not_begun halt none same) = (
      length brought,
      record { every = λ going. not_both stopped (halts halt) going; none = λ some. ap length none; each = first_come (as_before same) },
    )
    by_end (in_request begun stop none request others is may) = (
      length brought,
      record {
        every = λ going. not_both stopped (so stop) going;
        none = λ some. ap length none;
        each = first_come (in_first request may others is (so stop));
      },
    )
    by_end (in_arrival begun stop none_left next others is may) = have_come_by next others is none_left (so stop) may
