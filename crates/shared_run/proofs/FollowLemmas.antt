-- Maps that follow requests and their replies one by one are those after all of them, and what moves took out on the
-- way is what arrives by them. Where these are the answered requests of a run that wasn't stopped, they are the maps of
-- the image that is left.
use Rattle.std.proofs.Common.{◌≡◌, ℕ, zero, suc, ◌+◌, ◌<◌, take, inl, inr, Bool, true, false, List, [], ◌∷◌, ◌++◌, length, get_or, cond, Option, None, Some, append_assoc, refl, subst, sym, ap, ◌∙◌, arith}
use Rattle.std.specs.Prelude.{◌↔◌, IfSome, IsSome}
use Rattle.std.specs.BTreeMap.{BTreeMap, get, IsOrdered}
use Rattle.std.specs.Ordering.{nat_cmp}
use Rattle.std.proofs.Math.Nat.{mod-lt}
use Rattle.std.proofs.Math.Seq.{take-length, take-suc}
use Rattle.std.proofs.lemmas.Bool.{eq-eqb}
use Rattle.std.proofs.lemmas.List.{length-map, map-append}
use Rattle.std.proofs.lemmas.List.Elements.{filter-append}
use Rattle.std.proofs.lemmas.Option.{get_or_from_slice_get, slice_get-get_or}
use Rattle.heap_model.specs.Image.{Image}
use Rattle.dict_model.specs.Links.{shards}
use Rattle.dict_model.specs.Nodes.{shard_of}
use Rattle.dict_model.specs.Requests.{Request, put, Reply, done, after, after_one}
use Rattle.dict_model.specs.Shards.{Map, Leading, IsMap, is_empty, has_table, MapOf}
use Rattle.dict_model.proofs.ShardLemmas.{one_map_of}
use Rattle.dictionary.specs.Reading.{AreMaps}
use Rattle.run_model.specs.Arrivals.{IsWholeMap, arrival, arrivals, worker_arrivals}
use Rattle.run_model.specs.Needs.{is_to}
use Rattle.run_model.specs.Opened.{HasMaps}
use Rattle.run_model.specs.Runs.{answered, of_shard, LeavesMaps}
use Rattle.run_model.specs.Workers.{Replies, shard_asked, worker_of}
use Rattle.run_model.proofs.OneMapLemmas.{arrives_there, one_alike, one_beside, whole_map}
use Rattle.worker_run.specs.Said.{Line, Told, request_of, requests_of, reply_of, replies_of}
use Rattle.worker_run.proofs.RoomLemmas.{requests_next}
use Rattle.shared_run.specs.Following.{AreAfter, AreAfterRun, AreMapsOf, puts_under}

-- requests make the same of two maps that are the same
all_same : (f g : Map) → ((k : ℕ) → f k ≡ g k) → (rs : List (Request × Reply)) (k : ℕ) → after f rs k ≡ after g rs k
all_same f g same [] k = same k
all_same f g same (r ∷ rs) k = all_same (after_one f r.0 r.1) (after_one g r.0 r.1) (λ key. one_alike f g r.0 r.1 key (same key)) rs k

after_both : (f : Map) (xs ys : List (Request × Reply)) → after f (xs ++ ys) ≡ after (after f xs) ys
after_both f [] ys = refl
after_both f (x ∷ xs) ys = after_both (after_one f x.0 x.1) xs ys

-- no request leaves the maps as they are
pub after_none : (maps : List (BTreeMap ℕ (List ℕ))) → AreAfter [] maps maps
after_none maps = record { long = refl; each = λ shard key any below. refl; ordered = λ shard any below is. is }

-- and requests upon requests follow both
pub after_more : (xs ys : List (Request × Reply)) (first next last : List (BTreeMap ℕ (List ℕ))) → AreAfter xs first next
    → AreAfter ys next last → AreAfter (xs ++ ys) first last
after_more xs ys first next last a b = record {
  long = b.long ∙ a.long;
  each = λ shard key any below.
      let inside : shard < length next = let l = a.long in omega (arith, below, l) in
      b.each shard key any inside
      ∙ all_same (get nat_cmp (get_or next shard any)) (after (get nat_cmp (get_or first shard any)) (of_shard shard xs))
      (λ k. a.each shard k any below) (of_shard shard ys) key
      ∙ ap (λ (m : Map). m key) (sym (ap (λ rs. after (get nat_cmp (get_or first shard any)) rs) (filter-append (λ r. is_to shard r.0) xs ys)
      ∙ after_both (get nat_cmp (get_or first shard any)) (of_shard shard xs) (of_shard shard ys)));
  ordered = λ shard any below is. b.ordered shard any (let l = a.long in omega (arith, below, l)) (a.ordered shard any below is);
}

-- the answered among some requests, and one more
pub answered_more : (qs : List Request) (rs : Replies) (q : Request) (r : Option Reply) → length rs ≡ length qs
    → answered (qs ++ (q ∷ [])) (rs ++ (r ∷ [])) ≡ answered qs rs ++ answered (q ∷ []) (r ∷ [])
answered_more [] [] q r long = refl
answered_more [] (s ∷ rs) q r long = absurd (omega (arith, long))
answered_more (p ∷ qs) [] q r long = absurd (omega (arith, long))
answered_more (p ∷ qs) (None ∷ rs) q r long = answered_more qs rs q r (omega (arith, long))
answered_more (p ∷ qs) (Some s ∷ rs) q r long = ap (λ xs. (p, s) ∷ xs) (answered_more qs rs q r (omega (arith, long)))

-- a shard is a map that is the same at each key
map_same : (leads : Leading) (image : Image) (shard : ℕ) (a b : Map) → ((key : ℕ) → b key ≡ a key) → IsMap leads image shard a
    → IsMap leads image shard b
map_same leads image shard a b same (is_empty null none_there) = is_empty null (λ key. same key ∙ none_there key)
map_same leads image shard a b same (has_table table nodes there chains means) = has_table table nodes there chains (λ key. same key ∙ means key)

-- what a key has after the requests to its shard, it has after all of them
at_key : (part whole : Map) (rs : List (Request × Reply)) (key : ℕ) → part key ≡ whole key
    → after part (of_shard (shard_of key) rs) key ≡ after whole rs key
at_key part whole [] key same = same
at_key part whole (r ∷ rs) key same = by_case (is_to (shard_of key) r.0) refl (λ p now. at_key p (after_one whole r.0 r.1) rs key now) where
  by_case : (b : Bool) → is_to (shard_of key) r.0 ≡ b
      → ((p : Map) → p key ≡ after_one whole r.0 r.1 key → after p (of_shard (shard_of key) rs) key ≡ after (after_one whole r.0 r.1) rs key)
      → after part (cond b (r ∷ of_shard (shard_of key) rs) (of_shard (shard_of key) rs)) key ≡ after (after_one whole r.0 r.1) rs key
  by_case true to later = later (after_one part r.0 r.1) (one_alike part whole r.0 r.1 key same)
  by_case false to later = later part
      (same ∙ sym (one_beside whole r.0 r.1 key (λ e. let no : true ≡ false = sym (eq-eqb (shard_asked r.0) (shard_of key) (ap shard_of e))
      ∙ to in absurd (cc))))

-- maps of a whole, after some requests, are those of the whole after these
maps_of_after : (whole : Map) (rs : List (Request × Reply)) (old new : List (BTreeMap ℕ (List ℕ))) → length old ≡ shards → AreMapsOf whole old
    → AreAfter rs old new
    → AreMapsOf (after whole rs) new
maps_of_after whole rs old new long are follows = record {
  each = λ key any.
      let below : shard_of key < shards = mod-lt key (omega arith) in
      follows.each (shard_of key) key any (omega (arith, below, long))
      ∙ at_key (get nat_cmp (get_or old (shard_of key) any)) whole rs key (are.each key any);
}

-- what arrives by requests upon requests
arrivals_both : (whole : Map) (xs ys : List (Request × Reply)) → arrivals whole (xs ++ ys) ≡ arrivals whole xs ++ arrivals (after whole xs) ys
arrivals_both whole [] ys = refl
arrivals_both whole (x ∷ xs) ys =
    ap (λ zs. arrival whole x.0 x.1 ++ zs) (arrivals_both (after_one whole x.0 x.1) xs ys)
    ∙ sym (append_assoc (arrival whole x.0 x.1) (arrivals (after_one whole x.0 x.1) xs) (arrivals (after whole (x ∷ xs)) ys))

-- maps that have followed some requests, where these values were taken out by moves
pub record HaveFollowed (rs : List (Request × Reply)) (first now : List (BTreeMap ℕ (List ℕ))) (moved : List (ℕ × List ℕ)) : Type 0 where
  pub maps : AreAfter rs first now
  pub moved_are : (whole : Map) → AreMapsOf whole first → puts_under moved ≡ arrivals whole rs

followed_more : (xs ys : List (Request × Reply)) (first now next : List (BTreeMap ℕ (List ℕ))) (moved more : List (ℕ × List ℕ)) → length first ≡ shards
    → HaveFollowed xs first now moved → AreAfter ys now next → ((whole : Map) → AreMapsOf whole now
    → puts_under more ≡ puts_under moved ++ arrivals whole ys)
    → HaveFollowed (xs ++ ys) first next more
followed_more xs ys first now next moved more long was then taken = record {
  maps = after_more xs ys first now next was.maps then;
  moved_are = λ whole are.
      taken (after whole xs) (maps_of_after whole xs first now long are was.maps)
      ∙ ap (λ zs. zs ++ arrivals (after whole xs) ys) (was.moved_are whole are) ∙ sym (arrivals_both whole xs ys);
}

-- maps in which all of the values have arrived but those that are left
pub record HaveArrivedBut (all left : List (ℕ × List ℕ)) (first now : List (BTreeMap ℕ (List ℕ))) : Type 0 where
  pub long : length now ≡ length first
  pub rest : (last : List (BTreeMap ℕ (List ℕ))) → AreAfter (puts_under left) now last → AreAfter (puts_under all) first last

pub arrived_next : (all left rest : List (ℕ × List ℕ)) (key : ℕ) (value : List ℕ) (first now next : List (BTreeMap ℕ (List ℕ)))
    → left ≡ (key, value) ∷ rest
    → HaveArrivedBut all left first now → AreAfter ((put key value, done) ∷ []) now next → HaveArrivedBut all rest first next
arrived_next all left rest key value first now next is was one = record {
  long = one.long ∙ was.long;
  rest = λ last then. was.rest last
      (subst (λ moved. AreAfter (puts_under moved) now last) (sym is)
      (after_more ((put key value, done) ∷ []) (puts_under rest) now next last one then));
}

-- once the values have arrived, the maps are those after the run
pub followed_all : (rs : List (Request × Reply)) (first now last : List (BTreeMap ℕ (List ℕ))) (moved : List (ℕ × List ℕ))
    → HaveFollowed rs first now moved
    → AreAfter (puts_under moved) now last → AreAfterRun rs first last
followed_all rs first now last moved was then whole are =
    after_more rs (arrivals whole rs) first now last was.maps (subst (λ xs. AreAfter xs now last) (was.moved_are whole are) then)

-- maps that were read of an image are those of its whole map
maps_of_whole : (image : Image) (whole : Map) (maps : List (BTreeMap ℕ (List ℕ))) → IsWholeMap image whole → AreMaps image shards maps
    → AreMapsOf whole maps
maps_of_whole image whole maps is are = record {
  each = λ key any.
      let of = is.each key in
      let below : shard_of key < shards = mod-lt key (omega arith) in
      let here = are.each (shard_of key) below in
      ap (λ (m : BTreeMap ℕ (List ℕ)). get nat_cmp m key) (get_or_from_slice_get maps (shard_of key) here.0 any here.1)
      ∙ one_map_of image (shard_of key) (get nat_cmp here.0) of.0 here.2 of.1 key ∙ of.2;
}

-- what is left of a shard where a run wasn't stopped is its map after the requests and all that arrives
left_of_shard : (image left : Image) (workers : ℕ) (requests : List Request) (replies : Replies) (whole : Map) → IsWholeMap image whole
    → LeavesMaps image workers requests replies false left → (shard : ℕ) (map : Map) → shard < shards → MapOf image shard map
    → MapOf left shard (after map (of_shard shard (answered requests replies ++ arrivals whole (answered requests replies))))
left_of_shard image left workers requests replies whole is leaves shard map below map_is =
    let rs = answered requests replies in
    let mine = worker_arrivals workers (worker_of workers shard) whole rs in
    let some : take (leaves.arrived (worker_of workers shard)) mine ≡ mine =
    ap (λ n. take n mine) (leaves.have_arrived.all refl whole is shard below) ∙ take-length mine in
    let all : of_shard shard (rs ++ take (leaves.arrived (worker_of workers shard)) mine) ≡ of_shard shard (rs ++ arrivals whole rs) =
    ap (λ xs. of_shard shard (rs ++ xs)) some ∙ arrives_there workers shard rs (arrivals whole rs) in
    elim (leaves.each whole is shard map below map_is) as (λ _. MapOf left shard (after map (of_shard shard (rs ++ arrivals whole rs)))) [
      | inl there ↦ subst (λ xs. MapOf left shard (after map xs)) all there
      | inr stop ↦ absurd (let e : false ≡ true = stop.0 in cc)
    ]

-- where a run wasn't stopped, the maps that followed it are those of the image that is left
pub maps_left : (image left : Image) (workers : ℕ) (requests : List Request) (replies : Replies) (old new : List (BTreeMap ℕ (List ℕ))) → HasMaps image
    → LeavesMaps image workers requests replies false left → AreMaps image shards old → AreAfterRun (answered requests replies) old new
    → AreMaps left shards new
maps_left image left workers requests replies old new have leaves are follows =
    let of = whole_map image have in
    let rs = answered requests replies ++ arrivals of.0 (answered requests replies) in
    let then = follows of.0 (maps_of_whole image of.0 old of.1 are) in
    record {
      long = then.long ∙ are.long;
      each = λ i below.
          let was = are.each i below in
          let inside : i < length old = let l = are.long in omega (arith, below, l) in
          let there : i < length new = let l = then.long in omega (arith, inside, l) in
          let at : get_or old i was.0 ≡ was.0 = get_or_from_slice_get old i was.0 was.0 was.1 in
          let here = left_of_shard image left workers requests replies of.0 of.1 leaves i (get nat_cmp was.0) below was.2 in (
            get_or new i was.0,
            slice_get-get_or new i was.0 there,
            record {
              kind_is = here.kind_is;
              is_map = map_same _ left i (after (get nat_cmp was.0) (of_shard i rs)) (get nat_cmp (get_or new i was.0))
                  (λ key. subst (λ (m : BTreeMap ℕ (List ℕ)). get nat_cmp (get_or new i was.0) key ≡ after (get nat_cmp m) (of_shard i rs) key)
                  at (then.each i key was.0 inside)) here.is_map;
            },
            then.ordered i was.0 inside (subst (λ (m : BTreeMap ℕ (List ℕ)). IsOrdered nat_cmp m) (sym at) was.3),
          );
    }

-- the replies up to one, and that one
replies_next : (told : List Told) (i : ℕ) (reply : Told) → i < length told → reply ≡ get_or told i reply
    → replies_of (take (i + 1) told) ≡ replies_of (take i told) ++ (reply_of reply ∷ [])
replies_next told i reply below is =
    let next : i + 1 ≡ suc i = omega arith in
    ap (λ n. replies_of (take n told)) next ∙ ap replies_of (take-suc told i reply below ∙ ap (λ l. take i told ++ (l ∷ [])) (sym is))
    ∙ map-append reply_of (take i told) (reply ∷ [])

-- as many are taken of lists that are equally long
taken_alike : {X Y : Type 0} (n : ℕ) (xs : List X) (ys : List Y) → length xs ≡ length ys → length (take n xs) ≡ length (take n ys)
taken_alike zero xs ys long = refl
taken_alike (suc n) [] [] long = refl
taken_alike (suc n) [] (y ∷ ys) long = absurd (omega (arith, long))
taken_alike (suc n) (x ∷ xs) [] long = absurd (omega (arith, long))
taken_alike (suc n) (x ∷ xs) (y ∷ ys) long = ap suc (taken_alike n xs ys (omega (arith, long)))

-- one request of a trace more, with its reply
pub follow_next : (lines : List Line) (told : List Told) (i : ℕ) (line : Line) (reply : Told) → length told ≡ length lines → i < length lines
    → line ≡ get_or lines i line → reply ≡ get_or told i reply
    → (first now next : List (BTreeMap ℕ (List ℕ))) (moved more : List (ℕ × List ℕ)) → length first ≡ shards
    → HaveFollowed (answered (requests_of (take i lines)) (replies_of (take i told))) first now moved
    → AreAfter (answered (request_of line ∷ []) (reply_of reply ∷ [])) now next
    → ((whole : Map) → AreMapsOf whole now → puts_under more ≡ puts_under moved ++ arrivals whole
    (answered (request_of line ∷ []) (reply_of reply ∷ [])))
    → HaveFollowed (answered (requests_of (take (i + 1) lines)) (replies_of (take (i + 1) told))) first next more
follow_next lines told i line reply long below line_is reply_is first now next moved more count so_far one taken =
    let asked = length-map (take i lines) request_of in
    let heard = length-map (take i told) reply_of in
    subst (λ rs. HaveFollowed rs first next more)
    (sym (ap (λ qs. answered qs (replies_of (take (i + 1) told))) (requests_next lines i line below line_is)
    ∙ ap (λ rs. answered (requests_of (take i lines) ++ (request_of line ∷ [])) rs) (replies_next told i reply (omega arith) reply_is)
    ∙ answered_more (requests_of (take i lines)) (replies_of (take i told)) (request_of line) (reply_of reply) (heard
    ∙ taken_alike i told lines long ∙ sym asked)))
    (followed_more (answered (requests_of (take i lines)) (replies_of (take i told)))
    (answered (request_of line ∷ []) (reply_of reply ∷ [])) first now next moved more count so_far one taken)

-- what follows of a value that is there exactly where this is so
pub there_only : {X : Type 0} (found : Option X) (P Q : X → Type 0) (S : Type 0) → IsSome found ↔ S → IfSome found P → (S → (x : X) → P x → Q x)
    → IfSome found Q
there_only None P Q S known is next = tt
there_only (Some x) P Q S known is next = next (known.0 refl) x is
