-- The rooms that are made for a trace's gets fit what they may find.
use Rattle.std.proofs.Common.{◌≡◌, ◌≢◌, ℕ, zero, suc, ◌+◌, ◌<◌, ◌≤◌, ◌⊎◌, inl, inr, List, [], ◌∷◌, ◌++◌, length, get_or, take, cond, append-nil, Option, None, Some, Bool, true, false, Contains, refl, subst, sym, ap, ◌∙◌, arith}
use Rattle.std.specs.Prelude.{nat_eq, max}
use Rattle.std.specs.Option.{unwrap_or}
use Rattle.std.specs.BTreeMap.{BTreeMap, get}
use Rattle.std.specs.Ordering.{nat_cmp}
use Rattle.std.proofs.Math.Seq.{take-suc}
use Rattle.std.proofs.lemmas.Bool.{cases_eq, cases_lt, cond-true, cond-false, ne_eqb, eq-eqb}
use Rattle.std.proofs.lemmas.List.{map-append, length-take}
use Rattle.std.proofs.lemmas.List.Elements.{Contains-append_cases, Contains-append_left, Contains-append_right, filter-append}
use Rattle.std.proofs.lemmas.Option.{get_or_from_slice_get}
use Rattle.std.proofs.Math.Nat.{mod-lt}
use Rattle.std.specs.Prelude.{◌/◌}
use Rattle.heap_model.specs.declared.block.Block.{Block}
use Rattle.heap_model.specs.Image.{Image, words_from, bytes_of_words}
use Rattle.heap_model.proofs.MemberLemmas.{in_none, in_head, in_rest, head_or_rest}
use Rattle.dict_model.specs.Links.{shards}
use Rattle.dict_model.specs.Nodes.{largest_value, shard_of, bucket_of, key_in, length_in, value_in, value_words, find}
use Rattle.dict_model.specs.Shards.{Map, Leading, LeadsAlone, IsPath, but, IsMap, is_empty, has_table, MapOf}
use Rattle.dict_model.proofs.ShardLemmas.{find_first, find_behind, one_map_of}
use Rattle.dictionary.specs.Reading.{AreMaps}
use Rattle.dict_model.specs.Requests.{Request, put}
use Rattle.trace_text.specs.declared.request.Request.TheVariants.{Put, Get, Del, Move}
use Rattle.run_model.specs.Spending.{IsPut}
use Rattle.run_model.specs.Workers.{is_of_worker, worker_requests}
use Rattle.run_model.specs.Working.{IsLengthFor, of_none, of_image, of_trace, IsRoomFor, HasRoom, HaveRoom}
use Rattle.worker_run.specs.Rooms.{length_at, length_of, length_in as length_in_map, IsPutLength, Raises, AreLongest}
use Rattle.worker_run.specs.Said.{Line, request_of, requests_of}

-- what is in a list with one more
more_or_last : {X : Type 0} (xs : List X) (x y : X) → Contains (xs ++ (x ∷ [])) y → Contains xs y ⊎ (x ≡ y)
more_or_last xs x y h = elim (Contains-append_cases xs (x ∷ []) y h) as (λ _. Contains xs y ⊎ (x ≡ y)) [
  | inl among ↦ inl among
  | inr rest ↦ elim (head_or_rest x y [] rest) as (λ _. Contains xs y ⊎ (x ≡ y)) [ inl same ↦ inr same | inr none ↦ absurd (in_none y none) ]
]

-- a put's length is one among more requests
put_length_more : (qs rest : List Request) (key n : ℕ) → IsPutLength qs key n → IsPutLength (qs ++ rest) key n
put_length_more qs rest key n (inl none) = inl none
put_length_more qs rest key n (inr one) = inr (one.0, Contains-append_left qs rest (put key one.0) one.1, one.2)

module _ (qs : List Request) (old new : BTreeMap ℕ ℕ) (key : ℕ) (value : List ℕ) (are : AreLongest qs old)
    (short : length value ≤ largest_value) (raises : Raises key (length value) old new) where
  at_key : length_at new key ≡ max (length value) (length_at old key)
  at_key = ap (λ o. unwrap_or o 0)
      (raises.has key ∙ cond-true (nat_eq key key) (Some (max (length value) (length_at old key))) (get nat_cmp old key) (eq-eqb key key refl))

  at_other : (q : ℕ) → key ≢ q → length_at new q ≡ length_at old q
  at_other q other = ap (λ o. unwrap_or o 0)
      (raises.has q ∙ cond-false (nat_eq key q) (Some (max (length value) (length_at old key))) (get nat_cmp old q) (ne_eqb key q other))

  no_less : (q : ℕ) → length_at old q ≤ length_at new q
  no_less q = elim (cases_eq key q) as (λ _. length_at old q ≤ length_at new q) [
    | inl same ↦ subst (λ k. length_at old k ≤ length_at new k) same (let at = at_key in omega arith)
    | inr other ↦ let at = at_other q other in omega arith
  ]

  -- the length at a key is that of a value that was put there
  longest_put : (q : ℕ) → IsPutLength (qs ++ (put key value ∷ [])) q (length_at new q)
  longest_put q = elim (cases_eq key q) as (λ _. IsPutLength (qs ++ (put key value ∷ [])) q (length_at new q)) [
    | inl same ↦ elim (cases_lt (length value) (length_at old q)) as (λ _. IsPutLength (qs ++ (put key value ∷ [])) q (length_at new q)) [
      | inl less ↦ from_before (subst (λ k. length_at new k ≡ length_at old k) same (let at = at_key in
          let more : length value < length_at old key = subst (λ k. length value < length_at old k) (sym same) less in omega arith))
      | inr least ↦ inr (
        value,
        subst (λ k. Contains (qs ++ (put key value ∷ [])) (put k value)) same
            (Contains-append_right qs (put key value ∷ []) (put key value) (in_head (put key value) [])),
        subst (λ k. length_at new k ≡ length value) same (let at = at_key in
            let most : length_at old key ≤ length value = subst (λ k. length_at old k ≤ length value) (sym same) least in omega arith),
      )
    ]
    | inr other ↦ from_before (at_other q other)
  ] where
    from_before : length_at new q ≡ length_at old q → IsPutLength (qs ++ (put key value ∷ [])) q (length_at new q)
    from_before same = subst (IsPutLength (qs ++ (put key value ∷ [])) q) (sym same)
        (put_length_more qs (put key value ∷ []) q (length_at old q) (are.needed q))

  -- one put more
  pub longest_next : AreLongest (qs ++ (put key value ∷ [])) new
  longest_next = record {
    holds = λ k v h. elim (more_or_last qs (put key value) (put k v) h) as (λ _. length v ≤ length_at new k) [
      | inl among ↦ let fits = are.holds k v among in let more = no_less k in omega arith
      | inr last ↦
          let same_key : key ≡ k = cc in
          let same_value : value ≡ v = cc in
          subst (λ n. length v ≤ length_at new n) same_key (subst (λ xs. length xs ≤ length_at new key) same_value (let at = at_key in omega arith))
    ];
    short = λ q. elim (cases_eq key q) as (λ _. length_at new q ≤ largest_value) [
      | inl same ↦ subst (λ k. length_at new k ≤ largest_value) same (let at = at_key in let before = are.short key in omega arith)
      | inr other ↦ let at = at_other q other in let before = are.short q in omega arith
    ];
    needed = longest_put;
  }

-- another request
pub longest_same : (qs : List Request) (q : Request) (longest : BTreeMap ℕ ℕ) → AreLongest qs longest → (IsPut q → ⊥)
    → AreLongest (qs ++ (q ∷ [])) longest
longest_same qs q longest are not = record {
  holds = λ k v h. elim (more_or_last qs q (put k v) h) as (λ _. length v ≤ length_at longest k) [
    | inl among ↦ are.holds k v among
    | inr last ↦ absurd (not (subst IsPut (sym last) tt))
  ];
  short = are.short;
  needed = λ k. put_length_more qs (q ∷ []) k (length_at longest k) (are.needed k);
}

-- one room more
pub rooms_push : (image : Image) (requests qs : List Request) (q : Request) (rooms : List (List ℕ)) (room : List ℕ)
    → HaveRoom image requests qs rooms → length rooms ≡ length qs
    → HasRoom image requests q (length room) → HaveRoom image requests (qs ++ (q ∷ [])) (rooms ++ (room ∷ []))
rooms_push image requests [] q [] room have long has = (has, refl)
rooms_push image requests [] q (r ∷ rooms) room have long has = absurd (omega arith)
rooms_push image requests (x ∷ qs) q [] room have long has = absurd have
rooms_push image requests (x ∷ qs) q (r ∷ rooms) room have long has = (have.0, rooms_push image requests qs q rooms room have.1 (omega arith) has)

-- the requests up to one, and that one
pub requests_next : (lines : List Line) (i : ℕ) (line : Line) → i < length lines → line ≡ get_or lines i line
    → requests_of (take (i + 1) lines) ≡ requests_of (take i lines) ++ (request_of line ∷ [])
requests_next lines i line below is =
    let next : i + 1 ≡ suc i = omega arith in
    ap (λ n. requests_of (take n lines)) next ∙ ap requests_of (take-suc lines i line below ∙ ap (λ l. take i lines ++ (l ∷ [])) (sym is))
    ∙ map-append request_of (take i lines) (line ∷ [])

pub request_among : (lines : List Line) (i : ℕ) (line : Line) → i < length lines → line ≡ get_or lines i line
    → Contains (requests_of lines) (request_of line)
request_among [] i line below is = absurd (omega arith)
request_among (l ∷ ls) zero line below is = subst (λ x. Contains (requests_of (l ∷ ls)) (request_of x)) (sym is)
    (in_head (request_of l) (requests_of ls))
request_among (l ∷ ls) (suc i) line below is = in_rest (request_of l) (request_of line) (requests_of ls) (request_among ls i line (omega arith) is)

pub not_put : (line : Line) → ((key : ℕ) (value : List ℕ) → line ≡ Put key value → ⊥) → IsPut (request_of line) → ⊥
not_put (Put key value) not is = not key value refl
not_put (Get key) not is = is
not_put (Del key) not is = is
not_put (Move key to) not is = is

-- a value that a shard's map has is one that a node holds
value_short : (image : Image) (key : ℕ) (leads : Leading) (shard bucket at : ℕ) (bs : List Block) (value : List ℕ)
    → IsPath leads image shard bucket at bs → find image key bs ≡ Some value → length value ≤ largest_value
value_short image key leads shard bucket at [] value path is = absurd (cc)
value_short image key leads shard bucket at (b ∷ bs) value path is = elim (cases_eq (key_in image b) key) as (λ _. length value ≤ largest_value) [
  | inl same ↦
      let e : Some (value_in image b) ≡ Some value = sym (find_first image key b bs same) ∙ is in
      let one : value_in image b ≡ value = cc in
      let short = path.1.short in
      let words = bytes_of_words (words_from image (b.first_word + 3) (value_words (length_in image b))) in
      subst (λ xs. length xs ≤ largest_value) one (let taken = length-take (length_in image b) words in omega arith)
  | inr other ↦ value_short image key leads shard bucket b.first_word bs value path.3 (sym (find_behind image key b bs other) ∙ is)
]

-- and the key is one of the shard
record IsValue (shard key : ℕ) (value : List ℕ) : Type 0 where
  pub in_shard : shard_of key ≡ shard
  pub short : length value ≤ largest_value

map_value : (leads : Leading) (image : Image) (shard : ℕ) (m : Map) (key : ℕ) (value : List ℕ) → IsMap leads image shard m → m key ≡ Some value
    → IsValue shard key value
map_value leads image shard m key value (is_empty null none) is = let e : None ≡ Some value = sym (none key) ∙ is in absurd (cc)
map_value leads image shard m key value (has_table table nodes there chains means) is =
    elim (cases_eq (shard_of key) shard) as (λ _. IsValue shard key value) [
      | inl same ↦ record {
        in_shard = same;
        short = value_short image key (but table leads) shard (bucket_of key) (table.first_word + bucket_of key) (nodes (bucket_of key)) value
            (chains (bucket_of key) (mod-lt (key / 8) (omega arith))).path
            (sym (cond-true (nat_eq (shard_of key) shard) (find image key (nodes (bucket_of key))) None (eq-eqb (shard_of key) shard same))
            ∙ sym (means key) ∙ is);
      }
      | inr other ↦
          let e : None ≡ Some value = sym (cond-false (nat_eq (shard_of key) shard) (find image key (nodes (bucket_of key))) None
          (ne_eqb (shard_of key) shard other)) ∙ sym (means key) ∙ is in
          absurd (cc)
    ]

-- the room for a get, from the shard's map and what the trace puts
module _ (image : Image) (requests : List Request) (maps : List (BTreeMap ℕ (List ℕ))) (longest : BTreeMap ℕ ℕ)
    (have : AreMaps image shards maps) (are : AreLongest requests longest) where
  pub get_room : (key room : ℕ) (m : BTreeMap ℕ (List ℕ)) → m ≡ get_or maps (shard_of key) m
      → room ≡ max (length_in_map m key) (length_at longest key) → IsRoomFor image requests key room
  get_room key room m is long =
      let there = have.each (shard_of key) (mod-lt key (omega arith)) in
      let same : there.0 ≡ m = sym (is ∙ get_or_from_slice_get maps (shard_of key) there.0 m there.1) in
      let is_map : MapOf image (shard_of key) (get nat_cmp m) = subst
      (λ (x : BTreeMap ℕ (List ℕ)). MapOf image (shard_of key) (get nat_cmp x)) same there.2 in
      record {
        short = let puts = are.short key in let opened = opened_short (get nat_cmp m key) refl is_map in omega arith;
        enough = fits is_map;
        needed = elim (cases_lt (length_in_map m key) (length_at longest key)) as (λ _. IsLengthFor image requests key room) [
          | inl less ↦ elim (are.needed key) as (λ _. IsLengthFor image requests key room) [
            | inl none ↦ absurd (omega arith)
            | inr one ↦ let same_length : length one.0 ≡ room = let is = one.2 in omega arith in
                subst (IsLengthFor image requests key) same_length (of_trace one.0 one.1)
          ]
          | inr least ↦ let same_length : length_in_map m key ≡ room = omega arith in
              subst (IsLengthFor image requests key) same_length (opened_length (get nat_cmp m key) refl is_map)
        ];
      } where
        fits : MapOf image (shard_of key) (get nat_cmp m) → (n : ℕ) → IsLengthFor image requests key n → n ≤ room
        fits is_map _ of_none = omega arith
        fits is_map _ (of_image shard other value small is_other found) =
            let is_value = map_value (LeadsAlone image shard) image shard other key value is_other.is_map found in
            let here : MapOf image (shard_of key) other = subst (λ n. MapOf image n other) (sym is_value.in_shard) is_other in
            let one : get nat_cmp m key ≡ Some value = one_map_of image (shard_of key) (get nat_cmp m) other is_map here key ∙ found in
            let known : length_in_map m key ≡ length value = ap length_of one in
            omega arith
        fits is_map _ (of_trace value among) = let puts = are.holds key value among in omega arith

        opened_length : (o : Option (List ℕ)) → get nat_cmp m key ≡ o → MapOf image (shard_of key) (get nat_cmp m)
            → IsLengthFor image requests key (length_of (get nat_cmp m key))
        opened_length None is is_map = subst (λ o. IsLengthFor image requests key (length_of o)) (sym is) of_none
        opened_length (Some value) is is_map =
            subst (λ o. IsLengthFor image requests key (length_of o)) (sym is)
            (of_image (shard_of key) (get nat_cmp m) value (mod-lt key (omega arith)) is_map is)

        opened_short : (o : Option (List ℕ)) → get nat_cmp m key ≡ o → MapOf image (shard_of key) (get nat_cmp m)
            → length_of (get nat_cmp m key) ≤ largest_value
        opened_short None is is_map = let none : length_of (get nat_cmp m key) ≡ 0 = ap length_of is in omega arith
        opened_short (Some value) is is_map =
            let short = (map_value (LeadsAlone image (shard_of key)) image (shard_of key) (get nat_cmp m) key value is_map.is_map is).short in
            let known : length_of (get nat_cmp m key) ≡ length value = ap length_of is in
            omega arith

-- a worker's requests up to one, and that one where it is the worker's
module _ (workers worker : ℕ) (lines : List Line) (i : ℕ) (line : Line) (has : Bool) (below : i < length lines) (is : line ≡ get_or lines i line)
    (tells : has ≡ is_of_worker workers worker (request_of line)) where
  mine_more : worker_requests workers worker (requests_of (take (i + 1) lines))
      ≡ worker_requests workers worker (requests_of (take i lines)) ++ cond (is_of_worker workers worker (request_of line)) (request_of line ∷ []) []
  mine_more = ap (worker_requests workers worker) (requests_next lines i line below is)
      ∙ filter-append (is_of_worker workers worker) (requests_of (take i lines)) (request_of line ∷ [])

  pub mine_taken : has ≡ true
      → worker_requests workers worker (requests_of (take (i + 1) lines)) ≡ worker_requests workers worker (requests_of (take i lines)) ++
      (request_of line ∷ [])
  mine_taken given = mine_more ∙ ap (λ qs. worker_requests workers worker (requests_of (take i lines)) ++ qs)
      (cond-true (is_of_worker workers worker (request_of line)) (request_of line ∷ []) [] (sym tells ∙ given))

  pub mine_left : has ≡ false → worker_requests workers worker (requests_of (take (i + 1) lines)) ≡ worker_requests workers worker
      (requests_of (take i lines))
  mine_left denied = mine_more ∙ ap (λ qs. worker_requests workers worker (requests_of (take i lines)) ++ qs)
      (cond-false (is_of_worker workers worker (request_of line)) (request_of line ∷ []) [] (sym tells ∙ denied)) ∙ append-nil _
