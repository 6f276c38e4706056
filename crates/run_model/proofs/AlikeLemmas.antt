-- The replies of one map to a trace are determined, where none is for want of room.
use Rattle.std.proofs.Common.{◌≡◌, ◌≢◌, ℕ, List, [], ◌∷◌, ◌++◌, map, None, Some, Contains, refl, subst, sym, ap, ◌∙◌}
use Rattle.heap_model.specs.Image.{Image}
use Rattle.heap_model.proofs.MemberLemmas.{in_head, in_rest}
use Rattle.dict_model.specs.Requests.{Request, Reply, full, after, after_one, AreReplies, IsReply, put_done, put_full, get_found, get_none, del_done, del_none, move_done, move_full, move_none}
use Rattle.dict_model.specs.Shards.{Map}
use Rattle.run_model.specs.Arrivals.{IsWholeMap, arrivals}
use Rattle.run_model.specs.OneMap.{NoneIsFull, IsAsOneThread}
use Rattle.run_model.specs.Runs.{answered}
use Rattle.run_model.specs.Workers.{Replies}
use Rattle.run_model.proofs.OneMapLemmas.{one_whole}

-- a key is not both there and missing
not_both : (whole : Map) (key : ℕ) (value : List ℕ) → whole key ≡ Some value → whole key ≡ None → ⊥
not_both whole key value there not = let e : Some value ≡ None = sym there ∙ not in absurd (cc)

one_reply : (whole : Map) (q : Request) (a b : Reply) → IsReply whole q a → IsReply whole q b → a ≢ full → b ≢ full → b ≡ a
one_reply whole _ _ _ (put_done key value) (put_done _ _) some also = refl
one_reply whole _ _ _ (put_done key value) (put_full _ _) some also = absurd (also refl)
one_reply whole _ _ _ (put_full key value) is some also = absurd (some refl)
one_reply whole _ _ _ (get_found key value is) (get_found _ v other) some also = let e : Some v ≡ Some value = sym other ∙ is in cc
one_reply whole _ _ _ (get_found key value is) (get_none _ not) some also = absurd (not_both whole key value is not)
one_reply whole _ _ _ (get_none key not) (get_found _ v is) some also = absurd (not_both whole key v is not)
one_reply whole _ _ _ (get_none key not) (get_none _ _) some also = refl
one_reply whole _ _ _ (del_done key value is) (del_done _ v other) some also = refl
one_reply whole _ _ _ (del_done key value is) (del_none _ not) some also = absurd (not_both whole key value is not)
one_reply whole _ _ _ (del_none key not) (del_done _ v is) some also = absurd (not_both whole key v is not)
one_reply whole _ _ _ (del_none key not) (del_none _ _) some also = refl
one_reply whole _ _ _ (move_done key to value is) (move_done _ _ v other) some also = refl
one_reply whole _ _ _ (move_done key to value is) (move_full _ _ v other) some also = absurd (also refl)
one_reply whole _ _ _ (move_done key to value is) (move_none _ _ not) some also = absurd (not_both whole key value is not)
one_reply whole _ _ _ (move_full key to value there) is some also = absurd (some refl)
one_reply whole _ _ _ (move_none key to not) (move_done _ _ v is) some also = absurd (not_both whole key v is not)
one_reply whole _ _ _ (move_none key to not) (move_full _ _ v is) some also = absurd (also refl)
one_reply whole _ _ _ (move_none key to not) (move_none _ _ _) some also = refl

same_pair : (r s : Request × Reply) → s.0 ≡ r.0 → s.1 ≡ r.1 → s ≡ r
same_pair r s first second = ap (λ q. (q, s.1)) first ∙ ap (λ a. (r.0, a)) second

-- the replies alone
abbrev told : List (Request × Reply) → Replies
told rs = map (λ r. Some r.1) rs

one_answer : (whole : Map) (rs ss : List (Request × Reply)) → map (λ r. r.0) rs ≡ map (λ r. r.0) ss → AreReplies whole rs → AreReplies whole ss
    → NoneIsFull (told rs) → NoneIsFull (told ss) → ss ≡ rs
one_answer whole [] [] same right also some too = refl
one_answer whole [] (s ∷ ss) same right also some too = absurd (cc)
one_answer whole (r ∷ rs) [] same right also some too = absurd (cc)
one_answer whole (r ∷ rs) (s ∷ ss) same right also some too =
    let first : s.0 ≡ r.0 = cc in
    let later : map (λ r. r.0) rs ≡ map (λ r. r.0) ss = cc in
    let reply : s.1 ≡ r.1 = one_reply whole r.0 r.1 s.1 right.0 (subst (λ q. IsReply whole q s.1) first also.0)
    (λ e. some (subst (λ a. Contains (told (r ∷ rs)) (Some a)) e (in_head (Some r.1) (told rs))))
    (λ e. too (subst (λ a. Contains (told (s ∷ ss)) (Some a)) e (in_head (Some s.1) (told ss)))) in
    let both : s ≡ r = same_pair r s first reply in
    let rest = one_answer (after_one whole r.0 r.1) rs ss later right.1
    (subst (λ (x : Request × Reply). AreReplies (after_one whole x.0 x.1) ss) both also.1)
    (λ h. some (in_rest (Some r.1) (Some full) (told rs) h)) (λ h. too (in_rest (Some s.1) (Some full) (told ss) h)) in
    ap (λ x. x ∷ ss) both ∙ ap (λ xs. r ∷ xs) rest

module _ (image left other : Image) (requests : List Request) (a b : Replies) (one : IsAsOneThread image requests a left)
    (two : IsAsOneThread image requests b other) where
  same_whole : two.whole ≡ one.whole
  same_whole = λ i key. one_whole image two.whole one.whole two.begins one.begins key i

  same_answers : answered requests b ≡ answered requests a
  same_answers = one_answer one.whole (answered requests a) (answered requests b) (sym one.requests_are ∙ two.requests_are) one.right
      (subst (λ m. AreReplies m (answered requests b)) same_whole two.right) (subst NoneIsFull one.replies_are one.none_full)
      (subst NoneIsFull two.replies_are two.none_full)

  pub same_replies : b ≡ a
  same_replies = two.replies_are ∙ ap told same_answers ∙ sym one.replies_are

  -- so the maps that are left are one
  pub same_left : (whole : Map) → IsWholeMap left whole → IsWholeMap other whole
  same_left whole is = record {
    each = λ key.
        let at = two.leaves.each key in
        let all = λ (m : Map) (rs : List (Request × Reply)). after m (rs ++ arrivals m rs) in
        let then : all two.whole (answered requests b) key ≡ all one.whole (answered requests a) key =
        ap (λ (m : Map). all m (answered requests b) key) same_whole ∙ ap (λ rs. all one.whole rs key) same_answers in
        (at.0, at.1, at.2 ∙ then ∙ one_whole left (all one.whole (answered requests a)) whole one.leaves is key);
  }
