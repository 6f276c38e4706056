-- What a source gives, piece by piece.
use Rattle.std.proofs.Common.{◌≡◌, ◌≤◌, ◌+◌, ◌-◌, ℕ, List, [], ◌++◌, length, take, drop, Option, Some, None, Result, Ok, Err, IsErrAnd, IsErrOf, refl, sym, ◌∙◌, ap, arith, append_assoc, length-append}
use Rattle.std.proofs.lemmas.List.{take-append-drop, take_at, length-take-le}
use Rattle.std.proofs.Math.Seq.{drop-append-add}
use Rattle.tool_ports.specs.Left.{left_before, Gives, GivesAtMost, ReadsOn}

-- no bytes given
pub none_given : (left : Option (List ℕ)) → left ≡ left_before [] left
none_given None = refl
none_given (Some bytes) = refl

-- two pieces, one after the other
pub two_given : (a b : List ℕ) (now : Option (List ℕ)) → left_before a (left_before b now) ≡ left_before (a ++ b) now
two_given a b None = refl
two_given a b (Some rest) = ap (λ (l : List ℕ). Some l) (sym (append_assoc a b rest))

-- nothing was given yet, or will be
pub gives_none : (most : ℕ) (left : Option (List ℕ)) → GivesAtMost most left left
gives_none most left = record { count = 0; few = omega arith; gives = record { bytes = []; counted = refl; given = none_given left } }

-- one piece more behind the bytes read before
pub read_on : (before after : List ℕ) (first now next : Option (List ℕ)) → first ≡ left_before before now → ReadsOn now next before after
    → first ≡ left_before after next
read_on before after first now next so_far reads =
    so_far ∙ ap (λ (o : Option (List ℕ)). left_before before o) reads.given ∙ two_given before reads.bytes next
    ∙ ap (λ (l : List ℕ). left_before l next) (sym reads.appended)

-- so many bytes more, behind those read before
pub gives_after : (before : List ℕ) (most count : ℕ) (first now next : Option (List ℕ)) → length before ≤ most → count ≡ most - length before
    → first ≡ left_before before now → Gives count now next → Gives most first next
gives_after before most count first now next short is so_far gives = record {
  bytes = before ++ gives.bytes;
  counted = omega (arith, length-append before gives.bytes, gives.counted);
  given = so_far ∙ ap (λ (o : Option (List ℕ)). left_before before o) gives.given ∙ two_given before gives.bytes next;
}

-- the same, where so many bytes are the most
pub few_after : (before : List ℕ) (most : ℕ) (first now next : Option (List ℕ)) → length before ≤ most → first ≡ left_before before now
    → GivesAtMost (most - length before) now next → GivesAtMost most first next
few_after before most first now next short so_far few = record {
  count = length before + few.count;
  few = omega (arith, few.few);
  gives = record {
    bytes = before ++ few.gives.bytes;
    counted = omega (arith, length-append before few.gives.bytes, few.gives.counted);
    given = so_far ∙ ap (λ (o : Option (List ℕ)). left_before before o) few.gives.given ∙ two_given before few.gives.bytes next;
  };
}

-- all that was read so far
pub few_read : (before : List ℕ) (most : ℕ) (first now : Option (List ℕ)) → length before ≤ most → first ≡ left_before before now
    → GivesAtMost most first now
few_read before most first now short so_far = record {
  count = length before;
  few = short;
  gives = record { bytes = before; counted = refl; given = so_far };
}

-- the front of a buffer after a copy is what was copied
pub copied_front : (bytes buf copied : List ℕ) (at n : ℕ) → at ≤ length bytes → copied ≡ take n (drop at bytes) → n ≤ length (drop at bytes)
    → Some (drop at bytes) ≡ Some (take n (copied ++ drop n buf) ++ drop (at + n) bytes)
copied_front bytes buf copied at n within same fits =
    let long : length copied ≡ n = ap length same ∙ length-take-le n (drop at bytes) fits in
    let front : take n (copied ++ drop n buf) ≡ take n (drop at bytes) = take_at copied (drop n buf) n long ∙ same in
    let begins : length (take at bytes) ≡ at = length-take-le at bytes within in
    let behind : drop (at + n) bytes ≡ drop n (drop at bytes) =
    ap (λ (l : List ℕ). drop (at + n) l) (sym (take-append-drop at bytes))
    ∙ ap (λ (k : ℕ). drop (k + n) (take at bytes ++ drop at bytes)) (sym begins)
    ∙ drop-append-add (take at bytes) (drop at bytes) n in
    ap (λ (l : List ℕ). Some l) (sym (rw (front, behind) (take-append-drop n (drop at bytes))))

-- the fault that is handed on is the fault that was met
pub same_fault : {T U E : Type 0} (result : Result T E) (met wanted : E) → IsErrAnd result (λ (e : E). e ≡ met) → IsErrOf result wanted
    → IsErrOf {T = U} (Err met) wanted
same_fault (Ok x) met wanted same is = absurd same
same_fault (Err e) met wanted same is = cc
