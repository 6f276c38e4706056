-- A text of seven parts, written one after the other.
use Rattle.std.proofs.Common.{◌≡◌, ℕ, cond, List, ◌++◌, Result, Ok, Err, ap, ◌∙◌, append_assoc}
use Rattle.std.specs.Result.{OnOk, is_ok}

-- two texts behind a text, one after the other
appended : (start middle end a b : List ℕ) → middle ≡ start ++ a → end ≡ middle ++ b → end ≡ start ++ (a ++ b)
appended start middle end a b first second = second ∙ ap (λ (l : List ℕ). l ++ b) first ∙ append_assoc start a b

-- six texts one after the other, and a last one
pub seven_parts : (t0 t1 t2 t3 t4 t5 t6 p1 p2 p3 p4 p5 p6 : List ℕ) → t1 ≡ t0 ++ p1 → t2 ≡ t1 ++ p2 → t3 ≡ t2 ++ p3 → t4 ≡ t3 ++ p4
    → t5 ≡ t4 ++ p5 → t6 ≡ t5 ++ p6
    → {T E : Type 0} → (r : Result T E) (t7 p7 : List ℕ) → t7 ≡ cond (is_ok r) (t6 ++ p7) t6
    → OnOk r (t7 ≡ t0 ++ (p1 ++ p2 ++ p3 ++ p4 ++ p5 ++ p6 ++ p7))
seven_parts t0 t1 t2 t3 t4 t5 t6 p1 p2 p3 p4 p5 p6 e1 e2 e3 e4 e5 e6 (Ok x) t7 p7 e7 =
    let two = appended t0 t1 t2 p1 p2 e1 e2 in
    let three = appended t0 t2 t3 (p1 ++ p2) p3 two e3 in
    let four = appended t0 t3 t4 (p1 ++ p2 ++ p3) p4 three e4 in
    let five = appended t0 t4 t5 (p1 ++ p2 ++ p3 ++ p4) p5 four e5 in
    let six = appended t0 t5 t6 (p1 ++ p2 ++ p3 ++ p4 ++ p5) p6 five e6 in
    appended t0 t6 t7 (p1 ++ p2 ++ p3 ++ p4 ++ p5 ++ p6) p7 six e7
seven_parts t0 t1 t2 t3 t4 t5 t6 p1 p2 p3 p4 p5 p6 e1 e2 e3 e4 e5 e6 (Err e) t7 p7 e7 = tt
