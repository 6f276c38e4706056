-- What lines write: read line by line, and in one way.
use Rattle.std.proofs.Common.{◌≡◌, ℕ, suc, ◌+◌, List, [], ◌∷◌, ◌++◌, length, refl, sym, ap, subst, ◌∙◌, append_assoc}
use Rattle.std.proofs.lemmas.List.{append-nil}
use Rattle.trace_text.specs.Lines.{lines_of, AreWritten, WritesNothing, IsFirstOutsideOf}

-- what was read so far is what the lines write before what is left of the text
pub record IsReadUpTo {A : Type 0} (Writes : List ℕ → A → Type 0) (text rest : List ℕ) (things : List A) : Type 0 where
  pub before : List (List ℕ)
  pub lines_are : lines_of text ≡ before ++ lines_of rest
  pub written : AreWritten Writes before things

module _ {A : Type 0} (Writes : List ℕ → A → Type 0) where
  -- one more line
  AreWritten-more : (lines : List (List ℕ)) (things : List A) (line : List ℕ) (thing : A) → AreWritten Writes lines things → Writes line thing
      → AreWritten Writes (lines ++ line ∷ []) (things ++ thing ∷ [])
  AreWritten-more [] [] line thing are is = (is, tt)
  AreWritten-more [] (t ∷ things) line thing are is = absurd are
  AreWritten-more (l ∷ lines) [] line thing are is = absurd are
  AreWritten-more (l ∷ lines) (t ∷ things) line thing are is = (are.0, AreWritten-more lines things line thing are.1 is)

  -- there are as many things as lines
  length-AreWritten : (lines : List (List ℕ)) (things : List A) → AreWritten Writes lines things → length lines ≡ length things
  length-AreWritten [] [] are = refl
  length-AreWritten [] (t ∷ things) are = absurd are
  length-AreWritten (l ∷ lines) [] are = absurd are
  length-AreWritten (l ∷ lines) (t ∷ things) are = ap suc (length-AreWritten lines things are.1)

  -- at first nothing is read
  pub nothing_read : (text : List ℕ) → IsReadUpTo Writes text text []
  nothing_read text = record { before = []; lines_are = refl; written = tt }

  -- then one more line
  pub line_read : (text rest after line : List ℕ) (things : List A) (thing : A) → IsReadUpTo Writes text rest things
      → lines_of rest ≡ line ∷ lines_of after
      → Writes line thing → IsReadUpTo Writes text after (things ++ thing ∷ [])
  line_read text rest after line things thing so_far cut is = record {
    before = so_far.before ++ line ∷ [];
    lines_are = so_far.lines_are ∙ ap (λ (l : List (List ℕ)). so_far.before ++ l) cut ∙ sym (append_assoc so_far.before (line ∷ []) (lines_of after));
    written = AreWritten-more so_far.before things line thing so_far.written is;
  }

  -- at last all of them
  pub all_read : (text : List ℕ) (things : List A) → IsReadUpTo Writes text [] things → AreWritten Writes (lines_of text) things
  all_read text things so_far = rw (so_far.lines_are ∙ append-nil so_far.before) so_far.written

  -- or up to a line that writes nothing
  pub line_outside : (text rest after line : List ℕ) (things : List A) (number : ℕ) → IsReadUpTo Writes text rest things
      → lines_of rest ≡ line ∷ lines_of after
      → WritesNothing Writes line → number ≡ length things + 1 → IsFirstOutsideOf Writes (lines_of text) number
  line_outside text rest after line things number so_far cut outside counted = record {
    before = so_far.before;
    outside = line;
    after = lines_of after;
    lines_are = so_far.lines_are ∙ ap (λ (l : List (List ℕ)). so_far.before ++ l) cut;
    counted = counted ∙ ap (λ n. n + 1) (sym (length-AreWritten so_far.before things so_far.written));
    things = things;
    written = so_far.written;
    nothing = outside;
  }

  -- lines write one list of things, where each line writes one
  pub one_list : ((line : List ℕ) (a b : A) → Writes line a → Writes line b → a ≡ b) → (lines : List (List ℕ)) (xs ys : List A)
      → AreWritten Writes lines xs → AreWritten Writes lines ys → xs ≡ ys
  one_list one [] [] [] are_a are_b = refl
  one_list one [] [] (b ∷ ys) are_a are_b = absurd are_b
  one_list one [] (a ∷ xs) ys are_a are_b = absurd are_a
  one_list one (line ∷ lines) [] ys are_a are_b = absurd are_a
  one_list one (line ∷ lines) (a ∷ xs) [] are_a are_b = absurd are_b
  one_list one (line ∷ lines) (a ∷ xs) (b ∷ ys) are_a are_b =
      let first = one line a b are_a.0 are_b.0 in
      let rest = one_list one lines xs ys are_a.1 are_b.1 in
      ap (λ t. t ∷ xs) first ∙ ap (λ (l : List A). b ∷ l) rest

  -- lines that write things have none that writes nothing
  outside_between : (before : List (List ℕ)) (line : List ℕ) (after : List (List ℕ)) (things : List A)
      → AreWritten Writes (before ++ line ∷ after) things → WritesNothing Writes line → ⊥
  outside_between [] line after [] are outside = are
  outside_between [] line after (t ∷ things) are outside = outside t are.0
  outside_between (first ∷ before) line after [] are outside = are
  outside_between (first ∷ before) line after (t ∷ things) are outside = outside_between before line after things are.1 outside

  pub written_or_outside : (lines : List (List ℕ)) (things : List A) (number : ℕ) → AreWritten Writes lines things
      → IsFirstOutsideOf Writes lines number → ⊥
  written_or_outside lines things number are is =
      outside_between is.before is.outside is.after things (subst (λ l. AreWritten Writes l things) is.lines_are are) is.nothing

  -- and only one line is the first that writes nothing
  same_place : (b c : List (List ℕ)) (x y : List ℕ) (p q : List (List ℕ)) (r s : List A) → b ++ x ∷ p ≡ c ++ y ∷ q → AreWritten Writes b r
      → AreWritten Writes c s
      → WritesNothing Writes x → WritesNothing Writes y → length b ≡ length c
  same_place [] [] x y p q r s same are_b are_c out_x out_y = refl
  same_place [] (m ∷ c) x y p q r [] same are_b are_c out_x out_y = absurd are_c
  same_place [] (m ∷ c) x y p q r (t ∷ s) same are_b are_c out_x out_y = let head : m ≡ x = cc in
      absurd (out_x t (subst (λ l. Writes l t) head are_c.0))
  same_place (l ∷ b) [] x y p q [] s same are_b are_c out_x out_y = absurd are_b
  same_place (l ∷ b) [] x y p q (t ∷ r) s same are_b are_c out_x out_y = let head : l ≡ y = cc in
      absurd (out_y t (subst (λ l. Writes l t) head are_b.0))
  same_place (l ∷ b) (m ∷ c) x y p q [] s same are_b are_c out_x out_y = absurd are_b
  same_place (l ∷ b) (m ∷ c) x y p q (t ∷ r) [] same are_b are_c out_x out_y = absurd are_c
  same_place (l ∷ b) (m ∷ c) x y p q (t ∷ r) (u ∷ s) same are_b are_c out_x out_y =
      let rest : b ++ x ∷ p ≡ c ++ y ∷ q = cc in
      ap suc (same_place b c x y p q r s rest are_b.1 are_c.1 out_x out_y)

  pub one_outside : (lines : List (List ℕ)) (m n : ℕ) → IsFirstOutsideOf Writes lines m → IsFirstOutsideOf Writes lines n → m ≡ n
  one_outside lines m n a b =
      let same = same_place a.before b.before a.outside b.outside a.after b.after a.things b.things (sym a.lines_are
      ∙ b.lines_are) a.written b.written a.nothing b.nothing in
      a.counted ∙ ap (λ k. k + 1) same ∙ sym b.counted
