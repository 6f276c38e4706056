-- The list of pages with a mark: a page that isn't listed has room, and each listed page is there once at most.
use Rattle.std.proofs.Common.{◌≡◌, ◌≢◌, ℕ, ◌+◌, ◌*◌, ◌/◌, ◌<◌, ◌≤◌, ◌⊎◌, Bool, true, false, List, [], ◌∷◌, ◌++◌, length, get_or, set, refl, sym, ◌∙◌, subst, arith, length-set, length-append, get_or-set_other, get_or-set_same, Contains, inl, inr, suc, zero, ap}
use Rattle.std.proofs.lemmas.List.Elements.{Contains-append_left, Contains-push, Contains-push_cases}
use Rattle.std.proofs.lemmas.Bool.{cases_eq, cases_Bool}
use Rattle.std.proofs.lemmas.List.{get_or_default}
use Rattle.std.proofs.lemmas.Grind.{elements, get_or-set_at}
use Rattle.line_memory.specs.Marks.{CoversGroups, ListsPages, IsMarked, completed_at, mark_count}
use Rattle.line_memory.specs.Marked.{is_marked_within}

-- no more marks than places
pub mark_count-most : (marks : List Bool) → mark_count marks ≤ length marks
mark_count-most [] = omega arith
mark_count-most (true ∷ marks) = let h = mark_count-most marks in omega arith
mark_count-most (false ∷ marks) = let h = mark_count-most marks in omega arith

-- where a mark is missing there are fewer marks than places
pub mark_count-below : (marks : List Bool) (k : ℕ) → k < length marks → get_or marks k false ≡ false → mark_count marks < length marks
mark_count-below [] k l e = absurd (omega arith)
mark_count-below (true ∷ marks) zero l e = absurd (cc)
mark_count-below (false ∷ marks) zero l e = let h = mark_count-most marks in omega arith
mark_count-below (true ∷ marks) (suc k) l e = let h = mark_count-below marks k (omega arith) e in omega arith
mark_count-below (false ∷ marks) (suc k) l e = let h = mark_count-below marks k (omega arith) e in omega arith

-- a new mark counts
pub mark_count-set : (marks : List Bool) (k : ℕ) → k < length marks → get_or marks k false ≡ false
    → mark_count (set marks k true) ≡ mark_count marks + 1
mark_count-set [] k l e = absurd (omega arith)
mark_count-set (true ∷ marks) zero l e = absurd (cc)
mark_count-set (false ∷ marks) zero l e = refl
mark_count-set (true ∷ marks) (suc k) l e = let h = mark_count-set marks k (omega arith) e in omega arith
mark_count-set (false ∷ marks) (suc k) l e = mark_count-set marks k (omega arith) e

-- to take back one mark takes one away at most
pub mark_count-unset : (marks : List Bool) (k : ℕ) → mark_count marks ≤ mark_count (set marks k false) + 1
mark_count-unset [] k = omega arith
mark_count-unset (true ∷ marks) zero = omega arith
mark_count-unset (false ∷ marks) zero = omega arith
mark_count-unset (true ∷ marks) (suc k) = let h = mark_count-unset marks k in omega arith
mark_count-unset (false ∷ marks) (suc k) = mark_count-unset marks k

-- one mark less
pub fewer_marks : (marks : List Bool) (k : ℕ) → get_or marks k false ≡ true → mark_count (set marks k false) < mark_count marks
fewer_marks [] k is = absurd (cc)
fewer_marks (true ∷ marks) zero is = omega arith
fewer_marks (false ∷ marks) zero is = absurd (cc)
fewer_marks (true ∷ marks) (suc k) is = let rest = fewer_marks marks k is in omega arith
fewer_marks (false ∷ marks) (suc k) is = fewer_marks marks k is

-- a page that isn't listed has room
pub has_room : (words pages : List Bool) (list : List ℕ) (capacity page : ℕ) → ListsPages words pages list capacity → page < length pages
    → get_or pages page false ≡ false → length list < capacity
has_room words pages list capacity page h l e =
    let m = mark_count-below pages page l e in omega (arith, h.room, h.few)

-- a page in the memory has its place among the pages
pub page_within : (words pages : List Bool) (list : List ℕ) (capacity page : ℕ) → ListsPages words pages list capacity
    → 4096 * page < length words → page < length pages
page_within words pages list capacity page h l = omega (arith, h.reach)

-- a set mark stays, whichever other is set
set_keeps : (pages : List Bool) (page other : ℕ) → IsMarked pages other → IsMarked (set pages page true) other
set_keeps pages page other m =
    elim (cases_eq other page) [
      | inl e ↦ let lt = is_marked_within pages other m in get_or-set_at pages page other true false e (omega arith)
      | inr ne ↦ get_or-set_other pages page other true false ne ∙ m
    ]

-- the groups that have marked words are covered once a line's words are marked, and its group
pub cover_line : (words new groups : List Bool) (line : ℕ) → CoversGroups words groups → length new ≡ length words → 8 * line < length words
    → ((k : ℕ) → k / 8 ≢ line → get_or new k false ≡ get_or words k false) → CoversGroups new (set groups (line / 8) true)
cover_line words new groups line h len l same =
    record {
      reach = omega (arith, h.reach, length-set {A = Bool});
      covers = λ word m.
          elim (cases_eq (word / 64) (line / 8)) [
            | inl e ↦ subst (λ (x : ℕ). IsMarked (set groups (line / 8) true) x) (sym e)
                (get_or-set_same groups (line / 8) true false (omega (arith, h.reach)))
            | inr ne ↦ set_keeps groups (line / 8) (word / 64) (h.covers word (sym (same word (λ here. ne (omega (arith, here)))) ∙ m))
          ];
    }

-- what is set is the new mark or was set
set_cases : (pages : List Bool) (page other : ℕ) → IsMarked (set pages page true) other → (page ≡ other) ⊎ IsMarked pages other
set_cases pages page other m =
    elim (cases_eq other page) [
      | inl e ↦ inl (sym e)
      | inr ne ↦ inr (sym (get_or-set_other pages page other true false ne) ∙ m)
    ]

-- what holds of each number of a list and of one more
each_pushed : (list : List ℕ) (page bound : ℕ) → ((k : ℕ) → k < length list → 4096 * get_or list k 0 < bound) → 4096 * page < bound → (k : ℕ)
    → k < length (list ++ page ∷ []) → 4096 * get_or (list ++ page ∷ []) k 0 < bound
each_pushed list page bound each l k lt = grind (arith, elements)

-- and, if it holds of all, of those before the last
each_popped : (list : List ℕ) (page bound : ℕ) → ((k : ℕ) → k < length (list ++ page ∷ []) → 4096 * get_or (list ++ page ∷ []) k 0 < bound)
    → (k : ℕ) → k < length list → 4096 * get_or list k 0 < bound
each_popped list page bound each k lt = let h = each k (omega (arith, length-append {A = ℕ})) in grind (arith, elements, h)

-- the list once the page is added
pub list_page : (words pages : List Bool) (list : List ℕ) (capacity room page : ℕ) → ListsPages words pages list capacity → capacity ≤ room
    → 4096 * page < length words → get_or pages page false ≡ false → ListsPages words (set pages page true) (list ++ page ∷ []) room
list_page words pages list capacity room page h more l e =
    let within : page < length pages = page_within words pages list capacity page h l in
    record {
      reach = omega (arith, h.reach, length-set {A = Bool});
      room = omega (arith, h.room, length-set {A = Bool});
      few = let n = mark_count-set pages page within e in omega (arith, h.few, length-append {A = ℕ});
      within = each_pushed list page (length words) h.within l;
      covers = λ word m. set_keeps pages page (word / 4096) (h.covers word m);
      all = λ other m.
          elim (set_cases pages page other m) [
            | inl e ↦ subst (λ (x : ℕ). Contains (list ++ page ∷ []) x) e (Contains-push list page)
            | inr was ↦ Contains-append_left list (page ∷ []) other (h.all other was)
          ];
    }

-- the marks of the words of a listed page may change
pub remark : (words new pages : List Bool) (list : List ℕ) (capacity page : ℕ) → ListsPages words pages list capacity
    → length new ≡ length words → IsMarked pages page → ((k : ℕ) → k / 4096 ≢ page → get_or new k false ≡ get_or words k false)
    → ListsPages new pages list capacity
remark words new pages list capacity page h len on same =
    record {
      reach = omega (arith, h.reach);
      room = h.room;
      few = h.few;
      within = λ k lt. let w = h.within k lt in omega arith;
      covers = λ word m.
          elim (cases_eq (word / 4096) page) [
            | inl e ↦ subst (λ (x : ℕ). IsMarked pages x) (sym e) on
            | inr ne ↦ h.covers word (sym (same word ne) ∙ m)
          ];
      all = h.all;
    }

-- what is left of the list's last page once its mark is taken back
unset_all : (pages : List Bool) (list : List ℕ) (page other : ℕ) → ((l : ℕ) → IsMarked pages l → Contains (list ++ page ∷ []) l)
    → IsMarked (set pages page false) other → Contains list other
unset_all pages list page other all m =
    elim (cases_eq other page) [
      | inl e ↦
          let lt = is_marked_within (set pages page false) other m in
          let off = get_or-set_at pages page other false false e (omega (arith, lt, length-set {A = Bool})) in
          absurd (cc)
      | inr ne ↦
          elim (Contains-push_cases list page other (all other (sym (get_or-set_other pages page other false false ne) ∙ m))) [
            | inl there ↦ there
            | inr e ↦ absurd (ne (sym e))
          ]
    ]

-- the list once its last page is taken, whose words have no mark any more
pub unlist_page : (words new pages : List Bool) (list : List ℕ) (capacity page : ℕ) → ListsPages words pages (list ++ page ∷ []) capacity
    → length new ≡ length words → ((k : ℕ) → k / 4096 ≡ page → get_or new k false ≡ false)
    → ((k : ℕ) → k / 4096 ≢ page → get_or new k false ≡ get_or words k false) → ListsPages new (set pages page false) list capacity
unlist_page words new pages list capacity page h len clear same =
    record {
      reach = omega (arith, h.reach, length-set {A = Bool});
      room = omega (arith, h.room, length-set {A = Bool});
      few = let n = mark_count-unset pages page in omega (arith, h.few, length-append {A = ℕ});
      within = λ k lt. let w = each_popped list page (length words) h.within k lt in omega arith;
      covers = λ word m.
          elim (cases_eq (word / 4096) page) [
            | inl e ↦ let c = clear word e in absurd (cc)
            | inr ne ↦ get_or-set_other pages page (word / 4096) false false ne ∙ h.covers word (sym (same word ne) ∙ m)
          ];
      all = λ other m. unset_all pages list page other h.all m;
    }

-- with no page listed no word is marked
pub no_marks : (words pages : List Bool) (capacity : ℕ) → ListsPages words pages [] capacity → (k : ℕ) → get_or words k false ≡ false
no_marks words pages capacity h k =
    elim (cases_Bool (get_or words k false)) [
      | inl m ↦ let c = h.all (k / 4096) (h.covers k m) in absurd (omega (arith, c.1))
      | inr e ↦ e
    ]

-- what a read gave is there, whatever the default
pub read_is : (xs : List Bool) (i : ℕ) (read value : Bool) → i < length xs → read ≡ get_or xs i read → read ≡ value → get_or xs i false ≡ value
read_is xs i read value l e r = get_or_default xs i false read l ∙ sym e ∙ r

-- the marks of a page that was listed are set
pub marked_again : (words slice new pages : List Bool) (list : List ℕ) (capacity page : ℕ) → ListsPages words pages list capacity
    → slice ≡ words → length new ≡ length slice → ((k : ℕ) → k / 4096 ≢ page → get_or new k false ≡ get_or slice k false) → IsMarked pages page
    → ListsPages new pages list capacity
marked_again words slice new pages list capacity page h s len same on =
    remark words new pages list capacity page h (len ∙ ap length s) on
    (λ k ne. same k ne ∙ ap (λ (x : List Bool). get_or x k false) s)

-- the marks of a page that wasn't listed are set, and the page is listed
pub marked_first : (words slice new pages : List Bool) (list pushed : List ℕ) (capacity room page : ℕ) → ListsPages words pages list capacity
    → slice ≡ words → length new ≡ length slice → ((k : ℕ) → k / 4096 ≢ page → get_or new k false ≡ get_or slice k false)
    → get_or pages page false ≡ false → 4096 * page < length words → capacity ≤ room → pushed ≡ list ++ page ∷ []
    → ListsPages new (set pages page true) pushed room
marked_first words slice new pages list pushed capacity room page h s len same off l more p =
    let within = page_within words pages list capacity page h l in
    let there = list_page words pages list capacity room page h more l off in
    subst (λ (x : List ℕ). ListsPages new (set pages page true) x room) (sym p)
    (marked_again words slice new (set pages page true) (list ++ page ∷ []) room page there s len same (get_or-set_same pages page true false within))

-- the last page of the list is completed
pub completed_last : (words slice new pages : List Bool) (list all : List ℕ) (capacity room page : ℕ) → ListsPages words pages all capacity
    → all ≡ list ++ page ∷ [] → room ≡ capacity → slice ≡ words → length new ≡ length slice
    → ((k : ℕ) → k / 4096 ≡ page → get_or new k false ≡ false) → ((k : ℕ) → k / 4096 ≢ page → get_or new k false ≡ get_or slice k false)
    → ListsPages new (set pages page false) list room
completed_last words slice new pages list all capacity room page h p r s len clear same =
    let there = subst (λ (x : List ℕ). ListsPages words pages x capacity) p h in
    let more = subst (λ (x : ℕ). ListsPages words pages (list ++ page ∷ []) x) (sym r) there in
    unlist_page words new pages list room page more (len ∙ ap length s) clear
    (λ k ne. same k ne ∙ ap (λ (x : List Bool). get_or x k false) s)

-- one marked word is completed
pub completed_one : (marks : List Bool) (volatile durable : List ℕ) (word : ℕ) → IsMarked marks word → word < length durable → (k : ℕ)
    → completed_at (set marks word false) volatile (set durable word (get_or volatile word 0)) k ≡ completed_at marks volatile durable k
completed_one marks volatile durable word on inside k =
    elim (cases_eq k word) as (λ _. completed_at (set marks word false) volatile
    (set durable word (get_or volatile word 0)) k ≡ completed_at marks volatile durable k) [
      | inl here ↦ subst (λ n. completed_at (set marks word false) volatile
          (set durable word (get_or volatile word 0)) n ≡ completed_at marks volatile durable n) (sym here)
          (rw (
            get_or-set_same marks word false false (is_marked_within marks word on),
            get_or-set_same durable word (get_or volatile word 0) 0 inside,
            on,
          ) refl)
      | inr other ↦ rw (get_or-set_other marks word k false false other, get_or-set_other durable word k (get_or volatile word 0) 0 other) refl
    ]
