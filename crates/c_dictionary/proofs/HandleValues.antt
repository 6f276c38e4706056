-- The machine values of a `Handle`. Assumes `Logic`.
use Rattle.std.proofs.Common.{◌≡◌, ℕ, ◌<◌, ◌^◌, List, [], ◌∷◌, Option, None, Some, T, refl, sym, subst, lit<, w64}
use Rattle.std.specs.Prelude.{IsSome}
use seplogic.Ra.Ura.{Ura}
use base.Logic.{ent, guard}
use base.Fml.{ftrue}
use Rattle.c_dictionary.specs.Ready.{IsHeldAt, IsStateOf}
use mir.Val.{Val, vptr, vint, vstruct, vcons, vnil}
use types.Logic.{Logic, sem}
use types.Kit.{Item, Goal, Step, step, ‵, ◌$◌, ◌∵◌, !, qed, check, done, fsplit, fpick, fjoin, fpack, feq_i, feq_l}
use denote.RattleType.{Valss}
use denote.Builtin.{RawPtr, u64}
use denote.Laws.{Is}
use denote.Plain.{uint_Makes}
use denote.RawPtr.{Ptr, block_ptr}
use denote.Steps.{nothing, owned}
use denote.Struct.Struct.{within}
use denote.Struct.Owning.{shape}
use Rattle.std.specs.contracts.impls.GlobalAllocator.TheImpl.{ghosts as g}
use Rattle.std_alloc.specs.Box.Ownership.{box_owns}
use Rattle.c_dictionary.specs.Owning.{global, owned as owns_by}
use Rattle.c_dictionary.specs.declared.store.Store.{Store}
use Rattle.c_dictionary.specs.contracts.store.Store.{the_row as R}
use Rattle.c_dictionary.specs.contracts.handle.Handle as handle

pub the_some : (m : Option Store) → IsSome m → (x : Store) × (m ≡ Some x)
the_some (Some x) _ = (x, refl)
the_some None h = absurd (subst T (sym h) tt)

abbrev pub the_none : Option Store
the_none = None

abbrev pub two : ℕ → Val → Val
two s v = vstruct (vcons v (vcons (vint w64 s) vnil))

module _ {M : Type 1} {𝓤 : Ura M} (𝓛 : Logic 𝓤) where
  pub tells : (s : ℕ) (p : Ptr) (m : Option Store)
      → ent 𝓤 (sem 𝓛 (owns_by s p m)) (guard 𝓤 (IsStateOf s m) (sem 𝓛 (owns_by s p m)))
  tells s p (Some x) = qed 𝓛 (‵ (owns_by s p (Some x)) ∷ []) ∵ fsplit ! $ fpick !
      (λ good. check ! good $ fpack ! (IsHeldAt s x) (λ _. ftrue) good $ fjoin ! $ done !)
  tells s p None = qed 𝓛 (‵ (owns_by s p None) ∷ []) ∵ feq_l ! (λ e. check ! e $ feq_i ! ℕ s 0 e $ done !)

module _ {M : Type 1} {𝓤 : Ura M} {𝓛 : Logic 𝓤} {K : Type 0} {Γ : List (Item 𝓤)} {G : Goal 𝓤 𝓛.H} where
  pub handle_in : K → (b o n : ℕ) (x : R.Denot) → n < 2 ^ 64 → IsHeldAt n x
      → Step K 𝓛 (‵ (handle.the_row.own_val (record { at = block_ptr b o; state = n; value = Some x }) (two n (vptr b o) ∷ [])) ∷ Γ) G
      (‵ (box_owns (g.dealloc_token global) R (block_ptr b o) x) ∷ Γ) G
  handle_in t b o n x fits good = step (λ s. let v : Val = two n (vptr b o) in
      nothing t $ fpack t (IsHeldAt n x) (λ _. ftrue) good $ fjoin t $ nothing t $ owned t u64 (Is u64) (uint_Makes 𝓛 w64) n
      (vint w64 n ∷ []) (refl, fits) $ fjoin t $
      feq_i t (List Val) (vptr b o ∷ []) (vptr b o ∷ []) refl $ fjoin t $ feq_i t (List Val) (v ∷ []) (v ∷ []) refl $ fjoin t $
      fpack t (Valss (RawPtr ∷ u64 ∷ [])) (within (shape handle.the_type) (block_ptr b o, (n, tt)) (v ∷ []))
      (vptr b o ∷ [], (vint w64 n ∷ [], tt)) $ fjoin t $ s)

  pub none_in : K → (b o : ℕ)
      → Step K 𝓛 (‵ (handle.the_row.own_val (record { at = block_ptr b o; state = 0; value = None }) (two 0 (vptr b o) ∷ [])) ∷ Γ) G Γ G
  none_in t b o = step (λ s. let v : Val = two 0 (vptr b o) in
      feq_i t ℕ 0 0 refl $ nothing t $ owned t u64 (Is u64) (uint_Makes 𝓛 w64) 0 (vint w64 0 ∷ []) (refl, lit< tt) $ fjoin t $
      feq_i t (List Val) (vptr b o ∷ []) (vptr b o ∷ []) refl $ fjoin t $ feq_i t (List Val) (v ∷ []) (v ∷ []) refl $ fjoin t $
      fpack t (Valss (RawPtr ∷ u64 ∷ [])) (within (shape handle.the_type) (block_ptr b o, (0, tt)) (v ∷ []))
      (vptr b o ∷ [], (vint w64 0 ∷ [], tt)) $ fjoin t $ s)
