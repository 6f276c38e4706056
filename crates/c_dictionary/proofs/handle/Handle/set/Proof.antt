-- `set` stores the pointer. What the handle owned before is forgotten.
use Rattle.std.proofs.Common.{◌≡◌, List, [], ◌∷◌, ◌++◌, Some, refl, sym, subst}
use base.Fraction.{full_share}
use mir.Syntax.{Fn, named}
use mir.Val.{Val, vptr, vunit}
use base.Logic.{SProp, ent, emp, id⊢}
use base.Fml.{ftrue, flft}
use prog.Wp.{WpFn}
use types.Kit.{‵, raw, ◌⊛◌, ◌$◌, ◌∵◌, !, qed, by, move, keep, drop, use0, split, join, fsplit, fsplit3, feq_i, fjoin, fjoin3, rewrite, suffices}
use types.Part.{whole, sub, store_in}
use types.Run.{stop, fld, of_opd, unit_lit, assigns, returns, enter}
use types.ByLocal.{alloc_all, pass_all, free_all, look_at, get, get_in, through, sets}
use contract.Monad.{fact, fact_i}
use contract.Running.{tables}
use denote.RattleType.{owns}
use denote.Laws.{shows}
use denote.Memory.{cell_at}
use denote.RawPtr.{block_ptr}
use denote.Ref.{mut_Tells}
use denote.Signature.{types_at, plain}
use denote.Steps.{nothing, heard, opens, closes, peeks}
use denote.Triple.Walked.{Stays, stay_dropped, stay_ref, Goes-ref, walk_of}
use Rattle.core.proofs.alloc.Calls.{Goes-blank}
use Rattle.std.proofs.raw_atomic.Walks.{proved_at, leaves}
use Rattle.std.specs.contracts.alloc.Global.{the_row as Z}
use Rattle.std.proofs.alloc.Global.TheLaws.{the_row_laws as LZ}
use Rattle.std.specs.contracts.impls.GlobalAllocator.TheImpl.{ghosts as g}
use Rattle.c_dictionary.specs.contracts.store.Store.{the_row as R}
use Rattle.c_dictionary.specs.contracts.handle.Handle.{the_row as Hd}
use Rattle.c_dictionary.proofs.handle.Handle.TheLaws.{lowers}
use Rattle.c_dictionary.specs.contracts.loose.Loose as loose
use Rattle.c_dictionary.proofs.Values.{both, loose_good, loose_out}
use Rattle.c_dictionary.proofs.HandleValues.{two, handle_in}
use denote.Builtin.{u64}
use mir.Val.{vint}
use Rattle.std.proofs.Common.{w64}
use Rattle.c_dictionary.specs.Ready.{IsHeldAt}
use Rattle.c_dictionary.specs.contracts.handle.Handle.set.{ended, clauses}
use Rattle.c_dictionary.specs.contracts.handle.Handle.set.Key.{name as #self}
use Rattle.c_dictionary.proofs.handle.Handle.set.Statement.{statement}
use Rattle.c_dictionary.proofs.handle.Handle.set.Code as code

pub set_spec : {M : Type 1} → statement M
set_spec 𝓤 𝓛 𝓜 𝓡 wired =
    let H = 𝓛.H in let 𝓣 = tables 𝓤 H 𝓜 𝓡 𝓡.env in let c = clauses 𝓛 𝓜.mem 𝓡.returns in let fn : Fn = code.function in
    let hs : Stays ended.signature.params ended.kept = (
      stay_ref (0 ∷ []) tt (plain (λ _. Hd)),
      (stay_dropped (plain (λ _. loose.the_row R Z g)) ended.kept.1.0, (stay_dropped (plain (λ _. u64)) ended.kept.1.1.0, tt)),
    ) in
    proved_at 𝓛 ended hs c 𝓜 𝓡 (
      Goes-ref 𝓛 1 0 tt (plain (λ _. Hd)),
      (
        Goes-blank 𝓛 1 (plain (λ _. loose.the_row R Z g)) ended.kept.1.0 (λ κs x f. tt),
        (Goes-blank 𝓛 1 (plain (λ _. u64)) ended.kept.1.1.0 (λ κs x f. tt), tt),
      ),
    ) #self fn (code.unfolded 𝓤 H 𝓜 𝓡 wired) (λ z are.
    let κs = z.0.0 in let qs = z.0.1 in let v = z.0.3.0 in let d = z.0.3.1.0 in let h = v.now in let n = z.0.3.1.1.0 in let n_is = are.1.1.0 in
    let rb = v.ref_ptr.0 in let ro = v.ref_ptr.1 in
    let Post : Val → SProp 𝓤 = (walk_of 𝓛 ended hs c).post z in let Run : List Val → SProp 𝓤 = λ ws. WpFn 𝓤 H 𝓣.C 𝓣.Λ fn ws Post in
    let r : Val = vptr rb ro in
    qed 𝓛 (((‵ (flft κs.0 qs.0) ⊛ ‵ ftrue) ⊛ ‵ (owns (types_at ended.signature.params κs) z.0.3 z.0.4)) ∷ raw
    (fact 𝓤 (IsHeldAt n d.value)) ∷ []) ∵ move ! (1 ∷ []) $ heard ! (IsHeldAt n d.value) (λ good.
    split ! $ split ! $ move ! (2 ∷ []) $ fsplit ! $ move ! (1 ∷ []) $ fsplit ! $ loose_out R Z LZ g ! d z.0.4.1.0 (λ b o hv e us fits.
    -- [what the box owns; the allocator; true; the reference; the token; true; true]
    keep ! (3 ∷ 4 ∷ 0 ∷ []) $ let w : Val = both (vptr b o) hv in let m : Val = vint w64 n in
    suffices ! (Run (r ∷ w ∷ m ∷ [])) (subst (λ (xs : List Val). ent 𝓤 (Run (r ∷ w ∷ m ∷ [])) (Run (xs ++ (z.0.4.1.0 ++ (z.0.4.1.1.0 ++ [])))))
    (sym (mut_Tells (named 0) κs.0 Hd v z.0.4.0 are.0))
    (subst (λ (xs : List Val). ent 𝓤 (Run (r ∷ w ∷ m ∷ [])) (Run (r ∷ (xs ++ (z.0.4.1.1.0 ++ []))))) (sym us)
    (subst (λ (xs : List Val). ent 𝓤 (Run (r ∷ w ∷ m ∷ [])) (Run (r ∷ w ∷ (xs ++ [])))) (sym n_is.0) (id⊢ 𝓤 (Run (r ∷ w ∷ m ∷ [])))))) $
    fsplit3 ! $ move ! (1 ∷ 2 ∷ 3 ∷ []) $
    enter ! 𝓣.C 𝓣.Λ fn (r ∷ w ∷ m ∷ []) Post $ alloc_all ! (λ l. pass_all ! refl
    ((tt, tt), (loose_good R Z LZ g b o hv fits, ((tt, record { fits = n_is.1 }), tt))) $
    opens ! tt Hd rb ro (λ ws. move ! (1 ∷ []) $ peeks ! Hd _ (shows 𝓛 Hd) h ws (λ is. drop ! $
    rewrite ! 0 (λ (vs : List Val). ‵ (cell_at full_share Hd.mir vs rb ro)) (lowers.val_is h ws is) refl $
    -- [the cell; the open borrow, in three entries; self's first part; what the box owns; the locals]
    sets ! (of_opd ! (get_in ! (fld ! refl (stop !)) (sub ! 0 refl (whole !)))) refl (tt, tt) $
    sets ! (of_opd ! (get ! refl)) refl (tt, tt) $
    assigns ! (of_opd ! (get ! refl)) (through ! refl (fld ! refl (stop !))) (store_in ! 0 (sub ! 0 refl (whole !)) (tt, tt)) $
    assigns ! (of_opd ! (get ! refl)) (through ! refl (fld ! refl (stop !))) (store_in ! 0 (sub ! 1 refl (whole !)) (tt, record { fits = n_is.1 })) $
    sets ! (of_opd ! (unit_lit !)) refl (tt, tt) $
    move ! (5 ∷ []) $ handle_in ! b o n d.value n_is.1 good $ move ! (1 ∷ 0 ∷ []) $ closes ! tt Hd
    (record { at = block_ptr b o; state = n; value = Some d.value }) (two n (vptr b o) ∷ []) rb ro $
    -- [two parts of self; the token; self's first part]
    returns ! (look_at ! 0 refl) $ free_all ! refl $
    move ! (3 ∷ 0 ∷ 1 ∷ []) $ fjoin3 ! $ nothing ! $ nothing ! $ fjoin ! $ nothing ! $ fjoin ! $ move ! (1 ∷ 0 ∷ []) $ fjoin ! $
    nothing ! $ move ! (2 ∷ 0 ∷ []) $ join ! $
    use0 𝓛 (raw (fact 𝓤 (Some d.value ≡ Some d.value))) (fact_i 𝓤 (Some d.value ≡ Some d.value) (emp 𝓤) refl) $ feq_i ! (List Val) (vunit ∷ [])
    (vunit ∷ []) refl $ keep ! (2 ∷ 3 ∷ 0 ∷ 1 ∷ []) $
    by ! (leaves 𝓛 ended hs c z vunit tt (record { at = block_ptr b o; state = n; value = Some d.value }, (tt, (tt, tt))) (tt, (tt, (tt, tt))))))))))
