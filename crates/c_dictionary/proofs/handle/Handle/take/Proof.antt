-- `take` leaves the pointer where it stands, and takes what it owns.
use Rattle.std.proofs.Common.{◌≡◌, List, [], ◌∷◌, ◌++◌, lit<, Option, None, Some, refl, sym, ap, ◌∙◌, subst}
use base.Fraction.{full_share}
use mir.Syntax.{Fn, named}
use mir.Raw.{raw as bare}
use mir.Val.{Val, vptr}
use base.Logic.{SProp, ent, emp, never, id⊢, fst∗}
use base.Fml.{ftrue, flft}
use prog.Wp.{WpFn}
use types.Logic.{sem}
use types.Kit.{‵, raw, ◌⊛◌, ◌$◌, ◌∵◌, !, qed, by, move, keep, drop, use0, split, join, fsplit, fsplit3, fjoin, fjoin3, rewrite, suffices}
use types.Part.{whole, sub, agg, look_in, store_in}
use types.Run.{lit, stop, fld, load, of_opd, no_more, and_then, assigns, returns, enter}
use types.ByLocal.{alloc_all, pass_all, free_all, look_at, get, through, sets}
use contract.Monad.{fact, fact_i}
use contract.Running.{tables}
use denote.RattleType.{owns}
use denote.Laws.{shows}
use denote.Memory.{cell_at, lone}
use denote.RawPtr.{Ptr, block_ptr, null_ptr, in_a_block}
use denote.Ref.{mut_Tells}
use denote.Signature.{types_at, plain}
use denote.Steps.{nothing, heard, opens, closes, peeks}
use denote.Triple.Walked.{Stays, stay_dropped, stay_ref, Goes-ref, walk_of}
use Rattle.core.proofs.alloc.Calls.{Goes-blank, handle_tells}
use Rattle.std.proofs.raw_atomic.Walks.{proved_at, leaves}
use Rattle.std.specs.contracts.alloc.Global.{the_row as Z}
use Rattle.std.proofs.alloc.Global.TheLaws.{the_row_laws as LZ}
use Rattle.std.specs.contracts.impls.GlobalAllocator.TheImpl.{ghosts as g}
use Rattle.std_alloc.specs.Box.Ownership.{box_owns}
use Rattle.c_dictionary.specs.Owning.{global, owned}
use Rattle.c_dictionary.specs.declared.store.Store.{Store}
use Rattle.c_dictionary.specs.contracts.store.Store.{the_row as R}
use Rattle.c_dictionary.specs.contracts.handle.Handle.{the_row as Hd}
use Rattle.c_dictionary.proofs.handle.Handle.TheLaws.{lowers}
use Rattle.c_dictionary.proofs.Values.{both, al, loose_good, loose_in}
use Rattle.c_dictionary.proofs.HandleValues.{the_none, the_some, two, none_in}
use Rattle.c_dictionary.specs.contracts.handle.Handle.take.{ended, clauses}
use Rattle.c_dictionary.specs.contracts.handle.Handle.take.Key.{name as #self}
use Rattle.c_dictionary.proofs.handle.Handle.take.Statement.{statement}
use Rattle.c_dictionary.proofs.handle.Handle.take.Code as code
use Rattle.std.specs.Prelude.{IsSome}

pub take_spec : {M : Type 1} → statement M
take_spec 𝓤 𝓛 𝓜 𝓡 wired =
    let H = 𝓛.H in let 𝓣 = tables 𝓤 H 𝓜 𝓡 𝓡.env in let c = clauses 𝓛 𝓜.mem 𝓡.returns in let fn : Fn = code.function in
    let hs : Stays ended.signature.params ended.kept = (stay_ref (0 ∷ []) tt (plain (λ _. Hd)), (stay_dropped (plain (λ _. Z)) ended.kept.1.0, tt)) in
    proved_at 𝓛 ended hs c 𝓜 𝓡 (Goes-ref 𝓛 1 0 tt (plain (λ _. Hd)), (Goes-blank 𝓛 1 (plain (λ _. Z)) ended.kept.1.0 (λ κs x f. tt), tt))
    #self fn (code.unfolded 𝓤 H 𝓜 𝓡 wired) (λ z are.
    let κs = z.0.0 in let qs = z.0.1 in let v = z.0.3.0 in let a = z.0.3.1.0 in let h = v.now in let rb = v.ref_ptr.0 in let ro = v.ref_ptr.1 in
    let Post : Val → SProp 𝓤 = (walk_of 𝓛 ended hs c).post z in let Run : List Val → SProp 𝓤 = λ ws. WpFn 𝓤 H 𝓣.C 𝓣.Λ fn ws Post in
    let r : Val = vptr rb ro in
    qed 𝓛 (((‵ (flft κs.0 qs.0) ⊛ ‵ ftrue) ⊛ ‵ (owns (types_at ended.signature.params κs) z.0.3 z.0.4)) ∷ raw (fact 𝓤 (IsSome h.value)) ∷ [])
    ∵ move ! (1 ∷ []) $ heard ! (IsSome h.value) (λ is_some.
    let x = (the_some h.value is_some).0 in let e = (the_some h.value is_some).1 in
    split ! $ split ! $ move ! (2 ∷ []) $ fsplit ! $ move ! (1 ∷ []) $ fsplit ! $ handle_tells (al R Z LZ g) ! a z.0.4.1.0 (λ hv us fits.
    -- [the allocator; true; the reference; the token; true]
    keep ! (2 ∷ 3 ∷ 0 ∷ []) $
    suffices ! (Run (r ∷ hv ∷ [])) (subst (λ (xs : List Val). ent 𝓤 (Run (r ∷ hv ∷ [])) (Run (xs ++ (z.0.4.1.0 ++ []))))
    (sym (mut_Tells (named 0) κs.0 Hd v z.0.4.0 are.0))
    (subst (λ (xs : List Val). ent 𝓤 (Run (r ∷ hv ∷ [])) (Run (r ∷ (xs ++ [])))) (sym us) (id⊢ 𝓤 (Run (r ∷ hv ∷ []))))) $
    fsplit3 ! $ move ! (1 ∷ 2 ∷ 3 ∷ []) $
    enter ! 𝓣.C 𝓣.Λ fn (r ∷ hv ∷ []) Post $ alloc_all ! (λ l. pass_all ! refl ((tt, tt), (fits, tt)) $
    opens ! tt Hd rb ro (λ ws. move ! (1 ∷ []) $ peeks ! Hd _ (shows 𝓛 Hd) h ws (λ is. fsplit ! $ move ! (1 ∷ []) $
    rewrite ! 0 (λ (m : Option Store). ‵ (owned h.state h.at m)) e refl $ fsplit ! $ drop ! $
    in_a_block ! h.at (λ p. box_owns (g.dealloc_token global) R p x)
    (fst∗ 𝓤 (never 𝓤) (sem 𝓛 (g.dealloc_token global (bare (lone R.mir)) null_ptr))) (λ b o eb.
    let word = lowers.val_is h ws is ∙ ap (λ (p : Ptr). lowers.lowered (record h { at = p }) ∷ []) eb in
    let Cell = λ (vs : List Val). ‵ (cell_at full_share Hd.mir vs rb ro) in
    rewrite ! 2 Cell word refl $
    -- [what the box owns; the fields; the cell; the open borrow, in three entries; ..]
    assigns ! (of_opd ! (lit ! tt)) (through ! refl (fld ! refl (stop !))) (store_in ! 2 (sub ! 1 refl (whole !)) (tt, record { fits = lit< tt })) $
    sets ! (of_opd ! (load ! (through ! refl (fld ! refl (stop !))) (look_in ! 2 (sub ! 0 refl (whole !))))) refl (tt, tt) $
    sets ! (of_opd ! (get ! refl)) refl (tt, tt) $
    sets ! (agg ! (and_then ! (get ! refl) (and_then ! (get ! refl) (no_more !)))) refl (loose_good R Z LZ g b o hv fits) $
    move ! (1 ∷ []) $ drop ! $ none_in ! b o $ move ! (2 ∷ 0 ∷ 3 ∷ 4 ∷ 5 ∷ []) $ closes ! tt Hd
    (record { at = block_ptr b o; state = 0; value = None }) (two 0 (vptr b o) ∷ []) rb ro $
    -- [two parts of self; the token; what the box owns; self's first part; the allocator]
    returns ! (look_at ! 0 refl) $ free_all ! refl $
    move ! (3 ∷ 5 ∷ []) $ loose_in R Z LZ g ! b o hv a x $ move ! (4 ∷ 1 ∷ 2 ∷ []) $ fjoin3 ! $ nothing ! $ nothing ! $ fjoin ! $ move !
    (1 ∷ 0 ∷ []) $ fjoin ! $
    nothing ! $ move ! (3 ∷ 0 ∷ []) $ join ! $
    let told : (h.value ≡ Some x) × (the_none ≡ None) = (e, refl) in
    use0 𝓛 (raw (fact 𝓤 ((h.value ≡ Some x) × (the_none ≡ None)))) (fact_i 𝓤 ((h.value ≡ Some x) × (the_none ≡ None)) (emp 𝓤) told) $ keep !
    (1 ∷ 2 ∷ 3 ∷ 0 ∷ []) $
    by ! (leaves 𝓛 ended hs c z (both (vptr b o) hv) (record { at = block_ptr b o; alloc = a; value = x })
    (record { at = block_ptr b o; state = 0; value = None }, (tt, tt)) (tt, (tt, tt))))))))))
