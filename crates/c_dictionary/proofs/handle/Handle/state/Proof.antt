-- `state` reads the state, which tells whether the handle owns a box.
use Rattle.std.proofs.Common.{◌≡◌, List, [], ◌∷◌, ◌++◌, refl, sym, subst}
use base.Fraction.{full_share}
use mir.Syntax.{Fn, named}
use mir.Val.{Val, vptr}
use base.Logic.{SProp, ent, emp, id⊢}
use base.Fml.{ftrue, flft}
use prog.Wp.{WpFn}
use types.Kit.{‵, raw, ◌⊛◌, ◌$◌, ◌∵◌, !, qed, by, move, keep, use0, split, join, fsplit, fsplit3, fjoin, fjoin3, rewrite, suffices}
use types.Part.{whole, sub, look_in}
use types.Run.{stop, fld, load, of_opd, returns, enter}
use types.ByLocal.{alloc_all, pass_all, free_all, look_at, through, sets}
use contract.Monad.{fact, fact_i}
use contract.Running.{tables}
use denote.RattleType.{owns}
use denote.Laws.{shows}
use denote.Memory.{cell_at}
use denote.Ref.{mut_Tells}
use denote.Signature.{types_at, plain}
use denote.Steps.{nothing, heard, opens, closes, peeks}
use denote.Triple.Walked.{Stays, stay_ref, Goes-ref, walk_of}
use Rattle.std.proofs.raw_atomic.Walks.{proved_at, leaves}
use Rattle.c_dictionary.specs.Owning.{owned}
use Rattle.c_dictionary.specs.contracts.handle.Handle.{the_row as Hd}
use Rattle.c_dictionary.proofs.handle.Handle.TheLaws.{lowers}
use Rattle.c_dictionary.proofs.HandleValues.{tells}
use Rattle.c_dictionary.specs.Ready.{IsStateOf}
use types.Kit.{given, learn, use1}
use denote.Builtin.{u64}
use denote.Laws.{Is}
use denote.Plain.{uint_Makes}
use denote.Steps as Steps
use mir.Val.{vint}
use Rattle.std.proofs.Common.{w64, ◌<◌, ◌^◌}
use Rattle.c_dictionary.specs.contracts.handle.Handle.state.{ended, clauses}
use Rattle.c_dictionary.specs.contracts.handle.Handle.state.Key.{name as #self}
use Rattle.c_dictionary.proofs.handle.Handle.state.Statement.{statement}
use Rattle.c_dictionary.proofs.handle.Handle.state.Code as code

pub state_spec : {M : Type 1} → statement M
state_spec 𝓤 𝓛 𝓜 𝓡 wired =
    let H = 𝓛.H in let 𝓣 = tables 𝓤 H 𝓜 𝓡 𝓡.env in let c = clauses 𝓛 𝓜.mem 𝓡.returns in let fn : Fn = code.function in
    let hs : Stays ended.signature.params ended.kept = (stay_ref (0 ∷ []) tt (plain (λ _. Hd)), tt) in
    proved_at 𝓛 ended hs c 𝓜 𝓡 (Goes-ref 𝓛 1 0 tt (plain (λ _. Hd)), tt) #self fn (code.unfolded 𝓤 H 𝓜 𝓡 wired) (λ z are.
    let κs = z.0.0 in let qs = z.0.1 in let v = z.0.3.0 in let h = v.now in let rb = v.ref_ptr.0 in let ro = v.ref_ptr.1 in
    let Post : Val → SProp 𝓤 = (walk_of 𝓛 ended hs c).post z in let Run : List Val → SProp 𝓤 = λ ws. WpFn 𝓤 H 𝓣.C 𝓣.Λ fn ws Post in
    let r : Val = vptr rb ro in
    qed 𝓛 (((‵ (flft κs.0 qs.0) ⊛ ‵ ftrue) ⊛ ‵ (owns (types_at ended.signature.params κs) z.0.3 z.0.4)) ∷ ‵ ftrue ∷ []) ∵
    split ! $ split ! $ move ! (2 ∷ []) $ fsplit ! $ keep ! (0 ∷ 2 ∷ []) $
    suffices ! (Run (r ∷ [])) (subst (λ (xs : List Val). ent 𝓤 (Run (r ∷ [])) (Run (xs ++ [])))
    (sym (mut_Tells (named 0) κs.0 Hd v z.0.4.0 are.0)) (id⊢ 𝓤 (Run (r ∷ [])))) $
    fsplit3 ! $ move ! (1 ∷ 2 ∷ 3 ∷ []) $
    enter ! 𝓣.C 𝓣.Λ fn (r ∷ []) Post $ alloc_all ! (λ l. pass_all ! refl ((tt, tt), tt) $
    opens ! tt Hd rb ro (λ ws. move ! (1 ∷ []) $ peeks ! Hd _ (shows 𝓛 Hd) h ws (λ is. fsplit ! $ move ! (1 ∷ []) $
    use1 𝓛 (given (IsStateOf h.state h.value) (‵ (owned h.state h.at h.value))) (tells 𝓛 h.state h.at h.value) $ learn ! (λ says_some.
    let word = lowers.val_is h ws is in let Cell = λ (vs : List Val). ‵ (cell_at full_share Hd.mir vs rb ro) in
    rewrite ! 2 Cell word refl $
    let fits : h.state < 2 ^ 64 = is.0.1.1.1.0.1 in
    -- [what it owns; the fields; the cell; the open borrow, in three entries; ..]
    sets ! (of_opd ! (load ! (through ! refl (fld ! refl (stop !))) (look_in ! 2 (sub ! 1 refl (whole !))))) refl (tt, record { fits = fits }) $
    rewrite ! 2 Cell (sym word) refl $ move ! (1 ∷ []) $ fjoin ! $ move ! (1 ∷ []) $ closes ! tt Hd h ws rb ro $
    -- [two parts of self; the token; self's first part]
    returns ! (look_at ! 0 refl) $ free_all ! refl $
    move ! (3 ∷ 0 ∷ 1 ∷ []) $ fjoin3 ! $ nothing ! $ move ! (1 ∷ 0 ∷ []) $ fjoin ! $ nothing ! $ move ! (2 ∷ 0 ∷ []) $ join ! $
    Steps.owned ! u64 (Is u64) (uint_Makes 𝓛 w64) h.state (vint w64 h.state ∷ []) (refl, fits) $
    use0 𝓛 (raw (fact 𝓤 (IsStateOf h.state h.value × (h.value ≡ h.value))))
    (fact_i 𝓤 (IsStateOf h.state h.value × (h.value ≡ h.value)) (emp 𝓤) (says_some, refl)) $ keep ! (2 ∷ 3 ∷ 1 ∷ 0 ∷ []) $
    by ! (leaves 𝓛 ended hs c z (vint w64 h.state) h.state (h, tt) (tt, tt)))))))
