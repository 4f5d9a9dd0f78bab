-- `tested` reads the flag, and what the struct owns stays.
use mathlib.Core.Path.{refl, sym, subst}
use mathlib.Core.List.{List, [], ◌∷◌, ◌++◌}
use lib.Dec.{eqb}
use seplogic.Ra.Ura.{Ura}
use mir.Val.{Val, vbool, vstruct, vcons, vnil}
use base.Logic.{SProp, ent, emp, id⊢}
use base.Fml.{ftrue, fsep}
use prog.Memory.{Memory}
use prog.Routine.{Routine}
use prog.Wp.{WpFn, Tables}
use types.Logic.{Logic}
use contract.Monad.{Fun}
use contract.Running.{tables, tables_of}
use sound.WpLaws.{WpFn-mono}
use types.Kit.{Item, ‵, raw, ◌⊛◌, ◌$◌, ◌∵◌, !, qed, by, move, drop, use1, join, split, rewrite, fsplit, fjoin, fpack, feq_i, suffices, done}
use types.Part.{whole, sub, agg}
use types.Run.{stop, fld, no_more, and_then, of_opd, lit, bin, returns, enter}
use types.ByLocal.{alloc_all, pass_all, free_all, look_at, get, get_in, sets}
use denote.Builtin.{bool}
use denote.Struct.Declared.{shape}
use Rattle.ob_c_state.specs.contracts.caller.Tested as Tested
use denote.Exit.{yes}
use denote.Laws.{Is}
use denote.Plain.{bool_Makes}
use denote.RattleType.{Valss}
use denote.RawPtr.{ptr_val}
use denote.Signature.{type_at}
use denote.Steps.{nothing, owned}
use denote.Struct.Struct.{within}
use denote.Triple.Spec.{triple_of}
use denote.Triple.Table.{entered}
use denote.Triple.Walked.{says, Stays, stay_dropped, walk_of, ends_at, Goes-dropped, walk_Meets}
use Rattle.ob_c_state.specs.declared.caller.Ntns.{Ntns}
use Rattle.ob_c_state.specs.contracts.caller.Ntns as Caller
use Rattle.ob_c_state.proofs.CallerSteps.{FromCaller, caller_word, pointer_typed, any_typed, tested_typed, flag_says, caller_out, caller_in}
use Rattle.ob_c_state.specs.contracts.caller.Ntns.tested as F
use Rattle.ob_c_state.specs.contracts.caller.Ntns.tested.Key.{name as #self}
use Rattle.ob_c_state.proofs.caller.Ntns.tested.Statement as stated
use Rattle.ob_c_state.proofs.caller.Ntns.tested.Code as code

abbrev stayed : Stays (F.ended).signature.params (F.ended).kept
stayed = (stay_dropped FromCaller yes, tt)

module _ {M : Type 1} {𝓤 : Ura M} (𝓛 : Logic 𝓤) (at_mem : Memory → SProp 𝓤) (run : Routine → Fun 𝓤) (𝓣 : Tables 𝓤 𝓛.H) where
  open 𝓛 use {H}

  walk : (z : (walk_of 𝓛 F.ended stayed (F.clauses 𝓛 at_mem run)).Ghost)
      → ent 𝓤 ((walk_of 𝓛 F.ended stayed (F.clauses 𝓛 at_mem run)).pre z) (WpFn 𝓤 H 𝓣.C 𝓣.Λ code.function (z.0.4.0 ++ []) ((walk_of 𝓛 F.ended stayed (F.clauses 𝓛 at_mem run)).post z))
  walk z =
      let Post = (walk_of 𝓛 F.ended stayed (F.clauses 𝓛 at_mem run)).post z in
      let d : Ntns = z.0.3.0 in
      let To = type_at (F.signature).result tt in
      qed 𝓛 ((‵ ftrue ⊛ ‵ (fsep (Caller.the_row.own_val d z.0.4.0) ftrue)) ∷ raw (emp 𝓤) ∷ []) ∵ split ! $ drop ! $ fsplit ! $
      caller_out ! d z.0.4.0 (λ hv ws low fa ef. caller_in ! d low ef $ move ! (1 ∷ 2 ∷ []) $ drop ! $ drop ! $
      let w = caller_word hv (ptr_val d.pointer) d.flag in let t = eqb d.flag 1 in let tw = vstruct (vcons (vbool t) (vcons w vnil)) in
      let wt = any_typed 𝓛 hv d.pointer d.flag low fa in
      let made : To.Denot = record { is_open = t; caller = d } in
      nothing ! $ move ! (1 ∷ 0 ∷ []) $ fjoin ! $ owned ! bool (Is bool) (bool_Makes 𝓛) t (vbool t ∷ []) refl $ fjoin ! $ feq_i ! (List Val) (tw ∷ []) (tw ∷ []) refl $ fjoin ! $
      fpack ! (Valss (bool ∷ Caller.the_row ∷ [])) (within (shape Tested.the_type) (t, (d, tt)) (tw ∷ [])) (vbool t ∷ [], (w ∷ [], tt)) $
      use1 𝓛 (‵ (To.own_val made (tw ∷ []))) (id⊢ 𝓤 _) $
      let Γ : List (Item 𝓤) = ‵ (To.own_val made (tw ∷ [])) ∷ [] in
      by ! (subst (λ (us : List Val). ent 𝓤 (types.Kit.⋆ 𝓛 Γ) (WpFn 𝓤 H 𝓣.C 𝓣.Λ code.function (us ++ []) Post)) (sym ws)
      (qed 𝓛 Γ ∵ enter ! 𝓣.C 𝓣.Λ code.function (w ∷ []) _ $ alloc_all ! (λ ls. pass_all ! refl (wt, tt) $
      sets ! (of_opd ! (get_in ! (fld ! refl (stop !)) (sub ! 0 refl (whole !)))) refl (pointer_typed 𝓛 d.pointer) $
      sets ! (of_opd ! (get_in ! (fld ! refl (stop !)) (sub ! 1 refl (whole !)))) refl (tt, record { fits = low }) $
      sets ! (of_opd ! (get_in ! (fld ! refl (stop !)) (sub ! 2 refl (whole !)))) refl fa $
      sets ! (bin ! (get ! refl) (lit ! tt) tt) refl (tt, tt) $
      sets ! (agg ! (and_then ! (get ! refl) (and_then ! (get ! refl) (and_then ! (get ! refl) (no_more !))))) refl wt $
      sets ! (agg ! (and_then ! (get ! refl) (and_then ! (get ! refl) (no_more !)))) refl (tested_typed 𝓛 hv d.pointer d.flag t low fa) $ returns ! (look_at ! 0 refl) $ free_all ! refl $
      suffices ! _ (ends_at 𝓛 F.ended stayed (F.clauses 𝓛 at_mem run) z tw made (tt, tt) (tt, tt)) $ says ! (flag_says d.core d.flag ef, refl) $
      nothing ! $ nothing ! $ fjoin ! $ join ! $ nothing ! $ join ! $ done !))))

pub tested_spec : {M : Type 1} → stated.statement M
unfolding tables_of
tested_spec 𝓤 𝓛 𝓜 𝓡 wired =
    let 𝓣 : Tables 𝓤 𝓛.H = tables_of 𝓤 𝓛.H 𝓜 (tables 𝓤 𝓛.H 𝓜 𝓡 𝓡.env) in
    entered 𝓤 𝓛.H (triple_of 𝓛 F.signature (F.spec 𝓛 𝓜.mem 𝓡.returns)) 𝓣.C 𝓣.Λ #self code.function (code.unfolded 𝓤 𝓛.H 𝓜 𝓡 wired)
    (walk_Meets 𝓛 F.ended stayed (Goes-dropped 𝓛 0 FromCaller yes (λ κs x f. refl), tt) (F.clauses 𝓛 𝓜.mem 𝓡.returns) (WpFn 𝓤 𝓛.H 𝓣.C 𝓣.Λ code.function) (WpFn-mono 𝓤 𝓛.H 𝓛.laws 𝓣 code.function)
    (walk 𝓛 𝓜.mem 𝓡.returns 𝓣))
