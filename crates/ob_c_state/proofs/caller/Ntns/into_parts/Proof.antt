-- `into_parts` moves two fields, and what the struct owns goes with them.
use mathlib.Core.Path.{◌≡◌, refl, sym, subst}
use mathlib.Core.List.{List, [], ◌∷◌, ◌++◌}
use seplogic.Ra.Ura.{Ura}
use mir.Val.{Val, vptr}
use mir.Raw.{raw as bare}
use base.Logic.{SProp, ent, id⊢, never, fst∗}
use base.Fml.{ftrue, fsep}
use prog.Memory.{Memory}
use prog.Routine.{Routine}
use prog.Wp.{WpFn, Tables}
use types.Logic.{Logic, sem}
use contract.Monad.{Fun, fact}
use contract.Running.{tables, tables_of}
use sound.WpLaws.{WpFn-mono}
use types.Kit.{Item, ‵, raw, ◌⊛◌, ◌$◌, ◌∵◌, !, qed, by, move, drop, use1, join, split, rewrite, fsplit, fjoin, fpack, feq_i, suffices, done}
use types.Part.{whole, sub, agg}
use types.Run.{stop, fld, no_more, and_then, of_opd, returns, enter}
use types.ByLocal.{alloc_all, pass_all, free_all, look_at, get, get_in, sets}
use denote.Exit.{yes}
use denote.RawPtr.{Ptr, block_ptr, null_ptr, in_a_block, ptr_val}
use denote.Signature.{type_at}
use denote.Steps.{heard, nothing}
use denote.Triple.Spec.{triple_of}
use denote.Triple.Table.{entered}
use denote.Triple.Walked.{says, Stays, stay_dropped, walk_of, ends_at, Goes-dropped, walk_Meets}
use Rattle.std.specs.Prelude.{Option, true}
use Rattle.core.proofs.alloc.Calls.{token}
use Rattle.std_alloc.specs.Box.Ownership.{box_owns}
use Rattle.std_alloc.proofs.BoxSteps.Form.{D, R, τ, word, box_typed}
use Rattle.std_alloc.proofs.BoxSteps.Steps.{box_in}
use Rattle.ob_c_state.specs.Caller.{is_open, holds_block}
use Rattle.ob_c_state.specs.contracts.machine.HostCore as Core
use Rattle.ob_c_state.specs.declared.caller.Ntns.{Ntns}
use Rattle.ob_c_state.specs.contracts.caller.Ntns as Caller
use Rattle.ob_c_state.proofs.CallerSteps.{E, FromCaller, caller_word, caller_typed, core_there, caller_out}
use Rattle.ob_c_state.specs.contracts.caller.Ntns.into_parts as F
use Rattle.ob_c_state.specs.contracts.caller.Ntns.into_parts.Key.{name as #self}
use Rattle.ob_c_state.proofs.caller.Ntns.into_parts.Statement as stated
use Rattle.ob_c_state.proofs.caller.Ntns.into_parts.Code as code

abbrev stayed : Stays (F.ended).signature.params (F.ended).kept
stayed = (stay_dropped FromCaller yes, tt)

module _ {M : Type 1} {𝓤 : Ura M} (𝓛 : Logic 𝓤) (at_mem : Memory → SProp 𝓤) (run : Routine → Fun 𝓤) (𝓣 : Tables 𝓤 𝓛.H) where
  open 𝓛 use {H}

  walk : (z : (walk_of 𝓛 F.ended stayed (F.clauses 𝓛 at_mem run)).Ghost)
      → ent 𝓤 ((walk_of 𝓛 F.ended stayed (F.clauses 𝓛 at_mem run)).pre z) (WpFn 𝓤 H 𝓣.C 𝓣.Λ code.function (z.0.4.0 ++ []) ((walk_of 𝓛 F.ended stayed (F.clauses 𝓛 at_mem run)).post z))
  walk z =
      let Post = (walk_of 𝓛 F.ended stayed (F.clauses 𝓛 at_mem run)).post z in
      let d : Ntns = z.0.3.0 in
      let To = type_at (F.signature).result tt in
      qed 𝓛 ((‵ ftrue ⊛ ‵ (fsep (Caller.the_row.own_val d z.0.4.0) ftrue)) ∷ raw (fact 𝓤 (is_open d.core ≡ true)) ∷ []) ∵ move ! (1 ∷ []) $ heard ! (is_open d.core ≡ true) (λ e. split ! $ drop ! $ fsplit ! $
      caller_out ! d z.0.4.0 (λ hv ws low fa ef.
      let there = core_there d.core e in let x = there.0 in
      rewrite ! 0 (λ (c : Option Core.the_row.Denot). ‵ (holds_block d.alloc d.pointer c)) there.1 refl $
      in_a_block ! d.pointer (λ p. box_owns (token E.al d.alloc) (R E) p x) (fst∗ 𝓤 (never 𝓤) (sem 𝓛 (token E.al d.alloc (bare (τ E)) null_ptr))) (λ b o ep. fsplit ! $
      let v : D E = record { ptr = block_ptr b o; alloc = d.alloc; value = x } in
      let made : To.Denot = record { ptr = block_ptr b o; alloc = d.alloc; value = x } in
      box_in E ! v b o x refl refl $ use1 𝓛 (‵ (To.own_val made (word E hv b o ∷ []))) (id⊢ 𝓤 _) $ move ! (1 ∷ []) $ drop ! $
      let Γ : List (Item 𝓤) = ‵ (To.own_val made (word E hv b o ∷ [])) ∷ [] in
      let cw = caller_word hv (vptr b o) d.flag in
      let is : z.0.4.0 ≡ cw ∷ [] = subst (λ (p : Ptr). z.0.4.0 ≡ caller_word hv (ptr_val p) d.flag ∷ []) ep ws in
      by ! (subst (λ (us : List Val). ent 𝓤 (types.Kit.⋆ 𝓛 Γ) (WpFn 𝓤 H 𝓣.C 𝓣.Λ code.function (us ++ []) Post)) (sym is)
      (qed 𝓛 Γ ∵ enter ! 𝓣.C 𝓣.Λ code.function (cw ∷ []) _ $ alloc_all ! (λ ls. pass_all ! refl (caller_typed hv b o d.flag low fa, tt) $
      sets ! (of_opd ! (get_in ! (fld ! refl (stop !)) (sub ! 0 refl (whole !)))) refl (tt, tt) $ sets ! (of_opd ! (get_in ! (fld ! refl (stop !)) (sub ! 2 refl (whole !)))) refl fa $
      sets ! (of_opd ! (get ! refl)) refl (tt, tt) $
      sets ! (agg ! (and_then ! (get ! refl) (and_then ! (get ! refl) (no_more !)))) refl (box_typed E hv b o fa) $ returns ! (look_at ! 0 refl) $ free_all ! refl $
      suffices ! _ (ends_at 𝓛 F.ended stayed (F.clauses 𝓛 at_mem run) z (word E hv b o) made (tt, tt) (tt, tt)) $ says ! (sym there.1) $
      nothing ! $ nothing ! $ fjoin ! $ join ! $ nothing ! $ join ! $ done !))))))

pub into_parts_spec : {M : Type 1} → stated.statement M
unfolding tables_of
into_parts_spec 𝓤 𝓛 𝓜 𝓡 wired =
    let 𝓣 : Tables 𝓤 𝓛.H = tables_of 𝓤 𝓛.H 𝓜 (tables 𝓤 𝓛.H 𝓜 𝓡 𝓡.env) in
    entered 𝓤 𝓛.H (triple_of 𝓛 F.signature (F.spec 𝓛 𝓜.mem 𝓡.returns)) 𝓣.C 𝓣.Λ #self code.function (code.unfolded 𝓤 𝓛.H 𝓜 𝓡 wired)
    (walk_Meets 𝓛 F.ended stayed (Goes-dropped 𝓛 0 FromCaller yes (λ κs x f. refl), tt) (F.clauses 𝓛 𝓜.mem 𝓡.returns) (WpFn 𝓤 𝓛.H 𝓣.C 𝓣.Λ code.function) (WpFn-mono 𝓤 𝓛.H 𝓛.laws 𝓣 code.function)
    (walk 𝓛 𝓜.mem 𝓡.returns 𝓣))
