-- `start_of` returns the pointer of the slice.
use mathlib.Core.Path.{refl}
use mathlib.Core.List.{List, [], ◌∷◌}
use Prim.Native.Nat.{ℕ}
use lib.ListN.{length}
use seplogic.Ra.Ura.{Ura}
use mir.Syntax.{named}
use mir.Val.{Val, vptr}
use base.Logic.{SProp, ent, emp, via, fst∗}
use base.Fml.{Lft, Share, ftrue, flft}
use prog.Memory.{Memory}
use prog.Routine.{Routine}
use prog.Wp.{Calls, Loops, WpFn, Tables}
use types.Logic.{Logic}
use contract.Monad.{Fun}
use contract.Running.{tables, tables_of}
use sound.WpLaws.{WpFn-mono}
use types.Kit.{‵, ◌⊛◌, ◌$◌, ◌∵◌, !, qed, move, keep, join, fjoin, feq_i, suffices, done}
use types.Part.{whole, sub}
use types.Run.{stop, fld, hop, from, addr, returns, enter}
use types.ByLocal.{alloc_all, pass_all, free_all, look_at, look_in_at, sets}
use denote.Builtin.{u8}
use denote.Exit.{yes}
use denote.RattleType.{owns}
use denote.RawPtr.{block_ptr}
use denote.Ref.{Bor}
use denote.Signature.{plain, shr_slice_of}
use denote.Slice.{ShrSlice, Room, slice_val, shr_slice_vals, shr_slice_Tells}
use denote.Steps.{nothing}
use denote.Triple.Clauses.{Clauses}
use denote.Triple.Entry.{on_entry}
use denote.Triple.Spec.{Meets, triple_of}
use denote.Triple.Table.{entered}
use denote.Triple.Walked.{says, Stays, stay_dropped, walk_of, ends_at, walked, Goes-dropped, walk_Meets}
use Rattle.ob_c.specs.contracts.texts.start_of as F
use Rattle.ob_c.specs.contracts.texts.start_of.Key.{name as #self}
use Rattle.ob_c.proofs.texts.start_of.Statement as stated
use Rattle.ob_c.proofs.texts.start_of.Code as code

abbrev stayed : Stays (F.ended).signature.params (F.ended).kept
stayed = (stay_dropped (shr_slice_of (0 ∷ []) tt (plain (λ _. u8))) yes, tt)

module _ {M : Type 1} {𝓤 : Ura M} (𝓛 : Logic 𝓤) (at_mem : Memory → SProp 𝓤) (run : Routine → Fun 𝓤) where
  open 𝓛 use {H}

  abbrev clauses : Clauses 𝓤 F.ended
  clauses = F.clauses 𝓛 at_mem run

  module _ (C : Calls 𝓤 H) (Λ : Loops 𝓤 H) (κ : Lft) (q : Share) (b o : ℕ) (xs : List ℕ) where
    abbrev text : Bor (List ℕ)
    text = record { ref_ptr = (b, o); now = xs }

    abbrev bound : (walk_of 𝓛 F.ended stayed clauses).Ghost
    bound = (((κ, tt), (q, tt), tt, (text, tt), (shr_slice_vals text, tt)), tt)

    abbrev Post : Val → SProp 𝓤
    Post = (walk_of 𝓛 F.ended stayed clauses).post bound

    walk : Room u8 (length xs) → ent 𝓤 (on_entry 𝓛 F.signature (κ, tt) (q, tt) (text, tt) (shr_slice_vals text, tt)) (WpFn 𝓤 H C Λ code.function (slice_val (b, o) (length xs) ∷ []) Post)
    walk rm =
        qed 𝓛 ((‵ (flft κ q) ⊛ ‵ ftrue) ∷ ‵ (owns (ShrSlice (named 0) κ u8 ∷ []) (text, tt) (shr_slice_vals text, tt)) ∷ []) ∵ keep ! (0 ∷ []) $ enter ! C Λ code.function (slice_val (b, o) (length xs) ∷ []) _ $
        alloc_all ! (λ l. pass_all ! refl ((tt, (tt, (record { fits = rm.0 }, tt))), tt) $
        sets ! (addr ! (from ! (fld ! refl (hop ! (look_in_at ! 1 (sub ! 0 refl (whole !))) (stop !))))) refl (tt, tt) $
        returns ! (look_at ! 0 refl) $ free_all ! refl $ feq_i ! (List Val) (vptr b o ∷ []) (vptr b o ∷ []) refl $
        suffices ! _ (ends_at 𝓛 F.ended stayed clauses bound (vptr b o) (block_ptr b o) (tt, tt) (tt, tt)) $ says ! refl $
        nothing ! $ nothing ! $ fjoin ! $ join ! $ move ! (1 ∷ 0 ∷ []) $ join ! $ done !)

  meets : (𝓣 : Tables 𝓤 H) → Meets 𝓛 F.signature (WpFn 𝓤 H 𝓣.C 𝓣.Λ code.function) (F.spec 𝓛 at_mem run)
  meets 𝓣 =
      walk_Meets 𝓛 F.ended stayed (Goes-dropped 𝓛 1 (shr_slice_of (0 ∷ []) tt (plain (λ _. u8))) yes (λ κs x f. refl), tt) clauses (WpFn 𝓤 H 𝓣.C 𝓣.Λ code.function) (WpFn-mono 𝓤 H 𝓛.laws 𝓣 code.function)
      (walked 𝓛 F.ended stayed clauses (WpFn 𝓤 H 𝓣.C 𝓣.Λ code.function) (λ κs. (shr_slice_vals, tt)) (λ κs. (shr_slice_Tells (named 0) κs.0 u8, tt))
      (λ κs qs bounds a g are. via 𝓤 _ (fst∗ 𝓤 _ (emp 𝓤)) (walk 𝓣.C 𝓣.Λ κs.0 qs.0 a.0.ref_ptr.0 a.0.ref_ptr.1 a.0.now are.0.0.1)))

pub start_of_spec : {M : Type 1} → stated.statement M
unfolding tables_of
start_of_spec 𝓤 𝓛 𝓜 𝓡 wired =
    let 𝓣 : Tables 𝓤 𝓛.H = tables_of 𝓤 𝓛.H 𝓜 (tables 𝓤 𝓛.H 𝓜 𝓡 𝓡.env) in
    entered 𝓤 𝓛.H (triple_of 𝓛 F.signature (F.spec 𝓛 𝓜.mem 𝓡.returns)) 𝓣.C 𝓣.Λ #self code.function (code.unfolded 𝓤 𝓛.H 𝓜 𝓡 wired)
    (meets 𝓛 𝓜.mem 𝓡.returns 𝓣)
