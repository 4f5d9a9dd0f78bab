-- The caller's struct taken apart and put together, for the walks of `caller`.
--     caller_out      what is owned of it: its block, if it is open, and the handle; and its machine value
--     caller_in       the way back
use mathlib.Core.Path.{◌≡◌, refl, subst, ap}
use mathlib.Core.List.{List, [], ◌∷◌, ◌++◌}
use mathlib.Core.Bool.{Bool, true}
use Prim.Native.Nat.{ℕ, ◌<◌, ◌^◌}
use lib.Dec.{T, eqb, lit<}
use seplogic.Ra.Ura.{Ura}
use mir.Syntax.{impl, tnil, dnil, w64, ty_struct, ty_ptr, ty_int, ty_bool, tcons}
use mir.Val.{Val, vint, vptr, vbool, vnull, vstruct, vnil, vcons, of_list, has_ty, WT}
use types.Logic.{Logic}
use types.Kit.{Goal, Item, Seq, Step, step, ‵, ◌$◌, move, drop, fsplit, fjoin, fpick, fpack, feq_l, feq_i}
use denote.RattleType.{Valss}
use denote.RawPtr.{Ptr, RawPtr, ptr_val, rawptr_Lawful}
use denote.Builtin.{u64}
use denote.Laws.{Is, shows}
use denote.Plain.{uint_Makes}
use denote.Signature.{Slot, plain}
use denote.Steps.{peeks, owned, nothing}
use denote.Struct.Struct.{within, as_fields}
use denote.Struct.Owning.{shape, to}
use Rattle.std.specs.Prelude.{Option, None, Some}
use Rattle.core.proofs.alloc.Calls.{α, Fits, handle_tells}
use Rattle.std_alloc.proofs.ResultValues.{and_tt}
use Rattle.std_alloc.proofs.BoxSteps.Form.{Bx}
use Rattle.std_heap.specs.contracts.Global as Heap
use Rattle.std_heap.specs.contracts.GlobalAllocator.TheImpl.{ghosts, dict}
use Rattle.std_heap.proofs.Global.TheLaws as heap
use Rattle.ob_c_state.specs.contracts.machine.HostCore as Core
use Rattle.ob_c_state.proofs.machine.HostCore.TheLaws as core
use Rattle.ob_c_state.specs.contracts.parts.Parts as Parts
use Rattle.ob_c_state.specs.contracts.caller.Ntns as Caller
use Rattle.ob_c_state.specs.contracts.caller.Tested as Tested
use Rattle.ob_c_state.specs.declared.caller.Ntns.{Ntns}
use Rattle.ob_c_state.specs.Caller.{is_open, flag_of, holds_block}

abbrev pub E : Bx
E = record { row = Core.the_row; laws = core.the_row_laws; al = record { row = Heap.the_row; laws = heap.the_row_laws; g = ghosts; d = dict; drops = impl [] tnil dnil } }

abbrev pub FromParts : Slot 0
FromParts = plain (λ _. Parts.the_row Core.the_row Heap.the_row ghosts)

abbrev pub FromGlobal : Slot 0
FromGlobal = plain (λ _. Heap.the_row)

abbrev pub FromCaller : Slot 0
FromCaller = plain (λ _. Caller.the_row)

-- the machine value of the struct: its pointer, its flag and the handle
abbrev pub caller_word : Val → Val → ℕ → Val
caller_word hv p n = vstruct (vcons p (vcons (vint w64 n) (vcons hv vnil)))

pub caller_typed : (hv : Val) (b o n : ℕ) → n < 2 ^ 64 → Fits E.al hv → T (has_ty (ty_struct Caller.struct.name (tcons ty_ptr (tcons (ty_int w64) (tcons (α E.al) tnil)))) (caller_word hv (vptr b o) n)) × WT (caller_word hv (vptr b o) n)
caller_typed hv b o n low fa = (and_tt (has_ty (α E.al) hv) fa.0, (tt, (record { fits = low }, (fa.1, tt))))

pub closed_typed : (hv : Val) → Fits E.al hv → T (has_ty (ty_struct Caller.struct.name (tcons ty_ptr (tcons (ty_int w64) (tcons (α E.al) tnil)))) (caller_word hv vnull 0)) × WT (caller_word hv vnull 0)
closed_typed hv fa = (and_tt (has_ty (α E.al) hv) fa.0, (record { fits = lit< tt }, (record { fits = lit< tt }, (fa.1, tt))))

module _ {M : Type 1} {𝓤 : Ura M} (𝓛 : Logic 𝓤) where
  pub pointer_typed : (p : Ptr) → T (has_ty ty_ptr (ptr_val p)) × WT (ptr_val p)
  pointer_typed p = ((rawptr_Lawful 𝓛).typed p (ptr_val p ∷ []) refl).0

  pub any_typed : (hv : Val) (p : Ptr) (n : ℕ) → n < 2 ^ 64 → Fits E.al hv
      → T (has_ty (ty_struct Caller.struct.name (tcons ty_ptr (tcons (ty_int w64) (tcons (α E.al) tnil)))) (caller_word hv (ptr_val p) n)) × WT (caller_word hv (ptr_val p) n)
  any_typed hv p n low fa = as_fields (ty_ptr ∷ ty_int w64 ∷ α E.al ∷ []) (ptr_val p ∷ vint w64 n ∷ hv ∷ []) (pointer_typed p, ((tt, record { fits = low }), (fa, tt)))

  pub tested_typed : (hv : Val) (p : Ptr) (n : ℕ) (t : Bool) → n < 2 ^ 64 → Fits E.al hv
      → T (has_ty (ty_struct Tested.struct.name (tcons ty_bool (tcons (ty_struct Caller.struct.name (tcons ty_ptr (tcons (ty_int w64) (tcons (α E.al) tnil)))) tnil))) (vstruct (vcons (vbool t) (vcons (caller_word hv (ptr_val p) n) vnil)))) × WT (vstruct (vcons (vbool t) (vcons (caller_word hv (ptr_val p) n) vnil)))
  tested_typed hv p n t low fa = as_fields (ty_bool ∷ ty_struct Caller.struct.name (tcons ty_ptr (tcons (ty_int w64) (tcons (α E.al) tnil))) ∷ []) (vbool t ∷ caller_word hv (ptr_val p) n ∷ []) ((tt, tt), (any_typed hv p n low fa, tt))

-- a core that is there
pub core_there : (c : Option Core.the_row.Denot) → is_open c ≡ true → (x : Core.the_row.Denot) × (c ≡ Some x)
core_there None e = cc
core_there (Some x) e = (x, refl)

-- the flag says whether one is
pub flag_says : (c : Option Core.the_row.Denot) (n : ℕ) → n ≡ flag_of c → eqb n 1 ≡ is_open c
flag_says None n e = ap (λ m. eqb m 1) e
flag_says (Some x) n e = ap (λ m. eqb m 1) e

module _ {M : Type 1} {𝓤 : Ura M} {𝓛 : Logic 𝓤} {K : Type 0} {Γ : List (Item 𝓤)} {G : Goal 𝓤 𝓛.H} where
  pub caller_out : K → (d : Ntns) (vs : List Val)
      → ((hv : Val) → vs ≡ caller_word hv (ptr_val d.pointer) d.flag ∷ [] → d.flag < 2 ^ 64 → Fits E.al hv → d.flag ≡ flag_of d.core
      → Seq K 𝓛 (‵ (holds_block d.alloc d.pointer d.core) ∷ ‵ (Heap.the_row.own_val d.alloc (hv ∷ [])) ∷ Γ) G)
      → Seq K 𝓛 (‵ (Caller.the_row.own_val d vs) ∷ Γ) G
  caller_out t d vs k =
      fsplit t $ fpick t (λ vss. fsplit t $ feq_l t (λ ev. fsplit t $ feq_l t (λ ep. fsplit t $
      peeks t u64 (Is u64) (shows 𝓛 u64) d.flag vss.1.0 (λ is. drop t $ fsplit t $ handle_tells E.al t d.alloc vss.1.1.0 (λ hv ea fa. move t (1 ∷ []) $ drop t $ move t (1 ∷ []) $
      fsplit t $ feq_l t (λ ef. k hv
      (subst (λ (hs : List Val). vs ≡ vstruct (of_list (ptr_val d.pointer ∷ (vint w64 d.flag ∷ (hs ++ [])))) ∷ []) ea
      (subst (λ (ns : List Val). vs ≡ vstruct (of_list (ptr_val d.pointer ∷ (ns ++ (vss.1.1.0 ++ [])))) ∷ []) is.0
      (subst (λ (ps : List Val). vs ≡ vstruct (of_list (ps ++ (vss.1.0 ++ (vss.1.1.0 ++ [])))) ∷ []) ep ev))) is.1 fa ef))))))

  pub caller_in : K → {hv : Val} (d : Ntns) → d.flag < 2 ^ 64 → d.flag ≡ flag_of d.core
      → Step K 𝓛 (‵ (Caller.the_row.own_val d (caller_word hv (ptr_val d.pointer) d.flag ∷ [])) ∷ Γ) G (‵ (holds_block d.alloc d.pointer d.core) ∷ ‵ (Heap.the_row.own_val d.alloc (hv ∷ [])) ∷ Γ) G
  caller_in t {hv} d low ef = step (λ s.
      let w = caller_word hv (ptr_val d.pointer) d.flag in
      feq_i t ℕ d.flag (flag_of d.core) ef $ fjoin t $
      nothing t $ move t (2 ∷ 0 ∷ []) $ fjoin t $ owned t u64 (Is u64) (uint_Makes 𝓛 w64) d.flag (vint w64 d.flag ∷ []) (refl, low) $ fjoin t $
      feq_i t (List Val) (ptr_val d.pointer ∷ []) (ptr_val d.pointer ∷ []) refl $ fjoin t $
      feq_i t (List Val) (w ∷ []) (w ∷ []) refl $ fjoin t $
      fpack t (Valss (RawPtr ∷ u64 ∷ Heap.the_row ∷ [])) (within (shape Caller.the_type) (to Caller.the_type d) (w ∷ [])) (ptr_val d.pointer ∷ [], (vint w64 d.flag ∷ [], (hv ∷ [], tt))) $ fjoin t $ s)
