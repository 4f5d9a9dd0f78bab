-- The laws of a set that refuses opens, from those of the set below.
use Rattle.std.proofs.Common.{◌≡◌, ◌∙◌, ℕ, ◌-◌, ◌==◌, Bool, true, false, cond, Option, Some, refl, ap}
use Rattle.ob_model.specs.Procedures.{Procedures, FrontIsUsed, RefusedOpenKeeps}
use Rattle.ob_plain.specs.Plain.{unless_told}
use Rattle.ob_plain.specs.Refusing.{refusing_procedures}
use Rattle.ob_plain.specs.declared.refusing.Refusing.{Refusing}

module _ {K T F I : Type 0} (g : Procedures K T F I) where
  pub refusing_refused : RefusedOpenKeeps g → RefusedOpenKeeps (refusing_procedures g)
  refusing_refused law refusing inner reason k told = go (refusing.left == 0) told
    where
      opened : T × I
      opened = g.opened refusing.part inner reason

      refusal : Option ℕ
      refusal = g.refuses_to_open refusing.part inner reason

      after : T × I → Option ℕ → Refusing T × I
      after left it = (record refusing { part = left.0; left = unless_told it refusing.left (refusing.left - 1) }, left.1)

      go : (b : Bool) → cond b (Some 6) refusal ≡ Some k → cond b (refusing, inner) (after opened refusal) ≡ (refusing, inner)
      go true it = refl
      go false it = ap (λ left. after left refusal) (law refusing.part inner reason k it) ∙ ap (after (refusing.part, inner)) it

  pub refusing_front : FrontIsUsed g → FrontIsUsed (refusing_procedures g)
  refusing_front law face next rest used inner e =
      let uses = law face next rest used inner e in
      record { within = uses.within; some_bytes = uses.some_bytes; onward = uses.onward }
