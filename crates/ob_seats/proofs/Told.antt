-- What holds where all went well.
use Rattle.std.proofs.Common.{◌≡◌, ◌≢◌, ℕ, not, true, false, Result, Ok, Err, OnOk, OnErr, IfOk, IfErr, List, [], ◌∷◌, ◌++◌, ap, refl, eq-eqb}
use Rattle.std.proofs.lemmas.Bool.{ne_eqb}
use Rattle.ob_requests.specs.Variables.{Variables}
use Rattle.ob_effects.specs.Waiting.{is_waiting}

module _ {X E : Type 0} (A B P : Type 0) (r : Result X E) where
  -- two facts make a third
  pub both_ok : (A → B → P) → OnOk r A → OnOk r B → OnOk r P
  both_ok on a b = go r a b
    where
      go : (r : Result X E) → OnOk r A → OnOk r B → OnOk r P
      go (Ok x) a b = on a b
      go (Err e) a b = tt

module _ {X E : Type 0} (A P : Type 0) (r : Result X E) where
  pub then_ok : (A → P) → OnOk r A → OnOk r P
  then_ok on a = go r a
    where
      go : (r : Result X E) → OnOk r A → OnOk r P
      go (Ok x) a = on a
      go (Err e) a = tt

-- nothing is added
pub adds_none : {X : Type 0} (xs : List X) → xs ≡ xs ++ []
adds_none [] = refl
adds_none (x ∷ xs) = λ i. x ∷ adds_none xs i

-- an open waits under a variable, or none does
pub waits : (variables : Variables) (process : ℕ) (variable : List ℕ) → variables.tickets process variable ≢ 0 → is_waiting variables process variable ≡ true
waits variables process variable some = ap not (ne_eqb (variables.tickets process variable) 0 some)

pub waits_not : (variables : Variables) (process : ℕ) (variable : List ℕ) → variables.tickets process variable ≡ 0 → is_waiting variables process variable ≡ false
waits_not variables process variable none = ap not (eq-eqb (variables.tickets process variable) 0 none)

-- a fact of what was given makes another one
pub if_ok : {X E : Type 0} (A P : X → Type 0) (r : Result X E) → ((x : X) → A x → P x) → IfOk r A → IfOk r P
if_ok A P (Ok x) on a = on x a
if_ok A P (Err e) on a = tt

-- so does one of what went wrong
pub if_err : {X E : Type 0} (A P : E → Type 0) (r : Result X E) → ((e : E) → A e → P e) → IfErr r A → IfErr r P
if_err A P (Ok x) on a = tt
if_err A P (Err e) on a = on e a

-- and three facts of what went wrong
pub if_all_err : {X E : Type 0} (A : E → Type 0) (B C : Type 0) (P : E → Type 0) (r : Result X E) → ((e : E) → A e → B → C → P e)
    → IfErr r A → OnErr r B → OnErr r C → IfErr r P
if_all_err A B C P (Ok x) on a b c = tt
if_all_err A B C P (Err e) on a b c = on e a b c
