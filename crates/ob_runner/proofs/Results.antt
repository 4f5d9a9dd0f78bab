-- What holds of a result that is told.
use Rattle.std.proofs.Common.{◌≡◌, Result, Ok, Err, OnOk, OnErr, IfErr, sym, subst}

module _ {X E : Type 0} (P : Type 0) (r : Result X E) where
  -- where the fact holds anyhow, or the result is the other one
  pub on_ok : P → OnOk r P
  on_ok h = go r
    where
      go : (r : Result X E) → OnOk r P
      go (Ok x) = h
      go (Err e) = tt

  pub on_err : P → OnErr r P
  on_err h = go r
    where
      go : (r : Result X E) → OnErr r P
      go (Ok x) = tt
      go (Err e) = h

  pub ok_of_err : (e : E) → r ≡ Err e → OnOk r P
  ok_of_err e is = subst (λ (x : Result X E). OnOk x P) (sym is) tt

  pub err_of_ok : (x : X) → r ≡ Ok x → OnErr r P
  err_of_ok x is = subst (λ (y : Result X E). OnErr y P) (sym is) tt

module _ {X E : Type 0} (P : E → Type 0) (r : Result X E) where
  pub if_err_of_ok : (x : X) → r ≡ Ok x → IfErr r P
  if_err_of_ok x is = subst (λ (y : Result X E). IfErr y P) (sym is) tt

  pub if_err_of_err : (e : E) → r ≡ Err e → P e → IfErr r P
  if_err_of_err e is h = subst (λ (y : Result X E). IfErr y P) (sym is) h
