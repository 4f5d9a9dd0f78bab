-- What holds of the value of an Ok, and of an Err, by what holds of it already.
use Rattle.std.specs.Prelude.{◌≡◌, Result, Ok, Err, IfOk, IfErr, OnErr}
use Rattle.std.proofs.Common.{subst}

pub IfOk-map : {X E : Type 0} (P Q : X → Type 0) (r : Result X E) → ((x : X) → P x → Q x) → IfOk r P → IfOk r Q
IfOk-map P Q (Ok x) f h = f x h
IfOk-map P Q (Err e) f h = h

pub OnErr-map : {X E : Type 0} (P Q : Type 0) (r : Result X E) → (P → Q) → OnErr r P → OnErr r Q
OnErr-map P Q (Ok x) f h = tt
OnErr-map P Q (Err e) f h = f h

-- what holds where a result is an Ok, of one that is, and the same of an Err
pub of_ok : {X E : Type 0} (P : X → Type 0) (r : Result X E) (x : X) → r ≡ Ok x → IfOk r P → P x
of_ok P r x is h = subst (λ (o : Result _ _). IfOk o P) is h

pub of_err : {X E : Type 0} (P : E → Type 0) (r : Result X E) (e : E) → r ≡ Err e → IfErr r P → P e
of_err P r e is h = subst (λ (o : Result _ _). IfErr o P) is h

-- what follows both from what holds of an Ok and from what holds on an Err
pub from_result : {X E : Type 0} (r : Result X E) (P : X → Type 0) (Q R : Type 0) → ((x : X) → P x → R) → (Q → R) → IfOk r P → OnErr r Q → R
from_result (Ok x) P Q R ok err h k = ok x h
from_result (Err e) P Q R ok err h k = err k
