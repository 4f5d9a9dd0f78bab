-- A namespace that was opened has seats and viewers in range.
use Rattle.std.proofs.Common.{◌≡◌, ⊎_elim, Result, Ok, Err, inl, inr, refl, arith}
use Rattle.ob_view.proofs.opened.open_viewed.Goals as goal

never : {A E Goal : Type 0} (r : Result A E) (x : A) (e : E) → r ≡ Ok x → r ≡ Err e → Goal
never (Ok y) x e is same = cc
never (Err f) x e is same = cc

pub returns-in-Ok-clause-range : goal.returns-in-Ok-clause-range
returns-in-Ok-clause-range g c =
    λ out. ⊎_elim (λ none. never (Ok (c.in_ok-locked.locked, c.in_ok-locked.passes)) _ _ refl (c.in_ok-locked.ensures.seats (inl none)))
    (λ others. ⊎_elim (λ many. never (Ok (c.in_ok-locked.locked, c.in_ok-locked.passes)) _ _ refl (c.in_ok-locked.ensures.seats (inr many)))
    (λ viewers. ⊎_elim (λ none. absurd (c.if-viewers-eq0.false none)) (λ many. absurd (omega (arith, many, c.if-viewers-gt-MOST_VIEWERS.false))) viewers) others) out
