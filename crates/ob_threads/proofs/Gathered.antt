-- What holds of all workers where the end that is reported is that all lines were run.
use Rattle.std.proofs.Common.{◌≡◌, ◌∙◌, ◌<◌, ℕ, suc, cond, Bool, true, false, List, [], ◌∷◌, ◌++◌, All, OnOk, IfOk, Result, Ok, Err, map, get_or, length, ap, refl, arith}
use Rattle.std.proofs.lemmas.List.{map-append}
use Rattle.std.proofs.lemmas.List.Elements.{All-push}
use Rattle.std.proofs.lemmas.List.Sums.{fold_push}
use Rattle.std.specs.List.{AllZip}
use Rattle.ob_seats.specs.declared.stop.Stopped.{Stopped}
use Rattle.ob_threads.specs.Ended.{SeatOutcome, is_told_first, told_in, told_of}

-- where the one reported is that all was run, both are
pub both_done : (one other : SeatOutcome) (P : Type 0) → (one ≡ Ok tt → other ≡ Ok tt → P) → OnOk (told_of one other) P
both_done (Ok u) (Ok v) P on = on refl refl
both_done (Ok u) (Err e) P on = tt
both_done (Err e) (Ok u) P on = tt
both_done (Err e) (Err f) P on = go (is_told_first e.why f.why e.line f.line)
  where
    go : (b : Bool) → OnOk {T = Unit {0}} {E = Stopped} (cond b (Err e) (Err f)) P
    go true = tt
    go false = tt

pub told_more : {W : Type 0} (ended : W → SeatOutcome) (ws : List W) (w : W) (so_far : SeatOutcome) → OnOk so_far (All (λ x. ended x ≡ Ok tt) ws) → OnOk (told_of so_far (ended w)) (All (λ x. ended x ≡ Ok tt) (ws ++ w ∷ []))
told_more ended ws w (Ok u) all = both_done (Ok u) (ended w) (All (λ x. ended x ≡ Ok tt) (ws ++ w ∷ [])) (λ a b. All-push (λ x. ended x ≡ Ok tt) ws w all b)
told_more ended ws w (Err e) all = both_done (Err e) (ended w) (All (λ x. ended x ≡ Ok tt) (ws ++ w ∷ [])) (λ a b. cc)

-- the end that is reported with one more
pub told_push : {W : Type 0} (ended : W → SeatOutcome) (ws : List W) (w : W) → told_in (map ended (ws ++ w ∷ [])) ≡ told_of (told_in (map ended ws)) (ended w)
told_push ended ws w = ap told_in (map-append ended ws (w ∷ [])) ∙ fold_push told_of (Ok tt) (map ended ws) (ended w)

-- lists of one length are alike place by place
pub zipped : {A B : Type 0} (R : A → B → Type 0) (xs : List A) (ys : List B) → length ys ≡ length xs → ((i : ℕ) (a : A) (b : B) → i < length xs → R (get_or xs i a) (get_or ys i b)) → AllZip R xs ys
zipped R [] [] same at = tt
zipped R [] (y ∷ ys) same at = cc
zipped R (x ∷ xs) [] same at = cc
zipped R (x ∷ xs) (y ∷ ys) same at = (at 0 x y (omega arith), zipped R xs ys (omega (arith, same)) (λ i a b inside. at (suc i) a b (omega (arith, inside))))

-- two facts of what was given make a third
pub if_both : {X E : Type 0} (A B P : X → Type 0) (r : Result X E) → ((x : X) → A x → B x → P x) → IfOk r A → IfOk r B → IfOk r P
if_both A B P (Ok x) on a b = on x a b
if_both A B P (Err e) on a b = tt

pub if_then : {X E : Type 0} (A P : X → Type 0) (r : Result X E) → ((x : X) → A x → P x) → IfOk r A → IfOk r P
if_then A P (Ok x) on a = on x a
if_then A P (Err e) on a = tt

pub then_done : {X E : Type 0} (A P : Type 0) (r : Result X E) → (A → P) → OnOk r A → OnOk r P
then_done A P (Ok x) on a = on a
then_done A P (Err e) on a = tt
