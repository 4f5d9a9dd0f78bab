-- What holds of the opening state.
use Rattle.std.proofs.Common.{ℕ, ◌<◌, List, [], ◌∷◌, All, refl, arith}
use Rattle.std.specs.List.{AllPairs}
use Rattle.std.proofs.lemmas.List.Elements.{All-nil, All-cons, All-weaker, All-from_recursion}
use Rattle.std.proofs.lemmas.List.Kept.{AllPairs-cons}
use Rattle.ob_model.specs.declared.state.Held.{Held}
use Rattle.ob_model.specs.declared.state.Object.{Object}
use Rattle.ob_model.specs.Opening.{opening}
use Rattle.ob_model.specs.State.{State}
use Rattle.ob_model.proofs.Soundness.{opening_sound}
use Rattle.ob_model.proofs.Staying.{opening_settled}
use Rattle.ob_space.specs.Orderly.{IsBetweenSteps, IsIdleUnheld, IsOrderly}

-- objects of which each has a greater number than the one before it
Rise : {F I : Type 0} → ℕ → List (Object F I) → Type 0
Rise n [] = Unit {0}
Rise n (x ∷ xs) = (n < x.id) × Rise x.id xs

above : {F I : Type 0} (n m : ℕ) (xs : List (Object F I)) → n < m → All (λ x. m < x.id) xs → All (λ x. n < x.id) xs
above n m xs less all = All-weaker (λ x. m < x.id) (λ x. n < x.id) (λ x more. omega (arith, less, more)) xs all

all_above : {F I : Type 0} (n : ℕ) (xs : List (Object F I)) → Rise n xs → All (λ x. n < x.id) xs
unfolding Rise
all_above n [] rise = All-nil (λ x. n < x.id)
all_above n (x ∷ xs) rise = All-cons (λ y. n < y.id) x xs rise.0 (above n x.id xs rise.0 (all_above x.id xs rise.1))

ids_rise : {F I : Type 0} (n : ℕ) (xs : List (Object F I)) → Rise n xs → AllPairs (λ a b. a.id < b.id) xs
unfolding Rise
ids_rise n [] rise = λ i j d less within. absurd (omega (arith, within))
ids_rise n (x ∷ xs) rise = AllPairs-cons (λ a b. a.id < b.id) x xs (all_above x.id xs rise.1) (ids_rise x.id xs rise.1)

module _ {K T F I : Type 0} (idle : I → Type 0) (set : T) where
  opening_orderly : IsOrderly idle (opening {K = K} {F = F} {I = I} set)
  unfolding Rise
  opening_orderly =
      let sound = opening_sound {K = K} {F = F} {I = I} set in
      let s : State K T F I = opening set in
      record {
        root = refl;
        rising = ids_rise 0 s.objects (omega arith, (omega arith, (omega arith, (omega arith, (omega arith, (omega arith, tt))))));
        drawn = sound.objects.drawn;
        standing = sound.rows.standing;
        descending = sound.rows.descending;
        stamped = sound.rows.stamped;
        unheld = All-from_recursion (IsIdleUnheld idle s.handles) s.objects ((λ h. tt), ((λ h. tt), ((λ h. tt), ((λ h. tt), ((λ h. tt), ((λ h. tt), tt))))));
        opened = All-nil (λ (h : Held). h.order < 1);
        numbered = sound.processes.numbered;
        few_handles = λ p. omega arith;
        few_processes = omega arith;
      }

  pub opening_core : IsBetweenSteps idle (opening {K = K} {F = F} {I = I} set)
  opening_core = record {
    orderly = opening_orderly;
    sound = opening_sound set;
    settled = opening_settled set;
  }
