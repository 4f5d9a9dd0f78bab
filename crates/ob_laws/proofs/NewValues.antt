-- Inner values with which objects come to be: a new object's, and those that calls on other objects leave alone.
use Rattle.std.proofs.Common.{◌≡◌, ◌∙◌, ℕ, ◌==◌, Bool, true, false, cond, ◌||◌, if◌then◌else◌, List, [], ◌∷◌, find, Option, None, Some, is_some, option_map, All, refl, ap, sym, subst, eqb-true, eq-eqb}
use Rattle.std.specs.Option.{option_map_or, option_and_then, option_or}
use Rattle.std.proofs.lemmas.Bool.{false≢true, ne_eqb}
use Rattle.std.proofs.lemmas.List.Elements.{All-head, All-tail}
use Rattle.ob_model.specs.declared.state.Body.{Body}
use Rattle.ob_model.specs.declared.state.Body.TheVariants.{Directory, Link, Other}
use Rattle.ob_model.specs.declared.state.Object.{Object}
use Rattle.ob_model.specs.State.{State, body_of, insert_object}
use Rattle.ob_model.specs.Procedures.{Procedures}
use Rattle.ob_model.specs.Calls.{is_set_body, is_of_set}
use Rattle.ob_model.proofs.InOrder.{IsFree, in_order-find}
use Rattle.ob_model.proofs.Finds.{find_none}
use Rattle.ob_laws.specs.CallsMade.{Made, Inside, inner_of, inner_in, called, refuses, after_call, after_calls, FindValues}

pub or_none : {I : Type 0} (found : Option I) → option_or found None ≡ found
or_none None = refl
or_none (Some x) = refl

or_assoc : {I : Type 0} (a b c : Option I) → option_or a (option_or b c) ≡ option_or (option_or a b) c
or_assoc None b c = refl
or_assoc (Some x) b c = refl

pub some_or : {I : Type 0} (a b : Option I) → is_some (option_or a b) ≡ (is_some a || is_some b)
some_or None b = refl
some_or (Some x) b = refl

module _ {T I : Type 0} where
  -- with the inner values of objects that come to be
  abbrev pub joined : Inside T I → (ℕ → Option I) → Inside T I
  joined v made = record { set = v.set; inner = λ o. option_or (v.inner o) (made o) }

  -- none come
  pub joined-none : (v : Inside T I) (made : ℕ → Option I) → ((o : ℕ) → made o ≡ None) → joined v made ≡ v
  joined-none v made none = λ i. record { set = v.set; inner = λ o. (ap (option_or (v.inner o)) (none o) ∙ or_none (v.inner o)) i }

  -- some come, and then others
  pub joined-twice : (v : Inside T I) (made more : ℕ → Option I) → joined v (λ o. option_or (made o) (more o)) ≡ joined (joined v made) more
  joined-twice v made more = λ i. record { set = v.set; inner = λ o. or_assoc (v.inner o) (made o) (more o) i }

  pub joined-same : (v : Inside T I) (made more : ℕ → Option I) → ((o : ℕ) → made o ≡ more o) → joined v made ≡ joined v more
  joined-same v made more same = λ i. record { set = v.set; inner = λ o. option_or (v.inner o) (same o i) }

module _ {K T F I : Type 0} (g : Procedures K T F I) (made : ℕ → Option I) where
  -- calls on other objects leave them as they come
  call_apart : (v : Inside T I) (m : Made) → made m.object ≡ None → after_call g (joined v made) m ≡ joined (after_call g v m) made
  call_apart v m none =
      ap (λ found. option_map_or (λ n. record { set = (called g m.call v.set n).0; inner = λ o. if o == m.object then (called g m.call v.set n).1 else option_or (v.inner o) (made o) }) found (joined v made))
      (ap (option_or (v.inner m.object)) none ∙ or_none (v.inner m.object))
      ∙ go (v.inner m.object)
    where
      go : (found : Option I)
          → option_map_or (λ n. record { set = (called g m.call v.set n).0; inner = λ o. if o == m.object then (called g m.call v.set n).1 else option_or (v.inner o) (made o) }) found (joined v made)
          ≡ joined (option_map_or (λ n. record { set = (called g m.call v.set n).0; inner = λ o. if o == m.object then (called g m.call v.set n).1 else v.inner o }) found v) made
      go None = refl
      go (Some n) = λ i. record { set = (called g m.call v.set n).0; inner = λ o. each o i }
        where
          each : (o : ℕ) → (if o == m.object then (called g m.call v.set n).1 else option_or (v.inner o) (made o)) ≡ option_or (if o == m.object then (called g m.call v.set n).1 else v.inner o) (made o)
          each o = at (o == m.object) refl
            where
              at : (b : Bool) → (o == m.object) ≡ b
                  → (if b then (called g m.call v.set n).1 else option_or (v.inner o) (made o)) ≡ option_or (if b then (called g m.call v.set n).1 else v.inner o) (made o)
              at true same = sym (ap (option_or ((called g m.call v.set n).1)) (subst (λ k. made k ≡ None) (sym (eqb-true o m.object same)) none) ∙ or_none ((called g m.call v.set n).1))
              at false other = refl

  pub calls_apart : (v : Inside T I) (log : List Made) → All (λ m. made m.object ≡ None) log → after_calls g (joined v made) log ≡ joined (after_calls g v log) made
  calls_apart v [] none = refl
  calls_apart v (m ∷ log) none =
      ap (λ w. after_calls g w log) (call_apart v m (All-head (λ x. made x.object ≡ None) m log none)) ∙ calls_apart (after_call g v m) log (All-tail (λ x. made x.object ≡ None) m log none)

  -- and find what they found
  pub finds_apart : (v : Inside T I) (log : List Made) → All (λ m. made m.object ≡ None) log → FindValues g v log → FindValues g (joined v made) log
  finds_apart v [] none finds = tt
  finds_apart v (m ∷ log) none finds =
      let first : made m.object ≡ None = All-head (λ x. made x.object ≡ None) m log none in (
        ap (λ found. is_some (option_or (v.inner m.object) found)) first ∙ ap is_some (or_none (v.inner m.object)) ∙ finds.0,
        ap (λ found. option_and_then (refuses g m.call v.set) (option_or (v.inner m.object) found)) first ∙ ap (option_and_then (refuses g m.call v.set)) (or_none (v.inner m.object)) ∙ finds.1,
        subst (λ w. FindValues g w log) (sym (call_apart v m first)) (finds_apart (after_call g v m) log (All-tail (λ x. made x.object ≡ None) m log none) finds.2),
      )

module _ {K T F I : Type 0} where
  -- an object of the set is one that has an inner value
  pub of_set-inner : (s : State K T F I) (o : ℕ) → is_of_set s o ≡ is_some (inner_in s o)
  of_set-inner s o = go (body_of s o)
    where
      go : (found : Option (Body F I)) → option_map_or is_set_body found false ≡ is_some (option_and_then inner_of found)
      go None = refl
      go (Some (Directory shadow)) = refl
      go (Some (Link target)) = refl
      go (Some (Other face inner)) = refl

  -- an object more, of a number that none has
  pub inner-inserted : (s : State K T F I) (x : Object F I) (o : ℕ) → IsFree (λ y. y.id) x s.objects
      → option_and_then inner_of (option_map (λ y. y.body) (find (λ y. y.id == o) (insert_object x s.objects))) ≡ option_or (inner_in s o) (if o == x.id then inner_of x.body else None)
  inner-inserted s x o free =
      ap (λ found. option_and_then inner_of (option_map (λ y. y.body) found)) (in_order-find (λ y. y.id) x s.objects o free) ∙ go (find (λ y. y.id == o) s.objects) refl (x.id == o) refl
    where
      go : (found : Option (Object F I)) → find (λ y. y.id == o) s.objects ≡ found → (b : Bool) → (x.id == o) ≡ b
          → option_and_then inner_of (option_map (λ y. y.body) (option_or found (cond b (Some x) None)))
          ≡ option_or (option_and_then inner_of (option_map (λ y. y.body) found)) (if o == x.id then inner_of x.body else None)
      go None e true same = sym (ap (λ b. if b then inner_of x.body else None) (eq-eqb o x.id (sym (eqb-true x.id o same))))
      go None e false other = sym (ap (λ b. if b then inner_of x.body else None) (ne_eqb o x.id (λ same. false≢true (sym other ∙ eq-eqb x.id o (sym same)))))
      go (Some y) e true same =
          absurd (false≢true (ap is_some (sym (find_none (λ z. z.id == o) s.objects (subst (λ n. All (λ z. (z.id == n) ≡ false) s.objects) (eqb-true x.id o same) free)) ∙ e)))
      go (Some y) e false other =
          sym (ap (λ b. option_or (inner_of y.body) (if b then inner_of x.body else None)) (ne_eqb o x.id (λ same. false≢true (sym other ∙ eq-eqb x.id o (sym same)))) ∙ or_none (inner_of y.body))
