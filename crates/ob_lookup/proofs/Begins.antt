-- Where a name begins, in each state that shows the store.
use Rattle.std.proofs.Common.{◌≡◌, ℕ, Bool, true, false, ◌&&◌, not, if◌then◌else◌, List, Option, None, Some, MatchOption, MatchBool, option_map, IsSome, refl, ap, sym, subst}
use Rattle.std.proofs.lemmas.Bool.{false≢true}
use Rattle.std.specs.Arc.{arc_value}
use Rattle.std.specs.Option.{option_and_then, option_map_or, is_some}
use Rattle.ob_base.specs.declared.status.Status.TheVariants.{ObjectTypeMismatch, ObjectPathSyntaxBad}
use Rattle.ob_model.specs.declared.state.Body.{Body}
use Rattle.ob_model.specs.Names.{begins_with_separator}
use Rattle.ob_model.specs.State.{State, body_of}
use Rattle.ob_model.specs.Paths.{Origin, relative}
use Rattle.ob_model.specs.Procedures.{Procedures}
use Rattle.ob_model.specs.Looks as machine
use Rattle.ob_model.specs.declared.terms.Mode.{Mode}
use Rattle.ob_objects.specs.declared.object.StoredBody.{StoredBody}
use Rattle.ob_objects.specs.declared.object.StoredBody.TheVariants.{Directory, Link, Other}
use Rattle.ob_objects.specs.declared.object.StoredObject.{StoredObject}
use Rattle.ob_objects.specs.Store.{Entries, Shows, stored_at, directory_of, directory_at, body_of_stored}
use Rattle.ob_lookup.specs.Walk.{parses_in, parses_at}
use Rattle.ob_lookup.proofs.Seen.{body_shown}

-- an object that is asked is one for an open, and its kind parses
pub asked_parts : (create parses : Bool) → (not create && parses) ≡ true → (create ≡ false) × (parses ≡ true)
asked_parts true parses e = cc
asked_parts false parses e = (refl, e)

module _ {K T F I : Type 0} (g : Procedures K T F I) (store : Entries F I) (id : ℕ) (name : List ℕ) (inner : begins_with_separator name ≡ false)
    (s : State K T F I) (p : ℕ) (mode : Mode) (n : ℕ) (shows : Shows s store) where
  -- a relative name ends so where it does by the body of its root object
  from_body : (end : machine.Look) → MatchOption (option_map (λ x. body_of_stored x.body) (stored_at store id)) ⊥ (λ body. machine.LooksFrom g s p mode n id body name end)
      → machine.LooksUp g s p mode n (Some id) name end
  from_body end by_body =
      subst (λ (t : Bool). MatchBool t (end ≡ machine.Refused ObjectPathSyntaxBad) (MatchOption (body_of s id) ⊥ (λ body. machine.LooksFrom g s p mode n id body name end))) (sym inner)
      (subst (λ (o : Option (Body F I)). MatchOption o ⊥ (λ body. machine.LooksFrom g s p mode n id body name end)) (sym (body_shown s store shows id)) by_body)

  -- an object that is no directory, and isn't asked
  pub refuses_other : IsSome (stored_at store id) → is_some (directory_at store id) ≡ false → (not mode.create && parses_at g store id) ≡ false
      → machine.LooksUp g s p mode n (Some id) name (machine.Refused ObjectTypeMismatch)
  refuses_other there other unasked = from_body (machine.Refused ObjectTypeMismatch) (go (stored_at store id) there other unasked)
    where
      turned_round : (a b : Bool) → (a && b) ≡ false → (b && a) ≡ false
      turned_round true true e = e
      turned_round true false e = refl
      turned_round false true e = refl
      turned_round false false e = refl

      at_body : (body : StoredBody F I) → is_some (directory_of body) ≡ false → (not mode.create && parses_in g body) ≡ false
          → machine.LooksFrom g s p mode n id (body_of_stored body) name (machine.Refused ObjectTypeMismatch)
      at_body (Directory es shadow) e f = absurd (false≢true (sym e))
      at_body (Link target) e f = refl
      at_body (Other face inner') e f =
          ap (λ (b : Bool). if b then machine.Parse id name n else machine.Refused ObjectTypeMismatch) (sym (turned_round (not mode.create) (g.parses (g.kind_of (arc_value face))) f))

      go : (o : Option (StoredObject F I)) → IsSome o → is_some (option_and_then (λ x. directory_of x.body) o) ≡ false → (not mode.create && option_map_or (λ x. parses_in g x.body) o false) ≡ false
          → MatchOption (option_map (λ x. body_of_stored x.body) o) ⊥ (λ body. machine.LooksFrom g s p mode n id body name (machine.Refused ObjectTypeMismatch))
      go None e f u = absurd (false≢true e)
      go (Some x) e f u = at_body x.body f u

  -- an object that is asked
  pub asks_there : mode.create ≡ false → parses_at g store id ≡ true → machine.LooksUp g s p mode n (Some id) name (machine.Parse id name n)
  asks_there opens parses = from_body (machine.Parse id name n) (go (stored_at store id) parses)
    where
      at_body : (body : StoredBody F I) → parses_in g body ≡ true → machine.LooksFrom g s p mode n id (body_of_stored body) name (machine.Parse id name n)
      at_body (Directory es shadow) e = absurd (false≢true e)
      at_body (Link target) e = absurd (false≢true e)
      at_body (Other face inner') e =
          let asked : (g.parses (g.kind_of (arc_value face)) && not mode.create) ≡ true = rw e (ap not opens) in
          ap (λ (b : Bool). if b then machine.Parse id name n else machine.Refused ObjectTypeMismatch) (sym asked)

      go : (o : Option (StoredObject F I)) → option_map_or (λ x. parses_in g x.body) o false ≡ true
          → MatchOption (option_map (λ x. body_of_stored x.body) o) ⊥ (λ body. machine.LooksFrom g s p mode n id body name (machine.Parse id name n))
      go None e = absurd (false≢true e)
      go (Some x) e = at_body x.body e

  -- a directory
  pub begins_there : (start : Origin × List ℕ) (end : machine.Look) → is_some (directory_at store id) ≡ true → start ≡ relative id name
      → machine.Looks g s p mode n start.0 start.1 end → machine.LooksUp g s p mode n (Some id) name end
  begins_there start end there is_start looks = from_body end (go (stored_at store id) there)
    where
      from_there : machine.Looks g s p mode n (relative id name).0 (relative id name).1 end
      from_there = subst (λ (at : Origin × List ℕ). machine.Looks g s p mode n at.0 at.1 end) is_start looks

      at_body : (body : StoredBody F I) → is_some (directory_of body) ≡ true → machine.LooksFrom g s p mode n id (body_of_stored body) name end
      at_body (Directory es shadow) e = from_there
      at_body (Link target) e = absurd (false≢true e)
      at_body (Other face inner') e = absurd (false≢true e)

      go : (o : Option (StoredObject F I)) → is_some (option_and_then (λ x. directory_of x.body) o) ≡ true
          → MatchOption (option_map (λ x. body_of_stored x.body) o) ⊥ (λ body. machine.LooksFrom g s p mode n id body name end)
      go None e = absurd (false≢true e)
      go (Some x) e = at_body x.body e
