-- An instance comes into a store under an id that no object has, and goes out of it again.
use Rattle.std.proofs.Common.{◌≡◌, ◌≢◌, ◌∙◌, ℕ, ◌<◌, ◌==◌, not, true, false, List, All, Option, None, Some, filter, find, option_map, is_some, ap, refl, sym, subst, arith, Global}
use Rattle.std.specs.declared.sync.Arc.{Arc}
use Rattle.std.specs.Option.{option_and_then, option_map_or, unwrap_or}
use Rattle.std.specs.Prelude.{IsSome, Result, Err, OnErr}
use Rattle.std.proofs.lemmas.Bool.{false≢true, ne_eqb}
use Rattle.std.proofs.lemmas.List.Elements.{All-weaker}
use Rattle.ob_base.specs.declared.status.Status.{Status}
use Rattle.ob_model.specs.declared.state.Body.{Body}
use Rattle.ob_model.specs.declared.state.Body.TheVariants as model
use Rattle.ob_model.specs.declared.state.Object.{Object}
use Rattle.ob_model.specs.declared.state.PendingOpen.{PendingOpen}
use Rattle.ob_model.specs.declared.state.Row.{Row}
use Rattle.ob_model.specs.declared.terms.GrantOptions.{GrantOptions}
use Rattle.ob_model.specs.Grants.{Grants}
use Rattle.ob_model.specs.PendingOpens.{face_in, pending_of, with_instance}
use Rattle.ob_model.specs.declared.terms.Reason.{Reason}
use Rattle.ob_model.specs.Procedures.{Procedures}
use Rattle.ob_model.specs.Sound.{IsSound, IsDirectory}
use Rattle.ob_model.specs.State.{State, object_of, insert_object, is_directory_body}
use Rattle.ob_model.proofs.Finds.{filter_all, find_none}
use Rattle.ob_model.proofs.InOrder.{free_from_other, in_order-back}
use Rattle.ob_model.proofs.PendingSound.{has_ticket, HasTicket}
use Rattle.ob_model.proofs.SoundPaths.{of_some}
use Rattle.ob_objects.specs.declared.object.StoredBody.{StoredBody}
use Rattle.ob_objects.specs.declared.object.StoredBody.TheVariants.{Directory, Link, Other}
use Rattle.ob_objects.specs.declared.object.StoredObject.{StoredObject}
use Rattle.ob_objects.specs.Store.{Entries, stored_at, objects_of, rows_of, body_of_stored, object_of_stored}
use Rattle.ob_objects.specs.Changes.{with_entry, without_object}
use Rattle.ob_objects.proofs.Follow.{new_object_in_order, object_goes_alone}
use Rattle.ob_objects.proofs.Shown.{find_object, rows_go_with_directory}
use Rattle.ob_space.specs.Namespace.{Parts, state_of}
use Rattle.ob_opens.specs.Instance.{instance_object}
use Rattle.ob_opens.proofs.MadeOpens.{made_there}
use Rattle.ob_opens.proofs.Endings.{its_ticket}

none_mapped : {X Y : Type 0} (f : X → Y) (o : Option X) → option_map f o ≡ None → o ≡ None
none_mapped f None e = refl
none_mapped f (Some x) e = cc

abbrev inner_in : {F I : Type 0} → Body F I → Option I
inner_in (model.Directory shadow) = None
inner_in (model.Link target) = None
inner_in (model.Other face inner) = Some inner

module _ {F I : Type 0} where
  others : (id : ℕ) (xs : List (Object F I)) → All (λ x. x.id ≢ id) xs → All (λ x. (x.id == id) ≡ false) xs
  others id xs free = All-weaker (λ x. x.id ≢ id) (λ x. (x.id == id) ≡ false) (λ x other. ne_eqb x.id id other) xs free

  -- an id that no object has is free in the store
  pub free_in_store : (store : Entries F I) (id : ℕ) → All (λ x. x.id ≢ id) (objects_of store) → stored_at store id ≡ None
  free_in_store store id free =
      none_mapped (object_of_stored id) (stored_at store id) (sym (find_object store id) ∙ find_none (λ o. o.id == id) (objects_of store) (others id (objects_of store) free))

  -- the objects and the rows of a store with an instance
  module _ (store new : Entries F I) (id : ℕ) (x : StoredObject F I) (put : new ≡ with_entry store id x) where
    pub put_objects : objects_of new ≡ insert_object (object_of_stored id x) (objects_of store)
    put_objects = ap (λ (es : Entries F I). objects_of es) put ∙ new_object_in_order store id x

  -- what is stored under an id is what the state has of it
  module _ (store : Entries F I) (id : ℕ) where
    stored_body : (x : Option (StoredObject F I)) → option_map (λ y. y.body) (option_map (object_of_stored id) x) ≡ option_map (λ y. body_of_stored y.body) x
    stored_body None = refl
    stored_body (Some y) = refl

    pub found_body : (x : Option (StoredObject F I)) → x ≡ stored_at store id
        → option_map (λ y. y.body) (find (λ y. y.id == id) (objects_of store)) ≡ option_map (λ y. body_of_stored y.body) x
    found_body x got = ap (option_map (λ y. y.body)) (find_object store id ∙ ap (option_map (object_of_stored id)) (sym got)) ∙ stored_body x

    -- an object of the set is there, and is no directory and no link
    module _ (there : IsSome (option_and_then face_in (option_map (λ y. y.body) (find (λ y. y.id == id) (objects_of store))))) where
      pub face_there : (x : Option (StoredObject F I)) → x ≡ stored_at store id → is_some (option_and_then face_in (option_map (λ y. body_of_stored y.body) x)) ≡ true
      face_there x got = subst (λ (b : Option (Body F I)). is_some (option_and_then face_in b) ≡ true) (found_body x got) there

      pub not_none : stored_at store id ≡ None → ⊥
      not_none none = false≢true (face_there None (sym none))

    -- what has a face is of the set
    pub face_only : (body : StoredBody F I) → is_some (face_in (body_of_stored body)) ≡ true → ((face : Arc F Global) → (inner : I) → body ≡ Other face inner → ⊥) → ⊥
    face_only (Directory entries shadow) has none = false≢true has
    face_only (Link target) has none = false≢true has
    face_only (Other face inner) has none = none face inner refl

module _ {K T F I : Type 0} (s : State K T F I) (sound : IsSound s) (ticket : ℕ) (free : All (λ x. x.id ≢ ticket) s.objects) (face : F) (inner : I) where
  none : object_of s ticket ≡ None
  none = find_none (λ y. y.id == ticket) s.objects (others ticket s.objects free)

  another : (o : ℕ) → IsDirectory s o → o ≢ ticket
  another o is same =
      let some : IsDirectory s ticket = subst (λ n. IsDirectory s n) same is in
      false≢true (sym (ap (λ (x : Option (Object F I)). option_map_or is_directory_body (option_map (λ y. y.body) x) false) none) ∙ some)

  no_rows : All (λ r. not (r.directory == ticket) ≡ true) s.rows
  no_rows =
      All-weaker (λ (r : Row). IsDirectory s r.directory) (λ r. not (r.directory == ticket) ≡ true) (λ r inside. ap not (ne_eqb r.directory ticket (another r.directory inside))) s.rows sound.rows.inside

  -- the state that has the instance
  module _ (v : State K T F I) (is : v ≡ with_instance s ticket face inner) where
    body_there : option_map (λ y. y.body) (object_of v ticket) ≡ Some (model.Other face inner)
    body_there =
        ap (λ (w : State K T F I). option_map (λ y. y.body) (object_of w ticket)) is ∙ ap (option_map (λ (y : Object F I). y.body)) (made_there s ticket free face inner)

    -- it is one of the set
    pub instance_there : IsSome (option_and_then face_in (option_map (λ y. y.body) (object_of v ticket)))
    instance_there = subst (λ (b : Option (Body F I)). IsSome (option_and_then face_in b)) (sym body_there) refl

    -- and what is found of it is what came
    module _ (f : F) (i : I) (found : option_map (λ y. y.body) (object_of v ticket) ≡ Some (model.Other f i)) where
      pub same_face : f ≡ face
      same_face = ap (λ (b : Option (Body F I)). unwrap_or (option_and_then face_in b) face) (sym found ∙ body_there)

      pub same_inner : i ≡ inner
      same_inner = ap (λ (b : Option (Body F I)). unwrap_or (option_and_then inner_in b) inner) (sym found ∙ body_there)

    -- without it the state is what it was
    pub taken_out : record v { objects = filter (λ x. not (x.id == ticket)) v.objects; rows = filter (λ r. not (r.directory == ticket)) v.rows } ≡ s
    taken_out =
        ap (λ (w : State K T F I). record w { objects = filter (λ x. not (x.id == ticket)) w.objects; rows = filter (λ r. not (r.directory == ticket)) w.rows }) is
        ∙ (λ i. record s {
          objects = in_order-back (λ x. x.id) (instance_object ticket face inner) s.objects (free_from_other (λ x. x.id) (instance_object ticket face inner) s.objects free) i;
          rows = filter_all (λ r. not (r.directory == ticket)) s.rows no_rows i;
        })

-- the state of parts whose store got the instance
module _ (K : Type 0) {T F I : Type 0} (a : Parts K T F I) (s : State K T F I) (shown : state_of K a ≡ s) (ticket : ℕ) (face : F) (inner : I) (store : Entries F I)
    (objects : objects_of store ≡ insert_object (instance_object ticket face inner) (objects_of a.store)) (rows : rows_of store ≡ rows_of a.store) where
  pub put_in : state_of K (record a { store = store }) ≡ with_instance s ticket face inner
  put_in = (λ i. record (state_of K a) { objects = objects i; rows = rows i }) ∙ ap (λ (w : State K T F I). with_instance w ticket face inner) shown

-- the state of parts whose store lost the instance
module _ (K : Type 0) {T F I : Type 0} (a : Parts K T F I) (s : State K T F I) (sound : IsSound s) (ticket : ℕ) (free : All (λ x. x.id ≢ ticket) s.objects) (face : F) (inner : I)
    (is : state_of K a ≡ with_instance s ticket face inner) where
  pub back_again : (store : Entries F I) → store ≡ without_object a.store ticket → state_of K (record a { store = store }) ≡ s
  back_again store gone =
      (λ i. state_of K (record a { store = gone i }))
      ∙ (λ i. record (state_of K a) { objects = object_goes_alone a.store ticket i; rows = rows_go_with_directory a.store ticket i })
      ∙ taken_out s sound ticket free face inner (state_of K a) is

-- the ticket of a pending open was drawn
module _ {K T F I : Type 0} (g : Procedures K T F I) (s : State K T F I) (ticket : ℕ) (x : PendingOpen K) (found : pending_of s ticket ≡ Some x) (sound : IsSound s) where
  pub ticket_drawn : ticket < s.next_id
  ticket_drawn =
      let numbers : HasTicket s x = of_some (HasTicket s) (pending_of s ticket) x found (has_ticket s ticket sound) in
      let drawn : x.ticket < s.next_id = numbers.1 in
      let is = its_ticket g s ticket x found in
      omega (arith, drawn, is)

-- the state with the instance, and as a grant leaves it that is refused
module _ {K T F I : Type 0} (s : State K T F I) (ticket : ℕ) (face : F) (inner : I) (v : State K T F I) where
  abbrev pub HasInstance : Type 0
  HasInstance = v ≡ with_instance s ticket face inner

  pub refused_has_instance : (g : Procedures K T F I) (p : ℕ) (asked : GrantOptions) (reason : Reason) (put : State K T F I) → put ≡ with_instance s ticket face inner → (result : Result ℕ Status) (status : Status)
      → result ≡ Err status → Grants g put p ticket asked reason result v → HasInstance
  refused_has_instance g p asked reason put is result status refused granted = (subst (λ (r : Result ℕ Status). Grants g put p ticket asked reason r v) refused granted).1 ∙ is

-- what holds on an Err holds where there is one
pub of_on_err : {X E : Type 0} (Holds : Type 0) (result : Result X E) (e : E) → result ≡ Err e → OnErr result Holds → Holds
of_on_err Holds result e is holds = subst (λ (r : Result _ _). OnErr r Holds) is holds
