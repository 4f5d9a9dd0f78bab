-- A new object among those of a store, with its name: what the store has of its directories then, and
-- what the state is; and what it is when the object is taken back.
use Rattle.std.proofs.Common.{◌≡◌, ◌≢◌, ◌∙◌, ℕ, ◌+◌, ◌<◌, Bool, true, false, ◌||◌, not, cond, List, [], ◌∷◌, ◌++◌, length, map, filter, find, Option, None, Some, option_map, All, IsSome, refl, ap, sym, subst, append-nil, arith}
use Rattle.std.specs.Prelude.{MatchOption}
use Rattle.std.proofs.lemmas.List.Elements.{All-weaker}
use Rattle.ob_model.specs.Sound.{Stands}
use Rattle.ob_model.proofs.Soundness.{stands_drawn}
use Rattle.std.specs.Option.{unwrap_or, is_some}
use Rattle.ob_model.specs.declared.state.Object.{Object}
use Rattle.ob_model.specs.declared.state.Row.{Row}
use Rattle.ob_model.specs.State.{State, is_directory, is_store_full, table_size, most_handles}
use Rattle.ob_model.specs.Closing.{is_handle}
use Rattle.ob_model.specs.declared.terms.Reason.TheVariants.{Created}
use Rattle.ob_model.specs.Procedures.{Procedures}
use Rattle.ob_model.specs.Settle.{deleted_one}
use Rattle.ob_model.specs.Grants.{open_refusal_of, open_refusal, with_open, opened_body, opened_set, opened_object, is_table_full}
use Rattle.ob_model.specs.Creates.{new_rows, dropped}
use Rattle.ob_objects.specs.declared.object.StoredObject.{StoredObject}
use Rattle.ob_objects.specs.Store.{Entries, NameEntry, IsStore, stored_at, directory_at, entries_in, body_of_stored, objects_of, rows_of}
use Rattle.ob_objects.specs.Changes.{with_entry, without_object, refusal_to_open, with_opened, set_after_open}
use Rattle.ob_objects.proofs.Free.{name_may_be_inserted}
use Rattle.ob_objects.proofs.Follow.{newest_is_free, store_with_object, new_object_is_stored, object_taken_back, name_taken_back, refusal_is_machines, set_after_open_is_machines, new_object_opens}
use Rattle.ob_objects.proofs.Shown.{new_object_has_no_row, new_name_is_last, names_change_no_object, opened_is_machines}
use Rattle.ob_lookup.proofs.Stays.{directory_with_object}
use Rattle.ob_processes.specs.Running.{Running}
use Rattle.ob_space.specs.declared.placing.Spot.{Spot}
use Rattle.ob_space.specs.Namespace.{Parts, state_of, holding, none_running}
use Rattle.ob_space.specs.Placing.{spot_of, IsVacantSpot, IsFreeSpot, with_placed, without_name_in, IsOpened, IsTakenBack, placed}
use Rattle.ob_space.specs.Orderly.{IsOrderly}
use Rattle.ob_space.proofs.Granted.{has_room}
use Rattle.ob_space.proofs.Handles.{is_itself, taken_back}
use Rattle.ob_space.proofs.Orders.{object_orderly, drawn_orderly}

module _ {F I : Type 0} where
  -- a free spot is free in a store with an object more
  pub free_behind : (store new : Entries F I) (id : ℕ) (x : StoredObject F I) (stamp : ℕ) (spot : Option Spot) (at : Spot) → spot ≡ Some at
      → stored_at store id ≡ None → new ≡ with_entry store id x → IsFreeSpot store stamp spot → IsFreeSpot new stamp (Some at)
  free_behind store new id x stamp spot at is unused put free =
      let here : IsFreeSpot store stamp (Some at) = subst (IsFreeSpot store stamp) is free in
      let same : directory_at new at.directory ≡ directory_at store at.directory =
      ap (λ (es : Entries F I). directory_at es at.directory) put ∙ directory_with_object store id at.directory x unused here.0 in
      subst (λ (o : Option (List NameEntry)). IsSome o × All (λ e. e.name ≢ at.name) (unwrap_or o []) × All (λ e. e.stamp < stamp) (unwrap_or o [])) (sym same) here

  -- and it brings no row
  pub unnamed_behind : (store new : Entries F I) (id : ℕ) (x : StoredObject F I) → new ≡ with_entry store id x → entries_in x.body ≡ []
      → All (λ r. r.object ≢ id) (rows_of store) → All (λ r. r.object ≢ id) (rows_of new)
  unnamed_behind store new id x put empty unnamed =
      subst (λ (rows : List Row). All (λ r. r.object ≢ id) rows) (sym (ap (λ (es : Entries F I). rows_of es) put ∙ new_object_has_no_row store id x empty)) unnamed

  -- an object that came is taken back
  pub object_back : (store put kept left : Entries F I) (id : ℕ) (x : StoredObject F I) → stored_at store id ≡ None
      → put ≡ with_entry store id x → kept ≡ put → left ≡ without_object kept id → left ≡ store
  object_back store put kept left id x unused came same gone =
      gone ∙ ap (λ (es : Entries F I). without_object es id) (same ∙ came) ∙ object_taken_back store id x unused

  -- the objects and the rows of a store in which an object was placed
  objects_placed : (store : Entries F I) (id stamp : ℕ) (spot : Option Spot) (x : StoredObject F I)
      → objects_of (with_placed store id stamp spot x) ≡ objects_of (with_entry store id x)
  objects_placed store id stamp None x = refl
  objects_placed store id stamp (Some at) x =
      (names_change_no_object (with_entry store id x) at.directory (record { stamp = stamp; name = at.name; object = id }) stamp).0

  rows_placed : (store : Entries F I) (id stamp : ℕ) (spot : Option Spot) (x : StoredObject F I) → IsStore store → IsFreeSpot store stamp spot
      → entries_in x.body ≡ [] → stored_at store id ≡ None → All (λ r. r.stamp < stamp) (rows_of store)
      → rows_of (with_placed store id stamp spot x) ≡ rows_of store ++ new_rows (spot_of spot) stamp id
  rows_placed store id stamp None x is free empty unused stamped = new_object_has_no_row store id x empty ∙ sym (append-nil (rows_of store))
  rows_placed store id stamp (Some at) x is free empty unused stamped =
      new_name_is_last (with_entry store id x) at.directory (record { stamp = stamp; name = at.name; object = id }) (store_with_object store id x is unused empty)
      (free_behind store (with_entry store id x) id x stamp (Some at) at refl unused refl free).0
      (subst (All (λ r. r.stamp < stamp)) (sym (new_object_has_no_row store id x empty)) stamped)
      ∙ ap (λ rows. rows ++ new_rows (Some (at.directory, at.name)) stamp id) (new_object_has_no_row store id x empty)

  -- an object that was placed is taken back
  placed_back : (store : Entries F I) (id stamp : ℕ) (spot : Option Spot) (x : StoredObject F I)
      → entries_in x.body ≡ [] → All (λ r. r.stamp < stamp) (rows_of store)
      → without_name_in (with_placed store id stamp spot x) (option_map (λ at. at.directory) spot) stamp ≡ with_entry store id x
  placed_back store id stamp None x empty stamped = refl
  placed_back store id stamp (Some at) x empty stamped =
      name_taken_back (with_entry store id x) at.directory (record { stamp = stamp; name = at.name; object = id })
      (subst (All (λ r. r.stamp < stamp)) (sym (new_object_has_no_row store id x empty)) stamped)

  -- and then the store is as it was
  pub room_back : (store put left : Entries F I) (id stamp : ℕ) (spot : Option Spot) (directory : Option ℕ) (x : StoredObject F I)
      → entries_in x.body ≡ [] → All (λ r. r.stamp < stamp) (rows_of store) → stored_at store id ≡ None → put ≡ with_placed store id stamp spot x
      → directory ≡ option_map (λ at. at.directory) spot → left ≡ without_object (without_name_in put directory stamp) id → left ≡ store
  room_back store put left id stamp spot directory x empty stamped unused put_is directory_is gone =
      gone ∙ (λ i. without_object (without_name_in (put_is i) (directory_is i) stamp) id)
      ∙ ap (λ (es : Entries F I). without_object es id) (placed_back store id stamp spot x empty stamped) ∙ object_taken_back store id x unused

module _ {K T F I : Type 0} (g : Procedures K T F I) (store put : Entries F I) (same : objects_of put ≡ objects_of store) (set : T) (id : ℕ) where
  -- stores of the same objects are opened alike
  abbrev t : Entries F I → State K T F I
  t es = holding set (objects_of es) (rows_of es) none_running

  opened_alike : objects_of (with_opened g put set id Created) ≡ objects_of (with_opened g store set id Created)
  opened_alike = (opened_is_machines g put set id Created).0 ∙ ap (map (opened_object g set id Created)) same ∙ sym (opened_is_machines g store set id Created).0

  refused_alike : refusal_to_open g put set id Created ≡ refusal_to_open g store set id Created
  refused_alike =
      refusal_is_machines g (t put) put (record { objects = refl; rows = refl }) id Created
      ∙ ap (λ (os : List (Object F I)). open_refusal g (holding {K = K} set os [] none_running) id Created) same
      ∙ sym (refusal_is_machines g (t store) store (record { objects = refl; rows = refl }) id Created)

  set_alike : set_after_open g put set id Created ≡ set_after_open g store set id Created
  set_alike =
      set_after_open_is_machines g (t put) put (record { objects = refl; rows = refl }) id Created
      ∙ ap (λ (os : List (Object F I)). (with_open g (holding {K = K} set os [] none_running) id Created).set) same
      ∙ sym (set_after_open_is_machines g (t store) store (record { objects = refl; rows = refl }) id Created)

-- An object is put into a store, and the set opens it or refuses.
module _ {K T F I : Type 0} (g : Procedures K T F I) (set : T) (store : Entries F I) (id stamp : ℕ) (is : IsStore store) (unused : stored_at store id ≡ None) (spot : Option Spot)
    (free : IsFreeSpot store stamp spot) (stamped : All (λ r. r.stamp < stamp) (rows_of store)) (x : StoredObject F I) (empty : entries_in x.body ≡ [])
    (put : Entries F I) (put_is : put ≡ with_placed store id stamp spot x) where
  put_objects : objects_of put ≡ objects_of (with_entry store id x)
  put_objects = ap (λ (es : Entries F I). objects_of es) put_is ∙ objects_placed store id stamp spot x

  put_rows : rows_of put ≡ rows_of store ++ new_rows (spot_of spot) stamp id
  put_rows = ap (λ (es : Entries F I). rows_of es) put_is ∙ rows_placed store id stamp spot x is free empty unused stamped

  asked : refusal_to_open g put set id Created ≡ open_refusal_of g set (body_of_stored x.body) Created
  asked = refused_alike g (with_entry store id x) put put_objects set id ∙ (new_object_opens g store set id x Created unused).1

  -- the open that the set accepts
  pub is_opened : (left : Entries F I) (after : T) → refusal_to_open g put set id Created ≡ None → left ≡ with_opened g put set id Created → after ≡ set_after_open g put set id Created
      → IsOpened g set store id stamp spot x after left
  is_opened left after accepted left_is set_is = record {
    accepted = sym asked ∙ accepted;
    objects =
        ap (λ (es : Entries F I). objects_of es) left_is ∙ opened_alike g (with_entry store id x) put put_objects set id
        ∙ (new_object_opens g store set id x Created unused).0;
    rows = ap (λ (es : Entries F I). rows_of es) left_is ∙ (opened_is_machines g put set id Created).1 ∙ put_rows;
    set = set_is ∙ set_alike g (with_entry store id x) put put_objects set id ∙ (new_object_opens g store set id x Created unused).2;
  }

  module _ (kept : Entries F I) (kept_is : kept ≡ put) (directory : Option ℕ) (directory_is : directory ≡ option_map (λ at. at.directory) spot) where
    unnamed : without_name_in kept directory stamp ≡ with_entry store id x
    unnamed = (λ i. without_name_in ((kept_is ∙ put_is) i) (directory_is i) stamp) ∙ placed_back store id stamp spot x empty stamped

    -- what is taken back is the object
    pub object_there : stored_at (without_name_in kept directory stamp) id ≡ Some x
    object_there = ap (λ (es : Entries F I). stored_at es id) unnamed ∙ new_object_is_stored store id x unused

    pub object_is : (stored : StoredObject F I) → Some stored ≡ stored_at (without_name_in kept directory stamp) id → stored ≡ x
    object_is stored e = ap (λ (o : Option (StoredObject F I)). unwrap_or o stored) (e ∙ object_there)

    -- the open that the set refuses
    pub is_taken_back : (left : Entries F I) (asked_set after : T) (stored : StoredObject F I) (code : ℕ) → refusal_to_open g put set id Created ≡ Some code
        → left ≡ without_object (without_name_in kept directory stamp) id → asked_set ≡ set → Some stored ≡ stored_at (without_name_in kept directory stamp) id
        → after ≡ deleted_one g (body_of_stored stored.body) asked_set → IsTakenBack g set store x code after left
    is_taken_back left asked_set after stored code refused left_is set_is stored_is after_is = record {
      refused = sym asked ∙ refused;
      store = left_is ∙ ap (λ (es : Entries F I). without_object es id) unnamed ∙ object_taken_back store id x unused;
      set = after_is ∙ (λ i. deleted_one g (body_of_stored (object_is stored stored_is i).body) (set_is i));
    }

-- what a test of two says
first_false : (a b : Bool) → (a || b) ≡ false → a ≡ false
first_false true b h = h
first_false false b h = refl

module _ (K : Type 0) {T F I : Type 0} (g : Procedures K T F I) (idle : I → Type 0) (a : Parts K T F I) (orderly : IsOrderly idle (state_of K a)) where
  abbrev s : State K T F I
  s = state_of K a

  -- the next id is above those of the store, and so it is free
  pub next_is_free : stored_at a.store a.next_id ≡ None
  next_is_free = newest_is_free a.store a.next_id orderly.drawn

  -- and no row names it
  pub next_is_unnamed : All (λ r. r.object ≢ a.next_id) (rows_of a.store)
  next_is_unnamed =
      All-weaker (λ r. Stands s r.object) (λ r. r.object ≢ a.next_id)
      (λ r there same. let drawn : r.object < a.next_id = stands_drawn a.next_id s.objects r.object orderly.drawn there in omega (arith, drawn, same)) s.rows orderly.standing

  -- a vacant spot is free in the store
  pub vacant_is_free : IsStore a.store → (spot : Option Spot) → IsVacantSpot s spot → IsFreeSpot a.store a.next_stamp spot
  vacant_is_free is None vacant = tt {0}
  vacant_is_free is (Some at) vacant =
      name_may_be_inserted s a.store is (record { objects = refl; rows = refl }) at.directory at.name vacant.1.0 a.next_stamp vacant.0 vacant.1.1 orderly.stamped

  module _ (p : ℕ) (room : (is_table_full s p || is_store_full s) ≡ false) where
    table_room : is_table_full s p ≡ false
    table_room = first_false (is_table_full s p) (is_store_full s) room

    room_in_table : table_size s p < most_handles
    room_in_table = has_room s p table_room

    module _ (spot : Option Spot) (vacant : IsVacantSpot s spot) (x : StoredObject F I) (value : ℕ) (inherit : Bool) (running : Running)
        (unused : find (is_handle p value) a.processes.handles ≡ None)
        (last : running.handles ≡ a.processes.handles ++ record { process = p; value = value; object = a.next_id; inherit = inherit; order = a.next_order } ∷ [])
        (same : running.processes ≡ a.processes.processes) where
      -- the directory of a vacant spot is there
      inside : (spot : Option Spot) → IsVacantSpot s spot → MatchOption (spot_of spot) (Unit {0}) (λ at. is_directory s at.0 ≡ true)
      inside None vacant = tt {0}
      inside (Some at) vacant = vacant.0

      stamps : (spot : Option Spot) → s.next_stamp + cond (is_some spot) 1 0 ≡ s.next_stamp + length (new_rows (spot_of spot) s.next_stamp s.next_id)
      stamps None = refl
      stamps (Some at) = refl

      -- the object that the set opened
      module _ (after : T) (left : Entries F I) (opened : IsOpened g a.set a.store a.next_id a.next_stamp spot x after left) (drawn : ℕ) (drawn_is : drawn ≡ cond (is_some spot) 1 0) where
        pub is_placed : record s { objects = objects_of left; rows = rows_of left; handles = running.handles; processes = running.processes; set = after; next_id = a.next_id + 1; next_stamp = a.next_stamp + drawn; next_order = a.next_order + 1 }
            ≡ placed g s p (spot_of spot) x value inherit
        is_placed =
            let stamp = ap (λ n. a.next_stamp + n) drawn_is ∙ stamps spot in
            λ i. record s {
              objects = opened.objects i;
              rows = opened.rows i;
              handles = last i;
              processes = same i;
              set = opened.set i;
              next_id = a.next_id + 1;
              next_stamp = stamp i;
              next_order = a.next_order + 1;
            }

        pub placed_is_orderly : IsOrderly idle (record s { objects = objects_of left; rows = rows_of left; handles = running.handles; processes = running.processes; set = after; next_id = a.next_id + 1; next_stamp = a.next_stamp + drawn; next_order = a.next_order + 1 })
        placed_is_orderly =
            let body = body_of_stored x.body in
            subst (λ (t : State K T F I). IsOrderly idle t) (sym is_placed)
            (object_orderly idle s orderly (opened_set g s.set body Created) (opened_body g s.set body Created) x.permanent x.exclusive (spot_of spot) p value inherit
            room_in_table (inside spot vacant))

      -- the handle is taken back
      module _ (less : Running) (taken : less.handles ≡ filter (λ h. not (is_handle p value h)) running.handles) (processes : less.processes ≡ running.processes) where
        handles_back : less.handles ≡ a.processes.handles
        handles_back = taken ∙ ap (filter (λ h. not (is_handle p value h))) last ∙ taken_back p value a.processes.handles _ unused (is_itself p value)

        pub is_back : (after : T) (left : Entries F I) → left ≡ a.store → after ≡ a.set
            → record s { objects = objects_of left; rows = rows_of left; handles = less.handles; processes = less.processes; set = after } ≡ s
        is_back after left left_is set_is = λ i. record s {
          objects = objects_of (left_is i);
          rows = rows_of (left_is i);
          handles = handles_back i;
          processes = (processes ∙ same) i;
          set = set_is i;
        }

        module _ (after : T) (left : Entries F I) (code : ℕ) (back : IsTakenBack g a.set a.store x code after left) where
          pub is_dropped : record s { objects = objects_of left; rows = rows_of left; handles = less.handles; processes = less.processes; set = after; next_id = a.next_id + 1 } ≡ dropped g s (body_of_stored x.body)
          is_dropped = λ i. record s {
            objects = objects_of (back.store i);
            rows = rows_of (back.store i);
            handles = handles_back i;
            processes = (processes ∙ same) i;
            set = back.set i;
            next_id = a.next_id + 1;
          }

          pub dropped_is_orderly : IsOrderly idle (record s { objects = objects_of left; rows = rows_of left; handles = less.handles; processes = less.processes; set = after; next_id = a.next_id + 1 })
          dropped_is_orderly = subst (λ (t : State K T F I). IsOrderly idle t) (sym is_dropped) (drawn_orderly g idle s (deleted_one g (body_of_stored x.body) a.set) orderly)
