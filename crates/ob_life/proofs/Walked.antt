-- What the calls of settling make of a namespace: one object forgotten, deleted and settled; and the two that
-- may go after a close.
use Rattle.std.proofs.Common.{◌≡◌, ℕ, ◌<◌, ◌≤◌, Bool, true, false, not, ◌||◌, ◌&&◌, ◌==◌, cond, List, [], ◌∷◌, suc, get_or, find, refl, ap, ◌∙◌, sym, subst, arith, filter, All, eq-eqb, eqb-true, inr}
use Rattle.std.specs.Prelude.{Option, None, Some, option_map, MatchOption}
use Rattle.std.specs.List.{list_any}
use Rattle.std.specs.Option.{option_and_then, option_map_or, is_some}
use Rattle.std.proofs.lemmas.Bool.{false≢true, ne_eqb}
use Rattle.std.proofs.lemmas.List.Elements.{All-filter}
use Rattle.std.proofs.lemmas.List.Folds.{list_any-append}
use Rattle.ob_model.specs.declared.state.Row.{Row}
use Rattle.ob_model.specs.declared.state.Held.{Held}
use Rattle.ob_model.specs.declared.state.Object.{Object}
use Rattle.ob_model.specs.Procedures.{Procedures}
use Rattle.ob_model.specs.State.{State, root_id, body_of, shadow_in, shadow_of}
use Rattle.ob_model.specs.Settle.{has_shadow, is_alive_itself, is_shadowing, is_kept, is_alive, is_permanent, has_handle, has_name, is_pinned, is_mapped, holds_kept, deleted_one, settle, IsSettled}
use Rattle.ob_model.proofs.Finds.{filter_all, list_any_weaker}
use Rattle.ob_objects.specs.declared.named.EntryPlace.{EntryPlace}
use Rattle.ob_objects.specs.declared.object.StoredObject.{StoredObject}
use Rattle.ob_objects.specs.declared.standing.Standing.{Standing}
use Rattle.ob_objects.specs.Changes as changes
use Rattle.ob_objects.specs.Named.{place_of}
use Rattle.ob_objects.specs.Standing.{standing_among, standing_at}
use Rattle.ob_objects.specs.Store.{Entries, NameEntry, IsStore, Shows, stored_at, body_of_stored, object_of_stored, objects_of, rows_of, place_at}
use Rattle.ob_objects.proofs.Follow.{found_is_stored, object_goes_alone}
use Rattle.ob_objects.proofs.Shown.{names_change_no_object, rows_go_with_directory}
use Rattle.ob_objects.proofs.Stands.{any_found, is_mapped_some, name_goes, no_name, one_directory, placed}
use Rattle.ob_space.specs.Namespace.{Parts, state_of}
use Rattle.ob_space.specs.Orderly.{IsIdleBody, IsIdleUnheld, IsOrderly}
use Rattle.ob_life.specs.Settling.{is_shadow, is_held_up, held_up_by, without_names, with_handle_to, without_object, settled_one, settled_unless, shadow_left, shadow_left_unless, with_shadow_settled, AreSettled, MaySettle, StaysBut, AreShadowsFit}
use Rattle.ob_life.proofs.Judged.{or_none, all_found}
use Rattle.ob_life.proofs.Turns.{no_map, any_turn, all_turned}
use Rattle.ob_space.proofs.Orders.{settled_orderly}
use Rattle.ob_space.proofs.Stored.{body_is}

-- ---- the name of one object

no_entry : NameEntry
no_entry = record { stamp = 0; name = []; object = 0 }

module _ {F I : Type 0} (store : Entries F I) (is : IsStore store) (id : ℕ) where
  module _ (p : EntryPlace) (at : place_at store id ≡ Some p) (left : Entries F I) (others : left ≡ changes.without_name store p.directory p.stamp) where
    pub objects_stay : objects_of left ≡ objects_of store
    objects_stay = ap objects_of others ∙ (names_change_no_object store p.directory no_entry p.stamp).1

    pub name_gone : rows_of left ≡ filter (λ r. not (r.object == id)) (rows_of store)
    name_gone = ap rows_of others ∙ name_goes store is id p at

  pub none_gone : place_at store id ≡ None → rows_of store ≡ filter (λ r. not (r.object == id)) (rows_of store)
  none_gone none = sym (filter_all (λ r. not (r.object == id)) (rows_of store) (λ k d below. ap not (no_name store is id none k d below)))

-- ---- what is told of an object without a handle

-- the tests in the order in which they are made
in_turn : (root named holds mapped pinned : Bool) → (holds || named || root || mapped || pinned) ≡ (root || false || pinned || mapped || named || holds)
in_turn true named true mapped pinned = refl
in_turn true true false mapped pinned = refl
in_turn true false false mapped pinned = refl
in_turn false true true mapped true = refl
in_turn false true true true false = refl
in_turn false true true false false = refl
in_turn false true false mapped true = refl
in_turn false true false true false = refl
in_turn false true false false false = refl
in_turn false false true mapped true = refl
in_turn false false true true false = refl
in_turn false false true false false = refl
in_turn false false false true true = refl
in_turn false false false true false = refl
in_turn false false false false true = refl
in_turn false false false false false = refl

-- where no name of an object lies in it, what lies in it is told without its names too
others_lie : (rows : List Row) (id : ℕ) → All (λ r. r.directory < r.object) rows → list_any (λ r. r.directory == id) (filter (λ r. not (r.object == id)) rows) ≡ list_any (λ r. r.directory == id) rows
others_lie [] id descending = refl
others_lie (r ∷ rs) id descending = go (r.object == id) refl (others_lie rs id (λ k d below. descending (suc k) d (omega (arith, below))))
  where
    go : (b : Bool) → (r.object == id) ≡ b → list_any (λ q. q.directory == id) (filter (λ q. not (q.object == id)) rs) ≡ list_any (λ q. q.directory == id) rs
        → list_any (λ q. q.directory == id) (cond (not b) (r ∷ filter (λ q. not (q.object == id)) rs) (filter (λ q. not (q.object == id)) rs)) ≡ ((r.directory == id) || list_any (λ q. q.directory == id) rs)
    go true own more =
        more ∙ ap (λ b. b || list_any (λ q. q.directory == id) rs) (sym (ne_eqb r.directory id (λ same. omega (arith, same, eqb-true r.object id own, descending 0 r (omega arith)))))
    go false other more = ap (λ b. (r.directory == id) || b) more

module _ {K T F I : Type 0} (s : State K T F I) (id : ℕ) (unheld : has_handle s id ≡ false) (descending : All (λ r. r.directory < r.object) s.rows) where
  -- whether it stays, by what is told of it
  pub stays_as_told : (standing : Standing) → standing ≡ standing_among s.objects s.rows id
      → held_up_by s.objects (record { processes = s.processes; handles = s.handles }) s.pending id standing ≡ is_held_up (without_names s id) id
  stays_as_told standing told =
      ap (held_up_by s.objects (record { processes = s.processes; handles = s.handles }) s.pending id) told
      ∙ ap (λ b. b || is_shadow s.objects id) (in_turn (id == root_id) (is_permanent s id && is_some (option_map place_of (find (λ r. r.object == id) s.rows))) (list_any (λ r. r.directory == id) s.rows) (is_mapped s id) (is_pinned s id)
      ∙ (λ i. (id == root_id) || sym unheld i || is_pinned s id || is_mapped s id || named (is_permanent s id) i || holds (is_permanent s id) i))
    where
      -- its name, by whether it is permanent
      named : (p : Bool) → (p && is_some (option_map place_of (find (λ r. r.object == id) s.rows)))
          ≡ (p && list_any (λ r. r.object == id) (cond (p || has_handle s id) s.rows (filter (λ r. not (r.object == id)) s.rows)))
      named true = is_mapped_some place_of (find (λ r. r.object == id) s.rows) ∙ sym (any_found (λ r. r.object == id) s.rows)
      named false = refl

      -- and what lies in it
      holds : (p : Bool) → list_any (λ r. r.directory == id) s.rows ≡ list_any (λ r. r.directory == id) (cond (p || has_handle s id) s.rows (filter (λ r. not (r.object == id)) s.rows))
      holds true = refl
      holds false = sym (ap (λ b. list_any (λ r. r.directory == id) (cond b s.rows (filter (λ r. not (r.object == id)) s.rows))) unheld ∙ others_lie s.rows id descending)

module _ (K : Type 0) {T F I : Type 0} (g : Procedures K T F I) (a : Parts K T F I) (id : ℕ) where
  -- ---- one object is deleted

  pub is_deleted : (x : Option (StoredObject F I)) (left : Entries F I) (after : T) → x ≡ stored_at a.store id → left ≡ changes.without_object a.store id
      → after ≡ option_map_or (λ y. deleted_one g (body_of_stored y.body) a.set) x a.set
      → record (state_of K a) { objects = objects_of left; rows = rows_of left; set = after } ≡ without_object g (state_of K a) id
  is_deleted x left after there others told =
      λ i. record (state_of K a) {
        objects = (ap objects_of others ∙ object_goes_alone a.store id) i;
        rows = (ap rows_of others ∙ rows_go_with_directory a.store id) i;
        set = (told ∙ mapped x ∙ ap (λ o. option_map_or (λ body. deleted_one g body a.set) o a.set) (sym (body_is (state_of K a) a.store (record { objects = refl; rows = refl }) id x there))) i;
      }
    where
      mapped : (x : Option (StoredObject F I)) → option_map_or (λ y. deleted_one g (body_of_stored y.body) a.set) x a.set
          ≡ option_map_or (λ body. deleted_one g body a.set) (option_map (λ y. body_of_stored y.body) x) a.set
      mapped None = refl
      mapped (Some y) = refl

  -- ---- one object is settled

  -- the name goes unless the object is permanent
  module _ (is : IsStore a.store) (unheld : has_handle (state_of K a) id ≡ false) (standing : Standing) (told : standing ≡ standing_at a.store id) (store : Entries F I)
      (left : store ≡ cond standing.permanent a.store (option_map_or (λ (p : EntryPlace). changes.without_name a.store p.directory p.stamp) standing.place a.store)) where
    name_left : (objects_of store ≡ objects_of a.store) × (rows_of store ≡ (without_names (state_of K a) id).rows)
    name_left = go (is_permanent (state_of K a) id) (place_at a.store id) refl refl (left ∙ ap (λ (x : Standing). cond x.permanent a.store (option_map_or (λ (p : EntryPlace). changes.without_name a.store p.directory p.stamp) x.place a.store)) told)
      where
        go : (p : Bool) (o : Option EntryPlace) → is_permanent (state_of K a) id ≡ p → place_at a.store id ≡ o
            → store ≡ cond p a.store (option_map_or (λ (x : EntryPlace). changes.without_name a.store x.directory x.stamp) o a.store)
            → (objects_of store ≡ objects_of a.store) × (rows_of store ≡ cond (p || has_handle (state_of K a) id) (rows_of a.store) (filter (λ r. not (r.object == id)) (rows_of a.store)))
        go true o e at then = (ap objects_of then, ap rows_of then)
        go false None e at then = (
          ap objects_of then,
          ap rows_of then ∙ none_gone a.store is id at ∙ sym (ap (λ b. cond b (rows_of a.store) (filter (λ r. not (r.object == id)) (rows_of a.store))) unheld),
        )
        go false (Some x) e at then = (
          objects_stay a.store is id x at store then,
          name_gone a.store is id x at store then ∙ sym (ap (λ b. cond b (rows_of a.store) (filter (λ r. not (r.object == id)) (rows_of a.store))) unheld),
        )

    forgotten : state_of K (record a { store = store }) ≡ without_names (state_of K a) id
    forgotten = λ i. record (state_of K a) { objects = name_left.0 i; rows = name_left.1 i }

    -- whether it stays is told from the objects that are there
    pub held_told : All (λ r. r.directory < r.object) (rows_of a.store) → (result b : Bool) → result ≡ held_up_by (objects_of store) a.processes a.pending id standing → result ≡ b → is_held_up (without_names (state_of K a) id) id ≡ b
    held_told descending result b tells is =
        sym (stays_as_told (state_of K a) id unheld descending standing told)
        ∙ ap (λ (xs : List (Object F I)). held_up_by xs a.processes a.pending id standing) (sym name_left.0) ∙ sym tells ∙ is

    pub settled_gone : (u : State K T F I) → u ≡ without_object g (state_of K (record a { store = store })) id → is_held_up (without_names (state_of K a) id) id ≡ false → u ≡ settled_one g (state_of K a) id
    settled_gone u is up =
        is ∙ ap (λ t. without_object g t id) forgotten
        ∙ sym (ap (λ b. cond b (without_names (state_of K a) id) (without_object g (without_names (state_of K a) id) id)) up)

    pub settled_there : is_held_up (without_names (state_of K a) id) id ≡ true → state_of K (record a { store = store }) ≡ settled_one g (state_of K a) id
    settled_there up = forgotten ∙ sym (ap (λ b. cond b (without_names (state_of K a) id) (without_object g (without_names (state_of K a) id) id)) up)

    -- and its shadow is told
    pub shadow_gone : (o : Option ℕ) → o ≡ option_and_then (λ x. shadow_in x.body) (find (λ x. x.id == id) (objects_of store)) → is_held_up (without_names (state_of K a) id) id ≡ false → o ≡ shadow_left (state_of K a) id
    shadow_gone o is up =
        is ∙ ap (λ (xs : List (Object F I)). option_and_then (λ x. shadow_in x.body) (find (λ x. x.id == id) xs)) name_left.0 ∙ through (find (λ x. x.id == id) (objects_of a.store))
        ∙ sym (ap (λ b. cond b None (shadow_of (state_of K a) id)) up)
      where
        through : (x : Option (Object F I)) → option_and_then (λ y. shadow_in y.body) x ≡ option_and_then shadow_in (option_map (λ y. y.body) x)
        through None = refl
        through (Some x) = refl

    pub shadow_there : is_held_up (without_names (state_of K a) id) id ≡ true → None ≡ shadow_left (state_of K a) id
    shadow_there up = sym (ap (λ b. cond b None (shadow_of (state_of K a) id)) up)

    pub idle_there : (idle : I → Type 0) → All (IsIdleUnheld idle a.processes.handles) (objects_of a.store) → MatchOption (body_of (state_of K (record a { store = store })) id) (Unit {0}) (IsIdleBody idle)
    idle_there idle unheld_idle =
        subst (λ o. MatchOption o (Unit {0}) (IsIdleBody idle)) (sym (body_is (state_of K (record a { store = store })) store (record { objects = refl; rows = refl }) id (stored_at store id) refl))
        (go (stored_at store id) refl)
      where
        go : (x : Option (StoredObject F I)) → stored_at store id ≡ x → MatchOption (option_map (λ y. body_of_stored y.body) x) (Unit {0}) (IsIdleBody idle)
        go None e = tt
        go (Some x) e =
            all_found (IsIdleUnheld idle a.processes.handles) (λ o. o.id == id) (objects_of store) (object_of_stored id x)
            (subst (All (IsIdleUnheld idle a.processes.handles)) (sym name_left.0) unheld_idle) (found_is_stored store id ∙ ap (option_map (object_of_stored id)) e)
            unheld

-- ---- one object, and then the directory of its name

-- what is left may be settled further
pub may_then : {K T F I : Type 0} (g : Procedures K T F I) (idle : I → Type 0) (s : State K T F I) (o : ℕ) → MaySettle idle s → (t : State K T F I) → t ≡ settled_one g s o → MaySettle idle t
may_then {K} {T} {F} {I} g idle s o may t is = subst (MaySettle idle) (sym is) (go (is_held_up (without_names s o) o))
  where
    named : (b : Bool) → All (λ (r : Row). r.directory < r.object) (cond b s.rows (filter (λ r. not (r.object == o)) s.rows))
    named true = may.descending
    named false = All-filter (λ r. not (r.object == o)) (λ r. r.directory < r.object) s.rows may.descending

    go : (b : Bool) → MaySettle idle (cond b (without_names s o) (without_object g (without_names s o) o))
    go true = record { unheld = may.unheld; descending = named (is_permanent s o || has_handle s o) }
    go false = record {
      unheld = All-filter (λ x. not (x.id == o)) (IsIdleUnheld idle s.handles) s.objects may.unheld;
      descending = All-filter (λ r. not (r.directory == o)) (λ r. r.directory < r.object) (without_names s o).rows (named (is_permanent s o || has_handle s o));
    }

pub may_unless : {K T F I : Type 0} (g : Procedures K T F I) (idle : I → Type 0) (s : State K T F I) (touched : ℕ → Bool) (o : ℕ) → MaySettle idle s
    → (t : State K T F I) → t ≡ settled_unless g touched s o → MaySettle idle t
may_unless {K} {T} {F} {I} g idle s touched o may t is = subst (MaySettle idle) (sym is) (go (touched o))
  where
    go : (b : Bool) → MaySettle idle (cond b s (settled_one g s o))
    go true = may
    go false = may_then g idle s o may (settled_one g s o) refl

pub may_shadow : {K T F I : Type 0} (g : Procedures K T F I) (idle : I → Type 0) (s : State K T F I) (touched : ℕ → Bool) (shadow : Option ℕ) → MaySettle idle s
    → (t : State K T F I) → t ≡ with_shadow_settled g touched s shadow → MaySettle idle t
may_shadow g idle s touched None may t is = subst (MaySettle idle) (sym is) may
may_shadow g idle s touched (Some o) may t is = may_unless g idle s touched o may t is

-- of an orderly state each object may
pub may_orderly : {K T F I : Type 0} (idle : I → Type 0) (s : State K T F I) → IsOrderly idle s → MaySettle idle s
may_orderly idle s orderly = record { unheld = orderly.unheld; descending = orderly.descending }

-- the names of a state stand where those of its store do
module _ {K T F I : Type 0} (s : State K T F I) (store : Entries F I) (shows : Shows s store) (stores : IsStore store) (id : ℕ) where
  no_name_shown : place_at store id ≡ None → All (λ q. (q.object == id) ≡ false) s.rows
  no_name_shown none = subst (All (λ (q : Row). (q.object == id) ≡ false)) (sym shows.rows) (no_name store stores id none)

  one_shown : (p : EntryPlace) → place_at store id ≡ Some p → All (λ q. (q.object == id) ≡ true → q.directory ≡ p.directory) s.rows
  one_shown p at = subst (All (λ (q : Row). (q.object == id) ≡ true → q.directory ≡ p.directory)) (sym shows.rows) (one_directory store stores id p at)

  found_shown : place_at store id ≡ option_map place_of (find (λ (r : Row). r.object == id) s.rows)
  found_shown = ap (λ (rows : List Row). option_map place_of (find (λ (r : Row). r.object == id) rows)) (sym shows.rows)

module _ {K T F I : Type 0} (g : Procedures K T F I) (s : State K T F I) (store : Entries F I) (shows : Shows s store) (stores : IsStore store) (touched : ℕ → Bool) (id : ℕ)
    (t : State K T F I) (first : t ≡ settled_one g s id) (own : Option ℕ) (own_is : own ≡ shadow_left s id) where
  Found : State K T F I → Option Row → Type 0
  Found u o =
      MatchOption o ((u ≡ with_shadow_settled g touched (settled_one g s id) (shadow_left s id)) × All (λ q. (q.object == id) ≡ false) s.rows)
      (λ r. (u ≡ with_shadow_settled g touched (with_shadow_settled g touched (settled_unless g touched (settled_one g s id) r.directory) (shadow_left s id)) (shadow_left_unless touched (settled_one g s id) r.directory))
      × All (λ q. (q.object == id) ≡ true → q.directory ≡ r.directory) s.rows)

  pub named_settled : (p : EntryPlace) → place_at store id ≡ Some p → (d : State K T F I) → d ≡ settled_unless g touched t p.directory → (other : Option ℕ) → other ≡ shadow_left_unless touched t p.directory
      → (u : State K T F I) → u ≡ with_shadow_settled g touched (with_shadow_settled g touched d own) other → AreSettled g s touched id u
  unfolding Found
  named_settled p at d d_is other other_is u then =
      let found = placed (find (λ (r : Row). r.object == id) s.rows) p (sym (found_shown s store shows stores id) ∙ at) in
      let there : p.directory ≡ found.0.directory = ap (λ (x : EntryPlace). x.directory) found.2 in
      let directory : d ≡ settled_unless g touched (settled_one g s id) found.0.directory = d_is ∙ (λ i. settled_unless g touched (first i) (there i)) in
      let shadow : other ≡ shadow_left_unless touched (settled_one g s id) found.0.directory = other_is ∙ (λ i. shadow_left_unless touched (first i) (there i)) in
      subst (Found u) (sym found.1) (
        then ∙ (λ i. with_shadow_settled g touched (with_shadow_settled g touched (directory i) (own_is i)) (shadow i)),
        λ k x below of. one_shown s store shows stores id p at k x below of ∙ there,
      )

  pub unnamed_settled : place_at store id ≡ None → (u : State K T F I) → u ≡ with_shadow_settled g touched t own → AreSettled g s touched id u
  unfolding Found
  unnamed_settled none u then = go (find (λ (r : Row). r.object == id) s.rows) (sym (found_shown s store shows stores id) ∙ none)
    where
      go : (o : Option Row) → option_map place_of o ≡ None → Found u o
      go None e = (then ∙ (λ i. with_shadow_settled g touched (first i) (own_is i)), no_name_shown s store shows stores id none)
      go (Some r) e = cc

-- ---- the ones after a close

turned : (a b : ℕ) → (a == b) ≡ false → (b == a) ≡ false
turned a b other = ne_eqb b a (λ same. false≢true (sym other ∙ eq-eqb a b (sym same)))

-- the tests of staying, and those of being held up
up : (x e f g h : Bool) → (e ≡ true → f ≡ true) → (g ≡ true → h ≡ true) → (x || e || g) ≡ true → (x || f || h) ≡ true
up true e f g h more others alive = refl
up false true f g h more others alive = ap (λ c. c || h) (more refl)
up false false true g h more others alive = refl
up false false false g h more others alive = others alive

both_first : (a b : Bool) → (a && b) ≡ true → a ≡ true
both_first true b h = refl
both_first false b h = cc

module _ {K T F I : Type 0} (g : Procedures K T F I) (idle : I → Type 0) (s : State K T F I) (orderly : IsOrderly idle s) where
  pub settled_is_orderly : (t : State K T F I) → t ≡ settle g s → IsOrderly idle t
  settled_is_orderly t is = subst (λ (u : State K T F I). IsOrderly idle u) (sym is) (settled_orderly g idle s orderly)

  -- ---- after a close

  module _ (sound : AreShadowsFit s) (object : ℕ) (settled : IsSettled (with_handle_to s object)) where
    -- one handle more leads to this object, and to no other
    handle_more : (o : ℕ) → has_handle (with_handle_to s object) o ≡ (has_handle s o || ((object == o) || false))
    handle_more o = list_any-append (λ (h : Held). h.object == o) s.handles _

    handle_same : (o : ℕ) → (o == object) ≡ false → has_handle (with_handle_to s object) o ≡ has_handle s o
    handle_same o other = handle_more o ∙ ap (λ b. has_handle s o || (b || false)) (turned o object other) ∙ or_none (has_handle s o)

    abbrev pub is_closed : ℕ → Bool
    is_closed o = o == object

    -- only the object may go, the directory of its name, and the shadows of both
    loss_stays : StaysBut s is_closed None
    loss_stays = record {
      names = λ k d below free. ap (λ b. is_permanent s (get_or s.rows k d).object || b) (sym (handle_same (get_or s.rows k d).object free)) ∙ settled.names k d below;
      objects = λ k d below free out. one (get_or s.objects k d).id free (settled.objects k d below);
      directory = tt;
    }
      where
        one : (m : ℕ) → (m == object) ≡ false → is_alive (with_handle_to s object) m ≡ true → is_held_up s m ≡ true
        one m free alive =
            up ((m == root_id) || has_handle s m || is_pinned s m || is_mapped s m || (is_permanent s m && has_name s m))
            (holds_kept (with_handle_to s object) m) (list_any (λ r. r.directory == m) s.rows) (is_shadowing (with_handle_to s object) m) (is_shadow s.objects m)
            (list_any_weaker (λ r. (r.directory == m) && is_kept (with_handle_to s object) r) (λ r. r.directory == m) s.rows
            (λ j y within both. both_first ((get_or s.rows j y).directory == m) (is_kept (with_handle_to s object) (get_or s.rows j y)) both))
            (list_any_weaker (λ y. has_shadow m y.body && is_alive_itself (with_handle_to s object) y.id) (λ y. has_shadow m y.body) s.objects
            (λ j y within both. both_first (has_shadow m (get_or s.objects j y).body) (is_alive_itself (with_handle_to s object) (get_or s.objects j y).id) both))
            ((λ i. (m == root_id) || sym (handle_same m free) i || is_pinned s m || is_mapped s m || (is_permanent s m && has_name s m) || holds_kept (with_handle_to s object) m || is_shadowing (with_handle_to s object) m) ∙ alive)

    is_last : (o : ℕ) → is_closed o ≡ true → o ≤ object
    is_last o e = omega (arith, eqb-true o object e)

    -- the object has its turn, and no other
    pub closed_settled : (u : State K T F I) → AreSettled g s is_closed object u → u ≡ settle g s
    closed_settled u are =
        all_turned g idle s orderly sound is_closed None loss_stays object (λ o e. omega (arith, eqb-true o object e)) u
        (any_turn g idle s orderly sound is_closed None loss_stays (suc object) object (eq-eqb object object refl) (omega arith) (λ o e less. is_last o e) s
        (no_map g idle s orderly sound is_closed None loss_stays (suc object) (λ o less e. omega (arith, eqb-true o object e)) refl) u (inr are))
