-- What is settled stays so when a handle or an object with one comes, and after each step.
use Rattle.std.proofs.Common.{◌≡◌, ◌∙◌, ℕ, ◌+◌, ◌==◌, Bool, true, false, ◌&&◌, ◌||◌, not, cond, nat_lt, map, if◌then◌else◌, List, [], ◌∷◌, ◌++◌, All, Option, None, Some, option_map, refl, ap, sym, subst, eq-eqb, eqb-true, get_or, MatchOption}
use Rattle.std.specs.List.{list_any}
use Rattle.std.specs.Option.{option_map_or, option_and_then, is_some}
use Rattle.std.proofs.lemmas.Bool.{and_from, false≢true}
use Rattle.std.proofs.lemmas.List.Elements.{All-nil, All-append, All-push, All-map, All-weaker, All-from_recursion}
use Rattle.std.proofs.lemmas.List.{append-nil}
use Rattle.std.proofs.lemmas.List.Folds.{list_any-append}
use Rattle.ob_base.specs.Attrs.{has_flag, permanent_flag, exclusive_flag, inherit_flag}
use Rattle.ob_model.specs.declared.reply.Answer.{Answer}
use Rattle.ob_model.specs.declared.reply.Event.{Event}
use Rattle.ob_model.specs.declared.state.Body.{Body}
use Rattle.ob_model.specs.declared.state.Held.{Held}
use Rattle.ob_model.specs.declared.state.Object.{Object}
use Rattle.ob_model.specs.declared.state.Process.{Process}
use Rattle.ob_model.specs.declared.state.Row.{Row}
use Rattle.ob_model.specs.State.{State, insert_object, shadow_in, root_id, global_id, process_of, object_of, handle_count, handle_count_in}
use Rattle.ob_model.specs.declared.terms.Reason.{Reason}
use Rattle.ob_model.specs.declared.terms.Reason.TheVariants.{Created, Inherited}
use Rattle.ob_model.specs.Procedures.{Procedures}
use Rattle.ob_model.specs.Settle.{is_permanent, has_handle, is_kept, has_name, is_pinned, is_mapped, holds_kept, is_alive_itself, has_shadow, is_shadowing, is_alive, IsSettled, deleted_all, settle}
use Rattle.ob_model.specs.Grants.{open_refusal, opened_object, opened_body, with_open, with_handle}
use Rattle.ob_model.specs.Closing.{is_handle, without_handle, closed_body, closed_object, closed_handle}
use Rattle.ob_model.specs.Permanence.{turned_object, with_permanence, turned}
use Rattle.ob_model.specs.Maps.{with_map}
use Rattle.ob_model.specs.Creates.{Spot, new_rows, created}
use Rattle.ob_model.specs.Opening.{opening}
use Rattle.ob_model.specs.Processes.{inherited_from, with_child, inherits_one, inherits, begun, ended}
use Rattle.ob_model.specs.Step.{Step}
use Rattle.ob_model.proofs.Finds.{filter_all, filter_none, list_any_weaker}
use Rattle.ob_model.proofs.InOrder.{in_order-All, in_order-others}
use Rattle.ob_model.proofs.Ended.{any_filter}
use Rattle.ob_model.proofs.Settled.{alive_from_handle, itself_from_root, itself_from_handle, itself_from_name, kept_twice, objects_alive}
use Rattle.ob_model.proofs.Soundness.{find_id-map, opened_object-id, opened_object-is_directory, opened_object-shadow, closed_object-id, closed_object-is_directory, closed_object-shadow}
use Rattle.ob_model.proofs.Turned.{turned_object-id, turned_object-shadow, turned_either, turned_others}
use Rattle.ob_model.specs.declared.reply.Event.TheVariants.{Start, Resume, Abandon}
use Rattle.ob_model.specs.declared.state.PendingOpen.{PendingOpen}
use Rattle.ob_model.specs.PendingOpens.{pending_of, with_pending}
use Rattle.ob_model.specs.Parses.{parsed_state, Resumes, Abandons}
use Rattle.ob_model.proofs.Leads.{started, came_leads}

or_left : (a b : Bool) → a ≡ true → (a || b) ≡ true
or_left a b h = ap (λ x. x || b) h

or_right' : (a b : Bool) → b ≡ true → (a || b) ≡ true
or_right' true b h = refl
or_right' false b h = h

or_grows : (a b a' b' : Bool) → (a ≡ true → a' ≡ true) → (b ≡ true → b' ≡ true) → (a || b) ≡ true → (a' || b') ≡ true
or_grows true b a' b' first second h = ap (λ x. x || b') (first refl)
or_grows false true true b' first second h = refl
or_grows false true false b' first second h = second refl
or_grows false false a' b' first second h = cc

and_grows : (a b a' b' : Bool) → (a ≡ true → a' ≡ true) → (b ≡ true → b' ≡ true) → (a && b) ≡ true → (a' && b') ≡ true
and_grows true true a' b' first second h = and_from a' b' (first refl) (second refl)
and_grows true false a' b' first second h = cc
and_grows false b a' b' first second h = cc

or_both : (a b c : Bool) → (a ≡ true → c ≡ true) → (b ≡ true → c ≡ true) → (a || b) ≡ true → c ≡ true
or_both true b c first second h = first refl
or_both false b c first second h = second h

-- what stays, or is permanent with a name, still is where it stays for a handle in place of its permanence
named_grows : (a p n a' p' n' held : Bool) → (a ≡ true → a' ≡ true) → (p ≡ true → (p' || held) ≡ true) → (n ≡ true → n' ≡ true) → (held ≡ true → a' ≡ true)
    → (a || (p && n)) ≡ true → (a' || (p' && n')) ≡ true
named_grows true p n a' p' n' held stays permanent named stays_held h = or_left a' (p' && n') (stays refl)
named_grows false true n a' true n' held stays permanent named stays_held h = or_right' a' n' (named h)
named_grows false true n a' false n' held stays permanent named stays_held h = or_left a' false (stays_held (permanent refl))
named_grows false false n a' p' n' held stays permanent named stays_held h = cc

-- objects that have the shadows which others have: what is a shadow among these by a test of numbers is one there
abbrev pub KeepShadows : {F I : Type 0} → List (Object F I) → List (Object F I) → Type 0
KeepShadows xs ys =
    (o : ℕ) (keeps : ℕ → Bool) → list_any (λ x. has_shadow o x.body && keeps x.id) xs ≡ true → list_any (λ x. has_shadow o x.body && keeps x.id) ys ≡ true

-- so it is where a change leaves numbers and shadows, and where an object is inserted
pub shadows_map : {F I : Type 0} (f : Object F I → Object F I) → ((x : Object F I) → (f x).id ≡ x.id) → ((x : Object F I) → shadow_in (f x).body ≡ shadow_in x.body)
    → (xs : List (Object F I)) → KeepShadows xs (map f xs)
shadows_map f same_id same_shadow [] o keeps some = some
shadows_map f same_id same_shadow (x ∷ xs) o keeps some =
    or_grows (has_shadow o x.body && keeps x.id) (list_any (λ y. has_shadow o y.body && keeps y.id) xs) (has_shadow o (f x).body && keeps (f x).id)
    (list_any (λ y. has_shadow o y.body && keeps y.id) (map f xs)) (λ h. (λ i. option_map_or (λ n. n == o) (same_shadow x i) false && keeps (same_id x i)) ∙ h)
    (shadows_map f same_id same_shadow xs o keeps) some

pub shadows_insert : {F I : Type 0} (x : Object F I) (xs : List (Object F I)) → KeepShadows xs (insert_object x xs)
shadows_insert x [] o keeps some = cc
shadows_insert {F} {I} x (y ∷ ys) o keeps some = go (nat_lt x.id y.id) (shadows_insert x ys o keeps)
  where
    test : Object F I → Bool
    test z = has_shadow o z.body && keeps z.id

    go : (b : Bool) → (list_any test ys ≡ true → list_any test (insert_object x ys) ≡ true) → list_any test (cond b (x ∷ y ∷ ys) (y ∷ insert_object x ys)) ≡ true
    go true more = or_right' (test x) (list_any test (y ∷ ys)) some
    go false more = or_grows (test y) (list_any test ys) (test y) (list_any test (insert_object x ys)) (λ h. h) more some

-- A state that has what another one has, and more.
module _ {K T F I : Type 0} (s u : State K T F I) (permanent : (o : ℕ) → is_permanent s o ≡ true → (is_permanent u o || has_handle u o) ≡ true)
    (held : (o : ℕ) → has_handle s o ≡ true → has_handle u o ≡ true) (pinned : (o : ℕ) → is_pinned s o ≡ true → is_pinned u o ≡ true)
    (mapped : (o : ℕ) → is_mapped s o ≡ true → is_mapped u o ≡ true) (more : List Row) (rows : u.rows ≡ s.rows ++ more) where
  kept_grows : (r : Row) → is_kept s r ≡ true → is_kept u r ≡ true
  kept_grows r = or_both (is_permanent s r.object) (has_handle s r.object) _ (permanent r.object) (λ h. or_right' (is_permanent u r.object) _ (held r.object h))

  any_grows : (p q : Row → Bool) → ((r : Row) → p r ≡ true → q r ≡ true) → list_any p s.rows ≡ true → list_any q u.rows ≡ true
  any_grows p q weaker some =
      ap (list_any q) rows ∙ list_any-append q s.rows more ∙ or_left (list_any q s.rows) (list_any q more)
      (list_any_weaker p q s.rows (λ k d within. weaker _) some)

  itself_grows : (o : ℕ) → is_alive_itself s o ≡ true → is_alive_itself u o ≡ true
  itself_grows o =
      or_grows _ (holds_kept s o) _ (holds_kept u o)
      (named_grows _ (is_permanent s o) (has_name s o) _ (is_permanent u o) (has_name u o) (has_handle u o)
      (or_grows _ (is_mapped s o) _ (is_mapped u o)
      (or_grows _ (is_pinned s o) _ (is_pinned u o) (or_grows (o == root_id) (has_handle s o) (o == root_id) (has_handle u o) (λ h. h) (held o)) (pinned o)) (mapped o))
      (permanent o) (any_grows (λ r. r.object == o) (λ r. r.object == o) (λ r h. h))
      (λ h. or_left _ (is_mapped u o) (or_left _ (is_pinned u o) (or_right' (o == root_id) (has_handle u o) h))))
      (any_grows (λ r. (r.directory == o) && is_kept s r) (λ r. (r.directory == o) && is_kept u r)
      (λ r. and_grows (r.directory == o) (is_kept s r) (r.directory == o) (is_kept u r) (λ h. h) (kept_grows r)))

  -- where its objects have the shadows that they had
  module _ (shadows : KeepShadows s.objects u.objects) where
    alive_grows : (o : ℕ) → is_alive s o ≡ true → is_alive u o ≡ true
    alive_grows o =
        or_grows (is_alive_itself s o) (is_shadowing s o) (is_alive_itself u o) (is_shadowing u o) (itself_grows o)
        (λ some.
        shadows o (is_alive_itself u)
        (list_any_weaker (λ x. has_shadow o x.body && is_alive_itself s x.id) (λ x. has_shadow o x.body && is_alive_itself u x.id) s.objects
        (λ k d within.
        let x = get_or s.objects k d in and_grows (has_shadow o x.body) (is_alive_itself s x.id) (has_shadow o x.body) (is_alive_itself u x.id) (λ h. h) (itself_grows x.id)) some))

module _ {K T F I : Type 0} where
  -- an object that is made permanent or temporary leaves a settled state where it has a handle
  pub turned_settled : (s : State K T F I) (o : ℕ) (permanent : Bool) → IsSettled s → has_handle s o ≡ true → IsSettled (turned s o permanent)
  turned_settled s o permanent settled mine =
      turned_either IsSettled s o permanent settled
      (record {
        names = All-weaker (λ r. is_kept s r ≡ true) (λ r. is_kept u r ≡ true) (λ r h. kept_grows s u still (λ m h. h) (λ m h. h) (λ m h. h) [] (sym (append-nil s.rows)) r h) s.rows settled.names;
        objects = All-map (λ x. is_alive u x.id ≡ true) (turned_object o permanent) s.objects
            (All-weaker (λ x. is_alive s x.id ≡ true) (λ x. is_alive u (turned_object o permanent x).id ≡ true)
            (λ x h. subst (λ n. is_alive u n ≡ true) (sym (turned_object-id o permanent x)) (alive_grows s u still (λ m h. h) (λ m h. h) (λ m h. h) [] (sym (append-nil s.rows)) shadows x.id h))
            s.objects settled.objects);
      })
    where
      u : State K T F I
      u = with_permanence s o permanent

      shadows : KeepShadows s.objects u.objects
      shadows = shadows_map (turned_object o permanent) (turned_object-id o permanent) (turned_object-shadow o permanent) s.objects

      still : (m : ℕ) → is_permanent s m ≡ true → (is_permanent u m || has_handle u m) ≡ true
      still m was = go (m == o) refl
        where
          go : (b : Bool) → (m == o) ≡ b → (is_permanent u m || has_handle u m) ≡ true
          go true same = or_right' (is_permanent u m) (has_handle u m) (subst (λ n. has_handle s n ≡ true) (sym (eqb-true m o same)) mine)
          go false other =
              or_left (is_permanent u m) (has_handle u m)
              (ap (λ (x : Option (Object F I)). option_map_or (λ y. y.permanent) x false) (turned_others o m permanent other s.objects) ∙ was)

module _ {K T F I : Type 0} (g : Procedures K T F I) where
  -- an open leaves what is permanent
  permanent-opened : (s : State K T F I) (o m : ℕ) (reason : Reason) → is_permanent s m ≡ true → is_permanent (with_open g s o reason) m ≡ true
  permanent-opened s o m reason h =
      ap (λ (x : Option (Object F I)). option_map_or (λ y. y.permanent) x false)
      (find_id-map (opened_object g s.set o reason) (opened_object-id g s.set o reason) (opened_object-is_directory g s.set o reason) m s.objects)
      ∙ go (object_of s m) h
    where
      stays : (x : Object F I) → (opened_object g s.set o reason x).permanent ≡ x.permanent
      stays x = elim (x.id == o) as (λ b. (if b then record x { body = opened_body g s.set x.body reason } else x).permanent ≡ x.permanent) [ true ↦ refl | false ↦ refl ]

      go : (x : Option (Object F I)) → option_map_or (λ y. y.permanent) x false ≡ true → option_map_or (λ y. y.permanent) (option_map (opened_object g s.set o reason) x) false ≡ true
      go None h = cc
      go (Some x) h = stays x ∙ h

  -- a handle more leaves those that are there
  handle_stays : (hs : List Held) (h : Held) (o : ℕ) → list_any (λ x. x.object == o) hs ≡ true → list_any (λ x. x.object == o) (hs ++ h ∷ []) ≡ true
  handle_stays hs h o some = list_any-append (λ x. x.object == o) hs (h ∷ []) ∙ or_left (list_any (λ x. x.object == o) hs) _ some

  -- a handle that is granted leaves a settled state
  pub granted_settled : (s : State K T F I) (p value o : ℕ) (reason : Reason) (inherit : Bool) → IsSettled s → IsSettled (with_handle (with_open g s o reason) p value o inherit)
  granted_settled s p value o reason inherit settled =
      let u = with_handle (with_open g s o reason) p value o inherit in
      let permanent = λ (m : ℕ) (h : is_permanent s m ≡ true). or_left (is_permanent u m) (has_handle u m) (permanent-opened s o m reason h) in
      let held = λ (m : ℕ). handle_stays s.handles (record { process = p; value = value; object = o; inherit = inherit; order = s.next_order }) m in
      let shadows = shadows_map (opened_object g s.set o reason) (opened_object-id g s.set o reason) (opened_object-shadow g s.set o reason) s.objects in
      record {
        names = All-weaker (λ r. is_kept s r ≡ true) (λ r. is_kept u r ≡ true) (λ r h. kept_grows s u permanent held (λ m h. h) (λ m h. h) [] (sym (append-nil s.rows)) r h) s.rows settled.names;
        objects = All-map (λ x. is_alive u x.id ≡ true) (opened_object g s.set o reason) s.objects
            (All-weaker (λ x. is_alive s x.id ≡ true) (λ x. is_alive u (opened_object g s.set o reason x).id ≡ true)
            (λ x h. subst (λ n. is_alive u n ≡ true) (sym (opened_object-id g s.set o reason x)) (alive_grows s u permanent held (λ m h. h) (λ m h. h) [] (sym (append-nil s.rows)) shadows x.id h))
            s.objects settled.objects);
      }

  -- and so does an object that comes with a handle
  pub created_settled : (s : State K T F I) (p : ℕ) (spot : Spot) (body : Body F I) (attrs value : ℕ) → IsSettled s → IsSettled (created g s p spot body attrs value)
  created_settled s p spot body attrs value settled = record {
    names = subst (All (λ r. is_kept u r ≡ true)) (sym refl)
        (All-append (λ r. is_kept u r ≡ true) s.rows (new_rows spot s.next_stamp s.next_id)
        (All-weaker (λ r. is_kept s r ≡ true) (λ r. is_kept u r ≡ true) (λ r h. kept_grows s u permanent held (λ m h. h) (λ m h. h) (new_rows spot s.next_stamp s.next_id) refl r h) s.rows settled.names)
        (new spot));
    objects = in_order-All (λ x. x.id) (λ x. is_alive u x.id ≡ true) object s.objects (alive_from_handle u s.next_id mine)
        (All-weaker (λ x. is_alive s x.id ≡ true) (λ x. is_alive u x.id ≡ true)
        (λ x h. alive_grows s u permanent held (λ m h. h) (λ m h. h) (new_rows spot s.next_stamp s.next_id) refl (shadows_insert object s.objects) x.id h) s.objects settled.objects);
  }
    where
      u : State K T F I
      u = created g s p spot body attrs value

      handle : Held
      handle = record { process = p; value = value; object = s.next_id; inherit = has_flag inherit_flag attrs; order = s.next_order }

      mine : has_handle u s.next_id ≡ true
      mine =
          list_any-append (λ x. x.object == s.next_id) s.handles (handle ∷ [])
          ∙ or_right' (list_any (λ x. x.object == s.next_id) s.handles) _ (ap (λ b. b || false) (eq-eqb s.next_id s.next_id refl))

      held : (m : ℕ) → has_handle s m ≡ true → has_handle u m ≡ true
      held m = handle_stays s.handles handle m

      object : Object F I
      object = record { id = s.next_id; body = opened_body g s.set body Created; permanent = is_some spot && has_flag permanent_flag attrs; exclusive = has_flag exclusive_flag attrs }

      permanent : (m : ℕ) → is_permanent s m ≡ true → (is_permanent u m || has_handle u m) ≡ true
      permanent m h = go (s.next_id == m) refl
        where
          go : (t : Bool) → (s.next_id == m) ≡ t → (is_permanent u m || has_handle u m) ≡ true
          go true e = or_right' (is_permanent u m) (has_handle u m) (subst (λ n. has_handle u n ≡ true) (eqb-true s.next_id m e) mine)
          go false e =
              or_left (is_permanent u m) (has_handle u m)
              (ap (λ (x : Option (Object F I)). option_map_or (λ y. y.permanent) x false) (in_order-others (λ x. x.id) (λ x. x.id == m) object s.objects e) ∙ h)

      new : (spot : Spot) → All (λ r. is_kept u r ≡ true) (new_rows spot s.next_stamp s.next_id)
      new None = All-nil (λ r. is_kept u r ≡ true)
      new (Some at) =
          All-push (λ r. is_kept u r ≡ true) [] _ (All-nil (λ r. is_kept u r ≡ true)) (or_right' (is_permanent u s.next_id) (has_handle u s.next_id) mine)

  -- a child that begins with what it inherits leaves a settled state
  child_settled : (s : State K T F I) (p : ℕ) → IsSettled s → IsSettled (with_child s p)
  child_settled s p settled =
      let u = with_child s p in
      let permanent = λ (m : ℕ) (h : is_permanent s m ≡ true). or_left (is_permanent u m) (has_handle u m) h in
      record {
        names = settled.names;
        objects = All-weaker (λ x. is_alive s x.id ≡ true) (λ x. is_alive u x.id ≡ true)
            (λ x h. alive_grows s u permanent (λ m h. h) (λ m h. h) mapped [] (sym (append-nil s.rows)) (λ o keeps some. some) x.id h) s.objects settled.objects;
      }
    where
      child : Process
      child = record { number = s.next_process; map = option_and_then (λ x. x.map) (process_of s p) }

      mapped : (o : ℕ) → is_mapped s o ≡ true → is_mapped (with_child s p) o ≡ true
      mapped o =
          or_grows (o == global_id) (list_any (λ x. option_map_or (λ d. d == o) x.map false) s.processes) (o == global_id) (list_any (λ x. option_map_or (λ d. d == o) x.map false) (s.processes ++ child ∷ [])) (λ h. h)
          (λ some. list_any-append (λ x. option_map_or (λ d. d == o) x.map false) s.processes (child ∷ []) ∙ or_left (list_any (λ x. option_map_or (λ d. d == o) x.map false) s.processes) _ some)

  inherits_settled : (s : State K T F I) (child : ℕ) (hs : List Held) → IsSettled s → IsSettled (inherits g s child hs)
  inherits_settled s child [] settled = settled
  inherits_settled s child (h ∷ hs) settled = inherits_settled (inherits_one g s child h) child hs (go (open_refusal g s h.object Inherited))
    where
      go : (o : Option ℕ) → IsSettled (option_map_or (λ _. record s { next_order = s.next_order + 1 }) o (with_handle (with_open g s h.object Inherited) child h.value h.object true))
      go None = granted_settled s child h.value h.object Inherited true settled
      go (Some k) = record { names = settled.names; objects = settled.objects }

  pub begun_settled : (s : State K T F I) (p : ℕ) (inherit : Bool) → IsSettled s → IsSettled (begun g s p inherit)
  begun_settled s p inherit settled = inherits_settled (with_child s p) s.next_process (inherited_from s p inherit) (child_settled s p settled)

  -- settling leaves what is settled as it is
  pub settled_itself : (s : State K T F I) → IsSettled s → settle g s ≡ s
  settled_itself s settled = λ i. record s { objects = objects_are i; rows = rows_are i; set = set_is i }
    where
      objects_are : (settle g s).objects ≡ s.objects
      objects_are = filter_all (λ x. is_alive s x.id) s.objects settled.objects

      rows_are : (settle g s).rows ≡ s.rows
      rows_are = filter_all (is_kept s) s.rows settled.names

      set_is : (settle g s).set ≡ s.set
      set_is =
          ap (deleted_all g s.set)
          (filter_none (λ x. not (is_alive s x.id)) s.objects
          (All-weaker (λ x. is_alive s x.id ≡ true) (λ x. not (is_alive s x.id) ≡ false) (λ x h. ap not h) s.objects settled.objects))

  -- and leaves what is settled
  pub settling_settles : (s : State K T F I) → IsSettled (settle g s)
  settling_settles s = record { names = kept_twice g s; objects = objects_alive g s }

  -- a step from a settled state leads to a settled one
  pub step_settled : (s t : State K T F I) (event : Event K) (answer : Answer) → IsSettled s → Step g s event answer t → IsSettled t
  step_settled s t (Start p command) answer settled h =
      came_leads g s IsSettled settled (λ body. record { names = settled.names; objects = settled.objects }) (λ p value o asked reason e. settling_settles (with_handle (with_open g s o reason) p value o asked.inherit))
      (λ p spot body attrs value lawful. settling_settles (created g s p spot body attrs value)) (λ h. settling_settles (closed_handle g s h))
      (λ o permanent. settling_settles (turned s o permanent)) (λ p d. settling_settles (with_map s p d))
      (λ p inherit. settling_settles (begun g s p inherit)) (λ p. settling_settles (ended g s p))
      (λ p attrs wanted o rest n. settling_settles (with_pending s p attrs wanted o rest n)) t (started p command answer h)
  step_settled s t (Resume ticket parse) answer settled h = go (pending_of s ticket) h.2
    where
      go : (found : Option (PendingOpen K)) → MatchOption found ⊥ (λ x. Resumes g s x h.0 answer t) → IsSettled t
      go None does = absurd does
      go (Some x) does = subst IsSettled (sym does.2) (settling_settles does.0)
  step_settled s t (Abandon ticket parse) answer settled h = go (pending_of s ticket) h.2
    where
      go : (found : Option (PendingOpen K)) → MatchOption found ⊥ (λ x. Abandons g s x h.0 answer t) → IsSettled t
      go None does = absurd does
      go (Some x) does = subst IsSettled (sym does.1) (settling_settles (parsed_state s x.ticket h.0))

-- each name of the opening state names a permanent object, and each object is the root or has such a name
pub opening_settled : {K T F I : Type 0} (set : T) → IsSettled (opening {K = K} {F = F} {I = I} set)
opening_settled {K = K} {F = F} {I = I} set =
    let s : State K _ F I = opening set in
    record {
      names = All-from_recursion (λ r. is_kept s r ≡ true) s.rows (refl, (refl, (refl, (refl, (refl, tt)))));
      objects = All-from_recursion (λ x. is_alive s x.id ≡ true) s.objects (refl, (refl, (refl, (refl, (refl, (refl, tt))))));
    }

-- A handle that is closed, whose object's names stay, lets nothing go: where all handles of its process and
-- value lead to its object, and that object has a name if it is permanent.
module _ {K T F I : Type 0} (g : Procedures K T F I) (s : State K T F I) (h : Held) (settled : IsSettled s)
    (agree : All (λ k. is_handle h.process h.value k ≡ true → k.object ≡ h.object) s.handles)
    (named : is_permanent s h.object ≡ true → ((h.object == root_id) || has_name s h.object) ≡ true)
    (kept : (is_permanent (closed_handle g s h) h.object || has_handle (closed_handle g s h) h.object) ≡ true) where
  -- the handles that are left, and an object as the close left it
  abbrev left : ℕ
  left = handle_count_in (without_handle s h.process h.value) h.process h.object

  abbrev total : ℕ
  total = handle_count (without_handle s h.process h.value) h.object

  abbrev changed : Object F I → Object F I
  changed = closed_object g s.set h.object left total

  permanent_same : (m : ℕ) → is_permanent (closed_handle g s h) m ≡ is_permanent s m
  permanent_same m =
      ap (λ (x : Option (Object F I)). option_map_or (λ y. y.permanent) x false)
      (find_id-map changed (closed_object-id g s.set h.object left total) (closed_object-is_directory g s.set h.object left total) m s.objects)
      ∙ go (object_of s m)
    where
      stays : (x : Object F I) → (changed x).permanent ≡ x.permanent
      stays x = elim (x.id == h.object) as (λ b. (if b then record x { body = closed_body g s.set left total x.body } else x).permanent ≡ x.permanent) [ true ↦ refl | false ↦ refl ]

      go : (x : Option (Object F I)) → option_map_or (λ y. y.permanent) (option_map changed x) false ≡ option_map_or (λ y. y.permanent) x false
      go None = refl
      go (Some x) = stays x

  held_other : (m : ℕ) → (m == h.object) ≡ false → has_handle s m ≡ true → has_handle (closed_handle g s h) m ≡ true
  held_other m other some =
      any_filter (λ k. not (is_handle h.process h.value k)) (λ k. k.object == m) s.handles
      (list_any_weaker (λ k. k.object == m) (λ k. not (is_handle h.process h.value k) && (k.object == m)) s.handles
      (λ k d within is. and_from (not (is_handle h.process h.value (get_or s.handles k d))) ((get_or s.handles k d).object == m)
      (apart (get_or s.handles k d) (is_handle h.process h.value (get_or s.handles k d)) (agree k d within) is) is) some)
    where
      apart : (k : Held) (b : Bool) → (b ≡ true → k.object ≡ h.object) → (k.object == m) ≡ true → not b ≡ true
      apart k true leads is =
          let one : m ≡ h.object = sym (eqb-true k.object m is) ∙ leads refl in
          absurd (false≢true (sym other ∙ eq-eqb m h.object one))
      apart k false leads is = refl

  kept_closed : (r : Row) → is_kept s r ≡ true → is_kept (closed_handle g s h) r ≡ true
  kept_closed r was = go (r.object == h.object) refl
    where
      go : (b : Bool) → (r.object == h.object) ≡ b → is_kept (closed_handle g s h) r ≡ true
      go true same =
          subst (λ m. (is_permanent (closed_handle g s h) m || has_handle (closed_handle g s h) m) ≡ true) (sym (eqb-true r.object h.object same)) kept
      go false other =
          or_grows (is_permanent s r.object) (has_handle s r.object) (is_permanent (closed_handle g s h) r.object) (has_handle (closed_handle g s h) r.object)
          (λ e. permanent_same r.object ∙ e) (held_other r.object other) was

  stays_itself : is_alive_itself (closed_handle g s h) h.object ≡ true
  stays_itself = go (is_permanent (closed_handle g s h) h.object) refl kept
    where
      go : (b : Bool) → is_permanent (closed_handle g s h) h.object ≡ b → (b || has_handle (closed_handle g s h) h.object) ≡ true → is_alive_itself (closed_handle g s h) h.object ≡ true
      go false temporary some = itself_from_handle (closed_handle g s h) h.object some
      go true permanent some = name (h.object == root_id) refl (named (sym (permanent_same h.object) ∙ permanent))
        where
          name : (b : Bool) → (h.object == root_id) ≡ b → (b || has_name s h.object) ≡ true → is_alive_itself (closed_handle g s h) h.object ≡ true
          name true is some = itself_from_root (closed_handle g s h) h.object is
          name false is some = itself_from_name (closed_handle g s h) h.object permanent some

  itself_closed : (m : ℕ) → is_alive_itself s m ≡ true → is_alive_itself (closed_handle g s h) m ≡ true
  itself_closed m was = go (m == h.object) refl
    where
      go : (b : Bool) → (m == h.object) ≡ b → is_alive_itself (closed_handle g s h) m ≡ true
      go true same = subst (λ n. is_alive_itself (closed_handle g s h) n ≡ true) (sym (eqb-true m h.object same)) stays_itself
      go false other =
          or_grows _ (holds_kept s m) _ (holds_kept (closed_handle g s h) m)
          (or_grows _ (is_permanent s m && has_name s m) _ (is_permanent (closed_handle g s h) m && has_name (closed_handle g s h) m)
          (or_grows _ (is_mapped s m) _ (is_mapped (closed_handle g s h) m)
          (or_grows _ (is_pinned s m) _ (is_pinned (closed_handle g s h) m)
          (or_grows (m == root_id) (has_handle s m) (m == root_id) (has_handle (closed_handle g s h) m) (λ e. e) (held_other m other)) (λ e. e)) (λ e. e))
          (and_grows (is_permanent s m) (has_name s m) (is_permanent (closed_handle g s h) m) (has_name (closed_handle g s h) m) (λ e. permanent_same m ∙ e) (λ e. e)))
          (list_any_weaker (λ r. (r.directory == m) && is_kept s r) (λ r. (r.directory == m) && is_kept (closed_handle g s h) r) s.rows
          (λ k d within. and_grows ((get_or s.rows k d).directory == m) (is_kept s (get_or s.rows k d)) ((get_or s.rows k d).directory == m)
          (is_kept (closed_handle g s h) (get_or s.rows k d)) (λ e. e) (kept_closed (get_or s.rows k d))))
          was

  alive_closed : (m : ℕ) → is_alive s m ≡ true → is_alive (closed_handle g s h) m ≡ true
  alive_closed m =
      or_grows (is_alive_itself s m) (is_shadowing s m) (is_alive_itself (closed_handle g s h) m) (is_shadowing (closed_handle g s h) m) (itself_closed m)
      (λ some.
      shadows_map changed (closed_object-id g s.set h.object left total) (closed_object-shadow g s.set h.object left total) s.objects m (is_alive_itself (closed_handle g s h))
      (list_any_weaker (λ x. has_shadow m x.body && is_alive_itself s x.id) (λ x. has_shadow m x.body && is_alive_itself (closed_handle g s h) x.id) s.objects
      (λ k d within.
      let x = get_or s.objects k d in
      and_grows (has_shadow m x.body) (is_alive_itself s x.id) (has_shadow m x.body) (is_alive_itself (closed_handle g s h) x.id) (λ e. e) (itself_closed x.id)) some))

  pub closed_settled : IsSettled (closed_handle g s h)
  closed_settled = record {
    names = All-weaker (λ r. is_kept s r ≡ true) (λ r. is_kept (closed_handle g s h) r ≡ true) kept_closed s.rows settled.names;
    objects = All-map (λ x. is_alive (closed_handle g s h) x.id ≡ true) changed s.objects
        (All-weaker (λ x. is_alive s x.id ≡ true) (λ x. is_alive (closed_handle g s h) (changed x).id ≡ true)
        (λ x e. subst (λ n. is_alive (closed_handle g s h) n ≡ true) (sym (closed_object-id g s.set h.object left total x)) (alive_closed x.id e)) s.objects settled.objects);
  }
