-- How one set's value and inner values follow from others by calls, where the calls on each object are told.
use Rattle.std.proofs.Common.{◌≡◌, ◌∙◌, ℕ, ◌==◌, Bool, true, false, cond, ◌&&◌, if◌then◌else◌, List, [], ◌∷◌, ◌++◌, filter, map, find, Option, None, Some, is_some, option_map, refl, ap, sym, subst, eqb-true, eq-eqb}
use Rattle.std.specs.Option.{option_map_or, option_and_then}
use Rattle.std.proofs.lemmas.Bool.{false≢true, ne_eqb}
use Rattle.std.proofs.lemmas.List.{map-append}
use Rattle.std.proofs.lemmas.List.Elements.{filter-append}
use Rattle.ob_model.specs.declared.state.Body.{Body}
use Rattle.ob_model.specs.declared.state.Body.TheVariants.{Directory, Link, Other}
use Rattle.ob_model.specs.declared.state.Object.{Object}
use Rattle.ob_model.specs.State.{State, body_of}
use Rattle.ob_model.specs.declared.terms.Reason.{Reason}
use Rattle.ob_model.specs.Procedures.{Procedures}
use Rattle.ob_model.specs.Grants.{open_refusal_of, open_refusal, opened_body, opened_set, with_open}
use Rattle.ob_model.specs.Closing.{closed_body, closed_set, with_close}
use Rattle.ob_model.specs.State.{handle_count, handle_count_in}
use Rattle.ob_model.specs.Calls.{Call, Opened, Closed, is_set_body, is_of_set}
use Rattle.ob_laws.specs.CallsMade.{Made, calls_on, Inside, inner_of, inner_in, inside, called, refuses, after_call, after_calls, FindValues}

-- the calls on an object of one log behind another
pub calls_on-append : (log more : List Made) (o : ℕ) → calls_on (log ++ more) o ≡ calls_on log o ++ calls_on more o
calls_on-append log more o = ap (map (λ m. m.call)) (filter-append (λ m. m.object == o) log more) ∙ map-append (λ m. m.call) (filter (λ m. m.object == o) log) (filter (λ m. m.object == o) more)

-- the calls on an object of a log of one call
pub calls_on-one : (m : Made) (o : ℕ) → calls_on (m ∷ []) o ≡ (if m.object == o then m.call ∷ [] else [])
calls_on-one m o = elim (m.object == o) as (λ b. map (λ x. x.call) (cond b (m ∷ []) []) ≡ (if b then m.call ∷ [] else [])) [ true ↦ refl | false ↦ refl ]

-- no call but an open is refused
pub none_refused : {I : Type 0} (found : Option I) → ◌≡◌ {A = Option ℕ} (option_and_then (λ _. None) found) None
none_refused None = refl
none_refused (Some inner) = refl

module _ {K T F I : Type 0} (g : Procedures K T F I) where
  pub after_calls-append : (v : Inside T I) (log more : List Made) → after_calls g v (log ++ more) ≡ after_calls g (after_calls g v log) more
  after_calls-append v [] more = refl
  after_calls-append v (m ∷ log) more = after_calls-append (after_call g v m) log more

  pub finds-append : (v : Inside T I) (log more : List Made) → FindValues g v log → FindValues g (after_calls g v log) more → FindValues g v (log ++ more)
  finds-append v [] more finds later = later
  finds-append v (m ∷ log) more finds later = (finds.0, finds.1, finds-append (after_call g v m) log more finds.2 later)

  -- from v to w by a log whose calls on each object are these, and each of which finds an inner value
  abbrev pub Follows : Inside T I → Inside T I → (ℕ → List Call) → Type 0
  Follows v w calls = (log : List Made) × ((o : ℕ) → calls_on log o ≡ calls o) × FindValues g v log × (w ≡ after_calls g v log)

  pub follows_still : (v w : Inside T I) → w ≡ v → Follows v w (λ o. [])
  follows_still v w same = ([], (λ o. refl), tt, same)

  pub follows_then : (u v w : Inside T I) (calls more : ℕ → List Call) → Follows u v calls → Follows v w more → Follows u w (λ o. calls o ++ more o)
  follows_then u v w calls more one other = (
    one.0 ++ other.0,
    (λ o. calls_on-append one.0 other.0 o ∙ (λ i. one.1 o i ++ other.1 o i)),
    finds-append u one.0 other.0 one.2 (subst (λ x. FindValues g x other.0) one.3 other.2),
    other.3 ∙ ap (λ x. after_calls g x other.0) one.3 ∙ sym (after_calls-append u one.0 other.0),
  )

  pub follows_told : (v w : Inside T I) (calls others : ℕ → List Call) → ((o : ℕ) → calls o ≡ others o) → Follows v w calls → Follows v w others
  follows_told v w calls others same h = (h.0, (λ o. h.1 o ∙ same o), h.2, h.3)

-- ---- an object whose body changes

-- the object of a number with its body changed
abbrev pub changed : {F I : Type 0} → (Body F I → Body F I) → ℕ → Object F I → Object F I
changed change m x = if x.id == m then record x { body = change x.body } else x

-- the body of an object, where one has its body changed
pub body_changed : {F I : Type 0} (change : Body F I → Body F I) (m o : ℕ) (xs : List (Object F I))
    → option_map (λ x. x.body) (find (λ x. x.id == o) (map (changed change m) xs))
    ≡ (if o == m then option_map change (option_map (λ x. x.body) (find (λ x. x.id == o) xs)) else option_map (λ x. x.body) (find (λ x. x.id == o) xs))
body_changed {F} {I} change m o [] = elim (o == m) as (λ b. ◌≡◌ {A = Option (Body F I)} None (if b then None else None)) [ true ↦ refl | false ↦ refl ]
body_changed {F} {I} change m o (x ∷ xs) = go (x.id == m) (x.id == o) refl refl (body_changed change m o xs)
  where
    rest : List (Object F I)
    rest = map (changed change m) xs

    go : (b c : Bool) → (x.id == m) ≡ b → (x.id == o) ≡ c
        → option_map (λ y. y.body) (find (λ y. y.id == o) rest)
        ≡ (if o == m then option_map change (option_map (λ y. y.body) (find (λ y. y.id == o) xs)) else option_map (λ y. y.body) (find (λ y. y.id == o) xs))
        → option_map (λ y. y.body) (find (λ y. y.id == o) ((if b then record x { body = change x.body } else x) ∷ rest))
        ≡ (if o == m then option_map change (option_map (λ y. y.body) (cond c (Some x) (find (λ y. y.id == o) xs))) else option_map (λ y. y.body) (cond c (Some x) (find (λ y. y.id == o) xs)))
    go true true here there more =
        ap (λ b. option_map (λ y. y.body) (cond b (Some (record x { body = change x.body })) (find (λ y. y.id == o) rest))) there
        ∙ sym (ap (λ b. if b then Some (change x.body) else Some x.body) (eq-eqb o m (sym (eqb-true x.id o there) ∙ eqb-true x.id m here)))
    go true false here there more = ap (λ b. option_map (λ y. y.body) (cond b (Some (record x { body = change x.body })) (find (λ y. y.id == o) rest))) there ∙ more
    go false true here there more =
        ap (λ b. option_map (λ y. y.body) (cond b (Some x) (find (λ y. y.id == o) rest))) there
        ∙ sym (ap (λ b. if b then Some (change x.body) else Some x.body) (ne_eqb o m (λ same. false≢true (sym here ∙ eq-eqb x.id m (eqb-true x.id o there ∙ same)))))
    go false false here there more = ap (λ b. option_map (λ y. y.body) (cond b (Some x) (find (λ y. y.id == o) rest))) there ∙ more

-- a change of one body is what a call makes of it: of an object of the set its inner value, and else nothing
module _ {K T F I : Type 0} (g : Procedures K T F I) (s : State K T F I) (m : ℕ) (call : Call) (change : Body F I → Body F I) (set_by : Body F I → T)
    (keeps_directory : (shadow : Option ℕ) → inner_of (change (Directory shadow)) ≡ None) (keeps_link : (target : List ℕ) → inner_of (change (Link target)) ≡ None)
    (changes : (face : F) (inner : I) → inner_of (change (Other face inner)) ≡ (called g call s.set inner).1)
    (set_directory : (shadow : Option ℕ) → set_by (Directory shadow) ≡ s.set) (set_link : (target : List ℕ) → set_by (Link target) ≡ s.set) (taken : option_and_then (refuses g call s.set) (inner_in s m) ≡ None)
    (sets : (face : F) (inner : I) → set_by (Other face inner) ≡ (called g call s.set inner).0) where
  -- what the change leaves, of an object with this body
  abbrev left_of : Option (Body F I) → Inside T I
  left_of found = record {
    set = option_map_or set_by found s.set;
    inner = λ o. if o == m then option_and_then inner_of (option_map change found) else inner_in s o;
  }

  abbrev pub change_left : Inside T I
  change_left = record {
    set = option_map_or set_by (body_of s m) s.set;
    inner = λ o. option_and_then inner_of (option_map (λ x. x.body) (find (λ x. x.id == o) (map (changed change m) s.objects)));
  }

  is_left : change_left ≡ left_of (body_of s m)
  is_left = λ i. record { set = option_map_or set_by (body_of s m) s.set; inner = λ o. inners o i }
    where
      inners : (o : ℕ) → option_and_then inner_of (option_map (λ x. x.body) (find (λ x. x.id == o) (map (changed change m) s.objects)))
          ≡ (if o == m then option_and_then inner_of (option_map change (body_of s m)) else inner_in s o)
      inners o = ap (option_and_then inner_of) (body_changed change m o s.objects) ∙ go (o == m) refl
        where
          go : (b : Bool) → (o == m) ≡ b
              → option_and_then inner_of (if b then option_map change (body_of s o) else body_of s o) ≡ (if b then option_and_then inner_of (option_map change (body_of s m)) else inner_in s o)
          go true same = ap (λ n. option_and_then inner_of (option_map change (body_of s n))) (eqb-true o m same)
          go false other = refl

  -- where the object has no inner value nothing changes
  unchanged : (found : Option (Body F I)) → body_of s m ≡ found → option_and_then inner_of found ≡ None → option_and_then inner_of (option_map change found) ≡ None
      → option_map_or set_by found s.set ≡ s.set → left_of found ≡ inside s
  unchanged found e none still set_same = λ i. record { set = set_same i; inner = λ o. inners o i }
    where
      inners : (o : ℕ) → (if o == m then option_and_then inner_of (option_map change found) else inner_in s o) ≡ inner_in s o
      inners o = go (o == m) refl
        where
          go : (b : Bool) → (o == m) ≡ b → (if b then option_and_then inner_of (option_map change found) else inner_in s o) ≡ inner_in s o
          go true same = still ∙ sym (ap (λ n. option_and_then inner_of (body_of s n)) (eqb-true o m same) ∙ ap (option_and_then inner_of) e ∙ none)
          go false other = refl

  pub change_follows : Follows g (inside s) change_left (λ o. if is_of_set s m && (m == o) then call ∷ [] else [])
  change_follows = subst (λ w. Follows g (inside s) w (λ o. if is_of_set s m && (m == o) then call ∷ [] else [])) (sym is_left) (go (body_of s m) refl)
    where
      go : (found : Option (Body F I)) → body_of s m ≡ found → Follows g (inside s) (left_of found) (λ o. if option_map_or is_set_body found false && (m == o) then call ∷ [] else [])
      go None e = follows_still g (inside s) (left_of None) (unchanged None e refl refl refl)
      go (Some (Directory shadow)) e =
          follows_still g (inside s) (left_of (Some (Directory shadow))) (unchanged (Some (Directory shadow)) e refl (keeps_directory shadow) (set_directory shadow))
      go (Some (Link target)) e = follows_still g (inside s) (left_of (Some (Link target))) (unchanged (Some (Link target)) e refl (keeps_link target) (set_link target))
      go (Some (Other face inner)) e = (
        record { object = m; call = call } ∷ [],
        calls_on-one (record { object = m; call = call }),
        (ap (λ found. is_some (option_and_then inner_of found)) e, taken, tt),
        (λ i. record { set = sets face inner i; inner = λ o. if o == m then changes face inner i else inner_in s o })
            ∙ sym (ap
            (λ (found : Option I).
            option_map_or (λ n. record { set = (called g call s.set n).0; inner = λ o. if o == m then (called g call s.set n).1 else inner_in s o }) found (inside s))
            (ap (option_and_then inner_of) e)),
      )

module _ {K T F I : Type 0} (g : Procedures K T F I) (s : State K T F I) where
  -- an object that is opened
  pub open_follows : (m : ℕ) (reason : Reason) → open_refusal g s m reason ≡ None → Follows g (inside s) (inside (with_open g s m reason)) (λ o. if is_of_set s m && (m == o) then Opened reason ∷ [] else [])
  open_follows m reason taken =
      change_follows g s m (Opened reason) (λ body. opened_body g s.set body reason) (λ body. opened_set g s.set body reason)
      (λ shadow. refl) (λ target. refl) (λ face inner. refl) (λ shadow. refl) (λ target. refl) (go (body_of s m) ∙ taken) (λ face inner. refl)
    where
      go : (found : Option (Body F I)) → option_and_then (λ inner. g.refuses_to_open s.set inner reason) (option_and_then inner_of found) ≡ option_and_then (λ body. open_refusal_of g s.set body reason) found
      go None = refl
      go (Some (Directory shadow)) = refl
      go (Some (Link target)) = refl
      go (Some (Other face inner)) = refl

  -- an object that is closed
  pub close_follows : (p m : ℕ)
      → Follows g (inside s) (inside (with_close g s p m)) (λ o. if is_of_set s m && (m == o) then Closed (handle_count_in s p m) (handle_count s m) ∷ [] else [])
  close_follows p m =
      change_follows g s m (Closed (handle_count_in s p m) (handle_count s m)) (closed_body g s.set (handle_count_in s p m) (handle_count s m)) (closed_set g s.set (handle_count_in s p m) (handle_count s m))
      (λ shadow. refl) (λ target. refl) (λ face inner. refl) (λ shadow. refl) (λ target. refl) (none_refused (inner_in s m)) (λ face inner. refl)
