-- The set's value and the inner values after a step: after the opens and closes before it settles, and after its deletes; and
-- after a grant and a new object.
use Rattle.std.proofs.Common.{◌≡◌, ◌∙◌, ℕ, ◌==◌, Bool, true, false, cond, not, ◌&&◌, ◌||◌, if◌then◌else◌, List, [], ◌∷◌, ◌++◌, find, Option, None, Some, is_some, option_map, refl, ap, sym, subst, arith, eqb-true, eq-eqb}
use Rattle.std.specs.List.{list_any}
use Rattle.std.specs.Option.{option_map_or, option_and_then, option_or}
use Rattle.std.proofs.lemmas.Bool.{false≢true, ne_eqb}
use Rattle.std.proofs.lemmas.List.Folds.{find-append, list_any-append}
use Rattle.ob_base.specs.Attrs.{has_flag, inherit_flag}
use Rattle.ob_model.specs.declared.state.Body.{Body}
use Rattle.ob_model.specs.declared.state.Body.TheVariants.{Directory, Link, Other}
use Rattle.ob_model.specs.declared.state.Held.{Held}
use Rattle.ob_model.specs.declared.state.Object.{Object}
use Rattle.ob_model.specs.declared.terms.Reason.{Reason}
use Rattle.ob_model.specs.declared.terms.Reason.TheVariants.{Created}
use Rattle.ob_model.specs.State.{State, object_of}
use Rattle.ob_model.specs.Procedures.{Procedures}
use Rattle.ob_model.specs.Settle.{deleted_one, settle}
use Rattle.ob_model.specs.declared.terms.GrantOptions.{GrantOptions}
use Rattle.ob_model.specs.Grants.{IsFreeValue, open_refusal_of, open_refusal, opened_body, opened_set, with_open, with_handle}
use Rattle.ob_model.specs.Closing.{is_handle}
use Rattle.ob_model.specs.Creates.{Spot, created, dropped}
use Rattle.ob_model.specs.Sound.{IsSound}
use Rattle.ob_model.specs.Calls.{Call, Opened, Deleted, leads_to, is_set_body, is_of_set, calls_of_grant, calls_of_end}
use Rattle.ob_laws.specs.CallsMade.{inner_of, inner_in, inside, called, refuses}
use Rattle.ob_laws.proofs.SetCounts.{is_set_found, last_passes, of_set-opened, of_set-settle, undrawn, ungranted}
use Rattle.ob_laws.proofs.Follows.{calls_on-one, none_refused, Follows, follows_still, follows_then, follows_told, open_follows}
use Rattle.ob_laws.proofs.DeletedObjects.{end_calls, settle_follows, end_told}
use Rattle.ob_laws.proofs.NewValues.{or_none, some_or, joined, joined-none, of_set-inner, inner-inserted}
use Rattle.ob_laws.proofs.RisingNumbers.{Rises, next_is_free, new_object, rises_opened, rises_created}

-- the calls of a grant, where it leads to an object that is of the set in two states at once
grant_told : (a b leads : Bool) (reason other : Reason) → (leads ≡ true → a ≡ b) → (b ≡ true → leads ≡ true → reason ≡ other)
    → (if a && leads then Opened reason ∷ [] else []) ≡ (if b && leads then Opened other ∷ [] else [])
grant_told a true true reason other same fits = ap (λ c. if c && true then Opened reason ∷ [] else []) (same refl) ∙ ap (λ r. Opened r ∷ []) (fits refl refl)
grant_told a false true reason other same fits = ap (λ c. if c && true then Opened reason ∷ [] else []) (same refl)
grant_told true true false reason other same fits = refl
grant_told true false false reason other same fits = refl
grant_told false true false reason other same fits = refl
grant_told false false false reason other same fits = refl

pub or_false : (b : Bool) → (b || false) ≡ b
or_false true = refl
or_false false = refl

-- no delete is told of what stays, nor of what is not there
end_of_none : {F I : Type 0} (found : Option (Object F I)) → ◌≡◌ {A = List Call} [] (if (is_set_found found || false) && not (is_some found) then Deleted ∷ [] else [])
end_of_none None = refl
end_of_none (Some x) = elim (is_set_body x.body) as (λ b. ◌≡◌ {A = List Call} [] (if (b || false) && false then Deleted ∷ [] else [])) [ true ↦ refl | false ↦ refl ]

-- a handle of a value that wasn't used is found under it
given_found : (hs : List Held) (new : Held) → find (is_handle new.process new.value) hs ≡ None → find (is_handle new.process new.value) (hs ++ new ∷ []) ≡ Some new
given_found hs new free =
    find-append (is_handle new.process new.value) hs (new ∷ []) ∙ ap (λ (x : Option Held). option_or x (find (is_handle new.process new.value) (new ∷ []))) free
    ∙ ap (λ b. cond b (Some new) None) ((λ i. eq-eqb new.process new.process refl i && (new.value == new.value)) ∙ eq-eqb new.value new.value refl)

-- so its object has a handle
given_held : (hs : List Held) (new : Held) (o : ℕ) → (new.object == o) ≡ true → list_any (λ h. h.object == o) (hs ++ new ∷ []) ≡ true
given_held hs new o e = list_any-append (λ h. h.object == o) hs (new ∷ []) ∙ last_passes (list_any (λ h. h.object == o) hs) (new.object == o) e

module _ {K T F I : Type 0} (g : Procedures K T F I) where
  -- a step from s to t, where objects come to be with these values: these opens and closes, and then the deletes that are told
  abbrev pub Moves : State K T F I → State K T F I → (ℕ → Option I) → (ℕ → List Call) → Type 0
  Moves s t made moves = Follows g (joined (inside s) made) (inside t) (λ o. moves o ++ calls_of_end s t (is_some (made o)) o)

  -- the same values come to be, and the same is told, in other words
  pub moves_made : (s t : State K T F I) (made more : ℕ → Option I) (moves : ℕ → List Call) → ((o : ℕ) → made o ≡ more o) → Moves s t made moves → Moves s t more moves
  moves_made s t made more moves same h = subst (λ m. Moves s t m moves) (λ i o. same o i) h

  pub moves_told : (s t : State K T F I) (made : ℕ → Option I) (moves others : ℕ → List Call) → ((o : ℕ) → moves o ≡ others o) → Moves s t made moves → Moves s t made others
  moves_told s t made moves others same h = subst (Moves s t made) (λ i o. same o i) h

  -- what is done before a state settles, and its deletes
  pub settled_moves : (s u : State K T F I) (made : ℕ → Option I) (moves : ℕ → List Call) → Rises u → ((o : ℕ) → (is_of_set s o || is_some (made o)) ≡ is_of_set u o)
      → Follows g (joined (inside s) made) (inside u) moves → Moves s (settle g u) made moves
  settled_moves s u made moves rises same h =
      follows_told g (joined (inside s) made) (inside (settle g u)) (λ o. moves o ++ end_calls g u o) (λ o. moves o ++ calls_of_end s (settle g u) (is_some (made o)) o)
      (λ o. ap (λ calls. moves o ++ calls) (end_told g u s (is_some (made o)) o (same o)))
      (follows_then g (joined (inside s) made) (inside u) (inside (settle g u)) moves (end_calls g u) h (settle_follows g u rises))

  -- where no object comes to be
  pub unmade_moves : (s u : State K T F I) (moves : ℕ → List Call) → Rises u → ((o : ℕ) → is_of_set s o ≡ is_of_set u o)
      → Follows g (inside s) (inside u) moves → Moves s (settle g u) (λ o. None) moves
  unmade_moves s u moves rises same h =
      settled_moves s u (λ o. None) moves rises (λ o. or_false (is_of_set s o) ∙ same o)
      (subst (λ v. Follows g v (inside u) moves) (sym (joined-none (inside s) (λ o. None) (λ o. refl))) h)

  -- a state that stays
  pub still_moves : (s : State K T F I) → Moves s s (λ o. None) (λ o. [])
  still_moves s =
      follows_told g (joined (inside s) (λ o. None)) (inside s) (λ o. []) (λ o. calls_of_end s s false o) (λ o. end_of_none (object_of s o))
      (follows_still g (joined (inside s) (λ o. None)) (inside s) (sym (joined-none (inside s) (λ o. None) (λ o. refl))))

  -- a grant of a handle to an object that is there
  pub grant_moves : (s : State K T F I) (p value m : ℕ) (asked : GrantOptions) (reason : Reason) (why : ℕ → Reason) → IsFreeValue s p value → open_refusal g s m reason ≡ None → Rises s
      → ((o : ℕ) → is_of_set s o ≡ true → why o ≡ reason)
      → let t = settle g (with_handle (with_open g s m reason) p value m asked.inherit) in Moves s t (λ o. None) (λ o. calls_of_grant (why o) t p (Some value) o)
  grant_moves s p value m asked reason why free taken rises fits =
      moves_told s (settle g u) (λ o. None) (λ o. if is_of_set s m && (m == o) then Opened reason ∷ [] else []) (λ o. calls_of_grant (why o) (settle g u) p (Some value) o) told
      (unmade_moves s u (λ o. if is_of_set s m && (m == o) then Opened reason ∷ [] else []) (rises_opened g s m reason rises) (λ o. sym (of_set-opened g s m o reason)) (open_follows g s m reason taken))
    where
      u : State K T F I
      u = with_handle (with_open g s m reason) p value m asked.inherit

      new : Held
      new = record { process = p; value = value; object = m; inherit = asked.inherit; order = s.next_order }

      told : (o : ℕ) → (if is_of_set s m && (m == o) then Opened reason ∷ [] else []) ≡ calls_of_grant (why o) (settle g u) p (Some value) o
      told o =
          grant_told (is_of_set s m) (is_of_set (settle g u) o) (m == o) reason (why o)
          (λ here. ap (is_of_set s) (eqb-true m o here) ∙ sym (settled here))
          (λ of here. sym (fits o (sym (settled here) ∙ of)))
          ∙ sym (ap (λ found. if is_of_set (settle g u) o && leads_to found o then Opened (why o) ∷ [] else []) (given_found s.handles new free.1))
        where
          settled : (m == o) ≡ true → is_of_set (settle g u) o ≡ is_of_set s o
          settled here = of_set-settle g u o (given_held s.handles new o here) ∙ of_set-opened g s m o reason

-- ---- a new object

module _ {K T F I : Type 0} (g : Procedures K T F I) (s : State K T F I) (sound : IsSound s) (body : Body F I) where
  -- the inner value with which it comes to be, under the next number
  abbrev pub newly : ℕ → Option I
  newly o = if o == s.next_id then inner_of body else None

  -- nothing is under it before
  none_yet : object_of s s.next_id ≡ None
  none_yet = undrawn s s.next_id sound (omega arith)

  -- the inner value of the next number, once it has come
  newly_there : (joined (inside s) newly).inner s.next_id ≡ inner_of body
  newly_there =
      (λ i. option_or (option_and_then inner_of (option_map (λ x. x.body) (none_yet i))) (if s.next_id == s.next_id then inner_of body else None))
      ∙ ap (λ b. if b then inner_of body else None) (eq-eqb s.next_id s.next_id refl)

  -- where a call on it leaves this inner value
  newly_left : (left : Option I) (o : ℕ) → (if o == s.next_id then left else (joined (inside s) newly).inner o) ≡ option_or (inner_in s o) (if o == s.next_id then left else None)
  newly_left left o = go (o == s.next_id) refl
    where
      go : (b : Bool) → (o == s.next_id) ≡ b
          → (if b then left else option_or (inner_in s o) (if b then inner_of body else None)) ≡ option_or (inner_in s o) (if b then left else None)
      go true same =
          sym (ap (λ found. option_or (option_and_then inner_of (option_map (λ x. x.body) found)) left) (ap (object_of s) (eqb-true o s.next_id same) ∙ none_yet))
      go false other = refl

  -- what is no object of the set has none
  pub newly_none : inner_of body ≡ None → (o : ℕ) → newly o ≡ None
  newly_none none o = elim (o == s.next_id) as (λ b. (if b then inner_of body else None) ≡ None) [ true ↦ none | false ↦ refl ]

  -- and leaves the others as they were
  without : (left : Option I) (o : ℕ) → left ≡ None → option_or (inner_in s o) (if o == s.next_id then left else None) ≡ inner_in s o
  without left o none = ap (option_or (inner_in s o)) (elim (o == s.next_id) as (λ b. (if b then left else None) ≡ None) [ true ↦ none | false ↦ refl ]) ∙ or_none (inner_in s o)

  -- the set refuses to open it, and it is deleted
  pub dropped_moves : (why : ℕ → Reason) (p : ℕ) → let t = dropped g s body in Moves g s t newly (λ o. calls_of_grant (why o) t p None o)
  dropped_moves why p =
      follows_told g (joined (inside s) newly) (inside t) (λ o. if is_set_body body && (s.next_id == o) then Deleted ∷ [] else []) (λ o. calls_of_grant (why o) t p None o ++ calls_of_end s t (is_some (newly o)) o)
      (λ o. told o ∙ sym (ap (λ calls. calls ++ calls_of_end s t (is_some (newly o)) o) (ungranted (why o) t p o))) (go body refl)
    where
      t : State K T F I
      t = dropped g s body

      is_set_inner : (found : Body F I) → is_set_body found ≡ is_some (inner_of found)
      is_set_inner (Directory shadow) = refl
      is_set_inner (Link target) = refl
      is_set_inner (Other face inner) = refl

      told : (o : ℕ) → (if is_set_body body && (s.next_id == o) then Deleted ∷ [] else []) ≡ calls_of_end s t (is_some (newly o)) o
      told o = at (s.next_id == o) refl
        where
          at : (b : Bool) → (s.next_id == o) ≡ b → (if is_set_body body && b then Deleted ∷ [] else []) ≡ (if (is_of_set s o || is_some (newly o)) && not (is_some (object_of s o)) then Deleted ∷ [] else [])
          at true same =
              let here : o ≡ s.next_id = sym (eqb-true s.next_id o same) in
              ap (λ b. if b && true then Deleted ∷ [] else []) (is_set_inner body ∙ ap (λ b. is_some (if b then inner_of body else None)) (sym (eq-eqb o s.next_id here)))
              ∙ (λ i. if (option_map_or is_set_body (option_map (λ x. x.body) (sym (ap (object_of s) here ∙ none_yet) i)) false || is_some (newly o)) && not (is_some (sym (ap (object_of s) here ∙ none_yet) i)) then Deleted ∷ [] else [])
          at false other =
              elim (is_set_body body) as (λ b. ◌≡◌ {A = List Call} (if b && false then Deleted ∷ [] else []) []) [ true ↦ refl | false ↦ refl ] ∙ end_of_none (object_of s o)
              ∙ (λ i. if (is_of_set s o || is_some (if sym (ne_eqb o s.next_id (λ same. false≢true (sym other ∙ eq-eqb s.next_id o (sym same)))) i then inner_of body else None)) && not (is_some (object_of s o)) then Deleted ∷ [] else [])

      go : (found : Body F I) → body ≡ found → Follows g (joined (inside s) newly) (inside t) (λ o. if is_set_body found && (s.next_id == o) then Deleted ∷ [] else [])
      go (Directory shadow) e = follows_still g (joined (inside s) newly) (inside t) (λ i. record { set = deleted_one g (e i) s.set; inner = λ o. sym (without (inner_of body) o (ap inner_of e)) i })
      go (Link target) e = follows_still g (joined (inside s) newly) (inside t) (λ i. record { set = deleted_one g (e i) s.set; inner = λ o. sym (without (inner_of body) o (ap inner_of e)) i })
      go (Other face inner) e = (
        record { object = s.next_id; call = Deleted } ∷ [],
        calls_on-one (record { object = s.next_id; call = Deleted }),
        (ap is_some (newly_there ∙ ap inner_of e), none_refused ((joined (inside s) newly).inner s.next_id), tt),
        (λ i. record { set = deleted_one g (e i) s.set; inner = λ o. sym (newly_left None o ∙ without None o refl) i })
            ∙ sym (ap
            (λ (found : Option I).
            option_map_or (λ n. record { set = g.deleted s.set n; inner = λ o. if o == s.next_id then None else (joined (inside s) newly).inner o }) found (joined (inside s) newly))
            (newly_there ∙ ap inner_of e)),
      )

  -- it is opened, and its creator is given a handle
  module _ (p : ℕ) (spot : Spot) (attrs value : ℕ) (why : ℕ → Reason) (free : IsFreeValue s p value) (taken : open_refusal_of g s.set body Created ≡ None) (rises : Rises s) (first : why s.next_id ≡ Created) where
    abbrev made_state : State K T F I
    made_state = created g s p spot body attrs value

    abbrev new_handle : Held
    new_handle = record { process = p; value = value; object = s.next_id; inherit = has_flag inherit_flag attrs; order = s.next_order }

    -- the inner values behind it, before it settles
    inner-created : (o : ℕ) → inner_in made_state o ≡ option_or (inner_in s o) (if o == s.next_id then inner_of (opened_body g s.set body Created) else None)
    inner-created o = inner-inserted s (new_object g s spot body attrs) o (next_is_free s (new_object g s spot body attrs) refl sound)

    -- an open leaves what has an inner value
    some_opened : (found : Body F I) → is_some (inner_of (opened_body g s.set found Created)) ≡ is_some (inner_of found)
    some_opened (Directory shadow) = refl
    some_opened (Link target) = refl
    some_opened (Other face inner) = refl

    -- so the objects of the set are those that were there and the new one
    of_set-created : (o : ℕ) → (is_of_set s o || is_some (newly o)) ≡ is_of_set made_state o
    of_set-created o =
        ap (λ b. b || is_some (newly o)) (of_set-inner s o)
        ∙ ap (λ b. is_some (inner_in s o) || b) (elim (o == s.next_id) as (λ b. is_some (if b then inner_of body else None) ≡ is_some (if b then inner_of (opened_body g s.set body Created) else None))
        [ true ↦ sym (some_opened body) | false ↦ refl ])
        ∙ sym (of_set-inner made_state o ∙ ap is_some (inner-created o) ∙ some_or (inner_in s o) (if o == s.next_id then inner_of (opened_body g s.set body Created) else None))

    -- its open
    opens : Follows g (joined (inside s) newly) (inside made_state) (λ o. if is_some (inner_of body) && (s.next_id == o) then Opened Created ∷ [] else [])
    opens = go body refl
      where
        go : (found : Body F I) → body ≡ found → Follows g (joined (inside s) newly) (inside made_state) (λ o. if is_some (inner_of found) && (s.next_id == o) then Opened Created ∷ [] else [])
        go (Directory shadow) e =
            follows_still g (joined (inside s) newly) (inside made_state)
            (λ i. record { set = opened_set g s.set (e i) Created; inner = λ o. (inner-created o ∙ without _ o (ap (λ b. inner_of (opened_body g s.set b Created)) e) ∙ sym (without (inner_of body) o (ap inner_of e))) i })
        go (Link target) e =
            follows_still g (joined (inside s) newly) (inside made_state)
            (λ i. record { set = opened_set g s.set (e i) Created; inner = λ o. (inner-created o ∙ without _ o (ap (λ b. inner_of (opened_body g s.set b Created)) e) ∙ sym (without (inner_of body) o (ap inner_of e))) i })
        go (Other face inner) e = (
          record { object = s.next_id; call = Opened Created } ∷ [],
          calls_on-one (record { object = s.next_id; call = Opened Created }),
          (ap is_some (newly_there ∙ ap inner_of e), ap (option_and_then (refuses g (Opened Created) s.set)) (newly_there ∙ ap inner_of e) ∙ ap (λ b. open_refusal_of g s.set b Created) (sym e) ∙ taken, tt),
          (λ i. record {
            set = opened_set g s.set (e i) Created;
            inner = λ o.
                (inner-created o ∙ ap (λ b. option_or (inner_in s o) (if o == s.next_id then inner_of (opened_body g s.set b Created) else None)) e ∙ sym (newly_left (Some ((g.opened s.set inner Created).1)) o)) i;
          })
              ∙ sym (ap
              (λ (found : Option I).
              option_map_or (λ n. record { set = (called g (Opened Created) s.set n).0; inner = λ o. if o == s.next_id then (called g (Opened Created) s.set n).1 else (joined (inside s) newly).inner o }) found
              (joined (inside s) newly))
              (newly_there ∙ ap inner_of e)),
        )

    -- its open and what then goes are what is told
    pub created_moves : let t = settle g made_state in Moves g s t newly (λ o. calls_of_grant (why o) t p (Some value) o)
    created_moves =
        moves_told g s (settle g made_state) newly (λ o. if is_some (inner_of body) && (s.next_id == o) then Opened Created ∷ [] else []) (λ o. calls_of_grant (why o) (settle g made_state) p (Some value) o) told
        (settled_moves g s made_state newly (λ o. if is_some (inner_of body) && (s.next_id == o) then Opened Created ∷ [] else []) (rises_created g s p spot body attrs value sound rises) of_set-created opens)
      where
        told : (o : ℕ) → (if is_some (inner_of body) && (s.next_id == o) then Opened Created ∷ [] else []) ≡ calls_of_grant (why o) (settle g made_state) p (Some value) o
        told o =
            grant_told (is_some (inner_of body)) (is_of_set (settle g made_state) o) (s.next_id == o) Created (why o)
            (λ here. sym (of_new here ∙ sym (of_set-created o) ∙ at here)) (λ of here. sym (ap why (sym (eqb-true s.next_id o here)) ∙ first))
            ∙ sym (ap (λ found. if is_of_set (settle g made_state) o && leads_to found o then Opened (why o) ∷ [] else []) (given_found s.handles new_handle free.1))
          where
            of_new : (s.next_id == o) ≡ true → is_of_set (settle g made_state) o ≡ is_of_set made_state o
            of_new here = of_set-settle g made_state o (given_held s.handles new_handle o here)

            at : (s.next_id == o) ≡ true → (is_of_set s o || is_some (newly o)) ≡ is_some (inner_of body)
            at here =
                let same : o ≡ s.next_id = sym (eqb-true s.next_id o here) in
                (λ i. option_map_or is_set_body (option_map (λ x. x.body) ((ap (object_of s) same ∙ none_yet) i)) false || is_some (newly o))
                ∙ ap (λ b. is_some (if b then inner_of body else None)) (eq-eqb o s.next_id same)
