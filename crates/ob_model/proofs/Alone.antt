-- In every state of a run the handles of an exclusive object are in one process, and none is inherited.
use Rattle.std.proofs.Common.{◌≢◌, cond, ◌≡◌, ◌∙◌, ℕ, ◌+◌, ◌<◌, ◌==◌, Bool, true, false, ◌&&◌, not, if◌then◌else◌, List, [], ◌∷◌, ◌++◌, length, get_or, find, filter, All, Option, None, Some, option_map, refl, ap, sym, subst, arith, eq-eqb, eqb-true, MatchOption}
use Rattle.std.specs.Prelude.{AllPairs}
use Rattle.std.specs.List.{list_any}
use Rattle.std.specs.Option.{option_map_or, option_or, is_some}
use Rattle.std.proofs.lemmas.Bool.{ne_eqb, false≢true}
use Rattle.std.proofs.lemmas.List.Elements.{All-nil, All-head, All-tail, All-push, All-filter, All-weaker, filter_passes}
use Rattle.std.proofs.lemmas.List.Folds.{list_any_at}
use Rattle.std.proofs.lemmas.List.Kept.{AllPairs-filter}
use Rattle.std.proofs.lemmas.List.Quantifiers.{all_pairs_push}
use Rattle.ob_base.specs.declared.status.Status.{Status}
use Rattle.ob_base.specs.declared.status.Status.TheVariants.{InvalidParameter, AccessDenied, InsufficientResources, ProcessGone}
use Rattle.ob_base.specs.Attrs.{has_flag, inherit_flag, permanent_flag, exclusive_flag, are_flags, are_lawful}
use Rattle.ob_model.specs.declared.reply.Answer.{Answer}
use Rattle.ob_model.specs.declared.reply.Event.{Event}
use Rattle.ob_model.specs.declared.state.Body.{Body}
use Rattle.ob_model.specs.declared.state.Held.{Held}
use Rattle.ob_model.specs.declared.state.Object.{Object}
use Rattle.ob_model.specs.State.{State, is_live, object_of, handle_count, handle_count_in}
use Rattle.ob_model.specs.Opening.{opening}
use Rattle.ob_model.specs.declared.terms.Reason.{Reason}
use Rattle.ob_model.specs.declared.terms.Reason.TheVariants.{Created, Inherited}
use Rattle.ob_model.specs.Procedures.{Procedures, ParseOutcome, EndsItself, EndsMade, EndsReparse, EndsRefused}
use Rattle.ob_model.specs.Settle.{settle}
use Rattle.ob_model.specs.declared.terms.GrantOptions.{GrantOptions}
use Rattle.ob_model.specs.Grants.{first_refusal, is_exclusive, has_other_holder, is_table_full, grant_refusal, open_refusal, opened_object, opened_body, with_open, with_handle}
use Rattle.ob_model.specs.Closing.{is_handle, without_handle, closed_body, closed_object, closed_handle}
use Rattle.ob_model.specs.Permanence.{turned_object, with_permanence, turned}
use Rattle.ob_model.specs.Maps.{with_map}
use Rattle.ob_model.specs.Creates.{Spot, created}
use Rattle.ob_model.specs.Processes.{handles_in, inherited_from, with_child, without_process, inherits_one, inherits, begun, closed_in_turn, ended}
use Rattle.ob_model.specs.Sound.{IsSound, Stands}
use Rattle.ob_model.specs.Exclusive.{AreAlone}
use Rattle.ob_model.specs.Step.{Step}
use Rattle.ob_model.specs.Run.{Entry, RunFrom, Run}
use Rattle.ob_model.proofs.InOrder.{newest_is_free, in_order-find, in_order-others}
use Rattle.ob_model.proofs.Settled.{object_of-settle, alive_from_handle}
use Rattle.ob_model.proofs.Soundness.{find_id-map, opened_object-id, opened_object-is_directory, closed_object-id, closed_object-is_directory, stands_drawn, opening_sound}
use Rattle.ob_model.proofs.Turned.{turned_object-id, turned_object-is_directory, turned_object-exclusive, turned_either}
use Rattle.ob_model.proofs.Steps.{step_sound}
use Rattle.ob_model.specs.declared.reply.Event.TheVariants.{Start, Resume, Abandon}
use Rattle.ob_model.specs.declared.state.PendingOpen.{PendingOpen}
use Rattle.ob_model.specs.PendingOpens.{pending_of, with_pending, without_pending, with_instance}
use Rattle.ob_model.specs.Parses.{parsed_state, Resumes, Abandons}
use Rattle.ob_model.proofs.PendingSound.{parsed_sound, HasTicket, has_ticket}
use Rattle.ob_model.proofs.Leads.{Came, started, judged, came_leads}

-- where nothing passes, no element does
none_of : {X : Type 0} (test : X → Bool) (xs : List X) → list_any test xs ≡ false → All (λ x. test x ≡ false) xs
none_of test xs none = λ k d within. go k d within (test (get_or xs k d)) refl
  where
    go : (k : ℕ) (d : _) → k < length xs → (t : Bool) → test (get_or xs k d) ≡ t → t ≡ false
    go k d within true e = absurd (false≢true (sym none ∙ list_any_at test xs k d within e))
    go k d within false e = refl

-- no object stands under a number that none has
none_stands : {F I : Type 0} (n : ℕ) (xs : List (Object F I)) → All (λ y. y.id ≢ n) xs → is_some (find (λ x. x.id == n) xs) ≡ true → ⊥
none_stands n [] free h = absurd (false≢true h)
none_stands {F} {I} n (x ∷ xs) free h = go (x.id == n) refl h (none_stands n xs (All-tail (λ y. y.id ≢ n) x xs free))
  where
    go : (b : Bool) → (x.id == n) ≡ b → is_some (cond b (Some x) (find (λ y. y.id == n) xs)) ≡ true → (is_some (find (λ y. y.id == n) xs) ≡ true → ⊥) → ⊥
    go true e h rest = All-head (λ y. y.id ≢ n) x xs free (eqb-true x.id n e)
    go false e h rest = rest h

-- whether what is found is exclusive
abbrev exclusive_found : {F I : Type 0} → Option (Object F I) → Bool
exclusive_found found = option_map_or (λ x. x.exclusive) found false

-- a change of objects that leaves their numbers, which are directories, and which are exclusive
exclusive-map : {F I : Type 0} (f : Object F I → Object F I) → ((x : Object F I) → (f x).exclusive ≡ x.exclusive)
    → (found : Option (Object F I)) → exclusive_found (option_map f found) ≡ exclusive_found found
exclusive-map f same None = refl
exclusive-map f same (Some x) = same x

-- a handle's number that is another one
other_number : (n m : ℕ) → n < m → (m == n) ≡ false
other_number n m less = ne_eqb m n (λ same. omega (arith, less, same))

module _ {K T F I : Type 0} where
  -- the objects of some handles are as exclusive in one state as in another
  abbrev Agree : State K T F I → State K T F I → List Held → Type 0
  Agree s t handles = All (λ h. is_exclusive t h.object ≡ is_exclusive s h.object) handles

  -- what holds of the handles holds where their objects are as exclusive
  agreeing : (s t : State K T F I) → t.handles ≡ s.handles → Agree s t s.handles → AreAlone s → AreAlone t
  agreeing s t same agree is = record {
    alone = subst (AllPairs (λ a b. a.object ≡ b.object → is_exclusive t a.object ≡ true → a.process ≡ b.process)) (sym same)
        (λ i j d less within one exclusive. is.alone i j d less within one (sym (agree i d (omega (arith, less, within))) ∙ exclusive));
    kept_back = subst (All (λ h. h.inherit ≡ true → is_exclusive t h.object ≡ false)) (sym same)
        (λ k d within inherit. agree k d within ∙ is.kept_back k d within inherit);
  }

  -- and where some of them go
  fewer : (s t : State K T F I) (stays : Held → Bool) → t.handles ≡ filter stays s.handles → Agree s t s.handles → AreAlone s → AreAlone t
  fewer s t stays same agree is = record {
    alone = subst (AllPairs (λ a b. a.object ≡ b.object → is_exclusive t a.object ≡ true → a.process ≡ b.process)) (sym same)
        (AllPairs-filter (λ a b. a.object ≡ b.object → is_exclusive t a.object ≡ true → a.process ≡ b.process) stays s.handles
        (λ i j d less within one exclusive. is.alone i j d less within one (sym (agree i d (omega (arith, less, within))) ∙ exclusive)));
    kept_back = subst (All (λ h. h.inherit ≡ true → is_exclusive t h.object ≡ false)) (sym same)
        (All-filter stays (λ h. h.inherit ≡ true → is_exclusive t h.object ≡ false) s.handles (λ k d within inherit. agree k d within ∙ is.kept_back k d within inherit));
  }

  -- and where one comes whose object is exclusive only if all others to it are in its process, and which is
  -- inherited only if its object isn't exclusive
  one_more : (s t : State K T F I) (new : Held) → t.handles ≡ s.handles ++ new ∷ [] → Agree s t s.handles
      → (is_exclusive t new.object ≡ true → All (λ h. h.object ≡ new.object → h.process ≡ new.process) s.handles)
      → (new.inherit ≡ true → is_exclusive t new.object ≡ false) → AreAlone s → AreAlone t
  one_more s t new same agree held inherit is = record {
    alone = subst (AllPairs (λ a b. a.object ≡ b.object → is_exclusive t a.object ≡ true → a.process ≡ b.process)) (sym same)
        (all_pairs_push (λ a b. a.object ≡ b.object → is_exclusive t a.object ≡ true → a.process ≡ b.process) s.handles new
        (λ i j d less within one exclusive. is.alone i j d less within one (sym (agree i d (omega (arith, less, within))) ∙ exclusive))
        (λ k d within one exclusive. held (subst (λ o. is_exclusive t o ≡ true) one exclusive) k d within one));
    kept_back = subst (All (λ h. h.inherit ≡ true → is_exclusive t h.object ≡ false)) (sym same)
        (All-push (λ h. h.inherit ≡ true → is_exclusive t h.object ≡ false) s.handles new (λ k d within inherit. agree k d within ∙ is.kept_back k d within inherit) inherit);
  }

  -- ---- what a grant is refused for

  not_held : (s : State K T F I) (p o : ℕ) → (is_exclusive s o && has_other_holder s p o) ≡ false → is_exclusive s o ≡ true → All (λ h. h.object ≡ o → h.process ≡ p) s.handles
  not_held s p o e exclusive = λ k d within one. go (get_or s.handles k d) one ((get_or s.handles k d).process == p) refl (none_of (λ h. (h.object == o) && not (h.process == p)) s.handles none k d within)
    where
      none : has_other_holder s p o ≡ false
      none = ap (λ b. b && has_other_holder s p o) (sym exclusive) ∙ e

      go : (h : Held) → h.object ≡ o → (t : Bool) → (h.process == p) ≡ t → ((h.object == o) && not (h.process == p)) ≡ false → h.process ≡ p
      go h one true is none = eqb-true h.process p is
      go h one false is none =
          absurd (false≢true (sym none ∙ ap (λ b. b && not (h.process == p)) (eq-eqb h.object o one) ∙ ap not is))

-- the refusals that come before the set's own
refused_for : (a b c d : Bool) (rest : Option Status)
    → option_or (first_refusal ((a, InvalidParameter) ∷ (b, InvalidParameter) ∷ (c, AccessDenied) ∷ (d, InsufficientResources) ∷ [])) rest ≡ None → (b ≡ false) × (c ≡ false)
refused_for true b c d rest e = cc
refused_for false true c d rest e = cc
refused_for false false true d rest e = cc
refused_for false false false d rest e = (refl, refl)

-- of two that aren't both
not_both : (a b : Bool) → (a && b) ≡ false → a ≡ true → b ≡ false
not_both true b e is = e
not_both false b e is = cc

lawful_apart : (attrs : ℕ) → are_lawful attrs ≡ true → (has_flag inherit_flag attrs && has_flag exclusive_flag attrs) ≡ false
lawful_apart attrs e = go (are_flags attrs) (has_flag inherit_flag attrs && has_flag exclusive_flag attrs) e
  where
    go : (flags both : Bool) → (flags && not both) ≡ true → both ≡ false
    go true true e = cc
    go true false e = refl
    go false both e = cc

module _ {K T F I : Type 0} (g : Procedures K T F I) where
  -- an open and a close leave which objects are exclusive
  exclusive-opened : (s : State K T F I) (o m : ℕ) (reason : Reason) → is_exclusive (with_open g s o reason) m ≡ is_exclusive s m
  exclusive-opened s o m reason =
      ap exclusive_found (find_id-map (opened_object g s.set o reason) (opened_object-id g s.set o reason) (opened_object-is_directory g s.set o reason) m s.objects)
      ∙ exclusive-map (opened_object g s.set o reason)
      (λ x. elim (x.id == o) as (λ b. (if b then record x { body = opened_body g s.set x.body reason } else x).exclusive ≡ x.exclusive) [ true ↦ refl | false ↦ refl ])
      (object_of s m)

  exclusive-closed : (s : State K T F I) (h : Held) (m : ℕ) → is_exclusive (closed_handle g s h) m ≡ is_exclusive s m
  exclusive-closed s h m =
      ap exclusive_found (find_id-map (closed_object g s.set h.object left total) (closed_object-id g s.set h.object left total) (closed_object-is_directory g s.set h.object left total) m s.objects)
      ∙ exclusive-map (closed_object g s.set h.object left total)
      (λ x. elim (x.id == h.object) as (λ b. (if b then record x { body = closed_body g s.set left total x.body } else x).exclusive ≡ x.exclusive) [ true ↦ refl | false ↦ refl ])
      (object_of s m)
    where
      left : ℕ
      left = handle_count_in (without_handle s h.process h.value) h.process h.object

      total : ℕ
      total = handle_count (without_handle s h.process h.value) h.object

  -- settling takes no object of a handle away
  settled_alone : (s : State K T F I) → AreAlone s → AreAlone (settle g s)
  settled_alone s is =
      agreeing s (settle g s) refl
      (λ k d within.
      ap exclusive_found (object_of-settle g s (get_or s.handles k d).object
      (alive_from_handle s (get_or s.handles k d).object
      (list_any_at (λ h. h.object == (get_or s.handles k d).object) s.handles k d within (eq-eqb (get_or s.handles k d).object (get_or s.handles k d).object refl))))) is

  granted_alone : (s : State K T F I) (p value o : ℕ) (asked : GrantOptions) (reason : Reason)
      → AreAlone s → grant_refusal g s p o asked reason ≡ None → AreAlone (with_handle (with_open g s o reason) p value o asked.inherit)
  granted_alone s p value o asked reason is e =
      let tests =
      refused_for (asked.exclusive && not (is_exclusive s o)) (asked.inherit && is_exclusive s o) (is_exclusive s o && has_other_holder s p o) (is_table_full s p) _ e in
      one_more s (with_handle (with_open g s o reason) p value o asked.inherit) (record { process = p; value = value; object = o; inherit = asked.inherit; order = s.next_order }) refl
      (λ k d within. exclusive-opened s o (get_or s.handles k d).object reason)
      (λ exclusive. not_held s p o tests.1 (sym (exclusive-opened s o o reason) ∙ exclusive))
      (λ inherit. exclusive-opened s o o reason ∙ not_both asked.inherit (is_exclusive s o) tests.0 inherit) is

  -- no handle leads to a new object, and none that is exclusive is made to be inherited
  created_alone : (s : State K T F I) (p : ℕ) (spot : Spot) (body : Body F I) (attrs value : ℕ)
      → IsSound s → AreAlone s → are_lawful attrs ≡ true → AreAlone (created g s p spot body attrs value)
  created_alone s p spot body attrs value sound is lawful =
      one_more s t (record { process = p; value = value; object = s.next_id; inherit = has_flag inherit_flag attrs; order = s.next_order }) refl
      (λ k d within. ap exclusive_found (in_order-others (λ x. x.id) (λ x. x.id == (get_or s.handles k d).object) new s.objects (other_number (get_or s.handles k d).object s.next_id (below k d within))))
      (λ exclusive k d within same. absurd (let less = below k d within in omega (arith, less, same)))
      (λ inherit. ap exclusive_found (in_order-find (λ x. x.id) new s.objects s.next_id (newest_is_free (λ x. x.id) new s.objects sound.objects.drawn)) ∙ mine (object_of s s.next_id) absent inherit) is
    where
      t : State K T F I
      t = created g s p spot body attrs value

      new : Object F I
      new = record { id = s.next_id; body = opened_body g s.set body Created; permanent = is_some spot && has_flag permanent_flag attrs; exclusive = has_flag exclusive_flag attrs }

      below : All (λ h. h.object < s.next_id) s.handles
      below k d within = stands_drawn s.next_id s.objects (get_or s.handles k d).object sound.objects.drawn (sound.handles.standing k d within)

      absent : is_some (object_of s s.next_id) ≡ true → ⊥
      absent there = let less = stands_drawn s.next_id s.objects s.next_id sound.objects.drawn there in omega (arith, less)

      mine : (found : Option (Object F I)) → (is_some found ≡ true → ⊥) → has_flag inherit_flag attrs ≡ true → exclusive_found (option_or found (find (λ x. x.id == s.next_id) (new ∷ []))) ≡ false
      mine (Some x) none inherit = absurd (none refl)
      mine None none inherit =
          ap (λ b. exclusive_found (if b then Some new else None)) (eq-eqb s.next_id s.next_id refl)
          ∙ not_both (has_flag inherit_flag attrs) (has_flag exclusive_flag attrs) (lawful_apart attrs lawful) inherit

  closed_alone : (s : State K T F I) (h : Held) → AreAlone s → AreAlone (closed_handle g s h)
  closed_alone s h is = fewer s (closed_handle g s h) (λ x. not (is_handle h.process h.value x)) refl (λ k d within. exclusive-closed s h (get_or s.handles k d).object) is

  -- making an object permanent or temporary leaves which are exclusive
  turned_alone : (s : State K T F I) (o : ℕ) (permanent : Bool) → AreAlone s → AreAlone (turned s o permanent)
  turned_alone s o permanent is =
      turned_either AreAlone s o permanent is
      (agreeing s (with_permanence s o permanent) refl
      (λ k d within.
      let m = (get_or s.handles k d).object in
      ap exclusive_found (find_id-map (turned_object o permanent) (turned_object-id o permanent) (turned_object-is_directory o permanent) m s.objects)
      ∙ exclusive-map (turned_object o permanent) (turned_object-exclusive o permanent) (object_of s m)) is)

  -- a child inherits handles to objects that aren't exclusive
  inherits_one_alone : (s : State K T F I) (child : ℕ) (h : Held) → AreAlone s → is_exclusive s h.object ≡ false → AreAlone (inherits_one g s child h)
  inherits_one_alone s child h is shared = go (open_refusal g s h.object Inherited)
    where
      go : (o : Option ℕ) → AreAlone (option_map_or (λ _. record s { next_order = s.next_order + 1 }) o (with_handle (with_open g s h.object Inherited) child h.value h.object true))
      go None =
          one_more s (with_handle (with_open g s h.object Inherited) child h.value h.object true) (record { process = child; value = h.value; object = h.object; inherit = true; order = s.next_order }) refl
          (λ k d within. exclusive-opened s h.object (get_or s.handles k d).object Inherited)
          (λ exclusive. absurd (false≢true (sym (exclusive-opened s h.object h.object Inherited ∙ shared) ∙ exclusive)))
          (λ inherit. exclusive-opened s h.object h.object Inherited ∙ shared) is
      go (Some k) = agreeing s (record s { next_order = s.next_order + 1 }) refl (λ k d within. refl) is

  inherits_one_exclusive : (s : State K T F I) (child : ℕ) (h : Held) (m : ℕ) → is_exclusive (inherits_one g s child h) m ≡ is_exclusive s m
  inherits_one_exclusive s child h m = go (open_refusal g s h.object Inherited)
    where
      go : (o : Option ℕ) → is_exclusive (option_map_or (λ _. record s { next_order = s.next_order + 1 }) o (with_handle (with_open g s h.object Inherited) child h.value h.object true)) m ≡ is_exclusive s m
      go None = exclusive-opened s h.object m Inherited
      go (Some k) = refl

  inherits_alone : (s : State K T F I) (child : ℕ) (hs : List Held) → AreAlone s → All (λ h. is_exclusive s h.object ≡ false) hs → AreAlone (inherits g s child hs)
  inherits_alone s child [] is shared = is
  inherits_alone s child (h ∷ hs) is shared =
      inherits_alone (inherits_one g s child h) child hs (inherits_one_alone s child h is (All-head (λ x. is_exclusive s x.object ≡ false) h hs shared))
      (All-weaker (λ x. is_exclusive s x.object ≡ false) (λ x. is_exclusive (inherits_one g s child h) x.object ≡ false) (λ x e. inherits_one_exclusive s child h x.object ∙ e) hs
      (All-tail (λ x. is_exclusive s x.object ≡ false) h hs shared))

  begun_alone : (s : State K T F I) (p : ℕ) (inherit : Bool) → AreAlone s → AreAlone (begun g s p inherit)
  begun_alone s p inherit is =
      inherits_alone (with_child s p) s.next_process (inherited_from s p inherit) (agreeing s (with_child s p) refl (λ k d within. refl) is)
      (λ k d within. shared k d within (marked (get_or (inherited_from s p inherit) k d).inherit inherit (filter_passes (λ h. h.inherit && inherit) (handles_in s p) k d within)))
    where
      marked : (a b : Bool) → (a && b) ≡ true → a ≡ true
      marked true b e = refl
      marked false b e = cc

      shared : All (λ h. h.inherit ≡ true → is_exclusive s h.object ≡ false) (inherited_from s p inherit)
      shared =
          All-filter (λ h. h.inherit && inherit) (λ h. h.inherit ≡ true → is_exclusive s h.object ≡ false) (handles_in s p)
          (All-filter (λ h. h.process == p) (λ h. h.inherit ≡ true → is_exclusive s h.object ≡ false) s.handles is.kept_back)

  closed_in_turn_alone : (s : State K T F I) (hs : List Held) → AreAlone s → AreAlone (closed_in_turn g s hs)
  closed_in_turn_alone s [] is = is
  closed_in_turn_alone s (h ∷ hs) is = closed_in_turn_alone (closed_handle g s h) hs (closed_alone s h is)

  ended_alone : (s : State K T F I) (p : ℕ) → AreAlone s → AreAlone (ended g s p)
  ended_alone s p is =
      let u = closed_in_turn g s (handles_in s p) in
      agreeing u (without_process u p) refl (λ k d within. refl) (closed_in_turn_alone s (handles_in s p) is)

  -- a start leaves it so, and so does what a parse leads to
  came_alone : (s t : State K T F I) → IsSound s → AreAlone s → Came g s t → AreAlone t
  came_alone s t sound is came =
      came_leads g s AreAlone is (λ body. agreeing s _ refl (λ k d within. refl) is)
      (λ p value o asked reason e. settled_alone (with_handle (with_open g s o reason) p value o asked.inherit) (granted_alone s p value o asked reason is e))
      (λ p spot body attrs value lawful. settled_alone (created g s p spot body attrs value) (created_alone s p spot body attrs value sound is lawful))
      (λ x. settled_alone (closed_handle g s x) (closed_alone s x is))
      (λ o permanent. settled_alone (turned s o permanent) (turned_alone s o permanent is))
      (λ p m. settled_alone (with_map s p m) (agreeing s (with_map s p m) refl (λ k d within. refl) is))
      (λ p inherit. settled_alone (begun g s p inherit) (begun_alone s p inherit is))
      (λ p. settled_alone (ended g s p) (ended_alone s p is))
      (λ p attrs wanted o rest n. settled_alone (with_pending s p attrs wanted o rest n) (agreeing s (with_pending s p attrs wanted o rest n) refl (λ k d within. refl) is)) t came

  -- so does the end of a pending open: an object under a ticket isn't exclusive, and no handle leads to it yet
  instance_alone : (s : State K T F I) (ticket : ℕ) (face : F) (inner : I) → All (λ y. y.id ≢ ticket) s.objects → All (λ h. Stands s h.object) s.handles
      → AreAlone s → AreAlone (with_instance s ticket face inner)
  instance_alone s ticket face inner free stand is =
      agreeing s (with_instance s ticket face inner) refl
      (λ k d within.
      ap exclusive_found
      (in_order-others (λ x. x.id) (λ x. x.id == (get_or s.handles k d).object) _ s.objects
      (ne_eqb ticket (get_or s.handles k d).object (other (get_or s.handles k d).object (stand k d within))))) is
    where
      other : (o : ℕ) → Stands s o → ticket ≢ o
      other o stands = λ same. none_stands ticket s.objects free (subst (Stands s) (sym same) stands)

  parsed_alone : (s : State K T F I) (x : PendingOpen K) (outcome : Option (ParseOutcome F I)) → IsSound s → HasTicket s x → AreAlone s → AreAlone (parsed_state s x.ticket outcome)
  parsed_alone s x None sound ticket is = agreeing s (without_pending s x.ticket) refl (λ k d within. refl) is
  parsed_alone s x (Some EndsItself) sound ticket is = agreeing s (without_pending s x.ticket) refl (λ k d within. refl) is
  parsed_alone s x (Some (EndsReparse text)) sound ticket is = agreeing s (without_pending s x.ticket) refl (λ k d within. refl) is
  parsed_alone s x (Some (EndsRefused k)) sound ticket is = agreeing s (without_pending s x.ticket) refl (λ k d within. refl) is
  parsed_alone s x (Some (EndsMade face inner)) sound ticket is =
      instance_alone (without_pending s x.ticket) x.ticket face inner ticket.0 sound.handles.standing (agreeing s (without_pending s x.ticket) refl (λ k d within. refl) is)

  -- a step leaves it so, and so does a run
  step_alone : (s t : State K T F I) (event : Event K) (answer : Answer) → IsSound s → AreAlone s → Step g s event answer t → AreAlone t
  step_alone s t (Start p command) answer sound is h = came_alone s t sound is (started p command answer h)
  step_alone s t (Resume ticket parse) answer sound is h = go (pending_of s ticket) (has_ticket s ticket sound) h.2
    where
      go : (found : Option (PendingOpen K)) → MatchOption found (Unit {0}) (HasTicket s) → MatchOption found ⊥ (λ x. Resumes g s x h.0 answer t) → AreAlone t
      go None has does = absurd does
      go (Some x) has does =
          subst AreAlone (sym does.2)
          (settled_alone does.0
          (came_alone (parsed_state s x.ticket h.0) does.0 (parsed_sound s x.ticket h.0 has.0 has.1 sound) (parsed_alone s x h.0 sound has is) (judged ((not (is_live s x.process), ProcessGone) ∷ []) x h.0 answer does.1)))
  step_alone s t (Abandon ticket parse) answer sound is h = go (pending_of s ticket) (has_ticket s ticket sound) h.2
    where
      go : (found : Option (PendingOpen K)) → MatchOption found (Unit {0}) (HasTicket s) → MatchOption found ⊥ (λ x. Abandons g s x h.0 answer t) → AreAlone t
      go None has does = absurd does
      go (Some x) has does = subst AreAlone (sym does.1) (settled_alone (parsed_state s x.ticket h.0) (parsed_alone s x h.0 sound has is))

  run_from_alone : (s : State K T F I) (n : ℕ) (entries : List (Entry K)) (t : State K T F I) → IsSound s → AreAlone s → RunFrom g s n entries t → AreAlone t
  run_from_alone s n [] t sound is run = subst AreAlone (sym run) is
  run_from_alone s n (e ∷ es) t sound is run =
      run_from_alone run.0 (n + 1) es t (step_sound g s run.0 e.event e.answer sound run.2) (step_alone s run.0 e.event e.answer sound is run.2) run.3

  pub run_alone : (first : T) (entries : List (Entry K)) (t : State K T F I) → Run g first entries t → AreAlone t
  run_alone first entries t run =
      run_from_alone (opening first) 0 entries t (opening_sound first)
      (record { alone = λ i j d less within. absurd (omega (arith, within)); kept_back = All-nil (λ h. h.inherit ≡ true → is_exclusive {K = K} {T = T} {F = F} {I = I} (opening first) h.object ≡ false) }) run
