-- What the parse of a pending open made is opened: the state with it, and each ending, told of the machine's states.
use Rattle.std.proofs.Common.{◌≡◌, ◌≢◌, ◌∙◌, ℕ, ◌<◌, ◌==◌, ◌||◌, ◌&&◌, not, cond, Bool, true, false, List, [], ◌∷◌, All, Option, None, Some, map, filter, option_map, get_or, ap, refl, sym, subst, eq-eqb}
use Rattle.std.specs.List.{list_any}
use Rattle.std.specs.Option.{option_map_or, option_or}
use Rattle.std.specs.Prelude.{MatchOption, Ok, Err}
use Rattle.std.proofs.lemmas.List.Elements.{All-weaker, All-map, filter_passes}
use Rattle.std.proofs.lemmas.List.Folds.{list_any-append}
use Rattle.ob_base.specs.declared.status.Status.{Status}
use Rattle.ob_base.specs.declared.status.Status.TheVariants.{Success, ProcessGone, ObjectTypeMismatch}
use Rattle.ob_model.specs.declared.reply.Answer.{Answer}
use Rattle.ob_model.specs.declared.reply.Given.TheVariants.{Handle}
use Rattle.ob_model.specs.declared.state.Body.TheVariants.{Other}
use Rattle.ob_model.specs.declared.state.Held.{Held}
use Rattle.ob_model.specs.declared.state.Object.{Object}
use Rattle.ob_model.specs.declared.state.PendingOpen.{PendingOpen}
use Rattle.ob_model.specs.declared.state.Row.{Row}
use Rattle.ob_model.specs.declared.terms.GrantOptions.{GrantOptions}
use Rattle.ob_model.specs.Grants.{Grants, first_refusal, opened_object, with_open, with_handle}
use Rattle.ob_model.specs.Opens.{options_by, GivesHandle, OpensAt}
use Rattle.ob_model.specs.Parses.{Resumes}
use Rattle.ob_model.specs.PendingOpens.{pending_of, without_pending, with_instance}
use Rattle.ob_model.specs.declared.terms.Reason.TheVariants.{Opened}
use Rattle.ob_model.specs.Procedures.{Procedures, EndsMade}
use Rattle.ob_model.specs.Refusals.{answers, gives}
use Rattle.ob_model.specs.Settle.{IsSettled, settle, is_permanent, has_handle, is_pinned, is_mapped, has_name, is_kept, has_shadow, is_alive_itself, is_shadowing, is_alive}
use Rattle.ob_model.specs.Sound.{IsSound}
use Rattle.ob_model.specs.State.{State, root_id, is_live, object_of, insert_object}
use Rattle.ob_model.specs.Types.{is_wanted, is_wanted_at}
use Rattle.ob_model.proofs.InOrder.{free_from_other, in_order-find, in_order-finds, in_order-All, in_order-rising, in_order-map}
use Rattle.ob_model.proofs.PendingSound.{instance_sound, without_pending_sound}
use Rattle.ob_model.proofs.Settled.{alive_from_handle, settle-settle}
use Rattle.ob_model.proofs.Soundness.{opened_object-id, opened_sound}
use Rattle.ob_life.specs.Settling.{AreShadowsFit}
use Rattle.ob_model.proofs.Staying.{granted_settled, shadows_insert}
use Rattle.ob_space.specs.Orderly.{IsOrderly, IsIdleUnheld}
use Rattle.ob_opens.proofs.Stays.{both_still}
use Rattle.ob_opens.proofs.Endings.{is_done, is_refused, of_ticket, its_ticket}

or_right : (a b : Bool) → b ≡ true → (a || b) ≡ true
or_right true b e = refl
or_right false b e = e

-- what a test of its ticket keeps has another ticket
other_tickets : {K : Type 0} (ticket : ℕ) (xs : List (PendingOpen K)) → All (λ x. x.ticket ≢ ticket) (filter (λ x. not (x.ticket == ticket)) xs)
other_tickets ticket xs k d within = λ same.
    let passes : not ((get_or (filter (λ x. not (x.ticket == ticket)) xs) k d).ticket == ticket) ≡ true = filter_passes (λ x. not (x.ticket == ticket)) xs k d within in
    let is : ((get_or (filter (λ x. not (x.ticket == ticket)) xs) k d).ticket == ticket) ≡ true = eq-eqb _ ticket same in
    let opposite : not true ≡ true = ap not (sym is) ∙ passes in
    cc

-- an object more that has a handle, and isn't permanent, leaves a settled state
module _ {K T F I : Type 0} (s : State K T F I) (settled : IsSettled s) (new : Object F I) (temporary : new.permanent ≡ false) (free : All (λ y. y.id ≢ new.id) s.objects)
    (held : has_handle s new.id ≡ true) (set : T) where
  t : State K T F I
  t = record s { objects = insert_object new s.objects; set = set }

  permanent_same : (o : ℕ) → is_permanent t o ≡ is_permanent s o
  unfolding t
  permanent_same o =
      ap (λ (x : Option (Object F I)). option_map_or (λ y. y.permanent) x false) (in_order-find (λ y. y.id) new s.objects o (free_from_other (λ y. y.id) new s.objects free))
      ∙ go (object_of s o) (new.id == o)
    where
      go : (x : Option (Object F I)) (b : Bool) → option_map_or (λ y. y.permanent) (option_or x (cond b (Some new) None)) false ≡ option_map_or (λ y. y.permanent) x false
      go None true = temporary
      go None false = refl
      go (Some x) b = refl

  kept_same : (r : Row) → is_kept t r ≡ is_kept s r
  unfolding t
  kept_same r = λ i. permanent_same r.object i || has_handle s r.object

  itself_same : (o : ℕ) → is_alive_itself t o ≡ is_alive_itself s o
  unfolding t
  itself_same o = λ i. (o == root_id) || has_handle s o || is_pinned s o || is_mapped s o || (permanent_same o i && has_name s o) || list_any (λ r. (r.directory == o) && kept_same r i) s.rows

  -- so what stayed does
  alive_more : (o : ℕ) → is_alive s o ≡ true → is_alive t o ≡ true
  unfolding t
  alive_more o =
      both_still (is_alive_itself s o) (is_shadowing s o) (is_alive_itself t o) (is_shadowing t o) (λ e. itself_same o ∙ e)
      (λ some. shadows_insert new s.objects o (is_alive_itself t) ((λ i. list_any (λ y. has_shadow o y.body && itself_same y.id i) s.objects) ∙ some))

  pub one_more_settled : IsSettled (record s { objects = insert_object new s.objects; set = set })
  unfolding t
  one_more_settled = record {
    names = λ k d below. kept_same (get_or s.rows k d) ∙ settled.names k d below;
    objects = in_order-All (λ x. x.id) (λ x. is_alive t x.id ≡ true) new s.objects (alive_more new.id (alive_from_handle s new.id held))
        (All-weaker (λ x. is_alive s x.id ≡ true) (λ x. is_alive t x.id ≡ true) (λ x alive. alive_more x.id alive) s.objects settled.objects);
  }

module _ {K T F I : Type 0} (s : State K T F I) (ticket : ℕ) (free : All (λ y. y.id ≢ ticket) s.objects) (face : F) (inner : I) where
  abbrev made : Object F I
  made = record { id = ticket; body = Other face inner; permanent = false; exclusive = false }

  -- it is there
  pub made_there : object_of (with_instance s ticket face inner) ticket ≡ Some made
  made_there = in_order-finds (λ y. y.id) (λ y. y.id == ticket) made s.objects (eq-eqb ticket ticket refl) (free_from_other (λ y. y.id) made s.objects free)

  -- the state with it is orderly
  pub made_orderly : (idle : I → Type 0) → idle inner → IsSound s → ticket < s.next_id → IsOrderly idle s → IsOrderly idle (with_instance s ticket face inner)
  made_orderly idle is_idle sound drawn orderly =
      let there = instance_sound (without_pending s ticket) ticket face inner free drawn (other_tickets ticket s.pending) (without_pending_sound s ticket sound) in
      record {
        root = there.objects.root;
        rising = in_order-rising (λ x. x.id) made s.objects (free_from_other (λ y. y.id) made s.objects free) orderly.rising;
        drawn = there.objects.drawn;
        standing = there.rows.standing;
        descending = orderly.descending;
        stamped = orderly.stamped;
        unheld = in_order-All (λ x. x.id) (IsIdleUnheld idle s.handles) made s.objects (λ unheld. is_idle) orderly.unheld;
        opened = orderly.opened;
        numbered = orderly.numbered;
        few_handles = orderly.few_handles;
        few_processes = orderly.few_processes;
      }

  -- and settled where it was granted a handle
  module _ (g : Procedures K T F I) (p value : ℕ) (inherit : Bool) where
    abbrev both : State K T F I
    both = with_handle (with_open g (with_instance s ticket face inner) ticket Opened) p value ticket inherit

    opened : Object F I
    opened = opened_object g s.set ticket Opened made

    opened_id : opened.id ≡ ticket
    unfolding opened
    opened_id = opened_object-id g s.set ticket Opened made

    opened_temporary : opened.permanent ≡ false
    unfolding opened
    opened_temporary = elim (ticket == ticket) as (λ b. (cond b (record made { body = Other face ((g.opened s.set inner Opened).1) }) made).permanent ≡ false) [ true ↦ refl | false ↦ refl ]

    others_free : All (λ y. y.id ≢ ticket) (map (opened_object g s.set ticket Opened) s.objects)
    others_free =
        All-map (λ y. y.id ≢ ticket) (opened_object g s.set ticket Opened) s.objects
        (All-weaker (λ y. y.id ≢ ticket) (λ y. (opened_object g s.set ticket Opened y).id ≢ ticket) (λ y other same. other (sym (opened_object-id g s.set ticket Opened y) ∙ same)) s.objects free)

    has_one : has_handle (with_handle (with_open g s ticket Opened) p value ticket inherit) ticket ≡ true
    has_one = list_any-append (λ (h : Held). h.object == ticket) s.handles _ ∙ or_right (has_handle s ticket) _ (ap (λ b. b || false) (eq-eqb ticket ticket refl))

    -- and its shadows are fit
    pub made_fit : IsSound s → ticket < s.next_id → AreShadowsFit both
    made_fit sound drawn =
        let there = opened_sound g (with_instance (without_pending s ticket) ticket face inner) ticket Opened
        (instance_sound (without_pending s ticket) ticket face inner free drawn (other_tickets ticket s.pending) (without_pending_sound s ticket sound)) in
        record { inside = there.rows.inside; shadows = there.objects.shadows }

    pub made_settled : IsSettled s → IsSettled both
    unfolding opened
    made_settled settled =
        subst IsSettled (λ i. record both { objects = sym (in_order-map (λ y. y.id) (λ y. y.id) (opened_object g s.set ticket Opened) (opened_object-id g s.set ticket Opened) made s.objects) i })
        (one_more_settled (with_handle (with_open g s ticket Opened) p value ticket inherit) (granted_settled g s p value ticket Opened inherit settled) opened opened_temporary
        (subst (λ n. All (λ y. y.id ≢ n) (map (opened_object g s.set ticket Opened) s.objects)) (sym opened_id) others_free)
        (subst (λ n. has_handle (with_handle (with_open g s ticket Opened) p value ticket inherit) n ≡ true) (sym opened_id) has_one) both.set)

-- the endings
module _ {K T F I : Type 0} (g : Procedures K T F I) (s : State K T F I) (ticket : ℕ) (x : PendingOpen K) (found : pending_of s ticket ≡ Some x) (free : All (λ y. y.id ≢ ticket) s.objects)
    (face : F) (inner : I) (answer : Answer) (t : State K T F I) where
  -- the state in which the open is pending no longer, with what its parse made
  abbrev w : State K T F I
  w = with_instance (without_pending s ticket) ticket face inner

  -- the process that asked is gone
  pub made_asker_gone : is_live s x.process ≡ false → answer ≡ answers ProcessGone → t ≡ settle g w → MatchOption (pending_of s ticket) ⊥ (λ y. Resumes g s y (Some (EndsMade face inner)) answer t)
  made_asker_gone gone told settles =
      of_ticket g s ticket x found answer t (Some (EndsMade face inner)) w
      (is_refused ((not (is_live s x.process), ProcessGone) ∷ []) w answer w _ ProcessGone (ap (λ b. first_refusal ((not b, ProcessGone) ∷ [])) gone) (told, refl)) settles

  module _ (live : is_live s x.process ≡ true) where
    made_itself : (v : State K T F I) → OpensAt g w x.process x.attrs x.wanted Success ticket answer v → t ≡ settle g v
        → MatchOption (pending_of s ticket) ⊥ (λ y. Resumes g s y (Some (EndsMade face inner)) answer t)
    made_itself v opens settles =
        of_ticket g s ticket x found answer t (Some (EndsMade face inner)) v
        (is_done ((not (is_live s x.process), ProcessGone) ∷ []) w answer v (OpensAt g w x.process x.attrs x.wanted Success x.ticket answer v) (ap (λ b. first_refusal ((not b, ProcessGone) ∷ [])) live)
        (subst (λ n. OpensAt g w x.process x.attrs x.wanted Success n answer v) (sym (its_ticket g s ticket x found)) opens)) settles

    wanted_alike : is_wanted_at g w ticket x.wanted ≡ is_wanted g x.wanted (Other face inner)
    wanted_alike = ap (λ (o : Option (Object F I)). option_map_or (is_wanted g x.wanted) (option_map (λ y. y.body) o) false) (made_there (without_pending s ticket) ticket free face inner)

    -- its kind isn't the type that was asked for
    pub made_other_type : is_wanted g x.wanted (Other face inner) ≡ false → answer ≡ answers ObjectTypeMismatch → t ≡ settle g w
        → MatchOption (pending_of s ticket) ⊥ (λ y. Resumes g s y (Some (EndsMade face inner)) answer t)
    made_other_type other told settles =
        made_itself w
        (is_refused ((not (is_wanted_at g w ticket x.wanted), ObjectTypeMismatch) ∷ []) w answer w _ ObjectTypeMismatch
        (ap (λ b. first_refusal ((not b, ObjectTypeMismatch) ∷ [])) (wanted_alike ∙ other)) (told, refl)) settles

    module _ (wanted : is_wanted g x.wanted (Other face inner) ≡ true) (asked : GrantOptions) (asks : asked ≡ options_by x.attrs) (u : State K T F I) where
      made_handle : (v : State K T F I) → GivesHandle g w x.process ticket asked Opened Success answer v → t ≡ settle g v
          → MatchOption (pending_of s ticket) ⊥ (λ y. Resumes g s y (Some (EndsMade face inner)) answer t)
      made_handle v given settles =
          made_itself v
          (is_done ((not (is_wanted_at g w ticket x.wanted), ObjectTypeMismatch) ∷ []) w answer v _ (ap (λ b. first_refusal ((not b, ObjectTypeMismatch) ∷ [])) (wanted_alike ∙ wanted))
          (subst (λ (q : GrantOptions). GivesHandle g w x.process ticket q Opened Success answer v) asks given)) settles

      -- the grant is refused: a grant reads no pending opens
      pub made_refused : (status : Status) → Grants g (with_instance s ticket face inner) x.process ticket asked Opened (Err status) u → answer ≡ answers status → t ≡ settle g w
          → MatchOption (pending_of s ticket) ⊥ (λ y. Resumes g s y (Some (EndsMade face inner)) answer t)
      made_refused status refused told settles = made_handle w (Err status, w, (refused.0, refl), (told, refl)) settles

      -- a handle is granted, and then the open ends
      pub made_given : (value : ℕ) → Grants g (with_instance s ticket face inner) x.process ticket asked Opened (Ok value) u → answer ≡ gives Success (Handle value)
          → t ≡ settle g (without_pending u ticket) → MatchOption (pending_of s ticket) ⊥ (λ y. Resumes g s y (Some (EndsMade face inner)) answer t)
      made_given value granted told settles =
          let left : State K T F I = with_handle (with_open g w ticket Opened) x.process value ticket asked.inherit in
          let is : t ≡ settle g left = settles ∙ ap (λ (v : State K T F I). settle g (without_pending v ticket)) granted.2 in
          made_handle (settle g left) (Ok value, left, (granted.0, granted.1, refl), (told, refl)) (is ∙ sym (settle-settle g left))
