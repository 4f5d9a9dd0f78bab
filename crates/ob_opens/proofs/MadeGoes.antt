-- What a parse made goes as the step settles, unless it is opened: it is deleted first, since what else goes has a
-- lesser number.
use Rattle.std.proofs.Common.{◌≡◌, ◌≢◌, ◌∙◌, ℕ, ◌<◌, ◌≤◌, ◌==◌, ◌||◌, ◌&&◌, not, nat_lt, cond, Bool, true, false, List, [], ◌∷◌, All, Option, None, Some, filter, option_map, is_some, get_or, ap, refl, sym, subst, arith}
use Rattle.std.specs.List.{AllPairs, list_any}
use Rattle.std.specs.Option.{option_map_or, option_or}
use Rattle.std.specs.Prelude.{MatchOption}
use Rattle.std.proofs.lemmas.Bool.{false≢true, ne_eqb}
use Rattle.std.proofs.lemmas.Bool.Decides.{nat_tests}
use Rattle.std.proofs.lemmas.List.Elements.{All-weaker, All-head, All-tail}
use Rattle.std.proofs.lemmas.List.Folds.{list_any_none}
use Rattle.ob_base.specs.declared.status.Status.TheVariants.{Success}
use Rattle.ob_model.specs.declared.reply.Answer.{Answer}
use Rattle.ob_model.specs.declared.state.Body.TheVariants.{Other}
use Rattle.ob_model.specs.declared.state.Held.{Held}
use Rattle.ob_model.specs.declared.state.Object.{Object}
use Rattle.ob_model.specs.declared.state.PendingOpen.{PendingOpen}
use Rattle.ob_model.specs.declared.state.Process.{Process}
use Rattle.ob_model.specs.declared.state.Row.{Row}
use Rattle.ob_model.specs.Parses.{Abandons, parsed_state}
use Rattle.ob_model.specs.PendingOpens.{pending_of, without_pending, with_instance}
use Rattle.ob_model.specs.Procedures.{Procedures, EndsMade}
use Rattle.ob_model.specs.Refusals.{answers}
use Rattle.ob_model.specs.Settle.{IsSettled, settle, is_permanent, has_handle, is_pinned, is_mapped, has_name, holds_kept, is_kept, has_shadow, is_alive_itself, is_shadowing, is_alive, deleted_all}
use Rattle.ob_model.specs.Sound.{IsSound, IsDirectory, Stands, HasSoundMap, IsShadowAmong, HasSoundShadowAmong}
use Rattle.ob_model.specs.State.{State, root_id, global_id, object_of, insert_object, is_directory_body}
use Rattle.ob_model.proofs.Finds.{filter_none, find_none}
use Rattle.ob_model.proofs.InOrder.{free_from_other, in_order-find, in_order-filter}
use Rattle.ob_model.proofs.PendingSound.{has_ticket, without_pending_sound, HasTicket}
use Rattle.ob_model.proofs.SoundPaths.{find_of, of_some}
use Rattle.ob_model.proofs.Sorted.{pairs_head, pairs_tail}
use Rattle.ob_model.proofs.Soundness.{has_shadow_is}
use Rattle.ob_opens.proofs.Ended.{only_pinned_goes}
use Rattle.ob_opens.proofs.Endings.{its_ticket}

above_is_not_less : (m n : ℕ) → nat_lt m n ≡ true → m < n
above_is_not_less m n e = grind (arith, nat_tests)

-- of deletes by rising numbers, that of an object which is put in is the first, where the others that go have lesser
-- numbers
module _ {K T F I : Type 0} (g : Procedures K T F I) (new : Object F I) (goes : Object F I → Bool) (it : goes new ≡ true) (set : T) where
  deleted_first : (xs : List (Object F I)) → AllPairs (λ a b. a.id < b.id) xs → All (λ y. goes y ≡ true → y.id < new.id) xs
      → deleted_all g set (filter goes (insert_object new xs)) ≡ deleted_all g (deleted_all g set (new ∷ [])) (filter goes xs)
  deleted_first [] rising less = ap (λ b. deleted_all g set (cond b (new ∷ []) [])) it
  deleted_first (y ∷ ys) rising less =
      go (nat_lt new.id y.id) refl (deleted_first ys (pairs_tail (λ (a b : Object F I). a.id < b.id) y ys rising) (All-tail (λ z. goes z ≡ true → z.id < new.id) y ys less))
    where
      stays : (z : Object F I) → (goes z ≡ true → z.id < new.id) → new.id < z.id → goes z ≡ false
      stays z h more = by (goes z) h
        where
          by : (b : Bool) → (b ≡ true → z.id < new.id) → b ≡ false
          by true h = absurd (let below : z.id < new.id = h refl in omega (arith, below, more))
          by false h = refl

      go : (b : Bool) → nat_lt new.id y.id ≡ b → deleted_all g set (filter goes (insert_object new ys)) ≡ deleted_all g (deleted_all g set (new ∷ [])) (filter goes ys)
          → deleted_all g set (filter goes (cond b (new ∷ y ∷ ys) (y ∷ insert_object new ys))) ≡ deleted_all g (deleted_all g set (new ∷ [])) (filter goes (y ∷ ys))
      go true e rest =
          ap (λ b. deleted_all g set (cond b (new ∷ filter goes (y ∷ ys)) (filter goes (y ∷ ys)))) it
          ∙ (λ i. deleted_all g set (new ∷ none i)) ∙ sym (ap (deleted_all g (deleted_all g set (new ∷ []))) none)
        where
          first : new.id < y.id
          first = above_is_not_less new.id y.id e

          behind : All (λ z. new.id < z.id) ys
          behind = All-weaker (λ z. y.id < z.id) (λ z. new.id < z.id) (λ z more. omega (arith, first, more)) ys (pairs_head (λ (a b : Object F I). a.id < b.id) y ys rising)

          none : filter goes (y ∷ ys) ≡ []
          none =
              ap (λ b. cond b (y ∷ filter goes ys) (filter goes ys)) (stays y (All-head (λ z. goes z ≡ true → z.id < new.id) y ys less) first)
              ∙ filter_none goes ys (λ k d below. stays (get_or ys k d) (All-tail (λ z. goes z ≡ true → z.id < new.id) y ys less k d below) (behind k d below))
      go false e rest = by (goes y)
        where
          by : (b : Bool) → deleted_all g set (cond b (y ∷ filter goes (insert_object new ys)) (filter goes (insert_object new ys)))
              ≡ deleted_all g (deleted_all g set (new ∷ [])) (cond b (y ∷ filter goes ys) (filter goes ys))
          by true = ap (λ (rest : T). deleted_all g rest (y ∷ [])) rest
          by false = rest

-- a test that an object doesn't pass finds none more where it is put in
insert_any : {F I : Type 0} (test : Object F I → Bool) (x : Object F I) (xs : List (Object F I)) → test x ≡ false → list_any test (insert_object x xs) ≡ list_any test xs
insert_any test x [] e = ap (λ b. b || false) e
insert_any test x (y ∷ ys) e = go (nat_lt x.id y.id) (insert_any test x ys e)
  where
    go : (b : Bool) → list_any test (insert_object x ys) ≡ list_any test ys → list_any test (cond b (x ∷ y ∷ ys) (y ∷ insert_object x ys)) ≡ list_any test (y ∷ ys)
    go true rest = ap (λ b. b || list_any test (y ∷ ys)) e
    go false rest = ap (λ b. test y || b) rest

module _ {K T F I : Type 0} (g : Procedures K T F I) (w : State K T F I) (sound : IsSound w) (rising : AllPairs (λ a b. a.id < b.id) w.objects) (ticket : ℕ)
    (free : All (λ y. y.id ≢ ticket) w.objects) (less : All (λ y. is_alive w y.id ≡ false → y.id < ticket) w.objects) (face : F) (inner : I) where
  new : Object F I
  new = record { id = ticket; body = Other face inner; permanent = false; exclusive = false }

  t : State K T F I
  t = with_instance w ticket face inner

  -- what is there has another number
  none : object_of w ticket ≡ None
  unfolding new
  none = find_none (λ y. y.id == ticket) w.objects (free_from_other (λ y. y.id) new w.objects free)

  another : (o : ℕ) → Stands w o → o ≢ ticket
  another o stands same =
      let some : is_some (object_of w ticket) ≡ true = subst (λ n. Stands w n) same stands in
      false≢true (sym (ap is_some none) ∙ some)

  another_directory : (o : ℕ) → IsDirectory w o → o ≢ ticket
  another_directory o is same =
      let some : IsDirectory w ticket = subst (λ n. IsDirectory w n) same is in
      false≢true (sym (ap (λ (x : Option (Object F I)). option_map_or is_directory_body (option_map (λ y. y.body) x) false) none) ∙ some)

  -- what stays is what stayed
  permanent_same : (o : ℕ) → is_permanent t o ≡ is_permanent w o
  unfolding t new
  permanent_same o =
      ap (λ (x : Option (Object F I)). option_map_or (λ y. y.permanent) x false) (in_order-find (λ y. y.id) new w.objects o (free_from_other (λ y. y.id) new w.objects free))
      ∙ go (object_of w o) (ticket == o)
    where
      go : (x : Option (Object F I)) (b : Bool) → option_map_or (λ y. y.permanent) (option_or x (cond b (Some new) None)) false ≡ option_map_or (λ y. y.permanent) x false
      go None true = refl
      go None false = refl
      go (Some x) b = refl

  kept_same : (r : Row) → is_kept t r ≡ is_kept w r
  unfolding t
  kept_same r = λ i. permanent_same r.object i || has_handle w r.object

  itself_same : (o : ℕ) → is_alive_itself t o ≡ is_alive_itself w o
  unfolding t
  itself_same o = λ i. (o == root_id) || has_handle w o || is_pinned w o || is_mapped w o || (permanent_same o i && has_name w o) || list_any (λ r. (r.directory == o) && kept_same r i) w.rows

  -- and what was made has no shadow
  shadowing_same : (o : ℕ) → is_shadowing t o ≡ is_shadowing w o
  unfolding t new
  shadowing_same o =
      (λ i. list_any (λ y. has_shadow o y.body && itself_same y.id i) (insert_object new w.objects))
      ∙ insert_any (λ y. has_shadow o y.body && is_alive_itself w y.id) new w.objects refl

  alive_same : (o : ℕ) → is_alive t o ≡ is_alive w o
  alive_same o = λ i. itself_same o i || shadowing_same o i

  -- nothing holds what was made
  unmapped : (p : Process) → HasSoundMap w p → option_map_or (λ d. d == ticket) p.map false ≡ false
  unmapped p sound_map = go p.map sound_map
    where
      go : (m : Option ℕ) → MatchOption m (Unit {0}) (IsDirectory w) → option_map_or (λ d. d == ticket) m false ≡ false
      go None h = refl
      go (Some d) h = ne_eqb d ticket (another_directory d h)

  unshaded : (y : Object F I) → HasSoundShadowAmong w.objects y → has_shadow ticket y.body ≡ false
  unshaded y fit = go (has_shadow ticket y.body) refl
    where
      go : (b : Bool) → has_shadow ticket y.body ≡ b → b ≡ false
      go true has =
          let shadow : IsShadowAmong w.objects y.id ticket = subst (λ (m : Option ℕ). MatchOption m (Unit {0}) (IsShadowAmong w.objects y.id)) (has_shadow_is ticket y.body has) fit in
          absurd (another_directory ticket shadow.0 refl)
      go false has = refl

  dead : is_alive w ticket ≡ false
  dead =
      let root : (ticket == root_id) ≡ false = ne_eqb ticket root_id (λ same. another_directory root_id sound.objects.root (sym same)) in
      let held : has_handle w ticket ≡ false = list_any_none (λ (h : Held). h.object == ticket) w.handles
      (All-weaker (λ (h : Held). Stands w h.object) (λ h. (h.object == ticket) ≡ false) (λ h stands. ne_eqb h.object ticket (another h.object stands)) w.handles sound.handles.standing) in
      let pinned : is_pinned w ticket ≡ false = list_any_none (λ (x : PendingOpen K). x.object == ticket) w.pending
      (All-weaker (λ (x : PendingOpen K). Stands w x.object) (λ x. (x.object == ticket) ≡ false) (λ x stands. ne_eqb x.object ticket (another x.object stands)) w.pending sound.pending.standing) in
      let global : (ticket == global_id) ≡ false = ne_eqb ticket global_id (λ same. another_directory global_id sound.objects.global (sym same)) in
      let maps : list_any (λ p. option_map_or (λ d. d == ticket) p.map false) w.processes ≡ false = list_any_none (λ (p : Process). option_map_or (λ d. d == ticket) p.map false) w.processes
      (All-weaker (HasSoundMap w) (λ p. option_map_or (λ d. d == ticket) p.map false ≡ false) unmapped w.processes sound.processes.maps) in
      let permanent : is_permanent w ticket ≡ false = ap (λ (x : Option (Object F I)). option_map_or (λ y. y.permanent) x false) none in
      let holds : holds_kept w ticket ≡ false = list_any_none (λ r. (r.directory == ticket) && is_kept w r) w.rows
      (All-weaker (λ (r : Row). IsDirectory w r.directory) (λ r. ((r.directory == ticket) && is_kept w r) ≡ false)
      (λ r inside. ap (λ b. b && is_kept w r) (ne_eqb r.directory ticket (another_directory r.directory inside))) w.rows sound.rows.inside) in
      let shades : is_shadowing w ticket ≡ false = list_any_none (λ y. has_shadow ticket y.body && is_alive_itself w y.id) w.objects
      (All-weaker (HasSoundShadowAmong w.objects) (λ y. (has_shadow ticket y.body && is_alive_itself w y.id) ≡ false)
      (λ y fit. ap (λ b. b && is_alive_itself w y.id) (unshaded y fit)) w.objects sound.objects.shadows) in
      λ i. root i || held i || pinned i || (global i || maps i) || (permanent i && has_name w ticket) || holds i || shades i

  pub made_goes : settle g (record w { set = g.deleted w.set inner }) ≡ settle g (with_instance w ticket face inner)
  unfolding t new
  made_goes = sym (λ i. record w { objects = objects_are i; rows = filter (λ r. kept_same r i) w.rows; set = set_is i })
    where
      objects_are : filter (λ x. is_alive t x.id) (insert_object new w.objects) ≡ filter (λ x. is_alive w x.id) w.objects
      objects_are = (λ i. filter (λ x. alive_same x.id i) (insert_object new w.objects)) ∙ in_order-filter (λ x. x.id) (λ x. is_alive w x.id) new w.objects dead

      set_is : deleted_all g w.set (filter (λ x. not (is_alive t x.id)) (insert_object new w.objects)) ≡ deleted_all g (g.deleted w.set inner) (filter (λ x. not (is_alive w x.id)) w.objects)
      set_is =
          (λ i. deleted_all g w.set (filter (λ x. not (alive_same x.id i)) (insert_object new w.objects)))
          ∙ deleted_first g new (λ x. not (is_alive w x.id)) (ap not dead) w.set w.objects rising
          (All-weaker (λ y. is_alive w y.id ≡ false → y.id < ticket) (λ y. not (is_alive w y.id) ≡ true → y.id < ticket) (λ y below gone. below (gone_is_dead (is_alive w y.id) gone)) w.objects less)
        where
          gone_is_dead : (b : Bool) → not b ≡ true → b ≡ false
          gone_is_dead true h = cc
          gone_is_dead false h = refl

-- what the parse of a pending open made goes with the open
module _ {K T F I : Type 0} (g : Procedures K T F I) (s : State K T F I) (ticket : ℕ) (x : PendingOpen K) (found : pending_of s ticket ≡ Some x) (sound : IsSound s) (settled : IsSettled s)
    (rising : AllPairs (λ a b. a.id < b.id) s.objects) where
  numbers : HasTicket s x
  numbers = of_some (HasTicket s) (pending_of s ticket) x found (has_ticket s ticket sound)

  pub ticket_free : All (λ y. y.id ≢ ticket) s.objects
  ticket_free = subst (λ n. All (λ y. y.id ≢ n) s.objects) (its_ticket g s ticket x found) numbers.0

  pub pinned_before : x.object < ticket
  pinned_before =
      let before : x.object < x.ticket = of_some (λ y. y.object < y.ticket) (pending_of s ticket) x found (find_of (λ y. y.object < y.ticket) (λ y. y.ticket == ticket) s.pending sound.pending.later) in
      let is = its_ticket g s ticket x found in
      omega (arith, before, is)

  less : All (λ y. is_alive (without_pending s ticket) y.id ≡ false → y.id < ticket) s.objects
  less k d below gone =
      let before : (get_or s.objects k d).id ≤ x.object = only_pinned_goes s ticket x sound.pending.awaited found sound (get_or s.objects k d).id (settled.objects k d below) gone in
      omega (arith, pinned_before, before)

  pub instance_goes : (face : F) (inner : I) → settle g (without_pending (record s { set = g.deleted s.set inner }) ticket) ≡ settle g (with_instance (without_pending s ticket) ticket face inner)
  instance_goes face inner = made_goes g (without_pending s ticket) (without_pending_sound s ticket sound) rising ticket ticket_free less face inner

some_is : {X : Type 0} (o : Option X) → is_some o ≡ true → (x : X) × (o ≡ Some x)
some_is None h = cc
some_is (Some x) h = (x, refl)

-- the same of any open that is pending under the ticket, and as the machine gives it up
module _ {K T F I : Type 0} (g : Procedures K T F I) (s : State K T F I) (ticket : ℕ) (there : is_some (pending_of s ticket) ≡ true) (face : F) (inner : I) where
  pub made_goes_with_open : IsSound s → IsSettled s → AllPairs (λ a b. a.id < b.id) s.objects
      → settle g (without_pending (record s { set = g.deleted s.set inner }) ticket) ≡ settle g (with_instance (without_pending s ticket) ticket face inner)
  made_goes_with_open sound settled rising = let at = some_is (pending_of s ticket) there in instance_goes g s ticket at.0 at.1 sound settled rising face inner

  pub given_up : (answer : Answer) (t : State K T F I) → answer ≡ answers Success → t ≡ settle g (parsed_state s ticket (Some (EndsMade face inner)))
      → MatchOption (pending_of s ticket) ⊥ (λ x. Abandons g s x (Some (EndsMade face inner)) answer t)
  given_up answer t told ended =
      let at = some_is (pending_of s ticket) there in
      let is : at.0.ticket ≡ ticket = its_ticket g s ticket at.0 at.1 in
      subst (λ (o : Option (PendingOpen K)). MatchOption o ⊥ (λ x. Abandons g s x (Some (EndsMade face inner)) answer t)) (sym at.1)
      (told, ended ∙ ap (λ n. settle g (parsed_state s n (Some (EndsMade face inner)))) (sym is))
