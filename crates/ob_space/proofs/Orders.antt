-- What keeps a state orderly: settling, an open with its grant, a new object, a close, and an object
-- that is dropped.
use Rattle.std.proofs.Common.{◌≡◌, ℕ, zero, suc, ◌+◌, ◌<◌, ◌≤◌, ◌==◌, Bool, true, false, ◌||◌, not, cond, List, [], ◌∷◌, ◌++◌, length, get_or, map, filter, find, All, None, Some, option_map, refl, ap, ◌∙◌, sym, subst, arith, eqb-true, eq-eqb}
use Rattle.std.specs.Prelude.{count_by, MatchOption}
use Rattle.std.specs.List.{AllPairs, list_any}
use Rattle.std.specs.Option.{option_map_or}
use Rattle.std.proofs.lemmas.Bool.{ne_eqb}
use Rattle.std.proofs.lemmas.List.Elements.{All-nil, All-append, All-push, All-map, All-filter, All-weaker}
use Rattle.std.proofs.lemmas.List.Folds.{list_any-append}
use Rattle.std.proofs.lemmas.List.Kept.{AllPairs-filter, AllPairs-cons}
use Rattle.std.proofs.lemmas.List.Sums.{length-filter}
use Rattle.ob_model.specs.declared.state.Body.{Body}
use Rattle.ob_model.specs.declared.state.Body.TheVariants.{Directory, Link, Other}
use Rattle.ob_model.specs.declared.state.Object.{Object}
use Rattle.ob_model.specs.declared.state.Held.{Held}
use Rattle.ob_model.specs.State.{State, root_id, is_directory, is_directory_body, most_handles, table_size, handle_count, handle_count_in}
use Rattle.ob_model.specs.declared.terms.Reason.{Reason}
use Rattle.ob_model.specs.Procedures.{Procedures}
use Rattle.ob_model.specs.Settle.{settle, is_alive, is_kept, is_permanent, has_name}
use Rattle.ob_model.specs.Grants.{with_open, with_handle, opened_object, opened_body}
use Rattle.ob_model.specs.Closing.{is_handle, without_handle, closed_handle, closed_object, closed_body}
use Rattle.ob_model.specs.Creates.{Spot, new_rows, with_object, with_row}
use Rattle.ob_model.proofs.InOrder.{newest_is_free, in_order-All, in_order-rising}
use Rattle.ob_model.specs.Sound.{Stands}
use Rattle.ob_model.proofs.Settled.{alive_from_row, rows_are_names, stands-settle}
use Rattle.ob_model.proofs.Soundness.{stands-opened, stands-closed, stands-with_object, new_stands, root_stands, opened_root, closed_root, opened_object-id, closed_object-id, is_directory-with_object}
use Rattle.ob_model.proofs.Finds.{filter_none, All-kept}
use Rattle.ob_space.proofs.Handles.{count-append, count_left}
use Rattle.ob_space.specs.Orderly.{IsIdleBody, is_held, IsIdleUnheld, IsOrderly}

-- pairs of a list whose elements change, and stay as they were to one another
pub pairs-map : {X Y : Type 0} (R : Y → Y → Type 0) (f : X → Y) (xs : List X) → AllPairs (λ a b. R (f a) (f b)) xs → AllPairs R (map f xs)
pairs-map R f [] h = λ i j d less below. absurd (omega (arith, below))
pairs-map R f (x ∷ xs) h =
    AllPairs-cons R (f x) (map f xs) (All-map (R (f x)) f xs (λ k d below. h 0 (suc k) d (omega arith) (omega (arith, below))))
    (pairs-map R f xs (λ i j d less below. h (suc i) (suc j) d (omega (arith, less)) (omega (arith, below))))

-- no element passes where none is said to
pub none_pass : {X : Type 0} (test : X → Bool) (xs : List X) → list_any test xs ≡ false → All (λ x. test x ≡ false) xs
none_pass test [] h = All-nil (λ x. test x ≡ false)
none_pass test (x ∷ xs) h = go (test x) refl h (none_pass test xs)
  where
    go : (b : Bool) → test x ≡ b → (b || list_any test xs) ≡ false → (list_any test xs ≡ false → All (λ y. test y ≡ false) xs) → All (λ y. test y ≡ false) (x ∷ xs)
    go true e h rest = cc
    go false e h rest = All-append (λ y. test y ≡ false) (x ∷ []) xs (All-push (λ y. test y ≡ false) [] x (All-nil (λ y. test y ≡ false)) e) (rest h)

-- a count of what none does
count_none : {X : Type 0} (test : X → Bool) (xs : List X) → list_any test xs ≡ false → count_by test xs ≡ 0
count_none test xs h = sym (length-filter test xs) ∙ ap length (filter_none test xs (none_pass test xs h))

-- of a list that a filter went over, where it keeps each element that a test finds
pub any_stays : {X : Type 0} (test keeps : X → Bool) (xs : List X) → All (λ x. test x ≡ true → keeps x ≡ true) xs → list_any test (filter keeps xs) ≡ list_any test xs
any_stays test keeps [] h = refl
any_stays test keeps (x ∷ xs) h = go (keeps x) (test x) refl refl (any_stays test keeps xs (λ k d below. h (suc k) d (omega (arith, below))))
  where
    go : (k t : Bool) → keeps x ≡ k → test x ≡ t → list_any test (filter keeps xs) ≡ list_any test xs
        → list_any test (cond k (x ∷ filter keeps xs) (filter keeps xs)) ≡ (test x || list_any test xs)
    go true t e f rest = ap (λ b. test x || b) rest
    go false true e f rest = let kept : keeps x ≡ true = h 0 x (omega arith) f in cc
    go false false e f rest = rest ∙ ap (λ b. b || list_any test xs) (sym f)

or_false : (a b : Bool) → (a || b) ≡ false → (a ≡ false) × (b ≡ false)
or_false true b h = cc
or_false false b h = (refl, h)

-- with a further handle, what isn't held wasn't held, and isn't what the handle leads to
unheld_before : (handles : List Held) (h : Held) (o : ℕ) → is_held (handles ++ h ∷ []) o ≡ false → (is_held handles o ≡ false) × ((h.object == o) ≡ false)
unheld_before handles h o e =
    let parts = or_false (is_held handles o) (is_held (h ∷ []) o) (sym (list_any-append (λ x. x.object == o) handles (h ∷ [])) ∙ e) in
    (parts.0, (or_false (h.object == o) false parts.1).0)

-- what a search finds at the first place where its test passes
find_at : {X : Type 0} (test : X → Bool) (xs : List X) (i : ℕ) (d : X) → i < length xs → test (get_or xs i d) ≡ true
    → ((k : ℕ) → k < i → test (get_or xs k d) ≡ false) → find test xs ≡ Some (get_or xs i d)
find_at test [] i d below passes before = absurd (omega (arith, below))
find_at test (x ∷ xs) zero d below passes before = ap (λ (b : Bool). cond b (Some x) (find test xs)) passes
find_at test (x ∷ xs) (suc i) d below passes before =
    ap (λ (b : Bool). cond b (Some x) (find test xs)) (before 0 (omega arith))
    ∙ find_at test xs i d (omega (arith, below)) passes (λ k less. before (suc k) (omega (arith, less)))

-- an object whose number is looked for is found, in a list whose numbers rise
pub finds_itself : {F I : Type 0} (objects : List (Object F I)) → AllPairs (λ a b. a.id < b.id) objects → All (λ x. find (λ y. y.id == x.id) objects ≡ Some x) objects
finds_itself objects rising k d below =
    find_at (λ y. y.id == (get_or objects k d).id) objects k d below (eq-eqb (get_or objects k d).id (get_or objects k d).id refl)
    (λ j less. ne_eqb (get_or objects j d).id (get_or objects k d).id (λ same. let lower = rising j k d less below in omega (arith, lower, same)))

-- and is as permanent as the state says
pub permanent_itself : {K T F I : Type 0} (s : State K T F I) → AllPairs (λ a b. a.id < b.id) s.objects → All (λ x. is_permanent s x.id ≡ x.permanent) s.objects
permanent_itself s rising k d below = ap (λ (o : _). option_map_or (λ x. x.permanent) o false) (finds_itself s.objects rising k d below)

-- a handle more, with the next order
one_more_opened : {K T F I : Type 0} (s : State K T F I) (h : Held) → h.order ≡ s.next_order → All (λ k. k.order < s.next_order) s.handles → All (λ k. k.order < s.next_order + 1) (s.handles ++ h ∷ [])
one_more_opened s h is opened =
    All-push (λ k. k.order < s.next_order + 1) s.handles h
    (All-weaker (λ k. k.order < s.next_order) (λ k. k.order < s.next_order + 1) (λ k less. omega (arith, less)) s.handles opened) (omega (arith, is))

-- a handle more in a table that isn't full leaves no table too large
module _ {K T F I : Type 0} (s : State K T F I) (h : Held) where
  pub still_few : table_size s h.process < most_handles → ((p : ℕ) → table_size s p ≤ most_handles) → (p : ℕ) → count_by (λ k. k.process == p) (s.handles ++ h ∷ []) ≤ most_handles
  still_few room few p = go (h.process == p) refl (count-append (λ k. k.process == p) s.handles (h ∷ []))
    where
      go : (b : Bool) → (h.process == p) ≡ b → count_by (λ k. k.process == p) (s.handles ++ h ∷ []) ≡ table_size s p + count_by (λ k. k.process == p) (h ∷ []) → count_by (λ k. k.process == p) (s.handles ++ h ∷ []) ≤ most_handles
      go true e counted =
          let own : table_size s p < 65535 = subst (λ (n : ℕ). table_size s n < 65535) (eqb-true h.process p e) room in
          let one : count_by (λ k. k.process == p) (h ∷ []) ≡ 1 = ap (λ (b : Bool). 0 + cond b 1 0) e in
          omega (arith, counted, own, one)
      go false e counted =
          let most : table_size s p ≤ 65535 = few p in
          let none : count_by (λ k. k.process == p) (h ∷ []) ≡ 0 = ap (λ (b : Bool). 0 + cond b 1 0) e in
          omega (arith, counted, most, none)

module _ {K T F I : Type 0} (g : Procedures K T F I) (idle : I → Type 0) where
  -- settling leaves an orderly state
  pub settled_orderly : (s : State K T F I) → IsOrderly idle s → IsOrderly idle (settle g s)
  settled_orderly s h = record {
    root = root_stands g s ∙ h.root;
    rising = AllPairs-filter (λ a b. a.id < b.id) (λ x. is_alive s x.id) s.objects h.rising;
    drawn = All-filter (λ x. is_alive s x.id) (λ x. x.id < s.next_id) s.objects h.drawn;
    descending = All-filter (is_kept s) (λ r. r.directory < r.object) s.rows h.descending;
    stamped = All-filter (is_kept s) (λ r. r.stamp < s.next_stamp) s.rows h.stamped;
    standing = All-kept (is_kept s) (λ r. (has_name s r.object ≡ true) × Stands s r.object) (λ r. Stands (settle g s) r.object)
        (λ r kept there. stands-settle g s r.object (alive_from_row s r kept there.0) there.1) s.rows (λ k d below. (rows_are_names s k d below, h.standing k d below));
    unheld = All-filter (λ x. is_alive s x.id) (IsIdleUnheld idle s.handles) s.objects h.unheld;
    opened = h.opened;
    numbered = h.numbered;
    few_handles = h.few_handles;
    few_processes = h.few_processes;
  }

  -- an open and a grant to a process, whose table has room for it, leave an orderly state
  pub granted_orderly : (s : State K T F I) (p value o : ℕ) (reason : Reason) (inherit : Bool)
      → IsOrderly idle s → table_size s p < most_handles → IsOrderly idle (with_handle (with_open g s o reason) p value o inherit)
  granted_orderly s p value o reason inherit h room =
      let f = opened_object g s.set o reason in
      let new : Held = record { process = p; value = value; object = o; inherit = inherit; order = s.next_order } in
      record {
        root = opened_root g s p value o reason inherit ∙ h.root;
        rising = pairs-map (λ a b. a.id < b.id) f s.objects
            (λ i j d less below. subst (λ (n : ℕ). n < (f (get_or s.objects j d)).id) (sym (opened_object-id g s.set o reason (get_or s.objects i d)))
            (subst (λ (n : ℕ). (get_or s.objects i d).id < n) (sym (opened_object-id g s.set o reason (get_or s.objects j d))) (h.rising i j d less below)));
        drawn = All-map (λ x. x.id < s.next_id) f s.objects (λ k d below. subst (λ (n : ℕ). n < s.next_id) (sym (opened_object-id g s.set o reason (get_or s.objects k d))) (h.drawn k d below));
        descending = h.descending;
        stamped = h.stamped;
        standing = All-weaker (λ r. Stands s r.object) (λ r. Stands (with_open g s o reason) r.object) (λ r there. stands-opened g s o r.object reason ∙ there) s.rows h.standing;
        unheld = All-map (IsIdleUnheld idle (s.handles ++ new ∷ [])) f s.objects
            (All-weaker (IsIdleUnheld idle s.handles) (λ x. IsIdleUnheld idle (s.handles ++ new ∷ []) (f x)) (opened_unheld new refl) s.objects h.unheld);
        opened = one_more_opened s new refl h.opened;
        numbered = h.numbered;
        few_handles = still_few s new room h.few_handles;
        few_processes = h.few_processes;
      }
    where
      opened_unheld : (new : Held) → new.object ≡ o → (x : Object F I) → IsIdleUnheld idle s.handles x → IsIdleUnheld idle (s.handles ++ new ∷ []) (opened_object g s.set o reason x)
      opened_unheld new at x before = go (x.id == o) refl
        where
          go : (b : Bool) → (x.id == o) ≡ b → IsIdleUnheld idle (s.handles ++ new ∷ []) (cond b (record x { body = opened_body g s.set x.body reason }) x)
          go true e unheld =
              let other = (unheld_before s.handles new x.id unheld).1 in
              let same : (new.object == x.id) ≡ true = eq-eqb new.object x.id (at ∙ sym (eqb-true x.id o e)) in
              cc
          go false e unheld = before (unheld_before s.handles new x.id unheld).0

  -- an object that is dropped leaves an orderly state
  pub drawn_orderly : (s : State K T F I) (set : T) → IsOrderly idle s → IsOrderly idle (record s { next_id = s.next_id + 1; set = set })
  drawn_orderly s set h = record {
    root = h.root;
    rising = h.rising;
    drawn = All-weaker (λ x. x.id < s.next_id) (λ x. x.id < s.next_id + 1) (λ x less. omega (arith, less)) s.objects h.drawn;
    descending = h.descending;
    stamped = h.stamped;
    standing = h.standing;
    unheld = h.unheld;
    opened = h.opened;
    numbered = h.numbered;
    few_handles = h.few_handles;
    few_processes = h.few_processes;
  }

not_false : (b : Bool) → (b ≡ true → ⊥) → not b ≡ true
not_false true h = absurd (h refl)
not_false false h = refl

module _ {K T F I : Type 0} (g : Procedures K T F I) (idle : I → Type 0) (closed_idle : (set : T) (inner : I) (process_left : ℕ) → idle ((g.closed set inner process_left 0).1)) where
  -- a body as its last close left it is idle
  last_closed_idle : (set : T) (left total : ℕ) (body : Body F I) → total ≡ 0 → IsIdleBody idle (closed_body g set left total body)
  last_closed_idle set left total (Directory shadow) none = tt
  last_closed_idle set left total (Link target) none = tt
  last_closed_idle set left total (Other face inner) none = subst (λ (n : ℕ). idle ((g.closed set inner left n).1)) (sym none) (closed_idle set inner left)

  -- a close of a handle leaves an orderly state, where no other handle is taken for it
  pub closed_orderly : (s : State K T F I) (h : Held) → IsOrderly idle s → All (λ k. is_handle h.process h.value k ≡ true → k.object ≡ h.object) s.handles → IsOrderly idle (closed_handle g s h)
  closed_orderly s h orderly only =
      let left = handle_count_in (without_handle s h.process h.value) h.process h.object in
      let total = handle_count (without_handle s h.process h.value) h.object in
      let f = closed_object g s.set h.object left total in
      let kept = (without_handle s h.process h.value).handles in
      record {
        root = closed_root g s h ∙ orderly.root;
        rising = pairs-map (λ a b. a.id < b.id) f s.objects
            (λ i j d less below. subst (λ (n : ℕ). n < (f (get_or s.objects j d)).id) (sym (closed_object-id g s.set h.object left total (get_or s.objects i d)))
            (subst (λ (n : ℕ). (get_or s.objects i d).id < n) (sym (closed_object-id g s.set h.object left total (get_or s.objects j d))) (orderly.rising i j d less below)));
        drawn = All-map (λ x. x.id < s.next_id) f s.objects (λ k d below. subst (λ (n : ℕ). n < s.next_id) (sym (closed_object-id g s.set h.object left total (get_or s.objects k d))) (orderly.drawn k d below));
        descending = orderly.descending;
        stamped = orderly.stamped;
        standing = All-weaker (λ r. Stands s r.object) (λ r. Stands (closed_handle g s h) r.object) (λ r there. stands-closed g s h r.object ∙ there) s.rows orderly.standing;
        unheld = All-map (IsIdleUnheld idle kept) f s.objects
            (All-weaker (IsIdleUnheld idle s.handles) (λ x. IsIdleUnheld idle kept (f x)) (closed_unheld left total refl) s.objects orderly.unheld);
        opened = All-filter (λ k. not (is_handle h.process h.value k)) (λ k. k.order < s.next_order) s.handles orderly.opened;
        numbered = orderly.numbered;
        few_handles = λ p.
            let most : table_size s p ≤ 65535 = orderly.few_handles p in
            let left : count_by (λ k. k.process == p) (filter (λ k. not (is_handle h.process h.value k)) s.handles) ≤ table_size s p = count_left (λ k. k.process == p) (λ k. not (is_handle h.process h.value k)) s.handles in
            omega (arith, most, left);
        few_processes = orderly.few_processes;
      }
    where
      closed_unheld : (left total : ℕ) → total ≡ handle_count (without_handle s h.process h.value) h.object → (x : Object F I) → IsIdleUnheld idle s.handles x
          → IsIdleUnheld idle (without_handle s h.process h.value).handles (closed_object g s.set h.object left total x)
      closed_unheld left total counted x before = go (x.id == h.object) refl
        where
          kept : List Held
          kept = filter (λ k. not (is_handle h.process h.value k)) s.handles

          go : (b : Bool) → (x.id == h.object) ≡ b → IsIdleUnheld idle (filter (λ k. not (is_handle h.process h.value k)) s.handles) (cond b (record x { body = closed_body g s.set left total x.body }) x)
          go true e unheld =
              last_closed_idle s.set left total x.body
              (counted ∙ count_none (λ k. k.object == h.object) (filter (λ k. not (is_handle h.process h.value k)) s.handles)
              (ap (is_held (filter (λ k. not (is_handle h.process h.value k)) s.handles)) (sym (eqb-true x.id h.object e)) ∙ unheld))
          go false e unheld =
              before (sym (any_stays (λ k. k.object == x.id) (λ k. not (is_handle h.process h.value k)) s.handles
              (λ k d below found. not_false (is_handle h.process h.value (get_or s.handles k d))
              (λ taken. let same : x.id ≡ h.object = sym (eqb-true (get_or s.handles k d).object x.id found) ∙ only k d below taken in
              let equal : (x.id == h.object) ≡ true = eq-eqb x.id h.object same in cc))) ∙ unheld)

-- what a directory is was drawn
module _ {K T F I : Type 0} (idle : I → Type 0) (s : State K T F I) (orderly : IsOrderly idle s) where
  find_drawn : (xs : List (Object F I)) (d : ℕ) → All (λ x. x.id < s.next_id) xs → option_map_or is_directory_body (option_map (λ x. x.body) (find (λ x. x.id == d) xs)) false ≡ true → d < s.next_id
  find_drawn [] d all h = cc
  find_drawn (x ∷ xs) d all h = go (x.id == d) refl h (find_drawn xs d (λ k e below. all (suc k) e (omega (arith, below))))
    where
      go : (b : Bool) → (x.id == d) ≡ b → option_map_or is_directory_body (option_map (λ y. y.body) (cond b (Some x) (find (λ y. y.id == d) xs))) false ≡ true
          → (option_map_or is_directory_body (option_map (λ y. y.body) (find (λ y. y.id == d) xs)) false ≡ true → d < s.next_id) → d < s.next_id
      go true e h rest = subst (λ (n : ℕ). n < s.next_id) (eqb-true x.id d e) (all 0 x (omega arith))
      go false e h rest = rest h

  pub directory_drawn : (d : ℕ) → is_directory s d ≡ true → d < s.next_id
  directory_drawn d h = find_drawn s.objects d orderly.drawn h

  -- a new object, with its row in a directory that is there and a handle to it of a process whose table
  -- has room, leaves an orderly state
  pub object_orderly : (set : T) (body : Body F I) (permanent exclusive : Bool) (spot : Spot) (p value : ℕ) (inherit : Bool)
      → table_size s p < most_handles → MatchOption spot (Unit {0}) (λ at. is_directory s at.0 ≡ true)
      → IsOrderly idle (with_handle (with_row (with_object (record s { set = set }) body permanent exclusive) spot s.next_id) p value s.next_id inherit)
  object_orderly set body permanent exclusive spot p value inherit room inside =
      let new : Object F I = record { id = s.next_id; body = body; permanent = permanent; exclusive = exclusive } in
      let handle : Held = record { process = p; value = value; object = s.next_id; inherit = inherit; order = s.next_order } in
      let t : State K T F I = with_object (record s { set = set }) body permanent exclusive in
      record {
        root = is_directory-with_object s body permanent exclusive root_id orderly.drawn orderly.root;
        rising = in_order-rising (λ x. x.id) new s.objects (newest_is_free (λ x. x.id) new s.objects orderly.drawn) orderly.rising;
        drawn = in_order-All (λ x. x.id) (λ x. x.id < s.next_id + 1) new s.objects (omega arith) (All-weaker (λ x. x.id < s.next_id) (λ x. x.id < s.next_id + 1) (λ x less. omega (arith, less)) s.objects orderly.drawn);
        descending = All-append (λ r. r.directory < r.object) s.rows (new_rows spot s.next_stamp s.next_id) orderly.descending (row_descends spot inside);
        stamped = All-append (λ r. r.stamp < s.next_stamp + length (new_rows spot s.next_stamp s.next_id)) s.rows (new_rows spot s.next_stamp s.next_id)
            (All-weaker (λ r. r.stamp < s.next_stamp) (λ r. r.stamp < s.next_stamp + length (new_rows spot s.next_stamp s.next_id)) (λ r less. omega (arith, less)) s.rows orderly.stamped)
            (row_stamped spot);
        standing = All-append (λ r. Stands t r.object) s.rows (new_rows spot s.next_stamp s.next_id)
            (All-weaker (λ r. Stands s r.object) (λ r. Stands t r.object) (λ r there. stands-with_object (record s { set = set }) body permanent exclusive r.object orderly.drawn there) s.rows orderly.standing)
            (row_stands spot);
        unheld = in_order-All (λ x. x.id) (IsIdleUnheld idle (s.handles ++ handle ∷ [])) new s.objects (λ unheld. held_itself handle refl unheld)
            (All-weaker (IsIdleUnheld idle s.handles) (IsIdleUnheld idle (s.handles ++ handle ∷ [])) (λ x before unheld. before (unheld_before s.handles handle x.id unheld).0) s.objects orderly.unheld);
        opened = one_more_opened s handle refl orderly.opened;
        numbered = orderly.numbered;
        few_handles = still_few s handle room orderly.few_handles;
        few_processes = orderly.few_processes;
      }
    where
      row_stamped : (spot : Spot) → All (λ r. r.stamp < s.next_stamp + length (new_rows spot s.next_stamp s.next_id)) (new_rows spot s.next_stamp s.next_id)
      row_stamped None = All-nil (λ r. r.stamp < s.next_stamp + 0)
      row_stamped (Some at) = All-push (λ r. r.stamp < s.next_stamp + 1) [] _ (All-nil (λ r. r.stamp < s.next_stamp + 1)) (omega arith)

      row_stands : (spot : Spot) → All (λ r. Stands (with_object (record s { set = set }) body permanent exclusive) r.object) (new_rows spot s.next_stamp s.next_id)
      row_stands None = All-nil (λ r. Stands (with_object (record s { set = set }) body permanent exclusive) r.object)
      row_stands (Some at) =
          All-push (λ r. Stands (with_object (record s { set = set }) body permanent exclusive) r.object) [] _ (All-nil (λ r. Stands (with_object (record s { set = set }) body permanent exclusive) r.object))
          (new_stands (record s { set = set }) body permanent exclusive orderly.drawn)

      row_descends : (spot : Spot) → MatchOption spot (Unit {0}) (λ at. is_directory s at.0 ≡ true) → All (λ r. r.directory < r.object) (new_rows spot s.next_stamp s.next_id)
      row_descends None h = All-nil (λ r. r.directory < r.object)
      row_descends (Some at) h = All-push (λ r. r.directory < r.object) [] _ (All-nil (λ r. r.directory < r.object)) (directory_drawn at.0 h)

      held_itself : (handle : Held) → handle.object ≡ s.next_id → is_held (s.handles ++ handle ∷ []) s.next_id ≡ false → IsIdleBody idle body
      held_itself handle at unheld =
          let other = (unheld_before s.handles handle s.next_id unheld).1 in
          let same : (handle.object == s.next_id) ≡ true = eq-eqb handle.object s.next_id at in
          cc
