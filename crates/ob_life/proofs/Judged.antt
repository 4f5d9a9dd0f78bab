-- Objects are settled one after another, each judged by the names that are left: what is left when all that
-- may go were judged is what settling leaves.
use Rattle.std.proofs.Common.{◌≡◌, ℕ, suc, ◌<◌, Bool, true, false, not, ◌||◌, ◌&&◌, ◌==◌, cond, List, [], ◌∷◌, get_or, find, refl, ap, ◌∙◌, sym, subst, arith, filter, All, eqb-true}
use Rattle.std.specs.Prelude.{Option, None, Some, option_map}
use Rattle.std.specs.List.{AllPairs, list_any}
use Rattle.std.specs.Option.{option_map_or, is_some}
use Rattle.std.proofs.lemmas.Bool.{false≢true}
use Rattle.std.proofs.lemmas.List.Elements.{All-nil, All-cons, All-filter}
use Rattle.std.proofs.lemmas.List.Kept.{AllPairs-filter}
use Rattle.ob_model.specs.declared.state.Body.TheVariants.{Directory}
use Rattle.ob_model.specs.declared.state.Row.{Row}
use Rattle.ob_model.specs.declared.state.Held.{Held}
use Rattle.ob_model.specs.declared.state.PendingOpen.{PendingOpen}
use Rattle.ob_model.specs.declared.state.Object.{Object}
use Rattle.ob_model.specs.declared.state.Process.{Process}
use Rattle.ob_model.specs.Procedures.{Procedures}
use Rattle.ob_model.specs.Sound.{Stands}
use Rattle.ob_model.specs.State.{State, root_id, global_id}
use Rattle.ob_model.specs.Settle.{has_shadow, is_kept, is_alive_itself, is_shadowing, is_alive, is_permanent, has_handle, has_name, is_pinned, is_mapped, holds_kept, deleted_one, deleted_all, settle}
use Rattle.ob_model.proofs.Finds.{filter_all, filter_none, find-filter, not_found}
use Rattle.ob_space.specs.Orderly.{IsIdleUnheld}
use Rattle.ob_life.specs.Settling.{is_shadow, is_held_up, without_names, without_object, settled_one, MaySettle}
use Rattle.ob_space.proofs.Handles.{found_passes}
use Rattle.ob_space.proofs.Orders.{any_stays, none_pass as none_passes}

-- ---- lists

-- a test of one element among those that stay
any_kept_step : {X : Type 0} (k t : Bool) (r : X) (test : X → Bool) (rs : List X) (rest : Bool) → test r ≡ t → list_any test rs ≡ rest → list_any test (cond k (r ∷ rs) rs) ≡ ((t && k) || rest)
any_kept_step true true r test rs rest e h = ap (λ b. b || list_any test rs) e
any_kept_step true false r test rs rest e h = ap (λ b. b || list_any test rs) e ∙ h
any_kept_step false true r test rs rest e h = h
any_kept_step false false r test rs rest e h = h

-- a test of the elements that stay, in one pass over all
any_kept : {X : Type 0} (kept test : X → Bool) (rows : List X) → list_any test (filter kept rows) ≡ list_any (λ r. test r && kept r) rows
any_kept kept test [] = refl
any_kept kept test (r ∷ rs) = any_kept_step (kept r) (test r) r test (filter kept rs) _ refl (any_kept kept test rs)

-- one filter for two tests that agree on the elements
pub filter_agrees : {X : Type 0} (p q : X → Bool) (xs : List X) → All (λ x. p x ≡ q x) xs → filter p xs ≡ filter q xs
filter_agrees p q [] same = refl
filter_agrees p q (x ∷ xs) same =
    ap (λ b. cond b (x ∷ filter p xs) (filter p xs)) (same 0 x (omega arith))
    ∙ ap (λ ys. cond (q x) (x ∷ ys) ys) (filter_agrees p q xs (λ k d below. same (suc k) d (omega (arith, below))))

-- two tests that agree on the elements find alike
pub any_agrees : {X : Type 0} (p q : X → Bool) (xs : List X) → All (λ x. p x ≡ q x) xs → list_any p xs ≡ list_any q xs
any_agrees p q [] same = refl
any_agrees p q (x ∷ xs) same =
    ap (λ b. b || list_any p xs) (same 0 x (omega arith)) ∙ ap (λ b. q x || b) (any_agrees p q xs (λ k d below. same (suc k) d (omega (arith, below))))

-- two filters in turn are one of both tests
filter_twice : {X : Type 0} (p q : X → Bool) (xs : List X) → filter p (filter q xs) ≡ filter (λ x. q x && p x) xs
filter_twice p q [] = refl
filter_twice p q (x ∷ xs) = go (q x) (filter_twice p q xs)
  where
    go : (b : Bool) → filter p (filter q xs) ≡ filter (λ y. q y && p y) xs → filter p (cond b (x ∷ filter q xs) (filter q xs)) ≡ cond (b && p x) (x ∷ filter (λ y. q y && p y) xs) (filter (λ y. q y && p y) xs)
    go true rest = ap (λ ys. cond (p x) (x ∷ ys) ys) rest
    go false rest = rest

-- what a filter leaves passes its test
pub all_pass : {X : Type 0} (p : X → Bool) (xs : List X) → All (λ x. p x ≡ true) (filter p xs)
all_pass p [] = All-nil (λ x. p x ≡ true)
all_pass p (x ∷ xs) = go (p x) refl (all_pass p xs)
  where
    go : (b : Bool) → p x ≡ b → All (λ y. p y ≡ true) (filter p xs) → All (λ y. p y ≡ true) (cond b (x ∷ filter p xs) (filter p xs))
    go true e rest = All-cons (λ y. p y ≡ true) x (filter p xs) e rest
    go false e rest = rest

-- what holds of all elements holds of the one that is found
pub all_found : {X : Type 0} (P : X → Type 0) (test : X → Bool) (xs : List X) (x : X) → All P xs → find test xs ≡ Some x → P x
all_found P test [] x all e = cc
all_found P test (y ∷ ys) x all e = go (test y) e (all_found P test ys x (λ k d below. all (suc k) d (omega (arith, below))))
  where
    go : (b : Bool) → cond b (Some y) (find test ys) ≡ Some x → (find test ys ≡ Some x → P x) → P x
    go true e rest = let same : y ≡ x = cc in subst P same (all 0 y (omega arith))
    go false e rest = rest e

-- ---- tests

-- one thing more is done with, which stays in any case, or goes
stays_done : (k d e : Bool) → (e ≡ true → k ≡ true) → (k || not d) ≡ (k || not (d || e))
stays_done true d e h = refl
stays_done false true e h = refl
stays_done false false true h = let no : false ≡ true = h refl in cc
stays_done false false false h = refl

goes_done : (k d e : Bool) → (e ≡ true → k ≡ false) → ((k || not d) && not e) ≡ (k || not (d || e))
goes_done true d true h = let no : true ≡ false = h refl in cc
goes_done true d false h = refl
goes_done false true true h = refl
goes_done false true false h = refl
goes_done false false true h = refl
goes_done false false false h = refl

-- of what is done with, what stays is left
done_left : (k d : Bool) → (k || d) ≡ true → (k || not d) ≡ k
done_left true d h = refl
done_left false true h = refl
done_left false false h = cc

pub left_stays : (k d : Bool) → (k || not d) ≡ true → d ≡ true → k ≡ true
left_stays true d h e = refl
left_stays false true h e = h
left_stays false false h e = cc

pub some_done : (k d : Bool) → d ≡ true → (k || d) ≡ true
some_done true d h = refl
some_done false d h = h

none_done : (k d : Bool) → d ≡ false → (k || not d) ≡ true
none_done true d h = refl
none_done false d h = ap not h

-- a name that lies in a directory, where it is done with, is one that stays
kept_there : (t k d : Bool) → (t ≡ true → (k || d) ≡ true) → (t && (k || not d)) ≡ (t && k)
kept_there true k d h = done_left k d (h refl)
kept_there false k d h = refl

last_false : (a b : Bool) → (a || b) ≡ false → b ≡ false
last_false true b h = cc
last_false false b h = h

first_false : (a b : Bool) → (a || b) ≡ false → a ≡ false
first_false true b h = cc
first_false false b h = refl

pub or_none : (b : Bool) → (b || false) ≡ b
or_none true = refl
or_none false = refl

module _ {K T F I : Type 0} (g : Procedures K T F I) where
  -- of objects of rising numbers the last one that goes is the first to be deleted
  last_deleted : (up : ℕ → Bool) (set : T) (id : ℕ) (x : Object F I) (xs : List (Object F I)) → AllPairs (λ a b. a.id < b.id) xs
      → find (λ o. o.id == id) xs ≡ Some x → up id ≡ false → All (λ o. id < o.id → up o.id ≡ true) xs
      → deleted_all g (deleted_one g x.body set) (filter (λ o. not (up o.id)) (filter (λ o. not (o.id == id)) xs)) ≡ deleted_all g set (filter (λ o. not (up o.id)) xs)
  last_deleted up set id x [] rising found goes behind = cc
  last_deleted up set id x (y ∷ ys) rising found goes behind =
      go (y.id == id) refl found
      (last_deleted up set id x ys (λ i j d less below. rising (suc i) (suc j) d (omega (arith, less)) (omega (arith, below))))
    where
      others : List (Object F I)
      others = filter (λ o. not (o.id == id)) ys

      -- the rest after one object, which is deleted in both or in neither
      one_more : (after : T) (b : Bool) (zs ws : List (Object F I)) → deleted_all g after zs ≡ deleted_all g set ws → deleted_all g after (cond b (y ∷ zs) zs) ≡ deleted_all g set (cond b (y ∷ ws) ws)
      one_more after true zs ws h = ap (deleted_one g y.body) h
      one_more after false zs ws h = h

      go : (b : Bool) → (y.id == id) ≡ b → cond b (Some y) (find (λ o. o.id == id) ys) ≡ Some x
          → (find (λ o. o.id == id) ys ≡ Some x → up id ≡ false → All (λ o. id < o.id → up o.id ≡ true) ys
          → deleted_all g (deleted_one g x.body set) (filter (λ o. not (up o.id)) (filter (λ o. not (o.id == id)) ys)) ≡ deleted_all g set (filter (λ o. not (up o.id)) ys))
          → deleted_all g (deleted_one g x.body set) (filter (λ o. not (up o.id)) (cond (not b) (y ∷ filter (λ o. not (o.id == id)) ys) (filter (λ o. not (o.id == id)) ys))) ≡ deleted_all g set (filter (λ o. not (up o.id)) (y ∷ ys))
      go true e found rest =
          let here : y.id ≡ id = eqb-true y.id id e in
          let same : y ≡ x = cc in
          let up_behind : All (λ o. not (up o.id) ≡ false) ys = λ k d below.
          ap not (behind (suc k) d (omega (arith, below)) (subst (λ (n : ℕ). n < (get_or ys k d).id) here (rising 0 (suc k) d (omega arith) (omega (arith, below))))) in
          ap (deleted_all g (deleted_one g x.body set)) (filter_none (λ o. not (up o.id)) (filter (λ o. not (o.id == id)) ys) (All-filter (λ o. not (o.id == id)) (λ o. not (up o.id) ≡ false) ys up_behind))
          ∙ ap (λ (o : Object F I). deleted_one g o.body set) (sym same)
          ∙ sym (ap (λ b. deleted_all g set (cond (not b) (y ∷ filter (λ o. not (up o.id)) ys) (filter (λ o. not (up o.id)) ys))) (ap up here ∙ goes)
          ∙ ap (λ zs. deleted_one g y.body (deleted_all g set zs)) (filter_none (λ o. not (up o.id)) ys up_behind))
      go false e found rest =
          one_more (deleted_one g x.body set) (not (up y.id)) (filter (λ o. not (up o.id)) (filter (λ o. not (o.id == id)) ys)) (filter (λ o. not (up o.id)) ys)
          (rest found goes (λ k d below. behind (suc k) d (omega (arith, below))))

  -- a delete of a directory changes nothing
  plain_deleted : (up : ℕ → Bool) (set : T) (id : ℕ) (xs : List (Object F I)) → All (λ x. (x.id == id) ≡ true → (shadow : Option ℕ) × (x.body ≡ Directory shadow)) xs
      → deleted_all g set (filter (λ x. not (up x.id)) (filter (λ x. not (x.id == id)) xs)) ≡ deleted_all g set (filter (λ x. not (up x.id)) xs)
  plain_deleted up set id [] plain = refl
  plain_deleted up set id (x ∷ xs) plain =
      go (x.id == id) (not (up x.id)) refl refl (plain 0 x (omega arith)) (plain_deleted up set id xs (λ k d below. plain (suc k) d (omega (arith, below))))
    where
      others : List (Object F I)
      others = filter (λ y. not (y.id == id)) xs

      dead : List (Object F I) → List (Object F I)
      dead ys = filter (λ y. not (up y.id)) ys

      go : (b c : Bool) → (x.id == id) ≡ b → not (up x.id) ≡ c → (b ≡ true → (shadow : Option ℕ) × (x.body ≡ Directory shadow)) → deleted_all g set (dead others) ≡ deleted_all g set (dead xs)
          → deleted_all g set (dead (cond (not b) (x ∷ others) others)) ≡ deleted_all g set (cond c (x ∷ dead xs) (dead xs))
      go true true e f body rest = rest ∙ ap (λ y. deleted_one g y (deleted_all g set (dead xs))) (sym (body refl).1)
      go true false e f body rest = rest
      go false true e f body rest = ap (λ b. deleted_all g set (cond b (x ∷ dead others) (dead others))) f ∙ ap (deleted_one g x.body) rest
      go false false e f body rest = ap (λ b. deleted_all g set (cond b (x ∷ dead others) (dead others))) f ∙ rest

module _ {K T F I : Type 0} (g : Procedures K T F I) (s : State K T F I) where
  -- What is left when these objects were judged: of their names those that stay, of them those that do, and
  -- with the others of those that are left deleted as well, all are deleted.
  pub record Judged (done : ℕ → Bool) (t : State K T F I) : Type 0 where
    pub objects : t.objects ≡ filter (λ x. is_alive s x.id || not (done x.id)) s.objects
    pub rows : t.rows ≡ filter (λ r. is_kept s r || not (done r.object)) s.rows
    pub deleted : deleted_all g t.set (filter (λ x. not (is_alive s x.id)) t.objects) ≡ deleted_all g s.set (filter (λ x. not (is_alive s x.id)) s.objects)
    pub handles : t.handles ≡ s.handles
    pub processes : t.processes ≡ s.processes
    pub pending : t.pending ≡ s.pending
    pub next_id : t.next_id ≡ s.next_id
    pub next_stamp : t.next_stamp ≡ s.next_stamp
    pub next_process : t.next_process ≡ s.next_process
    pub next_order : t.next_order ≡ s.next_order

  -- at first, only what stays
  pub none_judged : (done : ℕ → Bool) → All (λ x. (is_alive s x.id || not (done x.id)) ≡ true) s.objects → All (λ r. (is_kept s r || not (done r.object)) ≡ true) s.rows → Judged done s
  none_judged done objects rows = record {
    objects = sym (filter_all (λ x. is_alive s x.id || not (done x.id)) s.objects objects);
    rows = sym (filter_all (λ r. is_kept s r || not (done r.object)) s.rows rows);
    deleted = refl;
    handles = refl;
    processes = refl;
    pending = refl;
    next_id = refl;
    next_stamp = refl;
    next_process = refl;
    next_order = refl;
  }

  -- the same ones, told otherwise
  pub judged_alike : (done other : ℕ → Bool) (t : State K T F I) → All (λ x. (is_alive s x.id || not (done x.id)) ≡ (is_alive s x.id || not (other x.id))) s.objects
      → All (λ r. (is_kept s r || not (done r.object)) ≡ (is_kept s r || not (other r.object))) s.rows → Judged done t → Judged other t
  judged_alike done other t objects rows judged = record {
    objects = judged.objects ∙ filter_agrees (λ x. is_alive s x.id || not (done x.id)) (λ x. is_alive s x.id || not (other x.id)) s.objects objects;
    rows = judged.rows ∙ filter_agrees (λ r. is_kept s r || not (done r.object)) (λ r. is_kept s r || not (other r.object)) s.rows rows;
    deleted = judged.deleted;
    handles = judged.handles;
    processes = judged.processes;
    pending = judged.pending;
    next_id = judged.next_id;
    next_stamp = judged.next_stamp;
    next_process = judged.next_process;
    next_order = judged.next_order;
  }

  -- in the end, all that may go
  pub all_judged : (done : ℕ → Bool) (t : State K T F I) → All (λ x. (is_alive s x.id || done x.id) ≡ true) s.objects → All (λ r. (is_kept s r || done r.object) ≡ true) s.rows → Judged done t → t ≡ settle g s
  all_judged done t objects rows judged = λ i. record s {
    objects = left i;
    rows = named i;
    handles = judged.handles i;
    processes = judged.processes i;
    pending = judged.pending i;
    set = set i;
    next_id = judged.next_id i;
    next_stamp = judged.next_stamp i;
    next_process = judged.next_process i;
    next_order = judged.next_order i;
  }
    where
      left : t.objects ≡ filter (λ x. is_alive s x.id) s.objects
      left =
          judged.objects ∙ filter_agrees (λ x. is_alive s x.id || not (done x.id)) (λ x. is_alive s x.id) s.objects
          (λ k d below. done_left (is_alive s (get_or s.objects k d).id) (done (get_or s.objects k d).id) (objects k d below))

      named : t.rows ≡ filter (is_kept s) s.rows
      named =
          judged.rows ∙ filter_agrees (λ r. is_kept s r || not (done r.object)) (is_kept s) s.rows
          (λ k d below. done_left (is_kept s (get_or s.rows k d)) (done (get_or s.rows k d).object) (rows k d below))

      set : t.set ≡ deleted_all g s.set (filter (λ x. not (is_alive s x.id)) s.objects)
      set =
          sym (ap (deleted_all g t.set) (ap (filter (λ x. not (is_alive s x.id))) left
          ∙ filter_none (λ x. not (is_alive s x.id)) (filter (λ x. is_alive s x.id) s.objects)
          (λ k d below. ap not (all_pass (λ x. is_alive s x.id) s.objects k d below))))
          ∙ judged.deleted

  module _ (done : ℕ → Bool) (t : State K T F I) (judged : Judged done t) where
    -- what stays or wasn't judged is found as it was
    pub stays_found : (o : ℕ) → (is_alive s o || not (done o)) ≡ true → find (λ x. x.id == o) t.objects ≡ find (λ x. x.id == o) s.objects
    stays_found o stays =
        ap (find (λ x. x.id == o)) judged.objects
        ∙ find-filter (λ (x : Object F I). x.id == o) (λ x. is_alive s x.id || not (done x.id)) (λ x same. ap (λ n. is_alive s n || not (done n)) (eqb-true x.id o same) ∙ stays) s.objects

    pub found_left : (o : ℕ) → done o ≡ false → find (λ x. x.id == o) t.objects ≡ find (λ x. x.id == o) s.objects
    found_left o new = stays_found o (none_done (is_alive s o) (done o) new)

    -- so what holds of the numbers that are left holds of its own
    pub holds_of : (P : ℕ → Type 0) (o : ℕ) → done o ≡ false → Stands s o → All (λ x. P x.id) t.objects → P o
    holds_of P o new stands all = go (find (λ x. x.id == o) t.objects) refl (ap is_some (found_left o new) ∙ stands)
      where
        go : (x : Option (Object F I)) → find (λ y. y.id == o) t.objects ≡ x → is_some x ≡ true → P o
        go None e there = absurd (false≢true there)
        go (Some x) e there = subst P (eqb-true x.id o (found_passes (λ y. y.id == o) t.objects x e)) (all_found (λ y. P y.id) (λ y. y.id == o) t.objects x all e)

    pub may_left : (idle : I → Type 0) → MaySettle idle s → MaySettle idle t
    may_left idle may = record {
      unheld = subst (λ (hs : List Held). All (IsIdleUnheld idle hs) t.objects) (sym judged.handles)
          (subst (All (IsIdleUnheld idle s.handles)) (sym judged.objects) (All-filter (λ x. is_alive s x.id || not (done x.id)) (IsIdleUnheld idle s.handles) s.objects may.unheld));
      descending = subst (All (λ r. r.directory < r.object)) (sym judged.rows) (All-filter (λ r. is_kept s r || not (done r.object)) (λ r. r.directory < r.object) s.rows may.descending);
    }

    -- one object is the first to be deleted of those that are left and go
    abbrev pub IsDeletedFirst : ℕ → Type 0
    IsDeletedFirst id =
        is_alive s id ≡ false → (x : Object F I) → find (λ y. y.id == id) t.objects ≡ Some x
        → deleted_all g (deleted_one g x.body t.set) (filter (λ y. not (is_alive s y.id)) (filter (λ y. not (y.id == id)) t.objects))
        ≡ deleted_all g t.set (filter (λ y. not (is_alive s y.id)) t.objects)

    -- so it is where each of a greater number that is left stays
    pub greatest_first : (id : ℕ) → AllPairs (λ a b. a.id < b.id) s.objects → All (λ x. id < x.id → is_alive s x.id ≡ true) t.objects → IsDeletedFirst id
    greatest_first id rising behind goes x e =
        last_deleted g (is_alive s) t.set id x t.objects
        (subst (AllPairs (λ a b. a.id < b.id)) (sym judged.objects) (AllPairs-filter (λ a b. a.id < b.id) (λ y. is_alive s y.id || not (done y.id)) s.objects rising)) e goes behind

    -- and where it is a directory, of whose delete no set is told
    pub directory_first : (id : ℕ) → All (λ x. (x.id == id) ≡ true → (shadow : Option ℕ) × (x.body ≡ Directory shadow)) s.objects → IsDeletedFirst id
    directory_first id plain goes x e =
        ap (λ body. deleted_all g (deleted_one g body t.set) (filter (λ y. not (is_alive s y.id)) (filter (λ y. not (y.id == id)) t.objects)))
        (all_found (λ y. (y.id == id) ≡ true → (shadow : Option ℕ) × (y.body ≡ Directory shadow)) (λ y. y.id == id) t.objects x left e (found_passes (λ y. y.id == id) t.objects x e)).1
        ∙ plain_deleted g (is_alive s) t.set id t.objects left
      where
        left : All (λ y. (y.id == id) ≡ true → (shadow : Option ℕ) × (y.body ≡ Directory shadow)) t.objects
        left =
            subst (λ (xs : List (Object F I)). All (λ y. (y.id == id) ≡ true → (shadow : Option ℕ) × (y.body ≡ Directory shadow)) xs) (sym judged.objects)
            (All-filter (λ y. is_alive s y.id || not (done y.id)) (λ y. (y.id == id) ≡ true → (shadow : Option ℕ) × (y.body ≡ Directory shadow)) s.objects plain)

    -- one object more is judged: each name in it is of one that was, so was each directory that has it as its shadow, and has
    -- no directory as its own, and it is the first to be deleted
    module _ (id : ℕ) (new : done id ≡ false)
        (inside : All (λ r. (r.directory == id) ≡ true → (is_kept s r || (done r.object || (r.object == id))) ≡ true) s.rows)
        (shadowed : All (λ x. has_shadow id x.body ≡ true → ((is_alive s x.id || done x.id) ≡ true) × (is_shadowing s x.id ≡ false)) s.objects)
        (first : IsDeletedFirst id) where
      abbrev pub next : ℕ → Bool
      next o = done o || (o == id)

      permanent_same : is_permanent t id ≡ is_permanent s id
      permanent_same = ap (λ (o : Option (Object F I)). option_map_or (λ x. x.permanent) o false) (found_left id new)

      handle_same : has_handle t id ≡ has_handle s id
      handle_same = ap (list_any (λ (h : Held). h.object == id)) judged.handles

      mapped_same : is_mapped t id ≡ is_mapped s id
      mapped_same = ap (λ (ps : List Process). (id == global_id) || list_any (λ p. option_map_or (λ d. d == id) p.map false) ps) judged.processes

      pinned_same : is_pinned t id ≡ is_pinned s id
      pinned_same = ap (list_any (λ (p : PendingOpen K). p.object == id)) judged.pending

      rows_next : (without_names t id).rows ≡ filter (λ r. is_kept s r || not (next r.object)) s.rows
      rows_next =
          (λ i. cond (permanent_same i || handle_same i) (judged.rows i) (filter (λ r. not (r.object == id)) (judged.rows i))) ∙ go (is_permanent s id || has_handle s id) refl
        where
          kept_as : (k : ℕ) (d : Row) (b : Bool) → (is_permanent s id || has_handle s id) ≡ b → ((get_or s.rows k d).object == id) ≡ true → is_kept s (get_or s.rows k d) ≡ b
          kept_as k d b e same = ap (λ o. is_permanent s o || has_handle s o) (eqb-true (get_or s.rows k d).object id same) ∙ e

          go : (b : Bool) → (is_permanent s id || has_handle s id) ≡ b
              → cond b (filter (λ r. is_kept s r || not (done r.object)) s.rows) (filter (λ r. not (r.object == id)) (filter (λ r. is_kept s r || not (done r.object)) s.rows))
              ≡ filter (λ r. is_kept s r || not (next r.object)) s.rows
          go true e =
              filter_agrees (λ r. is_kept s r || not (done r.object)) (λ r. is_kept s r || not (next r.object)) s.rows
              (λ k d below. stays_done (is_kept s (get_or s.rows k d)) (done (get_or s.rows k d).object) ((get_or s.rows k d).object == id) (kept_as k d true e))
          go false e =
              filter_twice (λ r. not (r.object == id)) (λ r. is_kept s r || not (done r.object)) s.rows
              ∙ filter_agrees (λ r. (is_kept s r || not (done r.object)) && not (r.object == id)) (λ r. is_kept s r || not (next r.object)) s.rows
              (λ k d below. goes_done (is_kept s (get_or s.rows k d)) (done (get_or s.rows k d).object) ((get_or s.rows k d).object == id) (kept_as k d false e))

      -- it is judged as it was at first
      pub held_same : is_held_up (without_names t id) id ≡ is_alive s id
      held_same =
          (λ i. (id == root_id) || handle_same i || pinned_same i || mapped_same i || (permanent_same i && list_any (λ r. r.object == id) (rows_next i)) || list_any (λ r. r.directory == id) (rows_next i) || is_shadow t.objects id)
          ∙ (λ i. (id == root_id) || has_handle s id || is_pinned s id || is_mapped s id || named (is_permanent s id) refl i || holds i || shades i)
        where
          shades : is_shadow t.objects id ≡ is_shadowing s id
          shades =
              ap (list_any (λ x. has_shadow id x.body)) judged.objects
              ∙ any_kept (λ x. is_alive s x.id || not (done x.id)) (λ x. has_shadow id x.body) s.objects
              ∙ any_agrees (λ x. has_shadow id x.body && (is_alive s x.id || not (done x.id))) (λ x. has_shadow id x.body && is_alive_itself s x.id) s.objects
              (λ k d below. living (has_shadow id (get_or s.objects k d).body) (is_alive_itself s (get_or s.objects k d).id) (is_shadowing s (get_or s.objects k d).id) (done (get_or s.objects k d).id) (shadowed k d below))
            where
              living : (h itself shadow d : Bool) → (h ≡ true → (((itself || shadow) || d) ≡ true) × (shadow ≡ false)) → (h && ((itself || shadow) || not d)) ≡ (h && itself)
              living true itself shadow d fits = let parts = fits refl in done_left (itself || shadow) d parts.0 ∙ ap (λ b. itself || b) parts.1 ∙ or_none itself
              living false itself shadow d fits = refl

          named : (b : Bool) → is_permanent s id ≡ b → (b && list_any (λ r. r.object == id) (filter (λ r. is_kept s r || not (next r.object)) s.rows)) ≡ (b && has_name s id)
          named true e =
              any_stays (λ r. r.object == id) (λ r. is_kept s r || not (next r.object)) s.rows
              (λ k d below same. ap (λ b. (b || has_handle s (get_or s.rows k d).object) || not (next (get_or s.rows k d).object)) (ap (is_permanent s) (eqb-true (get_or s.rows k d).object id same) ∙ e))
          named false e = refl

          holds : list_any (λ r. r.directory == id) (filter (λ r. is_kept s r || not (next r.object)) s.rows) ≡ holds_kept s id
          holds =
              any_kept (λ r. is_kept s r || not (next r.object)) (λ r. r.directory == id) s.rows
              ∙ any_agrees (λ r. (r.directory == id) && (is_kept s r || not (next r.object))) (λ r. (r.directory == id) && is_kept s r) s.rows
              (λ k d below. kept_there ((get_or s.rows k d).directory == id) (is_kept s (get_or s.rows k d)) (next (get_or s.rows k d).object) (inside k d below))

      pub one_judged : Judged next (settled_one g t id)
      one_judged = subst (Judged next) (sym (ap (λ b. cond b (without_names t id) (without_object g (without_names t id) id)) held_same)) (go (is_alive s id) refl)
        where
          alive_as : (k : ℕ) (d : Object F I) (b : Bool) → is_alive s id ≡ b → ((get_or s.objects k d).id == id) ≡ true → is_alive s (get_or s.objects k d).id ≡ b
          alive_as k d b e same = ap (is_alive s) (eqb-true (get_or s.objects k d).id id same) ∙ e

          -- no name that is left lies in an object that goes
          none_inside : is_alive s id ≡ false → filter (λ r. not (r.directory == id)) (without_names t id).rows ≡ (without_names t id).rows
          none_inside goes =
              filter_all (λ r. not (r.directory == id)) (without_names t id).rows
              (λ k d below. ap not (none_passes (λ r. r.directory == id) (without_names t id).rows (last_false ((id == root_id) || has_handle (without_names t id) id || is_pinned (without_names t id) id || is_mapped (without_names t id) id || (is_permanent (without_names t id) id && has_name (without_names t id) id))
              (list_any (λ r. r.directory == id) (without_names t id).rows) (first_false
              ((id == root_id) || has_handle (without_names t id) id || is_pinned (without_names t id) id || is_mapped (without_names t id) id || (is_permanent (without_names t id) id && has_name (without_names t id) id)
              || list_any (λ r. r.directory == id) (without_names t id).rows) (is_shadow t.objects id) (held_same ∙ goes))) k d below))

          deletes : is_alive s id ≡ false → (x : Option (Object F I)) → find (λ y. y.id == id) t.objects ≡ x
              → deleted_all g (option_map_or (λ body. deleted_one g body t.set) (option_map (λ y. y.body) x) t.set) (filter (λ y. not (is_alive s y.id)) (filter (λ y. not (y.id == id)) t.objects))
              ≡ deleted_all g t.set (filter (λ y. not (is_alive s y.id)) t.objects)
          deletes goes None e =
              ap (λ xs. deleted_all g t.set (filter (λ y. not (is_alive s y.id)) xs))
              (filter_all (λ y. not (y.id == id)) t.objects (λ k d below. ap not (not_found (λ y. y.id == id) t.objects e k d below)))
          deletes goes (Some x) e = first goes x e

          go : (b : Bool) → is_alive s id ≡ b → Judged next (cond b (without_names t id) (without_object g (without_names t id) id))
          go true e = record {
            objects = judged.objects
                ∙ filter_agrees (λ x. is_alive s x.id || not (done x.id)) (λ x. is_alive s x.id || not (next x.id)) s.objects
                (λ k d below. stays_done (is_alive s (get_or s.objects k d).id) (done (get_or s.objects k d).id) ((get_or s.objects k d).id == id) (alive_as k d true e));
            rows = rows_next;
            deleted = judged.deleted;
            handles = judged.handles;
            processes = judged.processes;
            pending = judged.pending;
            next_id = judged.next_id;
            next_stamp = judged.next_stamp;
            next_process = judged.next_process;
            next_order = judged.next_order;
          }
          go false e = record {
            objects = ap (filter (λ x. not (x.id == id))) judged.objects
                ∙ filter_twice (λ x. not (x.id == id)) (λ x. is_alive s x.id || not (done x.id)) s.objects
                ∙ filter_agrees (λ x. (is_alive s x.id || not (done x.id)) && not (x.id == id)) (λ x. is_alive s x.id || not (next x.id)) s.objects
                (λ k d below. goes_done (is_alive s (get_or s.objects k d).id) (done (get_or s.objects k d).id) ((get_or s.objects k d).id == id) (alive_as k d false e));
            rows = none_inside e ∙ rows_next;
            deleted = deletes e (find (λ y. y.id == id) t.objects) refl ∙ judged.deleted;
            handles = judged.handles;
            processes = judged.processes;
            pending = judged.pending;
            next_id = judged.next_id;
            next_stamp = judged.next_stamp;
            next_process = judged.next_process;
            next_order = judged.next_order;
          }
