-- The set's value and the inner values after the deletes at the end of a step, which are among its calls.
use Rattle.std.proofs.Common.{◌≡◌, ◌∙◌, ℕ, suc, ◌<◌, ◌==◌, Bool, true, false, cond, not, ◌&&◌, ◌||◌, if◌then◌else◌, List, [], ◌∷◌, ◌++◌, append-nil, filter, get_or, map, find, All, Option, None, Some, is_some, option_map, refl, ap, sym, subst, arith, eqb-true, eq-eqb}
use Rattle.std.specs.Prelude.{AllPairs}
use Rattle.std.specs.Option.{option_map_or, option_and_then}
use Rattle.std.proofs.lemmas.Bool.{false≢true, ne_eqb}
use Rattle.std.proofs.lemmas.List.Elements.{All-nil, All-cons, All-head, All-tail, All-filter}
use Rattle.std.proofs.lemmas.List.Kept.{AllPairs-filter}
use Rattle.ob_model.specs.declared.state.Body.{Body}
use Rattle.ob_model.specs.declared.state.Body.TheVariants.{Directory, Link, Other}
use Rattle.ob_model.specs.declared.state.Object.{Object}
use Rattle.ob_model.specs.State.{State, object_of}
use Rattle.ob_model.specs.Procedures.{Procedures}
use Rattle.ob_model.specs.Settle.{is_alive, deleted_one, deleted_all, settle}
use Rattle.ob_model.specs.Calls.{Call, Deleted, is_set_body, is_of_set, calls_of_end}
use Rattle.ob_model.proofs.Finds.{find-filter}
use Rattle.ob_model.proofs.Settled.{object_of-settle}
use Rattle.ob_laws.specs.CallsMade.{Made, calls_on, Inside, inner_of, inner_in, inside, after_calls, FindValues}
use Rattle.ob_laws.proofs.SetCounts.{is_set_found}
use Rattle.ob_laws.proofs.Follows.{calls_on-append, calls_on-one, none_refused, after_calls-append, finds-append, Follows}

-- numbers that rise
abbrev pub Rise : List ℕ → Type 0
Rise ns = AllPairs (λ a b. a < b) ns

-- the numbers of objects
abbrev pub numbers : {F I : Type 0} → List (Object F I) → List ℕ
numbers xs = map (λ x. x.id) xs

pub rise-tail : (n : ℕ) (ns : List ℕ) → Rise (n ∷ ns) → Rise ns
rise-tail n ns rise i j d before within = rise (suc i) (suc j) d (omega (arith, before)) (omega (arith, within))

same_either_way : (m n : ℕ) → (m == n) ≡ false → (n == m) ≡ false
same_either_way m n e = ne_eqb n m (λ same. false≢true (sym e ∙ eq-eqb m n (sym same)))

module _ {F I : Type 0} where
  -- what is behind a number has another one
  above : (n : ℕ) (xs : List (Object F I)) → All (λ k. n < k) (numbers xs) → All (λ y. (y.id == n) ≡ false) xs
  above n [] more = All-nil (λ y. (y.id == n) ≡ false)
  above n (x ∷ xs) more =
      All-cons (λ y. (y.id == n) ≡ false) x xs (let less : n < x.id = All-head (λ k. n < k) x.id (numbers xs) more in ne_eqb x.id n (λ same. omega (arith, less, same)))
      (above n xs (All-tail (λ k. n < k) x.id (numbers xs) more))

  others_behind : (x : Object F I) (xs : List (Object F I)) → Rise (numbers (x ∷ xs)) → All (λ y. (y.id == x.id) ≡ false) xs
  others_behind x xs rise = above x.id xs (λ k d within. rise 0 (suc k) d (omega arith) (omega (arith, within)))

  absent : (n : ℕ) (xs : List (Object F I)) → All (λ y. (y.id == n) ≡ false) xs → find (λ y. y.id == n) xs ≡ None
  absent n [] others = refl
  absent n (x ∷ xs) others =
      ap (λ b. cond b (Some x) (find (λ y. y.id == n) xs)) (All-head (λ y. (y.id == n) ≡ false) x xs others) ∙ absent n xs (All-tail (λ y. (y.id == n) ≡ false) x xs others)

  -- each object is found under its number
  found_itself : (xs : List (Object F I)) → Rise (numbers xs) → All (λ y. find (λ z. z.id == y.id) xs ≡ Some y) xs
  found_itself [] rise = All-nil (λ y. find (λ z. z.id == y.id) [] ≡ Some y)
  found_itself (x ∷ xs) rise =
      All-cons (λ y. find (λ z. z.id == y.id) (x ∷ xs) ≡ Some y) x xs (ap (λ b. cond b (Some x) (find (λ z. z.id == x.id) xs)) (eq-eqb x.id x.id refl))
      (λ k d within.
      ap (λ b. cond b (Some x) (find (λ z. z.id == (get_or xs k d).id) xs)) (same_either_way (get_or xs k d).id x.id (others_behind x xs rise k d within)) ∙ found_itself xs (rise-tail x.id (numbers xs) rise) k d within)

-- the deletes of these objects, from the last one back
abbrev deletes : {F I : Type 0} → List (Object F I) → List Made
deletes [] = []
deletes (x ∷ xs) = deletes xs ++ (if is_set_body x.body then record { object = x.id; call = Deleted } ∷ [] else [])

-- they are one for each object of the set among these
deletes_on : {F I : Type 0} (o : ℕ) (xs : List (Object F I)) → Rise (numbers xs)
    → calls_on (deletes xs) o ≡ (if is_set_found (find (λ x. x.id == o) xs) then Deleted ∷ [] else [])
deletes_on o [] rise = refl
deletes_on {F} {I} o (x ∷ xs) rise =
    calls_on-append (deletes xs) (one (is_set_body x.body)) o ∙ (λ i. deletes_on o xs (rise-tail x.id (numbers xs) rise) i ++ on_one (is_set_body x.body) i) ∙ go (x.id == o) refl
  where
    one : Bool → List Made
    one b = if b then record { object = x.id; call = Deleted } ∷ [] else []

    on_one : (b : Bool) → calls_on (if b then record { object = x.id; call = Deleted } ∷ [] else []) o ≡ (if b then (if x.id == o then Deleted ∷ [] else []) else [])
    on_one true = calls_on-one (record { object = x.id; call = Deleted }) o
    on_one false = refl

    nothing : (b : Bool) → ◌≡◌ {A = List Call} (if b then [] else []) []
    nothing true = refl
    nothing false = refl

    go : (b : Bool) → (x.id == o) ≡ b
        → (if is_set_found (find (λ y. y.id == o) xs) then Deleted ∷ [] else []) ++ (if is_set_body x.body then (if b then Deleted ∷ [] else []) else [])
        ≡ (if is_set_found (cond b (Some x) (find (λ y. y.id == o) xs)) then Deleted ∷ [] else [])
    go true here =
        ap (λ found. (if is_set_found found then Deleted ∷ [] else []) ++ (if is_set_body x.body then Deleted ∷ [] else []))
        (subst (λ n. find (λ y. y.id == n) xs ≡ None) (eqb-true x.id o here) (absent x.id xs (others_behind x xs rise)))
    go false there =
        ap (λ calls. (if is_set_found (find (λ y. y.id == o) xs) then Deleted ∷ [] else []) ++ calls) (nothing (is_set_body x.body))
        ∙ append-nil (if is_set_found (find (λ y. y.id == o) xs) then Deleted ∷ [] else [])

module _ {K T F I : Type 0} (g : Procedures K T F I) where
  -- what the deletes of these objects leave: the set's value, and no inner value of theirs
  abbrev gone : Inside T I → List (Object F I) → Inside T I
  gone v xs = record { set = deleted_all g v.set xs; inner = λ o. if is_some (find (λ x. x.id == o) xs) then None else v.inner o }

  deletes_leave : (v : Inside T I) (xs : List (Object F I)) → Rise (numbers xs) → All (λ x. v.inner x.id ≡ inner_of x.body) xs → after_calls g v (deletes xs) ≡ gone v xs
  deletes_leave v [] rise own = refl
  deletes_leave v (x ∷ xs) rise own =
      after_calls-append g v (deletes xs) (if is_set_body x.body then record { object = x.id; call = Deleted } ∷ [] else [])
      ∙ ap (λ w. after_calls g w (if is_set_body x.body then record { object = x.id; call = Deleted } ∷ [] else []))
      (deletes_leave v xs (rise-tail x.id (numbers xs) rise) (All-tail (λ y. v.inner y.id ≡ inner_of y.body) x xs own))
      ∙ go x.body refl
    where
      none_behind : find (λ y. y.id == x.id) xs ≡ None
      none_behind = absent x.id xs (others_behind x xs rise)

      here : (body : Body F I) → x.body ≡ body → (gone v xs).inner x.id ≡ inner_of body
      here body e = ap (λ found. if is_some found then None else v.inner x.id) none_behind ∙ All-head (λ y. v.inner y.id ≡ inner_of y.body) x xs own ∙ ap inner_of e

      -- nothing goes of what has no inner value
      still : inner_of x.body ≡ None → (o : ℕ) → (gone v xs).inner o ≡ (gone v (x ∷ xs)).inner o
      still none o = at (x.id == o) refl
        where
          at : (b : Bool) → (x.id == o) ≡ b → (gone v xs).inner o ≡ (if is_some (cond b (Some x) (find (λ y. y.id == o) xs)) then None else v.inner o)
          at true e = subst (λ n. (gone v xs).inner n ≡ None) (eqb-true x.id o e) (here x.body refl ∙ none)
          at false e = refl

      go : (body : Body F I) → x.body ≡ body → after_calls g (gone v xs) (if is_set_body body then record { object = x.id; call = Deleted } ∷ [] else []) ≡ gone v (x ∷ xs)
      go (Directory shadow) e = λ i. record { set = deleted_one g (sym e i) (deleted_all g v.set xs); inner = λ o. still (ap inner_of e) o i }
      go (Link target) e = λ i. record { set = deleted_one g (sym e i) (deleted_all g v.set xs); inner = λ o. still (ap inner_of e) o i }
      go (Other face inner) e =
          ap (λ found. option_map_or (λ n. record { set = g.deleted (deleted_all g v.set xs) n; inner = λ o. if o == x.id then None else (gone v xs).inner o }) found (gone v xs)) (here (Other face inner) e)
          ∙ (λ i. record { set = deleted_one g (sym e i) (deleted_all g v.set xs); inner = λ o. less o i })
        where
          less : (o : ℕ) → (if o == x.id then None else (gone v xs).inner o) ≡ (gone v (x ∷ xs)).inner o
          less o = at (x.id == o) refl
            where
              at : (b : Bool) → (x.id == o) ≡ b
                  → (if o == x.id then None else (gone v xs).inner o) ≡ (if is_some (cond b (Some x) (find (λ y. y.id == o) xs)) then None else v.inner o)
              at true same = ap (λ b. if b then None else (gone v xs).inner o) (eq-eqb o x.id (sym (eqb-true x.id o same)))
              at false other = ap (λ b. if b then None else (gone v xs).inner o) (same_either_way x.id o other)

  -- each finds the inner value of its object
  deletes_find : (v : Inside T I) (xs : List (Object F I)) → Rise (numbers xs) → All (λ x. v.inner x.id ≡ inner_of x.body) xs → FindValues g v (deletes xs)
  deletes_find v [] rise own = tt
  deletes_find v (x ∷ xs) rise own =
      finds-append g v (deletes xs) (one (is_set_body x.body)) (deletes_find v xs (rise-tail x.id (numbers xs) rise) behind)
      (subst (λ w. FindValues g w (one (is_set_body x.body))) (sym (deletes_leave v xs (rise-tail x.id (numbers xs) rise) behind)) (go x.body refl))
    where
      one : Bool → List Made
      one b = if b then record { object = x.id; call = Deleted } ∷ [] else []

      behind : All (λ y. v.inner y.id ≡ inner_of y.body) xs
      behind = All-tail (λ y. v.inner y.id ≡ inner_of y.body) x xs own

      go : (body : Body F I) → x.body ≡ body → FindValues g (gone v xs) (if is_set_body body then record { object = x.id; call = Deleted } ∷ [] else [])
      go (Directory shadow) e = tt
      go (Link target) e = tt
      go (Other face inner) e = (
        ap (λ found. is_some (if is_some found then None else v.inner x.id)) (absent x.id xs (others_behind x xs rise))
            ∙ ap is_some (All-head (λ y. v.inner y.id ≡ inner_of y.body) x xs own ∙ ap inner_of e),
        none_refused ((gone v xs).inner x.id),
        tt,
      )

-- what one test leaves has nothing that passes another, where nothing passes both
unfound_there : {X : Type 0} (test keeps : X → Bool) → ((x : X) → test x ≡ true → keeps x ≡ false) → (xs : List X) → find test (filter keeps xs) ≡ None
unfound_there test keeps apart [] = refl
unfound_there {X} test keeps apart (x ∷ xs) = go (test x) (keeps x) refl refl (unfound_there test keeps apart xs)
  where
    go : (a b : Bool) → test x ≡ a → keeps x ≡ b → find test (filter keeps xs) ≡ None → find test (cond b (x ∷ filter keeps xs) (filter keeps xs)) ≡ None
    go a false passes goes rest = rest
    go true true passes stays rest = absurd (false≢true (sym (apart x passes) ∙ stays))
    go false true passes stays rest = ap (λ b. cond b (Some x) (find test (filter keeps xs))) passes ∙ rest

numbers-filter : {F I : Type 0} (keeps : ℕ → Bool) (xs : List (Object F I)) → numbers (filter (λ x. keeps x.id) xs) ≡ filter keeps (numbers xs)
numbers-filter keeps [] = refl
numbers-filter {F} {I} keeps (x ∷ xs) = go (keeps x.id) (numbers-filter keeps xs)
  where
    go : (b : Bool) → numbers (filter (λ y. keeps y.id) xs) ≡ filter keeps (numbers xs)
        → numbers (cond b (x ∷ filter (λ y. keeps y.id) xs) (filter (λ y. keeps y.id) xs)) ≡ cond b (x.id ∷ filter keeps (numbers xs)) (filter keeps (numbers xs))
    go true rest = ap (λ ns. x.id ∷ ns) rest
    go false rest = rest

-- numbers still rise where some objects are left
pub rise-filter : {F I : Type 0} (keeps : ℕ → Bool) (xs : List (Object F I)) → Rise (numbers xs) → Rise (numbers (filter (λ x. keeps x.id) xs))
rise-filter keeps xs rise = subst Rise (sym (numbers-filter keeps xs)) (AllPairs-filter (λ a b. a < b) keeps (numbers xs) rise)

module _ {K T F I : Type 0} (g : Procedures K T F I) (s : State K T F I) where
  -- the objects that go
  abbrev dead : List (Object F I)
  dead = filter (λ x. not (is_alive s x.id)) s.objects

  -- what settling tells of an object
  abbrev pub end_calls : ℕ → List Call
  end_calls o = if is_alive s o then [] else (if is_of_set s o then Deleted ∷ [] else [])

  -- what is found among them, and among those that stay
  dead_found : (o : ℕ) → find (λ x. x.id == o) dead ≡ (if is_alive s o then None else object_of s o)
  dead_found o = go (is_alive s o) refl
    where
      go : (b : Bool) → is_alive s o ≡ b → find (λ x. x.id == o) dead ≡ (if b then None else object_of s o)
      go true e = unfound_there (λ x. x.id == o) (λ x. not (is_alive s x.id)) (λ x same. ap not (subst (λ n. is_alive s n ≡ true) (sym (eqb-true x.id o same)) e)) s.objects
      go false e = find-filter (λ x. x.id == o) (λ x. not (is_alive s x.id)) (λ x same. ap not (subst (λ n. is_alive s n ≡ false) (sym (eqb-true x.id o same)) e)) s.objects

  pub settled_found : (o : ℕ) → object_of (settle g s) o ≡ (if is_alive s o then object_of s o else None)
  settled_found o = go (is_alive s o) refl
    where
      go : (b : Bool) → is_alive s o ≡ b → object_of (settle g s) o ≡ (if b then object_of s o else None)
      go true e = object_of-settle g s o e
      go false e = unfound_there (λ x. x.id == o) (λ x. is_alive s x.id) (λ x same. subst (λ n. is_alive s n ≡ false) (sym (eqb-true x.id o same)) e) s.objects

  -- the deletes of those that go lead to the state that is settled
  pub settle_follows : Rise (numbers s.objects) → Follows g (inside s) (inside (settle g s)) end_calls
  settle_follows rise = (deletes dead, told, deletes_find g (inside s) dead rise_dead own, left)
    where
      rise_dead : Rise (numbers dead)
      rise_dead = rise-filter (λ n. not (is_alive s n)) s.objects rise

      told : (o : ℕ) → calls_on (deletes dead) o ≡ end_calls o
      told o =
          deletes_on o dead rise_dead ∙ ap (λ found. if is_set_found found then Deleted ∷ [] else []) (dead_found o)
          ∙ elim (is_alive s o) as (λ b. (if is_set_found (if b then None else object_of s o) then Deleted ∷ [] else []) ≡ (if b then [] else (if is_of_set s o then Deleted ∷ [] else [])))
          [ true ↦ refl | false ↦ refl ]

      own : All (λ x. inner_in s x.id ≡ inner_of x.body) dead
      own = All-filter (λ x. not (is_alive s x.id)) (λ x. inner_in s x.id ≡ inner_of x.body) s.objects
          (λ k d within. ap (λ found. option_and_then inner_of (option_map (λ x. x.body) found)) (found_itself s.objects rise k d within))

      same : (o : ℕ) → inner_in (settle g s) o ≡ (if is_some (find (λ x. x.id == o) dead) then None else inner_in s o)
      same o =
          ap (λ found. option_and_then inner_of (option_map (λ x. x.body) found)) (settled_found o) ∙ go (is_alive s o) (object_of s o)
          ∙ sym (ap (λ found. if is_some found then None else inner_in s o) (dead_found o))
        where
          go : (b : Bool) (found : Option (Object F I))
              → option_and_then inner_of (option_map (λ x. x.body) (if b then found else None)) ≡ (if is_some (if b then None else found) then None else option_and_then inner_of (option_map (λ x. x.body) found))
          go true found = refl
          go false None = refl
          go false (Some x) = refl

      left : inside (settle g s) ≡ after_calls g (inside s) (deletes dead)
      left = (λ i. record { set = deleted_all g s.set dead; inner = λ o. same o i }) ∙ sym (deletes_leave g (inside s) dead rise_dead own)

  -- and they are told as the end of a step from a state, where the objects of the set before settling are those that were there or came
  pub end_told : (before : State K T F I) (came : Bool) (o : ℕ) → (is_of_set before o || came) ≡ is_of_set s o → end_calls o ≡ calls_of_end before (settle g s) came o
  end_told before came o same =
      go (is_alive s o) (object_of s o)
      ∙ sym (λ i. if same i && not (is_some (settled_found o i)) then Deleted ∷ [] else [])
    where
      go : (b : Bool) (found : Option (Object F I))
          → (if b then [] else (if is_set_found found then Deleted ∷ [] else [])) ≡ (if is_set_found found && not (is_some (if b then found else None)) then Deleted ∷ [] else [])
      go true None = refl
      go true (Some x) = elim (is_set_body x.body) as (λ b. ◌≡◌ {A = List Call} [] (if b && false then Deleted ∷ [] else [])) [ true ↦ refl | false ↦ refl ]
      go false None = refl
      go false (Some x) = elim (is_set_body x.body) as (λ b. (if b then Deleted ∷ [] else []) ≡ (if b && true then Deleted ∷ [] else [])) [ true ↦ refl | false ↦ refl ]
