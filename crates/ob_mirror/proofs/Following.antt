-- How a copy of rows follows a state: as objects are looked at, as rows that went are taken away, and as steps are made.
use Rattle.std.proofs.Common.{◌≡◌, ◌∙◌, ℕ, ◌+◌, ◌<◌, ◌≤◌, ◌==◌, nat_lt, Bool, true, false, cond, not, List, [], ◌∷◌, ◌++◌, filter, find, length, get_or, None, Some, All, refl, ap, sym, subst, arith, eqb-true, eq-eqb, ltb-true, ltb-false, suc, ◌||◌}
use Rattle.std.proofs.lemmas.Bool.{false≢true}
use Rattle.std.specs.Option.{is_some}
use Rattle.std.specs.Prelude.{AllPairs, Contains}
use Rattle.std.specs.List.{list_any}
use Rattle.std.proofs.lemmas.List.Elements.{All-nil, All-cons, All-head, All-tail, All-contains, All-contains_itself, All-push, All-weaker, All-filter, filter_passes}
use Rattle.std.proofs.lemmas.List.{get_or_default}
use Rattle.std.proofs.lemmas.List.Kept.{AllPairs-cons, AllPairs-filter}
use Rattle.ob_model.specs.declared.state.Row.{Row}
use Rattle.ob_model.specs.declared.state.Object.{Object}
use Rattle.ob_model.specs.State.{State}
use Rattle.ob_model.specs.Sound.{IsSound}
use Rattle.ob_model.proofs.Sorted.{pairs_head, pairs_tail, pairs_none}
use Rattle.ob_mirror.specs.Mirrored.{AreInOrder, Follows}
use Rattle.ob_mirror.proofs.Rising.{Earlier, among_cons, as_many, all_of_both}

abbrev Lesser : Row → Row → Type 0
Lesser a b = a.object < b.object

-- of two rows among some that rise by both, the one of the lesser object has the lesser stamp
in_step : (rows : List Row) → AllPairs Lesser rows → AllPairs Earlier rows → (a b : Row) → Contains rows a → Contains rows b → a.object < b.object → a.stamp < b.stamp
in_step [] by_id by_stamp a b at there less = absurd (omega (arith, at.1))
in_step (x ∷ rows) by_id by_stamp a b at there less =
    among_cons (a.stamp < b.stamp) x a rows at
    (λ first. among_cons (a.stamp < b.stamp) x b rows there
    (λ same. absurd (omega (arith, less, ap (λ (r : Row). r.object) first, ap (λ (r : Row). r.object) same)))
    (λ later. let more : x.stamp < b.stamp = All-contains (Earlier x) rows b (pairs_head Earlier x rows by_stamp) later in omega (arith, more, ap (λ (r : Row). r.stamp) first)))
    (λ later. among_cons (a.stamp < b.stamp) x b rows there
    (λ same. let more : x.object < a.object = All-contains (Lesser x) rows a (pairs_head Lesser x rows by_id) later in absurd (omega (arith, less, more, ap (λ (r : Row). r.object) same)))
    (λ both. in_step rows (pairs_tail Lesser x rows by_id) (pairs_tail Earlier x rows by_stamp) a b later both less))

-- of rows that rise by ids, one alone has an object
one_alone : (rows : List Row) → AllPairs Lesser rows → (a b : Row) → Contains rows a → Contains rows b → a.object ≡ b.object → a ≡ b
one_alone [] by_id a b at there same = absurd (omega (arith, at.1))
one_alone (x ∷ rows) by_id a b at there same =
    among_cons (a ≡ b) x a rows at
    (λ first. among_cons (a ≡ b) x b rows there
    (λ second. sym first ∙ second)
    (λ later. let more : x.object < b.object = All-contains (Lesser x) rows b (pairs_head Lesser x rows by_id) later in absurd (omega (arith, more, same, ap (λ (r : Row). r.object) first))))
    (λ later. among_cons (a ≡ b) x b rows there
    (λ second. let more : x.object < a.object = All-contains (Lesser x) rows a (pairs_head Lesser x rows by_id) later in absurd (omega (arith, more, same, ap (λ (r : Row). r.object) second)))
    (λ both. one_alone rows (pairs_tail Lesser x rows by_id) a b later both same))

-- of rows that rise by stamps, one alone has a stamp
one_stamp : (rows : List Row) → AllPairs Earlier rows → (a b : Row) → Contains rows a → Contains rows b → a.stamp ≡ b.stamp → a ≡ b
one_stamp [] rises a b at there same = absurd (omega (arith, at.1))
one_stamp (x ∷ rows) rises a b at there same =
    among_cons (a ≡ b) x a rows at
    (λ first. among_cons (a ≡ b) x b rows there
    (λ second. sym first ∙ second)
    (λ later. let more : x.stamp < b.stamp = All-contains (Earlier x) rows b (pairs_head Earlier x rows rises) later in absurd (omega (arith, more, same, ap (λ (r : Row). r.stamp) first))))
    (λ later. among_cons (a ≡ b) x b rows there
    (λ second. let more : x.stamp < a.stamp = All-contains (Earlier x) rows a (pairs_head Earlier x rows rises) later in absurd (omega (arith, more, same, ap (λ (r : Row). r.stamp) second)))
    (λ both. one_stamp rows (pairs_tail Earlier x rows rises) a b later both same))

-- what is found is among the rows, and passes
found_among : (test : Row → Bool) (rows : List Row) (r : Row) → find test rows ≡ Some r → Contains rows r × (test r ≡ true)
found_among test [] r found = cc
found_among test (x ∷ rows) r found = go (test x) refl found (found_among test rows r)
  where
    go : (t : Bool) → test x ≡ t → cond t (Some x) (find test rows) ≡ Some r → (find test rows ≡ Some r → Contains rows r × (test r ≡ true)) → Contains (x ∷ rows) r × (test r ≡ true)
    go true e found others = let same : x ≡ r = cc in ((0, omega arith, same), ap test (sym same) ∙ e)
    go false e found others = let more = others found in ((suc more.0.0, omega (arith, more.0.1), more.0.2), more.1)

none_among : (test : Row → Bool) (rows : List Row) → find test rows ≡ None → All (λ r. test r ≡ false) rows
none_among test [] none = All-nil (λ r. test r ≡ false)
none_among test (x ∷ rows) none = go (test x) refl none (none_among test rows)
  where
    go : (t : Bool) → test x ≡ t → cond t (Some x) (find test rows) ≡ None → (find test rows ≡ None → All (λ r. test r ≡ false) rows) → All (λ r. test r ≡ false) (x ∷ rows)
    go true e none others = cc
    go false e none others = All-cons (λ r. test r ≡ false) x rows e (others none)

push_pairs : (xs : List Row) (r : Row) → All (λ a. a.object < r.object) xs → AllPairs Lesser xs → AllPairs Lesser (xs ++ r ∷ [])
push_pairs [] r all pairs = AllPairs-cons Lesser r [] (All-nil (Lesser r)) (pairs_none Lesser)
push_pairs (x ∷ xs) r all pairs =
    AllPairs-cons Lesser x (xs ++ r ∷ []) (All-push (Lesser x) xs r (pairs_head Lesser x xs pairs) (All-head (λ a. a.object < r.object) x xs all))
    (push_pairs xs r (All-tail (λ a. a.object < r.object) x xs all) (pairs_tail Lesser x xs pairs))

-- the last of rows is among them
last_among : (xs : List Row) (r : Row) → Contains (xs ++ r ∷ []) r
last_among [] r = (0, omega arith, refl)
last_among (x ∷ xs) r = let more = last_among xs r in (suc more.0, omega (arith, more.1), more.2)

still_among : (xs ys : List Row) (r : Row) → Contains xs r → Contains (xs ++ ys) r
still_among [] ys r at = absurd (omega (arith, at.1))
still_among (x ∷ xs) ys r at =
    among_cons (Contains (x ∷ xs ++ ys) r) x r xs at (λ same. (0, omega arith, same)) (λ later. let more = still_among xs ys r later in (suc more.0, omega (arith, more.1), more.2))

kept_among : (keeps : Row → Bool) (xs : List Row) (r : Row) → Contains xs r → keeps r ≡ true → Contains (filter keeps xs) r
kept_among keeps [] r at kept = absurd (omega (arith, at.1))
kept_among keeps (x ∷ xs) r at kept =
    among_cons (Contains (filter keeps (x ∷ xs)) r) x r xs at
    (λ same. subst (λ b. Contains (cond b (x ∷ filter keeps xs) (filter keeps xs)) r) (sym (ap keeps same ∙ kept)) (0, omega arith, same))
    (λ later. go (keeps x) (kept_among keeps xs r later kept))
  where
    go : (b : Bool) → Contains (filter keeps xs) r → Contains (cond b (x ∷ filter keeps xs) (filter keeps xs)) r
    go true at = (suc at.0, omega (arith, at.1), at.2)
    go false at = at

pub its_object : (rows : List Row) (r : Row) (id : ℕ) → find (λ q. q.object == id) rows ≡ Some r → r.object ≡ id
its_object rows r id found = eqb-true r.object id (found_among (λ (q : Row). q.object == id) rows r found).1

-- where no row has a stamp, none of that stamp is left
pub none_stamped : (P : Row → Type 0) (stamp : ℕ) (rows : List Row) → find (λ r. r.stamp == stamp) rows ≡ None → All (λ r. r.stamp ≡ stamp → P r) rows
none_stamped P stamp rows none =
    All-weaker (λ (r : Row). (r.stamp == stamp) ≡ false) (λ r. r.stamp ≡ stamp → P r) (λ r differs same. absurd (false≢true (sym differs ∙ eq-eqb r.stamp stamp same))) rows
    (none_among (λ (r : Row). r.stamp == stamp) rows none)

-- nor after it was taken away
pub none_left : (P : Row → Type 0) (stamp : ℕ) (rows : List Row) → All (λ r. r.stamp ≡ stamp → P r) (filter (λ r. not (r.stamp == stamp)) rows)
none_left P stamp rows =
    All-weaker (λ (r : Row). not (r.stamp == stamp) ≡ true) (λ r. r.stamp ≡ stamp → P r)
    (λ r differs same. absurd (false≢true (sym (ap not (eq-eqb r.stamp stamp same)) ∙ differs))) (filter (λ r. not (r.stamp == stamp)) rows) (filter_passes (λ (r : Row). not (r.stamp == stamp)) rows)

-- what is kept of rows was among them
kept_was : (keeps : Row → Bool) (rows : List Row) → All (Contains rows) (filter keeps rows)
kept_was keeps rows = All-filter keeps (Contains rows) rows (All-contains_itself rows)

pub fewer_left : (stamp : ℕ) (rows : List Row) → All (Contains rows) (filter (λ r. not (r.stamp == stamp)) rows)
fewer_left stamp rows = kept_was (λ r. not (r.stamp == stamp)) rows

-- rows of which each was there keep what held of all
pub fewer_keep : (P : Row → Type 0) (old new : List Row) → All (Contains old) new → All P old → All P new
fewer_keep P old new fewer all = All-weaker (Contains old) P (λ r at. All-contains P old r all at) new fewer

-- rows of which each was there are among others, once all stamps were looked at
pub all_own : (rows first now : List Row) (stamps : List ℕ) (n : ℕ) → length stamps ≤ n → All (λ r. Contains stamps r.stamp) first → All (Contains first) now
    → ((k : ℕ) → k < n → All (λ r. r.stamp ≡ get_or stamps k 0 → Contains rows r) now) → All (Contains rows) now
all_own rows first now stamps n past listed fewer own = All-weaker (Contains now) (Contains rows) each now (All-contains_itself now)
  where
    each : (r : Row) → Contains now r → Contains rows r
    each r at =
        let stamped = All-contains (λ (q : Row). Contains stamps q.stamp) first r listed (All-contains (Contains first) now r fewer at) in
        All-contains (λ (q : Row). q.stamp ≡ get_or stamps stamped.0 0 → Contains rows q) now r (own stamped.0 (omega (arith, past, stamped.1))) at
        (sym (get_or_default stamps stamped.0 0 r.stamp stamped.1 ∙ stamped.2))

module _ {F I : Type 0} where
  -- what holds of the ids of objects holds of one that is there
  all_standing : (P : ℕ → Type 0) (os : List (Object F I)) (n : ℕ) → All (λ o. P o.id) os → is_some (find (λ x. x.id == n) os) ≡ true → P n
  all_standing P [] n all there = absurd (false≢true there)
  all_standing P (o ∷ os) n all there = go (o.id == n) refl there (all_standing P os n (All-tail (λ (x : Object F I). P x.id) o os all))
    where
      go : (t : Bool) → (o.id == n) ≡ t → is_some (cond t (Some o) (find (λ x. x.id == n) os)) ≡ true → (is_some (find (λ x. x.id == n) os) ≡ true → P n) → P n
      go true e there others = subst P (eqb-true o.id n e) (All-head (λ (x : Object F I). P x.id) o os all)
      go false e there others = others there

  all_any : (P : ℕ → Type 0) (os : List (Object F I)) (n : ℕ) → All (λ o. P o.id) os → list_any (λ x. x.id == n) os ≡ true → P n
  all_any P [] n all there = absurd (false≢true there)
  all_any P (o ∷ os) n all there = go (o.id == n) refl there (all_any P os n (All-tail (λ (x : Object F I). P x.id) o os all))
    where
      go : (t : Bool) → (o.id == n) ≡ t → (t || list_any (λ x. x.id == n) os) ≡ true → (list_any (λ x. x.id == n) os ≡ true → P n) → P n
      go true e there others = subst P (eqb-true o.id n e) (All-head (λ (x : Object F I). P x.id) o os all)
      go false e there others = others there

module _ {K T F I : Type 0} (s : State K T F I) (sound : IsSound s) (order : AreInOrder s) (rows : List Row) (next : ℕ) where
  -- no object is left to look at
  pub all_looked_at : All (λ o. o.id < next) s.objects → All (λ r. r.object < next) s.rows
  all_looked_at below =
      All-weaker (λ (r : Row). is_some (find (λ x. x.id == r.object) s.objects) ≡ true) (λ r. r.object < next) (λ r there. all_standing (λ n. n < next) s.objects r.object below there) s.rows sound.rows.standing

  module _ (follows : Follows rows next s) (id : ℕ) (there : list_any (λ o. o.id == id) s.objects ≡ true) (from : next ≤ id) (first : All (λ o. next ≤ o.id → id ≤ o.id) s.objects) where
    drawn_id : id + 1 ≤ s.next_id
    drawn_id = let less : id < s.next_id = all_any (λ n. n < s.next_id) s.objects id sound.objects.drawn there in omega (arith, less)

    -- a row whose object wasn't looked at has this one or a greater one
    not_before : (r : Row) → Contains s.rows r → next ≤ r.object → id ≤ r.object
    not_before r at from = all_standing (λ n. next ≤ n → id ≤ n) s.objects r.object first (All-contains (λ (q : Row). is_some (find (λ x. x.id == q.object) s.objects) ≡ true) s.rows r sound.rows.standing at) from

    later_objects : All (λ q. q.object < id + 1) rows
    later_objects = All-weaker (λ (q : Row). q.object < next) (λ q. q.object < id + 1) (λ q less. omega (arith, less, from)) rows follows.looked_at

    -- the object has no name
    pub skipped : find (λ r. r.object == id) s.rows ≡ None → Follows rows (id + 1) s
    skipped none = record {
      known = All-weaker (Contains s.rows) (λ r. r.object < id + 1 → Contains rows r) (λ r at less. go r at less (nat_lt r.object next) refl) s.rows (All-contains_itself s.rows);
      looked_at = later_objects;
      drawn = drawn_id;
      rising = follows.rising;
      stamps = follows.stamps;
      before = follows.before;
    }
      where
        go : (r : Row) → Contains s.rows r → r.object < id + 1 → (t : Bool) → nat_lt r.object next ≡ t → Contains rows r
        go r at less true e = All-contains (λ q. q.object < next → Contains rows q) s.rows r follows.known at (ltb-true r.object next e)
        go r at less false e =
            let more = not_before r at (ltb-false r.object next e) in
            absurd (false≢true (sym (All-contains (λ (q : Row). (q.object == id) ≡ false) s.rows r (none_among (λ (q : Row). q.object == id) s.rows none) at) ∙ eq-eqb r.object id (omega (arith, less, more))))

    -- its name is copied
    pub copied : (new : Row) → find (λ r. r.object == id) s.rows ≡ Some new → Follows (rows ++ new ∷ []) (id + 1) s
    copied new found = record {
      known = All-weaker (Contains s.rows) (λ r. r.object < id + 1 → Contains (rows ++ new ∷ []) r) (λ r at less. go r at less (nat_lt r.object next) refl) s.rows (All-contains_itself s.rows);
      looked_at = All-push (λ q. q.object < id + 1) rows new later_objects (omega (arith, is_its));
      drawn = drawn_id;
      rising = push_pairs rows new (All-weaker (λ (q : Row). q.object < next) (λ q. q.object < new.object) (λ q less. omega (arith, less, from, is_its)) rows follows.looked_at) follows.rising;
      stamps = All-push (λ q. q.stamp < s.next_stamp) rows new follows.stamps (All-contains (λ (r : Row). (r.object < s.next_id) × (r.stamp < s.next_stamp)) s.rows new order.below at_new).1;
      before = All-push (λ q. All (λ r. q.object < r.object → q.stamp < r.stamp) s.rows) rows new follows.before
          (All-weaker (Contains s.rows) (λ r. new.object < r.object → new.stamp < r.stamp) (λ r at less. in_step s.rows order.rising sound.rows.rising new r at_new at less) s.rows (All-contains_itself s.rows));
    }
      where
        among : Contains s.rows new × ((new.object == id) ≡ true)
        among = found_among (λ (r : Row). r.object == id) s.rows new found

        at_new : Contains s.rows new
        at_new = among.0

        is_its : new.object ≡ id
        is_its = eqb-true new.object id among.1

        go : (r : Row) → Contains s.rows r → r.object < id + 1 → (t : Bool) → nat_lt r.object next ≡ t → Contains (rows ++ new ∷ []) r
        go r at less true e = still_among rows (new ∷ []) r (All-contains (λ q. q.object < next → Contains rows q) s.rows r follows.known at (ltb-true r.object next e))
        go r at less false e =
            let more = not_before r at (ltb-false r.object next e) in
            subst (Contains (rows ++ new ∷ [])) (one_alone s.rows order.rising new r at_new at (omega (arith, less, more, is_its))) (last_among rows new)

    -- its stamp is above all that were copied
    pub newest : (new : Row) → find (λ r. r.object == id) s.rows ≡ Some new → All (λ q. q.stamp < new.stamp) rows
    newest new found =
        let among = found_among (λ (r : Row). r.object == id) s.rows new found in
        let is_its : new.object ≡ id = eqb-true new.object id among.1 in
        All-weaker (Contains rows) (λ q. q.stamp < new.stamp)
        (λ q at. All-contains (λ (r : Row). q.object < r.object → q.stamp < r.stamp) s.rows new (All-contains (λ (p : Row). All (λ r. p.object < r.object → p.stamp < r.stamp) s.rows) rows q follows.before at) among.0
        (let less = All-contains (λ (p : Row). p.object < next) rows q follows.looked_at at in omega (arith, less, from, is_its)))
        rows (All-contains_itself rows)

  module _ (follows : Follows rows next s) (by_stamp : AllPairs Earlier rows) where
    -- a row that was copied, whose object has no name any more, is taken away
    pub taken : (gone : Row) → Contains rows gone → find (λ r. r.object == gone.object) s.rows ≡ None → Follows (filter (λ r. not (r.stamp == gone.stamp)) rows) next s
    taken gone at none = record {
      known = All-weaker (Contains s.rows) (λ r. r.object < next → Contains (filter keeps rows) r) (λ r among less. kept_among keeps rows r (known r among less) (stays r among less (r.stamp == gone.stamp) refl)) s.rows (All-contains_itself s.rows);
      looked_at = All-filter keeps (λ q. q.object < next) rows follows.looked_at;
      drawn = follows.drawn;
      rising = AllPairs-filter Lesser keeps rows follows.rising;
      stamps = All-filter keeps (λ q. q.stamp < s.next_stamp) rows follows.stamps;
      before = All-filter keeps (λ q. All (λ r. q.object < r.object → q.stamp < r.stamp) s.rows) rows follows.before;
    }
      where
        keeps : Row → Bool
        keeps r = not (r.stamp == gone.stamp)

        known : (r : Row) → Contains s.rows r → r.object < next → Contains rows r
        known r among less = All-contains (λ q. q.object < next → Contains rows q) s.rows r follows.known among less

        stays : (r : Row) → Contains s.rows r → r.object < next → (t : Bool) → (r.stamp == gone.stamp) ≡ t → not t ≡ true
        stays r among less false e = refl
        stays r among less true e =
            let same : r ≡ gone = one_stamp rows by_stamp r gone (known r among less) at (eqb-true r.stamp gone.stamp e) in
            absurd (false≢true (sym (All-contains (λ (q : Row). (q.object == gone.object) ≡ false) s.rows r (none_among (λ (q : Row). q.object == gone.object) s.rows none) among) ∙ eq-eqb r.object gone.object (ap (λ (q : Row). q.object) same)))

    -- so it is, found by its stamp
    pub taken_stamp : (gone : Row) (stamp : ℕ) → find (λ r. r.stamp == stamp) rows ≡ Some gone → find (λ r. r.object == gone.object) s.rows ≡ None
        → Follows (filter (λ r. not (r.stamp == stamp)) rows) next s
    taken_stamp gone stamp first none =
        let among = found_among (λ (r : Row). r.stamp == stamp) rows gone first in
        subst (λ n. Follows (filter (λ r. not (r.stamp == n)) rows) next s) (eqb-true gone.stamp stamp among.1) (taken gone among.0 none)

    -- a row whose object has a name is one of the state's
    pub own_row : (row named : Row) → Contains rows row → find (λ r. r.object == row.object) s.rows ≡ Some named → Contains s.rows row
    own_row row named at found =
        let among = found_among (λ (r : Row). r.object == row.object) s.rows named found in
        let is_its : named.object ≡ row.object = eqb-true named.object row.object among.1 in
        let below : row.object < next = All-contains (λ (q : Row). q.object < next) rows row follows.looked_at at in
        let there : Contains rows named = All-contains (λ q. q.object < next → Contains rows q) s.rows named follows.known among.0 (omega (arith, is_its, below)) in
        subst (Contains s.rows) (one_alone rows follows.rising named row there at is_its) among.0

    -- and so are all rows of its stamp
    pub own_stamp : (row named : Row) (stamp : ℕ) → find (λ r. r.stamp == stamp) rows ≡ Some row → find (λ r. r.object == row.object) s.rows ≡ Some named
        → All (λ r. r.stamp ≡ stamp → Contains s.rows r) rows
    own_stamp row named stamp first found =
        let among = found_among (λ (r : Row). r.stamp == stamp) rows row first in
        let is_its : row.stamp ≡ stamp = eqb-true row.stamp stamp among.1 in
        All-weaker (Contains rows) (λ r. r.stamp ≡ stamp → Contains s.rows r)
        (λ r at same. subst (Contains s.rows) (one_stamp rows by_stamp row r among.0 at (is_its ∙ sym same)) (own_row row named among.0 found)) rows (All-contains_itself rows)

    -- as many rows as the state has are its own
    pub as_many_follow : All (λ r. r.object < next) s.rows → length rows ≡ length s.rows → rows ≡ s.rows
    as_many_follow all same =
        sym (as_many s.rows rows sound.rows.rising by_stamp
        (All-weaker (Contains s.rows) (Contains rows) (λ r at. All-contains (λ q. q.object < next → Contains rows q) s.rows r follows.known at (All-contains (λ (q : Row). q.object < next) s.rows r all at)) s.rows (All-contains_itself s.rows))
        (sym same))

    -- and so are rows of which each is one of the state's
    pub all_follow : All (λ r. r.object < next) s.rows → All (Contains s.rows) rows → rows ≡ s.rows
    all_follow all own =
        all_of_both rows s.rows by_stamp sound.rows.rising own
        (All-weaker (Contains s.rows) (Contains rows) (λ r at. All-contains (λ q. q.object < next → Contains rows q) s.rows r follows.known at (All-contains (λ (q : Row). q.object < next) s.rows r all at)) s.rows (All-contains_itself s.rows))
