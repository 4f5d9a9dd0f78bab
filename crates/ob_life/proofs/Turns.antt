-- After the end of a process each object that a handle of it led to is settled in its turn, from the greatest
-- number down, then the directory of its name, and then the shadows of both where they went; what is left when all had their
-- turns is what settling leaves.
use Rattle.std.proofs.Common.{◌≡◌, ℕ, ◌<◌, ◌≤◌, Bool, true, false, not, ◌||◌, ◌&&◌, ◌==◌, nat_le, cond, List, [], ◌∷◌, get_or, length, find, refl, ap, ◌∙◌, sym, subst, arith, filter, All, eq-eqb, eqb-true, leb-true, leb-false, le-leb, inl, inr}
use Rattle.std.specs.Prelude.{Option, None, Some, option_map, MatchOption}
use Rattle.std.specs.List.{list_any}
use Rattle.std.specs.Option.{option_and_then, option_map_or}
use Rattle.std.proofs.lemmas.Bool.{false≢true, ne_eqb, and_from, and_parts, or_right}
use Rattle.std.proofs.lemmas.Bool.Decides.{nat_tests}
use Rattle.std.proofs.lemmas.List.Elements.{All-nil, All-cons, All-head, All-tail, All-filter}
use Rattle.ob_model.specs.declared.state.Body.{Body}
use Rattle.ob_model.specs.declared.state.Body.TheVariants.{Directory, Link, Other}
use Rattle.ob_model.specs.declared.state.Row.{Row}
use Rattle.ob_model.specs.declared.state.Held.{Held}
use Rattle.ob_model.specs.declared.state.Object.{Object}
use Rattle.ob_model.specs.Procedures.{Procedures}
use Rattle.ob_model.specs.Sound.{IsSound, IsDirectory, IsShadowAmong, HasSoundShadowAmong}
use Rattle.ob_model.specs.State.{State, root_id, is_directory, is_directory_body, shadow_in, shadow_of}
use Rattle.ob_model.specs.Settle.{has_shadow, is_kept, is_alive_itself, is_shadowing, is_alive, is_permanent, has_handle, has_name, is_pinned, is_mapped, holds_kept, deleted_one, settle}
use Rattle.ob_model.proofs.Finds.{filter_all, All-kept, list_any_weaker}
use Rattle.ob_model.proofs.Settled.{alive_from_held_name, alive_from_itself, alive_from_shadow, alive_from_row, rows_are_names}
use Rattle.ob_model.proofs.Soundness.{stands_drawn}
use Rattle.ob_space.specs.Orderly.{IsOrderly}
use Rattle.ob_life.specs.Settling.{is_shadow, is_held_up, is_upheld, without_names, without_object, settled_one, settled_unless, shadow_left, shadow_left_unless, with_shadow_settled, AreSettled, HadItsTurn, StaysBut, AreShadowsFit}
use Rattle.ob_space.proofs.Handles.{found_passes}
use Rattle.ob_life.proofs.Judged.{Judged, none_judged, judged_alike, all_judged, one_judged, held_same, greatest_first, directory_first, found_left, stays_found, all_pass, all_found, some_done, left_stays}
use Rattle.ob_space.proofs.Orders.{finds_itself, none_pass}

-- ---- lists and tests

-- what none passes isn't found
none_any : {X : Type 0} (test : X → Bool) (xs : List X) → All (λ x. test x ≡ false) xs → list_any test xs ≡ false
none_any test [] none = refl
none_any test (x ∷ xs) none = ap (λ b. b || list_any test xs) (All-head (λ y. test y ≡ false) x xs none) ∙ none_any test xs (All-tail (λ y. test y ≡ false) x xs none)

-- what holds of all that a filter keeps
All-unfilter : {X : Type 0} (P : X → Type 0) (keeps : X → Bool) (xs : List X) → All P (filter keeps xs) → All (λ x. keeps x ≡ true → P x) xs
All-unfilter P keeps [] all = All-nil (λ x. keeps x ≡ true → P x)
All-unfilter {X} P keeps (x ∷ xs) all = go (keeps x) refl all (λ rest. All-unfilter P keeps xs rest)
  where
    go : (b : Bool) → keeps x ≡ b → All P (cond b (x ∷ filter keeps xs) (filter keeps xs)) → (All P (filter keeps xs) → All (λ y. keeps y ≡ true → P y) xs)
        → All (λ y. keeps y ≡ true → P y) (x ∷ xs)
    go true e all more = All-cons (λ y. keeps y ≡ true → P y) x xs (λ _. All-head P x (filter keeps xs) all) (more (All-tail P x (filter keeps xs) all))
    go false e all more = All-cons (λ y. keeps y ≡ true → P y) x xs (λ yes. absurd (false≢true (sym e ∙ yes))) (more all)

-- the tests of being held up, and those of staying
stays_up : (a e f : Bool) → (e ≡ true → f ≡ true) → (a || e) ≡ true → (a || f) ≡ true
stays_up true e f last h = refl
stays_up false e f last h = last h

or_all : (a b : Bool) → (a ≡ false → b ≡ true) → (a || b) ≡ true
or_all true b h = refl
or_all false b h = h refl

is_false : (b : Bool) → (b ≡ true → ⊥) → b ≡ false
is_false true h = absurd (h refl)
is_false false h = refl

not_false : (b : Bool) → (b ≡ false → ⊥) → b ≡ true
not_false true h = refl
not_false false h = absurd (h refl)

not_true : (b : Bool) → not b ≡ true → b ≡ false
not_true true h = cc
not_true false h = refl

below_bound : (b o : ℕ) → not (nat_le b o) ≡ true → o < b
below_bound b o e = leb-false b o (not_true (nat_le b o) e)

not_above : (b o : ℕ) → o < b → nat_le b o ≡ false
not_above b o less = is_false (nat_le b o) (λ e. omega (arith, less, leb-true b o e))

turn_next : (b id o : ℕ) → id < b → (o < b → o ≤ id) → (nat_le b o || (o == id)) ≡ nat_le id o
turn_next b id o less last = go (nat_le b o) refl
  where
    near : o ≤ id → (false || (o == id)) ≡ nat_le id o
    near below = grind (arith, nat_tests)

    go : (t : Bool) → nat_le b o ≡ t → (t || (o == id)) ≡ nat_le id o
    go true e = sym (le-leb id o (omega (arith, less, leb-true b o e)))
    go false e = near (last (leb-false b o e))

or_false : (b : Bool) → (b || false) ≡ b
or_false true = refl
or_false false = refl

and_true : (b : Bool) → (b && true) ≡ b
and_true true = refl
and_true false = refl

-- what stays, stays whether it had its turn or not
stays_alike : (k a b : Bool) → k ≡ true → (k || a) ≡ (k || b)
stays_alike true a b h = refl
stays_alike false a b h = cc

upheld_stays : (root h pin map q holds : Bool) → (h || q) ≡ true → (root || h || pin || map || q || holds) ≡ true
upheld_stays true h pin map q holds e = refl
upheld_stays false true pin map q holds e = refl
upheld_stays false false true map q holds e = refl
upheld_stays false false false true q holds e = refl
upheld_stays false false false false true holds e = refl
upheld_stays false false false false false holds e = cc

name_stays : (p h n : Bool) → (h || (p && n)) ≡ true → (p || h) ≡ true
name_stays true h n e = refl
name_stays false true n e = refl
name_stays false false n e = cc

-- what has a handle, or is permanent and has one name more, is upheld too
upheld_too : (h p n m : Bool) → (n ≡ true → m ≡ true) → (h || (p && n)) ≡ true → (h || (p && m)) ≡ true
upheld_too true p n m more e = refl
upheld_too false true n m more e = more e
upheld_too false false n m more e = e

and_false : (b : Bool) → (b && false) ≡ false
and_false true = refl
and_false false = refl

or_first : (a b : Bool) → a ≡ true → (a || b) ≡ true
or_first true b h = refl
or_first false b h = cc

both_false : (a b : Bool) → a ≡ false → b ≡ false → (a || b) ≡ false
both_false true b h k = cc
both_false false b h k = k

neither : (a b : Bool) → (a || b) ≡ false → (a ≡ false) × (b ≡ false)
neither true b h = cc
neither false b h = (refl, h)

-- two tests that pass where the other does
same_tests : (a b : Bool) → (a ≡ true → b ≡ true) → (b ≡ true → a ≡ true) → a ≡ b
same_tests true b there back = sym (there refl)
same_tests false true there back = back refl
same_tests false false there back = refl

or_pair : (a b c : Bool) → (b || c) ≡ true → ((a || b) || c) ≡ true
or_pair true b c h = refl
or_pair false b c h = h

-- an object is this one, where it is one
abbrev at_option : Option ℕ → ℕ → Bool
at_option m o = option_map_or (λ n. n == o) m false

at_is : (m : Option ℕ) (o : ℕ) → at_option m o ≡ true → m ≡ Some o
at_is None o e = absurd (false≢true e)
at_is (Some n) o e = ap Some (eqb-true n o e)

is_at : (m : Option ℕ) (o : ℕ) → m ≡ Some o → at_option m o ≡ true
is_at m o is = ap (λ n. at_option n o) is ∙ eq-eqb o o refl

-- a body with a shadow is that of a directory with it
shadow_is : {F I : Type 0} (o : ℕ) (body : Body F I) → has_shadow o body ≡ true → shadow_in body ≡ Some o
shadow_is o body has = at_is (shadow_in body) o has

module _ {K T F I : Type 0} (s : State K T F I) where
  -- what is upheld stays, and so do its names
  upheld_alive : (o : ℕ) → is_upheld s o ≡ true → is_alive s o ≡ true
  upheld_alive o up = alive_from_itself s o (upheld_stays (o == root_id) (has_handle s o) (is_pinned s o) (is_mapped s o) (is_permanent s o && has_name s o) (holds_kept s o) up)

  upheld_kept : (o : ℕ) → is_upheld s o ≡ true → (r : Row) → (r.object == o) ≡ true → is_kept s r ≡ true
  upheld_kept o up r own = ap (λ n. is_permanent s n || has_handle s n) (eqb-true r.object o own) ∙ name_stays (is_permanent s o) (has_handle s o) (has_name s o) up

module _ {K T F I : Type 0} (s : State K T F I) where
  -- a name in a directory goes, and its object has its turn below a bound
  abbrev goes_below : ℕ → ℕ → Row → Bool
  goes_below b o r = (r.directory == o) && (not (is_kept s r) && not (nat_le b r.object))

  -- What is done when each object from a bound on had its turn, where none is a shadow: of the touched objects those from
  -- it on, of the others those in which no name is that goes with an object below it.
  abbrev plain_turn : (ℕ → Bool) → ℕ → ℕ → Bool
  plain_turn touched b o = cond (touched o) (nat_le b o) (not (list_any (goes_below b o) s.rows))

  -- a directory has this shadow, goes, and isn't done with
  abbrev shades_below : (ℕ → Bool) → ℕ → ℕ → Object F I → Bool
  shades_below touched b o x = has_shadow o x.body && (not (is_alive s x.id) && not (plain_turn touched b x.id))

  -- what is done, where of the objects that aren't touched only those are that are the shadow of no such directory
  abbrev pub had_turn : (ℕ → Bool) → ℕ → ℕ → Bool
  had_turn touched b o = cond (touched o) (nat_le b o) (not (list_any (goes_below b o) s.rows || list_any (shades_below touched b o) s.objects))

-- a name that lies in an object, or a directory that has it as its shadow, is left
abbrev left_by : {K T F I : Type 0} → State K T F I → ℕ → Bool
left_by t d = list_any (λ r. r.directory == d) t.rows || is_shadow t.objects d

pub sound_fit : {K T F I : Type 0} (s : State K T F I) → IsSound s → AreShadowsFit s
sound_fit s sound = record { inside = sound.rows.inside; shadows = sound.objects.shadows }

module _ {K T F I : Type 0} (idle : I → Type 0) (s : State K T F I) (orderly : IsOrderly idle s) (sound : AreShadowsFit s) where
  -- ---- the shadows of a sound state

  own_shadow : All (λ x. shadow_of s x.id ≡ shadow_in x.body) s.objects
  own_shadow k x below = ap (λ (o : Option (Object F I)). option_and_then shadow_in (option_map (λ y. y.body) o)) (finds_itself s.objects orderly.rising k x below)

  shadow_directory : (o d : ℕ) → shadow_of s o ≡ Some d → is_directory s d ≡ true
  shadow_directory o d is = go (find (λ x. x.id == o) s.objects) refl is
    where
      go : (x : Option (Object F I)) → find (λ y. y.id == o) s.objects ≡ x → option_and_then shadow_in (option_map (λ y. y.body) x) ≡ Some d → is_directory s d ≡ true
      go None e h = cc
      go (Some x) e h =
          (subst (λ (m : Option ℕ). MatchOption m (Unit {0}) (IsShadowAmong s.objects x.id)) h (all_found (HasSoundShadowAmong s.objects) (λ y. y.id == o) s.objects x sound.shadows e)).0

  -- the shadow of a directory is one, was made before it, and has none
  fit : All (λ x. (o : ℕ) → has_shadow o x.body ≡ true → IsShadowAmong s.objects x.id o) s.objects
  fit k x below o has =
      subst (λ (m : Option ℕ). MatchOption m (Unit {0}) (IsShadowAmong s.objects (get_or s.objects k x).id)) (shadow_is o (get_or s.objects k x).body has) (sound.shadows k x below)

  -- what has a shadow is none
  unshaded : All (λ x. (o : ℕ) → has_shadow o x.body ≡ true → All (λ y. has_shadow x.id y.body ≡ false) s.objects) s.objects
  unshaded k x below o has j y within = is_false (has_shadow (get_or s.objects k x).id (get_or s.objects j y).body) (λ yes.
      let none : None ≡ Some o = sym (fit j y within (get_or s.objects k x).id yes).2 ∙ own_shadow k x below ∙ shadow_is o (get_or s.objects k x).body has in cc)

  unshadowing : All (λ x. (o : ℕ) → has_shadow o x.body ≡ true → is_shadowing s x.id ≡ false) s.objects
  unshadowing k x below o has =
      none_any (λ y. has_shadow (get_or s.objects k x).id y.body && is_alive_itself s y.id) s.objects
      (λ j y within. ap (λ b. b && is_alive_itself s (get_or s.objects j y).id) (unshaded k x below o has j y within))

  -- the shadow of a directory that stays does
  living_shadow : All (λ x. (o : ℕ) → has_shadow o x.body ≡ true → is_alive s x.id ≡ true → is_alive s o ≡ true) s.objects
  living_shadow k x below o has alive =
      alive_from_shadow s o (not_false (is_shadowing s o) (λ none.
      false≢true (sym (none_pass (λ y. has_shadow o y.body && is_alive_itself s y.id) s.objects none k x below)
      ∙ and_from (has_shadow o (get_or s.objects k x).body) (is_alive_itself s (get_or s.objects k x).id) has
      (sym (or_false (is_alive_itself s (get_or s.objects k x).id)) ∙ (λ i. is_alive_itself s (get_or s.objects k x).id || (sym (unshadowing k x below o has)) i) ∙ alive))))

module _ {K T F I : Type 0} (g : Procedures K T F I) (idle : I → Type 0) (s : State K T F I) (orderly : IsOrderly idle s) (sound : AreShadowsFit s)
    (touched : ℕ → Bool) (map : Option ℕ) (stays : StaysBut s touched map) where
  abbrev open_row : ℕ → ℕ → Row → Bool
  open_row b o r = goes_below s b o r

  abbrev open_shade : ℕ → ℕ → Object F I → Bool
  open_shade b o x = shades_below s touched b o x

  abbrev plain : ℕ → ℕ → Bool
  plain b o = plain_turn s touched b o

  abbrev done : ℕ → ℕ → Bool
  done b o = had_turn s touched b o

  done_touched : (b o : ℕ) → touched o ≡ true → done b o ≡ nat_le b o
  done_touched b o e = ap (λ t. cond t (nat_le b o) (not (list_any (open_row b o) s.rows || list_any (open_shade b o) s.objects))) e

  done_other : (b o : ℕ) → touched o ≡ false → done b o ≡ not (list_any (open_row b o) s.rows || list_any (open_shade b o) s.objects)
  done_other b o e = ap (λ t. cond t (nat_le b o) (not (list_any (open_row b o) s.rows || list_any (open_shade b o) s.objects))) e

  plain_touched : (b o : ℕ) → touched o ≡ true → plain b o ≡ nat_le b o
  plain_touched b o e = ap (λ t. cond t (nat_le b o) (not (list_any (open_row b o) s.rows))) e

  plain_other : (b o : ℕ) → touched o ≡ false → plain b o ≡ not (list_any (open_row b o) s.rows)
  plain_other b o e = ap (λ t. cond t (nat_le b o) (not (list_any (open_row b o) s.rows))) e

  -- where nothing is open an object is done
  closed_done : (b o : ℕ) → touched o ≡ false → list_any (open_row b o) s.rows ≡ false → list_any (open_shade b o) s.objects ≡ false → done b o ≡ true
  closed_done b o free rows shades = done_other b o free ∙ ap not (both_false (list_any (open_row b o) s.rows) (list_any (open_shade b o) s.objects) rows shades)

  done_closed : (b o : ℕ) → touched o ≡ false → done b o ≡ true → (list_any (open_row b o) s.rows ≡ false) × (list_any (open_shade b o) s.objects ≡ false)
  done_closed b o free h = neither (list_any (open_row b o) s.rows) (list_any (open_shade b o) s.objects) (not_true _ (sym (done_other b o free) ∙ h))

  -- what has a shadow is done where it is by the names in it
  plain_done : All (λ x. (o : ℕ) → has_shadow o x.body ≡ true → (b : ℕ) → plain b x.id ≡ done b x.id) s.objects
  plain_done k x below o has b = go (touched (get_or s.objects k x).id) refl
    where
      id : ℕ
      id = (get_or s.objects k x).id

      none : list_any (open_shade b id) s.objects ≡ false
      none =
          none_any (open_shade b id) s.objects
          (λ j y within. ap (λ c. c && (not (is_alive s (get_or s.objects j y).id) && not (plain b (get_or s.objects j y).id))) (unshaded idle s orderly sound k x below o has j y within))

      go : (c : Bool) → touched id ≡ c → plain b id ≡ done b id
      go true e = plain_touched b id e ∙ sym (done_touched b id e)
      go false e = plain_other b id e ∙ ap not (sym (or_false (list_any (open_row b id) s.rows)) ∙ (λ i. list_any (open_row b id) s.rows || (sym none) i)) ∙ sym (done_other b id e)

  -- a name that goes is that of a touched object
  gone_touched : All (λ r. is_kept s r ≡ false → touched r.object ≡ true) s.rows
  gone_touched k d below gone = go (touched (get_or s.rows k d).object) refl
    where
      go : (t : Bool) → touched (get_or s.rows k d).object ≡ t → t ≡ true
      go true e = refl
      go false e = absurd (false≢true (sym gone ∙ stays.names k d below e))

  row_drawn : All (λ r. r.object < s.next_id) s.rows
  row_drawn k d below = stands_drawn s.next_id s.objects (get_or s.rows k d).object orderly.drawn (orderly.standing k d below)

  -- what is done at a bound is at a lower one
  row_lower : (b c : ℕ) → c ≤ b → (o : ℕ) → list_any (open_row b o) s.rows ≡ false → list_any (open_row c o) s.rows ≡ false
  row_lower b c lower o closed = none_any (open_row c o) s.rows (λ k x below. is_false (open_row c o (get_or s.rows k x)) (λ opens.
      let r : Row = get_or s.rows k x in
      let parts = and_parts (r.directory == o) (not (is_kept s r) && not (nat_le c r.object)) opens in
      let ends = and_parts (not (is_kept s r)) (not (nat_le c r.object)) parts.1 in
      false≢true (sym (none_pass (open_row b o) s.rows closed k x below)
      ∙ and_from (r.directory == o) (not (is_kept s r) && not (nat_le b r.object)) parts.0
      (and_from (not (is_kept s r)) (not (nat_le b r.object)) ends.0 (ap not (not_above b r.object (omega (arith, lower, below_bound c r.object ends.1))))))))

  plain_lower : (b c : ℕ) → c ≤ b → (o : ℕ) → plain b o ≡ true → plain c o ≡ true
  plain_lower b c lower o h = go (touched o) refl
    where
      go : (t : Bool) → touched o ≡ t → plain c o ≡ true
      go true e = plain_touched c o e ∙ le-leb c o (omega (arith, lower, leb-true b o (sym (plain_touched b o e) ∙ h)))
      go false e = plain_other c o e ∙ ap not (row_lower b c lower o (not_true _ (sym (plain_other b o e) ∙ h)))

  done_lower : (b c : ℕ) → c ≤ b → (o : ℕ) → done b o ≡ true → done c o ≡ true
  done_lower b c lower o h = go (touched o) refl
    where
      go : (t : Bool) → touched o ≡ t → done c o ≡ true
      go true e = done_touched c o e ∙ le-leb c o (omega (arith, lower, leb-true b o (sym (done_touched b o e) ∙ h)))
      go false e =
          let closed = done_closed b o e h in
          closed_done c o e (row_lower b c lower o closed.0)
          (none_any (open_shade c o) s.objects (λ k x below. is_false (open_shade c o (get_or s.objects k x)) (λ opens.
          let y : Object F I = get_or s.objects k x in
          let parts = and_parts (has_shadow o y.body) (not (is_alive s y.id) && not (plain c y.id)) opens in
          let ends = and_parts (not (is_alive s y.id)) (not (plain c y.id)) parts.1 in
          let before : plain b y.id ≡ false = is_false (plain b y.id) (λ yes. false≢true (sym (not_true _ ends.1) ∙ plain_lower b c lower y.id yes)) in
          false≢true (sym (none_pass (open_shade b o) s.objects closed.1 k x below)
          ∙ and_from (has_shadow o y.body) (not (is_alive s y.id) && not (plain b y.id)) parts.0 (and_from (not (is_alive s y.id)) (not (plain b y.id)) ends.0 (ap not before))))))

  -- ---- one object that isn't touched is settled

  alike : (A B : ℕ → Bool) (u : State K T F I) → ((o : ℕ) → A o ≡ B o) → Judged g s A u → Judged g s B u
  alike A B u same =
      judged_alike g s A B u (λ k x below. ap (λ c. is_alive s (get_or s.objects k x).id || not c) (same (get_or s.objects k x).id))
      (λ k x below. ap (λ c. is_kept s (get_or s.rows k x) || not c) (same (get_or s.rows k x).object))

  module _ (D : ℕ → Bool) (t : State K T F I) (judged : Judged g s D t) where
    abbrev keeps : Row → Bool
    keeps r = is_kept s r || not (D r.object)

    abbrev keeps_object : Object F I → Bool
    keeps_object x = is_alive s x.id || not (D x.id)

    -- where nothing is left that holds an object up, each name in it and each directory that has it as its shadow goes, and
    -- was judged
    left_rows : (d : ℕ) → left_by t d ≡ false → All (λ r. (r.directory == d) ≡ true → (is_kept s r ≡ false) × (D r.object ≡ true)) s.rows
    left_rows d none k x below here = apart (is_kept s (get_or s.rows k x)) (D (get_or s.rows k x).object) (is_false (keeps (get_or s.rows k x)) (λ yes. false≢true (sym (gone k x below yes) ∙ here)))
      where
        gone : All (λ r. keeps r ≡ true → (r.directory == d) ≡ false) s.rows
        gone =
            All-unfilter (λ r. (r.directory == d) ≡ false) keeps s.rows
            (subst (λ (rs : List Row). All (λ r. (r.directory == d) ≡ false) rs) judged.rows (none_pass (λ r. r.directory == d) t.rows (neither (list_any (λ r. r.directory == d) t.rows) (is_shadow t.objects d) none).0))

        apart : (a n : Bool) → (a || not n) ≡ false → (a ≡ false) × (n ≡ true)
        apart true n h = cc
        apart false true h = (refl, refl)
        apart false false h = cc

    left_shades : (d : ℕ) → left_by t d ≡ false → All (λ x. has_shadow d x.body ≡ true → (is_alive s x.id ≡ false) × (D x.id ≡ true)) s.objects
    left_shades d none k x below here = apart (is_alive s (get_or s.objects k x).id) (D (get_or s.objects k x).id) (is_false (keeps_object (get_or s.objects k x)) (λ yes. false≢true (sym (gone k x below yes) ∙ here)))
      where
        gone : All (λ y. keeps_object y ≡ true → has_shadow d y.body ≡ false) s.objects
        gone =
            All-unfilter (λ y. has_shadow d y.body ≡ false) keeps_object s.objects
            (subst (λ (ys : List (Object F I)). All (λ y. has_shadow d y.body ≡ false) ys) judged.objects (none_pass (λ y. has_shadow d y.body) t.objects (neither (list_any (λ r. r.directory == d) t.rows) (is_shadow t.objects d) none).1))

        apart : (a n : Bool) → (a || not n) ≡ false → (a ≡ false) × (n ≡ true)
        apart true n h = cc
        apart false true h = (refl, refl)
        apart false false h = cc

    -- nothing is left where each name and each directory that goes was judged, and the object goes
    not_left : (d : ℕ) → is_alive s d ≡ false → All (λ r. (r.directory == d) ≡ true → is_kept s r ≡ false → D r.object ≡ true) s.rows
        → All (λ x. has_shadow d x.body ≡ true → is_alive s x.id ≡ false → D x.id ≡ true) s.objects → left_by t d ≡ false
    not_left d dead rows shades =
        both_false (list_any (λ r. r.directory == d) t.rows) (is_shadow t.objects d)
        (ap (list_any (λ r. r.directory == d)) judged.rows
        ∙ none_any (λ r. r.directory == d) (filter keeps s.rows) (All-kept keeps (λ r. keeps r ≡ true → (r.directory == d) ≡ false) (λ r. (r.directory == d) ≡ false) (λ r kept h. h kept) s.rows row))
        (ap (list_any (λ x. has_shadow d x.body)) judged.objects
        ∙ none_any (λ x. has_shadow d x.body) (filter keeps_object s.objects) (All-kept keeps_object (λ x. keeps_object x ≡ true → has_shadow d x.body ≡ false) (λ x. has_shadow d x.body ≡ false) (λ x kept h. h kept) s.objects shade))
      where
        row : All (λ r. keeps r ≡ true → (r.directory == d) ≡ false) s.rows
        row k x below kept = is_false ((get_or s.rows k x).directory == d) (λ here.
            let r : Row = get_or s.rows k x in
            let unkept : is_kept s r ≡ false = is_false (is_kept s r) (λ yes.
            false≢true (sym dead ∙ alive_from_held_name s d (not_false (holds_kept s d) (λ none.
            false≢true (sym (none_pass (λ q. (q.directory == d) && is_kept s q) s.rows none k x below) ∙ and_from (r.directory == d) (is_kept s r) here yes))))) in
            false≢true (sym ((λ i. unkept i || not ((rows k x below here unkept) i))) ∙ kept))

        shade : All (λ x. keeps_object x ≡ true → has_shadow d x.body ≡ false) s.objects
        shade k x below kept = is_false (has_shadow d (get_or s.objects k x).body) (λ here.
            let y : Object F I = get_or s.objects k x in
            let gone : is_alive s y.id ≡ false = is_false (is_alive s y.id) (λ yes. false≢true (sym dead ∙ living_shadow idle s orderly sound k x below d here yes)) in
            false≢true (sym ((λ i. gone i || not ((shades k x below here gone) i))) ∙ kept))

    module _ (d : ℕ) (free : touched d ≡ false) (directory : is_directory s d ≡ true) where
      -- its own names stay
      own_kept : All (λ r. (r.object == d) ≡ true → is_kept s r ≡ true) s.rows
      own_kept k x below own = stays.names k x below (ap touched (eqb-true (get_or s.rows k x).object d own) ∙ free)

      is_plain : All (λ x. (x.id == d) ≡ true → (shadow : Option ℕ) × (x.body ≡ Directory shadow)) s.objects
      is_plain k x below own =
          one (get_or s.objects k x).body
          (sym (ap (λ (o : Option (Object F I)). option_map_or is_directory_body (option_map (λ y. y.body) o) false) (finds_itself s.objects orderly.rising k x below))
          ∙ ap (is_directory s) (eqb-true (get_or s.objects k x).id d own) ∙ directory)
        where
          one : (body : Body F I) → is_directory_body body ≡ true → (shadow : Option ℕ) × (body ≡ Directory shadow)
          one (Directory shadow) e = (shadow, refl)
          one (Link target) e = cc
          one (Other face inner) e = cc

      handle_same : has_handle t d ≡ has_handle s d
      handle_same = ap (list_any (λ (h : Held). h.object == d)) judged.handles

      permanent_same : is_alive s d ≡ true → is_permanent t d ≡ is_permanent s d
      permanent_same alive = ap (λ (o : Option (Object F I)). option_map_or (λ x. x.permanent) o false) (stays_found g s D t judged d (ap (λ b. b || not (D d)) alive))

      rows_same : (without_names t d).rows ≡ t.rows
      rows_same = go (is_permanent t d || has_handle t d) refl
        where
          go : (c : Bool) → (is_permanent t d || has_handle t d) ≡ c → cond c t.rows (filter (λ r. not (r.object == d)) t.rows) ≡ t.rows
          go true e = refl
          go false e =
              filter_all (λ r. not (r.object == d)) t.rows
              (subst (λ (rs : List Row). All (λ r. not (r.object == d) ≡ true) rs) (sym judged.rows) (All-filter keeps (λ r. not (r.object == d) ≡ true) s.rows
              (λ k x below.
              ap not (is_false ((get_or s.rows k x).object == d) (λ own.
              let r : Row = get_or s.rows k x in
              let kept : is_kept s r ≡ true = own_kept k x below own in
              let same : r.object ≡ d = eqb-true r.object d own in
              let alive : is_alive s d ≡ true = subst (λ (n : ℕ). is_alive s n ≡ true) same (alive_from_row s r kept (rows_are_names s k x below)) in
              false≢true (sym e ∙ (λ i. permanent_same alive i || handle_same i) ∙ sym (ap (λ o. is_permanent s o || has_handle s o) same) ∙ kept))))))

      unchanged : without_names t d ≡ t
      unchanged = λ i. record t { rows = rows_same i }

      by_held : (c : Bool) → is_held_up t d ≡ c → settled_one g t d ≡ cond c t (without_object g t d)
      by_held c up =
          ap (λ b. cond b (without_names t d) (without_object g (without_names t d) d)) (ap (λ u. is_held_up u d) unchanged ∙ up)
          ∙ ap (λ u. cond c u (without_object g u d)) unchanged

      stays_there : left_by t d ≡ true → settled_one g t d ≡ t
      stays_there some =
          by_held true
          (or_pair ((d == root_id) || has_handle t d || is_pinned t d || is_mapped t d || (is_permanent t d && has_name t d)) (list_any (λ r. r.directory == d) t.rows) (is_shadow t.objects d) some)

      -- nothing is left that holds it up
      module _ (none : left_by t d ≡ false) where
        inside_judged : All (λ r. (r.directory == d) ≡ true → (is_kept s r || (D r.object || (r.object == d))) ≡ true) s.rows
        inside_judged k x below here =
            some_done (is_kept s (get_or s.rows k x)) (D (get_or s.rows k x).object || ((get_or s.rows k x).object == d)) (ap (λ c. c || ((get_or s.rows k x).object == d)) (left_rows d none k x below here).1)

        shadowed_judged : All (λ x. has_shadow d x.body ≡ true → ((is_alive s x.id || D x.id) ≡ true) × (is_shadowing s x.id ≡ false)) s.objects
        shadowed_judged k x below here = (
          some_done (is_alive s (get_or s.objects k x).id) (D (get_or s.objects k x).id) (left_shades d none k x below here).1,
          unshadowing idle s orderly sound k x below d here,
        )

        -- it wasn't judged
        goes_now : D d ≡ false → Judged g s (λ o. D o || (o == d)) (settled_one g t d)
        goes_now new = one_judged g s D t judged d new inside_judged shadowed_judged (directory_first g s D t judged d is_plain)

        held_now : D d ≡ false → is_held_up (without_names t d) d ≡ is_alive s d
        held_now new = held_same g s D t judged d new inside_judged shadowed_judged (directory_first g s D t judged d is_plain)

      -- what stays is as if it hadn't been judged
      abbrev but : ℕ → Bool
      but o = D o && not (o == d)

      judged_but : is_alive s d ≡ true → Judged g s but t
      judged_but alive = judged_alike g s D but t (λ k x below. object (get_or s.objects k x).id) (λ k x below. name k x below) judged
        where
          object : (o : ℕ) → (is_alive s o || not (D o)) ≡ (is_alive s o || not (but o))
          object o = go (o == d) refl
            where
              go : (c : Bool) → (o == d) ≡ c → (is_alive s o || not (D o)) ≡ (is_alive s o || not (D o && not c))
              go true own = stays_alike (is_alive s o) (not (D o)) (not (D o && false)) (ap (is_alive s) (eqb-true o d own) ∙ alive)
              go false apart = ap (λ c. is_alive s o || not c) (sym (and_true (D o)))

          name : All (λ r. (is_kept s r || not (D r.object)) ≡ (is_kept s r || not (but r.object))) s.rows
          name k x below = go (get_or s.rows k x).object ((get_or s.rows k x).object == d) refl
            where
              go : (o : ℕ) (c : Bool) → ((get_or s.rows k x).object == d) ≡ c → (is_kept s (get_or s.rows k x) || not (D (get_or s.rows k x).object)) ≡ (is_kept s (get_or s.rows k x) || not (D (get_or s.rows k x).object && not c))
              go o true own = stays_alike (is_kept s (get_or s.rows k x)) (not (D (get_or s.rows k x).object)) (not (D (get_or s.rows k x).object && false)) (own_kept k x below own)
              go o false apart = ap (λ c. is_kept s (get_or s.rows k x) || not c) (sym (and_true (D (get_or s.rows k x).object)))

      again : D d ≡ true → settled_one g t d ≡ t
      again before = go (left_by t d) refl (is_alive s d) refl
        where
          go : (l : Bool) → left_by t d ≡ l → (a : Bool) → is_alive s d ≡ a → settled_one g t d ≡ t
          go true some a e = stays_there some
          go false none true alive =
              by_held true (ap (λ u. is_held_up u d) (sym unchanged) ∙ held_same g s but t (judged_but alive) d new within shadowed (directory_first g s but t (judged_but alive) d is_plain) ∙ alive)
            where
              new : but d ≡ false
              new = ap (λ c. D d && not c) (eq-eqb d d refl) ∙ and_false (D d)

              each : (a c : Bool) → a ≡ true → ((a && not c) || c) ≡ true
              each true true h = refl
              each true false h = refl
              each false c h = cc

              within : All (λ r. (r.directory == d) ≡ true → (is_kept s r || (but r.object || (r.object == d))) ≡ true) s.rows
              within k x below here =
                  some_done (is_kept s (get_or s.rows k x)) (but (get_or s.rows k x).object || ((get_or s.rows k x).object == d))
                  (each (D (get_or s.rows k x).object) ((get_or s.rows k x).object == d) (left_rows d none k x below here).1)

              shadowed : All (λ x. has_shadow d x.body ≡ true → ((is_alive s x.id || but x.id) ≡ true) × (is_shadowing s x.id ≡ false)) s.objects
              shadowed k x below here =
                  let lesser : d < (get_or s.objects k x).id = (fit idle s orderly sound k x below d here).1 in
                  let apart : ((get_or s.objects k x).id == d) ≡ false = ne_eqb (get_or s.objects k x).id d (λ same. omega (arith, lesser, same)) in (
                    some_done (is_alive s (get_or s.objects k x).id) (but (get_or s.objects k x).id) ((λ i. D (get_or s.objects k x).id && not (apart i)) ∙ and_true (D (get_or s.objects k x).id) ∙ (left_shades d none k x below here).1),
                    unshadowing idle s orderly sound k x below d here,
                  )
          go false none false dead = held (is_held_up t d) refl
            where
              there : All (λ x. keeps_object x ≡ true) t.objects
              there = subst (λ (xs : List (Object F I)). All (λ x. keeps_object x ≡ true) xs) (sym judged.objects) (all_pass keeps_object s.objects)

              lacks : All (λ x. (x.id == d) ≡ false) t.objects
              lacks k x below = is_false ((get_or t.objects k x).id == d) (λ own.
                  false≢true (sym (λ i. dead i || not (before i)) ∙ ap (λ n. is_alive s n || not (D n)) (sym (eqb-true (get_or t.objects k x).id d own)) ∙ there k x below))

              missing : (o : Option (Object F I)) → find (λ y. y.id == d) t.objects ≡ o → o ≡ None
              missing None e = refl
              missing (Some x) e = absurd (false≢true (sym (all_found (λ y. (y.id == d) ≡ false) (λ y. y.id == d) t.objects x lacks e) ∙ found_passes (λ y. y.id == d) t.objects x e))

              absent : without_object g t d ≡ t
              absent = λ i. record t {
                objects = filter_all (λ x. not (x.id == d)) t.objects (λ k x below. ap not (lacks k x below)) i;
                rows = filter_all (λ r. not (r.directory == d)) t.rows
                    (λ k x below. ap not (none_pass (λ r. r.directory == d) t.rows (neither (list_any (λ r. r.directory == d) t.rows) (is_shadow t.objects d) none).0 k x below)) i;
                set = ap (λ (o : Option (Object F I)). option_map_or (λ body. deleted_one g body t.set) (option_map (λ y. y.body) o) t.set) (missing (find (λ y. y.id == d) t.objects) refl) i;
              }

              held : (c : Bool) → is_held_up t d ≡ c → settled_one g t d ≡ t
              held true up = by_held true up
              held false up = by_held false up ∙ absent

      abbrev stepped : ℕ → Bool
      stepped o = D o || ((o == d) && not (left_by t d))

      step : Judged g s stepped (settled_one g t d)
      step = go (left_by t d) refl (D d) refl
        where
          go : (l : Bool) → left_by t d ≡ l → (e : Bool) → D d ≡ e → Judged g s stepped (settled_one g t d)
          go true some e f =
              subst (Judged g s stepped) (sym (stays_there some))
              (alike D stepped t (λ o. sym (or_false (D o)) ∙ ap (λ b. D o || b) (sym (and_false (o == d))) ∙ (λ i. D o || ((o == d) && not ((sym some) i)))) judged)
          go false none true f = subst (Judged g s stepped) (sym (again f)) (alike D stepped t (λ o. one o (o == d) refl) judged)
            where
              one : (o : ℕ) (c : Bool) → (o == d) ≡ c → D o ≡ (D o || (c && not (left_by t d)))
              one o true own = let it : D o ≡ true = ap D (eqb-true o d own) ∙ f in it ∙ sym (or_first (D o) (not (left_by t d)) it)
              one o false apart = sym (or_false (D o))
          go false none false f =
              alike (λ o. D o || (o == d)) stepped (settled_one g t d) (λ o. ap (λ b. D o || b) (sym (and_true (o == d)) ∙ (λ i. (o == d) && not ((sym none) i)))) (goes_now none f)

    -- ---- an object that may be given is settled, unless it is touched

    abbrev opt_done : Option ℕ → ℕ → Bool
    opt_done m o = D o || (at_option m o && (not (touched o) && not (left_by t o)))

    opt_judged : (m : Option ℕ) → ((d : ℕ) → m ≡ Some d → is_directory s d ≡ true) → Judged g s (opt_done m) (with_shadow_settled g touched t m)
    opt_judged None directories = alike D (opt_done None) t (λ o. sym (or_false (D o))) judged
    opt_judged (Some d) directories = go (touched d) refl
      where
        kept : (o : ℕ) (c : Bool) → (d == o) ≡ c → touched d ≡ true → D o ≡ (D o || (c && (not (touched o) && not (left_by t o))))
        kept o true own e = sym (or_false (D o)) ∙ (λ i. D o || (not ((sym (ap touched (sym (eqb-true d o own)) ∙ e)) i) && not (left_by t o)))
        kept o false apart e = sym (or_false (D o))

        pair : (o : ℕ) (c : Bool) → (d == o) ≡ c → touched d ≡ false → ((o == d) && not (left_by t d)) ≡ (c && (not (touched o) && not (left_by t o)))
        pair o true own e =
            ap (λ b. b && not (left_by t d)) (eq-eqb o d (sym (eqb-true d o own))) ∙ ap (λ n. not (left_by t n)) (eqb-true d o own)
            ∙ ap (λ b. not b && not (left_by t o)) (sym (ap touched (sym (eqb-true d o own)) ∙ e))
        pair o false apart e = ap (λ b. b && not (left_by t d)) (ne_eqb o d (λ same. false≢true (sym apart ∙ eq-eqb d o (sym same))))

        go : (c : Bool) → touched d ≡ c → Judged g s (opt_done (Some d)) (cond (touched d) t (settled_one g t d))
        go true e =
            subst (Judged g s (opt_done (Some d))) (sym (ap (λ c. cond c t (settled_one g t d)) e)) (alike D (opt_done (Some d)) t (λ o. kept o (d == o) refl e) judged)
        go false e =
            subst (Judged g s (opt_done (Some d))) (sym (ap (λ c. cond c t (settled_one g t d)) e))
            (alike (stepped d e (directories d refl)) (opt_done (Some d)) (settled_one g t d) (λ o. ap (λ b. D o || b) (pair o (d == o) refl e)) (step d e (directories d refl)))

    opt_same : (m : Option ℕ) (o : ℕ) → touched o ≡ true → opt_done m o ≡ D o
    opt_same m o e = (λ i. D o || (at_option m o && (not (e i) && not (left_by t o)))) ∙ ap (λ b. D o || b) (and_false (at_option m o)) ∙ or_false (D o)

    opt_now : (m : Option ℕ) (o : ℕ) → at_option m o ≡ true → touched o ≡ false → left_by t o ≡ false → opt_done m o ≡ true
    opt_now m o here free none = (λ i. D o || (here i && (not (free i) && not (none i)))) ∙ or_right (D o) true refl

    -- what is done then was ready
    opt_back : (c : ℕ) → ((o : ℕ) → touched o ≡ true → D o ≡ done c o) → ((o : ℕ) → touched o ≡ false → is_alive s o ≡ false → D o ≡ true → done c o ≡ true)
        → (m : Option ℕ) (o : ℕ) → touched o ≡ false → is_alive s o ≡ false → opt_done m o ≡ true → done c o ≡ true
    opt_back c touched_as back m o free dead h = go (D o) refl h
      where
        go : (e : Bool) → D o ≡ e → (e || (at_option m o && (not (touched o) && not (left_by t o)))) ≡ true → done c o ≡ true
        go true f h = back o free dead f
        go false f h = closed_done c o free rows shades
          where
            none : left_by t o ≡ false
            none = not_true (left_by t o) (and_parts (not (touched o)) (not (left_by t o)) (and_parts (at_option m o) (not (touched o) && not (left_by t o)) h).1).1

            rows : list_any (open_row c o) s.rows ≡ false
            rows = none_any (open_row c o) s.rows (λ k x below. is_false (open_row c o (get_or s.rows k x)) (λ opens.
                let r : Row = get_or s.rows k x in
                let parts = and_parts (r.directory == o) (not (is_kept s r) && not (nat_le c r.object)) opens in
                let ends = and_parts (not (is_kept s r)) (not (nat_le c r.object)) parts.1 in
                let is = left_rows o none k x below parts.0 in
                let it : touched r.object ≡ true = gone_touched k x below is.0 in
                false≢true (sym (not_true (nat_le c r.object) ends.1) ∙ sym (done_touched c r.object it) ∙ sym (touched_as r.object it) ∙ is.1)))

            shades : list_any (open_shade c o) s.objects ≡ false
            shades = none_any (open_shade c o) s.objects (λ k x below. is_false (open_shade c o (get_or s.objects k x)) (λ opens.
                let y : Object F I = get_or s.objects k x in
                let parts = and_parts (has_shadow o y.body) (not (is_alive s y.id) && not (plain c y.id)) opens in
                let ends = and_parts (not (is_alive s y.id)) (not (plain c y.id)) parts.1 in
                let is = left_shades o none k x below parts.0 in
                false≢true (sym (not_true (plain c y.id) ends.1) ∙ plain_done k x below o parts.0 c ∙ either y.id (touched y.id) refl is.0 is.1)))
              where
                either : (n : ℕ) (e : Bool) → touched n ≡ e → is_alive s n ≡ false → D n ≡ true → done c n ≡ true
                either n true f gone turned = sym (touched_as n f) ∙ turned
                either n false f gone turned = back n f gone turned

    -- the shadow of what is left was its shadow at first
    shadow_back : (o d : ℕ) → shadow_of t o ≡ Some d → shadow_of s o ≡ Some d
    shadow_back o d is = go (find (λ x. x.id == o) t.objects) refl is
      where
        each : All (λ x. shadow_of s x.id ≡ shadow_in x.body) t.objects
        each = subst (λ (xs : List (Object F I)). All (λ x. shadow_of s x.id ≡ shadow_in x.body) xs) (sym judged.objects) (All-filter keeps_object (λ x. shadow_of s x.id ≡ shadow_in x.body) s.objects (own_shadow idle s orderly sound))

        go : (x : Option (Object F I)) → find (λ y. y.id == o) t.objects ≡ x → option_and_then shadow_in (option_map (λ y. y.body) x) ≡ Some d → shadow_of s o ≡ Some d
        go None e h = cc
        go (Some x) e h =
            ap (shadow_of s) (sym (eqb-true x.id o (found_passes (λ y. y.id == o) t.objects x e))) ∙ all_found (λ y. shadow_of s y.id ≡ shadow_in y.body) (λ y. y.id == o) t.objects x each e ∙ h

    shadow_same : (o : ℕ) → D o ≡ false → shadow_of t o ≡ shadow_of s o
    shadow_same o new = ap (λ (x : Option (Object F I)). option_and_then shadow_in (option_map (λ y. y.body) x)) (found_left g s D t judged o new)

    shadow_left_is : (o d : ℕ) → shadow_left t o ≡ Some d → shadow_of s o ≡ Some d
    shadow_left_is o d is = go (is_held_up (without_names t o) o) is
      where
        go : (c : Bool) → cond c None (shadow_of t o) ≡ Some d → shadow_of s o ≡ Some d
        go true h = cc
        go false h = shadow_back o d h

  -- ---- before the first turn

  module _ (b : ℕ) (above : (o : ℕ) → o < s.next_id → touched o ≡ true → o < b) where
    abbrev at_first : (ℕ → Bool) → ℕ → Bool
    at_first at o = done b o && not (at o)

    -- no name that goes is one of an object whose turn was
    early : All (λ r. is_kept s r ≡ false → nat_le b r.object ≡ false) s.rows
    early k x below gone = not_above b (get_or s.rows k x).object (above (get_or s.rows k x).object (row_drawn k x below) (gone_touched k x below gone))

    module _ (at : ℕ → Bool) (covers : (o : ℕ) → touched o ≡ false → at o ≡ false → map ≡ Some o → ⊥)
        (shaded : All (λ x. (o : ℕ) → touched o ≡ false → has_shadow o x.body ≡ true → is_alive s x.id ≡ false → touched x.id ≡ false → map ≡ Some x.id → at o ≡ true) s.objects) where
      -- an object that isn't touched, and isn't the map, stays where it holds no name that goes, and is no shadow
      rows_stay : All (λ x. touched x.id ≡ false → (map ≡ Some x.id → ⊥) → list_any (open_row b x.id) s.rows ≡ false → is_shadow s.objects x.id ≡ false → is_alive s x.id ≡ true) s.objects
      rows_stay k x below free out closed unshaded =
          alive_from_itself s o
          (stays_up ((o == root_id) || has_handle s o || is_pinned s o || is_mapped s o || (is_permanent s o && has_name s o)) (list_any (λ r. r.directory == o) s.rows) (holds_kept s o)
          (list_any_weaker (λ r. r.directory == o) (λ r. (r.directory == o) && is_kept s r) s.rows each)
          (sym (or_false (is_root || list_any (λ r. r.directory == o) s.rows)) ∙ (λ i. (is_root || list_any (λ r. r.directory == o) s.rows) || (sym unshaded) i) ∙ stays.objects k x below free out))
        where
          o : ℕ
          o = (get_or s.objects k x).id

          is_root : Bool
          is_root = (o == root_id) || has_handle s o || is_pinned s o || is_mapped s o || (is_permanent s o && has_name s o)

          each : All (λ r. (r.directory == o) ≡ true → ((r.directory == o) && is_kept s r) ≡ true) s.rows
          each j y within here =
              and_from (r.directory == o) (is_kept s r) here (not_false (is_kept s r) (λ gone.
              false≢true (sym (none_pass (open_row b o) s.rows closed j y within)
              ∙ and_from (r.directory == o) (not (is_kept s r) && not (nat_le b r.object)) here
              (and_from (not (is_kept s r)) (not (nat_le b r.object)) (ap not gone) (ap not (early j y within gone))))))
            where
              r : Row
              r = get_or s.rows j y

      -- a directory with a shadow stays where it is done with, but a map
      shade_stays : All (λ y. (o : ℕ) → has_shadow o y.body ≡ true → (map ≡ Some y.id → ⊥) → plain b y.id ≡ true → is_alive s y.id ≡ true) s.objects
      shade_stays j y within o has out ready = go (touched (get_or s.objects j y).id) refl
        where
          n : ℕ
          n = (get_or s.objects j y).id

          go : (c : Bool) → touched n ≡ c → is_alive s n ≡ true
          go true e = absurd (false≢true (sym (not_above b n (above n (orderly.drawn j y within) e)) ∙ sym (plain_touched b n e) ∙ ready))
          go false e =
              rows_stay j y within e out (not_true (list_any (open_row b n) s.rows) (sym (plain_other b n e) ∙ ready))
              (none_any (λ z. has_shadow n z.body) s.objects (unshaded idle s orderly sound j y within o has))

      untouched_stays : All (λ x. touched x.id ≡ false → at x.id ≡ false → done b x.id ≡ true → is_alive s x.id ≡ true) s.objects
      untouched_stays k x below free out ready = go (is_shadow s.objects (get_or s.objects k x).id) refl
        where
          o : ℕ
          o = (get_or s.objects k x).id

          go : (c : Bool) → is_shadow s.objects o ≡ c → is_alive s o ≡ true
          go false none = rows_stay k x below free (covers o free out) (done_closed b o free ready).0 none
          go true some = not_false (is_alive s o) (λ dead.
              false≢true (sym (none_any (λ y. has_shadow o y.body) s.objects (λ j y within. is_false (has_shadow o (get_or s.objects j y).body) (λ has. no_shade j y within has dead))) ∙ some))
            where
              no_shade : (j : ℕ) (y : Object F I) → j < length s.objects → has_shadow o (get_or s.objects j y).body ≡ true → is_alive s o ≡ false → ⊥
              no_shade j y within has dead = by_map (at_option map n) refl
                where
                  n : ℕ
                  n = (get_or s.objects j y).id

                  gone : is_alive s n ≡ false
                  gone = is_false (is_alive s n) (λ yes. false≢true (sym dead ∙ living_shadow idle s orderly sound j y within o has yes))

                  turned : plain b n ≡ true
                  turned = not_false (plain b n) (λ yet.
                      false≢true (sym (none_pass (open_shade b o) s.objects (done_closed b o free ready).1 j y within)
                      ∙ and_from (has_shadow o (get_or s.objects j y).body) (not (is_alive s n) && not (plain b n)) has (and_from (not (is_alive s n)) (not (plain b n)) (ap not gone) (ap not yet))))

                  alone : touched n ≡ false
                  alone = is_false (touched n) (λ e. false≢true (sym (not_above b n (above n (orderly.drawn j y within) e)) ∙ sym (plain_touched b n e) ∙ turned))

                  by_map : (c : Bool) → at_option map n ≡ c → ⊥
                  by_map true is = false≢true (sym out ∙ shaded j y within o free has gone alone (at_is map n is))
                  by_map false apart = false≢true (sym gone ∙ shade_stays j y within o has (λ is. false≢true (sym apart ∙ is_at map n is)) turned)

      started : Judged g s (at_first at) s
      started =
          none_judged g s (at_first at)
          (λ k x below. or_all (is_alive s (get_or s.objects k x).id) (not (at_first at (get_or s.objects k x).id))
          (λ dead. ap not (is_false (at_first at (get_or s.objects k x).id) (λ yes. object k x below dead (and_parts (done b (get_or s.objects k x).id) (not (at (get_or s.objects k x).id)) yes)))))
          (λ k x below. or_all (is_kept s (get_or s.rows k x)) (not (at_first at (get_or s.rows k x).object))
          (λ gone. ap (λ c. not (c && not (at (get_or s.rows k x).object))) (done_touched b (get_or s.rows k x).object (gone_touched k x below gone) ∙ early k x below gone)))
        where
          object : (k : ℕ) (x : Object F I) → k < length s.objects → is_alive s (get_or s.objects k x).id ≡ false
              → (done b (get_or s.objects k x).id ≡ true) × (not (at (get_or s.objects k x).id) ≡ true) → ⊥
          object k x below dead parts = go (touched o) refl
            where
              o : ℕ
              o = (get_or s.objects k x).id

              go : (c : Bool) → touched o ≡ c → ⊥
              go true e = false≢true (sym (done_touched b o e ∙ not_above b o (above o (orderly.drawn k x below) e)) ∙ parts.0)
              go false e = false≢true (sym dead ∙ untouched_stays k x below e (not_true (at o) parts.1) parts.0)

    -- where the map is none, or has its own turn
    without_map : ((o : ℕ) → touched o ≡ false → map ≡ Some o → ⊥) → Judged g s (done b) s
    without_map covers =
        alike (at_first (λ o. false)) (done b) s (λ o. and_true (done b o))
        (started (λ o. false) (λ o free _. covers o free) (λ k x below o alone has dead free is. absurd (covers (get_or s.objects k x).id free is)))

    pub no_map : map ≡ None → Judged g s (done b) s
    no_map none = without_map (λ o free is. let no : None ≡ Some o = sym none ∙ is in cc)

    -- where the map is settled first, and then its shadow where it went
    module _ (m : ℕ) (is : map ≡ Some m) where
      same_map : (o : ℕ) → map ≡ Some o → m ≡ o
      same_map o it = let both : Some m ≡ Some o = sym is ∙ it in cc

      directory_m : is_directory s m ≡ true
      directory_m = subst (λ (o : Option ℕ). MatchOption o (Unit {0}) (IsDirectory s)) is stays.directory

      module _ (free : touched m ≡ false) where
        abbrev out : ℕ → Bool
        out o = not (touched o) && ((m == o) || at_option (shadow_of s m) o)

        covered : (o : ℕ) → touched o ≡ false → out o ≡ false → map ≡ Some o → ⊥
        covered o alone apart it =
            false≢true (sym apart ∙ (λ i. not (alone i) && ((m == o) || at_option (shadow_of s m) o)) ∙ or_first (m == o) (at_option (shadow_of s m) o) (eq-eqb m o (same_map o it)))

        shaded_out : All (λ x. (o : ℕ) → has_shadow o x.body ≡ true → is_alive s x.id ≡ false → touched x.id ≡ false → map ≡ Some x.id → touched o ≡ false → out o ≡ true) s.objects
        shaded_out k x below o has dead alone it free_o =
            (λ i. not (free_o i) && ((m == o) || at_option (shadow_of s m) o))
            ∙ or_right (m == o) (at_option (shadow_of s m) o)
            (is_at (shadow_of s m) o (ap (shadow_of s) (same_map (get_or s.objects k x).id it) ∙ own_shadow idle s orderly sound k x below ∙ shadow_is o (get_or s.objects k x).body has))

        abbrev D0 : ℕ → Bool
        D0 o = at_first out o

        start : Judged g s D0 s
        start = started out covered (λ k x below o free_o has dead alone it. shaded_out k x below o has dead alone it free_o)

        abbrev M1 : ℕ → Bool
        M1 o = opt_done D0 s start (Some m) o

        abbrev u1 : State K T F I
        u1 = settled_unless g touched s m

        map_judged : Judged g s M1 u1
        map_judged = opt_judged D0 s start (Some m) (λ d e. let same : m ≡ d = cc in ap (is_directory s) (sym same) ∙ directory_m)

        abbrev mM : Option ℕ
        mM = shadow_left_unless touched s m

        abbrev M2 : ℕ → Bool
        M2 o = opt_done M1 u1 map_judged mM o

        shadow_judged : Judged g s M2 (with_shadow_settled g touched u1 mM)
        shadow_judged = opt_judged M1 u1 map_judged mM (λ d e. shadow_directory idle s orderly sound m d (shadow_left_is D0 s start m d (sym (ap (λ c. cond c None (shadow_left s m)) free) ∙ e)))

        map_touched0 : (o : ℕ) → touched o ≡ true → D0 o ≡ done b o
        map_touched0 o e = (λ i. done b o && not (not (e i) && ((m == o) || at_option (shadow_of s m) o))) ∙ and_true (done b o)

        map_touched1 : (o : ℕ) → touched o ≡ true → M1 o ≡ done b o
        map_touched1 o e = opt_same D0 s start (Some m) o e ∙ map_touched0 o e

        map_touched2 : (o : ℕ) → touched o ≡ true → M2 o ≡ done b o
        map_touched2 o e = opt_same M1 u1 map_judged mM o e ∙ map_touched1 o e

        map_back1 : (o : ℕ) → touched o ≡ false → is_alive s o ≡ false → M1 o ≡ true → done b o ≡ true
        map_back1 = opt_back D0 s start b map_touched0 (λ o alone dead h. (and_parts (done b o) (not (out o)) h).0) (Some m)

        map_back2 : (o : ℕ) → touched o ≡ false → is_alive s o ≡ false → M2 o ≡ true → done b o ≡ true
        map_back2 = opt_back M1 u1 map_judged b map_touched1 map_back1 mM

        -- no name that goes lies in what is done with
        no_rows : (n : ℕ) (D : ℕ → Bool) → list_any (open_row b n) s.rows ≡ false → All (λ r. (r.directory == n) ≡ true → is_kept s r ≡ false → D r.object ≡ true) s.rows
        no_rows n D closed k x below here gone =
            let r : Row = get_or s.rows k x in
            absurd (false≢true (sym (none_pass (open_row b n) s.rows closed k x below)
            ∙ and_from (r.directory == n) (not (is_kept s r) && not (nat_le b r.object)) here (and_from (not (is_kept s r)) (not (nat_le b r.object)) (ap not gone) (ap not (early k x below gone)))))

        -- a directory with a shadow that goes and is done with is the map
        only_map : All (λ x. (o : ℕ) → has_shadow o x.body ≡ true → is_alive s x.id ≡ false → plain b x.id ≡ true → m ≡ x.id) s.objects
        only_map k x below o has dead ready =
            same_map (get_or s.objects k x).id (at_is map (get_or s.objects k x).id (not_false (at_option map (get_or s.objects k x).id) (λ apart.
            false≢true (sym dead
            ∙ shade_stays out covered (λ j y within n free_n it gone alone on. shaded_out j y within n it gone alone on free_n) k x below o has
            (λ on. false≢true (sym apart ∙ is_at map (get_or s.objects k x).id on)) ready))))

        map_forward : (o : ℕ) → touched o ≡ false → is_alive s o ≡ false → done b o ≡ true → M2 o ≡ true
        map_forward o alone dead ready = go (m == o) refl (at_option (shadow_of s m) o) refl
          where
            closed : (list_any (open_row b o) s.rows ≡ false) × (list_any (open_shade b o) s.objects ≡ false)
            closed = done_closed b o alone ready

            shade_ready : All (λ x. has_shadow o x.body ≡ true → is_alive s x.id ≡ false → plain b x.id ≡ true) s.objects
            shade_ready k x below has gone = not_false (plain b (get_or s.objects k x).id) (λ yet.
                false≢true (sym (none_pass (open_shade b o) s.objects closed.1 k x below)
                ∙ and_from (has_shadow o (get_or s.objects k x).body) (not (is_alive s (get_or s.objects k x).id) && not (plain b (get_or s.objects k x).id)) has
                (and_from (not (is_alive s (get_or s.objects k x).id)) (not (plain b (get_or s.objects k x).id)) (ap not gone) (ap not yet))))

            go : (c : Bool) → (m == o) ≡ c → (e : Bool) → at_option (shadow_of s m) o ≡ e → M2 o ≡ true
            go true own e f =
                or_first (M1 o) _
                (opt_now D0 s start (Some m) o own alone (not_left D0 s start o dead (no_rows o D0 closed.0)
                (λ k x below has gone. absurd (omega (arith, (fit idle s orderly sound k x below o has).1, eqb-true m o own, only_map k x below o has gone (shade_ready k x below has gone))))))
            go false apart true f = opt_now M1 u1 map_judged mM o (is_at mM o shadow_m) alone (not_left M1 u1 map_judged o dead (no_rows o M1 closed.0) (λ k x below has gone. map_done k x below has gone))
              where
                is_shadow_m : shadow_of s m ≡ Some o
                is_shadow_m = at_is (shadow_of s m) o f

                -- what holds of each directory with this shadow holds of the map
                of_map : (P : ℕ → Type 0) → All (λ x. has_shadow o x.body ≡ true → P x.id) s.objects → P m
                of_map P all = by (find (λ x. x.id == m) s.objects) refl is_shadow_m
                  where
                    by : (x : Option (Object F I)) → find (λ y. y.id == m) s.objects ≡ x → option_and_then shadow_in (option_map (λ y. y.body) x) ≡ Some o → P m
                    by None e h = cc
                    by (Some x) e h =
                        subst P (eqb-true x.id m (found_passes (λ y. y.id == m) s.objects x e))
                        (all_found (λ y. has_shadow o y.body ≡ true → P y.id) (λ y. y.id == m) s.objects x all e (is_at (shadow_in x.body) o h))

                dead_m : is_alive s m ≡ false
                dead_m = is_false (is_alive s m) (λ yes.
                    false≢true (sym dead ∙ of_map (λ n. is_alive s n ≡ true → is_alive s o ≡ true) (λ k x below has. living_shadow idle s orderly sound k x below o has) yes))

                plain_m : plain b m ≡ true
                plain_m = of_map (λ n. is_alive s n ≡ false → plain b n ≡ true) shade_ready dead_m

                none_m : left_by s m ≡ false
                none_m =
                    not_left D0 s start m dead_m (no_rows m D0 (not_true _ (sym (plain_other b m free) ∙ plain_m)))
                    (λ k x below has gone. absurd (false≢true (sym (of_map (λ n. has_shadow n (get_or s.objects k x).body ≡ false) (λ j y within it. unshaded idle s orderly sound j y within o it k x below)) ∙ has)))

                unjudged : D0 m ≡ false
                unjudged = (λ i. done b m && not (not (free i) && ((eq-eqb m m refl) i || at_option (shadow_of s m) m))) ∙ and_false (done b m)

                shadow_m : mM ≡ Some o
                shadow_m =
                    ap (λ c. cond c None (shadow_left s m)) free
                    ∙ ap (λ c. cond c None (shadow_of s m)) (held_now D0 s start m free directory_m none_m unjudged ∙ dead_m) ∙ is_shadow_m

                map_done : All (λ x. has_shadow o x.body ≡ true → is_alive s x.id ≡ false → M1 x.id ≡ true) s.objects
                map_done k x below has gone =
                    subst (λ n. M1 n ≡ true) (only_map k x below o has gone (shade_ready k x below has gone)) (opt_now D0 s start (Some m) m (eq-eqb m m refl) free none_m)
            go false apart false f =
                or_first (M1 o) _ (or_first (D0 o) _ (and_from (done b o) (not (out o)) ready (λ i. not (not (alone i) && (apart i || f i)))))

        map_then : Judged g s (done b) (with_shadow_settled g touched u1 mM)
        map_then = judged_alike g s M2 (done b) (with_shadow_settled g touched u1 mM) (λ k x below. object (get_or s.objects k x).id) (λ k x below. name k x below) shadow_judged
          where
            object : (o : ℕ) → (is_alive s o || not (M2 o)) ≡ (is_alive s o || not (done b o))
            object o = go (is_alive s o) refl (touched o) refl
              where
                go : (a : Bool) → is_alive s o ≡ a → (c : Bool) → touched o ≡ c → (is_alive s o || not (M2 o)) ≡ (is_alive s o || not (done b o))
                go true alive c e = stays_alike (is_alive s o) (not (M2 o)) (not (done b o)) alive
                go false dead true e = ap (λ p. is_alive s o || not p) (map_touched2 o e)
                go false dead false e = ap (λ p. is_alive s o || not p) (same_tests (M2 o) (done b o) (map_back2 o e dead) (map_forward o e dead))

            name : All (λ r. (is_kept s r || not (M2 r.object)) ≡ (is_kept s r || not (done b r.object))) s.rows
            name k x below = go (is_kept s (get_or s.rows k x)) refl
              where
                go : (c : Bool) → is_kept s (get_or s.rows k x) ≡ c
                    → (is_kept s (get_or s.rows k x) || not (M2 (get_or s.rows k x).object)) ≡ (is_kept s (get_or s.rows k x) || not (done b (get_or s.rows k x).object))
                go true kept = stays_alike (is_kept s (get_or s.rows k x)) (not (M2 (get_or s.rows k x).object)) (not (done b (get_or s.rows k x).object)) kept
                go false gone = ap (λ c. is_kept s (get_or s.rows k x) || not c) (map_touched2 (get_or s.rows k x).object (gone_touched k x below gone))

      pub map_settled : (u : State K T F I) → u ≡ with_shadow_settled g touched (settled_unless g touched s m) (shadow_left_unless touched s m) → Judged g s (done b) u
      map_settled u left = go (touched m) refl
        where
          go : (c : Bool) → touched m ≡ c → Judged g s (done b) u
          go true e =
              subst (Judged g s (done b)) (sym (left ∙ (λ i. with_shadow_settled g touched (cond (e i) s (settled_one g s m)) (cond (e i) None (shadow_left s m)))))
              (without_map (λ o alone it. false≢true (sym alone ∙ ap touched (sym (same_map o it)) ∙ e)))
          go false e = subst (Judged g s (done b)) (sym left) (map_then e)

  -- ---- one turn

  module _ (b id : ℕ) (is_touched : touched id ≡ true) (less : id < b) (last : (o : ℕ) → touched o ≡ true → o < b → o ≤ id) (t : State K T F I) (judged : Judged g s (done b) t) where
    abbrev next : ℕ → Bool
    next o = done b o || (o == id)

    new : done b id ≡ false
    new = done_touched b id is_touched ∙ not_above b id less

    plain_behind : (o : ℕ) → id < o → plain b o ≡ true
    plain_behind o later = go (touched o) refl
      where
        go : (c : Bool) → touched o ≡ c → plain b o ≡ true
        go true e = plain_touched b o e ∙ not_false (nat_le b o) (λ early. omega (arith, later, last o e (leb-false b o early)))
        go false e =
            plain_other b o e
            ∙ ap not (none_any (open_row b o) s.rows (λ k x below. is_false (open_row b o (get_or s.rows k x)) (λ opens.
            let r : Row = get_or s.rows k x in
            let parts = and_parts (r.directory == o) (not (is_kept s r) && not (nat_le b r.object)) opens in
            let ends = and_parts (not (is_kept s r)) (not (nat_le b r.object)) parts.1 in
            let lower = last r.object (gone_touched k x below (not_true (is_kept s r) ends.0)) (below_bound b r.object ends.1) in
            omega (arith, later, lower, eqb-true r.directory o parts.0, orderly.descending k x below))))

    behind : (o : ℕ) → id < o → done b o ≡ true
    behind o later = go (touched o) refl
      where
        go : (c : Bool) → touched o ≡ c → done b o ≡ true
        go true e = done_touched b o e ∙ not_false (nat_le b o) (λ early. omega (arith, later, last o e (leb-false b o early)))
        go false e =
            closed_done b o e (not_true (list_any (open_row b o) s.rows) (sym (plain_other b o e) ∙ plain_behind o later))
            (none_any (open_shade b o) s.objects (λ k x below. is_false (open_shade b o (get_or s.objects k x)) (λ opens.
            let y : Object F I = get_or s.objects k x in
            let parts = and_parts (has_shadow o y.body) (not (is_alive s y.id) && not (plain b y.id)) opens in
            let ends = and_parts (not (is_alive s y.id)) (not (plain b y.id)) parts.1 in
            let above = (fit idle s orderly sound k x below o parts.0).1 in
            false≢true (sym (not_true (plain b y.id) ends.1) ∙ plain_behind y.id (omega (arith, later, above))))))

    within : All (λ r. (r.directory == id) ≡ true → (is_kept s r || (done b r.object || (r.object == id))) ≡ true) s.rows
    within k x below here = or_all (is_kept s r) (done b r.object || (r.object == id)) (λ gone.
        ap (λ c. c || (r.object == id)) (done_touched b r.object (gone_touched k x below gone) ∙ not_false (nat_le b r.object) (λ early.
        omega (arith, last r.object (gone_touched k x below gone) (leb-false b r.object early), eqb-true r.directory id here, orderly.descending k x below))))
      where
        r : Row
        r = get_or s.rows k x

    shadowed : All (λ x. has_shadow id x.body ≡ true → ((is_alive s x.id || done b x.id) ≡ true) × (is_shadowing s x.id ≡ false)) s.objects
    shadowed k x below has = (
      or_right (is_alive s (get_or s.objects k x).id) (done b (get_or s.objects k x).id) (behind (get_or s.objects k x).id ((fit idle s orderly sound k x below id has).1)),
      unshadowing idle s orderly sound k x below id has,
    )

    there : All (λ x. (is_alive s x.id || not (done b x.id)) ≡ true) t.objects
    there = subst (λ (xs : List (Object F I)). All (λ x. (is_alive s x.id || not (done b x.id)) ≡ true) xs) (sym judged.objects) (all_pass (λ x. is_alive s x.id || not (done b x.id)) s.objects)

    first : Judged g s next (settled_one g t id)
    first =
        one_judged g s (done b) t judged id new within shadowed
        (greatest_first g s (done b) t judged id orderly.rising (λ k x below later.
        left_stays (is_alive s (get_or t.objects k x).id) (done b (get_or t.objects k x).id) (there k x below) (behind (get_or t.objects k x).id later)))

    held_as : is_held_up (without_names t id) id ≡ is_alive s id
    held_as =
        held_same g s (done b) t judged id new within shadowed
        (greatest_first g s (done b) t judged id orderly.rising (λ k x below later.
        left_stays (is_alive s (get_or t.objects k x).id) (done b (get_or t.objects k x).id) (there k x below) (behind (get_or t.objects k x).id later)))

    touched_next : (o : ℕ) → touched o ≡ true → next o ≡ done id o
    touched_next o e = ap (λ c. c || (o == id)) (done_touched b o e) ∙ turn_next b id o less (last o e) ∙ sym (done_touched id o e)

    -- a name that goes and isn't open any more is one of the object
    now_own : All (λ r. (o : ℕ) → (r.directory == o) ≡ true → is_kept s r ≡ false → nat_le b r.object ≡ false → list_any (open_row id o) s.rows ≡ false → (r.object == id) ≡ true) s.rows
    now_own k x below o here gone before closed =
        let r : Row = get_or s.rows k x in
        let late : nat_le id r.object ≡ true = not_false (nat_le id r.object) (λ early.
        false≢true (sym (none_pass (open_row id o) s.rows closed k x below)
        ∙ and_from (r.directory == o) (not (is_kept s r) && not (nat_le id r.object)) here (and_from (not (is_kept s r)) (not (nat_le id r.object)) (ap not gone) (ap not early)))) in
        let most = last r.object (gone_touched k x below gone) (leb-false b r.object before) in
        eq-eqb r.object id (omega (arith, leb-true id r.object late, most))

    row_ready : (o : ℕ) → list_any (open_row id o) s.rows ≡ false → All (λ r. (r.directory == o) ≡ true → is_kept s r ≡ false → next r.object ≡ true) s.rows
    row_ready o closed k x below here gone =
        let r : Row = get_or s.rows k x in
        let it : touched r.object ≡ true = gone_touched k x below gone in
        touched_next r.object it ∙ done_touched id r.object it ∙ not_false (nat_le id r.object) (λ early.
        false≢true (sym (none_pass (open_row id o) s.rows closed k x below)
        ∙ and_from (r.directory == o) (not (is_kept s r) && not (nat_le id r.object)) here (and_from (not (is_kept s r)) (not (nat_le id r.object)) (ap not gone) (ap not early))))

    lower : id ≤ b
    lower = omega (arith, less)

    next_back : (o : ℕ) → touched o ≡ false → is_alive s o ≡ false → next o ≡ true → done id o ≡ true
    next_back o free dead h = go (done b o) refl h
      where
        go : (c : Bool) → done b o ≡ c → (c || (o == id)) ≡ true → done id o ≡ true
        go true e h = done_lower b id lower o e
        go false e h = absurd (false≢true (sym free ∙ ap touched (eqb-true o id h) ∙ is_touched))

    -- the directory of its name, where it has one, and then the shadows of both, where they went
    module _ (mP : Option ℕ) (directory_P : (d : ℕ) → mP ≡ Some d → is_directory s d ≡ true) (names : All (λ r. (r.object == id) ≡ true → mP ≡ Some r.directory) s.rows)
        (mU : Option ℕ) (is_mU : mU ≡ option_and_then (shadow_left_unless touched (settled_one g t id)) mP) where
      abbrev t1 : State K T F I
      t1 = settled_one g t id

      abbrev N1 : ℕ → Bool
      N1 o = opt_done next t1 first mP o

      abbrev t2 : State K T F I
      t2 = with_shadow_settled g touched t1 mP

      judged1 : Judged g s N1 t2
      judged1 = opt_judged next t1 first mP directory_P

      abbrev mS : Option ℕ
      mS = shadow_left t id

      abbrev N2 : ℕ → Bool
      N2 o = opt_done N1 t2 judged1 mS o

      abbrev t3 : State K T F I
      t3 = with_shadow_settled g touched t2 mS

      judged2 : Judged g s N2 t3
      judged2 = opt_judged N1 t2 judged1 mS (λ d e. shadow_directory idle s orderly sound id d (shadow_left_is (done b) t judged id d e))

      abbrev N3 : ℕ → Bool
      N3 o = opt_done N2 t3 judged2 mU o

      abbrev t4 : State K T F I
      t4 = with_shadow_settled g touched t3 mU

      judged3 : Judged g s N3 t4
      judged3 = opt_judged N2 t3 judged2 mU (λ d e. go d mP (sym is_mU ∙ e))
        where
          left : (p d : ℕ) (c : Bool) → cond c None (shadow_left t1 p) ≡ Some d → is_directory s d ≡ true
          left p d true h = cc
          left p d false h = shadow_directory idle s orderly sound p d (shadow_left_is next t1 first p d h)

          go : (d : ℕ) (m : Option ℕ) → option_and_then (shadow_left_unless touched t1) m ≡ Some d → is_directory s d ≡ true
          go d None h = cc
          go d (Some p) h = left p d (touched p) h

      touched1 : (o : ℕ) → touched o ≡ true → N1 o ≡ done id o
      touched1 o e = opt_same next t1 first mP o e ∙ touched_next o e

      touched2 : (o : ℕ) → touched o ≡ true → N2 o ≡ done id o
      touched2 o e = opt_same N1 t2 judged1 mS o e ∙ touched1 o e

      touched3 : (o : ℕ) → touched o ≡ true → N3 o ≡ done id o
      touched3 o e = opt_same N2 t3 judged2 mU o e ∙ touched2 o e

      back1 : (o : ℕ) → touched o ≡ false → is_alive s o ≡ false → N1 o ≡ true → done id o ≡ true
      back1 = opt_back next t1 first id touched_next next_back mP

      back2 : (o : ℕ) → touched o ≡ false → is_alive s o ≡ false → N2 o ≡ true → done id o ≡ true
      back2 = opt_back N1 t2 judged1 id touched1 back1 mS

      back3 : (o : ℕ) → touched o ≡ false → is_alive s o ≡ false → N3 o ≡ true → done id o ≡ true
      back3 = opt_back N2 t3 judged2 id touched2 back2 mU

      -- what isn't open any more, and was, is the directory of the name
      plain_step : (o : ℕ) → touched o ≡ false → plain b o ≡ false → plain id o ≡ true → at_option mP o ≡ true
      plain_step o free before after = not_false (at_option mP o) (λ apart.
          false≢true (sym before ∙ plain_other b o free
          ∙ ap not (none_any (open_row b o) s.rows (λ k x below. is_false (open_row b o (get_or s.rows k x)) (λ opens.
          let r : Row = get_or s.rows k x in
          let parts = and_parts (r.directory == o) (not (is_kept s r) && not (nat_le b r.object)) opens in
          let ends = and_parts (not (is_kept s r)) (not (nat_le b r.object)) parts.1 in
          let own = now_own k x below o parts.0 (not_true (is_kept s r) ends.0) (not_true (nat_le b r.object) ends.1) (not_true (list_any (open_row id o) s.rows) (sym (plain_other id o free) ∙ after)) in
          false≢true (sym apart ∙ is_at mP o (names k x below own ∙ ap Some (eqb-true r.directory o parts.0))))))))

      -- nothing is left in a directory with a shadow that goes and is done with
      plain_left : All (λ x. (o : ℕ) → has_shadow o x.body ≡ true → is_alive s x.id ≡ false → touched x.id ≡ false → plain id x.id ≡ true → left_by t1 x.id ≡ false) s.objects
      plain_left k x below o has dead free after =
          not_left next t1 first (get_or s.objects k x).id dead (row_ready (get_or s.objects k x).id (not_true _ (sym (plain_other id (get_or s.objects k x).id free) ∙ after)))
          (λ j y within it gone. absurd (false≢true (sym (unshaded idle s orderly sound k x below o has j y within) ∙ it)))

      plain_N1 : All (λ x. (o : ℕ) → has_shadow o x.body ≡ true → is_alive s x.id ≡ false → plain id x.id ≡ true → N1 x.id ≡ true) s.objects
      plain_N1 k x below o has dead after = go (touched n) refl (plain b n) refl
        where
          n : ℕ
          n = (get_or s.objects k x).id

          go : (c : Bool) → touched n ≡ c → (p : Bool) → plain b n ≡ p → N1 n ≡ true
          go true e p f = touched1 n e ∙ sym (plain_done k x below o has id) ∙ after
          go false e true f = or_first (next n) _ (or_first (done b n) (n == id) (sym (plain_done k x below o has b) ∙ f))
          go false e false f = opt_now next t1 first mP n (plain_step n e f after) e (plain_left k x below o has dead e after)

      forward : (o : ℕ) → touched o ≡ false → is_alive s o ≡ false → done id o ≡ true → N3 o ≡ true
      forward o free dead ready = go (done b o) refl (at_option mP o) refl (at_option mS o) refl (at_option mU o) refl
        where
          closed : (list_any (open_row id o) s.rows ≡ false) × (list_any (open_shade id o) s.objects ≡ false)
          closed = done_closed id o free ready

          shade_ready : All (λ x. has_shadow o x.body ≡ true → is_alive s x.id ≡ false → plain id x.id ≡ true) s.objects
          shade_ready k x below has gone = not_false (plain id (get_or s.objects k x).id) (λ yet.
              false≢true (sym (none_pass (open_shade id o) s.objects closed.1 k x below)
              ∙ and_from (has_shadow o (get_or s.objects k x).body) (not (is_alive s (get_or s.objects k x).id) && not (plain id (get_or s.objects k x).id)) has
              (and_from (not (is_alive s (get_or s.objects k x).id)) (not (plain id (get_or s.objects k x).id)) (ap not gone) (ap not yet))))

          shades1 : All (λ x. has_shadow o x.body ≡ true → is_alive s x.id ≡ false → N1 x.id ≡ true) s.objects
          shades1 k x below has gone = plain_N1 k x below o has gone (shade_ready k x below has gone)

          shades0 : at_option mP o ≡ true → All (λ x. has_shadow o x.body ≡ true → is_alive s x.id ≡ false → next x.id ≡ true) s.objects
          shades0 here k x below has gone = only (next n) (at_option mP n && (not (touched n) && not (left_by t1 n))) (ap (λ c. c && (not (touched n) && not (left_by t1 n))) apart) (shades1 k x below has gone)
            where
              n : ℕ
              n = (get_or s.objects k x).id

              only : (p q : Bool) → q ≡ false → (p || q) ≡ true → p ≡ true
              only true q e h = refl
              only false q e h = absurd (false≢true (sym e ∙ h))

              apart : at_option mP n ≡ false
              apart = is_false (at_option mP n) (λ yes.
                  let both : Some o ≡ Some n = sym (at_is mP o here) ∙ at_is mP n yes in
                  let same : o ≡ n = cc in
                  omega (arith, (fit idle s orderly sound k x below o has).1, same))

          in1 : N1 o ≡ true → N3 o ≡ true
          in1 h = or_first (N2 o) _ (or_first (N1 o) _ h)

          rows1 : All (λ r. (r.directory == o) ≡ true → is_kept s r ≡ false → N1 r.object ≡ true) s.rows
          rows1 k x below here gone = or_first (next (get_or s.rows k x).object) _ (row_ready o closed.0 k x below here gone)

          go : (e : Bool) → done b o ≡ e → (p : Bool) → at_option mP o ≡ p → (q : Bool) → at_option mS o ≡ q → (r : Bool) → at_option mU o ≡ r → N3 o ≡ true
          go true e p f q h r i = in1 (or_first (next o) _ (or_first (done b o) (o == id) e))
          go false e true f q h r i = in1 (opt_now next t1 first mP o f free (not_left next t1 first o dead (row_ready o closed.0) (shades0 f)))
          go false e false f true h r i = or_first (N2 o) _ (opt_now N1 t2 judged1 mS o h free (not_left N1 t2 judged1 o dead rows1 shades1))
          go false e false f false h true i =
              opt_now N2 t3 judged2 mU o i free
              (not_left N2 t3 judged2 o dead (λ k x below here gone. or_first (N1 (get_or s.rows k x).object) _ (rows1 k x below here gone))
              (λ k x below has gone. or_first (N1 (get_or s.objects k x).id) _ (shades1 k x below has gone)))
          go false e false f false h false i = absurd (false≢true (sym e ∙ closed_done b o free rows shades))
            where
              rows : list_any (open_row b o) s.rows ≡ false
              rows = not_true _ (sym (plain_other b o free) ∙ not_false (plain b o) (λ before. false≢true (sym f ∙ plain_step o free before (plain_other id o free ∙ ap not closed.0))))

              one_shade : (k : ℕ) (x : Object F I) → k < length s.objects → has_shadow o (get_or s.objects k x).body ≡ true → is_alive s (get_or s.objects k x).id ≡ false
                  → plain b (get_or s.objects k x).id ≡ false → ⊥
              one_shade k x below has gone before = by (touched n) refl
                where
                  n : ℕ
                  n = (get_or s.objects k x).id

                  after : plain id n ≡ true
                  after = shade_ready k x below has gone

                  shadow_n : shadow_of s n ≡ Some o
                  shadow_n = own_shadow idle s orderly sound k x below ∙ shadow_is o (get_or s.objects k x).body has

                  by : (c : Bool) → touched n ≡ c → ⊥
                  by true it =
                      let most = last n it (leb-false b n (sym (plain_touched b n it) ∙ before)) in
                      let same : n ≡ id = omega (arith, most, leb-true id n (sym (plain_touched id n it) ∙ after)) in
                      let is_mS : mS ≡ Some o = ap (λ c. cond c None (shadow_of t id)) (held_as ∙ ap (is_alive s) (sym same) ∙ gone) ∙ shadow_same (done b) t judged id new ∙ ap (shadow_of s) (sym same) ∙ shadow_n in
                      false≢true (sym h ∙ is_at mS o is_mS)
                  by false it =
                      let is_mP : mP ≡ Some n = at_is mP n (plain_step n it before after) in
                      let none : left_by t1 n ≡ false = plain_left k x below o has gone it after in
                      let unjudged : next n ≡ false
                      = both_false (done b n) (n == id) (sym (plain_done k x below o has b) ∙ before) (ne_eqb n id (λ same. false≢true (sym it ∙ ap touched same ∙ is_touched))) in
                      let is : mU ≡ Some o
                      = is_mU ∙ ap (option_and_then (shadow_left_unless touched t1)) is_mP ∙ ap (λ c. cond c None (shadow_left t1 n)) it
                      ∙ ap (λ c. cond c None (shadow_of t1 n)) (held_now next t1 first n it (directory_P n is_mP) none unjudged ∙ gone)
                      ∙ shadow_same next t1 first n unjudged ∙ shadow_n in
                      false≢true (sym i ∙ is_at mU o is)

              shades : list_any (open_shade b o) s.objects ≡ false
              shades = none_any (open_shade b o) s.objects (λ k x below. is_false (open_shade b o (get_or s.objects k x)) (λ opens.
                  let y : Object F I = get_or s.objects k x in
                  let parts = and_parts (has_shadow o y.body) (not (is_alive s y.id) && not (plain b y.id)) opens in
                  let ends = and_parts (not (is_alive s y.id)) (not (plain b y.id)) parts.1 in
                  one_shade k x below parts.0 (not_true (is_alive s y.id) ends.0) (not_true (plain b y.id) ends.1)))

      turned : Judged g s (done id) t4
      turned = judged_alike g s N3 (done id) t4 (λ k x below. object (get_or s.objects k x).id) (λ k x below. name k x below) judged3
        where
          object : (o : ℕ) → (is_alive s o || not (N3 o)) ≡ (is_alive s o || not (done id o))
          object o = go (is_alive s o) refl (touched o) refl
            where
              go : (a : Bool) → is_alive s o ≡ a → (c : Bool) → touched o ≡ c → (is_alive s o || not (N3 o)) ≡ (is_alive s o || not (done id o))
              go true alive c e = stays_alike (is_alive s o) (not (N3 o)) (not (done id o)) alive
              go false dead true e = ap (λ b. is_alive s o || not b) (touched3 o e)
              go false dead false e = ap (λ b. is_alive s o || not b) (same_tests (N3 o) (done id o) (back3 o e dead) (forward o e dead))

          name : All (λ r. (is_kept s r || not (N3 r.object)) ≡ (is_kept s r || not (done id r.object))) s.rows
          name k x below = go (is_kept s (get_or s.rows k x)) refl
            where
              go : (c : Bool) → is_kept s (get_or s.rows k x) ≡ c
                  → (is_kept s (get_or s.rows k x) || not (N3 (get_or s.rows k x).object)) ≡ (is_kept s (get_or s.rows k x) || not (done id (get_or s.rows k x).object))
              go true kept = stays_alike (is_kept s (get_or s.rows k x)) (not (N3 (get_or s.rows k x).object)) (not (done id (get_or s.rows k x).object)) kept
              go false gone = ap (λ c. is_kept s (get_or s.rows k x) || not c) (touched3 (get_or s.rows k x).object (gone_touched k x below gone))

    -- the names of the object are left
    unfiltered : (P : Row → Type 0) → All (λ r. (r.object == id) ≡ true → P r) t.rows → All (λ r. (r.object == id) ≡ true → P r) s.rows
    unfiltered P all k x below own =
        All-unfilter (λ r. (r.object == id) ≡ true → P r) (λ r. is_kept s r || not (done b r.object)) s.rows (subst (λ (rs : List Row). All (λ r. (r.object == id) ≡ true → P r) rs) judged.rows all)
        k x below (some_done (is_kept s (get_or s.rows k x)) (not (done b (get_or s.rows k x).object)) (ap (λ o. not (done b o)) (eqb-true (get_or s.rows k x).object id own) ∙ ap not new)) own

    filtered : (P : Row → Type 0) → All P s.rows → All P t.rows
    filtered P all = subst (λ (rs : List Row). All P rs) (sym judged.rows) (All-filter (λ r. is_kept s r || not (done b r.object)) P s.rows all)

    one_turn : (u : State K T F I) → AreSettled g t touched id u → Judged g s (done id) u
    one_turn u are = go (find (λ r. r.object == id) t.rows) refl are
      where
        go : (o : Option Row) → find (λ r. r.object == id) t.rows ≡ o
            → MatchOption o ((u ≡ with_shadow_settled g touched (settled_one g t id) (shadow_left t id)) × All (λ q. (q.object == id) ≡ false) t.rows)
            (λ r. (u ≡ with_shadow_settled g touched (with_shadow_settled g touched (settled_unless g touched (settled_one g t id) r.directory) (shadow_left t id)) (shadow_left_unless touched (settled_one g t id) r.directory)) × All (λ q. (q.object == id) ≡ true → q.directory ≡ r.directory) t.rows)
            → Judged g s (done id) u
        go None e are =
            subst (Judged g s (done id)) (sym are.0)
            (turned None (λ d h. cc) (unfiltered (λ q. None ≡ Some q.directory) (λ k x below own. absurd (false≢true (sym (are.1 k x below) ∙ own)))) None refl)
        go (Some r) e are =
            subst (Judged g s (done id)) (sym are.0)
            (turned (Some r.directory) (λ d h. let same : r.directory ≡ d = cc in ap (is_directory s) (sym same) ∙ all_found (λ q. IsDirectory s q.directory) (λ q. q.object == id) t.rows r (filtered (λ q. IsDirectory s q.directory) sound.inside) e)
            (unfiltered (λ q. Some r.directory ≡ Some q.directory) (λ k x below own. ap Some (sym (are.1 k x below own)))) (shadow_left_unless touched (settled_one g t id) r.directory) refl)

    -- the object is upheld, so that it stays, and its names do
    module _ (up : is_upheld s id ≡ true) where
      rows_up : (o : ℕ) → list_any (open_row id o) s.rows ≡ false → list_any (open_row b o) s.rows ≡ false
      rows_up o closed = none_any (open_row b o) s.rows (λ k x below. is_false (open_row b o (get_or s.rows k x)) (λ opens.
          let r : Row = get_or s.rows k x in
          let parts = and_parts (r.directory == o) (not (is_kept s r) && not (nat_le b r.object)) opens in
          let ends = and_parts (not (is_kept s r)) (not (nat_le b r.object)) parts.1 in
          let own = now_own k x below o parts.0 (not_true (is_kept s r) ends.0) (not_true (nat_le b r.object) ends.1) closed in
          false≢true (sym (not_true (is_kept s r) ends.0) ∙ upheld_kept s id up r own)))

      done_up : (o : ℕ) → touched o ≡ false → done id o ≡ true → done b o ≡ true
      done_up o free ready =
          let closed = done_closed id o free ready in
          closed_done b o free (rows_up o closed.0)
          (none_any (open_shade b o) s.objects (λ k x below. is_false (open_shade b o (get_or s.objects k x)) (λ opens.
          let y : Object F I = get_or s.objects k x in
          let parts = and_parts (has_shadow o y.body) (not (is_alive s y.id) && not (plain b y.id)) opens in
          let ends = and_parts (not (is_alive s y.id)) (not (plain b y.id)) parts.1 in
          let after : plain id y.id ≡ true = not_false (plain id y.id) (λ yet.
          false≢true (sym (none_pass (open_shade id o) s.objects closed.1 k x below)
          ∙ and_from (has_shadow o y.body) (not (is_alive s y.id) && not (plain id y.id)) parts.0 (and_from (not (is_alive s y.id)) (not (plain id y.id)) ends.0 (ap not yet)))) in
          one y.id (touched y.id) refl (not_true (is_alive s y.id) ends.0) (not_true (plain b y.id) ends.1) after)))
        where
          one : (n : ℕ) (c : Bool) → touched n ≡ c → is_alive s n ≡ false → plain b n ≡ false → plain id n ≡ true → ⊥
          one n true it gone before after =
              let most = last n it (leb-false b n (sym (plain_touched b n it) ∙ before)) in
              let same : n ≡ id = omega (arith, most, leb-true id n (sym (plain_touched id n it) ∙ after)) in
              false≢true (sym gone ∙ ap (is_alive s) same ∙ upheld_alive s id up)
          one n false it gone before after =
              false≢true (sym before ∙ plain_other b n it ∙ ap not (rows_up n (not_true _ (sym (plain_other id n it) ∙ after))))

      upheld_turn : Judged g s (done id) t
      upheld_turn = judged_alike g s (done b) (done id) t (λ k x below. object (get_or s.objects k x).id) (λ k x below. name (get_or s.rows k x)) judged
        where
          apart_done : (o : ℕ) → (o == id) ≡ false → done b o ≡ done id o
          apart_done o apart = go (touched o) refl
            where
              go : (c : Bool) → touched o ≡ c → done b o ≡ done id o
              go true e = sym (or_false (done b o)) ∙ (λ i. done b o || (sym apart) i) ∙ touched_next o e
              go false e = same_tests (done b o) (done id o) (done_lower b id lower o) (done_up o e)

          object : (o : ℕ) → (is_alive s o || not (done b o)) ≡ (is_alive s o || not (done id o))
          object o = go (o == id) refl
            where
              go : (c : Bool) → (o == id) ≡ c → (is_alive s o || not (done b o)) ≡ (is_alive s o || not (done id o))
              go true own = stays_alike (is_alive s o) (not (done b o)) (not (done id o)) (ap (is_alive s) (eqb-true o id own) ∙ upheld_alive s id up)
              go false apart = ap (λ c. is_alive s o || not c) (apart_done o apart)

          name : (r : Row) → (is_kept s r || not (done b r.object)) ≡ (is_kept s r || not (done id r.object))
          name r = go (r.object == id) refl
            where
              go : (c : Bool) → (r.object == id) ≡ c → (is_kept s r || not (done b r.object)) ≡ (is_kept s r || not (done id r.object))
              go true own = stays_alike (is_kept s r) (not (done b r.object)) (not (done id r.object)) (upheld_kept s id up r own)
              go false apart = ap (λ c. is_kept s r || not c) (apart_done r.object apart)

    -- what is upheld of what is left was upheld at first
    upheld_first : is_upheld t id ≡ true → is_upheld s id ≡ true
    upheld_first up =
        upheld_too (has_handle s id) (is_permanent s id) (has_name t id) (has_name s id) (λ named. go (has_name s id) refl named)
        (sym (λ i. held i || (permanent i && has_name t id)) ∙ up)
      where
        held : has_handle t id ≡ has_handle s id
        held = ap (list_any (λ (h : Held). h.object == id)) judged.handles

        permanent : is_permanent t id ≡ is_permanent s id
        permanent = ap (λ (o : Option (Object F I)). option_map_or (λ x. x.permanent) o false) (found_left g s (done b) t judged id new)

        go : (c : Bool) → has_name s id ≡ c → has_name t id ≡ true → has_name s id ≡ true
        go true e named = e
        go false e named = absurd (false≢true (sym (none_any (λ r. r.object == id) t.rows (filtered (λ r. (r.object == id) ≡ false) (none_pass (λ r. r.object == id) s.rows e))) ∙ named))

    pub any_turn : (u : State K T F I) → HadItsTurn g t touched id u → Judged g s (done id) u
    any_turn u (inl stays) = subst (Judged g s (done id)) (sym stays.1) (upheld_turn (upheld_first stays.0))
    any_turn u (inr settled) = one_turn u settled

  -- ---- after the last turn

  pub all_turned : (b : ℕ) → ((o : ℕ) → touched o ≡ true → b ≤ o) → (t : State K T F I) → Judged g s (done b) t → t ≡ settle g s
  all_turned b none t judged =
      all_judged g s (done b) t
      (λ k x below. some_done (is_alive s (get_or s.objects k x).id) (done b (get_or s.objects k x).id) (all_done (get_or s.objects k x).id))
      (λ k x below. some_done (is_kept s (get_or s.rows k x)) (done b (get_or s.rows k x).object) (all_done (get_or s.rows k x).object)) judged
    where
      rows : (o : ℕ) → list_any (open_row b o) s.rows ≡ false
      rows o = none_any (open_row b o) s.rows (λ k x below. is_false (open_row b o (get_or s.rows k x)) (λ opens.
          let r : Row = get_or s.rows k x in
          let parts = and_parts (r.directory == o) (not (is_kept s r) && not (nat_le b r.object)) opens in
          let ends = and_parts (not (is_kept s r)) (not (nat_le b r.object)) parts.1 in
          omega (arith, none r.object (gone_touched k x below (not_true (is_kept s r) ends.0)), below_bound b r.object ends.1)))

      plain_all : (o : ℕ) → plain b o ≡ true
      plain_all o = go (touched o) refl
        where
          go : (c : Bool) → touched o ≡ c → plain b o ≡ true
          go true e = plain_touched b o e ∙ le-leb b o (none o e)
          go false e = plain_other b o e ∙ ap not (rows o)

      all_done : (o : ℕ) → done b o ≡ true
      all_done o = go (touched o) refl
        where
          go : (c : Bool) → touched o ≡ c → done b o ≡ true
          go true e = done_touched b o e ∙ le-leb b o (none o e)
          go false e =
              closed_done b o e (rows o)
              (none_any (open_shade b o) s.objects (λ k x below. is_false (open_shade b o (get_or s.objects k x)) (λ opens.
              let y : Object F I = get_or s.objects k x in
              let parts = and_parts (has_shadow o y.body) (not (is_alive s y.id) && not (plain b y.id)) opens in
              let ends = and_parts (not (is_alive s y.id)) (not (plain b y.id)) parts.1 in
              false≢true (sym (not_true (plain b y.id) ends.1) ∙ plain_all y.id))))
