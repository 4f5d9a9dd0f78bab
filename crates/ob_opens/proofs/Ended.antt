-- A pending open ends, and opens nothing: only the object that it pinned can go, and the directory of its name.
use Rattle.std.proofs.Common.{◌≡◌, ◌∙◌, ℕ, ◌<◌, ◌≤◌, ◌==◌, ◌||◌, ◌&&◌, not, nat_le, cond, Bool, true, false, List, [], ◌∷◌, get_or, filter, find, All, Option, None, Some, ap, refl, sym, subst, arith, eqb-true, leb-true, leb-false}
use Rattle.std.specs.List.{AllPairs, list_any}
use Rattle.std.specs.Prelude.{MatchOption}
use Rattle.std.proofs.lemmas.Bool.{false≢true, ne_eqb, or_left, or_right}
use Rattle.std.proofs.lemmas.List.Elements.{All-weaker}
use Rattle.std.proofs.lemmas.List.Folds.{list_any-append}
use Rattle.ob_model.specs.declared.state.Held.{Held}
use Rattle.ob_model.specs.declared.state.PendingOpen.{PendingOpen}
use Rattle.ob_model.specs.declared.state.Row.{Row}
use Rattle.ob_model.specs.Procedures.{Procedures}
use Rattle.ob_model.specs.State.{State, root_id}
use Rattle.ob_model.specs.PendingOpens.{pending_of, without_pending}
use Rattle.ob_model.specs.Settle.{IsSettled, settle, has_shadow, has_handle, is_pinned, is_mapped, is_permanent, is_kept, has_name, holds_kept, is_alive_itself, is_shadowing, is_alive}
use Rattle.ob_model.specs.Sound.{IsSound, IsShadowAmong}
use Rattle.ob_model.proofs.Finds.{filter_all, not_found, list_any_weaker}
use Rattle.ob_model.proofs.Soundness.{has_shadow_is}
use Rattle.ob_model.proofs.Staying.{settled_itself}
use Rattle.ob_model.proofs.Sorted.{pairs_head, pairs_tail}
use Rattle.ob_life.specs.Settling.{with_handle_to}
use Rattle.ob_opens.proofs.Stays.{both_still, alive_still}

-- the tests of staying, of which the second may be met in place of the third
moves : (r h p m n k h' p' k' : Bool) → (h ≡ true → h' ≡ true) → (p ≡ true → (h' || p') ≡ true) → (k ≡ true → k' ≡ true)
    → (r || h || p || m || n || k) ≡ true → (r || h' || p' || m || n || k') ≡ true
moves true h p m n k h' p' k' held pinned kept e = refl
moves false true p m n k h' p' k' held pinned kept e = ap (λ x. x || p' || m || n || k') (held refl)
moves false false true m n k h' p' k' held pinned kept e = ap (λ x. x || m || n || k') (pinned refl)
moves false false false true n k h' p' k' held pinned kept e = ap (λ x. x || n || k') (or_right (h' || p') true refl)
moves false false false false true k h' p' k' held pinned kept e = ap (λ x. x || k') (or_right (h' || p' || false) true refl)
moves false false false false false k h' p' k' held pinned kept e = ap (λ x. h' || p' || false || false || x) (kept e) ∙ or_right (h' || p' || false || false) true refl

-- what an open of a list pins is pinned by another one, or is what the open of the ticket pinned
pinned_apart : {K : Type 0} (ticket o : ℕ) (x : PendingOpen K) (xs : List (PendingOpen K)) → AllPairs (λ a b. a.ticket < b.ticket) xs → find (λ y. y.ticket == ticket) xs ≡ Some x
    → list_any (λ y. y.object == o) xs ≡ true → ((x.object == o) || list_any (λ y. y.object == o) (filter (λ y. not (y.ticket == ticket)) xs)) ≡ true
pinned_apart ticket o x [] rising found any = cc
pinned_apart {K} ticket o x (y ∷ ys) rising found any =
    go (y.ticket == ticket) refl found any (pinned_apart ticket o x ys (pairs_tail (λ (a b : PendingOpen K). a.ticket < b.ticket) y ys rising))
  where
    left : List (PendingOpen K)
    left = filter (λ z. not (z.ticket == ticket)) ys

    go : (b : Bool) → (y.ticket == ticket) ≡ b → cond b (Some y) (find (λ z. z.ticket == ticket) ys) ≡ Some x → ((y.object == o) || list_any (λ z. z.object == o) ys) ≡ true
        → (find (λ z. z.ticket == ticket) ys ≡ Some x → list_any (λ z. z.object == o) ys ≡ true → ((x.object == o) || list_any (λ z. z.object == o) left) ≡ true)
        → ((x.object == o) || list_any (λ z. z.object == o) (cond (not b) (y ∷ left) left)) ≡ true
    go true e is any rest =
        let it : x ≡ y = cc in
        (λ i. ((it i).object == o) || list_any (λ (z : PendingOpen K). z.object == o) (others i)) ∙ any
      where
        others : left ≡ ys
        others =
            filter_all (λ z. not (z.ticket == ticket)) ys
            (All-weaker (λ z. y.ticket < z.ticket) (λ z. not (z.ticket == ticket) ≡ true)
            (λ z less. ap not (ne_eqb z.ticket ticket (λ same. omega (arith, less, same, eqb-true y.ticket ticket e)))) ys (pairs_head (λ (a b : PendingOpen K). a.ticket < b.ticket) y ys rising))
    go false e is any rest = either (y.object == o) any
      where
        either : (b : Bool) → (b || list_any (λ z. z.object == o) ys) ≡ true → ((x.object == o) || (b || list_any (λ z. z.object == o) left)) ≡ true
        either true h = or_right (x.object == o) true refl
        either false h = rest is h

module _ {K T F I : Type 0} (s : State K T F I) (ticket : ℕ) (x : PendingOpen K) (rising : AllPairs (λ a b. a.ticket < b.ticket) s.pending) (found : pending_of s ticket ≡ Some x) (settled : IsSettled s) where
  -- the state with a handle to the object in place of the open
  abbrev u : State K T F I
  u = with_handle_to (without_pending s ticket) x.object

  handle_to : (o : ℕ) → has_handle u o ≡ (has_handle s o || ((x.object == o) || false))
  handle_to o = list_any-append (λ (h : Held). h.object == o) s.handles _

  held_still : (o : ℕ) → has_handle s o ≡ true → has_handle u o ≡ true
  held_still o e = handle_to o ∙ or_left (has_handle s o) _ e

  kept_still : (r : Row) → is_kept s r ≡ true → is_kept u r ≡ true
  kept_still r = go (is_permanent s r.object) (has_handle s r.object) (has_handle u r.object) (held_still r.object)
    where
      go : (a b c : Bool) → (b ≡ true → c ≡ true) → (a || b) ≡ true → (a || c) ≡ true
      go true b c more e = refl
      go false b c more e = more e

  pinned_or_held : (o : ℕ) → is_pinned s o ≡ true → (has_handle u o || is_pinned u o) ≡ true
  pinned_or_held o e =
      ap (λ b. b || is_pinned u o) (handle_to o)
      ∙ go (has_handle s o) (x.object == o) (is_pinned u o) (pinned_apart ticket o x s.pending rising found e)
    where
      go : (a b c : Bool) → (b || c) ≡ true → ((a || (b || false)) || c) ≡ true
      go true b c e = refl
      go false true c e = refl
      go false false c e = e

  holds_still : (o : ℕ) → holds_kept s o ≡ true → holds_kept u o ≡ true
  holds_still o =
      list_any_weaker (λ r. (r.directory == o) && is_kept s r) (λ r. (r.directory == o) && is_kept u r) s.rows
      (λ k d below. go ((get_or s.rows k d).directory == o) (is_kept s (get_or s.rows k d)) (is_kept u (get_or s.rows k d)) (kept_still (get_or s.rows k d)))
    where
      go : (a b c : Bool) → (b ≡ true → c ≡ true) → (a && b) ≡ true → (a && c) ≡ true
      go true b c more e = more e
      go false b c more e = cc

  -- nothing would go, were there a handle to the object
  pub held_in_place : IsSettled u
  held_in_place = record {
    names = All-weaker (λ r. is_kept s r ≡ true) (λ r. is_kept u r ≡ true) (λ r. kept_still r) s.rows settled.names;
    objects = λ k d below.
        alive_still s u refl
        (λ o. moves (o == root_id) (has_handle s o) (is_pinned s o) (is_mapped s o) (is_permanent s o && has_name s o) (holds_kept s o) (has_handle u o) (is_pinned u o) (holds_kept u o)
        (held_still o) (pinned_or_held o) (holds_still o))
        (get_or s.objects k d).id (settled.objects k d below);
  }

-- where the object has a handle, nothing goes when the open that pins it ends
module _ {K T F I : Type 0} (s : State K T F I) (ticket : ℕ) (x : PendingOpen K) (rising : AllPairs (λ a b. a.ticket < b.ticket) s.pending) (found : pending_of s ticket ≡ Some x) where
  pub unpinned_settled : IsSettled s → has_handle s x.object ≡ true → IsSettled (without_pending s ticket)
  unpinned_settled settled held = record {
    names = settled.names;
    objects = λ k d below.
        alive_still s (without_pending s ticket) refl
        (λ o. moves (o == root_id) (has_handle s o) (is_pinned s o) (is_mapped s o) (is_permanent s o && has_name s o) (holds_kept s o) (has_handle s o) (is_pinned (without_pending s ticket) o) (holds_kept s o)
        (λ e. e) (pinned_or_held o) (λ e. e))
        (get_or s.objects k d).id (settled.objects k d below);
  }
    where
      pinned_or_held : (o : ℕ) → is_pinned s o ≡ true → (has_handle s o || is_pinned (without_pending s ticket) o) ≡ true
      pinned_or_held o e = go (x.object == o) refl (pinned_apart ticket o x s.pending rising found e)
        where
          go : (b : Bool) → (x.object == o) ≡ b → (b || is_pinned (without_pending s ticket) o) ≡ true → (has_handle s o || is_pinned (without_pending s ticket) o) ≡ true
          go true same h = or_left (has_handle s o) _ (subst (λ n. has_handle s n ≡ true) (eqb-true x.object o same) held)
          go false other h = ap (λ b. has_handle s o || b) h ∙ or_right (has_handle s o) true refl

  -- and else what was made after the object that it pinned stays by itself where it did
  still_itself : (o : ℕ) → x.object < o → is_alive_itself s o ≡ true → is_alive_itself (without_pending s ticket) o ≡ true
  still_itself o later =
      moves (o == root_id) (has_handle s o) (is_pinned s o) (is_mapped s o) (is_permanent s o && has_name s o) (holds_kept s o) (has_handle s o) (is_pinned (without_pending s ticket) o) (holds_kept s o)
      (λ e. e) (λ e. ap (λ b. has_handle s o || b) (ap (λ b. b || is_pinned (without_pending s ticket) o) (sym (ne_eqb x.object o (λ same. omega (arith, later, same)))) ∙ pinned_apart ticket o x s.pending rising found e) ∙ or_right (has_handle s o) true refl) (λ e. e)

  -- so that only that object can go, and its shadow, which was made before it
  pub only_pinned_goes : IsSound s → (o : ℕ) → is_alive s o ≡ true → is_alive (without_pending s ticket) o ≡ false → o ≤ x.object
  only_pinned_goes sound o alive gone = go (nat_le o x.object) refl
    where
      fit : All (λ y. has_shadow o y.body ≡ true → IsShadowAmong s.objects y.id o) s.objects
      fit k d below has =
          subst (λ (m : Option ℕ). MatchOption m (Unit {0}) (IsShadowAmong s.objects (get_or s.objects k d).id)) (has_shadow_is o (get_or s.objects k d).body has) (sound.objects.shadows k d below)

      still : x.object < o → is_alive (without_pending s ticket) o ≡ true
      still later =
          both_still (is_alive_itself s o) (is_shadowing s o) (is_alive_itself (without_pending s ticket) o) (is_shadowing (without_pending s ticket) o) (still_itself o later)
          (list_any_weaker (λ y. has_shadow o y.body && is_alive_itself s y.id) (λ y. has_shadow o y.body && is_alive_itself (without_pending s ticket) y.id) s.objects
          (λ k d below. shades (has_shadow o (get_or s.objects k d).body) (is_alive_itself s (get_or s.objects k d).id) (is_alive_itself (without_pending s ticket) (get_or s.objects k d).id)
          (λ has. still_itself (get_or s.objects k d).id (let above = (fit k d below has).1 in omega (arith, later, above)))))
          alive
        where
          shades : (a b c : Bool) → (a ≡ true → b ≡ true → c ≡ true) → (a && b) ≡ true → (a && c) ≡ true
          shades true b c more e = more refl e
          shades false b c more e = cc

      go : (b : Bool) → nat_le o x.object ≡ b → o ≤ x.object
      go true e = leb-true o x.object e
      go false e = absurd (false≢true (sym gone ∙ still (leb-false o x.object e)))

-- where no open is pending under the ticket nothing changes
module _ {K T F I : Type 0} (g : Procedures K T F I) (s : State K T F I) (ticket : ℕ) (none : pending_of s ticket ≡ None) (settled : IsSettled s) where
  pub nothing_pending : without_pending s ticket ≡ s
  nothing_pending =
      λ i. record s {
        pending = filter_all (λ x. not (x.ticket == ticket)) s.pending
            (All-weaker (λ x. (x.ticket == ticket) ≡ false) (λ x. not (x.ticket == ticket) ≡ true) (λ x e. ap not e) s.pending (not_found (λ x. x.ticket == ticket) s.pending none)) i;
      }

  pub nothing_ends : without_pending s ticket ≡ settle g (without_pending s ticket)
  nothing_ends = sym (settled_itself g (without_pending s ticket) (subst IsSettled (sym nothing_pending) settled))
