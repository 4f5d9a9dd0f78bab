-- The copy that readers see, with the steps that it was asked for, as more are asked for and shown.
use Rattle.std.proofs.Common.{◌≡◌, ◌∙◌, ℕ, ◌+◌, ◌<◌, Bool, true, false, List, [], ◌∷◌, ◌++◌, length, map, fold, refl, ap, sym, subst, arith, length-append}
use Rattle.std.proofs.Common.{Err, MatchResult, Ok, OnErr, Result}
use Rattle.std.specs.Result.{is_err}
use Rattle.std.proofs.lemmas.List.{append-nil}
use Rattle.logbook.specs.Pages.{Book}
use Rattle.ob_model.specs.declared.state.Row.{Row}
use Rattle.ob_rows.specs.declared.change.RowChange.{RowChange}
use Rattle.ob_rows.specs.Changes.{after_change, changed_by}
use Rattle.ob_published.specs.declared.publication.Publication.{Publication}
use Rattle.ob_published.specs.declared.shown.Shown.{Shown}
use Rattle.ob_published.specs.declared.shown.Reach.{Reach}
use Rattle.ob_published.specs.declared.shown.Op.{Op}
use Rattle.ob_published.specs.declared.shown.Op.TheVariants.{Change, Reached}
use Rattle.ob_published.specs.Publications.{published_rows, total_entries}
use Rattle.ob_published.specs.Shown.{IsShown, after_steps, stepped}
use Rattle.ob_published.specs.Ahead.{asked, rows_ahead}
use Rattle.ob_published.specs.Showing.{IsShowing}
use Rattle.ob_published.proofs.Follow.{rows_follow}

-- ---- steps

after_more : (shown : Shown) (xs ys : List Op) → after_steps shown (xs ++ ys) ≡ after_steps (after_steps shown xs) ys
after_more shown [] ys = refl
after_more shown (x ∷ xs) ys = after_more (stepped shown x) xs ys

after_changes : (shown : Shown) (changes : List RowChange) → (after_steps shown (map Change changes)).rows ≡ changed_by shown.rows changes
after_changes shown [] = refl
after_changes shown (c ∷ changes) = after_changes (stepped shown (Change c)) changes

-- the changes that are left lead to the same rows as if they were asked for
as_asked : (shown : Shown) (pending : List Op) (left : List RowChange) → rows_ahead shown pending left ≡ (after_steps shown (pending ++ map Change left)).rows
as_asked shown pending left = sym (ap (λ (x : Shown). x.rows) (after_more shown pending (map Change left)) ∙ after_changes (after_steps shown pending) left)

-- so it doesn't matter how many of them are asked for, nor what they lead to
pub rows-asked : (shown : Shown) (pending : List Op) (left : List RowChange) (shown_now : Shown) (pending_now : List Op) (left_now : List RowChange) → shown_now ≡ shown
    → pending_now ++ map Change left_now ≡ pending ++ map Change left → rows_ahead shown_now pending_now left_now ≡ rows_ahead shown pending left
rows-asked shown pending left shown_now pending_now left_now same all =
    ap (λ (x : Shown). rows_ahead x pending_now left_now) same ∙ as_asked shown pending_now left_now
    ∙ ap (λ (ops : List Op). (after_steps shown ops).rows) all ∙ sym (as_asked shown pending left)

pub rows-reached : (reach : Reach) (left : List RowChange) (shown : Shown) (pending : List Op) (shown_now : Shown) (pending_now : List Op) → shown_now ≡ shown
    → pending_now ≡ pending ++ Reached reach ∷ [] → rows_ahead shown_now pending_now left ≡ rows_ahead shown pending left
rows-reached reach left shown pending shown_now pending_now same more =
    ap (λ (x : Shown). rows_ahead x pending_now left) same
    ∙ ap (λ (ops : List Op). rows_ahead shown ops left) more
    ∙ ap (λ (x : Shown). changed_by x.rows left) (after_more shown pending (Reached reach ∷ []))

-- all is asked for, where no change is left
pub all-asked : (reach : Reach) (left left_now : List RowChange) (pending pending_now asked_now : List Op) → left_now ≡ [] → pending_now ++ map Change left_now ≡ pending ++ map Change left
    → asked_now ≡ pending_now ++ Reached reach ∷ [] → asked_now ≡ asked pending left reach
all-asked reach left left_now pending pending_now asked_now none all more =
    more ∙ ap (λ (ops : List Op). ops ++ Reached reach ∷ [])
    (sym (append-nil pending_now) ∙ ap (λ (cs : List RowChange). pending_now ++ map Change cs) (sym none) ∙ all)

after_asked : (shown : Shown) (pending : List Op) (left : List RowChange) (reach : Reach) → after_steps shown (asked pending left reach) ≡ stepped (after_steps shown (pending ++ map Change left)) (Reached reach)
after_asked shown pending left reach = after_more shown (pending ++ map Change left) (Reached reach ∷ [])

-- ---- what holds between two calls

module _ (book : Book) (opening : List Row) (leads : List Publication → Type 0) (start last : List Publication) where
  -- at the beginning
  pub showing_begins : start ≡ [] → last ≡ [] → (shown first : Shown) → shown ≡ first → IsShown book opening leads first → first.seen.log ≡ []
      → (left : List RowChange) (pending : List Op) → left ≡ [] → pending ≡ [] → IsShowing book opening leads start last left false shown pending
  showing_begins start_none last_none shown first is rule none left pending left_none pending_none = record {
    from_none = start_none;
    rule = subst (IsShown book opening leads) (sym is) rule;
    ahead =
        ap (λ (ops : List Op). rows_ahead shown ops left) pending_none
        ∙ ap (changed_by shown.rows) left_none ∙ ap (λ (x : Shown). x.rows) is ∙ rule.rows ∙ ap (published_rows opening) (none ∙ sym last_none);
    lagging = λ behind. cc;
    settled = λ settled. (left_none, pending_none, ap (λ (x : Shown). x.seen.log) is ∙ none ∙ sym last_none);
  }

  -- a publication more is recorded
  pub showing_recorded : (left : List RowChange) (behind : Bool) (shown : Shown) (pending : List Op) → IsShowing book opening leads start last left behind shown pending
      → behind ≡ false → (p : Publication) (later : List Publication) → later ≡ last ++ p ∷ [] → IsShowing book opening leads start later p.changes.items true shown pending
  showing_recorded left behind shown pending holds caught_up p later longer =
      let settled = holds.settled caught_up in
      let same : published_rows opening shown.seen.log ≡ published_rows opening last = ap (published_rows opening) settled.2 in
      record {
        from_none = holds.from_none;
        rule = holds.rule;
        ahead =
            ap (λ (ops : List Op). rows_ahead shown ops p.changes.items) settled.1
            ∙ ap (λ (rows : List Row). changed_by rows p.changes.items) (holds.rule.rows ∙ same)
            ∙ sym (rows_follow opening last (p ∷ [])) ∙ ap (published_rows opening) (sym longer);
        lagging = λ behind. omega (arith, ap length settled.2, ap length longer, length-append last (p ∷ []));
        settled = λ settled. cc;
      }

  -- fewer changes are left, or none, and the rows that are ahead are the same
  pub showing_kept : (left : List RowChange) (behind : Bool) (shown : Shown) (pending : List Op) → IsShowing book opening leads start last left behind shown pending
      → behind ≡ true → (left_now : List RowChange) (shown_now : Shown) (pending_now : List Op) → shown_now ≡ shown
      → rows_ahead shown_now pending_now left_now ≡ rows_ahead shown pending left → IsShowing book opening leads start last left_now behind shown_now pending_now
  showing_kept left behind shown pending holds is_behind left_now shown_now pending_now same rows = record {
    from_none = holds.from_none;
    rule = subst (IsShown book opening leads) (sym same) holds.rule;
    ahead = rows ∙ holds.ahead;
    lagging = λ late. subst (λ (x : Shown). length x.seen.log < length last) (sym same) (holds.lagging late);
    settled = λ caught_up. let no : true ≡ false = sym is_behind ∙ caught_up in cc;
  }

  -- the copy that is asked for in the end is one of the rule
  pub asked_is_shown : (left : List RowChange) (behind : Bool) (shown : Shown) (pending : List Op) → IsShowing book opening leads start last left behind shown pending
      → (reach : Reach) → reach.publications ≡ length last → reach.entries ≡ total_entries last → reach.seen.book ≡ book → reach.seen.log ≡ last → leads last
      → IsShown book opening leads (after_steps shown (asked pending left reach))
  asked_is_shown left behind shown pending holds reach counted summed of_book log led =
      subst (IsShown book opening leads) (sym (after_asked shown pending left reach)) (record {
        of_book = of_book;
        counted = counted ∙ ap length (sym log);
        summed = summed ∙ ap total_entries (sym log);
        rows = sym (as_asked shown pending left) ∙ holds.ahead ∙ ap (published_rows opening) (sym log);
        led = subst leads (sym log) led;
      })

  -- and where it is shown, all is
  pub asked_log : (left : List RowChange) (shown : Shown) (pending : List Op) (reach : Reach) → reach.seen.log ≡ last → (shown_now : Shown)
      → shown_now ≡ after_steps shown (asked pending left reach) → shown_now.seen.log ≡ last
  asked_log left shown pending reach log shown_now is =
      ap (λ (x : Shown). x.seen.log) is ∙ ap (λ (x : Shown). x.seen.log) (after_asked shown pending left reach) ∙ log

  pub showing_shown : start ≡ [] → (left_now : List RowChange) (shown_now : Shown) (pending_now : List Op) → left_now ≡ [] → pending_now ≡ [] → (reached : Shown) → shown_now ≡ reached
      → IsShown book opening leads reached → shown_now.seen.log ≡ last → IsShowing book opening leads start last left_now false shown_now pending_now
  showing_shown from_none left shown pending left_none pending_none reached is rule log =
      let holds : IsShown book opening leads shown = subst (IsShown book opening leads) (sym is) rule in
      record {
        from_none = from_none;
        rule = holds;
        ahead =
            ap (λ (ops : List Op). rows_ahead shown ops left) pending_none ∙ ap (changed_by shown.rows) left_none
            ∙ holds.rows ∙ ap (published_rows opening) log;
        lagging = λ behind. cc;
        settled = λ settled. (left_none, pending_none, log);
      }

-- ---- what a result says

pub on_err : {A E : Type 0} (r : Result A E) (P : Type 0) → P → OnErr r P
on_err (Ok x) P p = tt
on_err (Err e) P p = p

pub where_err : {A E : Type 0} (r : Result A E) (P : A → Type 0) (Q : E → Type 0) (R : Type 0) → is_err r ≡ true → MatchResult r P Q → ((e : E) → Q e → R) → R
where_err (Ok x) P Q R e told then = cc
where_err (Err x) P Q R e told then = then x told

pub where_ok : {A E : Type 0} (r : Result A E) (P : A → Type 0) (Q : E → Type 0) (R : Type 0) → is_err r ≡ false → MatchResult r P Q → ((x : A) → P x → R) → R
where_ok (Ok x) P Q R e told then = then x told
where_ok (Err x) P Q R e told then = cc

pub on_err_told : {A E : Type 0} (r : Result A E) (P : A → Type 0) (Q R : Type 0) → MatchResult r P (λ _. Q) → (Q → R) → OnErr r R
on_err_told (Ok x) P Q R told then = tt
on_err_told (Err x) P Q R told then = then told
