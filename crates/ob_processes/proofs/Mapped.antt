-- Device maps beside the entries: what is seen of them, and that only live processes have them.
use Rattle.std.proofs.Common.{◌≡◌, ◌∙◌, ℕ, ◌==◌, ◌||◌, Bool, true, false, not, cond, if◌then◌else◌, List, [], ◌∷◌, ◌++◌, filter, map, Option, None, Some, refl, ap, sym, eqb-true, eq-eqb}
use Rattle.std.proofs.lemmas.Bool.{or_right}
use Rattle.std.proofs.lemmas.Map.Entries.{lookup-filter-keys}
use Rattle.std.specs.BTreeMap.{is_at}
use Rattle.std.specs.List.{list_any}
use Rattle.std.specs.Option.{is_some, option_map_or}
use Rattle.std.specs.Ordering.{nat_cmp}
use Rattle.ob_devmap.specs.Maps.{Directories, map_in, MapChanges, IsMapped}
use Rattle.ob_model.proofs.Ids.{is_at-id}
use Rattle.ob_model.specs.declared.state.Held.{Held}
use Rattle.ob_model.specs.declared.state.Process.{Process}
use Rattle.ob_processes.specs.Running.{Running, Entries, process_of_entry, processes_of, OnlyLiveHaveMaps, seen, IsRunning, with_map}
use Rattle.ob_processes.proofs.Entries.{at}
use Rattle.ob_processes.proofs.Changes.{put}
use Rattle.ob_processes.proofs.Seen.{processes_now}

-- ---- the map of a process changes

-- where it is live, it has the map
pub processes_changed : (p : ℕ) (m : Option ℕ) (maps left : Directories) (es : Entries) → MapChanges p m maps left → processes_of left es ≡ map (with_map p m) (processes_of maps es)
processes_changed p m maps left [] change = refl
processes_changed p m maps left (e ∷ es) change = go (e.0 == p) (change e.0) (processes_changed p m maps left es change)
  where
    go : (t : Bool) → map_in left e.0 ≡ (if t then m else map_in maps e.0) → processes_of left es ≡ map (with_map p m) (processes_of maps es)
        → processes_of left (e ∷ es) ≡ cond t (record { number = e.0; map = m }) (process_of_entry maps e) ∷ map (with_map p m) (processes_of maps es)
    go true now more = ap (λ n. record { number = e.0; map = n } ∷ processes_of left es) now ∙ ap (λ (ps : List Process). record { number = e.0; map = m } ∷ ps) more
    go false same more = ap (λ n. record { number = e.0; map = n } ∷ processes_of left es) same ∙ ap (λ (ps : List Process). process_of_entry maps e ∷ ps) more

-- where it isn't, nothing does
pub processes_left : (p : ℕ) (m : Option ℕ) (maps : Directories) (es : Entries) → at es p ≡ None → processes_of maps es ≡ map (with_map p m) (processes_of maps es)
processes_left p m maps [] none = refl
processes_left p m maps (e ∷ es) none =
    go (e.0 == p) (ap (λ t. cond t (Some e.1) (at es p)) (sym (is_at-id p e.0)) ∙ none) (processes_left p m maps es)
  where
    go : (t : Bool) → cond t (Some e.1) (at es p) ≡ None → (at es p ≡ None → processes_of maps es ≡ map (with_map p m) (processes_of maps es))
        → processes_of maps (e ∷ es) ≡ cond t (record { number = e.0; map = m }) (process_of_entry maps e) ∷ map (with_map p m) (processes_of maps es)
    go true here more = cc
    go false there more = ap (λ (ps : List Process). process_of_entry maps e ∷ ps) (more there)

module _ (maps : Directories) (es : Entries) (kept : ℕ) (is : IsRunning es kept) (now : Running) (same : seen maps es ≡ now) (p : ℕ) (m : Option ℕ) where
  pub map_written : (left : Directories) → MapChanges p m maps left → processes_of left es ≡ map (with_map p m) now.processes
  map_written left change = processes_changed p m maps left es change ∙ ap (map (with_map p m)) (processes_now maps es kept is now same)

  pub map_left : (key : ℕ) → key ≡ p → (live : Bool) → live ≡ is_some (at es key) → live ≡ false → now.processes ≡ map (with_map p m) now.processes
  map_left key is_p live tells absent =
      sym (processes_now maps es kept is now same) ∙ processes_left p m maps es (ap (at es) (sym is_p) ∙ nothing (at es key) (sym tells ∙ absent))
      ∙ ap (map (with_map p m)) (processes_now maps es kept is now same)
    where
      nothing : (o : Option (List Held)) → is_some o ≡ false → o ≡ None
      nothing None none = refl
      nothing (Some x) none = cc

-- ---- only live processes have maps, after a change

-- a process isn't live that wasn't after something was written
put_none : (p q : ℕ) (es : Entries) (w : List Held) → at (put es p w) q ≡ None → at es q ≡ None
put_none p q [] w none = refl
put_none p q (e ∷ es) w none = go (is_at (nat_cmp p) e.0) (is_at (nat_cmp q) e.0) refl none (put_none p q es w)
  where
    go : (s t : Bool) → is_at (nat_cmp q) e.0 ≡ t → at (cond s ((e.0, w) ∷ es) (e ∷ put es p w)) q ≡ None → (at (put es p w) q ≡ None → at es q ≡ None) → cond t (Some e.1) (at es q) ≡ None
    go true true same none more = let here : Some w ≡ None = ap (λ b. cond b (Some w) (at es q)) (sym same) ∙ none in cc
    go true false other none more = ap (λ b. cond b (Some w) (at es q)) (sym other) ∙ none
    go false true same none more = let here : Some e.1 ≡ None = ap (λ b. cond b (Some e.1) (at (put es p w) q)) (sym same) ∙ none in cc
    go false false other none more = more (ap (λ b. cond b (Some e.1) (at (put es p w) q)) (sym other) ∙ none)

pub mapped_put : (maps : Directories) (p : ℕ) (es new : Entries) (w : List Held) → new ≡ put es p w → OnlyLiveHaveMaps maps es → OnlyLiveHaveMaps maps new
mapped_put maps p es new w wrote only = λ q none. only q (put_none p q es w (ap (λ (n : Entries). at n q) (sym wrote) ∙ none))

begun_none : (q : ℕ) (es more : Entries) → at (es ++ more) q ≡ None → at es q ≡ None
begun_none q [] more none = refl
begun_none q (e ∷ es) more none = go (is_at (nat_cmp q) e.0) none (begun_none q es more)
  where
    go : (t : Bool) → cond t (Some e.1) (at (es ++ more) q) ≡ None → (at (es ++ more) q ≡ None → at es q ≡ None) → cond t (Some e.1) (at es q) ≡ None
    go true none rest = none
    go false none rest = rest none

pub mapped_begun : (maps : Directories) (p : ℕ) (es new : Entries) → new ≡ es ++ (p, []) ∷ [] → OnlyLiveHaveMaps maps es → OnlyLiveHaveMaps maps new
mapped_begun maps p es new begun only = λ q none. only q (begun_none q es ((p, []) ∷ []) (ap (λ (n : Entries). at n q) (sym begun) ∙ none))

pub mapped_ended : (maps left : Directories) (p : ℕ) (es new : Entries) → new ≡ filter (λ e. not (e.0 == p)) es → MapChanges p None maps left → OnlyLiveHaveMaps maps es → OnlyLiveHaveMaps left new
mapped_ended maps left p es new others cleared only = λ q none. go q (q == p) refl (cleared q) none
  where
    stays : (q : ℕ) → (q == p) ≡ false → (k : ℕ) → is_at (nat_cmp q) k ≡ true → not (k == p) ≡ true
    stays q other k same = ap (λ n. not (n == p)) (eqb-true k q (sym (is_at-id q k) ∙ same)) ∙ ap not other

    go : (q : ℕ) (t : Bool) → (q == p) ≡ t → map_in left q ≡ (if t then None else map_in maps q) → at new q ≡ None → map_in left q ≡ None
    go q true same now none = now
    go q false other now none =
        now ∙ only q (sym (lookup-filter-keys (is_at (nat_cmp q)) (λ k. not (k == p)) true (stays q other) es) ∙ ap (λ (n : Entries). at n q) (sym others) ∙ none)

-- ---- a directory is the map of a process

-- the map of a process is this directory
abbrev pub has_map : ℕ → Process → Bool
has_map directory x = option_map_or (λ d. d == directory) x.map false

any_where_mapped : (maps : Directories) (directory p : ℕ) (es : Entries) (x : List Held) → at es p ≡ Some x → map_in maps p ≡ Some directory → list_any (has_map directory) (processes_of maps es) ≡ true
any_where_mapped maps directory p [] x found mapped = cc
any_where_mapped maps directory p (e ∷ es) x found mapped =
    go (e.0 == p) refl (ap (λ t. cond t (Some e.1) (at es p)) (sym (is_at-id p e.0)) ∙ found) (λ there. any_where_mapped maps directory p es x there mapped)
  where
    go : (t : Bool) → (e.0 == p) ≡ t → cond t (Some e.1) (at es p) ≡ Some x → (at es p ≡ Some x → list_any (has_map directory) (processes_of maps es) ≡ true)
        → (has_map directory (process_of_entry maps e) || list_any (has_map directory) (processes_of maps es)) ≡ true
    go true same here more =
        ap (λ (m : Option ℕ). option_map_or (λ d. d == directory) m false || list_any (has_map directory) (processes_of maps es)) (ap (map_in maps) (eqb-true e.0 p same) ∙ mapped)
        ∙ ap (λ t. t || list_any (has_map directory) (processes_of maps es)) (eq-eqb directory directory refl)
    go false other there more = or_right (has_map directory (process_of_entry maps e)) (list_any (has_map directory) (processes_of maps es)) (more there)

mapped_where_any : (maps : Directories) (directory : ℕ) (es : Entries) → list_any (has_map directory) (processes_of maps es) ≡ true → IsMapped maps directory
mapped_where_any maps directory [] any = cc
mapped_where_any maps directory (e ∷ es) any = go (map_in maps e.0) refl any (mapped_where_any maps directory es)
  where
    this : (d : ℕ) (t : Bool) → (d == directory) ≡ t → map_in maps e.0 ≡ Some d → (t || list_any (has_map directory) (processes_of maps es)) ≡ true
        → (list_any (has_map directory) (processes_of maps es) ≡ true → IsMapped maps directory) → IsMapped maps directory
    this d true same found any more = (e.0, found ∙ ap Some (eqb-true d directory same))
    this d false other found any more = more any

    go : (m : Option ℕ) → map_in maps e.0 ≡ m → (option_map_or (λ d. d == directory) m false || list_any (has_map directory) (processes_of maps es)) ≡ true
        → (list_any (has_map directory) (processes_of maps es) ≡ true → IsMapped maps directory) → IsMapped maps directory
    go None none any more = more any
    go (Some d) found any more = this d (d == directory) refl found any more

pub mapped_seen : (maps : Directories) (es : Entries) → OnlyLiveHaveMaps maps es → (directory : ℕ) (told : Bool) → (told ≡ true → IsMapped maps directory) → (IsMapped maps directory → told ≡ true)
    → told ≡ list_any (has_map directory) (processes_of maps es)
mapped_seen maps es only directory told tells counts =
    both told (list_any (has_map directory) (processes_of maps es)) (λ yes. any_process (tells yes)) (λ any. counts (mapped_where_any maps directory es any))
  where
    both : (s t : Bool) → (s ≡ true → t ≡ true) → (t ≡ true → s ≡ true) → s ≡ t
    both true t forth back = sym (forth refl)
    both false true forth back = back refl
    both false false forth back = refl

    any_process : IsMapped maps directory → list_any (has_map directory) (processes_of maps es) ≡ true
    any_process mapped = go (at es mapped.0) refl
      where
        go : (o : Option (List Held)) → at es mapped.0 ≡ o → list_any (has_map directory) (processes_of maps es) ≡ true
        go None none = let nothing : map_in maps mapped.0 ≡ None = only mapped.0 none in let something : map_in maps mapped.0 ≡ Some directory = mapped.1 in cc
        go (Some x) found = any_where_mapped maps directory mapped.0 es x found mapped.1
