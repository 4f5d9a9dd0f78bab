-- What a publisher keeps of a history: as entries come, as its copy catches up, and as a publication is recorded.
use Rattle.std.proofs.Common.{◌≡◌, ◌∙◌, ℕ, ◌+◌, ◌-◌, ◌≤◌, List, [], ◌∷◌, ◌++◌, length, Result, Ok, Err, OnOk, refl, ap, sym, subst, arith, append_assoc, length-append}
use Rattle.std.proofs.lemmas.List.{append-nil}
use Rattle.ob_model.specs.declared.state.Row.{Row}
use Rattle.ob_model.specs.Opening.{opening}
use Rattle.ob_model.specs.Procedures.{Procedures}
use Rattle.ob_model.specs.Run.{Entry, Run, RunFrom}
use Rattle.ob_model.specs.State.{State}
use Rattle.ob_laws.proofs.Names.{names_only_go}
use Rattle.ob_rows.specs.declared.change.RowChange.{RowChange}
use Rattle.ob_rows.specs.Changes.{changed_by}
use Rattle.ob_mirror.specs.Mirrored.{AreInOrder, Follows, LeadsOn, Mirrored}
use Rattle.ob_mirror.proofs.Lasting.{follows_lasts, in_order}
use Rattle.ob_published.specs.declared.publication.Publication.{Publication}
use Rattle.ob_published.specs.Leads.{Leads}
use Rattle.ob_published.specs.Publications.{total_entries}
use Rattle.ob_published.proofs.Leading.{one_more_leads, leads_is_run, runs_joined}
use Rattle.ob_segments.specs.Journal.{whole}
use Rattle.ob_locked.specs.Locked.{History}
use Rattle.ob_shared.specs.Later.{IsLater}
use Rattle.ob_shared.specs.Publisher.{AreOf, IsNamed, Keeps, LeadThroughRun}

-- the names of the state of a run are in order
pub ordered : {K T F I : Type 0} (g : Procedures K T F I) (first : T) (entries : List (Entry K)) (s same : State K T F I) → Run g first entries s → same ≡ s → AreInOrder same
ordered {K} {T} {F} {I} g first entries s same run is = subst (λ x. AreInOrder x) (sym is) (in_order s s (names_only_go K T F I g first entries [] s s 0 run refl))

-- changes that were taken are given back
pub given_back : (old taken back : Mirrored) (items : List RowChange) → taken ≡ record old { pending = [] } → items ≡ old.pending → back ≡ record taken { pending = items } → back ≡ old
given_back old taken back items t i b = b ∙ ap (λ (m : Mirrored). record m { pending = items }) t ∙ ap (λ (l : List RowChange). record old { pending = l }) i

from_none : (n : ℕ) → n ≡ 0 + n
from_none n = omega (arith)

-- how many entries are new
pub none_new : (all published new len number : ℕ) → new ≡ len - number → len ≡ all → number ≡ published → new ≡ 0 → all ≤ published
none_new all published new len number is l n none = omega (arith, is, l, n, none)

pub some_new : (all published new len number : ℕ) → new ≡ len - number → len ≡ all → number ≡ published → (new ≡ 0 → ⊥) → all ≡ published + new
some_new all published new len number is l n some = omega (arith, is, l, n, some)

module _ {K T F I : Type 0} (g : Procedures K T F I) (rows : List Row) (leads : List Publication → Type 0) where
  -- more entries come
  pub keeps_on : (mirror : Mirrored) (recorded : List Publication) (h later : History K T F I) → IsLater g h later → Keeps g rows leads mirror recorded h → Keeps g rows leads mirror recorded later
  keeps_on mirror recorded h later after keeps = record {
    named = keeps.named;
    done = keeps.done;
    since = keeps.since ++ after.since;
    middle = keeps.middle;
    journal = after.journal ∙ ap (λ (l : List (Entry K)). l ++ after.since) keeps.journal ∙ append_assoc keeps.done keeps.since after.since;
    lead = subst (λ first. Leads g (opening first) 0 recorded keeps.done keeps.middle) (sym after.first) keeps.lead;
    onward = runs_joined g keeps.middle (length keeps.done) keeps.since h.state after.since later.state keeps.onward
        (subst (λ n. RunFrom g h.state n after.since later.state) (ap length keeps.journal ∙ length-append keeps.done keeps.since) after.onward);
    changes = keeps.changes;
    follows = follows_lasts h.state later.state mirror.rows mirror.next
        (names_only_go K T F I g h.first (whole h.journal) after.since h.state later.state (length (whole h.journal)) after.run after.onward) keeps.follows;
  }

  module _ (mirror : Mirrored) (recorded : List Publication) (h : History K T F I) (keeps : Keeps g rows leads mirror recorded h) where
    counted : length keeps.done ≡ total_entries recorded
    counted = (leads_is_run g (opening h.first) 0 recorded keeps.done keeps.middle keeps.lead).1

    -- as many entries are published as there are
    pub none_since : length (whole h.journal) ≤ total_entries recorded → AreOf g recorded h
    none_since most = go keeps.since keeps.journal keeps.onward (omega (arith, most, counted, ap length keeps.journal, length-append keeps.done keeps.since))
      where
        go : (since : List (Entry K)) → whole h.journal ≡ keeps.done ++ since → RunFrom g keeps.middle (length keeps.done) since h.state → length since ≤ 0 → AreOf g recorded h
        go [] journal onward few =
            subst (λ (l : List (Entry K)). Leads g (opening h.first) 0 recorded l h.state) (sym (journal ∙ append-nil keeps.done))
            (subst (Leads g (opening h.first) 0 recorded keeps.done) (sym onward) keeps.lead)
        go (e ∷ es) journal onward few = absurd (omega (arith, few))

    -- the same copy, publications and history
    pub keeps_same : (mirror' : Mirrored) (recorded' : List Publication) (h' : History K T F I) → mirror' ≡ mirror → recorded' ≡ recorded → h' ≡ h → Keeps g rows leads mirror' recorded' h'
    keeps_same mirror' recorded' h' m r e = subst (λ x. Keeps g rows leads x recorded' h') (sym m) (subst (λ x. Keeps g rows leads mirror x h') (sym r) (subst (λ x. Keeps g rows leads mirror recorded x) (sym e) keeps))

    -- the copy catches up
    pub keeps_followed : (now : Mirrored) (s : State K T F I) → LeadsOn mirror now → s ≡ h.state → Follows now.rows now.next s → Keeps g rows leads now recorded h
    keeps_followed now s on same follows = record {
      named = keeps.named;
      done = keeps.done;
      since = keeps.since;
      middle = keeps.middle;
      journal = keeps.journal;
      lead = keeps.lead;
      onward = keeps.onward;
      changes = on keeps.middle.rows keeps.changes;
      follows = subst (λ x. Follows now.rows now.next x) same follows;
    }

    module _ (p : Publication) (caught_up : mirror.rows ≡ h.state.rows) (changes : p.changes.items ≡ mirror.pending) (entries : length (whole h.journal) ≡ total_entries recorded + p.entries) where
      -- with one publication more, the publications are those of the history
      pub all_recorded : AreOf g (recorded ++ p ∷ []) h
      all_recorded =
          subst (λ (l : List (Entry K)). Leads g (opening h.first) 0 (recorded ++ p ∷ []) l h.state) (sym keeps.journal)
          (one_more_leads g (opening h.first) 0 recorded keeps.done keeps.middle keeps.lead p keeps.since h.state
          (subst (λ n. RunFrom g keeps.middle n keeps.since h.state) (from_none (length keeps.done)) keeps.onward)
          (omega (arith, entries, counted, ap length keeps.journal, length-append keeps.done keeps.since))
          (sym caught_up ∙ sym keeps.changes ∙ ap (changed_by keeps.middle.rows) (sym changes)))

      -- so it may be recorded
      pub may_record : leads (recorded ++ p ∷ [])
      may_record = keeps.named.may (recorded ++ p ∷ []) (h.first, whole h.journal, h.state, all_recorded)

      -- and then nothing is left to publish
      pub keeps_recorded : Keeps g rows leads (record mirror { pending = [] }) (recorded ++ p ∷ []) h
      keeps_recorded = record {
        named = keeps.named;
        done = whole h.journal;
        since = [];
        middle = h.state;
        journal = sym (append-nil (whole h.journal));
        lead = all_recorded;
        onward = refl;
        changes = sym caught_up;
        follows = keeps.follows;
      }

  -- the opening state, of which the copy has the rows
  pub keeps_opened : (named : IsNamed g rows leads) (h : History K T F I) (mirror : Mirrored) → h.state ≡ opening h.first → whole h.journal ≡ [] → mirror.rows ≡ h.state.rows → mirror.pending ≡ []
      → Follows mirror.rows mirror.next h.state → Keeps g rows leads mirror [] h
  keeps_opened named h mirror new none caught_up nothing follows = record {
    named = named;
    done = [];
    since = [];
    middle = opening h.first;
    journal = none;
    lead = (refl, refl);
    onward = new;
    changes = ap (changed_by (opening {K = K} {F = F} {I = I} h.first).rows) nothing ∙ ap (λ (s : State K T F I). s.rows) (sym new) ∙ sym caught_up;
    follows = follows;
  }
