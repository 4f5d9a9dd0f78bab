-- The laws of publications that lead through a run.
use Rattle.std.proofs.Common.{◌≡◌, ◌∙◌, ℕ, suc, ◌+◌, List, [], ◌∷◌, ◌++◌, length, refl, ap, sym, subst, arith, append_assoc, length-append}
use Rattle.std.proofs.lemmas.List.{append-nil}
use Rattle.ob_model.specs.Procedures.{Procedures}
use Rattle.ob_model.specs.Run.{Entry, RunFrom}
use Rattle.ob_model.specs.State.{State}
use Rattle.ob_rows.specs.Changes.{changed_by}
use Rattle.ob_published.specs.declared.publication.Publication.{Publication}
use Rattle.ob_published.specs.Publications.{published_rows, total_entries}
use Rattle.ob_published.specs.Leads.{FirstLead, Leads, LeadsIsRun, OneMoreLeads}

module _ {K T F I : Type 0} (g : Procedures K T F I) where
  abbrev S : Type 0
  S = State K T F I

  abbrev Es : Type 0
  Es = List (Entry K)

  after_none : (n : ℕ) → n ≡ n + 0
  after_none n = omega arith

  further : (n : ℕ) (now later : Es) → (n + length now) + length later ≡ n + length (now ++ later)
  further n now later = omega (arith, length-append now later)

  -- runs, one after the other
  pub runs_joined : (s : S) (n : ℕ) (es : Es) (t : S) (fs : Es) (u : S) → RunFrom g s n es t → RunFrom g t (n + length es) fs u → RunFrom g s n (es ++ fs) u
  runs_joined s n [] t fs u run later =
      subst (λ (x : S). RunFrom g x n fs u) run (subst (λ m. RunFrom g t m fs u) (sym (after_none n)) later)
  runs_joined s n (e ∷ es) t fs u run later = (
    run.0,
    run.1,
    run.2,
    runs_joined run.0 (n + 1) es t fs u run.3 (subst (λ m. RunFrom g t m fs u) (one_less n (length es)) later),
  )
    where
      one_less : (n m : ℕ) → n + suc m ≡ (n + 1) + m
      one_less n m = omega arith

  one_more : (s : S) (n : ℕ) (ps : List Publication) (es : Es) (t : S) → Leads g s n ps es t → (p : Publication) (now : Es) (u : S) → RunFrom g t (n + length es) now u
      → length now ≡ p.entries → u.rows ≡ changed_by t.rows p.changes.items → Leads g s n (ps ++ p ∷ []) (es ++ now) u
  one_more s n [] es t leads p now u run counted changed =
      let at : n + length es ≡ n = ap (λ (l : Es). n + length l) leads.0 ∙ sym (after_none n) in (
        now,
        [],
        u,
        ap (λ (l : Es). l ++ now) leads.0 ∙ sym (append-nil now),
        counted,
        subst (λ (x : S). RunFrom g x n now u) leads.1 (subst (λ m. RunFrom g t m now u) at run),
        changed ∙ ap (λ (x : S). changed_by x.rows p.changes.items) leads.1,
        (refl, refl),
      )
  one_more s n (q ∷ ps) es t leads p now u run counted changed = (
    leads.0,
    leads.1 ++ now,
    leads.2,
    ap (λ (l : Es). l ++ now) leads.3 ∙ append_assoc leads.0 leads.1 now,
    leads.4,
    leads.5,
    leads.6,
    one_more leads.2 (n + length leads.0) ps leads.1 t leads.7 p now u
        (subst (λ m. RunFrom g t m now u) (ap (λ (l : Es). n + length l) leads.3 ∙ sym (further n leads.0 leads.1)) run) counted changed,
  )

  is_run : (s : S) (n : ℕ) (ps : List Publication) (es : Es) (t : S) → Leads g s n ps es t
      → RunFrom g s n es t × (length es ≡ total_entries ps) × (t.rows ≡ published_rows s.rows ps)
  is_run s n [] es t leads = (subst (λ (l : Es). RunFrom g s n l t) (sym leads.0) leads.1, ap length leads.0, ap (λ (x : S). x.rows) leads.1)
  is_run s n (p ∷ ps) es t leads =
      let more = is_run leads.2 (n + length leads.0) ps leads.1 t leads.7 in (
        subst (λ (l : Es). RunFrom g s n l t) (sym leads.3) (runs_joined s n leads.0 leads.2 leads.1 t leads.5 more.0),
        ap length leads.3 ∙ omega (arith, length-append leads.0 leads.1, leads.4, more.1),
        more.2 ∙ ap (λ rows. published_rows rows ps) leads.6,
      )

  first_lead : (s : S) (n : ℕ) (ps later : List Publication) (es : Es) (t : S) → Leads g s n (ps ++ later) es t
      → (first : Es) × (rest : Es) × (u : S) × (es ≡ first ++ rest) × Leads g s n ps first u × Leads g u (n + length first) later rest t
  first_lead s n [] later es t leads = ([], es, s, refl, (refl, refl), subst (λ m. Leads g s m later es t) (after_none n) leads)
  first_lead s n (p ∷ ps) later es t leads =
      let more = first_lead leads.2 (n + length leads.0) ps later leads.1 t leads.7 in (
        leads.0 ++ more.0,
        more.1,
        more.2,
        leads.3 ∙ ap (λ (l : Es). leads.0 ++ l) more.3 ∙ sym (append_assoc leads.0 more.0 more.1),
        (leads.0, more.0, leads.2, refl, leads.4, leads.5, leads.6, more.4),
        subst (λ m. Leads g more.2 m later more.1 t) (further n leads.0 more.0) more.5,
      )

pub one_more_leads : {K T F I : Type 0} → OneMoreLeads K T F I
one_more_leads g = one_more g

pub leads_is_run : {K T F I : Type 0} → LeadsIsRun K T F I
leads_is_run g = is_run g

pub first_leads : {K T F I : Type 0} → FirstLead K T F I
first_leads g = first_lead g
