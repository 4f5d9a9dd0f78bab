-- Changes that are listed one after another lead on.
use Rattle.std.proofs.Common.{◌≡◌, ◌∙◌, List, [], ◌∷◌, ◌++◌, ap, sym}
use Rattle.ob_model.specs.declared.state.Row.{Row}
use Rattle.ob_rows.specs.declared.change.RowChange.{RowChange}
use Rattle.ob_rows.specs.Changes.{after_change, changed_by}
use Rattle.ob_rows.proofs.Changes.{follow}
use Rattle.ob_mirror.specs.Mirrored.{Mirrored, LeadsOn}

-- nothing was listed
pub leads_nowhere : (old new : Mirrored) → new ≡ old → LeadsOn old new
leads_nowhere old new same base led = ap (λ (m : Mirrored). changed_by base m.pending) same ∙ led ∙ sym (ap (λ (m : Mirrored). m.rows) same)

-- one change was listed and made
pub leads_further : (inside old : Mirrored) (rows : List Row) (pending : List RowChange) (change : RowChange) → inside ≡ old → pending ≡ inside.pending ++ change ∷ []
    → rows ≡ after_change inside.rows change → (base : List Row) → changed_by base old.pending ≡ old.rows → changed_by base pending ≡ rows
leads_further inside old rows pending change same listed made base led =
    ap (changed_by base) listed ∙ follow base inside.pending (change ∷ []) ∙ ap (λ (rs : List Row). after_change rs change) (leads_nowhere old inside same base led) ∙ sym made

-- one after the other
pub leads_on : (old mid new : Mirrored) → LeadsOn old mid → LeadsOn mid new → LeadsOn old new
leads_on old mid new first later base led = later base (first base led)
