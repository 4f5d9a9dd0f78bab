-- Parts of the lines that speak of processes, each with one reading.
use Rattle.std.proofs.Common.{◌≡◌, ◌≢◌, ℕ, Bool, true, false, List, ◌∷◌, ◌++◌, drop, refl, ap, sym, ◌∙◌, codes, arith}
use Rattle.ob_parts.specs.declared.handle.HandleForm.{HandleForm}
use Rattle.ob_parts.specs.Text.{Lacks}
use Rattle.ob_parts.specs.Parts.{IsHandle, BeginsWithHandle, BeginsWithProcess, BeginsWithInherit, SetsProcess}
use Rattle.ob_parts.proofs.Cuts.{lacks_no_cut}
use Rattle.ob_parts.proofs.Spelled.{variable_lacks}
use Rattle.ob_parts.proofs.Handles.{handle_lacks, handle_alike}
use Rattle.ob_parts.proofs.Readings.{apart, moved, spaced, spaced_alike}

-- bytes that are cut at their first space begin with no other handle
pub handle_parts : (bytes spelled rest : List ℕ) (h : HandleForm (List ℕ)) (r : List ℕ) → bytes ≡ spelled ++ (0x20 ∷ rest) → Lacks 0x20 spelled
    → BeginsWithHandle bytes h r → IsHandle spelled h × (rest ≡ r)
handle_parts bytes spelled rest h r e l (other, is, f) =
    let same : (spelled ≡ other) × (rest ≡ r) = spaced_alike bytes spelled rest other r l (handle_lacks other h is) e f in
    (moved (λ x. IsHandle x h) spelled other same.0 is, same.1)

pub handle_uncut : (bytes : List ℕ) (h : HandleForm (List ℕ)) (r : List ℕ) → Lacks 0x20 bytes → ¬ BeginsWithHandle bytes h r
handle_uncut bytes h r l (spelled, is, e) = lacks_no_cut 0x20 bytes spelled r l (spaced bytes spelled r e)

pub handle_first_alike : (bytes : List ℕ) (h : HandleForm (List ℕ)) (r : List ℕ) (h' : HandleForm (List ℕ)) (r' : List ℕ)
    → BeginsWithHandle bytes h r → BeginsWithHandle bytes h' r' → (h ≡ h') × (r ≡ r')
handle_first_alike bytes h r h' r' (spelled, is, e) b =
    let parts = handle_parts bytes spelled r h' r' (spaced bytes spelled r e) (handle_lacks spelled h is) b in
    (handle_alike spelled h h' is parts.0, parts.1)

-- and with no other process variable
pub process_parts : (bytes variable rest p r : List ℕ) → bytes ≡ variable ++ (0x20 ∷ rest) → Lacks 0x20 variable → BeginsWithProcess bytes p r → (variable ≡ p) × (rest ≡ r)
process_parts bytes variable rest p r e l (is, f) = spaced_alike bytes variable rest p r l (variable_lacks p is.0) e f

pub process_uncut : (bytes p r : List ℕ) → Lacks 0x20 bytes → ¬ BeginsWithProcess bytes p r
process_uncut bytes p r l (is, e) = lacks_no_cut 0x20 bytes p r l (spaced bytes p r e)

pub process_alike : (bytes p r p' r' : List ℕ) → BeginsWithProcess bytes p r → BeginsWithProcess bytes p' r' → (p ≡ p') × (r ≡ r')
process_alike bytes p r p' r' (is, e) b = process_parts bytes p r p' r' (spaced bytes p r e) (variable_lacks p is.0) b

-- bytes begin with one inheritance at most
pub inherit_alike : (bytes : List ℕ) (i : Bool) (r : List ℕ) (i' : Bool) (r' : List ℕ) → BeginsWithInherit bytes i r → BeginsWithInherit bytes i' r'
    → (i ≡ i') × (r ≡ r')
inherit_alike bytes true r true r' e f = (refl, ap (drop 8) (sym e ∙ f))
inherit_alike bytes true r false r' e f = absurd (apart 0x69 0x70 (sym e ∙ f) (omega arith))
inherit_alike bytes false r true r' e f = absurd (apart 0x70 0x69 (sym e ∙ f) (omega arith))
inherit_alike bytes false r false r' e f = (refl, ap (drop 6) (sym e ∙ f))

pub no_inherit : (bytes : List ℕ) → ((rest : List ℕ) → bytes ≢ codes "plain " ++ rest) → ((rest : List ℕ) → bytes ≢ codes "inherit " ++ rest)
    → (i : Bool) (r : List ℕ) → ¬ BeginsWithInherit bytes i r
no_inherit bytes plain inherit true r e = inherit r e
no_inherit bytes plain inherit false r e = plain r e

-- one process variable is set
pub set_process_alike : (bytes p p' : List ℕ) → SetsProcess bytes p → SetsProcess bytes p' → p ≡ p'
set_process_alike bytes p p' (is, e) (is', f) =
    ap (drop 1) (sym e ∙ f)
