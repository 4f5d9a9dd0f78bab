-- The orders of handles that are all below a number are below the next one, and so are they with that number put behind
-- them; they stay below a number where some go.
use Rattle.std.proofs.Common.{◌≡◌, ℕ, ◌+◌, ◌<◌, Bool, List, [], ◌∷◌, ◌++◌, filter, All, arith, subst, sym}
use Rattle.std.proofs.lemmas.List.Elements.{All-filter, All-push, All-weaker}
use Rattle.ob_model.specs.declared.state.Held.{Held}

pub handles_below_next : (hs : List Held) (n : ℕ) → All (λ h. h.order < n) hs → All (λ h. h.order < n + 1) hs
handles_below_next hs n below = All-weaker (λ h. h.order < n) (λ h. h.order < n + 1) (λ h less. omega (arith, less)) hs below

pub granted_below_next : (hs ks : List Held) (h : Held) → ks ≡ hs ++ h ∷ [] → All (λ x. x.order < h.order) hs → All (λ x. x.order < h.order + 1) ks
granted_below_next hs ks h is below =
    subst (λ (xs : List Held). All (λ x. x.order < h.order + 1) xs) (sym is)
    (All-push (λ x. x.order < h.order + 1) hs h (handles_below_next hs h.order below) (omega arith))

pub kept_below_next : (hs ks : List Held) (n : ℕ) → ks ≡ hs → All (λ h. h.order < n) hs → All (λ h. h.order < n + 1) ks
kept_below_next hs ks n is below = subst (λ (xs : List Held). All (λ h. h.order < n + 1) xs) (sym is) (handles_below_next hs n below)

pub left_below : (hs ks : List Held) (n : ℕ) (stays : Held → Bool) → ks ≡ filter stays hs → All (λ h. h.order < n) hs → All (λ h. h.order < n) ks
left_below hs ks n stays is below = subst (λ (xs : List Held). All (λ h. h.order < n) xs) (sym is) (All-filter stays (λ h. h.order < n) hs below)
