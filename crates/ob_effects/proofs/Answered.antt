-- A request that is answered, and the variables after it.
use Rattle.std.proofs.Common.{◌≡◌, ℕ, ◌==◌, ◌&&◌, Bool, true, false, cond, List, [], ◌∷◌, Option, Some, None, refl, sym, ap, ◌∙◌, subst, inl, inr}
use Rattle.std.specs.Borrow.{Bor}
use Rattle.std.specs.List.{find, filter}
use Rattle.std.specs.Option.{is_some}
use Rattle.std.specs.Prelude.{MatchOption, map, not}
use Rattle.ob_base.specs.declared.status.Status.{Status}
use Rattle.ob_base.specs.declared.status.Status.TheVariants.{Success, ProcessGone, InsufficientResources}
use Rattle.ob_model.specs.declared.command.Command.{Command}
use Rattle.ob_model.specs.declared.command.Command.TheVariants as command
use Rattle.ob_model.specs.declared.reply.Reply.{Reply}
use Rattle.ob_model.specs.declared.reply.Answer.TheVariants.{Done}
use Rattle.ob_model.specs.declared.reply.Event.TheVariants.{Start}
use Rattle.ob_model.specs.declared.reply.Given.{Given}
use Rattle.ob_model.specs.declared.reply.Given.TheVariants.{Nothing, Handle, Text, Process, Page}
use Rattle.ob_model.specs.declared.state.Held.{Held}
use Rattle.ob_model.specs.Grants.{first_refusal}
use Rattle.ob_model.specs.Processes.{values_in, is_crowded, begun}
use Rattle.ob_model.specs.Refusals.{gives, IsRefused}
use Rattle.ob_model.specs.Settle.{settle}
use Rattle.ob_model.specs.State.{held_of, is_live}
use Rattle.ob_model.specs.Sound.{IsSound}
use Rattle.ob_model.specs.Step.{Step}
use Rattle.ob_runner.specs.Completes.{Completes}
use Rattle.ob_runner.proofs.Chains.{completes_at_once}
use Rattle.ob_standard.specs.Standard.{StandardKind, standard}
use Rattle.ob_lines.specs.declared.change.Change.{Change}
use Rattle.ob_lines.specs.declared.change.Change.TheVariants as change
use Rattle.ob_lines.specs.declared.form.Form.{Form}
use Rattle.ob_lines.specs.declared.form.Form.TheVariants.{Asks}
use Rattle.ob_lines.specs.declared.request.Request.{Request}
use Rattle.ob_lines.specs.declared.request.Request.TheVariants as request
use Rattle.ob_lines.specs.Changes.{change_of, change_seen}
use Rattle.ob_lines.specs.Script.{found_seen}
use Rattle.ob_lines.specs.Grammar.{form_seen, request_seen}
use Rattle.ob_requests.specs.Variables.{Variables, handed_on, is_among, with_process, with_variables}
use Rattle.ob_requests.specs.Tables.{IsKept}
use Rattle.ob_requests.specs.Commands.{applied, changed, given_process, with_child}
use Rattle.ob_standard_core.specs.Machine.{Space}
use Rattle.ob_effects.specs.Effects.{IsAsked, IsAnswered}
use Rattle.ob_effects.specs.Waiting.{Steps}

-- a request that is asked leaves the variables that its change says
pub answered : (r : Request (List ℕ)) (p : ℕ) (variables variables' : Variables) (s s' : Space) (reply : Reply) (ch : Change (List ℕ)) → ch ≡ change_of r → IsAsked r p variables s reply s'
    → variables' ≡ changed ch p reply variables → IsAnswered r p variables s reply variables' s'
answered r p variables variables' s s' reply ch is asked left = (asked, left ∙ ap (λ x. changed x p reply variables) is)

-- the form that asks for something, as it is seen
pub asks_seen : (found : Option (Form (Bor (List ℕ)))) (form : Form (Bor (List ℕ))) (process : Bor (List ℕ)) (r : Request (Bor (List ℕ)))
    → found ≡ Some form → form ≡ Asks process r → found_seen found ≡ Some (Asks process.now (request_seen r))
asks_seen found form process r e f =
    let P : Form (Bor (List ℕ)) → Type 0 = λ x. found_seen found ≡ Some (form_seen x) in subst P f (ap found_seen e)

-- ---- a child

abbrev child_refusals : Space → ℕ → Bool → List (Bool × Status)
child_refusals s p inherit = (not (is_live s p), ProcessGone) ∷ (is_crowded s p inherit, InsufficientResources) ∷ []

-- a child that is given has the next number, and the values of its handles are reported
child_given : (s t : Space) (p : ℕ) (inherit : Bool) (reply : Reply) (n : ℕ) (hs : List ℕ) → Step standard s (Start p (command.NewProcess inherit)) (Done reply) t
    → reply.given ≡ Process n hs → (n ≡ s.next_process) × (hs ≡ values_in t n)
child_given s t p inherit reply n hs step given = go (first_refusal (child_refusals s p inherit)) step
  where
    Begins : Type 0
    Begins = let u = begun standard s p inherit in (Done reply ≡ gives Success (Process s.next_process (values_in u s.next_process))) × (t ≡ settle standard u)

    told : Done reply ≡ gives Success (Process s.next_process (values_in (begun standard s p inherit) s.next_process))
        → Process n hs ≡ Process s.next_process (values_in (begun standard s p inherit) s.next_process)
    told same = sym given ∙ (let it : reply ≡ record { status = Success; given = Process s.next_process (values_in (begun standard s p inherit) s.next_process) } = cc in ap (λ (r : Reply). r.given) it)

    go : (refusal : Option Status) → MatchOption refusal Begins (λ status. IsRefused s status (Done reply) t) → (n ≡ s.next_process) × (hs ≡ values_in t n)
    go None (same, left) =
        let both = told same in
        let number : n ≡ s.next_process = cc in
        let values : hs ≡ values_in (begun standard s p inherit) s.next_process = cc in
        (number, values ∙ (ap (values_in (begun standard s p inherit)) (sym number) ∙ ap (λ (x : Space). values_in x n) (sym left)))
    go (Some status) (same, left) =
        let it : reply ≡ record { status = status; given = Nothing } = cc in
        let none : Nothing ≡ Process n hs = sym (ap (λ (r : Reply). r.given) it) ∙ given in cc

-- so it has where the command that makes it is run
pub child_told : (c : Command StandardKind) (p : ℕ) (steps : Steps) (s t : Space) (reply : Reply) (inherit : Bool) (n : ℕ) (hs : List ℕ) → IsSound s → c ≡ command.NewProcess inherit
    → Completes standard (Start p c) steps s reply t → reply.given ≡ Process n hs → (n ≡ s.next_process) × (hs ≡ values_in t n)
child_told c p steps s t reply inherit n hs sound is chain given =
    let P : Command StandardKind → Type 0 = λ x. Completes standard (Start p x) steps s reply t in
    child_given s t p inherit reply n hs (completes_at_once standard p (command.NewProcess inherit) steps s t reply sound refl (subst P is chain)) given

-- a value is among those of a process where it holds a handle of that value
holds_among : (handles : List Held) (n v : ℕ) → is_some (find (λ h. h.process == n && h.value == v) handles) ≡ is_among (map (λ h. h.value) (filter (λ h. h.process == n) handles)) v
holds_among [] n v = refl
holds_among (h ∷ handles) n v = go (h.process == n) (h.value == v) refl (holds_among handles n v)
  where
    go : (a b : Bool) → (h.value == v) ≡ b → is_some (find (λ x. x.process == n && x.value == v) handles) ≡ is_among (map (λ x. x.value) (filter (λ x. x.process == n) handles)) v
        → is_some (cond (a && b) (Some h) (find (λ x. x.process == n && x.value == v) handles))
        ≡ is_among (map (λ x. x.value) (cond a (h ∷ filter (λ x. x.process == n) handles) (filter (λ x. x.process == n) handles))) v
    go true true is later = rw is refl
    go true false is later = rw is later
    go false b is later = later

-- the variables that a child keeps are those that are handed on to it
pub kept_variables : (s : Space) (child : ℕ) (old new : List ℕ → ℕ) → ((variable : List ℕ) → IsKept (λ v passed. passed ≡ is_some (held_of s child v)) (old variable) (new variable))
    → new ≡ handed_on old true (values_in s child)
kept_variables s child old new kept = λ i w. one w (kept w) i
  where
    among : (w : List ℕ) (b : Bool) → b ≡ is_some (held_of s child (old w)) → is_among (values_in s child) (old w) ≡ b
    among w b told = sym (told ∙ holds_among s.handles child (old w))

    one : (w : List ℕ) → IsKept (λ v passed. passed ≡ is_some (held_of s child v)) (old w) (new w) → new w ≡ handed_on old true (values_in s child) w
    one w (inl (same, told)) = same ∙ sym (ap (λ (b : Bool). cond b (old w) 0) (among w true told))
    one w (inr (inl (none, told))) = none ∙ sym (ap (λ (b : Bool). cond b (old w) 0) (among w false told))
    one w (inr (inr (none, zero))) = none ∙ (go (is_among (values_in s child) (old w)) ∙ sym (ap (λ (n : ℕ). cond (is_among (values_in s child) (old w)) n 0) zero))
      where
        go : (b : Bool) → ◌≡◌ {A = ℕ} 0 (cond b 0 0)
        go true = refl
        go false = refl

-- a child's variables, where those that it may get are its parent's or none
handed_variables : (values own : List ℕ → ℕ) (inherit : Bool) (hs : List ℕ) → own ≡ (λ variable. cond inherit (values variable) 0) → handed_on own true hs ≡ handed_on values inherit hs
handed_variables values own true hs is = ap (λ (x : List ℕ → ℕ). handed_on x true hs) is
handed_variables values own false hs is = ap (λ (x : List ℕ → ℕ). handed_on x true hs) is ∙ (λ i w. go (is_among hs 0) i)
  where
    go : (b : Bool) → ◌≡◌ {A = ℕ} (cond b 0 0) 0
    go true = refl
    go false = refl

-- the variables with a child
pub child_variables : (old mid begun new : Variables) (p : ℕ) (variable : List ℕ) (inherit : Bool) (n : ℕ) (hs hs' : List ℕ) (own handed : List ℕ → ℕ) (given : Given)
    → mid ≡ old → own ≡ (λ w. cond inherit (old.values p w) 0) → handed ≡ handed_on own true hs' → hs ≡ hs' → given ≡ Process n hs
    → begun ≡ with_variables mid n handed → new ≡ with_process begun variable n → new ≡ with_child old p variable inherit given
child_variables old mid begun new p variable inherit n hs hs' own handed given same is_own is_handed is_hs is_given first last =
    let numbers : handed ≡ handed_on (old.values p) inherit hs = is_handed ∙ (ap (handed_on own true) (sym is_hs) ∙ handed_variables (old.values p) own inherit hs is_own) in
    last ∙ (ap (λ (x : Variables). with_process x variable n) first
    ∙ (ap (λ (x : Variables). with_process (with_variables x n handed) variable n) same
    ∙ (ap (λ (x : List ℕ → ℕ). with_process (with_variables old n x) variable n) numbers ∙ sym (ap (with_child old p variable inherit) is_given))))

-- the variables without one
pub childless_variables : (old mid new : Variables) (p : ℕ) (variable : List ℕ) (inherit : Bool) (thing : Given) → ((n : ℕ) (hs : List ℕ) → thing ≡ Process n hs → ⊥)
    → mid ≡ old → new ≡ with_process mid variable (given_process thing) → new ≡ with_child old p variable inherit thing
childless_variables old mid new p variable inherit thing none same last =
    last ∙ (ap (λ (x : Variables). with_process x variable (given_process thing)) same ∙ go thing none)
  where
    go : (thing : Given) → ((n : ℕ) (hs : List ℕ) → thing ≡ Process n hs → ⊥) → with_process old variable (given_process thing) ≡ with_child old p variable inherit thing
    go Nothing none = refl
    go (Handle handle) none = refl
    go (Text text) none = refl
    go (Process n hs) none = absurd (none n hs refl)
    go (Page entries context) none = refl

-- what a reply changes except for a child is applied whole
pub applied_whole : (c : Change (Bor (List ℕ))) (p : ℕ) (reply : Reply) (variables : Variables) → ((variable : Bor (List ℕ)) (inherit : Bool) → c ≡ change.SetsProcess variable inherit → ⊥)
    → applied (change_seen c) p reply variables ≡ changed (change_seen c) p reply variables
applied_whole change.Nothing p reply variables other = refl
applied_whole (change.Sets variable) p reply variables other = refl
applied_whole (change.SetsFor to variable) p reply variables other = refl
applied_whole (change.GivesUp variable) p reply variables other = refl
applied_whole (change.TurnsPage variable) p reply variables other = refl
applied_whole change.GivesAllUp p reply variables other = refl
applied_whole (change.SetsProcess variable inherit) p reply variables other = absurd (other variable inherit refl)
