-- Commands that name an object: judged, their root handle and their name looked up, and then done.
use Rattle.std.proofs.Common.{◌≡◌, ℕ, Bool, true, false, List, refl, ap, ◌∙◌, sym, subst}
use Rattle.std.specs.Prelude.{Option, None, Some, MatchOption}
use Rattle.std.specs.Option.{option_and_then, option_map}
use Rattle.ob_base.specs.declared.status.Status.TheVariants.{InvalidHandle}
use Rattle.ob_base.specs.Handle.{key_of}
use Rattle.ob_model.specs.declared.command.Place.TheVariants as place
use Rattle.ob_model.specs.declared.reply.Answer.{Answer}
use Rattle.ob_model.specs.declared.state.Held.{Held}
use Rattle.ob_model.specs.declared.state.Wanted.{Wanted}
use Rattle.ob_model.specs.State.{State, is_live, held_of}
use Rattle.ob_model.specs.Procedures.{Procedures}
use Rattle.ob_model.specs.declared.terms.Mode.{Mode}
use Rattle.ob_model.specs.Looks.{Look, LooksUp, most_reparses}
use Rattle.ob_model.specs.Grants.{first_refusal}
use Rattle.ob_model.specs.Refusals.{open_refusals, IsRefused}
use Rattle.ob_model.specs.Opens.{Opens, open_mode}
use Rattle.ob_model.specs.Creates.{Making, Creates, create_mode}
use Rattle.ob_model.specs.Step.{WithRoot, WithShadow, OpensName, CreatesIn}
use Rattle.ob_space.specs.Roots.{root_of}
use Rattle.ob_space.proofs.Stepping.{is_done}

-- a root handle that is told
module _ {K T F I : Type 0} (s t : State K T F I) (p : ℕ) (answer : Answer) (Does : Option ℕ → Type 0) where
  pub with_root_done : (root at : Option ℕ) → root_of s p root ≡ Some at → Does at → WithRoot s p root answer t Does
  with_root_done None at e does = let is : None ≡ at = cc in subst Does (sym is) does
  with_root_done (Some handle) at e does = go (option_and_then (held_of s p) (key_of handle)) e
    where
      go : (o : Option Held) → option_map (λ h. Some h.object) o ≡ Some at → MatchOption o (IsRefused s InvalidHandle answer t) (λ h. Does (Some h.object))
      go None e = cc
      go (Some h) e = let is : Some h.object ≡ at = cc in subst Does (sym is) does

-- an open that isn't refused by its judgement is one of a live process
pub judged_live : (live : Bool) (name : List ℕ) (attrs : ℕ) → first_refusal (open_refusals live name attrs) ≡ None → live ≡ true
judged_live true name attrs served = refl
judged_live false name attrs served = cc

-- an open that is judged, and not refused by that, does what comes behind its refusals
module _ {K T F I : Type 0} (g : Procedures K T F I) (s t : State K T F I) (p attrs lawful : ℕ) (answer : Answer) (live : Bool) (is : live ≡ is_live s p) where
  module _ (root : Option ℕ) (name : List ℕ) (wanted : Wanted K) where
    abbrev OpensLooked : ℕ → Option ℕ → Type 0
    OpensLooked flags at = (look : Look) × LooksUp g s p (open_mode wanted flags) most_reparses at name look × Opens g s p flags wanted look answer t

    pub opens_served : lawful ≡ attrs → first_refusal (open_refusals live name attrs) ≡ None → WithRoot s p root answer t (OpensLooked lawful) → OpensName g s p root name attrs wanted answer t
    opens_served same served done =
        is_done (open_refusals (is_live s p) name attrs) s answer t (WithRoot s p root answer t (OpensLooked attrs)) (ap (λ (b : Bool). first_refusal (open_refusals b name attrs)) (sym is) ∙ served)
        (subst (λ (n : ℕ). WithRoot s p root answer t (OpensLooked n)) same done)

-- what was looked up and then done, relative to the object of a root handle
module _ {K T F I : Type 0} (g : Procedures K T F I) (s t : State K T F I) (p attrs : ℕ) (answer : Answer)
    (root at : Option ℕ) (rooted : root_of s p root ≡ Some at) (name : List ℕ) (mode : Mode) (look : Look) (looked : LooksUp g s p mode most_reparses at name look) where
  -- where the handle to a shadow, if one is given, leads to what may be one
  pub creates_looked : (shadow d : Option ℕ) (making : Option ℕ → Making K) → ((Does : Option ℕ → Type 0) → Does d → WithShadow s p shadow answer t Does) → mode ≡ create_mode attrs
      → Creates g s p attrs (making d) look answer t → CreatesIn g s p (place.At root name) attrs shadow making answer t
  creates_looked shadow d making fit is done =
      with_root_done s t p answer (λ at. WithShadow s p shadow answer t (Does at)) root at rooted
      (fit (Does at) (look, subst (λ (m : Mode). LooksUp g s p m most_reparses at name look) is looked, done))
    where
      Does : Option ℕ → Option ℕ → Type 0
      Does at d = (look : Look) × LooksUp g s p (create_mode attrs) most_reparses at name look × Creates g s p attrs (making d) look answer t

  pub opens_looked : (wanted : Wanted K) → mode ≡ open_mode wanted attrs → Opens g s p attrs wanted look answer t
      → WithRoot s p root answer t (λ at. (look : Look) × LooksUp g s p (open_mode wanted attrs) most_reparses at name look × Opens g s p attrs wanted look answer t)
  opens_looked wanted is done =
      with_root_done s t p answer (λ at. (look : Look) × LooksUp g s p (open_mode wanted attrs) most_reparses at name look × Opens g s p attrs wanted look answer t) root at rooted
      (look, subst (λ (m : Mode). LooksUp g s p m most_reparses at name look) is looked, done)
