-- The states after a create, an open, a duplicate and the end of a pending open, with their answers, the reason for which an
-- object is opened, and the object that is made.
use Rattle.std.proofs.Common.{◌≡◌, ℕ, Bool, true, false, not, List, [], ◌∷◌, Option, None, Some, Result, Ok, Err, MatchOption, MatchResult, refl, sym, subst}
use Rattle.std.specs.Prelude.{MatchBool}
use Rattle.std.specs.Option.{option_map, option_or, option_and_then}
use Rattle.ob_base.specs.declared.status.Status.{Status}
use Rattle.ob_base.specs.declared.status.Status.TheVariants.{NoMemory, Success, InvalidHandle, InsufficientResources, ObjectTypeMismatch, ObjectNameExists, ObjectNameCollision, ProcessGone, TypeRefused}
use Rattle.ob_base.specs.Attrs.{has_flag, open_if_flag}
use Rattle.ob_base.specs.Handle.{key_of}
use Rattle.ob_model.specs.declared.command.Place.{Place}
use Rattle.ob_model.specs.declared.command.Place.TheVariants as place
use Rattle.ob_model.specs.declared.reply.Answer.{Answer}
use Rattle.ob_model.specs.declared.reply.Answer.TheVariants.{Ticket}
use Rattle.ob_model.specs.declared.reply.Given.TheVariants.{Handle}
use Rattle.ob_model.specs.declared.state.Held.{Held}
use Rattle.ob_model.specs.declared.state.Body.{Body}
use Rattle.ob_model.specs.declared.state.PendingOpen.{PendingOpen}
use Rattle.ob_model.specs.declared.state.Wanted.{Wanted}
use Rattle.ob_model.specs.State.{State, is_live, is_store_full, held_of}
use Rattle.ob_model.specs.Looks.{Look, At, Vacant, Parse, Refused, LooksUp, most_reparses}
use Rattle.ob_model.specs.declared.terms.Reason.{Reason}
use Rattle.ob_model.specs.declared.terms.Reason.TheVariants.{Opened, Created, Duplicated}
use Rattle.ob_model.specs.Procedures.{Procedures, ParseOutcome, EndsItself, EndsMade, EndsReparse, EndsRefused}
use Rattle.ob_model.specs.Settle.{settle}
use Rattle.ob_model.specs.declared.terms.GrantOptions.{GrantOptions}
use Rattle.ob_model.specs.Grants.{first_refusal, Grants, IsFreeValue, open_refusal_of, open_refusal, with_open, with_handle}
use Rattle.ob_model.specs.Types.{is_wanted_at}
use Rattle.ob_model.specs.Refusals.{gives, answers, IsRefused, Unless, create_refusals, open_refusals}
use Rattle.ob_model.specs.PendingOpens.{with_pending}
use Rattle.ob_model.specs.Parses.{EndsOpen}
use Rattle.ob_model.specs.Opens.{GivesHandle, OpensAt, Opens, options_by, open_mode}
use Rattle.ob_model.specs.Creates.{Making, is_fit, create_mode, type_made, Spot, room_refusals, make_refusal, body_made, created, dropped, Makes, Creates}
use Rattle.ob_model.specs.Processes.{Duplicates}
use Rattle.ob_model.specs.Step.{WithRoot, shadow_refusals, WithShadow, CreatesIn, CreatesAt, OpensName}

-- where there is no refusal at all, there is none of the set
behind : (first : Option Status) (told : Option ℕ) → option_or first (option_map TypeRefused told) ≡ None → told ≡ None
behind None None e = refl
behind None (Some k) e = cc
behind (Some status) told e = cc

module _ {K T F I : Type 0} (g : Procedures K T F I) (s : State K T F I) (p : ℕ) (P : Answer → State K T F I → Type 0)
    (Fits : Reason → Type 0) (IsMade : Body F I → Type 0)
    (refuses : (status : Status) → P (answers status) s)
    (drops : (status : Status) (body : Body F I) → IsMade body → P (answers status) (dropped g s body))
    (grants : (status : Status) (value m : ℕ) (asked : GrantOptions) (reason : Reason) → Fits reason → IsFreeValue s p value → open_refusal g s m reason ≡ None
    → P (gives status (Handle value)) (settle g (with_handle (with_open g s m reason) p value m asked.inherit)))
    (makes : (spot : Spot) (body : Body F I) (attrs value : ℕ) → IsMade body → IsFreeValue s p value → open_refusal_of g s.set body Created ≡ None → P (gives Success (Handle value)) (settle g (created g s p spot body attrs value))) where
  -- an answer and a state that are those
  lands : (answer other : Answer) (t u : State K T F I) → answer ≡ other → t ≡ u → P other u → P answer t
  lands answer other t u same_answer same_state h = subst (λ a. P a t) (sym same_answer) (subst (P other) (sym same_state) h)

  refused_lands : (t : State K T F I) (status : Status) (answer : Answer) → IsRefused s status answer t → P answer t
  refused_lands t status answer h = lands answer (answers status) t s h.0 h.1 (refuses status)

  pub unless_lands : (refusals : List (Bool × Status)) (t : State K T F I) (answer : Answer) (Does : Type 0) → (Does → P answer t) → Unless refusals s answer t Does → P answer t
  unless_lands refusals t answer Does does h = go (first_refusal refusals) h
    where
      go : (refusal : Option Status) → MatchOption refusal Does (λ status. IsRefused s status answer t) → P answer t
      go None h = does h
      go (Some status) h = refused_lands t status answer h

  with_root_lands : (t : State K T F I) (root : Option ℕ) (answer : Answer) (Does : Option ℕ → Type 0) → ((at : Option ℕ) → Does at → P answer t) → WithRoot s p root answer t Does → P answer t
  with_root_lands t None answer Does does h = does None h
  with_root_lands t (Some handle) answer Does does h = go (option_and_then (held_of s p) (key_of handle)) h
    where
      go : (o : Option Held) → MatchOption o (IsRefused s InvalidHandle answer t) (λ x. Does (Some x.object)) → P answer t
      go None h = refused_lands t InvalidHandle answer h
      go (Some x) h = does (Some x.object) h

  with_shadow_lands : (t : State K T F I) (shadow : Option ℕ) (answer : Answer) (Does : Option ℕ → Type 0) → ((d : Option ℕ) → Does d → P answer t) → WithShadow s p shadow answer t Does → P answer t
  with_shadow_lands t None answer Does does h = does None h
  with_shadow_lands t (Some handle) answer Does does h = go (option_and_then (held_of s p) (key_of handle)) h
    where
      go : (o : Option Held)
          → MatchOption o (IsRefused s InvalidHandle answer t) (λ x. Unless (shadow_refusals s x.object) s answer t (Does (Some x.object))) → P answer t
      go None h = refused_lands t InvalidHandle answer h
      go (Some x) h = unless_lands (shadow_refusals s x.object) t answer (Does (Some x.object)) (does (Some x.object)) h

  gives_handle_lands : (t : State K T F I) (m : ℕ) (asked : GrantOptions) (reason : Reason) (status : Status) (answer : Answer) → Fits reason → GivesHandle g s p m asked reason status answer t → P answer t
  gives_handle_lands t m asked reason status answer fits h = go h.0 h.1 h.2 h.3
    where
      go : (result : Result ℕ Status) (u : State K T F I) → Grants g s p m asked reason result u
          → MatchResult result (λ value. (answer ≡ gives status (Handle value)) × (t ≡ settle g u)) (λ refusal. IsRefused s refusal answer t) → P answer t
      go (Ok value) u granted h =
          lands answer (gives status (Handle value)) t (settle g u) h.0 h.1 (subst (λ v. P (gives status (Handle value)) (settle g v)) (sym granted.2) (grants status value m asked reason fits granted.1 (behind _ _ granted.0)))
      go (Err refusal) u granted h = refused_lands t refusal answer h

  opens_at_lands : (t : State K T F I) (attrs : ℕ) (wanted : Wanted K) (status : Status) (m : ℕ) (answer : Answer) → Fits Opened → OpensAt g s p attrs wanted status m answer t → P answer t
  opens_at_lands t attrs wanted status m answer fits h =
      unless_lands ((not (is_wanted_at g s m wanted), ObjectTypeMismatch) ∷ []) t answer
      (GivesHandle g s p m (options_by attrs) Opened status answer t)
      (λ does. gives_handle_lands t m (options_by attrs) Opened status answer fits does) h

  makes_lands : (t : State K T F I) (attrs : ℕ) (making : Making K) (spot : Spot) (answer : Answer) → IsMade (body_made g making) → Makes g s p attrs making spot answer t → P answer t
  makes_lands t attrs making spot answer made h = unless_lands (room_refusals s p spot) t answer _ (go (make_refusal g making)) h
    where
      Made : Type 0
      Made = (value : ℕ) × IsFreeValue s p value × (answer ≡ gives Success (Handle value)) × (t ≡ settle g (created g s p spot (body_made g making) attrs value))

      DroppedFor : ℕ → Type 0
      DroppedFor k = (answer ≡ answers (TypeRefused k)) × (t ≡ dropped g s (body_made g making))

      opened : (refusal : Option ℕ) → open_refusal_of g s.set (body_made g making) Created ≡ refusal → MatchOption refusal Made DroppedFor → P answer t
      opened None taken h =
          lands answer (gives Success (Handle h.0)) t (settle g (created g s p spot (body_made g making) attrs h.0)) h.2 h.3 (makes spot (body_made g making) attrs h.0 made h.1 taken)
      opened (Some k) refused h = lands answer (answers (TypeRefused k)) t (dropped g s (body_made g making)) h.0 h.1 (drops (TypeRefused k) (body_made g making) made)

      go : (refusal : Option ℕ)
          → MatchOption refusal (MatchOption (open_refusal_of g s.set (body_made g making) Created) Made DroppedFor) (λ k. IsRefused s (TypeRefused k) answer t) → P answer t
      go None h = opened (open_refusal_of g s.set (body_made g making) Created) refl h
      go (Some k) h = refused_lands t (TypeRefused k) answer h

  creates_lands : (t : State K T F I) (attrs : ℕ) (making : Making K) (look : Look) (answer : Answer) → Fits Opened → IsMade (body_made g making) → Creates g s p attrs making look answer t → P answer t
  creates_lands t attrs making (Refused status) answer fits made h = refused_lands t status answer h
  creates_lands t attrs making (At m) answer fits made h = go (has_flag open_if_flag attrs) h
    where
      go : (opens : Bool) → MatchBool opens (OpensAt g s p attrs (type_made making) ObjectNameExists m answer t) (IsRefused s ObjectNameCollision answer t) → P answer t
      go true h = opens_at_lands t attrs (type_made making) ObjectNameExists m answer fits h
      go false h = refused_lands t ObjectNameCollision answer h
  creates_lands t attrs making (Parse m rest n) answer fits made h = absurd h
  creates_lands t attrs making (Vacant d c) answer fits made h = makes_lands t attrs making (Some (d, c)) answer made h

  creates_in_lands : (t : State K T F I) (where_to : Place) (attrs : ℕ) (shadow : Option ℕ) (making : Option ℕ → Making K) (answer : Answer)
      → Fits Opened → ((d : Option ℕ) → IsMade (body_made g (making d))) → CreatesIn g s p where_to attrs shadow making answer t → P answer t
  creates_in_lands t (place.At root name) attrs shadow making answer fits made h =
      with_root_lands t root answer (λ at. WithShadow s p shadow answer t (Does at))
      (λ at. with_shadow_lands t shadow answer (Does at) (λ d does. creates_lands t attrs (making d) does.0 answer fits (made d) does.2)) h
    where
      Does : Option ℕ → Option ℕ → Type 0
      Does at d = (look : Look) × LooksUp g s p (create_mode attrs) most_reparses at name look × Creates g s p attrs (making d) look answer t
  creates_in_lands t place.Unnamed attrs shadow making answer fits made h =
      with_shadow_lands t shadow answer (λ d. Makes g s p attrs (making d) None answer t) (λ d. makes_lands t attrs (making d) None answer (made d)) h

  -- a create
  pub creates_at_lands : (t : State K T F I) (where_to : Place) (attrs : ℕ) (shadow : Option ℕ) (making : Option ℕ → Making K) (answer : Answer)
      → Fits Opened → ((d : Option ℕ) → IsMade (body_made g (making d))) → CreatesAt g s p where_to attrs shadow making answer t → P answer t
  creates_at_lands t where_to attrs shadow making answer fits made h =
      unless_lands (create_refusals (is_live s p) (is_fit (making None)) where_to attrs) t answer (CreatesIn g s p where_to attrs shadow making answer t)
      (creates_in_lands t where_to attrs shadow making answer fits made) h

  -- a duplicate into this process
  pub duplicates_lands : (t : State K T F I) (from handle : ℕ) (inherit : Bool) (answer : Answer) → Fits Duplicated → Duplicates g s from handle p inherit answer t → P answer t
  duplicates_lands t from handle inherit answer fits h =
      unless_lands ((not (is_live s from), ProcessGone) ∷ (not (is_live s p), ProcessGone) ∷ []) t answer
      (MatchOption (option_and_then (held_of s from) (key_of handle)) (IsRefused s InvalidHandle answer t) Given) (go (option_and_then (held_of s from) (key_of handle))) h
    where
      Given : Held → Type 0
      Given x = GivesHandle g s p x.object (record { inherit = inherit; exclusive = false }) Duplicated Success answer t

      go : (o : Option Held) → MatchOption o (IsRefused s InvalidHandle answer t) Given → P answer t
      go None h = refused_lands t InvalidHandle answer h
      go (Some x) h = gives_handle_lands t x.object (record { inherit = inherit; exclusive = false }) Duplicated Success answer fits h

  module _ (waits : (attrs : ℕ) (wanted : Wanted K) (m : ℕ) (rest : List ℕ) (n : ℕ) → P (Ticket s.next_id) (settle g (with_pending s p attrs wanted m rest n))) where
    opens_lands : (t : State K T F I) (attrs : ℕ) (wanted : Wanted K) (look : Look) (answer : Answer) → Fits Opened → Opens g s p attrs wanted look answer t → P answer t
    opens_lands t attrs wanted (Refused status) answer fits h = refused_lands t status answer h
    opens_lands t attrs wanted (Vacant d c) answer fits h = absurd h
    opens_lands t attrs wanted (Parse m rest n) answer fits h =
        unless_lands ((is_store_full s, InsufficientResources) ∷ []) t answer ((answer ≡ Ticket s.next_id) × (t ≡ settle g (with_pending s p attrs wanted m rest n)))
        (λ does. lands answer (Ticket s.next_id) t (settle g (with_pending s p attrs wanted m rest n)) does.0 does.1 (waits attrs wanted m rest n)) h
    opens_lands t attrs wanted (At m) answer fits h = opens_at_lands t attrs wanted Success m answer fits h

    -- an open
    pub opens_name_lands : (t : State K T F I) (root : Option ℕ) (name : List ℕ) (attrs : ℕ) (wanted : Wanted K) (answer : Answer) → Fits Opened → OpensName g s p root name attrs wanted answer t → P answer t
    opens_name_lands t root name attrs wanted answer fits h =
        unless_lands (open_refusals (is_live s p) name attrs) t answer (WithRoot s p root answer t Does)
        (with_root_lands t root answer Does (λ at does. opens_lands t attrs wanted does.0 answer fits does.2)) h
      where
        Does : Option ℕ → Type 0
        Does at = (look : Look) × LooksUp g s p (open_mode wanted attrs) most_reparses at name look × Opens g s p attrs wanted look answer t

    -- what a parse leads to, in the state in which it is judged
    pub ends_open_lands : (t : State K T F I) (x : PendingOpen K) (outcome : Option (ParseOutcome F I)) (answer : Answer) → Fits Opened → x.process ≡ p → EndsOpen g s x outcome answer t → P answer t
    ends_open_lands t x None answer fits e h = refused_lands t NoMemory answer h
    ends_open_lands t x (Some EndsItself) answer fits e h =
        opens_at_lands t x.attrs x.wanted Success x.object answer fits (subst (λ q. OpensAt g s q x.attrs x.wanted Success x.object answer t) e h)
    ends_open_lands t x (Some (EndsMade face inner)) answer fits e h =
        opens_at_lands t x.attrs x.wanted Success x.ticket answer fits (subst (λ q. OpensAt g s q x.attrs x.wanted Success x.ticket answer t) e h)
    ends_open_lands t x (Some (EndsReparse text)) answer fits e h =
        opens_lands t x.attrs x.wanted h.0 answer fits (subst (λ q. Opens g s q x.attrs x.wanted h.0 answer t) e h.2)
    ends_open_lands t x (Some (EndsRefused k)) answer fits e h = refused_lands t (TypeRefused k) answer h
