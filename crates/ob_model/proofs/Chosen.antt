-- What a step that may give a handle gives: the last handle of its state, under a value that was free, and the same
-- under each other free value.
use Rattle.std.proofs.Common.{◌≡◌, ◌∙◌, ℕ, Bool, true, false, ◌&&◌, not, List, [], ◌∷◌, ◌++◌, Option, None, Some, Result, Ok, Err, MatchOption, MatchResult, refl, ap, sym, subst}
use Rattle.std.specs.Prelude.{MatchBool}
use Rattle.std.specs.Option.{option_and_then, is_some}
use Rattle.ob_base.specs.declared.status.Status.{Status}
use Rattle.ob_base.specs.declared.status.Status.TheVariants.{NoMemory, Success, InvalidHandle, InsufficientResources, ObjectTypeMismatch, ObjectNameExists, ObjectNameCollision, ProcessGone, TypeRefused}
use Rattle.ob_base.specs.Attrs.{has_flag, inherit_flag, permanent_flag, exclusive_flag, open_if_flag}
use Rattle.ob_base.specs.Handle.{key_of}
use Rattle.ob_model.specs.declared.command.Place.{Place}
use Rattle.ob_model.specs.declared.command.Place.TheVariants as place
use Rattle.ob_model.specs.declared.reply.Answer.{Answer}
use Rattle.ob_model.specs.declared.reply.Answer.TheVariants.{Ticket}
use Rattle.ob_model.specs.declared.reply.Given.TheVariants.{Handle}
use Rattle.ob_model.specs.declared.state.Held.{Held}
use Rattle.ob_model.specs.declared.state.PendingOpen.{PendingOpen}
use Rattle.ob_model.specs.declared.state.Wanted.{Wanted}
use Rattle.ob_model.specs.State.{State, is_live, is_store_full, held_of}
use Rattle.ob_model.specs.Looks.{Look, At, Vacant, Parse, Refused, LooksUp, most_reparses}
use Rattle.ob_model.specs.declared.terms.Reason.{Reason}
use Rattle.ob_model.specs.declared.terms.Reason.TheVariants.{Opened, Created, Duplicated}
use Rattle.ob_model.specs.Procedures.{Procedures, ParseOutcome, EndsItself, EndsMade, EndsReparse, EndsRefused}
use Rattle.ob_model.specs.Settle.{settle}
use Rattle.ob_model.specs.declared.terms.GrantOptions.{GrantOptions}
use Rattle.ob_model.specs.Grants.{first_refusal, Grants, IsFreeValue, open_refusal_of, opened_body, opened_set, with_open, with_handle}
use Rattle.ob_model.specs.Types.{is_wanted_at}
use Rattle.ob_model.specs.Refusals.{gives, answers, IsRefused, Unless, create_refusals, open_refusals}
use Rattle.ob_model.specs.PendingOpens.{with_pending}
use Rattle.ob_model.specs.Parses.{EndsOpen}
use Rattle.ob_model.specs.Opens.{GivesHandle, OpensAt, Opens, options_by, open_mode}
use Rattle.ob_model.specs.Creates.{Making, is_fit, create_mode, type_made, Spot, room_refusals, make_refusal, body_made, with_object, with_row, created, dropped, MakesInRoom, Makes, Creates}
use Rattle.ob_model.specs.Processes.{Duplicates}
use Rattle.ob_model.specs.Step.{WithRoot, shadow_refusals, WithShadow, CreatesIn, CreatesAt, OpensName}
use Rattle.ob_model.specs.Alike.{handle_given, process_given}
use Rattle.ob_model.specs.Choice.{answer_under, revalued}
use Rattle.ob_model.proofs.Revalued.{granted-revalued}

module _ {K T F I : Type 0} where
  -- What holds of an answer and the state that is left, where those that R admits may give a process a handle: the handle
  -- is the last, its value was free, and R admits each other free value. Where a process is told of, Sole holds.
  pub record Chooses (s : State K T F I) (p : ℕ) (Sole : Type 0) (R : Answer → State K T F I → Type 0) (a : Answer) (u : State K T F I) : Type 0 where
    pub last : (chosen : ℕ) → handle_given a ≡ Some chosen → (h : Held) × (u.handles ≡ s.handles ++ h ∷ []) × (h.process ≡ p) × (h.value ≡ chosen)
    pub free : (chosen : ℕ) → handle_given a ≡ Some chosen → IsFreeValue s p chosen
    pub under : (chosen value : ℕ) → handle_given a ≡ Some chosen → IsFreeValue s p value → R (answer_under value a) (revalued value u)
    pub told : (child : ℕ) → process_given a ≡ Some child → Sole

module _ {K T F I : Type 0} (s : State K T F I) (p : ℕ) (Sole : Type 0) where
  -- where no handle is given
  pub silent : (R : Answer → State K T F I → Type 0) (a : Answer) (u : State K T F I) → handle_given a ≡ None → ((child : ℕ) → process_given a ≡ Some child → Sole) → Chooses s p Sole R a u
  silent R a u no_handle told = record {
    last = λ chosen given. let both : None ≡ Some chosen = sym no_handle ∙ given in cc;
    free = λ chosen given. let both : None ≡ Some chosen = sym no_handle ∙ given in cc;
    under = λ chosen value given free. let both : None ≡ Some chosen = sym no_handle ∙ given in cc;
    told = told;
  }

  -- nor a process
  pub says_nothing : (R : Answer → State K T F I → Type 0) (a b : Answer) (u : State K T F I) → a ≡ b → handle_given b ≡ None → process_given b ≡ None → Chooses s p Sole R a u
  says_nothing R a b u is no_handle no_process =
      silent R a u (ap handle_given is ∙ no_handle) (λ child given. let both : None ≡ Some child = sym no_process ∙ sym (ap process_given is) ∙ given in cc)

  pub refused : (R : Answer → State K T F I → Type 0) (status : Status) (a : Answer) (u : State K T F I) → IsRefused s status a u → Chooses s p Sole R a u
  refused R status a u h = says_nothing R a (answers status) u h.0 refl refl

  -- what R admits, Q admits
  pub onward : (R Q : Answer → State K T F I → Type 0) (a : Answer) (u : State K T F I) → ((b : Answer) (v : State K T F I) → R b v → Q b v) → Chooses s p Sole R a u → Chooses s p Sole Q a u
  onward R Q a u so c = record {
    last = c.last;
    free = c.free;
    under = λ chosen value given free. so (answer_under value a) (revalued value u) (c.under chosen value given free);
    told = c.told;
  }

  pub unless_chooses : (refusals : List (Bool × Status)) (R : Answer → State K T F I → Type 0) (a : Answer) (u : State K T F I) → (R a u → Chooses s p Sole R a u)
      → Unless refusals s a u (R a u) → Chooses s p Sole (λ b v. Unless refusals s b v (R b v)) a u
  unless_chooses refusals R a u does h = go (first_refusal refusals) h
    where
      go : (refusal : Option Status) → MatchOption refusal (R a u) (λ status. IsRefused s status a u)
          → Chooses s p Sole (λ b v. MatchOption refusal (R b v) (λ status. IsRefused s status b v)) a u
      go None h = does h
      go (Some status) h = refused (λ b v. IsRefused s status b v) status a u h

  -- what is done with a handle, where there is one
  pub found_chooses : (found : Option Held) (R : Held → Answer → State K T F I → Type 0) (a : Answer) (u : State K T F I) → ((h : Held) → R h a u → Chooses s p Sole (R h) a u)
      → MatchOption found (IsRefused s InvalidHandle a u) (λ h. R h a u) → Chooses s p Sole (λ b v. MatchOption found (IsRefused s InvalidHandle b v) (λ h. R h b v)) a u
  found_chooses None R a u does h = refused (λ b v. IsRefused s InvalidHandle b v) InvalidHandle a u h
  found_chooses (Some x) R a u does h = does x h

  root_chooses : (q : ℕ) (root : Option ℕ) (R : Option ℕ → Answer → State K T F I → Type 0) (a : Answer) (u : State K T F I) → ((at : Option ℕ) → R at a u → Chooses s p Sole (R at) a u)
      → WithRoot s q root a u (λ at. R at a u) → Chooses s p Sole (λ b v. WithRoot s q root b v (λ at. R at b v)) a u
  root_chooses q None R a u does h = does None h
  root_chooses q (Some handle) R a u does h = found_chooses (option_and_then (held_of s q) (key_of handle)) (λ x. R (Some x.object)) a u (λ x. does (Some x.object)) h

  shadow_chooses : (q : ℕ) (shadow : Option ℕ) (R : Option ℕ → Answer → State K T F I → Type 0) (a : Answer) (u : State K T F I) → ((d : Option ℕ) → R d a u → Chooses s p Sole (R d) a u)
      → WithShadow s q shadow a u (λ d. R d a u) → Chooses s p Sole (λ b v. WithShadow s q shadow b v (λ d. R d b v)) a u
  shadow_chooses q None R a u does h = does None h
  shadow_chooses q (Some handle) R a u does h =
      found_chooses (option_and_then (held_of s q) (key_of handle)) (λ x b v. Unless (shadow_refusals s x.object) s b v (R (Some x.object) b v)) a u
      (λ x. unless_chooses (shadow_refusals s x.object) (R (Some x.object)) a u (does (Some x.object))) h

module _ {K T F I : Type 0} (g : Procedures K T F I) (s : State K T F I) (p : ℕ) (Sole : Type 0) where
  -- a handle comes to a state whose other handles are those from before, which then settles
  comes : (R : Answer → State K T F I → Type 0) (a : Answer) (u w : State K T F I) (status : Status) (value o : ℕ) (inherit : Bool)
      → w.handles ≡ s.handles → IsFreeValue s p value → a ≡ gives status (Handle value) → u ≡ settle g (with_handle w p value o inherit)
      → ((other : ℕ) → IsFreeValue s p other → R (gives status (Handle other)) (settle g (with_handle w p other o inherit))) → Chooses s p Sole R a u
  comes R a u w status value o inherit same free answer left each = record {
    last = λ chosen given. (
      record { process = p; value = value; object = o; inherit = inherit; order = w.next_order },
      ap (λ x. x.handles) left ∙ ap (λ hs. hs ++ record { process = p; value = value; object = o; inherit = inherit; order = w.next_order } ∷ []) same,
      refl,
      is chosen given,
    );
    free = λ chosen given. subst (IsFreeValue s p) (is chosen given) free;
    under = λ chosen other given free_too.
        subst (λ b. R b (revalued other u)) (sym (ap (answer_under other) answer))
        (subst (R (gives status (Handle other))) (sym (ap (revalued other) left ∙ granted-revalued g other w p value o inherit)) (each other free_too));
    told = λ child given. let both : None ≡ Some child = sym (ap process_given answer) ∙ given in cc;
  }
    where
      is : (chosen : ℕ) → handle_given a ≡ Some chosen → value ≡ chosen
      is chosen given = let both : Some value ≡ Some chosen = sym (ap handle_given answer) ∙ given in cc

  gives_handle_chooses : (o : ℕ) (asked : GrantOptions) (reason : Reason) (status : Status) (a : Answer) (u : State K T F I)
      → GivesHandle g s p o asked reason status a u → Chooses s p Sole (GivesHandle g s p o asked reason status) a u
  gives_handle_chooses o asked reason status a u h = go h.0 h.1 h.2 h.3
    where
      go : (result : Result ℕ Status) (w : State K T F I) → Grants g s p o asked reason result w
          → MatchResult result (λ value. (a ≡ gives status (Handle value)) × (u ≡ settle g w)) (λ refusal. IsRefused s refusal a u)
          → Chooses s p Sole (GivesHandle g s p o asked reason status) a u
      go (Ok value) w granted h =
          comes (GivesHandle g s p o asked reason status) a u (with_open g s o reason) status value o asked.inherit refl granted.1 h.0 (h.1 ∙ ap (settle g) granted.2)
          (λ other free. (Ok other, with_handle (with_open g s o reason) p other o asked.inherit, (granted.0, free, refl), (refl, refl)))
      go (Err refusal) w granted h = refused s p Sole (GivesHandle g s p o asked reason status) refusal a u h

  opens_at_chooses : (attrs : ℕ) (wanted : Wanted K) (status : Status) (o : ℕ) (a : Answer) (u : State K T F I)
      → OpensAt g s p attrs wanted status o a u → Chooses s p Sole (OpensAt g s p attrs wanted status o) a u
  opens_at_chooses attrs wanted status o a u h =
      unless_chooses s p Sole ((not (is_wanted_at g s o wanted), ObjectTypeMismatch) ∷ []) (GivesHandle g s p o (options_by attrs) Opened status) a u
      (gives_handle_chooses o (options_by attrs) Opened status a u) h

  -- what is made stands in a state, where its handle is still to come
  abbrev placed : ℕ → Making K → Spot → State K T F I
  placed attrs making spot =
      with_row
      (with_object (record s { set = opened_set g s.set (body_made g making) Created }) (opened_body g s.set (body_made g making) Created) (is_some spot && has_flag permanent_flag attrs)
      (has_flag exclusive_flag attrs)) spot s.next_id

  makes_chooses : (attrs : ℕ) (making : Making K) (spot : Spot) (a : Answer) (u : State K T F I) → Makes g s p attrs making spot a u → Chooses s p Sole (Makes g s p attrs making spot) a u
  makes_chooses attrs making spot a u h = unless_chooses s p Sole (room_refusals s p spot) (MakesInRoom g s p attrs making spot) a u (go (make_refusal g making)) h
    where
      Made : Answer → State K T F I → Type 0
      Made b v = (value : ℕ) × IsFreeValue s p value × (b ≡ gives Success (Handle value)) × (v ≡ settle g (created g s p spot (body_made g making) attrs value))

      DroppedFor : ℕ → Answer → State K T F I → Type 0
      DroppedFor k b v = (b ≡ answers (TypeRefused k)) × (v ≡ dropped g s (body_made g making))

      opened : (refusal : Option ℕ) → MatchOption refusal (Made a u) (λ k. DroppedFor k a u) → Chooses s p Sole (λ b v. MatchOption refusal (Made b v) (λ k. DroppedFor k b v)) a u
      opened None h =
          comes Made a u (placed attrs making spot) Success h.0 s.next_id (has_flag inherit_flag attrs) refl h.1 h.2 h.3 (λ other free. (other, free, refl, refl))
      opened (Some k) h = says_nothing s p Sole (DroppedFor k) a (answers (TypeRefused k)) u h.0 refl refl

      go : (refusal : Option ℕ)
          → MatchOption refusal (MatchOption (open_refusal_of g s.set (body_made g making) Created) (Made a u) (λ k. DroppedFor k a u)) (λ k. IsRefused s (TypeRefused k) a u)
          → Chooses s p Sole
          (λ b v.
          MatchOption refusal (MatchOption (open_refusal_of g s.set (body_made g making) Created) (Made b v) (λ k. DroppedFor k b v)) (λ k. IsRefused s (TypeRefused k) b v)) a u
      go None h = opened (open_refusal_of g s.set (body_made g making) Created) h
      go (Some k) h = refused s p Sole (λ b v. IsRefused s (TypeRefused k) b v) (TypeRefused k) a u h

  creates_chooses : (attrs : ℕ) (making : Making K) (look : Look) (a : Answer) (u : State K T F I) → Creates g s p attrs making look a u → Chooses s p Sole (Creates g s p attrs making look) a u
  creates_chooses attrs making (Refused status) a u h = refused s p Sole (IsRefused s status) status a u h
  creates_chooses attrs making (At o) a u h = go (has_flag open_if_flag attrs) h
    where
      go : (opens : Bool) → MatchBool opens (OpensAt g s p attrs (type_made making) ObjectNameExists o a u) (IsRefused s ObjectNameCollision a u)
          → Chooses s p Sole (λ b v. MatchBool opens (OpensAt g s p attrs (type_made making) ObjectNameExists o b v) (IsRefused s ObjectNameCollision b v)) a u
      go true h = opens_at_chooses attrs (type_made making) ObjectNameExists o a u h
      go false h = refused s p Sole (IsRefused s ObjectNameCollision) ObjectNameCollision a u h
  creates_chooses attrs making (Parse o rest n) a u h = absurd h
  creates_chooses attrs making (Vacant d c) a u h = makes_chooses attrs making (Some (d, c)) a u h

  creates_in_chooses : (where_to : Place) (attrs : ℕ) (shadow : Option ℕ) (making : Option ℕ → Making K) (a : Answer) (u : State K T F I)
      → CreatesIn g s p where_to attrs shadow making a u → Chooses s p Sole (CreatesIn g s p where_to attrs shadow making) a u
  creates_in_chooses (place.At root name) attrs shadow making a u h =
      root_chooses s p Sole p root (λ at b v. WithShadow s p shadow b v (λ d. Does at d b v)) a u
      (λ at.
      shadow_chooses s p Sole p shadow (Does at) a u
      (λ d does.
      onward s p Sole (Creates g s p attrs (making d) does.0) (Does at d) a u (λ b v k. (does.0, does.1, k)) (creates_chooses attrs (making d) does.0 a u does.2))) h
    where
      Does : Option ℕ → Option ℕ → Answer → State K T F I → Type 0
      Does at d b v = (look : Look) × LooksUp g s p (create_mode attrs) most_reparses at name look × Creates g s p attrs (making d) look b v
  creates_in_chooses place.Unnamed attrs shadow making a u h =
      shadow_chooses s p Sole p shadow (λ d. Makes g s p attrs (making d) None) a u (λ d. makes_chooses attrs (making d) None a u) h

  -- a create
  pub creates_at_chooses : (where_to : Place) (attrs : ℕ) (shadow : Option ℕ) (making : Option ℕ → Making K) (a : Answer) (u : State K T F I)
      → CreatesAt g s p where_to attrs shadow making a u → Chooses s p Sole (CreatesAt g s p where_to attrs shadow making) a u
  creates_at_chooses where_to attrs shadow making a u h =
      unless_chooses s p Sole (create_refusals (is_live s p) (is_fit (making None)) where_to attrs) (CreatesIn g s p where_to attrs shadow making) a u
      (creates_in_chooses where_to attrs shadow making a u) h

  -- a duplicate into this process
  pub duplicates_chooses : (from handle : ℕ) (inherit : Bool) (a : Answer) (u : State K T F I)
      → Duplicates g s from handle p inherit a u → Chooses s p Sole (Duplicates g s from handle p inherit) a u
  duplicates_chooses from handle inherit a u h =
      unless_chooses s p Sole ((not (is_live s from), ProcessGone) ∷ (not (is_live s p), ProcessGone) ∷ [])
      (λ b v. MatchOption (option_and_then (held_of s from) (key_of handle)) (IsRefused s InvalidHandle b v) (λ x. Does x b v)) a u
      (found_chooses s p Sole (option_and_then (held_of s from) (key_of handle)) Does a u
      (λ x. gives_handle_chooses x.object (record { inherit = inherit; exclusive = false }) Duplicated Success a u)) h
    where
      Does : Held → Answer → State K T F I → Type 0
      Does x = GivesHandle g s p x.object (record { inherit = inherit; exclusive = false }) Duplicated Success

  opens_chooses : (attrs : ℕ) (wanted : Wanted K) (look : Look) (a : Answer) (u : State K T F I) → Opens g s p attrs wanted look a u → Chooses s p Sole (Opens g s p attrs wanted look) a u
  opens_chooses attrs wanted (Refused status) a u h = refused s p Sole (IsRefused s status) status a u h
  opens_chooses attrs wanted (Vacant d c) a u h = absurd h
  opens_chooses attrs wanted (Parse o rest n) a u h =
      unless_chooses s p Sole ((is_store_full s, InsufficientResources) ∷ []) (λ b v. (b ≡ Ticket s.next_id) × (v ≡ settle g (with_pending s p attrs wanted o rest n))) a u
      (λ does. says_nothing s p Sole (λ b v. (b ≡ Ticket s.next_id) × (v ≡ settle g (with_pending s p attrs wanted o rest n))) a (Ticket s.next_id) u does.0 refl refl) h
  opens_chooses attrs wanted (At o) a u h = opens_at_chooses attrs wanted Success o a u h

  -- an open
  pub opens_name_chooses : (root : Option ℕ) (name : List ℕ) (attrs : ℕ) (wanted : Wanted K) (a : Answer) (u : State K T F I)
      → OpensName g s p root name attrs wanted a u → Chooses s p Sole (OpensName g s p root name attrs wanted) a u
  opens_name_chooses root name attrs wanted a u h =
      unless_chooses s p Sole (open_refusals (is_live s p) name attrs) (λ b v. WithRoot s p root b v (λ at. Does at b v)) a u
      (root_chooses s p Sole p root Does a u
      (λ at does. onward s p Sole (Opens g s p attrs wanted does.0) (Does at) a u (λ b v k. (does.0, does.1, k)) (opens_chooses attrs wanted does.0 a u does.2))) h
    where
      Does : Option ℕ → Answer → State K T F I → Type 0
      Does at b v = (look : Look) × LooksUp g s p (open_mode wanted attrs) most_reparses at name look × Opens g s p attrs wanted look b v

module _ {K T F I : Type 0} (g : Procedures K T F I) (s : State K T F I) (Sole : Type 0) where
  -- what a parse leads to, in the state in which it is judged
  pub ends_open_chooses : (x : PendingOpen K) (outcome : Option (ParseOutcome F I)) (a : Answer) (u : State K T F I)
      → EndsOpen g s x outcome a u → Chooses s x.process Sole (EndsOpen g s x outcome) a u
  ends_open_chooses x None a u h = refused s x.process Sole (IsRefused s NoMemory) NoMemory a u h
  ends_open_chooses x (Some EndsItself) a u h = opens_at_chooses g s x.process Sole x.attrs x.wanted Success x.object a u h
  ends_open_chooses x (Some (EndsMade face inner)) a u h = opens_at_chooses g s x.process Sole x.attrs x.wanted Success x.ticket a u h
  ends_open_chooses x (Some (EndsReparse text)) a u h =
      onward s x.process Sole (Opens g s x.process x.attrs x.wanted h.0) (EndsOpen g s x (Some (EndsReparse text))) a u (λ b v k. (h.0, h.1, k))
      (opens_chooses g s x.process Sole x.attrs x.wanted h.0 a u h.2)
  ends_open_chooses x (Some (EndsRefused k)) a u h = refused s x.process Sole (IsRefused s (TypeRefused k)) (TypeRefused k) a u h
