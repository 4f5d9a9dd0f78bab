-- Alike steps from alike states are answered alike, and leave alike states: each refusal, each lookup and each
-- change reads the values of handles only to find the handle that a command names.
use Rattle.std.proofs.Common.{◌≡◌, ◌∙◌, ℕ, Bool, true, false, ◌&&◌, not, cond, List, [], ◌∷◌, filter, map, length, find, Option, None, Some, Result, Ok, Err, MatchOption, MatchResult, inl, inr, refl, ap, sym, subst}
use Rattle.std.specs.Prelude.{MatchBool, nat_lt}
use Rattle.std.specs.List.{list_any}
use Rattle.std.specs.Option.{option_map, option_and_then, is_some}
use Rattle.ob_base.specs.declared.status.Status.{Status}
use Rattle.ob_base.specs.declared.status.Status.TheVariants.{Success, InvalidHandle, InsufficientResources, ObjectTypeMismatch, ObjectNameExists, ObjectNameCollision, NameTooLong, ProcessGone, TypeRefused}
use Rattle.ob_base.specs.Attrs.{has_flag, open_if_flag, inherit_flag, permanent_flag, exclusive_flag}
use Rattle.ob_base.specs.Handle.{key_of}
use Rattle.ob_model.specs.declared.command.Place.{Place}
use Rattle.ob_model.specs.declared.command.Place.TheVariants as place
use Rattle.ob_model.specs.declared.reply.Answer.{Answer}
use Rattle.ob_model.specs.declared.reply.Answer.TheVariants.{Ticket}
use Rattle.ob_model.specs.declared.reply.Given.TheVariants.{Handle, Text, Process}
use Rattle.ob_model.specs.declared.state.Held.{Held}
use Rattle.ob_model.specs.declared.state.Body.{Body}
use Rattle.ob_model.specs.declared.state.Wanted.{Wanted}
use Rattle.ob_model.specs.Names.{longest_name}
use Rattle.ob_model.specs.State.{State, is_live, is_directory, is_store_full, held_of, body_of}
use Rattle.ob_model.specs.PendingOpens.{with_pending}
use Rattle.ob_model.specs.declared.terms.Mode.{Mode}
use Rattle.ob_model.specs.Looks.{Look, At, Vacant, Parse, Refused, LooksUp, most_reparses}
use Rattle.ob_model.specs.declared.terms.Reason.{Reason}
use Rattle.ob_model.specs.declared.terms.Reason.TheVariants.{Opened, Created, Duplicated}
use Rattle.ob_model.specs.Procedures.{Procedures}
use Rattle.ob_model.specs.Settle.{settle}
use Rattle.ob_model.specs.declared.terms.GrantOptions.{GrantOptions}
use Rattle.ob_model.specs.Grants.{first_refusal, Grants, grant_refusal, IsFreeValue, open_refusal_of, opened_body, opened_set, with_open, with_handle}
use Rattle.ob_model.specs.Closing.{is_handle, without_handle, with_close, closed_handle}
use Rattle.ob_model.specs.Permanence.{turned}
use Rattle.ob_model.specs.Maps.{with_map}
use Rattle.ob_model.specs.Types.{is_wanted_at}
use Rattle.ob_model.specs.Refusals.{gives, answers, IsRefused, Unless, create_refusals, open_refusals}
use Rattle.ob_model.specs.Opens.{GivesHandle, OpensAt, Opens, options_by, open_mode}
use Rattle.ob_model.specs.Creates.{Making, is_fit, create_mode, type_made, Spot, room_refusals, make_refusal, body_made, with_object, with_row, created, dropped, Makes, Creates}
use Rattle.ob_model.specs.Naming.{IsWayUp, path_text, path_answer, target_of, TellsName, TellsTarget}
use Rattle.ob_model.specs.Enumeration.{enumerated, context_used, page_answer}
use Rattle.ob_model.specs.Processes.{values_in, is_crowded, begun, Duplicates, MakesChild}
use Rattle.ob_model.specs.Step.{shadow_refusals, WithShadow, WithHandle, WithRoot, CreatesIn, CreatesAt, OpensName, Closes, QueriesLink, QueriesName, Turns, SetsMap, page_refusals, TellsPage, QueriesDirectory}
use Rattle.ob_model.specs.Sound.{IsSound}
use Rattle.ob_model.specs.Alike.{unvalued_handle, unvalued_answer, AreAlikeAnswers, is_named, unvalued, handle_given, process_given, AreAlike, LeadAlike, LeadOn, HoldOn, AreAlikeRoots, no_root, roots, AreAlikePlaces, no_name, names}
use Rattle.ob_model.proofs.Lookup.{looks_up_unique}
use Rattle.ob_model.proofs.AlikeHandles.{found_alike, named_found, found_passes, named_is, kept_places, other_places}
use Rattle.ob_model.proofs.AlikeLeads.{lead_on_with_nothing, lead_on_with_handle, turned_handles, begun_lead_held, begun_lead_child}
use Rattle.ob_model.proofs.AlikeHeld.{hold_on_with_nothing, hold_on_with_handle, closed_held, begun_held, named_twice}
use Rattle.ob_model.proofs.Unvalued.{looks_up-unvalued, looks_up-valued, tells_name-unvalued, values_in-unvalued, room_refusals-unvalued, is_crowded-unvalued, grant_refusal-unvalued, settle-unvalued, with_handle-unvalued, with_close-unvalued, turned-unvalued, begun-unvalued}

-- an answer gives no handle and tells of no process
abbrev IsBare : Answer → Type 0
IsBare a = (handle_given a ≡ None) × (process_given a ≡ None)

module _ {K T F I : Type 0} where
  -- one way leads up, and one path is told
  way_unique : (s : State K T F I) (o : ℕ) (cs ds : List (List ℕ)) → IsWayUp s o cs → IsWayUp s o ds → cs ≡ ds
  way_unique s o [] [] one other = refl
  way_unique s o [] (d ∷ ds) one other = absurd (other.0 one)
  way_unique s o (c ∷ cs) [] one other = absurd (one.0 other)
  way_unique s o (c ∷ cs) (d ∷ ds) one other =
      let same : other.1.0 ≡ one.1.0 = cc in
      let names : c ≡ d = one.1.2 ∙ ap (λ r. r.name) (sym same) ∙ sym other.1.2 in
      let rest = way_unique s one.1.0.directory cs ds one.1.3 (subst (λ r. IsWayUp s r.directory ds) same other.1.3) in
      λ i. names i ∷ rest i

  tells_name_unique : (s : State K T F I) (o : ℕ) (a b : Answer) → TellsName s o a → TellsName s o b → a ≡ b
  tells_name_unique s o a b (inl one) (inl other) = one.2 ∙ ap (λ cs. path_answer (path_text cs)) (way_unique s o one.0 other.0 one.1 other.1) ∙ sym other.2
  tells_name_unique s o a b (inl one) (inr other) = absurd (other.0 one.0 one.1)
  tells_name_unique s o a b (inr one) (inl other) = absurd (one.0 other.0 other.1)
  tells_name_unique s o a b (inr one) (inr other) = one.1 ∙ sym other.1

  tells_target_unique : (s : State K T F I) (o : ℕ) (a b : Answer) → TellsTarget s o a → TellsTarget s o b → a ≡ b
  tells_target_unique s o a b one other = go (option_and_then target_of (body_of s o)) one other
    where
      go : (x : Option (List ℕ)) → MatchOption x (a ≡ answers ObjectTypeMismatch) (λ target. a ≡ gives Success (Text target))
          → MatchOption x (b ≡ answers ObjectTypeMismatch) (λ target. b ≡ gives Success (Text target)) → a ≡ b
      go None one other = one ∙ sym other
      go (Some target) one other = one ∙ sym other

  -- what is told of an object is neither a handle nor a process
  target_gives_nothing : (s : State K T F I) (o : ℕ) (a : Answer) → TellsTarget s o a → IsBare a
  target_gives_nothing s o a h = go (option_and_then target_of (body_of s o)) h
    where
      go : (x : Option (List ℕ)) → MatchOption x (a ≡ answers ObjectTypeMismatch) (λ target. a ≡ gives Success (Text target)) → IsBare a
      go None h = (ap handle_given h, ap process_given h)
      go (Some target) h = (ap handle_given h, ap process_given h)

  name_gives_nothing : (s : State K T F I) (o : ℕ) (a : Answer) → TellsName s o a → IsBare a
  name_gives_nothing s o a (inl h) = subst IsBare (sym h.2) (go (nat_lt longest_name (length (path_text h.0))))
    where
      go : (b : Bool) → IsBare (cond b (answers NameTooLong) (gives Success (Text (path_text h.0))))
      go true = (refl, refl)
      go false = (refl, refl)
  name_gives_nothing s o a (inr h) = (ap handle_given h.1, ap process_given h.1)

-- what makes alike states of alike ones
module _ {K T F I : Type 0} (g : Procedures K T F I) (s t : State K T F I) (alike : AreAlike s t) where
  pub settle_alike : AreAlike (settle g s) (settle g t)
  settle_alike = sym (settle-unvalued g s) ∙ ap (settle g) alike ∙ settle-unvalued g t

  with_open_alike : (o : ℕ) (reason : Reason) → AreAlike (with_open g s o reason) (with_open g t o reason)
  with_open_alike o reason = ap (λ x. with_open g x o reason) alike

  with_handle_alike : (p value other o : ℕ) (inherit : Bool) → AreAlike (with_handle s p value o inherit) (with_handle t p other o inherit)
  with_handle_alike p value other o inherit = sym (with_handle-unvalued s p value o inherit) ∙ ap (λ x. with_handle x p 0 o inherit) alike ∙ with_handle-unvalued t p other o inherit

  with_close_alike : (p o : ℕ) → AreAlike (with_close g s p o) (with_close g t p o)
  with_close_alike p o = sym (with_close-unvalued g s p o) ∙ ap (λ x. with_close g x p o) alike ∙ with_close-unvalued g t p o

  turned_alike : (o : ℕ) (permanent : Bool) → AreAlike (turned s o permanent) (turned t o permanent)
  turned_alike o permanent = sym (turned-unvalued s o permanent) ∙ ap (λ x. turned x o permanent) alike ∙ turned-unvalued t o permanent

  begun_alike : (p : ℕ) (inherit : Bool) → AreAlike (begun g s p inherit) (begun g t p inherit)
  begun_alike p inherit = sym (begun-unvalued g s p inherit) ∙ ap (λ x. begun g x p inherit) alike ∙ begun-unvalued g t p inherit

  created_alike : (p : ℕ) (spot : Spot) (body : Body F I) (attrs value other : ℕ) → AreAlike (created g s p spot body attrs value) (created g t p spot body attrs other)
  created_alike p spot body attrs value other =
      sym (with_handle-unvalued (made s) p value s.next_id (has_flag inherit_flag attrs))
      ∙ ap (λ x. created g x p spot body attrs 0) alike
      ∙ with_handle-unvalued (made t) p other t.next_id (has_flag inherit_flag attrs)
    where
      made : State K T F I → State K T F I
      made x =
          let opened = record x { set = opened_set g x.set body Created } in
          with_row (with_object opened (opened_body g x.set body Created) (is_some spot && has_flag permanent_flag attrs) (has_flag exclusive_flag attrs)) spot x.next_id

  handles_alike : map unvalued_handle s.handles ≡ map unvalued_handle t.handles
  handles_alike = ap (λ x. x.handles) alike

  -- a handle that two tests pass at the same place goes
  pub closed_alike : (f k : Held → Bool) (one other : Held) → map f s.handles ≡ map k t.handles → unvalued_handle one ≡ unvalued_handle other
      → ((x : Held) → is_handle one.process one.value x ≡ f x) → ((x : Held) → is_handle other.process other.value x ≡ k x)
      → AreAlike (closed_handle g s one) (closed_handle g t other)
  closed_alike f k one other tests heads first second =
      sym (with_close-unvalued g (without_handle s one.process one.value) one.process one.object)
      ∙ (λ i. with_close g (record (alike i) { handles = left i }) (heads i).process (heads i).object)
      ∙ with_close-unvalued g (without_handle t other.process other.value) other.process other.object
    where
      left : map unvalued_handle (filter (λ x. not (is_handle one.process one.value x)) s.handles) ≡ map unvalued_handle (filter (λ x. not (is_handle other.process other.value x)) t.handles)
      left =
          (λ i. map unvalued_handle (filter (λ x. not (first x i)) s.handles)) ∙ kept_places (λ x. not (f x)) (λ x. not (k x)) unvalued_handle unvalued_handle s.handles t.handles (other_places f k s.handles t.handles tests) handles_alike
          ∙ (λ i. map unvalued_handle (filter (λ x. not (sym (second x) i)) t.handles))

  -- what leads alike does so when it is gone
  pub closed_lead : (f k : Held → Bool) (one other : Held) → map f s.handles ≡ map k t.handles
      → ((x : Held) → is_handle one.process one.value x ≡ f x) → ((x : Held) → is_handle other.process other.value x ≡ k x)
      → (p value second : ℕ) → LeadAlike s t p value second → LeadAlike (closed_handle g s one) (closed_handle g t other) p value second
  closed_lead f k one other tests is is_too p value second lead =
      (λ i. map (is_named p value) (filter (λ x. not (is x i)) s.handles))
      ∙ kept_places (λ x. not (f x)) (λ x. not (k x)) (is_named p value) (is_named p second) s.handles t.handles (other_places f k s.handles t.handles tests) lead
      ∙ (λ i. map (is_named p second) (filter (λ x. not (sym (is_too x) i)) t.handles))

-- two steps, each with its end, for commands of a process q that give a handle to a process r
module _ {K T F I : Type 0} (g : Procedures K T F I) (s t : State K T F I) (alike : AreAlike s t) (a b : Answer) (u v : State K T F I) (q r : ℕ) (IsClosed : ℕ → ℕ → Type 0) where
  -- both end alike
  abbrev pub EndAlike : Type 0
  EndAlike = AreAlikeAnswers a b × AreAlike u v × LeadOn s t q r a b u v × HoldOn s IsClosed r a u

  -- ends that are told by equations
  pub ends_alike : (a_told b_told : Answer) (u_told v_told : State K T F I) → a ≡ a_told → u ≡ u_told → b ≡ b_told → v ≡ v_told
      → AreAlikeAnswers a_told b_told → AreAlike u_told v_told → LeadOn s t q r a_told b_told u_told v_told → HoldOn s IsClosed r a_told u_told → EndAlike
  ends_alike a_told b_told u_told v_told a_is u_is b_is v_is answers_alike states_alike lead hold = (
    ap unvalued_answer a_is ∙ answers_alike ∙ sym (ap unvalued_answer b_is),
    ap unvalued u_is ∙ states_alike ∙ sym (ap unvalued v_is),
    subst (λ x. LeadOn s t q r x b u v) (sym a_is) (subst (λ x. LeadOn s t q r a_told x u v) (sym b_is)
        (subst (λ x. LeadOn s t q r a_told b_told x v) (sym u_is) (subst (λ x. LeadOn s t q r a_told b_told u_told x) (sym v_is) lead))),
    subst (λ x. HoldOn s IsClosed r x u) (sym a_is) (subst (HoldOn s IsClosed r a_told) (sym u_is) hold),
  )

  -- and give nothing, and leave the handles
  pub same_hold : (a_told : Answer) (u_told : State K T F I) → handle_given a_told ≡ None → process_given a_told ≡ None → u_told.handles ≡ s.handles → HoldOn s IsClosed r a_told u_told
  same_hold a_told u_told no_handle no_process u_is =
      hold_on_with_nothing s IsClosed r a_told u_told no_handle no_process (λ p value held left. ap (list_any (is_named p value)) u_is ∙ held)

  pub same_lead : (a_told b_told : Answer) (u_told v_told : State K T F I) → handle_given a_told ≡ None → process_given a_told ≡ None → u_told.handles ≡ s.handles → v_told.handles ≡ t.handles
      → LeadOn s t q r a_told b_told u_told v_told
  same_lead a_told b_told u_told v_told no_handle no_process u_is v_is =
      lead_on_with_nothing s t q r a_told b_told u_told v_told no_handle no_process
      (λ p value other held lead. (λ i. map (is_named p value) (u_is i)) ∙ lead ∙ (λ i. map (is_named p other) (sym v_is i)))

  -- two refusals with one status
  pub refused_alike : (status : Status) → IsRefused s status a u → IsRefused t status b v → EndAlike
  refused_alike status h k = ends_alike (answers status) (answers status) s t h.0 h.1 k.0 k.1 refl alike (same_lead (answers status) (answers status) s t refl refl refl refl) (same_hold (answers status) s refl refl refl)

  -- two steps that are refused for the same, or else do what ends alike
  pub unless_alike : (refusals others : List (Bool × Status)) (DoesS DoesT : Type 0) → refusals ≡ others
      → (DoesS → DoesT → EndAlike) → Unless refusals s a u DoesS → Unless others t b v DoesT → EndAlike
  unless_alike refusals others DoesS DoesT same does h k = go (first_refusal refusals) h (subst (λ r. Unless r t b v DoesT) (sym same) k)
    where
      go : (refusal : Option Status) → MatchOption refusal DoesS (λ status. IsRefused s status a u) → MatchOption refusal DoesT (λ status. IsRefused t status b v) → EndAlike
      go None h k = does h k
      go (Some status) h k = refused_alike status h k

  pub is_live_alike : (p : ℕ) → is_live s p ≡ is_live t p
  is_live_alike p = ap (λ x. is_live x p) alike

  -- two steps that use handles which lead alike
  found_handle_alike : (p value other : ℕ) (DoesS DoesT : Held → Type 0) → LeadAlike s t p value other
      → ((x y : Held) → ((z : Held) → is_handle x.process x.value z ≡ is_named p value z) → ((z : Held) → is_handle y.process y.value z ≡ is_named p other z)
      → unvalued_handle x ≡ unvalued_handle y → DoesS x → DoesT y → EndAlike)
      → MatchOption (option_and_then (held_of s p) (key_of value)) (IsRefused s InvalidHandle a u) DoesS
      → MatchOption (option_and_then (held_of t p) (key_of other)) (IsRefused t InvalidHandle b v) DoesT → EndAlike
  found_handle_alike p value other DoesS DoesT lead does h k =
      go (find (is_named p value) s.handles) (find (is_named p other) t.handles) refl refl
      (found_alike (is_named p value) (is_named p other) s.handles t.handles (handles_alike g s t alike) lead)
      (subst (λ o. MatchOption o (IsRefused s InvalidHandle a u) DoesS) (named_found s p value) h)
      (subst (λ o. MatchOption o (IsRefused t InvalidHandle b v) DoesT) (named_found t p other) k)
    where
      go : (x y : Option Held) → find (is_named p value) s.handles ≡ x → find (is_named p other) t.handles ≡ y → option_map unvalued_handle x ≡ option_map unvalued_handle y
          → MatchOption x (IsRefused s InvalidHandle a u) DoesS → MatchOption y (IsRefused t InvalidHandle b v) DoesT → EndAlike
      go None None one two same h k = refused_alike InvalidHandle h k
      go None (Some y) one two same h k = cc
      go (Some x) None one two same h k = cc
      go (Some x) (Some y) one two same h k =
          does x y (named_is p value x (found_passes (is_named p value) s.handles x one)) (named_is p other y (found_passes (is_named p other) t.handles y two)) (cc) h k

  using_handle_alike : (p value other : ℕ) (DoesS DoesT : Held → Type 0) → LeadAlike s t p value other
      → ((x y : Held) → ((z : Held) → is_handle x.process x.value z ≡ is_named p value z) → ((z : Held) → is_handle y.process y.value z ≡ is_named p other z)
      → unvalued_handle x ≡ unvalued_handle y → DoesS x → DoesT y → EndAlike)
      → WithHandle s p value a u DoesS → WithHandle t p other b v DoesT → EndAlike
  using_handle_alike p value other DoesS DoesT lead does h k =
      unless_alike ((not (is_live s p), ProcessGone) ∷ []) ((not (is_live t p), ProcessGone) ∷ [])
      (MatchOption (option_and_then (held_of s p) (key_of value)) (IsRefused s InvalidHandle a u) DoesS)
      (MatchOption (option_and_then (held_of t p) (key_of other)) (IsRefused t InvalidHandle b v) DoesT)
      (ap (λ (live : Bool). (not live, ProcessGone) ∷ []) (is_live_alike p)) (found_handle_alike p value other DoesS DoesT lead does) h k

  using_root_alike : (p : ℕ) (root other : Option ℕ) (DoesS DoesT : Option ℕ → Type 0) → AreAlikeRoots s t p root other
      → ((at : Option ℕ) → DoesS at → DoesT at → EndAlike)
      → WithRoot s p root a u DoesS → WithRoot t p other b v DoesT → EndAlike
  using_root_alike p root other DoesS DoesT no_root does h k = does None h k
  using_root_alike p root other DoesS DoesT (roots {value = value} {other = second} lead) does h k =
      found_handle_alike p value second (λ x. DoesS (Some x.object)) (λ y. DoesT (Some y.object)) lead
      (λ x y one two same h k. does (Some x.object) h (subst (λ (z : Held). DoesT (Some z.object)) (sym same) k)) h k

  using_shadow_alike : (p : ℕ) (shadow other : Option ℕ) (DoesS DoesT : Option ℕ → Type 0) → AreAlikeRoots s t p shadow other
      → ((d : Option ℕ) → DoesS d → DoesT d → EndAlike)
      → WithShadow s p shadow a u DoesS → WithShadow t p other b v DoesT → EndAlike
  using_shadow_alike p shadow other DoesS DoesT no_root does h k = does None h k
  using_shadow_alike p shadow other DoesS DoesT (roots {value = value} {other = second} lead) does h k =
      found_handle_alike p value second (λ x. Unless (shadow_refusals s x.object) s a u (DoesS (Some x.object))) (λ y. Unless (shadow_refusals t y.object) t b v (DoesT (Some y.object))) lead
      (λ x y one two same h k.
      unless_alike (shadow_refusals s x.object) (shadow_refusals t x.object) (DoesS (Some x.object)) (DoesT (Some x.object))
      (ap (λ (z : State K T F I). shadow_refusals z x.object) alike) (does (Some x.object)) h
      (subst (λ (z : Held). Unless (shadow_refusals t z.object) t b v (DoesT (Some z.object))) (sym same) k)) h k

  -- a handle that is granted
  granted_alike : (o : ℕ) (asked : GrantOptions) (reason : Reason) (status : Status) (one other : Result ℕ Status) (u_granted v_granted : State K T F I)
      → Grants g s r o asked reason one u_granted
      → MatchResult one (λ value. (a ≡ gives status (Handle value)) × (u ≡ settle g u_granted)) (λ refusal. IsRefused s refusal a u)
      → Grants g t r o asked reason other v_granted
      → MatchResult other (λ value. (b ≡ gives status (Handle value)) × (v ≡ settle g v_granted)) (λ refusal. IsRefused t refusal b v)
      → EndAlike
  granted_alike o asked reason status one other u_granted v_granted grants h grants_too k = go one other grants h grants_too k
    where
      refusals : grant_refusal g s r o asked reason ≡ grant_refusal g t r o asked reason
      refusals = sym (grant_refusal-unvalued g s r o asked reason) ∙ ap (λ x. grant_refusal g x r o asked reason) alike ∙ grant_refusal-unvalued g t r o asked reason

      go : (one other : Result ℕ Status)
          → Grants g s r o asked reason one u_granted
          → MatchResult one (λ value. (a ≡ gives status (Handle value)) × (u ≡ settle g u_granted)) (λ refusal. IsRefused s refusal a u)
          → Grants g t r o asked reason other v_granted
          → MatchResult other (λ value. (b ≡ gives status (Handle value)) × (v ≡ settle g v_granted)) (λ refusal. IsRefused t refusal b v)
          → EndAlike
      go (Ok value) (Ok second) grants h grants_too k =
          let granted : AreAlike (with_handle (with_open g s o reason) r value o asked.inherit) (with_handle (with_open g t o reason) r second o asked.inherit) =
          with_handle_alike g (with_open g s o reason) (with_open g t o reason) (with_open_alike g s t alike o reason) r value second o asked.inherit in
          ends_alike (gives status (Handle value)) (gives status (Handle second))
          (settle g (with_handle (with_open g s o reason) r value o asked.inherit)) (settle g (with_handle (with_open g t o reason) r second o asked.inherit))
          h.0 (h.1 ∙ ap (settle g) grants.2) k.0 (k.1 ∙ ap (settle g) grants_too.2) refl
          (settle_alike g (with_handle (with_open g s o reason) r value o asked.inherit) (with_handle (with_open g t o reason) r second o asked.inherit) granted)
          (lead_on_with_handle s t q r (gives status (Handle value)) (gives status (Handle second))
          (settle g (with_handle (with_open g s o reason) r value o asked.inherit)) (settle g (with_handle (with_open g t o reason) r second o asked.inherit)) value second
          (record { process = r; value = value; object = o; inherit = asked.inherit; order = s.next_order }) (record { process = r; value = second; object = o; inherit = asked.inherit; order = t.next_order })
          (handles_alike g s t alike) refl refl refl grants.1 grants_too.1 refl refl refl refl refl refl)
          (hold_on_with_handle s IsClosed r (gives status (Handle value)) (settle g (with_handle (with_open g s o reason) r value o asked.inherit)) value
          (record { process = r; value = value; object = o; inherit = asked.inherit; order = s.next_order }) refl refl grants.1 refl refl refl)
      go (Ok value) (Err refusal) grants h grants_too k = let none : None ≡ Some refusal = sym grants.0 ∙ refusals ∙ grants_too.0 in cc
      go (Err refusal) (Ok second) grants h grants_too k = let none : Some refusal ≡ None = sym grants.0 ∙ refusals ∙ grants_too.0 in cc
      go (Err refusal) (Err second) grants h grants_too k =
          let both : Some refusal ≡ Some second = sym grants.0 ∙ refusals ∙ grants_too.0 in
          let same : second ≡ refusal = cc in
          refused_alike refusal h (subst (λ status. IsRefused t status b v) same k)

  gives_handle_alike : (o : ℕ) (asked : GrantOptions) (reason : Reason) (status : Status)
      → GivesHandle g s r o asked reason status a u → GivesHandle g t r o asked reason status b v → EndAlike
  gives_handle_alike o asked reason status h k = granted_alike o asked reason status h.0 k.0 h.1 k.1 h.2 h.3 k.2 k.3

  pub opens_at_alike : (attrs : ℕ) (wanted : Wanted K) (status : Status) (o : ℕ) → OpensAt g s r attrs wanted status o a u → OpensAt g t r attrs wanted status o b v → EndAlike
  opens_at_alike attrs wanted status o h k =
      unless_alike ((not (is_wanted_at g s o wanted), ObjectTypeMismatch) ∷ []) ((not (is_wanted_at g t o wanted), ObjectTypeMismatch) ∷ [])
      (GivesHandle g s r o (options_by attrs) Opened status a u) (GivesHandle g t r o (options_by attrs) Opened status b v)
      (ap (λ x. (not (is_wanted_at g x o wanted), ObjectTypeMismatch) ∷ []) alike) (gives_handle_alike o (options_by attrs) Opened status) h k

  pub opens_alike : (attrs : ℕ) (wanted : Wanted K) (look : Look) → Opens g s r attrs wanted look a u → Opens g t r attrs wanted look b v → EndAlike
  opens_alike attrs wanted (Refused status) h k = refused_alike status h k
  opens_alike attrs wanted (Vacant d c) h k = absurd h
  opens_alike attrs wanted (Parse o rest n) h k =
      unless_alike ((is_store_full s, InsufficientResources) ∷ []) ((is_store_full t, InsufficientResources) ∷ []) (Waits s a u) (Waits t b v)
      (ap (λ x. (is_store_full x, InsufficientResources) ∷ []) alike)
      (λ h k.
      ends_alike (Ticket s.next_id) (Ticket t.next_id) (settle g (with_pending s r attrs wanted o rest n)) (settle g (with_pending t r attrs wanted o rest n)) h.0 h.1 k.0 k.1
      (ap (λ x. Ticket x.next_id) alike)
      (settle_alike g (with_pending s r attrs wanted o rest n) (with_pending t r attrs wanted o rest n) (ap (λ x. with_pending x r attrs wanted o rest n) alike))
      (same_lead (Ticket s.next_id) (Ticket t.next_id) (settle g (with_pending s r attrs wanted o rest n)) (settle g (with_pending t r attrs wanted o rest n)) refl refl refl refl)
      (same_hold (Ticket s.next_id) (settle g (with_pending s r attrs wanted o rest n)) refl refl refl)) h k
    where
      Waits : State K T F I → Answer → State K T F I → Type 0
      Waits x answer end = (answer ≡ Ticket x.next_id) × (end ≡ settle g (with_pending x r attrs wanted o rest n))
  opens_alike attrs wanted (At o) h k = opens_at_alike attrs wanted Success o h k

  -- what is made where there is room for it
  makes_alike : (attrs : ℕ) (making : Making K) (spot : Spot) → Makes g s r attrs making spot a u → Makes g t r attrs making spot b v → EndAlike
  makes_alike attrs making spot h k =
      unless_alike (room_refusals s r spot) (room_refusals t r spot) (InRoom s a u) (InRoom t b v)
      (sym (room_refusals-unvalued s r spot) ∙ ap (λ x. room_refusals x r spot) alike ∙ room_refusals-unvalued t r spot) (go (make_refusal g making)) h k
    where
      body : Body F I
      body = body_made g making

      Made : State K T F I → Answer → State K T F I → Type 0
      Made x answer end = (value : ℕ) × IsFreeValue x r value × (answer ≡ gives Success (Handle value)) × (end ≡ settle g (created g x r spot (body_made g making) attrs value))

      DroppedFor : State K T F I → Answer → State K T F I → ℕ → Type 0
      DroppedFor x answer end n = (answer ≡ answers (TypeRefused n)) × (end ≡ dropped g x (body_made g making))

      MadeOrDropped : State K T F I → Answer → State K T F I → Option ℕ → Type 0
      MadeOrDropped x answer end refusal = MatchOption refusal (Made x answer end) (DroppedFor x answer end)

      InRoom : State K T F I → Answer → State K T F I → Type 0
      InRoom x answer end =
          MatchOption (make_refusal g making) (MadeOrDropped x answer end (open_refusal_of g x.set (body_made g making) Created)) (λ n. IsRefused x (TypeRefused n) answer end)

      opened : (refusal : Option ℕ) → MadeOrDropped s a u refusal → MadeOrDropped t b v refusal → EndAlike
      opened None h k =
          ends_alike (gives Success (Handle h.0)) (gives Success (Handle k.0))
          (settle g (created g s r spot (body_made g making) attrs h.0)) (settle g (created g t r spot (body_made g making) attrs k.0)) h.2 h.3 k.2 k.3 refl
          (settle_alike g (created g s r spot (body_made g making) attrs h.0) (created g t r spot (body_made g making) attrs k.0)
          (created_alike g s t alike r spot (body_made g making) attrs h.0 k.0))
          (lead_on_with_handle s t q r (gives Success (Handle h.0)) (gives Success (Handle k.0))
          (settle g (created g s r spot (body_made g making) attrs h.0)) (settle g (created g t r spot (body_made g making) attrs k.0)) h.0 k.0
          (record { process = r; value = h.0; object = s.next_id; inherit = has_flag inherit_flag attrs; order = s.next_order })
          (record { process = r; value = k.0; object = t.next_id; inherit = has_flag inherit_flag attrs; order = t.next_order })
          (handles_alike g s t alike) refl refl refl h.1 k.1 refl refl refl refl refl refl)
          (hold_on_with_handle s IsClosed r (gives Success (Handle h.0)) (settle g (created g s r spot (body_made g making) attrs h.0)) h.0
          (record { process = r; value = h.0; object = s.next_id; inherit = has_flag inherit_flag attrs; order = s.next_order }) refl refl h.1 refl refl refl)
      opened (Some n) h k =
          ends_alike (answers (TypeRefused n)) (answers (TypeRefused n)) (dropped g s (body_made g making)) (dropped g t (body_made g making)) h.0 h.1 k.0 k.1 refl
          (ap (λ x. dropped g x (body_made g making)) alike)
          (same_lead (answers (TypeRefused n)) (answers (TypeRefused n)) (dropped g s (body_made g making)) (dropped g t (body_made g making)) refl refl refl refl)
          (same_hold (answers (TypeRefused n)) (dropped g s (body_made g making)) refl refl refl)

      go : (refusal : Option ℕ)
          → MatchOption refusal (MadeOrDropped s a u (open_refusal_of g s.set (body_made g making) Created)) (λ n. IsRefused s (TypeRefused n) a u)
          → MatchOption refusal (MadeOrDropped t b v (open_refusal_of g t.set (body_made g making) Created)) (λ n. IsRefused t (TypeRefused n) b v) → EndAlike
      go None h k =
          opened (open_refusal_of g s.set (body_made g making) Created) h
          (subst (MadeOrDropped t b v) (sym (ap (λ x. open_refusal_of g x.set (body_made g making) Created) alike)) k)
      go (Some n) h k = refused_alike (TypeRefused n) h k

  creates_alike : (attrs : ℕ) (making : Making K) (look : Look) → Creates g s r attrs making look a u → Creates g t r attrs making look b v → EndAlike
  creates_alike attrs making (Refused status) h k = refused_alike status h k
  creates_alike attrs making (At o) h k = go (has_flag open_if_flag attrs) h k
    where
      go : (opens : Bool) → MatchBool opens (OpensAt g s r attrs (type_made making) ObjectNameExists o a u) (IsRefused s ObjectNameCollision a u)
          → MatchBool opens (OpensAt g t r attrs (type_made making) ObjectNameExists o b v) (IsRefused t ObjectNameCollision b v) → EndAlike
      go true h k = opens_at_alike attrs (type_made making) ObjectNameExists o h k
      go false h k = refused_alike ObjectNameCollision h k
  creates_alike attrs making (Parse o rest n) h k = absurd h
  creates_alike attrs making (Vacant d c) h k = makes_alike attrs making (Some (d, c)) h k

  -- a name ends the same in both states
  pub look_alike : (p : ℕ) (mode : Mode) (n : ℕ) (at : Option ℕ) (name : List ℕ) (one other : Look)
      → LooksUp g s p mode n at name one → LooksUp g t p mode n at name other → other ≡ one
  look_alike p mode n at name one other h k =
      looks_up_unique g s p mode n at name other one
      (looks_up-valued g s p mode n at name other
      (subst (λ x. LooksUp g x p mode n at name other) (sym alike) (looks_up-unvalued g t p mode n at name other k))) h

  creates_in_alike : (where_to where_else : Place) (attrs : ℕ) (shadow second : Option ℕ) (making : Option ℕ → Making K) → AreAlikePlaces s t r where_to where_else
      → AreAlikeRoots s t r shadow second → CreatesIn g s r where_to attrs shadow making a u → CreatesIn g t r where_else attrs second making b v → EndAlike
  creates_in_alike where_to where_else attrs shadow second making no_name shadows h k =
      using_shadow_alike r shadow second (λ d. Makes g s r attrs (making d) None a u) (λ d. Makes g t r attrs (making d) None b v) shadows (λ d. makes_alike attrs (making d) None) h k
  creates_in_alike where_to where_else attrs shadow second making (names {root = root} {other = other} {name = name} same) shadows h k =
      using_root_alike r root other (λ at. WithShadow s r shadow a u (DoesS at)) (λ at. WithShadow t r second b v (DoesT at)) same
      (λ at.
      using_shadow_alike r shadow second (DoesS at) (DoesT at) shadows
      (λ d x y.
      creates_alike attrs (making d) x.0 x.2
      (subst (λ look. Creates g t r attrs (making d) look b v) (look_alike r (create_mode attrs) most_reparses at name x.0 y.0 x.1 y.1) y.2))) h k
    where
      DoesS : Option ℕ → Option ℕ → Type 0
      DoesS at d = (look : Look) × LooksUp g s r (create_mode attrs) most_reparses at name look × Creates g s r attrs (making d) look a u

      DoesT : Option ℕ → Option ℕ → Type 0
      DoesT at d = (look : Look) × LooksUp g t r (create_mode attrs) most_reparses at name look × Creates g t r attrs (making d) look b v

  create_refusals_alike : (where_to where_else : Place) (fit : Bool) (attrs : ℕ) → AreAlikePlaces s t r where_to where_else
      → create_refusals (is_live s r) fit where_to attrs ≡ create_refusals (is_live t r) fit where_else attrs
  create_refusals_alike where_to where_else fit attrs no_name = ap (λ live. create_refusals live fit place.Unnamed attrs) (is_live_alike r)
  create_refusals_alike where_to where_else fit attrs (names {root = root} {other = other} {name = name} same) =
      ap (λ live. create_refusals live fit (place.At root name) attrs) (is_live_alike r)

  pub creates_at_alike : (where_to where_else : Place) (attrs : ℕ) (shadow second : Option ℕ) (making : Option ℕ → Making K) → AreAlikePlaces s t r where_to where_else
      → AreAlikeRoots s t r shadow second → CreatesAt g s r where_to attrs shadow making a u → CreatesAt g t r where_else attrs second making b v → EndAlike
  creates_at_alike where_to where_else attrs shadow second making same shadows h k =
      unless_alike (create_refusals (is_live s r) (is_fit (making None)) where_to attrs) (create_refusals (is_live t r) (is_fit (making None)) where_else attrs)
      (CreatesIn g s r where_to attrs shadow making a u) (CreatesIn g t r where_else attrs second making b v)
      (create_refusals_alike where_to where_else (is_fit (making None)) attrs same) (creates_in_alike where_to where_else attrs shadow second making same shadows) h k

  pub opens_name_alike : (root other : Option ℕ) (name : List ℕ) (attrs : ℕ) (wanted : Wanted K) → AreAlikeRoots s t r root other
      → OpensName g s r root name attrs wanted a u → OpensName g t r other name attrs wanted b v → EndAlike
  opens_name_alike root other name attrs wanted same h k =
      unless_alike (open_refusals (is_live s r) name attrs) (open_refusals (is_live t r) name attrs)
      (WithRoot s r root a u DoesS) (WithRoot t r other b v DoesT) (ap (λ live. open_refusals live name attrs) (is_live_alike r))
      (using_root_alike r root other DoesS DoesT same
      (λ at x y. opens_alike attrs wanted x.0 x.2
      (subst (λ look. Opens g t r attrs wanted look b v) (look_alike r (open_mode wanted attrs) most_reparses at name x.0 y.0 x.1 y.1) y.2))) h k
    where
      DoesS : Option ℕ → Type 0
      DoesS at = (look : Look) × LooksUp g s r (open_mode wanted attrs) most_reparses at name look × Opens g s r attrs wanted look a u

      DoesT : Option ℕ → Type 0
      DoesT at = (look : Look) × LooksUp g t r (open_mode wanted attrs) most_reparses at name look × Opens g t r attrs wanted look b v

  pub closes_alike : (p value other : ℕ) → ((owner named : ℕ) → owner ≡ p → key_of named ≡ key_of value → IsClosed owner named) → LeadAlike s t p value other → Closes g s p value a u → Closes g t p other b v → EndAlike
  closes_alike p value other closes lead h k =
      using_handle_alike p value other (λ x. (a ≡ answers Success) × (u ≡ settle g (closed_handle g s x))) (λ y. (b ≡ answers Success) × (v ≡ settle g (closed_handle g t y))) lead
      (λ x y first second same h k.
      ends_alike (answers Success) (answers Success) (settle g (closed_handle g s x)) (settle g (closed_handle g t y)) h.0 h.1 k.0 k.1 refl
      (settle_alike g (closed_handle g s x) (closed_handle g t y) (closed_alike g s t alike (is_named p value) (is_named p other) x y lead same first second))
      (lead_on_with_nothing s t q r (answers Success) (answers Success) (settle g (closed_handle g s x)) (settle g (closed_handle g t y)) refl refl
      (λ owner named named_too held before. closed_lead g s t alike (is_named p value) (is_named p other) x y lead first second owner named named_too before))
      (hold_on_with_nothing s IsClosed r (answers Success) (settle g (closed_handle g s x)) refl refl
      (λ owner named held left. closed_held g s (is_named p value) x first owner named
      (λ z one two. let twice = named_twice p value owner named z one two in left (closes owner named twice.0 twice.1)) held))) h k

  pub queries_link_alike : (p value other : ℕ) → LeadAlike s t p value other → QueriesLink s p value a u → QueriesLink t p other b v → EndAlike
  queries_link_alike p value other lead h k =
      using_handle_alike p value other (λ x. TellsTarget s x.object a × (u ≡ s)) (λ y. TellsTarget t y.object b × (v ≡ t)) lead
      (λ x y first second same h k.
      ends_alike b b s t
      (tells_target_unique s x.object a b h.0 (subst (λ (z : State K T F I). TellsTarget z x.object b) (sym alike) (subst (λ (z : Held). TellsTarget t z.object b) (sym same) k.0)))
      h.1 refl k.1 refl alike
      (let nothing = target_gives_nothing t y.object b k.0 in same_lead b b s t nothing.0 nothing.1 refl refl)
      (let nothing = target_gives_nothing t y.object b k.0 in same_hold b s nothing.0 nothing.1 refl)) h k

  pub queries_name_alike : (p value other : ℕ) → LeadAlike s t p value other → QueriesName s p value a u → QueriesName t p other b v → EndAlike
  queries_name_alike p value other lead h k =
      using_handle_alike p value other (λ x. TellsName s x.object a × (u ≡ s)) (λ y. TellsName t y.object b × (v ≡ t)) lead
      (λ x y first second same h k.
      ends_alike b b s t
      (tells_name_unique s x.object a b h.0
      (subst (λ (z : State K T F I). TellsName z x.object b) (sym alike) (tells_name-unvalued t x.object b (subst (λ (z : Held). TellsName t z.object b) (sym same) k.0))))
      h.1 refl k.1 refl alike
      (let nothing = name_gives_nothing t y.object b k.0 in same_lead b b s t nothing.0 nothing.1 refl refl)
      (let nothing = name_gives_nothing t y.object b k.0 in same_hold b s nothing.0 nothing.1 refl)) h k

  pub turns_alike : (p value other : ℕ) (permanent : Bool) → LeadAlike s t p value other → Turns g s p value permanent a u → Turns g t p other permanent b v → EndAlike
  turns_alike p value other permanent lead h k =
      using_handle_alike p value other (λ x. (a ≡ answers Success) × (u ≡ settle g (turned s x.object permanent))) (λ y. (b ≡ answers Success) × (v ≡ settle g (turned t y.object permanent))) lead
      (λ x y first second same h k.
      ends_alike (answers Success) (answers Success) (settle g (turned s x.object permanent)) (settle g (turned t y.object permanent)) h.0 h.1 k.0 k.1 refl
      (settle_alike g (turned s x.object permanent) (turned t y.object permanent)
      (turned_alike g s t alike x.object permanent ∙ ap (λ (z : Held). unvalued (turned t z.object permanent)) same))
      (same_lead (answers Success) (answers Success) (settle g (turned s x.object permanent)) (settle g (turned t y.object permanent)) refl refl
      (turned_handles s x.object permanent) (turned_handles t y.object permanent))
      (same_hold (answers Success) (settle g (turned s x.object permanent)) refl refl (turned_handles s x.object permanent))) h k

  pub sets_map_alike : (p value other : ℕ) → LeadAlike s t p value other → SetsMap g s p value a u → SetsMap g t p other b v → EndAlike
  sets_map_alike p value other lead h k =
      using_handle_alike p value other (Sets s a u) (Sets t b v) lead
      (λ x y first second same h k.
      unless_alike ((not (is_directory s x.object), ObjectTypeMismatch) ∷ []) ((not (is_directory t y.object), ObjectTypeMismatch) ∷ []) (Done s a u x) (Done t b v y)
      (λ i. (not (is_directory (alike i) (same i).object), ObjectTypeMismatch) ∷ [])
      (λ h k.
      ends_alike (answers Success) (answers Success) (settle g (with_map s p x.object)) (settle g (with_map t p y.object)) h.0 h.1 k.0 k.1 refl
      (settle_alike g (with_map s p x.object) (with_map t p y.object) (λ i. with_map (alike i) p (same i).object))
      (same_lead (answers Success) (answers Success) (settle g (with_map s p x.object)) (settle g (with_map t p y.object)) refl refl refl refl)
      (same_hold (answers Success) (settle g (with_map s p x.object)) refl refl refl)) h k) h k
    where
      Done : State K T F I → Answer → State K T F I → Held → Type 0
      Done x answer end y = (answer ≡ answers Success) × (end ≡ settle g (with_map x p y.object))

      Sets : State K T F I → Answer → State K T F I → Held → Type 0
      Sets x answer end y = Unless ((not (is_directory x y.object), ObjectTypeMismatch) ∷ []) x answer end (Done x answer end y)

  pub queries_directory_alike : (p value other context room : ℕ) (single restart : Bool) → LeadAlike s t p value other
      → QueriesDirectory g s p value context room single restart a u → QueriesDirectory g t p other context room single restart b v → EndAlike
  queries_directory_alike p value other context room single restart lead h k =
      unless_alike (page_refusals (is_live s p) room) (page_refusals (is_live t p) room)
      (MatchOption (option_and_then (held_of s p) (key_of value)) (IsRefused s InvalidHandle a u) (Pages s a u))
      (MatchOption (option_and_then (held_of t p) (key_of other)) (IsRefused t InvalidHandle b v) (Pages t b v))
      (λ i. page_refusals (is_live_alike p i) room)
      (found_handle_alike p value other (Pages s a u) (Pages t b v) lead
      (λ x y first second same h k.
      unless_alike ((not (is_directory s x.object), ObjectTypeMismatch) ∷ []) ((not (is_directory t y.object), ObjectTypeMismatch) ∷ []) (Told s a u x) (Told t b v y)
      (λ i. (not (is_directory (alike i) (same i).object), ObjectTypeMismatch) ∷ [])
      (λ h k.
      ends_alike (told s x) (told t y) s t h.0 h.1 k.0 k.1 (λ i. told (alike i) (same i)) alike
      (same_lead (told s x) (told t y) s t refl refl refl refl) (same_hold (told s x) s refl refl refl)) h k)) h k
    where
      told : State K T F I → Held → Answer
      told x y = page_answer (enumerated g x y.object (context_used restart context) room single)

      Told : State K T F I → Answer → State K T F I → Held → Type 0
      Told x answer end y = (answer ≡ told x y) × (end ≡ x)

      Pages : State K T F I → Answer → State K T F I → Held → Type 0
      Pages x answer end y = TellsPage g x y.object (context_used restart context) room single answer end

  pub duplicates_alike : (p value other : ℕ) (inherit : Bool) → LeadAlike s t p value other → Duplicates g s p value r inherit a u → Duplicates g t p other r inherit b v → EndAlike
  duplicates_alike p value other inherit lead h k =
      unless_alike ((not (is_live s p), ProcessGone) ∷ (not (is_live s r), ProcessGone) ∷ []) ((not (is_live t p), ProcessGone) ∷ (not (is_live t r), ProcessGone) ∷ [])
      (MatchOption (option_and_then (held_of s p) (key_of value)) (IsRefused s InvalidHandle a u) (Given s a u))
      (MatchOption (option_and_then (held_of t p) (key_of other)) (IsRefused t InvalidHandle b v) (Given t b v))
      (λ i. (not (is_live_alike p i), ProcessGone) ∷ (not (is_live_alike r i), ProcessGone) ∷ [])
      (found_handle_alike p value other (Given s a u) (Given t b v) lead
      (λ x y first second same h k.
      gives_handle_alike x.object (record { inherit = inherit; exclusive = false }) Duplicated Success h (subst (λ (z : Held). Given t b v z) (sym same) k))) h k
    where
      Given : State K T F I → Answer → State K T F I → Held → Type 0
      Given x answer end y = GivesHandle g x r y.object (record { inherit = inherit; exclusive = false }) Duplicated Success answer end

  pub makes_child_alike : IsSound s → IsSound t → (inherit : Bool) → MakesChild g s q inherit a u → MakesChild g t q inherit b v → EndAlike
  makes_child_alike s_sound t_sound inherit h k =
      unless_alike ((not (is_live s q), ProcessGone) ∷ (is_crowded s q inherit, InsufficientResources) ∷ []) ((not (is_live t q), ProcessGone) ∷ (is_crowded t q inherit, InsufficientResources) ∷ [])
      (Child s a u) (Child t b v)
      (λ i. (not (is_live_alike q i), ProcessGone) ∷ (crowded i, InsufficientResources) ∷ [])
      (λ h k.
      ends_alike (told s) (told t) (settle g (begun g s q inherit)) (settle g (begun g t q inherit)) h.0 h.1 k.0 k.1 told_alike
      (settle_alike g (begun g s q inherit) (begun g t q inherit) (begun_alike g s t alike q inherit))
      (record {
        held = λ p value other held lead. begun_lead_held g s t alike s_sound q inherit p value other held lead;
        granted = λ value other given given_too. cc;
        inherited = λ child value other given lead.
            let same : s.next_process ≡ child = cc in
            subst (λ (n : ℕ). LeadAlike (begun g s q inherit) (begun g t q inherit) n value other) same (begun_lead_child g s t alike s_sound t_sound q inherit value other lead);
      })
      (record {
        stays = λ p value held left. begun_held g s q inherit p value held;
        given = λ value given. cc;
        told = λ child given.
            let same : s.next_process ≡ child = cc in
            ap (values_in (begun g s q inherit)) same;
      })) h k
    where
      told : State K T F I → Answer
      told x = gives Success (Process x.next_process (values_in (begun g x q inherit) x.next_process))

      Child : State K T F I → Answer → State K T F I → Type 0
      Child x answer end = (answer ≡ told x) × (end ≡ settle g (begun g x q inherit))

      crowded : is_crowded s q inherit ≡ is_crowded t q inherit
      crowded = sym (is_crowded-unvalued s q inherit) ∙ ap (λ x. is_crowded x q inherit) alike ∙ is_crowded-unvalued t q inherit

      numbers : s.next_process ≡ t.next_process
      numbers = ap (λ x. x.next_process) alike

      counts : map {B = ℕ} (λ value. 0) (values_in (begun g s q inherit) s.next_process) ≡ map {B = ℕ} (λ value. 0) (values_in (begun g t q inherit) t.next_process)
      counts =
          sym (values_in-unvalued (begun g s q inherit) s.next_process)
          ∙ (λ i. values_in (begun_alike g s t alike q inherit i) (numbers i))
          ∙ values_in-unvalued (begun g t q inherit) t.next_process

      told_alike : AreAlikeAnswers (told s) (told t)
      told_alike = λ i. gives Success (Process (numbers i) (counts i))
