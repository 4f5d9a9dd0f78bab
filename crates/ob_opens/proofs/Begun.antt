-- Opens that wait for a parse: the face of the object that is to parse, and whose parse it is.
use Rattle.std.proofs.Common.{◌≡◌, ◌∙◌, ℕ, Bool, true, false, List, [], ◌∷◌, Option, None, Some, Global, Result, Ok, Err, IfOk, ap, refl, sym, subst}
use Rattle.std.specs.Prelude.{MatchOption}
use Rattle.std.specs.declared.sync.Arc.{Arc}
use Rattle.std.specs.Result.{MatchResult}
use Rattle.std.specs.Option.{option_and_then, option_map}
use Rattle.ob_base.specs.declared.status.Status.TheVariants.{InsufficientResources}
use Rattle.ob_model.specs.declared.reply.Answer.TheVariants.{Ticket}
use Rattle.ob_model.specs.declared.state.PendingOpen.{PendingOpen}
use Rattle.ob_model.specs.declared.state.Wanted.{Wanted}
use Rattle.ob_model.specs.Procedures.{Procedures}
use Rattle.ob_model.specs.State.{State, is_store_full}
use Rattle.ob_model.specs.PendingOpens.{face_in, face_of, with_pending}
use Rattle.ob_model.specs.Grants.{first_refusal}
use Rattle.ob_model.specs.Opens.{Begins}
use Rattle.ob_model.specs.Refusals.{IsRefused}
use Rattle.ob_model.specs.Settle.{IsSettled, settle}
use Rattle.ob_model.specs.Sound.{IsSound}
use Rattle.ob_model.proofs.Staying.{settled_itself}
use Rattle.ob_objects.specs.declared.object.StoredBody.{StoredBody}
use Rattle.ob_objects.specs.declared.object.StoredBody.TheVariants as stored
use Rattle.ob_objects.specs.declared.object.StoredObject.{StoredObject}
use Rattle.ob_objects.specs.Store.{Entries, Shows, stored_at, body_of_stored}
use Rattle.ob_lookup.proofs.Seen.{body_shown}
use Rattle.ob_opens.proofs.Pinning.{pending_settled}
use Rattle.ob_opens.proofs.BegunAgain.{last_found}
use Rattle.ob_space.specs.Looking.{IsParsing}
use Rattle.ob_opens.specs.Waiting.{IsParseOf}

module _ {K T F I : Type 0} (g : Procedures K T F I) (s : State K T F I) (store : Entries F I) (shows : Shows s store) (o : ℕ) where
  -- the face of an object is that of what is stored
  pub face_shown : (x : Option (StoredObject F I)) → stored_at store o ≡ x → face_of s o ≡ option_and_then face_in (option_map (λ y. body_of_stored y.body) x)
  face_shown x e = ap (option_and_then face_in) (body_shown s store shows o) ∙ ap (λ z. option_and_then face_in (option_map (λ y. body_of_stored y.body) z)) e

  parsing_shown : (x : Option (StoredObject F I)) → stored_at store o ≡ x → IsParsing g s o
      → MatchOption (option_and_then face_in (option_map (λ y. body_of_stored y.body) x)) ⊥ (λ face. g.parses (g.kind_of face) ≡ true)
  parsing_shown x e h = subst (λ (f : Option F). MatchOption f ⊥ (λ face. g.parses (g.kind_of face) ≡ true)) (face_shown x e) h

  -- an object whose kind parses is stored
  pub is_stored : stored_at store o ≡ None → IsParsing g s o → ⊥
  is_stored e h = parsing_shown None e h

  -- and is one of the set
  is_of_set : (x : StoredObject F I) → stored_at store o ≡ Some x → IsParsing g s o → (b : StoredBody F I) → x.body ≡ b
      → MatchOption (face_in (body_of_stored b)) ⊥ (λ face. g.parses (g.kind_of face) ≡ true)
  is_of_set x e h b is = subst (λ (c : StoredBody F I). MatchOption (face_in (body_of_stored c)) ⊥ (λ face. g.parses (g.kind_of face) ≡ true)) is (parsing_shown (Some x) e h)

  pub not_other : (x : StoredObject F I) → stored_at store o ≡ Some x → ((face : Arc F Global) (inner : I) → x.body ≡ stored.Other face inner → ⊥) → IsParsing g s o → ⊥
  not_other x e never h = go x.body refl (is_of_set x e h x.body refl)
    where
      go : (b : StoredBody F I) → x.body ≡ b → MatchOption (face_in (body_of_stored b)) ⊥ (λ face. g.parses (g.kind_of face) ≡ true) → ⊥
      go (stored.Directory entries shadow) is h = h
      go (stored.Link target) is h = h
      go (stored.Other face inner) is h = never face inner is

  pub face_of_set : (x : StoredObject F I) (b : StoredBody F I) → stored_at store o ≡ Some x → x.body ≡ b → face_of s o ≡ face_in (body_of_stored b)
  face_of_set x b e is = face_shown (Some x) e ∙ ap (λ (c : StoredBody F I). face_in (body_of_stored c)) is

-- what holds where it is Ok
pub where_ok : {X E : Type 0} (P Q : X → Type 0) (N : E → Type 0) (r : Result X E) → ((x : X) → Q x → P x) → MatchResult r Q N → IfOk r P
where_ok P Q N (Ok x) follows h = follows x h
where_ok P Q N (Err e) follows h = tt

module _ {K T F I : Type 0} (g : Procedures K T F I) (s t : State K T F I) (p attrs : ℕ) (wanted : Wanted K) (o : ℕ) (rest : List ℕ) (n : ℕ) (face : F) (ticket : ℕ)
    (sound : IsSound s) (settled : IsSettled s) (is : face_of s o ≡ Some face) where
  abbrev w : State K T F I
  w = with_pending s p attrs wanted o rest n

  abbrev new : PendingOpen K
  new = record { ticket = s.next_id; process = p; object = o; rest = rest; left = n; attrs = attrs; wanted = wanted }

  there : IsParseOf w (record { ticket = s.next_id; face = face; rest = rest })
  there = subst (λ (x : Option (PendingOpen K)). MatchOption x ⊥ (λ y. (y.rest ≡ rest) × (face_of w y.object ≡ Some face))) (sym (last_found s.next_id new s.pending sound.pending.ticketed refl)) (refl, is)

  begun : Ticket ticket ≡ Ticket s.next_id → t ≡ settle g w → IsParseOf t (record { ticket = ticket; face = face; rest = rest })
  begun same left =
      let number : s.next_id ≡ ticket = cc in
      let stays : t ≡ w = left ∙ settled_itself g w (pending_settled g s p attrs wanted o rest n settled) in
      subst (λ (v : State K T F I). IsParseOf v (record { ticket = ticket; face = face; rest = rest })) (sym stays)
      (subst (λ (m : ℕ). IsParseOf w (record { ticket = m; face = face; rest = rest })) number there)

  -- an open that begins to wait is found under its ticket, and its parse is that of the object that it pins
  pub awaits : Begins g s p attrs wanted o rest n (Ticket ticket) t → IsParseOf t (record { ticket = ticket; face = face; rest = rest })
  awaits h = go (is_store_full s) h
    where
      go : (b : Bool) → MatchOption (first_refusal ((b, InsufficientResources) ∷ [])) ((Ticket ticket ≡ Ticket s.next_id) × (t ≡ settle g w)) (λ status. IsRefused s status (Ticket ticket) t)
          → IsParseOf t (record { ticket = ticket; face = face; rest = rest })
      go true h = let never = h.0 in cc
      go false h = begun h.0 h.1
