-- Requests, and forms of a line.
use Rattle.std.proofs.Common.{◌≡◌, ◌≢◌, ℕ, inl, inr, List, [], ◌∷◌, ◌++◌, Option, Some, None, IfSome, IfNone, Bool, true, false, drop, refl, ap, arith, codes, append_assoc, sym, subst, ◌∙◌}
use Rattle.std.specs.Borrow.{Bor}
use Rattle.std.specs.Char.{IsAsciiAlphabetic}
use Rattle.ob_lines.specs.declared.form.Form.{Form}
use Rattle.ob_lines.specs.declared.form.Form.TheVariants.{Nothing, Stat, Asks, Waits}
use Rattle.ob_parts.specs.declared.handle.HandleForm.{HandleForm}
use Rattle.ob_parts.specs.declared.kind.KindForm.{KindForm}
use Rattle.ob_parts.specs.declared.page.PageMode.{PageMode}
use Rattle.ob_lines.specs.declared.pending.PendingForm.{PendingForm}
use Rattle.ob_lines.specs.declared.pending.PendingForm.TheVariants.{Begin, End, Drop}
use Rattle.ob_parts.specs.declared.name.NameForm.{NameForm}
use Rattle.ob_parts.specs.declared.name.NameForm.TheVariants.{Absolute, Relative}
use Rattle.ob_parts.specs.declared.name.PlaceForm.{PlaceForm}
use Rattle.ob_parts.specs.declared.name.PlaceForm.TheVariants.{Named, Unnamed}
use Rattle.ob_lines.specs.declared.request.Request.{Request}
use Rattle.ob_lines.specs.declared.request.Request.TheVariants.{CreateDirectory, CreateShadowed, CreateLink, CreateObject, OpenDirectory, OpenLink, OpenObject, Close, QueryLink, QueryName, QueryDirectory, Duplicate, MakeTemporary, MakePermanent, SetDeviceMap, NewProcess, ExitProcess}
use Rattle.ob_lines.specs.declared.verb.Verb.{Verb}
use Rattle.ob_lines.specs.declared.verb.Verb.TheVariants as verb
use Rattle.ob_parts.specs.Text.{Lacks, IsText}
use Rattle.ob_parts.specs.Parts.{text_of, BeginsWithName, BeginsWithPlace, BeginsWithRoom, BeginsWithProcess, BeginsWithInherit, IsSetting, SetsProcess, IsFlagsAndVariable, IsFlagsTextAndVariable, IsWantNameFlagsAndVariable, IsPlaceFlagsTextAndVariable}
use Rattle.ob_lines.specs.Script.{HasForm, found_seen}
use Rattle.ob_lines.specs.Verbs.{verb_text}
use Rattle.ob_lines.specs.Grammar.{HasPlaceText, HasTexts, PendingHasTexts, FormHasTexts, verb_of, IsOperands, IsVerbAndOperands, IsRequest, IsPending, IsHandlePlaceFlagsAndVariable, IsHandleRoomAndMode, IsHandleProcessAndVariable, IsInheritAndProcess, IsIdle, IsLine, LinesHaveOneForm, form_seen}
use Rattle.ob_parts.proofs.Cuts.{lacks_no_cut}
use Rattle.ob_parts.proofs.Flagged.{lacks_from_test}
use Rattle.ob_parts.proofs.Handles.{handle_alike}
use Rattle.ob_parts.proofs.Readings.{apart, differ, moved, spaced, spaced_alike, place_alike, kind_alike, set_alike, ends_alike, name_ends_alike, place_ends_alike, want_ends_alike}
use Rattle.ob_parts.proofs.Processed.{handle_first_alike, process_alike, process_uncut, inherit_alike, set_process_alike}
use Rattle.ob_parts.proofs.Paged.{room_alike, mode_same}
use Rattle.ob_lines.proofs.Verbs.{verb_lacks, verb_same, Each, of_verb, begin_no_verb, end_no_verb, drop_no_verb}

-- an H PLACE FLAGS =V has one reading
handle_place_ends_alike : (bytes : List ℕ) (h : HandleForm (List ℕ)) (p : PlaceForm (List ℕ)) (a : ℕ) (w : List ℕ) (h' : HandleForm (List ℕ)) (p' : PlaceForm (List ℕ)) (a' : ℕ) (w' : List ℕ)
    → IsHandlePlaceFlagsAndVariable bytes h p a w → IsHandlePlaceFlagsAndVariable bytes h' p' a' w' → (h ≡ h') × (p ≡ p') × (a ≡ a') × (w ≡ w')
handle_place_ends_alike bytes h p a w h' p' a' w' (r, m, b, c, f) (r', m', b', c', f') =
    let handle = handle_first_alike bytes h r h' r' b b' in
    let place = place_alike r p m p' m' c (moved (λ x. BeginsWithPlace x p' m') r r' handle.1 c') in
    let same = ends_alike m a w a' w' f (moved (λ x. IsFlagsAndVariable x a' w') m m' place.1 f') in
    (handle.0, place.0, same.0, same.1)

-- an H ROOM MODE has one reading
page_ends_alike : (bytes : List ℕ) (h : HandleForm (List ℕ)) (n : ℕ) (m : PageMode) (h' : HandleForm (List ℕ)) (n' : ℕ) (m' : PageMode)
    → IsHandleRoomAndMode bytes h n m → IsHandleRoomAndMode bytes h' n' m' → (h ≡ h') × (n ≡ n') × (m ≡ m')
page_ends_alike bytes h n m h' n' m' (r, l, a, b, c) (r', l', a', b', c') =
    let handle = handle_first_alike bytes h r h' r' a a' in
    let room = room_alike r n l n' l' b (moved (λ x. BeginsWithRoom x n' l') r r' handle.1 b') in
    (handle.0, room.0, mode_same m m' (sym c ∙ (room.1 ∙ c')))

-- an H Q plain =V has one reading, and a plain =Q
handle_ends_alike : (bytes : List ℕ) (h : HandleForm (List ℕ)) (q : List ℕ) (i : Bool) (w : List ℕ) (h' : HandleForm (List ℕ)) (q' : List ℕ) (i' : Bool) (w' : List ℕ)
    → IsHandleProcessAndVariable bytes h q i w → IsHandleProcessAndVariable bytes h' q' i' w' → (h ≡ h') × (q ≡ q') × (i ≡ i') × (w ≡ w')
handle_ends_alike bytes h q i w h' q' i' w' (r, m, l, a, b, c, s) (r', m', l', a', b', c', s') =
    let handle = handle_first_alike bytes h r h' r' a a' in
    let process = process_alike r q m q' m' b (moved (λ x. BeginsWithProcess x q' m') r r' handle.1 b') in
    let inherit = inherit_alike m i l i' l' c (moved (λ x. BeginsWithInherit x i' l') m m' process.1 c') in
    (handle.0, process.0, inherit.0, set_alike l w w' s (moved (λ x. IsSetting x w') l l' inherit.1 s'))

inherit_ends_alike : (bytes : List ℕ) (i : Bool) (q : List ℕ) (i' : Bool) (q' : List ℕ) → IsInheritAndProcess bytes i q → IsInheritAndProcess bytes i' q'
    → (i ≡ i') × (q ≡ q')
inherit_ends_alike bytes i q i' q' (r, c, s) (r', c', s') =
    let inherit = inherit_alike bytes i r i' r' c c' in
    (inherit.0, set_process_alike r q q' s (moved (λ x. SetsProcess x q') r r' inherit.1 s'))

-- operands have one reading for each verb
reads_alone : (bytes : List ℕ) (a : Request (List ℕ)) → IsOperands bytes a → Each (verb_of a) (λ b. IsOperands bytes b → a ≡ b)
reads_alone bytes (CreateDirectory p a w) (r, b, f) = λ p' a' w' s.
    let place = place_alike bytes p r p' s.0 b s.1 in
    let same = ends_alike r a w a' w' f (moved (λ x. IsFlagsAndVariable x a' w') r s.0 place.1 s.2) in
    rw (place.0, same.0, same.1) refl
reads_alone bytes (CreateShadowed h p a w) s = λ h' p' a' w' s'.
    let same = handle_place_ends_alike bytes h p a w h' p' a' w' s s' in
    rw (same.0, same.1, same.2, same.3) refl
reads_alone bytes (CreateLink p a t w) s = λ p' a' t' w' s'.
    let same = place_ends_alike bytes p a t w p' a' t' w' s s' in
    rw (same.0, same.1, same.2, same.3) refl
reads_alone bytes (CreateObject k p a t w) (r, c, s) = λ k' p' a' t' w' s'.
    let kind = kind_alike bytes k r k' s'.0 c s'.1 in
    let same = place_ends_alike r p a t w p' a' t' w' s (moved (λ x. IsPlaceFlagsTextAndVariable x p' a' t' w') r s'.0 kind.1 s'.2) in
    rw (kind.0, same.0, same.1, same.2, same.3) refl
reads_alone bytes (OpenDirectory n a w) s = λ n' a' w' s'.
    let same = name_ends_alike bytes n a w n' a' w' s s' in
    rw (same.0, same.1, same.2) refl
reads_alone bytes (OpenLink n a w) s = λ n' a' w' s'.
    let same = name_ends_alike bytes n a w n' a' w' s s' in
    rw (same.0, same.1, same.2) refl
reads_alone bytes (OpenObject k n a w) s = λ k' n' a' w' s'.
    let same = want_ends_alike bytes k n a w k' n' a' w' s s' in
    rw (same.0, same.1, same.2, same.3) refl
reads_alone bytes (Close h) s = λ h' s'. ap Close (handle_alike bytes h h' s s')
reads_alone bytes (QueryLink h) s = λ h' s'. ap QueryLink (handle_alike bytes h h' s s')
reads_alone bytes (QueryName h) s = λ h' s'. ap QueryName (handle_alike bytes h h' s s')
reads_alone bytes (QueryDirectory h n m) s = λ h' n' m' s'.
    let same = page_ends_alike bytes h n m h' n' m' s s' in
    rw (same.0, same.1, same.2) refl
reads_alone bytes (Duplicate h q i w) s = λ h' q' i' w' s'.
    let same = handle_ends_alike bytes h q i w h' q' i' w' s s' in
    rw (same.0, same.1, same.2, same.3) refl
reads_alone bytes (MakeTemporary h) s = λ h' s'. ap MakeTemporary (handle_alike bytes h h' s s')
reads_alone bytes (MakePermanent h) s = λ h' s'. ap MakePermanent (handle_alike bytes h h' s s')
reads_alone bytes (SetDeviceMap h) s = λ h' s'. ap SetDeviceMap (handle_alike bytes h h' s s')
reads_alone bytes (NewProcess i q) s = λ i' q' s'.
    let same = inherit_ends_alike bytes i q i' q' s s' in
    rw (same.0, same.1) refl
reads_alone bytes ExitProcess s = absurd s

operands_alike : (bytes : List ℕ) (a b : Request (List ℕ)) → verb_of a ≡ verb_of b → IsOperands bytes a → IsOperands bytes b → a ≡ b
operands_alike bytes a b e s = of_verb (λ r. IsOperands bytes r → a ≡ r) (verb_of a) (reads_alone bytes a s) b (sym e)

-- a verb and operands that are cut after the verb are no other
pub request_parts : (bytes word rest : List ℕ) (r : Request (List ℕ)) → bytes ≡ word ++ (0x20 ∷ rest) → Lacks 0x20 word → IsVerbAndOperands bytes r
    → (word ≡ verb_text (verb_of r)) × IsOperands rest r
request_parts bytes word rest r e l (operands, f, s) =
    let same : (word ≡ verb_text (verb_of r)) × (rest ≡ operands) = spaced_alike bytes word rest (verb_text (verb_of r)) operands l (verb_lacks (verb_of r)) e f in
    (same.0, moved (λ x. IsOperands x r) rest operands same.1 s)

pub request_uncut : (bytes : List ℕ) (r : Request (List ℕ)) → Lacks 0x20 bytes → ¬ IsVerbAndOperands bytes r
request_uncut bytes r l (operands, e, s) =
    lacks_no_cut 0x20 bytes (verb_text (verb_of r)) operands l (spaced bytes (verb_text (verb_of r)) operands e)

-- a verb, a space and its operands are read so
pub request_joined : (bytes word rest : List ℕ) (v : Verb) (r : Request (List ℕ)) → bytes ≡ word ++ (0x20 ∷ rest) → word ≡ verb_text v → verb_of r ≡ v
    → IsOperands rest r → IsVerbAndOperands bytes r
request_joined bytes word rest v r e f g s = (rest, e ∙ (rw (f, g) (sym (simp append_assoc))), s)

-- `exit` alone is no verb with operands, and bytes that a test tells apart from it are no `exit`
alone_no_operands : (bytes : List ℕ) (r : Request (List ℕ)) → bytes ≡ codes "exit" → ¬ IsVerbAndOperands bytes r
alone_no_operands bytes r e s = request_uncut bytes r (moved (Lacks 0x20) bytes (codes "exit") e (verb_lacks verb.Exit)) s

pub no_exit : (bytes : List ℕ) → (bytes ≡ codes "exit" → ⊥) → ((r : Request (List ℕ)) → ¬ IsVerbAndOperands bytes r) → (r : Request (List ℕ)) → ¬ IsRequest bytes r
no_exit bytes alone none r (inl s) = alone s.0
no_exit bytes alone none r (inr s) = none r s

-- a request has one reading
spelled_requests_alike : (bytes : List ℕ) (a b : Request (List ℕ)) → IsVerbAndOperands bytes a → IsVerbAndOperands bytes b → a ≡ b
spelled_requests_alike bytes a b (rest, e, s) t =
    let parts = request_parts bytes (verb_text (verb_of a)) rest b (spaced bytes (verb_text (verb_of a)) rest e) (verb_lacks (verb_of a)) t in
    operands_alike rest a b (verb_same (verb_of a) (verb_of b) parts.0) s parts.1

request_alike : (bytes : List ℕ) (a b : Request (List ℕ)) → IsRequest bytes a → IsRequest bytes b → a ≡ b
request_alike bytes a b (inl s) (inl t) = s.1 ∙ sym t.1
request_alike bytes a b (inl s) (inr t) = absurd (alone_no_operands bytes b s.0 t)
request_alike bytes a b (inr s) (inl t) = absurd (alone_no_operands bytes a t.0 s)
request_alike bytes a b (inr s) (inr t) = spelled_requests_alike bytes a b s t

-- a line on a pending open has one reading
begun_parts : (bytes rest : List ℕ) (k : Option KindForm) (n : NameForm (List ℕ)) (a : ℕ) (w : List ℕ) → bytes ≡ codes "begin " ++ rest
    → IsPending bytes (Begin k n a w) → IsWantNameFlagsAndVariable rest k n a w
begun_parts bytes rest k n a w e (operands, f, s) = moved (λ x. IsWantNameFlagsAndVariable x k n a w) rest operands (ap (drop 6) (sym e ∙ f)) s

pending_alike : (bytes : List ℕ) (a b : PendingForm (List ℕ)) → IsPending bytes a → IsPending bytes b → a ≡ b
pending_alike bytes (Begin k n a w) (Begin k' n' a' w') (rest, e, s) t =
    let same = want_ends_alike rest k n a w k' n' a' w' s (begun_parts bytes rest k' n' a' w' e t) in
    rw (same.0, same.1, same.2, same.3) refl
pending_alike bytes (Begin k n a w) (End v) (rest, e, s) (is, f) = absurd (apart 0x62 0x65 (sym e ∙ f) (omega arith))
pending_alike bytes (Begin k n a w) (Drop v) (rest, e, s) (is, f) = absurd (apart 0x62 0x64 (sym e ∙ f) (omega arith))
pending_alike bytes (End v) (Begin k n a w) (is, f) (rest, e, s) = absurd (apart 0x62 0x65 (sym e ∙ f) (omega arith))
pending_alike bytes (End v) (End w) (is, e) (are, f) = ap End (ap (drop 4) (sym e ∙ f))
pending_alike bytes (End v) (Drop w) (is, e) (are, f) = absurd (apart 0x65 0x64 (sym e ∙ f) (omega arith))
pending_alike bytes (Drop v) (Begin k n a w) (is, f) (rest, e, s) = absurd (apart 0x62 0x64 (sym e ∙ f) (omega arith))
pending_alike bytes (Drop v) (End w) (is, e) (are, f) = absurd (apart 0x65 0x64 (sym f ∙ e) (omega arith))
pending_alike bytes (Drop v) (Drop w) (is, e) (are, f) = ap Drop (ap (drop 5) (sym e ∙ f))

-- a line on a pending open is no request: neither `exit`, nor a verb with operands
pending_cut : (bytes : List ℕ) (p : PendingForm (List ℕ)) → IsPending bytes p
    → (word rest : List ℕ) × (bytes ≡ word ++ (0x20 ∷ rest)) × Lacks 0x20 word × ((v : Verb) → ¬ (word ≡ verb_text v))
pending_cut bytes (Begin k n a w) (rest, e, s) = (codes "begin", rest, e, lacks_from_test 0x20 (codes "begin") refl, begin_no_verb)
pending_cut bytes (End w) (is, e) = (codes "end", w, e, lacks_from_test 0x20 (codes "end") refl, end_no_verb)
pending_cut bytes (Drop w) (is, e) = (codes "drop", w, e, lacks_from_test 0x20 (codes "drop") refl, drop_no_verb)

pending_no_request : (bytes : List ℕ) (p : PendingForm (List ℕ)) (r : Request (List ℕ)) → IsPending bytes p → ¬ IsRequest bytes r
pending_no_request bytes p r s (inl t) =
    let cut = pending_cut bytes p s in
    lacks_no_cut 0x20 bytes cut.0 cut.1 (moved (Lacks 0x20) bytes (codes "exit") t.0 (verb_lacks verb.Exit)) cut.2
pending_no_request bytes p r s (inr t) =
    let cut = pending_cut bytes p s in
    cut.4 (verb_of r) (request_parts bytes cut.0 cut.1 r cut.2 cut.3 t).0

-- bytes that begin with `begin ` and no operands of it after that are no line on a pending open
pub begin_alone : (bytes rest : List ℕ) → bytes ≡ codes "begin " ++ rest
    → ((k : Option KindForm) (n : NameForm (List ℕ)) (a : ℕ) (w : List ℕ) → ¬ IsWantNameFlagsAndVariable rest k n a w)
    → (p : PendingForm (List ℕ)) → ¬ IsPending bytes p
begin_alone bytes rest e none (Begin k n a w) s = none k n a w (begun_parts bytes rest k n a w e s)
begin_alone bytes rest e none (End w) (is, f) = apart 0x62 0x65 (sym e ∙ f) (omega arith)
begin_alone bytes rest e none (Drop w) (is, f) = apart 0x62 0x64 (sym e ∙ f) (omega arith)

-- the request of a line, or its request for a pending open, is the rest after the process variable
pub asks_rest : (line process rest p : List ℕ) (r : Request (List ℕ)) → BeginsWithProcess line process rest → IsLine line (Asks p r) → (process ≡ p) × IsRequest rest r
asks_rest line process rest p r b (more, c, request, short) =
    let same = process_alike line process rest p more b c in
    (same.0, moved (λ x. IsRequest x r) rest more same.1 request)

pub waits_rest : (line process rest p : List ℕ) (w : PendingForm (List ℕ)) → BeginsWithProcess line process rest → IsLine line (Waits p w) → (process ≡ p) × IsPending rest w
waits_rest line process rest p w b (more, c, pending, short) =
    let same = process_alike line process rest p more b c in
    (same.0, moved (λ x. IsPending x w) rest more same.1 pending)

-- a line that begins with a process variable isn't idle, and is no `stat`
process_not_idle : (line p rest : List ℕ) → BeginsWithProcess line p rest → ¬ IsIdle line
process_not_idle line [] rest b idle = absurd b.0.0
process_not_idle line (c ∷ cs) rest (variable, f) (inl e) = cc
process_not_idle line (c ∷ cs) rest (variable, f) (inr (comment, e)) =
    let head : c ≡ 0x23 = cc in not_sharp c variable.0.0 head
  where
    not_sharp : (c : ℕ) → IsAsciiAlphabetic c → c ≢ 0x23
    not_sharp c (inl h) e = omega arith
    not_sharp c (inr h) e = omega arith

process_not_stat : (line p rest : List ℕ) → BeginsWithProcess line p rest → ¬ (line ≡ codes "stat")
process_not_stat line p rest b e = process_uncut line p rest (moved (Lacks 0x20) line (codes "stat") e (lacks_from_test 0x20 (codes "stat") refl)) b

-- an idle line is no `stat`
stat_not_idle : (line : List ℕ) → line ≡ codes "stat" → ¬ IsIdle line
stat_not_idle line e (inl f) = differ (codes "stat") [] refl (sym e ∙ f)
stat_not_idle line e (inr (comment, f)) = apart 0x73 0x23 (sym e ∙ f) (omega arith)

-- a line has one form
pub line_alike : LinesHaveOneForm
line_alike line Nothing Nothing s t = refl
line_alike line Nothing Stat s t = absurd (stat_not_idle line t s.0)
line_alike line Nothing (Asks p r) s t = absurd (process_not_idle line p t.0 t.1 s.0)
line_alike line Nothing (Waits p w) s t = absurd (process_not_idle line p t.0 t.1 s.0)
line_alike line Stat Nothing s t = absurd (stat_not_idle line s t.0)
line_alike line Stat Stat s t = refl
line_alike line Stat (Asks p r) s t = absurd (process_not_stat line p t.0 t.1 s)
line_alike line Stat (Waits p w) s t = absurd (process_not_stat line p t.0 t.1 s)
line_alike line (Asks p r) Nothing s t = absurd (process_not_idle line p s.0 s.1 t.0)
line_alike line (Asks p r) Stat s t = absurd (process_not_stat line p s.0 s.1 t)
line_alike line (Asks p r) (Asks q s) (rest, b, request, short) t =
    let parts = asks_rest line p rest q s b t in
    rw (parts.0, request_alike rest r s request parts.1) refl
line_alike line (Asks p r) (Waits q w) (rest, b, request, short) t =
    absurd (pending_no_request rest w r (waits_rest line p rest q w b t).1 request)
line_alike line (Waits p w) Nothing s t = absurd (process_not_idle line p s.0 s.1 t.0)
line_alike line (Waits p w) Stat s t = absurd (process_not_stat line p s.0 s.1 t)
line_alike line (Waits p w) (Asks q r) (rest, b, pending, short) t =
    absurd (pending_no_request rest w r pending (asks_rest line p rest q r b t).1)
line_alike line (Waits p w) (Waits q v) (rest, b, pending, short) t =
    let parts = waits_rest line p rest q v b t in
    rw (parts.0, pending_alike rest w v pending parts.1) refl

-- a line that isn't idle, isn't `stat`, and has neither a request nor one for a pending open, has no form
pub no_form : (line : List ℕ) (idle : Bool) → idle ≡ false → (IsLine line Nothing → idle ≡ true) → (line ≡ codes "stat" → ⊥)
    → ((p : List ℕ) (r : Request (List ℕ)) → ¬ IsLine line (Asks p r)) × ((p : List ℕ) (w : PendingForm (List ℕ)) → ¬ IsLine line (Waits p w))
    → (form : Form (List ℕ)) → ¬ IsLine line form
no_form line idle busy tells stat none (Asks p r) s = none.0 p r s
no_form line idle busy tells stat none (Waits p w) s = none.1 p w s
no_form line idle busy tells stat none Stat s = stat s
no_form line idle busy tells stat none Nothing s = let yes : idle ≡ true = tells s in cc

-- the texts of a line's request are texts
name_has_text : (bytes : List ℕ) (n : NameForm (List ℕ)) (rest : List ℕ) → BeginsWithName bytes n rest → IsText (text_of n)
name_has_text bytes (Absolute t) rest b = b.0
name_has_text bytes (Relative h t) rest (root, more, handle, e, b) = b.0

place_has_text : (bytes : List ℕ) (p : PlaceForm (List ℕ)) (rest : List ℕ) → BeginsWithPlace bytes p rest → HasPlaceText p
place_has_text bytes (Named n) rest b = name_has_text bytes n rest b
place_has_text bytes Unnamed rest b = tt

ends_have_text : (bytes : List ℕ) (a : ℕ) (t w : List ℕ) → IsFlagsTextAndVariable bytes a t w → IsText t
ends_have_text bytes a t w (rest, more, f, b, s) = b.0

request_has_texts : (bytes : List ℕ) (r : Request (List ℕ)) → IsOperands bytes r → HasTexts r
request_has_texts bytes (CreateDirectory p a w) (rest, b, f) = place_has_text bytes p rest b
request_has_texts bytes (CreateShadowed h p a w) (rest, more, c, b, f) = place_has_text rest p more b
request_has_texts bytes (CreateLink p a t w) (rest, b, f) = (place_has_text bytes p rest b, ends_have_text rest a t w f)
request_has_texts bytes (CreateObject k p a t w) (more, c, (rest, b, f)) = (place_has_text more p rest b, ends_have_text rest a t w f)
request_has_texts bytes (OpenDirectory n a w) (rest, b, f) = name_has_text bytes n rest b
request_has_texts bytes (OpenLink n a w) (rest, b, f) = name_has_text bytes n rest b
request_has_texts bytes (OpenObject k n a w) (more, c, (rest, b, f)) = name_has_text more n rest b
request_has_texts bytes (Close h) s = tt
request_has_texts bytes (QueryLink h) s = tt
request_has_texts bytes (QueryName h) s = tt
request_has_texts bytes (QueryDirectory h n m) s = tt
request_has_texts bytes (Duplicate h q i w) s = tt
request_has_texts bytes (MakeTemporary h) s = tt
request_has_texts bytes (MakePermanent h) s = tt
request_has_texts bytes (SetDeviceMap h) s = tt
request_has_texts bytes (NewProcess i q) s = tt
request_has_texts bytes ExitProcess s = tt

line_has_texts : (line p : List ℕ) (r : Request (List ℕ)) → IsLine line (Asks p r) → HasTexts r
line_has_texts line p r (rest, b, inl (e, is), short) = subst HasTexts (sym is) tt
line_has_texts line p r (rest, b, inr (operands, f, s), short) = request_has_texts operands r s

pending_has_texts : (bytes : List ℕ) (w : PendingForm (List ℕ)) → IsPending bytes w → PendingHasTexts w
pending_has_texts bytes (Begin k n a w) (operands, e, (more, c, (rest, b, f))) = name_has_text more n rest b
pending_has_texts bytes (End w) s = tt
pending_has_texts bytes (Drop w) s = tt

pub form_has_texts : (line : List ℕ) (form : Form (List ℕ)) → IsLine line form → FormHasTexts form
form_has_texts line Nothing l = tt
form_has_texts line Stat l = tt
form_has_texts line (Asks p r) l = line_has_texts line p r l
form_has_texts line (Waits p w) (rest, b, s, short) = pending_has_texts rest w s

-- so are those of the form that was found of a line
pub found_has_texts : (line : List ℕ) (found : Option (Form (Bor (List ℕ)))) → IfSome found (λ form. IsLine line (form_seen form))
    → IfSome found (λ form. FormHasTexts (form_seen form))
found_has_texts line None is = tt
found_has_texts line (Some form) is = form_has_texts line (form_seen form) is

-- and the line has that form, or none
pub has_form : (line : List ℕ) (found : Option (Form (Bor (List ℕ)))) → IfSome found (λ form. IsLine line (form_seen form))
    → IfNone found ((form : Form (List ℕ)) → ¬ IsLine line form) → HasForm line (found_seen found)
has_form line None is none = none
has_form line (Some form) is none = is
