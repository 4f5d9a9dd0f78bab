-- The values of a journal: lists of them, and that none has a float.
use Rattle.std.proofs.Common.{◌≡◌, ℕ, ◌≤◌, Bool, false, ◌||◌, List, [], ◌∷◌, length, take, map, Option, None, Some, Result, IfOk, refl, ap, ◌∙◌}
use Rattle.std.proofs.lemmas.List.{take_all}
use Rattle.std.proofs.lemmas.Result.{IfOk-weaker}
use Rattle.serde_json.specs.Data.{Data, item}
use Rattle.serde_json.specs.View.{view, items_view, items_of as items_listed}
use Rattle.serde_json.specs.Written.{has_float, items_have_float}
use Rattle.serde_json.specs.declared.value.Value.{Value}
use Rattle.ob_base.specs.Status.{code_of}
use Rattle.ob_model.specs.declared.command.Command.{Command}
use Rattle.ob_model.specs.declared.command.Command.TheVariants.{CreateDirectory, CreateShadowed, CreateLink, CreateObject, OpenDirectory, OpenLink, OpenObject, Close, QueryLink, QueryName, QueryDirectory, Duplicate, MakeTemporary, MakePermanent, SetDeviceMap, NewProcess, ExitProcess}
use Rattle.ob_model.specs.declared.command.Place.{Place}
use Rattle.ob_model.specs.declared.reply.Answer.{Answer}
use Rattle.ob_model.specs.declared.reply.Answer.TheVariants.{Done, Ticket}
use Rattle.ob_model.specs.declared.reply.Event.{Event}
use Rattle.ob_model.specs.declared.reply.Event.TheVariants.{Start, Resume, Abandon}
use Rattle.ob_model.specs.declared.reply.Given.{Given}
use Rattle.ob_model.specs.declared.reply.Given.TheVariants.{Nothing, Handle, Text, Process, Page}
use Rattle.ob_model.specs.Run.{Entry}
use Rattle.ob_entries.specs.Lines.{number_value, text_value, value_or_null, items_of, root_of, name_of, kind_value, command_step, step_value, listed_value, reply_value, answer_value, entry_value, line_of}

-- a list of values is the list of what they are values of
items_listed-map : {A : Type 0} (value : A → Data) (xs : List A) → items_listed (map value xs) ≡ items_of value xs
items_listed-map value [] = refl
items_listed-map value (x ∷ xs) = ap (item (value x)) (items_listed-map value xs)

-- so it is once a loop has come to the end of the list
pub all_listed : {A : Type 0} (value : A → Data) (xs : List A) (vs : List Value) (i : ℕ) → length xs ≤ i → map view vs ≡ map value (take i xs) → items_view vs ≡ items_of value xs
all_listed value xs vs i l e = ap items_listed (e ∙ ap (map value) (take_all i xs l)) ∙ items_listed-map value xs

-- the line of a value that is known to be d, which has no float
pub line_known : {T E : Type 0} (r : Result T E) (items : T → List ℕ) (v d : Data) → v ≡ d → has_float d ≡ false → IfOk r (λ line. has_float v ≡ false → items line ≡ line_of v)
    → IfOk r (λ line. items line ≡ line_of d)
line_known r items v d e w h =
    IfOk-weaker r (λ line. has_float v ≡ false → items line ≡ line_of v) (λ line. items line ≡ line_of d) (λ line k. k (ap has_float e ∙ w) ∙ ap line_of e) h

-- neither of two values has a float
neither : (a b : Bool) → a ≡ false → b ≡ false → (a || (b || false)) ≡ false
neither a b p q = ap (λ z. z || (b || false)) p ∙ ap (λ z. z || false) q

-- nor has a value that may lack
root_whole : (root : Option ℕ) → has_float (value_or_null number_value root) ≡ false
root_whole None = refl
root_whole (Some handle) = refl

text_whole : (text : Option (List ℕ)) → has_float (value_or_null text_value text) ≡ false
text_whole None = refl
text_whole (Some bytes) = refl

place_whole : (place : Place) → (has_float (value_or_null text_value (name_of place)) || (has_float (value_or_null number_value (root_of place)) || false)) ≡ false
place_whole place = neither (has_float (value_or_null text_value (name_of place))) (has_float (value_or_null number_value (root_of place))) (text_whole (name_of place)) (root_whole (root_of place))

-- nor has a list of values of which none has one
items_whole : {A : Type 0} (value : A → Data) → ((x : A) → has_float (value x) ≡ false) → (xs : List A) → items_have_float (items_of value xs) ≡ false
items_whole value h [] = refl
items_whole value h (x ∷ xs) = ap (λ z. z || items_have_float (items_of value xs)) (h x) ∙ items_whole value h xs

module _ {K : Type 0} (type_name : K → List ℕ) where
  want_whole : (want : Option K) → has_float (value_or_null (kind_value type_name) want) ≡ false
  want_whole None = refl
  want_whole (Some kind) = refl

  command_whole : (p : ℕ) (command : Command K) → has_float (command_step type_name p command) ≡ false
  command_whole p (CreateDirectory place flags) = place_whole place
  command_whole p (CreateShadowed place flags shadow) = place_whole place
  command_whole p (CreateLink place flags target) = place_whole place
  command_whole p (CreateObject place flags kind args) = place_whole place
  command_whole p (OpenDirectory root name flags) = ap (λ z. z || false) (root_whole root)
  command_whole p (OpenLink root name flags) = ap (λ z. z || false) (root_whole root)
  command_whole p (OpenObject root name flags want) =
      neither (has_float (value_or_null number_value root)) (has_float (value_or_null (kind_value type_name) want)) (root_whole root) (want_whole want)
  command_whole p (Close handle) = refl
  command_whole p (QueryLink handle) = refl
  command_whole p (QueryName handle) = refl
  command_whole p (QueryDirectory handle context room single restart) = refl
  command_whole p (Duplicate handle to inherit) = refl
  command_whole p (MakeTemporary handle) = refl
  command_whole p (MakePermanent handle) = refl
  command_whole p (SetDeviceMap handle) = refl
  command_whole p (NewProcess inherit) = refl
  command_whole p ExitProcess = refl

  step_whole : (event : Event K) → has_float (step_value type_name event) ≡ false
  step_whole (Start p command) = command_whole p command
  step_whole (Resume ticket parse) = refl
  step_whole (Abandon ticket parse) = refl

reply_whole : (status : ℕ) (given : Given) → has_float (reply_value status given) ≡ false
reply_whole status Nothing = refl
reply_whole status (Handle handle) = refl
reply_whole status (Text text) = refl
reply_whole status (Process process handles) = ap (λ z. z || false) (items_whole number_value (λ n. refl) handles)
reply_whole status (Page entries context) = ap (λ z. z || false) (items_whole listed_value (λ e. refl) entries)

answer_whole : (answer : Answer) → has_float (answer_value answer) ≡ false
answer_whole (Done reply) = reply_whole (code_of reply.status) reply.given
answer_whole (Ticket ticket) = refl

-- nor has an entry's
pub entry_whole : {K : Type 0} (type_name : K → List ℕ) (e : Entry K) → has_float (entry_value type_name e) ≡ false
entry_whole type_name e =
    neither (has_float (answer_value e.answer)) (has_float (step_value type_name e.event)) (answer_whole e.answer) (step_whole type_name e.event)
