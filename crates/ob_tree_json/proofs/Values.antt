-- Values: lists of them, and that none has a float.
use Rattle.std.proofs.Common.{◌≡◌, ℕ, ◌≤◌, Bool, false, ◌||◌, List, [], ◌∷◌, length, take, map, Option, None, Some, Result, IfOk, option_map, refl, ap, ◌∙◌}
use Rattle.std.proofs.lemmas.List.{take_all}
use Rattle.std.proofs.lemmas.Result.{IfOk-weaker}
use Rattle.serde_json.specs.Data.{Data, item}
use Rattle.serde_json.specs.View.{view, items_view, items_of as items_listed}
use Rattle.serde_json.specs.Written.{has_float, items_have_float}
use Rattle.serde_json.specs.declared.value.Value.{Value}
use Rattle.ob_model.specs.declared.state.Held.{Held}
use Rattle.ob_tree.specs.declared.survey.Seen.{Seen}
use Rattle.ob_tree.specs.declared.survey.SeenProcess.{SeenProcess}
use Rattle.ob_tree.specs.Surveyed.{Surveyed}
use Rattle.ob_tree_json.specs.Json.{directory_value, handle_value, items_of, line_of, name_value, number_value, object_value, process_value, survey_value, text_value, value_or_null}

-- a list of values is the list of what they are values of
items_listed-map : {A : Type 0} (value : A → Data) (xs : List A) → items_listed (map value xs) ≡ items_of value xs
items_listed-map value [] = refl
items_listed-map value (x ∷ xs) = ap (item (value x)) (items_listed-map value xs)

-- so it is once a loop has come to the end of the list
pub all_listed : {A : Type 0} (value : A → Data) (xs : List A) (vs : List Value) (i : ℕ) → length xs ≤ i → map view vs ≡ map value (take i xs) → items_view vs ≡ items_of value xs
all_listed value xs vs i l e = ap items_listed (e ∙ ap (map value) (take_all i xs l)) ∙ items_listed-map value xs

-- the line of a value that is known to be d, which has no float
pub line_known : {T E : Type 0} (r : Result T E) (items : T → List ℕ) (v d : Data) → v ≡ d → has_float d ≡ false → IfOk r (λ line. has_float v ≡ false → items line ≡ line_of v)
    → IfOk r (λ line. items line ≡ line_of d)
line_known r items v d e w h =
    IfOk-weaker r (λ line. has_float v ≡ false → items line ≡ line_of v) (λ line. items line ≡ line_of d) (λ line k. k (ap has_float e ∙ w) ∙ ap line_of e) h

-- a list of values has no float if none of them has one
items_whole : {A : Type 0} (value : A → Data) → ((x : A) → has_float (value x) ≡ false) → (xs : List A) → items_have_float (items_of value xs) ≡ false
items_whole value h [] = refl
items_whole value h (x ∷ xs) = ap (λ z. z || items_have_float (items_of value xs)) (h x) ∙ items_whole value h xs

-- a number or a text that may lack has none
number_whole : (n : Option ℕ) → has_float (value_or_null number_value n) ≡ false
number_whole None = refl
number_whole (Some x) = refl

text_whole : (text : Option (List ℕ)) → has_float (value_or_null text_value text) ≡ false
text_whole None = refl
text_whole (Some bytes) = refl

-- one in front of values that have none
before : (a b : Bool) → a ≡ false → b ≡ false → (a || b) ≡ false
before a b p q = ap (λ z. z || b) p ∙ q

object_whole : (x : Seen) → has_float (object_value x) ≡ false
object_whole x =
    before _ _ (number_whole (option_map (λ r. r.directory) x.row))
    (before _ _ (text_whole (option_map (λ r. r.name) x.row))
    (before _ _ (number_whole x.shadow) (before _ _ (text_whole x.target) refl)))

handle_whole : (h : Held) → has_float (handle_value h) ≡ false
handle_whole h = refl

process_whole : (p : SeenProcess) → has_float (process_value p) ≡ false
process_whole p = before _ _ (items_whole handle_value handle_whole p.handles) (before _ _ (number_whole p.map) refl)

pub survey_whole : (seen : Surveyed) → has_float (survey_value seen) ≡ false
survey_whole seen = before _ _ (items_whole object_value object_whole seen.objects) (before _ _ (items_whole process_value process_whole seen.processes) refl)
