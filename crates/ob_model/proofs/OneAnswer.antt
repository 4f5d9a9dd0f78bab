-- Two answers to one event are the same, but for the value of a handle that both give.
use Rattle.std.proofs.Common.{◌≡◌, ◌∙◌, ℕ, List, Option, None, Some, MatchOption, refl, ap, sym}
use Rattle.std.specs.Option.{option_map}
use Rattle.ob_model.specs.declared.command.Place.{Place}
use Rattle.ob_model.specs.declared.command.Place.TheVariants as place
use Rattle.ob_model.specs.declared.command.Command.{Command}
use Rattle.ob_model.specs.declared.command.Command.TheVariants.{CreateDirectory, CreateShadowed, CreateLink, CreateObject, OpenDirectory, OpenLink, OpenObject, Close, QueryLink, QueryName, QueryDirectory, Duplicate, MakeTemporary, MakePermanent, SetDeviceMap, NewProcess, ExitProcess}
use Rattle.ob_model.specs.declared.reply.Answer.{Answer}
use Rattle.ob_model.specs.declared.reply.Answer.TheVariants.{Done, Ticket}
use Rattle.ob_model.specs.declared.reply.Reply.{Reply}
use Rattle.ob_model.specs.declared.reply.Event.{Event}
use Rattle.ob_model.specs.declared.reply.Event.TheVariants.{Start, Resume, Abandon}
use Rattle.ob_model.specs.declared.reply.Given.{Given}
use Rattle.ob_model.specs.declared.reply.Given.TheVariants.{Nothing, Handle, Text, Process, Page}
use Rattle.ob_model.specs.declared.state.PendingOpen.{PendingOpen}
use Rattle.ob_model.specs.State.{State}
use Rattle.ob_model.specs.Procedures.{Procedures}
use Rattle.ob_model.specs.PendingOpens.{pending_of}
use Rattle.ob_model.specs.Parses.{Abandons}
use Rattle.ob_model.specs.Grants.{IsFreeValue}
use Rattle.ob_model.specs.Sound.{IsSound}
use Rattle.ob_model.specs.Step.{Step}
use Rattle.ob_model.specs.Alike.{unvalued_given, AreAlikeAnswers, handle_in, process_in, handle_given, process_given, receiver, AreAlikeRoots, no_root, roots, AreAlikePlaces, no_name, names, AreAlikeCommands, create_directories, create_shadowed, create_links, create_objects, open_directories, open_links, open_objects, closes, queries_of_links, queries_of_names, queries_of_directories, duplicates, temporaries, permanents, device_maps, new_processes, exits}
use Rattle.ob_model.proofs.Alike.{EndAlike}
use Rattle.ob_model.proofs.AlikeSteps.{steps_stay}
use Rattle.ob_model.proofs.AlikeResumes.{resume_stays}
use Rattle.ob_model.specs.Choice.{given_under, receiver_of, IsOtherChoice, same, under}
use Rattle.ob_model.proofs.ChosenSteps.{step_chooses}

-- what is given, where it is the same but for the values of handles: the same, or handles, or processes
data OtherGiven (x y : Given) : Type 0 where
  same_given : y ≡ x → OtherGiven x y
  two_handles : (value other : ℕ) → x ≡ Handle value → y ≡ Handle other → OtherGiven x y
  two_processes : (number : ℕ) (values : List ℕ) → x ≡ Process number values → OtherGiven x y

other_given : (x y : Given) → unvalued_given x ≡ unvalued_given y → OtherGiven x y
other_given (Handle value) (Handle other) e = two_handles value other refl refl
other_given (Process number values) y e = two_processes number values refl
other_given Nothing Nothing e = same_given refl
other_given Nothing (Handle other) e = cc
other_given Nothing (Text text) e = cc
other_given Nothing (Process number values) e = cc
other_given Nothing (Page entries context) e = cc
other_given (Handle value) Nothing e = cc
other_given (Handle value) (Text text) e = cc
other_given (Handle value) (Process number values) e = cc
other_given (Handle value) (Page entries context) e = cc
other_given (Text text) Nothing e = cc
other_given (Text text) (Handle other) e = cc
other_given (Text text) (Text word) e = same_given (sym e)
other_given (Text text) (Process number values) e = cc
other_given (Text text) (Page entries context) e = cc
other_given (Page entries context) Nothing e = cc
other_given (Page entries context) (Handle other) e = cc
other_given (Page entries context) (Text text) e = cc
other_given (Page entries context) (Process number values) e = cc
other_given (Page entries context) (Page rows after) e = same_given (sym e)

one_reply : (x y : Reply) → Done x ≡ Done y → x ≡ y
one_reply x y e = cc

module _ {K T F I : Type 0} (s : State K T F I) (e : Event K) where
  compared : (a b : Answer) → AreAlikeAnswers a b → ((child : ℕ) → process_given a ≡ Some child → b ≡ a)
      → ((value : ℕ) → handle_given b ≡ Some value → (p : ℕ) × (receiver_of s e ≡ Some p) × IsFreeValue s p value) → IsOtherChoice s e a b
  compared (Ticket n) (Ticket m) alike sole free = same (sym alike)
  compared (Ticket n) (Done reply) alike sole free = cc
  compared (Done reply) (Ticket n) alike sole free = cc
  compared (Done one) (Done two) alike sole free = go (other_given one.given two.given given_alike)
    where
      alike_too : ◌≡◌ {A = Reply} (record { status = one.status; given = unvalued_given one.given }) (record { status = two.status; given = unvalued_given two.given })
      alike_too = one_reply (record { status = one.status; given = unvalued_given one.given }) (record { status = two.status; given = unvalued_given two.given }) alike

      status_alike : one.status ≡ two.status
      status_alike = ap (λ (r : Reply). r.status) alike_too

      given_alike : unvalued_given one.given ≡ unvalued_given two.given
      given_alike = ap (λ (r : Reply). r.given) alike_too

      go : OtherGiven one.given two.given → IsOtherChoice s e (Done one) (Done two)
      go (same_given is) = same (λ i. Done (record { status = sym status_alike i; given = is i }))
      go (two_handles value other is is_too) =
          let f = free other (ap handle_in is_too) in
          under other f.0 (ap handle_in is_too) (λ i. Done (record { status = sym status_alike i; given = (is_too ∙ sym (ap (given_under other) is)) i })) f.1 f.2
      go (two_processes number values is) = same (sole number (ap process_in is))

-- a command is alike to itself
module _ {K T F I : Type 0} (s : State K T F I) (p : ℕ) where
  roots_itself : (root : Option ℕ) → AreAlikeRoots s s p root root
  roots_itself None = no_root
  roots_itself (Some value) = roots refl

  place_itself : (where_to : Place) → AreAlikePlaces s s p where_to where_to
  place_itself (place.At root name) = names (roots_itself root)
  place_itself place.Unnamed = no_name

  command_itself : (c : Command K) → AreAlikeCommands s s p c c
  command_itself (CreateDirectory where_to attrs) = create_directories (place_itself where_to)
  command_itself (CreateShadowed where_to attrs shadow) = create_shadowed (place_itself where_to) refl
  command_itself (CreateLink where_to attrs target) = create_links (place_itself where_to)
  command_itself (CreateObject where_to attrs kind args) = create_objects (place_itself where_to)
  command_itself (OpenDirectory root name attrs) = open_directories (roots_itself root)
  command_itself (OpenLink root name attrs) = open_links (roots_itself root)
  command_itself (OpenObject root name attrs want) = open_objects (roots_itself root)
  command_itself (Close handle) = closes refl
  command_itself (QueryLink handle) = queries_of_links refl
  command_itself (QueryName handle) = queries_of_names refl
  command_itself (QueryDirectory handle context room single restart) = queries_of_directories refl
  command_itself (Duplicate handle to inherit) = duplicates refl
  command_itself (MakeTemporary handle) = temporaries refl
  command_itself (MakePermanent handle) = permanents refl
  command_itself (SetDeviceMap handle) = device_maps refl
  command_itself (NewProcess inherit) = new_processes
  command_itself ExitProcess = exits

module _ {K T F I : Type 0} (g : Procedures K T F I) (s u v : State K T F I) (a b : Answer) where
  -- answers that are alike, where the same process gets what they give
  chosen_apart : (e : Event K) (p : ℕ) → receiver_of s e ≡ Some p → AreAlikeAnswers a b → Step g s e a u → Step g s e b v → IsOtherChoice s e a b
  chosen_apart e p gets alike h k =
      let one = step_chooses g s e p a u gets h in
      let two = step_chooses g s e p b v gets k in
      compared s e a b alike (λ child given. one.told child given b v k) (λ value given. (p, gets, two.free value given))

  one_answer : (e : Event K) → IsSound s → Step g s e a u → Step g s e b v → IsOtherChoice s e a b
  one_answer (Start p c) sound h k =
      chosen_apart (Start p c) (receiver p c) refl (steps_stay g s s p c c a b u v sound sound refl (command_itself s p c) h k).0 h k
  one_answer (Resume ticket parse) sound h k = go (pending_of s ticket) refl (resume_stays g s s refl a b u v ticket parse h k)
    where
      go : (found : Option (PendingOpen K)) → pending_of s ticket ≡ found → MatchOption found ⊥ (λ x. EndAlike g s s refl a b u v x.process x.process (λ q value. ⊥)) → IsOtherChoice s (Resume ticket parse) a b
      go None is both = absurd both
      go (Some x) is both = chosen_apart (Resume ticket parse) x.process (ap (option_map (λ y. y.process)) is) both.0 h k
  one_answer (Abandon ticket parse) sound h k = go (pending_of s ticket) h.2 k.2
    where
      go : (found : Option (PendingOpen K)) → MatchOption found ⊥ (λ x. Abandons g s x h.0 a u) → MatchOption found ⊥ (λ x. Abandons g s x k.0 b v) → IsOtherChoice s (Abandon ticket parse) a b
      go None one two = absurd one
      go (Some x) one two = same (two.0 ∙ sym one.0)

module _ {K T F I : Type 0} where
  -- nothing but the value of a handle that is given is left to choose
  pub step_has_one_answer : (g : Procedures K T F I) (s u v : State K T F I) (e : Event K) (a b : Answer)
      → IsSound s → Step g s e a u → Step g s e b v → IsOtherChoice s e a b
  step_has_one_answer g s u v e a b sound h k = one_answer g s u v a b e sound h k
