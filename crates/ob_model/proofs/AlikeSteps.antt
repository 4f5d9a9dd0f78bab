-- Alike commands of one process in alike states: the steps of each command.
use Rattle.std.proofs.Common.{◌≡◌, ℕ, Bool, false, true, not, [], ◌∷◌, Option, None, Some, refl, ap}
use Rattle.ob_base.specs.Handle.{key_of}
use Rattle.ob_base.specs.declared.status.Status.TheVariants.{Success, ProcessGone}
use Rattle.ob_model.specs.declared.command.Place.{Place}
use Rattle.ob_model.specs.declared.command.Place.TheVariants as place
use Rattle.ob_model.specs.declared.command.Command.{Command}
use Rattle.ob_model.specs.declared.command.Command.TheVariants.{CreateDirectory, CreateShadowed, CreateLink, CreateObject, OpenDirectory, OpenLink, OpenObject, Close, QueryLink, QueryName, QueryDirectory, Duplicate, MakeTemporary, MakePermanent, SetDeviceMap, NewProcess, ExitProcess}
use Rattle.ob_model.specs.declared.reply.Answer.{Answer}
use Rattle.ob_model.specs.declared.reply.Event.TheVariants.{Start}
use Rattle.ob_model.specs.declared.state.Wanted.TheVariants as wanted
use Rattle.ob_model.specs.State.{State, is_live}
use Rattle.ob_model.specs.Procedures.{Procedures}
use Rattle.ob_model.specs.Settle.{settle}
use Rattle.ob_model.specs.Refusals.{answers}
use Rattle.ob_model.specs.Opens.{type_wanted}
use Rattle.ob_model.specs.Creates.{MakesDirectory, MakesLink, MakesObject}
use Rattle.ob_model.specs.Processes.{ended}
use Rattle.ob_model.specs.Step.{Step}
use Rattle.ob_model.specs.Sound.{IsSound}
use Rattle.ob_model.specs.Alike.{AreAlikeAnswers, AreAlike, LeadOn, HoldOn, IsClosedBy, receiver, AreAlikeRoots, no_root, roots, AreAlikePlaces, no_name, names, AreAlikeCommands, create_directories, create_shadowed, create_links, create_objects, open_directories, open_links, open_objects, closes, queries_of_links, queries_of_names, queries_of_directories, duplicates, temporaries, permanents, device_maps, new_processes, exits}
use Rattle.ob_model.proofs.Alike.{ends_alike, settle_alike, unless_alike, is_live_alike, creates_at_alike, opens_name_alike, closes_alike, queries_link_alike, queries_name_alike, queries_directory_alike, turns_alike, sets_map_alike, duplicates_alike, makes_child_alike}
use Rattle.ob_model.proofs.AlikeLeads.{lead_on_with_nothing}
use Rattle.ob_model.proofs.AlikeHeld.{hold_on_with_nothing, ended_held}
use Rattle.ob_model.proofs.AlikeExits.{ended_alike}

-- what a command that closes nothing closes
abbrev none : ℕ → ℕ → Type 0
none q value = ⊥

module _ {K T F I : Type 0} where
  steps_alike : (g : Procedures K T F I) (s t : State K T F I) (p : ℕ) (one other : Command K) (a b : Answer) (u v : State K T F I)
      → IsSound s → IsSound t → AreAlike s t → AreAlikeCommands s t p one other → Step g s (Start p one) a u → Step g t (Start p other) b v
      → AreAlikeAnswers a b × AreAlike u v × LeadOn s t p (receiver p one) a b u v × HoldOn s (IsClosedBy p one) (receiver p one) a u
  steps_alike g s t p one other a b u v s_sound t_sound alike (create_directories {place = place} {other = elsewhere} {attrs = attrs} same) h k =
      creates_at_alike g s t alike a b u v p p none place elsewhere attrs None None MakesDirectory same no_root h k
  steps_alike g s t p one other a b u v s_sound t_sound alike (create_shadowed {place = place} {other = elsewhere} {attrs = attrs} {shadow = shadow} {same = second} same lead) h k =
      creates_at_alike g s t alike a b u v p p none place elsewhere attrs (Some shadow) (Some second) MakesDirectory same (roots lead) h k
  steps_alike g s t p one other a b u v s_sound t_sound alike (create_links {place = place} {other = elsewhere} {attrs = attrs} {target = target} same) h k =
      creates_at_alike g s t alike a b u v p p none place elsewhere attrs None None (λ shadow. MakesLink target) same no_root h k
  steps_alike g s t p one other a b u v s_sound t_sound alike (create_objects {place = place} {other = elsewhere} {attrs = attrs} {kind = kind} {args = args} same) h k =
      creates_at_alike g s t alike a b u v p p none place elsewhere attrs None None (λ shadow. MakesObject kind args) same no_root h k
  steps_alike g s t p one other a b u v s_sound t_sound alike (open_directories {root = root} {other = second} {name = name} {attrs = attrs} same) h k =
      opens_name_alike g s t alike a b u v p p none root second name attrs wanted.Directory same h k
  steps_alike g s t p one other a b u v s_sound t_sound alike (open_links {root = root} {other = second} {name = name} {attrs = attrs} same) h k =
      opens_name_alike g s t alike a b u v p p none root second name attrs wanted.Link same h k
  steps_alike g s t p one other a b u v s_sound t_sound alike (open_objects {root = root} {other = second} {name = name} {attrs = attrs} {want = want} same) h k =
      opens_name_alike g s t alike a b u v p p none root second name attrs (type_wanted want) same h k
  steps_alike g s t p one other a b u v s_sound t_sound alike (closes {value = value} {other = second} lead) h k = closes_alike g s t alike a b u v p p (λ q value'. (q ≡ p) × (key_of value' ≡ key_of value)) p value second (λ q named owner key. (owner, key)) lead h k
  steps_alike g s t p one other a b u v s_sound t_sound alike (queries_of_links {value = value} {other = second} lead) h k = queries_link_alike g s t alike a b u v p p none p value second lead h k
  steps_alike g s t p one other a b u v s_sound t_sound alike (queries_of_names {value = value} {other = second} lead) h k = queries_name_alike g s t alike a b u v p p none p value second lead h k
  steps_alike g s t p one other a b u v s_sound t_sound alike (queries_of_directories {value = value} {other = second} {context = context} {room = room} {single = single} {restart = restart} lead) h k =
      queries_directory_alike g s t alike a b u v p p none p value second context room single restart lead h k
  steps_alike g s t p one other a b u v s_sound t_sound alike (duplicates {value = value} {other = second} {to = to} {inherit = inherit} lead) h k =
      duplicates_alike g s t alike a b u v p to none p value second inherit lead h k
  steps_alike g s t p one other a b u v s_sound t_sound alike (temporaries {value = value} {other = second} lead) h k = turns_alike g s t alike a b u v p p none p value second false lead h k
  steps_alike g s t p one other a b u v s_sound t_sound alike (permanents {value = value} {other = second} lead) h k = turns_alike g s t alike a b u v p p none p value second true lead h k
  steps_alike g s t p one other a b u v s_sound t_sound alike (device_maps {value = value} {other = second} lead) h k = sets_map_alike g s t alike a b u v p p none p value second lead h k
  steps_alike g s t p one other a b u v s_sound t_sound alike (new_processes {inherit = inherit}) h k = makes_child_alike g s t alike a b u v p p none s_sound t_sound inherit h k
  steps_alike g s t p one other a b u v s_sound t_sound alike exits h k =
      unless_alike g s t alike a b u v p p (λ q value. q ≡ p) ((not (is_live s p), ProcessGone) ∷ []) ((not (is_live t p), ProcessGone) ∷ [])
      ((a ≡ answers Success) × (u ≡ settle g (ended g s p))) ((b ≡ answers Success) × (v ≡ settle g (ended g t p)))
      (ap (λ (live : Bool). (not live, ProcessGone) ∷ []) (is_live_alike g s t alike a b u v p p (λ q value. q ≡ p) p))
      (λ h k.
      ends_alike g s t alike a b u v p p (λ q value. q ≡ p) (answers Success) (answers Success) (settle g (ended g s p)) (settle g (ended g t p)) h.0 h.1 k.0 k.1 refl
      (settle_alike g (ended g s p) (ended g t p) (ended_alike g p s t alike s_sound t_sound).0)
      (lead_on_with_nothing s t p p (answers Success) (answers Success) (settle g (ended g s p)) (settle g (ended g t p)) refl refl
      (λ q value second held lead. (ended_alike g p s t alike s_sound t_sound).1 q value second lead))
      (hold_on_with_nothing s (λ q value. q ≡ p) p (answers Success) (settle g (ended g s p)) refl refl
      (λ q value held left. ended_held g s p q value left held))) h k

  -- the answers and the states are alike, and what led alike goes on to
  pub steps_stay : (g : Procedures K T F I) (s t : State K T F I) (p : ℕ) (one other : Command K) (a b : Answer) (u v : State K T F I)
      → IsSound s → IsSound t → AreAlike s t → AreAlikeCommands s t p one other → Step g s (Start p one) a u → Step g t (Start p other) b v
      → AreAlikeAnswers a b × AreAlike u v
  steps_stay g s t p one other a b u v s_sound t_sound alike same h k =
      let all = steps_alike g s t p one other a b u v s_sound t_sound alike same h k in (all.0, all.1)

  pub steps_lead : (g : Procedures K T F I) (s t : State K T F I) (p : ℕ) (one other : Command K) (a b : Answer) (u v : State K T F I)
      → IsSound s → IsSound t → AreAlike s t → AreAlikeCommands s t p one other → Step g s (Start p one) a u → Step g t (Start p other) b v
      → LeadOn s t p (receiver p one) a b u v
  steps_lead g s t p one other a b u v s_sound t_sound alike same h k = (steps_alike g s t p one other a b u v s_sound t_sound alike same h k).2

  -- a command is alike to itself, so that what isn't closed is held on after one step alone
  roots_itself : (s : State K T F I) (p : ℕ) (root : Option ℕ) → AreAlikeRoots s s p root root
  roots_itself s p None = no_root
  roots_itself s p (Some value) = roots refl

  place_itself : (s : State K T F I) (p : ℕ) (where_to : Place) → AreAlikePlaces s s p where_to where_to
  place_itself s p (place.At root name) = names (roots_itself s p root)
  place_itself s p place.Unnamed = no_name

  command_itself : (s : State K T F I) (p : ℕ) (c : Command K) → AreAlikeCommands s s p c c
  command_itself s p (CreateDirectory where_to attrs) = create_directories (place_itself s p where_to)
  command_itself s p (CreateShadowed where_to attrs shadow) = create_shadowed (place_itself s p where_to) refl
  command_itself s p (CreateLink where_to attrs target) = create_links (place_itself s p where_to)
  command_itself s p (CreateObject where_to attrs kind args) = create_objects (place_itself s p where_to)
  command_itself s p (OpenDirectory root name attrs) = open_directories (roots_itself s p root)
  command_itself s p (OpenLink root name attrs) = open_links (roots_itself s p root)
  command_itself s p (OpenObject root name attrs want) = open_objects (roots_itself s p root)
  command_itself s p (Close handle) = closes refl
  command_itself s p (QueryLink handle) = queries_of_links refl
  command_itself s p (QueryName handle) = queries_of_names refl
  command_itself s p (QueryDirectory handle context room single restart) = queries_of_directories refl
  command_itself s p (Duplicate handle to inherit) = duplicates refl
  command_itself s p (MakeTemporary handle) = temporaries refl
  command_itself s p (MakePermanent handle) = permanents refl
  command_itself s p (SetDeviceMap handle) = device_maps refl
  command_itself s p (NewProcess inherit) = new_processes
  command_itself s p ExitProcess = exits

  pub step_holds : (g : Procedures K T F I) (s : State K T F I) (p : ℕ) (command : Command K) (a : Answer) (u : State K T F I)
      → IsSound s → Step g s (Start p command) a u → HoldOn s (IsClosedBy p command) (receiver p command) a u
  step_holds g s p command a u sound h = (steps_alike g s s p command command a a u u sound sound refl (command_itself s p command) h h).3
