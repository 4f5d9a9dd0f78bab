-- Components: facts about what a text after a separator begins with.
use Rattle.std.specs.Prelude.{ℕ, List}
use Rattle.ob_names.specs.declared.component.Component.{Component}
use Rattle.ob_names.specs.declared.component.Component.TheVariants.{Empty, One}

-- there is no component
abbrev pub IsEmpty : Component → Type 0
IsEmpty Empty = Unit {0}
IsEmpty (One name rest) = ⊥

-- the fact holds of the component and of what follows it, where there is a component
abbrev pub IfOne : Component → (List ℕ → List ℕ → Type 0) → Type 0
IfOne Empty P = Unit {0}
IfOne (One name rest) P = P name.now rest.now
