-- The names of the one scope.
use Rattle.std.specs.Prelude.{ℕ, List, Vec, map}
use Rattle.std.specs.declared.alloc.Global.{Global}
use Rattle.cxx_ast.specs.Environment as environment
use Rattle.cxx_rules.specs.declared.names.Thing.{Thing}
use Rattle.cxx_rules.specs.declared.names.Thing.TheVariants.{Global as GlobalThing, Class, Function}

-- what a name stands for
abbrev pub thing_of : Thing → environment.Thing
thing_of (GlobalThing n) = environment.global_thing n
thing_of (Class k) = environment.class_thing k
thing_of Function = environment.function_thing

-- an entry of a map
abbrev pub entry_of : Vec ℕ Global × Thing → environment.Entry
entry_of e = record { text = e.0.items; thing = thing_of e.1 }

-- the names of data members
abbrev pub field_texts : List environment.Field → List (List ℕ)
field_texts = map (λ f. f.name.text)

-- the names of functions
abbrev pub function_texts : List environment.Signature → List (List ℕ)
function_texts = map (λ s. s.name.text)
