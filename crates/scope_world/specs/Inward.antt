-- What an evaluation is given from outside.
use Rattle.std.specs.Prelude.{ℕ, List, [], ◌∷◌, ◌++◌, map, reverse}
use Rattle.cxx_ast.specs.declared.statement.Handler.{Handler}
use Rattle.scope_world.specs.declared.context.Context.{Context as CodeContext}
use Rattle.scope_world.specs.declared.context.Numbers.{Numbers, None as NoNumbers, More'}
use Rattle.scope_world.specs.declared.context.Guard.{Guard as CodeGuard}
use Rattle.scope_world.specs.declared.context.Guard.TheVariants.{Try, CatchAll, Specification, Barrier}
use Rattle.scope_world.specs.declared.context.Guards.{Guards, None as NoGuards, More' as MoreGuards'}
use Rattle.scope_world.specs.declared.frame.Frame.{Frame as CodeFrame}
use Rattle.scope_world.specs.declared.frame.Locals.{Locals, None as NoLocals, More' as MoreLocals'}
use Rattle.scope_world.specs.declared.frame.Variable.{Variable as CodeVariable}
use Rattle.scope_world.specs.declared.frame.Argument.{Argument as CodeArgument}
use Rattle.scope_world.specs.declared.frame.Argument.TheVariants.{Value, Place}
use Rattle.scope_world.specs.Objects.{reference_of}
use Rattle.meaning_forms.specs.World.{Reference}
use Rattle.meaning_forms.specs.Class.{object_type}
use Rattle.meaning_forms.specs.Context.{Context, Clause, catch_all, Guard, try_block, specification, barrier}
use Rattle.meaning_forms.specs.Handler.{clause_of}
use Rattle.meaning_forms.specs.Frame.{Frame, Variable}
use Rattle.meaning_forms.specs.Running.{Argument, by_value, by_reference}

-- the numbers of exceptions, newest first
abbrev pub numbers_of : Numbers → List ℕ
numbers_of NoNumbers = []
numbers_of (More' n p more) = n ∷ numbers_of more

-- the clause of a handler
abbrev pub clause_in : Handler → Clause
clause_in h = clause_of h.ty

-- a guard
abbrev pub guard_of : CodeGuard → Guard
guard_of (Try handlers) = try_block (map clause_in handlers.now)
guard_of CatchAll = try_block (catch_all ∷ [])
guard_of (Specification types) = specification (map object_type types.now)
guard_of Barrier = barrier

-- the guards, innermost first
abbrev pub guards_of : Guards → List Guard
guards_of NoGuards = []
guards_of (MoreGuards' g p more) = guard_of g ∷ guards_of more

-- the context
abbrev pub context_of : CodeContext → Context
context_of c = record { handled = numbers_of c.handled.now; travelling = numbers_of c.travelling.now; guards = guards_of c.guards.now; ending = c.ending }

-- a variable
abbrev pub variable_of : CodeVariable → Variable
variable_of v = record { number = v.number; reference = reference_of v.reference }

-- local variables, newest first
abbrev pub locals_of : Locals → List Variable
locals_of NoLocals = []
locals_of (MoreLocals' v p more) = variable_of v.now ∷ locals_of more

-- the variables of a call, newest first
abbrev pub frame_of : CodeFrame → Frame
frame_of f = record { this = reference_of f.this.now; variables = locals_of f.locals.now ++ map variable_of (reverse f.parameters.now) }

-- the variables of a call at its beginning: its parameters
abbrev pub first_frame : Reference → List CodeVariable → Frame
first_frame this parameters = record { this = this; variables = map variable_of (reverse parameters) }

-- an argument
abbrev pub argument_of : CodeArgument → Argument
argument_of (Value v) = by_value v
argument_of (Place r) = by_reference (reference_of r)
