-- What the evaluator is asked to do, as what the rules of the language ask.
use Rattle.std.specs.Prelude.{ℕ, option_map}
use Rattle.cxx_ast.specs.Plain.{Function}
use Rattle.scope_meaning.specs.declared.extent.Extent.{Extent}
use Rattle.scope_meaning.specs.declared.extent.Extent.TheVariants as extents
use Rattle.scope_meaning.specs.declared.parts.Plan.{Plan}
use Rattle.scope_meaning.specs.declared.parts.Plan.TheVariants as plans
use Rattle.scope_world.specs.Objects.{reference_of}
use Rattle.scope_world.specs.Program.{function_or_none}
use Rattle.meaning_forms.specs.Class.{ObjectType, parts_of}
use Rattle.meaning_forms.specs.Context.{Context}
use Rattle.meaning_forms.specs.Outcome.{Action, Flow}
use Rattle.meaning_forms.specs.Running.{Running}
use Rattle.meaning_forms.specs.Frame.{Frame}
use Rattle.meaning_forms.specs.Call.{body_of, default_part, copy_part, initial_part, initialiser_for, construction, destroy_parts}

-- what is done under a specification: a function's body, or a constructor's or a destructor's work
abbrev pub extent_of : Running → Extent → Function → Frame → Context → Action Flow
extent_of r extents.Body f frame = body_of r f frame
extent_of r (extents.Construction k) f frame = construction r k f frame
extent_of r (extents.Destruction k) f frame = λ c. destroy_parts r frame.this 0 (parts_of r.program k) c (body_of r f frame c)

-- how a part is built
abbrev pub building_of : Running → Plan → Frame → Context → ℕ → ObjectType → Action (Unit {0})
building_of r plans.Default frame c = default_part r frame.this c
building_of r (plans.Copy source) frame c = copy_part r frame.this (reference_of source) c
building_of r (plans.Declared f) frame c =
    λ i. initial_part r frame c i (initialiser_for r.program (function_or_none (option_map (λ x. x.now) f)).initialisers i)
