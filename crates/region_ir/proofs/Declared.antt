-- The variables of handlers.
use Rattle.std.proofs.Common.{◌≡◌, ◌++◌, Option, Some, None, refl}
use Rattle.cxx_ast.specs.declared.types.Ty.{Ty}
use Rattle.cxx_ast.specs.Plain.{Handlers, handler_then}
use Rattle.cxx_ast.specs.declared.name.Name.{Name}
use Rattle.cxx_ast.specs.Plain.{Statements}
use Rattle.region_forms.specs.Numbering.{all_declared_in, declared_in_handlers}
use Rattle.region_ir.specs.Variables.{declared_by}

-- those of the first, then those of the others
pub one_caught : (t : Option Ty) (n : Option Name) (ss : Statements) (place : _) (hs : Handlers) →
    declared_in_handlers (handler_then t n ss place hs) ≡ (declared_by t ++ all_declared_in ss) ++ declared_in_handlers hs
one_caught None n ss place hs = refl
one_caught (Some t) n ss place hs = refl
