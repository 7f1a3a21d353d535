-- The rules by their numbers.
use Rattle.std.specs.Prelude.{ℕ}
use Rattle.cxx_ast.specs.Rule.{unknown_name, redeclared, type_mismatch, arity, incomplete_class, handler_order, const_write, specification_mismatch, no_main, frame_too_large, function_too_long, class_too_large, not_lvalue, not_defined, loop_jump, return_form, no_default, main_use, initialiser_list, handler_form, new_keyword, noexcept_in_03}
use Rattle.cxx_rules.specs.declared.rule.Rule.{Rule}
use Rattle.cxx_rules.specs.declared.rule.Rule.TheVariants as rule

-- the number under which a source is refused that breaks a rule
abbrev pub number_of : Rule → ℕ
number_of rule.UnknownName = unknown_name
number_of rule.Redeclared = redeclared
number_of rule.TypeMismatch = type_mismatch
number_of rule.Arity = arity
number_of rule.IncompleteClass = incomplete_class
number_of rule.HandlerOrder = handler_order
number_of rule.ConstWrite = const_write
number_of rule.SpecificationMismatch = specification_mismatch
number_of rule.NoMain = no_main
number_of rule.FrameTooLarge = frame_too_large
number_of rule.FunctionTooLong = function_too_long
number_of rule.ClassTooLarge = class_too_large
number_of rule.NotLvalue = not_lvalue
number_of rule.NotDefined = not_defined
number_of rule.LoopJump = loop_jump
number_of rule.ReturnForm = return_form
number_of rule.NoDefault = no_default
number_of rule.MainUse = main_use
number_of rule.InitialiserList = initialiser_list
number_of rule.HandlerForm = handler_form
number_of rule.NewKeyword = new_keyword
number_of rule.NoexceptIn03 = noexcept_in_03
