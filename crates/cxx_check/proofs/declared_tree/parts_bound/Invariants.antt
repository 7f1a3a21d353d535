use Rattle.std.proofs.Common.{◌≡◌, ◌∷◌, ◌++◌, drop, map}
use Rattle.cxx_ast.specs.Checked.{resolve_declarations, classes_of, globals_of, functions_of, bad_exception}
use Rattle.cxx_ast.specs.View.{class_of, function_of, declaration_of}
use Rattle.cxx_check.proofs.declared_tree.parts_bound.Given as goal

abbrev pub invariant-loop-d : goal.invariant-loop-d
invariant-loop-d l = record {
  classes :
      map class_of l.parts.classes.items ++ classes_of (resolve_declarations l.env (map declaration_of (drop l.d-index l.decls)))
      ≡ bad_exception ∷ classes_of (resolve_declarations l.initial.env (map declaration_of l.decls));
  globals :
      l.parts.globals.items ++ globals_of (resolve_declarations l.env (map declaration_of (drop l.d-index l.decls)))
      ≡ globals_of (resolve_declarations l.initial.env (map declaration_of l.decls));
  functions :
      map function_of l.parts.functions.items ++ functions_of (resolve_declarations l.env (map declaration_of (drop l.d-index l.decls)))
      ≡ functions_of (resolve_declarations l.initial.env (map declaration_of l.decls));
}
