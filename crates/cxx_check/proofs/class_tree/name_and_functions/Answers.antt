use Rattle.std.proofs.Common.{ap, ◌∙◌, sym, map, length}
use Rattle.std.proofs.lemmas.List.{length-map}
use Rattle.cxx_ast.specs.declared.name.Bound.TheVariants.{Class as ClassBound}
use Rattle.cxx_ast.specs.Resolve.{bind}
use Rattle.cxx_ast.specs.View.{function_of}
use Rattle.cxx_check.specs.HeadingOf.{method_heading}
use Rattle.cxx_check.specs.TreeParts.{methods_tree}
use Rattle.cxx_check.proofs.class_tree.name_and_functions.Goals as goal

pub methods_tree-requires : goal.methods_tree-requires
methods_tree-requires c =
    c.requires ∙ length-map c.args.class.now.funcs.items function_of ∙ ap length (sym c.as_slice.ensures.value)

pub returns-clause-name : goal.returns-clause-name
returns-clause-name c = c.in_ok-name.ensures ∙ ap (λ n. bind c.args.class.now.name (ClassBound n)) c.in_ok-numbered.ensures

pub returns-clause-functions : goal.returns-clause-functions
returns-clause-functions c head e =
    let env = c.args.env.now in
    let n = c.args.number in
    c.in_ok-funcs.ensures head (e ∙ ap (λ fs. map (method_heading head n) (map function_of fs)) (sym c.as_slice.ensures.value))
    ∙ ap (λ fs. methods_tree head env n 0 (map function_of fs)) c.as_slice.ensures.value
