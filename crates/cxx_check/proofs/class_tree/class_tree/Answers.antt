use Rattle.std.proofs.Common.{ap, ◌∙◌, sym, map, length}
use Rattle.std.proofs.lemmas.List.{length-map}
use Rattle.cxx_ast.specs.Declare.{head_environment, next_class}
use Rattle.cxx_ast.specs.View.{class_of, function_of}
use Rattle.cxx_check.specs.HeadingOf.{heading_of, method_heading}
use Rattle.cxx_check.proofs.TreeLaws.{class_tree_by}
use Rattle.cxx_check.proofs.class_tree.class_tree.Goals as goal

pub name_and_functions-requires : goal.name_and_functions-requires
name_and_functions-requires c =
    let cl = class_of c.args.class.now in
    let g = method_heading (head_environment c.args.env.now cl) (next_class c.args.env.now) in
    ap length c.as_slice.ensures.value
    ∙ sym (length-map c.in_ok-tree.tree.heads.items heading_of) ∙ ap length c.in_ok-tree.ensures.heads ∙ length-map cl.functions g

pub returns-clause-class : goal.returns-clause-class
returns-clause-class c =
    let env = c.args.env.now in
    let cl = class_of c.args.class.now in
    let inside = c.in_ok-inside.inside in
    let tree = c.in_ok-tree.tree in
    let n = c.class_count-number.result in
    let head = head_environment env cl in
    class_tree_by env cl c.known_class.new.env n inside.name tree.base tree.members.items (map function_of inside.funcs.items)
    c.in_ok-tree.ensures.env c.class_count-number.ensures
    c.in_ok-inside.ensures.name c.in_ok-tree.ensures.base c.in_ok-tree.ensures.members
    (c.in_ok-inside.ensures.functions head
    (ap (map heading_of) c.as_slice.ensures.value ∙ c.in_ok-tree.ensures.heads ∙ ap (λ k. map (method_heading head k) cl.functions) (sym c.class_count-number.ensures)))
