use Rattle.std.proofs.Common.{ap, ◌∙◌, map}
use Rattle.cxx_ast.specs.View.{function_of}
use Rattle.cxx_check.specs.HeadingOf.{method_heading}
use Rattle.cxx_check.specs.TreeParts.{fields_tree}
use Rattle.cxx_check.proofs.class_tree.members_and_heads.Goals as goal

pub returns-clause-members : goal.returns-clause-members
returns-clause-members c = c.in_ok-members.ensures ∙ ap (fields_tree c.args.env.now c.args.number 0) c.as_slice.ensures.value

pub returns-clause-heads : goal.returns-clause-heads
returns-clause-heads c =
    c.in_ok-heads.ensures ∙ ap (λ fs. map (method_heading c.args.env.now c.args.number) (map function_of fs)) c.as_slice-2.ensures.value
