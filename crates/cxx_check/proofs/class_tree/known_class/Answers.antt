use Rattle.std.proofs.Common.{refl, ap, ◌∙◌, map}
use Rattle.cxx_ast.specs.Declare.{with_class, with_class_name, head_environment}
use Rattle.cxx_ast.specs.View.{class_of}
use Rattle.cxx_check.specs.ClassParts.{base_number_in}
use Rattle.cxx_check.specs.HeadingOf.{method_heading}
use Rattle.cxx_check.specs.TreeParts.{base_tree, fields_tree}
use Rattle.cxx_check.proofs.ClassLaws.{head_is}
use Rattle.cxx_check.proofs.TreeLaws.{base_is, fields_are}
use Rattle.cxx_check.proofs.class_tree.known_class.Goals as goal

pub returns-clause-env : goal.returns-clause-env
returns-clause-env c =
    let cl = class_of c.args.class.now in
    c.in_ok-add_class.ensures ∙ ap (λ e. with_class e c.in_ok-entry.field-0.entry) (c.in_ok-tree.ensures.env ∙ c.in_ok-entry.ensures.env)
    ∙ ap (with_class (with_class_name c.args.env.now cl)) c.in_ok-entry.ensures.entry

pub returns-clause-base : goal.returns-clause-base
returns-clause-base c =
    let env = c.args.env.now in
    let cl = class_of c.args.class.now in
    c.in_ok-tree.ensures.base ∙ ap (λ e. base_tree e cl.base) c.in_ok-entry.ensures.env ∙ base_is env cl cl.base

pub returns-clause-members : goal.returns-clause-members
returns-clause-members c =
    let env = c.args.env.now in
    let cl = class_of c.args.class.now in
    let n = c.class_count-number.result in
    let known = c.head.new.env in
    c.in_ok-tree.ensures.members
    ∙ ap (λ e. fields_tree e n 0 cl.members) (head_is env cl known n (base_number_in known n cl.base) c.in_ok-entry.ensures.env c.class_count-number.ensures refl)
    ∙ ap (λ k. fields_tree (head_environment env cl) k 0 cl.members) c.class_count-number.ensures
    ∙ fields_are env cl 0 cl.members

pub returns-clause-heads : goal.returns-clause-heads
returns-clause-heads c =
    let env = c.args.env.now in
    let cl = class_of c.args.class.now in
    let n = c.class_count-number.result in
    let known = c.head.new.env in
    c.in_ok-tree.ensures.heads
    ∙ ap (λ e. map (method_heading e n) cl.functions) (head_is env cl known n (base_number_in known n cl.base) c.in_ok-entry.ensures.env c.class_count-number.ensures refl)
    ∙ ap (λ k. map (method_heading (head_environment env cl) k) cl.functions) c.class_count-number.ensures
