use Rattle.std.proofs.Common.{ap, ◌∙◌, map}
use Rattle.cxx_ast.specs.Declare.{with_class}
use Rattle.cxx_ast.specs.Environment.{Environment}
use Rattle.cxx_ast.specs.View.{class_of}
use Rattle.cxx_check.specs.ClassParts.{bare_class}
use Rattle.cxx_check.specs.HeadingOf.{method_heading}
use Rattle.cxx_check.specs.TreeParts.{fields_tree}
use Rattle.cxx_rules.specs.Known.{front_of}
use Rattle.cxx_check.proofs.ClassLaws.{without_added}
use Rattle.cxx_check.proofs.class_tree.bound_inside.Goals as goal

pub returns-clause-env : goal.returns-clause-env
returns-clause-env c =
    c.remove_class.ensures
    ∙ ap {A = Environment} {B = Environment} (λ e. record e { classes = front_of e.classes }) c.in_ok-enter_names.ensures
    ∙ without_added c.args.env.now (bare_class c.base_number-base.result (class_of c.args.class.now))

pub returns-clause-members : goal.returns-clause-members
returns-clause-members c =
    let cl = class_of c.args.class.now in
    c.in_ok-inside.ensures.members
    ∙ ap (λ e. fields_tree e c.args.number 0 cl.members) (c.in_ok-enter_names.ensures ∙ ap (λ b. with_class c.args.env.now (bare_class b cl)) c.base_number-base.ensures)

pub returns-clause-heads : goal.returns-clause-heads
returns-clause-heads c =
    let cl = class_of c.args.class.now in
    c.in_ok-inside.ensures.heads
    ∙ ap (λ e. map (method_heading e c.args.number) cl.functions) (c.in_ok-enter_names.ensures ∙ ap (λ b. with_class c.args.env.now (bare_class b cl)) c.base_number-base.ensures)
