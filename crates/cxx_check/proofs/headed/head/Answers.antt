use Rattle.std.proofs.Common.{ap, ◌∙◌, refl, flat_map}
use Rattle.cxx_ast.specs.Declare.{with_name}
use Rattle.cxx_ast.specs.Environment.{Environment, class_thing}
use Rattle.cxx_ast.specs.View.{class_of}
use Rattle.cxx_check.specs.ClassParts.{bare_class, field_in, method_head_in, entry_in}
use Rattle.cxx_rules.specs.Known.{front_of}
use Rattle.cxx_rules.specs.Summary.{seen}
use Rattle.cxx_check.proofs.ClassLaws.{without_added, head_is, entry_is, heads_are}
use Rattle.cxx_check.proofs.headed.head.Goals as goal

pub returns-clause-env : goal.returns-clause-env
returns-clause-env c =
    let env = c.args.env.now in
    let cl = class_of c.args.class.now in
    let named = c.in_ok-add_name.ensures ∙ ap (λ t. with_name env t (class_thing c.class_count-number.result)) c.as_bytes-text.ensures ∙ ap (λ n. with_name env cl.name.text (class_thing n)) c.class_count-number.ensures in
    c.remove_class.ensures
    ∙ ap {A = Environment} {B = Environment} (λ e. record e { classes = front_of e.classes }) c.in_ok-enter_names.ensures
    ∙ without_added c.add_name.new.self (bare_class c.base_number-base.result cl)
    ∙ named

pub returns-clause-entry : goal.returns-clause-entry
returns-clause-entry c =
    let env = c.args.env.now in
    let cl = class_of c.args.class.now in
    let n = c.class_count-number.result in
    let base = c.base_number-base.result in
    let known = c.add_name.new.self in
    let parts = c.in_ok-parts.parts in
    let named = c.in_ok-add_name.ensures ∙ ap (λ t. with_name env t (class_thing n)) c.as_bytes-text.ensures ∙ ap (λ n. with_name env cl.name.text (class_thing n)) c.class_count-number.ensures in
    let outside =
    c.remove_class.ensures ∙ ap {A = Environment} {B = Environment} (λ e. record e { classes = front_of e.classes }) c.in_ok-enter_names.ensures ∙ without_added known (bare_class base cl) in
    let inside = c.in_ok-enter_names.ensures ∙ head_is env cl known n base named c.class_count-number.ensures c.base_number-base.ensures in
    c.in_ok-heads.ensures.entry
    ∙ ap (λ e. entry_in e n base parts.fields.items parts.signatures.items c.as_bytes-text.result.now) outside
    ∙ entry_is env cl known c.enter_names.new.env n base _ _ _ named inside c.class_count-number.ensures c.base_number-base.ensures
    c.in_ok-parts.ensures.fields c.in_ok-parts.ensures.signatures c.as_bytes-text.ensures

pub returns-clause-found : goal.returns-clause-found
returns-clause-found c =
    let env = c.args.env.now in
    let cl = class_of c.args.class.now in
    let n = c.class_count-number.result in
    let base = c.base_number-base.result in
    let known = c.add_name.new.self in
    let inside = c.enter_names.new.env in
    let named = c.in_ok-add_name.ensures ∙ ap (λ t. with_name env t (class_thing n)) c.as_bytes-text.ensures ∙ ap (λ n. with_name env cl.name.text (class_thing n)) c.class_count-number.ensures in
    let entered = c.in_ok-enter_names.ensures ∙ head_is env cl known n base named c.class_count-number.ensures c.base_number-base.ensures in
    c.in_ok-heads.ensures.found
    ∙ heads_are env cl known inside n c.base_found-above.result
    (seen inside (flat_map (field_in inside n) cl.members))
    (seen inside (flat_map (method_head_in inside n) cl.functions))
    c.in_ok-parts.parts.found
    named entered c.class_count-number.ensures c.base_found-above.ensures refl refl c.in_ok-parts.ensures.found
