use Rattle.std.proofs.Common.{ap, ◌∙◌, sym}
use Rattle.cxx_ast.specs.ExpressionRules.{thrown_kind_found}
use Rattle.cxx_rules.specs.KindOf.{kind_of}
use Rattle.cxx_rules.specs.Summary.{seen}
use Rattle.cxx_rules.proofs.thrown.thrown_kind_found.Goals as goal

pub returns-in-Class : goal.returns-in-Class
returns-in-Class c env j e =
    c.thrown_object.ensures env j c.in-Class.field-0 e ∙ ap (λ k. seen env (thrown_kind_found c.args.built j (kind_of k))) (sym c.in-Class.is)
