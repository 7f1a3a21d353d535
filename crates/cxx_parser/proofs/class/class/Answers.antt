use Rattle.std.proofs.Common.{◌∙◌, ◌++◌, ◌∷◌, [], List, Bor, arith}
use Rattle.std.proofs.lemmas.Result.{err_from_is_err_and}
use Rattle.cxx_ast.specs.declared.mark.Mark.TheVariants as sign
use Rattle.cxx_ast.specs.declared.token.Token.{Token}
use Rattle.cxx_ast.specs.declared.token.TokenKind.TheVariants as kind
use Rattle.cxx_ast.specs.Plain.{class_declaration}
use Rattle.cxx_ast.specs.View.{class_of}
use Rattle.cxx_parser.specs.Contexts.{of_class_name}
use Rattle.cxx_parser.specs.States.{want_declaration}
use Rattle.cxx_parser.proofs.Refusals.{passes, expects_refused}
use Rattle.cxx_parser.proofs.class.class.Goals as goal

pub returns-in_err-rest-clause-gives : goal.returns-in_err-rest-clause-gives
returns-in_err-rest-clause-gives c total ds h =
    let p = err_from_is_err_and c.from_residual-in_err-rest.result c.from_residual-in_err-rest.ensures.1 in
    passes _ c.from_residual-in_err-rest.result c.in_err-rest.field-0.0 p.0 _ _ p.1 p.2
    (c.in_ok-name.ensures.gives total (of_class_name ds) ∙ c.in_ok-base.ensures.gives total c.in_ok-name.name ds
    ∙ c.in_ok-class.ensures.gives total ds (omega (arith, c.in_ok-name.ensures.shorter, c.in_ok-base.ensures.shorter, h)))
    (expects_refused (λ (r : Bor (List Token)). r.now) total c.args.end c.in_ok-class.rest.now (kind.Mark sign.Semicolon) (want_declaration (ds ++ (class_declaration (class_of c.in_ok-class.class) ∷ []))) c.in_err-rest.field-0.0 c.in_err-rest.ensures)
