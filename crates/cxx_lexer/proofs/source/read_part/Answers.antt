use Rattle.std.proofs.Common.{Ok, length, take, drop, ◌-◌, subst}
use Rattle.cxx_lexer.specs.declared.front.Front.TheVariants.{Token as TokenFront}
use Rattle.cxx_lexer.specs.FrontOf.{Fronts}
use Rattle.cxx_lexer.proofs.Slices.{rest_slice}
use Rattle.cxx_lexer.proofs.Cuts.{token_step}
use Rattle.cxx_lexer.proofs.source.read_part.Goals as goal

pub returns-in_ok-push-in-Token-clause-steps : goal.returns-in_ok-push-in-Token-clause-steps
returns-in_ok-push-in-Token-clause-steps c =
    let source = c.args.source.now in
    let text = take (length source - c.args.place) (drop c.args.place source) in
    let front : Fronts text c.args.place (Ok (TokenFront c.in-Token.lexeme c.in-Token.length)) = subst (λ f. Fronts text c.args.place (Ok f)) c.in-Token.is c.in_ok-length.ensures in
    token_step source text c.args.place c.in-Token.length c.args.tokens.now.items c.push.new.self.items c.in-Token.lexeme c.in_ok-kind-in-Token.kind
    (rest_slice source c.args.place) front c.in_ok-kind-in-Token.ensures c.in_ok-push-in-Token.ensures.items
