use Rattle.std.proofs.Common.{ap, ◌∙◌, sym, option_map}
use Rattle.cxx_ast.specs.Reference.{all_found}
use Rattle.cxx_ast.specs.Construct.{constructor_parameters}
use Rattle.cxx_rules.specs.Summary.{seen}
use Rattle.cxx_rules.proofs.ConstructLaws.{broken_then, by_number_none}
use Rattle.cxx_rules.proofs.GivenLaws.{counted_by}
use Rattle.cxx_rules.proofs.construct.by_number_found.Goals as goal

pub returns-in-None : goal.returns-in-None
returns-in-None c js e =
    let none = ap (constructor_parameters c.args.env.now c.args.class) (sym (counted_by c.args.env.now c.args.given.now js e))
    ∙ sym c.constructor_parameters.ensures ∙ ap (option_map (λ p. p.now)) c.in-None.is in
    c.and.ensures ∙ broken_then c.args.env.now _ _ _ _ (all_found js) c.broken.ensures (c.all_found.ensures c.args.env.now js e)
    ∙ ap (seen c.args.env.now) (by_number_none c.args.env.now c.args.class js c.args.called none)
