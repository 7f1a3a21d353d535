use Rattle.rv64_emit.proofs.Firsts.{first_of, end_of}
use Rattle.rv64_emit.proofs.places.Targets.first.Goals as goal

pub returns-in-Some : goal.returns-in-Some
returns-in-Some c u h = first_of c.args.self.now u c.args.number c.in-Some.function.now h c.in-Some.ensures.lookup.3.0 c.in-Some.ensures.lookup.1

pub returns-in-None : goal.returns-in-None
returns-in-None c u h = end_of c.args.self.now u c.args.number h c.in-None.ensures.lookup.3
