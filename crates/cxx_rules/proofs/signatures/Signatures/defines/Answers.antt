use Rattle.std.proofs.Common.{sym, subst}
use Rattle.cxx_rules.specs.SignaturesOf.{Says}
use Rattle.cxx_rules.proofs.SignatureLaws.{none_defined}
use Rattle.cxx_rules.proofs.signatures.Signatures.defines.Goals as goal

pub returns-in-None : goal.returns-in-None
returns-in-None c =
    let text = c.args.text.now in let ss = c.args.self.now in
    sym (none_defined ss text (subst (Says text ss) c.in-None.is c.noted.ensures))
