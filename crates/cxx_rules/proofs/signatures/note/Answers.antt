use Rattle.std.proofs.Common.{◌∙◌, ◌++◌, ◌∷◌, [], subst, sym}
use Rattle.cxx_rules.specs.SignaturesOf.{IsNoted}
use Rattle.cxx_rules.proofs.SignatureLaws.{noted_with}
use Rattle.cxx_rules.proofs.signatures.note.Goals as goal

pub returns-clause-ok : goal.returns-clause-ok
returns-clause-ok c ss s noted is entry =
    noted_with ss s c.in_ok-from_slice.field-0 c.args.entry c.args.noted.now.entries c.insert.new.self.entries noted
    (c.in_ok-from_slice.ensures.items ∙ sym is) (subst (λ t. IsNoted t (ss ++ s ∷ []) c.args.entry) (sym is) entry) c.in_ok-insert.ensures.entries
