use Rattle.std.proofs.Common.{◌∙◌, sym, subst, ◌∷◌, []}
use Rattle.std.proofs.lemmas.Result.{on_ok_weaker}
use Rattle.cxx_rules.specs.Positions.{AreAmong}
use Rattle.cxx_rules.proofs.MemberNames.{with_one, with_last, added_kept}
use Rattle.cxx_rules.proofs.texts.Texts.add_once.Goals as goal

pub returns-then-contains-clause-kept : goal.returns-then-contains-clause-kept
returns-then-contains-clause-kept c q h = h

pub returns-then-contains-clause-added : goal.returns-then-contains-clause-added
returns-then-contains-clause-added c = (with_one c.args.text.now c.args.self.now (sym c.contains.ensures ∙ c.if-contains.true)).1

pub returns-clause-kept : goal.returns-clause-kept
returns-clause-kept c = added_kept c.add.result c.args.text.now c.args.self.now c.add.new.self c.add.ensures.ok c.add.ensures.err

pub returns-clause-added : goal.returns-clause-added
returns-clause-added c =
    let text = c.args.text.now in
    on_ok_weaker c.add.result (λ e. subst (AreAmong (text ∷ [])) (sym e) (with_last text c.args.self.now).1) c.add.ensures.ok
