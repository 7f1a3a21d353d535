use Rattle.std.proofs.Common.{ℕ, Option, Some, ap, sym, ◌∙◌}
use Rattle.std.specs.Prelude.{option_map}
use Rattle.frame_walk.specs.declared.located.Located.{Located}
use Rattle.frame_walk.specs.Located.{located_seen}
use Rattle.raise_core.specs.declared.asked.Target.{Target}
use Rattle.raise_core.specs.Asked.{as_target}
use Rattle.raise_core.proofs.Lookups.{target_same}
use Rattle.raise_core.proofs.asked.target_by.Goals as goal

pub returns-in-None : goal.returns-in-None
returns-in-None c = λ fdes is.
    sym (ap (λ (o : Option Located). option_map (as_target c.args.frame.now) (option_map located_seen o)) c.in-None.is) ∙ target_same fdes c.args.frame.now (option_map located_seen c.args.entry.now) is

pub returns-in-Some : goal.returns-in-Some
returns-in-Some c = λ fdes is.
    let made : ℕ → Option Target = λ cfa. Some (record { cfa = cfa; lsda = c.in-Some.located.fde.lsda }) in
    ap made c.cfa_of.ensures ∙ sym (ap (λ (o : Option Located). option_map (as_target c.args.frame.now) (option_map located_seen o)) c.in-Some.is) ∙ target_same fdes c.args.frame.now (option_map located_seen c.args.entry.now) is
