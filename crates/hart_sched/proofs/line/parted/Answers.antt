use Rattle.std.proofs.Common.{◌∙◌, sym, ap, ℕ, ◌+◌, List, Some, take}
use Rattle.std.proofs.lemmas.List.{take_rest}
use Rattle.hart_sched.proofs.Parted.{parted_some, parted_none}
use Rattle.hart_sched.proofs.line.parted.Goals as goal

pub returns-in-Some-clause-parts : goal.returns-in-Some-clause-parts
returns-in-Some-clause-parts c =
    let text = c.args.text.now in
    let at = c.in-Some.at in
    ap (λ (rest : List ℕ). Some (take at text, rest)) (take_rest text (at + 1)) ∙ sym (parted_some c.args.byte text at c.in-Some.ensures)

pub returns-in-None-clause-parts : goal.returns-in-None-clause-parts
returns-in-None-clause-parts c = sym (parted_none c.args.byte c.args.text.now c.in-None.ensures)
