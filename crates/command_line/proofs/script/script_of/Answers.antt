use Rattle.std.proofs.Common.{◌∙◌, ◌==◌, ℕ, List, Option, map, sym, ap, subst}
use Rattle.std.specs.List.{slice_split}
use Rattle.eh_outer.specs.declared.module.Reply.{Reply}
use Rattle.command_line.specs.Gives.{Gives}
use Rattle.command_line.specs.Script.{runs_within, script_of}
use Rattle.command_line.proofs.Runs.{few_within}
use Rattle.command_line.proofs.script.script_of.Goals as goal

pub returns : goal.returns
unfolding script_of
returns c =
    let items_are = c.in_ok-items.ensures in
    let same = ap (runs_within 1000000) (ap (λ xs. map (λ x. x.now) xs) c.as_slice.ensures.value ∙ items_are) ∙ sym (few_within 1000000 (slice_split (λ (b : ℕ). b == 44) c.args.text.now)) in
    subst (λ (o : Option (List (Reply × ℕ))). Gives (λ runs. runs.items) c.runs_in.result o) same c.runs_in.ensures
