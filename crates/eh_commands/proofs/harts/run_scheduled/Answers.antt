use Rattle.std.proofs.Common.{rules, ◌≡◌, ◌≤◌, ◌∙◌, length, sym, subst}
use Rattle.std.proofs.lemmas.List.{length-map}
use Rattle.hart_sched.specs.Schedule.{IsSchedule}
use Rattle.eh_commands.specs.HartFiles.{kept_bytes}
use Rattle.eh_commands.proofs.HartsCauses.{as_many_harts}
use Rattle.eh_commands.proofs.harts.run_scheduled.Goals as goal

pub run_ready-requires-clause-few : goal.run_ready-requires-clause-few
run_ready-requires-clause-few g c =
    let many : length c.in-Ok.harts.items ≡ length c.args.inputs.items = as_many_harts c.args.image.now (kept_bytes c.args.inputs.items) c.in-Ok.harts.items c.in-Ok.ensures ∙ length-map c.args.inputs.items _ in
    subst (λ n. n ≤ 8) (sym many) c.requires.few

pub run_ready-requires-clause-fits : goal.run_ready-requires-clause-fits
run_ready-requires-clause-fits g c =
    let many : length c.in-Ok.harts.items ≡ length c.args.inputs.items = as_many_harts c.args.image.now (kept_bytes c.args.inputs.items) c.in-Ok.harts.items c.in-Ok.ensures ∙ length-map c.args.inputs.items _ in
    let count : c.len-count.result ≡ length c.args.inputs.items = search rules in
    subst (λ n. IsSchedule n c.in-Ok-read_schedule.slices.items) (count ∙ sym many) c.in-Ok-read_schedule.ensures.kept
