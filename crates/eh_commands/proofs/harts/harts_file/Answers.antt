use Rattle.std.proofs.Common.{◌≡◌, ◌≤◌, ◌∙◌, [], length, string_bytes, sym, subst}
use Rattle.std.proofs.lemmas.List.{length-map}
use Rattle.eh_commands.specs.HartFiles.{harts_asked, kept_bytes}
use Rattle.eh_commands.specs.Question.{asked_by}
use Rattle.eh_commands.proofs.HartReading.{as_many}
use Rattle.eh_commands.proofs.HartsCauses.{harts_execute, harts_unread}
use Rattle.eh_commands.proofs.harts.harts_file.Goals as goal

pub returns-in-Err-clause-cause : goal.returns-in-Err-clause-cause
returns-in-Err-clause-cause g c =
    harts_unread (harts_asked (asked_by c.args.question [])) (g.St.Store.view c.args.store.now) (g.St.Store.view c.read_harts.new.store) (g.Out.Sink.view c.args.out.now) c.in-Err.ended.status c.in-Err.ensures.read

pub run_scheduled-requires-clause-some : goal.run_scheduled-requires-clause-some
run_scheduled-requires-clause-some g c =
    let a = harts_asked (asked_by c.args.question []) in
    let read = c.in-Ok.ensures.read in
    let many : length c.in-Ok.files.inputs.items ≡ length c.args.question.inputs.now =
    sym (length-map c.in-Ok.files.inputs.items _) ∙ as_many a.inputs (g.St.Store.view c.args.store.now) (kept_bytes c.in-Ok.files.inputs.items) read.1.1 ∙ length-map c.args.question.inputs.now string_bytes in
    subst (λ n. 1 ≤ n) (sym many) c.requires.some

pub run_scheduled-requires-clause-few : goal.run_scheduled-requires-clause-few
run_scheduled-requires-clause-few g c =
    let a = harts_asked (asked_by c.args.question []) in
    let read = c.in-Ok.ensures.read in
    let many : length c.in-Ok.files.inputs.items ≡ length c.args.question.inputs.now =
    sym (length-map c.in-Ok.files.inputs.items _) ∙ as_many a.inputs (g.St.Store.view c.args.store.now) (kept_bytes c.in-Ok.files.inputs.items) read.1.1 ∙ length-map c.args.question.inputs.now string_bytes in
    subst (λ n. n ≤ 8) (sym many) c.requires.few

pub run_scheduled-requires-clause-short : goal.run_scheduled-requires-clause-short
run_scheduled-requires-clause-short g c = rw c.as_slice-in-Ok.ensures.value c.in-Ok.ensures.read.1.0.0

pub returns-in-Ok-clause-cause : goal.returns-in-Ok-clause-cause
returns-in-Ok-clause-cause g c =
    let a = harts_asked (asked_by c.args.question []) in
    let read = c.in-Ok.ensures.read in
    let runs = rw (c.as_slice.ensures.value, c.as_slice-in-Ok.ensures.value) at c.run_scheduled.ensures in
    harts_execute a c.in-Ok.files.image.items c.in-Ok.files.schedule.items (kept_bytes c.in-Ok.files.inputs.items) (g.St.Store.view c.args.store.now) (g.St.Store.view c.read_harts.new.store) (g.Out.Sink.view c.args.out.now)
    (g.Out.Sink.view c.run_scheduled.new.out) read c.run_scheduled.result runs
