use Rattle.std.proofs.Common.{◌≡◌, ◌∙◌, [], ◌∷◌, List, sym, ap}
use Rattle.std.specs.Prelude.{option_map}
use Rattle.eh_bytes.specs.Memory.{memory_of}
use Rattle.table_forms.specs.Fault.{least, joined}
use Rattle.table_forms.specs.Seen.{fault_of}
use Rattle.frame_read.specs.declared.listed.Fde.{Fde}
use Rattle.eh_run.specs.Written.{tables_written}
use Rattle.eh_run.proofs.Writable.{one_more, no_more, empty}
use Rattle.eh_run.proofs.written.tables_written.Goals as goal

pub fdes-preserved : goal.fdes-preserved
fdes-preserved c =
    let memory = memory_of c.args.memory.now in
    let so_far = option_map fault_of c.fdes.least in
    let rest : c.fdes.rest.now ≡ c.in-Some.fde.now ∷ c.in-Some.others.now = (c.in-Some.ensures {u = tt}).cases.0 in
    c.fdes.invariant ∙ ap (λ (fs : List Fde). joined so_far (least (tables_written memory fs))) rest ∙ one_more memory so_far c.in-Some.fde.now c.in-Some.others.now ∙
    ap (λ o. joined o (least (tables_written memory c.in-Some.others.now))) (sym (c.joined-least.ensures ∙ ap (joined so_far) c.table_written.ensures))

pub returns : goal.returns
returns c =
    let memory = memory_of c.args.memory.now in
    let so_far = option_map fault_of c.fdes.least in
    let none : c.fdes.rest.now ≡ [] = empty c.fdes.rest.now (c.in_default.ensures {u = tt}).cases in
    sym (c.fdes.invariant ∙ ap (λ (fs : List Fde). joined so_far (least (tables_written memory fs))) none ∙ no_more memory so_far)
