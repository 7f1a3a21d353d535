use Rattle.std.proofs.Common.{rules, ◌≡◌, ◌+◌, [], take, drop, slice_index_or, ap, sym, ◌∙◌, arith}
use Rattle.std.specs.Prelude.{option_map}
use Rattle.std.proofs.lemmas.List.{drop_all}
use Rattle.table_forms.specs.Fault.{least, joined}
use Rattle.table_forms.specs.Seen.{fault_of}
use Rattle.elf_image.specs.declared.program.ProgramHeader.{ProgramHeader}
use Rattle.elf_image.specs.Loads.{load_faults}
use Rattle.elf_image.proofs.Joined.{load_turn, load_end}
use Rattle.elf_image.proofs.load.load_refusal.Goals as goal

pub loads-preserved : goal.loads-preserved
loads-preserved c =
    let d : ProgramHeader = record { place = 0; kind = 0; flags = 0; offset = 0; address = 0; file_size = 0; memory_size = 0 } in
    let all = c.args.loads.now in
    let at = c.loads.at in
    let h = slice_index_or all at d in (
      c.loads.invariant.0 ∙ load_turn (option_map fault_of c.loads.least) c.args.len c.loads.before all at d c.loads-test.true ∙
          ap (λ x. joined x (least (load_faults c.args.len (c.loads.before + h.memory_size) (take (at + 1) all) (drop (at + 1) all))))
          (sym (c.joined-least.ensures ∙ ap (joined (option_map fault_of c.loads.least)) c.one_refusal.ensures)),
      search rules,
      search rules,
    )

pub returns : goal.returns
returns c =
    let none : drop c.loads.at c.args.loads.now ≡ [] = drop_all c.loads.at c.args.loads.now (omega (arith, c.loads-test.false)) in
    sym (c.loads.invariant.0 ∙ load_end (option_map fault_of c.loads.least) c.args.len c.loads.before (take c.loads.at c.args.loads.now) (drop c.loads.at c.args.loads.now) none)
