use Rattle.std.proofs.Common.{◌∙◌, ◌≤◌, Err, sym, subst, length}
use Rattle.cxx_ast.specs.declared.standard.Std.TheVariants.{Cxx03}
use Rattle.cxx_ast.specs.View.{checked_of}
use Rattle.cxx_front.specs.Answer.{Answers}
use Rattle.cxx_front.specs.Fate.{HasOnly, refused}
use Rattle.eh_commands.specs.File.{source_limit}
use Rattle.eh_commands.specs.Generate.{CheckedRuns, SizeRuns}
use Rattle.eh_commands.proofs.CompileCauses.{is_checked}
use Rattle.eh_commands.proofs.GenCauses.{gen_more, program_runs}
use Rattle.eh_commands.proofs.generate.count_size.Goals as goal

-- the source that was generated is short
pub checked-requires : goal.checked-requires
checked-requires g c =
    subst (λ s. length s ≤ source_limit) (sym (c.as_slice.ensures.value ∙ c.in-Ok.ensures)) (c.generated_sources_are_valid.ensures.valid c.args.size c.requires.size).short

pub unreachable-requires : goal.unreachable-requires
unreachable-requires g c =
    let source = c.as_slice.result.now in
    let only = subst (λ e. Answers Cxx03 source (Err e)) c.in-Err-Refused.field-0-is c.in-Err-Refused.ensures in
    c.generated_sources_are_valid.ensures.none_refused c.args.size c.requires.size c.in-Err-Refused.field-0-0 c.in-Err-Refused.field-0-1
    (subst (λ s. HasOnly Cxx03 s (refused c.in-Err-Refused.field-0-0 c.in-Err-Refused.field-0-1)) (c.as_slice.ensures.value ∙ c.in-Ok.ensures) only)

pub count_program-requires : goal.count_program-requires
count_program-requires g c = record { turns = c.requires.turns; program = is_checked Cxx03 c.as_slice.result.now c.in-Ok-checked.program c.in-Ok-checked.ensures }

pub returns : goal.returns
returns g c =
    let (p, only, resolved) = c.in-Ok-checked.ensures in
    gen_more (CheckedRuns c.args.turns (checked_of c.in-Ok-checked.program)) (SizeRuns c.args.turns c.args.size)
    (program_runs c.args.turns c.args.size c.as_slice.result.now (checked_of c.in-Ok-checked.program) p (c.as_slice.ensures.value ∙ c.in-Ok.ensures) only resolved)
    (g.Out.Sink.view c.args.out.now) (g.Out.Sink.view c.count_program.new.out) c.count_program.result c.count_program.ensures
