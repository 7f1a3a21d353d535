use Rattle.std.proofs.Common.{◌∙◌, ap, sym, option_map}
use Rattle.rv64_isa.specs.State.{covers}
use Rattle.rv64_machine.specs.Parts.{part_of}
use Rattle.rv64_machine.proofs.Found.{copied_mapped, find_mapped}
use Rattle.rv64_machine.proofs.memory.first_in.Goals as goal

pub returns-clause-first : goal.returns-clause-first
returns-clause-first c = copied_mapped part_of c.find_in.result ∙ ap (option_map part_of) c.find_in.ensures.first ∙ sym (find_mapped (λ part. covers part c.args.address) part_of c.args.segments.now)
