use Rattle.std.proofs.Common.{rules, Result, Ok, ap, ◌∙◌}
use Rattle.eh_bytes.specs.Memory.{part_of}
use Rattle.table_forms.specs.Fault.{Fault, ◌>>=◌}
use Rattle.table_forms.specs.Instructions.{Instructions, instructions_at}
use Rattle.frame_read.specs.Seen.{coding_seen}
use Rattle.frame_read.specs.States.{list_of}
use Rattle.frame_read.specs.Heads.{fde_with}
use Rattle.frame_read.specs.SeenCie.{cie_seen}
use Rattle.frame_read.proofs.fde.fde_of.Goals as goal

pub returns-in_err-fde-clause-reads : goal.returns-in_err-fde-clause-reads
returns-in_err-fde-clause-reads c =
    let cie = c.args.cie.now in let part = part_of c.args.segment.now in
    let common : Instructions = record { list = list_of (instructions_at (coding_seen cie.coding) part cie.stop cie.first 0); states = cie.states } in
    let head = c.in_err-fde.ensures.head common in search (rules, head)

pub returns-in_err-instructions_of-clause-reads : goal.returns-in_err-instructions_of-clause-reads
returns-in_err-instructions_of-clause-reads c =
    let cie = c.args.cie.now in let part = part_of c.args.segment.now in let fde = c.in_ok-fde.fde in
    let common : Instructions = record { list = list_of (instructions_at (coding_seen cie.coding) part cie.stop cie.first 0); states = cie.states } in
    let read = c.in_ok-fde.ensures.head common ∙
    ap (λ (r : Result Instructions Fault). r >>= λ is. Ok (fde_with part (cie_seen part cie) fde is)) c.in_err-instructions_of.ensures.reads in search (rules, read)

pub returns-clause-reads : goal.returns-clause-reads
returns-clause-reads c =
    let cie = c.args.cie.now in let part = part_of c.args.segment.now in let fde = c.in_ok-fde.fde in
    let common : Instructions = record { list = list_of (instructions_at (coding_seen cie.coding) part cie.stop cie.first 0); states = cie.states } in
    c.in_ok-fde.ensures.head common ∙
    ap (λ (r : Result Instructions Fault). r >>= λ is. Ok (fde_with part (cie_seen part cie) fde is)) c.in_ok-instructions_of.ensures.reads
