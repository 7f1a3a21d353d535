-- std::terminate (ISO/IEC 14882:2003, 15.5.1).
use Rattle.std.specs.Prelude.{ℕ, true, if◌then◌else◌}
use Rattle.eh_bytes.specs.declared.unit.RuntimeRecord.{RuntimeRecord}
use Rattle.rv64_isa.specs.State.{State, with_reg}
use Rattle.cxa_runtime.specs.World.{World, Outcome, goes, aborts, a0}

-- the hart is sent to the terminate stub with the handler's address or 0; the rest of its registers stays
abbrev pub at_stub : RuntimeRecord → ℕ → State → State
at_stub places handler s = record { pc = places.terminate; regs = with_reg s.regs a0 handler; memory = s.memory }

-- terminate with a handler; where terminate is running already the run ends as aborted (profile)
abbrev pub terminates : RuntimeRecord → ℕ → World → Outcome
terminates places handler w =
    if w.terminating then aborts w
    else goes (record w { hart = at_stub places handler w.hart; terminating = true })

-- terminate with the handler in effect
abbrev pub terminates_now : RuntimeRecord → World → Outcome
terminates_now places w = terminates places w.terminate_handler w
