-- A runtime that has done nothing yet, whose tables no program writes.
use Rattle.std.specs.Prelude.{◌≡◌, ℕ}
use Rattle.frame_walk.specs.Outward.{tables_of}
use Rattle.cxa_runtime.specs.Kept.{Kept, at_first}
use Rattle.cxa_runtime.specs.Lasting.{LastsAs}
use Rattle.eh_run.specs.Program.{Program, fdes_of}

-- what it is to run, where its frames' header stands at this address
abbrev pub program_in : Kept → ℕ → Program
program_in runtime header = record { image = record { fdes = fdes_of (tables_of runtime.hart) header; places = runtime.places }; hart = runtime.hart }

pub record IsReady (runtime : Kept) (header : ℕ) : Type 0 where
  pub fresh : runtime ≡ at_first runtime.hart runtime.frames runtime.places
  pub lasts : LastsAs runtime.hart runtime.frames (fdes_of (tables_of runtime.hart) header)
