-- What the exception tables say of a place where control goes on behind a call.
use Rattle.std.specs.Prelude.{ℕ, false, List, option_and_then}
use Rattle.table_forms.specs.declared.found.Verdict.{Verdict}
use Rattle.table_forms.specs.Fde.{Fde, fde_for}
use Rattle.table_forms.specs.Verdict.{Thrown, look_up_place, verdict}
use Rattle.rv64_isa.specs.State.{State}
use Rattle.frame_walk.specs.Outward.{tables_of}
use Rattle.raise_core.specs.Asked.{table_of}

-- the verdict on a thrown thing by the table of the function that holds the place
abbrev pub said : State → List Fde → Thrown → ℕ → Verdict
said s fdes thrown ip = verdict (option_and_then (table_of (tables_of s)) (fde_for fdes (look_up_place ip false))) ip false thrown
