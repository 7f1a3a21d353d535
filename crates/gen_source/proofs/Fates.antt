-- No source of a size is refused.
use Rattle.std.proofs.Common.{◌≡◌, ℕ}
use Rattle.cxx_ast.specs.Plain.{Program}
use Rattle.cxx_front.specs.Fate.{refused, valid}
use Rattle.gen_source.specs.Laws.{NoneIsRefused}
use Rattle.gen_source.proofs.Checked.{sources_are_valid}

-- what is refused is not valid
unlike : (number place : ℕ) (p : Program) → refused number place ≡ valid p → ⊥
unlike number place p e = cc

pub none_is_refused : NoneIsRefused
none_is_refused n few number place h =
    let s = sources_are_valid n few in unlike number place s.program (h.only (valid s.program) (record { tokens = s.tokens; lexed = s.lexed; tree = s.tree }, s.valid))
