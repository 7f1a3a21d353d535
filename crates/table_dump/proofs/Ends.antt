-- The end of the address space.
use Rattle.std.proofs.Common.{◌≡◌, ◌^◌, refl}
use Rattle.std.specs.Prelude.{codes}
use Rattle.std.specs.Fmt.{digits}
use Rattle.table_dump.specs.Texts.{hex}

pub whole_space : codes "0x10000000000000000" ≡ hex (2 ^ 64)
unfolding digits
whole_space = refl
