use Rattle.std.proofs.Common.{arith}
use Rattle.rv64_machine.proofs.Decoders.{all_same}
use Rattle.rv64_machine.proofs.decoder.Decoder.new.Goals as goal

pub invariant_of-result : goal.invariant_of-result
invariant_of-result c = all_same 1024 _ (λ few. absurd (omega (arith, few)))
