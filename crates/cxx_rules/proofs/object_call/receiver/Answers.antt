use Rattle.std.proofs.Common.{◌<◌, length, arith}
use Rattle.cxx_rules.proofs.PathLaws.{receiver_is}
use Rattle.cxx_rules.proofs.object_call.receiver.Goals as goal

pub returns-in-len1-up : goal.returns-in-len1-up
returns-in-len1-up c = let some : 0 < length c.args.names.now = omega arith in receiver_is c.args.names.now some
