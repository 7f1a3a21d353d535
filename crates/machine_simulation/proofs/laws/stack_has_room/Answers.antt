use Rattle.machine_simulation.proofs.Room.{stack_has_room}
use Rattle.machine_simulation.proofs.laws.stack_has_room.Goals as goal

pub returns : goal.returns
returns c = stack_has_room
