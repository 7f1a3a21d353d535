use Rattle.std.proofs.Common.{◌+◌}
use Rattle.region_ir.specs.View.{value_of}
use Rattle.rv64_emit.proofs.Weight.{weight}
use Rattle.rv64_emit.proofs.value.+values.Given as goal

abbrev pub decreases-put_value : goal.decreases-put_value
decreases-put_value l = weight (value_of l.value.now)

abbrev pub decreases-put_operand : goal.decreases-put_operand
decreases-put_operand l = weight (value_of l.value.now) + 1

abbrev pub decreases-put_result : goal.decreases-put_result
decreases-put_result l = weight (value_of l.left.now) + weight (value_of l.right.now) + 4

abbrev pub decreases-put_sum : goal.decreases-put_sum
decreases-put_sum l = weight (value_of l.left.now) + 2

abbrev pub decreases-put_binary : goal.decreases-put_binary
decreases-put_binary l = weight (value_of l.left.now) + weight (value_of l.right.now) + 3

abbrev pub decreases-put_operands : goal.decreases-put_operands
decreases-put_operands l = weight (value_of l.left.now) + weight (value_of l.right.now) + 2

abbrev pub decreases-put_and : goal.decreases-put_and
decreases-put_and l = weight (value_of l.left.now) + weight (value_of l.right.now) + 1

abbrev pub decreases-put_or : goal.decreases-put_or
decreases-put_or l = weight (value_of l.left.now) + weight (value_of l.right.now) + 1
