use Rattle.std.proofs.Common.{◌≡◌, ◌++◌, drop, flat_map, length, map}
use Rattle.landing_pads.specs.View.{linear_of}
use Rattle.machine_forms.specs.LinearCode.{linear_code}
use Rattle.rv64_emit.specs.Starts.{starts_from}
use Rattle.rv64_emit.proofs.body.put_operations.Given as goal

-- the code and the words so far, and those of what is left
abbrev pub invariant-loop-op : goal.invariant-loop-op
invariant-loop-op l = record {
  code :
      l.code ++ flat_map (λ b. b) (map (linear_code l.frame) (map linear_of (drop l.op-index l.ops)))
      ≡ l.initial.code ++ flat_map (λ b. b) (map (linear_code l.frame) (map linear_of l.ops));
  starts :
      l.words.items ++ starts_from (length l.code) (map (linear_code l.frame) (map linear_of (drop l.op-index l.ops)))
      ≡ starts_from (length l.initial.code) (map (linear_code l.frame) (map linear_of l.ops));
}
