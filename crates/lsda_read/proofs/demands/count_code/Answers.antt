use Rattle.std.specs.Prelude.{slice_index}
use Rattle.std.proofs.Common.{rules, ◌≡◌, ◌≤◌, ◌<◌, ◌+◌, ◌-◌, ◌∷◌, ℕ, List, length, take, Some, arith, ap, sym, subst}
use Rattle.eh_bytes.specs.Memory.{part_of, memory_of, part_with}
use Rattle.lsda_read.specs.Demands.{AreCode, IsRising}
use Rattle.lsda_read.proofs.Coded.{front_code}
use Rattle.lsda_read.proofs.demands.count_code.Goals as goal

pub returns-clause-code : goal.returns-clause-code
returns-clause-code c = λ rising.
    let m = memory_of c.args.memory.now in let s = part_of c.in-Some-segment_with.segment.now in
    let x = c.in-Some.first.now in let others = c.in-Some.field-0-1.now in let k = c.count_below.result in
    let split : c.args.pads.now ≡ x ∷ others = search rules in
    let place : c.in-Some-checked_add.address ≡ c.args.start + x = search rules in
    let found : part_with m c.in-Some-checked_add.address ≡ Some s = sym c.in-Some-segment_with.ensures.with in
    let from : s.address ≤ c.in-Some-checked_add.address = c.in-Some-segment_with.ensures.from in
    let inside : k ≤ length (x ∷ others) = omega (arith, c.count_below.ensures.inside, ap length split) in
    let high : 0 < k → c.args.start + slice_index (x ∷ others) (k - 1) < s.address + length s.bytes = λ some.
    let P : List ℕ → Type 0 = λ xs. c.args.start + slice_index xs (k - 1) < s.address + length s.bytes in
    let low = c.count_below.ensures.below some in
    subst P split (omega (arith, low, c.len.ensures)) in
    let A : ℕ → Type 0 = λ a. part_with m a ≡ Some s in let B : ℕ → Type 0 = λ a. s.address ≤ a in
    let Q : List ℕ → Type 0 = λ xs. AreCode m c.args.start (take k xs) in
    subst Q (sym split) (front_code m c.args.start x k others s (subst A place found) c.if-not-segment.false (subst B place from) inside high (subst IsRising split rising))
