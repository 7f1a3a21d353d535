use Rattle.std.proofs.Common.{rules, ◌≡◌, ◌≢◌, ◌<◌, ◌++◌, ◌∷◌, [], true, false, length, ℕ, List, subst, arith}
use Rattle.eh_bytes.specs.Memory.{memory_of}
use Rattle.image_doubts.specs.Starts.{marks_from, marks_of}
use Rattle.image_doubts.proofs.Marked.{one_begun, one_behind, all_marked}
use Rattle.image_doubts.proofs.start.marks_of.Goals as goal

pub bytes-preserved-then-behind-eq0 : goal.bytes-preserved-then-behind-eq0
bytes-preserved-then-behind-eq0 c =
    let b = c.in-Some.byte.now in let bs = c.in-Some.others.now in let all = marks_of (memory_of c.args.memory.now) c.args.region in
    let split : c.bytes.rest.now ≡ b ∷ bs = search rules in
    let none : c.bytes.behind ≡ 0 = c.if-behind-eq0.true in
    let put : c.push.new.self.items ≡ c.bytes.marks.items ++ true ∷ [] = search rules in
    one_begun all c.bytes.marks.items c.push.new.self.items c.bytes.behind b c.behind_first-behind.result bs none c.behind_first-behind.ensures put
    (subst (λ (r : List ℕ). all ≡ c.bytes.marks.items ++ marks_from c.bytes.behind r) split c.bytes.invariant)

pub bytes-preserved : goal.bytes-preserved
bytes-preserved c =
    let b = c.in-Some.byte.now in let bs = c.in-Some.others.now in let all = marks_of (memory_of c.args.memory.now) c.args.region in
    let split : c.bytes.rest.now ≡ b ∷ bs = search rules in
    let other : c.bytes.behind ≢ 0 = c.if-behind-eq0.false in
    let some : 0 < c.bytes.behind = omega (arith, other) in
    let put : c.push.new.self.items ≡ c.bytes.marks.items ++ false ∷ [] = search rules in
    one_behind all c.bytes.marks.items c.push.new.self.items c.bytes.behind b bs some put
    (subst (λ (r : List ℕ). all ≡ c.bytes.marks.items ++ marks_from c.bytes.behind r) split c.bytes.invariant)

pub returns : goal.returns
returns c =
    let none : length c.bytes.rest.now ≡ 0 = search rules in
    all_marked (marks_of (memory_of c.args.memory.now) c.args.region) c.bytes.marks.items c.bytes.behind c.bytes.rest.now none c.bytes.invariant
