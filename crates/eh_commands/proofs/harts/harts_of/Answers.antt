use Rattle.std.proofs.Common.{◌≡◌, ◌++◌, [], ◌∷◌, List, ℕ, sym, subst, Vec, rules}
use Rattle.std.specs.Global.{Global}
use Rattle.std.proofs.lemmas.List.{map-append}
use Rattle.hart_sched.specs.declared.hart.Hart.{Hart}
use Rattle.eh_commands.specs.HartFiles.{kept_bytes}
use Rattle.eh_commands.proofs.HartsCauses.{ReadySoFar, ready_next}
use Rattle.eh_commands.proofs.harts.harts_of.Goals as goal

pub loop-input-preserved : goal.loop-input-preserved
loop-input-preserved c =
    let file = c.args.image.now in
    let before = kept_bytes c.loop-input.yielded in
    let pushed : c.push.new.self.items ≡ c.loop-input.harts.items ++ c.in_ok-hart.hart ∷ [] = search rules in
    let bytes : kept_bytes (c.loop-input.yielded ++ c.in-Some.input ∷ []) ≡ before ++ c.in-Some.input.items ∷ [] = map-append (λ (v : Vec ℕ Global). v.items) c.loop-input.yielded (c.in-Some.input ∷ []) in
    subst (λ (hs : List Hart). ReadySoFar file (kept_bytes (c.loop-input.yielded ++ c.in-Some.input ∷ [])) hs) (sym pushed)
    (subst (λ (is : List (List ℕ)). ReadySoFar file is (c.loop-input.harts.items ++ c.in_ok-hart.hart ∷ [])) (sym bytes)
    (ready_next file before c.loop-input.harts.items c.in-Some.input.items c.in_ok-hart.hart c.loop-input.invariant c.in_ok-hart.ensures))
