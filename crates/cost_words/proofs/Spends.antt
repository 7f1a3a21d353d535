-- What the operations of a checked program's functions weigh, with what they call, and what its runs spend.
use Rattle.std.proofs.Common.{ℕ, zero, suc, ◌+◌, ◌*◌, ◌≤◌, List, [], ◌∷◌, map, refl, arith}
use Rattle.std.specs.List.{AllByRecursion}
use Rattle.region_forms.specs.Form.{Op, evaluate, store, bind, call, construct, destroy, make, throw, rethrow, enter, leave, RegionFunction}
use Rattle.region_forms.specs.Layout.{layout_of}
use Rattle.region_forms.specs.LowerProgram.{regions_of}
use Rattle.linear_forms.specs.Linear.{LinearOp, plain, label, jump, jump_zero, pad, jump_filter, free, resume, unexpected, return}
use Rattle.linear_forms.specs.Tables.{unpadded}
use Rattle.linear_forms.specs.Sites.{Placed}
use Rattle.linear_forms.specs.Emission.{quiet}
use Rattle.linear_forms.specs.Code.{region_code}
use Rattle.linear_forms.specs.Unit.{emitting, placed_code, function_code}
use Rattle.linear_forms.specs.Activation.{Code, State}
use Rattle.linear_forms.specs.UnitRun.{code_of, first_state}
use Rattle.class_layout.proofs.Program.{classes_fit}
use Rattle.cost_paths.specs.Order.{weight}
use Rattle.source_bounds.specs.RegionWords.{region_words, HasFewWays}
use Rattle.source_bounds.proofs.Units.{code_words, checked_fine}
use Rattle.source_bounds.specs.Compiled.{unit_for}
use Rattle.cost_turns.specs.Runs.{weighed, turns}
use Rattle.cost_turns.specs.Once.{counted}
use Rattle.cost_turns.specs.Weights.{whole_linear}
use Rattle.cost_turns.proofs.Once.{terminate_begins_once}
use Rattle.cost_turns.proofs.Runs.{runs_weigh_by_calls, turns_apart}
use Rattle.cost_words.specs.Spends.{op_weight, CheckedRunsSpendLittle}
use Rattle.cost_words.proofs.Regions.{counted_words, words, words-append, region_short}

plain_whole : (o : Op) → whole_linear op_weight (plain o) ≤ counted_words 24 (plain o)
plain_whole (evaluate v) = omega arith
plain_whole (store p v) = omega arith
plain_whole (bind s p) = omega arith
plain_whole (call c args) = omega arith
plain_whole (construct p n args) = omega arith
plain_whole (destroy p n) = omega arith
plain_whole (make s) = omega arith
plain_whole (throw s t d) = omega arith
plain_whole rethrow = omega arith
plain_whole (enter s) = omega arith
plain_whole leave = omega arith

-- with what it calls of the runtime's own functions an operation weighs no more than it counts as
whole_counted : (o : LinearOp) → whole_linear op_weight o ≤ counted_words 24 o
whole_counted (plain o) = plain_whole o
whole_counted (label l) = omega arith
whole_counted (jump l) = omega arith
whole_counted (jump_zero v l) = omega arith
whole_counted (pad o s) = omega arith
whole_counted (jump_filter s n l) = omega arith
whole_counted (free s) = omega arith
whole_counted (resume s) = omega arith
whole_counted (unexpected o s) = omega arith
whole_counted (return r) = omega arith

placed_counted : (code : List Placed) → weight (whole_linear op_weight) (map (λ x. x.op) code) ≤ words 24 code
placed_counted [] = omega arith
placed_counted (x ∷ code) = omega (arith, whole_counted x.op, placed_counted code)

function_counted : (f : RegionFunction) → HasFewWays f.body → weight (whole_linear op_weight) (function_code f).ops ≤ region_words f.body + 24
function_counted f few =
    let body = region_code (emitting f) unpadded [] 0 0 f.body in
    omega (arith, placed_counted (placed_code f), words-append 24 body (quiet (return f.result) ∷ []), region_short 24 f.body (emitting f) unpadded [] 0 0 few)

-- each function, where all have few words together
all_counted : (fs : List RegionFunction) (m : ℕ) → AllByRecursion (λ f. HasFewWays f.body) fs → code_words fs ≤ m →
    AllByRecursion (λ g. weight (whole_linear op_weight) g.ops ≤ m + 14) (map function_code fs)
all_counted [] m few short = tt
all_counted (f ∷ fs) m few short = (omega (arith, function_counted f few.0, short), all_counted fs m few.1 (omega (arith, short)))

spread : (a b l c k : ℕ) → a ≤ l * (c + 2) → b ≤ 64 * (c + 1) → l + 64 ≤ k → a + b ≤ k * (c + 2)
spread a b l c k first second few = let product = more (c + 2) l k few in omega (arith, first, second, product)
  where
    more : (n l k : ℕ) → l + 64 ≤ k → l * n + 64 * n ≤ k * n
    more zero l k h = omega arith
    more (suc n) l k h = let rest = more n l k h in grind (arith, rest, h)

pub checked_runs_spend_little : CheckedRunsSpendLittle
checked_runs_spend_little p h n input replies =
    let l = layout_of p in
    let fs = (regions_of p l).functions in
    let fine = checked_fine classes_fit p l h in
    let code : Code = code_of (unit_for p) in
    let st : State = first_state (unit_for p) input replies in
    let longest : ℕ = 128 * p.program.tokens + 640 + 14 in
    let all : weighed code op_weight n st ≤ longest * (counted code n st + 2) =
    runs_weigh_by_calls (regions_of p l) op_weight longest n input replies (λ k. refl) (all_counted fs (128 * p.program.tokens + 640) fine.few fine.words) (omega arith) in
    let apart = turns_apart code n st in
    let once = terminate_begins_once code n st in
    spread (weighed code op_weight n st) (64 * turns code n st) longest (counted code n st) (128 * p.program.tokens + 1024) all (omega (arith, apart, once)) (omega arith)
