-- The words of a checked program's functions, with what their operations call, and of its runs.
use Rattle.std.proofs.Common.{ℕ, ◌+◌, ◌*◌, ◌≤◌, Bool, List, [], ◌∷◌, map, refl, arith}
use Rattle.std.specs.List.{AllByRecursion}
use Rattle.region_forms.specs.Form.{Op, evaluate, store, bind, call, construct, destroy, make, throw, rethrow, enter, leave, RegionFunction}
use Rattle.region_forms.specs.Layout.{layout_of}
use Rattle.region_forms.specs.LowerProgram.{regions_of}
use Rattle.linear_forms.specs.Linear.{LinearOp, plain, label, jump, jump_zero, pad, jump_filter, free, resume, unexpected, return}
use Rattle.linear_forms.specs.Stub.{CodeOp}
use Rattle.linear_forms.specs.Tables.{unpadded}
use Rattle.linear_forms.specs.Sites.{Placed}
use Rattle.linear_forms.specs.Emission.{quiet}
use Rattle.linear_forms.specs.Code.{region_code}
use Rattle.linear_forms.specs.Unit.{emitting, placed_code, function_code}
use Rattle.linear_forms.specs.Activation.{Code, State}
use Rattle.linear_forms.specs.UnitRun.{code_of, first_state}
use Rattle.class_layout.proofs.Program.{classes_fit}
use Rattle.cost_paths.specs.Order.{weight}
use Rattle.source_bounds.specs.OperationWords.{linear_words}
use Rattle.source_bounds.specs.RegionWords.{HasFewWays}
use Rattle.source_bounds.proofs.Units.{checked_fine}
use Rattle.function_lengths.proofs.Functions.{IsShort, checked_bodies_are_short}
use Rattle.source_bounds.specs.Compiled.{unit_for}
use Rattle.cost_turns.specs.Runs.{weighed}
use Rattle.cost_turns.specs.Once.{counted}
use Rattle.cost_turns.specs.Weights.{whole_linear}
use Rattle.cost_turns.proofs.Runs.{runs_weigh_by_calls}
use Rattle.cost_words.specs.Counts.{code_words}
use Rattle.cost_words.specs.Runs.{CheckedRunsAreShort}
use Rattle.cost_words.proofs.Regions.{words, words-append, region_short}

-- the same in compiled functions and in the runtime's own
abbrev words_of : Bool → CodeOp → ℕ
words_of own = code_words

plain_whole : (o : Op) → whole_linear words_of (plain o) ≤ linear_words (plain o)
plain_whole (evaluate v) = omega arith
plain_whole (store p v) = omega arith
plain_whole (bind s p) = omega arith
plain_whole (call c args) = omega arith
plain_whole (construct p n args) = omega arith
plain_whole (destroy p n) = omega arith
plain_whole (make s) = omega arith
plain_whole (throw s t d) = omega arith
plain_whole rethrow = omega arith
plain_whole (enter s) = omega arith
plain_whole leave = omega arith

-- with what it calls of the runtime's own functions an operation has no more words than it counts as
whole_words : (o : LinearOp) → whole_linear words_of o ≤ linear_words o
whole_words (plain o) = plain_whole o
whole_words (label l) = omega arith
whole_words (jump l) = omega arith
whole_words (jump_zero v l) = omega arith
whole_words (pad o s) = omega arith
whole_words (jump_filter s n l) = omega arith
whole_words (free s) = omega arith
whole_words (resume s) = omega arith
whole_words (unexpected o s) = omega arith
whole_words (return r) = omega arith

placed_words : (code : List Placed) → weight (whole_linear words_of) (map (λ x. x.op) code) ≤ words 14 code
placed_words [] = omega arith
placed_words (x ∷ code) = omega (arith, whole_words x.op, placed_words code)

function_words : (f : RegionFunction) → HasFewWays f.body → IsShort f → weight (whole_linear words_of) (function_code f).ops ≤ 262108
function_words f few short =
    let body = region_code (emitting f) unpadded [] 0 0 f.body in
    omega (arith, placed_words (placed_code f), words-append 14 body (quiet (return f.result) ∷ []), region_short 14 f.body (emitting f) unpadded [] 0 0 few, short)

all_words : (fs : List RegionFunction) → AllByRecursion (λ f. HasFewWays f.body) fs → AllByRecursion IsShort fs →
    AllByRecursion (λ g. weight (whole_linear words_of) g.ops ≤ 262108) (map function_code fs)
all_words [] few short = tt
all_words (f ∷ fs) few short = (function_words f few.0 short.0, all_words fs few.1 short.1)

pub checked_runs_are_short : CheckedRunsAreShort
checked_runs_are_short p h n input replies =
    let l = layout_of p in
    let fs = (regions_of p l).functions in
    let code : Code = code_of (unit_for p) in
    let st : State = first_state (unit_for p) input replies in
    let all : weighed code words_of n st ≤ 262108 * (counted code n st + 2) =
    runs_weigh_by_calls (regions_of p l) words_of 262108 n input replies (λ k. refl) (all_words fs (checked_fine classes_fit p l h).few (checked_bodies_are_short p h)) (omega arith) in
    omega (arith, all)
