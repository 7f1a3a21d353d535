-- What a checked program costs by its tokens.
use Rattle.std.proofs.Common.{◌≡◌, ℕ, zero, suc, ◌+◌, ◌*◌, ◌≤◌, ◌<◌, nat_le, Bool, true, false, List, [], ◌∷◌, map, length, Some, refl, subst, arith}
use Rattle.std.proofs.lemmas.Bool.{and_parts}
use Rattle.std.proofs.lemmas.Bool.Decides.{nat_tests}
use Rattle.std.proofs.lemmas.List.{length-append, length-map}
use Rattle.std.proofs.Math.Nat.{mul-le-mul_left}
use Rattle.std.specs.List.{AllByRecursion}
use Rattle.std.specs.Prelude.{slice_get, unwrap_or}
use Rattle.cxx_ast.specs.Plain.{Function, Class}
use Rattle.cxx_ast.specs.Checked.{IsChecked, checked}
use Rattle.meaning_forms.specs.Class.{class_at, no_class, parts_of, base_part, member_part}
use Rattle.meaning_forms.specs.Outcome.{thrown, cancelled, ended, undefined, out_of_turns, deep}
use Rattle.meaning_forms.specs.Meaning.{Meaning, MainOutcome, returned, stopped_by}
use Rattle.region_forms.specs.Form.{RegionFunction}
use Rattle.region_forms.specs.Layout.{layout_of, class_parts}
use Rattle.region_forms.specs.LowerProgram.{declared_function, implicit_default_function, implicit_copy_function, implicit_destructor_function, regions_of}
use Rattle.region_forms.specs.WellFormed.{every}
use Rattle.linear_forms.specs.Activation.{Code, State}
use Rattle.linear_simulation.specs.FunctionsRun.{cost_bound, program_cost}
use Rattle.linear_simulation.specs.ProgramRuns.{Shows}
use Rattle.class_layout.proofs.Program.{classes_fit}
use Rattle.region_ir.proofs.EachFunction.{each_passes}
use Rattle.region_formed.proofs.Tokens.{tokens_same}
use Rattle.source_bounds.specs.LeastTokens.{function_tokens, functions_tokens, base_tokens, class_tokens, classes_tokens}
use Rattle.source_bounds.specs.RegionWords.{HasFewWays}
use Rattle.source_bounds.proofs.Units.{base_counted, checked_tokens, no_own_parts, checked_fine}
use Rattle.linear_meaning.specs.Costs.{steps_for, CheckedCostsFit, ValidSourcesRunInTime}
use Rattle.linear_meaning.proofs.Weights.{weight, cost_within}
use Rattle.linear_meaning.proofs.WeighedFunctions.{declared_weighs, default_function_weighs, copy_function_weighs, destructor_function_weighs}
use Rattle.linear_meaning.proofs.WatchedRuns.{sources_run}

-- the tokens of one of some functions, and of one of some classes
function_within : (fs : List Function) (i : ℕ) (f : Function) → slice_get fs i ≡ Some f → function_tokens f ≤ functions_tokens fs
function_within [] zero f e = absurd (cc e)
function_within [] (suc i) f e = absurd (cc e)
function_within (g ∷ fs) zero f e = let same : g ≡ f = cc e in subst (λ h. function_tokens h ≤ functions_tokens (g ∷ fs)) same (omega arith)
function_within (g ∷ fs) (suc i) f e = omega (arith, function_within fs i f e)

class_within : (cs : List Class) (k : ℕ) → k < length cs → class_tokens (unwrap_or (slice_get cs k) no_class) ≤ classes_tokens cs
class_within [] k below = absurd (omega (arith, below))
class_within (c ∷ cs) zero below = omega arith
class_within (c ∷ cs) (suc k) below = omega (arith, class_within cs k (omega (arith, below)))

-- the parts of a class have tokens
parts_counted : (c : Class) → 49 * length (class_parts c) ≤ 40 * (3 * length c.members + base_tokens c.base)
parts_counted c =
    omega (arith, length-append (base_part c.base) (map member_part c.members), length-map c.members member_part, (base_counted c.base).0, (base_counted c.base).1)

-- a function that weighs so much at most
abbrev light : ℕ → RegionFunction → Bool
light m f = nat_le (weight f.body + 2) m

is_light : (m : ℕ) (f : RegionFunction) → weight f.body + 2 ≤ m → light m f ≡ true
is_light m f h = grind (arith, nat_tests, h)

was_light : (m : ℕ) (f : RegionFunction) → light m f ≡ true → weight f.body + 2 ≤ m
was_light m f h = grind (arith, nat_tests, h)

bound_within : (m : ℕ) (fs : List RegionFunction) → 2 ≤ m → AllByRecursion (λ f. HasFewWays f.body) fs → every (light m) fs ≡ true → cost_bound fs ≤ m
bound_within m [] two few h = two
bound_within m (f ∷ fs) two few h =
    let parts = and_parts (light m f) (every (light m) fs) h in
    omega (arith, cost_within f.body few.0, was_light m f parts.0, bound_within m fs two few.1 parts.1)

pub costs_fit : CheckedCostsFit
costs_fit p l c =
    let most = steps_for (length c.tokens) in
    let same = (tokens_same p l c).0 in
    let tokens = checked_tokens p c in
    let class_counted : (k : ℕ) → k < length p.classes → 40 * functions_tokens (class_at p k).functions + 49 * length (parts_of p k) + 4 ≤ most =
    λ k below. omega (arith, parts_counted (class_at p k), class_within p.classes k below, tokens, same) in
    bound_within most (regions_of p l).functions (omega arith) (checked_fine classes_fit p l c).few
    (each_passes p l (light most) (record {
      own = λ is_main i f e. is_light most (declared_function p l false is_main 0 f)
          (omega (arith, declared_weighs p l false is_main 0 f, function_within p.functions i f e, no_own_parts p c, tokens, same));
      method = λ k i f below e. is_light most (declared_function p l true false k f)
          (omega (arith, declared_weighs p l true false k f, function_within (class_at p k).functions i f e, class_counted k below));
      default = λ k below. is_light most (implicit_default_function p l k) (omega (arith, default_function_weighs p l k, class_counted k below));
      copy = λ k below. is_light most (implicit_copy_function p l k) (omega (arith, copy_function_weighs p l k, class_counted k below));
      destructor = λ k below. is_light most (implicit_destructor_function p l k) (omega (arith, destructor_function_weighs p l k, class_counted k below));
    }))

-- what is shown in some steps is shown in more
later : (main : MainOutcome) (m : Meaning) (turns few more : ℕ) (code : Code) (first : State) → few ≤ more → Shows main m turns few code first → Shows main m turns more code first
later (returned v) m turns few more code first le h = record { ends = λ n enough. h.ends n (omega (arith, le, enough)); counts = h.counts }
later (stopped_by (thrown e)) m turns few more code first le h = h
later (stopped_by (cancelled k)) m turns few more code first le h = record { ends = λ n enough. h.ends n (omega (arith, le, enough)); counts = h.counts }
later (stopped_by (ended e)) m turns few more code first le h = record { ends = λ n enough. h.ends n (omega (arith, le, enough)); counts = h.counts }
later (stopped_by undefined) m turns few more code first le h = record { ends = λ n enough. h.ends n (omega (arith, le, enough)); counts = h.counts }
later (stopped_by out_of_turns) m turns few more code first le h = record {
  begins = λ n enough. h.begins n (omega (arith, le, enough));
  short = λ one. let s = h.short one in
      record {
        steps = s.steps;
        last = s.last;
        few = omega (arith, le, s.few);
        leads = s.leads;
        items = s.items;
        deepest = s.deepest;
        pays = s.pays;
        paid = s.paid;
        counts = s.counts;
      };
}
later (stopped_by deep) m turns few more code first le h = λ n enough. h n (omega (arith, le, enough))

pub sources_run_in_time : ValidSourcesRunInTime
sources_run_in_time source tokens std p lexed tree valid =
    let r = regions_of (checked std p) (layout_of (checked std p)) in
    let c : IsChecked (checked std p) = record { std = std; source = source; tokens = tokens; program = p; lexed = lexed; tree = tree; valid = valid; resolved = refl } in
    let few : program_cost r ≤ steps_for (length tokens) = costs_fit (checked std p) (layout_of (checked std p)) c in
    let runs = sources_run source tokens std p lexed tree valid in
    record {
      watched = λ limit input replies turns. later _ _ _ _ _ _ _ (mul-le-mul_left (turns + 1) few) (runs.watched limit input replies turns);
      meant = λ limit input replies turns shallow. later _ _ _ _ _ _ _ (mul-le-mul_left (turns + 1) few) (runs.meant limit input replies turns shallow);
    }
