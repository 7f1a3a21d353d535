-- Every call of a typed program does the same, and so does the program.
use Rattle.std.proofs.Common.{◌∙◌, ap, ◌≡◌, ℕ, suc, ◌<◌, Bool, true, false, [], Option, Some, None, refl, sym, subst, arith, length}
use Rattle.std.specs.Prelude.{slice_get, ◌==◌, if◌then◌else◌}
use Rattle.std.proofs.lemmas.Bool.Decides.{nat_tests}
use Rattle.cxx_ast.specs.Plain.{Checked}
use Rattle.meaning_forms.specs.Class.{class_at, function_at as source_function_at, method_at}
use Rattle.meaning_forms.specs.Construct.{is_destructor, destructor_place}
use Rattle.meaning_forms.specs.Running.{Callee, function, method, constructor, destructor, declared, implicit_default, implicit_copy}
use Rattle.region_forms.specs.Form.{help_slot, Regions}
use Rattle.region_forms.specs.Layout.{Layout}
use Rattle.region_forms.specs.LowerProgram.{declared_function}
use Rattle.region_forms.specs.Numbering.{number_of, variables_of}
use Rattle.region_simulation.specs.Calls.{IsCallable, SameCalls}
use Rattle.region_statements.specs.Fueled.{fueled}
use Rattle.region_statements.specs.Functions.{gives_int}
use Rattle.region_statements.specs.Calls.{regions_running, SameCall}
use Rattle.region_statements.specs.Main.{main_function}
use Rattle.region_statements.specs.Whole.{lowered_function, lowered_destructor, AreLowered, IsTypedProgram, SameForms, AllCallsDoAlike, RegionsMeanTheSame}
use Rattle.region_statements.proofs.Finding.{constructor_kind, destructor_kind, found, part_defaults, part_copies}
use Rattle.region_statements.proofs.Functions.{functions_run_alike, methods_run_alike}
use Rattle.region_statements.proofs.Main.{main_runs_alike}
use Rattle.region_statements.proofs.Jumps.{jumps_stay_in_loops}
use Rattle.region_statements.proofs.Members.{constructors_run_alike, default_constructors_run_alike, destructors_run_alike, implicit_destructors_run_alike}
use Rattle.region_statements.proofs.Copying.{copy_constructors_run_alike}
use Rattle.region_statements.proofs.Programs.{calls_do_alike, programs_mean_the_same}

is_number : (m n : ℕ) → (m == n) ≡ true → m ≡ n
is_number m n e = grind (arith, nat_tests, e)

module _ (p : Checked) (layout : Layout) (q : Regions) (limit : ℕ) (typed : IsTypedProgram p layout) (lowered : AreLowered p layout q) (forms : SameForms p layout q limit) (fuel : ℕ)
    (same : SameCalls layout (fueled p limit fuel) (regions_running q limit fuel (λ s. help_slot))) where
  abbrev Called : Callee → Type 0
  Called callee = SameCall layout (fueled p limit (suc fuel)) (regions_running q limit (suc fuel) (λ s. help_slot)) callee

  function_called : (n : ℕ) → n < length p.functions → slice_get q.functions n ≡ Some (lowered_function p layout n) → Called (function n)
  function_called n lt there = go (n == p.main) refl there
    where
      go : (z : Bool) → (n == p.main) ≡ z
          → slice_get q.functions n ≡ Some (if z then main_function p layout (source_function_at p n) else declared_function p layout false false 0 (source_function_at p n)) → Called (function n)
      go true e there =
          let main = is_number n p.main e in
          subst (λ m. Called (function m)) (sym main)
          (main_runs_alike p layout q limit fuel typed.apart same typed.main_result (subst (λ m. slice_get q.functions m ≡ Some (main_function p layout (source_function_at p m))) main there)
          (typed.functions p.main typed.main_there) (forms.functions fuel p.main same typed.main_there) (jumps_stay_in_loops (fueled p limit fuel) (source_function_at p p.main) typed.main_jumps))
      go false e there = functions_run_alike p layout q limit fuel n typed.apart same e (typed.plain n lt) there (typed.functions n lt) (forms.functions fuel n same lt)

  destructor_called : (k : ℕ) → k < length p.classes → (o : Option ℕ) → destructor_place p k ≡ o → slice_get q.functions (number_of p (destructor k)) ≡ Some (lowered_destructor p layout k o)
      → Called (destructor k)
  destructor_called k lt None place there = implicit_destructors_run_alike p layout q limit fuel k typed.apart same place there (forms.members fuel k false [] same lt)
  destructor_called k lt (Some i) place there =
      let h = found (λ f. is_destructor f.kind) (class_at p k).functions 0 i place in
      let number = h.number in
      let is : h.place ≡ i = omega (arith, number) in
      let below = subst (λ m. m < length (class_at p k).functions) is h.there in
      let kind = destructor_kind (method_at p k i).kind (subst (λ m. is_destructor (method_at p k m).kind ≡ true) is h.passes) in
      let (void, none) = typed.destructors k i lt below kind in
      destructors_run_alike p layout q limit fuel k i typed.apart same place kind void none there (typed.methods k i lt below)
      (forms.members fuel k (gives_int (method_at p k i).result) (variables_of (method_at p k i)) same lt)

  called : (callee : Callee) → IsCallable p callee → Called callee
  called (function n) can = function_called n can (lowered.numbered (function n) can)
  called (method k i) can = methods_run_alike p layout q limit fuel k i typed.apart same can.2 (lowered.numbered (method k i) can) (typed.methods k i can.0 can.1) (forms.methods fuel k i same can.0 can.1)
  called (constructor k (declared i)) can =
      let kind = constructor_kind (method_at p k i).kind can.2 in
      let (void, initialised) = typed.constructors k i can.0 can.1 kind in
      constructors_run_alike p layout q limit fuel k i typed.apart same kind void (lowered.numbered (constructor k (declared i)) can) (typed.methods k i can.0 can.1) initialised
      (forms.members fuel k (gives_int (method_at p k i).result) (variables_of (method_at p k i)) same can.0)
  called (constructor k implicit_default) can =
      default_constructors_run_alike p layout q limit fuel k typed.apart same can.1 (lowered.numbered (constructor k implicit_default) can) (λ i t is. part_defaults p k i t can is)
      (forms.members fuel k false [] same can.0)
  called (constructor k implicit_copy) can =
      copy_constructors_run_alike p layout q limit fuel k typed.apart same (typed.named k can) (lowered.numbered (constructor k implicit_copy) can) (λ i t is. part_copies p t (λ j named. typed.parts k i j can (is ∙ ap (λ u. Some u) named)))
      (forms.members fuel k false _ same can)
  called (destructor k) can = destructor_called k can (destructor_place p k) refl (lowered.numbered (destructor k) can)

pub all_calls_do_alike : AllCallsDoAlike
all_calls_do_alike p layout q limit typed lowered forms fuel =
    calls_do_alike p layout q limit (λ fuel same callee can. called p layout q limit typed lowered forms fuel same callee can) fuel

pub regions_mean_the_same : RegionsMeanTheSame
regions_mean_the_same p layout q input replies turns limit typed lowered forms =
    programs_mean_the_same p layout q input replies turns limit lowered.globals lowered.main typed.main_parameters
    (λ at this given words k c w s stands passed.
    all_calls_do_alike p layout q limit typed lowered forms (suc turns) at (function p.main) this given words k c w s typed.main_there stands passed)
