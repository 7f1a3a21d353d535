-- What a specification stopped stays handled, in every run of a program.
use Rattle.std.proofs.Common.{◌≡◌, ◌∙◌, refl, ap, arith, ℕ, ◌+◌, ◌==◌, ◌||◌, Bool, true, false, List, [], ◌∷◌, Some, None, if◌then◌else◌}
use Rattle.std.specs.Prelude.{nat_le}
use Rattle.std.proofs.lemmas.Bool.Decides.{nat_tests}
use Rattle.eh_outer.specs.declared.module.Reply.{Reply}
use Rattle.cxx_ast.specs.Plain.{Checked}
use Rattle.meaning_forms.specs.Class.{some_of}
use Rattle.region_forms.specs.Caught.{Entry}
use Rattle.region_forms.specs.World.{World, exception_of, exception_in_slot, exception_at}
use Rattle.linear_forms.specs.Activation.{Activation, State, goes_to}
use Rattle.linear_forms.specs.Pace.{Leads}
use Rattle.linear_forms.specs.UnitRun.{first_state}
use Rattle.flight_homes.specs.Keeps.{Carrying}
use Rattle.flight_homes.specs.Lives.{known_in}
use Rattle.linear_invariant.specs.Calls.{unmarked}
use Rattle.linear_invariant.specs.Code.{CodeFits}
use Rattle.linear_invariant.specs.Handled.{open_handlers}
use Rattle.linear_invariant.specs.Stands.{StandsIn}
use Rattle.kept_handlers.specs.Handlers.{handled_at, IsStopped}
use Rattle.kept_handlers.proofs.LoweredPrograms.{lowered_are_in_step}
use Rattle.kept_handlers.proofs.Programs.{programs_open}
use Rattle.kept_handlers.proofs.Runs.{first_opens, leads_open}
use Rattle.source_bounds.specs.Compiled.{unit_for}
use Rattle.region_forms.specs.Layout.{layout_of}
use Rattle.step_law.specs.Facts.{regions_for, code_for}
use Rattle.step_law.specs.Handled.{HandlesStopped}
use Rattle.step_law.specs.Standing.{HandlersStay}

-- where a program begins
pub first_handled : (p : Checked) (input : List ℕ) (replies : List (List Reply)) → HandlersStay p (first_state (unit_for p) input replies)
first_handled p input replies =
    let opens = programs_open (regions_for p) (lowered_are_in_step p (layout_of p)) in
    record { depths = opens.0; code = opens.1; state = first_opens (unit_for p) opens.0 input replies opens.1 }

-- behind any number of steps
pub leads_handled : (p : Checked) (k : Carrying) (n before : ℕ) (st next : State) → CodeFits (known_in (regions_for p)) (code_for p) k → StandsIn (unmarked (known_in (regions_for p))) (code_for p) k before st → HandlersStay p st →
    Leads (code_for p) n st (goes_to next) → HandlersStay p next
leads_handled p k n before st next fits stands h leads =
    record { depths = h.depths; code = h.code; state = leads_open (regions_for p) k h.depths before n st next fits h.code stands h.state leads }

-- the exception of a handler has an entry
has_entry : (k e : ℕ) (xs : List Entry) → handled_at k xs ≡ Some e → some_of (λ y. y.number == e) xs ≡ true
has_entry k e [] h = absurd (cc h)
has_entry k e (x ∷ xs) h = by (nat_le (open_handlers xs) k) (nat_le k (open_handlers xs + x.more)) h (has_entry k e xs)
  where
    this : (n : ℕ) → n ≡ e → (n == e) ≡ true
    this n is = grind (arith, nat_tests, is)

    behind : (b : Bool) → some_of (λ y. y.number == e) xs ≡ true → (b || some_of (λ y. y.number == e) xs) ≡ true
    behind true is = refl
    behind false is = is

    by : (b c : Bool) → (if b then (if c then Some x.number else None) else handled_at k xs) ≡ Some e → (handled_at k xs ≡ Some e → some_of (λ y. y.number == e) xs ≡ true) → ((x.number == e) || some_of (λ y. y.number == e) xs) ≡ true
    by true true h rest = let same : x.number ≡ e = cc h in ap (λ b. b || some_of (λ y. y.number == e) xs) (this x.number same)
    by true false h rest = absurd (cc h)
    by false c h rest = behind (x.number == e) (rest h)

-- what call_unexpected has
pub handles : (a : Activation) (older : ℕ) (w : World) → IsStopped a older w → HandlesStopped a.frame w
handles a older w s =
    let held : exception_in_slot a.frame 0 ≡ s.number = ap exception_of s.object in
    record {
      type = s.type;
      destructor = s.destructor;
      kept = s.kept;
      native = ap (exception_at w) held ∙ s.native;
      handled = ap (λ e. some_of (λ y. y.number == e) w.caught) held ∙ has_entry older s.number w.caught s.handled;
    }
