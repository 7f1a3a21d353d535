-- A worked program: how many of its steps pay for turns, and how many count.
use Rattle.std.specs.Prelude.{◌≡◌, refl, pos, [], ◌∷◌, None}
use Rattle.cxx_ast.specs.declared.expression.BinaryOp.TheVariants.{Subtract}
use Rattle.eh_bytes.specs.Spelling.{uleb_spelling, uleb_spelling_within}
use Rattle.meaning_forms.specs.Outcome.{out_of_turns}
use Rattle.meaning_forms.specs.Meaning.{returned, stopped_by}
use Rattle.region_forms.specs.Form.{int_slot, Slot, in_slot, Place, defined, number, load, binary, store, call, no_arguments, op, loop, in_order, Regions}
use Rattle.region_forms.specs.Meaning.{regions_meaning}
use Rattle.linear_forms.specs.Activation.{Code, State}
use Rattle.linear_forms.specs.Unit.{unit_of}
use Rattle.linear_forms.specs.UnitRun.{code_of, first_state}
use Rattle.linear_forms.specs.Pace.{paying, counted}

abbrev variable : Place
variable = record { root = in_slot 0; offset = 0 }

abbrev int : Slot
int = record { kind = int_slot; size = 4 }

-- void f() {}
-- int main() { int i = 2; while (i) { f(); i = i - 1; } }
counts_down : Regions
counts_down = record {
  functions =
      record { name = []; parameters = 0; slots = []; result = None; body = in_order [] } ∷
      record {
        name = [];
        parameters = 0;
        slots = int ∷ [];
        result = None;
        body = in_order (
            op (store variable (number (pos 2))) ∷
            loop (load variable) (in_order (op (call (defined 0) no_arguments) ∷ op (store variable (binary Subtract (load variable) (number (pos 1)))) ∷ [])) ∷ []);
      } ∷ [];
  types = [];
  globals = [];
  tokens = 0;
  main = 1;
}

abbrev down_code : Code
unfolding counts_down uleb_spelling uleb_spelling_within
down_code = code_of (unit_of counts_down)

abbrev down_first : State
unfolding counts_down uleb_spelling uleb_spelling_within
down_first = first_state (unit_of counts_down) [] []

-- It needs six turns: for main, for two calls, and for three tests. All but the first are paid by a step; two calls and two jumps back count.
counts_down-turns :
    ((regions_meaning counts_down [] [] 6 128).main ≡ returned (pos 0)) × ((regions_meaning counts_down [] [] 5 128).main ≡ stopped_by out_of_turns) ×
    (paying down_code 1000 down_first ≡ 5) × (counted down_code 1000 down_first ≡ 4)
unfolding counts_down uleb_spelling uleb_spelling_within
counts_down-turns = (refl, refl, refl, refl)
