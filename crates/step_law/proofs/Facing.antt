-- What facts and a plan give the laws of raises, wherever the run is.
use Rattle.std.proofs.Common.{◌≡◌, ◌∙◌, sym, ap, subst, ℕ, ◌<◌, ◌≤◌, List, [], ◌∷◌, length, arith}
use Rattle.cxa_runtime.specs.World as abi
use Rattle.region_forms.specs.Caught.{Entry}
use Rattle.region_forms.specs.Effect.{newest_of}
use Rattle.region_forms.specs.World.{Exception, building, native, foreign, exception_type}
use Rattle.linear_forms.specs.Activation.{State, Code}
use Rattle.linear_forms.specs.UnitRun.{code_of}
use Rattle.flight_homes.specs.Keeps.{Carrying}
use Rattle.flight_homes.specs.Lives.{ExceptionKnown, known_in}
use Rattle.linear_invariant.specs.Calls.{Marks}
use Rattle.linear_invariant.specs.Handled.{AllBuilt}
use Rattle.linear_invariant.specs.Stands.{StandsIn}
use Rattle.linear_invariant.proofs.Given.{built_number}
use Rattle.machine_simulation.specs.Plan.{Plan}
use Rattle.table_verdicts.specs.Asked.{ListsNameTypes}
use Rattle.table_verdicts.specs.Types.{ChainEnds}
use Rattle.image_tables.specs.Functions.{records_end}
use Rattle.image_tables.specs.Read.{IsImageOf}
use Rattle.machine_raises.specs.Resumes.{TypeIsThere}
use Rattle.machine_raises.specs.Stacks.{table_of, IsRunning}
use Rattle.step_law.specs.Facts.{regions_for, code_for, Facts}
use Rattle.step_law.specs.Standing.{StandsBy}
use Rattle.step_law.specs.Rows.{Run}

module _ (x : Run) (q : Plan) (before : ℕ) (st : State) (w : abi.World) (facts : Facts x.program x.image x.carrying x.tables) (stands : StandsBy x.program x.image x.carrying x.tables q before st w) where
  pub runs_image : IsRunning q x.image w.hart
  runs_image = record {
    image = subst (λ u. IsImageOf u x.image) (sym stands.unit) facts.image;
    lists = subst ListsNameTypes (sym stands.unit) facts.lists;
    base = stands.base ∙ ap records_end (sym stands.unit);
    tables = λ m less. ap (λ t. t m) stands.tables_are ∙ facts.tables_are m (subst (λ u. m < length u.functions) stands.unit less) ∙ ap (λ u. table_of u x.image m) (sym stands.unit);
    run = stands.frozen;
  }

  pub code_same : code_of q.unit ≡ code_for x.program
  code_same = ap code_of stands.unit

  pub type_known : (y : Exception) → ExceptionKnown (known_in (regions_for x.program)) y → TypeIsThere q (exception_type y)
  type_known building h = tt
  type_known (native t d kept) h = subst (λ u. (t < length u.types) × ChainEnds u.types t) (sym stands.unit) (h.0, facts.chains t h.0)
  type_known (foreign k token) h = tt

-- the newest exception that is handled was made
pub newest_made : (marks : Marks) (code : Code) (k : Carrying) (steps : ℕ) (st : State) → StandsIn marks code k steps st → newest_of st.world.caught ≤ st.world.last_number
newest_made marks code k steps st h = by st.world.caught h.world.built
  where
    by : (xs : List Entry) → AllBuilt st.world xs → newest_of xs ≤ st.world.last_number
    by [] built = omega arith
    by (y ∷ ys) built = (built_number marks.known st.world.last_number st.world.live y.number h.lives.lives built.0).1
