-- An exception that travels is known on the machine, and so is its target.
use Rattle.std.proofs.Common.{◌≡◌, ◌∙◌, refl, sym, ap, arith, ℕ, false, List, [], ◌∷◌, ◌++◌, length, length-append, map, Option, Some, None, option_map, inl, inr}
use Rattle.std.specs.Prelude.{◌⊎◌, ◌≢◌}
use Rattle.std.specs.List.{AllByRecursion}
use Rattle.std.proofs.lemmas.List.{length-map}
use Rattle.table_forms.specs.declared.found.Verdict as found_verdict
use Rattle.table_forms.specs.Fde.{Fde}
use Rattle.table_forms.specs.Verdict as thrown_things
use Rattle.rv64_isa.specs.State.{State}
use Rattle.elf_image.specs.Clean.{CleanImage}
use Rattle.caught_stack.specs.declared.header.Header.{Header}
use Rattle.cxa_runtime.specs.Raising.{thrown_of}
use Rattle.cxa_runtime.specs.Types.{type_records}
use Rattle.region_forms.specs.World.{Exception, building, native, foreign, exception_type}
use Rattle.linear_forms.specs.Tables.{bare, padded}
use Rattle.linear_forms.specs.Activation.{Code, Activation}
use Rattle.image_forms.specs.Linkable.{BaseIsThere}
use Rattle.image_forms.specs.Placed.{record_at}
use Rattle.table_verdicts.specs.Types.{with_bases, thrown_as}
use Rattle.image_tables.specs.Functions.{records_end}
use Rattle.image_tables.proofs.TypesRead.{types_are_read}
use Rattle.raise_simulation.specs.Verdicts.{cover_of, judged_by}
use Rattle.raise_simulation.specs.Opens.{Open, activations, IsFirst, IsBarred}
use Rattle.raise_simulation.specs.Resumes.{IsTarget}
use Rattle.machine_simulation.specs.Plan.{Plan}
use Rattle.machine_simulation.specs.Exceptions.{addresses_of, HeaderIs}
use Rattle.machine_exceptions.specs.Enters.{IsThrown}
use Rattle.machine_raises.specs.Stacks.{IsRunning}
use Rattle.exceptions_in_flight.specs.Targets.{HasTarget}
use Rattle.machine_raises.specs.Resumes.{TypeIsThere}

-- ---- what the runtime throws
pub type_base : (p : Plan) (t : Option ℕ) → TypeIsThere p t → BaseIsThere (length p.unit.types) t
type_base p None h = tt
type_base p (Some t) h = h.0

pub thrown_known : (p : Plan) (i : CleanImage) (s : State) (x : Exception) (h : Header) → IsRunning p i s → IsThrown x → TypeIsThere p (exception_type x) → HeaderIs (addresses_of p) false x h →
    thrown_of s h.kind ≡ Some (thrown_as (records_end p.unit) p.unit.types (exception_type x))
thrown_known p i s building h running thrown there is = absurd thrown
thrown_known p i s (native t d kept) h running thrown there is =
    let types = map (record_at (records_end p.unit)) (with_bases p.unit.types t) in
    let read : type_records s (record_at p.base t) ≡ Some types = ap (λ b. type_records s (record_at b t)) running.base ∙ types_are_read p.unit i s t running.image running.run there.0 there.1 in
    ap (thrown_of s) is.0.1 ∙ ap (option_map thrown_things.native) read
thrown_known p i s (foreign k token) h running thrown there is = ap (thrown_of s) is

-- ---- its target among open calls
module _ (code : Code) (t : Option ℕ) (d : ℕ) (tail : List Activation) (ends : (first : Activation) (others : List Activation) → tail ≡ first ∷ others → cover_of code first ≡ bare) where
  target_there : (opens : List Open) (inner : List Activation) (stopping : Activation) (outer : List Activation) → activations opens ++ tail ≡ inner ++ stopping ∷ outer → AllByRecursion (λ b. cover_of code b ≢ bare) inner →
      (target : HasTarget code t d (inner ++ stopping ∷ outer)) → target.stopping ≡ stopping → target.outer ≡ outer → IsTarget code t d (length tail) opens
  target_there [] [] stopping outer split passed h same others =
      absurd (let both : padded h.pad h.chain ≡ bare = sym h.covers ∙ ap (cover_of code) same ∙ ends stopping outer split in cc both)
  target_there [] (b ∷ inner) stopping outer split passed h same others = absurd (passed.0 (ends b (inner ++ stopping ∷ outer) split))
  target_there (o ∷ opens) [] stopping outer split passed h same others =
      let here : o.activation ≡ stopping = cc split in
      let rest : activations opens ++ tail ≡ outer = cc split in
      record {
        inner = [];
        stopping = o;
        outer = opens;
        split = refl;
        depth = omega (arith, h.depth, ap length others, ap length rest, length-append (activations opens) tail, length-map opens (λ y. y.activation));
        pad = h.pad;
        chain = h.chain;
        covers = ap (cover_of code) (here ∙ sym same) ∙ h.covers;
        selector = h.selector;
        stops = ap (λ y. judged_by code y t h.chain) (here ∙ sym same) ∙ h.stops;
      }
  target_there (o ∷ opens) (b ∷ inner) stopping outer split passed h same others =
      let rest : activations opens ++ tail ≡ inner ++ stopping ∷ outer = cc split in
      let less : HasTarget code t d (inner ++ stopping ∷ outer) = record {
        inner = inner;
        stopping = stopping;
        outer = outer;
        split = refl;
        passed = passed.1;
        depth = sym (ap length others) ∙ h.depth;
        pad = h.pad;
        chain = h.chain;
        covers = sym (ap (cover_of code) same) ∙ h.covers;
        selector = h.selector;
        stops = sym (ap (λ y. judged_by code y t h.chain) same) ∙ h.stops;
      } in
      let more = target_there opens inner stopping outer rest passed.1 less refl refl in
      record { inner = o ∷ more.inner; stopping = more.stopping; outer = more.outer; split = ap (λ os. o ∷ os) more.split; depth = more.depth; pad = more.pad; chain = more.chain; covers = more.covers; selector = more.selector; stops = more.stops }

pub is_target : (code : Code) (t : Option ℕ) (fdes : List Fde) (say : ℕ → found_verdict.Verdict) (ip d : ℕ) (opens : List Open) (tail frames : List Activation) → activations opens ++ tail ≡ frames → IsFirst fdes say ip tail ⊎ IsBarred code say ip tail →
    HasTarget code t d frames → IsTarget code t d (length tail) opens
is_target code t fdes say ip d opens tail frames are ends h =
    let whole : HasTarget code t d (h.inner ++ h.stopping ∷ h.outer) = record {
      inner = h.inner;
      stopping = h.stopping;
      outer = h.outer;
      split = refl;
      passed = h.passed;
      depth = h.depth;
      pad = h.pad;
      chain = h.chain;
      covers = h.covers;
      selector = h.selector;
      stops = h.stops;
    } in
    target_there code t d tail (bars ends) opens h.inner h.stopping h.outer (are ∙ h.split) h.passed whole refl refl
  where
    bars : IsFirst fdes say ip tail ⊎ IsBarred code say ip tail → (first : Activation) (others : List Activation) → tail ≡ first ∷ others → cover_of code first ≡ bare
    bars (inl f) first others is = let both : [] ≡ first ∷ others = sym f.none ∙ is in absurd (cc both)
    bars (inr b) first others is =
        let both : b.first ∷ b.others ≡ first ∷ others = sym b.is ∙ is in
        let same : b.first ≡ first = cc both in
        sym (ap (cover_of code) same) ∙ b.bars
