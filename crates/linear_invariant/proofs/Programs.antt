-- The code of every well-formed program is as asked.
use Rattle.std.proofs.Common.{◌≡◌, ◌⊎◌, inl, inr, ℕ, ◌+◌, ℤ, true, false, ◌==◌, List, [], ◌∷◌, length, Option, Some, None, refl, sym, ap, ◌∙◌, subst, arith}
use Rattle.std.specs.Prelude.{slice_get, ◌<◌}
use Rattle.std.proofs.lemmas.Bool.Decides.{nat_tests}
use Rattle.region_forms.specs.Form.{help_slot, kinds_of, Op, evaluate, store, bind, call, construct, destroy, make, throw, rethrow, enter, leave, RegionFunction, Regions}
use Rattle.region_forms.specs.Ending.{bad_row}
use Rattle.region_forms.specs.WellFormed.{function_test, is_well_formed}
use Rattle.linear_forms.specs.Linear.{FunctionCode, LinearOp, plain, label, jump, jump_zero, pad, jump_filter, free, resume, unexpected, return}
use Rattle.linear_forms.specs.Tables.{bare, padded, look_up, label_place}
use Rattle.linear_forms.specs.Verdict.{Verdict, target, clean, pad_verdict}
use Rattle.linear_forms.specs.Emission.{Emitting}
use Rattle.linear_forms.specs.Unit.{emitting, function_code, unit_of}
use Rattle.linear_forms.specs.UnitRun.{code_at, code_of}
use Rattle.linear_forms.specs.Activation.{Code}
use Rattle.linear_forms.proofs.Standing.{functions_stand}
use Rattle.cost_paths.specs.Control.{place_of}
use Rattle.exceptions_in_flight.specs.Carrying.{CarriesOn, Steps}
use Rattle.flight_homes.specs.Helps.{LinearHelps}
use Rattle.flight_homes.specs.Homes.{is_one_of, GoesOnAs, AreHomes}
use Rattle.flight_homes.specs.Keeps.{Carrying}
use Rattle.flight_homes.specs.Laws.{AreCarrying}
use Rattle.flight_homes.specs.Lives.{CodeKnown, anything, known_in}
use Rattle.flight_homes.specs.Whole.{BindsWhole}
use Rattle.flight_homes.specs.WholeCalls.{CodeWhole}
use Rattle.flight_homes.proofs.Bound.{binds_are_whole}
use Rattle.flight_homes.proofs.Helps.{slots_are_help}
use Rattle.flight_homes.proofs.Names.{code_is_known}
use Rattle.flight_homes.proofs.Programs.{every_one, all_formed, code_is, programs_carry}
use Rattle.flight_homes.proofs.Refers.{regions_refer}
use Rattle.linear_invariant.specs.Code.{StepsTo, carries_on, NamesHelp, OpStarts, CodeCarries, CodeFits}
use Rattle.linear_invariant.specs.Stands.{ProgramsFit}
use Rattle.linear_invariant.proofs.Refined.{places_of, ends_there, stays_there, behind_pads, quiet_places, filters_named, fewer_homes}
use Rattle.linear_invariant.proofs.Starts.{alone_starts, empty, no_code_there, op_begins, op_starts}
use Rattle.linear_invariant.proofs.Tested.{function_calls}

-- what can be carried on

carries : (em : Emitting) (o : LinearOp) → CarriesOn em o → carries_on o ≡ true
carries em (plain (evaluate v)) h = absurd h
carries em (plain (store q v)) h = absurd h
carries em (plain (bind s q)) h = absurd h
carries em (plain (call b args)) h = absurd h
carries em (plain (construct q n args)) h = absurd h
carries em (plain (destroy q n)) h = refl
carries em (plain (make s)) h = absurd h
carries em (plain (throw s t d)) h = absurd h
carries em (plain rethrow) h = absurd h
carries em (plain (enter s)) h = absurd h
carries em (plain leave) h = refl
carries em (label l) h = refl
carries em (jump l) h = absurd h
carries em (jump_zero v l) h = absurd h
carries em (pad o s) h = absurd h
carries em (jump_filter s z l) h = refl
carries em (free s) h = refl
carries em (resume s) h = refl
carries em (unexpected o s) h = refl
carries em (return r) h = absurd h

names_help : (g : FunctionCode) (o : LinearOp) → LinearHelps g o → NamesHelp (kinds_of g.slots) o
names_help g (plain (evaluate v)) h = tt
names_help g (plain (store q v)) h = tt
names_help g (plain (bind s q)) h = tt
names_help g (plain (call b args)) h = tt
names_help g (plain (construct q n args)) h = tt
names_help g (plain (destroy q n)) h = tt
names_help g (plain (make s)) h = tt
names_help g (plain (throw s t d)) h = h.help
names_help g (plain rethrow) h = tt
names_help g (plain (enter s)) h = h.help
names_help g (plain leave) h = tt
names_help g (label l) h = tt
names_help g (jump l) h = tt
names_help g (jump_zero v l) h = tt
names_help g (pad o s) h = tt
names_help g (jump_filter s z l) h = tt
names_help g (free s) h = h.help
names_help g (resume s) h = tt
names_help g (unexpected o s) h = tt
names_help g (return r) h = tt

module _ (r : Regions) where
  abbrev code : Code
  code = code_of (unit_of r)

  -- the function whose operation is at a place
  record Placed (n p : ℕ) (o : LinearOp) : Type 0 where
    body : RegionFunction
    there : slice_get r.functions n ≡ Some body
    code_there : code_at (unit_of r) n ≡ function_code body
    op : slice_get (function_code body).ops p ≡ Some o

  placed : (n p : ℕ) (o : LinearOp) → code.op_at n p ≡ Some o → Placed n p o
  placed n p o e = go (slice_get r.functions n) refl
    where
      go : (f : Option RegionFunction) → slice_get r.functions n ≡ f → Placed n p o
      go None i = empty p o (subst (λ g. slice_get g.ops p ≡ Some o) (no_code_there r n i) e)
      go (Some f) i = record { body = f; there = i; code_there = code_is r n f i; op = subst (λ g. slice_get g.ops p ≡ Some o) (code_is r n f i) e }

  -- the function that a place's cover is of
  record Covered (n p q : ℕ) (chain : List ℤ) : Type 0 where
    body : RegionFunction
    there : slice_get r.functions n ≡ Some body
    code_there : code_at (unit_of r) n ≡ function_code body
    covers : look_up (function_code body).sites p ≡ padded q chain

  covered : (n p q : ℕ) (chain : List ℤ) → code.cover_at n p ≡ padded q chain → Covered n p q chain
  covered n p q chain e = go (slice_get r.functions n) refl
    where
      go : (f : Option RegionFunction) → slice_get r.functions n ≡ f → Covered n p q chain
      go None i = let never : bare ≡ padded q chain = subst (λ g. look_up g.sites p ≡ padded q chain) (no_code_there r n i) e in absurd (cc never)
      go (Some f) i = record { body = f; there = i; code_there = code_is r n f i; covers = subst (λ g. look_up g.sites p ≡ padded q chain) (code_is r n f i) e }

  -- where each function that is there has homes, and none else carries
  module _ (formed : is_well_formed r ≡ true) (k : Carrying) (h : AreCarrying r k) (places : (n p : ℕ) → k.carries n p ≡ places_of (code_at (unit_of r) n).ops p) where
    abbrev Right : ℕ → RegionFunction → Type 0
    Right n f = AreHomes r.types (code.sense_at n) f (k.carries n) (k.home n) (k.left n)

    tests : (n : ℕ) (f : RegionFunction) → slice_get r.functions n ≡ Some f → function_test r f ≡ true
    tests n f e = every_one (function_test r) r.functions n f (all_formed r formed) e

    module _ (n p : ℕ) (o : LinearOp) (e : code.op_at n p ≡ Some o) where
      abbrev it : Placed n p o
      it = placed n p o e

      homes : Right n (placed n p o e).body
      homes = h.homes n (placed n p o e).body (placed n p o e).there

      slots : (k.object n ≡ (emitting (placed n p o e).body).object) × (k.selector n ≡ (emitting (placed n p o e).body).selector)
      slots = h.slots n (placed n p o e).body (placed n p o e).there

      place_is : (l : ℕ) → place_of (function_code (placed n p o e).body) l ≡ code.label_at n l
      place_is l = ap (λ g. label_place g.ops l 0) (sym (placed n p o e).code_there)

      steps : (q : ℕ) → StepsTo code n p o q → Steps (function_code (placed n p o e).body) p o q
      steps q (inl i) = inl i
      steps q (inr i) = inr (i.0, i.1, i.2 ∙ sym (place_is i.0))

      helps : LinearHelps (function_code (placed n p o e).body) o
      helps = slots_are_help r (placed n p o e).body (tests n (placed n p o e).body (placed n p o e).there) p o (placed n p o e).op

      -- where it carries
      places_there : (q : ℕ) → k.carries n q ≡ places_of (function_code (placed n p o e).body).ops q
      places_there q = places n q ∙ ap (λ g. places_of g.ops q) (placed n p o e).code_there

      -- the kinds of the function's slots
      kinds_are : (s : ℕ) → code.kinds_at n s ≡ kinds_of (function_code (placed n p o e).body).slots s
      kinds_are s = ap (λ g. kinds_of g.slots s) (placed n p o e).code_there

    comes : (n p q : ℕ) (o : LinearOp) → code.op_at n p ≡ Some o → StepsTo code n p o q → k.carries n q ≡ true → (k.carries n p ≡ true) ⊎ (o ≡ pad (k.object n) (k.selector n))
    comes n p q o e s there = go ((homes n p o e).flights.comes p q o (placed n p o e).op (steps n p o e q s) there)
      where
        go : (k.carries n p ≡ true) ⊎ ((o ≡ pad (emitting (placed n p o e).body).object (emitting (placed n p o e).body).selector) × (q ≡ p + 1)) → (k.carries n p ≡ true) ⊎ (o ≡ pad (k.object n) (k.selector n))
        go (inl i) = inl i
        go (inr i) = inr (i.0 ∙ ap (λ a. pad a (emitting (placed n p o e).body).selector) (sym (slots n p o e).0) ∙ ap (pad (k.object n)) (sym (slots n p o e).1))

    first : (n : ℕ) → k.carries n 0 ≡ false
    first n = go (slice_get r.functions n) refl
      where
        go : (o : Option RegionFunction) → slice_get r.functions n ≡ o → k.carries n 0 ≡ false
        go None e = places n 0 ∙ ap (λ g. places_of g.ops 0) (no_code_there r n e)
        go (Some f) e = (h.homes n f e).flights.first

    pads : (n p o s : ℕ) → code.op_at n p ≡ Some (pad o s) → (o ≡ k.object n) × (s ≡ k.selector n) × ((s == o) ≡ false)
    pads n p o s e =
        let is = (homes n p (pad o s) e).flights.pads p o s (placed n p (pad o s) e).op in
        let object = is.0 in
        let selector = is.1 in
        (is.0 ∙ sym (slots n p (pad o s) e).0, is.1 ∙ sym (slots n p (pad o s) e).1, apart o s (length (placed n p (pad o s) e).body.slots) object selector)
      where
        apart : (o s m : ℕ) → o ≡ m → s ≡ m + 1 → (s == o) ≡ false
        apart o s m i j = grind (arith, nat_tests, i, j)

    lets_on : (n p q : ℕ) (chain : List ℤ) (t : Option ℕ) (v : Verdict) → code.cover_at n p ≡ padded q chain → pad_verdict r.types (code.sense_at n) chain t ≡ v →
        ((z : ℤ) → v ≡ target z → is_one_of z (k.left n (q + 1)) ≡ false) → ((v ≡ clean) ⊎ ((z : ℤ) × (v ≡ target z))) → GoesOnAs r.types (code.sense_at n) t v (code.cover_at n (k.home n (q + 1)))
    lets_on n p q chain t v e judged other entered =
        let it = covered n p q chain e in
        subst (λ g. GoesOnAs r.types (code.sense_at n) t v (look_up g.sites (k.home n (q + 1)))) (sym it.code_there) ((h.homes n it.body it.there).lets_on p q chain t v it.covers judged other entered)

    object_help : (n : ℕ) → code.kinds_at n (k.object n) ≡ help_slot
    object_help n = go (slice_get r.functions n) refl
      where
        go : (o : Option RegionFunction) → slice_get r.functions n ≡ o → code.kinds_at n (k.object n) ≡ help_slot
        go None e = ap (λ g. kinds_of g.slots (k.object n)) (no_code_there r n e)
        go (Some f) e = ap (code.kinds_at n) (h.slots n f e).0 ∙ (functions_stand r n f e).behind.object_kind

    selector_help : (n : ℕ) → code.kinds_at n (k.selector n) ≡ help_slot
    selector_help n = go (slice_get r.functions n) refl
      where
        go : (o : Option RegionFunction) → slice_get r.functions n ≡ o → code.kinds_at n (k.selector n) ≡ help_slot
        go None e = ap (λ g. kinds_of g.slots (k.selector n)) (no_code_there r n e)
        go (Some f) e = ap (code.kinds_at n) (h.slots n f e).1 ∙ (functions_stand r n f e).behind.selector_kind

    code_carries : CodeCarries code k
    code_carries = record {
      first = first;
      form = λ n p o e there. carries (emitting (placed n p o e).body) o ((homes n p o e).flights.form p o (placed n p o e).op there);
      comes = comes;
      pads = pads;
      resumes = λ n p s e. let is = (homes n p (resume s) e).flights.resumes p s (placed n p (resume s) e).op in (is.0, is.1 ∙ sym (slots n p (resume s) e).0);
      passes = λ n p o s e.
          let is = (homes n p (unexpected o s) e).flights.passes p o s (placed n p (unexpected o s) e).op in
          (is.0, is.1 ∙ sym (slots n p (unexpected o s) e).0, is.2 ∙ sym (slots n p (unexpected o s) e).1);
      filters = λ n p s l z e.
          let it = placed n p (jump_filter s z l) e in places_there n p (jump_filter s z l) e p ∙ ends_there it.body p (jump_filter s z l) it.op refl;
      on = λ n p o e here goes.
          let it = placed n p o e in places_there n p o e (p + 1) ∙ stays_there it.body p o it.op (sym (places_there n p o e p) ∙ here) goes;
      behind = λ n p o s e. let it = placed n p (pad o s) e in places_there n p (pad o s) e (p + 1) ∙ behind_pads it.body p o s it.op;
      quiet = λ n p o e here.
          let it = placed n p (plain o) e in
          subst (λ g. look_up g.sites p ≡ bare) (sym it.code_there) (quiet_places it.body p o it.op (sym (places_there n p (plain o) e p) ∙ here));
      named = λ n p s l z e. let it = placed n p (jump_filter s z l) e in filters_named it.body p s l z it.op;
      ends = λ n p s e. (homes n p (resume s) e).ends p s (placed n p (resume s) e).op;
      stays = λ n p q o e s here next. (homes n p o e).stays p q o (placed n p o e).op (steps n p o e q s) here next;
      tests = λ n p s l z e here. (
        (homes n p (jump_filter s z l) e).flights.form p (jump_filter s z l) (placed n p (jump_filter s z l) e).op here ∙ sym (slots n p (jump_filter s z l) e).1,
        (homes n p (jump_filter s z l) e).tests p s l z (placed n p (jump_filter s z l) e).op here,
      );
      taken = λ n p s l z e here next.
          let same = place_is n p (jump_filter s z l) e l in
          subst (λ q. k.left n q ≡ z ∷ []) same ((homes n p (jump_filter s z l) e).taken p s l z (placed n p (jump_filter s z l) e).op here (ap (k.carries n) same ∙ next));
      others = λ n p o e here goes other. (homes n p o e).others p o (placed n p o e).op here goes other;
      lets_on = lets_on;
      object = object_help;
      selector = selector_help;
      helps = λ n p o e. subst (λ g. NamesHelp (kinds_of g.slots) o) (sym (placed n p o e).code_there) (names_help (function_code (placed n p o e).body) o (helps n p o e));
    }

    calls_fit : (n p : ℕ) (o : Op) → code.op_at n p ≡ Some (plain o) → OpStarts code o
    calls_fit n p o e = let it = placed n p (plain o) e in op_starts r o (function_calls r it.body (tests n it.body it.there) p o it.op)

    code_whole : CodeWhole code
    code_whole = record {
      binds = λ n p o e.
          let it = placed n p (plain o) e in
          subst (λ g. BindsWhole (kinds_of g.slots) o) (sym it.code_there) (binds_are_whole r it.body (tests n it.body it.there) (regions_refer r it.body (tests n it.body it.there)) p o it.op);
      begins = λ n p o e. op_begins r o (calls_fit n p o e);
      passes = λ n p o s e. (kinds_are n p (unexpected o s) e o ∙ (helps n p (unexpected o s) e).0.help, kinds_are n p (unexpected o s) e s ∙ (helps n p (unexpected o s) e).1.help);
    }

    program_fits : bad_row < length r.types → CodeKnown anything code → CodeFits (known_in r) code k
    program_fits bad takes = record {
      names = code_is_known r formed bad takes;
      carries = code_carries;
      whole = code_whole;
      starts = calls_fit;
      destructors = λ n known x. alone_starts r n known x;
    }

-- places that stand behind pads
module _ (r : Regions) (k : Carrying) where
  abbrev fewer : Carrying
  fewer = record { carries = λ n. places_of (code_at (unit_of r) n).ops; home = k.home; left = k.left; object = k.object; selector = k.selector }

  fewer_carry : AreCarrying r k → AreCarrying r fewer
  fewer_carry h = record {
    homes = λ n f e.
        subst (λ g. AreHomes r.types ((code_of (unit_of r)).sense_at n) f (places_of g.ops) (k.home n) (k.left n)) (sym (code_is r n f e))
        (fewer_homes f r.types ((code_of (unit_of r)).sense_at n) (k.carries n) (k.home n) (k.left n) (h.homes n f e));
    slots = h.slots;
  }

pub programs_fit : ProgramsFit
programs_fit r formed bad takes =
    let found = programs_carry r formed in
    let k = fewer r found.0 in
    (k, (fewer_carry r found.0 found.1, program_fits r formed k (fewer_carry r found.0 found.1) (λ n p. refl) bad takes))
