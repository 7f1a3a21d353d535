-- How small the frame of a plain function is.
use Rattle.std.proofs.Common.{◌≡◌, ◌∙◌, refl, sym, ap, arith, ℕ, suc, ◌+◌, ◌*◌, ◌≤◌, ◌==◌, Bool, true, false, nat_le, List, [], ◌∷◌, ◌++◌, length, map, replicate, Option, Some, None, append_assoc, if◌then◌else◌}
use Rattle.std.specs.Prelude.{slice_get, is_some, pos}
use Rattle.std.specs.List.{AllByRecursion}
use Rattle.std.proofs.lemmas.Bool.Decides.{nat_tests}
use Rattle.cxx_ast.specs.Plain.{Checked, Class, Function}
use Rattle.region_forms.specs.Form.{Slot, RegionFunction}
use Rattle.region_forms.specs.Layout.{Layout, layout_of}
use Rattle.region_forms.specs.LowerProgram.{help, own_slots, slot_for, declared_function}
use Rattle.region_forms.specs.Numbering.{variables_of}
use Rattle.linear_forms.specs.Frame.{has_pad, slot_bytes}
use Rattle.linear_forms.specs.Linear.{FunctionCode}
use Rattle.linear_forms.specs.Unit.{function_code}
use Rattle.landing_pads.specs.Frames.{between_calls, most_of, AllSourceFramesFit}
use Rattle.landing_pads.specs.Numbered.{VariablesAreNumbered}
use Rattle.landing_pads.proofs.CheckedFrames.{checked_numbered}
use Rattle.landing_pads.proofs.Framed.{bytes_append, source_bytes}
use Rattle.machine_forms.specs.Kept.{kept_slots}
use Rattle.machine_forms.specs.Immediate.{immediate}
use Rattle.machine_forms.specs.KeptCode.{register_among, register_of, one_saved, save_moves}
use Rattle.machine_forms.specs.KeptLaws.{IsKept, AllVariablesAreKept, FramesAreSmall}
use Rattle.machine_forms.specs.Emitted.{shape_of}
use Rattle.machine_forms.specs.Registers.{saved_registers}
use Rattle.machine_forms.specs.Shape.{Shape, prologue, slot_offset}
use Rattle.source_bounds.specs.KeptFrames.{IsPlain, unkept_bytes, CfaIsWithin, FrameIsSmall, KeptFramesAreSmall}
use Rattle.source_bounds.proofs.Calm.{plain_unpadded}

-- ---- the bytes of kept variables

-- how many numbers are not below another one
abbrev later : List ℕ → ℕ → ℕ
later [] s = 0
later (k ∷ ks) s = (if nat_le s k then 1 else 0) + later ks s

one_at_most : (b : Bool) → (if b then 1 else 0) ≤ 1
one_at_most true = omega arith
one_at_most false = omega arith

later_few : (ks : List ℕ) (s : ℕ) → later ks s ≤ length ks
later_few [] s = omega arith
later_few (k ∷ ks) s = omega (arith, one_at_most (nat_le s k), later_few ks s)

fewer : (s k : ℕ) → (if nat_le (s + 1) k then 1 else 0) ≤ (if nat_le s k then 1 else 0)
fewer s k = go (nat_le (s + 1) k) (nat_le s k) refl refl
  where
    go : (a b : Bool) → nat_le (s + 1) k ≡ a → nat_le s k ≡ b → (if a then 1 else 0) ≤ (if b then 1 else 0)
    go false b e f = omega arith
    go true true e f = omega arith
    go true false e f = absurd (grind (arith, nat_tests, e, f))

later_less : (ks : List ℕ) (s : ℕ) → later ks (s + 1) ≤ later ks s
later_less [] s = omega arith
later_less (k ∷ ks) s = omega (arith, fewer s k, later_less ks s)

-- one of them is the number of a kept slot
later_is : (rs ks : List ℕ) (s r : ℕ) → register_among rs ks s ≡ Some r → later ks (s + 1) + 1 ≤ later ks s
later_is [] ks s r e = absurd (cc e)
later_is (q ∷ rs) [] s r e = absurd (cc e)
later_is (q ∷ rs) (k ∷ ks) s r e = by (later_is rs ks s r) (k == s) refl e
  where
    by : (register_among rs ks s ≡ Some r → later ks (s + 1) + 1 ≤ later ks s) → (b : Bool) → (k == s) ≡ b → (if b then Some q else register_among rs ks s) ≡ Some r → later (k ∷ ks) (s + 1) + 1 ≤ later (k ∷ ks) s
    by more true is f =
        let here : nat_le s k ≡ true = grind (arith, nat_tests, is) in
        let gone : nat_le (s + 1) k ≡ false = grind (arith, nat_tests, is) in
        let now : later (k ∷ ks) s ≡ 1 + later ks s = ap (λ b. (if b then 1 else 0) + later ks s) here in
        let next : later (k ∷ ks) (s + 1) ≡ 0 + later ks (s + 1) = ap (λ b. (if b then 1 else 0) + later ks (s + 1)) gone in
        omega (arith, now, next, later_less ks s)
    by more false is f = omega (arith, fewer s k, more f)

among_is : (rs ks : List ℕ) (s r : ℕ) → register_among rs ks s ≡ Some r → (j : ℕ) × (slice_get ks j ≡ Some s)
among_is [] ks s r e = absurd (cc e)
among_is (q ∷ rs) [] s r e = absurd (cc e)
among_is (q ∷ rs) (k ∷ ks) s r e = by (among_is rs ks s r) (k == s) refl e
  where
    by : (register_among rs ks s ≡ Some r → (j : ℕ) × (slice_get ks j ≡ Some s)) → (b : Bool) → (k == s) ≡ b → (if b then Some q else register_among rs ks s) ≡ Some r → (j : ℕ) × (slice_get (k ∷ ks) j ≡ Some s)
    by more true is f = let same : k ≡ s = grind (arith, nat_tests, is) in (0, ap (λ n. Some n) same)
    by more false is f = let at = more f in (suc at.0, at.1)

-- slots of which those that are kept have 8 bytes each
variable_bytes : (g : FunctionCode) → ((j s : ℕ) → slice_get (kept_slots g) j ≡ Some s → IsKept g s) → (s : ℕ) (xs rest : List Slot) →
    ((i : ℕ) → slice_get g.slots (s + i) ≡ slice_get (xs ++ rest) i) → slot_bytes xs ≤ 8 * later (kept_slots g) s + unkept_bytes (kept_slots g) s xs
variable_bytes g are s [] rest e = omega arith
variable_bytes g are s (x ∷ xs) rest e =
    by (variable_bytes g are (s + 1) xs rest (λ i. let at : s + 1 + i ≡ s + suc i = omega arith in ap (slice_get g.slots) at ∙ e (suc i))) (register_of (kept_slots g) s) refl
  where
    by : slot_bytes xs ≤ 8 * later (kept_slots g) (s + 1) + unkept_bytes (kept_slots g) (s + 1) xs → (o : Option ℕ) → register_of (kept_slots g) s ≡ o →
        slot_bytes (x ∷ xs) ≤ 8 * later (kept_slots g) s + ((if is_some o then 0 else slot_bytes (x ∷ [])) + unkept_bytes (kept_slots g) (s + 1) xs)
    by more None is = omega (arith, more, later_less (kept_slots g) s)
    by more (Some r) is =
        let at = among_is saved_registers (kept_slots g) s r is in
        let own = are at.0 s at.1 in
        let zeroth : s ≡ s + 0 = omega arith in
        let same : Some own.slot ≡ Some x = sym own.there ∙ (ap (slice_get g.slots) zeroth ∙ e 0) in
        let one : own.slot ≡ x = cc same in
        let four : x.size ≡ 4 = ap (λ (y : Slot). y.size) (sym one) ∙ own.size in
        omega (arith, four, more, later_is saved_registers (kept_slots g) s r is)

-- ---- the frame

-- the variables stand behind the own object's address
behind_own : (is_member : Bool) (variables helps pads : List Slot) (i : ℕ) →
    slice_get ((own_slots is_member ++ (variables ++ helps)) ++ pads) (length (own_slots is_member) + i) ≡ slice_get (variables ++ (helps ++ pads)) i
behind_own false variables helps pads i =
    let at : 0 + i ≡ i = omega arith in ap (slice_get ((variables ++ helps) ++ pads)) at ∙ ap (λ slots. slice_get slots i) (append_assoc variables helps pads)
behind_own true variables helps pads i =
    let at : 1 + i ≡ suc i = omega arith in
    ap (slice_get ((own_slots true ++ (variables ++ helps)) ++ pads)) at ∙ ap (λ slots. slice_get slots i) (append_assoc variables helps pads)

unpadded_bytes : (b : Bool) (slots : List Slot) → b ≡ false → slot_bytes (slots ++ (if b then help ∷ help ∷ help ∷ [] else [])) ≡ slot_bytes slots
unpadded_bytes false slots e = let both = bytes_append slots [] in omega (arith, both)
unpadded_bytes true slots e = absurd (cc e)

module _ (kept : AllVariablesAreKept) (small : FramesAreSmall) (sources : AllSourceFramesFit) where
  frame_small : (p : Checked) (l : Layout) (is_member is_main : Bool) (k : ℕ) (f : Function) → VariablesAreNumbered f → IsPlain f →
      let g = function_code (declared_function p l is_member is_main k f) in
      g.frame ≤ 48 + 8 * length (kept_slots g) + (unkept_bytes (kept_slots g) (length (own_slots is_member)) (map (slot_for l) (variables_of f)) + 8 * (most_of f).levels + 8 * (most_of f).arguments)
  frame_small p l is_member is_main k f numbered plain =
      let r : RegionFunction = declared_function p l is_member is_main k f in
      let g : FunctionCode = function_code r in
      let variables : List Slot = map (slot_for l) (variables_of f) in
      let helps : List Slot = replicate (2 + between_calls is_member (variables_of f) r.body) help in
      let pads : List Slot = if has_pad r.body then help ∷ help ∷ help ∷ [] else [] in
      let own : ℕ = length (own_slots is_member) in
      let of_variables = variable_bytes g (kept g).are own variables (helps ++ pads) (behind_own is_member variables helps pads) in
      omega (
        arith,
        small.frame g.slots,
        unpadded_bytes (has_pad r.body) r.slots (plain_unpadded p l is_member is_main k f plain),
        source_bytes r l is_member (variables_of f) refl,
        (sources p l).few is_member is_main k f numbered,
        of_variables,
        later_few (kept_slots g) own,
      )

  -- no other change says where the canonical frame address is
  saves_within : (most : ℕ) (f : Shape) (parameters : ℕ) (rs ks : List ℕ) (n : ℕ) → AllByRecursion (λ m. CfaIsWithin most m.change) (save_moves f parameters n rs ks)
  saves_within most f parameters [] ks n = tt
  saves_within most f parameters (r ∷ rs) [] n = tt
  saves_within most f parameters (r ∷ rs) (s ∷ ks) n = (tt, saves_within most f parameters rs ks (n + length (one_saved parameters (immediate (pos (slot_offset f s))) r s)))

  plain_small : (p : Checked) (l : Layout) (is_member is_main : Bool) (k : ℕ) (f : Function) → VariablesAreNumbered f → IsPlain f →
      FrameIsSmall l is_member f (function_code (declared_function p l is_member is_main k f))
  plain_small p l is_member is_main k f numbered plain =
      let g : FunctionCode = function_code (declared_function p l is_member is_main k f) in
      let f' : Shape = shape_of g in
      ((g.frame, refl, frame_small p l is_member is_main k f numbered plain), (tt, saves_within _ f' g.parameters saved_registers f'.kept (length (prologue f'))))

  functions_small : (p : Checked) (fs : List Function) → AllByRecursion VariablesAreNumbered fs →
      AllByRecursion (λ f. IsPlain f → (is_main : Bool) → FrameIsSmall (layout_of p) false f (function_code (declared_function p (layout_of p) false is_main 0 f))) fs
  functions_small p [] h = tt
  functions_small p (f ∷ fs) h = (λ plain is_main. plain_small p (layout_of p) false is_main 0 f h.0 plain, functions_small p fs h.1)

  methods_small : (p : Checked) (fs : List Function) → AllByRecursion VariablesAreNumbered fs →
      AllByRecursion (λ f. IsPlain f → (k : ℕ) → FrameIsSmall (layout_of p) true f (function_code (declared_function p (layout_of p) true false k f))) fs
  methods_small p [] h = tt
  methods_small p (f ∷ fs) h = (λ plain k. plain_small p (layout_of p) true false k f h.0 plain, methods_small p fs h.1)

  classes_small : (p : Checked) (cs : List Class) → AllByRecursion (λ c. AllByRecursion VariablesAreNumbered c.functions) cs →
      AllByRecursion (λ c. AllByRecursion (λ f. IsPlain f → (k : ℕ) → FrameIsSmall (layout_of p) true f (function_code (declared_function p (layout_of p) true false k f))) c.functions) cs
  classes_small p [] h = tt
  classes_small p (c ∷ cs) h = (methods_small p c.functions h.0, classes_small p cs h.1)

  pub kept_frames_are_small : KeptFramesAreSmall
  kept_frames_are_small p h =
      let numbered = checked_numbered p h in
      record { functions = functions_small p p.functions numbered.functions; methods = classes_small p p.classes numbered.classes }
