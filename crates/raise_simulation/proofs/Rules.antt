-- Rules of registers that are saved, and what they give.
use Rattle.std.proofs.Common.{◌≡◌, ◌≢◌, ◌∙◌, refl, sym, ap, arith, ℕ, zero, suc, ◌+◌, ◌^◌, ◌<◌, ◌≤◌, List, [], ◌∷◌, ◌++◌, drop, length, map, length-set, Option, Some, None}
use Rattle.std.specs.Prelude.{⊤, pos, ◌-ℤ◌, slice_set, slice_index_or}
use Rattle.std.proofs.lemmas.List.{get_or-set_same, get_or-set_other}
use Rattle.table_forms.specs.declared.found.Rule.{Rule}
use Rattle.table_forms.specs.declared.found.Rule.TheVariants as rules
use Rattle.rv64_isa.specs.State.{State}
use Rattle.rv64_machine.specs.Load.{word_loaded}
use Rattle.frame_walk.specs.Registers.{readable, register_of, registers_from, with_first}
use Rattle.machine_forms.specs.Registers.{saved_registers}
use Rattle.raise_simulation.specs.OpenCalls.{saved_rules, AreSaved, with_values}
use Rattle.raise_simulation.proofs.Offsets.{offset_back}

-- registers above one and below another, each above the one before
abbrev pub Rising : (many low : ℕ) → List ℕ → Type 0
Rising many low [] = ⊤
Rising many low (r ∷ more) = (low < r) × (r < many) × Rising many r more

pub saved_rise : Rising 32 2 saved_registers
saved_rise =
    let last : Rising 32 22 (23 ∷ 24 ∷ 25 ∷ 26 ∷ []) = (omega arith, omega arith, (omega arith, omega arith, (omega arith, omega arith, (omega arith, omega arith, tt)))) in
    let middle : Rising 32 18 (19 ∷ 20 ∷ 21 ∷ 22 ∷ 23 ∷ 24 ∷ 25 ∷ 26 ∷ []) = (omega arith, omega arith, (omega arith, omega arith, (omega arith, omega arith, (omega arith, omega arith, last)))) in
    (omega arith, omega arith, (omega arith, omega arith, middle))

-- ---- a register that none of these is
pub other_rule : (many low m size : ℕ) (registers places : List ℕ) (rs : List Rule) → m ≤ low → Rising many low registers →
    slice_index_or (saved_rules size registers places rs) m rules.Unspecified ≡ slice_index_or rs m rules.Unspecified
other_rule many low m size [] places rs below rise = refl
other_rule many low m size (r ∷ more) [] rs below rise = refl
other_rule many low m size (r ∷ more) (n ∷ places) rs below rise =
    let above = rise.0 in
    let other : m ≢ r = omega (arith, below, above) in
    other_rule many r m size more places (slice_set rs r (rules.Offset (pos n -ℤ pos size))) (omega (arith, below, above)) rise.2
    ∙ get_or-set_other rs r m (rules.Offset (pos n -ℤ pos size)) rules.Unspecified other

pub other_value : (many low m : ℕ) (registers values regs : List ℕ) → m ≤ low → Rising many low registers → slice_index_or (with_values registers values regs) m 0 ≡ slice_index_or regs m 0
other_value many low m [] values regs below rise = refl
other_value many low m (r ∷ more) [] regs below rise = refl
other_value many low m (r ∷ more) (v ∷ values) regs below rise =
    let above = rise.0 in
    let other : m ≢ r = omega (arith, below, above) in
    other_value many r m more values (slice_set regs r v) (omega (arith, below, above)) rise.2 ∙ get_or-set_other regs r m v 0 other

-- ---- these registers
abbrev pub read_in : (regs registers : List ℕ) → List ℕ
read_in regs registers = map (λ r. slice_index_or regs r 0) registers

unread : (many low m v : ℕ) (registers regs : List ℕ) → m ≤ low → Rising many low registers → read_in (slice_set regs m v) registers ≡ read_in regs registers
unread many low m v [] regs below rise = refl
unread many low m v (r ∷ more) regs below rise =
    let above = rise.0 in
    let other : r ≢ m = omega (arith, below, above) in
    ap (λ w. w ∷ read_in (slice_set regs m v) more) (get_or-set_other regs m r v 0 other) ∙ ap (λ l. slice_index_or regs r 0 ∷ l) (unread many r m v more regs (omega (arith, below, above)) rise.2)

pub values_read : (many low : ℕ) (registers values regs : List ℕ) → many ≤ length regs → Rising many low registers → length values ≤ length registers →
    read_in (with_values registers values regs) registers ≡ values ++ drop (length values) (read_in regs registers)
values_read many low [] [] regs room rise few = refl
values_read many low [] (v ∷ values) regs room rise few = absurd (omega (arith, few))
values_read many low (r ∷ more) [] regs room rise few = refl
values_read many low (r ∷ more) (v ∷ values) regs room rise few =
    let inside = rise.1 in
    ap (λ w. w ∷ read_in (with_values more values (slice_set regs r v)) more)
    (other_value many r r more values (slice_set regs r v) (omega arith) rise.2 ∙ get_or-set_same regs r v 0 (omega (arith, inside, room)))
    ∙ ap (λ l. v ∷ l) (values_read many r more values (slice_set regs r v) (omega (arith, room, length-set regs r v)) rise.2 (omega (arith, few))
    ∙ ap (λ l. values ++ drop (length values) l) (unread many r r v more regs (omega arith) rise.2))

-- ---- what rules give
parts : (first : Option ℕ) (rest : Option (List ℕ)) (out : List ℕ) → with_first first rest ≡ Some out → (v : ℕ) × (vs : List ℕ) × (first ≡ Some v) × (rest ≡ Some vs) × (out ≡ v ∷ vs)
parts None rest out e = absurd (cc e)
parts (Some v) None out e = absurd (cc e)
parts (Some v) (Some vs) out e = let same : v ∷ vs ≡ out = cc e in (v, vs, refl, refl, sym same)

-- one more that is set
set_from : (s : State) (cfa : ℕ) (regs : List ℕ) (r : ℕ) (rs : List Rule) (out : List ℕ) (k : ℕ) (rule : Rule) (v : ℕ) → registers_from s cfa regs r rs ≡ Some out → register_of s cfa regs (r + k) rule ≡ Some v →
    registers_from s cfa regs r (slice_set rs k rule) ≡ Some (slice_set out k v)
set_from s cfa regs r [] out k rule v all one = let none : [] ≡ out = cc all in ap (λ o. Some (slice_set o k v)) none
set_from s cfa regs r (first ∷ rs) out zero rule v all one =
    let p = parts (register_of s cfa regs r first) (registers_from s cfa regs (r + 1) rs) out all in
    let place : r ≡ r + 0 = omega arith in
    ap (λ o. with_first o (registers_from s cfa regs (r + 1) rs)) (ap (λ k. register_of s cfa regs k rule) place ∙ one) ∙ ap (with_first (Some v)) p.3 ∙ ap (λ l. Some (slice_set l 0 v)) (sym p.4)
set_from s cfa regs r (first ∷ rs) out (suc k) rule v all one =
    let p = parts (register_of s cfa regs r first) (registers_from s cfa regs (r + 1) rs) out all in
    let place : r + 1 + k ≡ r + suc k = omega arith in
    let more = set_from s cfa regs (r + 1) rs p.1 k rule v p.3 (ap (λ n. register_of s cfa regs n rule) place ∙ one) in
    ap (with_first (register_of s cfa regs r first)) more ∙ ap (λ o. with_first o (Some (slice_set p.1 k v))) p.2 ∙ ap (λ l. Some (slice_set l (suc k) v)) (sym p.4)

pub saved_from : (s : State) (sp size : ℕ) (regs registers places values : List ℕ) (rs : List Rule) (out : List ℕ) → sp + size < 2 ^ 64 → AreSaved s sp size places values →
    registers_from s (sp + size) regs 0 rs ≡ Some out → registers_from s (sp + size) regs 0 (saved_rules size registers places rs) ≡ Some (with_values registers values out)
saved_from s sp size regs [] places values rs out small there all = all
saved_from s sp size regs (r ∷ more) [] [] rs out small there all = all
saved_from s sp size regs (r ∷ more) [] (v ∷ values) rs out small there all = absurd there
saved_from s sp size regs (r ∷ more) (n ∷ places) [] rs out small there all = absurd there
saved_from s sp size regs (r ∷ more) (n ∷ places) (v ∷ values) rs out small there all =
    let rule : Rule = rules.Offset (pos n -ℤ pos size) in
    saved_from s sp size regs more places values (slice_set rs r rule) (slice_set out r v) small there.2
    (set_from s (sp + size) regs 0 rs out r rule v all (ap readable (ap (word_loaded s) (offset_back sp n size there.0 small) ∙ there.1)))
