-- How ranks rise in the code of a program and in the runtime's own functions.
use Rattle.std.proofs.Common.{◌≡◌, ◌⊎◌, ℤ, ℕ, zero, suc, ◌+◌, ◌<◌, ◌≤◌, Bool, true, false, List, [], ◌∷◌, Option, Some, None, inl, inr, refl, sym, ap, ◌∙◌, subst, ⊎_elim, option_map, arith}
use Rattle.std.specs.Prelude.{slice_get, unwrap_or}
use Rattle.std.specs.List.{AllByRecursion}
use Rattle.std.proofs.lemmas.Option.{slice_get-map}
use Rattle.region_forms.specs.Form.{RegionFunction, Regions}
use Rattle.linear_forms.specs.Linear.{LinearOp, label, jump, FunctionCode}
use Rattle.linear_forms.specs.Tables.{padded}
use Rattle.linear_forms.specs.Stub.{StubOp, Function, compiled, end_catch, terminating, call_unexpected, CodeOp, linear, runtime, leave_newest, terminate_for, abort, stub_rows, stub_op}
use Rattle.linear_forms.specs.Activation.{Code, fetch, look, place_of}
use Rattle.linear_forms.specs.Unit.{function_code, unit_of}
use Rattle.linear_forms.specs.UnitRun.{no_code, code_at, code_of}
use Rattle.cost_paths.specs.Control.{goes_on, label_of, CanGo, TurnsBack}
use Rattle.cost_paths.specs.Order.{weight, AreRanks}
use Rattle.cost_paths.proofs.Functions.{operations_are_in_order}
use Rattle.cost_turns.specs.Weights.{is_own, rows_weight, whole, whole_linear}
use Rattle.cost_turns.proofs.Stubs.{before, ahead, within_all, IsStub, stub_jump, stub_skip, stub_pad}

-- control can come to the next operation
abbrev pub op_goes_on : CodeOp → Bool
op_goes_on (linear o) = goes_on o
op_goes_on (runtime (terminate_for o)) = false
op_goes_on (runtime abort) = false
op_goes_on (runtime o) = true

-- what is raised comes out of no jump
abbrev pub NoJump : CodeOp → Type 0
NoJump o = (l : ℕ) → o ≡ linear (jump l) → ⊥

-- the most that a function's own operations weigh
abbrev pub cap : (Bool → CodeOp → ℕ) → ℕ → Function → ℕ
cap weigh longest (compiled n) = longest
cap weigh longest f = rows_weight (whole weigh true) (stub_rows f)

-- ranks of all places rise by what operations weigh, up to the most of their function
pub record Paced (code : Code) (weigh : Bool → CodeOp → ℕ) (longest : ℕ) (rank : Function → ℕ → ℕ) : Type 0 where
  pub inside : (f : Function) (p : ℕ) (o : CodeOp) → fetch code f p ≡ Some o → rank f p + whole weigh (is_own f) o ≤ cap weigh longest f
  pub next : (f : Function) (p : ℕ) (o : CodeOp) → fetch code f p ≡ Some o → op_goes_on o ≡ true → rank f p + whole weigh (is_own f) o ≤ rank f (p + 1)
  pub jumps : (f : Function) (p l : ℕ) (o : LinearOp) → fetch code f p ≡ Some (linear o) → label_of o ≡ Some l →
      (rank f p + whole weigh (is_own f) (linear o) ≤ rank f (place_of code f l)) ⊎ ((place_of code f l ≤ p) × (o ≡ jump l) × (cap weigh longest f ≤ longest))
  pub skips : (f : Function) (p o d l : ℕ) → fetch code f p ≡ Some (runtime (leave_newest o d l)) → rank f p + whole weigh (is_own f) (runtime (leave_newest o d l)) ≤ rank f l
  pub pads : (f : Function) (p q : ℕ) (chain : List ℤ) (o : CodeOp) → fetch code f p ≡ Some o → look code f p ≡ padded q chain → NoJump o → rank f p + whole weigh (is_own f) o ≤ rank f q
  pub stub_start : (f : Function) → IsStub f → rank f 0 ≡ 0

each : {A : Type 0} (P : A → Type 0) (xs : List A) (n : ℕ) (x : A) → AllByRecursion P xs → slice_get xs n ≡ Some x → P x
each P [] n x h e = absurd (cc e)
each P (y ∷ xs) zero x h e = let same : y ≡ x = cc e in subst P same h.0
each P (y ∷ xs) (suc n) x h e = each P xs n x h.1 e

-- the ranks of a function
record HasRanks (weigh : Bool → CodeOp → ℕ) (longest : ℕ) (g : FunctionCode) : Type 0 where
  rank : ℕ → ℕ
  are : AreRanks g (whole_linear weigh) rank
  short : weight (whole_linear weigh) g.ops ≤ longest

module _ (r : Regions) (weigh : Bool → CodeOp → ℕ) (longest : ℕ) (light : (l : ℕ) → weigh false (linear (label l)) ≡ 0)
    (short : AllByRecursion (λ g. weight (whole_linear weigh) g.ops ≤ longest) (unit_of r).functions) where
  abbrev code : Code
  code = code_of (unit_of r)

  ranks_at : (n : ℕ) → HasRanks weigh longest (code_at (unit_of r) n)
  ranks_at n = go (slice_get r.functions n) refl
    where
      found : (o : Option RegionFunction) → slice_get r.functions n ≡ o → code_at (unit_of r) n ≡ unwrap_or (option_map function_code o) no_code
      found o e = ap (λ x. unwrap_or x no_code) (slice_get-map function_code r.functions n ∙ ap (option_map function_code) e)

      go : (o : Option RegionFunction) → slice_get r.functions n ≡ o → HasRanks weigh longest (code_at (unit_of r) n)
      go None e =
          subst (HasRanks weigh longest) (sym (found None e))
          (record { rank = λ p. 0; are = record { rises = λ p q o there go. absurd (cc there); inside = λ p o there. absurd (cc there); behind = λ p there. refl }; short = omega arith })
      go (Some f) e =
          let ranks = operations_are_in_order f (whole_linear weigh) light in
          let own = each (λ g. weight (whole_linear weigh) g.ops ≤ longest) (unit_of r).functions n (function_code f) short (slice_get-map function_code r.functions n ∙ ap (option_map function_code) e) in
          subst (HasRanks weigh longest) (sym (found (Some f) e)) (record { rank = ranks.0; are = ranks.1; short = own })

  abbrev rank : Function → ℕ → ℕ
  rank (compiled n) p = (ranks_at n).rank p
  rank end_catch p = before (whole weigh true) (stub_rows end_catch) p
  rank terminating p = before (whole weigh true) (stub_rows terminating) p
  rank call_unexpected p = before (whole weigh true) (stub_rows call_unexpected) p

  -- the operation of a compiled function
  record Compiled (n p : ℕ) (o : CodeOp) : Type 0 where
    op : LinearOp
    there : slice_get (code_at (unit_of r) n).ops p ≡ Some op
    is : o ≡ linear op

  compiled_there : (n p : ℕ) (o : CodeOp) → fetch code (compiled n) p ≡ Some o → Compiled n p o
  compiled_there n p o e = go (slice_get (code_at (unit_of r) n).ops p) refl e
    where
      go : (x : Option LinearOp) → slice_get (code_at (unit_of r) n).ops p ≡ x → elim x [ None ↦ None | Some y ↦ Some (linear y) ] ≡ Some o → Compiled n p o
      go None at e = absurd (cc e)
      go (Some y) at e = record { op = y; there = at; is = let same : linear y ≡ o = cc e in sym same }

  -- a step of control in a compiled function
  compiled_step : (n p q : ℕ) (o : CodeOp) (c : Compiled n p o) → CanGo (code_at (unit_of r) n) p c.op q → (rank (compiled n) p + whole weigh false o ≤ rank (compiled n) q) ⊎ TurnsBack (code_at (unit_of r) n) p q
  compiled_step n p q o c go =
      let weights = ap (whole weigh false) c.is in
      ⊎_elim (λ up. inl (omega (arith, up, weights))) (λ turn. inr turn) ((ranks_at n).are.rises p q c.op c.there go)

  some_same : (a b : LinearOp) → Some a ≡ Some b → a ≡ b
  some_same a b e = cc e

  -- what turns back is a jump
  turn_is : (n p q : ℕ) (o : LinearOp) → slice_get (code_at (unit_of r) n).ops p ≡ Some o → (t : TurnsBack (code_at (unit_of r) n) p q) → o ≡ jump t.first
  turn_is n p q o there t = some_same o (jump t.first) (sym there ∙ t.back)

  compiled_inside : (n p : ℕ) (o : CodeOp) → fetch code (compiled n) p ≡ Some o → rank (compiled n) p + whole weigh false o ≤ longest
  compiled_inside n p o e =
      let c = compiled_there n p o e in
      let h = ranks_at n in
      omega (arith, h.are.inside p c.op c.there, h.short, ap (whole weigh false) c.is)

  compiled_next : (n p : ℕ) (o : CodeOp) → fetch code (compiled n) p ≡ Some o → op_goes_on o ≡ true → rank (compiled n) p + whole weigh false o ≤ rank (compiled n) (p + 1)
  compiled_next n p o e goes =
      let c = compiled_there n p o e in
      let on : goes_on c.op ≡ true = sym (ap op_goes_on c.is) ∙ goes in
      ⊎_elim (λ up. up) (λ t. let no : goes_on (jump t.first) ≡ true = subst (λ x. goes_on x ≡ true) (turn_is n p (p + 1) c.op c.there t) on in absurd (cc no)) (compiled_step n p (p + 1) o c (inl (on, refl)))

  compiled_jump : (n p l : ℕ) (o : LinearOp) → fetch code (compiled n) p ≡ Some (linear o) → label_of o ≡ Some l →
      (rank (compiled n) p + whole weigh false (linear o) ≤ rank (compiled n) (place_of code (compiled n) l)) ⊎ ((place_of code (compiled n) l ≤ p) × (o ≡ jump l) × (longest ≤ longest))
  compiled_jump n p l o e own =
      let c = compiled_there n p (linear o) e in
      let same : o ≡ c.op = let both = c.is in cc both in
      let label : label_of c.op ≡ Some l = sym (ap label_of same) ∙ own in
      ⊎_elim (λ up. inl up)
      (λ t.
      let is = same ∙ turn_is n p (place_of code (compiled n) l) c.op c.there t in
      let number : Some t.first ≡ Some l = sym (ap label_of is) ∙ own in
      let first : t.first ≡ l = cc number in
      inr (t.before, is ∙ ap (λ k. jump k) first, omega arith)) (compiled_step n p (place_of code (compiled n) l) (linear o) c (inr (inl (l, label, refl))))

  compiled_pad : (n p q : ℕ) (chain : List ℤ) (o : CodeOp) → fetch code (compiled n) p ≡ Some o → look code (compiled n) p ≡ padded q chain → NoJump o →
      rank (compiled n) p + whole weigh false o ≤ rank (compiled n) q
  compiled_pad n p q chain o e covered no_jump =
      let c = compiled_there n p o e in
      ⊎_elim (λ up. up) (λ t. absurd (no_jump t.first (c.is ∙ ap linear (turn_is n p q c.op c.there t)))) (compiled_step n p q o c (inr (inr (chain, covered))))

  -- the runtime's own functions

  stub_inside : (f : Function) (p : ℕ) (o : CodeOp) → stub_op f p ≡ Some o → before (whole weigh true) (stub_rows f) p + whole weigh true o ≤ rows_weight (whole weigh true) (stub_rows f)
  stub_inside f p o e = let later = ahead (whole weigh true) (stub_rows f) p (p + 1) o e (omega arith) in omega (arith, later, within_all (whole weigh true) (stub_rows f) (p + 1))

  stub_step : (f : Function) (p q : ℕ) (o : CodeOp) → stub_op f p ≡ Some o → p < q → before (whole weigh true) (stub_rows f) p + whole weigh true o ≤ before (whole weigh true) (stub_rows f) q
  stub_step f p q o e lt = ahead (whole weigh true) (stub_rows f) p q o e lt

  inside_by : (f : Function) (p : ℕ) (o : CodeOp) → fetch code f p ≡ Some o → rank f p + whole weigh (is_own f) o ≤ cap weigh longest f
  inside_by (compiled n) p o e = compiled_inside n p o e
  inside_by end_catch p o e = stub_inside end_catch p o e
  inside_by terminating p o e = stub_inside terminating p o e
  inside_by call_unexpected p o e = stub_inside call_unexpected p o e

  next_by : (f : Function) (p : ℕ) (o : CodeOp) → fetch code f p ≡ Some o → op_goes_on o ≡ true → rank f p + whole weigh (is_own f) o ≤ rank f (p + 1)
  next_by (compiled n) p o e goes = compiled_next n p o e goes
  next_by end_catch p o e goes = stub_step end_catch p (p + 1) o e (omega arith)
  next_by terminating p o e goes = stub_step terminating p (p + 1) o e (omega arith)
  next_by call_unexpected p o e goes = stub_step call_unexpected p (p + 1) o e (omega arith)

  jumps_by : (f : Function) (p l : ℕ) (o : LinearOp) → fetch code f p ≡ Some (linear o) → label_of o ≡ Some l →
      (rank f p + whole weigh (is_own f) (linear o) ≤ rank f (place_of code f l)) ⊎ ((place_of code f l ≤ p) × (o ≡ jump l) × (cap weigh longest f ≤ longest))
  jumps_by (compiled n) p l o e own = compiled_jump n p l o e own
  jumps_by end_catch p l o e own = inl (stub_step end_catch p l (linear o) e (stub_jump end_catch p o l tt e own))
  jumps_by terminating p l o e own = inl (stub_step terminating p l (linear o) e (stub_jump terminating p o l tt e own))
  jumps_by call_unexpected p l o e own = inl (stub_step call_unexpected p l (linear o) e (stub_jump call_unexpected p o l tt e own))

  not_runtime : (n p : ℕ) (x : StubOp) → fetch code (compiled n) p ≡ Some (runtime x) → ⊥
  not_runtime n p x e = let c = compiled_there n p (runtime x) e in let is = c.is in absurd (cc is)

  skips_by : (f : Function) (p o d l : ℕ) → fetch code f p ≡ Some (runtime (leave_newest o d l)) → rank f p + whole weigh (is_own f) (runtime (leave_newest o d l)) ≤ rank f l
  skips_by (compiled n) p o d l e = absurd (not_runtime n p (leave_newest o d l) e)
  skips_by end_catch p o d l e = stub_step end_catch p l (runtime (leave_newest o d l)) e (stub_skip end_catch p o d l tt e)
  skips_by terminating p o d l e = stub_step terminating p l (runtime (leave_newest o d l)) e (stub_skip terminating p o d l tt e)
  skips_by call_unexpected p o d l e = stub_step call_unexpected p l (runtime (leave_newest o d l)) e (stub_skip call_unexpected p o d l tt e)

  pads_by : (f : Function) (p q : ℕ) (chain : List ℤ) (o : CodeOp) → fetch code f p ≡ Some o → look code f p ≡ padded q chain → NoJump o → rank f p + whole weigh (is_own f) o ≤ rank f q
  pads_by (compiled n) p q chain o e covered no_jump = compiled_pad n p q chain o e covered no_jump
  pads_by end_catch p q chain o e covered no_jump = stub_step end_catch p q o e (stub_pad end_catch p q chain tt covered)
  pads_by terminating p q chain o e covered no_jump = stub_step terminating p q o e (stub_pad terminating p q chain tt covered)
  pads_by call_unexpected p q chain o e covered no_jump = stub_step call_unexpected p q o e (stub_pad call_unexpected p q chain tt covered)

  start_by : (f : Function) → IsStub f → rank f 0 ≡ 0
  start_by (compiled n) h = absurd h
  start_by end_catch h = refl
  start_by terminating h = refl
  start_by call_unexpected h = refl

  pub paces : (rank : Function → ℕ → ℕ) × Paced code weigh longest rank
  paces = (rank, record { inside = inside_by; next = next_by; jumps = jumps_by; skips = skips_by; pads = pads_by; stub_start = start_by })
