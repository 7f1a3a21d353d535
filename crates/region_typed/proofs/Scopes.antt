-- Variables that come in reach, by their numbers.
use Rattle.std.proofs.Common.{◌≡◌, ◌∙◌, ◌+◌, ◌≤◌, ◌==◌, ◌||◌, ℕ, Bool, true, false, List, [], ◌∷◌, ◌++◌, length, Option, Some, None, if◌then◌else◌, refl, sym, ap, subst, arith}
use Rattle.std.specs.Prelude.{unwrap_or}
use Rattle.std.proofs.lemmas.Bool.Decides.{nat_tests}
use Rattle.std.proofs.lemmas.List.{length-append}
use Rattle.std.proofs.lemmas.Option.{slice_get_within}
use Rattle.cxx_ast.specs.declared.name.Name.{Name}
use Rattle.cxx_ast.specs.declared.name.Bound.TheVariants.{Local}
use Rattle.cxx_ast.specs.declared.types.Ty.{Ty}
use Rattle.cxx_ast.specs.declared.types.Ty.TheVariants.{Int}
use Rattle.cxx_ast.specs.declared.types.Param.{Param}
use Rattle.cxx_ast.specs.Environment.{Kind, Variable, Scope}
use Rattle.cxx_ast.specs.TypeNames.{type_kind, is_const}
use Rattle.cxx_ast.specs.Locals.{has_variable, with_variable, declare, declare_param, inner}
use Rattle.cxx_ast.specs.Resolve.{bind, bind_some}
use Rattle.cxx_ast.specs.Grammatical.{Each}
use Rattle.meaning_forms.specs.Frame.{Variable as FrameVariable}
use Rattle.meaning_forms.specs.World.{Reference}
use Rattle.region_simulation.specs.Reach.{is_in_reach}
use Rattle.region_simulation.specs.Statements.{HasNumber, DeclaresNext, declared_to}
use Rattle.region_formed.proofs.Lists.{each_map}
use Rattle.region_formed.proofs.Meant.{Given, lowering_in, Reach}
use Rattle.region_formed.proofs.Types.{from_front, from_back, from_first}
use Rattle.region_typed.specs.Known.{Here, InReach, Stretch}

-- a variable more
module _ (sc : Scope) (xs : List FrameVariable) (x : Name) (r : Reference) where
  abbrev Longer : List FrameVariable
  Longer = declared_to (Some (bind x (Local sc.next))) r xs

  first_reached : is_in_reach Longer sc.next ≡ true
  first_reached = let same : (sc.next == sc.next) ≡ true = grind (arith, nat_tests) in ap (λ b. b || is_in_reach xs sc.next) same

  still_reached : (v : Variable) → is_in_reach xs v.number ≡ true → is_in_reach Longer v.number ≡ true
  still_reached v h = go (sc.next == v.number)
    where
      go : (b : Bool) → (b || is_in_reach xs v.number) ≡ true
      go true = refl
      go false = h

  row_reached : (row : List Variable) → Each (λ (v : Variable). is_in_reach xs v.number ≡ true) row → Each (λ (v : Variable). is_in_reach Longer v.number ≡ true) row
  row_reached row h = each_map (λ (v : Variable). is_in_reach xs v.number ≡ true) (λ (v : Variable). is_in_reach Longer v.number ≡ true) still_reached row h

  rows_reached : (v : Variable) → v.number ≡ sc.next → (rows : List (List Variable)) → Each (Each (λ (v : Variable). is_in_reach xs v.number ≡ true)) rows →
      Each (Each (λ (v : Variable). is_in_reach Longer v.number ≡ true)) (with_variable v rows)
  rows_reached v e [] h = tt
  rows_reached v e (row ∷ rows) h = go (has_variable v.text row)
    where
      others : Each (Each (λ (v : Variable). is_in_reach Longer v.number ≡ true)) rows
      others = each_map (Each (λ (v : Variable). is_in_reach xs v.number ≡ true)) (Each (λ (v : Variable). is_in_reach Longer v.number ≡ true)) row_reached rows h.1

      last : (row : List Variable) → Each (λ (v : Variable). is_in_reach Longer v.number ≡ true) row → Each (λ (v : Variable). is_in_reach Longer v.number ≡ true) (row ++ (v ∷ []))
      last [] k = (subst (λ n. is_in_reach Longer n ≡ true) (sym e) first_reached, tt)
      last (w ∷ row) k = (k.0, last row k.1)

      go : (b : Bool) → Each (Each (λ (v : Variable). is_in_reach Longer v.number ≡ true)) (if b then row ∷ rows else (row ++ (v ∷ [])) ∷ rows)
      go true = (row_reached row h.0, others)
      go false = (last row (row_reached row h.0), others)

  pub declared_reached : (kind : Kind) (const : Bool) → InReach xs sc → InReach Longer (declare x kind const sc)
  declared_reached kind const h = rows_reached (record { text = x.text; kind = kind; is_const = const; number = sc.next }) refl sc.locals h

module _ {g : Given} {own : Option ℕ} {gives : Bool} {xs : List FrameVariable} where
  pub here_inner : {sc : Scope} → Here g own gives xs sc → Here g own gives xs (inner sc)
  here_inner h = record { reach = record { locals = (tt, h.reach.locals); own = h.reach.own }; in_reach = (tt, h.in_reach); own = h.own; gives = h.gives }

  -- in a scope with the same variables
  pub here_same : (sc there : Scope) → sc.locals ≡ there.locals → sc.own ≡ there.own → sc.gives_value ≡ there.gives_value → Here g own gives xs sc → Here g own gives xs there
  here_same sc there e o v h = record {
    reach = record { locals = subst (Each (Each _)) e h.reach.locals; own = λ k q. h.reach.own k (o ∙ q) };
    in_reach = subst (Each (Each (λ (v : Variable). is_in_reach xs v.number ≡ true))) e h.in_reach;
    own = sym o ∙ h.own;
    gives = sym v ∙ h.gives;
  }

  pub here_declared : (sc : Scope) (x : Name) (kind : Kind) (const : Bool) (r : Reference) → Here g own gives xs sc → Reach g (declare x kind const sc) →
      Here g own gives (declared_to (Some (bind x (Local sc.next))) r xs) (declare x kind const sc)
  here_declared sc x kind const r h reach = record { reach = reach; in_reach = declared_reached sc xs x r kind const h.in_reach; own = h.own; gives = h.gives }

  pub here_param : (sc : Scope) (p : Param) (r : Reference) → Here g own gives xs sc → Reach g (declare_param g.env p sc) →
      Here g own gives (declared_to (bind_some p.name (Local sc.next)) r xs) (declare_param g.env p sc)
  here_param sc p r h reach = go p.name reach
    where
      go : (n : Option Name) → Reach g (declare_param g.env (record p { name = n }) sc) →
          Here g own gives (declared_to (bind_some n (Local sc.next)) r xs) (declare_param g.env (record p { name = n }) sc)
      go None q = record { reach = q; in_reach = h.in_reach; own = h.own; gives = h.gives }
      go (Some n) q = here_declared sc n (type_kind g.env sc p.ty) (is_const p.ty) r h q

module _ {g : Given} where
  pub stretch_front : {n : ℕ} → (a b : List Ty) → Stretch g n (a ++ b) → Stretch g n a
  stretch_front {n = n} a b h =
      let more = length-append a b in
      let enough = h.enough in
      record { from = from_front a b h.from; enough = omega (arith, more, enough) }

  pub stretch_back : {n : ℕ} → (m : ℕ) (a b : List Ty) → m ≡ n + length a → Stretch g n (a ++ b) → Stretch g m b
  stretch_back {n = n} m a b same h =
      let more = length-append a b in
      let enough = h.enough in
      record { from = from_back m a b same h.from; enough = omega (arith, more, enough, same) }

  pub stretch_start : {n : ℕ} {types : List Ty} → Stretch g n types → n ≤ length g.variables
  stretch_start h = let enough = h.enough in omega (arith, enough)

  -- the next variable
  pub declares : {n : ℕ} {t : Ty} {types : List Ty} → (x : Option Name) → HasNumber x n → Stretch g n (t ∷ types) → DeclaresNext (lowering_in g) n x t
  declares {n = n} {t = t} x number h =
      let at = from_first h.from in
      record { numbered = number; there = slice_get_within g.variables n t at; typed = ap (λ y. unwrap_or y Int) at }

-- a variable that is declared with the next number
pub next_number : (x : Option Name) (n : ℕ) → HasNumber (bind_some x (Local n)) n
next_number None n = tt
next_number (Some x) n = refl
