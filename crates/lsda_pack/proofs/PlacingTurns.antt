-- The tables of functions, one after the other.
use Rattle.std.proofs.Common.{◌≡◌, ℕ, List, [], ◌∷◌, ◌++◌, length, Bool, false, Option, Some, None, Ok, Result, refl, ap, sym, subst, ◌∙◌, append_assoc, append-nil}
use Rattle.std.specs.Prelude.{◌+◌, ◌-◌, ◌==◌, min, if◌then◌else◌}
use Rattle.eh_bytes.specs.declared.frames.Region64.{Region64}
use Rattle.eh_bytes.specs.Memory.{Memory}
use Rattle.table_forms.specs.Fault.{Fault}
use Rattle.table_forms.specs.Lsda.{Table, lsda}
use Rattle.elf_image.specs.declared.program.ProgramHeader.{ProgramHeader}
use Rattle.elf_image.specs.Clean.{Function, table_named, table_read}
use Rattle.frame_read.specs.declared.listed.Fde.{Fde}
use Rattle.lsda_pack.specs.declared.reach.TableTaken.{TableTaken}
use Rattle.lsda_pack.specs.declared.placing.Placing.{Placing}
use Rattle.lsda_pack.specs.Placed.{Placed, placed_of}
use Rattle.lsda_pack.specs.Placings.{IsPlaced, ArePlacings, IsFunction, AreFunctions, placed_all, those_of}

-- what a table takes from its first address up to its end
abbrev pub taken_at : ℕ → ℕ → ℕ → ℕ → TableTaken
taken_at first end place file_end = record {
  memory = record { first = first; end = end; place = place };
  file = record { first = place; end = min (place + (end - first)) file_end; place = place };
}

pub empty : (fs : List Fde) → length fs ≡ 0 → fs ≡ []
empty [] e = refl
empty (f ∷ fs) e = absurd cc

pub first_function : (memory : Memory) (fde : Fde) (fs : List Fde) (gs : List Function) → AreFunctions memory (fde ∷ fs) gs → (g : Function) × IsFunction memory fde g
first_function memory fde fs [] are = absurd are
first_function memory fde fs (g ∷ gs) are = (g, are.0)

abbrev named_by : Bool → Result (Option Table) Fault → Result (Option Table) Fault
named_by b read = if b then Ok None else read

-- address 0 places no table
pub none_named : (memory : Memory) (loads : List ProgramHeader) (a : ℕ) (region : Region64) (o : Option Table) → a ≡ 0 → table_named memory a region ≡ Ok o → placed_of memory loads a region o ≡ []
none_named memory loads a region o zero read =
    ap (placed_of memory loads a region) (same (Ok None) refl (sym (ap (λ x. table_named memory x region) zero) ∙ read))
  where
    same : (r : Result (Option Table) Fault) → Ok None ≡ r → r ≡ Ok o → o ≡ None
    same r e f = cc

-- another address that of the table that is read there
pub placed_named : (memory : Memory) (loads : List ProgramHeader) (a : ℕ) (region : Region64) (t : Table) (p : Option Placing) → (a == 0) ≡ false → lsda memory a region ≡ Ok t →
    IsPlaced memory p (placed_of memory loads a region (Some t)) → (o : Option Table) → table_named memory a region ≡ Ok o → IsPlaced memory p (placed_of memory loads a region o)
placed_named memory loads a region t p some read is o named =
    subst (λ x. IsPlaced memory p (placed_of memory loads a region x))
    (same (Ok (Some t)) refl (sym (ap table_read read) ∙ sym (ap (λ b. named_by b (table_read (lsda memory a region))) some) ∙ named)) is
  where
    some_same : (x y : Option Table) (r : Result (Option Table) Fault) → Ok x ≡ r → r ≡ Ok y → x ≡ y
    some_same x y r e f = cc

    same : (r : Result (Option Table) Fault) → Ok (Some t) ≡ r → r ≡ Ok o → Some t ≡ o
    same r e f = some_same (Some t) o r e f

joined : (memory : Memory) (ps qs : List Placing) (ts us : List Placed) → ArePlacings memory ps ts → ArePlacings memory qs us → ArePlacings memory (ps ++ qs) (ts ++ us)
joined memory [] qs [] us one two = two
joined memory [] qs (t ∷ ts) us one two = absurd one
joined memory (p ∷ ps) qs [] us one two = absurd one
joined memory (p ∷ ps) qs (t ∷ ts) us one two = (one.0, joined memory ps qs ts us one.1 two)

as_list : (memory : Memory) (p : Option Placing) (ts : List Placed) → IsPlaced memory p ts → ArePlacings memory (those_of p) ts
as_list memory None ts is = subst (ArePlacings memory []) (sym is) tt
as_list memory (Some p) ts is = subst (ArePlacings memory (p ∷ [])) (sym is.1) (is.2, tt)

-- what is placed of the functions before the rest
pub record SoFar (memory : Memory) (loads : List ProgramHeader) (placings : List Placing) (rest : List Fde) (gs : List Function) : Type 0 where
  pub more : List Function
  pub are : AreFunctions memory rest more
  pub before : List Placed
  pub placed : ArePlacings memory placings before
  pub all : placed_all memory loads gs ≡ before ++ placed_all memory loads more

pub none_yet : (memory : Memory) (loads : List ProgramHeader) (fdes : List Fde) (gs : List Function) → AreFunctions memory fdes gs → SoFar memory loads [] fdes gs
none_yet memory loads fdes gs are = record { more = gs; are = are; before = []; placed = tt; all = refl }

pub all_placed : (memory : Memory) (loads : List ProgramHeader) (placings : List Placing) (gs : List Function) → SoFar memory loads placings [] gs →
    ArePlacings memory placings (placed_all memory loads gs)
all_placed memory loads placings gs s = by s.more s.are s.all
  where
    by : (more : List Function) → AreFunctions memory [] more → placed_all memory loads gs ≡ s.before ++ placed_all memory loads more → ArePlacings memory placings (placed_all memory loads gs)
    by [] are all = subst (ArePlacings memory placings) (sym (all ∙ append-nil s.before)) s.placed
    by (g ∷ more) are all = absurd are

pub one_more : (memory : Memory) (loads : List ProgramHeader) (placings new : List Placing) (fde : Fde) (rest : List Fde) (p : Option Placing) (gs : List Function) →
    ((o : Option Table) → table_named memory fde.lsda fde.region ≡ Ok o → IsPlaced memory p (placed_of memory loads fde.lsda fde.region o)) → new ≡ placings ++ those_of p →
    SoFar memory loads placings (fde ∷ rest) gs → SoFar memory loads new rest gs
one_more memory loads placings new fde rest p gs is put s = by s.more s.are s.all
  where
    by : (more : List Function) → AreFunctions memory (fde ∷ rest) more → placed_all memory loads gs ≡ s.before ++ placed_all memory loads more → SoFar memory loads new rest gs
    by [] are all = absurd are
    by (g ∷ more) are all =
        let own = placed_of memory loads g.fde.lsda g.fde.region g.table in
        let f = are.0 in
        let here : IsPlaced memory p own = subst (λ r. IsPlaced memory p (placed_of memory loads g.fde.lsda r g.table)) f.region
        (subst (λ a. IsPlaced memory p (placed_of memory loads a fde.region g.table)) f.lsda (is g.table f.table)) in
        record {
          more = more;
          are = are.1;
          before = s.before ++ own;
          placed = subst (λ ps. ArePlacings memory ps (s.before ++ own)) (sym put) (joined memory placings (those_of p) s.before own s.placed (as_list memory p own here));
          all = all ∙ sym (append_assoc s.before own (placed_all memory loads more));
        }
