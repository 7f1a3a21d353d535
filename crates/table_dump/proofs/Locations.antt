-- The rows of an FDE, one for each of its locations, which rise.
use Rattle.std.proofs.Common.{◌≡◌, ◌+◌, ◌≤◌, ◌<◌, ◌&&◌, ℕ, zero, suc, Bool, true, false, nat_lt, nat_le, List, [], ◌∷◌, ◌++◌, filter, Option, Some, None, refl, ap, sym, subst, ◌∙◌, append_assoc, append-nil, map, arith, fold, min, if◌then◌else◌}
use Rattle.std.specs.Prelude.{IfSome, Contains, flat_map}
use Rattle.std.specs.List.{AllByRecursion}
use Rattle.std.proofs.lemmas.Bool.Decides.{nat_tests}
use Rattle.std.proofs.lemmas.List.{length-map, get_or-map}
use Rattle.eh_bytes.specs.Memory.{Memory}
use Rattle.table_forms.specs.Row.{locations_from, least_of, next_location_of}
use Rattle.table_forms.specs.declared.found.Row.{Row}
use Rattle.table_forms.specs.Fde.{Fde, is_in, row_at, next_location}
use Rattle.frame_read.specs.Listed.{fde_listed}
use Rattle.frame_read.specs.Locations.{locations_within, locations}
use Rattle.frame_read.specs.ReadsFrames.{Listing}
use Rattle.frame_read.specs.FdeRows.{AreRows}
use Rattle.frame_read.specs.RowWalk.{HoldsUntil, IsWalk}
use Rattle.frame_read.specs.Given.{IsFrameOf}
use Rattle.frame_read.specs.declared.listed.Fde as listed
use Rattle.frame_read.specs.declared.fde_rows.FdeRows.{FdeRows}
use Rattle.frame_read.specs.declared.row_walk.RowWalk.{RowWalk}
use Rattle.table_dump.specs.Rows.{row_line, row_text, rows_within, rows_text}
use Rattle.table_dump.specs.Entry.{IsEntry}
use Rattle.table_dump.specs.Rising.{Rising}

-- ---- the next location lies behind
filtered : (p : ℕ → Bool) (ns : List ℕ) → AllByRecursion (λ n. p n ≡ true) (filter p ns)
filtered p [] = tt
filtered p (n ∷ ns) = by (p n) refl (filtered p ns)
  where
    by : (b : Bool) → p n ≡ b → AllByRecursion (λ n. p n ≡ true) (filter p ns) → AllByRecursion (λ n. p n ≡ true) (if b then n ∷ filter p ns else filter p ns)
    by true e rest = (e, rest)
    by false e rest = rest

folded : (P : ℕ → Type 0) (n : ℕ) (ns : List ℕ) → P n → AllByRecursion P ns → P (fold min n ns)
folded P n [] one all = one
folded P n (m ∷ ns) one all = folded P (min n m) ns (lesser (nat_le n m) refl) all.1
  where
    lesser : (b : Bool) → nat_le n m ≡ b → P (min n m)
    lesser true e = subst P (let s : n ≡ min n m = grind (arith, nat_tests, e) in s) one
    lesser false e = subst P (let s : m ≡ min n m = grind (arith, nat_tests, e) in s) all.0

least_in : (P : ℕ → Type 0) (ns : List ℕ) → AllByRecursion P ns → IfSome (least_of ns) P
least_in P [] all = tt
least_in P (n ∷ ns) all = folded P n ns all.0 all.1

each : (P Q : ℕ → Type 0) (o : Option ℕ) → ((n : ℕ) → P n → Q n) → IfSome o P → IfSome o Q
each P Q None step all = tt
each P Q (Some n) step all = step n all

next_behind : (f : Fde) (pc : ℕ) → IfSome (next_location f pc) (λ n. pc ≤ n)
unfolding next_location_of
next_behind f pc =
    let test : ℕ → Bool = λ l. nat_lt pc l && nat_le f.region.start l && nat_lt l (f.region.start + f.region.length) in
    let ls = locations_from f.region.start (f.cie.instructions ++ f.instructions) in
    each (λ n. test n ≡ true) (λ n. pc ≤ n) (least_of (filter test ls)) (λ n e. grind (arith, nat_tests, e)) (least_in (λ n. test n ≡ true) (filter test ls) (filtered test ls))

rising_within : (n : ℕ) (f : Fde) (from : ℕ) (o : Option ℕ) → IfSome o (λ pc. from ≤ pc) → Rising from (locations_within n f o)
unfolding locations_within
rising_within zero f from o behind = tt
rising_within (suc n) f from None behind = tt
rising_within (suc n) f from (Some pc) behind = (behind, rising_within n f pc (next_location f pc) (next_behind f pc))

rising : (f : Fde) (ls : List ℕ) → ls ≡ locations f → Rising f.region.start ls
rising f ls is = subst (Rising f.region.start) (sym is) (rising_within f.region.length f f.region.start (Some f.region.start) (omega arith))

-- ---- a row for each location
within : (n : ℕ) (f : Fde) (o : Option ℕ) → flat_map (row_text f) (locations_within n f o) ≡ rows_within n f o
unfolding locations_within rows_within
within zero f o = refl
within (suc n) f None = refl
within (suc n) f (Some pc) = ap (λ text. row_text f pc ++ text) (within n f (next_location f pc))

texts : (f : Fde) (ls : List ℕ) → ls ≡ locations f → flat_map (row_text f) ls ≡ rows_text f
texts f ls is = ap (flat_map (row_text f)) is ∙ within f.region.length f (Some f.region.start)

-- an empty region has none
pub none_put : (fde : listed.Fde) (f : Fde) (out : List ℕ) → fde ≡ fde_listed f → fde.region.length ≡ 0 → out ≡ out ++ rows_text f
unfolding rows_within
none_put fde f out is none =
    let same : f.region.length ≡ 0 = sym (ap (λ (x : listed.Fde). x.region.length) is) ∙ none in
    sym (ap (λ n. out ++ rows_within n f (Some f.region.start)) same ∙ append-nil out)

-- ---- an entry is listed, and a place of it is one of its frame
pub entry_listed : (memory : Memory) (l : Listing) (fde : listed.Fde) (f : Fde) → IsEntry memory l fde f → Contains l.fdes fde
entry_listed memory l fde f e =
    let i = e.stands.0 in let inside = e.stands.1 in let at = e.stands.2 in
    let same = ap (λ (x : Listing). x.fdes) e.lists in
    subst (λ xs. Contains xs fde) (sym same) (subst (Contains (map fde_listed e.read.fdes)) (sym e.listed)
    (i, omega (arith, inside, length-map e.read.fdes fde_listed), get_or-map fde_listed e.read.fdes i f (fde_listed f) inside ∙ ap fde_listed at))

pub starts_inside : (fde : listed.Fde) → (fde.region.length ≡ 0 → ⊥) → is_in fde.region fde.region.start ≡ true
starts_inside fde some = let more : 0 < fde.region.length = omega (arith, some) in grind (arith, nat_tests, more)

pub frame_of : (memory : Memory) (l : Listing) (fde : listed.Fde) (pc : ℕ) (f : Fde) → IsEntry memory l fde f → is_in fde.region pc ≡ true → IsFrameOf memory l fde pc f
frame_of memory l fde pc f e inside = record {
  header = e.header;
  read = e.read;
  reads = e.reads;
  lists = e.lists;
  stands = e.stands;
  listed = e.listed;
  inside = subst (λ (x : listed.Fde). is_in x.region pc ≡ true) e.listed inside;
}

-- ---- a row more
row_here : (f : Fde) (pc : ℕ) (row : Row) (until : Option ℕ) → HoldsUntil f pc row until → row_at f pc ≡ row
row_here f pc row None holds = holds pc (omega arith)
row_here f pc row (Some l) holds = holds.1 pc (omega arith) holds.0

-- the walk has come to a location, and the rest is printed behind what is out
pub record Printed (f : Fde) (all out : List ℕ) (w : RowWalk) (rest : List ℕ) : Type 0 where
  pub from : ℕ
  pub walk : IsWalk w f from
  pub rising : Rising from rest
  pub is : all ≡ out ++ flat_map (row_text f) rest

pub none_printed : (f : Fde) (out : List ℕ) (r : FdeRows) → AreRows r f → Printed f (out ++ rows_text f) out r.walk r.locations.items
none_printed f out r are = record {
  from = f.region.start;
  walk = are.walk;
  rising = rising f r.locations.items are.at;
  is = ap (λ text. out ++ text) (sym (texts f r.locations.items are.at));
}

pub row_turn : (f : Fde) (all out new : List ℕ) (v w : RowWalk) (pc : ℕ) (rest : List ℕ) (row : Row) (until : Option ℕ) → Printed f all out v (pc ∷ rest) → new ≡ out ++ row_line pc row →
    ((from : ℕ) → IsWalk v f from → from ≤ pc → IsWalk w f pc × HoldsUntil f pc row until) → Printed f all new w rest
row_turn f all out new v w pc rest row until p put goes =
    let gone = goes p.from p.walk p.rising.0 in
    record {
      from = pc;
      walk = gone.0;
      rising = p.rising.1;
      is = p.is ∙ sym (append_assoc out (row_text f pc) (flat_map (row_text f) rest))
          ∙ ap (λ xs. xs ++ flat_map (row_text f) rest) (ap (λ (r : Row). out ++ row_line pc r) (row_here f pc row until gone.1) ∙ sym put);
    }

pub all_printed : (f : Fde) (all out : List ℕ) (w : RowWalk) (rest : List ℕ) → Printed f all out w rest → rest ≡ [] → out ≡ all
all_printed f all out w rest p none = sym (p.is ∙ ap (λ xs. out ++ flat_map (row_text f) xs) none ∙ append-nil out)
