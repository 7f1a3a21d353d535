-- The functions of frames by their FDEs as they are listed.
use Rattle.std.proofs.Common.{◌≡◌, ◌+◌, ◌<◌, ◌^◌, List, [], ◌∷◌, map, Ok, Err, Result, refl, subst}
use Rattle.std.specs.Prelude.{Option}
use Rattle.std.specs.List.{AllByRecursion}
use Rattle.eh_bytes.specs.Memory.{Memory}
use Rattle.table_forms.specs.Fault.{Fault, ◌>>=◌}
use Rattle.table_forms.specs.Lsda.{Table}
use Rattle.table_forms.specs.Fde as forms
use Rattle.elf_image.specs.Clean.{Function, table_named, functions_of}
use Rattle.frame_read.specs.Listed.{fde_listed}
use Rattle.lsda_pack.specs.Placings.{IsFunction, AreFunctions}

abbrev pub Ends : forms.Fde → Type 0
Ends f = f.region.start + f.region.length < 2 ^ 64

one : (memory : Memory) (f : forms.Fde) (t : Option Table) → Ends f → table_named memory f.lsda f.region ≡ Ok t → IsFunction memory (fde_listed f) (record { fde = f; table = t })
one memory f t ends read = record { lsda = refl; region = refl; ends = ends; table = read }

pub functions_are : (memory : Memory) (fs : List forms.Fde) → AllByRecursion Ends fs → (gs : List Function) → functions_of memory fs ≡ Ok gs → AreFunctions memory (map (λ g. fde_listed g.fde) gs) gs
functions_are memory [] end gs e = subst (λ hs. AreFunctions memory (map (λ (g : Function). fde_listed g.fde) hs) hs) (same [] gs (Ok []) refl e) tt
  where
    same : (xs ys : List Function) (r : Result (List Function) Fault) → Ok xs ≡ r → r ≡ Ok ys → xs ≡ ys
    same xs ys r e f = cc
functions_are memory (f ∷ fs) end gs e = by (λ hs. functions_are memory fs end.1 hs) (table_named memory f.lsda f.region) refl e
  where
    same : (xs ys : List Function) (r : Result (List Function) Fault) → Ok xs ≡ r → r ≡ Ok ys → xs ≡ ys
    same xs ys r e f = cc

    rest : (t : Option Table) → table_named memory f.lsda f.region ≡ Ok t → ((hs : List Function) → functions_of memory fs ≡ Ok hs → AreFunctions memory (map (λ g. fde_listed g.fde) hs) hs) →
        (r : Result (List Function) Fault) → functions_of memory fs ≡ r → (r >>= λ more. Ok (record { fde = f; table = t } ∷ more)) ≡ Ok gs → AreFunctions memory (map (λ g. fde_listed g.fde) gs) gs
    rest t read more (Err x) re e = absurd cc
    rest t read more (Ok hs) re e =
        subst (λ ys. AreFunctions memory (map (λ (g : Function). fde_listed g.fde) ys) ys) (same (record { fde = f; table = t } ∷ hs) gs (Ok (record { fde = f; table = t } ∷ hs)) refl e)
        (one memory f t end.0 read, more hs re)

    by : ((hs : List Function) → functions_of memory fs ≡ Ok hs → AreFunctions memory (map (λ g. fde_listed g.fde) hs) hs) → (r : Result (Option Table) Fault) → table_named memory f.lsda f.region ≡ r →
        ((r >>= λ t. Ok (record { fde = f; table = t })) >>= λ first. functions_of memory fs >>= λ more. Ok (first ∷ more)) ≡ Ok gs → AreFunctions memory (map (λ g. fde_listed g.fde) gs) gs
    by more (Err x) re e = absurd cc
    by more (Ok t) re e = rest t re more (functions_of memory fs) refl e
