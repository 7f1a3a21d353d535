-- What the tables say of a frame, by its FDE and its row.
use Rattle.std.proofs.Common.{◌≡◌, List, [], ◌∷◌, map, inl, inr, Option, Some, None, option_map, refl, ap, sym, subst, ◌∙◌, Contains}
use Rattle.std.specs.Prelude.{option_and_then, IfSome}
use Rattle.eh_bytes.specs.Memory.{Memory}
use Rattle.table_forms.specs.declared.found.Row.{Row}
use Rattle.table_forms.specs.Lsda.{Table}
use Rattle.table_forms.specs.Fde.{Fde, is_in, fde_for}
use Rattle.table_forms.specs.Verdict.{Thrown, look_up_place, verdict}
use Rattle.rv64_isa.specs.State.{State}
use Rattle.frame_read.proofs.Members.{In, find_in, in_contains}
use Rattle.frame_read.specs.declared.listed.Fde as shown
use Rattle.frame_read.specs.Listed.{fde_listed}
use Rattle.frame_walk.specs.declared.frame.Frame.{Frame}
use Rattle.frame_walk.specs.declared.located.Located.{Located}
use Rattle.frame_walk.specs.Located.{located_seen}
use Rattle.frame_walk.specs.Outward.{tables_of, with_row, row_for}
use Rattle.raise_core.specs.declared.lookup.Lookup.{Lookup}
use Rattle.raise_core.specs.Asked.{table_of, fde_of, verdict_of, as_target, target_at}
use Rattle.raise_core.specs.Lookups.{table_by, standing, IsLookup}

-- the table of its FDE
table_same : (memory : Memory) (fdes : List Fde) (f : Frame) → option_and_then (table_by memory) (row_for fdes f) ≡ option_and_then (table_of memory) (fde_of fdes f)
table_same memory fdes f = by (fde_of fdes f)
  where
    by : (o : Option Fde) → option_and_then (table_by memory) (option_map (with_row f) o) ≡ option_and_then (table_of memory) o
    by None = refl
    by (Some fde) = refl

pub verdict_same : (s : State) (fdes : List Fde) (thrown : Thrown) (f : Frame) (entry : Option (shown.Fde × Row)) → entry ≡ row_for fdes f →
    verdict (option_and_then (table_by (tables_of s)) entry) f.pc f.signal thrown ≡ verdict_of s fdes thrown f
unfolding verdict_of
verdict_same s fdes thrown f entry is =
    ap (λ (o : Option Table). verdict o f.pc f.signal thrown) (ap (option_and_then (table_by (tables_of s))) is ∙ table_same (tables_of s) fdes f)

pub target_same : (fdes : List Fde) (f : Frame) (entry : Option (shown.Fde × Row)) → entry ≡ row_for fdes f → option_map (as_target f) entry ≡ target_at fdes f
unfolding target_at
target_same fdes f entry is = ap (option_map (as_target f)) is

-- the tables say the same of each frame that stands at a place
pub entry_stands : (s : State) (fdes : List Fde) (thrown : Thrown) (lookup : Lookup) (f : Frame) → lookup.pc ≡ f.pc → lookup.signal ≡ f.signal → IsLookup s fdes thrown lookup →
    option_map located_seen lookup.entry ≡ row_for fdes f
entry_stands s fdes thrown lookup f pc signal says =
    says.entry ∙ ap (λ p. row_for fdes (standing p lookup.signal)) pc ∙ ap (λ b. row_for fdes (standing f.pc b)) signal

pub verdict_stands : (s : State) (fdes : List Fde) (thrown : Thrown) (lookup : Lookup) (f : Frame) → lookup.pc ≡ f.pc → lookup.signal ≡ f.signal → IsLookup s fdes thrown lookup →
    lookup.verdict ≡ verdict_of s fdes thrown f
unfolding verdict_of
verdict_stands s fdes thrown lookup f pc signal says =
    says.verdict ∙ ap (λ p. verdict_of s fdes thrown (standing p lookup.signal)) pc ∙ ap (λ b. verdict_of s fdes thrown (standing f.pc b)) signal

-- what is said of a frame is said of its place
pub is_lookup : (s : State) (fdes : List Fde) (thrown : Thrown) (lookup : Lookup) (f : Frame) → lookup.pc ≡ f.pc → lookup.signal ≡ f.signal → option_map located_seen lookup.entry ≡ row_for fdes f →
    lookup.verdict ≡ verdict_of s fdes thrown f → IsLookup s fdes thrown lookup
unfolding verdict_of
is_lookup s fdes thrown lookup f pc signal entry verdict = record {
  entry = entry ∙ ap (λ p. row_for fdes (standing p f.signal)) (sym pc) ∙ ap (λ b. row_for fdes (standing lookup.pc b)) (sym signal);
  verdict = verdict ∙ ap (λ p. verdict_of s fdes thrown (standing p f.signal)) (sym pc) ∙ ap (λ b. verdict_of s fdes thrown (standing lookup.pc b)) (sym signal);
}

-- an FDE that is found is listed
listed : (fdes : List Fde) (g : Fde) → In g fdes → In (fde_listed g) (map fde_listed fdes)
listed [] g here = here
listed (h ∷ fdes) g (inl e) = inl (ap fde_listed e)
listed (h ∷ fdes) g (inr there) = inr (listed fdes g there)

pub listed_there : (fdes : List Fde) (f : Frame) (P : shown.Fde → Type 0) → ((g : shown.Fde) → Contains (map fde_listed fdes) g → P g) → (entry : Option Located) → option_map located_seen entry ≡ row_for fdes f →
    IfSome entry (λ l. P l.fde)
listed_there fdes f P all entry is = opened entry (subst (λ o. IfSome o (λ e. P e.0)) (sym is) (by (fde_for fdes (look_up_place f.pc f.signal)) refl))
  where
    opened : (o : Option Located) → IfSome (option_map located_seen o) (λ e. P e.0) → IfSome o (λ l. P l.fde)
    opened None none = none
    opened (Some l) some = some

    by : (o : Option Fde) → fde_for fdes (look_up_place f.pc f.signal) ≡ o → IfSome (option_map (with_row f) o) (λ e. P e.0)
    by None is = tt
    by (Some g) is =
        all (fde_listed g) (in_contains (map fde_listed fdes) (fde_listed g) (listed fdes g (find_in (λ h. is_in h.region (look_up_place f.pc f.signal)) fdes g is).0))
