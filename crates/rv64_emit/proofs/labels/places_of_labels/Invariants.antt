use Rattle.std.proofs.Common.{◌≡◌, ℕ, drop, length, map}
use Rattle.std.specs.Prelude.{nat_eq, unwrap_or}
use Rattle.indexmap.specs.IndexMap.{get}
use Rattle.linear_forms.specs.Tables.{label_place}
use Rattle.landing_pads.specs.View.{linear_of}
use Rattle.rv64_emit.proofs.labels.places_of_labels.Given as goal

-- the places of the labels behind
abbrev pub invariant-loop-place : goal.invariant-loop-place
invariant-loop-place l =
    (m : ℕ) → unwrap_or (get nat_eq l.places m) (length l.ops) ≡ label_place (map linear_of (drop l.place l.ops)) m l.place
