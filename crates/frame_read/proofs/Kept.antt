-- What is kept of a CIE is what its instructions leave.
use Rattle.std.proofs.Common.{◌≡◌, ◌+◌, ◌-◌, ◌≤◌, ◌<◌, ◌^◌, ℕ, true, false, min, filter, Option, option_and_then, option_map, Some, None, List, ◌++◌, length, Result, Ok, Err, refl, ap, sym, subst, ◌∙◌, arith, fold}
use Rattle.std.specs.Prelude.{Bool, IfSome, if◌then◌else◌, nat_eq, nat_lt}
use Rattle.std.specs.Borrow.{Bor}
use Rattle.std.specs.BTreeMap.{get, is_at}
use Rattle.std.specs.Ordering.{is_eq, nat_cmp}
use Rattle.std.specs.declared.cmp.Ordering.TheVariants.{Less, Equal, Greater}
use Rattle.std.proofs.lemmas.Bool.Decides.{nat_tests}
use Rattle.std.proofs.lemmas.List.{append-nil}
use Rattle.eh_bytes.specs.declared.segment.Segments.{Segments}
use Rattle.eh_bytes.specs.Memory.{Part, Memory, covers, memory_of, part_with}
use Rattle.table_forms.specs.Cie.{Cie}
use Rattle.table_forms.specs.Fault.{Fault, ◌>>=◌}
use Rattle.table_forms.specs.Fde.{Fde, is_in}
use Rattle.table_forms.specs.Instruction.{Instruction}
use Rattle.table_forms.specs.Instructions.{Instructions, instructions_at}
use Rattle.table_forms.specs.Row.{Folding, begun, after, stepped, with_initial, row_of}
use Rattle.table_forms.proofs.RowFold.{Below, fold_on}
use Rattle.frame_read.specs.CieFold.{AllStay, IsFold, StaysOver, fold_seen}
use Rattle.frame_read.specs.CieFolds.{AreFolds, cie_in}
use Rattle.frame_read.specs.Entry.{cie_here}
use Rattle.frame_read.specs.FdeRows.{HasCies}
use Rattle.frame_read.specs.Heads.{cie_after, cie_with}
use Rattle.frame_read.specs.Known.{IsKnown}
use Rattle.frame_read.specs.Moves.{MovesOver}
use Rattle.frame_read.specs.RowWalk.{IsLeft, IsOwn}
use Rattle.frame_read.specs.Seen.{coding_seen}
use Rattle.frame_read.specs.SeenRow.{folding_seen}
use Rattle.frame_read.specs.States.{list_of, states_of}
use Rattle.frame_read.specs.declared.cie_fold.CieFold.{CieFold}
use Rattle.frame_read.specs.declared.cie_folds.CieFolds.{CieFolds}
use Rattle.frame_read.specs.declared.cie_part.CiePart.{CiePart}
use Rattle.frame_read.specs.declared.folding.Folding as kept
use Rattle.frame_read.specs.declared.lookup.FdeHere.{FdeHere}
use Rattle.frame_read.specs.declared.moves.Moves.{Moves}
use Rattle.frame_read.proofs.FoundAgain.{same_part}
use Rattle.frame_read.proofs.Moved.{own_left}
use Rattle.frame_read.proofs.Stays.{elsewhere, fold_elsewhere, stay_behind, stay_below, stay_reach_none}

-- the instructions of a CIE that can be read
pub record ReadsAs (part : Part) (c : CiePart) (cie : Cie) : Type 0 where
  pub list : Instructions
  pub read : instructions_at (coding_seen c.coding) part c.stop c.first 0 ≡ Ok list
  pub same : cie ≡ cie_with part c list

pub reads_as : (part : Part) (c : CiePart) (cie : Cie) → cie_after part c ≡ Ok cie → ReadsAs part c cie
reads_as part c cie e = by (instructions_at (coding_seen c.coding) part c.stop c.first 0) refl e
  where
    by : (r : Result Instructions Fault) → instructions_at (coding_seen c.coding) part c.stop c.first 0 ≡ r → (r >>= λ is. Ok (cie_with part c is)) ≡ Ok cie → ReadsAs part c cie
    by (Err f) read e = absurd cc
    by (Ok is) read e = record { list = is; read = read; same = one (cie_with part c is) e }
      where
        one : (x : Cie) → (λ (w : Result Cie Fault). w) (Ok x) ≡ Ok cie → cie ≡ x
        one x e = cc

pub all_left : (part : Part) (c : CiePart) (cie : Cie) (r : ReadsAs part c cie) (states : ℕ) → states ≡ 0 → IsLeft (coding_seen c.coding) part c.stop states c.first r.list.list r.list.states
all_left part c cie r states none =
    subst (λ n. IsLeft (coding_seen c.coding) part c.stop n c.first r.list.list r.list.states) (sym none)
    (record { fuel = c.stop; enough = omega arith; list = sym (ap list_of r.read); kept = ap states_of r.read })

-- the fold from one start is that from each
from_each : (s : Folding) (is : List Instruction) (t : Folding) (start : ℕ) → s ≡ begun 0 → StaysOver s is t → fold after (begun start) is ≡ elsewhere start t
unfolding begun
from_each s is t start first over =
    fold_elsewhere is start (begun 0) over.stay ∙ ap (elsewhere start) (ap (λ x. fold after x is) (sym first) ∙ sym over.over)

pub is_fold : (part : Part) (c : CiePart) (cie : Cie) (r : ReadsAs part c cie) (b t : kept.Folding) (k : CieFold) (count : ℕ) → folding_seen b ≡ begun 0 → StaysOver (folding_seen b) r.list.list (folding_seen t) →
    t.stopped ≡ false → count ≡ r.list.states → count ≡ length t.states.items → count ≤ 16 → k.row ≡ t.row → k.states.items ≡ t.states.items → IsFold k cie
is_fold part c cie r b t k count first over goes counted long few row states = subst (IsFold k) (sym r.same) (record {
  stay = over.stay;
  folds = λ start. ap with_initial (from_each (folding_seen b) r.list.list (folding_seen t) start first over) ∙ seen start;
  states = ap (λ xs. length xs) states ∙ sym long ∙ counted;
  few = let same = ap (λ xs. length xs) states in omega (arith, same, long, few);
})
  where
    seen : (start : ℕ) → with_initial (elsewhere start (folding_seen t)) ≡ fold_seen k start
    seen start = rw (row, states, goes) refl

-- ---- before the instructions of an FDE
pub owns : (part : Part) (h : FdeHere) (f : Fde) (k : CieFold) (s : Folding) (states : ℕ) → IsKnown part h f → IsFold k f.cie → s ≡ fold_seen k h.fde.region.start → states ≡ length k.states.items →
    IsOwn (coding_seen h.cie.coding) part h.fde.stop states h.fde.first s f f.region.start
unfolding row_of begun
owns part h f k s states known is seen count =
    let start = ap (λ (x : Fde). x.region.start) known.same in
    let counted : states ≡ known.common.states = count ∙ is.states ∙ ap (λ (x : Fde). x.cie.states) known.same in
    record {
      left = known.own.list;
      after = known.own.states;
      is = subst (λ n. IsLeft (coding_seen h.cie.coding) part h.fde.stop n h.fde.first known.own.list known.own.states) (sym counted) (own_left part h f known);
      gives = λ q from.
          ap (λ x. (fold (stepped q) x known.own.list).row) (seen ∙ sym (is.folds h.fde.region.start) ∙ ap with_initial (sym (whole q from)))
          ∙ ap (λ (x : Fde). (fold (stepped q) (with_initial (fold (stepped q) (begun h.fde.region.start) f.cie.instructions)) x.instructions).row) (sym known.same)
          ∙ ap (λ n. (fold (stepped q) (with_initial (fold (stepped q) (begun n) f.cie.instructions)) f.instructions).row) (sym start);
    }
  where
    begins : (q : ℕ) → h.fde.region.start ≤ q → Below q (begun h.fde.region.start) f.cie.instructions
    begins q low = stay_below f.cie.instructions q (begun h.fde.region.start) is.stay refl low

    whole : (q : ℕ) → f.region.start ≤ q → fold (stepped q) (begun h.fde.region.start) f.cie.instructions ≡ fold after (begun h.fde.region.start) f.cie.instructions
    whole q from = fold_on q (begun h.fde.region.start) f.cie.instructions (begins q (subst (λ n. n ≤ q) (ap (λ (x : Fde). x.region.start) known.same) from))

-- ---- they reach no location
pub none_reached : (m : Moves) (l : ℕ) (is : List Instruction) → AllStay is → m.location ≡ min l (2 ^ 64) → MovesOver m m l is
none_reached m l is stay at = record {
  at = at ∙ ap (λ n. min n (2 ^ 64)) (sym (stay_behind is l stay));
  reached = sym (ap (λ ls. m.reached.items ++ filter (is_in m.region) ls) (stay_reach_none is l stay) ∙ append-nil m.reached.items);
}

-- ---- in a memory
pub known_reads : (part : Part) (h : FdeHere) (f : Fde) → IsKnown part h f → cie_after part h.cie ≡ Ok f.cie
known_reads part h f known =
    ap (λ r. r >>= λ is. Ok (cie_with part h.cie is)) known.common_read ∙ ap (λ (x : Fde). Ok x.cie) (sym known.same)

pub has_cies : (m : Segments) (address : ℕ) (part : Part) → part_with (memory_of m) address ≡ Some part → HasCies (memory_of m) part
has_cies m address part there = λ at cie inside here.
    let covered : covers part (part.address + at) ≡ true = grind (arith, nat_tests, inside) in
    let same = same_part m.parts.items address (part.address + at) part m.apart there covered in
    let back : part.address + at - part.address ≡ at = omega arith in
    ap (option_and_then (λ p. cie_here p (part.address + at - p.address))) same ∙ ap (cie_here part) back ∙ here

-- the CIE of an FDE is the one there
pub its_cie : (memory : Memory) (part : Part) (h : FdeHere) (f : Fde) → IsKnown part h f → HasCies memory part → h.cie.at < length part.bytes → cie_here part h.cie.at ≡ Some f.cie →
    (cie : Cie) → cie_in memory (part.address + h.cie.at) ≡ Some cie → cie_after part h.cie ≡ Ok cie
its_cie memory part h f known has inside here cie is = known_reads part h f known ∙ ap (λ (x : Cie). Ok x) (one f.cie cie (sym (has h.cie.at f.cie inside here) ∙ is))
  where
    one : (x y : Cie) → (λ (w : Option Cie). w) (Some x) ≡ Some y → x ≡ y
    one x y e = cc

pub keeps_true : (memory : Memory) (m : CieFolds) (address : ℕ) (cie : Cie) (o : Option (Bor CieFold)) → AreFolds memory m → cie_in memory address ≡ Some cie →
    option_map (λ k. k.now) o ≡ get nat_cmp m.folds address → IfSome o (λ k. IsFold k.now cie)
keeps_true memory m address cie None are there found = tt
keeps_true memory m address cie (Some k) are there found = are address k.now cie (sym found) there

-- one more is kept
pub put_true : (memory : Memory) (m n : CieFolds) (at : ℕ) (v : CieFold) → ((q : ℕ) → get nat_cmp n.folds q ≡ (if is_at (nat_cmp at) q then Some v else get nat_cmp m.folds q)) → AreFolds memory m →
    ((cie : Cie) → cie_in memory at ≡ Some cie → IsFold v cie) → AreFolds memory n
put_true memory m n at v says are is = λ address k cie found there. by address k cie there (is_at (nat_cmp at) address) refl (sym (says address) ∙ found)
  where
    some_same : (x y : CieFold) → (λ (w : Option CieFold). w) (Some x) ≡ Some y → x ≡ y
    some_same x y e = cc

    here : (a : ℕ) (less same : Bool) → nat_lt at a ≡ less → nat_eq at a ≡ same → is_eq (if less then Less else if same then Equal else Greater) ≡ true → at ≡ a
    here a true same e f t = absurd cc
    here a false true e f t = grind (arith, nat_tests, f)
    here a false false e f t = absurd cc

    by : (address : ℕ) (k : CieFold) (cie : Cie) → cie_in memory address ≡ Some cie → (b : Bool) → is_at (nat_cmp at) address ≡ b → (if b then Some v else get nat_cmp m.folds address) ≡ Some k → IsFold k cie
    by address k cie there true e found =
        let same = here address (nat_lt at address) (nat_eq at address) refl refl e in
        subst (λ x. IsFold x cie) (some_same v k found) (is cie (ap (cie_in memory) same ∙ there))
    by address k cie there false e found = are address k cie found there
