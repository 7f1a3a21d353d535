-- The slices of a schedule, one after the other.
use Rattle.std.proofs.Common.{◌≡◌, ◌∙◌, refl, sym, ap, subst, ℕ, zero, suc, ◌+◌, ◌-◌, ◌*◌, ◌<◌, ◌≤◌, Bool, List, [], ◌∷◌, ◌++◌, map, length, replicate, slice_get, slice_set, get_or, append_assoc, append-nil, Some, arith}
use Rattle.std.specs.Prelude.{Ok, Err, flat_map}
use Rattle.std.specs.List.{AllByRecursion}
use Rattle.std.proofs.lemmas.Grind.{flat_map-append}
use Rattle.std.proofs.lemmas.List.Sums.{sum_by-cons}
use Rattle.eh_outer.specs.Module.{ModuleView}
use Rattle.eh_outer.specs.Sink.{SinkView}
use Rattle.eh_outer.specs.declared.sink.SinkError.{SinkError}
use Rattle.eh_outer.specs.declared.sink.SinkError.TheVariants.{Failed}
use Rattle.run_items.proofs.Puts.{takes_none}
use Rattle.frame_read.specs.ReadsFrames.{Listing}
use Rattle.cxa_runtime.specs.Lasting.{LastsAs}
use Rattle.cxa_runtime.specs.Raising.{Image}
use Rattle.hart_sched.specs.declared.seat.Seat.{Seat}
use Rattle.hart_sched.specs.Hart.{Hart, live_of, live_over}
use Rattle.hart_sched.specs.Run.{Ran, Runs, order_of, turns_of}
use Rattle.hart_sched.specs.Schedule.{Slice, IsSchedule, IsSlice, turns_among}
use Rattle.hart_sched.specs.Seats.{hart_of, harts_of}
use Rattle.hart_sched.specs.Turns.{AreFresh, AreSeated, HadSlices, HasSlices, HasTurns, IsFresh, IsSeated, Remains, Sits}
use Rattle.hart_sched.proofs.Again.{live_changes}
use Rattle.hart_sched.proofs.Joins.{some_run, runs_join}
use Rattle.hart_sched.proofs.Pieces.{puts_more, puts_before}
use Rattle.hart_sched.proofs.Positions.{mapped}

-- ---- lists
pub size_set : {A : Type 0} (xs : List A) (k : ℕ) (y : A) → length (slice_set xs k y) ≡ length xs
size_set [] k y = refl
size_set (x ∷ xs) zero y = refl
size_set (x ∷ xs) (suc k) y = ap suc (size_set xs k y)

map_set : {A B : Type 0} (f : A → B) (xs : List A) (k : ℕ) (y : A) → map f (slice_set xs k y) ≡ slice_set (map f xs) k (f y)
map_set f [] k y = refl
map_set f (x ∷ xs) zero y = refl
map_set f (x ∷ xs) (suc k) y = ap (λ more. f x ∷ more) (map_set f xs k y)

all_at : {A : Type 0} (P : A → Type 0) (xs : List A) (k : ℕ) (x : A) → AllByRecursion P xs → slice_get xs k ≡ Some x → P x
all_at P [] k x h there = absurd cc
all_at P (y ∷ ys) zero x h there = subst P (same there) h.0
  where
    same : Some y ≡ Some x → y ≡ x
    same e = cc
all_at P (y ∷ ys) (suc k) x h there = all_at P ys k x h.1 there

all_set : {A : Type 0} (P : A → Type 0) (xs : List A) (k : ℕ) (y : A) → AllByRecursion P xs → P y → AllByRecursion P (slice_set xs k y)
all_set P [] k y h p = tt
all_set P (x ∷ xs) zero y h p = (p, h.1)
all_set P (x ∷ xs) (suc k) y h p = (h.0, all_set P xs k y h.1 p)

all_then : {A : Type 0} (P Q : A → Type 0) (xs : List A) → ((x : A) → P x → Q x) → AllByRecursion P xs → AllByRecursion Q xs
all_then P Q [] step h = tt
all_then P Q (x ∷ xs) step h = (step x h.0, all_then P Q xs step h.1)

all_behind : {A : Type 0} (P : A → Type 0) (xs : List A) (y : A) (ys : List A) → AllByRecursion P (xs ++ y ∷ ys) → P y
all_behind P [] y ys h = h.0
all_behind P (x ∷ xs) y ys h = all_behind P xs y ys h.1

pub get_at : (seats : List Seat) (k : ℕ) (s : Seat) → k < length seats → s ≡ get_or seats k s → slice_get seats k ≡ Some s
get_at [] k s h e = absurd (omega arith)
get_at (r ∷ seats) zero s h e = ap Some (sym e)
get_at (r ∷ seats) (suc k) s h e = get_at seats k s (omega arith) e

turns_both : (a b : List Slice) → turns_among (a ++ b) ≡ turns_among a + turns_among b
turns_both [] b = let nothing : turns_among [] ≡ 0 = refl in omega (arith, nothing)
turns_both (s ∷ a) b =
    let all = sum_by-cons (λ (t : Slice). t.1) s (a ++ b) in
    let front = sum_by-cons (λ (t : Slice). t.1) s a in
    let more = turns_both a b in omega (arith, all, front, more)

-- ---- bounds
pub record Within (n : ℕ) (seat : Seat) : Type 0 where
  pub turns : seat.runtime.turns ≤ n
  pub waits : seat.waits ≤ n
  pub live : live_of (hart_of seat) ≤ 4294967296

few_live : (n : ℕ) (seats : List Seat) → AllByRecursion (Within n) seats → live_over (harts_of seats) ≤ length seats * 4294967296
few_live n [] h = omega arith
few_live n (seat ∷ seats) h =
    let one = h.0.live in
    let more = few_live n seats h.1 in
    let sum = sum_by-cons live_of (hart_of seat) (harts_of seats) in omega (arith, one, more, sum)

live_within : (harts : List Hart) (k : ℕ) (hart : Hart) → slice_get harts k ≡ Some hart → live_of hart ≤ live_over harts
live_within [] k hart there = absurd cc
live_within (h ∷ harts) zero hart there =
    let sum = sum_by-cons live_of h harts in
    let is : live_of h ≡ live_of hart = ap live_of (same there) in omega (arith, sum, is)
  where
    same : Some h ≡ Some hart → h ≡ hart
    same e = cc
live_within (h ∷ harts) (suc k) hart there =
    let sum = sum_by-cons live_of h harts in
    let more = live_within harts k hart there in omega (arith, sum, more)

-- ---- on the way
-- behind the slices that are done
pub record OnWay (schedule rest : List Slice) (trace : Bool) (first now : List Seat) (live : ℕ) (before after : List ModuleView) (sink sink' : SinkView) : Type 0 where
  pub done : List Slice
  pub split : schedule ≡ done ++ rest
  pub size : length now ≡ length first
  pub within : AllByRecursion (Within (turns_among done)) now
  pub live_is : live ≡ live_over (harts_of now)
  pub had : (image : Image) → AreSeated image first → before ≡ [] → HadSlices image done trace first now after sink sink'

no_live : (seats : List Seat) → AreFresh seats → live_over (harts_of seats) ≡ 0
no_live [] h = refl
no_live (seat ∷ seats) h =
    let one = h.0.live in
    let more = no_live seats h.1 in
    let sum = sum_by-cons live_of (hart_of seat) (harts_of seats) in omega (arith, one, more, sum)

fresh_within : (seat : Seat) → IsFresh seat → Within 0 seat
fresh_within seat h =
    let turns = h.turns in
    let waits = h.waits in
    let live = h.live in record { turns = omega (arith, turns); waits = omega (arith, waits); live = omega (arith, live) }

pub way_first : (schedule : List Slice) (trace : Bool) (first : List Seat) (before : List ModuleView) (sink : SinkView) → AreFresh first → OnWay schedule schedule trace first first 0 before before sink sink
unfolding order_of
way_first schedule trace first before sink fresh = record {
  done = [];
  split = refl;
  size = refl;
  within = all_then IsFresh (Within 0) first fresh_within fresh;
  live_is = sym (no_live first fresh);
  had = λ image seated none. record { told = []; runs = refl; takes = takes_none sink; none = none; seated = seated };
}

-- the slice that is next
pub record Next (schedule : List Slice) (number turns : ℕ) (others : List Slice) (now : List Seat) (live : ℕ) (seat : Seat) : Type 0 where
  pub there : slice_get now number ≡ Some seat
  pub own : live_of (hart_of seat) ≤ live
  pub few : live ≤ 34359738368
  pub taken : seat.runtime.turns + turns ≤ 1099511627776
  pub waited : seat.waits + turns ≤ 1099511627776

pub low : (schedule : List Slice) (number turns : ℕ) (others : List Slice) (trace : Bool) (first now : List Seat) (live : ℕ) (before after : List ModuleView) (sink sink' : SinkView) →
    IsSchedule (length first) schedule → OnWay schedule ((number, turns) ∷ others) trace first now live before after sink sink' → number < length now
low schedule number turns others trace first now live before after sink sink' fits h =
    let slice = all_behind (IsSlice (length first)) h.done (number, turns) others (subst (λ (ss : List Slice). AllByRecursion (IsSlice (length first)) ss) h.split fits.each) in
    let size = h.size in
    let below = slice.hart in omega (arith, size, below)

pub next_is : (schedule : List Slice) (number turns : ℕ) (others : List Slice) (trace : Bool) (first now : List Seat) (live : ℕ) (before after : List ModuleView) (sink sink' : SinkView) (seat : Seat) →
    length first ≤ 8 → IsSchedule (length first) schedule → OnWay schedule ((number, turns) ∷ others) trace first now live before after sink sink' → slice_get now number ≡ Some seat →
    Next schedule number turns others now live seat
next_is schedule number turns others trace first now live before after sink sink' seat few fits h there =
    let size = h.size in
    let total = few_live (turns_among h.done) now h.within in
    let within = all_at (Within (turns_among h.done)) now number seat h.within there in
    let own = live_within (harts_of now) number (hart_of seat) (mapped hart_of now number seat there) in
    let live_is = h.live_is in
    let a = within.turns in
    let b = within.waits in
    let sum = turns_both h.done ((number, turns) ∷ others) in
    let rest = sum_by-cons (λ (t : Slice). t.1) (number, turns) others in
    let all : turns_among schedule ≤ 1099511627776 = fits.few in
    let whole : turns_among schedule ≡ turns_among (h.done ++ (number, turns) ∷ others) = ap turns_among h.split in record {
      there = there;
      own = omega (arith, own, live_is);
      few = omega (arith, total, live_is, size, few);
      taken = omega (arith, a, sum, rest, all, whole);
      waited = omega (arith, b, sum, rest, all, whole);
    }

order_more : (done : List Slice) (number turns : ℕ) → order_of done ++ replicate turns number ≡ order_of (done ++ (number, turns) ∷ [])
unfolding order_of
order_more done number turns = sym (flat_map-append turns_of done ((number, turns) ∷ []) ∙ ap (λ (ks : List ℕ). flat_map turns_of done ++ ks) (append-nil (replicate turns number)))

-- where the hart of the slice sits
sits_there : (image : Image) (number : ℕ) (now : List Seat) (live elsewhere : ℕ) (modules : List ModuleView) (seat : Seat) → slice_get now number ≡ Some seat → live ≡ live_over (harts_of now) →
    live ≡ elsewhere + live_of (hart_of seat) → AreSeated image now → modules ≡ [] → Sits image number seat elsewhere modules (harts_of now)
sits_there image number now live elsewhere modules seat there live_is parts seated none =
    let s = all_at (IsSeated image) now number seat seated there in record {
      there = mapped hart_of now number seat there;
      live = sym live_is ∙ parts;
      lasts = s.lasts;
      places = s.places;
      none = none;
    }

seated_then : (image : Image) (n : ℕ) (old new : Seat) → Remains n old new → IsSeated image old → IsSeated image new
seated_then image n old new h s = record {
  lasts = subst (λ (frames : Listing). LastsAs new.runtime.hart frames image.fdes) (sym h.frames) (λ t e. s.lasts t (e ∙ h.memory));
  places = h.places ∙ s.places;
}

within_then : (n m : ℕ) (seat : Seat) → n ≤ m → Within n seat → Within m seat
within_then n m seat less h = let a = h.turns in let b = h.waits in record { turns = omega (arith, a, less); waits = omega (arith, b, less); live = h.live }

-- the slice was taken
pub way_next : (schedule : List Slice) (number turns : ℕ) (others : List Slice) (trace : Bool) (first now : List Seat) (live elsewhere own : ℕ) (before mods after : List ModuleView) (old mid last : SinkView) (seat new : Seat) →
    OnWay schedule ((number, turns) ∷ others) trace first now live before mods old mid → slice_get now number ≡ Some seat → live ≡ elsewhere + live_of (hart_of seat) → own ≡ live_of (hart_of new) → own < 4294967296 →
    HasTurns number turns trace elsewhere seat new mods after mid last (Ok tt) → Remains turns seat new →
    OnWay schedule others trace first (slice_set now number new) (elsewhere + own) before after old last
way_next schedule number turns others trace first now live elsewhere own before mods after old mid last seat new h there parts own_is small has remains =
    let done' = h.done ++ (number, turns) ∷ [] in
    let seat_within = all_at (Within (turns_among h.done)) now number seat h.within there in
    let a = seat_within.turns in
    let b = seat_within.waits in
    let x = remains.turns in
    let y = remains.waits in
    let sum = turns_both h.done ((number, turns) ∷ []) in
    let one = sum_by-cons (λ (t : Slice). t.1) (number, turns) [] in
    let nothing : turns_among [] ≡ 0 = refl in
    let less : turns_among h.done ≤ turns_among done' = omega (arith, sum) in
    let changed = live_changes (harts_of now) number (hart_of seat) (hart_of new) (mapped hart_of now number seat there) in
    let set = map_set hart_of now number new in
    let live_is = h.live_is in
    let over : live_over (harts_of (slice_set now number new)) ≡ live_over (slice_set (harts_of now) number (hart_of new)) = ap live_over set in record {
      done = done';
      split = h.split ∙ sym (append_assoc h.done ((number, turns) ∷ []) others);
      size = size_set now number new ∙ h.size;
      within = all_set (Within (turns_among done')) now number new (all_then (Within (turns_among h.done)) (Within (turns_among done')) now (λ s. within_then (turns_among h.done) (turns_among done') s less) h.within)
          (record { turns = omega (arith, a, x, sum, one, nothing); waits = omega (arith, b, y, sum, one, nothing); live = omega (arith, own_is, small) });
      live_is = omega (arith, changed, over, live_is, parts, own_is);
      had = λ image seated none.
          let had = h.had image seated none in
          let slice = has image (harts_of now) (sits_there image number now live elsewhere mods seat there h.live_is parts had.seated had.none) in
          let runs = runs_join image (order_of h.done) (replicate turns number) (harts_of first) (record { told = had.told; harts = harts_of now }) (record { told = slice.told; harts = slice_set (harts_of now) number (hart_of new) }) had.runs slice.runs in
          record {
            told = had.told ++ slice.told;
            runs = subst (λ (ks : List ℕ). Runs image ks (harts_of first) (record { told = had.told ++ slice.told; harts = harts_of (slice_set now number new) })) (order_more h.done number turns)
                (subst (λ (hs : List Hart). Runs image (order_of h.done ++ replicate turns number) (harts_of first) (record { told = had.told ++ slice.told; harts = hs })) (sym set) runs);
            takes = puts_more trace had.told slice.told old mid last (Ok tt) had.takes slice.takes;
            none = slice.none;
            seated = all_set (IsSeated image) now number new had.seated (seated_then image turns seat new remains (all_at (IsSeated image) now number seat had.seated there));
          };
    }

order_whole : (schedule done : List Slice) (number turns : ℕ) (others : List Slice) → schedule ≡ done ++ (number, turns) ∷ others → (order_of done ++ replicate turns number) ++ order_of others ≡ order_of schedule
unfolding order_of
order_whole schedule done number turns others split =
    append_assoc (flat_map turns_of done) (replicate turns number) (flat_map turns_of others) ∙ sym (ap (flat_map turns_of) split ∙ flat_map-append turns_of done ((number, turns) ∷ others))

-- a line of it failed
pub way_fails : (schedule : List Slice) (number turns : ℕ) (others : List Slice) (trace : Bool) (first now last_seats : List Seat) (live elsewhere : ℕ) (before mods after : List ModuleView) (old mid last : SinkView) (seat new : Seat) (e : SinkError) →
    OnWay schedule ((number, turns) ∷ others) trace first now live before mods old mid → slice_get now number ≡ Some seat → live ≡ elsewhere + live_of (hart_of seat) →
    HasTurns number turns trace elsewhere seat new mods after mid last (Err e) → HasSlices schedule trace first last_seats before after old last (Err e)
way_fails schedule number turns others trace first now last_seats live elsewhere before mods after old mid last seat new Failed h there parts has = λ image seated none.
    let had = h.had image seated none in
    let slice = has image (harts_of now) (sits_there image number now live elsewhere mods seat there h.live_is parts had.seated had.none) in
    let front : Ran = record { told = had.told ++ slice.ran.told; harts = slice.ran.harts } in
    let runs = runs_join image (order_of h.done) (replicate turns number) (harts_of first) (record { told = had.told; harts = harts_of now }) slice.ran had.runs slice.runs in
    let rest = some_run image (order_of others) slice.ran.harts in
    let all = runs_join image (order_of h.done ++ replicate turns number) (order_of others) (harts_of first) front rest.0 runs rest.1 in record {
      ran = record { told = front.told ++ rest.0.told; harts = rest.0.harts };
      runs = subst (λ (ks : List ℕ). Runs image ks (harts_of first) (record { told = front.told ++ rest.0.told; harts = rest.0.harts })) (order_whole schedule h.done number turns others h.split) all;
      fails = puts_before trace front.told rest.0.told old last Failed (puts_more trace had.told slice.ran.told old mid last (Err Failed) had.takes slice.fails);
    }

-- all slices are taken
pub way_done : (schedule rest : List Slice) (trace : Bool) (first now : List Seat) (live : ℕ) (before after : List ModuleView) (sink sink' : SinkView) → rest ≡ [] → OnWay schedule rest trace first now live before after sink sink' →
    HasSlices schedule trace first now before after sink sink' (Ok tt)
way_done schedule rest trace first now live before after sink sink' none h = λ image seated empty.
    let all : h.done ≡ schedule = sym (h.split ∙ ap (λ (ss : List Slice). h.done ++ ss) none ∙ append-nil h.done) in
    subst (λ (ss : List Slice). HadSlices image ss trace first now after sink sink') all (h.had image seated empty)

pub no_more : (slices : List Slice) → length slices ≡ 0 → slices ≡ []
no_more [] e = refl
no_more (s ∷ ss) e = absurd (omega (arith, e))

-- ---- the slice that is next
pub low_at : {schedule rest : List Slice} {trace : Bool} {first now : List Seat} {live : ℕ} {before after : List ModuleView} {sink sink' : SinkView} (number turns : ℕ) (others : List Slice) →
    OnWay schedule rest trace first now live before after sink sink' → rest ≡ (number, turns) ∷ others → IsSchedule (length first) schedule → number < length now
low_at {schedule} {rest} {trace} {first} {now} {live} {before} {after} {sink} {sink'} number turns others h is fits =
    low schedule number turns others trace first now live before after sink sink' fits (subst (λ (r : List Slice). OnWay schedule r trace first now live before after sink sink') is h)

-- what is known of it, and of its hart
pub record AtSlice (schedule : List Slice) (number turns : ℕ) (others : List Slice) (trace : Bool) (first now : List Seat) (live : ℕ) (before after : List ModuleView) (sink sink' : SinkView) (seat : Seat) : Type 0 where
  pub way : OnWay schedule ((number, turns) ∷ others) trace first now live before after sink sink'
  pub next : Next schedule number turns others now live seat

pub at_slice : {schedule rest : List Slice} {trace : Bool} {first now : List Seat} {live : ℕ} {before after : List ModuleView} {sink sink' : SinkView} (number turns : ℕ) (others : List Slice) (seat : Seat) →
    OnWay schedule rest trace first now live before after sink sink' → rest ≡ (number, turns) ∷ others → length first ≤ 8 → IsSchedule (length first) schedule → seat ≡ get_or now number seat →
    AtSlice schedule number turns others trace first now live before after sink sink' seat
at_slice {schedule} {rest} {trace} {first} {now} {live} {before} {after} {sink} {sink'} number turns others seat h is few fits at =
    let way = subst (λ (r : List Slice). OnWay schedule r trace first now live before after sink sink') is h in
    let there = get_at now number seat (low schedule number turns others trace first now live before after sink sink' fits way) at in
    record { way = way; next = next_is schedule number turns others trace first now live before after sink sink' seat few fits way there }

-- it was taken, by a hart that held so many objects and now has its own
pub slice_taken : {schedule others : List Slice} {number turns : ℕ} {trace : Bool} {first now : List Seat} {live : ℕ} {before mods : List ModuleView} {old mid : SinkView} {seat : Seat} (held own : ℕ) (new : Seat) (after : List ModuleView) (last : SinkView) →
    AtSlice schedule number turns others trace first now live before mods old mid seat → held ≡ live_of (hart_of seat) → own ≡ live_of (hart_of new) → own < 4294967296 →
    HasTurns number turns trace (live - held) seat new mods after mid last (Ok tt) → Remains turns seat new → OnWay schedule others trace first (slice_set now number new) (live - held + own) before after old last
slice_taken {schedule} {others} {number} {turns} {trace} {first} {now} {live} {before} {mods} {old} {mid} {seat} held own new after last at held_is own_is small has remains =
    let within = at.next.own in
    let parts : live ≡ live - held + live_of (hart_of seat) = omega (arith, held_is, within) in
    way_next schedule number turns others trace first now live (live - held) own before mods after old mid last seat new at.way at.next.there parts own_is small has remains

-- a line of it failed
pub slice_failed : {schedule others : List Slice} {number turns : ℕ} {trace : Bool} {first now : List Seat} {live : ℕ} {before mods : List ModuleView} {old mid : SinkView} {seat : Seat} (held : ℕ) (new : Seat) (last_seats : List Seat) (after : List ModuleView) (last : SinkView) (e : SinkError) →
    AtSlice schedule number turns others trace first now live before mods old mid seat → held ≡ live_of (hart_of seat) → HasTurns number turns trace (live - held) seat new mods after mid last (Err e) →
    HasSlices schedule trace first last_seats before after old last (Err e)
slice_failed {schedule} {others} {number} {turns} {trace} {first} {now} {live} {before} {mods} {old} {mid} {seat} held new last_seats after last e at held_is has =
    let within = at.next.own in
    let parts : live ≡ live - held + live_of (hart_of seat) = omega (arith, held_is, within) in
    way_fails schedule number turns others trace first now last_seats live (live - held) before mods after old mid last seat new e at.way at.next.there parts has
