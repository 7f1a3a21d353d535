-- Jumps on filters, in a whole run.
use Rattle.std.proofs.Common.{◌≡◌, ◌∙◌, refl, sym, ap, ℕ, ℤ, Bool, true, false, List, [], append-nil, if◌then◌else◌}
use Rattle.run_items.specs.declared.item.Item.{Item}
use Rattle.eh_run.specs.Program.{program_of}
use Rattle.linear_forms.specs.Linear.{LinearOp, jump_filter}
use Rattle.linear_forms.specs.Activation.{State, Code, Next, goes_to, finishes, on}
use Rattle.linear_forms.specs.Operation.{holds_number, jumped}
use Rattle.linear_invariant.proofs.Asked.{tests_are_asked}
use Rattle.machine_exceptions.specs.Filters.{FiltersRun}
use Rattle.machine_exceptions.specs.Makes.{IsWordSlot}
use Rattle.step_law.specs.Facts.{regions_for, code_for}
use Rattle.step_law.specs.Filters.{FiltersFollow}
use Rattle.step_law.proofs.At.{is_static, fetches, acts_to, stays_follow}
use Rattle.step_law.proofs.Keeping.{unmarked_stands}
use Rattle.step_law.proofs.Settling.{StaysOrStops, StaysCalmly, unchanged}

filter_stays : (code : Code) (st : State) (s l : ℕ) (filter : ℤ) → StaysCalmly code st (jump_filter s filter l)
filter_stays code st s l filter = record { stays = by (holds_number (st.top.frame.slots s) filter); calm = λ op same. absurd (cc same) }
  where
    by : (b : Bool) → StaysOrStops st (if b then jumped code l st.top st.frames st.world else on st.top st.top.frame st.frames st.world)
    by true = record { function = refl; frames = refl; call = refl; world = unchanged st.world }
    by false = record { function = refl; frames = refl; call = refl; world = unchanged st.world }

-- nothing is shown
abbrev items_in : Next → List Item
items_in (goes_to m) = m.world.items
items_in (finishes f v) = v.items

none_shown : (code : Code) (st next : State) (l : ℕ) (b : Bool) → (if b then jumped code l st.top st.frames st.world else on st.top st.top.frame st.frames st.world) ≡ goes_to next → next.world.items ≡ st.world.items
none_shown code st next l true e = sym (ap items_in e)
none_shown code st next l false e = sym (ap items_in e)

pub filters_follow : FiltersRun → FiltersFollow
filters_follow run x q before n s l filter st w at =
    let o : LinearOp = jump_filter s filter l in
    let h = is_static x q before n o st w at in
    let slot : IsWordSlot q n s = record { inside = h.inside; plain = h.plain; near = h.near } in
    let tested = tests_are_asked (regions_for x.program) x.carrying at.stands.steps s l filter st at.facts.fits (unmarked_stands x.program x.image x.carrying x.tables q before st w at.stands) (fetches x q before n o st w at) in
    let int = at.facts.jumps q at.stands.unit n st.top.place s l filter at.there in
    stays_follow x q before n o st w at (filter_stays (code_for x.program) st s l filter)
    (λ next st_at stays.
    let none = none_shown (code_for x.program) st next l (holds_number (st.top.frame.slots s) filter) (acts_to x q before n o st w at next st_at) in
    ([], (λ e. refl), none ∙ sym (append-nil st.world.items), run (program_of x.image).image q n s l filter tested.0 st next w at.matches st_at slot tested.1 int))
