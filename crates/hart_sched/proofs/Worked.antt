-- Schedules that are read or refused, by computation.
use Rattle.std.proofs.Common.{◌≡◌, refl, [], ◌∷◌, Ok, Err, Some, None}
use Rattle.std.specs.Prelude.{codes}
use Rattle.plain_text.specs.Lines.{lines_of}
use Rattle.hart_sched.specs.Schedule.{schedule, entries_from, line_read, parted, fault_from}
use Rattle.hart_sched.specs.Decimal.{number_in}

two_lines : schedule 2 (codes "1 20000\n0 20000\n") ≡ Ok ((1, 20000) ∷ (0, 20000) ∷ [])
unfolding schedule lines_of entries_from line_read parted fault_from number_in
two_lines = refl

empty : schedule 1 [] ≡ Ok []
unfolding schedule lines_of entries_from line_read parted fault_from number_in
empty = refl

no_such_hart : schedule 1 (codes "1 5\n") ≡ Err (record { number = 81; place = 0 })
unfolding schedule lines_of entries_from line_read parted fault_from number_in
no_such_hart = refl

two_blanks : schedule 1 (codes "0  5\n") ≡ Err (record { number = 80; place = 0 })
unfolding schedule lines_of entries_from line_read parted fault_from number_in
two_blanks = refl

form_first : schedule 1 (codes "7 5\n0 1\n0 5") ≡ Err (record { number = 80; place = 8 })
unfolding schedule lines_of entries_from line_read parted fault_from number_in
form_first = refl

no_turns : schedule 1 (codes "0 1\n0 0\n") ≡ Err (record { number = 80; place = 4 })
unfolding schedule lines_of entries_from line_read parted fault_from number_in
no_turns = refl

superfluous_zero : schedule 1 (codes "00 1\n") ≡ Err (record { number = 80; place = 0 })
unfolding schedule lines_of entries_from line_read parted fault_from number_in
superfluous_zero = refl

too_wide : schedule 1 (codes "0 4294967296\n") ≡ Err (record { number = 80; place = 0 })
unfolding schedule lines_of entries_from line_read parted fault_from number_in
too_wide = refl

long_hart : schedule 8 (codes "0 1\n123456789012345678901234567890 1\n") ≡ Err (record { number = 81; place = 4 })
unfolding schedule lines_of entries_from line_read parted fault_from number_in
long_hart = refl

many : fault_from 1 1099511627770 (record { line = record { hart = 0; turns = 6; width = 1 }; place = 40 } ∷ []) ≡ None
unfolding fault_from
many = refl

too_many : fault_from 1 1099511627770 (record { line = record { hart = 0; turns = 7; width = 1 }; place = 40 } ∷ []) ≡ Some (record { number = 82; place = 42 })
unfolding fault_from
too_many = refl

range_before_many : fault_from 1 1099511627770 (record { line = record { hart = 1; turns = 7; width = 1 }; place = 40 } ∷ []) ≡ Some (record { number = 81; place = 40 })
unfolding fault_from
range_before_many = refl
