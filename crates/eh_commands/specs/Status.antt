-- The number and the text of each status.
use Rattle.std.specs.Prelude.{ℕ, ◌==◌, List, [], ◌++◌, codes, if◌then◌else◌}
use Rattle.std.specs.Fmt.{decimal}
use Rattle.table_dump.specs.Texts.{hex}
use Rattle.eh_commands.specs.declared.status.Status.{Status}
use Rattle.eh_commands.specs.declared.status.Status.TheVariants.{Done, Usage, SourceRefused, ImageRefused, ScheduleRefused, ReadFault, TooLong, WriteFault, NoMemory, Aborted, Budget, Stack, MachineFault, Undefined, Differs}

-- the exit status of the program
abbrev pub number_of : Status → ℕ
number_of Done = 0
number_of Usage = 1
number_of (SourceRefused number place) = 2
number_of (ImageRefused number place location other) = 3
number_of ReadFault = 4
number_of WriteFault = 5
number_of NoMemory = 6
number_of (ScheduleRefused number place) = 7
number_of TooLong = 8
number_of Aborted = 10
number_of Budget = 11
number_of Stack = 12
number_of (MachineFault kind place) = 13
number_of Undefined = 14
number_of Differs = 15

-- a text with a number and a place behind it
abbrev pub at_place : List ℕ → ℕ → ℕ → List ℕ
at_place text number place = text ++ (decimal number ++ (codes " at " ++ decimal place))

-- the two locations of a table that is not the list of the frames
abbrev pub differing : ℕ → ℕ → ℕ → List ℕ
differing number location other = if number == 59 then codes ", " ++ (hex location ++ (codes " " ++ hex other)) else []

-- what standard error gets, with the name of the file that was read
abbrev pub text_of_status : List ℕ → Status → List ℕ
text_of_status name Usage = codes "ehc: usage\n"
text_of_status name (SourceRefused number place) = at_place (codes "ehc: source refused: ") number place ++ codes "\n"
text_of_status name (ImageRefused number place location other) =
    at_place (codes "ehc: image refused: ") number place ++ (differing number location other ++ codes "\n")
text_of_status name (ScheduleRefused number place) = at_place (codes "ehc: schedule refused: ") number place ++ codes "\n"
text_of_status name ReadFault = codes "ehc: read fault: " ++ name ++ codes "\n"
text_of_status name TooLong = codes "ehc: too long: " ++ name ++ codes "\n"
text_of_status name WriteFault = codes "ehc: write fault\n"
text_of_status name NoMemory = codes "ehc: no memory\n"
text_of_status name status = []
